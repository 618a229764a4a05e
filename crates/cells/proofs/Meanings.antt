-- What the digits that a cell starts with say of its bytes.
use Rattle.std.proofs.Common.{◌≡◌, ℕ, ◌<◌, ◌≤◌, true, false, ◌&&◌, eqb, ltb, List, length, get_or, take, drop, Some, None, sym, ap, ◌∙◌, ⊎_elim, arith, length-drop}
use Rattle.cells.proofs.Fronts.{front_le, front_take, front_here, front_on}
use Rattle.cells.specs.Cells.{CellShown, cell_at}
use Rattle.cells.specs.Numbers.{Meaning, digits_after, number, other, empty, meaning}
use Rattle.cells.specs.Scans.{is_stop, front, RunOf}
use Rattle.std.proofs.lemmas.Bool.Decides.{nat_tests}
use Rattle.std.proofs.lemmas.List.{nil_from_length}
use Rattle.std.proofs.lemmas.Bool.{cond-false, cases_Bool}

module _ (t : List ℕ) where
  pub means_empty : length t ≡ 0 → empty ≡ meaning t
  means_empty e = grind (arith, nat_tests)

  pub means_zero : (length t ≡ 0 → ⊥) → length t ≤ 10 → (eqb (get_or t 0 0) 48 && ltb 1 (length t)) ≡ true → other ≡ meaning t
  means_zero some few z = grind (arith, nat_tests)

  pub means_number : (length t ≡ 0 → ⊥) → length t ≤ 10 → (v : ℕ) → (eqb (get_or t 0 0) 48 && ltb 1 (length t)) ≡ false → digits_after 0 t ≡ Some v → number v ≡ meaning t
  means_number some few v z d = grind (arith, nat_tests)

  pub means_other : (length t ≡ 0 → ⊥) → (length t ≤ 10 → digits_after 0 t ≡ None) → other ≡ meaning t
  means_other some d = grind (arith, nat_tests)

module _ (bs : List ℕ) (len value : ℕ) (run : RunOf bs len value) where
  -- the digits are all of the cell
  module _ (ends : length (front (drop len bs)) ≡ 0) where
    pub whole : take len bs ≡ front bs
    whole = ap (λ n. take n bs) (let k : len ≡ length (front bs) = omega (arith, run.long, ends) in k) ∙ front_take bs

    pub digits : digits_after 0 (front bs) ≡ Some value
    digits = sym run.same ∙ ap (digits_after value) (nil_from_length (front (drop len bs)) ends)

  -- the cell goes on
  module _ (more : length (front (drop len bs)) ≡ 0 → ⊥) where
    pub no_digits : length (front bs) ≤ 10 → digits_after 0 (front bs) ≡ None
    no_digits few =
        let inside : len < length bs = omega (arith, run.within, more, front_le (drop len bs), length-drop len bs) in
        ⊎_elim
        (λ stop. absurd (more (ap length (front_here bs len inside stop))))
        (λ on. sym run.same ∙ ap (digits_after value) (front_on bs len inside on) ∙ cond-false _ _ None (run.stops (omega (arith, run.long, more, few)) inside))
        (cases_Bool (is_stop (get_or bs len 0)))

-- a cell of these bytes
pub shown_of : (at : ℕ) (bs t : List ℕ) (m : Meaning) → bs ≡ t → m ≡ meaning t → ◌≡◌ {A = CellShown} (record { bytes = bs; start = at; len = length bs; means = m }) (cell_at at t)
shown_of at bs t m b e = (λ i. record { bytes = b i; start = at; len = length (b i); means = e i })
