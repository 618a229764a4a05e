-- A test of every element of a list, one after the other, and what is given where a test is passed. Assumes nothing.
use Rattle.std.proofs.Common.{◌≡◌, ℕ, ◌+◌, ◌<◌, ◌≤◌, Bool, true, false, ◌&&◌, List, length, get_or, drop, Ok, Err, sym, refl, ap, ◌∙◌, arith}
use Rattle.std.proofs.lemmas.List.{at_drop_more, at_drop_all}
use Rattle.std.specs.Option.{ok_or}
use Rattle.std.specs.Bool.{then_some}
use Rattle.std.specs.List.{list_all}

-- what is given where a test is passed is, where it is asked for, that or the refusal
pub when_got : {X E : Type 0} (b : Bool) (x y : X) (refusal : E) → ok_or (then_some b x) refusal ≡ Ok y → (b ≡ true) × (y ≡ x)
when_got true x y refusal is = (refl, cc)
when_got false x y refusal is = let z : ◌≡◌ {A = ℕ} 0 1 = cc in absurd (omega arith)

pub when_refused : {X E : Type 0} (b : Bool) (x : X) (refusal e : E) → ok_or (then_some b x) refusal ≡ Err e → (b ≡ false) × (e ≡ refusal)
when_refused true x refusal e is = let z : ◌≡◌ {A = ℕ} 0 1 = cc in absurd (omega arith)
when_refused false x refusal e is = (refl, cc)

module _ {X : Type 0} (p : X → Bool) (xs : List X) (i : ℕ) (left : list_all p (drop i xs) ≡ list_all p xs) where
  here : (d : X) → i < length xs → list_all p xs ≡ (p (get_or xs i d) && list_all p (drop (i + 1) xs))
  here d h = sym left ∙ at_drop_more (list_all p) xs i d h

  -- an element that fails ends the test
  pub pass_stop : (d : X) → i < length xs → p (get_or xs i d) ≡ false → list_all p xs ≡ false
  pass_stop d h fails = here d h ∙ ap (λ b. b && list_all p (drop (i + 1) xs)) fails

  -- after one that passes, the test goes on with those left
  pub pass_more : (d : X) → i < length xs → p (get_or xs i d) ≡ true → list_all p (drop (i + 1) xs) ≡ list_all p xs
  pass_more d h passes = sym (here d h ∙ ap (λ b. b && list_all p (drop (i + 1) xs)) passes)

  -- where none is left, all have passed
  pub pass_end : length xs ≤ i → list_all p xs ≡ true
  pass_end h = sym left ∙ at_drop_all (list_all p) xs i h
