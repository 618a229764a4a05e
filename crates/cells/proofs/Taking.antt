-- A cell taken from the lines.
use Rattle.std.proofs.Common.{◌≡◌, ℕ, suc, ◌+◌, ◌<◌, Bool, true, false, cond, eqb, List, [], ◌∷◌, length, get_or, drop, Some, sym, refl, ap, ◌∙◌, suc-le-suc, zero-le, arith, length-drop}
use Rattle.cells.specs.Cells.{lines, onto, comma, line_feed, placed, cell_at}
use Rattle.cells.specs.Left.{first_cells, open_lines, cells_at, after_at, first, others}
use Rattle.cells.specs.Places.{next_at}
use Rattle.cells.specs.declared.line.Next.TheVariants.{Cell, Line}
use Rattle.cells.specs.declared.line.Next.{Next}
use Rattle.cells.specs.Scans.{front}
use Rattle.std.proofs.lemmas.List.{drop-drop, drop_all, get_or-drop, get_or_past}
use Rattle.std.proofs.lemmas.Bool.Decides.{nat_tests}

onto_some : (b : ℕ) (ls : List (List ℕ)) → 0 < length (onto b ls)
onto_some b [] = suc-le-suc zero-le
onto_some b (l ∷ ls) = suc-le-suc zero-le

lines_some : (b : ℕ) (bs : List ℕ) → 0 < length (lines (b ∷ bs))
lines_some b bs =
    elim (eqb b line_feed) as (λ t. 0 < length (cond t ([] ∷ lines bs) (onto b (lines bs)))) [ true ↦ suc-le-suc zero-le | false ↦ onto_some b (lines bs) ]

-- a byte before the first of some lines
cells_onto : (b : ℕ) (ls : List (List ℕ)) → 0 < length ls → first_cells (onto b ls) ≡ cond (eqb b comma) ([] ∷ first_cells ls) (onto b (first_cells ls))
cells_onto b [] h = absurd (omega arith)
cells_onto b (l ∷ ls) h = refl

others_onto : (b : ℕ) (ls : List (List ℕ)) → 0 < length ls → others (onto b ls) ≡ others ls
others_onto b [] h = absurd (omega arith)
others_onto b (l ∷ ls) h = refl

cells_before : (b : ℕ) (bs : List ℕ) → first_cells (onto b (lines bs)) ≡ cond (eqb b comma) ([] ∷ first_cells (open_lines bs)) (onto b (first_cells (open_lines bs)))
cells_before b [] = refl
cells_before b (c ∷ cs) = cells_onto b (lines (c ∷ cs)) (lines_some c cs)

others_before : (b : ℕ) (bs : List ℕ) → others (onto b (lines bs)) ≡ others (open_lines bs)
others_before b [] = refl
others_before b (c ∷ cs) = others_onto b (lines (c ∷ cs)) (lines_some c cs)

-- what follows a cell, from the byte after its end on: cells of the line after a comma, else other lines
abbrev cells_after : Bool → List ℕ → List (List ℕ)
cells_after true bs = first_cells (open_lines bs)
cells_after false bs = []

abbrev lines_from : Bool → List ℕ → List (List ℕ)
lines_from true bs = others (open_lines bs)
lines_from false bs = lines bs

-- the front is the first cell, and the byte after it says what follows
pub record Taken (bs : List ℕ) : Type 0 where
  pub texts : first_cells (open_lines bs) ≡ front bs ∷ cells_after (eqb (get_or bs (length (front bs)) 0) comma) (drop (suc (length (front bs))) bs)
  pub after : others (open_lines bs) ≡ lines_from (eqb (get_or bs (length (front bs)) 0) comma) (drop (suc (length (front bs))) bs)

more_texts : (b : ℕ) (bs : List ℕ) → Taken bs → first_cells (open_lines (b ∷ bs)) ≡ front (b ∷ bs) ∷ cells_after (eqb (get_or (b ∷ bs) (length (front (b ∷ bs))) 0) comma) (drop (suc (length (front (b ∷ bs)))) (b ∷ bs))
more_texts b bs o = let c = cells_before b bs in let t = o.texts in grind (arith, nat_tests)

more_after : (b : ℕ) (bs : List ℕ) → Taken bs → others (open_lines (b ∷ bs)) ≡ lines_from (eqb (get_or (b ∷ bs) (length (front (b ∷ bs))) 0) comma) (drop (suc (length (front (b ∷ bs)))) (b ∷ bs))
more_after b bs o = let c = others_before b bs in let t = o.after in grind (arith, nat_tests)

pub taken : (bs : List ℕ) → Taken bs
taken [] = record { texts = refl; after = refl }
taken (b ∷ bs) = record { texts = more_texts b bs (taken bs); after = more_after b bs (taken bs) }

-- a cell or a line that starts there
abbrev pick : Bool → ℕ → Next
pick b k = cond b (Cell k) (Line k)

cells_pick : (b : Bool) (k : ℕ) (bs : List ℕ) → cells_at (pick b k) bs ≡ placed k (cells_after b (drop k bs))
cells_pick true k bs = refl
cells_pick false k bs = refl

after_pick : (b : Bool) (k : ℕ) (bs : List ℕ) → after_at (pick b k) bs ≡ lines_from b (drop k bs)
after_pick true k bs = refl
after_pick false k bs = refl

-- the same at a place of the bytes, where e is the end of the cell
module _ (bs : List ℕ) (at e : ℕ) (h : e ≡ at + length (front (drop at bs))) where
  here : get_or (drop at bs) (length (front (drop at bs))) 0 ≡ get_or bs e 0
  here = get_or-drop at bs (length (front (drop at bs))) 0 ∙ ap (λ k. get_or bs k 0) (sym h)

  place : at + length (front (drop at bs)) + 1 ≡ e + 1
  place = ap (λ k. k + 1) (sym h)

  rest : drop (suc (length (front (drop at bs)))) (drop at bs) ≡ drop (e + 1) bs
  rest = drop-drop (suc (length (front (drop at bs)))) at bs ∙ ap (λ k. drop k bs) (let k : at + suc (length (front (drop at bs))) ≡ e + 1 = omega arith in k)

  -- the cells after it, each with its place, and the lines
  cells_there : others (placed at (first_cells (open_lines (drop at bs)))) ≡ placed (e + 1) (cells_after (eqb (get_or bs e 0) comma) (drop (e + 1) bs))
  cells_there = ap (λ ts. others (placed at ts)) (taken (drop at bs)).texts ∙ (λ t. placed (place t) (cells_after (eqb (here t) comma) (rest t)))

  lines_there : others (open_lines (drop at bs)) ≡ lines_from (eqb (get_or bs e 0) comma) (drop (e + 1) bs)
  lines_there = (taken (drop at bs)).after ∙ (λ t. lines_from (eqb (here t) comma) (rest t))

  pub cell_first : first (placed at (first_cells (open_lines (drop at bs)))) ≡ Some (cell_at at (front (drop at bs)))
  cell_first = ap (λ ts. first (placed at ts)) (taken (drop at bs)).texts

  pub cells_next : cells_at (next_at bs e) bs ≡ others (placed at (first_cells (open_lines (drop at bs))))
  cells_next =
      let t = cells_there in
      let p = cells_pick (eqb (get_or bs e 0) comma) (e + 1) bs in
      let past = get_or_past bs e 0 in
      grind (arith, nat_tests)

  pub after_next : after_at (next_at bs e) bs ≡ others (open_lines (drop at bs))
  after_next =
      let t = lines_there in
      let p = after_pick (eqb (get_or bs e 0) comma) (e + 1) bs in
      let past = get_or_past bs e 0 in
      let none = drop_all (length bs) bs (omega arith) in
      let none_after = drop_all (e + 1) bs in
      grind (arith, nat_tests)

some : (bs : List ℕ) → 0 < length bs → open_lines bs ≡ lines bs
some [] h = absurd (omega arith)
some (b ∷ bs) h = refl

-- where a byte is left, the line that is open is the first of the lines
pub open_at : (bs : List ℕ) (at : ℕ) → at < length bs → open_lines (drop at bs) ≡ lines (drop at bs)
open_at bs at h = some (drop at bs) (omega (arith, length-drop at bs))
