-- The laws of runs. Assumes nothing.
use Rattle.std.proofs.Common.{◌≡◌, ℕ, zero, suc, ◌+◌, ◌*◌, ◌/◌, ◌≤◌, true, false, cond, List, [], ◌∷◌, ◌++◌, length, replicate, refl, ap, arith}
use Rattle.std.specs.List.{prefix_len}
use Rattle.member_day.specs.Laws.{Counted}
use Rattle.member_day.specs.Runs.{goes_on, moves, run_from, runs}
use Rattle.member_day.specs.declared.direction.Direction.{Direction}
use Rattle.member_day.specs.declared.direction.Direction.TheVariants.{Level, Over, Under}

-- no run goes on from a level block
pub leading_level : (ds : List Direction) → prefix_len (goes_on Level) ds ≡ 0
leading_level [] = refl
leading_level (d ∷ ds) = refl

-- a stretch of one direction d, which goes on with itself
module _ (d : Direction) (h : goes_on d d ≡ true) where
  leading_same : (k : ℕ) → prefix_len (goes_on d) (replicate k d) ≡ k
  leading_same zero = refl
  leading_same (suc k) = let r = leading_same k in rw h (omega arith)

  rest_same : (k : ℕ) → runs d (replicate k d) ≡ 0
  rest_same zero = refl
  rest_same (suc k) = let r = rest_same k in rw h (omega arith)

  one_same : (k : ℕ) → moves d ≡ 1 → runs Level (replicate k d) ≡ k / 7
  one_same zero e = refl
  one_same (suc k) e = let a = leading_same k in let b = rest_same k in omega arith

no_level : (k : ℕ) → runs Level (replicate k Level) ≡ 0
no_level zero = refl
no_level (suc k) = let a = leading_level (replicate k Level) in let b = no_level k in omega arith

-- a front that stops before b is the same without what follows
stop : (a b : Direction) (es : List Direction) → goes_on a b ≡ false → prefix_len (goes_on a) (b ∷ es) ≡ 0
stop a b es h = rw h

cut_one : (d a b : Direction) (es : List Direction) → goes_on a b ≡ false → prefix_len (goes_on d) (a ∷ (b ∷ es)) ≡ prefix_len (goes_on d) (a ∷ [])
cut_one Level a b es h = refl
cut_one Over Level b es h = refl
cut_one Over Over b es h = rw h
cut_one Over Under b es h = refl
cut_one Under Level b es h = refl
cut_one Under Over b es h = refl
cut_one Under Under b es h = rw h

cut : (d : Direction) (ds : List Direction) (a b : Direction) (es : List Direction) → goes_on a b ≡ false → prefix_len (goes_on d) ((ds ++ (a ∷ [])) ++ (b ∷ es)) ≡ prefix_len (goes_on d) (ds ++ (a ∷ []))
cut d [] a b es h = cut_one d a b es h
cut d (x ∷ ds) a b es h = ap (λ n. cond (goes_on d x) (1 + n) 0) (cut d ds a b es h)

fresh : (a b : Direction) (es : List Direction) → goes_on a b ≡ false → runs a (b ∷ es) ≡ runs Level (b ∷ es)
fresh a b es h = rw h

parted : (x : Direction) (ds : List Direction) (a b : Direction) (es : List Direction) → goes_on a b ≡ false → runs x ((ds ++ (a ∷ [])) ++ (b ∷ es)) ≡ runs x (ds ++ (a ∷ [])) + runs Level (b ∷ es)
parted x [] a b es h =
    let one : run_from x a (b ∷ es) ≡ run_from x a [] = ap (λ n. cond (goes_on x a) 0 (moves a + n)) (stop a b es h) in
    let two = fresh a b es h in
    omega (arith, ap (λ n. n / 7) one)
parted x (d ∷ ds) a b es h =
    let one : run_from x d ((ds ++ (a ∷ [])) ++ (b ∷ es)) ≡ run_from x d (ds ++ (a ∷ [])) = ap (λ n. cond (goes_on x d) 0 (moves d + n)) (cut d ds a b es h) in
    let rest = parted d ds a b es h in
    omega (arith, ap (λ n. n / 7) one)

-- a run takes up its blocks
short : (x : Direction) (ds : List Direction) → 7 * runs x ds + prefix_len (goes_on x) ds ≤ length ds
short x [] = omega arith
short Level (Level ∷ ds) = let r = short Level ds in let z = leading_level ds in omega arith
short Level (Over ∷ ds) = let r = short Over ds in omega arith
short Level (Under ∷ ds) = let r = short Under ds in omega arith
short Over (Level ∷ ds) = let r = short Level ds in let z = leading_level ds in omega arith
short Over (Over ∷ ds) = let r = short Over ds in omega arith
short Over (Under ∷ ds) = let r = short Under ds in omega arith
short Under (Level ∷ ds) = let r = short Level ds in let z = leading_level ds in omega arith
short Under (Over ∷ ds) = let r = short Over ds in omega arith
short Under (Under ∷ ds) = let r = short Under ds in omega arith

pub counted : Counted
counted = record {
  over = λ k. one_same Over refl k refl;
  under = λ k. one_same Under refl k refl;
  level = no_level;
  apart = parted Level;
  few = λ ds. let r = short Level ds in omega arith;
}
