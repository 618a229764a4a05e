-- Lists made place by place, and sums and counts over places. Assumes nothing.
use Rattle.std.specs.Prelude.{ℕ, zero, suc, ◌+◌, Bool, cond, List, map, length}
use Rattle.std.specs.List.{range_with_len}

-- as many numbers as ws has, at each place k the number f k
abbrev pub by_place : List ℕ → (ℕ → ℕ) → List ℕ
by_place ws f = map f (range_with_len 0 (length ws))

-- f 0 + f 1 + .. + f (n - 1)
abbrev pub adds : (ℕ → ℕ) → ℕ → ℕ
adds f zero = 0
adds f (suc n) = adds f n + f n

-- how many of the places below n pass the test
abbrev pub tally : (ℕ → Bool) → ℕ → ℕ
tally test n = adds (λ k. cond (test k) 1 0) n
