-- A number in so many figures. Assumes nothing.
use Rattle.std.specs.Prelude.{ℕ, zero, suc, ◌+◌, ◌/◌, ◌%◌, ◌^◌, List, [], ◌∷◌, map}

-- the last w figures of n in a base, the high one first
abbrev pub figures : ℕ → ℕ → ℕ → List ℕ
figures base zero n = []
figures base (suc w) n = n / base ^ w % base ∷ figures base w n

-- w decimal digits as text
abbrev pub digits : ℕ → ℕ → List ℕ
digits w n = map (λ d. 48 + d) (figures 10 w n)
