-- A number in so many figures. Assumes nothing.
use Rattle.std.specs.Prelude.{ℕ, ◌-◌, ◌%◌, ◌^◌, List, ◌∷◌, ℤ, pos, negsuc, unsigned_abs}
pub use Rattle.figures.specs.Figures.{figures, digits}

-- two's complement: a number below 0 is counted back from the modulus
abbrev pub twos : ℕ → ℤ → ℕ
twos m (pos n) = n % m
twos m (negsuc n) = m - 1 - n % m

-- w bytes of two's complement, the high one first
abbrev pub complement : ℕ → ℤ → List ℕ
complement w v = figures 256 w (twos (256 ^ w) v)

-- '-' below 0, else '+'
abbrev pub sign : ℤ → ℕ
sign (pos n) = 43
sign (negsuc n) = 45

-- the sign and w digits
abbrev pub signed : ℕ → ℤ → List ℕ
signed w v = sign v ∷ digits w (unsigned_abs v)
