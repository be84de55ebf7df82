-- A quotient rounded once, to the nearest whole number. Assumes nothing.
use Rattle.std.specs.Prelude.{◌≡◌, ℕ, suc, ◌+◌, ◌*◌, ◌/◌, ◌≤◌, ℤ, pos, negsuc, ◌-ℤ◌, ◌*ℤ◌, neg_ℤ, unsigned_abs}

-- the nearest whole number to n / d, a half upward; 0 where d is 0
abbrev pub near : ℕ → ℕ → ℕ
near n d = (2 * n + d) / (2 * d)

-- the nearest whole number to num / den on both sides of zero, a half away from it; 0 where den is not above 0
unfoldable pub nearest : ℤ → ℤ → ℤ
nearest (pos n) (pos d) = pos (near n d)
nearest (negsuc n) (pos d) = neg_ℤ (pos (near (suc n) d))
nearest (pos n) (negsuc d) = pos 0
nearest (negsuc n) (negsuc d) = pos 0

-- q is the nearest whole number to num / den: twice its distance is at most the divisor, and at a half it is the one farther from zero
pub record Nearest (num den q : ℤ) : Type 0 where
  pub close : 2 * unsigned_abs (num -ℤ q *ℤ den) ≤ unsigned_abs den
  pub away : 2 * unsigned_abs (num -ℤ q *ℤ den) ≡ unsigned_abs den → unsigned_abs num ≤ unsigned_abs (q *ℤ den)

-- there is such a number, and no other
pub record Rounded (num den q : ℤ) : Type 0 where
  pub meets : Nearest num den q
  pub only : (r : ℤ) → Nearest num den r → r ≡ q
