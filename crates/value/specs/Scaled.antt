-- The value that is shown for a load. Assumes nothing.
use Rattle.std.specs.Prelude.{◌≡◌, ℕ, ◌*◌, ◌≤◌, ℤ, pos, ◌-ℤ◌, ◌*ℤ◌, unsigned_abs}
use Rattle.value.specs.Rounding.{nearest}

-- num of a span, on a scale where the span is n, in whole steps: rounded once, and then times the step
unfoldable pub scaled : ℤ → ℕ → ℤ → ℕ → ℤ
scaled num n span step = nearest (num *ℤ pos n) (span *ℤ pos step) *ℤ pos step

-- a load in 1/16,000 digit, in whole digits
unfoldable pub in_digits : ℤ → ℤ
in_digits load = nearest load (pos 16000)

-- v is a multiple of the step within half a step of num × n / span, and at a half the one farther from zero
pub record Shown (num : ℤ) (n : ℕ) (span : ℤ) (step : ℕ) (v : ℤ) : Type 0 where
  pub multiple : (q : ℤ) × (v ≡ q *ℤ pos step)
  pub close : 2 * unsigned_abs (num *ℤ pos n -ℤ v *ℤ span) ≤ unsigned_abs span * step
  pub away : 2 * unsigned_abs (num *ℤ pos n -ℤ v *ℤ span) ≡ unsigned_abs span * step → unsigned_abs (num *ℤ pos n) ≤ unsigned_abs (v *ℤ span)
