-- Which values fit a format, and what stands in for one that does not. Assumes nothing.
use Rattle.std.specs.Prelude.{◌≡◌, ℕ, Bool, true, cond, ◌&&◌, List, ℤ, pos, int_lt, nat_le}
use Rattle.value.specs.declared.limits.Limits.{Limits}

-- a value fits strictly between the two overflow values, and none does where the nominal value is above its ceiling
abbrev pub fits : Limits → ℕ → ℤ → Bool
fits l nominal v = nat_le nominal l.ceiling && (int_lt l.lower v && int_lt v l.upper)

-- the value itself where it fits, else the overflow value on its side of zero
abbrev pub indicated : Limits → ℕ → ℤ → ℤ
indicated l nominal v = cond (fits l nominal v) v (cond (int_lt v (pos 0)) l.lower l.upper)

-- A value that fits shares its bytes with no other value, whether that one fits or not, at one nominal value, address and status.
-- So two values that fit never give the same bytes.
abbrev pub Apart : Limits → (ℕ → ℕ → ℤ → List ℕ) → Type 0
Apart l f =
    (nominal address status : ℕ) (v w : ℤ) → fits l nominal v ≡ true → f address status (indicated l nominal v) ≡ f address status (indicated l nominal w) → v ≡ w
