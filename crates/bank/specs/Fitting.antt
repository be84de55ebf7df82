-- The gauges of a bank, by the corner factors that it keeps.
use Rattle.std.specs.Prelude.{ℕ, ◌≤◌, List, length, ℤ, Some, None, Ok, Err, Option, Result, slice_index_or}
use Rattle.std.specs.Option.{option_map}
use Rattle.bank.specs.declared.factor.CornerFactor.{CornerFactor}
use Rattle.bank.specs.Ports.{Sound}
use Rattle.bank.specs.Gauges.{fitted}
use Rattle.bank.specs.GaugeLaws.{Tuned, gauged_sound}

abbrev pub thousandths_of : CornerFactor → ℕ
thousandths_of f = f.thousandths

-- the corner factor of the gauge at port p, if there is one
abbrev pub factor_at : List (Option CornerFactor) → ℕ → Option ℕ
factor_at fs p = option_map thousandths_of (slice_index_or fs p None)

-- a result with the value that it holds, if it holds one, changed by f
abbrev pub mapped_ok : {A B E : Type 0} → (A → B) → Result A E → Result B E
mapped_ok f (Ok x) = Ok (f x)
mapped_ok f (Err e) = Err e

-- a fitted factor is at most 1,500 thousandths
pub tuned_at : (o : Option CornerFactor) → Tuned (option_map thousandths_of o)
tuned_at None = tt
tuned_at (Some c) = c.tuned

-- where few digits are due, a fitted port keeps the limits
pub fitted_sound : (fs : List (Option CornerFactor)) (ds : ℕ → List ℤ) (p : ℕ) → length (ds p) ≤ 65535 → Sound (fitted (factor_at fs) ds p)
fitted_sound fs ds p h = gauged_sound (factor_at fs p) (ds p) (tuned_at (slice_index_or fs p None)) h

-- how many gauges a port has
abbrev pub count_of : Option ℕ → ℕ
count_of None = 0
count_of (Some f) = 1
