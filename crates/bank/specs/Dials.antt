-- What a table of dials means.
use Rattle.std.specs.Prelude.{ℕ, ◌-◌, cond, ◌≤◌, ◌&&◌, List, length, get_or, replicate, ℤ, pos, Ok, Option, Result, ◌==◌, nat_le, slice_index_or}
use Rattle.std.proofs.Common.{arith}
use Rattle.std.proofs.lemmas.List.{length-replicate}
use Rattle.fault.specs.declared.faults.Fault.{Fault}
use Rattle.bank.specs.declared.dial.Dial.{Dial}
use Rattle.bank.specs.Ports.{Port, ranged}
use Rattle.bank.specs.Gauges.{fitted}

-- what a dial is set to: its digits, and how often they are still given
pub record Setting : Type 0 where
  pub digits : ℤ
  pub conversions : ℕ

abbrev pub still : Dial
still = record { digits = pos 0; conversions = 0; short = omega arith }

abbrev pub setting_of : Dial → Setting
setting_of d = record { digits = d.digits; conversions = d.conversions }

abbrev pub setting_at : List Dial → ℕ → Setting
setting_at ds p = setting_of (slice_index_or ds p still)

-- the settings of new dials
abbrev pub still_at : ℕ → Setting
still_at p = record { digits = pos 0; conversions = 0 }

-- what setting answers, and the settings after it
abbrev pub placed : ℕ → Result (Unit {0}) Fault
placed p = ranged p (Ok tt)

abbrev pub set_at : (ℕ → Setting) → ℕ → Setting → ℕ → Setting
set_at s p t k = cond (nat_le p 31 && k == p) t (s k)

-- a setting after one conversion
abbrev pub spent : Setting → Setting
spent t = record { digits = t.digits; conversions = t.conversions - 1 }

-- the same digits are given as often as conversions are left
abbrev pub given : (ℕ → Setting) → ℕ → List ℤ
given s p = replicate (s p).conversions (s p).digits

-- they wait, where a gauge is fitted
abbrev pub dialled : (ℕ → Option ℕ) → (ℕ → Setting) → ℕ → Port
dialled f s = fitted f (given s)

pub given_short : (ds : List Dial) (p : ℕ) → length (given (setting_at ds) p) ≤ 65535
given_short ds p = rw length-replicate (get_or ds p still).short
