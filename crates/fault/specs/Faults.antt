-- A refusal as a value.
use Rattle.std.specs.Prelude.{ℕ}
use Rattle.fault.specs.declared.causes.Cause.{Cause}
use Rattle.fault.specs.declared.faults.Fault.{Fault}

-- the refusal for a cause at a place
abbrev pub refusal : Cause → ℕ → Fault
refusal c n = record { cause = c; place = n }
