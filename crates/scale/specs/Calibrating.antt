-- Calibrating and taring.
use Rattle.std.specs.Prelude.{ℕ, cond, ℤ, pos, ◌-ℤ◌, ◌*ℤ◌, Some, None, Ok, Err, Option, Result, int_lt, nat_lt}
use Rattle.fault.specs.declared.faults.Fault.{Fault}
use Rattle.fault.specs.declared.causes.Cause.TheVariants.{Malformed, NominalSet, NoDeadLoad, SpanNotPositive}
use Rattle.fault.specs.Faults.{refusal}
use Rattle.bank.specs.Ports.{Port}
use Rattle.bank.specs.Fitting.{mapped_ok}
use Rattle.command.specs.declared.orders.Argument.{Argument}
use Rattle.command.specs.declared.orders.Argument.TheVariants.{Absent, Number, Text}
use Rattle.command.specs.declared.orders.Order.{Order}
use Rattle.scale.specs.declared.answers.Answer.{Answer}
use Rattle.scale.specs.declared.averaging.Averaging.{Averaging}
use Rattle.scale.specs.declared.measuring.Measurement.{Measurement}
use Rattle.scale.specs.declared.state.State.{State}
use Rattle.scale.specs.Answers.{done}
use Rattle.scale.specs.Measuring.{measures, measured_port}
use Rattle.scale.specs.Settings.{with_tare}
use Rattle.scale.specs.States.{with_force, with_pending, calibrated}

-- a scale and its port after a command, and what it says or why it refuses
pub record Acted : Type 0 where
  pub state : State
  pub port : Port
  pub reply : Result Answer Fault

abbrev pub acted : State → Port → Result Answer Fault → Acted
acted s p r = record { state = s; port = p; reply = r }

-- digits in 1/16,000 digit
abbrev pub in_units : ℤ → ℤ
in_units d = d *ℤ pos 16000

abbrev pub load_of : Measurement → ℤ
load_of m = m.load

-- the load of a calibration: entered in digits, or else measured; and the port after it
abbrev pub load_given : ℕ → Averaging → Argument → ℕ → Port → Result ℤ Fault
load_given a v Absent place p = mapped_ok load_of (measures a v p)
load_given a v (Number n) place p = Ok (in_units n)
load_given a v (Text t) place p = Err (refusal Malformed place)

abbrev pub given_port : Averaging → Argument → Port → Port
given_port v Absent p = measured_port v p
given_port v (Number n) p = p
given_port v (Text t) p = p

-- a dead load waits for its full load
abbrev pub keeps : State → Port → Result ℤ Fault → Acted
keeps s p (Err f) = acted s p (Err f)
keeps s p (Ok z) = acted (with_pending s (Some z)) p (Ok done)

-- no calibration while a nominal value is set
abbrev pub dead_loads : ℕ → Order → State → Port → Acted
dead_loads a o s p =
    cond (nat_lt 0 s.force.nominal) (acted s p (Err (refusal NominalSet a)))
    (keeps s (given_port s.force.averaging o.argument p) (load_given a s.force.averaging o.argument o.place p))

-- the span must be above 0
abbrev pub calibrates : ℕ → State → Port → ℤ → Result ℤ Fault → Acted
calibrates a s p d (Err f) = acted s p (Err f)
calibrates a s p d (Ok z) = cond (int_lt d z) (acted (calibrated s d z) p (Ok done)) (acted s p (Err (refusal SpanNotPositive a)))

-- the dead load that waits and a full load are put in force together
abbrev pub full_over : ℕ → Order → State → Port → Option ℤ → Acted
full_over a o s p None = acted s p (Err (refusal NoDeadLoad a))
full_over a o s p (Some d) = calibrates a s (given_port s.force.averaging o.argument p) d (load_given a s.force.averaging o.argument o.place p)

abbrev pub full_loads : ℕ → Order → State → Port → Acted
full_loads a o s p = cond (nat_lt 0 s.force.nominal) (acted s p (Err (refusal NominalSet a))) (full_over a o s p s.pending)

-- the unrounded gross load becomes the tare, and the net weight is shown
abbrev pub tared : State → Port → Result Measurement Fault → Acted
tared s p (Err f) = acted s p (Err f)
tared s p (Ok m) = acted (with_force s (with_tare s.force (m.load -ℤ s.force.dead))) p (Ok done)

abbrev pub tares : ℕ → State → Port → Acted
tares a s p = tared s (measured_port s.force.averaging p) (measures a s.force.averaging p)
