-- Weighing: measured values one after another, and a value held for later.
use Rattle.std.specs.Prelude.{ℕ, zero, suc, ◌*◌, cond, List, [], ◌∷◌, length, drop, Some, Ok, Err, Result, nat_le}
use Rattle.fault.specs.declared.faults.Fault.{Fault}
use Rattle.fault.specs.declared.causes.Cause.TheVariants.{TooFewReadings}
use Rattle.fault.specs.Faults.{refusal}
use Rattle.bank.specs.declared.reading.Reading.{Reading}
use Rattle.bank.specs.Ports.{Port}
use Rattle.value.specs.Output.{format_block}
use Rattle.value.specs.Written.{written}
use Rattle.value.specs.declared.block.Measured.{Measured}
use Rattle.scale.specs.declared.measuring.Measurement.{Measurement}
use Rattle.scale.specs.declared.settings.Settings.{Settings}
use Rattle.scale.specs.declared.state.State.{State}
use Rattle.scale.specs.declared.state.Ticket.{Ticket}
use Rattle.scale.specs.Choices.{readings_of}
use Rattle.scale.specs.Measuring.{dropped, measurement}
use Rattle.scale.specs.States.{with_held}
use Rattle.scale.specs.Weighing.{weighed}

-- k weighings one after another, each of the readings that the one before has left
unfoldable pub weighings : Settings → ℕ → List Reading → List Measured
weighings s zero xs = []
weighings s (suc k) xs = weighed s (measurement s.averaging xs) ∷ weighings s k (drop (readings_of s.averaging) xs)

-- how many readings k values take
abbrev pub readings_for : Settings → ℕ → ℕ
readings_for s k = k * readings_of s.averaging

-- a block of k values from the scale at address a; where too few readings wait for all of them it is refused, and none is taken
abbrev pub blocks : ℕ → ℕ → Settings → Port → Result (List ℕ) Fault
blocks a k s p =
    cond (nat_le (readings_for s k) (length p.waiting)) (Ok (format_block s.format s.nominal a (weighings s k p.waiting))) (Err (refusal TooFewReadings a))

abbrev pub block_port : ℕ → Settings → Port → Port
block_port k s p = cond (nat_le (readings_for s k) (length p.waiting)) (dropped (readings_for s k) p) p

-- a buffer after an answer was written, or nothing because it was refused
abbrev pub written_by : List ℕ → Result (List ℕ) Fault → List ℕ
written_by before (Ok bytes) = written before bytes
written_by before (Err f) = before

-- one value is held, with the format and the nominal value of the moment
abbrev pub ticket_of : Settings → Measurement → Ticket
ticket_of s m = record { measured = weighed s m; format = s.format; nominal = s.nominal }

abbrev pub holding : State → Result Measurement Fault → State
holding s (Ok m) = with_held s (Some (ticket_of s.force m))
holding s (Err f) = s

abbrev pub refused_or : {A : Type 0} → Result A Fault → Result (List ℕ) Fault
refused_or (Ok x) = Ok []
refused_or (Err f) = Err f
