-- Measuring: readings of one port as one exact load.
use Rattle.std.specs.Prelude.{ℕ, zero, suc, false, cond, List, [], ◌∷◌, length, drop, ℤ, pos, ◌+ℤ◌, ◌*ℤ◌, Ok, Err, Result, ◌==◌, nat_le}
use Rattle.fault.specs.declared.faults.Fault.{Fault}
use Rattle.fault.specs.declared.causes.Cause.TheVariants.{TooFewReadings}
use Rattle.fault.specs.Faults.{refusal}
use Rattle.bank.specs.declared.reading.Mark.{Mark}
use Rattle.bank.specs.declared.reading.Reading.{Reading}
use Rattle.bank.specs.Readings.{either}
use Rattle.bank.specs.Ports.{Port}
use Rattle.scale.specs.declared.averaging.Averaging.{Averaging}
use Rattle.scale.specs.declared.measuring.Measurement.{Measurement}
use Rattle.scale.specs.Choices.{readings_of, weight_of}

-- what stands at each port, once v is put at p
abbrev pub put_port : (ℕ → Port) → ℕ → Port → ℕ → Port
put_port m p v k = cond (k == p) v (m k)

-- a port without its first n readings
abbrev pub dropped : ℕ → Port → Port
dropped n p = record { gauges = p.gauges; waiting = drop n p.waiting }

-- n readings wait, or too few
abbrev pub enough_for : ℕ → ℕ → Port → Result (Unit {0}) Fault
enough_for a n p = cond (nat_le n (length p.waiting)) (Ok tt) (Err (refusal TooFewReadings a))

-- no gauge overdriven
abbrev pub clear : Mark
clear = record { overdriven = false }

-- the first n loads added
unfoldable pub summed : ℕ → List Reading → ℤ
summed zero xs = pos 0
summed (suc n) [] = pos 0
summed (suc n) (x ∷ xs) = x.load +ℤ summed n xs

-- the first n marks as one
unfoldable pub marks : ℕ → List Reading → Mark
marks zero xs = clear
marks (suc n) [] = clear
marks (suc n) (x ∷ xs) = either x.mark (marks n xs)

-- the first n readings as one
abbrev pub sums : ℕ → List Reading → Reading
sums n xs = record { load = summed n xs; mark = marks n xs }

-- a sum with one reading more
abbrev pub one_more : Reading → Reading → Reading
one_more s x = record { load = s.load +ℤ x.load; mark = either s.mark x.mark }

-- the measurement that a sum makes: times 16 over the number of readings, in 1/16,000 digit
abbrev pub mean_of : Reading → Averaging → Measurement
mean_of s v = record { load = s.load *ℤ weight_of v; mark = s.mark }

-- a measurement of the first readings that wait
abbrev pub measurement : Averaging → List Reading → Measurement
measurement v xs = mean_of (sums (readings_of v) xs) v

-- a measurement of the port of address a, and the port after it; too few readings are refused, and none is taken
abbrev pub measures : ℕ → Averaging → Port → Result Measurement Fault
measures a v p = cond (nat_le (readings_of v) (length p.waiting)) (Ok (measurement v p.waiting)) (Err (refusal TooFewReadings a))

abbrev pub measured_port : Averaging → Port → Port
measured_port v p = cond (nat_le (readings_of v) (length p.waiting)) (dropped (readings_of v) p) p
