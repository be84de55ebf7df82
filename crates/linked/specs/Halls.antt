-- The halls that the linked functions make.
use Rattle.std.specs.Prelude.{ℕ, ◌-◌, cond, ◌&&◌, ◌||◌, List, [], ◌∷◌, length, map, replicate, ℤ, pos, Some, None, Ok, Err, Option, Result, nat_lt, ◌==◌, slice_index_or}
use Rattle.std.specs.Result.{result_and}
use Rattle.fault.specs.Causes.{described}
use Rattle.fault.specs.declared.causes.Cause.{Cause}
use Rattle.fault.specs.declared.causes.Cause.TheVariants.{OutOfRange, PortRange, NinthGauge}
use Rattle.bank.specs.Dials.{Setting, dialled}
use Rattle.bank.specs.Fitting.{mapped_ok}
use Rattle.bank.specs.Gauges.{gauged}
use Rattle.bank.specs.Ports.{Port, none}
use Rattle.bank.specs.declared.record.Record.{Record}
use Rattle.junction.specs.Feeding.{own}
use Rattle.junction.specs.Joins.{refusals}
use Rattle.junction.specs.Piles.{from, pile}
use Rattle.junction.specs.declared.joins.Join.{Join}
use Rattle.terminal.specs.Buses.{silent}
use Rattle.terminal.specs.Serves.{served, answered}

-- a gauge of corner factor 1,000 at each of the first n ports
abbrev pub gauges_to : ℕ → ℕ → Option ℕ
gauges_to n p = cond (nat_lt p n) (Some 1000) None

-- the dials of the first n ports, each with digits of its own and 65,535 conversions
abbrev pub dials_to : List ℤ → ℕ → ℕ → Setting
dials_to ds n p = cond (nat_lt p n) (record { digits = slice_index_or ds p (pos 0); conversions = 65535 }) (record { digits = pos 0; conversions = 0 })

-- a gauge and a dial at port 0 and those after it, as many as there are digits
abbrev pub lined : List ℤ → ℕ → Port
lined ds = dialled (gauges_to (length ds)) (dials_to ds (length ds))

-- the ports 1 to n are joined to port 1, one after another
abbrev pub row : ℕ → List Join
row n = map (λ q. record { below = q; above = 1 }) (from 1 n)

-- a box with that row on a bank that shows m; a refused join would be that of a ninth gauge
abbrev pub joined : (ℕ → Port) → ℕ → Result (ℕ → Port) Cause
joined m n = cond (refusals m own (row n) == 0) (Ok (pile m (row n ∷ []))) (Err NinthGauge)

-- at most 4 boxes, dials at the ports 0 to 31, and joined ports up to 31, of which there is none without a box
abbrev pub in_range : ℕ → ℕ → ℕ → Result (Unit {0}) Cause
in_range boxes ports dials = cond (nat_lt 4 boxes) (Err OutOfRange) (cond (nat_lt 32 dials || (nat_lt 31 ports || (boxes == 0 && nat_lt 0 ports))) (Err PortRange) (Ok tt))

-- so many boxes on a bank that shows m, of which the lowest is joined
abbrev pub boxed_by : ℕ → ℕ → (ℕ → Port) → Result (ℕ → Port) Cause
boxed_by boxes ports m = cond (boxes == 0) (Ok m) (mapped_ok (λ one. pile one (replicate (boxes - 1) [])) (joined m ports))

-- the hall of these dials and boxes, or why there is none
abbrev pub hall : ℕ → ℕ → List ℤ → Result (ℕ → Port) Cause
hall boxes ports ds = result_and (in_range boxes ports (length ds)) (boxed_by boxes ports (lined ds))

-- the digits as records of port 1
abbrev pub recorded : List ℤ → List Record
recorded ds = map (λ d. record { port = 1; digits = d }) ds

-- a recording of these digits at port 1, and a gauge of corner factor 1,000 there
abbrev pub on_tape : List ℤ → ℕ → Port
on_tape ds p = cond (p == 1) (gauged (Some 1000) ds) none

-- the hall of that recording, or why there is none: a recording counts 65,535 records
abbrev pub taped : List ℤ → Result (ℕ → Port) Cause
taped ds = cond (nat_lt 65535 (length ds)) (Err OutOfRange) (Ok (on_tape ds))

-- what a new terminal over a bank that shows m answers to a run, with so much room
abbrev pub spoken : (ℕ → Port) → ℕ → List ℕ → List ℕ
spoken m room run = answered (silent m) (served room (silent m) run)

-- what is answered in a hall; nothing where there is none
abbrev pub played : Result (ℕ → Port) Cause → ℕ → List ℕ → List ℕ
played (Ok m) room run = spoken m room run
played (Err c) room run = []

-- 0, or the number of the cause of a refusal
abbrev pub cause_number : {A : Type 0} → Result A Cause → ℕ
cause_number (Ok x) = 0
cause_number (Err c) = (described c).number

-- how many bytes were written
abbrev pub count_of : Result ℕ Cause → ℕ
count_of (Ok n) = n
count_of (Err c) = 0
