-- What an order asks of a scale.
use Rattle.std.specs.Prelude.{ℕ, Bool, true, false, cond, ℤ, pos, negsuc, Ok, Err, Result}
use Rattle.fault.specs.declared.faults.Fault.{Fault}
use Rattle.fault.specs.declared.causes.Cause.TheVariants.{Malformed, OutOfRange}
use Rattle.fault.specs.Faults.{refusal}
use Rattle.command.specs.Conditions.{query_admits}
use Rattle.command.specs.declared.orders.Argument.{Argument}
use Rattle.command.specs.declared.orders.Argument.TheVariants.{Absent, Number, Text}
use Rattle.command.specs.declared.orders.Form.{Form}
use Rattle.command.specs.declared.orders.Form.TheVariants.{Entry, Query}
use Rattle.command.specs.declared.orders.Mnemonic.{Mnemonic}
use Rattle.command.specs.declared.orders.Mnemonic.TheVariants.{Cof, Icr, Nov, Rsn, Ldw, Lwt, Tar, Tas, Tav, Msv, Spw, Dpw, Tdd, Res, Esr}
use Rattle.command.specs.declared.texts.Text.{Text as TheText}

-- what needs the gauges: the two calibrations, taring and weighing; and all else
pub data Task : Type 0 where
  KeepDead : Task
  SetFull : Task
  Tare : Task
  Weigh : Task
  Plain : Task

abbrev pub entry_task : Mnemonic → Task
entry_task Ldw = KeepDead
entry_task Lwt = SetFull
entry_task Tar = Tare
entry_task Cof = Plain
entry_task Icr = Plain
entry_task Nov = Plain
entry_task Rsn = Plain
entry_task Tas = Plain
entry_task Tav = Plain
entry_task Msv = Plain
entry_task Spw = Plain
entry_task Dpw = Plain
entry_task Tdd = Plain
entry_task Res = Plain
entry_task Esr = Plain

abbrev pub query_task : Mnemonic → Task
query_task Msv = Weigh
query_task Cof = Plain
query_task Icr = Plain
query_task Nov = Plain
query_task Rsn = Plain
query_task Ldw = Plain
query_task Lwt = Plain
query_task Tar = Plain
query_task Tas = Plain
query_task Tav = Plain
query_task Spw = Plain
query_task Dpw = Plain
query_task Tdd = Plain
query_task Res = Plain
query_task Esr = Plain

-- the entries of a dead load, a full load and a tare, and the query of measured values need the gauges
abbrev pub task_of : Form → Mnemonic → Task
task_of Entry n = entry_task n
task_of Query n = query_task n

-- whether values are to be measured
abbrev pub for_values : Task → Bool
for_values KeepDead = false
for_values SetFull = false
for_values Tare = false
for_values Weigh = true
for_values Plain = false

abbrev pub number_in : Argument → ℕ → Result ℤ Fault
number_in Absent place = Err (refusal Malformed place)
number_in (Number n) place = Ok n
number_in (Text t) place = Err (refusal Malformed place)

abbrev pub text_in : Argument → ℕ → Result TheText Fault
text_in Absent place = Err (refusal Malformed place)
text_in (Number n) place = Err (refusal Malformed place)
text_in (Text t) place = Ok t

-- so many values as the table admits
abbrev pub few : ℤ → ℕ → Result ℕ Fault
few (pos n) place = cond (query_admits Msv (pos n)) (Ok n) (Err (refusal OutOfRange place))
few (negsuc n) place = Err (refusal OutOfRange place)

-- how many values are asked for: one where nothing is said
abbrev pub block_size : Argument → ℕ → Result ℕ Fault
block_size Absent place = Ok 1
block_size (Number n) place = few n place
block_size (Text t) place = Err (refusal Malformed place)
