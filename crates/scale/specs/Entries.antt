-- The entries that need no gauge.
use Rattle.std.specs.Prelude.{ℕ, Bool, cond, ℤ, pos, negsuc, Some, None, Ok, Err, Option, Result, ◌==◌}
use Rattle.fault.specs.declared.faults.Fault.{Fault}
use Rattle.fault.specs.declared.causes.Cause.TheVariants.{UnknownCommand, OutOfRange, WrongPassword}
use Rattle.fault.specs.Faults.{refusal}
use Rattle.command.specs.Texts.{same_text}
use Rattle.command.specs.declared.orders.Mnemonic.{Mnemonic}
use Rattle.command.specs.declared.orders.Mnemonic.TheVariants.{Cof, Icr, Nov, Rsn, Ldw, Lwt, Tar, Tas, Tav, Msv, Spw, Dpw, Tdd, Res, Esr}
use Rattle.command.specs.declared.orders.Order.{Order}
use Rattle.command.specs.declared.texts.Text.{Text}
use Rattle.scale.specs.declared.answers.Answer.{Answer}
use Rattle.scale.specs.declared.answers.Answer.TheVariants.{Silence}
use Rattle.scale.specs.declared.settings.Settings.{Settings}
use Rattle.scale.specs.declared.state.State.{State}
use Rattle.scale.specs.Answers.{done}
use Rattle.scale.specs.Entering.{entered}
use Rattle.scale.specs.Orders.{number_in, text_in}
use Rattle.scale.specs.States.{with_force, with_stored, with_opened, relocked, defaulted, restarted}

-- a scale after a command that leaves its port alone, and what it says or why it refuses
pub record Said : Type 0 where
  pub state : State
  pub reply : Result Answer Fault

abbrev pub said : State → Result Answer Fault → Said
said s r = record { state = s; reply = r }

-- a setting is put in force; it is stored by TDD1 only
abbrev pub put_in_force : State → ℕ → Option Settings → Said
put_in_force s place None = said s (Err (refusal OutOfRange place))
put_in_force s place (Some x) = said (with_force s x) (Ok done)

abbrev pub set_by : Order → State → Result ℤ Fault → Said
set_by o s (Err f) = said s (Err f)
set_by o s (Ok n) = put_in_force s o.place (entered s.force o.name n)

abbrev pub sets : Order → State → Said
sets o s = set_by o s (number_in o.argument o.place)

-- the password opens, another text closes
abbrev pub opens : ℕ → State → Bool → Said
opens a s b = said (with_opened s b) (cond b (Ok done) (Err (refusal WrongPassword a)))

abbrev pub unlock_by : ℕ → State → Result Text Fault → Said
unlock_by a s (Err f) = said s (Err f)
unlock_by a s (Ok t) = opens a s (same_text t s.force.password)

abbrev pub unlocks : ℕ → Order → State → Said
unlocks a o s = unlock_by a s (text_in o.argument o.place)

abbrev pub relock_by : State → Result Text Fault → Said
relock_by s (Err f) = said s (Err f)
relock_by s (Ok t) = said (relocked s t) (Ok done)

abbrev pub relocks : Order → State → Said
relocks o s = relock_by s (text_in o.argument o.place)

-- 0 sets the factory values in force and stored, 1 stores the settings in force
abbrev pub default_at : ℕ → State → ℤ → Said
default_at place s (pos n) = cond (n == 0) (said (defaulted s) (Ok done)) (cond (n == 1) (said (with_stored s s.force) (Ok done)) (said s (Err (refusal OutOfRange place))))
default_at place s (negsuc n) = said s (Err (refusal OutOfRange place))

abbrev pub default_by : ℕ → State → Result ℤ Fault → Said
default_by place s (Err f) = said s (Err f)
default_by place s (Ok n) = default_at place s n

abbrev pub defaults : Order → State → Said
defaults o s = default_by o.place s (number_in o.argument o.place)

abbrev pub restarts : State → Said
restarts s = said (restarted s) (Ok Silence)

-- an entry by its name; those that need the gauges, and queries, are no such entries
abbrev pub enters_by : Mnemonic → ℕ → Order → State → Said
enters_by Cof a o s = sets o s
enters_by Icr a o s = sets o s
enters_by Nov a o s = sets o s
enters_by Rsn a o s = sets o s
enters_by Tas a o s = sets o s
enters_by Spw a o s = unlocks a o s
enters_by Dpw a o s = relocks o s
enters_by Tdd a o s = defaults o s
enters_by Res a o s = restarts s
enters_by Ldw a o s = said s (Err (refusal UnknownCommand o.place))
enters_by Lwt a o s = said s (Err (refusal UnknownCommand o.place))
enters_by Tar a o s = said s (Err (refusal UnknownCommand o.place))
enters_by Tav a o s = said s (Err (refusal UnknownCommand o.place))
enters_by Msv a o s = said s (Err (refusal UnknownCommand o.place))
enters_by Esr a o s = said s (Err (refusal UnknownCommand o.place))

abbrev pub enters : ℕ → Order → State → Said
enters a o s = enters_by o.name a o s
