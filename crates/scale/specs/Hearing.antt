-- What one scale does with one command, on its own state and port.
use Rattle.std.specs.Prelude.{◌≡◌, ℕ, ◌≤◌, cond, not, ◌&&◌, List, [], length, Some, None, Ok, Err, Option, Result, nat_lt}
use Rattle.fault.specs.declared.faults.Fault.{Fault}
use Rattle.fault.specs.declared.causes.Cause.TheVariants.{ShortBuffer, PasswordClosed}
use Rattle.fault.specs.Faults.{refusal}
pub use Rattle.bank.specs.Addresses.{number_of}
use Rattle.bank.specs.Ports.{Port}
use Rattle.bank.specs.Fitting.{mapped_ok}
use Rattle.command.specs.Conditions.{needs_password, broadcast_of}
use Rattle.command.specs.declared.orders.Form.{Form}
use Rattle.command.specs.declared.orders.Form.TheVariants.{Entry, Query}
use Rattle.command.specs.declared.orders.Heard.{Heard}
use Rattle.command.specs.declared.orders.Heard.TheVariants.{Blank, Select, Command}
use Rattle.command.specs.declared.orders.Order.{Order}
use Rattle.value.specs.Plain.{plain_text, line}
use Rattle.value.specs.declared.plain.Plain.TheVariants.{Refused}
use Rattle.scale.specs.declared.answers.Answer.{Answer}
use Rattle.scale.specs.declared.answers.Answer.TheVariants.{Silence, Value}
use Rattle.scale.specs.declared.modes.Mode.{Mode}
use Rattle.scale.specs.declared.modes.Mode.TheVariants.{Selected, Broadcast}
use Rattle.scale.specs.declared.state.State.{State}
use Rattle.scale.specs.declared.state.Ticket.{Ticket}
use Rattle.scale.specs.Answers.{answer_bytes}
use Rattle.scale.specs.Blocks.{blocks, block_port, holding, refused_or}
use Rattle.scale.specs.Calibrating.{Acted, dead_loads, full_loads, tares}
use Rattle.scale.specs.Entries.{Said, enters}
use Rattle.scale.specs.Measuring.{measures, measured_port}
use Rattle.scale.specs.Orders.{Task, KeepDead, SetFull, Tare, Weigh, Plain, task_of, block_size}
use Rattle.scale.specs.Queries.{asks}
use Rattle.scale.specs.States.{with_held, with_memory}

-- a scale and its port after an order, and the bytes of its answer or why it refuses
pub record Step : Type 0 where
  pub state : State
  pub port : Port
  pub reply : Result (List ℕ) Fault

-- in a broadcast nobody answers
abbrev pub in_mode : {A : Type 0} → Mode → A → A → A
in_mode Selected x y = x
in_mode Broadcast x y = y

abbrev pub voiced : Mode → ℕ → Answer → List ℕ
voiced m a x = in_mode m (answer_bytes a x) []

-- an order that needs the gauges, and one that leaves the port alone
abbrev pub spoken : Mode → ℕ → Acted → Step
spoken m a x = record { state = x.state; port = x.port; reply = mapped_ok (voiced m a) x.reply }

abbrev pub aside : Mode → ℕ → Port → Said → Step
aside m a p x = record { state = x.state; port = p; reply = mapped_ok (voiced m a) x.reply }

-- so many values are measured and answered; in a broadcast one is measured and held
abbrev pub weighs : Mode → ℕ → State → Port → Result ℕ Fault → Step
weighs m a s p (Err f) = record { state = s; port = p; reply = Err f }
weighs Selected a s p (Ok k) = record { state = s; port = block_port k s.force p; reply = blocks a k s.force p }
weighs Broadcast a s p (Ok k) = record {
  state = holding s (measures a s.force.averaging p);
  port = measured_port s.force.averaging p;
  reply = refused_or (measures a s.force.averaging p);
}

abbrev pub by_form : Form → ℕ → Order → State → Said
by_form Entry a o s = enters a o s
by_form Query a o s = asks o s

abbrev pub by_task : Task → Mode → ℕ → Order → State → Port → Step
by_task KeepDead m a o s p = spoken m a (dead_loads a o s p)
by_task SetFull m a o s p = spoken m a (full_loads a o s p)
by_task Tare m a o s p = spoken m a (tares a s p)
by_task Weigh m a o s p = weighs m a s p (block_size o.argument o.place)
by_task Plain m a o s p = aside m a p (by_form o.form a o s)

-- an order as a mode hears it
abbrev pub in_order : Mode → Order → Result Order Fault
in_order Selected o = Ok o
in_order Broadcast o = broadcast_of o

-- a command that needs the password is refused while the scale is closed
abbrev pub permitted : ℕ → State → Order → Result Order Fault
permitted a s o = cond (needs_password o && not s.opened) (Err (refusal PasswordClosed a)) (Ok o)

abbrev pub permitted_by : ℕ → State → Result Order Fault → Result Order Fault
permitted_by a s (Err f) = Err f
permitted_by a s (Ok o) = permitted a s o

abbrev pub admitted : Mode → ℕ → State → Order → Result Order Fault
admitted m a s o = permitted_by a s (in_order m o)

abbrev pub obeys_by : Mode → ℕ → State → Port → Result Order Fault → Step
obeys_by m a s p (Err f) = record { state = s; port = p; reply = Err f }
obeys_by m a s p (Ok o) = by_task (task_of o.form o.name) m a o s p

-- an order is admitted first, and then obeyed
unfoldable pub obeys : Mode → ℕ → Order → State → Port → Step
obeys m a o s p = obeys_by m a s p (admitted m a s o)

-- a scale and its port after a command, the bytes of its answer, and the fault that it returns
pub record Outcome : Type 0 where
  pub state : State
  pub port : Port
  pub says : List ℕ
  pub fault : Option Fault

-- a refusal is remembered; only the selected scale tells of it, by `?`
abbrev pub refused : Mode → Fault → State → Port → Outcome
refused m f s p = record { state = with_memory s (Some f); port = p; says = in_mode m (line (plain_text Refused)) []; fault = in_mode m (Some f) None }

abbrev pub settled : Mode → State → Port → Result (List ℕ) Fault → Outcome
settled m s p (Err f) = refused m f s p
settled m s p (Ok bytes) = record { state = s; port = p; says = bytes; fault = None }

-- a select hands out the held value once; the broadcast select leaves it
abbrev pub held_answer : Option Ticket → Answer
held_answer None = Silence
held_answer (Some t) = Value t

abbrev pub selected : Mode → ℕ → State → Port → Outcome
selected Selected a s p = record { state = with_held s None; port = p; says = answer_bytes a (held_answer s.held); fault = None }
selected Broadcast a s p = record { state = s; port = p; says = []; fault = None }

abbrev pub ordered_by : Mode → Step → Outcome
ordered_by m x = settled m x.state x.port x.reply

abbrev pub ordered : Mode → ℕ → Order → State → Port → Outcome
ordered m a o s p = ordered_by m (obeys m a o s p)

unfoldable pub hears : Mode → ℕ → Result Heard Fault → State → Port → Outcome
hears m a (Err f) s p = refused m f s p
hears m a (Ok Blank) s p = record { state = s; port = p; says = []; fault = None }
hears m a (Ok (Select n)) s p = selected m a s p
hears m a (Ok (Command o)) s p = ordered m a o s p

-- a buffer under 1,088 bytes is refused first
abbrev pub within : ℕ → Mode → ℕ → Result Heard Fault → State → Port → Outcome
within room m a h s p = cond (nat_lt room 1088) (record { state = s; port = p; says = []; fault = Some (refusal ShortBuffer room) }) (hears m a h s p)

-- no answer is longer than 1,088 bytes
abbrev pub Brief : Type 0
Brief = (m : Mode) (a : ℕ) (h : Result Heard Fault) (s : State) (p : Port) → length (hears m a h s p).says ≤ 1088

-- in a broadcast nobody answers
abbrev pub Silent : Type 0
Silent = (a : ℕ) (h : Result Heard Fault) (s : State) (p : Port) → (hears Broadcast a h s p).says ≡ []
