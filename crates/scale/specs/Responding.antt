-- What a scale does with one command, before a refusal is remembered.
use Rattle.std.specs.Prelude.{ℕ, List, [], None, Ok, Err, Result}
use Rattle.fault.specs.declared.faults.Fault.{Fault}
use Rattle.bank.specs.Ports.{Port}
use Rattle.command.specs.declared.orders.Heard.{Heard}
use Rattle.command.specs.declared.orders.Heard.TheVariants.{Blank, Select, Command}
use Rattle.command.specs.declared.orders.Order.{Order}
use Rattle.value.specs.Plain.{plain_text, line}
use Rattle.value.specs.declared.plain.Plain.TheVariants.{Done}
use Rattle.scale.specs.declared.answers.Answer.{Answer}
use Rattle.scale.specs.declared.answers.Answer.TheVariants.{Silence}
use Rattle.scale.specs.declared.answers.Entered.{Entered}
use Rattle.scale.specs.declared.answers.Entered.TheVariants.{Answered, Silent}
use Rattle.scale.specs.declared.modes.Mode.{Mode}
use Rattle.scale.specs.declared.modes.Mode.TheVariants.{Selected, Broadcast}
use Rattle.scale.specs.declared.state.State.{State}
use Rattle.scale.specs.Answers.{answer_bytes, done}
use Rattle.scale.specs.Calibrating.{Acted, acted, dead_loads, full_loads, tares}
use Rattle.scale.specs.Entries.{Said}
use Rattle.scale.specs.Hearing.{Step, by_form, held_answer, obeys}
use Rattle.scale.specs.Orders.{Task, KeepDead, SetFull, Tare, Weigh, Plain}
use Rattle.scale.specs.States.{with_held}

-- an entry that was obeyed: its answer, and the bytes of that
abbrev pub answer_of : Entered → Answer
answer_of Answered = done
answer_of Silent = Silence

abbrev pub entered_bytes : Entered → List ℕ
entered_bytes Answered = line (plain_text Done)
entered_bytes Silent = []

-- any other order, and its answer
abbrev pub beside : Port → Said → Acted
beside p x = acted x.state p x.reply

-- what an order that asks for no values does; for values it is never used
abbrev pub acts : Task → ℕ → Order → State → Port → Acted
acts KeepDead a o s p = dead_loads a o s p
acts SetFull a o s p = full_loads a o s p
acts Tare a o s p = tares a s p
acts Weigh a o s p = beside p (by_form o.form a o s)
acts Plain a o s p = beside p (by_form o.form a o s)

-- a select hands out the held value once; the broadcast select leaves it
abbrev pub handed : Mode → ℕ → State → Port → Step
handed Selected a s p = record { state = with_held s None; port = p; reply = Ok (answer_bytes a (held_answer s.held)) }
handed Broadcast a s p = record { state = s; port = p; reply = Ok [] }

abbrev pub responds : Mode → ℕ → Result Heard Fault → State → Port → Step
responds m a (Err f) s p = record { state = s; port = p; reply = Err f }
responds m a (Ok Blank) s p = record { state = s; port = p; reply = Ok [] }
responds m a (Ok (Select n)) s p = handed m a s p
responds m a (Ok (Command o)) s p = obeys m a o s p
