-- The queries that need no gauge.
use Rattle.std.specs.Prelude.{ℕ, pos, Some, None, Ok, Err, Option}
use Rattle.fault.specs.declared.causes.Cause.TheVariants.{UnknownCommand}
use Rattle.fault.specs.Faults.{refusal}
use Rattle.command.specs.declared.orders.Mnemonic.{Mnemonic}
use Rattle.command.specs.declared.orders.Mnemonic.TheVariants.{Cof, Icr, Nov, Rsn, Ldw, Lwt, Tar, Tas, Tav, Msv, Spw, Dpw, Tdd, Res, Esr}
use Rattle.command.specs.declared.orders.Order.{Order}
use Rattle.value.specs.Output.{format_number}
use Rattle.value.specs.Scaled.{in_digits}
use Rattle.value.specs.declared.plain.Plain.TheVariants.{Digit, ThreeDigits, Signed}
use Rattle.scale.specs.declared.answers.Answer.{Answer}
use Rattle.scale.specs.declared.answers.Answer.TheVariants.{Silence, Line, Memory, Value}
use Rattle.scale.specs.declared.state.State.{State}
use Rattle.scale.specs.Choices.{averaging_number, step_value, display_number}
use Rattle.scale.specs.Entries.{Said, said}
use Rattle.scale.specs.States.{with_memory}
use Rattle.scale.specs.Weighing.{tare_ticket}

-- what each query is answered from the settings in force; loads are rounded to whole digits
abbrev pub tells : Mnemonic → State → Option Answer
tells Cof s = Some (Line (ThreeDigits (format_number s.force.format)))
tells Icr s = Some (Line (Digit (averaging_number s.force.averaging)))
tells Nov s = Some (Line (Signed (pos s.force.nominal)))
tells Rsn s = Some (Line (ThreeDigits (step_value s.force.step)))
tells Ldw s = Some (Line (Signed (in_digits s.force.dead)))
tells Lwt s = Some (Line (Signed (in_digits s.force.full)))
tells Tas s = Some (Line (Digit (display_number s.force.display)))
tells Tav s = Some (Value (tare_ticket s.force))
tells Esr s = Some (Memory s.memory)
tells Tar s = None
tells Msv s = None
tells Spw s = None
tells Dpw s = None
tells Tdd s = None
tells Res s = None

-- the fault memory is cleared once it is told
abbrev pub clears : State → Answer → State
clears s Silence = s
clears s (Line p) = s
clears s (Memory m) = with_memory s None
clears s (Value t) = s

abbrev pub asked_for : ℕ → State → Option Answer → Said
asked_for place s None = said s (Err (refusal UnknownCommand place))
asked_for place s (Some x) = said (clears s x) (Ok x)

abbrev pub asks : Order → State → Said
asks o s = asked_for o.place s (tells o.name s)
