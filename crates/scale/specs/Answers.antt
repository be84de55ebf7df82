-- The bytes of what a scale says.
use Rattle.std.specs.Prelude.{ℕ, List, [], ◌∷◌}
use Rattle.fault.specs.Memory.{memory_text}
use Rattle.value.specs.Output.{format_block}
use Rattle.value.specs.Plain.{plain_text, line}
use Rattle.value.specs.declared.plain.Plain.TheVariants.{Done}
use Rattle.scale.specs.declared.answers.Answer.{Answer}
use Rattle.scale.specs.declared.answers.Answer.TheVariants.{Silence, Line, Memory, Value}
use Rattle.scale.specs.declared.state.Ticket.{Ticket}

-- a measured value, by the format and the nominal value of its ticket
abbrev pub ticket_bytes : ℕ → Ticket → List ℕ
ticket_bytes a t = format_block t.format t.nominal a (t.measured ∷ [])

-- what the scale at address a writes
abbrev pub answer_bytes : ℕ → Answer → List ℕ
answer_bytes a Silence = []
answer_bytes a (Line p) = line (plain_text p)
answer_bytes a (Memory m) = line (memory_text m)
answer_bytes a (Value t) = ticket_bytes a t

-- a good entry
abbrev pub done : Answer
done = Line Done
