-- Calls of a terminal, what each does and returns, and the transcript of them all.
use Rattle.std.specs.Prelude.{ℕ, cond, List, [], ◌∷◌, ◌++◌, length, vec_items, Some, nat_lt}
use Rattle.std.specs.Vec.{with_items_from}
use Rattle.terminal.specs.declared.calls.Call.{Call}
use Rattle.terminal.specs.declared.calls.Call.TheVariants.{Obey, Serve}
use Rattle.terminal.specs.declared.calls.Exchange.{Exchange}
use Rattle.terminal.specs.declared.calls.Outcome.{Outcome}
use Rattle.terminal.specs.declared.calls.Outcome.TheVariants.{Command, Run}
use Rattle.terminal.specs.Buses.{Bus, uttered, returned}
use Rattle.terminal.specs.Serves.{served, afters, report_of}
use Rattle.terminal.specs.Transcripts.{Line, lines, said}

-- a call: one command to obey or a byte run to serve, with the room for its answers
pub data Ask : Type 0 where
  obeying : List ℕ → ℕ → Ask
  serving : List ℕ → ℕ → Ask

abbrev pub asked : Call → ℕ → Ask
asked (Obey t) room = obeying t.now room
asked (Serve t) room = serving t.now room

-- the call of an exchange has all of its buffer as room
abbrev pub ask_of : Exchange → Ask
ask_of x = asked x.call (length (vec_items x.answers))

-- the commands that a call obeys: not one that is refused for its buffer, and of a run those that serving uses up
abbrev pub executed : Bus → Ask → List (List ℕ)
executed b (obeying t room) = cond (nat_lt room 1088) [] (t ∷ [])
executed b (serving t room) = served room b t

-- what it returns
abbrev pub outcome_of : Bus → Ask → Outcome
outcome_of b (obeying t room) = Command (returned (uttered room b t))
outcome_of b (serving t room) = Run (report_of b t (served room b t))

-- its lines of the transcript, and the bus after it
abbrev pub sheet : Bus → Ask → List Line
sheet b a = lines b (executed b a)

abbrev pub next : Bus → Ask → Bus
next b a = afters b (executed b a)

-- An exchange once its call was made: the same call, what it returned, and its buffer, over whose first bytes the
-- answers of its lines were written.
abbrev pub exchanged : Bus → Exchange → Exchange
exchanged b x = record {
  call = x.call;
  answers = with_items_from x.answers 0 (said (sheet b (ask_of x)));
  outcome = Some (outcome_of b (ask_of x));
}

-- all exchanges in order, the bus after all calls, and their transcript
abbrev pub settled : Bus → List Exchange → List Exchange
settled b [] = []
settled b (x ∷ rest) = exchanged b x ∷ settled (next b (ask_of x)) rest

abbrev pub closing : Bus → List Ask → Bus
closing b [] = b
closing b (a ∷ rest) = closing (next b a) rest

abbrev pub transcript : Bus → List Ask → List Line
transcript b [] = []
transcript b (a ∷ rest) = sheet b a ++ transcript (next b a) rest
