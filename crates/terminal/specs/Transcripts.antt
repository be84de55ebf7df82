-- The transcript of commands, and what of it reaches one scale.
use Rattle.std.specs.Prelude.{ℕ, Bool, List, [], ◌∷◌, ◌++◌, map, Some, None, Option}
use Rattle.command.specs.Readings.{reading}
use Rattle.scale.specs.declared.modes.Mode.{Mode}
use Rattle.terminal.specs.Ears.{Ear, nobody, turned, reach}
use Rattle.terminal.specs.Buses.{Bus, present, after, reply}

-- a command that was obeyed, the bytes written for it, and which scales were present then
pub record Line : Type 0 where
  pub order : List ℕ
  pub answer : List ℕ
  pub here : ℕ → Bool

abbrev pub lines : Bus → List (List ℕ) → List Line
lines b [] = []
lines b (t ∷ ts) = record { order = t; answer = (reply b t).says; here = λ a. present (b.ports a) } ∷ lines (after b t) ts

-- the bytes written for these commands, one answer after another
abbrev pub said : List Line → List ℕ
said [] = []
said (l ∷ ls) = l.answer ++ said ls

abbrev pub if_reached : {X : Type 0} → Option Mode → X → List X → List X
if_reached None x xs = xs
if_reached (Some m) x xs = x ∷ xs

-- The lines that reach the scale a, when e listens before the first: a select that calls it and any other command
-- while it listens, if it is present then. Who listens is known from the selects alone.
abbrev pub reaching : ℕ → Ear → List Line → List Line
reaching a e [] = []
reaching a e (l ∷ ls) = if_reached (reach e (reading l.order) a (l.here a)) l (reaching a (turned e (reading l.order)) ls)

-- the commands that reach the scale a in a transcript that a new terminal begins, and its answer to each
abbrev pub heard : ℕ → List Line → List (List ℕ)
heard a ls = map (λ l. l.order) (reaching a nobody ls)

abbrev pub voiced : ℕ → List Line → List (List ℕ)
voiced a ls = map (λ l. l.answer) (reaching a nobody ls)
