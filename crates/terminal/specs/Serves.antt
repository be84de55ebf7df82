-- What becomes of a byte run.
use Rattle.std.specs.Prelude.{◌≡◌, ℕ, ◌+◌, ◌-◌, ◌*◌, ◌<◌, ◌≤◌, true, false, cond, List, [], ◌∷◌, ◌++◌, length, drop, Ok, Err, Result, ◌==◌, ◌≢◌, nat_lt}
use Rattle.std.specs.Borrow.{Bor}
use Rattle.std.specs.List.{prefix_len, AllByRecursion}
use Rattle.fault.specs.declared.faults.Fault.{Fault}
use Rattle.command.specs.Cuts.{plain, cut_of}
use Rattle.terminal.specs.declared.answers.Stop.{Stop}
use Rattle.terminal.specs.declared.answers.Stop.TheVariants.{End, NoEnd, ShortBuffer}
use Rattle.terminal.specs.declared.answers.Served.{Served}
use Rattle.terminal.specs.Buses.{Bus, after, reply}

-- b begins the first command
abbrev pub headed : ℕ → List (List ℕ) → List (List ℕ)
headed b [] = []
headed b (t ∷ ts) = (b ∷ t) ∷ ts

-- the commands of a run: those that have an end character
unfoldable pub cut : List ℕ → List (List ℕ)
cut [] = []
cut (b ∷ bs) = cond (plain b) (headed b (cut bs)) ([] ∷ cut bs)

-- of these commands, those that are obeyed before fewer than 1,088 bytes are left for answers
unfoldable pub taken : ℕ → Bus → List (List ℕ) → List (List ℕ)
taken room b [] = []
taken room b (t ∷ ts) = cond (nat_lt room 1088) [] (t ∷ taken (room - length (reply b t).says) (after b t) ts)

-- the commands of a run that serving obeys
abbrev pub served : ℕ → Bus → List ℕ → List (List ℕ)
served room b run = taken room b (cut run)

-- the bus after commands, and all that it says to them, one answer after another
abbrev pub afters : Bus → List (List ℕ) → Bus
afters b [] = b
afters b (t ∷ ts) = afters (after b t) ts

abbrev pub answered : Bus → List (List ℕ) → List ℕ
answered b [] = []
answered b (t ∷ ts) = (reply b t).says ++ answered (after b t) ts

-- the bytes that commands take with their end characters
abbrev pub spent : List (List ℕ) → ℕ
spent [] = 0
spent (t ∷ ts) = (length t + 1) + spent ts

-- What comes next of what is left of a run, with so much room for answers: the next command and the bytes that it
-- uses, or why serving stops: at the run's end, or else without an end character, or else for want of room.
abbrev pub due_at : ℕ → Result (List ℕ × ℕ) Fault → Result (List ℕ × ℕ) Stop
due_at room (Err f) = Err NoEnd
due_at room (Ok p) = cond (nat_lt room 1088) (Err ShortBuffer) (Ok p)

abbrev pub due : List ℕ → ℕ → Result (List ℕ × ℕ) Stop
due [] room = Err End
due (b ∷ bs) room = due_at room (cut_of (b ∷ bs))

abbrev pub due_of : Result (Bor (List ℕ) × ℕ) Stop → Result (List ℕ × ℕ) Stop
due_of (Ok p) = Ok (p.0.now, p.1)
due_of (Err y) = Err y

-- why nothing more is obeyed of what is left of a run
abbrev pub why : List ℕ → Stop
why [] = End
why (b ∷ bs) = cond (prefix_len plain (b ∷ bs) == length (b ∷ bs)) NoEnd ShortBuffer

-- what serving returns, once it has obeyed these commands
abbrev pub report_of : Bus → List ℕ → List (List ℕ) → Served
report_of b run ts = record { used = spent ts; written = length (answered b ts); stopped = why (drop (spent ts) run) }

-- ---- the law of serving
-- a run begins with these commands, each with no end character in it and one after it
abbrev pub Spelled : List (List ℕ) → List ℕ → Type 0
Spelled [] run = Unit {0}
Spelled (t ∷ ts) run = AllByRecursion (λ b. plain b ≡ true) t × ((x : ℕ) × (plain x ≡ false) × (run ≡ t ++ x ∷ drop (length t + 1) run)) × Spelled ts (drop (length t + 1) run)

-- before each of these commands 1,088 bytes at least are left for answers
abbrev pub Roomy : ℕ → Bus → List (List ℕ) → Type 0
Roomy room b [] = Unit {0}
Roomy room b (t ∷ ts) = (1088 ≤ room) × Roomy (room - length (reply b t).says) (after b t) ts

-- serving stops so, when this is left of the run and so much room for answers
abbrev pub Stops : Stop → List ℕ → ℕ → Type 0
Stops End left room = left ≡ []
Stops NoEnd left room = (left ≢ []) × AllByRecursion (λ b. plain b ≡ true) left
Stops ShortBuffer left room = (AllByRecursion (λ b. plain b ≡ true) left → ⊥) × (room < 1088)

-- Serving obeys commands that stand in the run one after another, each with room enough, and stops at the run's end,
-- or else where no end character follows, or else where the room is short.
pub record Serves (room : ℕ) (b : Bus) (run : List ℕ) (ts : List (List ℕ)) (r : Served) : Type 0 where
  pub spelled : Spelled ts run
  pub roomy : Roomy room b ts
  pub stops : Stops r.stopped (drop r.used run) (room - r.written)

-- ---- the law of room
-- No answer is longer than 272 bytes for each byte of its command, its end character counted. So a run with 272 bytes
-- of room for each of its bytes, and 1,088 more, never stops for want of room: each command that has an end character
-- is obeyed.
pub record NeverShort (room : ℕ) (b : Bus) (run : List ℕ) (r : Served) : Type 0 where
  pub answers : (t : List ℕ) → length (reply b t).says ≤ 272 * (length t + 1)
  pub obeys : 272 * length run + 1088 ≤ room → served room b run ≡ cut run
  pub stops : 272 * length run + 1088 ≤ room → r.stopped ≢ ShortBuffer
