-- What a whole script is answered by, stage by stage.
use Rattle.std.specs.Prelude.{◌≡◌, ℕ, Bool, List, [], ◌∷◌, ◌++◌, drop, Ok, Err, Result, nat_le}
use Rattle.std.specs.List.{prefix_len, take_while}
use Rattle.bank.specs.Ports.{Port}
use Rattle.halls.specs.declared.stages.Stage.{Stage}
use Rattle.halls.specs.declared.stages.Stage.TheVariants.{Fitting, FirstBox, SecondBox, ThirdBox, FourthBox, Asking}
use Rattle.halls.specs.declared.requests.Reason.{Reason}
use Rattle.halls.specs.Stages.{rank}
use Rattle.halls.specs.Lines.{Asked}
use Rattle.halls.specs.Scripts.{Met, Course, script_of}
use Rattle.halls.specs.Said.{Said, Declined, Reply, lines_text}
use Rattle.halls.specs.Bases.{Base, new_base}
use Rattle.halls.specs.Stands.{Stand, OfBase, OfTop, shown, new_box, new_terminal, answer_of, left_by}

-- ---- one stand
-- what is said of one step, and the stand after it: a refused line is told why, and alters nothing
abbrev pub said_of : Stand → Result Asked Reason → Said
said_of s (Ok a) = answer_of s a
said_of s (Err e) = Declined e

abbrev pub stand_then : Stand → Result Asked Reason → Stand
stand_then s (Ok a) = left_by s a
stand_then s (Err e) = s

abbrev pub reply_to : Stand → Met → Reply
reply_to s m = record { line = m.line; says = said_of s m.said }

-- its replies to steps, one after another, and the stand after them
abbrev pub replies_by : Stand → List Met → List Reply
replies_by s [] = []
replies_by s (m ∷ ms) = reply_to s m ∷ replies_by (stand_then s m.said) ms

abbrev pub stand_after : Stand → List Met → Stand
stand_after s [] = s
stand_after s (m ∷ ms) = stand_after (stand_then s m.said) ms

-- ---- all stands
-- the steps up to the end of a stage, and those after it
abbrev pub is_within : Stage → Met → Bool
is_within t m = nat_le (rank m.stage) (rank t)

abbrev pub upto : Stage → List Met → List Met
upto t ms = take_while (is_within t) ms

abbrev pub beyond : Stage → List Met → List Met
beyond t ms = drop (prefix_len (is_within t) ms) ms

-- a stand has the steps up to the end of its stage; the next stands on it; the last has all that are left
abbrev pub by_stages : Stand → List (Stage × ((ℕ → Port) → Stand)) → List Met → List Reply
by_stages s [] ms = replies_by s ms
by_stages s (t ∷ ts) ms = replies_by s (upto t.0 ms) ++ by_stages (t.1 (shown (stand_after s (upto t.0 ms)))) ts (beyond t.0 ms)

-- each stage but the last, and what stands next on what its stand shows
abbrev pub stages : List (Stage × ((ℕ → Port) → Stand))
stages = (Fitting, new_box) ∷ (FirstBox, new_box) ∷ (SecondBox, new_box) ∷ (ThirdBox, new_box) ∷ (FourthBox, OfTop) ∷ (Asking, new_terminal) ∷ []

abbrev pub replies_over : Base → List Met → List Reply
replies_over b ms = by_stages (OfBase b) stages ms

-- what a script is answered by
abbrev pub replies_of : Course → List Reply
replies_of c = replies_over (new_base c.kind c.records) c.steps

-- what is printed for the text of a script
abbrev pub printed_for : List ℕ → List ℕ
printed_for t = lines_text (replies_of (script_of t))

-- ---- the laws
-- a step and its reply: they have one number, and a refused line is told why
pub record Replied (m : Met) (r : Reply) : Type 0 where
  pub line : r.line ≡ m.line
  pub refused : (e : Reason) → m.said ≡ Err e → r.says ≡ Declined e

-- each step has one reply, in the order of the steps
abbrev pub EachReplied : List Met → List Reply → Type 0
EachReplied [] [] = Unit {0}
EachReplied (m ∷ ms) (r ∷ rs) = Replied m r × EachReplied ms rs
EachReplied _ _ = ⊥
