-- What a script says: its lines read, and put in order.
use Rattle.std.specs.Prelude.{ℕ, ◌+◌, ◌≤◌, Bool, true, cond, List, [], ◌∷◌, ◌++◌, map, Some, None, Ok, Err, Option, Result, ◌==◌, vec_items}
use Rattle.std.specs.Result.{result_unwrap_or}
use Rattle.std.specs.List.{slice_split, enumerate_from, AllByRecursion}
use Rattle.bank.specs.declared.record.Record.{Record as BankRecord}
use Rattle.halls.specs.declared.stages.Stage.{Stage}
use Rattle.halls.specs.declared.stages.Stage.TheVariants.{Opening, Talking}
use Rattle.halls.specs.declared.requests.Kind.{Kind}
use Rattle.halls.specs.declared.requests.Kind.TheVariants.{Dials}
use Rattle.halls.specs.declared.requests.Reason.{Reason}
use Rattle.halls.specs.declared.requests.Request.{Request}
use Rattle.halls.specs.declared.requests.Request.TheVariants.{Bank, Record}
use Rattle.halls.specs.declared.script.Step.{Step}
use Rattle.halls.specs.declared.script.Script.{Script}
use Rattle.halls.specs.Stages.{rank}
use Rattle.halls.specs.Order.{entered, stage_of, suited}
use Rattle.halls.specs.Lines.{Asked, Plain, Obeying, Serving, Splitting, passed, request_of, request_seen, idle}

-- a line that asks for something: its number, the stage in which it is met, and its request, or why it is refused
pub record Met : Type 0 where
  pub line : ℕ
  pub stage : Stage
  pub said : Result Asked Reason

-- what a script has said so far
pub record Course : Type 0 where
  pub kind : Kind
  pub records : List BankRecord
  pub steps : List Met
  pub stage : Stage

abbrev pub met_of : Step → Met
met_of s = record { line = s.line; stage = s.stage; said = request_seen s.asked }

abbrev pub course_of : Script → Course
course_of s = record { kind = s.kind; records = vec_items s.records; steps = map met_of (vec_items s.steps); stage = s.stage }

-- the stage that a request belongs to, and whether it suits a kind of bank
abbrev pub belongs : Asked → Option Stage
belongs (Plain r) = stage_of r
belongs (Obeying n bs) = Some Talking
belongs (Serving n bs) = Some Talking
belongs (Splitting bs) = None

abbrev pub suits : Asked → Kind → Bool
suits (Plain r) k = suited r k
suits (Obeying n bs) k = true
suits (Serving n bs) k = true
suits (Splitting bs) k = true

-- a request that comes in its order and suits the bank; else why it is refused
abbrev pub let_in : Course → Result Asked Reason → Result Asked Reason
let_in s r = passed r (λ a. passed (entered s.stage (belongs a) (suits a s.kind)) (λ t. Ok a))

-- the stage after it: a refused one leaves it
abbrev pub stage_then : Course → Result Asked Reason → Stage
stage_then s (Ok a) = result_unwrap_or (entered s.stage (belongs a) (suits a s.kind)) s.stage
stage_then s (Err e) = s.stage

-- the kind of bank, and a record, are kept
abbrev pub kept_of : Course → Request → Course
kept_of s (Bank k) = record s { kind = k }
kept_of s (Record x) = record s { records = s.records ++ x ∷ [] }
kept_of s _ = s

abbrev pub kept : Course → Asked → Course
kept s (Plain r) = kept_of s r
kept s (Obeying n bs) = s
kept s (Serving n bs) = s
kept s (Splitting bs) = s

abbrev pub noted : Course → Result Asked Reason → Course
noted s (Ok a) = kept s a
noted s (Err e) = s

-- a line met in the stage that is reached
abbrev pub stepped : Course → ℕ → Result Asked Reason → Course
stepped s n r = record s { steps = s.steps ++ record { line = n; stage = s.stage; said = r } ∷ [] }

-- the course after line n, whose text is l
abbrev pub line_added : Course → ℕ → List ℕ → Course
line_added s n l =
    let r = request_of l in
    cond (idle l) s (stepped (noted (record s { stage = stage_then s r }) (let_in s r)) n (let_in s r))

-- after lines counted from 0
abbrev pub lines_added : Course → List (ℕ × List ℕ) → Course
lines_added s [] = s
lines_added s (p ∷ ps) = lines_added (line_added s (p.0 + 1) p.1) ps

-- the lines of a text end with a line feed, which the last may lack
abbrev pub lines_of : List ℕ → List (ℕ × List ℕ)
lines_of t = enumerate_from 0 (slice_split (λ b. b == 10) t)

-- a script's course, from its text
abbrev pub script_of : List ℕ → Course
script_of t = lines_added (record { kind = Dials; records = []; steps = []; stage = Opening }) (lines_of t)

-- the law of the order: the stages of steps do not go back
abbrev pub Ordered : List Met → Type 0
Ordered [] = Unit {0}
Ordered (m ∷ ms) = AllByRecursion (λ n. rank m.stage ≤ rank n.stage) ms × Ordered ms
