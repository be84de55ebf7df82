-- The laws over whole runs.
use Rattle.std.specs.Prelude.{◌≡◌, ℕ, ◌<◌, cond, List, [], ◌∷◌, ◌++◌, map, length, drop, vec_items, Ok, Err, Result, ◌==◌}
use Rattle.fault.specs.declared.faults.Fault.{Fault}
use Rattle.bank.specs.Ports.{Port}
use Rattle.command.specs.declared.orders.Heard.{Heard}
use Rattle.command.specs.declared.orders.Heard.TheVariants.{Blank, Select, Command}
use Rattle.command.specs.Readings.{reading}
use Rattle.junction.specs.declared.joins.Join.{Join}
use Rattle.junction.specs.Piles.{pile, Lawful, Alike, SameReach, Gathers, SameGauges}
use Rattle.scale.specs.declared.modes.Mode.{Mode}
use Rattle.scale.specs.declared.modes.Mode.TheVariants.{Selected, Broadcast}
use Rattle.scale.specs.declared.state.State.{State}
use Rattle.scale.specs.Hearing.{hears}
use Rattle.scale.specs.States.{fresh}
use Rattle.terminal.specs.declared.calls.Exchange.{Exchange}
use Rattle.terminal.specs.Buses.{Bus, silent}
use Rattle.terminal.specs.Transcripts.{Line, said, heard, voiced}
use Rattle.terminal.specs.Calls.{Ask, ask_of, sheet, next, settled, closing, transcript}

-- ---- a scale's answers are its own affair
-- the scale a answers each command that reaches it alike in two transcripts, and ends alike on two buses: all that it
-- remembers, and the gauges and the readings left at its port
pub record SameFate (a : ℕ) (e : Bus) (ls : List Line) (e' : Bus) (ls' : List Line) : Type 0 where
  pub answers : voiced a ls ≡ voiced a ls'
  pub state : e.scales a ≡ e'.scales a
  pub port : e.ports a ≡ e'.ports a

-- A new terminal over the ports p got the calls and ended as e. Whatever other ports a terminal stands on, and whatever
-- other calls it gets: where the scale's own port starts alike, and the same commands reach the scale in the same
-- order, its fate is the same.
abbrev pub OwnAffair : (ℕ → Port) → List Ask → Bus → Type 0
OwnAffair p asks e =
    (a : ℕ) (p' : ℕ → Port) (asks' : List Ask) → p a ≡ p' a
    → heard a (transcript (silent p) asks) ≡ heard a (transcript (silent p') asks')
    → SameFate a e (transcript (silent p) asks) (closing (silent p') asks') (transcript (silent p') asks')

-- ---- the run seen from one address
-- the mode in which a command leaves a scale that it reaches: a select settles it, and S98 is the broadcast
abbrev pub minded : Mode → Result Heard Fault → Mode
minded m (Ok Blank) = m
minded m (Ok (Select n)) = cond (n == 98) Broadcast Selected
minded m (Ok (Command o)) = m
minded m (Err f) = m

-- what a scale says aloud: nothing in a broadcast
abbrev pub aloud : Mode → List ℕ → List ℕ
aloud Selected xs = xs
aloud Broadcast xs = []

-- what becomes of a scale
pub record Fate : Type 0 where
  pub state : State
  pub port : Port
  pub answers : List (List ℕ)

-- a scale by itself at the address a, over its port, in the mode m, hears these commands
abbrev pub follow : ℕ → Mode → State → Port → List (List ℕ) → Fate
follow a m s p [] = record { state = s; port = p; answers = [] }
follow a m s p (t ∷ ts) =
    let n = minded m (reading t) in
    let o = hears n a (reading t) s p in
    let r = follow a n o.state o.port ts in
    record { state = r.state; port = r.port; answers = aloud n o.says ∷ r.answers }

-- Each scale becomes what a new scale by itself becomes, that hears the commands that reach it, whatever mode it
-- starts in: the first command that reaches a scale is a select.
abbrev pub AsAlone : (ℕ → Port) → List Ask → Bus → Type 0
AsAlone p asks e =
    (a : ℕ) (m : Mode) → ◌≡◌ {A = Fate} (record { state = e.scales a; port = e.ports a; answers = voiced a (transcript (silent p) asks) })
    (follow a m fresh (p a) (heard a (transcript (silent p) asks)))

-- ---- grouping does not matter
-- Where a run's bank is a pile, a run over any other pile on an alike bank, whose boxes bring the same gauges to the
-- scale's port, has the same fate in store for the scale.
abbrev pub Regrouped : (ℕ → Port) → List Ask → Bus → Type 0
Regrouped p asks e =
    (m m' : ℕ → Port) → Lawful m → Lawful m' → Alike m m' → (boxes boxes' : List (List Join)) → p ≡ pile m boxes
    → (a : ℕ) → a < 32 → SameReach m boxes a m' boxes' a → (asks' : List Ask)
    → heard a (transcript (silent p) asks) ≡ heard a (transcript (silent (pile m' boxes')) asks')
    → SameFate a e (transcript (silent p) asks) (closing (silent (pile m' boxes')) asks') (transcript (silent (pile m' boxes')) asks')

-- ---- what a call leaves in its exchange
-- its answers stand at the buffer's front; the call, the buffer's length and every byte past the answers are as before
pub record Answered (says : List ℕ) (x y : Exchange) : Type 0 where
  pub call : y.call ≡ x.call
  pub answers : vec_items y.answers ≡ says ++ drop (length says) (vec_items x.answers)
  pub room : length (vec_items y.answers) ≡ length (vec_items x.answers)

-- each exchange has the answers of its own lines
abbrev pub AllAnswered : Bus → List Exchange → List Exchange → Type 0
AllAnswered b [] ys = ys ≡ []
AllAnswered b (x ∷ xs) [] = ⊥
AllAnswered b (x ∷ xs) (y ∷ ys) = Answered (said (sheet b (ask_of x))) x y × AllAnswered (next b (ask_of x)) xs ys

-- ---- what the calls of exchanges over the ports p have come to: the end, the exchanges after them, and the laws
pub record Came (p : ℕ → Port) (before : List Exchange) (e : Bus) (after : List Exchange) : Type 0 where
  pub state : e ≡ closing (silent p) (map ask_of before)
  pub exchanges : after ≡ settled (silent p) before
  pub answers : AllAnswered (silent p) before after
  pub own : OwnAffair p (map ask_of before) e
  pub alone : AsAlone p (map ask_of before) e
  pub gathers : Gathers
  pub regroups : SameGauges
  pub regrouped : Regrouped p (map ask_of before) e
