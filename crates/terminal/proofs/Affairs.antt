-- A run of the bus, seen from one scale, is that scale alone, fed the commands that reach it.
use Rattle.std.proofs.Common.{◌≡◌, ℕ, Bool, true, List, [], ◌∷◌, map, Some, None, Option, Result, refl, rules}
use Rattle.fault.specs.declared.faults.Fault.{Fault}
use Rattle.bank.specs.Ports.{Port}
use Rattle.command.specs.declared.orders.Heard.{Heard}
use Rattle.command.specs.Readings.{reading}
use Rattle.scale.specs.declared.modes.Mode.{Mode}
use Rattle.scale.specs.declared.state.State.{State}
use Rattle.scale.specs.Hearing.{hears}
use Rattle.terminal.specs.Ears.{Ear, turned, mode_of, reach}
use Rattle.terminal.specs.Buses.{Bus, present, attends, worded, after, reply}
use Rattle.terminal.specs.Serves.{afters}
use Rattle.terminal.specs.Transcripts.{Line, lines, if_reached, reaching}
use Rattle.terminal.specs.Laws.{minded, aloud, Fate, follow}

-- ---- the mode in which a command reaches a scale
-- the mode of a scale that is present and listens is the mode m
abbrev Minds : Ear → ℕ → Bool → Mode → Type 0
Minds e a here m = here ≡ true → (n : Mode) → mode_of e a ≡ Some n → n ≡ m

-- it is known from the commands that reached the scale before
known : (e : Ear) (h : Result Heard Fault) (a : ℕ) (x : Bool) (m n : Mode) → Minds e a x m → reach e h a x ≡ Some n → n ≡ minded m h
known e h a x m n g p = search rules

abbrev or_else : Option Mode → Mode → Mode
or_else None m = m
or_else (Some n) m = n

minds_on : (e : Ear) (h : Result Heard Fault) (a : ℕ) (x : Bool) (m : Mode) → Minds e a x m → Minds (turned e h) a x (or_else (reach e h a x) m)
minds_on e h a x m g = search rules

-- an absent scale stays absent
was_present : (e : Ear) (h : Result Heard Fault) (a : ℕ) (s : State) (p : Port) → present (attends (reach e h a (present p)) a h s p).port ≡ true → present p ≡ true
was_present e h a s p here = search rules

-- what is written for a command that reaches a scale is that scale's answer, and in a broadcast nothing
own_voice : (b : Bus) (h : Result Heard Fault) (a : ℕ) (n : Mode) → reach b.ear h a (present (b.ports a)) ≡ Some n
    → (worded b h).says ≡ aloud n (hears n a h (b.scales a) (b.ports a)).says
own_voice b h a n p = search rules

-- ---- whole runs
-- what became of a scale, from its end and the lines that reached it
abbrev became : State → Port → List Line → Fate
became s p ls = record { state = s; port = p; answers = map (λ l. l.answer) ls }

-- one command more
one_more : (a : ℕ) (o : Option Mode) (l : Line) (s s' : State) (p p' : Port) (rest : List Line) (m : Mode)
    → ((n : Mode) → o ≡ Some n → n ≡ minded m (reading l.order))
    → ((n : Mode) → o ≡ Some n → l.answer ≡ aloud n (hears n a (reading l.order) s p).says)
    → became s' p' rest ≡ follow a (or_else o m) (attends o a (reading l.order) s p).state (attends o a (reading l.order) s p).port (map (λ l. l.order) rest)
    → became s' p' (if_reached o l rest) ≡ follow a m s p (map (λ l. l.order) (if_reached o l rest))
one_more a o l s s' p p' rest m k v e = search rules

pub projected : (a : ℕ) (b : Bus) (m : Mode) (ts : List (List ℕ)) → (present (b.ports a) ≡ true → (n : Mode) → mode_of b.ear a ≡ Some n → n ≡ m)
    → became ((afters b ts).scales a) ((afters b ts).ports a) (reaching a b.ear (lines b ts))
    ≡ follow a m (b.scales a) (b.ports a) (map (λ l. l.order) (reaching a b.ear (lines b ts)))
unfolding after reply
projected a b m [] g = refl
projected a b m (t ∷ ts) g =
    let h = reading t in
    let o = reach b.ear h a (present (b.ports a)) in
    one_more a o (record { order = t; answer = (reply b t).says; here = λ x. present (b.ports x) }) (b.scales a) ((afters (after b t) ts).scales a) (b.ports a) ((afters (after b t) ts).ports a)
    (reaching a (turned b.ear h) (lines (after b t) ts)) m
    (λ n. known b.ear h a (present (b.ports a)) m n g)
    (own_voice b h a)
    (projected a (after b t) (or_else o m) ts (λ here. minds_on b.ear h a (present (b.ports a)) m g (was_present b.ear h a (b.scales a) (b.ports a) here)))
