-- What one scale's hearing does to the bus.
use Rattle.std.proofs.Common.{◌≡◌, ℕ, ◌+◌, ◌<◌, ◌≤◌, Bool, true, false, cond, eqb, leb, ltb, List, [], ◌++◌, length, drop, set, Some, None, Ok, Option, Result, sym, refl, ap, rules}
use Rattle.fault.specs.declared.faults.Fault.{Fault}
use Rattle.bank.specs.Ports.{Port}
use Rattle.command.specs.declared.orders.Heard.{Heard}
use Rattle.command.specs.declared.orders.Heard.TheVariants.{Select}
use Rattle.scale.specs.declared.modes.Mode.{Mode}
use Rattle.scale.specs.declared.modes.Mode.TheVariants.{Broadcast}
use Rattle.scale.specs.declared.scale.Scale.{Scale}
use Rattle.scale.specs.declared.state.State.{State}
use Rattle.scale.specs.Hearing.{Outcome, hears, within}
use Rattle.scale.specs.Measuring.{put_port}
use Rattle.scale.specs.declared.hearing.Hearing.{Hearing}
use Rattle.terminal.specs.Ears.{Ear, everyone, listens}
use Rattle.terminal.specs.Buses.{Bus, present, lets, attends, hearing, word_of, returned, state_at}
use Rattle.terminal.proofs.Same.{same_bus, set_at}

-- the scale a has heard the command, and nothing else has changed
pub one_met : (ss : List Scale) (m : Mode) (a : ℕ) (h : Result Heard Fault) (w : Outcome) (s : Scale) (p p' : ℕ → Port) (e : Ear) (k : ℕ)
    → k ≡ a → k < length ss → w ≡ attends (lets m (present (p a))) a h (state_at ss a) (p a) → s.state ≡ w.state → p' ≡ put_port p a w.port
    → ◌≡◌ {A = Bus} (record { scales = state_at (set ss k s); ports = p'; ear = e })
    (hearing (λ x. cond (eqb x a) (lets m (present (p x))) None) (record { scales = state_at ss; ports = p; ear = e }) h)
one_met ss m a h w s p p' e k q lt we se pe = search (rules, set_at)

-- what that scale answers
pub one_says : (room : ℕ) (m : Mode) (a : ℕ) (h : Result Heard Fault) (t s : State) (p : Port) (r : Hearing) (out out' : List ℕ)
    → 1088 ≤ room → present p ≡ true → t ≡ s → r.written ≡ length (within room m a h t p).says → r.fault ≡ (within room m a h t p).fault → out' ≡ (within room m a h t p).says ++ drop r.written out
    → (within room m a h t p ≡ attends (lets m (present p)) a h s p)
    × (r ≡ returned (word_of (attends (lets m (present p)) a h s p)))
    × (out' ≡ (attends (lets m (present p)) a h s p).says ++ drop r.written out)
one_says room m a h t s p r out out' k here was c d e = search rules

-- ---- a broadcast, one scale after another
-- the select of all leaves a scale and its port as they are
left_alone : (here low : Bool) (a n : ℕ) (s : State) (p : Port) → attends (cond here (cond low (Some Broadcast) None) None) a (Ok (Select n)) s p ≡ record { state = s; port = p; says = []; fault = None }
unfolding hears
left_alone true true a n s p = refl
left_alone true false a n s p = refl
left_alone false low a n s p = refl

pub select_leaves : (b : Bus) (n : ℕ) → b ≡ hearing (λ x. listens everyone x (present (b.ports x))) b (Ok (Select n))
select_leaves b n = same_bus b _
    (λ a. sym (ap (λ (o : Outcome). o.state) (left_alone (present (b.ports a)) (leb a 31) a n (b.scales a) (b.ports a))))
    (λ a. sym (ap (λ (o : Outcome). o.port) (left_alone (present (b.ports a)) (leb a 31) a n (b.scales a) (b.ports a))))
    refl

-- how the scale x has heard it when those below n have
abbrev before : Bus → ℕ → ℕ → Option Mode
before b n x = cond (ltb x n) (lets Broadcast (present (b.ports x))) None

-- the bus then
abbrev pub swept : ℕ → Bus → Result Heard Fault → Bus
swept n b h = hearing (before b n) b h

-- one turn of the loop
pub swept_next : (b s s' : Bus) (h : Result Heard Fault) (n a n' : ℕ) → a ≡ n → n' ≡ n + 1
    → s ≡ swept n b h → s' ≡ hearing (λ x. cond (eqb x a) (lets Broadcast (present (s.ports x))) None) s h → s' ≡ swept n' b h
swept_next b s s' h n a n' q r e f = search rules
