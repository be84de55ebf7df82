-- The bus: every scale, every port, and who listens; and what one command does to it.
use Rattle.std.specs.Prelude.{ℕ, zero, suc, Bool, cond, List, [], ◌∷◌, length, Some, None, Option, Result, nat_lt}
use Rattle.fault.specs.declared.faults.Fault.{Fault}
use Rattle.fault.specs.declared.causes.Cause.TheVariants.{ShortBuffer}
use Rattle.fault.specs.Faults.{refusal}
use Rattle.bank.specs.Ports.{Port}
use Rattle.command.specs.declared.orders.Heard.{Heard}
use Rattle.command.specs.Readings.{reading}
use Rattle.scale.specs.declared.modes.Mode.{Mode}
use Rattle.scale.specs.declared.scale.Scale.{Scale}
use Rattle.scale.specs.declared.state.State.{State}
use Rattle.scale.specs.Hearing.{Outcome, hears}
use Rattle.scale.specs.States.{fresh}
use Rattle.scale.specs.declared.hearing.Hearing.{Hearing}
use Rattle.terminal.specs.declared.terminal.Terminal.{Terminal}
use Rattle.terminal.specs.Ears.{Ear, nobody, only, everyone, ear_of, turned, listens, reach}

pub record Bus : Type 0 where
  pub scales : ℕ → State
  pub ports : ℕ → Port
  pub ear : Ear

-- a scale is present when its port has a gauge
abbrev pub present : Port → Bool
present p = nat_lt 0 p.gauges

-- a scale and its port, once a command has reached it in a mode or passed it by
abbrev pub attends : Option Mode → ℕ → Result Heard Fault → State → Port → Outcome
attends None a h s p = record { state = s; port = p; says = []; fault = None }
attends (Some m) a h s p = hears m a h s p

-- a mode, for a scale that is present
abbrev pub lets : Mode → Bool → Option Mode
lets m here = cond here (Some m) None

-- the command h at the address a, in the mode o
abbrev pub meeting : Option Mode → Bus → Result Heard Fault → ℕ → Outcome
meeting o b h a = attends o a h (b.scales a) (b.ports a)

-- every scale hears the command in a mode of its own, or not
abbrev pub hearing : (ℕ → Option Mode) → Bus → Result Heard Fault → Bus
hearing f b h = record { scales = λ a. (meeting (f a) b h a).state; ports = λ a. (meeting (f a) b h a).port; ear = b.ear }

-- what the bus says to a command: bytes, and why it refuses
pub record Word : Type 0 where
  pub says : List ℕ
  pub fault : Option Fault

abbrev pub silence : Word
silence = record { says = []; fault = None }

abbrev pub word_of : Outcome → Word
word_of o = record { says = o.says; fault = o.fault }

-- only the selected scale answers: in a broadcast, or where nobody listens, nothing is said
abbrev pub voice : Ear → (ℕ → Outcome) → Word
voice nobody f = silence
voice (only a) f = word_of (f a)
voice everyone f = silence

-- ---- a command is passed on to those who listen
abbrev pub passed : Bus → Result Heard Fault → Bus
passed b h = hearing (λ a. listens b.ear a (present (b.ports a))) b h

abbrev pub spoken : Bus → Result Heard Fault → Word
spoken b h = voice b.ear (λ a. meeting (listens b.ear a (present (b.ports a))) b h a)

-- ---- one command: a select has turned who listens when it is heard
-- what it does at the scale a
abbrev pub at : Bus → Result Heard Fault → ℕ → Outcome
at b h a = meeting (reach b.ear h a (present (b.ports a))) b h a

abbrev pub heeded : Bus → Result Heard Fault → Bus
heeded b h = record { scales = λ a. (at b h a).state; ports = λ a. (at b h a).port; ear = turned b.ear h }

abbrev pub worded : Bus → Result Heard Fault → Word
worded b h = voice (turned b.ear h) (at b h)

-- the bus after all the bytes of a command, and what it says
unfoldable pub after : Bus → List ℕ → Bus
after b t = heeded b (reading t)

unfoldable pub reply : Bus → List ℕ → Word
reply b t = worded b (reading t)

-- ---- with room for so many bytes of answer: below 1,088 the command is refused and reaches nobody
abbrev pub told : ℕ → Bus → List ℕ → Bus
told room b t = cond (nat_lt room 1088) b (after b t)

abbrev pub uttered : ℕ → Bus → List ℕ → Word
uttered room b t = cond (nat_lt room 1088) (record { says = []; fault = Some (refusal ShortBuffer room) }) (reply b t)

-- what obeying returns
abbrev pub returned : Word → Hearing
returned w = record { written = length w.says; fault = w.fault }

-- ---- what a terminal means
-- the state of the scale a; past the last scale a new one
abbrev pub state_at : List Scale → ℕ → State
state_at [] a = fresh
state_at (s ∷ ss) zero = s.state
state_at (s ∷ ss) (suc a) = state_at ss a

-- a new terminal over ports: every scale is new, and nobody listens
abbrev pub silent : (ℕ → Port) → Bus
silent p = record { scales = λ _. fresh; ports = p; ear = nobody }

module _ {B : Type 0} (meaning : B → ℕ → Port) where
  abbrev pub bus : Terminal B → Bus
  bus t = record { scales = state_at t.scales; ports = meaning t.bank; ear = ear_of t.listening }
