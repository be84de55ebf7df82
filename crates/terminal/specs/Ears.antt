-- Who listens on the bus, and whom a command reaches.
use Rattle.std.specs.Prelude.{ℕ, Bool, cond, Some, None, Ok, Err, Option, Result, ◌==◌, nat_le}
use Rattle.fault.specs.declared.faults.Fault.{Fault}
use Rattle.command.specs.declared.orders.Heard.{Heard}
use Rattle.command.specs.declared.orders.Heard.TheVariants.{Blank, Select, Command}
use Rattle.scale.specs.declared.modes.Mode.{Mode}
use Rattle.scale.specs.declared.modes.Mode.TheVariants.{Selected, Broadcast}
use Rattle.terminal.specs.declared.listening.Listening.{Listening}
use Rattle.terminal.specs.declared.listening.Listening.TheVariants.{Nobody, One, All}

-- who listens: nobody, one address alone, or everyone
pub data Ear : Type 0 where
  nobody : Ear
  only : ℕ → Ear
  everyone : Ear

abbrev pub ear_of : Listening → Ear
ear_of Nobody = nobody
ear_of (One a) = only a.number
ear_of All = everyone

-- whom a select with this pair of digits calls: 0 to 31 one address, 98 everyone, any other pair nobody
abbrev pub called : ℕ → Ear
called n = cond (nat_le n 31) (only n) (cond (n == 98) everyone nobody)

-- who listens after a command: the latest select alone settles it
abbrev pub turned : Ear → Result Heard Fault → Ear
turned e (Ok Blank) = e
turned e (Ok (Select n)) = called n
turned e (Ok (Command o)) = e
turned e (Err f) = e

-- how the scale a listens; there are 32
abbrev pub mode_of : Ear → ℕ → Option Mode
mode_of nobody a = None
mode_of (only b) a = cond (a == b) (Some Selected) None
mode_of everyone a = cond (nat_le a 31) (Some Broadcast) None

-- the same of a scale that may be absent
abbrev pub listens : Ear → ℕ → Bool → Option Mode
listens e a here = cond here (mode_of e a) None

-- Whether a command reaches the scale a, and how. A select reaches those present that it calls, a blank command
-- nobody, and any other, a refused one too, those present that listen.
abbrev pub reach : Ear → Result Heard Fault → ℕ → Bool → Option Mode
reach e (Ok Blank) a here = None
reach e (Ok (Select n)) a here = listens (called n) a here
reach e (Ok (Command o)) a here = listens e a here
reach e (Err f) a here = listens e a here
