-- What the platform answers to a byte run.
use Rattle.std.specs.Prelude.{◌≡◌, ◌≢◌, ℕ, ◌≤◌, List, length, Some, None, Option}
use Rattle.terminal.specs.Buses.{silent}
use Rattle.terminal.specs.Serves.{served, answered, cut, report_of}
use Rattle.terminal.specs.declared.calls.Outcome.{Outcome}
use Rattle.terminal.specs.declared.calls.Outcome.TheVariants.{Command, Run}
use Rattle.terminal.specs.declared.answers.Stop.TheVariants.{ShortBuffer}
use Rattle.platforms.specs.Halls.{platform}

-- what serving a run in a new terminal over the platform writes, with so much room
abbrev pub answered_in : ℕ → List ℕ → List ℕ
answered_in room run = answered (silent platform) (served room (silent platform) run)

-- an answer to each command of a run that has an end character
abbrev pub answers_to : List ℕ → List ℕ
answers_to run = answered (silent platform) (cut run)

-- room for the answers to 4,096 bytes: 272 for each byte, and 1,088 that must be free before the last command
abbrev pub room : ℕ
room = 1115200

-- how many bytes a call wrote
abbrev pub written_of : Option Outcome → ℕ
written_of None = 0
written_of (Some (Command r)) = r.written
written_of (Some (Run r)) = r.written

-- Serving at most 4,096 bytes in that room, or more, never stops for want of room: each command that has an end
-- character is answered.
abbrev pub Whole : ℕ → List ℕ → Type 0
Whole n run = room ≤ n → length run ≤ 4096 → (answered_in n run ≡ answers_to run) × ((report_of (silent platform) run (served n (silent platform) run)).stopped ≢ ShortBuffer)
