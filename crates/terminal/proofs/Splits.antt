-- What splitting tells of the rest of a run.
use Rattle.std.proofs.Common.{◌≡◌, ℕ, ◌+◌, ◌<◌, ◌≤◌, List, [], ◌∷◌, length, take, Ok, Err, rules}
use Rattle.std.specs.List.{prefix_len}
use Rattle.std.proofs.lemmas.List.Sums.{prefix_len-le-length}
use Rattle.command.specs.Cuts.{plain, first_of}
use Rattle.terminal.specs.declared.answers.Stop.{Stop}
use Rattle.terminal.specs.Buses.{Bus}
use Rattle.terminal.specs.Serves.{due, served, why}
use Rattle.terminal.proofs.Turns.{served_short, served_none}

-- ---- what comes next of what is left of a run
-- a command, with room for its answer
pub due_ok : (r t : List ℕ) (n room : ℕ) → Ok (t, n) ≡ due r room → (prefix_len plain r < length r) × (t ≡ take (prefix_len plain r) r) × (n ≡ prefix_len plain r + 1) × (1088 ≤ room)
unfolding first_of
due_ok [] t n room e = search rules
due_ok (b ∷ bs) t n room e = search rules

-- or a stop, for its reason, and then nothing more is obeyed
pub due_stop : (r : List ℕ) (room : ℕ) (b : Bus) (y : Stop) → Err y ≡ due r room → (y ≡ why r) × (served room b r ≡ [])
unfolding first_of
due_stop r room b y e = let few = prefix_len-le-length plain r in search (rules, served_none, served_short)
