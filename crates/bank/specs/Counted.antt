-- The counts that are kept of the ports of a bank.
use Rattle.std.specs.Prelude.{◌≡◌, ℕ, ◌<◌, List, length, slice_index_or}
use Rattle.bank.specs.declared.counted.Counts.{Counts}
use Rattle.bank.specs.Ports.{Port, none}

-- a port's gauge count and how many readings wait there
abbrev pub counts : Port → Counts
counts a = record { gauges = a.gauges; waiting = length a.waiting }

-- the list has the counts of each of the 32 ports
abbrev pub CountsOf : (ℕ → Port) → List Counts → Type 0
CountsOf m all = (p : ℕ) → p < 32 → slice_index_or all p (counts none) ≡ counts (m p)
