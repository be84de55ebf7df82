-- What a feeding map keeps to be walked by: for each port the chain of those that feed it.
use Rattle.std.specs.Prelude.{◌≡◌, ◌≢◌, ℕ, ◌+◌, ◌-◌, ◌<◌, ◌≤◌, List, map, None, Some, Option, slice_index_or, slice_set}
use Rattle.std.specs.Option.{option_map}
use Rattle.bank.specs.declared.address.Address.{Address}
use Rattle.bank.specs.Addresses.{number_of}
use Rattle.junction.specs.Feeding.{FeedMap, next_from}

-- the map that addresses give
abbrev pub mapped : List (Option Address) → FeedMap
mapped joined = record { joined = map (option_map number_of) joined }

-- the number of the address at a place, if there is one
abbrev pub link : List (Option Address) → ℕ → Option ℕ
link places k = option_map number_of (slice_index_or places k None)

-- the chains of f: `first` has the first port that feeds each port, `next` the next one that feeds where a port feeds
pub record Chained (f : ℕ → ℕ) (first next : List (Option Address)) : Type 0 where
  pub firsts : (p : ℕ) → p < 32 → link first p ≡ next_from f p 0 32
  pub nexts : (q : ℕ) → q < 32 → link next q ≡ next_from f (f q) (q + 1) (31 - q)

-- the place after a port, from which a walk goes on, or 0 before the first
abbrev pub place_after : Option ℕ → ℕ
place_after None = 0
place_after (Some q) = q + 1

-- a port, if there is one, feeds p
abbrev pub Feeder : (ℕ → ℕ) → ℕ → Option ℕ → Type 0
Feeder f p None = Unit {0}
Feeder f p (Some q) = f q ≡ p

-- the last port that feeds p and comes before the port b, or none where none does
pub record LastBefore (f : ℕ → ℕ) (p b : ℕ) (last : Option ℕ) : Type 0 where
  pub feeds : Feeder f p last
  pub before : place_after last ≤ b
  pub between : (q : ℕ) → place_after last ≤ q → q < b → f q ≢ p

-- the first ports of the chains once x comes in the chain of the port p after a port, or first where that is none
abbrev pub first_put : List (Option Address) → ℕ → Option Address → Option Address → List (Option Address)
first_put first p None x = slice_set first p x
first_put first p (Some q) x = first

-- and the next ports
abbrev pub next_put : List (Option Address) → Option Address → Option Address → List (Option Address)
next_put next None x = next
next_put next (Some q) x = slice_set next q.number x
