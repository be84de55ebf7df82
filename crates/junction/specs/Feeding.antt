-- The feeding map of a box: which port above each port below feeds.
use Rattle.std.specs.Prelude.{ℕ, zero, suc, cond, List, replicate, Some, None, Option, ◌==◌, slice_index_or, slice_set}

-- what a feeding map means: the port above that each port below was joined to, if it was
pub record FeedMap : Type 0 where
  pub joined : List (Option ℕ)

-- the port that the port q feeds, where it was joined to a or not
abbrev pub feeds_to : ℕ → Option ℕ → ℕ
feeds_to q None = q
feeds_to q (Some a) = a

-- the port above that the port q below feeds
abbrev pub fed : FeedMap → ℕ → ℕ
fed fs q = feeds_to q (slice_index_or fs.joined q None)

-- the map of a new box: each port feeds that of its own number
abbrev pub own : FeedMap
own = record { joined = replicate 32 None }

-- the map once the port b below feeds the port a above
abbrev pub moved : FeedMap → ℕ → ℕ → FeedMap
moved fs b a = record { joined = slice_set fs.joined b (Some a) }

-- the first of the n ports from q on that f takes to the port p
unfoldable pub next_from : (ℕ → ℕ) → ℕ → ℕ → ℕ → Option ℕ
next_from f p q zero = None
next_from f p q (suc n) = cond (f q == p) (Some q) (next_from f p (suc q) n)
