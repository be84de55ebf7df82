-- Piles: boxes on boxes. What a port of a pile shows, and which gauges reach it.
use Rattle.std.specs.Prelude.{◌≡◌, ℕ, zero, suc, ◌+◌, ◌<◌, ◌≤◌, min, cond, ◌&&◌, ◌⊎◌, List, [], ◌∷◌, length, Ok, ◌==◌, nat_le, nat_lt, slice_index_or}
use Rattle.bank.specs.declared.reading.Reading.{Reading}
use Rattle.bank.specs.Ports.{Port, Sound, none, rest_at}
use Rattle.junction.specs.declared.feeds.Feeds.{Feeds}
use Rattle.junction.specs.declared.joins.Join.{Join}
use Rattle.junction.specs.Feeding.{fed, own}
use Rattle.junction.specs.Gather.{both, join, gather, boxed, drawn}
use Rattle.junction.specs.Joins.{joining, after_joins, SameCounts}

-- a box on a bank that shows m: a new box, and joins made one after another, refused ones included
abbrev pub box_on : (ℕ → Port) → List Join → ℕ → Port
box_on m js = boxed (after_joins m own js) m

-- a pile: a bank that shows m, and on it boxes from the lowest up, each given by its joins
abbrev pub pile : (ℕ → Port) → List (List Join) → ℕ → Port
pile m [] = m
pile m (js ∷ boxes) = pile (box_on m js) boxes

-- the port of the pile that the port q of its bank reaches by feeding, box by box
abbrev pub reach : (ℕ → Port) → List (List Join) → ℕ → ℕ
reach m [] q = q
reach m (js ∷ boxes) q = reach (box_on m js) boxes (fed (after_joins m own js) q)

-- the feeding maps of a pile's boxes, from the lowest up, as their joins make them over a bank that shows m
abbrev pub maps : (ℕ → Port) → List (List Join) → List Feeds
maps m [] = []
maps m (js ∷ boxes) = after_joins m own js ∷ maps (box_on m js) boxes

-- boxes with these feeding maps, from the lowest up, on a bank that shows m
abbrev pub stood : (ℕ → Port) → List Feeds → ℕ → Port
stood m [] = m
stood m (fs ∷ boxes) = stood (boxed fs m) boxes

-- a bank once a reading was taken at each of these ports, one after another
abbrev pub after_takes : (ℕ → Port) → List ℕ → ℕ → Port
after_takes m [] = m
after_takes m (p ∷ ps) = after_takes (rest_at m p) ps

-- the pile's bank after a reading is taken at the port p of the pile: one is gone from each of its ports that reach p, if one
-- waits at p
abbrev pub left_in : (ℕ → Port) → List (List Join) → ℕ → ℕ → Port
left_in m boxes p = cond (nat_le p 31 && nat_lt 0 (length (pile m boxes p).waiting)) (drawn (reach m boxes) m p 32) m

-- and after one is taken at each of these ports of the pile
abbrev pub drained : (ℕ → Port) → List (List Join) → List ℕ → ℕ → Port
drained m boxes [] = m
drained m boxes (p ∷ ps) = drained (left_in m boxes p) boxes ps

-- s, s + 1, .., n numbers in all
abbrev pub from : ℕ → ℕ → List ℕ
from s zero = []
from s (suc n) = s ∷ from (suc s) n

-- those of the ports qs of m that have a gauge and that f takes to the port p
unfoldable pub fitted : (ℕ → ℕ) → (ℕ → Port) → ℕ → List ℕ → List ℕ
fitted f m p [] = []
fitted f m p (q ∷ qs) = cond (f q == p && nat_lt 0 (m q).gauges) (q ∷ fitted f m p qs) (fitted f m p qs)

-- the ports of the pile's bank that have a gauge and reach the port p
abbrev pub arrivals : (ℕ → Port) → List (List Join) → ℕ → List ℕ
arrivals m boxes p = fitted (reach m boxes) m p (from 0 32)

-- ---- what is gathered from a list of ports
-- the ports as one
abbrev pub gathered : (ℕ → Port) → List ℕ → Port
gathered m [] = none
gathered m (q ∷ qs) = join (m q) (gathered m qs)

-- their gauges in sum
abbrev pub gauge_sum : (ℕ → Port) → List ℕ → ℕ
gauge_sum m [] = 0
gauge_sum m (q ∷ qs) = (m q).gauges + gauge_sum m qs

-- how many readings wait in the shortest
abbrev pub shortest : (ℕ → Port) → List ℕ → ℕ
shortest m [] = 0
shortest m (q ∷ []) = length (m q).waiting
shortest m (q ∷ r ∷ qs) = min (length (m q).waiting) (shortest m (r ∷ qs))

-- their readings number k as one, the loads added and the marks joined; d is for a list of no port
abbrev pub reading_of : (ℕ → Port) → ℕ → Reading → List ℕ → Reading
reading_of m k d [] = d
reading_of m k d (q ∷ []) = slice_index_or (m q).waiting k d
reading_of m k d (q ∷ r ∷ qs) = both (slice_index_or (m q).waiting k d) (reading_of m k d (r ∷ qs))

-- a port is exactly what is gathered from the ports qs
pub record Gathering (m : ℕ → Port) (qs : List ℕ) (a : Port) : Type 0 where
  pub whole : a ≡ gathered m qs
  pub counted : a.gauges ≡ gauge_sum m qs
  pub waits : length a.waiting ≡ shortest m qs
  pub read : (d : Reading) (k : ℕ) → k < length a.waiting → slice_index_or a.waiting k d ≡ reading_of m k d qs

-- ---- the laws
-- a lawful bank meaning
abbrev pub Lawful : (ℕ → Port) → Type 0
Lawful m = (q : ℕ) → Sound (m q)

-- joining never makes a port that more than eight gauges feed
abbrev pub Eight : Type 0
Eight = (m : ℕ → Port) → Lawful m → (js : List Join) (p : ℕ) → p < 32 → (gather (fed (after_joins m own js)) m p 32).gauges ≤ 8

-- a port without a gauge joins anywhere, and any port to where it feeds already
abbrev pub Free : Type 0
Free = (m : ℕ → Port) → Lawful m → (js : List Join) (b a : ℕ) → b < 32 → a < 32 → ((m b).gauges ≡ 0) ⊎ (fed (after_joins m own js) b ≡ a) → joining m (after_joins m own js) b a ≡ Ok tt

-- every port of a pile is exactly what is gathered from those ports of its bank that have a gauge and reach it
abbrev pub Gathers : Type 0
Gathers = (m : ℕ → Port) → Lawful m → (boxes : List (List Join)) (p : ℕ) → p < 32 → Gathering m (arrivals m boxes p) (pile m boxes p)

-- two banks are alike at all ports
abbrev pub Alike : (ℕ → Port) → (ℕ → Port) → Type 0
Alike m m' = (q : ℕ) → q < 32 → m q ≡ m' q

-- the same gauges reach the port p of one pile and the port p' of another
abbrev pub SameReach : (ℕ → Port) → List (List Join) → ℕ → (ℕ → Port) → List (List Join) → ℕ → Type 0
SameReach m boxes p m' boxes' p' = (q : ℕ) → q < 32 → 0 < (m q).gauges → (reach m boxes q ≡ p → reach m' boxes' q ≡ p') × (reach m' boxes' q ≡ p' → reach m boxes q ≡ p)

-- two piles over banks alike at all ports, with whatever joins, are alike at two ports that the same gauges reach
abbrev pub SameGauges : Type 0
SameGauges = (m m' : ℕ → Port) → Lawful m → Lawful m' → Alike m m' → (boxes boxes' : List (List Join)) (p p' : ℕ) → p < 32 → p' < 32 → SameReach m boxes p m' boxes' p' → pile m boxes p ≡ pile m' boxes' p'

-- boxes that joins made over a bank, stood on one with the same gauge counts, are the pile of those joins over that one
abbrev pub Restands : Type 0
Restands = (m m' : ℕ → Port) → SameCounts m m' → (boxes : List (List Join)) → stood m' (maps m boxes) ≡ pile m' boxes

-- what a pile shows once readings were taken at its ports is the pile of the same joins over a lawful bank with the same gauge
-- counts: its own bank, less a reading of each gauge for each that was taken where it reaches. So the laws of grouping hold of it
pub record TakenPile (m : ℕ → Port) (boxes : List (List Join)) (ps : List ℕ) : Type 0 where
  pub lawful : Lawful (drained m boxes ps)
  pub counts : SameCounts m (drained m boxes ps)
  pub shows : Alike (after_takes (pile m boxes) ps) (pile (drained m boxes ps) boxes)

abbrev pub TakenPiles : Type 0
TakenPiles = (m : ℕ → Port) → Lawful m → (boxes : List (List Join)) (ps : List ℕ) → TakenPile m boxes ps
