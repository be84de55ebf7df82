-- Ports gathered into one, and what a box on a bank means.
use Rattle.std.specs.Prelude.{ℕ, zero, suc, ◌+◌, min, Bool, cond, ◌&&◌, List, [], ◌∷◌, length, ◌+ℤ◌, Some, None, Option, ◌==◌, nat_le, nat_lt}
use Rattle.std.specs.Option.{is_none}
use Rattle.bank.specs.declared.reading.Reading.{Reading}
use Rattle.bank.specs.Readings.{either}
use Rattle.bank.specs.Ports.{Port, none, popped}
use Rattle.junction.specs.declared.feeds.Feeds.{Feeds}
use Rattle.junction.specs.Feeding.{fed}

-- two readings as one: the loads added, the marks joined
abbrev pub both : Reading → Reading → Reading
both x y = record { load = x.load +ℤ y.load; mark = either x.mark y.mark }

-- reading by reading, as far as the shorter list goes
abbrev pub paired : List Reading → List Reading → List Reading
paired [] ys = []
paired (x ∷ xs) [] = []
paired (x ∷ xs) (y ∷ ys) = both x y ∷ paired xs ys

-- the readings of ports with m and n gauges as one: a port without a gauge counts for nothing
abbrev pub lines : ℕ → ℕ → List Reading → List Reading → List Reading
lines zero n xs ys = ys
lines (suc m) zero xs ys = xs
lines (suc m) (suc n) xs ys = paired xs ys

-- two ports as one
abbrev pub join : Port → Port → Port
join a b = record { gauges = a.gauges + b.gauges; waiting = lines a.gauges b.gauges a.waiting b.waiting }

-- what the port q of m brings to the port p, where f says which port each feeds
abbrev pub part : (ℕ → ℕ) → (ℕ → Port) → ℕ → ℕ → Port
part f m p q = cond (f q == p) (m q) none

-- the ports below n that feed the port p, as one
unfoldable pub gather : (ℕ → ℕ) → (ℕ → Port) → ℕ → ℕ → Port
gather f m p zero = none
gather f m p (suc n) = join (gather f m p n) (part f m p n)

-- a port with more than eight gauges counts as one without a gauge; joining never makes one
abbrev pub capped : Port → Port
capped a = cond (nat_le a.gauges 8) a none

-- what a box with the feeding map fs shows on a bank that shows m
abbrev pub boxed : Feeds → (ℕ → Port) → ℕ → Port
boxed fs m p = capped (gather (fed fs) m p 32)

-- ---- what counting, searching and taking work out
-- how many wait in two ports as one, from the gauges and the readings of each
abbrev pub shorter : ℕ → ℕ → ℕ → ℕ → ℕ
shorter zero a n b = b
shorter (suc m) a zero b = a
shorter (suc m) a (suc n) b = min a b

-- whether a port has a gauge and no reading
abbrev pub dry : Port → Bool
dry a = nat_lt 0 a.gauges && length a.waiting == 0

-- the first of the n ports from q on that feeds the port p and is dry
unfoldable pub dry_from : (ℕ → ℕ) → (ℕ → Port) → ℕ → ℕ → ℕ → Option ℕ
dry_from f m p q zero = None
dry_from f m p q (suc n) = cond (dry (part f m p q)) (Some q) (dry_from f m p (suc q) n)

-- whether the port p of a box gives a reading: it has a gauge, and no port that feeds it is dry
abbrev pub gives : Feeds → (ℕ → Port) → ℕ → Bool
gives fs m p = nat_lt 0 (boxed fs m p).gauges && is_none (dry_from (fed fs) m p 0 32)

-- m, with the first reading taken from each port below n that feeds the port p
abbrev pub drawn : (ℕ → ℕ) → (ℕ → Port) → ℕ → ℕ → ℕ → Port
drawn f m p n k = cond (nat_lt k n && f k == p) (popped (m k)) (m k)

-- the ports below after a reading is taken at the port p of a box: one is gone from each port that feeds p, if p gives one;
-- else no port below is touched
abbrev pub left_below : Feeds → (ℕ → Port) → ℕ → ℕ → Port
left_below fs m p = cond (gives fs m p) (drawn (fed fs) m p 32) m

abbrev pub below_after : Feeds → (ℕ → Port) → ℕ → ℕ → Port
below_after fs m p = cond (nat_le p 31) (left_below fs m p) m
