-- Joining: what a call answers, and what calls made one after another leave.
use Rattle.std.specs.Prelude.{◌≡◌, ℕ, ◌+◌, ◌<◌, cond, List, [], ◌∷◌, length, is_ok, Ok, Err, Result, ◌==◌, nat_le}
use Rattle.fault.specs.declared.faults.Fault.{Fault}
use Rattle.fault.specs.declared.causes.Cause.TheVariants.{NinthGauge}
use Rattle.fault.specs.Faults.{refusal}
use Rattle.bank.specs.Ports.{Port, ranged}
use Rattle.junction.specs.declared.feeds.Feeds.{Feeds}
use Rattle.junction.specs.declared.joins.Join.{Join}
use Rattle.junction.specs.Feeding.{fed, moved}
use Rattle.junction.specs.Gather.{gather}

-- what joining the port b below to the port a above answers: refused for a port above 31, and where a ninth gauge would feed a
abbrev pub joining : (ℕ → Port) → Feeds → ℕ → ℕ → Result (Unit {0}) Fault
joining m fs b a = ranged b (ranged a (cond (nat_le (gather (fed (moved fs b a)) m a 32).gauges 8) (Ok tt) (Err (refusal NinthGauge a))))

-- moving a port adds its gauges once, and none where it fed that port before
abbrev pub CountedOnce : Type 0
CountedOnce = (m : ℕ → Port) (fs : Feeds) (b a : ℕ) → b < 32 → length fs.joined ≡ 32 → (gather (fed (moved fs b a)) m a 32).gauges ≡ (gather (fed fs) m a 32).gauges + cond (fed fs b == a) 0 (m b).gauges

-- the feeding map after such a call: a refused one alters nothing
abbrev pub rejoined : (ℕ → Port) → Feeds → ℕ → ℕ → Feeds
rejoined m fs b a = cond (is_ok (joining m fs b a)) (moved fs b a) fs

-- the feeding map after joins made one after another, the first of the list first
unfoldable pub after_joins : (ℕ → Port) → Feeds → List Join → Feeds
after_joins m fs [] = fs
after_joins m fs (j ∷ js) = after_joins m (rejoined m fs j.below j.above) js

-- 1 for a refused join, else 0
abbrev pub refusal_count : Result (Unit {0}) Fault → ℕ
refusal_count (Ok x) = 0
refusal_count (Err x) = 1

-- how many of them are refused
unfoldable pub refusals : (ℕ → Port) → Feeds → List Join → ℕ
refusals m fs [] = 0
refusals m fs (j ∷ js) = refusal_count (joining m fs j.below j.above) + refusals m (rejoined m fs j.below j.above) js

-- two banks have the same gauge counts
abbrev pub SameCounts : (ℕ → Port) → (ℕ → Port) → Type 0
SameCounts m m' = (q : ℕ) → q < 32 → (m q).gauges ≡ (m' q).gauges

-- joins over two banks do the same: each is answered alike, and so joins made one after another leave the same map and the
-- same of them are refused
pub record JoinAlike (m m' : ℕ → Port) : Type 0 where
  pub answers : (fs : Feeds) (b a : ℕ) → joining m fs b a ≡ joining m' fs b a
  pub maps : (fs : Feeds) (js : List Join) → after_joins m fs js ≡ after_joins m' fs js
  pub refused : (fs : Feeds) (js : List Join) → refusals m fs js ≡ refusals m' fs js

-- joins look at gauge counts alone, and at no reading
abbrev pub CountsAlone : Type 0
CountsAlone = (m m' : ℕ → Port) → SameCounts m m' → JoinAlike m m'
