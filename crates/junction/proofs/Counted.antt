-- Joins look at gauge counts alone.
use Rattle.std.proofs.Common.{◌≡◌, ℕ, zero, suc, ◌+◌, ◌≤◌, Bool, true, false, cond, eqb, leb, List, [], ◌∷◌, is_ok, Ok, Err, refl, ap, ◌∙◌, arith}
use Rattle.fault.specs.declared.causes.Cause.TheVariants.{NinthGauge}
use Rattle.fault.specs.Faults.{refusal}
use Rattle.bank.specs.Ports.{Port, none, ranged}
use Rattle.junction.specs.declared.feeds.Feeds.{Feeds}
use Rattle.junction.specs.declared.joins.Join.{Join}
use Rattle.junction.specs.Feeding.{fed, own, moved}
use Rattle.junction.specs.Gather.{gather, capped, boxed}
use Rattle.junction.specs.Joins.{joining, rejoined, after_joins, refusal_count, refusals, SameCounts, CountsAlone}
use Rattle.junction.specs.Piles.{box_on, pile, reach, Restands}

cond_same : (b : Bool) (x y : Port) → x.gauges ≡ y.gauges → (cond b x none).gauges ≡ (cond b y none).gauges
cond_same true x y e = e
cond_same false x y e = refl

capped_same : (x y : Port) → x.gauges ≡ y.gauges → (capped x).gauges ≡ (capped y).gauges
capped_same x y e = cond_same (leb x.gauges 8) x y e ∙ ap (λ (n : ℕ). (cond (leb n 8) y none).gauges) e

module _ (m m' : ℕ → Port) (same : SameCounts m m') where
  gather_same : (f : ℕ → ℕ) (p n : ℕ) → n ≤ 32 → (gather f m p n).gauges ≡ (gather f m' p n).gauges
  unfolding gather
  gather_same f p zero h = refl
  gather_same f p (suc n) h = λ i. gather_same f p n (omega arith) i + cond_same (eqb (f n) p) (m n) (m' n) (same n (omega arith)) i

  joining_same : (fs : Feeds) (b a : ℕ) → joining m fs b a ≡ joining m' fs b a
  joining_same fs b a = ap (λ (n : ℕ). ranged b (ranged a (cond (leb n 8) (Ok tt) (Err (refusal NinthGauge a))))) (gather_same (fed (moved fs b a)) a 32 (omega arith))

  rejoined_same : (fs : Feeds) (b a : ℕ) → rejoined m fs b a ≡ rejoined m' fs b a
  rejoined_same fs b a = λ i. cond (is_ok (joining_same fs b a i)) (moved fs b a) fs

  joins_same : (fs : Feeds) (js : List Join) → after_joins m fs js ≡ after_joins m' fs js
  unfolding after_joins
  joins_same fs [] = refl
  joins_same fs (j ∷ js) = joins_same (rejoined m fs j.below j.above) js ∙ ap (λ (t : Feeds). after_joins m' t js) (rejoined_same fs j.below j.above)

  refusals_same : (fs : Feeds) (js : List Join) → refusals m fs js ≡ refusals m' fs js
  unfolding refusals
  refusals_same fs [] = refl
  refusals_same fs (j ∷ js) =
      (λ i. refusal_count (joining_same fs j.below j.above i) + refusals_same (rejoined m fs j.below j.above) js i)
      ∙ ap (λ (t : Feeds). refusal_count (joining m' fs j.below j.above) + refusals m' t js) (rejoined_same fs j.below j.above)

  boxed_same : (fs : Feeds) → SameCounts (boxed fs m) (boxed fs m')
  boxed_same fs q h = capped_same (gather (fed fs) m q 32) (gather (fed fs) m' q 32) (gather_same (fed fs) q 32 (omega arith))

pub counts_alone : CountsAlone
counts_alone m m' same = record { answers = joining_same m m' same; maps = joins_same m m' same; refused = refusals_same m m' same }

-- ---- piles
pub restands : Restands
restands m m' same [] = refl
restands m m' same (js ∷ boxes) =
    restands (box_on m js) (boxed (after_joins m own js) m') (boxed_same m m' same (after_joins m own js)) boxes
    ∙ ap (λ (fs : Feeds). pile (boxed fs m') boxes) (joins_same m m' same own js)

box_on_same : (m m' : ℕ → Port) → SameCounts m m' → (js : List Join) → SameCounts (box_on m js) (box_on m' js)
box_on_same m m' same js q h = boxed_same m m' same (after_joins m own js) q h ∙ ap (λ (fs : Feeds). (boxed fs m' q).gauges) (joins_same m m' same own js)

pub reach_same : (m m' : ℕ → Port) → SameCounts m m' → (boxes : List (List Join)) (q : ℕ) → reach m boxes q ≡ reach m' boxes q
reach_same m m' same [] q = refl
reach_same m m' same (js ∷ boxes) q =
    reach_same (box_on m js) (box_on m' js) (box_on_same m m' same js) boxes (fed (after_joins m own js) q)
    ∙ ap (λ (fs : Feeds). reach (box_on m' js) boxes (fed fs q)) (joins_same m m' same own js)
