-- Joins made one after another keep a box within its limits.
use Rattle.std.proofs.Common.{◌≡◌, ℕ, zero, suc, ◌<◌, ◌≤◌, Bool, true, false, cond, leb, ◌≢◌, ◌⊎◌, List, [], ◌∷◌, is_ok, None, Ok, Err, sym, refl, ap, subst, ⊎_elim, arith}
use Rattle.std.proofs.lemmas.Bool.{cases_eq, cases_Bool, leb-true, false≢true}
use Rattle.std.proofs.lemmas.Bool.Decides.{nat_tests}
use Rattle.std.proofs.lemmas.Grind.{common_steps}
use Rattle.fault.specs.declared.faults.Fault.{Fault}
use Rattle.fault.specs.declared.causes.Cause.TheVariants.{NinthGauge, PortRange}
use Rattle.fault.specs.Faults.{refusal}
use Rattle.bank.proofs.Lists.{get_d_same}
use Rattle.bank.specs.Ports.{Port, Sound}
use Rattle.junction.specs.declared.feeds.Feeds.{Feeds}
use Rattle.junction.specs.declared.joins.Join.{Join}
use Rattle.junction.specs.Feeding.{feeds_to, fed, own, moved}
use Rattle.junction.specs.Gather.{part, gather}
use Rattle.junction.specs.Joins.{joining, rejoined, after_joins}
use Rattle.junction.specs.Piles.{Eight}
use Rattle.junction.proofs.Regroup.{gather_self}

fed_either : (fs : Feeds) (b a q : ℕ) → (fed (moved fs b a) q ≡ a) ⊎ (fed (moved fs b a) q ≡ fed fs q)
fed_either fs b a q = grind (arith, common_steps)

fed_own : (q : ℕ) → fed own q ≡ q
fed_own q = ap (feeds_to q) (get_d_same 32 q None)

-- ---- where a port is moved, no port but the new one gets more gauges
part_less : (f g : ℕ → ℕ) (m : ℕ → Port) (p a q : ℕ) → p ≢ a → (f q ≡ a) ⊎ (f q ≡ g q) → (part f m p q).gauges ≤ (part g m p q).gauges
part_less f g m p a q d h = grind (arith, nat_tests)

gather_less : (f g : ℕ → ℕ) (m : ℕ → Port) (p : ℕ) → ((q : ℕ) → (part f m p q).gauges ≤ (part g m p q).gauges) → (n : ℕ) → (gather f m p n).gauges ≤ (gather g m p n).gauges
unfolding gather
gather_less f g m p h zero = omega arith
gather_less f g m p h (suc n) = omega (arith, gather_less f g m p h n, h n)

ok_parts : (x y z : Bool) (d e k : Fault) → is_ok {T = Unit {0}} {E = Fault} (cond x (cond y (cond z (Ok tt) (Err d)) (Err e)) (Err k)) ≡ true → (x ≡ true) × (y ≡ true) × (z ≡ true)
ok_parts true true true d e k h = (refl, refl, refl)
ok_parts true true false d e k h = absurd (false≢true h)
ok_parts true false z d e k h = absurd (false≢true h)
ok_parts false y z d e k h = absurd (false≢true h)

-- what holds of every box that joins made: its ports feed ports of its own, and eight gauges at most feed each
pub record Well (m : ℕ → Port) (fs : Feeds) : Type 0 where
  pub inside : (q : ℕ) → q < 32 → fed fs q < 32
  pub few : (p : ℕ) → p < 32 → (gather (fed fs) m p 32).gauges ≤ 8

module _ (m : ℕ → Port) (ok : (q : ℕ) → Sound (m q)) where
  well_own : Well m own
  well_own = record {
    inside = λ q h. omega (arith, fed_own q);
    few = λ p h. subst (λ (a : Port). a.gauges ≤ 8) (sym (gather_self (fed own) m (λ q. (ok q).bare) p 32 h (λ q k. fed_own q))) (ok p).few;
  }

  well_moved : (fs : Feeds) (b a : ℕ) → Well m fs → a ≤ 31 → (gather (fed (moved fs b a)) m a 32).gauges ≤ 8 → Well m (moved fs b a)
  well_moved fs b a w h k = record {
    inside = λ q l. ⊎_elim (λ (e : fed (moved fs b a) q ≡ a). omega arith) (λ (e : fed (moved fs b a) q ≡ fed fs q). omega (arith, w.inside q l)) (fed_either fs b a q);
    few = λ p l. ⊎_elim
        (λ (e : p ≡ a). subst (λ (x : ℕ). (gather (fed (moved fs b a)) m x 32).gauges ≤ 8) (sym e) k)
        (λ (e : p ≢ a). omega (arith, w.few p l, gather_less (fed (moved fs b a)) (fed fs) m p (λ q. part_less (fed (moved fs b a)) (fed fs) m p a q e (fed_either fs b a q)) 32))
        (cases_eq p a);
  }

  well_rejoined : (fs : Feeds) (b a : ℕ) → Well m fs → Well m (rejoined m fs b a)
  well_rejoined fs b a w =
      ⊎_elim
      (λ (e : is_ok (joining m fs b a) ≡ true).
      let t = ok_parts (leb b 31) (leb a 31) (leb (gather (fed (moved fs b a)) m a 32).gauges 8) (refusal NinthGauge a) (refusal PortRange a) (refusal PortRange b) e in
      subst (λ (x : Bool). Well m (cond x (moved fs b a) fs)) (sym e) (well_moved fs b a w (leb-true a 31 t.1) (leb-true _ 8 t.2)))
      (λ (e : is_ok (joining m fs b a) ≡ false). subst (λ (x : Bool). Well m (cond x (moved fs b a) fs)) (sym e) w)
      (cases_Bool (is_ok (joining m fs b a)))

  well_joins : (fs : Feeds) (js : List Join) → Well m fs → Well m (after_joins m fs js)
  unfolding after_joins
  well_joins fs [] w = w
  well_joins fs (j ∷ js) w = well_joins (rejoined m fs j.below j.above) js (well_rejoined fs j.below j.above w)

  pub well : (js : List Join) → Well m (after_joins m own js)
  well js = well_joins own js well_own

pub eight : Eight
eight m ok js p h = (well m ok js).few p h
