-- Moving a port adds its gauges once.
use Rattle.std.proofs.Common.{◌≡◌, ℕ, zero, suc, ◌+◌, ◌<◌, ◌≤◌, Bool, true, false, cond, eqb, ◌≢◌, ◌⊎◌, List, [], ◌∷◌, length, is_ok, Some, sym, refl, ◌∙◌, subst, inl, inr, ⊎_elim, arith}
use Rattle.std.proofs.lemmas.Bool.{eq-eqb, le-leb, cases_eq, false≢true}
use Rattle.std.proofs.lemmas.List.{length-set}
use Rattle.std.proofs.lemmas.Bool.Decides.{nat_tests}
use Rattle.std.proofs.lemmas.Grind.{common_steps}
use Rattle.bank.specs.Ports.{Port}
use Rattle.junction.specs.declared.joins.Join.{Join}
use Rattle.junction.specs.declared.feeds.Feeds.{Feeds}
use Rattle.junction.specs.Feeding.{fed, own, moved}
use Rattle.junction.specs.Gather.{part, gather}
use Rattle.junction.specs.Joins.{joining, rejoined, after_joins, CountedOnce}
use Rattle.junction.specs.Piles.{Free}
use Rattle.junction.proofs.Rejoined.{well}

module _ (m : ℕ → Port) (fs : Feeds) (b a : ℕ) (h : b < length fs.joined) where
  other : (q : ℕ) → q ≢ b → (part (fed (moved fs b a)) m a q).gauges ≡ (part (fed fs) m a q).gauges
  other q ne = grind (arith, common_steps, nat_tests)

  here : (part (fed (moved fs b a)) m a b).gauges ≡ (part (fed fs) m a b).gauges + cond (eqb (fed fs b) a) 0 (m b).gauges
  here = grind (arith, common_steps, nat_tests)

  before : (n : ℕ) → n ≤ b → (gather (fed (moved fs b a)) m a n).gauges ≡ (gather (fed fs) m a n).gauges
  unfolding gather
  before zero l = refl
  before (suc n) l = omega (arith, before n (omega arith), other n (λ (e : n ≡ b). omega arith))

  past : (n : ℕ) → b < n → (gather (fed (moved fs b a)) m a n).gauges ≡ (gather (fed fs) m a n).gauges + cond (eqb (fed fs b) a) 0 (m b).gauges
  unfolding gather
  past zero l = absurd (omega arith)
  past (suc n) l =
      ⊎_elim
      (λ (e : n ≡ b). let p : (part (fed (moved fs b a)) m a n).gauges ≡ (part (fed fs) m a n).gauges + cond (eqb (fed fs b) a) 0 (m b).gauges = subst (λ (x : ℕ). (part (fed (moved fs b a)) m a x).gauges ≡ (part (fed fs) m a x).gauges + cond (eqb (fed fs b) a) 0 (m b).gauges) (sym e) here in omega (arith, before n (omega arith), p))
      (λ (e : n ≢ b). omega (arith, past n (omega arith), other n e))
      (cases_eq n b)

pub counted_once : CountedOnce
counted_once m fs b a h l = past m fs b a (omega arith) 32 h

-- ---- joins that are never refused
length_rejoined : (m : ℕ → Port) (fs : Feeds) (b a : ℕ) → length (rejoined m fs b a).joined ≡ length fs.joined
length_rejoined m fs b a = elim (is_ok (joining m fs b a)) as (λ t. length (cond t (moved fs b a) fs).joined ≡ length fs.joined) [ true ↦ length-set fs.joined b (Some a) | false ↦ refl ]

length_joins : (m : ℕ → Port) (fs : Feeds) (js : List Join) → length (after_joins m fs js).joined ≡ length fs.joined
unfolding after_joins
length_joins m fs [] = refl
length_joins m fs (j ∷ js) = length_joins m (rejoined m fs j.below j.above) js ∙ length_rejoined m fs j.below j.above

adds_none : (x : Bool) (n : ℕ) → (n ≡ 0) ⊎ (x ≡ true) → cond x 0 n ≡ 0
adds_none true n h = refl
adds_none false n h = ⊎_elim (λ (e : n ≡ 0). e) (λ (e : false ≡ true). absurd (false≢true e)) h

pub free : Free
free m ok js b a hb ha way =
    let fs = after_joins m own js in
    let once = counted_once m fs b a hb (length_joins m own js) in
    let more : cond (eqb (fed fs b) a) 0 (m b).gauges ≡ 0 = adds_none (eqb (fed fs b) a) (m b).gauges (⊎_elim (λ (e : (m b).gauges ≡ 0). inl e) (λ (e : fed fs b ≡ a). inr (eq-eqb (fed fs b) a e)) way) in
    let few = (well m ok js).few a ha in
    let x = le-leb b 31 (omega arith) in
    let y = le-leb a 31 (omega arith) in
    let z = le-leb (gather (fed (moved fs b a)) m a 32).gauges 8 (omega (arith, once, more, few)) in
    rw (x, y, z)
