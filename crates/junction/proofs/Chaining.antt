-- Chains found from the highest port down.
use Rattle.std.proofs.Common.{◌≡◌, ℕ, suc, ◌+◌, ◌-◌, ◌<◌, ◌≤◌, Bool, cond, ◌==◌, ◌≢◌, List, length, get_or, set, replicate, Some, None, Option, sym, refl, ap, ◌∙◌, subst, ⊎_elim, arith}
use Rattle.std.specs.Option.{option_map, unwrap_or}
use Rattle.std.proofs.lemmas.Bool.{eq-eqb, ne_eqb, cases_eq}
use Rattle.std.proofs.lemmas.List.{get_or-set_other, get_or-set_same, get_or_default}
use Rattle.bank.specs.declared.address.Address.{Address}
use Rattle.bank.specs.Addresses.{number_of}
use Rattle.bank.proofs.Lists.{get_d_same}
use Rattle.std.proofs.Math.ListN.{get_or-map}
use Rattle.std.proofs.lemmas.List.{map-set}
use Rattle.junction.specs.Feeding.{FeedMap, feeds_to, fed, moved, next_from}
use Rattle.junction.specs.Chains.{mapped, link}

-- the chains, as far as the ports from i on make them
pub record ChainedFrom (f : ℕ → ℕ) (first next : List (Option Address)) (i : ℕ) : Type 0 where
  pub firsts : (p : ℕ) → p < 32 → link first p ≡ next_from f p i (32 - i)
  pub nexts : (q : ℕ) → i ≤ q → q < 32 → link next q ≡ next_from f (f q) (q + 1) (31 - q)

pub chained_none : (f : ℕ → ℕ) → ChainedFrom f (replicate 32 None) (replicate 32 None) 32
unfolding next_from
chained_none f = record {
  firsts = λ p h. ap (option_map number_of) (get_d_same 32 p None);
  nexts = λ q l h. absurd (omega arith);
}

-- the port i as well, which feeds a
module _ (f : ℕ → ℕ) (first next : List (Option Address)) (i a : ℕ) (x : Option Address) (y : Address) (long : length first ≡ 32) (wide : length next ≡ 32) (low : i < 32) (inside : a < 32) (feeds : f i ≡ a)
    (after : option_map number_of x ≡ link first a) (is : y.number ≡ i) (was : ChainedFrom f first next (i + 1)) where
  step : (p : ℕ) → next_from f p i (32 - i) ≡ cond (f i == p) (Some i) (next_from f p (suc i) (31 - i))
  unfolding next_from
  step p = let e : 32 - i ≡ suc (31 - i) = omega arith in ap (next_from f p i) e

  further : (p : ℕ) → p < 32 → link first p ≡ next_from f p (suc i) (31 - i)
  further p h =
      let e : 32 - (i + 1) ≡ 31 - i = omega arith in
      let d : i + 1 ≡ suc i = omega arith in
      was.firsts p h ∙ (λ k. next_from f p (d k) (e k))

  firsts : (p : ℕ) → p < 32 → link (set first a (Some y)) p ≡ next_from f p i (32 - i)
  firsts p h =
      ⊎_elim
      (λ (e : p ≡ a).
      let b = eq-eqb (f i) p (feeds ∙ sym e) in
      ap (link (set first a (Some y))) e ∙ ap (option_map number_of) (get_or-set_same first a (Some y) None (omega arith)) ∙ ap Some is ∙ sym (step p ∙ ap (λ (t : Bool). cond t (Some i) (next_from f p (suc i) (31 - i))) b))
      (λ (e : p ≢ a).
      let b = ne_eqb (f i) p (λ (d : f i ≡ p). e (sym d ∙ feeds)) in
      ap (option_map number_of) (get_or-set_other first a p (Some y) None e) ∙ further p h ∙ sym (step p ∙ ap (λ (t : Bool). cond t (Some i) (next_from f p (suc i) (31 - i))) b))
      (cases_eq p a)

  nexts : (q : ℕ) → i ≤ q → q < 32 → link (set next i x) q ≡ next_from f (f q) (q + 1) (31 - q)
  nexts q l h =
      ⊎_elim
      (λ (e : q ≡ i).
      let d : suc i ≡ i + 1 = omega arith in
      subst (λ (k : ℕ). link (set next i x) k ≡ next_from f (f k) (k + 1) (31 - k)) (sym e)
      (ap (option_map number_of) (get_or-set_same next i x None (omega arith)) ∙ after ∙ further a inside ∙ (λ k. next_from f (sym feeds k) (d k) (31 - i))))
      (λ (e : q ≢ i). ap (option_map number_of) (get_or-set_other next i q x None e) ∙ was.nexts q (omega arith) h)
      (cases_eq q i)

  pub chained_more : ChainedFrom f (set first a (Some y)) (set next i x) i
  chained_more = record { firsts = firsts; nexts = nexts }

-- ---- a map of addresses
fed_mapped : (js : List (Option Address)) (i : ℕ) (d : Address) → d.number ≡ i → fed (mapped js) i ≡ (unwrap_or (get_or js i None) d).number
fed_mapped js i d e = ap (feeds_to i) (get_or-map (option_map number_of) js i None) ∙ by_hand (get_or js i None) where
  by_hand : (o : Option Address) → feeds_to i (option_map number_of o) ≡ (unwrap_or o d).number
  by_hand None = sym e
  by_hand (Some y) = refl

-- the port that the port i feeds, as the code finds it
pub fed_found : (js : List (Option Address)) (k i : ℕ) (e : Option Address) (d r : Address) → length js ≡ 32 → i < 32 → k ≡ i → d.number ≡ i → r ≡ unwrap_or (get_or js k e) d → fed (mapped js) i ≡ r.number
fed_found js k i e d r long low is own found =
    let there : i < length js = omega arith in
    fed_mapped js i d own ∙ ap (λ (o : Option Address). (unwrap_or o d).number) (sym (get_or_default js i e None there) ∙ ap (λ (x : ℕ). get_or js x e) (sym is)) ∙ ap (λ (y : Address). y.number) (sym found)

pub link_found : (xs : List (Option Address)) (k a : ℕ) (e : Option Address) → length xs ≡ 32 → a < 32 → k ≡ a → option_map number_of (get_or xs k e) ≡ link xs a
link_found xs k a e long low is =
    let there : a < length xs = omega arith in
    ap (option_map number_of) (ap (λ (x : ℕ). get_or xs x e) is ∙ get_or_default xs a e None there)

pub mapped_moved : (js : List (Option Address)) (fs : FeedMap) (k b : ℕ) (y : Address) → mapped js ≡ fs → k ≡ b → mapped (set js k (Some y)) ≡ moved fs b y.number
mapped_moved js fs k b y h e = (λ i. record { joined = map-set (option_map number_of) js k (Some y) i }) ∙ (λ i. moved (h i) (e i) y.number)
