-- Places in chains, after a port or first, and what stands there.
use Rattle.std.proofs.Common.{◌≡◌, ℕ, zero, suc, ◌+◌, ◌-◌, ◌<◌, ◌≤◌, cond, eqb, ◌≢◌, ◌⊎◌, inl, inr, List, length, length-set, Some, None, Option, sym, refl, ap, ◌∙◌, ⊎_elim, arith}
use Rattle.std.specs.Option.{option_map}
use Rattle.std.proofs.lemmas.Bool.{cases_eq}
use Rattle.std.proofs.lemmas.List.{get_or-set_other, get_or-set_same}
use Rattle.bank.specs.declared.address.Address.{Address}
use Rattle.bank.specs.Addresses.{number_of}
use Rattle.junction.specs.Feeding.{next_from}
use Rattle.junction.specs.Chains.{Chained, link, place_after, Feeder, first_put, next_put}
use Rattle.junction.proofs.Walks.{found, passed}

-- the first port from i on that feeds p
abbrev pub onward : (ℕ → ℕ) → ℕ → ℕ → Option ℕ
onward f p i = next_from f p i (32 - i)

module _ (f : ℕ → ℕ) (p : ℕ) where
  pub onward_found : (i : ℕ) → i < 32 → f i ≡ p → onward f p i ≡ Some i
  onward_found i low e = let d : 32 - i ≡ suc (31 - i) = omega arith in ap (next_from f p i) d ∙ found f p i (31 - i) e

  pub onward_passed : (i : ℕ) → i < 32 → f i ≢ p → onward f p i ≡ onward f p (suc i)
  onward_passed i low ne =
      let d : 32 - i ≡ suc (31 - i) = omega arith in
      let e : 31 - i ≡ 32 - suc i = omega arith in
      ap (next_from f p i) d ∙ passed f p i (31 - i) ne ∙ ap (next_from f p (suc i)) e

  -- ports that do not feed p are passed
  pub onward_skip : (d i k : ℕ) → i + d ≡ k → k ≤ 32 → ((q : ℕ) → i ≤ q → q < k → f q ≢ p) → onward f p i ≡ onward f p k
  onward_skip zero i k e low none = let s : i ≡ k = omega arith in ap (onward f p) s
  onward_skip (suc d) i k e low none =
      onward_passed i (omega arith) (none i (omega arith) (omega arith))
      ∙ onward_skip d (suc i) k (omega arith) low (λ q l h. none q (omega arith) h)

-- ---- two maps that differ in one port
-- those that feed p are the same from i on
pub alike_from : (f g : ℕ → ℕ) (p n i : ℕ) → ((q : ℕ) → i ≤ q → eqb (f q) p ≡ eqb (g q) p) → next_from f p i n ≡ next_from g p i n
unfolding next_from
alike_from f g p zero i h = refl
alike_from f g p (suc n) i h =
    let more = alike_from f g p n (suc i) (λ q l. h q (omega arith)) in
    let here = h i (omega arith) in
    λ j. cond (here j) (Some i) (more j)

-- the maps are the same up to s, which feeds p
pub alike_to : (f g : ℕ → ℕ) (p s n i : ℕ) → ((q : ℕ) → q ≤ s → g q ≡ f q) → f s ≡ p → i ≤ s → s < i + n → next_from f p i n ≡ next_from g p i n
alike_to f g p s zero i same feeds l h = absurd (omega arith)
alike_to f g p s (suc n) i same feeds l h =
    ⊎_elim
    (λ (e : f i ≡ p). found f p i n e ∙ sym (found g p i n (same i l ∙ e)))
    (λ (e : f i ≢ p).
    ⊎_elim
    (λ (d : i ≡ s). absurd (e (ap f d ∙ feeds)))
    (λ (d : i ≢ s). passed f p i n e ∙ alike_to f g p s n (suc i) same feeds (omega arith) (omega arith) ∙ sym (passed g p i n (λ (k : g i ≡ p). e (sym (same i l) ∙ k))))
    (cases_eq i s))
    (cases_eq (f i) p)

-- ---- places in chains: after a port, or first
abbrev pub at_place : List (Option Address) → List (Option Address) → ℕ → Option ℕ → Option ℕ
at_place first next p None = link first p
at_place first next p (Some q) = link next q

-- two places that are not one
abbrev pub Apart : ℕ → Option ℕ → ℕ → Option ℕ → Type 0
Apart p None p' None = p ≢ p'
Apart p None p' (Some q') = Unit {0}
Apart p (Some q) p' None = Unit {0}
Apart p (Some q) p' (Some q') = q ≢ q'

pub one_or_apart : (f : ℕ → ℕ) (p : ℕ) (r : Option ℕ) (p' : ℕ) (r' : Option ℕ) → Feeder f p r → Feeder f p' r' → ((p ≡ p') × (r ≡ r')) ⊎ Apart p r p' r'
one_or_apart f p None p' None h k = ⊎_elim (λ (e : p ≡ p'). inl (e, refl)) (λ (e : p ≢ p'). inr e) (cases_eq p p')
one_or_apart f p None p' (Some q') h k = inr tt
one_or_apart f p (Some q) p' None h k = inr tt
one_or_apart f p (Some q) p' (Some q') h k = ⊎_elim (λ (e : q ≡ q'). inl (sym h ∙ ap f e ∙ k, ap Some e)) (λ (e : q ≢ q'). inr e) (cases_eq q q')

pub placed : (f : ℕ → ℕ) (first next : List (Option Address)) → Chained f first next → (p : ℕ) → p < 32 → (r : Option ℕ) → place_after r ≤ 32 → Feeder f p r → at_place first next p r ≡ onward f p (place_after r)
placed f first next was p low None in_range feeds = was.firsts p low
placed f first next was p low (Some q) in_range feeds =
    let e : 31 - q ≡ 32 - (q + 1) = omega arith in
    was.nexts q (omega arith) ∙ (λ i. next_from f (feeds i) (q + 1) (e i))

-- what stands at each place says what the chains are
pub chained_places : (f : ℕ → ℕ) (first next : List (Option Address)) → ((q : ℕ) → q < 32 → f q < 32) → ((p : ℕ) → p < 32 → (r : Option ℕ) → place_after r ≤ 32 → Feeder f p r → at_place first next p r ≡ onward f p (place_after r)) → Chained f first next
chained_places f first next inside h = record {
  firsts = λ p low. h p low None (omega arith) tt;
  nexts = λ q low. let e : 32 - (q + 1) ≡ 31 - q = omega arith in h (f q) (inside q low) (Some q) (omega arith) refl ∙ ap (next_from f (f q) (q + 1)) e;
}

-- ---- a port put at a place
module _ (first next : List (Option Address)) (p : ℕ) (x v : Option Address) where
  pub put_here : length first ≡ 32 → length next ≡ 32 → p < 32 → place_after (option_map number_of x) ≤ 32 → at_place (first_put first p x v) (next_put next x v) p (option_map number_of x) ≡ option_map number_of v
  put_here long wide low in_range = by_hand x in_range where
    by_hand : (x : Option Address) → place_after (option_map number_of x) ≤ 32 → at_place (first_put first p x v) (next_put next x v) p (option_map number_of x) ≡ option_map number_of v
    by_hand None h = ap (option_map number_of) (get_or-set_same first p v None (omega arith))
    by_hand (Some q) h = ap (option_map number_of) (get_or-set_same next q.number v None (omega arith))

  pub put_apart : (p' : ℕ) (r' : Option ℕ) → Apart p' r' p (option_map number_of x) → at_place (first_put first p x v) (next_put next x v) p' r' ≡ at_place first next p' r'
  put_apart p' r' apart = by_hand x r' apart where
    by_hand : (x : Option Address) (r' : Option ℕ) → Apart p' r' p (option_map number_of x) → at_place (first_put first p x v) (next_put next x v) p' r' ≡ at_place first next p' r'
    by_hand None None h = ap (option_map number_of) (get_or-set_other first p p' v None h)
    by_hand None (Some q') h = refl
    by_hand (Some q) None h = refl
    by_hand (Some q) (Some q') h = ap (option_map number_of) (get_or-set_other next q.number q' v None h)

pub first_put_long : (first : List (Option Address)) (p : ℕ) (x v : Option Address) → length (first_put first p x v) ≡ length first
first_put_long first p None v = length-set _ _ _
first_put_long first p (Some q) v = refl

pub next_put_long : (next : List (Option Address)) (x v : Option Address) → length (next_put next x v) ≡ length next
next_put_long next None v = refl
next_put_long next (Some q) v = length-set _ _ _
