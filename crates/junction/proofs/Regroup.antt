-- A gathering of gatherings is one gathering.
use Rattle.std.proofs.Common.{◌≡◌, ℕ, zero, suc, ◌<◌, Bool, true, false, cond, eqb, ◌≢◌, sym, refl, ap, ◌∙◌, subst, ⊎_elim, arith}
use Rattle.std.proofs.lemmas.Bool.{eq-eqb, ne_eqb, cases_eq}
use Rattle.bank.specs.Ports.{Port, none}
use Rattle.junction.specs.Gather.{join, part, gather}
use Rattle.junction.proofs.Joining.{Bare, none_bare, join_bare, none_join, join_none, swap}

-- ---- the ports F 0, F 1, .. as one
unfoldable pub total : (ℕ → Port) → ℕ → Port
total F zero = none
total F (suc n) = join (total F n) (F n)

pub gather_total : (f : ℕ → ℕ) (m : ℕ → Port) (p n : ℕ) → gather f m p n ≡ total (part f m p) n
unfolding gather total
gather_total f m p zero = refl
gather_total f m p (suc n) = ap (λ (a : Port). join a (part f m p n)) (gather_total f m p n)

pub total_same : (F G : ℕ → Port) (n : ℕ) → ((q : ℕ) → q < n → F q ≡ G q) → total F n ≡ total G n
unfolding total
total_same F G zero h = refl
total_same F G (suc n) h = λ i. join (total_same F G n (λ q k. h q (omega arith)) i) (h n (omega arith) i)

total_bare : (F : ℕ → Port) → ((q : ℕ) → Bare (F q)) → (n : ℕ) → Bare (total F n)
unfolding total
total_bare F h zero = none_bare
total_bare F h (suc n) = join_bare (total F n) (F n) (total_bare F h n) (h n)

total_join : (F G : ℕ → Port) → ((q : ℕ) → Bare (F q)) → ((q : ℕ) → Bare (G q)) → (n : ℕ) → total (λ q. join (F q) (G q)) n ≡ join (total F n) (total G n)
unfolding total
total_join F G h k zero = refl
total_join F G h k (suc n) = ap (λ (a : Port). join a (join (F n) (G n))) (total_join F G h k n) ∙ swap (total F n) (total G n) (F n) (G n) (total_bare G k n) (h n)

total_none : (F : ℕ → Port) (n : ℕ) → ((q : ℕ) → q < n → F q ≡ none) → total F n ≡ none
unfolding total
total_none F zero h = refl
total_none F (suc n) h = (λ i. join (total_none F n (λ q k. h q (omega arith)) i) (h n (omega arith) i)) ∙ none_join none

total_one : (F : ℕ → Port) (x n : ℕ) → x < n → Bare (F x) → ((q : ℕ) → q ≢ x → F q ≡ none) → total F n ≡ F x
unfolding total
total_one F x zero l b h = absurd (omega arith)
total_one F x (suc n) l b h =
    ⊎_elim
    (λ (e : x ≡ n). (λ i. join (total_none F n (λ q k. h q (λ (d : q ≡ x). omega arith)) i) (F (sym e i))) ∙ none_join (F x))
    (λ (e : x ≢ n). (λ i. join (total_one F x n (omega arith) b h i) (h n (λ (d : n ≡ x). e (sym d)) i)) ∙ join_none (F x) b)
    (cases_eq x n)

-- ---- what a port brings or not
cond_none : (b : Bool) → cond b none none ≡ none
cond_none true = refl
cond_none false = refl

cond_join : (b : Bool) (x y : Port) → cond b (join x y) none ≡ join (cond b x none) (cond b y none)
cond_join true x y = refl
cond_join false x y = refl

pub cond_bare : (b : Bool) (a : Port) → Bare a → Bare (cond b a none)
cond_bare true a h = h
cond_bare false a h = none_bare

module _ (f g : ℕ → ℕ) (m : ℕ → Port) (bare : (q : ℕ) → Bare (m q)) (p n : ℕ) where
  spread : (k : ℕ) → g k < n → total (λ q. cond (eqb (f q) p) (part g m q k) none) n ≡ part (λ q. f (g q)) m p k
  spread k l =
      total_one (λ q. cond (eqb (f q) p) (part g m q k) none) (g k) n l
      (cond_bare (eqb (f (g k)) p) (part g m (g k) k) (cond_bare (eqb (g k) (g k)) (m k) (bare k)))
      (λ q d. let e = ne_eqb (g k) q (λ (c : g k ≡ q). d (sym c)) in ap (λ (b : Bool). cond (eqb (f q) p) (cond b (m k) none) none) e ∙ cond_none (eqb (f q) p))
      ∙ (let e = eq-eqb (g k) (g k) refl in ap (λ (b : Bool). cond (eqb (f (g k)) p) (cond b (m k) none) none) e)

  gather_bare : (q k : ℕ) → Bare (gather g m q k)
  gather_bare q k = subst Bare (sym (gather_total g m q k)) (total_bare (part g m q) (λ r. cond_bare (eqb (g r) q) (m r) (bare r)) k)

  -- what f gathers of what g gathers of k ports is what both together gather of them
  pub regroup : (k : ℕ) → ((q : ℕ) → q < k → g q < n) → total (part f (λ q. gather g m q k) p) n ≡ total (part (λ q. f (g q)) m p) k
  unfolding gather total
  regroup zero l = total_none (part f (λ q. gather g m q 0) p) n (λ q h. cond_none (eqb (f q) p))
  regroup (suc k) l =
      total_same (part f (λ q. gather g m q (suc k)) p) (λ q. join (part f (λ r. gather g m r k) p q) (cond (eqb (f q) p) (part g m q k) none)) n (λ q h. cond_join (eqb (f q) p) (gather g m q k) (part g m q k))
      ∙ total_join (part f (λ r. gather g m r k) p) (λ q. cond (eqb (f q) p) (part g m q k) none)
      (λ q. cond_bare (eqb (f q) p) (gather g m q k) (gather_bare q k))
      (λ q. cond_bare (eqb (f q) p) (part g m q k) (cond_bare (eqb (g k) q) (m k) (bare k))) n
      ∙ (λ i. join (regroup k (λ q h. l q (omega arith)) i) (spread k (l k (omega arith)) i))

-- ports that feed as their own number are gathered as they are
pub gather_self : (f : ℕ → ℕ) (m : ℕ → Port) → ((q : ℕ) → Bare (m q)) → (p n : ℕ) → p < n → ((q : ℕ) → q < n → f q ≡ q) → gather f m p n ≡ m p
gather_self f m bare p n h e =
    gather_total f m p n
    ∙ total_same (part f m p) (part (λ q. q) m p) n (λ q k. ap (λ (x : ℕ). cond (eqb x p) (m q) none) (e q k))
    ∙ total_one (part (λ q. q) m p) p n h (cond_bare (eqb p p) (m p) (bare p)) (λ q d. let c = ne_eqb q p d in ap (λ (b : Bool). cond b (m q) none) c)
    ∙ (let c = eq-eqb p p refl in ap (λ (b : Bool). cond b (m p) none) c)
