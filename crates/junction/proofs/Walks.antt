-- A walk along the chain of a port is one over all ports: those between add nothing.
use Rattle.std.proofs.Common.{◌≡◌, ℕ, zero, suc, ◌+◌, ◌-◌, ◌<◌, ◌≤◌, cond, ◌≢◌, Some, None, Option, sym, refl, ap, ◌∙◌, subst, ⊎_elim, arith}
use Rattle.std.proofs.lemmas.Bool.{eq-eqb, ne_eqb, cases_eq}
use Rattle.std.proofs.lemmas.Bool.Decides.{nat_tests}
use Rattle.std.specs.Option.{option_map}
use Rattle.bank.specs.declared.address.Address.{Address}
use Rattle.bank.specs.Addresses.{number_of}
use Rattle.bank.specs.Ports.{Port, Sound, none}
use Rattle.junction.specs.Feeding.{next_from}
use Rattle.junction.specs.Gather.{join, part, gather, dry, dry_from, drawn}
use Rattle.junction.specs.declared.as_one.Tally.{Tally}
use Rattle.junction.specs.Counting.{tally_of, joined}
use Rattle.junction.specs.Limits.{gather_fair}
use Rattle.junction.proofs.Joining.{join_none}
use Rattle.junction.proofs.Parts.{gather_next, tally_next, dry_ended}

-- where a walk stands: at the port that it came to, or past the last
abbrev pub stop : Option ℕ → ℕ
stop None = 32
stop (Some q) = q

-- the port where it stands feeds p
abbrev pub Stands : (ℕ → ℕ) → ℕ → Option ℕ → Type 0
Stands f p None = Unit {0}
Stands f p (Some q) = f q ≡ p

-- at an address
pub stop_at : (x : Option Address) (q : Address) → x ≡ Some q → stop (option_map number_of x) ≡ q.number
stop_at x q e = ap (λ (o : Option Address). stop (option_map number_of o)) e

pub stands_at : (f : ℕ → ℕ) (p : ℕ) (x : Option Address) (q : Address) → x ≡ Some q → Stands f p (option_map number_of x) → f q.number ≡ p
stands_at f p x q e h = subst (λ (o : Option Address). Stands f p (option_map number_of o)) e h

module _ (f : ℕ → ℕ) (p : ℕ) where
  pub found : (q n : ℕ) → f q ≡ p → next_from f p q (suc n) ≡ Some q
  unfolding next_from
  found q n e = let b = eq-eqb (f q) p e in rw b

  pub passed : (q n : ℕ) → f q ≢ p → next_from f p q (suc n) ≡ next_from f p (suc q) n
  unfolding next_from
  passed q n ne = let b = ne_eqb (f q) p ne in rw b

  pub stands : (n q : ℕ) → Stands f p (next_from f p q n)
  unfolding next_from
  stands zero q = tt
  stands (suc n) q =
      ⊎_elim
      (λ (e : f q ≡ p). subst (Stands f p) (sym (found q n e)) e)
      (λ (e : f q ≢ p). subst (Stands f p) (sym (passed q n e)) (stands n (suc q)))
      (cases_eq (f q) p)

  pub ahead : (n q : ℕ) → q + n ≡ 32 → q ≤ stop (next_from f p q n)
  unfolding next_from
  ahead zero q h = omega arith
  ahead (suc n) q h =
      ⊎_elim
      (λ (e : f q ≡ p). subst (λ (o : Option ℕ). q ≤ stop o) (sym (found q n e)) (omega arith))
      (λ (e : f q ≢ p). let k = ahead n (suc q) (omega arith) in subst (λ (o : Option ℕ). q ≤ stop o) (sym (passed q n e)) (omega (arith, k)))
      (cases_eq (f q) p)

  module _ (m : ℕ → Port) where
    part_none : (q : ℕ) → f q ≢ p → part f m p q ≡ none
    part_none q ne = let b = ne_eqb (f q) p ne in rw b

    pub part_here : (q : ℕ) → f q ≡ p → part f m p q ≡ m q
    part_here q e = let b = eq-eqb (f q) p e in rw b

    gather_skip : ((q : ℕ) → Sound (m q)) → (q : ℕ) → f q ≢ p → gather f m p (suc q) ≡ gather f m p q
    unfolding gather
    gather_skip ok q ne = ap (join (gather f m p q)) (part_none q ne) ∙ join_none (gather f m p q) (gather_fair f m p ok q).bare

    pub gather_stop : ((q : ℕ) → Sound (m q)) → (n q : ℕ) → q + n ≡ 32 → gather f m p (stop (next_from f p q n)) ≡ gather f m p q
    unfolding next_from
    gather_stop ok zero q h = let e : 32 ≡ q = omega arith in ap (gather f m p) e
    gather_stop ok (suc n) q h =
        ⊎_elim
        (λ (e : f q ≡ p). ap (λ (o : Option ℕ). gather f m p (stop o)) (found q n e))
        (λ (e : f q ≢ p). ap (λ (o : Option ℕ). gather f m p (stop o)) (passed q n e) ∙ gather_stop ok n (suc q) (omega arith) ∙ gather_skip ok q e)
        (cases_eq (f q) p)

    dry_skip : (q n : ℕ) → f q ≢ p → dry_from f m p q (suc n) ≡ dry_from f m p (suc q) n
    unfolding dry_from
    dry_skip q n ne = ap (λ (a : Port). cond (dry a) (Some q) (dry_from f m p (suc q) n)) (part_none q ne)

    pub dry_stop : (n q : ℕ) → q + n ≡ 32 → dry_from f m p (stop (next_from f p q n)) (32 - stop (next_from f p q n)) ≡ dry_from f m p q n
    unfolding next_from dry_from
    dry_stop zero q h = refl
    dry_stop (suc n) q h =
        ⊎_elim
        (λ (e : f q ≡ p). let k : 32 - q ≡ suc n = omega arith in ap (λ (o : Option ℕ). dry_from f m p (stop o) (32 - stop o)) (found q n e) ∙ ap (dry_from f m p q) k)
        (λ (e : f q ≢ p). ap (λ (o : Option ℕ). dry_from f m p (stop o) (32 - stop o)) (passed q n e) ∙ dry_stop n (suc q) (omega arith) ∙ sym (dry_skip q n e))
        (cases_eq (f q) p)

    drawn_skip : (q k : ℕ) → f q ≢ p → drawn f m p (suc q) k ≡ drawn f m p q k
    drawn_skip q k ne = grind (arith, nat_tests)

    pub drawn_stop : (n q : ℕ) → q + n ≡ 32 → (k : ℕ) → drawn f m p (stop (next_from f p q n)) k ≡ drawn f m p q k
    unfolding next_from
    drawn_stop zero q h k = let e : 32 ≡ q = omega arith in ap (λ (x : ℕ). drawn f m p x k) e
    drawn_stop (suc n) q h k =
        ⊎_elim
        (λ (e : f q ≡ p). ap (λ (o : Option ℕ). drawn f m p (stop o) k) (found q n e))
        (λ (e : f q ≢ p). ap (λ (o : Option ℕ). drawn f m p (stop o) k) (passed q n e) ∙ drawn_stop n (suc q) (omega arith) k ∙ drawn_skip q k e)
        (cases_eq (f q) p)

-- ---- the first step of a walk: what the map answers for the port p
module _ (f : ℕ → ℕ) (p : ℕ) (o : Option ℕ) (is : o ≡ next_from f p 0 32) where
  pub first_stands : Stands f p o
  first_stands = subst (Stands f p) (sym is) (stands f p 32 0)

  pub first_gather : (m : ℕ → Port) → ((q : ℕ) → Sound (m q)) → gather f m p (stop o) ≡ none
  unfolding gather
  first_gather m ok = ap (λ (x : Option ℕ). gather f m p (stop x)) is ∙ gather_stop f p m ok 32 0 refl

  pub first_dry : (m : ℕ → Port) → dry_from f m p (stop o) (32 - stop o) ≡ dry_from f m p 0 32
  first_dry m = ap (λ (x : Option ℕ). dry_from f m p (stop x) (32 - stop x)) is ∙ dry_stop f p m 32 0 refl

  pub first_drawn : (m : ℕ → Port) → drawn f m p (stop o) ≡ drawn f m p 0
  first_drawn m = ap (λ (x : Option ℕ). drawn f m p (stop x)) is ∙ (λ i. λ k. drawn_stop f p m 32 0 refl k i)

-- ---- a step further: what it answers for the port q, which feeds p
module _ (f : ℕ → ℕ) (p q : ℕ) (low : q ≤ 31) (here : f q ≡ p) (o : Option ℕ) (is : o ≡ next_from f (f q) (q + 1) (31 - q)) where
  so : o ≡ next_from f p (q + 1) (31 - q)
  so = is ∙ ap (λ (x : ℕ). next_from f x (q + 1) (31 - q)) here

  pub next_stands : Stands f p o
  next_stands = subst (Stands f p) (sym so) (stands f p (31 - q) (q + 1))

  pub next_ahead : q < stop o
  next_ahead = let k = ahead f p (31 - q) (q + 1) (omega arith) in subst (λ (x : Option ℕ). q < stop x) (sym so) (omega (arith, k))

  pub next_gather : (m : ℕ → Port) → ((k : ℕ) → Sound (m k)) → gather f m p (stop o) ≡ gather f m p (q + 1)
  next_gather m ok = ap (λ (x : Option ℕ). gather f m p (stop x)) so ∙ gather_stop f p m ok (31 - q) (q + 1) (omega arith)

  pub next_dry : (m : ℕ → Port) → dry_from f m p (stop o) (32 - stop o) ≡ dry_from f m p (q + 1) (32 - (q + 1))
  next_dry m =
      let e : 31 - q ≡ 32 - (q + 1) = omega arith in
      ap (λ (x : Option ℕ). dry_from f m p (stop x) (32 - stop x)) so ∙ dry_stop f p m (31 - q) (q + 1) (omega arith) ∙ ap (dry_from f m p (q + 1)) e

  pub next_drawn : (m : ℕ → Port) → drawn f m p (stop o) ≡ drawn f m p (q + 1)
  next_drawn m = ap (λ (x : Option ℕ). drawn f m p (stop x)) so ∙ (λ i. λ k. drawn_stop f p m (31 - q) (q + 1) (omega arith) k i)

  pub next_tally : (m : ℕ → Port) → ((k : ℕ) → Sound (m k)) → (s c : Tally) → s ≡ tally_of (gather f m p q) → c ≡ tally_of (m q) → joined s c ≡ tally_of (gather f m p (stop o))
  next_tally m ok s c es ec = tally_next f m p q s c es (ec ∙ ap tally_of (sym (part_here f p m q here))) ∙ ap tally_of (sym (next_gather m ok))

  pub next_gauges : (m : ℕ → Port) → ((k : ℕ) → Sound (m k)) → (s c : ℕ) → s ≡ (gather f m p q).gauges → c ≡ (m q).gauges → s + c ≡ (gather f m p (stop o)).gauges
  next_gauges m ok s c es ec =
      (λ i. es i + (ec ∙ ap (λ (a : Port). a.gauges) (sym (part_here f p m q here))) i)
      ∙ ap (λ (a : Port). a.gauges) (sym (gather_next f m p q) ∙ sym (next_gather m ok))

-- ---- the end of a walk that counts and searches
pub search_ended : (f : ℕ → ℕ) (m : ℕ → Port) (p n : ℕ) (x : Option Address) → x ≡ None → n ≡ (gather f m p (stop (option_map number_of x))).gauges → dry_from f m p (stop (option_map number_of x)) (32 - stop (option_map number_of x)) ≡ dry_from f m p 0 32 → (n ≡ (gather f m p 32).gauges) × (dry_from f m p 0 32 ≡ None)
search_ended f m p n x e h k = (
  h ∙ ap (λ (y : Option Address). (gather f m p (stop (option_map number_of y))).gauges) e,
  sym k ∙ ap (λ (y : Option Address). dry_from f m p (stop (option_map number_of y)) (32 - stop (option_map number_of y))) e ∙ dry_ended f m p 32 (omega arith),
)
