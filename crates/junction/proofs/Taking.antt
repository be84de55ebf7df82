-- What taking at a port of a box answers and leaves.
use Rattle.std.proofs.Common.{◌≡◌, ℕ, zero, suc, ◌+◌, ◌<◌, ◌≤◌, Bool, true, false, cond, ◌&&◌, eqb, ltb, leb, ◌≢◌, List, [], ◌∷◌, length, Some, None, Ok, Option, sym, refl, ap, ◌∙◌, subst, ⊎_elim, arith}
use Rattle.std.specs.Option.{is_none}
use Rattle.std.proofs.lemmas.Bool.{cases_eq, le-leb, false≢true}
use Rattle.std.proofs.Math.Bool.{and-false, and-true}
use Rattle.std.proofs.lemmas.Bool.Decides.{nat_tests}
use Rattle.bank.specs.declared.reading.Reading.{Reading}
use Rattle.bank.specs.Ports.{Port, Sound, none, rest, popped, first, first_at, rest_at}
use Rattle.junction.specs.declared.feeds.Feeds.{Feeds}
use Rattle.junction.specs.Feeding.{fed}
use Rattle.junction.specs.Gather.{paired, lines, join, part, gather, capped, boxed, gives, dry_from, drawn}
use Rattle.junction.specs.Limits.{boxed_sound}
use Rattle.junction.proofs.Parts.{some_dry, none_dry, wet_gather}
use Rattle.junction.proofs.Drawing.{top}

-- ---- a gathered port without its first reading
rest_paired : (xs ys : List Reading) → rest (paired xs ys) ≡ paired (rest xs) (rest ys)
rest_paired [] ys = refl
rest_paired (x ∷ []) [] = refl
rest_paired (x ∷ y ∷ xs) [] = refl
rest_paired (x ∷ xs) (y ∷ ys) = refl

rest_lines : (m n : ℕ) (xs ys : List Reading) → rest (lines m n xs ys) ≡ lines m n (rest xs) (rest ys)
rest_lines zero n xs ys = refl
rest_lines (suc m) zero xs ys = refl
rest_lines (suc m) (suc n) xs ys = rest_paired xs ys

popped_join : (a b : Port) → join (popped a) (popped b) ≡ popped (join a b)
popped_join a b = λ i. record { gauges = a.gauges + b.gauges; waiting = sym (rest_lines a.gauges b.gauges a.waiting b.waiting) i }

popped_capped : (a : Port) → capped (popped a) ≡ popped (capped a)
popped_capped a = grind (arith, nat_tests)

-- ---- the box once a reading was taken from each port that feeds p
twice : (b : Bool) (a : Port) → cond b (cond b (popped a) a) none ≡ popped (cond b a none)
twice b a = grind arith

apart : (x r p : ℕ) (a : Port) → r ≢ p → cond (eqb x r) (cond (eqb x p) (popped a) a) none ≡ cond (eqb x r) a none
apart x r p a ne = grind (arith, nat_tests)

module _ (f : ℕ → ℕ) (m k : ℕ → Port) (p : ℕ) (was : k ≡ drawn f m p 32) where
  at : (q : ℕ) → q < 32 → drawn f m p 32 q ≡ cond (eqb (f q) p) (popped (m q)) (m q)
  at q h = grind (arith, nat_tests)

  is : (q : ℕ) → q < 32 → k q ≡ cond (eqb (f q) p) (popped (m q)) (m q)
  is q h = (λ i. was i q) ∙ at q h

  part_popped : (q : ℕ) → q < 32 → part f k p q ≡ popped (part f m p q)
  part_popped q h = ap (λ (a : Port). cond (eqb (f q) p) a none) (is q h) ∙ twice (eqb (f q) p) (m q)

  part_kept : (r : ℕ) → r ≢ p → (q : ℕ) → q < 32 → part f k r q ≡ part f m r q
  part_kept r ne q h = ap (λ (a : Port). cond (eqb (f q) r) a none) (is q h) ∙ apart (f q) r p (m q) ne

  pub gather_popped : (n : ℕ) → n ≤ 32 → gather f k p n ≡ popped (gather f m p n)
  unfolding gather
  gather_popped zero h = refl
  gather_popped (suc n) h = (λ i. join (gather_popped n (omega arith) i) (part_popped n (omega arith) i)) ∙ popped_join (gather f m p n) (part f m p n)

  pub gather_kept : (r : ℕ) → r ≢ p → (n : ℕ) → n ≤ 32 → gather f k r n ≡ gather f m r n
  unfolding gather
  gather_kept r ne zero h = refl
  gather_kept r ne (suc n) h = λ i. join (gather_kept r ne n (omega arith) i) (part_kept r ne n (omega arith) i)

pub here : (m : ℕ → Port) (p : ℕ) → p ≤ 31 → rest_at m p p ≡ popped (m p)
here m p h = grind (arith, nat_tests)

pub elsewhere : (m : ℕ → Port) (p r : ℕ) → r ≢ p → rest_at m p r ≡ m r
elsewhere m p r ne = grind (arith, nat_tests)

-- one reading is gone at port p, and nothing elsewhere
pub box_drawn : (fs : Feeds) (m k : ℕ → Port) (p : ℕ) → p ≤ 31 → k ≡ drawn (fed fs) m p 32 → boxed fs k ≡ rest_at (boxed fs m) p
box_drawn fs m k p h was = λ i. λ r.
    ⊎_elim
    (λ (e : r ≡ p). subst (λ (x : ℕ). boxed fs k x ≡ rest_at (boxed fs m) p x) (sym e) (ap capped (gather_popped (fed fs) m k p was 32 (omega arith)) ∙ popped_capped (gather (fed fs) m p 32) ∙ sym (here (boxed fs m) p h)))
    (λ (e : r ≢ p). ap capped (gather_kept (fed fs) m k p was r e 32 (omega arith)) ∙ sym (elsewhere (boxed fs m) p r e))
    (cases_eq r p) i

-- ---- what is answered
module _ (fs : Feeds) (m : ℕ → Port) (p : ℕ) where
  -- the search came to a dry port
  pub dry_gives : (x : ℕ) → dry_from (fed fs) m p 0 32 ≡ Some x → false ≡ gives fs m p
  dry_gives x e = sym (ap (λ (o : Option ℕ). ltb 0 (boxed fs m p).gauges && is_none o) e ∙ and-false (ltb 0 (boxed fs m p).gauges))

  -- it came to none, and counted n gauges
  module _ (n : ℕ) (none_dry : dry_from (fed fs) m p 0 32 ≡ None) (counted : n ≡ (gather (fed fs) m p 32).gauges) where
    count_gives : gives fs m p ≡ ltb 0 (capped (gather (fed fs) m p 32)).gauges
    count_gives = ap (λ (o : Option ℕ). ltb 0 (boxed fs m p).gauges && is_none o) none_dry ∙ and-true (ltb 0 (boxed fs m p).gauges)

    pub some_gives : 0 < n → leb n 8 ≡ gives fs m p
    some_gives h = few (gather (fed fs) m p 32) counted ∙ sym count_gives where
      few : (a : Port) → n ≡ a.gauges → leb n 8 ≡ ltb 0 (capped a).gauges
      few a e = grind (arith, nat_tests)

  -- ---- it gives a reading, or not
  cond_empty : (b : Bool) (x : Port) → length x.waiting ≡ 0 → length (cond b x none).waiting ≡ 0
  cond_empty true x e = e
  cond_empty false x e = refl

  empty_by : (g : ℕ) (found : Option ℕ) → (g ≡ 0 → length (boxed fs m p).waiting ≡ 0) → found ≡ dry_from (fed fs) m p 0 32 → (ltb 0 g && is_none found) ≡ false → length (boxed fs m p).waiting ≡ 0
  empty_by zero found h d e = h refl
  empty_by (suc g) (Some x) h d e = cond_empty (leb (gather (fed fs) m p 32).gauges 8) (gather (fed fs) m p 32) (some_dry (fed fs) m p 32 0 32 x (omega arith) (sym d)).1
  empty_by (suc g) None h d e = h (grind (arith, nat_tests))

  pub none_waits : ((q : ℕ) → Sound (m q)) → gives fs m p ≡ false → length (boxed fs m p).waiting ≡ 0
  none_waits ok e = empty_by (boxed fs m p).gauges _ (λ d. ap length ((boxed_sound fs m ok p).bare d)) refl e

  -- a port that gives a reading
  module _ (so : gives fs m p ≡ true) where
    none_found : (g : ℕ) (found : Option ℕ) → (ltb 0 g && is_none found) ≡ true → (0 < g) × (found ≡ None)
    none_found zero found e = absurd (false≢true e)
    none_found (suc g) (Some x) e = absurd (false≢true (sym (and-false (ltb 0 (suc g))) ∙ e))
    none_found (suc g) None e = (omega arith, refl)

    pub finds_none : dry_from (fed fs) m p 0 32 ≡ None
    finds_none = (none_found (boxed fs m p).gauges _ so).1

    few : (a : Port) → 0 < (capped a).gauges → (capped a ≡ a) × (0 < a.gauges)
    few a h = grind (arith, nat_tests)

    top_first : (xs : List Reading) → 0 < length xs → Ok (top xs) ≡ first p xs
    top_first [] h = absurd (omega arith)
    top_first (x ∷ xs) h = refl

    pub given_first : (r : Reading) → p ≤ 31 → r ≡ top (gather (fed fs) m p 32).waiting → Ok r ≡ first_at (boxed fs m) p
    given_first r low e =
        let a = le-leb p 31 low in
        let t = few (gather (fed fs) m p 32) (none_found (boxed fs m p).gauges _ so).0 in
        let w = wet_gather (fed fs) m p 32 (λ q l. none_dry (fed fs) m p 32 0 finds_none q (omega arith) (omega arith)) t.1 in
        ap Ok e ∙ top_first (gather (fed fs) m p 32).waiting w ∙ ap (λ (x : Port). first p x.waiting) (sym t.0) ∙ rw a refl
