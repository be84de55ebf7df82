-- What one more feeding port adds when readings are taken.
use Rattle.std.proofs.Common.{◌≡◌, ℕ, zero, suc, ◌+◌, ◌-◌, ◌<◌, ◌≤◌, Bool, true, false, cond, eqb, Option, Some, None, Ok, Err, List, [], ◌∷◌, length, sym, refl, ap, ◌∙◌, subst, arith}
use Rattle.std.proofs.lemmas.Bool.{eq-eqb, le-leb}
use Rattle.std.proofs.lemmas.Bool.Decides.{nat_tests}
use Rattle.std.proofs.lemmas.Int.{ints}
use Rattle.fault.specs.declared.faults.Fault.{Fault}
use Rattle.bank.specs.declared.reading.Reading.{Reading}
use Rattle.bank.specs.Ports.{Port, Sound, Small, front, first, first_at, rest_at}
use Rattle.junction.specs.Feeding.{next_from}
use Rattle.junction.specs.Gather.{both, paired, lines, join, part, gather, dry_from, drawn}
use Rattle.junction.specs.Counting.{nothing, reading_or_nothing, Carried}
use Rattle.junction.specs.Limits.{Fair, part_fair, part_few, gather_fair}
use Rattle.junction.proofs.Parts.{Wet, none_dry, wet_gather, gather_next, gather_few}
use Rattle.junction.proofs.Walks.{stop, part_here, next_gather, next_drawn}

-- ---- the first reading of a gathered port
-- the first reading of a list, or nothing
abbrev pub top : List Reading → Reading
top xs = reading_or_nothing (front xs)

-- a sum with a reading added, if there is one
abbrev pub added : Reading → Option Reading → Reading
added s None = s
added s (Some y) = both s y

nothing_added : (y : Option Reading) → added nothing y ≡ reading_or_nothing y
nothing_added None = refl
nothing_added (Some y) = λ i. record { load = zero_load i; mark = y.mark } where
  zero_load : (both nothing y).load ≡ y.load
  zero_load = omega (arith, ints)

top_paired : (xs ys : List Reading) → 0 < length xs → 0 < length ys → top (paired xs ys) ≡ added (top xs) (front ys)
top_paired [] ys h k = absurd (omega arith)
top_paired (x ∷ xs) [] h k = absurd (omega arith)
top_paired (x ∷ xs) (y ∷ ys) h k = refl

top_lines : (m n : ℕ) (xs ys : List Reading) → (m ≡ 0 → xs ≡ []) → (n ≡ 0 → ys ≡ []) → (0 < m → 0 < length xs) → (0 < n → 0 < length ys) → top (lines m n xs ys) ≡ added (top xs) (front ys)
top_lines zero n xs ys a b h k = sym (ap (λ (zs : List Reading). added (top zs) (front ys)) (a refl) ∙ nothing_added (front ys))
top_lines (suc m) zero xs ys a b h k = sym (ap (λ (zs : List Reading). added (top xs) (front zs)) (b refl))
top_lines (suc m) (suc n) xs ys a b h k = top_paired xs ys (h (omega arith)) (k (omega arith))

top_join : (a b : Port) → Fair a → Fair b → Wet a → Wet b → top (join a b).waiting ≡ added (top a.waiting) (front b.waiting)
top_join a b h k u v = top_lines a.gauges b.gauges a.waiting b.waiting h.bare k.bare u v

light_top : (n : ℕ) (xs : List Reading) → n ≤ 256 → Small n xs → Carried (top xs)
light_top n [] k h = omega arith
light_top n (x ∷ xs) k h = omega (arith, h.0)

-- ---- what taking at a port answers
pub first_some : (m : ℕ → Port) (q : ℕ) (x : Reading) → q ≤ 31 → Ok x ≡ first_at m q → Some x ≡ front (m q).waiting
first_some m q x h e = let a = le-leb q 31 h in by_hand (m q).waiting (e ∙ rw a refl) where
  by_hand : (xs : List Reading) → Ok x ≡ first q xs → Some x ≡ front xs
  by_hand [] d = absurd cc
  by_hand (y ∷ ys) d = cc

pub first_none : (m : ℕ → Port) (q : ℕ) (x : Fault) → q ≤ 31 → Err x ≡ first_at m q → None ≡ front (m q).waiting
first_none m q x h e = let a = le-leb q 31 h in by_hand (m q).waiting (e ∙ rw a refl) where
  by_hand : (xs : List Reading) → Err x ≡ first q xs → None ≡ front xs
  by_hand [] d = refl
  by_hand (y ∷ ys) d = absurd cc

-- ---- one turn of the loop that takes
module _ (f : ℕ → ℕ) (m : ℕ → Port) (p : ℕ) (ok : (q : ℕ) → Sound (m q)) (n : ℕ) (h : n < 32) where
  pub light_sum : (x : Reading) → x ≡ top (gather f m p n).waiting → Carried x
  light_sum x e = subst Carried (sym e) (light_top _ _ (omega (arith, gather_few f m p ok n)) (gather_fair f m p ok n).small)

  pub light_part : (y : Reading) → Some y ≡ front (part f m p n).waiting → Carried y
  light_part y e = subst Carried (sym (ap reading_or_nothing e)) (light_top _ _ (omega (arith, part_few f m p ok n)) (part_fair f m p ok n).small)

  pub top_next : dry_from f m p 0 32 ≡ None → (x : Reading) (y : Option Reading) → x ≡ top (gather f m p n).waiting → y ≡ front (part f m p n).waiting → added x y ≡ top (gather f m p (n + 1)).waiting
  top_next e x y ex ey =
      let wet : (q : ℕ) → q < 32 → Wet (part f m p q) = λ q l. none_dry f m p 32 0 e q (omega arith) (omega arith) in
      (λ i. added (ex i) (ey i))
      ∙ sym (top_join (gather f m p n) (part f m p n) (gather_fair f m p ok n) (part_fair f m p ok n) (wet_gather f m p n (λ q l. wet q (omega arith))) (wet n h))
      ∙ sym (ap (λ (a : Port). top a.waiting) (gather_next f m p n))

-- ---- the ports once readings were taken
module _ (f : ℕ → ℕ) (m : ℕ → Port) (p : ℕ) where
  untouched : (n k : ℕ) → n ≤ k → drawn f m p n k ≡ m k
  untouched n k h = grind (arith, nat_tests)

  pub drawn_none : m ≡ drawn f m p 0
  drawn_none = λ i. λ k. sym (untouched 0 k (omega arith)) i

  turned : (n k : ℕ) → n ≤ 31 → cond (eqb (f n) p) (rest_at (drawn f m p n) n k) (drawn f m p n k) ≡ drawn f m p (n + 1) k
  turned n k h = grind (arith, nat_tests)

  cond_at : (b : Bool) (F G : ℕ → Port) (k : ℕ) → cond b F G k ≡ cond b (F k) (G k)
  cond_at true F G k = refl
  cond_at false F G k = refl

  pub drawn_next : (s t : ℕ → Port) (n : ℕ) → n < 32 → s ≡ drawn f m p n → t ≡ cond (eqb (f n) p) (rest_at s n) s → t ≡ drawn f m p (n + 1)
  drawn_next s t n h e d = d ∙ (λ i. cond (eqb (f n) p) (rest_at (e i) n) (e i)) ∙ (λ i. λ k. (cond_at (eqb (f n) p) (rest_at (drawn f m p n) n) (drawn f m p n) k ∙ turned n k (omega arith)) i)

  -- the port n feeds p, and is drawn from
  pub drawn_here : (s t : ℕ → Port) (n : ℕ) → n < 32 → f n ≡ p → s ≡ drawn f m p n → t ≡ rest_at s n → t ≡ drawn f m p (n + 1)
  drawn_here s t n h here e d = drawn_next s t n h e (d ∙ ap (λ (b : Bool). cond b (rest_at s n) s) (sym (eq-eqb (f n) p here)))

  -- what was taken at the port n, where the ports from n on are as they were
  pub part_told : (s : ℕ → Port) (n : ℕ) (y : Option Reading) → f n ≡ p → s ≡ drawn f m p n → y ≡ front (s n).waiting → y ≡ front (part f m p n).waiting
  part_told s n y here e d = d ∙ ap (λ (a : Port). front a.waiting) ((λ i. e i n) ∙ untouched n n (omega arith) ∙ sym (part_here f p m n here))

-- ---- a step of a walk that takes: at the port q, which feeds p, on to where the map answers
module _ (f : ℕ → ℕ) (m : ℕ → Port) (p : ℕ) (ok : (k : ℕ) → Sound (m k)) (q : ℕ) (low : q ≤ 31) (here : f q ≡ p) (o : Option ℕ) (is : o ≡ next_from f (f q) (q + 1) (31 - q)) where
  below_end : q < 32
  below_end = omega (arith, low)

  pub step_top : dry_from f m p 0 32 ≡ None → (x : Reading) (y : Option Reading) → x ≡ top (gather f m p q).waiting → y ≡ front (part f m p q).waiting → added x y ≡ top (gather f m p (stop o)).waiting
  step_top e x y ex ey = top_next f m p ok q below_end e x y ex ey ∙ ap (λ (a : Port). top a.waiting) (sym (next_gather f p q low here o is m ok))

  pub step_drawn : (s t : ℕ → Port) → s ≡ drawn f m p q → t ≡ rest_at s q → t ≡ drawn f m p (stop o)
  step_drawn s t e d = drawn_here f m p s t q below_end here e d ∙ sym (next_drawn f p q low here o is m)
