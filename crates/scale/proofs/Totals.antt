-- The loop that takes the readings of a measurement and adds them.
use Rattle.std.proofs.Common.{◌≡◌, ℕ, zero, suc, ◌+◌, ◌-◌, ◌*◌, ◌<◌, ◌≤◌, List, [], ◌∷◌, length, drop, ℤ, ◌+ℤ◌, nat_abs, Ok, sym, ap, ◌∙◌, subst, mul-le-mul_right, add-mul, arith}
use lib.IntN.{+ℤ_assoc, +ℤ_idr}
use Rattle.std.proofs.Math.Bool.{or_assoc, or-false}
use borrow.Author.Differences.{ints}
use Rattle.std.proofs.lemmas.List.{drop-drop}
use Rattle.std.proofs.lemmas.Bool.{le-leb}
use Rattle.bank.specs.declared.reading.Mark.{Mark}
use Rattle.bank.specs.declared.reading.Reading.{Reading}
use Rattle.bank.specs.Readings.{either}
use Rattle.bank.specs.Ports.{Port, Small, most, rest, first, first_at, rest_at}
use Rattle.scale.specs.Measuring.{put_port, dropped, clear, summed, marks, sums}
use Rattle.scale.proofs.Putting.{put_here, rest_put}

-- what is left after i of n readings
pub rest_drop : (i : ℕ) (xs : List Reading) → rest (drop i xs) ≡ drop (i + 1) xs
rest_drop i xs = one (drop i xs) ∙ drop-drop 1 i xs
  where
    one : (v : List Reading) → rest v ≡ drop 1 v
    one v = grind arith

small_drop : (n i : ℕ) (xs : List Reading) → Small n xs → Small n (drop i xs)
small_drop n zero xs h = h
small_drop n (suc i) [] h = tt
small_drop n (suc i) (x ∷ xs) h = small_drop n i xs h.1

head_small : (n : ℕ) (x : Reading) (v w : List Reading) → v ≡ x ∷ w → Small n v → nat_abs x.load ≤ n * most
head_small n x v w e h = (subst (λ (t : List Reading). Small n t) e h).0

-- an answer that was not refused is the first of what waits
first_is : (p : ℕ) (v : List Reading) (x : Reading) → Ok x ≡ first p v → v ≡ x ∷ rest v
first_is p v x e = grind arith

either_assoc : (a b c : Mark) → either (either a b) c ≡ either a (either b c)
either_assoc a b c = λ i. record { overdriven = or_assoc a.overdriven b.overdriven c.overdriven i }

either_clear : (a : Mark) → either a clear ≡ a
either_clear a = λ i. record { overdriven = or-false a.overdriven i }

summed_more : (k j : ℕ) (v : List Reading) (x : Reading) → k ≡ suc j → v ≡ x ∷ rest v → summed k v ≡ x.load +ℤ summed j (rest v)
unfolding summed
summed_more k j v x e h = (λ i. summed (e i) (h i))

marks_more : (k j : ℕ) (v : List Reading) (x : Reading) → k ≡ suc j → v ≡ x ∷ rest v → marks k v ≡ either x.mark (marks j (rest v))
unfolding marks
marks_more k j v x e h = (λ i. marks (e i) (h i))

-- after i of n readings of the port at p, the sum and the mark so far, and the ports as they are now
pub record Totalled (m f : ℕ → Port) (p n i : ℕ) (load : ℤ) (mark : Mark) : Type 0 where
  pub sum : load +ℤ summed (n - i) (drop i (m p).waiting) ≡ summed n (m p).waiting
  pub mark_is : either mark (marks (n - i) (drop i (m p).waiting)) ≡ marks n (m p).waiting
  pub ports : f ≡ put_port m p (dropped i (m p))
  pub size : nat_abs load ≤ i * (8 * most)

-- the loop's end
pub totalled_all : (m f : ℕ → Port) (p n i : ℕ) (load : ℤ) (mark : Mark) → n ≤ i → i ≤ n → Totalled m f p n i load mark → record { load = load; mark = mark } ≡ sums n (m p).waiting
unfolding summed marks
totalled_all m f p n i load mark h k so =
    let z : n - i ≡ 0 = omega arith in
    let a : load ≡ summed n (m p).waiting = sym (+ℤ_idr load) ∙ ap (λ (t : ℕ). load +ℤ summed t (drop i (m p).waiting)) (sym z) ∙ so.sum in
    let b : mark ≡ marks n (m p).waiting = sym (either_clear mark) ∙ ap (λ (t : ℕ). either mark (marks t (drop i (m p).waiting))) (sym z) ∙ so.mark_is in
    λ t. record { load = a t; mark = b t }

module _ (m f : ℕ → Port) (p n i : ℕ) (load : ℤ) (mark : Mark) (low : p ≤ 31) (few : (m p).gauges ≤ 8) (small : Small (m p).gauges (m p).waiting) (more : i < n) (there : n ≤ length (m p).waiting) (so : Totalled m f p n i load mark) where
  here : (f p).waiting ≡ drop i (m p).waiting
  here = ap (λ (g : ℕ → Port). (g p).waiting) so.ports ∙ ap (λ (a : Port). a.waiting) (put_here m p (dropped i (m p)))

  given : first_at f p ≡ first p (drop i (m p).waiting)
  given = let a = le-leb p 31 low in rw a (ap (first p) here)

  module _ (x : Reading) (got : Ok x ≡ first_at f p) where
    front : drop i (m p).waiting ≡ x ∷ rest (drop i (m p).waiting)
    front = first_is p (drop i (m p).waiting) x (got ∙ given)

    light : nat_abs x.load ≤ 8 * most
    light = omega (arith, head_small (m p).gauges x (drop i (m p).waiting) (rest (drop i (m p).waiting)) front (small_drop (m p).gauges i (m p).waiting small), mul-le-mul_right most few)

    pub totalled_more : (f' : ℕ → Port) (load' : ℤ) (mark' : Mark) → f' ≡ rest_at f p → load' ≡ load +ℤ x.load → mark' ≡ either mark x.mark → Totalled m f' p n (i + 1) load' mark'
    totalled_more f' load' mark' ef el em =
        let j : n - i ≡ suc (n - (i + 1)) = omega arith in
        let r = rest_drop i (m p).waiting in
        record {
          sum = ap (λ (z : ℤ). z +ℤ summed (n - (i + 1)) (drop (i + 1) (m p).waiting)) el
              ∙ ap (λ (v : List Reading). (load +ℤ x.load) +ℤ summed (n - (i + 1)) v) (sym r)
              ∙ +ℤ_assoc load x.load (summed (n - (i + 1)) (rest (drop i (m p).waiting)))
              ∙ ap (λ (z : ℤ). load +ℤ z) (sym (summed_more (n - i) (n - (i + 1)) (drop i (m p).waiting) x j front))
              ∙ so.sum;
          mark_is = ap (λ (z : Mark). either z (marks (n - (i + 1)) (drop (i + 1) (m p).waiting))) em
              ∙ ap (λ (v : List Reading). either (either mark x.mark) (marks (n - (i + 1)) v)) (sym r)
              ∙ either_assoc mark x.mark (marks (n - (i + 1)) (rest (drop i (m p).waiting)))
              ∙ ap (λ (z : Mark). either mark z) (sym (marks_more (n - i) (n - (i + 1)) (drop i (m p).waiting) x j front))
              ∙ so.mark_is;
          ports = ef ∙ ap (λ (g : ℕ → Port). rest_at g p) so.ports ∙ rest_put m p (dropped i (m p)) low ∙ ap (put_port m p) (λ t. record { gauges = (m p).gauges; waiting = r t });
          size = subst (λ (z : ℤ). nat_abs z ≤ (i + 1) * (8 * most)) (sym el) (omega (arith, ints, so.size, light, add-mul i 1 (8 * most)));
        }
