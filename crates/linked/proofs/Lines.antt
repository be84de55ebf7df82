-- Gauges, dials and joins set one after another.
use Rattle.std.proofs.Common.{◌≡◌, ℕ, zero, suc, ◌+◌, ◌-◌, ◌≢◌, false, ⊎_elim, ◌<◌, ◌≤◌, List, [], ◌∷◌, ◌++◌, length, map, take, set, get_or, ℤ, pos, Some, cond, eqb, replicate, sym, refl, ap, subst, ◌∙◌, arith, add-one, take-suc-set, Result, Ok, drop}
use Rattle.std.proofs.lemmas.Bool.{ne_eqb, cases_eq}
use Rattle.std.proofs.lemmas.Bool.Decides.{nat_tests}
use Rattle.std.proofs.lemmas.Grind.{common_steps}
use Rattle.std.proofs.lemmas.List.{length-map, take_all}
use Rattle.bank.specs.Dials.{set_at, still_at}
use Rattle.bank.specs.Gauges.{fits, fit_at, fitted, gauged}
use Rattle.bank.specs.Records.{due, due_of}
use Rattle.junction.specs.Piles.{from, pile}
use Rattle.junction.specs.declared.joins.Join.{Join}
use Rattle.std.specs.Result.{result_and}
use Rattle.linked.specs.Halls.{gauges_to, dials_to, lined, row, joined, in_range, hall, recorded, on_tape, spoken, played}
use Rattle.fault.specs.declared.causes.Cause.{Cause}
use Rattle.bank.specs.Fitting.{mapped_ok}
use Rattle.bank.specs.Ports.{Port}

none_at : (k : ℕ) → fits k ≡ gauges_to 0 k
none_at k = grind (arith, nat_tests)

pub none_fitted : fits ≡ gauges_to 0
none_fitted = λ i. λ k. none_at k i

one_at : (n k : ℕ) → n < 32 → fit_at (gauges_to n) n 1000 k ≡ gauges_to (n + 1) k
one_at n k h = grind (arith, nat_tests, common_steps)

pub one_fitted : (n : ℕ) → n < 32 → fit_at (gauges_to n) n 1000 ≡ gauges_to (n + 1)
one_fitted n h = λ i. λ k. one_at n k h i

still_before : (ds : List ℤ) (k : ℕ) → still_at k ≡ dials_to ds 0 k
still_before ds k = grind (arith, nat_tests)

pub none_set : (ds : List ℤ) → still_at ≡ dials_to ds 0
none_set ds = λ i. λ k. still_before ds k i

set_more : (ds : List ℤ) (n k : ℕ) → n < 32 → set_at (dials_to ds n) n (record { digits = get_or ds n (pos 0); conversions = 65535 }) k ≡ dials_to ds (n + 1) k
set_more ds n k h = grind (arith, nat_tests, common_steps)

pub one_set : (ds : List ℤ) (n : ℕ) → n < 32 → set_at (dials_to ds n) n (record { digits = get_or ds n (pos 0); conversions = 65535 }) ≡ dials_to ds (n + 1)
one_set ds n h = λ i. λ k. set_more ds n k h i

-- a list of joins with one more
abbrev to_first : ℕ → Join
to_first q = record { below = q; above = 1 }

from_more : (s n : ℕ) → map to_first (from s (suc n)) ≡ map to_first (from s n) ++ (to_first (s + n) ∷ [])
from_more s zero = ap (λ (q : ℕ). to_first q ∷ []) (omega arith)
from_more s (suc n) = ap (λ (js : List Join). to_first s ∷ js) (from_more (suc s) n ∙ ap (λ (q : ℕ). map to_first (from (suc s) n) ++ (to_first q ∷ [])) (omega arith))

pub row_more : (js : List Join) (n : ℕ) → n < length js → take n js ≡ row n → take (n + 1) (set js n (record { below = n + 1; above = 1 })) ≡ row (n + 1)
row_more js n h e =
    ap (λ (j : ℕ). take j (set js n (to_first (n + 1)))) (add-one n) ∙ take-suc-set js n (to_first (n + 1)) h
    ∙ ap (λ (xs : List Join). xs ++ (to_first (n + 1) ∷ [])) e
    ∙ ap (λ (q : ℕ). row n ++ (to_first q ∷ [])) (omega arith)
    ∙ sym (from_more 1 n) ∙ ap row (sym (add-one n))

-- ---- records
due_one : (ds : List ℤ) → due 1 (recorded ds) ≡ ds
due_one [] = refl
due_one (d ∷ ds) = ap (λ (xs : List ℤ). d ∷ xs) (due_one ds)

-- all of them count
pub recorded_all : (ds : List ℤ) → length ds ≤ 65535 → take 65535 (recorded ds) ≡ recorded ds
recorded_all ds h = take_all 65535 (recorded ds) (rw length-map h)

module _ (ds : List ℤ) where
  tape_at : (p : ℕ) → fitted (fit_at fits 1 1000) (due_of (recorded ds)) p ≡ on_tape ds p
  tape_at p =
      ⊎_elim
      (λ (e : p ≡ 1). subst (λ (x : ℕ). fitted (fit_at fits 1 1000) (due_of (recorded ds)) x ≡ on_tape ds x) (sym e) (ap (gauged (Some 1000)) (due_one ds)))
      (λ (e : p ≢ 1). let b = ne_eqb p 1 e in rw b refl)
      (cases_eq p 1)

  -- a recording of these digits at port 1, with a gauge there
  pub tape_is : fitted (fit_at fits 1 1000) (due_of (recorded ds)) ≡ on_tape ds
  tape_is = λ i. λ p. tape_at p i

-- ---- the hall of boxes on dials
pub few_boxes : (b p n : ℕ) → in_range b p n ≡ Ok tt → b ≤ 4
few_boxes b p n e = grind (arith, nat_tests)

hall_of : (b p : ℕ) (ds : List ℤ) (one : ℕ → Port) → b ≢ 0 → in_range b p (length ds) ≡ Ok tt → joined (lined ds) p ≡ Ok one → hall b p ds ≡ Ok (pile one (replicate (b - 1) []))
hall_of b p ds one s r j =
    let some : eqb b 0 ≡ false = ne_eqb b 0 s in
    λ i. result_and (r i) (cond (some i) (Ok (lined ds)) (mapped_ok (λ (m : ℕ → Port). pile m (replicate (b - 1) [])) (j i)))

pub hall_at : (k b p : ℕ) (ds : List ℤ) (one : ℕ → Port) → b ≡ k → b ≢ 0 → in_range b p (length ds) ≡ Ok tt → joined (lined ds) p ≡ Ok one → hall b p ds ≡ Ok (pile one (replicate (k - 1) []))
hall_at k b p ds one e s r j = subst (λ (x : ℕ). hall b p ds ≡ Ok (pile one (replicate (x - 1) []))) e (hall_of b p ds one s r j)

-- ---- what is answered where there is a hall

-- serving over a bank that shows m, in the hall h of that meaning
pub record InHall (h : Result (ℕ → Port) Cause) (run before after : List ℕ) (n : ℕ) : Type 0 where
  pub answer : ◌≡◌ {A = Result ℕ Cause} (Ok n) (mapped_ok (λ m. length (spoken m (length before) run)) h)
  pub buffer : after ≡ played h (length before) run ++ drop n before

pub in_hall : (h : Result (ℕ → Port) Cause) (m m' : ℕ → Port) (run before after : List ℕ) (n : ℕ) → m ≡ m' → h ≡ Ok m' → n ≡ length (spoken m (length before) run) → after ≡ spoken m (length before) run ++ drop n before → InHall h run before after n
in_hall h m m' run before after n e there count buffer =
    let shown = ap (λ (x : ℕ → Port). spoken x (length before) run) e in
    subst (λ (x : Result (ℕ → Port) Cause). InHall x run before after n) (sym there)
    (record { answer = λ i. Ok ((count ∙ ap (λ (bs : List ℕ). length bs) shown) i); buffer = buffer ∙ ap (λ (bs : List ℕ). bs ++ drop n before) shown })
