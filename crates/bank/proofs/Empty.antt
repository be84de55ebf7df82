-- Taking where nothing waits: it is refused, and alters nothing.
use Rattle.std.proofs.Common.{◌≡◌, ℕ, ◌≤◌, Bool, true, false, cond, ◌&&◌, eqb, leb, ◌≢◌, List, [], ◌∷◌, length, Err, sym, refl, ap, ◌∙◌, subst, ⊎_elim, arith}
use Rattle.std.proofs.lemmas.Bool.{le-leb, ne_eqb, cases_eq}
use Rattle.fault.specs.declared.causes.Cause.TheVariants.{TooFewReadings}
use Rattle.fault.specs.Faults.{refusal}
use Rattle.bank.specs.declared.reading.Reading.{Reading}
use Rattle.bank.specs.Ports.{Port, rest, popped, first, first_at, rest_at}

first_none : (p : ℕ) (xs : List Reading) → length xs ≡ 0 → Err (refusal TooFewReadings p) ≡ first p xs
first_none p [] e = refl
first_none p (x ∷ xs) e = absurd (omega arith)

rest_none : (xs : List Reading) → length xs ≡ 0 → xs ≡ rest xs
rest_none [] e = refl
rest_none (x ∷ xs) e = absurd (omega arith)

popped_none : (a : Port) → length a.waiting ≡ 0 → a ≡ popped a
popped_none a e = λ i. record { gauges = a.gauges; waiting = rest_none a.waiting e i }

either_way : {A : Type 0} (b : Bool) (x y : A) → x ≡ y → x ≡ cond b y x
either_way true x y e = e
either_way false x y e = refl

never : {A : Type 0} (b : Bool) (x y : A) → x ≡ cond (b && false) y x
never true x y = refl
never false x y = refl

module _ (m : ℕ → Port) (p : ℕ) (e : length (m p).waiting ≡ 0) where
  pub empty_first : p ≤ 31 → Err (refusal TooFewReadings p) ≡ first_at m p
  empty_first h = let a = le-leb p 31 h in rw a (first_none p (m p).waiting e)

  pub empty_rest : m ≡ rest_at m p
  empty_rest = λ i. λ k. at k i where
    at : (k : ℕ) → m k ≡ rest_at m p k
    at k = ⊎_elim
        (λ (d : k ≡ p). either_way (leb p 31 && eqb k p) (m k) (popped (m k)) (popped_none (m k) (subst (λ (x : ℕ). length (m x).waiting ≡ 0) (sym d) e)))
        (λ (d : k ≢ p). never (leb p 31) (m k) (popped (m k)) ∙ ap (λ (x : Bool). cond (leb p 31 && x) (popped (m k)) (m k)) (sym (ne_eqb k p d)))
        (cases_eq k p)
