-- Ports are joined in any order and grouping, where those without a gauge have nothing waiting.
use Rattle.std.proofs.Common.{◌≡◌, ℕ, zero, suc, ◌+◌, List, [], ◌∷◌, sym, refl, ap, ◌∙◌, add-zero, add_assoc, add_comm, suc-add, zero-add}
use lib.IntN.{+ℤ_comm, +ℤ_assoc}
use Rattle.bank.specs.declared.reading.Reading.{Reading}
use Rattle.bank.specs.Ports.{Port, none}
use Rattle.junction.specs.Gather.{both, paired, lines, join}
use Rattle.junction.specs.Limits.{bare_lines}
use Rattle.junction.proofs.Marks.{either_comm, either_assoc}

abbrev pub Bare : Port → Type 0
Bare a = a.gauges ≡ 0 → a.waiting ≡ []

pub none_bare : Bare none
none_bare e = refl

pub bare_none : (a : Port) → Bare a → a.gauges ≡ 0 → a ≡ none
bare_none a h e = λ i. record { gauges = e i; waiting = h e i }

pub join_bare : (a b : Port) → Bare a → Bare b → Bare (join a b)
join_bare a b h k = bare_lines a.gauges b.gauges a.waiting b.waiting k

pub none_join : (a : Port) → join none a ≡ a
none_join a = λ i. record { gauges = zero-add a.gauges i; waiting = a.waiting }

lines_none : (m : ℕ) (xs : List Reading) → (m ≡ 0 → xs ≡ []) → lines m 0 xs [] ≡ xs
lines_none zero xs h = sym (h refl)
lines_none (suc m) xs h = refl

pub join_none : (a : Port) → Bare a → join a none ≡ a
join_none a h = λ i. record { gauges = add-zero a.gauges i; waiting = lines_none a.gauges a.waiting h i }

both_comm : (x y : Reading) → both x y ≡ both y x
both_comm x y = λ i. record { load = +ℤ_comm x.load y.load i; mark = either_comm x.mark y.mark i }

both_assoc : (x y z : Reading) → both (both x y) z ≡ both x (both y z)
both_assoc x y z = λ i. record { load = +ℤ_assoc x.load y.load z.load i; mark = either_assoc x.mark y.mark z.mark i }

paired_comm : (xs ys : List Reading) → paired xs ys ≡ paired ys xs
paired_comm [] [] = refl
paired_comm [] (y ∷ ys) = refl
paired_comm (x ∷ xs) [] = refl
paired_comm (x ∷ xs) (y ∷ ys) = λ i. both_comm x y i ∷ paired_comm xs ys i

paired_assoc : (xs ys zs : List Reading) → paired (paired xs ys) zs ≡ paired xs (paired ys zs)
paired_assoc [] ys zs = refl
paired_assoc (x ∷ xs) [] zs = refl
paired_assoc (x ∷ xs) (y ∷ ys) [] = refl
paired_assoc (x ∷ xs) (y ∷ ys) (z ∷ zs) = λ i. both_assoc x y z i ∷ paired_assoc xs ys zs i

lines_comm : (m n : ℕ) (xs ys : List Reading) → (m ≡ 0 → xs ≡ []) → (n ≡ 0 → ys ≡ []) → lines m n xs ys ≡ lines n m ys xs
lines_comm zero zero xs ys h k = k refl ∙ sym (h refl)
lines_comm zero (suc n) xs ys h k = refl
lines_comm (suc m) zero xs ys h k = refl
lines_comm (suc m) (suc n) xs ys h k = paired_comm xs ys

join_comm : (a b : Port) → Bare a → Bare b → join a b ≡ join b a
join_comm a b h k = λ i. record { gauges = add_comm a.gauges b.gauges i; waiting = lines_comm a.gauges b.gauges a.waiting b.waiting h k i }

lines_assoc : (m n k : ℕ) (xs ys zs : List Reading) → lines (m + n) k (lines m n xs ys) zs ≡ lines m (n + k) xs (lines n k ys zs)
lines_assoc zero n k xs ys zs = ap (λ (t : ℕ). lines t k ys zs) (zero-add n)
lines_assoc (suc m) zero k xs ys zs = ap (λ (t : ℕ). lines t k xs zs) (add-zero (suc m)) ∙ ap (λ (t : ℕ). lines (suc m) t xs zs) (sym (zero-add k))
lines_assoc (suc m) (suc n) zero xs ys zs = ap (λ (t : ℕ). lines t 0 (paired xs ys) zs) (suc-add m (suc n)) ∙ ap (λ (t : ℕ). lines (suc m) t xs ys) (sym (add-zero (suc n)))
lines_assoc (suc m) (suc n) (suc k) xs ys zs = ap (λ (t : ℕ). lines t (suc k) (paired xs ys) zs) (suc-add m (suc n)) ∙ paired_assoc xs ys zs ∙ ap (λ (t : ℕ). lines (suc m) t xs (paired ys zs)) (sym (suc-add n (suc k)))

pub join_assoc : (a b c : Port) → join (join a b) c ≡ join a (join b c)
join_assoc a b c = λ i. record { gauges = add_assoc a.gauges b.gauges c.gauges i; waiting = lines_assoc a.gauges b.gauges c.gauges a.waiting b.waiting c.waiting i }

pub swap : (a b c d : Port) → Bare b → Bare c → join (join a b) (join c d) ≡ join (join a c) (join b d)
swap a b c d h k =
    join_assoc a b (join c d) ∙ ap (join a) (sym (join_assoc b c d) ∙ ap (λ (x : Port). join x d) (join_comm b c h k) ∙ join_assoc c b d) ∙ sym (join_assoc a c (join b d))
