-- What is taken apart as a number is written so, and its exact value is the one that is read. Assumes nothing.
use Rattle.std.proofs.Common.{◌≡◌, ℕ, ◌*◌, ◌/◌, ◌%◌, ◌^◌, ◌<◌, ◌≤◌, Bool, true, false, ◌||◌, eqb, leb, List, [], ◌∷◌, ◌++◌, length, ℤ, Some, None, fold, Option, sym, refl, ap, ◌∙◌, subst, ⊎_elim, mul-div_cancel, arith}
use native.Mathlib.Nat.{mul-mod_left}
use Rattle.std.specs.Option.{option_map}
use Rattle.std.specs.Char.{is_ascii_digit}
use Rattle.std.specs.List.{prefix_len}
use Rattle.std.proofs.lemmas.Nat.{div-add-mod'}
use Rattle.std.proofs.lemmas.List.{take-append-drop, take_all, length-take-le}
use Rattle.std.proofs.lemmas.List.Sums.{prefix_len-le-length, fold-append}
use Rattle.std.proofs.lemmas.Bool.{cond-true, cond-false, cases_Bool, eqb-true, eqb-false, eq-eqb, ne_eqb, leb-true, and_parts}
use Rattle.std.proofs.lemmas.Bool.Decides.{nat_tests}
use Rattle.command.specs.declared.decimal.Numeral.{Numeral}
use Rattle.command.specs.Numbers.{more, front, back, numeral, short, power_of, powered, pointed, fraction, unsigned, signed, numeral_of, sign, size, exact, exactly, number_of}
use Rattle.command.specs.Meanings.{Sign, none, plus, minus, Writing, sign_bytes, point_bytes, power_bytes, written, Digits, Power, Formed, negative, exponent_of, Means, ExactValue}
use Rattle.command.proofs.Fronts.{front_passes}
use Rattle.std.proofs.lemmas.Option.{same_Some}
use Rattle.command.proofs.Options.{nothing, either_way}
use Rattle.command.proofs.Sizes.{tens}
use Rattle.command.proofs.Written.{numeral_is, written_is}

-- what stands behind the digits
abbrev Behind : Bool → ℕ → ℕ → List ℕ → Numeral → Type 0
Behind s m places t n = (o : Option (ℕ × List ℕ)) × Power o × (power_bytes o ≡ t) × (n ≡ numeral s m places (exponent_of o))

short_back : (t : List ℕ) → short t ≡ true → Digits t × (1 ≤ length t) × (length t ≤ 2)
short_back t h =
    let p = and_parts (eqb (prefix_len is_ascii_digit t) (length t)) (eqb (length t) 1 || eqb (length t) 2) h in
    let all = eqb-true (prefix_len is_ascii_digit t) (length t) p.0 in
    let few = p.1 in
    (subst Digits (take_all (prefix_len is_ascii_digit t) t (omega arith)) (front_passes is_ascii_digit t), grind (arith, nat_tests), grind (arith, nat_tests))

power_back : (s : Bool) (m places b : ℕ) (t : List ℕ) (n : Numeral) → (eqb b 101 || eqb b 69) ≡ true → option_map (numeral s m places) (power_of t) ≡ Some n → Behind s m places (b ∷ t) n
power_back s m places b t n l e =
    ⊎_elim
    (λ y. let d = short_back t y in
    let same = ap (option_map (numeral s m places)) (sym (cond-true (short t) (Some (fold more 0 t)) None y)) ∙ e in
    (Some (b, t), (l, d.0, d.1, d.2), refl, sym (same_Some _ _ same)))
    (λ z. nothing (ap (option_map (numeral s m places)) (sym (cond-false (short t) (Some (fold more 0 t)) None z)) ∙ e))
    (cases_Bool (short t))

powered_back : (s : Bool) (m places : ℕ) (t : List ℕ) (n : Numeral) → powered s m places t ≡ Some n → Behind s m places t n
powered_back s m places [] n e = (None, tt, refl, sym (same_Some _ _ e))
powered_back s m places (b ∷ t) n e =
    either_way (eqb b 101 || eqb b 69) _ _ n e (λ l k. power_back s m places b t n l k) (λ l k. nothing (sym (cond-false (eqb (length (b ∷ t)) 0) _ _ (ne_eqb (length (b ∷ t)) 0 (λ z. omega arith))) ∙ k))

abbrev Split : Bool → ℕ → List ℕ → Numeral → Type 0
Split s m t n =
    (ds : List ℕ) × (o : Option (ℕ × List ℕ)) × Digits ds × Power o × (point_bytes ds ++ power_bytes o ≡ t) × (n ≡ numeral s (fold more m ds) (length ds) (exponent_of o))

point_some : (ds : List ℕ) → 0 < length ds → point_bytes ds ≡ 46 ∷ ds
point_some [] h = absurd (omega arith)
point_some (d ∷ ds) h = refl

pointed_back : (s : Bool) (m : ℕ) (t : List ℕ) (n : Numeral) → pointed s m t ≡ Some n → Split s m (46 ∷ t) n
pointed_back s m t n e =
    let k = prefix_len is_ascii_digit t in
    let long = length-take-le k t (prefix_len-le-length is_ascii_digit t) in
    either_way (eqb k 0) _ _ n e (λ z j. nothing j)
    (λ z j. let b = powered_back s (fold more m (front t)) k (back t) n j in
    let some = point_some (front t) (omega (arith, eqb-false k 0 z)) in (
      front t,
      b.0,
      front_passes is_ascii_digit t,
      b.1,
      (λ i. some i ++ b.2 i) ∙ ap (λ r. 46 ∷ r) (take-append-drop k t),
      b.3 ∙ ap (λ l. numeral s (fold more m (front t)) l (exponent_of b.0)) (sym long),
    ))

fraction_back : (s : Bool) (m : ℕ) (t : List ℕ) (n : Numeral) → fraction s m t ≡ Some n → Split s m t n
fraction_back s m [] n e = ([], None, tt, tt, refl, sym (same_Some _ _ e))
fraction_back s m (c ∷ t) n e =
    either_way (eqb c 46) _ _ n e
    (λ y k. let P : ℕ → Type 0 = λ x. Split s m (x ∷ t) n in subst P (sym (eqb-true c 46 y)) (pointed_back s m t n k))
    (λ z k. let b = powered_back s m 0 (c ∷ t) n k in ([], b.0, tt, b.1, b.2, b.3))

-- digits, and what stands behind them
abbrev Number : Bool → List ℕ → Numeral → Type 0
Number s t n =
    (x : List ℕ) × (ds : List ℕ) × (o : Option (ℕ × List ℕ)) × (0 < length x) × Digits x × Digits ds × Power o × (x ++ (point_bytes ds ++ power_bytes o) ≡ t)
    × (n ≡ numeral s (fold more (fold more 0 x) ds) (length ds) (exponent_of o))

unsigned_back : (s : Bool) (t : List ℕ) (n : Numeral) → unsigned s t ≡ Some n → Number s t n
unfolding unsigned
unsigned_back s t n e =
    let k = prefix_len is_ascii_digit t in
    let long = length-take-le k t (prefix_len-le-length is_ascii_digit t) in
    either_way (eqb k 0) _ _ n e (λ z j. nothing j)
    (λ z j. let b = fraction_back s (fold more 0 (front t)) (back t) n j in (
      front t,
      b.0,
      b.1,
      omega (arith, eqb-false k 0 z),
      front_passes is_ascii_digit t,
      b.2,
      b.3,
      ap (λ r. front t ++ r) b.4 ∙ take-append-drop k t,
      b.5,
    ))

-- a way to write t that gives n
abbrev Origin : List ℕ → Numeral → Type 0
Origin t n = (w : Writing) × Formed w × (written w ≡ t) × (n ≡ numeral_is w)

origin : (g : Sign) (t u : List ℕ) (n : Numeral) → length t ≤ 10 → sign_bytes g ++ u ≡ t → Number (negative g) u n → Origin t n
origin g t u n l e b =
    let w : Writing = record { sign = g; whole = b.0; decimals = b.1; power = b.2 } in
    let same = ap (λ r. sign_bytes g ++ r) b.7 ∙ e in
    (w, record { some = b.3; before = b.4; behind = b.5; powered = b.6; short = omega (arith, ap length same) }, same, b.8)

signed_back : (t : List ℕ) (n : Numeral) → length t ≤ 10 → signed t ≡ Some n → Origin t n
signed_back [] n l e = origin none [] [] n l refl (unsigned_back false [] n e)
signed_back (c ∷ t) n l e =
    either_way (eqb c 45) _ _ n e (λ y k. origin minus (c ∷ t) t n l (ap (λ x. x ∷ t) (sym (eqb-true c 45 y))) (unsigned_back true t n k))
    (λ z k. either_way (eqb c 43) _ _ n k (λ y j. origin plus (c ∷ t) t n l (ap (λ x. x ∷ t) (sym (eqb-true c 43 y))) (unsigned_back false t n j))
    (λ x j. origin none (c ∷ t) (c ∷ t) n l refl (unsigned_back false (c ∷ t) n j)))

numeral_back : (t : List ℕ) (n : Numeral) → numeral_of t ≡ Some n → Origin t n
numeral_back t n e = either_way (leb (length t) 10) _ _ n e (λ y k. signed_back t n (leb-true (length t) 10 y) k) (λ z k. nothing k)

-- the exact size of m * 10^e / 10^places
module _ (m places e : ℕ) where
  sized : (n : ℕ) → size m places e ≡ Some n → n * 10 ^ places ≡ m * 10 ^ e
  sized n h =
      let d = 10 ^ places in
      either_way (eqb (m * 10 ^ e % d) 0) _ _ n h
      (λ y k. let q = same_Some _ _ k in
      let r = eqb-true (m * 10 ^ e % d) 0 y in
      let parts = div-add-mod' (m * 10 ^ e) d in
      ap (λ x. x * d) (sym q) ∙ (let z : m * 10 ^ e / d * d ≡ m * 10 ^ e = omega arith in z))
      (λ z k. nothing k)

  size_of : (n : ℕ) → n * 10 ^ places ≡ m * 10 ^ e → size m places e ≡ Some n
  size_of n h =
      let d = 10 ^ places in
      let r = ap (λ x. x % d) (sym h) ∙ mul-mod_left n d in
      cond-true _ _ _ (eq-eqb (m * 10 ^ e % d) 0 r) ∙ ap Some (ap (λ x. x / d) (sym h) ∙ mul-div_cancel n (tens places))

some_mapped : (s : Bool) (o : Option ℕ) (z : ℤ) → option_map (sign s) o ≡ Some z → (n : ℕ) × (o ≡ Some n) × (z ≡ sign s n)
some_mapped s None z e = nothing e
some_mapped s (Some n) z e = (n, refl, sym (same_Some _ _ e))

means_back : (t : List ℕ) (z : ℤ) (n : Numeral) → exact n ≡ Some z → Origin t n → Means t z
means_back t z n e b =
    let w = b.0 in
    let s = some_mapped (negative w.sign) _ z (ap exact (sym b.3) ∙ e) in
    let whole = sized _ _ _ s.0 s.1 ∙ ap (λ v. v * 10 ^ exponent_of w.power) (sym (fold-append more 0 w.whole w.decimals)) in
    (w, b.1, b.2, (s.0, whole, s.2))

read_back : (t : List ℕ) (z : ℤ) (o : Option Numeral) → numeral_of t ≡ o → exactly o ≡ Some z → Means t z
read_back t z None h e = nothing e
read_back t z (Some n) h e = means_back t z n e (numeral_back t n h)

means_read : (t : List ℕ) (z : ℤ) → Means t z → number_of t ≡ Some z
means_read t z b =
    let w = b.0 in
    let n = b.3.0 in
    let whole = b.3.1 ∙ ap (λ v. v * 10 ^ exponent_of w.power) (fold-append more 0 w.whole w.decimals) in
    ap number_of (sym b.2) ∙ ap exactly (written_is w b.1)
    ∙ ap (option_map (sign (negative w.sign))) (size_of (numeral_is w).digits (length w.decimals) (exponent_of w.power) n whole) ∙ ap Some (sym b.3.2)

pub exact_value : (t : List ℕ) → ExactValue t
exact_value t z = (λ e. read_back t z (numeral_of t) refl e, means_read t z)
