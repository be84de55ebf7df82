-- What a command says holds no byte that holds or resumes the flow: initials, numbers, texts and selects. Assumes nothing.
use Rattle.std.proofs.Common.{◌≡◌, ℕ, Bool, true, false, cond, ◌&&◌, ◌||◌, eqb, ltb, List, [], ◌∷◌, length, get_or, ℤ, is_ok, Some, None, Ok, Err, Option, Result, sym, refl, ap, ◌∙◌, arith}
use Rattle.std.specs.Char.{is_ascii_digit, is_ascii_alphanumeric, to_ascii_uppercase}
use Rattle.std.specs.List.{list_all, AllByRecursion}
use Rattle.std.proofs.lemmas.List.{nil_from_length}
use Rattle.std.proofs.lemmas.Bool.{eqb-true, and_parts, and_from, both_ways}
use Rattle.std.proofs.lemmas.Bool.Decides.{nat_tests}
use Rattle.command.specs.declared.orders.Argument.{Argument}
use Rattle.command.specs.declared.orders.Form.{Form}
use Rattle.command.specs.declared.orders.Mnemonic.{Mnemonic}
use Rattle.command.specs.declared.table.Kind.{Kind}
use Rattle.command.specs.declared.table.Kind.TheVariants.{Nothing, Number, OptionalNumber, Text}
use Rattle.command.specs.declared.table.Limits.{Limits}
use Rattle.command.specs.declared.table.Row.{Row}
use Rattle.command.specs.declared.texts.Text.{Text as TheText}
use Rattle.command.specs.Arguments.{ranged_of, worded, given, argument_of}
use Rattle.command.specs.Cuts.{other}
use Rattle.command.specs.Meanings.{Sign, none, plus, minus, sign_bytes, point_bytes, power_bytes, Digits, Power, Means}
use Rattle.command.specs.Numbers.{number_of}
use Rattle.command.specs.Readings.{sensed, sense_of, selects, select_of}
use Rattle.command.specs.Table.{rows, alike, lookup}
use Rattle.command.specs.Texts.{text_of, Quotes}
use Rattle.command.specs.Understood.{clean}
use Rattle.command.proofs.Clean.{clean_append}
use Rattle.command.proofs.Meant.{exact_value}
use Rattle.command.proofs.Options.{nothing, either_way}
use Rattle.command.proofs.Quoted.{exact_text}

pub refused : {T E Y : Type 0} {h : T} {f : E} → ◌≡◌ {A = Result T E} (Err f) (Ok h) → Y
refused e = absurd (both_ways false refl (ap is_ok e))

-- an outcome under a test is one of its two
pub either : {X Y : Type 0} (b : Bool) (p q n : X) → cond b p q ≡ n → (b ≡ true → p ≡ n → Y) → (b ≡ false → q ≡ n → Y) → Y
either true p q n e f g = f refl e
either false p q n e f g = g refl e

-- initials
lettered : Row → Bool
lettered r = ltb 19 (get_or r.initials 0 0) && (ltb 19 (get_or r.initials 1 0) && ltb 19 (get_or r.initials 2 0))

letter_clean : (a x : ℕ) → ltb 19 a ≡ true → eqb a (to_ascii_uppercase x) ≡ true → other 17 19 x ≡ true
letter_clean a x h e = grind (arith, nat_tests)

alike_clean : (a q : List ℕ) → (ltb 19 (get_or a 0 0) && (ltb 19 (get_or a 1 0) && ltb 19 (get_or a 2 0))) ≡ true → alike a q ≡ true → clean q ≡ true
alike_clean a [] h e = absurd (both_ways false refl e)
alike_clean a (x ∷ []) h e = absurd (both_ways false refl e)
alike_clean a (x ∷ y ∷ []) h e = absurd (both_ways false refl e)
alike_clean a (x ∷ y ∷ z ∷ []) h e =
    let l = and_parts _ _ h in
    let m = and_parts _ _ l.1 in
    let p = and_parts _ _ e in
    let q = and_parts _ _ p.1 in
    and_from _ _ (letter_clean (get_or a 0 0) x l.0 p.0)
    (and_from _ _ (letter_clean (get_or a 1 0) y m.0 q.0) (and_from _ _ (letter_clean (get_or a 2 0) z m.1 q.1) refl))
alike_clean a (x ∷ y ∷ z ∷ w ∷ q) h e =
    let p = and_parts (eqb (length (x ∷ y ∷ z ∷ w ∷ q)) 3) _ e in
    absurd (omega (arith, eqb-true (length (x ∷ y ∷ z ∷ w ∷ q)) 3 p.0))

lookup_clean : (rs : List Row) (q : List ℕ) (r : Row) → list_all lettered rs ≡ true → lookup rs q ≡ Some r → clean q ≡ true
unfolding lookup lettered
lookup_clean [] q r h e = nothing e
lookup_clean (s ∷ rs) q r h e =
    let p = and_parts (lettered s) (list_all lettered rs) h in
    either_way (alike s.initials q) _ _ r e (λ y k. alike_clean s.initials q p.0 y) (λ n k. lookup_clean rs q r p.1 k)

sensed_clean : (q : List ℕ) (f : Form) (o : Option Row) (p : Mnemonic × Kind) → lookup rows q ≡ o → sensed f o ≡ Some p → clean q ≡ true
unfolding lettered
sensed_clean q f None p h e = nothing e
sensed_clean q f (Some r) p h e = lookup_clean rows q r refl h

pub sense_clean : (q : List ℕ) (f : Form) (p : Mnemonic × Kind) → sense_of q f ≡ Some p → clean q ≡ true
unfolding sense_of
sense_clean q f p e = sensed_clean q f (lookup rows q) p refl e

-- selects
digit_clean : (b : ℕ) → is_ascii_digit b ≡ true → other 17 19 b ≡ true
digit_clean b h = grind (arith, nat_tests)

capital_clean : (b : ℕ) → eqb (to_ascii_uppercase b) 83 ≡ true → other 17 19 b ≡ true
capital_clean b h = grind (arith, nat_tests)

selects_clean : (t : List ℕ) → selects t ≡ true → clean t ≡ true
selects_clean [] e = absurd (both_ways false refl e)
selects_clean (x ∷ []) e = absurd (both_ways false refl e)
selects_clean (x ∷ y ∷ []) e = absurd (both_ways false refl e)
selects_clean (x ∷ y ∷ z ∷ []) e =
    let p = and_parts _ _ e in
    let q = and_parts _ _ p.1 in
    and_from _ _ (capital_clean x p.0) (and_from _ _ (digit_clean y q.0) (and_from _ _ (digit_clean z q.1) refl))
selects_clean (x ∷ y ∷ z ∷ w ∷ t) e =
    let p = and_parts (eqb (length (x ∷ y ∷ z ∷ w ∷ t)) 3) _ e in
    absurd (omega (arith, eqb-true (length (x ∷ y ∷ z ∷ w ∷ t)) 3 p.0))

pub select_clean : (t : List ℕ) (n : ℕ) → select_of t ≡ Some n → clean t ≡ true
select_clean t n e = either_way (selects t) _ _ n e (λ y k. selects_clean t y) (λ z k. nothing k)

-- numbers
digits_clean : (ds : List ℕ) → Digits ds → clean ds ≡ true
digits_clean [] h = refl
digits_clean (d ∷ ds) h = and_from _ _ (digit_clean d h.0) (digits_clean ds h.1)

sign_clean : (g : Sign) → clean (sign_bytes g) ≡ true
sign_clean none = refl
sign_clean plus = refl
sign_clean minus = refl

point_clean : (ds : List ℕ) → Digits ds → clean (point_bytes ds) ≡ true
point_clean [] h = refl
point_clean (d ∷ ds) h = digits_clean (d ∷ ds) h

power_letter : (b : ℕ) → (eqb b 101 || eqb b 69) ≡ true → other 17 19 b ≡ true
power_letter b h = grind (arith, nat_tests)

power_clean : (o : Option (ℕ × List ℕ)) → Power o → clean (power_bytes o) ≡ true
power_clean None h = refl
power_clean (Some e) h = and_from _ _ (power_letter e.0 h.0) (digits_clean e.1 h.1)

means_clean : (t : List ℕ) (z : ℤ) → Means t z → clean t ≡ true
means_clean t z m =
    let w = m.0 in
    let f = m.1 in
    ap clean (sym m.2)
    ∙ clean_append (sign_bytes w.sign) _ (sign_clean w.sign)
    (clean_append w.whole _ (digits_clean w.whole f.before) (clean_append (point_bytes w.decimals) _ (point_clean w.decimals f.behind) (power_clean w.power f.powered)))

-- texts
alnum_byte : (b : ℕ) → is_ascii_alphanumeric b ≡ true → other 17 19 b ≡ true
alnum_byte b h = grind (arith, nat_tests)

alnum_clean : (s : List ℕ) → AllByRecursion (λ b. is_ascii_alphanumeric b ≡ true) s → clean s ≡ true
alnum_clean [] h = refl
alnum_clean (b ∷ s) h = and_from _ _ (alnum_byte b h.0) (alnum_clean s h.1)

quotes_clean : (t : List ℕ) (x : TheText) → Quotes t x → clean t ≡ true
quotes_clean t x q = ap clean q.4 ∙ clean_append q.0 (34 ∷ []) (alnum_clean q.0 q.1) refl

-- arguments
ranged_clean : (t : List ℕ) (l : Limits) (o : Option ℤ) (a : Argument) → number_of t ≡ o → ranged_of l o ≡ Ok a → clean t ≡ true
ranged_clean t l None a h e = refused e
ranged_clean t l (Some z) a h e = means_clean t z ((exact_value t z).0 h)

worded_clean : (t : List ℕ) (o : Option TheText) (a : Argument) → text_of t ≡ o → worded o ≡ Ok a → clean t ≡ true
worded_clean t None a h e = refused e
worded_clean t (Some x) a h e = quotes_clean t x ((exact_text t x).0 h)

given_clean : (k : Kind) (t : List ℕ) (a : Argument) → given k t ≡ Ok a → clean t ≡ true
given_clean Nothing t a e = refused e
given_clean (Number l) t a e = ranged_clean t l (number_of t) a refl e
given_clean (OptionalNumber l) t a e = ranged_clean t l (number_of t) a refl e
given_clean Text t a e = worded_clean t (text_of t) a refl e

pub argument_clean : (k : Kind) (t : List ℕ) (a : Argument) → argument_of k t ≡ Ok a → clean t ≡ true
unfolding argument_of
argument_clean k t a e =
    either (eqb (length t) 0) _ _ _ e (λ y j. ap clean (nil_from_length t (eqb-true (length t) 0 y))) (λ n j. given_clean k t a j)
