-- What has the form of a number is taken apart as it is written. Assumes nothing.
use Rattle.std.proofs.Common.{◌≡◌, ℕ, suc, ◌+◌, ◌<◌, ◌≤◌, Bool, true, false, ◌||◌, eqb, List, [], ◌∷◌, ◌++◌, length, Some, None, fold, Option, sym, refl, ap, ◌∙◌, one-add, arith}
use Rattle.std.specs.Option.{option_map}
use Rattle.std.specs.Char.{is_ascii_digit}
use Rattle.std.specs.List.{prefix_len}
use Rattle.std.proofs.lemmas.List.{take_at, drop_at}
use Rattle.std.proofs.lemmas.Bool.{cond-true, cond-false, eq-eqb, ne_eqb, le-leb, and_from}
use Rattle.std.proofs.lemmas.Bool.Decides.{nat_tests}
use Rattle.command.specs.declared.decimal.Numeral.{Numeral}
use Rattle.command.specs.Numbers.{more, front, back, numeral, short, powered, pointed, fraction, unsigned, signed, numeral_of}
use Rattle.command.proofs.Fronts.{front_all}
use Rattle.command.specs.Meanings.{Sign, none, plus, minus, Writing, sign_bytes, point_bytes, power_bytes, written, Digits, Power, Formed, negative, exponent_of}

-- digits and then none
pub leads : (x y : List ℕ) → Digits x → prefix_len is_ascii_digit y ≡ 0 → prefix_len is_ascii_digit (x ++ y) ≡ length x
leads [] y h e = e
leads (b ∷ x) y h e = cond-true (is_ascii_digit b) (1 + prefix_len is_ascii_digit (x ++ y)) 0 h.0 ∙ one-add (prefix_len is_ascii_digit (x ++ y)) ∙ ap suc (leads x y h.1 e)

module _ (x y : List ℕ) (h : Digits x) (e : prefix_len is_ascii_digit y ≡ 0) where
  front_is : front (x ++ y) ≡ x
  front_is = take_at x y (prefix_len is_ascii_digit (x ++ y)) (sym (leads x y h e))

  back_is : back (x ++ y) ≡ y
  back_is = drop_at x y (prefix_len is_ascii_digit (x ++ y)) (sym (leads x y h e))

abbrev letter : ℕ → Bool
letter b = eqb b 101 || eqb b 69

letter_plain : (b : ℕ) → letter b ≡ true → is_ascii_digit b ≡ false
letter_plain b h = grind (arith, nat_tests)

letter_point : (b : ℕ) → letter b ≡ true → eqb b 46 ≡ false
letter_point b h = grind (arith, nat_tests)

digit_sign : (b : ℕ) → is_ascii_digit b ≡ true → (eqb b 45 ≡ false) × (eqb b 43 ≡ false)
digit_sign b h = (grind (arith, nat_tests), grind (arith, nat_tests))

power_leads : (o : Option (ℕ × List ℕ)) → Power o → prefix_len is_ascii_digit (power_bytes o) ≡ 0
power_leads None h = refl
power_leads (Some e) h = cond-false (is_ascii_digit e.0) _ _ (letter_plain e.0 h.0)

short_is : (x : List ℕ) → Digits x → 1 ≤ length x → length x ≤ 2 → short x ≡ true
short_is x h l k =
    let few : (eqb (length x) 1 || eqb (length x) 2) ≡ true = grind (arith, nat_tests) in
    and_from _ _ (eq-eqb (prefix_len is_ascii_digit x) (length x) (front_all is_ascii_digit x h)) few

powered_is : (s : Bool) (m places : ℕ) (o : Option (ℕ × List ℕ)) → Power o → powered s m places (power_bytes o) ≡ Some (numeral s m places (exponent_of o))
powered_is s m places None h = refl
powered_is s m places (Some e) h =
    cond-true (letter e.0) _ _ h.0 ∙ ap (option_map (numeral s m places)) (cond-true (short e.1) _ _ (short_is e.1 h.1 h.2 h.3))

pointed_is : (s : Bool) (m : ℕ) (ds : List ℕ) (o : Option (ℕ × List ℕ)) → 0 < length ds → Digits ds → Power o
    → pointed s m (ds ++ power_bytes o) ≡ Some (numeral s (fold more m ds) (length ds) (exponent_of o))
pointed_is s m ds o l h k =
    let e = power_leads o k in
    let t = ds ++ power_bytes o in
    let n = leads ds (power_bytes o) h e in
    cond-false (eqb (prefix_len is_ascii_digit t) 0) _ _ (ne_eqb (prefix_len is_ascii_digit t) 0 (λ z. omega arith))
    ∙ (λ i. powered s (fold more m (front_is ds (power_bytes o) h e i)) (n i) (back_is ds (power_bytes o) h e i))
    ∙ powered_is s (fold more m ds) (length ds) o k

fraction_is : (s : Bool) (m : ℕ) (ds : List ℕ) (o : Option (ℕ × List ℕ)) → Digits ds → Power o
    → fraction s m (point_bytes ds ++ power_bytes o) ≡ Some (numeral s (fold more m ds) (length ds) (exponent_of o))
fraction_is s m [] None h k = refl
fraction_is s m [] (Some e) h k = cond-false (eqb e.0 46) _ _ (letter_point e.0 k.0) ∙ powered_is s m 0 (Some e) k
fraction_is s m (d ∷ ds) o h k = pointed_is s m (d ∷ ds) o (omega arith) h k

tail_leads : (ds : List ℕ) (o : Option (ℕ × List ℕ)) → Power o → prefix_len is_ascii_digit (point_bytes ds ++ power_bytes o) ≡ 0
tail_leads [] o k = power_leads o k
tail_leads (d ∷ ds) o k = refl

pub unsigned_is : (s : Bool) (x ds : List ℕ) (o : Option (ℕ × List ℕ)) → 0 < length x → Digits x → Digits ds → Power o
    → unsigned s (x ++ (point_bytes ds ++ power_bytes o)) ≡ Some (numeral s (fold more (fold more 0 x) ds) (length ds) (exponent_of o))
unfolding unsigned
unsigned_is s x ds o l hx h k =
    let y = point_bytes ds ++ power_bytes o in
    let e = tail_leads ds o k in
    let n = leads x y hx e in
    cond-false (eqb (prefix_len is_ascii_digit (x ++ y)) 0) _ _ (ne_eqb (prefix_len is_ascii_digit (x ++ y)) 0 (λ z. omega arith))
    ∙ (λ i. fraction s (fold more 0 (front_is x y hx e i)) (back_is x y hx e i))
    ∙ fraction_is s (fold more 0 x) ds o h k

-- the numeral of what is written
abbrev pub numeral_is : Writing → Numeral
numeral_is w = numeral (negative w.sign) (fold more (fold more 0 w.whole) w.decimals) (length w.decimals) (exponent_of w.power)

signed_at : (g : Sign) (x t : List ℕ) → 0 < length x → Digits x → signed (sign_bytes g ++ (x ++ t)) ≡ unsigned (negative g) (x ++ t)
signed_at none [] t l h = absurd (omega arith)
signed_at none (b ∷ x) t l h =
    let d = digit_sign b h.0 in
    cond-false (eqb b 45) _ _ d.0 ∙ cond-false (eqb b 43) _ _ d.1
signed_at plus x t l h = refl
signed_at minus x t l h = refl

pub written_is : (w : Writing) → Formed w → numeral_of (written w) ≡ Some (numeral_is w)
written_is w f =
    cond-true _ _ _ (le-leb (length (written w)) 10 f.short)
    ∙ signed_at w.sign w.whole (point_bytes w.decimals ++ power_bytes w.power) f.some f.before
    ∙ unsigned_is (negative w.sign) w.whole w.decimals w.power f.some f.before f.behind f.powered
