-- What is written for bytes is read as those bytes.
use Rattle.std.proofs.Common.{◌≡◌, ℕ, ◌+◌, ◌*◌, ◌/◌, ◌%◌, ◌<◌, ◌≤◌, true, false, eqb, ltb, List, [], ◌∷◌, ◌++◌, Some, Option, sym, refl, ap, ◌∙◌, arith}
use Rattle.std.specs.Option.{option_map}
use Rattle.std.proofs.lemmas.Iterator.Adapters.{option_map_id}
use Rattle.std.proofs.lemmas.Bool.{cond_both, cond-true, cond-false, eqb-true, ltb-true, ltb-false}
use Rattle.std.proofs.lemmas.Bool.Decides.{nat_tests}
use Rattle.halls.specs.declared.spelling.Spelling.{Spelling}
use Rattle.halls.specs.declared.spelling.Spelling.TheVariants.{Itself, Letter, Digits}
use Rattle.halls.specs.declared.escapes.Wanted.TheVariants.{Any, Low}
use Rattle.halls.specs.Escapes.{printable, glyph_of, spelled, text_of, escaped, nibble_of, gives, wants, onward, decoded, ReadsBack}

-- a byte in front of a result
abbrev fronted : ℕ → Option (List ℕ) → Option (List ℕ)
fronted b o = option_map (λ xs. b ∷ xs) o

nibble_digit : (n : ℕ) → n < 10 → nibble_of (48 + n) ≡ Some n
nibble_digit n h = grind (arith, nat_tests)

nibble_letter : (n : ℕ) → 10 ≤ n → n < 16 → nibble_of (55 + n) ≡ Some n
nibble_letter n k h = grind (arith, nat_tests)

-- a digit is read as the number that it was written for
nibble_back : (n : ℕ) → n < 16 → nibble_of (glyph_of n) ≡ Some n
nibble_back n h =
    cond_both (ltb n 10) (48 + n) (55 + n) (λ c. nibble_of c ≡ Some n) (λ e. nibble_digit n (ltb-true n 10 e))
    (λ e. nibble_letter n (ltb-false n 10 e) h)

module _ (b : ℕ) (small : b < 256) (t : List ℕ) where
  -- the spelling s of b is read as b
  abbrev Back : Spelling → Type 0
  Back s = decoded Any (text_of s ++ t) ≡ fronted b (decoded Any t)

  digits_back : Back (Digits (glyph_of (b / 16)) (glyph_of (b % 16)))
  digits_back =
      let h = b / 16 in
      let l = b % 16 in
      let first = ap (λ o. option_map (λ xs. xs) (option_map (λ xs. xs) (onward (option_map (λ n. wants (Low n)) o) (λ v. decoded v (glyph_of l ∷ t))))) (nibble_back h (omega arith)) in
      let second = ap (λ o. onward (option_map (λ n. gives (16 * h + n)) o) (λ v. decoded v t)) (nibble_back l (omega arith)) in
      let value : 16 * h + l ≡ b = omega arith in
      first ∙ option_map_id _ ∙ option_map_id _ ∙ option_map_id _ ∙ second ∙ ap (λ n. fronted n (decoded Any t)) value

  itself_back : eqb b 92 ≡ false → printable b ≡ true → Back (Itself b)
  itself_back other shown = ap (λ o. onward o (λ v. decoded v t)) (cond-false _ _ _ other ∙ cond-true _ _ _ shown)

  letter_back : (c x : ℕ) → eqb b x ≡ true → decoded Any (92 ∷ c ∷ t) ≡ fronted x (decoded Any t) → Back (Letter c)
  letter_back c x e h = h ∙ ap (λ n. fronted n (decoded Any t)) (sym (eqb-true b x e))

  back : Back (spelled b)
  back =
      cond_both (eqb b 92) _ _ Back (λ e. letter_back 92 92 e (option_map_id _))
      (λ other. cond_both (eqb b 13) _ _ Back (λ e. letter_back 114 13 e (option_map_id _))
      (λ _. cond_both (eqb b 10) _ _ Back (λ e. letter_back 110 10 e (option_map_id _))
      (λ _. cond_both (printable b) _ _ Back (itself_back other) (λ _. digits_back))))

pub read_back : ReadsBack
read_back [] h = refl
read_back (b ∷ bs) h = back b h.0 (escaped bs) ∙ ap (fronted b) (read_back bs h.1)
