-- The text that stands for a byte is ASCII.
use Rattle.std.proofs.Common.{◌≡◌, ℕ, ◌/◌, ◌%◌, ◌<◌, ◌+◌, true, eqb, ltb, [], ◌∷◌, arith}
use Rattle.std.specs.Char.{encode_utf8}
use Rattle.std.specs.Str.{encode_utf8_all}
use Rattle.std.proofs.lemmas.Bool.{cond_both, ltb-true}
use Rattle.std.proofs.lemmas.Bool.Decides.{nat_tests}
use Rattle.halls.specs.declared.spelling.Spelling.{Spelling}
use Rattle.halls.specs.declared.spelling.Spelling.TheVariants.{Itself, Letter, Digits}
use Rattle.halls.specs.Escapes.{printable, glyph_of, spelled, text_of}

single : (n : ℕ) → n < 128 → encode_utf8 n ≡ n ∷ []
unfolding encode_utf8
single n h = grind (arith, nat_tests)

glyph_small : (n : ℕ) → n < 16 → glyph_of n < 128
glyph_small n h = cond_both (ltb n 10) (48 + n) (55 + n) (λ v. v < 128) (λ e. (let k = ltb-true n 10 e in omega (arith, k))) (λ _. omega (arith, h))

printable_small : (b : ℕ) → printable b ≡ true → b < 128
printable_small b e = grind (arith, nat_tests)

-- the text of s is printed as it is
abbrev Plain : Spelling → Type 0
Plain s = encode_utf8_all (text_of s) ≡ text_of s

itself : (b : ℕ) → b < 128 → Plain (Itself b)
itself b h = simp (single b h)

letter : (c : ℕ) → c < 128 → Plain (Letter c)
letter c h = simp (single 92 (omega arith), single c h)

digits : (h l : ℕ) → h < 128 → l < 128 → Plain (Digits h l)
digits h l x y = simp (single 92 (omega arith), single 120 (omega arith), single h x, single l y)

pub ascii : (b : ℕ) → b < 256 → Plain (spelled b)
ascii b small =
    cond_both (eqb b 92) _ _ Plain (λ _. letter 92 (omega arith))
    (λ _. cond_both (eqb b 13) _ _ Plain (λ _. letter 114 (omega arith))
    (λ _. cond_both (eqb b 10) _ _ Plain (λ _. letter 110 (omega arith))
    (λ _. cond_both (printable b) _ _ Plain (λ e. itself b (printable_small b e))
    (λ _. digits (glyph_of (b / 16)) (glyph_of (b % 16)) (glyph_small (b / 16) (omega arith)) (glyph_small (b % 16) (omega arith))))))
