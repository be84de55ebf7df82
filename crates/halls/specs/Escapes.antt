-- Bytes as printable text, in both directions.
use Rattle.std.specs.Prelude.{◌≡◌, ℕ, ◌+◌, ◌-◌, ◌*◌, ◌/◌, ◌%◌, ◌<◌, Bool, cond, ◌&&◌, List, [], ◌∷◌, ◌++◌, Some, None, Option, ◌==◌, nat_le, nat_lt}
use Rattle.std.specs.Option.{option_map, option_to_list}
use Rattle.std.specs.List.{AllByRecursion, flat_map}
use Rattle.halls.specs.declared.spelling.Spelling.{Spelling}
use Rattle.halls.specs.declared.spelling.Spelling.TheVariants.{Itself, Letter, Digits}
use Rattle.halls.specs.declared.escapes.Wanted.{Wanted}
use Rattle.halls.specs.declared.escapes.Wanted.TheVariants.{Any, Escape, High, Low}
use Rattle.halls.specs.declared.escapes.Turn.{Turn}

-- printable ASCII
abbrev pub printable : ℕ → Bool
printable b = nat_le 32 b && nat_le b 126

-- ---- from bytes to text
-- the hexadecimal digit of a number below 16, upper case
abbrev pub glyph_of : ℕ → ℕ
glyph_of n = cond (nat_lt n 10) (48 + n) (55 + n)

-- `\\`, `\r`, `\n`, the byte itself, or `\xHH`
abbrev pub spelled : ℕ → Spelling
spelled b = cond (b == 92) (Letter 92) (cond (b == 13) (Letter 114) (cond (b == 10) (Letter 110) (cond (printable b) (Itself b) (Digits (glyph_of (b / 16)) (glyph_of (b % 16))))))

abbrev pub text_of : Spelling → List ℕ
text_of (Itself b) = b ∷ []
text_of (Letter c) = 92 ∷ c ∷ []
text_of (Digits h l) = 92 ∷ 120 ∷ h ∷ l ∷ []

-- the text that stands for bytes
abbrev pub escaped : List ℕ → List ℕ
escaped bs = flat_map (λ b. text_of (spelled b)) bs

-- ---- from text to bytes
-- the byte that stands behind a backslash as a letter
abbrev pub letter_of : ℕ → Option ℕ
letter_of c = cond (c == 92) (Some 92) (cond (c == 114) (Some 13) (cond (c == 110) (Some 10) None))

-- the value of a hexadecimal digit, upper or lower case
abbrev pub nibble_of : ℕ → Option ℕ
nibble_of c = cond (nat_le 48 c && nat_le c 57) (Some (c - 48)) (cond (nat_le 65 c && nat_le c 70) (Some (c - 55)) (cond (nat_le 97 c && nat_le c 102) (Some (c - 87)) None))

abbrev pub wants : Wanted → Turn
wants w = record { next = w; byte = None }

abbrev pub gives : ℕ → Turn
gives b = record { next = Any; byte = Some b }

-- what one byte of a text brings, by what is wanted; none where it is not allowed there
abbrev pub turn_of : Wanted → ℕ → Option Turn
turn_of Any b = cond (b == 92) (Some (wants Escape)) (cond (printable b) (Some (gives b)) None)
turn_of Escape b = cond (b == 120) (Some (wants High)) (option_map gives (letter_of b))
turn_of High b = option_map (λ n. wants (Low n)) (nibble_of b)
turn_of (Low h) b = option_map (λ n. gives (16 * h + n)) (nibble_of b)

-- the first digit of two is below 16
abbrev pub Sane : Wanted → Type 0
Sane Any = Unit {0}
Sane Escape = Unit {0}
Sane High = Unit {0}
Sane (Low h) = h < 16

-- a text may end only where no escape is begun
abbrev pub finished : Wanted → Option (List ℕ)
finished Any = Some []
finished Escape = None
finished High = None
finished (Low h) = None

-- the byte that is whole, if one is
abbrev pub kept : Option ℕ → List ℕ
kept o = option_to_list o

abbrev pub onward : Option Turn → (Wanted → Option (List ℕ)) → Option (List ℕ)
onward None k = None
onward (Some t) k = option_map (λ xs. kept t.byte ++ xs) (k t.next)

-- the bytes that a text stands for
abbrev pub decoded : Wanted → List ℕ → Option (List ℕ)
decoded w [] = finished w
decoded w (b ∷ t) = onward (turn_of w b) (λ v. decoded v t)

-- what is written for bytes is read as those bytes
abbrev pub ReadsBack : Type 0
ReadsBack = (bs : List ℕ) → AllByRecursion (λ b. b < 256) bs → decoded Any (escaped bs) ≡ Some bs
