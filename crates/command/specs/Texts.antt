-- What a parameter's text is, for any bytes. Assumes nothing.
use Rattle.std.specs.Prelude.{◌≡◌, ℕ, ◌-◌, ◌≤◌, Bool, true, cond, ◌&&◌, List, [], ◌∷◌, ◌++◌, length, take, drop, replicate, Some, None, Option, ◌==◌, nat_le, slice_index}
use Rattle.std.specs.Char.{is_ascii_alphanumeric}
use Rattle.std.specs.List.{prefix_len, AllByRecursion}
use Rattle.std.specs.Str.{bytes_eq}
use Rattle.command.specs.declared.texts.Text.{Text}

-- letters and digits, then zeros up to seven bytes
abbrev pub padded : List ℕ → List ℕ
padded s = s ++ replicate (7 - length s) 0

abbrev pub word : List ℕ → Text
word s = record { bytes = padded s; length = length s }

-- the letters and digits of a text
abbrev pub letters_of : Text → List ℕ
letters_of t = take t.length t.bytes

-- two texts are the same
abbrev pub same_text : Text → Text → Bool
same_text s t = s.length == t.length && bytes_eq s.bytes t.bytes

-- nothing but letters and digits
abbrev pub alnum : List ℕ → Bool
alnum s = prefix_len is_ascii_alphanumeric s == length s

-- one to seven letters or digits
abbrev pub word_of : List ℕ → Option Text
word_of s = cond (nat_le 1 (length s) && (nat_le (length s) 7 && alnum s)) (Some (word s)) None

-- in double quotes
abbrev pub quoted : List ℕ → Bool
quoted t = nat_le 2 (length t) && (slice_index t 0 == 34 && slice_index t (length t - 1) == 34)

unfoldable pub text_of : List ℕ → Option Text
text_of t = cond (quoted t) (word_of (take (length t - 2) (drop 1 t))) None

-- the bytes are one to seven letters or digits in double quotes, and the text keeps them
abbrev pub Quotes : List ℕ → Text → Type 0
Quotes t x =
    (s : List ℕ) × AllByRecursion (λ b. is_ascii_alphanumeric b ≡ true) s × (1 ≤ length s) × (length s ≤ 7) × (t ≡ 34 ∷ (s ++ 34 ∷ [])) × (x ≡ word s)

-- The law: a text is read exactly where the bytes have that form.
abbrev pub ExactText : List ℕ → Type 0
ExactText t = (x : Text) → (text_of t ≡ Some x → Quotes t x) × (Quotes t x → text_of t ≡ Some x)
