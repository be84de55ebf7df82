-- The answers that are no measured value. Assumes nothing.
use Rattle.std.specs.Prelude.{ℕ, List, [], ◌∷◌, ◌++◌}
use Rattle.value.specs.Figures.{digits, signed}
use Rattle.value.specs.Written.{crlf}
use Rattle.value.specs.declared.plain.Plain.{Plain}
use Rattle.value.specs.declared.plain.Plain.TheVariants.{Done, Refused, Digit, ThreeDigits, Signed}

-- the text of an answer: "0", "?", a digit, three digits, or the sign and eight digits
abbrev pub plain_text : Plain → List ℕ
plain_text Done = 48 ∷ []
plain_text Refused = 63 ∷ []
plain_text (Digit n) = digits 1 n
plain_text (ThreeDigits n) = digits 3 n
plain_text (Signed v) = signed 8 v

-- a text and CR LF
abbrev pub line : List ℕ → List ℕ
line text = text ++ crlf
