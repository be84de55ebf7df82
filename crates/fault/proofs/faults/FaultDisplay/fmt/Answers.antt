use Rattle.std.proofs.Common.{◌≡◌, ℕ, ◌-◌, ◌^◌, [], ◌∷◌, ◌++◌, refl, ap, ◌∙◌, subst}
use Rattle.std.proofs.Math.Nat.{sub-zero}
use Rattle.std.proofs.lemmas.List.{append-nil}
use Rattle.std.specs.Char.{encode_utf8}
use Rattle.std.specs.Fmt.{HasWritten, char_count, format_spec, padded_integral, styled_decimal}
use Rattle.fault.specs.Causes.{described, letter_of}
use Rattle.fault.specs.Printed.{at_least_three}
use Rattle.fault.specs.declared.causes.Layer.{Layer}
use Rattle.fault.specs.declared.causes.Layer.TheVariants.{Line, Command, Weighing, Bank}
use Rattle.fault.proofs.faults.FaultDisplay.fmt.Goals as goal

-- what `{:03}` writes
three : (n : ℕ) → styled_decimal (format_spec 32 0 4 3 (2 ^ 64 - 1)) n ≡ at_least_three n
unfolding padded_integral char_count
three n = simp (append-nil, sub-zero)

-- a letter is one byte
letter : (l : Layer) → encode_utf8 (letter_of l) ≡ letter_of l ∷ []
unfolding encode_utf8
letter Line = refl
letter Command = refl
letter Weighing = refl
letter Bank = refl

pub returns-clause-writes : goal.returns-clause-writes
returns-clause-writes g c = λ plain ok.
    let f = c.args.self.now in
    let number = (λ i. styled_decimal (c.laid_out.ensures i) (c.number-number.ensures i)) ∙ three (described f.cause).number in
    let place = ap (λ s. styled_decimal s f.place) c.laid_out-2.ensures ∙ three f.place in
    let byte = ap encode_utf8 (c.from-letter.ensures ∙ c.letter.ensures ∙ ap letter_of c.layer.ensures) ∙ letter (described f.cause).layer in
    subst (λ text. HasWritten g.W.Write.write_str_gives c.args.f.now text c.write.new.self)
    (λ i. number i ++ (44 ∷ (byte i ++ (44 ∷ place i))))
    (c.write.ensures.writes plain ok)
