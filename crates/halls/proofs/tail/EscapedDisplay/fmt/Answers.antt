use Rattle.std.proofs.Common.{◌≡◌, ℕ, ◌+◌, [], ◌++◌, get_or, take, refl, sym, ap, ◌∙◌, arith}
use Rattle.std.specs.List.{flat_map}
use Rattle.std.specs.Str.{encode_utf8_all}
use Rattle.std.proofs.Output.{has_written_append, has_written_of_eq}
use Rattle.std.proofs.lemmas.List.{take_more, flat_map_more}
use Rattle.halls.specs.Escapes.{text_of, spelled}
use Rattle.halls.proofs.Ascii.{ascii}
use Rattle.halls.proofs.tail.EscapedDisplay.fmt.Goals as goal

pub loop-byte-preserved : goal.loop-byte-preserved
loop-byte-preserved g c plain =
    let bs = c.args.self.now.0.now in
    let i = c.loop-byte.byte-index in
    let f = λ (b : ℕ). text_of (spelled b) in
    let so_far = c.loop-byte.invariant plain in
    let b = get_or bs i 0 in
    let text : encode_utf8_all (text_of c.from.result) ≡ f b = ap (λ s. encode_utf8_all (text_of s)) c.from.ensures.value ∙ ascii b (omega arith) in
    let e : flat_map f (take i bs) ++ encode_utf8_all (text_of c.from.result) ≡ flat_map f (take (i + 1) bs) =
    ap (λ xs. flat_map f (take i bs) ++ xs) text ∙ flat_map_more f [] (take i bs) b ∙ ap (flat_map f) (sym (take_more bs i 0 c.loop-byte-test.true)) in
    has_written_of_eq _ _ _ _ _ e (has_written_append _ _ _ _ _ _ so_far (c.in_ok-write.ensures.writes so_far.plain refl))
