use Rattle.std.proofs.Common.{◌≡◌, ◌+◌, ◌-◌, ◌*◌, true, get_or, drop, sym, ap, ◌∙◌, arith}
use Rattle.std.specs.Char.{is_ascii_digit}
use Rattle.std.proofs.lemmas.Bool.Decides.{nat_tests}
use Rattle.halls.specs.Words.{limited}
use Rattle.halls.proofs.Numerals.{past, goes, begun}
use Rattle.halls.proofs.words.number_within.Goals as goal

pub returns-then-value-most-clause-value : goal.returns-then-value-most-clause-value
returns-then-value-most-clause-value c =
    let t = c.args.word.now in
    let i = c.loop-byte.byte-index in
    let v = c.loop-byte.value in
    let yes : is_ascii_digit (get_or t i 0) ≡ true = grind (arith, nat_tests) in
    let e = ap (limited c.args.most) (goes v t i (omega arith) yes) in
    let over = past c.args.most (10 * v + (get_or t i 0 - 48)) (drop (i + 1) t) (omega arith) in
    sym (ap (limited c.args.most) (begun t (omega arith)) ∙ sym c.loop-byte.invariant.0 ∙ e ∙ over)
