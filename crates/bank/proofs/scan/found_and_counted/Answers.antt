use Rattle.std.proofs.Common.{◌<◌, ℕ, get_or, refl, sym, ◌∙◌, subst, nat_le, arith}
use Rattle.std.proofs.lemmas.Option.{cond_some}
use Rattle.bank.specs.Records.{origin}
use Rattle.bank.proofs.Recorded.{blank, counted_none, counted_fit}
use Rattle.bank.proofs.scan.found_and_counted.Goals as goal

pub loop-i-init : goal.loop-i-init
loop-i-init c = (refl, counted_none c.args.records.now)

pub noted-requires : goal.noted-requires
noted-requires c =
    let rs = c.args.records.now in
    let p = (get_or rs c.loop-i.i blank).port in
    let same = cond_some (nat_le p 31) p c.in-Some.at.number (sym c.in-Some.ensures) in
    subst (λ (k : ℕ). (get_or c.loop-i.cursors k origin).left < 65535) (same.1 ∙ sym c.index.ensures)
    (counted_fit rs c.loop-i.cursors c.loop-i.i blank c.loop-i-test.true c.loop-i.invariant.1 c.requires (omega (arith, same.1)))
