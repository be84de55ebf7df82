use Rattle.std.proofs.Common.{Ok, sym, ap, ◌∙◌, arith}
use Rattle.bank.specs.declared.reading.Reading.{Reading}
use Rattle.scale.proofs.Totals.{totalled_more, totalled_all}
use Rattle.scale.proofs.measuring.total.Goals as goal

pub loop-preserved : goal.loop-preserved
loop-preserved g c =
    let m = g.B.GaugeBank.shows c.args.bank.now in
    let f = g.B.GaugeBank.shows c.loop.bank in
    let p = c.args.address.number in
    let ok = g.B.GaugeBank.sound c.args.bank.now p in
    totalled_more m f p c.args.readings c.loop.counter c.loop.sum.load c.loop.sum.mark c.args.address.low ok.few ok.small c.loop-test.true c.requires.there c.loop.invariant c.in_ok-take.field-0 (sym c.in_ok-take.was ∙ c.take.ensures.answer)
    (g.B.GaugeBank.shows c.take.new.self) c.with-sum.result.load c.with-sum.result.mark c.take.ensures.after (ap (λ (s : Reading). s.load) c.with-sum.ensures) (ap (λ (s : Reading). s.mark) c.with-sum.ensures)

pub returns-clause-answer : goal.returns-clause-answer
returns-clause-answer g c =
    let m = g.B.GaugeBank.shows c.args.bank.now in
    let f = g.B.GaugeBank.shows c.loop.bank in
    ap Ok (totalled_all m f c.args.address.number c.args.readings c.loop.counter c.loop.sum.load c.loop.sum.mark (omega arith) (omega arith) c.loop.invariant)
