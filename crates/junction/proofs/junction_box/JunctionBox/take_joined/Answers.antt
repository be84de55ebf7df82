use Rattle.std.proofs.Common.{Bool, cond, Err, refl, sym, ap, ◌∙◌}
use Rattle.fault.specs.declared.causes.Cause.TheVariants.{TooFewReadings}
use Rattle.fault.specs.Faults.{refusal}
use Rattle.bank.proofs.Empty.{empty_first, empty_rest}
use Rattle.junction.specs.Feeding.{fed}
use Rattle.junction.specs.Gather.{boxed, drawn}
use Rattle.junction.proofs.Taking.{none_waits, finds_none, given_first, box_drawn}
use Rattle.junction.proofs.junction_box.JunctionBox.take_joined.Goals as goal

pub take_fed-requires : goal.take_fed-requires
take_fed-requires g c =
    let s = c.args.self.now in
    finds_none s.feeds (g.B.GaugeBank.shows s.below) c.args.port.number (sym c.gives.ensures ∙ c.if-not-gives.false)

pub returns : goal.returns
returns g c =
    let s = c.args.self.now in
    let m = g.B.GaugeBank.shows s.below in
    let p = c.args.port.number in
    let so = sym c.gives.ensures ∙ c.if-not-gives.false in
    record {
      answer = given_first s.feeds m p so _ c.args.port.low c.take_fed.ensures.answer;
      after = box_drawn s.feeds m _ p c.args.port.low c.take_fed.ensures.after;
      below = c.take_fed.ensures.after ∙ sym (ap (λ (b : Bool). cond b (drawn (fed s.feeds) m p 32) m) so);
      feeds = refl;
    }

pub returns-then-not-gives : goal.returns-then-not-gives
returns-then-not-gives g c =
    let s = c.args.self.now in
    let m = g.B.GaugeBank.shows s.below in
    let p = c.args.port.number in
    let not = sym c.gives.ensures ∙ c.if-not-gives.true in
    let none = none_waits s.feeds m p (g.B.GaugeBank.sound s.below) not in
    record {
      answer = ap Err (c.at.ensures ∙ ap (refusal TooFewReadings) c.index.ensures) ∙ empty_first (boxed s.feeds m) p none c.args.port.low;
      after = empty_rest (boxed s.feeds m) p none;
      below = sym (ap (λ (b : Bool). cond b (drawn (fed s.feeds) m p 32) m) not);
      feeds = refl;
    }
