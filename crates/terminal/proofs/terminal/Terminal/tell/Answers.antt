use Rattle.std.proofs.Common.{◌≡◌, ◌<◌, ◌≤◌, length, get_or, sym, ap, ◌∙◌, arith}
use Rattle.terminal.specs.Ears.{ear_of}
use Rattle.terminal.specs.Buses.{state_at}
use Rattle.terminal.proofs.Same.{state_get}
use Rattle.terminal.proofs.Telling.{one_says, one_met}
use Rattle.terminal.proofs.terminal.Terminal.tell.Goals as goal

pub returns : goal.returns
returns g c =
    let h = c.hear.ensures in
    let i = c.index-self-index in
    let ss = c.args.self.now.scales in
    let a = c.args.address.number in
    let p = g.B.GaugeBank.shows c.args.self.now.bank in
    let k = c.index.result in
    let e : k ≡ a = c.index.ensures in
    let lt : k < length ss = omega arith in
    let roomy : 1088 ≤ length c.args.out.now = omega arith in
    let all = one_says (length c.args.out.now) c.args.mode a c.args.heard (get_or ss k i.result).state (state_at ss a) (p a) _ c.args.out.now _
    roomy (sym c.is_present.ensures ∙ c.if-not-is_present.false) (state_get ss k i.result lt ∙ ap (state_at ss) e) h.count h.refusal h.buffer in
    record {
      state = one_met ss c.args.mode a c.args.heard _ _ p _ (ear_of c.args.self.now.listening) k e lt all.0 h.state h.ports;
      value = all.1;
      buffer = all.2;
    }
