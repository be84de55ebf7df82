use Rattle.std.proofs.Common.{◌<◌, ◌≤◌, length, arith}
use Rattle.terminal.specs.Buses.{bus}
use Rattle.terminal.proofs.Logs.{settled_more, came}
use Rattle.terminal.proofs.running.run.Goals as goal

pub loop-exchange-preserved : goal.loop-exchange-preserved
loop-exchange-preserved g c =
    let l = c.loop-exchange in
    let inside : l.exchange-index < length l.exchanges = omega (arith, l.auto.exchanges, c.loop-exchange-test.true) in
    settled_more l.exchanges l.exchange-index (bus g.B.GaugeBank.shows l.terminal) (bus g.B.GaugeBank.shows c.make.new.self) c.exchange-item.result c.make.new.exchange _ _ inside
    c.make.ensures.state c.make.ensures.exchange l.invariant.0 l.invariant.1

pub returns : goal.returns
returns g c =
    let l = c.loop-exchange in
    let past : length l.exchanges ≤ l.exchange-index = omega (arith, l.auto.exchanges, c.loop-exchange-test.false) in
    record { laws = came (g.B.GaugeBank.shows c.args.bank) c.args.exchanges.now l.exchanges l.exchange-index _ (bus g.B.GaugeBank.shows l.terminal) c.new-terminal.ensures past l.invariant.0 l.invariant.1 }
