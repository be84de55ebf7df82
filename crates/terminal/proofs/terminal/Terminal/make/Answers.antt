use Rattle.std.proofs.Common.{rules}
use Rattle.terminal.specs.Buses.{bus}
use Rattle.terminal.proofs.Logs.{made}
use Rattle.terminal.proofs.terminal.Terminal.make.Goals.{in-Obey, in-Serve}
use Rattle.terminal.proofs.terminal.Terminal.make.Goals as goal

pub returns-clause-exchange : goal.returns-clause-exchange
returns-clause-exchange g c =
    elim c.match-exchange.branch [
      | in-Obey w ↦ made (bus g.B.GaugeBank.shows c.args.self.now) c.args.exchange.now c.match-exchange.exchange c.match-exchange.outcome w.deref_mut.result.now w.obey.new.answer w.exchange-is w.deref_mut.ensures.value (search rules) (search rules)
      | in-Serve w ↦ made (bus g.B.GaugeBank.shows c.args.self.now) c.args.exchange.now c.match-exchange.exchange c.match-exchange.outcome w.deref_mut-in-Serve.result.now w.serve.new.answers w.exchange-is w.deref_mut-in-Serve.ensures.value (search rules) (search rules)
    ]
