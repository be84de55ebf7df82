use Rattle.terminal.specs.Buses.{bus}
use Rattle.terminal.proofs.Rooms.{obeyed}
use Rattle.terminal.proofs.terminal.Terminal.obey.Goals as goal

pub returns : goal.returns
returns g c =
    let h = c.heed.ensures in
    let k = c.in-Some.ensures.cases in
    let all = obeyed (bus g.B.GaugeBank.shows c.args.self.now) _ c.args.command.now c.read.result c.heed.result c.args.answer.now c.in-Some.answer.now c.heed.new.answer
    k.enough k.same c.read.ensures.value h.state h.value h.buffer in
    record { state = all.0; value = all.1; buffer = all.2; within = all.3 }
