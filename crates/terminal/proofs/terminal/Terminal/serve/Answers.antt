use Rattle.std.proofs.Common.{◌≡◌, ◌-◌, [], length, take, drop, ap, ◌∙◌, subst, arith}
use Rattle.std.proofs.lemmas.List.{take_rest, length-drop}
use Rattle.terminal.specs.Buses.{bus}
use Rattle.terminal.specs.Serves.{served, why}
use Rattle.terminal.proofs.Splits.{due_ok, due_stop}
use Rattle.terminal.proofs.Spelling.{served_so}
use Rattle.terminal.proofs.Ample.{never_short}
use Rattle.terminal.proofs.Turns.{going_end, going_more}
use Rattle.terminal.proofs.terminal.Terminal.serve.Goals as goal

pub returns-in-Err : goal.returns-in-Err
returns-in-Err g c =
    let l = c.loop-stopped in
    let h = due_stop _ _ (bus g.B.GaugeBank.shows l.self) _ c.in-Err.ensures in
    let e = take_rest c.args.run.now l.used in
    let all = going_end _ _ _ _ _ _ _ l.invariant (subst (λ r. served (length l.answers - l.written) (bus g.B.GaugeBank.shows l.self) r ≡ []) e h.1) _ (h.0 ∙ ap why e) in
    record { state = all.0; value = all.1; buffer = all.2; within = all.3; law = served_so _ (bus g.B.GaugeBank.shows c.args.self.now) c.args.run.now _ all.1; room = never_short _ (bus g.B.GaugeBank.shows c.args.self.now) c.args.run.now _ all.1 }

pub loop-stopped-preserved : goal.loop-stopped-preserved
loop-stopped-preserved g c =
    let l = c.loop-stopped in
    let h = due_ok _ _ _ _ c.in-Ok.ensures in
    let o = c.obey-obeyed.ensures in
    going_more _ _ _ (bus g.B.GaugeBank.shows l.self) _ l.answers _ l.invariant _
    (take (length c.args.run.now - l.used) (drop l.used c.args.run.now))
    (take (length l.answers - l.written) (drop l.written l.answers))
    c.in-Ok.command.now c.obey-obeyed.new.answer _ c.obey-obeyed.result
    (take_rest c.args.run.now l.used) (take_rest l.answers l.written)
    h.0 h.1 h.2 h.3 o.state o.value o.buffer o.within

pub overflow_add-used : goal.overflow_add-used
overflow_add-used g c =
    let l = c.loop-stopped in
    let h = due_ok _ _ _ _ c.in-Ok.ensures in
    omega (arith, h.0, h.2, ap length (take_rest c.args.run.now l.used), length-drop l.used c.args.run.now)
