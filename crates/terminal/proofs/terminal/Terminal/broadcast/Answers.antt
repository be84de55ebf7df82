use Rattle.std.proofs.Common.{◌≡◌, Ok, rules, sym, ap, ◌∙◌}
use Rattle.command.specs.declared.orders.Heard.TheVariants.{Select}
use Rattle.terminal.specs.Ears.{everyone, listens}
use Rattle.terminal.specs.Buses.{present, hearing, bus}
use Rattle.terminal.proofs.Telling.{select_leaves, swept_next}
use Rattle.terminal.proofs.terminal.Terminal.broadcast.Goals as goal

pub returns-in-Ok-Select-clause-state : goal.returns-in-Ok-Select-clause-state
returns-in-Ok-Select-clause-state g c =
    let b = bus g.B.GaugeBank.shows c.args.self.now in
    let k : c.args.heard ≡ Ok (Select c.in-Ok-Select.field-0-0) = search rules in
    select_leaves b c.in-Ok-Select.field-0-0 ∙ ap (hearing (λ x. listens everyone x (present (b.ports x))) b) (sym k)

pub loop-address-preserved : goal.loop-address-preserved
loop-address-preserved g c =
    let l = c.loop-address in
    let step = c.in-Some.ensures.steps in
    record {
      last = step.2 ∙ l.invariant.last;
      so_far = swept_next _ (bus g.B.GaugeBank.shows l.self) _ _ l.address-iterator.next _ _ step.0 step.1 l.invariant.so_far c.tell.ensures.state;
    }
