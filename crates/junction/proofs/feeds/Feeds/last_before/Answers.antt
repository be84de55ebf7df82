use Rattle.std.proofs.Common.{Option, ap, arith}
use Rattle.std.specs.Option.{option_map}
use Rattle.bank.specs.declared.address.Address.{Address}
use Rattle.bank.specs.Addresses.{number_of}
use Rattle.junction.specs.Feeding.{fed}
use Rattle.junction.proofs.Walks.{stop, first_stands, stands_at, stop_at, next_stands, next_ahead}
use Rattle.junction.proofs.Moving.{first_last, next_last}
use Rattle.junction.proofs.feeds.Feeds.last_before.Goals as goal

pub loop-at-init : goal.loop-at-init
loop-at-init c =
    let f = fed c.args.self.now in
    let p = c.args.above.number in
    record {
      here = first_stands f p _ c.first-at.ensures;
      so_far = first_last f p _ c.first-at.ensures c.args.below.number (omega (arith, c.args.below.low));
    }

pub loop-at-preserved : goal.loop-at-preserved
loop-at-preserved c =
    let f = fed c.args.self.now in
    let p = c.args.above.number in
    let q = c.in-Some.q in
    let here = stands_at f p _ q c.in-Some.is c.loop-at.invariant.here in
    record {
      here = next_stands f p q.number q.low here _ c.next-at.ensures;
      so_far = next_last f p q.number q.low here _ c.next-at.ensures c.args.below.number c.if-q-below.false;
    }

pub loop-at-smaller : goal.loop-at-smaller
loop-at-smaller c =
    let f = fed c.args.self.now in
    let p = c.args.above.number in
    let q = c.in-Some.q in
    let here = stands_at f p _ q c.in-Some.is c.loop-at.invariant.here in
    omega (arith, q.low, stop_at _ q c.in-Some.is, next_ahead f p q.number q.low here _ c.next-at.ensures)

pub returns-in_default : goal.returns-in_default
returns-in_default c =
    let ended = ap (λ (o : Option Address). stop (option_map number_of o)) c.in_default.is in
    c.loop-at.invariant.so_far (omega (arith, c.args.below.low))

pub returns-then-q-below : goal.returns-then-q-below
returns-then-q-below c =
    let stands = stop_at _ c.in-Some.q c.in-Some.is in
    c.loop-at.invariant.so_far (omega arith)
