use Rattle.std.proofs.Common.{◌≡◌, List, length, set, Some, Option, sym, ap, ◌∙◌, subst, rules}
use Rattle.std.specs.Option.{option_map}
use Rattle.bank.specs.declared.address.Address.{Address}
use Rattle.bank.specs.Addresses.{number_of}
use Rattle.junction.specs.Feeding.{fed}
use Rattle.junction.specs.Chains.{place_after, LastBefore, first_put, next_put}
use Rattle.junction.proofs.Chaining.{mapped_moved}
use Rattle.junction.proofs.Places.{onward}
use Rattle.junction.proofs.Moving.{after_none, after_some, turned_still, turned_moved}
use Rattle.junction.proofs.feeds.Feeds.turned.Goals as goal
use Rattle.junction.proofs.feeds.Feeds.turned.Goals.{in-None, in-Some}

pub returns-after-before : goal.returns-after-before
returns-after-before c = mapped_moved c.self.inside.joined c.args.self.now c.index.result c.args.below.number c.args.above c.self.view_is c.index.ensures

pub returns-else-fed-above : goal.returns-else-fed-above
returns-else-fed-above c = mapped_moved c.self.inside.joined c.args.self.now c.index.result c.args.below.number c.args.above c.self.view_is c.index.ensures

pub invariant_of-turned-else-fed-above : goal.invariant_of-turned-else-fed-above
invariant_of-turned-else-fed-above c =
    let whole : length c.self.inside.joined ≡ 32 = search rules in
    turned_still c.self.inside.joined c.self.inside.chains.first c.self.inside.chains.next c.args.self.now c.self.view_is c.self.invariant whole c.index.result c.args.below c.args.above c.index.ensures
    c.above-fed.result.number c.above-fed.ensures c.if-fed-above.false

pub invariant_of-turned : goal.invariant_of-turned
invariant_of-turned c =
    let f = fed c.args.self.now in
    let first = c.self.inside.chains.first in
    let next = c.self.inside.chains.next in
    let whole : length c.self.inside.joined ≡ 32 = search rules in
    let long : length first ≡ 32 = search rules in
    let wide : length next ≡ 32 = search rules in
    let y = c.args.below in
    let a = c.args.above.number in
    let x = c.last_before-previous.result in
    let z = c.match-before.before in
    let z_is : z ≡ c.last_before-before.result = elim c.match-before.branch [ in-None k ↦ k.before-is | in-Some k ↦ k.before-is ∙ sym k.in-Some.is ] in
    let last : LastBefore f a y.number (option_map number_of z) = subst (λ (o : Option Address). LastBefore f a y.number (option_map number_of o)) (sym z_is) c.last_before-before.ensures in
    let after : option_map number_of c.match-before.after ≡ onward f a (place_after (option_map number_of z)) = elim c.match-before.branch [
      | in-None k ↦ ap (option_map number_of) k.after-is ∙ after_none f a z k.first-after.result (k.before-is ∙ k.in-None.is) k.first-after.ensures
      | in-Some k ↦ ap (option_map number_of) k.after-is ∙ after_some f a z k.next-after.result k.in-Some.q k.before-is last.feeds k.next-after.ensures
    ] in
    let first_is : c.put-then-fed-above.new.self.first ≡ first_put (first_put first c.above-fed.result.number x c.next.result) a z (Some y) =
    c.put-then-fed-above.ensures.first ∙ ap (λ (l : List (Option Address)). first_put l a z (Some y)) c.put.ensures.first in
    let next_is : c.put-then-fed-above.new.self.next ≡ next_put (set (next_put next x c.next.result) y.number c.match-before.after) z (Some y) =
    c.put-then-fed-above.ensures.next ∙ (λ i. next_put (set (c.put.ensures.next i) (c.index-then-fed-above.ensures i) c.match-before.after) z (Some y)) in
    rw (first_is, next_is)
    (turned_moved c.self.inside.joined first next c.args.self.now c.self.view_is c.self.invariant whole c.index.result y c.args.above c.index.ensures
    long wide c.above-fed.result c.above-fed.ensures c.if-fed-above.true x z c.next.result c.match-before.after c.last_before-previous.ensures last c.next.ensures after)
