use Rattle.std.proofs.Common.{◌≡◌, ℕ, ◌+◌, ◌<◌, length-set, refl, sym, ap, ◌∙◌, subst, arith}
use Rattle.std.specs.declared.iter.Rev.{Rev}
use Rattle.bank.specs.declared.addresses.Addresses.{Addresses}
use Rattle.junction.specs.Feeding.{fed}
use Rattle.junction.specs.Chains.{mapped}
use Rattle.junction.proofs.Chaining.{ChainedFrom, chained_none, chained_more, fed_found, link_found}
use Rattle.junction.proofs.feeds.chained.Goals as goal

pub loop-below-init : goal.loop-below-init
loop-below-init c =
    let all : c.into_iter-below-iterator.result.iter ≡ c.all.result = ap (λ (r : Rev Addresses). r.iter) c.into_iter-below-iterator.ensures.into_iter_gives ∙ c.rev-below-items.ensures.source in
    let whole = ap (λ (s : Addresses). s.end) all ∙ c.all.ensures.end in
    record {
      long = refl;
      wide = refl;
      lowest = ap (λ (s : Addresses). s.next) all ∙ c.all.ensures.first;
      so_far = subst (ChainedFrom (fed (mapped c.args.joined.now)) _ _) (sym whole) (chained_none (fed (mapped c.args.joined.now)));
    }

pub loop-below-preserved : goal.loop-below-preserved
loop-below-preserved c =
    let f = fed (mapped c.args.joined.now) in
    let first = c.loop-below.first in
    let next = c.loop-below.next in
    let i = c.in-Some.below.number in
    let was = c.loop-below.invariant in
    let step = c.in-Some.ensures.steps in
    let back : i + 1 ≡ c.loop-below.below-iterator.iter.end = ap (λ (n : ℕ). n + 1) step.0 ∙ step.2 in
    let low : i < 32 = omega (arith, c.in-Some.below.low) in
    let inside : c.unwrap_or-above.result.number < 32 = omega (arith, c.unwrap_or-above.result.low) in
    let feeds = fed_found c.args.joined.now c.index.result i _ _ c.unwrap_or-above.result c.told-joined low c.index.ensures refl c.unwrap_or-above.ensures in
    let after = link_found first c.index-in-loop-below.result c.unwrap_or-above.result.number c.index-first-index.result was.long inside c.index-in-loop-below.ensures in
    let more = chained_more f first next i c.unwrap_or-above.result.number _ _ was.long was.wide low inside feeds after refl (subst (ChainedFrom f first next) (sym back) was.so_far) in
    record {
      long = length-set _ _ _ ∙ was.long;
      wide = length-set _ _ _ ∙ was.wide;
      lowest = step.1 ∙ was.lowest;
      so_far = subst (ChainedFrom f _ _) step.0 (rw (c.index-in-loop-below-3.ensures, c.index-in-loop-below-2.ensures) more);
    }
