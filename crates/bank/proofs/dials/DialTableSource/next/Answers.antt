use Rattle.std.proofs.Common.{◌≡◌, ◌-◌, ◌<◌, length, get_or, ap, ◌∙◌, rules}
use Rattle.std.proofs.lemmas.List.{get_or_default}
use Rattle.bank.specs.declared.dial.Dial.{Dial}
use Rattle.bank.specs.Dials.{still}
use Rattle.bank.proofs.Dialled.{given_turned}
use Rattle.bank.proofs.dials.DialTableSource.next.Goals as goal

pub returns-clause-after : goal.returns-clause-after
returns-clause-after c =
    let ds = c.args.self.now.dials in
    let p = c.args.at.number in
    let place = c.index-place.result in
    let d = get_or ds place c.index-self-place.result in
    let long : p < length ds = search rules in
    let at_place : get_or ds place c.index-self-place-2.result ≡ get_or ds p still = (λ i. get_or ds (c.index-place.ensures i) c.index-self-place-2.result) ∙ get_or_default ds p c.index-self-place-2.result still long in
    let same : d ≡ get_or ds p still = (λ i. get_or ds (c.index-place.ensures i) c.index-self-place.result) ∙ get_or_default ds p c.index-self-place.result still long in
    let taken : c.in_ok-self.field-0 ≡ d.conversions - 1 = search rules in
    let less : c.in_ok-self.field-0 ≡ (get_or ds p still).conversions - 1 = taken ∙ ap (λ (t : Dial). t.conversions - 1) same in
    given_turned ds place p _ c.index-place.ensures long (λ i. record { digits = ap (λ (t : Dial). t.digits) at_place i; conversions = less i })
