use Rattle.std.proofs.Common.{◌≡◌, ◌∙◌, ℕ, [], ◌∷◌, length, ap, sym, arith}
use Rattle.bank.specs.Ports.{Port}
use Rattle.junction.specs.Piles.{pile}
use Rattle.linked.specs.Halls.{joined, hall}
use Rattle.linked.proofs.Lines.{few_boxes, hall_at, in_hall}
use Rattle.linked.proofs.serving.serve_dials.Goals as goal

-- one more box without a join
abbrev more : (ℕ → Port) → ℕ → Port
more m = pile m ([] ∷ [])

pub returns-in-2 : goal.returns-in-2
returns-in-2 c =
    let b = c.args.boxes in
    let p = c.args.ports in
    let ds = c.args.digits.now in
    let r = sym c.in_ok-checked.ensures in
    let j = sym (c.in_ok-one.ensures ∙ ap (λ (m : ℕ → Port). joined m p) c.dials-dials.ensures) in
    let there = hall_at 2 b p ds _ c.in-2.is c.if-boxes-eq0.false r j in
    let heard = in_hall (hall b p ds) _ _ c.args.run.now c.args.answers.now c.answer-in-2.new.answers c.answer-in-2.result c.raised.ensures there c.answer-in-2.ensures.count c.answer-in-2.ensures.buffer in
    record { answer = heard.answer; buffer = heard.buffer; within = c.answer-in-2.ensures.within }

pub returns-in-3 : goal.returns-in-3
returns-in-3 c =
    let b = c.args.boxes in
    let p = c.args.ports in
    let ds = c.args.digits.now in
    let r = sym c.in_ok-checked.ensures in
    let j = sym (c.in_ok-one.ensures ∙ ap (λ (m : ℕ → Port). joined m p) c.dials-dials.ensures) in
    let there = hall_at 3 b p ds _ c.in-3.is c.if-boxes-eq0.false r j in
    let shown = c.raised-in-3-2.ensures ∙ ap more c.raised-in-3.ensures in
    let heard = in_hall (hall b p ds) _ _ c.args.run.now c.args.answers.now c.answer-in-3.new.answers c.answer-in-3.result shown there c.answer-in-3.ensures.count c.answer-in-3.ensures.buffer in
    record { answer = heard.answer; buffer = heard.buffer; within = c.answer-in-3.ensures.within }

pub returns-in_default : goal.returns-in_default
returns-in_default c =
    let b = c.args.boxes in
    let p = c.args.ports in
    let ds = c.args.digits.now in
    let r = sym c.in_ok-checked.ensures in
    let j = sym (c.in_ok-one.ensures ∙ ap (λ (m : ℕ → Port). joined m p) c.dials-dials.ensures) in
    let four : b ≡ 4 = omega (arith, few_boxes b p (length ds) r, c.if-boxes-eq0.false, c.in_default) in
    let there = hall_at 4 b p ds _ four c.if-boxes-eq0.false r j in
    let shown = c.raised-in_default-3.ensures ∙ ap more (c.raised-in_default-2.ensures ∙ ap more c.raised-in_default.ensures) in
    let heard = in_hall (hall b p ds) _ _ c.args.run.now c.args.answers.now c.answer-in_default.new.answers c.answer-in_default.result shown there c.answer-in_default.ensures.count c.answer-in_default.ensures.buffer in
    record { answer = heard.answer; buffer = heard.buffer; within = c.answer-in_default.ensures.within }
