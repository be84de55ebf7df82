use Rattle.std.proofs.Common.{◌++◌, [], map, vec_items, refl, ap, ◌∙◌}
use Rattle.halls.specs.declared.stages.Stage.TheVariants.{Fitting, FirstBox, SecondBox, ThirdBox, FourthBox, Asking}
use Rattle.halls.specs.Scripts.{met_of}
use Rattle.halls.specs.Said.{reply_of}
use Rattle.halls.specs.Bases.{base_of, chosen, shows_base}
use Rattle.halls.specs.Stands.{OfBase, OfTop, OfTerminal, shown, new_box}
use Rattle.halls.specs.Replies.{replies_by, stand_after, upto}
use Rattle.halls.proofs.Staging.{stood, whole}
use Rattle.halls.proofs.running.build.Goals as goal

pub returns : goal.returns
returns g c =
    let base = base_of g.D.Fitted.base g.R.Fitted.base in
    let law = shows_base g.D.GaugeBank.shows g.R.GaugeBank.shows g.D.Fitted.base g.R.Fitted.base g.met.D.Fitted.shows_base g.met.R.Fitted.shows_base c.answer_all.new.stand in
    let bank = c.of_kind-beneath.ensures in
    let b = base (chosen c.args.kind c.args.dials c.args.recording) in
    let none = ap (map reply_of) c.new-so_far.ensures.items in
    let first = map met_of c.through.result.0.now in
    let h1 = stood [] _ (OfBase b) Fitting (map met_of c.args.steps.now) first _ _
    (c.in_ok-answer_all.ensures.replies ∙ ap (λ xs. xs ++ replies_by (OfBase (base c.of_kind-beneath.result)) first) none ∙ ap (λ k. replies_by (OfBase (base k)) first) bank)
    (law ∙ ap shown (c.in_ok-answer_all.ensures.after ∙ ap (λ k. stand_after (OfBase (base k)) first) bank))
    c.through.ensures.within c.through.ensures.after in
    let n1 = map met_of c.through.result.1.now in
    let e1 = c.in_ok-bank.ensures in
    let n2 = map met_of c.in_ok-bank.steps.now in
    let e2 = c.in_ok-bank-2.ensures in
    let n3 = map met_of c.in_ok-bank-2.steps.now in
    let e3 = c.in_ok-bank-3.ensures in
    let n4 = map met_of c.in_ok-bank-3.steps.now in
    let e4 = c.in_ok-top.ensures in
    let n5 = map met_of c.in_ok-top.steps.now in
    let h2 = stood _ _ (new_box _) FirstBox n1 (upto FirstBox n1) n2 _ e1.replies e1.bank refl e1.left in
    let h3 = stood _ _ (new_box _) SecondBox n2 (upto SecondBox n2) n3 _ e2.replies e2.bank refl e2.left in
    let h4 = stood _ _ (new_box _) ThirdBox n3 (upto ThirdBox n3) n4 _ e3.replies e3.bank refl e3.left in
    let h5 = stood _ _ (new_box _) FourthBox n4 (upto FourthBox n4) n5 _ e4.replies e4.bank refl e4.left in
    let e5 = c.in_ok-answer_all-2.ensures in
    let h6 = stood _ _ (OfTop _) Asking n5 _ _ _ e5.replies (ap shown e5.after) c.through-2.ensures.within c.through-2.ensures.after in
    let last = map met_of c.through-2.result.1.now in
    whole b _ h1 h2 h3 h4 h5 h6 (c.in_ok-answer_all-3.ensures.replies ∙ ap (λ u. map reply_of (vec_items c.answer_all-2.new.so_far) ++ replies_by (OfTerminal u) last) c.new.ensures)
