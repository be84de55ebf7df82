use Rattle.std.proofs.Common.{map, take, ap, sym, subst, ◌∙◌}
use Rattle.bank.specs.Gauges.{fits}
use Rattle.bank.specs.Dials.{setting_at}
use Rattle.bank.specs.Records.{due_of, due_at}
use Rattle.halls.specs.Scripts.{met_of, course_of}
use Rattle.halls.specs.Stands.{OfBase}
use Rattle.halls.specs.Bases.{OfDials, OfRecords, new_base}
use Rattle.halls.specs.Replies.{stages, replies_over, EachReplied}
use Rattle.halls.proofs.Replying.{each_replied}
use Rattle.halls.proofs.Basing.{new_of, if_ok_map}
use Rattle.halls.proofs.running.replies.Goals as goal

pub returns : goal.returns
returns c =
    let course = course_of c.args.script.now in
    let dials = ap (λ f. OfDials f (setting_at c.new.result.source.dials)) c.new.ensures.factors ∙ ap (OfDials fits) c.new.ensures.settings in
    let due = c.new-2.ensures.records ∙ ap (λ rs. due_of (take 65535 rs)) c.as_slice.ensures.value in
    let records = ap (λ f. OfRecords f (due_at c.new-2.result.source.records.now c.new-2.result.source.cursors)) c.new-2.ensures.factors ∙ ap (OfRecords fits) due in
    let base = new_of _ _ c.new.result c.new-2.result course.records course.kind dials records in
    let steps = ap (map met_of) c.as_slice-2.ensures.value in
    let value = if_ok_map c.build.result _ _ (λ rs h. h ∙ ap (λ b. replies_over b (map met_of c.as_slice-2.result.now)) base ∙ ap (replies_over (new_base course.kind course.records)) steps) c.build.ensures in
    record {
      value = value;
      law = if_ok_map c.build.result _ _ (λ rs h. subst (EachReplied course.steps) (sym h) (each_replied (OfBase (new_base course.kind course.records)) stages course.steps)) value;
    }
