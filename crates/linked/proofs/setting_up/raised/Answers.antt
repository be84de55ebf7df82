use Rattle.std.proofs.Common.{◌∙◌, ap}
use Rattle.junction.specs.Gather.{boxed}
use Rattle.junction.specs.Joins.{after_joins}
use Rattle.junction.specs.declared.junction_box.JunctionBox.{JunctionBox}
use Rattle.linked.proofs.setting_up.raised.Goals as goal

pub returns : goal.returns
unfolding after_joins
returns g c =
    let feeds = ap (λ (b : JunctionBox g.row.B.Denot). b.feeds) c.over.ensures ∙ c.new.ensures.feeds in
    let bank = ap (λ (b : JunctionBox g.row.B.Denot). b.below) c.over.ensures ∙ c.new.ensures.bank in
    λ i. boxed (feeds i) (g.B.GaugeBank.shows (bank i))
