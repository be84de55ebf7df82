use Rattle.std.proofs.Common.{ap, ◌∙◌}
use Rattle.bank.specs.declared.dials.DialTable.{DialTable}
use Rattle.bank.specs.Dials.{setting_at}
use Rattle.bank.proofs.Dialled.{still_copies}
use Rattle.bank.proofs.dials.Gauges+DialTable.new.Goals as goal

pub returns-clause-settings : goal.returns-clause-settings
returns-clause-settings c = ap (λ (s : DialTable). setting_at s.dials) c.over.ensures.source ∙ (λ i. λ k. still_copies c.still.result c.still.ensures 32 k i)
