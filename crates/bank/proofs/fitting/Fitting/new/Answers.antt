use Rattle.std.proofs.Common.{None, Option}
use Rattle.std.specs.Option.{option_map}
use Rattle.bank.specs.declared.factor.CornerFactor.{CornerFactor}
use Rattle.bank.specs.Fitting.{thousandths_of}
use Rattle.bank.proofs.Lists.{get_d_same}
use Rattle.bank.proofs.fitting.Fitting.new.Goals as goal

pub returns : goal.returns
returns c = λ i. λ k. option_map thousandths_of (get_d_same {A = Option CornerFactor} 32 k None i)
