-- The laws of one scale, in one place.
use Rattle.scale.specs.Exact.{SpansStay, WeighingsExact}
use Rattle.scale.specs.Keeping.{RefusalsKeep, ObeyedLeave, QueriesKeep, RestartsRestore, HeldOnce}

pub record ScaleLaws : Type 0 where
  pub refusals : RefusalsKeep
  pub obeyed : ObeyedLeave
  pub queries : QueriesKeep
  pub restarts : RestartsRestore
  pub once : HeldOnce
  pub spans : SpansStay
  pub weighings : WeighingsExact
