-- The laws of one scale, in one place.
use Rattle.scale.specs.Laws.{ScaleLaws}
use Rattle.scale.proofs.Exact.{weighings_exact}
use Rattle.scale.proofs.Keeping.{refusals_keep, obeyed_leave, restarts_restore, held_once, spans_stay}
use Rattle.scale.proofs.Asking.{queries_keep}

pub scale_laws : ScaleLaws
scale_laws = record {
  refusals = refusals_keep;
  obeyed = obeyed_leave;
  queries = queries_keep;
  restarts = restarts_restore;
  once = held_once;
  spans = spans_stay;
  weighings = weighings_exact;
}
