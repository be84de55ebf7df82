use Rattle.std.proofs.Common.{vec_items, ap}
use Rattle.platforms.proofs.Input.{first_known}
use Rattle.platforms.proofs.reading.first_bytes.Goals as goal

pub returns : goal.returns
returns g c =
    first_known _ _ _ _ (vec_items c.read_to_end.new.buf) c.take.ensures.limit (ap g.R.Read.remaining c.take.ensures.inner) c.new-bytes.ensures.items c.in_ok-read_to_end.ensures.bytes
