use Rattle.std.proofs.Common.{map, vec_items, ap, ◌∙◌}
use Rattle.halls.specs.Said.{reply_of}
use Rattle.halls.proofs.Played.{printed_input}
use Rattle.halls.proofs.running.play.Goals as goal

pub returns : goal.returns
returns g c =
    printed_input c.print_all.result (g.R.Read.remaining c.args.input) (g.W.Write.contents c.args.output.now) _ _ (vec_items c.read_to_end.new.buf) c.as_slice.result.now _ (map reply_of c.as_slice-2.result.now) c.new-text.ensures.items c.in_ok-read_to_end.ensures.bytes c.as_slice.ensures.value c.in_ok-script.ensures.value (ap (map reply_of) c.as_slice-2.ensures.value ∙ c.in_ok-replies.ensures.value) c.print_all.ensures
