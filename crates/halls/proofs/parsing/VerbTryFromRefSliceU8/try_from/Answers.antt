use Rattle.std.proofs.Common.{codes, sym, ap, arith, rules}
use Rattle.std.proofs.lemmas.Slice.Eq.{text_from_reads}
use Rattle.halls.specs.Verbs.{verb_of}
use Rattle.halls.proofs.parsing.VerbTryFromRefSliceU8.try_from.Goals as goal

pub returns-in-record : goal.returns-in-record
returns-in-record c = ap verb_of (sym (text_from_reads c.args.word.now (codes "record") (omega arith) (search rules)))

pub returns-in-gauges : goal.returns-in-gauges
returns-in-gauges c = ap verb_of (sym (text_from_reads c.args.word.now (codes "gauges") (omega arith) (search rules)))

pub returns-in-waiting : goal.returns-in-waiting
returns-in-waiting c = ap verb_of (sym (text_from_reads c.args.word.now (codes "waiting") (omega arith) (search rules)))
