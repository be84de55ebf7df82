use Rattle.std.proofs.Common.{codes, sym, ap, arith, rules}
use Rattle.std.proofs.lemmas.Slice.Eq.{text_from_reads}
use Rattle.halls.specs.Verbs.{kind_of}
use Rattle.halls.proofs.parsing.KindTryFromRefSliceU8.try_from.Goals as goal

pub returns-in-recording : goal.returns-in-recording
returns-in-recording c = ap kind_of (sym (text_from_reads c.args.word.now (codes "recording") (omega arith) (search rules)))
