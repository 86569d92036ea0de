use Rattle.std.proofs.Common.{rules, arith, codes}
use Rattle.std.proofs.lemmas.Slice.Eq.{text_from_reads}
use Rattle.text.proofs.value.kind_of.Goals as goal

pub returns-in-conditional : goal.returns-in-conditional
returns-in-conditional c = text_from_reads c.args.bytes.now (codes "conditional") (omega arith) (search rules)
