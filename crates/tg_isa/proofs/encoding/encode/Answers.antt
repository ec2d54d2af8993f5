use Rattle.std.proofs.Common.{ap, ◌∙◌}
use Rattle.tg_isa.specs.Table.{decode_of}
use Rattle.tg_isa.proofs.Inverse.{decode_of-word_of}
use Rattle.tg_isa.proofs.encoding.encode.Goals as goal

pub returns-clause-back : goal.returns-clause-back
returns-clause-back c = ap decode_of c.word.ensures.word ∙ decode_of-word_of _ c.word.ensures.row
