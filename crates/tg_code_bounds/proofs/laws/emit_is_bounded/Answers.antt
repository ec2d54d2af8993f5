use Rattle.tg_code_bounds.proofs.Lines as lines
use Rattle.tg_code_bounds.proofs.laws.emit_is_bounded.Goals as goal

pub returns : goal.returns
returns c = lines.emit_is_bounded
