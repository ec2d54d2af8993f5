use Rattle.tg_formatter_laws.proofs.Lexed.{lexed_are_writable}
use Rattle.tg_formatter_laws.proofs.laws.lexed_are_writable.Goals as goal

pub returns : goal.returns
returns c = lexed_are_writable
