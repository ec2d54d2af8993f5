use Rattle.tg_literal_bounds.proofs.Reading.{strings_are_tokens}
use Rattle.tg_literal_bounds.proofs.laws.strings_are_tokens.Goals as goal

pub returns : goal.returns
returns c = strings_are_tokens
