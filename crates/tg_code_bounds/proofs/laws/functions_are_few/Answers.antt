use Rattle.tg_code_bounds.proofs.Functions as functions
use Rattle.tg_code_bounds.proofs.laws.functions_are_few.Goals as goal

pub returns : goal.returns
returns c = functions.functions_are_few
