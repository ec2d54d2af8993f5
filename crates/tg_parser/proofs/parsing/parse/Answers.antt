use Rattle.std.proofs.Common.{ap}
use Rattle.tg_syntax.specs.glue.Plain.{plain}
use Rattle.tg_parser.proofs.ParseSteps.{got_program, got_shallow, refused, too_deep}
use Rattle.tg_parser.proofs.parsing.parse.Goals as goal

pub returns-in_ok-bounded_program-in-Ok-clause-program : goal.returns-in_ok-bounded_program-in-Ok-clause-program
returns-in_ok-bounded_program-in-Ok-clause-program c = rw (ap plain c.in_ok-bounded_program-in-Ok.ensures.same)
    (got_program c.args.tokens.now c.in_ok-part.part.now _ _ c.descent_is_exact.ensures.programs c.requires.ends c.in_ok-part.ensures c.in-Ok.ensures.given)

pub returns-in_ok-bounded_program-in-Ok-clause-shallow : goal.returns-in_ok-bounded_program-in-Ok-clause-shallow
returns-in_ok-bounded_program-in-Ok-clause-shallow c = got_shallow c.args.tokens.now c.in_ok-part.part.now _ _ c.requires.ends c.in_ok-part.ensures c.in-Ok.ensures.given

pub returns-in-Err-Wrong-clause-bad : goal.returns-in-Err-Wrong-clause-bad
returns-in-Err-Wrong-clause-bad c =
    refused c.args.tokens.now c.in_ok-part.part.now c.in-Err-Wrong.field-0 c.in-Err-Wrong.at c.descent_is_exact.ensures.first
    c.in_ok-part.ensures c.in-Err-Wrong.field-0-is
    c.in-Err-Wrong.ensures.given

pub returns-in-Err-More-clause-bad : goal.returns-in-Err-More-clause-bad
returns-in-Err-More-clause-bad c =
    too_deep c.args.tokens.now c.in_ok-part.part.now c.in-Err-More.field-0 c.index-part-part.result c.descent_is_exact.ensures.more
    c.descent_is_exact.ensures.ends c.requires.ends
    c.in_ok-part.ensures c.in-Err-More.field-0-is c.in-Err-More.ensures.given
