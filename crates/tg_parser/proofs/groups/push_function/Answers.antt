use Rattle.tg_parser.proofs.GroupSteps.{functions_grown, put_behind, behind_no_functions}
use Rattle.tg_parser.proofs.groups.push_function.Goals as goal

pub returns-in_ok-push-in-Functions-2 : goal.returns-in_ok-push-in-Functions-2
returns-in_ok-push-in-Functions-2 c =
    functions_grown _ _ _ _ c.in-Functions.functions c.push-in-Functions.new.self c.args.dec c.in-Some.ensures.items c.in-Functions.is
    c.in_ok-push-in-Functions.ensures.items c.in_ok-push-in-Functions-2.ensures.items

pub returns-in_ok-push-in_default-last-2 : goal.returns-in_ok-push-in_default-last-2
returns-in_ok-push-in_default-last-2 c =
    put_behind _ _ _ _ _ _ _ c.in-Some.ensures.items c.in_ok-push-in_default-last.ensures.items c.in_ok-push-in_default-last-2.ensures.items
    (behind_no_functions c.in-Some.last _ c.args.dec c.in_default-last.not-Functions c.in_ok-function_alone-in_default-last.ensures)
