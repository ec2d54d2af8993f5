use Rattle.std.proofs.Common.{sym, subst}
use Rattle.tg_explain.specs.glue.Asking.{Shows, is_program}
use Rattle.tg_explain.proofs.Asked.{shown}
use Rattle.tg_explain.proofs.expecting.shows.Goals as goal

pub returns-in-Err-Bad : goal.returns-in-Err-Bad
returns-in-Err-Bad c =
    let h = rw c.in-Err-Bad.field-0-is at c.in-Err-Bad.ensures.bad in
    subst (λ b. Shows c.args.tokens.now b) (sym c.shows_by.ensures) (shown c.args.tokens.now c.in-Err-Bad.rule c.in-Err-Bad.at h)

pub returns : goal.returns
returns c = is_program c.in-Ok.ensures.program
