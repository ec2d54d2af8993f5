use Rattle.std.proofs.Common.{◌≡◌, ◌++◌, sym, subst}
use Rattle.tg_syntax.specs.SyntaxFaults.{EndsOnce}
use Rattle.tg_explain.specs.glue.Asking.{asked, Shows}
use Rattle.tg_explain.proofs.Asked.{decides, asked_ends}
use Rattle.tg_explain.proofs.expecting.can_follow.Goals as goal

pub shows-requires : goal.shows-requires
shows-requires c =
    let e : c.deref.result.now ≡ c.args.before.now.items ++ asked c.args.kind = cc c.in_ok-push_asked.ensures in
    subst (λ w. EndsOnce w) (sym e) (asked_ends c.args.before.now.items c.args.kind c.requires)

pub returns-clause-decided : goal.returns-clause-decided
returns-clause-decided c =
    let e : c.deref.result.now ≡ c.args.before.now.items ++ asked c.args.kind = cc c.in_ok-push_asked.ensures in
    decides c.args.before.now.items c.args.kind c.in_ok-can.can c.requires (subst (λ w. Shows w c.in_ok-can.can) e c.in_ok-can.ensures)
