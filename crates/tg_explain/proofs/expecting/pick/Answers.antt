use Rattle.std.proofs.Common.{[], sym, subst, refl, ap, ◌∙◌, get_or}
use Rattle.tg_syntax.specs.declared.tokens.Word.TheVariants.{WArray}
use Rattle.tg_explain.specs.declared.kinds.TokenKind.TheVariants.{Word}
use Rattle.tg_explain.specs.Expected.{ArePicked, no_more}
use Rattle.tg_explain.specs.glue.Asking.{Decides}
use Rattle.tg_explain.proofs.Asked.{picked_step, passed_step}
use Rattle.tg_explain.proofs.expecting.pick.Goals as goal
use Rattle.tg_explain.proofs.expecting.pick.Goals.{then-branch+in_ok-push, else-branch}

pub loop-kind-init : goal.loop-kind-init
loop-kind-init c = record {
  picked = subst (λ w. ArePicked c.args.before.now.items [] w) (sym c.new-kinds.ensures.items) no_more;
  same = refl;
}

pub loop-kind-preserved : goal.loop-kind-preserved
loop-kind-preserved c =
    let kind = get_or c.args.table.now c.loop-kind.kind-index (Word WArray) in
    let same = c.loop-kind.invariant.same in
    let decided = subst (λ w. Decides w kind c.in_ok-can_follow.field-0) same c.in_ok-can_follow.ensures.decided in
    elim c.if-branch.branch [
      | then-branch+in_ok-push w ↦ record {
        picked =
            picked_step c.args.before.now.items c.args.table.now c.loop-kind.kinds.items c.if-branch.kinds.items c.loop-kind.kind-index (Word WArray)
            c.loop-kind-test.true c.loop-kind.invariant.picked (subst (λ b. Decides c.args.before.now.items kind b) w.if-branch.true decided)
            (ap (λ k. k.items) w.kinds-is ∙ w.in_ok-push.ensures.items);
        same = c.in_ok-can_follow.ensures.same ∙ same;
      }
      | else-branch w ↦ record {
        picked =
            passed_step c.args.before.now.items c.args.table.now c.loop-kind.kinds.items c.if-branch.kinds.items c.loop-kind.kind-index (Word WArray)
            c.loop-kind-test.true c.loop-kind.invariant.picked (subst (λ b. Decides c.args.before.now.items kind b) w.if-branch.false decided)
            (ap (λ k. k.items) w.kinds-is);
        same = c.in_ok-can_follow.ensures.same ∙ same;
      }
    ]
