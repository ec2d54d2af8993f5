use Rattle.std.proofs.Common.{◌≡◌, true, sym, ap, ◌∙◌}
use Rattle.tg_graph.specs.declared.worklists.Worklist.{Worklist}
use Rattle.tg_graph.specs.Lists.{Lists, moved}
use Rattle.tg_coalescing_round.specs.glue.ShownWork.{work_of}
use Rattle.tg_coalescing_round.specs.glue.Works.{Work, is_open, list_of}
use Rattle.tg_coalescing_round.proofs.AdvancingListing.{relisted_not, relisted_open}
use Rattle.tg_coalescing_round.proofs.states.Coalescer.relist.Goals as goal

pub returns-then-is_open : goal.returns-then-is_open
returns-then-is_open c =
    let w = c.args.self.now in
    let x = c.args.node in
    let i = c.self.inside in
    let opened : is_open w x ≡ true = sym c.is_open.ensures ∙ c.if-is_open.true in
    let lists = c.move_to.ensures
    ∙ (ap (λ (k : Worklist). moved i.lists x k) c.list_of-list.ensures
    ∙ ap (λ (u : Work). moved u.lists x (list_of w x)) c.self.view_is) in
    ap (λ (l : Lists). record (work_of i) { lists = l }) lists
    ∙ (ap (λ (u : Work). record u { lists = moved w.lists x (list_of w x) }) c.self.view_is
    ∙ sym (relisted_open x w opened))

pub returns-else-is_open : goal.returns-else-is_open
returns-else-is_open c = sym (relisted_not c.args.node c.args.self.now (sym c.is_open.ensures ∙ c.if-is_open.false))
