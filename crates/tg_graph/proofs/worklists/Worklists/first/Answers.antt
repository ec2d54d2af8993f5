use Rattle.std.specs.Prelude.{nat_lt}
use Rattle.std.specs.Bool.{then_some}
use Rattle.std.proofs.Common.{◌≡◌, ℕ, ◌+◌, ◌<◌, List, length, get_or, slice_get, slice_index, Option, IfSome, sym, ap, ◌∙◌, subst, arith}
use Rattle.std.proofs.lemmas.List.{get_or_read}
use Rattle.tg_graph.specs.Lists.{Lists, nodes_in, number}
use Rattle.tg_graph.specs.glue.Linking.{list_from}
use Rattle.tg_graph.proofs.Members.{front_of, some_below}
use Rattle.tg_graph.proofs.Moves.{nodes_by}
use Rattle.tg_graph.proofs.worklists.Worklists.first.Goals as goal

pub returns-clause-value : goal.returns-clause-value
returns-clause-value c =
    let n = c.self.inside.nodes in
    let next = c.self.inside.next.items in
    let end = n + number c.args.list in
    let within : n + c.number.result < length next = omega (arith, c.self.invariant.sized, c.number.ensures.fits) in
    let read : c.index-front.result.now ≡ get_or next end 0 =
    get_or_read next (n + c.number.result) c.index-front.result.now within c.index-front.ensures 0
    ∙ ap (λ i. get_or next (n + i) 0) c.number.ensures.value in
    c.then_some.ensures
    ∙ (ap (λ (y : ℕ). then_some (nat_lt y n) y) read
    ∙ (front_of (slice_index next) n end (slice_index next end) (list_from n next c.args.list) (omega arith)
    (c.self.invariant.runs c.args.list)
    ∙ (ap (λ (xs : List ℕ). slice_get xs 0) (sym (nodes_by n (list_from n next) c.args.list))
    ∙ ap (λ (v : Lists). slice_get (nodes_in v c.args.list) 0) c.self.view_is)))

pub returns-clause-within : goal.returns-clause-within
returns-clause-within c =
    subst (λ (o : Option ℕ). IfSome o (λ x. x < c.args.self.now.nodes)) (sym c.then_some.ensures)
    (some_below c.index-front.result.now c.self.inside.nodes c.args.self.now.nodes
    (ap (λ (v : Lists). v.nodes) c.self.view_is))
