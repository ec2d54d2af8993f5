use Rattle.std.specs.Prelude.{nat_lt}
use Rattle.std.specs.Bool.{then_some}
use Rattle.std.proofs.Common.{◌≡◌, ℕ, ◌+◌, ◌<◌, true, List, length, get_or, slice_index, Option, IfSome, sym, ap, ◌∙◌, subst, arith}
use Rattle.std.proofs.lemmas.List.{get_or_read}
use Rattle.tg_graph.specs.Interference.{is_among}
use Rattle.tg_graph.specs.Lists.{Lists, nodes_in, number, after}
use Rattle.tg_graph.specs.glue.Linking.{list_from}
use Rattle.tg_graph.proofs.Members.{behind_of, some_below}
use Rattle.tg_graph.proofs.Moves.{nodes_by}
use Rattle.tg_graph.proofs.worklists.Worklists.next.Goals as goal

pub returns-clause-value : goal.returns-clause-value
returns-clause-value c = λ list t.
    let n = c.self.inside.nodes in
    let next = c.self.inside.next.items in
    let x = c.args.node in
    let nodes : n ≡ c.args.self.now.nodes = ap (λ (v : Lists). v.nodes) c.self.view_is in
    let within : x < length next = omega (arith, c.self.invariant.sized, nodes, c.requires) in
    let read : c.index-behind.result.now ≡ get_or next x 0 =
    get_or_read next x c.index-behind.result.now within c.index-behind.ensures 0 in
    let same : nodes_in c.args.self.now list ≡ list_from n next list =
    ap (λ (v : Lists). nodes_in v list) (sym c.self.view_is) ∙ nodes_by n (list_from n next) list in
    let there : is_among x (list_from n next list) ≡ true = ap (λ (xs : List ℕ). is_among x xs) (sym same) ∙ t in
    c.then_some.ensures
    ∙ (ap (λ (y : ℕ). then_some (nat_lt y n) y) read
    ∙ (behind_of (slice_index next) n (n + number list) x (slice_index next (n + number list)) (list_from n next list)
    (omega arith) (c.self.invariant.runs list) there
    ∙ ap (λ (xs : List ℕ). after x xs) (sym same)))

pub returns-clause-within : goal.returns-clause-within
returns-clause-within c =
    subst (λ (o : Option ℕ). IfSome o (λ x. x < c.args.self.now.nodes)) (sym c.then_some.ensures)
    (some_below c.index-behind.result.now c.self.inside.nodes c.args.self.now.nodes
    (ap (λ (v : Lists). v.nodes) c.self.view_is))
