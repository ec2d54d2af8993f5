use Rattle.std.proofs.Common.{◌≡◌, ℕ, List, Option, [], ◌∷◌, ◌++◌, ◌∙◌, sym, ap, arith}
use Rattle.std.proofs.lemmas.List.FromFn.{map-range_with_len_more}
use Rattle.tg_coalescing_round.specs.mirror.Selecting.{own_colour, precoloured}
use Rattle.tg_coalescing_round.proofs.selection.precoloured.Goals as goal

pub loop-node-preserved : goal.loop-node-preserved
loop-node-preserved c =
    let n = c.loop-node.node in
    c.in_ok-push.ensures.items
    ∙ (ap (λ (l : List (Option ℕ)). l ++ c.own_colour.result ∷ []) c.loop-node.invariant
    ∙ (ap (λ (o : Option ℕ). precoloured n ++ o ∷ []) c.own_colour.ensures
    ∙ sym (map-range_with_len_more own_colour 0 n n (omega arith))))

pub returns : goal.returns
returns c =
    let all : c.loop-node.node ≡ c.args.nodes = omega arith in
    c.loop-node.invariant ∙ ap precoloured all
