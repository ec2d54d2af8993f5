use Rattle.std.proofs.Common.{ℕ, ◌<◌, false, List, [], ◌∷◌, ◌++◌, length, get_or, map, ap, ◌∙◌}
use Rattle.std.proofs.lemmas.List.{take_all}
use Rattle.tg_irc_definition.specs.declared.candidates.NodeFacts.{NodeFacts}
use Rattle.tg_coalescing_round.proofs.Vectors.{map_taken}
use Rattle.tg_coalescing_round.proofs.classes.uses_of.Goals as goal

pub loop-node-init : goal.loop-node-init
loop-node-init c = c.in_ok-uses.ensures.items

pub loop-node-preserved : goal.loop-node-preserved
loop-node-preserved c =
    let facts : List NodeFacts = c.args.facts.now in
    let at : ℕ = c.loop-node.node-index in
    let no_facts : NodeFacts = record { uses = 0; made = false } in
    let behind : at < length facts = c.loop-node-test.true in
    c.in_ok-push.ensures.items
    ∙ (ap (λ (list : List ℕ). list ++ (get_or facts at no_facts).uses ∷ []) c.loop-node.invariant
    ∙ map_taken (λ (m : NodeFacts). m.uses) facts at no_facts behind)

pub returns : goal.returns
returns c =
    c.loop-node.invariant
    ∙ ap (map (λ (m : NodeFacts). m.uses)) (take_all c.loop-node.node-index c.args.facts.now c.loop-node-test.false)
