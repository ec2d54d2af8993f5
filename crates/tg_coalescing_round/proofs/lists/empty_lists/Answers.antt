use Rattle.std.proofs.Common.{◌≡◌, ℕ, List, [], ◌∷◌, ◌++◌, map, replicate, ap, ◌∙◌, arith}
use Rattle.std.proofs.lemmas.List.{map_push, replicate_more}
use Rattle.tg_coalescing_round.proofs.Vectors.{items_of}
use Rattle.tg_coalescing_round.proofs.lists.empty_lists.Goals as goal

pub loop-init : goal.loop-init
loop-init c = ap (map items_of) c.in_ok-lists.ensures.items

pub loop-preserved : goal.loop-preserved
loop-preserved c =
    ap (map items_of) c.in_ok-push.ensures.items
    ∙ (map_push items_of c.loop.lists.items c.new.result
    ∙ (ap (λ (lists : List (List ℕ)). lists ++ items_of c.new.result ∷ []) c.loop.invariant
    ∙ (ap (λ (list : List ℕ). replicate c.loop.counter [] ++ list ∷ []) c.new.ensures.items
    ∙ replicate_more c.loop.counter [])))

pub returns : goal.returns
returns c =
    let all : c.loop.counter ≡ c.args.count = omega (arith, c.loop-test.false, c.loop.auto.counter-end) in
    c.loop.invariant ∙ ap (λ n. replicate n []) all
