use Rattle.std.proofs.Common.{◌≡◌, ℕ, List, [], ◌∷◌, ◌++◌, Vec, replicate, ap, ◌∙◌, arith}
use Rattle.std.specs.declared.alloc.Global.{Global}
use Rattle.std.proofs.lemmas.List.{map_push, replicate_more}
use Rattle.tg_graph.specs.glue.Keeping.{lists_of}
use Rattle.tg_graph.proofs.lists.empty_lists.Goals as goal

pub loop-init : goal.loop-init
loop-init c = ap lists_of c.in_ok-lists.ensures.items

pub loop-preserved : goal.loop-preserved
loop-preserved c =
    ap lists_of c.in_ok-push.ensures.items
    ∙ (map_push (λ (v : Vec ℕ Global). v.items) c.loop.lists.items c.new.result
    ∙ (ap (λ (ls : List (List ℕ)). ls ++ c.new.result.items ∷ []) c.loop.invariant
    ∙ (ap (λ (xs : List ℕ). replicate {A = List ℕ} c.loop.counter [] ++ xs ∷ []) c.new.ensures.items
    ∙ replicate_more c.loop.counter [])))

pub returns : goal.returns
returns c =
    let all : c.loop.counter ≡ c.args.count = omega arith in
    c.loop.invariant ∙ ap (λ n. replicate {A = List ℕ} n []) all
