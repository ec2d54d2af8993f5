-- Statements without their last are no deeper.
use Rattle.std.proofs.Common.{◌≡◌, ◌≤◌, ◌+◌, [], ◌∷◌, ◌++◌, ap, ◌∙◌, arith}
use Rattle.std.specs.Prelude.{max}
use denote.Param.Weighed.{most, most-append}
use Rattle.tg_tree.specs.declared.trees.Ts.{Ts, size-Ts}
use Rattle.tg_tree.specs.declared.trees.Stms.{Stms, size-Stms, size_is-Stms}

pub no_deeper : (some all : Stms) (s : Ts) → all.items.items ≡ some.items.items ++ s ∷ [] → size-Stms some ≤ size-Stms all
no_deeper some all s e =
    let small : size-Stms some ≡ max (most size-Ts some.items.items) 0 + 1 = size_is-Stms some in
    let large : size-Stms all ≡ max (most size-Ts all.items.items) 0 + 1 = size_is-Stms all in
    let joined : most size-Ts all.items.items ≡ max (most size-Ts some.items.items) (most size-Ts (s ∷ [])) = ap (most size-Ts) e ∙ most-append size-Ts some.items.items (s ∷ []) in
    omega arith
