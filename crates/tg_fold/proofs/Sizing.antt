-- The laws of sizes.
use Rattle.std.proofs.Common.{◌≡◌, true, subst, arith}
use Rattle.tg_tree.specs.Tree.{Tx, Cond, Ts, Function}
use Rattle.tg_tree.specs.Shapes.{is_flat, is_flat_condition}
use Rattle.tg_tree.specs.Units.{Trees}
use Rattle.tg_tree.specs.Sizes.{expression_length, expression_needs, condition_length, condition_needs, statement_length, statement_needs, in_trees}
use Rattle.tg_tree.specs.Sizes.{tree_length, tree_needs}
use Rattle.tg_fold.specs.laws.Laws.{IsNoLarger, folded_function}
use Rattle.tg_fold.specs.mirror.Folding.{Open, folded_tx, tested, folded}
use Rattle.tg_fold.proofs.Shrinking.{CondShrinks, TestShrinks, folded_tx_shrinks, tested_shrinks, folded_shrinks}

pub expressions_shrink : (x : Tx) → IsNoLarger (expression_length Trees x) (expression_length Trees (folded_tx x)) (expression_needs in_trees x)
    (expression_needs in_trees (folded_tx x))
expressions_shrink x = let h = folded_tx_shrinks x in record { length = h.length; room = h.room }

open_shrinks : (c d : Cond) → tested c ≡ Open d → CondShrinks c d
open_shrinks c d e = subst (λ t. TestShrinks c t) e (tested_shrinks c)

pub conditions_shrink : (c d : Cond) → tested c ≡ Open d →
    IsNoLarger (condition_length Trees c) (condition_length Trees d) (condition_needs in_trees c) (condition_needs in_trees d)
conditions_shrink c d e = let h = open_shrinks c d e in record { length = h.length; room = h.room }

pub statements_shrink : (s : Ts) → IsNoLarger (statement_length Trees s) (statement_length Trees (folded s)) (statement_needs in_trees s)
    (statement_needs in_trees (folded s))
statements_shrink s = let h = folded_shrinks s in record { length = h.length; room = h.room }

pub functions_shrink : (f : Function Ts) → IsNoLarger (tree_length f) (tree_length (folded_function f)) (tree_needs f) (tree_needs (folded_function f))
functions_shrink f =
    let h = folded_shrinks f.body in
    record { length = let a = h.length in omega arith; room = let a = h.room in omega arith }

pub flat_stays : (x : Tx) → is_flat x ≡ true → is_flat (folded_tx x) ≡ true
flat_stays x = (folded_tx_shrinks x).flat

pub flat_tests_stay : (c d : Cond) → tested c ≡ Open d → is_flat_condition c ≡ true → is_flat_condition d ≡ true
flat_tests_stay c d e = (open_shrinks c d e).flat
