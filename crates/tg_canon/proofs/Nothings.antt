-- A sequence in the code is nothing where it has no statement.
use Rattle.std.proofs.Common.{◌≡◌, ◌==◌, List, [], ◌∷◌, length, vec_len, refl, sym, ap, ◌∙◌}
use Rattle.std.proofs.Math.Dec.{eqb-suc-zero}
use Rattle.tg_tree.specs.declared.trees.Ts.{Ts as CodeTs, Seq}
use Rattle.tg_tree.specs.declared.trees.Stms.{Stms}
use Rattle.tg_tree.specs.Tree as tree
use Rattle.tg_tree.specs.glue.Plain.{plain_ts}
use Rattle.tg_tree.specs.glue.Lists.{stms_of}
use Rattle.tg_tree.proofs.ListLaws.{plain_ts-Seq}
use Rattle.tg_canon.specs.mirror.Canon.{is_nothing, statements_of}

none_is : (ss : List CodeTs) → is_nothing (tree.Seq (stms_of ss)) ≡ (length ss == 0)
none_is [] = refl
none_is (s ∷ ss) = sym (eqb-suc-zero (length ss))

pub is_nothing-Seq : (ss : Stms) → is_nothing (plain_ts (Seq ss)) ≡ (vec_len ss.items == 0)
is_nothing-Seq ss = ap is_nothing (plain_ts-Seq ss) ∙ (none_is ss.items.items ∙ ap (λ n. n == 0) (sym ss.items.ok.0))

pub statements_of-Seq : (ss : Stms) → statements_of (plain_ts (Seq ss)) ≡ stms_of ss.items.items
statements_of-Seq ss = ap statements_of (plain_ts-Seq ss)
