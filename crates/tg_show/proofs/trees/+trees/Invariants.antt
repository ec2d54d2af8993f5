use Rattle.std.proofs.Common.{◌≡◌, ◌++◌, true, drop}
use Rattle.tg_tree.specs.glue.Lists.{txs_of, stms_of}
use Rattle.tg_show.specs.Trees.{txs_text, stms_text}
use Rattle.tg_show.proofs.trees.+trees.Given as goal

abbrev pub invariant-put_further-loop-x : goal.invariant-put_further-loop-x
invariant-put_further-loop-x l =
    l.initial.text.items ++ txs_text l.names (txs_of l.x-items) ≡ l.text.items ++ txs_text l.names (txs_of (drop l.x-index l.x-items))

abbrev pub invariant-put_stms-loop-statement : goal.invariant-put_stms-loop-statement
invariant-put_stms-loop-statement l =
    l.initial.text.items ++ stms_text l.names true (stms_of l.statement-items)
    ≡ l.text.items ++ stms_text l.names l.is_first (stms_of (drop l.statement-index l.statement-items))
