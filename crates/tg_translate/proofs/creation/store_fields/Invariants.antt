use Rattle.std.proofs.Common.{◌≡◌, drop}
use Rattle.tg_tree.specs.glue.Lists.{stms_of}
use Rattle.tg_translate.specs.mirror.Constructs.{store_fields}
use Rattle.tg_translate.proofs.creation.store_fields.Given as goal

abbrev pub invariant-loop-operand : goal.invariant-loop-operand
invariant-loop-operand l =
    store_fields (stms_of l.fn.done.items) l.to.0 0 l.operands
    ≡ store_fields (stms_of l.done.items) l.to.0 l.field (drop l.operand-index l.operands)
