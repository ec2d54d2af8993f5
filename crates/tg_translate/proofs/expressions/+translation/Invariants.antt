use Rattle.std.proofs.Common.{◌≡◌, ◌+◌, [], length}
use Rattle.tg_tree.specs.Tree.{Const, no_txs, no_stms}
use Rattle.tg_tree.specs.glue.Lists.{txs_of, stms_of}
use Rattle.tg_translate.specs.mirror.States.{state_of}
use Rattle.tg_translate.specs.mirror.Wants.{value}
use Rattle.tg_translate.specs.mirror.Scopes.{findings_of}
use Rattle.tg_translate.proofs.Walks.{WalkedTo, SequencedTo, value_step, field_step, declaration_step, body_step}
use Rattle.tg_translate.proofs.expressions.+translation.Given as goal

abbrev pub invariant-values-loop-e : goal.invariant-values-loop-e
invariant-values-loop-e l =
    WalkedTo (value_step (findings_of l.findings) l.within) l.e-items l.e-index no_txs (state_of l.fn.state) (txs_of l.values.items) (state_of l.state)

abbrev pub invariant-fields-loop-init : goal.invariant-fields-loop-init
invariant-fields-loop-init l =
    WalkedTo (field_step (findings_of l.findings) l.within l.direct) l.init-items l.init-index
    (record { before = stms_of l.fn.before.items; operands = [] }) (state_of l.fn.state)
    (record { before = stms_of l.before.items; operands = l.operands.items }) (state_of l.state)

abbrev pub invariant-sequence-loop-e : goal.invariant-sequence-loop-e
invariant-sequence-loop-e l = record {
  count : l.left + l.e-index ≡ length l.e-items;
  so_far :
      SequencedTo (findings_of l.findings) l.within l.e-items l.want l.e-index (stms_of l.fn.before.items) (state_of l.fn.state) (stms_of l.before.items)
      (value (Const 0)) (state_of l.state);
}

abbrev pub invariant-declarations-loop-dec : goal.invariant-declarations-loop-dec
invariant-declarations-loop-dec l =
    WalkedTo (declaration_step (findings_of l.findings) l.within) l.dec-items l.dec-index no_stms (state_of l.fn.state)
    (stms_of l.before.items) (state_of l.state)

abbrev pub invariant-bodies-loop-function : goal.invariant-bodies-loop-function
invariant-bodies-loop-function l =
    WalkedTo (body_step (findings_of l.findings) l.within) l.function-items l.function-index l.first (state_of l.fn.state) l.label (state_of l.state)
