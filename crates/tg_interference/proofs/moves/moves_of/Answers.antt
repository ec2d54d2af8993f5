use Rattle.std.proofs.Common.{◌++◌, [], ◌∷◌, sym, ap, ◌∙◌}
use Rattle.std.specs.List.{list_all}
use Rattle.tg_instr.specs.Codes.{has_temps_below}
use Rattle.tg_interference.specs.Moves.{moves_of}
use Rattle.tg_interference.proofs.Operands.{all_read, temps_below_more}
use Rattle.tg_interference.proofs.Occurring.{moves_more}
use Rattle.tg_interference.proofs.moves.moves_of.Goals as goal

pub push_move-requires : goal.push_move-requires
push_move-requires c =
    let code = c.args.code.now in
    temps_below_more code.temps 16777216 c.one-item.result c.requires
    (all_read (has_temps_below code.temps) c.as_slice-list.result.now c.loop-one.one-index c.one-item.result
    c.loop-one-test.true c.one-item.is
    (ap (list_all (has_temps_below code.temps)) c.as_slice-list.ensures ∙ code.temps_below))

pub loop-one-preserved : goal.loop-one-preserved
loop-one-preserved c =
    c.in_ok-push_move.ensures
    ∙ (ap (λ xs. xs ++ moves_of (c.one-item.result ∷ [])) c.loop-one.invariant
    ∙ sym (moves_more c.as_slice-list.result.now c.loop-one.one-index c.one-item.result c.loop-one-test.true
    c.one-item.is))
