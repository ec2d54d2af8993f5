use Rattle.std.proofs.Common.{◌≡◌, ℕ, true, List, [], length, replicate, sym, ap, ◌∙◌, subst}
use Rattle.std.proofs.lemmas.List.{length-replicate}
use Rattle.tg_instr.specs.declared.instr.Instr.{Instr}
use Rattle.tg_live.specs.Flow.{successors}
use Rattle.tg_live.specs.glue.Tables.{Table, add_from, have_rows_below}
use Rattle.tg_live.proofs.Turned.{flow_of_table}
use Rattle.tg_live.proofs.Places.{successors_below, before_of}
use Rattle.tg_live.proofs.edges.flow.Goals as goal

pub add_all_edges-requires-clause-within : goal.add_all_edges-requires-clause-within
add_all_edges-requires-clause-within c =
    let code = c.args.code.now in
    let list = c.as_slice-list.result.now in
    let size = ap (λ (t : Table). length t) c.in_ok-before.ensures
    ∙ (length-replicate (length list) [] ∙ ap (λ (l : List Instr). length l) c.as_slice-list.ensures) in
    let P : ℕ → Type 0 = λ n. have_rows_below n (successors code.list) ≡ true in
    let Q : List Instr → Type 0 = λ l. have_rows_below (length c.in_ok-before.before) (successors l) ≡ true in
    subst Q (sym c.as_slice-list.ensures) (subst P (sym size)
    (successors_below code.list code.marks_stand code.ends_well))

pub returns : goal.returns
returns c =
    let code = c.args.code.now in
    let table = c.add_all_edges.new.before in
    let made : table ≡ add_from 0 (successors code.list) (replicate (length code.list) []) =
    c.in_ok-add_all_edges.ensures
    ∙ (ap (add_from 0 (successors c.as_slice-list.result.now)) c.in_ok-before.ensures
    ∙ ap (λ (l : List Instr). add_from 0 (successors l) (replicate (length l) [])) c.as_slice-list.ensures) in
    c.new.ensures
    ∙ flow_of_table code.list table (before_of code.list table
    (successors_below code.list code.marks_stand code.ends_well) made)
