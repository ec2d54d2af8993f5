use Rattle.std.proofs.Common.{arith, ◌≡◌, ◌<◌, ◌+◌, ◌*◌, ◌/◌, ◌%◌, ap, ◌∙◌, length, get_or}
use Rattle.std.specs.Prelude.{Some, slice_index}
use Rattle.std.proofs.lemmas.List.{get_or-map, length-map}
use Rattle.tg_machine_state.specs.State.{MachineState}
use Rattle.tg_base.specs.Words.{sub}
use Rattle.tg_machine.specs.mirror.Rows.{row_at, row_of}
use Rattle.tg_machine.proofs.RowEffects.{row_found}
use Rattle.tg_machine.proofs.cores.Core.row_at.Goals as goal

pub returns-then-index-len : goal.returns-then-index-len
returns-then-index-len c =
    let above = sub c.args.place 4194304 in
    let i = above / 4 + above % 4 * 1073741824 in
    let code = c.self.inside.code.items in
    let size : length c.self.inside.rows.items ≡ length code = ap length c.self.invariant.rows_are ∙ length-map code row_of in
    let lt : i < length code = omega (arith, c.if-index-len.true, c.len.ensures, size) in
    let place : c.args.place ≡ 4194304 + 4 * i = omega (arith, lt, c.self.invariant.code_fits, c.ranges.place.fits) in
    let row : c.index.result.now ≡ row_of (slice_index code i) =
    c.index.ensures ∙ ap (λ xs. get_or xs i c.index.result.now) c.self.invariant.rows_are ∙ get_or-map row_of code i _ _ lt in
    ap Some row ∙ row_found code i c.args.place lt place ∙ ap (λ (x : MachineState). row_at x.code c.args.place) c.self.view_is
