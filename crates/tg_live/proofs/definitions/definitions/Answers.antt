use Rattle.std.proofs.Common.{List, [], ◌∷◌, ◌++◌, map, take, get_or, ap, sym, ◌∙◌}
use Rattle.std.proofs.lemmas.List.{map_push, map-append, take_all, take_more}
use Rattle.tg_instr.specs.declared.instr.Instr.{Instr}
use Rattle.tg_instr.specs.declared.operands.Opnd.{Opnd}
use Rattle.tg_instr.specs.Uses.{defs_of}
use Rattle.tg_live.specs.glue.Definitions.{operands_in}
use Rattle.tg_live.proofs.definitions.definitions.Goals as goal

pub loop-one-init : goal.loop-one-init
loop-one-init c = ap (map operands_in) c.in_ok-defined.ensures.items

pub loop-one-preserved : goal.loop-one-preserved
loop-one-preserved c =
    let list : List Instr = c.args.list.now in
    let at = c.loop-one.one-index in
    let one : Instr = c.one-item.result in
    ap (map operands_in) c.in_ok-push.ensures.items
    ∙ (map_push operands_in c.loop-one.defined.items c.defined_by.result
    ∙ (ap (λ (rows : List (List Opnd)). rows ++ operands_in c.defined_by.result ∷ []) c.loop-one.invariant
    ∙ (ap (λ (row : List Opnd). map defs_of (take at list) ++ row ∷ []) c.defined_by.ensures
    ∙ (ap (λ (x : Instr). map defs_of (take at list) ++ defs_of x ∷ []) c.one-item.is
    ∙ sym (ap (map defs_of) (take_more list at one c.loop-one-test.true)
    ∙ map-append defs_of (take at list) (get_or list at one ∷ []))))))

pub returns : goal.returns
returns c =
    c.loop-one.invariant ∙ ap (map defs_of) (take_all c.loop-one.one-index c.args.list.now c.loop-one-test.false)
