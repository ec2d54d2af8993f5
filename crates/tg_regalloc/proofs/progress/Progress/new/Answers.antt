use Rattle.std.proofs.Common.{◌≡◌, List, None, replicate, ap, sym, ◌∙◌, subst, arith}
use Rattle.std.proofs.lemmas.Grind.{common_steps}
use Rattle.std.specs.Prelude.{IsTrue}
use Rattle.std.specs.List.{list_all}
use Rattle.tg_instr.specs.declared.instr.Instr.{Instr}
use Rattle.tg_instr.specs.Codes.{has_slots_below, names_registers}
use Rattle.tg_regalloc.specs.Conditions.{is_fixed}
use Rattle.tg_regalloc.specs.Rewriting.{code_rewritten, temps_after, slot_in}
use Rattle.tg_regalloc.proofs.Unspilled.{nowhere, code_stays, temps_stay, has_none}
use Rattle.tg_regalloc.proofs.progress.Progress.new.Goals as goal

pub returns-clause-list : goal.returns-clause-list
returns-clause-list c =
    let code = c.args.code.now in
    let all : c.in_ok-locations.locations.items ≡ replicate code.temps None = grind (arith, common_steps, c.in_ok-locations.ensures.items_if_clones_equal) in
    let none : slot_in c.deref.result.now ≡ nowhere = ap slot_in (c.deref.ensures.value ∙ all) ∙ has_none code.temps in
    c.in_ok-code.ensures.list ∙ (ap (λ f. code_rewritten f code.list code.temps) none ∙ code_stays code.list code.temps)

pub returns-clause-temps : goal.returns-clause-temps
returns-clause-temps c =
    let code = c.args.code.now in
    let all : c.in_ok-locations.locations.items ≡ replicate code.temps None = grind (arith, common_steps, c.in_ok-locations.ensures.items_if_clones_equal) in
    let none : slot_in c.deref.result.now ≡ nowhere = ap slot_in (c.deref.ensures.value ∙ all) ∙ has_none code.temps in
    c.in_ok-code.ensures.temps ∙ (ap (λ f. temps_after f code.list code.temps) none ∙ temps_stay code.list code.temps)

pub invariant_of-result : goal.invariant_of-result
invariant_of-result c =
    let code = c.args.code.now in
    let all : c.in_ok-locations.locations.items ≡ replicate code.temps None = grind (arith, common_steps, c.in_ok-locations.ensures.items_if_clones_equal) in
    let none : slot_in c.deref.result.now ≡ nowhere = ap slot_in (c.deref.ensures.value ∙ all) ∙ has_none code.temps in
    let same : c.in_ok-code.code.list ≡ code.list =
    c.in_ok-code.ensures.list ∙ (ap (λ f. code_rewritten f code.list code.temps) none ∙ code_stays code.list code.temps) in
    record {
      registers = subst (λ (l : List Instr). IsTrue (list_all (names_registers is_fixed) l)) (sym same) c.requires.registers;
      slots_below = subst (λ (l : List Instr). IsTrue (list_all (has_slots_below c.args.slots) l)) (sym same) c.requires.slots_below;
    }
