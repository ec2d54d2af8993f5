use Rattle.std.proofs.Common.{◌≡◌, ◌+◌, List, ap, sym, ◌∙◌, subst}
use Rattle.std.specs.Prelude.{IsTrue}
use Rattle.std.specs.List.{list_all}
use Rattle.tg_instr.specs.declared.instr.Instr.{Instr}
use Rattle.tg_instr.specs.Codes.{marks_differ, leads_to_marks, has_temps_below, ends_well, has_registers_alone, has_slots_below, is_allocated, names_registers}
use Rattle.tg_regalloc.specs.mirror.InFrame.{code_in_frame}
use Rattle.tg_regalloc.proofs.Replacing.{same_differing, marks_stand, still_ends}
use Rattle.tg_regalloc.proofs.Framed.{are_framed}
use Rattle.tg_regalloc.proofs.Registers.{registers_alone, registers_allocated, slots_below, alone_below}
use Rattle.tg_regalloc.proofs.frames.in_frame.Goals as goal

pub invariant_of-result : goal.invariant_of-result
invariant_of-result c =
    let code = c.args.code.now in
    let base = c.args.frame.slots in
    let e : code_in_frame base code.list ≡ c.from_vec.result = sym (c.from_vec.ensures ∙ (c.in_ok-list.ensures ∙ ap (code_in_frame base) c.as_slice.ensures)) in
    let r = are_framed base code.list in
    record {
      marks_differ = subst (λ (l : List Instr). IsTrue (marks_differ l)) e (same_differing r ∙ code.marks_differ);
      marks_stand = subst (λ (l : List Instr). IsTrue (list_all (leads_to_marks l) l)) e (marks_stand r code.marks_stand);
      temps_below = subst (λ (l : List Instr). IsTrue (list_all (has_temps_below 0) l)) e
          (alone_below 0 (code_in_frame base code.list) (registers_alone base code.temps code.list code.temps_below c.requires.registers));
      ends_well = subst (λ (l : List Instr). IsTrue (ends_well l)) e (still_ends r code.ends_well);
    }

pub invariant_of-result-2 : goal.invariant_of-result-2
invariant_of-result-2 c =
    let code = c.args.code.now in
    let base = c.args.frame.slots in
    let e : code_in_frame base code.list ≡ c.from_vec.result = sym (c.from_vec.ensures ∙ (c.in_ok-list.ensures ∙ ap (code_in_frame base) c.as_slice.ensures)) in
    record {
      registers_alone = subst (λ (l : List Instr). IsTrue (list_all has_registers_alone l)) e
          (registers_alone base code.temps code.list code.temps_below c.requires.registers);
      slots_below = subst (λ (l : List Instr). IsTrue (list_all (has_slots_below (base + code.temps)) l)) e
          (slots_below base code.temps code.list code.temps_below c.requires.registers c.requires.slots_below);
    }

pub returns-clause-registers : goal.returns-clause-registers
returns-clause-registers c =
    let code = c.args.code.now in
    let base = c.args.frame.slots in
    let e : code_in_frame base code.list ≡ c.from_vec.result = sym (c.from_vec.ensures ∙ (c.in_ok-list.ensures ∙ ap (code_in_frame base) c.as_slice.ensures)) in
    subst (λ (l : List Instr). IsTrue (list_all (names_registers is_allocated) l)) e
    (registers_allocated base code.temps code.list code.temps_below c.requires.registers)
