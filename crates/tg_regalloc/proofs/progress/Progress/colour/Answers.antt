use Rattle.std.proofs.Common.{◌≡◌, List, sym, ◌∙◌, subst}
use Rattle.std.specs.Prelude.{IsTrue}
use Rattle.std.specs.List.{list_all}
use Rattle.tg_instr.specs.declared.instr.Instr.{Instr}
use Rattle.tg_instr.specs.Codes.{marks_differ, leads_to_marks, has_temps_below, ends_well, has_registers_alone, has_slots_below, is_allocated, names_registers}
use Rattle.tg_regalloc.specs.Painting.{code_painted, colour_of}
use Rattle.tg_regalloc.proofs.Replacing.{same_differing, marks_stand, still_ends}
use Rattle.tg_regalloc.proofs.Painted.{are_painted}
use Rattle.tg_regalloc.proofs.PaintedNames.{names_allocated, names_alone, slots_stay, painted_behind, locations_behind}
use Rattle.tg_regalloc.proofs.Registers.{alone_below}
use Rattle.tg_regalloc.proofs.progress.Progress.colour.Goals as goal

pub returns-clause-list : goal.returns-clause-list
returns-clause-list c =
    c.from_vec.ensures
    ∙ (c.in_ok-list.ensures ∙ painted_behind c.args.round.now c.as_slice.result.now c.args.self.now.code.list c.as_slice-2.result.now
    c.as_slice.ensures c.as_slice-2.ensures)

pub returns-clause-locations : goal.returns-clause-locations
returns-clause-locations c =
    c.in_ok-registers.ensures
    ∙ locations_behind c.args.round.now c.as_slice.result.now c.args.self.now.locations.items c.deref.result.now c.as_slice.ensures c.deref.ensures.value

pub invariant_of-result : goal.invariant_of-result
invariant_of-result c =
    let code = c.args.self.now.code in
    let colour = colour_of c.args.round.now in
    let e : code_painted colour code.list ≡ c.from_vec.result =
    sym (c.from_vec.ensures ∙ (c.in_ok-list.ensures ∙ painted_behind c.args.round.now c.as_slice.result.now code.list
    c.as_slice-2.result.now c.as_slice.ensures c.as_slice-2.ensures)) in
    let r = are_painted colour code.list in
    record {
      marks_differ = subst (λ (l : List Instr). IsTrue (marks_differ l)) e (same_differing r ∙ code.marks_differ);
      marks_stand = subst (λ (l : List Instr). IsTrue (list_all (leads_to_marks l) l)) e (marks_stand r code.marks_stand);
      temps_below =
          subst (λ (l : List Instr). IsTrue (list_all (has_temps_below 0) l)) e
          (alone_below 0 (code_painted colour code.list) (names_alone colour code.list c.args.self.now.registers));
      ends_well = subst (λ (l : List Instr). IsTrue (ends_well l)) e (still_ends r code.ends_well);
    }

pub invariant_of-result-2 : goal.invariant_of-result-2
invariant_of-result-2 c =
    let code = c.args.self.now.code in
    let colour = colour_of c.args.round.now in
    let e : code_painted colour code.list ≡ c.from_vec.result =
    sym (c.from_vec.ensures ∙ (c.in_ok-list.ensures ∙ painted_behind c.args.round.now c.as_slice.result.now code.list
    c.as_slice-2.result.now c.as_slice.ensures c.as_slice-2.ensures)) in
    record {
      registers_alone = subst (λ (l : List Instr). IsTrue (list_all has_registers_alone l)) e (names_alone colour code.list c.args.self.now.registers);
      slots_below =
          subst (λ (l : List Instr). IsTrue (list_all (has_slots_below c.args.self.now.slots) l)) e
          (slots_stay colour c.args.self.now.slots code.list c.args.self.now.slots_below);
    }

pub returns-clause-registers : goal.returns-clause-registers
returns-clause-registers c =
    let code = c.args.self.now.code in
    let colour = colour_of c.args.round.now in
    let e : code_painted colour code.list ≡ c.from_vec.result =
    sym (c.from_vec.ensures ∙ (c.in_ok-list.ensures ∙ painted_behind c.args.round.now c.as_slice.result.now code.list
    c.as_slice-2.result.now c.as_slice.ensures c.as_slice-2.ensures)) in
    subst (λ (l : List Instr). IsTrue (list_all (names_registers is_allocated) l)) e (names_allocated colour code.list c.args.self.now.registers)
