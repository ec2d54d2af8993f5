use Rattle.std.proofs.Common.{◌≡◌, ℕ, List, ap, sym, ◌∙◌, subst}
use Rattle.std.specs.Prelude.{IsTrue}
use Rattle.std.specs.List.{list_all}
use Rattle.tg_instr.specs.declared.instr.Instr.{Instr}
use Rattle.tg_instr.specs.Codes.{marks_differ, leads_to_marks, has_temps_below, ends_well}
use Rattle.tg_regalloc.specs.Rewriting.{code_rewritten, slot_in, temps_after}
use Rattle.tg_regalloc.proofs.Replacing.{same_differing, marks_stand, still_ends}
use Rattle.tg_regalloc.proofs.Rewritten.{are_replaced}
use Rattle.tg_regalloc.proofs.RewrittenBelow.{temps_below}
use Rattle.tg_regalloc.proofs.rewriting.rewrite.Goals as goal

pub invariant_of-result : goal.invariant_of-result
invariant_of-result c =
    let code = c.args.code.now in
    let slot_of = slot_in c.args.slots.now in
    let e : code_rewritten slot_of code.list code.temps ≡ c.from_vec.result = sym (c.from_vec.ensures ∙ (c.in_ok-list.ensures.list ∙ ap (λ l. code_rewritten slot_of l code.temps) c.as_slice.ensures)) in
    let n : temps_after slot_of code.list code.temps ≡ c.instructions.new.next = sym (c.in_ok-list.ensures.next ∙ ap (λ l. temps_after slot_of l code.temps) c.as_slice.ensures) in
    let r = are_replaced slot_of code.list code.temps in
    record {
      marks_differ = subst (λ (l : List Instr). IsTrue (marks_differ l)) e (same_differing r ∙ code.marks_differ);
      marks_stand = subst (λ (l : List Instr). IsTrue (list_all (leads_to_marks l) l)) e (marks_stand r code.marks_stand);
      temps_below = subst (λ (m : ℕ). IsTrue (list_all (has_temps_below m) c.from_vec.result)) n
          (subst (λ (l : List Instr). IsTrue (list_all (has_temps_below (temps_after slot_of code.list code.temps)) l)) e
          (temps_below slot_of code.list code.temps code.temps_below));
      ends_well = subst (λ (l : List Instr). IsTrue (ends_well l)) e (still_ends r code.ends_well);
    }
