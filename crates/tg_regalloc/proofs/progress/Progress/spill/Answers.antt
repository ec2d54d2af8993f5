use Rattle.std.proofs.Common.{ℕ, ◌≡◌, ◌+◌, List, length, refl, ap, sym, ◌∙◌, subst, arith}
use Rattle.std.specs.Prelude.{IsTrue}
use Rattle.std.specs.List.{list_all}
use Rattle.tg_instr.specs.declared.instr.Instr.{Instr}
use Rattle.tg_instr.specs.Codes.{has_slots_below, names_registers}
use Rattle.std.specs.Option.{option_or}
use Rattle.tg_regalloc.specs.Conditions.{is_fixed}
use Rattle.tg_regalloc.specs.Rewriting.{code_rewritten, slot_after, slot_in, slotted}
use Rattle.tg_regalloc.proofs.Alike.{AreAlike, code_alike, temps_alike}
use Rattle.tg_regalloc.proofs.RewrittenBelow.{all_weaker, slots_weaker, slots_below}
use Rattle.tg_regalloc.proofs.RewrittenNames.{code_names}
use Rattle.tg_regalloc.proofs.SlotsBehind.{aliases_below, classes_below, alike, slots_taken, filled}
use Rattle.tg_regalloc.proofs.progress.Progress.spill.Goals as goal

pub slots_of-requires-clause-aliases : goal.slots_of-requires-clause-aliases
slots_of-requires-clause-aliases c =
    aliases_below c.args.round.now c.args.self.code.temps c.requires.nodes c.as_slice-aliases.result.now c.as_slice-aliases.ensures

pub slots_of-requires-clause-classes : goal.slots_of-requires-clause-classes
slots_of-requires-clause-classes c =
    classes_below c.args.round.now c.args.self.code.temps c.requires.nodes c.as_slice-aliases.result.now c.as_slice-aliases.ensures
    (length c.args.self.locations.items) c.args.classes.now c.requires.classes

pub returns-clause-list : goal.returns-clause-list
returns-clause-list c =
    let code = c.args.self.code in
    c.in_ok-code.ensures.list
    ∙ code_alike code.temps (slot_in c.deref.result.now) (slot_after (length c.args.self.locations.items) c.args.self.slots c.args.round.now)
    (alike c.args.round.now code.temps c.requires.nodes c.as_slice-aliases.result.now c.as_slice-aliases.ensures
    (length c.args.self.locations.items) c.args.self.slots c.args.classes.now c.deref.result.now c.requires.classes
    (c.deref.ensures.value ∙ c.in_ok-slots.ensures))
    code.list code.temps code.temps_below

pub returns-clause-temps : goal.returns-clause-temps
returns-clause-temps c =
    let code = c.args.self.code in
    c.in_ok-code.ensures.temps
    ∙ temps_alike code.temps (slot_in c.deref.result.now) (slot_after (length c.args.self.locations.items) c.args.self.slots c.args.round.now)
    (alike c.args.round.now code.temps c.requires.nodes c.as_slice-aliases.result.now c.as_slice-aliases.ensures
    (length c.args.self.locations.items) c.args.self.slots c.args.classes.now c.deref.result.now c.requires.classes
    (c.deref.ensures.value ∙ c.in_ok-slots.ensures))
    code.list code.temps code.temps_below

pub invariant_of-result : goal.invariant_of-result
invariant_of-result c =
    let code = c.args.self.code in
    let base = c.args.self.slots in
    let originals = length c.args.self.locations.items in
    let round = c.args.round.now in
    let slot_of = slot_after originals base round in
    let e : c.in_ok-code.code.list ≡ code_rewritten slot_of code.list code.temps =
    c.in_ok-code.ensures.list
    ∙ code_alike code.temps (slot_in c.deref.result.now) slot_of
    (alike round code.temps c.requires.nodes c.as_slice-aliases.result.now c.as_slice-aliases.ensures originals base
    c.args.classes.now c.deref.result.now c.requires.classes (c.deref.ensures.value ∙ c.in_ok-slots.ensures))
    code.list code.temps code.temps_below in
    let end : c.in_ok-end.end ≡ base + length (slotted originals round) = c.in_ok-end.ensures ∙ ap (λ (cs : List ℕ). base + length cs) c.requires.classes in
    record {
      registers =
          subst (λ (l : List Instr). IsTrue (list_all (names_registers is_fixed) l)) (sym e)
          (code_names is_fixed refl slot_of code.list code.temps c.args.self.registers);
      slots_below =
          subst (λ (m : ℕ). IsTrue (list_all (has_slots_below m) c.in_ok-code.code.list)) (sym end)
          (subst (λ (l : List Instr). IsTrue (list_all (has_slots_below (base + length (slotted originals round))) l)) (sym e)
          (slots_below slot_of (base + length (slotted originals round)) (slots_taken originals base round) code.list code.temps
          (all_weaker (has_slots_below base) (has_slots_below (base + length (slotted originals round)))
          (slots_weaker base (base + length (slotted originals round)) (omega arith)) code.list c.args.self.slots_below)));
    }

pub returns-clause-locations : goal.returns-clause-locations
returns-clause-locations c t l =
    let old = c.args.self.locations.items in
    let size : length c.fill_locations.new.locations ≡ length old = c.fill_locations.auto.locations ∙ ap length c.deref_mut.ensures.value in
    let before : length c.deref_mut.result.now ≡ length old = ap length c.deref_mut.ensures.value in
    let alike_here : AreAlike c.args.self.code.temps (slot_in c.deref.result.now) (slot_after (length old) c.args.self.slots c.args.round.now) =
    alike c.args.round.now c.args.self.code.temps c.requires.nodes c.as_slice-aliases.result.now c.as_slice-aliases.ensures
    (length old) c.args.self.slots c.args.classes.now c.deref.result.now c.requires.classes (c.deref.ensures.value ∙ c.in_ok-slots.ensures) in
    let few = c.requires.locations in
    filled c.args.self.locations.len c.fill_locations.new.locations old t (let n = c.deref_mut.ensures.len in omega (arith, n, before)) size l
    ∙ (c.fill_locations.ensures t (omega (arith, before, l))
    ∙ (ap (λ xs. option_or (slot_in xs t) (slot_in c.deref-2.result.now t)) c.deref_mut.ensures.value
    ∙ (ap (λ xs. option_or (slot_in old t) (slot_in xs t)) (c.deref-2.ensures.value ∙ sym c.deref.ensures.value)
    ∙ ap (option_or (slot_in old t)) (alike_here t (omega (arith, few, l))))))
