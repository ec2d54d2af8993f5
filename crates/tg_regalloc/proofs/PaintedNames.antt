-- The registers and the slots that painted code names.
use Rattle.std.proofs.Common.{ℕ, ◌≡◌, ◌<◌, ◌≤◌, List, [], ◌∷◌, Bool, true, false, Option, Some, None, length, map, take, drop, ◌-◌, ◌∙◌, refl, ap}
use Rattle.std.proofs.Common.{subst, sym, ⊎_elim}
use Rattle.std.specs.Prelude.{IsTrue, cond, not}
use Rattle.std.specs.List.{list_all, range_with_len}
use Rattle.std.proofs.lemmas.Bool.{cases_lt}
use Rattle.std.proofs.lemmas.List.{get_or-drop, get_or_past}
use Rattle.tg_instr.specs.declared.operands.Opnd.{Opnd}
use Rattle.tg_instr.specs.declared.operands.Opnd.TheVariants.{Temp, Reg}
use Rattle.tg_instr.specs.declared.instr.Instr.{Instr}
use Rattle.tg_instr.specs.Codes.{has_registers_alone, has_slots_below, is_allocated, has_register, names_registers}
use Rattle.tg_instr.specs.Renaming.{named}
use Rattle.tg_instr.proofs.Tests.{left_holds, right_holds, both_hold, all_at}
use Rattle.tg_live.specs.Interference.{colours}
use Rattle.tg_irc_definition.specs.declared.rounds.Round.{Round}
use Rattle.tg_regalloc.specs.Conditions.{is_fixed}
use Rattle.tg_regalloc.specs.Painting.{register_of, colour_or_first, colour_of, colour_in, is_idle, painted_named, instruction_painted, code_painted}
use Rattle.tg_regalloc.specs.Rewriting.{slot_in}
use Rattle.tg_regalloc.specs.Rounds.{location_in, locations_in}
use Rattle.tg_regalloc.proofs.Naming.{stays_painted}
use Rattle.tg_regalloc.proofs.RegisterNames.{fixed_allocated, names_weaker, names_renamed}
use Rattle.tg_regalloc.proofs.Registers.{alone_renamed}
use Rattle.tg_regalloc.proofs.RewrittenBelow.{slots_renamed}
use Rattle.tg_regalloc.proofs.SlotsBehind.{behind_registers}

kept : (p : Instr → Bool) (b : Bool) (y : Instr) (ys : List Instr) → IsTrue (p y) → IsTrue (list_all p ys) → IsTrue (list_all p (cond b (y ∷ ys) ys))
kept p true y ys h k = both_hold (p y) _ h k
kept p false y ys h k = k

-- what each painted instruction passes
painted_passes : (colour : ℕ → ℕ) (p q : Instr → Bool) → ((one : Instr) → IsTrue (q one) → IsTrue (p (instruction_painted colour one))) →
    (list : List Instr) → IsTrue (list_all q list) → IsTrue (list_all p (code_painted colour list))
painted_passes colour p q f [] h = refl
painted_passes colour p q f (x ∷ rest) h =
    kept p (not (is_idle (instruction_painted colour x))) (instruction_painted colour x) (code_painted colour rest) (f x (left_holds _ _ h))
    (painted_passes colour p q f rest (right_holds (q x) _ h))

module _ (colour : ℕ → ℕ) where
  -- the register in an operand's place
  abbrev number : Option Opnd → ℕ
  number (Some (Temp t)) = register_of (colour t.0)
  number (Some (Reg r)) = r
  number None = 0

  painted_is : (o : Option Opnd) → painted_named colour o ≡ Reg (number o)
  painted_is (Some (Temp t)) = refl
  painted_is (Some (Reg r)) = refl
  painted_is None = refl

  one_alone : (one : Instr) → IsTrue (has_registers_alone (instruction_painted colour one))
  one_alone one =
      let f = stays_painted colour one in
      rw (painted_is (named one).to, painted_is (named one).first, painted_is (named one).second)
      (alone_renamed one (number (named one).to) (number (named one).first) (number (named one).second)
      (rw (← painted_is (named one).first, ← painted_is (named one).second) f))

  -- a colour's register is one of the allocator's
  register_allowed : (c : ℕ) → IsTrue (is_allocated (register_of c))
  register_allowed c =
      ⊎_elim (λ (l : c < length colours). all_at is_allocated colours c 0 l refl)
      (λ (l : length colours ≤ c). subst (λ r. IsTrue (is_allocated r)) (sym (get_or_past colours c 0 l)) refl)
      (cases_lt c (length colours))

  operand_allowed : (o : Option Opnd) → IsTrue (has_register is_fixed o) → IsTrue (has_register is_allocated (Some (painted_named colour o)))
  operand_allowed (Some (Temp t)) h = register_allowed (colour t.0)
  operand_allowed (Some (Reg r)) h = fixed_allocated r h
  operand_allowed None h = refl

  one_allowed : (one : Instr) → IsTrue (names_registers is_fixed one) → IsTrue (names_registers is_allocated (instruction_painted colour one))
  one_allowed one h =
      let rest = right_holds (has_register is_fixed (named one).to) _ h in
      names_renamed is_allocated one _ _ _ (names_weaker is_fixed is_allocated fixed_allocated one h)
      (operand_allowed (named one).to (left_holds _ _ h)) (operand_allowed (named one).first (left_holds _ _ rest))
      (operand_allowed (named one).second (right_holds (has_register is_fixed (named one).first) _ rest))

  pub names_allocated : (list : List Instr) → IsTrue (list_all (names_registers is_fixed) list) →
      IsTrue (list_all (names_registers is_allocated) (code_painted colour list))
  names_allocated list h = painted_passes colour (names_registers is_allocated) (names_registers is_fixed) one_allowed list h

  pub names_alone : (list : List Instr) → IsTrue (list_all (names_registers is_fixed) list) → IsTrue (list_all has_registers_alone (code_painted colour list))
  names_alone list h = painted_passes colour has_registers_alone (names_registers is_fixed) (λ one h. one_alone one) list h

  pub slots_stay : (m : ℕ) (list : List Instr) → IsTrue (list_all (has_slots_below m) list) → IsTrue (list_all (has_slots_below m) (code_painted colour list))
  slots_stay m list h = painted_passes colour (has_slots_below m) (has_slots_below m) (λ one h. slots_renamed m one _ _ _ h) list h

-- the colours of temporaries stand after those of registers
pub same_colour : (round : Round) → colour_in (drop 25 round.colours) ≡ colour_of round
same_colour round = λ i t. ap colour_or_first (get_or-drop 25 round.colours t None) i

-- as the code takes them
colours_behind : (round : Round) (all : List (Option ℕ)) → all ≡ round.colours → colour_in (take (length all - 25) (drop 25 all)) ≡ colour_of round
colours_behind round all e = ap colour_in (behind_registers all ∙ ap (drop 25) e) ∙ same_colour round

pub painted_behind : (round : Round) (all : List (Option ℕ)) (list list' : List Instr) → all ≡ round.colours → list' ≡ list →
    code_painted (colour_in (take (length all - 25) (drop 25 all))) list' ≡ code_painted (colour_of round) list
painted_behind round all list list' e d =
    ap (code_painted (colour_in (take (length all - 25) (drop 25 all)))) d ∙ ap (λ f. code_painted f list) (colours_behind round all e)

pub locations_behind : (round : Round) (all locations locations' : List (Option ℕ)) → all ≡ round.colours → locations' ≡ locations →
    locations_in locations' (take (length all - 25) (drop 25 all)) ≡ map (λ t. location_in (slot_in locations t) (colour_of round t)) (range_with_len 0 (length locations))
locations_behind round all locations locations' e d =
    ap (λ hs. locations_in hs (take (length all - 25) (drop 25 all))) d
    ∙ ap (λ (f : ℕ → ℕ). map (λ t. location_in (slot_in locations t) (f t)) (range_with_len 0 (length locations))) (colours_behind round all e)
