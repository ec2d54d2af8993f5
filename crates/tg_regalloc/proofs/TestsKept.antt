-- What passes a test of instructions whatever operands they name, goes on to pass it in allocations.
use Rattle.std.proofs.Common.{ℕ, ◌≡◌, List, [], ◌∷◌, Bool, true, false, Option, Some, None, refl, sym, subst, ◌∙◌}
use Rattle.std.specs.Prelude.{IsTrue, cond, not}
use Rattle.std.specs.List.{list_all}
use Rattle.tg_instr.specs.declared.operands.Opnd.{Opnd}
use Rattle.tg_instr.specs.declared.operands.Opnd.TheVariants.{Temp, Reg}
use Rattle.tg_instr.specs.declared.instr.Instr.{Instr}
use Rattle.tg_instr.specs.declared.instr.Instr.TheVariants.{Move}
use Rattle.tg_instr.specs.Renaming.{named, renamed}
use Rattle.tg_instr.proofs.Tests.{left_holds, right_holds, both_hold, all_append}
use Rattle.tg_irc_definition.specs.declared.rounds.Round.{Round}
use Rattle.tg_irc_definition.specs.Policies.{Rule}
use Rattle.tg_regalloc.specs.mirror.InFrame.{through_named, loaded, stored, moved, through_slots, instruction_in_frame, code_in_frame}
use Rattle.tg_regalloc.specs.Rewriting.{loads, stores, target, first_use, second_use, next_after, instruction_rewritten, code_rewritten}
use Rattle.tg_regalloc.specs.Painting.{colour_of, is_idle, instruction_painted, code_painted}
use Rattle.tg_regalloc.specs.Rounds.{BetweenRounds, AreRounds, slots_by, last_round}
use Rattle.tg_regalloc.specs.Rounds.AreRounds.{last, more}
use Rattle.tg_regalloc.specs.laws.Explained.{IgnoresOperands, AllocationsKeepTests}

module _ (test : Instr → Bool) (ignores : IgnoresOperands test) where
  abbrev Pass : List Instr → Type 0
  Pass list = IsTrue (list_all test list)

  renamed_passes : (one : Instr) (x y z : Opnd) → IsTrue (test one) → IsTrue (test (renamed one x y z))
  renamed_passes one x y z h = ignores.renaming one x y z ∙ h

  loads_pass : (x : Opnd) (slot : Option ℕ) → Pass (loads x slot)
  loads_pass x None = refl
  loads_pass x (Some k) = both_hold _ _ (ignores.load x k) refl

  stores_pass : (x : Opnd) (slot : Option ℕ) → Pass (stores x slot)
  stores_pass x None = refl
  stores_pass x (Some k) = both_hold _ _ (ignores.store x k) refl

  loaded_pass : (base r : ℕ) (o : Option Opnd) → Pass (loaded base r o)
  loaded_pass base r (Some (Temp t)) = both_hold _ _ (ignores.load _ _) refl
  loaded_pass base r (Some (Reg q)) = refl
  loaded_pass base r None = refl

  stored_pass : (base r : ℕ) (o : Option Opnd) → Pass (stored base r o)
  stored_pass base r (Some (Temp t)) = both_hold _ _ (ignores.store _ _) refl
  stored_pass base r (Some (Reg q)) = refl
  stored_pass base r None = refl

  -- In slots of the frame.

  moved_pass : (base : ℕ) (to from : Opnd) → IsTrue (test (Move to from)) → Pass (moved base to from)
  moved_pass base (Temp t) (Temp s) h = both_hold _ _ (ignores.load _ _) (both_hold _ _ (ignores.store _ _) refl)
  moved_pass base (Temp t) (Reg q) h = both_hold _ _ (ignores.store _ _) refl
  moved_pass base (Reg r) (Temp s) h = both_hold _ _ (ignores.load _ _) refl
  moved_pass base (Reg r) (Reg q) h = both_hold _ _ h refl

  through_pass : (base : ℕ) (one : Instr) → IsTrue (test one) → Pass (through_slots base one (named one))
  through_pass base one h =
      let n = named one in
      let y = renamed one (through_named 8 n.to) (through_named 8 n.first) (through_named 9 n.second) in
      all_append test (loaded base 8 n.first) _ (loaded_pass base 8 n.first)
      (all_append test (loaded base 9 n.second) _ (loaded_pass base 9 n.second)
      (both_hold (test y) _ (renamed_passes one _ _ _ h) (stored_pass base 8 n.to)))

  instruction_in_frame_passes : (base : ℕ) (one : Instr) → IsTrue (test one) → Pass (instruction_in_frame base one)
  instruction_in_frame_passes base (Move to from) h = moved_pass base to from h
  instruction_in_frame_passes base one h = through_pass base one h

  pub in_frame_passes : (base : ℕ) (list : List Instr) → Pass list → Pass (code_in_frame base list)
  in_frame_passes base [] h = refl
  in_frame_passes base (one ∷ rest) h =
      all_append test (instruction_in_frame base one) _ (instruction_in_frame_passes base one (left_holds _ _ h))
      (in_frame_passes base rest (right_holds (test one) _ h))

  -- After rounds.

  pub rewritten_passes : (slot_of : ℕ → Option ℕ) (list : List Instr) (next : ℕ) → Pass list → Pass (code_rewritten slot_of list next)
  rewritten_passes slot_of [] next h = refl
  rewritten_passes slot_of (one ∷ rest) next h =
      let to = target slot_of one next in
      let first = first_use slot_of one next in
      let second = second_use slot_of one next in
      let y = renamed one to.operand first.operand second.operand in
      all_append test (instruction_rewritten slot_of one next) _
      (all_append test (loads first.operand first.slot) _ (loads_pass first.operand first.slot)
      (all_append test (loads second.operand second.slot) _ (loads_pass second.operand second.slot)
      (both_hold (test y) _ (renamed_passes one _ _ _ (left_holds _ _ h)) (stores_pass to.operand to.slot))))
      (rewritten_passes slot_of rest (next_after slot_of one next) (right_holds (test one) _ h))

  unless_idle : (idle : Bool) (one : Instr) (rest : List Instr) → IsTrue (test one) → Pass rest → Pass (cond (not idle) (one ∷ rest) rest)
  unless_idle true one rest h k = k
  unless_idle false one rest h k = both_hold (test one) _ h k

  pub painted_passes : (colour : ℕ → ℕ) (list : List Instr) → Pass list → Pass (code_painted colour list)
  painted_passes colour [] h = refl
  painted_passes colour (one ∷ rest) h =
      unless_idle (is_idle (instruction_painted colour one)) (instruction_painted colour one) (code_painted colour rest)
      (renamed_passes one _ _ _ (left_holds _ _ h)) (painted_passes colour rest (right_holds (test one) _ h))

  pub rounds_pass : (rule : Rule) (originals : ℕ) {s t : BetweenRounds} {rounds : List Round} → AreRounds rule originals s rounds t →
      Pass s.list → Pass t.list
  rounds_pass rule originals (last s round r e) h = h
  rounds_pass rule originals (more s t round rounds r e rest) h =
      rounds_pass rule originals rest (rewritten_passes (slots_by originals s round) s.list s.temps h)

pub allocations_keep_tests : AllocationsKeepTests
allocations_keep_tests rule code frame a h test ignores p = by a.all_in_frame refl
  where
    by : (all : Bool) → a.all_in_frame ≡ all → IsTrue (list_all test a.done.code.list)
    by false e =
        subst (λ list. IsTrue (list_all test list)) (sym (h.coloured e).list)
        (painted_passes test ignores (colour_of (last_round a.rounds)) h.end.list (rounds_pass test ignores rule code.temps h.rounds p))
    by true e =
        subst (λ list. IsTrue (list_all test list)) (sym (h.in_frame e).list)
        (in_frame_passes test ignores frame.slots code.list p)
