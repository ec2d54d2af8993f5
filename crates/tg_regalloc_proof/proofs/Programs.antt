-- Programs of allocations: each function is covered by the most words of its instructions, so the work is no more than these.
use Rattle.std.proofs.Common.{ℕ, ◌≤◌, List, [], ◌∷◌, map, length, refl, sym, subst, arith}
use Rattle.std.specs.List.{AllZip}
use Rattle.std.proofs.lemmas.List.Sums.{sum_by-cons}
use Rattle.tg_tree.specs.Tree.{Function}
use Rattle.tg_instr.specs.declared.instr.Instr.{Instr}
use Rattle.tg_instr.specs.Lengths.{most_words}
use Rattle.tg_irc_definition.specs.Policies.{Rule}
use Rattle.tg_regalloc_proof.specs.Blocks.{Blocks, code_of, Charge, spent, Covers}
use Rattle.tg_regalloc_proof.specs.Keeping.{charged_by, functions_of, AreHeld, AreKept}
use Rattle.tg_regalloc_proof.specs.Keeping.AreKept.{none as none_kept, also as also_kept}
use Rattle.tg_regalloc_proof.proofs.Composing.{all_held, does_no_more_on, programs_are_kept}
use Rattle.tg_regalloc_proof.proofs.Cheaper.{functions_charged, to_charged, from_charged}
use Rattle.tg_regalloc.specs.declared.allocations.Allocation.{Allocation}
use Rattle.tg_regalloc.specs.laws.Growth.{most_steps, steps, blocks_of, AreSmall, AllocationsGrowLittle}
use Rattle.tg_regalloc.specs.laws.Growth.AreSmall.{none, also}
use Rattle.tg_regalloc_proof.specs.laws.Laws.{AllocationsKeep, RegallocIsCorrect, Allocates, functions_over, function_over}

module _ (units : Instr → ℕ) (few : (one : Instr) → units one ≤ most_steps one) where
  abbrev words : Charge
  words left one = most_words one

  abbrev work : Charge
  work left one = units one

  -- a block is charged at most its steps
  spent_few : (left : ℕ) (block : List Instr) → spent work left block ≤ steps block
  spent_few left [] = omega arith
  spent_few left (one ∷ rest) =
      let a = few one in
      let b = spent_few left rest in
      let e = sum_by-cons most_steps one rest in
      omega (arith, a, b, e)

  small_covered : {list : List Instr} {blocks : Blocks} → AreSmall list blocks → Covers words list work blocks
  small_covered none = tt
  small_covered (also one block rest blocks h hs) =
      let a = h.quick in
      let b = spent_few (length (code_of blocks)) block in
      (omega (arith, a, b), small_covered hs)

  are_kept : AllocationsKeep → AllocationsGrowLittle → (rule : Rule) (fs : List (Function (List Instr))) (allocations : List Allocation) →
      AllZip (Allocates rule) fs allocations →
      AreKept (map (charged_by words) fs) (map (charged_by work) (functions_over allocations))
  are_kept keep grow rule [] [] h = none_kept
  are_kept keep grow rule [] (a ∷ rest) h = absurd h
  are_kept keep grow rule (f ∷ fs) [] h = absurd h
  are_kept keep grow rule (f ∷ fs) (a ∷ rest) h =
      let o = h.0 in
      also_kept (charged_by words f) (charged_by work (function_over a.done)) _ _ (blocks_of o.code o.frame a)
      (keep rule o.code o.frame a f (function_over a.done) o.registers o.allocation o.is_function
      (record { label = refl; slots = refl; out = refl; body = refl }))
      (subst (λ l. Covers words l work (blocks_of o.code o.frame a)) (sym o.is_function.body)
      (small_covered (grow rule o.code o.frame a o.allocation).small))
      (are_kept keep grow rule fs rest h.1)

pub allocation_keeps : AllocationsKeep → AllocationsGrowLittle → RegallocIsCorrect
allocation_keeps keep grow rule fs allocations units e allocated few held =
    record {
      there = λ n right. (
        n,
        omega arith,
        does_no_more_on _ _ _ (to_charged (words units few) fs e first_held)
            (does_no_more_on _ _ _
            (programs_are_kept (map (charged_by (words units few)) fs) (map (charged_by (work units few)) (functions_over allocations)) e kept
            charged_held)
            (from_charged (work units few) (functions_over allocations) e held)) n right,
      );
    }
  where
    kept : AreKept (map (charged_by (words units few)) fs) (map (charged_by (work units few)) (functions_over allocations))
    kept = are_kept units few keep grow rule fs allocations allocated

    charged_held : AreHeld e.size (functions_of (map (charged_by (work units few)) (functions_over allocations)))
    charged_held = subst (AreHeld e.size) (sym (functions_charged (work units few) (functions_over allocations))) held

    first_held : AreHeld e.size fs
    first_held =
        subst (AreHeld e.size) (functions_charged (words units few) fs)
        (λ l. all_held e.size l [] (map (charged_by (words units few)) fs)
        (map (charged_by (work units few)) (functions_over allocations)) kept (charged_held l))
