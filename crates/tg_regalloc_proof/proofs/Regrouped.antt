-- The blocks of a round's instructions, taken together by the blocks of the rounds before.
use Rattle.std.proofs.Common.{ℕ, ◌≡◌, Bool, true, false, not, List, [], ◌∷◌, ◌++◌, Option, map, refl, ap, ◌∙◌}
use Rattle.std.specs.Prelude.{if◌then◌else◌}
use Rattle.tg_instr.specs.declared.instr.Instr.{Instr}
use Rattle.tg_regalloc_proof.specs.Blocks.{Blocks, code_of, drop_as_many, take_as_many, regrouped}
use Rattle.tg_regalloc.specs.Painting.{is_idle, instruction_painted, code_painted}
use Rattle.tg_regalloc.specs.Rewriting.{instruction_rewritten, next_after, code_rewritten, temps_after}
use Rattle.tg_regalloc.specs.laws.Growth.{blocks_rewritten}
use Rattle.tg_regalloc.proofs.Painted.{unless_idle}
use Rattle.tg_regalloc_proof.proofs.Painting.{each_painted}
use Rattle.tg_regalloc_proof.proofs.Rewriting.{each_rewritten}

module _ (slot_of : ℕ → Option ℕ) where
  taken : (block rest : List Instr) (next : ℕ) →
      take_as_many block (each_rewritten slot_of (block ++ rest) next) ≡ code_rewritten slot_of block next
  taken [] rest next = refl
  taken (x ∷ block) rest next = ap (λ l. instruction_rewritten slot_of x next ++ l) (taken block rest (next_after slot_of x next))

  dropped : (block rest : List Instr) (next : ℕ) →
      drop_as_many block (each_rewritten slot_of (block ++ rest) next) ≡ each_rewritten slot_of rest (temps_after slot_of block next)
  dropped [] rest next = refl
  dropped (x ∷ block) rest next = dropped block rest (next_after slot_of x next)

  pub regrouped_rewritten : (blocks : Blocks) (next : ℕ) →
      regrouped blocks (each_rewritten slot_of (code_of blocks) next) ≡ blocks_rewritten slot_of blocks next
  regrouped_rewritten [] next = refl
  regrouped_rewritten (block ∷ blocks) next =
      λ i. taken block (code_of blocks) next i ∷
      (ap (regrouped blocks) (dropped block (code_of blocks) next) ∙ regrouped_rewritten blocks (temps_after slot_of block next)) i

module _ (colour : ℕ → ℕ) where
  joined : (b : Bool) (y : Instr) (ys : List Instr) → (if b then [] else y ∷ []) ++ ys ≡ (if not b then y ∷ ys else ys)
  joined true y ys = refl
  joined false y ys = refl

  taken_painted : (block rest : List Instr) → take_as_many block (each_painted colour (block ++ rest)) ≡ code_painted colour block
  taken_painted [] rest = refl
  taken_painted (x ∷ block) rest =
      ap (λ l. unless_idle colour x ++ l) (taken_painted block rest)
      ∙ joined (is_idle (instruction_painted colour x)) (instruction_painted colour x) (code_painted colour block)

  dropped_painted : (block rest : List Instr) → drop_as_many block (each_painted colour (block ++ rest)) ≡ each_painted colour rest
  dropped_painted [] rest = refl
  dropped_painted (x ∷ block) rest = dropped_painted block rest

  pub regrouped_painted : (blocks : Blocks) → regrouped blocks (each_painted colour (code_of blocks)) ≡ map (code_painted colour) blocks
  regrouped_painted [] = refl
  regrouped_painted (block ∷ blocks) =
      λ i. taken_painted block (code_of blocks) i ∷
      (ap (regrouped blocks) (dropped_painted block (code_of blocks)) ∙ regrouped_painted blocks) i
