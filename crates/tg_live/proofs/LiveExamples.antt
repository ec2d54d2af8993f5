-- The flow of two codes, what is live in them and what interferes, by computing.
use Rattle.std.proofs.Common.{◌≡◌, ℕ, zero, suc, true, false, List, [], ◌∷◌, slice_get, refl, inl, inr, ⊎_elim}
use Rattle.std.proofs.lemmas.Bool.{false≢true, both_ways}
use Rattle.tg_tree.specs.declared.operators.Rel.TheVariants.{Equal}
use Rattle.tg_instr.specs.declared.instr.Instr.{Instr}
use Rattle.tg_instr.specs.declared.instr.Instr.TheVariants.{Move, Addu, Addiu, Mark, Jump, Branch, Call, Fault, Return}
use Rattle.tg_instr.specs.declared.operands.Opnd.{Opnd}
use Rattle.tg_instr.specs.declared.operands.Opnd.TheVariants.{Temp as TempOf, Reg}
use Rattle.tg_live.specs.Flow.{successors, edges_from}
use Rattle.tg_live.specs.Live.{IsLiveOut}
use Rattle.tg_live.specs.Interference.{defines_beside_at, IsDefinedBeside, Interferes}
use Rattle.tg_live.proofs.Closed.{not_live}

abbrev temp : ℕ → Opnd
temp n = TempOf (record { 0 = n })

-- t0 <- $a0; t1 <- t0; t2 <- t0 + t1; $v0 <- t2; return
abbrev pub copies : List Instr
copies =
    Move (temp 0) (Reg 4) ∷ Move (temp 1) (temp 0) ∷ Addu (temp 2) (temp 0) (temp 1) ∷
    Move (Reg 2) (temp 2) ∷ Return ∷ []

copies_go_on : successors copies ≡ (1 ∷ []) ∷ (2 ∷ []) ∷ (3 ∷ []) ∷ (4 ∷ []) ∷ [] ∷ []
copies_go_on = refl

copies_edges : edges_from 0 (successors copies) ≡ (0, 1) ∷ (1, 2) ∷ (2, 3) ∷ (3, 4) ∷ []
copies_edges = refl

-- t0 is used once more after its copy, and $s0 goes through all of the code to its return
t0_behind_the_copy : IsLiveOut copies 1 (temp 0)
t0_behind_the_copy = record { next = 2; path = []; goes = refl; leads = refl }

s0_at_the_start : IsLiveOut copies 0 (Reg 16)
s0_at_the_start = record { next = 1; path = 2 ∷ 3 ∷ 4 ∷ []; goes = refl; leads = refl }

-- t1 is live out of its definition alone, and t0 not after its last use
t1_before_its_definition : IsLiveOut copies 0 (temp 1) → ⊥
t1_before_its_definition = not_live copies (temp 1) (1 ∷ []) refl 0 refl

t0_behind_its_last_use : IsLiveOut copies 2 (temp 0) → ⊥
t0_behind_its_last_use = not_live copies (temp 0) (0 ∷ 1 ∷ []) refl 2 refl

-- a loop: mark 7; branch to mark 8 where t0 = $zero; t0 <- t0 + 1; call; jump to mark 7; mark 8; fault
abbrev loop : List Instr
loop =
    Mark 7 ∷ Branch (record { rel = Equal; left = temp 0; right = Reg 0; is_one_row = refl }) 8
    ∷ Addiu (temp 0) (temp 0) 1 ∷ Call (record { 0 = 3 }) ∷ Jump 7 ∷ Mark 8 ∷ Fault 2 ∷ []

loop_goes_on : successors loop ≡ (1 ∷ []) ∷ (5 ∷ 2 ∷ []) ∷ (3 ∷ []) ∷ (4 ∷ []) ∷ (0 ∷ []) ∷ (6 ∷ []) ∷ [] ∷ []
loop_goes_on = refl

-- t0 is live out of the jump, along the edge back to its use in the branch
t0_out_of_the_jump : IsLiveOut loop 4 (temp 0)
t0_out_of_the_jump = record { next = 0; path = 1 ∷ []; goes = refl; leads = refl }

-- and not out of the mark that ends the loop
t0_behind_the_loop : IsLiveOut loop 5 (temp 0) → ⊥
t0_behind_the_loop = not_live loop (temp 0) (0 ∷ 1 ∷ 2 ∷ 3 ∷ 4 ∷ []) refl 5 refl

-- a call defines $t0, so what it held before is not live
t0_over_the_call : IsLiveOut loop 2 (Reg 8) → ⊥
t0_over_the_call = not_live loop (Reg 8) [] refl 2 refl

-- t1 is a copy of t0 at its definition, and neither is defined again: they don't interfere
not_defined_beside : (at : ℕ) → defines_beside_at (slice_get copies at) (temp 1) (temp 0) ≡ false
not_defined_beside zero = refl
not_defined_beside (suc zero) = refl
not_defined_beside (suc (suc zero)) = refl
not_defined_beside (suc (suc (suc zero))) = refl
not_defined_beside (suc (suc (suc (suc zero)))) = refl
not_defined_beside (suc (suc (suc (suc (suc at))))) = refl

t1_beside_t0 : IsDefinedBeside copies (temp 1) (temp 0) → ⊥
t1_beside_t0 h = both_ways _ (not_defined_beside h.at) h.defines

t0_beside_t1_at : (at : ℕ) → defines_beside_at (slice_get copies at) (temp 0) (temp 1) ≡ true →
    IsLiveOut copies at (temp 1) → ⊥
t0_beside_t1_at zero d live = t1_before_its_definition live
t0_beside_t1_at (suc zero) d live = false≢true d
t0_beside_t1_at (suc (suc zero)) d live = false≢true d
t0_beside_t1_at (suc (suc (suc zero))) d live = false≢true d
t0_beside_t1_at (suc (suc (suc (suc zero)))) d live = false≢true d
t0_beside_t1_at (suc (suc (suc (suc (suc at))))) d live = false≢true d

copy_interferes_not : Interferes copies (temp 0) (temp 1) → ⊥
copy_interferes_not h =
    ⊎_elim (λ colours. false≢true colours)
    (λ beside. ⊎_elim (λ b. t0_beside_t1_at b.at b.defines b.live) (λ b. t1_beside_t0 b) beside) h.cause

-- but $s0, which is live out of every instruction, interferes with t2, and with $v0 as a colour
pub s0_with_t2 : Interferes copies (Reg 16) (temp 2)
s0_with_t2 = record {
  left = refl;
  right = refl;
  cause = inr (inr (record {
    at = 2;
    defines = refl;
    live = record { next = 3; path = 4 ∷ []; goes = refl; leads = refl };
  }));
}

s0_with_v0 : Interferes copies (Reg 16) (Reg 2)
s0_with_v0 = record { left = refl; right = refl; cause = inl refl }
