-- All instructions together.
use Rattle.std.proofs.Common.{ℕ}
use Rattle.tg_instr.specs.declared.instr.Instr.TheVariants as instr
use Rattle.tg_emit_proof.specs.Setting.{Setting, from}
use Rattle.tg_emit_proof.specs.glue.Standing.{CodeGoesOn}
use Rattle.tg_emit_proof.specs.glue.Situation.{IsEmitted, InstructionsGoOn}
use Rattle.tg_emit_proof.proofs.Induction.{code_goes_on}
use Rattle.tg_emit_proof.proofs.Each.{add_goes, sub_goes, addu_goes, subu_goes, and_goes, or_goes, xor_goes}
use Rattle.tg_emit_proof.proofs.Each.{nor_goes, slt_goes, sltu_goes, sll_goes, srl_goes, sra_goes, addi_goes}
use Rattle.tg_emit_proof.proofs.Each.{addiu_goes, slti_goes, sltiu_goes, andi_goes, ori_goes, xori_goes}
use Rattle.tg_emit_proof.proofs.Each.{lui_goes, mfhi_goes, mflo_goes, move_goes, lw_goes, lbu_goes, lb_goes}
use Rattle.tg_emit_proof.proofs.Each.{sw_goes, sb_goes, mult_goes, div_goes, fault_goes}
use Rattle.tg_emit_proof.proofs.Serving.{service_goes}
use Rattle.tg_emit_proof.proofs.Leading.{mark_goes, jump_goes, branch_goes}
use Rattle.tg_emit_proof.proofs.Calling.{call_goes}
use Rattle.tg_emit_proof.proofs.Returning.{return_goes}
use Rattle.tg_emit_proof.proofs.Slotting.{frame_load_goes, frame_store_goes}
use Rattle.tg_emit_proof.proofs.Addressing.{address_goes, frame_address_goes}

module _ (g : Setting) where
  pub instructions_go_on : InstructionsGoOn g
  instructions_go_on (instr.Sll to x n) = sll_goes g to x n
  instructions_go_on (instr.Srl to x n) = srl_goes g to x n
  instructions_go_on (instr.Sra to x n) = sra_goes g to x n
  instructions_go_on (instr.Addi to x n) = addi_goes g to x n
  instructions_go_on (instr.Addiu to x n) = addiu_goes g to x n
  instructions_go_on (instr.Slti to x n) = slti_goes g to x n
  instructions_go_on (instr.Sltiu to x n) = sltiu_goes g to x n
  instructions_go_on (instr.Andi to x n) = andi_goes g to x n
  instructions_go_on (instr.Ori to x n) = ori_goes g to x n
  instructions_go_on (instr.Xori to x n) = xori_goes g to x n
  instructions_go_on (instr.Mfhi to) = mfhi_goes g to
  instructions_go_on (instr.Mflo to) = mflo_goes g to
  instructions_go_on (instr.Mult x y) = mult_goes g x y
  instructions_go_on (instr.Div x y) = div_goes g x y
  instructions_go_on (instr.Add to x y) = add_goes g to x y
  instructions_go_on (instr.Sub to x y) = sub_goes g to x y
  instructions_go_on (instr.Addu to x y) = addu_goes g to x y
  instructions_go_on (instr.Subu to x y) = subu_goes g to x y
  instructions_go_on (instr.And to x y) = and_goes g to x y
  instructions_go_on (instr.Or to x y) = or_goes g to x y
  instructions_go_on (instr.Xor to x y) = xor_goes g to x y
  instructions_go_on (instr.Nor to x y) = nor_goes g to x y
  instructions_go_on (instr.Slt to x y) = slt_goes g to x y
  instructions_go_on (instr.Sltu to x y) = sltu_goes g to x y
  instructions_go_on (instr.Lui to n) = lui_goes g to n
  instructions_go_on (instr.Lb x n base) = lb_goes g x n base
  instructions_go_on (instr.Lbu x n base) = lbu_goes g x n base
  instructions_go_on (instr.Lw x n base) = lw_goes g x n base
  instructions_go_on (instr.Sb x n base) = sb_goes g x n base
  instructions_go_on (instr.Sw x n base) = sw_goes g x n base
  instructions_go_on (instr.Move to x) = move_goes g to x
  instructions_go_on (instr.FrameLoad to j) = frame_load_goes g to j
  instructions_go_on (instr.FrameStore from j) = frame_store_goes g from j
  instructions_go_on (instr.FrameAddress to) = frame_address_goes g to
  instructions_go_on (instr.Address to label) = address_goes g to label
  instructions_go_on (instr.Mark m) = mark_goes g m
  instructions_go_on (instr.Jump m) = jump_goes g m
  instructions_go_on (instr.Branch test m) = λ k. branch_goes g test m k
  instructions_go_on (instr.Call label) = call_goes g label
  instructions_go_on instr.Service = service_goes g
  instructions_go_on (instr.Fault n) = fault_goes g n
  instructions_go_on instr.Return = return_goes g

  -- Code goes on in its lines, from each place at which a run of it stands.
  pub emitted_code_goes_on : IsEmitted g → (credit n : ℕ) → CodeGoesOn g credit n
  emitted_code_goes_on known = code_goes_on g known instructions_go_on
