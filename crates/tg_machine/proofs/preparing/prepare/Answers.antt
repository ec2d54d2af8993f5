use Rattle.std.proofs.Common.{ℕ, ◌*◌, sym, ap, ◌∙◌}
use Rattle.tg_machine.specs.declared.rows.Row.TheVariants as row
use Rattle.tg_machine.specs.mirror.Rows.{prepared}
use Rattle.tg_machine.proofs.preparing.prepare.Goals as goal

pub returns-in-Sll : goal.returns-in-Sll
returns-in-Sll c = sym (ap prepared c.in-Sll.is)

pub returns-in-Srl : goal.returns-in-Srl
returns-in-Srl c = sym (ap prepared c.in-Srl.is)

pub returns-in-Sra : goal.returns-in-Sra
returns-in-Sra c = sym (ap prepared c.in-Sra.is)

pub returns-in-Jr : goal.returns-in-Jr
returns-in-Jr c = sym (ap prepared c.in-Jr.is)

pub returns-in-Jalr : goal.returns-in-Jalr
returns-in-Jalr c = sym (ap prepared c.in-Jalr.is)

pub returns-in-Syscall : goal.returns-in-Syscall
returns-in-Syscall c = sym (ap prepared c.in-Syscall.is)

pub returns-in-Break : goal.returns-in-Break
returns-in-Break c = sym (ap prepared c.in-Break.is)

pub returns-in-Mfhi : goal.returns-in-Mfhi
returns-in-Mfhi c = sym (ap prepared c.in-Mfhi.is)

pub returns-in-Mflo : goal.returns-in-Mflo
returns-in-Mflo c = sym (ap prepared c.in-Mflo.is)

pub returns-in-Mult : goal.returns-in-Mult
returns-in-Mult c = sym (ap prepared c.in-Mult.is)

pub returns-in-Div : goal.returns-in-Div
returns-in-Div c = sym (ap prepared c.in-Div.is)

pub returns-in-Add : goal.returns-in-Add
returns-in-Add c = sym (ap prepared c.in-Add.is)

pub returns-in-Sub : goal.returns-in-Sub
returns-in-Sub c = sym (ap prepared c.in-Sub.is)

pub returns-in-Addu : goal.returns-in-Addu
returns-in-Addu c = sym (ap prepared c.in-Addu.is)

pub returns-in-Subu : goal.returns-in-Subu
returns-in-Subu c = sym (ap prepared c.in-Subu.is)

pub returns-in-And : goal.returns-in-And
returns-in-And c = sym (ap prepared c.in-And.is)

pub returns-in-Or : goal.returns-in-Or
returns-in-Or c = sym (ap prepared c.in-Or.is)

pub returns-in-Xor : goal.returns-in-Xor
returns-in-Xor c = sym (ap prepared c.in-Xor.is)

pub returns-in-Nor : goal.returns-in-Nor
returns-in-Nor c = sym (ap prepared c.in-Nor.is)

pub returns-in-Slt : goal.returns-in-Slt
returns-in-Slt c = sym (ap prepared c.in-Slt.is)

pub returns-in-Sltu : goal.returns-in-Sltu
returns-in-Sltu c = sym (ap prepared c.in-Sltu.is)

pub returns-in-J : goal.returns-in-J
returns-in-J c = ap row.J (c.new.ensures ∙ ap (λ (t : ℕ). 4 * t) c.get.ensures.value) ∙ sym (ap prepared c.in-J.is)

pub returns-in-Jal : goal.returns-in-Jal
returns-in-Jal c = ap row.Jal (c.new-in-Jal.ensures ∙ ap (λ (t : ℕ). 4 * t) c.get-in-Jal.ensures.value) ∙ sym (ap prepared c.in-Jal.is)

pub returns-in-Beq : goal.returns-in-Beq
returns-in-Beq c = ap (row.Beq c.in-Beq.rs c.in-Beq.rt) c.distance.ensures ∙ sym (ap prepared c.in-Beq.is)

pub returns-in-Bne : goal.returns-in-Bne
returns-in-Bne c = ap (row.Bne c.in-Bne.rs c.in-Bne.rt) c.distance-in-Bne.ensures ∙ sym (ap prepared c.in-Bne.is)

pub returns-in-Blez : goal.returns-in-Blez
returns-in-Blez c = ap (row.Blez c.in-Blez.rs) c.distance-in-Blez.ensures ∙ sym (ap prepared c.in-Blez.is)

pub returns-in-Bgtz : goal.returns-in-Bgtz
returns-in-Bgtz c = ap (row.Bgtz c.in-Bgtz.rs) c.distance-in-Bgtz.ensures ∙ sym (ap prepared c.in-Bgtz.is)

pub returns-in-Bltz : goal.returns-in-Bltz
returns-in-Bltz c = ap (row.Bltz c.in-Bltz.rs) c.distance-in-Bltz.ensures ∙ sym (ap prepared c.in-Bltz.is)

pub returns-in-Bgez : goal.returns-in-Bgez
returns-in-Bgez c = ap (row.Bgez c.in-Bgez.rs) c.distance-in-Bgez.ensures ∙ sym (ap prepared c.in-Bgez.is)

pub returns-in-Addi : goal.returns-in-Addi
returns-in-Addi c = ap (row.Addi c.in-Addi.rt c.in-Addi.rs) c.extend.ensures ∙ sym (ap prepared c.in-Addi.is)

pub returns-in-Addiu : goal.returns-in-Addiu
returns-in-Addiu c = ap (row.Addiu c.in-Addiu.rt c.in-Addiu.rs) c.extend-in-Addiu.ensures ∙ sym (ap prepared c.in-Addiu.is)

pub returns-in-Slti : goal.returns-in-Slti
returns-in-Slti c = ap (row.Slti c.in-Slti.rt c.in-Slti.rs) c.extend-in-Slti.ensures ∙ sym (ap prepared c.in-Slti.is)

pub returns-in-Sltiu : goal.returns-in-Sltiu
returns-in-Sltiu c = ap (row.Sltiu c.in-Sltiu.rt c.in-Sltiu.rs) c.extend-in-Sltiu.ensures ∙ sym (ap prepared c.in-Sltiu.is)

pub returns-in-Andi : goal.returns-in-Andi
returns-in-Andi c = sym (ap prepared c.in-Andi.is)

pub returns-in-Ori : goal.returns-in-Ori
returns-in-Ori c = sym (ap prepared c.in-Ori.is)

pub returns-in-Xori : goal.returns-in-Xori
returns-in-Xori c = sym (ap prepared c.in-Xori.is)

pub returns-in-Lui : goal.returns-in-Lui
returns-in-Lui c = ap (λ (w : ℕ). row.Lui c.in-Lui.rt (w * 65536)) c.get-in-Lui.ensures.value ∙ sym (ap prepared c.in-Lui.is)

pub returns-in-Lb : goal.returns-in-Lb
returns-in-Lb c = ap (row.Lb c.in-Lb.rt c.in-Lb.rs) c.extend-in-Lb.ensures ∙ sym (ap prepared c.in-Lb.is)

pub returns-in-Lbu : goal.returns-in-Lbu
returns-in-Lbu c = ap (row.Lbu c.in-Lbu.rt c.in-Lbu.rs) c.extend-in-Lbu.ensures ∙ sym (ap prepared c.in-Lbu.is)

pub returns-in-Lw : goal.returns-in-Lw
returns-in-Lw c = ap (row.Lw c.in-Lw.rt c.in-Lw.rs) c.extend-in-Lw.ensures ∙ sym (ap prepared c.in-Lw.is)

pub returns-in-Sb : goal.returns-in-Sb
returns-in-Sb c = ap (row.Sb c.in-Sb.rt c.in-Sb.rs) c.extend-in-Sb.ensures ∙ sym (ap prepared c.in-Sb.is)

pub returns-in-Sw : goal.returns-in-Sw
returns-in-Sw c = ap (row.Sw c.in-Sw.rt c.in-Sw.rs) c.extend-in-Sw.ensures ∙ sym (ap prepared c.in-Sw.is)
