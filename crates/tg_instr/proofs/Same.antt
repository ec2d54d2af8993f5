-- Operands that are the same.
use Rattle.std.proofs.Common.{◌≡◌, true, refl, ap}
use Rattle.std.proofs.lemmas.Bool.{eqb-true, eq-eqb, false≢true}
use Rattle.tg_instr.specs.declared.operands.Opnd.{Opnd}
use Rattle.tg_instr.specs.declared.operands.Opnd.TheVariants.{Temp, Reg}
use Rattle.tg_instr.specs.Operands.{is_same}

pub same_itself : (x : Opnd) → is_same x x ≡ true
same_itself (Temp t) = eq-eqb t.0 t.0 refl
same_itself (Reg r) = eq-eqb r r refl

pub same_is : (x y : Opnd) → is_same x y ≡ true → x ≡ y
same_is (Temp s) (Temp t) e = ap (λ n. Temp (record { 0 = n })) (eqb-true s.0 t.0 e)
same_is (Reg r) (Reg q) e = ap Reg (eqb-true r q e)
same_is (Temp s) (Reg q) e = absurd (false≢true e)
same_is (Reg r) (Temp t) e = absurd (false≢true e)
