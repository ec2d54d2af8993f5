-- Where an expression's word comes to stand, and what stays.
use Rattle.tg_munch_proof.specs.laws.Values.{IsOld, IsOther, Stay, IsThereAs, IsAskable, Result}
use Rattle.std.proofs.Common.{◌≡◌, ◌≤◌, ◌<◌, ℕ, ◌+◌, ◌-◌, Bool, refl, ap, ◌∙◌, arith}
use Rattle.std.proofs.lemmas.Bool.Decides.{nat_tests}
use Rattle.std.specs.Prelude.{◌==◌, false, true, Option, Some, None, if◌then◌else◌}
use Rattle.tg_tree.specs.Operators.{Given}
use Rattle.tg_tree.specs.Actions.{World, Activation}
use Rattle.tg_instr.specs.declared.operands.Opnd.{Opnd}
use Rattle.tg_instr.specs.declared.operands.Opnd.TheVariants.{Temp, Reg}
use Rattle.tg_instr.specs.Operands.{is_same}
use Rattle.tg_instr.specs.Shapes.{Operand}
use Rattle.tg_instr.specs.Contents.{Content, Word, Contents, set, held}
use Rattle.tg_munch.specs.mirror.Choosing.{Choice, NumbersDrawn, ◌>>=◌, choose}
use Rattle.tg_munch.specs.mirror.Munching.{temp}
use Rattle.tg_munch_proof.specs.glue.Places.{Place, Behaves}
use Rattle.tg_munch_proof.specs.laws.Values.{IsSettable}

-- the operand that is chosen to be written
pub data Target (d : NumbersDrawn) : Option Opnd → Opnd → NumbersDrawn → Type 0 where
  asked : (to : Opnd) → IsSettable to → Target d (Some to) to d
  own : Target d None (temp d.temp) (record d { temp = d.temp + 1 })

-- an operand alone is written, as far as operands go
abbrev pub SetTo : Opnd → ℕ → Contents → Contents → Type 0
SetTo to v s s1 = (y : Opnd) → s1 (Operand y) ≡ set (Operand to) (Word v) s (Operand y)

pub itself : (i : ℕ) → (i == i) ≡ true
itself i = grind (arith, nat_tests)

pub below_differs : (i j : ℕ) → i < j → (i == j) ≡ false
below_differs i j h = grind (arith, nat_tests)

pub set_holds : (act : Activation) (to : Opnd) (v : ℕ) (s s1 : Contents) → IsSettable to → SetTo to v s s1 → held act
    s1 (Operand to) ≡ Word v
set_holds act (Temp i) v s s1 h e = e (Temp i) ∙ ap (λ (b : Bool). if b then Word v else s (Operand (Temp i)))
    (itself i.0)
set_holds act (Reg r) v s s1 h e =
    ap (λ (b : Bool). if b then Word 0 else if r == 29 then Word (act.base - act.size) else s1 (Operand (Reg r))) h.0 ∙
    (ap (λ (b : Bool). if b then Word (act.base - act.size) else s1 (Operand (Reg r))) h.1 ∙
    (e (Reg r) ∙ ap (λ (b : Bool). if b then Word v else s (Operand (Reg r))) (itself r)))

pub target_settable : (d : NumbersDrawn) (dest : Option Opnd) (to : Opnd) (d1 : NumbersDrawn) → Target d dest to d1 → IsSettable to
target_settable d dest to d1 (asked o h) = h
target_settable d dest to d1 own = tt

pub target_drawn : (d : NumbersDrawn) (dest : Option Opnd) (to : Opnd) (d1 : NumbersDrawn) → Target d dest to d1 → d.temp ≤ d1.temp
target_drawn d dest to d1 (asked o h) = omega arith
target_drawn d dest to d1 own = omega arith

target_other : (d : NumbersDrawn) (dest : Option Opnd) (to : Opnd) (d1 : NumbersDrawn) (y : Opnd) → Target d dest to d1 → IsOld
    d.temp y → IsOther dest y → is_same y to ≡ false
target_other d dest to d1 y (asked o h) old other = other
target_other d dest to d1 (Temp i) own old other = below_differs i.0 d.temp old
target_other d dest to d1 (Reg r) own old other = refl

target_there : (d : NumbersDrawn) (dest : Option Opnd) (to : Opnd) (d1 : NumbersDrawn) (n : ℕ) → Target d dest to d1 → d1.temp ≤ n
    → IsThereAs dest n to
target_there d dest to d1 n (asked o h) le = refl
target_there d dest to d1 n own le = omega arith

pub old_still : (y : Opnd) (m n : ℕ) → m ≤ n → IsOld m y → IsOld n y
old_still (Temp i) m n le h = omega arith
old_still (Reg r) m n le h = tt

pub stay_on : (m n : ℕ) (s s1 s2 : Contents) → m ≤ n → Stay m None s s1 → Stay n None s1 s2 → Stay m None s s2
stay_on m n s s1 s2 le h k y old other = k y (old_still y m n le old) tt ∙ h y old tt

pub stay_less : (m n : ℕ) (s s1 : Contents) → m ≤ n → Stay n None s s1 → Stay m None s s1
stay_less m n s s1 le k y old other = k y (old_still y m n le old) tt

pub survives : (act : Activation) (n : ℕ) (y : Opnd) (c : Content) (s s1 : Contents) → IsOld n y → Stay n None s s1 →
    held act s (Operand y) ≡ c → held act s1 (Operand y) ≡ c
survives act n (Temp i) c s s1 old stay e = stay (Temp i) old tt ∙ e
survives act n (Reg r) c s s1 old stay e =
    ap (λ u. if r == 0 then Word 0 else if r == 29 then Word (act.base - act.size) else u) (stay (Reg r) old tt) ∙ e

pub survives_other : (act : Activation) (n : ℕ) (dest : Option Opnd) (y : Opnd) (c : Content) (s s1 : Contents) →
    IsOld n y → IsOther dest y → Stay n dest s s1 →
    held act s (Operand y) ≡ c → held act s1 (Operand y) ≡ c
survives_other act n dest (Temp i) c s s1 old other stay e = stay (Temp i) old other ∙ e
survives_other act n dest (Reg r) c s s1 old other stay e =
    ap (λ u. if r == 0 then Word 0 else if r == 29 then Word (act.base - act.size) else u) (stay (Reg r) old other) ∙ e

pub finish : (act : Activation) (d : NumbersDrawn) (dest : Option Opnd) (to : Opnd) (d1 d2 : NumbersDrawn) (v : ℕ) (s s1 s2 :
    Contents) →
    Target d dest to d1 → d1.temp ≤ d2.temp → Stay d1.temp None s s1 → SetTo to v s1 s2 → Result act d dest s to d2 v s2
finish act d dest to d1 d2 v s s1 s2 target le stay sets =
    let first = target_drawn d dest to d1 target in
    record {
      holds = set_holds act to v s1 s2 (target_settable d dest to d1 target) sets;
      stay = λ y old other.
          sets y ∙ (ap (λ (b : Bool). if b then Word v else s1 (Operand y)) (target_other d dest to d1 y target old
          other) ∙
          stay y (old_still y d.temp d1.temp first old) tt);
      there = target_there d dest to d1 d2.temp target le;
      drawn = omega (arith, first, le);
    }

-- the operand is chosen first
pub choosing : (p : Place) (x : World) {A : Type 0} (next : Opnd → Choice A) (dest : Option Opnd) (d : NumbersDrawn) (s :
    Contents) (k : ℕ) (g : Given)
    (Q : A → NumbersDrawn → ℕ → Contents → Type 0) → IsAskable dest →
    ((to : Opnd) (d1 : NumbersDrawn) → Target d dest to d1 → Behaves p x (next to) d1 s k g Q) → Behaves p x (choose dest
    >>= next) d s k g Q
unfolding ◌>>=◌
choosing p x next None d s k g Q askable h rest part = h (temp d.temp) (record d { temp = d.temp + 1 }) own rest part
choosing p x next (Some to) d s k g Q askable h rest part = h to d (asked to askable) rest part
