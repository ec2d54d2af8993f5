-- Lines with their slots have labels of the assembler's syntax, where the lines have.
use Rattle.std.proofs.Common.{ℕ, ◌≡◌, ◌<◌, ◌≤◌, ◌+◌, ◌^◌, List, [], ◌∷◌, ◌++◌, Bool, true, false, refl, sym, ap, ◌∙◌, subst, arith}
use Rattle.std.specs.Prelude.{IsTrue, if◌then◌else◌, nat_le, nat_lt, ◌||◌}
use Rattle.std.specs.List.{list_all}
use Rattle.std.proofs.lemmas.Bool.Decides.{nat_tests}
use Rattle.tg_isa.specs.declared.mips.Mips.{Mips}
use Rattle.tg_isa.specs.declared.mips.Mips.TheVariants as row
use Rattle.tg_asm_text.specs.Operands.{is_label}
use Rattle.tg_asm_text.specs.Writing.{takes_label}
use Rattle.tg_instr.proofs.Tests.{left_holds, right_holds, both_hold}
use Rattle.tg_emit.specs.declared.assembly.Line.{Line}
use Rattle.tg_emit.specs.declared.assembly.Line.TheVariants.{Label, One, La, Statics}
use Rattle.tg_emit.specs.Conditions.{has_labels, only_if}
use Rattle.tg_emit.specs.mirror.Lines.{words}
use Rattle.tg_emit_laws.proofs.NameTexts.{literal_label}
use Rattle.tg_delay.specs.Filling.{opposite, branches, branches_in, around_name, controls, movable, nop, slotted, filled, turned_round, near, delayed}

-- Slots.

slotted_labels : (one : Mips) (target : List ℕ) (rest : List Line) → IsTrue (has_labels (One one target)) → IsTrue (list_all has_labels rest) →
    IsTrue (list_all has_labels (slotted one target rest))
slotted_labels one target rest h k = by (controls one)
  where
    by : (b : Bool) → IsTrue (list_all has_labels (if b then One one target ∷ nop ∷ rest else One one target ∷ rest))
    by true = both_hold (has_labels (One one target)) _ h (both_hold (has_labels nop) _ refl k)
    by false = both_hold (has_labels (One one target)) _ h k

filled_labels : (lines : List Line) → IsTrue (list_all has_labels lines) → IsTrue (list_all has_labels (filled lines))
filled_labels [] h = refl
filled_labels (One one target ∷ One other there ∷ rest) h =
    let a = left_holds (has_labels (One one target)) _ h in
    let k = right_holds (has_labels (One one target)) _ h in
    let b = left_holds (has_labels (One other there)) _ k in
    by (movable one other) a b (filled_labels rest (right_holds (has_labels (One other there)) _ k)) (filled_labels (One other there ∷ rest) k)
  where
    by : (q : Bool) → IsTrue (has_labels (One one target)) → IsTrue (has_labels (One other there)) → IsTrue (list_all has_labels (filled rest)) →
        IsTrue (list_all has_labels (filled (One other there ∷ rest))) →
        IsTrue (list_all has_labels (if q then One other there ∷ One one target ∷ filled rest else
        slotted one target (filled (One other there ∷ rest))))
    by true a b c d = both_hold (has_labels (One other there)) _ b (both_hold (has_labels (One one target)) _ a c)
    by false a b c d = slotted_labels one target (filled (One other there ∷ rest)) a d
filled_labels (One one target ∷ rest) h =
    slotted_labels one target (filled rest) (left_holds (has_labels (One one target)) _ h)
    (filled_labels rest (right_holds (has_labels (One one target)) _ h))
filled_labels (Label name ∷ rest) h =
    both_hold (is_label name) _ (left_holds (is_label name) _ h) (filled_labels rest (right_holds (is_label name) _ h))
filled_labels (La r name ∷ rest) h =
    both_hold (is_label name) _ (left_holds (is_label name) _ h) (filled_labels rest (right_holds (is_label name) _ h))
filled_labels (Statics bytes ∷ rest) h = both_hold true _ refl (filled_labels rest (right_holds true _ h))

-- Turned branches, with labels of their own.

around_label : (k : ℕ) → k < 2 ^ 64 → IsTrue (is_label (around_name k))
around_label k h = literal_label k h

if_label : (b : Bool) (name : List ℕ) → IsTrue (is_label name) → IsTrue (only_if b (is_label name))
if_label true name h = h
if_label false name h = refl

takes : (b : Bool) (name : List ℕ) → b ≡ true → IsTrue (only_if b (is_label name)) → IsTrue (is_label name)
takes true name e h = h
takes false name e h = cc

branch_takes : (one : Mips) → branches one ≡ true → takes_label one ≡ true
branch_takes (row.Beq rs rt n) h = refl
branch_takes (row.Bne rs rt n) h = refl
branch_takes (row.Blez rs n) h = refl
branch_takes (row.Bgtz rs n) h = refl
branch_takes (row.Bltz rs n) h = refl
branch_takes (row.Bgez rs n) h = refl
branch_takes one h = cc

branches_below : (lines : List Line) → branches_in lines ≤ words lines
branches_below [] = omega arith
branches_below (Label name ∷ rest) = let h = branches_below rest in omega (arith, h)
branches_below (La r name ∷ rest) = let h = branches_below rest in omega (arith, h)
branches_below (Statics bytes ∷ rest) = let h = branches_below rest in omega (arith, h)
branches_below (One one target ∷ rest) = by (branches one) (branches_below rest)
  where
    by : (b : Bool) → branches_in rest ≤ words rest → (if b then 1 + branches_in rest else branches_in rest) ≤ 1 + words rest
    by true h = omega (arith, h)
    by false h = omega (arith, h)

turned_labels : (lines : List Line) → branches_in lines < 2 ^ 64 → IsTrue (list_all has_labels lines) → IsTrue (list_all has_labels (turned_round lines))
turned_labels [] n h = refl
turned_labels (Label name ∷ rest) n h =
    both_hold (is_label name) _ (left_holds (is_label name) _ h) (turned_labels rest n (right_holds (is_label name) _ h))
turned_labels (La r name ∷ rest) n h =
    both_hold (is_label name) _ (left_holds (is_label name) _ h) (turned_labels rest n (right_holds (is_label name) _ h))
turned_labels (Statics bytes ∷ rest) n h = both_hold true _ refl (turned_labels rest n (right_holds true _ h))
turned_labels (One one target ∷ rest) n h =
    by (branches one) refl n (left_holds (has_labels (One one target)) _ h)
    (λ m. turned_labels rest m (right_holds (has_labels (One one target)) _ h))
  where
    by : (b : Bool) → branches one ≡ b → (if b then 1 + branches_in rest else branches_in rest) < 2 ^ 64 →
        IsTrue (only_if (takes_label one) (is_label target)) →
        (branches_in rest < 2 ^ 64 → IsTrue (list_all has_labels (turned_round rest))) →
        IsTrue (list_all has_labels (if b then One (opposite one) (around_name (branches_in rest)) ∷ One (row.J 0) target
        ∷ Label (around_name (branches_in rest)) ∷ turned_round rest else One one target ∷ turned_round rest))
    by true e m k below =
        let few : branches_in rest < 2 ^ 64 = omega (arith, m) in
        let around = around_name (branches_in rest) in
        let own = around_label (branches_in rest) few in
        both_hold (has_labels (One (opposite one) around)) _ (if_label (takes_label (opposite one)) around own)
        (both_hold (is_label target) _ (takes (takes_label one) target (branch_takes one e) k)
        (both_hold (is_label around) _ own (below few)))
    by false e m k below = both_hold (has_labels (One one target)) _ k (below m)

not_near : (n : ℕ) → (nat_le n 16000 || nat_lt 32000 n) ≡ false → n ≤ 32000
not_near n h = grind (arith, nat_tests)

pub delayed_labels : (lines : List Line) → IsTrue (list_all has_labels lines) → IsTrue (list_all has_labels (delayed lines))
delayed_labels lines h = by (near lines) refl
  where
    by : (b : Bool) → near lines ≡ b → IsTrue (list_all has_labels (filled (if b then lines else turned_round lines)))
    by true e = filled_labels lines h
    by false e =
        let few = not_near (words lines) e in
        let below = branches_below lines in
        filled_labels (turned_round lines) (turned_labels lines (omega (arith, few, below)) h)
