-- Code in which nothing goes to a slot is rewritten to itself.
use Rattle.std.proofs.Common.{ℕ, ◌≡◌, ◌<◌, ◌≤◌, ◌+◌, List, [], ◌∷◌, ◌++◌, Bool, true, false, Option, Some, None, refl, ap, ◌∙◌, arith, ⊎_elim, replicate}
use Rattle.std.specs.Prelude.{IsTrue}
use Rattle.std.proofs.Math.Bool.{Bool-set}
use Rattle.std.proofs.lemmas.Bool.{cases_lt}
use Rattle.std.proofs.lemmas.List.{get_or-replicate, get_or_past, length-replicate}
use Rattle.tg_tree.specs.declared.operators.Rel.{Rel}
use Rattle.tg_instr.specs.declared.operands.Opnd.{Opnd}
use Rattle.tg_instr.specs.declared.operands.Opnd.TheVariants.{Temp, Reg}
use Rattle.tg_instr.specs.declared.instr.Test.{Test}
use Rattle.tg_instr.specs.declared.instr.Instr.{Instr}
use Rattle.tg_instr.specs.declared.instr.Instr.TheVariants.{Branch}
use Rattle.tg_instr.specs.Operands.{is_one_row}
use Rattle.tg_instr.specs.Renaming.{named, renamed, tested}
use Rattle.tg_regalloc.specs.declared.placing.Placed.{Placed}
use Rattle.tg_regalloc.specs.Rewriting.{loads, stores, drawn, staying, placed, target, first_use, second_use, next_after, instruction_rewritten}
use Rattle.tg_regalloc.specs.Rewriting.{code_rewritten, temps_after, slot_in}

abbrev operand : Option Opnd → Opnd
operand (Some x) = x
operand None = Reg 0

abbrev pub nowhere : ℕ → Option ℕ
nowhere t = None

test_itself : (rel : Rel) (left right : Opnd) (is_row : IsTrue (is_one_row rel left right)) (fits : Bool) (e : is_one_row rel left right ≡ fits) →
    tested rel left right fits e
    (record { rel = rel; left = left; right = right; is_one_row = is_row }) ≡ record { rel = rel; left = left; right = right; is_one_row = is_row }
test_itself rel left right is_row true e =
    ap {A = is_one_row rel left right ≡ true} {B = Test} (λ row. record { rel = rel; left = left; right = right; is_one_row = row }) (Bool-set _ _ e is_row)
test_itself rel left right is_row false e = refl

renamed_itself : (x : Instr) → renamed x (operand (named x).to) (operand (named x).first) (operand (named x).second) ≡ x
renamed_itself (Branch test m) =
    ap (λ t. Branch t m) (test_itself test.rel test.left test.right test.is_one_row (is_one_row test.rel test.left test.right) refl)
renamed_itself _ = refl

placed_stays : (o : Option Opnd) (next : ℕ) → placed nowhere o next ≡ staying (operand o)
placed_stays (Some (Temp t)) next = refl
placed_stays (Some (Reg r)) next = refl
placed_stays None next = refl

none_drawn : (o : Option Opnd) (next : ℕ) → drawn (placed nowhere o next) ≡ 0
none_drawn o next = ap drawn (placed_stays o next)

next_stays : (x : Instr) (next : ℕ) → next_after nowhere x next ≡ next
next_stays x next =
    let a = none_drawn (named x).to next in
    let b = none_drawn (named x).first (next + drawn (target nowhere x next)) in
    let c = none_drawn (named x).second (next + drawn (target nowhere x next) + drawn (first_use nowhere x next)) in
    omega arith

abbrev around_placed : Instr → (to first second : Placed) → List Instr
around_placed one to first second =
    loads first.operand first.slot ++ (loads second.operand second.slot ++ (renamed one to.operand first.operand second.operand ∷ stores to.operand to.slot))

instruction_stays : (x : Instr) (next : ℕ) → instruction_rewritten nowhere x next ≡ x ∷ []
instruction_stays x next =
    ap (λ p. around_placed x p (first_use nowhere x next) (second_use nowhere x next)) (placed_stays (named x).to next)
    ∙ (ap (λ p. around_placed x (staying (operand (named x).to)) p (second_use nowhere x next))
    (placed_stays (named x).first (next + drawn (target nowhere x next)))
    ∙ (ap (λ p. around_placed x (staying (operand (named x).to)) (staying (operand (named x).first)) p)
    (placed_stays (named x).second (next + drawn (target nowhere x next) + drawn (first_use nowhere x next)))
    ∙ ap (λ y. y ∷ []) (renamed_itself x)))

pub code_stays : (list : List Instr) (next : ℕ) → code_rewritten nowhere list next ≡ list
code_stays [] next = refl
code_stays (x ∷ rest) next =
    ap (λ l. l ++ code_rewritten nowhere rest (next_after nowhere x next)) (instruction_stays x next)
    ∙ ap (λ l. x ∷ l) (code_stays rest (next_after nowhere x next))

pub temps_stay : (list : List Instr) (next : ℕ) → temps_after nowhere list next ≡ next
temps_stay [] next = refl
temps_stay (x ∷ rest) next = temps_stay rest (next_after nowhere x next) ∙ next_stays x next

-- none of so many temporaries has a slot
none_has : (n t : ℕ) → slot_in (replicate n None) t ≡ None
none_has n t =
    ⊎_elim (λ (l : t < n). get_or-replicate n t None None l)
    (λ (l : n ≤ t). get_or_past (replicate n None) t None (omega (arith, l, length-replicate {A = Option ℕ} n None)))
    (cases_lt t n)

pub has_none : (n : ℕ) → slot_in (replicate n None) ≡ nowhere
has_none n = λ i t. none_has n t i
