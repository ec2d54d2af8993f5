-- The lines of an instruction: what stands in them, which labels they give, and that what they lead to is reached.
use Rattle.std.proofs.Common.{ℕ, ◌≡◌, ◌<◌, ◌≤◌, ◌+◌, ◌^◌, List, [], ◌∷◌, ◌++◌, map, Bool, true, false, refl, sym, arith, subst, inl}
use Rattle.std.specs.Prelude.{IsTrue, Some, IsSome}
use Rattle.std.specs.List.{list_any}
use Rattle.std.specs.Fmt.{decimal}
use Rattle.tg_isa.specs.declared.mips.Mips.TheVariants as row
use Rattle.tg_isa.specs.Rows.{IsRow}
use Rattle.tg_asm_text.specs.Writing.{coded_row}
use Rattle.tg_asm_text.specs.Items.{Branch as BranchTo}
use Rattle.tg_asm_text.specs.Placement.{Position, AtWord, Positions, position_of, BranchReaches, JumpReaches, WordsReach, WordReaches}
use Rattle.tg_tree.specs.declared.operators.Rel.{Rel}
use Rattle.tg_tree.specs.declared.operators.Rel.TheVariants.{Equal, NotEqual, Less, LessEqual, Greater, GreaterEqual, Below, NotBelow}
use Rattle.tg_tree.specs.Operators.{opposite}
use Rattle.tg_instr.specs.declared.instr.Instr.{Instr}
use Rattle.tg_instr.specs.declared.instr.Test.{Test}
use Rattle.tg_instr.specs.declared.instr.Instr.TheVariants.{Address, Mark, Jump, Branch, Call, Fault, Return}
use Rattle.tg_instr.specs.Codes.{is_mark, leads_to_marks, is_end}
use Rattle.tg_emit.specs.declared.assembly.Line.TheVariants.{Label}
use Rattle.tg_emit.specs.mirror.Names.{function_name, mark_name, behind_name, literal_name}
use Rattle.tg_emit.specs.mirror.Rows.{register_of, branch_on, branch_of, opposite_branch_of}
use Rattle.tg_emit.specs.Ranges.{InstructionFits}
use Rattle.tg_emit.specs.Conditions.{has_code}
use Rattle.tg_emit.specs.mirror.Lines.{alone, above_stack, branch_lines, instruction_lines, words}
use Rattle.tg_emit_laws.specs.Programs.{is_among, names_those}
use Rattle.tg_emit_laws.proofs.NameTexts.{function_label, mark_label, behind_label, literal_label}
use Rattle.tg_emit_laws.proofs.Apart.{Stands}
use Rattle.tg_emit_laws.specs.Images.{AreCode}
use Rattle.tg_emit_laws.proofs.CodeLines.{coded_in, labels_from, given_in, words_append}
use Rattle.tg_emit_laws.proofs.PlainLines.{plain_code, plain_given, plain_reach, plain_instruction}

-- branches
branch_fits : (rel : Rel) (left right : ℕ) → left < 32 → right < 32 → IsRow (branch_on rel left right)
branch_fits Equal left right h k = (h, k, omega arith)
branch_fits NotEqual left right h k = (h, k, omega arith)
branch_fits Less left right h k = (h, omega arith)
branch_fits LessEqual left right h k = (h, omega arith)
branch_fits Greater left right h k = (h, omega arith)
branch_fits GreaterEqual left right h k = (h, omega arith)
branch_fits Below left right h k = (omega arith, omega arith, omega arith)
branch_fits NotBelow left right h k = (omega arith, omega arith, omega arith)

branch_coded : (rel : Rel) (left right : ℕ) (target : List ℕ) → coded_row (branch_on rel left right) target ≡ BranchTo (branch_on rel left right) target
branch_coded Equal left right target = refl
branch_coded NotEqual left right target = refl
branch_coded Less left right target = refl
branch_coded LessEqual left right target = refl
branch_coded Greater left right target = refl
branch_coded GreaterEqual left right target = refl
branch_coded Below left right target = refl
branch_coded NotBelow left right target = refl

branch_code : (turned : Bool) (test : Test) (there around : List ℕ) → register_of test.left < 32 → register_of test.right < 32 →
    AreCode (Label there ∷ []) → AreCode (Label around ∷ []) → AreCode (branch_lines turned (branch_of test) (opposite_branch_of test) there around)
branch_code false test there around h k t a = ((branch_fits test.rel (register_of test.left) (register_of test.right) h k, λ _. t.0), tt)
branch_code true test there around h k t a =
    ((branch_fits (opposite test.rel) (register_of test.left) (register_of test.right) h k, λ _. a.0), ((omega arith, λ _. t.0), (a.0, tt)))

wide : (n : ℕ) → n < 2 ^ 32 → n < 2 ^ 64
wide n h = omega arith

pub code_of_instruction : (turned : Bool) (label size place : ℕ) (one : Instr) → label < 2 ^ 32 → size < 2 ^ 29 → place < 2 ^ 64 → InstructionFits one →
    IsTrue (has_code one) → AreCode (instruction_lines turned label size place one)
code_of_instruction turned label size place (Address to literal) l h p f c = ((f.numbers.0, literal_label literal.0 (wide literal.0 f.numbers.1)), tt)
code_of_instruction turned label size place (Mark m) l h p f c = (mark_label label m (wide label l) (wide m f.numbers), tt)
code_of_instruction turned label size place (Jump m) l h p f c = ((omega arith, λ _. mark_label label m (wide label l) (wide m f.numbers)), tt)
code_of_instruction turned label size place (Branch test m) l h p f c =
    branch_code turned test (mark_name label m) (behind_name label place) f.numbers.0 f.numbers.1
    (mark_label label m (wide label l) (wide m f.numbers.2), tt) (behind_label label place (wide label l) p, tt)
code_of_instruction turned label size place (Call callee) l h p f c = ((omega arith, λ _. function_label callee.0 (wide callee.0 f.numbers)), tt)
code_of_instruction turned label size place one l h p f c = plain_code (instruction_lines turned label size place one)
    (plain_instruction turned label size place one h f c refl)

-- what follows the name of the function in the label that an instruction gives, if any
abbrev pub behind_tail : (turned : Bool) (place : ℕ) → List (List ℕ)
behind_tail true place = (95 ∷ decimal place) ∷ []
behind_tail false place = []

abbrev pub tail_of : (turned : Bool) (place : ℕ) → Instr → List (List ℕ)
tail_of turned place (Mark m) = (46 ∷ decimal m) ∷ []
tail_of turned place (Branch test m) = behind_tail turned place
tail_of turned place one = []

branch_given : (turned : Bool) (label place : ℕ) (test : Test) (m : ℕ) (there : List ℕ) →
    given_in (branch_lines turned (branch_of test) (opposite_branch_of test) there (behind_name label place)) ≡ map (λ t. function_name label ++ t)
    (tail_of turned place (Branch test m))
branch_given false label place test m there = refl
branch_given true label place test m there = refl

pub given_of_instruction : (turned : Bool) (label size place : ℕ) (one : Instr) → size < 2 ^ 29 → InstructionFits one → IsTrue (has_code one) →
    given_in (instruction_lines turned label size place one) ≡ map (λ t. function_name label ++ t) (tail_of turned place one)
given_of_instruction turned label size place (Address to literal) h f c = refl
given_of_instruction turned label size place (Mark m) h f c = refl
given_of_instruction turned label size place (Jump m) h f c = refl
given_of_instruction turned label size place (Branch test m) h f c = branch_given turned label place test m (mark_name label m)
given_of_instruction turned label size place (Call callee) h f c = refl
given_of_instruction turned label size place one h f c = plain_given (instruction_lines turned label size place one)
    (plain_instruction turned label size place one h f c refl)

-- a name that stands at a word of so much code
pub record IsInCode (ps : Positions) (n : ℕ) (name : List ℕ) : Type 0 where
  pub word : ℕ
  pub below : word < n
  pub at : position_of ps name ≡ Some (AtWord word)

pub jump_there : (ps : Positions) (n : ℕ) (name : List ℕ) → IsInCode ps n name → JumpReaches n (position_of ps name)
jump_there ps n name h = subst (JumpReaches n) (sym h.at) h.below

branch_near : (ps : Positions) (n at : ℕ) (name : List ℕ) → n ≤ 32000 → at < n → IsInCode ps n name → BranchReaches at (position_of ps name)
branch_near ps n at name h k c = let b = c.below in subst (BranchReaches at) (sym c.at) (omega arith, omega arith)

-- where the code of a program stands: what its calls and addresses name is there, and near branches are made in short code alone
pub record Surrounds (ps : Positions) (n : ℕ) (turned : Bool) (functions literals : List ℕ) : Type 0 where
  pub near : turned ≡ false → n ≤ 32000
  pub calls : (label : ℕ) → IsTrue (is_among functions label) → IsInCode ps n (function_name label)
  pub addresses : (label : ℕ) → IsTrue (is_among literals label) → IsSome (position_of ps (literal_name label))

-- labels of some lines are found where they stand
abbrev pub Finds : Positions → Positions → Type 0
Finds ps qs = (name : List ℕ) (p : Position) → Stands qs name p → position_of ps name ≡ Some p

branch_reach : (ps : Positions) (n w : ℕ) (turned : Bool) (test : Test) (there around : List ℕ) → (turned ≡ false → n ≤ 32000) → IsInCode ps n there →
    w + words (branch_lines turned (branch_of test) (opposite_branch_of test) there around) ≤ n →
    Finds ps (labels_from w (branch_lines turned (branch_of test) (opposite_branch_of test) there around)) →
    WordsReach ps n w (coded_in (branch_lines turned (branch_of test) (opposite_branch_of test) there around))
branch_reach ps n w false test there around near t fits finds = (
  subst (WordReaches ps n w) (sym (branch_coded test.rel (register_of test.left) (register_of test.right) there))
      (branch_near ps n w there (near refl) (omega arith) t),
  tt,
)
branch_reach ps n w true test there around near t fits finds =
    let at : position_of ps around ≡ Some (AtWord (w + 1 + 1)) = finds around (AtWord (w + 1 + 1)) (inl refl) in
    let r : BranchReaches w (position_of ps around) = subst (BranchReaches w) (sym at) (omega arith, omega arith) in (
      subst (WordReaches ps n w) (sym (branch_coded (opposite test.rel) (register_of test.left) (register_of test.right) around)) r,
      (jump_there ps n there t, tt),
    )

pub reach_of_instruction : (ps : Positions) (n : ℕ) (turned : Bool) (functions literals : List ℕ) (label size place w : ℕ) (all : List Instr) (one : Instr)
    → Surrounds ps n turned functions literals → ((m : ℕ) → IsTrue (list_any (is_mark m) all) → IsInCode ps n (mark_name label m)) → size < 2 ^ 29 →
    InstructionFits one → IsTrue (has_code one) → IsTrue (leads_to_marks all one) → IsTrue (names_those functions literals one) →
    w + words (instruction_lines turned label size place one) ≤ n → Finds ps (labels_from w (instruction_lines turned label size place one)) →
    WordsReach ps n w (coded_in (instruction_lines turned label size place one))
reach_of_instruction ps n turned functions literals label size place w all (Address to literal) s marks h f c m names fits finds =
    (s.addresses literal.0 names, (s.addresses literal.0 names, tt))
reach_of_instruction ps n turned functions literals label size place w all (Mark k) s marks h f c m names fits finds = tt
reach_of_instruction ps n turned functions literals label size place w all (Jump k) s marks h f c m names fits finds =
    (jump_there ps n (mark_name label k) (marks k m), tt)
reach_of_instruction ps n turned functions literals label size place w all (Branch test k) s marks h f c m names fits finds =
    branch_reach ps n w turned test (mark_name label k) (behind_name label place) s.near (marks k m) fits finds
reach_of_instruction ps n turned functions literals label size place w all (Call callee) s marks h f c m names fits finds =
    (jump_there ps n (function_name callee.0) (s.calls callee.0 names), tt)
reach_of_instruction ps n turned functions literals label size place w all one s marks h f c m names fits finds = plain_reach ps n w
    (instruction_lines turned label size place one) (plain_instruction turned label size place one h f c refl)

-- the last instruction of a function is a word at least
pub end_words : (turned : Bool) (label size place : ℕ) (one : Instr) → IsTrue (is_end one) → 1 ≤ words (instruction_lines turned label size place one)
end_words turned label size place (Jump m) h = omega arith
end_words turned label size place (Fault n) h = omega arith
end_words turned label size place Return h = let e = words_append (above_stack 29 size) (alone (row.Jr 31) ∷ []) in omega arith
end_words turned label size place one h = cc
