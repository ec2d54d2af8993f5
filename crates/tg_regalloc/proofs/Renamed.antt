-- What an instruction names where it has other operands, and what placing makes of its operands.
use Rattle.std.proofs.Common.{ℕ, ◌≡◌, ◌+◌, List, [], ◌∷◌, ◌++◌, Bool, true, false, Option, Some, None, refl, ap, ◌∙◌, sym, append_assoc, ◌≤◌, arith}
use Rattle.std.specs.Prelude.{IsTrue}
use Rattle.tg_tree.specs.declared.operators.Rel.{Rel}
use Rattle.tg_tree.specs.declared.operators.Rel.TheVariants.{Equal, NotEqual, Less, LessEqual, Greater, GreaterEqual, Below, NotBelow}
use Rattle.tg_instr.specs.declared.operands.Opnd.{Opnd}
use Rattle.tg_instr.specs.declared.operands.Opnd.TheVariants.{Temp, Reg}
use Rattle.tg_instr.specs.declared.instr.Test.{Test}
use Rattle.tg_instr.specs.declared.instr.Instr.{Instr}
use Rattle.tg_instr.specs.declared.instr.Instr.TheVariants.{Move, Branch, Mark}
use Rattle.tg_instr.specs.Operands.{is_one_row, is_zero}
use Rattle.tg_instr.specs.Renaming.{names, named, renamed, tested, stays_one_row}
use Rattle.tg_instr.specs.Lengths.{words_of}
use Rattle.tg_instr.specs.Uses.{uses_of, defs_of}
use Rattle.tg_live.specs.Live.{is_among}
use Rattle.tg_regalloc.specs.Rewriting.{drawn, placed, target, first_use, second_use, next_after, instruction_rewritten, code_rewritten, temps_after}
use Rattle.tg_regalloc.specs.laws.Growth.{most_steps}

abbrev pub temp : ℕ → Opnd
temp t = Temp (record { 0 = t })

-- another operand in the place of one that is named
abbrev pub replaced : Opnd → Option Opnd → Option Opnd
replaced x (Some o) = Some x
replaced x None = None

named_tested : (rel : Rel) (y z : Opnd) (fits : Bool) (e : is_one_row rel y z ≡ fits) (test : Test) (m : ℕ) → IsTrue fits →
    named (Branch (tested rel y z fits e test) m) ≡ names None (Some y) (Some z)
named_tested rel y z true e test m h = refl
named_tested rel y z false e test m h = cc

pub named_renamed : (one : Instr) (x y z : Opnd) → IsTrue (stays_one_row one y z) →
    named (renamed one x y z) ≡ names (replaced x (named one).to) (replaced y (named one).first) (replaced z (named one).second)
named_renamed (Branch test m) x y z h = named_tested test.rel y z (is_one_row test.rel y z) refl test m h
named_renamed _ x y z h = refl

pub words_renamed : (one : Instr) (x y z : Opnd) → words_of (renamed one x y z) ≡ words_of one
words_renamed (Mark m) x y z = refl
words_renamed _ x y z = refl

pub steps_renamed : (one : Instr) (x y z : Opnd) → most_steps (renamed one x y z) ≡ most_steps one
steps_renamed (Mark m) x y z = refl
steps_renamed _ x y z = refl

abbrev pub is_move : Instr → Bool
is_move (Move to from) = true
is_move _ = false

pub move_renamed : (one : Instr) (x y z : Opnd) → is_move (renamed one x y z) ≡ is_move one
move_renamed (Mark m) x y z = refl
move_renamed _ x y z = refl

-- Placing keeps what a branch tests a row of the table.

row_kept : (rel : Rel) (left right y z : Opnd) → IsTrue (is_one_row rel left right) → (IsTrue (is_zero right) → IsTrue (is_zero z)) →
    IsTrue (is_one_row rel y z)
row_kept Equal left right y z h f = refl
row_kept NotEqual left right y z h f = refl
row_kept Below left right y z h f = h
row_kept NotBelow left right y z h f = h
row_kept Less left right y z h f = f h
row_kept LessEqual left right y z h f = f h
row_kept Greater left right y z h f = f h
row_kept GreaterEqual left right y z h f = f h

module _ (slot_of : ℕ → Option ℕ) where
  zero_placed : (o : Opnd) (next : ℕ) → IsTrue (is_zero o) → IsTrue (is_zero (placed slot_of (Some o) next).operand)
  zero_placed (Temp t) next h = cc
  zero_placed (Reg r) next h = h

  pub stays_placed : (one : Instr) (next : ℕ) → IsTrue (stays_one_row one (first_use slot_of one next).operand (second_use slot_of one next).operand)
  stays_placed (Branch test m) next =
      row_kept test.rel test.left test.right (first_use slot_of (Branch test m) next).operand
      (second_use slot_of (Branch test m) next).operand test.is_one_row
      (zero_placed test.right (next + drawn (target slot_of (Branch test m) next) + drawn (first_use slot_of (Branch test m) next)))
  stays_placed _ next = refl

  -- what an instruction names after a round
  pub named_placed : (one : Instr) (next : ℕ) →
      named (renamed one (target slot_of one next).operand (first_use slot_of one next).operand (second_use slot_of one next).operand) ≡
      names (replaced (target slot_of one next).operand (named one).to) (replaced (first_use slot_of one next).operand (named one).first)
      (replaced (second_use slot_of one next).operand (named one).second)
  named_placed one next = named_renamed one _ _ _ (stays_placed one next)

  -- one code after another
  pub temps_append : (xs ys : List Instr) (next : ℕ) → temps_after slot_of (xs ++ ys) next ≡ temps_after slot_of ys (temps_after slot_of xs next)
  temps_append [] ys next = refl
  temps_append (x ∷ xs) ys next = temps_append xs ys (next_after slot_of x next)

  pub temps_rise : (list : List Instr) (next : ℕ) → next ≤ temps_after slot_of list next
  temps_rise [] next = omega arith
  temps_rise (x ∷ rest) next = let l = temps_rise rest (next_after slot_of x next) in omega arith

  pub code_append : (xs ys : List Instr) (next : ℕ) →
      code_rewritten slot_of (xs ++ ys) next ≡ code_rewritten slot_of xs next ++ code_rewritten slot_of ys (temps_after slot_of xs next)
  code_append [] ys next = refl
  code_append (x ∷ xs) ys next =
      ap (λ l. instruction_rewritten slot_of x next ++ l) (code_append xs ys (next_after slot_of x next)) ∙
      sym (append_assoc (instruction_rewritten slot_of x next) (code_rewritten slot_of xs (next_after slot_of x next))
      (code_rewritten slot_of ys (temps_after slot_of (x ∷ xs) next)))

-- Temporaries that an instruction uses and defines are those that it names.

abbrev pub here : Option Opnd → List Opnd
here (Some x) = x ∷ []
here None = []

pub uses_named : (t : ℕ) (one : Instr) → is_among (temp t) (uses_of one) ≡ is_among (temp t) (here (named one).first ++ here (named one).second)
uses_named t (Mark m) = refl
uses_named t _ = refl

pub defs_named : (t : ℕ) (one : Instr) → is_among (temp t) (defs_of one) ≡ is_among (temp t) (here (named one).to)
defs_named t (Mark m) = refl
defs_named t _ = refl
