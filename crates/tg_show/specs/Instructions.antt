-- The lines of instructions over temporaries and registers (Appel, chapter 9; MIPS I manual): as in
-- assembly text, and then the operands that each defines and uses.
use Rattle.std.specs.Prelude.{ℕ, nat_lt, ◌-◌, List, [], ◌∷◌, ◌++◌, codes, if◌then◌else◌}
use Rattle.std.specs.Fmt.{decimal}
use Rattle.tg_instr.specs.declared.operands.Opnd.{Opnd}
use Rattle.tg_instr.specs.declared.instr.Test.{Test}
use Rattle.tg_instr.specs.declared.instr.Instr.{Instr}
use Rattle.tg_instr.specs.declared.instr.Instr.TheVariants.{Sll, Srl, Sra, Mfhi, Mflo, Mult, Div}
use Rattle.tg_instr.specs.declared.instr.Instr.TheVariants.{Add, Sub, Addu, Subu, And, Or, Xor, Nor}
use Rattle.tg_instr.specs.declared.instr.Instr.TheVariants.{Slt, Sltu, Addi, Addiu, Slti, Sltiu}
use Rattle.tg_instr.specs.declared.instr.Instr.TheVariants.{Andi, Ori, Xori, Lui, Lb, Lbu, Lw, Sb}
use Rattle.tg_instr.specs.declared.instr.Instr.TheVariants.{Sw, Move, FrameLoad, FrameStore}
use Rattle.tg_instr.specs.declared.instr.Instr.TheVariants.{FrameAddress, Address, Mark, Jump}
use Rattle.tg_instr.specs.declared.instr.Instr.TheVariants.{Branch, Call, Service, Fault, Return}
use Rattle.tg_instr.specs.Uses.{uses_of, defs_of}
use Rattle.tg_show.specs.Layout.{blanks}
use Rattle.tg_show.specs.Words.{rel_word}
use Rattle.tg_show.specs.Trees.{two, three}
use Rattle.tg_show.specs.Flat.{mark_text}
use Rattle.tg_show.specs.Runs.{operand_text, operands_text}

-- a field of 16 bits, with its sign
abbrev pub signed_text : (field : ℕ) → List ℕ
signed_text n = if nat_lt n 32768 then decimal n else codes "-" ++ decimal (65536 - n)

-- marks stand a level further to the left
abbrev pub instruction_margin : Instr → ℕ
instruction_margin (Mark m) = 1
instruction_margin _ = 2

module _ (names : List (List ℕ)) where
  abbrev o : Opnd → List ℕ
  o x = operand_text names x

  abbrev pub one_operand : (word : List ℕ) → (only : Opnd) → List ℕ
  one_operand word x = word ++ o x

  abbrev pub two_operands : (word : List ℕ) → (first second : Opnd) → List ℕ
  two_operands word x y = word ++ two (o x) (o y)

  abbrev pub three_operands : (word : List ℕ) → (first second third : Opnd) → List ℕ
  three_operands word x y z = word ++ three (o x) (o y) (o z)

  -- two operands and a number, without or with its sign
  abbrev pub and_number : (word : List ℕ) → (first second : Opnd) → (number : ℕ) → List ℕ
  and_number word x y n = word ++ three (o x) (o y) (decimal n)

  abbrev pub and_signed : (word : List ℕ) → (first second : Opnd) → (field : ℕ) → List ℕ
  and_signed word x y n = word ++ three (o x) (o y) (signed_text n)

  -- memory so many bytes after an operand
  abbrev pub with_memory : (word : List ℕ) → (first : Opnd) → (field : ℕ) → (base : Opnd) → List ℕ
  with_memory word x n y =
      word ++ two (o x) (signed_text n ++ (codes "(" ++ (o y ++ codes ")")))

  abbrev pub with_slot : (word : List ℕ) → (first : Opnd) → (slot : ℕ) → List ℕ
  with_slot word x k = word ++ two (o x) (codes "slot " ++ decimal k)

  abbrev pub upper_text : (to : Opnd) → (number : ℕ) → List ℕ
  upper_text to n = codes "lui " ++ two (o to) (decimal n)

  abbrev pub address_text : (to : Opnd) → (label : ℕ) → List ℕ
  address_text to label = codes "la " ++ two (o to) (codes "s" ++ decimal label)

  abbrev pub test_text : Test → (mark : ℕ) → List ℕ
  test_text test m =
      codes "branch " ++ (rel_word test.rel ++ (codes " " ++
      three (o test.left) (o test.right) (mark_text m)))

  abbrev pub instruction_text : Instr → List ℕ
  instruction_text (Sll rd rt n) = and_number (codes "sll ") rd rt n
  instruction_text (Srl rd rt n) = and_number (codes "srl ") rd rt n
  instruction_text (Sra rd rt n) = and_number (codes "sra ") rd rt n
  instruction_text (Mfhi rd) = one_operand (codes "mfhi ") rd
  instruction_text (Mflo rd) = one_operand (codes "mflo ") rd
  instruction_text (Mult rs rt) = two_operands (codes "mult ") rs rt
  instruction_text (Div rs rt) = two_operands (codes "div ") rs rt
  instruction_text (Add rd rs rt) = three_operands (codes "add ") rd rs rt
  instruction_text (Sub rd rs rt) = three_operands (codes "sub ") rd rs rt
  instruction_text (Addu rd rs rt) = three_operands (codes "addu ") rd rs rt
  instruction_text (Subu rd rs rt) = three_operands (codes "subu ") rd rs rt
  instruction_text (And rd rs rt) = three_operands (codes "and ") rd rs rt
  instruction_text (Or rd rs rt) = three_operands (codes "or ") rd rs rt
  instruction_text (Xor rd rs rt) = three_operands (codes "xor ") rd rs rt
  instruction_text (Nor rd rs rt) = three_operands (codes "nor ") rd rs rt
  instruction_text (Slt rd rs rt) = three_operands (codes "slt ") rd rs rt
  instruction_text (Sltu rd rs rt) = three_operands (codes "sltu ") rd rs rt
  instruction_text (Addi rt rs n) = and_signed (codes "addi ") rt rs n
  instruction_text (Addiu rt rs n) = and_signed (codes "addiu ") rt rs n
  instruction_text (Slti rt rs n) = and_signed (codes "slti ") rt rs n
  instruction_text (Sltiu rt rs n) = and_signed (codes "sltiu ") rt rs n
  instruction_text (Andi rt rs n) = and_number (codes "andi ") rt rs n
  instruction_text (Ori rt rs n) = and_number (codes "ori ") rt rs n
  instruction_text (Xori rt rs n) = and_number (codes "xori ") rt rs n
  instruction_text (Lui rt n) = upper_text rt n
  instruction_text (Lb rt n rs) = with_memory (codes "lb ") rt n rs
  instruction_text (Lbu rt n rs) = with_memory (codes "lbu ") rt n rs
  instruction_text (Lw rt n rs) = with_memory (codes "lw ") rt n rs
  instruction_text (Sb rt n rs) = with_memory (codes "sb ") rt n rs
  instruction_text (Sw rt n rs) = with_memory (codes "sw ") rt n rs
  instruction_text (Move to from) = two_operands (codes "move ") to from
  instruction_text (FrameLoad to k) = with_slot (codes "load ") to k
  instruction_text (FrameStore from k) = with_slot (codes "store ") from k
  instruction_text (FrameAddress to) = one_operand (codes "frame ") to
  instruction_text (Address to label) = address_text to label.0
  instruction_text (Mark m) = mark_text m ++ codes ":"
  instruction_text (Jump m) = codes "j " ++ mark_text m
  instruction_text (Branch test m) = test_text test m
  instruction_text (Call label) = codes "jal f" ++ decimal label.0
  instruction_text Service = codes "syscall"
  instruction_text (Fault n) = codes "break " ++ decimal n
  instruction_text Return = codes "return"

  -- behind a word, where there are any
  abbrev pub told : (word : List ℕ) → List Opnd → List ℕ
  told word [] = []
  told word (x ∷ rest) = word ++ operands_text names (x ∷ rest)

  abbrev pub instruction_line : Instr → List ℕ
  instruction_line one =
      blanks (instruction_margin one) ++ (instruction_text one ++
      (told (codes "  # defines") (defs_of one) ++
      (told (codes "  # uses") (uses_of one) ++ 10 ∷ [])))

  abbrev pub instruction_lines : List Instr → List ℕ
  instruction_lines [] = []
  instruction_lines (one ∷ rest) = instruction_line one ++ instruction_lines rest
