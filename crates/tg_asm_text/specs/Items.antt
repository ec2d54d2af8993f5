-- Items of assembly text, and what each means for the code or the statics (SPIM manual, assembler
-- syntax).
use Rattle.std.specs.Prelude.{ℕ, ◌+◌, ◌/◌, ◌%◌, ◌^◌, List, [], ◌∷◌, ◌++◌, length, Bool, true, false}
use Rattle.std.specs.Prelude.{◌==◌, ◌&&◌, if◌then◌else◌, codes, Option, Some, None, Result, Ok, Err}
use Rattle.std.specs.Str.{bytes_eq}
use Rattle.tg_machine_state.specs.State.{most_bytes}
use Rattle.tg_isa.specs.declared.mips.Mips.{Mips}
use Rattle.tg_isa.specs.declared.mips.Mips.TheVariants as row
use Rattle.tg_asm_text.specs.declared.keywords.Keyword.{Keyword}
use Rattle.tg_asm_text.specs.declared.keywords.Keyword.TheVariants.{Sll, Srl, Sra, Jr, Jalr}
use Rattle.tg_asm_text.specs.declared.keywords.Keyword.TheVariants.{Syscall, Break, Mfhi, Mflo}
use Rattle.tg_asm_text.specs.declared.keywords.Keyword.TheVariants.{Mult, Div, Add, Sub, Addu, Subu}
use Rattle.tg_asm_text.specs.declared.keywords.Keyword.TheVariants.{And, Or, Xor, Nor, Slt, Sltu, J}
use Rattle.tg_asm_text.specs.declared.keywords.Keyword.TheVariants.{Jal, Beq, Bne, Blez, Bgtz, Bltz}
use Rattle.tg_asm_text.specs.declared.keywords.Keyword.TheVariants.{Bgez, Addi, Addiu, Slti, Sltiu}
use Rattle.tg_asm_text.specs.declared.keywords.Keyword.TheVariants.{Andi, Ori, Xori, Lui, Lb, Lbu}
use Rattle.tg_asm_text.specs.declared.keywords.Keyword.TheVariants.{Lw, Sb, Sw, Nop, Move, Li, La}
use Rattle.tg_asm_text.specs.declared.keywords.Keyword.TheVariants.{Text, Data, Globl, Word, Byte}
use Rattle.tg_asm_text.specs.declared.keywords.Keyword.TheVariants.{Ascii, Asciiz, Space, Align}
use Rattle.tg_asm_text.specs.declared.keywords.Slot.{Slot}
use Rattle.tg_asm_text.specs.declared.keywords.Slot.TheVariants.{Rd, Rs, Rt, Number, Based, Label}
use Rattle.tg_asm_text.specs.declared.keywords.Segment.{Segment}
use Rattle.tg_asm_text.specs.declared.keywords.Segment.TheVariants.{Code, Statics}
use Rattle.tg_asm_text.specs.declared.keywords.AsmRule.{AsmRule}
use Rattle.tg_asm_text.specs.declared.keywords.AsmRule.TheVariants.{A3, A7}
use Rattle.tg_asm_text.specs.Lines.{Operand, Plain, Quoted}
use Rattle.tg_asm_text.specs.Operands.{Signed, number, is_within, field, is_label, string, Fields}
use Rattle.tg_asm_text.specs.Operands.{unfilled, fill_all}

-- the words that name items
abbrev pub keyword_text : Keyword → List ℕ
keyword_text Sll = codes "sll"
keyword_text Srl = codes "srl"
keyword_text Sra = codes "sra"
keyword_text Jr = codes "jr"
keyword_text Jalr = codes "jalr"
keyword_text Syscall = codes "syscall"
keyword_text Break = codes "break"
keyword_text Mfhi = codes "mfhi"
keyword_text Mflo = codes "mflo"
keyword_text Mult = codes "mult"
keyword_text Div = codes "div"
keyword_text Add = codes "add"
keyword_text Sub = codes "sub"
keyword_text Addu = codes "addu"
keyword_text Subu = codes "subu"
keyword_text And = codes "and"
keyword_text Or = codes "or"
keyword_text Xor = codes "xor"
keyword_text Nor = codes "nor"
keyword_text Slt = codes "slt"
keyword_text Sltu = codes "sltu"
keyword_text J = codes "j"
keyword_text Jal = codes "jal"
keyword_text Beq = codes "beq"
keyword_text Bne = codes "bne"
keyword_text Blez = codes "blez"
keyword_text Bgtz = codes "bgtz"
keyword_text Bltz = codes "bltz"
keyword_text Bgez = codes "bgez"
keyword_text Addi = codes "addi"
keyword_text Addiu = codes "addiu"
keyword_text Slti = codes "slti"
keyword_text Sltiu = codes "sltiu"
keyword_text Andi = codes "andi"
keyword_text Ori = codes "ori"
keyword_text Xori = codes "xori"
keyword_text Lui = codes "lui"
keyword_text Lb = codes "lb"
keyword_text Lbu = codes "lbu"
keyword_text Lw = codes "lw"
keyword_text Sb = codes "sb"
keyword_text Sw = codes "sw"
keyword_text Nop = codes "nop"
keyword_text Move = codes "move"
keyword_text Li = codes "li"
keyword_text La = codes "la"
keyword_text Text = codes ".text"
keyword_text Data = codes ".data"
keyword_text Globl = codes ".globl"
keyword_text Word = codes ".word"
keyword_text Byte = codes ".byte"
keyword_text Ascii = codes ".ascii"
keyword_text Asciiz = codes ".asciiz"
keyword_text Space = codes ".space"
keyword_text Align = codes ".align"

abbrev pub keywords : List Keyword
keywords =
    Sll ∷ Srl ∷ Sra ∷ Jr ∷ Jalr ∷ Syscall ∷ Break ∷ Mfhi ∷ Mflo ∷ Mult ∷ Div ∷ Add
    ∷ Sub ∷ Addu ∷ Subu ∷ And ∷ Or ∷ Xor ∷ Nor ∷ Slt ∷ Sltu ∷ J ∷ Jal ∷ Beq
    ∷ Bne ∷ Blez ∷ Bgtz ∷ Bltz ∷ Bgez ∷ Addi ∷ Addiu ∷ Slti ∷ Sltiu ∷ Andi ∷ Ori ∷ Xori
    ∷ Lui ∷ Lb ∷ Lbu ∷ Lw ∷ Sb ∷ Sw ∷ Nop ∷ Move ∷ Li ∷ La ∷ Text ∷ Data
    ∷ Globl ∷ Word ∷ Byte ∷ Ascii ∷ Asciiz ∷ Space ∷ Align ∷ []

abbrev pub among : List Keyword → List ℕ → Option Keyword
among [] text = None
among (k ∷ ks) text = if bytes_eq (keyword_text k) text then Some k else among ks text

abbrev pub keyword : List ℕ → Option Keyword
keyword text = among keywords text

-- the operands of an instruction in the order of the text, where there are so many
abbrev pub slots : Keyword → ℕ → List Slot
slots Sll count = Rd ∷ Rt ∷ Number ∷ []
slots Srl count = Rd ∷ Rt ∷ Number ∷ []
slots Sra count = Rd ∷ Rt ∷ Number ∷ []
slots Jr count = Rs ∷ []
slots Jalr count = if count == 1 then Rs ∷ [] else Rd ∷ Rs ∷ []
slots Break count = if count == 0 then [] else Number ∷ []
slots Mfhi count = Rd ∷ []
slots Mflo count = Rd ∷ []
slots Mult count = Rs ∷ Rt ∷ []
slots Div count = Rs ∷ Rt ∷ []
slots Add count = Rd ∷ Rs ∷ Rt ∷ []
slots Sub count = Rd ∷ Rs ∷ Rt ∷ []
slots Addu count = Rd ∷ Rs ∷ Rt ∷ []
slots Subu count = Rd ∷ Rs ∷ Rt ∷ []
slots And count = Rd ∷ Rs ∷ Rt ∷ []
slots Or count = Rd ∷ Rs ∷ Rt ∷ []
slots Xor count = Rd ∷ Rs ∷ Rt ∷ []
slots Nor count = Rd ∷ Rs ∷ Rt ∷ []
slots Slt count = Rd ∷ Rs ∷ Rt ∷ []
slots Sltu count = Rd ∷ Rs ∷ Rt ∷ []
slots J count = Label ∷ []
slots Jal count = Label ∷ []
slots Beq count = Rs ∷ Rt ∷ Label ∷ []
slots Bne count = Rs ∷ Rt ∷ Label ∷ []
slots Blez count = Rs ∷ Label ∷ []
slots Bgtz count = Rs ∷ Label ∷ []
slots Bltz count = Rs ∷ Label ∷ []
slots Bgez count = Rs ∷ Label ∷ []
slots Addi count = Rt ∷ Rs ∷ Number ∷ []
slots Addiu count = Rt ∷ Rs ∷ Number ∷ []
slots Slti count = Rt ∷ Rs ∷ Number ∷ []
slots Sltiu count = Rt ∷ Rs ∷ Number ∷ []
slots Andi count = Rt ∷ Rs ∷ Number ∷ []
slots Ori count = Rt ∷ Rs ∷ Number ∷ []
slots Xori count = Rt ∷ Rs ∷ Number ∷ []
slots Lui count = Rt ∷ Number ∷ []
slots Lb count = Rt ∷ Based ∷ []
slots Lbu count = Rt ∷ Based ∷ []
slots Lw count = Rt ∷ Based ∷ []
slots Sb count = Rt ∷ Based ∷ []
slots Sw count = Rt ∷ Based ∷ []
slots Move count = Rd ∷ Rs ∷ []
slots Li count = Rt ∷ Number ∷ []
slots La count = Rt ∷ Label ∷ []
slots _ count = []

-- the numbers that an item takes: minus the least one, and the greatest one
abbrev pub least : Keyword → ℕ
least Addi = 32768
least Addiu = 32768
least Slti = 32768
least Sltiu = 32768
least Lb = 32768
least Lbu = 32768
least Lw = 32768
least Sb = 32768
least Sw = 32768
least Li = 2147483648
least Word = 2147483648
least Byte = 128
least _ = 0

abbrev pub greatest : Keyword → ℕ
greatest Sll = 31
greatest Srl = 31
greatest Sra = 31
greatest Break = 1048575
greatest Addi = 32767
greatest Addiu = 32767
greatest Slti = 32767
greatest Sltiu = 32767
greatest Andi = 65535
greatest Ori = 65535
greatest Xori = 65535
greatest Lui = 65535
greatest Lb = 32767
greatest Lbu = 32767
greatest Lw = 32767
greatest Sb = 32767
greatest Sw = 32767
greatest Li = 4294967295
greatest Word = 4294967295
greatest Byte = 255
greatest Space = most_bytes
greatest Align = 3
greatest _ = 0

-- the row of the table that an instruction is; a label's field is 0 in it
abbrev pub row_of : Keyword → Fields → Mips
row_of Sll f = row.Sll f.rd f.rt (field 5 f.number)
row_of Srl f = row.Srl f.rd f.rt (field 5 f.number)
row_of Sra f = row.Sra f.rd f.rt (field 5 f.number)
row_of Jr f = row.Jr f.rs
row_of Jalr f = row.Jalr f.rd f.rs
row_of Syscall f = row.Syscall
row_of Break f = row.Break (field 20 f.number)
row_of Mfhi f = row.Mfhi f.rd
row_of Mflo f = row.Mflo f.rd
row_of Mult f = row.Mult f.rs f.rt
row_of Div f = row.Div f.rs f.rt
row_of Add f = row.Add f.rd f.rs f.rt
row_of Sub f = row.Sub f.rd f.rs f.rt
row_of Addu f = row.Addu f.rd f.rs f.rt
row_of Subu f = row.Subu f.rd f.rs f.rt
row_of And f = row.And f.rd f.rs f.rt
row_of Or f = row.Or f.rd f.rs f.rt
row_of Xor f = row.Xor f.rd f.rs f.rt
row_of Nor f = row.Nor f.rd f.rs f.rt
row_of Slt f = row.Slt f.rd f.rs f.rt
row_of Sltu f = row.Sltu f.rd f.rs f.rt
row_of J f = row.J 0
row_of Jal f = row.Jal 0
row_of Beq f = row.Beq f.rs f.rt 0
row_of Bne f = row.Bne f.rs f.rt 0
row_of Blez f = row.Blez f.rs 0
row_of Bgtz f = row.Bgtz f.rs 0
row_of Bltz f = row.Bltz f.rs 0
row_of Bgez f = row.Bgez f.rs 0
row_of Addi f = row.Addi f.rt f.rs (field 16 f.number)
row_of Addiu f = row.Addiu f.rt f.rs (field 16 f.number)
row_of Slti f = row.Slti f.rt f.rs (field 16 f.number)
row_of Sltiu f = row.Sltiu f.rt f.rs (field 16 f.number)
row_of Andi f = row.Andi f.rt f.rs (field 16 f.number)
row_of Ori f = row.Ori f.rt f.rs (field 16 f.number)
row_of Xori f = row.Xori f.rt f.rs (field 16 f.number)
row_of Lui f = row.Lui f.rt (field 16 f.number)
row_of Lb f = row.Lb f.rt (field 16 f.number) f.rs
row_of Lbu f = row.Lbu f.rt (field 16 f.number) f.rs
row_of Lw f = row.Lw f.rt (field 16 f.number) f.rs
row_of Sb f = row.Sb f.rt (field 16 f.number) f.rs
row_of Sw f = row.Sw f.rt (field 16 f.number) f.rs
row_of Move f = row.Addu f.rd 0 f.rs
row_of _ f = row.Sll 0 0 0

-- A word of code: a row, a row whose label is a branch's or a jump's, or a half of a label's place
-- for a register.
pub data Coded : Type 0 where
  Fixed : Mips → Coded
  Branch : Mips → List ℕ → Coded
  Jump : Mips → List ℕ → Coded
  Upper : ℕ → List ℕ → Coded
  Lower : ℕ → List ℕ → Coded

-- a number for a register, by the fewest instructions
abbrev pub load_upper : ℕ → ℕ → List Coded
load_upper r v = Fixed (row.Lui r (v / 2 ^ 16)) ∷ Fixed (row.Ori r r (v % 2 ^ 16)) ∷ []

abbrev pub load_number : ℕ → Signed → List Coded
load_number r n =
    if is_within 32768 32767 n then Fixed (row.Addiu r 0 (field 16 n)) ∷ [] else
    if is_within 0 65535 n then Fixed (row.Ori r 0 (field 16 n)) ∷ [] else
    load_upper r (field 32 n)

abbrev pub coded : Keyword → Fields → List Coded
coded Beq f = Branch (row_of Beq f) f.label ∷ []
coded Bne f = Branch (row_of Bne f) f.label ∷ []
coded Blez f = Branch (row_of Blez f) f.label ∷ []
coded Bgtz f = Branch (row_of Bgtz f) f.label ∷ []
coded Bltz f = Branch (row_of Bltz f) f.label ∷ []
coded Bgez f = Branch (row_of Bgez f) f.label ∷ []
coded J f = Jump (row_of J f) f.label ∷ []
coded Jal f = Jump (row_of Jal f) f.label ∷ []
coded Li f = load_number f.rt f.number
coded La f = Upper f.rt f.label ∷ Lower f.rt f.label ∷ []
coded k f = Fixed (row_of k f) ∷ []

-- Data of the statics: a number or a label's place in four bytes, a number in one, bytes, and so
-- many zeros.
pub data Datum : Type 0 where
  Value : Signed → Datum
  AddressOfLabel : List ℕ → Datum
  Single : Signed → Datum
  Bytes : List ℕ → Datum
  Zeros : ℕ → Datum

abbrev pub width : Datum → ℕ
width (Value n) = 4
width (AddressOfLabel label) = 4
width (Single n) = 1
width (Bytes bytes) = length bytes
width (Zeros n) = n

abbrev pub widths : List Datum → ℕ
widths [] = 0
widths (d ∷ ds) = width d + widths ds

-- What an item does: nothing, goes on in a segment, puts words into the code,
-- or pads the statics to a multiple of its first number and then puts data there.
pub data Item : Type 0 where
  Nothing : Item
  Section : Segment → Item
  Words : List Coded → Item
  Data' : ℕ → List Datum → Item

-- an instruction
abbrev pub filled : Keyword → Option Fields → Result Item AsmRule
filled k (Some f) =
    if is_within (least k) (greatest k) f.number then Ok (Words (coded k f)) else Err A7
filled k None = Err A3

abbrev pub instruction : Keyword → List Operand → Result Item AsmRule
instruction k os = filled k (fill_all (slots k (length os)) os unfilled)

-- an operand of `.word` or `.byte`
abbrev pub or_place : Option Signed → List ℕ → Option Datum
or_place (Some n) text = Some (Value n)
or_place None text = if is_label text then Some (AddressOfLabel text) else None

abbrev pub as_single : Option Signed → Option Datum
as_single (Some n) = Some (Single n)
as_single None = None

abbrev pub datum : Keyword → Operand → Option Datum
datum Byte (Plain text) = as_single (number text)
datum k (Plain text) = or_place (number text) text
datum k (Quoted text) = None

abbrev pub before_data : Option Datum → Option (List Datum) → Option (List Datum)
before_data (Some d) (Some ds) = Some (d ∷ ds)
before_data (Some d) None = None
before_data None ds = None

abbrev pub all_data : Keyword → List Operand → Option (List Datum)
all_data k [] = Some []
all_data k (o ∷ os) = before_data (datum k o) (all_data k os)

abbrev pub datum_fits : Keyword → Datum → Bool
datum_fits k (Value n) = is_within (least k) (greatest k) n
datum_fits k (Single n) = is_within (least k) (greatest k) n
datum_fits k d = true

abbrev pub data_fit : Keyword → List Datum → Bool
data_fit k [] = true
data_fit k (d ∷ ds) = datum_fits k d && data_fit k ds

abbrev pub within_data : Keyword → ℕ → Option (List Datum) → Result Item AsmRule
within_data k align (Some ds) = if data_fit k ds then Ok (Data' align ds) else Err A7
within_data k align None = Err A3

abbrev pub values : Keyword → ℕ → List Operand → Result Item AsmRule
values k align [] = Err A3
values k align (o ∷ os) = within_data k align (all_data k (o ∷ os))

-- the other directives
abbrev pub text_item : (ending : List ℕ) → Option (List ℕ) → Result Item AsmRule
text_item ending (Some bytes) = Ok (Data' 1 (Bytes (bytes ++ ending) ∷ []))
text_item ending None = Err A3

abbrev pub text_of : (ending : List ℕ) → List Operand → Result Item AsmRule
text_of ending (Quoted text ∷ []) = text_item ending (string false text)
text_of ending _ = Err A3

abbrev pub sized : Keyword → Option Signed → Result ℕ AsmRule
sized k (Some n) = if is_within (least k) (greatest k) n then Ok n.size else Err A7
sized k None = Err A3

abbrev pub size_of : Keyword → List Operand → Result ℕ AsmRule
size_of k (Plain text ∷ []) = sized k (number text)
size_of k _ = Err A3

abbrev pub zeros : Result ℕ AsmRule → Result Item AsmRule
zeros (Ok n) = Ok (Data' 1 (Zeros n ∷ []))
zeros (Err e) = Err e

abbrev pub aligned : Result ℕ AsmRule → Result Item AsmRule
aligned (Ok n) = Ok (Data' (2 ^ n) [])
aligned (Err e) = Err e

abbrev pub without_operands : List Operand → Item → Result Item AsmRule
without_operands [] item = Ok item
without_operands (o ∷ os) item = Err A3

abbrev pub globl_item : List Operand → Result Item AsmRule
globl_item (Plain text ∷ []) = if is_label text then Ok Nothing else Err A3
globl_item _ = Err A3

-- what an item is, or its first fault of A3 and A7
abbrev pub item : Keyword → List Operand → Result Item AsmRule
item Text os = without_operands os (Section Code)
item Data os = without_operands os (Section Statics)
item Globl os = globl_item os
item Word os = values Word 4 os
item Byte os = values Byte 1 os
item Ascii os = text_of [] os
item Asciiz os = text_of (0 ∷ []) os
item Space os = zeros (size_of Space os)
item Align os = aligned (size_of Align os)
item k os = instruction k os

-- whether an item may stand in a segment
abbrev pub may_stand_in : Keyword → Segment → Bool
may_stand_in Text segment = true
may_stand_in Data segment = true
may_stand_in Globl segment = true
may_stand_in Word Code = false
may_stand_in Word Statics = true
may_stand_in Byte Code = false
may_stand_in Byte Statics = true
may_stand_in Ascii Code = false
may_stand_in Ascii Statics = true
may_stand_in Asciiz Code = false
may_stand_in Asciiz Statics = true
may_stand_in Space Code = false
may_stand_in Space Statics = true
may_stand_in Align Code = false
may_stand_in Align Statics = true
may_stand_in k Code = true
may_stand_in k Statics = false
