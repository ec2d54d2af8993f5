-- Tiles: which parts of a tree one instruction stands for (Appel, chapter 9; MIPS I manual, the
-- fields of instructions).
use Rattle.std.specs.Prelude.{ℕ, ◌-◌, ◌*◌, ◌/◌, ◌%◌, ◌==◌, ◌&&◌, ◌||◌, nat_lt, nat_le, Bool, true}
use Rattle.std.specs.Prelude.{false, Option, Some, None, refl, if◌then◌else◌}
use Rattle.tg_tree.specs.declared.operators.Bin.{Bin}
use Rattle.tg_tree.specs.declared.operators.Bin.TheVariants as bin
use Rattle.tg_tree.specs.declared.operators.Rel.TheVariants.{Equal, NotEqual}
use Rattle.tg_tree.specs.Tree as tree
use Rattle.tg_tree.specs.Tree.{Tx}
use Rattle.tg_instr.specs.declared.operands.Opnd.{Opnd}
use Rattle.tg_instr.specs.declared.operands.Opnd.TheVariants.{Reg}
use Rattle.tg_instr.specs.declared.instr.Instr.{Instr}
use Rattle.tg_instr.specs.declared.instr.Instr.TheVariants.{Sll, Srl, Sra, Mfhi, Mflo, Mult, Div}
use Rattle.tg_instr.specs.declared.instr.Instr.TheVariants.{Add, Sub, Addu, Subu, And, Or, Xor}
use Rattle.tg_instr.specs.declared.instr.Instr.TheVariants.{Addi, Addiu, Andi, Ori, Xori, Lui, Lbu}
use Rattle.tg_instr.specs.declared.instr.Instr.TheVariants.{Lw, Move, FrameLoad, Mark, Branch}
use Rattle.tg_munch.specs.declared.tiles.Base.{Base}
use Rattle.tg_munch.specs.declared.tiles.Immediate.{Immediate}
use Rattle.tg_munch.specs.declared.tiles.Immediate.TheVariants as in_field
use Rattle.tg_munch.specs.declared.tiles.Tile.{Tile}
use Rattle.tg_munch.specs.declared.tiles.Tile.TheVariants.{Right, Left, ByWord, Operands}
use Rattle.tg_munch.specs.mirror.Choosing.{Choice, ◌>>=◌, ◌>>◌, give, put, fresh, fresh_mark}
use Rattle.tg_munch.specs.mirror.Choosing.{choose, defining}

abbrev pub nothing : Opnd
nothing = Reg 0

-- a word that a field of 16 bits with a sign holds, the field, and the word of the other sign
abbrev pub is_small : ℕ → Bool
is_small n = nat_lt n 32768 || (nat_le 4294934528 n && nat_lt n 4294967296)

abbrev pub field : ℕ → ℕ
field n = n % 65536

abbrev pub negated : ℕ → ℕ
negated n = (4294967296 - n) % 4294967296

-- an operand gets a constant: one half of it, or both
abbrev pub halves : Opnd → ℕ → Choice Opnd
halves to n = put (Lui to (field (n / 65536))) >> defining (Ori to to (field n)) to

abbrev pub constant : Opnd → ℕ → Choice Opnd
constant to n =
    if is_small n then defining (Addiu to nothing (field n)) to else
    if nat_lt n 65536 then defining (Ori to nothing (field n)) to else
    if n % 65536 == 0 then defining (Lui to (field (n / 65536))) to else
    halves to n

-- Where a load or a store goes.

-- slot k is the word 4·(k + 1) bytes below the frame address
abbrev pub is_slot : (slots bytes : ℕ) → Bool
is_slot slots n = n % 4 == 0 && (nat_lt 0 n && nat_le n (4 * slots))

abbrev pub slot_below : (slots bytes : ℕ) → Option ℕ
slot_below slots n = if is_slot slots n then Some (n / 4 - 1) else None

-- the slot of a frame with so many, where an address is the place of one
abbrev pub slot_of : (slots : ℕ) → (left right : Tx) → Option ℕ
slot_of slots tree.FrameAddress (tree.Const n) = slot_below slots n
slot_of slots _ _ = None

abbrev pub slot : (slots : ℕ) → Tx → Option ℕ
slot slots (tree.Binary bin.Sub left right) = slot_of slots left right
slot slots _ = None

-- the field of an address that is a left side and a small constant
abbrev pub field_of : ℕ → Option ℕ
field_of n = if is_small n then Some (field n) else None

abbrev pub offset_by : Bin → (right : Tx) → Option ℕ
offset_by bin.Add (tree.Const n) = field_of n
offset_by bin.Sub (tree.Const n) = field_of (negated n)
offset_by _ _ = None

abbrev pub offset : Tx → Option ℕ
offset (tree.Binary op left right) = offset_by op right
offset _ = None

abbrev pub behind : (bytes : ℕ) → Opnd → Base
behind n b = record { bytes = n; operand = b }

-- so many bytes after the left side of an address, or the whole address
abbrev pub based : Option ℕ → (left whole : Choice Opnd) → Choice Base
based (Some n) left whole = left >>= (λ b. give (behind n b))
based None left whole = whole >>= (λ b. give (behind 0 b))

abbrev pub loaded : (slot : Option ℕ) → Choice Base → Opnd → Choice Opnd
loaded (Some k) place to = defining (FrameLoad to k) to
loaded None place to = place >>= (λ b. defining (Lw to b.bytes b.operand) to)

abbrev pub loaded_byte : Choice Base → Opnd → Choice Opnd
loaded_byte place to = place >>= (λ b. defining (Lbu to b.bytes b.operand) to)

-- an operator whose one side is a constant: what an instruction with that in its field does
abbrev pub if_small : (ℕ → Immediate) → ℕ → Option Immediate
if_small make n = if is_small n then Some (make (field n)) else None

abbrev pub if_half : (ℕ → Immediate) → ℕ → Option Immediate
if_half make n = if nat_lt n 65536 then Some (make (field n)) else None

abbrev pub immediate : Bin → ℕ → Option Immediate
immediate bin.Add n = if_small in_field.Add n
immediate bin.Sub n = if_small in_field.Add (negated n)
immediate bin.AddTrap n = if_small in_field.AddTrap n
immediate bin.SubTrap n = if_small in_field.AddTrap (negated n)
immediate bin.And n = if_half in_field.And n
immediate bin.Or n = if_half in_field.Or n
immediate bin.Xor n = if_half in_field.Xor n
immediate bin.ShiftLeft n = Some (in_field.ShiftLeft (n % 32))
immediate bin.ShiftRight n = Some (in_field.ShiftRight (n % 32))
immediate bin.ShiftSigned n = Some (in_field.ShiftSigned (n % 32))
immediate _ n = None

abbrev pub instruction : Immediate → (to from : Opnd) → Instr
instruction (in_field.Add n) to x = Addiu to x n
instruction (in_field.AddTrap n) to x = Addi to x n
instruction (in_field.And n) to x = Andi to x n
instruction (in_field.Or n) to x = Ori to x n
instruction (in_field.Xor n) to x = Xori to x n
instruction (in_field.ShiftLeft n) to x = Sll to x n
instruction (in_field.ShiftRight n) to x = Srl to x n
instruction (in_field.ShiftSigned n) to x = Sra to x n

abbrev pub constant_side : Bin → Tx → Option Immediate
constant_side op (tree.Const n) = immediate op n
constant_side op _ = None

-- sides that may change places: a constant on the left goes to the right
abbrev pub commutes : Bin → Bool
commutes bin.Add = true
commutes bin.AddTrap = true
commutes bin.And = true
commutes bin.Or = true
commutes bin.Xor = true
commutes _ = false

abbrev pub exchanged_side : Bin → Tx → Option Immediate
exchanged_side op left = if commutes op then constant_side op left else None

abbrev pub is_shift : Bin → Bool
is_shift bin.ShiftLeft = true
is_shift bin.ShiftRight = true
is_shift bin.ShiftSigned = true
is_shift _ = false

-- the tile of an operator: with its right side, or else its left one, in a field; a shift by a
-- word; or two operands
abbrev pub first_tile : Bin → (right left : Option Immediate) → Tile
first_tile op (Some one) _ = Right one
first_tile op None (Some one) = Left one
first_tile op None None = if is_shift op then ByWord else Operands

abbrev pub tile : Bin → (left right : Tx) → Tile
tile op x y = first_tile op (constant_side op y) (exchanged_side op x)

-- a branch where two operands are equal, or aren't
abbrev pub if_equal : (left right : Opnd) → (mark : ℕ) → Instr
if_equal x y m = Branch (record { rel = Equal; left = x; right = y; is_one_row = refl }) m

abbrev pub unless_equal : (left right : Opnd) → (mark : ℕ) → Instr
unless_equal x y m = Branch (record { rel = NotEqual; left = x; right = y; is_one_row = refl }) m

-- a shift by so many bits
abbrev pub shift_by : Bin → (to : Opnd) → (bits : ℕ) → Instr
shift_by bin.ShiftLeft to n = Sll to to n
shift_by bin.ShiftRight to n = Srl to to n
shift_by _ to n = Sra to to n

-- a shift by a word: for each bit of its lower five, a shift after a branch on the bit
abbrev pub shift_bit : Bin → (to amount : Opnd) → (bits : ℕ) → Choice (Unit {0})
shift_bit op to amount n =
    fresh >>= (λ bit. fresh_mark >>= (λ m.
    put (Andi bit amount n) >> (put (if_equal bit nothing m) >>
    (put (shift_by op to n) >> put (Mark m)))))

abbrev pub shift_bits : Bin → (to amount : Opnd) → Choice (Unit {0})
shift_bits op to y =
    shift_bit op to y 1 >> (shift_bit op to y 2 >> (shift_bit op to y 4 >> (shift_bit op to y 8
    >> shift_bit op to y 16)))

abbrev pub shifted : Bin → (left amount : Opnd) → Choice Opnd
shifted op x y = fresh >>= (λ to. put (Move to x) >> (shift_bits op to y >> give to))

-- a value that stands in another operand than the one that is asked for
abbrev pub moved : Option Opnd → Opnd → Choice Opnd
moved (Some to) from = defining (Move to from) to
moved None from = give from

-- an operator on two operands
abbrev pub operated : Bin → (to left right : Opnd) → Choice Opnd
operated bin.Add to x y = defining (Addu to x y) to
operated bin.Sub to x y = defining (Subu to x y) to
operated bin.Mul to x y = put (Mult x y) >> defining (Mflo to) to
operated bin.Div to x y = put (Div x y) >> defining (Mflo to) to
operated bin.And to x y = defining (And to x y) to
operated bin.Or to x y = defining (Or to x y) to
operated bin.Xor to x y = defining (Xor to x y) to
operated bin.AddTrap to x y = defining (Add to x y) to
operated bin.SubTrap to x y = defining (Sub to x y) to
operated bin.MulHigh to x y = put (Mult x y) >> defining (Mfhi to) to
operated _ to x y = give to

abbrev pub shifted_into : Bin → (dest : Option Opnd) → (left amount : Opnd) → Choice Opnd
shifted_into op dest x y = shifted op x y >>= (λ z. moved dest z)

abbrev pub with_field : Immediate → (dest : Option Opnd) → (side : Choice Opnd) → Choice Opnd
with_field one dest side =
    choose dest >>= (λ to. side >>= (λ x. defining (instruction one to x) to))

abbrev pub tiled : Bin → Tile → (dest : Option Opnd) → (left right : Choice Opnd) → Choice Opnd
tiled op (Right one) dest left right = with_field one dest left
tiled op (Left one) dest left right = with_field one dest right
tiled op ByWord dest left right =
    left >>= (λ x. right >>= (λ y. shifted_into op dest x y))
tiled op Operands dest left right =
    choose dest >>= (λ to. left >>= (λ x. right >>= (λ y. operated op to x y)))
