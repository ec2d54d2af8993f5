-- Maximal munch: the instructions of expressions, statements and elements of flat code (Appel,
-- chapter 9).
use Rattle.std.specs.Prelude.{ℕ, ◌+◌, ◌-◌, ◌*◌, ◌==◌, nat_lt, List, [], ◌∷◌, Option, Some, None}
use Rattle.std.specs.Prelude.{Bool, if◌then◌else◌}
use Rattle.tg_tree.specs.declared.operators.Rel.{Rel}
use Rattle.tg_base.specs.declared.ids.Label.{Label}
use Rattle.tg_tree.specs.Tree as tree
use Rattle.tg_tree.specs.Tree.{Tx, Txs, Ts, Linear, no_txs, tx}
use Rattle.tg_instr.specs.declared.operands.Opnd.{Opnd}
use Rattle.tg_instr.specs.declared.operands.Opnd.TheVariants.{Temp, Reg}
use Rattle.tg_instr.specs.declared.instr.Instr.TheVariants.{Addu, Sw, Sb, Move, FrameStore}
use Rattle.tg_instr.specs.declared.instr.Instr.TheVariants.{FrameAddress, Address, Mark, Jump, Call}
use Rattle.tg_instr.specs.declared.instr.Instr.TheVariants.{Service, Fault, Return, Mfhi}
use Rattle.tg_munch.specs.mirror.Choosing.{Choice, ◌>>=◌, ◌>>◌, give, put, fresh, choose, defining}
use Rattle.tg_munch.specs.mirror.Arguments.{one_may_end, ordered}
use Rattle.tg_munch.specs.declared.tiles.Base.{Base}
use Rattle.tg_munch.specs.mirror.Tiles.{nothing, constant, slot, offset, offset_by, based, loaded}
use Rattle.tg_munch.specs.mirror.Tiles.{loaded_byte, tile, tiled, moved}
use Rattle.tg_munch.specs.mirror.Comparing.{short_side, against, is_turned, turned}
use Rattle.tg_munch.specs.mirror.Products.{is_in_hi}

-- what a function gives back: $s0 to $s7 and $ra
abbrev pub kept_registers : List ℕ
kept_registers = 16 ∷ 17 ∷ 18 ∷ 19 ∷ 20 ∷ 21 ∷ 22 ∷ 23 ∷ 31 ∷ []

abbrev pub temp : ℕ → Opnd
temp i = Temp (record { 0 = i })

-- argument i of a call: the first four in $a0 to $a3, further ones in the low words of the frame
abbrev pub argument : (i : ℕ) → Opnd
argument i = Reg (4 + i)

abbrev pub fresh_constant : ℕ → Choice Opnd
fresh_constant n = fresh >>= (λ to. constant to n)

abbrev pub constant_in : ℕ → Option Opnd → Choice Opnd
constant_in n (Some to) = constant to n
constant_in n None = if n == 0 then give nothing else fresh_constant n

abbrev pub address_in : Label → Option Opnd → Choice Opnd
address_in label dest = choose dest >>= (λ to. defining (Address to label) to)

abbrev pub frame_address_in : Option Opnd → Choice Opnd
frame_address_in dest = choose dest >>= (λ to. defining (FrameAddress to) to)

-- what a call or a service answers, in $v0, goes into the operand that is asked for
abbrev pub answer_in : Option Opnd → Choice Opnd
answer_in dest = choose dest >>= (λ to. defining (Move to (Reg 2)) to)

-- a word of the frame's low end gets an operand
abbrev pub store_far : (bytes : ℕ) → Opnd → Choice (Unit {0})
store_far n x =
    fresh >>= (λ t. constant t n >> (put (Addu t t (Reg 29)) >> put (Sw x 0 t)))

abbrev pub store_low : (bytes : ℕ) → Opnd → Choice (Unit {0})
store_low n x = if nat_lt n 32768 then put (Sw x n (Reg 29)) else store_far n x

abbrev pub passed : (i : ℕ) → (value : Option Opnd → Choice Opnd) → Choice (Unit {0})
passed i value =
    if nat_lt i 4 then (value (Some (argument i)) >> give tt) else
    (value None >>= (λ v. store_low (4 * (i - 4)) v))

-- a service, whose argument stands in $a0
abbrev pub asked : (service : ℕ) → (argument : Choice Opnd) → Choice (Unit {0})
asked n argument = argument >> (constant (Reg 2) n >> put Service)

-- $s0 to $s7 and $ra, which a function gives back, from the temporaries that keep them
abbrev pub given_back : (temps : ℕ) → List ℕ → Choice (Unit {0})
given_back t [] = give tt
given_back t (r ∷ rs) = put (Move (Reg r) (temp t)) >> given_back (t + 1) rs

module _ (slots : ℕ) where
  abbrev mutual
    -- an expression in the operand that is asked for, or in one of its own
    pub expression : Tx → Option Opnd → Choice Opnd
    expression (tree.Const n) dest = constant_in n dest
    expression (tree.Address label) dest = address_in (record { 0 = label }) dest
    expression (tree.Temp i) dest = moved dest (temp i)
    expression tree.FrameAddress dest = frame_address_in dest
    expression (tree.Binary op x y) dest =
        tiled op (tile op x y) dest (expression x None) (expression y None)
    expression (tree.Load (tree.Binary op x y)) dest =
        choose dest >>= (λ to. loaded (slot slots (tree.Binary op x y))
        (based (offset_by op y) (expression x None) (expression (tree.Binary op x y) None)) to)
    expression (tree.Load x) dest =
        choose dest >>= (λ to.
        loaded None (based None (expression x None) (expression x None)) to)
    expression (tree.LoadByte (tree.Binary op x y)) dest =
        choose dest >>= (λ to. loaded_byte
        (based (offset_by op y) (expression x None) (expression (tree.Binary op x y) None)) to)
    expression (tree.LoadByte x) dest =
        choose dest >>= (λ to.
        loaded_byte (based None (expression x None) (expression x None)) to)
    expression (tree.Call label xs) dest =
        ordered (one_may_end 0 xs) (λ picks. arguments picks 0 xs)
        >> put (Call (record { 0 = label })) >> answer_in dest
    expression (tree.Service n x) dest = asked n (expression x (Some (Reg 4))) >> answer_in dest
    -- (canonical code has none)
    expression (tree.After s x) dest = expression x dest

    -- the arguments of a call from one on, those that a test of their places picks
    pub arguments : (picks : ℕ → Bool) → (i : ℕ) → Txs → Choice (Unit {0})
    arguments picks i no_txs = give tt
    arguments picks i (tx x xs) =
        (if picks i then passed i (expression x) else give tt) >> arguments picks (i + 1) xs

  -- the left side of an operator, and an address: an operand and a number of bytes after it
  abbrev pub left_side : Tx → Choice Opnd
  left_side (tree.Binary op x y) = expression x None
  left_side x = expression x None

  abbrev pub based_at : Tx → Choice Base
  based_at x = based (offset x) (left_side x) (expression x None)

  abbrev pub loaded_to : Tx → (to : Opnd) → Choice Opnd
  loaded_to x to = loaded (slot slots x) (based_at x) to

  abbrev pub valued : Tx → Choice (Unit {0})
  valued x = expression x None >> give tt

  -- a call or a service, whose answer is let go
  abbrev pub effect : Tx → Choice (Unit {0})
  effect (tree.Call label xs) =
      ordered (one_may_end 0 xs) (λ picks. arguments picks 0 xs)
      >> put (Call (record { 0 = label }))
  effect (tree.Service n x) = asked n (expression x (Some (Reg 4)))
  effect x = valued x

  -- the word, or the byte, at an address
  abbrev pub loaded_at : Tx → Option Opnd → Choice Opnd
  loaded_at x dest = choose dest >>= (λ to. loaded_to x to)

  abbrev pub byte_at : Tx → Option Opnd → Choice Opnd
  byte_at x dest = choose dest >>= (λ to. loaded_byte (based_at x) to)

  -- a word is stored in a slot, or a word or a byte at an address
  abbrev pub stored_slot : (slot : ℕ) → (value : Tx) → Choice (Unit {0})
  stored_slot k y = expression y None >>= (λ v. put (FrameStore v k))

  abbrev pub stored_word : (address value : Tx) → Choice (Unit {0})
  stored_word x y =
      based_at x >>= (λ b. expression y None >>= (λ v. put (Sw v b.bytes b.operand)))

  abbrev pub stored : (slot : Option ℕ) → (address value : Tx) → Choice (Unit {0})
  stored (Some k) x y = stored_slot k y
  stored None x y = stored_word x y

  abbrev pub stored_byte : (address value : Tx) → Choice (Unit {0})
  stored_byte x y =
      based_at x >>= (λ b. expression y None >>= (λ v. put (Sb v b.bytes b.operand)))

  -- a statement of flat code
  abbrev pub statement : Ts → Choice (Unit {0})
  statement (tree.Move i x) = expression x (Some (temp i)) >> give tt
  statement (tree.Store x y) = stored (slot slots x) x y
  statement (tree.StoreByte x y) = stored_byte x y
  statement (tree.Do x) = effect x
  -- (the others are no statements of flat code)
  statement _ = give tt

  -- a comparison: its left side, and what the right one needs
  abbrev pub compared_with : Rel → (left : Opnd) → (right : Tx) → (mark : ℕ) → Choice (Unit {0})
  compared_with rel a y m = against rel (short_side rel y) a (expression y None) m

  abbrev pub compared : Rel → (left right : Tx) → (mark : ℕ) → Choice (Unit {0})
  compared rel x y m = expression x None >>= (λ a. compared_with rel a y m)

  abbrev pub branch : Rel → (left right : Tx) → (mark : ℕ) → Choice (Unit {0})
  branch rel x y m =
      if is_turned rel x y then compared (turned rel) y x m else compared rel x y m

  -- a comparison whose left side is in HI
  abbrev pub compared_in_hi : Rel → (right : Tx) → (mark : ℕ) → Choice (Unit {0})
  compared_in_hi rel y m = fresh >>= (λ a. put (Mfhi a) >> compared_with rel a y m)

  -- a comparison after an element, or at the start of the code
  abbrev pub branch_behind :
      (before : Option Linear) → Rel → (left right : Tx) → (mark : ℕ) → Choice (Unit {0})
  branch_behind before rel x y m =
      if is_in_hi before x then compared_in_hi rel y m else branch rel x y m

  -- a return with a word: the kept registers get back what they held
  abbrev pub returned : (keeps : ℕ) → Tx → Choice (Unit {0})
  returned keeps x =
      expression x (Some (Reg 2)) >> (given_back keeps kept_registers >> put Return)

  -- an element of flat code after another, or at the start, where the kept registers stand in
  -- temporaries from a number on
  abbrev pub element : (keeps : ℕ) → (before : Option Linear) → Linear → Choice (Unit {0})
  element keeps before (tree.Mark m) = put (Mark m)
  element keeps before (tree.Do' s) = statement s
  element keeps before (tree.Jump m) = put (Jump m)
  element keeps before (tree.Branch rel x y m) = branch_behind before rel x y m
  element keeps before (tree.Fault' n) = put (Fault n)
  element keeps before (tree.Return' x) = returned keeps x

  abbrev pub elements : (keeps : ℕ) → (before : Option Linear) → List Linear → Choice (Unit {0})
  elements keeps before [] = give tt
  elements keeps before (e ∷ rest) = element keeps before e >> elements keeps (Some e) rest
