-- What the constructs of the language become, as small trees (Appel, chapters 6 and 7): static
-- links and slots, checks, arithmetic that ends the program by overflow, records and arrays.
use Rattle.std.specs.Prelude.{ℕ, zero, suc, ◌+◌, ◌*◌, ◌==◌, max}
use Rattle.std.specs.Prelude.{Bool, true, false, ◌||◌, if◌then◌else◌, List, [], ◌∷◌, ◌++◌, length}
use Rattle.tg_base.specs.Words.{sub}
use Rattle.tg_frame.specs.declared.accesses.Access.{Access}
use Rattle.tg_frame.specs.declared.accesses.Access.TheVariants.{InTemp, InFrame}
use Rattle.tg_runtime.specs.declared.routines.Routine.{Routine}
use Rattle.tg_runtime.specs.declared.routines.Routine.TheVariants as routine
use Rattle.tg_runtime.specs.mirror.Labels.{label_of}
use Rattle.tg_syntax.specs.declared.trees.Op.{Op}
use Rattle.tg_syntax.specs.declared.trees.Op.TheVariants as op
use Rattle.tg_tree.specs.declared.operators.Bin.{Bin}
use Rattle.tg_tree.specs.declared.operators.Bin.TheVariants.{Add, Sub, Mul, Div, ShiftLeft}
use Rattle.tg_tree.specs.declared.operators.Bin.TheVariants.{ShiftSigned, AddTrap, SubTrap, MulHigh}
use Rattle.tg_tree.specs.declared.operators.Rel.{Rel}
use Rattle.tg_tree.specs.declared.operators.Rel.TheVariants as rel
use Rattle.tg_tree.specs.Tree.{Tx, Const, Temp, FrameAddress, Binary, Load, Call, Service, After}
use Rattle.tg_tree.specs.Tree.{Txs, no_txs, tx, Cond, Compare, Both}
use Rattle.tg_tree.specs.Tree.{Ts, Move, Store, Do, If, Loop, Break, Fault, Seq, Stms, no_stms, stm}
use Rattle.tg_tree.specs.Forms.{nothing, when}
use Rattle.tg_tree.specs.glue.Plain.{plain_tx}
use Rattle.tg_tree.specs.glue.Lists.{stms_of}
use Rattle.tg_translate.specs.declared.places.Storage.{Storage as CodeStorage}
use Rattle.tg_translate.specs.declared.places.Storage.TheVariants as code
use Rattle.tg_translate.specs.declared.held.HeldAddress.{HeldAddress}
use Rattle.tg_translate.specs.declared.held.HeldAddress.TheVariants.{InOwnFrame, Beside, At}
use Rattle.tg_translate.specs.declared.held.HeldPlace.{HeldPlace as CodeHeldPlace}
use Rattle.tg_translate.specs.declared.held.HeldPlace.TheVariants as held
use Rattle.tg_translate.specs.declared.operands.Operand.{Operand}
use Rattle.tg_translate.specs.declared.operands.Operand.TheVariants.{Number, Kept}
use Rattle.tg_translate.specs.declared.wants.Want.{Want}
use Rattle.tg_translate.specs.declared.wants.Want.TheVariants as want
use Rattle.tg_translate.specs.declared.homes.Within.{Within}
use Rattle.tg_translate.specs.mirror.States.{Translates, ◌>>=◌, give, fresh}
use Rattle.tg_translate.specs.mirror.Wants.{Made, value, test, put_in, value_of, is_none, followed}
use Rattle.tg_translate.specs.mirror.Wants.{value_behind}

abbrev pub minus_one : ℕ
minus_one = 4294967295

abbrev pub least_int : ℕ
least_int = 2147483648

-- so many bytes after an address
abbrev pub plus : Tx → ℕ → Tx
plus x zero = x
plus x (suc n) = Binary Add x (Const (suc n))

-- Operands: a value that is used several times is a number, or stands in a temporary.

abbrev pub operand : Operand → Tx
operand (Number n) = Const n
operand (Kept t) = Temp t.0

pub record Held : Type 0 where
  pub before : Stms
  pub operand : Operand

-- A value is kept for its uses. A variable's temporary may be used itself where nothing assigns it
-- meanwhile.
abbrev pub keep : Stms → Tx → Translates Held
keep before x = do
  t ← fresh
  give (record { before = followed before (Move t x); operand = Kept (record { 0 = t }) })

abbrev pub hold : (direct : Bool) → Stms → Tx → Translates Held
hold direct before (Const n) = give (record { before = before; operand = Number n })
hold true before (Temp t) =
    give (record { before = before; operand = Kept (record { 0 = t }) })
hold direct before x = keep before x

-- values that are kept, one after another
pub record HeldAll : Type 0 where
  pub before : Stms
  pub operands : List Operand

abbrev pub none_held : HeldAll
none_held = record { before = no_stms; operands = [] }

abbrev pub hold_next : (direct : Bool) → HeldAll → Tx → Translates HeldAll
hold_next direct all x = do
  h ← hold direct all.before x
  give (record { before = h.before; operands = all.operands ++ h.operand ∷ [] })

-- Frames and static links (chapter 6). Slot k is the word 4·(k + 1) bytes below the frame address.
-- A link that stands in a slot stands in the first one, since it is the first parameter.

abbrev pub slot_address : (frame : Tx) → (slot : ℕ) → Tx
slot_address frame k = Binary Sub frame (Const (4 * (k + 1)))

abbrev pub link_of : (frame : Tx) → Tx
link_of frame = Load (slot_address frame 0)

abbrev pub own_link : (link_in_slot : Bool) → Tx
own_link true = link_of FrameAddress
own_link false = Temp 0

-- the frame address of the activation so many functions outwards
abbrev pub frame_out : (link_in_slot : Bool) → (hops : ℕ) → Tx
frame_out kept zero = FrameAddress
frame_out kept (suc zero) = own_link kept
frame_out kept (suc (suc n)) = link_of (frame_out kept (suc n))

-- Places: where an l-value's value stands, after the statements that check it.

pub data Storage : Type 0 where
  in_temp : ℕ → Storage
  at_address : Stms → Tx → Storage

abbrev pub plain_storage : CodeStorage → Storage
plain_storage (code.InTemp t) = in_temp t.0
plain_storage (code.AtAddress before a) = at_address (stms_of before.items) (plain_tx a)

abbrev pub place_in : (frame : Tx) → Access → Storage
place_in frame (InTemp t) = in_temp t.0
place_in frame (InFrame k) = at_address no_stms (slot_address frame k)

-- a home in the activation at work
abbrev pub own_place : Access → Storage
own_place home = place_in FrameAddress home

abbrev pub after_all : Stms → Tx → Tx
after_all ss x = if is_none ss then x else After (Seq ss) x

abbrev pub read : Storage → Tx
read (in_temp t) = Temp t
read (at_address before a) = after_all before (Load a)

abbrev pub store_at : Stms → (address value : Tx) → Ts
store_at ss a x = if is_none ss then Store a x else Seq (followed ss (Store a x))

-- what an assignment wants of its right side, and a declaration of its value
abbrev pub want_for : Storage → Want
want_for (in_temp t) = want.Into (record { 0 = t })
want_for (at_address before a) = want.Value

-- what was made is assigned; a statement has put it there already where the place is a temporary
abbrev pub assign : Storage → Made → Translates Ts
assign (in_temp t) m = give (put_in t m)
assign (at_address before a) m = do
  x ← value_of m
  give (store_at before a x)

-- A place that is read first and then assigned. What its address is made of is kept, but for the
-- frame address, and for the bytes that are added to it or taken from it in the end.
abbrev pub held_address : HeldAddress → Tx
held_address (InOwnFrame op n) = Binary op FrameAddress (Const n)
held_address (Beside o op n) = Binary op (operand o) (Const n)
held_address (At o) = operand o

pub record HeldAt : Type 0 where
  pub before : Stms
  pub address : HeldAddress

abbrev pub hold_base : Stms → Tx → (Operand → HeldAddress) → Translates HeldAt
hold_base before x address = do
  h ← hold true before x
  give (record { before = h.before; address = address h.operand })

abbrev pub hold_address : Stms → Tx → Translates HeldAt
hold_address before (Binary op FrameAddress (Const n)) =
    give (record { before = before; address = InOwnFrame op n })
hold_address before (Binary op x (Const n)) = hold_base before x (λ o. Beside o op n)
hold_address before x = hold_base before x (λ o. At o)

pub data HeldPlace : Type 0 where
  held_in_temp : ℕ → HeldPlace
  held_at : Stms → HeldAddress → HeldPlace

abbrev pub plain_held : CodeHeldPlace → HeldPlace
plain_held (held.InTemp t) = held_in_temp t.0
plain_held (held.AtAddress before a) = held_at (stms_of before.items) a

abbrev pub hold_place : Storage → Translates HeldPlace
hold_place (in_temp t) = give (held_in_temp t)
hold_place (at_address before a) = do
  h ← hold_address before a
  give (held_at h.before h.address)

-- its value, after the checks that were made
abbrev pub read_held : HeldPlace → Tx
read_held (held_in_temp t) = Temp t
read_held (held_at before a) = Load (held_address a)

abbrev pub place_held : HeldPlace → Storage
place_held (held_in_temp t) = in_temp t
place_held (held_at before a) = at_address before (held_address a)

-- Checks.

abbrev pub nil_check : Tx → Ts
nil_check record_ = when (Compare rel.Equal record_ (Const 0)) (Fault 2)

abbrev pub index_check : (array index : Tx) → Ts
index_check array index = when (Compare rel.NotBelow index (Load array)) (Fault 3)

abbrev pub zero_check : Tx → Ts
zero_check divisor = when (Compare rel.Equal divisor (Const 0)) (Fault 7)

abbrev pub overflow : Ts
overflow = Do (Binary AddTrap (Const least_int) (Const least_int))

-- the product's upper word is all its lower word's sign
abbrev pub product_check : (left right product : Tx) → Ts
product_check left right product =
    when
    (Compare rel.NotEqual (Binary MulHigh left right) (Binary ShiftSigned product (Const 31)))
    overflow

abbrev pub quotient_check : (left right : Tx) → Ts
quotient_check left right =
    when
    (Both (Compare rel.Equal right (Const minus_one)) (Compare rel.Equal left (Const least_int)))
    overflow

-- Records and arrays: field k is the word 4·k bytes after the record's address, an array's length
-- comes first.

abbrev pub field_of : (field : ℕ) → Stms → (record_ : Tx) → Storage
field_of k before r = at_address (followed before (nil_check r)) (plus r (4 * k))

abbrev pub field_place : (field : ℕ) → (record_ : Tx) → Translates Storage
field_place k x = do
  r ← hold true no_stms x
  give (field_of k r.before (operand r.operand))

abbrev pub element : (array index : Tx) → Tx
element array index =
    Binary Add (Binary Add (Binary ShiftLeft index (Const 2)) array) (Const 4)

abbrev pub element_of : Stms → (array index : Tx) → Storage
element_of before a i = at_address (followed before (index_check a i)) (element a i)

abbrev pub element_place : (direct : Bool) → (array index : Tx) → Translates Storage
element_place direct x y = do
  a ← hold direct no_stms x
  i ← hold true a.before y
  give (element_of i.before (operand a.operand) (operand i.operand))

abbrev pub call_routine : Routine → Txs → Tx
call_routine one xs = Call (label_of one) xs

abbrev pub two_txs : Tx → Tx → Txs
two_txs x y = tx x (tx y no_txs)

-- a record takes 4 bytes at least
abbrev pub record_bytes : (fields : ℕ) → ℕ
record_bytes n = max 4 (4 * n)

abbrev pub store_field : (record_ field : ℕ) → Operand → Ts
store_field r k x = Store (plus (Temp r) (4 * k)) (operand x)

-- the fields from one on are stored
abbrev pub store_fields : Stms → (record_ field : ℕ) → List Operand → Stms
store_fields before r k [] = before
store_fields before r k (x ∷ xs) =
    store_fields (followed before (store_field r k x)) r (suc k) xs

-- the heap's service is asked for them where the record is made
abbrev pub space_for_record : (fields : ℕ) → Tx
space_for_record n = Service 9 (Const (record_bytes n))

-- the values of the fields are kept, the record is made, and then they are stored in it
abbrev pub record_of : (record_ : ℕ) → HeldAll → Made
record_of r all =
    value_behind
    (store_fields (followed all.before (Move r (space_for_record (length all.operands))))
    r 0 all.operands)
    (Temp r)

abbrev pub make_record : HeldAll → Translates Made
make_record all = do
  r ← fresh
  give (record_of r all)

abbrev pub make_array : (size value : Tx) → Tx
make_array size x = call_routine routine.MakeArray (two_txs size x)

-- Operators.

abbrev pub relation : Op → Rel
relation op.Equal = rel.Equal
relation op.NotEqual = rel.NotEqual
relation op.Less = rel.Less
relation op.LessEqual = rel.LessEqual
relation op.Greater = rel.Greater
relation _ = rel.GreaterEqual

-- strings are compared by the runtime, which answers their order as an int
abbrev pub comparison : Op → (of_strings : Bool) → (left right : Tx) → Cond
comparison op true x y = Compare (relation op) (call_routine routine.Compare (two_txs x y))
    (Const 0)
comparison op false x y = Compare (relation op) x y

abbrev pub product_of : (product : ℕ) → Stms → (left right : Tx) → Made
product_of p before l r =
    value_behind
    (followed (followed before (Move p (Binary Mul l r))) (product_check l r (Temp p)))
    (Temp p)

abbrev pub product : (direct : Bool) → (left right : Tx) → Translates Made
product direct x y = do
  l ← hold direct no_stms x
  r ← hold true l.before y
  p ← fresh
  give (product_of p r.before (operand l.operand) (operand r.operand))

abbrev pub quotient_of : Stms → (left right : Tx) → Made
quotient_of before l r =
    value_behind (followed (followed before (zero_check r)) (quotient_check l r)) (Binary Div l r)

abbrev pub checked_quotient : (direct : Bool) → (left right : Tx) → Translates Made
checked_quotient direct x y = do
  l ← hold direct no_stms x
  r ← hold true l.before y
  give (quotient_of r.before (operand l.operand) (operand r.operand))

-- a number other than 0 and -1 divides without a check
abbrev pub quotient : (direct : Bool) → (left right : Tx) → Translates Made
quotient direct x (Const n) =
    if n == 0 || n == minus_one then checked_quotient direct x (Const n)
    else give (value (Binary Div x (Const n)))
quotient direct x y = checked_quotient direct x y

abbrev pub operation : Op → (of_strings direct : Bool) → (left right : Tx) → Translates Made
operation op.Plus of_strings direct x y = give (value (Binary AddTrap x y))
operation op.Minus of_strings direct x y = give (value (Binary SubTrap x y))
operation op.Times of_strings direct x y = product direct x y
operation op.Divide of_strings direct x y = quotient direct x y
operation op of_strings direct x y = give (test (comparison op of_strings x y))

-- a number's negation is a number, unless it overflows
abbrev pub negation : Tx → Tx
negation (Const n) =
    if n == least_int then Binary SubTrap (Const 0) (Const n) else Const (sub 0 n)
negation x = Binary SubTrap (Const 0) x

-- Loops.

-- where a loop's body and its test stand: a `break` in the test ends the loop outside
abbrev pub in_body : Within → Within
in_body within = record within { leave = 0 }

abbrev pub in_test : Within → Within
in_test within = record within { leave = within.leave + 1 }

-- a turn while a condition holds
abbrev pub repeat_while : Cond → Ts → Ts
repeat_while c turn = Loop (If c turn (Break 0))

abbrev pub first_minus_one : Operand → Tx
first_minus_one (Number n) = Const (sub n 1)
first_minus_one (Kept t) = Binary Sub (Temp t.0) (Const 1)

abbrev pub assign_value : Storage → Tx → Ts
assign_value (in_temp t) x = Move t x
assign_value (at_address before a) x = store_at before a x

-- The test for the last turn comes before the addition, so the bound may be the greatest int. The
-- variable starts one below its first value, and each turn begins with the addition: so a turn's
-- end is one branch back, against a bound that is kept over the loop.
abbrev pub turn_of : (variable : Access) → (high : Operand) → Ts → Ts
turn_of i high turn = Seq (
    stm (assign_value (own_place i) (Binary Add (read (own_place i)) (Const 1))) (
    stm turn (
    stm (If (Compare rel.NotEqual (read (own_place i)) (operand high)) nothing (Break 0))
    no_stms)))

abbrev pub turns : (variable : Access) → (low high : Operand) → Ts → Ts
turns i low high turn = Seq (
    stm (assign_value (own_place i) (first_minus_one low)) (
    stm (Loop (turn_of i high turn)) no_stms))

abbrev pub count_of : Stms → (variable : Access) → (low high : Operand) → Ts → Ts
count_of before i low high turn =
    Seq (followed before
    (when (Compare rel.GreaterEqual (operand high) (operand low)) (turns i low high turn)))

abbrev pub count : (variable : Access) → (low high : Tx) → Ts → Translates Ts
count i x y turn = do
  l ← hold false no_stms x
  h ← keep l.before y
  give (count_of h.before i l.operand h.operand turn)
