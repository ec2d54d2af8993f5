-- The runtime: what makes records, arrays and strings, the comparison of strings, and the standard
-- functions (Appel, appendix A.4), as trees over services 9, 11, 12 and 17. A string is a word of
-- length and its bytes, an array a word of length and its elements. A function's parameters are its
-- first temporaries; the others that it uses follow them.
use Rattle.std.specs.Prelude.{ℕ, List, [], ◌∷◌, ◌++◌, replicate, Bool, false}
use Rattle.tg_frame.specs.Homes.{homes_of, slots_of}
use Rattle.tg_tree.specs.declared.operators.Bin.TheVariants.{Add, Sub, ShiftLeft, ShiftRight}
use Rattle.tg_tree.specs.declared.operators.Rel.{Rel}
use Rattle.tg_tree.specs.declared.operators.Rel.TheVariants.{Equal, NotEqual, Less, Greater}
use Rattle.tg_tree.specs.declared.operators.Rel.TheVariants.{NotBelow}
use Rattle.tg_tree.specs.Tree.{Tx, Const, Temp, Binary, Load, LoadByte, Service}
use Rattle.tg_tree.specs.Tree.{Cond, Compare, Either}
use Rattle.tg_tree.specs.Tree.{Ts, Move, Store, StoreByte, Do, If, Fault, Return, Function, Code}
use Rattle.tg_tree.specs.Forms.{sequence, when, repeat_until}
use Rattle.tg_runtime.specs.declared.routines.Routine.{Routine}
use Rattle.tg_runtime.specs.declared.routines.Routine.TheVariants as routine
use Rattle.tg_runtime.specs.mirror.Labels.{label_of}

abbrev pub minus_one : ℕ
minus_one = 4294967295

abbrev pub is_negative : Tx → Cond
is_negative x = Compare Less x (Const 0)

-- a number of bytes after an address
abbrev pub plus : Tx → ℕ → Tx
plus x n = Binary Add x (Const n)

abbrev pub advance : (at bytes : ℕ) → Ts
advance at bytes = Move at (plus (Temp at) bytes)

-- a turn for each part from an address up to an end; each turn advances
abbrev pub walk : (at end : ℕ) → List Ts → Ts
walk at end turn =
    when (Compare NotEqual (Temp at) (Temp end))
    (repeat_until (Compare Equal (Temp at) (Temp end)) turn)

-- where a string's bytes begin
abbrev pub bytes_of : (string : ℕ) → Tx
bytes_of string = plus (Temp string) 4

-- a new string of some length, which takes so many bytes with the word of its length; service 9
-- rounds up to words
abbrev pub take_string : (string : ℕ) → (bytes length : Tx) → Ts
take_string string bytes length =
    sequence (Move string (Service 9 bytes) ∷ Store (Temp string) length ∷ [])

-- what lies from one address on, up to an end, is put from another address on, in parts of so many
-- bytes
abbrev pub copy_parts : (part : Ts) → (bytes from end to : ℕ) → Ts
copy_parts part bytes from end to =
    walk from end (part ∷ advance from bytes ∷ advance to bytes ∷ [])

abbrev pub copy_bytes : (from end to : ℕ) → Ts
copy_bytes from end to =
    copy_parts (StoreByte (Temp to) (LoadByte (Temp from))) 1 from end to

abbrev pub copy_words : (from end to : ℕ) → Ts
copy_words from end to = copy_parts (Store (Temp to) (Load (Temp from))) 4 from end to

-- the first multiple of 4 from a number on
abbrev pub whole_words : Tx → Tx
whole_words x = Binary ShiftLeft (Binary ShiftRight (plus x 3) (Const 2)) (Const 2)

-- Creation.

abbrev pub make_record : (bytes : ℕ) → Ts
make_record bytes = Return (Service 9 (Temp bytes))

-- for 2 ^ 26 elements and more, whose bytes a word might not tell, more heap is asked for than
-- there is
abbrev pub refuse_too_many : (size : ℕ) → Ts
refuse_too_many size =
    when (Compare NotBelow (Temp size) (Const 67108864)) (Do (Service 9 (Const minus_one)))

abbrev pub make_array : (size value array at end : ℕ) → Ts
make_array size value array at end = sequence (
    when (is_negative (Temp size)) (Fault 6) ∷
    refuse_too_many size ∷
    Move end (Binary ShiftLeft (Temp size) (Const 2)) ∷
    Move array (Service 9 (plus (Temp end) 4)) ∷
    Store (Temp array) (Temp size) ∷
    Move at (Temp array) ∷
    Move end (Binary Add (Temp end) (Temp array)) ∷
    walk at end (advance at 4 ∷ Store (Temp at) (Temp value) ∷ []) ∷
    Return (Temp array) ∷ [])

-- Comparison of strings: below 0, 0 or above 0, as the first is less than, equal to or greater than
-- the second.

-- the order of two bytes, where they differ
abbrev pub compare_bytes : (one two : ℕ) → Ts
compare_bytes one two =
    when (Compare NotEqual (Temp one) (Temp two))
    (If (Compare Less (Temp one) (Temp two)) (Return (Const minus_one)) (Return (Const 1)))

abbrev pub lengths : Rel → (left right : ℕ) → Cond
lengths rel left right = Compare rel (Load (Temp left)) (Load (Temp right))

-- the end of the bytes of the first string for which the second one has bytes too
abbrev pub common_end : (left right at end : ℕ) → Ts
common_end left right at end =
    If (lengths Less left right)
    (Move end (Binary Add (Temp at) (Load (Temp left))))
    (Move end (Binary Add (Temp at) (Load (Temp right))))

abbrev pub compare : (left right at other end one two : ℕ) → Ts
compare left right at other end one two = sequence (
    Move at (bytes_of left) ∷
    Move other (bytes_of right) ∷
    common_end left right at end ∷
    walk at end (
    Move one (LoadByte (Temp at)) ∷
    Move two (LoadByte (Temp other)) ∷
    compare_bytes one two ∷
    advance at 1 ∷
    advance other 1 ∷ []) ∷
    when (lengths Equal left right) (Return (Const 0)) ∷
    when (lengths Less left right) (Return (Const minus_one)) ∷
    Return (Const 1) ∷ [])

-- Standard functions.

abbrev pub print : (string at end : ℕ) → Ts
print string at end = sequence (
    Move at (bytes_of string) ∷
    Move end (Binary Add (Temp at) (Load (Temp string))) ∷
    walk at end (Do (Service 11 (LoadByte (Temp at))) ∷ advance at 1 ∷ []) ∷
    Return (Const 0) ∷ [])

abbrev pub flush : Ts
flush = Return (Const 0)

-- a new string of one byte
abbrev pub string_of_byte : (string byte : ℕ) → Ts
string_of_byte string byte =
    sequence (take_string string (Const 8) (Const 1) ∷ StoreByte (bytes_of string) (Temp byte) ∷ [])

-- the byte is read before memory is taken
abbrev pub getchar : (byte string : ℕ) → Ts
getchar byte string = sequence (
    Move byte (Service 12 (Const 0)) ∷
    If (is_negative (Temp byte))
    (take_string string (Const 4) (Const 0))
    (string_of_byte string byte) ∷
    Return (Temp string) ∷ [])

abbrev pub ord : (string : ℕ) → Ts
ord string = sequence (
    when (Compare Equal (Load (Temp string)) (Const 0)) (Return (Const minus_one)) ∷
    Return (LoadByte (bytes_of string)) ∷ [])

abbrev pub chr : (byte string : ℕ) → Ts
chr byte string = sequence (
    when (Compare NotBelow (Temp byte) (Const 256)) (Fault 4) ∷
    string_of_byte string byte ∷
    Return (Temp string) ∷ [])

abbrev pub size : (string : ℕ) → Ts
size string = Return (Load (Temp string))

-- whether there are no such bytes of a string
abbrev pub is_outside : (string first count : ℕ) → Cond
is_outside string first count =
    Either (is_negative (Temp first)) (Either (is_negative (Temp count)) (
    Compare Greater (Temp first) (Binary Sub (Load (Temp string)) (Temp count))))

abbrev pub substring : (string first count made from end to : ℕ) → Ts
substring string first count made from end to = sequence (
    when (is_outside string first count) (Fault 5) ∷
    take_string made (plus (Temp count) 4) (Temp count) ∷
    Move from (Binary Add (bytes_of string) (Temp first)) ∷
    Move end (Binary Add (Temp from) (Temp count)) ∷
    Move to (bytes_of made) ∷
    copy_bytes from end to ∷
    Return (Temp made) ∷ [])

-- all bytes of a string are put from an address on
abbrev pub append : (string from end to : ℕ) → Ts
append string from end to = sequence (
    Move from (bytes_of string) ∷
    Move end (Binary Add (Temp from) (Load (Temp string))) ∷
    copy_bytes from end to ∷ [])

-- The words that hold a string's bytes are put where those of another string begin: both begin at
-- multiples of 4, and what the last word holds after the bytes goes along.
abbrev pub begin_with : (string made from end to : ℕ) → Ts
begin_with string made from end to = sequence (
    Move from (bytes_of string) ∷
    Move end (whole_words (Binary Add (Temp from) (Load (Temp string)))) ∷
    Move to (bytes_of made) ∷
    copy_words from end to ∷ [])

-- the second string's bytes replace what came along after those of the first
abbrev pub concat : (left right made from end to : ℕ) → Ts
concat left right made from end to = sequence (
    Move end (Binary Add (Load (Temp left)) (Load (Temp right))) ∷
    take_string made (plus (Temp end) 4) (Temp end) ∷
    begin_with left made from end to ∷
    Move to (Binary Add (bytes_of made) (Load (Temp left))) ∷
    append right from end to ∷
    Return (Temp made) ∷ [])

abbrev pub negation : (int : ℕ) → Ts
negation int = sequence (
    when (Compare Equal (Temp int) (Const 0)) (Return (Const 1)) ∷
    Return (Const 0) ∷ [])

abbrev pub exit : (code : ℕ) → Ts
exit code = sequence (Do (Service 17 (Temp code)) ∷ Return (Const 0) ∷ [])

-- a function with its parameters and so many temporaries; each parameter stands in a temporary
abbrev pub function_of : Routine → (params : List Bool) → (temps : ℕ) → Ts → Function Ts
function_of one params temps body = record {
  label = label_of one;
  params = homes_of params;
  slots = slots_of params;
  temps = temps;
  out = 0;
  body = body;
}

abbrev pub function : Routine → (params temps : ℕ) → Ts → Function Ts
function one params temps body = function_of one (replicate params false) temps body

abbrev pub creations : List (Function Ts)
creations =
    function routine.MakeRecord 1 1 (make_record 0) ∷
    function routine.MakeArray 2 5 (make_array 0 1 2 3 4) ∷
    function routine.Compare 2 7 (compare 0 1 2 3 4 5 6) ∷ []

abbrev pub inputs_and_outputs : List (Function Ts)
inputs_and_outputs =
    function routine.Print 1 3 (print 0 1 2) ∷
    function routine.Flush 0 0 flush ∷
    function routine.Getchar 0 2 (getchar 0 1) ∷ []

abbrev pub bytes_and_sizes : List (Function Ts)
bytes_and_sizes =
    function routine.Ord 1 1 (ord 0) ∷
    function routine.Chr 1 2 (chr 0 1) ∷
    function routine.Size 1 1 (size 0) ∷ []

abbrev pub parts_and_sums : List (Function Ts)
parts_and_sums =
    function routine.Substring 3 7 (substring 0 1 2 3 4 5 6) ∷
    function routine.Concat 2 6 (concat 0 1 2 3 4 5) ∷ []

abbrev pub of_ints : List (Function Ts)
of_ints =
    function routine.Not 1 1 (negation 0) ∷
    function routine.Exit 1 1 (exit 0) ∷ []

-- all of them, in the order of their labels, and no literal
abbrev pub runtime : Code Ts
runtime = record {
  functions = creations ++ inputs_and_outputs ++ bytes_and_sizes ++ parts_and_sums ++ of_ints;
  literals = [];
}
