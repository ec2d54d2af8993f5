-- Runs of the runtime's functions on small inputs, each computed by the meaning of trees itself.
use Rattle.std.proofs.Common.{◌≡◌, ℕ, ◌-◌, List, [], ◌∷◌, refl}
use Rattle.std.specs.Prelude.{codes, pos}
use Rattle.tg_machine_state.specs.declared.ends.RunEnd.TheVariants.{Exit, Break, HeapFull}
use Rattle.tg_machine_state.specs.State.{stack_top}
use Rattle.tg_simulation.specs.Ran.{Ran, Stop, Ended, WantsFuel}
use Rattle.tg_tree.specs.declared.operators.Bin.TheVariants.{Add}
use Rattle.tg_tree.specs.Tree.{Tx, Const, Address, Temp, Binary, Load, Call, Service, Ts, Move, Do, Return, Function, Literal}
use Rattle.tg_tree.specs.Forms.{txs, sequence}
use Rattle.tg_tree.specs.Units.{Trees}
use Rattle.tg_tree.specs.Running.{tree_run}
use Rattle.tg_runtime.specs.declared.routines.Routine.{Routine}
use Rattle.tg_runtime.specs.declared.routines.Routine.TheVariants as routine
use Rattle.tg_runtime.specs.mirror.Labels.{label_of}
use Rattle.tg_runtime.specs.mirror.Routines.{runtime}

-- literals, by their labels
abbrev tiger : Tx
tiger = Address 33

abbrev literals : List Literal
literals =
    record { label = 33; text = 5 ∷ 0 ∷ 0 ∷ 0 ∷ codes "tiger" } ∷
    record { label = 34; text = 2 ∷ 0 ∷ 0 ∷ 0 ∷ codes "hi" } ∷
    record { label = 35; text = 0 ∷ 0 ∷ 0 ∷ 0 ∷ [] } ∷ []

abbrev call : Routine → List Tx → Tx
call one xs = Call (label_of one) (txs xs)

abbrev seen : Ran → List ℕ × Stop
seen p = (p.output, p.stop)

abbrev main : List Ts → Function Ts
main body = record { label = 32; params = []; slots = 0; temps = 1; out = 0; body = sequence body }

-- a body's run with the runtime: frames of 8 bytes, a heap of so many
abbrev runs : (heap : ℕ) → (input : List ℕ) → List Ts → (fuel : ℕ) → Ran
runs heap input body fuel =
    tree_run Trees (record { functions = main body ∷ runtime.functions; literals = literals }) (λ label. 8) (stack_top - 16) heap 32 input fuel

-- what it writes, and how it stops
abbrev does_with : (heap : ℕ) → (input : List ℕ) → List Ts → (fuel : ℕ) → List ℕ × Stop
does_with heap input body fuel = seen (runs heap input body fuel)

abbrev does : List Ts → (fuel : ℕ) → List ℕ × Stop
does body fuel = does_with 64 [] body fuel

abbrev finished : List ℕ → List ℕ × Stop
finished bytes = (bytes, Ended (Exit (pos 0)))

-- the low byte of a word is written
abbrev show : Tx → Ts
show x = Do (Service 11 x)

abbrev print : Tx → Ts
print string = Do (call routine.Print (string ∷ []))

abbrev broken : ℕ → List ℕ × Stop
broken n = ([], Ended (Break n))

abbrev full : List ℕ × Stop
full = ([], Ended HeapFull)

-- `print` writes each byte, 0 too, and no byte of an empty string
printed : does (print (Address 34) ∷ print (Address 35) ∷ Return (Const 0) ∷ []) 3 ≡ finished (codes "hi")
printed = refl

wants_a_turn_more : does (print (Address 34) ∷ Return (Const 0) ∷ []) 1 ≡ (codes "h", WantsFuel)
wants_a_turn_more = refl

-- `substring`
abbrev cut : (first count : ℕ) → Tx
cut first count = call routine.Substring (tiger ∷ Const first ∷ Const count ∷ [])

middle_cut : does (print (cut 1 3) ∷ print (cut 5 0) ∷ Return (Const 0) ∷ []) 9 ≡ finished (codes "ige")
middle_cut = refl

end_passed : does (print (cut 3 3) ∷ []) 9 ≡ broken 5
end_passed = refl

first_below : does (print (cut 4294967295 1) ∷ []) 9 ≡ broken 5
first_below = refl

count_below : does (print (cut 2 4294967295) ∷ []) 9 ≡ broken 5
count_below = refl

-- `concat`: five bytes and two take eight bytes and the word of the length
abbrev join : (left right : Tx) → Tx
join left right = call routine.Concat (left ∷ right ∷ [])

abbrev joined : Tx
joined = join tiger (Address 34)

concatenated : does_with 12 [] (print joined ∷ Return (Const 0) ∷ []) 16 ≡ finished (codes "tigerhi")
concatenated = refl

no_room_for_both : does_with 8 [] (print joined ∷ Return (Const 0) ∷ []) 16 ≡ full
no_room_for_both = refl

-- two words and two bytes: each goes back to the head of its loop once
words_copied : does_with 12 [] (Do joined ∷ Return (Const 0) ∷ []) 3 ≡ finished []
words_copied = refl

byte_wants_a_turn : does_with 12 [] (Do joined ∷ Return (Const 0) ∷ []) 2 ≡ ([], WantsFuel)
byte_wants_a_turn = refl

-- seven bytes, of which the last word has one that isn't its own, and five
joined_again : does_with 28 [] (print (join joined tiger) ∷ Return (Const 0) ∷ []) 30 ≡ finished (codes "tigerhitiger")
joined_again = refl

-- an empty string on either side, and on both
nothing_joined :
    does_with 24 [] (print (join tiger (Address 35)) ∷ print (join (Address 35) (Address 34)) ∷ print (join (Address 35) (Address 35)) ∷ Return (Const 0) ∷ [])
    30 ≡ finished (codes "tigerhi")
nothing_joined = refl

-- strings in order: the empty one, hi, tige, tiger
abbrev order : Tx → Tx → Ts
order left right = show (call routine.Compare (left ∷ right ∷ []))

strings_ordered :
    does (order (Address 35) (Address 34) ∷ order (Address 34) tiger ∷ order tiger (cut 0 4) ∷ order (cut 0 4) (cut 0 4) ∷ Return (Const 0) ∷ []) 30 ≡
    finished (255 ∷ 255 ∷ 1 ∷ 0 ∷ [])
strings_ordered = refl

-- an array of two elements, and its word of length; of none
abbrev made : (size value : ℕ) → Ts
made size value = Move 0 (call routine.MakeArray (Const size ∷ Const value ∷ []))

abbrev word : ℕ → Ts
word n = show (Load (Binary Add (Temp 0) (Const n)))

array_made : does_with 12 [] (made 2 7 ∷ word 0 ∷ word 4 ∷ word 8 ∷ Return (Const 0) ∷ []) 4 ≡ finished (2 ∷ 7 ∷ 7 ∷ [])
array_made = refl

empty_array_made : does_with 4 [] (made 0 7 ∷ word 0 ∷ Return (Const 0) ∷ []) 4 ≡ finished (0 ∷ [])
empty_array_made = refl

array_too_large : does_with 8 [] (made 2 7 ∷ []) 4 ≡ full
array_too_large = refl

size_below : does (made 4294967295 7 ∷ []) 4 ≡ broken 6
size_below = refl

-- 4 + 4·n would wrap to 4
size_of_wrapping_bytes : does (made 1073741824 7 ∷ []) 4 ≡ full
size_of_wrapping_bytes = refl

size_past_addresses : does (made 67108864 7 ∷ []) 4 ≡ full
size_past_addresses = refl

-- a record of eight bytes
record_made : does_with 8 [] (Move 0 (call routine.MakeRecord (Const 8 ∷ [])) ∷ word 4 ∷ Return (Const 0) ∷ []) 2 ≡ finished (0 ∷ [])
record_made = refl

-- `getchar` reads before it takes memory, and at the end of input takes 4 bytes
abbrev read : Tx
read = call routine.Getchar []

byte_read : does_with 12 (codes "a") (print read ∷ print read ∷ Return (Const 0) ∷ []) 9 ≡ finished (codes "a")
byte_read = refl

abbrev left_of : Ran → List ℕ × Stop
left_of p = (p.input, p.stop)

read_then_full : left_of (runs 4 (codes "ab") (Do read ∷ []) 2) ≡ (codes "b", Ended HeapFull)
read_then_full = refl

-- `ord`, `chr`, `size`, `not`, `flush`, `exit`
small_ones : does (
    show (call routine.Ord (tiger ∷ [])) ∷
    show (call routine.Ord (Address 35 ∷ [])) ∷
    show (call routine.Size (tiger ∷ [])) ∷
    show (call routine.Not (Const 0 ∷ [])) ∷
    show (call routine.Not (Const 5 ∷ [])) ∷
    Do (call routine.Flush []) ∷
    print (call routine.Chr (Const 65 ∷ [])) ∷
    Do (call routine.Exit (Const 3 ∷ [])) ∷ []) 20 ≡ (116 ∷ 255 ∷ 5 ∷ 1 ∷ 0 ∷ 65 ∷ [], Ended (Exit (pos 3)))
small_ones = refl

chr_above : does (Do (call routine.Chr (Const 256 ∷ [])) ∷ []) 9 ≡ broken 4
chr_above = refl

chr_below : does (Do (call routine.Chr (Const 4294967295 ∷ [])) ∷ []) 9 ≡ broken 4
chr_below = refl
