-- Computed examples of what is easily got wrong. Above each stands the program's text.
use Rattle.std.proofs.Common.{◌≡◌, ℕ, ◌-◌, ◌^◌, List, [], ◌∷◌, Some, None, refl}
use Rattle.std.specs.Prelude.{codes}
use Prim.Native.String.{String}
use Rattle.tg_syntax.specs.Tree.{Exp, no_decs}
use Rattle.tg_simulation.specs.Outcomes.{End, ended, stuck}
use Rattle.tg_semantics.specs.Values.{int, nothing, elements, Ending, normal, by_index, by_chr, by_substring, by_size, by_heap, by_exit, add_object}
use Rattle.tg_semantics.specs.Evaluation.{in_element, write_location}
use Rattle.tg_semantics.specs.Direct.{RunState, Direct, gives, after, direct, begin, told_outcome, outcome, evaluate}
use Rattle.tg_semantics.proofs.Trees.{nil, break, num, text, bytes, simple, field, index, read, var, call, neg, ◌+'◌, ◌-'◌, ◌='◌, ◌<>'◌, ◌<'◌, ◌<='◌, ◌>'◌}
use Rattle.tg_semantics.proofs.Trees.{◌&'◌, ◌or'◌, set, when, while, for, seq, array, make, fun, let_var, block, evaluated, does, on_heap, names}

abbrev say : String → Exp
say chars = call "print" (text chars ∷ [])

-- the answer of a program that exits with 1 where e isn't 0
abbrev tells : Exp → End Ending × List ℕ
tells e = does (call "exit" (e ∷ [])) 0

-- (while 1 do (while (break; 1) do print("a"); print("b")); print("c")): the break belongs to the loop outside
break_in_a_test : does (seq (while (num 1) (seq (while (seq (break ∷ num 1 ∷ [])) (say "a") ∷ say "b" ∷ [])) ∷ say "c" ∷ [])) 0 ≡ (ended normal, codes "c")
break_in_a_test = refl

-- the same where the test breaks at its second time: let var n:=0 in while 1 do (while (n:=n+1; if n=2 then break; 1) do
-- print("a"); print("b")); print("c") end
break_in_a_later_test : does (block (let_var "n" (num 0) no_decs)
    (while (num 1) (seq (while (seq (set (simple "n") (var "n" +' num 1) ∷ when (var "n" =' num 2) break ∷ num 1 ∷ []))
    (say "a") ∷ say "b" ∷ [])) ∷ say "c" ∷ [])) 1 ≡ (ended normal, codes "ac")
break_in_a_later_test = refl

-- (while 1 do (for i:=0 to (break; 3) do print("a"); print("b")); print("c"))
break_in_a_bound : does (seq (while (num 1) (seq (for "i" (num 0) (seq (break ∷ num 3 ∷ [])) (say "a") ∷ say "b" ∷ [])) ∷ say "c" ∷ [])) 0 ≡
    (ended normal, codes "c")
break_in_a_bound = refl

-- for i:=1 to 3 do (if i=2 then break; print("a"))
break_in_a_for : does (for "i" (num 1) (num 3) (seq (when (var "i" =' num 2) break ∷ say "a" ∷ []))) 5 ≡ (ended normal, codes "a")
break_in_a_for = refl

-- for i:=1 to 3 do let function f(n:int) = if n>0 then (f(n-1); print(chr(48+i))) in f(i) end: each activation of f sees
-- the loop's variable at its turn
for_variable_in_a_function : does (for "i" (num 1) (num 3) (block
    (fun "f" ("n" ∷ []) (when (var "n" >' num 0) (seq (call "f" (var "n" -' num 1 ∷ []) ∷ call "print"
    (call "chr" (num 48 +' var "i" ∷ []) ∷ []) ∷ []))) no_decs) (call "f" (var "i" ∷ []) ∷ []))) 11 ≡ (ended normal, codes "122333")
for_variable_in_a_function = refl

-- let function g(n:int) = for i:=1 to 2 do let function f() = print(chr(48+i)) in (if n>0 then g(n-1)); f() end in g(1) end:
-- a loop inside a turn of the same loop has its own variable, and the one outside goes on where it was
for_variable_across_turns : does (block (fun "g" ("n" ∷ []) (for "i" (num 1) (num 2)
    (block (fun "f" [] (call "print" (call "chr" (num 48 +' var "i" ∷ []) ∷ [])) no_decs)
    (when (var "n" >' num 0) (call "g" (var "n" -' num 1 ∷ [])) ∷ call "f" [] ∷ []))) no_decs) (call "g" (num 1 ∷ []) ∷ [])) 12 ≡ (ended normal, codes "121122")
for_variable_across_turns = refl

-- (let function print(s:string) = () in print("a") end; print("b"))
hidden_function : does (seq (block (fun "print" ("s" ∷ []) (seq []) no_decs) (say "a" ∷ []) ∷ say "b" ∷ [])) 1 ≡ (ended normal, codes "b")
hidden_function = refl

-- let var print:=1 in print("a") end: a variable hides it too, and isn't called
hidden_by_a_variable : does (block (let_var "print" (num 1) no_decs) (say "a" ∷ [])) 0 ≡ (stuck, [])
hidden_by_a_variable = refl

-- let type t=array of int var a:=t[3] of 0 function f():int=(print("f"); K) function g():int=(print("g"); 1) in a[f()]:=g() end
abbrev assigns_at : ℕ → Exp
assigns_at k =
    block (let_var "a" (array (num 3) (num 0)) (fun "f" [] (seq (say "f" ∷ num k ∷ [])) (fun "g" [] (seq (say "g" ∷ num 1 ∷ [])) no_decs)))
    (set (index (simple "a") (call "f" [])) (call "g" []) ∷ say "." ∷ [])

left_side_before_right : does (assigns_at 2) 2 ≡ (ended normal, codes "fg.")
left_side_before_right = refl

-- the check of the index is made before the right side runs
check_before_right : does (assigns_at 3) 2 ≡ (ended by_index, codes "f")
check_before_right = refl

-- let type r={x:int} var a:r:=nil var b:=r{x=1} in exit(..) end
abbrev compares : Exp → End Ending × List ℕ
compares e = does (block (let_var "a" nil (let_var "b" (make (("x", num 1) ∷ [])) no_decs)) (call "exit" (e ∷ []) ∷ [])) 0

-- a=a, a=b, b=a, a<>b, b=b
nil_compared : (compares (var "a" =' var "a") ≡ (ended (by_exit 1), [])) × (compares (var "a" =' var "b") ≡ (ended (by_exit 0), [])) ×
    (compares (var "b" =' nil) ≡ (ended (by_exit 0), [])) × (compares (var "a" <>' var "b") ≡ (ended (by_exit 1), [])) ×
    (compares (var "b" =' var "b") ≡ (ended (by_exit 1), []))
nil_compared = (refl, refl, refl, refl, refl)

-- exit(r{}=r{}): two creations, and each takes 4 bytes
empty_records_differ : (on_heap 8 [] (call "exit" (make [] =' make [] ∷ [])) 0 ≡ (ended (by_exit 0), [])) ×
    (on_heap 7 [] (call "exit" (make [] =' make [] ∷ [])) 0 ≡ (ended by_heap, []))
empty_records_differ = (refl, refl)

-- "\200"<"a", "a"<"\200", ""<"\200", "a"<"a\000", "b"<"a\200", "a"<="a"
strings_in_order : (tells (bytes (200 ∷ []) <' text "a") ≡ (ended (by_exit 0), [])) × (tells (text "a" <' bytes (200 ∷ [])) ≡ (ended (by_exit 1), [])) ×
    (tells (text "" <' bytes (200 ∷ [])) ≡ (ended (by_exit 1), [])) × (tells (text "a" <' bytes (97 ∷ 0 ∷ [])) ≡ (ended (by_exit 1), [])) ×
    (tells (text "b" <' bytes (97 ∷ 200 ∷ [])) ≡ (ended (by_exit 0), [])) × (tells (text "a" <=' text "a") ≡ (ended (by_exit 1), []))
strings_in_order = (refl, refl, refl, refl, refl, refl)

-- -1<1, and 1<-1
ints_in_order : (tells (neg (num 1) <' num 1) ≡ (ended (by_exit 1), [])) × (tells (num 1 <' neg (num 1)) ≡ (ended (by_exit 0), []))
ints_in_order = (refl, refl)

-- print(concat("ab","cde")) takes 12 bytes of heap; an array of 3 takes 16
heap_to_the_word : (on_heap 12 [] (call "print" (call "concat" (text "ab" ∷ text "cde" ∷ []) ∷ [])) 0 ≡ (ended normal, codes "abcde")) ×
    (on_heap 8 [] (call "print" (call "concat" (text "ab" ∷ text "cde" ∷ []) ∷ [])) 0 ≡ (ended by_heap, [])) ×
    (on_heap 16 [] (array (num 3) (num 0)) 0 ≡ (ended normal, [])) × (on_heap 12 [] (array (num 3) (num 0)) 0 ≡ (ended by_heap, []))
heap_to_the_word = (refl, refl, refl, refl)

-- substring("abc",3,0), substring("abc",-1,1), substring("abc",1,-1), substring("abc",0,4), substring("abc",1,2)
abbrev part : Exp → Exp → End Ending × List ℕ
part first count = does (call "print" (call "substring" (text "abc" ∷ first ∷ count ∷ []) ∷ [])) 0

substrings : (part (num 3) (num 0) ≡ (ended normal, [])) × (part (neg (num 1)) (num 1) ≡ (ended by_substring, [])) ×
    (part (num 1) (neg (num 1)) ≡ (ended by_substring, [])) × (part (num 0) (num 4) ≡ (ended by_substring, [])) ×
    (part (num 1) (num 2) ≡ (ended normal, codes "bc"))
substrings = (refl, refl, refl, refl, refl)

-- ord(""), ord("\200"), chr(255), chr(-1), not(0), not(5)
bytes_and_ints : (tells (call "ord" (text "" ∷ [])) ≡ (ended (by_exit (2 ^ 32 - 1)), [])) ×
    (tells (call "ord" (bytes (200 ∷ []) ∷ [])) ≡ (ended (by_exit 200), [])) ×
    (does (call "print" (call "chr" (num 255 ∷ []) ∷ [])) 0 ≡ (ended normal, 255 ∷ [])) × (does (call "chr" (neg (num 1) ∷ [])) 0 ≡ (ended by_chr, [])) ×
    (tells (call "not" (num 0 ∷ [])) ≡ (ended (by_exit 1), [])) × (tells (call "not" (num 5 ∷ [])) ≡ (ended (by_exit 0), []))
bytes_and_ints = (refl, refl, refl, refl, refl, refl)

-- 0 & exit(7); 2 & 3; 0 | 3; 2 | exit(7)
shortcuts : (tells (num 0 &' call "exit" (num 7 ∷ [])) ≡ (ended (by_exit 0), [])) × (tells (num 2 &' num 3) ≡ (ended (by_exit 3), [])) ×
    (tells (num 0 or' num 3) ≡ (ended (by_exit 3), [])) × (tells (num 2 or' call "exit" (num 7 ∷ [])) ≡ (ended (by_exit 1), []))
shortcuts = (refl, refl, refl, refl)

-- let type t=array of int var a:=t[0-1] of (print("i"); 0) in end: the initial value comes before the check
size_after_the_value : does (array (num 0 -' num 1) (seq (say "i" ∷ num 0 ∷ []))) 0 ≡ (ended by_size, codes "i")
size_after_the_value = refl

-- let type t=array of r var a:=t[2] of r{} in exit(a[0]=a[1]) end: each element is the same value
elements_are_one_value : does (block (let_var "a" (array (num 2) (make [])) no_decs)
    (call "exit" (read (index (simple "a") (num 0)) =' read (index (simple "a") (num 1)) ∷ []) ∷ [])) 0 ≡ (ended (by_exit 1), [])
elements_are_one_value = refl

-- getchar() with no heap: the byte is read, and then there is no room for it
read_before_room : (evaluate names (call "getchar" []) (65 ∷ 66 ∷ []) 0 67108864 0).input ≡ 66 ∷ []
read_before_room = refl

-- break stands outside a loop of its function
break_of_no_loop : does (while (num 1) (block (fun "f" [] break no_decs) (call "f" [] ∷ []))) 5 ≡ (stuck, [])
break_of_no_loop = refl

-- a variable's value is made before the variable is there: let var a:=1 in let var a:=a+1 in exit(a) end end
own_value_sees_outside : does (block (let_var "a" (num 1) no_decs) (block (let_var "a" (var "a" +' num 1) no_decs) (call "exit" (var "a" ∷ []) ∷ []) ∷ [])) 0 ≡
    (ended (by_exit 2), [])
own_value_sees_outside = refl

-- the cost of exit(1), of print("ab"), and of let var a:=t[5] of 0 in a[1]:=2 end
costs : ((evaluated (call "exit" (num 1 ∷ [])) 0).cost ≡ 2) × ((evaluated (say "ab") 0).cost ≡ 4) ×
    ((evaluated (block (let_var "a" (array (num 5) (num 0)) no_decs) (set (index (simple "a") (num 1)) (num 2) ∷ [])) 0).cost ≡ 15)
costs = (refl, refl, refl)

-- print("x") weighs 1536, and 4096 more while it acts: it is past a stack of 5631 bytes before it writes
print_past_the_stack : ((evaluate names (say "x") [] 0 5631 0).output_past_limit ≡ Some []) × ((evaluate names (say "x") [] 0 5631 0).output ≡ codes "x") ×
    ((evaluate names (say "x") [] 0 5632 0).output_past_limit ≡ None)
print_past_the_stack = (refl, refl, refl)

-- an activation that is closed weighs nothing: (f(); f(); f()) has one open at once
one_open_at_once : (evaluated (block (fun "f" [] (seq []) no_decs) (call "f" [] ∷ call "f" [] ∷ call "f" [] ∷ [])) 3).deepest ≡ 1
one_open_at_once = refl

-- a store to what isn't there is stuck, as a read is: let var a:=r{x=1} in a.y:=2 end, and let var a:=t[1] of 0 in a.x:=2 end
store_to_no_field : does (block (let_var "a" (make (("x", num 1) ∷ [])) no_decs) (set (field (simple "a") "y") (num 2) ∷ [])) 0 ≡ (stuck, [])
store_to_no_field = refl

store_to_no_record : does (block (let_var "a" (array (num 1) (num 0)) no_decs) (set (field (simple "a") "x") (num 2) ∷ [])) 0 ≡ (stuck, [])
store_to_no_record = refl

-- the same past the end of an array, which no l-value whose checks are made comes to
abbrev with_array : RunState
with_array =
    let s = begin [] 0 in
    record s { world = add_object (elements (int 0 ∷ [])) s.world }

store_to_no_element : outcome (after (write_location Direct (direct 0 0) (in_element 0 1) (int 2) with_array) (λ done s. gives nothing s)) ≡
    told_outcome stuck with_array
store_to_no_element = refl
