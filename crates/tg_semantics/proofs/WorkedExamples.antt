-- Worked examples, each computed by the definition itself. Above each stands the program's text.
use Rattle.std.proofs.Common.{◌≡◌, ℕ, ◌-◌, ◌^◌, List, [], ◌∷◌, Some, None, refl}
use Rattle.std.specs.Prelude.{codes}
use Prim.Native.String.{String}
use Rattle.tg_syntax.specs.Tree.{Exp, no_decs}
use Rattle.tg_simulation.specs.Outcomes.{End, ended, out_of_fuel, Outcome}
use Rattle.tg_semantics.specs.Values.{normal, by_nil, by_index, by_division, by_chr, by_substring, by_size, by_heap, by_overflow, by_exit, Ending}
use Rattle.tg_semantics.specs.Direct.{evaluate}
use Rattle.tg_semantics.proofs.Trees.{nil, break, num, text, simple, field, index, read, var, call, neg, ◌+'◌, ◌-'◌, ◌*'◌, ◌/'◌, ◌='◌, ◌<>'◌, ◌<'◌, ◌>'◌, ◌&'◌}
use Rattle.tg_semantics.proofs.Trees.{set, when, if_else, while, for, seq, array, make, fun, let_var, block, does, on_heap, names}

-- print("x")
abbrev say : String → Exp
say chars = call "print" (text chars ∷ [])

-- exit(300), and exit(-1) by its word
exits : does (call "exit" (num 300 ∷ [])) 0 ≡ (ended (by_exit 300), [])
exits = refl

exits_below_zero : does (call "exit" (neg (num 1) ∷ [])) 0 ≡ (ended (by_exit (2 ^ 32 - 1)), [])
exits_below_zero = refl

-- let type r={x:int} var a:r:=nil in print("a"); a.x:=1 end
field_of_nil : does (block (let_var "a" nil no_decs) (say "a" ∷ set (field (simple "a") "x") (num 1) ∷ [])) 0 ≡ (ended by_nil, codes "a")
field_of_nil = refl

-- let type t=array of int var a:=t[3] of 7 in a[3]:=0 end
index_of_the_size : does (block (let_var "a" (array (num 3) (num 7)) no_decs) (set (index (simple "a") (num 3)) (num 0) ∷ [])) 0 ≡ (ended by_index, [])
index_of_the_size = refl

-- the same with a[-1], and with a[2] and then exit(a[2]+a[0])
index_below_zero : does (block (let_var "a" (array (num 3) (num 7)) no_decs) (set (index (simple "a") (neg (num 1))) (num 0) ∷ [])) 0 ≡ (ended by_index, [])
index_below_zero = refl

elements_apart : does (block (let_var "a" (array (num 3) (num 7)) no_decs)
    (set (index (simple "a") (num 2)) (num 1) ∷ call "exit" (read (index (simple "a") (num 2)) +' read (index (simple "a") (num 0)) ∷ []) ∷ [])) 0 ≡ (
      ended
          (by_exit 8),
      [],
    )
elements_apart = refl

-- 1/0
division_by_zero : does (num 1 /' num 0) 0 ≡ (ended by_division, [])
division_by_zero = refl

-- exit(-7/2)
quotient_toward_zero : does (call "exit" (neg (num 7) /' num 2 ∷ [])) 0 ≡ (ended (by_exit (2 ^ 32 - 3)), [])
quotient_toward_zero = refl

-- for i:=2147483646 to 2147483647 do print(".")
abbrev dots : Exp
dots = for "i" (num 2147483646) (num 2147483647) (say ".")

to_the_greatest_int : does dots 1 ≡ (ended normal, codes "..")
to_the_greatest_int = refl

-- and with no fuel for the second turn
one_turn_of_two : does dots 0 ≡ (out_of_fuel, codes ".")
one_turn_of_two = refl

-- for i:=1 to 0 do print(".")
no_turn : does (for "i" (num 1) (num 0) (say ".")) 0 ≡ (ended normal, [])
no_turn = refl

-- for i:=-1 to 1 do print(".")
across_zero : does (for "i" (neg (num 1)) (num 1) (say ".")) 2 ≡ (ended normal, codes "...")
across_zero = refl

-- let var m:=-2147483647-1 in if m/(-1)=m then print("w") end
least_by_minus_one : does (block (let_var "m" (neg (num 2147483647) -' num 1) no_decs) (when ((var "m" /' neg (num 1)) =' var "m") (say "w") ∷ [])) 0 ≡
    (ended by_overflow, [])
least_by_minus_one = refl

-- exit(2147483647+1); (print("a"); exit(65536*32768)); exit(-65536*32768); exit(-(-2147483647-1)); exit(1/0+(2147483647+1))
sum_overflows : does (call "exit" (num 2147483647 +' num 1 ∷ [])) 0 ≡ (ended by_overflow, [])
sum_overflows = refl

product_overflows : does (seq (say "a" ∷ call "exit" (num 65536 *' num 32768 ∷ []) ∷ [])) 0 ≡ (ended by_overflow, codes "a")
product_overflows = refl

product_that_fits : does (call "exit" (neg (num 65536) *' num 32768 ∷ [])) 0 ≡ (ended (by_exit (2 ^ 31)), [])
product_that_fits = refl

minus_overflows : does (call "exit" (neg (neg (num 2147483647) -' num 1) ∷ [])) 0 ≡ (ended by_overflow, [])
minus_overflows = refl

left_side_first : does (call "exit" ((num 1 /' num 0) +' (num 2147483647 +' num 1) ∷ [])) 0 ≡ (ended by_division, [])
left_side_first = refl

-- let function f():int=(print("f"); 1) in exit((2147483647+1)+f()) end, and with exit(f()+(2147483647+1))
abbrev with_f : Exp → Exp
with_f e = block (fun "f" [] (seq (say "f" ∷ num 1 ∷ [])) no_decs) (call "exit" (e ∷ []) ∷ [])

overflow_before_a_call : does (with_f ((num 2147483647 +' num 1) +' call "f" [])) 1 ≡ (ended by_overflow, [])
overflow_before_a_call = refl

overflow_after_a_call : does (with_f (call "f" [] +' (num 2147483647 +' num 1))) 1 ≡ (ended by_overflow, codes "f")
overflow_after_a_call = refl

-- let function a(n:int):int = let var v:=n function b(k:int) = let function c() = v:=v+k in c(); if k>1 then b(k-1) end
-- in b(3); v end in exit(a(10)) end
abbrev nested : Exp
nested =
    block (fun "a" ("n" ∷ []) (block (let_var "v" (var "n") (fun "b" ("k" ∷ [])
    (block (fun "c" [] (set (simple "v") (var "v" +' var "k")) no_decs)
    (call "c" [] ∷ when (var "k" >' num 1) (call "b" (var "k" -' num 1 ∷ [])) ∷ []))
    no_decs)) (call "b" (num 3 ∷ []) ∷ var "v" ∷ [])) no_decs)
    (call "exit" (call "a" (num 10 ∷ []) ∷ []) ∷ [])

functions_in_functions : does nested 7 ≡ (ended (by_exit 16), [])
functions_in_functions = refl

-- seven calls want seven units of fuel
one_call_too_many : does nested 6 ≡ (out_of_fuel, [])
one_call_too_many = refl

-- let type r={x:int,y:int} var a:r:=nil in a:=r{x=1,y=2}; print("1"); a:=r{x=3,y=4}; print("2") end, with 8 bytes of heap
heap_of_one_record : on_heap 8 [] (block (let_var "a" nil no_decs)
    (set (simple "a") (make (("x", num 1) ∷ ("y", num 2) ∷ [])) ∷ say "1" ∷ set (simple "a") (make (("x", num 3) ∷ ("y", num 4) ∷ [])) ∷ say "2" ∷ [])) 0 ≡
    (ended by_heap, codes "1")
heap_of_one_record = refl

-- let function f()=f() in print("x"); f() end, with 65536 bytes of stack
abbrev endless : ℕ → Outcome Ending
endless fuel = evaluate names (block (fun "f" [] (call "f" []) no_decs) (say "x" ∷ call "f" [] ∷ [])) [] 16777216 65536 fuel

-- the program weighs 2304 and each activation 1344, so the 48th is too much
not_past_the_stack : ((endless 46).output_past_limit ≡ None) × ((endless 46).deepest ≡ 47) × ((endless 46).end ≡ out_of_fuel)
not_past_the_stack = (refl, refl, refl)

past_the_stack : ((endless 47).output_past_limit ≡ Some (codes "x")) × ((endless 60).output_past_limit ≡ Some (codes "x"))
past_the_stack = (refl, refl)

-- while 1 do ()
without_end : does (while (num 1) (seq [])) 100 ≡ (out_of_fuel, [])
without_end = refl

-- let var c:=getchar() in while c<>"" do (print(c); c:=getchar()) end, on the bytes 00 FF 41
abbrev copy : ℕ → End Ending × List ℕ
copy heap = on_heap heap (0 ∷ 255 ∷ 65 ∷ []) (block (let_var "c" (call "getchar" []) no_decs)
    (while (var "c" <>' text "") (seq (call "print" (var "c" ∷ []) ∷ set (simple "c") (call "getchar" []) ∷ [])) ∷ [])) 3

input_to_output : copy 16777216 ≡ (ended normal, 0 ∷ 255 ∷ 65 ∷ [])
input_to_output = refl

-- four strings, the empty one too, take 28 bytes
heap_of_four_strings : (copy 28 ≡ (ended normal, 0 ∷ 255 ∷ 65 ∷ [])) × (copy 24 ≡ (ended by_heap, 0 ∷ 255 ∷ 65 ∷ []))
heap_of_four_strings = (refl, refl)

-- if 1 then if 0 then print("a") else print("b")
inner_else : does (when (num 1) (if_else (num 0) (say "a") (say "b"))) 0 ≡ (ended normal, codes "b")
inner_else = refl

-- if "ab"<"b" & concat("a","b")="ab" then exit(size(substring("tiger",1,3)))
strings : does (when ((text "ab" <' text "b") &' (call "concat" (text "a" ∷ text "b" ∷ []) =' text "ab"))
    (call "exit" (call "size" (call "substring" (text "tiger" ∷ num 1 ∷ num 3 ∷ []) ∷ []) ∷ []))) 0 ≡ (ended (by_exit 3), [])
strings = refl

-- print(chr(256)); print(substring("abc",2,2)); let type t=array of int var a:=t[0-1] of 0 in end
chr_out_of_range : does (call "print" (call "chr" (num 256 ∷ []) ∷ [])) 0 ≡ (ended by_chr, [])
chr_out_of_range = refl

substring_past_the_end : does (call "print" (call "substring" (text "abc" ∷ num 2 ∷ num 2 ∷ []) ∷ [])) 0 ≡ (ended by_substring, [])
substring_past_the_end = refl

size_below_zero : does (block (let_var "a" (array (num 0 -' num 1) (num 0)) no_decs) []) 0 ≡ (ended by_size, [])
size_below_zero = refl

-- (while 1 do exit(1+(break;2)); print("k"))
break_drops_operands : does (seq (while (num 1) (call "exit" (num 1 +' seq (break ∷ num 2 ∷ []) ∷ [])) ∷ say "k" ∷ [])) 0 ≡ (ended normal, codes "k")
break_drops_operands = refl

-- let type r={f:int} var a:=r{f=1} function g():int=(a.f:=5; 10) in exit(a.f+g()) end
field_before_a_call : does (block (let_var "a" (make (("f", num 1) ∷ [])) (fun "g" [] (seq (set (field (simple "a") "f") (num 5) ∷ num 10 ∷ [])) no_decs))
    (call "exit" (read (field (simple "a") "f") +' call "g" [] ∷ []) ∷ [])) 1 ≡ (ended (by_exit 11), [])
field_before_a_call = refl
