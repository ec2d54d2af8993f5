-- Programs that are translated and run, each computed by the definitions themselves. Above each stands its text, but for those
-- of ExampleTrees. An identifier is its byte, and each use has the byte of what it means.
use Rattle.std.proofs.Common.{◌≡◌, ℕ, ◌-◌, ◌++◌, List, [], ◌∷◌, drop, map, Some, Bool, true, false, refl}
use Rattle.std.specs.Prelude.{codes, pos}
use Prim.Native.String.{String}
use Rattle.tg_machine_state.specs.declared.ends.RunEnd.TheVariants.{Exit, Break as Broken, Overflow}
use Rattle.tg_machine_state.specs.State.{stack_top}
use Rattle.tg_simulation.specs.Ran.{Ran, Stop, Ended}
use Rattle.tg_syntax.specs.declared.trees.Op.TheVariants as op
use Rattle.tg_syntax.specs.Tree.{Exp, Nil, Break, Read, Neg, Binary, Make, Fill, Assign, If, When, While, For, LValue}
use Rattle.tg_syntax.specs.Tree.{Simple, Field, Index, no_inits, init, no_decs, functions}
use Rattle.tg_syntax.specs.Tree.{no_functions, function}
use Rattle.tg_tree.specs.declared.operators.Rel.TheVariants as rel
use Rattle.tg_tree.specs.Tree as tree
use Rattle.tg_tree.specs.Tree.{Const, Temp, Service, After, Compare, Ts, Move, Do, Loop, Return}
use Rattle.tg_tree.specs.Forms.{sequence}
use Rattle.tg_tree.specs.Units.{Trees}
use Rattle.tg_tree.specs.Running.{tree_run}
use Rattle.tg_runtime.specs.mirror.Routines.{runtime}
use Rattle.tg_translate.specs.mirror.Returning.{returning}
use Rattle.tg_translate.specs.mirror.Constructs.{space_for_record}
use Rattle.tg_translate.specs.mirror.Translate.{translated}
use Rattle.tg_translate.specs.mirror.Updates.{begins_with}
use Rattle.tg_translate.proofs.ExampleTrees.{sp, id, x, i, k, f, g, findings, num, get, set, call, seq, text, exit, binary, plus, let_var, block}
use Rattle.tg_translate.proofs.ExampleTrees.{params, counts_to_three, fields_added, elements_added, element_after_the_last, factorial_of_four}
use Rattle.tg_translate.proofs.ExampleTrees.{sum_by_links}

abbrev say : String → Exp
say chars = call 30 (text chars ∷ [])

-- what a program writes, and how it stops
abbrev seen : Ran → List ℕ × Stop
seen p = (p.output, p.stop)

abbrev does_with : (escaping links : List ℕ) → Exp → (fuel : ℕ) → List ℕ × Stop
does_with escaping links e fuel =
    let code = translated (findings escaping links) e in
    seen (tree_run Trees (record { functions = code.functions ++ runtime.functions; literals = code.literals }) (λ label. 64)
    (stack_top - 1024) 64 32 [] fuel)

abbrev does : Exp → (fuel : ℕ) → List ℕ × Stop
does e fuel = does_with [] [] e fuel

abbrev ends : ℕ → List ℕ × Stop
ends n = ([], Ended (Exit (pos n)))

abbrev breaks : ℕ → List ℕ × Stop
breaks n = ([], Ended (Broken n))

abbrev writes : String → List ℕ × Stop
writes chars = (codes chars, Ended (Exit (pos 0)))

-- exit(300)
exits : does (exit (num 300)) 2 ≡ ends 300
exits = refl

-- print("hi")
says : does (say "hi") 4 ≡ writes "hi"
says = refl

-- exit(7/2), 1/0
divides : does (exit (binary op.Divide (num 7) (num 2))) 2 ≡ ends 3
divides = refl

zero_divisor : does (binary op.Divide (num 1) (num 0)) 1 ≡ breaks 7
zero_divisor = refl

-- 2147483647+1, 65536*32768, exit(6*7)
sum_overflows : does (plus (num 2147483647) (num 1)) 1 ≡ ([], Ended Overflow)
sum_overflows = refl

product_overflows : does (binary op.Times (num 65536) (num 32768)) 1 ≡ ([], Ended Overflow)
product_overflows = refl

product_fits : does (exit (binary op.Times (num 6) (num 7))) 2 ≡ ends 42
product_fits = refl

-- -2147483648/-1, where -2147483648 is -2147483647-1
quotient_overflows : does (binary op.Divide (binary op.Minus (Neg sp (num 2147483647)) (num 1)) (Neg sp (num 1))) 1 ≡ ([], Ended Overflow)
quotient_overflows = refl

-- let var x:=3 in x:=x+4; exit(x) end
variable_changes : does (block (let_var x (num 3) no_decs) (set x (plus (get x) (num 4)) ∷ exit (get x) ∷ [])) 2 ≡ ends 7
variable_changes = refl

-- the same where x stands in the frame
slot_changes : does_with (x ∷ []) [] (block (let_var x (num 3) no_decs) (set x (plus (get x) (num 4)) ∷ exit (get x) ∷ [])) 2 ≡ ends 7
slot_changes = refl

-- let var x:=3 in exit(x+(x:=5; x)) end
left_side_first :
    does (block (let_var x (num 3) no_decs) (exit (plus (get x) (seq (set x (num 5) ∷ get x ∷ []))) ∷ [])) 2 ≡ ends 8
left_side_first = refl

-- exit((1<2)+(if 0 then 3 else 4)), exit((1&0)+(0|5))
choices : does (exit (plus (binary op.Less (num 1) (num 2)) (If sp (num 0) (num 3) (num 4)))) 2 ≡ ends 5
choices = refl

connectives : does (exit (plus (binary op.And (num 1) (num 0)) (binary op.Or (num 0) (num 5)))) 2 ≡ ends 5
connectives = refl

broken_loop : does counts_to_three 9 ≡ ends 3
broken_loop = refl

-- while 1 do while (break; 1) do print("a")
broken_test : does (While sp (num 1) (While sp (seq (Break sp ∷ num 1 ∷ [])) (say "a"))) 3 ≡ ends 0
broken_test = refl

-- for i:=2147483646 to 2147483647 do print("."), for i:=1 to 0 do print(".")
greatest_bound : does (For sp (id i) (num 2147483646) (num 2147483647) (say ".")) 9 ≡ writes ".."
greatest_bound = refl

no_turn : does (For sp (id i) (num 1) (num 0) (say ".")) 9 ≡ ends 0
no_turn = refl

record_of_two : does fields_added 9 ≡ ends 7
record_of_two = refl

-- let type r={a:int} var x:r:=nil in x.a:=1 end
field_of_nil : does (block (let_var x (Nil sp) no_decs) (Assign sp (Field (Simple (id x)) (id 20)) (num 1) ∷ [])) 9 ≡ breaks 2
field_of_nil = refl

elements : does elements_added 9 ≡ ends 8
elements = refl

index_of_the_size : does element_after_the_last 9 ≡ breaks 3
index_of_the_size = refl

-- if "ab"<"b" then exit(3)
strings_in_order : does (When sp (Binary sp op.Less 40 (text "ab") (text "b")) (exit (num 3))) 9 ≡ ends 3
strings_in_order = refl

recursion : does factorial_of_four 9 ≡ ends 24
recursion = refl

links_three_deep : does_with (x ∷ k ∷ []) (g ∷ []) sum_by_links 20 ≡ ends 16
links_three_deep = refl

-- Places that are read first and then assigned.

abbrev at_index : Exp → LValue
at_index e = Index (Simple (id x)) e

abbrev of_field : ℕ → LValue
of_field n = Field (Simple (id x)) (id n)

abbrev begins : Exp → LValue → Bool
begins e v = begins_with (findings [] []).meaning e v

begins_so :
    (begins (plus (plus (Read sp (at_index (plus (get i) (num 1)))) (num 2)) (get i)) (at_index (plus (get i) (num 1))) ≡ true)
    × (begins (plus (Read sp (of_field 20)) (num 1)) (of_field 20) ≡ true)
begins_so = (refl, refl)

-- another variable, sign, number or field, what is read second, and an index that does something
begins_otherwise :
    (begins (get i) (Simple (id x)) ≡ false)
    × (begins (Read sp (at_index (binary op.Minus (get i) (num 1)))) (at_index (plus (get i) (num 1))) ≡ false)
    × (begins (Read sp (at_index (num 2))) (at_index (num 1)) ≡ false)
    × (begins (Read sp (of_field 21)) (of_field 20) ≡ false)
    × (begins (plus (num 1) (get x)) (Simple (id x)) ≡ false)
    × (begins (Read sp (at_index (call f []))) (at_index (call f [])) ≡ false)
begins_otherwise = (refl, refl, refl, refl, refl, refl)

abbrev with_sevens : List Exp → List ℕ × Stop
with_sevens es = does (block (let_var x (Fill sp (id 0) (num 3) (num 7)) (let_var k (get x) (let_var i (num 1) no_decs))) es) 9

abbrev element_of_k : ℕ → Exp
element_of_k n = Read sp (Index (Simple (id k)) (num n))

-- let type t=array of int var x:=t[3] of 7 var k:=x var i:=1 in x[1]:=x[1]+x[0]*2; exit(k[1]) end
updated_element :
    with_sevens
    (Assign sp (at_index (num 1)) (plus (Read sp (at_index (num 1))) (binary op.Times (Read sp (at_index (num 0))) (num 2))) ∷ exit (element_of_k 1) ∷ []) ≡
    ends 21
updated_element = refl

-- x[i]:=x[i]-(x:=t[1] of 0; i:=0; 1): the place is found before
updated_before :
    with_sevens
    (Assign sp (at_index (get i))
    (binary op.Minus (Read sp (at_index (get i))) (seq (set x (Fill sp (id 0) (num 1) (num 0)) ∷ set i (num 0) ∷ num 1 ∷ []))) ∷ exit (element_of_k 1) ∷ []) ≡
    ends 6
updated_before = refl

-- x[i+2]:=x[i+2]+1 is outside, and x.a:=x.a+1 of nil
updated_outside : with_sevens (Assign sp (at_index (plus (get i) (num 2))) (plus (Read sp (at_index (plus (get i) (num 2)))) (num 1)) ∷ []) ≡ breaks 3
updated_outside = refl

updated_nil : does (block (let_var x (Nil sp) no_decs) (Assign sp (of_field 20) (plus (Read sp (of_field 20)) (num 1)) ∷ [])) 9 ≡ breaks 2
updated_nil = refl

-- let var x:=0 in while if x<5 then x<>3 else 0 do x:=x+1; exit(x) end
chosen_condition :
    does (block (let_var x (num 0) no_decs)
    (While sp (If sp (binary op.Less (get x) (num 5)) (binary op.NotEqual (get x) (num 3)) (num 0)) (set x (plus (get x) (num 1))) ∷ exit (get x) ∷ [])) 9 ≡
    ends 3
chosen_condition = refl

-- let function f(x:int):int = if x<2 then 1 else if x then (g(); x) else x<3 in f(4) end, where g has no meaning: each arm
-- returns, a choice in an arm from its own arms
abbrev arms_of_f : Exp
arms_of_f =
    If sp (binary op.Less (get x) (num 2)) (num 1) (If sp (get x) (seq (call 99 [] ∷ get x ∷ [])) (binary op.Less (get x) (num 3)))

abbrev body_of_f : Exp → List Ts
body_of_f e =
    let code =
    translated (findings [] [])
    (block (functions (function (id f) (params (x ∷ [])) (Some (id 0)) e no_functions) no_decs) (call f (num 4 ∷ []) ∷ [])) in
    map (λ g. g.body) (drop 1 code.functions)

arms_return :
    body_of_f arms_of_f ≡
    returning (Compare rel.Less (Temp 1) (Const 2)) (Return (Const 1))
    (returning (Compare rel.NotEqual (Temp 1) (Const 0)) (sequence (Do (Const 0) ∷ Return (Temp 1) ∷ []))
    (returning (Compare rel.Less (Temp 1) (Const 3)) (Return (Const 1)) (Return (Const 0)))) ∷ []
arms_return = refl

-- after a loop it returns at its end alone
abbrev looping : Exp → Exp
looping e = seq (While sp (num 0) (seq []) ∷ e ∷ [])

loops_return_once :
    body_of_f (looping (If sp (get x) (num 1) (num 2))) ≡
    Return (After (sequence (Loop (tree.If (Compare rel.NotEqual (Const 0) (Const 0)) (Do (Const 0)) (tree.Break 0)) ∷ []))
    (After (tree.If (Compare rel.NotEqual (Temp 1) (Const 0)) (Move 2 (Const 1)) (Move 2 (Const 2))) (Temp 2))) ∷ []
loops_return_once = refl

-- let type r={a:int} var x:r:=r{a=7} in exit(x.a) end: a record needs no function of the runtime but exit
records_stand_alone : space_for_record 0 ≡ Service 9 (Const 4)
records_stand_alone = refl

abbrev does_without_runtime : Exp → (fuel : ℕ) → List ℕ × Stop
does_without_runtime e fuel =
    let code = translated (findings [] []) e in
    seen (tree_run Trees (record { functions = code.functions; literals = code.literals }) (λ label. 64) (stack_top - 1024) 64 32 [] fuel)

made_without_runtime :
    does_without_runtime (block (let_var x (Make sp (id 0) (init (id 20) (num 7) no_inits)) no_decs)
    (binary op.Divide (num 1) (binary op.Minus (Read sp (Field (Simple (id x)) (id 20))) (num 7)) ∷ [])) 9 ≡ breaks 7
made_without_runtime = refl
