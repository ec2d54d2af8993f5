-- Computed examples of cost and weight. Above each stands the program's text. The numbers are those of an evaluator that was written apart
-- from the definition, and each rule of cost and weight, turned, fails in one of them.
use Rattle.std.proofs.Common.{◌≡◌, ℕ, [], ◌∷◌, Some, None, refl, pred}
use Rattle.tg_syntax.specs.Tree as tree
use Rattle.tg_syntax.specs.Tree.{Exp, Decs, no_decs}
use Rattle.tg_semantics.specs.Direct.{evaluate}
use Rattle.tg_semantics.proofs.Trees.{id, param, num, text, simple, index, read, var, call, ◌-'◌, ◌='◌, ◌<'◌, ◌>'◌, set, when, for, seq, array, make, fun}
use Rattle.tg_semantics.proofs.Trees.{let_var, block, names}

-- what a program costs, on the input A, with fuel enough
abbrev costs : Exp → ℕ
costs e = (evaluate names e (65 ∷ []) 16777216 67108864 9).cost

-- whether this is the least stack that holds all that is open at once
abbrev Holds : ℕ → Exp → Type 0
Holds stack e =
    ((evaluate names e (65 ∷ []) 16777216 stack 9).output_past_limit ≡ None) ×
    ((evaluate names e (65 ∷ []) 16777216 (pred stack) 9).output_past_limit ≡ Some [])

-- let var v:=1 function f() = v:=2 in f() end: a level is crossed at the use of v
abbrev outer_variable : Exp
outer_variable = block (let_var "v" (num 1) (fun "f" [] (set (simple "v") (num 2)) no_decs)) (call "f" [] ∷ [])

level_at_a_variable : (costs outer_variable ≡ 9) × Holds 4160 outer_variable
level_at_a_variable = (refl, (refl, refl))

-- the same from a function in f: two levels
abbrev far_variable : Exp
far_variable =
    block (let_var "v" (num 1) (fun "f" [] (block (fun "g" [] (set (simple "v") (num 2)) no_decs) (call "g" [] ∷ [])) no_decs)) (call "f" [] ∷ [])

levels_at_a_variable : (costs far_variable ≡ 13) × Holds 6016 far_variable
levels_at_a_variable = (refl, (refl, refl))

-- let function f(n:int) = if n>0 then f(n-1) in f(1) end: a level is crossed where f calls itself, and each n is bound
abbrev calls_itself : Exp
calls_itself = block (fun "f" ("n" ∷ []) (when (var "n" >' num 0) (call "f" (var "n" -' num 1 ∷ []))) no_decs) (call "f" (num 1 ∷ []) ∷ [])

level_at_a_call : (costs calls_itself ≡ 22) × Holds 10112 calls_itself
level_at_a_call = (refl, (refl, refl))

-- let var v:=0 var n:=0 var i:=0 function g()=() var a:=0 function f(n:int) = for i:=v to n do let var a:=i var b:=a
-- function g()=() in a:=b; g() end in f(1) end: names of its own cross no level, where they hide outer ones too
abbrev own_names : Exp
own_names =
    block (let_var "v" (num 0) (let_var "n" (num 0) (let_var "i" (num 0) (fun "g" [] (seq []) (let_var "a" (num 0)
    (fun "f" ("n" ∷ [])
    (for "i" (var "v") (var "n")
    (block (let_var "a" (var "i") (let_var "b" (var "a") (fun "g" [] (seq []) no_decs))) (set (simple "a") (var "b") ∷ call "g" [] ∷ [])))
    no_decs))))))
    (call "f" (num 1 ∷ []) ∷ [])

no_level_at_own_names : (costs own_names ≡ 48) × Holds 11840 own_names
no_level_at_own_names = (refl, (refl, refl))

-- "ab"<"cde", "a"="b", and 1=2: strings alone are compared by the runtime
strings_compared : (costs (text "ab" <' text "cde") ≡ 8) × Holds 5888 (text "a" =' text "b") × (costs (num 1 =' num 2) ≡ 3) × Holds 1792 (num 1 =' num 2)
strings_compared = (refl, (refl, refl), refl, (refl, refl))

-- print(concat("ab","c")), print(substring("tiger",1,3)), size("abc"), ord("abc"), print(chr(65)), print(getchar()), not(0), flush()
standards_cost :
    (costs (call "print" (call "concat" (text "ab" ∷ text "c" ∷ []) ∷ [])) ≡ 13) ×
    (costs (call "print" (call "substring" (text "tiger" ∷ num 1 ∷ num 3 ∷ []) ∷ [])) ≡ 16) ×
    (costs (call "size" (text "abc" ∷ [])) ≡ 5) × (costs (call "ord" (text "abc" ∷ [])) ≡ 5) ×
    (costs (call "print" (call "chr" (num 65 ∷ []) ∷ [])) ≡ 5) × (costs (call "print" (call "getchar" [] ∷ [])) ≡ 4) ×
    (costs (call "not" (num 0 ∷ [])) ≡ 2) × (costs (call "flush" []) ≡ 1)
standards_cost = (refl, refl, refl, refl, refl, refl, refl, refl)

flush_is_a_call : Holds 5376 (call "flush" [])
flush_is_a_call = (refl, refl)

-- let type t=array of int type r={x:int} var a:=0 function f()=() function g()=() in end: each declaration costs 1
abbrev two_types : Decs → Decs
two_types rest = tree.types (record { name = id "t"; form = tree.Array (id "int") } ∷ record { name = id "r"; form = tree.Fields (param "x" ∷ []) } ∷ []) rest

abbrev two_functions : Decs
two_functions = tree.functions (tree.function (id "f") [] None (seq []) (tree.function (id "g") [] None (seq []) tree.no_functions)) no_decs

declarations : (costs (block (two_types (let_var "a" (num 0) two_functions)) []) ≡ 7) × Holds 3584 (block (two_types (let_var "a" (num 0) two_functions)) [])
declarations = (refl, (refl, refl))

-- let var a:=t[5] of 0 var i:=a[1] in end, and let var a:=r{x=1} in end: each creation is a call of the runtime
creations : (costs (block (let_var "a" (array (num 5) (num 0)) (let_var "i" (read (index (simple "a") (num 1))) no_decs)) []) ≡ 15) ×
    Holds 6400 (block (let_var "a" (array (num 1) (num 0)) no_decs) []) × Holds 6400 (block (let_var "a" (make (("x", num 1) ∷ [])) no_decs) [])
creations = (refl, (refl, refl), (refl, refl))

-- let function f(n:int):int = f(exit(n)) in f(1) end: the level out to f is paid before its argument, which ends the program
abbrev exits_in_argument : Exp
exits_in_argument = block (fun "f" ("n" ∷ []) (call "f" (call "exit" (var "n" ∷ []) ∷ [])) no_decs) (call "f" (num 1 ∷ []) ∷ [])

levels_before_arguments : costs exits_in_argument ≡ 10
levels_before_arguments = refl
