-- Examples of the functions of a program and their measures, by the definitions.
use Rattle.std.proofs.Common.{ℕ, ◌≡◌, List, [], ◌∷◌, Some, None, refl}
use Rattle.std.specs.Prelude.{codes, map}
use Rattle.std.specs.Str.{bytes_eq}
use Rattle.std.specs.List.{position_or_len}
use Prim.Native.String.{String}
use Rattle.tg_base.specs.declared.ids.Span.{Span}
use Rattle.tg_syntax.specs.declared.tokens.Ident.{Ident}
use Rattle.tg_syntax.specs.declared.trees.Param.{Param}
use Rattle.tg_syntax.specs.declared.trees.Op.TheVariants as op
use Rattle.tg_syntax.specs.Tree as tree
use Rattle.tg_syntax.specs.Tree.{Exp, LValue, Exps, no_exps, exp, no_inits, init, Decs, no_decs, FunDecs, no_functions}
use Rattle.tg_syntax.specs.Functions.{Measures, program_functions, program_size}

abbrev names : List (List ℕ)
names = map codes ("print" ∷ "exit" ∷ "int" ∷ "a" ∷ "b" ∷ "c" ∷ "i" ∷ "k" ∷ "n" ∷ "r" ∷ "v" ∷ [])

-- a name, which begins at a byte
abbrev id : String → (at : ℕ) → Ident
id text at = record { name = record { 0 = position_or_len (bytes_eq (codes text)) names }; span = record { from = at; to = at } }

-- trees, where no byte counts but those of the functions' names
abbrev here : Span
here = record { from = 0; to = 0 }

abbrev exps : List Exp → Exps
exps [] = no_exps
exps (e ∷ es) = exp e (exps es)

abbrev num : ℕ → Exp
num n = tree.Int here n

abbrev simple : String → LValue
simple x = tree.Simple (id x 0)

abbrev var : String → Exp
var x = tree.Read here (simple x)

abbrev call : String → List Exp → Exp
call f args = tree.Call here (id f 0) (exps args)

abbrev plus : Exp → Exp → Exp
plus l r = tree.Binary here op.Plus 0 l r

abbrev set : String → Exp → Exp
set x e = tree.Assign here (simple x) e

abbrev block : Decs → List Exp → Exp
block ds es = tree.Let here ds (exps es)

abbrev let_var : String → Exp → Decs → Decs
let_var x e rest = tree.variable (id x 0) None e rest

abbrev int_params : List String → List Param
int_params xs = map (λ x. record { name = id x 0; kind = id "int" 0 }) xs

abbrev fun : String → (at : ℕ) → List String → Exp → FunDecs → FunDecs
fun f at params body rest = tree.function (id f at) (int_params params) None body rest

abbrev group : FunDecs → Decs → Decs
group fs rest = tree.functions fs rest

abbrev of : (at level size nodes hops : ℕ) → Measures
of at level size nodes hops = record { at = at; level = level; size = size; nodes = nodes; hops = hops }

-- let function a(n:int):int = let var v:=n function b(k:int) = let function c() = v:=v+k in c(); if k>1 then b(k-1) end
-- in b(3); v end in exit(a(10)) end: a call of its own group's function crosses a level from within that function, and c's
-- v crosses two, and k one
abbrev nested : Exp
nested =
    block (group (fun "a" 13 ("n" ∷ []) (
    block (let_var "v" (var "n") (group (fun "b" 50 ("k" ∷ []) (
    block (group (fun "c" 74 [] (set "v" (plus (var "v") (var "k"))) no_functions) no_decs)
    (call "c" [] ∷ tree.When here (tree.Binary here op.Greater 0 (var "k") (num 1)) (call "b" (tree.Binary here op.Minus 0 (var "k") (num 1) ∷ [])) ∷ [])
    ) no_functions) no_decs))
    (call "b" (num 3 ∷ []) ∷ var "v" ∷ [])
    ) no_functions) no_decs)
    (call "exit" (call "a" (num 10 ∷ []) ∷ []) ∷ [])

nested_functions : program_functions nested ≡ of 0 0 6 6 0 ∷ of 13 1 10 11 0 ∷ of 50 2 13 14 1 ∷ of 74 3 7 7 5 ∷ []
nested_functions = refl

nested_size : program_size nested ≡ 36
nested_size = refl

-- let var v:=1 function a(n:int) = BODY in end: the body's measures
abbrev body_of_a : Exp → List Measures
body_of_a body = program_functions (block (let_var "v" (num 1) (group (fun "a" 9 ("n" ∷ []) body no_functions) no_decs)) [])

-- (v; n; let var k:=2 in k end; print(); a()): a use of the program's v crosses a level and so does the call of a; a use of a
-- parameter, of a variable of its own and a call of a standard function cross none
uses : body_of_a (tree.Seq here (exps (var "v" ∷ var "n" ∷ block (let_var "k" (num 2) no_decs) (var "k" ∷ []) ∷ call "print" [] ∷ call "a" [] ∷ []))) ≡
    of 0 0 5 5 0 ∷ of 9 1 12 13 2 ∷ []
uses = refl

-- (let var v:=v in v end; v): what is hidden crosses nothing, before and after it the program's v does
hidden_by_a_variable : body_of_a (tree.Seq here (exps (block (let_var "v" (var "v") no_decs) (var "v" ∷ []) ∷ var "v" ∷ []))) ≡
    of 0 0 5 5 0 ∷ of 9 1 9 10 2 ∷ []
hidden_by_a_variable = refl

-- for v:=v to v do v: the bounds see the program's
hidden_in_a_loop : body_of_a (tree.For here (id "v" 0) (var "v") (var "v") (var "v")) ≡ of 0 0 5 5 0 ∷ of 9 1 7 8 2 ∷ []
hidden_in_a_loop = refl

-- let function print() = () function b() = (print(); b(); v; n) in print(); b() end: of a group each function sees all, and
-- hides a standard one; both are called across a level from within it, and across none after it
a_group :
    body_of_a (block (group
    (fun "print" 20 [] (tree.Seq here no_exps) (fun "b" 30 [] (tree.Seq here (exps (call "print" [] ∷ call "b" [] ∷ var "v" ∷ var "n" ∷ []))) no_functions))
    no_decs) (call "print" [] ∷ call "b" [] ∷ [])) ≡
    of 0 0 5 5 0 ∷ of 9 1 5 6 0 ∷ of 20 2 1 1 0 ∷ of 30 2 7 7 5 ∷ []
a_group = refl

-- let function b(v:int, k:int) = v in end: a parameter hides, each counts one of b's nodes and one of a's
hidden_by_a_parameter : body_of_a (block (group (fun "b" 20 ("v" ∷ "k" ∷ []) (var "v") no_functions) no_decs) []) ≡
    of 0 0 5 5 0 ∷ of 9 1 4 5 0 ∷ of 20 2 2 4 0 ∷ []
hidden_by_a_parameter = refl

-- v[v].v := v {v=v} of v, in one: places cross where their variable does; names of fields and types aren't uses
places_and_types :
    body_of_a (tree.Assign here (tree.Field (tree.Index (simple "v") (var "v")) (id "v" 0))
    (tree.Fill here (id "v" 0) (tree.Make here (id "v" 0) (init (id "v" 0) (var "v") no_inits)) (tree.Neg here (var "v")))) ≡
    of 0 0 5 5 0 ∷ of 9 1 14 15 4 ∷ []
places_and_types = refl

-- functions in each place of a text come in the order of the text: (c() as the test; a record's field; an index; both arms)
abbrev one : (at : ℕ) → Exp
one at = block (group (fun "c" at [] (num 0) no_functions) no_decs) []

abbrev starts : List Measures → List ℕ
starts fs = map (λ f. f.at) fs

in_order_of_the_text :
    starts (program_functions (tree.Seq here (exps (
    tree.If here (one 1) (one 2) (one 3) ∷ tree.When here (one 4) (one 5) ∷ tree.While here (one 6) (one 7) ∷
    tree.For here (id "i" 0) (one 8) (one 9) (one 10) ∷
    tree.Assign here (tree.Index (tree.Index (simple "v") (one 11)) (one 12)) (one 13) ∷ tree.Fill here (id "r" 0) (one 14) (one 15) ∷
    tree.Make here (id "r" 0) (init (id "a" 0) (one 16) (init (id "b" 0) (one 17) no_inits)) ∷ plus (one 18) (one 19) ∷
    tree.Neg here (one 20) ∷ call "a" (one 21 ∷ one 22 ∷ []) ∷
    block (let_var "k" (one 23) (group (fun "a" 24 [] (one 25) (fun "b" 26 [] (one 27) no_functions)) no_decs)) (one 28 ∷ one 29 ∷ []) ∷ [])))) ≡
    0 ∷ 1 ∷ 2 ∷ 3 ∷ 4 ∷ 5 ∷ 6 ∷ 7 ∷ 8 ∷ 9 ∷ 10 ∷ 11 ∷ 12 ∷ 13 ∷ 14 ∷ 15 ∷ 16 ∷ 17 ∷ 18 ∷ 19 ∷ 20 ∷ 21 ∷ 22 ∷ 23 ∷ 24 ∷ 25 ∷ 26 ∷ 27 ∷ 28 ∷ 29 ∷ []
in_order_of_the_text = refl
