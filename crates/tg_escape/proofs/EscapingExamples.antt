-- What escapes in small programs, and through which links their nested functions go, computed by the definitions themselves. Above each stands the
-- program's text.
use Rattle.std.proofs.Common.{◌≡◌, ℕ, List, [], ◌∷◌, None, refl}
use Rattle.tg_base.specs.declared.ids.Span.{Span}
use Rattle.tg_syntax.specs.declared.tokens.Ident.{Ident}
use Rattle.tg_syntax.specs.declared.trees.Param.{Param}
use Rattle.tg_syntax.specs.declared.trees.Op.TheVariants.{Plus, Minus, Greater}
use Rattle.tg_syntax.specs.Tree.{Exp, Int, Read, Call, Binary, Assign, When, For, Let, Seq, Simple, Exps, no_exps, exp, Decs, no_decs, variable}
use Rattle.tg_syntax.specs.Tree.{functions, FunDecs, no_functions, function}
use Rattle.tg_escape.specs.Escaping.{escapes_of}
use Rattle.tg_escape.specs.Links.{links_of}

-- an identifier by its number and its first byte; spans of expressions aren't looked at
abbrev i : (name at : ℕ) → Ident
i name at = record { name = record { 0 = name }; span = record { from = at; to = at } }

abbrev here : Span
here = record { from = 0; to = 0 }

abbrev param : Ident → Param
param x = record { name = x; kind = i 0 0 }

abbrev exps : List Exp → Exps
exps [] = no_exps
exps (e ∷ es) = exp e (exps es)

abbrev num : ℕ → Exp
num n = Int here n

abbrev read : (name : ℕ) → Exp
read x = Read here (Simple (i x 0))

abbrev call : (name : ℕ) → List Exp → Exp
call f es = Call here (i f 0) (exps es)

abbrev set : (name : ℕ) → Exp → Exp
set x e = Assign here (Simple (i x 0)) e

abbrev block : Decs → List Exp → Exp
block ds es = Let here ds (exps es)

abbrev fun : Ident → List Param → Exp → FunDecs → FunDecs
fun f ps e rest = function f ps None e rest

abbrev var : Ident → Exp → Decs → Decs
var x e rest = variable x None e rest

abbrev seq : List Exp → Exp
seq es = Seq here (exps es)

-- let function a(n:int):int = let var v:=n function b(k:int) = let function c() = v:=v+k in c(); if k>1 then b(k-1) end
-- in b(3); v end in exit(a(10)) end
three_levels : escapes_of
    (block (functions (fun (i 0 13) (param (i 1 15) ∷ [])
    (block (var (i 3 36) (read 1)
    (functions (fun (i 4 50) (param (i 5 52) ∷ [])
    (block (functions (fun (i 6 74) [] (set 3 (Binary here Plus 0 (read 3) (read 5))) no_functions) no_decs)
    (call 6 [] ∷ When here (Binary here Greater 0 (read 5) (num 1)) (call 4 (Binary here Minus 0 (read 5) (num 1) ∷ [])) ∷ [])) no_functions) no_decs))
    (call 4 (num 3 ∷ []) ∷ read 3 ∷ [])) no_functions) no_decs) (call 7 (call 0 (num 10 ∷ []) ∷ []) ∷ [])) ≡ 36 ∷ 36 ∷ 52 ∷ []
three_levels = refl

-- let var x:=1 in x end
used_in_its_own_function : escapes_of (block (var (i 0 8) (num 1) no_decs) (read 0 ∷ [])) ≡ []
used_in_its_own_function = refl

-- let var x:=1 function f():int=let var x:=2 in x end in f() end
hidden_by_an_inner_one : escapes_of (block (var (i 0 8) (num 1)
    (functions (fun (i 1 22) [] (block (var (i 0 38) (num 2) no_decs) (read 0 ∷ [])) no_functions) no_decs)) (call 1 [] ∷ [])) ≡ []
hidden_by_an_inner_one = refl

-- for j:=0 to 9 do let function f():int=j in f() end
a_loops_variable : escapes_of (For here (i 0 4) (num 0) (num 9) (block (functions (fun (i 1 30) [] (read 0) no_functions) no_decs) (call 1 [] ∷ []))) ≡ 4 ∷ []
a_loops_variable = refl

-- let var x:=1 function x():int=3 function g():int=x() in g() end, where the function hides the variable
hidden_by_a_function : escapes_of (block (var (i 0 8) (num 1) (functions (fun (i 0 22) [] (num 3) (fun (i 1 41) [] (call 0 []) no_functions)) no_decs))
    (call 1 [] ∷ [])) ≡ []
hidden_by_a_function = refl

-- let function a(n:int):int = let var v:=n function b(k:int) = let function c() = v:=v+k in c(); if k>1 then b(k-1) end
-- in b(3); v end in exit(a(10)) end, where c goes to a through the link of b
through_the_next_outer_function :
    links_of (block (functions
    (fun (i 0 13) (param (i 1 15) ∷ [])
    (block (var (i 3 36) (read 1)
    (functions (fun (i 4 50) (param (i 5 52) ∷ [])
    (block (functions (fun (i 6 74) [] (set 3 (Binary here Plus 0 (read 3) (read 5))) no_functions) no_decs)
    (call 6 [] ∷ When here (Binary here Greater 0 (read 5) (num 1)) (call 4 (Binary here Minus 0 (read 5) (num 1) ∷ [])) ∷ [])) no_functions) no_decs))
    (call 4 (num 3 ∷ []) ∷ read 3 ∷ [])) no_functions) no_decs) (call 7 (call 0 (num 10 ∷ []) ∷ []) ∷ [])) ≡ 50 ∷ 50 ∷ []
through_the_next_outer_function = refl

-- let var x:=1 function f()=let function g()=let function h()=x:=2 in h() end in g() end in f() end
through_two_functions :
    links_of (block (var (i 0 8) (num 1)
    (functions (fun (i 1 22) []
    (block (functions (fun (i 2 39) [] (block (functions (fun (i 3 56) [] (set 0 (num 2)) no_functions) no_decs) (call 3 [] ∷ [])) no_functions) no_decs)
    (call 2 [] ∷ [])) no_functions) no_decs)) (call 1 [] ∷ [])) ≡ 22 ∷ 39 ∷ []
through_two_functions = refl

-- let function f()=let function g()=f() in g() end in f() end, where the inner call of f needs the frame around f
a_call_of_an_outer_function :
    links_of (block (functions (fun (i 0 13) [] (block (functions (fun (i 1 30) [] (call 0 []) no_functions) no_decs) (call 1 [] ∷ [])) no_functions) no_decs)
    (call 0 [] ∷ [])) ≡ 13 ∷ []
a_call_of_an_outer_function = refl

-- let function f()=let function g()=g() in g() end in f() end, where each call is of a function of the caller or of the next outer one
own_links_alone : links_of
    (block (functions (fun (i 0 13) [] (block (functions (fun (i 1 30) [] (call 1 []) no_functions) no_decs) (call 1 [] ∷ [])) no_functions) no_decs)
    (call 0 [] ∷ [])) ≡ []
own_links_alone = refl
