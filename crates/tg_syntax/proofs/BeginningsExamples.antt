-- Beginnings and names of small texts, by the definitions.
use Rattle.std.proofs.Common.{ℕ, ◌≡◌, [], ◌∷◌, Some, refl}
use Rattle.tg_base.specs.declared.ids.Span.{Span}
use Rattle.tg_syntax.specs.declared.tokens.Ident.{Ident}
use Rattle.tg_syntax.specs.declared.trees.Param.{Param}
use Rattle.tg_syntax.specs.declared.trees.Op.TheVariants as op
use Rattle.tg_syntax.specs.Tree.{Form, Exp, Int, Read, Call, Binary, Make, Assign, Let, Simple, Field, no_exps, exp, no_inits, init, no_decs, types}
use Rattle.tg_syntax.specs.Tree.{variable, functions, no_functions, function}
use Rattle.tg_syntax.specs.Beginnings.{beginnings}

abbrev s : (from to : ℕ) → Span
s from to = record { from = from; to = to }

abbrev i : (name from to : ℕ) → Ident
i name from to = record { name = record { 0 = name }; span = s from to }

abbrev p : Ident → Ident → Param
p x k = record { name = x; kind = k }

-- a+f(a)
sum : Exp
sum = Binary (s 0 6) op.Plus 1 (Read (s 0 1) (Simple (i 0 0 1))) (Call (s 2 6) (i 1 2 3) (exp (Read (s 4 5) (Simple (i 0 4 5))) no_exps))

beginnings_of_sum : beginnings sum [] ≡ 4 ∷ 2 ∷ 1 ∷ 0 ∷ []
unfolding sum
beginnings_of_sum = refl

-- let type r={n:int} var a:r:=r{n=1} function f(x:int):int=x+a.n in a.n:=f(2) end
program : Exp
program =
    Let (s 0 79)
    (types (record { name = i 0 9 10; form = Form.Fields (p (i 1 12 13) (i 2 14 17) ∷ []) } ∷ [])
    (variable (i 3 23 24) (Some (i 0 25 26)) (Make (s 28 34) (i 0 28 29) (init (i 1 30 31) (Int (s 32 33) 1) no_inits))
    (functions (function (i 4 44 45) (p (i 5 46 47) (i 2 48 51) ∷ []) (Some (i 2 53 56))
    (Binary (s 57 62) op.Plus 58 (Read (s 57 58) (Simple (i 5 57 58))) (Read (s 59 62) (Field (Simple (i 3 59 60)) (i 1 61 62)))) no_functions)
    no_decs)))
    (exp (Assign (s 66 75) (Field (Simple (i 3 66 67)) (i 1 68 69)) (Call (s 71 75) (i 4 71 72) (exp (Int (s 73 74) 2) no_exps))) no_exps)

beginnings_of_program :
    beginnings program [] ≡
    71 ∷ 68 ∷ 66 ∷ 61 ∷ 59 ∷ 58 ∷ 57 ∷ 53 ∷ 48 ∷ 46 ∷ 44 ∷ 30 ∷ 28 ∷ 25 ∷ 23 ∷ 14 ∷ 12 ∷ 9 ∷ []
unfolding program
beginnings_of_program = refl
