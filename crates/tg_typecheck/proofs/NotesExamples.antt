-- The notes of small programs, each computed by the definition itself. Above each stands the program's text.
use Rattle.std.proofs.Common.{◌≡◌, ℕ, List, [], ◌∷◌, Some, None, refl}
use Rattle.std.specs.Prelude.{codes, map}
use Prim.Native.String.{String}
use Rattle.tg_syntax.specs.declared.trees.Op.TheVariants as op
use Rattle.tg_syntax.specs.Tree.{Fields, Exp, Nil, Int, Text, Read, Call, Binary, Make, For, Let, Seq, Simple, Field, no_inits, init, no_decs, types}
use Rattle.tg_syntax.specs.Tree.{variable, functions, no_functions, function}
use Rattle.tg_semantics.specs.declared.standards.Standard.TheVariants as standard
use Rattle.tg_typecheck.specs.declared.notes.Note.{Note}
use Rattle.tg_typecheck.specs.declared.notes.Means.{Means}
use Rattle.tg_typecheck.specs.declared.notes.Means.TheVariants as m
use Rattle.tg_typecheck.specs.Checks.{◌>>=◌, give, refuse, note, shape_at, add_shape}
use Rattle.tg_typecheck.specs.Accepted.{Finding, accepted, finding}
use Rattle.tg_typecheck.proofs.TypingExamples.{s, i, p, t, exps}

abbrev at : ℕ → Means → Note
at byte means = record { at = byte; means = means }

-- what a program is found to be, whose identifiers are numbered by these names
abbrev found : List String → Exp → Finding
found names e = finding (map codes names) e

-- a name that is hidden, and a standard function: let var x:=1 var x:="" in size(x) end
hidden_variable : found ("x" ∷ "size" ∷ []) (Let (s 0 37) (variable (i 0 8 9) None (Int (s 11 12) 1) (variable (i 0 17 18) None (Text (s 20 22) (codes ""))
    no_decs)) (exps ((Call (s 26 33) (i 1 26 30) (exps ((Read (s 31 32) (Simple (i 0 31 32))) ∷ []))) ∷ []))) ≡ accepted (at 26 (m.Standard standard.Size)
    ∷ at 31 (m.Variable 17) ∷ [])
unfolding ◌>>=◌ give refuse note shape_at add_shape
hidden_variable = refl

-- a function that is hidden: let function f()=() in let function f()=f() in f() end end
hidden_function : found ("f" ∷ []) (Let (s 0 58) (functions (function (i 0 13 14) ([]) None (Seq (s 17 19) (exps ([]))) no_functions) no_decs) (exps ((Let
    (s 23 54) (functions (function (i 0 36 37) ([]) None (Call (s 40 43) (i 0 40 41) (exps ([]))) no_functions) no_decs) (exps ((Call (s 47 50) (i 0 47 48)
    (exps ([]))) ∷ []))) ∷ []))) ≡ accepted (at 40 (m.Function 36) ∷ at 47 (m.Function 36) ∷ [])
unfolding ◌>>=◌ give refuse note shape_at add_shape
hidden_function = refl

-- a field's place above 0: let type r={a:int,b:string} var v:=r{a=1,b=""} in v.b end
field_above_0 : found ("r" ∷ "a" ∷ "int" ∷ "b" ∷ "string" ∷ "v" ∷ []) (Let (s 0 57) (types (t (i 0 9 10) (Fields (p (i 1 12 13) (i 2 14 17) ∷ p (i 3 18 19)
    (i 4 20 26) ∷ [])) ∷ []) (variable (i 5 32 33) None (Make (s 35 46) (i 0 35 36) (init (i 1 37 38) (Int (s 39 40) 1) (init (i 3 41 42) (Text (s 43 45)
    (codes "")) no_inits))) no_decs)) (exps ((Read (s 50 53) (Field (Simple (i 5 50 51)) (i 3 52 53))) ∷ []))) ≡ accepted (at 50 (m.Variable 32) ∷ at 52
    (m.Field 1) ∷ [])
unfolding ◌>>=◌ give refuse note shape_at add_shape
field_above_0 = refl

-- the same field's name in another record: let type r={b:int} type q={a:int,b:r} var v:=q{a=1,b=r{b=2}} in v.b.b end
fields_of_two_records : found ("r" ∷ "b" ∷ "int" ∷ "q" ∷ "a" ∷ "v" ∷ []) (Let (s 0 73) (types (t (i 0 9 10) (Fields (p (i 1 12 13) (i 2 14 17) ∷ [])) ∷ t
    (i 3 24 25) (Fields (p (i 4 27 28) (i 2 29 32) ∷ p (i 1 33 34) (i 0 35 36) ∷ [])) ∷ []) (variable (i 5 42 43) None (Make (s 45 60) (i 3 45 46) (init (i
    4 47 48) (Int (s 49 50) 1) (init (i 1 51 52) (Make (s 53 59) (i 0 53 54) (init (i 1 55 56) (Int (s 57 58) 2) no_inits)) no_inits))) no_decs)) (exps
    ((Read (s 64 69) (Field (Field (Simple (i 5 64 65)) (i 1 66 67)) (i 1 68 69))) ∷ []))) ≡ accepted (at 64 (m.Variable 42) ∷ at 66 (m.Field 1) ∷ at 68
    (m.Field 0) ∷ [])
unfolding ◌>>=◌ give refuse note shape_at add_shape
fields_of_two_records = refl

-- strings that are compared: "a"<>"b"
strings : found ([]) (Binary (s 0 8) op.NotEqual 3 (Text (s 0 3) (codes "a")) (Text (s 5 8) (codes "b"))) ≡ accepted (at 3 m.Content ∷ [])
unfolding ◌>>=◌ give refuse note shape_at add_shape
strings = refl

-- ints that are compared: 1<2
ints : found ([]) (Binary (s 0 3) op.Less 1 (Int (s 0 1) 1) (Int (s 2 3) 2)) ≡ accepted (at 1 m.Number ∷ [])
unfolding ◌>>=◌ give refuse note shape_at add_shape
ints = refl

-- a record and nil that are compared: let type r={} var v:r:=nil in v=nil end
record_and_nil : found ("r" ∷ "v" ∷ []) (Let (s 0 39) (types (t (i 0 9 10) (Fields ([])) ∷ []) (variable (i 1 18 19) (Some (i 0 20 21)) (Nil (s 23 26))
    no_decs)) (exps ((Binary (s 30 35) op.Equal 31 (Read (s 30 31) (Simple (i 1 30 31))) (Nil (s 32 35))) ∷ []))) ≡ accepted (at 30 (m.Variable 18) ∷ at 31
    m.Number ∷ [])
unfolding ◌>>=◌ give refuse note shape_at add_shape
record_and_nil = refl

-- a parameter: let function f(n:int):int=n in f(1) end
parameter : found ("f" ∷ "n" ∷ "int" ∷ []) (Let (s 0 39) (functions (function (i 0 13 14) (p (i 1 15 16) (i 2 17 20) ∷ []) (Some (i 2 22 25)) (Read (s 26
    27) (Simple (i 1 26 27))) no_functions) no_decs) (exps ((Call (s 31 35) (i 0 31 32) (exps ((Int (s 33 34) 1) ∷ []))) ∷ []))) ≡ accepted (at 26
    (m.Variable 15) ∷ at 31 (m.Function 13) ∷ [])
unfolding ◌>>=◌ give refuse note shape_at add_shape
parameter = refl

-- a loop's variable: for i:=0 to 1 do exit(i)
loop_variable : found ("i" ∷ "exit" ∷ []) (For (s 0 24) (i 0 4 5) (Int (s 7 8) 0) (Int (s 12 13) 1) (Call (s 17 24) (i 1 17 21) (exps ((Read (s 22 23)
    (Simple (i 0 22 23))) ∷ [])))) ≡ accepted (at 17 (m.Standard standard.Exit) ∷ at 22 (m.Variable 4) ∷ [])
unfolding ◌>>=◌ give refuse note shape_at add_shape
loop_variable = refl

-- operators that don't compare: 1+2*3-4/5&6|7
no_comparison : found ([]) (Binary (s 0 13) op.Or 11 (Binary (s 0 11) op.And 9 (Binary (s 0 9) op.Minus 5 (Binary (s 0 5) op.Plus 1 (Int (s 0 1) 1) (Binary
    (s 2 5) op.Times 3 (Int (s 2 3) 2) (Int (s 4 5) 3))) (Binary (s 6 9) op.Divide 7 (Int (s 6 7) 4) (Int (s 8 9) 5))) (Int (s 10 11) 6)) (Int (s 12 13)
    7)) ≡ accepted ([])
unfolding ◌>>=◌ give refuse note shape_at add_shape
no_comparison = refl
