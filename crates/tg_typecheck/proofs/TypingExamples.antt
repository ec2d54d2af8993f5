-- Small programs and their first faults, each computed by the definition itself. Above each stands the program's text.
use Rattle.std.proofs.Common.{◌≡◌, ℕ, zero, suc, ◌+◌, List, [], ◌∷◌, Option, Some, None, refl}
use Rattle.std.specs.Prelude.{codes, map}
use Prim.Native.String.{String}
use Rattle.tg_base.specs.declared.ids.Span.{Span}
use Rattle.tg_syntax.specs.declared.tokens.Ident.{Ident}
use Rattle.tg_syntax.specs.declared.trees.Param.{Param}
use Rattle.tg_syntax.specs.declared.trees.Op.TheVariants as op
use Rattle.tg_syntax.specs.Tree.{Form, Alias, Fields, Array, TypeDec, Exp, Nil, Break, Int, Text, Read, Call, Neg, Binary, Make, Fill, Assign, If}
use Rattle.tg_syntax.specs.Tree.{When, While, For, Let, Seq, Simple, Field, Index, Exps, no_exps, exp, no_inits, init, no_decs, types, variable}
use Rattle.tg_syntax.specs.Tree.{functions, no_functions, function}
use Rattle.tg_typecheck.specs.declared.faults.TypeRule.{TypeRule}
use Rattle.tg_typecheck.specs.declared.faults.TypeRule.TheVariants.{T20, T1, T2, T3, T4, T5, T6, T7, T8, T9, T10, T11, T12, T13, T14, T15, T16, T17, T18, T19}
use Rattle.tg_typecheck.specs.Checks.{◌>>=◌, give, refuse, note, shape_at, add_shape}
use Rattle.tg_typecheck.specs.Accepted.{Finding, accepted, at_fault, finding}

-- a span, an identifier by its number and its span, a parameter, a type's declaration
abbrev pub s : (from to : ℕ) → Span
s from to = record { from = from; to = to }

abbrev pub i : (name from to : ℕ) → Ident
i name from to = record { name = record { 0 = name }; span = s from to }

abbrev pub p : Ident → Ident → Param
p x k = record { name = x; kind = k }

abbrev pub t : Ident → Form → TypeDec
t x f = record { name = x; form = f }

abbrev pub exps : List Exp → Exps
exps [] = no_exps
exps (e ∷ es) = exp e (exps es)

abbrev fault_of : Finding → Option (TypeRule × ℕ)
fault_of (accepted notes) = None
fault_of (at_fault rule at) = Some (rule, at)

-- the first fault of a program, whose identifiers are numbered by these names
abbrev verdict : List String → Exp → Option (TypeRule × ℕ)
verdict names e = fault_of (finding (map codes names) e)

-- let type a={x:int} type b={x:int} var p:a:=nil var q:b:=nil in p:=q end
example_1 : verdict ("a" ∷ "x" ∷ "int" ∷ "b" ∷ "p" ∷ "q" ∷ [])
    (Let (s 0 71) (types (t (i 0 9 10) (Fields (p (i 1 12 13) (i 2 14 17) ∷ [])) ∷ t (i 3 24 25) (Fields (p (i 1 27 28) (i 2 29 32) ∷ [])) ∷ [])
    (variable (i 4 38 39) (Some (i 0 40 41)) (Nil (s 43 46)) (variable (i 5 51 52) (Some (i 3 53 54)) (Nil (s 56 59)) no_decs)))
    (exps ((Assign (s 63 67) (Simple (i 4 63 64)) (Read (s 66 67) (Simple (i 5 66 67)))) ∷ []))) ≡ Some (T6, 66)
unfolding ◌>>=◌ give refuse note shape_at add_shape
example_1 = refl

-- let type a={x:int} type b=a var p:a:=nil var q:b:=nil in p:=q end
example_2 : verdict ("a" ∷ "x" ∷ "int" ∷ "b" ∷ "p" ∷ "q" ∷ [])
    (Let (s 0 65) (types (t (i 0 9 10) (Fields (p (i 1 12 13) (i 2 14 17) ∷ [])) ∷ t (i 3 24 25) (Alias (i 0 26 27)) ∷ [])
    (variable (i 4 32 33) (Some (i 0 34 35)) (Nil (s 37 40)) (variable (i 5 45 46) (Some (i 3 47 48)) (Nil (s 50 53)) no_decs)))
    (exps ((Assign (s 57 61) (Simple (i 4 57 58)) (Read (s 60 61) (Simple (i 5 60 61)))) ∷ []))) ≡ None
unfolding ◌>>=◌ give refuse note shape_at add_shape
example_2 = refl

-- let type a=b type b=a in end
example_3 : verdict ("a" ∷ "b" ∷ []) (Let (s 0 28) (types (t (i 0 9 10) (Alias (i 1 11 12)) ∷ t (i 1 18 19) (Alias (i 0 20 21)) ∷ []) no_decs) (exps ([])))
    ≡ Some (T19, 9)
unfolding ◌>>=◌ give refuse note shape_at add_shape
example_3 = refl

-- let type a=b type b=int var x:a:=1 in x end
example_4 : verdict ("a" ∷ "b" ∷ "int" ∷ "x" ∷ []) (Let (s 0 43)
    (types (t (i 0 9 10) (Alias (i 1 11 12)) ∷ t (i 1 18 19) (Alias (i 2 20 23)) ∷ []) (variable (i 3 28 29) (Some (i 0 30 31)) (Int (s 33 34) 1) no_decs))
    (exps ((Read (s 38 39) (Simple (i 3 38 39))) ∷ []))) ≡ None
unfolding ◌>>=◌ give refuse note shape_at add_shape
example_4 = refl

-- let type a={n:b} type b=array of a in end
example_5 : verdict ("a" ∷ "n" ∷ "b" ∷ []) (Let (s 0 41)
    (types (t (i 0 9 10) (Fields (p (i 1 12 13) (i 2 14 15) ∷ [])) ∷ t (i 2 22 23) (Array (i 0 33 34)) ∷ []) no_decs) (exps ([]))) ≡ None
unfolding ◌>>=◌ give refuse note shape_at add_shape
example_5 = refl

-- for i:=0 to 1 do i:=2
example_6 : verdict ("i" ∷ []) (For (s 0 21) (i 0 4 5) (Int (s 7 8) 0) (Int (s 12 13) 1) (Assign (s 17 21) (Simple (i 0 17 18)) (Int (s 20 21) 2))) ≡ Some
    (T15, 17)
unfolding ◌>>=◌ give refuse note shape_at add_shape
example_6 = refl

-- for i:=0 to 1 do let function f()=i:=2 in f() end
example_7 : verdict ("i" ∷ "f" ∷ []) (For (s 0 49) (i 0 4 5) (Int (s 7 8) 0) (Int (s 12 13) 1)
    (Let (s 17 49) (functions (function (i 1 30 31) ([]) None (Assign (s 34 38) (Simple (i 0 34 35)) (Int (s 37 38) 2)) no_functions) no_decs)
    (exps ((Call (s 42 45) (i 1 42 43) (exps ([]))) ∷ [])))) ≡ Some (T15, 34)
unfolding ◌>>=◌ give refuse note shape_at add_shape
example_7 = refl

-- for i:=0 to 1 do let var i:=0 in i:=2 end
example_8 : verdict ("i" ∷ []) (For (s 0 41) (i 0 4 5) (Int (s 7 8) 0) (Int (s 12 13) 1)
    (Let (s 17 41) (variable (i 0 25 26) None (Int (s 28 29) 0) no_decs) (exps ((Assign (s 33 37) (Simple (i 0 33 34)) (Int (s 36 37) 2)) ∷ [])))) ≡ None
unfolding ◌>>=◌ give refuse note shape_at add_shape
example_8 = refl

-- print(1)
example_9 : verdict ("print" ∷ []) (Call (s 0 8) (i 0 0 5) (exps ((Int (s 6 7) 1) ∷ []))) ≡ Some (T6, 6)
unfolding ◌>>=◌ give refuse note shape_at add_shape
example_9 = refl

-- print("1")
example_10 : verdict ("print" ∷ []) (Call (s 0 10) (i 0 0 5) (exps ((Text (s 6 9) (codes "1")) ∷ []))) ≡ None
unfolding ◌>>=◌ give refuse note shape_at add_shape
example_10 = refl

-- size()
example_11 : verdict ("size" ∷ []) (Call (s 0 6) (i 0 0 4) (exps ([]))) ≡ Some (T10, 0)
unfolding ◌>>=◌ give refuse note shape_at add_shape
example_11 = refl

-- size("","")
example_12 : verdict ("size" ∷ []) (Call (s 0 11) (i 0 0 4) (exps ((Text (s 5 7) (codes "")) ∷ (Text (s 8 10) (codes "")) ∷ []))) ≡ Some (T10, 0)
unfolding ◌>>=◌ give refuse note shape_at add_shape
example_12 = refl

-- size("")
example_13 : verdict ("size" ∷ []) (Call (s 0 8) (i 0 0 4) (exps ((Text (s 5 7) (codes "")) ∷ []))) ≡ None
unfolding ◌>>=◌ give refuse note shape_at add_shape
example_13 = refl

-- let function f()=() in f end
example_14 : verdict ("f" ∷ []) (Let (s 0 28) (functions (function (i 0 13 14) ([]) None (Seq (s 17 19) (exps ([]))) no_functions) no_decs)
    (exps ((Read (s 23 24) (Simple (i 0 23 24))) ∷ []))) ≡ Some (T4, 23)
unfolding ◌>>=◌ give refuse note shape_at add_shape
example_14 = refl

-- print
example_15 : verdict ("print" ∷ []) (Read (s 0 5) (Simple (i 0 0 5))) ≡ Some (T4, 0)
unfolding ◌>>=◌ give refuse note shape_at add_shape
example_15 = refl

-- exit(())
example_16 : verdict ("exit" ∷ []) (Call (s 0 8) (i 0 0 4) (exps ((Seq (s 5 7) (exps ([]))) ∷ []))) ≡ Some (T12, 5)
unfolding ◌>>=◌ give refuse note shape_at add_shape
example_16 = refl

-- while 1 do let function f()=break in f() end
example_17 : verdict ("f" ∷ []) (While (s 0 44) (Int (s 6 7) 1)
    (Let (s 11 44) (functions (function (i 0 24 25) ([]) None (Break (s 28 33)) no_functions) no_decs)
    (exps ((Call (s 37 40) (i 0 37 38) (exps ([]))) ∷ [])))) ≡ Some (T14, 28)
unfolding ◌>>=◌ give refuse note shape_at add_shape
example_17 = refl

-- while 1 do let function f()=while 1 do break in f() end
example_18 : verdict ("f" ∷ []) (While (s 0 55) (Int (s 6 7) 1)
    (Let (s 11 55) (functions (function (i 0 24 25) ([]) None (While (s 28 44) (Int (s 34 35) 1) (Break (s 39 44))) no_functions) no_decs)
    (exps ((Call (s 48 51) (i 0 48 49) (exps ([]))) ∷ [])))) ≡ None
unfolding ◌>>=◌ give refuse note shape_at add_shape
example_18 = refl

-- while break do ()
example_19 : verdict ([]) (While (s 0 17) (Break (s 6 11)) (Seq (s 15 17) (exps ([])))) ≡ Some (T14, 6)
unfolding ◌>>=◌ give refuse note shape_at add_shape
example_19 = refl

-- for i:=0 to (break;1) do ()
example_20 : verdict ("i" ∷ []) (For (s 0 27) (i 0 4 5) (Int (s 7 8) 0) (Seq (s 12 21) (exps ((Break (s 13 18)) ∷ (Int (s 19 20) 1) ∷ [])))
    (Seq (s 25 27) (exps ([])))) ≡ Some (T14, 13)
unfolding ◌>>=◌ give refuse note shape_at add_shape
example_20 = refl

-- while 1 do while (break;1) do ()
example_21 : verdict ([]) (While (s 0 32) (Int (s 6 7) 1)
    (While (s 11 32) (Seq (s 17 26) (exps ((Break (s 18 23)) ∷ (Int (s 24 25) 1) ∷ []))) (Seq (s 30 32) (exps ([]))))) ≡ None
unfolding ◌>>=◌ give refuse note shape_at add_shape
example_21 = refl

-- break
example_22 : verdict ([]) (Break (s 0 5)) ≡ Some (T14, 0)
unfolding ◌>>=◌ give refuse note shape_at add_shape
example_22 = refl

-- let var a:=nil in end
example_23 : verdict ("a" ∷ []) (Let (s 0 21) (variable (i 0 8 9) None (Nil (s 11 14)) no_decs) (exps ([]))) ≡ Some (T13, 11)
unfolding ◌>>=◌ give refuse note shape_at add_shape
example_23 = refl

-- let type r={} var a:r:=nil in end
example_24 : verdict ("r" ∷ "a" ∷ []) (Let (s 0 33) (types (t (i 0 9 10) (Fields ([])) ∷ [])
    (variable (i 1 18 19) (Some (i 0 20 21)) (Nil (s 23 26)) no_decs)) (exps ([]))) ≡ None
unfolding ◌>>=◌ give refuse note shape_at add_shape
example_24 = refl

-- let var a:=() in end
example_25 : verdict ("a" ∷ []) (Let (s 0 20) (variable (i 0 8 9) None (Seq (s 11 13) (exps ([]))) no_decs) (exps ([]))) ≡ Some (T12, 11)
unfolding ◌>>=◌ give refuse note shape_at add_shape
example_25 = refl

-- x
example_26 : verdict ("x" ∷ []) (Read (s 0 1) (Simple (i 0 0 1))) ≡ Some (T1, 0)
unfolding ◌>>=◌ give refuse note shape_at add_shape
example_26 = refl

-- let var x:=x in end
example_27 : verdict ("x" ∷ []) (Let (s 0 19) (variable (i 0 8 9) None (Read (s 11 12) (Simple (i 0 11 12))) no_decs) (exps ([]))) ≡ Some (T1, 11)
unfolding ◌>>=◌ give refuse note shape_at add_shape
example_27 = refl

-- f()
example_28 : verdict ("f" ∷ []) (Call (s 0 3) (i 0 0 1) (exps ([]))) ≡ Some (T2, 0)
unfolding ◌>>=◌ give refuse note shape_at add_shape
example_28 = refl

-- let function f()=g() var x:=0 function g()=() in end
example_29 : verdict ("f" ∷ "g" ∷ "x" ∷ []) (Let (s 0 52)
    (functions (function (i 0 13 14) ([]) None (Call (s 17 20) (i 1 17 18) (exps ([]))) no_functions)
    (variable (i 2 25 26) None (Int (s 28 29) 0) (functions (function (i 1 39 40) ([]) None (Seq (s 43 45) (exps ([]))) no_functions) no_decs))) (exps ([])))
    ≡ Some (T2, 17)
unfolding ◌>>=◌ give refuse note shape_at add_shape
example_29 = refl

-- let function f()=g() function g()=() in end
example_30 : verdict ("f" ∷ "g" ∷ []) (Let (s 0 43) (functions
    (function (i 0 13 14) ([]) None (Call (s 17 20) (i 1 17 18) (exps ([]))) (function (i 1 30 31) ([]) None (Seq (s 34 36) (exps ([]))) no_functions))
    no_decs) (exps ([]))) ≡ None
unfolding ◌>>=◌ give refuse note shape_at add_shape
example_30 = refl

-- let var a:r:=nil in end
example_31 : verdict ("a" ∷ "r" ∷ []) (Let (s 0 23) (variable (i 0 8 9) (Some (i 1 10 11)) (Nil (s 13 16)) no_decs) (exps ([]))) ≡ Some (T3, 10)
unfolding ◌>>=◌ give refuse note shape_at add_shape
example_31 = refl

-- let type t=u in end
example_32 : verdict ("t" ∷ "u" ∷ []) (Let (s 0 19) (types (t (i 0 9 10) (Alias (i 1 11 12)) ∷ []) no_decs) (exps ([]))) ≡ Some (T3, 11)
unfolding ◌>>=◌ give refuse note shape_at add_shape
example_32 = refl

-- let type t={a:u} in end
example_33 : verdict ("t" ∷ "a" ∷ "u" ∷ []) (Let (s 0 23) (types (t (i 0 9 10) (Fields (p (i 1 12 13) (i 2 14 15) ∷ [])) ∷ []) no_decs) (exps ([]))) ≡ Some
    (T3, 14)
unfolding ◌>>=◌ give refuse note shape_at add_shape
example_33 = refl

-- let type t=array of u in end
example_34 : verdict ("t" ∷ "u" ∷ []) (Let (s 0 28) (types (t (i 0 9 10) (Array (i 1 20 21)) ∷ []) no_decs) (exps ([]))) ≡ Some (T3, 20)
unfolding ◌>>=◌ give refuse note shape_at add_shape
example_34 = refl

-- let function f(a:u)=() in end
example_35 : verdict ("f" ∷ "a" ∷ "u" ∷ []) (Let (s 0 29)
    (functions (function (i 0 13 14) (p (i 1 15 16) (i 2 17 18) ∷ []) None (Seq (s 20 22) (exps ([]))) no_functions) no_decs) (exps ([]))) ≡ Some (T3, 17)
unfolding ◌>>=◌ give refuse note shape_at add_shape
example_35 = refl

-- let function f():u=1 in end
example_36 : verdict ("f" ∷ "u" ∷ []) (Let (s 0 27) (functions (function (i 0 13 14) ([]) (Some (i 1 17 18)) (Int (s 19 20) 1) no_functions) no_decs)
    (exps ([]))) ≡ Some (T3, 17)
unfolding ◌>>=◌ give refuse note shape_at add_shape
example_36 = refl

-- r{}
example_37 : verdict ("r" ∷ []) (Make (s 0 3) (i 0 0 1) no_inits) ≡ Some (T3, 0)
unfolding ◌>>=◌ give refuse note shape_at add_shape
example_37 = refl

-- r[1] of 2
example_38 : verdict ("r" ∷ []) (Fill (s 0 9) (i 0 0 1) (Int (s 2 3) 1) (Int (s 8 9) 2)) ≡ Some (T3, 0)
unfolding ◌>>=◌ give refuse note shape_at add_shape
example_38 = refl

-- let type a=b var x:=1 type b=int in end
example_39 : verdict ("a" ∷ "b" ∷ "x" ∷ "int" ∷ []) (Let (s 0 39)
    (types (t (i 0 9 10) (Alias (i 1 11 12)) ∷ []) (variable (i 2 17 18) None (Int (s 20 21) 1) (types (t (i 1 27 28) (Alias (i 3 29 32)) ∷ []) no_decs)))
    (exps ([]))) ≡ Some (T3, 11)
unfolding ◌>>=◌ give refuse note shape_at add_shape
example_39 = refl

-- let var f:=1 in f() end
example_40 : verdict ("f" ∷ []) (Let (s 0 23) (variable (i 0 8 9) None (Int (s 11 12) 1) no_decs) (exps ((Call (s 16 19) (i 0 16 17) (exps ([]))) ∷ [])))
    ≡ Some (T5, 16)
unfolding ◌>>=◌ give refuse note shape_at add_shape
example_40 = refl

-- let var f:=1 function f()=() in f() end
example_41 : verdict ("f" ∷ []) (Let (s 0 39) (variable (i 0 8 9) None (Int (s 11 12) 1)
    (functions (function (i 0 22 23) ([]) None (Seq (s 26 28) (exps ([]))) no_functions) no_decs)) (exps ((Call (s 32 35) (i 0 32 33) (exps ([]))) ∷ [])))
    ≡ None
unfolding ◌>>=◌ give refuse note shape_at add_shape
example_41 = refl

-- let type t=int in t{} end
example_42 : verdict ("t" ∷ "int" ∷ []) (Let (s 0 25) (types (t (i 0 9 10) (Alias (i 1 11 14)) ∷ []) no_decs)
    (exps ((Make (s 18 21) (i 0 18 19) no_inits) ∷ []))) ≡ Some (T7, 18)
unfolding ◌>>=◌ give refuse note shape_at add_shape
example_42 = refl

-- let var v:=1 in v.a end
example_43 : verdict ("v" ∷ "a" ∷ []) (Let (s 0 23) (variable (i 0 8 9) None (Int (s 11 12) 1) no_decs)
    (exps ((Read (s 16 19) (Field (Simple (i 0 16 17)) (i 1 18 19))) ∷ []))) ≡ Some (T7, 16)
unfolding ◌>>=◌ give refuse note shape_at add_shape
example_43 = refl

-- let type r={a:int} var v:=r{a=1} in v.b end
example_44 : verdict ("r" ∷ "a" ∷ "int" ∷ "v" ∷ "b" ∷ [])
    (Let (s 0 43) (types (t (i 0 9 10) (Fields (p (i 1 12 13) (i 2 14 17) ∷ [])) ∷ [])
    (variable (i 3 23 24) None (Make (s 26 32) (i 0 26 27) (init (i 1 28 29) (Int (s 30 31) 1) no_inits)) no_decs))
    (exps ((Read (s 36 39) (Field (Simple (i 3 36 37)) (i 4 38 39))) ∷ []))) ≡ Some (T8, 38)
unfolding ◌>>=◌ give refuse note shape_at add_shape
example_44 = refl

-- let type r={a:int} var v:=r{a=1} in v.a end
example_45 : verdict ("r" ∷ "a" ∷ "int" ∷ "v" ∷ []) (Let (s 0 43)
    (types (t (i 0 9 10) (Fields (p (i 1 12 13) (i 2 14 17) ∷ [])) ∷ [])
    (variable (i 3 23 24) None (Make (s 26 32) (i 0 26 27) (init (i 1 28 29) (Int (s 30 31) 1) no_inits)) no_decs))
    (exps ((Read (s 36 39) (Field (Simple (i 3 36 37)) (i 1 38 39))) ∷ []))) ≡ None
unfolding ◌>>=◌ give refuse note shape_at add_shape
example_45 = refl

-- let var v:=1 in v[0] end
example_46 : verdict ("v" ∷ []) (Let (s 0 24) (variable (i 0 8 9) None (Int (s 11 12) 1) no_decs)
    (exps ((Read (s 16 20) (Index (Simple (i 0 16 17)) (Int (s 18 19) 0))) ∷ []))) ≡ Some (T9, 16)
unfolding ◌>>=◌ give refuse note shape_at add_shape
example_46 = refl

-- let type t=int in t[1] of 2 end
example_47 : verdict ("t" ∷ "int" ∷ []) (Let (s 0 31) (types (t (i 0 9 10) (Alias (i 1 11 14)) ∷ []) no_decs)
    (exps ((Fill (s 18 27) (i 0 18 19) (Int (s 20 21) 1) (Int (s 26 27) 2)) ∷ []))) ≡ Some (T9, 18)
unfolding ◌>>=◌ give refuse note shape_at add_shape
example_47 = refl

-- let type t=array of int var v:=t[1] of 2 in v[""] end
example_48 : verdict ("t" ∷ "int" ∷ "v" ∷ []) (Let (s 0 53)
    (types (t (i 0 9 10) (Array (i 1 20 23)) ∷ []) (variable (i 2 28 29) None (Fill (s 31 40) (i 0 31 32) (Int (s 33 34) 1) (Int (s 39 40) 2)) no_decs))
    (exps ((Read (s 44 49) (Index (Simple (i 2 44 45)) (Text (s 46 48) (codes "")))) ∷ []))) ≡ Some (T6, 46)
unfolding ◌>>=◌ give refuse note shape_at add_shape
example_48 = refl

-- let type t=array of int var v:=t[1] of 2 in v[0] end
example_49 : verdict ("t" ∷ "int" ∷ "v" ∷ []) (Let (s 0 52)
    (types (t (i 0 9 10) (Array (i 1 20 23)) ∷ []) (variable (i 2 28 29) None (Fill (s 31 40) (i 0 31 32) (Int (s 33 34) 1) (Int (s 39 40) 2)) no_decs))
    (exps ((Read (s 44 48) (Index (Simple (i 2 44 45)) (Int (s 46 47) 0))) ∷ []))) ≡ None
unfolding ◌>>=◌ give refuse note shape_at add_shape
example_49 = refl

-- let type r={a:int,b:int} in r{b=1,a=2} end
example_50 : verdict ("r" ∷ "a" ∷ "int" ∷ "b" ∷ []) (Let (s 0 42)
    (types (t (i 0 9 10) (Fields (p (i 1 12 13) (i 2 14 17) ∷ p (i 3 18 19) (i 2 20 23) ∷ [])) ∷ []) no_decs)
    (exps ((Make (s 28 38) (i 0 28 29) (init (i 3 30 31) (Int (s 32 33) 1) (init (i 1 34 35) (Int (s 36 37) 2) no_inits))) ∷ []))) ≡ Some (T11, 28)
unfolding ◌>>=◌ give refuse note shape_at add_shape
example_50 = refl

-- let type r={a:int} in r{} end
example_51 : verdict ("r" ∷ "a" ∷ "int" ∷ []) (Let (s 0 29) (types (t (i 0 9 10) (Fields (p (i 1 12 13) (i 2 14 17) ∷ [])) ∷ []) no_decs)
    (exps ((Make (s 22 25) (i 0 22 23) no_inits) ∷ []))) ≡ Some (T11, 22)
unfolding ◌>>=◌ give refuse note shape_at add_shape
example_51 = refl

-- let type r={} in r{a=1} end
example_52 : verdict ("r" ∷ "a" ∷ []) (Let (s 0 27) (types (t (i 0 9 10) (Fields ([])) ∷ []) no_decs)
    (exps ((Make (s 17 23) (i 0 17 18) (init (i 1 19 20) (Int (s 21 22) 1) no_inits)) ∷ []))) ≡ Some (T11, 17)
unfolding ◌>>=◌ give refuse note shape_at add_shape
example_52 = refl

-- let type r={a:int} in r{a=""} end
example_53 : verdict ("r" ∷ "a" ∷ "int" ∷ []) (Let (s 0 33) (types (t (i 0 9 10) (Fields (p (i 1 12 13) (i 2 14 17) ∷ [])) ∷ []) no_decs)
    (exps ((Make (s 22 29) (i 0 22 23) (init (i 1 24 25) (Text (s 26 28) (codes "")) no_inits)) ∷ []))) ≡ Some (T6, 26)
unfolding ◌>>=◌ give refuse note shape_at add_shape
example_53 = refl

-- let type r={a:int} in r{a=1} end
example_54 : verdict ("r" ∷ "a" ∷ "int" ∷ []) (Let (s 0 32) (types (t (i 0 9 10) (Fields (p (i 1 12 13) (i 2 14 17) ∷ [])) ∷ []) no_decs)
    (exps ((Make (s 22 28) (i 0 22 23) (init (i 1 24 25) (Int (s 26 27) 1) no_inits)) ∷ []))) ≡ None
unfolding ◌>>=◌ give refuse note shape_at add_shape
example_54 = refl

-- let type a=int type a=int in end
example_55 : verdict ("a" ∷ "int" ∷ []) (Let (s 0 32) (types (t (i 0 9 10) (Alias (i 1 11 14)) ∷ t (i 0 20 21) (Alias (i 1 22 25)) ∷ []) no_decs) (exps ([])))
    ≡ Some (T16, 20)
unfolding ◌>>=◌ give refuse note shape_at add_shape
example_55 = refl

-- let type a=int var x:=1 type a=int in end
example_56 : verdict ("a" ∷ "int" ∷ "x" ∷ []) (Let (s 0 41)
    (types (t (i 0 9 10) (Alias (i 1 11 14)) ∷ []) (variable (i 2 19 20) None (Int (s 22 23) 1) (types (t (i 0 29 30) (Alias (i 1 31 34)) ∷ []) no_decs)))
    (exps ([]))) ≡ None
unfolding ◌>>=◌ give refuse note shape_at add_shape
example_56 = refl

-- let function f()=() function f()=() in end
example_57 : verdict ("f" ∷ []) (Let (s 0 42) (functions
    (function (i 0 13 14) ([]) None (Seq (s 17 19) (exps ([]))) (function (i 0 29 30) ([]) None (Seq (s 33 35) (exps ([]))) no_functions)) no_decs)
    (exps ([]))) ≡ Some (T17, 29)
unfolding ◌>>=◌ give refuse note shape_at add_shape
example_57 = refl

-- let function f()=() var x:=1 function f()=() in end
example_58 : verdict ("f" ∷ "x" ∷ []) (Let (s 0 51) (functions (function (i 0 13 14) ([]) None (Seq (s 17 19) (exps ([]))) no_functions)
    (variable (i 1 24 25) None (Int (s 27 28) 1) (functions (function (i 0 38 39) ([]) None (Seq (s 42 44) (exps ([]))) no_functions) no_decs))) (exps ([])))
    ≡ None
unfolding ◌>>=◌ give refuse note shape_at add_shape
example_58 = refl

-- let type r={a:int,a:int} in end
example_59 : verdict ("r" ∷ "a" ∷ "int" ∷ []) (Let (s 0 31)
    (types (t (i 0 9 10) (Fields (p (i 1 12 13) (i 2 14 17) ∷ p (i 1 18 19) (i 2 20 23) ∷ [])) ∷ []) no_decs) (exps ([]))) ≡ Some (T18, 18)
unfolding ◌>>=◌ give refuse note shape_at add_shape
example_59 = refl

-- let function f(a:int,a:int)=() in end
example_60 : verdict ("f" ∷ "a" ∷ "int" ∷ []) (Let (s 0 37)
    (functions (function (i 0 13 14) (p (i 1 15 16) (i 2 17 20) ∷ p (i 1 21 22) (i 2 23 26) ∷ []) None (Seq (s 28 30) (exps ([]))) no_functions) no_decs)
    (exps ([]))) ≡ Some (T18, 21)
unfolding ◌>>=◌ give refuse note shape_at add_shape
example_60 = refl

-- let function f(a:int,b:int)=() in end
example_61 : verdict ("f" ∷ "a" ∷ "int" ∷ "b" ∷ []) (Let (s 0 37)
    (functions (function (i 0 13 14) (p (i 1 15 16) (i 2 17 20) ∷ p (i 3 21 22) (i 2 23 26) ∷ []) None (Seq (s 28 30) (exps ([]))) no_functions) no_decs)
    (exps ([]))) ≡ None
unfolding ◌>>=◌ give refuse note shape_at add_shape
example_61 = refl

-- let type a=u type a=int in end
example_62 : verdict ("a" ∷ "u" ∷ "int" ∷ []) (Let (s 0 30) (types (t (i 0 9 10) (Alias (i 1 11 12)) ∷ t (i 0 18 19) (Alias (i 2 20 23)) ∷ []) no_decs)
    (exps ([]))) ≡ Some (T16, 18)
unfolding ◌>>=◌ give refuse note shape_at add_shape
example_62 = refl

-- let type r={a:int,a:u} in end
example_63 : verdict ("r" ∷ "a" ∷ "int" ∷ "u" ∷ []) (Let (s 0 29)
    (types (t (i 0 9 10) (Fields (p (i 1 12 13) (i 2 14 17) ∷ p (i 1 18 19) (i 3 20 21) ∷ [])) ∷ []) no_decs) (exps ([]))) ≡ Some (T18, 18)
unfolding ◌>>=◌ give refuse note shape_at add_shape
example_63 = refl

-- let type r={a:u,a:int} in end
example_64 : verdict ("r" ∷ "a" ∷ "u" ∷ "int" ∷ []) (Let (s 0 29)
    (types (t (i 0 9 10) (Fields (p (i 1 12 13) (i 2 14 15) ∷ p (i 1 16 17) (i 3 18 21) ∷ [])) ∷ []) no_decs) (exps ([]))) ≡ Some (T3, 14)
unfolding ◌>>=◌ give refuse note shape_at add_shape
example_64 = refl

-- let type a=a type b=u in end
example_65 : verdict ("a" ∷ "b" ∷ "u" ∷ []) (Let (s 0 28) (types (t (i 0 9 10) (Alias (i 0 11 12)) ∷ t (i 1 18 19) (Alias (i 2 20 21)) ∷ []) no_decs)
    (exps ([]))) ≡ Some (T3, 20)
unfolding ◌>>=◌ give refuse note shape_at add_shape
example_65 = refl

-- let function f(a:u)=() function f()=() in end
example_66 : verdict ("f" ∷ "a" ∷ "u" ∷ []) (Let (s 0 45)
    (functions (function (i 0 13 14) (p (i 1 15 16) (i 2 17 18) ∷ []) None (Seq (s 20 22) (exps ([])))
    (function (i 0 32 33) ([]) None (Seq (s 36 38) (exps ([]))) no_functions)) no_decs) (exps ([]))) ≡ Some (T17, 32)
unfolding ◌>>=◌ give refuse note shape_at add_shape
example_66 = refl

-- let function f(a:u)=1 in end
example_67 : verdict ("f" ∷ "a" ∷ "u" ∷ []) (Let (s 0 28)
    (functions (function (i 0 13 14) (p (i 1 15 16) (i 2 17 18) ∷ []) None (Int (s 20 21) 1) no_functions) no_decs) (exps ([]))) ≡ Some (T3, 17)
unfolding ◌>>=◌ give refuse note shape_at add_shape
example_67 = refl

-- let function f(a:int,a:u)=() in end
example_68 : verdict ("f" ∷ "a" ∷ "int" ∷ "u" ∷ []) (Let (s 0 35)
    (functions (function (i 0 13 14) (p (i 1 15 16) (i 2 17 20) ∷ p (i 1 21 22) (i 3 23 24) ∷ []) None (Seq (s 26 28) (exps ([]))) no_functions) no_decs)
    (exps ([]))) ≡ Some (T18, 21)
unfolding ◌>>=◌ give refuse note shape_at add_shape
example_68 = refl

-- let function f()=1 function g()=x in end
example_69 : verdict ("f" ∷ "g" ∷ "x" ∷ []) (Let (s 0 40)
    (functions (function (i 0 13 14) ([]) None (Int (s 17 18) 1) (function (i 1 28 29) ([]) None (Read (s 32 33) (Simple (i 2 32 33))) no_functions)) no_decs)
    (exps ([]))) ≡ Some (T6, 17)
unfolding ◌>>=◌ give refuse note shape_at add_shape
example_69 = refl

-- let function f()=1 function g(a:u)=() in end
example_70 : verdict ("f" ∷ "g" ∷ "a" ∷ "u" ∷ []) (Let (s 0 44)
    (functions (function (i 0 13 14) ([]) None (Int (s 17 18) 1)
    (function (i 1 28 29) (p (i 2 30 31) (i 3 32 33) ∷ []) None (Seq (s 35 37) (exps ([]))) no_functions)) no_decs) (exps ([]))) ≡ Some (T3, 32)
unfolding ◌>>=◌ give refuse note shape_at add_shape
example_70 = refl

-- let function f(a:int)=() in f(x,y) end
example_71 : verdict ("f" ∷ "a" ∷ "int" ∷ "x" ∷ "y" ∷ [])
    (Let (s 0 38) (functions (function (i 0 13 14) (p (i 1 15 16) (i 2 17 20) ∷ []) None (Seq (s 22 24) (exps ([]))) no_functions) no_decs)
    (exps ((Call (s 28 34) (i 0 28 29) (exps ((Read (s 30 31) (Simple (i 3 30 31))) ∷ (Read (s 32 33) (Simple (i 4 32 33))) ∷ []))) ∷ []))) ≡ Some (T10, 28)
unfolding ◌>>=◌ give refuse note shape_at add_shape
example_71 = refl

-- let var f:=1 in f(x) end
example_72 : verdict ("f" ∷ "x" ∷ []) (Let (s 0 24) (variable (i 0 8 9) None (Int (s 11 12) 1) no_decs)
    (exps ((Call (s 16 20) (i 0 16 17) (exps ((Read (s 18 19) (Simple (i 1 18 19))) ∷ []))) ∷ []))) ≡ Some (T5, 16)
unfolding ◌>>=◌ give refuse note shape_at add_shape
example_72 = refl

-- t{a=x}
example_73 : verdict ("t" ∷ "a" ∷ "x" ∷ []) (Make (s 0 6) (i 0 0 1) (init (i 1 2 3) (Read (s 4 5) (Simple (i 2 4 5))) no_inits)) ≡ Some (T3, 0)
unfolding ◌>>=◌ give refuse note shape_at add_shape
example_73 = refl

-- let type t=int in t{a=x} end
example_74 : verdict ("t" ∷ "int" ∷ "a" ∷ "x" ∷ []) (Let (s 0 28) (types (t (i 0 9 10) (Alias (i 1 11 14)) ∷ []) no_decs)
    (exps ((Make (s 18 24) (i 0 18 19) (init (i 2 20 21) (Read (s 22 23) (Simple (i 3 22 23))) no_inits)) ∷ []))) ≡ Some (T7, 18)
unfolding ◌>>=◌ give refuse note shape_at add_shape
example_74 = refl

-- let type t={b:int} in t{a=x} end
example_75 : verdict ("t" ∷ "b" ∷ "int" ∷ "a" ∷ "x" ∷ [])
    (Let (s 0 32) (types (t (i 0 9 10) (Fields (p (i 1 12 13) (i 2 14 17) ∷ [])) ∷ []) no_decs)
    (exps ((Make (s 22 28) (i 0 22 23) (init (i 3 24 25) (Read (s 26 27) (Simple (i 4 26 27))) no_inits)) ∷ []))) ≡ Some (T11, 22)
unfolding ◌>>=◌ give refuse note shape_at add_shape
example_75 = refl

-- let type t=int in t[x] of y end
example_76 : verdict ("t" ∷ "int" ∷ "x" ∷ "y" ∷ []) (Let (s 0 31) (types (t (i 0 9 10) (Alias (i 1 11 14)) ∷ []) no_decs)
    (exps ((Fill (s 18 27) (i 0 18 19) (Read (s 20 21) (Simple (i 2 20 21))) (Read (s 26 27) (Simple (i 3 26 27)))) ∷ []))) ≡ Some (T9, 18)
unfolding ◌>>=◌ give refuse note shape_at add_shape
example_76 = refl

-- let var v:=1 in v:=x end
example_77 : verdict ("v" ∷ "x" ∷ []) (Let (s 0 24) (variable (i 0 8 9) None (Int (s 11 12) 1) no_decs)
    (exps ((Assign (s 16 20) (Simple (i 0 16 17)) (Read (s 19 20) (Simple (i 1 19 20)))) ∷ []))) ≡ Some (T1, 19)
unfolding ◌>>=◌ give refuse note shape_at add_shape
example_77 = refl

-- for i:=0 to 1 do i:=x
example_78 : verdict ("i" ∷ "x" ∷ []) (For (s 0 21) (i 0 4 5) (Int (s 7 8) 0) (Int (s 12 13) 1)
    (Assign (s 17 21) (Simple (i 0 17 18)) (Read (s 20 21) (Simple (i 1 20 21))))) ≡ Some (T15, 17)
unfolding ◌>>=◌ give refuse note shape_at add_shape
example_78 = refl

-- let var a:int:=x in end
example_79 : verdict ("a" ∷ "int" ∷ "x" ∷ []) (Let (s 0 23) (variable (i 0 8 9) (Some (i 1 10 13)) (Read (s 15 16) (Simple (i 2 15 16))) no_decs) (exps ([])))
    ≡ Some (T1, 15)
unfolding ◌>>=◌ give refuse note shape_at add_shape
example_79 = refl

-- let var a:u:=x in end
example_80 : verdict ("a" ∷ "u" ∷ "x" ∷ []) (Let (s 0 21) (variable (i 0 8 9) (Some (i 1 10 11)) (Read (s 13 14) (Simple (i 2 13 14))) no_decs) (exps ([])))
    ≡ Some (T3, 10)
unfolding ◌>>=◌ give refuse note shape_at add_shape
example_80 = refl

-- 1+()
example_81 : verdict ([]) (Binary (s 0 4) op.Plus 1 (Int (s 0 1) 1) (Seq (s 2 4) (exps ([])))) ≡ Some (T12, 2)
unfolding ◌>>=◌ give refuse note shape_at add_shape
example_81 = refl

-- "a"+1
example_82 : verdict ([]) (Binary (s 0 5) op.Plus 3 (Text (s 0 3) (codes "a")) (Int (s 4 5) 1)) ≡ Some (T6, 0)
unfolding ◌>>=◌ give refuse note shape_at add_shape
example_82 = refl

-- 1&""
example_83 : verdict ([]) (Binary (s 0 4) op.And 1 (Int (s 0 1) 1) (Text (s 2 4) (codes ""))) ≡ Some (T6, 2)
unfolding ◌>>=◌ give refuse note shape_at add_shape
example_83 = refl

-- ()=1
example_84 : verdict ([]) (Binary (s 0 4) op.Equal 2 (Seq (s 0 2) (exps ([]))) (Int (s 3 4) 1)) ≡ Some (T12, 0)
unfolding ◌>>=◌ give refuse note shape_at add_shape
example_84 = refl

-- 1=()
example_85 : verdict ([]) (Binary (s 0 4) op.Equal 1 (Int (s 0 1) 1) (Seq (s 2 4) (exps ([])))) ≡ Some (T12, 2)
unfolding ◌>>=◌ give refuse note shape_at add_shape
example_85 = refl

-- nil=nil
example_86 : verdict ([]) (Binary (s 0 7) op.Equal 3 (Nil (s 0 3)) (Nil (s 4 7))) ≡ Some (T13, 0)
unfolding ◌>>=◌ give refuse note shape_at add_shape
example_86 = refl

-- 1=""
example_87 : verdict ([]) (Binary (s 0 4) op.Equal 1 (Int (s 0 1) 1) (Text (s 2 4) (codes ""))) ≡ Some (T6, 2)
unfolding ◌>>=◌ give refuse note shape_at add_shape
example_87 = refl

-- 1=nil
example_88 : verdict ([]) (Binary (s 0 5) op.Equal 1 (Int (s 0 1) 1) (Nil (s 2 5))) ≡ Some (T6, 2)
unfolding ◌>>=◌ give refuse note shape_at add_shape
example_88 = refl

-- let type r={} var v:=r{} in (v=nil;nil<>v) end
example_89 : verdict ("r" ∷ "v" ∷ []) (Let (s 0 46) (types (t (i 0 9 10) (Fields ([])) ∷ [])
    (variable (i 1 18 19) None (Make (s 21 24) (i 0 21 22) no_inits) no_decs))
    (exps ((Seq (s 28 42) (exps ((Binary (s 29 34) op.Equal 30 (Read (s 29 30) (Simple (i 1 29 30))) (Nil (s 31 34))) ∷
    (Binary (s 35 41) op.NotEqual 38 (Nil (s 35 38)) (Read (s 40 41) (Simple (i 1 40 41)))) ∷ []))) ∷ []))) ≡ None
unfolding ◌>>=◌ give refuse note shape_at add_shape
example_89 = refl

-- nil<1
example_90 : verdict ([]) (Binary (s 0 5) op.Less 3 (Nil (s 0 3)) (Int (s 4 5) 1)) ≡ Some (T6, 0)
unfolding ◌>>=◌ give refuse note shape_at add_shape
example_90 = refl

-- let type r={} var v:=r{} in v<v end
example_91 : verdict ("r" ∷ "v" ∷ []) (Let (s 0 35) (types (t (i 0 9 10) (Fields ([])) ∷ [])
    (variable (i 1 18 19) None (Make (s 21 24) (i 0 21 22) no_inits) no_decs))
    (exps ((Binary (s 28 31) op.Less 29 (Read (s 28 29) (Simple (i 1 28 29))) (Read (s 30 31) (Simple (i 1 30 31)))) ∷ []))) ≡ Some (T6, 28)
unfolding ◌>>=◌ give refuse note shape_at add_shape
example_91 = refl

-- 1<()
example_92 : verdict ([]) (Binary (s 0 4) op.Less 1 (Int (s 0 1) 1) (Seq (s 2 4) (exps ([])))) ≡ Some (T12, 2)
unfolding ◌>>=◌ give refuse note shape_at add_shape
example_92 = refl

-- "a"<1
example_93 : verdict ([]) (Binary (s 0 5) op.Less 3 (Text (s 0 3) (codes "a")) (Int (s 4 5) 1)) ≡ Some (T6, 4)
unfolding ◌>>=◌ give refuse note shape_at add_shape
example_93 = refl

-- "a"<"b"
example_94 : verdict ([]) (Binary (s 0 7) op.Less 3 (Text (s 0 3) (codes "a")) (Text (s 4 7) (codes "b"))) ≡ None
unfolding ◌>>=◌ give refuse note shape_at add_shape
example_94 = refl

-- -()
example_95 : verdict ([]) (Neg (s 0 3) (Seq (s 1 3) (exps ([])))) ≡ Some (T12, 1)
unfolding ◌>>=◌ give refuse note shape_at add_shape
example_95 = refl

-- if "" then ()
example_96 : verdict ([]) (When (s 0 13) (Text (s 3 5) (codes "")) (Seq (s 11 13) (exps ([])))) ≡ Some (T6, 3)
unfolding ◌>>=◌ give refuse note shape_at add_shape
example_96 = refl

-- if 1 then 1
example_97 : verdict ([]) (When (s 0 11) (Int (s 3 4) 1) (Int (s 10 11) 1)) ≡ Some (T6, 10)
unfolding ◌>>=◌ give refuse note shape_at add_shape
example_97 = refl

-- if 1 then 1 else ""
example_98 : verdict ([]) (If (s 0 19) (Int (s 3 4) 1) (Int (s 10 11) 1) (Text (s 17 19) (codes ""))) ≡ Some (T6, 17)
unfolding ◌>>=◌ give refuse note shape_at add_shape
example_98 = refl

-- if 1 then 1 else ()
example_99 : verdict ([]) (If (s 0 19) (Int (s 3 4) 1) (Int (s 10 11) 1) (Seq (s 17 19) (exps ([])))) ≡ Some (T6, 17)
unfolding ◌>>=◌ give refuse note shape_at add_shape
example_99 = refl

-- if 1 then 1 else nil
example_100 : verdict ([]) (If (s 0 20) (Int (s 3 4) 1) (Int (s 10 11) 1) (Nil (s 17 20))) ≡ Some (T6, 17)
unfolding ◌>>=◌ give refuse note shape_at add_shape
example_100 = refl

-- let type r={} var v:=if 1 then nil else r{} in v end
example_101 : verdict ("r" ∷ "v" ∷ []) (Let (s 0 52) (types (t (i 0 9 10) (Fields ([])) ∷ [])
    (variable (i 1 18 19) None (If (s 21 43) (Int (s 24 25) 1) (Nil (s 31 34)) (Make (s 40 43) (i 0 40 41) no_inits)) no_decs))
    (exps ((Read (s 47 48) (Simple (i 1 47 48))) ∷ []))) ≡ None
unfolding ◌>>=◌ give refuse note shape_at add_shape
example_101 = refl

-- if 1 then () else ()
example_102 : verdict ([]) (If (s 0 20) (Int (s 3 4) 1) (Seq (s 10 12) (exps ([]))) (Seq (s 18 20) (exps ([])))) ≡ None
unfolding ◌>>=◌ give refuse note shape_at add_shape
example_102 = refl

-- while 1 do 1
example_103 : verdict ([]) (While (s 0 12) (Int (s 6 7) 1) (Int (s 11 12) 1)) ≡ Some (T6, 11)
unfolding ◌>>=◌ give refuse note shape_at add_shape
example_103 = refl

-- for i:="" to 1 do ()
example_104 : verdict ("i" ∷ []) (For (s 0 20) (i 0 4 5) (Text (s 7 9) (codes "")) (Int (s 13 14) 1) (Seq (s 18 20) (exps ([])))) ≡ Some (T6, 7)
unfolding ◌>>=◌ give refuse note shape_at add_shape
example_104 = refl

-- for i:=0 to () do ()
example_105 : verdict ("i" ∷ []) (For (s 0 20) (i 0 4 5) (Int (s 7 8) 0) (Seq (s 12 14) (exps ([]))) (Seq (s 18 20) (exps ([])))) ≡ Some (T12, 12)
unfolding ◌>>=◌ give refuse note shape_at add_shape
example_105 = refl

-- for i:=0 to 1 do 1
example_106 : verdict ("i" ∷ []) (For (s 0 18) (i 0 4 5) (Int (s 7 8) 0) (Int (s 12 13) 1) (Int (s 17 18) 1)) ≡ Some (T6, 17)
unfolding ◌>>=◌ give refuse note shape_at add_shape
example_106 = refl

-- (1;"";nil;())
example_107 : verdict ([]) (Seq (s 0 13) (exps ((Int (s 1 2) 1) ∷ (Text (s 3 5) (codes "")) ∷ (Nil (s 6 9)) ∷ (Seq (s 10 12) (exps ([]))) ∷ []))) ≡ None
unfolding ◌>>=◌ give refuse note shape_at add_shape
example_107 = refl

-- let function f():int="" in end
example_108 : verdict ("f" ∷ "int" ∷ []) (Let (s 0 30) (functions
    (function (i 0 13 14) ([]) (Some (i 1 17 20)) (Text (s 21 23) (codes "")) no_functions) no_decs) (exps ([]))) ≡ Some (T6, 21)
unfolding ◌>>=◌ give refuse note shape_at add_shape
example_108 = refl

-- let function f():int=() in end
example_109 : verdict ("f" ∷ "int" ∷ []) (Let (s 0 30) (functions
    (function (i 0 13 14) ([]) (Some (i 1 17 20)) (Seq (s 21 23) (exps ([]))) no_functions) no_decs) (exps ([]))) ≡ Some (T12, 21)
unfolding ◌>>=◌ give refuse note shape_at add_shape
example_109 = refl

-- let type r={} function f():r=nil in end
example_110 : verdict ("r" ∷ "f" ∷ []) (Let (s 0 39) (types (t (i 0 9 10) (Fields ([])) ∷ [])
    (functions (function (i 1 23 24) ([]) (Some (i 0 27 28)) (Nil (s 29 32)) no_functions) no_decs)) (exps ([]))) ≡ None
unfolding ◌>>=◌ give refuse note shape_at add_shape
example_110 = refl

-- let type x=int in x end
example_111 : verdict ("x" ∷ "int" ∷ []) (Let (s 0 23) (types (t (i 0 9 10) (Alias (i 1 11 14)) ∷ []) no_decs)
    (exps ((Read (s 18 19) (Simple (i 0 18 19))) ∷ []))) ≡ Some (T1, 18)
unfolding ◌>>=◌ give refuse note shape_at add_shape
example_111 = refl

-- let type int=string var s:int:="" in end
example_112 : verdict ("int" ∷ "string" ∷ "s" ∷ []) (Let (s 0 40)
    (types (t (i 0 9 12) (Alias (i 1 13 19)) ∷ []) (variable (i 2 24 25) (Some (i 0 26 29)) (Text (s 31 33) (codes "")) no_decs)) (exps ([]))) ≡ None
unfolding ◌>>=◌ give refuse note shape_at add_shape
example_112 = refl

-- let type int=string var s:int:=1 in end
example_113 : verdict ("int" ∷ "string" ∷ "s" ∷ []) (Let (s 0 39)
    (types (t (i 0 9 12) (Alias (i 1 13 19)) ∷ []) (variable (i 2 24 25) (Some (i 0 26 29)) (Int (s 31 32) 1) no_decs)) (exps ([]))) ≡ Some (T6, 31)
unfolding ◌>>=◌ give refuse note shape_at add_shape
example_113 = refl

-- let function print()=() in print() end
example_114 : verdict ("print" ∷ []) (Let (s 0 38) (functions (function (i 0 13 18) ([]) None (Seq (s 21 23) (exps ([]))) no_functions) no_decs)
    (exps ((Call (s 27 34) (i 0 27 32) (exps ([]))) ∷ []))) ≡ None
unfolding ◌>>=◌ give refuse note shape_at add_shape
example_114 = refl

-- let function print()=() in print("") end
example_115 : verdict ("print" ∷ []) (Let (s 0 40) (functions (function (i 0 13 18) ([]) None (Seq (s 21 23) (exps ([]))) no_functions) no_decs)
    (exps ((Call (s 27 36) (i 0 27 32) (exps ((Text (s 33 35) (codes "")) ∷ []))) ∷ []))) ≡ Some (T10, 27)
unfolding ◌>>=◌ give refuse note shape_at add_shape
example_115 = refl

-- (let var x:=1 in x end;x)
example_116 : verdict ("x" ∷ [])
    (Seq (s 0 25) (exps ((Let (s 1 22) (variable (i 0 9 10) None (Int (s 12 13) 1) no_decs) (exps ((Read (s 17 18) (Simple (i 0 17 18))) ∷ []))) ∷
    (Read (s 23 24) (Simple (i 0 23 24))) ∷ []))) ≡ Some (T1, 23)
unfolding ◌>>=◌ give refuse note shape_at add_shape
example_116 = refl

-- let function f(x:int)=() in x end
example_117 : verdict ("f" ∷ "x" ∷ "int" ∷ []) (Let (s 0 33)
    (functions (function (i 0 13 14) (p (i 1 15 16) (i 2 17 20) ∷ []) None (Seq (s 22 24) (exps ([]))) no_functions) no_decs)
    (exps ((Read (s 28 29) (Simple (i 1 28 29))) ∷ []))) ≡ Some (T1, 28)
unfolding ◌>>=◌ give refuse note shape_at add_shape
example_117 = refl

-- so many functions, each declared in the one before; the name of the innermost one begins at the byte of their number
abbrev nested : (more level : ℕ) → Exp
nested zero n = Int (s 0 1) 0
nested (suc m) n = Let (s 0 1) (functions (function (i 0 n (n + 1)) [] (Some (i 1 0 1)) (nested m (n + 1)) no_functions) no_decs) (exps (Int (s 0 1) 0 ∷ []))

-- 32 levels are accepted
deep_enough : verdict ("f" ∷ "int" ∷ []) (nested 32 1) ≡ None
unfolding ◌>>=◌ give refuse note shape_at add_shape
deep_enough = refl

-- and 33 aren't, at the innermost name
too_deep : verdict ("f" ∷ "int" ∷ []) (nested 33 1) ≡ Some (T20, 33)
unfolding ◌>>=◌ give refuse note shape_at add_shape
too_deep = refl
