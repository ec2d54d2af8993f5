-- Short words for the trees of examples. An identifier is its byte, and each use has the byte of what it means.
use Rattle.std.proofs.Common.{ℕ, List, [], ◌∷◌, Some, None}
use Rattle.std.specs.Prelude.{codes, nat_eq}
use Rattle.std.specs.List.{list_any}
use Prim.Native.String.{String}
use Rattle.tg_base.specs.declared.ids.Span.{Span}
use Rattle.tg_symbols.specs.Tables.{looked_up}
use Rattle.tg_syntax.specs.declared.tokens.Ident.{Ident}
use Rattle.tg_syntax.specs.declared.trees.Param.{Param}
use Rattle.tg_syntax.specs.declared.trees.Op.{Op}
use Rattle.tg_syntax.specs.declared.trees.Op.TheVariants as op
use Rattle.tg_syntax.specs.Tree.{Exp, Break, Int, Text, Read, Call, Binary, Make, Fill, Assign, If, When, While, Let, Seq}
use Rattle.tg_syntax.specs.Tree.{Simple, Field, Index, Exps, no_exps, exp, no_inits, init, Decs, no_decs, variable, functions}
use Rattle.tg_syntax.specs.Tree.{no_functions, function}
use Rattle.tg_semantics.specs.declared.standards.Standard.TheVariants as standard
use Rattle.tg_typecheck.specs.declared.notes.Means.{Means}
use Rattle.tg_typecheck.specs.declared.notes.Means.TheVariants as means
use Rattle.tg_translate.specs.mirror.Scopes.{Findings}

abbrev pub sp : Span
sp = record { from = 0; to = 0 }

abbrev pub id : ℕ → Ident
id n = record { name = record { 0 = n }; span = record { from = n; to = n } }

-- Names: variables x, i, k; functions f, g, h; fields 20 and 21; 40 compares strings, and 0 is any other operator.
abbrev pub x : ℕ
x = 1

abbrev pub i : ℕ
i = 3

abbrev pub k : ℕ
k = 4

abbrev pub f : ℕ
f = 11

abbrev pub g : ℕ
g = 12

abbrev pub h : ℕ
h = 13

abbrev meanings : List (ℕ × Means)
meanings =
    (1, means.Variable 1) ∷ (3, means.Variable 3) ∷ (4, means.Variable 4) ∷ (11, means.Function 11) ∷ (12, means.Function 12)
    ∷ (13, means.Function 13) ∷ (20, means.Field 0) ∷ (21, means.Field 1) ∷ (30, means.Standard standard.Print)
    ∷ (31, means.Standard standard.Exit) ∷ (32, means.Standard standard.Concat) ∷ (40, means.Content) ∷ []

abbrev pub findings : (escaping links : List ℕ) → Findings
findings escaping links = record {
  meaning = λ at. looked_up at meanings;
  escapes = λ at. list_any (nat_eq at) escaping;
  keeps_link = λ at. list_any (nat_eq at) links;
}

abbrev exps : List Exp → Exps
exps [] = no_exps
exps (e ∷ es) = exp e (exps es)

abbrev pub num : ℕ → Exp
num n = Int sp n

abbrev pub get : ℕ → Exp
get n = Read sp (Simple (id n))

abbrev pub set : ℕ → Exp → Exp
set n e = Assign sp (Simple (id n)) e

abbrev pub call : ℕ → List Exp → Exp
call n es = Call sp (id n) (exps es)

abbrev pub seq : List Exp → Exp
seq es = Seq sp (exps es)

abbrev pub text : String → Exp
text chars = Text sp (codes chars)

abbrev pub exit : Exp → Exp
exit e = call 31 (e ∷ [])

abbrev pub binary : Op → Exp → Exp → Exp
binary o a b = Binary sp o 0 a b

abbrev pub plus : Exp → Exp → Exp
plus a b = binary op.Plus a b

abbrev pub let_var : ℕ → Exp → Decs → Decs
let_var n e rest = variable (id n) None e rest

abbrev pub block : Decs → List Exp → Exp
block ds es = Let sp ds (exps es)

abbrev pub params : List ℕ → List Param
params [] = []
params (n ∷ ns) = record { name = id n; kind = id 0 } ∷ params ns

-- Programs, below the text of each.

-- let var x:=0 in while x<5 do (x:=x+1; if x=3 then break); exit(x) end
abbrev pub counts_to_three : Exp
counts_to_three =
    block (let_var x (num 0) no_decs)
    (While sp (binary op.Less (get x) (num 5)) (seq (set x (plus (get x) (num 1)) ∷ When sp (binary op.Equal (get x) (num 3)) (Break sp) ∷ []))
    ∷ exit (get x) ∷ [])

-- let type r={a:int,b:int} var x:r:=r{a=1,b=2} in x.a:=5; exit(x.a+x.b) end
abbrev pub fields_added : Exp
fields_added =
    block (let_var x (Make sp (id 0) (init (id 20) (num 1) (init (id 21) (num 2) no_inits))) no_decs)
    (Assign sp (Field (Simple (id x)) (id 20)) (num 5) ∷ exit (plus (Read sp (Field (Simple (id x)) (id 20))) (Read sp (Field (Simple (id x)) (id 21)))) ∷ [])

-- let type t=array of int var x:=t[3] of 7 in x[2]:=1; exit(x[2]+x[0]) end
abbrev pub elements_added : Exp
elements_added =
    block (let_var x (Fill sp (id 0) (num 3) (num 7)) no_decs)
    (Assign sp (Index (Simple (id x)) (num 2)) (num 1)
    ∷ exit (plus (Read sp (Index (Simple (id x)) (num 2))) (Read sp (Index (Simple (id x)) (num 0)))) ∷ [])

-- let type t=array of int var x:=t[3] of 7 in x[3]:=0 end
abbrev pub element_after_the_last : Exp
element_after_the_last = block (let_var x (Fill sp (id 0) (num 3) (num 7)) no_decs) (Assign sp (Index (Simple (id x)) (num 3)) (num 0) ∷ [])

-- let function f(x:int):int = if x<2 then 1 else x*f(x-1) in exit(f(4)) end
abbrev pub factorial_of_four : Exp
factorial_of_four =
    block (functions (function (id f) (params (x ∷ [])) (Some (id 0))
    (If sp (binary op.Less (get x) (num 2)) (num 1) (binary op.Times (get x) (call f (binary op.Minus (get x) (num 1) ∷ [])))) no_functions) no_decs)
    (exit (call f (num 4 ∷ [])) ∷ [])

-- let function f(i:int):int = let var x:=i function g(k:int) = let function h() = x:=x+k in h(); if k>1 then g(k-1) end
-- in g(3); x end in exit(f(10)) end
abbrev pub sum_by_links : Exp
sum_by_links =
    block (functions (function (id f) (params (i ∷ [])) (Some (id 0))
    (block (let_var x (get i) (functions (function (id g) (params (k ∷ [])) None
    (block (functions (function (id h) [] None (set x (plus (get x) (get k))) no_functions) no_decs)
    (call h [] ∷ When sp (binary op.Greater (get k) (num 1)) (call g (binary op.Minus (get k) (num 1) ∷ [])) ∷ [])) no_functions) no_decs))
    (call g (num 3 ∷ []) ∷ get x ∷ [])) no_functions) no_decs) (exit (call f (num 10 ∷ [])) ∷ [])
