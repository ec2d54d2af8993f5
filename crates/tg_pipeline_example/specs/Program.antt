-- A program whose functions are nested three deep, the innermost of which changes a variable two
-- levels out:
--
--   let function f(i:int):int = let var x:=i function g(k:int) = let function h() = x:=x+k in h();
--   if k>1 then g(k-1) end in g(3); x end in exit(f(10)) end
--
-- in one line, with a blank in the place of the end of the first. An identifier has its byte there.
use Rattle.std.specs.Prelude.{ℕ, ◌+◌, List, [], ◌∷◌, Some, None, map, codes}
use Rattle.tg_base.specs.declared.ids.Span.{Span}
use Rattle.tg_syntax.specs.declared.tokens.Ident.{Ident}
use Rattle.tg_syntax.specs.declared.trees.Param.{Param}
use Rattle.tg_syntax.specs.declared.trees.Op.TheVariants.{Plus, Minus, Greater}
use Rattle.tg_typecheck.specs.declared.notes.Note.{Note}
use Rattle.tg_typecheck.specs.declared.notes.Means.TheVariants.{Variable, Function, Standard}
use Rattle.tg_typecheck.specs.declared.notes.Means.TheVariants.{Number}
use Rattle.tg_semantics.specs.declared.standards.Standard.TheVariants.{Exit}
use Rattle.tg_syntax.specs.Tree.{
  Exp,
  Int,
  Read,
  Call,
  Binary,
  Assign,
  When,
  Let,
  Simple,
  Exps,
  no_exps,
  exp,
  no_decs,
  variable,
  functions,
  no_functions,
  function,
}

-- its names, in the order in which they are first come to
abbrev pub names : List (List ℕ)
names =
    map codes ("f" ∷ "i" ∷ "int" ∷ "x" ∷ "g" ∷ "k" ∷ "h" ∷ "exit" ∷ [])

abbrev span : Span
span = record { from = 0; to = 0 }

abbrev identifier : (name byte : ℕ) → Ident
identifier name byte =
    record { name = record { 0 = name }; span = record { from = byte; to = byte + 1 } }

abbrev int : (byte : ℕ) → Ident
int byte = identifier 2 byte

abbrev get : (name byte : ℕ) → Exp
get name byte = Read span (Simple (identifier name byte))

abbrev one : Exp → Exps
one e = exp e no_exps

abbrev parameter : (name byte : ℕ) → List Param
parameter name byte = record { name = identifier name byte; kind = int (byte + 2) } ∷ []

-- x:=x+k
abbrev h_body : Exp
h_body =
    Assign span (Simple (identifier 3 80)) (Binary span Plus 84 (get 3 83) (get 5 85))

-- h(); if k>1 then g(k-1)
abbrev g_text : Exps
g_text =
    exp (Call span (identifier 6 90) no_exps)
    (one (When span (Binary span Greater 99 (get 5 98) (Int span 1))
    (Call span (identifier 4 107) (one (Binary span Minus 110 (get 5 109) (Int span 1))))))

abbrev g_body : Exp
g_body =
    Let span
    (functions (function (identifier 6 74) [] None h_body no_functions) no_decs)
    g_text

-- g(3); x
abbrev f_text : Exps
f_text = exp (Call span (identifier 4 121) (one (Int span 3))) (one (get 3 127))

abbrev f_body : Exp
f_body =
    Let span
    (variable (identifier 3 36) None (get 1 39)
    (functions (function (identifier 4 50) (parameter 5 52) None g_body no_functions) no_decs))
    f_text

abbrev pub program : Exp
program =
    Let span
    (functions
    (function (identifier 0 13) (parameter 1 15) (Some (int 22)) f_body no_functions) no_decs)
    (one (Call span (identifier 7 136) (one (Call span (identifier 0 141) (one (Int span 10))))))

-- what typing notes of it: what each name and comparison means, in the order of the checks
abbrev pub notes : List Note
notes =
    record { at = 39; means = Variable 15 } ∷ record { at = 80; means = Variable 36 }
    ∷ record { at = 83; means = Variable 36 } ∷ record { at = 85; means = Variable 52 }
    ∷ record { at = 90; means = Function 74 } ∷ record { at = 98; means = Variable 52 }
    ∷ record { at = 99; means = Number } ∷ record { at = 107; means = Function 50 }
    ∷ record { at = 109; means = Variable 52 } ∷ record { at = 121; means = Function 50 }
    ∷ record { at = 127; means = Variable 36 } ∷ record { at = 136; means = Standard Exit }
    ∷ record { at = 141; means = Function 13 } ∷ []

-- the uses of variables that make them escape, and the function whose static link the uses of x
-- in h go through
abbrev pub escaping : List ℕ
escaping = 36 ∷ 36 ∷ 52 ∷ []

abbrev pub linking : List ℕ
linking = 50 ∷ 50 ∷ []
