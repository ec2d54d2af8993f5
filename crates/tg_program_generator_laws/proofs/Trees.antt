-- The trees of generated programs, over the spans of their tokens.
use Rattle.std.proofs.Common.{ℕ, zero, suc, List, [], ◌∷◌}
use Rattle.std.specs.Prelude.{codes, Some, None}
use Rattle.tg_base.specs.declared.ids.Span.{Span}
use Rattle.tg_syntax.specs.declared.tokens.Ident.{Ident}
use Rattle.tg_syntax.specs.declared.trees.Param.{Param}
use Rattle.tg_syntax.specs.declared.trees.Op.TheVariants as op
use Rattle.tg_syntax.specs.Tree.{Exp, Int, Text, Read, Call, Binary, Assign, If, Let, Seq, Simple, Exps, no_exps, exp, Decs, no_decs, variable, functions}
use Rattle.tg_syntax.specs.Tree.{FunDecs, no_functions, function}
use Rattle.tg_syntax.specs.Spans.{joined}
use Rattle.tg_syntax.specs.Groups.{Dec, one_function, snoc_function}
use Rattle.tg_program_generator_laws.proofs.Lines.{place}

-- the identifier of this number, which is a line's k-th token
abbrev pub id : (s : ℕ → Span) → (k n : ℕ) → Ident
id s k n = record { name = record { 0 = n }; span = s k }

-- the bodies of the functions of the head
abbrev pub d_body : (ℕ → Span) → Exp
d_body s =
    Call (joined (s 13) (s 24)) (id s 13 4) (exp (Call (joined (s 15) (s 23)) (id s 15 5) (exp (Binary (joined (s 17) (s 22)) op.Plus (s 18).from
    (Read (s 17) (Simple (id s 17 2))) (Call (joined (s 19) (s 22)) (id s 19 6) (exp (Text (s 21) (codes "0")) no_exps))) no_exps)) no_exps)

abbrev pub p_body : (ℕ → Span) → Exp
p_body s =
    If (joined (s 33) (s 61)) (Binary (joined (s 34) (s 36)) op.Greater (s 35).from (Read (s 34) (Simple (id s 34 2))) (Int (s 36) 9)) (Seq (joined
    (s 38) (s 56)) (exp (Call (joined (s 39) (s 44)) (id s 39 7) (exp (Binary (joined (s 41) (s 43)) op.Divide (s 42).from (Read (s 41) (Simple (id s
    41 2))) (Int (s 43) 10)) no_exps)) (exp (Call (joined (s 46) (s 55)) (id s 46 1) (exp (Binary (joined (s 48) (s 54)) op.Minus (s 49).from (Read
    (s 48) (Simple (id s 48 2))) (Binary (joined (s 50) (s 54)) op.Times (s 53).from (Binary (joined (s 50) (s 52)) op.Divide (s 51).from (Read (s
    50) (Simple (id s 50 2))) (Int (s 52) 10)) (Int (s 54) 10))) no_exps)) no_exps))) (Call (joined (s 58) (s 61)) (id s 58 1) (exp (Read (s 60)
    (Simple (id s 60 2))) no_exps))

abbrev pub head_functions : (ℕ → Span) → FunDecs
head_functions s =
    function (id s 6 1) (record { name = (id s 8 2); kind = (id s 10 3) } ∷ []) None (d_body s)
    (function (id s 26 7) (record { name = (id s 28 2); kind = (id s 30 3) } ∷ []) None (p_body s) no_functions)

-- the declarations of the head, with a group of functions
abbrev pub head_decs : (ℕ → Span) → FunDecs → Decs
head_decs s fs = variable (id s 2 0) None (Int (s 4) 0) (functions fs no_decs)

-- the body of a line's function
abbrev pub first_body : (ℕ → Span) → Exp
first_body s = Read (s 10) (Simple (id s 10 9))

abbrev pub later_body : (k : ℕ) → (ℕ → Span) → Exp
later_body k s =
    Let (joined (s 10) (s 48)) (variable (id s 12 11) None (Binary (joined (s 14) (s 16)) op.Plus (s 15).from (Read (s 14) (Simple (id s 14 9))) (Int
    (s 16) (suc (suc k)))) (functions (function (id s 18 12) (record { name = (id s 20 13); kind = (id s 22 3) } ∷ []) (Some (id s 25 3)) (Seq
    (joined (s 27) (s 37)) (exp (Assign (joined (s 28) (s 32)) (Simple (id s 28 0)) (Binary (joined (s 30) (s 32)) op.Plus (s 31).from (Read (s 30)
    (Simple (id s 30 0))) (Read (s 32) (Simple (id s 32 13))))) (exp (Binary (joined (s 34) (s 36)) op.Plus (s 35).from (Read (s 34) (Simple (id s 34
    11))) (Read (s 36) (Simple (id s 36 13)))) no_exps))) no_functions) no_decs)) (exp (Binary (joined (s 39) (s 47)) op.Minus (s 46).from (Call
    (joined (s 39) (s 45)) (id s 39 12) (exp (Call (joined (s 41) (s 44)) (id s 41 (place k)) (exp (Read (s 43) (Simple (id s 43 11))) no_exps))
    no_exps)) (Read (s 47) (Simple (id s 47 9)))) no_exps)

abbrev pub line_body : ℕ → (ℕ → Span) → Exp
line_body zero s = first_body s
line_body (suc k) s = later_body k s

abbrev pub parameters : (ℕ → Span) → List Param
parameters s = record { name = id s 3 9; kind = id s 5 3 } ∷ []

abbrev pub line_dec : ℕ → (ℕ → Span) → Dec
line_dec n s = one_function (id s 1 (place n)) (parameters s) (Some (id s 8 3)) (line_body n s)

-- what the last line does
abbrev pub last_exps : (k : ℕ) → (ℕ → Span) → Exps
last_exps k s =
    exp (Call (joined (s 1) (s 7)) (id s 1 7) (exp (Call (joined (s 3) (s 6)) (id s 3 (place k)) (exp (Int (s 5) 0) no_exps)) no_exps)) (exp (Call
    (joined (s 9) (s 12)) (id s 9 4) (exp (Text (s 11) (10 ∷ [])) no_exps)) (exp (Call (joined (s 14) (s 17)) (id s 14 7) (exp (Read (s 16) (Simple
    (id s 16 0))) no_exps)) (exp (Call (joined (s 19) (s 22)) (id s 19 4) (exp (Text (s 21) (10 ∷ [])) no_exps)) no_exps)))

-- spans of the tokens of the head, of each line, and of the last line
pub record Spans : Type 0 where
  pub head : ℕ → Span
  pub lines : (n : ℕ) → ℕ → Span
  pub last : ℕ → Span

-- the group of all functions, and the program of one function more than a number
abbrev pub group : Spans → ℕ → FunDecs
group s zero = head_functions s.head
group s (suc n) =
    snoc_function (group s n) (id (s.lines n) 1 (place n)) (parameters (s.lines n)) (Some (id (s.lines n) 8 3)) (line_body n (s.lines n))

abbrev pub tree : Spans → ℕ → Exp
tree s k = Let (joined (s.head 0) (s.last 23)) (head_decs s.head (group s (suc k))) (last_exps k s.last)
