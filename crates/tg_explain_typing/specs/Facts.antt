-- The facts of a program, in the order in which it is checked, and what is asked where a part
-- begins at one byte. A variable is seen behind its declaration, a group from its first name on,
-- each up to the end of its `let`; parameters and loop variables in their bodies (Appel, appendix
-- A.2).
use Rattle.std.specs.Prelude.{ℕ, suc, ◌==◌, List, [], ◌∷◌, ◌++◌, map, Option, Some, None, Bool}
use Rattle.std.specs.Prelude.{true, false, if◌then◌else◌}
use Rattle.tg_base.specs.declared.ids.Span.{Span}
use Rattle.tg_syntax.specs.declared.tokens.Ident.{Ident}
use Rattle.tg_syntax.specs.declared.trees.Param.{Param}
use Rattle.tg_syntax.specs.declared.trees.Op.{Op}
use Rattle.tg_syntax.specs.declared.trees.Op.TheVariants.{Equal, NotEqual, Less, LessEqual, Greater}
use Rattle.tg_syntax.specs.declared.trees.Op.TheVariants.{GreaterEqual}
use Rattle.tg_syntax.specs.Spans.{span_of}
use Rattle.tg_syntax.specs.Tree.{Alias, Fields, Array, TypeDec, Exp, Nil, Break, Int, Text, Read}
use Rattle.tg_syntax.specs.Tree.{Call, Neg, Binary, Make, Fill, Assign, If, When, While, For, Let}
use Rattle.tg_syntax.specs.Tree.{Seq, LValue, Simple, Field, Index, Exps, no_exps, exp, Inits}
use Rattle.tg_syntax.specs.Tree.{no_inits, init, Decs, no_decs, types, variable, functions, FunDecs}
use Rattle.tg_syntax.specs.Tree.{no_functions, function}
use Rattle.tg_explain_typing.specs.declared.types.Ty.{Ty}
use Rattle.tg_explain_typing.specs.declared.types.Ty.TheVariants as type
use Rattle.tg_explain_typing.specs.declared.facts.Meaning.TheVariants as meaning
use Rattle.tg_explain_typing.specs.declared.facts.Demand.{Demand}
use Rattle.tg_explain_typing.specs.declared.facts.Demand.TheVariants.{Fits, Valueless, Ordered}
use Rattle.tg_explain_typing.specs.declared.facts.Demand.TheVariants.{Valued, Like, Joins, Own}
use Rattle.tg_explain_typing.specs.declared.facts.Demand.TheVariants.{BesideNil, Fielded, Made}
use Rattle.tg_explain_typing.specs.declared.facts.Demand.TheVariants.{Indexed, Has}
use Rattle.tg_explain_typing.specs.declared.facts.Fact.{Fact}
use Rattle.tg_explain_typing.specs.declared.facts.Fact.TheVariants as fact
use Rattle.tg_explain_typing.specs.Lookups.{param_type, named_type, kind_type, field_type}
use Rattle.tg_explain_typing.specs.Lookups.{element_type}
use Rattle.tg_explain_typing.specs.Synthesis.{exp_type, place_type}

abbrev pub between : (from to : ℕ) → Span
between from to = record { from = from; to = to }

-- ---- what is asked

-- at the byte that is asked about
abbrev pub judged : (at start : ℕ) → Demand → Ty → (before : List Fact) → List Fact
judged at start demand got before =
    if start == at then before ++ fact.Judged demand got ∷ [] else before

unfoldable pub weighed :
    (text : List ℕ) → (at : ℕ) → Exp → Demand → (before : List Fact) → List Fact
weighed text at e demand before =
    judged at (span_of e).from demand (exp_type text before e) before

-- what an operator asks of its left side
abbrev pub left_demand : Op → Demand
left_demand Less = Ordered
left_demand LessEqual = Ordered
left_demand Greater = Ordered
left_demand GreaterEqual = Ordered
left_demand Equal = Valued
left_demand NotEqual = Valued
left_demand _ = Fits type.Int

-- what an operator asks of its right side, by the type of its left one
abbrev pub right_demand : Op → (left : Ty) → Demand
right_demand Equal left = Like left
right_demand NotEqual left = Like left
right_demand Less left = Fits left
right_demand LessEqual left = Fits left
right_demand Greater left = Fits left
right_demand GreaterEqual left = Fits left
right_demand _ left = Fits type.Int

abbrev pub is_equality : Op → Bool
is_equality Equal = true
is_equality NotEqual = true
is_equality _ = false

-- what is asked of the sides of an operator, behind its right one
unfoldable pub compared :
    (text : List ℕ) → (at whole : ℕ) → Op → (a b : Exp) → (before : List Fact) → List Fact
compared text at whole op a b before =
    let left = exp_type text before a in
    let all = weighed text at b (right_demand op left) before in
    if is_equality op then judged at whole (BesideNil left) (exp_type text before b) all else all

unfoldable pub made : (text : List ℕ) → (at : ℕ) → Ident → (before : List Fact) → List Fact
made text at x before = judged at x.span.from Made (named_type text before x) before

unfoldable pub filled : (text : List ℕ) → (at : ℕ) → Ident → (before : List Fact) → List Fact
filled text at x before = judged at x.span.from Indexed (named_type text before x) before

-- the value of each element
unfoldable pub repeated :
    (text : List ℕ) → (at : ℕ) → Ident → Exp → (before : List Fact) → List Fact
repeated text at x e before =
    weighed text at e (Fits (element_type text before (named_type text before x))) before

unfoldable pub assigned :
    (text : List ℕ) → (at : ℕ) → LValue → Exp → (before : List Fact) → List Fact
assigned text at v e before = weighed text at e (Fits (place_type text before v)) before

unfoldable pub chosen :
    (text : List ℕ) → (at : ℕ) → (this other : Exp) → (before : List Fact) → List Fact
chosen text at this other before =
    weighed text at other (Joins (exp_type text before this)) before

abbrev pub place_start : LValue → ℕ
place_start (Simple x) = x.span.from
place_start (Field v _) = place_start v
place_start (Index v _) = place_start v

unfoldable pub selected :
    (text : List ℕ) → (at : ℕ) → LValue → Ident → (before : List Fact) → List Fact
selected text at v f before =
    let got = place_type text before v in
    judged at f.span.from (Has f) got (judged at (place_start v) Fielded got before)

unfoldable pub indexed : (text : List ℕ) → (at : ℕ) → LValue → (before : List Fact) → List Fact
indexed text at v before = judged at (place_start v) Indexed (place_type text before v) before

unfoldable pub passed :
    (text : List ℕ) → (at : ℕ) → Ident → (index : ℕ) → Exp → (before : List Fact) → List Fact
passed text at f index e before =
    weighed text at e (Fits (param_type text before f index)) before

unfoldable pub given :
    (text : List ℕ) → (at : ℕ) → (x f : Ident) → Exp → (before : List Fact) → List Fact
given text at x f e before =
    weighed text at e (Fits (field_type text before (named_type text before x) f)) before

unfoldable pub outcome : (text : List ℕ) → List Fact → Option Ident → Demand
outcome text before None = Valueless
outcome text before (Some x) = Fits (named_type text before x)

-- a function's body, behind it
unfoldable pub ended :
    (text : List ℕ) → (at : ℕ) → Option Ident → Exp → (before : List Fact) → List Fact
ended text at result body before = weighed text at body (outcome text before result) before

-- ---- declarations

-- a variable, behind its value
unfoldable pub declared :
    (text : List ℕ) → (at : ℕ) → Ident → Option Ident → Exp → (end : ℕ) → (before : List Fact) →
    List Fact
declared text at x None e end before =
    weighed text at e (Own x) before
    ++ fact.Variable x (exp_type text before e) (between (span_of e).to end) ∷ []
declared text at x (Some kind) e end before =
    weighed text at e (Fits (named_type text before kind)) before
    ++ fact.Variable x (named_type text before kind) (between (span_of e).to end) ∷ []

abbrev pub types_start : List TypeDec → ℕ
types_start [] = 0
types_start (d ∷ ds) = d.name.span.from

unfoldable pub type_facts : TypeDec → (seen : Span) → (before : List Fact) → List Fact
type_facts d seen before =
    elim d.form [
      | Alias x ↦ before ++ fact.TypeName d.name (meaning.Alias x) seen ∷ []
      | Fields ps ↦
          before ++ fact.TypeName d.name (meaning.Known (type.Record d.name.span.from)) seen ∷ []
          ++ map (λ p. fact.Field d.name.span.from p) ps
      | Array x ↦
          before ++ fact.TypeName d.name (meaning.Known (type.Array d.name.span.from)) seen ∷ []
          ++ fact.Element d.name.span.from x ∷ []
    ]

abbrev pub types_facts : List TypeDec → (seen : Span) → (before : List Fact) → List Fact
types_facts [] seen before = before
types_facts (d ∷ ds) seen before = types_facts ds seen (type_facts d seen before)

abbrev pub params_facts :
    (text : List ℕ) → Ident → (index : ℕ) → List Param → (seen : Span) → (before : List Fact) →
    List Fact
params_facts text f index [] seen before = before
params_facts text f index (p ∷ ps) seen before =
    params_facts text f (suc index) ps seen
    (before ++ fact.Param f index (named_type text before p.kind) seen ∷ [])

abbrev pub functions_start : FunDecs → ℕ
functions_start no_functions = 0
functions_start (function f _ _ _ _) = f.span.from

unfoldable pub header_facts :
    (text : List ℕ) → Ident → List Param → Option Ident → (seen : Span) → (before : List Fact) →
    List Fact
header_facts text f ps result seen before =
    params_facts text f 0 ps seen
    (before ++ fact.Function f (kind_type text before result) seen ∷ [])

abbrev pub headers_facts :
    (text : List ℕ) → FunDecs → (seen : Span) → (before : List Fact) → List Fact
headers_facts text no_functions seen before = before
headers_facts text (function f ps result _ rest) seen before =
    headers_facts text rest seen (header_facts text f ps result seen before)

abbrev pub variables_facts :
    (text : List ℕ) → List Param → (seen : Span) → (before : List Fact) → List Fact
variables_facts text [] seen before = before
variables_facts text (p ∷ ps) seen before =
    variables_facts text ps seen
    (before ++ fact.Variable p.name (named_type text before p.kind) seen ∷ [])

unfoldable pub opened_facts :
    (text : List ℕ) → Ident → List Param → (seen : Span) → (before : List Fact) → List Fact
opened_facts text f ps seen before =
    variables_facts text ps seen (before ++ fact.Body f seen ∷ [])

-- ---- the facts before, and then those of a tree

abbrev mutual
  pub exp_facts : (text : List ℕ) → (at : ℕ) → Exp → (before : List Fact) → List Fact
  exp_facts text at (Nil _) before = before
  exp_facts text at (Break _) before = before
  exp_facts text at (Int _ _) before = before
  exp_facts text at (Text _ _) before = before
  exp_facts text at (Read _ v) before = place_facts text at v before
  exp_facts text at (Call _ f args) before = args_facts text at f 0 args before
  exp_facts text at (Neg _ a) before =
      weighed text at a (Fits type.Int) (exp_facts text at a before)
  exp_facts text at (Binary s op _ a b) before =
      compared text at s.from op a b
      (exp_facts text at b (weighed text at a (left_demand op) (exp_facts text at a before)))
  exp_facts text at (Make _ x inits) before = inits_facts text at x inits (made text at x before)
  exp_facts text at (Fill _ x size value) before =
      repeated text at x value
      (exp_facts text at value
      (weighed text at size (Fits type.Int) (exp_facts text at size (filled text at x before))))
  exp_facts text at (Assign _ v e) before =
      assigned text at v e (exp_facts text at e (place_facts text at v before))
  exp_facts text at (If _ test this other) before =
      chosen text at this other
      (exp_facts text at other
      (exp_facts text at this
      (weighed text at test (Fits type.Int) (exp_facts text at test before))))
  exp_facts text at (When _ test this) before =
      weighed text at this Valueless
      (exp_facts text at this
      (weighed text at test (Fits type.Int) (exp_facts text at test before)))
  exp_facts text at (While s test body) before =
      weighed text at body Valueless
      (exp_facts text at body
      (weighed text at test (Fits type.Int) (exp_facts text at test before)
      ++ fact.Loop s.from (span_of body) ∷ []))
  exp_facts text at (For s x low high body) before =
      weighed text at body Valueless
      (exp_facts text at body
      (weighed text at high (Fits type.Int)
      (exp_facts text at high (weighed text at low (Fits type.Int) (exp_facts text at low before)))
      ++ fact.Variable x type.Int (span_of body) ∷ [] ++ fact.Loop s.from (span_of body) ∷ []))
  exp_facts text at (Let s ds es) before =
      exps_facts text at es (decs_facts text at ds s.to before)
  exp_facts text at (Seq _ es) before = exps_facts text at es before

  pub place_facts : (text : List ℕ) → (at : ℕ) → LValue → (before : List Fact) → List Fact
  place_facts text at (Simple _) before = before
  place_facts text at (Field v f) before = selected text at v f (place_facts text at v before)
  place_facts text at (Index v e) before =
      weighed text at e (Fits type.Int)
      (exp_facts text at e (indexed text at v (place_facts text at v before)))

  pub exps_facts : (text : List ℕ) → (at : ℕ) → Exps → (before : List Fact) → List Fact
  exps_facts text at no_exps before = before
  exps_facts text at (exp e rest) before =
      exps_facts text at rest (exp_facts text at e before)

  pub args_facts :
      (text : List ℕ) → (at : ℕ) → Ident → (index : ℕ) → Exps → (before : List Fact) → List Fact
  args_facts text at f index no_exps before = before
  args_facts text at f index (exp e rest) before =
      args_facts text at f (suc index) rest
      (passed text at f index e (exp_facts text at e before))

  pub inits_facts :
      (text : List ℕ) → (at : ℕ) → Ident → Inits → (before : List Fact) → List Fact
  inits_facts text at x no_inits before = before
  inits_facts text at x (init f e rest) before =
      inits_facts text at x rest
      (given text at x f e (exp_facts text at e (before ++ fact.Given x.span.from f ∷ [])))

  -- declarations of a `let` that ends at a byte
  pub decs_facts :
      (text : List ℕ) → (at : ℕ) → Decs → (end : ℕ) → (before : List Fact) → List Fact
  decs_facts text at no_decs end before = before
  decs_facts text at (types ds rest) end before =
      decs_facts text at rest end (types_facts ds (between (types_start ds) end) before)
  decs_facts text at (variable x kind e rest) end before =
      decs_facts text at rest end
      (declared text at x kind e end (exp_facts text at e before))
  decs_facts text at (functions fs rest) end before =
      decs_facts text at rest end
      (bodies_facts text at fs
      (headers_facts text fs (between (functions_start fs) end) before))

  pub bodies_facts : (text : List ℕ) → (at : ℕ) → FunDecs → (before : List Fact) → List Fact
  bodies_facts text at no_functions before = before
  bodies_facts text at (function f ps result body rest) before =
      bodies_facts text at rest
      (ended text at result body
      (exp_facts text at body (opened_facts text f ps (span_of body) before)))
