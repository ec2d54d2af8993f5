-- Trees without the places of the text.
use Rattle.std.specs.Prelude.{List, map, option_map}
use Rattle.tg_base.specs.declared.ids.Span.{Span}
use Rattle.tg_syntax.specs.declared.tokens.Ident.{Ident}
use Rattle.tg_syntax.specs.declared.trees.Param.{Param}
use Rattle.tg_syntax.specs.Tree.{Form, Alias, Fields, Array, TypeDec, Exp, Nil, Break, Int, Text}
use Rattle.tg_syntax.specs.Tree.{Read, Call, Neg, Binary, Make, Fill, Assign, If, When, While, For}
use Rattle.tg_syntax.specs.Tree.{Let, Seq, LValue, Simple, Field, Index, Exps, no_exps, exp, Inits}
use Rattle.tg_syntax.specs.Tree.{no_inits, init, Decs, no_decs, types, variable, functions}
use Rattle.tg_syntax.specs.Tree.{FunDecs, no_functions, function}

abbrev pub no_span : Span
no_span = record { from = 0; to = 0 }

abbrev pub spanless_ident : Ident → Ident
spanless_ident x = record { name = x.name; span = no_span }

abbrev pub spanless_param : Param → Param
spanless_param p = record { name = spanless_ident p.name; kind = spanless_ident p.kind }

abbrev pub spanless_form : Form → Form
spanless_form (Alias x) = Alias (spanless_ident x)
spanless_form (Fields ps) = Fields (map spanless_param ps)
spanless_form (Array x) = Array (spanless_ident x)

abbrev pub spanless_type : TypeDec → TypeDec
spanless_type d = record { name = spanless_ident d.name; form = spanless_form d.form }

-- a tree with 0 in place of each span, and of the byte of each operator
abbrev mutual
  pub without_spans : Exp → Exp
  without_spans (Nil _) = Nil no_span
  without_spans (Break _) = Break no_span
  without_spans (Int _ n) = Int no_span n
  without_spans (Text _ bytes) = Text no_span bytes
  without_spans (Read _ v) = Read no_span (spanless_place v)
  without_spans (Call _ f es) = Call no_span (spanless_ident f) (spanless_exps es)
  without_spans (Neg _ a) = Neg no_span (without_spans a)
  without_spans (Binary _ op _ a b) = Binary no_span op 0 (without_spans a) (without_spans b)
  without_spans (Make _ x is) = Make no_span (spanless_ident x) (spanless_inits is)
  without_spans (Fill _ x a b) =
      Fill no_span (spanless_ident x) (without_spans a) (without_spans b)
  without_spans (Assign _ v a) = Assign no_span (spanless_place v) (without_spans a)
  without_spans (If _ c a b) = If no_span (without_spans c) (without_spans a) (without_spans b)
  without_spans (When _ c a) = When no_span (without_spans c) (without_spans a)
  without_spans (While _ c a) = While no_span (without_spans c) (without_spans a)
  without_spans (For _ x l h a) =
      For no_span (spanless_ident x) (without_spans l) (without_spans h) (without_spans a)
  without_spans (Let _ ds es) = Let no_span (spanless_decs ds) (spanless_exps es)
  without_spans (Seq _ es) = Seq no_span (spanless_exps es)

  pub spanless_place : LValue → LValue
  spanless_place (Simple x) = Simple (spanless_ident x)
  spanless_place (Field v x) = Field (spanless_place v) (spanless_ident x)
  spanless_place (Index v e) = Index (spanless_place v) (without_spans e)

  pub spanless_exps : Exps → Exps
  spanless_exps no_exps = no_exps
  spanless_exps (exp e rest) = exp (without_spans e) (spanless_exps rest)

  pub spanless_inits : Inits → Inits
  spanless_inits no_inits = no_inits
  spanless_inits (init x e rest) = init (spanless_ident x) (without_spans e) (spanless_inits rest)

  pub spanless_decs : Decs → Decs
  spanless_decs no_decs = no_decs
  spanless_decs (types ts rest) = types (map spanless_type ts) (spanless_decs rest)
  spanless_decs (variable x k e rest) =
      variable (spanless_ident x) (option_map spanless_ident k) (without_spans e)
      (spanless_decs rest)
  spanless_decs (functions fs rest) = functions (spanless_functions fs) (spanless_decs rest)

  pub spanless_functions : FunDecs → FunDecs
  spanless_functions no_functions = no_functions
  spanless_functions (function f ps k e rest) =
      function (spanless_ident f) (map spanless_param ps) (option_map spanless_ident k)
      (without_spans e) (spanless_functions rest)
