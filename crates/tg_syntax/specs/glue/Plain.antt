-- The plain tree of the code's tree.
use Rattle.std.specs.Prelude.{map}
use Rattle.tg_base.specs.declared.ids.Span.{Span}
use Rattle.tg_syntax.specs.declared.trees.Exp.{Exp as CodeExp}
use Rattle.tg_syntax.specs.declared.trees.Kind.{Kind, Nil, Break, Int, Text, Read, Call, Neg'}
use Rattle.tg_syntax.specs.declared.trees.Kind.{Binary', Make, Fill', Assign', If', While', For'}
use Rattle.tg_syntax.specs.declared.trees.Kind.{Let', Seq, None', Some', Row_of-Dec, end_of-Dec}
use Rattle.tg_syntax.specs.declared.trees.Kind.{more_of-Dec}
use Rattle.tg_syntax.specs.declared.trees.Var.{Var, Simple, Field', Index'}
use Rattle.tg_syntax.specs.declared.trees.Dec.{Dec, Types, Variable', Functions}
use Rattle.tg_syntax.specs.declared.trees.Exps.{Exps as CodeExps, Exps', Row_of-Exp, end_of-Exp}
use Rattle.tg_syntax.specs.declared.trees.Exps.{more_of-Exp}
use Rattle.tg_syntax.specs.declared.trees.Inits.{Inits as CodeInits, Inits', Row_of-Init}
use Rattle.tg_syntax.specs.declared.trees.Inits.{end_of-Init, more_of-Init}
use Rattle.tg_syntax.specs.declared.trees.FunDecs.{FunDecs as CodeFunDecs, FunDecs', Row_of-FunDec}
use Rattle.tg_syntax.specs.declared.trees.FunDecs.{end_of-FunDec, more_of-FunDec}
use Rattle.tg_syntax.specs.declared.trees.TypeDec.{TypeDec as CodeTypeDec}
use Rattle.tg_syntax.specs.declared.trees.Form.{Form as CodeForm}
use Rattle.tg_syntax.specs.declared.trees.Form.TheVariants.{Alias, Fields, Array}
use Rattle.tg_syntax.specs.Tree.{Form, TypeDec, Exp, LValue, Exps, no_exps, exp, Inits, no_inits}
use Rattle.tg_syntax.specs.Tree.{init, Decs, no_decs, types, variable, functions, FunDecs}
use Rattle.tg_syntax.specs.Tree.{no_functions, function}

abbrev pub plain_form : CodeForm → Form
plain_form (Alias name) = Form.Alias name
plain_form (Fields fields) = Form.Fields fields
plain_form (Array name) = Form.Array name

abbrev pub plain_type : CodeTypeDec → TypeDec
plain_type d = record { name = d.name; form = plain_form d.form }

abbrev mutual
  pub plain_kind : Kind → Span → Exp
  plain_kind Nil s = Exp.Nil s
  plain_kind Break s = Exp.Break s
  plain_kind (Int n) s = Exp.Int s n
  plain_kind (Text bytes) s = Exp.Text s bytes
  plain_kind (Read v) s = Exp.Read s (plain_lvalue v)
  plain_kind (Call f args) s = Exp.Call s f (plain_exps args)
  plain_kind (Neg' _ sa a) s = Exp.Neg s (plain_kind a sa)
  plain_kind (Binary' op at _ sa a _ sb b) s =
      Exp.Binary s op at (plain_kind a sa) (plain_kind b sb)
  plain_kind (Make name all) s = Exp.Make s name (plain_inits all)
  plain_kind (Fill' name _ sa a _ sb b) s = Exp.Fill s name (plain_kind a sa) (plain_kind b sb)
  plain_kind (Assign' v _ sa a) s = Exp.Assign s (plain_lvalue v) (plain_kind a sa)
  plain_kind (If' _ sc c _ sa a None') s = Exp.When s (plain_kind c sc) (plain_kind a sa)
  plain_kind (If' _ sc c _ sa a (Some' _ sb b)) s =
      Exp.If s (plain_kind c sc) (plain_kind a sa) (plain_kind b sb)
  plain_kind (While' _ sc c _ sa a) s = Exp.While s (plain_kind c sc) (plain_kind a sa)
  plain_kind (For' x _ sl l _ sh h _ sa a) s =
      Exp.For s x (plain_kind l sl) (plain_kind h sh) (plain_kind a sa)
  plain_kind (Let' _ ds es) s = Exp.Let s (plain_decs ds) (plain_exps es)
  plain_kind (Seq es) s = Exp.Seq s (plain_exps es)

  pub plain_lvalue : Var → LValue
  plain_lvalue (Simple x) = LValue.Simple x
  plain_lvalue (Field' _ v f) = LValue.Field (plain_lvalue v) f
  plain_lvalue (Index' _ v _ s e) = LValue.Index (plain_lvalue v) (plain_kind e s)

  pub plain_exps : CodeExps → Exps
  plain_exps (Exps' _ row) = plain_exp_row row

  pub plain_exp_row : {n : _} → Row_of-Exp n → Exps
  plain_exp_row end_of-Exp = no_exps
  plain_exp_row (more_of-Exp s e rest) = exp (plain_kind e s) (plain_exp_row rest)

  pub plain_inits : CodeInits → Inits
  plain_inits (Inits' _ row) = plain_init_row row

  pub plain_init_row : {n : _} → Row_of-Init n → Inits
  plain_init_row end_of-Init = no_inits
  plain_init_row (more_of-Init f s e rest) = init f (plain_kind e s) (plain_init_row rest)

  -- a declaration, before others
  pub plain_dec : Dec → Decs → Decs
  plain_dec (Types ds) rest = types (map plain_type ds) rest
  plain_dec (Variable' x t s e) rest = variable x t (plain_kind e s) rest
  plain_dec (Functions fs) rest = functions (plain_functions fs) rest

  pub plain_decs : {n : _} → Row_of-Dec n → Decs
  plain_decs end_of-Dec = no_decs
  plain_decs (more_of-Dec d rest) = plain_dec d (plain_decs rest)

  pub plain_functions : CodeFunDecs → FunDecs
  plain_functions (FunDecs' _ row) = plain_function_row row

  pub plain_function_row : {n : _} → Row_of-FunDec n → FunDecs
  plain_function_row end_of-FunDec = no_functions
  plain_function_row (more_of-FunDec f params result s e rest) =
      function f params result (plain_kind e s) (plain_function_row rest)

abbrev pub plain : CodeExp → Exp
plain e = plain_kind e.kind e.span
