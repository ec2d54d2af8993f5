-- The type of each part among facts, where no rule before it is broken.
use Rattle.std.specs.Prelude.{ℕ, List}
use Rattle.tg_syntax.specs.Tree.{Exp, Nil, Break, Int, Text, Read, Call, Neg, Binary, Make, Fill}
use Rattle.tg_syntax.specs.Tree.{Assign, If, When, While, For, Let, Seq, LValue, Simple, Field}
use Rattle.tg_syntax.specs.Tree.{Index, Exps, no_exps, exp}
use Rattle.tg_explain_typing.specs.declared.types.Ty.{Ty}
use Rattle.tg_explain_typing.specs.declared.types.Ty.TheVariants as type
use Rattle.tg_explain_typing.specs.declared.facts.Fact.{Fact}
use Rattle.tg_explain_typing.specs.Types.{joined}
use Rattle.tg_explain_typing.specs.Lookups.{variable_type, result_type, named_type, field_type}
use Rattle.tg_explain_typing.specs.Lookups.{element_type}

abbrev pub place_type : (text : List ℕ) → List Fact → LValue → Ty
place_type text facts (Simple x) = variable_type x facts type.Nothing
place_type text facts (Field v f) = field_type text facts (place_type text facts v) f
place_type text facts (Index v _) = element_type text facts (place_type text facts v)

abbrev mutual
  pub exp_type : (text : List ℕ) → List Fact → Exp → Ty
  exp_type text facts (Nil _) = type.Nil
  exp_type text facts (Break _) = type.Nothing
  exp_type text facts (Int _ _) = type.Int
  exp_type text facts (Text _ _) = type.Text
  exp_type text facts (Read _ v) = place_type text facts v
  exp_type text facts (Call _ f _) = result_type text facts f
  exp_type text facts (Neg _ _) = type.Int
  exp_type text facts (Binary _ _ _ _ _) = type.Int
  exp_type text facts (Make _ x _) = named_type text facts x
  exp_type text facts (Fill _ x _ _) = named_type text facts x
  exp_type text facts (Assign _ _ _) = type.Nothing
  exp_type text facts (If _ _ this other) =
      joined (exp_type text facts this) (exp_type text facts other)
  exp_type text facts (When _ _ _) = type.Nothing
  exp_type text facts (While _ _ _) = type.Nothing
  exp_type text facts (For _ _ _ _ _) = type.Nothing
  exp_type text facts (Let _ _ es) = last_type text facts es
  exp_type text facts (Seq _ es) = last_type text facts es

  -- of the last one
  pub last_type : (text : List ℕ) → List Fact → Exps → Ty
  last_type text facts no_exps = type.Nothing
  last_type text facts (exp e no_exps) = exp_type text facts e
  last_type text facts (exp e (exp other rest)) = last_type text facts (exp other rest)
