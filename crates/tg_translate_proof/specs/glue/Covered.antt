-- What was found of a text fits it, wherever the text stands: a variable of a function further out
-- that it uses escapes, the functions in between keep their static links in slots, and each
-- function that it declares weighs what its text weighs.
use Rattle.std.specs.Prelude.{ℕ, suc, ◌≡◌, ◌<◌, ◌==◌, Bool, true, if◌then◌else◌, Option, Some, None}
use Rattle.tg_syntax.specs.declared.tokens.Ident.{Ident}
use Rattle.tg_syntax.specs.declared.trees.Param.{Param}
use Rattle.tg_syntax.specs.Tree.{Exp, Nil, Break, Int, Text, Read, Call, Neg, Binary, Make, Fill}
use Rattle.tg_syntax.specs.Tree.{Assign, If, When, While, For, Let, Seq, LValue, Simple, Field}
use Rattle.tg_syntax.specs.Tree.{Index, Exps, no_exps, exp, Inits, no_inits, init, Decs, no_decs}
use Rattle.tg_syntax.specs.Tree.{types, variable, functions, FunDecs, no_functions, function}
use Rattle.tg_syntax.specs.Functions.{Levels, own, own_params, own_functions, own_decs}
use Rattle.tg_syntax.specs.Functions.{function_nodes, function_hops}
use Rattle.tg_symbols.specs.Tables.{looked_up}
use Rattle.tg_semantics.specs.Levels.{activation}
use Rattle.tg_typecheck.specs.declared.notes.Means.{Means}
use Rattle.tg_typecheck.specs.declared.notes.Means.TheVariants.{Variable, Function}
use Rattle.tg_typecheck.specs.Scopes.{at_of}
use Rattle.tg_translate.specs.declared.homes.Home.{Home}
use Rattle.tg_translate.specs.declared.homes.Callee.{Callee}
use Rattle.tg_translate.specs.mirror.Scopes.{Findings}
use Rattle.tg_translate_proof.specs.glue.Tables.{Table}

-- which functions around a text keep their static links in slots, by their levels; the text's own
-- function is among them
abbrev pub Keeping : Type 0
Keeping = (level : ℕ) → Bool

-- with a function of this level
abbrev pub with_level : (level : ℕ) → Bool → Keeping → Keeping
with_level l kept keeps k = if k == l then kept else keeps k

-- from a text of the first level links lead to the frame at the second
abbrev pub LinksLead : Keeping → (from to : ℕ) → Type 0
LinksLead keeps from to = (l : ℕ) → to < l → l < from → keeps l ≡ true

-- with what was found of the program, the homes and callees of its translation, and the weights of
-- its functions by the bytes of their names
module _ (findings : Findings) (table : Table) (weight : (at : ℕ) → ℕ) where
  -- a variable, where it is used in a text of this level
  pub record IsNearVariable (level : ℕ) (keeps : Keeping) (at : ℕ) (home : Home) : Type 0 where
    pub escapes : home.level < level → findings.escapes at ≡ true
    pub leads : LinksLead keeps level home.level

  -- a use of a name, by what is noted there
  abbrev pub CoversUse : (level : ℕ) → Keeping → Option Means → Type 0
  CoversUse n keeps (Some (Variable at)) =
      (home : Home) → looked_up at table.homes ≡ Some home → IsNearVariable n keeps at home
  CoversUse n keeps (Some (Function at)) =
      (callee : Callee) → looked_up at table.callees ≡ Some callee → LinksLead keeps n callee.level
  CoversUse n keeps _ = Unit {0}

  abbrev pub CoversName : (level : ℕ) → Keeping → Ident → Type 0
  CoversName n keeps x = CoversUse n keeps (findings.meaning (at_of x))

  abbrev mutual
    pub Covers : (level : ℕ) → Keeping → Levels → Exp → Type 0
    Covers n keeps seen (Nil _) = Unit {0}
    Covers n keeps seen (Break _) = Unit {0}
    Covers n keeps seen (Int _ _) = Unit {0}
    Covers n keeps seen (Text _ _) = Unit {0}
    Covers n keeps seen (Read _ v) = CoversPlace n keeps seen v
    Covers n keeps seen (Call _ f args) = CoversName n keeps f × CoversExps n keeps seen args
    Covers n keeps seen (Neg _ a) = Covers n keeps seen a
    Covers n keeps seen (Binary _ _ _ a b) = Covers n keeps seen a × Covers n keeps seen b
    Covers n keeps seen (Make _ _ inits) = CoversInits n keeps seen inits
    Covers n keeps seen (Fill _ _ a b) = Covers n keeps seen a × Covers n keeps seen b
    Covers n keeps seen (Assign _ v a) = CoversPlace n keeps seen v × Covers n keeps seen a
    Covers n keeps seen (If _ c a b) =
        Covers n keeps seen c × Covers n keeps seen a × Covers n keeps seen b
    Covers n keeps seen (When _ c a) = Covers n keeps seen c × Covers n keeps seen a
    Covers n keeps seen (While _ c a) = Covers n keeps seen c × Covers n keeps seen a
    Covers n keeps seen (For _ x l h a) =
        Covers n keeps seen l × Covers n keeps seen h × Covers n keeps (own n x seen) a
    Covers n keeps seen (Let _ ds es) =
        CoversDecs n keeps seen ds × CoversExps n keeps (own_decs n ds seen) es
    Covers n keeps seen (Seq _ es) = CoversExps n keeps seen es

    pub CoversPlace : (level : ℕ) → Keeping → Levels → LValue → Type 0
    CoversPlace n keeps seen (Simple x) = CoversName n keeps x
    CoversPlace n keeps seen (Field v _) = CoversPlace n keeps seen v
    CoversPlace n keeps seen (Index v e) = CoversPlace n keeps seen v × Covers n keeps seen e

    pub CoversExps : (level : ℕ) → Keeping → Levels → Exps → Type 0
    CoversExps n keeps seen no_exps = Unit {0}
    CoversExps n keeps seen (exp e rest) = Covers n keeps seen e × CoversExps n keeps seen rest

    pub CoversInits : (level : ℕ) → Keeping → Levels → Inits → Type 0
    CoversInits n keeps seen no_inits = Unit {0}
    CoversInits n keeps seen (init _ e rest) =
        Covers n keeps seen e × CoversInits n keeps seen rest

    pub CoversDecs : (level : ℕ) → Keeping → Levels → Decs → Type 0
    CoversDecs n keeps seen no_decs = Unit {0}
    CoversDecs n keeps seen (types _ rest) = CoversDecs n keeps seen rest
    CoversDecs n keeps seen (variable x _ e rest) =
        Covers n keeps seen e × CoversDecs n keeps (own n x seen) rest
    CoversDecs n keeps seen (functions fs rest) =
        CoversFunctions n keeps (own_functions n fs seen) fs ×
        CoversDecs n keeps (own_functions n fs seen) rest

    -- of a group, which sees itself
    pub CoversFunctions : (level : ℕ) → Keeping → Levels → FunDecs → Type 0
    CoversFunctions n keeps seen no_functions = Unit {0}
    CoversFunctions n keeps seen (function f params _ body rest) =
        (weight (at_of f) ≡
        activation (function_nodes params body) (function_hops (suc n) seen params body)) ×
        Covers (suc n) (with_level (suc n) (findings.keeps_link (at_of f)) keeps)
        (own_params (suc n) params seen) body ×
        CoversFunctions n keeps seen rest
