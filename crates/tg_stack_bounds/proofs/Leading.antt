-- A text leads where each of its uses crosses no more levels, by a table of the levels at which
-- variables and functions are declared, than by its name. What a translation has found keeps to the
-- table.
use Rattle.std.specs.Prelude.{◌≡◌, ◌≤◌, ◌+◌, ℕ, suc, List, [], ◌∷◌, Option, Some}
use Rattle.tg_symbols.specs.Tables.{looked_up}
use Rattle.tg_syntax.specs.declared.trees.Param.{Param}
use Rattle.tg_syntax.specs.Functions.{Levels, crossed, own, own_params, own_functions, own_decs}
use Rattle.tg_syntax.specs.Tree.{Exp, Nil, Break, Int, Text, Read, Call, Neg, Binary, Make, Fill, Assign, If, When, While, For, Let, Seq}
use Rattle.tg_syntax.specs.Tree.{LValue, Simple, Field, Index, Exps, no_exps, exp, Inits, no_inits, init, Decs, no_decs, types, variable, functions}
use Rattle.tg_syntax.specs.Tree.{FunDecs, no_functions, function}
use Rattle.tg_typecheck.specs.declared.notes.Means.{Means}
use Rattle.tg_typecheck.specs.declared.notes.Means.TheVariants as means
use Rattle.tg_translate.specs.declared.homes.Home.{Home}
use Rattle.tg_translate.specs.declared.homes.Callee.{Callee}
use Rattle.tg_translate.specs.mirror.States.{TranslationState}
use Rattle.tg_translate.specs.mirror.Scopes.{Findings}
use Rattle.tg_translate.specs.mirror.Functions.{at_of}

-- the level of the text in which a variable or a function is declared, by the byte of its name
pub record LevelTable : Type 0 where
  pub variables : ℕ → ℕ
  pub functions : ℕ → ℕ

module _ (table : LevelTable) where
  -- a state whose homes and callees have the levels of the table
  pub record Keeps (s : TranslationState) : Type 0 where
    pub home : (at : ℕ) (k : Home) → looked_up at s.homes ≡ Some k → k.level ≡ table.variables at
    pub callee : (at : ℕ) (k : Callee) → looked_up at s.callees ≡ Some k → k.level ≡ table.functions at

  -- the levels that a use crosses, by the table, are at most those that it crosses by its name
  abbrev pub Crosses : (level most : ℕ) → Option Means → Type 0
  Crosses level most (Some (means.Variable at)) = level ≤ table.variables at + most
  Crosses level most (Some (means.Function at)) = level ≤ table.functions at + most
  Crosses level most _ = Unit {0}

  abbrev pub AreAt : (n : ℕ) → FunDecs → Type 0
  AreAt n no_functions = Unit {0}
  AreAt n (function f _ _ _ rest) = (n ≡ table.functions (at_of f)) × AreAt n rest

  abbrev pub AreParamsAt : (n : ℕ) → List Param → Type 0
  AreParamsAt n [] = Unit {0}
  AreParamsAt n (p ∷ params) = (n ≡ table.variables (at_of p.name)) × AreParamsAt n params

  module _ (findings : Findings) where
    abbrev mutual
      pub Leads : (n : ℕ) → Levels → Exp → Type 0
      Leads n seen (Nil _) = Unit {0}
      Leads n seen (Break _) = Unit {0}
      Leads n seen (Int _ _) = Unit {0}
      Leads n seen (Text _ _) = Unit {0}
      Leads n seen (Read _ v) = LeadsPlace n seen v
      Leads n seen (Call _ f args) = Crosses n (crossed n seen f) (findings.meaning (at_of f)) × LeadsExps n seen args
      Leads n seen (Neg _ a) = Leads n seen a
      Leads n seen (Binary _ _ _ a b) = Leads n seen a × Leads n seen b
      Leads n seen (Make _ _ inits) = LeadsInits n seen inits
      Leads n seen (Fill _ _ a b) = Leads n seen a × Leads n seen b
      Leads n seen (Assign _ v a) = LeadsPlace n seen v × Leads n seen a
      Leads n seen (If _ c a b) = Leads n seen c × Leads n seen a × Leads n seen b
      Leads n seen (When _ c a) = Leads n seen c × Leads n seen a
      Leads n seen (While _ c a) = Leads n seen c × Leads n seen a
      Leads n seen (For _ x low high a) =
          (n ≡ table.variables (at_of x)) × Leads n seen low × Leads n seen high × Leads n (own n x seen) a
      Leads n seen (Let _ ds es) = LeadsDecs n seen ds × LeadsExps n (own_decs n ds seen) es
      Leads n seen (Seq _ es) = LeadsExps n seen es

      pub LeadsPlace : (n : ℕ) → Levels → LValue → Type 0
      LeadsPlace n seen (Simple x) = Crosses n (crossed n seen x) (findings.meaning (at_of x))
      LeadsPlace n seen (Field v _) = LeadsPlace n seen v
      LeadsPlace n seen (Index v e) = LeadsPlace n seen v × Leads n seen e

      pub LeadsExps : (n : ℕ) → Levels → Exps → Type 0
      LeadsExps n seen no_exps = Unit {0}
      LeadsExps n seen (exp e rest) = Leads n seen e × LeadsExps n seen rest

      pub LeadsInits : (n : ℕ) → Levels → Inits → Type 0
      LeadsInits n seen no_inits = Unit {0}
      LeadsInits n seen (init _ e rest) = Leads n seen e × LeadsInits n seen rest

      pub LeadsDecs : (n : ℕ) → Levels → Decs → Type 0
      LeadsDecs n seen no_decs = Unit {0}
      LeadsDecs n seen (types _ rest) = LeadsDecs n seen rest
      LeadsDecs n seen (variable x _ e rest) = (n ≡ table.variables (at_of x)) × Leads n seen e × LeadsDecs n (own n x seen) rest
      LeadsDecs n seen (functions fs rest) =
          AreAt n fs × LeadsBodies n (own_functions n fs seen) fs × LeadsDecs n (own_functions n fs seen) rest

      -- of a group, which sees itself
      pub LeadsBodies : (n : ℕ) → Levels → FunDecs → Type 0
      LeadsBodies n seen no_functions = Unit {0}
      LeadsBodies n seen (function f params _ e rest) =
          AreParamsAt (suc n) params × Leads (suc n) (own_params (suc n) params seen) e × LeadsBodies n seen rest
