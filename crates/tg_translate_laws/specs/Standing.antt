-- What a program's text has, of which the shapes of its trees come: each break stands in a loop of
-- its function, and each variable that a text uses is one of its function or escapes.
use Rattle.std.specs.Prelude.{◌≡◌, ◌⊎◌, ℕ, Bool, true, false, IsTrue, List, [], ◌∷◌, ◌++◌, map}
use Rattle.std.specs.Prelude.{Option, Some}
use Rattle.std.specs.List.{Contains}
use Rattle.tg_syntax.specs.declared.trees.Param.{Param}
use Rattle.tg_syntax.specs.Tree.{Exp, Nil, Break, Int, Text, Read, Call, Neg, Binary, Make, Fill}
use Rattle.tg_syntax.specs.Tree.{Assign, If, When, While, For, Let, Seq, LValue, Simple, Field}
use Rattle.tg_syntax.specs.Tree.{Index, Exps, no_exps, exp, Inits, no_inits, init, Decs, no_decs}
use Rattle.tg_syntax.specs.Tree.{types, variable, functions, FunDecs, no_functions, function}
use Rattle.tg_typecheck.specs.declared.notes.Means.{Means}
use Rattle.tg_typecheck.specs.declared.notes.Means.TheVariants as means
use Rattle.tg_translate.specs.mirror.Scopes.{Findings}
use Rattle.tg_translate.specs.mirror.Functions.{at_of}

-- each break stands in a loop of its function
abbrev mutual
  pub BreaksStand : (in_loop : Bool) → Exp → Type 0
  BreaksStand b (Nil _) = Unit {0}
  BreaksStand b (Break _) = IsTrue b
  BreaksStand b (Int _ _) = Unit {0}
  BreaksStand b (Text _ _) = Unit {0}
  BreaksStand b (Read _ v) = BreaksStandPlace b v
  BreaksStand b (Call _ _ args) = BreaksStandExps b args
  BreaksStand b (Neg _ a) = BreaksStand b a
  BreaksStand b (Binary _ _ _ x y) = BreaksStand b x × BreaksStand b y
  BreaksStand b (Make _ _ inits) = BreaksStandInits b inits
  BreaksStand b (Fill _ _ x y) = BreaksStand b x × BreaksStand b y
  BreaksStand b (Assign _ v x) = BreaksStandPlace b v × BreaksStand b x
  BreaksStand b (If _ c x y) = BreaksStand b c × BreaksStand b x × BreaksStand b y
  BreaksStand b (When _ c x) = BreaksStand b c × BreaksStand b x
  BreaksStand b (While _ c x) = BreaksStand b c × BreaksStand true x
  BreaksStand b (For _ _ low high x) = BreaksStand b low × BreaksStand b high × BreaksStand true x
  BreaksStand b (Let _ ds es) = BreaksStandDecs b ds × BreaksStandExps b es
  BreaksStand b (Seq _ es) = BreaksStandExps b es

  pub BreaksStandPlace : (in_loop : Bool) → LValue → Type 0
  BreaksStandPlace b (Simple _) = Unit {0}
  BreaksStandPlace b (Field v _) = BreaksStandPlace b v
  BreaksStandPlace b (Index v x) = BreaksStandPlace b v × BreaksStand b x

  pub BreaksStandExps : (in_loop : Bool) → Exps → Type 0
  BreaksStandExps b no_exps = Unit {0}
  BreaksStandExps b (exp x rest) = BreaksStand b x × BreaksStandExps b rest

  pub BreaksStandInits : (in_loop : Bool) → Inits → Type 0
  BreaksStandInits b no_inits = Unit {0}
  BreaksStandInits b (init _ x rest) = BreaksStand b x × BreaksStandInits b rest

  pub BreaksStandDecs : (in_loop : Bool) → Decs → Type 0
  BreaksStandDecs b no_decs = Unit {0}
  BreaksStandDecs b (types _ rest) = BreaksStandDecs b rest
  BreaksStandDecs b (variable _ _ x rest) = BreaksStand b x × BreaksStandDecs b rest
  BreaksStandDecs b (functions fs rest) = BreaksStandBodies fs × BreaksStandDecs b rest

  pub BreaksStandBodies : FunDecs → Type 0
  BreaksStandBodies no_functions = Unit {0}
  BreaksStandBodies (function _ _ _ x rest) = BreaksStand false x × BreaksStandBodies rest

-- the variables of a function, by the bytes of their declarations: its parameters, and those that
-- declarations add
abbrev pub params_of : List Param → List ℕ
params_of params = map (λ p. at_of p.name) params

abbrev pub owned_by : Decs → List ℕ → List ℕ
owned_by no_decs own = own
owned_by (types _ rest) own = owned_by rest own
owned_by (variable x _ _ rest) own = owned_by rest (at_of x ∷ own)
owned_by (functions _ rest) own = owned_by rest own

abbrev pub AreApart : (new old : List ℕ) → Type 0
AreApart new old = (at : ℕ) → Contains new at → Contains old at → ⊥

-- Each variable that a text uses is one of its function, or it escapes; and none of its function is
-- declared at the byte of one of the functions around it.
module _ (findings : Findings) where
  abbrev pub IsInReach : (own : List ℕ) → Option Means → Type 0
  IsInReach own (Some (means.Variable at)) = Contains own at ⊎ (findings.escapes at ≡ true)
  IsInReach own _ = Unit {0}

  abbrev mutual
    pub Reaches : (own around : List ℕ) → Exp → Type 0
    Reaches own around (Nil _) = Unit {0}
    Reaches own around (Break _) = Unit {0}
    Reaches own around (Int _ _) = Unit {0}
    Reaches own around (Text _ _) = Unit {0}
    Reaches own around (Read _ v) = ReachesPlace own around v
    Reaches own around (Call _ _ args) = ReachesExps own around args
    Reaches own around (Neg _ a) = Reaches own around a
    Reaches own around (Binary _ _ _ x y) = Reaches own around x × Reaches own around y
    Reaches own around (Make _ _ inits) = ReachesInits own around inits
    Reaches own around (Fill _ _ x y) = Reaches own around x × Reaches own around y
    Reaches own around (Assign _ v x) = ReachesPlace own around v × Reaches own around x
    Reaches own around (If _ c x y) =
        Reaches own around c × Reaches own around x × Reaches own around y
    Reaches own around (When _ c x) = Reaches own around c × Reaches own around x
    Reaches own around (While _ c x) = Reaches own around c × Reaches own around x
    Reaches own around (For _ i low high x) =
        AreApart (at_of i ∷ []) around ×
        Reaches own around low × Reaches own around high × Reaches (at_of i ∷ own) around x
    Reaches own around (Let _ ds es) =
        ReachesDecs own around ds × ReachesExps (owned_by ds own) around es
    Reaches own around (Seq _ es) = ReachesExps own around es

    pub ReachesPlace : (own around : List ℕ) → LValue → Type 0
    ReachesPlace own around (Simple x) = IsInReach own (findings.meaning (at_of x))
    ReachesPlace own around (Field v _) = ReachesPlace own around v
    ReachesPlace own around (Index v x) = ReachesPlace own around v × Reaches own around x

    pub ReachesExps : (own around : List ℕ) → Exps → Type 0
    ReachesExps own around no_exps = Unit {0}
    ReachesExps own around (exp x rest) = Reaches own around x × ReachesExps own around rest

    pub ReachesInits : (own around : List ℕ) → Inits → Type 0
    ReachesInits own around no_inits = Unit {0}
    ReachesInits own around (init _ x rest) = Reaches own around x × ReachesInits own around rest

    pub ReachesDecs : (own around : List ℕ) → Decs → Type 0
    ReachesDecs own around no_decs = Unit {0}
    ReachesDecs own around (types _ rest) = ReachesDecs own around rest
    ReachesDecs own around (variable y _ x rest) =
        AreApart (at_of y ∷ []) around ×
        Reaches (at_of y ∷ own) around x × ReachesDecs (at_of y ∷ own) around rest
    ReachesDecs own around (functions fs rest) =
        ReachesBodies (own ++ around) fs × ReachesDecs own around rest

    pub ReachesBodies : (around : List ℕ) → FunDecs → Type 0
    ReachesBodies around no_functions = Unit {0}
    ReachesBodies around (function _ params _ x rest) =
        AreApart (params_of params) around ×
        Reaches (params_of params) around x × ReachesBodies around rest
