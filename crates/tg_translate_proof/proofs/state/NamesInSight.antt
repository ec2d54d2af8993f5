-- What a name that a scope binds stands for: the variable, function or standard function that
-- evaluation finds, with what the finished translation has found of it; and that it is near.
use Rattle.std.proofs.Common.{◌≡◌, ◌<◌, ◌≤◌, ℕ, zero, suc, ◌==◌, List, [], ◌∷◌, ◌++◌, Option, Some, None, Bool, true, false, refl, sym, ap, ◌∙◌, arith, subst}
use Rattle.std.specs.Prelude.{if◌then◌else◌, slice_get, is_some, ◌⊎◌}
use Rattle.std.proofs.Common.{inl, inr}
use Rattle.std.proofs.lemmas.Bool.{eqb-true}
use Rattle.std.proofs.Common.{eq-eqb}
use Rattle.std.specs.Str.{bytes_eq}
use Rattle.tg_frame.specs.declared.accesses.Access.{Access}
use Rattle.tg_frame.specs.declared.accesses.Access.TheVariants.{InTemp, InFrame}
use Rattle.tg_syntax.specs.declared.tokens.Ident.{Ident}
use Rattle.tg_syntax.specs.declared.trees.Param.{Param}
use Rattle.tg_syntax.specs.Tree.{Exp, FunDecs, no_functions, function}
use Rattle.tg_syntax.specs.Functions.{own_params}
use Rattle.tg_symbols.specs.Tables.{looked_up}
use Rattle.tg_semantics.specs.declared.standards.Standard.{Standard}
use Rattle.tg_semantics.specs.Values.{Entry, variable, group, standard}
use Rattle.tg_semantics.specs.Levels.{levels_of, function_weight}
use Rattle.tg_semantics.specs.Environments.{SourceFunction, to_variable, to_function, to_standard, function_named, or_beyond, find, standards, standards_of}
use Rattle.tg_semantics.specs.Environments.{standard_text, outermost_from}
use Rattle.tg_typecheck.specs.declared.notes.Means.TheVariants as means
use Rattle.tg_typecheck.specs.Types.{Ty}
use Rattle.tg_typecheck.specs.Scopes.{Signature, Binding, variable_at, function_at, standard_one, Scope}
use Rattle.tg_semantics.specs.Environments.{name_of}
use Rattle.tg_typecheck.specs.Scopes.{at_of, binding, standard_of, entry, standard_bindings}
use Rattle.tg_typecheck.specs.Groups.{with_functions}
use Rattle.tg_typecheck.specs.Has.{Apart, HasValues}
use Rattle.tg_translate.specs.declared.homes.Home.{Home}
use Rattle.tg_translate.specs.mirror.States.{TranslationState}
use Rattle.tg_translate_proof.specs.glue.Tables.{HasFound}
use Rattle.tg_translate_proof.specs.glue.Covered.{Keeping, LinksLead, CoversUse, CoversFunctions}
use Rattle.tg_translate_proof.specs.glue.Worlds.{Places, Scene, IsOf}
use Rattle.tg_translate_proof.specs.glue.Situations as situations
use Rattle.tg_translate_proof.specs.glue.Situations.{Program, Setting, AllWeigh, GroupsFit, Along, IsDone, AreDone, IsNear, key_of}

same_first : {A : Type 0} (y : ℕ) (a : A) (rest : Option A) → (if y == y then Some a else rest) ≡ Some a
same_first y a rest = ap (λ t. if t then Some a else rest) (eq-eqb y y refl)

some_inj : {A : Type 0} {a b : A} → Some a ≡ Some b → a ≡ b
some_inj e = cc

module _ (P : Program) where
  -- what was found fits a group's functions, so they weigh what their texts do
  pub group_weighs : (level : ℕ) (keeps : Keeping) (seen : List Entry) (fs : FunDecs) →
      CoversFunctions P.findings P.table P.weight level keeps (levels_of seen) fs → AllWeigh P level seen fs
  group_weighs l keeps seen no_functions h = tt
  group_weighs l keeps seen (function f ps r e rest) h = (h.0, group_weighs l keeps seen rest h.2)

  -- a variable in sight: what evaluation finds, its home in the finished translation, where it
  -- stands if it is near, and its type
  pub record IsSeenVariable (places : Places) (types : List Ty) (c : Scene) (level : ℕ) (es : List Entry) (name at : ℕ) (t : Ty) : Type 0 where
    pub l : ℕ
    pub place : ℕ
    pub home : Home
    pub found : find name es ≡ Some (to_variable l place)
    pub within : l ≤ level
    pub tabled : looked_up at P.table.homes ≡ Some home
    pub home_level : home.level ≡ l
    pub stands : IsNear c l home.access → IsOf place (places (key_of c l home.access))
    pub type_is : slice_get types place ≡ Some t
    pub values : HasValues t

  -- a function in sight: what evaluation finds, the links that lead to it, that it is done, and
  -- what its text sees
  pub record IsSeenFunction (places : Places) (types : List Ty) (c : Scene) (level : ℕ) (es : List Entry) (name at : ℕ) (sig : Signature) : Type 0 where
    pub l : ℕ
    pub keeps : Keeping
    pub f : Ident
    pub ps : List Param
    pub has_result : Bool
    pub e : Exp
    pub seen : List Entry
    pub scope : Scope
    pub found : find name es ≡ Some (to_function l (record { params = ps; body = e }) seen)
    pub within : l ≤ level
    pub agree : (k : ℕ) → k ≤ l → keeps k ≡ c.keeps k
    pub at_is : at_of f ≡ at
    pub done : IsDone P scope l keeps seen f ps has_result e sig
    pub weighs : P.weight at ≡ function_weight l (record { params = ps; body = e }) seen
    pub along : Along P places types c l seen scope.bindings
    pub fit : GroupsFit P seen

  -- what a name that is bound so stands for
  abbrev pub IsSeen : Places → List Ty → Scene → (level : ℕ) → List Entry → (name : ℕ) → Binding → Type 0
  IsSeen places types c level es name (variable_at at t loop) = IsSeenVariable places types c level es name at t
  IsSeen places types c level es name (function_at at sig) = IsSeenFunction places types c level es name at sig
  IsSeen places types c level es name (standard_one f) = find name es ≡ Some (to_standard f)

  -- a name is one of a group's functions, or stands for the same beyond it
  data InGroup (x : ℕ) (fs : FunDecs) (beyond : List (ℕ × Binding)) (scope : Scope) (l : ℕ) (keeps : Keeping) (seen : List Entry) (b : Binding) : Type 0 where
    there : (f : Ident) (ps : List Param) (has_result : Bool) (e : Exp) (sig : Signature) →
        function_named x fs ≡ Some (record { params = ps; body = e }) → b ≡ function_at (at_of f) sig → IsDone P scope l keeps seen f ps has_result e sig →
        P.weight (at_of f) ≡ function_weight l (record { params = ps; body = e }) seen → InGroup x fs beyond scope l keeps seen b
    not_there : function_named x fs ≡ None → looked_up x beyond ≡ Some b → InGroup x fs beyond scope l keeps seen b

  module _ (scope : Scope) (l : ℕ) (keeps : Keeping) (seen : List Entry) (x : ℕ) (b : Binding) where
    one_of_group : (f : Ident) (ps : List Param) (has_result : Bool) (e : Exp) (sig : Signature) (rest : FunDecs) (beyond : List (ℕ × Binding)) (c : Bool) →
        IsDone P scope l keeps seen f ps has_result e sig → P.weight (at_of f) ≡ function_weight l (record { params = ps; body = e }) seen →
        (r : Option Ident) → (name_of f == x) ≡ c →
        function_named x rest ≡ None → (if c then Some (function_at (at_of f) sig) else looked_up x beyond) ≡ Some b →
        InGroup x (function f ps r e rest) beyond scope l keeps seen b
    one_of_group f ps has_result e sig rest beyond true d w r is n h =
        there f ps has_result e sig (ap (λ o. if o then Some (record { params = ps; body = e }) else function_named x rest) is) (sym (some_inj h)) d w
    one_of_group f ps has_result e sig rest beyond false d w r is n h =
        not_there (ap (λ o. if o then Some (record { params = ps; body = e }) else function_named x rest) is ∙ n) h

    not_first : (f : Ident) (g : SourceFunction) (rest : FunDecs) (o : Option SourceFunction) (c : Bool) → (name_of f == x) ≡ c →
        function_named (name_of f) rest ≡ None → function_named x rest ≡ Some g →
        (if c then o else function_named x rest) ≡ Some g
    not_first f g rest o true is a e =
        let none : function_named x rest ≡ None = subst (λ y. function_named y rest ≡ None) (eqb-true (name_of f) x is) a in
        let no : None ≡ Some g = sym none ∙ e in absurd (cc)
    not_first f g rest o false is a e = e

    in_group : (fs : FunDecs) (ss : List Signature) (outer : Scope) → Apart fs → AllWeigh P l seen fs → AreDone P scope l keeps seen fs ss →
        looked_up x (with_functions fs ss outer).bindings ≡ Some b → InGroup x fs outer.bindings scope l keeps seen b
    in_group no_functions [] outer a w d e = not_there refl e
    in_group no_functions (s ∷ ss) outer a w d e = absurd d
    in_group (function f ps r body rest) [] outer a w d e = absurd d
    in_group (function f ps r body rest) (s ∷ ss) outer a w d e =
        later (in_group rest ss (binding f (function_at (at_of f) s) outer) a.1 w.1 d.1 e)
      where
        later : InGroup x rest (binding f (function_at (at_of f) s) outer).bindings scope l keeps seen b →
            InGroup x (function f ps r body rest) outer.bindings scope l keeps seen b
        later (there g qs result exp sig e2 k done weighs) =
            there g qs result exp sig (not_first f (record { params = qs; body = exp }) rest (Some (record { params = ps; body = body }))
            (name_of f == x) refl a.0 e2) k done weighs
        later (not_there n e2) =
            one_of_group f ps (is_some r) body s rest outer.bindings (name_of f == x) d.0 w.0 r refl n e2

  -- what is seen after one more entry is found where that is another's
  beyond_entry : (places : Places) (types : List Ty) (c : Scene) (level more : ℕ) (es fs : List Entry) (x : ℕ) (b : Binding) → level ≤ more →
      find x fs ≡ find x es → IsSeen places types c level es x b → IsSeen places types c more fs x b
  beyond_entry places types c level more es fs x (variable_at at t loop) le e h = record {
    l = h.l;
    place = h.place;
    home = h.home;
    found = e ∙ h.found;
    within = let n = h.within in omega (arith, n, le);
    tabled = h.tabled;
    home_level = h.home_level;
    stands = h.stands;
    type_is = h.type_is;
    values = h.values;
  }
  beyond_entry places types c level more es fs x (function_at at sig) le e h = record {
    l = h.l;
    keeps = h.keeps;
    f = h.f;
    ps = h.ps;
    has_result = h.has_result;
    e = h.e;
    seen = h.seen;
    scope = h.scope;
    found = e ∙ h.found;
    within = let n = h.within in omega (arith, n, le);
    agree = h.agree;
    at_is = h.at_is;
    done = h.done;
    weighs = h.weighs;
    along = h.along;
    fit = h.fit;
  }
  beyond_entry places types c level more es fs x (standard_one f) le e h = e ∙ h

  module _ (places : Places) (types : List Ty) (c : Scene) (x : ℕ) (b : Binding) where
    abbrev StandardSeen : List Entry → List (ℕ × Binding) → Type 0
    StandardSeen es bs = looked_up x bs ≡ Some b → (f : Standard) × (b ≡ standard_one f) × (find x es ≡ Some (to_standard f))

    standard_first : (n : ℕ) (f : Standard) (es : List Entry) (bs : List (ℕ × Binding)) → StandardSeen es bs →
        StandardSeen (standard n f ∷ es) ((n, standard_one f) ∷ bs)
    standard_first n f es bs rest = by (n == x)
      where
        by : (t : Bool) → (if t then Some (standard_one f) else looked_up x bs) ≡ Some b →
            (g : Standard) × (b ≡ standard_one g) × ((if t then Some (to_standard f) else find x es) ≡ Some (to_standard g))
        by true e = (f, sym (some_inj e), refl)
        by false e = rest e

    one_standard : (n : ℕ) (text : List ℕ) (fs : List Standard) (es : List Entry) (bs : List (ℕ × Binding)) → StandardSeen es bs →
        StandardSeen (standards_of text n fs ++ es) (entry standard_one n (standard_of text fs) ++ bs)
    one_standard n text [] es bs v = v
    one_standard n text (f ∷ fs) es bs v = by (bytes_eq text (standard_text f)) (one_standard n text fs es bs v)
      where
        by : (t : Bool) → StandardSeen (standards_of text n fs ++ es) (entry standard_one n (standard_of text fs) ++ bs) →
            StandardSeen ((if t then standard n f ∷ [] else standards_of text n fs) ++ es)
            (entry standard_one n (if t then Some f else standard_of text fs) ++ bs)
        by true h = standard_first n f es bs v
        by false h = h

    standards_seen : (n : ℕ) (names : List (List ℕ)) → StandardSeen (outermost_from n names) (standard_bindings n names)
    standards_seen n [] e = cc
    standards_seen n (text ∷ names) e =
        one_standard n text standards (outermost_from (suc n) names) (standard_bindings (suc n) names) (standards_seen (suc n) names) e

    standard_is_seen : (level : ℕ) (es : List Entry) → (f : Standard) × (b ≡ standard_one f) × (find x es ≡ Some (to_standard f)) →
        IsSeen places types c level es x b
    standard_is_seen level es h = subst (λ o. IsSeen places types c level es x o) (sym h.1) h.2

    variable_first : (level l y at place : ℕ) (t : Ty) (loop : Bool) (es : List Entry) (bs : List (ℕ × Binding)) (test : Bool) → (y == x) ≡ test →
        IsSeenVariable places types c level (variable y l place ∷ es) y at t → (looked_up x bs ≡ Some b → IsSeen places types c level es x b) →
        (if test then Some (variable_at at t loop) else looked_up x bs) ≡ Some b → IsSeen places types c level (variable y l place ∷ es) x b
    variable_first level l y at place t loop es bs true is h rest e =
        subst (λ o. IsSeen places types c level (variable y l place ∷ es) x o) (some_inj e)
        (subst (λ z. IsSeenVariable places types c level (variable y l place ∷ es) z at t) (eqb-true y x is) h)
    variable_first level l y at place t loop es bs false is h rest e =
        beyond_entry places types c level level es (variable y l place ∷ es) x b (omega arith)
        (ap (λ o. if o then Some (to_variable l place) else find x es) is) (rest e)

    group_first : (level l : ℕ) (keeps : Keeping) (fs : FunDecs) (es : List Entry) (scope outer : Scope) → l ≤ level → ((k : ℕ) → k ≤ l → keeps k ≡ c.keeps k) →
        Along P places types c l (group l fs ∷ es) scope.bindings → GroupsFit P (group l fs ∷ es) →
        (looked_up x outer.bindings ≡ Some b → IsSeen places types c l es x b) →
        InGroup x fs outer.bindings scope l keeps (group l fs ∷ es) b → IsSeen places types c level (group l fs ∷ es) x b
    group_first level l keeps fs es scope outer le agree along fit rest (there f ps has_result e sig e1 k done weighs) =
        subst (λ o. IsSeen places types c level (group l fs ∷ es) x o) (sym k) (record {
          l = l;
          keeps = keeps;
          f = f;
          ps = ps;
          has_result = has_result;
          e = e;
          seen = group l fs ∷ es;
          scope = scope;
          found = ap (λ o. or_beyond o l (group l fs ∷ es) (find x es)) e1;
          within = le;
          agree = agree;
          at_is = refl;
          done = done;
          weighs = weighs;
          along = along;
          fit = fit;
        })
    group_first level l keeps fs es scope outer le agree along fit rest (not_there n e) =
        beyond_entry places types c l level es (group l fs ∷ es) x b le (ap (λ o. or_beyond o l (group l fs ∷ es) (find x es)) n) (rest e)

    -- what a name that the scope binds stands for
    pub is_seen : (level : ℕ) (es : List Entry) (bs : List (ℕ × Binding)) → Along P places types c level es bs → GroupsFit P es → looked_up x bs ≡ Some b →
        IsSeen places types c level es x b
    is_seen _ _ _ (situations.nothing_declared level names) fit e =
        standard_is_seen level (outermost_from 0 names) (standards_seen 0 names e)
    is_seen _ _ _ (situations.a_variable level l y at place t loop home es bs le values e1 e2 is_of e3 rest) fit e =
        variable_first level l y at place t loop es bs (y == x) refl (record {
          l = l;
          place = place;
          home = home;
          found = same_first y (to_variable l place) (find y es);
          within = le;
          tabled = e1;
          home_level = e2;
          stands = is_of;
          type_is = e3;
          values = values;
        })
        (λ h. is_seen level es bs rest fit h) e
    is_seen _ _ _ (situations.a_group level l keeps fs ss es scope le agree many dd rest) fit e =
        group_first level l keeps fs es (with_functions fs ss scope) scope le agree
        (situations.a_group l l keeps fs ss es scope (omega arith) agree many dd rest) fit
        (λ h. is_seen l es scope.bindings rest fit.2 h)
        (in_group (with_functions fs ss scope) l keeps (group l fs ∷ es) x b fs ss scope fit.0 fit.1 dd e)

  -- what the state of a translation has found of a binding is what the table has
  abbrev pub IsFound : TranslationState → Binding → Type 0
  IsFound s (variable_at at t loop) = looked_up at s.homes ≡ looked_up at P.table.homes
  IsFound s (function_at at sig) = looked_up at s.callees ≡ looked_up at P.table.callees
  IsFound s (standard_one f) = Unit {0}

  found_first : (s : TranslationState) (x : ℕ) (b d : Binding) (bs : List (ℕ × Binding)) (test : Bool) → IsFound s d →
      (looked_up x bs ≡ Some b → IsFound s b) → (if test then Some d else looked_up x bs) ≡ Some b → IsFound s b
  found_first s x b d bs true f rest e = subst (λ o. IsFound s o) (some_inj e) f
  found_first s x b d bs false f rest e = rest e

  pub is_found : (s : TranslationState) (x : ℕ) (b : Binding) (bs : List (ℕ × Binding)) → HasFound P.table s bs → looked_up x bs ≡ Some b → IsFound s b
  is_found s x b [] h e = cc
  is_found s x b ((y, variable_at at t loop) ∷ bs) h e = found_first s x b (variable_at at t loop) bs (y == x) h.0 (λ k. is_found s x b bs h.1 k) e
  is_found s x b ((y, function_at at sig) ∷ bs) h e = found_first s x b (function_at at sig) bs (y == x) h.0 (λ k. is_found s x b bs h.1 k) e
  is_found s x b ((y, standard_one f) ∷ bs) h e = found_first s x b (standard_one f) bs (y == x) tt (λ k. is_found s x b bs h k) e

  -- a variable that a text uses is near: it is the activation's own, or it is in its frame; and
  -- links lead to that
  in_frame_near : (c : Scene) (l : ℕ) (access : Access) → l ≤ c.level → (k : ℕ) × (access ≡ InFrame k) → IsNear c l access
  in_frame_near c l access le (k, e) = subst (λ o. IsNear c l o) (sym e) le

  own_near : (c : Scene) (l : ℕ) (access : Access) → l ≡ c.level → IsNear c l access
  own_near c l (InTemp t) e = e
  own_near c l (InFrame k) e = omega (arith, e)

  below_or_same : (l n : ℕ) → l ≤ n → (l < n) ⊎ (l ≡ n)
  below_or_same zero zero le = inr refl
  below_or_same zero (suc n) le = inl (omega arith)
  below_or_same (suc l) zero le = absurd (omega (arith, le))
  below_or_same (suc l) (suc n) le = elim (below_or_same l n (omega (arith, le))) [
    | inl lt ↦ inl (omega (arith, lt))
    | inr e ↦ inr (ap suc e)
  ]

  pub is_near : Setting P → (c : Scene) (at : ℕ) (home : Home) → CoversUse P.findings P.table P.weight c.level c.keeps (Some (means.Variable at)) →
      looked_up at P.table.homes ≡ Some home → home.level ≤ c.level → IsNear c home.level home.access × LinksLead c.keeps c.level home.level
  is_near set c at home covers tabled le = (by (below_or_same home.level c.level le), (covers home tabled).leads)
    where
      by : (home.level < c.level) ⊎ (home.level ≡ c.level) → IsNear c home.level home.access
      by (inl lt) = in_frame_near c home.level home.access le (set.escaped at home tabled ((covers home tabled).escapes lt))
      by (inr e) = own_near c home.level home.access e

-- parameters are variables of the function's text, in their order
abbrev pub with_variables : (level : ℕ) → List Param → (place : ℕ) → List Entry → List Entry
with_variables level [] place es = es
with_variables level (p ∷ ps) place es = with_variables level ps (suc place) (variable (name_of p.name) level place ∷ es)

-- the levels of what they make of an environment are those that their text was measured with
pub levels_of_variables : (level : ℕ) (ps : List Param) (place : ℕ) (es : List Entry) →
    levels_of (with_variables level ps place es) ≡ own_params level ps (levels_of es)
levels_of_variables level [] place es = refl
levels_of_variables level (p ∷ ps) place es = levels_of_variables level ps (suc place) (variable (name_of p.name) level place ∷ es)
