-- What was found of a checked program fits its text: uses of outer variables make these escape and
-- the functions in between keep their static links, as far as the finished translation has each
-- variable and function at the level of the text that declares it.
use Rattle.std.proofs.Common.{◌≡◌, ◌<◌, ◌≤◌, ℕ, zero, suc, ◌+◌, ◌-◌, ◌==◌, Bool, true, false}
use Rattle.std.proofs.Common.{Option, Some, None, List, [], ◌∷◌, ◌++◌, length, get_or, drop, refl, sym}
use Rattle.std.proofs.Common.{ap, ◌∙◌, subst, arith, inl, inr, length-append, ne_eqb, eq-eqb}
use Rattle.std.specs.Prelude.{nat_lt, if◌then◌else◌, slice_range}
use Rattle.std.specs.List.{Contains}
use Rattle.std.proofs.lemmas.Bool.{lt-ltb, cases_lt}
use Rattle.std.proofs.lemmas.List.{get_or_append_left, get_or-drop, get_or-take, length-take, length-drop}
use Rattle.std.proofs.Math.Seq.{get_or-append_seam}
use Rattle.tg_symbols.specs.Tables.{looked_up}
use Rattle.tg_syntax.specs.declared.tokens.Ident.{Ident}
use Rattle.tg_syntax.specs.declared.trees.Param.{Param}
use Rattle.tg_syntax.specs.Tree.{Exp, Nil, Break, Int, Text, Read, Call, Neg, Binary, Make, Fill, Assign, If}
use Rattle.tg_syntax.specs.Tree.{When, While, For, Let, Seq, LValue, Simple, Field, Index, Exps, no_exps, exp, Inits, no_inits, init, Decs, no_decs}
use Rattle.tg_syntax.specs.Tree.{types, variable, functions, FunDecs, no_functions, function}
use Rattle.tg_syntax.specs.Functions.{Levels, own, own_params, own_functions, own_decs, function_nodes, function_hops}
use Rattle.tg_escape.specs.Uses.{DeclaredAs, a_variable, a_function, Seen, Use, used, uses, place_uses, exps_uses, inits_uses, decs_uses}
use Rattle.tg_escape.specs.Uses.{functions_uses, declare_variable, declare_params, declare_functions, declare_all}
use Rattle.tg_escape.specs.Escaping.{escapes_by}
use Rattle.tg_escape.specs.Links.{links_by}
use Rattle.tg_semantics.specs.Levels.{activation}
use Rattle.tg_typecheck.specs.declared.notes.Note.{Note}
use Rattle.tg_typecheck.specs.declared.notes.Means.{Means}
use Rattle.tg_typecheck.specs.declared.notes.Means.TheVariants as means
use Rattle.tg_typecheck.specs.Types.{Ty, int_type, string_type, none_type, record_type, array_type, Shape}
use Rattle.tg_typecheck.specs.Scopes.{Signature, Binding, variable_at, function_at, standard_one, Scope, in_a_loop}
use Rattle.tg_semantics.specs.Environments.{name_of}
use Rattle.tg_typecheck.specs.Scopes.{in_no_loop, binding, at_of, outermost_scope, entry, standard_bindings, standard_of}
use Rattle.tg_semantics.specs.declared.standards.Standard.{Standard}
use Rattle.tg_semantics.specs.Environments.{standards}
use Rattle.tg_typecheck.specs.Groups.{with_functions, with_params}
use Rattle.tg_typecheck.specs.Has as Has
use Rattle.tg_translate.specs.declared.homes.Home.{Home}
use Rattle.tg_translate.specs.declared.homes.Callee.{Callee}
use Rattle.tg_translate.specs.mirror.Scopes.{Findings}
use Rattle.tg_translate_proof.specs.glue.Tables.{Table}
use Rattle.tg_translate_proof.specs.glue.Covered.{Keeping, with_level, LinksLead, CoversUse, CoversName, Covers, CoversPlace, CoversExps}
use Rattle.tg_translate_proof.specs.glue.Covered.{CoversInits, CoversDecs, CoversFunctions}

some_inj : {A : Type 0} {a b : A} → Some a ≡ Some b → a ≡ b
some_inj e = cc

-- What holds of each declaration of a text: of a variable by its byte, and of a function with its
-- parameters, body and what it sees.
module _ (V : (level at : ℕ) → Type 0) (F : (level : ℕ) → Levels → Ident → List Param → Exp → Type 0) where
  abbrev pub DeclareParams : (level : ℕ) → List Param → Type 0
  DeclareParams n [] = Unit {0}
  DeclareParams n (p ∷ ps) = V n (at_of p.name) × DeclareParams n ps

  abbrev mutual
    pub Declares : (level : ℕ) → Levels → Exp → Type 0
    Declares n seen (Nil _) = Unit {0}
    Declares n seen (Break _) = Unit {0}
    Declares n seen (Int _ _) = Unit {0}
    Declares n seen (Text _ _) = Unit {0}
    Declares n seen (Read _ v) = DeclaresPlace n seen v
    Declares n seen (Call _ f args) = DeclaresExps n seen args
    Declares n seen (Neg _ a) = Declares n seen a
    Declares n seen (Binary _ _ _ a b) = Declares n seen a × Declares n seen b
    Declares n seen (Make _ _ inits) = DeclaresInits n seen inits
    Declares n seen (Fill _ _ a b) = Declares n seen a × Declares n seen b
    Declares n seen (Assign _ v a) = DeclaresPlace n seen v × Declares n seen a
    Declares n seen (If _ c a b) = Declares n seen c × Declares n seen a × Declares n seen b
    Declares n seen (When _ c a) = Declares n seen c × Declares n seen a
    Declares n seen (While _ c a) = Declares n seen c × Declares n seen a
    Declares n seen (For _ x l h a) = Declares n seen l × Declares n seen h × V n (at_of x) × Declares n (own n x seen) a
    Declares n seen (Let _ ds es) = DeclaresDecs n seen ds × DeclaresExps n (own_decs n ds seen) es
    Declares n seen (Seq _ es) = DeclaresExps n seen es

    pub DeclaresPlace : (level : ℕ) → Levels → LValue → Type 0
    DeclaresPlace n seen (Simple x) = Unit {0}
    DeclaresPlace n seen (Field v _) = DeclaresPlace n seen v
    DeclaresPlace n seen (Index v e) = DeclaresPlace n seen v × Declares n seen e

    pub DeclaresExps : (level : ℕ) → Levels → Exps → Type 0
    DeclaresExps n seen no_exps = Unit {0}
    DeclaresExps n seen (exp e rest) = Declares n seen e × DeclaresExps n seen rest

    pub DeclaresInits : (level : ℕ) → Levels → Inits → Type 0
    DeclaresInits n seen no_inits = Unit {0}
    DeclaresInits n seen (init _ e rest) = Declares n seen e × DeclaresInits n seen rest

    pub DeclaresDecs : (level : ℕ) → Levels → Decs → Type 0
    DeclaresDecs n seen no_decs = Unit {0}
    DeclaresDecs n seen (types _ rest) = DeclaresDecs n seen rest
    DeclaresDecs n seen (variable x _ e rest) = V n (at_of x) × Declares n seen e × DeclaresDecs n (own n x seen) rest
    DeclaresDecs n seen (functions fs rest) =
        DeclaresFunctions n (own_functions n fs seen) fs × DeclaresDecs n (own_functions n fs seen) rest

    pub DeclaresFunctions : (level : ℕ) → Levels → FunDecs → Type 0
    DeclaresFunctions n seen no_functions = Unit {0}
    DeclaresFunctions n seen (function f ps _ body rest) =
        F n seen f ps body × DeclareParams (suc n) ps × Declares (suc n) (own_params (suc n) ps seen) body × DeclaresFunctions n seen rest

module _ (table : Table) where
  -- the finished translation has a variable or a function at this level
  abbrev pub HasVariable : (level at : ℕ) → Type 0
  HasVariable n at = (home : Home) → looked_up at table.homes ≡ Some home → home.level ≡ n

  abbrev pub HasFunction : (level at : ℕ) → Type 0
  HasFunction n at = (callee : Callee) → looked_up at table.callees ≡ Some callee → callee.level ≡ n

-- and a function weighs what its text does
abbrev pub IsWeighed : Table → ((at : ℕ) → ℕ) → (level : ℕ) → Levels → Ident → List Param → Exp → Type 0
IsWeighed table weight n seen f ps body =
    HasFunction table n (at_of f) ×
    (weight (at_of f) ≡ activation (function_nodes ps body) (function_hops (suc n) seen ps body))

-- Lists by places.

any_default : (xs : List ℕ) (i a b : ℕ) → i < length xs → get_or xs i a ≡ get_or xs i b
any_default [] i a b lt = absurd (omega (arith, lt))
any_default (x ∷ xs) zero a b lt = refl
any_default (x ∷ xs) (suc i) a b lt = any_default xs i a b (omega (arith, lt))

-- an element of a part of a list
in_range : (xs : List ℕ) (a b j : ℕ) → a ≤ j → j < b → b ≤ length xs → Contains (slice_range xs a b) (get_or xs j 0)
in_range xs a b j low lt high =
    let x = get_or xs j 0 in
    let long = length-take (b - a) (drop a xs) in
    let short = length-drop a xs in
    let place : a + (j - a) ≡ j = omega (arith, low) in
    let within : j - a < b - a = omega (arith, low, lt) in
    let there : j - a < length (slice_range xs a b) = grind (arith, long, short, within, high) in (
      j - a,
      there,
      get_or-take (b - a) (drop a xs) (j - a) x within ∙ get_or-drop a xs (j - a) x ∙ ap (λ i. get_or xs i x) place ∙
          any_default xs j x 0 (omega (arith, lt, high)),
    )

module _ (findings : Findings) (table : Table) (weight : (at : ℕ) → ℕ) (shapes : List (ℕ × Shape)) (notes : List Note) where
  abbrev Fits : (level : ℕ) → Levels → Exp → Type 0
  Fits = Declares (HasVariable table) (IsWeighed table weight)

  -- each use makes its variable escape, where it is of an outer function, and the functions in
  -- between keep their links
  pub record IsFound (u : Use) : Type 0 where
    pub escapes : (at : ℕ) → Contains (escapes_by u) at → findings.escapes at ≡ true
    pub links : (at : ℕ) → Contains (links_by u) at → findings.keeps_link at ≡ true

  abbrev pub AllFound : List Use → Type 0
  AllFound [] = Unit {0}
  AllFound (u ∷ us) = IsFound u × AllFound us

  unused : (within : List ℕ) (o : Option DeclaredAs) (after : List Use) → AllFound (used within o after) → AllFound after
  unused within None after h = h
  unused within (Some d) after h = h.1

  -- which functions around keep their links
  abbrev Keeps : Keeping → (within : List ℕ) → Type 0
  Keeps keeps within = (j : ℕ) → j < length within → keeps (suc j) ≡ findings.keeps_link (get_or within j 0)

  keeps_deeper : (keeps : Keeping) (within : List ℕ) (at : ℕ) → Keeps keeps within →
      Keeps (with_level (suc (length within)) (findings.keeps_link at) keeps) (within ++ at ∷ [])
  keeps_deeper keeps within at h j lt =
      let long = length-append within (at ∷ []) in
      elim (cases_lt j (length within)) [
        | inl l ↦
            ap (λ t. if t then findings.keeps_link at else keeps (suc j)) (ne_eqb (suc j) (suc (length within)) (λ e. omega (arith, e, l))) ∙ h j l ∙
            ap findings.keeps_link (sym (get_or_append_left within (at ∷ []) 0 j l))
        | inr le ↦
            (let same : j ≡ length within = omega (arith, le, lt, long) in
            ap (λ t. if t then findings.keeps_link at else keeps (suc j)) (eq-eqb (suc j) (suc (length within)) (ap suc same)) ∙
            ap findings.keeps_link (sym (ap (λ i. get_or (within ++ at ∷ []) i 0) same ∙ get_or-append_seam within at [] 0)))
      ]

  -- What the searches see agrees with what the scope binds.

  abbrev Tells : Binding → (level : ℕ) → Option DeclaredAs → Type 0
  Tells (variable_at at t loop) level o = (k : ℕ) × (o ≡ Some (a_variable at k)) × (k ≤ level) × HasVariable table k at
  Tells (function_at at s) level o = (k : ℕ) × (o ≡ Some (a_function k)) × (k ≤ level) × HasFunction table k at
  Tells (standard_one f) level o = Unit {0}

  abbrev Agrees : List (ℕ × Binding) → Seen → (level : ℕ) → Type 0
  Agrees bindings seen level = (x : ℕ) (b : Binding) → looked_up x bindings ≡ Some b → Tells b level (looked_up x seen)

  tells_deeper : (b : Binding) (n m : ℕ) (o : Option DeclaredAs) → n ≤ m → Tells b n o → Tells b m o
  tells_deeper (variable_at at t loop) n m o le h = let k = h.2 in (h.0, h.1, omega (arith, le, k), h.3)
  tells_deeper (function_at at s) n m o le h = let k = h.2 in (h.0, h.1, omega (arith, le, k), h.3)
  tells_deeper (standard_one f) n m o le h = tt

  with_one : (y : ℕ) (b : Binding) (d : DeclaredAs) (bindings : List (ℕ × Binding)) (seen : Seen) (level : ℕ) → Tells b level (Some d) →
      Agrees bindings seen level →
      Agrees ((y, b) ∷ bindings) ((y, d) ∷ seen) level
  with_one y b d bindings seen level one h x c e = by (y == x) e
    where
      by : (t : Bool) → (if t then Some b else looked_up x bindings) ≡ Some c → Tells c level (if t then Some d else looked_up x seen)
      by true e = subst (λ o. Tells o level (Some d)) (some_inj e) one
      by false e = h x c e

  with_own : (x : Ident) (t : Ty) (loop : Bool) (bindings : List (ℕ × Binding)) (seen : Seen) (level : ℕ) → HasVariable table level (at_of x) →
      Agrees bindings seen level →
      Agrees ((name_of x, variable_at (at_of x) t loop) ∷ bindings) (declare_variable level x seen) level
  with_own x t loop bindings seen level has h =
      with_one (name_of x) (variable_at (at_of x) t loop) (a_variable (at_of x) level) bindings seen level (level, refl, omega arith, has) h

  agree_params : (ps : List Param) (ts : List Ty) (scope : Scope) (seen : Seen) (level : ℕ) → length ps ≡ length ts →
      DeclareParams (HasVariable table) (IsWeighed table weight) level ps → Agrees scope.bindings seen level →
      Agrees (with_params ps ts scope).bindings (declare_params level ps seen) level
  agree_params [] ts scope seen level e has h = h
  agree_params (p ∷ ps) [] scope seen level e has h = absurd (omega (arith, e))
  agree_params (p ∷ ps) (t ∷ ts) scope seen level e has h =
      agree_params ps ts (binding p.name (variable_at (at_of p.name) t false) scope) (declare_variable level p.name seen) level (omega (arith, e)) has.1
      (with_own p.name t false scope.bindings seen level has.0 h)

  -- functions of a group are at the level of the text that declares them
  abbrev AllHave : (level : ℕ) → FunDecs → Type 0
  AllHave level no_functions = Unit {0}
  AllHave level (function f _ _ _ rest) = HasFunction table level (at_of f) × AllHave level rest

  all_have : (level : ℕ) (seen : Levels) (fs : FunDecs) → DeclaresFunctions (HasVariable table) (IsWeighed table weight) level seen fs → AllHave level fs
  all_have level seen no_functions h = tt
  all_have level seen (function f ps r body rest) h = (h.0.0, all_have level seen rest h.3)

  agree_functions : (fs : FunDecs) (ss : List Signature) (inner scope : Scope) (seen : Seen) (level : ℕ) → Has.HasBodies shapes notes fs ss inner →
      AllHave level fs →
      Agrees scope.bindings seen level → Agrees (with_functions fs ss scope).bindings (declare_functions level fs seen) level
  agree_functions _ _ inner scope seen level Has.end_bodies has h = h
  agree_functions _ _ inner scope seen level (Has.a_body {f = f} {rest = rest} {s = s} {ss = ss} u l v _ b fit hs) has h =
      agree_functions rest ss inner (binding f (function_at (at_of f) s) scope) ((name_of f, a_function level) ∷ seen) level hs has.1
      (with_one (name_of f) (function_at (at_of f) s) (a_function level) scope.bindings seen level (level, refl, omega arith, has.0) h)

  -- A use fits.

  escapes_there : (at k n : ℕ) → k < n → Contains (if nat_lt k n then at ∷ [] else []) at
  escapes_there at k n lt = subst (λ t. Contains (if t then at ∷ [] else []) at) (sym (lt-ltb k n lt)) (0, omega arith, refl)

  leads : (keeps : Keeping) (within : List ℕ) (k : ℕ) → Keeps keeps within →
      ((at : ℕ) → Contains (slice_range within k (length within - 1)) at → findings.keeps_link at ≡ true) →
      LinksLead keeps (length within) k
  leads keeps within k h links zero lt le = absurd (omega (arith, lt))
  leads keeps within k h links (suc j) lt le =
      h j (omega (arith, le)) ∙ links (get_or within j 0) (in_range within k (length within - 1) j (omega (arith, lt)) (omega (arith, le)) (omega arith))

  variable_covered : (keeps : Keeping) (within : List ℕ) (o : Option DeclaredAs) (at : ℕ) (t : Ty) (loop : Bool) (after : List Use) → Keeps keeps within →
      Tells (variable_at at t loop) (length within) o → AllFound (used within o after) →
      CoversUse findings table weight (length within) keeps (Some (means.Variable at))
  variable_covered keeps within o at t loop after h k g home e =
      let found : AllFound (used within (Some (a_variable at k.0)) after) = subst (λ p. AllFound (used within p after)) k.1 g in
      let level : home.level ≡ k.0 = k.3 home e in
      record {
        escapes = λ lt. found.0.escapes at (escapes_there at k.0 (length within) (omega (arith, lt, level)));
        leads = subst (λ l. LinksLead keeps (length within) l) (sym level) (leads keeps within k.0 h found.0.links);
      }

  function_covered : (keeps : Keeping) (within : List ℕ) (o : Option DeclaredAs) (at : ℕ) (s : Signature) (after : List Use) → Keeps keeps within →
      Tells (function_at at s) (length within) o → AllFound (used within o after) →
      CoversUse findings table weight (length within) keeps (Some (means.Function at))
  function_covered keeps within o at s after h k g callee e =
      let found : AllFound (used within (Some (a_function k.0)) after) = subst (λ p. AllFound (used within p after)) k.1 g in
      subst (λ l. LinksLead keeps (length within) l) (sym (k.3 callee e)) (leads keeps within k.0 h found.0.links)

  use_covered : (keeps : Keeping) (within : List ℕ) (o : Option DeclaredAs) (b : Binding) (after : List Use) → Keeps keeps within → Tells b (length within) o →
      AllFound (used within o after) → CoversUse findings table weight (length within) keeps (Some (Has.use_of b))
  use_covered keeps within o (variable_at at t loop) after h k g = variable_covered keeps within o at t loop after h k g
  use_covered keeps within o (function_at at s) after h k g = function_covered keeps within o at s after h k g
  use_covered keeps within o (standard_one f) after h k g = tt

  -- Where a text stands: what the searches see, the functions that it lies in, which of them keep
  -- their links, and what is seen with its levels.
  pub record Here : Type 0 where
    pub seen : Seen
    pub within : List ℕ
    pub keeps : Keeping
    pub levels : Levels

  pub record Stands (scope : Scope) (h : Here) : Type 0 where
    pub agrees : Agrees scope.bindings h.seen (length h.within)
    pub kept : Keeps h.keeps h.within

  abbrev one_more : Ident → Here → Here
  one_more x h = record h { seen = declare_variable (length h.within) x h.seen; levels = own (length h.within) x h.levels }

  one_stands : (x : Ident) (t : Ty) (loop : Bool) (scope : Scope) (h : Here) → HasVariable table (length h.within) (at_of x) → Stands scope h →
      Stands (binding x (variable_at (at_of x) t loop) scope) (one_more x h)
  one_stands x t loop scope h has s = record { agrees = with_own x t loop scope.bindings h.seen (length h.within) has s.agrees; kept = s.kept }

  abbrev pub FitsHere : Here → Exp → Type 0
  FitsHere h e = Declares (HasVariable table) (IsWeighed table weight) (length h.within) h.levels e

  abbrev pub CoversHere : Here → Exp → Type 0
  CoversHere h e = Covers findings table weight (length h.within) h.keeps h.levels e

  -- The program's body sees standard functions alone.

  entry_tells : (x : ℕ) (b : Binding) (k : ℕ) (o : Option Standard) (rest : List (ℕ × Binding)) → (looked_up x rest ≡ Some b → Tells b 0 None) →
      looked_up x (entry standard_one k o ++ rest) ≡ Some b → Tells b 0 None
  entry_tells x b k None rest h e = h e
  entry_tells x b k (Some f) rest h e = by (k == x) e
    where
      by : (t : Bool) → (if t then Some (standard_one f) else looked_up x rest) ≡ Some b → Tells b 0 None
      by true e = subst (λ o. Tells o 0 None) (some_inj e) tt
      by false e = h e

  standards_tell : (x : ℕ) (b : Binding) (k : ℕ) (names : List (List ℕ)) → looked_up x (standard_bindings k names) ≡ Some b → Tells b 0 None
  standards_tell x b k [] e = cc
  standards_tell x b k (text ∷ names) e =
      entry_tells x b k (standard_of text standards) (standard_bindings (suc k) names) (λ h. standards_tell x b (suc k) names h) e

  abbrev pub first_here : Here
  first_here = record { seen = []; within = []; keeps = λ k. false; levels = [] }

  pub first_stands : (names : List (List ℕ)) → Stands (outermost_scope names) first_here
  first_stands names = record { agrees = λ x b e. standards_tell x b 0 names e; kept = λ j lt. absurd (omega (arith, lt)) }

  module _ (says : (at : ℕ) (m : Means) → Has.Says notes at m → findings.meaning at ≡ Some m) where
    mutual
      pub covers : (e : Exp) (scope : Scope) (t : Ty) (h : Here) (after : List Use) → Has.Has shapes notes e scope t → Stands scope h → FitsHere h e →
          AllFound (uses e h.within h.seen after) → CoversHere h e × AllFound after
      covers _ scope _ h after Has.nil s d u = (tt, u)
      covers _ scope _ h after Has.int s d u = (tt, u)
      covers _ scope _ h after Has.text s d u = (tt, u)
      covers _ scope _ h after (Has.break i) s d u = (tt, u)
      covers _ scope t h after (Has.read {v = v} k) s d u = covers_place v scope t h after k s d u
      covers _ scope _ h after (Has.call {f = f} {args = args} {sig = sig} b e k i hs) s d u =
          let rest = exps_uses args h.within h.seen after in
          let first : CoversName findings table weight (length h.within) h.keeps f =
          subst (λ m. CoversUse findings table weight (length h.within) h.keeps m) (sym (says (at_of f) (Has.use_of b) i))
          (use_covered h.keeps h.within (looked_up f.name.0 h.seen) b rest s.kept (s.agrees (name_of f) b e) u) in
          let second = covers_all args sig.params scope h after hs s d (unused h.within (looked_up f.name.0 h.seen) rest u) in
          ((first, second.0), second.1)
      covers _ scope _ h after (Has.neg {a = a} k) s d u = covers a scope int_type h after k s d u
      covers _ scope _ h after (Has.ints {a = x} {b = y} i k l) s d u =
          let first = covers x scope int_type h (uses y h.within h.seen after) k s d.0 u in
          let second = covers y scope int_type h after l s d.1 first.1 in
          ((first.0, second.0), second.1)
      covers _ scope _ h after (Has.strings {a = x} {b = y} c i k l) s d u =
          let first = covers x scope string_type h (uses y h.within h.seen after) k s d.0 u in
          let second = covers y scope string_type h after l s d.1 first.1 in
          ((first.0, second.0), second.1)
      covers _ scope _ h after (Has.same {a = x} {b = y} {t = t} {u = v} c i j k l) s d u =
          let first = covers x scope t h (uses y h.within h.seen after) k s d.0 u in
          let second = covers y scope v h after l s d.1 first.1 in
          ((first.0, second.0), second.1)
      covers _ scope _ h after (Has.make {inits = inits} fs e hs) s d u = covers_inits inits fs scope h after hs s d u
      covers _ scope _ h after (Has.fill {size = x} {value = y} t v e k l fit) s d u =
          let first = covers x scope int_type h (uses y h.within h.seen after) k s d.0 u in
          let second = covers y scope v h after l s d.1 first.1 in
          ((first.0, second.0), second.1)
      covers _ scope _ h after (Has.assign {v = v} {e = e} {t = t} {u = w} k l fit) s d u =
          let first = covers_place v scope t h (uses e h.within h.seen after) k s d.0 u in
          let second = covers e scope w h after l s d.1 first.1 in
          ((first.0, second.0), second.1)
      covers _ scope _ h after (Has.if_else {c = c} {a = x} {b = y} {t = t} {u = v} k l m f g) s d u =
          let first = covers c scope int_type h (uses x h.within h.seen (uses y h.within h.seen after)) k s d.0 u in
          let second = covers x scope t h (uses y h.within h.seen after) l s d.1 first.1 in
          let third = covers y scope v h after m s d.2 second.1 in
          ((first.0, second.0, third.0), third.1)
      covers _ scope _ h after (Has.when {c = c} {a = a} k l) s d u =
          let first = covers c scope int_type h (uses a h.within h.seen after) k s d.0 u in
          let second = covers a scope none_type h after l s d.1 first.1 in
          ((first.0, second.0), second.1)
      covers _ scope _ h after (Has.while {c = c} {a = a} k l) s d u =
          let first = covers c scope int_type h (uses a h.within h.seen after) k s d.0 u in
          let second = covers a (in_a_loop scope) none_type h after l (record { agrees = s.agrees; kept = s.kept }) d.1 first.1 in
          ((first.0, second.0), second.1)
      covers _ scope _ h after (Has.for {x = x} {l = low} {h = high} {a = a} p q r) s d u =
          let inner = declare_variable (length h.within) x h.seen in
          let first = covers low scope int_type h (uses high h.within h.seen (uses a h.within inner after)) p s d.0 u in
          let second = covers high scope int_type h (uses a h.within inner after) q s d.1 first.1 in
          let k = one_stands x int_type true scope h d.2 s in
          let third = covers a (in_a_loop (binding x (variable_at (at_of x) int_type true) scope)) none_type (one_more x h) after r
          (record { agrees = k.agrees; kept = k.kept }) d.3 second.1 in
          ((first.0, second.0, third.0), third.1)
      covers _ scope _ h after (Has.block {ds = ds} {es = es} {t = t} inner hs ls) s d u =
          let deep : Here = record h { seen = declare_all (length h.within) ds h.seen; levels = own_decs (length h.within) ds h.levels } in
          let first = covers_decs ds scope inner h (exps_uses es h.within deep.seen after) hs s d.0 u in
          let second = covers_last none_type es inner t deep after ls first.2 d.1 first.1 in
          ((first.0, second.0), second.1)
      covers _ scope _ h after (Has.seq {es = es} {t = t} ls) s d u = covers_last none_type es scope t h after ls s d u

      covers_place : (v : LValue) (scope : Scope) (t : Ty) (h : Here) (after : List Use) → Has.HasPlace shapes notes v scope t → Stands scope h →
          DeclaresPlace (HasVariable table) (IsWeighed table weight) (length h.within) h.levels v → AllFound (place_uses v h.within h.seen after) →
          CoversPlace findings table weight (length h.within) h.keeps h.levels v × AllFound after
      covers_place _ scope t h after (Has.simple {x = x} at loop e i) s d u = (
        subst (λ m. CoversUse findings table weight (length h.within) h.keeps m) (sym (says (at_of x) (means.Variable at) i))
            (variable_covered h.keeps h.within (looked_up x.name.0 h.seen) at t loop after s.kept (s.agrees (name_of x) (variable_at at t loop) e) u),
        unused h.within (looked_up x.name.0 h.seen) after u,
      )
      covers_place _ scope _ h after (Has.field {v = v} {f = f} at fs n k e g p i) s d u = covers_place v scope (record_type at) h after k s d u
      covers_place _ scope _ h after (Has.index {v = v} {e = e} at k i l) s d u =
          let first = covers_place v scope (array_type at) h (uses e h.within h.seen after) k s d.0 u in
          let second = covers e scope int_type h after l s d.1 first.1 in
          ((first.0, second.0), second.1)

      covers_all : (es : Exps) (ts : List Ty) (scope : Scope) (h : Here) (after : List Use) → Has.HasAll shapes notes es ts scope → Stands scope h →
          DeclaresExps (HasVariable table) (IsWeighed table weight) (length h.within) h.levels es → AllFound (exps_uses es h.within h.seen after) →
          CoversExps findings table weight (length h.within) h.keeps h.levels es × AllFound after
      covers_all _ _ scope h after Has.end_args s d u = (tt, u)
      covers_all _ _ scope h after (Has.an_arg {e = e} {rest = rest} {ts = ts} v k fit hs) s d u =
          let first = covers e scope v h (exps_uses rest h.within h.seen after) k s d.0 u in
          let second = covers_all rest ts scope h after hs s d.1 first.1 in
          ((first.0, second.0), second.1)

      covers_inits : (is : Inits) (fs : List (ℕ × Ty)) (scope : Scope) (h : Here) (after : List Use) → Has.HasInits shapes notes is fs scope → Stands scope h →
          DeclaresInits (HasVariable table) (IsWeighed table weight) (length h.within) h.levels is → AllFound (inits_uses is h.within h.seen after) →
          CoversInits findings table weight (length h.within) h.keeps h.levels is × AllFound after
      covers_inits _ _ scope h after Has.end_inits s d u = (tt, u)
      covers_inits _ _ scope h after (Has.an_init {f = f} {e = e} {rest = rest} {fs = fs} v n k fit hs) s d u =
          let first = covers e scope v h (inits_uses rest h.within h.seen after) k s d.0 u in
          let second = covers_inits rest fs scope h after hs s d.1 first.1 in
          ((first.0, second.0), second.1)

      covers_last : (v : Ty) (es : Exps) (scope : Scope) (t : Ty) (h : Here) (after : List Use) → Has.HasLast shapes notes v es scope t → Stands scope h →
          DeclaresExps (HasVariable table) (IsWeighed table weight) (length h.within) h.levels es → AllFound (exps_uses es h.within h.seen after) →
          CoversExps findings table weight (length h.within) h.keeps h.levels es × AllFound after
      covers_last _ _ scope _ h after Has.end_lasts s d u = (tt, u)
      covers_last _ _ scope t h after (Has.a_last {e = e} {rest = rest} v k hs) s d u =
          let first = covers e scope v h (exps_uses rest h.within h.seen after) k s d.0 u in
          let second = covers_last v rest scope t h after hs s d.1 first.1 in
          ((first.0, second.0), second.1)

      covers_decs : (ds : Decs) (scope inner : Scope) (h : Here) (after : List Use) → Has.HasDecs shapes notes ds scope inner → Stands scope h →
          DeclaresDecs (HasVariable table) (IsWeighed table weight) (length h.within) h.levels ds → AllFound (decs_uses ds h.within h.seen after) →
          CoversDecs findings table weight (length h.within) h.keeps h.levels ds × AllFound after ×
          Stands inner (record h { seen = declare_all (length h.within) ds h.seen; levels = own_decs (length h.within) ds h.levels })
      covers_decs _ scope _ h after Has.end_decs s d u = (tt, u, s)
      covers_decs _ scope inner h after (Has.type_names {ds = ts} {rest = rest} names hs) s d u =
          covers_decs rest (record scope { types = names }) inner h after hs (record { agrees = s.agrees; kept = s.kept }) d u
      covers_decs _ scope inner h after (Has.variables {x = x} {kind = kind} {e = e} {rest = rest} t v w k fit hs) s d u =
          let first = covers e scope v h (decs_uses rest h.within (declare_variable (length h.within) x h.seen) after) k s d.1 u in
          let second = covers_decs rest (binding x (variable_at (at_of x) t false) scope) inner (one_more x h) after hs
          (one_stands x t false scope h d.0 s) d.2 first.1 in
          ((first.0, second.0), second.1, second.2)
      covers_decs _ scope inner h after (Has.group {fs = fs} {rest = rest} ss apart bs hs) s d u =
          let level = length h.within in
          let deep : Here = record h { seen = declare_functions level fs h.seen; levels = own_functions level fs h.levels } in
          let wide = with_functions fs ss scope in
          let agreed = agree_functions fs ss (in_no_loop wide) scope h.seen level bs (all_have level (own_functions level fs h.levels) fs d.0) s.agrees in
          let first = covers_bodies fs ss (in_no_loop wide) deep (decs_uses rest h.within deep.seen after) bs
          (record { agrees = agreed; kept = s.kept }) d.0 u in
          let second = covers_decs rest wide inner deep after hs (record { agrees = agreed; kept = s.kept }) d.1 first.1 in
          ((first.0, second.0), second.1, second.2)

      covers_bodies : (fs : FunDecs) (ss : List Signature) (scope : Scope) (h : Here) (after : List Use) → Has.HasBodies shapes notes fs ss scope →
          Stands scope h →
          DeclaresFunctions (HasVariable table) (IsWeighed table weight) (length h.within) h.levels fs → AllFound (functions_uses fs h.within h.seen after) →
          CoversFunctions findings table weight (length h.within) h.keeps h.levels fs × AllFound after
      covers_bodies _ _ scope h after Has.end_bodies s d u = (tt, u)
      covers_bodies _ _ scope h after (Has.a_body {f = f} {ps = ps} {body = body} {rest = rest} {s = sig} {ss = ss} v l w _ k fit hs) s d u =
          let inner = h.within ++ f.span.from ∷ [] in
          let deep : length inner ≡ suc (length h.within) = omega (arith, length-append h.within (f.span.from ∷ [])) in
          let keeps : Keeping = with_level (suc (length h.within)) (findings.keeps_link (at_of f)) h.keeps in
          let place : Here = record {
            seen = declare_params (length inner) ps h.seen;
            within = inner;
            keeps = keeps;
            levels = own_params (suc (length h.within)) ps h.levels;
          } in
          let params : DeclareParams (HasVariable table) (IsWeighed table weight) (length inner) ps =
          subst (λ n. DeclareParams (HasVariable table) (IsWeighed table weight) n ps) (sym deep) d.1 in
          let fits : FitsHere place body =
          subst (λ n. Declares (HasVariable table) (IsWeighed table weight) n (own_params (suc (length h.within)) ps h.levels) body) (sym deep) d.2 in
          let first = covers body (with_params ps sig.params scope) v place (functions_uses rest h.within h.seen after) k
          (record {
            agrees =
                agree_params ps sig.params scope h.seen (length inner) l params
                (λ x b e. tells_deeper b (length h.within) (length inner) (looked_up x h.seen) (omega (arith, deep)) (s.agrees x b e));
            kept = keeps_deeper h.keeps h.within (at_of f) s.kept;
          }) fits u in
          let second = covers_bodies rest ss scope h after hs s d.3 first.1 in (
            (
              d.0.1,
              subst (λ n. Covers findings table weight n keeps (own_params (suc (length h.within)) ps h.levels) body) deep first.0,
              second.0,
            ),
            second.1,
          )
