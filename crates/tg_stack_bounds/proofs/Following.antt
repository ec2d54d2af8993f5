-- A text that has a type leads: what its scopes bind agrees with what it sees by name, as far as a
-- table has the level of each of its declarations.
use Rattle.std.proofs.Common.{◌≡◌, ◌≤◌, ℕ, suc, ◌+◌, ◌-◌, ◌==◌, Bool, true, false, Option, Some, None, List, [], ◌∷◌, ◌++◌, length, refl, sym, ap}
use Rattle.std.proofs.Common.{subst, arith}
use Rattle.std.specs.Prelude.{if◌then◌else◌}
use Rattle.tg_symbols.specs.Tables.{looked_up}
use Rattle.tg_syntax.specs.declared.tokens.Ident.{Ident}
use Rattle.tg_syntax.specs.declared.trees.Param.{Param}
use Rattle.tg_syntax.specs.Tree.{Exp, LValue, Exps, Inits, Decs, FunDecs, no_functions, function}
use Rattle.tg_syntax.specs.Functions.{Levels, crossed, own, own_params, own_functions, own_decs}
use Rattle.tg_semantics.specs.declared.standards.Standard.{Standard}
use Rattle.tg_semantics.specs.Environments.{standards}
use Rattle.tg_typecheck.specs.declared.notes.Note.{Note}
use Rattle.tg_typecheck.specs.declared.notes.Means.{Means}
use Rattle.tg_typecheck.specs.declared.notes.Means.TheVariants as means
use Rattle.tg_typecheck.specs.Types.{Ty, int_type, string_type, none_type, record_type, array_type, Shape}
use Rattle.tg_semantics.specs.Environments.{name_of}
use Rattle.tg_typecheck.specs.Scopes.{Signature, Binding, variable_at, function_at, standard_one, Scope, in_a_loop, in_no_loop, binding, at_of}
use Rattle.tg_typecheck.specs.Scopes.{outermost_scope, entry, standard_bindings, standard_of}
use Rattle.tg_typecheck.specs.Groups.{with_functions, with_params}
use Rattle.tg_typecheck.specs.Has as Has
use Rattle.tg_translate.specs.mirror.Scopes.{Findings}
use Rattle.tg_translate_proof.proofs.invariant.Covered.{Declares, DeclareParams, DeclaresPlace, DeclaresExps, DeclaresInits, DeclaresDecs, DeclaresFunctions}
use Rattle.tg_stack_bounds.proofs.Leading.{LevelTable, Crosses, AreAt, AreParamsAt, Leads, LeadsPlace, LeadsExps, LeadsInits, LeadsDecs, LeadsBodies}

-- the levels that the use of a name crosses
abbrev crossing : (here : ℕ) → Levels → (name : ℕ) → ℕ
crossing here [] x = 0
crossing here (d ∷ seen) x = if d.name == x then here - d.level else crossing here seen x

crossed_is : (here : ℕ) (seen : Levels) (x : Ident) → crossing here seen (name_of x) ≡ crossed here seen x
crossed_is here [] x = refl
crossed_is here (d ∷ seen) x = ap (λ r. if d.name == x.name.0 then here - d.level else r) (crossed_is here seen x)

some_is : {A : Type 0} {a b : A} → Some a ≡ Some b → a ≡ b
some_is e = cc

module _ (table : LevelTable) (findings : Findings) (shapes : List (ℕ × Shape)) (notes : List Note) where
  -- what a scope binds is declared at a level that its use crosses to, by its name
  abbrev Tells : Binding → (crosses : ℕ → ℕ) → Type 0
  Tells (variable_at at t loop) f = (n : ℕ) → n ≤ table.variables at + f n
  Tells (function_at at s) f = (n : ℕ) → n ≤ table.functions at + f n
  Tells (standard_one k) f = Unit {0}

  abbrev Agrees : List (ℕ × Binding) → Levels → Type 0
  Agrees bindings seen = (x : ℕ) (b : Binding) → looked_up x bindings ≡ Some b → Tells b (λ n. crossing n seen x)

  with_one : (y : ℕ) (b : Binding) (k : ℕ) (bindings : List (ℕ × Binding)) (seen : Levels) → Tells b (λ n. n - k) → Agrees bindings seen →
      Agrees ((y, b) ∷ bindings) (record { name = y; level = k } ∷ seen)
  with_one y b k bindings seen one h x c e = by (y == x) e
    where
      by : (t : Bool) → (if t then Some b else looked_up x bindings) ≡ Some c → Tells c (λ n. if t then n - k else crossing n seen x)
      by true i = subst (λ o. Tells o (λ n. n - k)) (some_is i) one
      by false i = h x c i

  with_own : (x : Ident) (t : Ty) (loop : Bool) (bindings : List (ℕ × Binding)) (seen : Levels) (n : ℕ) → n ≡ table.variables (at_of x) →
      Agrees bindings seen → Agrees ((name_of x, variable_at (at_of x) t loop) ∷ bindings) (own n x seen)
  with_own x t loop bindings seen n e h =
      with_one (name_of x) (variable_at (at_of x) t loop) n bindings seen (λ m. omega (arith, e)) h

  agree_params : (ps : List Param) (ts : List Ty) (scope : Scope) (seen : Levels) (n : ℕ) → length ps ≡ length ts → AreParamsAt table n ps →
      Agrees scope.bindings seen → Agrees (with_params ps ts scope).bindings (own_params n ps seen)
  agree_params [] ts scope seen n e has h = h
  agree_params (p ∷ ps) [] scope seen n e has h = absurd (omega (arith, e))
  agree_params (p ∷ ps) (t ∷ ts) scope seen n e has h =
      agree_params ps ts (binding p.name (variable_at (at_of p.name) t false) scope) (own n p.name seen) n (omega (arith, e)) has.1
      (with_own p.name t false scope.bindings seen n has.0 h)

  agree_functions : (fs : FunDecs) (ss : List Signature) (inner scope : Scope) (seen : Levels) (n : ℕ) → Has.HasBodies shapes notes fs ss inner →
      AreAt table n fs → Agrees scope.bindings seen → Agrees (with_functions fs ss scope).bindings (own_functions n fs seen)
  agree_functions _ _ inner scope seen n Has.end_bodies has h = h
  agree_functions _ _ inner scope seen n (Has.a_body {f = f} {rest = rest} {s = s} {ss = ss} u l v _ b fit hs) has h =
      let e = has.0 in
      agree_functions rest ss inner (binding f (function_at (at_of f) s) scope) (own n f seen) n hs has.1
      (with_one (name_of f) (function_at (at_of f) s) n scope.bindings seen (λ m. omega (arith, e)) h)

  -- the program's body sees standard functions alone

  entry_tells : (x : ℕ) (b : Binding) (k : ℕ) (o : Option Standard) (rest : List (ℕ × Binding)) → (looked_up x rest ≡ Some b → Tells b (λ n. 0)) →
      looked_up x (entry standard_one k o ++ rest) ≡ Some b → Tells b (λ n. 0)
  entry_tells x b k None rest h e = h e
  entry_tells x b k (Some f) rest h e = by (k == x) e
    where
      by : (t : Bool) → (if t then Some (standard_one f) else looked_up x rest) ≡ Some b → Tells b (λ n. 0)
      by true i = subst (λ o. Tells o (λ n. 0)) (some_is i) tt
      by false i = h i

  standards_tell : (x : ℕ) (b : Binding) (k : ℕ) (names : List (List ℕ)) → looked_up x (standard_bindings k names) ≡ Some b → Tells b (λ n. 0)
  standards_tell x b k [] e = cc
  standards_tell x b k (text ∷ names) e =
      entry_tells x b k (standard_of text standards) (standard_bindings (suc k) names) (λ h. standards_tell x b (suc k) names h) e

  pub first_agrees : (names : List (List ℕ)) → Agrees (outermost_scope names).bindings []
  first_agrees names x b e = standards_tell x b 0 names e

  use_crosses : (n : ℕ) (seen : Levels) (x : Ident) (b : Binding) → Tells b (λ m. crossing m seen (name_of x)) →
      Crosses table n (crossed n seen x) (Some (Has.use_of b))
  use_crosses n seen x (variable_at at t loop) h = subst (λ o. n ≤ table.variables at + o) (crossed_is n seen x) (h n)
  use_crosses n seen x (function_at at s) h = subst (λ o. n ≤ table.functions at + o) (crossed_is n seen x) (h n)
  use_crosses n seen x (standard_one f) h = tt

  -- what is known of the declarations of a text, for each byte
  module _ (V : (o level at : ℕ) → Type 0) (F : (o level : ℕ) → Levels → Ident → List Param → Exp → Type 0)
      (variable_is : (at n : ℕ) → V at n at → n ≡ table.variables at)
      (function_is : (f : Ident) (n : ℕ) (seen : Levels) (ps : List Param) (body : Exp) → F (at_of f) n seen f ps body → n ≡ table.functions (at_of f))
      (says : (at : ℕ) (m : Means) → Has.Says notes at m → findings.meaning at ≡ Some m) where
    are_params_at : (n : ℕ) (ps : List Param) → ((o : ℕ) → DeclareParams (V o) (F o) n ps) → AreParamsAt table n ps
    are_params_at n [] d = tt
    are_params_at n (p ∷ ps) d = (variable_is (at_of p.name) n (d (at_of p.name)).0, are_params_at n ps (λ o. (d o).1))

    are_at : (n : ℕ) (seen : Levels) (fs : FunDecs) → ((o : ℕ) → DeclaresFunctions (V o) (F o) n seen fs) → AreAt table n fs
    are_at n seen no_functions d = tt
    are_at n seen (function f ps r body rest) d = (function_is f n seen ps body (d (at_of f)).0, are_at n seen rest (λ o. (d o).3))

    mutual
      pub leads : (e : Exp) (scope : Scope) (t : Ty) (n : ℕ) (seen : Levels) → Has.Has shapes notes e scope t → Agrees scope.bindings seen →
          ((o : ℕ) → Declares (V o) (F o) n seen e) → Leads table findings n seen e
      leads _ scope _ n seen Has.nil s d = tt
      leads _ scope _ n seen Has.int s d = tt
      leads _ scope _ n seen Has.text s d = tt
      leads _ scope _ n seen (Has.break i) s d = tt
      leads _ scope t n seen (Has.read {v = v} k) s d = leads_place v scope t n seen k s d
      leads _ scope _ n seen (Has.call {f = f} {args = args} {sig = sig} b e k i hs) s d = (
        subst (λ m. Crosses table n (crossed n seen f) m) (sym (says (at_of f) (Has.use_of b) i)) (use_crosses n seen f b (s (name_of f) b e)),
        leads_all args sig.params scope n seen hs s d,
      )
      leads _ scope _ n seen (Has.neg {a = a} k) s d = leads a scope int_type n seen k s d
      leads _ scope _ n seen (Has.ints {a = x} {b = y} i k l) s d =
          (leads x scope int_type n seen k s (λ o. (d o).0), leads y scope int_type n seen l s (λ o. (d o).1))
      leads _ scope _ n seen (Has.strings {a = x} {b = y} c i k l) s d =
          (leads x scope string_type n seen k s (λ o. (d o).0), leads y scope string_type n seen l s (λ o. (d o).1))
      leads _ scope _ n seen (Has.same {a = x} {b = y} {t = t} {u = v} c i j k l) s d =
          (leads x scope t n seen k s (λ o. (d o).0), leads y scope v n seen l s (λ o. (d o).1))
      leads _ scope _ n seen (Has.make {inits = inits} fs e hs) s d = leads_inits inits fs scope n seen hs s d
      leads _ scope _ n seen (Has.fill {size = x} {value = y} t v e k l fit) s d =
          (leads x scope int_type n seen k s (λ o. (d o).0), leads y scope v n seen l s (λ o. (d o).1))
      leads _ scope _ n seen (Has.assign {v = v} {e = e} {t = t} {u = w} k l fit) s d =
          (leads_place v scope t n seen k s (λ o. (d o).0), leads e scope w n seen l s (λ o. (d o).1))
      leads _ scope _ n seen (Has.if_else {c = c} {a = x} {b = y} {t = t} {u = v} k l m f g) s d = (
        leads c scope int_type n seen k s (λ o. (d o).0),
        leads x scope t n seen l s (λ o. (d o).1),
        leads y scope v n seen m s (λ o. (d o).2),
      )
      leads _ scope _ n seen (Has.when {c = c} {a = a} k l) s d =
          (leads c scope int_type n seen k s (λ o. (d o).0), leads a scope none_type n seen l s (λ o. (d o).1))
      leads _ scope _ n seen (Has.while {c = c} {a = a} k l) s d =
          (leads c scope int_type n seen k s (λ o. (d o).0), leads a (in_a_loop scope) none_type n seen l s (λ o. (d o).1))
      leads _ scope _ n seen (Has.for {x = x} {l = low} {h = high} {a = a} p q r) s d =
          let here = variable_is (at_of x) n (d (at_of x)).2 in (
            here,
            leads low scope int_type n seen p s (λ o. (d o).0),
            leads high scope int_type n seen q s (λ o. (d o).1),
            leads a (in_a_loop (binding x (variable_at (at_of x) int_type true) scope)) none_type n (own n x seen) r
                (with_own x int_type true scope.bindings seen n here s) (λ o. (d o).3),
          )
      leads _ scope _ n seen (Has.block {ds = ds} {es = es} {t = t} inner hs ls) s d =
          let first = leads_decs ds scope inner n seen hs s (λ o. (d o).0) in
          (first.0, leads_last none_type es inner t n (own_decs n ds seen) ls first.1 (λ o. (d o).1))
      leads _ scope _ n seen (Has.seq {es = es} {t = t} ls) s d = leads_last none_type es scope t n seen ls s d

      leads_place : (v : LValue) (scope : Scope) (t : Ty) (n : ℕ) (seen : Levels) → Has.HasPlace shapes notes v scope t → Agrees scope.bindings seen →
          ((o : ℕ) → DeclaresPlace (V o) (F o) n seen v) → LeadsPlace table findings n seen v
      leads_place _ scope t n seen (Has.simple {x = x} at loop e i) s d =
          subst (λ m. Crosses table n (crossed n seen x) m) (sym (says (at_of x) (means.Variable at) i))
          (use_crosses n seen x (variable_at at t loop) (s (name_of x) (variable_at at t loop) e))
      leads_place _ scope _ n seen (Has.field {v = v} {f = f} at fs k m e g p i) s d = leads_place v scope (record_type at) n seen m s d
      leads_place _ scope _ n seen (Has.index {v = v} {e = e} at k i l) s d =
          (leads_place v scope (array_type at) n seen k s (λ o. (d o).0), leads e scope int_type n seen l s (λ o. (d o).1))

      leads_all : (es : Exps) (ts : List Ty) (scope : Scope) (n : ℕ) (seen : Levels) → Has.HasAll shapes notes es ts scope → Agrees scope.bindings seen →
          ((o : ℕ) → DeclaresExps (V o) (F o) n seen es) → LeadsExps table findings n seen es
      leads_all _ _ scope n seen Has.end_args s d = tt
      leads_all _ _ scope n seen (Has.an_arg {e = e} {rest = rest} {ts = ts} v k fit hs) s d =
          (leads e scope v n seen k s (λ o. (d o).0), leads_all rest ts scope n seen hs s (λ o. (d o).1))

      leads_inits : (is : Inits) (fs : List (ℕ × Ty)) (scope : Scope) (n : ℕ) (seen : Levels) → Has.HasInits shapes notes is fs scope →
          Agrees scope.bindings seen → ((o : ℕ) → DeclaresInits (V o) (F o) n seen is) → LeadsInits table findings n seen is
      leads_inits _ _ scope n seen Has.end_inits s d = tt
      leads_inits _ _ scope n seen (Has.an_init {f = f} {e = e} {rest = rest} {fs = fs} v m k fit hs) s d =
          (leads e scope v n seen k s (λ o. (d o).0), leads_inits rest fs scope n seen hs s (λ o. (d o).1))

      leads_last : (v : Ty) (es : Exps) (scope : Scope) (t : Ty) (n : ℕ) (seen : Levels) → Has.HasLast shapes notes v es scope t →
          Agrees scope.bindings seen → ((o : ℕ) → DeclaresExps (V o) (F o) n seen es) → LeadsExps table findings n seen es
      leads_last _ _ scope _ n seen Has.end_lasts s d = tt
      leads_last _ _ scope t n seen (Has.a_last {e = e} {rest = rest} v k hs) s d =
          (leads e scope v n seen k s (λ o. (d o).0), leads_last v rest scope t n seen hs s (λ o. (d o).1))

      leads_decs : (ds : Decs) (scope inner : Scope) (n : ℕ) (seen : Levels) → Has.HasDecs shapes notes ds scope inner → Agrees scope.bindings seen →
          ((o : ℕ) → DeclaresDecs (V o) (F o) n seen ds) → LeadsDecs table findings n seen ds × Agrees inner.bindings (own_decs n ds seen)
      leads_decs _ scope _ n seen Has.end_decs s d = (tt, s)
      leads_decs _ scope inner n seen (Has.type_names {ds = ts} {rest = rest} names hs) s d =
          leads_decs rest (record scope { types = names }) inner n seen hs s d
      leads_decs _ scope inner n seen (Has.variables {x = x} {kind = kind} {e = e} {rest = rest} t v w k fit hs) s d =
          let here = variable_is (at_of x) n (d (at_of x)).0 in
          let second = leads_decs rest (binding x (variable_at (at_of x) t false) scope) inner n (own n x seen) hs
          (with_own x t false scope.bindings seen n here s) (λ o. (d o).2) in
          ((here, leads e scope v n seen k s (λ o. (d o).1), second.0), second.1)
      leads_decs _ scope inner n seen (Has.group {fs = fs} {rest = rest} ss apart bs hs) s d =
          let deep = own_functions n fs seen in
          let here = are_at n deep fs (λ o. (d o).0) in
          let wide = with_functions fs ss scope in
          let agreed = agree_functions fs ss (in_no_loop wide) scope seen n bs here s in
          let second = leads_decs rest wide inner n deep hs agreed (λ o. (d o).1) in
          ((here, leads_bodies fs ss (in_no_loop wide) n deep bs agreed (λ o. (d o).0), second.0), second.1)

      leads_bodies : (fs : FunDecs) (ss : List Signature) (scope : Scope) (n : ℕ) (seen : Levels) → Has.HasBodies shapes notes fs ss scope →
          Agrees scope.bindings seen → ((o : ℕ) → DeclaresFunctions (V o) (F o) n seen fs) → LeadsBodies table findings n seen fs
      leads_bodies _ _ scope n seen Has.end_bodies s d = tt
      leads_bodies _ _ scope n seen (Has.a_body {f = f} {ps = ps} {body = body} {rest = rest} {s = sig} {ss = ss} v l w _ k fit hs) s d =
          let here = are_params_at (suc n) ps (λ o. (d o).1) in (
            here,
            leads body (with_params ps sig.params scope) v (suc n) (own_params (suc n) ps seen) k
                (agree_params ps sig.params scope seen (suc n) l here s) (λ o. (d o).2),
            leads_bodies rest ss scope n seen hs s (λ o. (d o).3),
          )
