-- In a program that has a type, each break stands in a loop of its function.
use Rattle.std.proofs.Common.{◌≡◌, ℕ, Bool, true, false, List, [], ◌∷◌, refl, sym, ◌∙◌}
use Rattle.tg_syntax.specs.declared.trees.Param.{Param}
use Rattle.tg_syntax.specs.Tree.{Exp, LValue, Exps, Inits, Decs, FunDecs, no_functions, function}
use Rattle.tg_typecheck.specs.declared.notes.Note.{Note}
use Rattle.tg_typecheck.specs.Types.{Ty, int_type, string_type, none_type, record_type, array_type, Shape}
use Rattle.tg_typecheck.specs.Scopes.{Signature, Scope, in_a_loop, in_no_loop, binding, variable_at, function_at, at_of}
use Rattle.tg_typecheck.specs.Groups.{with_functions, with_params}
use Rattle.tg_typecheck.specs.Has as Has
use Rattle.tg_translate_laws.specs.Standing.{BreaksStand, BreaksStandPlace, BreaksStandExps, BreaksStandInits, BreaksStandDecs, BreaksStandBodies}

loop_functions : (fs : FunDecs) (ss : List Signature) (scope : Scope) → (with_functions fs ss scope).in_loop ≡
    scope.in_loop
loop_functions no_functions ss scope = refl
loop_functions (function f _ _ _ rest) [] scope = refl
loop_functions (function f _ _ _ rest) (s ∷ more) scope = loop_functions rest more
    (binding f (function_at (at_of f) s) scope)

loop_params : (ps : List Param) (ts : List Ty) (scope : Scope) → (with_params ps ts scope).in_loop ≡ scope.in_loop
loop_params [] ts scope = refl
loop_params (p ∷ ps) [] scope = refl
loop_params (p ∷ ps) (t ∷ ts) scope = loop_params ps ts (binding p.name (variable_at (at_of p.name) t false) scope)

module _ (shapes : List (ℕ × Shape)) (notes : List Note) where
  mutual
    pub breaks_stand : (e : Exp) (scope : Scope) (t : Ty) (b : Bool) → scope.in_loop ≡ b → Has.Has shapes notes e scope
        t → BreaksStand b e
    breaks_stand _ scope _ b i Has.nil = tt
    breaks_stand _ scope _ b i Has.int = tt
    breaks_stand _ scope _ b i Has.text = tt
    breaks_stand _ scope _ b i (Has.break h) = sym i ∙ h
    breaks_stand _ scope t b i (Has.read {v = v} h) = place_stands v scope t b i h
    breaks_stand _ scope _ b i (Has.call {args = args} {sig = sig} c e h says hs) = all_stand args sig.params scope b i
        hs
    breaks_stand _ scope _ b i (Has.neg {a = a} h) = breaks_stand a scope int_type b i h
    breaks_stand _ scope _ b i (Has.ints {a = x} {b = y} says h k) =
        (breaks_stand x scope int_type b i h, breaks_stand y scope int_type b i k)
    breaks_stand _ scope _ b i (Has.strings {a = x} {b = y} c says h k) =
        (breaks_stand x scope string_type b i h, breaks_stand y scope string_type b i k)
    breaks_stand _ scope _ b i (Has.same {a = x} {b = y} {t = t} {u = u} c l says h k) =
        (breaks_stand x scope t b i h, breaks_stand y scope u b i k)
    breaks_stand _ scope _ b i (Has.make {inits = inits} fs e h) = inits_stand inits fs scope b i h
    breaks_stand _ scope _ b i (Has.fill {size = x} {value = y} t u e h k fit) =
        (breaks_stand x scope int_type b i h, breaks_stand y scope u b i k)
    breaks_stand _ scope _ b i (Has.assign {v = v} {e = e} {t = t} {u = u} h k fit) =
        (place_stands v scope t b i h, breaks_stand e scope u b i k)
    breaks_stand _ scope _ b i (Has.if_else {c = c} {a = x} {b = y} {t = t} {u = u} h k l f g) =
        (breaks_stand c scope int_type b i h, breaks_stand x scope t b i k, breaks_stand y scope u b i l)
    breaks_stand _ scope _ b i (Has.when {c = c} {a = a} h k) =
        (breaks_stand c scope int_type b i h, breaks_stand a scope none_type b i k)
    breaks_stand _ scope _ b i (Has.while {c = c} {a = a} h k) =
        (breaks_stand c scope int_type b i h, breaks_stand a (in_a_loop scope) none_type true refl k)
    breaks_stand _ scope _ b i (Has.for {x = x} {l = low} {h = high} {a = a} p q r) = (
      breaks_stand low scope int_type b i p,
      breaks_stand high scope int_type b i q,
      breaks_stand a (in_a_loop (binding x (variable_at (at_of x) int_type true) scope)) none_type true refl r,
    )
    breaks_stand _ scope _ b i (Has.block {ds = ds} {es = es} {t = t} inner hs ls) =
        let d = decs_stand ds scope inner b i hs in (d.0, last_stands none_type es inner t b d.1 ls)
    breaks_stand _ scope _ b i (Has.seq {es = es} {t = t} ls) = last_stands none_type es scope t b i ls

    place_stands : (v : LValue) (scope : Scope) (t : Ty) (b : Bool) → scope.in_loop ≡ b → Has.HasPlace shapes notes v
        scope t → BreaksStandPlace b v
    place_stands _ scope _ b i (Has.simple at loop e says) = tt
    place_stands _ scope _ b i (Has.field {v = v} at fs k h e f g says) = place_stands v scope (record_type at) b i h
    place_stands _ scope _ b i (Has.index {v = v} {e = e} at h s k) =
        (place_stands v scope (array_type at) b i h, breaks_stand e scope int_type b i k)

    all_stand : (es : Exps) (ts : List Ty) (scope : Scope) (b : Bool) → scope.in_loop ≡ b → Has.HasAll shapes notes es
        ts scope → BreaksStandExps b es
    all_stand _ _ scope b i Has.end_args = tt
    all_stand _ _ scope b i (Has.an_arg {e = e} {rest = rest} {ts = ts} u h fit hs) =
        (breaks_stand e scope u b i h, all_stand rest ts scope b i hs)

    inits_stand : (is : Inits) (fs : List (ℕ × Ty)) (scope : Scope) (b : Bool) → scope.in_loop ≡ b → Has.HasInits shapes
        notes is fs scope →
        BreaksStandInits b is
    inits_stand _ _ scope b i Has.end_inits = tt
    inits_stand _ _ scope b i (Has.an_init {e = e} {rest = rest} {fs = fs} u n h fit hs) =
        (breaks_stand e scope u b i h, inits_stand rest fs scope b i hs)

    last_stands : (u : Ty) (es : Exps) (scope : Scope) (t : Ty) (b : Bool) → scope.in_loop ≡ b → Has.HasLast shapes
        notes u es scope t → BreaksStandExps b es
    last_stands _ _ scope _ b i Has.end_lasts = tt
    last_stands _ _ scope t b i (Has.a_last {e = e} {rest = rest} u h hs) =
        (breaks_stand e scope u b i h, last_stands u rest scope t b i hs)

    decs_stand : (ds : Decs) (scope inner : Scope) (b : Bool) → scope.in_loop ≡ b → Has.HasDecs shapes notes ds scope
        inner →
        BreaksStandDecs b ds × (inner.in_loop ≡ b)
    decs_stand _ scope _ b i Has.end_decs = (tt, i)
    decs_stand _ scope inner b i (Has.type_names {rest = rest} names hs) = decs_stand rest
        (record scope { types = names }) inner b i hs
    decs_stand _ scope inner b i (Has.variables {x = x} {e = e} {rest = rest} t u _ h fit hs) =
        let d = decs_stand rest (binding x (variable_at (at_of x) t false) scope) inner b i hs in
        ((breaks_stand e scope u b i h, d.0), d.1)
    decs_stand _ scope inner b i (Has.group {fs = fs} {rest = rest} ss apart bs hs) =
        let d = decs_stand rest (with_functions fs ss scope) inner b (loop_functions fs ss scope ∙ i) hs in
        ((bodies_stand fs ss (in_no_loop (with_functions fs ss scope)) refl bs, d.0), d.1)

    bodies_stand : (fs : FunDecs) (ss : List Signature) (scope : Scope) → scope.in_loop ≡ false → Has.HasBodies shapes
        notes fs ss scope → BreaksStandBodies fs
    bodies_stand _ _ scope i Has.end_bodies = tt
    bodies_stand _ _ scope i (Has.a_body {ps = ps} {body = body} {rest = rest} {s = s} {ss = ss} u l _ _ h fit hs) = (
      breaks_stand body (with_params ps s.params scope) u false (loop_params ps s.params scope ∙ i) h,
      bodies_stand
          rest ss scope i hs,
    )
