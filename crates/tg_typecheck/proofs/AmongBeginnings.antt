-- The bytes of what typing gathers are some of those at which the identifiers and operators of the text begin, in its order.
use Rattle.std.proofs.Common.{◌≡◌, ℕ, zero, suc, ◌<◌, List, [], ◌∷◌, length, Option, Some, None, refl, arith}
use Rattle.std.specs.Prelude.{slice_index_or}
use Rattle.std.specs.List.{AllPairs}
use Rattle.tg_syntax.specs.declared.tokens.Ident.{Ident}
use Rattle.tg_syntax.specs.declared.trees.Param.{Param}
use Rattle.tg_syntax.specs.declared.trees.Op.{Op}
use Rattle.tg_syntax.specs.Tree.{Form, TypeDec, Exp, LValue, Exps, Inits, Decs, FunDecs}
use Rattle.tg_syntax.specs.Beginnings.{param_beginnings, form_beginnings, type_beginnings, kind_beginnings, beginnings, place_beginnings}
use Rattle.tg_syntax.specs.Beginnings.{exps_beginnings, inits_beginnings, decs_beginnings, function_beginnings}
use Rattle.tg_typecheck.specs.declared.notes.Means.{Means}
use Rattle.tg_typecheck.specs.Types.{Ty, Shape}
use Rattle.tg_typecheck.specs.Checks.{Noted}
use Rattle.tg_typecheck.specs.Scopes.{Signature, Scope}
use Rattle.tg_typecheck.proofs.Inversion.{noting, shaping, Notes, one_note, no_note}
use Rattle.tg_typecheck.proofs.CheckedParts.{AddsForm, alias, fields, array, AddsForms, end_forms, a_form, Checked, nil, int, text, break, read, call}
use Rattle.tg_typecheck.proofs.CheckedParts.{neg, binary, make, fill, assign, if_else, when, while, for, block, seq, CheckedPlace, simple, field, index}
use Rattle.tg_typecheck.proofs.CheckedParts.{CheckedAll, end_args, an_arg, CheckedInits, end_inits, an_init, CheckedLast, end_lasts, a_last, CheckedDecs}
use Rattle.tg_typecheck.proofs.CheckedParts.{end_decs, type_names, variables, group, CheckedBodies, end_bodies, a_body}

-- some of a list, in its order
pub data Some_of : List ℕ → List ℕ → Type 0 where
  nothing : Some_of [] []
  skip : (y : ℕ) {xs ys : List ℕ} → Some_of xs ys → Some_of xs (y ∷ ys)
  keep : (y : ℕ) {xs ys : List ℕ} → Some_of xs ys → Some_of (y ∷ xs) (y ∷ ys)

pub among_params : (ps : List Param) {xs ys : List ℕ} → Some_of xs ys → Some_of xs (param_beginnings ps ys)
among_params [] s = s
among_params (p ∷ ps) s = among_params ps (skip _ (skip _ s))

pub among_kind : (k : Option Ident) {xs ys : List ℕ} → Some_of xs ys → Some_of xs (kind_beginnings k ys)
among_kind None s = s
among_kind (Some x) s = skip _ s

-- The bytes of what is gathered, the last first: a note's, or a shape's, is one more of them or none.
pub record AreMarks (marks : Noted → List ℕ) : Type 0 where
  pub noted : (at : ℕ) (m : Means) (g : Noted) {ys : List ℕ} → Some_of (marks g) ys → Some_of (marks (noting at m g)) (at ∷ ys)
  pub shaped : (at : ℕ) (s : Shape) (g : Noted) {ys : List ℕ} → Some_of (marks g) ys → Some_of (marks (shaping at s g)) (at ∷ ys)

-- Those of a text are some of its beginnings.
module _ (marks : Noted → List ℕ) (are : AreMarks marks) where
  among_form : {at : ℕ} {form : Form} {g h : Noted} {ys : List ℕ} → AddsForm at form g h → Some_of (marks g) ys →
      Some_of (marks h) (form_beginnings form (at ∷ ys))
  among_form alias s = skip _ (skip _ s)
  among_form (fields {ps = ps} shape v) s = among_params ps (are.shaped _ shape _ s)
  among_form (array shape v) s = skip _ (are.shaped _ shape _ s)

  among_forms : {ds : List TypeDec} {g h : Noted} {ys : List ℕ} → AddsForms ds g h → Some_of (marks g) ys → Some_of (marks h) (type_beginnings ds ys)
  among_forms end_forms s = s
  among_forms (a_form one rest) s = among_forms rest (among_form one s)

  operator : {op : Op} {at : ℕ} {t : Ty} {g h : Noted} {ys : List ℕ} → Notes op at t g h → Some_of (marks g) ys → Some_of (marks h) (at ∷ ys)
  operator (one_note says) s = are.noted _ _ _ s
  operator (no_note says) s = skip _ s

  mutual
    pub among : {e : Exp} {scope : Scope} {t : Ty} {g h : Noted} {ys : List ℕ} → Checked e scope t g h → Some_of (marks g) ys →
        Some_of (marks h) (beginnings e ys)
    among nil s = s
    among int s = s
    among text s = s
    among (break l) s = s
    among (read v) s = among_place v s
    among (call b is callee args) s = among_all args (are.noted _ _ _ s)
    among (neg a) s = among a s
    among (binary both a o b) s = among b (operator o (among a s))
    among (make fs n inits) s = among_inits inits (skip _ s)
    among (fill t u n size value f) s = among value (among size (skip _ s))
    among (assign v e f) s = among e (among_place v s)
    among (if_else c a b f w) s = among b (among a (among c s))
    among (when c a) s = among a (among c s)
    among (while c a) s = among a (among c s)
    among (for low high a) s = among a (among high (among low (skip _ s)))
    among (block inner ds es) s = among_last es (among_decs ds s)
    among (seq es) s = among_last es s

    among_place : {v : LValue} {scope : Scope} {t : Ty} {g h : Noted} {ys : List ℕ} → CheckedPlace v scope t g h → Some_of (marks g) ys →
        Some_of (marks h) (place_beginnings v ys)
    among_place (simple at loop is) s = are.noted _ _ _ s
    among_place (field at fs k v n m p) s = are.noted _ _ _ (among_place v s)
    among_place (index at v n e) s = among e (among_place v s)

    among_all : {es : Exps} {ts : List Ty} {scope : Scope} {g h : Noted} {ys : List ℕ} → CheckedAll es ts scope g h → Some_of (marks g) ys →
        Some_of (marks h) (exps_beginnings es ys)
    among_all end_args s = s
    among_all (an_arg u e f rest) s = among_all rest (among e s)

    among_inits : {es : Inits} {fs : List (ℕ × Ty)} {scope : Scope} {g h : Noted} {ys : List ℕ} → CheckedInits es fs scope g h → Some_of (marks g) ys →
        Some_of (marks h) (inits_beginnings es ys)
    among_inits end_inits s = s
    among_inits (an_init u is e f rest) s = among_inits rest (among e (skip _ s))

    among_last : {u : Ty} {es : Exps} {scope : Scope} {t : Ty} {g h : Noted} {ys : List ℕ} → CheckedLast u es scope t g h → Some_of (marks g) ys →
        Some_of (marks h) (exps_beginnings es ys)
    among_last end_lasts s = s
    among_last (a_last u e rest) s = among_last rest (among e s)

    among_decs : {ds : Decs} {scope inner : Scope} {g h : Noted} {ys : List ℕ} → CheckedDecs ds scope inner g h → Some_of (marks g) ys →
        Some_of (marks h) (decs_beginnings ds ys)
    among_decs end_decs s = s
    among_decs (type_names names v forms rest) s = among_decs rest (among_forms forms s)
    among_decs (variables {kind = kind} t u v e f rest) s = among_decs rest (among e (among_kind kind (skip _ s)))
    among_decs (group ss distinct bodies rest) s = among_decs rest (among_bodies bodies s)

    among_bodies : {fs : FunDecs} {ss : List Signature} {scope : Scope} {g h : Noted} {ys : List ℕ} → CheckedBodies fs ss scope g h →
        Some_of (marks g) ys → Some_of (marks h) (function_beginnings fs ys)
    among_bodies end_bodies s = s
    among_bodies (a_body {ps = ps} {r = r} u n v b body f rest) s = among_bodies rest (among body (among_kind r (among_params ps (skip _ s))))

-- where an element of the one stands in the other
place_in : {xs ys : List ℕ} → Some_of xs ys → (j : ℕ) → j < length xs → (k : ℕ) × (k < length ys) × ((d : ℕ) → slice_index_or xs j d ≡ slice_index_or ys k d)
place_in nothing j lt = absurd (omega (arith, lt))
place_in (skip y s) j lt = let r = place_in s j lt in (suc r.0, omega (arith, r.1), r.2)
place_in (keep y s) zero lt = (zero, omega arith, λ d. refl)
place_in (keep y s) (suc j) lt = let r = place_in s j (omega (arith, lt)) in (suc r.0, omega (arith, r.1), r.2)

behind : (R : ℕ → ℕ → Type 0) (y : ℕ) (ys : List ℕ) → AllPairs R (y ∷ ys) → AllPairs R ys
behind R y ys h i j d lt within = h (suc i) (suc j) d (omega (arith, lt)) (omega (arith, within))

pub pairs : (R : ℕ → ℕ → Type 0) {xs ys : List ℕ} → Some_of xs ys → AllPairs R ys → AllPairs R xs
pairs R nothing h i j d lt within = absurd (omega (arith, within))
pairs R (skip y {ys} s) h i j d lt within = pairs R s (behind R y ys h) i j d lt within
pairs R (keep y s) h i zero d lt within = absurd (omega (arith, lt))
pairs R (keep y s) h zero (suc j) d lt within =
    let r = place_in s j (omega (arith, within)) in
    rw (r.2 d) (h zero (suc r.0) d (omega arith) (omega (arith, r.1)))
pairs R (keep y {ys} s) h (suc i) (suc j) d lt within = pairs R s (behind R y ys h) i j d (omega (arith, lt)) (omega (arith, within))
