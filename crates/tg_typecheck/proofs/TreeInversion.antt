-- The checks of a part that came out fine are a derivation of the relation of checked parts.
use Rattle.std.proofs.Common.{◌≡◌, ℕ, List, [], ◌∷◌, length, Some, None, true, false, refl, sym, ◌∙◌, subst}
use Rattle.std.specs.Prelude.{◌==◌}
use Rattle.std.proofs.lemmas.Bool.{eqb-true}
use Rattle.tg_syntax.specs.Tree.{Exp, Nil, Break, Int, Text, Read, Call, Neg, Binary, Make, Fill, Assign, If, When, While, For, Let, Seq, LValue}
use Rattle.tg_syntax.specs.Tree.{Simple, Field, Index, Exps, no_exps, exp, Inits, no_inits, init, Decs, no_decs, types, variable, functions, FunDecs}
use Rattle.tg_syntax.specs.Tree.{no_functions, function}
use Rattle.tg_syntax.specs.declared.trees.Param.{Param}
use Rattle.tg_typecheck.specs.Types.{Ty, int_type, none_type}
use Rattle.tg_typecheck.specs.Checks.{Noted, Check, fine, ◌>>=◌}
use Rattle.tg_semantics.specs.Environments.{name_of}
use Rattle.tg_typecheck.specs.Scopes.{Signature, variable_at, function_at, Scope, at_of, binding, in_a_loop, in_no_loop}
use Rattle.tg_typecheck.specs.Groups.{function_names, with_functions, with_params}
use Rattle.tg_typecheck.specs.Typing.{expect, expect_none, typed, typed_place, typed_last, expect_all, expect_fields, declare, bodies, are_fields}
use Rattle.tg_typecheck.specs.Typing.{expression_count}
use Rattle.tg_typecheck.specs.Has.{Fits, the_same}
use Rattle.tg_typecheck.proofs.Inversion.{steps, kept, given, presented, fits_int, expected, expected_none, arms_fit, sides, variable_got, callee_got}
use Rattle.tg_typecheck.proofs.Inversion.{fields_got, element_got, selected}
use Rattle.tg_typecheck.proofs.GroupInversion.{both, no_repeats_keep, group_apart, Headed, no_heads, a_head, headed, body_got, assignable_keep, own_got}
use Rattle.tg_typecheck.proofs.GroupInversion.{types_got}
use Rattle.tg_typecheck.proofs.NamedValues.{NameValues}
use Rattle.tg_typecheck.proofs.CheckedParts.{Checked, nil, int, text, break, read, call, neg, binary, make, fill, assign, if_else, when, while, for}
use Rattle.tg_typecheck.proofs.CheckedParts.{block, seq, CheckedPlace, simple, field, index, CheckedAll, end_args, an_arg, CheckedInits, end_inits}
use Rattle.tg_typecheck.proofs.CheckedParts.{an_init, CheckedLast, end_lasts, a_last, CheckedDecs, end_decs, type_names, variables, group, CheckedBodies}
use Rattle.tg_typecheck.proofs.CheckedParts.{end_bodies, a_body}

-- a part, once its type and the state after it are known to be these; the same of the state before it
to : {e : Exp} {scope : Scope} {t u : Ty} {g h k : Noted} → t ≡ u → h ≡ k → Checked e scope t g h → Checked e scope u g k
to {e = e} {scope = scope} {u = u} {g = g} {h = h} i j c = subst (λ y. Checked e scope u g y) j (subst (λ y. Checked e scope y g h) i c)

from : {e : Exp} {scope : Scope} {t : Ty} {g h k : Noted} → g ≡ k → Checked e scope t k h → Checked e scope t g h
from {e = e} {scope = scope} {t = t} {h = h} j c = subst (λ y. Checked e scope t y h) (sym j) c

to_place : {v : LValue} {scope : Scope} {t u : Ty} {g h k : Noted} → t ≡ u → h ≡ k → CheckedPlace v scope t g h → CheckedPlace v scope u g k
to_place {v = v} {scope = scope} {u = u} {g = g} {h = h} i j c = subst (λ y. CheckedPlace v scope u g y) j (subst (λ y. CheckedPlace v scope y g h) i c)

-- an expression whose checks are known to be a derivation
abbrev IsKnown : Exp → Scope → Type 0
IsKnown e scope = (t : Ty) (g h : Noted) → typed e scope g ≡ fine t h → Checked e scope t g h

-- a part of a type that fits, one of type int, and one without a value, each before the next check
fitting : {A : Type 0} {e : Exp} {scope : Scope} {wanted : Ty} (at : ℕ) {next : Check A} {a : A} {g h : Noted} → IsKnown e scope →
    (typed e scope >>= λ t. expect wanted t at >>= λ _. next) g ≡ fine a h →
    (t : Ty) × (k : Noted) × Checked e scope t g k × Fits t wanted × (next k ≡ fine a h)
fitting at {g = g} known e =
    let p = steps e in
    let q = steps p.onward in
    let f = expected _ _ _ _ _ _ q.first in
    (p.value, q.between, to refl f.1 (known p.value g p.between p.first), f.0, q.onward)

an_int : {A : Type 0} {e : Exp} {scope : Scope} (at : ℕ) {next : Check A} {a : A} {g h : Noted} → IsKnown e scope →
    (typed e scope >>= λ t. expect int_type t at >>= λ _. next) g ≡ fine a h → (k : Noted) × Checked e scope int_type g k × (next k ≡ fine a h)
an_int at known e =
    let f = fitting at known e in
    (f.1, to (fits_int f.0 f.3) refl f.2, f.4)

no_value : {A : Type 0} {e : Exp} {scope : Scope} (at : ℕ) {next : Check A} {a : A} {g h : Noted} → IsKnown e scope →
    (typed e scope >>= λ t. expect_none t at >>= λ _. next) g ≡ fine a h → (k : Noted) × Checked e scope none_type g k × (next k ≡ fine a h)
no_value at {g = g} known e =
    let p = steps e in
    let q = steps p.onward in
    let n = expected_none _ _ _ _ _ q.first in
    (q.between, to n.0 n.1 (known p.value g p.between p.first), q.onward)

-- functions, parameters and declarations leave the names of types, or add some of which there are values
with_functions_names : (fs : FunDecs) (ss : List Signature) (scope : Scope) → NameValues scope.types → NameValues (with_functions fs ss scope).types
with_functions_names no_functions ss scope vs = vs
with_functions_names (function f ps r body rest) [] scope vs = vs
with_functions_names (function f ps r body rest) (s ∷ ss) scope vs = with_functions_names rest ss (binding f (function_at (at_of f) s) scope) vs

with_params_names : (ps : List Param) (ts : List Ty) (scope : Scope) → NameValues scope.types → NameValues (with_params ps ts scope).types
with_params_names [] ts scope vs = vs
with_params_names (p ∷ ps) [] scope vs = vs
with_params_names (p ∷ ps) (t ∷ ts) scope vs = with_params_names ps ts (binding p.name (variable_at (at_of p.name) t false) scope) vs

names_behind : {ds : Decs} {scope inner : Scope} {g h : Noted} → CheckedDecs ds scope inner g h → NameValues scope.types → NameValues inner.types
names_behind end_decs vs = vs
names_behind (type_names names v forms rest) vs = names_behind rest v
names_behind (variables t u v e f rest) vs = names_behind rest vs
names_behind {scope = scope} (group {fs = fs} ss distinct bodies rest) vs = names_behind rest (with_functions_names fs ss scope vs)

mutual
  pub checked : (e : Exp) (scope : Scope) → NameValues scope.types → (t : Ty) (g h : Noted) → typed e scope g ≡ fine t h → Checked e scope t g h
  checked (Nil s) scope vs t g h e = let d = given _ _ _ _ e in to d.0 d.1 nil
  checked (Int s n) scope vs t g h e = let d = given _ _ _ _ e in to d.0 d.1 int
  checked (Text s b) scope vs t g h e = let d = given _ _ _ _ e in to d.0 d.1 text
  checked (Break s) scope vs t g h e =
      let p = steps e in
      let k = kept _ _ _ _ _ _ p.first in
      let d = given _ _ _ _ p.onward in
      to d.0 (k.1 ∙ d.1) (break k.0)
  checked (Read s v) scope vs t g h e = read (checked_place v scope vs t g h e)
  checked (Call s f args) scope vs t g h e =
      let p = steps e in
      let q = steps p.onward in
      let r = steps q.onward in
      let d = given _ _ _ _ r.onward in
      let c = callee_got f _ p.value g p.between p.first in
      let k = kept _ _ _ _ _ _ q.first in
      let a = checked_all args p.value.params scope vs r.value q.between r.between (eqb-true _ _ k.0) r.first in
      to d.0 d.1 (call c.0 c.1 c.2 (subst (λ y. CheckedAll args p.value.params scope y r.between) (sym (c.3 ∙ k.1)) a))
  checked (Neg s a) scope vs t g h e =
      let i = an_int _ (checked a scope vs) e in
      let d = given _ _ _ _ i.2 in
      to d.0 d.1 (neg i.1)
  checked (Binary s op at a b) scope vs t g h e =
      let p = steps e in
      let q = steps p.onward in
      let r = steps q.onward in
      let u = steps r.onward in
      let d = given _ _ _ _ u.onward in
      let f = sides op p.value r.value q.value at _ _ _ u.value p.between q.between r.between u.between q.first u.first in
      to d.0 (f.2 ∙ d.1) (binary f.0 (checked a scope vs p.value g p.between p.first) f.1 (checked b scope vs r.value q.between r.between r.first))
  checked (Make s y inits) scope vs t g h e =
      let p = steps e in
      let q = steps p.onward in
      let r = steps q.onward in
      let u = steps r.onward in
      let d = given _ _ _ _ u.onward in
      let n = presented _ _ _ _ _ _ p.first in
      let f = fields_got p.value _ q.value p.between q.between q.first in
      let k = kept _ _ _ _ _ _ r.first in
      let l = checked_inits inits q.value scope vs u.value r.between u.between k.0 u.first in
      from (n.1 ∙ f.3) (to (sym f.1 ∙ d.0) d.1
      (make q.value f.2 (subst (λ z. CheckedInits inits q.value scope z u.between) (sym k.1) l)))
  checked (Fill s y size value) scope vs t g h e =
      let p = steps e in
      let q = steps p.onward in
      let i = an_int _ (checked size scope vs) q.onward in
      let j = fitting _ (checked value scope vs) i.2 in
      let d = given _ _ _ _ j.4 in
      let n = presented _ _ _ _ _ _ p.first in
      let f = element_got p.value _ q.value p.between q.between q.first in
      from (n.1 ∙ f.3) (to (sym f.1 ∙ d.0) d.1 (fill q.value j.0 f.2 i.1 j.2 j.3))
  checked (Assign s v a) scope vs t g h e =
      let p = steps e in
      let q = steps p.onward in
      let j = fitting _ (checked a scope vs) q.onward in
      let d = given _ _ _ _ j.4 in
      let m = assignable_keep v scope q.value p.between q.between q.first in
      to d.0 d.1 (assign (to_place refl m (checked_place v scope vs p.value g p.between p.first)) j.2 j.3)
  checked (If s c a b) scope vs t g h e =
      let i = an_int _ (checked c scope vs) e in
      let p = steps i.2 in
      let q = steps p.onward in
      let r = steps q.onward in
      let d = given _ _ _ _ r.onward in
      let k = kept _ _ _ _ _ _ r.first in
      let f = arms_fit p.value q.value k.0 in
      to d.0 (k.1 ∙ d.1) (if_else i.1 (checked a scope vs p.value i.0 p.between p.first) (checked b scope vs q.value p.between q.between q.first) f.0 f.1)
  checked (When s c a) scope vs t g h e =
      let i = an_int _ (checked c scope vs) e in
      let n = no_value _ (checked a scope vs) i.2 in
      let d = given _ _ _ _ n.2 in
      to d.0 d.1 (when i.1 n.1)
  checked (While s c a) scope vs t g h e =
      let i = an_int _ (checked c scope vs) e in
      let n = no_value _ (checked a (in_a_loop scope) vs) i.2 in
      let d = given _ _ _ _ n.2 in
      to d.0 d.1 (while i.1 n.1)
  checked (For s y low high a) scope vs t g h e =
      let inner = in_a_loop (binding y (variable_at (at_of y) int_type true) scope) in
      let i = an_int _ (checked low scope vs) e in
      let j = an_int _ (checked high scope vs) i.2 in
      let n = no_value _ (checked a inner vs) j.2 in
      let d = given _ _ _ _ n.2 in
      to d.0 d.1 (for i.1 j.1 n.1)
  checked (Let s ds es) scope vs t g h e =
      let p = steps e in
      let k = checked_decs ds scope p.value vs g p.between p.first in
      block p.value k (checked_last none_type es p.value (names_behind k vs) t p.between h p.onward)
  checked (Seq s es) scope vs t g h e = seq (checked_last none_type es scope vs t g h e)

  checked_place : (v : LValue) (scope : Scope) → NameValues scope.types → (t : Ty) (g h : Noted) → typed_place v scope g ≡ fine t h → CheckedPlace v scope t g h
  checked_place (Simple y) scope vs t g h e = let p = variable_got y _ t g h e in to_place refl p.3 (simple p.0 p.1 p.2)
  checked_place (Field v f) scope vs t g h e =
      let p = steps e in
      let q = steps p.onward in
      let k = fields_got p.value _ q.value p.between q.between q.first in
      let l = selected q.value f t q.between h q.onward in
      to_place refl l.3 (field k.0 q.value l.0 (to_place k.1 k.3 (checked_place v scope vs p.value g p.between p.first)) k.2 l.1 l.2)
  checked_place (Index v i) scope vs t g h e =
      let p = steps e in
      let q = steps p.onward in
      let j = an_int _ (checked i scope vs) q.onward in
      let d = given _ _ _ _ j.2 in
      let k = element_got p.value _ q.value p.between q.between q.first in
      to_place d.0 d.1 (index k.0 (to_place k.1 k.3 (checked_place v scope vs p.value g p.between p.first)) k.2 j.1)

  checked_all : (es : Exps) (ts : List Ty) (scope : Scope) → NameValues scope.types → (y : Unit {0}) (g h : Noted) → expression_count es ≡ length ts →
      expect_all es ts scope g ≡ fine y h → CheckedAll es ts scope g h
  checked_all no_exps [] scope vs y g h c e = subst (λ k. CheckedAll no_exps [] scope g k) (given _ _ _ _ e).1 end_args
  checked_all no_exps (t ∷ ts) scope vs y g h c e = cc
  checked_all (exp a rest) [] scope vs y g h c e = cc
  checked_all (exp a rest) (t ∷ ts) scope vs y g h c e =
      let f = fitting _ (checked a scope vs) e in
      an_arg f.0 f.2 f.3 (checked_all rest ts scope vs y f.1 h (let j : expression_count rest ≡ length ts = cc in j) f.4)

  checked_inits : (es : Inits) (fs : List (ℕ × Ty)) (scope : Scope) → NameValues scope.types → (y : Unit {0}) (g h : Noted) → are_fields es fs ≡ true →
      expect_fields es fs scope g ≡ fine y h → CheckedInits es fs scope g h
  checked_inits no_inits [] scope vs y g h c e = subst (λ k. CheckedInits no_inits [] scope g k) (given _ _ _ _ e).1 end_inits
  checked_inits no_inits (one ∷ fs) scope vs y g h c e = cc
  checked_inits (init f a rest) [] scope vs y g h c e = cc
  checked_inits (init f a rest) (one ∷ fs) scope vs y g h c e =
      let w = fitting _ (checked a scope vs) e in
      let b = both (name_of f == one.0) (are_fields rest fs) c in
      an_init w.0 (eqb-true (name_of f) one.0 b.0) w.2 w.3 (checked_inits rest fs scope vs y w.1 h b.1 w.4)

  checked_last : (u : Ty) (es : Exps) (scope : Scope) → NameValues scope.types → (t : Ty) (g h : Noted) → typed_last u es scope g ≡ fine t h →
      CheckedLast u es scope t g h
  checked_last u no_exps scope vs t g h e =
      let d = given _ _ _ _ e in
      subst (λ k. CheckedLast u no_exps scope t g k) d.1 (subst (λ y. CheckedLast u no_exps scope y g g) d.0 end_lasts)
  checked_last u (exp a rest) scope vs t g h e =
      let p = steps e in
      a_last p.value (checked a scope vs p.value g p.between p.first) (checked_last p.value rest scope vs t p.between h p.onward)

  checked_decs : (ds : Decs) (scope inner : Scope) → NameValues scope.types → (g h : Noted) → declare ds scope g ≡ fine inner h →
      CheckedDecs ds scope inner g h
  checked_decs no_decs scope inner vs g h e =
      let d = given _ _ _ _ e in
      subst (λ k. CheckedDecs no_decs scope inner g k) d.1 (subst (λ y. CheckedDecs no_decs scope y g g) d.0 end_decs)
  checked_decs (types ds rest) scope inner vs g h e =
      let p = steps e in
      let l = types_got ds scope p.value vs g p.between p.first in
      let inside = subst (λ (y : Scope). NameValues y.types) (sym l.1) l.3 in
      type_names l.0 l.3 l.2 (subst (λ y. CheckedDecs rest y inner p.between h) l.1 (checked_decs rest p.value inner inside p.between h p.onward))
  checked_decs (variable y None a rest) scope inner vs g h e =
      let p = steps e in
      let q = steps p.onward in
      let o = own_got p.value _ q.value p.between q.between q.first in
      variables q.value p.value o.2 (to refl o.1 (checked a scope vs p.value g p.between p.first)) (subst (λ z. Fits p.value z) o.0 the_same)
      (checked_decs rest (binding y (variable_at (at_of y) q.value false) scope) inner vs q.between h q.onward)
  checked_decs (variable y (Some kind) a rest) scope inner vs g h e =
      let p = steps e in
      let f = fitting _ (checked a scope vs) p.onward in
      let n = presented _ _ _ _ _ _ p.first in
      variables p.value f.0 (vs (name_of kind) p.value n.0) (from n.1 f.2) f.3
      (checked_decs rest (binding y (variable_at (at_of y) p.value false) scope) inner vs f.1 h f.4)
  checked_decs (functions fs rest) scope inner vs g h e =
      let p = steps e in
      let q = steps p.onward in
      let r = steps q.onward in
      let hd = headed fs scope vs q.value p.between q.between q.first in
      let body_scope = in_no_loop (with_functions fs q.value scope) in
      let inside = with_functions_names fs q.value scope vs in
      let l = checked_bodies fs q.value body_scope inside r.value q.between r.between hd.0 r.first in
      let same = no_repeats_keep _ [] (function_names fs) p.value g p.between p.first ∙ hd.1 in
      group q.value (group_apart _ [] fs p.value g p.between p.first) (subst (λ k. CheckedBodies fs q.value body_scope k r.between) (sym same) l)
      (checked_decs rest (with_functions fs q.value scope) inner inside r.between h r.onward)

  checked_bodies : (fs : FunDecs) (ss : List Signature) (scope : Scope) → NameValues scope.types → (y : Unit {0}) (g h : Noted) → Headed fs ss →
      bodies fs ss scope g ≡ fine y h → CheckedBodies fs ss scope g h
  checked_bodies no_functions _ scope vs y g h no_heads e = subst (λ k. CheckedBodies no_functions [] scope g k) (given _ _ _ _ e).1 end_bodies
  checked_bodies (function f ps r body rest) _ scope vs y g h (a_head {s = s} {ss = ss} n v m hd) e =
      let p = steps e in
      let q = steps p.onward in
      let b = body_got r s.result p.value _ q.value p.between q.between m q.first in
      a_body p.value n v m (to refl b.1 (checked body (with_params ps s.params scope) (with_params_names ps s.params scope vs) p.value g p.between p.first)) b.0
      (checked_bodies rest ss scope vs y q.between h hd q.onward)
