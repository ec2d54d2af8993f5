-- What actions of a translation give: a value, a state whose homes and callees have the levels of a
-- table, and functions after those that were done, each paid by what its text weighs.
use Rattle.std.proofs.Common.{◌≡◌, ◌≤◌, ◌+◌, ◌*◌, ◌==◌, ℕ, Bool, true, false, Some, List, [], ◌∷◌, ◌++◌, length, refl, sym, ap, ◌∙◌, subst, arith}
use Rattle.std.proofs.Common.{eqb-true, append_assoc, append-nil}
use Rattle.std.specs.Prelude.{if◌then◌else◌}
use Rattle.std.specs.List.{AllZip}
use Rattle.tg_frame.specs.declared.accesses.Access.{Access}
use Rattle.tg_symbols.specs.Tables.{looked_up}
use Rattle.tg_syntax.specs.declared.trees.Param.{Param}
use Rattle.tg_syntax.specs.Functions.{Measures}
use Rattle.tg_syntax.specs.Tree.{FunDecs, no_functions, function}
use Rattle.tg_tree.specs.Tree.{Ts, Function}
use Rattle.tg_tree.specs.Units.{Trees}
use Rattle.tg_tree.specs.Sizes.{statement_length, in_trees, statement_needs}
use Rattle.tg_translate.specs.declared.homes.Home.{Home}
use Rattle.tg_translate.specs.declared.homes.Callee.{Callee}
use Rattle.tg_translate.specs.declared.wants.Want.{Want}
use Rattle.tg_translate.specs.declared.wants.Want.TheVariants as want
use Rattle.tg_translate.specs.mirror.States.{TranslationState, Translated, drawn, Translates, after, give, fresh}
use Rattle.tg_translate.specs.mirror.Wants.{arms}
use Rattle.tg_translate.specs.mirror.Scopes.{declare_variable}
use Rattle.tg_translate.specs.mirror.Functions.{at_of, asked, parameters, own_homes, frame_for, begun, with_body, finish, declare_functions}
use Rattle.tg_translate_laws.proofs.Actions.{answer, left}
use Rattle.tg_stack_bounds.proofs.Leading as leading
use Rattle.tg_stack_bounds.proofs.Leading.{LevelTable}

-- A function without words for arguments, of a parameter more than its text has, at most, and whose
-- body is paid by the nodes and the crossed levels of its text.
pub record IsPaid (m : Measures) (f : Function Ts) : Type 0 where
  pub out : f.out ≡ 0
  pub params : length f.params + m.size ≤ m.nodes + 1
  pub short : statement_length Trees f.body ≤ 90 * m.size + 4 * m.hops + 12
  pub small : statement_needs in_trees f.body ≤ 44 * m.size + 6 * m.hops

-- functions that are added, one for each of a text
pub record Adds (ms : List Measures) (fs gs : List (Function Ts)) : Type 0 where
  pub added : List (Function Ts)
  pub behind : gs ≡ fs ++ added
  pub paid : AllZip IsPaid ms added

zip_append : (ms ns : List Measures) (fs gs : List (Function Ts)) → AllZip IsPaid ms fs → AllZip IsPaid ns gs → AllZip IsPaid (ms ++ ns) (fs ++ gs)
zip_append [] ns [] gs h k = k
zip_append [] ns (f ∷ fs) gs h k = absurd h
zip_append (m ∷ ms) ns [] gs h k = absurd h
zip_append (m ∷ ms) ns (f ∷ fs) gs h k = (h.0, zip_append ms ns fs gs h.1 k)

adds_on : (ms ns : List Measures) (fs gs hs : List (Function Ts)) → Adds ms fs gs → Adds ns gs hs → Adds (ms ++ ns) fs hs
adds_on ms ns fs gs hs h k = record {
  added = h.added ++ k.added;
  behind = k.behind ∙ (ap (λ l. l ++ k.added) h.behind ∙ append_assoc fs h.added k.added);
  paid = zip_append ms ns h.added k.added h.paid k.paid;
}

pub adds_none : (fs : List (Function Ts)) → Adds [] fs fs
adds_none fs = record { added = []; behind = sym (append-nil fs); paid = tt }

-- what a body of these measures is
abbrev pub IsPaidBody : (nodes hops : ℕ) → Ts → Type 0
IsPaidBody nodes hops x = (statement_length Trees x ≤ 90 * nodes + 4 * hops + 12) × (statement_needs in_trees x ≤ 44 * nodes + 6 * hops)

module _ (table : LevelTable) where
  abbrev Keeps : TranslationState → Type 0
  Keeps s = leading.Keeps table s

  -- from a state on, with the functions that a text declares
  pub record Gives {A : Type 0} (s : TranslationState) (ms : List Measures) (V : A → Type 0) (d : Translated A) : Type 0 where
    pub value : V (answer d)
    pub kept : Keeps (left d)
    pub params : (left d).frame.params ≡ s.frame.params
    pub out : (left d).frame.out ≡ s.frame.out
    pub functions : Adds ms s.functions (left d).functions

  -- Actions follow one another.

  pub bind : {A B : Type 0} {s : TranslationState} {ms ns : List Measures} {V : A → Type 0} {W : B → Type 0} {d : Translated A} {next : A → Translates B} →
      Gives s ms V d → ((a : A) (t : TranslationState) → Keeps t → V a → Gives t ns W (next a t)) → Gives s (ms ++ ns) W (after d next)
  bind {s = s} {ms = ms} {ns = ns} {d = drawn a t} {next = next} h k =
      let g = k a t h.kept h.value in
      let u : TranslationState = left (next a t) in
      record {
        value = g.value;
        kept = g.kept;
        params = g.params ∙ h.params;
        out = g.out ∙ h.out;
        functions = adds_on ms ns s.functions t.functions u.functions h.functions g.functions;
      }

  -- what follows declares nothing
  pub then_quiet : {A B : Type 0} {s : TranslationState} {ms : List Measures} {V : A → Type 0} {W : B → Type 0} {d : Translated A} {next : A → Translates B} →
      Gives s ms V d → ((a : A) (t : TranslationState) → Keeps t → V a → Gives t [] W (next a t)) → Gives s ms W (after d next)
  then_quiet {s = s} {ms = ms} {W = W} {d = d} {next = next} h k =
      subst (λ l. Gives s l W (after d next)) (append-nil ms) (bind h k)

  pub given : {A : Type 0} {V : A → Type 0} (s : TranslationState) → Keeps s → (a : A) → V a → Gives s [] V (give a s)
  given s sound a v = record { value = v; kept = sound; params = refl; out = refl; functions = adds_none s.functions }

  pub weaken : {A : Type 0} {s : TranslationState} {ms : List Measures} {V W : A → Type 0} {d : Translated A} →
      Gives s ms V d → ((a : A) → V a → W a) → Gives s ms W d
  weaken {d = d} h k = record {
    value = k (answer d) h.value;
    kept = h.kept;
    params = h.params;
    out = h.out;
    functions = h.functions;
  }

  -- Single actions.

  pub any_fresh : (s : TranslationState) → Keeps s → Gives s [] (λ a. Unit {0}) (fresh s)
  any_fresh s sound = record {
    value = tt;
    kept = record { home = sound.home; callee = sound.callee };
    params = refl;
    out = refl;
    functions = adds_none s.functions;
  }

  pub any_arms : (w : Want) (s : TranslationState) → Keeps s → Gives s [] (λ a. Unit {0}) (arms w s)
  any_arms want.Value s sound = record {
    value = tt;
    kept = record { home = sound.home; callee = sound.callee };
    params = refl;
    out = refl;
    functions = adds_none s.functions;
  }
  any_arms (want.Into t) s sound = given s sound (want.Into t) tt
  any_arms want.Dropped s sound = given s sound want.Dropped tt
  any_arms want.Test s sound = record {
    value = tt;
    kept = record { home = sound.home; callee = sound.callee };
    params = refl;
    out = refl;
    functions = adds_none s.functions;
  }

  one_home : (at : ℕ) (home : Home) (s : TranslationState) → home.level ≡ table.variables at → Keeps s →
      Keeps (record s { homes = (at, home) ∷ s.homes })
  one_home at home s e h = record {
    home = λ x k i. by x k (at == x) refl i;
    callee = h.callee;
  }
    where
      by : (x : ℕ) (k : Home) (b : Bool) → (at == x) ≡ b → (if b then Some home else looked_up x s.homes) ≡ Some k → k.level ≡ table.variables x
      by x k true i f = let same : at ≡ x = eqb-true at x i in let is : home ≡ k = cc in cc
      by x k false i f = h.home x k f

  one_callee : (at : ℕ) (callee : Callee) (s : TranslationState) → callee.level ≡ table.functions at → Keeps s →
      Keeps (record s { callees = (at, callee) ∷ s.callees })
  one_callee at callee s e h = record {
    home = h.home;
    callee = λ x k i. by x k (at == x) refl i;
  }
    where
      by : (x : ℕ) (k : Callee) (b : Bool) → (at == x) ≡ b → (if b then Some callee else looked_up x s.callees) ≡ Some k →
          k.level ≡ table.functions x
      by x k true i f = let same : at ≡ x = eqb-true at x i in let is : callee ≡ k = cc in cc
      by x k false i f = h.callee x k f

  pub any_declared : (escapes : Bool) (level at : ℕ) (s : TranslationState) → Keeps s → level ≡ table.variables at →
      Gives s [] (λ a. Unit {0}) (declare_variable escapes level at s)
  any_declared true level at s sound e = record {
    value = tt;
    kept = let k = one_home at (record { level = level; access = _ }) s e sound in record { home = k.home; callee = k.callee };
    params = refl;
    out = refl;
    functions = adds_none s.functions;
  }
  any_declared false level at s sound e = record {
    value = tt;
    kept = let k = one_home at (record { level = level; access = _ }) s e sound in record { home = k.home; callee = k.callee };
    params = refl;
    out = refl;
    functions = adds_none s.functions;
  }

  pub any_functions : (fs : FunDecs) (level : ℕ) (s : TranslationState) → Keeps s → leading.AreAt table level fs →
      Gives s [] (λ a. Unit {0}) (declare_functions level fs s)
  any_functions no_functions level s sound e = given {A = Unit {0}} s sound tt tt
  any_functions (function f _ _ _ rest) level s sound e =
      let one : Callee = record { level = level; label = record { 0 = s.label } } in
      let k = one_callee (at_of f) one s e.0 sound in
      let u : TranslationState = record s { label = s.label + 1; callees = (at_of f, one) ∷ s.callees } in
      let g = any_functions rest level u (record { home = k.home; callee = k.callee }) e.1 in
      record { value = tt; kept = g.kept; params = g.params; out = g.out; functions = g.functions }

  params_keep : (level : ℕ) (params : List Param) (homes : List Access) (s : TranslationState) → leading.AreParamsAt table level params → Keeps s →
      Keeps (record s { homes = parameters level params homes s.homes })
  params_keep level [] homes s e h = record { home = h.home; callee = h.callee }
  params_keep level (p ∷ params) [] s e h = record { home = h.home; callee = h.callee }
  params_keep level (p ∷ params) (home ∷ homes) s e h =
      let k = one_home (at_of p.name) (record { level = level; access = home }) s e.0 h in
      let u : TranslationState = record s { homes = (at_of p.name, record { level = level; access = home }) ∷ s.homes } in
      let rest = params_keep level params homes u e.1 k in
      record { home = rest.home; callee = rest.callee }

  -- a function's text begins
  pub begun_keeps : (escapes : ℕ → Bool) (label : ℕ) (kept : Bool) (level : ℕ) (params : List Param) (s : TranslationState) → Keeps s →
      leading.AreParamsAt table level params → Keeps (begun escapes label kept level params s)
  begun_keeps escapes label kept level params s sound h =
      let k = params_keep level params (own_homes (frame_for label (asked escapes kept params)).params) s h sound in
      record { home = k.home; callee = k.callee }

  pub paid_function : (t : TranslationState) (i : Measures) {ms : List Measures} (x : Ts) (u : TranslationState) → t.frame.out ≡ 0 →
      length t.frame.params + i.size ≤ i.nodes + 1 → Gives t ms (IsPaidBody i.size i.hops) (drawn x u) → IsPaid i (with_body u.frame x)
  paid_function t i x u out few h =
      let e = ap (λ xs. length xs) h.params in
      record { out = h.out ∙ out; params = omega (arith, e, few); short = h.value.0; small = h.value.1 }

  -- a function stands before those that its text adds
  pub finish_paid : (s t : TranslationState) (i : Measures) {ms : List Measures} {d : Translated Ts} → t.functions ≡ [] → t.frame.out ≡ 0 →
      length t.frame.params + i.size ≤ i.nodes + 1 → Gives t ms (IsPaidBody i.size i.hops) d → Gives s (i ∷ ms) (λ a. Unit {0}) (finish s d)
  finish_paid s t i {d = drawn x u} none out few h =
      let f : Function Ts = with_body u.frame x in
      record {
        value = tt;
        kept = record { home = h.kept.home; callee = h.kept.callee };
        params = refl;
        out = refl;
        functions = record {
          added = f ∷ h.functions.added;
          behind = ap (λ fs. s.functions ++ f ∷ fs) (h.functions.behind ∙ ap (λ fs. fs ++ h.functions.added) none);
          paid = (paid_function t i x u out few h, h.functions.paid);
        };
      }
