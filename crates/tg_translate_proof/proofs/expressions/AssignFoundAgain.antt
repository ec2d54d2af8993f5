-- L-values that may be found again, as those are that an assignment reads first: what finds one changes
-- nothing, and l-values that are told to be the same find the same location in each world.
use Rattle.std.proofs.Common.{◌≡◌, ℕ, ◌-◌, ◌==◌, List, Option, Some, None, Bool, true, false, refl, sym, ap, ◌∙◌, arith, subst, inl, inr, eqb-true}
use Rattle.std.specs.Prelude.{slice_get, length, ◌⊎◌, if◌then◌else◌}
use Rattle.tg_base.specs.Words.{exact_sum, exact_difference}
use Rattle.tg_syntax.specs.declared.tokens.Ident.{Ident}
use Rattle.tg_syntax.specs.declared.trees.Op.{Op}
use Rattle.tg_syntax.specs.declared.trees.Op.TheVariants.{Plus, Minus, Times, Divide, Equal, NotEqual, Less, LessEqual, Greater, GreaterEqual, And, Or}
use Rattle.tg_syntax.specs.Tree.{Exp, Nil, Break, Int, Text, Read, Call, Neg, Binary, Make, Fill, Assign, If, When, While, For, Let, Seq, LValue, Simple, Field, Index}
use Rattle.tg_symbols.specs.Tables.{looked_up}
use Rattle.tg_simulation.specs.Outcomes.{ended, stuck}
use Rattle.tg_simulation.specs.Changes.{costs}
use Rattle.tg_semantics.specs.Values.{Value, int, string, nil, reference, nothing, SourceWorld, Env, Object, fields, elements, by_nil, by_index, by_overflow}
use Rattle.tg_semantics.specs.Actions.{Actions}
use Rattle.tg_semantics.specs.Environments.{find, Bound, to_variable, to_function, to_standard, levels_out}
use Rattle.tg_semantics.specs.Evaluation as evaluation
use Rattle.tg_semantics.specs.Evaluation.{Location, in_variable, in_field, in_element}
use Rattle.tg_semantics.specs.Operators.{field_in, element_in, is_below}
use Rattle.tg_semantics.specs.Passing.{Rest, Passing, passing, with_found, ends}
use Rattle.tg_semantics.specs.laws.Laws.{behind}
use Rattle.tg_semantics.specs.Levels.{levels_of}
use Rattle.tg_typecheck.specs.declared.notes.Means.{Means}
use Rattle.tg_typecheck.specs.declared.notes.Means.TheVariants as means
use Rattle.tg_typecheck.specs.Types.{Ty, record_type, array_type, record_shape, array_shape, int_type}
use Rattle.tg_semantics.specs.Environments.{name_of}
use Rattle.tg_typecheck.specs.Scopes.{at_of, Scope}
use Rattle.tg_typecheck.specs.Has as has
use Rattle.tg_typecheck.specs.Has.{Has, HasPlace}
use Rattle.tg_translate.specs.mirror.States.{TranslationState}
use Rattle.tg_translate.specs.mirror.Scopes.{field_number}
use Rattle.tg_translate.specs.mirror.Updates.{is_same_variable, is_sum_or_difference, is_same_place, is_same_index}
use Rattle.tg_translate_proof.specs.glue.Covered.{CoversPlace, Covers}
use Rattle.tg_translate_proof.specs.glue.Worlds.{Content, nowhere, free, variable, kept, fixed, IsOf}
use Rattle.tg_translate_proof.specs.glue.Situations.{Program, Part, Setting, IsReady, key_of}
use Rattle.tg_translate_proof.proofs.state.Keys.{some_same}
use Rattle.tg_translate_proof.proofs.expressions.BinarySides.{both_true}
use Rattle.tg_translate_proof.proofs.state.ObjectStores.{first_of, first_is}
use Rattle.tg_translate_proof.proofs.expressions.LValueAddress.{Premises, SeenVariable, name_typed}

-- both are sums, or both differences
one_of_two : (op o : Op) → is_sum_or_difference op o ≡ true → (op ≡ o) × ((op ≡ Plus) ⊎ (op ≡ Minus))
one_of_two Plus Plus e = (refl, inl refl)
one_of_two Plus Minus e = cc
one_of_two Plus Times e = cc
one_of_two Plus Divide e = cc
one_of_two Plus Equal e = cc
one_of_two Plus NotEqual e = cc
one_of_two Plus Less e = cc
one_of_two Plus LessEqual e = cc
one_of_two Plus Greater e = cc
one_of_two Plus GreaterEqual e = cc
one_of_two Plus And e = cc
one_of_two Plus Or e = cc
one_of_two Minus Plus e = cc
one_of_two Minus Minus e = (refl, inr refl)
one_of_two Minus Times e = cc
one_of_two Minus Divide e = cc
one_of_two Minus Equal e = cc
one_of_two Minus NotEqual e = cc
one_of_two Minus Less e = cc
one_of_two Minus LessEqual e = cc
one_of_two Minus Greater e = cc
one_of_two Minus GreaterEqual e = cc
one_of_two Minus And e = cc
one_of_two Minus Or e = cc
one_of_two Times o e = cc
one_of_two Divide o e = cc
one_of_two Equal o e = cc
one_of_two NotEqual o e = cc
one_of_two Less o e = cc
one_of_two LessEqual o e = cc
one_of_two Greater o e = cc
one_of_two GreaterEqual o e = cc
one_of_two And o e = cc
one_of_two Or o e = cc

one_place : (c : Content) (l m : ℕ) → IsOf l c → IsOf m c → l ≡ m
one_place nowhere l m a b = absurd a
one_place free l m a b = absurd a
one_place (fixed z) l m a b = absurd a
one_place (variable q) l m a b = sym a ∙ b
one_place (kept q z) l m a b = sym a ∙ b

-- the sides of an operator are typed
record SidesTyped (P : Program) (scope : Scope) (a b : Exp) : Type 0 where
  left : Ty
  right : Ty
  left_typed : Has P.shapes P.notes a scope left
  right_typed : Has P.shapes P.notes b scope right

-- What an action does that changes nothing, in one world: it stops, or it gives something at a cost.
pub data Idle (A : Type 0) : Type 0 where
  stops : Rest → Idle A
  gives : A → Idle A
  costing : ℕ → Idle A → Idle A

abbrev pub carried : {A : Type 0} → Idle A → (A → Rest) → Rest
carried (stops r) go = r
carried (gives a) go = go a
carried (costing k o) go = λ w n. costs k (carried o go w n)

-- what it gives, where it gives anything
abbrev pub reached : {A : Type 0} → Idle A → Option A
reached (stops r) = None
reached (gives a) = Some a
reached (costing k o) = reached o

pub record IsIdle {A : Type 0} (m : Passing A) (s : SourceWorld) : Type 0 where
  pub o : Idle A
  pub does : (go : A → Rest) (out : Rest) (n : ℕ) → m go out s n ≡ carried o go s n

module _ {A B : Type 0} (next : A → Passing B) (s : SourceWorld) (h : (a : A) → IsIdle (next a) s) where
  abbrev bound_to : Idle A → Idle B
  bound_to (stops r) = stops r
  bound_to (gives a) = (h a).o
  bound_to (costing k o) = costing k (bound_to o)

  bound_does : (o : Idle A) (go : B → Rest) (out : Rest) (n : ℕ) → carried o (λ a. next a go out) s n ≡ carried (bound_to o) go s n
  bound_does (stops r) go out n = refl
  bound_does (gives a) go out n = (h a).does go out n
  bound_does (costing k o) go out n = ap (λ z. costs k z) (bound_does o go out n)

  -- one after another
  pub idle_then : (m : Passing A) → IsIdle m s → IsIdle (λ go out. m (λ a. next a go out) out) s
  idle_then m x = record { o = bound_to x.o; does = λ go out n. x.does (λ a. next a go out) out n ∙ bound_does x.o go out n }

idle_costs : {A : Type 0} (k : ℕ) (m : Passing A) (s : SourceWorld) → IsIdle m s → IsIdle (λ go out w n. costs k (m go out w n)) s
idle_costs k m s x = record { o = costing k x.o; does = λ go out n. ap (λ z. costs k z) (x.does go out n) }

idle_found : {A : Type 0} (f : SourceWorld → Option A) (s : SourceWorld) → IsIdle (λ go out w. with_found (f w) go w) s
idle_found f s = by (f s) refl
  where
    by : (found : Option _) → f s ≡ found → IsIdle (λ go out w. with_found (f w) go w) s
    by None e = record { o = stops (ends stuck); does = λ go out n. ap (λ z. with_found z go s n) e }
    by (Some a) e = record { o = gives a; does = λ go out n. ap (λ z. with_found z go s n) e }

module _ (heap stack : ℕ) where
  abbrev M : Actions Passing
  M = passing heap stack

  read_idle : (l : Location) (s : SourceWorld) → IsIdle (evaluation.read_location Passing M l) s
  read_idle (in_variable place) s = idle_found (λ w. slice_get w.variables place) s
  read_idle (in_field r f) s =
      idle_then (λ object go out w. with_found (field_in f object) go w) s (λ object. idle_found (λ w. field_in f object) s)
      (λ go out w. with_found (slice_get w.objects r) go w) (idle_found (λ w. slice_get w.objects r) s)
  read_idle (in_element r i) s =
      idle_then (λ object go out w. with_found (element_in i object) go w) s (λ object. idle_found (λ w. element_in i object) s)
      (λ go out w. with_found (slice_get w.objects r) go w) (idle_found (λ w. slice_get w.objects r) s)

  located_field_idle : (v : Value) (f : ℕ) (s : SourceWorld) → IsIdle (evaluation.locate_field Passing M v f) s
  located_field_idle nil f s = record { o = stops (ends (ended by_nil)); does = λ go out n. refl }
  located_field_idle (reference r) f s = record { o = gives (in_field r f); does = λ go out n. refl }
  located_field_idle (int a) f s = record { o = stops (ends stuck); does = λ go out n. refl }
  located_field_idle (string a) f s = record { o = stops (ends stuck); does = λ go out n. refl }
  located_field_idle nothing f s = record { o = stops (ends stuck); does = λ go out n. refl }

  located_within_idle : (r i : ℕ) (object : Object) (s : SourceWorld) → IsIdle (evaluation.locate_within Passing M r i object) s
  located_within_idle r i (fields parts) s = record { o = stops (ends stuck); does = λ go out n. refl }
  located_within_idle r i (elements values) s = by (is_below i (length values))
    where
      by : (b : Bool) → IsIdle (if b then (λ (go : Location → Rest) (out : Rest). go (in_element r i)) else evaluation.end_program Passing M by_index) s
      by true = record { o = gives (in_element r i); does = λ go out n. refl }
      by false = record { o = stops (ends (ended by_index)); does = λ go out n. refl }

  located_element_idle : (v b : Value) (s : SourceWorld) → IsIdle (evaluation.locate_element Passing M v b) s
  located_element_idle (reference r) (int i) s =
      idle_then (λ object. evaluation.locate_within Passing M r i object) s (λ object. located_within_idle r i object s)
      (λ go out w. with_found (slice_get w.objects r) go w) (idle_found (λ w. slice_get w.objects r) s)
  located_element_idle (int a) (int b) s = record { o = stops (ends stuck); does = λ go out n. refl }
  located_element_idle (int a) (string b) s = record { o = stops (ends stuck); does = λ go out n. refl }
  located_element_idle (int a) nil s = record { o = stops (ends stuck); does = λ go out n. refl }
  located_element_idle (int a) (reference b) s = record { o = stops (ends stuck); does = λ go out n. refl }
  located_element_idle (int a) nothing s = record { o = stops (ends stuck); does = λ go out n. refl }
  located_element_idle (string a) (int b) s = record { o = stops (ends stuck); does = λ go out n. refl }
  located_element_idle (string a) (string b) s = record { o = stops (ends stuck); does = λ go out n. refl }
  located_element_idle (string a) nil s = record { o = stops (ends stuck); does = λ go out n. refl }
  located_element_idle (string a) (reference b) s = record { o = stops (ends stuck); does = λ go out n. refl }
  located_element_idle (string a) nothing s = record { o = stops (ends stuck); does = λ go out n. refl }
  located_element_idle nil (int b) s = record { o = stops (ends stuck); does = λ go out n. refl }
  located_element_idle nil (string b) s = record { o = stops (ends stuck); does = λ go out n. refl }
  located_element_idle nil nil s = record { o = stops (ends stuck); does = λ go out n. refl }
  located_element_idle nil (reference b) s = record { o = stops (ends stuck); does = λ go out n. refl }
  located_element_idle nil nothing s = record { o = stops (ends stuck); does = λ go out n. refl }
  located_element_idle (reference a) (string b) s = record { o = stops (ends stuck); does = λ go out n. refl }
  located_element_idle (reference a) nil s = record { o = stops (ends stuck); does = λ go out n. refl }
  located_element_idle (reference a) (reference b) s = record { o = stops (ends stuck); does = λ go out n. refl }
  located_element_idle (reference a) nothing s = record { o = stops (ends stuck); does = λ go out n. refl }
  located_element_idle nothing (int b) s = record { o = stops (ends stuck); does = λ go out n. refl }
  located_element_idle nothing (string b) s = record { o = stops (ends stuck); does = λ go out n. refl }
  located_element_idle nothing nil s = record { o = stops (ends stuck); does = λ go out n. refl }
  located_element_idle nothing (reference b) s = record { o = stops (ends stuck); does = λ go out n. refl }
  located_element_idle nothing nothing s = record { o = stops (ends stuck); does = λ go out n. refl }

  exactly_idle : (found : Option ℕ) (s : SourceWorld) → IsIdle (evaluation.exactly Passing M found) s
  exactly_idle (Some n) s = record { o = gives (int n); does = λ go out i. refl }
  exactly_idle None s = record { o = stops (ends (ended by_overflow)); does = λ go out i. refl }

  plus_idle : (x y : Value) (s : SourceWorld) → IsIdle (evaluation.operate Passing M Plus x y) s
  plus_idle (int a) (int b) s = exactly_idle (exact_sum a b) s
  plus_idle (int a) (string b) s = record { o = stops (evaluation.operate Passing M Plus (int a) (string b) (λ _. ends stuck) (ends stuck)); does = λ go out n. refl }
  plus_idle (int a) nil s = record { o = stops (evaluation.operate Passing M Plus (int a) nil (λ _. ends stuck) (ends stuck)); does = λ go out n. refl }
  plus_idle (int a) (reference b) s = record { o = stops (evaluation.operate Passing M Plus (int a) (reference b) (λ _. ends stuck) (ends stuck)); does = λ go out n. refl }
  plus_idle (int a) nothing s = record { o = stops (evaluation.operate Passing M Plus (int a) nothing (λ _. ends stuck) (ends stuck)); does = λ go out n. refl }
  plus_idle (string a) (int b) s = record { o = stops (evaluation.operate Passing M Plus (string a) (int b) (λ _. ends stuck) (ends stuck)); does = λ go out n. refl }
  plus_idle (string a) (string b) s = record { o = stops (evaluation.operate Passing M Plus (string a) (string b) (λ _. ends stuck) (ends stuck)); does = λ go out n. refl }
  plus_idle (string a) nil s = record { o = stops (evaluation.operate Passing M Plus (string a) nil (λ _. ends stuck) (ends stuck)); does = λ go out n. refl }
  plus_idle (string a) (reference b) s = record { o = stops (evaluation.operate Passing M Plus (string a) (reference b) (λ _. ends stuck) (ends stuck)); does = λ go out n. refl }
  plus_idle (string a) nothing s = record { o = stops (evaluation.operate Passing M Plus (string a) nothing (λ _. ends stuck) (ends stuck)); does = λ go out n. refl }
  plus_idle nil (int b) s = record { o = stops (evaluation.operate Passing M Plus nil (int b) (λ _. ends stuck) (ends stuck)); does = λ go out n. refl }
  plus_idle nil (string b) s = record { o = stops (evaluation.operate Passing M Plus nil (string b) (λ _. ends stuck) (ends stuck)); does = λ go out n. refl }
  plus_idle nil nil s = record { o = stops (evaluation.operate Passing M Plus nil nil (λ _. ends stuck) (ends stuck)); does = λ go out n. refl }
  plus_idle nil (reference b) s = record { o = stops (evaluation.operate Passing M Plus nil (reference b) (λ _. ends stuck) (ends stuck)); does = λ go out n. refl }
  plus_idle nil nothing s = record { o = stops (evaluation.operate Passing M Plus nil nothing (λ _. ends stuck) (ends stuck)); does = λ go out n. refl }
  plus_idle (reference a) (int b) s = record { o = stops (evaluation.operate Passing M Plus (reference a) (int b) (λ _. ends stuck) (ends stuck)); does = λ go out n. refl }
  plus_idle (reference a) (string b) s = record { o = stops (evaluation.operate Passing M Plus (reference a) (string b) (λ _. ends stuck) (ends stuck)); does = λ go out n. refl }
  plus_idle (reference a) nil s = record { o = stops (evaluation.operate Passing M Plus (reference a) nil (λ _. ends stuck) (ends stuck)); does = λ go out n. refl }
  plus_idle (reference a) (reference b) s = record { o = stops (evaluation.operate Passing M Plus (reference a) (reference b) (λ _. ends stuck) (ends stuck)); does = λ go out n. refl }
  plus_idle (reference a) nothing s = record { o = stops (evaluation.operate Passing M Plus (reference a) nothing (λ _. ends stuck) (ends stuck)); does = λ go out n. refl }
  plus_idle nothing (int b) s = record { o = stops (evaluation.operate Passing M Plus nothing (int b) (λ _. ends stuck) (ends stuck)); does = λ go out n. refl }
  plus_idle nothing (string b) s = record { o = stops (evaluation.operate Passing M Plus nothing (string b) (λ _. ends stuck) (ends stuck)); does = λ go out n. refl }
  plus_idle nothing nil s = record { o = stops (evaluation.operate Passing M Plus nothing nil (λ _. ends stuck) (ends stuck)); does = λ go out n. refl }
  plus_idle nothing (reference b) s = record { o = stops (evaluation.operate Passing M Plus nothing (reference b) (λ _. ends stuck) (ends stuck)); does = λ go out n. refl }
  plus_idle nothing nothing s = record { o = stops (evaluation.operate Passing M Plus nothing nothing (λ _. ends stuck) (ends stuck)); does = λ go out n. refl }

  minus_idle : (x y : Value) (s : SourceWorld) → IsIdle (evaluation.operate Passing M Minus x y) s
  minus_idle (int a) (int b) s = exactly_idle (exact_difference a b) s
  minus_idle (int a) (string b) s = record { o = stops (evaluation.operate Passing M Minus (int a) (string b) (λ _. ends stuck) (ends stuck)); does = λ go out n. refl }
  minus_idle (int a) nil s = record { o = stops (evaluation.operate Passing M Minus (int a) nil (λ _. ends stuck) (ends stuck)); does = λ go out n. refl }
  minus_idle (int a) (reference b) s = record { o = stops (evaluation.operate Passing M Minus (int a) (reference b) (λ _. ends stuck) (ends stuck)); does = λ go out n. refl }
  minus_idle (int a) nothing s = record { o = stops (evaluation.operate Passing M Minus (int a) nothing (λ _. ends stuck) (ends stuck)); does = λ go out n. refl }
  minus_idle (string a) (int b) s = record { o = stops (evaluation.operate Passing M Minus (string a) (int b) (λ _. ends stuck) (ends stuck)); does = λ go out n. refl }
  minus_idle (string a) (string b) s = record { o = stops (evaluation.operate Passing M Minus (string a) (string b) (λ _. ends stuck) (ends stuck)); does = λ go out n. refl }
  minus_idle (string a) nil s = record { o = stops (evaluation.operate Passing M Minus (string a) nil (λ _. ends stuck) (ends stuck)); does = λ go out n. refl }
  minus_idle (string a) (reference b) s = record { o = stops (evaluation.operate Passing M Minus (string a) (reference b) (λ _. ends stuck) (ends stuck)); does = λ go out n. refl }
  minus_idle (string a) nothing s = record { o = stops (evaluation.operate Passing M Minus (string a) nothing (λ _. ends stuck) (ends stuck)); does = λ go out n. refl }
  minus_idle nil (int b) s = record { o = stops (evaluation.operate Passing M Minus nil (int b) (λ _. ends stuck) (ends stuck)); does = λ go out n. refl }
  minus_idle nil (string b) s = record { o = stops (evaluation.operate Passing M Minus nil (string b) (λ _. ends stuck) (ends stuck)); does = λ go out n. refl }
  minus_idle nil nil s = record { o = stops (evaluation.operate Passing M Minus nil nil (λ _. ends stuck) (ends stuck)); does = λ go out n. refl }
  minus_idle nil (reference b) s = record { o = stops (evaluation.operate Passing M Minus nil (reference b) (λ _. ends stuck) (ends stuck)); does = λ go out n. refl }
  minus_idle nil nothing s = record { o = stops (evaluation.operate Passing M Minus nil nothing (λ _. ends stuck) (ends stuck)); does = λ go out n. refl }
  minus_idle (reference a) (int b) s = record { o = stops (evaluation.operate Passing M Minus (reference a) (int b) (λ _. ends stuck) (ends stuck)); does = λ go out n. refl }
  minus_idle (reference a) (string b) s = record { o = stops (evaluation.operate Passing M Minus (reference a) (string b) (λ _. ends stuck) (ends stuck)); does = λ go out n. refl }
  minus_idle (reference a) nil s = record { o = stops (evaluation.operate Passing M Minus (reference a) nil (λ _. ends stuck) (ends stuck)); does = λ go out n. refl }
  minus_idle (reference a) (reference b) s = record { o = stops (evaluation.operate Passing M Minus (reference a) (reference b) (λ _. ends stuck) (ends stuck)); does = λ go out n. refl }
  minus_idle (reference a) nothing s = record { o = stops (evaluation.operate Passing M Minus (reference a) nothing (λ _. ends stuck) (ends stuck)); does = λ go out n. refl }
  minus_idle nothing (int b) s = record { o = stops (evaluation.operate Passing M Minus nothing (int b) (λ _. ends stuck) (ends stuck)); does = λ go out n. refl }
  minus_idle nothing (string b) s = record { o = stops (evaluation.operate Passing M Minus nothing (string b) (λ _. ends stuck) (ends stuck)); does = λ go out n. refl }
  minus_idle nothing nil s = record { o = stops (evaluation.operate Passing M Minus nothing nil (λ _. ends stuck) (ends stuck)); does = λ go out n. refl }
  minus_idle nothing (reference b) s = record { o = stops (evaluation.operate Passing M Minus nothing (reference b) (λ _. ends stuck) (ends stuck)); does = λ go out n. refl }
  minus_idle nothing nothing s = record { o = stops (evaluation.operate Passing M Minus nothing nothing (λ _. ends stuck) (ends stuck)); does = λ go out n. refl }

  -- What finds a location and what is evaluated, by the parts.

  abbrev named_location : ℕ → Option Bound → Passing Location
  named_location level b go out w n =
      costs 1 (with_found b (λ c w2 i. costs (levels_out level c) (evaluation.locate_variable Passing M c go out w2 i)) w n)

  abbrev field_location : Passing Location → ℕ → Passing Location
  field_location m f go out w n =
      costs 1 (m (λ l. evaluation.read_location Passing M l (λ v. evaluation.locate_field Passing M v f go out) out) out w n)

  abbrev element_location : Passing Location → Passing Value → Passing Location
  element_location m a go out w n =
      costs 1 (m (λ l. evaluation.read_location Passing M l (λ v. a (λ i. evaluation.locate_element Passing M v i go out) out) out) out w n)

  abbrev number_value : ℕ → Passing Value
  number_value k go out w n = costs 1 (go (int k) w n)

  abbrev read_value : Passing Location → Passing Value
  read_value m go out w n = costs 1 (m (λ l. evaluation.read_location Passing M l go out) out w n)

  abbrev operated : Op → Passing Value → Passing Value → Passing Value
  operated op a b go out w n = costs 1 (a (λ x. evaluation.with_left Passing M op x b go out) out w n)

  named_idle : (level : ℕ) (b : Option Bound) (s : SourceWorld) → IsIdle (named_location level b) s
  named_idle level None s = record { o = costing 1 (stops (ends stuck)); does = λ go out n. refl }
  named_idle level (Some (to_variable l place)) s = record { o = costing 1 (costing (level - l) (gives (in_variable place))); does = λ go out n. refl }
  named_idle level (Some (to_function l f seen)) s = record { o = costing 1 (costing (level - l) (stops (ends stuck))); does = λ go out n. refl }
  named_idle level (Some (to_standard f)) s = record { o = costing 1 (costing 0 (stops (ends stuck))); does = λ go out n. refl }

  operated_idle : (op : Op) (a b : Passing Value) (s : SourceWorld) → (op ≡ Plus) ⊎ (op ≡ Minus) → IsIdle a s → IsIdle b s → IsIdle (operated op a b) s
  operated_idle op a b s (inl is) x y =
      subst (λ o. IsIdle (operated o a b) s) (sym is)
      (idle_costs 1 (λ go out. a (λ u. evaluation.with_left Passing M Plus u b go out) out) s
      (idle_then (λ u. evaluation.with_left Passing M Plus u b) s (λ u. idle_then (λ v. evaluation.operate Passing M Plus u v) s (λ v. plus_idle u v s) b y) a x))
  operated_idle op a b s (inr is) x y =
      subst (λ o. IsIdle (operated o a b) s) (sym is)
      (idle_costs 1 (λ go out. a (λ u. evaluation.with_left Passing M Minus u b go out) out) s
      (idle_then (λ u. evaluation.with_left Passing M Minus u b) s (λ u. idle_then (λ v. evaluation.operate Passing M Minus u v) s (λ v. minus_idle u v s) b y) a x))

  abbrev pub location_of : LValue → Env → Passing Location
  location_of v env = evaluation.locate Passing M (behind heap stack) v env

  abbrev pub value_in : Exp → Env → Passing Value
  value_in e env = evaluation.eval Passing M (behind heap stack) e env

  -- An l-value that may be found again changes nothing as it is found, nor do its indices.
  module _ (meaning : (at : ℕ) → Option Means) where
    mutual
      pub place_idle : (v w : LValue) → is_same_place meaning v w ≡ true → (env : Env) (s : SourceWorld) → IsIdle (location_of v env) s
      place_idle (Simple x) (Simple y) e env s = named_idle env.level (find (name_of x) env.entries) s
      place_idle (Field v f) (Field w g) e env s =
          let m = location_of v env in
          let rest : Location → Passing Location = λ l go out. evaluation.read_location Passing M l (λ u. evaluation.locate_field Passing M u (name_of f) go out) out in
          idle_costs 1 (λ go out. m (λ l. rest l go out) out) s
          (idle_then rest s (λ l. idle_then (λ u. evaluation.locate_field Passing M u (name_of f)) s (λ u. located_field_idle u (name_of f) s) (evaluation.read_location Passing M l) (read_idle l s))
          m (place_idle v w (both_true _ _ e).1 env s))
      place_idle (Index v a) (Index w b) e env s =
          let m = location_of v env in
          let found : Value → Passing Location = λ u go out. value_in a env (λ i. evaluation.locate_element Passing M u i go out) out in
          let rest : Location → Passing Location = λ l go out. evaluation.read_location Passing M l (λ u. found u go out) out in
          idle_costs 1 (λ go out. m (λ l. rest l go out) out) s
          (idle_then rest s
          (λ l. idle_then found s
          (λ u. idle_then (λ i. evaluation.locate_element Passing M u i) s (λ i. located_element_idle u i s) (value_in a env) (index_idle a b (both_true _ _ e).1 env s))
          (evaluation.read_location Passing M l) (read_idle l s))
          m (place_idle v w (both_true _ _ e).0 env s))
      place_idle (Simple x) (Field w g) e env s0 = cc
      place_idle (Simple x) (Index w b) e env s0 = cc
      place_idle (Field v f) (Simple y) e env s0 = cc
      place_idle (Field v f) (Index w b) e env s0 = cc
      place_idle (Index v a) (Simple y) e env s0 = cc
      place_idle (Index v a) (Field w g) e env s0 = cc

      pub index_idle : (e f : Exp) → is_same_index meaning e f ≡ true → (env : Env) (s : SourceWorld) → IsIdle (value_in e env) s
      index_idle (Int _ m) (Int _ k) e env s = record { o = costing 1 (gives (int m)); does = λ go out n. refl }
      index_idle (Read _ v) (Read _ w) e env s =
          idle_costs 1 (λ go out. location_of v env (λ l. evaluation.read_location Passing M l go out) out) s
          (idle_then (λ l. evaluation.read_location Passing M l) s (λ l. read_idle l s) (location_of v env) (place_idle v w e env s))
      index_idle (Binary _ op _ a b) (Binary _ o _ c d) e env s =
          let x = both_true _ _ e in
          let y = both_true _ _ x.1 in
          let one = one_of_two op o x.0 in
          by op one.1 (index_idle a c y.0 env s) (index_idle b d y.1 env s)
        where
          by : (op : Op) → (op ≡ Plus) ⊎ (op ≡ Minus) → IsIdle (value_in a env) s → IsIdle (value_in b env) s → IsIdle (operated op (value_in a env) (value_in b env)) s
          by op is x y = operated_idle op (value_in a env) (value_in b env) s is x y
      index_idle (Nil s) f2 e env s0 = cc
      index_idle (Break s) f2 e env s0 = cc
      index_idle (Int s m) (Nil s2) e env s0 = cc
      index_idle (Int s m) (Break s2) e env s0 = cc
      index_idle (Int s m) (Text s2 k2) e env s0 = cc
      index_idle (Int s m) (Read s2 k2) e env s0 = cc
      index_idle (Int s m) (Call s2 f2 k2) e env s0 = cc
      index_idle (Int s m) (Neg s2 k2) e env s0 = cc
      index_idle (Int s m) (Binary s2 o2 k2 c2 d2) e env s0 = cc
      index_idle (Int s m) (Make s2 f2 k2) e env s0 = cc
      index_idle (Int s m) (Fill s2 f2 k2 d2) e env s0 = cc
      index_idle (Int s m) (Assign s2 k2 d2) e env s0 = cc
      index_idle (Int s m) (If s2 c2 k2 d2) e env s0 = cc
      index_idle (Int s m) (When s2 c2 d2) e env s0 = cc
      index_idle (Int s m) (While s2 c2 d2) e env s0 = cc
      index_idle (Int s m) (For s2 f2 k2 c2 d2) e env s0 = cc
      index_idle (Int s m) (Let s2 k2 d2) e env s0 = cc
      index_idle (Int s m) (Seq s2 d2) e env s0 = cc
      index_idle (Text s k) f2 e env s0 = cc
      index_idle (Read s v) (Nil s2) e env s0 = cc
      index_idle (Read s v) (Break s2) e env s0 = cc
      index_idle (Read s v) (Int s2 k2) e env s0 = cc
      index_idle (Read s v) (Text s2 k2) e env s0 = cc
      index_idle (Read s v) (Call s2 f2 k2) e env s0 = cc
      index_idle (Read s v) (Neg s2 k2) e env s0 = cc
      index_idle (Read s v) (Binary s2 o2 k2 c2 d2) e env s0 = cc
      index_idle (Read s v) (Make s2 f2 k2) e env s0 = cc
      index_idle (Read s v) (Fill s2 f2 k2 d2) e env s0 = cc
      index_idle (Read s v) (Assign s2 k2 d2) e env s0 = cc
      index_idle (Read s v) (If s2 c2 k2 d2) e env s0 = cc
      index_idle (Read s v) (When s2 c2 d2) e env s0 = cc
      index_idle (Read s v) (While s2 c2 d2) e env s0 = cc
      index_idle (Read s v) (For s2 f2 k2 c2 d2) e env s0 = cc
      index_idle (Read s v) (Let s2 k2 d2) e env s0 = cc
      index_idle (Read s v) (Seq s2 d2) e env s0 = cc
      index_idle (Call s f k) f2 e env s0 = cc
      index_idle (Neg s k) f2 e env s0 = cc
      index_idle (Binary s op j a b) (Nil s2) e env s0 = cc
      index_idle (Binary s op j a b) (Break s2) e env s0 = cc
      index_idle (Binary s op j a b) (Int s2 k2) e env s0 = cc
      index_idle (Binary s op j a b) (Text s2 k2) e env s0 = cc
      index_idle (Binary s op j a b) (Read s2 k2) e env s0 = cc
      index_idle (Binary s op j a b) (Call s2 f2 k2) e env s0 = cc
      index_idle (Binary s op j a b) (Neg s2 k2) e env s0 = cc
      index_idle (Binary s op j a b) (Make s2 f2 k2) e env s0 = cc
      index_idle (Binary s op j a b) (Fill s2 f2 k2 d2) e env s0 = cc
      index_idle (Binary s op j a b) (Assign s2 k2 d2) e env s0 = cc
      index_idle (Binary s op j a b) (If s2 c2 k2 d2) e env s0 = cc
      index_idle (Binary s op j a b) (When s2 c2 d2) e env s0 = cc
      index_idle (Binary s op j a b) (While s2 c2 d2) e env s0 = cc
      index_idle (Binary s op j a b) (For s2 f2 k2 c2 d2) e env s0 = cc
      index_idle (Binary s op j a b) (Let s2 k2 d2) e env s0 = cc
      index_idle (Binary s op j a b) (Seq s2 d2) e env s0 = cc
      index_idle (Make s f k) f2 e env s0 = cc
      index_idle (Fill s f k d) f2 e env s0 = cc
      index_idle (Assign s k d) f2 e env s0 = cc
      index_idle (If s c k d) f2 e env s0 = cc
      index_idle (When s c d) f2 e env s0 = cc
      index_idle (While s c d) f2 e env s0 = cc
      index_idle (For s f k c d) f2 e env s0 = cc
      index_idle (Let s k d) f2 e env s0 = cc
      index_idle (Seq s d) f2 e env s0 = cc

-- Two l-values that are told the same find the same location, in each world.
module _ (P : Program) (set : Setting P) (premises : Premises P) (p : Part) (types : List Ty) (σ τ : TranslationState) (ready : IsReady P p types σ τ) where
  abbrev N : (at : ℕ) → Option Means
  N = P.findings.meaning

  abbrev finds : LValue → Passing Location
  finds v = location_of P.heap P.stack v p.env

  abbrev evaluated : Exp → Passing Value
  evaluated e = value_in P.heap P.stack e p.env

  abbrev TypedPlace : LValue → Ty → Type 0
  TypedPlace v t = HasPlace P.shapes P.notes v p.scope t

  abbrev CoversAt : LValue → Type 0
  CoversAt v = CoversPlace P.findings P.table P.weight p.scene.level p.scene.keeps (levels_of p.env.entries) v

  abbrev CoversIndex : Exp → Type 0
  CoversIndex e = Covers P.findings P.table P.weight p.scene.level p.scene.keeps (levels_of p.env.entries) e

  sides_typed : (sp : _) (op : Op) (at : ℕ) (a b : Exp) (t : Ty) → Has P.shapes P.notes (Binary sp op at a b) p.scope t → SidesTyped P p.scope a b
  sides_typed sp op at a b t (has.ints _ x y) = record { left = int_type; right = int_type; left_typed = x; right_typed = y }
  sides_typed sp op at a b t (has.strings _ _ x y) = record { left = _; right = _; left_typed = x; right_typed = y }
  sides_typed sp op at a b t (has.same _ _ _ x y) = record { left = _; right = _; left_typed = x; right_typed = y }

  same_name : (x y : Ident) (t u : Ty) → is_same_variable (N (at_of x)) (N (at_of y)) ≡ true → TypedPlace (Simple x) t → TypedPlace (Simple y) u → CoversAt (Simple x) → CoversAt (Simple y) →
      (t ≡ u) × (find (name_of x) p.env.entries ≡ find (name_of y) p.env.entries)
  same_name x y t u e hx hy cx cy =
      let a = name_typed P x p t hx in
      let b = name_typed P y p u hy in
      let fa : N (at_of x) ≡ Some (means.Variable a.at) = set.found (at_of x) (means.Variable a.at) a.says in
      let fb : N (at_of y) ≡ Some (means.Variable b.at) = set.found (at_of y) (means.Variable b.at) b.says in
      let told : (a.at == b.at) ≡ true =
      ap (λ o. is_same_variable (Some (means.Variable a.at)) o) (sym fb) ∙ (ap (λ o. is_same_variable o (N (at_of y))) (sym fa) ∙ e) in
      let at_is : a.at ≡ b.at = eqb-true a.at b.at told in
      let sx : SeenVariable P p types (name_of x) a.at t = premises.sees p types σ τ x a.at t a.loop ready cx a.is_bound a.says in
      let sy : SeenVariable P p types (name_of y) b.at u = premises.sees p types σ τ y b.at u b.loop ready cy b.is_bound b.says in
      let home_is : sx.home ≡ sy.home = some_same sx.home sy.home (sym sx.tabled ∙ (ap (λ o. looked_up o P.table.homes) at_is ∙ sy.tabled)) in
      let level_is : sx.level ≡ sy.level = sym sx.home_level ∙ (ap (λ h. h.level) home_is ∙ sy.home_level) in
      let key_is : key_of p.scene sy.level sy.home.access ≡ key_of p.scene sx.level sx.home.access =
      ap (λ o. key_of p.scene o sy.home.access) (sym level_is) ∙ ap (λ h. key_of p.scene sx.level h.access) (sym home_is) in
      let place_is : sx.place ≡ sy.place =
      one_place (p.places (key_of p.scene sx.level sx.home.access)) sx.place sy.place sx.stands (subst (λ o. IsOf sy.place (p.places o)) key_is sy.stands) in (
        some_same t u (sym sx.type_is ∙ (ap (λ o. slice_get types o) place_is ∙ sy.type_is)),
        sx.found ∙ (ap (λ o. Some (to_variable o sx.place)) level_is ∙ (ap (λ o. Some (to_variable sy.level o)) place_is ∙ sym sy.found)),
      )

  mutual
    pub same_place : (v w : LValue) (t u : Ty) → is_same_place N v w ≡ true → TypedPlace v t → TypedPlace w u → CoversAt v → CoversAt w → (t ≡ u) × (finds v ≡ finds w)
    same_place (Simple x) (Simple y) t u e hx hy cx cy =
        let s = same_name x y t u e hx hy cx cy in
        (s.0, ap (λ o. named_location P.heap P.stack p.env.level o) s.1)
    same_place (Field v f) (Field w g) t u e (has.field at fs k hv shape _ pl says) (has.field at2 fs2 k2 hw shape2 _ pl2 says2) cx cy =
        let b = both_true _ _ e in
        let rec_ = same_place v w (record_type at) (record_type at2) b.1 hv hw cx cy in
        let at_is : at ≡ at2 = let q = rec_.0 in cc in
        let fs_is : fs ≡ fs2 = let q : Some (record_shape fs) ≡ Some (record_shape fs2) = sym shape ∙ (ap (λ o. looked_up o P.shapes) at_is ∙ shape2) in cc in
        let told : (k == k2) ≡ true =
        ap (λ o. k == field_number o) (sym (set.found (at_of g) (means.Field k2) says2)) ∙
        (ap (λ o. field_number o == field_number (N (at_of g))) (sym (set.found (at_of f) (means.Field k) says)) ∙ b.0) in
        let k_is : k ≡ k2 = eqb-true k k2 told in
        let one = first_of (name_of f) 0 fs k t pl in
        let two = first_of (name_of g) 0 fs2 k2 u pl2 in
        let i1 : one.0 ≡ k = let q = one.1 in omega (arith, q) in
        let i2 : two.0 ≡ k2 = let q = two.1 in omega (arith, q) in
        let got1 : slice_get fs k ≡ Some (name_of f, t) = subst (λ o. slice_get fs o ≡ Some (name_of f, t)) i1 (first_is (name_of f) fs one.0 t one.2) in
        let got2 : slice_get fs2 k2 ≡ Some (name_of g, u) = subst (λ o. slice_get fs2 o ≡ Some (name_of g, u)) i2 (first_is (name_of g) fs2 two.0 u two.2) in
        let pair : (name_of f, t) ≡ (name_of g, u) =
        some_same (name_of f, t) (name_of g, u) (sym got1 ∙ (ap (λ o. slice_get o k) fs_is ∙ (ap (λ o. slice_get fs2 o) k_is ∙ got2))) in (
          ap (λ (o : ℕ × Ty). o.1) pair,
          ap (λ o. field_location P.heap P.stack o (name_of f)) rec_.1 ∙ ap (λ o. field_location P.heap P.stack (finds w) o) (ap (λ (o : ℕ × Ty). o.0) pair),
        )
    same_place (Index v a) (Index w b) t u e (has.index at hv shape ha) (has.index at2 hw shape2 hb) cx cy =
        let c = both_true _ _ e in
        let rec_ = same_place v w (array_type at) (array_type at2) c.0 hv hw cx.0 cy.0 in
        let at_is : at ≡ at2 = let q = rec_.0 in cc in
        let value_is = same_index a b int_type int_type c.1 ha hb cx.1 cy.1 in (
          (let q : Some (array_shape t) ≡ Some (array_shape u) = sym shape ∙ (ap (λ o. looked_up o P.shapes) at_is ∙ shape2) in cc),
          ap (λ o. element_location P.heap P.stack o (evaluated a)) rec_.1 ∙ ap (λ o. element_location P.heap P.stack (finds w) o) value_is,
        )
    same_place (Simple x) (Field w g) t u e hx hy cx cy = cc
    same_place (Simple x) (Index w b) t u e hx hy cx cy = cc
    same_place (Field v f) (Simple y) t u e hx hy cx cy = cc
    same_place (Field v f) (Index w b) t u e hx hy cx cy = cc
    same_place (Index v a) (Simple y) t u e hx hy cx cy = cc
    same_place (Index v a) (Field w g) t u e hx hy cx cy = cc

    pub same_index : (e f : Exp) (t u : Ty) → is_same_index N e f ≡ true → Has P.shapes P.notes e p.scope t → Has P.shapes P.notes f p.scope u → CoversIndex e → CoversIndex f → evaluated e ≡ evaluated f
    same_index (Int _ m) (Int _ k) t u e hx hy cx cy = ap (λ o. number_value P.heap P.stack o) (eqb-true m k e)
    same_index (Read _ v) (Read _ w) t u e (has.read hv) (has.read hw) cx cy = ap (λ o. read_value P.heap P.stack o) (same_place v w t u e hv hw cx cy).1
    same_index (Binary s op j a b) (Binary s2 o j2 c d) t u e hx hy cx cy =
        let x = both_true _ _ e in
        let y = both_true _ _ x.1 in
        let one = sides_typed s op j a b t hx in
        let two = sides_typed s2 o j2 c d u hy in
        ap (λ z. operated P.heap P.stack z (evaluated a) (evaluated b)) (one_of_two op o x.0).0 ∙
        (ap (λ z. operated P.heap P.stack o z (evaluated b)) (same_index a c one.left two.left y.0 one.left_typed two.left_typed cx.0 cy.0) ∙
        ap (λ z. operated P.heap P.stack o (evaluated c) z) (same_index b d one.right two.right y.1 one.right_typed two.right_typed cx.1 cy.1))
    same_index (Nil s) f2 t u e hx hy cx cy = cc
    same_index (Break s) f2 t u e hx hy cx cy = cc
    same_index (Int s m) (Nil s2) t u e hx hy cx cy = cc
    same_index (Int s m) (Break s2) t u e hx hy cx cy = cc
    same_index (Int s m) (Text s2 k2) t u e hx hy cx cy = cc
    same_index (Int s m) (Read s2 k2) t u e hx hy cx cy = cc
    same_index (Int s m) (Call s2 f2 k2) t u e hx hy cx cy = cc
    same_index (Int s m) (Neg s2 k2) t u e hx hy cx cy = cc
    same_index (Int s m) (Binary s2 o2 k2 c2 d2) t u e hx hy cx cy = cc
    same_index (Int s m) (Make s2 f2 k2) t u e hx hy cx cy = cc
    same_index (Int s m) (Fill s2 f2 k2 d2) t u e hx hy cx cy = cc
    same_index (Int s m) (Assign s2 k2 d2) t u e hx hy cx cy = cc
    same_index (Int s m) (If s2 c2 k2 d2) t u e hx hy cx cy = cc
    same_index (Int s m) (When s2 c2 d2) t u e hx hy cx cy = cc
    same_index (Int s m) (While s2 c2 d2) t u e hx hy cx cy = cc
    same_index (Int s m) (For s2 f2 k2 c2 d2) t u e hx hy cx cy = cc
    same_index (Int s m) (Let s2 k2 d2) t u e hx hy cx cy = cc
    same_index (Int s m) (Seq s2 d2) t u e hx hy cx cy = cc
    same_index (Text s k) f2 t u e hx hy cx cy = cc
    same_index (Read s v) (Nil s2) t u e hx hy cx cy = cc
    same_index (Read s v) (Break s2) t u e hx hy cx cy = cc
    same_index (Read s v) (Int s2 k2) t u e hx hy cx cy = cc
    same_index (Read s v) (Text s2 k2) t u e hx hy cx cy = cc
    same_index (Read s v) (Call s2 f2 k2) t u e hx hy cx cy = cc
    same_index (Read s v) (Neg s2 k2) t u e hx hy cx cy = cc
    same_index (Read s v) (Binary s2 o2 k2 c2 d2) t u e hx hy cx cy = cc
    same_index (Read s v) (Make s2 f2 k2) t u e hx hy cx cy = cc
    same_index (Read s v) (Fill s2 f2 k2 d2) t u e hx hy cx cy = cc
    same_index (Read s v) (Assign s2 k2 d2) t u e hx hy cx cy = cc
    same_index (Read s v) (If s2 c2 k2 d2) t u e hx hy cx cy = cc
    same_index (Read s v) (When s2 c2 d2) t u e hx hy cx cy = cc
    same_index (Read s v) (While s2 c2 d2) t u e hx hy cx cy = cc
    same_index (Read s v) (For s2 f2 k2 c2 d2) t u e hx hy cx cy = cc
    same_index (Read s v) (Let s2 k2 d2) t u e hx hy cx cy = cc
    same_index (Read s v) (Seq s2 d2) t u e hx hy cx cy = cc
    same_index (Call s f k) f2 t u e hx hy cx cy = cc
    same_index (Neg s k) f2 t u e hx hy cx cy = cc
    same_index (Binary s op j a b) (Nil s2) t u e hx hy cx cy = cc
    same_index (Binary s op j a b) (Break s2) t u e hx hy cx cy = cc
    same_index (Binary s op j a b) (Int s2 k2) t u e hx hy cx cy = cc
    same_index (Binary s op j a b) (Text s2 k2) t u e hx hy cx cy = cc
    same_index (Binary s op j a b) (Read s2 k2) t u e hx hy cx cy = cc
    same_index (Binary s op j a b) (Call s2 f2 k2) t u e hx hy cx cy = cc
    same_index (Binary s op j a b) (Neg s2 k2) t u e hx hy cx cy = cc
    same_index (Binary s op j a b) (Make s2 f2 k2) t u e hx hy cx cy = cc
    same_index (Binary s op j a b) (Fill s2 f2 k2 d2) t u e hx hy cx cy = cc
    same_index (Binary s op j a b) (Assign s2 k2 d2) t u e hx hy cx cy = cc
    same_index (Binary s op j a b) (If s2 c2 k2 d2) t u e hx hy cx cy = cc
    same_index (Binary s op j a b) (When s2 c2 d2) t u e hx hy cx cy = cc
    same_index (Binary s op j a b) (While s2 c2 d2) t u e hx hy cx cy = cc
    same_index (Binary s op j a b) (For s2 f2 k2 c2 d2) t u e hx hy cx cy = cc
    same_index (Binary s op j a b) (Let s2 k2 d2) t u e hx hy cx cy = cc
    same_index (Binary s op j a b) (Seq s2 d2) t u e hx hy cx cy = cc
    same_index (Make s f k) f2 t u e hx hy cx cy = cc
    same_index (Fill s f k d) f2 t u e hx hy cx cy = cc
    same_index (Assign s k d) f2 t u e hx hy cx cy = cc
    same_index (If s c k d) f2 t u e hx hy cx cy = cc
    same_index (When s c d) f2 t u e hx hy cx cy = cc
    same_index (While s c d) f2 t u e hx hy cx cy = cc
    same_index (For s f k c d) f2 t u e hx hy cx cy = cc
    same_index (Let s k d) f2 t u e hx hy cx cy = cc
    same_index (Seq s d) f2 t u e hx hy cx cy = cc
