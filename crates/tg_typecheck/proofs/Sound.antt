-- What is well typed is never stuck, whatever the form of actions, if each action keeps what is known of the world.
use Rattle.std.proofs.Common.{◌≡◌, ◌≢◌, ℕ, zero, suc, ◌+◌, ◌<◌, List, [], ◌∷◌, length, Option, Some, None, Bool, true, false, nat_lt, refl, sym, ◌∙◌}
use Rattle.std.proofs.Common.{subst, arith}
use Rattle.std.specs.Prelude.{not, ◌&&◌, slice_get, ◌==◌, ◌||◌, if◌then◌else◌}
use Rattle.std.specs.Str.{bytes_eq}
use Rattle.tg_base.specs.Words.{less, is_negative, exact_sum, exact_difference, exact_product}
use Rattle.tg_syntax.specs.declared.tokens.Ident.{Ident}
use Rattle.tg_syntax.specs.declared.trees.Param.{Param}
use Rattle.tg_syntax.specs.declared.trees.Op.{Op}
use Rattle.tg_syntax.specs.declared.trees.Op.TheVariants.{Plus, Minus, Times, Divide, Equal, NotEqual, Less, LessEqual, Greater, GreaterEqual, And, Or}
use Rattle.tg_syntax.specs.Tree.{Exp, LValue, Exps, Inits, Decs, FunDecs, no_functions, function}
use Rattle.tg_simulation.specs.Outcomes.{End, ended, stuck}
use Rattle.tg_semantics.specs.declared.standards.Standard.{Standard}
use Rattle.tg_semantics.specs.declared.standards.Standard.TheVariants.{Print, Flush, Getchar, Ord, Chr, Size, Substring, Concat, Not, Exit}
use Rattle.tg_semantics.specs.Values.{Value, int, string, nothing, Object, fields, Entry, group, Env, Ending, by_chr, by_index}
use Rattle.tg_semantics.specs.Actions.{Actions}
use Rattle.tg_semantics.specs.Environments.{SourceFunction, Bound, find}
use Rattle.tg_semantics.specs.Operators.{exact_quotient, is_below, string_less, comparison, identity, field_in, element_in, with_field, with_element}
use Rattle.tg_semantics.specs.Evaluation as E
use Rattle.tg_semantics.specs.Evaluation.{Location, in_variable, in_field, in_element, Job, run_function, repeat_while, repeat_for, with_variable}
use Rattle.tg_semantics.specs.Evaluation.{function_count}
use Rattle.std.proofs.lemmas.Bool.{ltb-true}
use Rattle.tg_typecheck.specs.Types.{Ty, int_type, string_type, none_type, record_type, array_type, Shape, record_shape, array_shape}
use Rattle.tg_symbols.specs.Tables.{looked_up}
use Rattle.tg_semantics.specs.Environments.{name_of}
use Rattle.tg_typecheck.specs.Scopes.{Signature, Binding, variable_at, function_at, Scope, at_of, binding, in_a_loop, in_no_loop, signature}
use Rattle.tg_typecheck.specs.Groups.{with_functions, with_params}
use Rattle.tg_typecheck.specs.declared.notes.Note.{Note}
use Rattle.tg_typecheck.specs.Has as Has
use Rattle.tg_typecheck.specs.Has.{Fits, Alike, records, arrays, nil_and, and_nil, Compares, Identifies, Callee, declared, standard}
use Rattle.tg_typecheck.proofs.Worlds

abbrev pub Known : (A : Type 0) → Type 1
Known A = Worlds.Stores → A → Type 0

abbrev pub whatever : (A : Type 0) → Known A
whatever A s a = Unit {0}

abbrev pub a_value : Ty → Known Value
a_value t s v = Worlds.IsValue s.objs v t

loop_of_params : (ps : List Param) (ts : List Ty) (scope : Scope) → (with_params ps ts scope).in_loop ≡ scope.in_loop
loop_of_params [] ts scope = refl
loop_of_params (p ∷ ps) [] scope = refl
loop_of_params (p ∷ ps) (t ∷ ts) scope = loop_of_params ps ts (binding p.name (variable_at (at_of p.name) t false) scope)

loop_of_functions : (fs : FunDecs) (ss : List Signature) (scope : Scope) → (with_functions fs ss scope).in_loop ≡ scope.in_loop
loop_of_functions no_functions ss scope = refl
loop_of_functions (function f _ _ _ rest) [] scope = refl
loop_of_functions (function f _ _ _ rest) (sig ∷ ss) scope = loop_of_functions rest ss (binding f (function_at (at_of f) sig) scope)

module _ (shapes : List (ℕ × Shape)) (notes : List Note) where
  in_loop_same : (ds : Decs) (scope inner : Scope) → Has.HasDecs shapes notes ds scope inner → inner.in_loop ≡ scope.in_loop
  in_loop_same _ scope _ Has.end_decs = refl
  in_loop_same _ scope inner (Has.type_names {rest = rest} names hs) = in_loop_same rest (record scope { types = names }) inner hs
  in_loop_same _ scope inner (Has.variables {x = x} {rest = rest} t u _ h fit hs) = in_loop_same rest (binding x (variable_at (at_of x) t false) scope) inner hs
  in_loop_same _ scope inner (Has.group {fs = fs} {rest = rest} ss apart hb hs) =
      in_loop_same rest (with_functions fs ss scope) inner hs ∙ loop_of_functions fs ss scope

  -- a location with its type; an element stands within its array
  pub data IsLocation (s : Worlds.Stores) : Location → Ty → Type 0 where
    at_variable : {place : ℕ} {t : Ty} → slice_get s.vars place ≡ Some t → IsLocation s (in_variable place) t
    at_field : {r f : ℕ} {t : Ty} (at : ℕ) (fs : List (ℕ × Ty)) → slice_get s.objs r ≡ Some (Worlds.record_of at) →
        looked_up at shapes ≡ Some (record_shape fs) →
        looked_up f fs ≡ Some t → IsLocation s (in_field r f) t
    at_element : {r i : ℕ} {t : Ty} (at n : ℕ) → slice_get s.objs r ≡ Some (Worlds.array_of at n) → looked_up at shapes ≡ Some (array_shape t) → i < n →
        IsLocation s (in_element r i) t

  pub location_on : (v w : Worlds.Stores) (l : Location) (t : Ty) → Worlds.GrowsTo v w → IsLocation v l t → IsLocation w l t
  location_on v w _ _ g (at_variable e) = at_variable (g.vars _ _ e)
  location_on v w _ _ g (at_field at fs e n p) = at_field at fs (g.objs _ _ e) n p
  location_on v w _ _ g (at_element at n e p lt) = at_element at n (g.objs _ _ e) p lt

  -- what stands after a unit of fuel, with the type of its value, and whether it may break out of a loop
  pub data IsJob (s : Worlds.Stores) : Job → Ty → Bool → Type 0 where
    a_function : {level : ℕ} {f : SourceFunction} {seen : List Entry} {args : List Value} {sig : Signature} {b : Bool} (scope : Scope) →
        Worlds.IsTyped shapes notes f sig (in_no_loop scope) → Worlds.Each (Worlds.IsValue s.objs) args sig.params →
        Worlds.Sees shapes notes s.vars seen scope.bindings → IsJob s (run_function level f seen args) sig.result b
    a_while : {test body : Exp} {env : Env} (scope : Scope) → Has.Has shapes notes test scope int_type →
        Has.Has shapes notes body (in_a_loop scope) none_type → Worlds.Sees shapes notes s.vars env.entries scope.bindings →
        IsJob s (repeat_while test body env) none_type scope.in_loop
    a_for : {place high : ℕ} {body : Exp} {env : Env} {b : Bool} (scope : Scope) → slice_get s.vars place ≡ Some int_type →
        Has.Has shapes notes body (in_a_loop scope) none_type → Worlds.Sees shapes notes s.vars env.entries scope.bindings →
        IsJob s (repeat_for place high body env) none_type b

  module _ (Action : Type 0 → Type 0) (M : Actions Action) (S : Worlds.Stores → Bool → (A : Type 0) → Known A → Action A → Type 0) where
    -- what actions have to keep
    pub record Keeping : Type 1 where
      pub gives : (s : Worlds.Stores) (b : Bool) (A : Type 0) (P : Known A) (a : A) → P s a → S s b A P (M.give a)
      pub binds : (s : Worlds.Stores) (b : Bool) (A B : Type 0) (P : Known A) (Q : Known B) (m : Action A) (f : A → Action B) → S s b A P m →
          ((w : Worlds.Stores) → Worlds.GrowsTo s w → (a : A) → P w a → S w b B Q (f a)) → S s b B Q (M.bind m f)
      pub weakens : (s : Worlds.Stores) (b : Bool) (A : Type 0) (P Q : Known A) (m : Action A) → S s b A P m → ((w : Worlds.Stores) (a : A) → P w a → Q w a) →
          S s b A Q m
      pub breaks : (s : Worlds.Stores) (b : Bool) (A : Type 0) (P : Known A) → b ≡ true → S s b A P M.break
      pub overs : (s : Worlds.Stores) (b : Bool) (A : Type 0) (P : Known A) (e : End Ending) → e ≢ stuck → S s b A P (M.over e)
      pub loops : (s : Worlds.Stores) (b : Bool) (P : Known Value) (m k : Action Value) → S s true Value P m →
          ((w : Worlds.Stores) → Worlds.GrowsTo s w → S w b Value (a_value none_type) k) → S s b Value (a_value none_type) (M.in_loop m k)
      pub bodies : (s : Worlds.Stores) (b : Bool) (P : Known Value) (m : Action Value) → S s false Value P m → S s b Value P (M.in_function m)
      pub knowns : (s : Worlds.Stores) (b : Bool) (A : Type 0) (P : Known A) (o : Option A) (a : A) → o ≡ Some a → P s a → S s b A P (M.look (λ w. o))
      pub variables : (s : Worlds.Stores) (b : Bool) (place : ℕ) (t : Ty) → slice_get s.vars place ≡ Some t →
          S s b Value (a_value t) (M.look (λ w. slice_get w.variables place))
      pub objects : (s : Worlds.Stores) (b : Bool) (r : ℕ) (k : Worlds.Made) → slice_get s.objs r ≡ Some k →
          S s b Object (λ w o. Worlds.IsObject shapes w.objs o k) (M.look (λ w. slice_get w.objects r))
      pub news : (s : Worlds.Stores) (b : Bool) (v : Value) (t : Ty) → Worlds.IsValue s.objs v t →
          S s b ℕ (λ w place. slice_get w.vars place ≡ Some t) (M.new_variable v)
      pub sets : (s : Worlds.Stores) (b : Bool) (place : ℕ) (v : Value) (t : Ty) → slice_get s.vars place ≡ Some t → Worlds.IsValue s.objs v t →
          S s b (Unit {0}) (whatever (Unit {0})) (M.set_variable place v)
      pub makes : (s : Worlds.Stores) (b : Bool) (o : Object) (k : Worlds.Made) → Worlds.IsObject shapes s.objs o k →
          S s b ℕ (λ w r. slice_get w.objs r ≡ Some k) (M.new_object o)
      pub puts : (s : Worlds.Stores) (b : Bool) (r : ℕ) (o : Object) (k : Worlds.Made) → slice_get s.objs r ≡ Some k → Worlds.IsObject shapes s.objs o k →
          S s b (Unit {0}) (whatever (Unit {0})) (M.set_object r o)
      pub takes : (s : Worlds.Stores) (b : Bool) (bytes : ℕ) → S s b (Unit {0}) (whatever (Unit {0})) (M.take_heap bytes)
      pub reads : (s : Worlds.Stores) (b : Bool) → S s b (List ℕ) (whatever (List ℕ)) M.read_byte
      pub writes : (s : Worlds.Stores) (b : Bool) (bytes : List ℕ) → S s b (Unit {0}) (whatever (Unit {0})) (M.write bytes)
      pub spends : (s : Worlds.Stores) (b : Bool) (k : ℕ) → S s b (Unit {0}) (whatever (Unit {0})) (M.spend k)
      pub weighs : (s : Worlds.Stores) (b : Bool) (k : ℕ) → S s b (Unit {0}) (whatever (Unit {0})) (M.weigh k)
      pub unweighs : (s : Worlds.Stores) (b : Bool) (k : ℕ) → S s b (Unit {0}) (whatever (Unit {0})) (M.unweigh k)
      pub descends : (s : Worlds.Stores) (b : Bool) → S s b (Unit {0}) (whatever (Unit {0})) M.descend
      pub ascends : (s : Worlds.Stores) (b : Bool) → S s b (Unit {0}) (whatever (Unit {0})) M.ascend

    module _ (L : Keeping) where
      onward : {s : Worlds.Stores} {b : Bool} {A B : Type 0} {P : Known A} {Q : Known B} {m : Action A} {f : A → Action B} → S s b A P m →
          ((w : Worlds.Stores) → Worlds.GrowsTo s w → (a : A) → P w a → S w b B Q (f a)) → S s b B Q (M.bind m f)
      onward {s} {b} {A} {B} {P} {Q} {m} {f} g h = L.binds s b A B P Q m f g h

      give : {s : Worlds.Stores} {b : Bool} {A : Type 0} {P : Known A} {a : A} → P s a → S s b A P (M.give a)
      give {s} {b} {A} {P} {a} p = L.gives s b A P a p

      over : {s : Worlds.Stores} {b : Bool} {A : Type 0} {P : Known A} {e : End Ending} → e ≢ stuck → S s b A P (M.over e)
      over {s} {b} {A} {P} {e} p = L.overs s b A P e p

      not_stuck : (e : Ending) → ended e ≢ stuck
      not_stuck e h = cc

      ends : {s : Worlds.Stores} {b : Bool} {A : Type 0} {P : Known A} {e : Ending} → S s b A P (M.over (ended e))
      ends {s} {b} {A} {P} {e} = L.overs s b A P (ended e) (not_stuck e)

      -- after a cost
      paid : {s : Worlds.Stores} {b : Bool} {B : Type 0} {Q : Known B} {k : ℕ} {m : Action B} → ((w : Worlds.Stores) → Worlds.GrowsTo s w → S w b B Q m) →
          S s b B Q (M.bind (M.spend k) (λ _. m))
      paid {s} {b} {B} {Q} {k} {m} h = L.binds s b (Unit {0}) B (whatever (Unit {0})) Q (M.spend k) (λ _. m) (L.spends s b k) (λ w g a p. h w g)

      chosen : (s : Worlds.Stores) (b : Bool) (A : Type 0) (P : Known A) (c : Bool) (m k : Action A) → S s b A P m → S s b A P k →
          S s b A P (if c then m else k)
      chosen s b A P true m k g h = g
      chosen s b A P false m k g h = h

      int_kept : (s : Worlds.Stores) (b : Bool) (v : Value) → Worlds.IsValue s.objs v int_type → S s b ℕ (whatever ℕ) (E.int_of Action M v)
      int_kept s b _ (Worlds.is_int {n}) = L.gives s b ℕ (whatever ℕ) n tt

      choose_kept : (s : Worlds.Stores) (b : Bool) (P : Known Value) (v : Value) (m k : Action Value) → Worlds.IsValue s.objs v int_type → S s b Value P m →
          S s b Value P k → S s b Value P (E.choose Action M v m k)
      choose_kept s b P _ m k (Worlds.is_int {n}) g h = by n
        where
          by : (n : ℕ) → S s b Value P (E.choose Action M (int n) m k)
          by zero = h
          by (suc n) = g

      -- a value that fits
      fitted : (s : Worlds.Stores) (b : Bool) (t u : Ty) (m : Action Value) → Fits t u → S s b Value (a_value t) m → S s b Value (a_value u) m
      fitted s b t u m f g = L.weakens s b Value (a_value t) (a_value u) m g (λ w v p. Worlds.fitting w.objs v t u f p)

      -- locations
      read_kept : (s : Worlds.Stores) (b : Bool) (l : Location) (t : Ty) → IsLocation s l t → S s b Value (a_value t) (E.read_location Action M l)
      read_kept s b _ t (at_variable {place} e) = L.variables s b place t e
      read_kept s b _ t (at_field {r} {f} at fs e n p) =
          onward (L.objects s b r (Worlds.record_of at) e) λ w g o q. let found =
          Worlds.field_there shapes w.objs o at f fs t q n p in L.knowns w b Value (a_value t) (field_in f o) found.0 found.1 found.2
      read_kept s b _ t (at_element {r} {i} at n e p lt) =
          onward (L.objects s b r (Worlds.array_of at n) e) λ w g o q. let found =
          Worlds.element_there shapes w.objs o at n i t q p lt in L.knowns w b Value (a_value t) (element_in i o) found.0 found.1 found.2

      replace_kept : (s : Worlds.Stores) (b : Bool) (l : Location) (v : Value) (t : Ty) → IsLocation s l t → Worlds.IsValue s.objs v t →
          S s b (Unit {0}) (whatever (Unit {0})) (E.replace Action M l v)
      replace_kept s b _ v t (at_variable {place} e) q = L.sets s b place v t e q
      replace_kept s b _ v t (at_field {r} {f} at fs e n p) q =
          onward (L.objects s b r (Worlds.record_of at) e) λ w g o h. L.puts w b r (with_field f v o) (Worlds.record_of at) (g.objs r _ e)
          (Worlds.field_put shapes w.objs o at f fs t v h n p (Worlds.value_on s w g v t q))
      replace_kept s b _ v t (at_element {r} {i} at n e p lt) q =
          onward (L.objects s b r (Worlds.array_of at n) e) λ w g o h. L.puts w b r (with_element i v o) (Worlds.array_of at n) (g.objs r _ e)
          (Worlds.element_put shapes w.objs o at n i t v h p (Worlds.value_on s w g v t q))

      write_kept : (s : Worlds.Stores) (b : Bool) (l : Location) (v : Value) (t : Ty) → IsLocation s l t → Worlds.IsValue s.objs v t →
          S s b (Unit {0}) (whatever (Unit {0})) (E.write_location Action M l v)
      write_kept s b l v t p q = onward (read_kept s b l t p) λ w g _ _. replace_kept w b l v t (location_on s w l t g p) (Worlds.value_on s w g v t q)

      -- what a name is bound to, with the levels out to it
      look_up_kept : (s : Worlds.Stores) (b : Bool) (x : Ident) (env : Env) (c : Binding) (d : Bound) → find (name_of x) env.entries ≡ Some d →
          Worlds.Means shapes notes s.vars d c → S s b Bound (λ w d. Worlds.Means shapes notes w.vars d c) (E.look_up Action M x env)
      look_up_kept s b x env c d e m =
          onward (L.knowns s b Bound (λ w d. Worlds.Means shapes notes w.vars d c) _ d e m) λ w g d m. onward (L.spends w b _) λ v k _ _. L.gives v b Bound
          (λ w d. Worlds.Means shapes notes w.vars d c) d (Worlds.means_on shapes notes w v d c k m)

      variable_kept : (s : Worlds.Stores) (b : Bool) (d : Bound) (at : ℕ) (t : Ty) (loop : Bool) →
          Worlds.Means shapes notes s.vars d (variable_at at t loop) → S s b Location (λ w l. IsLocation w l t) (E.locate_variable Action M d)
      variable_kept s b _ at t loop (Worlds.means_variable {level} {place} e) = L.gives s b Location (λ w l. IsLocation w l t) _ (at_variable e)

      field_kept : (s : Worlds.Stores) (b : Bool) (v : Value) (f at : ℕ) (fs : List (ℕ × Ty)) (t : Ty) → Worlds.IsValue s.objs v (record_type at) →
          looked_up at shapes ≡ Some (record_shape fs) → looked_up f fs ≡ Some t → S s b Location (λ w l. IsLocation w l t) (E.locate_field Action M v f)
      field_kept s b _ f at fs t Worlds.is_nil_record n p = ends
      field_kept s b _ f at fs t (Worlds.is_record e) n p = give (at_field at fs e n p)

      below_less : (i n : ℕ) → is_below i n ≡ true → i < n
      below_less i n e = by (is_negative i) (nat_lt i n) refl e
        where
          by : (c d : Bool) → nat_lt i n ≡ d → (not c && d) ≡ true → i < n
          by true d is e = absurd (cc)
          by false true is e = ltb-true i n is
          by false false is e = absurd (cc)

      within_kept : (s : Worlds.Stores) (b : Bool) (r i at n : ℕ) (t : Ty) (o : Object) → Worlds.IsObject shapes s.objs o (Worlds.array_of at n) →
          slice_get s.objs r ≡ Some (Worlds.array_of at n) → looked_up at shapes ≡ Some (array_shape t) →
          S s b Location (λ w l. IsLocation w l t) (E.locate_within Action M r i o)
      within_kept s b r i at n t _ (Worlds.as_array {at = _} {count = _} {values} u e len vs) p q =
          by (is_below i (length values)) refl
        where
          by : (c : Bool) → is_below i (length values) ≡ c →
              S s b Location (λ w l. IsLocation w l t) (if c then M.give (in_element r i) else M.over (ended by_index))
          by true is = give (at_element at n p q (omega (arith, len, below_less i (length values) is)))
          by false is = ends

      element_kept : (s : Worlds.Stores) (b : Bool) (v i : Value) (at : ℕ) (t : Ty) → Worlds.IsValue s.objs v (array_type at) →
          Worlds.IsValue s.objs i int_type → looked_up at shapes ≡ Some (array_shape t) →
          S s b Location (λ w l. IsLocation w l t) (E.locate_element Action M v i)
      element_kept s b _ _ at t (Worlds.is_array {r} n e) (Worlds.is_int {n = i}) q =
          onward (L.objects s b r (Worlds.array_of at n) e) λ w g o h. within_kept w b r i at n t o h (g.objs r _ e) q

      -- operators
      exactly_kept : (s : Worlds.Stores) (b : Bool) (o : Option ℕ) → S s b Value (a_value int_type) (E.exactly Action M o)
      exactly_kept s b (Some n) = give Worlds.is_int
      exactly_kept s b None = ends

      quotient_kept : (s : Worlds.Stores) (b : Bool) (a c : ℕ) → S s b Value (a_value int_type) (E.quotient Action M a c)
      quotient_kept s b a zero = ends
      quotient_kept s b a (suc c) = exactly_kept s b (exact_quotient a (suc c))

      held_kept : (s : Worlds.Stores) (b : Bool) (o : Option Bool) (c : Bool) → o ≡ Some c → S s b Value (a_value int_type) (E.held Action M o)
      held_kept s b o c e = onward (L.knowns s b Bool (whatever Bool) o c e tt) λ w g d p. give Worlds.is_int

      runtime_kept : (s : Worlds.Stores) (b : Bool) (t : Ty) (m : Action Value) → ((w : Worlds.Stores) → Worlds.GrowsTo s w → S w b Value (a_value t) m) →
          S s b Value (a_value t) (E.runtime Action M m)
      runtime_kept s b t m h =
          onward (L.weighs s b _) λ w g _ _. onward (h w g) λ v k a p. onward (L.unweighs v b _) λ u j _ _. give (Worlds.value_on v u j a t p)

      second : (b : Bool) (op : Op) (a : ℕ) → ((w : Worlds.Stores) (c : ℕ) → S w b Value (a_value int_type) (E.operate_ints Action M op a c)) →
          (w : Worlds.Stores) (y : Value) → Worlds.IsValue w.objs y int_type → S w b Value (a_value int_type) (E.operate Action M op (int a) y)
      second b op a h w _ (Worlds.is_int {n = c}) = h w c

      left_ints : (op : Op) (s : Worlds.Stores) (b : Bool) (x : Value) (m : Action Value) → Worlds.IsValue s.objs x int_type →
          S s b Value (a_value int_type) m → S s b Value (a_value int_type) (E.with_left Action M op x m)
      left_ints And s b x m p g = choose_kept s b (a_value int_type) x _ _ p g (give Worlds.is_int)
      left_ints Or s b x m p g = choose_kept s b (a_value int_type) x _ _ p (give Worlds.is_int) g
      left_ints Plus s b _ m (Worlds.is_int {n = a}) g = onward g λ w k y q. second b Plus a (λ w c. exactly_kept w b (exact_sum a c)) w y q
      left_ints Minus s b _ m (Worlds.is_int {n = a}) g = onward g λ w k y q. second b Minus a (λ w c. exactly_kept w b (exact_difference a c)) w y q
      left_ints Times s b _ m (Worlds.is_int {n = a}) g = onward g λ w k y q. second b Times a (λ w c. exactly_kept w b (exact_product a c)) w y q
      left_ints Divide s b _ m (Worlds.is_int {n = a}) g = onward g λ w k y q. second b Divide a (λ w c. quotient_kept w b a c) w y q
      left_ints Equal s b _ m (Worlds.is_int {n = a}) g = onward g λ w k y q. second b Equal a (λ w c. held_kept w b _ _ refl) w y q
      left_ints NotEqual s b _ m (Worlds.is_int {n = a}) g = onward g λ w k y q. second b NotEqual a (λ w c. held_kept w b _ _ refl) w y q
      left_ints Less s b _ m (Worlds.is_int {n = a}) g = onward g λ w k y q. second b Less a (λ w c. held_kept w b _ _ refl) w y q
      left_ints LessEqual s b _ m (Worlds.is_int {n = a}) g = onward g λ w k y q. second b LessEqual a (λ w c. held_kept w b _ _ refl) w y q
      left_ints Greater s b _ m (Worlds.is_int {n = a}) g = onward g λ w k y q. second b Greater a (λ w c. held_kept w b _ _ refl) w y q
      left_ints GreaterEqual s b _ m (Worlds.is_int {n = a}) g = onward g λ w k y q. second b GreaterEqual a (λ w c. held_kept w b _ _ refl) w y q

      strings_kept : (op : Op) → Compares op → (s : Worlds.Stores) (b : Bool) (a : List ℕ) (y : Value) → Worlds.IsValue s.objs y string_type →
          S s b Value (a_value int_type) (E.operate Action M op (string a) y)
      strings_kept op h s b a _ (Worlds.is_string {bytes = c}) =
          runtime_kept s b int_type _ λ w g. paid λ v k. let r =
          h (bytes_eq a c) (string_less a c) (string_less c a) in held_kept v b (comparison op (bytes_eq a c) (string_less a c) (string_less c a)) r.0 r.1

      left_strings : (op : Op) → Compares op → (s : Worlds.Stores) (b : Bool) (x : Value) (m : Action Value) → Worlds.IsValue s.objs x string_type →
          S s b Value (a_value string_type) m → S s b Value (a_value int_type) (E.with_left Action M op x m)
      left_strings And h s b x m p g = let r = h true true true in let no : None ≡ Some r.0 = r.1 in absurd (cc)
      left_strings Or h s b x m p g = let r = h true true true in let no : None ≡ Some r.0 = r.1 in absurd (cc)
      left_strings op h s b _ m (Worlds.is_string {bytes = a}) g = onward g λ w k y q. strings_kept op h w b a y q

      identity_kept : (op : Op) → Identifies op → (s : Worlds.Stores) (b : Bool) (x y : Value) (t u : Ty) → Alike t u → Worlds.IsValue s.objs x t →
          Worlds.IsValue s.objs y u → S s b Value (a_value int_type) (E.operate Action M op x y)
      identity_kept op h s b _ _ _ _ records Worlds.is_nil_record Worlds.is_nil_record = held_kept s b (identity op true) (h true).0 (h true).1
      identity_kept op h s b _ _ _ _ records Worlds.is_nil_record (Worlds.is_record q) = held_kept s b (identity op false) (h false).0 (h false).1
      identity_kept op h s b _ _ _ _ records (Worlds.is_record p) Worlds.is_nil_record = held_kept s b (identity op false) (h false).0 (h false).1
      identity_kept op h s b _ _ _ _ records (Worlds.is_record {r} p) (Worlds.is_record {r = k} q) =
          held_kept s b (identity op (r == k)) (h (r == k)).0 (h (r == k)).1
      identity_kept op h s b _ _ _ _ arrays (Worlds.is_array {r} n p) (Worlds.is_array {r = k} m q) =
          held_kept s b (identity op (r == k)) (h (r == k)).0 (h (r == k)).1
      identity_kept op h s b _ _ _ _ nil_and Worlds.is_nil Worlds.is_nil_record = held_kept s b (identity op true) (h true).0 (h true).1
      identity_kept op h s b _ _ _ _ nil_and Worlds.is_nil (Worlds.is_record q) = held_kept s b (identity op false) (h false).0 (h false).1
      identity_kept op h s b _ _ _ _ and_nil Worlds.is_nil_record Worlds.is_nil = held_kept s b (identity op true) (h true).0 (h true).1
      identity_kept op h s b _ _ _ _ and_nil (Worlds.is_record p) Worlds.is_nil = held_kept s b (identity op false) (h false).0 (h false).1

      left_same : (op : Op) → Identifies op → (s : Worlds.Stores) (b : Bool) (x : Value) (m : Action Value) (t u : Ty) → Alike t u →
          Worlds.IsValue s.objs x t → S s b Value (a_value u) m → S s b Value (a_value int_type) (E.with_left Action M op x m)
      left_same And h s b x m t u l p g = let r = h true in let no : None ≡ Some r.0 = r.1 in absurd (cc)
      left_same Or h s b x m t u l p g = let r = h true in let no : None ≡ Some r.0 = r.1 in absurd (cc)
      left_same op h s b x m t u l p g = onward g λ w k y q. identity_kept op h w b x y t u l (Worlds.value_on s w k x t p) q

      -- creation
      record_kept : (s : Worlds.Stores) (b : Bool) (at : ℕ) (parts : List (ℕ × Value)) (fs : List (ℕ × Ty)) → looked_up at shapes ≡ Some (record_shape fs) →
          Worlds.Each (Worlds.IsPart s.objs) parts fs → S s b Value (a_value (record_type at)) (E.make_record Action M parts)
      record_kept s b at parts fs e ps =
          runtime_kept s b (record_type at) _ λ w g. onward (L.takes w b _) λ v k _ _.
          onward (L.makes v b (fields parts) (Worlds.record_of at)
          (Worlds.object_on shapes s v (Worlds.grows_on s w v g k) (fields parts) (Worlds.record_of at) (Worlds.as_record fs e ps)))
          λ u j r p. give (Worlds.is_record p)

      array_kept : (s : Worlds.Stores) (b : Bool) (at n : ℕ) (v : Value) (t : Ty) → looked_up at shapes ≡ Some (array_shape t) → Worlds.IsValue s.objs v t →
          S s b Value (a_value (array_type at)) (E.make_array Action M n v)
      array_kept s b at n a t e p =
          runtime_kept s b (array_type at) _ λ w g. chosen w b Value (a_value (array_type at)) (is_negative n) _ _ ends
          (onward (L.takes w b _) λ v k _ _. onward (L.spends v b n) λ u j _ _.
          onward (L.makes u b _ (Worlds.array_of at n) (Worlds.array_made shapes u.objs at n t a e
          (Worlds.value_on s u (Worlds.grows_on s w u g (Worlds.grows_on w v u k j)) a t p)))
          λ x i r q. give (Worlds.is_array n q))

      string_kept : (s : Worlds.Stores) (b : Bool) (bytes : List ℕ) → S s b Value (a_value string_type) (E.make_string Action M bytes)
      string_kept s b bytes = onward (L.takes s b _) λ w g _ _. paid λ v k. give Worlds.is_string

      substring_kept : (s : Worlds.Stores) (b : Bool) (bytes : List ℕ) (first n : ℕ) → S s b Value (a_value string_type) (E.substring Action M bytes first n)
      substring_kept s b bytes first n =
          chosen s b Value (a_value string_type) (is_negative first || is_negative n || nat_lt (length bytes) (first + n)) _ _ ends (string_kept s b _)

      standard_kept : (f : Standard) (s : Worlds.Stores) (b : Bool) (args : List Value) → Worlds.Each (Worlds.IsValue s.objs) args (signature f).params →
          S s b Value (a_value (signature f).result) (E.call_standard Action M f args)
      standard_kept Print s b _ (Worlds.item (Worlds.is_string {bytes = c}) Worlds.no_items) =
          onward (paid λ w g. L.writes w b c) λ v k _ _. give Worlds.is_nothing
      standard_kept Flush s b _ Worlds.no_items = give Worlds.is_nothing
      standard_kept Getchar s b _ Worlds.no_items = onward (L.reads s b) λ w g c _. string_kept w b c
      standard_kept Ord s b _ (Worlds.item Worlds.is_string Worlds.no_items) = paid λ w g. give Worlds.is_int
      standard_kept Chr s b _ (Worlds.item (Worlds.is_int {n = i}) Worlds.no_items) =
          chosen s b Value (a_value string_type) (is_below i 256) _ _ (string_kept s b (i ∷ [])) (ends {e = by_chr})
      standard_kept Size s b _ (Worlds.item Worlds.is_string Worlds.no_items) = paid λ w g. give Worlds.is_int
      standard_kept Substring s b _ (Worlds.item (Worlds.is_string {bytes = c})
          (Worlds.item (Worlds.is_int {n = first}) (Worlds.item (Worlds.is_int {n = n}) Worlds.no_items))) = paid λ w g. substring_kept w b c first n
      standard_kept Concat s b _ (Worlds.item Worlds.is_string (Worlds.item Worlds.is_string Worlds.no_items)) = paid λ w g. string_kept w b _
      standard_kept Not s b _ (Worlds.item Worlds.is_int Worlds.no_items) = give Worlds.is_int
      standard_kept Exit s b _ (Worlds.item Worlds.is_int Worlds.no_items) = ends

      values_on : (v w : Worlds.Stores) (as' : List Value) (ts : List Ty) → Worlds.GrowsTo v w → Worlds.Each (Worlds.IsValue v.objs) as' ts →
          Worlds.Each (Worlds.IsValue w.objs) as' ts
      values_on v w xs ts g h = Worlds.each_map (Worlds.IsValue v.objs) (Worlds.IsValue w.objs) xs ts (λ a t p. Worlds.value_on v w g a t p) h

      module _ (after : Job → Action Value) (turned : (s : Worlds.Stores) (b : Bool) (job : Job) (t : Ty) → IsJob s job t b →
          S s b Value (a_value t) (M.turn (after job))) where
        call_kept : (s : Worlds.Stores) (b : Bool) (d : Bound) (c : Binding) (sig : Signature) (args : List Value) → Worlds.Means shapes notes s.vars d c →
            Callee c sig → Worlds.Each (Worlds.IsValue s.objs) args sig.params → S s b Value (a_value sig.result) (E.call Action M after d args)
        call_kept s b _ _ sig args (Worlds.means_function {level} {at} {f} {seen} scope h e) declared vs =
            onward (L.weighs s b _) λ v k _ _. onward (L.descends v b) λ u j _ _.
            let all = Worlds.grows_on s v u k j in
            turned u b _ sig.result (a_function scope h (values_on s u args sig.params all vs) (Worlds.sees_on shapes notes s u seen scope.bindings all e))
        call_kept s b _ _ _ args Worlds.means_standard (standard f) vs =
            runtime_kept s b (signature f).result _ λ w g. standard_kept f w b args (values_on s w args (signature f).params g vs)
        call_kept s b _ _ sig args (Worlds.means_variable e) c vs = elim c [ ]

        while_kept : (s : Worlds.Stores) (b : Bool) (test body : Action Value) (again : Job) → S s b Value (a_value int_type) test →
            ((w : Worlds.Stores) → Worlds.GrowsTo s w → S w true Value (a_value none_type) body) →
            ((w : Worlds.Stores) → Worlds.GrowsTo s w → IsJob w again none_type b) →
            S s b Value (a_value none_type) (E.while_loop Action M after test body again)
        while_kept s b test body again g h j =
            onward g λ w k v p. choose_kept w b (a_value none_type) v _ _ p
            (L.loops w b (a_value none_type) body _ (h w k) (λ u i. turned u b again none_type (j u (Worlds.grows_on s w u k i))))
            (give Worlds.is_nothing)

        for_kept : (s : Worlds.Stores) (b : Bool) (place high : ℕ) (body : Action Value) (again : Job) → slice_get s.vars place ≡ Some int_type →
            S s true Value (a_value none_type) body → ((w : Worlds.Stores) → Worlds.GrowsTo s w → IsJob w again none_type b) →
            S s b Value (a_value none_type) (E.for_loop Action M after place high body again)
        for_kept s b place high body again e h j =
            L.loops s b (a_value none_type) body _ h λ w g.
            onward (L.variables w b place int_type (g.vars place int_type e)) λ v k a p. onward (int_kept v b a p) λ u i n _.
            chosen u b Value (a_value none_type) (n == high) _ _ (give Worlds.is_nothing)
            (let all = Worlds.grows_on s w u g (Worlds.grows_on w v u k i) in
            onward (L.sets u b place _ int_type (all.vars place int_type e) Worlds.is_int) λ x y _ _. turned x b again none_type
            (j x (Worlds.grows_on s u x all y)))

        mutual
          pub eval_kept : (e : Exp) (env : Env) (scope : Scope) (t : Ty) (s : Worlds.Stores) → Has.Has shapes notes e scope t →
              Worlds.Sees shapes notes s.vars env.entries scope.bindings → S s scope.in_loop Value (a_value t) (E.eval Action M after e env)
          eval_kept _ env scope _ s Has.nil v = paid λ w g. give Worlds.is_nil
          eval_kept _ env scope _ s Has.int v = paid λ w g. give Worlds.is_int
          eval_kept _ env scope _ s Has.text v = paid λ w g. give Worlds.is_string
          eval_kept _ env scope _ s (Has.break e) v = paid λ w g. L.breaks w scope.in_loop Value _ e
          eval_kept _ env scope t s (Has.read {v = p} h) v =
              paid λ w g. onward (locate_kept p env scope t w h (Worlds.sees_on shapes notes s w env.entries scope.bindings g v)) λ u k l q. read_kept u
              scope.in_loop l t q
          eval_kept _ env scope _ s (Has.call {f = f} {args = args} {sig = sig} c e h says hs) v =
              paid λ w g. let v' = Worlds.sees_on shapes notes s w env.entries scope.bindings g v in
              let d = Worlds.found shapes notes w.vars (name_of f) env.entries scope.bindings c v' e in
              onward (look_up_kept w scope.in_loop f env c d.0 d.1 d.2) λ x k callee m.
              onward (eval_all_kept args env scope sig.params x hs (Worlds.sees_on shapes notes w x env.entries scope.bindings k v')) λ y i values q.
              call_kept y scope.in_loop callee c sig values (Worlds.means_on shapes notes x y callee c i m) h q
          eval_kept _ env scope _ s (Has.neg {a = a} h) v =
              paid λ w g. onward (eval_kept a env scope int_type w h (Worlds.sees_on shapes notes s w env.entries scope.bindings g v)) λ u k x p. second
              scope.in_loop Minus 0 (λ y c. exactly_kept y scope.in_loop (exact_difference 0 c)) u x p
          eval_kept _ env scope _ s (Has.ints {op = op} {a = a} {b = b} says h k) v =
              paid λ w g. let v' = Worlds.sees_on shapes notes s w env.entries scope.bindings g v in
              onward (eval_kept a env scope int_type w h v') λ u j x p. left_ints op u scope.in_loop x _ p
              (eval_kept b env scope int_type u k (Worlds.sees_on shapes notes w u env.entries scope.bindings j v'))
          eval_kept _ env scope _ s (Has.strings {op = op} {a = a} {b = b} c says h k) v =
              paid λ w g. let v' = Worlds.sees_on shapes notes s w env.entries scope.bindings g v in
              onward (eval_kept a env scope string_type w h v') λ u j x p. left_strings op c u scope.in_loop x _ p
              (eval_kept b env scope string_type u k (Worlds.sees_on shapes notes w u env.entries scope.bindings j v'))
          eval_kept _ env scope _ s (Has.same {op = op} {a = a} {b = b} {t = t} {u = y} c l says h k) v =
              paid λ w g. let v' = Worlds.sees_on shapes notes s w env.entries scope.bindings g v in
              onward (eval_kept a env scope t w h v') λ u j x p. left_same op c u scope.in_loop x _ t y l p
              (eval_kept b env scope y u k (Worlds.sees_on shapes notes w u env.entries scope.bindings j v'))
          eval_kept _ env scope _ s (Has.make {inits = inits} {at = at} fs e h) v =
              paid λ w g. onward (eval_inits_kept inits env scope fs w h (Worlds.sees_on shapes notes s w env.entries scope.bindings g v)) λ u k parts p.
              record_kept u scope.in_loop at parts fs e p
          eval_kept _ env scope _ s (Has.fill {size = size} {value = value} {at = at} t u e h k fit) v =
              paid λ w g. let v' = Worlds.sees_on shapes notes s w env.entries scope.bindings g v in
              onward (eval_kept size env scope int_type w h v') λ x i n p. onward
              (eval_kept value env scope u x k (Worlds.sees_on shapes notes w x env.entries scope.bindings i v')) λ y j a q.
              onward (int_kept y scope.in_loop n (Worlds.value_on x y j n int_type p)) λ z l m _. array_kept z scope.in_loop at m a t e
              (Worlds.fitting z.objs a u t fit (Worlds.value_on y z l a u q))
          eval_kept _ env scope _ s (Has.assign {v = p} {e = e} {t = t} {u = u} h k fit) v =
              paid λ w g. let v' = Worlds.sees_on shapes notes s w env.entries scope.bindings g v in
              onward (locate_kept p env scope t w h v') λ x i l q. onward
              (eval_kept e env scope u x k (Worlds.sees_on shapes notes w x env.entries scope.bindings i v')) λ y j a r.
              onward (write_kept y scope.in_loop l a t (location_on x y l t j q) (Worlds.fitting y.objs a u t fit r)) λ z m _ _. give Worlds.is_nothing
          eval_kept _ env scope r s (Has.if_else {c = c} {a = a} {b = b} {t = t} {u = u} h i j f1 f2) v =
              paid λ w g. let v' = Worlds.sees_on shapes notes s w env.entries scope.bindings g v in
              onward (eval_kept c env scope int_type w h v') λ x k n p. let v'' = Worlds.sees_on shapes notes w x env.entries scope.bindings k v' in
              choose_kept x scope.in_loop (a_value r) n _ _ p (fitted x scope.in_loop t r _ f1 (eval_kept a env scope t x i v''))
              (fitted x scope.in_loop u r _ f2 (eval_kept b env scope u x j v''))
          eval_kept _ env scope _ s (Has.when {c = c} {a = a} h i) v =
              paid λ w g. let v' = Worlds.sees_on shapes notes s w env.entries scope.bindings g v in
              onward (eval_kept c env scope int_type w h v') λ x k n p. choose_kept x scope.in_loop (a_value none_type) n _ _ p
              (eval_kept a env scope none_type x i (Worlds.sees_on shapes notes w x env.entries scope.bindings k v')) (give Worlds.is_nothing)
          eval_kept _ env scope _ s (Has.while {c = c} {a = a} h i) v =
              paid λ w g. let v' = Worlds.sees_on shapes notes s w env.entries scope.bindings g v in
              while_kept w scope.in_loop _ _ _ (eval_kept c env scope int_type w h v')
              (λ x k. eval_kept a env (in_a_loop scope) none_type x i (Worlds.sees_on shapes notes w x env.entries scope.bindings k v'))
              (λ x k. a_while scope h i (Worlds.sees_on shapes notes w x env.entries scope.bindings k v'))
          eval_kept _ env scope _ s (Has.for {x = x} {l = l} {h = h} {a = a} hl hh ha) v =
              paid λ w g. let v' = Worlds.sees_on shapes notes s w env.entries scope.bindings g v in
              onward (eval_kept l env scope int_type w hl v') λ y i m p. let v1 = Worlds.sees_on shapes notes w y env.entries scope.bindings i v' in
              onward (eval_kept h env scope int_type y hh v1) λ z j n q. let v2 = Worlds.sees_on shapes notes y z env.entries scope.bindings j v1 in
              onward (int_kept z scope.in_loop m (Worlds.value_on y z j m int_type p)) λ a1 k1 low _. onward
              (int_kept a1 scope.in_loop n (Worlds.value_on z a1 k1 n int_type q)) λ a2 k2 high _.
              onward (L.news a2 scope.in_loop (int low) int_type Worlds.is_int) λ a3 k3 place e.
              let v3 = Worlds.sees_on shapes notes z a3 env.entries scope.bindings (Worlds.grows_on z a1 a3 k1 (Worlds.grows_on a1 a2 a3 k2 k3)) v2 in
              chosen a3 scope.in_loop Value (a_value none_type) (less high low) _ _ (give Worlds.is_nothing)
              (for_kept a3 scope.in_loop place high _ _ e
              (eval_kept a (with_variable (name_of x) place env) (in_a_loop (binding x (variable_at (at_of x) int_type true) scope)) none_type a3 ha
              (Worlds.sees_variable e v3))
              (λ u k. a_for (binding x (variable_at (at_of x) int_type true) scope) (k.vars place int_type e) ha
              (Worlds.sees_variable (k.vars place int_type e) (Worlds.sees_on shapes notes a3 u env.entries scope.bindings k v3))))
          eval_kept _ env scope t s (Has.block {ds = ds} {es = es} inner h k) v =
              paid λ w g. let loops = in_loop_same ds scope inner h in
              subst (λ c. S w c Value (a_value t) (M.bind (E.declare Action M after ds env) (λ env'. E.eval_last Action M after nothing es env'))) loops
              (onward (subst (λ c. S w c Env (λ x env'. Worlds.Sees shapes notes x.vars env'.entries inner.bindings) (E.declare Action M after ds env))
              (sym loops) (declare_kept ds env scope inner w h (Worlds.sees_on shapes notes s w env.entries scope.bindings g v))) λ x i env' v'.
              eval_last_kept none_type nothing es env' inner t x k v' Worlds.is_nothing)
          eval_kept _ env scope t s (Has.seq {es = es} h) v =
              paid λ w g. eval_last_kept none_type nothing es env scope t w h
              (Worlds.sees_on shapes notes s w env.entries scope.bindings g v) Worlds.is_nothing

          pub locate_kept : (p : LValue) (env : Env) (scope : Scope) (t : Ty) (s : Worlds.Stores) → Has.HasPlace shapes notes p scope t →
              Worlds.Sees shapes notes s.vars env.entries scope.bindings →
              S s scope.in_loop Location (λ w l. IsLocation w l t) (E.locate Action M after p env)
          locate_kept _ env scope t s (Has.simple {x = x} at loop e says) v =
              paid λ w g. let d =
              Worlds.found shapes notes w.vars (name_of x) env.entries scope.bindings (variable_at at t loop)
              (Worlds.sees_on shapes notes s w env.entries scope.bindings g v) e in
              onward (look_up_kept w scope.in_loop x env (variable_at at t loop) d.0 d.1 d.2) λ u k b m. variable_kept u scope.in_loop b at t loop m
          locate_kept _ env scope t s (Has.field {v = p} {f = f} at fs place h e n found says) v =
              paid λ w g. onward (locate_kept p env scope (record_type at) w h (Worlds.sees_on shapes notes s w env.entries scope.bindings g v)) λ u k l q.
              onward (read_kept u scope.in_loop l (record_type at) q) λ x i a r. field_kept x scope.in_loop a (name_of f) at fs t r e n
          locate_kept _ env scope t s (Has.index {v = p} {e = e} at h n k) v =
              paid λ w g. let v' = Worlds.sees_on shapes notes s w env.entries scope.bindings g v in
              onward (locate_kept p env scope (array_type at) w h v') λ u i l q. onward (read_kept u scope.in_loop l (array_type at) q) λ x j a r.
              onward (eval_kept e env scope int_type x k (Worlds.sees_on shapes notes w x env.entries scope.bindings (Worlds.grows_on w u x i j) v')) λ y m c
              z. element_kept y scope.in_loop a c at t (Worlds.value_on x y m a (array_type at) r) z n

          pub eval_all_kept : (es : Exps) (env : Env) (scope : Scope) (ts : List Ty) (s : Worlds.Stores) → Has.HasAll shapes notes es ts scope →
              Worlds.Sees shapes notes s.vars env.entries scope.bindings →
              S s scope.in_loop (List Value) (λ w vs. Worlds.Each (Worlds.IsValue w.objs) vs ts) (E.eval_all Action M after es env)
          eval_all_kept _ env scope _ s Has.end_args v = give Worlds.no_items
          eval_all_kept _ env scope _ s (Has.an_arg {e = e} {rest = rest} {t = t} {ts = ts} u h fit hs) v =
              onward (eval_kept e env scope u s h v) λ w g a p. onward
              (eval_all_kept rest env scope ts w hs (Worlds.sees_on shapes notes s w env.entries scope.bindings g v)) λ x k as' q. give
              (Worlds.item (Worlds.fitting x.objs a u t fit (Worlds.value_on w x k a u p)) q)

          pub eval_inits_kept : (es : Inits) (env : Env) (scope : Scope) (fs : List (ℕ × Ty)) (s : Worlds.Stores) → Has.HasInits shapes notes es fs scope →
              Worlds.Sees shapes notes s.vars env.entries scope.bindings →
              S s scope.in_loop (List (ℕ × Value)) (λ w parts. Worlds.Each (Worlds.IsPart w.objs) parts fs) (E.eval_inits Action M after es env)
          eval_inits_kept _ env scope _ s Has.end_inits v = give Worlds.no_items
          eval_inits_kept _ env scope _ s (Has.an_init {e = e} {rest = rest} {field = field} {fs = fs} u n h fit hs) v =
              onward (eval_kept e env scope u s h v) λ w g a p. onward
              (eval_inits_kept rest env scope fs w hs (Worlds.sees_on shapes notes s w env.entries scope.bindings g v)) λ x k as' q. give
              (Worlds.item (n, Worlds.fitting x.objs a u field.1 fit (Worlds.value_on w x k a u p)) q)

          pub eval_last_kept : (u : Ty) (a : Value) (es : Exps) (env : Env) (scope : Scope) (t : Ty) (s : Worlds.Stores) →
              Has.HasLast shapes notes u es scope t → Worlds.Sees shapes notes s.vars env.entries scope.bindings → Worlds.IsValue s.objs a u →
              S s scope.in_loop Value (a_value t) (E.eval_last Action M after a es env)
          eval_last_kept _ a _ env scope _ s Has.end_lasts v p = give p
          eval_last_kept _ a _ env scope t s (Has.a_last {e = e} {rest = rest} u h hs) v p =
              onward (eval_kept e env scope u s h v) λ w g c q. eval_last_kept u c rest env scope t w hs
              (Worlds.sees_on shapes notes s w env.entries scope.bindings g v) q

          pub declare_kept : (ds : Decs) (env : Env) (scope inner : Scope) (s : Worlds.Stores) → Has.HasDecs shapes notes ds scope inner →
              Worlds.Sees shapes notes s.vars env.entries scope.bindings →
              S s scope.in_loop Env (λ w env'. Worlds.Sees shapes notes w.vars env'.entries inner.bindings) (E.declare Action M after ds env)
          declare_kept _ env scope _ s Has.end_decs v = give v
          declare_kept _ env scope inner s (Has.type_names {rest = rest} names hs) v =
              paid λ w g. declare_kept rest env (record scope { types = names }) inner w hs (Worlds.sees_on shapes notes s w env.entries scope.bindings g v)
          declare_kept _ env scope inner s (Has.variables {x = x} {e = e} {rest = rest} t u _ h fit hs) v =
              paid λ w g. let v' = Worlds.sees_on shapes notes s w env.entries scope.bindings g v in
              onward (eval_kept e env scope u w h v') λ y k a p. onward (L.news y scope.in_loop a t (Worlds.fitting y.objs a u t fit p)) λ z i place q.
              declare_kept rest (with_variable (name_of x) place env) (binding x (variable_at (at_of x) t false) scope) inner z hs
              (Worlds.sees_variable q (Worlds.sees_on shapes notes w z env.entries scope.bindings (Worlds.grows_on w y z k i) v'))
          declare_kept _ env scope inner s (Has.group {fs = fs} {rest = rest} ss apart hb hs) v =
              paid λ w g. subst (λ c. S w c Env (λ x env'. Worlds.Sees shapes notes x.vars env'.entries inner.bindings)
              (E.declare Action M after rest (record env { entries = group env.level fs ∷ env.entries }))) (loop_of_functions fs ss scope)
              (declare_kept rest (record env { entries = group env.level fs ∷ env.entries }) (with_functions fs ss scope) inner w hs
              (Worlds.sees_group ss scope apart hb (Worlds.sees_on shapes notes s w env.entries scope.bindings g v)))

        params_kept : (ps : List Param) (ts : List Ty) (args : List Value) (env : Env) (scope : Scope) (b : Bool) (s : Worlds.Stores) →
            length ps ≡ length ts → Worlds.Each (Worlds.IsValue s.objs) args ts → Worlds.Sees shapes notes s.vars env.entries scope.bindings →
            S s b Env (λ w env'. Worlds.Sees shapes notes w.vars env'.entries (with_params ps ts scope).bindings) (E.bind_params Action M after ps args env)
        params_kept [] _ _ env scope b s l Worlds.no_items v = give v
        params_kept [] _ _ env scope b s l (Worlds.item p vs) v = absurd (omega (arith, l))
        params_kept (p ∷ ps) _ _ env scope b s l Worlds.no_items v = absurd (omega (arith, l))
        params_kept (p ∷ ps) _ _ env scope b s l (Worlds.item {a = a} {b = t} {xs = args} {bs = ts} q vs) v =
            paid λ w g. onward (L.news w b a t (Worlds.value_on s w g a t q)) λ x k place e.
            params_kept ps ts args (with_variable (name_of p.name) place env) (binding p.name (variable_at (at_of p.name) t false) scope) b x
            (omega (arith, l)) (values_on s x args ts (Worlds.grows_on s w x g k) vs)
            (Worlds.sees_variable e (Worlds.sees_on shapes notes s x env.entries scope.bindings (Worlds.grows_on s w x g k) v))

        pub run_kept : (s : Worlds.Stores) (b : Bool) (job : Job) (t : Ty) → IsJob s job t b → S s b Value (a_value t) (E.run Action M after job)
        run_kept s b _ _ (a_function {level} {f} {seen} {args} {sig} scope h vs v) =
            let inner = with_params f.params sig.params (in_no_loop scope) in
            onward (params_kept f.params sig.params args _ (in_no_loop scope) b s h.counts vs v) λ w g env v'.
            onward (fitted w b h.body_type sig.result _ h.fits
            (L.bodies w b (a_value h.body_type) _ (subst (λ c. S w c Value (a_value h.body_type) (E.eval Action M after f.body env))
            (loop_of_params f.params sig.params (in_no_loop scope)) (eval_kept f.body env inner h.body_type w h.body v')))) λ x k a p.
            onward (L.ascends x b) λ y i _ _. onward (L.unweighs y b _) λ z j _ _. give (Worlds.value_on x z (Worlds.grows_on x y z i j) a sig.result p)
        run_kept s _ _ _ (a_while {test} {body} {env} scope h k v) =
            while_kept s scope.in_loop _ _ _ (eval_kept test env scope int_type s h v)
            (λ w g. eval_kept body env (in_a_loop scope) none_type w k (Worlds.sees_on shapes notes s w env.entries scope.bindings g v))
            (λ w g. a_while scope h k (Worlds.sees_on shapes notes s w env.entries scope.bindings g v))
        run_kept s b _ _ (a_for {place} {high} {body} {env} scope e h v) =
            for_kept s b place high _ _ e (eval_kept body env (in_a_loop scope) none_type s h v)
            (λ w g. a_for scope (g.vars place int_type e) h (Worlds.sees_on shapes notes s w env.entries scope.bindings g v))

        pub program_kept : (body : Exp) (entries : List Entry) (scope : Scope) (t : Ty) (s : Worlds.Stores) → scope.in_loop ≡ false →
            Has.Has shapes notes body scope t → Worlds.Sees shapes notes s.vars entries scope.bindings →
            S s false Value (a_value t) (E.run_program Action M after body entries)
        program_kept body entries scope t s e h v =
            onward (L.weighs s false _) λ w g _ _. L.bodies w false (a_value t) _
            (subst (λ c. S w c Value (a_value t) (E.eval Action M after body (record { level = 0; entries = entries }))) e
            (eval_kept body (record { level = 0; entries = entries }) scope t w h (Worlds.sees_on shapes notes s w entries scope.bindings g v)))
