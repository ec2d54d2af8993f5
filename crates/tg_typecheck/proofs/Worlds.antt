-- What is known of a run's values, variables, objects and names, by types.
use Rattle.std.proofs.Common.{◌≡◌, ℕ, zero, suc, ◌<◌, List, [], ◌∷◌, ◌++◌, length, Option, Some, None, Bool, true, false, refl, sym, ap, ◌∙◌, subst}
use Rattle.std.proofs.Common.{arith, replicate}
use Rattle.std.specs.Prelude.{slice_get, slice_set, ◌==◌, if◌then◌else◌}
use Rattle.std.proofs.lemmas.Bool.{eqb-true}
use Rattle.tg_syntax.specs.Tree.{FunDecs, function}
use Rattle.tg_semantics.specs.Values.{Value, int, string, nil, reference, nothing, Object, fields, elements, Entry, variable, group, standard}
use Rattle.tg_semantics.specs.Values.{SourceWorld, initial_world, add_variable, put_variable, add_object, put_object}
use Rattle.tg_semantics.specs.Operators.{get_field, set_field, field_in, element_in, with_field, with_element}
use Rattle.tg_semantics.specs.Environments.{SourceFunction, Bound, to_variable, to_function, to_standard, function_named, or_beyond, find}
use Rattle.tg_typecheck.specs.Types.{Ty, int_type, string_type, nil_type, none_type, record_type, array_type, Shape, record_shape, array_shape}
use Rattle.tg_symbols.specs.Tables.{looked_up}
use Rattle.tg_semantics.specs.Environments.{name_of}
use Rattle.tg_typecheck.specs.Scopes.{Signature, Binding, variable_at, function_at, standard_one, Scope, at_of, binding, in_no_loop}
use Rattle.tg_typecheck.specs.Groups.{with_functions, with_params}
use Rattle.tg_typecheck.specs.declared.notes.Note.{Note}
use Rattle.tg_typecheck.specs.Has.{Fits, the_same, nil_for, Apart, Has, HasBodies, end_bodies, a_body}

-- what an object was made as: a record of a type, or an array of a type with so many elements
pub data Made : Type 0 where
  record_of : (at : ℕ) → Made
  array_of : (at count : ℕ) → Made

-- the types of the variables, and what the objects were made as
pub record Stores : Type 0 where
  pub vars : List Ty
  pub objs : List Made

pub data IsValue (objs : List Made) : Value → Ty → Type 0 where
  is_int : {n : ℕ} → IsValue objs (int n) int_type
  is_string : {bytes : List ℕ} → IsValue objs (string bytes) string_type
  is_nil : IsValue objs nil nil_type
  is_nil_record : {at : ℕ} → IsValue objs nil (record_type at)
  is_record : {r at : ℕ} → slice_get objs r ≡ Some (record_of at) → IsValue objs (reference r) (record_type at)
  is_array : {r at : ℕ} (count : ℕ) → slice_get objs r ≡ Some (array_of at count) → IsValue objs (reference r) (array_type at)
  is_nothing : IsValue objs nothing none_type

-- two lists, item by item
pub data Each {A B : Type 0} (P : A → B → Type 0) : List A → List B → Type 0 where
  no_items : Each P [] []
  item : {a : A} {b : B} {xs : List A} {bs : List B} → P a b → Each P xs bs → Each P (a ∷ xs) (b ∷ bs)

abbrev pub IsPart : List Made → ℕ × Value → ℕ × Ty → Type 0
IsPart objs part field = (part.0 ≡ field.0) × IsValue objs part.1 field.1

pub record GrowsTo (w v : Stores) : Type 0 where
  pub vars : (i : ℕ) (t : Ty) → slice_get w.vars i ≡ Some t → slice_get v.vars i ≡ Some t
  pub objs : (i : ℕ) (k : Made) → slice_get w.objs i ≡ Some k → slice_get v.objs i ≡ Some k

pub grows_same : (w : Stores) → GrowsTo w w
grows_same w = record { vars = λ i t e. e; objs = λ i k e. e }

pub grows_on : (u v w : Stores) → GrowsTo u v → GrowsTo v w → GrowsTo u w
grows_on u v w g h = record { vars = λ i t e. h.vars i t (g.vars i t e); objs = λ i k e. h.objs i k (g.objs i k e) }

pub value_on : (w v : Stores) → GrowsTo w v → (a : Value) (t : Ty) → IsValue w.objs a t → IsValue v.objs a t
value_on w v g _ _ is_int = is_int
value_on w v g _ _ is_string = is_string
value_on w v g _ _ is_nil = is_nil
value_on w v g _ _ is_nil_record = is_nil_record
value_on w v g _ _ (is_record e) = is_record (g.objs _ _ e)
value_on w v g _ _ (is_array count e) = is_array count (g.objs _ _ e)
value_on w v g _ _ is_nothing = is_nothing

pub fitting : (objs : List Made) (a : Value) (t u : Ty) → Fits t u → IsValue objs a t → IsValue objs a u
fitting objs a t u the_same v = v
fitting objs _ _ _ nil_for is_nil = is_nil_record

-- lists item by item
pub each_map : {A B : Type 0} (P Q : A → B → Type 0) (xs : List A) (bs : List B) → ((a : A) (b : B) → P a b → Q a b) → Each P xs bs → Each Q xs bs
each_map P Q _ _ h no_items = no_items
each_map P Q _ _ h (item {a} {b} {xs} {bs} p ps) = item (h a b p) (each_map P Q xs bs h ps)

pub each_get : {A B : Type 0} (P : A → B → Type 0) (xs : List A) (bs : List B) (i : ℕ) (b : B) → Each P xs bs → slice_get bs i ≡ Some b →
    (a : A) × (slice_get xs i ≡ Some a) × P a b
each_get P _ _ i b no_items e = cc
each_get P _ _ zero b (item {a = a} {b = c} {xs = xs} {bs = bs} p ps) e =
    let same : c ≡ b = cc in
    (a, refl, subst (λ x. P a x) same p)
each_get P _ _ (suc i) b (item {a = a} {b = c} {xs = xs} {bs = bs} p ps) e = each_get P xs bs i b ps e

pub each_set : {A B : Type 0} (P : A → B → Type 0) (xs : List A) (bs : List B) (i : ℕ) (a : A) (b : B) → Each P xs bs → slice_get bs i ≡ Some b → P a b →
    Each P (slice_set xs i a) bs
each_set P _ _ i a b no_items e p = no_items
each_set P _ _ zero a b (item {a = c} {b = d} {xs = xs} {bs = bs} q qs) e p =
    let same : b ≡ d = cc in
    item (subst (λ x. P a x) same p) qs
each_set P _ _ (suc i) a b (item {a = c} {b = d} {xs = xs} {bs = bs} q qs) e p = item q (each_set P xs bs i a b qs e p)

pub each_add : {A B : Type 0} (P : A → B → Type 0) (xs : List A) (bs : List B) (a : A) (b : B) → Each P xs bs → P a b → Each P (xs ++ a ∷ []) (bs ++ b ∷ [])
each_add P _ _ a b no_items p = item p no_items
each_add P _ _ a b (item {a = c} {b = d} {xs = xs} {bs = bs} q qs) p = item q (each_add P xs bs a b qs p)

pub each_length : {A B : Type 0} (P : A → B → Type 0) (xs : List A) (bs : List B) → Each P xs bs → length xs ≡ length bs
each_length P _ _ no_items = refl
each_length P _ _ (item {a = c} {b = d} {xs = xs} {bs = bs} q qs) = ap suc (each_length P xs bs qs)

pub get_last : {A : Type 0} (l : List A) (a : A) → slice_get (l ++ a ∷ []) (length l) ≡ Some a
get_last [] a = refl
get_last (b ∷ l) a = get_last l a

pub get_before : {A : Type 0} (l : List A) (a : A) (i : ℕ) (b : A) → slice_get l i ≡ Some b → slice_get (l ++ a ∷ []) i ≡ Some b
get_before [] a i b e = cc
get_before (c ∷ l) a zero b e = e
get_before (c ∷ l) a (suc i) b e = get_before l a i b e

-- with one more variable, and with one more object
abbrev pub with_variable : Ty → Stores → Stores
with_variable t s = record { vars = s.vars ++ t ∷ []; objs = s.objs }

abbrev pub with_object : Made → Stores → Stores
with_object k s = record { vars = s.vars; objs = s.objs ++ k ∷ [] }

pub grows_by_variable : (s : Stores) (t : Ty) → GrowsTo s (with_variable t s)
grows_by_variable s t = record { vars = λ i u e. get_before s.vars t i u e; objs = λ i k e. e }

pub grows_by_object : (s : Stores) (k : Made) → GrowsTo s (with_object k s)
grows_by_object s k = record { vars = λ i t e. e; objs = λ i j e. get_before s.objs k i j e }

-- all of one type
pub data All_of (objs : List Made) (t : Ty) : List Value → Type 0 where
  no_more : All_of objs t []
  and_one : {v : Value} {vs : List Value} → IsValue objs v t → All_of objs t vs → All_of objs t (v ∷ vs)

pub all_get : (objs : List Made) (t : Ty) (vs : List Value) (i : ℕ) → All_of objs t vs → i < length vs →
    (v : Value) × (slice_get vs i ≡ Some v) × IsValue objs v t
all_get objs t _ i no_more lt = absurd (omega (arith, lt))
all_get objs t _ zero (and_one {v} {vs} p ps) lt = (v, refl, p)
all_get objs t _ (suc i) (and_one {v} {vs} p ps) lt = all_get objs t vs i ps (omega (arith, lt))

pub all_set : (objs : List Made) (t : Ty) (vs : List Value) (i : ℕ) (v : Value) → All_of objs t vs → IsValue objs v t → All_of objs t (slice_set vs i v)
all_set objs t _ i v no_more p = no_more
all_set objs t _ zero v (and_one q qs) p = and_one p qs
all_set objs t _ (suc i) v (and_one {v = u} {vs = vs} q qs) p = and_one q (all_set objs t vs i v qs p)

pub all_replicate : (objs : List Made) (t : Ty) (n : ℕ) (v : Value) → IsValue objs v t → All_of objs t (replicate n v)
all_replicate objs t zero v p = no_more
all_replicate objs t (suc n) v p = and_one p (all_replicate objs t n v p)

pub all_on : (w v : Stores) (t : Ty) (vs : List Value) → GrowsTo w v → All_of w.objs t vs → All_of v.objs t vs
all_on w v t _ g no_more = no_more
all_on w v t _ g (and_one {v = a} {vs = vs} p ps) = and_one (value_on w v g a t p) (all_on w v t vs g ps)

set_length : (vs : List Value) (i : ℕ) (v : Value) → length (slice_set vs i v) ≡ length vs
set_length [] i v = refl
set_length (u ∷ vs) zero v = refl
set_length (u ∷ vs) (suc i) v = ap suc (set_length vs i v)

replicate_length : (n : ℕ) (v : Value) → length (replicate n v) ≡ n
replicate_length zero v = refl
replicate_length (suc n) v = ap suc (replicate_length n v)

-- the parts of a record
parts_get : (objs : List Made) (f : ℕ) (t : Ty) (parts : List (ℕ × Value)) (fs : List (ℕ × Ty)) → Each (IsPart objs) parts fs → looked_up f fs ≡ Some t →
    (v : Value) × (get_field f parts ≡ Some v) × IsValue objs v t
parts_get objs f t _ _ no_items e = cc
parts_get objs f t _ _ (item {a = part} {b = field} {xs = parts} {bs = fs} p ps) e =
    let h : (b : Bool) → (if b then Some field.1 else looked_up f fs) ≡ Some t →
    (v : Value) × ((if b then Some part.1 else get_field f parts) ≡ Some v) × IsValue objs v t =
    λ b. elim b as (λ b. (if b then Some field.1 else looked_up f fs) ≡ Some t →
    (v : Value) × ((if b then Some part.1 else get_field f parts) ≡ Some v) × IsValue objs v t) [
      | true ↦ λ e. let same : field.1 ≡ t = cc in (part.1, refl, subst (λ x. IsValue objs part.1 x) same p.1)
      | false ↦ λ e. parts_get objs f t parts fs ps e
    ] in
    let at_field = h (field.0 == f) e in
    subst (λ x. (v : Value) × ((if x == f then Some part.1 else get_field f parts) ≡ Some v) × IsValue objs v t) (sym p.0) at_field

parts_set : (objs : List Made) (f : ℕ) (t : Ty) (v : Value) (parts : List (ℕ × Value)) (fs : List (ℕ × Ty)) → Each (IsPart objs) parts fs →
    looked_up f fs ≡ Some t → IsValue objs v t → Each (IsPart objs) (set_field f v parts) fs
parts_set objs f t v _ _ no_items e q = no_items
parts_set objs f t v _ _ (item {a = part} {b = field} {xs = parts} {bs = fs} p ps) e q =
    let h : (b : Bool) → (field.0 == f) ≡ b → (if b then Some field.1 else looked_up f fs) ≡ Some t →
    Each (IsPart objs) (if b then (f, v) ∷ parts else part ∷ set_field f v parts) (field ∷ fs) =
    λ b. elim b as (λ b. (field.0 == f) ≡ b → (if b then Some field.1 else looked_up f fs) ≡ Some t →
    Each (IsPart objs) (if b then (f, v) ∷ parts else part ∷ set_field f v parts) (field ∷ fs)) [
      | true ↦ λ is e. let same : t ≡ field.1 = cc in item (sym (eqb-true field.0 f is), subst (λ x. IsValue objs v x) same q) ps
      | false ↦ λ is e. item p (parts_set objs f t v parts fs ps e q)
    ] in
    subst (λ x. Each (IsPart objs) (if x == f then (f, v) ∷ parts else part ∷ set_field f v parts) (field ∷ fs)) (sym p.0) (h (field.0 == f) refl e)

module _ (shapes : List (ℕ × Shape)) where
  -- what an object holds, by what it was made as
  pub data IsObject (objs : List Made) : Object → Made → Type 0 where
    as_record : {at : ℕ} {parts : List (ℕ × Value)} (fs : List (ℕ × Ty)) → looked_up at shapes ≡ Some (record_shape fs) → Each (IsPart objs) parts fs →
        IsObject objs (fields parts) (record_of at)
    as_array : {at count : ℕ} {values : List Value} (t : Ty) → looked_up at shapes ≡ Some (array_shape t) → length values ≡ count → All_of objs t values →
        IsObject objs (elements values) (array_of at count)

  pub object_on : (w v : Stores) → GrowsTo w v → (o : Object) (k : Made) → IsObject w.objs o k → IsObject v.objs o k
  object_on w v g _ _ (as_record {at} {parts} fs e ps) =
      as_record fs e (each_map (IsPart w.objs) (IsPart v.objs) parts fs (λ a b p. (p.0, value_on w v g a.1 b.1 p.1)) ps)
  object_on w v g _ _ (as_array {at} {count} {values} t e l vs) = as_array t e l (all_on w v t values g vs)

  pub field_there : (objs : List Made) (o : Object) (at f : ℕ) (fs : List (ℕ × Ty)) (t : Ty) → IsObject objs o (record_of at) →
      looked_up at shapes ≡ Some (record_shape fs) → looked_up f fs ≡ Some t → (v : Value) × (field_in f o ≡ Some v) × IsValue objs v t
  field_there objs _ at f fs t (as_record {at = _} {parts} gs e ps) is n =
      let same : fs ≡ gs = cc in
      parts_get objs f t parts gs ps (subst (λ x. looked_up f x ≡ Some t) same n)

  pub field_put : (objs : List Made) (o : Object) (at f : ℕ) (fs : List (ℕ × Ty)) (t : Ty) (v : Value) → IsObject objs o (record_of at) →
      looked_up at shapes ≡ Some (record_shape fs) → looked_up f fs ≡ Some t → IsValue objs v t → IsObject objs (with_field f v o) (record_of at)
  field_put objs _ at f fs t v (as_record {at = _} {parts} gs e ps) is n p =
      let same : fs ≡ gs = cc in
      as_record gs e (parts_set objs f t v parts gs ps (subst (λ x. looked_up f x ≡ Some t) same n) p)

  pub element_there : (objs : List Made) (o : Object) (at count i : ℕ) (t : Ty) → IsObject objs o (array_of at count) →
      looked_up at shapes ≡ Some (array_shape t) → i < count → (v : Value) × (element_in i o ≡ Some v) × IsValue objs v t
  element_there objs _ at count i t (as_array {at = _} {count = _} {values} u e l vs) is lt =
      let same : u ≡ t = cc in
      all_get objs t values i (subst (λ x. All_of objs x values) same vs) (omega (arith, l, lt))

  pub element_put : (objs : List Made) (o : Object) (at count i : ℕ) (t : Ty) (v : Value) → IsObject objs o (array_of at count) →
      looked_up at shapes ≡ Some (array_shape t) → IsValue objs v t → IsObject objs (with_element i v o) (array_of at count)
  element_put objs _ at count i t v (as_array {at = _} {count = _} {values} u e l vs) is p =
      let same : t ≡ u = cc in
      as_array u e (set_length values i v ∙ l) (all_set objs u values i v vs (subst (λ x. IsValue objs v x) same p))

  pub array_made : (objs : List Made) (at n : ℕ) (t : Ty) (v : Value) → looked_up at shapes ≡ Some (array_shape t) → IsValue objs v t →
      IsObject objs (elements (replicate n v)) (array_of at n)
  array_made objs at n t v e p = as_array t e (replicate_length n v) (all_replicate objs t n v p)

  -- the variables and objects of a world are of these types
  pub record IsWorld (s : Stores) (w : SourceWorld) : Type 0 where
    pub vars : Each (IsValue s.objs) w.variables s.vars
    pub objs : Each (IsObject s.objs) w.objects s.objs

  -- nothing is stored yet
  pub nothing_stored : (input : List ℕ) → IsWorld (record { vars = []; objs = [] }) (initial_world input)
  nothing_stored input = record { vars = no_items; objs = no_items }

  -- nothing is known of input, heap, weight and depth
  pub same_stores : (s : Stores) (v w : SourceWorld) → IsWorld s v → v.variables ≡ w.variables → v.objects ≡ w.objects → IsWorld s w
  same_stores s v w i e f =
      record { vars = subst (λ x. Each (IsValue s.objs) x s.vars) e i.vars; objs = subst (λ x. Each (IsObject s.objs) x s.objs) f i.objs }

  -- a variable that is there
  pub variable_there : (s : Stores) (w : SourceWorld) (place : ℕ) (t : Ty) → IsWorld s w → slice_get s.vars place ≡ Some t →
      (v : Value) × (slice_get w.variables place ≡ Some v) × IsValue s.objs v t
  variable_there s w place t i e = each_get (IsValue s.objs) w.variables s.vars place t i.vars e

  -- an object that is there
  pub object_there : (s : Stores) (w : SourceWorld) (r : ℕ) (k : Made) → IsWorld s w → slice_get s.objs r ≡ Some k →
      (o : Object) × (slice_get w.objects r ≡ Some o) × IsObject s.objs o k
  object_there s w r k i e = each_get (IsObject s.objs) w.objects s.objs r k i.objs e

  -- a new variable
  pub variable_added : (s : Stores) (w : SourceWorld) (v : Value) (t : Ty) → IsWorld s w → IsValue s.objs v t → IsWorld (with_variable t s) (add_variable v w)
  variable_added s w v t i p = record { vars = each_add (IsValue s.objs) w.variables s.vars v t i.vars p; objs = i.objs }

  pub new_variable_there : (s : Stores) (w : SourceWorld) (t : Ty) → IsWorld s w → slice_get (with_variable t s).vars (length w.variables) ≡ Some t
  new_variable_there s w t i =
      subst (λ x. slice_get (s.vars ++ t ∷ []) x ≡ Some t) (sym (each_length (IsValue s.objs) w.variables s.vars i.vars)) (get_last s.vars t)

  -- a store to a variable
  pub variable_put : (s : Stores) (w : SourceWorld) (place : ℕ) (v : Value) (t : Ty) → IsWorld s w → slice_get s.vars place ≡ Some t → IsValue s.objs v t →
      IsWorld s (put_variable place v w)
  variable_put s w place v t i e p = record { vars = each_set (IsValue s.objs) w.variables s.vars place v t i.vars e p; objs = i.objs }

  -- a new object
  pub object_added : (s : Stores) (w : SourceWorld) (o : Object) (k : Made) → IsWorld s w → IsObject s.objs o k → IsWorld (with_object k s) (add_object o w)
  object_added s w o k i p =
      let v : Stores = with_object k s in
      let g : GrowsTo s v = grows_by_object s k in
      record {
        vars = each_map (IsValue s.objs) (IsValue v.objs) w.variables s.vars (λ a t q. value_on s v g a t q) i.vars;
        objs =
            each_add (IsObject v.objs) w.objects s.objs o k
            (each_map (IsObject s.objs) (IsObject v.objs) w.objects s.objs (λ a t q. object_on s v g a t q) i.objs) (object_on s v g o k p);
      }

  pub new_object_there : (s : Stores) (w : SourceWorld) (k : Made) → IsWorld s w → slice_get (with_object k s).objs (length w.objects) ≡ Some k
  new_object_there s w k i =
      subst (λ x. slice_get (s.objs ++ k ∷ []) x ≡ Some k) (sym (each_length (IsObject s.objs) w.objects s.objs i.objs)) (get_last s.objs k)

  -- a store to an object
  pub object_put : (s : Stores) (w : SourceWorld) (r : ℕ) (o : Object) (k : Made) → IsWorld s w → slice_get s.objs r ≡ Some k → IsObject s.objs o k →
      IsWorld s (put_object r o w)
  object_put s w r o k i e p = record { vars = i.vars; objs = each_set (IsObject s.objs) w.objects s.objs r o k i.objs e p }

module _ (shapes : List (ℕ × Shape)) (notes : List Note) where
  -- what the entries of an environment stand for, by the bindings of a scope
  pub data Sees (vars : List Ty) : List Entry → List (ℕ × Binding) → Type 0 where
    sees_nothing : Sees vars [] []
    sees_variable : {x level place at : ℕ} {t : Ty} {loop : Bool} {es : List Entry} {bs : List (ℕ × Binding)} → slice_get vars place ≡ Some t →
        Sees vars es bs → Sees vars (variable x level place ∷ es) ((x, variable_at at t loop) ∷ bs)
    sees_group : {level : ℕ} {fs : FunDecs} {es : List Entry} (ss : List Signature) (scope : Scope) → Apart fs →
        HasBodies shapes notes fs ss (in_no_loop (with_functions fs ss scope)) → Sees vars es scope.bindings →
        Sees vars (group level fs ∷ es) (with_functions fs ss scope).bindings
    sees_standard : {x : ℕ} {f : _} {es : List Entry} {bs : List (ℕ × Binding)} → Sees vars es bs → Sees vars (standard x f ∷ es) ((x, standard_one f) ∷ bs)

  pub sees_on : (v w : Stores) (es : List Entry) (bs : List (ℕ × Binding)) → GrowsTo v w → Sees v.vars es bs → Sees w.vars es bs
  sees_on v w _ _ g sees_nothing = sees_nothing
  sees_on v w _ _ g (sees_variable {x} {level} {place} {at} {t} {loop} {es} {bs} e s) = sees_variable (g.vars place t e) (sees_on v w es bs g s)
  sees_on v w _ _ g (sees_group {level} {fs} {es} ss scope a h s) = sees_group ss scope a h (sees_on v w es scope.bindings g s)
  sees_on v w _ _ g (sees_standard {x} {f} {es} {bs} s) = sees_standard (sees_on v w es bs g s)

  -- a function of a group with its types
  pub record IsTyped (f : SourceFunction) (s : Signature) (scope : Scope) : Type 0 where
    pub body_type : Ty
    pub counts : length f.params ≡ length s.params
    pub body : Has shapes notes f.body (with_params f.params s.params scope) body_type
    pub fits : Fits body_type s.result

  pub data Means (vars : List Ty) : Bound → Binding → Type 0 where
    means_variable : {level place at : ℕ} {t : Ty} {loop : Bool} → slice_get vars place ≡ Some t →
        Means vars (to_variable level place) (variable_at at t loop)
    means_function : {level at : ℕ} {f : SourceFunction} {seen : List Entry} {s : Signature} (scope : Scope) → IsTyped f s (in_no_loop scope) →
        Sees vars seen scope.bindings → Means vars (to_function level f seen) (function_at at s)
    means_standard : {f : _} → Means vars (to_standard f) (standard_one f)

  pub means_on : (v w : Stores) (d : Bound) (b : Binding) → GrowsTo v w → Means v.vars d b → Means w.vars d b
  means_on v w _ _ g (means_variable {level} {place} {at} {t} {loop} e) = means_variable (g.vars place t e)
  means_on v w _ _ g (means_function {level} {at} {f} {seen} {s} scope h e) = means_function scope h (sees_on v w seen scope.bindings g e)
  means_on v w _ _ g means_standard = means_standard

  -- a name is one of a group's functions, or stands for the same beyond it
  pub data InGroup (x : ℕ) (fs : FunDecs) (beyond : List (ℕ × Binding)) (inner : Scope) (b : Binding) : Type 0 where
    there : (f : SourceFunction) (s : Signature) (at : ℕ) → function_named x fs ≡ Some f → b ≡ function_at at s → IsTyped f s inner → InGroup x fs beyond inner b
    not_there : function_named x fs ≡ None → looked_up x beyond ≡ Some b → InGroup x fs beyond inner b

  in_group : (x : ℕ) (fs : FunDecs) (ss : List Signature) (scope inner : Scope) (b : Binding) → Apart fs → HasBodies shapes notes fs ss inner →
      looked_up x (with_functions fs ss scope).bindings ≡ Some b → InGroup x fs scope.bindings inner b
  in_group x _ _ scope inner b a end_bodies e = not_there refl e
  in_group x (function f ps r body rest) _ scope inner b a (a_body {s = s} {ss = ss} u l v back h fit hs) e =
      later (in_group x rest ss (binding f (function_at (at_of f) s) scope) inner b a.1 hs e)
    where
      here : (c : Bool) → (name_of f == x) ≡ c → function_named x rest ≡ None →
          (if c then Some (function_at (at_of f) s) else looked_up x scope.bindings) ≡ Some b → (o : Option SourceFunction) →
          o ≡ (if c then Some (record { params = ps; body = body }) else function_named x rest) → function_named x (function f ps r body rest) ≡ o →
          InGroup x (function f ps r body rest) scope.bindings inner b
      here true is n e o eo fo =
          there (record { params = ps; body = body }) s (at_of f) (fo ∙ eo) (let k : b ≡ function_at (at_of f) s = cc in k)
          (record { body_type = u; counts = l; body = h; fits = fit })
      here false is n e o eo fo = not_there (fo ∙ eo ∙ n) e

      not_here : (c : Bool) → (name_of f == x) ≡ c → (g : SourceFunction) → function_named x rest ≡ Some g →
          (if c then Some (record { params = ps; body = body }) else function_named x rest) ≡ Some g
      not_here true is g e' =
          let same : name_of f ≡ x = eqb-true (name_of f) x is in
          let none : function_named x rest ≡ None = subst (λ y. function_named y rest ≡ None) same a.0 in
          let no : None ≡ Some g = sym none ∙ e' in absurd (cc)
      not_here false is g e' = e'

      later : InGroup x rest (binding f (function_at (at_of f) s) scope).bindings inner b → InGroup x (function f ps r body rest) scope.bindings inner b
      later (there g s' at e' k t) = there g s' at (not_here (name_of f == x) refl g e') k t
      later (not_there n e') =
          here (name_of f == x) refl n e' (if name_of f == x then Some (record { params = ps; body = body }) else function_named x rest) refl refl

  -- what a name that the scope knows stands for
  abbrev pub Stands : List Ty → ℕ → List Entry → Binding → Type 0
  Stands vars x es b = (d : Bound) × (find x es ≡ Some d) × Means vars d b

  variable_first : (vars : List Ty) (x level place at : ℕ) (t : Ty) (loop : Bool) (es : List Entry) (bs : List (ℕ × Binding)) (b : Binding) (c : Bool) →
      slice_get vars place ≡ Some t → (looked_up x bs ≡ Some b → Stands vars x es b) → (if c then Some (variable_at at t loop) else looked_up x bs) ≡ Some b →
      (d : Bound) × ((if c then Some (to_variable level place) else find x es) ≡ Some d) × Means vars d b
  variable_first vars x level place at t loop es bs b true p rest e =
      (to_variable level place, refl, let k : variable_at at t loop ≡ b = cc in subst (λ z. Means vars (to_variable level place) z) k (means_variable p))
  variable_first vars x level place at t loop es bs b false p rest e = rest e

  standard_first : (vars : List Ty) (x : ℕ) (f : _) (es : List Entry) (bs : List (ℕ × Binding)) (b : Binding) (c : Bool) →
      (looked_up x bs ≡ Some b → Stands vars x es b) → (if c then Some (standard_one f) else looked_up x bs) ≡ Some b →
      (d : Bound) × ((if c then Some (to_standard f) else find x es) ≡ Some d) × Means vars d b
  standard_first vars x f es bs b true rest e =
      (to_standard f, refl, let k : standard_one f ≡ b = cc in subst (λ z. Means vars (to_standard f) z) k means_standard)
  standard_first vars x f es bs b false rest e = rest e

  group_first : (vars : List Ty) (x level : ℕ) (fs : FunDecs) (es : List Entry) (ss : List Signature) (scope : Scope) (b : Binding) →
      Sees vars (group level fs ∷ es) (with_functions fs ss scope).bindings → (looked_up x scope.bindings ≡ Some b → Stands vars x es b) →
      InGroup x fs scope.bindings (in_no_loop (with_functions fs ss scope)) b → Stands vars x (group level fs ∷ es) b
  group_first vars x level fs es ss scope b s rest (there f sig at e' k t) = (
    to_function level f (group level fs ∷ es),
    ap (λ o. or_beyond o level (group level fs ∷ es) (find x es)) e',
    subst
        (λ z. Means vars (to_function level f (group level fs ∷ es)) z) (sym k) (means_function (with_functions fs ss scope) t s),
  )
  group_first vars x level fs es ss scope b s rest (not_there n e') =
      let p = rest e' in
      (p.0, ap (λ o. or_beyond o level (group level fs ∷ es) (find x es)) n ∙ p.1, p.2)

  pub found : (vars : List Ty) (x : ℕ) (es : List Entry) (bs : List (ℕ × Binding)) (b : Binding) → Sees vars es bs → looked_up x bs ≡ Some b →
      Stands vars x es b
  found vars x _ _ b sees_nothing e = cc
  found vars x _ _ b (sees_variable {x = y} {level = level} {place = place} {at = at} {t = t} {loop = loop} {es = es} {bs = bs} p s) e =
      variable_first vars x level place at t loop es bs b (y == x) p (λ e'. found vars x es bs b s e') e
  found vars x _ _ b (sees_standard {x = y} {f = f} {es = es} {bs = bs} s) e =
      standard_first vars x f es bs b (y == x) (λ e'. found vars x es bs b s e') e
  found vars x _ _ b (sees_group {level = level} {fs = fs} {es = es} ss scope a h s) e =
      group_first vars x level fs es ss scope b (sees_group ss scope a h s) (λ e'. found vars x es scope.bindings b s e')
      (in_group x fs ss scope (in_no_loop (with_functions fs ss scope)) b a h e)
