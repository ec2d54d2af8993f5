-- L-values: evaluation of one gives a location, and the trees an address, or a temporary of the
-- activation at work.
use Rattle.std.proofs.Common.{◌≡◌, ◌≢◌, ℕ, zero, suc, ◌+◌, ◌-◌, ◌*◌, ◌%◌, ◌^◌, ◌<◌, ◌≤◌, ◌==◌, List, [], ◌∷◌, Option, Some, None, Bool, true, false, refl, sym, ap, ◌∙◌}
use Rattle.std.proofs.Common.{arith, subst, inl, inr}
use Rattle.std.specs.Prelude.{slice_get, length, ◌⊎◌, if◌then◌else◌}
use Rattle.tg_machine_state.specs.State.{stack_top, heap_base, most_room}
use Rattle.tg_syntax.specs.declared.tokens.Ident.{Ident}
use Rattle.tg_syntax.specs.Tree.{Exp, LValue, Simple, Field, Index, Exps, Decs}
use Rattle.tg_syntax.specs.OfWords.{PlaceOfWords}
use Rattle.tg_symbols.specs.Tables.{looked_up}
use Rattle.tg_simulation.specs.Runs.{Run}
use Rattle.tg_simulation.specs.Ran.{Ran, works}
use Rattle.tg_simulation.specs.Changes.{costs}
use Rattle.tg_simulation.specs.Agreement.{Source}
use Rattle.tg_simulation.proofs.Following.{follows_along, follows_paying}
use Rattle.tg_semantics.specs.Values.{Value, nil, reference, SourceWorld, Env, Object, fields, elements}
use Rattle.tg_semantics.specs.Environments.{find, to_variable, levels_out}
use Rattle.tg_semantics.specs.Evaluation as evaluation
use Rattle.tg_semantics.specs.Evaluation.{Location, in_variable, in_field, in_element}
use Rattle.tg_semantics.specs.Passing.{Rest, Passing, passing, with_found}
use Rattle.tg_semantics.specs.MachineRuns.{rest_run}
use Rattle.tg_semantics.specs.Levels.{levels_of}
use Rattle.tg_semantics.specs.laws.Laws.{behind}
use Rattle.tg_typecheck.specs.declared.notes.Means.TheVariants as means
use Rattle.tg_typecheck.specs.Types.{Ty, Shape, record_shape, array_shape}
use Rattle.tg_typecheck.specs.Typing.{placed}
use Rattle.tg_semantics.specs.Environments.{name_of}
use Rattle.tg_typecheck.specs.Scopes.{bound, variable_at, function_at, standard_one, at_of, Binding}
use Rattle.tg_typecheck.specs.Has as has
use Rattle.tg_typecheck.specs.Has.{HasPlace, HasValues, FieldsHaveValues, ShapeHasValues, ShapesHaveValues, Says}
use Rattle.tg_frame.specs.declared.accesses.Access.{Access}
use Rattle.tg_frame.specs.declared.accesses.Access.TheVariants.{InTemp, InFrame}
use Rattle.tg_tree.specs.declared.operators.Bin.TheVariants.{Sub}
use Rattle.tg_tree.specs.Tree as tree
use Rattle.tg_tree.specs.Tree.{Tx, Temp, Const, Load, After, Stms, no_stms, stm}
use Rattle.tg_tree.specs.Units.{Trees}
use Rattle.tg_tree.specs.Shapes.{IsFlat}
use Rattle.tg_tree.specs.Sizes.{expression_length}
use Rattle.tg_tree.specs.Operators.{word, operate}
use Rattle.tg_tree.specs.FlatValue.{flat_value, onward}
use Rattle.tg_tree.specs.Memory.{load, slot}
use Rattle.tg_tree.specs.Actions.{World, Temps, Go, charged, with_word}
use Rattle.tg_translate.specs.declared.homes.Home.{Home}
use Rattle.tg_translate.specs.declared.homes.Within.{Within}
use Rattle.tg_translate.specs.mirror.States.{TranslationState, Translated, drawn, after}
use Rattle.tg_translate.specs.mirror.Wants.{is_none}
use Rattle.tg_translate.specs.mirror.Constructs.{Storage, in_temp, at_address, place_in, frame_out, slot_address, read}
use Rattle.tg_translate.specs.mirror.Scopes.{home_place, frame_at, variable_place}
use Rattle.tg_translate.specs.mirror.Purity.{place_assigns_nothing}
use Rattle.tg_translate.specs.mirror.Translate.{locate, sequence, declarations, Begun}
use Rattle.tg_correctness.specs.laws.Laws.{tree_work}
use Rattle.tg_translate_proof.specs.glue.Tables.{Table, Later, HasFound}
use Rattle.tg_translate_proof.specs.glue.Covered.{CoversPlace, CoversName, LinksLead}
use Rattle.tg_translate_proof.specs.glue.Worlds.{Holdings, Stands, GrowsTo, record_of, array_of, Key, cell, temporary, Content, nowhere, variable, kept, Places}
use Rattle.tg_translate_proof.specs.glue.Worlds.{IsOf, AllTemps, word_of, HoldsVariable, HoldsAt, IsLaid}
use Rattle.tg_translate_proof.specs.glue.Situations.{Program, Part, Setting, Holds, IsReady, IsNear, key_of, Extends, with_temps, floor, value_runs}
use Rattle.tg_translate_proof.specs.glue.Situations.{statements_run}
use Rattle.tg_translate_proof.specs.glue.Shown.{FollowsHere, Outward, left_over}
use Rattle.tg_translate_proof.proofs.state.TranslationStates.{made_in, state_in, later_none}
use Rattle.tg_translate_proof.proofs.invariant.Cases.{worked, grows_none}
use Rattle.tg_translate_proof.proofs.invariant.Parts.{more, paid, extends_none}
use Rattle.tg_translate_proof.proofs.state.Keys.{held_word, own_temps, of_is_used, some_same}
use Rattle.tg_translate_proof.proofs.state.StaticLinks.{Links, slot_word, frame_is, frame_is_flat, frame_length, flat_follows, links_are}

-- A location that has an address: a variable in a slot, a field of a record, an element of an array.
pub data IsAt (P : Program) (places : Places) (h : Holdings) (types : List Ty) : Location → Ty → ℕ → Type 0 where
  a_slot :
      (place u : ℕ) (t : Ty) → IsOf place (places (cell u)) → slice_get types place ≡ Some t →
      IsAt P places h types (in_variable place) t u
  a_field :
      (r name at a k : ℕ) (t : Ty) (fs : _) → slice_get h.objects r ≡ Some (a, record_of at) →
      looked_up at P.shapes ≡ Some (record_shape fs) → placed name 0 fs ≡ Some (k, t) →
      IsAt P places h types (in_field r name) t (a + 4 * k)
  an_element :
      (r i at a count : ℕ) (t : Ty) → slice_get h.objects r ≡ Some (a, array_of at count) →
      looked_up at P.shapes ≡ Some (array_shape t) → i < count →
      IsAt P places h types (in_element r i) t (a + 4 + 4 * i)

-- it stays where holdings grow
pub is_at_grows : (P : Program) (places : Places) (h g : Holdings) (types ms : List Ty) (l : Location) (t : Ty) (u : ℕ) → GrowsTo h g → Extends types ms →
    IsAt P places h types l t u → IsAt P places g ms l t u
is_at_grows P places h g types ms _ _ _ grow ext (a_slot place u t is_of type_is) = a_slot place u t is_of (ext place t type_is)
is_at_grows P places h g types ms _ _ _ grow ext (a_field r name at a k t fs has shape field) = a_field r name at a k t fs (grow.objects r _ has) shape field
is_at_grows P places h g types ms _ _ _ grow ext (an_element r i at a count t has shape lt) = an_element r i at a count t (grow.objects r _ has) shape lt

-- What a name that is bound to a variable stands for where it is used.
pub record SeenVariable (P : Program) (p : Part) (types : List Ty) (name at : ℕ) (t : Ty) : Type 0 where
  pub level : ℕ
  pub place : ℕ
  pub home : Home
  pub found : find name p.env.entries ≡ Some (to_variable level place)
  pub around : level ≤ p.scene.level
  pub tabled : looked_up at P.table.homes ≡ Some home
  pub home_level : home.level ≡ level
  pub near : IsNear p.scene level home.access
  pub stands : IsOf place (p.places (key_of p.scene level home.access))
  pub type_is : slice_get types place ≡ Some t
  pub has_values : HasValues t
  pub leads : LinksLead p.scene.keeps p.scene.level level

-- What the lemmas on places need of others: uses of variables, cells that are never kept, objects
-- below the end of the heap that is taken.
pub record Premises (P : Program) : Type 0 where
  pub sees :
      (p : Part) (types : List Ty) (σ τ : TranslationState) (v : Ident) (at : ℕ) (t : Ty) (loop : Bool) → IsReady P p types σ τ →
      CoversName P.findings P.table P.weight p.scene.level p.scene.keeps v → bound v p.scope ≡ Some (variable_at at t loop) →
      Says P.notes (at_of v) (means.Variable at) → SeenVariable P p types (name_of v) at t
  pub cells_are_plain :
      (p : Part) (h : Holdings) (types : List Ty) (s : SourceWorld) (w : World) (t : Temps) → Holds P p h types s w t →
      (a l u : ℕ) → p.places (cell a) ≢ kept l u
  pub objects_are_below :
      (p : Part) (h : Holdings) (types : List Ty) (s : SourceWorld) (w : World) (t : Temps) → Holds P p h types s w t →
      (r : ℕ) (o : _) → slice_get h.objects r ≡ Some o → o.0 < heap_base + length w.memory.heap
  -- there are values of each field and element
  pub shapes_have_values : ShapesHaveValues P.shapes
  -- states of a translation only grow
  pub place_grows : (v : LValue) (within : Within) (place : Storage) (s t : TranslationState) → locate P.findings v within s ≡ drawn place t → Later s t

-- nothing of the activation at work is kept while an l-value is evaluated, or it assigns nothing
abbrev pub PlaceMayAssign : Part → LValue → Type 0
PlaceMayAssign p v =
    (place_assigns_nothing v ≡ true) ⊎ ((i place u : ℕ) → p.places (temporary p.scene.depth i) ≢ kept place u)

home_first : (b : Bool) (x at : ℕ) (t : Ty) (loop : Bool) (one : Binding) (bs : List (ℕ × Binding)) (P : Type 0) → (one ≡ variable_at at t loop → P) →
    (looked_up x bs ≡ Some (variable_at at t loop) → P) →
    (if b then Some one else looked_up x bs) ≡ Some (variable_at at t loop) → P
home_first true x at t loop one bs P f g e = f (some_same one (variable_at at t loop) e)
home_first false x at t loop one bs P f g e = g e

abbrev at_in : Binding → ℕ
at_in (variable_at at t loop) = at
at_in (function_at at s) = at
at_in (standard_one f) = 0

abbrev is_variable : Binding → Bool
is_variable (variable_at at t loop) = true
is_variable _ = false

-- a home that a state has found is the table's
pub found_home : (table : Table) (s : TranslationState) (bs : List (ℕ × Binding)) (x at : ℕ) (t : Ty) (loop : Bool) → HasFound table s bs →
    looked_up x bs ≡ Some (variable_at at t loop) →
    looked_up at s.homes ≡ looked_up at table.homes
found_home table s [] x at t loop f e = cc
found_home table s ((y, variable_at a u l) ∷ bs) x at t loop f e =
    home_first (y == x) x at t loop (variable_at a u l) bs (looked_up at s.homes ≡ looked_up at table.homes)
    (λ g. subst (λ o. looked_up o s.homes ≡ looked_up o table.homes) (ap at_in g) f.0) (λ g. found_home table s bs x at t loop f.1 g) e
found_home table s ((y, function_at a sig) ∷ bs) x at t loop f e =
    home_first (y == x) x at t loop (function_at a sig) bs (looked_up at s.homes ≡ looked_up at table.homes) (λ g. let k = ap is_variable g in cc) (λ g. found_home table s bs x at t loop f.1 g) e
found_home table s ((y, standard_one one) ∷ bs) x at t loop f e =
    home_first (y == x) x at t loop (standard_one one) bs (looked_up at s.homes ≡ looked_up at table.homes) (λ g. let k = ap is_variable g in cc) (λ g. found_home table s bs x at t loop f g) e

module _ (P : Program) where
  -- evaluation of an l-value, with what comes next
  abbrev pub locates : LValue → Env → (Location → Rest) → (out : Rest) → Rest
  locates v env go out = evaluation.locate Passing (passing P.heap P.stack) (behind P.heap P.stack) v env go out

  abbrev pub reads : Location → (Value → Rest) → (out : Rest) → Rest
  reads l go out = evaluation.read_location Passing (passing P.heap P.stack) l go out

  abbrev pub writes_to : Location → Value → (Unit {0} → Rest) → (out : Rest) → Rest
  writes_to l v go out = evaluation.write_location Passing (passing P.heap P.stack) l v go out

  -- an l-value where it stands
  pub record PlaceSituation (n : ℕ) (v : LValue) : Type 0 where
    pub ty : Ty
    pub p : Part
    pub σ : TranslationState  -- before its translation
    pub τ : TranslationState  -- after it
    pub storage : Storage  -- what it is made
    pub h : Holdings
    pub types : List Ty
    pub r : ℕ  -- units that are left from before
    pub go : Location → Rest  -- what comes next in the source
    pub out : Rest
    pub s : SourceWorld
    pub w : World
    pub t : Temps
    pub typed : HasPlace P.shapes P.notes v p.scope ty
    pub words : PlaceOfWords v
    pub covers : CoversPlace P.findings P.table P.weight p.scene.level p.scene.keeps (levels_of p.env.entries) v
    pub may_assign : PlaceMayAssign p v
    pub ready : IsReady P p types σ τ
    pub is_made : locate P.findings v p.within σ ≡ drawn storage τ
    pub outward : Outward P n (r + left_over) p h types out
    pub holds : Holds P p h types s w t

  -- what comes next on both sides, where a location stands at an address
  abbrev pub PlaceOnward : (n r : ℕ) → Part → Holdings → List Ty → Ty → (Location → Rest) → Go ℕ → Type 0
  PlaceOnward n r p h types ty go go' =
      (g : Holdings) (ms : List Ty) (l : Location) (u : ℕ) (s : SourceWorld) (w : World) (t : Temps) → GrowsTo h g → Extends types ms → Holds P p g ms s w t →
      IsAt P p.places g ms l ty u → FollowsHere P r n (rest_run (go l) s) (go' u w t)

  -- an address has this word
  abbrev pub AddressIs : Part → World → Temps → Tx → ℕ → Type 0
  AddressIs p w t a u = flat_value P.code.literals p.around.activation.base w.memory t a ≡ word u

  -- the same, where what comes next may count on the address
  abbrev pub ToldOnward : (n r : ℕ) → Part → Holdings → List Ty → Ty → Tx → (Location → Rest) → Go ℕ → Type 0
  ToldOnward n r p h types ty a go go' =
      (g : Holdings) (ms : List Ty) (l : Location) (u : ℕ) (s : SourceWorld) (w : World) (t : Temps) → GrowsTo h g → Extends types ms → Holds P p g ms s w t →
      IsAt P p.places g ms l ty u → AddressIs p w t a u → FollowsHere P r n (rest_run (go l) s) (go' u w t)

  -- what follows of an address after checks, where what comes next may count on it
  abbrev pub ToldFollows : (n r : ℕ) → Part → Holdings → List Ty → Ty → (Location → Rest) → Run Source → World → Temps → Stms → Tx → Type 0
  ToldFollows n r p h types ty go source w t before a =
      (j : ℕ) (go' : Go ℕ) → ToldOnward n (r + left_over) p h types ty a go go' →
      FollowsHere P (r + j) n source (statements_run P p before p.around (λ w1 t1. charged j (value_runs P p a p.around go' w1 t1)) w t)

  -- a variable in a temporary of this activation, which evaluation does nothing but find
  pub record IsOwn (n r : ℕ) (p : Part) (types : List Ty) (ty : Ty) (go : Location → Rest) (source : Run Source) (s : SourceWorld) (i : ℕ) : Type 0 where
    pub place : ℕ
    pub is_of : IsOf place (p.places (temporary p.scene.depth i))
    pub type_is : slice_get types place ≡ Some ty
    pub has_values : HasValues ty
    pub pays : (d : Run Ran) → FollowsHere P (r + 256) n (rest_run (go (in_variable place)) s) d → FollowsHere P r n source d

  -- What follows of an l-value's storage: where it has an address, this comes after its checks, and
  -- after so many units as a load or a store charges first.
  abbrev pub StorageFollows : (n r : ℕ) → Part → Holdings → List Ty → Ty → (Location → Rest) → Run Source → SourceWorld → World → Temps → Storage → Type 0
  StorageFollows n r p h types ty go source s w t (in_temp i) = IsOwn n r p types ty go source s i
  StorageFollows n r p h types ty go source s w t (at_address before a) =
      (j : ℕ) (go' : Go ℕ) → PlaceOnward n (r + left_over) p h types ty go go' →
      FollowsHere P (r + j) n source (statements_run P p before p.around (λ w1 t1. charged j (value_runs P p a p.around go' w1 t1)) w t)

  pub untold : (n r : ℕ) (p : Part) (h : Holdings) (types : List Ty) (ty : Ty) (go : Location → Rest) (source : Run Source) (s : SourceWorld) (w : World) (t : Temps)
      (before : Stms) (a : Tx) → ToldFollows n r p h types ty go source w t before a → StorageFollows n r p h types ty go source s w t (at_address before a)
  untold n r p h types ty go source s w t before a f j go' onward =
      f j go' (λ g ms l u s1 w1 t1 gg ee hh at is. onward g ms l u s1 w1 t1 gg ee hh at)

  abbrev pub place_source : (n : ℕ) (v : LValue) → PlaceSituation n v → Run Source
  place_source n v x = rest_run (locates v x.p.env x.go x.out) x.s

  abbrev pub PlaceShown : (n : ℕ) → LValue → Type 0
  PlaceShown n v = (x : PlaceSituation n v) → StorageFollows n x.r x.p x.h x.types x.ty x.go (place_source n v x) x.s x.w x.t x.storage

  pub by_storage : (n : ℕ) (v : LValue) (x : PlaceSituation n v) (storage : Storage) (s : TranslationState) → drawn storage s ≡ drawn x.storage x.τ →
      StorageFollows n x.r x.p x.h x.types x.ty x.go (place_source n v x) x.s x.w x.t storage →
      StorageFollows n x.r x.p x.h x.types x.ty x.go (place_source n v x) x.s x.w x.t x.storage
  by_storage n v x storage s e f =
      subst (λ o. StorageFollows n x.r x.p x.h x.types x.ty x.go (place_source n v x) x.s x.w x.t o) (ap made_in e) f

  -- There are values of an l-value's type.

  field_values : (name : ℕ) (fs : List (ℕ × Ty)) (t : Ty) → FieldsHaveValues fs → looked_up name fs ≡ Some t → HasValues t
  field_values name [] t all e = cc
  field_values name (one ∷ rest) t all e = by (one.0 == name) (λ g. field_values name rest t all.1 g) e
    where
      by : (b : Bool) → (looked_up name rest ≡ Some t → HasValues t) → (if b then Some one.1 else looked_up name rest) ≡ Some t → HasValues t
      by true k g = subst (λ o. HasValues o) (some_same one.1 t g) all.0
      by false k g = k g

  shape_values : (at : ℕ) (shapes : List (ℕ × Shape)) (one : Shape) → ShapesHaveValues shapes → looked_up at shapes ≡ Some one → ShapeHasValues one
  shape_values at [] one all e = cc
  shape_values at (first ∷ rest) one all e = by (first.0 == at) (λ g. shape_values at rest one all.1 g) e
    where
      by : (b : Bool) → (looked_up at rest ≡ Some one → ShapeHasValues one) → (if b then Some first.1 else looked_up at rest) ≡ Some one → ShapeHasValues one
      by true k g = subst (λ o. ShapeHasValues o) (some_same first.1 one g) all.0
      by false k g = k g

  pub place_has_values : Premises P → (p : Part) (types : List Ty) (σ τ : TranslationState) (v : LValue) (t : Ty) → IsReady P p types σ τ →
      CoversPlace P.findings P.table P.weight p.scene.level p.scene.keeps (levels_of p.env.entries) v → HasPlace P.shapes P.notes v p.scope t → HasValues t
  place_has_values premises p types σ τ (Simple x) t ready covers (has.simple at loop e says) =
      (premises.sees p types σ τ x at t loop ready covers e says).has_values
  place_has_values premises p types σ τ (Field v f) t ready covers (has.field at fs k _ shape is _ _) =
      field_values (name_of f) fs t (shape_values at P.shapes (record_shape fs) premises.shapes_have_values shape) is
  place_has_values premises p types σ τ (Index v e) t ready covers (has.index at _ shape _) =
      shape_values at P.shapes (array_shape t) premises.shapes_have_values shape

  -- A variable that is used by its name.

  pub record NameTyped (v : Ident) (p : Part) (t : Ty) : Type 0 where
    pub at : ℕ
    pub loop : Bool
    pub is_bound : bound v p.scope ≡ Some (variable_at at t loop)
    pub says : Says P.notes (at_of v) (means.Variable at)

  pub name_typed : (v : Ident) (p : Part) (t : Ty) → HasPlace P.shapes P.notes (Simple v) p.scope t → NameTyped v p t
  name_typed v p t (has.simple at loop e says) = record { at = at; loop = loop; is_bound = e; says = says }

  lowest : (base k : ℕ) → stack_top - P.stack ≤ slot base k → P.stack ≤ most_room → 4 * (k + 1) ≤ base
  lowest base k a b = omega (arith, a, b)

  -- the address of a slot, so many levels outwards
  pub slot_is : (set : Setting P) (p : Part) (h : Holdings) (types : List Ty) (s : SourceWorld) (w : World) (t : Temps) (σ τ : TranslationState) (level k : ℕ) →
      IsReady P p types σ τ → Holds P p h types s w t → level ≤ p.scene.level → LinksLead p.scene.keeps p.scene.level level →
      p.places (cell (slot (p.scene.chain level) k)) ≢ nowhere →
      flat_value P.code.literals p.around.activation.base w.memory t (slot_address (frame_at p.within level) k) ≡ word (slot (p.scene.chain level) k)
  slot_is set p h types s w t σ τ level k ready hh le leads used =
      let n : ℕ = p.within.level - level in
      let links = links_are P p h types s w t level ready.scene ready.activation hh leads in
      let far : n ≤ p.scene.level = omega (arith, ap (λ o. o - level) ready.level) in
      let back : p.scene.level - n ≡ level = let e = ready.level in omega (arith, e, le) in
      let frame : flat_value P.code.literals p.around.activation.base w.memory t (frame_out p.within.link_in_slot n) ≡ word (p.scene.chain level) =
      frame_is P.code.literals w.memory t p.around.activation.base p.scene.level level p.scene.chain p.within.link_in_slot
      (subst (λ b. Links w.memory t p.around.activation.base p.scene.level level b p.scene.chain) (sym ready.links) links) n far (omega (arith, back)) ∙ ap (λ o. word (p.scene.chain o)) back in
      let up = hh.invariant.above (slot (p.scene.chain level) k) used in
      let high = ready.scene.high level le in
      ap (λ g. onward g (λ u. onward (word (4 * (k + 1))) (λ v. operate Sub u v))) frame ∙
      ap word (slot_word (p.scene.chain level) k (lowest (p.scene.chain level) k up.0 set.stack_small) (omega (arith, high)))

  pub slot_flat : (p : Part) (level k : ℕ) → IsFlat (slot_address (frame_at p.within level) k)
  slot_flat p level k = (frame_is_flat p.within.link_in_slot (p.within.level - level), tt)

  pub slot_length : (p : Part) (level k : ℕ) → expression_length Trees (slot_address (frame_at p.within level) k) ≤ 4 * (p.within.level - level) + 8
  slot_length p level k = let x = frame_length p.within.link_in_slot (p.within.level - level) in omega (arith, x)

  module _ (set : Setting P) (premises : Premises P) (n : ℕ) (v : Ident) (x : PlaceSituation n (Simple v)) where
    abbrev pub typed_ : NameTyped v x.p x.ty
    typed_ = name_typed v x.p x.ty x.typed

    abbrev pub seen : SeenVariable P x.p x.types (name_of v) typed_.at x.ty
    seen = premises.sees x.p x.types x.σ x.τ v typed_.at x.ty typed_.loop x.ready x.covers typed_.is_bound typed_.says

    -- where it stands, by the translation
    pub is_place : drawn (place_in (frame_at x.p.within seen.home.level) seen.home.access) x.σ ≡ drawn x.storage x.τ
    is_place =
        let home_is : looked_up typed_.at x.σ.homes ≡ Some seen.home =
        found_home P.table x.σ x.p.scope.bindings (name_of v) typed_.at x.ty typed_.loop x.ready.found typed_.is_bound ∙ seen.tabled in
        sym (ap (λ o. drawn (home_place x.p.within o) x.σ) home_is) ∙
        (sym (ap (λ o. variable_place x.p.within o x.σ) (set.found (at_of v) (means.Variable typed_.at) typed_.says)) ∙ x.is_made)

    -- evaluation pays for the levels that it goes over, whatever they are
    source_goes : (i : ℕ) → place_source n (Simple v) x i ≡ costs 1 (costs (x.p.env.level - seen.level) (rest_run (x.go (in_variable seen.place)) x.s i))
    source_goes i =
        ap (λ o. costs 1 (rest_run (with_found o
        (λ b w2 k. costs (levels_out x.p.env.level b) (evaluation.locate_variable Passing (passing P.heap P.stack) b x.go x.out w2 k))) x.s i)) seen.found

    pub source_paid : (k q : ℕ) (d : Run Ran) → k ≤ q + 256 + 256 * (x.p.env.level - seen.level) → FollowsHere P k n (rest_run (x.go (in_variable seen.place)) x.s) d →
        FollowsHere P q n (place_source n (Simple v) x) d
    source_paid k q d le f =
        follows_along P.stack tree_work q n (λ i. costs 1 (costs (x.p.env.level - seen.level) (rest_run (x.go (in_variable seen.place)) x.s i))) (place_source n (Simple v) x) d d
        source_goes (λ i. refl)
        (paid P q n _ d
        (follows_paying P.stack tree_work (q + 256) n (x.p.env.level - seen.level) (rest_run (x.go (in_variable seen.place)) x.s) d
        (more P k (q + 256 + tree_work * (x.p.env.level - seen.level)) n (rest_run (x.go (in_variable seen.place)) x.s) d le f)))

    in_a_temporary : (i : ℕ) → seen.home.access ≡ InTemp (record { 0 = i }) → IsOwn n x.r x.p x.types x.ty x.go (place_source n (Simple v) x) x.s i
    in_a_temporary i e = record {
      place = seen.place;
      is_of = subst (λ o. IsOf seen.place (x.p.places (key_of x.p.scene seen.level o))) e seen.stands;
      type_is = seen.type_is;
      has_values = seen.has_values;
      pays = λ d f. source_paid (x.r + 256) x.r d (omega arith) f;
    }

    in_a_slot : (k : ℕ) → seen.home.access ≡ InFrame k →
        StorageFollows n x.r x.p x.h x.types x.ty x.go (place_source n (Simple v) x) x.s x.w x.t (at_address no_stms (slot_address (frame_at x.p.within seen.home.level) k))
    in_a_slot k e j go' onward_ =
        let address : Tx = slot_address (frame_at x.p.within seen.home.level) k in
        let u : ℕ = slot (x.p.scene.chain seen.level) k in
        let stands : IsOf seen.place (x.p.places (cell u)) = subst (λ o. IsOf seen.place (x.p.places (key_of x.p.scene seen.level o))) e seen.stands in
        let here : flat_value P.code.literals x.p.around.activation.base x.w.memory x.t address ≡ word u =
        ap (λ o. flat_value P.code.literals x.p.around.activation.base x.w.memory x.t (slot_address (frame_at x.p.within o) k)) seen.home_level ∙
        slot_is set x.p x.h x.types x.s x.w x.t x.σ x.τ seen.level k x.ready x.holds seen.around seen.leads (of_is_used seen.place (x.p.places (cell u)) stands) in
        let short = slot_length x.p seen.home.level k in
        let levels : x.p.within.level - seen.home.level ≡ x.p.env.level - seen.level = ap (λ o. o - seen.home.level) (x.ready.level ∙ sym x.ready.same_level) ∙ ap (λ o. x.p.env.level - o) seen.home_level in
        source_paid (x.r + j + 256 + 256 * (x.p.env.level - seen.level)) (x.r + j) _ (omega arith)
        (worked P (x.r + 256 + 256 * (x.p.env.level - seen.level)) (x.r + j + 256 + 256 * (x.p.env.level - seen.level)) j n _ _ (omega arith)
        (flat_follows P x.p address u (x.r + left_over) (x.r + 256 + 256 * (x.p.env.level - seen.level)) n go' x.w x.t (rest_run (x.go (in_variable seen.place)) x.s)
        (slot_flat x.p seen.home.level k) here (omega (arith, short, levels))
        (onward_ x.h x.types (in_variable seen.place) u x.s x.w x.t (grows_none x.h) (extends_none x.types) x.holds (a_slot seen.place u x.ty stands seen.type_is))))

    pub name_shown : StorageFollows n x.r x.p x.h x.types x.ty x.go (place_source n (Simple v) x) x.s x.w x.t x.storage
    name_shown = by seen.home.access refl
      where
        by : (access : Access) → seen.home.access ≡ access → StorageFollows n x.r x.p x.h x.types x.ty x.go (place_source n (Simple v) x) x.s x.w x.t x.storage
        by (InTemp i) e =
            by_storage n (Simple v) x (in_temp i.0) x.σ (sym (ap (λ o. drawn (place_in (frame_at x.p.within seen.home.level) o) x.σ) e) ∙ is_place) (in_a_temporary i.0 e)
        by (InFrame k) e =
            by_storage n (Simple v) x (at_address no_stms (slot_address (frame_at x.p.within seen.home.level) k)) x.σ
            (sym (ap (λ o. drawn (place_in (frame_at x.p.within seen.home.level) o) x.σ) e) ∙ is_place) (in_a_slot k e)
