-- Assignments whose value begins with a read of the place that is assigned. Where nothing of the place
-- has to be kept, as for a variable of the activation at work, the translation is the plain one. Else
-- the place is found again: evaluation comes to the location that was found before.
use Rattle.std.proofs.Common.{◌≡◌, ℕ, ◌+◌, ◌-◌, ◌*◌, ◌==◌, List, Option, Some, None, Bool, true, false, refl, sym, ap, ◌∙◌, arith, subst, eqb-true, eq-eqb}
use Rattle.std.specs.Prelude.{slice_get, ◌⊎◌, ◌&&◌, if◌then◌else◌}
use Rattle.tg_base.specs.declared.ids.Span.{Span}
use Rattle.tg_syntax.specs.declared.tokens.Ident.{Ident}
use Rattle.tg_syntax.specs.Tree.{Exp, Nil, Break, Int, Text, Read, Call, Neg, Binary, Make, Fill, Assign, If, When, While, For, Let, Seq, LValue, Simple, Field, Index}
use Rattle.tg_simulation.specs.Runs.{Run}
use Rattle.tg_simulation.specs.Ran.{Ran}
use Rattle.tg_simulation.specs.Outcomes.{stuck}
use Rattle.tg_simulation.specs.Changes.{costs}
use Rattle.tg_simulation.specs.Agreement.{Source}
use Rattle.tg_simulation.proofs.Following.{follows_along, follows_stuck, follows_paying}
use Rattle.tg_semantics.specs.Values.{Value, SourceWorld, Env}
use Rattle.tg_semantics.specs.Evaluation.{Location, in_variable, in_field, in_element}
use Rattle.tg_semantics.specs.Passing.{Rest, Passing, ends}
use Rattle.tg_semantics.specs.MachineRuns.{rest_run, as_source}
use Rattle.tg_typecheck.specs.declared.notes.Means.{Means}
use Rattle.tg_typecheck.specs.declared.notes.Means.TheVariants as means
use Rattle.tg_typecheck.specs.Types.{Ty}
use Rattle.tg_semantics.specs.Environments.{name_of}
use Rattle.tg_typecheck.specs.Scopes.{at_of}
use Rattle.tg_typecheck.specs.Has as has
use Rattle.tg_typecheck.specs.Has.{Has, HasPlace, HasValues}
use Rattle.tg_frame.specs.declared.accesses.Access.{Access}
use Rattle.tg_frame.specs.declared.accesses.Access.TheVariants.{InTemp, InFrame}
use Rattle.tg_tree.specs.declared.operators.Bin.TheVariants.{Sub}
use Rattle.tg_tree.specs.declared.operators.Bin.{Bin}
use Rattle.tg_tree.specs.Tree as tree
use Rattle.tg_tree.specs.Tree.{Const, FrameAddress, Stms, no_stms, stm}
use Rattle.tg_tree.specs.Actions.{World, Temps, Go, charged}
use Rattle.tg_translate.specs.declared.wants.Want.{Want}
use Rattle.tg_translate.specs.declared.homes.Within.{Within}
use Rattle.tg_translate.specs.mirror.States.{TranslationState, Translates, drawn, after}
use Rattle.tg_translate.specs.mirror.Wants.{Made, value, done}
use Rattle.tg_translate.specs.mirror.Constructs.{Storage, in_temp, at_address, place_in, frame_out, slot_address, read}
use Rattle.tg_translate.specs.mirror.Constructs as tg_constructs
use Rattle.tg_translate.specs.mirror.Scopes.{Findings, home_place, frame_at, variable_place}
use Rattle.tg_translate.specs.mirror.Choices.{left_want}
use Rattle.tg_translate.specs.mirror.Purity.{assigns_nothing}
use Rattle.tg_translate.specs.mirror.Updates.{is_same_variable, is_same_place, begins_with}
use Rattle.tg_translate.specs.mirror.Translate.{expression, locate, assignment, assigned, updated, behind_read, with_left}
use Rattle.tg_correctness.specs.laws.Laws.{tree_work}
use Rattle.tg_translate_proof.specs.glue.Worlds.{Holdings, temporary, IsOf, GrowsTo}
use Rattle.tg_translate_proof.specs.glue.Situations.{Program, Part, Setting, Holds, Extends, value_runs, statements_run}
use Rattle.tg_translate_proof.specs.glue.Shown.{Situation, IsShown, FollowsHere, evaluates, left_over}
use Rattle.tg_translate_proof.proofs.state.TranslationStates.{made_in, state_in, after_inv}
use Rattle.tg_translate_proof.proofs.expressions.LValueAddress.{Premises, SeenVariable, NameTyped, name_typed, found_home, IsAt, PlaceSituation, PlaceShown}
use Rattle.tg_translate_proof.proofs.expressions.LValueAddress.{StorageFollows, place_source, locates, reads}
use Rattle.tg_translate_proof.proofs.invariant.Parts.{more, paid}
use Rattle.tg_translate_proof.proofs.state.Keys.{some_same}
use Rattle.tg_translate_proof.proofs.expressions.BinarySides.{both_true}
use Rattle.tg_translate_proof.proofs.expressions.AssignFoundAgain.{Idle, stops, gives, costing, carried, reached, location_of, place_idle}

-- two uses that mean the same variable mean the same
same_meaning : (a b : Option Means) → is_same_variable a b ≡ true → a ≡ b
same_meaning (Some (means.Variable i)) (Some (means.Variable j)) e = ap (λ o. Some (means.Variable o)) (eqb-true i j e)
same_meaning (Some (means.Variable i)) (Some (means.Function j)) e = cc
same_meaning (Some (means.Variable i)) (Some (means.Standard j)) e = cc
same_meaning (Some (means.Variable i)) (Some (means.Field j)) e = cc
same_meaning (Some (means.Variable i)) (Some means.Content) e = cc
same_meaning (Some (means.Variable i)) (Some means.Number) e = cc
same_meaning (Some (means.Variable i)) None e = cc
same_meaning (Some (means.Function i)) b e = cc
same_meaning (Some (means.Standard i)) b e = cc
same_meaning (Some (means.Field i)) b e = cc
same_meaning (Some means.Content) b e = cc
same_meaning (Some means.Number) b e = cc
same_meaning None b e = cc

-- Storage that nothing has to be kept of: a temporary, or a slot of the frame at work.
pub data StaysHeld : Storage → Type 0 where
  a_temporary : (i : ℕ) → StaysHeld (in_temp i)
  an_own_slot : (before : Stms) (op : Bin) (n : ℕ) → before ≡ no_stms → StaysHeld (at_address before (tree.Binary op FrameAddress (Const n)))

module _ (findings : Findings) (within : Within) where
  -- a variable's place is found in any state that it was found in, and leaves it
  found_in_state : (m : Option Means) (s t : TranslationState) (storage : Storage) → variable_place within m s ≡ drawn storage t → variable_place within m t ≡ drawn storage t
  found_in_state m s t storage e = by m e
    where
      state_stays : (m : Option Means) → variable_place within m s ≡ drawn storage t → s ≡ t
      state_stays (Some (means.Variable i)) e = ap state_in e
      state_stays (Some (means.Function i)) e = ap state_in e
      state_stays (Some (means.Standard i)) e = ap state_in e
      state_stays (Some (means.Field i)) e = ap state_in e
      state_stays (Some means.Content) e = ap state_in e
      state_stays (Some means.Number) e = ap state_in e
      state_stays None e = ap state_in e

      by : (m : Option Means) → variable_place within m s ≡ drawn storage t → variable_place within m t ≡ drawn storage t
      by m e = subst (λ o. variable_place within m o ≡ drawn storage t) (state_stays m e) e

  -- After a read of a variable comes what the expression is made, where the variable is read so.
  pub behind_is : (e : Exp) (x : Ident) (storage : Storage) (s : TranslationState) (wanted : Want) → begins_with findings.meaning e (Simple x) ≡ true →
      variable_place within (findings.meaning (at_of x)) s ≡ drawn storage s → behind_read findings e (read storage) wanted within s ≡ expression findings e wanted within s
  behind_is (Read _ (Simple y)) x storage s wanted e found =
      let same_place : variable_place within (findings.meaning (at_of y)) s ≡ drawn storage s =
      ap (λ o. variable_place within o s) (sym (same_meaning (findings.meaning (at_of x)) (findings.meaning (at_of y)) e)) ∙ found in
      sym (ap (λ o. after o (λ place t. drawn (value (read place)) t)) same_place)
  behind_is (Read _ (Field v f)) x storage s wanted e found = cc
  behind_is (Read _ (Index v a)) x storage s wanted e found = cc
  behind_is (Binary _ op at a b) x storage s wanted e found =
      ap (λ o. after o (λ left. with_left op (findings.meaning at) (assigns_nothing b) wanted left (λ v. expression findings b v within)))
      (behind_is a x storage s (left_want op) e found)
  behind_is (Nil s0) x storage s wanted e found = cc
  behind_is (Break s0) x storage s wanted e found = cc
  behind_is (Int s0 k0) x storage s wanted e found = cc
  behind_is (Text s0 k0) x storage s wanted e found = cc
  behind_is (Call s0 f0 k0) x storage s wanted e found = cc
  behind_is (Neg s0 k0) x storage s wanted e found = cc
  behind_is (Make s0 f0 k0) x storage s wanted e found = cc
  behind_is (Fill s0 f0 k0 d0) x storage s wanted e found = cc
  behind_is (Assign s0 k0 d0) x storage s wanted e found = cc
  behind_is (If s0 c0 k0 d0) x storage s wanted e found = cc
  behind_is (When s0 c0 d0) x storage s wanted e found = cc
  behind_is (While s0 c0 d0) x storage s wanted e found = cc
  behind_is (For s0 f0 k0 c0 d0) x storage s wanted e found = cc
  behind_is (Let s0 k0 d0) x storage s wanted e found = cc
  behind_is (Seq s0 d0) x storage s wanted e found = cc

  -- So the assignment is made what it is made plainly.
  pub updated_is : (e : Exp) (x : Ident) (storage : Storage) (s : TranslationState) → begins_with findings.meaning e (Simple x) ≡ true →
      variable_place within (findings.meaning (at_of x)) s ≡ drawn storage s → StaysHeld storage →
      updated storage (λ r w. behind_read findings e r w within) s ≡ assigned storage (λ w. expression findings e w within) s
  updated_is e x storage s begins found (a_temporary i) =
      ap (λ o. after o (λ m. tg_constructs.assign storage m)) (behind_is e x storage s (tg_constructs.want_for storage) begins found)
  updated_is e x storage s begins found (an_own_slot before op n none) =
      by before none found
    where
      by : (before : Stms) → before ≡ no_stms → variable_place within (findings.meaning (at_of x)) s ≡ drawn (at_address before (tree.Binary op FrameAddress (Const n))) s →
          updated (at_address before (tree.Binary op FrameAddress (Const n))) (λ r w. behind_read findings e r w within) s ≡
          assigned (at_address before (tree.Binary op FrameAddress (Const n))) (λ w. expression findings e w within) s
      by no_stms none found =
          ap (λ o. after o (λ m. tg_constructs.assign (at_address no_stms (tree.Binary op FrameAddress (Const n))) m))
          (behind_is e x (at_address no_stms (tree.Binary op FrameAddress (Const n))) s (tg_constructs.want_for (at_address no_stms (tree.Binary op FrameAddress (Const n)))) begins found)
      by (stm y ys) none found = cc

module _ (P : Program) (n : ℕ) (sp : Span) (v : Ident) (e : Exp) (x : Situation P n (Assign sp (Simple v) e)) where
  abbrev E_of : Want → Translates Made
  E_of w = λ s. expression P.findings e w x.p.within s

  -- what is shown of assignments that are made plainly, by the storage of their place
  abbrev pub PlainlyShown : Type 0
  PlainlyShown =
      (storage : Storage) (s : TranslationState) → locate P.findings (Simple v) x.p.within x.σ ≡ drawn storage s →
      after (assigned storage E_of s) (λ st u. drawn (done st) u) ≡ drawn x.m x.τ → IsShown P n (Assign sp (Simple v) e) x

  -- A variable of the activation at work that is updated.
  pub variable_update_shown : PlainlyShown → begins_with P.findings.meaning e (Simple v) ≡ true →
      ((storage : Storage) (s : TranslationState) → locate P.findings (Simple v) x.p.within x.σ ≡ drawn storage s → StaysHeld storage) → IsShown P n (Assign sp (Simple v) e) x
  variable_update_shown plain begins stays =
      let i = after_inv (locate P.findings (Simple v) x.p.within x.σ) _ x.m x.τ x.is_made in
      let again = found_in_state P.findings x.p.within (P.findings.meaning (at_of v)) x.σ i.1 i.0 i.2 in
      plain i.0 i.1 i.2
      (sym (ap (λ o. after o (λ st u. drawn (done st) u)) (updated_is P.findings x.p.within e v i.0 i.1 begins again (stays i.0 i.1 i.2))) ∙
      (sym (ap (λ o. after (assignment o i.0 E_of (λ r w. behind_read P.findings e r w x.p.within) i.1) (λ st u. drawn (done st) u)) begins) ∙ i.3))

-- A variable of the activation at work stays held: it is in a temporary or in the frame at work.
module _ (P : Program) (set : Setting P) (premises : Premises P) (n : ℕ) (sp : Span) (v : Ident) (e : Exp) (x : Situation P n (Assign sp (Simple v) e)) where
  pub assigned_typed : (ty : Ty) → Has P.shapes P.notes (Assign sp (Simple v) e) x.p.scope ty → (t : Ty) × HasPlace P.shapes P.notes (Simple v) x.p.scope t
  assigned_typed ty (has.assign {t = t} place he fits) = (t, place)

  abbrev type_of : Ty
  type_of = (assigned_typed x.ty x.typed).0

  abbrev name_here : NameTyped P v x.p type_of
  name_here = name_typed P v x.p type_of (assigned_typed x.ty x.typed).1

  -- what the name stands for
  abbrev pub variable_here : SeenVariable P x.p x.types (name_of v) name_here.at type_of
  variable_here = premises.sees x.p x.types x.σ x.τ v name_here.at type_of name_here.loop x.ready x.covers.0 name_here.is_bound name_here.says

  place_is : locate P.findings (Simple v) x.p.within x.σ ≡ drawn (place_in (frame_at x.p.within variable_here.home.level) variable_here.home.access) x.σ
  place_is =
      ap (λ o. variable_place x.p.within o x.σ) (set.found (at_of v) (means.Variable name_here.at) name_here.says) ∙
      ap (λ o. drawn (home_place x.p.within o) x.σ)
      (found_home P.table x.σ x.p.scope.bindings (name_of v) name_here.at type_of name_here.loop x.ready.found name_here.is_bound ∙ variable_here.tabled)

  own_stays : variable_here.level ≡ x.p.scene.level → (storage : Storage) (s : TranslationState) → locate P.findings (Simple v) x.p.within x.σ ≡ drawn storage s → StaysHeld storage
  own_stays own storage s made = subst (λ o. StaysHeld o) (ap made_in (sym place_is ∙ made)) (by variable_here.home.access)
    where
      level_is : x.p.within.level ≡ variable_here.home.level
      level_is = x.ready.level ∙ (sym own ∙ sym variable_here.home_level)

      none_out : (k : ℕ) → k - k ≡ 0
      none_out k = omega arith

      frame_here : frame_at x.p.within variable_here.home.level ≡ FrameAddress
      frame_here = ap (λ o. frame_out x.p.within.link_in_slot (o - variable_here.home.level)) level_is ∙ ap (λ o. frame_out x.p.within.link_in_slot o) (none_out variable_here.home.level)

      by : (access : Access) → StaysHeld (place_in (frame_at x.p.within variable_here.home.level) access)
      by (InTemp i) = a_temporary i.0
      by (InFrame k) = subst (λ f. StaysHeld (at_address no_stms (slot_address f k))) (sym frame_here) (an_own_slot no_stms Sub (4 * (k + 1)) refl)

  -- An update of a variable of the activation at work.
  pub own_update_shown : PlainlyShown P n sp v e x → begins_with P.findings.meaning e (Simple v) ≡ true → variable_here.level ≡ x.p.scene.level → IsShown P n (Assign sp (Simple v) e) x
  own_update_shown plain begins own = variable_update_shown P n sp v e x plain begins (own_stays own)

-- The same location, by its parts.
abbrev pub is_location : (l k : Location) → Bool
is_location (in_variable i) (in_variable j) = i == j
is_location (in_field r f) (in_field q g) = (r == q) && (f == g)
is_location (in_element r i) (in_element q j) = (r == q) && (i == j)
is_location (in_variable i) (in_field q g) = false
is_location (in_variable i) (in_element q g) = false
is_location (in_field r f) (in_variable j) = false
is_location (in_field r f) (in_element q j) = false
is_location (in_element r f) (in_variable j) = false
is_location (in_element r f) (in_field q j) = false

same_location : (l k : Location) → is_location l k ≡ true → l ≡ k
same_location (in_variable i) (in_variable j) e = ap in_variable (eqb-true i j e)
same_location (in_field r f) (in_field q g) e =
    let x = both_true _ _ e in
    ap (λ o. in_field o f) (eqb-true r q x.0) ∙ ap (λ o. in_field q o) (eqb-true f g x.1)
same_location (in_element r f) (in_element q g) e =
    let x = both_true _ _ e in
    ap (λ o. in_element o f) (eqb-true r q x.0) ∙ ap (λ o. in_element q o) (eqb-true f g x.1)
same_location (in_variable i) (in_field q g) e = cc
same_location (in_variable i) (in_element q g) e = cc
same_location (in_field r f) (in_variable j) e = cc
same_location (in_field r f) (in_element q j) e = cc
same_location (in_element r f) (in_variable j) e = cc
same_location (in_element r f) (in_field q j) e = cc

own_location : (l : Location) → is_location l l ≡ true
own_location (in_variable i) = eq-eqb i i refl
own_location (in_field r f) = ap (λ b. b && (f == f)) (eq-eqb r r refl) ∙ eq-eqb f f refl
own_location (in_element r f) = ap (λ b. b && (f == f)) (eq-eqb r r refl) ∙ eq-eqb f f refl

abbrev pub is_met : Option Location → Location → Bool
is_met (Some k) l = is_location k l
is_met None l = false

met_is : (o : Option Location) (l : Location) → is_met o l ≡ true → o ≡ Some l
met_is (Some k) l e = ap Some (same_location k l e)
met_is None l e = cc

-- An l-value of those that may be found again: what comes next in the source may count on finding it
-- where it was.
module _ (P : Program) (n : ℕ) (v w : LValue) (same : is_same_place P.findings.meaning v w ≡ true) where
  -- what finding it does, in each world
  abbrev pub again : Env → SourceWorld → Idle Location
  again env s = (place_idle P.heap P.stack P.findings.meaning v w same env s).o

  -- it is found there
  abbrev pub IsFound : Env → SourceWorld → Location → Type 0
  IsFound env s l = reached (again env s) ≡ Some l

  -- what comes next, where it is found there
  abbrev pub where_found : Env → (Location → Rest) → Location → Rest
  where_found env go l s = (if is_met (reached (again env s)) l then go l else ends stuck) s

  found_same : (env : Env) (go : Location → Rest) (s : SourceWorld) (i : ℕ) (o : Idle Location) → reached (again env s) ≡ reached o →
      carried o (where_found env go) s i ≡ carried o go s i
  found_same env go s i (stops r) e = refl
  found_same env go s i (gives a) e = ap (λ b. (if b then go a else ends stuck) s i) (ap (λ z. is_met z a) e ∙ own_location a)
  found_same env go s i (costing k o) e = ap (λ z. costs k z) (found_same env go s i o e)

  pub located_same : (env : Env) (go : Location → Rest) (out : Rest) (s : SourceWorld) (i : ℕ) → locates P v env go out s i ≡ locates P v env (where_found env go) out s i
  located_same env go out s i =
      let x = place_idle P.heap P.stack P.findings.meaning v w same env s in
      x.does go out i ∙ (sym (found_same env go s i (again env s) refl) ∙ sym (x.does (where_found env go) out i))

  pub where_follows : (env : Env) (go : Location → Rest) (r : ℕ) (l : Location) (s : SourceWorld) (d : Run Ran) → (IsFound env s l → FollowsHere P r n (rest_run (go l) s) d) →
      FollowsHere P r n (rest_run (where_found env go l) s) d
  where_follows env go r l s d f = by (is_met (reached (again env s)) l) refl
    where
      by : (b : Bool) → is_met (reached (again env s)) l ≡ b → FollowsHere P r n (rest_run (where_found env go l) s) d
      by true e = subst (λ b. FollowsHere P r n (rest_run (λ s2. (if b then go l else ends stuck) s2) s) d) (sym e) (f (met_is (reached (again env s)) l e))
      by false e = subst (λ b. FollowsHere P r n (rest_run (λ s2. (if b then go l else ends stuck) s2) s) d) (sym e)
          (follows_stuck P.stack tree_work r n (rest_run (ends stuck) s) d (λ i. refl))

  -- What comes next on both sides, where the location stands at an address and is found again.
  abbrev pub AgainOnward : (r : ℕ) → Part → Holdings → List Ty → Ty → (Location → Rest) → Go ℕ → Type 0
  AgainOnward r p h types ty go go' =
      (g : Holdings) (ms : List Ty) (l : Location) (u : ℕ) (s : SourceWorld) (w1 : World) (t : Temps) → GrowsTo h g → Extends types ms → Holds P p g ms s w1 t →
      IsAt P p.places g ms l ty u → IsFound p.env s l → FollowsHere P r n (rest_run (go l) s) (go' u w1 t)

  pub record IsOwnAgain (r : ℕ) (p : Part) (types : List Ty) (ty : Ty) (go : Location → Rest) (source : Run Source) (s : SourceWorld) (i : ℕ) : Type 0 where
    pub place : ℕ
    pub is_of : IsOf place (p.places (temporary p.scene.depth i))
    pub type_is : slice_get types place ≡ Some ty
    pub has_values : HasValues ty
    pub pays :
        (d : Run Ran) → (IsFound p.env s (in_variable place) → FollowsHere P (r + 256) n (rest_run (go (in_variable place)) s) d) → FollowsHere P r n source d

  abbrev pub StorageAgain : (r : ℕ) → Part → Holdings → List Ty → Ty → (Location → Rest) → Run Source → SourceWorld → World → Temps → Storage → Type 0
  StorageAgain r p h types ty go source s w1 t (in_temp i) = IsOwnAgain r p types ty go source s i
  StorageAgain r p h types ty go source s w1 t (at_address before a) =
      (j : ℕ) (go' : Go ℕ) → AgainOnward (r + left_over) p h types ty go go' →
      FollowsHere P (r + j) n source (statements_run P p before p.around (λ w2 t1. charged j (value_runs P p a p.around go' w2 t1)) w1 t)

  pub place_again : PlaceShown P n v → (x : PlaceSituation P n v) → StorageAgain x.r x.p x.h x.types x.ty x.go (place_source P n v x) x.s x.w x.t x.storage
  place_again shown x = by x.storage (shown (record x { go = where_found x.p.env x.go }))
    where
      before_it : Run Source
      before_it = rest_run (locates P v x.p.env (where_found x.p.env x.go) x.out) x.s

      along : (r : ℕ) (d : Run Ran) → FollowsHere P r n before_it d → FollowsHere P r n (place_source P n v x) d
      along r d f =
          follows_along P.stack tree_work r n before_it (place_source P n v x) d d (λ i. ap (λ z. as_source z) (located_same x.p.env x.go x.out x.s i)) (λ i. refl) f

      by : (storage : Storage) → StorageFollows P n x.r x.p x.h x.types x.ty (where_found x.p.env x.go) before_it x.s x.w x.t storage →
          StorageAgain x.r x.p x.h x.types x.ty x.go (place_source P n v x) x.s x.w x.t storage
      by (in_temp i) own = record {
        place = own.place;
        is_of = own.is_of;
        type_is = own.type_is;
        has_values = own.has_values;
        pays = λ d f. along x.r d (own.pays d (where_follows x.p.env x.go (x.r + 256) (in_variable own.place) x.s d f));
      }
      by (at_address before a) follows = λ j go' onward.
          along (x.r + j) (statements_run P x.p before x.p.around (λ w2 t1. charged j (value_runs P x.p a x.p.around go' w2 t1)) x.w x.t)
          (follows j go'
          (λ g ms l u s1 w1 t1 gg ee hh at.
          where_follows x.p.env x.go (x.r + left_over) l s1 (go' u w1 t1) (λ found. onward g ms l u s1 w1 t1 gg ee hh at found)))

  carried_follows : (r : ℕ) (go : Location → Rest) (l : Location) (s : SourceWorld) (d : Run Ran) (o : Idle Location) → reached o ≡ Some l → FollowsHere P r n (rest_run (go l) s) d →
      FollowsHere P r n (rest_run (carried o go) s) d
  carried_follows r go l s d (stops a) e f = cc
  carried_follows r go l s d (gives a) e f = subst (λ k. FollowsHere P r n (rest_run (go k) s) d) (sym (some_same a l e)) f
  carried_follows r go l s d (costing k o) e f =
      follows_paying P.stack tree_work r n k (rest_run (carried o go) s) d
      (more P r (r + tree_work * k) n (rest_run (carried o go) s) d (omega arith) (carried_follows r go l s d o e f))

  -- The other l-value, which is told to be the same, is found there too.
  pub found_again : (env : Env) → location_of P.heap P.stack v env ≡ location_of P.heap P.stack w env → (r : ℕ) (go : Location → Rest) (out : Rest) (l : Location) (s : SourceWorld) (d : Run Ran) →
      IsFound env s l → FollowsHere P r n (rest_run (go l) s) d → FollowsHere P r n (rest_run (locates P w env go out) s) d
  found_again env alike r go out l s d found f =
      let x = place_idle P.heap P.stack P.findings.meaning v w same env s in
      follows_along P.stack tree_work r n (rest_run (carried (again env s) go) s) (rest_run (locates P w env go out) s) d d
      (λ i. ap (λ (m : Passing Location). as_source (m go out s i)) (sym alike) ∙ ap (λ z. as_source z) (x.does go out i)) (λ i. refl)
      (carried_follows r go l s d (again env s) found f)

  -- So a read of it, with which the value begins, reads the location that is assigned.
  pub read_again : (sp : Span) (env : Env) → location_of P.heap P.stack v env ≡ location_of P.heap P.stack w env → (r : ℕ) (go : Value → Rest) (out : Rest) (l : Location) (s : SourceWorld) (d : Run Ran) →
      IsFound env s l → FollowsHere P (r + 256) n (rest_run (reads P l go out) s) d → FollowsHere P r n (rest_run (evaluates P (Read sp w) env go out) s) d
  read_again sp env alike r go out l s d found f =
      paid P r n (rest_run (locates P w env (λ k. reads P k go out) out) s) d (found_again env alike (r + 256) (λ k. reads P k go out) out l s d found f)
