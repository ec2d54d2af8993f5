-- What both sides have at the entry of a function whose parameters are bound, and after its return.
use Rattle.std.proofs.Common.{[], ◌≡◌, ◌≢◌, ℕ, suc, ◌+◌, ◌*◌, ◌<◌, ◌≤◌, ◌==◌, List, ◌∷◌, ◌++◌, Some, Bool, true, false}
use Rattle.std.proofs.Common.{refl, sym, ap, ◌∙◌, arith, subst}
use Rattle.std.proofs.Common.{eq-eqb, eqb-true, inl, inr}
use Rattle.std.specs.Prelude.{if◌then◌else◌, slice_get, ◌-◌, ◌⊎◌, length, map}
use Rattle.std.proofs.lemmas.Bool.{cases_lt}
use Rattle.tg_machine_state.specs.State.{heap_base}
use Rattle.tg_frame.specs.declared.accesses.Access.{Access}
use Rattle.tg_frame.specs.declared.accesses.Access.TheVariants.{InTemp, InFrame}
use Rattle.tg_frame.specs.Homes.{homes_from, slots_of, temps_of}
use Rattle.tg_syntax.specs.declared.trees.Param.{Param}
use Rattle.tg_syntax.specs.Functions.{own_params}
use Rattle.tg_symbols.specs.Tables.{looked_up}
use Rattle.tg_simulation.specs.Runs.{Run}
use Rattle.tg_simulation.specs.Ran.{Ran}
use Rattle.tg_semantics.specs.Values.{Value, Entry, Env, SourceWorld, add_variable, drop_weight, go_back}
use Rattle.tg_semantics.specs.Values as values
use Rattle.tg_semantics.specs.Evaluation as evaluation
use Rattle.tg_semantics.specs.Levels.{levels_of}
use Rattle.tg_semantics.specs.Passing.{Rest, Passing, passing}
use Rattle.tg_semantics.specs.MachineRuns.{rest_run}
use Rattle.tg_semantics.specs.laws.Laws.{behind}
use Rattle.tg_typecheck.specs.Types.{Ty}
use Rattle.tg_semantics.specs.Environments.{name_of}
use Rattle.tg_typecheck.specs.Scopes.{Scope, Binding, variable_at, function_at, standard_one, at_of, binding}
use Rattle.tg_typecheck.specs.Groups.{with_params}
use Rattle.tg_typecheck.specs.Has.{HasValues, HaveValues}
use Rattle.tg_tree.specs.Memory.{Memory, Closed, lay, slot}
use Rattle.tg_tree.specs.Actions.{World, Temps, set_temp}
use Rattle.tg_runtime_proof.proofs.Calling.{placed_world, placed_temps}
use Rattle.tg_translate.specs.declared.homes.Home.{Home}
use Rattle.tg_translate.specs.mirror.States.{TranslationState}
use Rattle.tg_translate.specs.mirror.Functions.{parameters}
use Rattle.tg_translate_proof.specs.glue.Tables.{Table, IsSuffix, IsMoment, Later, HasFound}
use Rattle.tg_translate_proof.specs.glue.Worlds.{Holdings, Stands, Places, Key, cell, temporary, Content, nowhere, free, variable, kept, fixed}
use Rattle.tg_translate_proof.specs.glue.Worlds.{HoldsAt, word_of, AllTemps, IsOf, Invariant, Scene}
use Rattle.tg_translate_proof.specs.glue.Situations as situations
use Rattle.tg_translate_proof.specs.glue.Situations.{Program, Setting, floor, with_temps, Along, Extends, key_of, IsNear}
use Rattle.tg_translate_proof.specs.glue.Shown.{FollowsHere}
use Rattle.tg_translate_proof.proofs.state.TranslationStates.{behind_none, behind_on, front_none, moment_before, found_later}
use Rattle.tg_translate_proof.proofs.invariant.Parts.{paid, more, along_on, extends_none, extends_on}
use Rattle.tg_translate_proof.proofs.state.OneKey.{put_place, by_key, put_here, put_other, by_use, used_is, held_same, get_front, get_last}
use Rattle.tg_translate_proof.proofs.state.OneKey.{relaid_none, moved}
use Rattle.tg_translate_proof.proofs.expressions.CallArguments.{StandAll}
use Rattle.tg_translate_proof.specs.glue.Situations.{GroupsFit}
use Rattle.tg_translate_proof.proofs.state.NewFrames.{HasRoom, NewFrame, Opened, IsNext, a_slot, a_temp, next_is_no_variable, slot_variable, temp_variable}
use Rattle.tg_translate_proof.proofs.state.NewFrames.{put_slot, lay_relaid, lay_above, lay_cells}

-- A parameter each, with whether it goes into the frame, its type, its value and the word that stands for it.
pub data IsGiven (h : Holdings) : List Param → List Bool → List Ty → List Value → List ℕ → Type 0 where
  none_given : IsGiven h [] [] [] [] []
  one_given :
      (p : Param) (b : Bool) (ty : Ty) (v : Value) (u : ℕ) (ps : List Param) (bs : List Bool) (tys : List Ty) (vs : List Value) (us : List ℕ) →
      HasValues ty → Stands h v ty u → IsGiven h ps bs tys vs us → IsGiven h (p ∷ ps) (b ∷ bs) (ty ∷ tys) (v ∷ vs) (u ∷ us)

-- entries with variables before them
pub data AddsVariables (es : List Entry) : List Entry → Type 0 where
  adds_none : AddsVariables es es
  adds_more : (name level place : ℕ) (fs : List Entry) → AddsVariables es fs → AddsVariables es (values.variable name level place ∷ fs)

adds_first : (name level place : ℕ) (es fs : List Entry) → AddsVariables (values.variable name level place ∷ es) fs → AddsVariables es fs
adds_first name level place es _ adds_none = adds_more name level place es adds_none
adds_first name level place es _ (adds_more x l k fs a) = adds_more x l k fs (adds_first name level place es fs a)

-- variables take nothing from what groups in sight are
pub adds_fit : (P : Program) (es fs : List Entry) → AddsVariables es fs → GroupsFit P es → GroupsFit P fs
adds_fit P es _ adds_none fit = fit
adds_fit P es _ (adds_more x l k fs a) fit = adds_fit P es fs a fit

pub given : (h : Holdings) (asks : Param → Bool) (ps : List Param) (tys : List Ty) (vs : List Value) (us : List ℕ) → length ps ≡ length tys →
    HaveValues tys → StandAll h vs tys us →
    IsGiven h ps (map asks ps) tys vs us
given h asks [] [] [] [] e v st = none_given
given h asks [] [] [] (u ∷ us) e v st = absurd st
given h asks [] [] (x ∷ vs) us e v st = absurd st
given h asks [] (ty ∷ tys) vs us e v st = cc
given h asks (p ∷ ps) [] vs us e v st = cc
given h asks (p ∷ ps) (ty ∷ tys) [] us e v st = absurd st
given h asks (p ∷ ps) (ty ∷ tys) (x ∷ vs) [] e v st = absurd st
given h asks (p ∷ ps) (ty ∷ tys) (x ∷ vs) (u ∷ us) e v st =
    one_given p (asks p) ty x u ps (map asks ps) tys vs us v.0 st.0 (given h asks ps tys vs us (omega (arith, e)) v.1 st.1)

-- the homes of parameters are in the table
abbrev pub AreTabled : Table → (level : ℕ) → List Param → List Access → Type 0
AreTabled table l (p ∷ ps) (home ∷ homes) =
    (looked_up (at_of p.name) table.homes ≡ Some (record { level = l; access = home })) × AreTabled table l ps homes
AreTabled table l _ _ = Unit {0}

pub parameters_behind : (level : ℕ) (ps : List Param) (homes : List Access) (seen : List (ℕ × Home)) →
    IsSuffix (parameters level ps homes seen) seen
parameters_behind l [] homes seen = behind_none
parameters_behind l (p ∷ ps) [] seen = behind_none
parameters_behind l (p ∷ ps) (home ∷ homes) seen =
    behind_on (parameters_behind l ps homes ((at_of p.name, record { level = l; access = home }) ∷ seen))
    (record { more = (at_of p.name, record { level = l; access = home }) ∷ []; whole_is = refl })

-- states that differ in what was drawn alone have found the same
pub found_alike : (table : Table) (s t : TranslationState) (bs : List (ℕ × Binding)) → t.homes ≡ s.homes → t.callees ≡ s.callees →
    HasFound table s bs → HasFound table t bs
found_alike table s t [] e f x = tt
found_alike table s t ((y, variable_at at ty loop) ∷ bs) e f x = (ap (λ o. looked_up at o) e ∙ x.0, found_alike table s t bs e f x.1)
found_alike table s t ((y, function_at at sig) ∷ bs) e f x = (ap (λ o. looked_up at o) f ∙ x.0, found_alike table s t bs e f x.1)
found_alike table s t ((y, standard_one one) ∷ bs) e f x = found_alike table s t bs e f x

with_homes : (level : ℕ) → List Param → List Access → TranslationState → TranslationState
with_homes l ps homes s = record s { homes = parameters l ps homes s.homes }

homes_later : (l : ℕ) (ps : List Param) (homes : List Access) (s : TranslationState) → Later s (record s { homes = parameters l ps homes s.homes })
homes_later l ps homes s = record {
  temps = omega arith;
  slots = omega arith;
  homes = parameters_behind l ps homes s.homes;
  callees = behind_none;
  literals = front_none;
  functions = front_none;
}

named_first : {A : Type 0} (at : ℕ) (a : A) (rest : List (ℕ × A)) → looked_up at ((at, a) ∷ rest) ≡ Some a
named_first at a rest = ap (λ b. if b then Some a else looked_up at rest) (eq-eqb at at refl)

-- parameters that are declared are found, and stand in the table
pub params_found : (P : Program) (set : Setting P) (l : ℕ) (ps : List Param) (homes : List Access) (tys : List Ty) (s : TranslationState)
    (scope : Scope) →
    length homes ≡ length ps → length ps ≡ length tys → HasFound P.table s scope.bindings →
    IsMoment P.table P.code (record s { homes = parameters l ps homes s.homes }) →
    HasFound P.table (record s { homes = parameters l ps homes s.homes }) (with_params ps tys scope).bindings × AreTabled P.table l ps homes
params_found P set l [] homes [] s scope e f x m = (x, tt)
params_found P set l [] homes (t ∷ tys) s scope e f x m = cc
params_found P set l (p ∷ ps) [] tys s scope e f x m = cc
params_found P set l (p ∷ ps) (home ∷ homes) [] s scope e f x m = cc
params_found P set l (p ∷ ps) (home ∷ homes) (t ∷ tys) s scope e f x m =
    let here : Home = record { level = l; access = home } in
    let at : ℕ = at_of p.name in
    let s1 : TranslationState = record s { homes = (at, here) ∷ s.homes } in
    let m1 : IsMoment P.table P.code s1 = moment_before P.table P.code s1 (record s1 { homes = parameters l ps homes s1.homes }) m
    (homes_later l ps homes s1) in
    let first : looked_up at s1.homes ≡ Some here = named_first at here s.homes in
    let tabled : looked_up at P.table.homes ≡ Some here = set.homes_once at here m1.homes.more s1.homes m1.homes.whole_is first in
    let old : Later s s1 = record {
      temps = omega arith;
      slots = omega arith;
      homes = record { more = (at, here) ∷ []; whole_is = refl };
      callees = behind_none;
      literals = front_none;
      functions = front_none;
    } in
    let rest = params_found P set l ps homes tys s1 (binding p.name (variable_at at t false) scope) (omega (arith, e)) (omega (arith, f))
    (first ∙ sym tabled, found_later P set s s1 scope.bindings old m1 x) m in
    (rest.0, (tabled, rest.1))

-- Names in a function that is entered stand for what they stand for where it is called.
module _ (P : Program) (p q : Places) (types : List Ty) (c c1 : Scene) (l : ℕ) (inside : l ≤ c.level) (deeper : c1.level ≡ suc l)
    (chains : (k : ℕ) → k ≤ l → c1.chain k ≡ c.chain k) (keeps : (k : ℕ) → k ≤ l → c.keeps k ≡ c1.keeps k) (old : (k : Key) → p k ≢ nowhere →
    q k ≡ p k) where
  stands_inside : (m place : ℕ) (access : Access) → m ≤ l → (IsNear c m access → IsOf place (p (key_of c m access))) → IsNear c1 m access →
      IsOf place (q (key_of c1 m access))
  stands_inside m place (InTemp t) le is near = absurd (omega (arith, near, le, deeper))
  stands_inside m place (InFrame k) le is near =
      let key : Key = cell (slot (c.chain m) k) in
      let here : IsOf place (p key) = is (omega (arith, le, inside)) in
      subst (λ o. IsOf place (q (cell (slot o k)))) (sym (chains m le))
      (subst (λ o. IsOf place o) (sym (old key (used_is place (p key) here))) here)

  pub along_inside : (m : ℕ) (es : List Entry) (bs : List (ℕ × Binding)) → m ≤ l → Along P p types c m es bs → Along P q types c1 m es bs
  along_inside _ _ _ le (situations.nothing_declared level names) = situations.nothing_declared level names
  along_inside _ _ _ le (situations.a_variable level k x at place t loop home es bs lk values e1 e2 is_of e3 rest) =
      situations.a_variable level k x at place t loop home es bs lk values e1 e2 (stands_inside k place home.access (omega (arith, lk, le)) is_of)
      e3
      (along_inside level es bs le rest)
  along_inside _ _ _ le (situations.a_group level k keeps_ fs ss es scope lk agree many dd rest) =
      situations.a_group level k keeps_ fs ss es scope lk (λ j lj. agree j lj ∙ keeps j (omega (arith, lj, lk, le))) many dd
      (along_inside k es scope.bindings (omega (arith, lk, le)) rest)

-- what is seen at a level is seen further in
pub along_up : (P : Program) (p : Places) (types : List Ty) (c : Scene) (m n : ℕ) (es : List Entry) (bs : List (ℕ × Binding)) → m ≤ n →
    Along P p types c m es bs → Along P p types c n es bs
along_up P p types c _ n _ _ le (situations.nothing_declared level names) = situations.nothing_declared n names
along_up P p types c _ n _ _ le (situations.a_variable level k x at place t loop home es bs lk values e1 e2 is_of e3 rest) =
    situations.a_variable n k x at place t loop home es bs (omega (arith, lk, le)) values e1 e2 is_of e3
    (along_up P p types c level n es bs le rest)
along_up P p types c _ n _ _ le (situations.a_group level k keeps_ fs ss es scope lk agree many dd rest) =
    situations.a_group n k keeps_ fs ss es scope (omega (arith, lk, le)) agree many dd rest

module _ (P : Program) (set : Setting P) (frame : NewFrame P) where
  abbrev p : Places
  p = frame.places

  abbrev top : ℕ
  top = frame.top

  abbrev slots : ℕ
  slots = frame.slots

  abbrev low : ℕ
  low = frame.low

  abbrev d : ℕ
  d = frame.depth

  abbrev room : HasRoom (floor P) frame.places frame.top frame.slots frame.low frame.depth
  room = frame.room

  abbrev others : AllTemps
  others = frame.others

  abbrev h : Holdings
  h = frame.h

  abbrev pub Opens : (q : Places) (drawn_slots drawn_temps : ℕ) → List Ty → SourceWorld → World → Temps → Type 0
  Opens q a b types s w t = Opened P set frame q a b types s w t

  abbrev Next : (a b : ℕ) → Key → ℕ → ℕ → Type 0
  Next a b k x y = IsNext P set frame a b k x y

  module _ (c : Scene) (l : ℕ) (depth_is : c.depth ≡ d) (chain_is : c.chain l ≡ top) where
    -- what both sides have where all parameters are bound
    pub record IsBound (before : Places) (old_types : List Ty) (old : SourceWorld) (es : List Entry) (ps : List Param)
        (bindings : List (ℕ × Binding)) (a b : ℕ) (w : World) (t : Temps) : Type 0 where
      pub places : Places
      pub types : List Ty
      pub s : SourceWorld
      pub entries : List Entry
      pub opens : Opens places a b types s w t
      pub along : Along P places types c l entries bindings
      pub adds : AddsVariables es entries
      pub levels : levels_of entries ≡ own_params l ps (levels_of es)
      pub extends : Extends old_types types
      pub weight : s.weight ≡ old.weight
      pub depth : s.depth ≡ old.depth
      pub stays : (k : Key) (u : ℕ) → before k ≡ fixed u → places k ≡ fixed u

    abbrev pub env_of : List Entry → Env
    env_of es = record { level = l; entries = es }

    -- a new key isn't one that is fixed
    fixed_apart : (q : Places) (k j : Key) (u : ℕ) → (q k ≡ free) ⊎ (q k ≡ nowhere) → q j ≡ fixed u → j ≢ k
    fixed_apart q k j u (inl e) f g = let x : free ≡ fixed u = sym e ∙ sym (ap q g) ∙ f in cc
    fixed_apart q k j u (inr e) f g = let x : nowhere ≡ fixed u = sym e ∙ sym (ap q g) ∙ f in cc

    no_variable : (q : Places) (k : Key) (place : ℕ) → (q k ≡ free) ⊎ (q k ≡ nowhere) → IsOf place (q k) → ⊥
    no_variable q k place (inl e) x = subst (λ o. IsOf place o) e x
    no_variable q k place (inr e) x = subst (λ o. IsOf place o) e x

    -- names, with one more variable
    along_more : (q : Places) (k : Key) (access : Access) (name at : ℕ) (ty : Ty) (types : List Ty) (s : SourceWorld) (es : List Entry)
        (bs : List (ℕ × Binding)) →
        (q k ≡ free) ⊎ (q k ≡ nowhere) → key_of c l access ≡ k → HasValues ty → length types ≡ length s.variables →
        looked_up at P.table.homes ≡ Some (record { level = l; access = access }) →
        Along P q types c l es bs →
        Along P (put_place k (variable (length s.variables)) q) (types ++ ty ∷ []) c l (values.variable name l (length s.variables) ∷ es)
        ((name, variable_at at ty false) ∷ bs)
    along_more q k access name at ty types s es bs unused key values_ many tabled rest =
        let place : ℕ = length s.variables in
        let q1 : Places = put_place k (variable place) q in
        situations.a_variable l l name at place ty false (record { level = l; access = access }) es bs (omega arith) values_ tabled refl
        (λ near. subst (λ o. IsOf place (q1 o)) (sym key) (subst (λ o. IsOf place o) (sym (put_here k (variable place) q)) refl))
        (subst (λ o. slice_get (types ++ ty ∷ []) o ≡ Some ty) many (get_last types ty))
        (along_on P q q1 types (types ++ ty ∷ []) c
        (λ j o is. by_key j k (λ r. IsOf o r) (variable place) q (λ e. absurd (no_variable q k o unused (subst (λ r. IsOf o (q r)) e is)))
        (λ ne. is))
        (λ i a e. get_front types (ty ∷ []) i a e) l es bs rest)

    abbrev bound_more : (q : Places) (k : Key) (p0 : Param) (ty : Ty) (v : Value) (types : List Ty) (s : SourceWorld) (es : List Entry)
        (ps : List Param) (bindings : List (ℕ × Binding))
        (a1 a b1 b : ℕ) (w : World) (t : Temps) → (q k ≡ free) ⊎ (q k ≡ nowhere) → a1 ≡ a → b1 ≡ b →
        IsBound (put_place k (variable (length s.variables)) q) (types ++ ty ∷ []) (add_variable v s)
        (values.variable (name_of p0.name) l (length s.variables) ∷ es) ps bindings a1 b1 w t →
        IsBound q types s es (p0 ∷ ps) bindings a b w t
    bound_more q k p0 ty v types s es ps bindings a1 a b1 b w t unused ea eb x = record {
      places = x.places;
      types = x.types;
      s = x.s;
      entries = x.entries;
      opens = subst (λ o. Opens x.places o b x.types x.s w t) ea (subst (λ o. Opens x.places a1 o x.types x.s w t) eb x.opens);
      along = x.along;
      adds = adds_first (name_of p0.name) l (length s.variables) es x.entries x.adds;
      levels = x.levels;
      extends = extends_on types (types ++ ty ∷ []) x.types (λ i a e. get_front types (ty ∷ []) i a e) x.extends;
      weight = x.weight;
      depth = x.depth;
      stays = λ j u e. x.stays j u (put_other j k (variable (length s.variables)) q (fixed_apart q k j u unused e) ∙ e);
    }

    -- Parameters are bound one after another. Each costs 1, and more isn't needed of it.
    pub params_bound : (ps : List Param) (bs : List Bool) (tys : List Ty) (vs : List Value) (us : List ℕ) → IsGiven h ps bs tys vs us →
        (a b : ℕ) (q : Places) (types : List Ty) (s : SourceWorld) (w : World) (t : Temps) (es : List Entry) (scope : Scope) →
        Opens q a b types s w t → a + slots_of bs ≤ slots → Along P q types c l es scope.bindings → AreTabled P.table l ps (homes_from a b bs) →
        (go : Env → Rest) (out : Rest) (r n : ℕ) (target : Run Ran) →
        ((x : IsBound q types s es ps (with_params ps tys scope).bindings (a + slots_of bs) (b + temps_of bs)
        (placed_world top (homes_from a b bs) us w) (placed_temps (homes_from a b bs) us t)) →
        FollowsHere P r n (rest_run (go (env_of x.entries)) x.s) target) →
        FollowsHere P r n (rest_run (evaluation.bind_params Passing (passing P.heap P.stack) (behind P.heap P.stack) ps vs (env_of es) go out) s)
        target
    params_bound _ _ _ _ _ none_given a b q types s w t es scope o few along tabled go out r n target onward =
        let ea : a ≡ a + 0 = omega arith in
        let eb : b ≡ b + 0 = omega arith in
        onward (record {
          places = q;
          types = types;
          s = s;
          entries = es;
          opens = subst (λ x. Opens q x (b + 0) types s w t) ea (subst (λ x. Opens q a x types s w t) eb o);
          along = along;
          adds = adds_none;
          levels = refl;
          extends = extends_none types;
          weight = refl;
          depth = refl;
          stays = λ k u e. e;
        })
    params_bound _ _ _ _ _ (one_given p0 true ty v u ps bs tys vs us val st rest) a b q types s w t es scope o few along tabled go out r n target
        onward =
        let lt : a < slots = omega (arith, few) in
        let k : Key = cell (slot top a) in
        let unused = next_is_no_variable P set frame q a b types s w t k (a + 1) b o (a_slot lt) in
        let place : ℕ = length s.variables in
        let es1 : List Entry = values.variable (name_of p0.name) l place ∷ es in
        let scope1 : Scope = binding p0.name (variable_at (at_of p0.name) ty false) scope in
        paid P r n (rest_run (evaluation.bind_params Passing (passing P.heap P.stack) (behind P.heap P.stack) ps vs (env_of es1) go out)
        (add_variable v s)) target
        (more P r (r + 256) n (rest_run (evaluation.bind_params Passing (passing P.heap P.stack) (behind P.heap P.stack) ps vs (env_of es1) go out)
        (add_variable v s)) target (omega arith)
        (params_bound ps bs tys vs us rest (a + 1) b (put_place k (variable place) q) (types ++ ty ∷ []) (add_variable v s)
        (put_slot P set frame a u w) t es1 scope1
        (slot_variable P set frame q a b u v ty types s w t lt st o) (omega (arith, few))
        (along_more q k (InFrame a) (name_of p0.name) (at_of p0.name) ty types s es scope.bindings unused
        (ap (λ x. cell (slot x a)) chain_is) val o.inv.variables tabled.0 along)
        tabled.1 go out r n target
        (λ x. onward (bound_more q k p0 ty v types s es ps (with_params ps tys scope1).bindings (a + 1 + slots_of bs) (a + slots_of (true ∷ bs))
        (b + temps_of bs) (b + temps_of (true ∷ bs)) _ _ unused
        (omega arith) (omega arith) x))))
    params_bound _ _ _ _ _ (one_given p0 false ty v u ps bs tys vs us val st rest) a b q types s w t es scope o few along tabled go out r n target
        onward =
        let k : Key = temporary d b in
        let unused = next_is_no_variable P set frame q a b types s w t k a (b + 1) o a_temp in
        let place : ℕ = length s.variables in
        let es1 : List Entry = values.variable (name_of p0.name) l place ∷ es in
        let scope1 : Scope = binding p0.name (variable_at (at_of p0.name) ty false) scope in
        paid P r n (rest_run (evaluation.bind_params Passing (passing P.heap P.stack) (behind P.heap P.stack) ps vs (env_of es1) go out)
        (add_variable v s)) target
        (more P r (r + 256) n (rest_run (evaluation.bind_params Passing (passing P.heap P.stack) (behind P.heap P.stack) ps vs (env_of es1) go out)
        (add_variable v s)) target (omega arith)
        (params_bound ps bs tys vs us rest a (b + 1) (put_place k (variable place) q) (types ++ ty ∷ []) (add_variable v s) w
        (set_temp b u t) es1 scope1
        (temp_variable P set frame q a b u v ty types s w t st o) (omega (arith, few))
        (along_more q k (InTemp (record { 0 = b })) (name_of p0.name) (at_of p0.name) ty types s es scope.bindings unused
        (ap (λ x. temporary x b) depth_is) val o.inv.variables tabled.0 along)
        tabled.1 go out r n target
        (λ x. onward (bound_more q k p0 ty v types s es ps (with_params ps tys scope1).bindings (a + slots_of bs) (a + slots_of (false ∷ bs))
        (b + 1 + temps_of bs) (b + temps_of (false ∷ bs)) _ _ unused
        (omega arith) (omega arith) x))))

-- what is held of variables that are the same
variables_same : (h : Holdings) (types : List Ty) (s s1 : SourceWorld) (m : Memory) (ts : AllTemps) (k : Key) (c : Content) →
    s1.variables ≡ s.variables → HoldsAt h types s m ts k c →
    HoldsAt h types s1 m ts k c
variables_same h types s s1 m ts k nowhere e x = tt
variables_same h types s s1 m ts (cell a) free e x = x
variables_same h types s s1 m ts (temporary d i) free e x = x
variables_same h types s s1 m ts k (variable l) e x = (x.0, x.1, (x.2.0, x.2.1, ap (λ o. slice_get o l) e ∙ x.2.2, x.2.3, x.2.4))
variables_same h types s s1 m ts (cell a) (kept l u) e x = absurd x
variables_same h types s s1 m ts (temporary d i) (kept l u) e x = (x.0, (x.1.0, x.1.1, ap (λ o. slice_get o l) e ∙ x.1.2, x.1.3, x.1.4))
variables_same h types s s1 m ts k (fixed u) e x = x

-- After a return the frame is closed, and the caller has what it had.
module _ (P : Program) (set : Setting P) (p q : Places) (top slots low d : ℕ) (room : HasRoom (floor P) p top slots low d) (c : ℕ) (t0 : Temps)
    (outer : AllTemps) (h : Holdings) where
  same_word : (types : List Ty) (m : Memory) (t : Temps) (k : Key) → p k ≢ nowhere →
      word_of (lay top slots Closed m) (with_temps c t0 outer) k ≡ word_of m (with_temps d t (with_temps c t0 outer)) k
  same_word types m t (cell a) used = below (cases_lt a top)
    where
      below : (a < top) ⊎ (top ≤ a) → word_of (lay top slots Closed m) (with_temps c t0 outer) (cell a) ≡ word_of m
          (with_temps d t (with_temps c t0 outer)) (cell a)
      below (inl lt) = absurd (used (room.below a lt))
      below (inr le) = lay_above top slots Closed m a (let x = room.within in omega (arith, x)) le
  same_word types m t (temporary e i) used = other (e == d) refl
    where
      other : (b : Bool) → (e == d) ≡ b → with_temps c t0 outer e i ≡ (if b then t else with_temps c t0 outer e) i
      other true is = absurd (used (room.later e i (let x = eqb-true e d is in omega (arith, x))))
      other false is = refl

  pub returned_invariant : (types : List Ty) (s : SourceWorld) (w : World) (t : Temps) (weight : ℕ) → ((k : Key) → p k ≢ nowhere → q k ≡ p k) →
      Invariant P.shapes P.heap (floor P) q h types s w (with_temps d t (with_temps c t0 outer)) →
      Invariant P.shapes P.heap (floor P) p h types (drop_weight weight (go_back s)) (record w { memory = lay top slots Closed w.memory })
      (with_temps c t0 outer)
  returned_invariant types s w t weight old inv =
      let over_heap : heap_base + P.heap ≤ floor P = let a = set.heap_small in let b = set.stack_small in omega (arith, a, b) in
      let m : Memory = lay top slots Closed w.memory in
      let ts : AllTemps = with_temps d t (with_temps c t0 outer) in
      let edge : 4 * slots ≤ top = let x = room.within in omega (arith, x) in
      moved P.shapes P.heap (floor P) over_heap h q p types types s (drop_weight weight (go_back s)) w (record w { memory = m }) ts
      (with_temps c t0 outer) inv
      (lay_relaid (floor P) top slots Closed w.memory room.within) refl refl refl refl inv.variables
      (λ k. by_use (HoldsAt h types s m (with_temps c t0 outer) k (p k)) (p k)
      (λ e. subst (λ o. HoldsAt h types s m (with_temps c t0 outer) k o) (sym e) (unused k))
      (λ used. held_same h types s w.memory m ts (with_temps c t0 outer) k (p k) (same_word types w.memory t k used)
      (λ a e. lay_cells top slots Closed w.memory a edge (above a e used))
      (subst (λ o. HoldsAt h types s w.memory ts k o) (old k used) (inv.holds k))))
      (λ k j l x y. inv.once k j l (subst (λ o. IsOf l o) (sym (old k (used_is l (p k) x))) x)
      (subst (λ o. IsOf l o) (sym (old j (used_is l (p j) y))) y))
      (λ a used. inv.above a (λ e. used (sym (old (cell a) used) ∙ e)))
    where
      unused : (k : Key) → HoldsAt h types s (lay top slots Closed w.memory) (with_temps c t0 outer) k nowhere
      unused (cell a) = tt
      unused (temporary e i) = tt

      above : {k : Key} (a : ℕ) → k ≡ cell a → p k ≢ nowhere → top ≤ a
      above a e used = at (cases_lt a top)
        where
          at : (a < top) ⊎ (top ≤ a) → top ≤ a
          at (inl lt) = absurd (used (ap p e ∙ room.below a lt))
          at (inr le) = le

-- temporaries of a deeper activation are in no use where it begins
pub deeper_invariant : (P : Program) (set : Setting P) (p : Places) (d : ℕ) (others : AllTemps) (h : Holdings) (types : List Ty)
    (s s1 : SourceWorld) (w : World) (t : Temps) →
    ((i : ℕ) → p (temporary d i) ≡ nowhere) → s1.variables ≡ s.variables → s1.objects ≡ s.objects → s1.heap ≡ s.heap → s1.input ≡ s.input →
    Invariant P.shapes P.heap (floor P) p h types s w others → Invariant P.shapes P.heap (floor P) p h types s1 w (with_temps d t others)
deeper_invariant P set p d others h types s s1 w t idle variables objects heap in_ inv =
    let over_heap : heap_base + P.heap ≤ floor P = let a = set.heap_small in let b = set.stack_small in omega (arith, a, b) in
    moved P.shapes P.heap (floor P) over_heap h p p types types s s1 w w others (with_temps d t others) inv
    (relaid_none (floor P) w.memory) refl objects heap in_
    (inv.variables ∙ sym (ap (λ l. length l) variables))
    (λ k. by_use (HoldsAt h types s1 w.memory (with_temps d t others) k (p k)) (p k)
    (λ e. subst (λ o. HoldsAt h types s1 w.memory (with_temps d t others) k o) (sym e) (unused k))
    (λ used. variables_same h types s s1 w.memory (with_temps d t others) k (p k) variables
    (held_same h types s w.memory w.memory others (with_temps d t others) k (p k) (same k used) (λ a e. refl) (inv.holds k))))
    inv.once inv.above
  where
    unused : (k : Key) → HoldsAt h types s1 w.memory (with_temps d t others) k nowhere
    unused (cell a) = tt
    unused (temporary e i) = tt

    same : (k : Key) → p k ≢ nowhere → word_of w.memory (with_temps d t others) k ≡ word_of w.memory others k
    same (cell a) used = refl
    same (temporary e i) used = other (e == d) refl
      where
        other : (b : Bool) → (e == d) ≡ b → (if b then t else others e) i ≡ others e i
        other true is = absurd (used (ap (λ o. p (temporary o i)) (eqb-true e d is) ∙ idle i))
        other false is = refl
