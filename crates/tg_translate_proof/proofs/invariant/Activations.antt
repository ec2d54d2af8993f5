-- An assignment to a variable in a frame changes the word in the activation that static links lead to.
use Rattle.std.proofs.Common.{◌≡◌, ◌≢◌, ℕ, zero, suc, ◌+◌, ◌-◌, ◌<◌, ◌≤◌, ◌==◌, List, [], Option, Some, None, Bool}
use Rattle.std.proofs.Common.{true, false, refl, sym, ap, ◌∙◌, arith, subst}
use Rattle.std.specs.Prelude.{slice_get, if◌then◌else◌}
use Rattle.tg_symbols.specs.Tables.{looked_up}
use Rattle.tg_syntax.specs.declared.tokens.Ident.{Ident}
use Rattle.tg_syntax.specs.Tree.{Simple}
use Rattle.tg_frame.specs.declared.accesses.Access.{Access}
use Rattle.tg_frame.specs.declared.accesses.Access.TheVariants.{InTemp, InFrame}
use Rattle.tg_semantics.specs.Values.{Value, SourceWorld, put_variable}
use Rattle.tg_semantics.specs.Environments.{find, to_variable}
use Rattle.tg_semantics.specs.Evaluation.{in_variable}
use Rattle.tg_typecheck.specs.declared.notes.Means.TheVariants as means
use Rattle.tg_typecheck.specs.Types.{Ty}
use Rattle.tg_semantics.specs.Environments.{name_of}
use Rattle.tg_typecheck.specs.Scopes.{at_of}
use Rattle.tg_typecheck.specs.Has.{HasPlace}
use Rattle.tg_tree.specs.Tree.{Tx, Stms, no_stms}
use Rattle.tg_tree.specs.Operators.{word}
use Rattle.tg_tree.specs.FlatValue.{flat_value}
use Rattle.tg_tree.specs.Memory.{Memory, Closed, Has, load, put, slot}
use Rattle.tg_tree.specs.Actions.{World, Temps}
use Rattle.tg_translate.specs.mirror.States.{TranslationState, drawn}
use Rattle.tg_translate.specs.mirror.Constructs.{Storage, in_temp, at_address, place_in, slot_address}
use Rattle.tg_translate.specs.mirror.Scopes.{home_place, frame_at, variable_place}
use Rattle.tg_translate.specs.mirror.Translate.{locate}
use Rattle.tg_runtime_proof.proofs.Memories.{put_apart}
use Rattle.tg_translate_proof.specs.glue.Covered.{CoversName}
use Rattle.tg_translate_proof.specs.glue.Worlds.{Holdings, Stands, IsOf, cell, nowhere}
use Rattle.tg_translate_proof.specs.glue.Situations.{Program, Part, Setting, Holds, IsReady, IsNear, frames_of, key_of}
use Rattle.tg_translate_proof.specs.laws.Activations.{link_in, IsFrameOut, at_home, by_own, by_slot, ChangesItsVariable}
use Rattle.tg_translate_proof.specs.laws.Activations.{AssignmentsFindTheirActivation, TemporariesAreOwn}
use Rattle.tg_translate_proof.proofs.state.TranslationStates.{made_in}
use Rattle.tg_translate_proof.proofs.state.Keys.{of_is_used}
use Rattle.tg_translate_proof.proofs.state.StaticLinks.{Links, links_are}
use Rattle.tg_translate_proof.proofs.expressions.LValueAddress.{SeenVariable, NameTyped, name_typed, found_home, slot_is, a_slot}
use Rattle.tg_translate_proof.proofs.expressions.LValueAccess.{read_at, slot_assigned}
use Rattle.tg_translate_proof.proofs.invariant.Needs.{premises}

-- the frames of an activation, by levels outwards
frame_there : (chain : ℕ → ℕ) (level n : ℕ) → n ≤ level → slice_get (frames_of chain level) n ≡ Some (chain (level - n))
frame_there chain zero zero le = refl
frame_there chain zero (suc n) le = absurd (omega (arith, le))
frame_there chain (suc l) zero le = let e : suc l ≡ suc l - 0 = omega arith in ap (λ j. Some (chain j)) e
frame_there chain (suc l) (suc n) le =
    let e : l - n ≡ suc l - suc n = omega arith in frame_there chain l n (omega (arith, le)) ∙ ap (λ j. Some (chain j)) e

-- links lead as far out as those in between are kept
module _ (m : Memory) (t : Temps) (base level to : ℕ) (chain : ℕ → ℕ) where
  own_link_is : (kept : Bool) → Links m t base level to kept chain → 0 < level → link_in kept m t base ≡ Some (chain (level - 1))
  own_link_is true k lt = k.in_slot refl lt
  own_link_is false k lt = k.in_temp refl lt

  linked_out : (kept : Bool) → Links m t base level to kept chain → (n : ℕ) → n ≤ level → to ≤ level - n →
      IsFrameOut m (link_in kept m t base) base n (chain (level - n))
  linked_out kept k zero le far =
      let e : level - 0 ≡ level = omega arith in
      subst (λ f. IsFrameOut m (link_in kept m t base) base 0 f) (sym (ap chain e ∙ k.here)) at_home
  linked_out kept k (suc zero) le far = by_own (chain (level - 1)) (own_link_is kept k (omega (arith, le)))
  linked_out kept k (suc (suc n)) le far =
      let l = level - suc (suc n) in
      let up : level - suc n ≡ l + 1 = omega (arith, le) in
      by_slot (suc n) (chain (l + 1)) (chain l) (omega arith)
      (subst (λ j. IsFrameOut m (link_in kept m t base) base (suc n) (chain j)) up
      (linked_out kept k (suc n) (omega (arith, le)) (omega (arith, far))))
      (k.outer l far (omega (arith, le)))

-- Two links out of a frame at 300, whose own stands in a slot: to 200, and from there to 100.
abbrev three_frames : Memory
three_frames = record {
  statics = [];
  heap = [];
  stack = λ a. if a == 296 then Has 200 else if a == 196 then Has 100 else Closed;
}

two_out : IsFrameOut three_frames (link_in true three_frames (λ i. None) 300) 300 2 100
two_out = by_slot 1 200 100 (omega arith) (by_own 200 refl) refl

-- A use of a variable, where its name is translated.
module _ (P : Program) (set : Setting P) (p : Part) (x : Ident) (type : Ty) (σ τ : TranslationState)
    (typed : HasPlace P.shapes P.notes (Simple x) p.scope type) (covers : CoversName P.findings P.table P.weight p.scene.level p.scene.keeps x)
    (types : List Ty) (ready : IsReady P p types σ τ) where
  abbrev name : NameTyped P x p type
  name = name_typed P x p type typed

  abbrev seen : SeenVariable P p types (name_of x) name.at type
  seen = (premises P set).sees p types σ τ x name.at type name.loop ready covers name.is_bound name.says

  -- where the translation has it
  is_place : (storage : Storage) → locate P.findings (Simple x) p.within σ ≡ drawn storage τ →
      place_in (frame_at p.within seen.home.level) seen.home.access ≡ storage
  is_place storage is_made =
      let home_is : looked_up name.at σ.homes ≡ Some seen.home =
      found_home P.table σ p.scope.bindings (name_of x) name.at type name.loop ready.found name.is_bound ∙ seen.tabled in
      ap made_in (sym (ap (λ o. drawn (home_place p.within o) σ) home_is) ∙
      (sym (ap (λ o. variable_place p.within o σ) (set.found (at_of x) (means.Variable name.at) name.says)) ∙ is_made))

  -- in a temporary
  own_level : (i : ℕ) → locate P.findings (Simple x) p.within σ ≡ drawn (in_temp i) τ → (access : Access) → seen.home.access ≡ access →
      seen.level ≡ p.scene.level
  own_level i is_made (InTemp j) e = subst (λ o. IsNear p.scene seen.level o) e seen.near
  own_level i is_made (InFrame k) e =
      let no = sym (ap (λ o. place_in (frame_at p.within seen.home.level) o) e) ∙ is_place (in_temp i) is_made in cc

  is_own : (i : ℕ) → locate P.findings (Simple x) p.within σ ≡ drawn (in_temp i) τ →
      (place : ℕ) × (find (name_of x) p.env.entries ≡ Some (to_variable p.scene.level place))
  is_own i is_made = (
    seen.place,
    seen.found ∙ ap (λ l. Some (to_variable l seen.place)) (own_level i is_made seen.home.access refl),
  )

  module _ (before : Stms) (a : Tx) (is_made : locate P.findings (Simple x) p.within σ ≡ drawn (at_address before a) τ)
      (h : Holdings) (s : SourceWorld) (w : World) (t : Temps) (hh : Holds P p h types s w t) (v : Value) (stands : ℕ) (st : Stands h v type stands) where
    address_in : (b : Stms) (x y : Tx) → at_address b x ≡ at_address before y → x ≡ y
    address_in b x y e = cc

    -- in a slot
    in_slot : (k : ℕ) → seen.home.access ≡ InFrame k → ChangesItsVariable P p h types s w t x a v stands
    in_slot k e =
        let base : ℕ = p.around.activation.base in
        let kept : Bool = p.scene.keeps p.scene.level in
        let frame : ℕ = p.scene.chain seen.level in
        let u : ℕ = slot frame k in
        let n : ℕ = p.scene.level - seen.level in
        let le = seen.around in
        let here : IsOf seen.place (p.places (cell u)) = subst (λ o. IsOf seen.place (p.places (key_of p.scene seen.level o))) e seen.stands in
        let address : slot_address (frame_at p.within seen.level) k ≡ a =
        ap (λ l. slot_address (frame_at p.within l) k) (sym seen.home_level) ∙
        address_in no_stms (slot_address (frame_at p.within seen.home.level) k) a
        (sym (ap (λ o. place_in (frame_at p.within seen.home.level) o) e) ∙ is_place (at_address before a) is_made) in
        let used : p.places (cell u) ≢ nowhere = of_is_used seen.place (p.places (cell u)) here in
        let z = slot_assigned P set (premises P set) p h types s w t hh seen.place u type v stands here seen.type_is st in
        let back : p.scene.level - n ≡ seen.level = omega (arith, le) in
        let links = links_are P p h types s w t seen.level ready.scene ready.activation hh seen.leads in
        record {
          place = seen.place;
          level = seen.level;
          found = seen.found;
          around = le;
          frame = frame;
          linked =
              subst (λ b. IsFrameOut w.memory (link_in b w.memory t base) base n frame) (sym ready.links)
              (subst (λ j. IsFrameOut w.memory (link_in kept w.memory t base) base n (p.scene.chain j)) back
              (linked_out w.memory t base p.scene.level seen.level p.scene.chain kept links n (omega (arith, le)) (omega (arith, back))));
          current = frame_there p.scene.chain p.scene.level n (omega (arith, le)) ∙ ap (λ j. Some (p.scene.chain j)) back;
          k = k;
          address =
              ap (λ o. flat_value P.code.literals p.around.activation.base w.memory t o) (sym address) ∙
              slot_is P set p h types s w t σ τ seen.level k ready hh le seen.leads used;
          after = put u (Has stands) w.memory;
          stored = z.0;
          changed = z.1;
          others = λ b ne. put_apart w.memory u (Has stands) b ne;
          does = λ go out i.
              (read_at P set (premises P set) p h types s w t hh (in_variable seen.place) type u (a_slot seen.place u type here seen.type_is)).gives
              (λ _ w2. go tt (put_variable seen.place v w2)) out i;
          same = z.2;
        }

    changes : (access : Access) → seen.home.access ≡ access → ChangesItsVariable P p h types s w t x a v stands
    changes (InFrame k) e = in_slot k e
    changes (InTemp i) e =
        let no : in_temp i.0 ≡ at_address before a =
        sym (ap (λ o. place_in (frame_at p.within seen.home.level) o) e) ∙ is_place (at_address before a) is_made in cc

pub assignments_find_their_activation : AssignmentsFindTheirActivation
assignments_find_their_activation P set p x type before a σ τ typed covers is_made h types s w t ready hh v stands st =
    let one = seen P set p x type σ τ typed covers types ready in
    changes P set p x type σ τ typed covers types ready before a is_made h s w t hh v stands st one.home.access refl

pub temporaries_are_own : TemporariesAreOwn
temporaries_are_own P set p x type i σ τ typed covers is_made types ready = is_own P set p x type σ τ typed covers types ready i is_made
