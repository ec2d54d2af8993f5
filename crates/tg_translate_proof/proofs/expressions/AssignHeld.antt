-- Places that are read first and then assigned: what their addresses are made of is kept, and what comes
-- next may count on the address.
use Rattle.std.proofs.Common.{◌≡◌, ℕ, zero, suc, ◌+◌, ◌-◌, ◌*◌, ◌%◌, ◌^◌, ◌<◌, ◌≤◌, Bool, true, false, refl, sym, ap, ◌∙◌, arith, subst}
use Rattle.tg_base.specs.Words.{add, shift_left}
use Rattle.tg_syntax.specs.declared.tokens.Ident.{Ident}
use Rattle.tg_syntax.specs.Tree.{Exp, LValue, Simple, Field, Index}
use Rattle.tg_simulation.specs.Runs.{Run}
use Rattle.tg_simulation.specs.Agreement.{Source}
use Rattle.tg_semantics.specs.Evaluation.{in_variable}
use Rattle.tg_semantics.specs.MachineRuns.{rest_run}
use Rattle.tg_typecheck.specs.declared.notes.Means.TheVariants as means
use Rattle.tg_semantics.specs.Environments.{name_of}
use Rattle.tg_typecheck.specs.Scopes.{at_of}
use Rattle.tg_frame.specs.declared.accesses.Access.{Access}
use Rattle.tg_frame.specs.declared.accesses.Access.TheVariants.{InTemp, InFrame}
use Rattle.tg_tree.specs.declared.operators.Bin.{Bin}
use Rattle.tg_tree.specs.declared.operators.Bin.TheVariants.{Add, Sub, ShiftLeft}
use Rattle.tg_tree.specs.Tree.{Tx, Temp, Const, FrameAddress, Binary, Load, Move, Stms, no_stms, stm}
use Rattle.tg_tree.specs.Units.{Trees, operator_units}
use Rattle.tg_tree.specs.Sizes.{expression_length}
use Rattle.tg_tree.specs.Shapes.{IsFlat}
use Rattle.tg_tree.specs.Operators.{Given, word, stops_by, operate}
use Rattle.tg_tree.specs.FlatValue.{flat_value, or_wrong, onward}
use Rattle.tg_tree.specs.Actions.{World, Temps, set_temp, Go, Next, charged}
use Rattle.tg_translate.specs.declared.held.HeldAddress.{HeldAddress}
use Rattle.tg_translate.specs.declared.held.HeldAddress.TheVariants.{InOwnFrame, Beside, At}
use Rattle.tg_translate.specs.declared.operands.Operand.{Operand}
use Rattle.tg_translate.specs.declared.operands.Operand.TheVariants.{Number, Kept}
use Rattle.tg_translate.specs.mirror.States.{TranslationState, Translates, drawn, after, with_frame, one_temp}
use Rattle.tg_translate.specs.mirror.Wants.{followed}
use Rattle.tg_translate.specs.mirror.Constructs.{Storage, in_temp, at_address, place_in, frame_out, link_of, slot_address, read, plus, nil_check, after_all}
use Rattle.tg_translate.specs.mirror.Constructs.{element, field_place, field_of, Held, operand, HeldAt, hold_address, held_address}
use Rattle.tg_translate.specs.mirror.Scopes.{frame_at, field_number}
use Rattle.tg_translate.specs.mirror.Translate.{locate}
use Rattle.tg_translate_proof.specs.glue.Tables.{Later}
use Rattle.tg_translate_proof.specs.glue.Worlds.{temporary, nowhere, cell, IsOf}
use Rattle.tg_translate_proof.specs.glue.Situations.{Program, Part, Setting, key_of, value_runs, statements_run}
use Rattle.tg_translate_proof.specs.glue.Shown.{Shown, FollowsHere, left_over}
use Rattle.tg_translate_proof.proofs.state.TranslationStates.{made_in, state_in, after_inv, later_none}
use Rattle.tg_translate_proof.proofs.invariant.Cases.{worked, set_here, holds_with_temp, grows_none}
use Rattle.tg_translate_proof.proofs.invariant.Parts.{StatesGrow, extends_none}
use Rattle.tg_translate_proof.proofs.state.Keys.{of_is_used}
use Rattle.tg_translate_proof.proofs.state.StaticLinks.{flat_follows}
use Rattle.tg_translate_proof.proofs.expressions.Let.{joined_runs}
use Rattle.tg_translate_proof.proofs.invariant.HeldOperands.{OperandIs, kept_later, held_as, holding}
use Rattle.tg_translate_proof.proofs.expressions.LValueAddress.{a_slot, SeenVariable, AddressIs, ToldFollows, Premises, PlaceSituation, PlaceShown}
use Rattle.tg_translate_proof.proofs.expressions.LValueAddress.{place_source}
use Rattle.tg_tree.specs.Memory.{slot}
use Rattle.tg_translate_proof.proofs.expressions.LValueAddress as locating
use Rattle.tg_translate_proof.proofs.expressions.LValueAddress.{slot_is, slot_flat, slot_length}
use Rattle.tg_translate_proof.proofs.expressions.Field as fields
use Rattle.tg_translate_proof.proofs.expressions.Field.{hold_loaded}
use Rattle.tg_translate_proof.proofs.expressions.Index as elements
use Rattle.tg_translate_proof.proofs.expressions.LValue.{IndicesShown, place_shown}

-- an address that is held by itself
pub record Itself (a : Tx) : Type 0 where
  pub address : HeldAddress
  pub same : held_address address ≡ a
  pub is : (before : Stms) (s : TranslationState) → hold_address before a s ≡ drawn (record { before = before; address = address }) s

-- one that is held by its base, which is kept in a temporary
abbrev pub OnBase : Bin → Tx → ℕ → Type 0
OnBase op x m =
    (before : Stms) (s : TranslationState) → hold_address before (Binary op x (Const m)) s ≡
    drawn (record { before = followed before (Move s.frame.temps x); address = Beside (Kept (record { 0 = s.frame.temps })) op m })
    (with_frame (one_temp s.frame) s)

data HeldBy : Tx → Type 0 where
  by_itself : (a : Tx) → Itself a → HeldBy a
  by_base : (op : Bin) (x : Tx) (m : ℕ) → operator_units op (Const m) ≤ 2 → OnBase op x m → HeldBy (Binary op x (Const m))

frame_held : (kept : Bool) (hops m : ℕ) → HeldBy (Binary Sub (frame_out kept hops) (Const m))
frame_held kept zero m = by_itself (Binary Sub FrameAddress (Const m)) (record { address = InOwnFrame Sub m; same = refl; is = λ b s. refl })
frame_held true (suc zero) m = by_base Sub (link_of FrameAddress) m (omega arith) (λ b s. refl)
frame_held false (suc zero) m =
    by_itself (Binary Sub (Temp 0) (Const m)) (record { address = Beside (Kept (record { 0 = 0 })) Sub m; same = refl; is = λ b s. refl })
frame_held kept (suc (suc n)) m = by_base Sub (link_of (frame_out kept (suc n))) m (omega arith) (λ b s. refl)

plus_held : (i m : ℕ) → Itself (plus (Temp i) m)
plus_held i zero = record { address = At (Kept (record { 0 = i })); same = refl; is = λ b s. refl }
plus_held i (suc m) = record { address = Beside (Kept (record { 0 = i })) Add (suc m); same = refl; is = λ b s. refl }

abbrev element_base : (array index : Operand) → Tx
element_base a i = Binary Add (Binary ShiftLeft (operand i) (Const 2)) (operand a)

element_held : (array index : Operand) → OnBase Add (element_base array index) 4
element_held a i = λ b s. refl

operand_flat : (o : Operand) → IsFlat (operand o)
operand_flat (Number n) = tt
operand_flat (Kept i) = tt

base_length : (a i : Operand) → expression_length Trees (element_base a i) ≤ 16
base_length (Number n) (Number k) = omega arith
base_length (Number n) (Kept j) = omega arith
base_length (Kept i) (Number k) = omega arith
base_length (Kept i) (Kept j) = omega arith

-- how an address is held, by its storage
abbrev pub hold_of : Storage → Translates HeldAt
hold_of (in_temp i) s = drawn (record { before = no_stms; address = At (Number 0) }) s
hold_of (at_address b a) s = hold_address b a s

abbrev pub HasAddress : Storage → Type 0
HasAddress (in_temp i) = ⊥
HasAddress (at_address b a) = Unit {0}

first_word : (g : Given) (f : ℕ → Given) (u : ℕ) → onward g f ≡ word u → (b : ℕ) × (g ≡ word b) × (f b ≡ word u)
first_word (word b) f u e = (b, refl, e)
first_word (stops_by s) f u e = cc

module _ (P : Program) where
  -- an address after its base, which is kept
  kept_follows : (p : Part) (f : ℕ) (op : Bin) (x : Tx) (m u j r q n : ℕ) (c : Run Source) (go : Go ℕ) (w : World) (t : Temps) → operator_units op (Const m) ≤ 2 →
      IsFlat x → AddressIs P p w t (Binary op x (Const m)) u → r + j + expression_length Trees x + 6 ≤ q →
      ((b : ℕ) → AddressIs P p w (set_temp f b t) (Binary op (Temp f) (Const m)) u → FollowsHere P r n c (go u w (set_temp f b t))) →
      FollowsHere P q n c
      (statements_run P p (stm (Move f x) no_stms) p.around (λ w1 t1. charged j (value_runs P p (Binary op (Temp f) (Const m)) p.around go w1 t1)) w t)
  kept_follows p f op x m u j r q n c go w t small flat is le next =
      let i = first_word (flat_value P.code.literals p.around.activation.base w.memory t x) (λ b. onward (word m) (λ v. operate op b v)) u is in
      let b : ℕ = i.0 in
      let t2 : Temps = set_temp f b t in
      let now : AddressIs P p w t2 (Binary op (Temp f) (Const m)) u =
      ap (λ o. onward (or_wrong o) (λ z. onward (word m) (λ v. operate op z v))) (set_here f b t) ∙ i.2 in
      let held : Tx = Binary op (Temp f) (Const m) in
      let length : ℕ = expression_length Trees x in
      worked P (r + j + 4 + length) q 2 n c _ (omega (arith, le))
      (flat_follows P p x b (r + j + 4) (r + j + 4 + length) n (λ z w1 t1. charged j (value_runs P p held p.around go w1 (set_temp f z t1))) w t c flat i.1 (omega arith)
      (worked P (r + 4) (r + j + 4) j n c (value_runs P p held p.around go w t2) (omega arith)
      (flat_follows P p held u r (r + 4) n go w t2 c (tt, tt) now (omega (arith, small)) (next b now))))

  operand_is : (p : Part) (o : Operand) (z : ℕ) (w : World) (t : Temps) → OperandIs o z t → AddressIs P p w t (operand o) z
  operand_is p (Number n) z w t is = ap word is
  operand_is p (Kept i) z w t is = ap or_wrong is

  element_is : (p : Part) (l o : Operand) (u z : ℕ) (w : World) (t : Temps) → OperandIs l u t → OperandIs o z t → z < 2 ^ 26 → u + 4 + 4 * z < 2 ^ 32 →
      AddressIs P p w t (element (operand l) (operand o)) (u + 4 + 4 * z)
  element_is p l o u z w t is_l is_o few fits =
      let sum : add (add (shift_left z (2 % 32)) u) 4 ≡ u + 4 + 4 * z = omega (arith, few, fits) in
      let array : Given = flat_value P.code.literals p.around.activation.base w.memory t (operand l) in
      ap (λ g. onward (onward (onward g (λ i. onward (word 2) (λ k. operate ShiftLeft i k))) (λ i. onward array (λ k. operate Add i k))) (λ i. onward (word 4) (λ k. operate Add i k)))
      (operand_is p o z w t is_o) ∙
      (ap (λ g. onward (onward (word (shift_left z (2 % 32))) (λ i. onward g (λ k. operate Add i k))) (λ i. onward (word 4) (λ k. operate Add i k)))
      (operand_is p l u w t is_l) ∙ ap word sum)

  -- What is shown of an l-value whose address is held.
  abbrev pub HeldShown : (n : ℕ) → LValue → Type 0
  HeldShown n v =
      (x : PlaceSituation P n v) → HasAddress x.storage → (hd : HeldAt) (τ2 : TranslationState) → hold_of x.storage x.τ ≡ drawn hd τ2 →
      (x.τ.frame.temps < τ2.frame.temps → x.p.places (temporary x.p.scene.depth x.τ.frame.temps) ≡ nowhere) →
      ToldFollows P n x.r x.p x.h x.types x.ty x.go (place_source P n v x) x.w x.t hd.before (held_address hd.address)

  module _ (n : ℕ) (v : LValue) (x : PlaceSituation P n v) (hd : HeldAt) (τ2 : TranslationState) (held : hold_of x.storage x.τ ≡ drawn hd τ2)
      (idle : x.τ.frame.temps < τ2.frame.temps → x.p.places (temporary x.p.scene.depth x.τ.frame.temps) ≡ nowhere) where
    abbrev Told : Stms → Tx → Type 0
    Told before a = ToldFollows P n x.r x.p x.h x.types x.ty x.go (place_source P n v x) x.w x.t before a

    held_itself : (before : Stms) (a : Tx) (s : TranslationState) → drawn (at_address before a) s ≡ drawn x.storage x.τ → Itself a → Told before a →
        Told hd.before (held_address hd.address)
    held_itself before a s made i f =
        let one : HeldAt = record { before = before; address = i.address } in
        let same : drawn one s ≡ drawn hd τ2 = sym (i.is before s) ∙ (ap (λ d. after d hold_of) made ∙ held) in
        subst (λ (o : HeldAt). Told o.before (held_address o.address)) (ap made_in same) (subst (λ o. Told before o) (sym i.same) f)

    held_on_base : (before : Stms) (op : Bin) (y : Tx) (m : ℕ) (s : TranslationState) → drawn (at_address before (Binary op y (Const m))) s ≡ drawn x.storage x.τ →
        OnBase op y m →
        (x.p.places (temporary x.p.scene.depth s.frame.temps) ≡ nowhere → Told (followed before (Move s.frame.temps y)) (Binary op (Temp s.frame.temps) (Const m))) →
        Told hd.before (held_address hd.address)
    held_on_base before op y m s made is g =
        let one : HeldAt = record { before = followed before (Move s.frame.temps y); address = Beside (Kept (record { 0 = s.frame.temps })) op m } in
        let later : TranslationState = with_frame (one_temp s.frame) s in
        let same : drawn one later ≡ drawn hd τ2 = sym (is before s) ∙ (ap (λ d. after d hold_of) made ∙ held) in
        let at : s.frame.temps ≡ x.τ.frame.temps = ap (λ d. (state_in d).frame.temps) made in
        let end : s.frame.temps + 1 ≡ τ2.frame.temps = ap (λ d. (state_in d).frame.temps) same in
        let free : x.p.places (temporary x.p.scene.depth s.frame.temps) ≡ nowhere =
        ap (λ o. x.p.places (temporary x.p.scene.depth o)) at ∙ idle (omega (arith, at, end)) in
        subst (λ (o : HeldAt). Told o.before (held_address o.address)) (ap made_in same) (g free)

module _ (P : Program) (set : Setting P) (premises : Premises P) where
  -- A variable in a slot.
  module _ (n : ℕ) (v : Ident) (x : PlaceSituation P n (Simple v)) (has : HasAddress x.storage) (hd : HeldAt) (τ2 : TranslationState)
      (held : hold_of x.storage x.τ ≡ drawn hd τ2)
      (idle : x.τ.frame.temps < τ2.frame.temps → x.p.places (temporary x.p.scene.depth x.τ.frame.temps) ≡ nowhere) where
    abbrev Told_ : Stms → Tx → Type 0
    Told_ before a = ToldFollows P n x.r x.p x.h x.types x.ty x.go (place_source P n (Simple v) x) x.w x.t before a

    abbrev seen_ : SeenVariable P x.p x.types (name_of v) (locating.typed_ P set premises n v x).at x.ty
    seen_ = locating.seen P set premises n v x

    slot_held : (k : ℕ) → seen_.home.access ≡ InFrame k → drawn (at_address no_stms (slot_address (frame_at x.p.within seen_.home.level) k)) x.σ ≡ drawn x.storage x.τ →
        Told_ hd.before (held_address hd.address)
    slot_held k e made =
        by address (frame_held x.p.within.link_in_slot (x.p.within.level - seen_.home.level) (4 * (k + 1))) made here (slot_flat P x.p seen_.home.level k)
        (slot_length P x.p seen_.home.level k)
      where
        address : Tx
        address = slot_address (frame_at x.p.within seen_.home.level) k

        u : ℕ
        u = slot (x.p.scene.chain seen_.level) k

        stands : IsOf seen_.place (x.p.places (cell u))
        stands = subst (λ o. IsOf seen_.place (x.p.places (key_of x.p.scene seen_.level o))) e seen_.stands

        here : AddressIs P x.p x.w x.t address u
        here =
            ap (λ o. flat_value P.code.literals x.p.around.activation.base x.w.memory x.t (slot_address (frame_at x.p.within o) k)) seen_.home_level ∙
            slot_is P set x.p x.h x.types x.s x.w x.t x.σ x.τ seen_.level k x.ready x.holds seen_.around seen_.leads (of_is_used seen_.place (x.p.places (cell u)) stands)

        levels : x.p.within.level - seen_.home.level ≡ x.p.env.level - seen_.level
        levels = ap (λ o. o - seen_.home.level) (x.ready.level ∙ sym x.ready.same_level) ∙ ap (λ o. x.p.env.level - o) seen_.home_level

        by : (a : Tx) → HeldBy a → drawn (at_address no_stms a) x.σ ≡ drawn x.storage x.τ → AddressIs P x.p x.w x.t a u → IsFlat a →
            expression_length Trees a ≤ 4 * (x.p.within.level - seen_.home.level) + 8 → Told_ hd.before (held_address hd.address)
        by _ (by_itself a i) made_a is flat short =
            held_itself P n (Simple v) x hd τ2 held idle no_stms a x.σ made_a i
            (λ j go' told.
            let more_levels = levels in
            let source : Run Source = rest_run (x.go (in_variable seen_.place)) x.s in
            locating.source_paid P set premises n v x (x.r + j + 256 + 256 * (x.p.env.level - seen_.level)) (x.r + j) _ (omega arith)
            (worked P (x.r + 256 + 256 * (x.p.env.level - seen_.level)) (x.r + j + 256 + 256 * (x.p.env.level - seen_.level)) j n source _ (omega arith)
            (flat_follows P x.p a u (x.r + left_over) (x.r + 256 + 256 * (x.p.env.level - seen_.level)) n go' x.w x.t source flat is (omega (arith, short, more_levels))
            (told x.h x.types (in_variable seen_.place) u x.s x.w x.t (grows_none x.h) (extends_none x.types) x.holds (a_slot seen_.place u x.ty stands seen_.type_is) is))))
        by _ (by_base op y m small on) made_a is flat short =
            held_on_base P n (Simple v) x hd τ2 held idle no_stms op y m x.σ made_a on
            (λ free j go' told.
            let more_levels = levels in
            let f : ℕ = x.σ.frame.temps in
            let source : Run Source = rest_run (x.go (in_variable seen_.place)) x.s in
            locating.source_paid P set premises n v x (x.r + j + 256 + 256 * (x.p.env.level - seen_.level)) (x.r + j) _ (omega arith)
            (kept_follows P x.p f op y m u j (x.r + left_over) (x.r + j + 256 + 256 * (x.p.env.level - seen_.level)) n source go' x.w x.t small flat.0 is
            (omega (arith, short, more_levels))
            (λ b now.
            told x.h x.types (in_variable seen_.place) u x.s x.w (set_temp f b x.t) (grows_none x.h) (extends_none x.types)
            (holds_with_temp P x.p x.h x.types x.s x.w x.t f b free x.holds) (a_slot seen_.place u x.ty stands seen_.type_is) now)))

    pub name_held : Told_ hd.before (held_address hd.address)
    name_held = by seen_.home.access refl
      where
        by : (access : Access) → seen_.home.access ≡ access → Told_ hd.before (held_address hd.address)
        by (InTemp i) e =
            let made = sym (ap (λ o. drawn (place_in (frame_at x.p.within seen_.home.level) o) x.σ) e) ∙ locating.is_place P set premises n v x in
            absurd (subst (λ o. HasAddress o) (sym (ap made_in made)) has)
        by (InFrame k) e =
            slot_held k e (sym (ap (λ o. drawn (place_in (frame_at x.p.within seen_.home.level) o) x.σ) e) ∙ locating.is_place P set premises n v x)

  -- A field.
  module _ (n : ℕ) (v : LValue) (f : Ident) (show_v : PlaceShown P n v) (x : PlaceSituation P n (Field v f)) (hd : HeldAt) (τ2 : TranslationState)
      (held : hold_of x.storage x.τ ≡ drawn hd τ2)
      (idle : x.τ.frame.temps < τ2.frame.temps → x.p.places (temporary x.p.scene.depth x.τ.frame.temps) ≡ nowhere) where
    abbrev k_ : ℕ
    k_ = (fields.typed_ P set premises n v f show_v x).k

    by_record : (storage : Storage) (s1 : TranslationState) → locate P.findings v x.p.within x.σ ≡ drawn storage s1 → field_place k_ (read storage) s1 ≡ drawn x.storage x.τ →
        ToldFollows P n x.r x.p x.h x.types x.ty x.go (place_source P n (Field v f) x) x.w x.t hd.before (held_address hd.address)
    by_record (in_temp i) s1 made rest =
        let last : Later s1 x.τ = subst (λ o. Later s1 o) (ap state_in rest) (later_none s1) in
        held_itself P n (Field v f) x hd τ2 held idle (stm (nil_check (Temp i)) no_stms) (plus (Temp i) (4 * k_)) s1 rest (plus_held i (4 * k_))
        (fields.direct P set premises n v f show_v x i s1 made last)
    by_record (at_address b a) s1 made rest =
        let t1 : ℕ = s1.frame.temps in
        let before = premises.place_grows v x.p.within (at_address b a) x.σ s1 made in
        let kept_state : TranslationState = with_frame (one_temp s1.frame) s1 in
        let all : drawn (at_address (stm (Move t1 (after_all b (Load a))) (stm (nil_check (Temp t1)) no_stms)) (plus (Temp t1) (4 * k_))) kept_state ≡ drawn x.storage x.τ =
        sym (ap (λ o. after o (λ (r : Held) s. drawn (field_of k_ r.before (operand r.operand)) s)) (hold_loaded true no_stms b a s1)) ∙ rest in
        let last : Later s1 x.τ = subst (λ o. Later s1 o) (ap state_in all) (kept_later s1) in
        let drawn_one : t1 < x.τ.frame.temps = let e = ap (λ d. (state_in d).frame.temps) all in omega (arith, e) in
        held_itself P n (Field v f) x hd τ2 held idle (stm (Move t1 (after_all b (Load a))) (stm (nil_check (Temp t1)) no_stms)) (plus (Temp t1) (4 * k_)) kept_state all
        (plus_held t1 (4 * k_))
        (fields.loaded P set premises n v f show_v x t1 (at_address b a) s1 (x.ready.temps_free t1 before.temps drawn_one) made last)

    pub field_held : ToldFollows P n x.r x.p x.h x.types x.ty x.go (place_source P n (Field v f) x) x.w x.t hd.before (held_address hd.address)
    field_held =
        let i = after_inv (locate P.findings v x.p.within x.σ) _ x.storage x.τ x.is_made in
        let typed = fields.typed_ P set premises n v f show_v x in
        by_record i.0 i.1 i.2 (sym (ap (λ o. field_place (field_number o) (read i.0) i.1) (set.found (at_of f) (means.Field typed.k) typed.says)) ∙ i.3)

  -- An element.
  module _ (grow : StatesGrow P) (n : ℕ) (v : LValue) (e : Exp) (show_v : PlaceShown P n v) (show_e : Shown P n e) (x : PlaceSituation P n (Index v e)) (hd : HeldAt)
      (τ2 : TranslationState) (held : hold_of x.storage x.τ ≡ drawn hd τ2)
      (idle : x.τ.frame.temps < τ2.frame.temps → x.p.places (temporary x.p.scene.depth x.τ.frame.temps) ≡ nowhere) where
    abbrev made_ : elements.ElementMade P set premises grow n v e show_v show_e x
    made_ = elements.element_made P set premises grow n v e show_v show_e x

    abbrev array_ : Operand
    array_ = elements.lo_of P set premises grow n v e show_v show_e x made_.storage made_.s3

    abbrev index_ : Operand
    index_ = elements.ro_of P set premises grow n v e show_v show_e x made_.storage made_.s3 made_.y

    abbrev checks_ : Stms
    checks_ = elements.checks_of P set premises grow n v e show_v show_e x made_.storage made_.s3 made_.y

    abbrev state_ : TranslationState
    state_ = (held_as made_.y (elements.sh_of P set premises grow n v e show_v show_e x made_.storage made_.s3) (holding made_.y)).after

    base_follows : x.p.places (temporary x.p.scene.depth state_.frame.temps) ≡ nowhere →
        ToldFollows P n x.r x.p x.h x.types x.ty x.go (place_source P n (Index v e) x) x.w x.t
        (followed checks_ (Move state_.frame.temps (element_base array_ index_))) (Binary Add (Temp state_.frame.temps) (Const 4))
    base_follows free j go' told =
        let f : ℕ = state_.frame.temps in
        let last : Next = λ w1 t1. charged j (value_runs P x.p (Binary Add (Temp f) (Const 4)) x.p.around go' w1 t1) in
        subst (λ o. FollowsHere P (x.r + j) n (place_source P n (Index v e) x) o)
        (sym (joined_runs P x.p checks_ (stm (Move f (element_base array_ index_)) no_stms) last x.w x.t))
        (elements.tail_follows P set premises grow n v e show_v show_e x made_.storage made_.s1 made_.s2 made_.s3 made_.m made_.y made_.made made_.made_e made_.made_y
        made_.last made_.from_array j
        (λ l o w1 t1. statements_run P x.p (stm (Move f (element_base l o)) no_stms) x.p.around last w1 t1)
        (λ g ms s4 w4 t4 l o u z k gg ee hh at is_l is_o few fits.
        let short = base_length l o in
        kept_follows P x.p f Add (element_base l o) 4 (u + 4 + 4 * z) j (x.r + left_over) (x.r + left_over + j + 40) n (rest_run (x.go k) s4) go' w4 t4 (omega arith)
        ((operand_flat o, tt), operand_flat l) (element_is P x.p l o u z w4 t4 is_l is_o few fits) (omega (arith, short))
        (λ b now. told g ms k (u + 4 + 4 * z) s4 w4 (set_temp f b t4) gg ee (holds_with_temp P x.p g ms s4 w4 t4 f b free hh) at now)))

    pub element_held_shown : ToldFollows P n x.r x.p x.h x.types x.ty x.go (place_source P n (Index v e) x) x.w x.t hd.before (held_address hd.address)
    element_held_shown =
        held_on_base P n (Index v e) x hd τ2 held idle checks_ Add (element_base array_ index_) 4 state_ made_.all (element_held array_ index_) base_follows

  -- whatever the l-value is
  pub held_shown : (grow : StatesGrow P) (n : ℕ) (v : LValue) → IndicesShown P n v → HeldShown P n v
  held_shown grow n (Simple v) h x has hd τ2 held idle = name_held n v x has hd τ2 held idle
  held_shown grow n (Field v f) h x has hd τ2 held idle = field_held n v f (place_shown P set premises grow n v h) x hd τ2 held idle
  held_shown grow n (Index v e) h x has hd τ2 held idle = element_held_shown grow n v e (place_shown P set premises grow n v h.0) h.1 x hd τ2 held idle
