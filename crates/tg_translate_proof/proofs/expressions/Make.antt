-- The creation of a record where it stands: the values of its fields are held one after another, and then it is made.
use Rattle.std.proofs.Common.{◌≡◌, ◌≢◌, ℕ, suc, ◌+◌, ◌*◌, ◌<◌, ◌≤◌, ◌==◌, List, [], ◌∷◌, ◌++◌, length, Some, Bool, true, false, refl, sym, ap, ◌∙◌, arith, subst, inl, inr, ne_eqb}
use Rattle.std.specs.Prelude.{◌⊎◌, if◌then◌else◌, ◌&&◌}
use Rattle.std.proofs.lemmas.List.{append-nil, append_assoc}
use Rattle.tg_syntax.specs.OfWords.{OfWords, InitsOfWords}
use Rattle.tg_syntax.specs.declared.tokens.Ident.{Ident}
use Rattle.tg_base.specs.declared.ids.Span.{Span}
use Rattle.tg_machine_state.specs.State.{heap_base}
use Rattle.tg_syntax.specs.Tree.{Exp, Make, Inits, no_inits, init}
use Rattle.tg_symbols.specs.Tables.{looked_up}
use Rattle.tg_semantics.specs.Environments.{name_of}
use Rattle.tg_semantics.specs.Levels.{levels_of}
use Rattle.tg_typecheck.specs.Scopes.{Scope}
use Rattle.tg_simulation.specs.Runs.{Run}
use Rattle.tg_simulation.specs.Ran.{Ran}
use Rattle.tg_simulation.specs.Agreement.{Source}
use Rattle.tg_simulation.specs.Changes.{costs}
use Rattle.tg_simulation.proofs.Following.{follows_along}
use Rattle.tg_semantics.specs.Values.{Value, Env, SourceWorld}
use Rattle.tg_semantics.specs.Evaluation as E
use Rattle.tg_semantics.specs.Evaluation.{eval_inits}
use Rattle.tg_semantics.specs.Passing.{Rest, Passing, passing}
use Rattle.tg_semantics.specs.MachineRuns.{rest_run}
use Rattle.tg_semantics.specs.laws.Laws.{behind}
use Rattle.tg_typecheck.specs.Types.{Ty, Shape, none_type, record_type, record_shape}
use Rattle.tg_typecheck.specs.Has as has
use Rattle.tg_typecheck.specs.Has.{Has, HasInits, Fits, HasValues, FieldsHaveValues, ShapeHasValues, ShapesHaveValues}
use Rattle.tg_tree.specs.Tree.{Tx, Temp, After, Move, Seq, Stms, no_stms, stm}
use Rattle.tg_tree.specs.glue.Lists.{join_stms}
use Rattle.tg_tree.proofs.ListLaws.{join_stms-none, join_stms-assoc}
use Rattle.tg_tree.specs.Actions.{World, Temps, set_temp, Next, with_word}
use Rattle.tg_translate.specs.declared.homes.Within.{Within}
use Rattle.tg_translate.specs.declared.operands.Operand.{Operand}
use Rattle.tg_translate.specs.declared.operands.Operand.TheVariants.{Number, Kept}
use Rattle.tg_translate.specs.declared.wants.Want.TheVariants as want
use Rattle.tg_translate.specs.mirror.Scopes.{Findings}
use Rattle.tg_translate.specs.mirror.States.{TranslationState, drawn, after, with_frame, one_temp}
use Rattle.tg_translate.specs.mirror.Wants.{Made, value, value_of, value_from}
use Rattle.tg_translate.specs.mirror.Constructs.{hold_next, none_held, record_of, make_record, space_for_record, Held, HeldAll}
use Rattle.tg_translate.specs.mirror.Purity.{assigns_nothing, inits_assign_nothing}
use Rattle.tg_translate.specs.mirror.Translate.{expression, fields as made_fields}
use Rattle.tg_correctness.specs.laws.Laws.{tree_work}
use Rattle.tg_translate_proof.specs.glue.Covered.{Covers, CoversInits}
use Rattle.tg_translate_proof.specs.glue.Tables.{Later}
use Rattle.tg_translate_proof.specs.glue.Worlds.{Holdings, Stands, GrowsTo, temporary, nowhere, Places, Scene}
use Rattle.tg_translate_proof.specs.glue.Situations.{Program, Part, Setting, Holds, MayAssign, Extends, value_runs, statements_run}
use Rattle.tg_translate_proof.specs.glue.Shown.{Shown, IsShown, Situation, FollowsHere, left_over, evaluates}
use Rattle.tg_translate_proof.proofs.state.TranslationStates.{after_inv, made_in, state_in, later_none, later_on, later_value}
use Rattle.tg_translate_proof.proofs.invariant.Cases.{worked, grows_none, grows_on, by_made, wanted_of, set_here}
use Rattle.tg_translate_proof.proofs.invariant.Parts.{StatesGrow, more, paid, extends_none, extends_on}
use Rattle.tg_translate_proof.proofs.state.ValueWords.{stands_grows, stands_fit, fits_has_values}
use Rattle.tg_translate_proof.proofs.invariant.Asked.{Standing, Asked, asked_source}
use Rattle.tg_translate_proof.proofs.invariant.HeldOperands.{OperandIs, kept_later}
use Rattle.tg_translate_proof.proofs.invariant.HeldLeft.{placed, LeftHeld, left_extra, left_operand, left_state}
use Rattle.tg_translate_proof.proofs.expressions.Let.{joined_runs}
use Rattle.tg_translate_proof.proofs.expressions.BinarySides.{both_true}
use Rattle.tg_translate_proof.proofs.state.NewArrays.{stands_small}
use Rattle.tg_translate_proof.proofs.state.NewRecords.{FieldsStand, fields_many}
use Rattle.tg_translate_proof.proofs.expressions.MakeFields.{OperandHas, OperandsHave, own_stores, stores_are}
use Rattle.tg_translate_proof.proofs.expressions.MakeBlock.{record_follows}
use Rattle.tg_translate_proof.proofs.expressions.StandardFunctions.{Owns}
use Rattle.tg_translate_proof.proofs.invariant.HeldMeanwhile.{held_how, held_is, held_later, IsApart, AreApart, NoneKept, one_held}

-- What the fields of a creation are made, each held.
pub data FieldsHeld (findings : Findings) (within : Within) (direct : Bool) :
    Inits → TranslationState → TranslationState → Stms → List Operand → Type 0 where
  held_none : (s : TranslationState) → FieldsHeld findings within direct no_inits s s no_stms []
  held_more :
      (f : Ident) (e : Exp) (rest : Inits) (s s2 u : TranslationState) (x : Tx) (lh : LeftHeld direct x) (ss : Stms) (os : List Operand) →
      value_from (λ σ. expression findings e want.Value within σ) s ≡ drawn x s2 →
      FieldsHeld findings within direct rest (left_state direct x s2 lh) u ss os →
      FieldsHeld findings within direct (init f e rest) s u (join_stms (left_extra direct x s2 lh) ss) (left_operand direct x s2 lh ∷ os)

-- they stand after those that were held before them
pub record HeldFields (findings : Findings) (within : Within) (direct : Bool) (inits : Inits) (before : HeldAll) (s : TranslationState)
    (all : HeldAll) (t : TranslationState) : Type 0 where
  pub extra : Stms
  pub operands : List Operand
  pub is : all ≡ record { before = join_stms before.before extra; operands = before.operands ++ operands }
  pub held : FieldsHeld findings within direct inits s t extra operands

pub fields_are : (findings : Findings) (within : Within) (direct : Bool) (inits : Inits) (before : HeldAll) (s : TranslationState)
    (all : HeldAll) (t : TranslationState) → made_fields findings inits direct before within s ≡ drawn all t →
    HeldFields findings within direct inits before s all t
fields_are findings within direct no_inits before s all t e = record {
  extra = no_stms;
  operands = [];
  is = sym (ap made_in e) ∙
      (ap (λ (o : Stms). record { before = o; operands = before.operands }) (sym (join_stms-none before.before)) ∙
      ap (λ (o : List Operand). record { before = join_stms before.before no_stms; operands = o }) (sym (append-nil before.operands)));
  held = subst (λ o. FieldsHeld findings within direct no_inits s o no_stms []) (ap state_in e) (held_none s);
}
fields_are findings within direct (init f e rest) before s all t made =
    let i = after_inv (value_from (λ σ. expression findings e want.Value within σ) s)
    (λ x σ. after (hold_next direct before x σ) (λ m. made_fields findings rest direct m within)) all t made in
    let x : Tx = i.0 in
    let s2 : TranslationState = i.1 in
    let lh = held_how direct x in
    let le = left_extra direct x s2 lh in
    let lo = left_operand direct x s2 lh in
    let sh = left_state direct x s2 lh in
    let so_far : HeldAll = record { before = join_stms before.before le; operands = before.operands ++ lo ∷ [] } in
    let next : made_fields findings rest direct so_far within sh ≡ drawn all t =
    sym (ap (λ o. after (after o (λ (h : Held) σ. drawn (record { before = h.before; operands = before.operands ++ h.operand ∷ [] }) σ))
    (λ m. made_fields findings rest direct m within)) (held_is direct before.before x s2 lh)) ∙ i.3 in
    let r = fields_are findings within direct rest so_far sh all t next in
    record {
      extra = join_stms le r.extra;
      operands = lo ∷ r.operands;
      is = r.is ∙
          (ap (λ (o : Stms). record { before = o; operands = (before.operands ++ lo ∷ []) ++ r.operands }) (join_stms-assoc before.before le r.extra) ∙
          ap (λ (o : List Operand). record { before = join_stms before.before (join_stms le r.extra); operands = o })
          (append_assoc before.operands (lo ∷ []) r.operands));
      held = held_more f e rest s s2 t x lh r.extra r.operands i.2 r.held;
    }

operand_is_had : (l : Operand) (u : ℕ) (t : Temps) → OperandIs l u t → OperandHas l u t
operand_is_had (Number n) u t is = is
operand_is_had (Kept i) u t is = is

module _ (P : Program) (set : Setting P) (grow : StatesGrow P) (owns : Owns P) (n : ℕ) where
  pub fields_later : (within : Within) (direct : Bool) (inits : Inits) (s t : TranslationState) (ss : Stms) (os : List Operand) →
      FieldsHeld P.findings within direct inits s t ss os → Later s t
  fields_later within direct _ _ _ _ _ (held_none s) = later_none s
  fields_later within direct _ _ _ _ _ (held_more f e rest s s2 u x lh ss os made held) =
      let i = after_inv (expression P.findings e want.Value within s) value_of x s2 made in
      later_on s s2 u (later_on s i.1 s2 (grow e want.Value within i.0 s i.1 i.2) (later_value i.0 i.1 s2 x i.3))
      (later_on s2 (left_state direct x s2 lh) u (held_later direct x s2 lh)
      (fields_later within direct rest (left_state direct x s2 lh) u ss os held))

  -- what is known of each field
  pub record FieldKnown (scope : Scope) (c : Scene) (env : Env) (e : Exp) (r : Ty) : Type 0 where
    pub ty : Ty
    pub shown : Shown P n e
    pub typed : Has P.shapes P.notes e scope ty
    pub fits : Fits ty r
    pub words : OfWords e
    pub covers : Covers P.findings P.table P.weight c.level c.keeps (levels_of env.entries) e
    pub has_values : HasValues r

  abbrev pub FieldsKnown : Scope → Scene → Env → Inits → List (ℕ × Ty) → Type 0
  FieldsKnown scope c env no_inits [] = Unit {0}
  FieldsKnown scope c env (init f e rest) (field ∷ fs) =
      (name_of f ≡ field.0) × FieldKnown scope c env e field.1 × FieldsKnown scope c env rest fs
  FieldsKnown scope c env _ _ = ⊥

  abbrev pub FieldsMayAssign : Part → Inits → Type 0
  FieldsMayAssign p inits = (inits_assign_nothing inits ≡ true) ⊎ NoneKept P p p.places

  abbrev pub evaluates_fields : Inits → Env → (List (ℕ × Value) → Rest) → (out : Rest) → Rest
  evaluates_fields inits env go out = eval_inits Passing (passing P.heap P.stack) (behind P.heap P.stack) inits env go out

  -- what comes next, where the operands have the words of all fields
  abbrev pub FieldsOnward : (k : Standing P set grow n) (τ : TranslationState) (fs : List (ℕ × Ty)) → (List (ℕ × Value) → Rest) → (List Operand → Next) → Type 0
  FieldsOnward k τ fs go next =
      (g : Holdings) (ms : List Ty) (parts : List (ℕ × Value)) (us : List ℕ) (s : SourceWorld) (w : World) (t : Temps) (os : List Operand) →
      GrowsTo k.h g → Extends k.types ms → Holds P k.p g ms s w t → FieldsStand g parts fs us → OperandsHave os us t →
      ((i : ℕ) → τ.frame.temps ≤ i → i < k.τ.frame.temps → AreApart os i) →
      FollowsHere P (k.r + 6 + 50 * length us) n (rest_run (go parts) s) (next os w t)

  -- The fields are evaluated and held on both sides, each of which leaves 50 units.
  pub fields_follow : (k : Standing P set grow n) (inits : Inits) (fs : List (ℕ × Ty)) → FieldsKnown k.p.scope k.p.scene k.p.env inits fs →
      (direct : Bool) → (direct ≡ true → inits_assign_nothing inits ≡ true) → FieldsMayAssign k.p inits → (ss : Stms) (os : List Operand)
      (τ : TranslationState) → FieldsHeld P.findings k.p.within direct inits k.σ τ ss os → Later τ k.τ →
      (go : List (ℕ × Value) → Rest) (next : List Operand → Next) → FieldsOnward k τ fs go next →
      FollowsHere P (k.r + 6) n (rest_run (evaluates_fields inits k.p.env go k.out) k.s) (statements_run P k.p ss k.p.around (next os) k.w k.t)
  fields_follow k _ [] known direct pure may _ _ _ (held_none s) last go next onward =
      more P (k.r + 6 + 50 * 0) (k.r + 6) n (rest_run (go []) k.s) (next [] k.w k.t) (omega arith)
      (onward k.h k.types [] [] k.s k.w k.t [] (grows_none k.h) (extends_none k.types) k.holds tt tt (λ i low high. tt))
  fields_follow k _ (field ∷ fs) known direct pure may _ _ _ (held_none s) last go next onward = absurd known
  fields_follow k _ [] known direct pure may _ _ _ (held_more f e rest s s2 u x lh ss os made held) last go next onward = absurd known
  fields_follow k _ (field ∷ fs) known direct pure may _ _ _ (held_more f e rest s s2 τ x lh ss os made held) last go next onward =
      let one = known.1 in
      let le = left_extra direct x s2 lh in
      let lo = left_operand direct x s2 lh in
      let sh = left_state direct x s2 lh in
      let able : one.ty ≢ none_type = fits_has_values one.ty field.1 one.fits one.has_values in
      let later_rest : Later sh τ = fields_later k.p.within direct rest sh τ ss os held in
      let go_e : Value → Rest = λ v. evaluates_fields rest k.p.env (λ parts. go ((name_of f, v) ∷ parts)) k.out in
      let next_e : Operand → Next = λ l w1 t1. statements_run P k.p ss k.p.around (next (l ∷ os)) w1 t1 in
      let q : Asked P set grow n k e one.ty = record {
        shown = one.shown;
        typed = one.typed;
        words = one.words;
        covers = one.covers;
        may_assign = first_may k.p f e rest may;
      } in
      subst (λ d. FollowsHere P (k.r + 6) n (asked_source P set grow n k e one.ty q go_e) d)
      (sym (joined_runs P k.p le ss (next (lo ∷ os)) k.w k.t))
      (one_held P set grow n k e one.ty q go_e able direct x s2 lh made (later_on sh τ k.τ later_rest last) next_e
      (λ g ms v u s1 w1 t1 l gg ee st b.
      let k2 : Standing P set grow n = record {
        p = placed k.p b.places;
        σ = sh;
        τ = k.τ;
        h = g;
        types = ms;
        r = k.r + 50;
        out = k.out;
        s = s1;
        w = w1;
        t = t1;
        ready = b.ready;
        outward = λ g3 ms3 s3 w3 t3 lo3 gg3 ee3 hh3.
            more P (k.r + left_over) (k.r + 50 + left_over) n (rest_run k.out s3) (k.p.around.out k.p.within.leave w3 t3) (omega arith)
            (k.outward g3 ms3 s3 w3 t3 lo3 (grows_on k.h g g3 gg gg3) (extends_on k.types ms ms3 ee ee3) (b.back g3 ms3 s3 w3 t3 hh3).0);
        holds = b.holds;
      } in
      more P (k.r + 50 + 6) (k.r + 56) n (rest_run (go_e v) s1) (next_e l w1 t1) (omega arith)
      (fields_follow k2 rest fs known.2 direct (λ is. rest_pure e rest (pure is)) (rest_may k.p f e rest b.places direct pure may b.keeps)
      ss os τ held last (λ parts. go ((name_of f, v) ∷ parts)) (λ os2. next (l ∷ os2))
      (λ g2 ms2 parts us s3 w3 t3 os2 gg2 ee2 hh2 all have apart.
      let here = b.back g2 ms2 s3 w3 t3 hh2 in
      let st2 = stands_fit g2 v one.ty field.1 u one.fits (stands_grows g g2 v one.ty u gg2 st) in
      let own = owns k.p g2 ms2 s3 w3 t3 here.0 in
      more P (k.r + 6 + 50 * suc (length us)) (k.r + 50 + 6 + 50 * length us) n (rest_run (go ((name_of f, v) ∷ parts)) s3)
      (next (l ∷ os2) w3 t3) (omega arith)
      (onward g2 ms2 ((name_of f, v) ∷ parts) (u ∷ us) s3 w3 t3 (l ∷ os2) (grows_on k.h g g2 gg gg2) (extends_on k.types ms ms2 ee ee2) here.0
      (known.0, st2, stands_small P set k.p g2 ms2 s3 w3 t3 here.0 own v field.1 u one.has_values st2, all)
      (operand_is_had l u t3 here.1, have)
      (λ i low high. let a = later_rest.temps in (b.apart i (omega (arith, low, a)) high, apart i low high)))))))
    where
      rest_pure : (e : Exp) (rest : Inits) → (assigns_nothing e && inits_assign_nothing rest) ≡ true → inits_assign_nothing rest ≡ true
      rest_pure e rest is = (both_true (assigns_nothing e) (inits_assign_nothing rest) is).1

      first_may : (p : Part) (f : Ident) (e : Exp) (rest : Inits) → FieldsMayAssign p (init f e rest) → MayAssign P p e
      first_may p f e rest (inl is) = inl (both_true (assigns_nothing e) (inits_assign_nothing rest) is).0
      first_may p f e rest (inr none) = inr none

      rest_may : (p : Part) (f : Ident) (e : Exp) (rest : Inits) (places : Places) (direct : Bool) →
          (direct ≡ true → inits_assign_nothing (init f e rest) ≡ true) → FieldsMayAssign p (init f e rest) →
          ((direct ≡ true) ⊎ (NoneKept P p p.places → NoneKept P p places)) → FieldsMayAssign (placed p places) rest
      rest_may p f e rest places direct pure (inl is) keeps = inl (rest_pure e rest is)
      rest_may p f e rest places direct pure (inr none) (inl is) = inl (rest_pure e rest (pure is))
      rest_may p f e rest places direct pure (inr none) (inr on) = inr (on none)

-- operands stay where another temporary is set
have_apart : (os : List Operand) (us : List ℕ) (i a : ℕ) (t : Temps) → AreApart os i → OperandsHave os us t → OperandsHave os us (set_temp i a t)
have_apart [] [] i a t apart have = tt
have_apart [] (u ∷ us) i a t apart have = absurd have
have_apart (l ∷ os) [] i a t apart have = absurd have
have_apart (l ∷ os) (u ∷ us) i a t apart have = (one l apart.0 have.0, have_apart os us i a t apart.1 have.1)
  where
    one : (l : Operand) → IsApart l i → OperandHas l u t → OperandHas l u (set_temp i a t)
    one (Number n) apart has = has
    one (Kept j) apart has = ap (λ b. if b then Some a else t j.0) (ne_eqb j.0 i apart) ∙ has

operands_many : (os : List Operand) (us : List ℕ) (t : Temps) → OperandsHave os us t → length os ≡ length us
operands_many [] [] t have = refl
operands_many [] (u ∷ us) t have = absurd have
operands_many (l ∷ os) [] t have = absurd have
operands_many (l ∷ os) (u ∷ us) t have = ap suc (operands_many os us t have.1)

pub shape_values : (at : ℕ) (shapes : List (ℕ × Shape)) (one : Shape) → ShapesHaveValues shapes → looked_up at shapes ≡ Some one → ShapeHasValues one
shape_values at [] one all e = cc
shape_values at (first ∷ rest) one all e = by (first.0 == at) (λ g. shape_values at rest one all.1 g) e
  where
    shape_in : (a b : Shape) → Some a ≡ Some b → a ≡ b
    shape_in a b e = cc

    by : (b : Bool) → (looked_up at rest ≡ Some one → ShapeHasValues one) → (if b then Some first.1 else looked_up at rest) ≡ Some one → ShapeHasValues one
    by true k g = subst (λ o. ShapeHasValues o) (shape_in first.1 one g) all.0
    by false k g = k g

-- The creation of a record where it stands.
module _ (P : Program) (set : Setting P) (grow : StatesGrow P) (owns : Owns P) (n : ℕ) where
  -- what is shown of each field
  abbrev pub InitsShown : Inits → Type 0
  InitsShown no_inits = Unit {0}
  InitsShown (init f e rest) = Shown P n e × InitsShown rest

  fields_known : (scope : Scope) (c : Scene) (env : Env) (inits : Inits) (fs : List (ℕ × Ty)) → InitsShown inits →
      HasInits P.shapes P.notes inits fs scope → FieldsHaveValues fs → InitsOfWords inits →
      CoversInits P.findings P.table P.weight c.level c.keeps (levels_of env.entries) inits →
      FieldsKnown P set grow owns n scope c env inits fs
  fields_known scope c env _ _ shown has.end_inits values_ words covers = tt
  fields_known scope c env (init f e rest) (field ∷ fs) shown (has.an_init u is typed fits rest_typed) values_ words covers = (
    is,
    record {
      ty = u;
      shown = shown.0;
      typed = typed;
      fits = fits;
      words = words.0;
      covers = covers.0;
      has_values = values_.0;
    },
    fields_known scope c env rest fs shown.1 rest_typed values_.1 words.1 covers.1,
  )

  module _ (sp : Span) (name : Ident) (inits : Inits) (shown : InitsShown inits) where
    record MakeTyped (scope : Scope) (ty : Ty) : Type 0 where
      pub at : ℕ
      pub fs : List (ℕ × Ty)
      pub shape : looked_up at P.shapes ≡ Some (record_shape fs)
      pub typed : HasInits P.shapes P.notes inits fs scope
      pub result : ty ≡ record_type at

    make_typed : (scope : Scope) (ty : Ty) → Has P.shapes P.notes (Make sp name inits) scope ty → MakeTyped scope ty
    make_typed scope _ (has.make {at = at} fs shape typed) =
        record { at = at; fs = fs; shape = shape; typed = typed; result = refl }

    module _ (x : Situation P n (Make sp name inits)) where
      abbrev E_ : Exp
      E_ = Make sp name inits

      abbrev direct : Bool
      direct = inits_assign_nothing inits

      -- what it is made: the fields, and then the record
      abbrev stores_of : ℕ → List Operand → Stms
      stores_of i os = stm (Move i (space_for_record (length os))) (own_stores i 0 os)

      abbrev tree_of : ℕ → Stms → List Operand → Made
      tree_of i ss os = value (After (Seq (join_stms ss (stores_of i os))) (Temp i))

      tree_is : (i : ℕ) (ss : Stms) (os : List Operand) → record_of i (record { before = ss; operands = os }) ≡ tree_of i ss os
      tree_is i ss os =
          ap (λ o. value (After (Seq o) (Temp i)))
          (stores_are (join_stms ss (stm (Move i (space_for_record (length os))) no_stms)) i 0 os ∙
          join_stms-assoc ss (stm (Move i (space_for_record (length os))) no_stms) (own_stores i 0 os))

      abbrev here : Standing P set grow n
      here = record {
        p = x.p;
        σ = x.σ;
        τ = x.τ;
        h = x.h;
        types = x.types;
        r = x.r + 240;
        out = x.out;
        s = x.s;
        w = x.w;
        t = x.t;
        ready = x.ready;
        outward = λ g ms s w t loop gg ee hh.
            more P (x.r + left_over) (x.r + 240 + left_over) n (rest_run x.out s) (x.p.around.out x.p.within.leave w t) (omega arith)
            (x.outward g ms s w t loop gg ee hh);
        holds = x.holds;
      }

      abbrev makes : List (ℕ × Value) → Rest
      makes parts = E.make_record Passing (passing P.heap P.stack) parts x.go x.out

      pub make_shown : IsShown P n E_ x
      make_shown =
          let i = after_inv (made_fields P.findings inits direct none_held x.p.within x.σ) make_record x.m x.τ x.is_made in
          let s1 : TranslationState = i.1 in
          let j : ℕ = s1.frame.temps in
          let sh : TranslationState = with_frame (one_temp s1.frame) s1 in
          let h = fields_are P.findings x.p.within direct inits none_held x.σ i.0 s1 i.2 in
          let whole : drawn (tree_of j h.extra h.operands) sh ≡ drawn x.m x.τ =
          sym (ap (λ o. drawn o sh) (tree_is j h.extra h.operands)) ∙ (sym (ap (λ o. drawn (record_of j o) sh) h.is) ∙ i.3) in
          let last : Later sh x.τ = subst (λ o. Later sh o) (ap state_in whole) (later_none sh) in
          let last1 : Later s1 x.τ = later_on s1 sh x.τ (kept_later s1) last in
          let first : Later x.σ s1 = fields_later P set grow owns n x.p.within direct inits x.σ s1 h.extra h.operands h.held in
          let a = first.temps in
          let b = last.temps in
          let idle : x.p.places (temporary x.p.scene.depth j) ≡ nowhere = x.ready.temps_free j a (omega (arith, b)) in
          let typed = make_typed x.p.scope x.ty x.typed in
          let values_ : FieldsHaveValues typed.fs = shape_values typed.at P.shapes (record_shape typed.fs) set.shapes_have_values typed.shape in
          let known = fields_known x.p.scope x.p.scene x.p.env inits typed.fs shown typed.typed values_ x.words x.covers in
          by_made P n E_ x (tree_of j h.extra h.operands) sh whole tt
          (λ go' onward.
          let tail : Next = λ w1 t1. value_runs P x.p (Temp j) x.p.around go' w1 t1 in
          let next : List Operand → Next = λ os w1 t1. statements_run P x.p (stores_of j os) x.p.around tail w1 t1 in
          let c : Run Source = rest_run (evaluates_fields P set grow owns n inits x.p.env makes x.out) x.s in
          let d : Run Ran = value_runs P x.p (After (Seq (join_stms h.extra (stores_of j h.operands))) (Temp j)) x.p.around go' x.w x.t in
          let inner : Run Ran = statements_run P x.p (join_stms h.extra (stores_of j h.operands)) x.p.around tail x.w x.t in
          follows_along P.stack tree_work x.r n (λ i. costs 1 (c i)) (rest_run (evaluates P E_ x.p.env x.go x.out) x.s) d d
          (λ i. refl) (λ i. refl)
          (paid P x.r n c d
          (worked P (x.r + 250) (x.r + 256) 0 n c _ (omega arith)
          (worked P (x.r + 246) (x.r + 250) 0 n c inner (omega arith)
          (subst (λ o. FollowsHere P (x.r + 246) n c o) (sym (joined_runs P x.p h.extra (stores_of j h.operands) tail x.w x.t))
          (more P (x.r + 240 + 6) (x.r + 246) n c _ (omega arith)
          (fields_follow P set grow owns n here inits typed.fs known direct (λ is. is) x.may_assign h.extra h.operands s1 h.held last1 makes next
          (λ g ms parts us s w t os gg ee hh all have apart.
          let many = operands_many os us t have in
          let count = fields_many g parts typed.fs us all in
          more P (x.r + 66 + 12 * length us + 16) (x.r + 240 + 6 + 50 * length us) n (rest_run (makes parts) s) (next os w t) (omega arith)
          (record_follows P set x.p (x.r + 66) n x.go x.out tail g ms s w t hh (owns x.p g ms s w t hh) typed.at typed.fs typed.shape
          parts us os all j idle (many ∙ (count.1 ∙ sym count.0))
          (have_apart os us j (heap_base + length w.memory.heap) t (apart j (omega arith) (omega (arith, b))) have)
          (λ g2 s3 w3 gg2 hh2 v st.
          let a2 : ℕ = heap_base + length w.memory.heap in
          let t3 : Temps = set_temp j a2 t in
          worked P (x.r + left_over) (x.r + 66) 0 n (rest_run (x.go v) s3) (with_word (t3 j) w3 (λ u. go' u w3 t3)) (omega arith)
          (subst (λ o. FollowsHere P (x.r + left_over) n (rest_run (x.go v) s3) (with_word o w3 (λ u. go' u w3 t3))) (sym (set_here j a2 t))
          (onward g2 ms v a2 s3 w3 t3 (grows_on x.h g g2 gg gg2) ee hh2
          (wanted_of g2 x.wanted v x.ty a2 (subst (λ o. Stands g2 v o a2) (sym typed.result) st))))))))))))))
