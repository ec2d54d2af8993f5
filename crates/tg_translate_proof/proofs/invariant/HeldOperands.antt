-- Operands that are held for several uses: numbers, temporaries of variables, and words that are
-- kept in a temporary of their own.
use Rattle.std.proofs.Common.{◌≡◌, ◌≢◌, ℕ, zero, suc, ◌+◌, ◌<◌, ◌≤◌, List, Option, Some, None, Bool, true, false, refl, sym, ap, ◌∙◌, arith, subst, inl, inr, eq-eqb, eqb-true, ◌==◌}
use Rattle.std.specs.Prelude.{◌⊎◌, if◌then◌else◌}
use Rattle.tg_syntax.specs.Tree.{Exp}
use Rattle.tg_simulation.specs.Runs.{Run}
use Rattle.tg_simulation.specs.Ran.{Ran}
use Rattle.tg_simulation.specs.Agreement.{Source}
use Rattle.tg_semantics.specs.Values.{Value, SourceWorld}
use Rattle.tg_semantics.specs.Passing.{Rest}
use Rattle.tg_semantics.specs.MachineRuns.{rest_run}
use Rattle.tg_typecheck.specs.Types.{Ty, none_type}
use Rattle.tg_tree.specs.Tree.{Tx, Const, Address, Temp, FrameAddress, Binary, Load, LoadByte, Call, Service, After, Move, Stms, no_stms, stm}
use Rattle.tg_tree.specs.glue.Lists.{join_stms}
use Rattle.tg_tree.proofs.ListLaws.{join_stms-none}
use Rattle.tg_tree.specs.Actions.{World, Temps, set_temp, Go, Next, with_word}
use Rattle.tg_translate.specs.declared.operands.Operand.{Operand}
use Rattle.tg_translate.specs.declared.operands.Operand.TheVariants.{Number, Kept}
use Rattle.tg_translate.specs.declared.wants.Want.TheVariants as want
use Rattle.tg_translate.specs.mirror.States.{TranslationState, drawn, with_frame, one_temp}
use Rattle.tg_translate.specs.mirror.Wants.{Made, value, value_of, followed}
use Rattle.tg_translate.specs.mirror.Constructs.{Held, hold, keep, operand}
use Rattle.tg_translate.specs.mirror.Translate.{expression}
use Rattle.tg_translate_proof.specs.glue.Tables.{Later}
use Rattle.tg_translate_proof.specs.glue.Worlds.{Holdings, Stands, GrowsTo, temporary, nowhere, IsOf}
use Rattle.tg_translate_proof.specs.glue.Situations.{Program, Part, Setting, Holds, Extends, value_runs, statements_run}
use Rattle.tg_translate_proof.specs.glue.Shown.{FollowsHere, Onward, IsWanted, IsNamed, IsVariables}
use Rattle.tg_translate_proof.proofs.state.TranslationStates.{later_none, behind_none, front_none}
use Rattle.tg_translate_proof.proofs.invariant.Cases.{worked, set_here, holds_with_temp, grows_none}
use Rattle.tg_translate_proof.proofs.invariant.Parts.{StatesGrow, more, extends_none}
use Rattle.tg_translate_proof.proofs.invariant.Asked.{Standing, Asked, asked_value, asked_named, asked_source}
use Rattle.tg_translate_proof.proofs.invariant.LessWork.{follows_unworked, follows_wrong}

-- what an operand is, among temporaries
abbrev pub OperandIs : Operand → ℕ → Temps → Type 0
OperandIs (Number n) z t = n ≡ z
OperandIs (Kept i) z t = t i.0 ≡ Some z

-- How an expression is held: as a number, in a variable's temporary, or in its own.
pub data Holding : Tx → Type 0 where
  a_number : (n : ℕ) → Holding (Const n)
  a_temp : (i : ℕ) → Holding (Temp i)
  always : (x : Tx) → Holding x  -- kept, whatever it is
  another : (x : Tx) → ((direct : Bool) (before : Stms) (s : TranslationState) → hold direct before x s ≡ keep before x s) → Holding x

abbrev pub holding : (x : Tx) → Holding x
holding (Const n) = a_number n
holding (Temp i) = a_temp i
holding (Address l) = another (Address l) (λ d b s. refl)
holding FrameAddress = another FrameAddress (λ d b s. refl)
holding (Binary o x y) = another (Binary o x y) (λ d b s. refl)
holding (Load x) = another (Load x) (λ d b s. refl)
holding (LoadByte x) = another (LoadByte x) (λ d b s. refl)
holding (Call l xs) = another (Call l xs) (λ d b s. refl)
holding (Service n x) = another (Service n x) (λ d b s. refl)
holding (After y x) = another (After y x) (λ d b s. refl)

-- it needs a temporary of its own
abbrev pub IsAnother : (x : Tx) → Holding x → Type 0
IsAnother _ (a_number n) = ⊥
IsAnother _ (a_temp i) = ⊥
IsAnother x (always _) = Unit {0}
IsAnother x (another _ e) = Unit {0}

-- it is held as `hold` does
abbrev pub IsPlain : (x : Tx) → Holding x → Type 0
IsPlain x (always _) = ⊥
IsPlain _ (a_number n) = Unit {0}
IsPlain _ (a_temp i) = Unit {0}
IsPlain x (another _ e) = Unit {0}

pub holding_plain : (x : Tx) → IsPlain x (holding x)
holding_plain (Const n) = tt
holding_plain (Temp i) = tt
holding_plain (Address l) = tt
holding_plain FrameAddress = tt
holding_plain (Binary o x y) = tt
holding_plain (Load x) = tt
holding_plain (LoadByte x) = tt
holding_plain (Call l xs) = tt
holding_plain (Service n x) = tt
holding_plain (After y x) = tt

-- what the operand is where it is always kept
abbrev pub RightIs : (x : Tx) → TranslationState → Holding x → Operand → Type 0
RightIs x s (always _) o = o ≡ Kept (record { 0 = s.frame.temps })
RightIs _ s (a_number n) o = Unit {0}
RightIs _ s (a_temp i) o = Unit {0}
RightIs x s (another _ e) o = Unit {0}

-- the statements that hold one, which may be held directly, and what it is then
pub record HeldAs (x : Tx) (s : TranslationState) (hd : Holding x) : Type 0 where
  pub extra : Stms
  pub operand : Operand
  pub after : TranslationState
  pub later : Later s after
  pub is : IsPlain x hd → (before : Stms) → hold true before x s ≡ drawn (record { before = join_stms before extra; operand = operand }) after

pub kept_later : (s : TranslationState) → Later s (with_frame (one_temp s.frame) s)
kept_later s = record {
  temps = omega arith;
  slots = omega arith;
  homes = behind_none;
  callees = behind_none;
  literals = front_none;
  functions =
      front_none;
}

abbrev pub held_as : (x : Tx) (s : TranslationState) (hd : Holding x) → HeldAs x s hd
held_as _ s (a_number n) = record {
  extra = no_stms;
  operand = Number n;
  after = s;
  later = later_none s;
  is = λ plain b. ap (λ o. drawn (record { before = o; operand = Number n }) s)
      (sym (join_stms-none b));
}
held_as _ s (a_temp i) = record {
  extra = no_stms;
  operand = Kept (record { 0 = i });
  after = s;
  later = later_none s;
  is = λ plain b. ap (λ o. drawn (record { before = o; operand = Kept (record { 0 = i }) }) s) (sym (join_stms-none b));
}
held_as x s (another _ e) = record {
  extra = stm (Move s.frame.temps x) no_stms;
  operand = Kept (record { 0 = s.frame.temps });
  after = with_frame
      (one_temp s.frame) s;
  later = kept_later s;
  is = λ plain b. e true b s;
}
held_as x s (always _) = record {
  extra = stm (Move s.frame.temps x) no_stms;
  operand = Kept (record { 0 = s.frame.temps });
  after = with_frame
      (one_temp s.frame) s;
  later = kept_later s;
  is = λ plain b. absurd plain;
}

-- a temporary has this word
abbrev pub has_word : Option ℕ → ℕ → Bool
has_word (Some a) z = a == z
has_word None z = false

pub word_there : (o : Option ℕ) (z : ℕ) → has_word o z ≡ true → o ≡ Some z
word_there (Some a) z e = ap Some (eqb-true a z e)
word_there None z e = cc

module _ (P : Program) (set : Setting P) (grow : StatesGrow P) where
  -- an operand is a word
  pub operand_follows : (p : Part) (o : Operand) (z r n : ℕ) (c : Run Source) (go : Go ℕ) (w : World) (t : Temps) → OperandIs o z t →
      FollowsHere P r n c (go z w t) →
      FollowsHere P (r + 2) n c (value_runs P p (operand o) p.around go w t)
  operand_follows p (Number k) z r n c go w t is f = worked P r (r + 2) 2 n c (go k w t) (omega arith) (subst (λ o. FollowsHere P r n c (go o w t))
      (sym is) f)
  operand_follows p (Kept i) z r n c go w t is f =
      worked P r (r + 2) 0 n c (with_word (t i.0) w (λ u. go u w t)) (omega arith) (subst (λ o. FollowsHere P r n c (with_word o w (λ u. go u w t)))
      (sym is) f)

  -- After an expression that is held: what comes next is told the operand, which is its word then.
  abbrev pub HeldOnward : (n r : ℕ) → Part → Holdings → List Ty → Ty → (Value → Rest) → (Operand → Type 0) → (Operand → Next) → Type 0
  HeldOnward n r p h types ty go Right next =
      (g : Holdings) (ms : List Ty) (v : Value) (z : ℕ) (s : SourceWorld) (w : World) (t : Temps) (o : Operand) → GrowsTo h g → Extends types ms →
      Holds P p g ms s w t → Stands g v ty z →
      OperandIs o z t → Right o → FollowsHere P r n (rest_run (go v) s) (next o w t)

  pub held_follows : (n : ℕ) (k : Standing P set grow n) (e : Exp) (ty : Ty) (q : Asked P set grow n k e ty) (go : Value →
      Rest) (m : Made) (s1 s2 sh : TranslationState) (y : Tx) → ty ≢ none_type →
      expression P.findings e want.Value k.p.within k.σ ≡ drawn m s1 → value_of m s1 ≡ drawn y s2 → Later s2 k.τ →
      (hd : Holding y) → (IsAnother y hd → k.p.places (temporary k.p.scene.depth sh.frame.temps) ≡ nowhere) → (next : Operand → Next) →
      HeldOnward n k.r k.p k.h k.types ty go (λ o. RightIs y sh hd o) next →
      FollowsHere P (k.r + 6) n (asked_source P set grow n k e ty q go) (statements_run P k.p (held_as y sh hd).extra k.p.around (next
      (held_as y sh hd).operand) k.w k.t)
  held_follows n k e ty q go m s1 s2 sh _ able made made_y last (a_number j) idle next onward =
      more P (k.r + 4) (k.r + 6) n _ _ (omega arith)
      (follows_unworked P.stack _ (k.r + 4) n 2 _ (next (Number j) k.w k.t)
      (asked_value P set grow n k e ty q go want.Value m s1 (Const j) s2 tt able made made_y last (λ z w t. next (Number z) w t)
      (λ g ms v z s w t gg ee hh st. more P k.r (k.r + 56) n _ _ (omega arith) (onward g ms v z s w t (Number z) gg ee hh st refl tt))))
  held_follows n k e ty q go m s1 s2 sh _ able made made_y last (another y is) idle next onward =
      let i : ℕ = sh.frame.temps in
      worked P (k.r + 4) (k.r + 6) 2 n _ _ (omega arith)
      (asked_value P set grow n k e ty q go want.Value m s1 y s2 tt able made made_y last (λ z w t. next (Kept (record { 0 = i })) w (set_temp i z t))
      (λ g ms v z s w t gg ee hh st.
      more P k.r (k.r + 56) n _ _ (omega arith)
      (onward g ms v z s w (set_temp i z t) (Kept (record { 0 = i })) gg ee (holds_with_temp P k.p g ms s w t i z (idle tt) hh) st (set_here i z t) tt)))
  held_follows n k e ty q go m s1 s2 sh _ able made made_y last (always y) idle next onward =
      let i : ℕ = sh.frame.temps in
      worked P (k.r + 4) (k.r + 6) 2 n _ _ (omega arith)
      (asked_value P set grow n k e ty q go want.Value m s1 y s2 tt able made made_y last (λ z w t. next (Kept (record { 0 = i })) w (set_temp i z t))
      (λ g ms v z s w t gg ee hh st.
      more P k.r (k.r + 56) n _ _ (omega arith)
      (onward g ms v z s w (set_temp i z t) (Kept (record { 0 = i })) gg ee (holds_with_temp P k.p g ms s w t i z (idle tt) hh) st (set_here i z t) refl)))
  held_follows n k e ty q go m s1 s2 sh _ able made made_y last (a_temp j) idle next onward =
      let source = asked_source P set grow n k e ty q go in
      let chosen : Go ℕ = λ z w t. (if has_word (t j) z then next (Kept (record { 0 = j })) else next (Number z)) w t in
      more P (k.r + 4) (k.r + 6) n source _ (omega arith)
      (by_word (k.t j) refl
      (asked_value P set grow n k e ty q go want.Value m s1 (Temp j) s2 tt able made made_y last chosen
      (λ g ms v z s w t gg ee hh st. more P k.r (k.r + 56) n _ _ (omega arith) (choose g ms v z s w t gg ee hh st (has_word (t j) z) refl))))
    where
      choose : (g : Holdings) (ms : List Ty) (v : Value) (z : ℕ) (s : SourceWorld) (w : World) (t : Temps) → GrowsTo k.h g → Extends k.types ms →
          Holds P k.p g ms s w t → Stands g v ty z →
          (b : Bool) → has_word (t j) z ≡ b → FollowsHere P k.r n (rest_run (go v) s) ((if b then next (Kept (record { 0 = j })) else next (Number z)) w t)
      choose g ms v z s w t gg ee hh st true e = onward g ms v z s w t (Kept (record { 0 = j })) gg ee hh st (word_there (t j) z e) tt
      choose g ms v z s w t gg ee hh st false e = onward g ms v z s w t (Number z) gg ee hh st refl tt

      by_word : (o : Option ℕ) → k.t j ≡ o →
          FollowsHere P (k.r + 4) n (asked_source P set grow n k e ty q go)
          (value_runs P k.p (Temp j) k.p.around (λ z w t. (if has_word (t j) z then next (Kept (record { 0 = j })) else next (Number z)) w t) k.w k.t) →
          FollowsHere P (k.r + 4) n (asked_source P set grow n k e ty q go) (next (Kept (record { 0 = j })) k.w k.t)
      by_word None is f =
          follows_wrong P.stack _ (k.r + 4) n _ k.w (next (Kept (record { 0 = j })) k.w k.t)
          (subst (λ o. FollowsHere P (k.r + 4) n (asked_source P set grow n k e ty q go) (with_word o k.w (λ u. (if has_word (k.t j) u then next (Kept
          (record { 0 = j })) else next (Number u)) k.w k.t))) is
          (follows_unworked P.stack _ (k.r + 4) n 0 _ (with_word (k.t j) k.w (λ u. (if has_word (k.t j) u then next (Kept
          (record { 0 = j })) else next (Number u)) k.w k.t)) f))
      by_word (Some a) is f =
          let here : has_word (k.t j) a ≡ true = ap (λ o. has_word o a) is ∙ eq-eqb a a refl in
          subst (λ b. FollowsHere P (k.r + 4) n (asked_source P set grow n k e ty q go) ((if b then next (Kept (record { 0 = j })) else next
          (Number a)) k.w k.t)) here
          (subst (λ o. FollowsHere P (k.r + 4) n (asked_source P set grow n k e ty q go) (with_word o k.w (λ u. (if has_word (k.t j) u then next (Kept
          (record { 0 = j })) else next (Number u)) k.w k.t))) is
          (follows_unworked P.stack _ (k.r + 4) n 0 _ (with_word (k.t j) k.w (λ u. (if has_word (k.t j) u then next (Kept
          (record { 0 = j })) else next (Number u)) k.w k.t)) f))
