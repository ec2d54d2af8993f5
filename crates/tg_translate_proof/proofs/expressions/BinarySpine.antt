-- Expressions that begin with a read whose value is known: operators, the left one of the left one and
-- so on, up to that read. Each is shown as it is translated after the read.
use Rattle.std.proofs.Common.{◌≡◌, ℕ, ◌+◌, ◌≤◌, List, Bool, true, false, refl, sym, ap, ◌∙◌, arith, subst}
use Rattle.tg_base.specs.declared.ids.Span.{Span}
use Rattle.tg_syntax.specs.declared.trees.Op.{Op}
use Rattle.tg_syntax.specs.declared.trees.Op.TheVariants as op
use Rattle.tg_syntax.specs.Tree.{Exp, Nil, Break, Int, Text, Read, Call, Neg, Binary, Make, Fill, Assign, If, When, While, For, Let, Seq, LValue}
use Rattle.tg_simulation.specs.Runs.{Run}
use Rattle.tg_simulation.specs.Ran.{Ran}
use Rattle.tg_simulation.proofs.Following.{follows_along}
use Rattle.tg_semantics.specs.Values.{Value, SourceWorld}
use Rattle.tg_semantics.specs.Evaluation.{Location}
use Rattle.tg_semantics.specs.Passing.{Rest}
use Rattle.tg_semantics.specs.MachineRuns.{rest_run}
use Rattle.tg_typecheck.specs.declared.notes.Means.TheVariants as means
use Rattle.tg_typecheck.specs.Types.{Ty, int_type, string_type}
use Rattle.tg_typecheck.specs.Scopes.{Scope}
use Rattle.tg_typecheck.specs.Has as has
use Rattle.tg_typecheck.specs.Has.{Has, SaysOf, Alike, records, arrays, nil_and, and_nil}
use Rattle.tg_tree.specs.Tree.{Tx, Load}
use Rattle.tg_tree.specs.Units.{Trees}
use Rattle.tg_tree.specs.Sizes.{expression_length}
use Rattle.tg_tree.specs.Shapes.{IsFlat}
use Rattle.tg_tree.specs.Memory.{load}
use Rattle.tg_tree.specs.FlatValue.{or_wrong, onward}
use Rattle.tg_tree.specs.Actions.{World, Temps}
use Rattle.tg_translate.specs.mirror.Wants.{value}
use Rattle.tg_translate.specs.mirror.Updates.{begins_with, is_same_place}
use Rattle.tg_translate.specs.mirror.Translate.{behind_read}
use Rattle.tg_correctness.specs.laws.Laws.{tree_work}
use Rattle.tg_translate_proof.specs.glue.Worlds.{Holdings, Stands}
use Rattle.tg_translate_proof.specs.glue.Situations.{Program, Part, Setting, IsCovered, value_runs}
use Rattle.tg_translate_proof.specs.glue.Shown.{SituationBy, IsShown, Shown, FollowsHere, left_over, evaluates}
use Rattle.tg_translate_proof.proofs.invariant.Cases.{by_made, wanted_of, grows_none}
use Rattle.tg_translate_proof.proofs.invariant.Parts.{StatesGrow, extends_none}
use Rattle.tg_translate_proof.proofs.expressions.BinaryLeft.{LeftSide, binary_by}
use Rattle.tg_translate_proof.proofs.state.StaticLinks.{flat_follows}
use Rattle.tg_translate_proof.proofs.expressions.LValueAddress.{IsAt, AddressIs, Premises, reads}
use Rattle.tg_translate_proof.proofs.expressions.LValueAccess.{read_at}
use Rattle.tg_translate_proof.proofs.state.StatesGrow.{behind_grows_read, grows_by}
use Rattle.tg_translate_proof.proofs.expressions.BinaryPlusMinus.{plus_by, minus_by}
use Rattle.tg_translate_proof.proofs.expressions.BinaryTimes.{times_by}
use Rattle.tg_translate_proof.proofs.expressions.BinaryDivide.{divide_by}
use Rattle.tg_translate_proof.proofs.expressions.BinaryIntComparisons.{equal_by, not_equal_by, less_by, less_equal_by, greater_by, greater_equal_by}
use Rattle.tg_translate_proof.proofs.expressions.BinaryAndOr.{and_from, or_from}
use Rattle.tg_translate_proof.proofs.expressions.BinaryRights.{RightsShown}

-- the expression that it begins with
abbrev pub leaf : Exp → Exp
leaf (Binary sp o at a b) = leaf a
leaf e = e

abbrev pub is_binary : Exp → Bool
is_binary (Binary sp o at a b) = true
is_binary e = false

module _ (P : Program) (v : LValue) where
  -- an expression that begins with a read of the l-value
  pub data Spine : Exp → Type 0 where
    first : (sp : Span) (w : LValue) → is_same_place P.findings.meaning v w ≡ true → Spine (Read sp w)
    operator : (sp : Span) (o : Op) (at : ℕ) (a b : Exp) → Spine a → Spine (Binary sp o at a b)

  pub spine_of : (e : Exp) → begins_with P.findings.meaning e v ≡ true → Spine e
  spine_of (Read sp w) e = first sp w e
  spine_of (Binary sp o at a b) e = operator sp o at a b (spine_of a e)
  spine_of (Nil s0) e = cc
  spine_of (Break s0) e = cc
  spine_of (Int s0 k0) e = cc
  spine_of (Text s0 k0) e = cc
  spine_of (Call s0 f0 k0) e = cc
  spine_of (Neg s0 k0) e = cc
  spine_of (Make s0 f0 k0) e = cc
  spine_of (Fill s0 f0 k0 d0) e = cc
  spine_of (Assign s0 k0 d0) e = cc
  spine_of (If s0 c0 k0 d0) e = cc
  spine_of (When s0 c0 d0) e = cc
  spine_of (While s0 c0 d0) e = cc
  spine_of (For s0 f0 k0 c0 d0) e = cc
  spine_of (Let s0 k0 d0) e = cc
  spine_of (Seq s0 d0) e = cc

  -- the read
  pub record Leaf (e : Exp) : Type 0 where
    pub sp : Span
    pub w : LValue
    pub same : is_same_place P.findings.meaning v w ≡ true
    pub is : leaf e ≡ Read sp w

  pub leaf_of : (e : Exp) → Spine e → Leaf e
  leaf_of _ (first sp w same) = record { sp = sp; w = w; same = same; is = refl }
  leaf_of _ (operator sp o at a b q) = let x = leaf_of a q in record { sp = x.sp; w = x.w; same = x.same; is = x.is }

  -- it is covered, and has a type, as the whole does

  pub leaf_covered : (p : Part) (e : Exp) → Spine e → IsCovered P p e → IsCovered P p (leaf e)
  leaf_covered p _ (first sp w same) c = c
  leaf_covered p _ (operator sp o at a b q) c = leaf_covered p a q c.0

  left_typed : (sp : Span) (o : Op) (at : ℕ) (a b : Exp) (scope : Scope) (t : Ty) → Has P.shapes P.notes (Binary sp o at a b) scope t → (u : Ty) × Has P.shapes P.notes a scope u
  left_typed sp o at a b scope t (has.ints says ha hb) = (int_type, ha)
  left_typed sp o at a b scope t (has.strings compares says ha hb) = (string_type, ha)
  left_typed sp o at a b scope t (has.same identifies alike says ha hb) = (_, ha)

  pub leaf_typed : (scope : Scope) (e : Exp) (t : Ty) → Spine e → Has P.shapes P.notes e scope t → (u : Ty) × Has P.shapes P.notes (leaf e) scope u
  leaf_typed scope _ t (first sp w same) h = (t, h)
  leaf_typed scope _ t (operator sp o at a b q) h =
      let x = left_typed sp o at a b scope t h in
      leaf_typed scope a x.0 q x.1

  pub operator_int : (sp : Span) (o : Op) (at : ℕ) (a b : Exp) (scope : Scope) (t : Ty) → Has P.shapes P.notes (Binary sp o at a b) scope t → t ≡ int_type
  operator_int sp o at a b scope _ (has.ints says ha hb) = refl
  operator_int sp o at a b scope _ (has.strings compares says ha hb) = refl
  operator_int sp o at a b scope _ (has.same identifies alike says ha hb) = refl

  pub binary_int : (scope : Scope) (e : Exp) (t : Ty) → Spine e → is_binary e ≡ true → Has P.shapes P.notes e scope t → t ≡ int_type
  binary_int scope _ t (first sp w same) is h = cc
  binary_int scope _ t (operator sp o at a b q) is h = operator_int sp o at a b scope t h

  -- where the read is an int, so is each expression that begins with it
  spine_int : (scope : Scope) (e : Exp) (t : Ty) → Spine e → ((u : Ty) → Has P.shapes P.notes (leaf e) scope u → u ≡ int_type) → Has P.shapes P.notes e scope t → t ≡ int_type
  spine_int scope _ t (first sp w same) typed h = typed t h
  spine_int scope _ t (operator sp o at a b q) typed h = operator_int sp o at a b scope t h

  -- the sides of an operator whose left one is an int
  record IntSides (o : Op) (at : ℕ) (a b : Exp) (scope : Scope) (t : Ty) : Type 0 where
    is_int : t ≡ int_type
    says : SaysOf P.notes o at means.Number
    left_int : Has P.shapes P.notes a scope int_type
    right_int : Has P.shapes P.notes b scope int_type

  none_alike : (t u : Ty) → Alike t u → t ≡ int_type → ⊥
  none_alike _ _ (records {at = at}) e = cc
  none_alike _ _ (arrays {at = at}) e = cc
  none_alike _ _ (nil_and {at = at}) e = cc
  none_alike _ _ (and_nil {at = at}) e = cc

  int_sides : (sp : Span) (o : Op) (at : ℕ) (a b : Exp) (scope : Scope) (t : Ty) → ((u : Ty) → Has P.shapes P.notes a scope u → u ≡ int_type) →
      Has P.shapes P.notes (Binary sp o at a b) scope t → IntSides o at a b scope t
  int_sides sp o at a b scope _ left (has.ints says ha hb) = record { is_int = refl; says = says; left_int = ha; right_int = hb }
  int_sides sp o at a b scope _ left (has.strings compares says ha hb) = let e = left string_type ha in absurd (let f : string_type ≡ int_type = e in cc)
  int_sides sp o at a b scope _ left (has.same {t = t} {u = u} identifies alike says ha hb) = absurd (none_alike t u alike (left t ha))

module _ (P : Program) (set : Setting P) (grow : StatesGrow P) (n : ℕ) where
  -- an operator on ints, whose left side is translated somehow
  ints_shown : (sp : Span) (o : Op) (at : ℕ) (a b : Exp) (left : LeftSide P n a) → Shown P n b → (y : SituationBy P n (Binary sp o at a b) (binary_by P o at b left.by)) →
      left.here y.p y.h y.types y.s y.w y.t → y.ty ≡ int_type → SaysOf P.notes o at means.Number → Has P.shapes P.notes a y.p.scope int_type →
      Has P.shapes P.notes b y.p.scope int_type → IsShown P n (Binary sp o at a b) y
  ints_shown sp op.Plus at a b left show_b y starts is_int says ta tb = plus_by P set grow n sp at a b left show_b y starts is_int ta tb
  ints_shown sp op.Minus at a b left show_b y starts is_int says ta tb = minus_by P set grow n sp at a b left show_b y starts is_int ta tb
  ints_shown sp op.Times at a b left show_b y starts is_int says ta tb = times_by P set grow n sp at a b left show_b y starts is_int ta tb
  ints_shown sp op.Divide at a b left show_b y starts is_int says ta tb = divide_by P set grow n sp at a b left show_b y starts is_int ta tb
  ints_shown sp op.Equal at a b left show_b y starts is_int says ta tb = equal_by P set grow n sp at a b left show_b says y starts is_int ta tb
  ints_shown sp op.NotEqual at a b left show_b y starts is_int says ta tb = not_equal_by P set grow n sp at a b left show_b says y starts is_int ta tb
  ints_shown sp op.Less at a b left show_b y starts is_int says ta tb = less_by P set grow n sp at a b left show_b says y starts is_int ta tb
  ints_shown sp op.LessEqual at a b left show_b y starts is_int says ta tb = less_equal_by P set grow n sp at a b left show_b says y starts is_int ta tb
  ints_shown sp op.Greater at a b left show_b y starts is_int says ta tb = greater_by P set grow n sp at a b left show_b says y starts is_int ta tb
  ints_shown sp op.GreaterEqual at a b left show_b y starts is_int says ta tb = greater_equal_by P set grow n sp at a b left show_b says y starts is_int ta tb
  ints_shown sp op.And at a b left show_b y starts is_int says ta tb = and_from P set grow n sp at a b left show_b y starts is_int ta tb
  ints_shown sp op.Or at a b left show_b y starts is_int says ta tb = or_from P set grow n sp at a b left show_b y starts is_int ta tb

module _ (P : Program) (set : Setting P) (premises : Premises P) (grow : StatesGrow P) (n : ℕ) (v : LValue) (ty : Ty) (address : Tx) (flat : IsFlat address)
    (short : expression_length Trees address ≤ 8) where
  -- What is known where such an expression begins: the read gives what stands at the address.
  pub record ReadHere (f : Exp) (p : Part) (h : Holdings) (types : List Ty) (s : SourceWorld) (w : World) (t : Temps) : Type 0 where
    pub location : Location
    pub u : ℕ
    pub at : IsAt P p.places h types location ty u
    pub is : AddressIs P p w t address u
    pub typed : (t2 : Ty) → Has P.shapes P.notes f p.scope t2 → ty ≡ t2
    pub gives :
        (r : ℕ) (go : Value → Rest) (out : Rest) (d : Run Ran) → FollowsHere P (r + 256) n (rest_run (reads P location go out) s) d →
        FollowsHere P r n (rest_run (evaluates P f p.env go out) s) d

  -- the read itself
  leaf_shown : (sp : Span) (w : LValue) (y : SituationBy P n (Read sp w) (λ w1 within. behind_read P.findings (Read sp w) (Load address) w1 within)) →
      ReadHere (Read sp w) y.p y.h y.types y.s y.w y.t → IsShown P n (Read sp w) y
  leaf_shown sp w y c =
      let z = read_at P set premises y.p y.h y.types y.s y.w y.t y.holds c.location ty c.u c.at in
      let loaded : AddressIs P y.p y.w y.t (Load address) z.word = ap (λ g. onward g (λ a. or_wrong (load y.w.memory a))) c.is ∙ ap or_wrong z.there in
      by_made P n (Read sp w) y (value (Load address)) y.σ y.is_made tt
      (λ go' onward_.
      let d : Run Ran = value_runs P y.p (Load address) y.p.around go' y.w y.t in
      c.gives y.r y.go y.out d
      (follows_along P.stack tree_work (y.r + 256) n (rest_run (y.go z.v) y.s) (rest_run (reads P c.location y.go y.out) y.s) d d (λ i. z.gives y.go y.out i) (λ i. refl)
      (flat_follows P y.p (Load address) z.word (y.r + left_over) (y.r + 256) n go' y.w y.t (rest_run (y.go z.v) y.s) flat loaded (omega (arith, short))
      (onward_ y.h y.types z.v z.word y.s y.w y.t (grows_none y.h) (extends_none y.types) y.holds
      (wanted_of y.h y.wanted z.v y.ty z.word (subst (λ o. Stands y.h z.v o z.word) (c.typed y.ty y.typed) z.stands))))))

  -- an expression that begins so, as a left side
  abbrev side_of : (e : Exp) →
      ((y : SituationBy P n e (λ w within. behind_read P.findings e (Load address) w within)) → ReadHere (leaf e) y.p y.h y.types y.s y.w y.t → IsShown P n e y) → LeftSide P n e
  side_of e shown = record {
    by = λ w within. behind_read P.findings e (Load address) w within;
    grows = λ wanted within m s t made. grows_by (behind_grows_read P.findings e (Load address) wanted within s) made;
    here = ReadHere (leaf e);
    shown = shown;
  }

  -- it is shown; where there is an operator, the read is an int
  pub spine_shown : (e : Exp) → Spine P v e → RightsShown P n e → (is_binary e ≡ true → ty ≡ int_type) →
      (y : SituationBy P n e (λ w within. behind_read P.findings e (Load address) w within)) → ReadHere (leaf e) y.p y.h y.types y.s y.w y.t → IsShown P n e y
  spine_shown _ (first sp w same) rights is_int y c = leaf_shown sp w y c
  spine_shown _ (operator sp o at a b q) rights is_int y c =
      let int_here : ty ≡ int_type = is_int refl in
      let k = int_sides P v sp o at a b y.p.scope y.ty
      (λ u h. spine_int P v y.p.scope a u q (λ u2 h2. sym (c.typed u2 h2) ∙ int_here) h) y.typed in
      ints_shown P set grow n sp o at a b (side_of a (λ y2 c2. spine_shown a q rights.0 (λ _. int_here) y2 c2)) rights.1 y c k.is_int k.says k.left_int k.right_int
