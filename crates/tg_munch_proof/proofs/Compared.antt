-- Comparisons of two flat expressions, whichever side is short.
use Rattle.tg_munch_proof.specs.laws.Values.{Forked, Compares}
use Rattle.std.proofs.Common.{◌∙◌, ◌≡◌, ◌≤◌, ℕ, ◌+◌, ◌++◌, append_assoc, Bool, refl, sym, ap, subst, arith}
use Rattle.std.proofs.lemmas.Bool.Decides.{nat_tests}
use Rattle.std.specs.Prelude.{◌==◌, ◌&&◌, not, false, true, Some, None, if◌then◌else◌}
use Rattle.tg_base.specs.Words.{flag}
use Rattle.tg_simulation.specs.Runs.{Run}
use Rattle.tg_simulation.specs.Ran.{Ran}
use Rattle.tg_tree.specs.Tree as tree
use Rattle.tg_tree.specs.Tree.{Tx}
use Rattle.tg_tree.specs.Shapes.{IsFlat}
use Rattle.tg_tree.specs.Memory.{Memory}
use Rattle.tg_tree.specs.declared.operators.Rel.{Rel}
use Rattle.tg_tree.specs.declared.operators.Rel.TheVariants as rel
use Rattle.tg_tree.specs.Operators.{Given, word, stops_by, holds}
use Rattle.tg_tree.specs.FlatValue.{onward, after_word}
use Rattle.tg_tree.specs.Actions.{World, Temps}
use Rattle.tg_instr.specs.declared.operands.Opnd.{Opnd}
use Rattle.tg_instr.specs.Shapes.{Operand}
use Rattle.tg_instr.specs.Contents.{Word, Contents, held}
use Rattle.tg_instr.specs.declared.instr.Instr.TheVariants.{Mfhi}
use Rattle.tg_instr.specs.Shapes.{Hi}
use Rattle.tg_instr.specs.Contents.{set}
use Rattle.tg_munch.specs.mirror.Choosing.{defining}
use Rattle.tg_munch.specs.mirror.Munching.{temp, compared_in_hi}
use Rattle.tg_munch_proof.specs.Words.{IsWord, HasWords}
use Rattle.tg_munch_proof.specs.glue.Places.{Does, gives, Place, Behaves, IsPart, goes, Walks}
use Rattle.tg_munch_proof.specs.laws.Values.{Result, IsOld, Sees, Known, fork, Scene}
use Rattle.tg_munch_proof.proofs.Behaving.{so, from1, later_part, known, does_so}
use Rattle.tg_munch_proof.proofs.Branching.{Forks, branch_on_forks, zero_forks, short_forks}
use Rattle.tg_munch_proof.proofs.Does.{does_within, does_onward}
use Rattle.tg_munch_proof.proofs.Expressions.{known_on, onward_same, value, spent}
use Rattle.tg_munch_proof.proofs.Loading.{expression_does, as_side}
use Rattle.tg_munch_proof.proofs.Results.{finish, own, stay_on, survives}
use Rattle.tg_munch.specs.mirror.Choosing.{Choice, NumbersDrawn, ◌>>=◌}
use Rattle.tg_munch.specs.mirror.Comparing.{against, short_side, short_field, branch_short, branch_on, turned, can_turn}
use Rattle.tg_munch.specs.mirror.Comparing.{is_constant, is_turned}
use Rattle.tg_munch.specs.mirror.Munching.{expression, compared_with, compared, branch}

no : false ≡ true → ⊥
no e = cc

flag_is : (b : Bool) → b ≡ (flag b == 1)
flag_is true = refl
flag_is false = refl

module _ (p : Place) (x : World) where
  forks_compare : (c : Choice (Unit {0})) (d : NumbersDrawn) (s : Contents) (k : ℕ) (b : Bool) (m : ℕ) → Forks p x c d s k b
      m → Compares p x c d s k (word (flag b)) m
  forks_compare c d s k b m h rest part =
      let q = h rest in
      gives k (flag b) (goes p x ((c d).code ++ rest) s) (fork p x b m rest q.0) q.2
      (record { contents = q.0; stay = q.1; is = ap (λ i. fork p x i m rest q.0) (flag_is b) })

  -- after a side
  side_then : (first : Choice Opnd) (next : Opnd → Choice (Unit {0})) (d : NumbersDrawn) (s : Contents) (k l : ℕ) (g :
      Given) (h : ℕ → Given) (m : ℕ) →
      Behaves p x first d s k g (Result p.activation d None s) →
      ((v : ℕ) (s1 : Contents) → g ≡ word v → Result p.activation d None s (first d).value (first d).drawn v s1 →
      Compares p x (next (first d).value) (first d).drawn s1 l (h v) m) →
      Compares p x (first >>= next) d s (k + after_word g l) (onward g h) m
  unfolding ◌>>=◌
  side_then first next d s k l g h m one two rest part =
      let a = first d in
      let b = next a.value a.drawn in
      let same = append_assoc a.code b.code rest in
      let there : IsPart p (a.code ++ (b.code ++ rest)) = subst (λ xs. IsPart p xs) same part in
      subst (λ xs. Does x (λ w e. Forked p x (w == 1) m rest d s e) (k + after_word g l) (goes p x xs s) (onward g
      h)) (sym same)
      (does_onward x _ _ k l _ g h (known p x first d s k g (Result p.activation d None s) one (b.code ++ rest) there)
      (λ v e q. subst (λ c. Does x (λ w e. Forked p x (w == 1) m rest d s e) l c (h v)) (sym q.is)
      (back q.contents v q.holds.1 (h v) l (two v q.contents q.holds.0 q.holds.1 rest (later_part p a.code (b.code ++
      rest) there)))))
    where
      back : (s1 : Contents) (v : ℕ) → Result p.activation d None s (first d).value (first d).drawn v s1 → (g1 :
          Given) (l1 : ℕ) → {c : Run Ran} →
          Does x (λ w e. Forked p x (w == 1) m rest (first d).drawn s1 e) l1 c g1 → Does x (λ w e. Forked p x (w ==
          1) m rest d s e) l1 c g1
      back s1 v q g1 l1 {c} h1 =
          does_so p x l1 c g1 h1
          (λ w e f. record {
            contents = f.contents;
            stay = stay_on d.temp (first d).drawn.temp s s1 f.contents
                q.drawn q.stay f.stay;
            is = f.is;
          })

module _ (scene : Scene) where
  abbrev place : Place
  place = scene.place

  abbrev world : World
  world = scene.world

  abbrev memory : Memory
  memory = scene.memory

  abbrev temps : Temps
  temps = scene.temps

  abbrev slots : ℕ
  slots = scene.slots

  abbrev walks : Walks place
  walks = scene.walks

  abbrev sees : Sees place world memory temps slots
  sees = scene.sees

  abbrev val : Tx → Given
  val e = value scene e

  abbrev units : Tx → ℕ
  units e = spent scene e

  -- an operand and a right side
  with_right : (r : Rel) (a : Opnd) (y : Tx) (mark u : ℕ) (d : NumbersDrawn) (s : Contents) → IsFlat y → HasWords y → IsWord
      u → Known temps d s →
      IsOld d.temp a → held place.activation s (Operand a) ≡ Word u →
      Compares place world (compared_with slots r a y mark) d s (units y + after_word (val y) 2) (onward (val y) (λ v. word
      (flag (holds r u v)))) mark
  with_right r a y mark u d s flat small word_u known old ha = by (short_side r y) refl
    where
      none_is_some : {I : Type 0} (a : I) → None ≡ Some a → ⊥
      none_is_some a e = cc

      zero_is : (n : ℕ) → (n == 0) ≡ true → 0 ≡ n
      zero_is n e = grind (arith, nat_tests)

      in_const : (n : ℕ) (one : _) → IsWord n → (b : Bool) → (n == 0) ≡ b → (if b then short_side r (tree.Const 0)
          else short_field r n) ≡ Some one →
          Forks place world (branch_short r one a mark) d s 2 (holds r u n) mark
      in_const n one hn true z e =
          subst (λ i. Forks place world (branch_short r one a mark) d s 2 (holds r u i) mark) (zero_is n z)
          (in_zero one e)
        where
          in_zero : (one : _) → short_side r (tree.Const 0) ≡ Some one → Forks place world (branch_short r one a mark) d s 2
              (holds r u 0) mark
          in_zero one e = subst (λ o. Forks place world (branch_short r o a mark) d s 2 (holds r u 0) mark) (same _ one e)
              (zero_forks place world r a mark u d s ha)
            where
              same : {I : Type 0} (i j : I) → Some i ≡ Some j → i ≡ j
              same i j q = cc
      in_const n one hn false z e = short_forks place world r n one a mark u d s hn word_u e ha

      in_short : (z : Tx) (one : _) → HasWords z → short_side r z ≡ Some one →
          Compares place world (branch_short r one a mark) d s (units z + after_word (val z) 2) (onward (val z) (λ v. word
          (flag (holds r u v)))) mark
      in_short (tree.Const n) one hz e =
          within_more 2 4 (omega arith) (forks_compare place world (branch_short r one a mark) d s 2 (holds r u n) mark
          (in_const n one hz (n == 0) refl (turn (n == 0) refl)))
        where
          within_more : (k l : ℕ) → k ≤ l → Compares place world (branch_short r one a mark) d s k (word (flag (holds r u
              n))) mark →
              Compares place world (branch_short r one a mark) d s l (word (flag (holds r u n))) mark
          within_more k l le h rest part = does_within world _ k l _ _ le (h rest part)

          turn : (b : Bool) → (n == 0) ≡ b → (if (n == 0) then short_side r (tree.Const 0) else short_field r n) ≡
              Some one
          turn b z = e
      in_short _ one hz e = absurd (none_is_some one e)

      by : (o : _) → short_side r y ≡ o →
          Compares place world (against r o a (expression slots y None) mark) d s (units y + after_word (val y) 2) (onward
          (val y) (λ v. word (flag (holds r u v)))) mark
      by (Some one) e = in_short y one small e
      by None e =
          side_then place world (expression slots y None) (λ b. branch_on r a b mark) d s (units y) 2 (val y) (λ v. word
          (flag (holds r u v))) mark
          (as_side scene y d s known (expression_does scene y flat small) d s
          (omega arith) (λ z i j. refl))
          (λ v s1 e q. forks_compare place world (branch_on r a (expression slots y None d).value mark) (expression slots y
          None d).drawn s1 2 (holds r u v) mark
          (branch_on_forks place world r a (expression slots y None d).value mark u v (expression slots y None d).drawn s1
          (survives place.activation d.temp a (Word u) s s1 old q.stay ha) q.holds))

  -- both sides
  pub compared_does : (r : Rel) (a b : Tx) (mark : ℕ) (d : NumbersDrawn) (s : Contents) → IsFlat a → IsFlat b → HasWords a →
      HasWords b → Known temps d s →
      Compares place world (compared slots r a b mark) d s (units a + after_word (val a) (units b + after_word (val b) 2))
      (onward (val a) (λ u. onward (val b) (λ v. word (flag (holds r u v))))) mark
  compared_does r a b mark d s fa fb ha hb known =
      side_then place world (expression slots a None) (λ y. compared_with slots r y b mark) d s (units a) (units b +
      after_word (val b) 2) (val a)
      (λ u. onward (val b) (λ v. word (flag (holds r u v)))) mark
      (as_side scene a d s known (expression_does scene a fa ha) d s (omega
      arith) (λ z i j. refl))
      (λ u s1 e q. with_right r (expression slots a None d).value b mark u (expression slots a None d).drawn s1 fb hb
      (sees.words a u fa ha e)
      (known_on temps d (expression slots a None d).drawn s s1 q.drawn q.stay known) q.there q.holds)

  -- a comparison that is turned round, since its left side alone is a constant
  equal_turns : (u v : ℕ) → (v == u) ≡ (u == v)
  equal_turns u v = grind (arith, nat_tests)

  turn_holds : (r : Rel) (u v : ℕ) → can_turn r ≡ true → holds (turned r) v u ≡ holds r u v
  turn_holds rel.Equal u v e = equal_turns u v
  turn_holds rel.NotEqual u v e = ap not (equal_turns u v)
  turn_holds rel.Less u v e = refl
  turn_holds rel.LessEqual u v e = refl
  turn_holds rel.Greater u v e = refl
  turn_holds rel.GreaterEqual u v e = refl
  turn_holds rel.Below u v e = absurd (no e)
  turn_holds rel.NotBelow u v e = absurd (no e)

  const_is : (a : Tx) → is_constant a ≡ true → (n : ℕ) × (a ≡ tree.Const n)
  const_is (tree.Const n) e = (n, refl)
  const_is _ e = absurd (no e)

  both_are : (i j k : Bool) → (i && (j && k)) ≡ true → (i ≡ true) × (k ≡ true)
  both_are true true true e = (refl, refl)
  both_are true true false e = absurd (no e)
  both_are true false k e = absurd (no e)
  both_are false j k e = absurd (no e)

  compares_as : (c : Choice (Unit {0})) (d : NumbersDrawn) (s : Contents) (k l : ℕ) (g h : Given) (mark : ℕ) → k ≤ l → g ≡ h →
      Compares place world c d s k g mark → Compares place world c d s l h mark
  compares_as c d s k l g h mark le e f rest part = subst (λ i. Does world (λ w z. Forked place world (w == 1) mark rest d s z) l
      (goes place world ((c d).code ++ rest) s) i) e (does_within world _ k l _ g le (f rest part))

  after_four : (g : Given) → after_word g (2 + 2) ≤ after_word g 2 + 2
  after_four (word v) = omega arith
  after_four (stops_by z) = omega arith

  -- a branch, with two units for itself at most
  pub branch_does : (r : Rel) (a b : Tx) (mark : ℕ) (d : NumbersDrawn) (s : Contents) → IsFlat a → IsFlat b → HasWords a →
      HasWords b → Known temps d s →
      Compares place world (branch slots r a b mark) d s (units a + after_word (val a) (units b + after_word (val b) 2))
      (onward (val a) (λ u. onward (val b) (λ v. word (flag (holds r u v))))) mark
  branch_does r a b mark d s fa fb ha hb known = by (is_turned r a b) refl
    where
      in_turn : (n : ℕ) (z : Tx) → z ≡ tree.Const n → can_turn r ≡ true → IsFlat z → HasWords z →
          Compares place world (compared slots (turned r) b z mark) d s (units z + after_word (val z) (units b + after_word
          (val b) 2))
          (onward (val z) (λ u. onward (val b) (λ v. word (flag (holds r u v))))) mark
      in_turn n z is can fz hz =
          let four = after_four (val b) in
          subst (λ y. Compares place world (compared slots (turned r) b y mark) d s (units y + after_word (val y) (units b +
          after_word (val b) 2))
          (onward (val y) (λ u. onward (val b) (λ v. word (flag (holds r u v))))) mark) (sym is)
          (compares_as (compared slots (turned r) b (tree.Const n) mark) d s (units b + after_word (val b) (2 + 2))
          (2 + (units b + after_word (val b) 2))
          (onward (val b) (λ v. word (flag (holds (turned r) v n)))) (onward (val b) (λ v. word (flag (holds r n
          v)))) mark (omega (arith, four))
          (onward_same (val b) (λ v. word (flag (holds (turned r) v n))) (λ v. word (flag (holds r n v))) (λ v. ap (λ
          i. word (flag i)) (turn_holds r n v can)))
          (compared_does (turned r) b (tree.Const n) mark d s fb tt hb (subst (λ y. HasWords y) is hz) known))

      by : (i : Bool) → is_turned r a b ≡ i →
          Compares place world (if i then compared slots (turned r) b a mark else compared slots r a b mark) d s (units a +
          after_word (val a) (units b + after_word (val b) 2))
          (onward (val a) (λ u. onward (val b) (λ v. word (flag (holds r u v))))) mark
      by true e =
          let q = both_are (is_constant a) (not (is_constant b)) (can_turn r) e in
          let c = const_is a q.0 in
          in_turn c.0 a c.1 q.1 fa ha
      by false e = compared_does r a b mark d s fa fb ha hb known

  -- A comparison whose left side is in hi: a move from there, and the right side.
  pub in_hi_does : (r : Rel) (y : Tx) (mark u : ℕ) (d : NumbersDrawn) (s : Contents) →
      IsFlat y → HasWords y → IsWord u → Known temps d s → s Hi ≡ Word u →
      Compares place world (compared_in_hi slots r y mark) d s (1 + (units y + after_word (val y) 2))
      (onward (val y) (λ v. word (flag (holds r u v)))) mark
  unfolding ◌>>=◌
  in_hi_does r y mark u d s flat small word_u known hi =
      compares_as (compared_in_hi slots r y mark) d s (1 + after_word (word u) (units y + after_word (val y) 2))
      (1 + (units y + after_word (val y) 2)) (onward (word u) (λ i. onward (val y) (λ v. word (flag (holds r u v)))))
      (onward (val y) (λ v. word (flag (holds r u v)))) mark (omega arith) refl in_own
    where
      in_own : Compares place world (compared_in_hi slots r y mark) d s (1 + after_word (word u) (units y + after_word (val y) 2))
          (onward (word u) (λ i. onward (val y) (λ v. word (flag (holds r u v))))) mark
      in_own =
          let to = temp d.temp in
          let d1 : NumbersDrawn = record d { temp = d.temp + 1 } in
          side_then place world (λ e. defining (Mfhi to) to d1) (λ a. compared_with slots r a y mark) d s 1 (units y + after_word (val y) 2)
          (word u) (λ i. onward (val y) (λ v. word (flag (holds r u v)))) mark
          (so place world (λ e. defining (Mfhi to) to d1) d s 1 (word u) (λ a e v s1. s1 ≡ set (Operand to) (Word v) s)
          (Result place.activation d None s)
          (λ v s1 e. finish place.activation d None to d1 d1 v s s s1 own (omega arith) (λ z i j. refl)
          (λ z. ap (λ (c : Contents). c (Operand z)) e))
          (λ rest part. from1 place world (Mfhi to) to Hi (λ i. word i) u rest s refl tt tt hi))
          (λ v s1 e q. with_right r to y mark u d1 s1 flat small word_u (known_on temps d d1 s s1 q.drawn q.stay known) q.there
          (q.holds ∙ ap (λ i. Word i) (same v u e)))
        where
          same : (i j : ℕ) → word j ≡ word i → i ≡ j
          same i j e = cc
