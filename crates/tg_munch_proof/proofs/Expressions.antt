-- The instructions of a flat expression give its value, in at most the units that it spends, and one more where an
-- operand is asked for.
use Rattle.tg_munch_proof.specs.laws.Values.{Sees, Known}
use Rattle.std.proofs.Common.{◌≡◌, ◌≤◌, ℕ, ◌+◌, Bool, refl, sym, ap, ◌∙◌, subst, arith}
use Rattle.std.proofs.lemmas.Bool.Decides.{nat_tests}
use Rattle.std.specs.Prelude.{◌==◌, false, true, Option, Some, None, if◌then◌else◌}
use Rattle.tg_tree.specs.Tree as tree
use Rattle.tg_tree.specs.Tree.{Tx, Literal}
use Rattle.tg_tree.specs.Shapes.{IsFlat}
use Rattle.tg_tree.specs.Units.{Canonical, operator_units, shift_units}
use Rattle.tg_tree.specs.Memory.{Memory, literal_address}
use Rattle.tg_tree.specs.declared.operators.Bin.{Bin}
use Rattle.tg_tree.specs.declared.operators.Bin.TheVariants as bin
use Rattle.tg_tree.specs.Operators.{Given, word, stops_by, operate}
use Rattle.tg_tree.specs.FlatValue.{onward, after_word, or_wrong, flat_value, flat_spent}
use Rattle.tg_tree.specs.Actions.{World, Temps}
use Rattle.tg_instr.specs.declared.operands.Opnd.{Opnd}
use Rattle.tg_instr.specs.declared.instr.Instr.{Instr}
use Rattle.tg_instr.specs.declared.instr.Instr.TheVariants as instr
use Rattle.tg_instr.specs.Shapes.{Base, AddressOf}
use Rattle.tg_instr.specs.Contents.{Word, Contents}
use Rattle.tg_instr.specs.Meaning.{put_in}
use Rattle.tg_munch.specs.mirror.Choosing.{NumbersDrawn, ◌>>=◌, give, choose, defining}
use Rattle.tg_munch.specs.mirror.Tiles.{nothing, constant, immediate, constant_side, exchanged_side, first_tile, tiled}
use Rattle.tg_munch.specs.mirror.Tiles.{is_shift, commutes, moved, operated, shifted_into, with_field}
use Rattle.tg_munch.specs.mirror.Munching.{temp, expression, fresh_constant}
use Rattle.tg_munch_proof.specs.Words.{IsWord, HasWords}
use Rattle.tg_munch_proof.specs.glue.Places.{unsaid, Place, Behaves, goes, Walks}
use Rattle.tg_munch_proof.specs.laws.Values.{Result, Stay, IsAskable, extra, Scene}
use Rattle.tg_munch_proof.proofs.Behaving.{here, weaker, so, known, nothing_done, sets, said_or, with_or}
use Rattle.tg_munch_proof.proofs.ByWord.{moved_does, by_word_tile}
use Rattle.tg_munch_proof.proofs.Fields.{field_does, commuted}
use Rattle.tg_munch_proof.proofs.Operated.{operands_tile}
use Rattle.tg_munch_proof.proofs.Results.{Target, asked, choosing, target_settable}
use Rattle.tg_munch_proof.proofs.Tiled.{Sets, finish_sets, defined, constant_does, field_tile}

-- Equal values after a word, and units.
pub onward_same : (g : Given) (f h : ℕ → Given) → ((u : ℕ) → f u ≡ h u) → onward g f ≡ onward g h
onward_same (word v) f h e = e v
onward_same (stops_by z) f h e = refl

pub after_within : (g : Given) (k l : ℕ) → k ≤ l → after_word g k ≤ l
after_within (word v) k l le = le
after_within (stops_by z) k l le = omega arith

after_more : (g : Given) (k l : ℕ) → k ≤ l → after_word g k ≤ after_word g l
after_more (word v) k l le = le
after_more (stops_by z) k l le = omega arith

shift_unit : (y : Tx) → 1 ≤ shift_units y
shift_unit (tree.Const n) = omega arith
shift_unit _ = omega arith

operator_unit : (op : Bin) (y : Tx) → 1 ≤ operator_units op y
operator_unit bin.Add y = omega arith
operator_unit bin.Sub y = omega arith
operator_unit bin.Mul y = omega arith
operator_unit bin.Div y = omega arith
operator_unit bin.And y = omega arith
operator_unit bin.Or y = omega arith
operator_unit bin.Xor y = omega arith
operator_unit bin.AddTrap y = omega arith
operator_unit bin.SubTrap y = omega arith
operator_unit bin.MulHigh y = omega arith
operator_unit bin.ShiftLeft y = shift_unit y
operator_unit bin.ShiftRight y = shift_unit y
operator_unit bin.ShiftSigned y = shift_unit y

no : false ≡ true → ⊥
no e = cc

pub none_is_some : {I : Type 0} (a : I) → None ≡ Some a → ⊥
none_is_some a e = cc

-- a shift whose right side stands in no field counts its bits
by_word_units : (op : Bin) (y : Tx) → is_shift op ≡ true → constant_side op y ≡ None → operator_units op y ≡ 21
by_word_units bin.ShiftLeft (tree.Const n) s e = absurd (none_is_some _ (sym e))
by_word_units bin.ShiftLeft _ s e = refl
by_word_units bin.ShiftRight (tree.Const n) s e = absurd (none_is_some _ (sym e))
by_word_units bin.ShiftRight _ s e = refl
by_word_units bin.ShiftSigned (tree.Const n) s e = absurd (none_is_some _ (sym e))
by_word_units bin.ShiftSigned _ s e = refl
by_word_units bin.Add y s e = absurd (no s)
by_word_units bin.Sub y s e = absurd (no s)
by_word_units bin.Mul y s e = absurd (no s)
by_word_units bin.Div y s e = absurd (no s)
by_word_units bin.And y s e = absurd (no s)
by_word_units bin.Or y s e = absurd (no s)
by_word_units bin.Xor y s e = absurd (no s)
by_word_units bin.AddTrap y s e = absurd (no s)
by_word_units bin.SubTrap y s e = absurd (no s)
by_word_units bin.MulHigh y s e = absurd (no s)

-- the sides of an operator one of which stands in a field
right_is : (op : Bin) (y : Tx) (one : _) → constant_side op y ≡ Some one → (n : ℕ) × (y ≡ tree.Const n) × (immediate
    op n ≡ Some one)
right_is op (tree.Const n) one e = (n, refl, e)
right_is op _ one e = absurd (none_is_some _ e)

left_is : (op : Bin) (x : Tx) (one : _) → exchanged_side op x ≡ Some one → (commutes op ≡ true) × (constant_side op x
    ≡ Some one)
left_is op x one e = by (commutes op) refl e
  where
    by : (b : Bool) → commutes op ≡ b → (if b then constant_side op x else None) ≡ Some one → (commutes op ≡ true) ×
        (constant_side op x ≡ Some one)
    by true c h = (c, h)
    by false c h = absurd (none_is_some _ h)

pub known_on : (t : Temps) (d d1 : NumbersDrawn) (s s1 : Contents) → d.temp ≤ d1.temp → Stay d.temp None s s1 → Known t d s
    → Known t d1 s1
known_on t d d1 s s1 le stay h i v e =
    let q = h i v e in
    let lt = q.0 in
    (omega (arith, le, lt), stay (temp i) lt tt ∙ q.1)

module _ (scene : Scene) where
  abbrev place : Place
  place = scene.place

  abbrev world : World
  world = scene.world

  abbrev memory : Memory
  memory = scene.memory

  abbrev temps : Temps
  temps = scene.temps

  abbrev slots : ℕ
  slots = scene.slots

  abbrev walks : Walks place
  walks = scene.walks

  abbrev sees : Sees place world memory temps slots
  sees = scene.sees

  abbrev pub value : Tx → Given
  value e = flat_value place.code.literals place.activation.base memory temps e

  abbrev pub spent : Tx → ℕ
  spent e = flat_spent Canonical place.code.literals place.activation.base memory temps e

  abbrev pub Comes_to : Tx → Option Opnd → NumbersDrawn → Contents → Type 0
  Comes_to e dest d s = Behaves place world (expression slots e dest) d s (spent e + extra dest) (value e) (Result
      place.activation d dest s)

  -- constants and addresses
  in_target : (n : ℕ) (dest : Option Opnd) (d : NumbersDrawn) (s : Contents) (to : Opnd) (d1 : NumbersDrawn) → IsWord n → Target d
      dest to d1 →
      Behaves place world (constant to n) d1 s 2 (word n) (Result place.activation d dest s)
  in_target n dest d s to d1 small target =
      so place world (constant to n) d1 s 2 (word n) (Sets to d1 s) (Result place.activation d dest s)
      (λ v s1 e. finish_sets place.activation d dest to d1 d1 v s s s1 (constant to n d1).value (constant to n d1).drawn
      target (omega arith) (λ y i j. refl) e)
      (constant_does place world to n d1 s (target_settable d dest to d1 target) small)

  pub const_does : (n : ℕ) (dest : Option Opnd) (d : NumbersDrawn) (s : Contents) → IsWord n → IsAskable dest → Comes_to
      (tree.Const n) dest d s
  const_does n (Some to) d s small askable =
      weaker place world (constant to n) d s 2 3 (word n) (word n) (Result place.activation d (Some to) s) (omega arith) refl
      (in_target n (Some to) d s to d small (asked to askable))
  const_does n None d s small askable = by (n == 0) refl
    where
      zero_is : (n == 0) ≡ true → 0 ≡ n
      zero_is e = grind (arith, nat_tests)

      by : (b : Bool) → (n == 0) ≡ b → Behaves place world (if b then give nothing else fresh_constant n) d s (2 + 0) (word
          n) (Result place.activation d None s)
      by true e =
          weaker place world (give nothing) d s 0 2 (word n) (word n) (Result place.activation d None s) (omega arith) refl
          (λ rest part. nothing_done place world rest s n (λ v s1. Result place.activation d None s nothing d v s1)
          (record { holds = ap (λ i. Word i) (zero_is e); stay = λ y i j. refl; there = tt; drawn = omega arith }))
      by false e =
          weaker place world (fresh_constant n) d s 2 2 (word n) (word n) (Result place.activation d None s) (omega arith) refl
          (choosing place world (λ to. constant to n) None d s 2 (word n) (Result place.activation d None s) tt
          (λ to d1 target. in_target n None d s to d1 small target))

  one_defined : (one : Opnd → Instr) (dest : Option Opnd) (d : NumbersDrawn) (s : Contents) (g : Given) → IsAskable dest →
      ((to : Opnd) (d1 : NumbersDrawn) → Target d dest to d1 → Behaves place world (defining (one to) to) d1 s 1 g (Sets to d1 s)) →
      Behaves place world (choose dest >>= (λ to. defining (one to) to)) d s (1 + extra dest) g (Result place.activation d dest s)
  one_defined one dest d s g askable h =
      choosing place world (λ to. defining (one to) to) dest d s (1 + extra dest) g (Result place.activation d dest s) askable
      (λ to d1 target. weaker place world (defining (one to) to) d1 s 1 (1 + extra dest) g g (Result place.activation d dest s)
      (omega arith) refl
      (so place world (defining (one to) to) d1 s 1 g (Sets to d1 s) (Result place.activation d dest s)
      (λ v s1 e. finish_sets place.activation d dest to d1 d1 v s s s1 to d1 target (omega arith) (λ y i j. refl) e) (h
      to d1 target)))

  pub address_does : (label : ℕ) (dest : Option Opnd) (d : NumbersDrawn) (s : Contents) → IsAskable dest → Comes_to
      (tree.Address label) dest d s
  address_does label dest d s askable =
      let one = (λ (to : Opnd). instr.Address to (record { 0 = label })) in
      let o = literal_address place.code.literals label in
      one_defined one dest d s (or_wrong o) askable
      (λ to d1 target. defined place world (one to) to d1 s 1 (or_wrong o)
      (λ rest. sets place world (one to) to (AddressOf to label) (or_wrong o) rest s refl (target_settable d dest to d1
      target) (said_or place world o)
      (λ n. with_or place world o (λ v. put_in to (Word v) (here place) (λ w1 s1. goes place w1 rest s1) world s) n)))

  pub frame_does : (dest : Option Opnd) (d : NumbersDrawn) (s : Contents) → IsAskable dest → Comes_to tree.FrameAddress dest
      d s
  frame_does dest d s askable =
      one_defined (λ to. instr.FrameAddress to) dest d s (word place.activation.base) askable
      (λ to d1 target. defined place world (instr.FrameAddress to) to d1 s 1 (word place.activation.base)
      (λ rest. sets place world (instr.FrameAddress to) to (Base to) (word place.activation.base) rest s refl (target_settable d
      dest to d1 target) tt (λ n. refl)))

  pub temp_does : (i : ℕ) (dest : Option Opnd) (d : NumbersDrawn) (s : Contents) → IsAskable dest → Known temps d s → Comes_to
      (tree.Temp i) dest d s
  temp_does i dest d s askable known = by (temps i) refl
    where
      by : (o : Option ℕ) → temps i ≡ o → Behaves place world (moved dest (temp i)) d s (0 + extra dest) (or_wrong o) (Result
          place.activation d dest s)
      by None e = λ rest part. unsaid _ _
      by (Some v) e =
          let q = known i v e in
          weaker place world (moved dest (temp i)) d s (extra dest) (0 + extra dest) (word v) (word v) (Result place.activation d
          dest s) (omega arith) refl
          (moved_does place world walks dest (temp i) d s s d v askable (omega arith) (λ y j k. refl) q.0 q.1)

  -- operators, where their sides do
  abbrev pub Sides : Tx → NumbersDrawn → Contents → Type 0
  Sides e d s = (d1 : NumbersDrawn) (s1 : Contents) → d.temp ≤ d1.temp → Stay d.temp None s s1 → Behaves place world (expression
      slots e None) d1 s1 (spent e) (value e) (Result place.activation d1 None s1)

  -- no side stands in a field
  pub sums : (g h : Given) (k l u v e : ℕ) → v ≤ u + e → k + after_word g (l + after_word h v) ≤ u + 0 + (k + after_word
      g l) + e
  sums (word i) h k l u v e le = let less = after_within h v (u + e) le in omega (arith, less)
  sums (stops_by z) h k l u v e le = omega arith

  two_sides : (op : Bin) (a b : Tx) (dest : Option Opnd) (d : NumbersDrawn) (s : Contents) → IsFlat a → IsFlat b → HasWords
      a → HasWords b → IsAskable dest →
      Sides a d s → Sides b d s → is_shift op ≡ false →
      Behaves place world (choose dest >>= (λ to. expression slots a None >>= (λ y. expression slots b None >>= (λ z.
      operated op to y z)))) d s
      (spent (tree.Binary op a b) + extra dest) (value (tree.Binary op a b)) (Result place.activation d dest s)
  two_sides op a b dest d s fa fb ha hb askable da db other =
      weaker place world (choose dest >>= (λ to. expression slots a None >>= (λ y. expression slots b None >>= (λ z. operated
      op to y z)))) d s (spent a + after_word (value a) (spent b + after_word (value b) (operator_units op b)))
      (spent (tree.Binary op a b) + extra dest)
      (onward (value a) (λ u. onward (value b) (λ v. operate op u v))) (value (tree.Binary op a b)) (Result
      place.activation d dest s)
      (sums (value a) (value b) (spent a) (spent b) (operator_units op b) (operator_units op b) (extra dest) (omega
      arith)) refl
      (operands_tile place world op b dest (expression slots a None) (expression slots b None) d s (spent a) (spent b) (value
      a) (value b) other askable
      (λ u e. sees.words a u fa ha e) (λ v e. sees.words b v fb hb e) (λ d1 le. da d1 s le (λ y i j. refl)) db)

  by_word : (op : Bin) (a b : Tx) (dest : Option Opnd) (d : NumbersDrawn) (s : Contents) → IsFlat a → HasWords a → IsAskable
      dest →
      Sides a d s → Sides b d s → is_shift op ≡ true → constant_side op b ≡ None →
      Behaves place world (expression slots a None >>= (λ y. expression slots b None >>= (λ z. shifted_into op dest y z))) d s
      (spent (tree.Binary op a b) + extra dest) (value (tree.Binary op a b)) (Result place.activation d dest s)
  by_word op a b dest d s fa ha askable da db shifts none =
      let units = by_word_units op b shifts none in
      weaker place world (expression slots a None >>= (λ y. expression slots b None >>= (λ z. shifted_into op dest y z))) d s
      (spent a + after_word (value a) (spent b + after_word (value b) (21 + extra dest))) (spent (tree.Binary op
      a b) + extra dest)
      (onward (value a) (λ u. onward (value b) (λ v. operate op u v))) (value (tree.Binary op a b)) (Result
      place.activation d dest s)
      (sums (value a) (value b) (spent a) (spent b) (operator_units op b) (21 + extra dest) (extra dest) (omega
      (arith, units))) refl
      (by_word_tile place world walks op dest (expression slots a None) (expression slots b None) d s (spent a) (spent b)
      (value a) (value b) shifts askable
      (λ u e. sees.words a u fa ha e) (da d s (omega arith) (λ y i j. refl)) db)

  operands_do : (op : Bin) (a b : Tx) (dest : Option Opnd) (d : NumbersDrawn) (s : Contents) → IsFlat a → IsFlat b →
      HasWords a → HasWords b → IsAskable dest →
      Sides a d s → Sides b d s → constant_side op b ≡ None →
      Behaves place world (tiled op (first_tile op None None) dest (expression slots a None) (expression slots b None)) d s
      (spent (tree.Binary op a b) + extra dest) (value (tree.Binary op a b)) (Result place.activation d dest s)
  operands_do bin.Add a b dest d s fa fb ha hb askable da db none = two_sides bin.Add a b dest d s fa fb ha hb
      askable da db refl
  operands_do bin.Sub a b dest d s fa fb ha hb askable da db none = two_sides bin.Sub a b dest d s fa fb ha hb
      askable da db refl
  operands_do bin.Mul a b dest d s fa fb ha hb askable da db none = two_sides bin.Mul a b dest d s fa fb ha hb
      askable da db refl
  operands_do bin.Div a b dest d s fa fb ha hb askable da db none = two_sides bin.Div a b dest d s fa fb ha hb
      askable da db refl
  operands_do bin.And a b dest d s fa fb ha hb askable da db none = two_sides bin.And a b dest d s fa fb ha hb
      askable da db refl
  operands_do bin.Or a b dest d s fa fb ha hb askable da db none = two_sides bin.Or a b dest d s fa fb ha hb askable
      da db refl
  operands_do bin.Xor a b dest d s fa fb ha hb askable da db none = two_sides bin.Xor a b dest d s fa fb ha hb
      askable da db refl
  operands_do bin.AddTrap a b dest d s fa fb ha hb askable da db none = two_sides bin.AddTrap a b dest d s fa fb ha
      hb askable da db refl
  operands_do bin.SubTrap a b dest d s fa fb ha hb askable da db none = two_sides bin.SubTrap a b dest d s fa fb ha
      hb askable da db refl
  operands_do bin.MulHigh a b dest d s fa fb ha hb askable da db none = two_sides bin.MulHigh a b dest d s fa fb ha
      hb askable da db refl
  operands_do bin.ShiftLeft a b dest d s fa fb ha hb askable da db none = by_word bin.ShiftLeft a b dest d s fa ha
      askable da db refl none
  operands_do bin.ShiftRight a b dest d s fa fb ha hb askable da db none = by_word bin.ShiftRight a b dest d s fa ha
      askable da db refl none
  operands_do bin.ShiftSigned a b dest d s fa fb ha hb askable da db none = by_word bin.ShiftSigned a b dest d s fa
      ha askable da db refl none

  pub binary_does : (op : Bin) (a b : Tx) (dest : Option Opnd) (d : NumbersDrawn) (s : Contents) → IsFlat a → IsFlat b →
      HasWords a → HasWords b → IsAskable dest →
      Sides a d s → Sides b d s → Comes_to (tree.Binary op a b) dest d s
  binary_does op a b dest d s fa fb ha hb askable da db = by (constant_side op b) refl (exchanged_side op a) refl
    where
      in_right : (n : ℕ) (one : _) (y : Tx) → y ≡ tree.Const n → IsWord n → immediate op n ≡ Some one →
          Behaves place world (tiled op (first_tile op (Some one) (exchanged_side op a)) dest (expression slots a None)
          (expression slots b None)) d s
          (spent (tree.Binary op a y) + extra dest) (value (tree.Binary op a y)) (Result place.activation d dest s)
      in_right n one y is small e =
          let unit = operator_unit op (tree.Const n) in
          let less = after_more (value a) 1 2 (omega arith) in
          subst (λ z. Behaves place world (tiled op (first_tile op (Some one) (exchanged_side op a)) dest (expression slots a
          None) (expression slots b None)) d s
          (spent (tree.Binary op a z) + extra dest) (value (tree.Binary op a z)) (Result place.activation d dest s)) (sym
          is)
          (weaker place world (with_field one dest (expression slots a None)) d s (spent a + after_word (value a) 1) (spent
          (tree.Binary op a (tree.Const n)) + extra dest)
          (onward (value a) (λ u. operate op u n)) (value (tree.Binary op a (tree.Const n))) (Result place.activation d
          dest s) (omega (arith, unit, less)) refl
          (field_tile place world op n one dest (expression slots a None) d s (spent a) (value a) (field_does op n one small
          e) askable
          (λ d1 le. da d1 s le (λ y i j. refl))))

      in_left : (n : ℕ) (one : _) (y : Tx) → y ≡ tree.Const n → IsWord n → commutes op ≡ true → immediate op n ≡ Some
          one →
          Behaves place world (tiled op (first_tile op None (Some one)) dest (expression slots a None) (expression slots b
          None)) d s
          (spent (tree.Binary op y b) + extra dest) (value (tree.Binary op y b)) (Result place.activation d dest s)
      in_left n one y is small c e =
          let unit = operator_unit op b in
          let less = after_within (value b) 1 2 (omega arith) in
          subst (λ z. Behaves place world (tiled op (first_tile op None (Some one)) dest (expression slots a None)
          (expression slots b None)) d s
          (spent (tree.Binary op z b) + extra dest) (value (tree.Binary op z b)) (Result place.activation d dest s)) (sym
          is)
          (weaker place world (with_field one dest (expression slots b None)) d s (spent b + after_word (value b) 1) (spent
          (tree.Binary op (tree.Const n) b) + extra dest)
          (onward (value b) (λ u. operate op u n)) (value (tree.Binary op (tree.Const n) b)) (Result place.activation d
          dest s) (omega (arith, unit, less))
          (onward_same (value b) (λ u. operate op u n) (λ v. operate op n v) (λ u. commuted op u n c))
          (field_tile place world op n one dest (expression slots b None) d s (spent b) (value b) (field_does op n one small
          e) askable
          (λ d1 le. db d1 s le (λ y i j. refl))))

      by : (o : _) → constant_side op b ≡ o → (q : _) → exchanged_side op a ≡ q →
          Behaves place world (tiled op (first_tile op o q) dest (expression slots a None) (expression slots b None)) d s
          (spent (tree.Binary op a b) + extra dest)
          (value (tree.Binary op a b)) (Result place.activation d dest s)
      by (Some one) e q f =
          let r = right_is op b one e in
          in_right r.0 one b r.1 (subst (λ y. HasWords y) r.1 hb) r.2
      by None e (Some one) f =
          let c = left_is op a one f in
          let r = right_is op a one c.1 in
          in_left r.0 one a r.1 (subst (λ y. HasWords y) r.1 ha) c.0 r.2
      by None e None f = operands_do op a b dest d s fa fb ha hb askable da db e
