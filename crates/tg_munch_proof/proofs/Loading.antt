-- Loads by their addresses' tiles, and every flat expression.
use Rattle.std.proofs.Common.{◌≡◌, ◌≤◌, ◌<◌, ℕ, ◌+◌, ◌-◌, ◌*◌, ◌/◌, ◌%◌, Bool, refl, sym, ap, ◌∙◌, subst, arith}
use Rattle.std.proofs.lemmas.Bool.Decides.{nat_tests}
use Rattle.std.specs.Prelude.{◌==◌, ◌&&◌, nat_lt, nat_le, false, true, Option, Some, None, if◌then◌else◌}
use Rattle.tg_base.specs.Words.{add, sub, extended}
use Rattle.tg_tree.specs.Tree as tree
use Rattle.tg_tree.specs.Tree.{Tx}
use Rattle.tg_tree.specs.Shapes.{IsFlat}
use Rattle.tg_tree.specs.Memory.{Memory, load, load_byte, slot}
use Rattle.tg_tree.specs.declared.operators.Bin.{Bin}
use Rattle.tg_tree.specs.declared.operators.Bin.TheVariants as bin
use Rattle.tg_tree.specs.Operators.{Given, word, stops_by, operate}
use Rattle.tg_tree.specs.FlatValue.{onward, or_wrong}
use Rattle.tg_tree.specs.Actions.{World, Temps, with_word, wrong}
use Rattle.tg_instr.specs.declared.operands.Opnd.{Opnd}
use Rattle.tg_instr.specs.declared.instr.Instr.{Instr}
use Rattle.tg_instr.specs.declared.instr.Instr.TheVariants as instr
use Rattle.tg_instr.specs.Shapes.{Operand, Loads, FromSlot, shape}
use Rattle.tg_instr.specs.Contents.{Word, Contents, held, content_of}
use Rattle.tg_instr.specs.Meaning.{put_in, with_content_word, with_content}
use Rattle.tg_munch.specs.mirror.Choosing.{NumbersDrawn, ◌>>=◌, give, defining}
use Rattle.tg_munch.specs.mirror.Tiles as tiles
use Rattle.tg_munch.specs.mirror.Tiles.{is_small, field, negated, field_of, offset_by, based, behind, loaded, loaded_byte}
use Rattle.tg_munch.specs.mirror.Munching.{expression, based_at, loaded_at, byte_at}
use Rattle.tg_munch.proofs.Walking.{load_is, load_byte_is}
use Rattle.tg_munch_proof.specs.Words.{HasWords}
use Rattle.tg_munch_proof.specs.glue.Places.{unsaid, Place, Behaves, goes, Walks}
use Rattle.tg_munch_proof.specs.laws.Values.{Result, Stay, IsOld, IsAskable, extra, Sees, Known, Scene}
use Rattle.tg_munch_proof.proofs.Arithmetic.{field_stands, sub_is_add, add_none}
use Rattle.tg_munch_proof.proofs.Behaving.{here, bind, weaker, so, known, nothing_done, sets}
use Rattle.tg_munch_proof.proofs.Expressions.{known_on, value, spent, Sides, Comes_to, onward_same, after_within}
use Rattle.tg_munch_proof.proofs.Expressions.{none_is_some, const_does, address_does, frame_does, temp_does}
use Rattle.tg_munch_proof.proofs.Expressions.{binary_does}
use Rattle.tg_munch_proof.proofs.Fields.{taken}
use Rattle.tg_munch_proof.proofs.Results.{Target, choosing, target_settable, target_drawn}
use Rattle.tg_munch_proof.proofs.Tiled.{Sets, finish_sets, defined}

module _ (scene : Scene) where
  abbrev place : Place
  place = scene.place

  abbrev world : World
  world = scene.world

  abbrev memory : Memory
  memory = scene.memory

  abbrev temps : Temps
  temps = scene.temps

  abbrev slots : ℕ
  slots = scene.slots

  abbrev walks : Walks place
  walks = scene.walks

  abbrev sees : Sees place world memory temps slots
  sees = scene.sees

  abbrev pub val : Tx → Given
  val e = value scene e

  abbrev pub units : Tx → ℕ
  units e = spent scene e

  abbrev pub SideDoes : Tx → NumbersDrawn → Contents → Type 0
  SideDoes e d s = Sides scene e d s

  -- an address: an operand with a word and so many bytes after it
  pub record Located (d : NumbersDrawn) (s : Contents) (bytes : ℕ) (y : Opnd) (d1 : NumbersDrawn) (v : ℕ) (s1 : Contents) : Type 0
    where
      pub address : ℕ
      pub holds : held place.activation s1 (Operand y) ≡ Word address
      pub is : add address (extended bytes) ≡ v
      pub stay : Stay d.temp None s s1
      pub there : IsOld d1.temp y
      pub drawn : d.temp ≤ d1.temp

  -- the right side in the field of an address
  offset_is : (op : Bin) (b : Tx) (n u : ℕ) → HasWords b → offset_by op b ≡ Some n → onward (val b) (λ v. operate op
      u v) ≡ word (add u (extended n))
  offset_is bin.Add (tree.Const c) n u h e =
      let q = taken (is_small c) (field c) n e in
      sym (ap (λ f. word (add u (extended f))) (sym q.1) ∙ ap (λ f. word (add u f)) (field_stands c q.0))
  offset_is bin.Sub (tree.Const c) n u h e =
      let q = taken (is_small (negated c)) (field (negated c)) n e in
      sym (ap (λ f. word (add u (extended f))) (sym q.1) ∙ (ap (λ f. word (add u f)) (field_stands (negated c) q.0) ∙
      ap word (sym (sub_is_add u c h))))
  offset_is _ _ n u h e = absurd (none_is_some _ e)

  whole_based : (e : Tx) (d : NumbersDrawn) (s : Contents) → IsFlat e → HasWords e → SideDoes e d s →
      Behaves place world (expression slots e None >>= (λ b. give (behind 0 b))) d s (units e) (val e) (λ b d1 v s1. Located
      d s b.bytes b.operand d1 v s1)
  whole_based e d s flat small side =
      weaker place world (expression slots e None >>= (λ b. give (behind 0 b))) d s (units e) (units e) (onward (val e) (λ v.
      word v)) (val e)
      (λ b d1 v s1. Located d s b.bytes b.operand d1 v s1) (omega arith) (itself_on (val e))
      (bind place world (expression slots e None) (λ b. give (behind 0 b)) d s (units e) 0 (units e) (val e) (λ v. word v)
      (λ y d1 v s1. (val e ≡ word v) × Result place.activation d None s y d1 v s1) (λ b d1 v s1. Located d s b.bytes
      b.operand d1 v s1)
      (let le = after_within (val e) 0 0 (omega arith) in omega (arith, le))
      (known place world (expression slots e None) d s (units e) (val e) (Result place.activation d None s) (side d s (omega
      arith) (λ y i j. refl)))
      (λ v s1 q. λ rest part. nothing_done place world rest s1 v (λ w s2. Located d s 0 (expression slots e None d).value
      (expression slots e None d).drawn w s2)
      (record {
        address = v;
        holds = q.1.holds;
        is = add_none v (sees.words e v flat small q.0);
        stay = q.1.stay;
        there = q.1.there;
        drawn = q.1.drawn;
      })))
    where
      itself_on : (g : Given) → onward g (λ v. word v) ≡ g
      itself_on (word v) = refl
      itself_on (stops_by z) = refl

  left_based : (op : Bin) (a b : Tx) (n : ℕ) (d : NumbersDrawn) (s : Contents) → HasWords b → offset_by op b ≡ Some n →
      SideDoes a d s →
      Behaves place world (expression slots a None >>= (λ y. give (behind n y))) d s (units (tree.Binary op a b)) (val
      (tree.Binary op a b))
      (λ y d1 v s1. Located d s y.bytes y.operand d1 v s1)
  left_based op a b n d s small e side =
      weaker place world (expression slots a None >>= (λ y. give (behind n y))) d s (units a) (units (tree.Binary op a b))
      (onward (val a) (λ u. word (add u (extended n))))
      (val (tree.Binary op a b)) (λ y d1 v s1. Located d s y.bytes y.operand d1 v s1) (omega arith)
      (onward_same (val a) (λ u. word (add u (extended n))) (λ u. onward (val b) (λ v. operate op u v)) (λ u. sym
      (offset_is op b n u small e)))
      (bind place world (expression slots a None) (λ y. give (behind n y)) d s (units a) 0 (units a) (val a) (λ u. word (add
      u (extended n)))
      (Result place.activation d None s) (λ y d1 v s1. Located d s y.bytes y.operand d1 v s1)
      (let le = after_within (val a) 0 0 (omega arith) in omega (arith, le))
      (side d s (omega arith) (λ y i j. refl))
      (λ u s1 q. λ rest part. nothing_done place world rest s1 (add u (extended n)) (λ w s2. Located d s n (expression slots
      a None d).value (expression slots a None d).drawn w s2)
      (record { address = u; holds = q.holds; is = refl; stay = q.stay; there = q.there; drawn = q.drawn })))

  -- what an address needs of its parts
  abbrev pub LeftDoes : Tx → NumbersDrawn → Contents → Type 0
  LeftDoes (tree.Binary op a b) d s = SideDoes a d s
  LeftDoes _ d s = Unit {0}

  pub located : (e : Tx) (d : NumbersDrawn) (s : Contents) → IsFlat e → HasWords e → SideDoes e d s → LeftDoes e d s →
      Behaves place world (based_at slots e) d s (units e) (val e) (λ y d1 v s1. Located d s y.bytes y.operand d1 v s1)
  located (tree.Binary op a b) d s flat small side left = by (offset_by op b) refl
    where
      by : (o : Option ℕ) → offset_by op b ≡ o →
          Behaves place world (based o (expression slots a None) (expression slots (tree.Binary op a b) None)) d s (units
          (tree.Binary op a b)) (val (tree.Binary op a b))
          (λ y d1 v s1. Located d s y.bytes y.operand d1 v s1)
      by None e = whole_based (tree.Binary op a b) d s flat small side
      by (Some n) e = left_based op a b n d s small.1 e left
  located (tree.Const n) d s flat small side left = whole_based (tree.Const n) d s flat small side
  located (tree.Address l) d s flat small side left = whole_based (tree.Address l) d s flat small side
  located (tree.Temp i) d s flat small side left = whole_based (tree.Temp i) d s flat small side
  located tree.FrameAddress d s flat small side left = whole_based tree.FrameAddress d s flat small side
  located (tree.Load e) d s flat small side left = whole_based (tree.Load e) d s flat small side
  located (tree.LoadByte e) d s flat small side left = whole_based (tree.LoadByte e) d s flat small side
  located (tree.Call l xs) d s flat small side left = absurd flat
  located (tree.Service k e) d s flat small side left = absurd flat
  located (tree.After z e) d s flat small side left = absurd flat

  -- a load from there
  from_there : (f : Memory → ℕ → Option ℕ) (one : Instr) (to y : Opnd) (bytes v : ℕ) (dest : Option Opnd) (d d1 d2 :
      NumbersDrawn) (s s1 : Contents) →
      shape one ≡ Loads to y (extended bytes) f → ((a r : ℕ) → f memory a ≡ Some r → f world.memory a ≡ Some r) → Target d
      dest to d1 → Located d1 s bytes y d2 v s1 →
      Behaves place world (defining one to) d2 s1 1 (or_wrong (f memory v)) (Result place.activation d dest s)
  from_there f one to y bytes v dest d d1 d2 s s1 is seen target q = by (f memory v) refl
    where
      by : (o : Option ℕ) → f memory v ≡ o → Behaves place world (defining one to) d2 s1 1 (or_wrong o) (Result place.activation d
          dest s)
      by None e = λ rest part. unsaid _ _
      by (Some r) e =
          so place world (defining one to) d2 s1 1 (word r) (Sets to d2 s1) (Result place.activation d dest s)
          (λ w s2 z. finish_sets place.activation d dest to d1 d2 w s s1 s2 to d2 target q.drawn q.stay z)
          (defined place world one to d2 s1 1 (word r)
          (λ rest. sets place world one to (Loads to y (extended bytes) f) (word r) rest s1 is (target_settable d dest to d1
          target) tt
          (λ n. ap (λ c. with_content_word c world (λ a. with_word (f world.memory (add a (extended bytes))) world
          (λ i. put_in to (Word i) (here place) (λ w1 s2. goes place w1 rest s2) world s1)) n) q.holds ∙
          ap (λ c. with_word c world (λ i. put_in to (Word i) (here place) (λ w1 s2. goes place w1 rest s2) world s1) n) (ap (f
          world.memory) q.is ∙ seen v r e))))

  -- a slot
  pub slot_is : (e : Tx) (k : ℕ) → tiles.slot slots e ≡ Some k → (val e ≡ word (sub place.activation.base (4 * (k + 1)))) ×
      (k < slots)
  slot_is (tree.Binary bin.Sub tree.FrameAddress (tree.Const n)) k e = by (tiles.is_slot slots n) refl e
    where
      same : (i j : ℕ) → Some i ≡ Some j → i ≡ j
      same i j q = cc

      is_its : (n % 4 == 0 && (nat_lt 0 n && nat_le n (4 * slots))) ≡ true → n / 4 - 1 ≡ k → (n ≡ 4 * (k + 1)) × (k <
          slots)
      is_its b q = grind (arith, nat_tests)

      by : (b : Bool) → tiles.is_slot slots n ≡ b → (if b then Some (n / 4 - 1) else None) ≡ Some k →
          (word (sub place.activation.base n) ≡ word (sub place.activation.base (4 * (k + 1)))) × (k < slots)
      by true b q = let h = is_its b (same (n / 4 - 1) k q) in (ap (λ i. word (sub place.activation.base i)) h.0, h.1)
      by false b q = absurd (none_is_some k q)
  slot_is _ k e = absurd (none_is_some k e)

  from_slot : (k : ℕ) (to : Opnd) (dest : Option Opnd) (d d1 : NumbersDrawn) (s : Contents) → k < slots → Target d dest to d1 →
      Behaves place world (defining (instr.FrameLoad to k) to) d1 s 1 (or_wrong (load memory (sub place.activation.base (4 * (k +
      1))))) (Result place.activation d dest s)
  from_slot k to dest d d1 s lt target = by (load memory (sub place.activation.base (4 * (k + 1)))) refl
    where
      below : nat_lt k slots ≡ true
      below = grind (arith, nat_tests)

      by : (o : Option ℕ) → load memory (sub place.activation.base (4 * (k + 1))) ≡ o →
          Behaves place world (defining (instr.FrameLoad to k) to) d1 s 1 (or_wrong o) (Result place.activation d dest s)
      by None e = λ rest part. unsaid _ _
      by (Some r) e =
          so place world (defining (instr.FrameLoad to k) to) d1 s 1 (word r) (Sets to d1 s) (Result place.activation d dest s)
          (λ w s2 z. finish_sets place.activation d dest to d1 d1 w s s s2 to d1 target (omega arith) (λ y i j. refl) z)
          (defined place world (instr.FrameLoad to k) to d1 s 1 (word r)
          (λ rest. sets place world (instr.FrameLoad to k) to (FromSlot to k) (word r) rest s refl (target_settable d dest to
          d1 target) tt
          (λ n. ap (λ (b : Bool). (if b then with_content (content_of (world.memory.stack (slot place.activation.base k))) world
          (λ c. put_in to c (here place) (λ w1 s2. goes place w1 rest s2) world s) else wrong world) n) (ap (λ i. nat_lt k i)
          sees.slots_are ∙ below) ∙
          ap (λ c. with_content (content_of c) world (λ c. put_in to c (here place) (λ w1 s2. goes place w1 rest s2) world s) n)
          (sees.slot_loads k r lt e))))

  -- a word, or a byte, at an address
  load_does : (e : Tx) (dest : Option Opnd) (d : NumbersDrawn) (s : Contents) → IsFlat e → HasWords e → IsAskable dest →
      ((d1 : NumbersDrawn) → d.temp ≤ d1.temp → SideDoes e d1 s) → ((d1 : NumbersDrawn) → d.temp ≤ d1.temp → LeftDoes e d1 s) →
      Behaves place world (loaded_at slots e dest) d s (1 + units e + extra dest) (val (tree.Load e)) (Result place.activation d
      dest s)
  load_does e dest d s flat small askable side left =
      choosing place world (λ to. loaded (tiles.slot slots e) (based_at slots e) to) dest d s (1 + units e + extra dest) (val
      (tree.Load e)) (Result place.activation d dest s) askable
      (λ to d1 target. by to d1 target (tiles.slot slots e) refl)
    where
      by : (to : Opnd) (d1 : NumbersDrawn) → Target d dest to d1 → (o : Option ℕ) → tiles.slot slots e ≡ o →
          Behaves place world (loaded o (based_at slots e) to) d1 s (1 + units e + extra dest) (val (tree.Load e)) (Result
          place.activation d dest s)
      by to d1 target (Some k) at =
          let h = slot_is e k at in
          weaker place world (defining (instr.FrameLoad to k) to) d1 s 1 (1 + units e + extra dest) (or_wrong (load memory (sub
          place.activation.base (4 * (k + 1))))) (val (tree.Load e))
          (Result place.activation d dest s) (omega arith) (sym (ap (λ g. onward g (λ u. or_wrong (load memory u))) h.0))
          (from_slot k to dest d d1 s h.1 target)
      by to d1 target None at =
          let first = target_drawn d dest to d1 target in
          let within = after_within (val e) 1 1 (omega arith) in
          bind place world (based_at slots e) (λ b. defining (instr.Lw to b.bytes b.operand) to) d1 s (units e) 1 (1 + units
          e + extra dest) (val e) (λ u. or_wrong (load memory u))
          (λ y d2 v s1. Located d1 s y.bytes y.operand d2 v s1) (Result place.activation d dest s) (omega (arith, within))
          (located e d1 s flat small (side d1 first) (left d1 first))
          (λ v s1 q. let y = (based_at slots e d1).value in
          from_there load (instr.Lw to y.bytes y.operand) to y.operand y.bytes v dest d d1 (based_at slots e
          d1).drawn s s1 refl sees.loads target q)

  byte_does : (e : Tx) (dest : Option Opnd) (d : NumbersDrawn) (s : Contents) → IsFlat e → HasWords e → IsAskable dest →
      ((d1 : NumbersDrawn) → d.temp ≤ d1.temp → SideDoes e d1 s) → ((d1 : NumbersDrawn) → d.temp ≤ d1.temp → LeftDoes e d1 s) →
      Behaves place world (byte_at slots e dest) d s (1 + units e + extra dest) (val (tree.LoadByte e)) (Result place.activation
      d dest s)
  byte_does e dest d s flat small askable side left =
      choosing place world (λ to. loaded_byte (based_at slots e) to) dest d s (1 + units e + extra dest) (val (tree.LoadByte
      e)) (Result place.activation d dest s) askable
      (λ to d1 target. let first = target_drawn d dest to d1 target in
      let within = after_within (val e) 1 1 (omega arith) in
      bind place world (based_at slots e) (λ b. defining (instr.Lbu to b.bytes b.operand) to) d1 s (units e) 1 (1 + units e +
      extra dest) (val e) (λ u. or_wrong (load_byte memory u))
      (λ y d2 v s1. Located d1 s y.bytes y.operand d2 v s1) (Result place.activation d dest s) (omega (arith, within))
      (located e d1 s flat small (side d1 first) (left d1 first))
      (λ v s1 q. let y = (based_at slots e d1).value in
      from_there load_byte (instr.Lbu to y.bytes y.operand) to y.operand y.bytes v dest d d1 (based_at slots e
      d1).drawn s s1 refl sees.loads_byte target q))

  -- Each flat expression.
  abbrev pub DoesIt : Tx → Type 0
  DoesIt e = (dest : Option Opnd) (d : NumbersDrawn) (s : Contents) → IsAskable dest → Known temps d s → Comes_to scene e dest d s

  pub as_side : (e : Tx) (d : NumbersDrawn) (s : Contents) → Known temps d s → DoesIt e → SideDoes e d s
  as_side e d s known does d1 s1 le stay =
      weaker place world (expression slots e None) d1 s1 (units e + 0) (units e) (val e) (val e) (Result place.activation d1 None
      s1) (omega arith) refl
      (does None d1 s1 tt (known_on temps d d1 s s1 le stay known))

  loads_it : (e : Tx) → IsFlat e → HasWords e → DoesIt e → ((d : NumbersDrawn) (s : Contents) → Known temps d s → LeftDoes e d
      s) → DoesIt (tree.Load e)
  loads_it e flat small does left dest d s askable known =
      subst (λ c. Behaves place world c d s (1 + units e + extra dest) (val (tree.Load e)) (Result place.activation d dest s))
      (sym (load_is slots e dest))
      (load_does e dest d s flat small askable
      (λ d1 le. as_side e d1 s (known_on temps d d1 s s le (λ y i j. refl) known) does)
      (λ d1 le. left d1 s (known_on temps d d1 s s le (λ y i j. refl) known)))

  bytes_it : (e : Tx) → IsFlat e → HasWords e → DoesIt e → ((d : NumbersDrawn) (s : Contents) → Known temps d s → LeftDoes e d
      s) → DoesIt (tree.LoadByte e)
  bytes_it e flat small does left dest d s askable known =
      subst (λ c. Behaves place world c d s (1 + units e + extra dest) (val (tree.LoadByte e)) (Result place.activation d dest
      s)) (sym (load_byte_is slots e dest))
      (byte_does e dest d s flat small askable
      (λ d1 le. as_side e d1 s (known_on temps d d1 s s le (λ y i j. refl) known) does)
      (λ d1 le. left d1 s (known_on temps d d1 s s le (λ y i j. refl) known)))

  pub expression_does : (e : Tx) → IsFlat e → HasWords e → DoesIt e
  expression_does (tree.Const n) flat small = λ dest d s askable known. const_does scene n dest d
      s small askable
  expression_does (tree.Address l) flat small = λ dest d s askable known. address_does scene l
      dest d s askable
  expression_does (tree.Temp i) flat small = λ dest d s askable known. temp_does scene i dest d s
      askable known
  expression_does tree.FrameAddress flat small = λ dest d s askable known. frame_does scene dest d
      s askable
  expression_does (tree.Binary op a b) flat small = λ dest d s askable known.
      binary_does scene op a b dest d s flat.0 flat.1 small.0 small.1 askable
      (as_side a d s known (expression_does a flat.0 small.0)) (as_side b d s known (expression_does b flat.1 small.1))
  expression_does (tree.Load (tree.Binary op a b)) flat small =
      loads_it (tree.Binary op a b) flat small (expression_does (tree.Binary op a b) flat small) (λ d s known.
      as_side a d s known (expression_does a flat.0 small.0))
  expression_does (tree.Load tree.FrameAddress) flat small = loads_it tree.FrameAddress flat small (expression_does
      tree.FrameAddress flat small) (λ d s known. tt)
  expression_does (tree.Load (tree.Const n)) flat small = loads_it (tree.Const n) flat small (expression_does
      (tree.Const n) flat small) (λ d s known. tt)
  expression_does (tree.Load (tree.Address l)) flat small = loads_it (tree.Address l) flat small (expression_does
      (tree.Address l) flat small) (λ d s known. tt)
  expression_does (tree.Load (tree.Temp i)) flat small = loads_it (tree.Temp i) flat small (expression_does
      (tree.Temp i) flat small) (λ d s known. tt)
  expression_does (tree.Load (tree.Load e)) flat small = loads_it (tree.Load e) flat small (expression_does
      (tree.Load e) flat small) (λ d s known. tt)
  expression_does (tree.Load (tree.LoadByte e)) flat small = loads_it (tree.LoadByte e) flat small (expression_does
      (tree.LoadByte e) flat small) (λ d s known. tt)
  expression_does (tree.Load (tree.Call l xs)) flat small = absurd flat
  expression_does (tree.Load (tree.Service k e)) flat small = absurd flat
  expression_does (tree.Load (tree.After z e)) flat small = absurd flat
  expression_does (tree.LoadByte (tree.Binary op a b)) flat small =
      bytes_it (tree.Binary op a b) flat small (expression_does (tree.Binary op a b) flat small) (λ d s known.
      as_side a d s known (expression_does a flat.0 small.0))
  expression_does (tree.LoadByte tree.FrameAddress) flat small = bytes_it tree.FrameAddress flat small
      (expression_does tree.FrameAddress flat small) (λ d s known. tt)
  expression_does (tree.LoadByte (tree.Const n)) flat small = bytes_it (tree.Const n) flat small (expression_does
      (tree.Const n) flat small) (λ d s known. tt)
  expression_does (tree.LoadByte (tree.Address l)) flat small = bytes_it (tree.Address l) flat small (expression_does
      (tree.Address l) flat small) (λ d s known. tt)
  expression_does (tree.LoadByte (tree.Temp i)) flat small = bytes_it (tree.Temp i) flat small (expression_does
      (tree.Temp i) flat small) (λ d s known. tt)
  expression_does (tree.LoadByte (tree.Load e)) flat small = bytes_it (tree.Load e) flat small (expression_does
      (tree.Load e) flat small) (λ d s known. tt)
  expression_does (tree.LoadByte (tree.LoadByte e)) flat small = bytes_it (tree.LoadByte e) flat small
      (expression_does (tree.LoadByte e) flat small) (λ d s known. tt)
  expression_does (tree.LoadByte (tree.Call l xs)) flat small = absurd flat
  expression_does (tree.LoadByte (tree.Service k e)) flat small = absurd flat
  expression_does (tree.LoadByte (tree.After z e)) flat small = absurd flat
  expression_does (tree.Call l xs) flat small = absurd flat
  expression_does (tree.Service k e) flat small = absurd flat
  expression_does (tree.After z e) flat small = absurd flat
