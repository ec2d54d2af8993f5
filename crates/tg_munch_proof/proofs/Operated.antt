-- Operators on two operands.
use Rattle.std.proofs.Common.{◌≡◌, ◌≤◌, ℕ, ◌+◌, Bool, refl, sym, ap, subst, arith}
use Rattle.std.specs.Prelude.{◌==◌, false, true, Option, None, bit_and, bit_or, bit_xor, if◌then◌else◌}
use Rattle.tg_base.specs.Words.{add, sub, quot, rem, mul, product_low, product_high, exact_sum, exact_difference}
use Rattle.tg_simulation.specs.Ran.{Wrong}
use Rattle.tg_tree.specs.Tree.{Tx}
use Rattle.tg_tree.specs.Units.{operator_units}
use Rattle.tg_tree.specs.declared.operators.Bin.{Bin}
use Rattle.tg_tree.specs.declared.operators.Bin.TheVariants as bin
use Rattle.tg_tree.specs.Operators.{Given, word, stops_by, operate, exactly}
use Rattle.tg_tree.specs.FlatValue.{onward, after_word}
use Rattle.tg_tree.specs.Actions.{World}
use Rattle.tg_instr.specs.declared.operands.Opnd.{Opnd}
use Rattle.tg_instr.specs.declared.instr.Instr.{Instr}
use Rattle.tg_instr.specs.declared.instr.Instr.TheVariants as instr
use Rattle.tg_instr.specs.Shapes.{Operand, Hi, Lo, From2, shape, unless_zero}
use Rattle.tg_instr.specs.Contents.{Word, Contents, set, held}
use Rattle.tg_munch.specs.mirror.Choosing.{Choice, NumbersDrawn, ◌>>=◌, choose, put, defining}
use Rattle.tg_munch.specs.mirror.Tiles.{operated, is_shift}
use Rattle.tg_munch_proof.specs.Words.{IsWord}
use Rattle.tg_munch_proof.specs.glue.Places.{unsaid, Place, Behaves}
use Rattle.tg_munch_proof.specs.laws.Values.{IsSettable, Result, Stay, IsAskable}
use Rattle.tg_munch_proof.proofs.Arithmetic.{low_product}
use Rattle.tg_munch_proof.proofs.Behaving.{IsSaid, bind, weaker, so, known, from1, from2, halves2}
use Rattle.tg_munch_proof.proofs.Results.{Target, choosing, target_drawn, target_settable, survives, stay_on}
use Rattle.tg_munch_proof.proofs.Results.{stay_less}
use Rattle.tg_munch_proof.proofs.Tiled.{Sets, finish_sets, said, defined, two_halves}

no : true ≡ false → ⊥
no e = cc

module _ (p : Place) (x : World) where
  -- by one instruction
  by_one : (op : Bin) (one : Instr) (to a b : Opnd) (f : ℕ → ℕ → Given) (d : NumbersDrawn) (s : Contents) (u v : ℕ) → shape
      one ≡ From2 to a b f →
      IsSettable to → f u v ≡ operate op u v → held p.activation s (Operand a) ≡ Word u → held p.activation s
      (Operand b) ≡ Word v →
      Behaves p x (defining one to) d s 1 (operate op u v) (Sets to d s)
  by_one op one to a b f d s u v is settable same ha hb =
      weaker p x (defining one to) d s 1 1 (f u v) (operate op u v) (Sets to d s) (omega arith) same
      (defined p x one to d s 1 (f u v)
      (λ rest. from2 p x one to a b f u v rest s is settable (subst (λ g. IsSaid g) (sym same) (said op u v)) ha hb))

  -- a product, whose lower or upper word is wanted
  low_does : (to a b : Opnd) (d : NumbersDrawn) (s : Contents) (u v : ℕ) → IsSettable to → IsWord u → IsWord v →
      held p.activation s (Operand a) ≡ Word u → held p.activation s (Operand b) ≡ Word v →
      Behaves p x (operated bin.Mul to a b) d s 2 (word (mul u v)) (Sets to d s)
  low_does to a b d s u v settable wu wv ha hb =
      let l = product_low u v in
      let h = product_high u v in
      weaker p x (operated bin.Mul to a b) d s 2 2 (word l) (word (mul u v)) (Sets to d s) (omega arith) (ap word
      (sym (low_product u v wu wv)))
      (two_halves p x (instr.Mult a b) (instr.Mflo to) to d s l h l
      (λ rest. halves2 p x (instr.Mult a b) a b (λ i j. word (product_low i j)) (λ i j. word (product_high i j)) u v
      l h rest s refl ha hb refl refl)
      (λ rest. from1 p x (instr.Mflo to) to Lo (λ i. word i) l rest (set Lo (Word l) (set Hi (Word h) s)) refl
      settable tt refl))

  high_does : (to a b : Opnd) (d : NumbersDrawn) (s : Contents) (u v : ℕ) → IsSettable to →
      held p.activation s (Operand a) ≡ Word u → held p.activation s (Operand b) ≡ Word v →
      Behaves p x (operated bin.MulHigh to a b) d s 2 (word (product_high u v)) (Sets to d s)
  high_does to a b d s u v settable ha hb =
      let l = product_low u v in
      let h = product_high u v in
      two_halves p x (instr.Mult a b) (instr.Mfhi to) to d s l h h
      (λ rest. halves2 p x (instr.Mult a b) a b (λ i j. word (product_low i j)) (λ i j. word (product_high i j)) u v
      l h rest s refl ha hb refl refl)
      (λ rest. from1 p x (instr.Mfhi to) to Hi (λ i. word i) h rest (set Lo (Word l) (set Hi (Word h) s)) refl
      settable tt refl)

  -- a quotient: a division by 0 has gone wrong
  quotient_does : (to a b : Opnd) (d : NumbersDrawn) (s : Contents) (u v : ℕ) → IsSettable to →
      held p.activation s (Operand a) ≡ Word u → held p.activation s (Operand b) ≡ Word v →
      Behaves p x (operated bin.Div to a b) d s 2 (operate bin.Div u v) (Sets to d s)
  quotient_does to a b d s u v settable ha hb = by (v == 0) refl
    where
      by : (z : Bool) → (v == 0) ≡ z → Behaves p x (operated bin.Div to a b) d s 2 (if z then stops_by Wrong else
          word (quot u v)) (Sets to d s)
      by true e = λ rest part. unsaid 2 _
      by false e =
          two_halves p x (instr.Div a b) (instr.Mflo to) to d s (quot u v) (rem u v) (quot u v)
          (λ rest. halves2 p x (instr.Div a b) a b (unless_zero quot) (unless_zero rem) u v (quot u v) (rem u v) rest
          s refl ha hb
          (ap (λ (y : Bool). if y then stops_by Wrong else word (quot u v)) e) (ap (λ (y : Bool). if y then stops_by
          Wrong else word (rem u v)) e))
          (λ rest. from1 p x (instr.Mflo to) to Lo (λ i. word i) (quot u v) rest (set Lo (Word (quot u v)) (set Hi
          (Word (rem u v)) s)) refl settable tt refl)

  pub operated_does : (op : Bin) (y : Tx) (to a b : Opnd) (d : NumbersDrawn) (s : Contents) (u v : ℕ) → is_shift op ≡ false
      → IsSettable to → IsWord u → IsWord v →
      held p.activation s (Operand a) ≡ Word u → held p.activation s (Operand b) ≡ Word v →
      Behaves p x (operated op to a b) d s (operator_units op y) (operate op u v) (Sets to d s)
  operated_does bin.Add y to a b d s u v n t wu wv ha hb = by_one bin.Add (instr.Addu to a b) to a b (λ i j. word
      (add i j)) d s u v refl t refl ha hb
  operated_does bin.Sub y to a b d s u v n t wu wv ha hb = by_one bin.Sub (instr.Subu to a b) to a b (λ i j. word
      (sub i j)) d s u v refl t refl ha hb
  operated_does bin.And y to a b d s u v n t wu wv ha hb = by_one bin.And (instr.And to a b) to a b (λ i j. word
      (bit_and i j)) d s u v refl t refl ha hb
  operated_does bin.Or y to a b d s u v n t wu wv ha hb = by_one bin.Or (instr.Or to a b) to a b (λ i j. word (bit_or
      i j)) d s u v refl t refl ha hb
  operated_does bin.Xor y to a b d s u v n t wu wv ha hb = by_one bin.Xor (instr.Xor to a b) to a b (λ i j. word
      (bit_xor i j)) d s u v refl t refl ha hb
  operated_does bin.AddTrap y to a b d s u v n t wu wv ha hb =
      by_one bin.AddTrap (instr.Add to a b) to a b (λ i j. exactly (exact_sum i j)) d s u v refl t refl ha hb
  operated_does bin.SubTrap y to a b d s u v n t wu wv ha hb =
      by_one bin.SubTrap (instr.Sub to a b) to a b (λ i j. exactly (exact_difference i j)) d s u v refl t refl ha hb
  operated_does bin.Mul y to a b d s u v n t wu wv ha hb = low_does to a b d s u v t wu wv ha hb
  operated_does bin.MulHigh y to a b d s u v n t wu wv ha hb = high_does to a b d s u v t ha hb
  operated_does bin.Div y to a b d s u v n t wu wv ha hb = quotient_does to a b d s u v t ha hb
  operated_does bin.ShiftLeft y to a b d s u v n t wu wv ha hb = absurd (no n)
  operated_does bin.ShiftRight y to a b d s u v n t wu wv ha hb = absurd (no n)
  operated_does bin.ShiftSigned y to a b d s u v n t wu wv ha hb = absurd (no n)

  -- what an operator leaves besides its word, after two sides whose words are there
  abbrev pub Behind : Given → Given → (ℕ → ℕ → Contents → Type 0) → Contents → Type 0
  Behind g h More s = (u : ℕ) × ((v : ℕ) × ((g ≡ word u) × (h ≡ word v) × More u v s))

  -- an operator on two sides
  pub operands_leave : (op : Bin) (units : ℕ) (dest : Option Opnd) (left right : Choice Opnd) (d : NumbersDrawn) (s : Contents)
      (k l : ℕ) (g h : Given) (More : ℕ → ℕ → Contents → Type 0) →
      ((to a b : Opnd) (d1 : NumbersDrawn) (s1 : Contents) (u v : ℕ) → IsSettable to → IsWord u → IsWord v →
      held p.activation s1 (Operand a) ≡ Word u → held p.activation s1 (Operand b) ≡ Word v →
      Behaves p x (operated op to a b) d1 s1 units (operate op u v) (λ z e w s2. Sets to d1 s1 z e w s2 × More u v s2)) →
      IsAskable dest → ((u : ℕ) → g ≡ word u → IsWord u) → ((v : ℕ) → h ≡ word v → IsWord v) →
      ((d1 : NumbersDrawn) → d.temp ≤ d1.temp → Behaves p x left d1 s k g (Result p.activation d1 None s)) →
      ((d2 : NumbersDrawn) (s1 : Contents) → d.temp ≤ d2.temp → Stay d.temp None s s1 →
      Behaves p x right d2 s1 l h (Result p.activation d2 None s1)) →
      Behaves p x (choose dest >>= (λ to. left >>= (λ a. right >>= (λ b. operated op to a b)))) d s
      (k + after_word g (l + after_word h units)) (onward g (λ u. onward h (λ v. operate op u v)))
      (λ z e w s2. Result p.activation d dest s z e w s2 × Behind g h More s2)
  operands_leave op units dest left right d s k l g h More does askable wg wh hl hr =
      choosing p x (λ to. left >>= (λ a. right >>= (λ b. operated op to a b))) dest d s _
      (onward g (λ u. onward h (λ v. operate op u v))) (λ z e w s2. Result p.activation d dest s z e w s2 × Behind g h More s2)
      askable behind_choice
    where
      last : (to : Opnd) (d1 : NumbersDrawn) → Target d dest to d1 → (u v : ℕ) (s1 s2 : Contents) (a b : Opnd) (d2 d3 : NumbersDrawn) →
          g ≡ word u → h ≡ word v →
          Result p.activation d1 None s a d2 u s1 → Result p.activation d2 None s1 b d3 v s2 →
          Behaves p x (operated op to a b) d3 s2 units (operate op u v)
          (λ z e w s3. Result p.activation d dest s z e w s3 × Behind g h More s3)
      last to d1 target u v s1 s2 a b d2 d3 eg eh q r =
          let le = q.drawn in
          let le2 = r.drawn in
          so p x (operated op to a b) d3 s2 units (operate op u v) (λ z e w s3. Sets to d3 s2 z e w s3 × More u v s3)
          (λ z e w s3. Result p.activation d dest s z e w s3 × Behind g h More s3)
          (λ w s3 e. (
            finish_sets p.activation d dest to d1 d3 w s s2 s3 (operated op to a b d3).value (operated op to a b d3).drawn
                target (omega (arith, le, le2)) (stay_on d1.temp d2.temp s s1 s2 le q.stay r.stay) e.0,
            (u, (v, (eg, eh, e.1))),
          ))
          (does to a b d3 s2 u v (target_settable d dest to d1 target) (wg u eg) (wh v eh)
          (survives p.activation d2.temp a (Word u) s1 s2 q.there r.stay q.holds) r.holds)

      behind_left : (to : Opnd) (d1 : NumbersDrawn) → Target d dest to d1 → (u : ℕ) (s1 : Contents) (a : Opnd) (d2 : NumbersDrawn) →
          g ≡ word u → Result p.activation d1 None s a d2 u s1 →
          Behaves p x (right >>= (λ b. operated op to a b)) d2 s1 (l + after_word h units)
          (onward h (λ v. operate op u v)) (λ z e w s3. Result p.activation d dest s z e w s3 × Behind g h More s3)
      behind_left to d1 target u s1 a d2 eg q =
          let first = target_drawn d dest to d1 target in
          let le = q.drawn in
          bind p x right (λ b. operated op to a b) d2 s1 l units (l + after_word h units) h (λ v. operate op u v)
          (λ b d3 v s2. (h ≡ word v) × Result p.activation d2 None s1 b d3 v s2)
          (λ z e w s3. Result p.activation d dest s z e w s3 × Behind g h More s3) (omega arith)
          (known p x right d2 s1 l h (Result p.activation d2 None s1)
          (hr d2 s1 (omega (arith, first, le)) (stay_less d.temp d1.temp s s1 first q.stay)))
          (λ v s2 r. last to d1 target u v s1 s2 a (right d2).value d2 (right d2).drawn eg r.0 q r.1)

      behind_choice : (to : Opnd) (d1 : NumbersDrawn) → Target d dest to d1 →
          Behaves p x (left >>= (λ a. right >>= (λ b. operated op to a b))) d1 s (k + after_word g (l + after_word h units))
          (onward g (λ u. onward h (λ v. operate op u v)))
          (λ z e w s3. Result p.activation d dest s z e w s3 × Behind g h More s3)
      behind_choice to d1 target =
          bind p x left (λ a. right >>= (λ b. operated op to a b)) d1 s k (l + after_word h units)
          (k + after_word g (l + after_word h units)) g (λ u. onward h (λ v. operate op u v))
          (λ a d2 u s1. (g ≡ word u) × Result p.activation d1 None s a d2 u s1)
          (λ z e w s3. Result p.activation d dest s z e w s3 × Behind g h More s3) (omega arith)
          (known p x left d1 s k g (Result p.activation d1 None s) (hl d1 (target_drawn d dest to d1 target)))
          (λ u s1 q. behind_left to d1 target u s1 (left d1).value (left d1).drawn q.0 q.1)

  pub operands_tile : (op : Bin) (y : Tx) (dest : Option Opnd) (left right : Choice Opnd) (d : NumbersDrawn) (s : Contents)
      (k l : ℕ) (g h : Given) →
      is_shift op ≡ false → IsAskable dest → ((u : ℕ) → g ≡ word u → IsWord u) → ((v : ℕ) → h ≡ word v → IsWord v) →
      ((d1 : NumbersDrawn) → d.temp ≤ d1.temp → Behaves p x left d1 s k g (Result p.activation d1 None s)) →
      ((d2 : NumbersDrawn) (s1 : Contents) → d.temp ≤ d2.temp → Stay d.temp None s s1 →
      Behaves p x right d2 s1 l h (Result p.activation d2 None s1)) →
      Behaves p x (choose dest >>= (λ to. left >>= (λ a. right >>= (λ b. operated op to a b)))) d s
      (k + after_word g (l + after_word h (operator_units op y))) (onward g (λ u. onward h (λ v. operate op u v)))
      (Result p.activation d dest s)
  operands_tile op y dest left right d s k l g h other askable wg wh hl hr =
      so p x (choose dest >>= (λ to. left >>= (λ a. right >>= (λ b. operated op to a b)))) d s
      (k + after_word g (l + after_word h (operator_units op y))) (onward g (λ u. onward h (λ v. operate op u v)))
      (λ z e w s2. Result p.activation d dest s z e w s2 × Behind g h (λ u v s3. Unit {0}) s2)
      (Result p.activation d dest s) (λ v s1 q. q.0)
      (operands_leave op (operator_units op y) dest left right d s k l g h (λ u v s3. Unit {0})
      (λ to a b d1 s1 u v settable wu wv ha hb.
      so p x (operated op to a b) d1 s1 (operator_units op y) (operate op u v) (Sets to d1 s1)
      (λ z e w s2. Sets to d1 s1 z e w s2 × Unit {0}) (λ w s2 e. (e, tt))
      (operated_does op y to a b d1 s1 u v other settable wu wv ha hb))
      askable wg wh hl hr)

  -- a product leaves its upper word in hi
  pub product_leaves : (to a b : Opnd) (d : NumbersDrawn) (s : Contents) (u v : ℕ) → IsSettable to → IsWord u → IsWord v →
      held p.activation s (Operand a) ≡ Word u → held p.activation s (Operand b) ≡ Word v →
      Behaves p x (operated bin.Mul to a b) d s 2 (word (mul u v))
      (λ z e w s1. Sets to d s z e w s1 × (s1 Hi ≡ Word (product_high u v)))
  product_leaves to a b d s u v settable wu wv ha hb =
      let l = product_low u v in
      let h = product_high u v in
      let halves : Contents = set Lo (Word l) (set Hi (Word h) s) in
      let Leaves = (λ (z : Opnd) (e : NumbersDrawn) (w : ℕ) (s1 : Contents). Sets to d s z e w s1 × (s1 Hi ≡ Word h)) in
      weaker p x (operated bin.Mul to a b) d s 2 2 (word l) (word (mul u v)) Leaves (omega arith)
      (ap word (sym (low_product u v wu wv)))
      (bind p x (put (instr.Mult a b)) (λ y. defining (instr.Mflo to) to) d s 1 1 2 (word 0) (λ i. word l)
      (λ y e w s1. s1 ≡ halves) Leaves (omega arith)
      (λ rest part. halves2 p x (instr.Mult a b) a b (λ i j. word (product_low i j)) (λ i j. word (product_high i j))
      u v l h rest s refl ha hb refl refl)
      (λ w s1 e. subst (λ c. Behaves p x (defining (instr.Mflo to) to) d c 1 (word l) Leaves) (sym e)
      (so p x (defining (instr.Mflo to) to) d halves 1 (word l) (λ z y i s2. s2 ≡ set (Operand to) (Word i) halves) Leaves
      (λ i s2 q. ((refl, λ y. ap (λ (c : Contents). c (Operand y)) q, omega arith), ap (λ (c : Contents). c Hi) q))
      (λ rest part. from1 p x (instr.Mflo to) to Lo (λ i. word i) l rest halves refl settable tt refl))))
