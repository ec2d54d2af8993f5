-- What operators' tiles do, where their sides do what they say.
use Rattle.std.proofs.Common.{◌≡◌, ◌≤◌, ℕ, ◌+◌, ◌%◌, ◌/◌, ◌*◌, List, ◌∷◌, Bool, refl, sym, ap, ◌∙◌, subst, arith}
use Rattle.std.specs.Prelude.{◌==◌, false, true, Option, Some, None, nat_lt, bit_or, if◌then◌else◌}
use Rattle.tg_base.specs.Words.{add, quot, extended, exact_sum, exact_difference}
use Rattle.tg_simulation.specs.Ran.{Wrong}
use Rattle.tg_tree.specs.declared.operators.Bin.{Bin}
use Rattle.tg_tree.specs.declared.operators.Bin.TheVariants as bin
use Rattle.tg_tree.specs.Operators.{Given, word, stops_by, operate, exactly}
use Rattle.tg_tree.specs.FlatValue.{onward, after_word}
use Rattle.tg_tree.specs.Actions.{World, Activation}
use Rattle.tg_instr.specs.declared.operands.Opnd.{Opnd}
use Rattle.tg_instr.specs.declared.instr.Instr.{Instr}
use Rattle.tg_instr.specs.declared.instr.Instr.TheVariants as instr
use Rattle.tg_instr.specs.Operands.{is_same}
use Rattle.tg_instr.specs.Shapes.{Operand, Hi, Lo, From0}
use Rattle.tg_instr.specs.Contents.{Word, Contents, set, held}
use Rattle.tg_munch.specs.mirror.Choosing.{Choice, NumbersDrawn, ◌>>=◌, ◌>>◌, put, defining}
use Rattle.tg_munch.specs.mirror.Tiles.{nothing, is_small, field, constant, halves, instruction, with_field}
use Rattle.tg_munch_proof.specs.Words.{IsWord}
use Rattle.tg_munch_proof.specs.glue.Places.{Does, Place, Behaves, Lands, goes}
use Rattle.tg_munch_proof.specs.laws.Values.{IsSettable, Result, Stay, IsAskable}
use Rattle.tg_munch_proof.proofs.Behaving.{IsSaid, bind, weaker, so, known, sets, from1}
use Rattle.tg_munch_proof.proofs.Fields.{DoesAs, halves_are, upper_alone, low_alone, small_alone}
use Rattle.tg_munch_proof.proofs.Results.{Target, SetTo, choosing, finish, set_holds, target_drawn, target_settable}

-- no operator wants fuel
said_exactly : (o : Option ℕ) → IsSaid (exactly o)
said_exactly (Some v) = tt
said_exactly None = tt

pub said : (op : Bin) (u v : ℕ) → IsSaid (operate op u v)
said bin.AddTrap u v = said_exactly (exact_sum u v)
said bin.SubTrap u v = said_exactly (exact_difference u v)
said bin.Div u v = by (v == 0)
  where
    by : (b : Bool) → IsSaid (if b then stops_by Wrong else word (quot u v))
    by true = tt
    by false = tt
said bin.Add u v = tt
said bin.Sub u v = tt
said bin.Mul u v = tt
said bin.And u v = tt
said bin.Or u v = tt
said bin.Xor u v = tt
said bin.ShiftLeft u v = tt
said bin.ShiftRight u v = tt
said bin.ShiftSigned u v = tt
said bin.MulHigh u v = tt

same_word : (a b : ℕ) → word a ≡ word b → a ≡ b
same_word a b e = cc

twice : (to y : Opnd) (v w : ℕ) (s : Contents) → set (Operand to) (Word v) (set (Operand to) (Word w) s) (Operand y)
    ≡ set (Operand to) (Word v) s (Operand y)
twice to y v w s = by (is_same y to)
  where
    by : (b : Bool) → (if b then Word v else if b then Word w else s (Operand y)) ≡ (if b then Word v else s (Operand
        y))
    by true = refl
    by false = refl

-- what a choice whose one instruction writes an operand, and which gives that, comes to
abbrev pub Sets : Opnd → NumbersDrawn → Contents → Opnd → NumbersDrawn → ℕ → Contents → Type 0
Sets to d s y d1 v s1 = (y ≡ to) × SetTo to v s s1 × (d.temp ≤ d1.temp)

pub finish_sets : (act : Activation) (d : NumbersDrawn) (dest : Option Opnd) (to : Opnd) (d1 d2 : NumbersDrawn) (v : ℕ) (s s1 s2 :
    Contents) (y : Opnd) (d3 : NumbersDrawn) →
    Target d dest to d1 → d1.temp ≤ d2.temp → Stay d1.temp None s s1 → Sets to d2 s1 y d3 v s2 → Result act d dest s
    y d3 v s2
finish_sets act d dest to d1 d2 v s s1 s2 y d3 target le stay e =
    let more = e.2 in
    subst (λ z. Result act d dest s z d3 v s2) (sym e.0) (finish act d dest to d1 d3 v s s1 s2 target (omega (
      arith,
      le,
      more,
    )) stay e.1)

module _ (p : Place) (x : World) where
  -- one instruction
  pub defined : (one : Instr) (to : Opnd) (d : NumbersDrawn) (s : Contents) (k : ℕ) (g : Given) →
      ((rest : List Instr) → Does x (λ v e. Lands p x (λ s1. s1 ≡ set (Operand to) (Word v) s) rest e) k (goes p x
      (one ∷ rest) s) g) →
      Behaves p x (defining one to) d s k g (Sets to d s)
  defined one to d s k g h =
      so p x (defining one to) d s k g (λ y e v s1. s1 ≡ set (Operand to) (Word v) s) (Sets to d s)
      (λ v s1 e. (refl, λ y. ap (λ (c : Contents). c (Operand y)) e, omega arith)) (λ rest part. h rest)

  -- an instruction that writes both, and then the one that reads one of them
  abbrev SetsHalves : ℕ → ℕ → Contents → Unit {0} → NumbersDrawn → ℕ → Contents → Type 0
  SetsHalves l h s y d v s1 = s1 ≡ set Lo (Word l) (set Hi (Word h) s)

  pub two_halves : (one two : Instr) (to : Opnd) (d : NumbersDrawn) (s : Contents) (l h : ℕ) (r : ℕ) →
      ((rest : List Instr) → Does x (λ v e. Lands p x (λ s1. s1 ≡ set Lo (Word l) (set Hi (Word h) s)) rest e) 1
      (goes p x (one ∷ rest) s) (word 0)) →
      ((rest : List Instr) → Does x (λ v e. Lands p x (λ s1. s1 ≡ set (Operand to) (Word v) (set Lo (Word l) (set Hi
      (Word h) s))) rest e) 1
      (goes p x (two ∷ rest) (set Lo (Word l) (set Hi (Word h) s))) (word r)) →
      Behaves p x (put one >> defining two to) d s 2 (word r) (Sets to d s)
  two_halves one two to d s l h r first second =
      bind p x (put one) (λ y. defining two to) d s 1 1 2 (word 0) (λ v. word r) (SetsHalves l h s) (Sets to d s)
      (omega arith)
      (λ rest part. first rest)
      (λ v s1 e. subst (λ c. Behaves p x (defining two to) d c 1 (word r) (Sets to d s)) (sym e)
      (so p x (defining two to) d (set Lo (Word l) (set Hi (Word h) s)) 1 (word r) (Sets to d (set Lo (Word l) (set
      Hi (Word h) s))) (Sets to d s)
      (λ w s2 q. q) (defined two to d (set Lo (Word l) (set Hi (Word h) s)) 1 (word r) second)))

  -- a constant
  pub constant_does : (to : Opnd) (n : ℕ) (d : NumbersDrawn) (s : Contents) → IsSettable to → IsWord n → Behaves p x
      (constant to n) d s 2 (word n) (Sets to d s)
  constant_does to n d s settable small = by (is_small n) (nat_lt n 65536) (n % 65536 == 0) refl refl refl
    where
      one_is : (one : Instr) (r : ℕ) → r ≡ n →
          ((rest : List Instr) → Does x (λ v e. Lands p x (λ s1. s1 ≡ set (Operand to) (Word v) s) rest e) 1 (goes p
          x (one ∷ rest) s) (word r)) →
          Behaves p x (defining one to) d s 2 (word n) (Sets to d s)
      one_is one r e h = weaker p x (defining one to) d s 1 2 (word r) (word n) (Sets to d s) (omega arith) (ap word
          e) (defined one to d s 1 (word r) h)

      upper : (rest : List Instr) → Does x (λ v e. Lands p x (λ s1. s1 ≡ set (Operand to) (Word v) s) rest e) 1
          (goes p x (instr.Lui to (field (n / 65536)) ∷ rest) s) (word (field (n / 65536) * 65536))
      upper rest = sets p x (instr.Lui to (field (n / 65536))) to (From0 to (field (n / 65536) * 65536)) (word (field
          (n / 65536) * 65536)) rest s refl settable tt (λ i. refl)

      lower : (v : ℕ) (s1 : Contents) → v ≡ field (n / 65536) * 65536 → s1 ≡ set (Operand to) (Word v) s → Behaves p
          x (defining (instr.Ori to to (field n)) to) d s1 1 (word n) (Sets to d s)
      lower v s1 ev e =
          let here : held p.activation s1 (Operand to) ≡ Word v =
          set_holds p.activation to v s s1 settable (λ y. ap (λ (c : Contents). c (Operand y)) e) in
          weaker p x (defining (instr.Ori to to (field n)) to) d s1 1 1 (word (bit_or v (field n))) (word n) (Sets to
          d s) (omega arith)
          (ap (λ h. word (bit_or h (field n))) ev ∙ ap word (halves_are n small))
          (so p x (defining (instr.Ori to to (field n)) to) d s1 1 (word (bit_or v (field n))) (Sets to d s1) (Sets
          to d s)
          (λ w s2 q. (
            q.0,
            λ y. q.1 y ∙ (ap (λ (c : Contents). set (Operand to) (Word w) c (Operand y)) e ∙ twice to
                y w v s),
            q.2,
          ))
          (defined (instr.Ori to to (field n)) to d s1 1 (word (bit_or v (field n)))
          (λ rest. from1 p x (instr.Ori to to (field n)) to (Operand to) (λ a. word (bit_or a (field n))) v rest s1
          refl settable tt here)))

      by : (b c e : Bool) → is_small n ≡ b → nat_lt n 65536 ≡ c → (n % 65536 == 0) ≡ e →
          Behaves p x (if b then defining (instr.Addiu to nothing (field n)) to else if c then defining (instr.Ori to
          nothing (field n)) to else
          if e then defining (instr.Lui to (field (n / 65536))) to else halves to n) d s 2 (word n) (Sets to d s)
      by true c e i j k = one_is (instr.Addiu to nothing (field n)) (add 0 (extended (field n))) (small_alone n small i)
          (λ rest. from1 p x (instr.Addiu to nothing (field n)) to (Operand nothing) (λ a. word (add a (extended
          (field n)))) 0 rest s refl settable tt refl)
      by false true e i j k = one_is (instr.Ori to nothing (field n)) (bit_or 0 (field n)) (low_alone n j)
          (λ rest. from1 p x (instr.Ori to nothing (field n)) to (Operand nothing) (λ a. word (bit_or a (field n))) 0
          rest s refl settable tt refl)
      by false false true i j k = one_is (instr.Lui to (field (n / 65536))) (field (n / 65536) * 65536) (upper_alone
          n small k) upper
      by false false false i j k =
          bind p x (put (instr.Lui to (field (n / 65536)))) (λ y. defining (instr.Ori to to (field n)) to) d s 1 1 2
          (word (field (n / 65536) * 65536)) (λ v. word n)
          (λ y e v s1. (word (field (n / 65536) * 65536) ≡ word v) × (s1 ≡ set (Operand to) (Word v) s)) (Sets to d
          s) (omega arith)
          (known p x (put (instr.Lui to (field (n / 65536)))) d s 1 (word (field (n / 65536) * 65536)) (λ y e v s1.
          s1 ≡ set (Operand to) (Word v) s)
          (λ rest part. upper rest))
          (λ v s1 e. lower v s1 (sym (same_word (field (n / 65536) * 65536) v e.0)) e.1)

  -- a tile with a field
  pub field_tile : (op : Bin) (n : ℕ) (one : _) (dest : Option Opnd) (side : Choice Opnd) (d : NumbersDrawn) (s : Contents)
      (k : ℕ) (g : Given) →
      DoesAs op n (instruction one) → IsAskable dest →
      ((d1 : NumbersDrawn) → d.temp ≤ d1.temp → Behaves p x side d1 s k g (Result p.activation d1 None s)) →
      Behaves p x (with_field one dest side) d s (k + after_word g 1) (onward g (λ u. operate op u n)) (Result
      p.activation d dest s)
  field_tile op n one dest side d s k g does askable h =
      choosing p x (λ to. side >>= (λ y. defining (instruction one to y) to)) dest d s (k + after_word g 1) (onward g
      (λ u. operate op u n))
      (Result p.activation d dest s) askable
      (λ to d1 target.
      bind p x side (λ y. defining (instruction one to y) to) d1 s k 1 (k + after_word g 1) g (λ u. operate op u n)
      (Result p.activation d1 None s)
      (Result p.activation d dest s) (omega arith) (h d1 (target_drawn d dest to d1 target))
      (λ u s1 q. last to d1 target u s1 (side d1).value (side d1).drawn q))
    where
      last : (to : Opnd) (d1 : NumbersDrawn) → Target d dest to d1 → (u : ℕ) (s1 : Contents) (y : Opnd) (d2 : NumbersDrawn) →
          Result p.activation d1 None s y d2 u s1 →
          Behaves p x (defining (instruction one to y) to) d2 s1 1 (operate op u n) (Result p.activation d dest s)
      last to d1 target u s1 y d2 q =
          weaker p x (defining (instruction one to y) to) d2 s1 1 1 (does.does u) (operate op u n) (Result
          p.activation d dest s) (omega arith) (does.same u)
          (so p x (defining (instruction one to y) to) d2 s1 1 (does.does u) (Sets to d2 s1) (Result p.activation d
          dest s)
          (λ v s2 e. finish_sets p.activation d dest to d1 d2 v s s1 s2 to d2 target q.drawn q.stay e)
          (defined (instruction one to y) to d2 s1 1 (does.does u)
          (λ rest. from1 p x (instruction one to y) to (Operand y) does.does u rest s1 (does.is to y)
          (target_settable d dest to d1 target)
          (subst (λ g. IsSaid g) (sym (does.same u)) (said op u n)) q.holds)))
