-- A shift by a word: its five bits one after another, and the operand that is asked for.
use Rattle.tg_munch_proof.specs.laws.Values.{extra}
use Rattle.std.proofs.Common.{◌≡◌, ◌≤◌, ◌<◌, ℕ, ◌+◌, ◌%◌, Bool, refl, sym, ap, ◌∙◌, subst, arith}
use Rattle.std.specs.Prelude.{◌==◌, false, true, Option, Some, None, bit_and, if◌then◌else◌}
use Rattle.tg_tree.specs.declared.operators.Bin.{Bin}
use Rattle.tg_tree.specs.declared.operators.Bin.TheVariants as bin
use Rattle.tg_tree.specs.Operators.{Given, word, operate}
use Rattle.tg_tree.specs.FlatValue.{onward, after_word}
use Rattle.tg_tree.specs.Actions.{World}
use Rattle.tg_instr.specs.declared.operands.Opnd.{Opnd}
use Rattle.tg_instr.specs.declared.operands.Opnd.TheVariants.{Temp, Reg}
use Rattle.tg_instr.specs.declared.instr.Instr.TheVariants as instr
use Rattle.tg_instr.specs.Operands.{is_same}
use Rattle.tg_instr.specs.Shapes.{Operand}
use Rattle.tg_instr.specs.Contents.{Word, Contents, set, held}
use Rattle.tg_munch.specs.mirror.Choosing.{Choice, NumbersDrawn, ◌>>=◌, ◌>>◌, give, put, defining}
use Rattle.tg_munch.specs.mirror.Tiles.{is_shift, shift_bit, shift_bits, shifted, shifted_into, moved}
use Rattle.tg_munch.specs.mirror.Munching.{temp}
use Rattle.tg_munch_proof.specs.Words.{IsWord}
use Rattle.tg_munch_proof.specs.glue.Places.{Place, Behaves, Walks}
use Rattle.tg_munch_proof.specs.laws.Values.{Result, Stay, IsOld, IsAskable}
use Rattle.tg_munch_proof.proofs.Behaving.{bind, weaker, so, known, nothing_done, copied}
use Rattle.tg_munch_proof.proofs.Results.{Target, asked, own, choosing, survives, survives_other, old_still, itself}
use Rattle.tg_munch_proof.proofs.Results.{below_differs, stay_on}
use Rattle.tg_munch_proof.proofs.Shifting.{shifted_as, part, five_bits, twice_shifted, not_shifted, Partly, by_bit}
use Rattle.tg_munch_proof.proofs.Shifting.{bit_does}
use Rattle.tg_munch_proof.proofs.Tiled.{Sets, finish_sets, defined}

no : false ≡ true → ⊥
no e = cc

shift_operates : (op : Bin) (u b : ℕ) → is_shift op ≡ true → word (shifted_as op u (b % 32)) ≡ operate op u b
shift_operates bin.ShiftLeft u b e = refl
shift_operates bin.ShiftRight u b e = refl
shift_operates bin.ShiftSigned u b e = refl
shift_operates bin.Add u b e = absurd (no e)
shift_operates bin.Sub u b e = absurd (no e)
shift_operates bin.Mul u b e = absurd (no e)
shift_operates bin.Div u b e = absurd (no e)
shift_operates bin.And u b e = absurd (no e)
shift_operates bin.Or u b e = absurd (no e)
shift_operates bin.Xor u b e = absurd (no e)
shift_operates bin.AddTrap u b e = absurd (no e)
shift_operates bin.SubTrap u b e = absurd (no e)
shift_operates bin.MulHigh u b e = absurd (no e)

module _ (p : Place) (x : World) (walks : Walks p) where
  -- a value that is moved, or given as it is
  pub moved_does : (dest : Option Opnd) (y : Opnd) (d : NumbersDrawn) (s0 s : Contents) (d0 : NumbersDrawn) (u : ℕ) → IsAskable
      dest → d0.temp ≤ d.temp → Stay d0.temp None s0 s →
      IsOld d.temp y → held p.activation s (Operand y) ≡ Word u → Behaves p x (moved dest y) d s (extra dest) (word
      u) (Result p.activation d0 dest s0)
  moved_does None y d s0 s d0 u askable le stay old holds = λ rest here.
      nothing_done p x rest s u (λ v s1. Result p.activation d0 None s0 y d v s1) (record {
        holds = holds;
        stay =
            stay;
        there = old;
        drawn = le;
      })
  moved_does (Some to) y d s0 s d0 u askable le stay old holds =
      so p x (defining (instr.Move to y) to) d s 1 (word u) (Sets to d s) (Result p.activation d0 (Some to) s0)
      (λ v s1 e. finish_sets p.activation d0 (Some to) to d0 d v s0 s s1 to d (asked to askable) le stay e)
      (defined p x (instr.Move to y) to d s 1 (word u) (λ rest. copied p x (instr.Move to y) to y u rest s refl
      askable holds))

  module _ (op : Bin) (shifts : is_shift op ≡ true) (j u b : ℕ) (y : Opnd) (word_u : IsWord u) (other : is_same y
      (temp j) ≡ false) where
    -- what stands where a bit is looked at
    pub record Begins (k : ℕ) (d : NumbersDrawn) (s : Contents) : Type 0 where
      pub below : j < d.temp
      pub old : IsOld d.temp y
      pub amount : held p.activation s (Operand y) ≡ Word b
      pub so_far : s (Operand (temp j)) ≡ Word (shifted_as op u k)

    bit_adds : (n k : ℕ) (z : Bool) → by_bit p x walks op z (shifted_as op u k) n ≡ shifted_as op u (k + (if z then 0
        else n))
    bit_adds n k true = let e : k ≡ k + 0 = omega arith in ap (shifted_as op u) e
    bit_adds n k false = twice_shifted op u k n word_u

    one_more : (n k : ℕ) (d : NumbersDrawn) (s : Contents) → Begins k d s →
        Behaves p x (shift_bit op (temp j) y n) d s 4 (word 0) (λ a d1 w s1. Partly p x walks j d s (shifted_as op u
        (k + part b n)) d1 s1)
    one_more n k d s q =
        subst (λ r. Behaves p x (shift_bit op (temp j) y n) d s 4 (word 0) (λ a d1 w s1. Partly p x walks j d s r d1
        s1)) (bit_adds n k (bit_and b n == 0))
        (bit_does p x walks op j n (shifted_as op u k) b y d s q.below q.amount q.so_far)

    begins_on : (k l : ℕ) (d d1 : NumbersDrawn) (s s1 : Contents) → Begins k d s → Partly p x walks j d s (shifted_as op u
        l) d1 s1 → Begins l d1 s1
    begins_on k l d d1 s s1 q h =
        let le = h.drawn in
        let lt = q.below in
        record {
          below = omega (arith, le, lt);
          old = old_still y d.temp d1.temp le q.old;
          amount = survives_other p.activation d.temp (Some (temp j)) y (Word b) s s1 q.old other h.stay q.amount;
          so_far = h.holds;
        }

    partly_on : (r l : ℕ) (d d1 d2 : NumbersDrawn) (s s1 s2 : Contents) → Partly p x walks j d s l d1 s1 → Partly p x walks
        j d1 s1 r d2 s2 → Partly p x walks j d s r d2 s2
    partly_on r l d d1 d2 s s1 s2 h k =
        let le = h.drawn in
        let le2 = k.drawn in
        record {
          holds = k.holds;
          stay = λ z old so. k.stay z (old_still z d.temp d1.temp le old) so ∙ h.stay z old so;
          drawn = omega (arith, le, le2);
        }

    then_bits : (n k l r : ℕ) (next : Choice (Unit {0})) (d : NumbersDrawn) (s : Contents) → Begins k d s →
        ((d1 : NumbersDrawn) (s1 : Contents) → Begins (k + part b n) d1 s1 → Behaves p x next d1 s1 l (word 0) (λ a d2 w s2.
        Partly p x walks j d1 s1 r d2 s2)) →
        Behaves p x (shift_bit op (temp j) y n >> next) d s (4 + l) (word 0) (λ a d2 w s2. Partly p x walks j d s r
        d2 s2)
    then_bits n k l r next d s q h =
        bind p x (shift_bit op (temp j) y n) (λ a. next) d s 4 l (4 + l) (word 0) (λ v. word 0)
        (λ a d1 w s1. Partly p x walks j d s (shifted_as op u (k + part b n)) d1 s1) (λ a d2 w s2. Partly p x walks j
        d s r d2 s2) (omega arith)
        (one_more n k d s q)
        (λ v s1 e. let d1 = (shift_bit op (temp j) y n d).drawn in
        so p x next d1 s1 l (word 0) (λ a d2 w s2. Partly p x walks j d1 s1 r d2 s2) (λ a d2 w s2. Partly p x walks j
        d s r d2 s2)
        (λ w s2 g. partly_on r (shifted_as op u (k + part b n)) d d1 (next d1).drawn s s1 s2 e g)
        (h d1 s1 (begins_on k (k + part b n) d d1 s s1 q e)))

    pub bits_do : (d : NumbersDrawn) (s : Contents) → Begins 0 d s →
        Behaves p x (shift_bits op (temp j) y) d s 20 (word 0) (λ a d1 w s1. Partly p x walks j d s (shifted_as op u
        (b % 32)) d1 s1)
    bits_do d s q =
        let all = shifted_as op u (b % 32) in
        then_bits 1 0 16 all _ d s q (λ d1 s1 q1.
        then_bits 2 (0 + part b 1) 12 all _ d1 s1 q1 (λ d2 s2 q2.
        then_bits 4 (0 + part b 1 + part b 2) 8 all _ d2 s2 q2 (λ d3 s3 q3.
        then_bits 8 (0 + part b 1 + part b 2 + part b 4) 4 all _ d3 s3 q3 (λ d4 s4 q4.
        subst (λ k. Behaves p x (shift_bit op (temp j) y 16) d4 s4 4 (word 0) (λ a d1 w s1. Partly p x walks j d4 s4
        (shifted_as op u k) d1 s1)) (five_bits b)
        (one_more 16 (0 + part b 1 + part b 2 + part b 4 + part b 8) d4 s4 q4)))))

  -- a word in a temporary of its own, shifted there
  pub shifted_does : (op : Bin) (a y : Opnd) (d : NumbersDrawn) (s : Contents) (u b : ℕ) → is_shift op ≡ true → IsWord u →
      IsOld d.temp y →
      held p.activation s (Operand a) ≡ Word u → held p.activation s (Operand y) ≡ Word b →
      Behaves p x (shifted op a y) d s 21 (word (shifted_as op u (b % 32))) (Result p.activation d None s)
  shifted_does op a y d s u b shifts word_u old ha hb =
      choosing p x (λ to. put (instr.Move to a) >> (shift_bits op to y >> give to)) None d s 21 (word (shifted_as op
      u (b % 32))) (Result p.activation d None s) tt in_own
    where
      other : (z : Opnd) → IsOld d.temp z → is_same z (temp d.temp) ≡ false
      other (Temp i) h = below_differs i.0 d.temp h
      other (Reg r) h = refl

      same_word : (i k : ℕ) → word i ≡ word k → k ≡ i
      same_word i k e = cc

      in_own : (to : Opnd) (d1 : NumbersDrawn) → Target d None to d1 →
          Behaves p x (put (instr.Move to a) >> (shift_bits op to y >> give to)) d1 s 21 (word (shifted_as op u (b %
          32))) (Result p.activation d None s)
      in_own to d1 own =
          bind p x (put (instr.Move (temp d.temp) a)) (λ z. shift_bits op (temp d.temp) y >> give (temp d.temp))
          (record d { temp = d.temp + 1 }) s 1 20 21
          (word u) (λ v. word (shifted_as op u (b % 32))) (λ z d2 v s1. (word u ≡ word v) × (s1 ≡ set (Operand (temp
          d.temp)) (Word v) s)) (Result p.activation d None s)
          (omega arith)
          (known p x (put (instr.Move (temp d.temp) a)) (record d { temp = d.temp + 1 }) s 1 (word u) (λ z d2 v s1.
          s1 ≡ set (Operand (temp d.temp)) (Word v) s)
          (λ rest part. copied p x (instr.Move (temp d.temp) a) (temp d.temp) a u rest s refl tt ha))
          (λ v s1 e. all_bits s1 (e.1 ∙ ap (λ i. set (Operand (temp d.temp)) (Word i) s) (same_word u v e.0)))
        where
          -- the bits, from what the move left
          all_bits : (s1 : Contents) → s1 ≡ set (Operand (temp d.temp)) (Word u) s →
              Behaves p x (shift_bits op (temp d.temp) y >> give (temp d.temp)) (record d { temp = d.temp + 1 }) s1
              20 (word (shifted_as op u (b % 32))) (Result p.activation d None s)
          all_bits s1 e =
              let e1 = record d { temp = d.temp + 1 } in
              let stays : (z : Opnd) → IsOld d.temp z → s1 (Operand z) ≡ s (Operand z) =
              (λ z h. ap (λ (c : Contents). c (Operand z)) e ∙ ap (λ (i : Bool). if i then Word u else s (Operand z))
              (other z h)) in
              bind p x (shift_bits op (temp d.temp) y) (λ z. give (temp d.temp)) e1 s1 20 0 20 (word 0) (λ v. word
              (shifted_as op u (b % 32)))
              (λ z d2 v s2. Partly p x walks d.temp e1 s1 (shifted_as op u (b % 32)) d2 s2) (Result p.activation d
              None s) (omega arith)
              (bits_do op shifts d.temp u b y word_u (other y old) e1 s1
              (record {
                below = omega arith;
                old = old_still y d.temp (d.temp + 1) (omega arith) old;
                amount = survives p.activation d.temp y (Word b) s s1 old (λ z h k. stays z h) hb;
                so_far =
                    ap (λ (c : Contents). c (Operand (temp d.temp))) e ∙ (ap (λ (i : Bool). if i then Word u else s
                    (Operand (temp d.temp))) (itself d.temp) ∙
                    ap (λ i. Word i) (sym (not_shifted op u word_u)));
              }))
              (λ v s2 g. let le = g.drawn in
              λ rest part. nothing_done p x rest s2 (shifted_as op u (b % 32)) (λ w s3. Result p.activation d None s
              (temp d.temp) (shift_bits op (temp d.temp) y e1).drawn w s3)
              (record {
                holds = g.holds;
                stay = λ z h k. g.stay z (old_still z d.temp (d.temp + 1) (omega arith) h) (other z h) ∙ stays z h;
                there = omega (arith, le);
                drawn = omega (arith, le);
              }))

  -- the tile
  pub by_word_tile : (op : Bin) (dest : Option Opnd) (left right : Choice Opnd) (d : NumbersDrawn) (s : Contents) (k l : ℕ)
      (g h : Given) →
      is_shift op ≡ true → IsAskable dest → ((u : ℕ) → g ≡ word u → IsWord u) →
      Behaves p x left d s k g (Result p.activation d None s) →
      ((d2 : NumbersDrawn) (s1 : Contents) → d.temp ≤ d2.temp → Stay d.temp None s s1 → Behaves p x right d2 s1 l h (Result
      p.activation d2 None s1)) →
      Behaves p x (left >>= (λ a. right >>= (λ y. shifted_into op dest a y))) d s
      (k + after_word g (l + after_word h (21 + extra dest))) (onward g (λ u. onward h (λ v. operate op u v)))
      (Result p.activation d dest s)
  by_word_tile op dest left right d s k l g h shifts askable wg hl hr =
      bind p x left (λ a. right >>= (λ y. shifted_into op dest a y)) d s k (l + after_word h (21 + extra dest))
      (k + after_word g (l + after_word h (21 + extra dest))) g (λ u. onward h (λ v. operate op u v))
      (λ a d2 u s1. (g ≡ word u) × Result p.activation d None s a d2 u s1) (Result p.activation d dest s) (omega arith)
      (known p x left d s k g (Result p.activation d None s) hl)
      (λ u s1 q. behind_left u s1 (left d).value (left d).drawn q.0 q.1)
    where
      last : (u b : ℕ) (s1 s2 : Contents) (a y : Opnd) (d2 d3 : NumbersDrawn) → g ≡ word u → Result p.activation d None s a
          d2 u s1 → Result p.activation d2 None s1 y d3 b s2 →
          Behaves p x (shifted_into op dest a y) d3 s2 (21 + extra dest) (operate op u b) (Result p.activation d dest s)
      last u b s1 s2 a y d2 d3 eg q r =
          let le = q.drawn in
          let le2 = r.drawn in
          weaker p x (shifted_into op dest a y) d3 s2 (21 + extra dest) (21 + extra dest) (word (shifted_as op u (b %
          32))) (operate op u b) (Result p.activation d dest s)
          (omega arith) (shift_operates op u b shifts)
          (bind p x (shifted op a y) (λ z. moved dest z) d3 s2 21 (extra dest) (21 + extra dest) (word (shifted_as op
          u (b % 32))) (λ v. word v)
          (Result p.activation d3 None s2) (Result p.activation d dest s) (omega arith)
          (shifted_does op a y d3 s2 u b shifts (wg u eg) r.there (survives p.activation d2.temp a (Word u) s1 s2
          q.there r.stay q.holds) r.holds)
          (λ v s3 c. let le3 = c.drawn in
          moved_does dest (shifted op a y d3).value (shifted op a y d3).drawn s s3 d v askable (omega (
            arith,
            le,
            le2,
            le3,
          ))
          (stay_on d.temp d3.temp s s2 s3 (omega (arith, le, le2)) (stay_on d.temp d2.temp s s1 s2 le q.stay r.stay)
          c.stay) c.there c.holds))

      behind_left : (u : ℕ) (s1 : Contents) (a : Opnd) (d2 : NumbersDrawn) → g ≡ word u → Result p.activation d None s a d2
          u s1 →
          Behaves p x (right >>= (λ y. shifted_into op dest a y)) d2 s1 (l + after_word h (21 + extra dest)) (onward
          h (λ v. operate op u v)) (Result p.activation d dest s)
      behind_left u s1 a d2 eg q =
          bind p x right (λ y. shifted_into op dest a y) d2 s1 l (21 + extra dest) (l + after_word h (21 + extra
          dest)) h (λ v. operate op u v)
          (Result p.activation d2 None s1) (Result p.activation d dest s) (omega arith)
          (hr d2 s1 q.drawn q.stay)
          (λ v s2 r. last u v s1 s2 a (right d2).value d2 (right d2).drawn eg q r)
