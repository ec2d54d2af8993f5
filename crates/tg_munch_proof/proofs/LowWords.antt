-- Words at the low end of a frame, for the arguments after the fourth of calls: closed to flat code and open to
-- instructions, and the store of one.
use Rattle.std.proofs.Common.{◌≡◌, ◌≢◌, ◌≤◌, ◌<◌, ℕ, ◌+◌, ◌-◌, ◌*◌, ◌%◌, ◌^◌, List, [], ◌∷◌, ◌++◌, length, Bool}
use Rattle.std.proofs.Common.{true, false, refl, ap, ◌∙◌, arith}
use Rattle.std.proofs.lemmas.Bool.Decides.{nat_tests}
use Rattle.std.proofs.lemmas.Grind.{common_steps}
use Rattle.std.specs.Prelude.{◌==◌, not, nat_lt, nat_le, Some, None, if◌then◌else◌}
use Rattle.tg_machine_state.specs.State.{statics_base, heap_base}
use Rattle.tg_base.specs.Words.{add, extended}
use Rattle.tg_simulation.specs.Runs.{Run}
use Rattle.tg_simulation.specs.Ran.{Ran, works}
use Rattle.tg_simulation.proofs.Simulations.{simulates_along, simulates_with_credit}
use Rattle.tg_tree.specs.Memory.{Memory, Cell, Closed, Unset, Has, Kept, Spot, put, spot, store, store_in, put_open}
use Rattle.tg_tree.specs.Operators.{word}
use Rattle.tg_tree.specs.Actions.{World, with_memory}
use Rattle.tg_tree.proofs.Relating.{with_put}
use Rattle.tg_instr.specs.declared.operands.Opnd.{Opnd}
use Rattle.tg_instr.specs.declared.operands.Opnd.TheVariants.{Temp, Reg}
use Rattle.tg_instr.specs.declared.instr.Instr.{Instr}
use Rattle.tg_instr.specs.declared.instr.Instr.TheVariants.{Addu, Sw}
use Rattle.tg_instr.specs.Operands as operands
use Rattle.tg_instr.specs.Shapes.{Operand, Stores, shape}
use Rattle.tg_instr.specs.Contents.{Word, Contents, set, held}
use Rattle.tg_instr.specs.Meaning.{with_content_word}
use Rattle.tg_munch.specs.mirror.Choosing.{NumbersDrawn, ◌>>◌, put as puts, fresh}
use Rattle.tg_munch.specs.mirror.Tiles.{constant}
use Rattle.tg_munch.specs.mirror.Munching.{temp, store_low, store_far}
use Rattle.tg_munch.specs.mirror.Bodies.{outs}
use Rattle.tg_munch_proof.specs.glue.Places.{goes}
use Rattle.tg_munch_proof.specs.laws.Values.{Stay, IsOld}
use Rattle.tg_munch_proof.proofs.Behaving.{acts, from2, later_part}
use Rattle.tg_munch_proof.proofs.Results.{SetTo, survives, set_holds, below_differs}
use Rattle.tg_munch_proof.proofs.Tiled.{Sets, constant_does}
use Rattle.tg_munch_proof.specs.glue.Relating.{is_low, is_slot}
use Rattle.tg_munch_proof.proofs.Between.{Activated, place, AlikeIn, Matches, in_turn}
use Rattle.tg_munch_proof.proofs.Between.{frame, works_behind, same_regions}
use Rattle.tg_munch_proof.proofs.Frames.{puts_behind}
use Rattle.tg_munch_proof.proofs.Leaving.{or_left, all_three, is_le, is_lt, low_is_no_slot}
use Rattle.tg_munch_proof.proofs.Seeing.{above_regions}
use Rattle.tg_munch_proof.proofs.Statements.{choice_matches}

module _ (a : Activated) where
  -- the low end of the frame
  abbrev pub low : ℕ
  low = a.activation.base - a.activation.size

  -- where an argument after the fourth stands there
  abbrev pub out_word : ℕ → ℕ
  out_word i = low + 4 * (i - 4)

  -- sizes
  size_fits : 4 * (a.function.slots + outs a.function.body) ≤ a.activation.size
  size_fits = let is = a.active.frame in let holds = a.sized.holds in omega (arith, is, holds)

  size_within : a.program.floor + a.activation.size ≤ a.activation.base
  size_within = a.active.fits

  low_is_low : (k : ℕ) → k < outs a.function.body → is_low low (outs a.function.body) (low + 4 * k) ≡ true
  low_is_low k lt = grind (arith, nat_tests)

  -- a word at the low end is open to instructions alone
  out_closed : (k : ℕ) (w x : World) → k < outs a.function.body → AlikeIn a w x → w.memory.stack (low + 4 * k) ≡ Closed
  out_closed k w x lt h =
      let fits = size_fits in
      let inside = size_within in
      h.shut (low + 4 * k)
      (or_left _ (a.outline.shut (low + 4 * k))
      (all_three (nat_le low (low + 4 * k)) (nat_lt (low + 4 * k) a.activation.base)
      (not (is_slot a.activation.base a.function.slots (low + 4 * k)))
      (is_le low (low + 4 * k) (omega arith)) (is_lt (low + 4 * k) a.activation.base (omega (arith, fits, inside, lt)))
      (low_is_no_slot a.activation.base a.activation.size a.function.slots (outs a.function.body) k fits
      (omega (arith, inside)) lt)))

  out_opened : (k : ℕ) (w x : World) → k < outs a.function.body → AlikeIn a w x → x.memory.stack (low + 4 * k) ≢ Closed
  out_opened k w x lt h =
      h.for_arguments (low + 4 * k)
      (or_left (is_low low (outs a.function.body) (low + 4 * k)) (a.outline.for_arguments (low + 4 * k)) (low_is_low k lt))

  put_opened : (v : ℕ) (c : Cell) (z : Bool) → c ≢ Closed → (if z then Has v else c) ≢ Closed
  put_opened v c true still e = absurd (has v e)
    where
      has : (v : ℕ) → Has v ≡ Closed → ⊥
      has v q = cc
  put_opened v c false still e = still e

  pub out_alike : (k v : ℕ) (w x : World) → k < outs a.function.body → AlikeIn a w x → AlikeIn a w (with_put (low + 4 * k) (Has v) x)
  out_alike k v w x lt h = record {
    holds = puts_behind (low + 4 * k) (Has v) w x (out_closed k w x lt h) h.holds;
    closed = h.closed;
    shut = h.shut;
    for_arguments = λ b e. put_opened v (x.memory.stack b) (b == low + 4 * k) (h.for_arguments b e);
    words = h.words;
    input = h.input;
    statics = h.statics;
    heap = h.heap;
  }

  -- the store of one
  put_there : (m : Memory) (b v : ℕ) (c : Cell) → c ≢ Closed → put_open c b v m ≡ Some (put b (Has v) m)
  put_there m b v Closed h = absurd (h refl)
  put_there m b v Unset h = refl
  put_there m b v (Has u) h = refl
  put_there m b v (Kept r) h = refl

  low_word : (k : ℕ) → (low + 4 * k) % 4 ≡ 0
  low_word k =
      let words = a.active.words in
      let sized = a.sized.words in
      let is = a.active.frame in
      let inside = size_within in
      omega (arith, words, sized, is, inside)

  is_zero : (k : ℕ) → k ≡ 0 → (k == 0) ≡ true
  is_zero k e = grind (arith, nat_tests)

  out_stored : (k v : ℕ) (w x : World) → k < outs a.function.body → AlikeIn a w x →
      store x.memory (low + 4 * k) v ≡ Some (put (low + 4 * k) (Has v) x.memory)
  out_stored k v w x lt h =
      let framed = frame a w x h in
      let statics = framed.statics in
      let heap = framed.heap in
      let fits = size_fits in
      let inside = size_within in
      let first = a.room.statics in
      let second = a.room.heap in
      let long = statics_below w x h in
      let taken = heap_below w x h in
      ap (λ (b : Bool). if b then store_in x.memory (low + 4 * k) (spot x.memory (low + 4 * k)) v else None)
      (is_zero ((low + 4 * k) % 4) (low_word k)) ∙
      (ap (λ (z : Spot). store_in x.memory (low + 4 * k) z v)
      (above_regions x.memory (low + 4 * k) (omega (arith, first, second, inside, long))
      (omega (arith, second, inside, taken))) ∙
      put_there x.memory (low + 4 * k) v (x.memory.stack (low + 4 * k)) (out_opened k w x lt h))
    where
      statics_below : (w x : World) → AlikeIn a w x → statics_base + length x.memory.statics ≤ heap_base
      statics_below w x h =
          let same = (same_regions w x h.holds).0 in
          let first = a.room.statics in
          let most = h.statics in
          let is = ap (λ (bytes : List ℕ). length bytes) same in
          omega (arith, first, most, is)

      heap_below : (w x : World) → AlikeIn a w x → heap_base + length x.memory.heap ≤ a.program.floor
      heap_below w x h =
          let same = (same_regions w x h.holds).1 in
          let second = a.room.heap in
          let most = h.heap in
          let is = ap (λ (bytes : List ℕ). length bytes) same in
          omega (arith, second, most, is)

  -- the address, by the two forms of a store
  near_address : (k : ℕ) → 4 * k < 32768 → low + 4 * k < 2 ^ 32 → add low (extended (4 * k)) ≡ low + 4 * k
  near_address k lt small = grind (arith, common_steps, nat_tests)

  far_address : (k : ℕ) → low + 4 * k < 2 ^ 32 → add (add (4 * k) low) (extended 0) ≡ low + 4 * k
  far_address k small = grind (arith, common_steps)

  out_is_word : (k : ℕ) → k < outs a.function.body → low + 4 * k < 2 ^ 32
  out_is_word k lt =
      let fits = size_fits in
      let inside = size_within in
      let below = a.active.below in
      omega (arith, fits, inside, below, lt)

  module _ (n : ℕ) where
    -- a store of an operand to a word at the low end, in at most four instructions
    pub low_stored : (k v : ℕ) (y : Opnd) (d : NumbersDrawn) (tail : List Instr) (r credit : ℕ) (c : Run Ran) (w x : World) (s : Contents) →
        k < outs a.function.body → IsOld d.temp y → held a.activation s (Operand y) ≡ Word v → credit + 4 ≤ r →
        AlikeIn a w x →
        ((s1 : Contents) → Stay d.temp None s s1 → Matches a credit n c (with_put (low + 4 * k) (Has v) x) tail s1) →
        Matches a r n c x ((store_low (4 * k) y d).code ++ tail) s
    low_stored k v y d tail r credit c w x s lt old hy fits h next = by (nat_lt (4 * k) 32768) refl
      where
        stored : (one : Instr) (base : Opnd) (bytes address : ℕ) (s1 : Contents) → shape one ≡ Stores y base (extended bytes) store →
            add address (extended bytes) ≡ low + 4 * k → held a.activation s1 (Operand base) ≡ Word address →
            held a.activation s1 (Operand y) ≡ Word v → Stay d.temp None s s1 →
            Matches a (credit + 1) n c x (one ∷ tail) s1
        stored one base bytes address s1 is at hb hv stay part =
            simulates_along 1 (credit + 1) n c c (λ i. works 1 (goes (place a) (with_put (low + 4 * k) (Has v) x) tail s1 i))
            (goes (place a) x (one ∷ tail) s1) (λ i. refl)
            (λ i. ap (λ j. works 1 (acts (place a) j x tail s1 i)) is ∙
            (ap (λ z. works 1 (with_content_word z x (λ b. with_content_word (held a.activation s1 (Operand y)) x
            (λ u. with_memory (store x.memory (add b (extended bytes)) u) x (λ x2. goes (place a) x2 tail s1))) i)) hb ∙
            (ap (λ z. works 1 (with_content_word z x
            (λ u. with_memory (store x.memory (add address (extended bytes)) u) x (λ x2. goes (place a) x2 tail s1)) i)) hv ∙
            ap (λ o. works 1 (with_memory o x (λ x2. goes (place a) x2 tail s1) i))
            (ap (λ j. store x.memory j v) at ∙ out_stored k v w x lt h))))
            (works_behind (credit + 1) n 1 credit c _ (omega arith) (next s1 stay (later_part (place a) (one ∷ []) tail part)))

        below : nat_lt (4 * k) 32768 ≡ true → 4 * k < 32768
        below e = grind (arith, nat_tests)

        near : nat_lt (4 * k) 32768 ≡ true → Matches a r n c x (Sw y (4 * k) (Reg 29) ∷ tail) s
        near e part =
            simulates_with_credit 1 (credit + 1) r n c (goes (place a) x (Sw y (4 * k) (Reg 29) ∷ tail) s) (omega (arith, fits))
            (stored (Sw y (4 * k) (Reg 29)) (Reg 29) (4 * k) low s refl (near_address k (below e) (out_is_word k lt)) refl hy
            (λ z i j. refl) part)

        far : Matches a r n c x ((store_far (4 * k) y d).code ++ tail) s
        far =
            in_turn a fresh (λ t. constant t (4 * k) >> (puts (Addu t t (Reg 29)) >> puts (Sw y 0 t))) d tail r n c x s
            (in_turn a (constant (temp d.temp) (4 * k)) (λ z. puts (Addu (temp d.temp) (temp d.temp) (Reg 29)) >> puts (Sw y 0 (temp d.temp)))
            (record d { temp = d.temp + 1 }) tail r n c x s
            (choice_matches a n (constant (temp d.temp) (4 * k)) (record d { temp = d.temp + 1 }) _ r 2 (credit + 2) (4 * k) c x s
            (Sets (temp d.temp) (record d { temp = d.temp + 1 }) s) (omega (arith, fits))
            (constant_does (place a) x (temp d.temp) (4 * k) (record d { temp = d.temp + 1 }) s tt
            (let small = out_is_word k lt in omega (arith, small)))
            (λ s1 q.
            in_turn a (puts (Addu (temp d.temp) (temp d.temp) (Reg 29))) (λ z. puts (Sw y 0 (temp d.temp)))
            (constant (temp d.temp) (4 * k) (record d { temp = d.temp + 1 })).drawn tail (credit + 2) n c x s1
            (choice_matches a n (puts (Addu (temp d.temp) (temp d.temp) (Reg 29)))
            (constant (temp d.temp) (4 * k) (record d { temp = d.temp + 1 })).drawn (Sw y 0 (temp d.temp) ∷ tail) (credit + 2) 1
            (credit + 1) (add (4 * k) low) c x s1
            (λ z e u s2. s2 ≡ set (Operand (temp d.temp)) (Word u) s1) (omega arith)
            (λ rest part. from2 (place a) x (Addu (temp d.temp) (temp d.temp) (Reg 29)) (temp d.temp) (temp d.temp) (Reg 29)
            (λ i j. word (add i j)) (4 * k) low rest s1 refl tt tt
            (set_holds a.activation (temp d.temp) (4 * k) s s1 tt q.1) refl)
            (λ s2 e.
            stored (Sw y 0 (temp d.temp)) (temp d.temp) 0 (add (4 * k) low) s2 refl (far_address k (out_is_word k lt))
            (set_holds a.activation (temp d.temp) (add (4 * k) low) s1 s2 tt (λ z. ap (λ (o : Contents). o (Operand z)) e))
            (survives a.activation d.temp y (Word v) s s2 old (over_both s1 s2 q.1 e) hy) (over_both s1 s2 q.1 e))))))
          where
            other : (z : Opnd) → IsOld d.temp z → operands.is_same z (temp d.temp) ≡ false
            other (Temp i) i_old = below_differs i.0 d.temp i_old
            other (Reg i) i_old = refl

            over_both : (s1 s2 : Contents) → SetTo (temp d.temp) (4 * k) s s1 →
                s2 ≡ set (Operand (temp d.temp)) (Word (add (4 * k) low)) s1 → Stay d.temp None s s2
            over_both s1 s2 q e z z_old j =
                ap (λ (o : Contents). o (Operand z)) e ∙
                (ap (λ (b : Bool). if b then Word (add (4 * k) low) else s1 (Operand z)) (other z z_old) ∙
                (q z ∙ ap (λ (b : Bool). if b then Word (4 * k) else s (Operand z)) (other z z_old)))

        by : (b : Bool) → nat_lt (4 * k) 32768 ≡ b →
            Matches a r n c x (((if b then puts (Sw y (4 * k) (Reg 29)) else store_far (4 * k) y) d).code ++ tail) s
        by true e = near e
        by false e = far
