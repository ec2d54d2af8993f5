-- The parameters of a function, given one after another to their homes: from $a0 to $a3, and from the words above the
-- frame address.
use Rattle.std.proofs.Common.{◌≡◌, ◌≢◌, ◌≤◌, ◌<◌, ℕ, ◌+◌, ◌-◌, ◌*◌, ◌%◌, ◌^◌, List, [], ◌∷◌, ◌++◌, length}
use Rattle.std.proofs.Common.{Bool, true, false, refl, ap, ◌∙◌, arith}
use Rattle.std.proofs.lemmas.Bool.Decides.{nat_tests}
use Rattle.std.proofs.lemmas.Grind.{common_steps}
use Rattle.std.specs.Prelude.{◌==◌, nat_lt, Some, None, if◌then◌else◌}
use Rattle.tg_machine_state.specs.State.{stack_top}
use Rattle.tg_base.specs.Words.{add, extended}
use Rattle.tg_frame.specs.declared.accesses.Access.{Access}
use Rattle.tg_frame.specs.declared.accesses.Access.TheVariants.{InTemp, InFrame}
use Rattle.tg_frame.specs.Homes.{slot_bound, temp_bound}
use Rattle.tg_simulation.specs.Runs.{Run}
use Rattle.tg_simulation.specs.Ran.{Ran, works}
use Rattle.tg_simulation.proofs.Simulations.{simulates_along, simulates_with_credit}
use Rattle.tg_tree.specs.Memory.{Memory, Cell, Closed, Has, Spot, put, slot, spot, load, word_in, cell_word}
use Rattle.tg_tree.specs.Operators.{word}
use Rattle.tg_tree.specs.Actions.{World, Temps, set_temp, wrong, with_word}
use Rattle.tg_tree.proofs.Relating.{with_put}
use Rattle.tg_instr.specs.declared.operands.Opnd.{Opnd}
use Rattle.tg_instr.specs.declared.operands.Opnd.TheVariants.{Reg}
use Rattle.tg_instr.specs.declared.instr.Instr.{Instr}
use Rattle.tg_instr.specs.declared.instr.Instr.TheVariants.{Addu, Lw, Move, FrameAddress, FrameStore}
use Rattle.tg_instr.specs.Operands as operands
use Rattle.tg_instr.specs.Shapes.{Operand, Base}
use Rattle.tg_instr.specs.Contents.{Content, Word, Contents, set, held, cell_of}
use Rattle.tg_instr.specs.Meaning.{with_content, with_content_word}
use Rattle.tg_munch.specs.mirror.Choosing.{NumbersDrawn, ◌>>=◌, ◌>>◌, put as puts, fresh}
use Rattle.tg_munch.specs.mirror.Tiles.{constant}
use Rattle.tg_munch.specs.mirror.Munching.{temp, argument, kept_registers}
use Rattle.tg_munch.specs.mirror.Bodies.{from_register, load_far, load_above, from_word, from_words, parameters}
use Rattle.tg_munch.specs.laws.Lengths.{kept_count}
use Rattle.tg_munch_proof.specs.glue.Places.{goes}
use Rattle.tg_munch_proof.proofs.Behaving.{sets, from2, later_part}
use Rattle.tg_munch_proof.proofs.Growing.{above_grows, word_grows}
use Rattle.tg_munch_proof.proofs.Results.{SetTo, set_holds, below_differs, itself}
use Rattle.tg_munch_proof.proofs.Tiled.{Sets, constant_does}
use Rattle.tg_munch_proof.specs.glue.Relating.{TempsAlike, AreKept, ArePassed, IsPlaced, placed_all, placed_in_temp}
use Rattle.tg_munch_proof.specs.glue.Relating.{placed_in_frame, most_statics}
use Rattle.tg_munch_proof.proofs.Between.{Activated, place, within, AlikeIn, Matches, in_turn, works_behind}
use Rattle.tg_munch_proof.proofs.Between.{same_regions}
use Rattle.tg_munch_proof.proofs.Frames.{not_equal}
use Rattle.tg_munch_proof.proofs.Moves.{SameTemps, SameTempsBut, temps_same, temps_moved, kept_same, kept_moved}
use Rattle.tg_munch_proof.proofs.Seeing.{above_regions}
use Rattle.tg_munch_proof.proofs.Statements.{choice_matches}
use Rattle.tg_munch_proof.proofs.Storing.{alike_stored, stored_in_cell}

module _ (a : Activated) (n : ℕ) where
  abbrev base : ℕ
  base = a.activation.base

  -- slots are open in flat code
  abbrev pub SlotsOpen : World → Type 0
  SlotsOpen w = (k : ℕ) → k < a.function.slots → w.memory.stack (slot base k) ≢ Closed

  -- what is known before a parameter is placed, with so many temporaries drawn
  pub record Placing (d : ℕ) (i : ℕ) (vs : List ℕ) (w x : World) (t : Temps) (s : Contents) : Type 0 where
    pub drawn : a.function.temps + kept_count ≤ d
    pub alike : AlikeIn a w x
    pub temps : TempsAlike a.function.temps t s
    pub kept : AreKept a.function.temps kept_registers s
    pub opened : SlotsOpen w
    pub passed : ArePassed base s x.memory i vs
    pub fits : base + 4 * ((i + length vs) - 4) ≤ stack_top

  -- and after all of them
  pub record Placed (w x : World) (t : Temps) (s : Contents) : Type 0 where
    pub alike : AlikeIn a w x
    pub temps : TempsAlike a.function.temps t s
    pub kept : AreKept a.function.temps kept_registers s

  slots_below : 4 * a.function.slots ≤ base
  slots_below =
      let is = a.active.frame in
      let holds = a.sized.holds in
      let inside = a.active.fits in
      omega (arith, is, holds, inside)

  -- what is passed stays where registers and the words above the frame do
  passed_stay : (s s1 : Contents) (m m1 : Memory) (i : ℕ) (vs : List ℕ) →
      ((k : ℕ) → s1 (Operand (Reg k)) ≡ s (Operand (Reg k))) → ((b : ℕ) → base ≤ b → m1.stack b ≡ m.stack b) →
      ArePassed base s m i vs → ArePassed base s1 m1 i vs
  passed_stay s s1 m m1 i [] regs words h = tt
  passed_stay s s1 m m1 i (v ∷ vs) regs words h = (
    record {
      low = λ lt. regs (4 + i) ∙ h.0.low lt;
      high = λ le. words (base + 4 * (i - 4)) (omega arith) ∙ h.0.high le;
      word = h.0.word;
    },
    passed_stay s s1 m m1 (i + 1) vs regs words h.1,
  )

  -- a temporary of the body gets a word
  into_temp : (d i j v : ℕ) (vs : List ℕ) (w x : World) (t : Temps) (s s1 : Contents) → j < a.function.temps →
      SameTempsBut j d s s1 → ((k : ℕ) → s1 (Operand (Reg k)) ≡ s (Operand (Reg k))) → s1 (Operand (temp j)) ≡ Word v →
      Placing d i (v ∷ vs) w x t s → Placing d (i + 1) vs w x (set_temp j v t) s1
  into_temp d i j v vs w x t s s1 lt same regs there h =
      let drawn = h.drawn in
      let fits = h.fits in
      record {
        drawn = h.drawn;
        alike = h.alike;
        temps = temps_moved a.function.temps d j v t s s1 (omega (arith, drawn)) lt h.passed.0.word same there h.temps;
        kept = kept_moved a.function.temps d j kept_registers s s1 lt drawn same h.kept;
        opened = h.opened;
        passed = passed_stay s s1 x.memory x.memory (i + 1) vs regs (λ b le. refl) h.passed.1;
        fits = omega (arith, fits);
      }

  put_opened : (v : ℕ) (c : Cell) (z : Bool) → c ≢ Closed → (if z then Has v else c) ≢ Closed
  put_opened v c true still e = absurd (has v e)
    where
      has : (v : ℕ) → Has v ≡ Closed → ⊥
      has v q = cc
  put_opened v c false still e = still e

  -- a slot gets a word
  into_slot : (d e i k v : ℕ) (vs : List ℕ) (w x : World) (t : Temps) (s s1 : Contents) → k < a.function.slots → d ≤ e →
      SameTemps d s s1 → ((j : ℕ) → s1 (Operand (Reg j)) ≡ s (Operand (Reg j))) →
      Placing d i (v ∷ vs) w x t s →
      Placing e (i + 1) vs (with_put (slot base k) (Has v) w) (with_put (slot base k) (Has v) x) t s1
  into_slot d e i k v vs w x t s s1 lt le same regs h =
      let drawn = h.drawn in
      let fits = h.fits in
      let below = slots_below in
      record {
        drawn = omega (arith, drawn, le);
        alike = alike_stored (most_statics a.program) a.program.room (within a) w x _ _ h.alike
            (stored_in_cell w x (slot base k) v h.alike.holds h.passed.0.word (h.opened k lt));
        temps = temps_same a.function.temps d t s s1 (omega (arith, drawn)) same h.temps;
        kept = kept_same a.function.temps d kept_registers s s1 drawn same h.kept;
        opened = λ j less. put_opened v (w.memory.stack (slot base j)) (slot base j == slot base k) (h.opened j less);
        passed = passed_stay s s1 x.memory (with_put (slot base k) (Has v) x).memory (i + 1) vs regs
            (λ b high. ap (λ (z : Bool). if z then Has v else x.memory.stack b)
            (not_equal b (slot base k) (λ q. let z : ⊥ = omega (arith, high, q, lt, below) in z))) h.passed.1;
        fits = omega (arith, fits);
      }

  is_below : (i m : ℕ) → i < m → nat_lt i m ≡ true
  is_below i m lt = grind (arith, nat_tests)

  -- a store of a parameter
  slot_matches : (y : Opnd) (k v : ℕ) (tail : List Instr) (credit : ℕ) (c : Run Ran) (x : World) (s : Contents) →
      k < a.function.slots → held a.activation s (Operand y) ≡ Word v →
      Matches a credit n c (with_put (slot base k) (Has v) x) tail s → Matches a (credit + 1) n c x (FrameStore y k ∷ tail) s
  slot_matches y k v tail credit c x s lt hv next part =
      simulates_along 1 (credit + 1) n c c (λ i. works 1 (goes (place a) (with_put (slot base k) (Has v) x) tail s i))
      (goes (place a) x (FrameStore y k ∷ tail) s) (λ i. refl)
      (λ i. ap (λ z. works 1 (with_content z x (λ o. if nat_lt k a.function.slots then
      goes (place a) (record x { memory = put (slot base k) (cell_of o) x.memory }) tail s else wrong x) i)) hv ∙
      ap (λ (b : Bool). works 1 ((if b then goes (place a) (with_put (slot base k) (Has v) x) tail s else wrong x) i))
      (is_below k a.function.slots lt))
      (works_behind (credit + 1) n 1 credit c _ (omega arith) (next (later_part (place a) (FrameStore y k ∷ []) tail part)))

  temp_stays : (j d : ℕ) (c : Content) (s : Contents) → SameTempsBut j d s (set (Operand (temp j)) c s)
  temp_stays j d c s i lt other = ap (λ (b : Bool). if b then c else s (Operand (temp i))) other

  temp_there : (j : ℕ) (c : Content) (s : Contents) → set (Operand (temp j)) c s (Operand (temp j)) ≡ c
  temp_there j c s = ap (λ (b : Bool). if b then c else s (Operand (temp j))) (itself j)

  small_register : (i : ℕ) → i < 4 → ((4 + i == 0) ≡ false) × ((4 + i == 29) ≡ false)
  small_register i lt = (grind (arith, nat_tests), grind (arith, nat_tests))

  register_held : (k : ℕ) (s : Contents) → (k == 0) ≡ false → (k == 29) ≡ false →
      held a.activation s (Operand (Reg k)) ≡ s (Operand (Reg k))
  register_held k s e h =
      ap (λ (b : Bool). if b then Word 0 else if k == 29 then Word (base - a.activation.size) else s (Operand (Reg k))) e ∙
      ap (λ (b : Bool). if b then Word (base - a.activation.size) else s (Operand (Reg k))) h

  -- What comes next after the parameters.
  abbrev pub Next : (credit : ℕ) → Run Ran → List Instr → World → Temps → Type 0
  Next credit c tail w1 t1 =
      (x1 : World) (s1 : Contents) → Placed w1 x1 t1 s1 → Matches a credit n c x1 tail s1

  -- a word above the frame address
  above_word : (m v : ℕ) (w x : World) → AlikeIn a w x → base + 4 * m < stack_top → x.memory.stack (base + 4 * m) ≡ Has v →
      load x.memory (base + 4 * m) ≡ Some v
  above_word m v w x h below there =
      let words = a.active.words in
      let inside = a.active.fits in
      let first = a.room.statics in
      let second = a.room.heap in
      let same = same_regions w x h.holds in
      let long = ap (λ (bytes : List ℕ). length bytes) same.0 in
      let taken = ap (λ (bytes : List ℕ). length bytes) same.1 in
      let most = h.statics in
      let most_heap = h.heap in
      ap (λ (b : Bool). if b then word_in x.memory (base + 4 * m) (spot x.memory (base + 4 * m)) else None)
      (is_zero ((base + 4 * m) % 4) (omega (arith, words))) ∙
      (ap (λ (z : Spot). word_in x.memory (base + 4 * m) z)
      (above_regions x.memory (base + 4 * m) (omega (arith, inside, first, second, long, most))
      (omega (arith, inside, second, taken, most_heap))) ∙
      ap cell_word there)
    where
      is_zero : (k : ℕ) → k ≡ 0 → (k == 0) ≡ true
      is_zero k e = grind (arith, nat_tests)

  near_address : (m : ℕ) → 4 * m < 32768 → base + 4 * m < 2 ^ 32 → add base (extended (4 * m)) ≡ base + 4 * m
  near_address m lt small = grind (arith, common_steps, nat_tests)

  far_address : (m : ℕ) → base + 4 * m < 2 ^ 32 → add (add (4 * m) base) (extended 0) ≡ base + 4 * m
  far_address m small = grind (arith, common_steps)

  -- the word that stands so far above goes to a temporary, in at most four instructions
  load_matches : (above j m v : ℕ) (d : NumbersDrawn) (tail : List Instr) (r credit : ℕ) (c : Run Ran) (w x : World) (s : Contents) →
      AlikeIn a w x → base + 4 * m < stack_top → x.memory.stack (base + 4 * m) ≡ Has v →
      s (Operand (temp above)) ≡ Word base → (above == j) ≡ false → credit + 4 ≤ r →
      ((s1 : Contents) → ((y : Opnd) → operands.is_same y (temp j) ≡ false → s1 (Operand y) ≡ s (Operand y)) →
      s1 (Operand (temp j)) ≡ Word v → Matches a credit n c x tail s1) →
      Matches a r n c x ((load_above (temp above) (4 * m) (temp j) d).code ++ tail) s
  load_matches above j m v d tail r credit c w x s h below there at other fits next = by (nat_lt (4 * m) 32768) refl
    where
      small : base + 4 * m < 2 ^ 32
      small = omega (arith, below)

      loaded : (bytes : ℕ) (from : Opnd) (address : ℕ) (s1 : Contents) → add address (extended bytes) ≡ base + 4 * m →
          held a.activation s1 (Operand from) ≡ Word address →
          ((y : Opnd) → operands.is_same y (temp j) ≡ false → s1 (Operand y) ≡ s (Operand y)) →
          Matches a (credit + 1) n c x (Lw (temp j) bytes from ∷ tail) s1
      loaded bytes from address s1 is hb stay part =
          simulates_along 1 (credit + 1) n c c (λ i. works 1 (goes (place a) x tail (set (Operand (temp j)) (Word v) s1) i))
          (goes (place a) x (Lw (temp j) bytes from ∷ tail) s1) (λ i. refl)
          (λ i. ap (λ z. works 1 (with_content_word z x (λ b. with_word (load x.memory (add b (extended bytes))) x
          (λ u. goes (place a) x tail (set (Operand (temp j)) (Word u) s1))) i)) hb ∙
          ap (λ o. works 1 (with_word o x (λ u. goes (place a) x tail (set (Operand (temp j)) (Word u) s1)) i))
          (ap (load x.memory) is ∙ above_word m v w x h below there))
          (works_behind (credit + 1) n 1 credit c _ (omega arith)
          (next (set (Operand (temp j)) (Word v) s1)
          (λ y q. ap (λ (b : Bool). if b then Word v else s1 (Operand y)) q ∙ stay y q)
          (temp_there j (Word v) s1) (later_part (place a) (Lw (temp j) bytes from ∷ []) tail part)))

      is_near : nat_lt (4 * m) 32768 ≡ true → 4 * m < 32768
      is_near e = grind (arith, nat_tests)

      near : nat_lt (4 * m) 32768 ≡ true → Matches a r n c x (Lw (temp j) (4 * m) (temp above) ∷ tail) s
      near e part =
          simulates_with_credit 1 (credit + 1) r n c _ (omega (arith, fits))
          (loaded (4 * m) (temp above) base s (near_address m (is_near e) small) at (λ y q. refl) part)

      far : Matches a r n c x ((load_far (temp above) (4 * m) (temp j) d).code ++ tail) s
      far =
          in_turn a (constant (temp j) (4 * m)) (λ z. puts (Addu (temp j) (temp j) (temp above)) >> puts (Lw (temp j) 0 (temp j)))
          d tail r n c x s
          (choice_matches a n (constant (temp j) (4 * m)) d _ r 2 (credit + 2) (4 * m) c x s (Sets (temp j) d s) (omega (arith, fits))
          (constant_does (place a) x (temp j) (4 * m) d s tt (omega (arith, small)))
          (λ s1 q.
          in_turn a (puts (Addu (temp j) (temp j) (temp above))) (λ z. puts (Lw (temp j) 0 (temp j)))
          (constant (temp j) (4 * m) d).drawn tail (credit + 2) n c x s1
          (choice_matches a n (puts (Addu (temp j) (temp j) (temp above))) (constant (temp j) (4 * m) d).drawn
          (Lw (temp j) 0 (temp j) ∷ tail) (credit + 2) 1 (credit + 1) (add (4 * m) base) c x s1
          (λ z e u s2. s2 ≡ set (Operand (temp j)) (Word u) s1) (omega arith)
          (λ rest part. from2 (place a) x (Addu (temp j) (temp j) (temp above)) (temp j) (temp j) (temp above)
          (λ i k. word (add i k)) (4 * m) base rest s1 refl tt tt (set_holds a.activation (temp j) (4 * m) s s1 tt q.1)
          (over_one s1 q.1 (temp above) other ∙ at))
          (λ s2 e.
          loaded 0 (temp j) (add (4 * m) base) s2 (far_address m small)
          (set_holds a.activation (temp j) (add (4 * m) base) s1 s2 tt (λ z. ap (λ (o : Contents). o (Operand z)) e))
          (λ y z. ap (λ (o : Contents). o (Operand y)) e ∙
          (ap (λ (b : Bool). if b then Word (add (4 * m) base) else s1 (Operand y)) z ∙ over_one s1 q.1 y z))))))
        where
          over_one : (s1 : Contents) → SetTo (temp j) (4 * m) s s1 → (y : Opnd) → operands.is_same y (temp j) ≡ false →
              s1 (Operand y) ≡ s (Operand y)
          over_one s1 q y z = q y ∙ ap (λ (b : Bool). if b then Word (4 * m) else s (Operand y)) z

      by : (b : Bool) → nat_lt (4 * m) 32768 ≡ b →
          Matches a r n c x (((if b then puts (Lw (temp j) (4 * m) (temp above)) else load_far (temp above) (4 * m) (temp j)) d).code ++ tail) s
      by true e = near e
      by false e = far

  placing_more : (d e i : ℕ) (vs : List ℕ) (w x : World) (t : Temps) (s : Contents) → d ≤ e → Placing d i vs w x t s →
      Placing e i vs w x t s
  placing_more d e i vs w x t s le h = record {
    drawn = let drawn = h.drawn in omega (arith, drawn, le);
    alike = h.alike;
    temps = h.temps;
    kept = h.kept;
    opened = h.opened;
    passed = h.passed;
    fits = h.fits;
  }

  placed_at_last : (d i : ℕ) (vs : List ℕ) (w x : World) (t : Temps) (s : Contents) → Placing d i vs w x t s → Placed w x t s
  placed_at_last d i vs w x t s h = record { alike = h.alike; temps = h.temps; kept = h.kept }

  differs_above : (above j : ℕ) → j < above → (above == j) ≡ false
  differs_above above j lt = grind (arith, nat_tests)

  -- parameters past the fourth, where the frame address stands in a temporary
  words_match : (above i : ℕ) (homes : List Access) (vs : List ℕ) (w w1 : World) (t t1 : Temps) →
      IsPlaced base homes vs w t w1 t1 → slot_bound homes ≤ a.function.slots → temp_bound homes ≤ a.function.temps →
      (d : NumbersDrawn) (tail : List Instr) (r credit : ℕ) (c : Run Ran) (x : World) (s : Contents) →
      credit + 5 * length vs ≤ r → above < d.temp → a.function.temps + kept_count ≤ above → 4 ≤ i →
      s (Operand (temp above)) ≡ Word base → Placing d.temp i vs w x t s → Next credit c tail w1 t1 →
      Matches a r n c x ((from_words (temp above) i homes d).code ++ tail) s
  words_match above i homes vs w w1 t t1 (placed_all w2 t2) slots temps d tail r credit c x s le lt kept_below four at h next =
      λ part. simulates_with_credit 1 credit r n c (goes (place a) x tail s) (omega (arith, le))
      (next x s (placed_at_last d.temp i [] w2 x t2 s h) part)
  words_match above i homes vs w w1 t t1 (placed_in_temp j v hs us w2 w3 t2 t3 p) slots temps d tail r credit c x s le lt kept_below four
      at h next =
      let fits = h.fits in
      let other = differs_above above j.0 (omega (arith, temps, kept_below)) in
      in_turn a (load_above (temp above) (4 * (i - 4)) (temp j.0)) (λ z. from_words (temp above) (i + 1) hs) d tail r n c x s
      (load_matches above j.0 (i - 4) v d _ r (credit + 5 * length us) c w2 x s h.alike (omega (arith, fits, four))
      (h.passed.0.high four) at other (omega (arith, le))
      (λ s1 stay there.
      let d1 = (load_above (temp above) (4 * (i - 4)) (temp j.0) d).drawn in
      let more = (above_grows (temp above) (4 * (i - 4)) (temp j.0)).temps d in
      words_match above (i + 1) hs us w2 w3 (set_temp j.0 v t2) t3 p (omega (arith, slots)) (omega (arith, temps)) d1 tail
      (credit + 5 * length us) credit c x s1 (omega arith) (omega (arith, lt, more)) kept_below (omega (arith, four))
      (stay (temp above) other ∙ at)
      (placing_more d.temp d1.temp (i + 1) us w2 x (set_temp j.0 v t2) s1 more
      (into_temp d.temp i j.0 v us w2 x t2 s s1 (omega (arith, temps)) (λ k less q. stay (temp k) q) (λ k. stay (Reg k) refl)
      there h)) next))
  words_match above i homes vs w w1 t t1 (placed_in_frame k v hs us w2 w3 t2 t3 p) slots temps d tail r credit c x s le lt kept_below four
      at h next =
      let fits = h.fits in
      let other = below_differs above d.temp lt in
      let d1 : NumbersDrawn = record d { temp = d.temp + 1 } in
      in_turn a (from_word (temp above) i (InFrame k)) (λ z. from_words (temp above) (i + 1) hs) d tail r n c x s
      (in_turn a fresh (λ y. load_above (temp above) (4 * (i - 4)) y >> puts (FrameStore y k)) d _ r n c x s
      (in_turn a (load_above (temp above) (4 * (i - 4)) (temp d.temp)) (λ z. puts (FrameStore (temp d.temp) k)) d1 _ r n c x s
      (load_matches above d.temp (i - 4) v d1 _ r (credit + 5 * length us + 1) c w2 x s h.alike (omega (arith, fits, four))
      (h.passed.0.high four) at other (omega (arith, le))
      (λ s1 stay there.
      let d2 = (from_word (temp above) i (InFrame k) d).drawn in
      let more = (word_grows (temp above) i (InFrame k)).temps d in
      slot_matches (temp d.temp) k v _ (credit + 5 * length us) c x s1 (omega (arith, slots)) there
      (words_match above (i + 1) hs us (with_put (slot base k) (Has v) w2) w3 t2 t3 p (omega (arith, slots)) (omega (arith, temps)) d2
      tail (credit + 5 * length us) credit c (with_put (slot base k) (Has v) x) s1 (omega arith) (omega (arith, lt, more)) kept_below
      (omega (arith, four)) (stay (temp above) other ∙ at)
      (into_slot d.temp d2.temp i k v us w2 x t2 s s1 (omega (arith, slots)) more
      (λ j less. stay (temp j) (below_differs j d.temp less)) (λ j. stay (Reg j) refl) h) next)))))

  is_past : (i : ℕ) → nat_lt i 4 ≡ false → 4 ≤ i
  is_past i e = grind (arith, nat_tests)

  is_less : (i : ℕ) → nat_lt i 4 ≡ true → i < 4
  is_less i e = grind (arith, nat_tests)

  register_there : (i v : ℕ) (vs : List ℕ) (w x : World) (t : Temps) (s : Contents) (d : ℕ) → i < 4 →
      Placing d i (v ∷ vs) w x t s → held a.activation s (Operand (Reg (4 + i))) ≡ Word v
  register_there i v vs w x t s d lt h =
      register_held (4 + i) s (small_register i lt).0 (small_register i lt).1 ∙ h.passed.0.low lt

  -- past the fourth all by one frame address
  far_match : (i : ℕ) (homes : List Access) (vs : List ℕ) (w w1 : World) (t t1 : Temps) →
      IsPlaced base homes vs w t w1 t1 → slot_bound homes ≤ a.function.slots → temp_bound homes ≤ a.function.temps →
      (d : NumbersDrawn) (tail : List Instr) (r credit : ℕ) (c : Run Ran) (x : World) (s : Contents) →
      credit + 5 * length vs + 1 ≤ r → 4 ≤ i → Placing d.temp i vs w x t s → Next credit c tail w1 t1 →
      Matches a r n c x (((fresh >>= (λ above. puts (FrameAddress above) >> from_words above i homes)) d).code ++ tail) s
  far_match i homes vs w w1 t t1 p slots temps d tail r credit c x s le four h next =
      let d1 : NumbersDrawn = record d { temp = d.temp + 1 } in
      let drawn = h.drawn in
      in_turn a fresh (λ above. puts (FrameAddress above) >> from_words above i homes) d tail r n c x s
      (in_turn a (puts (FrameAddress (temp d.temp))) (λ z. from_words (temp d.temp) i homes) d1 tail r n c x s
      (choice_matches a n (puts (FrameAddress (temp d.temp))) d1 _ r 1 (credit + 5 * length vs) base c x s
      (λ z e u s1. s1 ≡ set (Operand (temp d.temp)) (Word u) s) (omega (arith, le))
      (λ rest part. sets (place a) x (FrameAddress (temp d.temp)) (temp d.temp) (Base (temp d.temp)) (word base) rest s refl tt tt
      (λ k. refl))
      (λ s1 e.
      let stay : (y : Opnd) → operands.is_same y (temp d.temp) ≡ false → s1 (Operand y) ≡ s (Operand y) =
      (λ y q. ap (λ (o : Contents). o (Operand y)) e ∙ ap (λ (b : Bool). if b then Word base else s (Operand y)) q) in
      words_match d.temp i homes vs w w1 t t1 p slots temps d1 tail (credit + 5 * length vs) credit c x s1 (omega arith)
      (omega arith) drawn four (ap (λ (o : Contents). o (Operand (temp d.temp))) e ∙ temp_there d.temp (Word base) s)
      (record {
        drawn = omega (arith, drawn);
        alike = h.alike;
        temps = temps_same a.function.temps d.temp t s s1 (omega (arith, drawn))
            (λ j less. stay (temp j) (below_differs j d.temp less)) h.temps;
        kept = kept_same a.function.temps d.temp kept_registers s s1 drawn
            (λ j less. stay (temp j) (below_differs j d.temp less)) h.kept;
        opened = h.opened;
        passed = passed_stay s s1 x.memory x.memory i vs (λ k. stay (Reg k) refl) (λ b high. refl) h.passed;
        fits = h.fits;
      }) next)))

  pub parameters_match : (i : ℕ) (homes : List Access) (vs : List ℕ) (w w1 : World) (t t1 : Temps) →
      IsPlaced base homes vs w t w1 t1 → slot_bound homes ≤ a.function.slots → temp_bound homes ≤ a.function.temps →
      (d : NumbersDrawn) (tail : List Instr) (r credit : ℕ) (c : Run Ran) (x : World) (s : Contents) →
      credit + 6 * length vs ≤ r → Placing d.temp i vs w x t s → Next credit c tail w1 t1 →
      Matches a r n c x ((parameters i homes d).code ++ tail) s
  parameters_match i homes vs w w1 t t1 (placed_all w2 t2) slots temps d tail r credit c x s le h next =
      λ part. simulates_with_credit 1 credit r n c (goes (place a) x tail s) (omega (arith, le))
      (next x s (placed_at_last d.temp i [] w2 x t2 s h) part)
  parameters_match i homes vs w w1 t t1 (placed_in_temp j v hs us w2 w3 t2 t3 p) slots temps d tail r credit c x s le h next =
      by (nat_lt i 4) refl
      (λ s1 h1. parameters_match (i + 1) hs us w2 w3 (set_temp j.0 v t2) t3 p (omega (arith, slots)) (omega (arith, temps)) d tail
      (credit + 6 * length us) credit c x s1 (omega arith) h1 next)
    where
      by : (b : Bool) → nat_lt i 4 ≡ b →
          ((s1 : Contents) → Placing d.temp (i + 1) us w2 x (set_temp j.0 v t2) s1 →
          Matches a (credit + 6 * length us) n c x ((parameters (i + 1) hs d).code ++ tail) s1) →
          Matches a r n c x
          (((if b then (from_register i (InTemp j) >> parameters (i + 1) hs) else
          (fresh >>= (λ above. puts (FrameAddress above) >> from_words above i (InTemp j ∷ hs)))) d).code ++ tail) s
      by true e rest =
          in_turn a (puts (Move (temp j.0) (argument i))) (λ z. parameters (i + 1) hs) d tail r n c x s
          (λ part. simulates_along 1 r n c c
          (λ k. works 1 (goes (place a) x ((parameters (i + 1) hs d).code ++ tail) (set (Operand (temp j.0)) (Word v) s) k))
          _ (λ k. refl)
          (λ k. ap (λ z. works 1 (with_content z x (λ o. goes (place a) x ((parameters (i + 1) hs d).code ++ tail)
          (set (Operand (temp j.0)) o s)) k)) (register_there i v us w2 x t2 s d.temp (is_less i e) h))
          (works_behind r n 1 (credit + 6 * length us) c _ (omega (arith, le))
          (rest (set (Operand (temp j.0)) (Word v) s)
          (into_temp d.temp i j.0 v us w2 x t2 s (set (Operand (temp j.0)) (Word v) s) (omega (arith, temps))
          (temp_stays j.0 d.temp (Word v) s) (λ k. refl) (temp_there j.0 (Word v) s) h)
          (later_part (place a) (Move (temp j.0) (argument i) ∷ []) _ part))))
      by false e rest =
          far_match i (InTemp j ∷ hs) (v ∷ us) w2 w3 t2 t3 (placed_in_temp j v hs us w2 w3 t2 t3 p) slots temps d tail r credit c x s
          (omega (arith, le)) (is_past i e) h next
  parameters_match i homes vs w w1 t t1 (placed_in_frame m v hs us w2 w3 t2 t3 p) slots temps d tail r credit c x s le h next =
      by (nat_lt i 4) refl
      (λ x1 h1. parameters_match (i + 1) hs us (with_put (slot base m) (Has v) w2) w3 t2 t3 p (omega (arith, slots))
      (omega (arith, temps)) d tail (credit + 6 * length us) credit c x1 s (omega arith) h1 next)
    where
      by : (b : Bool) → nat_lt i 4 ≡ b →
          ((x1 : World) → Placing d.temp (i + 1) us (with_put (slot base m) (Has v) w2) x1 t2 s →
          Matches a (credit + 6 * length us) n c x1 ((parameters (i + 1) hs d).code ++ tail) s) →
          Matches a r n c x
          (((if b then (from_register i (InFrame m) >> parameters (i + 1) hs) else
          (fresh >>= (λ above. puts (FrameAddress above) >> from_words above i (InFrame m ∷ hs)))) d).code ++ tail) s
      by true e rest =
          in_turn a (puts (FrameStore (argument i) m)) (λ z. parameters (i + 1) hs) d tail r n c x s
          (λ part. simulates_with_credit 1 (credit + 6 * length us + 1) r n c _ (omega (arith, le))
          (slot_matches (argument i) m v ((parameters (i + 1) hs d).code ++ tail) (credit + 6 * length us) c x s (omega (arith, slots))
          (register_there i v us w2 x t2 s d.temp (is_less i e) h)
          (rest (with_put (slot base m) (Has v) x)
          (into_slot d.temp d.temp i m v us w2 x t2 s s (omega (arith, slots)) (omega arith) (λ j less. refl) (λ j. refl) h)) part))
      by false e rest =
          far_match i (InFrame m ∷ hs) (v ∷ us) w2 w3 t2 t3 (placed_in_frame m v hs us w2 w3 t2 t3 p) slots temps d tail r credit c x s
          (omega (arith, le)) (is_past i e) h next
