-- One instruction and one of its shape with three other operands in the places of its own: what comes of it.
-- Liveness is no part of it.
use Rattle.std.proofs.Common.{ℕ, ◌≡◌, ◌≢◌, ◌-◌, ◌&&◌, ◌||◌, Bool, true, false, List, [], nat_lt, refl}
use Rattle.std.proofs.Common.{ap, ◌∙◌}
use Rattle.std.proofs.Common.{◌⊎◌, inl, inr, Some, None}
use Rattle.std.specs.Prelude.{if◌then◌else◌}
use Rattle.std.specs.List.{list_any}
use Rattle.tg_base.specs.Words.{add}
use Rattle.tg_simulation.specs.Runs.{Run}
use Rattle.tg_simulation.specs.Ran.{Ran, Ended, stops}
use Rattle.tg_machine_state.specs.declared.ends.RunEnd.TheVariants.{Break}
use Rattle.tg_tree.specs.Tree.{Literal}
use Rattle.tg_tree.specs.Actions.{World, Activation, wrong, service}
use Rattle.tg_tree.specs.Operators.{holds}
use Rattle.tg_tree.specs.Memory.{Memory, put, slot, literal_address}
use Rattle.tg_instr.specs.declared.operands.Opnd.{Opnd}
use Rattle.tg_instr.specs.declared.operands.Opnd.TheVariants.{Reg}
use Rattle.tg_instr.specs.Operands.{is_same}
use Rattle.tg_instr.specs.Shapes.{Operand, Hi, Lo, InstructionShape, From0, From1, From2, Halves, Copy, Loads, Stores}
use Rattle.tg_instr.specs.Shapes.{FromSlot, ToSlot, Base, AddressOf}
use Rattle.tg_instr.specs.Shapes.{Here, Goes, Tests, Calls, Asks, Fails, Returns}
use Rattle.tg_instr.specs.Uses.{arguments, given_back, uses, defs}
use Rattle.tg_instr.specs.Contents.{Content, Nothing, Word, Contents, set, held, handed, at_entry, after_call}
use Rattle.tg_instr.specs.Contents.{gives_back, cell_of, content_of}
use Rattle.tg_instr.specs.Meaning.{Next, Jumps, Back, Enter, Around, act, with_content, put_in, put_slot, jump, skip}
use Rattle.tg_instr.proofs.Same.{same_is}
use Rattle.tg_regalloc_proof.proofs.Simulating.{Simulates, simulates_between, same_run, by_word, by_content, by_given, by_option, by_memory, by_test}
use Rattle.tg_live.specs.Interference.{moves}
use Rattle.tg_regalloc_proof.specs.Named.{to_of, first_of, second_of, passes, reshaped}
use Rattle.tg_regalloc_proof.proofs.Contents.{leads, Equal, gives_same, entry_same, and_false}

-- What is around an instruction in two programs: the heap's room, the literals, and of both the functions, the slots of the
-- frame, the marks and what comes after the return.
pub record Sides : Type 0 where
  pub room : ℕ
  pub literals : List Literal
  pub enter : Enter
  pub enter' : Enter
  pub slots : ℕ
  pub slots' : ℕ
  pub jumps : Jumps
  pub jumps' : Jumps
  pub back : Back
  pub back' : Back

abbrev pub first_side : Activation → Sides → Around
first_side a e = record { activation = a; slots = e.slots; jumps = e.jumps; back = e.back }

abbrev pub second_side : Activation → Sides → Around
second_side a e = record { activation = a; slots = e.slots'; jumps = e.jumps'; back = e.back' }

module _ (a : Activation) (W : World → World → Type 0) (same_input : (w v : World) → W w v → v.input ≡ w.input) (E : Sides) where
  -- what an instruction asks of worlds that are alike
  abbrev pub Asked : InstructionShape → Type 0
  Asked (Loads to base n f) = (w v : World) (b x : ℕ) → W w v → f w.memory b ≡ Some x → f v.memory b ≡ Some x
  Asked (Stores from base n f) =
      (w v : World) (b x : ℕ) (m : Memory) → W w v → f w.memory b x ≡ Some m →
      (k : Memory) × (f v.memory b x ≡ Some k) × W (record w { memory = m }) (record v { memory = k })
  Asked (FromSlot to k) =
      (w v : World) → W w v → nat_lt k E.slots ≡ true →
      (nat_lt k E.slots' ≡ true) × (content_of (v.memory.stack (slot a.base k)) ≡ content_of (w.memory.stack
      (slot a.base k)))
  Asked (ToSlot from k) =
      (w v : World) (c : Content) → W w v → nat_lt k E.slots ≡ true →
      (nat_lt k E.slots' ≡ true) ×
      W (record w { memory = put (slot a.base k) (cell_of c) w.memory }) (record v {
        memory = put
            (slot a.base k) (cell_of c) v.memory;
      })
  Asked (Calls label) =
      (w v : World) (s : Contents) (after after' : Back) → W w v →
      ((c : Content) (w1 v1 : World) → W w1 v1 → Simulates (after c w1) (after' c v1)) →
      Simulates (E.enter label (at_entry s) (a.base - a.size) after w) (E.enter' label (at_entry s) (a.base - a.size) after' v)
  Asked Asks =
      (n u : ℕ) (w v : World) (go go' : ℕ → World → Run Ran) → W w v →
      ((x : ℕ) (w1 v1 : World) → W w1 v1 → Simulates (go x w1) (go' x v1)) →
      Simulates (service E.room n u w go) (service E.room n u v go')
  Asked Returns = (c : Content) (w v : World) → W w v → Simulates (E.back c w) (E.back' c v)
  Asked _ = Unit {0}

  -- the one has what the other had, or that filled set
  abbrev pub Same : Contents → Contents → (o x : Opnd) → Type 0
  Same s t o x = (held a t (Operand x) ≡ held a s (Operand o)) ⊎ (held a s (Operand o) ≡ Nothing)

  -- what is read
  pub record Reads (q : InstructionShape) (x y : Opnd) (s t : Contents) : Type 0 where
    pub first : (o : Opnd) → first_of q ≡ Some o → Same s t o x
    pub second : (o : Opnd) → second_of q ≡ Some o → Same s t o y
    pub hi : t Hi ≡ s Hi
    pub lo : t Lo ≡ s Lo
    pub register : (r : ℕ) → list_any (is_same (Reg r)) (uses q) ≡ true → held a t (Operand (Reg r)) ≡ held a s
        (Operand (Reg r))

  -- what comes next, by what the instruction does to the contents
  pub record Onward (q : InstructionShape) (z : Opnd) (next next' : Next) (s t : Contents) : Type 0 where
    pub not_sp : (d : Opnd) → to_of q ≡ Some d → is_same d (Reg 29) ≡ false → is_same z (Reg 29) ≡ false
    pub defines :
        (d : Opnd) → to_of q ≡ Some d → passes q ≡ true → ((x : Opnd) → list_any (is_same x) (defs q) ≡
        (is_same x d || false)) → (c : Content) → c ≢ Nothing →
        ((x : Opnd) → (moves q d x ≡ false) ⊎ (held a s (Operand x) ≡ c)) → (w v : World) → W w v →
        Simulates (next w (set (Operand d) c s)) (next' v (set (Operand z) c t))
    pub goes : to_of q ≡ None → passes q ≡ true → defs q ≡ [] → (w v : World) → W w v → Simulates (next w s) (next' v t)
    pub divides :
        to_of q ≡ None → passes q ≡ true → defs q ≡ [] → (h l : ℕ) (w v : World) → W w v →
        Simulates (next w (set Lo (Word l) (set Hi (Word h) s))) (next' v (set Lo (Word l) (set Hi (Word h) t)))
    pub onto : (m : ℕ) → leads q m → defs q ≡ [] → (w v : World) → W w v → Simulates (E.jumps m w s) (E.jumps' m v t)
    pub returns : (label : ℕ) → q ≡ Calls label → (c : Content) (w v : World) → W w v → Simulates (next w
        (after_call c s)) (next' v (after_call c t))
    pub answers : q ≡ Asks → (x : ℕ) (w v : World) → W w v →
        Simulates (next w (set (Operand (Reg 2)) (Word x) s)) (next' v (set (Operand (Reg 2)) (Word x) t))

  -- the definition itself
  pub puts : (q : InstructionShape) (z : Opnd) (next next' : Next) (s t : Contents) → Onward q z next next' s t →
      (d : Opnd) → to_of q ≡ Some d → passes q ≡ true → ((x : Opnd) → list_any (is_same x) (defs q) ≡
      (is_same x d || false)) → (c : Content) → c ≢ Nothing →
      ((x : Opnd) → (moves q d x ≡ false) ⊎ (held a s (Operand x) ≡ c)) → (w v : World) → W w v →
      Simulates (put_in d c (first_side a E) next w s) (put_in z c (second_side a E) next' v t)
  puts q z next next' s t O d to pass one c filled except w v r = by (is_same d (Reg 29)) refl
    where
      by : (b : Bool) → is_same d (Reg 29) ≡ b → Simulates (put_in d c (first_side a E) next w s) (put_in z c (second_side a E) next' v t)
      by true h = λ n k. absurd (k (ap (λ b. ((if b then wrong w else next w (set (Operand d) c s)) n).stop) h))
      by false h =
          simulates_between (next w (set (Operand d) c s)) _ (next' v (set (Operand z) c t)) _
          (λ n. ap (λ b. (if b then wrong w else next w (set (Operand d) c s)) n) h)
          (λ n. ap (λ b. (if b then wrong v else next' v (set (Operand z) c t)) n) (O.not_sp d to h))
          (O.defines d to pass one c filled except w v r)

  word_is_set : (n : ℕ) → Word n ≢ Nothing
  word_is_set n z = cc

  pub step : (q : InstructionShape) → Asked q → (z x y : Opnd) (next next' : Next) (s t : Contents) → Reads q x y s t →
      Onward q z next next' s t →
      (w v : World) → W w v → Simulates (act E.room E.literals E.enter q (first_side a E) next w s) (act E.room E.literals E.enter'
      (reshaped q z x y) (second_side a E) next' v t)
  step (From0 to n) k z x y next next' s t R O w v r =
      puts (From0 to n) z next next' s t O to refl refl (λ x. refl) (Word n) (word_is_set n) (λ x. inl refl) w v r
  step (From1 to (Operand o) f) k z x y next next' s t R O w v r =
      by_word _ _ w v _ _ (R.first o refl) (λ u eu.
      by_given (f u) w v _ _ (same_input w v r) (λ c.
      puts (From1 to (Operand o) f) z next next' s t O to refl refl (λ x. refl) (Word c) (word_is_set c) (λ x.
      inl refl) w v r))
  step (From1 to Hi f) k z x y next next' s t R O w v r =
      by_word _ _ w v _ _ (inl R.hi) (λ u eu.
      by_given (f u) w v _ _ (same_input w v r) (λ c.
      puts (From1 to Hi f) z next next' s t O to refl refl (λ x. refl) (Word c) (word_is_set c) (λ x.
      inl refl) w v r))
  step (From1 to Lo f) k z x y next next' s t R O w v r =
      by_word _ _ w v _ _ (inl R.lo) (λ u eu.
      by_given (f u) w v _ _ (same_input w v r) (λ c.
      puts (From1 to Lo f) z next next' s t O to refl refl (λ x. refl) (Word c) (word_is_set c) (λ x.
      inl refl) w v r))
  step (From2 to l m f) k z x y next next' s t R O w v r =
      by_word _ _ w v _ _ (R.first l refl) (λ u eu.
      by_word _ _ w v _ _ (R.second m refl) (λ u1 eu1.
      by_given (f u u1) w v _ _ (same_input w v r) (λ c.
      puts (From2 to l m f) z next next' s t O to refl refl (λ x. refl) (Word c) (word_is_set c) (λ x.
      inl refl) w v r)))
  step (Halves l m low high) k z x y next next' s t R O w v r =
      by_word _ _ w v _ _ (R.first l refl) (λ u eu.
      by_word _ _ w v _ _ (R.second m refl) (λ u1 eu1.
      by_given (low u u1) w v _ _ (same_input w v r) (λ c.
      by_given (high u u1) w v _ _ (same_input w v r) (λ h. O.divides refl refl refl h c w v r))))
  step (Copy to o) k z x y next next' s t R O w v r =
      by_content _ _ w v _ _ (R.first o refl) (λ filled.
      puts (Copy to o) z next next' s t O to refl refl (λ x. refl) (held a s (Operand o)) filled except w v r)
    where
      except : (y : Opnd) → (moves (Copy to o) to y ≡ false) ⊎ (held a s (Operand y) ≡ held a s (Operand o))
      except y = by (is_same y o) refl
        where
          by : (b : Bool) → is_same y o ≡ b → (moves (Copy to o) to y ≡ false) ⊎ (held a s (Operand y) ≡ held a s
              (Operand o))
          by true h = inr (ap (λ z. held a s (Operand z)) (same_is y o h))
          by false h = inl (ap (λ b. is_same to to && b) h ∙ and_false (is_same to to))
  step (Loads to o n f) k z x y next next' s t R O w v r =
      by_word _ _ w v _ _ (R.first o refl) (λ u eu.
      by_option (f w.memory (add u n)) (f v.memory (add u n)) w v _ _ (λ z ez. k w v (add u n) z r ez) (λ c.
      puts (Loads to o n f) z next next' s t O to refl refl (λ x. refl) (Word c) (word_is_set c) (λ x.
      inl refl) w v r))
  step (Stores o b n f) k z x y next next' s t R O w v r =
      by_word _ _ w v _ _ (R.second b refl) (λ u eu.
      by_word _ _ w v _ _ (R.first o refl) (λ u1 eu1.
      by_memory (f w.memory (add u n) u1) (f v.memory (add u n) u1) w v _ _ (λ m em.
      let h = k w v (add u n) u1 m r em in
      (h.0, h.1, O.goes refl refl refl (record w { memory = m }) (record v { memory = h.0 }) h.2))))
  step (FromSlot to j) k z x y next next' s t R O w v r = by (nat_lt j E.slots) refl
    where
      by : (b : Bool) → nat_lt j E.slots ≡ b → Simulates (act E.room E.literals E.enter (FromSlot to j) (first_side a E) next w s)
          (act E.room E.literals E.enter' (FromSlot z j) (second_side a E) next' v t)
      by true h =
          let o = k w v r h in
          simulates_between (with_content (content_of (w.memory.stack (slot a.base j))) w (λ c. put_in to c (first_side a E) next w s)) _
          (with_content (content_of (v.memory.stack (slot a.base j))) v (λ c. put_in z c (second_side a E) next' v t)) _
          (λ n. ap (λ b. (if b then with_content (content_of (w.memory.stack (slot a.base j))) w (λ c.
          put_in to c (first_side a E) next w s) else wrong w) n) h)
          (λ n. ap (λ b. (if b then with_content (content_of (v.memory.stack (slot a.base j))) v (λ c.
          put_in z c (second_side a E) next' v t) else wrong v) n) o.0)
          (by_content _ _ w v _ _ (inl o.1) (λ filled.
          puts (FromSlot to j) z next next' s t O to refl refl (λ x. refl) (content_of (w.memory.stack
          (slot a.base j))) filled (λ x. inl refl) w v r))
      by false h =
          λ n k. absurd (k (ap (λ b. ((if b then with_content (content_of (w.memory.stack (slot a.base j))) w (λ c.
          put_in to c (first_side a E) next w s) else wrong w) n).stop) h))
  step (ToSlot o j) k z x y next next' s t R O w v r =
      by_content _ _ w v _ _ (R.first o refl) (λ filled. by (held a s (Operand o)) (nat_lt j E.slots) refl)
    where
      by : (c : Content) (b : Bool) → nat_lt j E.slots ≡ b → Simulates (put_slot j c (first_side a E) next w s) (put_slot j c (second_side a E) next' v t)
      by c true h =
          let o = k w v c r h in
          simulates_between (next (record w { memory = put (slot a.base j) (cell_of c) w.memory }) s) _
          (next' (record v { memory = put (slot a.base j) (cell_of c) v.memory }) t) _
          (λ n. ap (λ b. (if b then next (record w {
            memory = put (slot a.base j)
                (cell_of c) w.memory;
          }) s else wrong w) n) h)
          (λ n. ap (λ b. (if b then next' (record v {
            memory = put (slot a.base j)
                (cell_of c) v.memory;
          }) t else wrong v) n) o.0)
          (O.goes refl refl refl _ _ o.1)
      by c false h =
          λ n k. absurd (k (ap (λ b. ((if b then next (record w {
            memory = put (slot a.base j)
                (cell_of c) w.memory;
          }) s else wrong w) n).stop) h))
  step (Base to) k z x y next next' s t R O w v r =
      puts (Base to) z next next' s t O to refl refl (λ x. refl) (Word a.base) (word_is_set a.base) (λ x.
      inl refl) w v r
  step (AddressOf to label) k z x y next next' s t R O w v r =
      by_option (literal_address E.literals label) (literal_address E.literals label) w v _ _ (λ z ez. ez) (λ c.
      puts (AddressOf to label) z next next' s t O to refl refl (λ x. refl) (Word c) (word_is_set c) (λ x.
      inl refl) w v r)
  step (Here m) k z x y next next' s t R O w v r = O.goes refl refl refl w v r
  step (Goes m) k z x y next next' s t R O w v r = O.onto m refl refl w v r
  step (Tests rel l m j) k z x y next next' s t R O w v r =
      by_word _ _ w v _ _ (R.first l refl) (λ u eu.
      by_word _ _ w v _ _ (R.second m refl) (λ u1 eu1. tested (holds rel u u1)))
    where
      tested : (b : Bool) → Simulates ((if b then jump j else skip) (first_side a E) next w s) ((if b then jump j else skip) (second_side a E) next' v t)
      tested true = O.onto j refl refl w v r
      tested false = O.goes refl refl refl w v r
  step (Calls label) k z x y next next' s t R O w v r =
      simulates_between (E.enter label (at_entry s) (a.base - a.size) (λ c w1. next w1 (after_call c s)) w) _
      (E.enter' label (at_entry s) (a.base - a.size) (λ c v1. next' v1 (after_call c t)) v) _ (λ n. refl)
      (λ n. ap (λ c. E.enter' label c (a.base - a.size) (λ c v1. next' v1 (after_call c t)) v n) (entry_same s t same))
      (k w v s (λ c w1. next w1 (after_call c s)) (λ c v1. next' v1 (after_call c t)) r (λ c w1 v1 r1.
      O.returns label refl c w1 v1 r1))
    where
      same : Equal arguments s t
      same = (R.register 4 refl, (R.register 5 refl, (R.register 6 refl, (R.register 7 refl, tt))))
  step Asks k z x y next next' s t R O w v r =
      by_word _ _ w v _ _ (inl (R.register 2 refl)) (λ n en.
      by_word _ _ w v _ _ (inl (R.register 4 refl)) (λ u eu. k n u w v _ _ r (λ i w1 v1 r1.
      O.answers refl i w1 v1 r1)))
  step (Fails n) k z x y next next' s t R O w v r = λ i h. same_run _ _ (ap (λ j. stops j (Ended (Break n))) (same_input w v r))
  step Returns k z x y next next' s t R O w v r =
      simulates_between (if gives_back given_back s then E.back (handed (s (Operand (Reg 2)))) w else wrong w) _
      (if gives_back given_back s then E.back' (handed (s (Operand (Reg 2)))) v else wrong v) _ (λ n. refl)
      (λ n. ap (λ b. (if b then E.back' (handed (t (Operand (Reg 2)))) v else wrong v) n)
      (gives_same given_back s t same)
      ∙ ap (λ c. (if gives_back given_back s then E.back' (handed c) v else wrong v) n) (R.register 2 refl))
      (by_test (gives_back given_back s) _ _ _ _ (k (handed (s (Operand (Reg 2)))) w v r) (λ n z. absurd (z refl)))
    where
      same : Equal given_back s t
      same = (
        R.register 16 refl,
        (
          R.register 17 refl,
          (
            R.register 18 refl,
            (
              R.register 19 refl,
              (
                R.register 20 refl,
                (
                  R.register 21 refl,
                  (R.register 22 refl, (R.register 23 refl, (R.register 31 refl, tt))),
                ),
              ),
            ),
          ),
        ),
      )
