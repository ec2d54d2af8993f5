-- A row that is moved behind another: it does the same there, on a state in which a register that it
-- neither reads nor writes has got a word, and it keeps the registers that it doesn't write.
use Rattle.std.proofs.Common.{ℕ, ◌≡◌, ◌≢◌, ◌%◌, ◌==◌, [], ◌∷◌, refl, ap, ◌∙◌, arith}
use Rattle.std.proofs.Common.{Bool, true, false, Option, Some, None}
use Rattle.std.specs.Prelude.{if◌then◌else◌, Ok, Err, Result, slice_set, nat_lt, bit_and, bit_or, bit_xor}
use Rattle.std.proofs.lemmas.Bool.Decides.{nat_tests}
use Rattle.std.proofs.lemmas.List.{get_or-set_other, set_comm}
use Rattle.tg_machine_state.specs.declared.ends.RunEnd.{RunEnd}
use Rattle.tg_machine_state.specs.declared.ends.RunEnd.TheVariants.{Unaligned}
use Rattle.tg_base.specs.Words.{add, sub, less, exact_sum, exact_difference, extended, quot, rem, product_high}
use Rattle.tg_base.specs.Words.{product_low, shift_left, shift_right, shift_signed, neither, flag}
use Rattle.tg_machine_state.specs.State.{MachineState, RegionByte, InStack, InHeap, InStatics, Nowhere, register, set_register}
use Rattle.tg_machine_state.specs.State.{spot, load_byte, load_word, store_byte, store_word, set_byte_there, set_word_there}
use Rattle.tg_machine_state.specs.Services as machine
use Rattle.tg_machine_state.specs.Services.{Step}
use Rattle.tg_isa.specs.declared.mips.Mips.{Mips}
use Rattle.tg_isa.specs.declared.mips.Mips.TheVariants as row
use Rattle.tg_isa.specs.Effects.{effect, put, put_exact, stored, extended_load, divide, effective_address}
use Rattle.tg_isa.proofs.Anywhere.{spot_seen, load_seen, load_word_seen}
use Rattle.tg_delay.specs.Filling.{reads, writes, written, is_among, stays}

not_first : (q r : ℕ) → is_among (r ∷ []) q ≡ false → q ≢ r
not_first q r h e = grind (arith, nat_tests, e, h)

not_of_two : (q r t : ℕ) → is_among (r ∷ t ∷ []) q ≡ false → (r ≢ q) × (t ≢ q)
not_of_two q r t h = (λ e. grind (arith, nat_tests, e, h), λ e. grind (arith, nat_tests, e, h))

not_of_one : (q r : ℕ) → is_among (r ∷ []) q ≡ false → r ≢ q
not_of_one q r h e = grind (arith, nat_tests, e, h)

-- A register that a row doesn't write, and that it neither ends the run's input nor writes.
abbrev pub Keeps : (q : ℕ) → MachineState → Step → Type 0
Keeps q s (machine.Goes t) = register t q ≡ register s q
Keeps q s (machine.Ends e) = Unit {0}
Keeps q s (machine.Reads t) = ⊥
Keeps q s (machine.Writes bytes t) = ⊥

module _ (q : ℕ) (s : MachineState) where
  set_keeps : (r v : ℕ) → is_among (written r) q ≡ false → Keeps q s (machine.Goes (set_register s r v))
  set_keeps r v h = by (r == 0) h
    where
      by : (b : Bool) → is_among (if b then [] else r ∷ []) q ≡ false →
          register (if b then s else record s { registers = slice_set s.registers r v }) q ≡ register s q
      by true k = refl
      by false k = get_or-set_other s.registers r q v 0 (not_first q r k)

  exact_keeps : (r : ℕ) (o : Option ℕ) → is_among (written r) q ≡ false → Keeps q s (put_exact s r o)
  exact_keeps r (Some v) h = set_keeps r v h
  exact_keeps r None h = tt

  put_keeps : (r : ℕ) (o : Result ℕ RunEnd) → is_among (written r) q ≡ false → Keeps q s (put s r o)
  put_keeps r (Ok v) h = set_keeps r v h
  put_keeps r (Err e) h = tt

  divide_keeps : (a b : ℕ) → Keeps q s (machine.Goes (divide s a b))
  divide_keeps a b = by (b == 0)
    where
      by : (z : Bool) → register (if z then s else record s { hi = rem a b; lo = quot a b }) q ≡ register s q
      by true = refl
      by false = refl

  byte_keeps : (v : ℕ) (r : RegionByte) → Keeps q s (stored (set_byte_there s r v))
  byte_keeps v (InStack i) = refl
  byte_keeps v (InHeap i) = refl
  byte_keeps v (InStatics i) = refl
  byte_keeps v (Nowhere e) = tt

  word_keeps : (v : ℕ) (r : RegionByte) → Keeps q s (stored (set_word_there s r v))
  word_keeps v (InStack i) = refl
  word_keeps v (InHeap i) = refl
  word_keeps v (InStatics i) = refl
  word_keeps v (Nowhere e) = tt

  store_keeps : (a v : ℕ) → Keeps q s (stored (store_word s a v))
  store_keeps a v = by (a % 4 == 0)
    where
      by : (b : Bool) → Keeps q s (stored (if b then set_word_there s (spot s a) v else Err (Unaligned a)))
      by true = word_keeps v (spot s a)
      by false = tt

  pub effect_keeps : (one : Mips) → stays one ≡ false → is_among (writes one) q ≡ false → Keeps q s (effect one s)
  effect_keeps (row.Mult rs rt) h k = refl
  effect_keeps (row.Div rs rt) h k = divide_keeps (register s rs) (register s rt)
  effect_keeps (row.Add rd rs rt) h k = exact_keeps rd (exact_sum (register s rs) (register s rt)) k
  effect_keeps (row.Sub rd rs rt) h k = exact_keeps rd (exact_difference (register s rs) (register s rt)) k
  effect_keeps (row.Addi rt rs n) h k = exact_keeps rt (exact_sum (register s rs) (extended n)) k
  effect_keeps (row.Lb rt n rs) h k = put_keeps rt (extended_load (load_byte s (effective_address s rs n))) k
  effect_keeps (row.Lbu rt n rs) h k = put_keeps rt (load_byte s (effective_address s rs n)) k
  effect_keeps (row.Lw rt n rs) h k = put_keeps rt (load_word s (effective_address s rs n)) k
  effect_keeps (row.Sb rt n rs) h k = byte_keeps (register s rt) (spot s (effective_address s rs n))
  effect_keeps (row.Sw rt n rs) h k = store_keeps (effective_address s rs n) (register s rt)
  effect_keeps (row.Sll rd rt n) h k = set_keeps rd _ k
  effect_keeps (row.Srl rd rt n) h k = set_keeps rd _ k
  effect_keeps (row.Sra rd rt n) h k = set_keeps rd _ k
  effect_keeps (row.Mfhi rd) h k = set_keeps rd _ k
  effect_keeps (row.Mflo rd) h k = set_keeps rd _ k
  effect_keeps (row.Addu rd rs rt) h k = set_keeps rd _ k
  effect_keeps (row.Subu rd rs rt) h k = set_keeps rd _ k
  effect_keeps (row.And rd rs rt) h k = set_keeps rd _ k
  effect_keeps (row.Or rd rs rt) h k = set_keeps rd _ k
  effect_keeps (row.Xor rd rs rt) h k = set_keeps rd _ k
  effect_keeps (row.Nor rd rs rt) h k = set_keeps rd _ k
  effect_keeps (row.Slt rd rs rt) h k = set_keeps rd _ k
  effect_keeps (row.Sltu rd rs rt) h k = set_keeps rd _ k
  effect_keeps (row.Addiu rt rs n) h k = set_keeps rt _ k
  effect_keeps (row.Slti rt rs n) h k = set_keeps rt _ k
  effect_keeps (row.Sltiu rt rs n) h k = set_keeps rt _ k
  effect_keeps (row.Andi rt rs n) h k = set_keeps rt _ k
  effect_keeps (row.Ori rt rs n) h k = set_keeps rt _ k
  effect_keeps (row.Xori rt rs n) h k = set_keeps rt _ k
  effect_keeps (row.Lui rt n) h k = set_keeps rt _ k
  effect_keeps one h k = cc

-- A register that a row neither reads nor writes, with another word in it.
module _ (q v : ℕ) where
  abbrev pub given : MachineState → MachineState
  given s = record s { registers = slice_set s.registers q v }

  abbrev pub step_given : Step → Step
  step_given (machine.Goes s) = machine.Goes (given s)
  step_given (machine.Ends e) = machine.Ends e
  step_given (machine.Reads s) = machine.Reads (given s)
  step_given (machine.Writes bytes s) = machine.Writes bytes (given s)

  abbrev result_given : Result MachineState RunEnd → Result MachineState RunEnd
  result_given (Ok s) = Ok (given s)
  result_given (Err e) = Err e

  module _ (s : MachineState) where
    same : (r : ℕ) → r ≢ q → register (given s) r ≡ register s r
    same r h = get_or-set_other s.registers q r v 0 h

    set_given : (r w : ℕ) → is_among (written r) q ≡ false → set_register (given s) r w ≡ given (set_register s r w)
    set_given r w h = by (r == 0) h
      where
        by : (b : Bool) → is_among (if b then [] else r ∷ []) q ≡ false →
            (if b then given s else record (given s) { registers = slice_set (slice_set s.registers q v) r w })
            ≡ given (if b then s else record s { registers = slice_set s.registers r w })
        by true k = refl
        by false k = ap (λ l. record s { registers = l }) (set_comm s.registers q r v w (not_first q r k))

    -- rows by their shape
    from_none : (rd w : ℕ) → is_among (written rd) q ≡ false →
        machine.Goes (set_register (given s) rd w) ≡ machine.Goes (given (set_register s rd w))
    from_none rd w k = ap machine.Goes (set_given rd w k)

    from_one : (f : ℕ → ℕ) (rd rs : ℕ) → is_among (rs ∷ []) q ≡ false → is_among (written rd) q ≡ false →
        machine.Goes (set_register (given s) rd (f (register (given s) rs)))
        ≡ machine.Goes (given (set_register s rd (f (register s rs))))
    from_one f rd rs h k =
        ap (λ x. machine.Goes (set_register (given s) rd (f x))) (same rs (not_of_one q rs h)) ∙ from_none rd _ k

    from_two : (f : ℕ → ℕ → ℕ) (rd rs rt : ℕ) → is_among (rs ∷ rt ∷ []) q ≡ false → is_among (written rd) q ≡ false →
        machine.Goes (set_register (given s) rd (f (register (given s) rs) (register (given s) rt)))
        ≡ machine.Goes (given (set_register s rd (f (register s rs) (register s rt))))
    from_two f rd rs rt h k =
        let n = not_of_two q rs rt h in
        ap (λ x. machine.Goes (set_register (given s) rd (f x (register (given s) rt)))) (same rs n.0)
        ∙ (ap (λ x. machine.Goes (set_register (given s) rd (f (register s rs) x))) (same rt n.1) ∙ from_none rd _ k)

    exact_given : (r : ℕ) (o : Option ℕ) → is_among (written r) q ≡ false →
        put_exact (given s) r o ≡ step_given (put_exact s r o)
    exact_given r (Some w) k = from_none r w k
    exact_given r None k = refl

    exact_from_two : (f : ℕ → ℕ → Option ℕ) (rd rs rt : ℕ) → is_among (rs ∷ rt ∷ []) q ≡ false →
        is_among (written rd) q ≡ false →
        put_exact (given s) rd (f (register (given s) rs) (register (given s) rt))
        ≡ step_given (put_exact s rd (f (register s rs) (register s rt)))
    exact_from_two f rd rs rt h k =
        let n = not_of_two q rs rt h in
        ap (λ x. put_exact (given s) rd (f x (register (given s) rt))) (same rs n.0)
        ∙ (ap (λ x. put_exact (given s) rd (f (register s rs) x)) (same rt n.1) ∙ exact_given rd _ k)

    put_given : (r : ℕ) (o : Result ℕ RunEnd) → is_among (written r) q ≡ false →
        put (given s) r o ≡ step_given (put s r o)
    put_given r (Ok w) k = from_none r w k
    put_given r (Err e) k = refl

    divide_given : (a b : ℕ) → divide (given s) a b ≡ given (divide s a b)
    divide_given a b = by (b == 0)
      where
        by : (z : Bool) → (if z then given s else record (given s) { hi = rem a b; lo = quot a b })
            ≡ given (if z then s else record s { hi = rem a b; lo = quot a b })
        by true = refl
        by false = refl

    byte_given : (r : RegionByte) (w : ℕ) → set_byte_there (given s) r w ≡ result_given (set_byte_there s r w)
    byte_given (InStack i) w = refl
    byte_given (InHeap i) w = refl
    byte_given (InStatics i) w = refl
    byte_given (Nowhere e) w = refl

    word_given : (r : RegionByte) (w : ℕ) → set_word_there (given s) r w ≡ result_given (set_word_there s r w)
    word_given (InStack i) w = refl
    word_given (InHeap i) w = refl
    word_given (InStatics i) w = refl
    word_given (Nowhere e) w = refl

    spot_same : (a : ℕ) → spot (given s) a ≡ spot s a
    spot_same a = spot_seen s.code s.place (slice_set s.registers q v) s a

    load_same : (a : ℕ) → load_byte (given s) a ≡ load_byte s a
    load_same a = load_seen s.code s.place (slice_set s.registers q v) s a

    load_word_same : (a : ℕ) → load_word (given s) a ≡ load_word s a
    load_word_same a = load_word_seen s.code s.place (slice_set s.registers q v) s a

    store_given : (a w : ℕ) → store_byte (given s) a w ≡ result_given (store_byte s a w)
    store_given a w = byte_given (spot (given s) a) w ∙ ap (λ r. result_given (set_byte_there s r w)) (spot_same a)

    store_word_given : (a w : ℕ) → store_word (given s) a w ≡ result_given (store_word s a w)
    store_word_given a w = by (a % 4 == 0)
      where
        by : (b : Bool) → (if b then set_word_there (given s) (spot (given s) a) w else Err (Unaligned a))
            ≡ result_given (if b then set_word_there s (spot s a) w else Err (Unaligned a))
        by true = word_given (spot (given s) a) w ∙ ap (λ r. result_given (set_word_there s r w)) (spot_same a)
        by false = refl

    went : (o : Result MachineState RunEnd) → stored (result_given o) ≡ step_given (stored o)
    went (Ok t) = refl
    went (Err e) = refl

    address_same : (rs n : ℕ) → rs ≢ q → effective_address (given s) rs n ≡ effective_address s rs n
    address_same rs n h = ap (λ x. add x (extended n)) (same rs h)

    pub effect_given : (one : Mips) → stays one ≡ false → is_among (reads one) q ≡ false →
        is_among (writes one) q ≡ false → effect one (given s) ≡ step_given (effect one s)
    effect_given (row.Mult rs rt) z h k =
        let n = not_of_two q rs rt h in
        ap (λ x. machine.Goes (record (given s) {
          hi = product_high x (register (given s) rt);
          lo = product_low x (register (given s) rt);
        })) (same rs n.0)
        ∙ ap (λ x. machine.Goes (record (given s) {
          hi = product_high (register s rs) x;
          lo = product_low (register s rs) x;
        })) (same rt n.1)
    effect_given (row.Div rs rt) z h k =
        let n = not_of_two q rs rt h in
        ap (λ x. machine.Goes (divide (given s) x (register (given s) rt))) (same rs n.0)
        ∙ (ap (λ x. machine.Goes (divide (given s) (register s rs) x)) (same rt n.1)
        ∙ ap machine.Goes (divide_given (register s rs) (register s rt)))
    effect_given (row.Add rd rs rt) z h k = exact_from_two exact_sum rd rs rt h k
    effect_given (row.Sub rd rs rt) z h k = exact_from_two exact_difference rd rs rt h k
    effect_given (row.Addi rt rs n) z h k =
        ap (λ x. put_exact (given s) rt (exact_sum x (extended n))) (same rs (not_of_one q rs h)) ∙ exact_given rt _ k
    effect_given (row.Lb rt n rs) z h k =
        ap (λ a. put (given s) rt (extended_load (load_byte (given s) a))) (address_same rs n (not_of_one q rs h))
        ∙ (ap (λ o. put (given s) rt (extended_load o)) (load_same (effective_address s rs n)) ∙ put_given rt _ k)
    effect_given (row.Lbu rt n rs) z h k =
        ap (λ a. put (given s) rt (load_byte (given s) a)) (address_same rs n (not_of_one q rs h))
        ∙ (ap (λ o. put (given s) rt o) (load_same (effective_address s rs n)) ∙ put_given rt _ k)
    effect_given (row.Lw rt n rs) z h k =
        ap (λ a. put (given s) rt (load_word (given s) a)) (address_same rs n (not_of_one q rs h))
        ∙ (ap (λ o. put (given s) rt o) (load_word_same (effective_address s rs n)) ∙ put_given rt _ k)
    effect_given (row.Sb rt n rs) z h k =
        let d = not_of_two q rt rs h in
        ap (λ a. stored (store_byte (given s) a (register (given s) rt))) (address_same rs n d.1)
        ∙ (ap (λ x. stored (store_byte (given s) (effective_address s rs n) x)) (same rt d.0)
        ∙ (ap stored (store_given (effective_address s rs n) (register s rt)) ∙ went _))
    effect_given (row.Sw rt n rs) z h k =
        let d = not_of_two q rt rs h in
        ap (λ a. stored (store_word (given s) a (register (given s) rt))) (address_same rs n d.1)
        ∙ (ap (λ x. stored (store_word (given s) (effective_address s rs n) x)) (same rt d.0)
        ∙ (ap stored (store_word_given (effective_address s rs n) (register s rt)) ∙ went _))
    effect_given (row.Sll rd rt n) z h k = from_one (λ x. shift_left x n) rd rt h k
    effect_given (row.Srl rd rt n) z h k = from_one (λ x. shift_right x n) rd rt h k
    effect_given (row.Sra rd rt n) z h k = from_one (λ x. shift_signed x n) rd rt h k
    effect_given (row.Mfhi rd) z h k = from_none rd _ k
    effect_given (row.Mflo rd) z h k = from_none rd _ k
    effect_given (row.Addu rd rs rt) z h k = from_two add rd rs rt h k
    effect_given (row.Subu rd rs rt) z h k = from_two sub rd rs rt h k
    effect_given (row.And rd rs rt) z h k = from_two bit_and rd rs rt h k
    effect_given (row.Or rd rs rt) z h k = from_two bit_or rd rs rt h k
    effect_given (row.Xor rd rs rt) z h k = from_two bit_xor rd rs rt h k
    effect_given (row.Nor rd rs rt) z h k = from_two neither rd rs rt h k
    effect_given (row.Slt rd rs rt) z h k = from_two (λ x y. flag (less x y)) rd rs rt h k
    effect_given (row.Sltu rd rs rt) z h k = from_two (λ x y. flag (nat_lt x y)) rd rs rt h k
    effect_given (row.Addiu rt rs n) z h k = from_one (λ x. add x (extended n)) rt rs h k
    effect_given (row.Slti rt rs n) z h k = from_one (λ x. flag (less x (extended n))) rt rs h k
    effect_given (row.Sltiu rt rs n) z h k = from_one (λ x. flag (nat_lt x (extended n))) rt rs h k
    effect_given (row.Andi rt rs n) z h k = from_one (λ x. bit_and x n) rt rs h k
    effect_given (row.Ori rt rs n) z h k = from_one (λ x. bit_or x n) rt rs h k
    effect_given (row.Xori rt rs n) z h k = from_one (λ x. bit_xor x n) rt rs h k
    effect_given (row.Lui rt n) z h k = from_none rt _ k
    effect_given one z h k = cc
