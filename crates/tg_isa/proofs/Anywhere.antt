-- The effect of a row that neither jumps nor branches is the same wherever code and place are.
use Rattle.std.proofs.Common.{ℕ, zero, suc, ◌≡◌, ◌+◌, ◌%◌, ◌==◌, List, [], ◌∷◌, ◌++◌, length, refl, ap, ◌∙◌, Bool}
use Rattle.std.proofs.Common.{true, false, Option, Some, None}
use Rattle.std.specs.Prelude.{Result, Ok, Err, if◌then◌else◌, pos, replicate, nat_lt, slice_set}
use Rattle.std.specs.Fmt.{signed_decimal}
use Rattle.tg_machine_state.specs.declared.ends.RunEnd.{RunEnd}
use Rattle.tg_machine_state.specs.declared.ends.RunEnd.TheVariants.{Exit, HeapFull, Unaligned, BadService}
use Rattle.tg_base.specs.Words.{signed, exact_sum, exact_difference, extended, quot, rem}
use Rattle.tg_machine_state.specs.State.{MachineState, RegionByte, InStack, InHeap, InStatics, Nowhere, register, set_register}
use Rattle.tg_machine_state.specs.State.{in_stack, in_heap, in_statics, spot}
use Rattle.tg_machine_state.specs.State.{byte_there, word_there, load_byte, load_word, set_byte_there, set_word_there}
use Rattle.tg_machine_state.specs.State.{store_byte, store_word, offset, floor, heap_base, statics_base}
use Rattle.tg_machine_state.specs.Services.{Step, Goes, Ends, Reads, Writes, service, answered, take_heap, whole_words}
use Rattle.tg_machine_state.specs.Services.{text_at, text_from, before, write_text}
use Rattle.tg_isa.specs.declared.mips.Mips.{Mips}
use Rattle.tg_isa.specs.declared.mips.Mips.TheVariants as row
use Rattle.tg_isa.specs.Effects.{effect, put, put_exact, stored, extended_load, divide, effective_address}
use Rattle.tg_isa.specs.laws.Anywhere.{on, step_on, IsStraight, EffectsAreAnywhere}

abbrev stored_on : (code : List ℕ) → (place : ℕ) → Result MachineState RunEnd → Result MachineState RunEnd
stored_on code place (Ok s) = Ok (on code place s)
stored_on code place (Err e) = Err e

-- what is read of memory, whatever the registers are
abbrev pub seen : (code : List ℕ) → (place : ℕ) → (registers : List ℕ) → MachineState → MachineState
seen code place rs s = record s { code = code; place = place; registers = rs }

module _ (code : List ℕ) (place : ℕ) (rs : List ℕ) where
  statics_seen : (s : MachineState) (a : ℕ) (o : Option ℕ) → in_statics (seen code place rs s) a o ≡ in_statics s a o
  statics_seen s a (Some i) = refl
  statics_seen s a None = refl

  heap_seen : (s : MachineState) (a : ℕ) (o : Option ℕ) → in_heap (seen code place rs s) a o ≡ in_heap s a o
  heap_seen s a (Some i) = refl
  heap_seen s a None = statics_seen s a (offset a statics_base (length s.statics))

  stack_seen : (s : MachineState) (a : ℕ) (o : Option ℕ) → in_stack (seen code place rs s) a o ≡ in_stack s a o
  stack_seen s a (Some i) = refl
  stack_seen s a None = heap_seen s a (offset a heap_base (length s.heap))

  pub spot_seen : (s : MachineState) (a : ℕ) → spot (seen code place rs s) a ≡ spot s a
  spot_seen s a = stack_seen s a (offset a (floor s) (length s.stack))

  byte_seen : (s : MachineState) (r : RegionByte) → byte_there (seen code place rs s) r ≡ byte_there s r
  byte_seen s (InStack i) = refl
  byte_seen s (InHeap i) = refl
  byte_seen s (InStatics i) = refl
  byte_seen s (Nowhere e) = refl

  word_seen : (s : MachineState) (r : RegionByte) → word_there (seen code place rs s) r ≡ word_there s r
  word_seen s (InStack i) = refl
  word_seen s (InHeap i) = refl
  word_seen s (InStatics i) = refl
  word_seen s (Nowhere e) = refl

  pub load_seen : (s : MachineState) (a : ℕ) → load_byte (seen code place rs s) a ≡ load_byte s a
  load_seen s a = byte_seen s (spot (seen code place rs s) a) ∙ ap (byte_there s) (spot_seen s a)

  pub load_word_seen : (s : MachineState) (a : ℕ) → load_word (seen code place rs s) a ≡ load_word s a
  load_word_seen s a =
      ap (λ (r : Result ℕ RunEnd). if a % 4 == 0 then r else Err (Unaligned a))
      (word_seen s (spot (seen code place rs s) a) ∙ ap (word_there s) (spot_seen s a))

module _ (code : List ℕ) (place : ℕ) where
  pub set_on : (s : MachineState) (r v : ℕ) → set_register (on code place s) r v ≡ on code place (set_register s r v)
  set_on s r v = by (r == 0)
    where
      by :
          (b : Bool) →
          (if b then on code place s else record (on code place s) { registers = slice_set s.registers r v })
          ≡ on code place (if b then s else record s { registers = slice_set s.registers r v })
      by true = refl
      by false = refl

  exact_on : (s : MachineState) (r : ℕ) (o : Option ℕ) → put_exact (on code place s) r o
      ≡ step_on code place (put_exact s r o)
  exact_on s r (Some v) = ap Goes (set_on s r v)
  exact_on s r None = refl

  put_on : (s : MachineState) (r : ℕ) (o : Result ℕ RunEnd) → put (on code place s) r o
      ≡ step_on code place (put s r o)
  put_on s r (Ok v) = ap Goes (set_on s r v)
  put_on s r (Err e) = refl

  divide_on : (s : MachineState) (a b : ℕ) → divide (on code place s) a b ≡ on code place (divide s a b)
  divide_on s a b = by (b == 0)
    where
      by :
          (z : Bool) →
          (if z then on code place s else record (on code place s) { hi = rem a b; lo = quot a b })
          ≡ on code place (if z then s else record s { hi = rem a b; lo = quot a b })
      by true = refl
      by false = refl

  load_on : (s : MachineState) (a : ℕ) → load_byte (on code place s) a ≡ load_byte s a
  load_on s a = load_seen code place s.registers s a

  load_word_on : (s : MachineState) (a : ℕ) → load_word (on code place s) a ≡ load_word s a
  load_word_on s a = load_word_seen code place s.registers s a

  spot_on : (s : MachineState) (a : ℕ) → spot (on code place s) a ≡ spot s a
  spot_on s a = spot_seen code place s.registers s a

  set_byte_on :
      (s : MachineState) (r : RegionByte) (v : ℕ) → set_byte_there (on code place s) r v
      ≡ stored_on code place (set_byte_there s r v)
  set_byte_on s (InStack i) v = refl
  set_byte_on s (InHeap i) v = refl
  set_byte_on s (InStatics i) v = refl
  set_byte_on s (Nowhere e) v = refl

  set_word_on :
      (s : MachineState) (r : RegionByte) (v : ℕ) → set_word_there (on code place s) r v
      ≡ stored_on code place (set_word_there s r v)
  set_word_on s (InStack i) v = refl
  set_word_on s (InHeap i) v = refl
  set_word_on s (InStatics i) v = refl
  set_word_on s (Nowhere e) v = refl

  store_on : (s : MachineState) (a v : ℕ) → store_byte (on code place s) a v ≡ stored_on code place (store_byte s a v)
  store_on s a v = set_byte_on s (spot (on code place s) a) v
      ∙ ap (λ r. stored_on code place (set_byte_there s r v)) (spot_on s a)

  store_word_on : (s : MachineState) (a v : ℕ) → store_word (on code place s) a v
      ≡ stored_on code place (store_word s a v)
  store_word_on s a v = by (a % 4 == 0)
    where
      by :
          (b : Bool) →
          (if b then set_word_there (on code place s) (spot (on code place s) a) v else Err (Unaligned a))
          ≡ stored_on code place (if b then set_word_there s (spot s a) v else Err (Unaligned a))
      by true = set_word_on s (spot (on code place s) a) v
          ∙ ap (λ r. stored_on code place (set_word_there s r v)) (spot_on s a)
      by false = refl

  went_on : (o : Result MachineState RunEnd) → stored (stored_on code place o) ≡ step_on code place (stored o)
  went_on (Ok s) = refl
  went_on (Err e) = refl

  -- services
  abbrev byte_or : ℕ → Bool → Result (List ℕ) RunEnd → Result (List ℕ) RunEnd
  byte_or b z later = elim z as (λ _. Result (List ℕ) RunEnd) [
    | true ↦ Ok []
    | false ↦ before b later
  ]

  abbrev text_or : Result ℕ RunEnd → Result (List ℕ) RunEnd → Result (List ℕ) RunEnd
  text_or o later = elim o as (λ _. Result (List ℕ) RunEnd) [
    | Ok b ↦ byte_or b (b == 0) later
    | Err e ↦ Err e
  ]

  text_on : (n : ℕ) (s : MachineState) (a : ℕ) → text_from n (on code place s) a ≡ text_from n s a
  text_on zero s a = refl
  text_on (suc n) s a =
      ap (λ o. text_or o (text_from n (on code place s) (a + 1))) (load_on s a)
      ∙ ap (text_or (load_byte s a)) (text_on n s (a + 1))

  written_on : (s : MachineState) (o : Result (List ℕ) RunEnd) → write_text (on code place s) o
      ≡ step_on code place (write_text s o)
  written_on s (Ok bytes) = refl
  written_on s (Err e) = refl

  either : (b : Bool) (x y u v : Step) → x ≡ step_on code place u → y ≡ step_on code place v →
      (if b then x else y) ≡ step_on code place (if b then u else v)
  either true x y u v h k = h
  either false x y u v h k = k

  taken_on : (s : MachineState) (n : ℕ) → take_heap (on code place s) n ≡ step_on code place (take_heap s n)
  taken_on s n =
      either (nat_lt s.room (length s.heap + n)) _ _ (Ends HeapFull) _ refl
      (ap Goes (set_on (record s { heap = s.heap ++ replicate n 0 }) 2 (heap_base + length s.heap)))

  service_on : (s : MachineState) → service (on code place s) ≡ step_on code place (service s)
  service_on s =
      let asked : ℕ = register s 2 in
      let argument : ℕ = register s 4 in
      either (asked == 1) _ _ (Writes (signed_decimal (signed argument)) s) _ refl
      (either (asked == 4) _ _ (write_text s (text_at s argument)) _
      (written_on s (text_at (on code place s) argument)
      ∙ ap (λ t. step_on code place (write_text s t))
      (text_on (length s.statics + length s.heap + length s.stack + 1) s argument))
      (either (asked == 9) _ _ (take_heap s (whole_words argument)) _ (taken_on s (whole_words argument))
      (either (asked == 10) _ _ (Ends (Exit (pos 0))) _ refl
      (either (asked == 11) _ _ (Writes (argument % 256 ∷ []) s) _ refl
      (either (asked == 12) _ _ (Reads s) _ refl
      (either (asked == 17) _ _ (Ends (Exit (signed argument))) (Ends (BadService asked)) refl refl))))))

  pub answered_on : (s : MachineState) (o : Option ℕ) → answered (on code place s) o ≡ on code place (answered s o)
  answered_on s (Some b) = set_on s 2 b
  answered_on s None = set_on s 2 4294967295

  pub effect_on : (one : Mips) (s : MachineState) → IsStraight one → effect one (on code place s)
      ≡ step_on code place (effect one s)
  effect_on row.Syscall s h = service_on s
  effect_on (row.Break n) s h = refl
  effect_on (row.Mult rs rt) s h = refl
  effect_on (row.Div rs rt) s h = ap Goes (divide_on s (register s rs) (register s rt))
  effect_on (row.Add rd rs rt) s h = exact_on s rd (exact_sum (register s rs) (register s rt))
  effect_on (row.Sub rd rs rt) s h = exact_on s rd (exact_difference (register s rs) (register s rt))
  effect_on (row.Addi rt rs n) s h = exact_on s rt (exact_sum (register s rs) (extended n))
  effect_on (row.Lb rt n rs) s h = ap (λ o. put (on code place s) rt (extended_load o)) (load_on s (effective_address s rs n))
      ∙ put_on s rt _
  effect_on (row.Lbu rt n rs) s h = ap (put (on code place s) rt) (load_on s (effective_address s rs n)) ∙ put_on s rt _
  effect_on (row.Lw rt n rs) s h = ap (put (on code place s) rt) (load_word_on s (effective_address s rs n)) ∙ put_on s rt _
  effect_on (row.Sb rt n rs) s h = ap stored (store_on s (effective_address s rs n) (register s rt)) ∙ went_on _
  effect_on (row.Sw rt n rs) s h = ap stored (store_word_on s (effective_address s rs n) (register s rt)) ∙ went_on _
  effect_on (row.J n) s h = absurd h
  effect_on (row.Jal n) s h = absurd h
  effect_on (row.Jr rs) s h = absurd h
  effect_on (row.Jalr rd rs) s h = absurd h
  effect_on (row.Beq rs rt n) s h = absurd h
  effect_on (row.Bne rs rt n) s h = absurd h
  effect_on (row.Blez rs n) s h = absurd h
  effect_on (row.Bgtz rs n) s h = absurd h
  effect_on (row.Bltz rs n) s h = absurd h
  effect_on (row.Bgez rs n) s h = absurd h
  effect_on (row.Sll rd rt n) s h = ap Goes (set_on s rd _)
  effect_on (row.Srl rd rt n) s h = ap Goes (set_on s rd _)
  effect_on (row.Sra rd rt n) s h = ap Goes (set_on s rd _)
  effect_on (row.Mfhi rd) s h = ap Goes (set_on s rd _)
  effect_on (row.Mflo rd) s h = ap Goes (set_on s rd _)
  effect_on (row.Addu rd rs rt) s h = ap Goes (set_on s rd _)
  effect_on (row.Subu rd rs rt) s h = ap Goes (set_on s rd _)
  effect_on (row.And rd rs rt) s h = ap Goes (set_on s rd _)
  effect_on (row.Or rd rs rt) s h = ap Goes (set_on s rd _)
  effect_on (row.Xor rd rs rt) s h = ap Goes (set_on s rd _)
  effect_on (row.Nor rd rs rt) s h = ap Goes (set_on s rd _)
  effect_on (row.Slt rd rs rt) s h = ap Goes (set_on s rd _)
  effect_on (row.Sltu rd rs rt) s h = ap Goes (set_on s rd _)
  effect_on (row.Addiu rt rs n) s h = ap Goes (set_on s rt _)
  effect_on (row.Slti rt rs n) s h = ap Goes (set_on s rt _)
  effect_on (row.Sltiu rt rs n) s h = ap Goes (set_on s rt _)
  effect_on (row.Andi rt rs n) s h = ap Goes (set_on s rt _)
  effect_on (row.Ori rt rs n) s h = ap Goes (set_on s rt _)
  effect_on (row.Xori rt rs n) s h = ap Goes (set_on s rt _)
  effect_on (row.Lui rt n) s h = ap Goes (set_on s rt _)

pub effects_are_anywhere : EffectsAreAnywhere
effects_are_anywhere = effect_on
