-- What a block is charged besides: where no call stands in it but at its end, a run through it is dearer by its units at most.
use Rattle.std.proofs.Common.{ℕ, ◌≡◌, ◌+◌, Bool, true, false, List, [], ◌∷◌, length, nat_lt, sym, subst, arith}
use Rattle.std.proofs.Common.{◌⊎◌, inl, inr, Option, Some, None}
use Rattle.std.specs.Prelude.{◌%◌, ◌==◌, if◌then◌else◌}
use Rattle.std.specs.Fmt.{signed_decimal}
use Rattle.tg_machine_state.specs.declared.ends.RunEnd.TheVariants.{HeapFull}
use Rattle.tg_base.specs.Words.{add, signed}
use Rattle.tg_machine_state.specs.Services.{whole_words}
use Rattle.tg_simulation.specs.Runs.{Run}
use Rattle.tg_simulation.specs.Ran.{Ran, Ended}
use Rattle.tg_tree.specs.Tree.{Literal}
use Rattle.tg_tree.specs.Memory.{Memory, put, slot, literal_address}
use Rattle.tg_tree.specs.Operators.{Given, word, stops_by, holds}
use Rattle.tg_tree.specs.Actions.{World, over, wrong, written, charged, with_word, with_given, with_memory, with_text}
use Rattle.tg_tree.specs.Actions.{read_byte, service}
use Rattle.tg_instr.specs.declared.operands.Opnd.{Opnd}
use Rattle.tg_instr.specs.declared.operands.Opnd.TheVariants.{Reg}
use Rattle.tg_instr.specs.declared.instr.Instr.{Instr}
use Rattle.tg_instr.specs.Operands.{is_same}
use Rattle.tg_instr.specs.Shapes.{Operand, Hi, Lo, InstructionShape, From0, From1, From2, Halves, Copy, Loads, Stores, FromSlot, ToSlot, Base, AddressOf}
use Rattle.tg_instr.specs.Shapes.{Here, Goes, Tests, Calls, Asks, Fails, Returns, shape}
use Rattle.tg_instr.specs.Contents.{Content, Nothing, Word, Found, Contents, set, held, cell_of, content_of}
use Rattle.tg_instr.specs.Meaning.{Next, Enter, Around, act, with_content_word, with_content, put_in, jump, skip}
use Rattle.tg_regalloc_proof.specs.Blocks.{Charge, spent}
use Rattle.tg_regalloc_proof.proofs.Simulating.{IsDearer, does_itself, writes_too}

abbrev pub IsNoCall : InstructionShape → Type 0
IsNoCall (Calls label) = ⊥
IsNoCall _ = Unit {0}

-- a call is the last instruction, if any
abbrev pub CallsLast : List Instr → Type 0
CallsLast [] = Unit {0}
CallsLast (x ∷ xs) = ((xs ≡ []) ⊎ IsNoCall (shape x)) × CallsLast xs

module _ (k : ℕ) where
  still : (c : Run Ran) → IsDearer k c c
  still c = λ n. does_itself k (c n)

  dearer_word : (o : Option ℕ) (w : World) (p q : ℕ → Run Ran) → ((v : ℕ) → IsDearer k (p v) (q v)) →
      IsDearer k (with_word o w p) (with_word o w q)
  dearer_word None w p q h = still (wrong w)
  dearer_word (Some v) w p q h = h v

  dearer_given : (g : Given) (w : World) (p q : ℕ → Run Ran) → ((v : ℕ) → IsDearer k (p v) (q v)) →
      IsDearer k (with_given g w p) (with_given g w q)
  dearer_given (word v) w p q h = h v
  dearer_given (stops_by stop) w p q h = still (over stop w)

  dearer_memory : (o : Option Memory) (w : World) (p q : World → Run Ran) → ((v : World) → IsDearer k (p v) (q v)) →
      IsDearer k (with_memory o w p) (with_memory o w q)
  dearer_memory None w p q h = still (wrong w)
  dearer_memory (Some m) w p q h = h (record w { memory = m })

  dearer_content_word : (c : Content) (w : World) (p q : ℕ → Run Ran) → ((v : ℕ) → IsDearer k (p v) (q v)) →
      IsDearer k (with_content_word c w p) (with_content_word c w q)
  dearer_content_word (Word v) w p q h = h v
  dearer_content_word Nothing w p q h = still (wrong w)
  dearer_content_word (Found r) w p q h = still (wrong w)

  dearer_content : (c : Content) (w : World) (p q : Content → Run Ran) → ((d : Content) → IsDearer k (p d) (q d)) →
      IsDearer k (with_content c w p) (with_content c w q)
  dearer_content (Word v) w p q h = h (Word v)
  dearer_content Nothing w p q h = still (wrong w)
  dearer_content (Found r) w p q h = h (Found r)

  dearer_test : (b : Bool) (c d c' d' : Run Ran) → IsDearer k c c' → IsDearer k d d' →
      IsDearer k (if b then c else d) (if b then c' else d')
  dearer_test true c d c' d' h i = h
  dearer_test false c d c' d' h i = i

  dearer_writing : (bytes : List ℕ) (c d : Run Ran) → IsDearer k c d → IsDearer k (written bytes c) (written bytes d)
  dearer_writing bytes c d h = λ n. writes_too k bytes (c n) (d n) (h n)

  dearer_text : (o : Option (List ℕ)) (w : World) (c d : Run Ran) → IsDearer k c d → IsDearer k (with_text o w c) (with_text o w d)
  dearer_text None w c d h = still (wrong w)
  dearer_text (Some bytes) w c d h = dearer_writing bytes c d h

  module _ (p q : ℕ → World → Run Ran) (h : (v : ℕ) (w : World) → IsDearer k (p v w) (q v w)) where
    dearer_reading : (l : List ℕ) (w : World) → IsDearer k (read_byte l w p) (read_byte l w q)
    dearer_reading [] w = h 4294967295 w
    dearer_reading (b ∷ rest) w = h b (record w { input = rest })

    dearer_service : (room asked u : ℕ) (w : World) → IsDearer k (service room asked u w p) (service room asked u w q)
    dearer_service room asked u w =
        dearer_test (asked == 1) _ _ _ _ (dearer_writing (signed_decimal (signed u)) _ _ (h asked w))
        (dearer_test (asked == 4) _ _ _ _ (dearer_text _ w _ _ (h asked w))
        (dearer_test (asked == 9) _ _ _ _
        (dearer_test (nat_lt room (length w.memory.heap + whole_words u)) _ _ _ _ (still (over (Ended HeapFull) w)) (h _ _))
        (dearer_test (asked == 10) _ _ _ _ (still _)
        (dearer_test (asked == 11) _ _ _ _ (dearer_writing (u % 256 ∷ []) _ _ (h asked w))
        (dearer_test (asked == 12) _ _ _ _ (dearer_reading w.input w)
        (dearer_test (asked == 17) _ _ _ _ (still _) (still _)))))))

  -- one instruction that is no call, where what comes next is dearer
  module _
      (room : ℕ) (literals : List Literal) (enter : Enter) (e : Around) (next next' : Next)
      (onward : (w : World) (s : Contents) → IsDearer k (next w s) (next' w s)) where
    dearer_put : (to : Opnd) (c : Content) (w : World) (s : Contents) → IsDearer k (put_in to c e next w s) (put_in to c e next' w s)
    dearer_put to c w s = dearer_test (is_same to (Reg 29)) _ _ _ _ (still (wrong w)) (onward w (set (Operand to) c s))

    dearer_jump : (b : Bool) (m : ℕ) (w : World) (s : Contents) →
        IsDearer k ((if b then jump m else skip) e next w s) ((if b then jump m else skip) e next' w s)
    dearer_jump true m w s = still (e.jumps m w s)
    dearer_jump false m w s = onward w s

    dearer_act : (q : InstructionShape) → IsNoCall q → (w : World) (s : Contents) →
        IsDearer k (act room literals enter q e next w s) (act room literals enter q e next' w s)
    dearer_act (From0 to n) h w s = dearer_put to (Word n) w s
    dearer_act (From1 to from f) h w s =
        dearer_content_word (held e.activation s from) w _ _ (λ u. dearer_given (f u) w _ _ (λ r. dearer_put to (Word r) w s))
    dearer_act (From2 to left right f) h w s =
        dearer_content_word (held e.activation s (Operand left)) w _ _ (λ u.
        dearer_content_word (held e.activation s (Operand right)) w _ _ (λ v.
        dearer_given (f u v) w _ _ (λ r. dearer_put to (Word r) w s)))
    dearer_act (Halves left right low high) h w s =
        dearer_content_word (held e.activation s (Operand left)) w _ _ (λ u.
        dearer_content_word (held e.activation s (Operand right)) w _ _ (λ v.
        dearer_given (low u v) w _ _ (λ l. dearer_given (high u v) w _ _ (λ t. onward w (set Lo (Word l) (set Hi (Word t) s))))))
    dearer_act (Copy to from) h w s = dearer_content (held e.activation s (Operand from)) w _ _ (λ c. dearer_put to c w s)
    dearer_act (Loads to base n f) h w s =
        dearer_content_word (held e.activation s (Operand base)) w _ _ (λ u.
        dearer_word (f w.memory (add u n)) w _ _ (λ v. dearer_put to (Word v) w s))
    dearer_act (Stores from base n f) h w s =
        dearer_content_word (held e.activation s (Operand base)) w _ _ (λ u.
        dearer_content_word (held e.activation s (Operand from)) w _ _ (λ v.
        dearer_memory (f w.memory (add u n) v) w _ _ (λ x. onward x s)))
    dearer_act (FromSlot to j) h w s =
        dearer_test (nat_lt j e.slots) _ _ _ _
        (dearer_content (content_of (w.memory.stack (slot e.activation.base j))) w _ _ (λ c. dearer_put to c w s)) (still (wrong w))
    dearer_act (ToSlot from j) h w s =
        dearer_content (held e.activation s (Operand from)) w _ _ (λ c.
        dearer_test (nat_lt j e.slots) _ _ _ _
        (onward (record w { memory = put (slot e.activation.base j) (cell_of c) w.memory }) s) (still (wrong w)))
    dearer_act (Base to) h w s = dearer_put to (Word e.activation.base) w s
    dearer_act (AddressOf to label) h w s = dearer_word (literal_address literals label) w _ _ (λ v. dearer_put to (Word v) w s)
    dearer_act (Here m) h w s = onward w s
    dearer_act (Goes m) h w s = still (e.jumps m w s)
    dearer_act (Tests rel left right m) h w s =
        dearer_content_word (held e.activation s (Operand left)) w _ _ (λ u.
        dearer_content_word (held e.activation s (Operand right)) w _ _ (λ v. dearer_jump (holds rel u v) m w s))
    dearer_act (Calls label) h w s = absurd h
    dearer_act Asks h w s =
        dearer_content_word (held e.activation s (Operand (Reg 2))) w _ _ (λ n.
        dearer_content_word (held e.activation s (Operand (Reg 4))) w _ _ (λ u.
        dearer_service _ _ (λ v x. onward x (set (Operand (Reg 2)) (Word v) s)) room n u w))
    dearer_act (Fails n) h w s = still _
    dearer_act Returns h w s = still _

-- A block with what it is charged, and without.
module _ (room : ℕ) (literals : List Literal) (enter : Enter) (e : Around) where
  abbrev pub runs_free : List Instr → Next → Next
  runs_free [] next w s = next w s
  runs_free (x ∷ xs) next w s = act room literals enter (shape x) e (λ w1 s1. runs_free xs next w1 s1) w s

module _ (charge : Charge) (room : ℕ) (literals : List Literal) (enter : Enter) (e : Around) where
  abbrev free : List Instr → Next → Next
  free = runs_free room literals enter e

  abbrev pub runs_charged : (left : ℕ) → List Instr → Next → Next
  runs_charged left [] next w s = next w s
  runs_charged left (x ∷ xs) next w s =
      charged (charge (length xs + left) x) (act room literals enter (shape x) e (λ w1 s1. runs_charged left xs next w1 s1) w s)

  pub block_is_dearer : (left : ℕ) (block : List Instr) → CallsLast block → (next : Next) (w : World) (s : Contents) →
      IsDearer (spent charge left block) (free block next w s) (runs_charged left block next w s)
  block_is_dearer left [] h next w s = still 0 (next w s)
  block_is_dearer left (x ∷ xs) h next w s = by h.0 (λ w1 s1. block_is_dearer left xs h.1 next w1 s1)
    where
      with_charge : (u k : ℕ) (c d : Run Ran) → IsDearer k c d → IsDearer (u + k) c (charged u d)
      with_charge u k c d i n = let j = i n in let a = j.work in
          record { output = j.output; input = j.input; stop = j.stop; work = omega arith }

      by : ((xs ≡ []) ⊎ IsNoCall (shape x)) →
          ((w1 : World) (s1 : Contents) → IsDearer (spent charge left xs) (free xs next w1 s1) (runs_charged left xs next w1 s1)) →
          IsDearer (charge (length xs + left) x + spent charge left xs)
          (act room literals enter (shape x) e (λ w1 s1. free xs next w1 s1) w s)
          (charged (charge (length xs + left) x) (act room literals enter (shape x) e (λ w1 s1. runs_charged left xs next w1 s1) w s))
      by (inl none) rest =
          with_charge (charge (length xs + left) x) (spent charge left xs) _ _
          (subst (λ l. IsDearer (spent charge left l) (act room literals enter (shape x) e (λ w1 s1. free l next w1 s1) w s)
          (act room literals enter (shape x) e (λ w1 s1. runs_charged left l next w1 s1) w s)) (sym none) (still 0 _))
      by (inr no_call) rest =
          with_charge (charge (length xs + left) x) (spent charge left xs) _ _
          (dearer_act (spent charge left xs) room literals enter e _ _ rest
          (shape x) no_call w s)
