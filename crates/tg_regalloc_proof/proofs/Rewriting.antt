-- The next code of a round keeps the meaning: what has a slot is loaded into a made temporary before and stored afterwards.
use Rattle.std.proofs.Common.{ℕ, ◌≡◌, ◌+◌, ◌<◌, ◌≤◌, true, false, List, [], ◌∷◌, ◌++◌, refl, sym, ap}
use Rattle.std.proofs.Common.{◌∙◌, subst, Option, Some, None, true≢false, arith}
use Rattle.tg_tree.specs.Tree.{Function}
use Rattle.tg_instr.specs.declared.operands.Opnd.{Opnd}
use Rattle.tg_instr.specs.declared.operands.Opnd.TheVariants.{Temp, Reg}
use Rattle.tg_instr.specs.declared.instr.Instr.{Instr}
use Rattle.tg_instr.specs.declared.instr.Instr.TheVariants.{Branch}
use Rattle.tg_instr.specs.Operands.{is_same, is_zero}
use Rattle.tg_instr.specs.Renaming.{named, renamed, stays_one_row}
use Rattle.tg_instr.specs.Shapes.{shape}
use Rattle.tg_live.specs.Interference.{IsDefinedBeside}
use Rattle.tg_regalloc.specs.Rewriting.{placed, loads, stores, drawn, target, first_use, second_use, next_after}
use Rattle.tg_regalloc.specs.Rewriting.{instruction_rewritten, code_rewritten}
use Rattle.tg_regalloc_proof.specs.Blocks.{Blocks, code_of}
use Rattle.tg_regalloc_proof.specs.Keeping.{Keeps}
use Rattle.tg_regalloc_proof.specs.Named.{to_of, first_of, second_of, reshaped}
use Rattle.tg_regalloc_proof.specs.Places.{IsTemp, Place, In, At, are_one, IsPlainPlace, IsClear, fetched_for, kept_for, through_for, Needs}
use Rattle.tg_regalloc_proof.specs.Places.{NeedsFor, IsBlock, around, Stands, nothing, a_block}
use Rattle.tg_regalloc_proof.specs.laws.Replaced.{living, Replaced}
use Rattle.tg_regalloc_proof.proofs.Kept.{replaced_keeps}
use Rattle.tg_regalloc_proof.proofs.Named.{IsLow, named_to, named_first, named_second, renamed_shape, reshaped_same, row_stays, not_equal}
use Rattle.tg_regalloc_proof.proofs.Frames.{HasItsFrame}

-- The slot of each temporary that has one.
module _ (slot_of : ℕ → Option ℕ) where
  abbrev pub at_slot : Opnd → Option ℕ → Place
  at_slot x None = In x
  at_slot x (Some k) = At k

  abbrev pub slot_place : Opnd → Place
  slot_place (Temp t) = at_slot (Temp t) (slot_of t.0)
  slot_place (Reg r) = In (Reg r)

  abbrev made : ℕ → Opnd
  made n = Temp (record { 0 = n })

  loads_are : (op : Option Opnd) (n : ℕ) → loads (placed slot_of op n).operand (placed slot_of op n).slot
      ≡ fetched_for slot_place (made n) op
  loads_are None n = refl
  loads_are (Some (Reg r)) n = refl
  loads_are (Some (Temp t)) n = by (slot_of t.0) refl
    where
      by : (s : Option ℕ) → slot_of t.0 ≡ s →
          loads (placed slot_of (Some (Temp t)) n).operand (placed slot_of (Some (Temp t)) n).slot
          ≡ fetched_for slot_place (made n) (Some (Temp t))
      by None e = rw (e) refl
      by (Some k) e = rw (e) refl

  stores_are : (op : Option Opnd) (n : ℕ) → stores (placed slot_of op n).operand (placed slot_of op n).slot
      ≡ kept_for slot_place (made n) op
  stores_are None n = refl
  stores_are (Some (Reg r)) n = refl
  stores_are (Some (Temp t)) n = by (slot_of t.0) refl
    where
      by : (s : Option ℕ) → slot_of t.0 ≡ s →
          stores (placed slot_of (Some (Temp t)) n).operand (placed slot_of (Some (Temp t)) n).slot
          ≡ kept_for slot_place (made n) (Some (Temp t))
      by None e = rw (e) refl
      by (Some k) e = rw (e) refl

  operand_is : (op : Option Opnd) (n : ℕ) (o : Opnd) → op ≡ Some o → (placed slot_of op n).operand
      ≡ through_for slot_place (made n) op
  operand_is None n o h = cc
  operand_is (Some (Reg r)) n o h = refl
  operand_is (Some (Temp t)) n o h = by (slot_of t.0) refl
    where
      by : (s : Option ℕ) → slot_of t.0 ≡ s → (placed slot_of (Some (Temp t)) n).operand ≡ through_for slot_place
          (made n) (Some (Temp t))
      by None e = rw (e) refl
      by (Some k) e = rw (e) refl

  one_drawn : (op : Option Opnd) (n : ℕ) (o : Opnd) (k : ℕ) → op ≡ Some o → slot_place o ≡ At k → drawn
      (placed slot_of op n) ≡ 1
  one_drawn None n o k h e = cc
  one_drawn (Some (Reg r)) n o k h e = absurd (never (let same : Reg r ≡ o = cc in ap slot_place same ∙ e))
    where
      never : In (Reg r) ≡ At k → ⊥
      never z = cc
  one_drawn (Some (Temp t)) n o k h e = by (slot_of t.0) refl (let same : Temp t ≡ o = cc in ap slot_place same ∙ e)
    where
      by : (s : Option ℕ) → slot_of t.0 ≡ s → slot_place (Temp t) ≡ At k → drawn (placed slot_of (Some
          (Temp t)) n) ≡ 1
      by None e z = absurd (never (ap (λ s. at_slot (Temp t) s) (sym e) ∙ z))
        where
          never : at_slot (Temp t) None ≡ At k → ⊥
          never z = cc
      by (Some j) e z = rw (e) refl

  zero_placed : (right : Opnd) (n : ℕ) → is_zero right ≡ true → is_zero (placed slot_of (Some right) n).operand ≡ true
  zero_placed (Reg r) n h = h
  zero_placed (Temp t) n h = absurd (true≢false (sym h))

  row_placed : (x : Instr) (n : ℕ) → stays_one_row x (first_use slot_of x n).operand
      (second_use slot_of x n).operand ≡ true
  row_placed (Branch test m) n = row_stays test.rel test.left test.right _ _ test.is_one_row (λ z.
      zero_placed test.right _ z)
  row_placed _ n = refl

  clear : (temps n : ℕ) → temps ≤ n → (x : Opnd) → IsLow temps x → IsClear (made n) (slot_place x)
  clear temps n le (Reg r) h = refl
  clear temps n le (Temp t) h = by (slot_of t.0)
    where
      by : (s : Option ℕ) → IsClear (made n) (at_slot (Temp t) s)
      by None = not_equal t.0 n (omega arith)
      by (Some k) = tt

  needed : (B : Opnd → Type 0) (temps n : ℕ) → temps ≤ n → ((x : Opnd) → B x → IsLow temps x) →
      (op : Option Opnd) → NeedsFor slot_place B (made n) op
  needed B temps n le low None = tt
  needed B temps n le low (Some (Reg r)) = tt
  needed B temps n le low (Some (Temp t)) = by (slot_of t.0)
    where
      by : (s : Option ℕ) → Needs slot_place B (made n) (at_slot (Temp t) s)
      by None = tt
      by (Some k) = (tt, λ x l. clear temps n le x (low x l))

  module _ (B : Opnd → Type 0) (temps : ℕ) (low : (x : Opnd) → B x → IsLow temps x) (x : Instr) (n : ℕ)
      (le : temps ≤ n) where
    abbrev for_first : ℕ
    for_first = n + drawn (target slot_of x n)

    abbrev for_second : ℕ
    for_second = n + drawn (target slot_of x n) + drawn (first_use slot_of x n)

    apart : (o : Opnd) (k : ℕ) → first_of (shape x) ≡ Some o → slot_place o ≡ At k → is_same (made for_first)
        (made for_second) ≡ false
    apart o k h e =
        let d : drawn (first_use slot_of x n) ≡ 1 = one_drawn (named x).first for_first o k (named_first x ∙ h) e in
        not_equal for_first for_second (omega arith)

    has_shape :
        shape (renamed x (target slot_of x n).operand (first_use slot_of x n).operand
        (second_use slot_of x n).operand)
        ≡ reshaped (shape x) (through_for slot_place (made n) (to_of (shape x))) (through_for slot_place
        (made for_first) (first_of (shape x)))
        (through_for slot_place (made for_second) (second_of (shape x)))
    has_shape =
        renamed_shape x _ _ _ (row_placed x n)
        ∙ reshaped_same (shape x) _ _ _ _ _ _
        (λ d h. operand_is (named x).to n d (named_to x ∙ h) ∙ ap (λ op. through_for slot_place (made n) op)
        (named_to x))
        (λ o h. operand_is (named x).first for_first o (named_first x ∙ h) ∙ ap (λ op. through_for slot_place
        (made for_first) op) (named_first x))
        (λ o h. operand_is (named x).second for_second o (named_second x ∙ h) ∙ ap (λ op. through_for slot_place
        (made for_second) op) (named_second x))

    rewritten_block : IsBlock slot_place B x (instruction_rewritten slot_of x n)
    rewritten_block =
        subst (λ l. IsBlock slot_place B x l)
        (λ i.
        (ap (λ op. fetched_for slot_place (made for_first) op) (sym (named_first x)) ∙ sym (loads_are
        (named x).first for_first)) i
        ++ ((ap (λ op. fetched_for slot_place (made for_second) op) (sym (named_second x)) ∙ sym (loads_are
        (named x).second for_second)) i
        ++ (renamed x (target slot_of x n).operand (first_use slot_of x n).operand (second_use slot_of x n).operand
        ∷ (ap (λ op. kept_for slot_place (made n) op) (sym (named_to x)) ∙ sym (stores_are (named x).to n)) i)))
        (around (made n) (made for_first) (made for_second)
        (record {
          to = needed B temps n le low (to_of (shape x));
          first = needed B temps for_first (omega arith) low (first_of (shape x));
          second = needed B temps for_second (omega arith) low (second_of (shape x));
          apart = apart;
        }) _ has_shape)

  -- the block of each instruction
  abbrev pub each_rewritten : List Instr → (next : ℕ) → Blocks
  each_rewritten [] n = []
  each_rewritten (x ∷ l) n = instruction_rewritten slot_of x n ∷ each_rewritten l (next_after slot_of x n)

  code_of_each : (l : List Instr) (n : ℕ) → code_of (each_rewritten l n) ≡ code_rewritten slot_of l n
  code_of_each [] n = refl
  code_of_each (x ∷ l) n = ap (λ r. instruction_rewritten slot_of x n ++ r) (code_of_each l (next_after slot_of x n))

  rewritten_stands : (Live : List Instr → Opnd → Type 0) (temps : ℕ) → ((l : List Instr) (x : Opnd) → Live l x →
      IsLow temps x) →
      (l : List Instr) (n : ℕ) → temps ≤ n → Stands slot_place Live l (each_rewritten l n)
  rewritten_stands Live temps low [] n le = nothing
  rewritten_stands Live temps low (x ∷ l) n le =
      a_block x (instruction_rewritten slot_of x n) l (each_rewritten l (next_after slot_of x n))
      (rewritten_block (Live (x ∷ l)) temps (low (x ∷ l)) x n le) (rewritten_stands Live temps low l
      (next_after slot_of x n) (omega arith))

  -- What a round says: the slots that it takes are new ones, what is live is below `temps`, and what is defined
  -- beside something live that has
  -- a slot or none is of another class, so stands in another place.
  module _
      (f g : Function (List Instr)) (temps more : ℕ) (frame : HasItsFrame f g more)
      (body : g.body ≡ code_rewritten slot_of f.body temps)
      (added : (t k : ℕ) → slot_of t ≡ Some k → (f.slots ≤ k) × (k < f.slots + more))
      (low : (l : List Instr) (x : Opnd) → living f.body l x → IsLow temps x)
      (beside : (d o : Opnd) → IsDefinedBeside f.body d o → are_one (slot_place o) (slot_place d) ≡ false) where
    plain : (t : Opnd) → IsTemp t → IsPlainPlace (slot_place t)
    plain (Temp t) h = by (slot_of t.0)
      where
        by : (s : Option ℕ) → IsPlainPlace (at_slot (Temp t) s)
        by None = tt
        by (Some k) = tt
    plain (Reg r) h = absurd h

    new_slots : (x : Opnd) (k : ℕ) → slot_place x ≡ At k → (f.slots ≤ k) × (k < f.slots + more)
    new_slots (Reg r) k e = absurd (never e)
      where
        never : In (Reg r) ≡ At k → ⊥
        never z = cc
    new_slots (Temp t) k e = by (slot_of t.0) refl e
      where
        by : (s : Option ℕ) → slot_of t.0 ≡ s → at_slot (Temp t) s ≡ At k → (f.slots ≤ k) × (k < f.slots + more)
        by None h z = cc
        by (Some j) h z = added t.0 k (h ∙ (let same : j ≡ k = cc in ap (λ i. Some i) same))

    rewritten_replaced : Replaced f g
    rewritten_replaced =
        record {
          places = record { place = slot_place; fixed = λ r. refl; plain = plain };
          more = more;
          label = frame.label;
          out = frame.out;
          slots = frame.slots;
          added_slots = new_slots;
          blocks = each_rewritten f.body temps;
          whole = code_of_each f.body temps ∙ sym body;
          stands = rewritten_stands (living f.body) temps low f.body temps (omega arith);
          apart = beside;
        }

    pub rewriting_keeps : Keeps (each_rewritten f.body temps) f g
    unfolding rewritten_replaced
    rewriting_keeps = replaced_keeps f g rewritten_replaced
