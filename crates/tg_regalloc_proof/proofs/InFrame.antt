-- With every temporary in a slot of its own the code keeps the meaning.
use Rattle.std.proofs.Common.{ℕ, ◌≡◌, ◌+◌, ◌<◌, ◌≤◌, ◌==◌, Bool, true, false, List, [], ◌∷◌, ◌++◌, nat_lt}
use Rattle.std.proofs.Common.{refl, sym, ap, ◌∙◌, subst, Option, Some, None, true≢false, arith}
use Rattle.std.specs.Prelude.{map}
use Rattle.std.specs.List.{AllByRecursion}
use Rattle.std.proofs.lemmas.Bool.{eqb-true, lt-ltb, ltb-true}
use Rattle.tg_tree.specs.Tree.{Function}
use Rattle.tg_instr.specs.declared.operands.Opnd.{Opnd}
use Rattle.tg_instr.specs.declared.operands.Opnd.TheVariants.{Temp, Reg}
use Rattle.tg_instr.specs.declared.instr.Instr.{Instr}
use Rattle.tg_instr.specs.declared.instr.Instr.TheVariants.{Branch, Move}
use Rattle.tg_instr.specs.Operands.{is_same, is_zero}
use Rattle.tg_instr.specs.Renaming.{named, renamed, stays_one_row}
use Rattle.tg_instr.specs.Shapes.{shape}
use Rattle.tg_instr.proofs.Same.{same_itself}
use Rattle.tg_regalloc.specs.mirror.InFrame.{through, through_named, loaded, stored, through_slots, moved, instruction_in_frame}
use Rattle.tg_regalloc.specs.mirror.InFrame.{code_in_frame}
use Rattle.tg_regalloc_proof.specs.Blocks.{code_of}
use Rattle.tg_regalloc_proof.specs.Keeping.{Keeps}
use Rattle.tg_regalloc_proof.specs.Named.{to_of, first_of, second_of}
use Rattle.tg_regalloc_proof.specs.Places.{IsTemp, Place, In, At, are_one, IsPlainPlace, IsClear, fetched, kept, through as through_place}
use Rattle.tg_regalloc_proof.specs.Places.{fetched_for, kept_for, through_for, Needs, NeedsFor, IsBlock, around, load, store, both}
use Rattle.tg_regalloc_proof.specs.Places.{Stands, nothing, a_block}
use Rattle.tg_regalloc_proof.specs.laws.Replaced.{living, Replaced}
use Rattle.tg_regalloc_proof.proofs.Living.{beside_differ}
use Rattle.tg_regalloc_proof.proofs.Kept.{replaced_keeps}
use Rattle.tg_regalloc_proof.proofs.Frames.{HasItsFrame}
use Rattle.tg_regalloc_proof.proofs.Named.{IsLow, renamed_shape, reshaped_same, row_stays, named_to, named_first}
use Rattle.tg_regalloc_proof.proofs.Named.{named_second}

-- The slots from `base` on are of the temporaries below `temps`.
module _ (base temps : ℕ) where
  abbrev own_slot : Bool → Opnd → (number : ℕ) → Place
  own_slot true x n = At (base + n)
  own_slot false x n = In x

  abbrev pub frame_place : Opnd → Place
  frame_place (Temp t) = own_slot (nat_lt t.0 temps) (Temp t) t.0
  frame_place (Reg r) = In (Reg r)

  low_at : (t : Opnd) (n : ℕ) → n < temps → own_slot (nat_lt n temps) t n ≡ At (base + n)
  low_at t n h = ap (λ b. own_slot b t n) (lt-ltb n temps h)

  abbrev AllLow : Option Opnd → Type 0
  AllLow op = (o : Opnd) → op ≡ Some o → IsLow temps o

  loads_are : (r : ℕ) (op : Option Opnd) → AllLow op → fetched_for frame_place (Reg r) op ≡ loaded base r op
  loads_are r None low = refl
  loads_are r (Some (Reg q)) low = refl
  loads_are r (Some (Temp t)) low = ap (λ p. fetched (Reg r) p) (low_at (Temp t) t.0 (low (Temp t) refl))

  stores_are : (r : ℕ) (op : Option Opnd) → AllLow op → kept_for frame_place (Reg r) op ≡ stored base r op
  stores_are r None low = refl
  stores_are r (Some (Reg q)) low = refl
  stores_are r (Some (Temp t)) low = ap (λ p. kept (Reg r) p) (low_at (Temp t) t.0 (low (Temp t) refl))

  operand_is : (r : ℕ) (op : Option Opnd) → AllLow op → through_named r op ≡ through_for frame_place (Reg r) op
  operand_is r None low = refl
  operand_is r (Some (Reg q)) low = refl
  operand_is r (Some (Temp t)) low = sym (ap (λ p. through_place (Reg r) p) (low_at (Temp t) t.0 (low (Temp t) refl)))

  zero_through : (right : Opnd) (r : ℕ) → is_zero right ≡ true → is_zero (through r right) ≡ true
  zero_through (Reg q) r h = h
  zero_through (Temp t) r h = absurd (true≢false (sym h))

  row_through : (x : Instr) → stays_one_row x (through_named 8 (named x).first) (through_named 9
      (named x).second) ≡ true
  row_through (Branch test m) = row_stays test.rel test.left test.right _ _ test.is_one_row (λ z.
      zero_through test.right 9 z)
  row_through _ = refl

  -- what an instruction names is below `temps`
  pub record NamesLow (x : Instr) : Type 0 where
    pub to : AllLow (named x).to
    pub first : AllLow (named x).first
    pub second : AllLow (named x).second

  module _ (B : Opnd → Type 0) (free0 : (x : Opnd) → B x → is_same x (Reg 8) ≡ false) (free1 : (x : Opnd) → B x →
      is_same x (Reg 9) ≡ false) where
    clear0 : (x : Opnd) → B x → IsClear (Reg 8) (frame_place x)
    clear0 (Temp t) l = by (nat_lt t.0 temps)
      where
        by : (b : Bool) → IsClear (Reg 8) (own_slot b (Temp t) t.0)
        by true = tt
        by false = refl
    clear0 (Reg r) l = free0 (Reg r) l

    clear1 : (x : Opnd) → B x → IsClear (Reg 9) (frame_place x)
    clear1 (Temp t) l = by (nat_lt t.0 temps)
      where
        by : (b : Bool) → IsClear (Reg 9) (own_slot b (Temp t) t.0)
        by true = tt
        by false = refl
    clear1 (Reg r) l = free1 (Reg r) l

    needed0 : (p : Place) → Needs frame_place B (Reg 8) p
    needed0 (In y) = tt
    needed0 (At k) = ((refl, refl), clear0)

    needed1 : (p : Place) → Needs frame_place B (Reg 9) p
    needed1 (In y) = tt
    needed1 (At k) = ((refl, refl), clear1)

    needed0_for : (op : Option Opnd) → NeedsFor frame_place B (Reg 8) op
    needed0_for None = tt
    needed0_for (Some o) = needed0 (frame_place o)

    needed1_for : (op : Option Opnd) → NeedsFor frame_place B (Reg 9) op
    needed1_for None = tt
    needed1_for (Some o) = needed1 (frame_place o)

    through_block : (x : Instr) → NamesLow x → IsBlock frame_place B x (through_slots base x (named x))
    through_block x low =
        subst (λ l. IsBlock frame_place B x l)
        (λ i.
        (ap (λ op. fetched_for frame_place (Reg 8) op) (sym (named_first x)) ∙ loads_are 8
        (named x).first low.first) i
        ++ ((ap (λ op. fetched_for frame_place (Reg 9) op) (sym (named_second x)) ∙ loads_are 9
        (named x).second low.second) i
        ++ (renamed x (through_named 8 (named x).to) (through_named 8 (named x).first) (through_named 9
        (named x).second)
        ∷ (ap (λ op. kept_for frame_place (Reg 8) op) (sym (named_to x)) ∙ stores_are 8 (named x).to low.to) i)))
        (around (Reg 8) (Reg 8) (Reg 9)
        (record {
          to = needed0_for (to_of (shape x));
          first = needed0_for (first_of (shape x));
          second = needed1_for (second_of (shape x));
          apart = λ o k h e. refl;
        }) _
        (renamed_shape x _ _ _ (row_through x)
        ∙ reshaped_same (shape x) _ _ _ _ _ _
        (λ d h. operand_is 8 (named x).to low.to ∙ ap (λ op. through_for frame_place (Reg 8) op) (named_to x))
        (λ o h. operand_is 8 (named x).first low.first ∙ ap (λ op. through_for frame_place (Reg 8) op)
        (named_first x))
        (λ o h. operand_is 9 (named x).second low.second ∙ ap (λ op. through_for frame_place (Reg 9) op)
        (named_second x))))

    move_block : (d o : Opnd) → IsLow temps d → IsLow temps o → IsBlock frame_place B (Move d o) (moved base d o)
    move_block (Temp t) (Temp s) ld lo =
        both (Temp t) (Temp s) (Reg 8) (base + s.0) (base + t.0) refl (refl, refl) clear0 (low_at (Temp t) t.0 ld)
        (low_at (Temp s) s.0 lo)
    move_block (Temp t) (Reg q) ld lo = store (Temp t) (Reg q) (Reg q) (base + t.0) refl (low_at (Temp t) t.0 ld) refl
    move_block (Reg r) (Temp s) ld lo = load (Reg r) (Temp s) (Reg r) (base + s.0) refl refl (low_at (Temp s) s.0 lo)
    move_block (Reg r) (Reg q) ld lo =
        around (Reg 8) (Reg 8) (Reg 9) (record { to = tt; first = tt; second = tt; apart = λ o k h e. refl })
        (Move (Reg r) (Reg q)) refl

    frame_block : (x : Instr) → NamesLow x → IsBlock frame_place B x (instruction_in_frame base x)
    frame_block (Move d o) low = move_block d o (low.to d refl) (low.first o refl)
    frame_block x low = through_block x low

  frame_stands : (Live : List Instr → Opnd → Type 0) → ((l : List Instr) (x : Opnd) → Live l x → is_same x (Reg 8) ≡ false) →
      ((l : List Instr) (x : Opnd) → Live l x → is_same x (Reg 9) ≡ false) → (l : List Instr) → AllByRecursion NamesLow l →
      Stands frame_place Live l (map (instruction_in_frame base) l)
  frame_stands Live free0 free1 [] low = nothing
  frame_stands Live free0 free1 (x ∷ l) low =
      a_block x (instruction_in_frame base x) l (map (instruction_in_frame base) l)
      (frame_block (Live (x ∷ l)) (free0 (x ∷ l)) (free1 (x ∷ l)) x low.0) (frame_stands Live free0 free1 l low.1)

  code_of_each : (l : List Instr) → code_of (map (instruction_in_frame base) l) ≡ code_in_frame base l
  code_of_each [] = refl
  code_of_each (x ∷ l) = ap (λ r. instruction_in_frame base x ++ r) (code_of_each l)

  -- two operands have two places
  places_differ : (o d : Opnd) → is_same o d ≡ false → are_one (frame_place o) (frame_place d) ≡ false
  places_differ (Temp i) (Temp j) h = by (nat_lt i.0 temps) (nat_lt j.0 temps)
    where
      two : (b : Bool) → (base + i.0 == base + j.0) ≡ b → b ≡ false
      two true e =
          let same : base + i.0 ≡ base + j.0 = eqb-true (base + i.0) (base + j.0) e in let one : i.0 ≡ j.0 =
          omega arith in
          sym (ap (λ n. n == j.0) one ∙ both_same j.0) ∙ h
        where
          both_same : (n : ℕ) → (n == n) ≡ true
          both_same n = same_itself (Reg n)
      two false e = refl

      by : (b c : Bool) → are_one (own_slot b (Temp i) i.0) (own_slot c (Temp j) j.0) ≡ false
      by true true = two (base + i.0 == base + j.0) refl
      by true false = refl
      by false true = refl
      by false false = h
  places_differ (Temp i) (Reg q) h = by (nat_lt i.0 temps)
    where
      by : (b : Bool) → are_one (own_slot b (Temp i) i.0) (In (Reg q)) ≡ false
      by true = refl
      by false = refl
  places_differ (Reg r) (Temp j) h = by (nat_lt j.0 temps)
    where
      by : (b : Bool) → are_one (In (Reg r)) (own_slot b (Temp j) j.0) ≡ false
      by true = refl
      by false = refl
  places_differ (Reg r) (Reg q) h = h

  plain : (t : Opnd) → IsTemp t → IsPlainPlace (frame_place t)
  plain (Temp t) h = by (nat_lt t.0 temps)
    where
      by : (b : Bool) → IsPlainPlace (own_slot b (Temp t) t.0)
      by true = tt
      by false = tt
  plain (Reg r) h = absurd h

  in_not_at : (x : Opnd) (k : ℕ) → In x ≡ At k → ⊥
  in_not_at x k e = cc

  at_is : (j k : ℕ) → At j ≡ At k → j ≡ k
  at_is j k e = cc

  new_slots : (x : Opnd) (k : ℕ) → frame_place x ≡ At k → (base ≤ k) × (k < base + temps)
  new_slots (Reg r) k e = absurd (in_not_at (Reg r) k e)
  new_slots (Temp t) k e = by (nat_lt t.0 temps) refl e
    where
      by : (b : Bool) → nat_lt t.0 temps ≡ b → own_slot b (Temp t) t.0 ≡ At k → (base ≤ k) × (k < base + temps)
      by true h z = let l : t.0 < temps = ltb-true t.0 temps h in let same : base + t.0 ≡ k = at_is
          (base + t.0) k z in (omega arith, omega arith)
      by false h z = absurd (in_not_at (Temp t) k z)

-- What is asked of the code: it names temporaries below `temps`, and $t0 and $t1 are never live.
module _
    (f g : Function (List Instr)) (temps : ℕ) (frame : HasItsFrame f g temps) (body : g.body ≡ code_in_frame f.slots f.body)
    (low : AllByRecursion (NamesLow f.slots temps) f.body)
    (free0 : (l : List Instr) (x : Opnd) → living f.body l x → is_same x (Reg 8) ≡ false)
    (free1 : (l : List Instr) (x : Opnd) → living f.body l x → is_same x (Reg 9) ≡ false) where
  in_frame_replaced : Replaced f g
  in_frame_replaced =
      record {
        places = record { place = frame_place f.slots temps; fixed = λ r. refl; plain = plain f.slots temps };
        more = temps;
        label = frame.label;
        out = frame.out;
        slots = frame.slots;
        added_slots = new_slots f.slots temps;
        blocks = map (instruction_in_frame f.slots) f.body;
        whole = code_of_each f.slots temps f.body ∙ sym body;
        stands = frame_stands f.slots temps (living f.body) free0 free1 f.body low;
        apart = λ d o b. places_differ f.slots temps o d (beside_differ f.body d o b);
      }

  pub in_frame_keeps : Keeps (map (instruction_in_frame f.slots) f.body) f g
  unfolding in_frame_replaced
  in_frame_keeps = replaced_keeps f g in_frame_replaced
