-- Painting keeps the meaning: each temporary in the register of its colour, and a move within one register falls away.
use Rattle.std.proofs.Common.{ℕ, ◌≡◌, Bool, true, false, not, List, [], ◌∷◌, ◌++◌, refl, sym, ap, ◌∙◌}
use Rattle.std.proofs.Common.{subst, Option, Some, None, true≢false}
use Rattle.std.specs.Prelude.{if◌then◌else◌}
use Rattle.std.proofs.lemmas.Bool.{eqb-true}
use Rattle.tg_tree.specs.Tree.{Function}
use Rattle.tg_tree.specs.declared.operators.Rel.{Rel}
use Rattle.tg_tree.specs.declared.operators.Rel.TheVariants.{Equal, NotEqual, Below, NotBelow}
use Rattle.tg_instr.specs.declared.operands.Opnd.{Opnd}
use Rattle.tg_instr.specs.declared.operands.Opnd.TheVariants.{Temp, Reg}
use Rattle.tg_instr.specs.declared.instr.Instr.{Instr}
use Rattle.tg_instr.specs.declared.instr.Instr.TheVariants.{Move, Branch}
use Rattle.tg_instr.specs.Operands.{is_one_row, is_zero}
use Rattle.tg_instr.specs.Shapes.{Copy, shape}
use Rattle.tg_live.specs.Interference.{IsDefinedBeside}
use Rattle.tg_regalloc.specs.Painting.{register_of, is_idle, painted, instruction_painted, code_painted}
use Rattle.tg_regalloc.proofs.Painted.{unless_idle}
use Rattle.tg_regalloc_proof.specs.Blocks.{Blocks, code_of}
use Rattle.tg_regalloc_proof.specs.Keeping.{Keeps}
use Rattle.tg_regalloc_proof.specs.Named.{to_of, first_of, second_of, reshaped}
use Rattle.tg_regalloc_proof.specs.Places.{IsTemp, IsPlain, Place, In, At, are_one, IsPlainPlace, fetched_for, kept_for, through_for, NeedsFor}
use Rattle.tg_regalloc_proof.specs.Places.{IsBlock, around, falls_away, Stands, nothing, a_block}
use Rattle.tg_regalloc_proof.specs.laws.Replaced.{living, Replaced}
use Rattle.tg_regalloc_proof.proofs.Kept.{replaced_keeps}
use Rattle.tg_regalloc_proof.proofs.Named.{tested_shape}
use Rattle.tg_regalloc_proof.proofs.Frames.{HasItsFrame}

abbrev z0 : Opnd
z0 = Temp (record { 0 = 0 })

abbrev z1 : Opnd
z1 = Temp (record { 0 = 1 })

in_not_at : (x : Opnd) (k : ℕ) → In x ≡ At k → ⊥
in_not_at x k e = cc

-- For the colour of each temporary.
module _ (colour : ℕ → ℕ) where
  abbrev pub colour_place : Opnd → Place
  colour_place x = In (painted colour x)

  none_fetched : (z : Opnd) (op : Option Opnd) → fetched_for colour_place z op ≡ []
  none_fetched z None = refl
  none_fetched z (Some o) = refl

  none_kept : (z : Opnd) (op : Option Opnd) → kept_for colour_place z op ≡ []
  none_kept z None = refl
  none_kept z (Some o) = refl

  none_needed : (z : Opnd) (op : Option Opnd) (B : Opnd → Type 0) → NeedsFor colour_place B z op
  none_needed z None B = tt
  none_needed z (Some o) B = tt

  -- a test stays one row, since $zero stays
  row_painted : (rel : Rel) (left right : Opnd) → is_one_row rel left right ≡ true → is_one_row rel
      (painted colour left) (painted colour right) ≡ true
  row_painted Equal left right h = refl
  row_painted NotEqual left right h = refl
  row_painted Below left right h = absurd (true≢false (sym h))
  row_painted NotBelow left right h = absurd (true≢false (sym h))
  row_painted _ left right h = zero_painted right h
    where
      zero_painted : (right : Opnd) → is_zero right ≡ true → is_zero (painted colour right) ≡ true
      zero_painted (Reg r) h = h
      zero_painted (Temp t) h = absurd (true≢false (sym h))

  painted_shape : (x : Instr) →
      shape (instruction_painted colour x)
      ≡ reshaped (shape x) (through_for colour_place z0 (to_of (shape x))) (through_for colour_place z0 (first_of
      (shape x)))
      (through_for colour_place z1 (second_of (shape x)))
  painted_shape (Branch test m) =
      tested_shape test.rel (painted colour test.left) (painted colour test.right) _ refl test m
      (row_painted test.rel test.left test.right test.is_one_row)
  painted_shape _ = refl

  painted_block : (x : Instr) (B : Opnd → Type 0) → IsBlock colour_place B x (instruction_painted colour x ∷ [])
  painted_block x B =
      subst (λ l. IsBlock colour_place B x l)
      (ap (λ l. l ++ (fetched_for colour_place z1 (second_of (shape x)) ++ (instruction_painted colour x
      ∷ kept_for colour_place z0 (to_of (shape x)))))
      (none_fetched z0 (first_of (shape x)))
      ∙ (ap (λ l. l ++ (instruction_painted colour x ∷ kept_for colour_place z0 (to_of (shape x))))
      (none_fetched z1 (second_of (shape x)))
      ∙ ap (λ l. instruction_painted colour x ∷ l) (none_kept z0 (to_of (shape x)))))
      (around z0 z0 z1 (record {
        to = none_needed z0 _ B;
        first = none_needed z0 _ B;
        second = none_needed z1 _ B;
        apart = λ o k h e. refl;
      })
      (instruction_painted colour x) (painted_shape x))

  abbrev Idle : Instr → Type 0
  Idle x = (d : Opnd) × (o : Opnd) × (shape x ≡ Copy d o) × (colour_place d ≡ colour_place o)

  idle_move : (d o : Opnd) → is_idle (Move (painted colour d) (painted colour o)) ≡ true → colour_place d
      ≡ colour_place o
  idle_move (Temp i) (Temp j) h = ap (λ r. In (Reg r)) (eqb-true (register_of (colour i.0)) (register_of
      (colour j.0)) h)
  idle_move (Temp i) (Reg q) h = ap (λ r. In (Reg r)) (eqb-true (register_of (colour i.0)) q h)
  idle_move (Reg r) (Temp j) h = ap (λ r. In (Reg r)) (eqb-true r (register_of (colour j.0)) h)
  idle_move (Reg r) (Reg q) h = ap (λ r. In (Reg r)) (eqb-true r q h)

  idle_is : (x : Instr) → is_idle (instruction_painted colour x) ≡ true → Idle x
  idle_is (Move d o) h = (d, o, refl, idle_move d o h)
  idle_is _ h = absurd (true≢false (sym h))

  -- the block of each instruction
  abbrev pub each_painted : List Instr → Blocks
  each_painted [] = []
  each_painted (x ∷ l) = unless_idle colour x ∷ each_painted l

  joined : (b : Bool) (y : Instr) (ys : List Instr) → (if b then [] else y ∷ []) ++ ys ≡ (if not b then y ∷ ys else ys)
  joined true y ys = refl
  joined false y ys = refl

  code_of_each : (l : List Instr) → code_of (each_painted l) ≡ code_painted colour l
  code_of_each [] = refl
  code_of_each (x ∷ l) =
      ap (λ r. unless_idle colour x ++ r) (code_of_each l)
      ∙ joined (is_idle (instruction_painted colour x)) (instruction_painted colour x) (code_painted colour l)

  one_painted : (x : Instr) (B : Opnd → Type 0) → IsBlock colour_place B x (unless_idle colour x)
  one_painted x B = by (is_idle (instruction_painted colour x)) refl
    where
      by : (b : Bool) → is_idle (instruction_painted colour x) ≡ b →
          IsBlock colour_place B x (if b then [] else instruction_painted colour x ∷ [])
      by true e = let z = idle_is x e in falls_away z.0 z.1 z.2 z.3
      by false e = painted_block x B

  painted_stands : (Live : List Instr → Opnd → Type 0) (l : List Instr) → Stands colour_place Live l (each_painted l)
  painted_stands Live [] = nothing
  painted_stands Live (x ∷ l) = a_block x (unless_idle colour x) l (each_painted l) (one_painted x (Live (x ∷ l))) (painted_stands Live l)

  -- What the round says of the colours: their registers are neither $zero nor $sp, and what is defined beside
  -- something live has another.
  module _
      (f g : Function (List Instr)) (frame : HasItsFrame f g 0) (body : g.body ≡ code_painted colour f.body)
      (proper : (t : ℕ) → IsPlain (Reg (register_of (colour t))))
      (apart : (d o : Opnd) → IsDefinedBeside f.body d o → are_one (colour_place o) (colour_place d) ≡ false) where
    plain : (t : Opnd) → IsTemp t → IsPlainPlace (colour_place t)
    plain (Temp t) h = proper t.0
    plain (Reg r) h = absurd h

    painted_replaced : Replaced f g
    painted_replaced =
        record {
          places = record { place = colour_place; fixed = λ r. refl; plain = plain };
          more = 0;
          label = frame.label;
          out = frame.out;
          slots = frame.slots;
          added_slots = λ x k e. absurd (in_not_at (painted colour x) k e);
          blocks = each_painted f.body;
          whole = code_of_each f.body ∙ sym body;
          stands = painted_stands (living f.body) f.body;
          apart = apart;
        }

    pub painting_keeps : Keeps (each_painted f.body) f g
    unfolding painted_replaced
    painting_keeps = replaced_keeps f g painted_replaced
