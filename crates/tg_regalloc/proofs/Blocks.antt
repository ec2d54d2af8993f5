-- What stands, after rounds, for an instruction that was handed in: its block.
use Rattle.std.proofs.Common.{ℕ, ◌≡◌, ◌≤◌, ◌<◌, ◌+◌, List, [], ◌∷◌, ◌++◌, Bool, cond, Option, Some, None, length, ◌⊎◌}
use Rattle.std.specs.Prelude.{IsTrue, IsFalse, nat_lt, flat_map}
use Rattle.std.specs.List.{AllByRecursion}
use Rattle.tg_instr.specs.declared.operands.Opnd.{Opnd}
use Rattle.tg_instr.specs.declared.operands.Opnd.TheVariants.{Temp, Reg}
use Rattle.tg_instr.specs.declared.instr.Instr.{Instr}
use Rattle.tg_instr.specs.declared.instr.Instr.TheVariants.{Move, FrameLoad, FrameStore}
use Rattle.tg_instr.specs.declared.renaming.Named.{Named}
use Rattle.tg_instr.specs.Codes.{is_below}
use Rattle.tg_instr.specs.Renaming.{named}
use Rattle.tg_instr.specs.Lengths.{words_of}
use Rattle.tg_regalloc.specs.Rewriting.{next_after}
use Rattle.tg_regalloc.specs.laws.Growth.{most_steps, steps}
use Rattle.tg_regalloc.proofs.Renamed.{temp, is_move}

-- a register, or a temporary of the code that was handed in
abbrev pub is_outer : (originals : ℕ) → Opnd → Bool
is_outer n x = is_below n x

-- The temporaries of a code are below a number; and where the one move that a made one ends in has
-- another end that isn't made, that is its partner.
pub record Known : Type 0 where
  pub bound : ℕ
  pub partner : ℕ → Option Opnd

-- a made temporary whose moves end in made ones
pub record IsClosed (n : ℕ) (k : Known) (m : ℕ) : Type 0 where
  pub made : n ≤ m
  pub below : m < k.bound
  pub alone : k.partner m ≡ None

-- one whose moves end in this
pub record IsOpen (n : ℕ) (k : Known) (m : ℕ) (a : Opnd) : Type 0 where
  pub made : n ≤ m
  pub below : m < k.bound
  pub beside : k.partner m ≡ Some a
  pub outer : IsTrue (is_outer n a)

-- what no round rewrites again
pub data IsFinal (n : ℕ) (k : Known) : Instr → Type 0 where
  load : (m slot : ℕ) → IsClosed n k m → IsFinal n k (FrameLoad (temp m) slot)
  store : (m slot : ℕ) → IsClosed n k m → IsFinal n k (FrameStore (temp m) slot)
  between : (to from : ℕ) → IsClosed n k to → IsClosed n k from → IsFinal n k (Move (temp to) (temp from))

abbrev pub AreFinal : ℕ → Known → List Instr → Type 0
AreFinal n k list = AllByRecursion (IsFinal n k) list

-- an operand that was handed in, or a made one
pub data IsFit (n : ℕ) (k : Known) : Opnd → Type 0 where
  outer : (x : Opnd) → IsTrue (is_outer n x) → IsFit n k x
  closed : (m : ℕ) → IsClosed n k m → IsFit n k (temp m)

abbrev pub IsFitNamed : ℕ → Known → Option Opnd → Type 0
IsFitNamed n k (Some x) = IsFit n k x
IsFitNamed n k None = Unit {0}

-- the operands that an instruction names, and those that may still go to slots
abbrev pub count_of : Option Opnd → ℕ
count_of (Some x) = 1
count_of None = 0

abbrev pub operands : Named → ℕ
operands x = count_of x.to + count_of x.first + count_of x.second

abbrev pub outer_in : ℕ → Option Opnd → ℕ
outer_in n (Some (Temp t)) = cond (nat_lt t.0 n) 1 0
outer_in n (Some (Reg r)) = 0
outer_in n None = 0

abbrev pub outers : ℕ → Named → ℕ
outers n x = outer_in n x.to + outer_in n x.first + outer_in n x.second

-- what has come of an instruction that is no move
pub record IsCore (n : ℕ) (k : Known) (one core : Instr) : Type 0 where
  pub no_move : IsFalse (is_move core)
  pub words : words_of core ≡ words_of one
  pub steps : most_steps core ≡ most_steps one
  pub to : IsFitNamed n k (named core).to
  pub first : IsFitNamed n k (named core).first
  pub second : IsFitNamed n k (named core).second

-- The block of an instruction, and how many temporaries may still be made for it: an instruction
-- that is no move between loads and stores; a move as it was; one of which one end went to a slot;
-- or accesses and moves of made temporaries alone.
pub data IsBlock (n : ℕ) (k : Known) : Instr → List Instr → ℕ → Type 0 where
  straight :
      (one core : Instr) (before after : List Instr) →
      IsFalse (is_move one) →
      IsCore n k one core →
      AreFinal n k before →
      AreFinal n k after →
      length before + length after + outers n (named core) ≤ operands (named one) →
      IsBlock n k one (before ++ (core ∷ after)) (outers n (named core))
  whole : (to from x y : Opnd) → IsTrue (is_outer n x) → IsTrue (is_outer n y) → IsBlock n k (Move to from) (Move x y ∷ []) 4
  loaded : (to from a : Opnd) (m slot : ℕ) → IsOpen n k m a → IsBlock n k (Move to from) (FrameLoad (temp m) slot ∷ Move a (temp m) ∷ []) 3
  stored : (to from a : Opnd) (m slot : ℕ) → IsOpen n k m a → IsBlock n k (Move to from) (Move (temp m) a ∷ FrameStore (temp m) slot ∷ []) 3
  final : (to from : Opnd) (list : List Instr) → AreFinal n k list → length list ≤ 5 → steps list ≤ 13 → IsBlock n k (Move to from) list 0

-- a block for each instruction of a code
pub data AreBlocks (n : ℕ) (k : Known) : List Instr → List (List Instr) → ℕ → Type 0 where
  none : AreBlocks n k [] [] 0
  also :
      (one : Instr) (block rest : List Instr) (blocks : List (List Instr)) (left lefts : ℕ) →
      IsBlock n k one block left →
      AreBlocks n k rest blocks lefts →
      AreBlocks n k (one ∷ rest) (block ∷ blocks) (left + lefts)

-- the code that the blocks are
abbrev pub code_of : List (List Instr) → List Instr
code_of blocks = flat_map (λ block. block) blocks

-- What a round has to give slots to, so that blocks stay blocks.

abbrev pub slot_at : (ℕ → Option ℕ) → Opnd → Option ℕ
slot_at slot_of (Temp t) = slot_of t.0
slot_at slot_of (Reg r) = None

pub record IsSlotting (n : ℕ) (k : Known) (slot_of : ℕ → Option ℕ) : Type 0 where
  pub closed : (m : ℕ) → IsClosed n k m → slot_of m ≡ None
  pub beside : (m : ℕ) (a : Opnd) → IsOpen n k m a → (slot_of m ≡ None) ⊎ (slot_of m ≡ slot_at slot_of a)

-- Which temporaries have partners after a round.

abbrev pub unless_slotted : (slot : Option ℕ) → Opnd → Option Opnd
unless_slotted None a = Some a
unless_slotted (Some j) a = None

abbrev pub if_outer : ℕ → Opnd → Option Opnd
if_outer n a = cond (is_outer n a) (Some a) None

abbrev pub partner_between : ℕ → (to_slot from_slot : Option ℕ) → (to from : Opnd) → Option Opnd
partner_between n (Some j) None to from = if_outer n from
partner_between n None (Some j) to from = if_outer n to
partner_between n (Some i) (Some j) to from = None
partner_between n None None to from = None

module _ (n : ℕ) (slot_of : ℕ → Option ℕ) where
  abbrev pub partner_kept : Option Opnd → Option Opnd
  partner_kept None = None
  partner_kept (Some a) = unless_slotted (slot_at slot_of a) a

  -- the partner of each temporary that is made for an instruction
  abbrev pub partner_made : Instr → Option Opnd
  partner_made (Move to from) = partner_between n (slot_at slot_of to) (slot_at slot_of from) to from
  partner_made _ = None

  -- these are the partners of those that are made from a number on
  abbrev pub ArePartners : List Instr → (next : ℕ) → (ℕ → Option Opnd) → Type 0
  ArePartners [] next partner = Unit {0}
  ArePartners (one ∷ rest) next partner =
      ((m : ℕ) → next ≤ m → m < next_after slot_of one next → partner m ≡ partner_made one) ×
      ArePartners rest (next_after slot_of one next) partner

  pub record Follows (k k' : Known) : Type 0 where
    pub old : (m : ℕ) → m < k.bound → k'.partner m ≡ partner_kept (k.partner m)
    pub grows : k.bound ≤ k'.bound
