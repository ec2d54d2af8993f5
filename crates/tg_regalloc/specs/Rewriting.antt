-- The code after a round that spills (George and Appel 1996, section 4; Appel, chapter 11): what
-- uses a temporary that went to a slot loads it before into a temporary of its own, and what
-- defines one stores it afterwards from a temporary of its own.
use Rattle.std.specs.Prelude.{ℕ, ◌+◌, nat_eq, nat_lt, Bool, Option, Some, None, List, [], ◌∷◌}
use Rattle.std.specs.Prelude.{◌++◌}
use Rattle.std.specs.Prelude.{filter, slice_index_or}
use Rattle.std.specs.List.{position}
use Rattle.std.specs.Option.{option_map}
use Rattle.tg_instr.specs.declared.operands.Opnd.{Opnd}
use Rattle.tg_instr.specs.declared.operands.Opnd.TheVariants.{Temp, Reg}
use Rattle.tg_instr.specs.declared.instr.Instr.{Instr}
use Rattle.tg_instr.specs.declared.instr.Instr.TheVariants.{FrameLoad, FrameStore}
use Rattle.tg_instr.specs.Renaming.{named, renamed}
use Rattle.tg_irc_definition.specs.declared.rounds.Round.{Round}
use Rattle.tg_regalloc.specs.declared.placing.Placed.{Placed}

-- Which classes go to slots.

-- the node of a temporary of the code that was handed in, or of a register, which none spills
abbrev pub is_original : (originals node : ℕ) → Bool
is_original originals x = nat_lt x (25 + originals)

-- The spilled classes that hold an original, in the order in which they were popped: such a class
-- stands under an original, so its node says so.
abbrev pub slotted : (originals : ℕ) → Round → List ℕ
slotted originals round = filter (is_original originals) round.spilled

-- the slot of a class among those that take slots in their order, from `base` on
abbrev pub slot_by : (classes : List ℕ) → (base class : ℕ) → Option ℕ
slot_by classes base x = option_map (λ k. base + k) (position (nat_eq x) classes)

-- the slots are taken in that order by all members of a class alike
abbrev pub slot_after : (originals base : ℕ) → Round → (temp : ℕ) → Option ℕ
slot_after originals base round t =
    slot_by (slotted originals round) base (slice_index_or round.aliases (25 + t) 0)

-- the slot of a temporary, by a list of them
abbrev pub slot_in : List (Option ℕ) → (temp : ℕ) → Option ℕ
slot_in slots t = slice_index_or slots t None

-- An operand, and what is loaded or stored for it.

abbrev pub staying : Opnd → Placed
staying x = record { operand = x; slot = None }

abbrev pub in_slot : (temp : ℕ) → Opnd → Option ℕ → Placed
in_slot temp x None = staying x
in_slot temp x (Some k) = record { operand = Temp (record { 0 = temp }); slot = Some k }

abbrev pub loads : Opnd → (slot : Option ℕ) → List Instr
loads x None = []
loads x (Some k) = FrameLoad x k ∷ []

abbrev pub stores : Opnd → (slot : Option ℕ) → List Instr
stores x None = []
stores x (Some k) = FrameStore x k ∷ []

-- the temporaries that are made for it
abbrev pub drawn_for : (slot : Option ℕ) → ℕ
drawn_for None = 0
drawn_for (Some k) = 1

abbrev pub drawn : Placed → ℕ
drawn p = drawn_for p.slot

-- The slot of each temporary that has one, and the number of the next temporary to be made: they
-- are numbered in the order of the text and, within one instruction, of its operands.
module _ (slot_of : ℕ → Option ℕ) where
  abbrev pub placed : Option Opnd → (next : ℕ) → Placed
  placed (Some (Temp t)) next = in_slot next (Temp t) (slot_of t.0)
  placed (Some (Reg r)) next = staying (Reg r)
  placed None next = staying (Reg 0)

  abbrev pub target : Instr → ℕ → Placed
  target one next = placed (named one).to next

  abbrev pub first_use : Instr → ℕ → Placed
  first_use one next = placed (named one).first (next + drawn (target one next))

  abbrev pub second_use : Instr → ℕ → Placed
  second_use one next =
      placed (named one).second (next + drawn (target one next) + drawn (first_use one next))

  abbrev pub next_after : Instr → ℕ → ℕ
  next_after one next =
      next + drawn (target one next) + drawn (first_use one next) + drawn (second_use one next)

  abbrev pub instruction_rewritten : Instr → ℕ → List Instr
  instruction_rewritten one next =
      let to = target one next in
      let first = first_use one next in
      let second = second_use one next in
      loads first.operand first.slot ++ (loads second.operand second.slot ++
      (renamed one to.operand first.operand second.operand ∷ stores to.operand to.slot))

  abbrev pub code_rewritten : List Instr → ℕ → List Instr
  code_rewritten [] next = []
  code_rewritten (one ∷ rest) next =
      instruction_rewritten one next ++ code_rewritten rest (next_after one next)

  abbrev pub temps_after : List Instr → ℕ → ℕ
  temps_after [] next = next
  temps_after (one ∷ rest) next = temps_after rest (next_after one next)
