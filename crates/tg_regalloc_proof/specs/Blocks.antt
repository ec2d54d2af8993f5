-- A code in which a block of instructions stands for each instruction of another, and what the
-- instructions of both are charged.
use Rattle.std.specs.Prelude.{ℕ, ◌+◌, ◌≤◌, List, [], ◌∷◌, ◌++◌, length, flat_map}
use Rattle.tg_instr.specs.declared.instr.Instr.{Instr}

-- a block for each instruction
abbrev pub Blocks : Type 0
Blocks = List (List Instr)

-- the code that they are, one after another
abbrev pub code_of : Blocks → List Instr
code_of blocks = flat_map (λ block. block) blocks

-- Blocks of the instructions of blocks.

-- what is left after so many
abbrev pub drop_as_many : List Instr → Blocks → Blocks
drop_as_many [] blocks = blocks
drop_as_many (one ∷ rest) [] = []
drop_as_many (one ∷ rest) (block ∷ blocks) = drop_as_many rest blocks

-- as many as there are instructions, in one
abbrev pub take_as_many : List Instr → Blocks → List Instr
take_as_many [] blocks = []
take_as_many (one ∷ rest) [] = []
take_as_many (one ∷ rest) (block ∷ blocks) = block ++ take_as_many rest blocks

-- where the second are the blocks of the code that the first are: what stands for each instruction
-- after both
abbrev pub regrouped : Blocks → Blocks → Blocks
regrouped [] inner = []
regrouped (block ∷ blocks) inner =
    take_as_many block inner ∷ regrouped blocks (drop_as_many block inner)

-- Charges.

-- the units that an instruction of a code is charged, told by how many are left after it
abbrev pub Charge : Type 0
Charge = (left : ℕ) → Instr → ℕ

-- the units of a block, with so many instructions left after it
abbrev pub spent : Charge → (left : ℕ) → List Instr → ℕ
spent charge left [] = 0
spent charge left (one ∷ rest) = charge (length rest + left) one + spent charge left rest

-- each instruction is charged at least what its block is
abbrev pub Covers : Charge → List Instr → Charge → Blocks → Type 0
Covers charge [] charge' [] = Unit {0}
Covers charge [] charge' (block ∷ blocks) = ⊥
Covers charge (one ∷ rest) charge' [] = ⊥
Covers charge (one ∷ rest) charge' (block ∷ blocks) =
    (spent charge' (length (code_of blocks)) block ≤ charge (length rest) one)
    × Covers charge rest charge' blocks
