-- Where each temporary stands after the last round of allocation, as `alloc` tells it, and then the
-- code over registers (Appel, chapter 11).
use Rattle.std.specs.Prelude.{ℕ, suc, Bool, true, false, List, [], ◌∷◌, ◌++◌, codes}
use Rattle.std.specs.Fmt.{decimal}
use Rattle.tg_isa.specs.Names.{register_name}
use Rattle.tg_instr.specs.declared.instr.Instr.{Instr}
use Rattle.tg_regalloc.specs.declared.allocations.Location.{Location}
use Rattle.tg_regalloc.specs.declared.allocations.Location.TheVariants.{Colour, Slot}
use Rattle.tg_regalloc.specs.declared.allocations.Allocation.{Allocation}
use Rattle.tg_regalloc.specs.Painting.{register_of}
use Rattle.tg_show.specs.Words.{temp_text}
use Rattle.tg_show.specs.Layout.{blanks}
use Rattle.tg_show.specs.Instructions.{instruction_margin, instruction_text}

module _ (names : List (List ℕ)) where
  abbrev pub location_line : (temp : ℕ) → Location → List ℕ
  location_line t (Colour c) =
      codes "  colour " ++ (temp_text names t ++
      (codes " " ++ (register_name (register_of c) ++ 10 ∷ [])))
  location_line t (Slot k) =
      codes "  slot " ++ (temp_text names t ++ (codes " " ++ (decimal k ++ 10 ∷ [])))

  -- of the temporaries from a number on
  abbrev pub location_lines : (temp : ℕ) → List Location → List ℕ
  location_lines t [] = []
  location_lines t (location ∷ rest) = location_line t location ++ location_lines (suc t) rest

  abbrev pub placed_lines : (all_in_frame : Bool) → List Location → List ℕ
  placed_lines true locations = codes "  all in frame\n"
  placed_lines false locations = location_lines 0 locations

  abbrev pub code_line : Instr → List ℕ
  code_line one = blanks (instruction_margin one) ++ (instruction_text names one ++ 10 ∷ [])

  abbrev pub code_lines : List Instr → List ℕ
  code_lines [] = []
  code_lines (one ∷ rest) = code_line one ++ code_lines rest

  abbrev pub allocation_lines : Allocation → List ℕ
  allocation_lines a =
      placed_lines a.all_in_frame a.registers ++ code_lines a.done.code.list
