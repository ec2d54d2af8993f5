-- The text of some allocations, computed.
use Rattle.std.proofs.Common.{ℕ, ◌≡◌, List, [], ◌∷◌, true, false, refl, arith}
use Rattle.std.specs.Prelude.{codes}
use Rattle.std.specs.Fmt.{digits}
use Rattle.tg_frame.specs.declared.frames.Frame.{Frame}
use Rattle.tg_instr.specs.declared.instr.Instr.TheVariants.{Return}
use Rattle.tg_instr.specs.declared.codes.Allocated.{Allocated}
use Rattle.tg_irc_definition.specs.declared.moves.Move.{Move}
use Rattle.tg_irc_definition.specs.declared.steps.Step.{Step}
use Rattle.tg_irc_definition.specs.declared.steps.Step.TheVariants.{Simplify, Same, Constrain, Coalesce, Freeze, Spill}
use Rattle.tg_irc_definition.specs.declared.rounds.Round.{Round}
use Rattle.tg_regalloc.specs.declared.allocations.Location.TheVariants.{Colour, Slot}
use Rattle.tg_regalloc.specs.declared.allocations.Allocation.{Allocation}
use Rattle.tg_regalloc_report.specs.Listing.{listed}

-- a function that returns at once
frame : (label slots : ℕ) → Frame
frame label slots = record {
  label = record { 0 = label };
  params = [];
  slots = slots;
  temps = 0;
  out = 0;
  slots_below = omega arith;
  temps_below = omega arith;
  distinct = refl;
}

abbrev done : (label slots : ℕ) → Allocated
done label slots = record {
  frame = frame label slots;
  code = record { list = Return ∷ []; temps = 0; marks_differ = refl; marks_stand = refl; temps_below = refl; ends_well = refl };
  registers_alone = refl;
  slots_below = refl;
}

abbrev round : List Move → List Step → (spilled : List ℕ) → Round
round moves steps spilled = record { moves = moves; steps = steps; states = []; aliases = []; colours = []; spilled = spilled }

abbrev move : (to from : ℕ) → Move
move to from = record { to = to; from = from }

-- t0 and t1 interfere, t1 with each register but $a0, and t0 is moved from $a0: nothing can be
-- taken out before the move is given up
abbrev blocked : Allocation
blocked = record {
  done = done 32 0;
  registers = Colour 0 ∷ Colour 2 ∷ [];
  rounds = round (move 25 2 ∷ []) (Freeze 25 ∷ Simplify 25 ∷ Simplify 26 ∷ []) [] ∷ [];
  all_in_frame = false;
  slots = 0;
}

-- two rounds, of which the first spills t0, and a line of each kind
abbrev in_two_rounds : Allocation
in_two_rounds = record {
  done = done 33 4;
  registers = Slot 3 ∷ Colour 24 ∷ Colour 16 ∷ [];
  rounds =
      round (move 25 4 ∷ move 24 26 ∷ move 26 24 ∷ []) (Constrain 0 ∷ Coalesce 1 24 26 false ∷ Same 2 ∷ Spill 25 ∷ Simplify 27 ∷ []) (25 ∷ [])
      ∷ round (move 28 27 ∷ []) (Coalesce 0 27 28 true ∷ Simplify 27 ∷ []) [] ∷ [];
  all_in_frame = false;
  slots = 1;
}

-- what a round spilled was made
abbrev in_frame : Allocation
in_frame = record {
  done = done 120 12;
  registers = Slot 10 ∷ Slot 11 ∷ [];
  rounds = round [] (Spill 27 ∷ Simplify 25 ∷ Simplify 26 ∷ []) (27 ∷ []) ∷ [];
  all_in_frame = true;
  slots = 2;
}

text : listed (blocked ∷ in_two_rounds ∷ in_frame ∷ []) ≡
    codes "function 32\nround 1\nfreeze t0\nsimplify t0\nsimplify t1\ncolour t0 $v0\ncolour t1 $a0\nslots 0\nfunction 33\nround 1\nconstrain t0 $a2\ncoalesce $ra t1 george\nsame t1 $ra\nspill t0\nsimplify t2\nspilled t0\nround 2\ncoalesce t2 t3 briggs\nsimplify t2\nslot t0 3\ncolour t1 $ra\ncolour t2 $s0\nslots 1\nfunction 120\nround 1\nspill t2\nsimplify t0\nsimplify t1\nspilled t2\nall in frame\nslots 2\n"
unfolding digits frame
text = refl

nothing : listed [] ≡ []
nothing = refl
