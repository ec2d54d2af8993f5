-- What the instructions of a function keep of its flat code.
use Rattle.std.specs.Prelude.{ℕ, ◌≤◌, Bool, List, [], IsTrue}
use Rattle.std.specs.List.{Contains, list_all}
use Rattle.tg_frame.specs.Homes.{slot_bound, temp_bound}
use Rattle.tg_tree.specs.Shapes.{EndsCode, IsWellMarked}
use Rattle.tg_tree.specs.Tree as tree
use Rattle.tg_tree.specs.Tree.{Linear, Function}
use Rattle.tg_tree.specs.Named.{NamesAreAllowed, Named, named_flat, HasItsTemps}
use Rattle.tg_instr.specs.Codes.{marks_differ, leads_to_marks, ends_well, has_temps_below}
use Rattle.tg_instr.specs.Codes.{has_slots_below}
use Rattle.tg_instr.specs.declared.instr.Instr.TheVariants.{Move}
use Rattle.tg_munch.specs.mirror.Munching.{temp}
use Rattle.tg_munch.specs.mirror.Bodies.{munched}
use Rattle.tg_munch.specs.Naming.{names_registers, names_allowed}

-- a move from one temporary to another stays one
abbrev pub MovesStay : Type 0
MovesStay =
    (f : Function (List Linear)) (t s : ℕ) →
    Contains f.body (tree.Do' (tree.Move t (tree.Temp s))) →
    Contains (munched f).code (Move (temp t) (temp s))

-- the last instruction goes on nowhere, where the last element doesn't
abbrev pub CodeEndsWell : Type 0
CodeEndsWell =
    (f : Function (List Linear)) → EndsCode f.body → IsTrue (ends_well (munched f).code)

-- the instructions write none but $v0, $a0 to $a3, $s0 to $s7 and $ra, and besides these read $zero
-- and $sp
abbrev pub RegistersAreFixed : Type 0
RegistersAreFixed =
    (f : Function (List Linear)) → IsTrue (list_all names_registers (munched f).code)

-- they go to slots of the frame alone, where the parameters do
abbrev pub SlotsAreBelow : Type 0
SlotsAreBelow =
    (f : Function (List Linear)) →
    slot_bound f.params ≤ f.slots →
    IsTrue (list_all (has_slots_below f.slots) (munched f).code)

-- their temporaries are drawn, where those of the parameters and of the flat code are
abbrev pub TempsAreBelow : Type 0
TempsAreBelow =
    (f : Function (List Linear)) →
    temp_bound f.params ≤ f.temps → HasItsTemps (λ body. named_flat body []) f →
    IsTrue (list_all (has_temps_below (munched f).drawn.temp) (munched f).code)

-- They call no function, take no literal's address and have no fault that flat code doesn't name:
-- whatever test all its names pass, theirs pass.
abbrev pub NamesStay : Type 0
NamesStay =
    (allowed : Named → Bool) (f : Function (List Linear)) →
    NamesAreAllowed allowed (named_flat f.body []) →
    IsTrue (list_all (names_allowed allowed) (munched f).code)

-- where those of the flat code differ and stand where they are led to, theirs do
abbrev pub MarksDiffer : Type 0
MarksDiffer =
    (f : Function (List Linear)) →
    IsWellMarked f.body → IsTrue (marks_differ (munched f).code)

abbrev pub MarksStand : Type 0
MarksStand =
    (f : Function (List Linear)) →
    IsWellMarked f.body → IsTrue (list_all (leads_to_marks (munched f).code) (munched f).code)
