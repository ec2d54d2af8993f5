-- That the text of a stage tells what the stage has: no two values have one text.
use Rattle.std.specs.Prelude.{ℕ, ◌≡◌, List}
use Rattle.tg_tree.specs.Tree.{Ts, Stms, Linear}
use Rattle.tg_tree.specs.Shapes.{IsFlatCode}
use Rattle.tg_trace_schedule.specs.Block.{Block}
use Rattle.tg_trace_schedule.specs.Shapes.{AreFlatBlocks}
use Rattle.tg_instr.specs.declared.instr.Instr.{Instr}
use Rattle.tg_show.specs.Stages.{tree_stage, folded_stage, canonical_stage, blocks_stage}
use Rattle.tg_show.specs.Stages.{traces_stage, instructions_stage}
use Rattle.tg_show_laws.specs.Fitting.{HaveNoCommas, NumbersFit, NumbersFitStms, NumbersFitFlat}
use Rattle.tg_show_laws.specs.Blocks.{NumbersFitBlocks}
use Rattle.tg_show_laws.specs.Fields.{AllFit}

abbrev pub TreesAreTold : Type 0
TreesAreTold =
    (names : List (List ℕ)) (body other : Ts) → HaveNoCommas names →
    NumbersFit body → NumbersFit other →
    tree_stage names body ≡ tree_stage names other → body ≡ other

abbrev pub FoldedAreTold : Type 0
FoldedAreTold =
    (names : List (List ℕ)) (body other : Ts) → HaveNoCommas names →
    NumbersFit body → NumbersFit other →
    folded_stage names body ≡ folded_stage names other → body ≡ other

abbrev pub CanonicalAreTold : Type 0
CanonicalAreTold =
    (names : List (List ℕ)) (code other : Stms) → HaveNoCommas names →
    NumbersFitStms code → NumbersFitStms other →
    canonical_stage names code ≡ canonical_stage names other → code ≡ other

-- Of blocks of flat statements: no fault or return stands in front of a block's end.
abbrev pub BlocksAreTold : Type 0
BlocksAreTold =
    (names : List (List ℕ)) (blocks other : List Block) → HaveNoCommas names →
    NumbersFitBlocks 0 blocks → NumbersFitBlocks 0 other →
    AreFlatBlocks blocks → AreFlatBlocks other →
    blocks_stage names blocks ≡ blocks_stage names other → blocks ≡ other

-- Of flat code, in which no statement is a fault or a return: those are elements.
abbrev pub TracesAreTold : Type 0
TracesAreTold =
    (names : List (List ℕ)) (code other : List Linear) → HaveNoCommas names →
    NumbersFitFlat code → NumbersFitFlat other → IsFlatCode code → IsFlatCode other →
    traces_stage names code ≡ traces_stage names other → code ≡ other

-- whatever the names of temporaries are
abbrev pub InstructionsAreTold : Type 0
InstructionsAreTold =
    (names : List (List ℕ)) (code other : List Instr) → AllFit code → AllFit other →
    instructions_stage names code ≡ instructions_stage names other → code ≡ other
