-- What the passes promise of their answers' shapes.
use Rattle.std.specs.Prelude.{ℕ, ◌+◌, ◌≤◌, Bool, IsTrue, List, []}
use Rattle.tg_tree.specs.Tree.{Stms}
use Rattle.tg_tree.specs.Shapes.{AreCanonical, AreClosed, IsFlatCode, IsWellMarked}
use Rattle.tg_tree.specs.Units.{Canonical}
use Rattle.tg_tree.specs.Sizes.{in_canonical, statements_length, code_length, statements_needs}
use Rattle.tg_tree.specs.Sizes.{code_needs}
use Rattle.tg_tree.specs.Named.{Named, NamesAreAllowed, fault, named_stms, named_flat}
use Rattle.tg_trace_schedule.specs.Block.{Block}
use Rattle.tg_trace_schedule.specs.Shapes.{AreFlatBlocks, AreWhole}
use Rattle.tg_trace_schedule.specs.mirror.Cutting.{blocks_of}
use Rattle.tg_trace_schedule.specs.mirror.Laying.{traced}

-- canonical statements are cut into flat blocks, and those of a closed body into blocks that lead
-- to one another
abbrev pub BlocksAreFlat : Type 0
BlocksAreFlat = (ss : Stms) → AreCanonical ss → AreFlatBlocks (blocks_of ss)

abbrev pub BlocksAreWhole : Type 0
BlocksAreWhole = (ss : Stms) → AreClosed ss → AreWhole (blocks_of ss)

-- flat blocks are laid as flat code; each mark of that of whole blocks stands once, and the code
-- goes to none but its own
abbrev pub CodeIsFlat : Type 0
CodeIsFlat = (bs : List Block) → AreFlatBlocks bs → IsFlatCode (traced bs)

abbrev pub CodeIsWellMarked : Type 0
CodeIsWellMarked = (bs : List Block) → AreWhole bs → IsWellMarked (traced bs)

-- Cut and laid, they are at most so much longer, and need no more.
abbrev pub added_length : ℕ
added_length = 2

abbrev pub LengthStays : Type 0
LengthStays =
    (ss : Stms) →
    code_length (traced (blocks_of ss)) ≤ statements_length Canonical ss + added_length

abbrev pub NeedsStay : Type 0
NeedsStay =
    (ss : Stms) →
    code_needs in_canonical (traced (blocks_of ss)) ≤ statements_needs in_canonical ss

-- The code names no function, literal, temporary, constant or fault that the statements don't name,
-- but for a fault 0: whatever test all their names pass, its names pass.
abbrev pub NamesStay : Type 0
NamesStay =
    (allowed : Named → Bool) (ss : Stms) →
    IsTrue (allowed (fault 0)) → NamesAreAllowed allowed (named_stms ss []) →
    NamesAreAllowed allowed (named_flat (traced (blocks_of ss)) [])
