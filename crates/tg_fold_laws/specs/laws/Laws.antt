-- What folding promises of how far a body goes for what it reads and writes, and of how deep it is
-- nested: neither becomes more.
use Rattle.std.specs.Prelude.{◌≤◌, ℕ}
use Rattle.std.specs.List.{Contains}
use Rattle.std.specs.Ordering.{nat_cmp}
use Rattle.std.specs.FinSet.{FinSet}
use Rattle.tg_typecheck.specs.Programs.{CheckedProgram, IsAccepted}
use Rattle.tg_tree.specs.Tree.{Ts, Function}
use Rattle.tg_translate.specs.mirror.Scopes.{found}
use Rattle.tg_translate.specs.mirror.Translate.{translated}
use Rattle.tg_translate_laws.specs.Accesses.{AccessesWithin}
use Rattle.tg_translate_laws.specs.Depths.{statement_depth}
use Rattle.tg_translate_laws.specs.laws.Laws.{FunctionIsSmall}
use Rattle.tg_fold.specs.laws.Laws.{folded_function}
use Rattle.tg_fold.specs.mirror.Folding.{folded}

abbrev pub AccessesStay : Type 0
AccessesStay =
    (most : ℕ) (body : Ts) → AccessesWithin most body → AccessesWithin most (folded body)

-- however much deeper than its own parts a choice is
abbrev pub DepthStays : Type 0
DepthStays =
    (choice : ℕ) (body : Ts) → statement_depth choice (folded body) ≤ statement_depth choice body

-- So each function of an accepted program is small when it is folded, too.
abbrev pub FoldedFramesAreSmall : Type 0
FoldedFramesAreSmall =
    (p : CheckedProgram) (escapes links : FinSet nat_cmp) (f : Function Ts) →
    IsAccepted p →
    Contains (translated (found p.notes escapes links) p.body).functions f →
    FunctionIsSmall (folded_function f)
