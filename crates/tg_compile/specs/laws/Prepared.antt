-- What the passes over trees promise of the form of a program that may be switched on: what they
-- make of it is no larger.
use Rattle.std.specs.Prelude.{◌≡◌}
use Rattle.std.specs.List.{AllZip}
use Rattle.tg_tree.specs.Tree.{Ts, Code}
use Rattle.tg_tree.specs.Named.{HasWords, IsLinked}
use Rattle.tg_translate_laws.specs.laws.Laws.{names}
use Rattle.tg_code_bounds.specs.Reduced.{ReducesTo}
use Rattle.tg_compile.specs.declared.passes.Passes.{Passes}
use Rattle.tg_compile.specs.Prepared.{prepared}

-- function by function
abbrev pub PreparedIsReduced : Type 0
PreparedIsReduced =
    (passes : Passes) (code : Code Ts) →
    AllZip ReducesTo code.functions (prepared passes code).functions

-- with the same literals
abbrev pub LiteralsStay : Type 0
LiteralsStay = (passes : Passes) (code : Code Ts) → (prepared passes code).literals ≡ code.literals

-- Its functions and literals name one another alone, and its constants are words, if it was so.
abbrev pub PreparedIsLinked : Type 0
PreparedIsLinked =
    (passes : Passes) (code : Code Ts) →
    IsLinked names code → IsLinked names (prepared passes code)

abbrev pub PreparedHasWords : Type 0
PreparedHasWords =
    (passes : Passes) (code : Code Ts) →
    HasWords names code → HasWords names (prepared passes code)
