-- The trees that the passes after the translation are handed, by the passes that are switched on.
use Rattle.std.specs.Prelude.{if◌then◌else◌}
use Rattle.tg_tree.specs.Tree.{Ts, Function, Code}
use Rattle.tg_fold.specs.laws.Laws.{folded_function}
use Rattle.tg_fold.specs.laws.Meaning.{folded_code}
use Rattle.tg_compile.specs.declared.passes.Passes.{Passes}

-- the functions of a program and of the runtime: folded, or as they are
abbrev pub prepared : Passes → Code Ts → Code Ts
prepared passes code = if passes.fold then folded_code code else code

-- and one of them
abbrev pub prepared_function : Passes → Function Ts → Function Ts
prepared_function passes f = if passes.fold then folded_function f else f
