-- The trees of a whole program: those of its own text, and the runtime's.
use Rattle.std.specs.Prelude.{◌++◌}
use Rattle.tg_tree.specs.Tree.{Ts, Code}
use Rattle.tg_runtime.specs.mirror.Routines.{runtime}

-- the functions and literals of a program, and after them the runtime's
abbrev pub with_runtime : Code Ts → Code Ts
with_runtime program = record {
  functions = program.functions ++ runtime.functions;
  literals = program.literals ++ runtime.literals;
}
