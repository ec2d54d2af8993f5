-- The labels of the runtime's functions.
use Rattle.std.specs.Prelude.{ℕ}
use Rattle.tg_runtime.specs.declared.routines.Routine.{Routine}
use Rattle.tg_runtime.specs.declared.routines.Routine.TheVariants.{
  MakeRecord,
  MakeArray,
  Compare,
  Print,
  Flush,
  Getchar,
  Ord,
  Chr,
  Size,
  Substring,
  Concat,
  Not,
  Exit,
}

abbrev pub label_of : Routine → ℕ
label_of MakeRecord = 0
label_of MakeArray = 1
label_of Compare = 2
label_of Print = 3
label_of Flush = 4
label_of Getchar = 5
label_of Ord = 6
label_of Chr = 7
label_of Size = 8
label_of Substring = 9
label_of Concat = 10
label_of Not = 11
label_of Exit = 12
