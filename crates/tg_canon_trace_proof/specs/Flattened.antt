-- A code of trees as flat code: each function in canonical form, cut into blocks, and laid.
use Rattle.std.specs.Prelude.{List}
use Rattle.tg_tree.specs.Tree.{Ts, Linear, Function, Code}
use Rattle.tg_tree.specs.Shapes.{IsClosed}
use Rattle.tg_canon.specs.laws.Meaning.{canonical, canonical_code, HasOwnTemps}
use Rattle.tg_trace_schedule.specs.laws.Carried.{in_blocks, code_in_blocks}
use Rattle.tg_trace_schedule.specs.laws.Traced.{laid, laid_all}

abbrev pub flattened : Function Ts → Function (List Linear)
flattened f = laid (in_blocks (canonical f))

abbrev pub flattened_code : Code Ts → Code (List Linear)
flattened_code code = laid_all (code_in_blocks (canonical_code code))

-- a function that the three passes take, one after the other: it is closed, and the temporaries
-- that it names are its own
pub record MayBeFlattened (f : Function Ts) : Type 0 where
  pub closed : IsClosed f.body
  pub temps : HasOwnTemps f
