-- Groups of declarations are as long as possible: no two neighbours are groups of types, or of functions.
use Rattle.std.proofs.Common.{List}
use Rattle.tg_syntax.specs.declared.tokens.Spanned.{Spanned}
use Rattle.tg_syntax.specs.Tree.{TypeDec, Decs, no_decs, types, variable, functions, FunDecs}
use Rattle.tg_syntax.specs.Groups.{Dec, one_type, one_variable, one_function, snoc_dec, NoTypesFirst, NoFunctionsFirst, AreLongest}
use Rattle.tg_syntax.specs.Grammar.{AreDecs, decs_none, decs_more}

types_behind : (ts : List TypeDec) (rest : Decs) (d : Dec) → NoFunctionsFirst (snoc_dec (types ts rest) d)
types_behind ts no_decs (one_type t) = tt
types_behind ts no_decs (one_variable x k e) = tt
types_behind ts no_decs (one_function f params result e) = tt
types_behind ts (types us rest) d = tt
types_behind ts (variable x k e rest) d = tt
types_behind ts (functions fs rest) d = tt

functions_behind : (fs : FunDecs) (rest : Decs) (d : Dec) → NoTypesFirst (snoc_dec (functions fs rest) d)
functions_behind fs no_decs (one_type t) = tt
functions_behind fs no_decs (one_variable x k e) = tt
functions_behind fs no_decs (one_function f params result e) = tt
functions_behind fs (types us rest) d = tt
functions_behind fs (variable x k e rest) d = tt
functions_behind fs (functions gs rest) d = tt

snoc_longest : (ds : Decs) (d : Dec) → AreLongest ds → AreLongest (snoc_dec ds d)
snoc_longest no_decs (one_type t) h = (tt, tt)
snoc_longest no_decs (one_variable x k e) h = tt
snoc_longest no_decs (one_function f params result e) h = (tt, tt)
snoc_longest (types ts no_decs) (one_type t) h = (tt, tt)
snoc_longest (types ts no_decs) (one_variable x k e) h = (tt, tt)
snoc_longest (types ts no_decs) (one_function f params result e) h = (tt, (tt, tt))
snoc_longest (types ts (types us rest)) d h = absurd h.0
snoc_longest (types ts (variable x k e rest)) d h = (tt, snoc_longest (variable x k e rest) d h.1)
snoc_longest (types ts (functions fs rest)) d h = (functions_behind fs rest d, snoc_longest (functions fs rest) d h.1)
snoc_longest (variable x k e rest) d h = snoc_longest rest d h
snoc_longest (functions fs no_decs) (one_type t) h = (tt, (tt, tt))
snoc_longest (functions fs no_decs) (one_variable x k e) h = (tt, tt)
snoc_longest (functions fs no_decs) (one_function f params result e) h = (tt, tt)
snoc_longest (functions fs (types us rest)) d h = (types_behind us rest d, snoc_longest (types us rest) d h.1)
snoc_longest (functions fs (variable x k e rest)) d h = (tt, snoc_longest (variable x k e rest) d h.1)
snoc_longest (functions fs (functions gs rest)) d h = absurd h.0

pub decs_longest : {a : List Spanned} {ds : Decs} → AreDecs a ds → AreLongest ds
decs_longest decs_none = tt
decs_longest (decs_more {ds} {d} h one) = snoc_longest ds d (decs_longest h)
