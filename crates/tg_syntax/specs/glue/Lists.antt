-- The plain lists of lists of the code's trees.
use Rattle.std.specs.Prelude.{List, [], ◌∷◌}
use Rattle.tg_syntax.specs.declared.trees.Exp.{Exp as CodeExp}
use Rattle.tg_syntax.specs.declared.trees.Init.{Init as CodeInit}
use Rattle.tg_syntax.specs.declared.trees.Dec.{Dec as CodeDec}
use Rattle.tg_syntax.specs.declared.trees.FunDec.{FunDec as CodeFunDec}
use Rattle.tg_syntax.specs.Tree.{Exps, no_exps, exp, Inits, no_inits, init, Decs, no_decs, FunDecs}
use Rattle.tg_syntax.specs.Tree.{no_functions, function}
use Rattle.tg_syntax.specs.glue.Plain.{plain, plain_dec}

abbrev pub exps_of : List CodeExp → Exps
exps_of [] = no_exps
exps_of (e ∷ es) = exp (plain e) (exps_of es)

abbrev pub inits_of : List CodeInit → Inits
inits_of [] = no_inits
inits_of (i ∷ is) = init i.field (plain i.value) (inits_of is)

abbrev pub decs_of : List CodeDec → Decs
decs_of [] = no_decs
decs_of (d ∷ ds) = plain_dec d (decs_of ds)

abbrev pub functions_of : List CodeFunDec → FunDecs
functions_of [] = no_functions
functions_of (f ∷ fs) = function f.name f.params f.result (plain f.body) (functions_of fs)
