-- Groups of functions that are declared are done.
use Rattle.std.proofs.Common.{List, [], ◌∷◌}
use Rattle.tg_syntax.specs.Tree.{FunDecs, no_functions, function}
use Rattle.tg_typecheck.specs.Scopes.{Scope, Signature}
use Rattle.tg_typecheck.specs.Has.{HasBodies, a_body, end_bodies}
use Rattle.tg_translate_proof.specs.glue.Situations.{Program, Setting}
use Rattle.tg_translate_proof.proofs.invariant.Parts.{StatesGrow}
use Rattle.tg_translate_proof.proofs.program.Declarations.{Groups}
use Rattle.tg_translate_proof.proofs.program.FunctionGroup.{GiveBack, groups}

-- the types of bodies tell which functions have results
pub bodies_give_back : (P : Program) (fs : FunDecs) (ss : List Signature) (scope : Scope) → HasBodies P.shapes P.notes fs ss scope → GiveBack fs ss
bodies_give_back P _ _ scope end_bodies = tt
bodies_give_back P (function f ps r e rest) (s ∷ ss) scope (a_body u many values result typed fits more) = (result, bodies_give_back P rest ss scope more)

-- what is asked of groups of functions
pub groups_are_done : (P : Program) (set : Setting P) (grow : StatesGrow P) → Groups P set grow
groups_are_done P set grow = groups P set grow (λ fs ss scope typed. bodies_give_back P fs ss scope typed)
