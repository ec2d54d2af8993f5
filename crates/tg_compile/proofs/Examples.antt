-- Programs, prepared with and without folding.
use Rattle.std.proofs.Common.{◌≡◌, [], ◌∷◌, true, false, refl}
use Rattle.tg_tree.specs.declared.operators.Bin.TheVariants.{Mul}
use Rattle.tg_tree.specs.declared.operators.Rel.TheVariants.{Equal}
use Rattle.tg_tree.specs.Tree.{Const, Binary, Compare, Ts, If, Return, Function, Code}
use Rattle.tg_fold.specs.laws.Meaning.{folded_code}
use Rattle.tg_compile.specs.Prepared.{prepared}

without_folding : (code : Code Ts) → prepared (record { fold = false }) code ≡ code
without_folding code = refl

with_folding : (code : Code Ts) → prepared (record { fold = true }) code ≡ folded_code code
with_folding code = refl

-- a function that returns 1 where 2 * 3 is 6, and else 0
abbrev function_with : Ts → Function Ts
function_with body = record { label = 32; params = []; slots = 0; temps = 0; out = 0; body = body }

abbrev program_with : Ts → Code Ts
program_with body = record { functions = function_with body ∷ []; literals = [] }

abbrev chooses_by_product : Ts
chooses_by_product = If (Compare Equal (Binary Mul (Const 2) (Const 3)) (Const 6)) (Return (Const 1)) (Return (Const 0))

known_condition_chooses :
    prepared (record { fold = true }) (program_with chooses_by_product) ≡ program_with (Return (Const 1))
known_condition_chooses = refl
