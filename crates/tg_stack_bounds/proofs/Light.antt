-- Functions that are paid, and within what their frames have, are light.
use Rattle.std.proofs.Common.{List, [], ◌∷◌, arith}
use Rattle.std.specs.List.{AllZip}
use Rattle.tg_syntax.specs.Functions.{Measures, program_functions}
use Rattle.tg_syntax.specs.Tree.{Exp}
use Rattle.tg_tree.specs.Tree.{Ts, Function}
use Rattle.tg_translate.specs.mirror.Scopes.{Findings}
use Rattle.tg_translate.specs.mirror.Translate.{translated}
use Rattle.tg_translate_laws.specs.laws.Laws.{FunctionIsWithin, FunctionsAreWithin}
use Rattle.tg_stack_bounds.specs.laws.Weights.{IsLight}
use Rattle.tg_stack_bounds.proofs.Leading.{LevelTable, Leads}
use Rattle.tg_stack_bounds.proofs.Giving.{IsPaid}
use Rattle.tg_stack_bounds.proofs.Crossing.{functions_are_paid}

light_by : (m : Measures) (f : Function Ts) → FunctionIsWithin m f → IsPaid m f → IsLight m f
light_by m f within paid =
    let slots = within.slots in
    let temps = within.temps in
    let out = paid.out in
    let params = paid.params in
    let short = paid.short in
    let small = paid.small in
    record { light = omega (arith, slots, temps, out, params, short, small) }

all_light : (ms : List Measures) (fs : List (Function Ts)) → AllZip FunctionIsWithin ms fs → AllZip IsPaid ms fs → AllZip IsLight ms fs
all_light [] [] h k = tt
all_light [] (f ∷ fs) h k = absurd h
all_light (m ∷ ms) [] h k = absurd h
all_light (m ∷ ms) (f ∷ fs) h k = (light_by m f h.0 k.0, all_light ms fs h.1 k.1)

-- function by function, where the text leads
pub functions_are_light : FunctionsAreWithin → (table : LevelTable) (findings : Findings) (e : Exp) → Leads table findings 0 [] e →
    AllZip IsLight (program_functions e) (translated findings e).functions
functions_are_light within table findings e leads =
    all_light (program_functions e) (translated findings e).functions (within findings e) (functions_are_paid table findings e leads)
