-- Runs of a product and its check, computed: the flat code and its instructions end alike.
use Rattle.std.proofs.Common.{ℕ, ◌≡◌, ◌-◌, List, [], ◌∷◌, refl, pos}
use Rattle.tg_machine_state.specs.declared.ends.RunEnd.{RunEnd}
use Rattle.tg_machine_state.specs.declared.ends.RunEnd.TheVariants.{Exit, Break}
use Rattle.tg_machine_state.specs.State.{stack_top}
use Rattle.tg_simulation.specs.Ran.{Ran, Ended}
use Rattle.tg_tree.specs.declared.operators.Bin.TheVariants.{Mul, MulHigh, ShiftSigned}
use Rattle.tg_tree.specs.declared.operators.Rel.TheVariants.{Equal}
use Rattle.tg_tree.specs.Tree.{Temp, Const, Binary, Service, Move, Do, Linear, Do', Branch, Fault', Mark, Return', Function}
use Rattle.tg_tree.specs.Flat.{flat_run}
use Rattle.tg_instr.specs.Running.{everywhere, code_run}
use Rattle.tg_munch.specs.mirror.Choosing.{◌>>=◌}
use Rattle.tg_munch.specs.mirror.Bodies.{munched}

abbrev made : {B : Type 0} → (temps : ℕ) → B → Function B
made n body = record { label = 32; params = []; slots = 0; temps = n; out = 0; body = body }

-- a temporary gets the product of two words, by which the program exits where it passes the check
abbrev exits_by_product : (to x y : ℕ) → Function (List Linear)
exits_by_product to x y = made 3
    (Do' (Move 0 (Const x)) ∷ Do' (Move 1 (Const y)) ∷ Do' (Move to (Binary Mul (Temp 0) (Temp 1)))
    ∷ Branch Equal (Binary MulHigh (Temp 0) (Temp 1)) (Binary ShiftSigned (Temp to) (Const 31)) 7
    ∷ Fault' 9 ∷ Mark 7 ∷ Do' (Do (Service 17 (Temp to))) ∷ Return' (Const 0) ∷ [])

abbrev as_flat : (to x y : ℕ) → Ran
as_flat to x y =
    flat_run (record { functions = exits_by_product to x y ∷ []; literals = [] }) (λ l. 16) (stack_top - 32) 8 32 [] 4

abbrev as_instructions : (to x y : ℕ) → Ran
as_instructions to x y =
    let chosen = munched (exits_by_product to x y) in
    code_run (everywhere (λ one. 1)) (record { functions = made chosen.drawn.temp chosen.code ∷ []; literals = [] }) (λ l. 16) (stack_top - 32) 8 32 [] 4

abbrev BothEnd : (to x y : ℕ) → RunEnd → Type 0
BothEnd to x y e = ((as_flat to x y).stop ≡ Ended e) × ((as_instructions to x y).stop ≡ Ended e)

in_range : BothEnd 2 46341 46340 (Exit (pos 2147441940))
unfolding ◌>>=◌
in_range = (refl, refl)

-- -1 times itself
two_negative : BothEnd 2 4294967295 4294967295 (Exit (pos 1))
unfolding ◌>>=◌
two_negative = (refl, refl)

too_great : BothEnd 2 46341 46341 (Break 9)
unfolding ◌>>=◌
too_great = (refl, refl)

-- a product whose lower word is 0
upper_word_alone : BothEnd 2 65536 65536 (Break 9)
unfolding ◌>>=◌
upper_word_alone = (refl, refl)

-- -46341 times 46341
too_small : BothEnd 2 4294920955 46341 (Break 9)
unfolding ◌>>=◌
too_small = (refl, refl)

-- moved over a side: the check is then of another product, that of 0 and 65536
over_a_side : BothEnd 0 65536 65536 (Exit (pos 0))
unfolding ◌>>=◌
over_a_side = (refl, refl)
