-- Work that isn't done needn't be paid for.
use Rattle.std.proofs.Common.{◌≡◌, ℕ, ◌+◌, arith, sym, ◌∙◌}
use Rattle.tg_simulation.specs.Runs.{Run}
use Rattle.tg_simulation.specs.Ran.{Ran, works, Wrong}
use Rattle.tg_tree.specs.Actions.{World, over}
use Rattle.tg_simulation.specs.Agreement.{Source, Matches, same, cut, unsaid, Fits, Follows}
use Rattle.tg_simulation.specs.Outcomes.{End, ended, out_of_fuel, stuck}
use Rattle.tg_machine_state.specs.declared.ends.RunEnd.{RunEnd}

match_unworked : (stack a r k : ℕ) (o : Source) (p : Ran) → Matches stack a r o (works k p) → Matches stack a r o p
match_unworked stack a r k o p (same e i f q w) = same e i f q (omega arith)
match_unworked stack a r k o p (cut past e f g h w) = cut past e f g h (omega arith)
match_unworked stack a r k o p (unsaid e) = unsaid e

pub follows_unworked : (stack a r n k : ℕ) (c : Run Source) (d : Run Ran) → Follows stack a r n c (λ j. works k (d j)) → Follows stack a r n c d
follows_unworked stack a r n k c d h i le = let x = h i le in (x.0, x.1, match_unworked stack a r k (c i) (d x.0) x.2)

-- what a run that is wrong follows is stuck, so every run follows it
no_fit : (e : End RunEnd) → Fits e Wrong → ⊥
no_fit (ended e) f = f
no_fit out_of_fuel f = f
no_fit stuck f = f

match_wrong : (stack a r : ℕ) (o : Source) (w : World) (n : ℕ) (p : Ran) → Matches stack a r o (over Wrong w n) → Matches stack a r o p
match_wrong stack a r o w n p (same e i f q k) = absurd (no_fit o.end f)
match_wrong stack a r o w n p (cut past e f g h k) = cc
match_wrong stack a r o w n p (unsaid e) = unsaid e

pub follows_wrong : (stack a r n : ℕ) (c : Run Source) (w : World) (d : Run Ran) → Follows stack a r n c (over Wrong w) → Follows stack a r n c d
follows_wrong stack a r n c w d h i le = let x = h i le in (x.0, x.1, match_wrong stack a r (c i) w x.0 (d x.0) x.2)
