use Rattle.tg_coalescing_round.specs.glue.Groupings.{apart}
use Rattle.tg_coalescing_round.proofs.Classing.{apart_grouping, same_grouping}
use Rattle.tg_coalescing_round.proofs.classes.Classes.new.Goals as goal

pub invariant_of-result : goal.invariant_of-result
invariant_of-result c =
    same_grouping (apart c.args.facts.now) (apart_grouping c.args.facts.now c.requires.few) _ _ _ _
    c.in_ok-numbers.ensures c.in_ok-singletons.ensures c.in_ok-uses_of.ensures c.in_ok-made_of.ensures
