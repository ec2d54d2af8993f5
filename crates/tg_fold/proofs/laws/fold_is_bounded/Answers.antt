use Rattle.tg_fold.proofs.Sizing.{expressions_shrink, conditions_shrink, statements_shrink, functions_shrink, flat_stays, flat_tests_stay}
use Rattle.tg_fold.proofs.laws.fold_is_bounded.Goals as goal

pub returns : goal.returns
returns c = record {
  expressions = expressions_shrink;
  conditions = conditions_shrink;
  statements = statements_shrink;
  functions = functions_shrink;
  flat = flat_stays;
  flat_tests = flat_tests_stay;
}
