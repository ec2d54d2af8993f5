use Rattle.std.proofs.Common.{rules, not}
use Rattle.std.proofs.lemmas.Fn.{filter_same}
use Rattle.tg_redundancy.specs.mirror.Facts.{is_of}
use Rattle.tg_redundancy.proofs.facts.forget.Goals as goal

pub returns : goal.returns
returns c = filter_same _ (λ fact. not (is_of c.args.operand.now fact)) _ (λ x b f' k. search rules) _ _ c.retain.ensures.filtered
