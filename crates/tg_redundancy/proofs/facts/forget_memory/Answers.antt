use Rattle.std.proofs.Common.{rules, not}
use Rattle.std.proofs.lemmas.Fn.{filter_same}
use Rattle.tg_redundancy.specs.mirror.Facts.{is_of_memory}
use Rattle.tg_redundancy.proofs.facts.forget_memory.Goals as goal

pub returns : goal.returns
returns c = filter_same _ (λ fact. not (is_of_memory fact)) _ (λ x b f' k. search rules) _ _ c.retain.ensures.filtered
