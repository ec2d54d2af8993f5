use Rattle.tg_syntax.proofs.GroupLaws.{decs_longest}
use Rattle.tg_syntax_laws.proofs.laws.groups_are_longest.Goals as goal

pub returns : goal.returns
returns c = λ tokens ds h. decs_longest h
