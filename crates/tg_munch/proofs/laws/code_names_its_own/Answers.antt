use Rattle.tg_munch.proofs.NamingLaws.{registers_are_fixed, slots_are_below, temps_are_below, names_stay}
use Rattle.tg_munch.proofs.laws.code_names_its_own.Goals as goal

pub returns-clause-registers : goal.returns-clause-registers
returns-clause-registers c = λ f. registers_are_fixed f

pub returns-clause-slots : goal.returns-clause-slots
returns-clause-slots c = λ f h. slots_are_below f h

pub returns-clause-temps : goal.returns-clause-temps
returns-clause-temps c = λ f h k. temps_are_below f h k

pub returns-clause-names : goal.returns-clause-names
returns-clause-names c = λ allowed f h. names_stay allowed f h
