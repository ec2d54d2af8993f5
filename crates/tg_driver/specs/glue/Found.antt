-- What a source is found to be that is refused.
use Rattle.std.specs.Prelude.{ℕ, List}
use Rattle.tg_driver.specs.declared.answers.Answer.{Answer}
use Rattle.tg_driver.specs.declared.answers.Answer.TheVariants.{Faulty, OutOfMemory}
use Rattle.tg_driver.specs.Faults.{IsFaultOf}

-- a fault, or out of memory
abbrev pub IsRefused : List ℕ → Answer → Type 0
IsRefused text (Faulty fault) = IsFaultOf text fault
IsRefused text OutOfMemory = Unit {0}
IsRefused text _ = ⊥
