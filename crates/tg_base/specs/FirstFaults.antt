-- What is said of a text's first fault where it is answered.
use Rattle.std.specs.Prelude.{Result, Ok, Err}
use Rattle.tg_base.specs.declared.faulty.Faulty.{Faulty}
use Rattle.tg_base.specs.declared.faulty.Faulty.TheVariants.{Bad, Memory}

-- a fact of the rule and the place of the fault; out of memory says nothing
abbrev pub OnFault : {R At : Type 0} → Faulty R At → (R → At → Type 0) → Type 0
OnFault (Bad rule at) P = P rule at
OnFault Memory P = Unit {0}

-- that fact of the fault that is answered
abbrev pub OnBad : {T R At : Type 0} → Result T (Faulty R At) → (R → At → Type 0) → Type 0
OnBad (Ok x) P = Unit {0}
OnBad (Err fault) P = OnFault fault P
