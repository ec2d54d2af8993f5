-- That the texts of `build`, `bare`, `run` and `gen` are what the source is compiled to.
use Rattle.std.specs.Prelude.{ℕ}
use Rattle.tg_irc_definition.specs.Policies.{Rule as SpillRule}
use Rattle.tg_compile_proof.specs.Builds.{Builds}
use Rattle.tg_bare_compile_proof.specs.Builds.{BuildsDelayed}
use Rattle.tg_driver.specs.AllocMode.{Lists}
use Rattle.tg_driver.specs.ShowMode.{Shows}
use Rattle.tg_driver.specs.Answered.{AnswersBy}
use Rattle.tg_driver.specs.Calls.{Call}
use Rattle.tg_driver.specs.Writing.{Texts}

-- assembly texts that the source is compiled to with the passes by the rule of the call's policy,
-- without delay slots and with them, and listings and texts of what each pass made by it
abbrev pub texts_compiled : SpillRule → Texts
texts_compiled rule = record {
  assembly = λ passes. Builds passes rule;
  bare = λ passes. BuildsDelayed passes rule;
  listing = λ passes. Lists passes rule;
  shown = λ passes. Shows passes rule;
}

-- what the program answers is due by these: so `build` and `bare` write, and `run` and `gen` run, what
-- their source is compiled to with the passes that are asked for, by the rule of the policy
abbrev pub AnswersCompiled : {H I O E : Type 0} → Call H I O E → (status : ℕ) → Type 0
AnswersCompiled c status = AnswersBy (texts_compiled c.rule) c status
