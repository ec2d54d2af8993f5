-- What a fault is about is found in the order in which a program is checked.
use Rattle.std.specs.Prelude.{ℕ, ◌≡◌, List, Some}
use Rattle.tg_syntax.specs.Tree.{Exp}
use Rattle.tg_explain_typing.specs.declared.facts.Fact.{Fact}
use Rattle.tg_explain_typing.specs.declared.finding.Breach.{Breach}
use Rattle.tg_explain_typing.specs.declared.finding.Judgement.{Judgement}
use Rattle.tg_explain_typing.specs.Finding.{first_broken}
use Rattle.tg_explain_typing.specs.Facts.{exp_facts}

-- what is found broken among the facts before a part is what is found behind it
abbrev pub FirstStays : Type 0
FirstStays =
    (text : List ℕ) (at : ℕ) (e : Exp) (before : List Fact) (breach : Breach) (j : Judgement) →
    first_broken breach before ≡ Some j →
    first_broken breach (exp_facts text at e before) ≡ Some j
