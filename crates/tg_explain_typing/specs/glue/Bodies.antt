-- The facts of one item of the code's lists.
use Rattle.std.specs.Prelude.{ℕ, List, [], ◌∷◌, map}
use Rattle.tg_base.specs.declared.ids.Span.{Span}
use Rattle.tg_syntax.specs.declared.trees.FunDec.{FunDec}
use Rattle.tg_syntax.specs.declared.trees.Param.{Param}
use Rattle.tg_syntax.specs.glue.Plain.{plain}
use Rattle.tg_explain_typing.specs.declared.facts.Fact.{Fact}
use Rattle.tg_explain_typing.specs.declared.facts.Fact.TheVariants.{Field}
use Rattle.tg_explain_typing.specs.Facts.{exp_facts, opened_facts, ended, header_facts}

abbrev pub body_facts :
    (text : List ℕ) → (at : ℕ) → FunDec → (before : List Fact) → List Fact
body_facts text at f before =
    ended text at f.result (plain f.body)
    (exp_facts text at (plain f.body) (opened_facts text f.name f.params f.body.span before))

abbrev pub header_of : (text : List ℕ) → FunDec → (seen : Span) → (before : List Fact) → List Fact
header_of text f seen before = header_facts text f.name f.params f.result seen before

abbrev pub first_start : List FunDec → ℕ
first_start [] = 0
first_start (f ∷ fs) = f.name.span.from

abbrev pub fields_of : (owner : ℕ) → List Param → List Fact
fields_of owner ps = map (λ p. Field owner p) ps
