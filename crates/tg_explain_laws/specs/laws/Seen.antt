-- What is declared in an expression is seen only within its span.
use Rattle.std.specs.Prelude.{ℕ, ◌≡◌, ◌≤◌, List, [], ◌∷◌, ◌++◌}
use Rattle.tg_base.specs.declared.ids.Span.{Span}
use Rattle.tg_syntax.specs.Tree.{Exp}
use Rattle.tg_syntax.specs.Spans.{span_of}
use Rattle.tg_explain_typing.specs.declared.facts.Fact.{Fact}
use Rattle.tg_explain_typing.specs.declared.facts.Fact.TheVariants as fact
use Rattle.tg_explain_typing.specs.Facts.{exp_facts}
use Rattle.tg_explain_laws.specs.Nested.{Nests}

abbrev pub IsWithin : (outer inner : Span) → Type 0
IsWithin outer inner = (outer.from ≤ inner.from) × (inner.to ≤ outer.to)

-- each declaration among facts is seen within a span
abbrev pub SeenWithin : Span → List Fact → Type 0
SeenWithin s [] = Unit {0}
SeenWithin s (fact.Variable _ _ seen ∷ facts) = IsWithin s seen × SeenWithin s facts
SeenWithin s (fact.Function _ _ seen ∷ facts) = IsWithin s seen × SeenWithin s facts
SeenWithin s (fact.Param _ _ _ seen ∷ facts) = IsWithin s seen × SeenWithin s facts
SeenWithin s (fact.TypeName _ _ seen ∷ facts) = IsWithin s seen × SeenWithin s facts
SeenWithin s (_ ∷ facts) = SeenWithin s facts

-- the facts of a part come behind those before it
pub record AddsWithin (s : Span) (before after : List Fact) : Type 0 where
  pub more : List Fact
  pub is : after ≡ before ++ more
  pub seen : SeenWithin s more

abbrev pub DeclaredWithin : Type 0
DeclaredWithin =
    (text : List ℕ) (at : ℕ) (e : Exp) (before : List Fact) → Nests e →
    AddsWithin (span_of e) before (exp_facts text at e before)
