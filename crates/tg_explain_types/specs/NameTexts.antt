-- How names are told.
use Rattle.std.specs.Prelude.{ℕ, List, ◌++◌, codes}
use Rattle.tg_base.specs.Lines.{place_of}
use Rattle.tg_explain.specs.Words.{quoted}
use Rattle.tg_explain.specs.Lines.{place_text}
use Rattle.tg_explain_types.specs.declared.names.Near.{Near}
use Rattle.tg_explain_types.specs.declared.names.Near.TheVariants.{Declared}
use Rattle.tg_explain_types.specs.Names.{spelled, near_text}

-- a name, with its place where it is declared in the text
abbrev pub name_text : (text : List ℕ) → Near → List ℕ
name_text text (Declared x) =
    quoted (spelled text x.span) ++ codes " of " ++ place_text (place_of text x.span.from)
name_text text near = quoted (near_text text near)
