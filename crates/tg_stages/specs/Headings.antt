-- The name of each function of a program, and where the source declares it.
use Rattle.std.specs.Prelude.{ℕ, List, [], ◌∷◌, ◌++◌, Some, None, codes, map, slice_index_or}
use Rattle.tg_base.specs.Lines.{place_of}
use Rattle.tg_syntax.specs.declared.tokens.Ident.{Ident}
use Rattle.tg_syntax.specs.Tree.{Exp}
use Rattle.tg_stages.specs.declared.headings.Heading.{Heading}
use Rattle.tg_stages.specs.DeclaredFunctions.{declared}

-- of a function of the source, by its text and the names of its identifiers
abbrev pub heading_of : (text : List ℕ) → (names : List (List ℕ)) → Ident → Heading
heading_of text names f = record {
  name = slice_index_or names f.name.0 [];
  place = Some (place_of text f.span.from);
}

-- of a function that no source declares: the program's body, and those of the runtime
abbrev pub undeclared : (name : List ℕ) → Heading
undeclared name = record { name = name; place = None }

-- the names of the runtime's functions, in the order of their labels
abbrev pub routine_names : List (List ℕ)
routine_names =
    codes "make_record" ∷ codes "make_array" ∷ codes "compare" ∷ codes "print" ∷ codes "flush" ∷
    codes "getchar" ∷ codes "ord" ∷ codes "chr" ∷ codes "size" ∷ codes "substring" ∷
    codes "concat" ∷ codes "not" ∷ codes "exit" ∷ []

-- the program's body, then the functions of its source in their order, then the runtime's
abbrev pub headings : (text : List ℕ) → (names : List (List ℕ)) → Exp → List Heading
headings text names body =
    undeclared (codes "main") ∷
    (map (heading_of text names) (declared body) ++ map undeclared routine_names)
