-- The declarations that can be seen at a byte of a program.
use Rattle.std.specs.Prelude.{ℕ, ◌==◌, ◌&&◌, not, List, [], ◌∷◌, ◌++◌, Bool, true, false, nat_le}
use Rattle.std.specs.Prelude.{nat_lt, if◌then◌else◌}
use Rattle.std.specs.List.{list_any}
use Rattle.tg_explain_types.specs.declared.declarations.Sort.{Sort}
use Rattle.tg_explain_types.specs.declared.declarations.Sort.TheVariants.{TypeName}
use Rattle.tg_explain_types.specs.declared.declarations.Declaration.{Declaration}
use Rattle.tg_explain_types.specs.declared.declarations.Part.{Part}
use Rattle.tg_explain_types.specs.declared.declarations.Part.TheVariants.{Declared, Called}

abbrev pub is_type : Sort → Bool
is_type TypeName = true
is_type _ = false

-- types have one name space, variables and functions share the other
abbrev pub share_space : Sort → Sort → Bool
share_space TypeName other = is_type other
share_space one other = not (is_type other)

abbrev pub hides : (inner outer : Declaration) → Bool
hides inner outer = inner.ident.name.0 == outer.ident.name.0 && share_space inner.sort outer.sort

abbrev pub covers : Declaration → (at : ℕ) → Bool
covers d at = nat_le d.seen.from at && nat_lt at d.seen.to

-- what is seen at a byte once one more declaration stands around it
abbrev pub with_outer : (at : ℕ) → Declaration → (inner : List Declaration) → List Declaration
with_outer at d inner =
    if covers d at && not (list_any (λ i. hides i d) inner) then inner ++ d ∷ [] else inner

-- what is seen at a byte of a program of these parts, the innermost first
abbrev pub seen_at : (at : ℕ) → List Part → List Declaration
seen_at at [] = []
seen_at at (Declared d ∷ parts) = with_outer at d (seen_at at parts)
seen_at at (Called _ _ ∷ parts) = seen_at at parts
