-- Sets and maps of names, beside the lists that the definition searches.
use Rattle.std.specs.Prelude.{◌≡◌, ◌<◌, ℕ, suc, ◌==◌, nat_eq, length, slice_get, List, [], ◌∷◌}
use Rattle.std.specs.Prelude.{Option, Some, None, if◌then◌else◌}
use Rattle.std.specs.Option.{option_map, unwrap_or}
use Rattle.std.specs.HashMap as hash
use Rattle.std.specs.HashMap.{HashMap}
use Rattle.std.specs.HashSet as set
use Rattle.std.specs.HashSet.{HashSet}
use Rattle.tg_syntax.specs.declared.tokens.Ident.{Ident}
use Rattle.tg_syntax.specs.Tree.{Form, TypeDec, Alias, Fields, Array}
use Rattle.tg_syntax.specs.declared.trees.TypeDec.{TypeDec as CodeTypeDec}
use Rattle.tg_typecheck.specs.Types.{Ty}
use Rattle.tg_semantics.specs.Environments.{name_of}
use Rattle.tg_typecheck.specs.Groups.{Chain, outside, ends_at, endless, stands_in}
use Rattle.tg_typecheck.specs.declared.chains.Chain.{Chain as CodeChain}
use Rattle.tg_typecheck.specs.declared.chains.Chain.TheVariants.{Outside, EndsAt, Onward}
use Rattle.tg_syntax.specs.NamesWithin.{NameIsWithin}

-- a set holds the names of identifiers
abbrev pub HasNames : {S : Type 0} → HashSet ℕ S → List Ident → Type 0
HasNames seen xs = (y : ℕ) → set.contains nat_eq seen y ≡ stands_in y xs

-- the place of the first declaration of a name
abbrev pub place_in : ℕ → List TypeDec → Option ℕ
place_in x [] = None
place_in x (d ∷ ds) = if name_of d.name == x then Some 0 else option_map suc (place_in x ds)

-- a map holds the places of a group's names
abbrev pub HasPlaces : {S : Type 0} → HashMap ℕ ℕ S → List TypeDec → Type 0
HasPlaces places ds = (x : ℕ) → hash.get nat_eq places x ≡ place_in x ds

-- where a chain stands after some links: outside a group, at a form, or at an alias that leads on
abbrev pub chain_from : List TypeDec → CodeChain → Chain
chain_from ds (Outside x) = outside (name_of x)
chain_from ds (EndsAt k) = elim (slice_get ds k) [ Some d ↦ ends_at d | None ↦ endless ]
chain_from ds (Onward k) = endless

-- a chain names places of a group, and names within a list
abbrev pub ChainWithin : (count : ℕ) → List TypeDec → CodeChain → Type 0
ChainWithin n ds (Outside x) = NameIsWithin n x
ChainWithin n ds (EndsAt k) = k < length ds
ChainWithin n ds (Onward k) = k < length ds

-- the types of a group, opened one after another
abbrev pub named_types : List CodeTypeDec → List Ty → List (ℕ × Ty) → List (ℕ × Ty)
named_types (d ∷ ds) (t ∷ ts) before = named_types ds ts ((name_of d.name, t) ∷ before)
named_types _ _ before = before

-- each name of a group is declared once
abbrev pub AreDifferent : List TypeDec → Type 0
AreDifferent ds =
    (k : ℕ) (d : TypeDec) → slice_get ds k ≡ Some d → place_in (name_of d.name) ds ≡ Some k

-- where a chain begins at a name, and one link from each declaration of a group
abbrev pub start_at : Ident → Option ℕ → List TypeDec → CodeChain
start_at x None ds = Outside x
start_at x (Some k) ds =
    elim (slice_get ds k) [
      | Some d ↦ elim d.form [ Alias _ ↦ Onward k | Fields _ ↦ EndsAt k | Array _ ↦ EndsAt k ]
      | None ↦ Onward k
    ]

abbrev pub start_in : List TypeDec → Ident → CodeChain
start_in ds x = start_at x (place_in (name_of x) ds) ds

abbrev pub link_at : (whole : List TypeDec) → (at : ℕ) → Form → CodeChain
link_at whole k form =
    elim form [ Alias x ↦ start_in whole x | Fields _ ↦ EndsAt k | Array _ ↦ EndsAt k ]

abbrev pub links_in : (whole : List TypeDec) → (from : ℕ) → List TypeDec → List CodeChain
links_in whole k [] = []
links_in whole k (d ∷ ds) = link_at whole k d.form ∷ links_in whole (suc k) ds

-- a chain that leads on does so within a list of links, and where it leads by one of them
abbrev pub LeadsWithin : (count : ℕ) → CodeChain → Type 0
LeadsWithin n (Outside x) = Unit {0}
LeadsWithin n (EndsAt k) = Unit {0}
LeadsWithin n (Onward k) = k < n

abbrev pub followed : CodeChain → List CodeChain → CodeChain
followed (Outside x) links = Outside x
followed (EndsAt k) links = EndsAt k
followed (Onward k) links = unwrap_or (slice_get links k) (Onward k)
