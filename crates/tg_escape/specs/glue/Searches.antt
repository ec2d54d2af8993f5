-- What the search for escaping variables and links has, and what a walk over a text does to it.
use Rattle.std.specs.Prelude.{◌≡◌, ℕ, List, [], ◌∷◌, length}
use Rattle.std.specs.Ordering.{nat_cmp}
use Rattle.std.specs.FinSet.{FinSet, insert}
use Rattle.tg_escape.specs.declared.found.Found.{Found}
use Rattle.tg_escape.specs.declared.searches.Search.{Search}
use Rattle.tg_syntax.specs.Tree.{Decs}
use Rattle.tg_escape.specs.Uses.{Seen, Use, declare_all, decs_uses}
use Rattle.tg_escape.specs.Escaping.{escapes_by}
use Rattle.tg_escape.specs.Links.{links_by}

-- a set with a list's bytes put in
abbrev pub with_all : List ℕ → FinSet nat_cmp → FinSet nat_cmp
with_all [] found = found
with_all (at ∷ rest) found = with_all rest (insert found at)

-- with what a use shows
abbrev pub with_use : Use → Found → Found
with_use u found = record {
  escapes = with_all (escapes_by u) found.escapes;
  links = with_all (links_by u) found.links;
}

abbrev pub with_uses : List Use → Found → Found
with_uses [] found = found
with_uses (u ∷ rest) found = with_uses rest (with_use u found)

-- afterwards these names are declared, the text around is the same, and what a text's uses show is
-- found, which are the first of a longer list
pub record Finds (old new : Search) (seen : Seen) (uses : List Use → List Use) : Type 0 where
  pub table : new.table ≡ seen
  pub within : new.within.items ≡ old.within.items
  pub found : (after : List Use) → with_uses (uses after) old.found ≡ with_uses after new.found

-- what the uses of a text show is found, and nothing more is declared
abbrev pub FindsUses : (old new : Search) → (List ℕ → Seen → List Use → List Use) → Type 0
FindsUses old new uses = Finds old new old.table (uses old.within.items old.table)

-- names are declared in a text of this level
abbrev pub Declares : (old new : Search) → (ℕ → Seen → Seen) → Type 0
Declares old new declare =
    Finds old new (declare (length old.within.items) old.table) (λ after. after)

-- what the uses of declarations show is found, which stay declared
abbrev pub FindsDeclared : (old new : Search) → Decs → Type 0
FindsDeclared old new ds =
    Finds old new (declare_all (length old.within.items) ds old.table)
    (decs_uses ds old.within.items old.table)
