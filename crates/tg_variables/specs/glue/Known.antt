-- What private functions know of a program.
use Rattle.std.specs.Prelude.{◌≡◌, ℕ, List, [], unwrap_or, nat_eq}
use Rattle.std.specs.HashMap.{get, HashMap}
use Rattle.tg_syntax.specs.declared.tokens.Ident.{Ident}
use Rattle.tg_variables.specs.declared.sources.Source.{Source}
use Rattle.tg_variables.specs.Places.{ArePlaces}
use Rattle.tg_variables.specs.Users.{users_from}

-- the users of the variable of a byte
abbrev pub users_at : {S : Type 0} → HashMap ℕ (List Ident) S → (at : ℕ) → List Ident
users_at users at = unwrap_or (get nat_eq users at) []

-- the places are those of the text, and the users those of the functions
pub record IsKnown (s : Source) : Type 0 where
  pub places : ArePlaces s.text.now s.places.now
  pub users :
      (at : ℕ) →
      users_at s.users.now at ≡ users_from s.notes.now s.homes.now at s.texts.now []
