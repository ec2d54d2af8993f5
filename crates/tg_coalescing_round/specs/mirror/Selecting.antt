-- Select over the merged graph (George and Appel 1996, section 2).
use Rattle.std.specs.Prelude.{ℕ, ◌<◌, All, IfSome, Bool, not, if◌then◌else◌, Option, Some, None}
use Rattle.std.specs.Prelude.{is_none}
use Rattle.std.specs.Prelude.{List, [], ◌∷◌, ◌++◌, fold, find, map, reverse, slice_index_or}
use Rattle.std.specs.Prelude.{slice_set}
use Rattle.std.specs.List.{list_any, range_with_len}
use Rattle.tg_graph.specs.Interference.{Interference, colours, is_register, neighbours}
use Rattle.tg_irc_definition.specs.Selection.{has_colour}

-- the colour of each class by the node under which it stands, and the classes that found none, in
-- the order in which they were popped
pub record Picks : Type 0 where
  pub colours : List (Option ℕ)
  pub spilled : List ℕ

abbrev pub colour_at : List (Option ℕ) → ℕ → Option ℕ
colour_at list x = slice_index_or list x None

-- each colour is that of a register
abbrev pub AreColours : List (Option ℕ) → Type 0
AreColours list = All (λ c. IfSome c (λ colour. colour < colours)) list

-- registers have their own colours
abbrev pub own_colour : ℕ → Option ℕ
own_colour x = if is_register x then Some x else None

abbrev pub precoloured : (nodes : ℕ) → List (Option ℕ)
precoloured nodes = map own_colour (range_with_len 0 nodes)

-- a neighbour has the colour
abbrev pub is_taken : Interference → List (Option ℕ) → (node colour : ℕ) → Bool
is_taken g list x colour =
    list_any (λ z. has_colour (colour_at list z) colour) (neighbours g x)

abbrev pub first_free : (ℕ → Bool) → Option ℕ
first_free taken = find (λ colour. not (taken colour)) (range_with_len 0 colours)

abbrev pub popped : Interference → Picks → ℕ → Picks
popped g picks x =
    let free = first_free (is_taken g picks.colours x) in
    record {
      colours = slice_set picks.colours x free;
      spilled = if is_none free then picks.spilled ++ x ∷ [] else picks.spilled;
    }

unfoldable pub selected : Interference → List ℕ → Picks
selected g stack =
    fold (popped g) (record { colours = precoloured g.nodes; spilled = [] }) (reverse stack)
