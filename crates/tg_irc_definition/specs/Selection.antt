-- Select (George and Appel 1996, section 2): the nodes that were taken out are popped, and each
-- gets a colour or is spilled.
use Rattle.std.specs.Prelude.{ℕ, ◌==◌, Bool, false, not, ◌&&◌, if◌then◌else◌}
use Rattle.std.specs.Prelude.{List, [], ◌∷◌, ◌++◌, fold, find, Option, Some, None, is_none}
use Rattle.std.specs.List.{list_any, range_with_len}
use Rattle.tg_irc_definition.specs.Graphs.{colour_count, is_register, some}
use Rattle.tg_irc_definition.specs.States.{Problem, RoundState, members}

-- the colour of each class that has one by now, and the classes that found none, in the order in
-- which they were popped
pub record Colouring : Type 0 where
  pub colour : ℕ → Option ℕ
  pub spilled : List ℕ

abbrev pub has_colour : Option ℕ → ℕ → Bool
has_colour None colour = false
has_colour (Some c) colour = c == colour

-- the registers have their own colours
abbrev pub precoloured : Colouring
precoloured = record { colour = λ x. if is_register x then Some x else None; spilled = [] }

module _ (g : Problem) (s : RoundState) where
  -- the node interferes at the start with a class that has the colour by now
  abbrev pub sees : Colouring → (colour y : ℕ) → Bool
  sees c colour y =
      some (λ z. g.graph.pairs y z && has_colour (c.colour (s.alias z)) colour) g.graph.nodes

  -- no member of the class does
  abbrev pub is_free : Colouring → (x colour : ℕ) → Bool
  is_free c x colour = not (list_any (sees c colour) (members g s x))

  -- the first free colour
  abbrev pub pop : Colouring → ℕ → Colouring
  pop c x =
      let first = find (is_free c x) (range_with_len 0 colour_count) in
      record {
        colour = λ y. if y == x then first else c.colour y;
        spilled = if is_none first then c.spilled ++ x ∷ [] else c.spilled;
      }

  abbrev pub select : Colouring
  select = fold pop precoloured s.stack
