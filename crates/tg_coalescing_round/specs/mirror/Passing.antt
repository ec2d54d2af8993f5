-- Whether two classes may be coalesced, by the neighbours that are high, and under which node the
-- class of two stands.
use Rattle.std.specs.Prelude.{ℕ, ◌+◌, ◌==◌, nat_lt, Bool, not, ◌&&◌, ◌||◌, if◌then◌else◌, count_by}
use Rattle.std.specs.Bool.{beq}
use Rattle.tg_graph.specs.Interference.{colours, is_register, interferes, neighbours}
use Rattle.tg_coalescing_round.specs.glue.Groupings.{is_made}
use Rattle.tg_coalescing_round.specs.glue.Works.{Work, degree_at, is_high}

module _ (w : Work) where
  -- the high neighbours of a temporary
  abbrev pub high_around : ℕ → ℕ
  high_around x = count_by (is_high w.lists) (neighbours w.graph x)

  -- and those that don't interfere with another node
  abbrev pub high_apart : (node apart : ℕ) → ℕ
  high_apart x r =
      count_by (λ z. is_high w.lists z && not (interferes w.graph r z)) (neighbours w.graph x)

  abbrev pub passes_george : (register temporary : ℕ) → Bool
  passes_george r t = high_apart t r == 0

  abbrev pub passes_briggs : ℕ → ℕ → Bool
  passes_briggs x y = nat_lt (high_around x + high_apart y x) colours

  abbrev pub passes : ℕ → ℕ → Bool
  passes x y =
      if is_register x then passes_george x y
      else if is_register y then passes_george y x
      else passes_briggs x y

  -- the class of two stands under the first: the register where one is, else the one that holds an
  -- original, else the one of larger degree
  abbrev pub stands_under : (first second : ℕ) → Bool
  stands_under x y =
      if is_register x || is_register y then is_register x
      else if beq (is_made w.classes x) (is_made w.classes y)
      then not (nat_lt (degree_at w x) (degree_at w y))
      else is_made w.classes y
