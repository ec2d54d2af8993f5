-- Classes of nodes by the nodes under which they stand, and what is known of each class.
use Rattle.std.specs.Prelude.{◌≡◌, ℕ, ◌<◌, ◌^◌, Bool, false, List, length, map, sum, All}
use Rattle.std.specs.Prelude.{slice_index_or}
use Rattle.std.specs.List.{range_with_len}
use Rattle.tg_irc_definition.specs.declared.candidates.NodeFacts.{NodeFacts}
use Rattle.tg_coalescing_round.specs.glue.Lists.{list_at, poured, moved_sum, conjoined, singletons}
use Rattle.tg_coalescing_round.specs.glue.Lists.{set_at_all}

-- the node under which each node's class stands; and for each class its members, the sum of their
-- uses, and whether spilling has made all of them
pub record Grouping : Type 0 where
  pub aliases : List ℕ
  pub members : List (List ℕ)
  pub uses : List ℕ
  pub made : List Bool

-- each node in a class of its own
abbrev pub apart : List NodeFacts → Grouping
apart facts = record {
  aliases = range_with_len 0 (length facts);
  members = singletons (length facts);
  uses = map (λ m. m.uses) facts;
  made = map (λ m. m.made) facts;
}

abbrev pub is_made : Grouping → ℕ → Bool
is_made c x = slice_index_or c.made x false

-- two classes as one
abbrev pub joined : (kept gone : ℕ) → Grouping → Grouping
joined kept gone c = record {
  aliases = set_at_all kept (list_at c.members gone) c.aliases;
  members = poured kept gone c.members;
  uses = moved_sum kept gone c.uses;
  made = conjoined kept gone c.made;
}

-- what is kept of each grouping: aliases and members are nodes, and no sum of uses is too large
pub record IsGrouping (c : Grouping) : Type 0 where
  pub members_sized : length c.members ≡ length c.aliases
  pub uses_sized : length c.uses ≡ length c.aliases
  pub made_sized : length c.made ≡ length c.aliases
  pub aliases_below : All (λ x. x < length c.aliases) c.aliases
  pub members_below : (x : ℕ) → All (λ y. y < length c.aliases) (list_at c.members x)
  pub few : sum c.uses < 2 ^ 32
