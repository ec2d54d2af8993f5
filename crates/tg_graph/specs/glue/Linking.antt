-- How worklists are kept: the end of each stands after the nodes, by the list's number.
use Rattle.std.specs.Prelude.{◌≡◌, ℕ, ◌+◌, ◌<◌, ◌≤◌, ◌==◌, List, length, slice_index}
use Rattle.std.specs.Prelude.{slice_index_or}
use Rattle.tg_graph.specs.declared.worklists.Worklist.{Worklist}
use Rattle.tg_graph.specs.declared.worklists.Worklist.TheVariants.{Fixed}
use Rattle.tg_graph.specs.Interference.{colours, most_nodes, is_among}
use Rattle.tg_graph.specs.Lists.{Lists, lists_by, number}
use Rattle.tg_graph.specs.glue.Chains.{AreInverse, follow, LeadsAlong}

abbrev pub list_from : ℕ → List ℕ → Worklist → List ℕ
list_from n next list = follow (slice_index next) n n (slice_index next (n + number list))

abbrev pub total : Lists → ℕ
total lists =
    length lists.fixed + length lists.simplify + length lists.freeze + length lists.spill
    + length lists.stacked + length lists.merged

-- these are the lists of the chains, and each node's place tells the list in which it is
pub record AreLinked
    (n : ℕ) (next prev : List ℕ) (places : List Worklist) (lists : Worklist → List ℕ) : Type 0 where
  pub some : colours ≤ n
  pub few : n ≤ most_nodes
  pub sized : length next ≡ n + 6
  pub placed : length places ≡ n
  pub inverse : AreInverse next prev
  pub runs : (list : Worklist) →
      LeadsAlong (slice_index next) n (slice_index next (n + number list)) (lists list)
      (n + number list)
  pub told : (list : Worklist) (x : ℕ) → x < n →
      is_among x (lists list) ≡ (number list == number (slice_index_or places x Fixed))
  pub fit : total (lists_by n lists) ≤ n
