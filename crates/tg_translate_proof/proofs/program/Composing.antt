-- From the simulation of the run that looks at static links to the theorem.
use Rattle.std.proofs.Common.{◌≡◌, ℕ, ◌-◌, List, refl, sym, ap, ◌∙◌}
use Rattle.tg_machine_state.specs.State.{stack_top}
use Rattle.tg_simulation.specs.Agreement.{Follows, Agrees}
use Rattle.tg_simulation.specs.laws.Laws.{NeverEndsFull, NeverStuck}
use Rattle.tg_simulation.proofs.Agreeing.{following_agrees, following_fills}
use Rattle.tg_simulation.proofs.Following.{follows_along}
use Rattle.tg_semantics.specs.Passing.{evaluate_passing}
use Rattle.tg_semantics.proofs.AsSource.{no_ending_is_full, only_stuck_is_stuck}
use Rattle.tg_semantics.proofs.Twin.{twins}
use Rattle.tg_typecheck.specs.Programs.{CheckedProgram}
use Rattle.tg_typecheck.proofs.NeverStuck.{never_stuck}
use Rattle.tg_tree.specs.Units.{Trees}
use Rattle.tg_tree.proofs.TreeRuns.{trees_stay_over}
use Rattle.tg_tree.proofs.Linked.{linked_stays_over, linked_is_trees}
use Rattle.tg_correctness.specs.laws.Laws.{tree_work, tree_besides}
use Rattle.tg_translate_proof.specs.laws.Laws.{LinkedTreesFollow, TranslateIsCorrect, MayRun, source_run, trees_run, with_links, trees_of, level_in}

module _ (p : CheckedProgram) (size : ℕ → ℕ) (heap stack : ℕ) (input : List ℕ) (may : MayRun p size heap stack input) where
  never_ends_full : NeverEndsFull (source_run p heap stack input)
  never_ends_full n h = no_ending_is_full (evaluate_passing p.names p.body input heap stack n).end h

  pub unstuck : NeverStuck (source_run p heap stack input)
  unstuck n h =
      never_stuck p may.accepted input heap stack n
      (ap (λ o. o.end) (twins p.names p.body input heap stack n) ∙
      only_stuck_is_stuck (evaluate_passing p.names p.body input heap stack n).end h)

-- the theorem, from the simulation alone
pub kept_by_simulation : LinkedTreesFollow → TranslateIsCorrect
kept_by_simulation follow p size heap stack input may =
    let c = source_run p heap stack input in
    let linked = with_links p size heap stack input in
    let d = trees_run p size heap stack input in
    let agreed : Agrees tree_work tree_besides c linked =
    following_agrees stack tree_work tree_besides c linked (never_ends_full p size heap stack input may) (unstuck p size heap stack input may)
    (linked_stays_over Trees (trees_of p) size (stack_top - stack) heap (level_in p) 32 input) (follow p size heap stack input may) in
    let same : (n : ℕ) → linked n ≡ d n =
    λ n. linked_is_trees Trees (trees_of p) size (stack_top - stack) heap (level_in p) 32 input n (agreed.never_wrong n) in
    let follows : (n : ℕ) → Follows stack tree_work tree_besides n c d =
    λ n. follows_along stack tree_work tree_besides n c c linked d (λ i. refl) (λ i. sym (same i)) (follow p size heap stack input may n) in
    record {
      follows = follows;
      agrees =
          following_agrees stack tree_work tree_besides c d (never_ends_full p size heap stack input may) (unstuck p size heap stack input may)
          (trees_stay_over Trees (trees_of p) size (stack_top - stack) heap 32 input) follows;
      fills = following_fills stack tree_work tree_besides c d (unstuck p size heap stack input may) follows;
      links = same;
    }
