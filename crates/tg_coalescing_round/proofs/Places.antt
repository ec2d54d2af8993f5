-- What is known of a node by the list in which it is.
use Rattle.std.proofs.Common.{◌≡◌, ℕ, Bool, not, ◌||◌, refl, ap, ◌∙◌}
use Rattle.std.specs.Prelude.{◌==◌}
use Rattle.tg_graph.specs.declared.worklists.Worklist.{Worklist}
use Rattle.tg_graph.specs.declared.worklists.Worklist.TheVariants.{Fixed, Simplify, Freeze, Spill, Stacked, Merged}
use Rattle.tg_graph.specs.Interference.{is_among}
use Rattle.tg_graph.specs.Lists.{Lists, nodes_in, number}
use Rattle.tg_coalescing_round.specs.glue.Works.{is_left, is_high, holds_remaining, holds_high}

pub remaining_by : (p : Worklist) → not ((4 == number p) || (5 == number p)) ≡ holds_remaining p
remaining_by Fixed = refl
remaining_by Simplify = refl
remaining_by Freeze = refl
remaining_by Spill = refl
remaining_by Stacked = refl
remaining_by Merged = refl

module _ (l : Lists) (x : ℕ) (place : Worklist)
    (told : (list : Worklist) → is_among x (nodes_in l list) ≡ (number list == number place)) where
  pub left_by : is_left l x ≡ holds_remaining place
  left_by =
      ap (λ (b : Bool). not (b || is_among x l.merged)) (told Stacked)
      ∙ (ap (λ (b : Bool). not ((4 == number place) || b)) (told Merged) ∙ remaining_by place)

  pub high_by : is_high l x ≡ holds_high place
  high_by =
      ap (λ (b : Bool). b || is_among x l.spill) (told Fixed)
      ∙ (ap (λ (b : Bool). (0 == number place) || b) (told Spill) ∙ by place)
    where
      by : (p : Worklist) → ((0 == number p) || (3 == number p)) ≡ holds_high p
      by Fixed = refl
      by Simplify = refl
      by Freeze = refl
      by Spill = refl
      by Stacked = refl
      by Merged = refl
