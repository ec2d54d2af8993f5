-- What the changes of the work leave as it was.
use Rattle.std.proofs.Common.{◌≡◌, ℕ, Bool, true, false, refl}
use Rattle.std.specs.Prelude.{if◌then◌else◌}
use Rattle.tg_graph.specs.Lists.{moved}
use Rattle.tg_coalescing_round.specs.glue.Works.{Work, is_open, list_of, relisted}

-- a choice of two values has what both have
pub either : {A B : Type 0} (f : A → B) (b : Bool) (x y : A) (v : B) → f x ≡ v → f y ≡ v → f (if b then x else y) ≡ v
either f true x y v p q = p
either f false x y v p q = q

module _ (x : ℕ) (w : Work) where
  abbrev listed_again : Work
  listed_again = record w { lists = moved w.lists x (list_of w x) }

  -- what is seen alike where it is listed again
  relisted_sees : {V : Type 0} (see : Work → V) → see listed_again ≡ see w → see (relisted x w) ≡ see w
  unfolding relisted
  relisted_sees see p = either see (is_open w x) listed_again w (see w) p refl

  pub relisted_graph : (relisted x w).graph ≡ w.graph
  relisted_graph = relisted_sees (λ (v : Work). v.graph) refl

  pub relisted_degrees : (relisted x w).degrees ≡ w.degrees
  relisted_degrees = relisted_sees (λ (v : Work). v.degrees) refl

  pub relisted_classes : (relisted x w).classes ≡ w.classes
  relisted_classes = relisted_sees (λ (v : Work). v.classes) refl

  pub relisted_moves : (relisted x w).moves ≡ w.moves
  relisted_moves = relisted_sees (λ (v : Work). v.moves) refl

  pub relisted_nodes : (relisted x w).lists.nodes ≡ w.lists.nodes
  relisted_nodes = relisted_sees (λ (v : Work). v.lists.nodes) refl
