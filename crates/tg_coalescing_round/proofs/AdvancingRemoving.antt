-- A temporary is taken out: what the code computes has the parts of which its laws speak.
use Rattle.std.proofs.Common.{◌≡◌, ℕ, ◌<◌, true, false, sym, ap, subst, ◌∙◌}
use Rattle.std.specs.Prelude.{fold}
use Rattle.tg_graph.specs.Interference.{is_among, neighbours}
use Rattle.tg_graph.proofs.Joining.{stays_below}
use Rattle.tg_coalescing_round.specs.glue.Tables.{is_related}
use Rattle.tg_coalescing_round.specs.glue.Works.{Work, is_open}
use Rattle.tg_coalescing_round.specs.mirror.Steps.{bereft, taken_out}
use Rattle.tg_coalescing_round.specs.glue.Standing.{IsOrderly}
use Rattle.tg_coalescing_round.proofs.AdvancingLosing.{IsBereft, changed, bereft_all}
use Rattle.tg_coalescing_round.proofs.AdvancingTaking.{out, built, temporary, out_fixed}

-- the neighbours of a node that is taken out have one less
module _ (w : Work) (h : IsOrderly w) (x : ℕ) (l : x < w.graph.nodes) (o : is_open w x ≡ true)
    (alone : is_related w.moves x ≡ false) where
  abbrev pub after_all : Work
  after_all = fold bereft (out w h x l o alone) (neighbours w.graph x)

  all : IsBereft (out w h x l o alone) after_all (λ z. is_among z (neighbours w.graph x))
  all =
      bereft_all (out w h x l o alone) (neighbours w.graph x) (h.graph.distinct x)
      (λ y e. let k = stays_below w.graph x y h.graph (temporary w h x l o alone) l
      (sym (h.graph.exact x y (temporary w h x l o alone)) ∙ e) in
      (subst (λ n. y < n) (sym h.sized.lists) k, out_fixed w h x l o alone y k))

  abbrev pub built_after : Work
  built_after =
      built w h x l o alone after_all.lists after_all.degrees after_all.moves.states after_all.moves.ready

  pub built_same : taken_out x w ≡ built_after
  unfolding taken_out
  built_same = all.same ∙ ap (changed (out w h x l o alone) after_all.lists after_all.degrees) all.moves.same

  pub built_bereft : IsBereft (out w h x l o alone) built_after (λ z. is_among z (neighbours w.graph x))
  built_bereft =
      subst (λ v. IsBereft (out w h x l o alone) v (λ z. is_among z (neighbours w.graph x)))
      (all.same ∙ ap (changed (out w h x l o alone) after_all.lists after_all.degrees) all.moves.same) all
