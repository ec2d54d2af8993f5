-- What a round answers is what its end holds.
use Rattle.std.proofs.Common.{◌≡◌, ℕ, ◌<◌, sym, ap, ◌∙◌}
use Rattle.std.proofs.Common.{arith, length, Option, Some, zero-add}
use Rattle.std.specs.Prelude.{slice_get, option_map}
use Rattle.std.specs.List.{range_with_len}
use Rattle.std.proofs.lemmas.Option.{slice_get-map, slice_get-get_or}
use Rattle.std.proofs.lemmas.List.FromFn.{length-range_with_len, get_or-range_with_len}
use Rattle.tg_irc_definition.specs.States.{Problem}
use Rattle.tg_irc_definition.specs.Selection.{select}
use Rattle.tg_irc_definition.specs.Rounds.{listed, end, IsRound}
use Rattle.tg_irc_definition.specs.declared.rounds.Round.{Round}

-- Lists of a function's values.
pub listed_at : {A : Type 0} (n : ℕ) (f : ℕ → A) (i : ℕ) → i < n → slice_get (listed n f) i ≡ Some (f i)
listed_at n f i l =
    let len = length-range_with_len 0 n in
    slice_get-map f (range_with_len 0 n) i ∙
    (ap (option_map f) (slice_get-get_or (range_with_len 0 n) i 0 (omega arith)) ∙ ap (λ x. Some (f x))
    (get_or-range_with_len 0 n i 0 l ∙ zero-add i))

pub the_same : {A : Type 0} {x y : A} → Some x ≡ Some y → x ≡ y
the_same e = cc

module _ (g : Problem) (round : Round) (r : IsRound g round) where
  abbrev pub colour_of : ℕ → Option ℕ
  colour_of x = (select g (end g round)).colour ((end g round).alias x)

  pub answered : (x : ℕ) → x < g.graph.nodes → slice_get round.colours x ≡ Some (colour_of x)
  answered x l = ap (λ l. slice_get l x) r.colours ∙ listed_at g.graph.nodes colour_of x l

  pub is_coloured : (x a : ℕ) → x < g.graph.nodes → slice_get round.colours x ≡ Some (Some a) → colour_of x ≡ Some a
  is_coloured x a l e = the_same (sym (answered x l) ∙ e)

  pub state_of : (i : ℕ) → i < length g.moves → slice_get round.states i ≡ Some ((end g round).states i)
  state_of i l = ap (λ l. slice_get l i) r.states ∙ listed_at (length g.moves) (end g round).states i l
