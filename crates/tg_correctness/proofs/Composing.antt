-- The passes one after the other, after the translation.
use Rattle.std.proofs.Common.{ℕ, ◌⊎◌, inl, inr, arith}
use Rattle.tg_simulation.specs.Runs.{Run}
use Rattle.tg_simulation.specs.Ran.{Ran, Stop, Ended, WantsFuel}
use Rattle.tg_simulation.specs.Preserving.{Preserves}
use Rattle.tg_simulation.specs.Agreement.{Source, IsCut, IsSame, Agrees}
use Rattle.tg_simulation.proofs.Agreeing.{passes_compose, following_agrees, following_fills, agreement_goes_on}
use Rattle.tg_simulation.proofs.Agreeing.{full_stack_goes_on}
use Rattle.tg_correctness.specs.laws.Laws.{PassesAgree, ArePreserved}

abbrev composed_work : ℕ
composed_work = 3328

abbrev composed_besides : ℕ
composed_besides = 967

looser_cut : (o : Source) (p : Ran) → IsCut composed_work composed_besides o p → IsCut 4096 65536 o p
looser_cut o p h = let w = h.work in record { full = h.full; past = h.past; front = h.front; work = omega (arith, w) }

looser_same : (o : Source) (p : Ran) (s : Stop) → IsSame composed_work composed_besides o p s →
    IsSame 4096 65536 o p s
looser_same o p s h = let w = h.work in
    record { stops = h.stops; output = h.output; input = h.input; work = omega (arith, w) }

looser_both : (o : Source) (p : Ran) (s : Stop) → IsSame composed_work composed_besides o p s
    ⊎ IsCut composed_work composed_besides o p →
    IsSame 4096 65536 o p s ⊎ IsCut 4096 65536 o p
looser_both o p s (inl h) = inl (looser_same o p s h)
looser_both o p s (inr h) = inr (looser_cut o p h)

looser : (c : Run Source) (d : Run Ran) → Agrees composed_work composed_besides c d → Agrees 4096 65536 c d
looser c d h =
    record {
      ends = λ n e m. let x = h.ends n e m in (x.0, looser_both (c n) (d x.0) (Ended e) x.1);
      goes_on = λ n m. let x = h.goes_on n m in (x.0, x.1, looser_both (c n) (d x.0) WantsFuel x.2);
      ends_only = h.ends_only;
      full_only = λ m s. looser_cut (c m) (d m) (h.full_only m s);
      never_wrong = h.never_wrong;
    }

-- all passes after the translation
behind_trees : (stack : ℕ) (source : Run Source) (trees flat instructions registers machine : Run Ran) →
    ArePreserved stack source trees flat instructions registers machine → Preserves 13 135 trees machine
behind_trees stack source trees flat instructions registers machine h =
    passes_compose 13 130 1 5 trees registers machine
    (passes_compose 13 130 1 0 trees instructions registers
    (passes_compose 1 1 13 117 trees flat instructions h.flattened h.chosen) h.allocated) h.emitted

pub passes_agree : PassesAgree
passes_agree stack source trees flat instructions registers machine never unstuck stays ends h =
    let all = behind_trees stack source trees flat instructions registers machine h in
    let begun = following_agrees stack 256 64 source trees never unstuck stays h.translated in (
      looser source machine (agreement_goes_on 256 64 13 135 source trees machine begun all ends),
      full_stack_goes_on stack 13 135 source trees machine
          (following_fills stack 256 64 source trees unstuck h.translated) all,
    )
