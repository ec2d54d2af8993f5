-- A whole code, from an empty draft.
use Rattle.std.proofs.Common.{ℕ, ◌≡◌, List, [], ◌++◌, ap, ◌∙◌}
use Rattle.tg_tree.specs.Tree.{Linear, Function}
use Rattle.tg_munch.specs.declared.drafts.Draft.{Draft}
use Rattle.tg_munch.specs.mirror.Choosing.{NumbersDrawn}
use Rattle.tg_munch.specs.mirror.Bodies.{body, mark_above, munched}
use Rattle.tg_munch.specs.glue.Drafts.{Writes, drawn_in}

abbrev drawn : ℕ → ℕ → NumbersDrawn
drawn t m = record { temp = t; mark = m }

pub whole : (f : Function (List Linear)) (a b : Draft) → a.list.items ≡ [] → a.temp ≡ f.temps → a.mark ≡ mark_above f.body → Writes (body f) a b tt →
    (b.list.items ≡ (munched f).code) × (b.temp ≡ (munched f).drawn.temp)
whole f a b empty temps marks w =
    let e : drawn_in a ≡ drawn f.temps (mark_above f.body) = ap (λ t. drawn t a.mark) temps ∙ ap (drawn f.temps) marks in (
      w.list ∙ (ap (λ xs. xs ++ (body f (drawn_in a)).code) empty ∙ ap (λ d. (body f d).code) e),
      ap (λ d. d.temp) (w.drawn ∙ ap (λ d. (body f d).drawn) e),
    )
