use Rattle.std.proofs.Common.{rules, arith, ◌≡◌, ◌+◌, ◌-◌, ℕ, List, ◌++◌, length, take, drop, sym, ap, ◌∙◌}
use Rattle.std.proofs.lemmas.Grind.{common_steps}
use Rattle.std.proofs.lemmas.List.{take-append-drop}
use Rattle.std.proofs.Math.Seq.{take-append_seam}
use Rattle.tg_base.proofs.sources.Rest.fill.Goals as goal

front : (copied z : List ℕ) (n : ℕ) → length copied ≡ n → take n (copied ++ z) ≡ copied
front copied z n e = ap (λ k. take k (copied ++ z)) (sym e) ∙ take-append_seam copied z

whole : (xs copied z : List ℕ) (at n : ℕ) → copied ≡ take (at + n - at) (drop at xs) → length copied ≡ n → drop at xs ≡ take n (copied ++ z) ++ drop (at + n) xs
whole xs copied z at n e l =
    rw (front copied z n l) (grind (arith, common_steps, e, take-append-drop n (drop at xs), same))
  where
    same : at + n - at ≡ n
    same = omega arith

pub returns-clause-bytes : goal.returns-clause-bytes
returns-clause-bytes c =
    sym c.self.view_is ∙ whole c.self.inside.bytes.items c.copy_from_slice.new.self _ c.self.inside.at c.min-count.result (search rules) (search rules)
