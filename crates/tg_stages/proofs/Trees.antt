-- The trees that are told of a function, folded or not.
use Rattle.std.proofs.Common.{◌≡◌, ℕ, Bool, true, false, List, [], ◌++◌, sym, ap, ◌∙◌, append_assoc}
use Rattle.std.specs.Prelude.{if◌then◌else◌}
use Rattle.std.proofs.lemmas.List.{append-nil}
use Rattle.tg_tree.specs.Tree.{Ts, Function}
use Rattle.tg_fold.specs.laws.Laws.{folded_function}
use Rattle.tg_compile.specs.declared.passes.Passes.{Passes}
use Rattle.tg_show.specs.Stages.{tree_stage, folded_stage}
use Rattle.tg_stages.specs.Shown.{trees_text}

abbrev by_flag : (before : List ℕ) → Function Ts → Bool → List ℕ
by_flag t f b = t ++ (tree_stage [] f.body ++ (if b then folded_stage [] (folded_function f).body else []))

pub tree_alone : (passes : Passes) (f : Function Ts) (t u : List ℕ) → passes.fold ≡ false → u ≡ t ++ tree_stage [] f.body → u ≡ t ++ trees_text passes f
tree_alone passes f t u off is =
    is ∙ ap (λ x. t ++ x) (sym (append-nil (tree_stage [] f.body))) ∙ ap (λ b. by_flag t f b) (sym off)

pub tree_and_folded : (passes : Passes) (f : Function Ts) (g : Ts) (t u v : List ℕ) → passes.fold ≡ true → g ≡ (folded_function f).body →
    u ≡ t ++ tree_stage [] f.body → v ≡ u ++ folded_stage [] g → v ≡ t ++ trees_text passes f
tree_and_folded passes f g t u v on is p q =
    q ∙ ap (λ x. x ++ folded_stage [] g) p ∙ append_assoc t (tree_stage [] f.body) (folded_stage [] g)
    ∙ ap (λ (b : Ts). t ++ (tree_stage [] f.body ++ folded_stage [] b)) is ∙ ap (λ b. by_flag t f b) (sym on)
