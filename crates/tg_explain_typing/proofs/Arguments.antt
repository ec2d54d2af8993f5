-- The facts of a call's arguments, once the last one is reached.
use Rattle.std.proofs.Common.{◌≡◌, ℕ, ◌≤◌, List, length, drop, sym, ap, ◌∙◌}
use Rattle.std.proofs.lemmas.List.{at_drop_all}
use Rattle.tg_syntax.specs.declared.tokens.Ident.{Ident}
use Rattle.tg_syntax.specs.declared.trees.Exp.{Exp}
use Rattle.tg_syntax.specs.declared.trees.Exps.{Exps, out-Exps}
use Rattle.tg_syntax.specs.glue.Plain.{plain_exps}
use Rattle.tg_syntax.specs.glue.Lists.{exps_of}
use Rattle.tg_syntax.proofs.ListLaws.{plain_exps-items}
use Rattle.tg_explain_typing.specs.declared.facts.Fact.{Fact}
use Rattle.tg_explain_typing.specs.Facts.{args_facts}

pub args_end : (text : List ℕ) (at : ℕ) (f : Ident) (xs : List Exp) (es : Exps) (i : ℕ) (before all : List Fact) → xs ≡ (out-Exps es).items.items →
    length xs ≤ i → args_facts text at f i (exps_of (drop i xs)) all ≡ args_facts text at f 0 (exps_of xs) before →
    all ≡ args_facts text at f 0 (plain_exps es) before
args_end text at f xs es i before all e l inv =
    sym (at_drop_all (λ ys. args_facts text at f i (exps_of ys) all) xs i l) ∙ inv
    ∙ ap (λ w. args_facts text at f 0 (exps_of w) before) e ∙ sym (ap (λ w. args_facts text at f 0 w before) (plain_exps-items es))
