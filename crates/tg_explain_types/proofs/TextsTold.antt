-- Texts that are put part by part: a loop over names, and the loop outside of a function.
use Rattle.std.proofs.Common.{ℕ, ◌+◌, ◌≡◌, ◌<◌, ◌≤◌, List, ◌++◌, length, drop, get_or, sym, ap, ◌∙◌, append_assoc, append-nil}
use Rattle.std.specs.Prelude.{codes}
use Rattle.std.proofs.lemmas.List.{at_drop_more, at_drop_all}
use Rattle.tg_base.specs.declared.places.Place.{Place}
use Rattle.tg_base.specs.Lines.{place_of}
use Rattle.tg_explain.specs.Lines.{place_text}
use Rattle.tg_explain_types.specs.declared.names.Near.{Near}
use Rattle.tg_explain_types.specs.NameTexts.{name_text}
use Rattle.tg_explain_types.specs.Lines.{more_names}
use Rattle.tg_explain_types.specs.TypeTexts.{outer_loop_text}

pub names_more : (text : List ℕ) (xs : List Near) (i : ℕ) (d : Near) (a b e whole : List ℕ) → i < length xs → a ++ more_names text (drop i xs) ≡ whole →
    b ≡ a ++ codes ", " → e ≡ b ++ name_text text (get_or xs i d) → e ++ more_names text (drop (i + 1) xs) ≡ whole
names_more text xs i d a b e whole l inv p q =
    ap (λ w. w ++ more_names text (drop (i + 1) xs)) (q ∙ ap (λ w. w ++ name_text text (get_or xs i d)) p)
    ∙ ap (λ w. w ++ more_names text (drop (i + 1) xs)) (append_assoc a (codes ", ") (name_text text (get_or xs i d)))
    ∙ append_assoc a (codes ", " ++ name_text text (get_or xs i d)) (more_names text (drop (i + 1) xs))
    ∙ ap (λ w. a ++ w) (sym (at_drop_more (more_names text) xs i d l)) ∙ inv

pub names_end : (text : List ℕ) (xs : List Near) (i : ℕ) (a whole : List ℕ) → length xs ≤ i → a ++ more_names text (drop i xs) ≡ whole → a ≡ whole
names_end text xs i a whole l inv = sym (append-nil a) ∙ ap (λ w. a ++ w) (sym (at_drop_all (more_names text) xs i l)) ∙ inv

pub outer_loop : (text : List ℕ) (at : ℕ) (line x y : List ℕ) (p : Place) → x ≡ line ++ codes "the loop of " → p ≡ place_of text at → y ≡ x ++ place_text p →
    y ++ codes " is not open" ≡ line ++ outer_loop_text text at
outer_loop text at line x y p e q r =
    ap (λ w. w ++ codes " is not open") (r ∙ ap (λ w. w ++ place_text p) e ∙ ap (λ w. (line ++ codes "the loop of ") ++ place_text w) q)
    ∙ append_assoc (line ++ codes "the loop of ") (place_text (place_of text at)) (codes " is not open")
    ∙ append_assoc line (codes "the loop of ") (place_text (place_of text at) ++ codes " is not open")
