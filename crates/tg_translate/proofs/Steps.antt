-- Actions, one after another: what is drawn by the first is handed to the next.
use Rattle.std.proofs.Common.{◌≡◌, refl, ap, ◌∙◌}
use Rattle.tg_tree.specs.Tree.{Tx}
use Rattle.tg_translate.specs.mirror.States.{TranslationState, Translates, Translated, drawn, after, give}
use Rattle.tg_translate.specs.mirror.Wants.{Made, value_of}
use Rattle.tg_translate.specs.glue.Parts.{Bounds}

pub step :
    {A B : Type 0} {x : Translated A} {a : A} {s : TranslationState} {d : Translated B} (next : A → Translates B) →
    x ≡ drawn a s → next a s ≡ d → after x next ≡ d
step next h k = ap (λ y. after y next) h ∙ k

-- two steps that are one action, and what comes after it
pub step_on :
    {A B C : Type 0} {x : Translated A} {a : A} {s : TranslationState} {d : Translated C} (f : A → Translates B) (g : B → Translates C) →
    x ≡ drawn a s → after (f a s) g ≡ d → after (after x f) g ≡ d
step_on f g h k = ap (λ y. after (after y f) g) h ∙ k

-- a loop's bounds: the first is a value while the last is made, and the last becomes one
abbrev pub bounded : Tx → Made → Bounds
bounded low high = record { low = low; high = high }

last_made :
    {A : Type 0} (low : Tx) (high : Translated Made) (next : Tx → Tx → Translates A) →
    after (after high value_of) (next low)
    ≡ after (after high (λ m. give (bounded low m))) (λ b s. after (value_of b.high s) (next b.low))
last_made low (drawn m t) next = refl

pub bounds_made :
    {A : Type 0} (low : Translated Tx) (high : Translates Made) (next : Tx → Tx → Translates A) →
    after low (λ x s. after (after (high s) value_of) (next x))
    ≡ after (after low (λ x s. after (high s) (λ m. give (bounded x m)))) (λ b s. after (value_of b.high s) (next b.low))
bounds_made (drawn x t) high next = last_made x (high t) next
