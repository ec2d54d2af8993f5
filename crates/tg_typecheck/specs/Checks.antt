-- Checks, one after another: the first fault is given. They thread the shapes of the forms that
-- were declared so far, and the notes so far, in the order of the text.
use Rattle.std.specs.Prelude.{ℕ, List, [], ◌∷◌, ◌++◌, Option, Some, None, Bool, true, false}
use Rattle.tg_typecheck.specs.declared.faults.TypeRule.{TypeRule}
use Rattle.tg_typecheck.specs.declared.notes.Note.{Note}
use Rattle.tg_typecheck.specs.declared.notes.Means.{Means}
use Rattle.tg_typecheck.specs.Types.{Shape}
use Rattle.tg_symbols.specs.Tables.{looked_up}

pub record Noted : Type 0 where
  pub shapes : List (ℕ × Shape)
  pub notes : List Note

pub data CheckResult (A : Type 0) : Type 0 where
  fine : A → Noted → CheckResult A
  fault : TypeRule → (at : ℕ) → CheckResult A

abbrev pub Check : Type 0 → Type 0
Check A = Noted → CheckResult A

abbrev pub on_fine : {A B : Type 0} → CheckResult A → (A → Check B) → CheckResult B
on_fine (fine a noted) next = next a noted
on_fine (fault rule at) next = fault rule at

infixl 10 ◌>>=◌
infixl 10 ◌>>◌
unfoldable pub ◌>>=◌ : {A B : Type 0} → Check A → (A → Check B) → Check B
◌>>=◌ m next = λ noted. on_fine (m noted) next

abbrev pub ◌>>◌ : {A B : Type 0} → Check A → Check B → Check B
◌>>◌ m next = m >>= λ _. next

unfoldable pub give : {A : Type 0} → A → Check A
give a = λ noted. fine a noted

unfoldable pub refuse : {A : Type 0} → TypeRule → (at : ℕ) → Check A
refuse rule at = λ noted. fault rule at

-- the rule is kept where the test holds
abbrev pub keep : TypeRule → (at : ℕ) → Bool → Check (Unit {0})
keep rule at true = give tt
keep rule at false = refuse rule at

abbrev pub present : {A : Type 0} → TypeRule → (at : ℕ) → Option A → Check A
present rule at (Some a) = give a
present rule at None = refuse rule at

unfoldable pub note : (at : ℕ) → Means → Check (Unit {0})
note at means =
    λ n. fine tt (record n { notes = n.notes ++ record { at = at; means = means } ∷ [] })

unfoldable pub shape_at : (at : ℕ) → Check (Option Shape)
shape_at at = λ noted. fine (looked_up at noted.shapes) noted

unfoldable pub add_shape : (at : ℕ) → Shape → Check (Unit {0})
add_shape at shape = λ noted. fine tt (record noted { shapes = (at, shape) ∷ noted.shapes })
