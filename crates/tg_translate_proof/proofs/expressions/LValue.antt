-- Every l-value, from the facts of the expressions in it.
use Rattle.std.proofs.Common.{ℕ}
use Rattle.tg_syntax.specs.Tree.{LValue, Simple, Field, Index}
use Rattle.tg_translate_proof.specs.glue.Situations.{Program, Setting}
use Rattle.tg_translate_proof.specs.glue.Shown.{Shown}
use Rattle.tg_translate_proof.proofs.invariant.Parts.{StatesGrow}
use Rattle.tg_translate_proof.proofs.expressions.LValueAddress.{Premises, PlaceShown, name_shown}
use Rattle.tg_translate_proof.proofs.expressions.Field.{field_shown}
use Rattle.tg_translate_proof.proofs.expressions.Index.{element_shown}

-- a law on each expression of an l-value
abbrev pub IndicesShown : Program → ℕ → LValue → Type 0
IndicesShown P n (Simple x) = Unit {0}
IndicesShown P n (Field v f) = IndicesShown P n v
IndicesShown P n (Index v e) = IndicesShown P n v × Shown P n e

pub place_shown : (P : Program) (set : Setting P) (premises : Premises P) (grow : StatesGrow P) (n : ℕ) (v : LValue) → IndicesShown P n v → PlaceShown P n v
place_shown P set premises grow n (Simple x) h = λ s. name_shown P set premises n x s
place_shown P set premises grow n (Field v f) h = λ s. field_shown P set premises n v f (place_shown P set premises grow n v h) s
place_shown P set premises grow n (Index v e) h = λ s. element_shown P set premises grow n v e (place_shown P set premises grow n v h.0) h.1 s
