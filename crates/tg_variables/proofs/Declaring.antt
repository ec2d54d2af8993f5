-- The parts and the functions of a declaration before others.
use Rattle.std.proofs.Common.{◌≡◌, ◌++◌, ◌∷◌, ℕ, List, refl, sym, ap}
use Rattle.std.proofs.lemmas.List.{append-nil}
use Rattle.tg_syntax.specs.declared.trees.Dec.{Dec, Types, Variable', Functions}
use Rattle.tg_syntax.specs.Tree.{Decs, no_decs}
use Rattle.tg_syntax.specs.glue.Plain.{plain_kind, plain_dec, plain_functions}
use Rattle.tg_variables.specs.declared.parts.Part.{Part}
use Rattle.tg_variables.specs.declared.parts.Part.TheVariants.{Declares}
use Rattle.tg_variables.specs.declared.functions.OwnText.{OwnText}
use Rattle.tg_variables.specs.Parts.{parts, decs_parts}
use Rattle.tg_variables.specs.Functions.{texts, decs_texts, functions_texts}

pub decs_parts-dec : (d : Dec) (rest : Decs) → decs_parts (plain_dec d rest) ≡ decs_parts (plain_dec d no_decs) ++ decs_parts rest
decs_parts-dec (Types ds) rest = refl
decs_parts-dec (Variable' x t s e) rest =
    ap (λ (l : List Part). Declares x t ∷ (l ++ decs_parts rest)) (sym (append-nil (parts (plain_kind e s))))
decs_parts-dec (Functions fs) rest = refl

pub decs_texts-dec : (l : ℕ) (d : Dec) (rest : Decs) →
    decs_texts l (plain_dec d rest) ≡ decs_texts l (plain_dec d no_decs) ++ decs_texts l rest
decs_texts-dec l (Types ds) rest = refl
decs_texts-dec l (Variable' x t s e) rest =
    ap (λ (found : List OwnText). found ++ decs_texts l rest) (sym (append-nil (texts l (plain_kind e s))))
decs_texts-dec l (Functions fs) rest =
    ap (λ (found : List OwnText). found ++ decs_texts l rest) (sym (append-nil (functions_texts l (plain_functions fs))))
