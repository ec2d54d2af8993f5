-- Left sides of operators: each is evaluated first, in the very state where the whole begins. It is an
-- expression that is translated as it is, or one whose first read is known there.
use Rattle.std.proofs.Common.{◌≡◌, ℕ, List}
use Rattle.tg_syntax.specs.declared.trees.Op.{Op}
use Rattle.tg_syntax.specs.Tree.{Exp}
use Rattle.tg_semantics.specs.Values.{SourceWorld}
use Rattle.tg_typecheck.specs.Types.{Ty}
use Rattle.tg_tree.specs.Actions.{World, Temps}
use Rattle.tg_translate.specs.declared.homes.Within.{Within}
use Rattle.tg_translate.specs.declared.wants.Want.{Want}
use Rattle.tg_translate.specs.mirror.Choices.{left_want}
use Rattle.tg_translate.specs.mirror.Purity.{assigns_nothing}
use Rattle.tg_translate.specs.mirror.States.{TranslationState, Translates, drawn, after}
use Rattle.tg_translate.specs.mirror.Translate.{expression, with_left}
use Rattle.tg_translate.specs.mirror.Wants.{Made}
use Rattle.tg_translate_proof.specs.glue.Tables.{Later}
use Rattle.tg_translate_proof.specs.glue.Worlds.{Holdings}
use Rattle.tg_translate_proof.specs.glue.Situations.{Program, Part}
use Rattle.tg_translate_proof.specs.glue.Shown.{SituationBy, IsShown, Shown}

module _ (P : Program) where
  -- states only grow, by what translates an expression
  abbrev pub GrowsBy : (Want → Within → Translates Made) → Type 0
  GrowsBy by = (wanted : Want) (within : Within) (m : Made) (s t : TranslationState) → by wanted within s ≡ drawn m t → Later s t

  -- what is shown of a left side, where it may begin
  pub record LeftSide (n : ℕ) (e : Exp) : Type 1 where
    pub by : Want → Within → Translates Made
    pub grows : GrowsBy by
    pub here : Part → Holdings → List Ty → SourceWorld → World → Temps → Type 0
    pub shown : (y : SituationBy P n e by) → here y.p y.h y.types y.s y.w y.t → IsShown P n e y

  -- one that is translated as it is may begin anywhere
  abbrev pub plain_left : (n : ℕ) (e : Exp) → GrowsBy (λ w v. expression P.findings e w v) → Shown P n e → LeftSide n e
  plain_left n e grows shown = record {
    by = λ w v. expression P.findings e w v;
    grows = grows;
    here = λ p h types s w t. Unit {0};
    shown = λ y begun. shown y;
  }

  -- an operator whose left side is translated so
  abbrev pub binary_by : (op : Op) (at : ℕ) (b : Exp) → (Want → Within → Translates Made) → Want → Within → Translates Made
  binary_by op at b by w within =
      λ s. after (by (left_want op) within s)
      (λ left. with_left op (P.findings.meaning at) (assigns_nothing b) w left (λ v. expression P.findings b v within))
