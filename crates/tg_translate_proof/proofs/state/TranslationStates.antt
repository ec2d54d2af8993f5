-- States of a translation, one after another, and what they have found of the finished one.
use Rattle.std.proofs.Common.{◌≡◌, ℕ, ◌≤◌, List, [], ◌∷◌, ◌++◌, Option, Some, None, Bool, true, false, refl, sym, ap, ◌∙◌, arith, subst}
use Rattle.std.proofs.Common.{append_assoc}
use Rattle.std.specs.Prelude.{if◌then◌else◌, ◌==◌}
use Rattle.std.specs.List.{Contains}
use Rattle.std.proofs.lemmas.List.{append-nil}
use Rattle.std.proofs.lemmas.List.Elements.{Contains-append_left}
use Rattle.tg_simulation.specs.Bytes.{IsPrefix}
use Rattle.tg_symbols.specs.Tables.{looked_up}
use Rattle.tg_typecheck.specs.Scopes.{Binding, variable_at, function_at, standard_one}
use Rattle.tg_tree.specs.Tree.{Tx, Ts, Function, Code}
use Rattle.tg_translate.specs.declared.homes.Home.{Home}
use Rattle.tg_translate.specs.declared.homes.Callee.{Callee}
use Rattle.tg_translate.specs.mirror.States.{TranslationState, Translated, drawn, Translates, after}
use Rattle.tg_translate.specs.mirror.Wants.{Made, value, done, test, value_of}
use Rattle.tg_translate_proof.specs.glue.Tables.{Table, IsSuffix, IsMoment, Later, HasFound}
use Rattle.tg_translate_proof.specs.glue.Situations.{Program, Setting}

-- Translations, one after another.

abbrev pub made_in : {A : Type 0} → Translated A → A
made_in (drawn a s) = a

abbrev pub state_in : {A : Type 0} → Translated A → TranslationState
state_in (drawn a s) = s

-- what is drawn first
pub after_inv : {A B : Type 0} (d : Translated A) (next : A → Translates B) (b : B) (u : TranslationState) → after d next ≡ drawn b u →
    (a : A) × (s : TranslationState) × (d ≡ drawn a s) × (next a s ≡ drawn b u)
after_inv (drawn a s) next b u e = (a, s, refl, e)

-- Lists that grow at their front or at their end.

pub behind_none : {A : Type 0} {xs : List A} → IsSuffix xs xs
behind_none = record { more = []; whole_is = refl }

pub behind_on : {A : Type 0} {xs ys zs : List A} → IsSuffix xs ys → IsSuffix ys zs → IsSuffix xs zs
behind_on {zs = zs} a b = record {
  more = a.more ++ b.more;
  whole_is = a.whole_is ∙ ap (λ l. a.more ++ l) b.whole_is ∙ sym (append_assoc a.more b.more zs);
}

pub front_none : {A : Type 0} {xs : List A} → IsPrefix xs xs
front_none {xs = xs} = record { more = []; whole = sym (append-nil xs) }

pub front_on : {A : Type 0} {xs ys zs : List A} → IsPrefix ys xs → IsPrefix zs ys → IsPrefix zs xs
front_on {zs = zs} a b = record {
  more = b.more ++ a.more;
  whole = a.whole ∙ ap (λ l. l ++ a.more) b.whole ∙ append_assoc zs b.more a.more;
}

pub later_none : (s : TranslationState) → Later s s
later_none s = record { temps = omega arith; slots = omega arith; homes = behind_none; callees = behind_none; literals = front_none; functions = front_none }

pub later_on : (s t u : TranslationState) → Later s t → Later t u → Later s u
later_on s t u h k = record {
  temps = omega (arith, h.temps, k.temps);
  slots = omega (arith, h.slots, k.slots);
  homes = behind_on k.homes h.homes;
  callees = behind_on k.callees h.callees;
  literals = front_on k.literals h.literals;
  functions = front_on k.functions h.functions;
}

pub later_value : (m : Made) (s t : TranslationState) (y : Tx) → value_of m s ≡ drawn y t → Later s t
later_value (value x) s t y e = subst (λ o. Later s o) (ap state_in e) (later_none s)
later_value (done x) s t y e = subst (λ o. Later s o) (ap state_in e) (later_none s)
later_value (test c) s t y e =
    subst (λ o. Later s o) (ap state_in e)
    (record { temps = omega arith; slots = omega arith; homes = behind_none; callees = behind_none; literals = front_none; functions = front_none })

-- a moment before another
pub moment_before : (table : Table) (code : Code Ts) (s t : TranslationState) → IsMoment table code t → Later s t → IsMoment table code s
moment_before table code s t h k = record {
  homes = behind_on h.homes k.homes;
  callees = behind_on h.callees k.callees;
  literals = front_on h.literals k.literals;
  functions = λ f c. h.functions f
      (subst (λ l. Contains l f) (sym k.functions.whole) (Contains-append_left s.functions k.functions.more f c));
}

named_first : {A : Type 0} (b : Bool) (at : ℕ) (a : A) (xs ys : List (ℕ × A)) → (looked_up at (xs ++ ys) ≡ None → looked_up at ys ≡ None) →
    (if b then Some a else looked_up at (xs ++ ys)) ≡ None → looked_up at ys ≡ None
named_first true at a xs ys k e = cc
named_first false at a xs ys k e = k e

named_none : {A : Type 0} (at : ℕ) (xs ys : List (ℕ × A)) → looked_up at (xs ++ ys) ≡ None → looked_up at ys ≡ None
named_none at [] ys e = e
named_none at (x ∷ xs) ys e = named_first (x.0 == at) at x.1 xs ys (named_none at xs ys) e

-- what a name has in a list stays where more comes before it, if nothing there hides it
stays_named : {A : Type 0} (at : ℕ) (whole later before : List (ℕ × A)) → IsSuffix whole later → IsSuffix later before →
    ((a : A) (more rest : List (ℕ × A)) → whole ≡ more ++ rest → looked_up at rest ≡ Some a → looked_up at whole ≡ Some a) →
    looked_up at before ≡ looked_up at whole → looked_up at later ≡ looked_up at whole
stays_named {A = A} at whole later before w l once f = one (looked_up at later) refl
  where
    one : (o : Option A) → looked_up at later ≡ o → looked_up at later ≡ looked_up at whole
    one (Some a) e = e ∙ sym (once a w.more later w.whole_is e)
    one None e = e ∙ sym (sym f ∙ named_none at l.more before (sym (ap (λ o. looked_up at o) l.whole_is) ∙ e))

pub found_later : (P : Program) → Setting P → (s t : TranslationState) (bs : List (ℕ × Binding)) → Later s t → IsMoment P.table P.code t → HasFound P.table s bs → HasFound P.table t bs
found_later P set s t [] l m f = tt
found_later P set s t ((x, variable_at at ty loop) ∷ bs) l m f =
    (stays_named at P.table.homes t.homes s.homes m.homes l.homes (λ a more rest. set.homes_once at a more rest) f.0, found_later P set s t bs l m f.1)
found_later P set s t ((x, function_at at sig) ∷ bs) l m f =
    (stays_named at P.table.callees t.callees s.callees m.callees l.callees (λ a more rest. set.callees_once at a more rest) f.0, found_later P set s t bs l m f.1)
found_later P set s t ((x, standard_one one) ∷ bs) l m f = found_later P set s t bs l m f
