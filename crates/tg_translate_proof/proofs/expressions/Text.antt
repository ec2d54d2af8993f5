-- A string literal: its address is known, and the string stands there.
use Rattle.std.proofs.Common.{◌≡◌, ℕ, zero, suc, ◌+◌, ◌*◌, ◌≤◌, ◌==◌, List, [], ◌∷◌, ◌++◌, length, Option, Some, Bool, true, false, ◌<◌, refl, sym, ap, ◌∙◌, arith, subst, eq-eqb}
use Rattle.std.specs.Prelude.{if◌then◌else◌}
use Rattle.std.specs.List.{Contains}
use Rattle.std.proofs.lemmas.List.Elements.{Contains-append_left, Contains-append_right}
use Rattle.tg_base.specs.declared.ids.Span.{Span}
use Rattle.tg_machine_state.specs.State.{padded, statics_base}
use Rattle.tg_syntax.specs.Tree.{Exp, Text}
use Rattle.tg_simulation.specs.Runs.{Run}
use Rattle.tg_simulation.specs.Agreement.{Source}
use Rattle.tg_semantics.specs.Values.{string}
use Rattle.tg_semantics.specs.MachineRuns.{rest_run}
use Rattle.tg_typecheck.specs.Types.{Ty, string_type}
use Rattle.tg_typecheck.specs.Scopes.{Scope}
use Rattle.tg_typecheck.specs.Has as has
use Rattle.tg_typecheck.specs.Has.{Has}
use Rattle.tg_tree.specs.Tree.{Address, Literal}
use Rattle.tg_tree.specs.Memory.{literal_from, literal_address, string_text}
use Rattle.tg_tree.specs.Actions.{Go, with_word}
use Rattle.tg_translate.specs.mirror.States.{drawn}
use Rattle.tg_translate.specs.mirror.Wants.{value}
use Rattle.tg_correctness.specs.laws.Laws.{tree_work}
use Rattle.tg_translate_proof.specs.glue.Worlds.{Stands, a_string}
use Rattle.tg_translate_proof.specs.glue.Situations.{Program, value_runs}
use Rattle.tg_translate_proof.specs.glue.Shown.{Situation, Shown, left_over, FollowsHere}
use Rattle.tg_translate_proof.proofs.state.TranslationStates.{state_in}
use Rattle.tg_translate_proof.proofs.invariant.Cases.{by_made, worked, wanted_of, grows_none}
use Rattle.tg_translate_proof.proofs.invariant.Parts.{more, paid, extends_none}

address_by : (k l : Literal) (ls : List Literal) (at : ℕ) (b : Bool) → (k.label == l.label) ≡ b → Contains (k ∷ ls) l →
    (Contains ls l → (a : ℕ) × (literal_from (at + length (padded k.text)) l.label ls ≡ Some a)) →
    (a : ℕ) × ((if b then Some at else literal_from (at + length (padded k.text)) l.label ls) ≡ Some a)
address_by k l ls at true e c rest = (at, refl)
address_by k l ls at false e (zero, lt, is) rest =
    let f : (l.label == l.label) ≡ false = sym (ap (λ (o : Literal). o.label == l.label) is) ∙ e in
    let g = eq-eqb l.label l.label refl in
    cc
address_by k l ls at false e (suc i, lt, is) rest = rest (i, omega (arith, lt), is)

-- a literal that is there has an address
pub has_address : (ls : List Literal) (at : ℕ) (l : Literal) → Contains ls l → (a : ℕ) × (literal_from at l.label ls ≡ Some a)
has_address [] at l c = let lt = c.1 in absurd (omega (arith, lt))
has_address (k ∷ ls) at l c =
    address_by k l ls at (k.label == l.label) refl c (λ d. has_address ls (at + length (padded k.text)) l d)

module _ (P : Program) (n : ℕ) where
  text_typed : (sp : Span) (bytes : List ℕ) (scope : Scope) (t : Ty) → Has P.shapes P.notes (Text sp bytes) scope t → t ≡ string_type
  text_typed sp bytes scope t has.text = refl

  pub text_shown : (sp : Span) (bytes : List ℕ) → Shown P n (Text sp bytes)
  text_shown sp bytes x =
      let own : Literal = record { label = x.σ.label; text = string_text bytes } in
      let front = x.ready.moment.literals in
      let drawn_ : x.σ.literals ++ own ∷ [] ≡ x.τ.literals = ap (λ d. (state_in d).literals) x.is_made in
      let there : Contains P.code.literals own =
      subst (λ l. Contains l own) (sym front.whole)
      (Contains-append_left x.τ.literals front.more own
      (subst (λ l. Contains l own) drawn_ (Contains-append_right x.σ.literals (own ∷ []) own (0, omega arith, refl)))) in
      let place = has_address P.code.literals statics_base own there in
      let st : Stands x.h (string bytes) x.ty place.0 =
      subst (λ t. Stands x.h (string bytes) t place.0) (sym (text_typed sp bytes x.p.scope x.ty x.typed))
      (a_string bytes place.0 (x.holds.literals place.0 x.σ.label bytes there place.1)) in
      by_made P n (Text sp bytes) x (value (Address x.σ.label)) x.τ
      (ap (λ o. drawn (value (Address x.σ.label)) o) (sym (ap state_in x.is_made)) ∙ x.is_made) tt
      (λ go' onward.
      let c : Run Source = rest_run (x.go (string bytes)) x.s in
      paid P x.r n c (value_runs P x.p (Address x.σ.label) x.p.around go' x.w x.t)
      (worked P (x.r + left_over) (x.r + 256) 1 n c (with_word (literal_address P.code.literals x.σ.label) x.w (λ v. go' v x.w x.t))
      (omega arith)
      (subst (λ o. FollowsHere P (x.r + left_over) n c (with_word o x.w (λ v. go' v x.w x.t))) (sym place.1)
      (onward x.h x.types (string bytes) place.0 x.s x.w x.t (grows_none x.h) (extends_none x.types) x.holds
      (wanted_of x.h x.wanted (string bytes) x.ty place.0 st)))))
