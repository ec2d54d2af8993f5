-- What the lemmas on places need, of names in sight, of the invariant and of the states of a
-- translation.
use Rattle.std.proofs.Common.{◌≡◌, ℕ, ◌≤◌, List, Some, refl, sym, ap, ◌∙◌, arith, subst}
use Rattle.tg_typecheck.specs.declared.notes.Means.TheVariants as means
use Rattle.tg_typecheck.specs.Types.{Ty}
use Rattle.tg_semantics.specs.Environments.{name_of}
use Rattle.tg_typecheck.specs.Scopes.{variable_at, bound, at_of}
use Rattle.tg_typecheck.specs.Has.{Says}
use Rattle.tg_syntax.specs.declared.tokens.Ident.{Ident}
use Rattle.tg_translate.specs.mirror.States.{TranslationState}
use Rattle.tg_translate_proof.specs.glue.Covered.{CoversName, CoversUse}
use Rattle.tg_translate_proof.specs.glue.Worlds.{cell, HoldsAt}
use Rattle.tg_translate_proof.specs.glue.Situations.{Program, Part, Setting, IsReady, IsNear, with_temps}
use Rattle.tg_translate_proof.proofs.state.StatesGrow.{place_grows, grows_by}
use Rattle.tg_translate_proof.proofs.state.NamesInSight.{IsSeenVariable, is_seen, is_near}
use Rattle.tg_translate_proof.proofs.expressions.LValueAddress.{Premises, SeenVariable}

module _ (P : Program) (set : Setting P) where
  -- a variable where its name is used
  pub variable_seen : (p : Part) (types : List Ty) (σ τ : TranslationState) (v : Ident) (at : ℕ) (t : Ty) (loop : _) → IsReady P p types σ τ →
      CoversName P.findings P.table P.weight p.scene.level p.scene.keeps v → bound v p.scope ≡ Some (variable_at at t loop) →
      Says P.notes (at_of v) (means.Variable at) →
      SeenVariable P p types (name_of v) at t
  variable_seen p types σ τ v at t loop ready covers is_bound says =
      let x : IsSeenVariable P p.places types p.scene p.scene.level p.env.entries (name_of v) at t =
      is_seen P p.places types p.scene (name_of v) (variable_at at t loop) p.scene.level p.env.entries p.scope.bindings ready.along ready.fits is_bound in
      let use_ : CoversUse P.findings P.table P.weight p.scene.level p.scene.keeps (Some (means.Variable at)) =
      subst (λ o. CoversUse P.findings P.table P.weight p.scene.level p.scene.keeps o) (set.found (at_of v) (means.Variable at) says) covers in
      let le = x.within in
      let same = x.home_level in
      let near = is_near P set p.scene at x.home use_ x.tabled (omega (arith, le, same)) in
      let near_here : IsNear p.scene x.l x.home.access = subst (λ o. IsNear p.scene o x.home.access) x.home_level near.0 in
      record {
        level = x.l;
        place = x.place;
        home = x.home;
        found = x.found;
        around = x.within;
        tabled = x.tabled;
        home_level = x.home_level;
        near = near_here;
        stands = x.stands near_here;
        type_is = x.type_is;
        has_values = x.values;
        leads = λ l lo hi. near.1 l (omega (arith, lo, same)) hi;
      }

  pub premises : Premises P
  premises = record {
    sees = variable_seen;
    cells_are_plain = λ p h types s w t hh a l u e.
        subst (λ c. HoldsAt h types s w.memory (with_temps p.scene.depth t p.others) (cell a) c) e (hh.invariant.holds (cell a));
    objects_are_below = λ p h types s w t hh r o e. (hh.invariant.in_heap r o e).1;
    shapes_have_values = set.shapes_have_values;
    place_grows = λ v within place s t e. grows_by (place_grows P.findings v within s) e;
  }
