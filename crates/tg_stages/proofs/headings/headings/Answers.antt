use Rattle.std.proofs.Common.{◌≡◌, List, length, sym, subst, rules}
use Rattle.std.specs.Prelude.{IsTrue, nat_lt}
use Rattle.std.specs.List.{list_all}
use Rattle.tg_syntax.specs.declared.tokens.Ident.{Ident}
use Rattle.tg_syntax.specs.glue.Plain.{plain}
use Rattle.tg_stages.specs.DeclaredFunctions.{declared}
use Rattle.tg_base.specs.declared.places.Place.{Place}
use Rattle.tg_variables.specs.Places.{ArePlaces}
use Rattle.tg_stages.proofs.Within.{names_within}
use Rattle.tg_stages.proofs.headings.headings.Goals as goal

pub put_source-requires-clause-within : goal.put_source-requires-clause-within
put_source-requires-clause-within c =
    let inside = c.checked.inside in
    let body = plain inside.program.now.body in
    let is : c.put_declared.new.found.items ≡ declared body = search rules in
    let P : List Ident → Type 0 = λ fs. IsTrue (list_all (λ (f : Ident). nat_lt f.name.0 (length inside.names.now)) fs) in
    rw c.deref.ensures.value (subst P (sym is) (names_within (length inside.names.now) body c.checked.invariant.within))

pub put_source-requires-clause-places : goal.put_source-requires-clause-places
put_source-requires-clause-places c =
    subst (λ (ps : List Place). ArePlaces c.args.text.now ps) (sym c.as_slice.ensures.value) c.in_ok-places.ensures
