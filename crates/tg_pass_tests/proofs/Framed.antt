-- One of the functions of a list is well formed, where each is.
use Rattle.std.proofs.Common.{◌≡◌, ◌<◌, ℕ, List, sym, ap, ◌∙◌, subst, arith, get_or, length}
use Rattle.std.specs.Prelude.{All, map}
use Rattle.std.proofs.lemmas.List.{get_or-map, length-map}
use Rattle.tg_tree.specs.declared.fragments.Fragment.{Fragment}
use Rattle.tg_tree.specs.glue.Plain.{plain_fragment}
use Rattle.tg_compile.specs.glue.Passes.{IsWellFormed}

pub one_is : (bodies : List Fragment) (at : ℕ) (one : Fragment) → All IsWellFormed (map plain_fragment bodies) →
    at < length bodies → one ≡ get_or bodies at one → IsWellFormed (plain_fragment one)
one_is bodies at one all inside is =
    let there : get_or (map plain_fragment bodies) at (plain_fragment one) ≡ plain_fragment one =
    get_or-map plain_fragment bodies at one (plain_fragment one) inside ∙ ap plain_fragment (sym is) in
    subst IsWellFormed there (all at (plain_fragment one) (omega (arith, inside, length-map bodies plain_fragment)))
