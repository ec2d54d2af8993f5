-- The headings of the runtime's functions from a place on.
use Rattle.std.proofs.Common.{◌≡◌, ◌<◌, ◌+◌, ℕ, List, [], ◌∷◌, ◌++◌, drop, get_or, sym, ◌∙◌, append_assoc}
use Rattle.std.specs.Prelude.{map}
use Rattle.std.proofs.lemmas.List.{at_drop_more}
use Rattle.tg_stages.specs.declared.headings.Heading.{Heading}
use Rattle.tg_stages.specs.Headings.{undeclared, routine_names}

pub routines_more : (before : List Heading) (at : ℕ) → at < 13 →
    before ++ map undeclared (drop at routine_names)
    ≡ (before ++ undeclared (get_or routine_names at []) ∷ []) ++ map undeclared (drop (at + 1) routine_names)
routines_more before at h =
    at_drop_more (λ xs. before ++ map undeclared xs) routine_names at [] h
    ∙ sym (append_assoc before (undeclared (get_or routine_names at []) ∷ []) (map undeclared (drop (at + 1) routine_names)))
