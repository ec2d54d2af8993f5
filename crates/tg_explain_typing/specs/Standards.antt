-- The types of the outermost scope (Appel, appendices A.2 and A.4), by how their names are spelled.
use Rattle.std.specs.Prelude.{ℕ, ◌&&◌, ◌||◌, List, nat_lt, codes, if◌then◌else◌}
use Rattle.std.specs.Str.{bytes_eq}
use Rattle.tg_explain_typing.specs.declared.types.Ty.{Ty}
use Rattle.tg_explain_typing.specs.declared.types.Ty.TheVariants.{Int, Text, Nothing}

abbrev pub outermost_type : (word : List ℕ) → Ty
outermost_type word =
    if bytes_eq word (codes "int") then Int else
    if bytes_eq word (codes "string") then Text else Nothing

-- the type of a standard function's result
abbrev pub standard_result : (word : List ℕ) → Ty
standard_result word =
    if bytes_eq word (codes "ord") || bytes_eq word (codes "size") || bytes_eq word (codes "not")
    then Int else
    if bytes_eq word (codes "print") || bytes_eq word (codes "flush")
    || bytes_eq word (codes "exit") then Nothing else Text

-- the type of a standard function's parameter, by its place
abbrev pub standard_param : (word : List ℕ) → (index : ℕ) → Ty
standard_param word index =
    if bytes_eq word (codes "chr") || bytes_eq word (codes "not") || bytes_eq word (codes "exit")
    then Int else
    if bytes_eq word (codes "substring") && nat_lt 0 index then Int else Text
