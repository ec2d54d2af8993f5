-- Maps from the marks of a code to their places.
use Rattle.std.specs.Prelude.{◌≡◌, ℕ, Some, nat_eq, IsTrue, List}
use Rattle.std.specs.List.{list_any}
use Rattle.std.specs.HashMap.{HashMap, get}
use Rattle.std.specs.declared.hash.FoldHasher.{FoldHasher}
use Rattle.std.specs.declared.hash.BuildHasherDefault.{BuildHasherDefault}
use Rattle.tg_instr.specs.declared.instr.Instr.{Instr}
use Rattle.tg_instr.specs.Codes.{is_mark}
use Rattle.tg_live.specs.Flow.{place_of}

abbrev pub MarkPlaces : Type 0
MarkPlaces = HashMap ℕ ℕ (BuildHasherDefault FoldHasher)

abbrev pub HavePlaces : List Instr → MarkPlaces → Type 0
HavePlaces list places =
    (mark : ℕ) → IsTrue (list_any (is_mark mark) list) →
    get nat_eq places mark ≡ Some (place_of mark list)
