-- The labels of a text: in its order, each with its line, and in the order of their names.
use Rattle.std.specs.Prelude.{ℕ, ◌≡◌, ◌≤◌, ⊤, List, [], ◌∷◌, ◌++◌, map, min, is_some, Option}
use Rattle.std.specs.Prelude.{Some, None, if◌then◌else◌}
use Rattle.std.specs.Borrow.{Bor}
use Rattle.std.specs.Cmp.Lexicographic.{slice_cmp}
use Rattle.std.specs.Ordering.{nat_cmp, ordering_then}
use Rattle.std.specs.Str.{bytes_eq}
use Rattle.std.specs.declared.cmp.Ordering.{Ordering}
use Rattle.tg_asm_text.specs.Assembly as assembly
use Rattle.tg_asm_text.specs.Assembly.{spot_among}
use Rattle.tg_asm.specs.declared.entries.Entry.{Entry}
use Rattle.tg_asm.specs.glue.Spots.{spot_of}

-- a name after its front
abbrev pub Key : Type 0
Key = ℕ × Bor (List ℕ)

abbrev pub key_of : Entry → Key
key_of e = e.key

abbrev pub by_key : Key → Key → Ordering
by_key x y = ordering_then (nat_cmp x.0 y.0) (slice_cmp nat_cmp x.1.now y.1.now)

abbrev pub by_name : Entry → Entry → Ordering
by_name x y = ordering_then (slice_cmp nat_cmp x.key.1.now y.key.1.now) (nat_cmp x.line y.line)

abbrev pub by_entry : Entry → Entry → Ordering
by_entry x y = ordering_then (by_key x.key y.key) (nat_cmp x.line y.line)

-- a label as the definition has it, alone and with its line
abbrev pub label_of : Entry → List ℕ × assembly.LabelTarget
label_of e = (e.key.1.now, spot_of e.spot)

abbrev pub Lined : Type 0
Lined = (List ℕ × assembly.LabelTarget) × ℕ

abbrev pub lined_of : Entry → Lined
lined_of e = (label_of e, e.line)

abbrev pub unlined : List Lined → List (List ℕ × assembly.LabelTarget)
unlined es = map (λ e. e.0) es

-- the lines don't fall, from a number on
abbrev pub Rises : ℕ → List Lined → Type 0
Rises n [] = ⊤
Rises n (e ∷ es) = (n ≤ e.1) × Rises e.1 es

-- the first of some labels, in their order
pub record AreFirst (es fs : List Lined) : Type 0 where
  pub rest : List Lined
  pub same : es ++ rest ≡ fs

-- the line of the first label that stands before, or among those that were seen
abbrev pub first_again : (seen : List (List ℕ × assembly.LabelTarget)) → List Lined → Option ℕ
first_again seen [] = None
first_again seen (e ∷ es) =
    if is_some (spot_among seen e.0.0) then Some e.1 else first_again (seen ++ e.0 ∷ []) es

-- the same of labels in the order of their names and lines: the least line of one with the name of
-- that before it
abbrev pub next_again : (before next : Entry) → Option ℕ
next_again b e = if bytes_eq b.key.1.now e.key.1.now then Some e.line else None

abbrev pub sooner : Option ℕ → Option ℕ → Option ℕ
sooner None o = o
sooner (Some n) None = Some n
sooner (Some n) (Some m) = Some (min n m)

abbrev pub again_behind : Entry → List Entry → Option ℕ
again_behind b [] = None
again_behind b (e ∷ es) = sooner (next_again b e) (again_behind e es)

abbrev pub again_among : List Entry → Option ℕ
again_among [] = None
again_among (e ∷ es) = again_behind e es

-- No label of a text stands again, and a search among others finds what one among them does.
pub record Finds (es : List Lined) (ls : List (List ℕ × assembly.LabelTarget)) : Type 0 where
  pub once : first_again [] es ≡ None
  pub spots : (name : List ℕ) → spot_among ls name ≡ spot_among (unlined es) name
