-- Assignments whose value begins with a read of the very place that is assigned, as `v := v + 1`
-- and `a[i].n := a[i].n * 2 - x`: nothing happens between finding the place and that read, so it is
-- the same place. Its indices are made of ints, places, sums and differences alone, which change
-- nothing.
use Rattle.std.specs.Prelude.{ℕ, ◌==◌, ◌&&◌, Bool, true, false, Option, Some}
use Rattle.tg_syntax.specs.declared.trees.Op.{Op}
use Rattle.tg_syntax.specs.declared.trees.Op.TheVariants.{Plus, Minus}
use Rattle.tg_syntax.specs.Tree.{Exp, Int, Read, Binary, LValue, Simple, Field, Index}
use Rattle.tg_typecheck.specs.declared.notes.Means.{Means}
use Rattle.tg_typecheck.specs.declared.notes.Means.TheVariants as means
use Rattle.tg_translate.specs.mirror.Scopes.{field_number}
use Rattle.tg_translate.specs.mirror.Functions.{at_of}

abbrev pub is_same_variable : Option Means → Option Means → Bool
is_same_variable (Some (means.Variable i)) (Some (means.Variable j)) = i == j
is_same_variable _ _ = false

-- both are sums, or both differences
abbrev pub is_sum_or_difference : Op → Op → Bool
is_sum_or_difference Plus Plus = true
is_sum_or_difference Minus Minus = true
is_sum_or_difference _ _ = false

module _ (meaning : (at : ℕ) → Option Means) where
  abbrev mutual
    pub is_same_place : LValue → LValue → Bool
    is_same_place (Simple x) (Simple y) = is_same_variable (meaning (at_of x)) (meaning (at_of y))
    is_same_place (Field v f) (Field w g) =
        field_number (meaning (at_of f)) == field_number (meaning (at_of g)) && is_same_place v w
    is_same_place (Index v e) (Index w f) = is_same_place v w && is_same_index e f
    is_same_place _ _ = false

    pub is_same_index : Exp → Exp → Bool
    is_same_index (Int _ m) (Int _ n) = m == n
    is_same_index (Read _ v) (Read _ w) = is_same_place v w
    is_same_index (Binary _ op _ a b) (Binary _ o _ c d) =
        is_sum_or_difference op o && (is_same_index a c && is_same_index b d)
    is_same_index _ _ = false

  abbrev pub begins_with : Exp → LValue → Bool
  begins_with (Read _ w) v = is_same_place v w
  begins_with (Binary _ _ _ a _) v = begins_with a v
  begins_with _ v = false
