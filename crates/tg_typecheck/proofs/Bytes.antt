-- The shapes that typing gathers stand at bytes of their own, where the beginnings of the text do.
use Rattle.std.proofs.Common.{◌≡◌, ◌≢◌, ℕ, zero, suc, ◌<◌, List, [], ◌∷◌, length, Some, None, Bool, true, false, refl, sym, arith}
use Rattle.std.specs.Prelude.{map, ◌==◌, if◌then◌else◌, slice_index_or}
use Rattle.std.specs.List.{AllPairs}
use Rattle.std.proofs.lemmas.Bool.{eqb-true}
use Rattle.tg_symbols.specs.Tables.{looked_up}
use Rattle.tg_typecheck.specs.Types.{Shape}
use Rattle.tg_typecheck.specs.Checks.{Noted}
use Rattle.tg_typecheck.specs.Has.{AreApart}
use Rattle.tg_typecheck.proofs.AmongBeginnings.{skip, keep, AreMarks}

abbrev pub keys : List (ℕ × Shape) → List ℕ
keys l = map (λ one. one.0) l

abbrev pub bytes_of : Noted → List ℕ
bytes_of g = keys g.shapes

pub shape_marks : AreMarks bytes_of
shape_marks = record { noted = λ at m g s. skip at s; shaped = λ at shape g s. keep at s }

-- keys that differ
not_among : (l : List (ℕ × Shape)) (x : ℕ) → ((j : ℕ) → j < length (keys l) → x ≢ slice_index_or (keys l) j 0) → looked_up x l ≡ None
not_among [] x h = refl
not_among (one ∷ l) x h = by (one.0 == x) refl (not_among l x (λ j lt. h (suc j) (omega (arith, lt))))
  where
    by : (c : Bool) → (one.0 == x) ≡ c → looked_up x l ≡ None → (if c then Some one.1 else looked_up x l) ≡ None
    by true is r = absurd (h zero (omega arith) (sym (eqb-true one.0 x is)))
    by false is r = r

pub apart_by_keys : (l : List (ℕ × Shape)) → AllPairs (λ a b. a ≢ b) (keys l) → AreApart l
apart_by_keys [] h = tt
apart_by_keys (one ∷ l) h = (
  not_among l one.0 (λ j lt. h zero (suc j) 0 (omega arith) (omega (arith, lt))),
  apart_by_keys l
      (λ i j d lt le. h (suc i) (suc j) d (omega (arith, lt)) (omega (arith, le))),
)
