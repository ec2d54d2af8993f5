-- The words of known code: three more for each move.
use Rattle.std.proofs.Common.{ℕ, zero, suc, ◌≡◌, ◌≤◌, ◌+◌, ◌*◌, Bool, true, false, List, [], ◌∷◌, ◌++◌, Option, Some, None}
use Rattle.std.proofs.Common.{refl, arith}
use Rattle.std.specs.Prelude.{sum_by}
use Rattle.std.proofs.lemmas.List.Sums.{sum_by-cons}
use Rattle.tg_tree.specs.declared.operators.Rel.{Rel}
use Rattle.tg_instr.specs.declared.operands.Opnd.{Opnd}
use Rattle.tg_instr.specs.declared.instr.Instr.{Instr}
use Rattle.tg_instr.specs.declared.instr.Instr.TheVariants.{Move, Jump, Branch, Mark}
use Rattle.tg_instr.specs.Shapes.{InstructionShape, Tests, shape}
use Rattle.tg_instr.specs.Lengths.{most_words}
use Rattle.tg_redundancy.specs.declared.readings.Reading.{Reading}
use Rattle.tg_redundancy.specs.mirror.Readings.{reading_of, temp}
use Rattle.tg_redundancy.specs.mirror.Known.{comes_back, State, Step, gives, tested, by_shape, by_reading, known_step, at_start, most_facts, most_moves}
use Rattle.tg_redundancy.specs.laws.Laws.{KnownIsShort}
use Rattle.tg_redundancy.proofs.Blocks.{pair}
use Rattle.tg_redundancy.proofs.Shaped.{Walked, no_longer}

module _ (most : ℕ) where
  -- the words of a step's block, and what is left for moves
  abbrev Fits : Instr → State → Step → Type 0
  Fits one s step =
      (l : List Instr) (n : ℕ) → sum_by most_words l ≤ n + 3 * step.state.room →
      sum_by most_words (step.block ++ l) ≤ most_words one + n + 3 * s.room

  one_word : (y : Instr) (k : ℕ) (l : List Instr) (n r : ℕ) → most_words y ≤ k → sum_by most_words l ≤ n + 3 * r →
      sum_by most_words (y ∷ l) ≤ k + n + 3 * r
  one_word y k l n r le h = let c = sum_by-cons most_words y l in omega (arith, c, le, h)

  test_words : (one : Instr) (rel : Rel) (x y : Opnd) (m : ℕ) → shape one ≡ Tests rel x y m → most_words one ≡ 10
  test_words (Branch test k) rel x y m e = refl
  test_words _ rel x y m e = cc

  reading_words : (one : Instr) (t : ℕ) (r : Reading) → reading_of one ≡ Some (pair t r) → most_words one ≡ 10
  reading_words (Move to from) t r e = cc
  reading_words (Mark m) t r e = cc
  reading_words _ t r e = refl

  module _ (rest : List Instr) (one : Instr) (s : State) where
    same_words : (l : List Instr) (n : ℕ) → sum_by most_words l ≤ n + 3 * s.room →
        sum_by most_words (one ∷ l) ≤ most_words one + n + 3 * s.room
    same_words l n h = one_word one (most_words one) l n s.room (omega arith) h

    by_tests : (b b' : Bool) (rel : Rel) (x y left right : Opnd) (m : ℕ) → shape one ≡ Tests rel left right m →
        Fits one s (tested most b b' rel x y m one s)
    by_tests true b' rel x y left right m e l n h = omega (arith, h)
    by_tests false true rel x y left right m e l n h =
        let w = test_words one rel left right m e in one_word (Jump m) (most_words one) l n s.room (omega (arith, w)) h
    by_tests false false rel x y left right m e l n h = same_words l n h

    by_shapes : (q : InstructionShape) → shape one ≡ q → Fits one s (by_shape most q (comes_back rest (shape one)) one s)
    by_shapes (Tests rel x y m) e l n h = by_tests _ _ rel _ _ x y m e l n h
    by_shapes _ e l n h = same_words l n h

    by_gives : (t : ℕ) (r q : Reading) → reading_of one ≡ Some (pair t q) → (o : Option ℕ) (j : ℕ) → s.room ≡ j →
        Fits one s (gives most t r o j one s)
    by_gives t r q e (Some u) (suc j) i l n h =
        let c = sum_by-cons most_words (Move (temp t) (temp u)) l in
        let w = reading_words one t q e in omega (arith, c, w, i, h)
    by_gives t r q e (Some u) zero i l n h = same_words l n h
    by_gives t r q e None zero i l n h = same_words l n h
    by_gives t r q e None (suc j) i l n h = same_words l n h

    step_fits : Fits one s (known_step most rest one s)
    step_fits = by (reading_of one) refl
      where
        by : (o : Option (ℕ × Reading)) → reading_of one ≡ o → Fits one s (by_reading most o (comes_back rest (shape one)) one s)
        by None e = by_shapes (shape one) refl
        by (Some it) e = by_gives it.0 _ it.1 e _ s.room refl

  walk_short : (code : List Instr) (s : State) → sum_by most_words (Walked most code s) ≤ sum_by most_words code + 3 * s.room
  walk_short [] s = omega arith
  walk_short (one ∷ rest) s =
      let c = sum_by-cons most_words one rest in
      let z = step_fits rest one s (Walked most rest (known_step most rest one s).state) (sum_by most_words rest)
      (walk_short rest (known_step most rest one s).state) in
      omega (arith, c, z)

pub known_is_short : KnownIsShort
known_is_short list = record {
  few = no_longer most_facts list (at_start most_moves);
  short = walk_short most_facts list (at_start most_moves);
}
