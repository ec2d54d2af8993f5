-- What may stand in the place of an instruction, and what a step makes of claims.
use Rattle.std.proofs.Common.{ℕ, zero, suc, ◌≡◌, Bool, true, false, List, [], ◌∷◌, Option, Some, None, refl}
use Rattle.tg_tree.specs.declared.operators.Rel.{Rel}
use Rattle.tg_instr.specs.declared.operands.Opnd.{Opnd}
use Rattle.tg_instr.specs.declared.instr.Instr.{Instr}
use Rattle.tg_instr.specs.declared.instr.Instr.TheVariants.{Move, Jump}
use Rattle.tg_instr.specs.Shapes.{InstructionShape, Tests, Goes, Here, shape}
use Rattle.tg_redundancy.specs.declared.readings.Reading.{Reading}
use Rattle.tg_redundancy.specs.mirror.Readings.{reading_of, temp}
use Rattle.tg_redundancy.specs.mirror.Facts.{Facts}
use Rattle.tg_redundancy.specs.mirror.Known.{Claims, claim, let_go, comes_back, State, Step, gives, tested, by_shape, by_reading, known_step}

abbrev pub pair : ℕ → Reading → ℕ × Reading
pair t r = (t, r)

-- what may stand in the place of an instruction
pub data IsBlock (one : Instr) : List Instr → Type 0 where
  itself : IsBlock one (one ∷ [])
  gone : (rel : Rel) (x y : Opnd) (m : ℕ) → shape one ≡ Tests rel x y m → IsBlock one []
  a_move : (t u : ℕ) (r : Reading) → reading_of one ≡ Some (pair t r) → IsBlock one (Move (temp t) (temp u) ∷ [])
  a_jump : (rel : Rel) (x y : Opnd) (m : ℕ) → shape one ≡ Tests rel x y m → IsBlock one (Jump m ∷ [])

module _ (most : ℕ) (rest : List Instr) (one : Instr) (s : State) (P : List Instr → Claims → Type 0)
    (same : (b : List Instr) → IsBlock one b → P b s.claims)
    (more : (b : List Instr) → IsBlock one b → (m : ℕ) (g : Facts) → P b (claim m g s.claims))
    (past : (b : List Instr) → IsBlock one b → (m : ℕ) → shape one ≡ Here m → P b (let_go m s.claims)) where
  abbrev Fits : Step → Type 0
  Fits step = P step.block step.state.claims

  by_tests : (b b' : Bool) (rel : Rel) (left right x y : Opnd) (m : ℕ) → shape one ≡ Tests rel left right m →
      Fits (tested most b b' rel x y m one s)
  by_tests true b' rel left right x y m e = same [] (gone rel left right m e)
  by_tests false true rel left right x y m e = more (Jump m ∷ []) (a_jump rel left right m e) m _
  by_tests false false rel left right x y m e = more (one ∷ []) itself m _

  by_shapes : (q : InstructionShape) → shape one ≡ q → Fits (by_shape most q (comes_back rest (shape one)) one s)
  by_shapes (Tests rel x y m) e = by_tests _ _ rel x y _ _ m e
  by_shapes (Goes m) e = more (one ∷ []) itself m _
  by_shapes (Here m) e = past (one ∷ []) itself m e
  by_shapes _ e = same (one ∷ []) itself

  by_gives : (t : ℕ) (r q : Reading) → reading_of one ≡ Some (pair t q) → (o : Option ℕ) (n : ℕ) → Fits (gives most t r o n one s)
  by_gives t r q e (Some u) (suc n) = same (Move (temp t) (temp u) ∷ []) (a_move t u q e)
  by_gives t r q e (Some u) zero = same (one ∷ []) itself
  by_gives t r q e None zero = same (one ∷ []) itself
  by_gives t r q e None (suc n) = same (one ∷ []) itself

  pub each_step : Fits (known_step most rest one s)
  each_step = by (reading_of one) refl
    where
      by : (o : Option (ℕ × Reading)) → reading_of one ≡ o → Fits (by_reading most o (comes_back rest (shape one)) one s)
      by None e = by_shapes (shape one) refl
      by (Some it) e = by_gives it.0 _ it.1 e _ s.room
