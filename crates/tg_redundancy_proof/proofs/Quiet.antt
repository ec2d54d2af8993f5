-- Where no facts are kept the walk leaves a code as it is.
use Rattle.std.proofs.Common.{ℕ, zero, suc, ◌≡◌, ◌==◌, Bool, true, false, List, [], ◌∷◌, Option, Some, None, refl, sym, ap, ◌∙◌, subst}
use Rattle.std.specs.Prelude.{if◌then◌else◌}
use Rattle.tg_instr.specs.declared.operands.Opnd.{Opnd}
use Rattle.tg_instr.specs.declared.operands.Opnd.TheVariants.{Temp, Reg}
use Rattle.tg_instr.specs.declared.instr.Instr.{Instr}
use Rattle.tg_instr.specs.Operands.{is_same}
use Rattle.tg_instr.specs.Shapes.{InstructionShape, Copy, Stores}
use Rattle.tg_instr.specs.Shapes.{ToSlot, Here, Goes, Tests, Calls, Asks, Fails, Returns, shape}
use Rattle.tg_instr.specs.Uses.{defs}
use Rattle.tg_regalloc_proof.proofs.Kept.{singles}
use Rattle.tg_redundancy.specs.declared.readings.Reading.{Reading}
use Rattle.tg_redundancy.specs.mirror.Readings.{reading_of, reread, read_by, temp}
use Rattle.tg_redundancy.specs.mirror.Facts.{Facts, stands, names_one, forget_each}
use Rattle.tg_redundancy.specs.mirror.Known.{Claims, claimed, both, claim, comes_back, let_go, arrival, State, Step, at_start, gives, by_shape, by_reading}
use Rattle.tg_redundancy.specs.mirror.Known.{known_step, known_blocks}

data IsQuiet : Option Facts → Type 0 where
  nothing_comes : IsQuiet None
  nothing_known : IsQuiet (Some [])

abbrev AreQuiet : Claims → Type 0
AreQuiet claims = (m : ℕ) → IsQuiet (claimed m claims)

abbrev Stays : Instr → Step → Type 0
Stays one step = (step.block ≡ one ∷ []) × IsQuiet step.state.comes × AreQuiet step.state.claims

forget_none : (ds : List Opnd) → forget_each ds [] ≡ []
forget_none [] = refl
forget_none (d ∷ ds) = forget_none ds

by_none : (f : Facts) → f ≡ [] → IsQuiet (Some f)
by_none f e = subst (λ g. IsQuiet (Some g)) (sym e) nothing_known

by_test : (b : Bool) → IsQuiet (Some (if b then [] else []))
by_test true = nothing_known
by_test false = nothing_known

claim_quiet : (m : ℕ) (claims : Claims) → AreQuiet claims → AreQuiet (claim m [] claims)
claim_quiet m claims q j = by (m == j)
  where
    none : (o : Option Facts) → both [] o ≡ []
    none None = refl
    none (Some g) = refl

    by : (b : Bool) → IsQuiet (if b then Some (both [] (claimed m claims)) else claimed j claims)
    by true = by_none (both [] (claimed m claims)) (none (claimed m claims))
    by false = q j

let_go_quiet : (m : ℕ) (claims : Claims) → AreQuiet claims → AreQuiet (let_go m claims)
let_go_quiet m claims q j = by (m == j)
  where
    by : (b : Bool) → IsQuiet (if b then None else claimed j claims)
    by true = nothing_comes
    by false = q j

arrives : (b : Bool) (o met : Option Facts) → IsQuiet o → IsQuiet met → IsQuiet (Some (arrival b o met))
arrives true o met p q = nothing_known
arrives false _ _ nothing_comes nothing_comes = nothing_known
arrives false _ _ nothing_comes nothing_known = nothing_known
arrives false _ _ nothing_known nothing_comes = nothing_known
arrives false _ _ nothing_known nothing_known = nothing_known

module _ (rest : List Instr) (one : Instr) (claims : Claims) (n : ℕ) (q : AreQuiet claims) where
  abbrev at : Option Facts → State
  at o = record { comes = o; claims = claims; room = n }

  by_shapes : (x : InstructionShape) (o : Option Facts) → IsQuiet o → Stays one (by_shape 0 x (comes_back rest (shape one)) one (at o))
  by_shapes (Copy (Temp t) (Temp u)) _ nothing_comes = (refl, by_test (is_same (temp t.0) (Temp u)), q)
  by_shapes (Copy (Temp t) (Temp u)) _ nothing_known = (refl, by_test (is_same (temp t.0) (Temp u)), q)
  by_shapes (Copy (Temp t) (Reg u)) _ nothing_comes = (refl, nothing_known, q)
  by_shapes (Copy (Temp t) (Reg u)) _ nothing_known = (refl, nothing_known, q)
  by_shapes (Copy (Reg t) (Temp u)) _ nothing_comes = (refl, nothing_known, q)
  by_shapes (Copy (Reg t) (Temp u)) _ nothing_known = (refl, nothing_known, q)
  by_shapes (Copy (Reg t) (Reg u)) _ nothing_comes = (refl, nothing_known, q)
  by_shapes (Copy (Reg t) (Reg u)) _ nothing_known = (refl, nothing_known, q)
  by_shapes (Stores from base j f) _ nothing_comes = (refl, nothing_known, q)
  by_shapes (Stores from base j f) _ nothing_known = (refl, nothing_known, q)
  by_shapes (ToSlot (Temp t) j) _ nothing_comes = (refl, nothing_known, q)
  by_shapes (ToSlot (Temp t) j) _ nothing_known = (refl, nothing_known, q)
  by_shapes (ToSlot (Reg t) j) _ nothing_comes = (refl, nothing_known, q)
  by_shapes (ToSlot (Reg t) j) _ nothing_known = (refl, nothing_known, q)
  by_shapes (Here m) o p = (refl, arrives (comes_back rest (shape one)) o (claimed m claims) p (q m), let_go_quiet m claims q)
  by_shapes (Goes m) _ nothing_comes = (refl, nothing_comes, claim_quiet m claims q)
  by_shapes (Goes m) _ nothing_known = (refl, nothing_comes, claim_quiet m claims q)
  by_shapes (Tests rel x y m) _ nothing_comes = (refl, nothing_known, claim_quiet m claims q)
  by_shapes (Tests rel x y m) _ nothing_known = (refl, nothing_known, claim_quiet m claims q)
  by_shapes (Calls l) o p = (refl, nothing_known, q)
  by_shapes Asks o p = (refl, nothing_known, q)
  by_shapes (Fails j) o p = (refl, nothing_comes, q)
  by_shapes Returns o p = (refl, nothing_comes, q)
  by_shapes x _ nothing_comes = (refl, by_none _ (forget_none (defs x)), q)
  by_shapes x _ nothing_known = (refl, by_none _ (forget_none (defs x)), q)

  by_rooms : (m : ℕ) (t : ℕ) (r : Reading) (o : Option Facts) → IsQuiet o → Stays one (gives 0 t r None m one (at o))
  by_rooms zero t r _ nothing_comes = (refl, by_test (names_one (temp t) (read_by r)), q)
  by_rooms zero t r _ nothing_known = (refl, by_test (names_one (temp t) (read_by r)), q)
  by_rooms (suc m) t r _ nothing_comes = (refl, by_test (names_one (temp t) (read_by r)), q)
  by_rooms (suc m) t r _ nothing_known = (refl, by_test (names_one (temp t) (read_by r)), q)

  by_readings : (it : ℕ × Reading) (o : Option Facts) → IsQuiet o → Stays one (by_reading 0 (Some it) (comes_back rest (shape one)) one (at o))
  by_readings it _ nothing_comes = by_rooms n it.0 (reread (stands []) it.1) None nothing_comes
  by_readings it _ nothing_known = by_rooms n it.0 (reread (stands []) it.1) (Some []) nothing_known

  step_stays : (o : Option Facts) → IsQuiet o → Stays one (known_step 0 rest one (at o))
  step_stays o p = by (reading_of one)
    where
      by : (g : Option (ℕ × Reading)) → Stays one (by_reading 0 g (comes_back rest (shape one)) one (at o))
      by None = by_shapes (shape one) o p
      by (Some it) = by_readings it o p

walk_stays : (code : List Instr) (s : State) → IsQuiet s.comes → AreQuiet s.claims → known_blocks 0 code s ≡ singles code
walk_stays [] s p q = refl
walk_stays (one ∷ rest) s p q =
    let z = step_stays rest one s.claims s.room q s.comes p in
    ap (λ b. b ∷ known_blocks 0 rest (known_step 0 rest one s).state) z.0
    ∙ ap (λ bs. (one ∷ []) ∷ bs) (walk_stays rest (known_step 0 rest one s).state z.1 z.2)

-- a code with no facts kept
pub code_stays : (code : List Instr) → known_blocks 0 code (at_start 0) ≡ singles code
code_stays code = walk_stays code (at_start 0) nothing_known (λ m. nothing_comes)
