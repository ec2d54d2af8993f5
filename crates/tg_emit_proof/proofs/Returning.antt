-- A return: the frame is given back, and what comes after it goes on.
use Rattle.std.proofs.Common.{ℕ, suc, ◌≡◌, ◌≢◌, ◌<◌, ◌^◌, ◌==◌, List, [], ◌∷◌, ◌++◌}
use Rattle.std.proofs.Common.{refl, ap, sym, ◌∙◌, subst, arith, eqb-true, append_assoc, Bool, true, false, Option}
use Rattle.std.proofs.Common.{Some, None}
use Rattle.std.proofs.lemmas.Bool.Decides.{nat_tests}
use Rattle.std.specs.Prelude.{IsTrue, if◌then◌else◌, nat_lt}
use Rattle.std.specs.List.{AllByRecursion}
use Rattle.tg_base.specs.Words.{add}
use Rattle.tg_machine_state.specs.State.{MachineState, register}
use Rattle.tg_simulation.specs.Ran.{Wrong, stops, works}
use Rattle.tg_simulation.specs.laws.Simulating.{Simulates, Comes}
use Rattle.tg_simulation.proofs.Simulations.{comes_on, simulates_coming, simulates_paying, simulates_wrong}
use Rattle.tg_isa.specs.declared.mips.Mips.TheVariants as row
use Rattle.tg_tree.specs.Actions.{Activation, charged}
use Rattle.tg_instr.specs.declared.operands.Opnd.TheVariants.{Reg}
use Rattle.tg_instr.specs.declared.instr.Instr.TheVariants as instr
use Rattle.tg_instr.specs.Shapes.{Operand, shape}
use Rattle.tg_instr.specs.Uses.{given_back}
use Rattle.tg_instr.specs.Contents.{Content, Nothing, Word, Found, Contents, held, handed, is_found, gives_back}
use Rattle.tg_instr.proofs.Tests.{left_holds, right_holds}
use Rattle.tg_emit.specs.declared.assembly.Line.{Line}
use Rattle.tg_emit.specs.mirror.Lines.{alone, above_stack}
use Rattle.tg_instr.specs.Codes.{is_allocated}
use Rattle.tg_emit_proof.specs.LinesRun.{goes_to, Place}
use Rattle.tg_emit_proof.specs.Setting.{Setting, from, back_to, going_to}
use Rattle.tg_emit_proof.specs.glue.Standing.{IsHeld, IsHanded, HasRegisters, IsBack}
use Rattle.tg_emit_proof.specs.glue.Situation.{At, acts, LinesFollow}
use Rattle.tg_emit_proof.proofs.Registers.{not_at, sizes_stay, memory_stays, moved, moved_count, moved_words}
use Rattle.tg_emit_proof.proofs.Registers.{moved_stack, moved_other}
use Rattle.tg_emit_proof.proofs.Offsets.{above_comes}
use Rattle.tg_emit_proof.proofs.Rows.{done}
use Rattle.tg_emit_proof.proofs.Onward.{behind, here_is}

-- what is given back
is_what : (r : ℕ) (c : Content) → is_found r c ≡ true → c ≡ Found r
is_what r Nothing h = cc
is_what r (Word v) h = cc
is_what r (Found q) h = ap Found (eqb-true q r h)

-- registers of code but $zero and $sp
abbrev IsOrdinary : ℕ → Type 0
IsOrdinary r = ((r == 0) ≡ false) × ((r == 29) ≡ false) × IsTrue (is_allocated r)

module _ (found : ℕ → ℕ) (a : Activation) (contents : Contents) (s : MachineState)
    (has : HasRegisters found a contents s) where
  held_there : (r : ℕ) → IsOrdinary r → contents (Operand (Reg r)) ≡ Found r → register s r ≡ found r
  held_there r o e =
      let z = o.0 in
      let p = o.1 in
      let h : held a contents (Operand (Reg r)) ≡ Found r = rw (z, p, e) refl in
      subst (λ c. IsHeld found c (register s r)) h (has.each r o.2)

  all_there : (rs : List ℕ) → AllByRecursion IsOrdinary rs → gives_back rs contents ≡ true →
      AllByRecursion (λ r. register s r ≡ found r) rs
  all_there [] o h = tt
  all_there (r ∷ rs) o h = (
    held_there r o.0 (is_what r (contents (Operand (Reg r))) (left_holds _ (gives_back rs contents) h)),
    all_there rs o.1 (right_holds (is_found r (contents (Operand (Reg r)))) _ h),
  )

  -- they stay where $sp gets another word
  moved_back : (near : Bool) (n v : ℕ) (rs : List ℕ) → AllByRecursion IsOrdinary rs →
      AllByRecursion (λ r. register s r ≡ found r) rs →
      AllByRecursion (λ r. register (moved near s n v) r ≡ found r) rs
  moved_back near n v [] o h = tt
  moved_back near n v (r ∷ rs) o h =
      let p = o.0.1 in
      let other : r ≢ 29 = λ e. grind (arith, nat_tests, e, p) in
      (moved_other near s n v r (not_at r o.0.2) other ∙ h.0, moved_back near n v rs o.1 h.1)

ordinary : AllByRecursion IsOrdinary given_back
ordinary = (
  (refl, refl, refl),
  (
    (refl, refl, refl),
    (
      (refl, refl, refl),
      (
        (refl, refl, refl),
        (
          (refl, refl, refl),
          ((refl, refl, refl), ((refl, refl, refl), ((refl, refl, refl), ((refl, refl, refl), tt)))),
        ),
      ),
    ),
  ),
)

module _ (g : Setting) (k : At g instr.Return) where
  abbrev size : ℕ
  size = k.activation.size

  abbrev base : ℕ
  base = k.activation.base

  abbrev near : Bool
  near = nat_lt size 32768

  -- the state in which the frame is given back
  abbrev after_frame : MachineState
  after_frame = moved near k.state size base

  size_fits : size < 2 ^ 32
  size_fits = let m = (k.known.frames k.function k.stands.function).most in let e = k.stands.sized in
      omega (arith, m, e)

  base_fits : base < 2 ^ 32
  base_fits = let b = k.stands.frame.below in omega (arith, b)

  sum : add (register k.state 29) size ≡ base
  sum =
      let e = k.stands.registers.each 29 refl in
      let a = k.stands.frame.above in let b = k.stands.frame.below in
      omega (arith, a, b, e)

  is_back : gives_back given_back k.contents ≡ true → IsBack k.found base after_frame
  is_back given =
      let has = k.stands.registers in
      record {
        count = moved_count near k.state size base has.count;
        words = moved_words near k.state size base size_fits base_fits has.words;
        zero = moved_other near k.state size base 0 (λ x. omega (arith, x)) (λ x. omega (arith, x)) ∙ has.each 0 refl;
        stack = moved_stack near k.state size base has.count;
        given = moved_back k.found k.activation k.contents k.state has near size base given_back ordinary
            (all_there k.found k.activation k.contents k.state has given_back ordinary given);
        high_word = has.high_word;
        low_word = has.low_word;
      }

  hands : (c : Content) → IsHeld k.found c (register k.state 2) → IsHanded (handed c) (register after_frame 2)
  hands Nothing h = tt
  hands (Word v) h = moved_other near k.state size base 2 (λ x. omega (arith, x)) (λ x. omega (arith, x)) ∙ h
  hands (Found r) h = tt

  -- a jump to the word of a register
  jr_comes : (r : ℕ) (rest : List Line) (s : MachineState) (input : List ℕ) →
      Comes 1 (from g (alone (row.Jr r) ∷ rest) s input) (going_to g (back_to g (register s r)) s input)
  jr_comes r rest s input i = (suc i, omega arith, 1, omega arith, ap (works 1) (by (back_to g (register s r))))
    where
      by : (o : Option Place) → done g input i (goes_to o s) ≡ going_to g o s input i
      by None = refl
      by (Some p) = refl

  returns_there : Comes 4 (from g k.here k.state k.world.input)
      (going_to g (back_to g (register after_frame 31)) after_frame k.world.input)
  returns_there =
      let rest = behind g instr.Return k in
      let here : k.here ≡ above_stack 29 size ++ alone (row.Jr 31) ∷ rest =
      here_is g instr.Return k
      ∙ (append_assoc (above_stack 29 (g.size k.function.label)) (alone (row.Jr 31) ∷ []) rest
      ∙ ap (λ n. above_stack 29 n ++ alone (row.Jr 31) ∷ rest) (sym k.stands.sized)) in
      subst (λ l. Comes 4 (from g l k.state k.world.input)
      (going_to g (back_to g (register after_frame 31)) after_frame k.world.input)) (sym here)
      (comes_on 3 1 _ (from g (alone (row.Jr 31) ∷ rest) after_frame k.world.input) _
      (above_comes g 29 size base (alone (row.Jr 31) ∷ rest) k.state k.world.input k.stands.registers.count size_fits
      sum)
      (jr_comes 31 rest after_frame k.world.input))

  pub return_goes : LinesFollow g instr.Return k (charged 4 (acts g instr.Return k (shape instr.Return)))
  return_goes = by (gives_back given_back k.contents) refl
    where
      by : (b : Bool) → gives_back given_back k.contents ≡ b →
          LinesFollow g instr.Return k
          (charged 4 (if b then k.back (handed (k.contents (Operand (Reg 2)))) k.world else
          (λ i. stops k.world.input Wrong)))
      by false given = simulates_wrong 1 k.credit k.fuel _ _ (λ i. refl)
      by true given =
          let b = is_back given in
          let sizes = sizes_stay k.state after_frame.registers k.state.hi k.state.lo g k.stands.sizes in
          let memory = memory_stays k.state after_frame.registers k.state.hi k.state.lo k.finds k.world.memory
          k.stands.memory in
          let c = k.contents (Operand (Reg 2)) in
          let after = k.after (handed c) k.world after_frame sizes memory b
          (hands c (k.stands.registers.each 2 refl)) k.stands.input in
          let back_word : register after_frame 31 ≡ k.found 31 = b.given.1.1.1.1.1.1.1.1.0 in
          let there : Simulates 1 k.credit k.fuel (k.back (handed c) k.world)
          (going_to g (back_to g (register after_frame 31)) after_frame k.world.input) =
          subst (λ v. Simulates 1 k.credit k.fuel (k.back (handed c) k.world)
          (going_to g (back_to g v) after_frame k.world.input)) (sym back_word) after in
          simulates_paying 1 k.credit k.fuel 4 _ _ (simulates_coming 1 k.credit k.fuel 4 _ _ _ returns_there there)
