-- Instructions that are rows of the table and lead nowhere, by their shape.
use Rattle.std.proofs.Common.{ℕ, ◌≡◌, ◌<◌, ◌≤◌, ◌^◌, ◌==◌, List, [], ◌∷◌, ◌++◌, length, refl, ap, sym, ◌∙◌}
use Rattle.std.proofs.Common.{subst, arith, Bool, true, false, Option, Some, None}
use Rattle.std.proofs.lemmas.Bool.Decides.{nat_tests}
use Rattle.std.proofs.lemmas.Grind.{common_steps}
use Rattle.std.specs.Prelude.{All, IsTrue, if◌then◌else◌, slice_index, nat_lt}
use Rattle.std.specs.List.{list_all}
use Rattle.tg_machine_state.specs.declared.ends.RunEnd.{RunEnd}
use Rattle.tg_base.specs.Words.{add}
use Rattle.tg_machine_state.specs.State.{MachineState, register, set_register}
use Rattle.tg_machine_state.specs.Services as machine_does
use Rattle.tg_simulation.specs.Runs.{Run}
use Rattle.tg_simulation.specs.Ran.{Ran, Stop, Ended, Wrong, WantsFuel, stops}
use Rattle.tg_simulation.specs.laws.Simulating.{Comes}
use Rattle.tg_simulation.proofs.Simulations.{simulates_wrong}
use Rattle.tg_isa.specs.declared.mips.Mips.{Mips}
use Rattle.tg_isa.specs.Effects.{effect}
use Rattle.tg_tree.specs.Actions.{charged, with_word, with_given, with_memory}
use Rattle.tg_tree.specs.Memory.{Memory}
use Rattle.tg_tree.specs.Operators.{Given, word, stops_by}
use Rattle.tg_instr.specs.declared.operands.Opnd.{Opnd}
use Rattle.tg_instr.specs.declared.operands.Opnd.TheVariants.{Temp, Reg}
use Rattle.tg_instr.specs.declared.instr.Instr.{Instr}
use Rattle.tg_instr.specs.Shapes.{Operand, Hi, Lo, From0, From1, From2, Halves, Copy, Loads, Stores}
use Rattle.tg_instr.specs.Contents.{Content, Nothing, Word, Found, set, held}
use Rattle.tg_instr.specs.Meaning.{with_content, with_content_word}
use Rattle.tg_instr.proofs.Tests.{left_holds, right_holds}
use Rattle.tg_emit.specs.mirror.Rows.{register_of}
use Rattle.tg_emit.specs.mirror.Lines.{alone}
use Rattle.tg_instr.specs.Codes.{is_allocated, is_of_colours}
use Rattle.tg_emit_proof.specs.LinesRun.{way, Straight}
use Rattle.tg_emit_proof.specs.Setting.{Setting, from}
use Rattle.tg_emit_proof.specs.glue.Standing.{IsHeld, HasRegisters}
use Rattle.tg_emit_proof.specs.glue.Situation.{At, onward, acts, LinesFollow}
use Rattle.tg_emit_proof.proofs.Basics.{no_true}
use Rattle.tg_emit_proof.proofs.Rows.{row_comes, row_ends, ends_so}
use Rattle.tg_emit_proof.proofs.Onward.{own, behind, here_is, comes_behind, puts}
use Rattle.tg_emit_proof.proofs.Reaching.{IsStored}
use Rattle.tg_emit_proof.proofs.Registers.{IsNamed, sizes_stay, memory_stays, given_step, IsGivenWord}

pub in_middle : {A : Type 0} (test : A → Bool) (front rest : List A) (one : A) → list_all test (front ++ one ∷ rest)
    ≡ true → test one ≡ true
in_middle test [] rest one h = left_holds (test one) (list_all test rest) h
in_middle test (x ∷ front) rest one h =
    in_middle test front rest one (right_holds (test x) (list_all test (front ++ one ∷ rest)) h)

pub word_there : (rs : List ℕ) (i : ℕ) → All (λ v. v < 2 ^ 32) rs → slice_index rs i < 2 ^ 32
word_there rs i h = by (nat_lt i (length rs)) refl
  where
    by : (b : Bool) → nat_lt i (length rs) ≡ b → slice_index rs i < 2 ^ 32
    by true e = let l : i < length rs = grind (arith, nat_tests, e) in h i 0 l
    by false e =
        let l : length rs ≤ i = grind (arith, nat_tests, e) in
        let z : slice_index rs i ≡ 0 = grind (arith, common_steps, l) in
        omega (arith, z)

module _ (g : Setting) (one : Instr) (k : At g one) where
  -- it names registers
  pub names : IsTrue (is_of_colours one)
  names =
      in_middle is_of_colours k.stands.front k.rest one
      (subst (λ l. list_all is_of_colours l ≡ true) k.stands.code (k.known.names k.function k.stands.function))

  pub word_of : (r : ℕ) → register k.state r < 2 ^ 32
  word_of r = word_there k.state.registers r k.stands.registers.words

  -- Its lines are a row that goes straight on.
  pub record IsRowOf (m : Mips) : Type 0 where
    pub lines : own g one k ≡ alone m ∷ []
    pub straight : way g.returns g.lines m [] (behind g one k) k.state ≡ Straight

  pub row_once : (m : Mips) (t : MachineState) → IsRowOf m → effect m k.state ≡ machine_does.Goes t →
      Comes 1 (from g (own g one k ++ behind g one k) k.state k.world.input) (from g (behind g one k) t k.world.input)
  row_once m t is does =
      subst (λ o. Comes 1 (from g (o ++ behind g one k) k.state k.world.input)
      (from g (behind g one k) t k.world.input)) (sym is.lines)
      (row_comes g m [] (behind g one k) k.state t k.world.input is.straight does)

  pub ends_there : (m : Mips) (e : RunEnd) (units : ℕ) → 1 ≤ units → IsRowOf m →
      effect m k.state ≡ machine_does.Ends e →
      LinesFollow g one k (charged units (λ i. stops k.world.input (Ended e)))
  ends_there m e units some is does =
      let here : k.here ≡ alone m ∷ behind g one k = here_is g one k ∙ ap (λ o. o ++ behind g one k) is.lines in
      ends_so k.credit k.fuel units 1 k.world.input (Ended e) _ some
      (subst (λ l. Comes 1 (from g l k.state k.world.input) (λ i. stops k.world.input (Ended e))) (sym here)
      (row_ends g m [] (behind g one k) k.state e k.world.input is.straight does))

  -- a register gets what an operator gives
  pub gives : (m : Mips) (r : ℕ) (v : Given) → IsRowOf m → IsTrue (is_allocated r) →
      effect m k.state ≡ given_step k.state r v → IsGivenWord v →
      LinesFollow g one k
      (charged 1 (with_given v k.world
      (λ u. if r == 29 then (λ i. stops k.world.input Wrong) else onward g one k k.world
      (set (Operand (Reg r)) (Word u) k.contents))))
  gives m r (word v) is n does fits =
      puts g one k 1 1 k.world k.state r v (Word v)
      (omega arith) n refl fits k.stands.sizes k.stands.registers k.stands.memory k.stands.input
      (row_once m (set_register k.state r v) is does)
  gives m r (stops_by (Ended e)) is n does fits = ends_there m e 1 (omega arith) is does
  gives m r (stops_by Wrong) is n does fits = simulates_wrong 1 k.credit k.fuel _ _ (λ i. refl)
  gives m r (stops_by WantsFuel) is n does fits = absurd fits

  -- what is read is a word, which is there
  pub reads : (c : Content) (v units : ℕ) (go : ℕ → Run Ran) → IsHeld k.found c v →
      LinesFollow g one k (charged units (go v)) →
      LinesFollow g one k (charged units (with_content_word c k.world go))
  reads Nothing v units go h goes = simulates_wrong 1 k.credit k.fuel _ _ (λ i. refl)
  reads (Found r) v units go h goes = simulates_wrong 1 k.credit k.fuel _ _ (λ i. refl)
  reads (Word u) v units go h goes = subst (λ x. LinesFollow g one k (charged units (go x))) h goes

  pub reads_register : (x units : ℕ) (go : ℕ → Run Ran) → IsTrue (is_allocated x) →
      LinesFollow g one k (charged units (go (register k.state x))) →
      LinesFollow g one k (charged units (with_content_word (held k.activation k.contents (Operand (Reg x))) k.world go))
  reads_register x units go n goes =
      reads (held k.activation k.contents (Operand (Reg x))) (register k.state x) units go
      (k.stands.registers.each x n) goes

  -- The shapes.
  pub from_none : (to : Opnd) (n : ℕ) (m : Mips) → IsNamed to → IsRowOf m →
      effect m k.state ≡ machine_does.Goes (set_register k.state (register_of to) n) → n < 2 ^ 32 →
      LinesFollow g one k (charged 1 (acts g one k (From0 to n)))
  from_none (Temp t) n m named is does fits = absurd (no_true named)
  from_none (Reg r) n m named is does fits = gives m r (word n) is named does fits

  pub from_one : (to from : Opnd) (f : ℕ → Given) (m : Mips) → IsNamed to → IsNamed from →
      IsRowOf m →
      effect m k.state ≡ given_step k.state (register_of to) (f (register k.state (register_of from))) →
      IsGivenWord (f (register k.state (register_of from))) →
      LinesFollow g one k (charged 1 (acts g one k (From1 to (Operand from) f)))
  from_one (Temp t) y f m named reads is does fits = absurd (no_true named)
  from_one (Reg r) (Temp t) f m named reads is does fits = absurd (no_true reads)
  from_one (Reg r) (Reg x) f m named read is does fits =
      reads_register x 1 _ read (gives m r (f (register k.state x)) is named does fits)

  pub from_high : (to : Opnd) (m : Mips) → IsNamed to → IsRowOf m →
      effect m k.state ≡ machine_does.Goes (set_register k.state (register_of to) k.state.hi) →
      LinesFollow g one k (charged 1 (acts g one k (From1 to Hi (λ a. word a))))
  from_high (Temp t) m named is does = absurd (no_true named)
  from_high (Reg r) m named is does =
      reads (k.contents Hi) k.state.hi 1 _ k.stands.registers.high
      (gives m r (word k.state.hi) is named does k.stands.registers.high_word)

  pub from_low : (to : Opnd) (m : Mips) → IsNamed to → IsRowOf m →
      effect m k.state ≡ machine_does.Goes (set_register k.state (register_of to) k.state.lo) →
      LinesFollow g one k (charged 1 (acts g one k (From1 to Lo (λ a. word a))))
  from_low (Temp t) m named is does = absurd (no_true named)
  from_low (Reg r) m named is does =
      reads (k.contents Lo) k.state.lo 1 _ k.stands.registers.low
      (gives m r (word k.state.lo) is named does k.stands.registers.low_word)

  pub from_two : (to x y : Opnd) (f : ℕ → ℕ → Given) (m : Mips) → IsNamed to → IsNamed x →
      IsNamed y → IsRowOf m →
      effect m k.state ≡ given_step k.state (register_of to)
      (f (register k.state (register_of x)) (register k.state (register_of y))) →
      IsGivenWord (f (register k.state (register_of x)) (register k.state (register_of y))) →
      LinesFollow g one k (charged 1 (acts g one k (From2 to x y f)))
  from_two (Temp t) x y f m named reads others is does fits = absurd (no_true named)
  from_two (Reg r) (Temp t) y f m named reads others is does fits = absurd (no_true reads)
  from_two (Reg r) (Reg p) (Temp t) f m named reads others is does fits = absurd (no_true others)
  from_two (Reg r) (Reg p) (Reg q) f m named read other is does fits =
      reads_register p 1 _ read (reads_register q 1 _ other
      (gives m r (f (register k.state p) (register k.state q)) is named does fits))

  -- a register gets whatever another holds
  pub copies : (to from : Opnd) (m : Mips) → IsNamed to → IsNamed from → IsRowOf m →
      effect m k.state ≡ machine_does.Goes
      (set_register k.state (register_of to) (register k.state (register_of from))) →
      LinesFollow g one k (charged 1 (acts g one k (Copy to from)))
  copies (Temp t) y m named read is does = absurd (no_true named)
  copies (Reg r) (Temp t) m named read is does = absurd (no_true read)
  copies (Reg r) (Reg x) m named read is does =
      by (held k.activation k.contents (Operand (Reg x))) (k.stands.registers.each x read)
    where
      by : (c : Content) → IsHeld k.found c (register k.state x) →
          LinesFollow g one k
          (charged 1 (with_content c k.world
          (λ d. if r == 29 then (λ i. stops k.world.input Wrong) else onward g one k k.world
          (set (Operand (Reg r)) d k.contents))))
      by Nothing h = simulates_wrong 1 k.credit k.fuel _ _ (λ i. refl)
      by (Word u) h =
          puts g one k 1 1 k.world k.state r (register k.state x) (Word u) (omega arith) named h
          (word_of x) k.stands.sizes k.stands.registers k.stands.memory k.stands.input
          (row_once m (set_register k.state r (register k.state x)) is does)
      by (Found q) h =
          puts g one k 1 1 k.world k.state r (register k.state x) (Found q) (omega arith) named h
          (word_of x) k.stands.sizes k.stands.registers k.stands.memory k.stands.input
          (row_once m (set_register k.state r (register k.state x)) is does)

  -- a load, where what the code loads is what the machine does
  pub loads : (to base : Opnd) (n : ℕ) (f : Memory → ℕ → Option ℕ) (m : Mips) → IsNamed to →
      IsNamed base → IsRowOf m →
      ((v : ℕ) → f k.world.memory (add (register k.state (register_of base)) n) ≡ Some v →
      (effect m k.state ≡ machine_does.Goes (set_register k.state (register_of to) v)) × (v < 2 ^ 32)) →
      LinesFollow g one k (charged 1 (acts g one k (Loads to base n f)))
  loads (Temp t) b n f m named read is does = absurd (no_true named)
  loads (Reg r) (Temp t) n f m named read is does = absurd (no_true read)
  loads (Reg r) (Reg x) n f m named read is does =
      reads_register x 1 _ read (by (f k.world.memory (add (register k.state x) n)) refl)
    where
      by : (o : Option ℕ) → f k.world.memory (add (register k.state x) n) ≡ o →
          LinesFollow g one k
          (charged 1 (with_word o k.world
          (λ v. if r == 29 then (λ i. stops k.world.input Wrong) else onward g one k k.world
          (set (Operand (Reg r)) (Word v) k.contents))))
      by None e = simulates_wrong 1 k.credit k.fuel _ _ (λ i. refl)
      by (Some v) e = let d = does v e in gives m r (word v) is named d.0 d.1

  -- registers stay with what memory alone changes
  pub registers_stay : (t : MachineState) → t.registers ≡ k.state.registers → t.hi ≡ k.state.hi → t.lo ≡ k.state.lo →
      HasRegisters k.found k.activation k.contents t
  registers_stay t e h l =
      let has = k.stands.registers in
      record {
        count = ap (λ (rs : List ℕ). length rs) e ∙ has.count;
        words = subst (λ rs. All (λ v. v < 2 ^ 32) rs) (sym e) has.words;
        each = λ r n. subst (λ rs. IsHeld k.found (held k.activation k.contents (Operand (Reg r))) (slice_index rs r))
            (sym e) (has.each r n);
        high = subst (λ v. IsHeld k.found (k.contents Hi) v) (sym h) has.high;
        low = subst (λ v. IsHeld k.found (k.contents Lo) v) (sym l) has.low;
        high_word = subst (λ v. v < 2 ^ 32) (sym h) has.high_word;
        low_word = subst (λ v. v < 2 ^ 32) (sym l) has.low_word;
      }

  -- a store
  pub saves : (from base : Opnd) (n : ℕ) (f : Memory → ℕ → ℕ → Option Memory) (m : Mips) → IsNamed from →
      IsNamed base → IsRowOf m →
      ((after : Memory) → f k.world.memory (add (register k.state (register_of base)) n)
      (register k.state (register_of from)) ≡ Some after →
      (t : MachineState) × (effect m k.state ≡ machine_does.Goes t) × IsStored g k.finds after k.state t) →
      LinesFollow g one k (charged 1 (acts g one k (Stores from base n f)))
  saves (Temp t) b n f m named read is does = absurd (no_true named)
  saves (Reg r) (Temp t) n f m named read is does = absurd (no_true read)
  saves (Reg r) (Reg x) n f m named read is does =
      reads_register x 1 _ read (reads_register r 1 _ named
      (by (f k.world.memory (add (register k.state x) n) (register k.state r)) refl))
    where
      by : (o : Option Memory) → f k.world.memory (add (register k.state x) n) (register k.state r) ≡ o →
          LinesFollow g one k (charged 1 (with_memory o k.world (λ w. onward g one k w k.contents)))
      by None e = simulates_wrong 1 k.credit k.fuel _ _ (λ i. refl)
      by (Some after) e =
          let d = does after e in
          comes_behind g one k 1 1 (record k.world { memory = after }) k.contents d.0 (omega arith) d.2.sizes
          (registers_stay d.0 d.2.registers d.2.high d.2.low) d.2.memory k.stands.input (row_once m d.0 is d.1)

  -- hi and lo get two words
  pub halves : (x y : Opnd) (low high : ℕ → ℕ → Given) (m : Mips) → IsNamed x → IsNamed y →
      IsRowOf m →
      ((u v : ℕ) → low (register k.state (register_of x)) (register k.state (register_of y)) ≡ word u →
      high (register k.state (register_of x)) (register k.state (register_of y)) ≡ word v →
      (effect m k.state ≡ machine_does.Goes (record k.state { hi = v; lo = u })) × (u < 2 ^ 32) × (v < 2 ^ 32)) →
      ((s : Stop) → low (register k.state (register_of x)) (register k.state (register_of y)) ≡ stops_by s →
      s ≡ Wrong) →
      ((s : Stop) → high (register k.state (register_of x)) (register k.state (register_of y)) ≡ stops_by s →
      s ≡ Wrong) →
      LinesFollow g one k (charged 1 (acts g one k (Halves x y low high)))
  halves (Temp t) y low high m named read is does p q = absurd (no_true named)
  halves (Reg x) (Temp t) low high m named read is does p q = absurd (no_true read)
  halves (Reg x) (Reg y) low high m named read is does p q =
      reads_register x 1 _ named (reads_register y 1 _ read
      (by (low (register k.state x) (register k.state y)) refl (high (register k.state x) (register k.state y)) refl))
    where
      by : (a : Given) → low (register k.state x) (register k.state y) ≡ a → (b : Given) →
          high (register k.state x) (register k.state y) ≡ b →
          LinesFollow g one k (charged 1 (with_given a k.world (λ l. with_given b k.world
          (λ h. onward g one k k.world (set Lo (Word l) (set Hi (Word h) k.contents))))))
      by (stops_by s) e b f = simulates_wrong 1 k.credit k.fuel _ _ (λ i. p s e)
      by (word u) e (stops_by s) f = simulates_wrong 1 k.credit k.fuel _ _ (λ i. q s f)
      by (word u) e (word v) f =
          let d = does u v e f in
          let has = k.stands.registers in
          comes_behind g one k 1 1 k.world (set Lo (Word u) (set Hi (Word v) k.contents))
          (record k.state { hi = v; lo = u }) (omega arith)
          (sizes_stay k.state k.state.registers v u g k.stands.sizes)
          (record {
            count = has.count;
            words = has.words;
            each = λ r n. has.each r n;
            high = refl;
            low = refl;
            high_word = d.2;
            low_word = d.1;
          })
          (memory_stays k.state k.state.registers v u k.finds k.world.memory k.stands.memory)
          k.stands.input (row_once m (record k.state { hi = v; lo = u }) is d.0)
