-- A call: its row, the entry of its callee with the probe, and what comes after the return.
use Rattle.std.proofs.Common.{ℕ, suc, ◌≡◌, ◌≢◌, ◌<◌, ◌≤◌, ◌+◌, ◌-◌, ◌%◌, ◌^◌, ◌==◌, ◌||◌, List, [], ◌∷◌, ◌++◌}
use Rattle.std.proofs.Common.{length, refl, ap, sym, ◌∙◌, subst, arith, eqb-true, Bool, true, false, Option, Some}
use Rattle.std.proofs.Common.{None}
use Rattle.std.proofs.lemmas.Bool.Decides.{nat_tests}
use Rattle.std.proofs.lemmas.Grind.{common_steps}
use Rattle.std.proofs.lemmas.List.{get_or-set_same}
use Rattle.std.proofs.lemmas.List.Elements.{All-set}
use Rattle.std.specs.Prelude.{All, IsTrue, Ok, Err, if◌then◌else◌, slice_set, nat_lt, nat_le}
use Rattle.std.specs.List.{AllByRecursion, Contains}
use Rattle.tg_machine_state.specs.declared.ends.RunEnd.TheVariants.{StackFull}
use Rattle.tg_machine_state.specs.State.{MachineState, register, set_register, floor, stack_top, load_word, word_at}
use Rattle.tg_simulation.specs.Runs.{Run}
use Rattle.tg_simulation.specs.Ran.{Ran, Ended, stops, works}
use Rattle.tg_simulation.specs.laws.Simulating.{Simulates, Comes}
use Rattle.tg_simulation.proofs.Simulations.{simulates_less, simulates_wrong, comes_on}
use Rattle.tg_isa.specs.declared.mips.Mips.TheVariants as row
use Rattle.tg_tree.specs.Memory.{Unset, Closed}
use Rattle.tg_tree.specs.Tree.{Function}
use Rattle.tg_tree.specs.Actions.{Activation, charged, over}
use Rattle.tg_tree.specs.Running.{function_of, with_fuel}
use Rattle.tg_instr.specs.declared.operands.Opnd.TheVariants.{Reg}
use Rattle.tg_instr.specs.declared.instr.Instr.{Instr}
use Rattle.tg_instr.specs.declared.instr.Instr.TheVariants as instr
use Rattle.tg_instr.specs.Shapes.{Operand}
use Rattle.tg_instr.specs.Uses.{arguments, given_back}
use Rattle.tg_instr.specs.Contents.{Content, Nothing, Word, Found, Contents, held, handed, is_in, is_among}
use Rattle.tg_instr.specs.Contents.{left_unset, at_entry, after_call}
use Rattle.tg_instr.specs.Running.{CodePoint, with_frame}
use Rattle.tg_emit.specs.declared.assembly.Line.{Line}
use Rattle.tg_emit.specs.mirror.Lines.{alone, lowered, code_lines}
use Rattle.tg_emit.specs.mirror.Names.{function_name}
use Rattle.tg_instr.specs.Codes.{is_allocated}
use Rattle.tg_emit_proof.specs.LinesRun.{behind as lines_behind, calls, left}
use Rattle.tg_emit_proof.specs.Setting.{Setting, from, back_to, going_to, later, begin_with}
use Rattle.tg_emit_proof.specs.glue.Standing.{Finds, IsHeld, IsHanded, HasRegisters, HasMemory, HasFrame, FunctionStands}
use Rattle.tg_emit_proof.specs.glue.Standing.{BackGoesOn, Stands}
use Rattle.tg_emit_proof.specs.glue.Situation.{HasSize, point, At, onward, LinesFollow, InstructionGoesOn}
use Rattle.tg_emit_proof.proofs.Basics.{no_true}
use Rattle.tg_emit_proof.proofs.Registers.{not_at, other_register, sizes_stay, memory_stays, moved_count}
use Rattle.tg_emit_proof.proofs.Registers.{moved_words, moved_stack, moved_other}
use Rattle.tg_emit_proof.proofs.Rows.{call_is, comes_by, turns_by, turn_goes_on, ends_so}
use Rattle.tg_emit_proof.proofs.Entering.{in_stack_there, full_there, lower, entry_comes, entry_is_full}
use Rattle.tg_emit_proof.proofs.Frames.{found_in, owns_slots, opened, closed}
use Rattle.tg_emit_proof.proofs.Onward.{behind, here_is, stands_behind}

-- Registers after the row of a call: $ra has the word after it.
abbrev pub linked : MachineState → (word : ℕ) → MachineState
linked s v = set_register s 31 v

linked_count : (s : MachineState) (v : ℕ) → length s.registers ≡ 32 → length (linked s v).registers ≡ 32
linked_count s v c =
    let a : length (slice_set s.registers 31 v) ≡ length s.registers = grind (arith, common_steps) in
    a ∙ c

-- and after the entry: all stays but $at, $sp and $ra
entered_register : (s : MachineState) (v size r : ℕ) → r ≢ 1 → r ≢ 29 → r ≢ 31 →
    register (lower (linked s v) size) r ≡ register s r
entered_register s v size r a p l =
    moved_other (nat_le size 32768) (linked s v) size (register (linked s v) 29 - size) r a p
    ∙ other_register s 31 r v l

pub linked_there : (s : MachineState) (v size : ℕ) → length s.registers ≡ 32 → register (lower (linked s v) size) 31
    ≡ v
linked_there s v size c =
    moved_other (nat_le size 32768) (linked s v) size (register (linked s v) 29 - size) 31 (λ e. omega (arith, e))
    (λ e. omega (arith, e))
    ∙ get_or-set_same s.registers 31 v 0 (omega (arith, c))

lowered_there : (s : MachineState) (v size : ℕ) → length s.registers ≡ 32 →
    register (lower (linked s v) size) 29 ≡ register s 29 - size
lowered_there s v size c =
    moved_stack (nat_le size 32768) (linked s v) size (register (linked s v) 29 - size) (linked_count s v c)
    ∙ ap (λ u. u - size) (other_register s 31 29 v (λ x. omega (arith, x)))

-- what is handed on
handed_held : (found found' : ℕ → ℕ) (c : Content) (u v : ℕ) → u ≡ v → IsHeld found c v → IsHeld found' (handed c) u
handed_held found found' Nothing u v e h = tt
handed_held found found' (Word n) u v e h = e ∙ h
handed_held found found' (Found r) u v e h = tt

not_sp : (r : ℕ) → (r == 29) ≡ false → r ≢ 29
not_sp r h e = grind (arith, nat_tests, h, e)

not_ra : (r : ℕ) → is_in r arguments ≡ true → r ≢ 31
not_ra r h e = no_true (subst (λ q. is_in q arguments ≡ true) e h)

abbrev is_left : ℕ → Bool
is_left r = is_among (Operand (Reg r)) left_unset

not_link : (r : ℕ) → is_left r ≡ false → r ≢ 31
not_link r h e = no_true (sym (subst (λ q. is_left q ≡ false) e h))

-- what no call leaves unset is given back
kept_one : (r : ℕ) → IsTrue (is_allocated r) → (r == 0) ≡ false → (r == 29) ≡ false → is_left r ≡ false →
    is_in r given_back ≡ true
kept_one r n z p l = grind (arith, nat_tests, n, z, p, l)

in_list : (P : ℕ → Type 0) (rs : List ℕ) (r : ℕ) → is_in r rs ≡ true → AllByRecursion P rs → P r
in_list P [] r h all = cc
in_list P (n ∷ ns) r h all = by (r == n) refl h (λ k. in_list P ns r k all.1)
  where
    by : (b : Bool) → (r == n) ≡ b → (b || is_in r ns) ≡ true → (is_in r ns ≡ true → P r) → P r
    by true e h later = subst P (sym (eqb-true r n e)) all.0
    by false e h later = later h

module _ (found : ℕ → ℕ) (a : Activation) (contents : Contents) (s : MachineState) (v size : ℕ)
    (has : HasRegisters found a contents s) where
  abbrev inside : MachineState
  inside = lower (linked s v) size

  abbrev found_inside : ℕ → ℕ
  found_inside r = register inside r

  abbrev callee : Activation
  callee = record { base = a.base - a.size; size = size }

  -- the registers at the entry of the callee
  pub entry_registers : v < 2 ^ 32 → size < 2 ^ 32 → a.base - a.size < 2 ^ 32 →
      HasRegisters found_inside callee (at_entry contents) inside
  entry_registers w z l = record {
    count = moved_count (nat_le size 32768) (linked s v) size (register (linked s v) 29 - size)
        (linked_count s v has.count);
    words =
        (let sp : register (linked s v) 29 ≡ a.base - a.size =
        other_register s 31 29 v (λ x. omega (arith, x)) ∙ has.each 29 refl in
        moved_words (nat_le size 32768) (linked s v) size (register (linked s v) 29 - size) z (omega (arith, sp, l))
        (All-set (λ u. u < 2 ^ 32) s.registers 31 v w has.words));
    each = λ r n. by r n (r == 0) refl (r == 29) refl (is_in r arguments) refl (is_in r given_back) refl;
    high = tt;
    low = tt;
    high_word = has.high_word;
    low_word = has.low_word;
  }
    where
      by : (r : ℕ) → IsTrue (is_allocated r) → (b : Bool) → (r == 0) ≡ b → (c : Bool) → (r == 29) ≡ c →
          (d : Bool) → is_in r arguments ≡ d → (e : Bool) → is_in r given_back ≡ e →
          IsHeld found_inside
          (if b then Word 0 else if c then Word (a.base - a.size - size) else
          if d then handed (contents (Operand (Reg r))) else if e then Found r else Nothing)
          (register inside r)
      by r n true p c q d x e y =
          subst (λ t. register inside t ≡ 0) (sym (eqb-true r 0 p))
          (entered_register s v size 0 (λ i. omega (arith, i)) (λ i. omega (arith, i)) (λ i. omega (arith, i))
          ∙ has.each 0 refl)
      by r n false p true q d x e y =
          subst (λ t. register inside t ≡ a.base - a.size - size) (sym (eqb-true r 29 q))
          (lowered_there s v size has.count ∙ ap (λ u. u - size) (has.each 29 refl))
      by r n false p false q true x e y =
          let c : held a contents (Operand (Reg r)) ≡ contents (Operand (Reg r)) = rw (p, q) refl in
          handed_held found found_inside (contents (Operand (Reg r))) (register inside r) (register s r)
          (entered_register s v size r (not_at r n) (not_sp r q) (not_ra r x))
          (subst (λ t. IsHeld found t (register s r)) c (has.each r n))
      by r n false p false q false x true y = refl
      by r n false p false q false x false y = tt

  -- the registers after the return, in a state in which all is given back
  pub after_registers : (c : Content) (t : MachineState) → length t.registers ≡ 32 →
      All (λ u. u < 2 ^ 32) t.registers → t.hi < 2 ^ 32 → t.lo < 2 ^ 32 →
      register t 0 ≡ 0 → register t 29 ≡ a.base - a.size → IsHeld found c (register t 2) →
      AllByRecursion (λ r. register t r ≡ found_inside r) given_back → HasRegisters found a (after_call c contents) t
  after_registers c t count words high low none sp result given = record {
    count = count;
    words = words;
    each = λ r n. by r n (r == 0) refl (r == 29) refl (r == 2) refl (is_left r) refl;
    high = tt;
    low = tt;
    high_word = high;
    low_word = low;
  }
    where
      by : (r : ℕ) → IsTrue (is_allocated r) → (b : Bool) → (r == 0) ≡ b → (d : Bool) → (r == 29) ≡ d → (e : Bool) →
          (r == 2) ≡ e →
          (l : Bool) → is_left r ≡ l →
          IsHeld found
          (if b then Word 0 else if d then Word (a.base - a.size) else if e then c else if l then Nothing else
          contents (Operand (Reg r)))
          (register t r)
      by r n true p d q e x l y = subst (λ i. register t i ≡ 0) (sym (eqb-true r 0 p)) none
      by r n false p true q e x l y = subst (λ i. register t i ≡ a.base - a.size) (sym (eqb-true r 29 q)) sp
      by r n false p false q true x l y = subst (λ i. IsHeld found c (register t i)) (sym (eqb-true r 2 x)) result
      by r n false p false q false x true y = tt
      by r n false p false q false x false y =
          let k = kept_one r n p q y in
          let h : held a contents (Operand (Reg r)) ≡ contents (Operand (Reg r)) = rw (p, q) refl in
          let same : register t r ≡ register s r =
          in_list (λ i. register t i ≡ found_inside i) given_back r k given
          ∙ entered_register s v size r (not_at r n) (not_sp r q) (not_link r y) in
          subst (λ u. IsHeld found (contents (Operand (Reg r))) u) (sym same)
          (subst (λ h. IsHeld found h (register s r)) h (has.each r n))

held_of : (found : ℕ → ℕ) (c : Content) (u : ℕ) → IsHanded c u → IsHeld found c u
held_of found Nothing u h = tt
held_of found (Word n) u h = h
held_of found (Found r) u h = absurd h

-- A call of a function that is found.
module _ (g : Setting) (label : _) (k : At g (instr.Call label)) (f : Function (List Instr))
    (c : Contains g.program.functions f) (named : f.label ≡ label.0) where
  abbrev it : Instr
  it = instr.Call label

  abbrev rest : List Line
  rest = behind g it k

  abbrev word : ℕ
  word = g.returns (calls rest)

  abbrev top : ℕ
  top = k.activation.base - k.activation.size

  abbrev bytes : ℕ
  bytes = g.size f.label

  abbrev frame : Activation
  frame = record { base = top; size = bytes }

  abbrev placed : FunctionStands g f
  placed = k.known.functions f c

  abbrev inside_lines : List Line
  inside_lines = code_lines g.turned f.label bytes 0 f.body ++ placed.after

  abbrev entry_lines : List Line
  entry_lines = lowered bytes ++ alone (row.Lw 0 0 29) ∷ inside_lines

  -- the state after the call, and after the entry
  abbrev here : MachineState
  here = linked k.state word

  abbrev there : MachineState
  there = lower here bytes

  abbrev found_there : ℕ → ℕ
  found_there r = register there r

  abbrev finds_there : Finds
  finds_there = found_in top f.slots found_there k.finds

  -- where the callee begins
  abbrev begun : CodePoint
  begun =
      point f f.body frame (λ d w1. onward g it k (with_frame f frame Closed w1) (after_call d k.contents))
      (with_frame f frame Unset k.world) (at_entry k.contents)

  comes_there : (word < 2 ^ 32) × (back_to g word ≡ Some (left rest))
  comes_there =
      k.known.comes k.stands.before rest (function_name label.0)
      (k.stands.whole ∙ ap (λ l. k.stands.before ++ l) (here_is g it k))

  size_is : HasSize bytes f
  size_is = k.known.frames f c

  top_is : register here 29 ≡ top
  top_is = other_register k.state 31 29 word (λ x. omega (arith, x)) ∙ k.stands.registers.each 29 refl

  count_is : length here.registers ≡ 32
  count_is = linked_count k.state word k.stands.registers.count

  floor_is : floor k.state ≡ stack_top - g.stack
  floor_is = ap (λ n. stack_top - n) k.stands.sizes.whole

  is_frame : floor k.state + bytes ≤ top → HasFrame frame f there
  is_frame fits =
      let s = k.stands.frame in let z = size_is in
      let x = s.words in let y = s.size_words in let a = s.above in let u = s.below in
      record {
        words = omega (arith, x, y, a);
        size_words = z.whole;
        holds = z.holds;
        above = fits;
        below = omega (arith, u);
      }

  memory_there : HasMemory k.finds k.world.memory there
  memory_there = memory_stays k.state there.registers k.state.hi k.state.lo k.finds k.world.memory k.stands.memory

  -- the run stands at the callee's code
  enters : floor k.state + bytes ≤ top → Stands g finds_there found_there begun inside_lines there
  enters fits =
      let i = is_frame fits in
      let u = k.stands.frame.below in let most = size_is.most in
      record {
        function = c;
        placed = placed;
        front = [];
        code = refl;
        place = 0;
        here = refl;
        before = placed.before;
        whole = placed.whole;
        sizes = sizes_stay k.state there.registers k.state.hi k.state.lo g k.stands.sizes;
        sized = refl;
        frame = i;
        registers = entry_registers k.found k.activation k.contents k.state word bytes k.stands.registers
            comes_there.0
            (omega (arith, most)) (omega (arith, u));
        memory = opened f frame there found_there k.finds i k.world memory_there;
        owns = λ j h. owns_slots top f.slots found_there k.finds j h;
        input = k.stands.input;
      }

  -- and what comes after the call, after its return
  comes_back : (m : ℕ) → m ≤ k.fuel → BackGoesOn g k.credit m finds_there found_there top begun.back
  comes_back m l d w1 t sizes memory back result input =
      let link : found_there 31 ≡ word = linked_there k.state word bytes k.stands.registers.count in
      let to : back_to g (found_there 31) ≡ Some (left rest) = ap (λ v. back_to g v) link ∙ comes_there.1 in
      let registers =
      after_registers k.found k.activation k.contents k.state word bytes k.stands.registers d t back.count back.words
      back.high_word back.low_word back.zero back.stack (held_of k.found d (register t 2) result) back.given in
      let stands =
      stands_behind g it k (with_frame f frame Closed w1) (after_call d k.contents) t sizes registers
      (closed f frame t found_there k.finds w1 memory) input in
      let on = k.next (with_frame f frame Closed w1) (after_call d k.contents) rest t stands in
      subst (λ o. Simulates 1 k.credit m (begun.back d w1) (going_to g o t w1.input))
      (sym to) (simulates_less 1 k.credit m k.fuel _ _ l on)

  abbrev called : Run Ran
  called = from g k.here k.state k.world.input

  -- the row of the call
  entered : lines_behind (function_name label.0) g.lines ≡ Some (left entry_lines)
  entered = subst (λ n. lines_behind (function_name n) g.lines ≡ Some (left entry_lines)) named placed.entered

  first_row : (x : ℕ) → called (suc x) ≡ works 1 (from g entry_lines here k.world.input x)
  first_row x =
      ap (λ l. from g l k.state k.world.input (suc x)) (here_is g it k)
      ∙ call_is g (function_name label.0) entry_lines rest k.state k.world.input entered x

  top_high : stack_top - g.stack ≤ top
  top_high = let a = k.stands.frame.above in let f = floor_is in omega (arith, a, f)

  within : bytes ≤ register here 29
  within =
      let h = top_high in let t = top_is in let m = size_is.most in let s = k.known.stack_most in
      omega (arith, h, t, m, s)

  fits_word : register here 29 < 2 ^ 32
  fits_word = let t = top_is in let u = k.stands.frame.below in omega (arith, t, u)

  some : 0 < bytes
  some = let m = size_is.some in omega (arith, m)

  whole : (top - bytes) % 4 ≡ 0
  whole =
      let z = size_is in let w = z.whole in let m = z.most in
      let s = k.stands.frame in let x = s.words in let y = s.size_words in let a = s.above in
      let h = top_high in let t = k.known.stack_most in
      omega (arith, w, m, x, y, a, h, t)

  -- where the callee's frame reaches below the floor, the probe ends the run
  full : top < floor k.state + bytes → Comes 5 called (λ i. stops k.world.input (Ended StackFull))
  full low =
      let h = top_high in let m = size_is.most in let s = k.known.stack_most in
      let taken = k.stands.sizes.taken in let most = k.known.room_most in let statics = k.stands.sizes.statics in
      let loads : load_word here (top - bytes) ≡ Err StackFull =
      full_there here (top - bytes) whole (omega (arith, h, m, s)) (omega (arith, low, h, m, s))
      (omega (arith, taken, most)) (omega (arith, statics)) in
      comes_on 1 4 called (from g entry_lines here k.world.input) _ (comes_by _ _ first_row)
      (entry_is_full g bytes here k.world.input count_is some size_is.most within fits_word inside_lines
      (ap (λ n. load_word here (n - bytes)) top_is ∙ loads))

  -- else it goes on at the callee's code
  inside_comes : floor k.state + bytes ≤ top →
      Comes 4 (from g entry_lines here k.world.input) (from g inside_lines there k.world.input)
  inside_comes fits =
      let u = k.stands.frame.below in let z = size_is.some in
      let most = k.known.stack_most in let is = k.stands.sizes.whole in
      let loads : load_word here (top - bytes) ≡ Ok (word_at k.state.stack (top - bytes - floor k.state)) =
      in_stack_there here (top - bytes) whole (omega (arith, fits)) (omega (arith, u, z, fits))
      (omega (arith, most, is)) in
      entry_comes g bytes here k.world.input count_is some size_is.most within fits_word inside_lines
      (word_at k.state.stack (top - bytes - floor k.state))
      (ap (λ n. load_word here (n - bytes)) top_is ∙ loads)

  pub found_call_goes : LinesFollow g it k
      (charged 5 (begin_with g (λ p. with_fuel p.world (later g p)) (Some f) (at_entry k.contents) top
      (λ d w1. onward g it k w1 (after_call d k.contents)) k.world))
  found_call_goes = by (nat_lt top (stack_top - g.stack + bytes)) refl
    where
      by : (b : Bool) → nat_lt top (stack_top - g.stack + bytes) ≡ b →
          LinesFollow g it k
          (charged 5 (if b then over (Ended StackFull) k.world else with_fuel begun.world (later g begun)))
      by true e =
          let low : top < stack_top - g.stack + bytes = grind (arith, nat_tests, e) in
          ends_so k.credit k.fuel 5 5 k.world.input (Ended StackFull) called (omega arith) (full (rw floor_is low))
      by false e =
          let enough : stack_top - g.stack + bytes ≤ top = grind (arith, nat_tests, e) in
          let fits : floor k.state + bytes ≤ top = rw floor_is enough in
          turn_goes_on k.credit k.fuel 5 begun.world (later g begun) called
          (from g inside_lines there k.world.input) refl
          (turns_by 4 called (from g entry_lines here k.world.input) _ first_row (inside_comes fits))
          (λ m lt. k.less m lt finds_there found_there begun inside_lines there (enters fits)
          (comes_back m (omega (arith, lt))))

pub call_goes : (g : Setting) (label : _) → InstructionGoesOn g (instr.Call label)
call_goes g label k = by (function_of label.0 g.program.functions) refl
  where
    by : (o : Option (Function (List Instr))) → function_of label.0 g.program.functions ≡ o →
        LinesFollow g (instr.Call label) k
        (charged 5 (begin_with g (λ p. with_fuel p.world (later g p)) o (at_entry k.contents)
        (k.activation.base - k.activation.size)
        (λ d w1. onward g (instr.Call label) k w1 (after_call d k.contents)) k.world))
    by None e = simulates_wrong 1 k.credit k.fuel _ _ (λ i. refl)
    by (Some f) e = let h = k.known.found label.0 f e in found_call_goes g label k f h.0 h.1
