-- Runs of instructions: each is its own step, and goes on with more fuel alone. What relates what comes next, at marks, at calls and after
-- returns relates the runs.
use Rattle.std.proofs.Common.{◌≡◌, ◌≤◌, ◌<◌, ℕ, ◌+◌, ◌-◌, List, [], ◌∷◌, Bool, true, false, length, refl, arith}
use Rattle.std.specs.Prelude.{◌==◌, ◌%◌, Option, Some, None, pos, nat_lt, if◌then◌else◌}
use Rattle.std.specs.Fmt.{signed_decimal}
use Rattle.tg_machine_state.specs.declared.ends.RunEnd.TheVariants.{Exit, Break, StackFull, BadService}
use Rattle.tg_machine_state.specs.State.{stack_top}
use Rattle.tg_base.specs.Words.{add, signed}
use Rattle.tg_machine_state.specs.Services.{whole_words}
use Rattle.tg_simulation.specs.Runs.{Run}
use Rattle.tg_simulation.specs.Ran.{Ran, Ended, WantsFuel, Wrong, stops, IsOver, GoesOn}
use Rattle.tg_simulation.proofs.Fixpoint.{again_is, runs_relate}
use Rattle.tg_tree.specs.Tree.{Function, Literal, Code}
use Rattle.tg_tree.specs.Memory.{Memory, Unset, Closed, put, slot, begin, literal_address}
use Rattle.tg_tree.specs.Operators.{Given, word, stops_by, holds}
use Rattle.tg_tree.specs.Actions.{World, Activation, wrong, with_word, with_given, with_memory, service}
use Rattle.tg_tree.specs.Running.{function_of, with_fuel}
use Rattle.tg_tree.proofs.Relating.{Related, Keeps, keep_if}
use Rattle.tg_tree.proofs.Going.{one, OneWorld, OneTemps, Same, same_keeps, IsOnward, Onward, onward_keeps}
use Rattle.tg_instr.specs.declared.operands.Opnd.{Opnd}
use Rattle.tg_instr.specs.declared.operands.Opnd.TheVariants.{Reg}
use Rattle.tg_instr.specs.declared.instr.Instr.{Instr}
use Rattle.tg_instr.specs.Operands.{is_same}
use Rattle.tg_instr.specs.Shapes.{Operand, Hi, Lo, InstructionShape, From0, From1, From2, Halves, Copy, Loads, Stores, FromSlot, ToSlot, Base, AddressOf}
use Rattle.tg_instr.specs.Shapes.{Here, Goes, Tests, Calls, Asks, Fails, Returns, shape}
use Rattle.tg_instr.specs.Uses.{given_back}
use Rattle.tg_instr.specs.Contents.{Content, Nothing, Word, Found, Contents, no_contents, set, held, handed, at_entry, after_call, gives_back}
use Rattle.tg_instr.specs.Contents.{cell_of, content_of}
use Rattle.tg_instr.specs.Meaning.{Back, Enter, Around, Next, Jumps, with_content, with_content_word, jump, skip, act}
use Rattle.tg_instr.specs.Running.{Units, CodePoint, behind, run_code, code_step, code_going, code_run, begin_code, enter_code, jump_to, with_frame}

module _ (R : Related) (keeps : Keeps R OneWorld OneTemps) where
  -- what comes after a return
  abbrev pub AlikeReturns : ℕ → Back → Back → Type 0
  AlikeReturns n back back' = (c : Content) (x : World) → R n x (back c x) (back' c x)

  module _ (n : ℕ) where
    keep_content_word : (c : Content) (w : World) (p q : ℕ → Run Ran) → ((v : ℕ) → R n w (p v) (q v)) →
        R n w (with_content_word c w p) (with_content_word c w q)
    keep_content_word (Word v) w p q h = h v
    keep_content_word (Found r) w p q h = keeps.stop n Wrong w w (one w)
    keep_content_word Nothing w p q h = keeps.stop n Wrong w w (one w)

    keep_content : (c : Content) (w : World) (p q : Content → Run Ran) → ((d : Content) → R n w (p d) (q d)) →
        R n w (with_content c w p) (with_content c w q)
    keep_content (Word v) w p q h = h (Word v)
    keep_content (Found r) w p q h = h (Found r)
    keep_content Nothing w p q h = keeps.stop n Wrong w w (one w)

    keep_memory : (o : Option Memory) (w : World) (p q : World → Run Ran) → ((x : World) → R n x (p x) (q x)) →
        R n w (with_memory o w p) (with_memory o w q)
    keep_memory (Some m) w p q h = keeps.later n w (record w { memory = m }) _ _ ([], refl) (h _)
    keep_memory None w p q h = keeps.stop n Wrong w w (one w)

    word_kept : (o : Option ℕ) (w : World) (p q : ℕ → Run Ran) → ((v : ℕ) → R n w (p v) (q v)) → R n w (with_word o w p) (with_word o w q)
    word_kept (Some v) w p q h = h v
    word_kept None w p q h = keeps.stop n Wrong w w (one w)

    given_kept : (g : Given) (w : World) (p q : ℕ → Run Ran) → ((v : ℕ) → R n w (p v) (q v)) → R n w (with_given g w p) (with_given g w q)
    given_kept (word v) w p q h = h v
    given_kept (stops_by s) w p q h = keeps.stop n s w w (one w)

    either : (b : Bool) (w : World) (c d c' d' : Run Ran) → R n w c c' → R n w d d' → R n w (if b then c else d) (if b then c' else d')
    either b w c d c' d' h k = keep_if R OneWorld OneTemps keeps n b w c d c' d' h k

    wrongs : (w : World) → R n w (wrong w) (wrong w)
    wrongs w = keeps.stop n Wrong w w (one w)

    worlds : (p q : ℕ → World → Run Ran) → ((v : ℕ) (x : World) → R n x (p v x) (q v x)) → (v : ℕ) (x y : World) → OneWorld x y →
        R n x (p v x) (q v y)
    worlds p q h v x y (one z) = h v z

    service_kept : (room asked a : ℕ) (w : World) (p q : ℕ → World → Run Ran) → ((v : ℕ) (x : World) → R n x (p v x) (q v x)) →
        R n w (service room asked a w p) (service room asked a w q)
    service_kept room asked a w p q h =
        either (asked == 1) w _ _ _ _ (keeps.write n (signed_decimal (signed a)) w (p asked w) (q asked w) (h asked w))
        (either (asked == 4) w _ _ _ _ (keeps.text n a w w _ _ (one w) (h asked w))
        (either (asked == 9) w _ _ _ _ (keeps.heap n room (whole_words a) w w p q (one w) (worlds p q h))
        (either (asked == 10) w _ _ _ _ (keeps.stop n (Ended (Exit (pos 0))) w w (one w))
        (either (asked == 11) w _ _ _ _ (keeps.write n (a % 256 ∷ []) w (p asked w) (q asked w) (h asked w))
        (either (asked == 12) w _ _ _ _ (keeps.reads n w w p q (one w) (worlds p q h))
        (either (asked == 17) w _ _ _ _ (keeps.stop n (Ended (Exit (signed a))) w w (one w))
        (keeps.stop n (Ended (BadService asked)) w w (one w))))))))

    -- An instruction, where calls, jumps, returns and what comes next are related.
    module _
        (room : ℕ) (literals : List Literal) (enter enter' : Enter)
        (enters : (label : ℕ) (s : Contents) (top : ℕ) (back back' : Back) (w : World) → AlikeReturns n back back' →
        R n w (enter label s top back w) (enter' label s top back' w))
        (a : Activation) (slots : ℕ) (jumps jumps' : Jumps) (back back' : Back)
        (jump_same : (m : ℕ) (w : World) (s : Contents) → R n w (jumps m w s) (jumps' m w s)) (back_same : AlikeReturns n back back')
        (next next' : Next) (next_same : (w : World) (s : Contents) → R n w (next w s) (next' w s)) where
      abbrev e : Around
      e = record { activation = a; slots = slots; jumps = jumps; back = back }

      abbrev e' : Around
      e' = record { activation = a; slots = slots; jumps = jumps'; back = back' }

      tests : (b : Bool) (m : ℕ) (w : World) (s : Contents) → R n w ((if b then jump m else skip) e next w s) ((if b then jump m else skip) e' next' w s)
      tests true m w s = jump_same m w s
      tests false m w s = next_same w s

      -- an operand gets what it holds
      puts : (to : Opnd) (c : Content) (w : World) (s : Contents) →
          R n w (if is_same to (Reg 29) then wrong w else next w (set (Operand to) c s))
          (if is_same to (Reg 29) then wrong w else next' w (set (Operand to) c s))
      puts to c w s = either (is_same to (Reg 29)) w _ _ _ _ (wrongs w) (next_same w (set (Operand to) c s))

      pub keep_act : (i : InstructionShape) (w : World) (s : Contents) →
          R n w (act room literals enter i e next w s) (act room literals enter' i e' next' w s)
      keep_act (From0 to k) w s = puts to (Word k) w s
      keep_act (From1 to from f) w s =
          keep_content_word (held a s from) w _ _ (λ u. given_kept (f u) w _ _ (λ r. puts to (Word r) w s))
      keep_act (From2 to left right f) w s =
          keep_content_word (held a s (Operand left)) w _ _ (λ u. keep_content_word (held a s (Operand right)) w _ _ (λ v.
          given_kept (f u v) w _ _ (λ r. puts to (Word r) w s)))
      keep_act (Halves left right low high) w s =
          keep_content_word (held a s (Operand left)) w _ _ (λ u. keep_content_word (held a s (Operand right)) w _ _ (λ v.
          given_kept (low u v) w _ _ (λ l. given_kept (high u v) w _ _ (λ h. next_same w (set Lo (Word l) (set Hi (Word h) s))))))
      keep_act (Copy to from) w s = keep_content (held a s (Operand from)) w _ _ (λ c. puts to c w s)
      keep_act (Loads to base k f) w s =
          keep_content_word (held a s (Operand base)) w _ _ (λ u. word_kept (f w.memory (add u k)) w _ _ (λ v. puts to (Word v) w s))
      keep_act (Stores from base k f) w s =
          keep_content_word (held a s (Operand base)) w _ _ (λ u. keep_content_word (held a s (Operand from)) w _ _ (λ v.
          keep_memory (f w.memory (add u k) v) w _ _ (λ x. next_same x s)))
      keep_act (FromSlot to k) w s =
          either (nat_lt k slots) w _ _ _ _ (keep_content (content_of (w.memory.stack (slot a.base k))) w _ _ (λ c. puts to c w s)) (wrongs w)
      keep_act (ToSlot from k) w s =
          keep_content (held a s (Operand from)) w _ _ (λ c. either (nat_lt k slots) w _ _ _ _
          (keeps.later n w (record w { memory = put (slot a.base k) (cell_of c) w.memory }) _ _ ([], refl) (next_same _ s)) (wrongs w))
      keep_act (Base to) w s = puts to (Word a.base) w s
      keep_act (AddressOf to label) w s = word_kept (literal_address literals label) w _ _ (λ v. puts to (Word v) w s)
      keep_act (Here m) w s = next_same w s
      keep_act (Goes m) w s = jump_same m w s
      keep_act (Tests rel left right m) w s =
          keep_content_word (held a s (Operand left)) w _ _ (λ u. keep_content_word (held a s (Operand right)) w _ _ (λ v.
          tests (holds rel u v) m w s))
      keep_act (Calls label) w s = enters label (at_entry s) (a.base - a.size) _ _ w (λ c x. next_same x (after_call c s))
      keep_act Asks w s =
          keep_content_word (held a s (Operand (Reg 2))) w _ _ (λ k. keep_content_word (held a s (Operand (Reg 4))) w _ _ (λ u.
          service_kept room k u w _ _ (λ v x. next_same x (set (Operand (Reg 2)) (Word v) s))))
      keep_act (Fails k) w s = keeps.stop n (Ended (Break k)) w w (one w)
      keep_act Returns w s = either (gives_back given_back s) w _ _ _ _ (back_same (handed (s (Operand (Reg 2)))) w) (wrongs w)

  -- two places that differ in what comes after the return alone, as far as so much fuel
  pub data AlikeCode (n : ℕ) : CodePoint → CodePoint → Type 0 where
    alike_code :
        (f : Function (List Instr)) (rest : List Instr) (a : Activation) (back back' : Back) (w : World) (s : Contents) →
        AlikeReturns n back back' →
        AlikeCode n (record { function = f; rest = rest; activation = a; back = back; world = w; contents = s })
        (record { function = f; rest = rest; activation = a; back = back'; world = w; contents = s })

  pub code_down : (m n : ℕ) (x y : CodePoint) → m ≤ n → AlikeCode n x y → AlikeCode m x y
  code_down m n x y le (alike_code f rest a back back' w s h) = alike_code f rest a back back' w s (λ c v. keeps.down m n v _ _ le (h c v))

  module _ (units : Units) (code : Code (List Instr)) (size : ℕ → ℕ) (floor room n : ℕ) where
    pub keep_begin : (c d : CodePoint → Run Ran) → ((x y : CodePoint) → AlikeCode n x y → R n x.world (c x) (d y)) →
        (g : Option (Function (List Instr))) (s : Contents) (top : ℕ) (back back' : Back) (w : World) → AlikeReturns n back back' →
        R n w (begin_code units code size floor room c g s top back w) (begin_code units code size floor room d g s top back' w)
    keep_begin c d on None s top back back' w h = wrongs n w
    keep_begin c d on (Some f) s top back back' w h =
        let laid = with_frame f (record { base = top; size = size f.label }) Unset w in
        either n (nat_lt top (floor + size f.label)) w _ _ _ _ (keeps.stop n (Ended StackFull) w w (one w))
        (keeps.later n w laid _ _ ([], refl) (on _ _ (alike_code f f.body (record { base = top; size = size f.label }) _ _ laid s
        (λ k x. keeps.later n x (with_frame f (record { base = top; size = size f.label }) Closed x) _ _ ([], refl)
        (h k (with_frame f (record { base = top; size = size f.label }) Closed x))))))

    module _ (c d : CodePoint → Run Ran)
        (later : (m : ℕ) → m < n → (x y : CodePoint) → AlikeCode m x y → R m x.world (c x) (d y)) where
      -- after a unit of fuel
      keep_fuelled : (x y : CodePoint) → AlikeCode n x y → R n x.world (with_fuel x.world (c x)) (with_fuel y.world (d y))
      keep_fuelled x y (alike_code f rest a back back' w s h) =
          keeps.fuel n w w _ _ (one w) (λ m lt. later m lt _ _ (code_down m n _ _ (omega arith) (alike_code f rest a back back' w s h)))

      module _ (f : Function (List Instr)) (a : Activation) (back back' : Back) (h : AlikeReturns n back back') where
        keep_jump : (o : Option (List Instr)) (w : World) (s : Contents) →
            R n w (jump_to units code size floor room c f o a back w s) (jump_to units code size floor room d f o a back' w s)
        keep_jump None w s = wrongs n w
        keep_jump (Some rest) w s = keep_fuelled _ _ (alike_code f rest a back back' w s h)

        keep_code : (rest : List Instr) (w : World) (s : Contents) →
            R n w (run_code units code size floor room c f rest a back w s) (run_code units code size floor room d f rest a back' w s)
        keep_code [] w s = wrongs n w
        keep_code (it ∷ rest) w s =
            keeps.work n (units f.label (length rest) it) w _ _ (keep_act n room code.literals (enter_code units code size floor room c)
            (enter_code units code size floor room d)
            (λ label s1 top b b' w1 hb. keep_begin _ _ keep_fuelled (function_of label code.functions) s1 top b b' w1 hb) a f.slots _ _ back back'
            (λ m w1 s1. keep_jump (behind m f.body) w1 s1) h _ _ (λ w1 s1. keep_code rest w1 s1) (shape it) w s)

      pub keep_step : (x y : CodePoint) → AlikeCode n x y →
          R n x.world (code_step units code size floor room c x) (code_step units code size floor room d y)
      keep_step x y (alike_code f rest a back back' w s h) = keep_code f a back back' h rest w s

module _ (units : Units) (code : Code (List Instr)) (size : ℕ → ℕ) (floor room : ℕ) where
  abbrev goes : CodePoint → Run Ran
  goes = code_going units code size floor room

  -- a run is its own step
  pub code_steps : (p : CodePoint) (n : ℕ) → goes p n ≡ code_step units code size floor room goes p n
  code_steps =
      again_is (stops [] WantsFuel) (code_step units code size floor room) (AlikeCode Same same_keeps)
      (record {
        alike = λ n x. alike_code x.function x.rest x.activation x.back x.back x.world x.contents (λ c y i le. refl);
        down = λ m n x y le h. code_down Same same_keeps m n x y le h;
      })
      (λ n c d h x y r. keep_step Same same_keeps units code size floor room n c d h x y r)

  -- what the steps keep holds of the runs from places that are alike
  pub code_relate : (R : Related) (keeps : Keeps R OneWorld OneTemps) (n : ℕ) (x y : CodePoint) → AlikeCode R keeps n x y →
      R n x.world (goes x) (goes y)
  code_relate R keeps n x y r =
      runs_relate (AlikeCode R keeps) (λ m v z c d. R m v.world c d) (code_step units code size floor room) (code_step units code size floor room)
      (λ k c d h v z q. keep_step R keeps units code size floor room k c d h v z q) goes goes code_steps code_steps n x y r

  module _ (body : ℕ) (input : List ℕ) (i j : ℕ) (le : i ≤ j) where
    onward : IsOnward (record { memory = begin code.literals; input = input }) (code_run units code size floor room body input i)
        (code_run units code size floor room body input j)
    onward =
        keep_begin Onward onward_keeps units code size floor room j goes goes (code_relate Onward onward_keeps j)
        (function_of body code.functions) (at_entry no_contents) stack_top _ _ (record { memory = begin code.literals; input = input })
        (λ c w. onward_keeps.stop j (Ended (Exit (pos 0))) w w (one w)) j i (omega arith) le

    pub code_stays_over : IsOver (code_run units code size floor room body input i).stop →
        code_run units code size floor room body input j ≡ code_run units code size floor room body input i
    code_stays_over o = onward.over o

    pub code_only_goes_on : GoesOn (code_run units code size floor room body input i) (code_run units code size floor room body input j)
    code_only_goes_on = onward.on
