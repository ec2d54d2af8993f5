-- What the parts of a body act on, and their actions, each of which is passed what comes next: an
-- outcome is what happens from that moment on.
use Rattle.std.specs.Prelude.{ℕ, zero, suc, ◌+◌, ◌^◌, ◌%◌, ◌==◌, List, [], ◌∷◌, ◌++◌, length}
use Rattle.std.specs.Prelude.{replicate, Option, Some, None, true, false, nat_lt, if◌then◌else◌}
use Rattle.std.specs.Prelude.{pos}
use Rattle.std.specs.Fmt.{signed_decimal}
use Rattle.tg_machine_state.specs.declared.ends.RunEnd.TheVariants.{Exit, HeapFull, BadService}
use Rattle.tg_base.specs.Words.{signed}
use Rattle.tg_machine_state.specs.State.{heap_base}
use Rattle.tg_machine_state.specs.Services.{whole_words}
use Rattle.tg_simulation.specs.Runs.{Run}
use Rattle.tg_simulation.specs.Ran.{Ran, Stop, Ended, Wrong, stops, writes, works}
use Rattle.tg_tree.specs.Operators.{Given, word, stops_by}
use Rattle.tg_tree.specs.Memory.{Memory, load_byte}

-- what all activations share: memory, and the input that is left
pub record World : Type 0 where
  pub memory : Memory
  pub input : List ℕ

-- an activation's temporaries; None where one isn't set
abbrev pub Temps : Type 0
Temps = ℕ → Option ℕ

abbrev pub set_temp : ℕ → ℕ → Temps → Temps
set_temp i v temps j = if j == i then Some v else temps j

-- an activation: its frame address and its frame's size, in bytes
pub record Activation : Type 0 where
  pub base : ℕ
  pub size : ℕ

-- what comes after a value, after a statement, after a break out of so many loops and one more,
-- after a return
abbrev pub Go : Type 0 → Type 0
Go A = A → World → Temps → Run Ran

abbrev pub Next : Type 0
Next = World → Temps → Run Ran

abbrev pub Out : Type 0
Out = ℕ → World → Temps → Run Ran

abbrev pub Back : Type 0
Back = ℕ → World → Run Ran

-- what is around a part of a body
pub record Around : Type 0 where
  pub activation : Activation
  pub out : Out
  pub back : Back

-- a part acts, and goes on
abbrev pub Acts : Type 0 → Type 0
Acts K = Around → K → World → Temps → Run Ran

infixl 10 ◌>>=◌
infixl 10 ◌>>◌
abbrev pub ◌>>=◌ : {A K : Type 0} → Acts (Go A) → (A → Acts K) → Acts K
◌>>=◌ first onward e k w t = first e (λ a w1 t1. onward a e k w1 t1) w t

abbrev pub ◌>>◌ : {K : Type 0} → Acts Next → Acts K → Acts K
◌>>◌ first onward e k w t = first e (λ w1 t1. onward e k w1 t1) w t

-- the run is over here
abbrev pub over : Stop → World → Run Ran
over stop w n = stops w.input stop

abbrev pub wrong : World → Run Ran
wrong w = over Wrong w

abbrev pub charged : ℕ → Run Ran → Run Ran
charged k c n = works k (c n)

abbrev pub written : List ℕ → Run Ran → Run Ran
written bytes c n = writes bytes (c n)

-- a word that has to be there
abbrev pub with_word : Option ℕ → World → (ℕ → Run Ran) → Run Ran
with_word None w go = wrong w
with_word (Some v) w go = go v

abbrev pub with_given : Given → World → (ℕ → Run Ran) → Run Ran
with_given (word v) w go = go v
with_given (stops_by stop) w go = over stop w

abbrev pub with_memory : Option Memory → World → (World → Run Ran) → Run Ran
with_memory None w next = wrong w
with_memory (Some m) w next = next (record w { memory = m })

-- Actions.

abbrev pub give : {A : Type 0} → A → Acts (Go A)
give a e go w t = go a w t

abbrev pub skip : Acts Next
skip e next w t = next w t

abbrev pub pay : (units : ℕ) → Acts Next
pay k e next w t = charged k (next w t)

abbrev pub stop : {K : Type 0} → Stop → Acts K
stop s e k w t = over s w

-- a word that has to be there: in itself, in a temporary, in memory
abbrev pub known : Option ℕ → Acts (Go ℕ)
known o e go w t = with_word o w (λ v. go v w t)

abbrev pub read_temp : (temp : ℕ) → Acts (Go ℕ)
read_temp i e go w t = with_word (t i) w (λ v. go v w t)

abbrev pub read_memory : (Memory → Option ℕ) → Acts (Go ℕ)
read_memory f e go w t = with_word (f w.memory) w (λ v. go v w t)

abbrev pub given : Given → Acts (Go ℕ)
given g e go w t = with_given g w (λ v. go v w t)

abbrev pub frame_address : Acts (Go ℕ)
frame_address e go w t = go e.activation.base w t

abbrev pub write_temp : (temp word : ℕ) → Acts Next
write_temp i v e next w t = next w (set_temp i v t)

abbrev pub write_memory : (Memory → Option Memory) → Acts Next
write_memory f e next w t = with_memory (f w.memory) w (λ w1. next w1 t)

-- out of loops, and back from the function
abbrev pub leave : {K : Type 0} → ℕ → Acts K
leave k e next w t = e.out k w t

abbrev pub go_back : {K : Type 0} → ℕ → Acts K
go_back v e next w t = e.back v w

-- out of a loop, or of one around it
abbrev pub leaving : Next → Out → Out
leaving next out zero w t = next w t
leaving next out (suc k) w t = out k w t

-- Services.

-- the bytes from an address up to a 0 byte, at most so many, or None
abbrev pub before : ℕ → Option (List ℕ) → Option (List ℕ)
before b None = None
before b (Some bytes) = Some (b ∷ bytes)

abbrev pub text_from : ℕ → Memory → ℕ → Option (List ℕ)
text_from zero m a = None
text_from (suc n) m a =
    elim (load_byte m a) as (λ _. Option (List ℕ)) [
      | Some b ↦
          elim (b == 0) as (λ _. Option (List ℕ)) [
            | true ↦ Some []
            | false ↦ before b (text_from n m (a + 1))
          ]
      | None ↦ None
    ]

abbrev pub with_text : Option (List ℕ) → World → Run Ran → Run Ran
with_text None w next = wrong w
with_text (Some bytes) w next = written bytes next

-- service 9, where this is the heap's room
abbrev pub take_heap : (room : ℕ) → ℕ → World → (ℕ → World → Run Ran) → Run Ran
take_heap room n w go =
    if nat_lt room (length w.memory.heap + n) then over (Ended HeapFull) w else
    go (heap_base + length w.memory.heap)
    (record w { memory = record w.memory { heap = w.memory.heap ++ replicate n 0 } })

-- service 12
abbrev pub read_byte : List ℕ → World → (ℕ → World → Run Ran) → Run Ran
read_byte [] w go = go 4294967295 w
read_byte (b ∷ rest) w go = go b (record w { input = rest })

-- a service that gives nothing leaves its own number, as the machine does in $v0
abbrev pub service : (room : ℕ) → ℕ → ℕ → World → (ℕ → World → Run Ran) → Run Ran
service room asked a w go =
    if asked == 1 then written (signed_decimal (signed a)) (go asked w) else
    if asked == 4 then with_text (text_from (2 ^ 32) w.memory a) w (go asked w) else
    if asked == 9 then take_heap room (whole_words a) w go else
    if asked == 10 then over (Ended (Exit (pos 0))) w else
    if asked == 11 then written (a % 256 ∷ []) (go asked w) else
    if asked == 12 then read_byte w.input w go else
    if asked == 17 then over (Ended (Exit (signed a))) w else
    over (Ended (BadService asked)) w

-- a service, at the number that asks for it
abbrev pub ask : (room asked argument : ℕ) → Acts (Go ℕ)
ask room n a e go w t = service room n a w (λ v w1. go v w1 t)
