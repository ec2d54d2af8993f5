-- What a reading gives, as a value, and that the instruction puts it there.
use Rattle.std.proofs.Common.{ℕ, ◌≡◌, ◌&&◌, ◌==◌, Bool, true, false, List, [], ◌∷◌, Option, Some, None, refl, sym, ap, nat_lt}
use Rattle.std.proofs.lemmas.Bool.{eqb-true, and_parts, false≢true}
use Rattle.std.specs.Prelude.{if◌then◌else◌}
use Rattle.tg_base.specs.Words.{add, exact_sum, extended, shift_left, flag}
use Rattle.tg_simulation.specs.Runs.{Run}
use Rattle.tg_simulation.specs.Ran.{Ran, Stop, Wrong}
use Rattle.tg_tree.specs.Tree.{Literal}
use Rattle.tg_tree.specs.Actions.{World, Activation, over, wrong, with_word, with_given}
use Rattle.tg_tree.specs.Memory.{load, slot}
use Rattle.tg_tree.specs.Operators.{Given, word, stops_by, exactly}
use Rattle.tg_instr.specs.declared.operands.Opnd.{Opnd}
use Rattle.tg_instr.specs.Operands.{is_same}
use Rattle.tg_instr.specs.Shapes.{Operand}
use Rattle.tg_instr.specs.Contents.{Content, Nothing, Word, Found, Contents, set, held, content_of}
use Rattle.tg_instr.specs.Meaning.{Next, Around, Enter, with_content_word, with_content, act}
use Rattle.tg_instr.proofs.Same.{same_is}
use Rattle.tg_redundancy.specs.declared.readings.Reading.{Reading}
use Rattle.tg_redundancy.specs.declared.readings.Reading.TheVariants.{Moved, Loaded, InSlot, Sum, Plus, ExactSum, ExactPlus, Shifted, Lower}
use Rattle.tg_redundancy.specs.mirror.Readings.{temp, read_by, reads_memory, reread, same_reading}
use Rattle.tg_redundancy.proofs.ReadShapes.{shape_of}

pub data Got : Type 0 where
  Put : Content → Got
  Over : Stop → Got

abbrev pub word_got : Content → (ℕ → Got) → Got
word_got (Word v) go = go v
word_got Nothing go = Over Wrong
word_got (Found r) go = Over Wrong

abbrev pub content_got : Content → Got
content_got Nothing = Over Wrong
content_got (Word v) = Put (Word v)
content_got (Found r) = Put (Found r)

abbrev pub given_got : Given → Got
given_got (word v) = Put (Word v)
given_got (stops_by stop) = Over stop

abbrev pub option_got : Option ℕ → Got
option_got None = Over Wrong
option_got (Some v) = Put (Word v)

-- in an activation with so many slots
abbrev pub gets : Reading → Activation → (slots : ℕ) → World → Contents → Got
gets (Moved x) a k w s = content_got (held a s (Operand x))
gets (Loaded n x) a k w s = word_got (held a s (Operand x)) (λ u. option_got (load w.memory (add u (extended n))))
gets (InSlot j) a k w s =
    if nat_lt j k then content_got (content_of (w.memory.stack (slot a.base j))) else Over Wrong
gets (Sum x y) a k w s =
    word_got (held a s (Operand x)) (λ u. word_got (held a s (Operand y)) (λ v. given_got (word (add u v))))
gets (Plus x n) a k w s = word_got (held a s (Operand x)) (λ u. given_got (word (add u (extended n))))
gets (ExactSum x y) a k w s =
    word_got (held a s (Operand x)) (λ u. word_got (held a s (Operand y)) (λ v. given_got (exactly (exact_sum u v))))
gets (ExactPlus x n) a k w s = word_got (held a s (Operand x)) (λ u. given_got (exactly (exact_sum u (extended n))))
gets (Shifted x n) a k w s = word_got (held a s (Operand x)) (λ u. given_got (word (shift_left u n)))
gets (Lower x y) a k w s =
    word_got (held a s (Operand x)) (λ u. word_got (held a s (Operand y)) (λ v. given_got (word (flag (nat_lt u v)))))

abbrev pub done : Got → World → (Content → Run Ran) → Run Ran
done (Put c) w go = go c
done (Over stop) w go = over stop w

content_done : (c : Content) (w : World) (go : Content → Run Ran) → with_content c w go ≡ done (content_got c) w go
content_done Nothing w go = refl
content_done (Word v) w go = refl
content_done (Found r) w go = refl

word_done : (c : Content) (w : World) (x : ℕ → Run Ran) (g : ℕ → Got) (go : Content → Run Ran) →
    ((v : ℕ) → x v ≡ done (g v) w go) → with_content_word c w x ≡ done (word_got c g) w go
word_done Nothing w x g go h = refl
word_done (Word v) w x g go h = h v
word_done (Found r) w x g go h = refl

given_done : (g : Given) (w : World) (go : Content → Run Ran) → with_given g w (λ v. go (Word v)) ≡ done (given_got g) w go
given_done (word v) w go = refl
given_done (stops_by stop) w go = refl

option_done : (o : Option ℕ) (w : World) (go : Content → Run Ran) → with_word o w (λ v. go (Word v)) ≡ done (option_got o) w go
option_done None w go = refl
option_done (Some v) w go = refl

if_done : (b : Bool) (c : Content) (w : World) (go : Content → Run Ran) →
    (if b then with_content c w go else wrong w) ≡ done (if b then content_got c else Over Wrong) w go
if_done true c w go = content_done c w go
if_done false c w go = refl

-- an instruction that reads puts what it gets
module _ (room : ℕ) (literals : List Literal) (enter : Enter) where
  pub act_gets : (r : Reading) (t : ℕ) (e : Around) (next : Next) (w : World) (s : Contents) →
      act room literals enter (shape_of t r) e next w s
      ≡ done (gets r e.activation e.slots w s) w (λ c. next w (set (Operand (temp t)) c s))
  act_gets (Moved x) t e next w s = content_done (held e.activation s (Operand x)) w _
  act_gets (Loaded n x) t e next w s =
      word_done (held e.activation s (Operand x)) w _ _ _ (λ u. option_done (load w.memory (add u (extended n))) w _)
  act_gets (InSlot j) t e next w s = if_done (nat_lt j e.slots) (content_of (w.memory.stack (slot e.activation.base j))) w _
  act_gets (Sum x y) t e next w s =
      word_done (held e.activation s (Operand x)) w _ _ _ (λ u.
      word_done (held e.activation s (Operand y)) w _ _ _ (λ v. refl))
  act_gets (Plus x n) t e next w s =
      word_done (held e.activation s (Operand x)) w _ _ _ (λ u. refl)
  act_gets (ExactSum x y) t e next w s =
      word_done (held e.activation s (Operand x)) w _ _ _ (λ u.
      word_done (held e.activation s (Operand y)) w _ _ _ (λ v. given_done (exactly (exact_sum u v)) w _))
  act_gets (ExactPlus x n) t e next w s =
      word_done (held e.activation s (Operand x)) w _ _ _ (λ u. given_done (exactly (exact_sum u (extended n))) w _)
  act_gets (Shifted x n) t e next w s =
      word_done (held e.activation s (Operand x)) w _ _ _ (λ u. refl)
  act_gets (Lower x y) t e next w s =
      word_done (held e.activation s (Operand x)) w _ _ _ (λ u.
      word_done (held e.activation s (Operand y)) w _ _ _ (λ v. refl))

-- What a reading gets is told by what its operands hold.
module _ (a : Activation) (k : ℕ) (w : World) where
  abbrev pub Alike : (Opnd → Opnd) → Contents → Contents → List Opnd → Type 0
  Alike f s s' [] = Unit {0}
  Alike f s s' (x ∷ xs) = (held a s' (Operand (f x)) ≡ held a s (Operand x)) × Alike f s s' xs

  pub gets_alike : (f : Opnd → Opnd) (r : Reading) (s s' : Contents) → Alike f s s' (read_by r) →
      gets (reread f r) a k w s' ≡ gets r a k w s
  gets_alike f (Moved x) s s' h = λ i. content_got (h.0 i)
  gets_alike f (Loaded n x) s s' h = λ i. word_got (h.0 i) (λ u. option_got (load w.memory (add u (extended n))))
  gets_alike f (InSlot j) s s' h = refl
  gets_alike f (Sum x y) s s' h = λ i. word_got (h.0 i) (λ u. word_got (h.1.0 i) (λ v. given_got (word (add u v))))
  gets_alike f (Plus x n) s s' h = λ i. word_got (h.0 i) (λ u. given_got (word (add u (extended n))))
  gets_alike f (ExactSum x y) s s' h = λ i. word_got (h.0 i) (λ u. word_got (h.1.0 i) (λ v. given_got (exactly (exact_sum u v))))
  gets_alike f (ExactPlus x n) s s' h = λ i. word_got (h.0 i) (λ u. given_got (exactly (exact_sum u (extended n))))
  gets_alike f (Shifted x n) s s' h = λ i. word_got (h.0 i) (λ u. given_got (word (shift_left u n)))
  gets_alike f (Lower x y) s s' h = λ i. word_got (h.0 i) (λ u. word_got (h.1.0 i) (λ v. given_got (word (flag (nat_lt u v)))))

pub reread_itself : (r : Reading) → reread (λ x. x) r ≡ r
reread_itself (Moved x) = refl
reread_itself (Loaded n x) = refl
reread_itself (InSlot j) = refl
reread_itself (Sum x y) = refl
reread_itself (Plus x n) = refl
reread_itself (ExactSum x y) = refl
reread_itself (ExactPlus x n) = refl
reread_itself (Shifted x n) = refl
reread_itself (Lower x y) = refl

-- without memory another world is as good
pub gets_anywhere : (r : Reading) (a : Activation) (k : ℕ) (w v : World) (s : Contents) → reads_memory r ≡ false →
    gets r a k v s ≡ gets r a k w s
gets_anywhere (Loaded n x) a k w v s e = absurd (false≢true (sym e))
gets_anywhere (InSlot j) a k w v s e = absurd (false≢true (sym e))
gets_anywhere _ a k w v s e = refl

-- it never puts nothing
no_content : (c : Content) → content_got c ≡ Put Nothing → ⊥
no_content Nothing e = cc
no_content (Word v) e = cc
no_content (Found r) e = cc

no_put : (v : ℕ) → Put (Word v) ≡ Put Nothing → ⊥
no_put v e = cc

no_given : (g : Given) → given_got g ≡ Put Nothing → ⊥
no_given (word v) e = cc
no_given (stops_by stop) e = cc

no_option : (o : Option ℕ) → option_got o ≡ Put Nothing → ⊥
no_option None e = cc
no_option (Some v) e = cc

no_word : (c : Content) (g : ℕ → Got) → ((v : ℕ) → g v ≡ Put Nothing → ⊥) → word_got c g ≡ Put Nothing → ⊥
no_word Nothing g h e = cc
no_word (Word v) g h e = h v e
no_word (Found r) g h e = cc

no_if : (b : Bool) (c : Content) → (if b then content_got c else Over Wrong) ≡ Put Nothing → ⊥
no_if true c e = no_content c e
no_if false c e = cc

pub puts_something : (r : Reading) (a : Activation) (k : ℕ) (w : World) (s : Contents) → gets r a k w s ≡ Put Nothing → ⊥
puts_something (Moved x) a k w s = no_content _
puts_something (Loaded n x) a k w s = no_word (held a s (Operand x)) _ (λ u. no_option _)
puts_something (InSlot j) a k w s = no_if (nat_lt j k) _
puts_something (Sum x y) a k w s = no_word (held a s (Operand x)) _ (λ u. no_word (held a s (Operand y)) _ (λ v. no_put _))
puts_something (Plus x n) a k w s = no_word (held a s (Operand x)) _ (λ u. no_put _)
puts_something (ExactSum x y) a k w s = no_word (held a s (Operand x)) _ (λ u. no_word (held a s (Operand y)) _ (λ v. no_given _))
puts_something (ExactPlus x n) a k w s = no_word (held a s (Operand x)) _ (λ u. no_given _)
puts_something (Shifted x n) a k w s = no_word (held a s (Operand x)) _ (λ u. no_put _)
puts_something (Lower x y) a k w s = no_word (held a s (Operand x)) _ (λ u. no_word (held a s (Operand y)) _ (λ v. no_put _))

-- readings that are the same
numbered : (f : Opnd → ℕ → Reading) (n m : ℕ) (x y : Opnd) → (n == m && is_same x y) ≡ true → f x n ≡ f y m
numbered f n m x y e =
    let p = and_parts (n == m) (is_same x y) e in λ i. f (same_is x y p.1 i) (eqb-true n m p.0 i)

paired : (f : Opnd → Opnd → Reading) (x y u v : Opnd) → (is_same x u && is_same y v) ≡ true → f x y ≡ f u v
paired f x y u v e =
    let p = and_parts (is_same x u) (is_same y v) e in λ i. f (same_is x u p.0 i) (same_is y v p.1 i)

pub same_reading_is : (q r : Reading) → same_reading q r ≡ true → q ≡ r
same_reading_is (Moved x) (Moved y) e = ap Moved (same_is x y e)
same_reading_is (Loaded n x) (Loaded m y) e = numbered (λ z j. Loaded j z) n m x y e
same_reading_is (InSlot j) (InSlot k) e = ap InSlot (eqb-true j k e)
same_reading_is (Sum x y) (Sum u v) e = paired Sum x y u v e
same_reading_is (Plus x n) (Plus y m) e = numbered Plus n m x y e
same_reading_is (ExactSum x y) (ExactSum u v) e = paired ExactSum x y u v e
same_reading_is (ExactPlus x n) (ExactPlus y m) e = numbered ExactPlus n m x y e
same_reading_is (Shifted x n) (Shifted y m) e = numbered Shifted n m x y e
same_reading_is (Lower x y) (Lower u v) e = paired Lower x y u v e
same_reading_is _ _ e = absurd (false≢true e)
