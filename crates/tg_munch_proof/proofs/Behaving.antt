-- What choices do, one after another: of the operand that is given, of what is drawn and of the contents after the
-- instructions a fact holds, or the run
-- has stopped as the word that is given has.
use Rattle.tg_munch_proof.specs.glue.Places.{Place, goes, IsPart, Lands, Behaves}
use Rattle.tg_munch_proof.specs.laws.Values.{IsSettable}
use Rattle.std.proofs.Common.{◌≡◌, ◌≤◌, ℕ, ◌+◌, List, ◌∷◌, ◌++◌, append_assoc, Bool, refl, sym, ap, ◌∙◌, subst, arith}
use Rattle.std.specs.Prelude.{Option, Some, None, if◌then◌else◌}
use Rattle.tg_simulation.specs.Runs.{Run}
use Rattle.tg_simulation.specs.Ran.{Ran, Ended, WantsFuel, Wrong, works}
use Rattle.tg_simulation.proofs.Simulations.{comes_itself}
use Rattle.tg_tree.specs.Operators.{Given, word, stops_by}
use Rattle.tg_tree.specs.FlatValue.{onward, after_word, or_wrong}
use Rattle.tg_tree.specs.Actions.{World, with_given, with_word, wrong}
use Rattle.tg_instr.specs.declared.operands.Opnd.{Opnd}
use Rattle.tg_instr.specs.declared.operands.Opnd.TheVariants.{Temp, Reg}
use Rattle.tg_instr.specs.declared.instr.Instr.{Instr}
use Rattle.tg_instr.specs.Shapes.{Holder, Operand, Hi, Lo, InstructionShape, From1, From2, Halves, Copy, shape}
use Rattle.tg_instr.specs.Contents.{Content, Word, Contents, set, held}
use Rattle.tg_instr.specs.Meaning.{Around, with_content_word, with_content, put_in, act}
use Rattle.tg_instr.specs.Running.{code_going, around, enter_code}
use Rattle.tg_munch.specs.mirror.Choosing.{Choice, NumbersDrawn, ◌>>=◌}
use Rattle.tg_munch_proof.specs.glue.Places.{each_one, Does, gives, ends, unsaid}
use Rattle.tg_munch_proof.proofs.Does.{does_within, does_onward}

-- a word, or a stop that no fuel changes
abbrev pub IsSaid : Given → Type 0
IsSaid (stops_by WantsFuel) = ⊥
IsSaid _ = Unit {0}

abbrev pub here : Place → Around
here p = around each_one p.code p.size p.floor p.room (code_going each_one p.code p.size p.floor p.room) p.function
    p.activation p.back

abbrev pub acts : Place → InstructionShape → World → List Instr → Contents → Run Ran
acts p h x rest s =
    act p.room p.code.literals (enter_code each_one p.code p.size p.floor p.room (code_going each_one p.code p.size
    p.floor p.room)) h (here p)
    (λ w1 s1. goes p w1 rest s1) x s

pub later_part : (p : Place) (front rest : List Instr) → IsPart p (front ++ rest) → IsPart p rest
later_part p front rest h = (h.0 ++ front, h.1 ∙ sym (append_assoc h.0 front rest))

does_is : (x : World) (P : ℕ → Run Ran → Type 0) (k : ℕ) (c : Run Ran) (g h : Given) → g ≡ h → Does x P k c g → Does
    x P k c h
does_is x P k c g h e b = subst (λ y. Does x P k c y) e b

module _ (p : Place) (x : World) where
  pub bind : {A B : Type 0} (first : Choice A) (next : A → Choice B) (d : NumbersDrawn) (s : Contents) (k l n : ℕ) (g :
      Given) (h : ℕ → Given)
      (Q : A → NumbersDrawn → ℕ → Contents → Type 0) (R : B → NumbersDrawn → ℕ → Contents → Type 0) →
      k + after_word g l ≤ n →
      Behaves p x first d s k g Q →
      ((v : ℕ) (s1 : Contents) → Q (first d).value (first d).drawn v s1 → Behaves p x (next (first d).value) (first
      d).drawn s1 l (h v) R) →
      Behaves p x (first >>= next) d s n (onward g h) R
  unfolding ◌>>=◌
  bind first next d s k l n g h Q R le one two rest part =
      let a = first d in
      let b = next a.value a.drawn in
      let same = append_assoc a.code b.code rest in
      let there : IsPart p (a.code ++ (b.code ++ rest)) = subst (λ xs. IsPart p xs) same part in
      does_within x _ (k + after_word g l) n _ _ le
      (subst (λ xs. Does x (λ v e. Lands p x (R b.value b.drawn v) rest e) (k + after_word g l) (goes p x xs s)
      (onward g h)) (sym same)
      (does_onward x _ _ k l _ g h (one (b.code ++ rest) there)
      (λ v e q. subst (λ c. Does x (λ v e. Lands p x (R b.value b.drawn v) rest e) l c (h v)) (sym q.is)
      (two v q.contents q.holds rest (later_part p a.code (b.code ++ rest) there)))))

  pub weaker : {A : Type 0} (c : Choice A) (d : NumbersDrawn) (s : Contents) (k n : ℕ) (g h : Given) (Q : A → NumbersDrawn → ℕ →
      Contents → Type 0) → k ≤ n → g ≡ h →
      Behaves p x c d s k g Q → Behaves p x c d s n h Q
  weaker c d s k n g h Q le e b rest part = does_within x _ k n _ h le (does_is x _ k _ g h e (b rest part))

  -- another fact of where it comes to
  pub does_so : {P R : ℕ → Run Ran → Type 0} (k : ℕ) (c : Run Ran) (g : Given) → Does x P k c g → ((v : ℕ) (e : Run
      Ran) → P v e → R v e) → Does x R k c g
  does_so k c g (gives i v b e h q) f = gives i v b e h (f v e q)
  does_so k c g (ends i b e h) f = ends i b e h
  does_so k c g (unsaid i b) f = unsaid i b

  pub so : {A : Type 0} (c : Choice A) (d : NumbersDrawn) (s : Contents) (k : ℕ) (g : Given) (Q R : A → NumbersDrawn → ℕ → Contents
      → Type 0) →
      ((v : ℕ) (s1 : Contents) → Q (c d).value (c d).drawn v s1 → R (c d).value (c d).drawn v s1) → Behaves p x c d s
      k g Q → Behaves p x c d s k g R
  so c d s k g Q R f b rest part =
      does_so k _ g (b rest part) (λ v e q. record { contents = q.contents; is = q.is; holds = f v q.contents q.holds })

  -- and the word is the one that is given
  does_known : {P : ℕ → Run Ran → Type 0} (k : ℕ) (c : Run Ran) (g : Given) → Does x P k c g → Does x (λ v e. (g ≡
      word v) × P v e) k c g
  does_known k c g (gives i v b e h q) = gives i v b e h (refl, q)
  does_known k c g (ends i b e h) = ends i b e h
  does_known k c g (unsaid i b) = unsaid i b

  pub known : {A : Type 0} (c : Choice A) (d : NumbersDrawn) (s : Contents) (k : ℕ) (g : Given) (Q : A → NumbersDrawn → ℕ →
      Contents → Type 0) →
      Behaves p x c d s k g Q → Behaves p x c d s k g (λ y e v s1. (g ≡ word v) × Q y e v s1)
  known c d s k g Q b rest part =
      does_so k _ g (does_known k _ g (b rest part)) (λ v e q. record {
        contents = q.1.contents;
        is = q.1.is;
        holds =
            (q.0, q.1.holds);
      })

  -- nothing is written
  pub nothing_done : (rest : List Instr) (s : Contents) (v : ℕ) (Q : ℕ → Contents → Type 0) → Q v s → Does x (λ v e.
      Lands p x (Q v) rest e) 0 (goes p x rest s) (word v)
  nothing_done rest s v Q q = gives 0 v (goes p x rest s) (goes p x rest s) (comes_itself _) (record {
    contents = s;
    is = refl;
    holds = q;
  })

  -- an instruction that gives an operand a word, or stops
  put_there : (to : Opnd) (c : Content) (rest : List Instr) (s : Contents) (n : ℕ) → IsSettable to →
      put_in to c (here p) (λ w1 s1. goes p w1 rest s1) x s n ≡ goes p x rest (set (Operand to) c s) n
  put_there (Temp i) c rest s n h = refl
  put_there (Reg r) c rest s n h = ap (λ (b : Bool). (if b then wrong x else goes p x rest (set (Operand (Reg r)) c
      s)) n) h.1

  given_does : (g : Given) (f : ℕ → Contents) (rest : List Instr) (c : Run Ran) → IsSaid g →
      ((n : ℕ) → c n ≡ works 1 (with_given g x (λ r. goes p x rest (f r)) n)) →
      Does x (λ v e. Lands p x (λ s1. s1 ≡ f v) rest e) 1 c g
  given_does (word v) f rest c h e = gives 1 v c (goes p x rest (f v)) (λ n. (n, omega arith, 1, omega arith, e n))
      (record { contents = f v; is = refl; holds = refl })
  given_does (stops_by (Ended z)) f rest c h e = ends 1 c z (λ n. (n, omega arith, 1, omega arith, e n))
  given_does (stops_by Wrong) f rest c h e = unsaid 1 c
  given_does (stops_by WantsFuel) f rest c h e = absurd h

  given_put : (g : Given) (to : Opnd) (rest : List Instr) (s : Contents) (n : ℕ) → IsSettable to →
      with_given g x (λ r. put_in to (Word r) (here p) (λ w1 s1. goes p w1 rest s1) x s) n ≡ with_given g x (λ r.
      goes p x rest (set (Operand to) (Word r) s)) n
  given_put (word v) to rest s n h = put_there to (Word v) rest s n h
  given_put (stops_by z) to rest s n h = refl

  -- the instruction, by its shape
  pub sets : (one : Instr) (to : Opnd) (h : InstructionShape) (g : Given) (rest : List Instr) (s : Contents) → shape one ≡ h →
      IsSettable to → IsSaid g →
      ((n : ℕ) → acts p h x rest s n ≡ with_given g x (λ r. put_in to (Word r) (here p) (λ w1 s1. goes p w1 rest s1)
      x s) n) →
      Does x (λ v e. Lands p x (λ s1. s1 ≡ set (Operand to) (Word v) s) rest e) 1 (goes p x (one ∷ rest) s) g
  sets one to h g rest s is settable said e =
      given_does g (λ r. set (Operand to) (Word r) s) rest _ said
      (λ n. ap (λ j. works 1 (acts p j x rest s n)) is ∙ ap (works 1) (e n ∙ given_put g to rest s n settable))

  pub from1 : (one : Instr) (to : Opnd) (from : Holder) (f : ℕ → Given) (u : ℕ) (rest : List Instr) (s : Contents) →
      shape one ≡ From1 to from f →
      IsSettable to → IsSaid (f u) → held p.activation s from ≡ Word u →
      Does x (λ v e. Lands p x (λ s1. s1 ≡ set (Operand to) (Word v) s) rest e) 1 (goes p x (one ∷ rest) s) (f u)
  from1 one to from f u rest s is settable said holds =
      sets one to (From1 to from f) (f u) rest s is settable said
      (λ n. ap (λ c. with_content_word c x (λ v. with_given (f v) x (λ r. put_in to (Word r) (here p) (λ w1 s1. goes
      p w1 rest s1) x s)) n) holds)

  pub from2 : (one : Instr) (to a b : Opnd) (f : ℕ → ℕ → Given) (u v : ℕ) (rest : List Instr) (s : Contents) → shape
      one ≡ From2 to a b f →
      IsSettable to → IsSaid (f u v) → held p.activation s (Operand a) ≡ Word u → held p.activation s (Operand b) ≡
      Word v →
      Does x (λ v e. Lands p x (λ s1. s1 ≡ set (Operand to) (Word v) s) rest e) 1 (goes p x (one ∷ rest) s) (f u v)
  from2 one to a b f u v rest s is settable said ha hb =
      sets one to (From2 to a b f) (f u v) rest s is settable said
      (λ n. ap (λ c. with_content_word c x (λ i. with_content_word (held p.activation s (Operand b)) x (λ j.
      with_given (f i j) x
      (λ r. put_in to (Word r) (here p) (λ w1 s1. goes p w1 rest s1) x s))) n) ha ∙
      ap (λ c. with_content_word c x (λ j. with_given (f u j) x (λ r. put_in to (Word r) (here p) (λ w1 s1. goes p w1
      rest s1) x s)) n) hb)

  -- the halves of a product or of a quotient and its rest
  pub halves2 : (one : Instr) (a b : Opnd) (f g : ℕ → ℕ → Given) (u v l h : ℕ) (rest : List Instr) (s : Contents) →
      shape one ≡ Halves a b f g →
      held p.activation s (Operand a) ≡ Word u → held p.activation s (Operand b) ≡ Word v → f u v ≡ word l → g u v ≡
      word h →
      Does x (λ v e. Lands p x (λ s1. s1 ≡ set Lo (Word l) (set Hi (Word h) s)) rest e) 1 (goes p x (one ∷ rest) s)
      (word 0)
  halves2 one a b f g u v l h rest s is ha hb el eh =
      given_does (word 0) (λ r. set Lo (Word l) (set Hi (Word h) s)) rest _ tt
      (λ n. ap (λ j. works 1 (acts p j x rest s n)) is ∙ ap (works 1)
      (ap (λ c. with_content_word c x (λ i. with_content_word (held p.activation s (Operand b)) x (λ j. with_given (f
      i j) x (λ lo. with_given (g i j) x
      (λ hi. goes p x rest (set Lo (Word lo) (set Hi (Word hi) s)))))) n) ha ∙
      (ap (λ c. with_content_word c x (λ j. with_given (f u j) x (λ lo. with_given (g u j) x
      (λ hi. goes p x rest (set Lo (Word lo) (set Hi (Word hi) s))))) n) hb ∙
      (ap (λ c. with_given c x (λ lo. with_given (g u v) x (λ hi. goes p x rest (set Lo (Word lo) (set Hi (Word hi)
      s)))) n) el ∙
      ap (λ c. with_given c x (λ hi. goes p x rest (set Lo (Word l) (set Hi (Word hi) s))) n) eh))))

  -- a word is copied, and a word of memory loaded
  pub copied : (one : Instr) (to from : Opnd) (u : ℕ) (rest : List Instr) (s : Contents) → shape one ≡ Copy to from →
      IsSettable to →
      held p.activation s (Operand from) ≡ Word u →
      Does x (λ v e. Lands p x (λ s1. s1 ≡ set (Operand to) (Word v) s) rest e) 1 (goes p x (one ∷ rest) s) (word u)
  copied one to from u rest s is settable holds =
      sets one to (Copy to from) (word u) rest s is settable tt
      (λ n. ap (λ c. with_content c x (λ d. put_in to d (here p) (λ w1 s1. goes p w1 rest s1) x s) n) holds)

  pub said_or : (o : Option ℕ) → IsSaid (or_wrong o)
  said_or (Some v) = tt
  said_or None = tt

  pub with_or : (o : Option ℕ) (go : ℕ → Run Ran) (n : ℕ) → with_word o x go n ≡ with_given (or_wrong o) x go n
  with_or (Some v) go n = refl
  with_or None go n = refl
