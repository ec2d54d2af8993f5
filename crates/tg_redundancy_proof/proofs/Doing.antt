-- What an instruction does that stays: the same on both sides, and facts hold behind it.
use Rattle.std.proofs.Common.{ℕ, ◌≡◌, ◌-◌, ◌==◌, not, Bool, true, false, List, [], Option, refl, sym, ap, ◌∙◌, subst}
use Rattle.std.proofs.Common.{nat_lt, inl, eq-eqb}
use Rattle.std.proofs.lemmas.Bool.{false≢true, not_from_true}
use Rattle.std.specs.Prelude.{if◌then◌else◌, IsTrue}
use Rattle.tg_base.specs.Words.{add}
use Rattle.tg_simulation.specs.Runs.{Run}
use Rattle.tg_simulation.specs.Ran.{Ran, Wrong}
use Rattle.tg_tree.specs.declared.operators.Rel.{Rel}
use Rattle.tg_tree.specs.declared.operators.Rel.TheVariants.{Equal, NotEqual, Less, LessEqual, Greater, GreaterEqual, Below, NotBelow}
use Rattle.tg_tree.specs.Tree.{Literal}
use Rattle.tg_tree.specs.Actions.{World, Activation, wrong}
use Rattle.tg_tree.specs.Memory.{Cell, Closed, Memory, put, slot, literal_address}
use Rattle.tg_tree.specs.Operators.{holds, opposite}
use Rattle.tg_instr.specs.declared.operands.Opnd.{Opnd}
use Rattle.tg_instr.specs.declared.operands.Opnd.TheVariants.{Temp, Reg}
use Rattle.tg_instr.specs.Operands.{is_same}
use Rattle.tg_instr.specs.Shapes.{Operand, Hi, Lo, InstructionShape, From0, From1, From2, Halves, Copy, Loads, Stores}
use Rattle.tg_instr.specs.Shapes.{FromSlot, ToSlot, Base, AddressOf, Goes, Tests, Calls, Asks, Fails, Returns}
use Rattle.tg_instr.specs.Uses.{defs, given_back}
use Rattle.tg_instr.specs.Contents.{Content, Nothing, Word, Found, Contents, set, held, handed, at_entry, after_call, gives_back, cell_of, content_of}
use Rattle.tg_instr.specs.Meaning.{Next, Jumps, Back, Around, Enter, with_content_word, put_in, skip, jump, act}
use Rattle.tg_regalloc_proof.proofs.Simulating.{Simulates, same_run, by_word, by_content, by_given, by_option, by_memory, by_test}
use Rattle.tg_regalloc_proof.proofs.Serving.{Worlds, serves}
use Rattle.tg_redundancy.specs.mirror.Readings.{temp}
use Rattle.tg_redundancy.specs.declared.readings.Reading.TheVariants.{InSlot}
use Rattle.tg_redundancy.specs.declared.facts.Fact.TheVariants.{Has, Untrue}
use Rattle.tg_redundancy.specs.mirror.Facts.{Facts, stands, noted, forget, forget_each, forget_memory}
use Rattle.tg_redundancy.specs.mirror.Known.{moved, kept}
use Rattle.tg_redundancy_proof.proofs.Getting.{content_got, Over}
use Rattle.tg_redundancy_proof.proofs.Holding.{Holds, Hold, stands_held, noted_hold, forget_hold, forget_memory_hold, copied_hold, content_puts, same_hold}

-- the opposite comparison
opposite_holds : (rel : Rel) (u v : ℕ) → holds (opposite rel) u v ≡ not (holds rel u v)
opposite_holds Equal u v = refl
opposite_holds NotEqual u v = twice (u == v)
  where
    twice : (b : Bool) → b ≡ not (not b)
    twice true = refl
    twice false = refl
opposite_holds Less u v = refl
opposite_holds LessEqual u v = twice _
  where
    twice : (b : Bool) → b ≡ not (not b)
    twice true = refl
    twice false = refl
opposite_holds Greater u v = refl
opposite_holds GreaterEqual u v = twice _
  where
    twice : (b : Bool) → b ≡ not (not b)
    twice true = refl
    twice false = refl
opposite_holds Below u v = refl
opposite_holds NotBelow u v = twice (nat_lt u v)
  where
    twice : (b : Bool) → b ≡ not (not b)
    twice true = refl
    twice false = refl

-- an instruction that only defines
abbrev pub is_plain : InstructionShape → Bool
is_plain (From0 to n) = true
is_plain (From1 to from f) = true
is_plain (From2 to left right f) = true
is_plain (Halves left right low high) = true
is_plain (Loads to base n f) = true
is_plain (FromSlot to j) = true
is_plain (Base to) = true
is_plain (AddressOf to label) = true
is_plain _ = false

-- worlds that differ in no word are one
abbrev none_added : ℕ → Bool
none_added x = false

abbrev no_cells : ℕ → Cell
no_cells x = Closed

one_world : (w v : World) → Worlds none_added no_cells w v → v ≡ w
one_world w v r = λ i. record {
  memory = record { statics = r.memory.statics i; heap = r.memory.heap i; stack = λ x. r.memory.other x refl i };
  input = r.input i;
}

both_same : (w : World) → Worlds none_added no_cells w w
both_same w = record {
  input = refl;
  memory = record { statics = refl; heap = refl; other = λ x e. refl; closed = λ x e. absurd (false≢true e); kept = λ x e. absurd (false≢true e) };
}

cell_back : (c : Content) → content_got (content_of (cell_of c)) ≡ content_got c
cell_back Nothing = refl
cell_back (Word v) = refl
cell_back (Found r) = refl

module _ (room : ℕ) (literals : List Literal) (a : Activation) (k : ℕ) where
  -- two sides, in one activation
  pub record Sides : Type 0 where
    pub enter : Enter
    pub enter' : Enter
    pub jumps : Jumps
    pub jumps' : Jumps
    pub back : Back
    pub back' : Back
    pub enters :
        (label top : ℕ) (s : Contents) (b b' : Back) (w : World) →
        ((c : Content) (w1 : World) → Simulates (b c w1) (b' c w1)) →
        Simulates (enter label (at_entry s) top b w) (enter' label (at_entry s) top b' w)
    pub backs : (c : Content) (w : World) → Simulates (back c w) (back' c w)

  module _ (sides : Sides) where
    abbrev pub first_side : Around
    first_side = record { activation = a; slots = k; jumps = sides.jumps; back = sides.back }

    abbrev pub second_side : Around
    second_side = record { activation = a; slots = k; jumps = sides.jumps'; back = sides.back' }

    -- what comes behind, where facts hold
    abbrev pub Onward : Facts → Next → Next → Type 0
    Onward f next next' = (w : World) (s : Contents) → Hold a k w s f → Simulates (next w s) (next' w s)

    abbrev pub Leads : ℕ → Facts → Type 0
    Leads m f = (w : World) (s : Contents) → Hold a k w s f → Simulates (sides.jumps m w s) (sides.jumps' m w s)

    abbrev pub Does : InstructionShape → Facts → World → Contents → Next → Next → Type 0
    Does q f w s next next' =
        Hold a k w s f →
        Simulates (act room literals sides.enter q first_side next w s) (act room literals sides.enter' q second_side next' w s)

    pub goes_wrong : (w : World) (d : Run Ran) → Simulates (wrong w) d
    goes_wrong w d = λ n k. absurd (k refl)

    module _ (f : Facts) (w : World) (s : Contents) (next next' : Next) (h : Hold a k w s f) where
      puts : (to : Opnd) (c : Content) → Onward (forget to f) next next' →
          Simulates (put_in to c first_side next w s) (put_in to c second_side next' w s)
      puts to c onward =
          by_test (is_same to (Reg 29)) _ _ _ _ (goes_wrong w _) (onward w (set (Operand to) c s) (forget_hold a k to c w s f h))

      -- a shape of which nothing else is known
      pub defines : (q : InstructionShape) → IsTrue (is_plain q) → Onward (forget_each (defs q) f) next next' → Does q f w s next next'
      defines (From0 to n) plain onward g = puts to (Word n) onward
      defines (From1 to from f1) plain onward g =
          by_word (held a s from) (held a s from) w w _ _ (inl refl) (λ u e. by_given (f1 u) w w _ _ refl (λ r. puts to (Word r) onward))
      defines (From2 to left right f2) plain onward g =
          by_word (held a s (Operand left)) (held a s (Operand left)) w w _ _ (inl refl) (λ u e. by_word (held a s (Operand right)) (held a s (Operand right)) w w _ _ (inl refl) (λ v e1.
          by_given (f2 u v) w w _ _ refl (λ r. puts to (Word r) onward)))
      defines (Halves left right low high) plain onward g =
          by_word (held a s (Operand left)) (held a s (Operand left)) w w _ _ (inl refl) (λ u e. by_word (held a s (Operand right)) (held a s (Operand right)) w w _ _ (inl refl) (λ v e1.
          by_given (low u v) w w _ _ refl (λ l. by_given (high u v) w w _ _ refl (λ r.
          onward w (set Lo (Word l) (set Hi (Word r) s)) (same_hold a k w s (set Lo (Word l) (set Hi (Word r) s)) f (λ y. refl) h)))))
      defines (Loads to base n f1) plain onward g =
          by_word (held a s (Operand base)) (held a s (Operand base)) w w _ _ (inl refl) (λ u e. by_option (f1 w.memory (add u n)) _ w w _ _ (λ v i. i) (λ v. puts to (Word v) onward))
      defines (FromSlot to j) plain onward g =
          by_test (nat_lt j k) _ _ _ _ (by_content (content_of (w.memory.stack (slot a.base j))) _ w w _ _ (inl refl) (λ n. puts to _ onward)) (goes_wrong w _)
      defines (Base to) plain onward g = puts to (Word a.base) onward
      defines (AddressOf to label) plain onward g =
          by_option (literal_address literals label) _ w w _ _ (λ v i. i) (λ v. puts to (Word v) onward)
      defines _ plain onward g = absurd (false≢true plain)

      module _ (most : ℕ) where
        pub copies : (to from : Opnd) → Onward (moved most to from f) next next' → Does (Copy to from) f w s next next'
        copies (Temp t) (Temp u) onward g =
            by_content (s (Operand (Temp u))) _ w w _ _ (inl refl) (λ n.
            onward w (set (Operand (temp t.0)) (s (Operand (Temp u))) s)
            (copied_hold a k most t.0 (stands f (Temp u)) (s (Operand (Temp u))) w s f
            (ap content_got (stands_held a k w s f (Temp u) h) ∙ content_puts (s (Operand (Temp u))) n) h))
        copies (Temp t) (Reg r) onward g = by_content (held a s (Operand (Reg r))) _ w w _ _ (inl refl) (λ n. puts (Temp t) _ onward)
        copies (Reg r) (Temp u) onward g = by_content (held a s (Operand (Temp u))) _ w w _ _ (inl refl) (λ n. puts (Reg r) _ onward)
        copies (Reg r) (Reg q) onward g = by_content (held a s (Operand (Reg q))) _ w w _ _ (inl refl) (λ n. puts (Reg r) _ onward)

        pub stores : (from base : Opnd) (n : ℕ) (f1 : Memory → ℕ → ℕ → Option Memory) → Onward (forget_memory f) next next' →
            Does (Stores from base n f1) f w s next next'
        stores from base n f1 onward g =
            by_word (held a s (Operand base)) (held a s (Operand base)) w w _ _ (inl refl) (λ u e. by_word (held a s (Operand from)) (held a s (Operand from)) w w _ _ (inl refl) (λ v e1.
            by_memory (f1 w.memory (add u n) v) _ w w _ _ (λ m i. (m, i, onward (record w { memory = m }) s (forget_memory_hold a k w (record w { memory = m }) s f h)))))

        -- the world with a content in a slot
        abbrev stored : ℕ → Content → World
        stored j c = record w { memory = put (slot a.base j) (cell_of c) w.memory }

        kept_holds : (from : Opnd) (j : ℕ) → nat_lt j k ≡ true → (held a s (Operand from) ≡ Nothing → ⊥) →
            Hold a k (stored j (held a s (Operand from))) s (kept most from j f)
        kept_holds (Reg r) j l n = forget_memory_hold a k w _ s f h
        kept_holds (Temp t) j l n =
            noted_hold a k most _ s (Has t.0 (InSlot j)) (forget_memory f)
            (ap (λ b. if b then content_got (content_of (if slot a.base j == slot a.base j then cell_of (s (Operand (Temp t))) else
            w.memory.stack (slot a.base j))) else Over Wrong) l
            ∙ (ap (λ b. content_got (content_of (if b then cell_of (s (Operand (Temp t))) else w.memory.stack (slot a.base j))))
            (eq-eqb (slot a.base j) (slot a.base j) refl)
            ∙ (cell_back (s (Operand (Temp t))) ∙ content_puts (s (Operand (Temp t))) n)))
            (forget_memory_hold a k w _ s f h)

        pub keeps_slot : (from : Opnd) (j : ℕ) → Onward (kept most from j f) next next' → Does (ToSlot from j) f w s next next'
        keeps_slot from j onward g = by_content (held a s (Operand from)) _ w w _ _ (inl refl) (λ n. by (nat_lt j k) refl n)
          where
            by : (b : Bool) → nat_lt j k ≡ b → (held a s (Operand from) ≡ Nothing → ⊥) →
                Simulates (if b then next (stored j (held a s (Operand from))) s else wrong w)
                (if b then next' (stored j (held a s (Operand from))) s else wrong w)
            by true l n = onward (stored j (held a s (Operand from))) s (kept_holds from j l n)
            by false l n = goes_wrong w _

        -- a test of which nothing is known
        pub tests : (rel : Rel) (left right : Opnd) (m : ℕ) →
            Onward (noted most (Untrue rel (stands f left) (stands f right)) f) next next' →
            Leads m (noted most (Untrue (opposite rel) (stands f left) (stands f right)) f) →
            Does (Tests rel left right m) f w s next next'
        tests rel left right m onward leads g =
            by_word (held a s (Operand left)) (held a s (Operand left)) w w _ _ (inl refl) (λ u e. by_word (held a s (Operand right)) (held a s (Operand right)) w w _ _ (inl refl) (λ v e1. by u v e e1 (holds rel u v) refl))
          where
            by : (u v : ℕ) → held a s (Operand left) ≡ Word u → held a s (Operand right) ≡ Word v →
                (b : Bool) → holds rel u v ≡ b →
                Simulates ((if b then jump m else skip) first_side next w s) ((if b then jump m else skip) second_side next' w s)
            by u v e e1 true i =
                leads w s (noted_hold a k most w s (Untrue (opposite rel) (stands f left) (stands f right)) f (
                  u,
                  v,
                  stands_held a k w s f left h ∙ e,
                  stands_held a k w s f right h ∙ e1,
                  opposite_holds rel u v ∙ not_from_true (holds rel u v) i,
                ) h)
            by u v e e1 false i =
                onward w s (noted_hold a k most w s (Untrue rel (stands f left) (stands f right)) f
                (u, v, stands_held a k w s f left h ∙ e, stands_held a k w s f right h ∙ e1, i) h)

      -- one that is known to fall through, and one that is known to be taken
      pub falls : (rel : Rel) (left right : Opnd) (m : ℕ) → Holds a k w s (Untrue rel left right) →
          Simulates (next w s) (next' w s) →
          Simulates (act room literals sides.enter (Tests rel left right m) first_side next w s) (next' w s)
      falls rel left right m (u, v, e, e1, i) onward =
          subst (λ c. Simulates (with_content_word c w (λ x. with_content_word (held a s (Operand right)) w (λ y.
          (if holds rel x y then jump m else skip) first_side next w s))) (next' w s)) (sym e)
          (subst (λ c. Simulates (with_content_word c w (λ y. (if holds rel u y then jump m else skip) first_side next w s)) (next' w s)) (sym e1)
          (subst (λ b. Simulates ((if b then jump m else skip) first_side next w s) (next' w s)) (sym i) onward))

      pub jumps_on : (rel : Rel) (left right : Opnd) (m : ℕ) → Holds a k w s (Untrue (opposite rel) left right) →
          Simulates (sides.jumps m w s) (sides.jumps' m w s) →
          Simulates (act room literals sides.enter (Tests rel left right m) first_side next w s)
          (act room literals sides.enter' (Goes m) second_side next' w s)
      jumps_on rel left right m (u, v, e, e1, i) leads =
          subst (λ c. Simulates (with_content_word c w (λ x. with_content_word (held a s (Operand right)) w (λ y.
          (if holds rel x y then jump m else skip) first_side next w s))) (sides.jumps' m w s)) (sym e)
          (subst (λ c. Simulates (with_content_word c w (λ y. (if holds rel u y then jump m else skip) first_side next w s)) (sides.jumps' m w s)) (sym e1)
          (subst (λ b. Simulates ((if b then jump m else skip) first_side next w s) (sides.jumps' m w s)) (sym holds_it) leads))
        where
          turned : (b : Bool) → not b ≡ false → b ≡ true
          turned true j = refl
          turned false j = sym j

          holds_it : holds rel u v ≡ true
          holds_it = turned (holds rel u v) (sym (opposite_holds rel u v) ∙ i)

      pub calls : (label : ℕ) → Onward [] next next' → Does (Calls label) f w s next next'
      calls label onward g =
          sides.enters label (a.base - a.size) s _ _ w (λ c w1. onward w1 (after_call c s) tt)

      pub asks : Onward [] next next' → Does Asks f w s next next'
      asks onward g =
          by_word (held a s (Operand (Reg 2))) (held a s (Operand (Reg 2))) w w _ _ (inl refl) (λ u e. by_word (held a s (Operand (Reg 4))) (held a s (Operand (Reg 4))) w w _ _ (inl refl) (λ v e1.
          serves none_added no_cells _ _ (λ x w1 v1 r.
          subst (λ z. Simulates (next w1 (set (Operand (Reg 2)) (Word x) s)) (next' z (set (Operand (Reg 2)) (Word x) s)))
          (sym (one_world w1 v1 r)) (onward w1 (set (Operand (Reg 2)) (Word x) s) tt))
          room u v w w (both_same w)))

      pub fails : (n : ℕ) → Does (Fails n) f w s next next'
      fails n g = λ j i. same_run _ _ refl

      pub returns : Does Returns f w s next next'
      returns g = by_test (gives_back given_back s) _ _ _ _ (sides.backs (handed (s (Operand (Reg 2)))) w) (goes_wrong w _)
