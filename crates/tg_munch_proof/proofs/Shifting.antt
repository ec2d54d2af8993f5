-- A shift by a word: a shift after a branch, for each of the five lower bits.
use Rattle.tg_munch_proof.specs.glue.Places.{Walks}
use Rattle.std.proofs.Common.{◌≡◌, ◌≤◌, ◌<◌, ℕ, zero, suc, ◌+◌, ◌-◌, ◌*◌, ◌/◌, ◌%◌, ◌^◌, List, [], ◌∷◌, Bool, refl}
use Rattle.std.proofs.Common.{sym, ap, ◌∙◌, arith}
use Rattle.std.proofs.lemmas.Bool.Decides.{nat_tests}
use Rattle.std.proofs.lemmas.Nat.{pow-add}
use Rattle.std.proofs.lemmas.Nat.Bits.{and_high}
use Rattle.std.specs.Prelude.{◌==◌, false, true, Option, Some, bit_and, if◌then◌else◌}
use Rattle.tg_base.specs.Words.{shift_left, shift_right, shift_signed}
use Rattle.tg_simulation.specs.Runs.{Run}
use Rattle.tg_simulation.specs.Ran.{Ran, works}
use Rattle.tg_simulation.specs.laws.Simulating.{Comes}
use Rattle.tg_tree.proofs.FlatValues.{works_add}
use Rattle.tg_tree.specs.declared.operators.Bin.{Bin}
use Rattle.tg_tree.specs.declared.operators.Bin.TheVariants as bin
use Rattle.tg_tree.specs.Operators.{word}
use Rattle.tg_tree.specs.Actions.{World}
use Rattle.tg_instr.specs.declared.operands.Opnd.{Opnd}
use Rattle.tg_instr.specs.declared.operands.Opnd.TheVariants.{Temp, Reg}
use Rattle.tg_instr.specs.declared.instr.Instr.{Instr}
use Rattle.tg_instr.specs.declared.instr.Instr.TheVariants as instr
use Rattle.tg_instr.specs.Operands.{is_same}
use Rattle.tg_instr.specs.Shapes.{Operand}
use Rattle.tg_instr.specs.Contents.{Content, Word, Contents, set, held}
use Rattle.tg_instr.specs.Meaning.{with_content_word, jump, skip}
use Rattle.tg_instr.specs.Running.{behind, code_going, jump_to}
use Rattle.tg_munch.specs.mirror.Choosing.{NumbersDrawn, ◌>>=◌}
use Rattle.tg_munch.specs.mirror.Tiles.{nothing, if_equal, shift_by, shift_bit}
use Rattle.tg_munch.specs.mirror.Munching.{temp}
use Rattle.tg_munch_proof.specs.Words.{IsWord}
use Rattle.tg_munch_proof.specs.glue.Places.{each_one, gives, Place, Behaves, goes}
use Rattle.tg_munch_proof.specs.laws.Values.{Stay, IsOld}
use Rattle.tg_munch_proof.proofs.Arithmetic.{right_twice, left_twice, signed_twice, left_none, signed_none}
use Rattle.tg_munch_proof.proofs.Behaving.{here, later_part}
use Rattle.tg_munch_proof.proofs.Results.{itself, below_differs}

-- a shift, and what a bit of the amount adds to it
abbrev pub shifted_as : Bin → ℕ → ℕ → ℕ
shifted_as bin.ShiftLeft u k = shift_left u k
shifted_as bin.ShiftRight u k = shift_right u k
shifted_as _ u k = shift_signed u k

abbrev pub part : ℕ → ℕ → ℕ
part b n = if bit_and b n == 0 then 0 else n

one_bit : (b i : ℕ) → part b (2 ^ i) ≡ b / 2 ^ i % 2 * 2 ^ i
one_bit b i = by (bit_and b (2 ^ i) == 0) refl
  where
    two : 2 ^ (1 + i) - 2 ^ i ≡ 2 ^ i
    two = let e : 2 ^ (1 + i) ≡ 2 * 2 ^ i = pow-add 2 1 i in omega (arith, e)

    is : bit_and b (2 ^ i) ≡ b / 2 ^ i % 2 * 2 ^ i
    is = ap (bit_and b) (sym two) ∙ and_high b 1 i

    zero_is : (n : ℕ) → (n == 0) ≡ true → n ≡ 0
    zero_is n e = grind (arith, nat_tests)

    other_is : (k n : ℕ) → k < 2 → (k * n == 0) ≡ false → n ≡ k * n
    other_is zero n lt e = let z : 0 ≡ 0 * n = omega arith in absurd (no (ap (λ m. m == 0) z ∙ e))
      where
        no : true ≡ false → ⊥
        no e = cc
    other_is (suc zero) n lt e = omega arith
    other_is (suc (suc k)) n lt e = absurd (omega (arith, lt))

    by : (z : Bool) → (bit_and b (2 ^ i) == 0) ≡ z → (if z then 0 else 2 ^ i) ≡ b / 2 ^ i % 2 * 2 ^ i
    by true e = sym (zero_is (bit_and b (2 ^ i)) e) ∙ is
    by false e = other_is (b / 2 ^ i % 2) (2 ^ i) (omega arith) (ap (λ n. n == 0) (sym is) ∙ e)

pub five_bits : (b : ℕ) → 0 + part b 1 + part b 2 + part b 4 + part b 8 + part b 16 ≡ b % 32
five_bits b =
    let a0 : part b 1 ≡ b % 2 = one_bit b 0 ∙ omega arith in
    let a1 : part b 2 ≡ b / 2 % 2 * 2 = one_bit b 1 in
    let a2 : part b 4 ≡ b / 4 % 2 * 4 = one_bit b 2 in
    let a3 : part b 8 ≡ b / 8 % 2 * 8 = one_bit b 3 in
    let a4 : part b 16 ≡ b / 16 % 2 * 16 = one_bit b 4 in
    sums (part b 1) (part b 2) (part b 4) (part b 8) (part b 16) a0 a1 a2 a3 a4
  where
    sums : (p0 p1 p2 p3 p4 : ℕ) → p0 ≡ b % 2 → p1 ≡ b / 2 % 2 * 2 → p2 ≡ b / 4 % 2 * 4 → p3 ≡ b / 8 % 2 * 8 → p4 ≡ b
        / 16 % 2 * 16 → 0 + p0 + p1 + p2 + p3 + p4 ≡ b % 32
    sums p0 p1 p2 p3 p4 a0 a1 a2 a3 a4 = omega (arith, a0, a1, a2, a3, a4)

pub twice_shifted : (op : Bin) (u j k : ℕ) → IsWord u → shifted_as op (shifted_as op u j) k ≡ shifted_as op u (j + k)
twice_shifted bin.ShiftLeft u j k h = left_twice u j k
twice_shifted bin.ShiftRight u j k h = right_twice u j k
twice_shifted _ u j k h = signed_twice u j k h

pub not_shifted : (op : Bin) (u : ℕ) → IsWord u → shifted_as op u 0 ≡ u
not_shifted bin.ShiftLeft u h = left_none u h
not_shifted bin.ShiftRight u h = omega arith
not_shifted _ u h = signed_none u h

module _ (p : Place) (x : World) (walks : Walks p) where
  masks : (i n v : ℕ) (y : Opnd) (rest : List Instr) (s : Contents) (a : ℕ) → held p.activation s (Operand y) ≡ Word v →
      goes p x (instr.Andi (temp i) y n ∷ rest) s a ≡ works 1 (goes p x rest (set (Operand (temp i)) (Word (bit_and v
      n)) s) a)
  masks i n v y rest s a e = ap (λ c. works 1 (with_content_word c x (λ u. goes p x rest (set (Operand (temp i))
      (Word (bit_and u n)) s)) a)) e

  shifts : (op : Bin) (i n v : ℕ) (rest : List Instr) (s : Contents) (a : ℕ) → s (Operand (temp i)) ≡ Word v →
      goes p x (shift_by op (temp i) n ∷ rest) s a ≡ works 1 (goes p x rest (set (Operand (temp i)) (Word (shifted_as
      op v n)) s) a)
  shifts bin.ShiftLeft i n v rest s a e = ap (λ c. works 1 (with_content_word c x (λ u. goes p x rest (set (Operand
      (temp i)) (Word (shift_left u n)) s)) a)) e
  shifts bin.ShiftRight i n v rest s a e = ap (λ c. works 1 (with_content_word c x (λ u. goes p x rest (set (Operand
      (temp i)) (Word (shift_right u n)) s)) a)) e
  shifts _ i n v rest s a e = ap (λ c. works 1 (with_content_word c x (λ u. goes p x rest (set (Operand (temp i))
      (Word (shift_signed u n)) s)) a)) e

  abbrev tests : Bool → ℕ → List Instr → Contents → Run Ran
  tests b m rest s = (if b then jump m else skip) (here p) (λ w1 s1. goes p w1 rest s1) x s

  tested : (m v : ℕ) (y : Opnd) (rest : List Instr) (s : Contents) (b : Bool) (a : ℕ) → held p.activation s (Operand
      y) ≡ Word v → (v == 0) ≡ b →
      goes p x (if_equal y nothing m ∷ rest) s a ≡ works 1 (tests b m rest s a)
  tested m v y rest s b a e z =
      ap (λ c. works 1 (with_content_word c x (λ u. tests (u == 0) m rest s) a)) e ∙ ap (λ (d : Bool). works 1 (tests
      d m rest s a)) z

  jumped : (m : ℕ) (rest more : List Instr) (s : Contents) (i : ℕ) → behind m p.function.body ≡ Some more → tests
      true m rest s (suc i) ≡ goes p x more s i
  jumped m rest more s i there =
      ap (λ (o : Option (List Instr)).
      jump_to each_one p.code p.size p.floor p.room (code_going each_one p.code p.size p.floor p.room) p.function o
      p.activation p.back x s (suc i)) there ∙
      walks.steps (record {
        function = p.function;
        rest = more;
        activation = p.activation;
        back = p.back;
        world = x;
        contents = s;
      }) i

  -- One bit: whichever way the branch goes, at most four instructions and a turn come to what stands after the mark.
  abbrev one_shift : Bin → (i j n m : ℕ) → Opnd → List Instr → List Instr
  one_shift op i j n m y rest = instr.Andi (temp i) y n ∷ if_equal (temp i) nothing m ∷ shift_by op (temp j) n ∷
      instr.Mark m ∷ rest

  abbrev pub by_bit : Bin → Bool → ℕ → ℕ → ℕ
  by_bit op b v n = if b then v else shifted_as op v n

  abbrev behind_bit : Bin → (i j n v b : ℕ) → Contents → Bool → Contents
  behind_bit op i j n v b s true = set (Operand (temp i)) (Word (bit_and b n)) s
  behind_bit op i j n v b s false = set (Operand (temp j)) (Word (shifted_as op v n)) (set (Operand (temp i)) (Word
      (bit_and b n)) s)

  this_is : (i : ℕ) (c : Content) (s : Contents) → set (Operand (temp i)) c s (Operand (temp i)) ≡ c
  this_is i c s = ap (λ (b : Bool). if b then c else s (Operand (temp i))) (itself i)

  other_is : (i j : ℕ) (c d : Content) (s : Contents) → (j == i) ≡ false → s (Operand (temp j)) ≡ d → set (Operand
      (temp i)) c s (Operand (temp j)) ≡ d
  other_is i j c d s ne e = ap (λ (b : Bool). if b then c else s (Operand (temp j))) ne ∙ e

  bit_comes : (op : Bin) (i j n m v b : ℕ) (y : Opnd) (rest : List Instr) (s : Contents) (z : Bool) →
      held p.activation s (Operand y) ≡ Word b → s (Operand (temp j)) ≡ Word v → j < i → (bit_and b n == 0) ≡ z →
      behind m p.function.body ≡ Some rest →
      Comes 4 (goes p x (one_shift op i j n m y rest) s) (goes p x rest (behind_bit op i j n v b s z))
  bit_comes op i j n m v b y rest s true hb hv lt bit there a =
      let s1 = set (Operand (temp i)) (Word (bit_and b n)) s in
      let tail = shift_by op (temp j) n ∷ instr.Mark m ∷ rest in (
        suc a,
        omega arith,
        2,
        omega arith,
        masks i n b y (if_equal (temp i) nothing m ∷ tail) s (suc a) hb ∙
            (ap (works 1) (tested m (bit_and b n) (temp i) tail s1 true (suc a) (this_is i (Word (bit_and b n)) s)
            bit ∙ ap (works 1) (jumped m tail rest s1 a there)) ∙
            works_add 1 1 (goes p x rest s1 a)),
      )
  bit_comes op i j n m v b y rest s false hb hv lt bit there a =
      let s1 = set (Operand (temp i)) (Word (bit_and b n)) s in
      let s2 = set (Operand (temp j)) (Word (shifted_as op v n)) s1 in
      let tail = shift_by op (temp j) n ∷ instr.Mark m ∷ rest in (
        a,
        omega arith,
        4,
        omega arith,
        masks i n b y (if_equal (temp i) nothing m ∷ tail) s a hb ∙
            (ap (works 1) (tested m (bit_and b n) (temp i) tail s1 false a (this_is i (Word (bit_and b n)) s) bit ∙
            ap (works 1) (shifts op j n v (instr.Mark m ∷ rest) s1 a (other_is i j (Word (bit_and b n)) (Word v) s
            (below_differs j i lt) hv))) ∙
            four (goes p x rest s2 a)),
      )
    where
      four : (q : Ran) → works 1 (works 1 (works 1 (works 1 q))) ≡ works 4 q
      four q = ap (works 1) (ap (works 1) (works_add 1 1 q) ∙ works_add 1 2 q) ∙ works_add 1 3 q

  -- what is known after a bit: the word so far, and what stays
  pub record Partly (j : ℕ) (d : NumbersDrawn) (s : Contents) (r : ℕ) (d1 : NumbersDrawn) (s1 : Contents) : Type 0 where
    pub holds : s1 (Operand (temp j)) ≡ Word r
    pub stay : Stay d.temp (Some (temp j)) s s1
    pub drawn : d.temp ≤ d1.temp

  bit_stay : (op : Bin) (i j n v b : ℕ) (s : Contents) (z : Bool) (y : Opnd) → IsOld i y → is_same y (temp j) ≡ false →
      behind_bit op i j n v b s z (Operand y) ≡ s (Operand y)
  bit_stay op i j n v b s true (Temp k) old other = ap (λ (a : Bool). if a then Word (bit_and b n) else s (Operand
      (Temp k))) (below_differs k.0 i old)
  bit_stay op i j n v b s true (Reg r) old other = refl
  bit_stay op i j n v b s false (Temp k) old other =
      ap (λ (a : Bool). if a then Word (shifted_as op v n) else set (Operand (temp i)) (Word (bit_and b n)) s
      (Operand (Temp k))) other ∙
      ap (λ (a : Bool). if a then Word (bit_and b n) else s (Operand (Temp k))) (below_differs k.0 i old)
  bit_stay op i j n v b s false (Reg r) old other = refl

  bit_holds : (op : Bin) (i j n v b : ℕ) (s : Contents) (z : Bool) → j < i → s (Operand (temp j)) ≡ Word v →
      behind_bit op i j n v b s z (Operand (temp j)) ≡ Word (by_bit op z v n)
  bit_holds op i j n v b s true lt e = other_is i j (Word (bit_and b n)) (Word v) s (below_differs j i lt) e
  bit_holds op i j n v b s false lt e = this_is j (Word (shifted_as op v n)) (set (Operand (temp i)) (Word (bit_and b
      n)) s)

  pub bit_does : (op : Bin) (j n v b : ℕ) (y : Opnd) (d : NumbersDrawn) (s : Contents) → j < d.temp → held p.activation s
      (Operand y) ≡ Word b → s (Operand (temp j)) ≡ Word v →
      Behaves p x (shift_bit op (temp j) y n) d s 4 (word 0) (λ a d1 w s1. Partly j d s (by_bit op (bit_and b n == 0)
      v n) d1 s1)
  unfolding ◌>>=◌
  bit_does op j n v b y d s lt hb hv rest part =
      let z = bit_and b n == 0 in
      let s1 = behind_bit op d.temp j n v b s z in
      let there = walks.marked d.mark rest
      (later_part p (instr.Andi (temp d.temp) y n ∷ if_equal (temp d.temp) nothing d.mark ∷ shift_by op (temp j) n ∷
      []) (instr.Mark d.mark ∷ rest) part) in
      gives 4 0 _ (goes p x rest s1) (bit_comes op d.temp j n d.mark v b y rest s z hb hv lt refl there)
      (record {
        contents = s1;
        is = refl;
        holds = record {
          holds = bit_holds op d.temp j n v b s z lt hv;
          stay = λ q old other. bit_stay op d.temp j n v b s z q old other;
          drawn = omega arith;
        };
      })
