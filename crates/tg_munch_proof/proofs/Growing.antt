-- What is chosen draws temporaries one after another: the next one is never below what it was.
use Rattle.std.proofs.Common.{◌≡◌, ◌≤◌, ℕ, ◌+◌, ◌*◌, ◌-◌, ◌%◌, List, [], ◌∷◌, Bool, true, false, refl, subst, arith}
use Rattle.std.specs.Prelude.{◌==◌, ◌&&◌, not, nat_lt, Option, Some, None, if◌then◌else◌}
use Rattle.tg_frame.specs.declared.accesses.Access.{Access}
use Rattle.tg_frame.specs.declared.accesses.Access.TheVariants.{InTemp, InFrame}
use Rattle.tg_tree.specs.Tree as tree
use Rattle.tg_tree.specs.Tree.{Tx, Txs, no_txs, tx, Ts, Linear}
use Rattle.tg_tree.specs.declared.operators.Bin.{Bin}
use Rattle.tg_tree.specs.declared.operators.Bin.TheVariants as bin
use Rattle.tg_tree.specs.declared.operators.Rel.{Rel}
use Rattle.tg_tree.specs.declared.operators.Rel.TheVariants as rel
use Rattle.tg_instr.specs.declared.operands.Opnd.{Opnd}
use Rattle.tg_instr.specs.declared.operands.Opnd.TheVariants.{Reg}
use Rattle.tg_instr.specs.declared.instr.Instr.{Instr}
use Rattle.tg_munch.specs.mirror.Choosing.{Choice, NumbersDrawn, ◌>>=◌, give, put, fresh, fresh_mark, choose, defining}
use Rattle.tg_munch.specs.mirror.Arguments.{is_in_register, is_in_frame, is_anywhere, one_may_end, ordered}
use Rattle.tg_munch.specs.mirror.Tiles.{nothing, is_small, slot, constant, offset, based, loaded, loaded_byte, moved}
use Rattle.tg_munch.specs.mirror.Tiles.{constant_side, exchanged_side, first_tile, tile, tiled, operated, with_field}
use Rattle.tg_munch.specs.mirror.Tiles.{shift_bit, shifted_into}
use Rattle.tg_munch.specs.mirror.Comparing.{against, against_zero, branch_on, branch_short, short_side, short_field, on_less}
use Rattle.tg_munch.specs.mirror.Comparing.{on_less_field, order, is_turned, turned}
use Rattle.tg_munch.specs.mirror.Products.{is_in_hi}
use Rattle.tg_munch.specs.mirror.Munching.{kept_registers, constant_in, answer_in}
use Rattle.tg_munch.specs.mirror.Munching.{store_low, passed, asked, given_back, expression, arguments, left_side}
use Rattle.tg_munch.specs.mirror.Munching.{based_at, valued, effect, stored, statement, compared_with, compared}
use Rattle.tg_munch.specs.mirror.Munching.{branch_behind, element}
use Rattle.tg_munch.specs.mirror.Bodies.{kept, from_register, load_above, from_word, from_words, parameters}
use Rattle.tg_munch_proof.proofs.Fields.{taken}

pub record Grows {A : Type 0} (choice : Choice A) : Type 0 where
  pub temps : (d : NumbersDrawn) → d.temp ≤ (choice d).drawn.temp

pub behind_it : {A B : Type 0} {first : Choice A} {onward : A → Choice B} → Grows first → ((a : A) → Grows (onward a)) →
    Grows (first >>= onward)
unfolding ◌>>=◌
behind_it {first = first} {onward = onward} h k = record {
  temps = λ d.
      let one = h.temps d in
      let two = (k (first d).value).temps (first d).drawn in
      omega (arith, one, two);
}

pub gives : {A : Type 0} (a : A) → Grows (give a)
gives a = record { temps = λ d. omega arith }

pub puts : (one : Instr) → Grows (put one)
puts one = record { temps = λ d. omega arith }

defines : (one : Instr) (to : Opnd) → Grows (defining one to)
defines one to = record { temps = λ d. omega arith }

pub draws : Grows fresh
draws = record { temps = λ d. omega arith }

draws_mark : Grows fresh_mark
draws_mark = record { temps = λ d. omega arith }

chooses : (dest : Option Opnd) → Grows (choose dest)
chooses (Some to) = gives to
chooses None = draws

pub either : {A : Type 0} (b : Bool) {p q : Choice A} → Grows p → Grows q → Grows (if b then p else q)
either true h k = h
either false h k = k

-- tiles
pub constant_grows : (to : Opnd) (n : ℕ) → Grows (constant to n)
constant_grows to n =
    either (is_small n) (defines _ to)
    (either (nat_lt n 65536) (defines _ to)
    (either (n % 65536 == 0) (defines _ to) (behind_it (puts _) (λ a. defines _ to))))

moved_grows : (dest : Option Opnd) (from : Opnd) → Grows (moved dest from)
moved_grows (Some to) from = defines _ to
moved_grows None from = gives from

operated_grows : (op : Bin) (to x y : Opnd) → Grows (operated op to x y)
operated_grows bin.Add to x y = defines _ to
operated_grows bin.Sub to x y = defines _ to
operated_grows bin.Mul to x y = behind_it (puts _) (λ a. defines _ to)
operated_grows bin.Div to x y = behind_it (puts _) (λ a. defines _ to)
operated_grows bin.And to x y = defines _ to
operated_grows bin.Or to x y = defines _ to
operated_grows bin.Xor to x y = defines _ to
operated_grows bin.AddTrap to x y = defines _ to
operated_grows bin.SubTrap to x y = defines _ to
operated_grows bin.MulHigh to x y = behind_it (puts _) (λ a. defines _ to)
operated_grows bin.ShiftLeft to x y = gives to
operated_grows bin.ShiftRight to x y = gives to
operated_grows bin.ShiftSigned to x y = gives to

bit_grows : (op : Bin) (to y : Opnd) (n : ℕ) → Grows (shift_bit op to y n)
bit_grows op to y n =
    behind_it draws (λ bit. behind_it draws_mark (λ m.
    behind_it (puts _) (λ a. behind_it (puts _) (λ b. behind_it (puts _) (λ c. puts _)))))

shifted_grows : (op : Bin) (dest : Option Opnd) (x y : Opnd) → Grows (shifted_into op dest x y)
shifted_grows op dest x y =
    behind_it
    (behind_it draws (λ to. behind_it (puts _) (λ a.
    behind_it (behind_it (bit_grows op to y 1) (λ b. behind_it (bit_grows op to y 2) (λ c.
    behind_it (bit_grows op to y 4) (λ e. behind_it (bit_grows op to y 8) (λ f. bit_grows op to y 16)))))
    (λ g. gives to))))
    (λ z. moved_grows dest z)

module _ (dest : Option Opnd) {left right : Choice Opnd} (h : Grows left) (k : Grows right) where
  on_operands : (op : Bin) →
      Grows (choose dest >>= (λ to. left >>= (λ x. right >>= (λ y. operated op to x y))))
  on_operands op = behind_it (chooses dest) (λ to. behind_it h (λ x. behind_it k (λ y. operated_grows op to x y)))

  by_word : (op : Bin) → Grows (left >>= (λ x. right >>= (λ y. shifted_into op dest x y)))
  by_word op = behind_it h (λ x. behind_it k (λ y. shifted_grows op dest x y))

  no_field : (op : Bin) → Grows (tiled op (first_tile op None None) dest left right)
  no_field bin.Add = on_operands bin.Add
  no_field bin.Sub = on_operands bin.Sub
  no_field bin.Mul = on_operands bin.Mul
  no_field bin.Div = on_operands bin.Div
  no_field bin.And = on_operands bin.And
  no_field bin.Or = on_operands bin.Or
  no_field bin.Xor = on_operands bin.Xor
  no_field bin.AddTrap = on_operands bin.AddTrap
  no_field bin.SubTrap = on_operands bin.SubTrap
  no_field bin.MulHigh = on_operands bin.MulHigh
  no_field bin.ShiftLeft = by_word bin.ShiftLeft
  no_field bin.ShiftRight = by_word bin.ShiftRight
  no_field bin.ShiftSigned = by_word bin.ShiftSigned

  in_field : (one : _) (side : Choice Opnd) → Grows side → Grows (with_field one dest side)
  in_field one side g = behind_it (chooses dest) (λ to. behind_it g (λ x. defines _ to))

  tiled_grows : (op : Bin) (x y : Tx) → Grows (tiled op (tile op x y) dest left right)
  tiled_grows op x y = by (constant_side op y) (exchanged_side op x)
    where
      by : (one : _) (two : _) → Grows (tiled op (first_tile op one two) dest left right)
      by (Some one) two = in_field one left h
      by None (Some two) = in_field two right k
      by None None = no_field op

  based_grows : (o : Option ℕ) → Grows (based o left right)
  based_grows (Some n) = behind_it h (λ b. gives _)
  based_grows None = behind_it k (λ b. gives _)

  load_grows : (place bytes : Option ℕ) → Grows (choose dest >>= (λ to. loaded place (based bytes left right) to))
  load_grows (Some k) bytes = behind_it (chooses dest) (λ to. defines _ to)
  load_grows None bytes = behind_it (chooses dest) (λ to. behind_it (based_grows bytes) (λ b. defines _ to))

  byte_grows : (bytes : Option ℕ) → Grows (choose dest >>= (λ to. loaded_byte (based bytes left right) to))
  byte_grows bytes = behind_it (chooses dest) (λ to. behind_it (based_grows bytes) (λ b. defines _ to))

whole_load : (dest : Option Opnd) {side : Choice Opnd} → Grows side →
    Grows (choose dest >>= (λ to. loaded None (based None side side) to))
whole_load dest h = load_grows dest h h None None

whole_byte : (dest : Option Opnd) {side : Choice Opnd} → Grows side →
    Grows (choose dest >>= (λ to. loaded_byte (based None side side) to))
whole_byte dest h = byte_grows dest h h None

pub store_grows : (n : ℕ) (x : Opnd) → Grows (store_low n x)
store_grows n x =
    either (nat_lt n 32768) (puts _)
    (behind_it draws (λ t. behind_it (constant_grows t n) (λ a. behind_it (puts _) (λ b. puts _))))

constant_in_grows : (n : ℕ) (dest : Option Opnd) → Grows (constant_in n dest)
constant_in_grows n (Some to) = constant_grows to n
constant_in_grows n None = either (n == 0) (gives nothing) (behind_it draws (λ to. constant_grows to n))

answer_grows : (dest : Option Opnd) → Grows (answer_in dest)
answer_grows dest = behind_it (chooses dest) (λ to. defines _ to)

asked_grows : (n : ℕ) {side : Choice Opnd} → Grows side → Grows (asked n side)
asked_grows n h = behind_it h (λ x. behind_it (constant_grows (Reg 2) n) (λ y. puts _))

passed_grows : (i : ℕ) (value : Option Opnd → Choice Opnd) → ((dest : Option Opnd) → Grows (value dest)) →
    Grows (passed i value)
passed_grows i value h =
    either (nat_lt i 4) (behind_it (h _) (λ x. gives tt)) (behind_it (h None) (λ v. store_grows (4 * (i - 4)) v))

in_order : (ends : Bool) {picked : (ℕ → Bool) → Choice (Unit {0})} → ((picks : ℕ → Bool) → Grows (picked picks)) →
    Grows (ordered ends picked)
in_order ends h = either ends (h is_anywhere) (behind_it (h is_in_frame) (λ a. h is_in_register))

-- expressions
module _ (slots : ℕ) where
  mutual
    pub expression_grows : (x : Tx) (dest : Option Opnd) → Grows (expression slots x dest)
    expression_grows (tree.Const n) dest = constant_in_grows n dest
    expression_grows (tree.Address label) dest = behind_it (chooses dest) (λ to. defines _ to)
    expression_grows (tree.Temp i) dest = moved_grows dest _
    expression_grows tree.FrameAddress dest = behind_it (chooses dest) (λ to. defines _ to)
    expression_grows (tree.Binary op x y) dest =
        tiled_grows dest (expression_grows x None) (expression_grows y None) op x y
    expression_grows (tree.Load (tree.Binary op x y)) dest =
        load_grows dest (expression_grows x None) (expression_grows (tree.Binary op x y) None) _ _
    expression_grows (tree.Load x) dest = whole_load dest (expression_grows x None)
    expression_grows (tree.LoadByte (tree.Binary op x y)) dest =
        byte_grows dest (expression_grows x None) (expression_grows (tree.Binary op x y) None) _
    expression_grows (tree.LoadByte x) dest = whole_byte dest (expression_grows x None)
    expression_grows (tree.Call label xs) dest =
        behind_it (behind_it (in_order (one_may_end 0 xs) (λ picks. arguments_grow picks 0 xs)) (λ a. puts _))
        (λ b. answer_grows dest)
    expression_grows (tree.Service n x) dest =
        behind_it (asked_grows n (expression_grows x (Some (Reg 4)))) (λ b. answer_grows dest)
    expression_grows (tree.After s x) dest = expression_grows x dest

    pub arguments_grow : (picks : ℕ → Bool) (i : ℕ) (xs : Txs) → Grows (arguments slots picks i xs)
    arguments_grow picks i no_txs = gives tt
    arguments_grow picks i (tx x xs) =
        behind_it (either (picks i) (passed_grows i (expression slots x) (λ dest. expression_grows x dest)) (gives tt))
        (λ a. arguments_grow picks (i + 1) xs)

  left_grows : (x : Tx) → Grows (left_side slots x)
  left_grows (tree.Binary op x y) = expression_grows x None
  left_grows x = expression_grows x None

  place_grows : (x : Tx) → Grows (based_at slots x)
  place_grows x = based_grows None (left_grows x) (expression_grows x None) (offset x)

  value_grows : (x : Tx) → Grows (valued slots x)
  value_grows x = behind_it (expression_grows x None) (λ a. gives tt)

  effect_grows : (x : Tx) → Grows (effect slots x)
  effect_grows (tree.Call label xs) =
      behind_it (in_order (one_may_end 0 xs) (λ picks. arguments_grow picks 0 xs)) (λ a. puts _)
  effect_grows (tree.Service n x) = asked_grows n (expression_grows x (Some (Reg 4)))
  effect_grows x = value_grows x

  stored_grows : (place : Option ℕ) (x y : Tx) → Grows (stored slots place x y)
  stored_grows (Some k) x y = behind_it (expression_grows y None) (λ v. puts _)
  stored_grows None x y = behind_it (place_grows x) (λ b. behind_it (expression_grows y None) (λ v. puts _))

  statement_grows : (s : Ts) → Grows (statement slots s)
  statement_grows (tree.Move i x) = behind_it (expression_grows x (Some _)) (λ a. gives tt)
  statement_grows (tree.Store x y) = stored_grows (slot slots x) x y
  statement_grows (tree.StoreByte x y) =
      behind_it (place_grows x) (λ b. behind_it (expression_grows y None) (λ v. puts _))
  statement_grows (tree.Do x) = effect_grows x
  statement_grows _ = gives tt

  -- comparisons
  less_grows : (signed holds : Bool) (x y : Opnd) (m : ℕ) → Grows (on_less (order signed holds) x y m)
  less_grows signed holds x y m = behind_it draws (λ t. behind_it (puts _) (λ a. puts _))

  field_grows : (signed holds : Bool) (n : ℕ) (x : Opnd) (m : ℕ) → Grows (on_less_field (order signed holds) n x m)
  field_grows signed holds n x m = behind_it draws (λ t. behind_it (puts _) (λ a. puts _))

  branch_on_grows : (r : Rel) (x y : Opnd) (m : ℕ) → Grows (branch_on r x y m)
  branch_on_grows rel.Equal x y m = puts _
  branch_on_grows rel.NotEqual x y m = puts _
  branch_on_grows rel.Less x y m = less_grows true true x y m
  branch_on_grows rel.GreaterEqual x y m = less_grows true false x y m
  branch_on_grows rel.Greater x y m = less_grows true true y x m
  branch_on_grows rel.LessEqual x y m = less_grows true false y x m
  branch_on_grows rel.Below x y m = less_grows false true x y m
  branch_on_grows rel.NotBelow x y m = less_grows false false x y m

  zero_grows : (r : Rel) (x : Opnd) (m : ℕ) → Grows (against_zero r x m)
  zero_grows rel.Below x m = gives tt
  zero_grows _ x m = puts _

  none_is_some : {I : Type 0} (a : I) → None ≡ Some a → ⊥
  none_is_some a e = cc

  some_is : {I : Type 0} (a b : I) → Some a ≡ Some b → a ≡ b
  some_is a b e = cc

  short_grows : (r : Rel) (n : ℕ) (one : _) (x : Opnd) (m : ℕ) → short_field r n ≡ Some one → Grows (branch_short r one x m)
  short_grows rel.Less n one x m e =
      subst (λ o. Grows (branch_short rel.Less o x m)) (taken (is_small n) _ one e).1 (field_grows true true _ x m)
  short_grows rel.GreaterEqual n one x m e =
      subst (λ o. Grows (branch_short rel.GreaterEqual o x m)) (taken (is_small n) _ one e).1 (field_grows true false _ x m)
  short_grows rel.Below n one x m e =
      subst (λ o. Grows (branch_short rel.Below o x m)) (taken (is_small n) _ one e).1 (field_grows false true _ x m)
  short_grows rel.NotBelow n one x m e =
      subst (λ o. Grows (branch_short rel.NotBelow o x m)) (taken (is_small n) _ one e).1 (field_grows false false _ x m)
  short_grows rel.LessEqual n one x m e =
      subst (λ o. Grows (branch_short rel.LessEqual o x m)) (taken (is_small n && not (n == 32767)) _ one e).1
      (field_grows true true _ x m)
  short_grows rel.Greater n one x m e =
      subst (λ o. Grows (branch_short rel.Greater o x m)) (taken (is_small n && not (n == 32767)) _ one e).1
      (field_grows true false _ x m)
  short_grows rel.Equal n one x m e = absurd (none_is_some one e)
  short_grows rel.NotEqual n one x m e = absurd (none_is_some one e)

  against_grows : (r : Rel) (y : Tx) (x : Opnd) (m : ℕ) → Grows (compared_with slots r x y m)
  against_grows r (tree.Const n) x m = by (n == 0) (short_field r n) refl
    where
      right : Grows (expression slots (tree.Const n) None)
      right = expression_grows (tree.Const n) None

      by_field : (o : _) → short_field r n ≡ o → Grows (against r o x (expression slots (tree.Const n) None) m)
      by_field (Some one) e = short_grows r n one x m e
      by_field None e = behind_it right (λ y. branch_on_grows r x y m)

      by : (b : Bool) (o : _) → short_field r n ≡ o →
          Grows (against r (if b then short_side r (tree.Const 0) else o) x (expression slots (tree.Const n) None) m)
      by true o e = zero_grows r x m
      by false o e = by_field o e
  against_grows r y x m = behind_it (expression_grows y None) (λ z. branch_on_grows r x z m)

  compared_grows : (r : Rel) (x y : Tx) (m : ℕ) → Grows (compared slots r x y m)
  compared_grows r x y m = behind_it (expression_grows x None) (λ a. against_grows r y a m)

  branch_grows : (before : Option Linear) (r : Rel) (x y : Tx) (m : ℕ) → Grows (branch_behind slots before r x y m)
  branch_grows before r x y m =
      either (is_in_hi before x) (behind_it draws (λ a. behind_it (puts _) (λ b. against_grows r y a m)))
      (either (is_turned r x y) (compared_grows (turned r) y x m) (compared_grows r x y m))

  given_back_grows : (keeps : ℕ) (rs : List ℕ) → Grows (given_back keeps rs)
  given_back_grows keeps [] = gives tt
  given_back_grows keeps (r ∷ rs) = behind_it (puts _) (λ a. given_back_grows (keeps + 1) rs)

  pub element_grows : (keeps : ℕ) (before : Option Linear) (e : Linear) → Grows (element slots keeps before e)
  element_grows keeps before (tree.Mark m) = puts _
  element_grows keeps before (tree.Do' s) = statement_grows s
  element_grows keeps before (tree.Jump m) = puts _
  element_grows keeps before (tree.Branch r x y m) = branch_grows before r x y m
  element_grows keeps before (tree.Fault' n) = puts _
  element_grows keeps before (tree.Return' x) =
      behind_it (expression_grows x (Some (Reg 2)))
      (λ a. behind_it (given_back_grows keeps kept_registers) (λ b. puts _))

-- a function's entry
pub kept_grows : (rs : List ℕ) → Grows (kept rs)
kept_grows [] = gives tt
kept_grows (r ∷ rs) = behind_it (behind_it draws (λ t. puts _)) (λ a. kept_grows rs)

pub above_grows : (above : Opnd) (n : ℕ) (to : Opnd) → Grows (load_above above n to)
above_grows above n to =
    either (nat_lt n 32768) (puts _) (behind_it (constant_grows to n) (λ a. behind_it (puts _) (λ b. puts _)))

pub word_grows : (above : Opnd) (i : ℕ) (home : Access) → Grows (from_word above i home)
word_grows above i (InTemp t) = above_grows above (4 * (i - 4)) _
word_grows above i (InFrame k) = behind_it draws (λ v. behind_it (above_grows above (4 * (i - 4)) v) (λ a. puts _))

words_grow : (above : Opnd) (i : ℕ) (homes : List Access) → Grows (from_words above i homes)
words_grow above i [] = gives tt
words_grow above i (home ∷ homes) = behind_it (word_grows above i home) (λ a. words_grow above (i + 1) homes)

register_grows : (i : ℕ) (home : Access) → Grows (from_register i home)
register_grows i (InTemp t) = puts _
register_grows i (InFrame k) = puts _

pub parameters_grow : (i : ℕ) (homes : List Access) → Grows (parameters i homes)
parameters_grow i [] = gives tt
parameters_grow i (home ∷ homes) =
    either (nat_lt i 4) (behind_it (register_grows i home) (λ a. parameters_grow (i + 1) homes))
    (behind_it draws (λ above. behind_it (puts _) (λ a. words_grow above i (home ∷ homes))))
