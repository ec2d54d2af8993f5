-- How many instructions a choice writes at most, how many words may come of them, and how many temporaries and marks it draws: those of
-- choices that follow one another, and of tiles and comparisons.
use Rattle.std.proofs.Common.{◌≡◌, ◌≤◌, ◌+◌, ◌*◌, ℕ, Bool, true, false, Option, Some, None, length, sum_by, length-append, refl, arith}
use Rattle.std.proofs.Math.Dec.{lit≤}
use Rattle.std.proofs.lemmas.List.Sums.{sum_by-append}
use Rattle.std.specs.Prelude.{◌%◌, ◌==◌, nat_lt, if◌then◌else◌}
use Rattle.tg_tree.specs.declared.operators.Bin.{Bin}
use Rattle.tg_tree.specs.declared.operators.Bin.TheVariants as bin
use Rattle.tg_tree.specs.declared.operators.Rel.{Rel}
use Rattle.tg_tree.specs.declared.operators.Rel.TheVariants.{Equal, NotEqual, Less, LessEqual, Greater, GreaterEqual, Below, NotBelow}
use Rattle.tg_tree.specs.Tree as tree
use Rattle.tg_tree.specs.Tree.{Tx}
use Rattle.tg_tree.specs.Units.{operator_units}
use Rattle.tg_instr.specs.declared.operands.Opnd.{Opnd}
use Rattle.tg_instr.specs.declared.instr.Instr.{Instr}
use Rattle.tg_instr.specs.declared.instr.Instr.TheVariants.{Move}
use Rattle.tg_munch.specs.declared.tiles.Base.{Base}
use Rattle.tg_munch.specs.declared.tiles.Immediate.{Immediate}
use Rattle.tg_munch.specs.declared.tiles.Immediate.TheVariants as in_field
use Rattle.tg_munch.specs.declared.tiles.Tile.TheVariants.{ByWord, Operands}
use Rattle.tg_munch.specs.declared.orders.Order.{Order}
use Rattle.tg_munch.specs.declared.orders.Short.{Short}
use Rattle.tg_munch.specs.declared.orders.Short.TheVariants.{Zero, Field}
use Rattle.tg_munch.specs.mirror.Choosing.{NumbersDrawn, Choice, ◌>>=◌, give, put, fresh, fresh_mark, choose, defining}
use Rattle.tg_munch.specs.mirror.Tiles.{is_small, constant, based, loaded, loaded_byte, is_shift, first_tile, constant_side, exchanged_side, tile, shift_by}
use Rattle.tg_munch.specs.mirror.Tiles.{shift_bit, shift_bits, shifted, moved, operated, shifted_into, instruction, with_field, tiled}
use Rattle.tg_munch.specs.mirror.Comparing.{order, flag, field_flag, on_flag, on_less, on_less_field, branch_on, against_zero, branch_short, against}

-- the most words that may come of an instruction, as `CountsWords` has it
abbrev pub most_counted : Instr → ℕ
most_counted (Move to from) = 13
most_counted _ = 10

-- at most n instructions, k temporaries, k marks, and w words
pub record Draws {A : Type 0} (n k w : ℕ) (choice : Choice A) : Type 0 where
  pub code : (d : NumbersDrawn) → length (choice d).code ≤ n
  pub temps : (d : NumbersDrawn) → (choice d).drawn.temp ≤ d.temp + k
  pub marks : (d : NumbersDrawn) → (choice d).drawn.mark ≤ d.mark + k
  pub words : (d : NumbersDrawn) → sum_by most_counted (choice d).code ≤ w

-- so many units of flat code: an instruction, and what it draws, and twelve words each
abbrev pub Within : {A : Type 0} (units : ℕ) → Choice A → Type 0
Within units choice = Draws units units (12 * units) choice

pub both : {A B : Type 0} {n k w m l v : ℕ} {first : Choice A} {onward : A → Choice B} → Draws n k w first → ((a : A) → Draws m l v (onward a)) →
    Draws (n + m) (k + l) (w + v) (first >>= onward)
unfolding ◌>>=◌
both {first = first} {onward = onward} h f = record {
  code = λ d.
      let one = first d in
      let i = h.code d in
      let j = (f one.value).code one.drawn in
      let e = length-append one.code (onward one.value one.drawn).code in
      omega (arith, i, j, e);
  temps = λ d. let one = first d in let i = h.temps d in let j = (f one.value).temps one.drawn in omega (arith, i, j);
  marks = λ d. let one = first d in let i = h.marks d in let j = (f one.value).marks one.drawn in omega (arith, i, j);
  words = λ d.
      let one = first d in
      let i = h.words d in
      let j = (f one.value).words one.drawn in
      let e = sum_by-append most_counted one.code (onward one.value one.drawn).code in
      omega (arith, i, j, e);
}

pub more : {A : Type 0} {n k w m l v : ℕ} {choice : Choice A} → n ≤ m → k ≤ l → w ≤ v → Draws n k w choice → Draws m l v choice
more i j o h = record {
  code = λ d. let c = h.code d in omega (arith, c, i);
  temps = λ d. let c = h.temps d in omega (arith, c, j);
  marks = λ d. let c = h.marks d in omega (arith, c, j);
  words = λ d. let c = h.words d in omega (arith, c, o);
}

pub either : {A : Type 0} {n k w : ℕ} (b : Bool) {q r : Choice A} → Draws n k w q → Draws n k w r → Draws n k w (if b then q else r)
either true h i = h
either false h i = i

pub gives : {A : Type 0} (a : A) → Draws 0 0 0 (give a)
gives a = record { code = λ d. omega arith; temps = λ d. omega arith; marks = λ d. omega arith; words = λ d. lit≤ tt }

-- an instruction: at most ten words, but for a move
module _ {w : ℕ} (one : Instr) (h : most_counted one ≤ w) where
  writes : Draws 1 0 w (put one)
  writes = record { code = λ d. omega arith; temps = λ d. omega arith; marks = λ d. omega arith; words = λ d. omega (arith, h) }

  writes_to : (to : Opnd) → Draws 1 0 w (defining one to)
  writes_to to = record { code = λ d. omega arith; temps = λ d. omega arith; marks = λ d. omega arith; words = λ d. omega (arith, h) }

pub puts : (one : Instr) → most_counted one ≤ 10 → Draws 1 0 10 (put one)
puts one h = writes one h

pub defines : (one : Instr) (to : Opnd) → most_counted one ≤ 10 → Draws 1 0 10 (defining one to)
defines one to h = writes_to one h to

pub puts_move : (to from : Opnd) → Draws 1 0 13 (put (Move to from))
puts_move to from = writes (Move to from) (lit≤ tt)

pub defines_move : (to from : Opnd) → Draws 1 0 13 (defining (Move to from) to)
defines_move to from = writes_to (Move to from) (lit≤ tt) to

pub draws_temp : Draws 0 1 0 fresh
draws_temp = record { code = λ d. omega arith; temps = λ d. omega arith; marks = λ d. omega arith; words = λ d. lit≤ tt }

draws_mark : Draws 0 1 0 fresh_mark
draws_mark = record { code = λ d. omega arith; temps = λ d. omega arith; marks = λ d. omega arith; words = λ d. lit≤ tt }

pub chooses : (dest : Option Opnd) → Draws 0 1 0 (choose dest)
chooses (Some to) = more (omega arith) (omega arith) (omega arith) (gives to)
chooses None = draws_temp

-- Tiles.

pub constant_draws : (to : Opnd) (n : ℕ) → Draws 2 0 20 (constant to n)
constant_draws to n =
    either (is_small n) (more (omega arith) (omega arith) (omega arith) (defines _ to (lit≤ tt)))
    (either (nat_lt n 65536) (more (omega arith) (omega arith) (omega arith) (defines _ to (lit≤ tt)))
    (either (n % 65536 == 0) (more (omega arith) (omega arith) (omega arith) (defines _ to (lit≤ tt)))
    (both (puts _ (lit≤ tt)) λ u. defines _ to (lit≤ tt))))

-- one more where an operand is asked for, which may be a move
abbrev pub asked : Option Opnd → ℕ
asked (Some to) = 1
asked None = 0

pub moved_draws : (dest : Option Opnd) (from : Opnd) → Draws (asked dest) 0 (13 * asked dest) (moved dest from)
moved_draws (Some to) from = defines_move to from
moved_draws None from = gives from

shift_words : (op : Bin) (to : Opnd) (n : ℕ) → most_counted (shift_by op to n) ≤ 10
shift_words bin.ShiftLeft to n = lit≤ tt
shift_words bin.ShiftRight to n = lit≤ tt
shift_words op to n = lit≤ tt

bit_draws : (op : Bin) (to amount : Opnd) (n : ℕ) → Draws 4 2 40 (shift_bit op to amount n)
bit_draws op to amount n =
    more (omega arith) (omega arith) (omega arith)
    (both draws_temp λ bit. both draws_mark λ m. both (puts _ (lit≤ tt)) λ u. both (puts _ (lit≤ tt)) λ u.
    both (puts _ (shift_words op to n)) λ u. puts _ (lit≤ tt))

bits_draw : (op : Bin) (to amount : Opnd) → Draws 20 10 200 (shift_bits op to amount)
bits_draw op to amount =
    more (omega arith) (omega arith) (omega arith)
    (both (bit_draws op to amount 1) λ u. both (bit_draws op to amount 2) λ u. both (bit_draws op to amount 4) λ u. both (bit_draws op to amount 8) λ u.
    bit_draws op to amount 16)

shifted_draws : (op : Bin) (x y : Opnd) → Draws 21 11 213 (shifted op x y)
shifted_draws op x y =
    more (omega arith) (omega arith) (omega arith) (both draws_temp λ to. both (puts_move to x) λ u. both (bits_draw op to y) λ u. gives to)

into_draws : (op : Bin) (dest : Option Opnd) (x y : Opnd) → Draws (21 + asked dest) 11 (213 + 13 * asked dest) (shifted_into op dest x y)
into_draws op dest x y = more (omega arith) (omega arith) (omega arith) (both (shifted_draws op x y) λ z. moved_draws dest z)

operated_draws : (op : Bin) (y : Tx) (to a b : Opnd) → Draws (operator_units op y) 0 (12 * operator_units op y) (operated op to a b)
operated_draws bin.Mul y to a b = more (omega arith) (omega arith) (omega arith) (both (puts _ (lit≤ tt)) λ u. defines _ to (lit≤ tt))
operated_draws bin.Div y to a b = more (omega arith) (omega arith) (omega arith) (both (puts _ (lit≤ tt)) λ u. defines _ to (lit≤ tt))
operated_draws bin.MulHigh y to a b = more (omega arith) (omega arith) (omega arith) (both (puts _ (lit≤ tt)) λ u. defines _ to (lit≤ tt))
operated_draws bin.ShiftLeft y to a b = more (omega arith) (omega arith) (omega arith) (gives to)
operated_draws bin.ShiftRight y to a b = more (omega arith) (omega arith) (omega arith) (gives to)
operated_draws bin.ShiftSigned y to a b = more (omega arith) (omega arith) (omega arith) (gives to)
operated_draws op y to a b = more (omega arith) (omega arith) (omega arith) (defines _ to (lit≤ tt))

-- a shift by what is no constant counts 21
shift_counts : (op : Bin) (y : Tx) → constant_side op y ≡ None → is_shift op ≡ true → operator_units op y ≡ 21
shift_counts bin.ShiftLeft (tree.Const n) e h = cc
shift_counts bin.ShiftLeft y e h = refl
shift_counts bin.ShiftRight (tree.Const n) e h = cc
shift_counts bin.ShiftRight y e h = refl
shift_counts bin.ShiftSigned (tree.Const n) e h = cc
shift_counts bin.ShiftSigned y e h = refl
shift_counts op y e h = cc

counts_one : (op : Bin) (y : Tx) → 1 ≤ operator_units op y
counts_one bin.ShiftLeft (tree.Const n) = omega arith
counts_one bin.ShiftLeft y = omega arith
counts_one bin.ShiftRight (tree.Const n) = omega arith
counts_one bin.ShiftRight y = omega arith
counts_one bin.ShiftSigned (tree.Const n) = omega arith
counts_one bin.ShiftSigned y = omega arith
counts_one op y = omega arith

-- what the fields of instructions hold
field_words : (one : Immediate) (to x : Opnd) → most_counted (instruction one to x) ≤ 10
field_words (in_field.Add n) to x = lit≤ tt
field_words (in_field.AddTrap n) to x = lit≤ tt
field_words (in_field.And n) to x = lit≤ tt
field_words (in_field.Or n) to x = lit≤ tt
field_words (in_field.Xor n) to x = lit≤ tt
field_words (in_field.ShiftLeft n) to x = lit≤ tt
field_words (in_field.ShiftRight n) to x = lit≤ tt
field_words (in_field.ShiftSigned n) to x = lit≤ tt

-- an operator whose sides draw so much
module _ (op : Bin) (y : Tx) (dest : Option Opnd) {n k w m l v : ℕ} {left right : Choice Opnd} (h : Draws n k w left) (i : Draws m l v right) where
  abbrev units : ℕ
  units = operator_units op y

  abbrev IsTiled : Choice Opnd → Type 0
  IsTiled choice = Draws (units + (n + m) + asked dest) (units + (k + l)) (12 * units + (w + v) + 13 * asked dest) choice

  field_draws : (one : Immediate) {p q u : ℕ} {side : Choice Opnd} → Draws p q u side → Draws (p + 1) (q + 1) (u + 10) (with_field one dest side)
  field_draws one j = more (omega arith) (omega arith) (omega arith) (both (chooses dest) λ to. both j λ x. defines _ to (field_words one to x))

  sides_draw : (b : Bool) → is_shift op ≡ b → (is_shift op ≡ true → units ≡ 21) →
      IsTiled (tiled op (if b then ByWord else Operands) dest left right)
  sides_draw true e counts =
      let c = counts e in
      more (omega (arith, c)) (omega (arith, c)) (omega (arith, c)) (both h λ x. both i λ z. into_draws op dest x z)
  sides_draw false e counts =
      let c = counts_one op y in
      more (omega arith) (omega (arith, c)) (omega arith) (both (chooses dest) λ to. both h λ x. both i λ z. operated_draws op y to x z)

  first_draws : (r s : Option Immediate) → (r ≡ None → is_shift op ≡ true → units ≡ 21) → IsTiled (tiled op (first_tile op r s) dest left right)
  first_draws (Some one) s counts = let c = counts_one op y in more (omega (arith, c)) (omega (arith, c)) (omega (arith, c)) (field_draws one h)
  first_draws None (Some one) counts = let c = counts_one op y in more (omega (arith, c)) (omega (arith, c)) (omega (arith, c)) (field_draws one i)
  first_draws None None counts = sides_draw (is_shift op) refl (counts refl)

  pub tiled_draws : (x : Tx) → IsTiled (tiled op (tile op x y) dest left right)
  tiled_draws x = first_draws (constant_side op y) (exchanged_side op x) (λ e h. shift_counts op y e h)

pub based_draws : {n k w : ℕ} (o : Option ℕ) {left whole : Choice Opnd} → Draws n k w left → Draws n k w whole → Draws n k w (based o left whole)
based_draws (Some b) h i = more (omega arith) (omega arith) (omega arith) (both h λ x. gives _)
based_draws None h i = more (omega arith) (omega arith) (omega arith) (both i λ x. gives _)

-- a load into an operand that is asked for, or one of its own, is no move
module _ {n k w : ℕ} (dest : Option Opnd) {place : Choice Base} (h : Draws n k w place) where
  pub loaded_draws : (o : Option ℕ) → Draws (n + 1) (k + 1) (w + 10) (choose dest >>= (λ to. loaded o place to))
  loaded_draws (Some s) = more (omega arith) (omega arith) (omega arith) (both (chooses dest) λ to. defines _ to (lit≤ tt))
  loaded_draws None = more (omega arith) (omega arith) (omega arith) (both (chooses dest) λ to. both h λ b. defines _ to (lit≤ tt))

  pub byte_draws : Draws (n + 1) (k + 1) (w + 10) (choose dest >>= (λ to. loaded_byte place to))
  byte_draws = more (omega arith) (omega arith) (omega arith) (both (chooses dest) λ to. both h λ b. defines _ to (lit≤ tt))

-- Comparisons.

flag_words : (signed : Bool) (to x y : Opnd) → most_counted (flag signed to x y) ≤ 10
flag_words true to x y = lit≤ tt
flag_words false to x y = lit≤ tt

field_flag_words : (signed : Bool) (to x : Opnd) (n : ℕ) → most_counted (field_flag signed to x n) ≤ 10
field_flag_words true to x n = lit≤ tt
field_flag_words false to x n = lit≤ tt

on_flag_words : (holds : Bool) (x : Opnd) (m : ℕ) → most_counted (on_flag holds x m) ≤ 10
on_flag_words true x m = lit≤ tt
on_flag_words false x m = lit≤ tt

less_draws : (o : Order) (x y : Opnd) (m : ℕ) → Draws 2 1 20 (on_less o x y m)
less_draws o x y m =
    more (omega arith) (omega arith) (omega arith)
    (both draws_temp λ t. both (puts _ (flag_words o.signed t x y)) λ u. puts _ (on_flag_words o.holds t m))

less_field_draws : (o : Order) (n : ℕ) (x : Opnd) (m : ℕ) → Draws 2 1 20 (on_less_field o n x m)
less_field_draws o n x m =
    more (omega arith) (omega arith) (omega arith)
    (both draws_temp λ t. both (puts _ (field_flag_words o.signed t x n)) λ u. puts _ (on_flag_words o.holds t m))

branch_draws : (rel : Rel) (x y : Opnd) (m : ℕ) → Draws 2 1 20 (branch_on rel x y m)
branch_draws Equal x y m = more (omega arith) (omega arith) (omega arith) (puts _ (lit≤ tt))
branch_draws NotEqual x y m = more (omega arith) (omega arith) (omega arith) (puts _ (lit≤ tt))
branch_draws Less x y m = less_draws (order true true) x y m
branch_draws GreaterEqual x y m = less_draws (order true false) x y m
branch_draws Greater x y m = less_draws (order true true) y x m
branch_draws LessEqual x y m = less_draws (order true false) y x m
branch_draws Below x y m = less_draws (order false true) x y m
branch_draws NotBelow x y m = less_draws (order false false) x y m

zero_draws : (rel : Rel) (x : Opnd) (m : ℕ) → Draws 2 1 20 (against_zero rel x m)
zero_draws Below x m = more (omega arith) (omega arith) (omega arith) (gives tt)
zero_draws rel x m = more (omega arith) (omega arith) (omega arith) (puts _ (lit≤ tt))

short_draws : (rel : Rel) (one : Short) (x : Opnd) (m : ℕ) → Draws 2 1 20 (branch_short rel one x m)
short_draws rel Zero x m = zero_draws rel x m
short_draws rel (Field o n) x m = less_field_draws o n x m

pub against_draws : {n k w : ℕ} (rel : Rel) (o : Option Short) (x : Opnd) {right : Choice Opnd} (m : ℕ) → Draws n k w right →
    Draws (n + 2) (k + 1) (w + 20) (against rel o x right m)
against_draws rel (Some one) x m h = more (omega arith) (omega arith) (omega arith) (short_draws rel one x m)
against_draws rel None x m h = both h λ y. branch_draws rel x y m
