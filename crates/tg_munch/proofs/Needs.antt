-- How many temporaries a choice draws at most, which go into the needs of a function: tiles, comparisons and single choices.
use Rattle.std.proofs.Common.{◌≡◌, ◌≤◌, ◌+◌, ◌*◌, ℕ, Bool, true, false, Option, Some, None, List, [], ◌∷◌, refl, arith}
use Rattle.std.specs.Prelude.{◌%◌, ◌==◌, ◌&&◌, not, nat_lt, is_some, if◌then◌else◌}
use Rattle.tg_tree.specs.declared.operators.Bin.{Bin}
use Rattle.tg_tree.specs.declared.operators.Bin.TheVariants as bin
use Rattle.tg_tree.specs.declared.operators.Rel.{Rel}
use Rattle.tg_tree.specs.declared.operators.Rel.TheVariants.{Equal, NotEqual, Less, LessEqual, Greater, GreaterEqual, Below, NotBelow}
use Rattle.tg_tree.specs.Tree as tree
use Rattle.tg_tree.specs.Tree.{Tx}
use Rattle.tg_tree.specs.Sizes.{in_canonical, shift_needs}
use Rattle.tg_instr.specs.declared.operands.Opnd.{Opnd}
use Rattle.tg_instr.specs.declared.instr.Instr.{Instr}
use Rattle.tg_munch.specs.mirror.Choosing.{NumbersDrawn, Choice, ◌>>=◌, give, put, fresh, fresh_mark, choose, defining}
use Rattle.tg_munch.specs.mirror.Tiles.{is_small, field, constant, based, loaded, loaded_byte, first_tile, constant_side, exchanged_side, tile}
use Rattle.tg_munch.specs.mirror.Tiles.{shift_bit, shift_bits, shifted, moved, operated, shifted_into, with_field, tiled}
use Rattle.tg_munch.specs.mirror.Comparing.{order, on_less, on_less_field, branch_on, against_zero, against, short_side}
use Rattle.tg_munch.specs.mirror.Munching.{argument, constant_in, answer_in, store_far, store_low, passed, asked as asked_for, given_back}
use Rattle.tg_munch.specs.laws.Lengths.{by_word}

-- at most n temporaries are drawn, of which so many words of the frame may be taken besides
pub record Takes {A : Type 0} (out n : ℕ) (choice : Choice A) : Type 0 where
  pub temps : (d : NumbersDrawn) → (choice d).drawn.temp + out ≤ d.temp + n

pub both : {A B : Type 0} {n m : ℕ} {first : Choice A} {onward : A → Choice B} →
    Takes 0 n first → ((a : A) → Takes 0 m (onward a)) → Takes 0 (n + m) (first >>= onward)
unfolding ◌>>=◌
both {first = first} h f = record {
  temps = λ d. let one = first d in let i = h.temps d in let j = (f one.value).temps one.drawn in omega (arith, i, j);
}

pub more : {A : Type 0} {o n p m : ℕ} {choice : Choice A} → n + p ≤ m + o → Takes o n choice → Takes p m choice
more i h = record { temps = λ d. let c = h.temps d in omega (arith, c, i) }

pub either : {A : Type 0} {o n : ℕ} (b : Bool) {q r : Choice A} → Takes o n q → Takes o n r → Takes o n (if b then q else r)
either true h i = h
either false h i = i

pub gives : {A : Type 0} (a : A) → Takes 0 0 (give a)
gives a = record { temps = λ d. omega arith }

pub puts : (one : Instr) → Takes 0 0 (put one)
puts one = record { temps = λ d. omega arith }

pub defines : (one : Instr) (to : Opnd) → Takes 0 0 (defining one to)
defines one to = record { temps = λ d. omega arith }

pub draws_temp : Takes 0 1 fresh
draws_temp = record { temps = λ d. omega arith }

draws_mark : Takes 0 0 fresh_mark
draws_mark = record { temps = λ d. omega arith }

-- one where no operand is asked for
abbrev pub own : Option Opnd → ℕ
own (Some to) = 0
own None = 1

pub own_most : (dest : Option Opnd) → own dest ≤ 1
own_most (Some to) = omega arith
own_most None = omega arith

pub chooses : (dest : Option Opnd) → Takes 0 (own dest) (choose dest)
chooses (Some to) = gives to
chooses None = draws_temp

-- Tiles.

pub constant_draws : (to : Opnd) (n : ℕ) → Takes 0 0 (constant to n)
constant_draws to n =
    either (is_small n) (defines _ to)
    (either (nat_lt n 65536) (defines _ to)
    (either (n % 65536 == 0) (defines _ to)
    (both (puts _) λ u. defines _ to)))

pub moved_draws : (dest : Option Opnd) (from : Opnd) → Takes 0 0 (moved dest from)
moved_draws (Some to) from = defines _ to
moved_draws None from = gives from

bit_draws : (op : Bin) (to amount : Opnd) (n : ℕ) → Takes 0 1 (shift_bit op to amount n)
bit_draws op to amount n =
    more (omega arith)
    (both draws_temp λ bit. both draws_mark λ m. both (puts _) λ u. both (puts _) λ u. both (puts _) λ u. puts _)

bits_draw : (op : Bin) (to amount : Opnd) → Takes 0 5 (shift_bits op to amount)
bits_draw op to amount =
    more (omega arith)
    (both (bit_draws op to amount 1) λ u. both (bit_draws op to amount 2) λ u. both (bit_draws op to amount 4) λ u.
    both (bit_draws op to amount 8) λ u. bit_draws op to amount 16)

shifted_draws : (op : Bin) (x y : Opnd) → Takes 0 6 (shifted op x y)
shifted_draws op x y = more (omega arith) (both draws_temp λ to. both (puts _) λ u. both (bits_draw op to y) λ u. gives to)

into_draws : (op : Bin) (dest : Option Opnd) (x y : Opnd) → Takes 0 6 (shifted_into op dest x y)
into_draws op dest x y = more (omega arith) (both (shifted_draws op x y) λ z. moved_draws dest z)

operated_draws : (op : Bin) (to a b : Opnd) → Takes 0 0 (operated op to a b)
operated_draws bin.Mul to a b = both (puts _) λ u. defines _ to
operated_draws bin.Div to a b = both (puts _) λ u. defines _ to
operated_draws bin.MulHigh to a b = both (puts _) λ u. defines _ to
operated_draws bin.ShiftLeft to a b = gives to
operated_draws bin.ShiftRight to a b = gives to
operated_draws bin.ShiftSigned to a b = gives to
operated_draws op to a b = defines _ to

-- what an operator draws besides its sides
abbrev pub besides : Bin → Tx → ℕ
besides op y = 1 + shift_needs in_canonical op + 3 * by_word op y

-- an operator whose sides draw so much
module _ (op : Bin) (y : Tx) (dest : Option Opnd) {n m : ℕ} {left right : Choice Opnd} (h : Takes 0 n left) (i : Takes 0 m right) where
  abbrev IsTiled : Choice Opnd → Type 0
  IsTiled choice = Takes 0 (besides op y + (n + m)) choice

  field_draws : (one : _) {p : ℕ} {side : Choice Opnd} → Takes 0 p side → Takes 0 (p + 1) (with_field one dest side)
  field_draws one j = let c = own_most dest in more (omega (arith, c)) (both (chooses dest) λ to. both j λ x. defines _ to)

  plain_draws : IsTiled (choose dest >>= (λ to. left >>= (λ x. right >>= (λ y. operated op to x y))))
  plain_draws = let c = own_most dest in more (omega (arith, c)) (both (chooses dest) λ to. both h λ x. both i λ z. operated_draws op to x z)

  shift_draws : by_word op y ≡ 1 → shift_needs in_canonical op ≡ 2 → IsTiled (left >>= (λ x. right >>= (λ y. shifted_into op dest x y)))
  shift_draws e f = more (omega (arith, e, f)) (both h λ x. both i λ z. into_draws op dest x z)

  fields_draw : (r s : Option _) → IsTiled (tiled op (first_tile op None None) dest left right) →
      IsTiled (tiled op (first_tile op r s) dest left right)
  fields_draw (Some one) s whole = more (omega arith) (field_draws one h)
  fields_draw None (Some one) whole = more (omega arith) (field_draws one i)
  fields_draw None None whole = whole

  some_draws : (r s : Option _) → is_some r ≡ true → IsTiled (tiled op (first_tile op r s) dest left right)
  some_draws (Some one) s e = more (omega arith) (field_draws one h)
  some_draws None s e = cc

pub tiled_draws : (op : Bin) (x y : Tx) (dest : Option Opnd) {n m : ℕ} {left right : Choice Opnd} (h : Takes 0 n left) (i : Takes 0 m right) →
    Takes 0 (besides op y + (n + m)) (tiled op (tile op x y) dest left right)
tiled_draws bin.ShiftLeft x (tree.Const k) dest h i =
    some_draws bin.ShiftLeft (tree.Const k) dest h i (constant_side bin.ShiftLeft (tree.Const k))
    (exchanged_side bin.ShiftLeft x) refl
tiled_draws bin.ShiftLeft x y dest h i = shift_draws bin.ShiftLeft y dest h i refl refl
tiled_draws bin.ShiftRight x (tree.Const k) dest h i =
    some_draws bin.ShiftRight (tree.Const k) dest h i (constant_side bin.ShiftRight (tree.Const k))
    (exchanged_side bin.ShiftRight x) refl
tiled_draws bin.ShiftRight x y dest h i = shift_draws bin.ShiftRight y dest h i refl refl
tiled_draws bin.ShiftSigned x (tree.Const k) dest h i =
    some_draws bin.ShiftSigned (tree.Const k) dest h i (constant_side bin.ShiftSigned (tree.Const k))
    (exchanged_side bin.ShiftSigned x) refl
tiled_draws bin.ShiftSigned x y dest h i = shift_draws bin.ShiftSigned y dest h i refl refl
tiled_draws op x y dest h i = fields_draw op y dest h i (constant_side op y) (exchanged_side op x) (plain_draws op y dest h i)

pub based_draws : {n : ℕ} (o : Option ℕ) {left whole : Choice Opnd} → Takes 0 n left → Takes 0 n whole → Takes 0 n (based o left whole)
based_draws (Some b) h i = more (omega arith) (both h λ x. gives _)
based_draws None h i = more (omega arith) (both i λ x. gives _)

module _ {n : ℕ} (dest : Option Opnd) {place : Choice _} (h : Takes 0 n place) where
  pub loaded_draws : (o : Option ℕ) → Takes 0 (n + 1) (choose dest >>= (λ to. loaded o place to))
  loaded_draws (Some s) = let c = own_most dest in more (omega (arith, c)) (both (chooses dest) λ to. defines _ to)
  loaded_draws None = let c = own_most dest in more (omega (arith, c)) (both (chooses dest) λ to. both h λ b. defines _ to)

  pub byte_draws : Takes 0 (n + 1) (choose dest >>= (λ to. loaded_byte place to))
  byte_draws = let c = own_most dest in more (omega (arith, c)) (both (chooses dest) λ to. both h λ b. defines _ to)

-- Comparisons.

less_draws : (o : _) (x y : Opnd) (m : ℕ) → Takes 0 1 (on_less o x y m)
less_draws o x y m = more (omega arith) (both draws_temp λ t. both (puts _) λ u. puts _)

less_field_draws : (o : _) (n : ℕ) (x : Opnd) (m : ℕ) → Takes 0 1 (on_less_field o n x m)
less_field_draws o n x m = more (omega arith) (both draws_temp λ t. both (puts _) λ u. puts _)

branch_draws : (rel : Rel) (x y : Opnd) (m : ℕ) → Takes 0 1 (branch_on rel x y m)
branch_draws Equal x y m = more (omega arith) (puts _)
branch_draws NotEqual x y m = more (omega arith) (puts _)
branch_draws Less x y m = less_draws (order true true) x y m
branch_draws GreaterEqual x y m = less_draws (order true false) x y m
branch_draws Greater x y m = less_draws (order true true) y x m
branch_draws LessEqual x y m = less_draws (order true false) y x m
branch_draws Below x y m = less_draws (order false true) x y m
branch_draws NotBelow x y m = less_draws (order false false) x y m

zero_draws : (rel : Rel) (x : Opnd) (m : ℕ) → Takes 0 1 (against_zero rel x m)
zero_draws Below x m = more (omega arith) (gives tt)
zero_draws rel x m = more (omega arith) (puts _)

-- how the right side is brought in
module _ (rel : Rel) (x : Opnd) {right : Choice Opnd} (m : ℕ) {n : ℕ} (h : Takes 0 n right) where
  abbrev Brings : Choice (Unit {0}) → Type 0
  Brings choice = Takes 0 (n + 1) choice

  side_either : (b : Bool) (p q : Option _) → Brings (against rel p x right m) → Brings (against rel q x right m) →
      Brings (against rel (if b then p else q) x right m)
  side_either true p q i j = i
  side_either false p q i j = j

  side_whole : Brings (against rel None x right m)
  side_whole = both h λ y. branch_draws rel x y m

  side_short : (o : _) (k : ℕ) → Brings (on_less_field o k x m)
  side_short o k = more (omega arith) (less_field_draws o k x m)

  side_zero : Brings (against_zero rel x m)
  side_zero = more (omega arith) (zero_draws rel x m)

pub against_draws : {n : ℕ} (rel : Rel) (y : Tx) (x : Opnd) {right : Choice Opnd} (m : ℕ) → Takes 0 n right →
    Takes 0 (n + 1) (against rel (short_side rel y) x right m)
against_draws Equal (tree.Const k) x m h = side_either Equal x m h (k == 0) _ _ (side_zero Equal x m h) (side_whole Equal x m h)
against_draws NotEqual (tree.Const k) x m h = side_either NotEqual x m h (k == 0) _ _ (side_zero NotEqual x m h) (side_whole NotEqual x m h)
against_draws Less (tree.Const k) x m h =
    side_either Less x m h (k == 0) _ _ (side_zero Less x m h)
    (side_either Less x m h (is_small k) _ _ (side_short Less x m h (order true true) (field k)) (side_whole Less x m h))
against_draws LessEqual (tree.Const k) x m h =
    side_either LessEqual x m h (k == 0) _ _ (side_zero LessEqual x m h)
    (side_either LessEqual x m h (is_small k && not (k == 32767)) _ _
    (side_short LessEqual x m h (order true true) (field ((k + 1) % 4294967296))) (side_whole LessEqual x m h))
against_draws Greater (tree.Const k) x m h =
    side_either Greater x m h (k == 0) _ _ (side_zero Greater x m h)
    (side_either Greater x m h (is_small k && not (k == 32767)) _ _
    (side_short Greater x m h (order true false) (field ((k + 1) % 4294967296))) (side_whole Greater x m h))
against_draws GreaterEqual (tree.Const k) x m h =
    side_either GreaterEqual x m h (k == 0) _ _ (side_zero GreaterEqual x m h)
    (side_either GreaterEqual x m h (is_small k) _ _ (side_short GreaterEqual x m h (order true false) (field k)) (side_whole GreaterEqual x m h))
against_draws Below (tree.Const k) x m h =
    side_either Below x m h (k == 0) _ _ (side_zero Below x m h)
    (side_either Below x m h (is_small k) _ _ (side_short Below x m h (order false true) (field k)) (side_whole Below x m h))
against_draws NotBelow (tree.Const k) x m h =
    side_either NotBelow x m h (k == 0) _ _ (side_zero NotBelow x m h)
    (side_either NotBelow x m h (is_small k) _ _ (side_short NotBelow x m h (order false false) (field k)) (side_whole NotBelow x m h))
against_draws rel y x m h = side_whole rel x m h

-- Single choices.

pub constant_in_draws : (n : ℕ) (dest : Option Opnd) → Takes 0 1 (constant_in n dest)
constant_in_draws n (Some to) = more (omega arith) (constant_draws to n)
constant_in_draws n None = either (n == 0) (more (omega arith) (gives _)) (more (omega arith) (both draws_temp λ to. constant_draws to n))

pub answer_draws : (dest : Option Opnd) → Takes 0 1 (answer_in dest)
answer_draws dest = let c = own_most dest in more (omega (arith, c)) (both (chooses dest) λ to. defines _ to)

pub answer_to : (to : Opnd) → Takes 0 0 (answer_in (Some to))
answer_to to = more (omega arith) (both (chooses (Some to)) λ t. defines _ t)

far_draws : (n : ℕ) (x : Opnd) → Takes 0 1 (store_far n x)
far_draws n x = more (omega arith) (both draws_temp λ t. both (constant_draws t n) λ u. both (puts _) λ u. puts _)

low_draws : (n : ℕ) (x : Opnd) → Takes 0 1 (store_low n x)
low_draws n x = either (nat_lt n 32768) (more (omega arith) (puts _)) (far_draws n x)

pub passed_draws : (n i : ℕ) (value : Option Opnd → Choice Opnd) → ((dest : Option Opnd) → Takes 0 n (value dest)) → Takes 0 (n + 1) (passed i value)
passed_draws n i value h =
    either (nat_lt i 4) (more (omega arith) (both (h (Some (argument i))) λ u. gives tt))
    (both (h None) λ v. low_draws _ v)

pub service_draws : {n : ℕ} (number : ℕ) {side : Choice Opnd} → Takes 0 n side → Takes 0 n (asked_for number side)
service_draws number h = more (omega arith) (both h λ x. both (constant_draws _ number) λ u. puts _)

pub given_draws : (t : ℕ) (rs : List ℕ) → Takes 0 0 (given_back t rs)
given_draws t [] = gives tt
given_draws t (r ∷ rs) = both (puts _) λ u. given_draws (t + 1) rs
