-- What tiles name: operands that are known, and marks of their own.
use Rattle.std.proofs.Common.{ℕ, ◌≡◌, ◌≤◌, ◌+◌, ◌++◌, Option, Some, None, Bool, true, false, nat_lt, refl, arith}
use Rattle.std.proofs.lemmas.Bool.Decides.{nat_tests}
use Rattle.std.specs.Prelude.{IsTrue, ◌&&◌, ◌%◌, ◌==◌, not, nat_le, nat_eq, if◌then◌else◌}
use Rattle.std.specs.List.{list_all}
use Rattle.tg_tree.specs.Named.{temporary}
use Rattle.tg_tree.specs.declared.operators.Bin.{Bin}
use Rattle.tg_tree.specs.declared.operators.Bin.TheVariants as bin
use Rattle.tg_instr.proofs.Tests.{left_holds, right_holds, both_hold, all_append}
use Rattle.tg_instr.specs.declared.operands.Opnd.{Opnd}
use Rattle.tg_instr.specs.declared.operands.Opnd.TheVariants.{Temp}
use Rattle.tg_instr.specs.declared.instr.Instr.{Instr}
use Rattle.tg_instr.specs.Codes.{is_mark}
use Rattle.tg_munch.specs.declared.tiles.Base.{Base}
use Rattle.tg_munch.specs.declared.tiles.Immediate.{Immediate}
use Rattle.tg_munch.specs.declared.tiles.Immediate.TheVariants as in_field
use Rattle.tg_munch.specs.declared.tiles.Tile.{Tile}
use Rattle.tg_munch.specs.declared.tiles.Tile.TheVariants.{Right, Left, ByWord, Operands}
use Rattle.tg_munch.specs.mirror.Choosing.{NumbersDrawn, Choice, ◌>>=◌, ◌>>◌, give, put, fresh, choose, defining}
use Rattle.tg_munch.specs.mirror.Tiles.{is_small, halves, constant, behind, based, loaded, loaded_byte, instruction, shift_by, shift_bit, shift_bits}
use Rattle.tg_munch.specs.mirror.Tiles.{shifted, shifted_into, moved, operated, with_field, tiled}
use Rattle.tg_munch.proofs.Scopes.{Scope, Grows, grows_none, grows_on, is_readable, is_writable, may_name, may_put, Readable, Writable, Asked}
use Rattle.tg_munch.proofs.Scopes.{or_right, readable_on, writable_on, asked_on, readable, all_on, counted, occurs, spanned, occurs_append, span_none}
use Rattle.tg_munch.proofs.Scopes.{span_join, span_one}

-- a choice that names what it may, gives something good, and has the marks that it draws
pub record Fits {A : Type 0} (good : NumbersDrawn → A → Bool) (w : Scope) (choice : Choice A) (d : NumbersDrawn) : Type 0 where
  pub grows : Grows d (choice d).drawn
  pub code : w.first_mark ≤ d.mark → IsTrue (list_all (may_name w (choice d).drawn) (choice d).code)
  pub given : IsTrue (good (choice d).drawn (choice d).value)
  pub marks : occurs w.mark (choice d).code ≡ spanned d.mark (choice d).drawn.mark w.mark

abbrev pub anything : {A : Type 0} → NumbersDrawn → A → Bool
anything d x = true

joined : (a b c s t u : ℕ) → a ≡ b + c → b ≡ s → c ≡ t → s + t ≡ u → a ≡ u
joined a b c s t u h k l m = cc

pub fits_then : {A B : Type 0} {good : NumbersDrawn → A → Bool} {fine : NumbersDrawn → B → Bool} {w : Scope} {first : Choice A}
    (onward : A → Choice B) {d : NumbersDrawn} → Fits good w first d →
    ((e : NumbersDrawn) (x : A) → Grows d e → IsTrue (good e x) → Fits fine w (onward x) e) → Fits fine w (first >>= onward) d
unfolding ◌>>=◌
fits_then {w = w} {first = first} onward {d = d} h k =
    let one = first d in
    let two = k one.drawn one.value h.grows h.given in
    let rest = onward one.value one.drawn in
    let start = h.grows.mark in
    record {
      grows = grows_on h.grows two.grows;
      code = λ l. all_append (may_name w rest.drawn) one.code rest.code (all_on w two.grows one.code (h.code l))
          (two.code (omega (arith, l, start)));
      given = two.given;
      marks = joined (occurs w.mark (one.code ++ rest.code)) (occurs w.mark one.code) (occurs w.mark rest.code)
          (spanned d.mark one.drawn.mark w.mark) (spanned one.drawn.mark rest.drawn.mark w.mark)
          (spanned d.mark rest.drawn.mark w.mark)
          (occurs_append w.mark one.code rest.code) h.marks two.marks
          (span_join d.mark one.drawn.mark rest.drawn.mark w.mark h.grows.mark two.grows.mark);
    }

pub fits_give : {A : Type 0} (good : NumbersDrawn → A → Bool) (w : Scope) (x : A) (d : NumbersDrawn) → IsTrue (good d x) →
    Fits good w (give x) d
fits_give good w x d h = record { grows = grows_none d; code = λ l. refl; given = h; marks = span_none d.mark w.mark }

one_unmarked : (b : Bool) (n m : ℕ) → IsTrue (not b) → counted b + 0 ≡ spanned n n m
one_unmarked true n m h = cc
one_unmarked false n m h = span_none n m

pub fits_put : (w : Scope) (one : Instr) (d : NumbersDrawn) → IsTrue (may_put w d one) → Fits anything w (put one) d
fits_put w one d h = record {
  grows = grows_none d;
  code = λ l. both_hold _ _ (right_holds (not (is_mark w.mark one)) _ h) refl;
  given = refl;
  marks = one_unmarked (is_mark w.mark one) d.mark w.mark (left_holds (not (is_mark w.mark one)) (may_name w d one) h);
}

pub fits_define : (w : Scope) (one : Instr) (to : Opnd) (d : NumbersDrawn) → IsTrue (may_put w d one) → Writable w d to →
    Fits (is_readable w) w (defining one to) d
fits_define w one to d h k = record {
  grows = grows_none d;
  code = λ l. both_hold _ _ (right_holds (not (is_mark w.mark one)) _ h) refl;
  given = readable w d to k;
  marks = one_unmarked (is_mark w.mark one) d.mark w.mark (left_holds (not (is_mark w.mark one)) (may_name w d one) h);
}

below_next : (n : ℕ) → IsTrue (nat_lt n (n + 1))
below_next n = grind (arith, nat_tests)

next_temp : (d : NumbersDrawn) → Grows d (record d { temp = d.temp + 1 })
next_temp d = record { temp = omega arith; mark = omega arith }

pub fits_fresh : (w : Scope) (d : NumbersDrawn) → Fits (is_writable w) w fresh d
fits_fresh w d = record {
  grows = next_temp d;
  code = λ l. refl;
  given = or_right (w.is_name (temporary d.temp)) _ (below_next d.temp);
  marks = span_none d.mark w.mark;
}

pub fits_choose : (w : Scope) (asked : Option Opnd) (d : NumbersDrawn) → Asked w d asked →
    Fits (is_writable w) w (choose asked) d
fits_choose w (Some to) d h = fits_give (is_writable w) w to d h
fits_choose w None d h = fits_fresh w d

-- an instruction with one, two or three operands
pub one_named : (a : Bool) → IsTrue a → IsTrue (a && true)
one_named a h = both_hold a true h refl

pub two_named : (a b : Bool) → IsTrue a → IsTrue b → IsTrue (a && (b && true))
two_named a b h k = both_hold a _ h (one_named b k)

pub three_named : (a b c : Bool) → IsTrue a → IsTrue b → IsTrue c → IsTrue (a && (b && (c && true)))
three_named a b c h k l = both_hold a _ h (two_named b c k l)

fits_halves : (w : Scope) (to : Opnd) (n : ℕ) (d : NumbersDrawn) → Writable w d to → Fits (is_readable w) w (halves to n) d
fits_halves w to n d h =
    fits_then _ (fits_put w _ d (one_named _ h)) (λ e u g t.
    let k = writable_on w g to h in
    fits_define w _ to e (two_named _ _ k (readable w e to k)) k)

pub fits_if : {A : Type 0} {good : NumbersDrawn → A → Bool} {w : Scope} (b : Bool) {q r : Choice A} {d : NumbersDrawn} →
    Fits good w q d → Fits good w r d → Fits good w (if b then q else r) d
fits_if true h k = h
fits_if false h k = k

pub fits_constant : (w : Scope) (to : Opnd) (n : ℕ) (d : NumbersDrawn) → Writable w d to →
    Fits (is_readable w) w (constant to n) d
fits_constant w to n d h =
    fits_if (is_small n) (fits_define w _ to d (two_named _ true h refl) h)
    (fits_if (nat_lt n 65536) (fits_define w _ to d (two_named _ true h refl) h)
    (fits_if (n % 65536 == 0) (fits_define w _ to d (one_named _ h) h) (fits_halves w to n d h)))

pub fits_moved : (w : Scope) (asked : Option Opnd) (from : Opnd) (d : NumbersDrawn) → Asked w d asked → Readable w d from →
    Fits (is_readable w) w (moved asked from) d
fits_moved w (Some to) from d h k = fits_define w _ to d (two_named _ _ h k) h
fits_moved w None from d h k = fits_give (is_readable w) w from d k

-- an instruction that leaves its answer in one of the registers of products, and one that takes it
by_product : (w : Scope) (first second : Instr) (to : Opnd) (d : NumbersDrawn) → IsTrue (may_put w d first) → Writable w d to →
    ((e : NumbersDrawn) → Writable w e to → IsTrue (may_put w e second)) →
    Fits (is_readable w) w (put first >> defining second to) d
by_product w first second to d h k named =
    fits_then _ (fits_put w first d h) (λ e u g l.
    let t = writable_on w g to k in
    fits_define w second to e (named e t) t)

pub fits_operated : (w : Scope) (op : Bin) (to x y : Opnd) (d : NumbersDrawn) → Writable w d to → Readable w d x →
    Readable w d y → Fits (is_readable w) w (operated op to x y) d
fits_operated w bin.Add to x y d h k l = fits_define w _ to d (three_named _ _ _ h k l) h
fits_operated w bin.Sub to x y d h k l = fits_define w _ to d (three_named _ _ _ h k l) h
fits_operated w bin.Mul to x y d h k l = by_product w _ _ to d (two_named _ _ k l) h (λ e t. one_named _ t)
fits_operated w bin.Div to x y d h k l = by_product w _ _ to d (two_named _ _ k l) h (λ e t. one_named _ t)
fits_operated w bin.And to x y d h k l = fits_define w _ to d (three_named _ _ _ h k l) h
fits_operated w bin.Or to x y d h k l = fits_define w _ to d (three_named _ _ _ h k l) h
fits_operated w bin.Xor to x y d h k l = fits_define w _ to d (three_named _ _ _ h k l) h
fits_operated w bin.AddTrap to x y d h k l = fits_define w _ to d (three_named _ _ _ h k l) h
fits_operated w bin.SubTrap to x y d h k l = fits_define w _ to d (three_named _ _ _ h k l) h
fits_operated w bin.MulHigh to x y d h k l = by_product w _ _ to d (two_named _ _ k l) h (λ e t. one_named _ t)
fits_operated w _ to x y d h k l = fits_give (is_readable w) w to d (readable w d to h)

-- a shift after a branch over it, to a mark of its own
shift_named : (w : Scope) (op : Bin) (to : Opnd) (n : ℕ) (d : NumbersDrawn) → Writable w d to →
    IsTrue (may_name w d (shift_by op to n))
shift_named w bin.ShiftLeft to n d h = two_named _ _ h (readable w d to h)
shift_named w bin.ShiftRight to n d h = two_named _ _ h (readable w d to h)
shift_named w _ to n d h = two_named _ _ h (readable w d to h)

shift_unmarked : (op : Bin) (to : Opnd) (n m : ℕ) → is_mark m (shift_by op to n) ≡ false
shift_unmarked bin.ShiftLeft to n m = refl
shift_unmarked bin.ShiftRight to n m = refl
shift_unmarked _ to n m = refl

mark_behind : (b : Bool) (k m : ℕ) → b ≡ false →
    0 + (0 + (counted b + (counted (nat_eq m k) + 0))) ≡ spanned k (k + 1) m
mark_behind true k m h = cc
mark_behind false k m h = span_one k m

abbrev behind_bit : NumbersDrawn → NumbersDrawn
behind_bit d = record { temp = d.temp + 1; mark = d.mark + 1 }

bit_grows : (d : NumbersDrawn) → Grows d (behind_bit d)
bit_grows d = record { temp = omega arith; mark = omega arith }

mark_reached : (first k : ℕ) → first ≤ k → IsTrue (nat_le first k && nat_lt k (k + 1))
mark_reached first k h = grind (arith, nat_tests)

pub fits_shift_bit : (w : Scope) (op : Bin) (to amount : Opnd) (n : ℕ) (d : NumbersDrawn) → Writable w d to →
    Readable w d amount → Fits anything w (shift_bit op to amount n) d
unfolding ◌>>=◌
fits_shift_bit w op to amount n d h k =
    let e = behind_bit d in
    let g = bit_grows d in
    let bit : Writable w e (Temp (record { 0 = d.temp })) =
    or_right (w.is_name (temporary d.temp)) _ (below_next d.temp) in
    record {
      grows = g;
      code = λ l. both_hold _ _ (two_named _ _ bit (readable_on w g amount k))
          (both_hold _ _ (both_hold _ _ bit (or_right (w.is_target d.mark) _ (mark_reached w.first_mark d.mark l)))
          (both_hold _ _ (shift_named w op to n e (writable_on w g to h)) refl));
      given = refl;
      marks = mark_behind (is_mark w.mark (shift_by op to n)) d.mark w.mark (shift_unmarked op to n w.mark);
    }

bit_then : (w : Scope) (op : Bin) (to y : Opnd) (n : ℕ) (rest : Choice (Unit {0})) →
    ((e : NumbersDrawn) → Writable w e to → Readable w e y → Fits anything w rest e) →
    (d : NumbersDrawn) → Writable w d to → Readable w d y → Fits anything w (shift_bit op to y n >> rest) d
bit_then w op to y n rest k d h l =
    fits_then _ (fits_shift_bit w op to y n d h l) (λ e u g t. k e (writable_on w g to h) (readable_on w g y l))

pub fits_shift_bits : (w : Scope) (op : Bin) (to y : Opnd) (d : NumbersDrawn) → Writable w d to → Readable w d y →
    Fits anything w (shift_bits op to y) d
fits_shift_bits w op to y =
    bit_then w op to y 1 _
    (bit_then w op to y 2 _ (bit_then w op to y 4 _ (bit_then w op to y 8 _ (fits_shift_bit w op to y 16))))

pub fits_shifted : (w : Scope) (op : Bin) (x y : Opnd) (d : NumbersDrawn) → Readable w d x → Readable w d y →
    Fits (is_readable w) w (shifted op x y) d
fits_shifted w op x y d h k =
    fits_then _ (fits_fresh w d) (λ e to a b.
    fits_then _ (fits_put w _ e (two_named _ _ b (readable_on w a x h))) (λ f u a' b'.
    fits_then _ (fits_shift_bits w op to y f (writable_on w a' to b) (readable_on w (grows_on a a') y k)) (λ i u' c c'.
    fits_give (is_readable w) w to i (readable w i to (writable_on w (grows_on a' c) to b)))))

pub fits_shifted_into : (w : Scope) (op : Bin) (asked : Option Opnd) (x y : Opnd) (d : NumbersDrawn) → Asked w d asked →
    Readable w d x → Readable w d y →
    Fits (is_readable w) w (shifted_into op asked x y) d
fits_shifted_into w op asked x y d g h k =
    fits_then _ (fits_shifted w op x y d h k) (λ e z a f. fits_moved w asked z e (asked_on w a asked g) f)

instruction_named : (w : Scope) (one : Immediate) (to x : Opnd) (d : NumbersDrawn) → Writable w d to → Readable w d x →
    IsTrue (may_put w d (instruction one to x))
instruction_named w (in_field.Add n) to x d h k = two_named _ _ h k
instruction_named w (in_field.AddTrap n) to x d h k = two_named _ _ h k
instruction_named w (in_field.And n) to x d h k = two_named _ _ h k
instruction_named w (in_field.Or n) to x d h k = two_named _ _ h k
instruction_named w (in_field.Xor n) to x d h k = two_named _ _ h k
instruction_named w (in_field.ShiftLeft n) to x d h k = two_named _ _ h k
instruction_named w (in_field.ShiftRight n) to x d h k = two_named _ _ h k
instruction_named w (in_field.ShiftSigned n) to x d h k = two_named _ _ h k

-- a part of a tree
abbrev pub Part : Scope → Choice Opnd → Type 0
Part w q = (d : NumbersDrawn) → Fits (is_readable w) w q d

pub fits_with_field : (w : Scope) (one : Immediate) (asked : Option Opnd) (side : Choice Opnd) → Part w side →
    (d : NumbersDrawn) → Asked w d asked →
    Fits (is_readable w) w (with_field one asked side) d
fits_with_field w one asked side part d h =
    fits_then _ (fits_choose w asked d h) (λ e to a b.
    fits_then _ (part e) (λ f x a' b'.
    let t = writable_on w a' to b in
    fits_define w _ to f (instruction_named w one to x f t b') t))

pub fits_tiled : (w : Scope) (op : Bin) (tile : Tile) (asked : Option Opnd) (left right : Choice Opnd) → Part w left →
    Part w right →
    (d : NumbersDrawn) → Asked w d asked → Fits (is_readable w) w (tiled op tile asked left right) d
fits_tiled w op (Right one) asked left right l r d h = fits_with_field w one asked left l d h
fits_tiled w op (Left one) asked left right l r d h = fits_with_field w one asked right r d h
fits_tiled w op ByWord asked left right l r d h =
    fits_then _ (l d) (λ e x a b.
    fits_then _ (r e) (λ f y a' b'.
    fits_shifted_into w op asked x y f (asked_on w (grows_on a a') asked h) (readable_on w a' x b) b'))
fits_tiled w op Operands asked left right l r d h =
    fits_then _ (fits_choose w asked d h) (λ e to a b.
    fits_then _ (l e) (λ f x a' b'.
    fits_then _ (r f) (λ i y a'' b''.
    fits_operated w op to x y i (writable_on w (grows_on a' a'') to b) (readable_on w a'' x b') b'')))

abbrev pub is_base : Scope → NumbersDrawn → Base → Bool
is_base w d b = is_readable w d b.operand

pub fits_based : (w : Scope) (offset : Option ℕ) (left whole : Choice Opnd) → Part w left → Part w whole → (d : NumbersDrawn) →
    Fits (is_base w) w (based offset left whole) d
fits_based w (Some n) left whole l r d = fits_then _ (l d) (λ e b a g. fits_give (is_base w) w (behind n b) e g)
fits_based w None left whole l r d = fits_then _ (r d) (λ e b a g. fits_give (is_base w) w (behind 0 b) e g)

abbrev pub is_option_slot : Scope → Option ℕ → Bool
is_option_slot w (Some k) = w.is_slot k
is_option_slot w None = true

pub fits_loaded : (w : Scope) (slot : Option ℕ) (place : Choice Base) (to : Opnd) (d : NumbersDrawn) →
    IsTrue (is_option_slot w slot) → Writable w d to →
    Fits (is_base w) w place d → Fits (is_readable w) w (loaded slot place to) d
fits_loaded w (Some k) place to d s h p = fits_define w _ to d (both_hold _ _ h s) h
fits_loaded w None place to d s h p =
    fits_then _ p (λ e b a g. let t = writable_on w a to h in fits_define w _ to e (two_named _ _ t g) t)

pub fits_loaded_byte : (w : Scope) (place : Choice Base) (to : Opnd) (d : NumbersDrawn) → Writable w d to →
    Fits (is_base w) w place d → Fits (is_readable w) w (loaded_byte place to) d
fits_loaded_byte w place to d h p =
    fits_then _ p (λ e b a g. let t = writable_on w a to h in fits_define w _ to e (two_named _ _ t g) t)
