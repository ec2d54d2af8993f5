-- The temporaries that are drawn for the flat code of a function, and the words for the arguments of its calls, are at most its needs.
use Rattle.std.proofs.Common.{◌≡◌, ◌≤◌, ◌+◌, ◌*◌, ℕ, Bool, true, false, Option, Some, None, List, [], ◌∷◌, length, refl, arith}
use Rattle.std.specs.Prelude.{not, nat_lt, max, if◌then◌else◌}
use Rattle.tg_frame.specs.declared.accesses.Access.{Access}
use Rattle.tg_frame.specs.declared.accesses.Access.TheVariants.{InTemp, InFrame}
use Rattle.tg_tree.specs.declared.operators.Bin.TheVariants as bin
use Rattle.tg_tree.specs.declared.operators.Rel.{Rel}
use Rattle.tg_tree.specs.Tree as tree
use Rattle.tg_tree.specs.Tree.{Tx, Txs, Ts, Linear, Function, no_txs, tx}
use Rattle.tg_tree.specs.Sizes.{in_canonical, expression_needs, arguments_needs, statement_needs, element_needs, code_needs}
use Rattle.tg_instr.specs.declared.operands.Opnd.{Opnd}
use Rattle.tg_munch.specs.mirror.Arguments.{is_in_register, is_in_frame, is_anywhere, one_may_end, ordered}
use Rattle.tg_munch.specs.mirror.Choosing.{Choice, ◌>>=◌, give}
use Rattle.tg_munch.specs.mirror.Tiles.{slot, offset, offset_by}
use Rattle.tg_munch.specs.mirror.Comparing.{is_turned, turned}
use Rattle.tg_munch.specs.mirror.Munching.{kept_registers, temp, expression, arguments, left_side, based_at, valued, effect, stored, stored_byte}
use Rattle.tg_munch.specs.mirror.Munching.{statement, compared, branch, compared_in_hi, branch_behind, element, elements}
use Rattle.tg_munch.specs.mirror.Products.{is_in_hi}
use Rattle.tg_munch.specs.mirror.Bodies.{munched, kept, load_above, from_word, from_words, from_register, parameters, body, count, out_of, out_of_statement}
use Rattle.tg_munch.specs.mirror.Bodies.{out_of_element, outs, mark_above}
use Rattle.tg_munch.specs.laws.Lengths.{word_shifts, arguments_shifts, statement_shifts, element_shifts, code_shifts, TemporariesAreFew}
use Rattle.tg_munch.proofs.Needs.{Takes, both, more, either, gives, puts, defines, draws_temp, own_most, chooses, constant_draws, moved_draws}
use Rattle.tg_munch.proofs.Needs.{tiled_draws, based_draws, loaded_draws, byte_draws, against_draws, constant_in_draws, answer_draws, answer_to}
use Rattle.tg_munch.proofs.Needs.{passed_draws, service_draws, given_draws}

-- what flat code counts for an expression, and for shifts by words besides
abbrev room : Tx → ℕ
room x = expression_needs in_canonical x + 3 * word_shifts x

-- Arguments, without the words that those past the fourth have in the frame: what all draw, by those in registers and those in the frame.
abbrev picked_needs : Bool → ℕ → ℕ
picked_needs true n = n
picked_needs false n = 0

picked_draws : (n : ℕ) (b : Bool) {choice : Choice (Unit {0})} → Takes 0 n choice → Takes 0 (picked_needs b n) (if b then choice else give tt)
picked_draws n true h = h
picked_draws n false h = gives tt

abbrev all_picked_needs : (picks : ℕ → Bool) → (i : ℕ) → Txs → ℕ
all_picked_needs picks i no_txs = 0
all_picked_needs picks i (tx x xs) = picked_needs (picks i) (1 + room x) + all_picked_needs picks (i + 1) xs

abbrev all_needs : Txs → ℕ
all_needs no_txs = 0
all_needs (tx x xs) = 1 + room x + all_needs xs

anywhere_needs : (i : ℕ) (xs : Txs) → all_picked_needs is_anywhere i xs ≡ all_needs xs
anywhere_needs i no_txs = refl
anywhere_needs i (tx x xs) = let h = anywhere_needs (i + 1) xs in omega (arith, h)

either_needs : (b : Bool) (n : ℕ) → picked_needs (not b) n + picked_needs b n ≡ n
either_needs true n = omega arith
either_needs false n = omega arith

both_needs : (i : ℕ) (xs : Txs) → all_picked_needs is_in_frame i xs + all_picked_needs is_in_register i xs ≡ all_needs xs
both_needs i no_txs = refl
both_needs i (tx x xs) =
    let h = both_needs (i + 1) xs in
    let e = either_needs (nat_lt i 4) (1 + room x) in
    omega (arith, h, e)

ordered_draws : (b : Bool) (choice : (ℕ → Bool) → Choice (Unit {0})) (xs : Txs) →
    ((picks : ℕ → Bool) → Takes 0 (all_picked_needs picks 0 xs) (choice picks)) → Takes 0 (all_needs xs) (ordered b choice)
ordered_draws true choice xs h = let e = anywhere_needs 0 xs in more (omega (arith, e)) (h is_anywhere)
ordered_draws false choice xs h = let e = both_needs 0 xs in more (omega (arith, e)) (both (h is_in_frame) λ u. h is_in_register)

arguments_have_needs : (xs : Txs) → all_needs xs + count xs ≤ arguments_needs in_canonical xs + 3 * arguments_shifts xs
arguments_have_needs no_txs = omega arith
arguments_have_needs (tx x xs) = let h = arguments_have_needs xs in omega (arith, h)

module _ (slots : ℕ) where
  mutual
    expression_draws : (x : Tx) (dest : Option Opnd) → Takes 0 (room x) (expression slots x dest)
    expression_draws (tree.Const n) dest = more (omega arith) (constant_in_draws n dest)
    expression_draws (tree.Address label) dest = let c = own_most dest in more (omega (arith, c)) (both (chooses dest) λ to. defines _ to)
    expression_draws (tree.Temp i) dest = more (omega arith) (moved_draws dest (temp i))
    expression_draws tree.FrameAddress dest = let c = own_most dest in more (omega (arith, c)) (both (chooses dest) λ to. defines _ to)
    expression_draws (tree.Binary op x y) dest =
        more (omega arith) (tiled_draws op x y dest (expression_draws x None) (expression_draws y None))
    expression_draws (tree.Load (tree.Binary op x y)) dest =
        more (omega arith)
        (loaded_draws dest
        (based_draws (offset_by op y) (more {m = room (tree.Binary op x y)} (omega arith) (expression_draws x None))
        (expression_draws (tree.Binary op x y) None))
        (slot slots (tree.Binary op x y)))
    expression_draws (tree.Load x) dest =
        more (omega arith) (loaded_draws dest (based_draws None (expression_draws x None) (expression_draws x None)) None)
    expression_draws (tree.LoadByte (tree.Binary op x y)) dest =
        more (omega arith)
        (byte_draws dest
        (based_draws (offset_by op y) (more {m = room (tree.Binary op x y)} (omega arith) (expression_draws x None))
        (expression_draws (tree.Binary op x y) None)))
    expression_draws (tree.LoadByte x) dest =
        more (omega arith) (byte_draws dest (based_draws None (expression_draws x None) (expression_draws x None)))
    expression_draws (tree.Call label xs) dest =
        let h = arguments_have_needs xs in
        more (omega (arith, h))
        (both (both (ordered_draws (one_may_end 0 xs) _ xs (λ picks. arguments_draw picks 0 xs)) λ u. puts _) λ u. answer_draws dest)
    expression_draws (tree.Service n x) dest =
        more (omega arith) (both (service_draws n (expression_draws x (Some _))) λ u. answer_draws dest)
    expression_draws (tree.After s x) dest = more (omega arith) (expression_draws x dest)

    arguments_draw : (picks : ℕ → Bool) (i : ℕ) (xs : Txs) → Takes 0 (all_picked_needs picks i xs) (arguments slots picks i xs)
    arguments_draw picks i no_txs = gives tt
    arguments_draw picks i (tx x xs) =
        both (picked_draws (1 + room x) (picks i)
        (more (omega arith) (passed_draws (room x) i (expression slots x) (λ dest. expression_draws x dest))))
        λ u. arguments_draw picks (i + 1) xs

  left_draws : (x : Tx) → Takes 0 (room x) (left_side slots x)
  left_draws (tree.Binary op x y) = more (omega arith) (expression_draws x None)
  left_draws x = expression_draws x None

  based_at_draws : (x : Tx) → Takes 0 (room x) (based_at slots x)
  based_at_draws x = based_draws (offset x) (left_draws x) (expression_draws x None)

  valued_draws : (x : Tx) → Takes 0 (room x) (valued slots x)
  valued_draws x = more (omega arith) (both (expression_draws x None) λ v. gives tt)

  stored_draws : (o : Option ℕ) (x y : Tx) → Takes 0 (room x + room y) (stored slots o x y)
  stored_draws (Some k) x y = more (omega arith) (both (expression_draws y None) λ v. puts _)
  stored_draws None x y = more (omega arith) (both (based_at_draws x) λ b. both (expression_draws y None) λ v. puts _)

  stored_byte_draws : (x y : Tx) → Takes 0 (room x + room y) (stored_byte slots x y)
  stored_byte_draws x y = more (omega arith) (both (based_at_draws x) λ b. both (expression_draws y None) λ v. puts _)

  -- with the words that the arguments of a call have
  moves_draw : (i : ℕ) (x : Tx) → Takes (out_of x) (room x) (expression slots x (Some (temp i)) >>= (λ v. give {A = Unit {0}} tt))
  moves_draw i (tree.Call label xs) =
      let h = arguments_have_needs xs in
      more (omega (arith, h))
      (both (both (both (ordered_draws (one_may_end 0 xs) _ xs (λ picks. arguments_draw picks 0 xs)) λ u. puts _) λ u. answer_to (temp i)) λ v. gives tt)
  moves_draw i x = more (omega arith) (both (expression_draws x (Some (temp i))) λ v. gives tt)

  effect_draws : (x : Tx) → Takes (out_of x) (room x) (effect slots x)
  effect_draws (tree.Call label xs) =
      let h = arguments_have_needs xs in
      more (omega (arith, h)) (both (ordered_draws (one_may_end 0 xs) _ xs (λ picks. arguments_draw picks 0 xs)) λ u. puts _)
  effect_draws (tree.Service n x) = more (omega arith) (service_draws n (expression_draws x (Some _)))
  effect_draws x = more (omega arith) (valued_draws x)

  abbrev statement_most : Ts → ℕ
  statement_most s = statement_needs in_canonical s + 3 * statement_shifts s

  statement_draws : (s : Ts) → Takes (out_of_statement s) (statement_most s) (statement slots s)
  statement_draws (tree.Move i x) = more (omega arith) (moves_draw i x)
  statement_draws (tree.Store x y) = more (omega arith) (stored_draws (slot slots x) x y)
  statement_draws (tree.StoreByte x y) = more (omega arith) (stored_byte_draws x y)
  statement_draws (tree.Do x) = more (omega arith) (effect_draws x)
  statement_draws s = more (omega arith) (gives tt)

  compared_draws : (rel : Rel) (x y : Tx) (m : ℕ) → Takes 0 (1 + (room x + room y)) (compared slots rel x y m)
  compared_draws rel x y m =
      more (omega arith) (both (expression_draws x None) λ a. against_draws rel y a m (expression_draws y None))

  branches_draw : (rel : Rel) (x y : Tx) (m : ℕ) → Takes 0 (1 + (room x + room y)) (branch slots rel x y m)
  branches_draw rel x y m =
      either (is_turned rel x y) (more (omega arith) (compared_draws (turned rel) y x m)) (compared_draws rel x y m)

  in_hi_draws : (rel : Rel) (y : Tx) (m : ℕ) → Takes 0 (2 + room y) (compared_in_hi slots rel y m)
  in_hi_draws rel y m =
      more (omega arith)
      (both draws_temp λ a. both (puts _) λ u. against_draws rel y a m (expression_draws y None))

  behind_draws : (before : Option Linear) (rel : Rel) (x y : Tx) (m : ℕ) → Takes 0 (1 + (room x + room y)) (branch_behind slots before rel x y m)
  behind_draws before rel (tree.Binary bin.MulHigh u v) y m =
      either (is_in_hi before (tree.Binary bin.MulHigh u v)) (more (omega arith) (in_hi_draws rel y m))
      (branches_draw rel (tree.Binary bin.MulHigh u v) y m)
  behind_draws before rel x y m = branches_draw rel x y m

  abbrev element_most : Linear → ℕ
  element_most e = element_needs in_canonical e + 3 * element_shifts e

  element_draws : (keeps : ℕ) (before : Option Linear) (e : Linear) → Takes (out_of_element e) (element_most e) (element slots keeps before e)
  element_draws keeps before (tree.Mark m) = more (omega arith) (puts _)
  element_draws keeps before (tree.Do' s) = more (omega arith) (statement_draws s)
  element_draws keeps before (tree.Jump m) = more (omega arith) (puts _)
  element_draws keeps before (tree.Branch rel x y m) = more (omega arith) (behind_draws before rel x y m)
  element_draws keeps before (tree.Fault' n) = more (omega arith) (puts _)
  element_draws keeps before (tree.Return' x) =
      more (omega arith) (both (expression_draws x (Some _)) λ v. both (given_draws keeps kept_registers) λ u. puts _)

  -- one after another: words for arguments are shared
  shared : {A B : Type 0} {o p n m : ℕ} {first : Choice A} {onward : A → Choice B} → Takes o n first → ((a : A) → Takes p m (onward a)) →
      Takes (max o p) (n + m) (first >>= onward)
  unfolding ◌>>=◌
  shared {first = first} h f = record {
    temps = λ d. let one = first d in let i = h.temps d in let j = (f one.value).temps one.drawn in omega (arith, i, j);
  }

  elements_draw : (keeps : ℕ) (before : Option Linear) (code : List Linear) →
      Takes (outs code) (code_needs in_canonical code + 3 * code_shifts code) (elements slots keeps before code)
  elements_draw keeps before [] = gives tt
  elements_draw keeps before (e ∷ rest) =
      more (omega arith) (shared (element_draws keeps before e) λ u. elements_draw keeps (Some e) rest)

-- The entry of a function.

load_above_draws : (above : Opnd) (n : ℕ) (to : Opnd) → Takes 0 0 (load_above above n to)
load_above_draws above n to =
    either (nat_lt n 32768) (puts _) (more (omega arith) (both (constant_draws to n) λ u. both (puts _) λ u. puts _))

from_word_draws : (above : Opnd) (i : ℕ) (home : Access) → Takes 0 1 (from_word above i home)
from_word_draws above i (InTemp t) = more (omega arith) (load_above_draws above _ _)
from_word_draws above i (InFrame k) = more (omega arith) (both draws_temp λ v. both (load_above_draws above _ v) λ u. puts _)

from_words_draw : (above : Opnd) (i : ℕ) (homes : List Access) → Takes 0 (length homes) (from_words above i homes)
from_words_draw above i [] = gives tt
from_words_draw above i (home ∷ homes) = more (omega arith) (both (from_word_draws above i home) λ u. from_words_draw above (i + 1) homes)

register_draws : (i : ℕ) (home : Access) → Takes 0 0 (from_register i home)
register_draws i (InTemp t) = puts _
register_draws i (InFrame k) = puts _

parameters_draw : (i : ℕ) (homes : List Access) → Takes 0 (2 * length homes) (parameters i homes)
parameters_draw i [] = gives tt
parameters_draw i (home ∷ homes) =
    either (nat_lt i 4) (more (omega arith) (both (register_draws i home) λ u. parameters_draw (i + 1) homes))
    (more (omega arith) (both draws_temp λ above. both (puts _) λ u. from_words_draw above i (home ∷ homes)))

kept_draws : (rs : List ℕ) → Takes 0 (length rs) (kept rs)
kept_draws [] = gives tt
kept_draws (r ∷ rs) = more (omega arith) (both (both draws_temp λ t. puts _) λ u. kept_draws rs)

behind : {A B : Type 0} {o n m : ℕ} {first : Choice A} {onward : A → Choice B} → Takes 0 n first → ((a : A) → Takes o m (onward a)) →
    Takes o (n + m) (first >>= onward)
unfolding ◌>>=◌
behind {first = first} h f = record {
  temps = λ d. let one = first d in let i = h.temps d in let j = (f one.value).temps one.drawn in omega (arith, i, j);
}

body_draws : (f : Function (List Linear)) →
    Takes (outs f.body) (9 + (2 * length f.params + (code_needs in_canonical f.body + 3 * code_shifts f.body))) (body f)
body_draws f = behind (kept_draws kept_registers) λ u. behind (parameters_draw 0 f.params) λ u. elements_draw f.slots f.temps None f.body

pub temps_few : TemporariesAreFew
temps_few f =
    let h : (munched f).drawn.temp + outs f.body ≤ f.temps + (9 + (2 * length f.params + (code_needs in_canonical f.body + 3 * code_shifts f.body))) =
    (body_draws f).temps (record { temp = f.temps; mark = mark_above f.body }) in
    omega (arith, h)
