-- The instructions of a function are at most as many as its flat code is long, and twelve words for each unit of it may come of them.
use Rattle.std.proofs.Common.{◌≤◌, ◌+◌, ◌*◌, ℕ, Option, Some, None, List, [], ◌∷◌, length, sum_by, arith}
use Rattle.std.proofs.Math.Dec.{lit≤}
use Rattle.std.proofs.lemmas.List.Sums.{sum_by-le-sum_by}
use Rattle.std.specs.Prelude.{◌≡◌, ◌==◌, nat_lt, Bool, true, false, not, refl, if◌then◌else◌}
use Rattle.tg_frame.specs.declared.accesses.Access.{Access}
use Rattle.tg_frame.specs.declared.accesses.Access.TheVariants.{InTemp, InFrame}
use Rattle.tg_tree.specs.declared.operators.Bin.TheVariants as bin
use Rattle.tg_tree.specs.declared.operators.Rel.{Rel}
use Rattle.tg_tree.specs.Tree as tree
use Rattle.tg_tree.specs.Tree.{Tx, Txs, Ts, Linear, Function, no_txs, tx}
use Rattle.tg_tree.specs.Units.{Canonical}
use Rattle.tg_tree.specs.Sizes.{expression_length, arguments_length, statement_length, element_length, code_length, flat_length}
use Rattle.tg_instr.specs.declared.operands.Opnd.{Opnd}
use Rattle.tg_instr.specs.declared.instr.Instr.{Instr}
use Rattle.tg_instr.specs.declared.instr.Instr.TheVariants.{Move}
use Rattle.tg_munch.specs.mirror.Arguments.{is_in_register, is_in_frame, is_anywhere, one_may_end, ordered}
use Rattle.tg_munch.specs.mirror.Choosing.{Choice, ◌>>◌, give}
use Rattle.tg_munch.specs.mirror.Tiles.{slot, offset, offset_by}
use Rattle.tg_munch.specs.mirror.Comparing.{short_side, is_turned, turned}
use Rattle.tg_munch.specs.mirror.Munching.{kept_registers, temp, argument, constant_in, answer_in, store_far, store_low, passed, asked as asked_for}
use Rattle.tg_munch.specs.mirror.Munching.{given_back, expression, arguments, left_side, based_at, valued, effect, stored, stored_byte, statement, compared}
use Rattle.tg_munch.specs.mirror.Munching.{branch, compared_in_hi, branch_behind, element, elements}
use Rattle.tg_munch.specs.mirror.Products.{is_in_hi}
use Rattle.tg_munch.specs.mirror.Bodies.{munched, kept, load_above, from_word, from_words, from_register, parameters, body}
use Rattle.tg_munch.specs.laws.Lengths.{InstructionsAreFew, CountsWords, WordsAreFew}
use Rattle.tg_munch.proofs.Draws.{Draws, Within, most_counted, both, more, either, gives, puts, puts_move, defines, defines_move, draws_temp, chooses}
use Rattle.tg_munch.proofs.Draws.{constant_draws, asked, moved_draws, tiled_draws, based_draws, loaded_draws, byte_draws, against_draws}

-- Single choices.

constant_in_draws : (n : ℕ) (dest : Option Opnd) → Draws 2 1 20 (constant_in n dest)
constant_in_draws n (Some to) = more (omega arith) (omega arith) (omega arith) (constant_draws to n)
constant_in_draws n None =
    either (n == 0) (more (omega arith) (omega arith) (omega arith) (gives _))
    (more (omega arith) (omega arith) (omega arith) (both draws_temp λ to. constant_draws to n))

answer_draws : (dest : Option Opnd) → Draws 1 1 13 (answer_in dest)
answer_draws dest = more (omega arith) (omega arith) (omega arith) (both (chooses dest) λ to. defines_move to _)

far_draws : (n : ℕ) (x : Opnd) → Draws 4 1 40 (store_far n x)
far_draws n x =
    more (omega arith) (omega arith) (omega arith)
    (both draws_temp λ t. both (constant_draws t n) λ u. both (puts _ (lit≤ tt)) λ u. puts _ (lit≤ tt))

low_draws : (n : ℕ) (x : Opnd) → Draws 4 1 40 (store_low n x)
low_draws n x = either (nat_lt n 32768) (more (omega arith) (omega arith) (omega arith) (puts _ (lit≤ tt))) (far_draws n x)

-- so many units, and a move where an operand is asked for
abbrev Gives : (units : ℕ) → Option Opnd → Choice Opnd → Type 0
Gives units dest choice = Draws (units + asked dest) units (12 * units + 13 * asked dest) choice

-- no move where none is asked for
unasked : {n m : ℕ} {choice : Choice Opnd} → n ≤ m → Gives n None choice → Within m choice
unasked h i = more (omega (arith, h)) h (omega (arith, h)) i

passed_draws : (n i : ℕ) (value : Option Opnd → Choice Opnd) → ((dest : Option Opnd) → Gives n dest (value dest)) → Within (n + 4) (passed i value)
passed_draws n i value h =
    either (nat_lt i 4) (more (omega arith) (omega arith) (omega arith) (both (h (Some (argument i))) λ u. gives tt))
    (more (omega arith) (omega arith) (omega arith) (both (h None) λ v. low_draws _ v))

service_draws : {n k w : ℕ} (number : ℕ) {side : Choice Opnd} → Draws n k w side → Draws (n + 3) k (w + 30) (asked_for number side)
service_draws number h = more (omega arith) (omega arith) (omega arith) (both h λ x. both (constant_draws _ number) λ u. puts _ (lit≤ tt))

given_draws : (t : ℕ) (rs : List ℕ) → Draws (length rs) 0 (13 * length rs) (given_back t rs)
given_draws t [] = gives tt
given_draws t (r ∷ rs) = more (omega arith) (omega arith) (omega arith) (both (puts_move _ _) λ u. given_draws (t + 1) rs)

abbrev len : Tx → ℕ
len x = expression_length Canonical x

-- one choice after another, each within its units
both_within : {n m : ℕ} {first next : Choice (Unit {0})} → Within n first → Within m next → Within (n + m) (first >> next)
both_within h k = more (omega arith) (omega arith) (omega arith) (both h λ u. k)

-- What is counted of arguments that a test of their places picks: what all count, by those in registers and those in the frame.
abbrev picked_units : Bool → ℕ → ℕ
picked_units true n = n
picked_units false n = 0

picked_draws : (n : ℕ) (b : Bool) {choice : Choice (Unit {0})} → Within n choice → Within (picked_units b n) (if b then choice else give tt)
picked_draws n true h = h
picked_draws n false h = gives tt

abbrev picked_length : (picks : ℕ → Bool) → (i : ℕ) → Txs → ℕ
picked_length picks i no_txs = 0
picked_length picks i (tx x xs) = picked_units (picks i) (len x + 4) + picked_length picks (i + 1) xs

all_length : (i : ℕ) (xs : Txs) → picked_length is_anywhere i xs ≡ arguments_length Canonical xs
all_length i no_txs = refl
all_length i (tx x xs) = let h = all_length (i + 1) xs in omega (arith, h)

either_length : (b : Bool) (n : ℕ) → picked_units (not b) n + picked_units b n ≡ n
either_length true n = omega arith
either_length false n = omega arith

both_lengths : (i : ℕ) (xs : Txs) → picked_length is_in_frame i xs + picked_length is_in_register i xs ≡ arguments_length Canonical xs
both_lengths i no_txs = refl
both_lengths i (tx x xs) =
    let h = both_lengths (i + 1) xs in
    let e = either_length (nat_lt i 4) (len x + 4) in
    omega (arith, h, e)

ordered_draws : (b : Bool) (choice : (ℕ → Bool) → Choice (Unit {0})) (xs : Txs) →
    ((picks : ℕ → Bool) → Within (picked_length picks 0 xs) (choice picks)) →
    Within (arguments_length Canonical xs) (ordered b choice)
ordered_draws true choice xs h =
    let e = all_length 0 xs in
    more (omega (arith, e)) (omega (arith, e)) (omega (arith, e)) (h is_anywhere)
ordered_draws false choice xs h =
    let e = both_lengths 0 xs in
    more (omega (arith, e)) (omega (arith, e)) (omega (arith, e)) (both_within (h is_in_frame) (h is_in_register))

module _ (slots : ℕ) where
  mutual
    expression_draws : (x : Tx) (dest : Option Opnd) → Gives (len x) dest (expression slots x dest)
    expression_draws (tree.Const n) dest = more (omega arith) (omega arith) (omega arith) (constant_in_draws n dest)
    expression_draws (tree.Address label) dest = more (omega arith) (omega arith) (omega arith) (both (chooses dest) λ to. defines _ to (lit≤ tt))
    expression_draws (tree.Temp i) dest = more (omega arith) (omega arith) (omega arith) (moved_draws dest (temp i))
    expression_draws tree.FrameAddress dest = more (omega arith) (omega arith) (omega arith) (both (chooses dest) λ to. defines _ to (lit≤ tt))
    expression_draws (tree.Binary op x y) dest =
        more (omega arith) (omega arith) (omega arith) (tiled_draws op y dest (expression_draws x None) (expression_draws y None) x)
    expression_draws (tree.Load (tree.Binary op x y)) dest =
        more (omega arith) (omega arith) (omega arith)
        (loaded_draws dest
        (based_draws (offset_by op y) (unasked (omega arith) (expression_draws x None))
        (unasked {m = len (tree.Binary op x y)} (omega arith) (expression_draws (tree.Binary op x y) None)))
        (slot slots (tree.Binary op x y)))
    expression_draws (tree.Load x) dest =
        more (omega arith) (omega arith) (omega arith)
        (loaded_draws dest (based_draws None (expression_draws x None) (expression_draws x None)) None)
    expression_draws (tree.LoadByte (tree.Binary op x y)) dest =
        more (omega arith) (omega arith) (omega arith)
        (byte_draws dest
        (based_draws (offset_by op y) (unasked (omega arith) (expression_draws x None))
        (unasked {m = len (tree.Binary op x y)} (omega arith) (expression_draws (tree.Binary op x y) None))))
    expression_draws (tree.LoadByte x) dest =
        more (omega arith) (omega arith) (omega arith)
        (byte_draws dest (based_draws None (expression_draws x None) (expression_draws x None)))
    expression_draws (tree.Call label xs) dest =
        more (omega arith) (omega arith) (omega arith)
        (both (both (ordered_draws (one_may_end 0 xs) _ xs (λ picks. arguments_draw picks 0 xs)) λ u. puts _ (lit≤ tt)) λ u. answer_draws dest)
    expression_draws (tree.Service n x) dest =
        more (omega arith) (omega arith) (omega arith) (both (service_draws n (expression_draws x (Some _))) λ u. answer_draws dest)
    expression_draws (tree.After s x) dest = more (omega arith) (omega arith) (omega arith) (expression_draws x dest)

    arguments_draw : (picks : ℕ → Bool) (i : ℕ) (xs : Txs) → Within (picked_length picks i xs) (arguments slots picks i xs)
    arguments_draw picks i no_txs = gives tt
    arguments_draw picks i (tx x xs) =
        both_within (picked_draws (len x + 4) (picks i) (passed_draws (len x) i (expression slots x) (λ dest. expression_draws x dest)))
        (arguments_draw picks (i + 1) xs)

  value_draws : (x : Tx) → Within (len x) (expression slots x None)
  value_draws x = unasked (omega arith) (expression_draws x None)

  left_draws : (x : Tx) → Within (len x) (left_side slots x)
  left_draws (tree.Binary op x y) = unasked (omega arith) (expression_draws x None)
  left_draws x = value_draws x

  based_at_draws : (x : Tx) → Within (len x) (based_at slots x)
  based_at_draws x = based_draws (offset x) (left_draws x) (value_draws x)

  valued_draws : (x : Tx) → Within (len x) (valued slots x)
  valued_draws x = more (omega arith) (omega arith) (omega arith) (both (value_draws x) λ v. gives tt)

  effect_draws : (x : Tx) → Within (len x) (effect slots x)
  effect_draws (tree.Call label xs) =
      more (omega arith) (omega arith) (omega arith)
      (both (ordered_draws (one_may_end 0 xs) _ xs (λ picks. arguments_draw picks 0 xs)) λ u. puts _ (lit≤ tt))
  effect_draws (tree.Service n x) = more (omega arith) (omega arith) (omega arith) (service_draws n (expression_draws x (Some _)))
  effect_draws x = valued_draws x

  stored_draws : (o : Option ℕ) (x y : Tx) → Within (1 + (len x + len y)) (stored slots o x y)
  stored_draws (Some k) x y = more (omega arith) (omega arith) (omega arith) (both (value_draws y) λ v. puts _ (lit≤ tt))
  stored_draws None x y = more (omega arith) (omega arith) (omega arith) (both (based_at_draws x) λ b. both (value_draws y) λ v. puts _ (lit≤ tt))

  stored_byte_draws : (x y : Tx) → Within (1 + (len x + len y)) (stored_byte slots x y)
  stored_byte_draws x y = more (omega arith) (omega arith) (omega arith) (both (based_at_draws x) λ b. both (value_draws y) λ v. puts _ (lit≤ tt))

  statement_draws : (s : Ts) → Within (statement_length Canonical s) (statement slots s)
  statement_draws (tree.Move i x) = more (omega arith) (omega arith) (omega arith) (both (expression_draws x (Some (temp i))) λ v. gives tt)
  statement_draws (tree.Store x y) = more (omega arith) (omega arith) (omega arith) (stored_draws (slot slots x) x y)
  statement_draws (tree.StoreByte x y) = more (omega arith) (omega arith) (omega arith) (stored_byte_draws x y)
  statement_draws (tree.Do x) = more (omega arith) (omega arith) (omega arith) (effect_draws x)
  statement_draws s = more (omega arith) (omega arith) (omega arith) (gives tt)

  compared_draws : (rel : Rel) (x y : Tx) (m : ℕ) → Within (2 + (len x + len y)) (compared slots rel x y m)
  compared_draws rel x y m =
      more (omega arith) (omega arith) (omega arith)
      (both (value_draws x) λ a. against_draws rel (short_side rel y) a m (value_draws y))

  branch_draws : (rel : Rel) (x y : Tx) (m : ℕ) → Within (2 + (len x + len y)) (branch slots rel x y m)
  branch_draws rel x y m =
      either (is_turned rel x y) (more (omega arith) (omega arith) (omega arith) (compared_draws (turned rel) y x m))
      (compared_draws rel x y m)

  in_hi_draws : (rel : Rel) (y : Tx) (m : ℕ) → Draws (3 + len y) (2 + len y) (30 + 12 * len y) (compared_in_hi slots rel y m)
  in_hi_draws rel y m =
      more (omega arith) (omega arith) (omega arith)
      (both draws_temp λ a. both (puts _ (lit≤ tt)) λ u. against_draws rel (short_side rel y) a m (value_draws y))

  behind_draws : (before : Option Linear) (rel : Rel) (x y : Tx) (m : ℕ) → Within (2 + (len x + len y)) (branch_behind slots before rel x y m)
  behind_draws before rel (tree.Binary bin.MulHigh u v) y m =
      either (is_in_hi before (tree.Binary bin.MulHigh u v)) (more (omega arith) (omega arith) (omega arith) (in_hi_draws rel y m))
      (branch_draws rel (tree.Binary bin.MulHigh u v) y m)
  behind_draws before rel x y m = branch_draws rel x y m

  element_draws : (keeps : ℕ) (before : Option Linear) (e : Linear) → Within (element_length e) (element slots keeps before e)
  element_draws keeps before (tree.Mark m) = more (omega arith) (omega arith) (omega arith) (puts _ (lit≤ tt))
  element_draws keeps before (tree.Do' s) = more (omega arith) (omega arith) (omega arith) (statement_draws s)
  element_draws keeps before (tree.Jump m) = more (omega arith) (omega arith) (omega arith) (puts _ (lit≤ tt))
  element_draws keeps before (tree.Branch rel x y m) = behind_draws before rel x y m
  element_draws keeps before (tree.Fault' n) = more (omega arith) (omega arith) (omega arith) (puts _ (lit≤ tt))
  element_draws keeps before (tree.Return' x) =
      more (omega arith) (omega arith) (omega arith) (both (expression_draws x (Some _)) λ v. both (given_draws keeps kept_registers) λ u. puts _ (lit≤ tt))

  elements_draw : (keeps : ℕ) (before : Option Linear) (code : List Linear) → Within (code_length code) (elements slots keeps before code)
  elements_draw keeps before [] = gives tt
  elements_draw keeps before (e ∷ rest) =
      more (omega arith) (omega arith) (omega arith)
      (both (element_draws keeps before e) λ u. elements_draw keeps (Some e) rest)

-- The entry of a function.

load_above_draws : (above : Opnd) (n : ℕ) (to : Opnd) → Draws 4 0 40 (load_above above n to)
load_above_draws above n to =
    either (nat_lt n 32768) (more (omega arith) (omega arith) (omega arith) (puts _ (lit≤ tt)))
    (more (omega arith) (omega arith) (omega arith) (both (constant_draws to n) λ u. both (puts _ (lit≤ tt)) λ u. puts _ (lit≤ tt)))

from_word_draws : (above : Opnd) (i : ℕ) (home : Access) → Draws 5 1 50 (from_word above i home)
from_word_draws above i (InTemp t) = more (omega arith) (omega arith) (omega arith) (load_above_draws above _ _)
from_word_draws above i (InFrame k) =
    more (omega arith) (omega arith) (omega arith) (both draws_temp λ v. both (load_above_draws above _ v) λ u. puts _ (lit≤ tt))

from_words_draw : (above : Opnd) (i : ℕ) (homes : List Access) →
    Draws (5 * length homes) (length homes) (50 * length homes) (from_words above i homes)
from_words_draw above i [] = gives tt
from_words_draw above i (home ∷ homes) =
    more (omega arith) (omega arith) (omega arith) (both (from_word_draws above i home) λ u. from_words_draw above (i + 1) homes)

register_draws : (i : ℕ) (home : Access) → Within 6 (from_register i home)
register_draws i (InTemp t) = more (omega arith) (omega arith) (omega arith) (puts_move _ _)
register_draws i (InFrame k) = more (omega arith) (omega arith) (omega arith) (puts _ (lit≤ tt))

parameters_draw : (i : ℕ) (homes : List Access) → Within (6 * length homes) (parameters i homes)
parameters_draw i [] = gives tt
parameters_draw i (home ∷ homes) =
    either (nat_lt i 4) (more (omega arith) (omega arith) (omega arith) (both (register_draws i home) λ u. parameters_draw (i + 1) homes))
    (more (omega arith) (omega arith) (omega arith)
    (both draws_temp λ above. both (puts _ (lit≤ tt)) λ u. from_words_draw above i (home ∷ homes)))

kept_draws : (rs : List ℕ) → Draws (length rs) (length rs) (13 * length rs) (kept rs)
kept_draws [] = gives tt
kept_draws (r ∷ rs) = more (omega arith) (omega arith) (omega arith) (both (both draws_temp λ t. puts_move t _) λ u. kept_draws rs)

body_draws : (f : Function (List Linear)) → Draws (flat_length f + 9) (flat_length f + 9) (12 * flat_length f + 117) (body f)
body_draws f =
    more (omega arith) (omega arith) (omega arith)
    (both (kept_draws kept_registers) λ u. both (parameters_draw 0 f.params) λ u. elements_draw f.slots f.temps None f.body)

pub few : InstructionsAreFew
few f =
    let h = body_draws f in
    record { code = h.code _; temps = h.temps _; marks = h.marks _ }

most : {count : Instr → ℕ} → CountsWords count → (one : Instr) → count one ≤ most_counted one
most h (Move to from) = h.moves to from
most h one = h.others one (λ to from e. cc)

pub words_few : WordsAreFew
words_few count f h =
    let w : sum_by most_counted (munched f).code ≤ 12 * flat_length f + 117 = (body_draws f).words _ in
    omega (arith, sum_by-le-sum_by count most_counted (munched f).code (most h), w)
