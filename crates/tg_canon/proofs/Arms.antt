-- What each case of the pass draws, from what its parts draw.
use Rattle.std.proofs.Common.{◌≡◌, ℕ, ◌+◌, Bool, true, false, not, sym, ap, ◌∙◌}
use Rattle.tg_tree.specs.declared.operators.Bin.{Bin}
use Rattle.tg_tree.specs.declared.operators.Rel.{Rel}
use Rattle.tg_tree.specs.Tree.{Tx, Const, Address, Temp, FrameAddress, Binary, Load, LoadByte, Call, Service, After, Txs, Cond, Compare, Not, Both}
use Rattle.tg_tree.specs.Tree.{Either, Ts, Move, Store, StoreByte, Do, If, Loop, Break, Fault, Seq, Return, Stms}
use Rattle.tg_canon.specs.mirror.Drawing.{Draws, give, ◌>>=◌, DrawsFrom}
use Rattle.tg_canon.specs.mirror.Canon.{Part, still, assigning, ◌before◌, loop_of, block, Parts, in_turn, Hoisted, Two, Arguments, whole, behind, is_effect}
use Rattle.tg_canon.specs.mirror.Canon.{hold_effect, word, side_by_side, over, over_two, over_all, with_one, with_two, dropped, is_whole, Tested, compared}
use Rattle.tg_canon.specs.mirror.Canon.{opposite, joined, choice, exit_where, wide_choice, deeper, inside, choose, hoist, hoist_all, condition, leave, linear}
use Rattle.tg_canon.specs.mirror.Canon.{linear_all, operands}
use Rattle.tg_canon.proofs.Steps.{given, on, ends, same}

-- expressions
pub constant_hoists : (out : ℕ → ℕ) (n : ℕ) {k : ℕ} {r : Hoisted} → r ≡ whole (Const n) → DrawsFrom (hoist out (Const n)) k r k
constant_hoists out n e = same (given _ _) e

pub address_hoists : (out : ℕ → ℕ) (n : ℕ) {k : ℕ} {r : Hoisted} → r ≡ whole (Address n) → DrawsFrom (hoist out (Address n)) k r k
address_hoists out n e = same (given _ _) e

pub temporary_hoists : (out : ℕ → ℕ) (n : ℕ) {k : ℕ} {r : Hoisted} → r ≡ whole (Temp n) → DrawsFrom (hoist out (Temp n)) k r k
temporary_hoists out n e = same (given _ _) e

pub frame_hoists : (out : ℕ → ℕ) {k : ℕ} {r : Hoisted} → r ≡ whole FrameAddress → DrawsFrom (hoist out FrameAddress) k r k
frame_hoists out e = same (given _ _) e

pub binary_hoists : (out : ℕ → ℕ) (op : Bin) (x y : Tx) {k l : ℕ} {both : Two} {r : Hoisted} → DrawsFrom (operands out x y) k both l →
    r ≡ over_two (Binary op) both → DrawsFrom (hoist out (Binary op x y)) k r l
binary_hoists out op x y g e = ends (over_two (Binary op)) g e

pub load_hoists : (out : ℕ → ℕ) (x : Tx) {k l : ℕ} {a r : Hoisted} → DrawsFrom (word (hoist out x)) k a l → r ≡ over Load a →
    DrawsFrom (hoist out (Load x)) k r l
load_hoists out x g e = ends (over Load) g e

pub byte_hoists : (out : ℕ → ℕ) (x : Tx) {k l : ℕ} {a r : Hoisted} → DrawsFrom (word (hoist out x)) k a l → r ≡ over LoadByte a →
    DrawsFrom (hoist out (LoadByte x)) k r l
byte_hoists out x g e = ends (over LoadByte) g e

pub call_hoists : (out : ℕ → ℕ) (f : ℕ) (xs : Txs) {k l : ℕ} {all : Arguments} {r : Hoisted} → DrawsFrom (hoist_all out xs) k all l →
    r ≡ over_all (Call f) all → DrawsFrom (hoist out (Call f xs)) k r l
call_hoists out f xs g e = ends (over_all (Call f)) g e

pub service_hoists : (out : ℕ → ℕ) (n : ℕ) (x : Tx) {k l : ℕ} {a r : Hoisted} → DrawsFrom (word (hoist out x)) k a l →
    r ≡ over (Service n) a → DrawsFrom (hoist out (Service n x)) k r l
service_hoists out n x g e = ends (over (Service n)) g e

pub after_hoists : (out : ℕ → ℕ) (s : Ts) (x : Tx) {k l n : ℕ} {a r : Hoisted} {p : Part} → DrawsFrom (hoist out x) k a l →
    DrawsFrom (linear out s) l p n → r ≡ behind p a → DrawsFrom (hoist out (After s x)) k r n
after_hoists out s x {a = a} g h e = on (λ b. linear out s >>= λ p. give (behind p b)) g (ends (λ p. behind p a) h e)

pub word_hoists : (out : ℕ → ℕ) (x : Tx) {k l n : ℕ} {a b : Hoisted} → DrawsFrom (hoist out x) k a l →
    DrawsFrom (hold_effect (is_effect a.rest) a) l b n → DrawsFrom (word (hoist out x)) k b n
word_hoists out x g h = on (λ a. hold_effect (is_effect a.rest) a) g h

pub operands_hoist : (out : ℕ → ℕ) (x y : Tx) {k l m n : ℕ} {a b : Hoisted} {both : Two} → DrawsFrom (word (hoist out y)) k b l →
    DrawsFrom (word (hoist out x)) l a m → DrawsFrom (side_by_side a b) m both n → DrawsFrom (operands out x y) k both n
operands_hoist out x y {b = b} g h i = on (λ d. word (hoist out x) >>= λ c. side_by_side c d) g (on (λ c. side_by_side c b) h i)

-- conditions that stay whole
pub compare_tests : (out : ℕ → ℕ) (rel : Rel) (x y : Tx) {k l : ℕ} {both : Two} {t : Tested} → DrawsFrom (operands out x y) k both l →
    t ≡ compared (Compare rel) both → DrawsFrom (condition out (Compare rel x y)) k t l
compare_tests out rel x y g e = ends (compared (Compare rel)) g e

pub not_tests : (out : ℕ → ℕ) (c : Cond) {k l : ℕ} {t u : Tested} → DrawsFrom (condition out c) k t l → u ≡ opposite t → DrawsFrom (condition out (Not c)) k u l
not_tests out c g e = ends opposite g e

pub both_tests : (out : ℕ → ℕ) (c d : Cond) {k l n : ℕ} {t u r : Tested} → DrawsFrom (condition out d) k u l →
    DrawsFrom (condition out c) l t n → r ≡ joined Both t u → DrawsFrom (condition out (Both c d)) k r n
both_tests out c d {u = u} g h e = on (λ v. condition out c >>= λ t. give (joined Both t v)) g (ends (λ t. joined Both t u) h e)

pub either_tests : (out : ℕ → ℕ) (c d : Cond) {k l n : ℕ} {t u r : Tested} → DrawsFrom (condition out d) k u l →
    DrawsFrom (condition out c) l t n → r ≡ joined Either t u → DrawsFrom (condition out (Either c d)) k r n
either_tests out c d {u = u} g h e = on (λ v. condition out c >>= λ t. give (joined Either t v)) g (ends (λ t. joined Either t u) h e)

-- conditions part by part
pub compare_leaves : (out : ℕ → ℕ) (w : Bool) (n : ℕ) (rel : Rel) (x y : Tx) {k l : ℕ} {both : Two} {t : Tested} {p : Part} →
    DrawsFrom (operands out x y) k both l → t ≡ compared (Compare rel) both → p ≡ exit_where w n t → DrawsFrom (leave out w n (Compare rel x y)) k p l
compare_leaves out w n rel x y g e f = ends (λ ab. exit_where w n (compared (Compare rel) ab)) g (f ∙ ap (exit_where w n) e)

pub not_leaves : (out : ℕ → ℕ) (w : Bool) (n : ℕ) (c : Cond) {k l : ℕ} {p : Part} → DrawsFrom (leave out (not w) n c) k p l → DrawsFrom (leave out w n (Not c)) k p l
not_leaves out w n c g = g

pub both_fails : (out : ℕ → ℕ) (n : ℕ) (c d : Cond) {k l m : ℕ} {p q r : Part} → DrawsFrom (leave out false n d) k q l →
    DrawsFrom (leave out false n c) l p m → r ≡ p before q → DrawsFrom (leave out false n (Both c d)) k r m
both_fails out n c d {q = q} g h e = on (λ y. leave out false n c >>= λ x. give (x before y)) g (ends (λ x. x before q) h e)

pub either_holds : (out : ℕ → ℕ) (n : ℕ) (c d : Cond) {k l m : ℕ} {p q r : Part} → DrawsFrom (leave out true n d) k q l →
    DrawsFrom (leave out true n c) l p m → r ≡ p before q → DrawsFrom (leave out true n (Either c d)) k r m
either_holds out n c d {q = q} g h e = on (λ y. leave out true n c >>= λ x. give (x before y)) g (ends (λ x. x before q) h e)

pub both_holds : (out : ℕ → ℕ) (n : ℕ) (c d : Cond) {k l m further : ℕ} {p q s r : Part} → further ≡ n + 1 →
    DrawsFrom (leave (deeper 1 out) true further d) k q l → DrawsFrom (leave (deeper 1 out) false 0 c) l p m → s ≡ p before q →
    r ≡ block s → DrawsFrom (leave out true n (Both c d)) k r m
both_holds out n c d {k = k} {l = l} {q = q} u g h e f =
    on (λ y. leave (deeper 1 out) false 0 c >>= λ x. give (block (x before y))) (record { is = ap (λ j. leave (deeper 1 out) true j d k) (sym u) ∙ g.is })
    (ends (λ x. block (x before q)) h (f ∙ ap block e))

pub either_fails : (out : ℕ → ℕ) (n : ℕ) (c d : Cond) {k l m further : ℕ} {p q s r : Part} → further ≡ n + 1 →
    DrawsFrom (leave (deeper 1 out) false further d) k q l → DrawsFrom (leave (deeper 1 out) true 0 c) l p m → s ≡ p before q →
    r ≡ block s → DrawsFrom (leave out false n (Either c d)) k r m
either_fails out n c d {k = k} {q = q} u g h e f =
    on (λ y. leave (deeper 1 out) true 0 c >>= λ x. give (block (x before y))) (record { is = ap (λ j. leave (deeper 1 out) false j d k) (sym u) ∙ g.is })
    (ends (λ x. block (x before q)) h (f ∙ ap block e))

-- statements
pub move_goes : (out : ℕ → ℕ) (i : ℕ) (x : Tx) {k l : ℕ} {a : Hoisted} {p : Part} → DrawsFrom (hoist out x) k a l →
    p ≡ with_one (λ v. assigning i (Move i v)) a → DrawsFrom (linear out (Move i x)) k p l
move_goes out i x g e = ends (with_one (λ v. assigning i (Move i v))) g e

pub store_goes : (out : ℕ → ℕ) (x y : Tx) {k l : ℕ} {both : Two} {p : Part} → DrawsFrom (operands out x y) k both l →
    p ≡ with_two Store both → DrawsFrom (linear out (Store x y)) k p l
store_goes out x y g e = ends (with_two Store) g e

pub store_byte_goes : (out : ℕ → ℕ) (x y : Tx) {k l : ℕ} {both : Two} {p : Part} → DrawsFrom (operands out x y) k both l →
    p ≡ with_two StoreByte both → DrawsFrom (linear out (StoreByte x y)) k p l
store_byte_goes out x y g e = ends (with_two StoreByte) g e

pub do_goes : (out : ℕ → ℕ) (x : Tx) {k l : ℕ} {a : Hoisted} {p : Part} → DrawsFrom (hoist out x) k a l → p ≡ with_one dropped a →
    DrawsFrom (linear out (Do x)) k p l
do_goes out x g e = ends (with_one dropped) g e

-- one of two ways
this_way : {b : Bool} {m : Draws Part} (n : Draws Part) {k l : ℕ} {p : Part} → b ≡ true → DrawsFrom m k p l → DrawsFrom (choose b m n) k p l
this_way {m = m} n {k = k} e g = record { is = ap (λ b. choose b m n k) e ∙ g.is }

that_way : {b : Bool} (m : Draws Part) {n : Draws Part} {k l : ℕ} {p : Part} → b ≡ false → DrawsFrom n k p l → DrawsFrom (choose b m n) k p l
that_way m {n = n} {k = k} e g = record { is = ap (λ b. choose b m n k) e ∙ g.is }

pub if_goes : (out : ℕ → ℕ) (c : Cond) (s t : Ts) {k l m n : ℕ} {p q r : Part} {tested : Tested} → is_whole c ≡ true →
    DrawsFrom (linear out t) k q l → DrawsFrom (linear out s) l p m → DrawsFrom (condition out c) m tested n → r ≡ choice tested p q → DrawsFrom (linear out (If c s t)) k r n
if_goes out c s t {p = p} {q = q} w g h i e =
    this_way (linear (deeper 1 out) t >>= λ y. linear (deeper 2 out) s >>= λ x. leave (deeper 2 out) false 0 c >>= λ u. give (wide_choice u x y))
    w (on (λ y. linear out s >>= λ x. condition out c >>= λ u. give (choice u x y)) g
    (on (λ x. condition out c >>= λ u. give (choice u x q)) h (ends (λ u. choice u p q) i e)))

pub if_goes_by_parts : (out : ℕ → ℕ) (c : Cond) (s t : Ts) {k l m n : ℕ} {p q r test : Part} → is_whole c ≡ false →
    DrawsFrom (linear (deeper 1 out) t) k q l → DrawsFrom (linear (deeper 2 out) s) l p m → DrawsFrom (leave (deeper 2 out) false 0 c) m test n →
    r ≡ wide_choice test p q → DrawsFrom (linear out (If c s t)) k r n
if_goes_by_parts out c s t {p = p} {q = q} w g h i e =
    that_way (linear out t >>= λ y. linear out s >>= λ x. condition out c >>= λ u. give (choice u x y)) w
    (on (λ y. linear (deeper 2 out) s >>= λ x. leave (deeper 2 out) false 0 c >>= λ u. give (wide_choice u x y)) g
    (on (λ x. leave (deeper 2 out) false 0 c >>= λ u. give (wide_choice u x q)) h (ends (λ u. wide_choice u p q) i e)))

pub loop_goes : (out : ℕ → ℕ) (s : Ts) {k l : ℕ} {p r : Part} → DrawsFrom (linear (inside out) s) k p l → r ≡ loop_of p → DrawsFrom (linear out (Loop s)) k r l
loop_goes out s g e = ends loop_of g e

pub break_goes : (out : ℕ → ℕ) (n : ℕ) {k target : ℕ} {p : Part} → target ≡ out n → p ≡ still (Break target) → DrawsFrom (linear out (Break n)) k p k
break_goes out n u e = same (given _ _) (e ∙ ap (λ j. still (Break j)) u)

pub fault_goes : (out : ℕ → ℕ) (n : ℕ) {k : ℕ} {p : Part} → p ≡ still (Fault n) → DrawsFrom (linear out (Fault n)) k p k
fault_goes out n e = same (given _ _) e

pub sequence_goes : (out : ℕ → ℕ) (ss : Stms) {k l : ℕ} {all : Parts} {p : Part} → DrawsFrom (linear_all out ss) k all l →
    p ≡ in_turn all → DrawsFrom (linear out (Seq ss)) k p l
sequence_goes out ss g e = ends in_turn g e

pub return_goes : (out : ℕ → ℕ) (x : Tx) {k l : ℕ} {a : Hoisted} {p : Part} → DrawsFrom (word (hoist out x)) k a l →
    p ≡ with_one (λ v. still (Return v)) a → DrawsFrom (linear out (Return x)) k p l
return_goes out x g e = ends (with_one (λ v. still (Return v))) g e
