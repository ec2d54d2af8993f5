-- What actions of the translation give has constants that are words, and takes few slots.
use Rattle.std.proofs.Common.{◌≡◌, ◌<◌, ◌≤◌, ◌+◌, ◌*◌, ℕ, Bool, true, false, Option, Some, None, List, [], ◌∷◌, ◌++◌, length, arith}
use Rattle.std.proofs.Common.{subst, length-append}
use Rattle.std.specs.Prelude.{◌==◌, ◌||◌, if◌then◌else◌}
use Rattle.tg_frame.specs.declared.accesses.Access.{Access}
use Rattle.tg_symbols.specs.Tables.{looked_up}
use Rattle.tg_syntax.specs.declared.trees.Op.{Op}
use Rattle.tg_syntax.specs.declared.trees.Op.TheVariants as op
use Rattle.tg_syntax.specs.Tree.{FunDecs}
use Rattle.tg_syntax.specs.Tree.{no_functions, function}
use Rattle.tg_typecheck.specs.declared.notes.Means.{Means}
use Rattle.tg_typecheck.specs.declared.notes.Means.TheVariants as means
use Rattle.tg_tree.specs.declared.operators.Bin.TheVariants as bin
use Rattle.tg_tree.specs.Tree as tree
use Rattle.tg_tree.specs.Tree.{Tx, Const, Temp, FrameAddress, After, Txs, no_txs, tx, Cond, Ts, Move, Stms, no_stms, stm, Function, Code}
use Rattle.tg_translate.specs.declared.homes.Home.{Home}
use Rattle.tg_translate.specs.declared.homes.Within.{Within}
use Rattle.tg_translate.specs.declared.operands.Operand.{Operand}
use Rattle.tg_translate.specs.declared.operands.Operand.TheVariants.{Number, Kept}
use Rattle.tg_translate.specs.declared.held.HeldAddress.{HeldAddress}
use Rattle.tg_translate.specs.declared.held.HeldAddress.TheVariants.{InOwnFrame, Beside, At}
use Rattle.tg_translate.specs.declared.wants.Want.{Want}
use Rattle.tg_translate.specs.declared.wants.Want.TheVariants as want
use Rattle.tg_translate.specs.mirror.States.{TranslationState, Translated, drawn, Translates, after, give, fresh}
use Rattle.tg_translate.specs.mirror.Wants.{Made, value, done, test, truth_into, value_of, put_in, dropped, followed}
use Rattle.tg_translate.specs.mirror.Wants.{behind, behind_some, value_behind, done_behind}
use Rattle.tg_translate.specs.mirror.Constructs.{Storage, in_temp, at_address, operand, Held, keep, hold, HeldAll, hold_next}
use Rattle.tg_translate.specs.mirror.Constructs.{store_at, assign, HeldAt, hold_base, hold_address, held_in_temp, held_at}
use Rattle.tg_translate.specs.mirror.Constructs.{hold_place, place_held, field_of, field_place, element_of, element_place, record_of, make_record}
use Rattle.tg_translate.specs.mirror.Constructs.{product_of, quotient_of, checked_quotient, minus_one, quotient, comparison, operation, count_of}
use Rattle.tg_translate.specs.mirror.Constructs.{count, call_routine}
use Rattle.tg_translate.specs.mirror.Scopes.{no_value, nowhere, home_place, variable_place, routine_of}
use Rattle.tg_translate.specs.mirror.Scopes.{call_declared, call, declare_variable, literal}
use Rattle.tg_translate.specs.mirror.Returning.{given_back}
use Rattle.tg_translate.specs.mirror.Functions.{at_of, gives_nothing, closing, declare_functions}
use Rattle.tg_translate_laws.proofs.Actions.{answer, left}
use Rattle.tg_translate_laws.proofs.Fine.{Each}
use Rattle.tg_translate_laws.proofs.Returning.{fine_parts, given_back_holds}
use Rattle.tg_translate_laws.proofs.Words.{IsWord, WordTx, WordTxs, WordTs, WordStms, WordMade, WordOperand, WordOperands, WordPlace, WordAccess, WordHeld}
use Rattle.tg_translate_laws.proofs.Words.{followed_words, truth_words, put_words, dropped_words}
use Rattle.tg_translate_laws.proofs.Words.{home_words, store_words, held_words}
use Rattle.tg_translate_laws.proofs.Words.{field_words, element_words, record_words, product_words, quotient_words, comparison_words}
use Rattle.tg_translate_laws.proofs.Words.{count_words, declared_words}

-- what stands in a state: the slots of all homes are few, and functions that are done have words
abbrev pub AllNear : List (ℕ × Home) → Type 0
AllNear homes = Each (λ e. WordAccess e.1.access) homes

abbrev pub BodyOfWords : Function Ts → Type 0
BodyOfWords f = WordTs f.body

pub record Standing (s : TranslationState) : Type 0 where
  pub homes : AllNear s.homes
  pub functions : Each BodyOfWords s.functions

-- an action takes so many slots at most, and what it gives and leaves has words
pub record Goes {A : Type 0} (budget : ℕ) (V : A → Type 0) (s : TranslationState) (d : Translated A) : Type 0 where
  pub value : V (answer d)
  pub slots : (left d).frame.slots ≤ s.frame.slots + budget
  pub standing : Standing (left d)

pub bind : {A B : Type 0} {a b : ℕ} {V : A → Type 0} {W : B → Type 0} {s : TranslationState} {d : Translated A} {next : A → Translates B} → Goes a V s d →
    ((x : A) (t : TranslationState) → Standing t → t.frame.slots ≤ s.frame.slots + a → V x → Goes b W t (next x t)) → Goes (a + b) W s (after d next)
bind {d = drawn x t} h k =
    let l = h.slots in
    let g = k x t h.standing l h.value in
    let m = g.slots in
    record { value = g.value; slots = omega (arith, l, m); standing = g.standing }

pub given : {A : Type 0} {V : A → Type 0} (s : TranslationState) (x : A) → Standing s → V x → Goes 0 V s (give x s)
given s x st v = record { value = v; slots = omega arith; standing = st }

pub fits : {A : Type 0} {a b : ℕ} {V : A → Type 0} {s : TranslationState} {d : Translated A} → Goes a V s d → a ≤ b → Goes b V s d
fits h l = let k = h.slots in record { value = h.value; slots = omega (arith, k, l); standing = h.standing }

one_near : (b : Bool) (e : Home) (o : Option Home) (h : Home) → WordAccess e.access → ((k : Home) → o ≡ Some k → WordAccess k.access) →
    (if b then Some e else o) ≡ Some h → WordAccess h.access
one_near true e o h v f q = let same : e ≡ h = cc in subst (λ k. WordAccess k.access) same v
one_near false e o h v f q = f h q

named_near : (at : ℕ) (homes : List (ℕ × Home)) → AllNear homes → (h : Home) → looked_up at homes ≡ Some h → WordAccess h.access
named_near at [] st h e = cc
named_near at (entry ∷ rest) st h e = one_near (entry.0 == at) entry.1 (looked_up at rest) h st.0 (named_near at rest st.1) e

-- Actions.

pub draws : (s : TranslationState) → Standing s → Goes 0 (λ t. Unit {0}) s (fresh s)
draws s st = record { value = tt; slots = omega arith; standing = record { homes = st.homes; functions = st.functions } }

pub values_go : (m : Made) (s : TranslationState) → Standing s → WordMade m → Goes 0 WordTx s (value_of m s)
values_go (value x) s st h = given s x st h
values_go (done x) s st h = given s (After x (Const 0)) st (λ n. (h n, omega arith))
values_go (test c) s st h = bind (draws s st) λ i t st _ _. given t (After (truth_into i c) (Temp i)) st (let k = truth_words i c h in λ n. (k n, tt))

some_go : (w : Want) (ss : Stms) (m : Made) (s : TranslationState) → Standing s → WordStms ss → WordMade m → Goes 0 WordMade s (behind_some w ss m s)
some_go want.Value ss m s st h k = bind (values_go m s st k) λ x t st _ g. given t (value_behind ss x) st (λ n. (h n, g n))
some_go (want.Into i) ss m s st h k = given s (done_behind (want.Into i) ss m) st (followed_words ss (put_in i.0 m) h (put_words i.0 m k))
some_go want.Dropped ss m s st h k = given s (done_behind want.Dropped ss m) st (followed_words ss (dropped m) h (dropped_words m k))
some_go want.Test ss m s st h k = bind (values_go m s st k) λ x t st _ g. given t (value_behind ss x) st (λ n. (h n, g n))

pub behind_go : (w : Want) (ss : Stms) (m : Made) (s : TranslationState) → Standing s → WordStms ss → WordMade m → Goes 0 WordMade s (behind w ss m s)
behind_go w no_stms m s st h k = given s m st k
behind_go w (stm x ss) m s st h k = some_go w (stm x ss) m s st h k

-- statements that end in an operand
abbrev HeldWords : Held → Type 0
HeldWords h = WordStms h.before × WordOperand h.operand

keep_goes : (ss : Stms) (x : Tx) (s : TranslationState) → Standing s → WordStms ss → WordTx x → Goes 0 HeldWords s (keep ss x s)
keep_goes ss x s st h k =
    bind (draws s st) λ i t st _ _.
    given t (record { before = followed ss (Move i x); operand = Kept (record { 0 = i }) }) st (followed_words ss (Move i x) h (λ n. (tt, k n)), tt)

hold_goes : (direct : Bool) (ss : Stms) (x : Tx) (s : TranslationState) → Standing s → WordStms ss → WordTx x → Goes 0 HeldWords s (hold direct ss x s)
hold_goes direct ss (Const k) s st h g = given s (record { before = ss; operand = Number k }) st (h, g 0)
hold_goes true ss (Temp i) s st h g = given s (record { before = ss; operand = Kept (record { 0 = i }) }) st (h, tt)
hold_goes false ss (Temp i) s st h g = keep_goes ss (Temp i) s st h g
hold_goes direct ss x s st h g = keep_goes ss x s st h g

-- the values of fields, so many at most
abbrev pub HeldAllWords : ℕ → HeldAll → Type 0
HeldAllWords k all = WordStms all.before × WordOperands all.operands × length all.operands ≤ k

behind_operands : (xs : List Operand) (x : Operand) → WordOperands xs → WordOperand x → WordOperands (xs ++ x ∷ [])
behind_operands [] x h k = (k, tt)
behind_operands (y ∷ xs) x h k = (h.0, behind_operands xs x h.1 k)

pub hold_next_goes : (direct : Bool) (k : ℕ) (all : HeldAll) (x : Tx) (s : TranslationState) → Standing s → HeldAllWords k all → WordTx x →
    Goes 0 (HeldAllWords (k + 1)) s (hold_next direct all x s)
hold_next_goes direct k all x s st h g =
    bind (hold_goes direct all.before x s st h.0 g) λ one t st _ j.
    given t (record { before = one.before; operands = all.operands ++ one.operand ∷ [] }) st (
      j.0,
      behind_operands all.operands one.operand h.1 j.1,
      (let l = h.2 in let e = length-append all.operands (one.operand ∷ []) in omega (arith, l, e)),
    )

pub assign_goes : (p : Storage) (m : Made) (s : TranslationState) → Standing s → WordPlace p → WordMade m → Goes 0 WordTs s (assign p m s)
assign_goes (in_temp i) m s st h k = given s (put_in i m) st (put_words i m k)
assign_goes (at_address ss a) m s st h k = bind (values_go m s st k) λ x t st _ g. given t (store_at ss a x) st (store_words ss a x h.0 h.1 g)

abbrev AtWords : HeldAt → Type 0
AtWords h = WordStms h.before × WordHeld h.address

base_goes : (ss : Stms) (x : Tx) (address : Operand → HeldAddress) (s : TranslationState) → Standing s → WordStms ss → WordTx x →
    ((o : Operand) → WordOperand o → WordHeld (address o)) → Goes 0 AtWords s (hold_base ss x address s)
base_goes ss x address s st h k f =
    bind (hold_goes true ss x s st h k) λ one t st _ g. given t (record { before = one.before; address = address one.operand }) st (g.0, f one.operand g.1)

hold_address_goes : (ss : Stms) (a : Tx) (s : TranslationState) → Standing s → WordStms ss → WordTx a → Goes 0 AtWords s (hold_address ss a s)
hold_address_goes ss (tree.Binary o FrameAddress (Const k)) s st h g = given s (record { before = ss; address = InOwnFrame o k }) st (h, (g 0).1)
hold_address_goes ss (tree.Binary o x (Const k)) s st h g =
    base_goes ss x (λ p. Beside p o k) s st h (λ n. (g n).0) (λ p f. (f, (g 0).1))
hold_address_goes ss a s st h g = base_goes ss a (λ p. At p) s st h g (λ p f. f)

pub hold_place_goes : (p : Storage) (s : TranslationState) → Standing s → WordPlace p → Goes 0 (λ q. WordPlace (place_held q)) s (hold_place p s)
hold_place_goes (in_temp i) s st h = given s (held_in_temp i) st tt
hold_place_goes (at_address ss a) s st h =
    bind (hold_address_goes ss a s st h.0 h.1) λ one t st _ g. given t (held_at one.before one.address) st (g.0, held_words one.address g.1)

pub field_goes : (k : ℕ) (x : Tx) (s : TranslationState) → Standing s → 4 * k < 4294967296 → WordTx x → Goes 0 WordPlace s (field_place k x s)
field_goes k x s st l h =
    bind (hold_goes true no_stms x s st (λ n. tt) h) λ r t st _ g. given t (field_of k r.before (operand r.operand)) st (field_words k r.before r.operand l g.0 g.1)

pub element_goes : (direct : Bool) (x y : Tx) (s : TranslationState) → Standing s → WordTx x → WordTx y → Goes 0 WordPlace s (element_place direct x y s)
element_goes direct x y s st h k =
    bind (hold_goes direct no_stms x s st (λ n. tt) h) λ a t st _ g. bind (hold_goes true a.before y t st g.0 k) λ i u st _ j.
    given u (element_of i.before (operand a.operand) (operand i.operand)) st (element_words i.before a.operand i.operand j.0 g.1 j.1)

checked_goes : (direct : Bool) (x y : Tx) (s : TranslationState) → Standing s → WordTx x → WordTx y → Goes 0 WordMade s (checked_quotient direct x y s)
checked_goes direct x y s st h k =
    bind (hold_goes direct no_stms x s st (λ n. tt) h) λ l t st _ g. bind (hold_goes true l.before y t st g.0 k) λ r u st _ j.
    given u (quotient_of r.before (operand l.operand) (operand r.operand)) st (quotient_words r.before l.operand r.operand j.0 g.1 j.1)

by_number_goes : (direct : Bool) (x : Tx) (k : ℕ) (b : Bool) (s : TranslationState) → Standing s → WordTx x → WordTx (Const k) →
    Goes 0 WordMade s ((if b then checked_quotient direct x (Const k) else give (value (tree.Binary bin.Div x (Const k)))) s)
by_number_goes direct x k true s st h g = checked_goes direct x (Const k) s st h g
by_number_goes direct x k false s st h g = given s (value (tree.Binary bin.Div x (Const k))) st (λ n. (h n, g n))

quotient_goes : (direct : Bool) (x y : Tx) (s : TranslationState) → Standing s → WordTx x → WordTx y → Goes 0 WordMade s (quotient direct x y s)
quotient_goes direct x (Const k) s st h g = by_number_goes direct x k (k == 0 || k == minus_one) s st h g
quotient_goes direct x y s st h g = checked_goes direct x y s st h g

pub operation_goes : (o : Op) (of_strings direct : Bool) (x y : Tx) (s : TranslationState) → Standing s → WordTx x → WordTx y →
    Goes 0 WordMade s (operation o of_strings direct x y s)
operation_goes op.Plus of_strings direct x y s st h k = given s (value (tree.Binary bin.AddTrap x y)) st (λ n. (h n, k n))
operation_goes op.Minus of_strings direct x y s st h k = given s (value (tree.Binary bin.SubTrap x y)) st (λ n. (h n, k n))
operation_goes op.Times of_strings direct x y s st h k =
    bind (hold_goes direct no_stms x s st (λ n. tt) h) λ l t st _ g. bind (hold_goes true l.before y t st g.0 k) λ r u st _ j.
    bind (draws u st) λ p v st _ _. given v (product_of p r.before (operand l.operand) (operand r.operand)) st (product_words p r.before l.operand r.operand j.0 g.1 j.1)
operation_goes op.Divide of_strings direct x y s st h k = quotient_goes direct x y s st h k
operation_goes o of_strings direct x y s st h k = given s (test (comparison o of_strings x y)) st (comparison_words o of_strings x y h k)

pub count_goes : (i : Access) (x y : Tx) (turn : Ts) (s : TranslationState) → Standing s → WordAccess i → WordTx x → WordTx y → WordTs turn →
    Goes 0 WordTs s (count i x y turn s)
count_goes i x y turn s st a h k f =
    bind (hold_goes false no_stms x s st (λ n. tt) h) λ l t st _ g. bind (keep_goes l.before y t st g.0 k) λ r u st _ j.
    given u (count_of r.before i l.operand r.operand turn) st (count_words r.before i l.operand r.operand turn a g.1 j.1 j.0 f)

pub record_goes : (k : ℕ) (all : HeldAll) (s : TranslationState) → Standing s → 4 * k < 4294967296 → HeldAllWords k all → Goes 0 WordMade s (make_record all s)
record_goes k all s st l h =
    bind (draws s st) λ r t st _ _. given t (record_of r all) st (record_words r all (let m = h.2 in omega (arith, l, m)) h.0 h.1)

pub place_goes : (c : Within) (meaning : Option Means) (s : TranslationState) → Standing s → Goes 0 WordPlace s (variable_place c meaning s)
place_goes c None s st = given s nowhere st (λ n. tt, λ n. omega arith)
place_goes c (Some (means.Variable at)) s st =
    given s (home_place c (looked_up at s.homes)) st (home_words c (looked_up at s.homes) (named_near at s.homes st.homes))
place_goes c (Some other) s st = given s nowhere st (λ n. tt, λ n. omega arith)

pub call_goes : (c : Within) (meaning : Option Means) (xs : Txs) (s : TranslationState) → Standing s → WordTxs xs → Goes 0 WordTx s (call c meaning xs s)
call_goes c None xs s st h = given s no_value st (λ n. omega arith)
call_goes c (Some (means.Standard f)) xs s st h = given s (call_routine (routine_of f) xs) st (λ n. (tt, h n))
call_goes c (Some (means.Function at)) xs s st h = given s (call_declared c xs (looked_up at s.callees)) st (declared_words c xs (looked_up at s.callees) h)
call_goes c (Some other) xs s st h = given s no_value st (λ n. omega arith)

pub literal_goes : (bytes : List ℕ) (s : TranslationState) → Standing s → Goes 0 WordMade s (literal bytes s)
literal_goes bytes s st = record { value = λ n. tt; slots = omega arith; standing = record { homes = st.homes; functions = st.functions } }

pub closing_goes : (has_result : Bool) (m : Made) (s : TranslationState) → Standing s → WordMade m → Goes 0 WordTs s (closing has_result m s)
closing_goes true m s st h =
    bind (values_go m s st h) λ x t st _ g. given t (given_back x) st (λ n. given_back_holds _ _ _ _ (fine_parts ⊥ IsWord n) x (g n))
closing_goes false m s st h = given s (gives_nothing m) st (let k = dropped_words m h in λ n. (k n, (omega arith, tt)))

-- a variable is declared, in a slot or a temporary
pub declared_goes : (b : Bool) (level at : ℕ) (s : TranslationState) → Standing s → s.frame.slots < 1073741823 → Goes 1 WordAccess s (declare_variable b level at s)
declared_goes true level at s st l = record { value = l; slots = omega arith; standing = record { homes = (l, st.homes); functions = st.functions } }
declared_goes false level at s st l = record { value = tt; slots = omega arith; standing = record { homes = (tt, st.homes); functions = st.functions } }

pub declares_functions : (fs : FunDecs) (level : ℕ) (s : TranslationState) → Standing s → Goes 0 (λ x. Unit {0}) s (declare_functions level fs s)
declares_functions no_functions level s st = given s tt st tt
declares_functions (function f params result e rest) level s st =
    let t : TranslationState = record s { label = s.label + 1; callees = (at_of f, record { level = level; label = record { 0 = s.label } }) ∷ s.callees } in
    let h = declares_functions rest level t (record { homes = st.homes; functions = st.functions }) in
    record { value = tt; slots = h.slots; standing = h.standing }
