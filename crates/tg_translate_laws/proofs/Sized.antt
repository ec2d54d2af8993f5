-- The walk over a program's text for length, needs and depth of its trees: in a function of 32 levels at most each node of the
-- text pays 145 of length, 201 of needs and 8 of depth. What it pays more than its own is left for what its place adds.
use Rattle.std.proofs.Common.{◌≤◌, ◌+◌, ◌*◌, ℕ, Bool, true, false, Option, Some, None, [], ◌∷◌, ◌++◌, arith, length-append}
use Rattle.std.specs.Prelude.{◌==◌, ◌||◌, if◌then◌else◌, max}
use Rattle.tg_frame.specs.declared.accesses.Access.{Access}
use Rattle.tg_symbols.specs.Tables.{looked_up}
use Rattle.tg_syntax.specs.declared.trees.Op.{Op}
use Rattle.tg_syntax.specs.declared.trees.Op.TheVariants as op
use Rattle.tg_syntax.specs.Measures.{size, place_size, exps_size, inits_size, decs_size}
use Rattle.tg_syntax.specs.Tree as source
use Rattle.tg_syntax.specs.Tree.{Exp, Nil, Break, Int, Text, Read, Call, Neg, Binary, Make, Fill, Assign, If, When, While, For, Let, Seq, Simple}
use Rattle.tg_syntax.specs.Tree.{Field, Index, Exps, no_exps, exp, Inits, no_inits, init, Decs, no_decs, types, variable, functions}
use Rattle.tg_typecheck.specs.declared.notes.Means.{Means}
use Rattle.tg_typecheck.specs.declared.notes.Means.TheVariants as means
use Rattle.tg_tree.specs.declared.operators.Bin.{Bin}
use Rattle.tg_tree.specs.declared.operators.Bin.TheVariants as bin
use Rattle.tg_tree.specs.Tree as tree
use Rattle.tg_tree.specs.Tree.{Tx, Const, Temp, FrameAddress, After, Txs, no_txs, tx, Cond, Ts, Move, Stms, no_stms, stm}
use Rattle.tg_tree.specs.Forms.{nothing}
use Rattle.tg_tree.specs.Units.{Trees}
use Rattle.tg_tree.specs.Sizes.{statement_length, in_trees, statement_needs}
use Rattle.tg_tree.specs.glue.Lists.{join_txs}
use Rattle.tg_translate.specs.declared.homes.Within.{Within}
use Rattle.tg_translate.specs.declared.operands.Operand.TheVariants.{Number, Kept}
use Rattle.tg_translate.specs.declared.held.HeldAddress.TheVariants.{InOwnFrame, Beside, At}
use Rattle.tg_translate.specs.declared.wants.Want.{Want}
use Rattle.tg_translate.specs.declared.wants.Want.TheVariants as want
use Rattle.tg_translate.specs.mirror.States.{TranslationState, Translated, drawn, Translates, after, give, fresh}
use Rattle.tg_translate.specs.mirror.Wants.{Made, value, done, test, truth_into, value_of, put_in, dropped, test_of, as_statement, arms, deliver, followed}
use Rattle.tg_translate.specs.mirror.Wants.{behind, behind_some, value_behind, done_behind}
use Rattle.tg_translate.specs.mirror.Constructs.{Storage, in_temp, at_address, operand, Held, keep, hold, HeldAll, none_held, hold_next, own_place, read}
use Rattle.tg_translate.specs.mirror.Constructs.{store_at, want_for, assign, held_address, HeldAt, hold_base, hold_address, HeldPlace, held_in_temp, held_at}
use Rattle.tg_translate.specs.mirror.Constructs.{hold_place, read_held, place_held, field_of, field_place, element_of, element_place, record_of, make_record}
use Rattle.tg_translate.specs.mirror.Constructs.{product_of, product, quotient_of, checked_quotient, minus_one, quotient, comparison, operation, count_of}
use Rattle.tg_translate.specs.mirror.Constructs.{count, make_array, negation, repeat_while, in_body, in_test}
use Rattle.tg_translate.specs.mirror.Choices.{left_want, tested, chosen}
use Rattle.tg_translate.specs.mirror.Scopes.{Findings, no_value, nowhere, home_place, variable_place, field_number, compares_strings, routine_of}
use Rattle.tg_translate.specs.mirror.Scopes.{call_declared, call, declare_variable}
use Rattle.tg_translate.specs.mirror.Purity.{assigns_nothing, inits_assign_nothing}
use Rattle.tg_translate.specs.mirror.Updates.{begins_with}
use Rattle.tg_translate.specs.mirror.Returning.{given_back}
use Rattle.tg_translate.specs.mirror.Functions.{at_of, gives_nothing, closing, declare_functions}
use Rattle.tg_translate.specs.mirror.Translate.{connective, with_left, chosen_arm, choice, is_conjunction, assignment, declaration_of, Begun, expression}
use Rattle.tg_translate.specs.mirror.Translate.{behind_read, locate, values, fields, sequence, declarations, bodies}
use Rattle.tg_translate.specs.mirror.Constructs as constructs
use Rattle.tg_translate_laws.specs.Depths as depths
use Rattle.tg_translate_laws.proofs.Actions.{answer}
use Rattle.tg_translate_laws.proofs.Spreading.{tx_length, tx_needs, cond_length, cond_needs, ts_length, ts_needs, stms_length, stms_needs, txs_needs}
use Rattle.tg_translate_laws.proofs.Spreading.{tx_depth, txs_depth, cond_depth, ts_depth, stms_depth, less_ts, given_back_most}
use Rattle.tg_translate_laws.proofs.Sizing.{most_arguments}
use Rattle.tg_translate_laws.proofs.Sizing.{made_length, made_needs, made_depth, place_length, place_needs, place_depth, held_length, held_needs, followed_size}
use Rattle.tg_translate_laws.proofs.Sizing.{joined_size, put_size, dropped_size, test_size, statement_size, deliver_size, behind_size, tested_size}
use Rattle.tg_translate_laws.proofs.Sizing.{chosen_size, own_place_size, home_size, read_size, store_size, operand_size, read_held_size, field_size}
use Rattle.tg_translate_laws.proofs.Sizing.{element_size, record_size, routine_size, make_array_size, comparison_size, binary_size, product_size, divide_size}
use Rattle.tg_translate_laws.proofs.Sizing.{quotient_size, negation_size, while_size, count_size, declared_size}

-- What actions give, whatever state they begin in.

pub record Gives {A : Type 0} (V : A → Type 0) (d : Translated A) : Type 0 where
  pub value : V (answer d)

bind : {A B : Type 0} {V : A → Type 0} {W : B → Type 0} {d : Translated A} {next : A → Translates B} → Gives V d →
    ((a : A) (s : TranslationState) → V a → Gives W (next a s)) → Gives W (after d next)
bind {d = drawn a s} h k = k a s h.value

given : {A : Type 0} {V : A → Type 0} (s : TranslationState) (a : A) → V a → Gives V (give a s)
given s a v = record { value = v }

weaken : {A : Type 0} {V W : A → Type 0} {d : Translated A} → Gives V d → ((a : A) → V a → W a) → Gives W d
weaken {d = d} h k = record { value = k (answer d) h.value }

anything : {A : Type 0} (d : Translated A) → Gives (λ a. Unit {0}) d
anything d = record { value = tt }

-- What a text of so many nodes pays for.

abbrev pub Most : (length room depth most_length most_needs most_depth : ℕ) → Type 0
Most k r d l m n = (k ≤ l) × (r ≤ m) × (d ≤ n)

abbrev PaidTx : ℕ → Tx → Type 0
PaidTx n x = Most (tx_length x + 6) (tx_needs x + 2) (tx_depth x) (145 * n) (201 * n) (8 * n + 60)

abbrev PaidCond : ℕ → Cond → Type 0
PaidCond n c = Most (cond_length c) (cond_needs c) (cond_depth c) (145 * n) (201 * n + 6) (8 * n + 62)

abbrev PaidTs : ℕ → Ts → Type 0
PaidTs n s = Most (ts_length s + 4) (ts_needs s + 2) (ts_depth s) (145 * n) (201 * n) (8 * n + 61)

abbrev pub Paid : ℕ → Made → Type 0
Paid n m = Most (made_length m + 6) (made_needs m + 2) (made_depth m) (145 * n) (201 * n) (8 * n + 60)

abbrev pub SmallBody : ℕ → Ts → Type 0
SmallBody n s =
    Most (statement_length Trees s) (statement_needs in_trees s) (depths.ts_depth s) (145 * n + 12) (201 * n) (8 * n + 62)

abbrev PaidPlace : ℕ → Storage → Type 0
PaidPlace n p = Most (place_length p) (place_needs p) (place_depth p) (145 * n) (201 * n) (8 * n + 60)

abbrev PaidRead : ℕ → Tx → Type 0
PaidRead n x = Most (tx_length x) (tx_needs x) (tx_depth x) (145 * n + 1) (201 * n + 2) (8 * n + 62)

abbrev PaidTxs : ℕ → Txs → Txs → Type 0
PaidTxs n before xs =
    Most (most_arguments xs) (txs_needs xs) (txs_depth xs) (most_arguments before + 145 * n) (txs_needs before + 201 * n) (max (txs_depth before) (8 * n + 60))

abbrev PaidFields : ℕ → HeldAll → HeldAll → Type 0
PaidFields n before all =
    Most (held_length all) (held_needs all) (stms_depth all.before) (held_length before + 145 * n) (held_needs before + 201 * n)
    (max (stms_depth before.before) (8 * n + 60))

abbrev PaidStms : ℕ → Stms → Stms → Type 0
PaidStms n before ss =
    Most (stms_length ss) (stms_needs ss) (stms_depth ss) (stms_length before + 145 * n) (stms_needs before + 201 * n) (max (stms_depth before) (8 * n + 61))

abbrev PaidBegun : ℕ → Stms → Begun → Type 0
PaidBegun n before b =
    Most (stms_length b.before + made_length b.last) (stms_needs b.before + made_needs b.last) (max (stms_depth b.before) (made_depth b.last))
    (stms_length before + (145 * n + 2)) (stms_needs before + (201 * n + 2)) (max (stms_depth before) (8 * n + 61))

-- Values.

-- at most as long as what it is made of, and with no more needs
abbrev AsMade : Made → Tx → Type 0
AsMade m x = Most (tx_length x) (tx_needs x) (tx_depth x) (made_length m) (made_needs m) (made_depth m)

value_size : (m : Made) (s : TranslationState) → Gives (AsMade m) (value_of m s)
value_size (value x) s = given s x (omega arith, omega arith, omega arith)
value_size (done x) s = given s (After x (Const 0)) (omega arith, omega arith, omega arith)
value_size (test c) s = bind (anything (fresh s)) λ t s u. given s (After (truth_into t c) (Temp t)) (omega arith, omega arith, omega arith)

paid_value : (n : ℕ) (m : Made) (s : TranslationState) → Paid n m → Gives (PaidTx n) (value_of m s)
paid_value n m s h = weaken (value_size m s) λ x k. (omega (arith, h.0, k.0), omega (arith, h.1, k.1), omega (arith, h.2, k.2))

module _ (n : ℕ) {d : Translated Made} (h : Gives (Paid n) d) where
  of_value : Gives (PaidTx n) (after d value_of)
  of_value = bind h λ m s k. paid_value n m s k

  of_test : Gives (PaidCond n) (after d (λ m. give (test_of m)))
  of_test = bind h λ m s k. given s (test_of m) (let i = test_size m in (omega (arith, k.0, i.0), omega (arith, k.1, i.1), omega (arith, k.2, i.2)))

  of_arm : (w : Want) → Gives (PaidTs n) (after d (λ m. give (as_statement w m)))
  of_arm w = bind h λ m s k. given s (as_statement w m)
      (let i = statement_size w m in (omega (arith, k.0, i.0), omega (arith, k.1, i.1), omega (arith, k.2, i.2)))

  of_statement : Gives (PaidTs n) (after d (λ m. give (dropped m)))
  of_statement = bind h λ m s k. given s (dropped m) (let i = dropped_size m in (omega (arith, k.0, i.0), omega (arith, k.1, i.1), omega (arith, k.2, i.2)))

-- What is held is kept or a number.

abbrev IsHeld : (before : Stms) → Tx → Held → Type 0
IsHeld before x h =
    Most (stms_length h.before + 2 * tx_length (operand h.operand)) (stms_needs h.before + tx_needs (operand h.operand)) (stms_depth h.before)
    (stms_length before + (tx_length x + 2)) (stms_needs before + (tx_needs x + 1)) (max (stms_depth before) (tx_depth x + 1))

keep_size : (before : Stms) (x : Tx) (s : TranslationState) → Gives (IsHeld before x) (keep before x s)
keep_size before x s =
    bind (anything (fresh s)) λ t s u.
    given s (record { before = followed before (Move t x); operand = Kept (record { 0 = t }) })
    (let h = followed_size before (Move t x) in (omega (arith, h.0), omega (arith, h.1), omega (arith, h.2)))

hold_size : (direct : Bool) (before : Stms) (x : Tx) (s : TranslationState) → Gives (IsHeld before x) (hold direct before x s)
hold_size direct before (Const k) s = given s (record { before = before; operand = Number k }) (omega arith, omega arith, omega arith)
hold_size true before (Temp t) s = given s (record { before = before; operand = Kept (record { 0 = t }) }) (omega arith, omega arith, omega arith)
hold_size false before (Temp t) s = keep_size before (Temp t) s
hold_size direct before x s = keep_size before x s

paid_next : (n : ℕ) (direct : Bool) (all : HeldAll) (x : Tx) (s : TranslationState) → PaidTx n x → Gives (PaidFields (n + 1) all) (hold_next direct all x s)
paid_next n direct all x s h =
    bind (hold_size direct all.before x s) λ one s k.
    given s (record { before = one.before; operands = all.operands ++ one.operand ∷ [] })
    (let e = length-append all.operands (one.operand ∷ []) in (omega (arith, e, h.0, k.0), omega (arith, e, h.1, k.1), omega (arith, h.2, k.2)))

-- What an operator of two values adds to them.

abbrev Added : (length room : ℕ) (x y : Tx) → Made → Type 0
Added k r x y m = Most (made_length m) (made_needs m) (made_depth m) (tx_length x + (tx_length y + k)) (tx_needs x + (tx_needs y + r))
    (max (tx_depth x) (tx_depth y) + 7)

product_added : (direct : Bool) (x y : Tx) (s : TranslationState) → Gives (Added 88 52 x y) (product direct x y s)
product_added direct x y s =
    bind (hold_size direct no_stms x s) λ l s h. bind (hold_size true l.before y s) λ r s k. bind (anything (fresh s)) λ p s u.
    given s (product_of p r.before (operand l.operand) (operand r.operand))
    (let i = product_size p r.before l.operand r.operand in
    let a = operand_size l.operand in
    let b = operand_size r.operand in
    (omega (arith, i.0, h.0, k.0), omega (arith, i.1, h.1, k.1, a.1, b.1), omega (arith, i.2, h.2, k.2)))

checked_added : (direct : Bool) (x y : Tx) (s : TranslationState) → Gives (Added 88 52 x y) (checked_quotient direct x y s)
checked_added direct x y s =
    bind (hold_size direct no_stms x s) λ l s h. bind (hold_size true l.before y s) λ r s k.
    given s (quotient_of r.before (operand l.operand) (operand r.operand))
    (let i = quotient_size r.before l.operand r.operand in
    let a = operand_size l.operand in
    let b = operand_size r.operand in
    (omega (arith, i.0, h.0, k.0, b.0), omega (arith, i.1, h.1, k.1, a.1, b.1), omega (arith, i.2, h.2, k.2)))

by_number : (direct : Bool) (x : Tx) (k : ℕ) (b : Bool) (s : TranslationState) →
    Gives (Added 88 52 x (Const k)) ((if b then checked_quotient direct x (Const k) else give (value (tree.Binary bin.Div x (Const k)))) s)
by_number direct x k true s = checked_added direct x (Const k) s
by_number direct x k false s =
    given s (value (tree.Binary bin.Div x (Const k))) (let h = divide_size x (Const k) in (omega (arith, h.0), omega (arith, h.1), omega (arith, h.2)))

quotient_added : (direct : Bool) (x y : Tx) (s : TranslationState) → Gives (Added 88 52 x y) (quotient direct x y s)
quotient_added direct x (Const k) s = by_number direct x k (k == 0 || k == minus_one) s
quotient_added direct x y s = checked_added direct x y s

compared : (o : Op) (of_strings : Bool) (x y : Tx) (s : TranslationState) → Gives (Added 88 52 x y) (give (test (comparison o of_strings x y)) s)
compared o of_strings x y s =
    given s (test (comparison o of_strings x y)) (let h = comparison_size o of_strings x y in (omega (arith, h.0), omega (arith, h.1), omega (arith, h.2)))

operation_added : (o : Op) (of_strings direct : Bool) (x y : Tx) (s : TranslationState) → Gives (Added 88 52 x y) (operation o of_strings direct x y s)
operation_added op.Plus of_strings direct x y s =
    given s (value (tree.Binary bin.AddTrap x y)) (let h = binary_size x y in (omega (arith, h.0), omega arith, omega arith))
operation_added op.Minus of_strings direct x y s =
    given s (value (tree.Binary bin.SubTrap x y)) (let h = binary_size x y in (omega (arith, h.1), omega arith, omega arith))
operation_added op.Times of_strings direct x y s = product_added direct x y s
operation_added op.Divide of_strings direct x y s = quotient_added direct x y s
operation_added o of_strings direct x y s = compared o of_strings x y s

-- Places, assignments, and what stands after statements.

paid_field : (n k : ℕ) (x : Tx) (s : TranslationState) → PaidRead n x → Gives (PaidPlace (1 + n)) (field_place k x s)
paid_field n k x s h =
    bind (hold_size true no_stms x s) λ r s i.
    given s (field_of k r.before (operand r.operand))
    (let j = field_size k r.before r.operand in
    let a = operand_size r.operand in
    (omega (arith, h.0, j.0, i.0), omega (arith, h.1, j.1, i.1, a.1), omega (arith, h.2, j.2, i.2)))

paid_element : (n m : ℕ) (direct : Bool) (x y : Tx) (s : TranslationState) → PaidRead n x → PaidTx m y →
    Gives (PaidPlace (1 + n + m)) (element_place direct x y s)
paid_element n m direct x y s h k =
    bind (hold_size direct no_stms x s) λ a s i. bind (hold_size true a.before y s) λ b s j.
    given s (element_of b.before (operand a.operand) (operand b.operand))
    (let e = element_size b.before a.operand b.operand in
    let p = operand_size a.operand in
    let q = operand_size b.operand in
    (omega (arith, h.0, k.0, e.0, i.0, j.0), omega (arith, h.1, k.1, e.1, i.1, j.1, p.1, q.1), omega (arith, h.2, k.2, e.2, i.2, j.2)))

assign_size : (p : Storage) (m : Made) (s : TranslationState) →
    Gives (λ x. Most (ts_length x) (ts_needs x) (ts_depth x) (place_length p + (made_length m + 3)) (place_needs p + made_needs m)
    (max (place_depth p) (made_depth m) + 2))
    (assign p m s)
assign_size (in_temp t) m s = given s (put_in t m) (let h = put_size t m in (omega (arith, h.0), omega (arith, h.1), omega (arith, h.2)))
assign_size (at_address ss a) m s =
    bind (value_size m s) λ x s h. given s (store_at ss a x)
    (let k = store_size ss a x in (omega (arith, h.0, k.0), omega (arith, h.1, k.1), omega (arith, h.2, k.2)))

-- A place that is kept is hardly longer, and its read is short.

abbrev HeldAs : Stms → Tx → HeldAt → Type 0
HeldAs before x h =
    Most (stms_length h.before + tx_length (held_address h.address)) (stms_needs h.before + tx_needs (held_address h.address))
    (max (stms_depth h.before) (tx_depth (held_address h.address))) (stms_length before + (tx_length x + 2)) (stms_needs before + (tx_needs x + 1))
    (max (stms_depth before) (tx_depth x) + 1)

beside_size : (before : Stms) (x : Tx) (o : Bin) (k : ℕ) (s : TranslationState) →
    Gives (HeldAs before (tree.Binary o x (Const k))) (hold_base before x (λ p. Beside p o k) s)
beside_size before x o k s =
    bind (hold_size true before x s) λ h s i.
    given s (record { before = h.before; address = Beside h.operand o k })
    (let p = operand_size h.operand in (omega (arith, i.0), omega (arith, i.1), omega (arith, i.2, p.2)))

at_size : (before : Stms) (x : Tx) (s : TranslationState) → Gives (HeldAs before x) (hold_base before x (λ p. At p) s)
at_size before x s =
    bind (hold_size true before x s) λ h s i.
    given s (record { before = h.before; address = At h.operand })
    (let p = operand_size h.operand in (omega (arith, i.0), omega (arith, i.1), omega (arith, i.2, p.2)))

hold_address_size : (before : Stms) (x : Tx) (s : TranslationState) → Gives (HeldAs before x) (hold_address before x s)
hold_address_size before (tree.Binary o FrameAddress (Const k)) s =
    given s (record { before = before; address = InOwnFrame o k }) (omega arith, omega arith, omega arith)
hold_address_size before (tree.Binary o x (Const k)) s = beside_size before x o k s
hold_address_size before x s = at_size before x s

hold_place_size : (p : Storage) (s : TranslationState) →
    Gives (λ q. Most (place_length (place_held q)) (place_needs (place_held q)) (place_depth (place_held q)) (place_length p + 2) (place_needs p + 1)
    (place_depth p + 1))
    (hold_place p s)
hold_place_size (in_temp t) s = given s (held_in_temp t) (omega arith, omega arith, omega arith)
hold_place_size (at_address ss a) s =
    bind (hold_address_size ss a s) λ h s i. given s (held_at h.before h.address) (omega (arith, i.0), omega (arith, i.1), omega (arith, i.2))

short_read : (q : HeldPlace) → PaidTx 1 (read_held q)
short_read q = let h = read_held_size q in (omega (arith, h.0), omega (arith, h.1), omega (arith, h.2))

paid_assignment : (n m : ℕ) (reads_first : Bool) (p : Storage) (e : Want → Translates Made) (behind : Tx → Want → Translates Made) (s : TranslationState) →
    PaidPlace n p → ((w : Want) (t : TranslationState) → Gives (Paid m) (e w t)) →
    ((x : Tx) (w : Want) (t : TranslationState) → PaidTx 1 x → Gives (Paid m) (behind x w t)) →
    Gives (λ y. Paid (1 + n + m) (done y)) (assignment reads_first p e behind s)
paid_assignment n m true p e behind s h f g =
    bind (hold_place_size p s) λ q s j. bind (g (read_held q) (want_for (place_held q)) s (short_read q)) λ x s k.
    weaken (assign_size (place_held q) x s) λ y i. (omega (arith, h.0, j.0, k.0, i.0), omega (arith, h.1, j.1, k.1, i.1), omega (arith, h.2, j.2, k.2, i.2))
paid_assignment n m false p e behind s h f g =
    bind (f (want_for p) s) λ x s k.
    weaken (assign_size p x s) λ y i. (omega (arith, h.0, k.0, i.0), omega (arith, h.1, k.1, i.1), omega (arith, h.2, k.2, i.2))

paid_declaration : (n : ℕ) (escapes : ℕ → Bool) (level at : ℕ) (e : Want → Translates Made) (s : TranslationState) →
    ((w : Want) (t : TranslationState) → Gives (Paid n) (e w t)) → Gives (PaidTs (1 + n)) (declaration_of escapes level at e s)
paid_declaration n escapes level at e s f =
    bind (anything (declare_variable (escapes at) level at s)) λ home s u. bind (f (want_for (own_place home)) s) λ m s h.
    weaken (assign_size (own_place home) m s) λ x k.
    let p = own_place_size home in (omega (arith, h.0, k.0, p.0), omega (arith, h.1, k.1, p.1), omega (arith, h.2, k.2, p.2))

abbrev BehindOf : Stms → Made → Made → Type 0
BehindOf ss m x =
    Most (made_length x) (made_needs x) (made_depth x) (stms_length ss + (made_length m + 4)) (stms_needs ss + (made_needs m + 2))
    (max (stms_depth ss) (made_depth m) + 4)

behind_value : (ss : Stms) (m : Made) (s : TranslationState) → Gives (BehindOf ss m) (after (value_of m s) (λ x. give (value_behind ss x)))
behind_value ss m s = bind (value_size m s) λ x s h. given s (value_behind ss x) (omega (arith, h.0), omega (arith, h.1), omega (arith, h.2))

behind_statement : (w : Want) (ss : Stms) (m : Made) (s : TranslationState) → Gives (BehindOf ss m) (give (done_behind w ss m) s)
behind_statement w ss m s = given s (done_behind w ss m) (behind_size w ss m)

some_behind : (w : Want) (ss : Stms) (m : Made) (s : TranslationState) → Gives (BehindOf ss m) (behind_some w ss m s)
some_behind want.Value ss m s = behind_value ss m s
some_behind (want.Into t) ss m s = behind_statement (want.Into t) ss m s
some_behind want.Dropped ss m s = behind_statement want.Dropped ss m s
some_behind want.Test ss m s = behind_value ss m s

any_behind : (w : Want) (ss : Stms) (m : Made) (s : TranslationState) → Gives (BehindOf ss m) (behind w ss m s)
any_behind w no_stms m s = given s m (omega arith, omega arith, omega arith)
any_behind w (stm x ss) m s = some_behind w (stm x ss) m s

paid_behind : (n : ℕ) (w : Want) (b : Begun) (s : TranslationState) →
    PaidBegun n no_stms b →
    Gives (Paid (1 + n)) (behind w b.before b.last s)
paid_behind n w b s h = weaken (any_behind w b.before b.last s) λ x k. (omega (arith, h.0, k.0), omega (arith, h.1, k.1), omega (arith, h.2, k.2))

-- Names.

paid_variable : (c : Within) (meaning : Option Means) (s : TranslationState) → c.level ≤ 32 → Gives (PaidPlace 1) (variable_place c meaning s)
paid_variable c None s l = given s nowhere (omega arith, omega arith, omega arith)
paid_variable c (Some (means.Variable at)) s l =
    given s (home_place c (looked_up at s.homes)) (let h = home_size c (looked_up at s.homes) l in (omega (arith, h.0), omega (arith, h.1), omega (arith, h.2)))
paid_variable c (Some other) s l = given s nowhere (omega arith, omega arith, omega arith)

paid_call : (n : ℕ) (c : Within) (meaning : Option Means) (xs : Txs) (s : TranslationState) → c.level ≤ 32 → PaidTxs n no_txs xs →
    Gives (PaidTx (1 + n)) (call c meaning xs s)
paid_call n c None xs s l h = given s no_value (omega arith, omega arith, omega arith)
paid_call n c (Some (means.Standard f)) xs s l h =
    given s (constructs.call_routine (routine_of f) xs)
    (let k = routine_size (routine_of f) xs in (omega (arith, h.0, k.0), omega (arith, h.1, k.1), omega (arith, h.2, k.2)))
paid_call n c (Some (means.Function at)) xs s l h =
    given s (call_declared c xs (looked_up at s.callees))
    (let k = declared_size c xs (looked_up at s.callees) l in (omega (arith, h.0, k.0), omega (arith, h.1, k.1), omega (arith, h.2, k.2)))
paid_call n c (Some other) xs s l h = given s no_value (omega arith, omega arith, omega arith)

-- Operators: the left side is made, and the right one is translated for what it is to be.
module _ (n m : ℕ) (right : Want → Translates Made) (f : (w : Want) (t : TranslationState) → Gives (Paid m) (right w t)) where
  into_paid : (o : Op) (w : Want) (c : Cond) (s : TranslationState) → PaidCond n c →
      Gives (Paid (1 + n + m)) (after (arms w s) (λ a t. after (right a t) (λ x. give (deliver w a (chosen o a c x)))))
  into_paid o w c s h =
      bind (anything (arms w s)) λ a s u. bind (f a s) λ x s k.
      given s (deliver w a (chosen o a c x))
      (let i = chosen_size o a c x in
      let j = deliver_size w a (chosen o a c x) in
      (omega (arith, h.0, k.0, i.0, j.0), omega (arith, h.1, k.1, i.1, j.1), omega (arith, h.2, k.2, i.2, j.2)))

  connective_paid : (o : Op) (w : Want) (c : Cond) (s : TranslationState) → PaidCond n c → Gives (Paid (1 + n + m)) (connective o w c right s)
  connective_paid o want.Test c s h =
      bind (f want.Test s) λ x s k. given s (tested o c x)
      (let i = tested_size o c x in (omega (arith, h.0, k.0, i.0), omega (arith, h.1, k.1, i.1), omega (arith, h.2, k.2, i.2)))
  connective_paid o want.Value c s h = into_paid o want.Value c s h
  connective_paid o (want.Into t) c s h = into_paid o (want.Into t) c s h
  connective_paid o want.Dropped c s h = into_paid o want.Dropped c s h

  operator_paid : (o : Op) (of_strings direct : Bool) (l : Made) (s : TranslationState) → Paid n l →
      Gives (Paid (1 + n + m)) (after (value_of l s) (λ x t. after (after (right want.Value t) value_of) (λ y. operation o of_strings direct x y)))
  operator_paid o of_strings direct l s h =
      bind (paid_value n l s h) λ x s i. bind (of_value _ (f want.Value s)) λ y s j. weaken (operation_added o of_strings direct x y s) λ z k.
      (omega (arith, i.0, j.0, k.0), omega (arith, i.1, j.1, k.1), omega (arith, i.2, j.2, k.2))

  left_condition : (l : Made) → Paid n l → PaidCond n (test_of l)
  left_condition l h = let i = test_size l in (omega (arith, h.0, i.0), omega (arith, h.1, i.1), omega (arith, h.2, i.2))

  left_paid : (o : Op) (meaning : Option Means) (direct : Bool) (w : Want) (l : Made) (s : TranslationState) → Paid n l →
      Gives (Paid (1 + n + m)) (with_left o meaning direct w l right s)
  left_paid op.And meaning direct w l s h = connective_paid op.And w (test_of l) s (left_condition l h)
  left_paid op.Or meaning direct w l s h = connective_paid op.Or w (test_of l) s (left_condition l h)
  left_paid o meaning direct w l s h = operator_paid o (compares_strings meaning) direct l s h

-- Choices, of two arms that are translated for what they are to be.
module _ (n m k : ℕ) (this other : Want → Translates Made) (f : (w : Want) (t : TranslationState) → Gives (Paid m) (this w t))
    (g : (w : Want) (t : TranslationState) → Gives (Paid k) (other w t)) where
  arms_paid : (w : Want) (c : Cond) (s : TranslationState) → PaidCond n c → Gives (Paid (1 + n + m + k)) (chosen_arm w c this other s)
  arms_paid w c s h =
      bind (anything (arms w s)) λ v s u. bind (of_arm m (f v s) v) λ p s i. bind (of_arm k (g v s) v) λ q s j.
      given s (deliver w v (tree.If c p q))
      (let l = deliver_size w v (tree.If c p q) in (omega (arith, h.0, i.0, j.0, l.0), omega (arith, h.1, i.1, j.1, l.1), omega (arith, h.2, i.2, j.2, l.2)))

  choice_paid : (conjunction : Bool) (w : Want) (c : Cond) (s : TranslationState) → PaidCond n c →
      Gives (Paid (1 + n + m + k)) (choice conjunction w c this other s)
  choice_paid true w c s h = weaken (connective_paid n m this f op.And w c s h) λ x i. (omega (arith, i.0), omega (arith, i.1), omega (arith, i.2))
  choice_paid false w c s h = arms_paid w c s h

paid_read : (n : ℕ) (p : Storage) → PaidPlace n p → PaidRead n (read p)
paid_read n p h = let k = read_size p in (omega (arith, h.0, k.0), omega (arith, h.1, k.1), omega (arith, h.2, k.2))

paid_count : (n m k : ℕ) (home : Access) (x y : Tx) (turn : Ts) (s : TranslationState) → PaidTx n x → PaidTx m y → PaidTs k turn →
    Gives (λ z. Most (ts_length z + 8) (ts_needs z + 4) (ts_depth z + 2) (145 * (1 + n + m + k)) (201 * (1 + n + m + k)) (8 * (1 + n + m + k) + 60))
    (count home x y turn s)
paid_count n m k home x y turn s h i j =
    bind (hold_size false no_stms x s) λ l s a. bind (keep_size l.before y s) λ r s b.
    given s (count_of r.before home l.operand r.operand turn)
    (let e = count_size r.before home l.operand r.operand turn in
    let p = operand_size l.operand in
    let q = operand_size r.operand in (
      omega (arith, h.0, i.0, j.0, e.0, a.0, b.0, p.0),
      omega (arith, h.1, i.1, j.1, e.1, a.1, b.1, p.1, q.1),
      omega (arith, h.0, h.2, i.2, j.2, e.2, a.2, b.2),
    ))

module _ (findings : Findings) where
  mutual
    walk : (e : Exp) (w : Want) (c : Within) (s : TranslationState) → c.level ≤ 32 → Gives (Paid (size e)) (expression findings e w c s)
    walk (Nil _) w c s l = given s (value (Const 0)) (omega arith, omega arith, omega arith)
    walk (Int _ k) w c s l = given s (value (Const k)) (omega arith, omega arith, omega arith)
    walk (Break _) w c s l = given s (done (tree.Break c.leave)) (omega arith, omega arith, omega arith)
    walk (Text _ bytes) w c s l = record { value = (omega arith, omega arith, omega arith) }
    walk (Read _ v) w c s l =
        bind (walk_place v c s l) λ p s h. given s (value (read p))
        (let k = paid_read (place_size v) p h in (omega (arith, k.0), omega (arith, k.1), omega (arith, k.2)))
    walk (Call _ f args) w c s l =
        bind (walk_values args no_txs c s l) λ xs s h. bind (paid_call (exps_size args) c (findings.meaning (at_of f)) xs s l h) λ x s k.
        given s (value x) k
    walk (Neg _ x) w c s l =
        bind (of_value _ (walk x want.Value c s l)) λ y s h.
        given s (value (negation y)) (let k = negation_size y in (omega (arith, h.0, k.0), omega (arith, h.1, k.1), omega (arith, h.2, k.2)))
    walk (Binary _ o at x y) w c s l =
        bind (walk x (left_want o) c s l) λ left s h.
        left_paid (size x) (size y) (λ v. expression findings y v c) (λ v t. walk y v c t l) o (findings.meaning at) (assigns_nothing y) w left s h
    walk (Make _ _ inits) w c s l =
        bind (walk_fields inits (inits_assign_nothing inits) none_held c s l) λ all s h. bind (anything (fresh s)) λ r s u.
        given s (record_of r all) (let k = record_size r all in (omega (arith, h.0, k.0), omega (arith, h.1, k.1), omega (arith, h.2, k.2)))
    walk (Fill _ _ x y) w c s l =
        bind (of_value _ (walk x want.Value c s l)) λ a s h. bind (of_value _ (walk y want.Value c s l)) λ b s k.
        given s (value (make_array a b))
        (let i = make_array_size a b in (omega (arith, h.0, k.0, i.0), omega (arith, h.1, k.1, i.1), omega (arith, h.2, k.2, i.2)))
    walk (Assign _ v x) w c s l =
        bind (walk_place v c s l) λ p s h.
        bind (paid_assignment (place_size v) (size x) (begins_with findings.meaning x v) p (λ v. expression findings x v c)
        (λ r v. behind_read findings x r v c) s h (λ v t. walk x v c t l) (λ r v t k. walk_behind x r v c t l k)) λ y s i.
        given s (done y) i
    walk (If _ d x y) w c s l =
        bind (of_test _ (walk d want.Test c s l)) λ a s h.
        choice_paid (size d) (size x) (size y) (λ v. expression findings x v c) (λ v. expression findings y v c) (λ v t. walk x v c t l)
        (λ v t. walk y v c t l) (is_conjunction w y) w a s h
    walk (When _ d x) w c s l =
        bind (of_test _ (walk d want.Test c s l)) λ a s h. bind (of_statement _ (walk x want.Dropped c s l)) λ y s k.
        given s (done (tree.If a y nothing)) (omega (arith, h.0, k.0), omega (arith, h.1, k.1), omega (arith, h.2, k.2))
    walk (While _ d x) w c s l =
        bind (of_test _ (walk d want.Test (in_test c) s l)) λ a s h. bind (of_statement _ (walk x want.Dropped (in_body c) s l)) λ y s k.
        given s (done (repeat_while a y)) (let i = while_size a y in (omega (arith, h.0, k.0, i.0), omega (arith, h.1, k.1, i.1), omega (arith, h.2, k.2, i.2)))
    walk (For _ i low high a) w c s l =
        bind (of_value _ (walk low want.Value c s l)) λ x s h. bind (of_value _ (walk high want.Value c s l)) λ y s k.
        bind (anything (declare_variable (findings.escapes (at_of i)) c.level (at_of i) s)) λ home s u.
        bind (of_statement _ (walk a want.Dropped (in_body c) s l)) λ turn s g.
        bind (paid_count (size low) (size high) (size a) home x y turn s h k g) λ z s j.
        given s (done z) (omega (arith, j.0), omega (arith, j.1), omega (arith, j.2))
    walk (Let _ ds es) w c s l =
        bind (walk_decs ds no_stms c s l) λ before s h. bind (walk_sequence es w before c s l) λ b s k.
        weaken (paid_behind (decs_size ds + exps_size es) w b s (omega (arith, h.0, k.0), omega (arith, h.1, k.1), omega (arith, h.2, k.2))) λ m i.
        (omega (arith, i.0), omega (arith, i.1), omega (arith, i.2))
    walk (Seq _ es) w c s l =
        bind (walk_sequence es w no_stms c s l) λ b s k. paid_behind (exps_size es) w b s (omega (arith, k.0), omega (arith, k.1), omega (arith, k.2))

    walk_behind : (e : Exp) (x : Tx) (w : Want) (c : Within) (s : TranslationState) → c.level ≤ 32 → PaidTx 1 x →
        Gives (Paid (size e)) (behind_read findings e x w c s)
    walk_behind (Binary _ o at a y) x w c s l h =
        bind (walk_behind a x (left_want o) c s l h) λ left s k.
        left_paid (size a) (size y) (λ v. expression findings y v c) (λ v t. walk y v c t l) o (findings.meaning at) (assigns_nothing y) w left s k
    walk_behind e x w c s l h = given s (value x) (omega (arith, h.0), omega (arith, h.1), omega (arith, h.2))

    walk_place : (v : source.LValue) (c : Within) (s : TranslationState) → c.level ≤ 32 → Gives (PaidPlace (place_size v)) (locate findings v c s)
    walk_place (Simple x) c s l = paid_variable c (findings.meaning (at_of x)) s l
    walk_place (Field v f) c s l =
        bind (walk_place v c s l) λ p s h. paid_field (place_size v) (field_number (findings.meaning (at_of f))) (read p) s (paid_read (place_size v) p h)
    walk_place (Index v e) c s l =
        bind (walk_place v c s l) λ p s h. bind (of_value _ (walk e want.Value c s l)) λ y s k.
        paid_element (place_size v) (size e) (assigns_nothing e) (read p) y s (paid_read (place_size v) p h) k

    walk_values : (es : Exps) (before : Txs) (c : Within) (s : TranslationState) → c.level ≤ 32 →
        Gives (PaidTxs (exps_size es) before) (values findings es before c s)
    walk_values no_exps before c s l = given s before (omega arith, omega arith, omega arith)
    walk_values (exp e rest) before c s l =
        bind (of_value _ (walk e want.Value c s l)) λ x s h. weaken (walk_values rest (join_txs before (tx x no_txs)) c s l) λ xs k.
        let j = joined_size before x in (omega (arith, h.0, k.0, j.0), omega (arith, h.1, k.1, j.1), omega (arith, h.2, k.2, j.2))

    walk_fields : (is : Inits) (direct : Bool) (all : HeldAll) (c : Within) (s : TranslationState) → c.level ≤ 32 →
        Gives (PaidFields (inits_size is) all) (fields findings is direct all c s)
    walk_fields no_inits direct all c s l = given s all (omega arith, omega arith, omega arith)
    walk_fields (init _ e rest) direct all c s l =
        bind (of_value _ (walk e want.Value c s l)) λ x s h. bind (paid_next (size e) direct all x s h) λ next s g.
        weaken (walk_fields rest direct next c s l) λ end k. (omega (arith, g.0, k.0), omega (arith, g.1, k.1), omega (arith, g.2, k.2))

    walk_sequence : (es : Exps) (w : Want) (before : Stms) (c : Within) (s : TranslationState) → c.level ≤ 32 →
        Gives (PaidBegun (exps_size es) before) (sequence findings es w before c s)
    walk_sequence no_exps w before c s l = given s (record { before = before; last = value (Const 0) }) (omega arith, omega arith, omega arith)
    walk_sequence (exp e no_exps) w before c s l =
        bind (walk e w c s l) λ m s h. given s (record { before = before; last = m }) (omega (arith, h.0), omega (arith, h.1), omega (arith, h.2))
    walk_sequence (exp e (exp f rest)) w before c s l =
        bind (of_statement _ (walk e want.Dropped c s l)) λ x s h. weaken (walk_sequence (exp f rest) w (followed before x) c s l) λ b k.
        let j = followed_size before x in (omega (arith, h.0, k.0, j.0), omega (arith, h.1, k.1, j.1), omega (arith, h.2, k.2, j.2))

    walk_decs : (ds : Decs) (before : Stms) (c : Within) (s : TranslationState) → c.level ≤ 32 →
        Gives (PaidStms (decs_size ds) before) (declarations findings ds before c s)
    walk_decs no_decs before c s l = given s before (omega arith, omega arith, omega arith)
    walk_decs (types ts rest) before c s l =
        weaken (walk_decs rest before c s l) λ ss h. (omega (arith, h.0), omega (arith, h.1), omega (arith, h.2))
    walk_decs (variable x _ e rest) before c s l =
        bind (paid_declaration (size e) findings.escapes c.level (at_of x) (λ v. expression findings e v c) s (λ v t. walk e v c t l)) λ y s h.
        weaken (walk_decs rest (followed before y) c s l) λ ss k.
        let j = followed_size before y in (omega (arith, h.0, k.0, j.0), omega (arith, h.1, k.1, j.1), omega (arith, h.2, k.2, j.2))
    walk_decs (functions fs rest) before c s l =
        bind (anything (declare_functions c.level fs s)) λ x t u. bind (anything (bodies findings fs s.label c t)) λ y v i.
        weaken (walk_decs rest before c v l) λ ss h. (omega (arith, h.0), omega (arith, h.1), omega (arith, h.2))

  -- a function's body gives back what it is
  pub body_size : (e : Exp) (w : Want) (has_result : Bool) (c : Within) (s : TranslationState) → c.level ≤ 32 →
      Gives (SmallBody (size e)) (after (expression findings e w c s) (closing has_result))
  body_size e w true c s l =
      bind (walk e w c s l) λ m s h. bind (value_size m s) λ x s k.
      given s (given_back x)
      (let g = given_back_most x in (omega (arith, g.0, h.0, k.0), omega (arith, g.1, h.1, k.1), omega (arith, g.2, h.2, k.2)))
  body_size e w false c s l =
      bind (walk e w c s l) λ m s h. given s (gives_nothing m)
      (let k = dropped_size m in
      let g = less_ts (dropped m) in
      (omega (arith, g.0, h.0, k.0), omega (arith, g.1, h.1, k.1), omega (arith, g.2, h.2, k.2)))
