-- What each part of a text pays for: each node 90 of length and 44 of needs, and each level that is
-- crossed 4 and 6. What a node pays more than its own is left for what its place adds.
use Rattle.std.proofs.Common.{◌≡◌, ◌≤◌, ◌+◌, ◌*◌, ◌==◌, ℕ, zero, suc, Bool, true, false, Option, Some, None, List, [], ◌∷◌, ◌++◌, arith}
use Rattle.std.proofs.Common.{length-append, append-nil, refl, sym, ap, ◌∙◌, subst}
use Rattle.std.specs.Prelude.{◌||◌, ◌-◌, if◌then◌else◌}
use Rattle.tg_frame.specs.declared.accesses.Access.{Access}
use Rattle.tg_frame.specs.declared.accesses.Access.TheVariants.{InTemp, InFrame}
use Rattle.tg_symbols.specs.Tables.{looked_up}
use Rattle.tg_syntax.specs.declared.trees.Op.{Op}
use Rattle.tg_syntax.specs.declared.trees.Op.TheVariants as op
use Rattle.tg_syntax.specs.Functions.{Measures}
use Rattle.tg_typecheck.specs.declared.notes.Means.{Means}
use Rattle.tg_typecheck.specs.declared.notes.Means.TheVariants as means
use Rattle.tg_tree.specs.declared.operators.Bin.{Bin}
use Rattle.tg_tree.specs.declared.operators.Bin.TheVariants as bin
use Rattle.tg_tree.specs.Tree as tree
use Rattle.tg_tree.specs.Tree.{Tx, Const, Temp, FrameAddress, After, Txs, no_txs, Cond, Ts, Move, Stms, no_stms, stm}
use Rattle.tg_tree.specs.Shapes.{are_flat}
use Rattle.tg_translate.specs.declared.homes.Home.{Home}
use Rattle.tg_translate.specs.declared.homes.Callee.{Callee}
use Rattle.tg_translate.specs.declared.homes.Within.{Within}
use Rattle.tg_translate.specs.declared.operands.Operand.TheVariants.{Number, Kept}
use Rattle.tg_translate.specs.declared.held.HeldAddress.TheVariants.{InOwnFrame, Beside, At}
use Rattle.tg_translate.specs.declared.wants.Want.{Want}
use Rattle.tg_translate.specs.declared.wants.Want.TheVariants as want
use Rattle.tg_translate.specs.mirror.States.{TranslationState, Translated, Translates, after, give}
use Rattle.tg_translate.specs.mirror.Wants.{Made, value, done, test, truth_into, value_of, put_in, dropped, test_of, as_statement, arms, deliver, followed}
use Rattle.tg_translate.specs.mirror.Wants.{behind, behind_some, value_behind, done_behind}
use Rattle.tg_translate.specs.mirror.Constructs as constructs
use Rattle.tg_translate.specs.mirror.Constructs.{Storage, in_temp, at_address, operand, Held, keep, hold, HeldAll, hold_next, own_place, read, store_at}
use Rattle.tg_translate.specs.mirror.Constructs.{want_for, assign, held_address, HeldAt, hold_base, hold_address, HeldPlace, held_in_temp, held_at}
use Rattle.tg_translate.specs.mirror.Constructs.{hold_place, read_held, place_held, field_of, field_place, element_of, element_place, product_of, product}
use Rattle.tg_translate.specs.mirror.Constructs.{quotient_of, checked_quotient, minus_one, quotient, comparison, operation, count_of, count, place_in}
use Rattle.tg_translate.specs.mirror.Constructs.{frame_out}
use Rattle.tg_translate.specs.mirror.Choices.{tested, chosen}
use Rattle.tg_translate.specs.mirror.Scopes.{no_value, nowhere, frame_at, home_place, variable_place, compares_strings, routine_of, call_declared, call}
use Rattle.tg_translate.specs.mirror.Returning.{given_back}
use Rattle.tg_translate.specs.mirror.Functions.{gives_nothing, closing}
use Rattle.tg_translate.specs.mirror.Translate.{connective, with_left, chosen_arm, choice, assignment, declaration_of, Begun}
use Rattle.tg_translate_laws.proofs.Spreading.{tx_length, tx_needs, cond_length, cond_needs, ts_length, ts_needs, stms_length, stms_needs, txs_needs}
use Rattle.tg_translate_laws.proofs.Spreading.{less_ts, given_back_most}
use Rattle.tg_translate_laws.proofs.Sizing.{most_arguments, made_length, made_needs, place_length, place_needs, held_length, held_needs, followed_size}
use Rattle.tg_translate_laws.proofs.Sizing.{put_size, dropped_size, test_size, statement_size, deliver_size, behind_size, tested_size, chosen_size}
use Rattle.tg_translate_laws.proofs.Sizing.{own_place_size, read_size, store_size, operand_size, read_held_size, field_size, element_size, routine_size}
use Rattle.tg_translate_laws.proofs.Sizing.{comparison_size, binary_size, product_size, divide_size, quotient_size, count_size, hoisted_at_most}
use Rattle.tg_translate_laws.proofs.Sizing.{arguments_at_most}
use Rattle.tg_stack_bounds.proofs.Leading.{LevelTable, Keeps, Crosses}
use Rattle.tg_stack_bounds.proofs.Giving.{Gives, bind, then_quiet, given, weaken, any_fresh, any_arms, any_declared, IsPaidBody}

-- How many nodes a text has, and how many levels it crosses.
pub record Weight : Type 0 where
  pub nodes : ℕ
  pub hops : ℕ

abbrev pub weight : (nodes hops : ℕ) → Weight
weight n h = record { nodes = n; hops = h }

abbrev pub one_node : Weight → Weight
one_node n = weight (1 + n.nodes) n.hops

abbrev pub two_parts : (n m : Weight) → Weight
two_parts n m = weight (1 + n.nodes + m.nodes) (n.hops + m.hops)

abbrev pub three_parts : (n m k : Weight) → Weight
three_parts n m k = weight (1 + n.nodes + m.nodes + k.nodes) (n.hops + m.hops + k.hops)

abbrev pub one : Weight
one = weight 1 0

abbrev pub uses : (crossed : ℕ) → Weight
uses most = weight 1 most

abbrev pub calls : (crossed : ℕ) → Weight → Weight
calls most n = weight (1 + n.nodes) (most + n.hops)

-- What a text of so many nodes pays for.

abbrev pub Most : (length room most_length most_needs : ℕ) → Type 0
Most k r l m = (k ≤ l) × (r ≤ m)

abbrev pub PaidTx : Weight → Tx → Type 0
PaidTx n x = Most (tx_length x + 6) (tx_needs x + 10) (90 * n.nodes + 4 * n.hops) (44 * n.nodes + 6 * n.hops)

abbrev pub PaidCond : Weight → Cond → Type 0
PaidCond n c = Most (cond_length c) (cond_needs c) (90 * n.nodes + 4 * n.hops) ((44 * n.nodes + 6 * n.hops) + 6)

abbrev pub PaidTs : Weight → Ts → Type 0
PaidTs n s = Most (ts_length s + 4) (ts_needs s + 10) (90 * n.nodes + 4 * n.hops) (44 * n.nodes + 6 * n.hops)

abbrev pub Paid : Weight → Made → Type 0
Paid n m = Most (made_length m + 6) (made_needs m + 10) (90 * n.nodes + 4 * n.hops) (44 * n.nodes + 6 * n.hops)

abbrev pub PaidPlace : Weight → Storage → Type 0
PaidPlace n p = Most (place_length p) (place_needs p) (90 * n.nodes + 4 * n.hops) (44 * n.nodes + 6 * n.hops)

abbrev pub PaidRead : Weight → Tx → Type 0
PaidRead n x = Most (tx_length x) (tx_needs x) ((90 * n.nodes + 4 * n.hops) + 1) ((44 * n.nodes + 6 * n.hops) + 2)

abbrev pub PaidTxs : Weight → Txs → Txs → Type 0
PaidTxs n before xs =
    Most (most_arguments xs) (txs_needs xs) (most_arguments before + (90 * n.nodes + 4 * n.hops)) (txs_needs before + (44 * n.nodes + 6 * n.hops))

abbrev pub PaidFields : Weight → HeldAll → HeldAll → Type 0
PaidFields n before all =
    Most (held_length all) (held_needs all) (held_length before + (90 * n.nodes + 4 * n.hops)) (held_needs before + (44 * n.nodes + 6 * n.hops))

abbrev pub PaidStms : Weight → Stms → Stms → Type 0
PaidStms n before ss =
    Most (stms_length ss) (stms_needs ss) (stms_length before + (90 * n.nodes + 4 * n.hops)) (stms_needs before + (44 * n.nodes + 6 * n.hops))

abbrev pub PaidBegun : Weight → Stms → Begun → Type 0
PaidBegun n before b =
    Most (stms_length b.before + made_length b.last) (stms_needs b.before + made_needs b.last)
    (stms_length before + ((90 * n.nodes + 4 * n.hops) + 2)) (stms_needs before + ((44 * n.nodes + 6 * n.hops) + 2))

module _ (table : LevelTable) where
  -- Values.

  -- at most as long as what it is made of, and with no more needs
  abbrev AsMade : Made → Tx → Type 0
  AsMade m x = Most (tx_length x) (tx_needs x) (made_length m) (made_needs m)

  value_size : (m : Made) (s : TranslationState) → Keeps table s → Gives table s [] (AsMade m) (value_of m s)
  value_size (value x) s sound = given table s sound x (omega arith, omega arith)
  value_size (done x) s sound = given table s sound (After x (Const 0)) (omega arith, omega arith)
  value_size (test c) s sound = bind table (any_fresh table s sound) λ t s sound u.
      given table s sound (After (truth_into t c) (Temp t)) (omega arith, omega arith)

  paid_value : (n : Weight) (m : Made) (s : TranslationState) → Keeps table s → Paid n m → Gives table s [] (PaidTx n) (value_of m s)
  paid_value n m s sound h = weaken table (value_size m s sound) λ x k. (omega (arith, h.0, k.0), omega (arith, h.1, k.1))

  module _ (n : Weight) {s : TranslationState} {ms : List Measures} {d : Translated Made} (h : Gives table s ms (Paid n) d) where
    pub of_value : Gives table s ms (PaidTx n) (after d value_of)
    of_value = then_quiet table h λ m s sound k. paid_value n m s sound k

    pub of_test : Gives table s ms (PaidCond n) (after d (λ m. give (test_of m)))
    of_test = then_quiet table h λ m s sound k.
        given table s sound (test_of m) (let i = test_size m in (omega (arith, k.0, i.0), omega (arith, k.1, i.1)))

    of_arm : (w : Want) → Gives table s ms (PaidTs n) (after d (λ m. give (as_statement w m)))
    of_arm w = then_quiet table h λ m s sound k. given table s sound (as_statement w m)
        (let i = statement_size w m in (omega (arith, k.0, i.0), omega (arith, k.1, i.1)))

    pub of_statement : Gives table s ms (PaidTs n) (after d (λ m. give (dropped m)))
    of_statement = then_quiet table h λ m s sound k.
        given table s sound (dropped m) (let i = dropped_size m in (omega (arith, k.0, i.0), omega (arith, k.1, i.1)))

  -- What is held is kept or a number.

  abbrev IsHeld : (before : Stms) → Tx → Held → Type 0
  IsHeld before x h =
      Most (stms_length h.before + 2 * tx_length (operand h.operand)) (stms_needs h.before + tx_needs (operand h.operand))
      (stms_length before + (tx_length x + 2)) (stms_needs before + (tx_needs x + 1))

  keep_size : (before : Stms) (x : Tx) (s : TranslationState) → Keeps table s → Gives table s [] (IsHeld before x) (keep before x s)
  keep_size before x s sound =
      bind table (any_fresh table s sound) λ t s sound u.
      given table s sound (record { before = followed before (Move t x); operand = Kept (record { 0 = t }) })
      (let h = followed_size before (Move t x) in (omega (arith, h.0), omega (arith, h.1)))

  hold_size : (direct : Bool) (before : Stms) (x : Tx) (s : TranslationState) → Keeps table s →
      Gives table s [] (IsHeld before x) (hold direct before x s)
  hold_size direct before (Const k) s sound = given table s sound (record { before = before; operand = Number k }) (omega arith, omega arith)
  hold_size true before (Temp t) s sound = given table s sound (record { before = before; operand = Kept (record { 0 = t }) })
      (omega arith, omega arith)
  hold_size false before (Temp t) s sound = keep_size before (Temp t) s sound
  hold_size direct before x s sound = keep_size before x s sound

  pub paid_next : (n : Weight) (direct : Bool) (all : HeldAll) (x : Tx) (s : TranslationState) → Keeps table s → PaidTx n x →
      Gives table s [] (PaidFields (one_node n) all) (hold_next direct all x s)
  paid_next n direct all x s sound h =
      bind table (hold_size direct all.before x s sound) λ one s sound k.
      given table s sound (record { before = one.before; operands = all.operands ++ one.operand ∷ [] })
      (let e = length-append all.operands (one.operand ∷ []) in (omega (arith, e, h.0, k.0), omega (arith, e, h.1, k.1)))

  -- What an operator of two values adds to them.

  abbrev Added : (length room : ℕ) (x y : Tx) → Made → Type 0
  Added k r x y m = Most (made_length m) (made_needs m) (tx_length x + (tx_length y + k)) (tx_needs x + (tx_needs y + r))

  product_added : (direct : Bool) (x y : Tx) (s : TranslationState) → Keeps table s → Gives table s [] (Added 88 52 x y) (product direct x y s)
  product_added direct x y s sound =
      bind table (hold_size direct no_stms x s sound) λ l s sound h. bind table (hold_size true l.before y s sound) λ r s sound k.
      bind table (any_fresh table s sound) λ p s sound u.
      given table s sound (product_of p r.before (operand l.operand) (operand r.operand))
      (let i = product_size p r.before l.operand r.operand in
      let a = operand_size l.operand in
      let b = operand_size r.operand in
      (omega (arith, i.0, h.0, k.0), omega (arith, i.1, h.1, k.1, a.1, b.1)))

  checked_added : (direct : Bool) (x y : Tx) (s : TranslationState) → Keeps table s →
      Gives table s [] (Added 88 52 x y) (checked_quotient direct x y s)
  checked_added direct x y s sound =
      bind table (hold_size direct no_stms x s sound) λ l s sound h. bind table (hold_size true l.before y s sound) λ r s sound k.
      given table s sound (quotient_of r.before (operand l.operand) (operand r.operand))
      (let i = quotient_size r.before l.operand r.operand in
      let a = operand_size l.operand in
      let b = operand_size r.operand in
      (omega (arith, i.0, h.0, k.0, b.0), omega (arith, i.1, h.1, k.1, a.1, b.1)))

  by_number : (direct : Bool) (x : Tx) (k : ℕ) (b : Bool) (s : TranslationState) → Keeps table s →
      Gives table s [] (Added 88 52 x (Const k))
      ((if b then checked_quotient direct x (Const k) else give (value (tree.Binary bin.Div x (Const k)))) s)
  by_number direct x k true s sound = checked_added direct x (Const k) s sound
  by_number direct x k false s sound =
      given table s sound (value (tree.Binary bin.Div x (Const k))) (let h = divide_size x (Const k) in (omega (arith, h.0), omega (arith, h.1)))

  quotient_added : (direct : Bool) (x y : Tx) (s : TranslationState) → Keeps table s → Gives table s [] (Added 88 52 x y) (quotient direct x y s)
  quotient_added direct x (Const k) s sound = by_number direct x k (k == 0 || k == minus_one) s sound
  quotient_added direct x y s sound = checked_added direct x y s sound

  compared : (o : Op) (of_strings : Bool) (x y : Tx) (s : TranslationState) → Keeps table s →
      Gives table s [] (Added 88 52 x y) (give (test (comparison o of_strings x y)) s)
  compared o of_strings x y s sound =
      given table s sound (test (comparison o of_strings x y)) (let h = comparison_size o of_strings x y in (omega (arith, h.0), omega (arith, h.1)))

  operation_added : (o : Op) (of_strings direct : Bool) (x y : Tx) (s : TranslationState) → Keeps table s →
      Gives table s [] (Added 88 52 x y) (operation o of_strings direct x y s)
  operation_added op.Plus of_strings direct x y s sound =
      given table s sound (value (tree.Binary bin.AddTrap x y)) (let h = binary_size x y in (omega (arith, h.0), omega arith))
  operation_added op.Minus of_strings direct x y s sound =
      given table s sound (value (tree.Binary bin.SubTrap x y)) (let h = binary_size x y in (omega (arith, h.1), omega arith))
  operation_added op.Times of_strings direct x y s sound = product_added direct x y s sound
  operation_added op.Divide of_strings direct x y s sound = quotient_added direct x y s sound
  operation_added o of_strings direct x y s sound = compared o of_strings x y s sound

  -- Places, assignments, and what stands after statements.

  pub paid_field : (n : Weight) (k : ℕ) (x : Tx) (s : TranslationState) → Keeps table s → PaidRead n x →
      Gives table s [] (PaidPlace (one_node n)) (field_place k x s)
  paid_field n k x s sound h =
      bind table (hold_size true no_stms x s sound) λ r s sound i.
      given table s sound (field_of k r.before (operand r.operand))
      (let j = field_size k r.before r.operand in
      let a = operand_size r.operand in
      (omega (arith, h.0, j.0, i.0), omega (arith, h.1, j.1, i.1, a.1)))

  pub paid_element : (n m : Weight) (direct : Bool) (x y : Tx) (s : TranslationState) → Keeps table s → PaidRead n x → PaidTx m y →
      Gives table s [] (PaidPlace (two_parts n m)) (element_place direct x y s)
  paid_element n m direct x y s sound h k =
      bind table (hold_size direct no_stms x s sound) λ a s sound i. bind table (hold_size true a.before y s sound) λ b s sound j.
      given table s sound (element_of b.before (operand a.operand) (operand b.operand))
      (let e = element_size b.before a.operand b.operand in
      let p = operand_size a.operand in
      let q = operand_size b.operand in
      (omega (arith, h.0, k.0, e.0, i.0, j.0), omega (arith, h.1, k.1, e.1, i.1, j.1, p.1, q.1)))

  assign_size : (p : Storage) (m : Made) (s : TranslationState) → Keeps table s →
      Gives table s [] (λ x. Most (ts_length x) (ts_needs x) (place_length p + (made_length m + 3)) (place_needs p + made_needs m))
      (assign p m s)
  assign_size (in_temp t) m s sound = given table s sound (put_in t m) (let h = put_size t m in (omega (arith, h.0), omega (arith, h.1)))
  assign_size (at_address ss a) m s sound =
      bind table (value_size m s sound) λ x s sound h. given table s sound (store_at ss a x)
      (let k = store_size ss a x in (omega (arith, h.0, k.0), omega (arith, h.1, k.1)))

  -- A place that is kept is hardly longer, and its read is short.

  abbrev HeldAs : Stms → Tx → HeldAt → Type 0
  HeldAs before x h =
      Most (stms_length h.before + tx_length (held_address h.address)) (stms_needs h.before + tx_needs (held_address h.address))
      (stms_length before + (tx_length x + 2)) (stms_needs before + (tx_needs x + 1))

  beside_size : (before : Stms) (x : Tx) (o : Bin) (k : ℕ) (s : TranslationState) → Keeps table s →
      Gives table s [] (HeldAs before (tree.Binary o x (Const k))) (hold_base before x (λ p. Beside p o k) s)
  beside_size before x o k s sound =
      bind table (hold_size true before x s sound) λ h s sound i.
      given table s sound (record { before = h.before; address = Beside h.operand o k })
      (let p = operand_size h.operand in (omega (arith, i.0), omega (arith, i.1)))

  at_size : (before : Stms) (x : Tx) (s : TranslationState) → Keeps table s → Gives table s [] (HeldAs before x) (hold_base before x (λ p. At p) s)
  at_size before x s sound =
      bind table (hold_size true before x s sound) λ h s sound i.
      given table s sound (record { before = h.before; address = At h.operand })
      (let p = operand_size h.operand in (omega (arith, i.0), omega (arith, i.1)))

  hold_address_size : (before : Stms) (x : Tx) (s : TranslationState) → Keeps table s → Gives table s [] (HeldAs before x) (hold_address before x s)
  hold_address_size before (tree.Binary o FrameAddress (Const k)) s sound =
      given table s sound (record { before = before; address = InOwnFrame o k }) (omega arith, omega arith)
  hold_address_size before (tree.Binary o x (Const k)) s sound = beside_size before x o k s sound
  hold_address_size before x s sound = at_size before x s sound

  hold_place_size : (p : Storage) (s : TranslationState) → Keeps table s →
      Gives table s [] (λ q. Most (place_length (place_held q)) (place_needs (place_held q)) (place_length p + 2) (place_needs p + 1))
      (hold_place p s)
  hold_place_size (in_temp t) s sound = given table s sound (held_in_temp t) (omega arith, omega arith)
  hold_place_size (at_address ss a) s sound =
      bind table (hold_address_size ss a s sound) λ h s sound i.
      given table s sound (held_at h.before h.address) (omega (arith, i.0), omega (arith, i.1))

  short_read : (q : HeldPlace) → PaidTx one (read_held q)
  short_read q = let h = read_held_size q in (omega (arith, h.0), omega (arith, h.1))

  pub paid_assignment : {ms : List Measures} (n m : Weight) (reads_first : Bool) (p : Storage) (e : Want → Translates Made)
      (behind : Tx → Want → Translates Made) (s : TranslationState) → Keeps table s →
      PaidPlace n p → ((w : Want) (t : TranslationState) → Keeps table t → Gives table t ms (Paid m) (e w t)) →
      (reads_first ≡ true → (x : Tx) (w : Want) (t : TranslationState) → Keeps table t → PaidTx one x → Gives table t ms (Paid m) (behind x w t)) →
      Gives table s ms (λ y. Paid (two_parts n m) (done y)) (assignment reads_first p e behind s)
  paid_assignment n m true p e behind s sound h f g =
      bind table (hold_place_size p s sound) λ q s sound j.
      then_quiet table (g refl (read_held q) (want_for (place_held q)) s sound (short_read q)) λ x s sound k.
      weaken table (assign_size (place_held q) x s sound) λ y i. (omega (arith, h.0, j.0, k.0, i.0), omega (arith, h.1, j.1, k.1, i.1))
  paid_assignment n m false p e behind s sound h f g =
      then_quiet table (f (want_for p) s sound) λ x s sound k.
      weaken table (assign_size p x s sound) λ y i. (omega (arith, h.0, k.0, i.0), omega (arith, h.1, k.1, i.1))

  pub paid_declaration : {ms : List Measures} (n : Weight) (escapes : ℕ → Bool) (level at : ℕ) (e : Want → Translates Made) (s : TranslationState) →
      Keeps table s → level ≡ table.variables at →
      ((w : Want) (t : TranslationState) → Keeps table t → Gives table t ms (Paid n) (e w t)) →
      Gives table s ms (PaidTs (one_node n)) (declaration_of escapes level at e s)
  paid_declaration n escapes level at e s sound table_is f =
      bind table (any_declared table (escapes at) level at s sound table_is) λ home s sound u.
      then_quiet table (f (want_for (own_place home)) s sound) λ m s sound h.
      weaken table (assign_size (own_place home) m s sound) λ x k.
      let p = own_place_size home in (omega (arith, h.0, k.0, p.0), omega (arith, h.1, k.1, p.1))

  abbrev BehindOf : Stms → Made → Made → Type 0
  BehindOf ss m x =
      Most (made_length x) (made_needs x) (stms_length ss + (made_length m + 4)) (stms_needs ss + (made_needs m + 2))

  behind_value : (ss : Stms) (m : Made) (s : TranslationState) → Keeps table s →
      Gives table s [] (BehindOf ss m) (after (value_of m s) (λ x. give (value_behind ss x)))
  behind_value ss m s sound = bind table (value_size m s sound) λ x s sound h.
      given table s sound (value_behind ss x) (omega (arith, h.0), omega (arith, h.1))

  behind_statement : (w : Want) (ss : Stms) (m : Made) (s : TranslationState) → Keeps table s →
      Gives table s [] (BehindOf ss m) (give (done_behind w ss m) s)
  behind_statement w ss m s sound = given table s sound (done_behind w ss m) (let h = behind_size w ss m in (h.0, h.1))

  some_behind : (w : Want) (ss : Stms) (m : Made) (s : TranslationState) → Keeps table s → Gives table s [] (BehindOf ss m) (behind_some w ss m s)
  some_behind want.Value ss m s sound = behind_value ss m s sound
  some_behind (want.Into t) ss m s sound = behind_statement (want.Into t) ss m s sound
  some_behind want.Dropped ss m s sound = behind_statement want.Dropped ss m s sound
  some_behind want.Test ss m s sound = behind_value ss m s sound

  any_behind : (w : Want) (ss : Stms) (m : Made) (s : TranslationState) → Keeps table s → Gives table s [] (BehindOf ss m) (behind w ss m s)
  any_behind w no_stms m s sound = given table s sound m (omega arith, omega arith)
  any_behind w (stm x ss) m s sound = some_behind w (stm x ss) m s sound

  pub paid_behind : (n : Weight) (w : Want) (b : Begun) (s : TranslationState) → Keeps table s →
      PaidBegun n no_stms b →
      Gives table s [] (Paid (one_node n)) (behind w b.before b.last s)
  paid_behind n w b s sound h = weaken table (any_behind w b.before b.last s sound) λ x k. (omega (arith, h.0, k.0), omega (arith, h.1, k.1))

  -- Names.

  -- a frame further out, by the levels that are crossed

  frame_out_size : (kept : Bool) (hops : ℕ) → (tx_length (frame_out kept hops) ≤ 1 + 4 * hops) × (tx_needs (frame_out kept hops) ≤ 2 + 6 * hops)
  frame_out_size kept zero = (omega arith, omega arith)
  frame_out_size true (suc zero) = (omega arith, omega arith)
  frame_out_size false (suc zero) = (omega arith, omega arith)
  frame_out_size kept (suc (suc n)) = let h = frame_out_size kept (suc n) in (omega (arith, h.0), omega (arith, h.1))

  place_in_size : (frame : Tx) (a : Access) →
      (place_length (place_in frame a) ≤ tx_length frame + 3) × (place_needs (place_in frame a) ≤ tx_needs frame + 4)
  place_in_size frame (InTemp t) = (omega arith, omega arith)
  place_in_size frame (InFrame k) = (omega arith, omega arith)

  home_paid : (c : Within) (most at : ℕ) (home : Option Home) → ((k : Home) → home ≡ Some k → k.level ≡ table.variables at) →
      c.level ≤ table.variables at + most →
      PaidPlace (uses most) (home_place c home)
  home_paid c most at (Some home) h l =
      let e = h home refl in
      let k = frame_out_size c.link_in_slot (c.level - home.level) in
      let p = place_in_size (frame_at c home.level) home.access in
      (omega (arith, e, l, k.0, p.0), omega (arith, e, l, k.1, p.1))
  home_paid c most at None h l = (omega arith, omega arith)

  pub paid_variable : (c : Within) (most : ℕ) (meaning : Option Means) (s : TranslationState) → Keeps table s → Crosses table c.level most meaning →
      Gives table s [] (PaidPlace (uses most)) (variable_place c meaning s)
  paid_variable c most None s sound l = given table s sound nowhere (omega arith, omega arith)
  paid_variable c most (Some (means.Variable at)) s sound l =
      given table s sound (home_place c (looked_up at s.homes)) (home_paid c most at (looked_up at s.homes) (sound.home at) l)
  paid_variable c most (Some other) s sound l = given table s sound nowhere (omega arith, omega arith)

  callee_paid : (n : Weight) (c : Within) (most at : ℕ) (xs : Txs) (callee : Option Callee) → ((k : Callee) → callee ≡ Some k →
      k.level ≡ table.functions at) →
      c.level ≤ table.functions at + most → PaidTxs n no_txs xs → PaidTx (calls most n) (call_declared c xs callee)
  callee_paid n c most at xs (Some callee) h l p =
      let e = h callee refl in
      let k = frame_out_size c.link_in_slot (c.level - callee.level) in
      let j = hoisted_at_most (are_flat xs) in
      let i = arguments_at_most xs in
      (omega (arith, e, l, k.0, j, i, p.0), omega (arith, e, l, k.1, p.1))
  callee_paid n c most at xs None h l p = (omega arith, omega arith)

  pub paid_call : (n : Weight) (c : Within) (most : ℕ) (meaning : Option Means) (xs : Txs) (s : TranslationState) → Keeps table s →
      Crosses table c.level most meaning → PaidTxs n no_txs xs →
      Gives table s [] (PaidTx (calls most n)) (call c meaning xs s)
  paid_call n c most None xs s sound l h = given table s sound no_value (omega arith, omega arith)
  paid_call n c most (Some (means.Standard f)) xs s sound l h =
      given table s sound (constructs.call_routine (routine_of f) xs)
      (let k = routine_size (routine_of f) xs in (omega (arith, h.0, k.0), omega (arith, h.1, k.1)))
  paid_call n c most (Some (means.Function at)) xs s sound l h =
      given table s sound (call_declared c xs (looked_up at s.callees)) (callee_paid n c most at xs (looked_up at s.callees) (sound.callee at) l h)
  paid_call n c most (Some other) xs s sound l h = given table s sound no_value (omega arith, omega arith)

  -- Operators: the left side is made, and the right one is translated for what it is to be.
  module _ {ms : List Measures} (n m : Weight) (right : Want → Translates Made)
      (f : (w : Want) (t : TranslationState) → Keeps table t → Gives table t ms (Paid m) (right w t)) where
    into_paid : (o : Op) (w : Want) (c : Cond) (s : TranslationState) → Keeps table s → PaidCond n c →
        Gives table s ms (Paid (two_parts n m)) (after (arms w s) (λ a t. after (right a t) (λ x. give (deliver w a (chosen o a c x)))))
    into_paid o w c s sound h =
        bind table (any_arms table w s sound) λ a s sound u. then_quiet table (f a s sound) λ x s sound k.
        given table s sound (deliver w a (chosen o a c x))
        (let i = chosen_size o a c x in
        let j = deliver_size w a (chosen o a c x) in
        (omega (arith, h.0, k.0, i.0, j.0), omega (arith, h.1, k.1, i.1, j.1)))

    connective_paid : (o : Op) (w : Want) (c : Cond) (s : TranslationState) → Keeps table s → PaidCond n c →
        Gives table s ms (Paid (two_parts n m)) (connective o w c right s)
    connective_paid o want.Test c s sound h =
        then_quiet table (f want.Test s sound) λ x s sound k. given table s sound (tested o c x)
        (let i = tested_size o c x in (omega (arith, h.0, k.0, i.0), omega (arith, h.1, k.1, i.1)))
    connective_paid o want.Value c s sound h = into_paid o want.Value c s sound h
    connective_paid o (want.Into t) c s sound h = into_paid o (want.Into t) c s sound h
    connective_paid o want.Dropped c s sound h = into_paid o want.Dropped c s sound h

    operator_paid : (o : Op) (of_strings direct : Bool) (l : Made) (s : TranslationState) → Keeps table s → Paid n l →
        Gives table s ms (Paid (two_parts n m))
        (after (value_of l s) (λ x t. after (after (right want.Value t) value_of) (λ y. operation o of_strings direct x y)))
    operator_paid o of_strings direct l s sound h =
        bind table (paid_value n l s sound h) λ x s sound i. then_quiet table (of_value m (f want.Value s sound)) λ y s sound j.
        weaken table (operation_added o of_strings direct x y s sound) λ z k.
        (omega (arith, i.0, j.0, k.0), omega (arith, i.1, j.1, k.1))

    left_condition : (l : Made) → Paid n l → PaidCond n (test_of l)
    left_condition l h = let i = test_size l in (omega (arith, h.0, i.0), omega (arith, h.1, i.1))

    pub left_paid : (o : Op) (meaning : Option Means) (direct : Bool) (w : Want) (l : Made) (s : TranslationState) → Keeps table s → Paid n l →
        Gives table s ms (Paid (two_parts n m)) (with_left o meaning direct w l right s)
    left_paid op.And meaning direct w l s sound h = connective_paid op.And w (test_of l) s sound (left_condition l h)
    left_paid op.Or meaning direct w l s sound h = connective_paid op.Or w (test_of l) s sound (left_condition l h)
    left_paid o meaning direct w l s sound h = operator_paid o (compares_strings meaning) direct l s sound h

  -- Choices, of two arms that are translated for what they are to be. The second arm of a conjunction
  -- is 0, and declares nothing.
  module _ {ms ks : List Measures} (n m k : Weight) (this other : Want → Translates Made)
      (f : (w : Want) (t : TranslationState) → Keeps table t → Gives table t ms (Paid m) (this w t))
      (g : (w : Want) (t : TranslationState) → Keeps table t → Gives table t ks (Paid k) (other w t)) where
    arms_paid : (w : Want) (c : Cond) (s : TranslationState) → Keeps table s → PaidCond n c →
        Gives table s (ms ++ ks) (Paid (three_parts n m k)) (chosen_arm w c this other s)
    arms_paid w c s sound h =
        bind table (any_arms table w s sound) λ v s sound u. bind table (of_arm m (f v s sound) v) λ p s sound i.
        then_quiet table (of_arm k (g v s sound) v) λ q s sound j.
        given table s sound (deliver w v (tree.If c p q))
        (let l = deliver_size w v (tree.If c p q) in (omega (arith, h.0, i.0, j.0, l.0), omega (arith, h.1, i.1, j.1, l.1)))

    pub choice_paid : (conjunction : Bool) → (conjunction ≡ true → ks ≡ []) → (w : Want) (c : Cond) (s : TranslationState) → Keeps table s →
        PaidCond n c →
        Gives table s (ms ++ ks) (Paid (three_parts n m k)) (choice conjunction w c this other s)
    choice_paid true none w c s sound h =
        let e : ms ≡ ms ++ ks = sym (ap (λ l. ms ++ l) (none refl) ∙ append-nil ms) in
        subst (λ l. Gives table s l (Paid (three_parts n m k)) (connective op.And w c this s)) e
        (weaken table (connective_paid n m this f op.And w c s sound h) λ x i. (omega (arith, i.0), omega (arith, i.1)))
    choice_paid false none w c s sound h = arms_paid w c s sound h

  pub paid_read : (n : Weight) (p : Storage) → PaidPlace n p → PaidRead n (read p)
  paid_read n p h = let k = read_size p in (omega (arith, h.0, k.0), omega (arith, h.1, k.1))

  pub paid_count : (n m k : Weight) (home : Access) (x y : Tx) (turn : Ts) (s : TranslationState) → Keeps table s → PaidTx n x → PaidTx m y →
      PaidTs k turn →
      Gives table s [] (λ z. Most (ts_length z + 8) (ts_needs z + 12) (90 * (1 + n.nodes + m.nodes + k.nodes) + 4 * (n.hops + m.hops + k.hops))
      (44 * (1 + n.nodes + m.nodes + k.nodes) + 6 * (n.hops + m.hops + k.hops)))
      (count home x y turn s)
  paid_count n m k home x y turn s sound h i j =
      bind table (hold_size false no_stms x s sound) λ l s sound a. bind table (keep_size l.before y s sound) λ r s sound b.
      given table s sound (count_of r.before home l.operand r.operand turn)
      (let e = count_size r.before home l.operand r.operand turn in
      let p = operand_size l.operand in
      let q = operand_size r.operand in
      (omega (arith, h.0, i.0, j.0, e.0, a.0, b.0, p.0), omega (arith, h.1, i.1, j.1, e.1, a.1, b.1, p.1, q.1)))

  -- a function's body gives back what it is
  pub closed_body : {s : TranslationState} {ms : List Measures} (has_result : Bool) (n : Weight) {d : Translated Made} →
      Gives table s ms (Paid n) d → Gives table s ms (IsPaidBody n.nodes n.hops) (after d (closing has_result))
  closed_body true n g =
      then_quiet table g λ m s sound h. bind table (value_size m s sound) λ x s sound k.
      given table s sound (given_back x)
      (let i = given_back_most x in (omega (arith, i.0, h.0, k.0), omega (arith, i.1, h.1, k.1)))
  closed_body false n g =
      then_quiet table g λ m s sound h. given table s sound (gives_nothing m)
      (let k = dropped_size m in
      let i = less_ts (dropped m) in
      (omega (arith, i.0, h.0, k.0), omega (arith, i.1, h.1, k.1)))
