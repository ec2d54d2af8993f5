-- What each construct becomes is fine, where what it is made of is.
use Rattle.std.proofs.Common.{◌≡◌, ◌<◌, ◌+◌, ℕ, zero, suc, Bool, true, false, List, [], ◌∷◌, ◌++◌, length, refl, arith, inl, ◌*◌}
use Rattle.std.specs.Prelude.{◌==◌, ◌||◌, if◌then◌else◌}
use Rattle.tg_frame.specs.declared.accesses.Access.{Access}
use Rattle.tg_frame.specs.declared.accesses.Access.TheVariants.{InTemp, InFrame}
use Rattle.tg_syntax.specs.declared.trees.Op.{Op}
use Rattle.tg_syntax.specs.declared.trees.Op.TheVariants as op
use Rattle.tg_tree.specs.Tree.{Tx, Const, Temp, FrameAddress, Binary, Load, Txs, Cond, Compare, Ts, Move, Store, Stms, no_stms, stm}
use Rattle.tg_base.specs.Words.{sub}
use Rattle.tg_tree.specs.Named as name
use Rattle.tg_tree.specs.Forms.{when}
use Rattle.tg_tree.specs.declared.operators.Bin.TheVariants as bin
use Rattle.tg_tree.specs.declared.operators.Rel.TheVariants as rel
use Rattle.tg_runtime.specs.declared.routines.Routine.{Routine}
use Rattle.tg_runtime.specs.declared.routines.Routine.TheVariants as routine
use Rattle.tg_runtime.specs.mirror.Labels.{label_of}
use Rattle.tg_translate.specs.declared.operands.Operand.{Operand}
use Rattle.tg_translate.specs.declared.operands.Operand.TheVariants.{Number, Kept}
use Rattle.tg_translate.specs.declared.held.HeldAddress.{HeldAddress}
use Rattle.tg_translate.specs.declared.held.HeldAddress.TheVariants.{InOwnFrame, Beside, At}
use Rattle.tg_translate.specs.mirror.States.{TranslationState, Translates, after, give, fresh}
use Rattle.tg_translate.specs.mirror.Wants.{Made, value, test, put_in, followed}
use Rattle.tg_translate.specs.mirror.Constructs.{minus_one, least_int, plus, operand, Held, keep, hold, HeldAll, hold_next, own_link, frame_out, Storage}
use Rattle.tg_translate.specs.mirror.Constructs.{in_temp, at_address, place_in, own_place, after_all, read, store_at, want_for, assign, held_address}
use Rattle.tg_translate.specs.mirror.Constructs.{hold_base, hold_address, HeldPlace, held_in_temp, held_at, hold_place, read_held, place_held, nil_check}
use Rattle.tg_translate.specs.mirror.Constructs.{index_check, zero_check, product_check, quotient_check, field_of, field_place, element_of, element_place}
use Rattle.tg_translate.specs.mirror.Constructs.{call_routine, store_field, store_fields, space_for_record, record_of, make_record, make_array, comparison}
use Rattle.tg_translate.specs.mirror.Constructs.{product_of, product, quotient_of, checked_quotient, quotient, operation, negation, repeat_while}
use Rattle.tg_translate.specs.mirror.Constructs.{first_minus_one, assign_value, turn_of, turns, count_of, count}
use Rattle.tg_translate_laws.proofs.Keeping.{Asks, Where, access_on, bind, draws_temp, given, held_on, onward, operand_on, operands_on, stms_on, ts_on, tx_on}
use Rattle.tg_translate_laws.proofs.Keeping.{Ready, Yields, GoodTx, GoodTxs, GoodTs, GoodStms, GoodCond, GoodMade, GoodPlace, GoodOperand, GoodOperands}
use Rattle.tg_translate_laws.proofs.Keeping.{GoodHeld, GoodWant, GoodAccess, KnowsAt}
use Rattle.tg_translate_laws.proofs.Wanting as wanting

module _ (asks : Asks) where
  -- statements that end in an operand
  abbrev pub HeldWell : ℕ → TranslationState → Held → Type 0
  HeldWell n s h = GoodStms asks n s h.before × GoodOperand asks s h.operand

  module _ (n : ℕ) (s : TranslationState) where
    plus_good : (x : Tx) (k : ℕ) → GoodTx asks n s x → GoodTx asks n s (plus x k)
    plus_good x zero h = h
    plus_good x (suc k) h = (h, tt)

    operand_good : (x : Operand) → GoodOperand asks s x → GoodTx asks n s (operand x)
    operand_good (Number k) h = tt
    operand_good (Kept t) h = h

    own_link_good : (kept : Bool) → (asks.temps → kept ≡ false → 0 < s.frame.temps) → GoodTx asks n s (own_link kept)
    own_link_good true h = (tt, tt)
    own_link_good false h = λ t. h t refl

    pub frame_out_good : (kept : Bool) (hops : ℕ) → (asks.temps → 0 < hops → kept ≡ false → 0 < s.frame.temps) → GoodTx asks n s
        (frame_out kept hops)
    frame_out_good kept zero h = tt
    frame_out_good kept (suc zero) h = own_link_good kept (λ t e. h t (omega arith) e)
    frame_out_good kept (suc (suc k)) h = (frame_out_good kept (suc k) (λ t l e. h t (omega arith) e), tt)

    pub place_in_good : (frame : Tx) (a : Access) → GoodTx asks n s frame → GoodAccess asks s a → GoodPlace asks n s (place_in frame a)
    place_in_good frame (InTemp t) h k = k
    place_in_good frame (InFrame j) h k = (tt, (h, tt))

    pub own_place_good : (a : Access) → GoodAccess asks s a → GoodPlace asks n s (own_place a)
    own_place_good a k = place_in_good FrameAddress a tt k

    after_all_good : (ss : Stms) (x : Tx) → GoodStms asks n s ss → GoodTx asks n s x → GoodTx asks n s (after_all ss x)
    after_all_good no_stms x h k = k
    after_all_good (stm y ss) x h k = (h, k)

    pub read_good : (p : Storage) → GoodPlace asks n s p → GoodTx asks n s (read p)
    read_good (in_temp t) h = h
    read_good (at_address before a) h = after_all_good before (Load a) h.0 h.1

    store_good : (ss : Stms) (a x : Tx) → GoodStms asks n s ss → GoodTx asks n s a → GoodTx asks n s x → GoodTs asks n s (store_at ss a x)
    store_good no_stms a x h k l = (k, l)
    store_good (stm y ss) a x h k l = wanting.followed_good asks n s (stm y ss) (Store a x) h (k, l)

    pub want_for_good : (p : Storage) → GoodPlace asks n s p → GoodWant asks s (want_for p)
    want_for_good (in_temp t) h = h
    want_for_good (at_address before a) h = tt

    pub read_held_good : (q : HeldPlace) → GoodPlace asks n s (place_held q) → GoodTx asks n s (read_held q)
    read_held_good (held_in_temp t) h = h
    read_held_good (held_at before a) h = h.1

    nil_good : (x : Tx) → GoodTx asks n s x → GoodTs asks n s (nil_check x)
    nil_good x h = ((h, tt), omega arith, tt)

    index_good : (a i : Tx) → GoodTx asks n s a → GoodTx asks n s i → GoodTs asks n s (index_check a i)
    index_good a i h k = ((k, h), omega arith, tt)

    zero_good : (x : Tx) → GoodTx asks n s x → GoodTs asks n s (zero_check x)
    zero_good x h = ((h, tt), omega arith, tt)

    product_check_good : (l r p : Tx) → GoodTx asks n s l → GoodTx asks n s r → GoodTx asks n s p → GoodTs asks n s (product_check l r p)
    product_check_good l r p h k j = (((h, k), (j, tt)), (tt, tt), tt)

    quotient_check_good : (l r : Tx) → GoodTx asks n s l → GoodTx asks n s r → GoodTs asks n s (quotient_check l r)
    quotient_check_good l r h k = (((k, tt), (h, tt)), (tt, tt), tt)

    field_good : (k : ℕ) (before : Stms) (r : Tx) → GoodStms asks n s before → GoodTx asks n s r → GoodPlace asks n s
        (field_of k before r)
    field_good k before r h j = (
      wanting.followed_good asks n s before (nil_check r) h (nil_good r j),
      plus_good
          r (4 * k) j,
    )

    element_good : (before : Stms) (a i : Tx) → GoodStms asks n s before → GoodTx asks n s a → GoodTx asks n s i → GoodPlace asks n s
        (element_of before a i)
    element_good before a i h j k =
        (wanting.followed_good asks n s before (index_check a i) h (index_good a i j k), (((k, tt), j), tt))

    routine_below : (one : Routine) → KnowsAt asks s (name.function (label_of one))
    routine_below routine.MakeRecord = inl (omega arith)
    routine_below one = inl (omega arith)

    pub routine_good : (one : Routine) (xs : Txs) → GoodTxs asks n s xs → GoodTx asks n s (call_routine one xs)
    routine_good one xs h = (routine_below one, h)

    store_fields_good : (before : Stms) (r k : ℕ) (xs : List Operand) → (asks.temps → r < s.frame.temps) → GoodStms asks n s before →
        GoodOperands asks s xs →
        GoodStms asks n s (store_fields before r k xs)
    store_fields_good before r k [] i h j = h
    store_fields_good before r k (x ∷ xs) i h j =
        store_fields_good (followed before (store_field r k x)) r (suc k) xs i
        (wanting.followed_good asks n s before (store_field r k x) h
        (plus_good (Temp r) (4 * k) i, operand_good x j.0)) j.1

    record_good : (r : ℕ) (all : HeldAll) → (asks.temps → r < s.frame.temps) → GoodHeld asks n s all → GoodMade asks n s (record_of r all)
    record_good r all i h = (
      store_fields_good (followed all.before (Move r (space_for_record (length all.operands)))) r 0 all.operands i
          (wanting.followed_good asks n s all.before (Move r (space_for_record (length all.operands))) h.0
          (i, (tt, tt))) h.1,
      i,
    )

    pub make_array_good : (size x : Tx) → GoodTx asks n s size → GoodTx asks n s x → GoodTx asks n s (make_array size x)
    make_array_good size x h k = (routine_below routine.MakeArray, (h, (k, tt)))

    comparison_good : (o : Op) (strings : Bool) (x y : Tx) → GoodTx asks n s x → GoodTx asks n s y → GoodCond asks n s
        (comparison o strings x y)
    comparison_good o true x y h k = ((routine_below routine.Compare, (h, (k, tt))), tt)
    comparison_good o false x y h k = (h, k)

    product_good : (p : ℕ) (before : Stms) (l r : Tx) → (asks.temps → p < s.frame.temps) → GoodStms asks n s before → GoodTx asks n s l →
        GoodTx asks n s r →
        GoodMade asks n s (product_of p before l r)
    product_good p before l r i h j k = (
      wanting.followed_good asks n s (followed before (Move p (Binary bin.Mul l r))) (product_check l r (Temp p))
          (wanting.followed_good asks n s before (Move p (Binary bin.Mul l r)) h (i, (j, k)))
          (product_check_good l r (Temp p) j k i),
      i,
    )

    quotient_good : (before : Stms) (l r : Tx) → GoodStms asks n s before → GoodTx asks n s l → GoodTx asks n s r → GoodMade asks n s
        (quotient_of before l r)
    quotient_good before l r h j k = (
      wanting.followed_good asks n s (followed before (zero_check r)) (quotient_check l r)
          (wanting.followed_good asks n s before (zero_check r) h (zero_good r k)) (quotient_check_good l r j k),
      (j, k),
    )

    negated_good : (k : ℕ) (b : Bool) → GoodTx asks n s (if b then Binary bin.SubTrap (Const 0) (Const k) else Const
        (sub 0 k))
    negated_good k true = (tt, tt)
    negated_good k false = tt

    pub negation_good : (x : Tx) → GoodTx asks n s x → GoodTx asks n s (negation x)
    negation_good (Const k) h = negated_good k (k == least_int)
    negation_good x h = (tt, h)

    first_good : (x : Operand) → GoodOperand asks s x → GoodTx asks n s (first_minus_one x)
    first_good (Number k) h = tt
    first_good (Kept t) h = (h, tt)

    assign_good : (p : Storage) (x : Tx) → GoodPlace asks n s p → GoodTx asks n s x → GoodTs asks n s (assign_value p x)
    assign_good (in_temp t) x h k = (h, k)
    assign_good (at_address before a) x h k = store_good before a x h.0 h.1 k

  pub repeat_good : (n : ℕ) (s : TranslationState) (d : Cond) (x : Ts) → GoodCond asks (n + 1) s d → GoodTs asks (n + 1) s x → GoodTs asks n s
      (repeat_while d x)
  repeat_good n s d x h k = (h, k, λ b. omega arith)

  turn_good : (n : ℕ) (s : TranslationState) (i : Access) (high : Operand) (x : Ts) → GoodAccess asks s i → GoodOperand asks s high → GoodTs asks
      (n + 1) s x →
      GoodTs asks (n + 1) s (turn_of i high x)
  turn_good n s i high x h j k = (
    assign_good (n + 1) s (own_place i) (Binary bin.Add (read (own_place i)) (Const 1)) (own_place_good (n + 1) s i h)
        (read_good (n + 1) s (own_place i) (own_place_good (n + 1) s i h), tt),
    (
      k,
      (
        (
          (read_good (n + 1) s (own_place i) (own_place_good (n + 1) s i h), operand_good (n + 1) s high j),
          tt,
          (λ b. omega arith),
        ),
        tt,
      ),
    ),
  )

  turns_good : (n : ℕ) (s : TranslationState) (i : Access) (low high : Operand) (x : Ts) → GoodAccess asks s i → GoodOperand asks s low →
      GoodOperand asks s high → GoodTs asks (n + 1) s x →
      GoodTs asks n s (turns i low high x)
  turns_good n s i low high x h l j k = (
    assign_good n s (own_place i) (first_minus_one low) (own_place_good n s i h) (first_good n s low l),
    (turn_good n s i high x h j k, tt),
  )

  count_good : (n : ℕ) (s : TranslationState) (before : Stms) (i : Access) (low high : Operand) (x : Ts) →
      GoodStms asks n s before → GoodAccess asks s i → GoodOperand asks s low → GoodOperand asks s high → GoodTs asks (n + 1) s x →
      GoodTs asks n s (count_of before i low high x)
  count_good n s before i low high x b h l j k =
      wanting.followed_good asks n s before (when (Compare rel.GreaterEqual (operand high) (operand low))
      (turns i low high x)) b
      ((operand_good n s high j, operand_good n s low l), turns_good n s i low high x h l j k, tt)

  more_operands : (s : TranslationState) (xs : List Operand) (x : Operand) → GoodOperands asks s xs → GoodOperand asks s x → GoodOperands asks s
      (xs ++ x ∷ [])
  more_operands s [] x h k = (k, tt)
  more_operands s (y ∷ ys) x h k = (h.0, more_operands s ys x h.1 k)

-- What actions yield.
module _ {asks : Asks} {c : Where} where
  keep_yields : {s : TranslationState} (before : Stms) (x : Tx) → Ready asks c s → GoodStms asks c.loops s before → GoodTx asks c.loops s x →
      Yields asks c s (HeldWell asks c.loops) (keep before x s)
  keep_yields before x r h k =
      bind (draws_temp r)
      (λ i t st r' j. given (record { before = followed before (Move i x); operand = Kept (record { 0 = i }) }) r' (
        wanting.followed_good asks c.loops t before (Move i x)
            (stms_on st c.loops before h)
            (j, tx_on st c.loops x k),
        j,
      ))

  hold_yields : {s : TranslationState} (direct : Bool) (before : Stms) (x : Tx) → Ready asks c s → GoodStms asks c.loops s before → GoodTx asks
      c.loops s x →
      Yields asks c s (HeldWell asks c.loops) (hold direct before x s)
  hold_yields direct before (Const n) r h k =
      given (record { before = before; operand = Number n }) r (h, tt)
  hold_yields true before (Temp t) r h k =
      given (record { before = before; operand = Kept (record { 0 = t }) })
      r (h, k)
  hold_yields false before (Temp t) r h k = keep_yields before (Temp t) r h k
  hold_yields direct before x r h k = keep_yields before x r h k

  pub hold_next_yields : {s : TranslationState} (direct : Bool) (all : HeldAll) (x : Tx) → Ready asks c s → GoodHeld asks c.loops s all →
      GoodTx asks c.loops s x →
      Yields asks c s (λ t held. GoodHeld asks c.loops t held) (hold_next direct all x s)
  hold_next_yields direct all x r h k =
      bind (hold_yields direct all.before x r h.0 k)
      (λ held t st r' j.
      given (record { before = held.before; operands = all.operands ++ held.operand ∷ [] }) r' (
        j.0,
        more_operands asks t all.operands held.operand (operands_on st all.operands h.1)
            j.1,
      ))

  pub assign_yields : {s : TranslationState} (p : Storage) (m : Made) → Ready asks c s → GoodPlace asks c.loops s p → GoodMade asks c.loops s m →
      Yields asks c s (λ t x. GoodTs asks c.loops t x) (assign p m s)
  assign_yields {s} (in_temp i) m r h k =
      given (put_in i m) r
      (wanting.put_good asks c.loops s i m h k)
  assign_yields (at_address before a) m r h k =
      bind (wanting.value_yields m r k)
      (λ x t st r' j. given (store_at before a x) r'
      (store_good asks c.loops t before a x (stms_on st c.loops before h.0)
      (tx_on st c.loops a h.1) j))

  base_yields : {s : TranslationState} (before : Stms) (x : Tx) (address : Operand → HeldAddress) →
      ((t : TranslationState) (o : Operand) → GoodOperand asks t o → GoodTx asks c.loops t (held_address (address o))) →
      Ready asks c s → GoodStms asks c.loops s before → GoodTx asks c.loops s x →
      Yields asks c s (λ t h. GoodPlace asks c.loops t (at_address h.before (held_address h.address))) (hold_base before x address s)
  base_yields before x address good r h k =
      bind (hold_yields true before x r h k)
      (λ one t st r' j. given (record { before = one.before; address = address one.operand }) r'
      (j.0, good t one.operand j.1))

  hold_address_yields : {s : TranslationState} (before : Stms) (a : Tx) → Ready asks c s → GoodStms asks c.loops s before →
      GoodTx asks c.loops s a →
      Yields asks c s (λ t h. GoodPlace asks c.loops t (at_address h.before (held_address h.address))) (hold_address before a s)
  hold_address_yields before (Binary o FrameAddress (Const k)) r h g =
      given (record { before = before; address = InOwnFrame o k }) r (h, g)
  hold_address_yields before (Binary o x (Const k)) r h g =
      base_yields before x (λ p. Beside p o k) (λ t p i. (operand_good asks c.loops t p i, tt)) r h g.0
  hold_address_yields before a r h g = base_yields before a (λ p. At p) (λ t p i. operand_good asks c.loops t p i) r h g

  pub hold_place_yields : {s : TranslationState} (p : Storage) → Ready asks c s → GoodPlace asks c.loops s p →
      Yields asks c s (λ t q. GoodPlace asks c.loops t (place_held q)) (hold_place p s)
  hold_place_yields (in_temp i) r h = given (held_in_temp i) r h
  hold_place_yields (at_address before a) r h =
      bind (hold_address_yields before a r h.0 h.1)
      (λ one t st r' g. given (held_at one.before one.address) r' g)

  pub field_yields : {s : TranslationState} (k : ℕ) (x : Tx) → Ready asks c s → GoodTx asks c.loops s x →
      Yields asks c s (λ t p. GoodPlace asks c.loops t p) (field_place k x s)
  field_yields k x r h =
      bind (hold_yields true no_stms x r tt h)
      (λ held t st r' j. given (field_of k held.before (operand held.operand)) r'
      (field_good asks c.loops t k held.before (operand held.operand) j.0 (operand_good asks c.loops t held.operand j.1)))

  -- two values are held, one after the other
  module _ {A : Type 0} (W : TranslationState → A → Type 0) (direct : Bool) (x y : Tx) (next : Held → Held → Translates A)
      (made : (l h : Held) (t : TranslationState) → Ready asks c t → GoodOperand asks t l.operand → HeldWell asks c.loops t h → Yields asks c t W
      (next l h t)) where
    both_held : {s : TranslationState} → Ready asks c s → GoodTx asks c.loops s x → GoodTx asks c.loops s y →
        Yields asks c s W (after (hold direct no_stms x s) (λ l t. after (hold true l.before y t) (λ h. next l h)))
    both_held r h k =
        bind (hold_yields direct no_stms x r tt h)
        (λ l t st r' j.
        bind (hold_yields true l.before y r' j.0 (tx_on st c.loops y k))
        (λ h u st' r'' i. made l h u r'' (operand_on st' l.operand j.1) i))

  -- and something is made of them, after the statements that keep them
  made_of_held : {A : Type 0} {s : TranslationState} (W : TranslationState → A → Type 0) (make : Stms → Tx → Tx → A) →
      ((t : TranslationState) (ss : Stms) (a b : Tx) → GoodStms asks c.loops t ss → GoodTx asks c.loops t a → GoodTx asks c.loops t b → W t (make ss a b)) →
      (direct : Bool) (x y : Tx) → Ready asks c s → GoodTx asks c.loops s x → GoodTx asks c.loops s y →
      Yields asks c s W (after (hold direct no_stms x s) (λ l t. after (hold true l.before y t)
      (λ h. give (make h.before (operand l.operand) (operand h.operand)))))
  made_of_held W make good direct x y r h k =
      both_held W direct x y (λ l h. give (make h.before (operand l.operand) (operand h.operand)))
      (λ l h t r' j i. given (make h.before (operand l.operand) (operand h.operand)) r'
      (good t h.before (operand l.operand) (operand h.operand) i.0
      (operand_good asks c.loops t l.operand j)
      (operand_good asks c.loops t h.operand i.1))) r h k

  pub element_yields : {s : TranslationState} (direct : Bool) (x y : Tx) → Ready asks c s → GoodTx asks c.loops s x → GoodTx asks c.loops s y →
      Yields asks c s (λ t p. GoodPlace asks c.loops t p) (element_place direct x y s)
  element_yields direct x y r h k =
      made_of_held (λ t p. GoodPlace asks c.loops t p) (λ ss a i. element_of ss a i) (λ t ss a i. element_good asks c.loops t ss a i) direct x y r h k

  pub record_yields : {s : TranslationState} (all : HeldAll) → Ready asks c s → GoodHeld asks c.loops s all → Yields asks c s
      (λ t m. GoodMade asks c.loops t m) (make_record all s)
  record_yields all r h =
      bind (draws_temp r)
      (λ i t st r' j. given (record_of i all) r'
      (record_good asks c.loops t i all j (held_on st c.loops all h)))

  product_yields : {s : TranslationState} (direct : Bool) (x y : Tx) → Ready asks c s → GoodTx asks c.loops s x → GoodTx asks c.loops s y →
      Yields asks c s (λ t m. GoodMade asks c.loops t m) (product direct x y s)
  product_yields direct x y r h k =
      both_held (λ t m. GoodMade asks c.loops t m) direct x y
      (λ a b t. after (fresh t) (λ p. give (product_of p b.before (operand a.operand) (operand b.operand))))
      (λ a b t r' j l.
      bind (draws_temp r')
      (λ p u st r'' i. given (product_of p b.before (operand a.operand) (operand b.operand)) r''
      (product_good asks c.loops u p b.before (operand a.operand) (operand b.operand) i
      (stms_on st c.loops b.before l.0)
      (operand_good asks c.loops u a.operand (operand_on st a.operand j))
      (operand_good asks c.loops u b.operand (operand_on st b.operand l.1))))) r h k

  checked_yields : {s : TranslationState} (direct : Bool) (x y : Tx) → Ready asks c s → GoodTx asks c.loops s x → GoodTx asks c.loops s y →
      Yields asks c s (λ t m. GoodMade asks c.loops t m) (checked_quotient direct x y s)
  checked_yields direct x y r h k =
      made_of_held (λ t m. GoodMade asks c.loops t m) (λ ss a b. quotient_of ss a b) (λ t ss a b. quotient_good asks c.loops t ss a b) direct x y r h k

  by_number_yields : {s : TranslationState} (direct : Bool) (x : Tx) (k : ℕ) (b : Bool) → Ready asks c s → GoodTx asks c.loops s x →
      Yields asks c s (λ t m. GoodMade asks c.loops t m) ((if b then checked_quotient direct x (Const k) else give
      (value (Binary bin.Div x (Const k)))) s)
  by_number_yields direct x k true r h = checked_yields direct x (Const k) r h tt
  by_number_yields direct x k false r h =
      given (value (Binary bin.Div x (Const k))) r (h, tt)

  quotient_yields : {s : TranslationState} (direct : Bool) (x y : Tx) → Ready asks c s → GoodTx asks c.loops s x → GoodTx asks c.loops s y →
      Yields asks c s (λ t m. GoodMade asks c.loops t m) (quotient direct x y s)
  quotient_yields direct x (Const k) r h j = by_number_yields direct x k (k == 0 || k == minus_one) r h
  quotient_yields direct x y r h j = checked_yields direct x y r h j

  compared_yields : {s : TranslationState} (o : Op) (strings : Bool) (x y : Tx) → Ready asks c s → GoodTx asks c.loops s x → GoodTx asks c.loops
      s y →
      Yields asks c s (λ t m. GoodMade asks c.loops t m) (give (test (comparison o strings x y)) s)
  compared_yields {s} o strings x y r h k =
      given (test (comparison o strings x y)) r
      (comparison_good asks c.loops s o strings x y h k)

  pub operation_yields : {s : TranslationState} (o : Op) (strings direct : Bool) (x y : Tx) → Ready asks c s → GoodTx asks c.loops s x →
      GoodTx asks c.loops s y →
      Yields asks c s (λ t m. GoodMade asks c.loops t m) (operation o strings direct x y s)
  operation_yields op.Plus strings direct x y r h k =
      given (value (Binary bin.AddTrap x y)) r (h, k)
  operation_yields op.Minus strings direct x y r h k =
      given (value (Binary bin.SubTrap x y)) r (h, k)
  operation_yields op.Times strings direct x y r h k = product_yields direct x y r h k
  operation_yields op.Divide strings direct x y r h k = quotient_yields direct x y r h k
  operation_yields o strings direct x y r h k = compared_yields o strings x y r h k

  pub count_yields : {s : TranslationState} (i : Access) (x y : Tx) (turn : Ts) → Ready asks c s → GoodAccess asks s i → GoodTx asks c.loops s
      x → GoodTx asks c.loops s y →
      GoodTs asks (c.loops + 1) s turn → Yields asks c s (λ t m. GoodTs asks c.loops t m) (count i x y turn s)
  count_yields i x y turn r a h k g =
      bind (hold_yields false no_stms x r tt h)
      (λ l t st r' j.
      bind (keep_yields l.before y r' j.0 (tx_on st c.loops y k))
      (λ h u st' r'' q. let on = onward st st' in
      given (count_of h.before i l.operand h.operand turn) r''
      (count_good asks c.loops u h.before i l.operand h.operand turn q.0 (access_on on i a)
      (operand_on st' l.operand j.1) q.1
      (ts_on on (c.loops + 1) turn g))))
