-- What each construct takes, of parts that go so far.
use Rattle.std.proofs.Common.{◌≡◌, ◌≤◌, ◌+◌, ℕ, suc, Bool, true, false, Option, Some, None, List, [], ◌∷◌, ◌++◌, refl, sym, subst, append-nil, arith}
use Rattle.std.specs.Prelude.{◌==◌, ◌||◌, if◌then◌else◌}
use Rattle.std.proofs.lemmas.List.{map-append}
use Rattle.tg_frame.specs.declared.accesses.Access.{Access}
use Rattle.tg_symbols.specs.Tables.{looked_up}
use Rattle.tg_syntax.specs.declared.trees.Op.{Op}
use Rattle.tg_syntax.specs.declared.trees.Op.TheVariants as op
use Rattle.tg_syntax.specs.Tree.{FunDecs, no_functions, function}
use Rattle.tg_typecheck.specs.declared.notes.Means.{Means}
use Rattle.tg_typecheck.specs.declared.notes.Means.TheVariants as means
use Rattle.tg_tree.specs.declared.operators.Bin.TheVariants as bin
use Rattle.tg_tree.specs.Tree as tree
use Rattle.tg_tree.specs.Tree.{Tx, Const, Temp, FrameAddress, Binary, After, Txs, Cond, Ts, Move, Stms, no_stms, stm}
use Rattle.tg_tree.specs.Memory.{string_text}
use Rattle.tg_translate.specs.declared.homes.Within.{Within}
use Rattle.tg_translate.specs.declared.operands.Operand.{Operand}
use Rattle.tg_translate.specs.declared.operands.Operand.TheVariants.{Number, Kept}
use Rattle.tg_translate.specs.declared.held.HeldAddress.{HeldAddress}
use Rattle.tg_translate.specs.declared.held.HeldAddress.TheVariants.{InOwnFrame, Beside, At}
use Rattle.tg_translate.specs.declared.wants.Want.{Want}
use Rattle.tg_translate.specs.declared.wants.Want.TheVariants as want
use Rattle.tg_translate.specs.mirror.States.{TranslationState, Translated, Translates, after, give}
use Rattle.tg_translate.specs.mirror.Wants.{Made, value, done, test, truth_into, value_of, put_in, dropped, test_of, arms, as_statement, deliver, followed}
use Rattle.tg_translate.specs.mirror.Wants.{value_behind, done_behind, behind_some, behind}
use Rattle.tg_translate.specs.mirror.Constructs.{Storage, in_temp, at_address, operand, keep, hold, HeldAll, hold_next, own_place, store_at, want_for}
use Rattle.tg_translate.specs.mirror.Constructs.{assign, hold_base, hold_address, held_in_temp, held_at, hold_place, read_held, place_held, field_of}
use Rattle.tg_translate.specs.mirror.Constructs.{field_place, element_of, element_place, call_routine, record_of, make_record, product_of, quotient_of}
use Rattle.tg_translate.specs.mirror.Constructs.{checked_quotient, minus_one, quotient, comparison, operation, count_of, count}
use Rattle.tg_translate.specs.mirror.Choices.{tested, chosen}
use Rattle.tg_translate.specs.mirror.Scopes.{no_value, nowhere, home_place, variable_place, compares_strings, routine_of, call_declared, call, literal}
use Rattle.tg_translate.specs.mirror.Scopes.{declare_variable}
use Rattle.tg_translate.specs.mirror.Returning.{given_back}
use Rattle.tg_translate.specs.mirror.Functions.{at_of, declare_functions, gives_nothing, closing}
use Rattle.tg_translate.specs.mirror.Translate.{connective, with_left, chosen_arm, choice, assignment, declaration_of}
use Rattle.tg_translate_laws.specs.Escaped.{one_of}
use Rattle.tg_translate_laws.proofs.Returning.{given_back_near}
use Rattle.tg_translate_laws.proofs.Near.{IsTx, AreTxs, IsCond, IsTs, AreStms, IsMade, IsPlace, followed_near, truth_near, put_near, dropped_near, test_near}
use Rattle.tg_translate_laws.proofs.Near.{statement_near, deliver_near, tested_near, chosen_near, own_place_near, home_near, store_near, held_address_near}
use Rattle.tg_translate_laws.proofs.Near.{read_held_near, wider_tx, field_near, element_near, record_near, product_near, quotient_near, comparison_near}
use Rattle.tg_translate_laws.proofs.Near.{count_near, declared_near}
use Rattle.tg_translate_laws.proofs.Actions.{left}
use Rattle.tg_translate_laws.proofs.Taking.{Cost, and, draws, adds, Takes, adds_none, both, at_most, more, then_draws, then_quiet, draws_then, quiet_then}
use Rattle.tg_translate_laws.proofs.Taking.{keeps, gives, draws_one}

pub arms_takes : (w : Want) (s : TranslationState) → Takes (draws 1) (λ a. Unit {0}) s (arms w s)
arms_takes want.Value s = then_quiet (draws_one s) λ t s _. gives s (want.Into (record { 0 = t })) tt
arms_takes (want.Into t) s = more (omega arith) (gives s (want.Into t) tt)
arms_takes want.Dropped s = more (omega arith) (gives s want.Dropped tt)
arms_takes want.Test s = then_quiet (draws_one s) λ t s _. gives s (want.Into (record { 0 = t })) tt

pub declares : (b : Bool) (level at : ℕ) (s : TranslationState) → Takes (record (draws 1) { slots = one_of b })
    (λ a. Unit {0}) s (declare_variable b level at s)
declares true level at s = keeps _ 1 1 s (left (declare_variable true level at s)) tt (omega arith) (omega arith) refl refl refl refl
declares false level at s = keeps _ 0 1 s (left (declare_variable false level at s)) tt (omega arith) (omega arith) refl refl refl refl

pub declares_functions : (fs : FunDecs) (level : ℕ) (s : TranslationState) → Takes (draws 0) (λ x. Unit {0}) s (declare_functions level fs s)
declares_functions no_functions level s = gives {A = Unit {0}} s tt tt
declares_functions (function f _ _ _ rest) level s =
    let t : TranslationState = record s { label = s.label + 1; callees = (at_of f, record { level = level; label = record { 0 = s.label } }) ∷ s.callees } in
    quiet_then {A = Unit {0}} {next = λ x. declare_functions level rest}
    (keeps {A = Unit {0}} {V = λ x. Unit {0}} tt 0 0 s t tt (omega arith) (omega arith) refl refl refl refl) λ x t h.
    declares_functions rest level t

-- In a text from which so many levels lead outwards.
module _ (n : ℕ) where
  pub values_takes : (m : Made) (s : TranslationState) → IsMade n m → Takes (draws 1) (IsTx n) s (value_of m s)
  values_takes (value x) s h = more (omega arith) (gives s x h)
  values_takes (done x) s h = more (omega arith) (gives s (After x (Const 0)) (h, tt))
  values_takes (test c) s h = then_quiet (draws_one s) λ t s _. gives s (After (truth_into t c) (Temp t)) (truth_near n t c h, tt)

  some_takes : (w : Want) (ss : Stms) (m : Made) (s : TranslationState) → AreStms n ss → IsMade n m → Takes (draws 1) (IsMade n) s (behind_some w ss m s)
  some_takes want.Value ss m s h k = then_quiet (values_takes m s k) λ x s g. gives s (value_behind ss x) (h, g)
  some_takes (want.Into t) ss m s h k = more (omega arith) (gives s (done_behind (want.Into t) ss m) (followed_near n ss (put_in t.0 m) h (put_near n t.0 m k)))
  some_takes want.Dropped ss m s h k = more (omega arith) (gives s (done_behind want.Dropped ss m) (followed_near n ss (dropped m) h (dropped_near n m k)))
  some_takes want.Test ss m s h k = then_quiet (values_takes m s k) λ x s g. gives s (value_behind ss x) (h, g)

  pub behind_takes : (w : Want) (ss : Stms) (m : Made) (s : TranslationState) → AreStms n ss → IsMade n m → Takes (draws 1) (IsMade n) s (behind w ss m s)
  behind_takes w no_stms m s h k = more (omega arith) (gives s m k)
  behind_takes w (stm x ss) m s h k = some_takes w (stm x ss) m s h k

  keep_takes : (ss : Stms) (x : Tx) (s : TranslationState) → AreStms n ss → IsTx n x → Takes (draws 1) (λ h. AreStms n h.before) s (keep ss x s)
  keep_takes ss x s h k =
      then_quiet (draws_one s) λ t s _.
      gives s (record { before = followed ss (Move t x); operand = Kept (record { 0 = t }) }) (followed_near n ss (Move t x) h k)

  hold_takes : (direct : Bool) (ss : Stms) (x : Tx) (s : TranslationState) → AreStms n ss → IsTx n x →
      Takes (draws 1) (λ h. AreStms n h.before) s (hold direct ss x s)
  hold_takes direct ss (Const k) s h g = more (omega arith) (gives s (record { before = ss; operand = Number k }) h)
  hold_takes true ss (Temp t) s h g = more (omega arith) (gives s (record { before = ss; operand = Kept (record { 0 = t }) }) h)
  hold_takes false ss (Temp t) s h g = keep_takes ss (Temp t) s h g
  hold_takes direct ss x s h g = keep_takes ss x s h g

  pub hold_next_takes : (direct : Bool) (all : HeldAll) (x : Tx) (s : TranslationState) → AreStms n all.before → IsTx n x →
      Takes (draws 1) (λ more. AreStms n more.before) s (hold_next direct all x s)
  hold_next_takes direct all x s h k =
      then_quiet (hold_takes direct all.before x s h k) λ one s g. gives s (record { before = one.before; operands = all.operands ++ one.operand ∷ [] }) g

  pub assign_takes : (p : Storage) (m : Made) (s : TranslationState) → IsPlace n p → IsMade n m → Takes (draws 1) (IsTs n) s (assign p m s)
  assign_takes (in_temp t) m s h k = more (omega arith) (gives s (put_in t m) (put_near n t m k))
  assign_takes (at_address ss a) m s h k = then_quiet (values_takes m s k) λ x s g. gives s (store_at ss a x) (store_near n ss a x h.0 h.1 g)

  base_takes : (ss : Stms) (x : Tx) (address : Operand → HeldAddress) (s : TranslationState) → AreStms n ss → IsTx n x →
      Takes (draws 1) (λ h. AreStms n h.before) s (hold_base ss x address s)
  base_takes ss x address s h k =
      then_quiet (hold_takes true ss x s h k) λ one s g. gives s (record { before = one.before; address = address one.operand }) g

  hold_address_takes : (ss : Stms) (a : Tx) (s : TranslationState) → AreStms n ss → IsTx n a → Takes (draws 1) (λ h. AreStms n h.before) s (hold_address ss a s)
  hold_address_takes ss (Binary o FrameAddress (Const k)) s h g = more (omega arith) (gives s (record { before = ss; address = InOwnFrame o k }) h)
  hold_address_takes ss (Binary o x (Const k)) s h g = base_takes ss x (λ p. Beside p o k) s h g.0
  hold_address_takes ss a s h g = base_takes ss a (λ p. At p) s h g

  hold_place_takes : (p : Storage) (s : TranslationState) → IsPlace n p → Takes (draws 1) (λ q. IsPlace n (place_held q)) s (hold_place p s)
  hold_place_takes (in_temp t) s h = more (omega arith) (gives s (held_in_temp t) tt)
  hold_place_takes (at_address ss a) s h =
      then_quiet (hold_address_takes ss a s h.0 (wider_tx n (suc n) a (omega arith) h.1)) λ one s g.
      gives s (held_at one.before one.address) (g, held_address_near n one.address)

  -- an assignment draws two more than its value, read first or not
  pub assignment_takes : {m : Cost} (reads_first : Bool) (p : Storage) (e : Want → Translates Made) (behind : Tx → Want → Translates Made) (s : TranslationState) →
      IsPlace n p → ((w : Want) (t : TranslationState) → Takes m (IsMade n) t (e w t)) →
      (reads_first ≡ true → (x : Tx) (w : Want) (t : TranslationState) → IsTx n x → Takes m (IsMade n) t (behind x w t)) →
      Takes (record m { temps = 1 + (m.temps + 1) }) (IsTs n) s (assignment reads_first p e behind s)
  assignment_takes true p e behind s h f g =
      draws_then (hold_place_takes p s h) λ q s k. then_draws (g refl (read_held q) (want_for (place_held q)) s (read_held_near n q k)) λ m s j.
      assign_takes (place_held q) m s k j
  assignment_takes false p e behind s h f g = more (omega arith) (then_draws (f (want_for p) s) λ m s k. assign_takes p m s h k)

  pub field_takes : (k : ℕ) (x : Tx) (s : TranslationState) → IsTx n x → Takes (draws 1) (IsPlace n) s (field_place k x s)
  field_takes k x s h =
      then_quiet (hold_takes true no_stms x s tt h) λ r s g. gives s (field_of k r.before (operand r.operand)) (field_near n k r.before r.operand g)

  pub element_takes : (direct : Bool) (x y : Tx) (s : TranslationState) → IsTx n x → IsTx n y → Takes (draws 2) (IsPlace n) s (element_place direct x y s)
  element_takes direct x y s h k =
      draws_then (hold_takes direct no_stms x s tt h) λ a s g. then_quiet (hold_takes true a.before y s g k) λ i s j.
      gives s (element_of i.before (operand a.operand) (operand i.operand)) (element_near n i.before a.operand i.operand j)

  checked_takes : (direct : Bool) (x y : Tx) (s : TranslationState) → IsTx n x → IsTx n y → Takes (draws 2) (IsMade n) s (checked_quotient direct x y s)
  checked_takes direct x y s h k =
      draws_then (hold_takes direct no_stms x s tt h) λ l s g. then_quiet (hold_takes true l.before y s g k) λ r s j.
      gives s (quotient_of r.before (operand l.operand) (operand r.operand)) (quotient_near n r.before l.operand r.operand j)

  by_number_takes : (direct : Bool) (x : Tx) (k : ℕ) (b : Bool) (s : TranslationState) → IsTx n x →
      Takes (draws 2) (IsMade n) s ((if b then checked_quotient direct x (Const k) else give (value (Binary bin.Div x (Const k)))) s)
  by_number_takes direct x k true s h = checked_takes direct x (Const k) s h tt
  by_number_takes direct x k false s h = more (omega arith) (gives s (value (Binary bin.Div x (Const k))) (h, tt))

  quotient_takes : (direct : Bool) (x y : Tx) (s : TranslationState) → IsTx n x → IsTx n y → Takes (draws 2) (IsMade n) s (quotient direct x y s)
  quotient_takes direct x (Const k) s h g = by_number_takes direct x k (k == 0 || k == minus_one) s h
  quotient_takes direct x y s h g = checked_takes direct x y s h g

  operation_takes : (o : Op) (of_strings direct : Bool) (x y : Tx) (s : TranslationState) → IsTx n x → IsTx n y → Takes (draws 3) (IsMade n) s
      (operation o of_strings direct x y s)
  operation_takes op.Plus of_strings direct x y s h k = more (omega arith) (gives s (value (Binary bin.AddTrap x y)) (h, k))
  operation_takes op.Minus of_strings direct x y s h k = more (omega arith) (gives s (value (Binary bin.SubTrap x y)) (h, k))
  operation_takes op.Times of_strings direct x y s h k =
      draws_then (hold_takes direct no_stms x s tt h) λ l s g. draws_then (hold_takes true l.before y s g k) λ r s j. then_quiet (draws_one s) λ p s _.
      gives s (product_of p r.before (operand l.operand) (operand r.operand)) (product_near n p r.before l.operand r.operand j)
  operation_takes op.Divide of_strings direct x y s h k = more (omega arith) (quotient_takes direct x y s h k)
  operation_takes o of_strings direct x y s h k = more (omega arith) (gives s (test (comparison o of_strings x y)) (comparison_near n o of_strings x y h k))

  pub count_takes : (i : Access) (x y : Tx) (turn : Ts) (s : TranslationState) → IsTx n x → IsTx n y → IsTs n turn →
      Takes (draws 2) (IsTs n) s (count i x y turn s)
  count_takes i x y turn s h k f =
      draws_then (hold_takes false no_stms x s tt h) λ l s g. then_quiet (keep_takes l.before y s g k) λ r s j.
      gives s (count_of r.before i l.operand r.operand turn) (count_near n r.before i l.operand r.operand turn j f)

  pub record_takes : (all : HeldAll) (s : TranslationState) → AreStms n all.before → Takes (draws 1) (IsMade n) s (make_record all s)
  record_takes all s h = then_quiet (draws_one s) λ r s _. gives s (record_of r all) (record_near n r all h)

  pub place_takes : (c : Within) (meaning : Option Means) (s : TranslationState) → c.level ≤ n → Takes (draws 0) (IsPlace n) s (variable_place c meaning s)
  place_takes c None s l = gives s nowhere (tt, tt)
  place_takes c (Some (means.Variable at)) s l = gives s (home_place c (looked_up at s.homes)) (home_near n c (looked_up at s.homes) l)
  place_takes c (Some other) s l = gives s nowhere (tt, tt)

  pub call_takes : (c : Within) (meaning : Option Means) (xs : Txs) (s : TranslationState) → c.level ≤ n → AreTxs n xs →
      Takes (draws 0) (IsTx n) s (call c meaning xs s)
  call_takes c None xs s l h = gives s no_value tt
  call_takes c (Some (means.Standard f)) xs s l h = gives s (call_routine (routine_of f) xs) h
  call_takes c (Some (means.Function at)) xs s l h = gives s (call_declared c xs (looked_up at s.callees)) (declared_near n c xs (looked_up at s.callees) l h)
  call_takes c (Some other) xs s l h = gives s no_value tt

  pub closing_takes : (has_result : Bool) (m : Made) (s : TranslationState) → IsMade n m → Takes (draws 1) (IsTs n) s (closing has_result m s)
  closing_takes true m s h = then_quiet (values_takes m s h) λ x s g. gives s (given_back x) (given_back_near n x g)
  closing_takes false m s h = more (omega arith) (gives s (gives_nothing m) (dropped_near n m h, (tt, tt)))

  pub literal_takes : (bytes : List ℕ) (s : TranslationState) → Takes (adds (bytes ∷ []) [] []) (IsMade n) s (literal bytes s)
  literal_takes bytes s = record {
    value = tt;
    slots = omega arith;
    temps = omega arith;
    params = refl;
    out = refl;
    texts = map-append (λ l. l.text) s.literals (record { label = s.label; text = string_text bytes } ∷ []);
    functions = adds_none s (left (literal bytes s)) refl;
  }

  pub declaration_takes : {m : Cost} (escapes : ℕ → Bool) (level at : ℕ) (e : Want → Translates Made) (s : TranslationState) →
      ((w : Want) (t : TranslationState) → Takes m (IsMade n) t (e w t)) →
      Takes (record m { slots = one_of (escapes at) + m.slots; temps = 1 + (m.temps + 1) }) (IsTs n) s (declaration_of escapes level at e s)
  declaration_takes escapes level at e s f =
      both (declares (escapes at) level at s) λ home s _. then_draws (f (want_for (own_place home)) s) λ x s k.
      assign_takes (own_place home) x s (own_place_near n home) k

  -- Where the right side of an operator draws so many, the whole draws five more at most.
  module _ {m : Cost} (right : Want → Translates Made) (f : (w : Want) (t : TranslationState) → Takes m (IsMade n) t (right w t)) where
    into_takes : (o : Op) (w : Want) (c : Cond) (s : TranslationState) → IsCond n c →
        Takes (record m { temps = 1 + m.temps }) (IsMade n) s (after (arms w s) (λ a t. after (right a t) (λ x. give (deliver w a (chosen o a c x)))))
    into_takes o w c s h =
        draws_then (arms_takes w s) λ a s _. then_quiet (f a s) λ x s k.
        gives s (deliver w a (chosen o a c x)) (deliver_near n w a (chosen o a c x) (chosen_near n o a c x h k))

    connective_takes : (o : Op) (w : Want) (c : Cond) (s : TranslationState) → IsCond n c →
        Takes (record m { temps = 1 + m.temps }) (IsMade n) s (connective o w c right s)
    connective_takes o want.Test c s h = more (omega arith) (then_quiet (f want.Test s) λ x s k. gives s (tested o c x) (tested_near n o c x h k))
    connective_takes o want.Value c s h = into_takes o want.Value c s h
    connective_takes o (want.Into t) c s h = into_takes o (want.Into t) c s h
    connective_takes o want.Dropped c s h = into_takes o want.Dropped c s h

    operator_takes : (o : Op) (of_strings direct : Bool) (l : Made) (s : TranslationState) → IsMade n l →
        Takes (record m { temps = m.temps + 5 }) (IsMade n) s
        (after (value_of l s) (λ x t. after (after (right want.Value t) value_of) (λ y. operation o of_strings direct x y)))
    operator_takes o of_strings direct l s h =
        more (omega arith)
        (draws_then (values_takes l s h) λ x s g. then_draws (then_draws (f want.Value s) λ y s k. values_takes y s k) λ y s k.
        operation_takes o of_strings direct x y s g k)

    pub left_takes : (o : Op) (meaning : Option Means) (direct : Bool) (w : Want) (l : Made) (s : TranslationState) → IsMade n l →
        Takes (record m { temps = m.temps + 5 }) (IsMade n) s (with_left o meaning direct w l right s)
    left_takes op.And meaning direct w l s h = more (omega arith) (connective_takes op.And w (test_of l) s (test_near n l h))
    left_takes op.Or meaning direct w l s h = more (omega arith) (connective_takes op.Or w (test_of l) s (test_near n l h))
    left_takes o meaning direct w l s h = operator_takes o (compares_strings meaning) direct l s h

  -- A choice draws one more than its arms; where it is a conjunction, the other arm takes nothing.

  arm_takes : {m : Cost} {s : TranslationState} {d : Translated Made} (w : Want) → Takes m (IsMade n) s d →
      Takes m (IsTs n) s (after d (λ x. give (as_statement w x)))
  arm_takes w h = then_quiet h λ x s k. gives s (as_statement w x) (statement_near n w x k)

  module _ {m k : Cost} (this other : Want → Translates Made) (f : (w : Want) (t : TranslationState) → Takes m (IsMade n) t (this w t))
      (g : (w : Want) (t : TranslationState) → Takes k (IsMade n) t (other w t)) where
    arms_take : (w : Want) (c : Cond) (s : TranslationState) → IsCond n c →
        Takes (record (and m k) { temps = 1 + (m.temps + k.temps) }) (IsMade n) s (chosen_arm w c this other s)
    arms_take w c s h =
        draws_then (arms_takes w s) λ v s _. both (arm_takes v (f v s)) λ x s i. then_quiet (arm_takes v (g v s)) λ y s j.
        gives s (deliver w v (tree.If c x y)) (deliver_near n w v (tree.If c x y) (h, i, j))

    pub choice_takes : (conjunction : Bool) (w : Want) (c : Cond) (s : TranslationState) → (conjunction ≡ true → k ≡ draws 0) → IsCond n c →
        Takes (record (and m k) { temps = 1 + (m.temps + k.temps) }) (IsMade n) s (choice conjunction w c this other s)
    choice_takes true w c s none h =
        subst (λ l. Takes (record (and m l) { temps = 1 + (m.temps + l.temps) }) (IsMade n) s (connective op.And w c this s)) (sym (none refl))
        (at_most (record m { temps = 1 + m.temps }) (record (and m (draws 0)) { temps = 1 + (m.temps + 0) }) (omega arith) (omega arith)
        (sym (append-nil m.texts)) (sym (append-nil m.counts)) (sym (append-nil m.functions)) (connective_takes this f op.And w c s h))
    choice_takes false w c s none h = arms_take w c s h
