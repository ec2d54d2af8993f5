-- What holds of a value and of all its parts holds of the statement that gives it back.
use Rattle.std.proofs.Common.{◌==◌, ℕ, Bool, true, false}
use Rattle.std.specs.Prelude.{suc, if◌then◌else◌}
use Rattle.tg_tree.specs.Tree.{Tx, Temp, After, Cond, Ts, Move, If, Seq, Return, Stms, no_stms, stm}
use Rattle.tg_tree.specs.Shapes.{EndsFunction, LastEndsFunction}
use Rattle.tg_translate.specs.mirror.Returning.{in_turn, returned, returned_behind, returned_from, returned_last, all_returned_from, value_has_loop}
use Rattle.tg_translate.specs.mirror.Returning.{given_back}
use Rattle.tg_tree.specs.Named.{Named}
use Rattle.tg_translate_laws.specs.Accesses.{AccessesWithin, AccessesWithinStms, AccessesWithinTx, AccessesWithinCond}
use Rattle.tg_translate_laws.proofs.Fine.{FineTs, FineStms, FineTx, FineCond}

-- a property of trees that a tree has with its parts
pub record HoldsOfParts (OfTs : Ts → Type 0) (OfStms : Stms → Type 0) (OfTx : Tx → Type 0) (OfCond : Cond → Type 0) : Type 0 where
  pub after : (s : Ts) (x : Tx) → OfTx (After s x) → OfTs s × OfTx x
  pub moved : (i : ℕ) (x : Tx) → OfTs (Move i x) → OfTx x
  pub arms : (c : Cond) (s t : Ts) → OfTs (If c s t) → OfCond c × OfTs s × OfTs t
  pub all : (ss : Stms) → OfTs (Seq ss) → OfStms ss
  pub first : (s : Ts) (ss : Stms) → OfStms (stm s ss) → OfTs s × OfStms ss
  pub return : (x : Tx) → OfTx x → OfTs (Return x)
  pub choice : (c : Cond) (s t : Ts) → OfCond c → OfTs s → OfTs t → OfTs (If c s t)
  pub sequence : (ss : Stms) → OfStms ss → OfTs (Seq ss)
  pub none : OfStms no_stms
  pub more : (s : Ts) (ss : Stms) → OfTs s → OfStms ss → OfStms (stm s ss)

module _ (OfTs : Ts → Type 0) (OfStms : Stms → Type 0) (OfTx : Tx → Type 0) (OfCond : Cond → Type 0) (holds : HoldsOfParts OfTs OfStms OfTx OfCond) where
  both : (s t : Ts) → OfTs s → OfTs t → OfTs (in_turn s t)
  both s t h k = holds.sequence _ (holds.more s _ h (holds.more t no_stms k holds.none))

  by_test : (b : Bool) (s t : Ts) → OfTs s → OfTs t → OfTs (if b then s else t)
  by_test true s t h k = h
  by_test false s t h k = k

  behind : (s : Ts) (x : Tx) (from : ℕ → Ts) (last : Ts) → OfTs s → OfTx x → ((i : ℕ) → OfTx (Temp i) → OfTs (from i)) → OfTs last →
      OfTs (returned_behind s x from last)
  behind s (Temp i) from last h k f l = f i k
  behind s x from last h k f l = both s last h l

  lasts : (s : Ts) (ss : Stms) (last : Ts) (rest : Stms) → OfTs s → OfTs last → OfStms rest → OfStms (returned_last s ss last rest)
  lasts s no_stms last rest h k l = holds.more last no_stms k holds.none
  lasts s (stm t ss) last rest h k l = holds.more s rest h l

  mutual
    returned_holds : (x : Tx) → OfTx x → OfTs (returned x)
    returned_holds (After s x) h =
        let k = holds.after s x h in
        behind s x (λ i. returned_from i s) (returned x) k.0 k.1 (λ i g. from_holds i s g k.0) (returned_holds x k.1)
    returned_holds x h = holds.return x h

    from_holds : (i : ℕ) (s : Ts) → OfTx (Temp i) → OfTs s → OfTs (returned_from i s)
    from_holds i (Move j x) g h =
        by_test (i == j) (returned x) _ (returned_holds x (holds.moved j x h)) (both (Move j x) (Return (Temp i)) h (holds.return (Temp i) g))
    from_holds i (If c s t) g h =
        let k = holds.arms c s t h in
        both _ _ (holds.choice c _ _ k.0 (from_holds i s g k.1) (holds.sequence no_stms holds.none)) (from_holds i t g k.2)
    from_holds i (Seq ss) g h = holds.sequence _ (all_hold i ss g (holds.all ss h))
    from_holds i s g h = both s (Return (Temp i)) h (holds.return (Temp i) g)

    all_hold : (i : ℕ) (ss : Stms) → OfTx (Temp i) → OfStms ss → OfStms (all_returned_from i ss)
    all_hold i no_stms g h = holds.more _ no_stms (holds.return (Temp i) g) holds.none
    all_hold i (stm s ss) g h =
        let k = holds.first s ss h in lasts s ss (returned_from i s) (all_returned_from i ss) k.0 (from_holds i s g k.0) (all_hold i ss g k.1)

  -- a value that is given back has it
  pub given_back_holds : (x : Tx) → OfTx x → OfTs (given_back x)
  given_back_holds x h = by_test (value_has_loop x) (Return x) (returned x) (holds.return x h) (returned_holds x h)

-- Its names and breaks are fine where the value's are, and its accesses are as near.

pub fine_parts : (B : Type 0) (A : Named → Type 0) (n : ℕ) → HoldsOfParts (FineTs B A n) (FineStms B A n) (FineTx B A n) (FineCond B A n)
fine_parts B A n = record {
  after = λ s x h. h;
  moved = λ i x h. h.1;
  arms = λ c s t h. h;
  all = λ ss h. h;
  first = λ s ss h. h;
  return = λ x h. h;
  choice = λ c s t h k l. (h, k, l);
  sequence = λ ss h. h;
  none = tt;
  more = λ s ss h k. (h, k);
}

near_parts : (n : ℕ) → HoldsOfParts (AccessesWithin n) (AccessesWithinStms n) (AccessesWithinTx n) (AccessesWithinCond n)
near_parts n = record {
  after = λ s x h. h;
  moved = λ i x h. h;
  arms = λ c s t h. h;
  all = λ ss h. h;
  first = λ s ss h. h;
  return = λ x h. h;
  choice = λ c s t h k l. (h, k, l);
  sequence = λ ss h. h;
  none = tt;
  more = λ s ss h k. (h, k);
}

pub given_back_near : (n : ℕ) (x : Tx) → AccessesWithinTx (suc n) x → AccessesWithin (suc n) (given_back x)
given_back_near n x h =
    given_back_holds (AccessesWithin (suc n)) (AccessesWithinStms (suc n)) (AccessesWithinTx (suc n)) (AccessesWithinCond (suc n)) (near_parts (suc n)) x h

-- What gives a value back ends its function.

ends_behind : (s : Ts) (ss : Stms) → LastEndsFunction ss → LastEndsFunction (stm s ss)
ends_behind s no_stms h = absurd h
ends_behind s (stm t ss) h = h

value_ends : (s : Ts) (x : Tx) (from : ℕ → Ts) (last : Ts) → ((i : ℕ) → EndsFunction (from i)) → EndsFunction last → EndsFunction (returned_behind s x from last)
value_ends s (Temp i) from last h k = h i
value_ends s x from last h k = k

last_ends : (s : Ts) (ss : Stms) (last : Ts) (rest : Stms) → EndsFunction last → LastEndsFunction rest → LastEndsFunction (returned_last s ss last rest)
last_ends s no_stms last rest h k = h
last_ends s (stm t ss) last rest h k = ends_behind s rest k

either_ends : (b : Bool) (s t : Ts) → EndsFunction s → EndsFunction t → EndsFunction (if b then s else t)
either_ends true s t h k = h
either_ends false s t h k = k

mutual
  returned_ends : (x : Tx) → EndsFunction (returned x)
  returned_ends (After s x) = value_ends s x (λ i. returned_from i s) (returned x) (λ i. from_ends i s) (returned_ends x)
  returned_ends x = tt

  from_ends : (i : ℕ) (s : Ts) → EndsFunction (returned_from i s)
  from_ends i (Move j x) = either_ends (i == j) (returned x) _ (returned_ends x) tt
  from_ends i (If c s t) = from_ends i t
  from_ends i (Seq ss) = all_end i ss
  from_ends i s = tt

  all_end : (i : ℕ) (ss : Stms) → LastEndsFunction (all_returned_from i ss)
  all_end i no_stms = tt
  all_end i (stm s ss) = last_ends s ss (returned_from i s) (all_returned_from i ss) (from_ends i s) (all_end i ss)

pub given_back_ends : (x : Tx) → EndsFunction (given_back x)
given_back_ends x = either_ends (value_has_loop x) (Return x) (returned x) tt (returned_ends x)
