-- What is made what its place wants is fine, where what it is made of is.
use Rattle.std.proofs.Common.{◌<◌, ℕ}
use Rattle.tg_tree.specs.Tree.{Const, Temp, After, Cond, Ts, Stms, no_stms, stm}
use Rattle.tg_translate.specs.declared.wants.Want.{Want}
use Rattle.tg_translate.specs.declared.wants.Want.TheVariants as want
use Rattle.tg_translate.specs.mirror.States.{TranslationState, Translated, after, give, fresh}
use Rattle.tg_translate.specs.mirror.Wants.{Made, value, done, test, truth_into, value_of, put_in, dropped, test_of, arms, as_statement, taken_from, deliver}
use Rattle.tg_translate.specs.mirror.Wants.{followed, value_behind, done_behind, behind_some, behind}
use Rattle.tg_translate_laws.proofs.Fine.{join_fine_stms}
use Rattle.tg_translate_laws.proofs.Keeping.{Asks, Where, bind, cond_on, draws_temp, given, stms_on, want_on, Ready, Yields, GoodTx, GoodTs, GoodStms}
use Rattle.tg_translate_laws.proofs.Keeping.{GoodCond, GoodMade, GoodWant, KnowsAt}

module _ (asks : Asks) where
  truth_good : (n : ℕ) (s : TranslationState) (i : ℕ) (d : Cond) → (asks.temps → i < s.frame.temps) → GoodCond asks n s d → GoodTs asks n s
      (truth_into i d)
  truth_good n s i d h k = (k, (h, tt), (h, tt))

  pub put_good : (n : ℕ) (s : TranslationState) (i : ℕ) (m : Made) → (asks.temps → i < s.frame.temps) → GoodMade asks n s m → GoodTs asks n s
      (put_in i m)
  put_good n s i (value x) h k = (h, k)
  put_good n s i (done x) h k = k
  put_good n s i (test d) h k = truth_good n s i d h k

  pub dropped_good : (n : ℕ) (s : TranslationState) (m : Made) → GoodMade asks n s m → GoodTs asks n s (dropped m)
  dropped_good n s (value x) k = k
  dropped_good n s (done x) k = k
  dropped_good n s (test d) k = (k, tt, tt)

  pub test_good : (n : ℕ) (s : TranslationState) (m : Made) → GoodMade asks n s m → GoodCond asks n s (test_of m)
  test_good n s (value x) k = (k, tt)
  test_good n s (done x) k = ((k, tt), tt)
  test_good n s (test d) k = k

  pub statement_good : (n : ℕ) (s : TranslationState) (w : Want) (m : Made) → GoodWant asks s w → GoodMade asks n s m → GoodTs asks n s
      (as_statement w m)
  statement_good n s want.Value m h k = dropped_good n s m k
  statement_good n s (want.Into i) m h k = put_good n s i.0 m h k
  statement_good n s want.Dropped m h k = dropped_good n s m k
  statement_good n s want.Test m h k = dropped_good n s m k

  taken_good : (n : ℕ) (s : TranslationState) (a : Want) (x : Ts) → GoodWant asks s a → GoodTs asks n s x → GoodMade asks n s (taken_from a x)
  taken_good n s want.Value x h k = k
  taken_good n s (want.Into i) x h k = (k, h)
  taken_good n s want.Dropped x h k = k
  taken_good n s want.Test x h k = k

  pub deliver_good : (n : ℕ) (s : TranslationState) (w a : Want) (x : Ts) → GoodWant asks s a → GoodTs asks n s x → GoodMade asks n s
      (deliver w a x)
  deliver_good n s want.Value a x h k = taken_good n s a x h k
  deliver_good n s (want.Into i) a x h k = k
  deliver_good n s want.Dropped a x h k = k
  deliver_good n s want.Test a x h k = taken_good n s a x h k

  pub followed_good : (n : ℕ) (s : TranslationState) (ss : Stms) (x : Ts) → GoodStms asks n s ss → GoodTs asks n s x → GoodStms asks n s
      (followed ss x)
  followed_good n s ss x h k = join_fine_stms asks.breaks (KnowsAt asks s) n ss (stm x no_stms) h (k, tt)

-- What actions yield.
module _ {asks : Asks} {c : Where} where
  pub value_yields : {s : TranslationState} (m : Made) → Ready asks c s → GoodMade asks c.loops s m → Yields asks c s
      (λ t x. GoodTx asks c.loops t x) (value_of m s)
  value_yields (value x) r k = given x r k
  value_yields (done x) r k = given (After x (Const 0)) r
      (k, tt)
  value_yields (test d) r k =
      bind (draws_temp r)
      (λ i t st r' h. given (After (truth_into i d) (Temp i)) r'
      (truth_good asks c.loops t i d h (cond_on st c.loops d k), h))

  fresh_arms : {s : TranslationState} → Ready asks c s → Yields asks c s (GoodWant asks)
      (after (fresh s) (λ i. give (want.Into (record { 0 = i }))))
  fresh_arms r =
      bind (draws_temp r)
      (λ i t st r' h. given (want.Into (record { 0 = i })) r' h)

  pub arms_yield : {s : TranslationState} (w : Want) → Ready asks c s → GoodWant asks s w → Yields asks c s (GoodWant asks) (arms w s)
  arms_yield want.Value r h = fresh_arms r
  arms_yield (want.Into i) r h = given (want.Into i) r h
  arms_yield want.Dropped r h = given want.Dropped r tt
  arms_yield want.Test r h = fresh_arms r

  value_behind_yields : {s : TranslationState} (ss : Stms) (m : Made) → Ready asks c s → GoodStms asks c.loops s ss → GoodMade asks c.loops s
      m →
      Yields asks c s (λ t m. GoodMade asks c.loops t m) (after (value_of m s) (λ x. give (value_behind ss x)))
  value_behind_yields ss m r h k =
      bind (value_yields m r k)
      (λ x t st r' g. given (value_behind ss x) r'
      (stms_on st c.loops ss h, g))

  behind_some_yields : {s : TranslationState} (w : Want) (ss : Stms) (m : Made) → Ready asks c s → GoodWant asks s w → GoodStms asks c.loops s
      ss → GoodMade asks c.loops s m →
      Yields asks c s (λ t m. GoodMade asks c.loops t m) (behind_some w ss m s)
  behind_some_yields want.Value ss m r g h k = value_behind_yields ss m r h k
  behind_some_yields {s} (want.Into i) ss m r g h k =
      given (done_behind (want.Into i) ss m) r
      (followed_good asks c.loops s ss (put_in i.0 m) h (put_good asks c.loops s i.0 m g k))
  behind_some_yields {s} want.Dropped ss m r g h k =
      given (done_behind want.Dropped ss m) r
      (followed_good asks c.loops s ss (dropped m) h (dropped_good asks c.loops s m k))
  behind_some_yields want.Test ss m r g h k = value_behind_yields ss m r h k

  pub behind_yields : {s : TranslationState} (w : Want) (ss : Stms) (m : Made) → Ready asks c s → GoodWant asks s w → GoodStms asks c.loops s
      ss → GoodMade asks c.loops s m →
      Yields asks c s (λ t m. GoodMade asks c.loops t m) (behind w ss m s)
  behind_yields w no_stms m r g h k = given m r k
  behind_yields w (stm x ss) m r g h k = behind_some_yields w (stm x ss) m r g h k

  -- what an expression's place makes of what it became
  module _ {s : TranslationState} {d : Translated Made} (h : Yields asks c s (λ t m. GoodMade asks c.loops t m) d) where
    pub value_from_yields : Yields asks c s (λ t x. GoodTx asks c.loops t x) (after d value_of)
    value_from_yields =
        bind h
        (λ m t st r k. value_yields m r k)

    pub condition_from_yields : Yields asks c s (λ t x. GoodCond asks c.loops t x) (after d (λ m. give (test_of m)))
    condition_from_yields =
        bind h
        (λ m t st r k. given (test_of m) r
        (test_good asks c.loops t m k))

    pub statement_from_yields : Yields asks c s (λ t x. GoodTs asks c.loops t x) (after d (λ m. give (dropped m)))
    statement_from_yields =
        bind h
        (λ m t st r k. given (dropped m) r
        (dropped_good asks c.loops t m k))

    pub arm_from_yields : (w : Want) → GoodWant asks s w → Yields asks c s (λ t x. GoodTs asks c.loops t x)
        (after d (λ m. give (as_statement w m)))
    arm_from_yields w g =
        bind h
        (λ m t st r k. given (as_statement w m) r
        (statement_good asks c.loops t w m (want_on st w g) k))
