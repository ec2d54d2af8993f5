-- The walk over a program's text: each part is translated to what is fine, and keeps what stands.
use Rattle.std.proofs.Common.{◌+◌, ℕ, Bool, true, false, Option, List, [], ◌∷◌, ◌++◌, refl}
use Rattle.std.specs.Prelude.{is_some}
use Rattle.tg_syntax.specs.declared.trees.Op.{Op}
use Rattle.tg_syntax.specs.declared.trees.Op.TheVariants.{And, Or}
use Rattle.tg_syntax.specs.Tree as source
use Rattle.tg_syntax.specs.Tree.{Exp, Nil, Break, Int, Text, Read, Call, Neg, Binary, Make, Fill, Assign, If, When, While, For, Let, Seq, Simple}
use Rattle.tg_syntax.specs.Tree.{Field, Index, Exps, no_exps, exp, Inits, no_inits, init, Decs, no_decs, types, variable, functions, FunDecs}
use Rattle.tg_syntax.specs.Tree.{no_functions, function}
use Rattle.tg_tree.specs.Tree as tree
use Rattle.tg_tree.specs.Tree.{Tx, Const, Txs, no_txs, tx, Cond, Stms, no_stms}
use Rattle.tg_tree.specs.Forms.{nothing}
use Rattle.tg_tree.specs.glue.Lists.{join_txs}
use Rattle.tg_typecheck.specs.declared.notes.Means.{Means}
use Rattle.tg_translate.specs.declared.wants.Want.{Want}
use Rattle.tg_translate.specs.declared.wants.Want.TheVariants as want
use Rattle.tg_translate.specs.mirror.States.{TranslationState, Translates, after, give}
use Rattle.tg_translate.specs.mirror.Wants.{Made, value, done, test_of, value_of, dropped, arms, deliver, followed}
use Rattle.tg_translate.specs.mirror.Constructs.{Storage, HeldAll, none_held, own_place, read, want_for, read_held, place_held, make_array, operation}
use Rattle.tg_translate.specs.mirror.Constructs.{negation, repeat_while}
use Rattle.tg_translate.specs.mirror.Choices.{left_want, connected, tested, chosen}
use Rattle.tg_translate.specs.mirror.Scopes.{field_number, compares_strings}
use Rattle.tg_translate.specs.mirror.Purity.{assigns_nothing, inits_assign_nothing}
use Rattle.tg_translate.specs.mirror.Updates.{begins_with}
use Rattle.tg_translate.specs.mirror.Functions.{at_of, declare_functions, body}
use Rattle.tg_translate.specs.mirror.Translate.{connective, with_left, chosen_arm, choice, is_conjunction, assignment, Begun, declaration_of, expression}
use Rattle.tg_translate.specs.mirror.Translate.{behind_read, locate, values, fields, sequence, declarations, bodies}
use Rattle.tg_translate_laws.specs.Standing.{BreaksStand, BreaksStandPlace, BreaksStandExps, BreaksStandInits, BreaksStandDecs, BreaksStandBodies, owned_by}
use Rattle.tg_translate_laws.specs.Standing.{AreApart, Reaches, ReachesPlace, ReachesExps, ReachesInits, ReachesDecs, ReachesBodies}
use Rattle.tg_translate_laws.proofs.Fine.{join_fine_txs}
use Rattle.tg_translate_laws.proofs.Keeping.{Asks, Where, access_on, bind, cond_on, given, held_on, onward, place_on, stay, stms_on, ts_on, tx_on, txs_on}
use Rattle.tg_translate_laws.proofs.Keeping.{want_on, Ready, Step, Yields, GoodWant, GoodCond, GoodHeld, GoodMade, GoodPlace, GoodStms, GoodTs, GoodTx}
use Rattle.tg_translate_laws.proofs.Keeping.{GoodTxs, KnowsAt}
use Rattle.tg_translate_laws.proofs.Wanting as wanting
use Rattle.tg_translate_laws.proofs.Constructing as constructing
use Rattle.tg_translate_laws.proofs.Scoping as scoping
use Rattle.tg_translate_laws.proofs.Scoping.{more_contained}
use Rattle.tg_translate_laws.proofs.Declaring as declaring
use Rattle.tg_translate_laws.proofs.Declaring.{owning, with_own, turning, testing, owned_more, leave_with, leave_yields, enter_turn, enter_test}
use Rattle.tg_translate_laws.proofs.Nesting as nesting
use Rattle.tg_translate_laws.proofs.Nesting.{nested}

module _ (asks : Asks) where
  abbrev IsBegun : Where → TranslationState → Begun → Type 0
  IsBegun c t b = GoodStms asks c.loops t b.before × GoodMade asks c.loops t b.last

  abbrev DeclaredIn : Where → List ℕ → TranslationState → Stms → Type 0
  DeclaredIn c own t ss = GoodStms asks c.loops t ss × Ready asks (with_own own c) t

  -- Connectives and operators, where the right side is translated to what is fine.

  connected_good : (o : Op) (n : ℕ) (s : TranslationState) (x y : Cond) → GoodCond asks n s x →
      GoodCond asks n s y →
      GoodCond asks n s (connected o x y)
  connected_good And n s x y h k = (h, k)
  connected_good o n s x y h k = (h, k)

  chosen_good : (o : Op) (n : ℕ) (s : TranslationState) (w : Want) (d : Cond) (m : Made) → GoodWant asks s w → GoodCond asks n s d →
      GoodMade asks n s m → GoodTs asks n s (chosen o w d m)
  chosen_good And n s w d m g h k = (
    h,
    wanting.statement_good asks n s w m g k,
    wanting.statement_good asks n s w
        (value (Const 0)) g tt,
  )
  chosen_good o n s w d m g h k = (
    h,
    wanting.statement_good asks n s w (value (Const 1)) g tt,
    wanting.statement_good asks n s w m g k,
  )

  abbrev RightYields : Where → TranslationState → (Want → Translates Made) → Type 0
  RightYields c s right =
      (t : TranslationState) (w : Want) → Step asks c.kept s t → Ready asks c t → GoodWant asks t w → Yields asks c t (GoodMade asks c.loops) (right w t)

  module _ (c : Where) (s : TranslationState) (right : Want → Translates Made) (then_right : RightYields c s right) where
    into_arms : (o : Op) (w : Want) (d : Cond) → Ready asks c s → GoodWant asks s w → GoodCond asks c.loops s d →
        Yields asks c s (GoodMade asks c.loops) (after (arms w s) (λ a t. after (right a t) (λ m. give (deliver w a (chosen o a d m)))))
    into_arms o w d r g h =
        bind (wanting.arms_yield w r g)
        (λ a t st rt ga.
        bind (then_right t a st rt ga)
        (λ m u su ru k.
        let gu = want_on su a ga in
        let hu = cond_on (onward st su) c.loops d h
        in
        given (deliver w a (chosen o a d m)) ru
        (wanting.deliver_good asks c.loops u w a (chosen o a d m) gu
        (chosen_good o c.loops u a d m gu hu k))))

    connective_yields : (o : Op) (w : Want) (d : Cond) → Ready asks c s → GoodWant asks s w → GoodCond asks c.loops s d → Yields asks c s
        (GoodMade asks c.loops) (connective o w d right s)
    connective_yields o want.Test d r g h =
        bind (then_right s want.Test stay r tt)
        (λ m t st rt k. given (tested o d m) rt
        (connected_good o c.loops t d (test_of m) (cond_on st c.loops d h)
        (wanting.test_good asks c.loops t m k)))
    connective_yields o want.Value d r g h = into_arms o want.Value d r g h
    connective_yields o (want.Into i) d r g h = into_arms o (want.Into i) d r g h
    connective_yields o want.Dropped d r g h = into_arms o want.Dropped d r g h

    operator_yields : (o : Op) (strings direct : Bool) (left : Made) → Ready asks c s → GoodMade asks c.loops s left →
        Yields asks c s (GoodMade asks c.loops) (after (value_of left s) (λ x t. after (after (right want.Value t) value_of)
        (λ y. operation o strings direct x y)))
    operator_yields o strings direct left r h =
        bind (wanting.value_yields left r h)
        (λ x t st rt k.
        bind (wanting.value_from_yields (then_right t want.Value st rt tt))
        (λ y u su ru j. constructing.operation_yields o strings direct x y ru
        (tx_on su c.loops x k) j))

    left_yields : (o : Op) (meaning : Option Means) (direct : Bool) (w : Want) (left : Made) → Ready asks c s → GoodWant asks s
        w → GoodMade asks c.loops s left →
        Yields asks c s (GoodMade asks c.loops) (with_left o meaning direct w left right s)
    left_yields And meaning direct w left r g h = connective_yields And w (test_of left) r g
        (wanting.test_good asks c.loops s left h)
    left_yields Or meaning direct w left r g h = connective_yields Or w (test_of left) r g
        (wanting.test_good asks c.loops s left h)
    left_yields o meaning direct w left r g h = operator_yields o (compares_strings meaning) direct left r h

  module _ (c : Where) (s : TranslationState) (this other : Want → Translates Made) (then_this : RightYields c s this) (then_other : RightYields c s other) where
    chosen_yields : (w : Want) (d : Cond) → Ready asks c s → GoodWant asks s w → GoodCond asks c.loops s d →
        Yields asks c s (GoodMade asks c.loops) (chosen_arm w d this other s)
    chosen_yields w d r g h =
        bind (wanting.arms_yield w r g)
        (λ v t st rt gv.
        bind (wanting.arm_from_yields (then_this t v st rt gv) v gv)
        (λ x u su ru j.
        let gu = want_on su v gv in
        bind (wanting.arm_from_yields (then_other u v (onward st su) ru gu) v gu)
        (λ y o so ro i.
        given (deliver w v (tree.If d x y)) ro
        (wanting.deliver_good asks c.loops o w v (tree.If d x y)
        (want_on so v gu) (
          cond_on (onward st (onward su so)) c.loops d h,
          ts_on so c.loops x j,
          i,
        )))))

    choice_yields : (conjunction : Bool) (w : Want) (d : Cond) → Ready asks c s → GoodWant asks s w → GoodCond asks c.loops s d →
        Yields asks c s (GoodMade asks c.loops) (choice conjunction w d this other s)
    choice_yields true w d r g h = connective_yields c s this then_this And w d r g h
    choice_yields false w d r g h = chosen_yields w d r g h

  -- an assignment, where its value is translated to what is fine, also after a read that is fine
  assignment_yields : (c : Where) (s : TranslationState) (reads_first : Bool) (p : Storage) (e : Want → Translates Made) (behind : Tx → Want → Translates Made) →
      Ready asks c s → GoodPlace asks c.loops s p → RightYields c s e →
      ((t : TranslationState) (x : Tx) (w : Want) → Ready asks c t → Step asks c.kept s t → GoodTx asks c.loops t x → GoodWant asks t w →
      Yields asks c t (GoodMade asks c.loops) (behind x w t)) →
      Yields asks c s (GoodTs asks c.loops) (assignment reads_first p e behind s)
  assignment_yields c s true p e behind r h then_e then_behind =
      bind (constructing.hold_place_yields p r h)
      (λ held t st rt k.
      bind (then_behind t (read_held held) (want_for (place_held held)) rt st
      (constructing.read_held_good asks c.loops t held k)
      (constructing.want_for_good asks c.loops t (place_held held) k))
      (λ m u su ru j. constructing.assign_yields (place_held held) m ru
      (place_on su c.loops (place_held held) k) j))
  assignment_yields c s false p e behind r h then_e then_behind =
      bind (then_e s (want_for p) stay r (constructing.want_for_good asks c.loops s p h))
      (λ m t st rt j. constructing.assign_yields p m rt
      (place_on st c.loops p h) j)

  left_want_good : (s : TranslationState) (o : Op) → GoodWant asks s (left_want o)
  left_want_good s And = tt
  left_want_good s Or = tt
  left_want_good s o = tt

  -- a declaration, where its value is translated to what is fine
  declaration_yields : (c : Where) (s : TranslationState) (at : ℕ) (e : Want → Translates Made) → Ready asks c s →
      (asks.temps → AreApart (at ∷ []) c.kept) →
      ((t : TranslationState) (w : Want) → Ready asks (owning at c) t → GoodWant asks t w → Yields asks (owning at c) t (GoodMade asks c.loops) (e w t)) →
      Yields asks c s (λ t x. GoodTs asks c.loops t x × Ready asks (owning at c) t)
      (declaration_of asks.findings.escapes c.within.level at e s)
  declaration_yields c s at e r apart more =
      bind (declaring.declare_yields asks c s at r apart)
      (λ home t st rt h.
      let p = constructing.own_place_good asks c.loops t home h.0 in
      leave_with refl (λ x k. more_contained at x c.own k) rt
      (bind (more t (want_for (own_place home)) h.1 (constructing.want_for_good asks c.loops t
      (own_place home) p))
      (λ m u su ru k. constructing.assign_yields (own_place home) m ru
      (place_on su c.loops (own_place home) p) k)))

  abbrev Walks : Where → TranslationState → (Want → Translates Made) → Type 0
  Walks c s e = (w : Want) → Ready asks c s → GoodWant asks s w → Yields asks c s (GoodMade asks c.loops) (e w s)

  of_value : (e : Exp) (c : Where) (s : TranslationState) → Yields asks c s (GoodMade asks c.loops) (expression asks.findings e want.Value c.within s) →
      Yields asks c s (GoodTx asks c.loops) (after (expression asks.findings e want.Value c.within s) value_of)
  of_value e c s h = wanting.value_from_yields h

  of_statement : (e : Exp) (c : Where) (s : TranslationState) → Yields asks c s (GoodMade asks c.loops)
      (expression asks.findings e want.Dropped c.within s) →
      Yields asks c s (GoodTs asks c.loops) (after (expression asks.findings e want.Dropped c.within s) (λ m. give (dropped m)))
  of_statement e c s h = wanting.statement_from_yields h

  mutual
    walk : (e : Exp) (c : Where) (s : TranslationState) → (asks.breaks → BreaksStand c.in_loop e) → (asks.temps → Reaches asks.findings c.own c.kept e) →
        Walks c s (λ w. expression asks.findings e w c.within)
    walk (Nil _) c s b q w r g = given (value (Const 0)) r tt
    walk (Int _ n) c s b q w r g = given (value (Const n)) r tt
    walk (Break _) c s b q w r g =
        given (done (tree.Break c.within.leave)) r (λ a. r.loops a (b a))
    walk (Text _ bytes) c s b q w r g = scoping.literal_yields asks c s bytes r
    walk (Read _ v) c s b q w r g =
        bind (walk_place v c s b q r)
        (λ p t st rt k. given (value (read p)) rt
        (constructing.read_good asks c.loops t p k))
    walk (Call _ f args) c s b q w r g =
        bind (walk_values args no_txs c s b q r tt)
        (λ xs t st rt k.
        bind (scoping.call_yields asks c t (asks.findings.meaning (at_of f)) xs rt k)
        (λ x u su ru j. given (value x) ru j))
    walk (Neg _ a) c s b q w r g =
        bind (of_value a c s (walk a c s b q want.Value r tt))
        (λ x t st rt k. given (value (negation x)) rt
        (constructing.negation_good asks c.loops t x k))
    walk (Binary _ o at x y) c s b q w r g =
        bind (walk x c s (λ a. (b a).0) (λ a. (q a).0) (left_want o) r (left_want_good s o))
        (λ left t st rt k.
        left_yields c t (λ v. expression asks.findings y v c.within)
        (λ u v su ru gu. walk y c u (λ a. (b a).1) (λ a. (q a).1) v ru gu)
        o (asks.findings.meaning at) (assigns_nothing y) w left rt (want_on st w g)
        k)
    walk (Make _ _ inits) c s b q w r g =
        bind (walk_fields inits (inits_assign_nothing inits) none_held c s b q r (tt, tt))
        (λ all t st rt k. constructing.record_yields all rt k)
    walk (Fill _ _ x y) c s b q w r g =
        bind (of_value x c s (walk x c s (λ a. (b a).0) (λ a. (q a).0) want.Value r tt))
        (λ x t st rt k.
        bind (of_value y c t (walk y c t (λ a. (b a).1) (λ a. (q a).1) want.Value rt tt))
        (λ y u su ru j. given (value (make_array x y)) ru
        (constructing.make_array_good asks c.loops u x y
        (tx_on su c.loops x k) j)))
    walk (Assign _ v e) c s b q w r g =
        bind (walk_place v c s (λ a. (b a).0) (λ a. (q a).0) r)
        (λ p t st rt k.
        bind (assignment_yields c t (begins_with asks.findings.meaning e v) p
        (λ w. expression asks.findings e w c.within)
        (λ x w. behind_read asks.findings e x w c.within) rt k
        (λ u w su ru gu. walk e c u (λ a. (b a).1) (λ a. (q a).1) w ru gu)
        (λ u x w ru su h gu. walk_behind e x c u (λ a. (b a).1) (λ a. (q a).1) w ru gu h))
        (λ x u su ru i. given (done x) ru i))
    walk (If _ d x y) c s b q w r g =
        bind (wanting.condition_from_yields
        (walk d c s (λ a. (b a).0) (λ a. (q a).0) want.Test r tt))
        (λ d t st rt k.
        choice_yields c t (λ v. expression asks.findings x v c.within)
        (λ v. expression asks.findings y v c.within)
        (λ u v su ru gu. walk x c u (λ a. (b a).1) (λ a. (q a).1) v ru gu)
        (λ u v su ru gu. walk y c u (λ a. (b a).2) (λ a. (q a).2) v ru gu)
        (is_conjunction w y) w d rt (want_on st w g) k)
    walk (When _ d x) c s b q w r g =
        bind (wanting.condition_from_yields
        (walk d c s (λ a. (b a).0) (λ a. (q a).0) want.Test r tt))
        (λ d t st rt k.
        bind (of_statement x c t
        (walk x c t (λ a. (b a).1) (λ a. (q a).1) want.Dropped rt tt))
        (λ x u su ru j. given (done (tree.If d x nothing)) ru
        (cond_on su c.loops d k, j, tt)))
    walk (While _ d x) c s b q w r g =
        bind (leave_yields refl (λ at k. k) r
        (wanting.condition_from_yields
        (walk d (testing c) s (λ a. (b a).0) (λ a. (q a).0) want.Test (enter_test r) tt)))
        (λ d t st rt k.
        bind (leave_yields refl (λ at k. k) rt (of_statement x (turning c) t
        (walk x (turning c) t (λ a. (b a).1) (λ a. (q a).1) want.Dropped (enter_turn rt)
        tt)))
        (λ x u su ru j. given (done (repeat_while d x)) ru
        (constructing.repeat_good asks c.loops u d x
        (cond_on su (c.loops + 1) d k) j)))
    walk (For _ i low high a) c s b q w r g =
        bind (of_value low c s (walk low c s (λ a. (b a).0) (λ a. (q a).1) want.Value r tt))
        (λ x t st rt k.
        bind (of_value high c t (walk high c t (λ a. (b a).1) (λ a. (q a).2) want.Value rt tt))
        (λ y u su ru j.
        bind (declaring.declare_yields asks c u (at_of i) ru (λ a. (q a).0))
        (λ home v sv rv h.
        let d : Where = turning (owning (at_of i) c) in
        bind (leave_yields refl (λ at k. more_contained (at_of i) at c.own k) rv
        (of_statement a d v (walk a d v (λ a. (b a).2) (λ a. (q a).3) want.Dropped
        (enter_turn h.1) tt)))
        (λ turn z sz rz n.
        let from_t = onward su (onward sv sz) in
        let from_u = onward sv sz in
        bind (constructing.count_yields home x y turn rz
        (access_on sz home h.0)
        (tx_on from_t c.loops x k)
        (tx_on from_u c.loops y j) n)
        (λ x o so ro p. given (done x) ro p)))))
    walk (Let _ ds es) c s b q w r g =
        let d : Where = with_own (owned_by ds c.own) c in
        bind (walk_decs ds no_stms c s (λ a. (b a).0) (λ a. (q a).0) r tt)
        (λ before t st rt k.
        let gt = want_on st w g in
        bind (leave_yields refl
        (owned_more ds c.own) rt
        (walk_sequence es w before d t (λ a. (b a).1) (λ a. (q a).1) k.1 gt k.0))
        (λ begun u su ru j. wanting.behind_yields w begun.before begun.last ru
        (want_on su w gt) j.0 j.1))
    walk (Seq _ es) c s b q w r g =
        bind (walk_sequence es w no_stms c s b q r g tt)
        (λ begun t st rt k. wanting.behind_yields w begun.before begun.last rt
        (want_on st w g) k.0 k.1)

    walk_behind : (e : Exp) (x : Tx) (c : Where) (s : TranslationState) → (asks.breaks → BreaksStand c.in_loop e) →
        (asks.temps → Reaches asks.findings c.own c.kept e) →
        (w : Want) → Ready asks c s → GoodWant asks s w → GoodTx asks c.loops s x → Yields asks c s (GoodMade asks c.loops)
        (behind_read asks.findings e x w c.within s)
    walk_behind (Binary _ o at a y) x c s b q w r g h =
        bind (walk_behind a x c s (λ a. (b a).0) (λ a. (q a).0) (left_want o) r (left_want_good s o) h)
        (λ left t st rt k.
        left_yields c t (λ v. expression asks.findings y v c.within)
        (λ u v su ru gu. walk y c u (λ a. (b a).1) (λ a. (q a).1) v ru gu)
        o (asks.findings.meaning at) (assigns_nothing y) w left rt (want_on st w g)
        k)
    walk_behind e x c s b q w r g h = given (value x) r h

    walk_place : (v : source.LValue) (c : Where) (s : TranslationState) → (asks.breaks → BreaksStandPlace c.in_loop v) →
        (asks.temps → ReachesPlace asks.findings c.own c.kept v) → Ready asks c s →
        Yields asks c s (GoodPlace asks c.loops) (locate asks.findings v c.within s)
    walk_place (Simple x) c s b q r = scoping.variable_yields asks c s (asks.findings.meaning (at_of x)) r q
    walk_place (Field v f) c s b q r =
        bind (walk_place v c s b q r)
        (λ p t st rt k. constructing.field_yields (field_number (asks.findings.meaning (at_of f)))
        (read p) rt
        (constructing.read_good asks c.loops t p k))
    walk_place (Index v e) c s b q r =
        bind (walk_place v c s (λ a. (b a).0) (λ a. (q a).0) r)
        (λ p t st rt k.
        bind (of_value e c t (walk e c t (λ a. (b a).1) (λ a. (q a).1) want.Value rt tt))
        (λ y u su ru j. constructing.element_yields (assigns_nothing e) (read p) y ru
        (tx_on su c.loops (read p)
        (constructing.read_good asks c.loops t p k)) j))

    walk_values : (es : Exps) (before : Txs) (c : Where) (s : TranslationState) → (asks.breaks → BreaksStandExps c.in_loop es) →
        (asks.temps → ReachesExps asks.findings c.own c.kept es) →
        Ready asks c s → GoodTxs asks c.loops s before → Yields asks c s (GoodTxs asks c.loops) (values asks.findings es before c.within s)
    walk_values no_exps before c s b q r h = given before r h
    walk_values (exp e rest) before c s b q r h =
        bind (of_value e c s (walk e c s (λ a. (b a).0) (λ a. (q a).0) want.Value r tt))
        (λ x t st rt k. walk_values rest (join_txs before (tx x no_txs)) c t (λ a. (b a).1) (λ a. (q a).1) rt
        (join_fine_txs asks.breaks (KnowsAt asks t) c.loops before (tx x no_txs)
        (txs_on st c.loops before h) (k, tt)))

    walk_fields : (is : Inits) (direct : Bool) (before : HeldAll) (c : Where) (s : TranslationState) →
        (asks.breaks → BreaksStandInits c.in_loop is) →
        (asks.temps → ReachesInits asks.findings c.own c.kept is) → Ready asks c s → GoodHeld asks c.loops s before → Yields asks c s (GoodHeld asks c.loops)
        (fields asks.findings is direct before c.within s)
    walk_fields no_inits direct before c s b q r h = given before r h
    walk_fields (init _ e rest) direct before c s b q r h =
        bind (of_value e c s (walk e c s (λ a. (b a).0) (λ a. (q a).0) want.Value r tt))
        (λ x t st rt k.
        bind (constructing.hold_next_yields direct before x rt
        (held_on st c.loops before h) k)
        (λ more u su ru j. walk_fields rest direct more c u (λ a. (b a).1) (λ a. (q a).1) ru j))

    walk_sequence : (es : Exps) (w : Want) (before : Stms) (c : Where) (s : TranslationState) →
        (asks.breaks → BreaksStandExps c.in_loop es) →
        (asks.temps → ReachesExps asks.findings c.own c.kept es) → Ready asks c s → GoodWant asks s w → GoodStms asks c.loops s before →
        Yields asks c s (IsBegun c) (sequence asks.findings es w before c.within s)
    walk_sequence no_exps w before c s b q r g h =
        given (record { before = before; last = value (Const 0) }) r
        (h, tt)
    walk_sequence (exp e no_exps) w before c s b q r g h =
        bind (walk e c s (λ a. (b a).0) (λ a. (q a).0) w r g)
        (λ m t st rt k. given (record { before = before; last = m }) rt
        (stms_on st c.loops before h, k))
    walk_sequence (exp e (exp f rest)) w before c s b q r g h =
        bind (of_statement e c s (walk e c s (λ a. (b a).0) (λ a. (q a).0) want.Dropped r tt))
        (λ x t st rt k. walk_sequence (exp f rest) w (followed before x) c t (λ a. (b a).1) (λ a. (q a).1) rt
        (want_on st w g)
        (wanting.followed_good asks c.loops t before x
        (stms_on st c.loops before h) k))

    walk_decs : (ds : Decs) (before : Stms) (c : Where) (s : TranslationState) → (asks.breaks → BreaksStandDecs c.in_loop ds) →
        (asks.temps → ReachesDecs asks.findings c.own c.kept ds) →
        Ready asks c s → GoodStms asks c.loops s before → Yields asks c s (DeclaredIn c (owned_by ds c.own))
        (declarations asks.findings ds before c.within s)
    walk_decs no_decs before c s b q r h = given before r (h, r)
    walk_decs (types _ rest) before c s b q r h = walk_decs rest before c s b q r h
    walk_decs (variable x _ e rest) before c s b q r h =
        let d : Where = owning (at_of x) c in
        bind (declaration_yields c s (at_of x) (λ v. expression asks.findings e v c.within) r (λ a. (q a).0)
        (λ t w rt g. walk e d t (λ a. (b a).0) (λ a. (q a).1) w rt g))
        (λ y t st rt k.
        leave_yields refl (λ at j. more_contained (at_of x) at c.own j) rt
        (walk_decs rest (followed before y) d t (λ a. (b a).1) (λ a. (q a).2) k.1
        (wanting.followed_good asks c.loops t before y
        (stms_on st c.loops before h) k.0)))
    walk_decs (functions fs rest) before c s b q r h =
        nesting.group_yields asks c (nesting.after_group asks fs s.label) s
        (DeclaredIn c (owned_by rest c.own)) (declare_functions c.within.level fs s)
        (bodies asks.findings fs s.label c.within) (declarations asks.findings rest before c.within)
        (nesting.declared_opens asks fs c c.within.level s r)
        (λ t rt. walk_bodies fs s.label c t (λ a. (b a).0) (λ a. (q a).0) rt)
        (λ u su ru. walk_decs rest before c u (λ a. (b a).1) (λ a. (q a).1) ru
        (stms_on su c.loops before h))

    walk_bodies : (fs : FunDecs) (label : ℕ) (c : Where) (s : TranslationState) → (asks.breaks → BreaksStandBodies fs) →
        (asks.temps → ReachesBodies asks.findings (c.own ++ c.kept) fs) →
        Ready asks c s → nesting.Placed asks c label (nesting.after_group asks fs label) s
        (bodies asks.findings fs label c.within s)
    walk_bodies no_functions label c s b q r = (nesting.places_none asks (c.own ++ c.kept) label s, r)
    walk_bodies (function f params result e rest) label c s b q r =
        nesting.placed_then asks c label (label + 1) (nesting.after_group asks rest (label + 1)) s
        (body label asks.findings.escapes asks.findings.keeps_link (at_of f) (is_some result) params
        (λ w v. expression asks.findings e w v) c.within s)
        (bodies asks.findings rest (label + 1) c.within)
        (nesting.body_placed asks c s label (at_of f) (is_some result) params (λ w v. expression asks.findings e w v)
        (λ a. (q a).0) r
        (λ t w rt g. walk e (nested (asks.findings.keeps_link (at_of f)) params c) t (λ a. (b a).0) (λ a. (q a).1) w rt g))
        (λ t rt. walk_bodies rest (label + 1) c t (λ a. (b a).1) (λ a. (q a).2) rt)

  pub walked : (e : Exp) (c : Where) (s : TranslationState) (w : Want) → (asks.breaks → BreaksStand c.in_loop e) →
      (asks.temps → Reaches asks.findings c.own c.kept e) →
      Ready asks c s → GoodWant asks s w → Yields asks c s (GoodMade asks c.loops) (expression asks.findings e w c.within s)
  walked e c s w b q r g = walk e c s b q w r g
