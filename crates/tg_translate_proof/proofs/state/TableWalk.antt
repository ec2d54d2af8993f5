-- The walk over a text for what the finished translation has of it.
use Rattle.std.proofs.Common.{◌≡◌, ◌+◌, ℕ, zero, suc, Bool, true, false, List, [], ◌++◌, refl, sym, ap, ◌∙◌, arith, subst, append-nil}
use Rattle.std.specs.Prelude.{is_some}
use Rattle.std.proofs.lemmas.Bool.{and_parts}
use Rattle.tg_syntax.specs.declared.trees.Op.TheVariants as op
use Rattle.tg_syntax.specs.Functions.{Measures, Levels, own, own_params, own_functions, own_decs, declared, declared_place, declared_exps}
use Rattle.tg_syntax.specs.Functions.{declared_inits, declared_decs}
use Rattle.tg_syntax.specs.Tree.{Exp, Nil, Break, Int, Text, Read, Call, Neg, Binary, Make, Fill, Assign, If, When, While, For, Let, Seq, LValue, Simple}
use Rattle.tg_syntax.specs.Tree.{Field, Index, Exps, no_exps, exp, Inits, no_inits, init, Decs, no_decs, types, variable, functions, FunDecs}
use Rattle.tg_syntax.specs.Tree.{no_functions, function}
use Rattle.tg_tree.specs.Tree.{Tx, Txs, no_txs, tx, Cond, Stms, no_stms}
use Rattle.tg_tree.specs.glue.Lists.{join_txs}
use Rattle.tg_translate.specs.declared.homes.Within.{Within}
use Rattle.tg_translate.specs.declared.wants.Want.{Want}
use Rattle.tg_translate.specs.declared.wants.Want.TheVariants as want
use Rattle.tg_translate.specs.mirror.States.{TranslationState, Translates, Translated, drawn, after}
use Rattle.tg_translate.specs.mirror.Wants.{Made, value, done, test_of, dropped, behind, followed}
use Rattle.tg_translate.specs.mirror.Constructs.{Storage, HeldAll, none_held, read, in_body, in_test}
use Rattle.tg_translate.specs.mirror.Choices.{left_want}
use Rattle.tg_translate.specs.mirror.Scopes.{Findings, field_number}
use Rattle.tg_translate.specs.mirror.Purity.{assigns_nothing, inits_assign_nothing}
use Rattle.tg_translate.specs.mirror.Updates.{begins_with, is_same_place, is_same_index}
use Rattle.tg_translate.specs.mirror.Functions.{at_of, asked, parameters, own_homes, frame_for, declare_functions, opened, inside, result_want}
use Rattle.tg_translate.specs.mirror.Functions.{body_in}
use Rattle.tg_translate.specs.mirror.Translate.{choice, is_conjunction, assignment}
use Rattle.tg_translate.specs.mirror.Translate.{expression, behind_read, locate, values, fields, sequence, declarations, bodies}
use Rattle.tg_translate_laws.proofs.Counts.{same}
use Rattle.tg_translate_laws.proofs.Updating.{same_is_quiet}
use Rattle.tg_translate_proof.specs.glue.Tables.{Table}
use Rattle.tg_translate_proof.proofs.state.TranslationStates.{state_in}
use Rattle.tg_translate_proof.proofs.state.NothingDeclared.{stays, then_quiet, value_quiet, behind_quiet, hold_next_quiet}
use Rattle.tg_translate_proof.proofs.state.NothingDeclared.{field_quiet, element_quiet, record_quiet, count_quiet}
use Rattle.tg_translate_proof.proofs.state.NothingDeclared.{variable_quiet, call_quiet, closing_quiet, literal_quiet}
use Rattle.tg_translate_proof.proofs.invariant.Covered.{Declares, DeclareParams, DeclaresPlace, DeclaresExps, DeclaresInits, DeclaresDecs, HasVariable}
use Rattle.tg_translate_proof.proofs.invariant.Covered.{IsWeighed}
use Rattle.tg_translate_proof.proofs.state.DeclaredBytes.{params_declare, declares, place_declares, exps_declare, inits_declare, decs_declare}
use Rattle.tg_translate_proof.proofs.state.Tables.{Shows, ShowsBodies, state_by, both, quiet_then, then_stays, shows_none, told, declared_variable, with_params}
use Rattle.tg_translate_proof.proofs.state.Tables.{own_many, group_shows, bodies_then, bodies_none}
use Rattle.tg_translate_proof.proofs.state.Tables.{connective_shows, value_shows, with_left_shows, assigned_shows, declaration_shows}
use Rattle.tg_translate_proof.proofs.state.Tables.{chosen_shows, updated_shows}
use Rattle.tg_translate.specs.mirror.Translate.{is_zero}

module _ (table : Table) (weight : (at : ℕ) → ℕ) (findings : Findings) where
  abbrev Fits : (level : ℕ) → Levels → Exp → Type 0
  Fits n seen e = Declares (HasVariable table) (IsWeighed table weight) n seen e

  -- A place that is read again declares nothing.
  module _ (n : ℕ) (seen : Levels) where
    mutual
      same_declares_nothing : (v u : LValue) → is_same_place findings.meaning v u ≡ true → DeclaresPlace (HasVariable table) (IsWeighed table weight) n seen u
      same_declares_nothing (Simple _) (Simple _) e = tt
      same_declares_nothing (Field v _) (Field u _) e = same_declares_nothing v u (and_parts _ _ e).1
      same_declares_nothing (Index v a) (Index u b) e =
          let same = and_parts _ _ e in
          (same_declares_nothing v u same.0, index_declares_nothing a b same.1)
      same_declares_nothing v u e = cc

      index_declares_nothing : (a b : Exp) → is_same_index findings.meaning a b ≡ true → Fits n seen b
      index_declares_nothing (Int _ _) (Int _ _) e = tt
      index_declares_nothing (Read _ v) (Read _ u) e = same_declares_nothing v u e
      index_declares_nothing (Binary _ _ _ a b) (Binary _ _ _ c d) e =
          let same = and_parts _ _ (and_parts _ _ e).1 in
          (index_declares_nothing a c same.0, index_declares_nothing b d same.1)
      index_declares_nothing a b e = cc

    zero_declares_nothing : (b : Exp) → is_zero b ≡ true → (declared n seen b ≡ []) × Fits n seen b
    zero_declares_nothing (Int _ zero) e = (refl, tt)
    zero_declares_nothing (Int _ (suc k)) e = cc
    zero_declares_nothing b e = cc

  conjunction_zero : (w : Want) (b : Exp) → is_conjunction w b ≡ true → is_zero b ≡ true
  conjunction_zero want.Test b e = e
  conjunction_zero want.Value b e = cc
  conjunction_zero (want.Into i) b e = cc
  conjunction_zero want.Dropped b e = cc

  choice_shows : {N L : ℕ → ℕ} {M : List Measures} {D : Type 0} (n : ℕ) (seen : Levels) (b : Exp) (this other : Want → Translates Made) →
      ((w : Want) (s : TranslationState) → Shows table weight N M D (this w s) s) →
      ((w : Want) (s : TranslationState) → Shows table weight L (declared n seen b) (Fits n seen b) (other w s) s) →
      (conjunction : Bool) (w : Want) → is_conjunction w b ≡ conjunction → (c : Cond) (s : TranslationState) →
      Shows table weight (λ k. N k + L k) (M ++ declared n seen b) (D × Fits n seen b) (choice conjunction w c this other s) s
  choice_shows {N = N} {L = L} {M = M} {D = D} n seen b this other this_shows other_shows true w e c s =
      let zero = zero_declares_nothing n seen b (conjunction_zero w b e) in
      told table weight (λ k. N k + L k) (M ++ declared n seen b) (D × Fits n seen b) (λ k. omega arith)
      (sym (ap (λ l. M ++ l) zero.0 ∙ append-nil M)) (λ d. (d, zero.1))
      (connective_shows table weight this_shows op.And w c s)
  choice_shows n seen b this other this_shows other_shows false w e c s = chosen_shows table weight this_shows other_shows w c s

  -- from the state after an action without a value
  from_state : {A : Type 0} {N : ℕ → ℕ} {M : List Measures} {D : Type 0} {s : TranslationState} (d : Translated (Unit {0})) (next : Unit {0} → Translates A) →
      Shows table weight N M D (next tt (state_in d)) s → Shows table weight N M D (after d next) s
  from_state (drawn x u) next h = h

  assignment_shows : {N : ℕ → ℕ} {M : List Measures} {D : Type 0} {right : Want → Translates Made} {again : Tx → Want → Translates Made} (first : Bool) →
      ((w : Want) (s : TranslationState) → Shows table weight N M D (right w s) s) →
      (first ≡ true → (x : Tx) (w : Want) (s : TranslationState) → Shows table weight N M D (again x w s) s) → (p : Storage) (s : TranslationState) →
      Shows table weight N M D (assignment first p right again s) s
  assignment_shows true h k p s = updated_shows table weight (k refl) p s
  assignment_shows false h k p s = assigned_shows table weight h p s

  mutual
    pub shows : (e : Exp) (w : Want) (within : Within) (seen : Levels) (s : TranslationState) →
        Shows table weight (λ k. declares k e) (declared within.level seen e) (Fits within.level seen e) (expression findings e w within s) s
    shows (Nil _) w within seen s = shows_none table weight stays
    shows (Int _ n) w within seen s = shows_none table weight stays
    shows (Break _) w within seen s = shows_none table weight stays
    shows (Text _ bytes) w within seen s = shows_none table weight (literal_quiet bytes s)
    shows (Read _ v) w within seen s = then_stays table weight (place_shows v within seen s) (λ p t. stays)
    shows (Call _ f es) w within seen s =
        then_stays table weight (values_show es no_txs within seen s)
        (λ xs t. then_quiet (call_quiet within (findings.meaning (at_of f)) xs t) (λ x u. stays {a = value x}))
    shows (Neg _ a) w within seen s =
        then_stays table weight (then_stays table weight (shows a want.Value within seen s) (λ m t. value_quiet m t)) (λ x t. stays)
    shows (Binary _ o at a b) w within seen s =
        both table weight (shows a (left_want o) within seen s)
        (λ left t. with_left_shows table weight (λ v u. shows b v within seen u) o (findings.meaning at) (assigns_nothing b) w left t)
    shows (Make _ _ is) w within seen s =
        then_stays table weight (fields_show is (inits_assign_nothing is) none_held within seen s) (λ all t. record_quiet all t)
    shows (Fill _ _ a b) w within seen s =
        both table weight (value_shows table weight (λ v t. shows a v within seen t) s)
        (λ x t. then_stays table weight (value_shows table weight (λ v u. shows b v within seen u) t) (λ y u. stays))
    shows (Assign _ v e) w within seen s =
        both table weight (place_shows v within seen s)
        (λ p t. then_stays table weight
        (assignment_shows (begins_with findings.meaning e v) (λ w u. shows e w within seen u) (λ first x w u. behind_shows e x w within seen v first u) p t)
        (λ x u. stays))
    shows (If at c a b) w within seen s =
        told table weight (λ k. declares k (If at c a b)) (declared within.level seen (If at c a b)) (Fits within.level seen (If at c a b))
        (λ k. omega arith) refl
        (λ d. (d.0, d.1.0, d.1.1))
        (both table weight (then_stays table weight (shows c want.Test within seen s) (λ m t. stays {a = test_of m}))
        (λ d t. choice_shows within.level seen b (λ v. expression findings a v within) (λ v. expression findings b v within)
        (λ v u. shows a v within seen u) (λ v u. shows b v within seen u) (is_conjunction w b) w refl d t))
    shows (When _ c a) w within seen s =
        both table weight (then_stays table weight (shows c want.Test within seen s) (λ m t. stays {a = test_of m}))
        (λ d t. then_stays table weight (then_stays table weight (shows a want.Dropped within seen t) (λ m u. stays {a = dropped m})) (λ x u. stays))
    shows (While _ c a) w within seen s =
        both table weight (then_stays table weight (shows c want.Test (in_test within) seen s) (λ m t. stays {a = test_of m}))
        (λ d t. then_stays table weight (then_stays table weight (shows a want.Dropped (in_body within) seen t) (λ m u. stays {a = dropped m})) (λ x u. stays))
    shows (For at i low high a) w within seen s =
        told table weight (λ k. declares k (For at i low high a)) (declared within.level seen (For at i low high a))
        (Fits within.level seen (For at i low high a)) (λ k. omega arith) refl
        (λ d. (d.0, d.1.0, d.1.1.0, d.1.1.1))
        (both table weight (value_shows table weight (λ v t. shows low v within seen t) s)
        (λ x t. both table weight (value_shows table weight (λ v u. shows high v within seen u) t)
        (λ y u. both table weight (declared_variable table weight (findings.escapes (at_of i)) within.level (at_of i) u)
        (λ home v. then_stays table weight
        (then_stays table weight (shows a want.Dropped (in_body within) (own within.level i seen) v) (λ m q. stays {a = dropped m}))
        (λ turn q. then_quiet (count_quiet home x y turn q) (λ z p. stays {a = done z}))))))
    shows (Let _ ds es) w within seen s =
        both table weight (declarations_show ds no_stms within seen s)
        (λ before t. then_stays table weight (sequence_shows es w before within (own_decs within.level ds seen) t)
        (λ begun u. behind_quiet w begun.before begun.last u))
    shows (Seq _ es) w within seen s =
        then_stays table weight (sequence_shows es w no_stms within seen s) (λ begun t. behind_quiet w begun.before begun.last t)

    behind_shows : (e : Exp) (x : Tx) (w : Want) (within : Within) (seen : Levels) (v : LValue) → begins_with findings.meaning e v ≡ true →
        (s : TranslationState) →
        Shows table weight (λ k. declares k e) (declared within.level seen e) (Fits within.level seen e) (behind_read findings e x w within s) s
    behind_shows (Binary _ o at a b) x w within seen v first s =
        both table weight (behind_shows a x (left_want o) within seen v first s)
        (λ left t. with_left_shows table weight (λ v u. shows b v within seen u) o (findings.meaning at) (assigns_nothing b) w left t)
    behind_shows (Read _ u) x w within seen v first s =
        told table weight (λ k. place_declares k u) (declared_place within.level seen u)
        (DeclaresPlace (HasVariable table) (IsWeighed table weight) within.level seen u)
        (λ k. omega arith) (sym (same_is_quiet findings within.level seen v u first).2) (λ _. same_declares_nothing within.level seen v u first)
        (shows_none table weight stays)
    behind_shows e x w within seen v first s = cc

    place_shows : (v : LValue) (within : Within) (seen : Levels) (s : TranslationState) →
        Shows table weight (λ k. place_declares k v) (declared_place within.level seen v)
        (DeclaresPlace (HasVariable table) (IsWeighed table weight) within.level seen v)
        (locate findings v within s) s
    place_shows (Simple x) within seen s = shows_none table weight (variable_quiet within (findings.meaning (at_of x)) s)
    place_shows (Field v f) within seen s =
        then_stays table weight (place_shows v within seen s) (λ p t. field_quiet (field_number (findings.meaning (at_of f))) (read p) t)
    place_shows (Index v e) within seen s =
        both table weight (place_shows v within seen s)
        (λ p t. then_stays table weight (value_shows table weight (λ w u. shows e w within seen u) t) (λ y u. element_quiet (assigns_nothing e) (read p) y u))

    values_show : (es : Exps) (before : Txs) (within : Within) (seen : Levels) (s : TranslationState) →
        Shows table weight (λ k. exps_declare k es) (declared_exps within.level seen es)
        (DeclaresExps (HasVariable table) (IsWeighed table weight) within.level seen es)
        (values findings es before within s) s
    values_show no_exps before within seen s = shows_none table weight stays
    values_show (exp e rest) before within seen s =
        both table weight (value_shows table weight (λ w t. shows e w within seen t) s) (λ x t. values_show rest (join_txs before (tx x no_txs)) within seen t)

    fields_show : (is : Inits) (direct : Bool) (before : HeldAll) (within : Within) (seen : Levels) (s : TranslationState) →
        Shows table weight (λ k. inits_declare k is) (declared_inits within.level seen is)
        (DeclaresInits (HasVariable table) (IsWeighed table weight) within.level seen is)
        (fields findings is direct before within s) s
    fields_show no_inits direct before within seen s = shows_none table weight stays
    fields_show (init _ e rest) direct before within seen s =
        both table weight (value_shows table weight (λ w t. shows e w within seen t) s)
        (λ x t. quiet_then table weight (hold_next_quiet direct before x t) (λ more u. fields_show rest direct more within seen u))

    sequence_shows : (es : Exps) (w : Want) (before : Stms) (within : Within) (seen : Levels) (s : TranslationState) →
        Shows table weight (λ k. exps_declare k es) (declared_exps within.level seen es)
        (DeclaresExps (HasVariable table) (IsWeighed table weight) within.level seen es)
        (sequence findings es w before within s) s
    sequence_shows no_exps w before within seen s = shows_none table weight stays
    sequence_shows (exp e no_exps) w before within seen s =
        told table weight (λ k. declares k e + 0) (declared within.level seen e ++ []) (Fits within.level seen e × Unit {0})
        (λ k. omega arith) (sym (append-nil (declared within.level seen e))) (λ d. (d, tt)) (then_stays table weight (shows e w within seen s) (λ m t. stays))
    sequence_shows (exp e (exp f rest)) w before within seen s =
        both table weight (then_stays table weight (shows e want.Dropped within seen s) (λ m t. stays {a = dropped m}))
        (λ x t. sequence_shows (exp f rest) w (followed before x) within seen t)

    declarations_show : (ds : Decs) (before : Stms) (within : Within) (seen : Levels) (s : TranslationState) →
        Shows table weight (λ k. decs_declare k ds) (declared_decs within.level seen ds)
        (DeclaresDecs (HasVariable table) (IsWeighed table weight) within.level seen ds)
        (declarations findings ds before within s) s
    declarations_show no_decs before within seen s = shows_none table weight stays
    declarations_show (types _ rest) before within seen s = declarations_show rest before within seen s
    declarations_show (variable x kind e rest) before within seen s =
        told table weight (λ k. decs_declare k (variable x kind e rest)) (declared_decs within.level seen (variable x kind e rest))
        (DeclaresDecs (HasVariable table) (IsWeighed table weight) within.level seen (variable x kind e rest)) (λ k. omega arith) refl
        (λ d. (d.0.0, d.0.1, d.1))
        (both table weight (declaration_shows table weight (λ w t. shows e w within seen t) findings.escapes within.level (at_of x) s)
        (λ y t. declarations_show rest (followed before y) within (own within.level x seen) t))
    declarations_show (functions fs rest) before within seen s =
        let group = own_functions within.level fs seen in
        from_state (declare_functions within.level fs s) (λ _ t. after (bodies findings fs s.label within t) (λ _. declarations findings rest before within))
        (group_shows table weight within.level group fs s (bodies findings fs s.label within (state_by table weight within.level fs s))
        (λ _. declarations findings rest before within)
        (bodies_show fs s.label within group (state_by table weight within.level fs s)) (λ t. declarations_show rest before within group t))

    bodies_show : (fs : FunDecs) (label : ℕ) (within : Within) (seen : Levels) (s : TranslationState) →
        ShowsBodies table weight within.level label seen fs (bodies findings fs label within s) s
    bodies_show no_functions label within seen s = bodies_none table weight within.level label seen s
    bodies_show (function f ps r e rest) label within seen s =
        let kept = findings.keeps_link (at_of f) in
        let asks = asked findings.escapes kept ps in
        let deep = own_params (within.level + 1) ps seen in
        let place = opened s (frame_for label asks) in
        let inner = body_in (frame_for label asks) ps kept (is_some r) (λ w v. expression findings e w v) within place in
        let suc_is : within.level + 1 ≡ suc within.level = omega arith in
        bodies_then table weight within.level label seen f ps r e rest asks s (bodies findings rest (label + 1) within)
        (subst (λ l. Shows table weight (λ k. params_declare k ps + declares k e) (declared l (own_params l ps seen) e)
        (DeclareParams (HasVariable table) (IsWeighed table weight) l ps × Fits l (own_params l ps seen) e) inner place) suc_is
        (with_params table weight (within.level + 1) ps (own_homes (frame_for label asks).params) place (own_many table weight findings.escapes kept ps)
        (then_stays table weight
        (shows e (result_want (is_some r)) (inside within kept) deep
        (record place { homes = parameters (within.level + 1) ps (own_homes (frame_for label asks).params) s.homes }))
        (λ m t. closing_quiet (is_some r) m t))))
        (λ k. omega arith) (λ d. d) (λ t. bodies_show rest (label + 1) within seen t)
