-- The walk over a text that leads: its trees, and the functions that it declares, are paid by its
-- nodes and the levels that it crosses.
use Rattle.std.proofs.Common.{◌≡◌, ◌≤◌, ◌+◌, ℕ, zero, suc, Bool, true, false, Option, List, [], ◌∷◌, length, map, arith, refl, sym, ap, ◌∙◌, subst}
use Rattle.std.specs.Prelude.{is_some}
use Rattle.std.specs.List.{AllZip}
use Rattle.tg_frame.specs.Homes.{homes_from, homes_of}
use Rattle.tg_syntax.specs.declared.trees.Param.{Param}
use Rattle.tg_syntax.specs.Measures.{size, place_size, exps_size, inits_size, decs_size}
use Rattle.tg_syntax.specs.Functions.{Measures, Levels, measures, crossed, own, own_params, own_functions, own_decs, hops, place_hops, exps_hops}
use Rattle.tg_syntax.specs.Functions.{inits_hops, decs_hops, declared, declared_place, declared_exps, declared_inits, declared_decs}
use Rattle.tg_syntax.specs.Functions.{declared_functions, program_functions}
use Rattle.tg_syntax.specs.Spans.{span_of}
use Rattle.tg_syntax.specs.Tree as source
use Rattle.tg_syntax.specs.Tree.{Exp, Nil, Break, Int, Text, Read, Call, Neg, Binary, Make, Fill, Assign, If, When, While, For, Let, Seq, Simple}
use Rattle.tg_syntax.specs.Tree.{Field, Index, Exps, no_exps, exp, Inits, no_inits, init, Decs, no_decs, types, variable, functions, FunDecs}
use Rattle.tg_syntax.specs.Tree.{no_functions, function}
use Rattle.tg_typecheck.specs.declared.notes.Means.{Means}
use Rattle.tg_tree.specs.Tree as tree
use Rattle.tg_tree.specs.Tree.{Tx, Const, Txs, no_txs, tx, Ts, Stms, no_stms}
use Rattle.tg_tree.specs.Forms.{nothing}
use Rattle.tg_tree.specs.glue.Lists.{join_txs}
use Rattle.tg_translate.specs.declared.homes.Within.{Within}
use Rattle.tg_translate.specs.declared.wants.Want.{Want}
use Rattle.tg_translate.specs.declared.wants.Want.TheVariants as want
use Rattle.tg_translate.specs.mirror.States.{TranslationState, Translated, drawn, give}
use Rattle.tg_translate.specs.mirror.Wants.{value, done, followed}
use Rattle.tg_translate.specs.mirror.Constructs.{HeldAll, none_held, read, record_of, make_array, negation, repeat_while, in_body, in_test}
use Rattle.tg_translate.specs.mirror.Choices.{left_want}
use Rattle.tg_translate.specs.mirror.Scopes.{Findings, field_number}
use Rattle.tg_translate.specs.mirror.Purity.{assigns_nothing, inits_assign_nothing}
use Rattle.tg_translate.specs.mirror.Updates.{begins_with}
use Rattle.tg_translate.specs.mirror.Functions.{at_of, asked, begun, inside, result_want, outermost, beginning, frame_for, program}
use Rattle.tg_translate.specs.mirror.Translate.{is_zero, is_conjunction, expression, behind_read, locate, values, fields, sequence, declarations, bodies}
use Rattle.tg_translate.specs.mirror.Translate.{program_body, translated}
use Rattle.tg_translate_laws.proofs.Updating.{same_is_quiet}
use Rattle.tg_translate_laws.proofs.Sizing.{negation_size, record_size, make_array_size, while_size, joined_size, followed_size}
use Rattle.tg_stack_bounds.proofs.Leading.{LevelTable, Keeps, Crosses, AreAt, AreParamsAt, Leads, LeadsPlace, LeadsExps, LeadsInits, LeadsDecs, LeadsBodies}
use Rattle.tg_stack_bounds.proofs.Giving.{Gives, IsPaid, IsPaidBody, adds_none, bind, then_quiet, given, weaken, any_fresh, any_declared, any_functions}
use Rattle.tg_stack_bounds.proofs.Giving.{begun_keeps, paid_function, finish_paid}
use Rattle.tg_stack_bounds.proofs.Paying.{weight, one, Paid, PaidTx, PaidPlace, PaidTxs, PaidFields, PaidBegun, PaidStms, of_value, of_test, of_statement}
use Rattle.tg_stack_bounds.proofs.Paying.{paid_next, paid_field, paid_element, paid_assignment, paid_declaration, paid_behind, paid_variable, paid_call}
use Rattle.tg_stack_bounds.proofs.Paying.{left_paid, choice_paid, paid_read, paid_count, closed_body}

-- A function's parameters, of its frame: its own, and the static link.

homes_many : (slots temps : ℕ) (asks : List Bool) → length (homes_from slots temps asks) ≡ length asks
homes_many slots temps [] = refl
homes_many slots temps (true ∷ asks) = ap suc (homes_many (slots + 1) temps asks)
homes_many slots temps (false ∷ asks) = ap suc (homes_many slots (temps + 1) asks)

map_many : (escapes : ℕ → Bool) (params : List Param) → length (map (λ p. escapes (at_of p.name)) params) ≡ length params
map_many escapes [] = refl
map_many escapes (p ∷ params) = ap suc (map_many escapes params)

frame_params : (escapes : ℕ → Bool) (kept : Bool) (params : List Param) → length (homes_of (asked escapes kept params)) ≡ suc (length params)
frame_params escapes kept params = homes_many 0 0 (asked escapes kept params) ∙ ap suc (map_many escapes params)

module _ (table : LevelTable) (findings : Findings) where
  crosses : (level n most : ℕ) (meaning : Option Means) → level ≡ n → Crosses table n most meaning → Crosses table level most meaning
  crosses level n most meaning l h = subst (λ z. Crosses table z most meaning) (sym l) h

  next_level : (level n : ℕ) → level ≡ n → suc n ≡ level + 1
  next_level level n l = omega (arith, l)

  -- the second arm of a conjunction declares nothing
  zero_declares_nothing : (n : ℕ) (seen : Levels) (e : Exp) → is_zero e ≡ true → declared n seen e ≡ []
  zero_declares_nothing n seen (Int _ zero) i = refl
  zero_declares_nothing n seen (Int _ (suc k)) i = cc
  zero_declares_nothing n seen e i = cc

  conjunction_declares_nothing : (n : ℕ) (seen : Levels) (w : Want) (e : Exp) → is_conjunction w e ≡ true → declared n seen e ≡ []
  conjunction_declares_nothing n seen want.Test e i = zero_declares_nothing n seen e i
  conjunction_declares_nothing n seen w e i = cc

  mutual
    walk : (e : Exp) (w : Want) (c : Within) (n : ℕ) (seen : Levels) (s : TranslationState) → Keeps table s → c.level ≡ n →
        Leads table findings n seen e →
        Gives table s (declared n seen e) (Paid (weight (size e) (hops n seen e))) (expression findings e w c s)
    walk (Nil _) w c n seen s sound l ld = given table s sound (value (Const 0)) (omega arith, omega arith)
    walk (Int _ k) w c n seen s sound l ld = given table s sound (value (Const k)) (omega arith, omega arith)
    walk (Break _) w c n seen s sound l ld = given table s sound (done (tree.Break c.leave)) (omega arith, omega arith)
    walk (Text _ bytes) w c n seen s sound l ld = record {
      value = (omega arith, omega arith);
      kept = record { home = sound.home; callee = sound.callee };
      params = refl;
      out = refl;
      functions = adds_none s.functions;
    }
    walk (Read _ v) w c n seen s sound l ld =
        then_quiet table (walk_place v c n seen s sound l ld) λ p s sound h. given table s sound (value (read p))
        (let k = paid_read table (weight (place_size v) (place_hops n seen v)) p h in (omega (arith, k.0), omega (arith, k.1)))
    walk (Call _ f args) w c n seen s sound l ld =
        then_quiet table (walk_values args no_txs c n seen s sound l ld.1) λ xs s sound h.
        bind table (paid_call table (weight (exps_size args) (exps_hops n seen args)) c (crossed n seen f) (findings.meaning (at_of f)) xs s sound
        (crosses c.level n (crossed n seen f) (findings.meaning (at_of f)) l ld.0) h) λ x s sound k.
        given table s sound (value x) k
    walk (Neg _ x) w c n seen s sound l ld =
        then_quiet table (of_value table (weight (size x) (hops n seen x)) (walk x want.Value c n seen s sound l ld)) λ y s sound h.
        given table s sound (value (negation y)) (let k = negation_size y in (omega (arith, h.0, k.0), omega (arith, h.1, k.1)))
    walk (Binary _ o at x y) w c n seen s sound l ld =
        bind table (walk x (left_want o) c n seen s sound l ld.0) λ left s sound h.
        left_paid table (weight (size x) (hops n seen x)) (weight (size y) (hops n seen y)) (λ v. expression findings y v c)
        (λ v t k. walk y v c n seen t k l ld.1) o (findings.meaning at) (assigns_nothing y) w left s sound h
    walk (Make _ _ inits) w c n seen s sound l ld =
        then_quiet table (walk_fields inits (inits_assign_nothing inits) none_held c n seen s sound l ld) λ all s sound h.
        bind table (any_fresh table s sound) λ r s sound u.
        given table s sound (record_of r all) (let k = record_size r all in (omega (arith, h.0, k.0), omega (arith, h.1, k.1)))
    walk (Fill _ _ x y) w c n seen s sound l ld =
        bind table (of_value table (weight (size x) (hops n seen x)) (walk x want.Value c n seen s sound l ld.0)) λ a s sound h.
        then_quiet table (of_value table (weight (size y) (hops n seen y)) (walk y want.Value c n seen s sound l ld.1)) λ b s sound k.
        given table s sound (value (make_array a b))
        (let i = make_array_size a b in (omega (arith, h.0, k.0, i.0), omega (arith, h.1, k.1, i.1)))
    walk (Assign _ v x) w c n seen s sound l ld =
        bind table (walk_place v c n seen s sound l ld.0) λ p s sound h.
        then_quiet table (paid_assignment table (weight (place_size v) (place_hops n seen v)) (weight (size x) (hops n seen x))
        (begins_with findings.meaning x v) p (λ w. expression findings x w c) (λ r w. behind_read findings x r w c) s sound h
        (λ w t k. walk x w c n seen t k l ld.1) (λ first r w t k i. walk_behind x r w c n seen v first t k l ld.1 i)) λ y s sound i.
        given table s sound (done y) i
    walk (If _ d x y) w c n seen s sound l ld =
        bind table (of_test table (weight (size d) (hops n seen d)) (walk d want.Test c n seen s sound l ld.0)) λ a s sound h.
        choice_paid table (weight (size d) (hops n seen d)) (weight (size x) (hops n seen x)) (weight (size y) (hops n seen y))
        (λ v. expression findings x v c) (λ v. expression findings y v c) (λ v t k. walk x v c n seen t k l ld.1)
        (λ v t k. walk y v c n seen t k l ld.2) (is_conjunction w y) (conjunction_declares_nothing n seen w y) w a s sound h
    walk (When _ d x) w c n seen s sound l ld =
        bind table (of_test table (weight (size d) (hops n seen d)) (walk d want.Test c n seen s sound l ld.0)) λ a s sound h.
        then_quiet table (of_statement table (weight (size x) (hops n seen x)) (walk x want.Dropped c n seen s sound l ld.1)) λ y s sound k.
        given table s sound (done (tree.If a y nothing)) (omega (arith, h.0, k.0), omega (arith, h.1, k.1))
    walk (While _ d x) w c n seen s sound l ld =
        bind table (of_test table (weight (size d) (hops n seen d)) (walk d want.Test (in_test c) n seen s sound l ld.0)) λ a s sound h.
        then_quiet table (of_statement table (weight (size x) (hops n seen x)) (walk x want.Dropped (in_body c) n seen s sound l ld.1)) λ y s sound k.
        given table s sound (done (repeat_while a y)) (let i = while_size a y in (omega (arith, h.0, k.0, i.0), omega (arith, h.1, k.1, i.1)))
    walk (For _ i low high a) w c n seen s sound l ld =
        bind table (of_value table (weight (size low) (hops n seen low)) (walk low want.Value c n seen s sound l ld.1)) λ x s sound h.
        bind table (of_value table (weight (size high) (hops n seen high)) (walk high want.Value c n seen s sound l ld.2)) λ y s sound k.
        bind table (any_declared table (findings.escapes (at_of i)) c.level (at_of i) s sound (l ∙ ld.0)) λ home s sound u.
        then_quiet table (of_statement table (weight (size a) (hops n (own n i seen) a))
        (walk a want.Dropped (in_body c) n (own n i seen) s sound l ld.3)) λ turn s sound g.
        bind table (paid_count table (weight (size low) (hops n seen low)) (weight (size high) (hops n seen high))
        (weight (size a) (hops n (own n i seen) a)) home x y turn s sound h k g) λ z s sound j.
        given table s sound (done z) (omega (arith, j.0), omega (arith, j.1))
    walk (Let _ ds es) w c n seen s sound l ld =
        bind table (walk_decs ds no_stms c n seen s sound l ld.0) λ before s sound h.
        then_quiet table (walk_sequence es w before c n (own_decs n ds seen) s sound l ld.1) λ b s sound k.
        weaken table (paid_behind table (weight (decs_size ds + exps_size es) (decs_hops n seen ds + exps_hops n (own_decs n ds seen) es)) w b s sound
        (omega (arith, h.0, k.0), omega (arith, h.1, k.1))) λ m i.
        (omega (arith, i.0), omega (arith, i.1))
    walk (Seq _ es) w c n seen s sound l ld =
        then_quiet table (walk_sequence es w no_stms c n seen s sound l ld) λ b s sound k.
        paid_behind table (weight (exps_size es) (exps_hops n seen es)) w b s sound (omega (arith, k.0), omega (arith, k.1))

    walk_behind : (e : Exp) (x : Tx) (w : Want) (c : Within) (n : ℕ) (seen : Levels) (v : source.LValue) → begins_with findings.meaning e v ≡ true →
        (s : TranslationState) → Keeps table s → c.level ≡ n → Leads table findings n seen e → PaidTx one x →
        Gives table s (declared n seen e) (Paid (weight (size e) (hops n seen e))) (behind_read findings e x w c s)
    walk_behind (Binary _ o at a y) x w c n seen v first s sound l ld h =
        bind table (walk_behind a x (left_want o) c n seen v first s sound l ld.0 h) λ left s sound k.
        left_paid table (weight (size a) (hops n seen a)) (weight (size y) (hops n seen y)) (λ v. expression findings y v c)
        (λ v t k. walk y v c n seen t k l ld.1) o (findings.meaning at) (assigns_nothing y) w left s sound k
    walk_behind (Read at u) x w c n seen v first s sound l ld h =
        subst (λ ms. Gives table s ms (Paid (weight (size (Read at u)) (hops n seen (Read at u)))) (give (value x) s))
        (sym (same_is_quiet findings n seen v u first).2) (given table s sound (value x) (omega (arith, h.0), omega (arith, h.1)))
    walk_behind e x w c n seen v first s sound l ld h = cc

    walk_place : (v : source.LValue) (c : Within) (n : ℕ) (seen : Levels) (s : TranslationState) → Keeps table s → c.level ≡ n →
        LeadsPlace table findings n seen v →
        Gives table s (declared_place n seen v) (PaidPlace (weight (place_size v) (place_hops n seen v))) (locate findings v c s)
    walk_place (Simple x) c n seen s sound l ld =
        paid_variable table c (crossed n seen x) (findings.meaning (at_of x)) s sound
        (crosses c.level n (crossed n seen x) (findings.meaning (at_of x)) l ld)
    walk_place (Field v f) c n seen s sound l ld =
        then_quiet table (walk_place v c n seen s sound l ld) λ p s sound h.
        paid_field table (weight (place_size v) (place_hops n seen v)) (field_number (findings.meaning (at_of f))) (read p) s sound
        (paid_read table (weight (place_size v) (place_hops n seen v)) p h)
    walk_place (Index v e) c n seen s sound l ld =
        bind table (walk_place v c n seen s sound l ld.0) λ p s sound h.
        then_quiet table (of_value table (weight (size e) (hops n seen e)) (walk e want.Value c n seen s sound l ld.1)) λ y s sound k.
        paid_element table (weight (place_size v) (place_hops n seen v)) (weight (size e) (hops n seen e)) (assigns_nothing e) (read p) y s sound
        (paid_read table (weight (place_size v) (place_hops n seen v)) p h) k

    walk_values : (es : Exps) (before : Txs) (c : Within) (n : ℕ) (seen : Levels) (s : TranslationState) → Keeps table s → c.level ≡ n →
        LeadsExps table findings n seen es →
        Gives table s (declared_exps n seen es) (PaidTxs (weight (exps_size es) (exps_hops n seen es)) before) (values findings es before c s)
    walk_values no_exps before c n seen s sound l ld = given table s sound before (omega arith, omega arith)
    walk_values (exp e rest) before c n seen s sound l ld =
        bind table (of_value table (weight (size e) (hops n seen e)) (walk e want.Value c n seen s sound l ld.0)) λ x s sound h.
        weaken table (walk_values rest (join_txs before (tx x no_txs)) c n seen s sound l ld.1) λ xs k.
        let j = joined_size before x in (omega (arith, h.0, k.0, j.0), omega (arith, h.1, k.1, j.1))

    walk_fields : (is : Inits) (direct : Bool) (all : HeldAll) (c : Within) (n : ℕ) (seen : Levels) (s : TranslationState) → Keeps table s →
        c.level ≡ n → LeadsInits table findings n seen is →
        Gives table s (declared_inits n seen is) (PaidFields (weight (inits_size is) (inits_hops n seen is)) all) (fields findings is direct all c s)
    walk_fields no_inits direct all c n seen s sound l ld = given table s sound all (omega arith, omega arith)
    walk_fields (init _ e rest) direct all c n seen s sound l ld =
        bind table (of_value table (weight (size e) (hops n seen e)) (walk e want.Value c n seen s sound l ld.0)) λ x s sound h.
        bind table (paid_next table (weight (size e) (hops n seen e)) direct all x s sound h) λ next s sound g.
        weaken table (walk_fields rest direct next c n seen s sound l ld.1) λ end k. (omega (arith, g.0, k.0), omega (arith, g.1, k.1))

    walk_sequence : (es : Exps) (w : Want) (before : Stms) (c : Within) (n : ℕ) (seen : Levels) (s : TranslationState) → Keeps table s →
        c.level ≡ n → LeadsExps table findings n seen es →
        Gives table s (declared_exps n seen es) (PaidBegun (weight (exps_size es) (exps_hops n seen es)) before) (sequence findings es w before c s)
    walk_sequence no_exps w before c n seen s sound l ld =
        given table s sound (record { before = before; last = value (Const 0) }) (omega arith, omega arith)
    walk_sequence (exp e no_exps) w before c n seen s sound l ld =
        bind table (walk e w c n seen s sound l ld.0) λ m s sound h.
        given table s sound (record { before = before; last = m }) (omega (arith, h.0), omega (arith, h.1))
    walk_sequence (exp e (exp f rest)) w before c n seen s sound l ld =
        bind table (of_statement table (weight (size e) (hops n seen e)) (walk e want.Dropped c n seen s sound l ld.0)) λ x s sound h.
        weaken table (walk_sequence (exp f rest) w (followed before x) c n seen s sound l ld.1) λ b k.
        let j = followed_size before x in (omega (arith, h.0, k.0, j.0), omega (arith, h.1, k.1, j.1))

    walk_decs : (ds : Decs) (before : Stms) (c : Within) (n : ℕ) (seen : Levels) (s : TranslationState) → Keeps table s → c.level ≡ n →
        LeadsDecs table findings n seen ds →
        Gives table s (declared_decs n seen ds) (PaidStms (weight (decs_size ds) (decs_hops n seen ds)) before) (declarations findings ds before c s)
    walk_decs no_decs before c n seen s sound l ld = given table s sound before (omega arith, omega arith)
    walk_decs (types ts rest) before c n seen s sound l ld =
        weaken table (walk_decs rest before c n seen s sound l ld) λ ss h. (omega (arith, h.0), omega (arith, h.1))
    walk_decs (variable x _ e rest) before c n seen s sound l ld =
        bind table (paid_declaration table (weight (size e) (hops n seen e)) findings.escapes c.level (at_of x) (λ v. expression findings e v c) s sound
        (l ∙ ld.0) (λ v t k. walk e v c n seen t k l ld.1)) λ y s sound h.
        weaken table (walk_decs rest (followed before y) c n (own n x seen) s sound l ld.2) λ ss k.
        let j = followed_size before y in (omega (arith, h.0, k.0, j.0), omega (arith, h.1, k.1, j.1))
    walk_decs (functions fs rest) before c n seen s sound l ld =
        bind table (any_functions table fs c.level s sound (subst (λ z. AreAt table z fs) (sym l) ld.0)) λ x t there u.
        bind table (walk_bodies fs s.label c n (own_functions n fs seen) t there l ld.1) λ y v after_it i.
        weaken table (walk_decs rest before c n (own_functions n fs seen) v after_it l ld.2) λ ss h. (omega (arith, h.0), omega (arith, h.1))

    walk_bodies : (fs : FunDecs) (label : ℕ) (c : Within) (n : ℕ) (seen : Levels) (s : TranslationState) → Keeps table s → c.level ≡ n →
        LeadsBodies table findings n seen fs →
        Gives table s (declared_functions n seen fs) (λ a. Unit {0}) (bodies findings fs label c s)
    walk_bodies no_functions label c n seen s sound l ld = given table {A = Unit {0}} s sound tt tt
    walk_bodies (function f params result e rest) label c n seen s sound l ld =
        let kept = findings.keeps_link (at_of f) in
        let deep = own_params (suc n) params seen in
        let t : TranslationState = begun findings.escapes label kept (c.level + 1) params s in
        let few = frame_params findings.escapes kept params in
        let there = begun_keeps table findings.escapes label kept (c.level + 1) params s sound
        (subst (λ z. AreParamsAt table z params) (next_level c.level n l) ld.0) in
        bind table (finish_paid table s t (measures f.span.from (suc n) seen params e) refl refl (omega (arith, few))
        (closed_body table (is_some result) (weight (size e) (hops (suc n) deep e))
        (walk e (result_want (is_some result)) (inside c kept) (suc n) deep t there (omega (arith, l)) ld.1))) λ x u after_it i.
        walk_bodies rest (label + 1) c n seen u after_it l ld.2

  -- The program's body stands first.

  abbrev start : TranslationState
  start = beginning 33 (frame_for 32 [])

  start_keeps : Keeps table start
  start_keeps = record { home = λ at k e. cc; callee = λ at k e. cc }

  program_paid : {ms : List Measures} (i : Measures) (d : Translated Ts) → i.size ≤ i.nodes + 1 → Gives table start ms (IsPaidBody i.size i.hops) d →
      AllZip IsPaid (i ∷ ms) (program d).functions
  program_paid {ms = ms} i (drawn x u) few h =
      (paid_function table start i x u refl (omega (arith, few)) h, subst (λ fs. AllZip IsPaid ms fs) (sym h.functions.behind) h.functions.paid)

  pub functions_are_paid : (e : Exp) → Leads table findings 0 [] e → AllZip IsPaid (program_functions e) (translated findings e).functions
  functions_are_paid e ld =
      program_paid (measures (span_of e).from 0 [] [] e) (program_body findings e start) (omega arith)
      (closed_body table false (weight (size e) (hops 0 [] e)) (walk e want.Dropped outermost 0 [] start start_keeps refl ld))
