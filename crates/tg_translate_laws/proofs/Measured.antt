-- The walk over a program's text for what its translation takes and adds: slots and temporaries of frames, literals, functions in their order, and how
-- far trees go for what they read and write.
use Rattle.std.proofs.Common.{◌≡◌, ◌≤◌, ◌+◌, ◌*◌, ℕ, suc, Bool, true, false, List, [], ◌∷◌, length, map, refl, sym, subst, arith}
use Rattle.std.specs.Prelude.{is_some}
use Rattle.std.specs.List.{AllZip}
use Rattle.tg_frame.specs.Homes.{homes_from, homes_of, slots_of, temps_of}
use Rattle.tg_syntax.specs.declared.trees.Param.{Param}
use Rattle.tg_syntax.specs.Measures.{size, place_size, exps_size, inits_size, decs_size}
use Rattle.tg_syntax.specs.Functions.{Measures, Levels, measures, own, own_params, own_functions, own_decs, declared, declared_place, declared_exps}
use Rattle.tg_syntax.specs.Functions.{declared_inits, declared_decs, declared_functions, program_functions}
use Rattle.tg_syntax.specs.Spans.{span_of}
use Rattle.tg_syntax.specs.Tree as source
use Rattle.tg_syntax.specs.Tree.{Exp, Nil, Break, Int, Text, Read, Call, Neg, Binary, Make, Fill, Assign, If, When, While, For, Let, Seq, Simple}
use Rattle.tg_syntax.specs.Tree.{Field, Index, Exps, no_exps, exp, Inits, no_inits, init, Decs, no_decs, types, variable, functions, FunDecs}
use Rattle.tg_syntax.specs.Tree.{no_functions, function}
use Rattle.tg_tree.specs.Tree as tree
use Rattle.tg_tree.specs.Tree.{Tx, Const, Txs, no_txs, tx, Ts, Stms, no_stms}
use Rattle.tg_tree.specs.Forms.{nothing}
use Rattle.tg_tree.specs.glue.Lists.{join_txs}
use Rattle.tg_tree.specs.Memory.{string_text}
use Rattle.tg_translate.specs.declared.wants.Want.{Want}
use Rattle.tg_translate.specs.declared.wants.Want.TheVariants as want
use Rattle.tg_translate.specs.declared.homes.Within.{Within}
use Rattle.tg_translate.specs.mirror.States.{TranslationState, Translated, drawn, after, give}
use Rattle.tg_translate.specs.mirror.Wants.{Made, value, done, value_of, test_of, dropped, followed}
use Rattle.tg_translate.specs.mirror.Constructs.{HeldAll, none_held, read, make_array, negation, repeat_while, in_body, in_test}
use Rattle.tg_translate.specs.mirror.Choices.{left_want}
use Rattle.tg_translate.specs.mirror.Scopes.{Findings, field_number}
use Rattle.tg_translate.specs.mirror.Purity.{assigns_nothing, inits_assign_nothing}
use Rattle.tg_translate.specs.mirror.Updates.{begins_with}
use Rattle.tg_translate.specs.mirror.Functions.{at_of, asked, begun, inside, result_want, outermost, beginning, frame_for, program}
use Rattle.tg_translate.specs.mirror.Translate.{Begun, is_zero, is_conjunction, expression, behind_read, locate, values, fields, sequence, declarations}
use Rattle.tg_translate.specs.mirror.Translate.{bodies, program_body, translated}
use Rattle.tg_translate_laws.specs.Accesses.{AccessesWithin}
use Rattle.tg_translate_laws.specs.Escaped.{one_of, params_escaping, escaping, place_escaping, exps_escaping, inits_escaping, decs_escaping, escaping_inside}
use Rattle.tg_translate_laws.specs.Escaped.{place_escaping_inside, exps_escaping_inside, inits_escaping_inside, decs_escaping_inside, functions_escaping}
use Rattle.tg_translate_laws.specs.Escaped.{program_escaping}
use Rattle.tg_translate_laws.specs.Strings.{strings, place_strings, exps_strings, inits_strings, decs_strings, bodies_strings}
use Rattle.tg_translate_laws.specs.laws.Laws.{FunctionIsWithin}
use Rattle.tg_translate_laws.proofs.Fine.{Each}
use Rattle.tg_translate_laws.proofs.Near.{IsTx, AreTxs, IsCond, IsTs, AreStms, IsMade, IsPlace, join_txs_near, followed_near, dropped_near, test_near}
use Rattle.tg_translate_laws.proofs.Near.{read_near, negation_near}
use Rattle.tg_translate_laws.proofs.Sized.{Gives, SmallBody, body_size}
use Rattle.tg_translate_laws.proofs.Taking.{Cost, costs, draws, adds, HasSlots, Takes, both, at_most, more, then_draws, then_quiet, draws_then, quiet_then}
use Rattle.tg_translate_laws.proofs.Taking.{adds_then, gives, within_frame, finished, PassesNothing}
use Rattle.tg_translate_laws.proofs.Updating.{same_is_quiet}
use Rattle.tg_translate_laws.proofs.Charges.{declares, declares_functions, values_takes, behind_takes, hold_next_takes, assignment_takes, field_takes}
use Rattle.tg_translate_laws.proofs.Charges.{element_takes, count_takes, record_takes, place_takes, call_takes, closing_takes, literal_takes}
use Rattle.tg_translate_laws.proofs.Charges.{declaration_takes, left_takes, choice_takes}

-- how many temporaries each part draws at most, without the functions that it declares
abbrev mutual
  drawn_by : Exp → ℕ
  drawn_by (Nil _) = 0
  drawn_by (Int _ _) = 0
  drawn_by (Break _) = 0
  drawn_by (Text _ _) = 0
  drawn_by (Read _ v) = drawn_by_place v
  drawn_by (Call _ _ args) = drawn_by_exps args
  drawn_by (Neg _ x) = drawn_by x + 1
  drawn_by (Binary _ _ _ x y) = drawn_by x + (drawn_by y + 5)
  drawn_by (Make _ _ inits) = drawn_by_inits inits + 1
  drawn_by (Fill _ _ x y) = drawn_by x + 1 + (drawn_by y + 1)
  drawn_by (Assign _ v x) = drawn_by_place v + (1 + (drawn_by x + 1))
  drawn_by (If _ d x y) = drawn_by d + (1 + (drawn_by x + drawn_by y))
  drawn_by (When _ d x) = drawn_by d + drawn_by x
  drawn_by (While _ d x) = drawn_by d + drawn_by x
  drawn_by (For _ _ low high x) = drawn_by low + 1 + (drawn_by high + 1 + (1 + (drawn_by x + 2)))
  drawn_by (Let _ ds es) = drawn_by_decs ds + (drawn_by_exps es + 1)
  drawn_by (Seq _ es) = drawn_by_exps es + 1

  drawn_by_place : source.LValue → ℕ
  drawn_by_place (Simple _) = 0
  drawn_by_place (Field v _) = drawn_by_place v + 1
  drawn_by_place (Index v x) = drawn_by_place v + (drawn_by x + 1 + 2)

  drawn_by_exps : Exps → ℕ
  drawn_by_exps no_exps = 0
  drawn_by_exps (exp x rest) = drawn_by x + 1 + drawn_by_exps rest

  drawn_by_inits : Inits → ℕ
  drawn_by_inits no_inits = 0
  drawn_by_inits (init _ x rest) = drawn_by x + 1 + (1 + drawn_by_inits rest)

  drawn_by_decs : Decs → ℕ
  drawn_by_decs no_decs = 0
  drawn_by_decs (types _ rest) = drawn_by_decs rest
  drawn_by_decs (variable _ _ x rest) = 1 + (drawn_by x + 1) + drawn_by_decs rest
  drawn_by_decs (functions _ rest) = drawn_by_decs rest

module _ (escapes : ℕ → Bool) where
  one_at_most : (b : Bool) → one_of b ≤ 1
  one_at_most true = omega arith
  one_at_most false = omega arith

  few_params : (params : List Param) → params_escaping escapes params ≤ length params
  few_params [] = omega arith
  few_params (p ∷ params) = let h = one_at_most (escapes (at_of p.name)) in let k = few_params params in omega (arith, h, k)

  -- Each node draws six at most; and no more variables of a function escape than it has nodes.
  mutual
    few : (e : Exp) → (drawn_by e + 1 ≤ 6 * size e) × (escaping escapes e ≤ size e)
    few (Nil _) = (omega arith, omega arith)
    few (Int _ _) = (omega arith, omega arith)
    few (Break _) = (omega arith, omega arith)
    few (Text _ _) = (omega arith, omega arith)
    few (Read _ v) = let h = few_in_place v in (omega (arith, h.0), omega (arith, h.1))
    few (Call _ _ args) = let h = few_in_exps args in (omega (arith, h.0), omega (arith, h.1))
    few (Neg _ x) = let h = few x in (omega (arith, h.0), omega (arith, h.1))
    few (Binary _ _ _ x y) = let h = few x in let k = few y in (omega (arith, h.0, k.0), omega (arith, h.1, k.1))
    few (Make _ _ inits) = let h = few_in_inits inits in (omega (arith, h.0), omega (arith, h.1))
    few (Fill _ _ x y) = let h = few x in let k = few y in (omega (arith, h.0, k.0), omega (arith, h.1, k.1))
    few (Assign _ v x) = let h = few_in_place v in let k = few x in (omega (arith, h.0, k.0), omega (arith, h.1, k.1))
    few (If _ d x y) = let h = few d in let k = few x in let l = few y in (omega (arith, h.0, k.0, l.0), omega (arith, h.1, k.1, l.1))
    few (When _ d x) = let h = few d in let k = few x in (omega (arith, h.0, k.0), omega (arith, h.1, k.1))
    few (While _ d x) = let h = few d in let k = few x in (omega (arith, h.0, k.0), omega (arith, h.1, k.1))
    few (For _ i low high x) =
        let h = few low in
        let k = few high in
        let l = few x in
        let m = one_at_most (escapes (at_of i)) in
        (omega (arith, h.0, k.0, l.0), omega (arith, h.1, k.1, l.1, m))
    few (Let _ ds es) = let h = few_in_decs ds in let k = few_in_exps es in (omega (arith, h.0, k.0), omega (arith, h.1, k.1))
    few (Seq _ es) = let h = few_in_exps es in (omega (arith, h.0), omega (arith, h.1))

    few_in_place : (v : source.LValue) → (drawn_by_place v ≤ 6 * place_size v) × (place_escaping escapes v ≤ place_size v)
    few_in_place (Simple _) = (omega arith, omega arith)
    few_in_place (Field v _) = let h = few_in_place v in (omega (arith, h.0), omega (arith, h.1))
    few_in_place (Index v x) = let h = few_in_place v in let k = few x in (omega (arith, h.0, k.0), omega (arith, h.1, k.1))

    few_in_exps : (es : Exps) → (drawn_by_exps es ≤ 6 * exps_size es) × (exps_escaping escapes es ≤ exps_size es)
    few_in_exps no_exps = (omega arith, omega arith)
    few_in_exps (exp x rest) = let h = few x in let k = few_in_exps rest in (omega (arith, h.0, k.0), omega (arith, h.1, k.1))

    few_in_inits : (is : Inits) → (drawn_by_inits is ≤ 6 * inits_size is) × (inits_escaping escapes is ≤ inits_size is)
    few_in_inits no_inits = (omega arith, omega arith)
    few_in_inits (init _ x rest) = let h = few x in let k = few_in_inits rest in (omega (arith, h.0, k.0), omega (arith, h.1, k.1))

    few_in_decs : (ds : Decs) → (drawn_by_decs ds ≤ 6 * decs_size ds) × (decs_escaping escapes ds ≤ decs_size ds)
    few_in_decs no_decs = (omega arith, omega arith)
    few_in_decs (types ts rest) = let h = few_in_decs rest in (omega (arith, h.0), omega (arith, h.1))
    few_in_decs (variable y _ x rest) =
        let h = few x in
        let k = few_in_decs rest in
        let m = one_at_most (escapes (at_of y)) in
        (omega (arith, h.0, k.0), omega (arith, h.1, k.1, m))
    few_in_decs (functions fs rest) = let h = few_in_decs rest in (omega (arith, h.0), omega (arith, h.1))

  -- A frame begins with the homes of parameters and the link's.

  params_slots : (params : List Param) → slots_of (map (λ p. escapes (at_of p.name)) params) ≡ params_escaping escapes params
  params_slots [] = refl
  params_slots (p ∷ params) = one (escapes (at_of p.name)) (params_slots params)
    where
      one : (b : Bool) → slots_of (map (λ p. escapes (at_of p.name)) params) ≡ params_escaping escapes params →
          slots_of (b ∷ map (λ p. escapes (at_of p.name)) params) ≡ one_of b + params_escaping escapes params
      one true e = omega (arith, e)
      one false e = omega (arith, e)

  frame_slots : (kept : Bool) (params : List Param) → slots_of (asked escapes kept params) ≤ params_escaping escapes params + 1
  frame_slots true params = omega (arith, params_slots params)
  frame_slots false params = omega (arith, params_slots params)

  few_temps : (params : List Param) → temps_of (map (λ p. escapes (at_of p.name)) params) ≤ length params
  few_temps [] = omega arith
  few_temps (p ∷ params) = one (escapes (at_of p.name)) (few_temps params)
    where
      one : (b : Bool) → temps_of (map (λ p. escapes (at_of p.name)) params) ≤ length params →
          temps_of (b ∷ map (λ p. escapes (at_of p.name)) params) ≤ length (p ∷ params)
      one true e = omega (arith, e)
      one false e = omega (arith, e)

  homes_count : (slots temps : ℕ) (params : List Param) → length (homes_from slots temps (map (λ p. escapes (at_of p.name)) params)) ≡ length params
  homes_count slots temps [] = refl
  homes_count slots temps (p ∷ params) = one (escapes (at_of p.name)) (homes_count (slots + 1) temps params) (homes_count slots (temps + 1) params)
    where
      one : (b : Bool) → length (homes_from (slots + 1) temps (map (λ p. escapes (at_of p.name)) params)) ≡ length params →
          length (homes_from slots (temps + 1) (map (λ p. escapes (at_of p.name)) params)) ≡ length params →
          length (homes_from slots temps (b ∷ map (λ p. escapes (at_of p.name)) params)) ≡ length (p ∷ params)
      one true e f = omega (arith, e)
      one false e f = omega (arith, f)

  frame_params : (kept : Bool) (params : List Param) → length (homes_of (asked escapes kept params)) ≤ length params + 1
  frame_params true params = let h = homes_count 1 0 params in omega (arith, h)
  frame_params false params = let h = homes_count 0 1 params in omega (arith, h)

  frame_temps : (kept : Bool) (params : List Param) → temps_of (asked escapes kept params) ≤ length params + 1
  frame_temps true params = omega (arith, few_temps params)
  frame_temps false params = omega (arith, few_temps params)

module _ (findings : Findings) where
  -- what parts cost, in a text of this level which sees these names
  abbrev of_exp : (n : ℕ) → Levels → Exp → Cost
  of_exp n seen e = costs (escaping findings.escapes e) (drawn_by e) (strings e) (escaping_inside findings.escapes e) (declared n seen e)

  abbrev of_place : (n : ℕ) → Levels → source.LValue → Cost
  of_place n seen v =
      costs (place_escaping findings.escapes v) (drawn_by_place v) (place_strings v) (place_escaping_inside findings.escapes v) (declared_place n seen v)

  abbrev of_exps : (n : ℕ) → Levels → Exps → Cost
  of_exps n seen es =
      costs (exps_escaping findings.escapes es) (drawn_by_exps es) (exps_strings es) (exps_escaping_inside findings.escapes es) (declared_exps n seen es)

  abbrev of_inits : (n : ℕ) → Levels → Inits → Cost
  of_inits n seen is =
      costs (inits_escaping findings.escapes is) (drawn_by_inits is) (inits_strings is) (inits_escaping_inside findings.escapes is) (declared_inits n seen is)

  abbrev of_decs : (n : ℕ) → Levels → Decs → Cost
  of_decs n seen ds =
      costs (decs_escaping findings.escapes ds) (drawn_by_decs ds) (decs_strings ds) (decs_escaping_inside findings.escapes ds) (declared_decs n seen ds)

  abbrev of_functions : (n : ℕ) → Levels → FunDecs → Cost
  of_functions n seen fs = adds (bodies_strings fs) (functions_escaping findings.escapes fs) (declared_functions n seen fs)

  module _ {m : Cost} (n : ℕ) {s : TranslationState} {d : Translated Made} (h : Takes m (IsMade n) s d) where
    of_value : Takes (record m { temps = m.temps + 1 }) (IsTx n) s (after d value_of)
    of_value = then_draws h λ x s k. values_takes n x s k

    of_test : Takes m (IsCond n) s (after d (λ x. give (test_of x)))
    of_test = then_quiet h λ x s k. gives s (test_of x) (test_near n x k)

    of_statement : Takes m (IsTs n) s (after d (λ x. give (dropped x)))
    of_statement = then_quiet h λ x s k. gives s (dropped x) (dropped_near n x k)

  zero_takes_nothing : (n : ℕ) (seen : Levels) (e : Exp) → is_zero e ≡ true → of_exp n seen e ≡ draws 0
  zero_takes_nothing n seen (Int _ ℕ.zero) i = refl
  zero_takes_nothing n seen e i = cc

  conjunction_takes_nothing : (n : ℕ) (seen : Levels) (w : Want) (e : Exp) → is_conjunction w e ≡ true → of_exp n seen e ≡ draws 0
  conjunction_takes_nothing n seen want.Test e i = zero_takes_nothing n seen e i
  conjunction_takes_nothing n seen w e i = cc

  abbrev IsBegun : ℕ → Begun → Type 0
  IsBegun n b = AreStms n b.before × IsMade n b.last

  mutual
    walk : (e : Exp) (w : Want) (c : Within) (n : ℕ) (seen : Levels) (s : TranslationState) → c.level ≤ n →
        Takes (of_exp n seen e) (IsMade n) s (expression findings e w c s)
    walk (Nil _) w c n seen s l = gives s (value (Const 0)) tt
    walk (Int _ k) w c n seen s l = gives s (value (Const k)) tt
    walk (Break _) w c n seen s l = gives s (done (tree.Break c.leave)) tt
    walk (Text _ bytes) w c n seen s l = literal_takes n bytes s
    walk (Read _ v) w c n seen s l = then_quiet (walk_place v c n seen s l) λ p s h. gives s (value (read p)) (read_near n p h)
    walk (Call _ f args) w c n seen s l =
        then_quiet (walk_values args no_txs c n seen s l tt) λ xs s h. then_quiet (call_takes n c (findings.meaning (at_of f)) xs s l h) λ x s k.
        gives s (value x) k
    walk (Neg _ x) w c n seen s l = then_quiet (of_value n (walk x want.Value c n seen s l)) λ y s h. gives s (value (negation y)) (negation_near n y h)
    walk (Binary _ o at x y) w c n seen s l =
        both (walk x (left_want o) c n seen s l) λ left s h.
        left_takes n (λ v. expression findings y v c) (λ v t. walk y v c n seen t l) o (findings.meaning at) (assigns_nothing y) w left s h
    walk (Make _ _ inits) w c n seen s l =
        then_draws (walk_fields inits (inits_assign_nothing inits) none_held c n seen s l tt) λ all s h. record_takes n all s h
    walk (Fill _ _ x y) w c n seen s l =
        both (of_value n (walk x want.Value c n seen s l)) λ a s h. then_quiet (of_value n (walk y want.Value c n seen s l)) λ b s k.
        gives s (value (make_array a b)) (h, (k, tt))
    walk (Assign _ v x) w c n seen s l =
        both (walk_place v c n seen s l) λ p s h.
        then_quiet (assignment_takes n (begins_with findings.meaning x v) p (λ v. expression findings x v c) (λ r v. behind_read findings x r v c) s h
        (λ v t. walk x v c n seen t l) (λ i r u t k. walk_behind x v r u c n seen t l i k)) λ y s g.
        gives s (done y) g
    walk (If _ d x y) w c n seen s l =
        both (of_test n (walk d want.Test c n seen s l)) λ a s h.
        choice_takes n (λ v. expression findings x v c) (λ v. expression findings y v c) (λ v t. walk x v c n seen t l) (λ v t. walk y v c n seen t l)
        (is_conjunction w y) w a s (conjunction_takes_nothing n seen w y) h
    walk (When _ d x) w c n seen s l =
        both (of_test n (walk d want.Test c n seen s l)) λ a s h. then_quiet (of_statement n (walk x want.Dropped c n seen s l)) λ y s k.
        gives s (done (tree.If a y nothing)) (h, k, tt)
    walk (While _ d x) w c n seen s l =
        both (of_test n (walk d want.Test (in_test c) n seen s l)) λ a s h. then_quiet (of_statement n (walk x want.Dropped (in_body c) n seen s l)) λ y s k.
        gives s (done (repeat_while a y)) (h, k, tt)
    walk (For _ i low high a) w c n seen s l =
        both (of_value n (walk low want.Value c n seen s l)) λ x s h. both (of_value n (walk high want.Value c n seen s l)) λ y s k.
        both (declares (findings.escapes (at_of i)) c.level (at_of i) s) λ home s _.
        then_draws (of_statement n (walk a want.Dropped (in_body c) n (own n i seen) s l)) λ turn s g.
        then_quiet (count_takes n home x y turn s h k g) λ z s j. gives s (done z) j
    walk (Let _ ds es) w c n seen s l =
        both (walk_decs ds no_stms c n seen s l tt) λ before s h. then_draws (walk_sequence es w before c n (own_decs n ds seen) s l h) λ b s k.
        behind_takes n w b.before b.last s k.0 k.1
    walk (Seq _ es) w c n seen s l = then_draws (walk_sequence es w no_stms c n seen s l tt) λ b s k. behind_takes n w b.before b.last s k.0 k.1

    walk_behind : (e : Exp) (v : source.LValue) (x : Tx) (w : Want) (c : Within) (n : ℕ) (seen : Levels) (s : TranslationState) → c.level ≤ n →
        begins_with findings.meaning e v ≡ true → IsTx n x → Takes (of_exp n seen e) (IsMade n) s (behind_read findings e x w c s)
    walk_behind (Read at u) v x w c n seen s l i h =
        let k = same_is_quiet findings n seen v u i in
        at_most (draws 0) (of_exp n seen (Read at u)) (omega arith) (omega arith) (sym k.0) (sym k.1) (sym k.2) (gives s (value x) h)
    walk_behind (Binary _ o at a y) v x w c n seen s l i h =
        both (walk_behind a v x (left_want o) c n seen s l i h) λ left s k.
        left_takes n (λ v. expression findings y v c) (λ v t. walk y v c n seen t l) o (findings.meaning at) (assigns_nothing y) w left s k
    walk_behind e v x w c n seen s l i h = cc

    walk_place : (v : source.LValue) (c : Within) (n : ℕ) (seen : Levels) (s : TranslationState) → c.level ≤ n →
        Takes (of_place n seen v) (IsPlace n) s (locate findings v c s)
    walk_place (Simple x) c n seen s l = place_takes n c (findings.meaning (at_of x)) s l
    walk_place (Field v f) c n seen s l =
        then_draws (walk_place v c n seen s l) λ p s h. field_takes n (field_number (findings.meaning (at_of f))) (read p) s (read_near n p h)
    walk_place (Index v e) c n seen s l =
        both (walk_place v c n seen s l) λ p s h. then_draws (of_value n (walk e want.Value c n seen s l)) λ y s k.
        element_takes n (assigns_nothing e) (read p) y s (read_near n p h) k

    walk_values : (es : Exps) (before : Txs) (c : Within) (n : ℕ) (seen : Levels) (s : TranslationState) → c.level ≤ n → AreTxs n before →
        Takes (of_exps n seen es) (AreTxs n) s (values findings es before c s)
    walk_values no_exps before c n seen s l h = gives s before h
    walk_values (exp e rest) before c n seen s l h =
        both (of_value n (walk e want.Value c n seen s l)) λ x s k. walk_values rest (join_txs before (tx x no_txs)) c n seen s l (join_txs_near n before x h k)

    walk_fields : (is : Inits) (direct : Bool) (all : HeldAll) (c : Within) (n : ℕ) (seen : Levels) (s : TranslationState) →
        c.level ≤ n → AreStms n all.before →
        Takes (of_inits n seen is) (λ all. AreStms n all.before) s (fields findings is direct all c s)
    walk_fields no_inits direct all c n seen s l h = gives s all h
    walk_fields (init _ e rest) direct all c n seen s l h =
        both (of_value n (walk e want.Value c n seen s l)) λ x s k. draws_then (hold_next_takes n direct all x s h k) λ next s g.
        walk_fields rest direct next c n seen s l g

    walk_sequence : (es : Exps) (w : Want) (before : Stms) (c : Within) (n : ℕ) (seen : Levels) (s : TranslationState) → c.level ≤ n → AreStms n before →
        Takes (of_exps n seen es) (IsBegun n) s (sequence findings es w before c s)
    walk_sequence no_exps w before c n seen s l h = gives s (record { before = before; last = value (Const 0) }) (h, tt)
    walk_sequence (exp e no_exps) w before c n seen s l h =
        more (omega arith) (both (walk e w c n seen s l) λ m s k. gives s (record { before = before; last = m }) (h, k))
    walk_sequence (exp e (exp f rest)) w before c n seen s l h =
        more (omega arith)
        (both (of_statement n (walk e want.Dropped c n seen s l)) λ x s k.
        walk_sequence (exp f rest) w (followed before x) c n seen s l (followed_near n before x h k))

    walk_decs : (ds : Decs) (before : Stms) (c : Within) (n : ℕ) (seen : Levels) (s : TranslationState) → c.level ≤ n → AreStms n before →
        Takes (of_decs n seen ds) (AreStms n) s (declarations findings ds before c s)
    walk_decs no_decs before c n seen s l h = gives s before h
    walk_decs (types _ rest) before c n seen s l h = walk_decs rest before c n seen s l h
    walk_decs (variable x _ e rest) before c n seen s l h =
        both (declaration_takes n findings.escapes c.level (at_of x) (λ v. expression findings e v c) s (λ v t. walk e v c n seen t l)) λ y s k.
        walk_decs rest (followed before y) c n (own n x seen) s l (followed_near n before y h k)
    walk_decs (functions fs rest) before c n seen s l h =
        let inside_seen = own_functions n fs seen in
        quiet_then (declares_functions fs c.level s) λ _ t _. adds_then (walk_functions fs s.label c n inside_seen t l) λ _ u _.
        walk_decs rest before c n inside_seen u l h

    walk_functions : (fs : FunDecs) (label : ℕ) (c : Within) (n : ℕ) (seen : Levels) (s : TranslationState) → c.level ≤ n →
        Takes (of_functions n seen fs) (λ x. Unit {0}) s (bodies findings fs label c s)
    walk_functions no_functions label c n seen s l = gives {A = Unit {0}} s tt tt
    walk_functions (function f params result e rest) label c n seen s l =
        let kept = findings.keeps_link (at_of f) in
        let t : TranslationState = begun findings.escapes label kept (c.level + 1) params s in
        let temps = frame_temps findings.escapes kept params in
        let bounds = few findings.escapes e in
        let few_own = few_params findings.escapes params in
        let homes = frame_params findings.escapes kept params in
        both
        (finished s t (params_escaping findings.escapes params) (measures f.span.from (suc n) seen params e) refl refl
        (omega (arith, homes)) refl (frame_slots findings.escapes kept params)
        (omega (arith, bounds.1, few_own)) (omega (arith, bounds.0, temps))
        (λ k. body_size findings e (result_want (is_some result)) (is_some result) (inside c kept) t (omega (arith, k, l)))
        (then_draws (walk e (result_want (is_some result)) (inside c kept) (suc n) (own_params (suc n) params seen) t (omega (arith, l))) λ m s h.
        closing_takes (suc n) (is_some result) m s h)) λ _ s _.
        walk_functions rest (label + 1) c n seen s l

  -- The program's body stands first.

  abbrev start : TranslationState
  start = beginning 33 (frame_for 32 [])

  walked : (e : Exp) → Takes (record (of_exp 0 [] e) { temps = drawn_by e + 1 }) (IsTs 0) start (program_body findings e start)
  walked e = then_draws (walk e want.Dropped outermost 0 [] start (omega arith)) λ m s h. closing_takes 0 false m s h

  program_texts : {m : Cost} {V : Ts → Type 0} (d : Translated Ts) → Takes m V start d → map (λ l. l.text) (program d).literals ≡ map string_text m.texts
  program_texts (drawn x u) h = h.texts

  program_slots : {m : Cost} {V : Ts → Type 0} (d : Translated Ts) → Takes m V start d → AllZip HasSlots (m.slots ∷ m.counts) (program d).functions
  program_slots {m} (drawn x u) h =
      let k = h.slots in
      (omega (arith, k), subst (λ fs. AllZip HasSlots m.counts fs) (sym h.functions.behind) h.functions.slots)

  program_within : {m : Cost} (i : Measures) (d : Translated Ts) → m.slots ≤ i.nodes → m.temps ≤ 6 * i.nodes + 1 → (i.level ≤ 32 → Gives (SmallBody i.size) d) →
      Takes m (AccessesWithin (suc i.level)) start d → AllZip FunctionIsWithin (i ∷ m.functions) (program d).functions
  program_within {m} i (drawn x u) a b small h = (
    within_frame start i (omega arith) refl (omega (arith, a)) (omega (arith, b)) (λ n. (small n).value) h,
    subst (λ fs. AllZip FunctionIsWithin m.functions fs) (sym h.functions.behind) h.functions.within,
  )

  program_passes : {m : Cost} {V : Ts → Type 0} (d : Translated Ts) → Takes m V start d → Each PassesNothing (program d).functions
  program_passes (drawn x u) h = (h.out, subst (λ fs. Each PassesNothing fs) (sym h.functions.behind) h.functions.passing)

  pub literals_are : (e : Exp) → map (λ l. l.text) (translated findings e).literals ≡ map string_text (strings e)
  literals_are e = program_texts (program_body findings e start) (walked e)

  pub slots_are_few : (e : Exp) → AllZip HasSlots (program_escaping findings.escapes e) (translated findings e).functions
  slots_are_few e = program_slots (program_body findings e start) (walked e)

  pub nothing_is_passed : (e : Exp) → Each PassesNothing (translated findings e).functions
  nothing_is_passed e = program_passes (program_body findings e start) (walked e)

  pub functions_are_within : (e : Exp) → AllZip FunctionIsWithin (program_functions e) (translated findings e).functions
  functions_are_within e =
      let bounds = few findings.escapes e in
      program_within (measures (span_of e).from 0 [] [] e) (program_body findings e start) (omega (arith, bounds.1)) (omega (arith, bounds.0))
      (λ l. body_size findings e want.Dropped false outermost start (omega arith)) (walked e)
