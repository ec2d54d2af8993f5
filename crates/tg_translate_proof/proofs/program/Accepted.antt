-- An accepted program: no byte is declared twice, so what its finished translation has found stays
-- found; its weights are those of its functions; and what was found of it fits its text.
use Rattle.std.proofs.Common.{◌≡◌, ◌≢◌, ◌<◌, ◌≤◌, ◌+◌, ℕ, zero, suc, true, false, Some, None, List}
use Rattle.std.proofs.Common.{[], ◌∷◌, ◌++◌, length, get_or, refl, sym, ap, ◌∙◌, arith, subst, inl, inr}
use Rattle.std.specs.Prelude.{if◌then◌else◌, nat_eq}
use Rattle.std.specs.List.{Contains, AllPairs, list_any, flat_map}
use Rattle.std.specs.FinSet.{contains-from_list_nat}
use Rattle.std.proofs.lemmas.Bool.{cases_eq, eq-eqb, ne_eqb, or_left, or_right}
use Rattle.std.proofs.lemmas.List.Elements.{Contains-append_left, Contains-append_right}
use Rattle.tg_syntax.specs.Functions.{Measures, Levels, own, own_params, own_functions, own_decs, declared, declared_place, declared_exps}
use Rattle.tg_syntax.specs.Functions.{declared_inits, declared_decs, declared_functions}
use Rattle.tg_syntax.specs.Tree.{Exp, Nil, Break, Int, Text, Read, Call, Neg, Binary, Make, Fill, Assign, If, When, While, For, Let, Seq, LValue, Simple}
use Rattle.tg_syntax.specs.Tree.{Field, Index, Exps, no_exps, exp, Inits, no_inits, init, Decs, no_decs, types, variable, functions, FunDecs}
use Rattle.tg_syntax.specs.Tree.{no_functions, function}
use Rattle.tg_syntax.specs.Beginnings.{beginnings}
use Rattle.tg_symbols.specs.Tables.{looked_up}
use Rattle.tg_escape.specs.Uses.{Use, uses_of}
use Rattle.tg_escape.specs.Escaping.{escapes_by, escapes_of}
use Rattle.tg_escape.specs.Links.{links_by, links_of}
use Rattle.tg_typecheck.specs.Scopes.{outermost_scope}
use Rattle.tg_typecheck.specs.Programs.{CheckedProgram, IsAccepted}
use Rattle.tg_typecheck.proofs.Derivations.{checked_has_type}
use Rattle.tg_typecheck.proofs.NotesFound.{notes_are_found}
use Rattle.tg_translate_laws.proofs.Counts.{same, times, times-append, same_self, same_not}
use Rattle.tg_translate.specs.declared.wants.Want.TheVariants as want
use Rattle.tg_translate.specs.mirror.States.{TranslationState, Translated}
use Rattle.tg_translate.specs.mirror.Scopes.{Findings}
use Rattle.tg_translate.specs.mirror.Wants.{Made}
use Rattle.tg_translate.specs.mirror.Functions as functions
use Rattle.tg_translate.specs.mirror.Translate.{expression}
use Rattle.tg_translate_proof.specs.glue.Tables.{Table}
use Rattle.tg_translate_proof.specs.Bounds.{bound_by, declared_at}
use Rattle.tg_translate_proof.specs.glue.Covered.{Covers}
use Rattle.tg_translate_proof.specs.laws.Laws.{findings_of}
use Rattle.tg_translate_proof.proofs.state.TranslationStates.{state_in, behind_none}
use Rattle.tg_translate_proof.proofs.program.Program.{first_state}
use Rattle.tg_translate_proof.proofs.invariant.Covered.{Declares, HasVariable, IsWeighed, AllFound, covers, first_here, first_stands}
use Rattle.tg_typecheck.specs.Types.{Shape}
use Rattle.tg_typecheck.specs.declared.notes.Note.{Note}
use Rattle.tg_translate_proof.proofs.state.DeclaredBytes.{many, names_declare, declares, place_declares}
use Rattle.tg_translate_proof.proofs.state.DeclaredBytes.{exps_declare, inits_declare, decs_declare, bodies_declare, begin_there}
use Rattle.tg_translate_proof.proofs.state.Tables.{Once, Shows, InTable, AreWeighed, AreTied, found_times}
use Rattle.tg_translate_proof.proofs.state.TableWalk.{shows}

-- Lists in which nothing stands twice.

same_most : (a b : ℕ) → same a b ≤ 1
same_most a b = elim (cases_eq a b) [
  | inl e ↦ (let i : same a b ≡ 1 = subst (λ o. same a o ≡ 1) e (same_self a) in omega (arith, i))
  | inr ne ↦ (let i = same_not a b ne in omega (arith, i))
]

absent : (ys : List ℕ) (b : ℕ) → ((i d : ℕ) → i < length ys → b ≢ get_or ys i d) → many b ys ≡ 0
absent [] b f = refl
absent (y ∷ ys) b f =
    let rest = absent ys b (λ i d lt. f (suc i) d (omega (arith, lt))) in
    let none = same_not y b (λ e. f 0 0 (omega arith) (sym e)) in
    omega (arith, rest, none)

apart_once : (xs : List ℕ) → AllPairs (λ a b. a ≢ b) xs → (k : ℕ) → many k xs ≤ 1
apart_once [] h k = omega arith
apart_once (x ∷ xs) h k = elim (cases_eq x k) [
  | inl e ↦ (let none : many k xs ≡ 0 = absent xs k (λ i d lt. λ q. h 0 (suc i) d (omega arith) (omega (arith, lt)) (e ∙ q)) in
      let one = same_most x k in omega (arith, none, one))
  | inr ne ↦ (let rest = apart_once xs (λ i j d l m. h (suc i) (suc j) d (omega (arith, l)) (omega (arith, m))) k in
      let none = same_not x k ne in omega (arith, rest, none))
]

-- a name that is found is counted
named_times : {A : Type 0} (at : ℕ) (a : A) (xs : List (ℕ × A)) → looked_up at xs ≡ Some a → 0 < times (λ x. x.0) at xs
named_times at a [] e = cc
named_times at a (x ∷ xs) e = elim (cases_eq x.0 at) [
  | inl q ↦ (let one : same x.0 at ≡ 1 = subst (λ o. same x.0 o ≡ 1) q (same_self x.0) in omega (arith, one))
  | inr ne ↦ (let rest = named_times at a xs (sym (ap (λ t. if t then Some x.1 else looked_up at xs) (ne_eqb x.0 at ne)) ∙ e) in omega (arith, rest))
]

named_behind : {A : Type 0} (at : ℕ) (more rest : List (ℕ × A)) → times (λ x. x.0) at more ≡ 0 → looked_up at (more ++ rest) ≡ looked_up at rest
named_behind at [] rest e = refl
named_behind at (x ∷ more) rest e = elim (cases_eq x.0 at) [
  | inl q ↦ (let one : same x.0 at ≡ 1 = subst (λ o. same x.0 o ≡ 1) q (same_self x.0) in absurd (omega (arith, e, one)))
  | inr ne ↦ ap (λ t. if t then Some x.1 else looked_up at (more ++ rest)) (ne_eqb x.0 at ne) ∙ named_behind at more rest (omega (arith, e))
]

once_by_times : {A : Type 0} (whole : List (ℕ × A)) → ((k : ℕ) → times (λ x. x.0) k whole ≤ 1) → Once whole
once_by_times whole few at a more rest is e =
    let here = named_times at a rest e in
    let all = few at in
    let split : times (λ x. x.0) at whole ≡ times (λ x. x.0) at more + times (λ x. x.0) at rest =
    ap (λ l. times (λ x. x.0) at l) is ∙ times-append (λ x. x.0) at more rest in
    let none : times (λ x. x.0) at more ≡ 0 = omega (arith, here, all, split) in
    ap (λ l. looked_up at l) is ∙ named_behind at more rest none ∙ e

-- The functions of a text stand there once for each declaration.
module _ (k : ℕ) where
  abbrev counted : List Measures → ℕ
  counted ms = times (λ m. m.at) k ms

  two : (xs ys : List Measures) (a b : ℕ) → counted xs ≤ a → counted ys ≤ b → counted (xs ++ ys) ≤ a + b
  two xs ys a b h i = let e = times-append (λ m. m.at) k xs ys in omega (arith, e, h, i)

  mutual
    pub counted_once : (n : ℕ) (seen : Levels) (e : Exp) → counted (declared n seen e) ≤ declares k e
    counted_once n seen (Nil _) = omega arith
    counted_once n seen (Break _) = omega arith
    counted_once n seen (Int _ _) = omega arith
    counted_once n seen (Text _ _) = omega arith
    counted_once n seen (Read _ v) = counted_place n seen v
    counted_once n seen (Call _ f es) = counted_exps n seen es
    counted_once n seen (Neg _ a) = counted_once n seen a
    counted_once n seen (Binary _ _ _ a b) = two (declared n seen a) (declared n seen b) _ _ (counted_once n seen a) (counted_once n seen b)
    counted_once n seen (Make _ _ is) = counted_inits n seen is
    counted_once n seen (Fill _ _ a b) = two (declared n seen a) (declared n seen b) _ _ (counted_once n seen a) (counted_once n seen b)
    counted_once n seen (Assign _ v a) = two (declared_place n seen v) (declared n seen a) _ _ (counted_place n seen v) (counted_once n seen a)
    counted_once n seen (If _ c a b) =
        two (declared n seen c) (declared n seen a ++ declared n seen b) _ _ (counted_once n seen c)
        (two (declared n seen a) (declared n seen b) _ _ (counted_once n seen a) (counted_once n seen b))
    counted_once n seen (When _ c a) = two (declared n seen c) (declared n seen a) _ _ (counted_once n seen c) (counted_once n seen a)
    counted_once n seen (While _ c a) = two (declared n seen c) (declared n seen a) _ _ (counted_once n seen c) (counted_once n seen a)
    counted_once n seen (For _ x l h a) =
        let i = two (declared n seen l) (declared n seen h ++ declared n (own n x seen) a) _ _ (counted_once n seen l)
        (two (declared n seen h) (declared n (own n x seen) a) _ _ (counted_once n seen h) (counted_once n (own n x seen) a)) in
        omega (arith, i)
    counted_once n seen (Let _ ds es) =
        two (declared_decs n seen ds) (declared_exps n (own_decs n ds seen) es) _ _ (counted_decs n seen ds) (counted_exps n (own_decs n ds seen) es)
    counted_once n seen (Seq _ es) = counted_exps n seen es

    counted_place : (n : ℕ) (seen : Levels) (v : LValue) → counted (declared_place n seen v) ≤ place_declares k v
    counted_place n seen (Simple x) = omega arith
    counted_place n seen (Field v f) = counted_place n seen v
    counted_place n seen (Index v e) = two (declared_place n seen v) (declared n seen e) _ _ (counted_place n seen v) (counted_once n seen e)

    counted_exps : (n : ℕ) (seen : Levels) (es : Exps) → counted (declared_exps n seen es) ≤ exps_declare k es
    counted_exps n seen no_exps = omega arith
    counted_exps n seen (exp e rest) = two (declared n seen e) (declared_exps n seen rest) _ _ (counted_once n seen e) (counted_exps n seen rest)

    counted_inits : (n : ℕ) (seen : Levels) (is : Inits) → counted (declared_inits n seen is) ≤ inits_declare k is
    counted_inits n seen no_inits = omega arith
    counted_inits n seen (init f e rest) = two (declared n seen e) (declared_inits n seen rest) _ _ (counted_once n seen e) (counted_inits n seen rest)

    counted_decs : (n : ℕ) (seen : Levels) (ds : Decs) → counted (declared_decs n seen ds) ≤ decs_declare k ds
    counted_decs n seen no_decs = omega arith
    counted_decs n seen (types ts rest) = counted_decs n seen rest
    counted_decs n seen (variable x kind e rest) =
        let i = two (declared n seen e) (declared_decs n (own n x seen) rest) _ _ (counted_once n seen e) (counted_decs n (own n x seen) rest) in
        omega (arith, i)
    counted_decs n seen (functions fs rest) =
        let inside = own_functions n fs seen in
        let i = two (declared_functions n inside fs) (declared_decs n inside rest) _ _ (counted_functions n inside fs) (counted_decs n inside rest) in
        omega (arith, i)

    counted_functions : (n : ℕ) (seen : Levels) (fs : FunDecs) → counted (declared_functions n seen fs) ≤ names_declare k fs + bodies_declare k fs
    counted_functions n seen no_functions = omega arith
    counted_functions n seen (function f ps r e rest) =
        let i = two (declared (suc n) (own_params (suc n) ps seen) e) (declared_functions n seen rest) _ _
        (counted_once (suc n) (own_params (suc n) ps seen) e) (counted_functions n seen rest) in
        omega (arith, i)

at_least : (xs : List Measures) (x : Measures) → Contains xs x → 0 < times (λ o. o.at) x.at xs
at_least [] x c = absurd (omega (arith, c.1))
at_least (y ∷ xs) x (zero, l, e) = let one : same y.at x.at ≡ 1 = subst (λ q. same y.at q.at ≡ 1) e (same_self y.at) in omega (arith, one)
at_least (y ∷ xs) x (suc j, l, e) = let h = at_least xs x (j, omega arith, e) in omega (arith, h)

-- a function is found by its byte
found_by_byte : (ms : List Measures) (m : Measures) → Contains ms m → times (λ o. o.at) m.at ms ≤ 1 → declared_at m.at ms ≡ Some m
found_by_byte [] m c few = absurd (omega (arith, c.1))
found_by_byte (o ∷ ms) m (zero, l, e) few =
    ap (λ t. if t then Some o else declared_at m.at ms) (eq-eqb o.at m.at (ap (λ q. q.at) e)) ∙ ap (λ q. Some q) e
found_by_byte (o ∷ ms) m (suc i, l, e) few = elim (cases_eq o.at m.at) [
  | inl q ↦ (let one : same o.at m.at ≡ 1 = subst (λ b. same o.at b ≡ 1) q (same_self o.at) in
      let there = at_least ms m (i, omega arith, e) in absurd (omega (arith, few, one, there)))
  | inr ne ↦ ap (λ t. if t then Some o else declared_at m.at ms) (ne_eqb o.at m.at ne) ∙ found_by_byte ms m (i, omega arith, e) (omega (arith, few))
]

-- What the uses show is in the sets that they make.

any_is : (xs : List ℕ) (x : ℕ) → Contains xs x → list_any (λ y. nat_eq y x) xs ≡ true
any_is [] x c = absurd (omega (arith, c.1))
any_is (y ∷ ys) x (zero, l, e) = or_left (nat_eq y x) (list_any (λ z. nat_eq z x) ys) (eq-eqb y x e)
any_is (y ∷ ys) x (suc k, l, e) = or_right (nat_eq y x) (list_any (λ z. nat_eq z x) ys) (any_is ys x (k, omega arith, e))

module _ (findings : Findings) (table : Table) (weight : (at : ℕ) → ℕ) (shapes : List (ℕ × Shape)) (notes : List Note) where
  all_found : (us : List Use) → ((at : ℕ) → Contains (flat_map escapes_by us) at → findings.escapes at ≡ true) →
      ((at : ℕ) → Contains (flat_map links_by us) at → findings.keeps_link at ≡ true) → AllFound findings table weight shapes notes us
  all_found [] h k = tt
  all_found (u ∷ us) h k = (
    record {
      escapes = λ at c. h at (Contains-append_left (escapes_by u) (flat_map escapes_by us) at c);
      links = λ at c. k at (Contains-append_left (links_by u) (flat_map links_by us) at c);
    },
    all_found us (λ at c. h at (Contains-append_right (escapes_by u) (flat_map escapes_by us) at c))
        (λ at c. k at (Contains-append_right (links_by u) (flat_map links_by us) at c)),
  )

-- An accepted program.
module _ (p : CheckedProgram) (a : IsAccepted p) where
  -- the translation of its body, the last state, and what that has found
  abbrev pub body_drawn : Translated Made
  body_drawn = expression (findings_of p) p.body want.Dropped functions.outermost first_state

  abbrev pub last : TranslationState
  last = state_in body_drawn

  abbrev pub last_table : Table
  last_table = record { homes = last.homes; callees = last.callees }

  abbrev pub all_measures : List Measures
  all_measures = declared 0 [] p.body

  abbrev pub weights : (at : ℕ) → ℕ
  weights at = bound_by (declared_at at all_measures)

  abbrev shown : Shows last_table weights (λ k. declares k p.body) all_measures
      (Declares (HasVariable last_table) (IsWeighed last_table weights) 0 [] p.body) body_drawn first_state
  shown = shows last_table weights (findings_of p) p.body want.Dropped functions.outermost [] first_state

  declared_few : (k : ℕ) → declares k p.body ≤ 1
  declared_few k = let h = begin_there k p.body [] in let i = apart_once (beginnings p.body []) a.apart k in omega (arith, h, i)

  found_few : (k : ℕ) → found_times k last ≤ 1
  found_few k = let h = shown.counts k in let i = declared_few k in omega (arith, h, i)

  pub homes_once : Once last.homes
  homes_once = once_by_times last.homes (λ k. let h = found_few k in omega (arith, h))

  pub callees_once : Once last.callees
  callees_once = once_by_times last.callees (λ k. let h = found_few k in omega (arith, h))

  measures_few : (k : ℕ) → times (λ m. m.at) k all_measures ≤ 1
  measures_few k = let h = counted_once k 0 [] p.body in let i = declared_few k in omega (arith, h, i)

  pub by_byte : (m : Measures) → Contains all_measures m → declared_at m.at all_measures ≡ Some m
  by_byte m c = found_by_byte all_measures m c (measures_few m.at)

  pub weighed : AreWeighed last_table weights all_measures
  weighed m c = ap bound_by (by_byte m c)

  pub in_table : InTable last_table weights last
  in_table = record { homes = behind_none; callees = behind_none; homes_once = homes_once; callees_once = callees_once }

  pub table_fits : Declares (HasVariable last_table) (IsWeighed last_table weights) 0 [] p.body
  table_fits = (shown.finds in_table weighed).0

  -- its functions, in the order of the text
  pub functions_tied : AreTied last_table weights all_measures [] last.functions
  functions_tied = (shown.finds in_table weighed).1

  -- each callee is that of one of them
  pub callee_owned : (at : ℕ) (c : _) → looked_up at last.callees ≡ Some c → (m : Measures) × Contains all_measures m × (m.at ≡ at)
  callee_owned at c e = elim (shown.owned at c e) [ inl i ↦ absurd (no_callee i) | inr i ↦ i ]
    where
      no_callee : None ≡ Some c → ⊥
      no_callee i = cc

  -- what was found of it fits its text
  pub program_covers : Covers (findings_of p) last_table weights 0 (λ k. false) [] p.body
  program_covers =
      let d = checked_has_type p a in
      (covers (findings_of p) last_table weights d.shapes p.notes (λ at m s. (notes_are_found p a at m).0 s) p.body (outermost_scope p.names) d.type
      (first_here (findings_of p) last_table weights d.shapes p.notes) [] d.has
      (first_stands (findings_of p) last_table weights d.shapes p.notes p.names) table_fits
      (all_found (findings_of p) last_table weights d.shapes p.notes (uses_of p.body)
      (λ at c. contains-from_list_nat (escapes_of p.body) at ∙ any_is (escapes_of p.body) at c)
      (λ at c. contains-from_list_nat (links_of p.body) at ∙ any_is (links_of p.body) at c))).0
