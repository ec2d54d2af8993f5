-- What typing asks of a part with no fault before is the first that is found broken among the facts: by induction over the question.
use Rattle.std.proofs.Common.{◌≡◌, ℕ, suc, ◌≤◌, List, [], ◌∷◌, ◌++◌, Option, Some, None, Bool, true, false, refl, sym, ap, ◌∙◌, subst, arith, eq-eqb}
use Rattle.std.proofs.lemmas.Bool.{eqb-true}
use Rattle.std.specs.Prelude.{◌==◌, if◌then◌else◌}
use Rattle.tg_syntax.specs.declared.tokens.Ident.{Ident}
use Rattle.tg_syntax.specs.declared.trees.Op.{Op}
use Rattle.tg_syntax.specs.declared.trees.Op.TheVariants.{Plus, Minus, Times, Divide, Equal, NotEqual, Less, LessEqual, Greater, GreaterEqual, And, Or}
use Rattle.tg_syntax.specs.Spans.{span_of}
use Rattle.tg_syntax.specs.Tree.{Exp, LValue, Exps, Inits, Decs, FunDecs}
use Rattle.tg_syntax.specs.Throughout.{Throughout, ThroughPlace, ThroughExps, ThroughInits, ThroughDecs, ThroughFunctions}
use Rattle.tg_syntax.specs.NamesWithin.{AnyByte}
use Rattle.tg_semantics.specs.Environments.{name_of}
use Rattle.tg_typecheck.specs.Types as typing
use Rattle.tg_typecheck.specs.Types.{int_type}
use Rattle.tg_typecheck.specs.Checks.{Noted}
use Rattle.tg_typecheck.specs.Scopes.{Signature, Scope, at_of, in_no_loop}
use Rattle.tg_typecheck.specs.Groups.{with_functions, with_params}
use Rattle.tg_typecheck.specs.Typing.{start_of, are_fields}
use Rattle.tg_typecheck.proofs.Inversion.{presented, element_got}
use Rattle.tg_explain_typing.specs.declared.types.Ty.{Ty}
use Rattle.tg_explain_typing.specs.declared.types.Ty.TheVariants as told
use Rattle.tg_explain_typing.specs.declared.facts.Demand.{Demand}
use Rattle.tg_explain_typing.specs.declared.facts.Demand.TheVariants.{Fits, Valueless, Like, Joins, Own, BesideNil}
use Rattle.tg_explain_typing.specs.declared.facts.Fact.{Fact}
use Rattle.tg_explain_typing.specs.declared.facts.Fact.TheVariants as fact
use Rattle.tg_explain_typing.specs.declared.finding.Breach.{Breach}
use Rattle.tg_explain_typing.specs.declared.finding.Breach.TheVariants.{Mismatch, NoRecord, NoArray, NoValue, BareNil}
use Rattle.tg_explain_typing.specs.declared.finding.Judgement.{Judgement}
use Rattle.tg_explain_typing.specs.Facts.{between, judged, weighed, left_demand, right_demand, is_equality, compared, exp_facts, place_facts, exps_facts}
use Rattle.tg_explain_typing.specs.Facts.{args_facts, inits_facts, decs_facts, bodies_facts, types_start, functions_start}
use Rattle.tg_explain_typing.specs.Facts.{repeated, assigned, chosen, passed, given, outcome, ended, declared}
use Rattle.tg_explain_typing.specs.Finding.{breaks, first_broken}
use Rattle.tg_explain_typing.specs.Synthesis.{exp_type}
use Rattle.tg_explain_typing.specs.Lookups.{named_type, field_type}
use Rattle.tg_explain_types.specs.laws.Types.{told_type}
use Rattle.tg_explain_laws.proofs.Agreeing.{Spelled, Agrees, ParamsAgree}
use Rattle.tg_explain_laws.specs.Nested.{Within, Nests, PlaceNests, ExpsNest, InitsNest, DecsNest, FunctionsNest}
use Rattle.tg_explain_laws.specs.laws.Seen.{AddsWithin}
use Rattle.tg_explain_laws.specs.Asking as Q
use Rattle.tg_explain_laws.specs.Asking.{Asks, AsksOf, AsksPlace, AsksAll, AsksFields, AsksEach, AsksDecs, AsksBodies}
use Rattle.tg_explain_laws.proofs.Orders.{exps_order, functions_order, decs_order}
use Rattle.tg_explain_laws.proofs.Growing as R
use Rattle.tg_explain_laws.proofs.Growing.{Grows, found_among}
use Rattle.tg_explain_laws.proofs.Seen as S
use Rattle.tg_explain_laws.proofs.Unbroken as U
use Rattle.tg_explain_laws.proofs.Needed.{Headed, FieldsTold, first_from, looping, not_looping, narrower, types_agree, headers_agree}
use Rattle.tg_explain_laws.proofs.Walking as W
use Rattle.tg_explain_laws.proofs.Walking.{Setting, quiet_judged}
use Rattle.tg_explain_laws.proofs.Around as A
use Rattle.tg_explain_laws.proofs.Around.{assignable_same, both_true, first_nests, inits_order, with_functions_types}
use Rattle.tg_explain_laws.proofs.Fine.{know, know_place, know_decs, know_bodies}

-- ---- the first that is broken

if_behind : (c : Bool) (j : Judgement) (rest more o : Option Judgement) → (if c then Some j else rest) ≡ None → (rest ≡ None → more ≡ o) →
    (if c then Some j else more) ≡ o
if_behind true j rest more o h f = cc
if_behind false j rest more o h f = f h

behind_clear : (b : Breach) (F more : List Fact) → first_broken b F ≡ None → first_broken b (F ++ more) ≡ first_broken b more
behind_clear b [] more h = refl
behind_clear b (fact.Judged d t ∷ F) more h =
    if_behind (breaks b d t) (record { demand = d; got = t }) (first_broken b F) (first_broken b (F ++ more)) (first_broken b more) h (behind_clear b F more)
behind_clear b (fact.Variable x t s ∷ F) more h = behind_clear b F more h
behind_clear b (fact.Function f t s ∷ F) more h = behind_clear b F more h
behind_clear b (fact.Param f i t s ∷ F) more h = behind_clear b F more h
behind_clear b (fact.TypeName x m s ∷ F) more h = behind_clear b F more h
behind_clear b (fact.Field a p ∷ F) more h = behind_clear b F more h
behind_clear b (fact.Element a x ∷ F) more h = behind_clear b F more h
behind_clear b (fact.Given a x ∷ F) more h = behind_clear b F more h
behind_clear b (fact.Loop a s ∷ F) more h = behind_clear b F more h
behind_clear b (fact.Body x s ∷ F) more h = behind_clear b F more h

abbrev judgement : Demand → Ty → Judgement
judgement d t = record { demand = d; got = t }

found_judged : (b : Breach) (at start : ℕ) (d : Demand) (t : Ty) (F : List Fact) (j : Judgement) → at ≡ start → j ≡ judgement d t →
    breaks b j.demand j.got ≡ true → first_broken b F ≡ None → first_broken b (judged at start d t F) ≡ Some j
found_judged b at start d t F j here is broken clear =
    let same : (start == at) ≡ true = eq-eqb start at (sym here) in
    let breaks_so : breaks b d t ≡ true = subst (λ (y : Judgement). breaks b y.demand y.got ≡ true) is broken in
    ap (λ (c : Bool). first_broken b (if c then F ++ fact.Judged d t ∷ [] else F)) same ∙ behind_clear b F (fact.Judged d t ∷ []) clear
    ∙ ap (λ (c : Bool). if c then Some (judgement d t) else None) breaks_so ∙ ap (λ (y : Judgement). Some y) (sym is)

-- beside a bare nil nothing else is broken
like_holds : (b : Breach) (x y z w : Ty) → breaks b (BesideNil x) y ≡ true → breaks b (Like z) w ≡ false
like_holds Mismatch x y z w h = cc
like_holds NoRecord x y z w h = cc
like_holds NoArray x y z w h = cc
like_holds NoValue x y z w h = cc
like_holds BareNil x y z w h = refl

equality_likes : (op : Op) (t : Ty) → is_equality op ≡ true → right_demand op t ≡ Like t
equality_likes Equal t h = refl
equality_likes NotEqual t h = refl
equality_likes Less t h = cc
equality_likes LessEqual t h = cc
equality_likes Greater t h = cc
equality_likes GreaterEqual t h = cc
equality_likes Plus t h = cc
equality_likes Minus t h = cc
equality_likes Times t h = cc
equality_likes Divide t h = cc
equality_likes And t h = cc
equality_likes Or t h = cc

outcome_same : (text : List ℕ) (r : Option Ident) (result : typing.Ty) (G : List Fact) →
    ((y : Ident) → r ≡ Some y → named_type text G y ≡ told_type result) → Q.outcome r result ≡ outcome text G r
unfolding outcome
outcome_same text None result G named = refl
outcome_same text (Some y) result G named = ap Fits (sym (named y refl))

module _ (g : Setting) (j : Judgement) (broken : breaks g.breach j.demand j.got ≡ true) where
  abbrev Found : List Fact → Type 0
  Found G = first_broken g.breach G ≡ Some j

  abbrev Clear : List Fact → Type 0
  Clear G = first_broken g.breach G ≡ None

  abbrev Spelt : Ident → Type 0
  Spelt x = Spelled g.names g.text x

  abbrev Agree : (p q : ℕ) → List Fact → Scope → Noted → Type 0
  Agree p q F scope n = Agrees g.names g.text p q F scope n

  stays : {G H : List Fact} → Grows G H → Found G → Found H
  stays {G = G} w h = ap (λ l. first_broken g.breach l) w.is ∙ found_among g.breach G w.more j h

  weighed_found : (e : Exp) (d D : Demand) (t : typing.Ty) (G : List Fact) → exp_type g.text G e ≡ told_type t → d ≡ D →
      (g.at ≡ start_of e) × (j ≡ judgement d (told_type t)) → Clear G → Found (weighed g.text g.at e D G)
  unfolding weighed
  weighed_found e d D t G type same is clear =
      found_judged g.breach g.at (span_of e).from D (exp_type g.text G e) G j is.0
      (is.1 ∙ ap (λ y. judgement y (told_type t)) same ∙ ap (λ y. judgement D y) (sym type)) broken clear

  compared_found : (whole : ℕ) (op : Op) (x y : Exp) (G : List Fact) → Found (weighed g.text g.at y (right_demand op (exp_type g.text G x)) G) →
      Found (compared g.text g.at whole op x y G)
  unfolding compared
  compared_found whole op x y G h = by (is_equality op)
    where
      by : (c : Bool) → Found (if c
          then judged g.at whole (BesideNil (exp_type g.text G x)) (exp_type g.text G y)
          (weighed g.text g.at y (right_demand op (exp_type g.text G x)) G)
          else weighed g.text g.at y (right_demand op (exp_type g.text G x)) G)
      by true = stays (R.judged_grows g.at whole _ _ _) h
      by false = h

  beside_found : (whole : ℕ) (op : Op) (x y : Exp) (t l u : typing.Ty) (G : List Fact) → exp_type g.text G x ≡ told_type t →
      exp_type g.text G y ≡ told_type u → t ≡ l → is_equality op ≡ true → (g.at ≡ whole) × (j ≡ judgement (BesideNil (told_type l)) (told_type u)) →
      Clear G → Found (compared g.text g.at whole op x y G)
  unfolding compared weighed
  beside_found whole op x y t l u G one other same equates is clear =
      let nil : breaks g.breach (BesideNil (told_type l)) (told_type u) ≡ true = subst (λ (z : Judgement). breaks g.breach z.demand z.got ≡ true) is.1 broken in
      let left = exp_type g.text G x in
      let right = exp_type g.text G y in
      let holds : breaks g.breach (right_demand op left) right ≡ false =
      subst (λ d. breaks g.breach d right ≡ false) (sym (equality_likes op left equates)) (like_holds g.breach _ _ left right nil) in
      let all = judged g.at (span_of y).from (right_demand op left) right G in
      let is_all : j ≡ judgement (BesideNil left) right = is.1 ∙ ap (λ z. judgement (BesideNil (told_type z)) (told_type u)) (sym same)
      ∙ ap (λ z. judgement (BesideNil z) (told_type u)) (sym one) ∙ ap (λ z. judgement (BesideNil left) z) (sym other) in
      ap (λ (c : Bool). first_broken g.breach (if c then judged g.at whole (BesideNil left) right all else all)) equates
      ∙ found_judged g.breach g.at whole (BesideNil left) right all j is.0 is_all broken
      (quiet_judged g.breach g.at (span_of y).from (right_demand op left) right G holds clear)

  mutual
    unfolding repeated assigned chosen passed given declared ended

    find : {e : Exp} {scope : Scope} {n : Noted} → Asks g.at j e scope n → (p q : ℕ) → Within p q (span_of e) → q ≤ g.end → Nests e →
        Throughout Spelt AnyByte e → (F : List Fact) → Agree p q F scope n → Clear F → Found (exp_facts g.text g.at e F)
    find (Q.read {s = s} {v = v} i) p q w z ns sp F a c = find_place i p s.from s.to q (omega arith) (omega arith) z ns sp.1 F a c
    find (Q.argument {s = s} {f = f} {args = args} {scope = scope} {n = n} {m = m} sig is count i) p q w z ns sp F a c =
        let called = A.calling g f sig p q scope n m m F sp.1 (omega arith, omega arith, omega arith) a is refl in
        find_args i f 0 f.span.to f.span.to s.to q (omega arith) (omega arith) z ns.1 sp.2 F F (S.same (between f.span.to g.end) F)
        (λ H l. (called.told H l).params) called.went.agrees c
    find (Q.negated {a = x} i) p q w z ns sp F a c =
        find_of i p q (omega arith, omega arith, omega arith) z ns.1 sp.1 F a (Fits told.Int) refl c
    find (Q.left {s = s} {op = op} {a = x} {b = y} i) p q w z ns sp F a c =
        stays (R.both (R.exp_grows g.text g.at y _) (R.compared_grows g.text g.at s.from op x y _))
        (find_of i p q (omega arith, omega arith, omega arith) z ns.2 sp.2 F a (left_demand op) refl c)
    find (Q.right {s = s} {op = op} {o = o} {a = x} {b = y} {scope = scope} {n = n} {m = m} {k = k} t l is lis i) p q w z ns sp F a c =
        let left = U.left_side_fine g.tests g.breach op t l o _ _ _ lis in
        let one = W.weigh g (left_demand op) left.unbroken
        (W.recall g left.shapes (know g x p q (omega arith, omega arith, omega arith) z ns.2 sp.2 scope n F a t m is)) in
        let added = S.adds (between (span_of x).to g.end) g.text g.at y (omega arith, omega arith) ns.3 _ in
        compared_found s.from op x y _
        (find_of i (span_of x).to q (omega arith, omega arith, omega arith) z ns.3 sp.3 _ one.went.agrees _
        (sym left.demand ∙ ap (λ u. right_demand op u) (sym (one.told _ added))) (one.went.quiet c))
    find (Q.both {s = s} {op = op} {o = o} {a = x} {b = y} {scope = scope} {n = n} {m = m} {k = k} {i = i} t l u is lis uis valued equates asked) p q w z ns
        sp F a c =
        let left = U.left_side_fine g.tests g.breach op t l o _ _ _ lis in
        let one = W.weigh g (left_demand op) left.unbroken
        (W.recall g left.shapes (know g x p q (omega arith, omega arith, omega arith) z ns.2 sp.2 scope n F a t m is)) in
        let other = know g y (span_of x).to q (omega arith, omega arith, omega arith) z ns.3 sp.3 scope k _ one.went.agrees u i uis in
        let added = S.adds (between (span_of x).to g.end) g.text g.at y (omega arith, omega arith) ns.3 _ in
        beside_found s.from op x y t l u _ (one.told _ added) (W.now g other) (left.beside equates) equates asked (other.went.quiet (one.went.quiet c))
    find (Q.given {s = s} {x = x} {inits = inits} {scope = scope} {n = n} {m = m} {k = k} t fs is fis match i) p q w z ns sp F a c =
        let o = A.making g x t fs p q scope n m k k F sp.1 (omega arith, omega arith, omega arith) a is fis refl in
        find_inits i x o.byte x.span.to x.span.to s.to q (omega arith) (omega arith) z ns.1 sp.2 match F _ o.began o.naming o.all o.went.agrees (o.went.quiet c)
    find (Q.size {s = s} {x = x} {size = size} {value = value} {scope = scope} {n = n} {m = m} {k = k} t u is eis i) p q w z ns sp F a c =
        let o = A.filling g x t u p q scope n m k F sp.1 (omega arith, omega arith, omega arith) a is eis in
        stays (R.both (R.exp_grows g.text g.at value _) (R.weighed_grows g.text g.at value _ _))
        (find_of i x.span.to q (omega arith, omega arith, omega arith) z ns.3 sp.2 _ o.went.agrees (Fits told.Int) refl (o.went.quiet c))
    find (Q.element {s = s} {x = x} {size = size} {value = value} {scope = scope} {n = n} {m = m} {k = k} t u is eis fit i) p q w z ns sp F a c =
        let o = A.filling g x t u p q scope n m k F sp.1 (omega arith, omega arith, omega arith) a is eis in
        let y = W.fitted g _ int_type (Fits told.Int) refl
        (know g size x.span.to q (omega arith, omega arith, omega arith) z ns.3 sp.2 scope k _ o.went.agrees) fit in
        let r = between x.span.to g.end in
        let sized = S.both r (S.both r o.began (S.adds r g.text g.at size (omega arith, omega arith) ns.3 _))
        (S.weighed_adds r g.text g.at size (Fits told.Int) _) in
        let added = S.both r sized (S.adds r g.text g.at value (omega arith, omega arith) ns.4 _) in
        find_of i (span_of size).to q (omega arith, omega arith, omega arith) z ns.4 sp.3 _ y.part.went.agrees _ (ap Fits (sym (o.told _ added)))
        (y.part.went.quiet (o.went.quiet c))
    find (Q.assigned_place {s = s} {v = v} {e = e} i) p q w z ns sp F a c =
        stays (R.both (R.exp_grows g.text g.at e _) (R.weighed_grows g.text g.at e _ _))
        (find_place i p s.from (span_of e).from q (omega arith) (omega arith) z ns.0 sp.1 F a c)
    find (Q.assigned {s = s} {v = v} {e = e} {scope = scope} {n = n} {m = m} t is may i) p q w z ns sp F a c =
        let place = know_place g v p s.from (span_of e).from q (omega arith) (omega arith) z ns.0 sp.1 scope n F a t m is in
        let went = W.reshape g (ap (λ (y : Noted). y.shapes) (assignable_same v scope tt _ _ may)) place.went in
        let added = S.adds (between (span_of e).from g.end) g.text g.at e (omega arith, omega arith) ns.2 _ in
        find_of i (span_of e).from q (omega arith, omega arith, omega arith) z ns.2 sp.2 _ went.agrees _ (ap Fits (sym (place.told _ added))) (went.quiet c)
    find (Q.if_test {s = s} {c = t} {a = x} {b = y} i) p q w z ns sp F a c =
        stays (R.both (R.both (R.exp_grows g.text g.at x _) (R.exp_grows g.text g.at y _)) (R.weighed_grows g.text g.at y _ _))
        (find_of i p q (omega arith, omega arith, omega arith) z ns.3 sp.1 F a (Fits told.Int) refl c)
    find (Q.if_this {s = s} {c = t} {a = x} {b = y} {scope = scope} {n = n} fit i) p q w z ns sp F a c =
        let k = W.fitted g _ int_type (Fits told.Int) refl (know g t p q (omega arith, omega arith, omega arith) z ns.3 sp.1 scope n F a) fit in
        stays (R.both (R.exp_grows g.text g.at y _) (R.weighed_grows g.text g.at y _ _))
        (find i (span_of t).to q (omega arith, omega arith, omega arith) z ns.4 sp.2 _ k.part.went.agrees (k.part.went.quiet c))
    find (Q.if_other {s = s} {c = t} {a = x} {b = y} {scope = scope} {n = n} {m = m} {k = k} u fit is i) p q w z ns sp F a c =
        let l = W.fitted g _ int_type (Fits told.Int) refl (know g t p q (omega arith, omega arith, omega arith) z ns.3 sp.1 scope n F a) fit in
        let one = know g x (span_of t).to q (omega arith, omega arith, omega arith) z ns.4 sp.2 scope m _ l.part.went.agrees u k is in
        let added = S.adds (between (span_of x).to g.end) g.text g.at y (omega arith, omega arith) ns.5 _ in
        find_of i (span_of x).to q (omega arith, omega arith, omega arith) z ns.5 sp.3 _ one.went.agrees _ (ap Joins (sym (one.told _ added)))
        (one.went.quiet (l.part.went.quiet c))
    find (Q.when_test {s = s} {c = t} {a = x} i) p q w z ns sp F a c =
        stays (R.both (R.exp_grows g.text g.at x _) (R.weighed_grows g.text g.at x _ _))
        (find_of i p q (omega arith, omega arith, omega arith) z ns.2 sp.1 F a (Fits told.Int) refl c)
    find (Q.when_this {s = s} {c = t} {a = x} {scope = scope} {n = n} fit i) p q w z ns sp F a c =
        let k = W.fitted g _ int_type (Fits told.Int) refl (know g t p q (omega arith, omega arith, omega arith) z ns.2 sp.1 scope n F a) fit in
        find_of i (span_of t).to q (omega arith, omega arith, omega arith) z ns.3 sp.2 _ k.part.went.agrees Valueless refl (k.part.went.quiet c)
    find (Q.while_test {s = s} {c = t} {a = x} i) p q w z ns sp F a c =
        let test = weighed g.text g.at t (Fits told.Int) (exp_facts g.text g.at t F) in
        let loop = R.behind test (fact.Loop s.from (span_of x) ∷ []) in
        stays (R.both (R.both loop (R.exp_grows g.text g.at x _)) (R.weighed_grows g.text g.at x _ _))
        (find_of i p q (omega arith, omega arith, omega arith) z ns.2 sp.1 F a (Fits told.Int) refl c)
    find (Q.while_body {s = s} {c = t} {a = x} {scope = scope} {n = n} fit i) p q w z ns sp F a c =
        let k = W.fitted g _ int_type (Fits told.Int) refl (know g t p q (omega arith, omega arith, omega arith) z ns.2 sp.1 scope n F a) fit in
        let loop = W.plain g (fact.Loop s.from (span_of x)) tt refl k.part.went in
        find_of i (span_of t).to q (omega arith, omega arith, omega arith) z ns.3 sp.2 _ (looping g.names g.text _ _ _ _ _ loop.agrees) Valueless refl
        (loop.quiet c)
    find (Q.low {s = s} {x = x} {l = low} {h = high} {a = body} i) p q w z ns sp F a c =
        let tests = R.both (R.exp_grows g.text g.at high _) (R.weighed_grows g.text g.at high _ _) in
        let from = weighed g.text g.at low (Fits told.Int) (exp_facts g.text g.at low F) in
        let to = weighed g.text g.at high (Fits told.Int) (exp_facts g.text g.at high from) in
        let shown = fact.Variable x told.Int (span_of body) ∷ [] in
        let inner = R.both (R.both tests (R.behind to shown)) (R.behind (to ++ shown) (fact.Loop s.from (span_of body) ∷ [])) in
        stays (R.both (R.both inner (R.exp_grows g.text g.at body _)) (R.weighed_grows g.text g.at body _ _))
        (find_of i p q (omega arith, omega arith, omega arith) z ns.4 sp.2 F a (Fits told.Int) refl c)
    find (Q.high {s = s} {x = x} {l = low} {h = high} {a = body} {scope = scope} {n = n} fit i) p q w z ns sp F a c =
        let k = W.fitted g _ int_type (Fits told.Int) refl (know g low p q (omega arith, omega arith, omega arith) z ns.4 sp.2 scope n F a) fit in
        let from = weighed g.text g.at low (Fits told.Int) (exp_facts g.text g.at low F) in
        let to = weighed g.text g.at high (Fits told.Int) (exp_facts g.text g.at high from) in
        let shown = fact.Variable x told.Int (span_of body) ∷ [] in
        let inner = R.both (R.behind to shown) (R.behind (to ++ shown) (fact.Loop s.from (span_of body) ∷ [])) in
        stays (R.both (R.both inner (R.exp_grows g.text g.at body _)) (R.weighed_grows g.text g.at body _ _))
        (find_of i (span_of low).to q (omega arith, omega arith, omega arith) z ns.5 sp.3 _ k.part.went.agrees (Fits told.Int) refl (k.part.went.quiet c))
    find (Q.for_body {s = s} {x = x} {l = low} {h = high} {a = body} {scope = scope} {n = n} {m = m} fit fit' i) p q w z ns sp F a c =
        let k = W.fitted g _ int_type (Fits told.Int) refl (know g low p q (omega arith, omega arith, omega arith) z ns.4 sp.2 scope n F a) fit in
        let l = W.fitted g _ int_type (Fits told.Int) refl
        (know g high (span_of low).to q (omega arith, omega arith, omega arith) z ns.5 sp.3 scope m _ k.part.went.agrees) fit' in
        let inner = W.plain g (fact.Loop s.from (span_of body)) tt refl
        (W.declare_variable g (span_of body).from (span_of body).to x (at_of x) int_type true told.Int refl l.part.went (omega arith) (omega arith)) in
        find_of i (span_of body).from (span_of body).to (omega arith, omega arith, omega arith) (omega arith) ns.6 sp.4 _
        (looping g.names g.text _ _ _ _ _ inner.agrees) Valueless refl (inner.quiet (k.part.went.quiet c))
    find (Q.declared {s = s} {ds = ds} {es = es} {n = n} i) p q w z ns sp F a c =
        let k = decs_order ds s.from ns.0 ns.1 in
        let l = exps_order es ns.0 s.to ns.2 in
        let inner = narrower g.names g.text p q s.from s.to _ _ _ a (omega arith) (omega arith) in
        stays (R.exps_grow g.text g.at es _) (find_decs i s.from ns.0 s.to (omega arith) (omega arith) ns.1 sp.1 F inner c)
    find (Q.block {s = s} {ds = ds} {es = es} {scope = scope} {inner = within} {n = n} {m = m} is i) p q w z ns sp F a c =
        let k = decs_order ds s.from ns.0 ns.1 in
        let l = exps_order es ns.0 s.to ns.2 in
        let inner = narrower g.names g.text p q s.from s.to _ _ _ a (omega arith) (omega arith) in
        let decs = know_decs g ds s.from ns.0 s.to (omega arith) (omega arith) ns.1 sp.1 scope n F inner within m is in
        find_each i ns.0 s.to s.to (omega arith) (omega arith) ns.2 sp.2 _ decs.agrees (decs.quiet c)
    find (Q.sequence {s = s} {es = es} i) p q w z ns sp F a c =
        find_each i s.from s.to q (omega arith) z ns sp.1 F (narrower g.names g.text p q s.from q _ _ _ a (omega arith) (omega arith)) c

    find_of : {e : Exp} {d : Demand} {scope : Scope} {n : Noted} → AsksOf g.at j e d scope n → (p q : ℕ) → Within p q (span_of e) → q ≤ g.end → Nests e →
        Throughout Spelt AnyByte e → (F : List Fact) → Agree p q F scope n → (D : Demand) → d ≡ D → Clear F →
        Found (weighed g.text g.at e D (exp_facts g.text g.at e F))
    find_of (Q.within {e = e} i) p q w z ns sp F a D same c = stays (R.weighed_grows g.text g.at e D _) (find i p q w z ns sp F a c)
    find_of (Q.itself {e = e} {demand = d} {scope = scope} {n = n} {m = m} got is asked) p q w z ns sp F a D same c =
        let k = know g e p q w z ns sp scope n F a got m is in
        weighed_found e d D got _ (W.now g k) same asked (k.went.quiet c)

    find_place : {v : LValue} {scope : Scope} {n : Noted} → AsksPlace g.at j v scope n → (o p to q : ℕ) → o ≤ p → to ≤ q → q ≤ g.end → PlaceNests p to v →
        ThroughPlace Spelt AnyByte v → (F : List Fact) → Agree o q F scope n → Clear F → Found (place_facts g.text g.at v F)
    find_place (Q.selected {v = v} {f = f} i) o p to q l r z ns sp F a c =
        stays (R.selected_grows g.text g.at v f _) (find_place i o p f.span.from q l (omega arith) z ns.0 sp.0 F a c)
    find_place (Q.indexed {v = v} {e = e} i) o p to q l r z ns sp F a c =
        stays (R.both (R.both (R.indexed_grows g.text g.at v _) (R.exp_grows g.text g.at e _)) (R.weighed_grows g.text g.at e _ _))
        (find_place i o p (span_of e).from q l (omega arith) z ns.0 sp.0 F a c)
    find_place (Q.index {v = v} {e = e} {scope = scope} {n = n} {m = m} {k = k} t u is eis i) o p to q l r z ns sp F a c =
        let place = know_place g v o p (span_of e).from q l (omega arith) z ns.0 sp.0 scope n F a t m is in
        let f = element_got _ _ _ _ _ eis in
        let here = place.told _ (S.same (between (span_of e).from g.end) _) ∙ ap told_type f.1 in
        let went = W.reshape g (ap (λ (y : Noted). y.shapes) f.3) (A.index g v f.0 here place.went) in
        find_of i (span_of e).from q (omega arith, omega arith, omega arith) z ns.2 sp.1 _ went.agrees (Fits told.Int) refl (went.quiet c)

    find_args : {es : Exps} {ts : List typing.Ty} {scope : Scope} {n : Noted} → AsksAll g.at j es ts scope n → (f : Ident) (index o p to q : ℕ) → o ≤ p →
        to ≤ q → q ≤ g.end → ExpsNest p to es → ThroughExps Spelt AnyByte es → (F G : List Fact) → AddsWithin (between o g.end) F G →
        ((H : List Fact) → AddsWithin (between o g.end) F H → ParamsAgree g.text H f index ts) → Agree p q G scope n → Clear G →
        Found (args_facts g.text g.at f index es G)
    find_args (Q.this_one {e = e} {rest = rest} i) f index o p to q l r z ns sp F G w params a c =
        let s = between o g.end in
        let y = exps_order rest (span_of e).to to ns.2 in
        let added = S.both s w (S.adds s g.text g.at e (omega arith, omega arith) ns.1 G) in
        stays (R.args_grow g.text g.at f (suc index) rest _)
        (find_of i p q (omega arith, omega arith, omega arith) z ns.1 sp.0 G a _ (ap Fits (sym (params _ added).0)) c)
    find_args (Q.later_one {e = e} {rest = rest} {t = t} {scope = scope} {n = n} fit i) f index o p to q l r z ns sp F G w params a c =
        let s = between o g.end in
        let y = exps_order rest (span_of e).to to ns.2 in
        let added = S.both s w (S.adds s g.text g.at e (omega arith, omega arith) ns.1 G) in
        let k = W.fitted g _ t _ (ap Fits (sym (params _ added).0)) (know g e p q (omega arith, omega arith, omega arith) z ns.1 sp.0 scope n G a) fit in
        find_args i f (suc index) o (span_of e).to to q (omega arith) r z ns.2 sp.1 F _ (S.both s added (S.weighed_adds s g.text g.at e _ _))
        (λ H d. (params H d).1) k.part.went.agrees (k.part.went.quiet c)

    find_inits : {is : Inits} {fs : List (ℕ × typing.Ty)} {scope : Scope} {n : Noted} → AsksFields g.at j is fs scope n → (x : Ident)
        (byte o p to q : ℕ) → o ≤ p → to ≤ q → q ≤ g.end → InitsNest p to is → ThroughInits Spelt AnyByte is → are_fields is fs ≡ true → (F G : List Fact) →
        AddsWithin (between o g.end) F G → ((H : List Fact) → AddsWithin (between o g.end) F H → named_type g.text H x ≡ told.Record byte) →
        FieldsTold g.text o g.end F byte fs → Agree p q G scope n → Clear G → Found (inits_facts g.text g.at x is G)
    find_inits (Q.this_field {f = f} {e = e} {rest = rest} {field = field} {fs = fs} i) x byte o p to q l r z ns sp match F G w naming all a c =
        let s = between o g.end in
        let y = inits_order rest (span_of e).to to ns.3 in
        let fits = both_true (name_of f == field.0) (are_fields rest fs) match in
        let note = W.plain g (fact.Given x.span.from f) tt refl (W.start g a) in
        let added = S.both s (S.both s w (S.behind s G (fact.Given x.span.from f ∷ []) tt)) (S.adds s g.text g.at e (omega arith, omega arith) ns.2 _) in
        let later = exp_facts g.text g.at e (G ++ fact.Given x.span.from f ∷ []) in
        let type = ap (λ u. field_type g.text later u f) (naming later added) ∙ all.0 f (eqb-true _ _ fits.0) later added in
        stays (R.inits_grow g.text g.at x rest _)
        (find_of i p q (omega arith, omega arith, omega arith) z ns.2 sp.1 _ note.agrees _ (ap Fits (sym type)) (note.quiet c))
    find_inits (Q.later_field {f = f} {e = e} {rest = rest} {field = field} {fs = fs} {scope = scope} {n = n} fit i) x byte o p to q l r z ns sp match F G w
        naming all a c =
        let s = between o g.end in
        let y = inits_order rest (span_of e).to to ns.3 in
        let fits = both_true (name_of f == field.0) (are_fields rest fs) match in
        let note = W.plain g (fact.Given x.span.from f) tt refl (W.start g a) in
        let added = S.both s (S.both s w (S.behind s G (fact.Given x.span.from f ∷ []) tt)) (S.adds s g.text g.at e (omega arith, omega arith) ns.2 _) in
        let later = exp_facts g.text g.at e (G ++ fact.Given x.span.from f ∷ []) in
        let type = ap (λ u. field_type g.text later u f) (naming later added) ∙ all.0 f (eqb-true _ _ fits.0) later added in
        let k = W.fitted g _ field.1 _ (ap Fits (sym type)) (know g e p q (omega arith, omega arith, omega arith) z ns.2 sp.1 scope n _ note.agrees) fit in
        find_inits i x byte o (span_of e).to to q (omega arith) r z ns.3 sp.2 fits.1 F _ (S.both s added (S.weighed_adds s g.text g.at e _ _)) naming all.1
        k.part.went.agrees (k.part.went.quiet (note.quiet c))

    find_each : {es : Exps} {scope : Scope} {n : Noted} → AsksEach g.at j es scope n → (p to q : ℕ) → to ≤ q → q ≤ g.end → ExpsNest p to es →
        ThroughExps Spelt AnyByte es → (F : List Fact) → Agree p q F scope n → Clear F → Found (exps_facts g.text g.at es F)
    find_each (Q.this_step {e = e} {rest = rest} i) p to q r z ns sp F a c =
        let l = exps_order rest (span_of e).to to ns.2 in
        stays (R.exps_grow g.text g.at rest _) (find i p q (omega arith, omega arith, omega arith) z ns.1 sp.0 F a c)
    find_each (Q.later_step {e = e} {rest = rest} {scope = scope} {n = n} {m = m} t is i) p to q r z ns sp F a c =
        let l = exps_order rest (span_of e).to to ns.2 in
        let k = know g e p q (omega arith, omega arith, omega arith) z ns.1 sp.0 scope n F a t m is in
        find_each i (span_of e).to to q r z ns.2 sp.1 _ k.went.agrees (k.went.quiet c)

    find_decs : {ds : Decs} {scope : Scope} {n : Noted} → AsksDecs g.at j ds scope n → (p next end : ℕ) → next ≤ end → end ≤ g.end → DecsNest p next ds →
        ThroughDecs Spelt AnyByte ds → (F : List Fact) → Agree p end F scope n → Clear F → Found (decs_facts g.text g.at ds end F)
    find_decs (Q.behind_types {ds = ds} {rest = rest} {scope = scope} {inner = inner} {n = n} {m = m} is i) p next end r z ns sp F a c =
        let l = decs_order rest ns.0 next ns.2 in
        let y = types_agree g.names g.text p ns.0 end end ds scope inner n m F a ns.1 (omega arith) (omega arith) sp.0 is in
        find_decs i ns.0 next end r z ns.2 sp.1 _ y (W.types_quiet g.breach ds (between (types_start ds) end) F c)
    find_decs (Q.own {x = x} {e = e} {rest = rest} i) p next end r z ns sp F a c =
        let l = decs_order rest (span_of e).to next ns.4 in
        let later = exp_facts g.text g.at e F in
        let shown = fact.Variable x (exp_type g.text later e) (between (span_of e).to end) ∷ [] in
        stays (R.both (R.behind (weighed g.text g.at e (Own x) later) shown) (R.decs_grow g.text g.at rest end _))
        (find_of i p end (omega arith, omega arith, omega arith) z ns.3 sp.2 F a (Own x) refl c)
    find_decs (Q.behind_own {x = x} {e = e} {rest = rest} {scope = scope} {n = n} {m = m} {k = k} t u is uis i) p next end r z ns sp F a c =
        let l = decs_order rest (span_of e).to next ns.4 in
        let one = know g e p end (omega arith, omega arith, omega arith) z ns.3 sp.2 scope n F a t m is in
        let went = A.own_declared g end x e t u one uis in
        find_decs i (span_of e).to next end r z ns.4 sp.3 _ went.agrees (went.quiet c)
    find_decs (Q.value {x = x} {kind = kind} {e = e} {rest = rest} {scope = scope} {n = n} {m = m} t is i) p next end r z ns sp F a c =
        let l = decs_order rest (span_of e).to next ns.4 in
        let s = between (span_of e).from g.end in
        let added = S.adds s g.text g.at e (omega arith, omega arith) ns.3 F in
        let type = A.named g (span_of e).from kind t a sp.1 (omega arith) (omega arith) (omega arith) is _ added in
        let start = W.reshape g (ap (λ (y : Noted). y.shapes) (presented _ _ _ _ _ _ is).1) (W.start g a) in
        let later = exp_facts g.text g.at e F in
        let shown = fact.Variable x (named_type g.text later kind) (between (span_of e).to end) ∷ [] in
        stays (R.both (R.behind (weighed g.text g.at e (Fits (named_type g.text later kind)) later) shown) (R.decs_grow g.text g.at rest end _))
        (find_of i p end (omega arith, omega arith, omega arith) z ns.3 sp.2 F start.agrees (Fits (named_type g.text later kind)) (ap Fits (sym type)) c)
    find_decs (Q.behind_value {x = x} {kind = kind} {e = e} {rest = rest} {scope = scope} {n = n} {m = m} {k = k} t is fit i) p next end r z ns sp F a c =
        let l = decs_order rest (span_of e).to next ns.4 in
        let s = between (span_of e).from g.end in
        let added = S.adds s g.text g.at e (omega arith, omega arith) ns.3 F in
        let type = A.named g (span_of e).from kind t a sp.1 (omega arith) (omega arith) (omega arith) is _ added in
        let start = W.reshape g (ap (λ (y : Noted). y.shapes) (presented _ _ _ _ _ _ is).1) (W.start g a) in
        let y = W.fitted g _ t _ (ap Fits (sym type)) (know g e p end (omega arith, omega arith, omega arith) z ns.3 sp.2 scope m F start.agrees) fit in
        let went = A.value_declared g end (exp_facts g.text g.at e F) x kind e t type y.part.went in
        find_decs i (span_of e).to next end r z ns.4 sp.3 _ went.agrees (went.quiet c)
    find_decs (Q.a_body {fs = fs} {rest = rest} {scope = scope} {n = n} {m = m} {k = k} ss apart is i) p next end r z ns sp F a c =
        let l = functions_order fs p ns.0 ns.1 in
        let y = decs_order rest ns.0 next ns.2 in
        let hd = headers_agree g.names g.text p ns.0 end end fs ss scope n m k F a ns.1 (omega arith) (omega arith) sp.0 apart is in
        let first = first_nests fs p ns.0 ns.1 in
        let types_same : scope.types ≡ (with_functions fs ss scope).types = sym (with_functions_types fs ss scope) in
        stays (R.decs_grow g.text g.at rest end _)
        (find_bodies i (first_from p fs) ns.0 end (omega arith) z first sp.0 _ (not_looping g.names g.text _ _ _ _ _ hd.1)
        (subst (λ u. Headed u fs ss) types_same hd.0) (W.headers_quiet g.breach g.text fs (between (functions_start fs) end) F c))
    find_decs (Q.behind_functions {fs = fs} {rest = rest} {scope = scope} {n = n} {m = m} {k = k} {i = b} ss apart is bis i) p next end r z ns sp F a c =
        let l = functions_order fs p ns.0 ns.1 in
        let y = decs_order rest ns.0 next ns.2 in
        let hd = headers_agree g.names g.text p ns.0 end end fs ss scope n m k F a ns.1 (omega arith) (omega arith) sp.0 apart is in
        let first = first_nests fs p ns.0 ns.1 in
        let order = functions_order fs (first_from p fs) ns.0 first in
        let types_same : scope.types ≡ (with_functions fs ss scope).types = sym (with_functions_types fs ss scope) in
        let all = know_bodies g fs ss (first_from p fs) ns.0 end (omega arith) z first sp.0 (in_no_loop (with_functions fs ss scope)) k _
        (not_looping g.names g.text _ _ _ _ _ hd.1) (subst (λ u. Headed u fs ss) types_same hd.0) tt b bis in
        let added = S.bodies_add (between (first_from p fs) ns.0) g.text g.at fs (first_from p fs) ns.0 (omega arith) (omega arith) first _ in
        let out = W.back g ns.0 end hd.1 order (omega arith) added all in
        find_decs i ns.0 next end r z ns.2 sp.1 _ out.agrees (out.quiet (W.headers_quiet g.breach g.text fs (between (functions_start fs) end) F c))

    find_bodies : {fs : FunDecs} {ss : List Signature} {scope : Scope} {n : Noted} → AsksBodies g.at j fs ss scope n → (p next end : ℕ) → next ≤ end →
        end ≤ g.end → FunctionsNest p next fs → ThroughFunctions Spelt AnyByte fs → (F : List Fact) → Agree p end F scope n → Headed scope.types fs ss →
        Clear F → Found (bodies_facts g.text g.at fs F)
    find_bodies (Q.this_body {f = f} {ps = ps} {r = t} {body = body} {rest = rest} {s = s} {scope = scope} {n = n} i) p next end r z ns sp F a hd c =
        let u = functions_order rest (span_of body).to next ns.6 in
        let o = A.opening g f ps t body rest s p next end scope n F r ns sp a hd.0 hd.1 in
        let d = between (span_of body).from g.end in
        let shown = S.both d (S.opened_adds d g.text f ps (span_of body) F (omega arith, omega arith))
        (S.adds d g.text g.at body (omega arith, omega arith) ns.5 _) in
        stays (R.bodies_grow g.text g.at rest _)
        (find_of i (span_of body).from (span_of body).to (omega arith, omega arith, omega arith) (omega arith) ns.5 sp.3 _ o.went.agrees _
        (outcome_same g.text t s.result _ (λ y e. o.kind y e _ shown)) (o.went.quiet c))
    find_bodies (Q.later_body {f = f} {ps = ps} {r = q} {body = body} {rest = rest} {s = s} {scope = scope} {n = n} {m = m} {k = k} t is fis i) p next end r z
        ns sp F a hd c =
        let u = functions_order rest (span_of body).to next ns.6 in
        let o = A.opening g f ps q body rest s p next end scope n F r ns sp a hd.0 hd.1 in
        let one = know g body (span_of body).from (span_of body).to (omega arith, omega arith, omega arith) (omega arith) ns.5 sp.3
        (with_params ps s.params scope) n _ o.went.agrees t m is in
        let out = A.closing g f ps q body rest s p next end scope n m k F t tt r z ns a o one fis in
        find_bodies i (span_of body).to next end r z ns.6 sp.4 _ out.agrees hd.2 (out.quiet c)

  pub asked_is_found : {e : Exp} {scope : Scope} {n : Noted} → Asks g.at j e scope n → (p q : ℕ) → Within p q (span_of e) → q ≤ g.end → Nests e →
      Throughout Spelt AnyByte e → (F : List Fact) → Agree p q F scope n → Clear F → Found (exp_facts g.text g.at e F)
  asked_is_found i p q w z ns sp F a c = find i p q w z ns sp F a c
