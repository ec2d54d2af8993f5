-- Where typing finds no fault, explanations tell the types that it gives, and nothing that is judged is broken: by induction over trees.
use Rattle.std.proofs.Common.{◌≡◌, ℕ, suc, ◌<◌, ◌≤◌, List, [], ◌∷◌, ◌++◌, length, Some, None, true, false, refl, sym, ap, ◌∙◌, subst, arith}
use Rattle.std.proofs.lemmas.Bool.{eqb-true}
use Rattle.std.specs.Prelude.{◌==◌}
use Rattle.tg_syntax.specs.declared.tokens.Ident.{Ident}
use Rattle.tg_syntax.specs.Spans.{span_of}
use Rattle.tg_syntax.specs.Tree.{Exp, Nil, Break, Int, Text, Read, Call, Neg, Binary, Make, Fill, Assign, If, When, While, For, Let, Seq}
use Rattle.tg_syntax.specs.Tree.{LValue, Simple, Field, Index, Exps, no_exps, exp, Inits, no_inits, init, Decs, no_decs, types, variable, functions}
use Rattle.tg_syntax.specs.Tree.{FunDecs, no_functions, function}
use Rattle.tg_syntax.specs.Throughout.{Throughout, ThroughPlace, ThroughExps, ThroughInits, ThroughDecs, ThroughFunctions}
use Rattle.tg_syntax.specs.NamesWithin.{AnyByte}
use Rattle.tg_symbols.specs.Tables.{looked_up}
use Rattle.tg_semantics.specs.Environments.{name_of}
use Rattle.tg_typecheck.specs.Types.{Ty, int_type, string_type, nil_type, none_type, joined_type}
use Rattle.tg_typecheck.specs.Checks.{Noted, fine}
use Rattle.tg_typecheck.specs.Scopes.{Signature, variable_at, Scope, at_of, binding, in_a_loop, in_no_loop}
use Rattle.tg_typecheck.specs.Groups.{with_functions, with_params}
use Rattle.tg_typecheck.specs.Typing.{are_fields, expression_count}
use Rattle.tg_typecheck.specs.Typing.{typed, typed_place, expect_all, expect_fields, typed_last, declare, bodies}
use Rattle.tg_typecheck.proofs.Inversion.{steps, kept, given, presented, variable_got, fields_got, element_got, selected}
use Rattle.tg_explain_typing.specs.declared.types.Ty.TheVariants as told
use Rattle.tg_explain_typing.specs.declared.facts.Demand.TheVariants.{Fits, Valueless, BesideNil}
use Rattle.tg_explain_typing.specs.declared.facts.Fact.{Fact}
use Rattle.tg_explain_typing.specs.declared.facts.Fact.TheVariants as fact
use Rattle.tg_explain_typing.specs.Facts.{between, left_demand, exp_facts, place_facts, exps_facts, args_facts, inits_facts}
use Rattle.tg_explain_typing.specs.Facts.{decs_facts, bodies_facts, types_start, functions_start, repeated, assigned}
use Rattle.tg_explain_typing.specs.Facts.{passed, given as fields_given}
use Rattle.tg_explain_typing.specs.Finding.{breaks}
use Rattle.tg_explain_typing.specs.Synthesis.{exp_type}
use Rattle.tg_explain_typing.specs.Lookups.{named_type, field_type, element_type}
use Rattle.tg_explain_typing.specs.Types.{joined}
use Rattle.tg_explain_types.specs.laws.Types.{told_type}
use Rattle.tg_explain_laws.proofs.Agreeing.{Spelled, Agrees, ParamsAgree}
use Rattle.tg_explain_laws.specs.Nested.{Within, Nests, PlaceNests, ExpsNest, InitsNest, DecsNest, FunctionsNest}
use Rattle.tg_explain_laws.specs.laws.Seen.{AddsWithin}
use Rattle.tg_explain_laws.proofs.Orders.{exps_order, functions_order, decs_order}
use Rattle.tg_explain_laws.proofs.Seen as S
use Rattle.tg_explain_laws.proofs.Unbroken as U
use Rattle.tg_explain_laws.proofs.Needed.{Headed, FieldsTold, first_from, looping, not_looping, narrower, variable_told}
use Rattle.tg_explain_laws.proofs.Needed.{field_told, element_told, types_agree, headers_agree}
use Rattle.tg_explain_laws.proofs.Walking as W
use Rattle.tg_explain_laws.proofs.Walking.{Setting, Went, Knows, last_or, last_step, sooner}
use Rattle.tg_explain_laws.proofs.Around as A
use Rattle.tg_explain_laws.proofs.Around.{assignable_same, both_true, first_nests, inits_order, with_functions_types, block_told, KnowsPlace}
use Rattle.tg_explain_laws.proofs.Around.{KnowsLast}

module _ (g : Setting) where
  abbrev Spelt : Ident → Type 0
  Spelt x = Spelled g.names g.text x

  abbrev Agree : (p q : ℕ) → List Fact → Scope → Noted → Type 0
  Agree p q F scope n = Agrees g.names g.text p q F scope n

  mutual
    unfolding repeated assigned passed fields_given

    pub know : (e : Exp) (p q : ℕ) → Within p q (span_of e) → q ≤ g.end → Nests e → Throughout Spelt AnyByte e → (scope : Scope) (n : Noted) (F : List Fact) →
        Agree p q F scope n → (t : Ty) (m : Noted) → typed e scope n ≡ fine t m → Knows g e t (span_of e).to q scope m F (exp_facts g.text g.at e F)
    know (Nil s) p q w z ns sp scope n F a t m h = W.finish g (Nil s) s.to nil_type t (W.start g a) (omega arith) (λ H l. refl) h
    know (Int s k) p q w z ns sp scope n F a t m h = W.finish g (Int s k) s.to int_type t (W.start g a) (omega arith) (λ H l. refl) h
    know (Text s bytes) p q w z ns sp scope n F a t m h = W.finish g (Text s bytes) s.to string_type t (W.start g a) (omega arith) (λ H l. refl) h
    know (Break s) p q w z ns sp scope n F a t m h =
        let i = steps h in
        let k = kept _ _ _ _ _ _ i.first in
        W.finish g (Break s) s.to none_type t (W.reshape g (ap (λ (y : Noted). y.shapes) k.1) (W.start g a)) (omega arith) (λ H l. refl) i.onward
    know (Read s v) p q w z ns sp scope n F a t m h =
        let k = know_place v p s.from s.to q (omega arith) (omega arith) z ns sp.1 scope n F a t m h in
        record { went = k.went; told = k.told }
    know (Call s f args) p q w z ns sp scope n F a t m h =
        let i = steps h in
        let j = steps i.onward in
        let k = steps j.onward in
        let c = kept _ _ _ _ _ _ j.first in
        let last = exps_order args f.span.to s.to ns.1 in
        let called = A.calling g f i.value p q scope n i.between j.between F sp.1 (omega arith, omega arith, omega arith) a i.first c.1 in
        let args_are = know_args f 0 args i.value.params f.span.to f.span.to s.to q (omega arith) (omega arith) z ns.1 sp.2 (eqb-true _ _ c.0) scope j.between
        F F (S.same (between f.span.to g.end) F) (λ H l. (called.told H l).params) called.went.agrees k.value k.between k.first in
        let added = S.args_add (between f.span.to g.end) g.text g.at f 0 args f.span.to s.to (omega arith) (omega arith) ns.1 F in
        W.finish g (Call s f args) s.to i.value.result t (W.chain g called.went args_are) (omega arith)
        (λ H l. (called.told H (S.both (between f.span.to g.end) added (sooner _ _ _ last l))).result) k.onward
    know (Neg s x) p q w z ns sp scope n F a t m h =
        let k = W.fitting g _ int_type (Fits told.Int) refl (know x p q (omega arith, omega arith, omega arith) z ns.1 sp.1 scope n F a) h in
        W.finish g (Neg s x) s.to int_type t k.part.went (omega arith) (λ H l. refl) k.onward
    know (Binary s op o x y) p q w z ns sp scope n F a t m h =
        let i = steps h in
        let j = steps i.onward in
        let k = steps j.onward in
        let l = steps k.onward in
        let left = U.left_side_fine g.tests g.breach op i.value j.value o _ _ _ j.first in
        let right = U.right_side_fine g.tests g.breach op i.value j.value k.value o _ _ _ _ _ l.value _ _ j.first l.first in
        let one = W.weigh g (left_demand op) left.unbroken
        (W.recall g left.shapes (know x p q (omega arith, omega arith, omega arith) z ns.2 sp.2 scope n F a i.value i.between i.first)) in
        let other = know y (span_of x).to q (omega arith, omega arith, omega arith) z ns.3 sp.3 scope j.between _ one.went.agrees k.value k.between k.first in
        let added = S.adds (between (span_of x).to g.end) g.text g.at y (omega arith, omega arith) ns.3 _ in
        let both = W.compare g s.from op x y i.value k.value (one.told _ added) (W.now g other)
        (subst (λ d. breaks g.breach d (told_type k.value) ≡ false) (sym left.demand) right.unbroken)
        (λ e. subst (λ u. breaks g.breach (BesideNil (told_type u)) (told_type k.value) ≡ false) (sym (left.beside e)) (right.beside e))
        (W.reshape g (ap (λ (y : Noted). y.shapes) right.same_noted) (W.chain g one.went other.went)) in
        W.finish g (Binary s op o x y) s.to int_type t both (omega arith) (λ H l. refl) l.onward
    know (Make s x inits) p q w z ns sp scope n F a t m h =
        let i = steps h in
        let j = steps i.onward in
        let k = steps j.onward in
        let l = steps k.onward in
        let c = kept _ _ _ _ _ _ k.first in
        let last = inits_order inits x.span.to s.to ns.1 in
        let o = A.making g x i.value j.value p q scope n i.between j.between k.between F sp.1 (omega arith, omega arith, omega arith) a i.first j.first c.1 in
        let rest = know_inits x o.byte inits j.value x.span.to x.span.to s.to q (omega arith) (omega arith) z ns.1 sp.2 c.0 scope k.between F _ o.began o.naming
        o.all o.went.agrees l.value l.between l.first in
        let added = S.both (between x.span.to g.end) o.began
        (S.inits_add (between x.span.to g.end) g.text g.at x inits x.span.to s.to (omega arith) (omega arith) ns.1 _) in
        W.finish g (Make s x inits) s.to i.value t (W.chain g o.went rest) (omega arith)
        (λ H l. o.naming H (S.both (between x.span.to g.end) added (sooner _ _ _ last l)) ∙ sym (ap told_type o.is)) l.onward
    know (Fill s x size value) p q w z ns sp scope n F a t m h =
        let i = steps h in
        let j = steps i.onward in
        let o = A.filling g x i.value j.value p q scope n i.between j.between F sp.1 (omega arith, omega arith, omega arith) a i.first j.first in
        let k = W.fitting g _ int_type (Fits told.Int) refl
        (know size x.span.to q (omega arith, omega arith, omega arith) z ns.3 sp.2 scope j.between _ o.went.agrees) j.onward in
        let r = between x.span.to g.end in
        let sized = S.both r (S.both r o.began (S.adds r g.text g.at size (omega arith, omega arith) ns.3 _))
        (S.weighed_adds r g.text g.at size (Fits told.Int) _) in
        let added = S.both r sized (S.adds r g.text g.at value (omega arith, omega arith) ns.4 _) in
        let l = W.fitting g _ j.value _ (ap Fits (sym (o.told _ added)))
        (know value (span_of size).to q (omega arith, omega arith, omega arith) z ns.4 sp.3 scope k.middle _ k.part.went.agrees) k.onward in
        let whole = S.both r added (S.weighed_adds r g.text g.at value _ _) in
        let behind : x.span.to ≤ s.to = omega arith in
        W.finish g (Fill s x size value) s.to i.value t (W.chain g o.went (W.chain g k.part.went l.part.went)) (omega arith)
        (λ H y. o.naming H (S.both r whole (sooner x.span.to s.to g.end behind y)) ∙ sym (ap told_type o.is)) l.onward
    know (Assign s v e) p q w z ns sp scope n F a t m h =
        let i = steps h in
        let j = steps i.onward in
        let place = know_place v p s.from (span_of e).from q (omega arith) (omega arith) z ns.0 sp.1 scope n F a i.value i.between i.first in
        let went = W.reshape g (ap (λ (y : Noted). y.shapes) (assignable_same v scope j.value _ _ j.first)) place.went in
        let added = S.adds (between (span_of e).from g.end) g.text g.at e (omega arith, omega arith) ns.2 _ in
        let k = W.fitting g _ i.value _ (ap Fits (sym (place.told _ added)))
        (know e (span_of e).from q (omega arith, omega arith, omega arith) z ns.2 sp.2 scope j.between _ went.agrees) j.onward in
        W.finish g (Assign s v e) s.to none_type t (W.chain g went k.part.went) (omega arith) (λ H l. refl) k.onward
    know (If s c x y) p q w z ns sp scope n F a t m h =
        let i = W.fitting g _ int_type (Fits told.Int) refl (know c p q (omega arith, omega arith, omega arith) z ns.3 sp.1 scope n F a) h in
        let j = steps i.onward in
        let k = steps j.onward in
        let l = steps k.onward in
        let same = kept _ _ _ _ _ _ l.first in
        let one = know x (span_of c).to q (omega arith, omega arith, omega arith) z ns.4 sp.2 scope i.middle _ i.part.went.agrees j.value j.between j.first in
        let other = know y (span_of x).to q (omega arith, omega arith, omega arith) z ns.5 sp.3 scope j.between _ one.went.agrees k.value k.between k.first in
        let added = S.adds (between (span_of x).to g.end) g.text g.at y (omega arith, omega arith) ns.5 _ in
        let last = A.join g x y j.value k.value (one.told _ added) same.0 other in
        let whole = S.both (between (span_of x).to g.end) added (S.chosen_adds (between (span_of x).to g.end) g.text g.at x y _) in
        let far : (span_of x).to ≤ s.to = omega arith in
        let near : (span_of y).to ≤ s.to = omega arith in
        W.finish g (If s c x y) s.to (joined_type j.value k.value) t
        (W.reshape g (ap (λ (y : Noted). y.shapes) same.1) (W.chain g i.part.went (W.chain g one.went last.went))) (omega arith)
        (λ H r.
        ap (λ u. joined u (exp_type g.text H y)) (one.told H (S.both (between (span_of x).to g.end) whole (sooner (span_of x).to s.to g.end far r)))
        ∙ ap (λ u. joined (told_type j.value) u) (last.told H (sooner (span_of y).to s.to g.end near r)) ∙ (g.tests j.value k.value).joined) l.onward
    know (When s c x) p q w z ns sp scope n F a t m h =
        let i = W.fitting g _ int_type (Fits told.Int) refl (know c p q (omega arith, omega arith, omega arith) z ns.2 sp.1 scope n F a) h in
        let j = W.voided g _ (know x (span_of c).to q (omega arith, omega arith, omega arith) z ns.3 sp.2 scope i.middle _ i.part.went.agrees) i.onward in
        W.finish g (When s c x) s.to none_type t (W.chain g i.part.went j.part.went) (omega arith) (λ H l. refl) j.onward
    know (While s c x) p q w z ns sp scope n F a t m h =
        let i = W.fitting g _ int_type (Fits told.Int) refl (know c p q (omega arith, omega arith, omega arith) z ns.2 sp.1 scope n F a) h in
        let loop = W.plain g (fact.Loop s.from (span_of x)) tt refl i.part.went in
        let inside = looping g.names g.text _ _ _ _ _ loop.agrees in
        let j = W.voided g _ (know x (span_of c).to q (omega arith, omega arith, omega arith) z ns.3 sp.2 (in_a_loop scope) i.middle _ inside) i.onward in
        let r = between (span_of c).to (span_of x).to in
        let added = S.both r (S.adds r g.text g.at x (omega arith, omega arith) ns.3 _) (S.weighed_adds r g.text g.at x Valueless _) in
        let out = W.back g (span_of x).to q loop.agrees (omega arith) (omega arith) added j.part.went in
        W.finish g (While s c x) s.to none_type t (W.chain g loop out) (omega arith) (λ H l. refl) j.onward
    know (For s x low high body) p q w z ns sp scope n F a t m h =
        let i = W.fitting g _ int_type (Fits told.Int) refl (know low p q (omega arith, omega arith, omega arith) z ns.4 sp.2 scope n F a) h in
        let j = W.fitting g _ int_type (Fits told.Int) refl
        (know high (span_of low).to q (omega arith, omega arith, omega arith) z ns.5 sp.3 scope i.middle _ i.part.went.agrees) i.onward in
        let inner = W.plain g (fact.Loop s.from (span_of body)) tt refl
        (W.declare_variable g (span_of body).from (span_of body).to x (at_of x) int_type true told.Int refl (W.start g j.part.went.agrees) (omega arith)
        (omega arith)) in
        let inside = looping g.names g.text _ _ _ _ _ inner.agrees in
        let k = W.voided g _
        (know body (span_of body).from (span_of body).to (omega arith, omega arith, omega arith) (omega arith) ns.6 sp.4 _ j.middle _ inside) j.onward in
        let r = between (span_of high).to (span_of body).to in
        let shown = S.both r (S.behind r _ (fact.Variable x told.Int (span_of body) ∷ []) ((omega arith, omega arith), tt))
        (S.behind r _ (fact.Loop s.from (span_of body) ∷ []) tt) in
        let added = S.both r (S.both r shown (S.adds r g.text g.at body (omega arith, omega arith) ns.6 _)) (S.weighed_adds r g.text g.at body Valueless _) in
        let out = W.back g (span_of body).to (span_of body).to j.part.went.agrees (omega arith) (omega arith) added (W.chain g inner k.part.went) in
        W.finish g (For s x low high body) s.to none_type t (W.chain g i.part.went (W.chain g j.part.went out)) (omega arith) (λ H l. refl) k.onward
    know (Let s ds es) p q w z ns sp scope n F a t m h =
        let i = steps h in
        let k = decs_order ds s.from ns.0 ns.1 in
        let l = exps_order es ns.0 s.to ns.2 in
        let inner = narrower g.names g.text p q s.from s.to _ _ _ a (omega arith) (omega arith) in
        let decs = know_decs ds s.from ns.0 s.to (omega arith) (omega arith) ns.1 sp.1 scope n F inner i.value i.between i.first in
        let last = know_last none_type es ns.0 s.to s.to (omega arith) (omega arith) ns.2 sp.2 i.value i.between _ decs.agrees t m i.onward in
        let added = S.adds (between p s.to) g.text g.at (Let s ds es) (omega arith, omega arith) ns F in
        record {
          went = W.back g s.to s.to a (omega arith) (omega arith) added (W.chain g decs last.went);
          told = λ H r. block_told es g.text H t (last.told H r);
        }
    know (Seq s es) p q w z ns sp scope n F a t m h =
        let last = know_last none_type es s.from s.to q (omega arith) z ns sp.1 scope n F
        (narrower g.names g.text p q s.from q _ _ _ a (omega arith) (omega arith)) t m h in
        record { went = last.went; told = λ H r. block_told es g.text H t (last.told H r) }

    pub know_place : (v : LValue) (o p to q : ℕ) → o ≤ p → to ≤ q → q ≤ g.end → PlaceNests p to v → ThroughPlace Spelt AnyByte v → (scope : Scope) (n : Noted)
        (F : List Fact) → Agree o q F scope n → (t : Ty) (m : Noted) → typed_place v scope n ≡ fine t m →
        KnowsPlace g v t to q scope m F (place_facts g.text g.at v F)
    know_place (Simple x) o p to q i j z ns sp scope n F a t m h =
        let k = variable_got x _ t n m h in
        let up : o ≤ to = omega arith in
        let near : x.span.from < to = omega arith in
        let stand = A.stands g {p = o} {q = q} x sp (omega arith) (omega arith) in
        record {
          went = W.raise g to (W.reshape g (ap (λ (y : Noted). y.shapes) k.3) (W.start g a)) up;
          told = λ H l. variable_told g.names g.text o q to g.end scope F H a.named up l x stand near k.0 t k.1 k.2;
        }
    know_place (Field v f) o p to q i j z ns sp scope n F a t m h =
        let k = steps h in
        let l = steps k.onward in
        let place = know_place v o p f.span.from q i (omega arith) z ns.0 sp.0 scope n F a k.value k.between k.first in
        let r = fields_got _ _ _ _ _ l.first in
        let y = selected l.value f t _ _ l.onward in
        let here = λ (H : List Fact) (d : AddsWithin (between f.span.from g.end) _ H). place.told H d ∙ ap told_type r.1 in
        let chose = A.choose g v f r.0 (here _ (S.same (between f.span.from g.end) _)) place.went in
        let added = S.selected_adds (between f.span.from g.end) g.text g.at v f _ in
        let up : f.span.from ≤ to = omega arith in
        let shapes = ap (λ (y : Noted). looked_up r.0 y.shapes) r.3 ∙ r.2 in
        record {
          went = W.raise g to (W.reshape g (ap (λ (y : Noted). y.shapes) r.3 ∙ ap (λ (y : Noted). y.shapes) y.3) chose) up;
          told = λ H d.
              let whole = S.both (between f.span.from g.end) added (sooner f.span.from to g.end up d) in
              let same : f.span.from ≤ f.span.from = omega arith in
              ap (λ u. field_type g.text H u f) (here H whole)
              ∙ field_told g.names g.text f.span.from f.span.from g.end k.between _ H place.went.agrees.shaped same whole r.0 l.value shapes f y.0 t y.2;
        }
    know_place (Index v e) o p to q i j z ns sp scope n F a t m h =
        let k = steps h in
        let l = steps k.onward in
        let place = know_place v o p (span_of e).from q i (omega arith) z ns.0 sp.0 scope n F a k.value k.between k.first in
        let r = element_got _ _ _ _ _ l.first in
        let here = λ (H : List Fact) (d : AddsWithin (between (span_of e).from g.end) _ H). place.told H d ∙ ap told_type r.1 in
        let went = W.reshape g (ap (λ (y : Noted). y.shapes) r.3) (A.index g v r.0 (here _ (S.same (between (span_of e).from g.end) _)) place.went) in
        let y = W.fitting g _ int_type (Fits told.Int) refl
        (know e (span_of e).from q (omega arith, omega arith, omega arith) z ns.2 sp.1 scope l.between _ went.agrees) l.onward in
        let d = given _ _ _ _ y.onward in
        let s = between (span_of e).from g.end in
        let added = S.both s (S.both s (S.indexed_adds s g.text g.at v _) (S.adds s g.text g.at e (omega arith, omega arith) ns.2 _))
        (S.weighed_adds s g.text g.at e (Fits told.Int) _) in
        let up : (span_of e).from ≤ to = omega arith in
        let shapes = ap (λ (y : Noted). looked_up r.0 y.shapes) r.3 ∙ r.2 in
        record {
          went = W.reshape g (ap (λ (y : Noted). y.shapes) d.1) (W.raise g to (W.chain g went y.part.went) (omega arith));
          told = λ H x.
              let whole = S.both s added (sooner (span_of e).from to g.end up x) in
              let same : (span_of e).from ≤ (span_of e).from = omega arith in
              ap (λ u. element_type g.text H u) (here H whole)
              ∙ element_told g.names g.text (span_of e).from (span_of e).from g.end k.between _ H place.went.agrees.shaped same whole r.0 l.value shapes
              ∙ ap told_type d.0;
        }

    pub know_args : (f : Ident) (index : ℕ) (es : Exps) (ts : List Ty) (o p to q : ℕ) → o ≤ p → to ≤ q → q ≤ g.end → ExpsNest p to es →
        ThroughExps Spelt AnyByte es → expression_count es ≡ length ts → (scope : Scope) (n : Noted) (F G : List Fact) → AddsWithin (between o g.end) F G →
        ((H : List Fact) → AddsWithin (between o g.end) F H → ParamsAgree g.text H f index ts) → Agree p q G scope n → (x : Unit {0}) (m : Noted) →
        expect_all es ts scope n ≡ fine x m → Went g to q scope m G (args_facts g.text g.at f index es G)
    know_args f index no_exps [] o p to q i j z ns sp c scope n F G w params a x m h = A.nothing_more g to tt x a ns h
    know_args f index no_exps (t ∷ ts) o p to q i j z ns sp c scope n F G w params a x m h = cc
    know_args f index (exp e rest) [] o p to q i j z ns sp c scope n F G w params a x m h = cc
    know_args f index (exp e rest) (t ∷ ts) o p to q i j z ns sp c scope n F G w params a x m h =
        let s = between o g.end in
        let l = exps_order rest (span_of e).to to ns.2 in
        let added = S.both s w (S.adds s g.text g.at e (omega arith, omega arith) ns.1 G) in
        let k = W.fitting g _ t _ (ap Fits (sym (params _ added).0)) (know e p q (omega arith, omega arith, omega arith) z ns.1 sp.0 scope n G a) h in
        let more = know_args f (suc index) rest ts o (span_of e).to to q (omega arith) j z ns.2 sp.1 (let y : expression_count rest ≡ length ts = cc in y) scope
        k.middle F _ (S.both s added (S.weighed_adds s g.text g.at e _ _)) (λ H d. (params H d).1) k.part.went.agrees x m k.onward in
        W.chain g k.part.went more

    pub know_inits : (x : Ident) (byte : ℕ) (is : Inits) (fs : List (ℕ × Ty)) (o p to q : ℕ) → o ≤ p → to ≤ q → q ≤ g.end → InitsNest p to is →
        ThroughInits Spelt AnyByte is → are_fields is fs ≡ true → (scope : Scope) (n : Noted) (F G : List Fact) → AddsWithin (between o g.end) F G →
        ((H : List Fact) → AddsWithin (between o g.end) F H → named_type g.text H x ≡ told.Record byte) → FieldsTold g.text o g.end F byte fs →
        Agree p q G scope n → (y : Unit {0}) (m : Noted) → expect_fields is fs scope n ≡ fine y m → Went g to q scope m G (inits_facts g.text g.at x is G)
    know_inits x byte no_inits [] o p to q i j z ns sp c scope n F G w naming all a y m h = A.nothing_more g to tt y a ns h
    know_inits x byte no_inits (field ∷ fs) o p to q i j z ns sp c scope n F G w naming all a y m h = cc
    know_inits x byte (init f e rest) [] o p to q i j z ns sp c scope n F G w naming all a y m h = cc
    know_inits x byte (init f e rest) (field ∷ fs) o p to q i j z ns sp c scope n F G w naming all a y m h =
        let s = between o g.end in
        let l = inits_order rest (span_of e).to to ns.3 in
        let match = both_true (name_of f == field.0) (are_fields rest fs) c in
        let note = W.plain g (fact.Given x.span.from f) tt refl (W.start g a) in
        let added = S.both s (S.both s w (S.behind s G (fact.Given x.span.from f ∷ []) tt)) (S.adds s g.text g.at e (omega arith, omega arith) ns.2 _) in
        let later = exp_facts g.text g.at e (G ++ fact.Given x.span.from f ∷ []) in
        let type = ap (λ u. field_type g.text later u f) (naming later added) ∙ all.0 f (eqb-true _ _ match.0) later added in
        let k = W.fitting g _ field.1 _ (ap Fits (sym type)) (know e p q (omega arith, omega arith, omega arith) z ns.2 sp.1 scope n _ note.agrees) h in
        let more = know_inits x byte rest fs o (span_of e).to to q (omega arith) j z ns.3 sp.2 match.1 scope k.middle F _
        (S.both s added (S.weighed_adds s g.text g.at e _ _)) naming all.1 k.part.went.agrees y m k.onward in
        W.chain g note (W.chain g k.part.went more)

    pub know_last : (u : Ty) (es : Exps) (p to q : ℕ) → to ≤ q → q ≤ g.end → ExpsNest p to es → ThroughExps Spelt AnyByte es → (scope : Scope) (n : Noted)
        (F : List Fact) → Agree p q F scope n → (t : Ty) (m : Noted) → typed_last u es scope n ≡ fine t m →
        KnowsLast g u es t to q scope m F (exps_facts g.text g.at es F)
    know_last u no_exps p to q j z ns sp scope n F a t m h =
        record { went = A.nothing_more g to u t a ns h; told = λ H l. ap told_type (given _ _ _ _ h).0 }
    know_last u (exp e rest) p to q j z ns sp scope n F a t m h =
        let i = steps h in
        let l = exps_order rest (span_of e).to to ns.2 in
        let one = know e p q (omega arith, omega arith, omega arith) z ns.1 sp.0 scope n F a i.value i.between i.first in
        let more = know_last i.value rest (span_of e).to to q j z ns.2 sp.1 scope i.between _ one.went.agrees t m i.onward in
        let s = between (span_of e).to g.end in
        let added = S.exps_add s g.text g.at rest (span_of e).to to (omega arith) (omega arith) ns.2 _ in
        record {
          went = W.chain g one.went more.went;
          told = λ H r. last_step g.text H e rest _ _ (one.told H (S.both s added (sooner (span_of e).to to g.end l r))) (more.told H r);
        }

    pub know_decs : (ds : Decs) (p next end : ℕ) → next ≤ end → end ≤ g.end → DecsNest p next ds → ThroughDecs Spelt AnyByte ds → (scope : Scope) (n : Noted)
        (F : List Fact) → Agree p end F scope n → (inner : Scope) (m : Noted) → declare ds scope n ≡ fine inner m →
        Went g next end inner m F (decs_facts g.text g.at ds end F)
    know_decs no_decs p next end i z ns sp scope n F a inner m h =
        let d = given _ _ _ _ h in
        subst (λ y. Went g next end y m F F) d.0 (subst (λ y. Went g next end scope y F F) d.1 (W.raise g next (W.start g a) ns))
    know_decs (types ds rest) p next end i z ns sp scope n F a inner m h =
        let k = steps h in
        let l = decs_order rest ns.0 next ns.2 in
        let r = types_agree g.names g.text p ns.0 end end ds scope k.value n k.between F a ns.1 (omega arith) (omega arith) sp.0 k.first in
        let went = W.arrive g r (W.types_quiet g.breach ds (between (types_start ds) end) F) in
        W.chain g went (know_decs rest ns.0 next end i z ns.2 sp.1 k.value k.between _ r inner m k.onward)
    know_decs (variable x None e rest) p next end i z ns sp scope n F a inner m h =
        let j = steps h in
        let k = steps j.onward in
        let l = decs_order rest (span_of e).to next ns.4 in
        let one = know e p end (omega arith, omega arith, omega arith) z ns.3 sp.2 scope n F a j.value j.between j.first in
        let went = A.own_declared g end x e j.value k.value one k.first in
        W.chain g went
        (know_decs rest (span_of e).to next end i z ns.4 sp.3 (binding x (variable_at (at_of x) k.value false) scope) k.between _ went.agrees inner m k.onward)
    know_decs (variable x (Some kind) e rest) p next end i z ns sp scope n F a inner m h =
        let j = steps h in
        let l = decs_order rest (span_of e).to next ns.4 in
        let s = between (span_of e).from g.end in
        let added = S.adds s g.text g.at e (omega arith, omega arith) ns.3 F in
        let type = A.named g (span_of e).from kind j.value a sp.1 (omega arith) (omega arith) (omega arith) j.first _ added in
        let start = W.reshape g (ap (λ (y : Noted). y.shapes) (presented _ _ _ _ _ _ j.first).1) (W.start g a) in
        let k = W.fitting g _ j.value _ (ap Fits (sym type)) (know e p end (omega arith, omega arith, omega arith) z ns.3 sp.2 scope j.between F start.agrees)
        j.onward in
        let went = A.value_declared g end _ x kind e j.value type k.part.went in
        W.chain g went
        (know_decs rest (span_of e).to next end i z ns.4 sp.3 (binding x (variable_at (at_of x) j.value false) scope) k.middle _ went.agrees inner m k.onward)
    know_decs (functions fs rest) p next end i z ns sp scope n F a inner m h =
        let j = steps h in
        let k = steps j.onward in
        let l = steps k.onward in
        let r = functions_order fs p ns.0 ns.1 in
        let y = decs_order rest ns.0 next ns.2 in
        let hd = headers_agree g.names g.text p ns.0 end end fs k.value scope n j.between k.between F a ns.1 (omega arith) (omega arith) sp.0 j.first k.first in
        let first = first_nests fs p ns.0 ns.1 in
        let order = functions_order fs (first_from p fs) ns.0 first in
        let inside = not_looping g.names g.text _ _ _ _ _ hd.1 in
        let types_same : scope.types ≡ (with_functions fs k.value scope).types = sym (with_functions_types fs k.value scope) in
        let started = W.arrive g hd.1 (W.headers_quiet g.breach g.text fs (between (functions_start fs) end) F) in
        let all = know_bodies fs k.value (first_from p fs) ns.0 end (omega arith) z first sp.0 (in_no_loop (with_functions fs k.value scope)) k.between _ inside
        (subst (λ u. Headed u fs k.value) types_same hd.0) l.value l.between l.first in
        let added = S.bodies_add (between (first_from p fs) ns.0) g.text g.at fs (first_from p fs) ns.0 (omega arith) (omega arith) first _ in
        let out = W.back g ns.0 end hd.1 order (omega arith) added all in
        W.chain g started
        (W.chain g out (know_decs rest ns.0 next end i z ns.2 sp.1 (with_functions fs k.value scope) l.between _ out.agrees inner m l.onward))

    pub know_bodies : (fs : FunDecs) (ss : List Signature) (p next end : ℕ) → next ≤ end → end ≤ g.end → FunctionsNest p next fs →
        ThroughFunctions Spelt AnyByte fs → (scope : Scope) (n : Noted) (F : List Fact) → Agree p end F scope n → Headed scope.types fs ss → (x : Unit {0})
        (m : Noted) → bodies fs ss scope n ≡ fine x m → Went g next end scope m F (bodies_facts g.text g.at fs F)
    know_bodies no_functions [] p next end i z ns sp scope n F a hd x m h = A.nothing_more g next tt x a ns h
    know_bodies no_functions (s ∷ ss) p next end i z ns sp scope n F a hd x m h = absurd hd
    know_bodies (function f ps r body rest) [] p next end i z ns sp scope n F a hd x m h = absurd hd
    know_bodies (function f ps r body rest) (s ∷ ss) p next end i z ns sp scope n F a hd x m h =
        let j = steps h in
        let k = steps j.onward in
        let u = functions_order rest (span_of body).to next ns.6 in
        let o = A.opening g f ps r body rest s p next end scope n F i ns sp a hd.0 hd.1 in
        let one = know body (span_of body).from (span_of body).to (omega arith, omega arith, omega arith) (omega arith) ns.5 sp.3
        (with_params ps s.params scope) n _ o.went.agrees j.value j.between j.first in
        let out = A.closing g f ps r body rest s p next end scope n j.between k.between F j.value k.value i z ns a o one k.first in
        W.chain g out (know_bodies rest ss (span_of body).to next end i z ns.6 sp.4 scope k.between _ out.agrees hd.2 x m k.onward)
