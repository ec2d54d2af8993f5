-- Names stand within the span of each expression that they are part of, by induction over trees.
use Rattle.std.proofs.Common.{ℕ, ◌≤◌, List, [], ◌∷◌, Option, Some, None, arith}
use Rattle.std.proofs.lemmas.Bool.{le-leb, lt-ltb, and_from}
use Rattle.tg_base.specs.declared.ids.Span.{Span}
use Rattle.tg_syntax.specs.declared.tokens.Ident.{Ident}
use Rattle.tg_syntax.specs.declared.trees.Param.{Param}
use Rattle.tg_syntax.specs.Spans.{span_of}
use Rattle.tg_syntax.specs.Tree.{Form, Alias, Fields, Array, TypeDec, Exp, Nil, Break, Int, Text, Read, Call, Neg, Binary, Make, Fill, Assign, If, When}
use Rattle.tg_syntax.specs.Tree.{While, For, Let, Seq, LValue, Simple, Field, Index, Exps, no_exps, exp, Inits, no_inits, init, Decs, no_decs, types}
use Rattle.tg_syntax.specs.Tree.{variable, functions, FunDecs, no_functions, function}
use Rattle.tg_syntax.specs.Throughout.{ThroughParams, ThroughForm, ThroughTypes, ThroughKind, Throughout, ThroughPlace, ThroughExps, ThroughInits}
use Rattle.tg_syntax.specs.Throughout.{ThroughDecs, ThroughFunctions}
use Rattle.tg_syntax.specs.NamesWithin.{AnyByte}
use Rattle.tg_explain_laws.specs.Nested.{Within, ParamsNest, FormNests, TypesNest, KindNests, Nests, PlaceNests, ExpsNest, InitsNest, DecsNest}
use Rattle.tg_explain_laws.specs.Nested.{FunctionsNest}
use Rattle.tg_explain_laws.specs.laws.Spans.{IsCovered}
use Rattle.tg_explain_laws.proofs.Orders.{params_order, kind_order, form_order, types_order, exps_order, functions_order, decs_order}

module _ (s : Span) where
  one : (x : Ident) → Within s.from s.to x.span → IsCovered s x
  one x w = and_from _ _ (le-leb s.from x.span.from w.0) (lt-ltb x.span.from s.to (omega arith))

  kind : (k : Option Ident) (p q : ℕ) → s.from ≤ p → q ≤ s.to → KindNests p q k → ThroughKind (IsCovered s) AnyByte k
  kind None p q i j h = tt
  kind (Some x) p q i j h = one x (omega arith, omega arith, omega arith)

  params : (ps : List Param) (p q : ℕ) → s.from ≤ p → q ≤ s.to → ParamsNest p q ps → ThroughParams (IsCovered s) AnyByte ps
  params [] p q i j h = tt
  params (o ∷ ps) p q i j h = (
    one o.name (omega arith, omega arith, omega arith),
    one o.kind (omega arith, omega arith, omega arith),
    params ps o.kind.span.to q (omega arith) (omega arith) h.2,
  )

  form : (f : Form) (p q : ℕ) → s.from ≤ p → q ≤ s.to → FormNests p q f → ThroughForm (IsCovered s) AnyByte f
  form (Alias x) p q i j h = one x (omega arith, omega arith, omega arith)
  form (Fields ps) p q i j h = params ps p q i j h
  form (Array x) p q i j h = one x (omega arith, omega arith, omega arith)

  type_decs : (ds : List TypeDec) (p q : ℕ) → s.from ≤ p → q ≤ s.to → TypesNest p q ds → ThroughTypes (IsCovered s) AnyByte ds
  type_decs [] p q i j h = tt
  type_decs (d ∷ ds) p q i j h =
      let k = types_order ds h.1 q h.3 in
      let l = form_order d.form d.name.span.to h.1 h.2 in (
        one d.name (omega arith, omega arith, omega arith),
        form d.form d.name.span.to h.1 (omega arith) (omega arith) h.2,
        type_decs ds h.1 q (omega arith) j h.3,
      )

  mutual
    exps : (es : Exps) (p q : ℕ) → s.from ≤ p → q ≤ s.to → ExpsNest p q es → ThroughExps (IsCovered s) AnyByte es
    exps no_exps p q i j h = tt
    exps (exp e rest) p q i j h = (within e (omega arith, omega arith) h.1, exps rest (span_of e).to q (omega arith) j h.2)

    inits : (is : Inits) (p q : ℕ) → s.from ≤ p → q ≤ s.to → InitsNest p q is → ThroughInits (IsCovered s) AnyByte is
    inits no_inits p q i j h = tt
    inits (init f e rest) p q i j h = (
      one f (omega arith, omega arith, omega arith),
      within e (omega arith, omega arith) h.2,
      inits rest (span_of e).to q (omega arith) j h.3,
    )

    place : (v : LValue) (p q : ℕ) → s.from ≤ p → q ≤ s.to → PlaceNests p q v → ThroughPlace (IsCovered s) AnyByte v
    place (Simple x) p q i j h = one x (omega arith, omega arith, omega arith)
    place (Field v f) p q i j h = (place v p f.span.from i (omega arith) h.0, one f (omega arith, omega arith, omega arith))
    place (Index v e) p q i j h = (place v p (span_of e).from i (omega arith) h.0, within e (omega arith, omega arith) h.2)

    decs : (ds : Decs) (p q : ℕ) → s.from ≤ p → q ≤ s.to → DecsNest p q ds → ThroughDecs (IsCovered s) AnyByte ds
    decs no_decs p q i j h = tt
    decs (types ds rest) p q i j h =
        let k = decs_order rest h.0 q h.2 in
        let l = types_order ds p h.0 h.1 in
        (type_decs ds p h.0 i (omega arith) h.1, decs rest h.0 q (omega arith) j h.2)
    decs (variable x k e rest) p q i j h = (
      one x (omega arith, omega arith, omega arith),
      kind k x.span.to (span_of e).from (omega arith) (omega arith) h.1,
      within e (omega arith, omega arith) h.3,
      decs rest (span_of e).to q (omega arith) j h.4,
    )
    decs (functions fs rest) p q i j h =
        let k = decs_order rest h.0 q h.2 in
        let l = functions_order fs p h.0 h.1 in
        (bodies fs p h.0 i (omega arith) h.1, decs rest h.0 q (omega arith) j h.2)

    bodies : (fs : FunDecs) (p q : ℕ) → s.from ≤ p → q ≤ s.to → FunctionsNest p q fs → ThroughFunctions (IsCovered s) AnyByte fs
    bodies no_functions p q i j h = tt
    bodies (function f ps k e rest) p q i j h =
        let l = params_order ps f.span.to h.1 h.2 in
        let m = kind_order k h.1 (span_of e).from h.3 in (
          one f (omega arith, omega arith, omega arith),
          params ps f.span.to h.1 (omega arith) (omega arith) h.2,
          kind k h.1 (span_of e).from (omega arith) (omega arith) h.3,
          within e (omega arith, omega arith) h.5,
          bodies rest (span_of e).to q (omega arith) j h.6,
        )

    within : (e : Exp) → (s.from ≤ (span_of e).from) × ((span_of e).to ≤ s.to) → Nests e → Throughout (IsCovered s) AnyByte e
    within (Nil t) w n = tt
    within (Break t) w n = tt
    within (Int t _) w n = tt
    within (Text t _) w n = tt
    within (Read t v) w n = (tt, place v t.from t.to w.0 w.1 n)
    within (Call t f args) w n =
        (tt, one f (omega arith, omega arith, omega arith), exps args f.span.to t.to (omega arith) w.1 n.1)
    within (Neg t a) w n = (tt, within a (omega arith, omega arith) n.1)
    within (Binary t _ at a b) w n =
        (tt, tt, within a (omega arith, omega arith) n.2, within b (omega arith, omega arith) n.3)
    within (Make t x is) w n = (tt, one x (omega arith, omega arith, omega arith), inits is x.span.to t.to (omega arith) w.1 n.1)
    within (Fill t x a b) w n = (
      tt,
      one x (omega arith, omega arith, omega arith),
      within a (omega arith, omega arith) n.3,
      within b (omega arith, omega arith) n.4,
    )
    within (Assign t v e) w n = (tt, place v t.from (span_of e).from w.0 (omega arith) n.0, within e (omega arith, omega arith) n.2)
    within (If t c a b) w n = (
      tt,
      within c (omega arith, omega arith) n.3,
      within a (omega arith, omega arith) n.4,
      within b (omega arith, omega arith) n.5,
    )
    within (When t c a) w n = (tt, within c (omega arith, omega arith) n.2, within a (omega arith, omega arith) n.3)
    within (While t c a) w n = (tt, within c (omega arith, omega arith) n.2, within a (omega arith, omega arith) n.3)
    within (For t x l h a) w n = (
      tt,
      one x (omega arith, omega arith, omega arith),
      within l (omega arith, omega arith) n.4,
      within h (omega arith, omega arith) n.5,
      within a (omega arith, omega arith) n.6,
    )
    within (Let t ds es) w n =
        let k = decs_order ds t.from n.0 n.1 in
        let l = exps_order es n.0 t.to n.2 in
        (tt, decs ds t.from n.0 w.0 (omega arith) n.1, exps es n.0 t.to (omega arith) w.1 n.2)
    within (Seq t es) w n = (tt, exps es t.from t.to w.0 w.1 n)

pub names_are_covered : (e : Exp) → Nests e → Throughout (IsCovered (span_of e)) AnyByte e
names_are_covered e n = within (span_of e) e (omega arith, omega arith) n
