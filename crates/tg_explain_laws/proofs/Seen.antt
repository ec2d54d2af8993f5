-- What is declared in an expression is seen only within its span, by induction over trees.
use Rattle.std.proofs.Common.{ℕ, suc, List, [], ◌∷◌, ◌++◌, map, Option, Some, None, Bool, true, false, refl, sym, ap, ◌∙◌, append_assoc, append-nil}
use Rattle.std.proofs.Common.{◌≤◌, arith}
use Rattle.std.specs.Prelude.{◌==◌, if◌then◌else◌}
use Rattle.tg_base.specs.declared.ids.Span.{Span}
use Rattle.tg_syntax.specs.declared.tokens.Ident.{Ident}
use Rattle.tg_syntax.specs.declared.trees.Param.{Param}
use Rattle.tg_syntax.specs.declared.trees.Op.{Op}
use Rattle.tg_syntax.specs.Spans.{span_of}
use Rattle.tg_syntax.specs.Tree.{Form, Alias, Fields, Array, TypeDec, Exp, Nil, Break, Int, Text, Read, Call, Neg, Binary, Make, Fill, Assign, If, When}
use Rattle.tg_syntax.specs.Tree.{While, For, Let, Seq, LValue, Simple, Field, Index, Exps, no_exps, exp, Inits, no_inits, init, Decs, no_decs, types}
use Rattle.tg_syntax.specs.Tree.{variable, functions, FunDecs, no_functions, function}
use Rattle.tg_explain_typing.specs.declared.types.Ty.{Ty}
use Rattle.tg_explain_typing.specs.declared.facts.Demand.{Demand}
use Rattle.tg_explain_typing.specs.declared.facts.Fact.{Fact}
use Rattle.tg_explain_typing.specs.declared.facts.Fact.TheVariants as fact
use Rattle.tg_explain_typing.specs.Facts.{between, judged, weighed, is_equality, compared, made, filled, repeated, assigned, chosen, selected, indexed}
use Rattle.tg_explain_typing.specs.Facts.{passed, given, ended, declared, type_facts, types_facts, params_facts, header_facts, headers_facts}
use Rattle.tg_explain_typing.specs.Facts.{variables_facts, opened_facts, exp_facts, place_facts, exps_facts, args_facts, inits_facts, decs_facts}
use Rattle.tg_explain_typing.specs.Facts.{bodies_facts, types_start, functions_start}
use Rattle.tg_explain_laws.specs.Nested.{TypesNest, FunctionsNest, Nests, PlaceNests, ExpsNest, InitsNest, DecsNest}
use Rattle.tg_explain_laws.specs.laws.Seen.{IsWithin, SeenWithin, AddsWithin}
use Rattle.tg_explain_laws.proofs.Orders.{params_order, kind_order, types_order, exps_order, functions_order, decs_order}

pub seen_both : (s : Span) (a b : List Fact) → SeenWithin s a → SeenWithin s b → SeenWithin s (a ++ b)
seen_both s [] b h k = k
seen_both s (fact.Variable x t z ∷ a) b h k = (h.0, seen_both s a b h.1 k)
seen_both s (fact.Function f t z ∷ a) b h k = (h.0, seen_both s a b h.1 k)
seen_both s (fact.Param f i t z ∷ a) b h k = (h.0, seen_both s a b h.1 k)
seen_both s (fact.TypeName x m z ∷ a) b h k = (h.0, seen_both s a b h.1 k)
seen_both s (fact.Judged d t ∷ a) b h k = seen_both s a b h k
seen_both s (fact.Field o p ∷ a) b h k = seen_both s a b h k
seen_both s (fact.Element o x ∷ a) b h k = seen_both s a b h k
seen_both s (fact.Given o x ∷ a) b h k = seen_both s a b h k
seen_both s (fact.Loop o z ∷ a) b h k = seen_both s a b h k
seen_both s (fact.Body x z ∷ a) b h k = seen_both s a b h k

pub seen_fields : (s : Span) (o : ℕ) (ps : List Param) → SeenWithin s (map (λ p. fact.Field o p) ps)
seen_fields s o [] = tt
seen_fields s o (p ∷ ps) = seen_fields s o ps

module _ (s : Span) where
  pub same : (before : List Fact) → AddsWithin s before before
  same before = record { more = []; is = sym (append-nil before); seen = tt }

  pub behind : (before more : List Fact) → SeenWithin s more → AddsWithin s before (before ++ more)
  behind before more h = record { more = more; is = refl; seen = h }

  pub both : {a b c : List Fact} → AddsWithin s a b → AddsWithin s b c → AddsWithin s a c
  both g h =
      record {
        more = g.more ++ h.more;
        is = h.is ∙ ap (λ l. l ++ h.more) g.is ∙ simp append_assoc;
        seen = seen_both s g.more h.more g.seen h.seen;
      }

  pub chosen_of : (b : Bool) (before one other : List Fact) → AddsWithin s before one → AddsWithin s before other →
      AddsWithin s before (if b then one else other)
  chosen_of true before one other g h = g
  chosen_of false before one other g h = h

  pub judged_adds : (at start : ℕ) (d : Demand) (t : Ty) (before : List Fact) → AddsWithin s before (judged at start d t before)
  judged_adds at start d t before = chosen_of (start == at) before (before ++ fact.Judged d t ∷ []) before (behind before _ tt) (same before)

  pub weighed_adds : (text : List ℕ) (at : ℕ) (e : Exp) (d : Demand) (before : List Fact) → AddsWithin s before (weighed text at e d before)
  unfolding weighed
  weighed_adds text at e d before = judged_adds at _ d _ before

  pub compared_adds : (text : List ℕ) (at whole : ℕ) (op : Op) (a b : Exp) (before : List Fact) → AddsWithin s before (compared text at whole op a b before)
  unfolding compared
  compared_adds text at whole op a b before =
      chosen_of (is_equality op) before _ _ (both (weighed_adds text at b _ before) (judged_adds at whole _ _ _)) (weighed_adds text at b _ before)

  pub made_adds : (text : List ℕ) (at : ℕ) (x : Ident) (before : List Fact) → AddsWithin s before (made text at x before)
  unfolding made
  made_adds text at x before = judged_adds at _ _ _ before

  pub filled_adds : (text : List ℕ) (at : ℕ) (x : Ident) (before : List Fact) → AddsWithin s before (filled text at x before)
  unfolding filled
  filled_adds text at x before = judged_adds at _ _ _ before

  pub repeated_adds : (text : List ℕ) (at : ℕ) (x : Ident) (e : Exp) (before : List Fact) → AddsWithin s before (repeated text at x e before)
  unfolding repeated
  repeated_adds text at x e before = weighed_adds text at e _ before

  pub assigned_adds : (text : List ℕ) (at : ℕ) (v : LValue) (e : Exp) (before : List Fact) → AddsWithin s before (assigned text at v e before)
  unfolding assigned
  assigned_adds text at v e before = weighed_adds text at e _ before

  pub chosen_adds : (text : List ℕ) (at : ℕ) (a b : Exp) (before : List Fact) → AddsWithin s before (chosen text at a b before)
  unfolding chosen
  chosen_adds text at a b before = weighed_adds text at b _ before

  pub selected_adds : (text : List ℕ) (at : ℕ) (v : LValue) (f : Ident) (before : List Fact) → AddsWithin s before (selected text at v f before)
  unfolding selected
  selected_adds text at v f before = both (judged_adds at _ _ _ before) (judged_adds at _ _ _ _)

  pub indexed_adds : (text : List ℕ) (at : ℕ) (v : LValue) (before : List Fact) → AddsWithin s before (indexed text at v before)
  unfolding indexed
  indexed_adds text at v before = judged_adds at _ _ _ before

  pub passed_adds : (text : List ℕ) (at : ℕ) (f : Ident) (index : ℕ) (e : Exp) (before : List Fact) → AddsWithin s before (passed text at f index e before)
  unfolding passed
  passed_adds text at f index e before = weighed_adds text at e _ before

  pub given_adds : (text : List ℕ) (at : ℕ) (x f : Ident) (e : Exp) (before : List Fact) → AddsWithin s before (given text at x f e before)
  unfolding given
  given_adds text at x f e before = weighed_adds text at e _ before

  pub ended_adds : (text : List ℕ) (at : ℕ) (r : Option Ident) (e : Exp) (before : List Fact) → AddsWithin s before (ended text at r e before)
  unfolding ended
  ended_adds text at r e before = weighed_adds text at e _ before

  pub variable_adds : (text : List ℕ) (at : ℕ) (x : Ident) (kind : Option Ident) (e : Exp) (end : ℕ) (before : List Fact) →
      s.from ≤ (span_of e).to → end ≤ s.to → AddsWithin s before (declared text at x kind e end before)
  unfolding declared
  variable_adds text at x None e end before i j = both (weighed_adds text at e _ before) (behind _ _ ((i, j), tt))
  variable_adds text at x (Some kind) e end before i j = both (weighed_adds text at e _ before) (behind _ _ ((i, j), tt))

  pub form_adds : (name : Ident) (f : Form) (seen : Span) (before : List Fact) → IsWithin s seen →
      AddsWithin s before (type_facts (record { name = name; form = f }) seen before)
  unfolding type_facts
  form_adds name (Alias x) seen before w = behind before _ (w, tt)
  form_adds name (Fields ps) seen before w = both (behind before _ (w, tt)) (behind _ _ (seen_fields s name.span.from ps))
  form_adds name (Array x) seen before w = both (behind before _ (w, tt)) (behind _ _ tt)

  pub types_add : (ds : List TypeDec) (seen : Span) (before : List Fact) → IsWithin s seen → AddsWithin s before (types_facts ds seen before)
  types_add [] seen before w = same before
  types_add (d ∷ ds) seen before w = both (form_adds d.name d.form seen before w) (types_add ds seen _ w)

  pub params_add : (text : List ℕ) (f : Ident) (index : ℕ) (ps : List Param) (seen : Span) (before : List Fact) → IsWithin s seen →
      AddsWithin s before (params_facts text f index ps seen before)
  params_add text f index [] seen before w = same before
  params_add text f index (p ∷ ps) seen before w = both (behind before _ (w, tt)) (params_add text f (suc index) ps seen _ w)

  pub headers_add : (text : List ℕ) (fs : FunDecs) (seen : Span) (before : List Fact) → IsWithin s seen →
      AddsWithin s before (headers_facts text fs seen before)
  unfolding header_facts
  headers_add text no_functions seen before w = same before
  headers_add text (function f ps r b rest) seen before w =
      both (both (behind before _ (w, tt)) (params_add text f 0 ps seen _ w)) (headers_add text rest seen _ w)

  pub variables_add : (text : List ℕ) (ps : List Param) (seen : Span) (before : List Fact) → IsWithin s seen →
      AddsWithin s before (variables_facts text ps seen before)
  variables_add text [] seen before w = same before
  variables_add text (p ∷ ps) seen before w = both (behind before _ (w, tt)) (variables_add text ps seen _ w)

  pub opened_adds : (text : List ℕ) (f : Ident) (ps : List Param) (seen : Span) (before : List Fact) → IsWithin s seen →
      AddsWithin s before (opened_facts text f ps seen before)
  unfolding opened_facts
  opened_adds text f ps seen before w = both (behind before _ tt) (variables_add text ps seen _ w)

  pub types_within : (ds : List TypeDec) (p q end : ℕ) → s.from ≤ p → end ≤ s.to → TypesNest p q ds → (before : List Fact) →
      AddsWithin s before (types_facts ds (between (types_start ds) end) before)
  types_within [] p q end i j h before = same before
  types_within (d ∷ ds) p q end i j h before = types_add (d ∷ ds) (between d.name.span.from end) before (omega arith, j)

  pub headers_within : (text : List ℕ) (fs : FunDecs) (p q end : ℕ) → s.from ≤ p → end ≤ s.to → FunctionsNest p q fs → (before : List Fact) →
      AddsWithin s before (headers_facts text fs (between (functions_start fs) end) before)
  headers_within text no_functions p q end i j h before = same before
  headers_within text (function f ps r b rest) p q end i j h before =
      headers_add text (function f ps r b rest) (between f.span.from end) before (omega arith, j)

  mutual
    pub adds : (text : List ℕ) (at : ℕ) (e : Exp) → IsWithin s (span_of e) → Nests e → (before : List Fact) → AddsWithin s before (exp_facts text at e before)
    adds text at (Nil t) w n before = same before
    adds text at (Break t) w n before = same before
    adds text at (Int t o) w n before = same before
    adds text at (Text t b) w n before = same before
    adds text at (Read t v) w n before = place_adds text at v t.from t.to w.0 w.1 n before
    adds text at (Call t f args) w n before = args_add text at f 0 args f.span.to t.to (omega arith) w.1 n.1 before
    adds text at (Neg t a) w n before = both (adds text at a (omega arith, omega arith) n.1 before) (weighed_adds text at a _ _)
    adds text at (Binary t op o a b) w n before =
        let left = both (adds text at a (omega arith, omega arith) n.2 before) (weighed_adds text at a _ _) in
        both (both left (adds text at b (omega arith, omega arith) n.3 _)) (compared_adds text at t.from op a b _)
    adds text at (Make t x is) w n before = both (made_adds text at x before) (inits_add text at x is x.span.to t.to (omega arith) w.1 n.1 _)
    adds text at (Fill t x a b) w n before =
        let size = both (both (filled_adds text at x before) (adds text at a (omega arith, omega arith) n.3 _)) (weighed_adds text at a _ _) in
        both (both size (adds text at b (omega arith, omega arith) n.4 _)) (repeated_adds text at x b _)
    adds text at (Assign t v e) w n before =
        both (both (place_adds text at v t.from (span_of e).from w.0 (omega arith) n.0 before) (adds text at e (omega arith, omega arith) n.2 _))
        (assigned_adds text at v e _)
    adds text at (If t c a b) w n before =
        let test = both (adds text at c (omega arith, omega arith) n.3 before) (weighed_adds text at c _ _) in
        both (both (both test (adds text at a (omega arith, omega arith) n.4 _)) (adds text at b (omega arith, omega arith) n.5 _)) (chosen_adds text at a b _)
    adds text at (When t c a) w n before =
        let test = both (adds text at c (omega arith, omega arith) n.2 before) (weighed_adds text at c _ _) in
        both (both test (adds text at a (omega arith, omega arith) n.3 _)) (weighed_adds text at a _ _)
    adds text at (While t c a) w n before =
        let test = both (adds text at c (omega arith, omega arith) n.2 before) (weighed_adds text at c _ _) in
        both (both (both test (behind _ _ tt)) (adds text at a (omega arith, omega arith) n.3 _)) (weighed_adds text at a _ _)
    adds text at (For t x l h a) w n before =
        let from_in : IsWithin s (span_of l) = (omega arith, omega arith) in
        let to_in : IsWithin s (span_of h) = (omega arith, omega arith) in
        let body : IsWithin s (span_of a) = (omega arith, omega arith) in
        let low = both (adds text at l from_in n.4 before) (weighed_adds text at l _ _) in
        let tests = both (both low (adds text at h to_in n.5 _)) (weighed_adds text at h _ _) in
        both (both (both (both tests (behind _ _ (body, tt))) (behind _ _ tt)) (adds text at a body n.6 _)) (weighed_adds text at a _ _)
    adds text at (Let t ds es) w n before =
        let k = decs_order ds t.from n.0 n.1 in
        let l = exps_order es n.0 t.to n.2 in
        both (decs_add text at ds t.from n.0 t.to w.0 (omega arith) w.1 n.1 before) (exps_add text at es n.0 t.to (omega arith) w.1 n.2 _)
    adds text at (Seq t es) w n before = exps_add text at es t.from t.to w.0 w.1 n before

    pub place_adds : (text : List ℕ) (at : ℕ) (v : LValue) (p q : ℕ) → s.from ≤ p → q ≤ s.to → PlaceNests p q v → (before : List Fact) →
        AddsWithin s before (place_facts text at v before)
    place_adds text at (Simple x) p q i j h before = same before
    place_adds text at (Field v f) p q i j h before = both (place_adds text at v p f.span.from i (omega arith) h.0 before) (selected_adds text at v f _)
    place_adds text at (Index v e) p q i j h before =
        let place = both (place_adds text at v p (span_of e).from i (omega arith) h.0 before) (indexed_adds text at v _) in
        both (both place (adds text at e (omega arith, omega arith) h.2 _)) (weighed_adds text at e _ _)

    pub exps_add : (text : List ℕ) (at : ℕ) (es : Exps) (p q : ℕ) → s.from ≤ p → q ≤ s.to → ExpsNest p q es → (before : List Fact) →
        AddsWithin s before (exps_facts text at es before)
    exps_add text at no_exps p q i j h before = same before
    exps_add text at (exp e rest) p q i j h before =
        both (adds text at e (omega arith, omega arith) h.1 before) (exps_add text at rest (span_of e).to q (omega arith) j h.2 _)

    pub args_add : (text : List ℕ) (at : ℕ) (f : Ident) (index : ℕ) (es : Exps) (p q : ℕ) → s.from ≤ p → q ≤ s.to → ExpsNest p q es → (before : List Fact) →
        AddsWithin s before (args_facts text at f index es before)
    args_add text at f index no_exps p q i j h before = same before
    args_add text at f index (exp e rest) p q i j h before =
        both (both (adds text at e (omega arith, omega arith) h.1 before) (passed_adds text at f index e _))
        (args_add text at f (suc index) rest (span_of e).to q (omega arith) j h.2 _)

    pub inits_add : (text : List ℕ) (at : ℕ) (x : Ident) (is : Inits) (p q : ℕ) → s.from ≤ p → q ≤ s.to → InitsNest p q is → (before : List Fact) →
        AddsWithin s before (inits_facts text at x is before)
    inits_add text at x no_inits p q i j h before = same before
    inits_add text at x (init f e rest) p q i j h before =
        both (both (both (behind before _ tt) (adds text at e (omega arith, omega arith) h.2 _)) (given_adds text at x f e _))
        (inits_add text at x rest (span_of e).to q (omega arith) j h.3 _)

    pub decs_add : (text : List ℕ) (at : ℕ) (ds : Decs) (p q end : ℕ) → s.from ≤ p → q ≤ s.to → end ≤ s.to → DecsNest p q ds → (before : List Fact) →
        AddsWithin s before (decs_facts text at ds end before)
    decs_add text at no_decs p q end i j k h before = same before
    decs_add text at (types ds rest) p q end i j k h before =
        let l = types_order ds p h.0 h.1 in
        both (types_within ds p h.0 end i k h.1 before) (decs_add text at rest h.0 q end (omega arith) j k h.2 _)
    decs_add text at (variable x kind e rest) p q end i j k h before =
        both (both (adds text at e (omega arith, omega arith) h.3 before) (variable_adds text at x kind e end _ (omega arith) k))
        (decs_add text at rest (span_of e).to q end (omega arith) j k h.4 _)
    decs_add text at (functions fs rest) p q end i j k h before =
        let l = functions_order fs p h.0 h.1 in
        let m = decs_order rest h.0 q h.2 in
        both (both (headers_within text fs p h.0 end i k h.1 before) (bodies_add text at fs p h.0 i (omega arith) h.1 _))
        (decs_add text at rest h.0 q end (omega arith) j k h.2 _)

    pub bodies_add : (text : List ℕ) (at : ℕ) (fs : FunDecs) (p q : ℕ) → s.from ≤ p → q ≤ s.to → FunctionsNest p q fs → (before : List Fact) →
        AddsWithin s before (bodies_facts text at fs before)
    bodies_add text at no_functions p q i j h before = same before
    bodies_add text at (function f ps r body rest) p q i j h before =
        let l = params_order ps f.span.to h.1 h.2 in
        let m = kind_order r h.1 (span_of body).from h.3 in
        let w : IsWithin s (span_of body) = (omega arith, omega arith) in
        both (both (both (opened_adds text f ps (span_of body) before w) (adds text at body w h.5 _)) (ended_adds text at r body _))
        (bodies_add text at rest (span_of body).to q (omega arith) j h.6 _)

pub declared_within : (text : List ℕ) (at : ℕ) (e : Exp) (before : List Fact) → Nests e → AddsWithin (span_of e) before (exp_facts text at e before)
declared_within text at e before n = adds (span_of e) text at e (omega arith, omega arith) n before
