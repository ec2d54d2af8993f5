-- Facts of a part come behind those before it, so what is found broken first stays first.
use Rattle.std.proofs.Common.{◌≡◌, ℕ, suc, List, [], ◌∷◌, ◌++◌, Option, Some, None, Bool, true, false, refl, sym, ap, ◌∙◌, append_assoc, append-nil}
use Rattle.std.specs.Prelude.{◌==◌, if◌then◌else◌}
use Rattle.tg_base.specs.declared.ids.Span.{Span}
use Rattle.tg_syntax.specs.declared.tokens.Ident.{Ident}
use Rattle.tg_syntax.specs.declared.trees.Param.{Param}
use Rattle.tg_syntax.specs.declared.trees.Op.{Op}
use Rattle.tg_syntax.specs.Spans.{span_of}
use Rattle.tg_syntax.specs.Tree.{Form, Alias, Fields, Array, TypeDec, Exp, Nil, Break, Int, Text, Read, Call, Neg, Binary, Make, Fill, Assign, If, When}
use Rattle.tg_syntax.specs.Tree.{While, For, Let, Seq, LValue, Simple, Field, Index, Exps, no_exps, exp, Inits, no_inits, init, Decs, no_decs, types}
use Rattle.tg_syntax.specs.Tree.{variable, functions, FunDecs, no_functions, function}
use Rattle.tg_explain_typing.specs.declared.types.Ty.{Ty}
use Rattle.tg_explain_typing.specs.declared.facts.Demand.{Demand}
use Rattle.tg_explain_typing.specs.declared.facts.Fact.{Fact}
use Rattle.tg_explain_typing.specs.declared.facts.Fact.TheVariants as fact
use Rattle.tg_explain_typing.specs.declared.finding.Breach.{Breach}
use Rattle.tg_explain_typing.specs.declared.finding.Judgement.{Judgement}
use Rattle.tg_explain_typing.specs.Finding.{breaks, first_broken}
use Rattle.tg_explain_typing.specs.Facts.{between, judged, weighed, is_equality, compared, made, filled, repeated, assigned, chosen, selected, indexed}
use Rattle.tg_explain_typing.specs.Facts.{passed, given, ended, declared, type_facts, types_facts, params_facts, header_facts, headers_facts}
use Rattle.tg_explain_typing.specs.Facts.{variables_facts, opened_facts, exp_facts, place_facts, exps_facts, args_facts, inits_facts, decs_facts}
use Rattle.tg_explain_typing.specs.Facts.{bodies_facts, types_start, functions_start}

pub record Grows (before after : List Fact) : Type 0 where
  pub more : List Fact
  pub is : after ≡ before ++ more

pub same : (before : List Fact) → Grows before before
same before = record { more = []; is = sym (append-nil before) }

pub behind : (before more : List Fact) → Grows before (before ++ more)
behind before more = record { more = more; is = refl }

pub both : {a b c : List Fact} → Grows a b → Grows b c → Grows a c
both g h = record { more = g.more ++ h.more; is = h.is ∙ ap (λ l. l ++ h.more) g.is ∙ simp append_assoc }

pub chosen_of : (b : Bool) (before one other : List Fact) → Grows before one → Grows before other → Grows before (if b then one else other)
chosen_of true before one other g h = g
chosen_of false before one other g h = h

pub judged_grows : (at start : ℕ) (d : Demand) (t : Ty) (before : List Fact) → Grows before (judged at start d t before)
judged_grows at start d t before = chosen_of (start == at) before (before ++ fact.Judged d t ∷ []) before (behind before _) (same before)

pub weighed_grows : (text : List ℕ) (at : ℕ) (e : Exp) (d : Demand) (before : List Fact) → Grows before (weighed text at e d before)
unfolding weighed
weighed_grows text at e d before = judged_grows at _ d _ before

pub compared_grows : (text : List ℕ) (at whole : ℕ) (op : Op) (a b : Exp) (before : List Fact) → Grows before (compared text at whole op a b before)
unfolding compared
compared_grows text at whole op a b before =
    chosen_of (is_equality op) before _ _ (both (weighed_grows text at b _ before) (judged_grows at whole _ _ _)) (weighed_grows text at b _ before)

pub made_grows : (text : List ℕ) (at : ℕ) (x : Ident) (before : List Fact) → Grows before (made text at x before)
unfolding made
made_grows text at x before = judged_grows at _ _ _ before

pub filled_grows : (text : List ℕ) (at : ℕ) (x : Ident) (before : List Fact) → Grows before (filled text at x before)
unfolding filled
filled_grows text at x before = judged_grows at _ _ _ before

pub repeated_grows : (text : List ℕ) (at : ℕ) (x : Ident) (e : Exp) (before : List Fact) → Grows before (repeated text at x e before)
unfolding repeated
repeated_grows text at x e before = weighed_grows text at e _ before

pub assigned_grows : (text : List ℕ) (at : ℕ) (v : LValue) (e : Exp) (before : List Fact) → Grows before (assigned text at v e before)
unfolding assigned
assigned_grows text at v e before = weighed_grows text at e _ before

pub chosen_grows : (text : List ℕ) (at : ℕ) (a b : Exp) (before : List Fact) → Grows before (chosen text at a b before)
unfolding chosen
chosen_grows text at a b before = weighed_grows text at b _ before

pub selected_grows : (text : List ℕ) (at : ℕ) (v : LValue) (f : Ident) (before : List Fact) → Grows before (selected text at v f before)
unfolding selected
selected_grows text at v f before = both (judged_grows at _ _ _ before) (judged_grows at _ _ _ _)

pub indexed_grows : (text : List ℕ) (at : ℕ) (v : LValue) (before : List Fact) → Grows before (indexed text at v before)
unfolding indexed
indexed_grows text at v before = judged_grows at _ _ _ before

pub passed_grows : (text : List ℕ) (at : ℕ) (f : Ident) (index : ℕ) (e : Exp) (before : List Fact) → Grows before (passed text at f index e before)
unfolding passed
passed_grows text at f index e before = weighed_grows text at e _ before

pub given_grows : (text : List ℕ) (at : ℕ) (x f : Ident) (e : Exp) (before : List Fact) → Grows before (given text at x f e before)
unfolding given
given_grows text at x f e before = weighed_grows text at e _ before

pub ended_grows : (text : List ℕ) (at : ℕ) (r : Option Ident) (e : Exp) (before : List Fact) → Grows before (ended text at r e before)
unfolding ended
ended_grows text at r e before = weighed_grows text at e _ before

pub declared_grows : (text : List ℕ) (at : ℕ) (x : Ident) (kind : Option Ident) (e : Exp) (end : ℕ) (before : List Fact) →
    Grows before (declared text at x kind e end before)
unfolding declared
declared_grows text at x None e end before = both (weighed_grows text at e _ before) (behind _ _)
declared_grows text at x (Some kind) e end before = both (weighed_grows text at e _ before) (behind _ _)

pub form_grows : (name : Ident) (f : Form) (seen : Span) (before : List Fact) → Grows before (type_facts (record { name = name; form = f }) seen before)
unfolding type_facts
form_grows name (Alias x) seen before = behind before _
form_grows name (Fields ps) seen before = both (behind before _) (behind _ _)
form_grows name (Array x) seen before = both (behind before _) (behind _ _)

pub types_grow : (ds : List TypeDec) (seen : Span) (before : List Fact) → Grows before (types_facts ds seen before)
types_grow [] seen before = same before
types_grow (d ∷ ds) seen before = both (form_grows d.name d.form seen before) (types_grow ds seen _)

pub params_grow : (text : List ℕ) (f : Ident) (index : ℕ) (ps : List Param) (seen : Span) (before : List Fact) →
    Grows before (params_facts text f index ps seen before)
params_grow text f index [] seen before = same before
params_grow text f index (p ∷ ps) seen before = both (behind before _) (params_grow text f (suc index) ps seen _)

pub headers_grow : (text : List ℕ) (fs : FunDecs) (seen : Span) (before : List Fact) → Grows before (headers_facts text fs seen before)
unfolding header_facts
headers_grow text no_functions seen before = same before
headers_grow text (function f ps r b rest) seen before = both (both (behind before _) (params_grow text f 0 ps seen _)) (headers_grow text rest seen _)

pub variables_grow : (text : List ℕ) (ps : List Param) (seen : Span) (before : List Fact) → Grows before (variables_facts text ps seen before)
variables_grow text [] seen before = same before
variables_grow text (p ∷ ps) seen before = both (behind before _) (variables_grow text ps seen _)

pub opened_grows : (text : List ℕ) (f : Ident) (ps : List Param) (seen : Span) (before : List Fact) → Grows before (opened_facts text f ps seen before)
unfolding opened_facts
opened_grows text f ps seen before = both (behind before _) (variables_grow text ps seen _)

mutual
  pub exp_grows : (text : List ℕ) (at : ℕ) (e : Exp) (before : List Fact) → Grows before (exp_facts text at e before)
  exp_grows text at (Nil s) before = same before
  exp_grows text at (Break s) before = same before
  exp_grows text at (Int s n) before = same before
  exp_grows text at (Text s b) before = same before
  exp_grows text at (Read s v) before = place_grows text at v before
  exp_grows text at (Call s f args) before = args_grow text at f 0 args before
  exp_grows text at (Neg s a) before = both (exp_grows text at a before) (weighed_grows text at a _ _)
  exp_grows text at (Binary s op o a b) before =
      both (both (both (exp_grows text at a before) (weighed_grows text at a _ _)) (exp_grows text at b _)) (compared_grows text at s.from op a b _)
  exp_grows text at (Make s x is) before = both (made_grows text at x before) (inits_grow text at x is _)
  exp_grows text at (Fill s x a b) before =
      let size = both (both (filled_grows text at x before) (exp_grows text at a _)) (weighed_grows text at a _ _) in
      both (both size (exp_grows text at b _)) (repeated_grows text at x b _)
  exp_grows text at (Assign s v e) before = both (both (place_grows text at v before) (exp_grows text at e _)) (assigned_grows text at v e _)
  exp_grows text at (If s c a b) before =
      let test = both (exp_grows text at c before) (weighed_grows text at c _ _) in
      both (both (both test (exp_grows text at a _)) (exp_grows text at b _)) (chosen_grows text at a b _)
  exp_grows text at (When s c a) before =
      both (both (both (exp_grows text at c before) (weighed_grows text at c _ _)) (exp_grows text at a _)) (weighed_grows text at a _ _)
  exp_grows text at (While s c a) before =
      both (both (both (both (exp_grows text at c before) (weighed_grows text at c _ _)) (behind _ _)) (exp_grows text at a _)) (weighed_grows text at a _ _)
  exp_grows text at (For s x l h a) before =
      let tests = both (both (both (exp_grows text at l before) (weighed_grows text at l _ _)) (exp_grows text at h _)) (weighed_grows text at h _ _) in
      both (both (both (both tests (behind _ _)) (behind _ _)) (exp_grows text at a _)) (weighed_grows text at a _ _)
  exp_grows text at (Let s ds es) before = both (decs_grow text at ds s.to before) (exps_grow text at es _)
  exp_grows text at (Seq s es) before = exps_grow text at es before

  pub place_grows : (text : List ℕ) (at : ℕ) (v : LValue) (before : List Fact) → Grows before (place_facts text at v before)
  place_grows text at (Simple x) before = same before
  place_grows text at (Field v f) before = both (place_grows text at v before) (selected_grows text at v f _)
  place_grows text at (Index v e) before =
      both (both (both (place_grows text at v before) (indexed_grows text at v _)) (exp_grows text at e _)) (weighed_grows text at e _ _)

  pub exps_grow : (text : List ℕ) (at : ℕ) (es : Exps) (before : List Fact) → Grows before (exps_facts text at es before)
  exps_grow text at no_exps before = same before
  exps_grow text at (exp e rest) before = both (exp_grows text at e before) (exps_grow text at rest _)

  pub args_grow : (text : List ℕ) (at : ℕ) (f : Ident) (index : ℕ) (es : Exps) (before : List Fact) → Grows before (args_facts text at f index es before)
  args_grow text at f index no_exps before = same before
  args_grow text at f index (exp e rest) before =
      both (both (exp_grows text at e before) (passed_grows text at f index e _)) (args_grow text at f (suc index) rest _)

  pub inits_grow : (text : List ℕ) (at : ℕ) (x : Ident) (is : Inits) (before : List Fact) → Grows before (inits_facts text at x is before)
  inits_grow text at x no_inits before = same before
  inits_grow text at x (init f e rest) before =
      both (both (both (behind before _) (exp_grows text at e _)) (given_grows text at x f e _)) (inits_grow text at x rest _)

  pub decs_grow : (text : List ℕ) (at : ℕ) (ds : Decs) (end : ℕ) (before : List Fact) → Grows before (decs_facts text at ds end before)
  decs_grow text at no_decs end before = same before
  decs_grow text at (types ds rest) end before = both (types_grow ds (between (types_start ds) end) before) (decs_grow text at rest end _)
  decs_grow text at (variable x kind e rest) end before =
      both (both (exp_grows text at e before) (declared_grows text at x kind e end _)) (decs_grow text at rest end _)
  decs_grow text at (functions fs rest) end before =
      both (both (headers_grow text fs (between (functions_start fs) end) before) (bodies_grow text at fs _)) (decs_grow text at rest end _)

  pub bodies_grow : (text : List ℕ) (at : ℕ) (fs : FunDecs) (before : List Fact) → Grows before (bodies_facts text at fs before)
  bodies_grow text at no_functions before = same before
  bodies_grow text at (function f ps r body rest) before =
      both (both (both (opened_grows text f ps (span_of body) before) (exp_grows text at body _)) (ended_grows text at r body _)) (bodies_grow text at rest _)

-- a judgement that is found is found among more
pub if_found : (b : Bool) (j k : Judgement) (rest more : Option Judgement) → (if b then Some j else rest) ≡ Some k → (rest ≡ Some k → more ≡ Some k) →
    (if b then Some j else more) ≡ Some k
if_found true j k rest more h f = h
if_found false j k rest more h f = f h

pub found_among : (breach : Breach) (before more : List Fact) (j : Judgement) → first_broken breach before ≡ Some j →
    first_broken breach (before ++ more) ≡ Some j
found_among breach [] more j h = cc
found_among breach (fact.Judged d t ∷ facts) more j h =
    if_found (breaks breach d t) (record { demand = d; got = t }) j (first_broken breach facts) (first_broken breach (facts ++ more)) h
    (found_among breach facts more j)
found_among breach (fact.Variable x t s ∷ facts) more j h = found_among breach facts more j h
found_among breach (fact.Function f t s ∷ facts) more j h = found_among breach facts more j h
found_among breach (fact.Param f i t s ∷ facts) more j h = found_among breach facts more j h
found_among breach (fact.TypeName x m s ∷ facts) more j h = found_among breach facts more j h
found_among breach (fact.Field a p ∷ facts) more j h = found_among breach facts more j h
found_among breach (fact.Element a x ∷ facts) more j h = found_among breach facts more j h
found_among breach (fact.Given a x ∷ facts) more j h = found_among breach facts more j h
found_among breach (fact.Loop a s ∷ facts) more j h = found_among breach facts more j h
found_among breach (fact.Body x s ∷ facts) more j h = found_among breach facts more j h

pub first_stays : (text : List ℕ) (at : ℕ) (e : Exp) (before : List Fact) (breach : Breach) (j : Judgement) → first_broken breach before ≡ Some j →
    first_broken breach (exp_facts text at e before) ≡ Some j
first_stays text at e before breach j h =
    let g = exp_grows text at e before in
    ap (λ l. first_broken breach l) g.is ∙ found_among breach before g.more j h
