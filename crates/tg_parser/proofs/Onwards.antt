-- Operands, expressions, fields' values and declarations that follow others, one after another.
use Rattle.std.proofs.Common.{◌≡◌, List, [], ◌∷◌, ◌++◌, refl, ap, subst, ◌∙◌}
use Rattle.tg_base.specs.declared.ids.Span.{Span}
use Rattle.tg_syntax.specs.declared.tokens.Ident.{Ident}
use Rattle.tg_syntax.specs.declared.tokens.Sign.{Sign}
use Rattle.tg_syntax.specs.declared.tokens.Sign.TheVariants.{Comma}
use Rattle.tg_syntax.specs.declared.tokens.Spanned.{Spanned}
use Rattle.tg_syntax.specs.declared.trees.Exp.{Exp as CodeExp}
use Rattle.tg_syntax.specs.declared.trees.Init.{Init as CodeInit}
use Rattle.tg_syntax.specs.Tree.{Exp, Exps, exp, no_exps, Inits, init, no_inits, Decs}
use Rattle.tg_syntax.specs.glue.Plain.{plain}
use Rattle.tg_syntax.specs.glue.Lists.{exps_of, inits_of}
use Rattle.tg_syntax.specs.Groups.{snoc, snoc_init, snoc_dec}
use Rattle.tg_syntax.specs.Grammar.{Level, Whole}
use Rattle.tg_syntax_laws.specs.declared.marks.Mark.TheVariants.{OfSign}
use Rattle.tg_syntax_laws.specs.mirror.Steps.{Answer, Got, Bad, Out, Job, Of, At, After, Items, OneInit, MoreInits, MoreDecs, Steps, split}
use Rattle.tg_syntax_laws.specs.mirror.Reading.{Does, job, last, operators, items, more_inits, more_decs, give_got, call_got, call_bad, call_out}
use Rattle.tg_parser.specs.declared.faults.Stop.{Stop}
use Rattle.tg_parser.specs.declared.heads.DeclarationKind.{DeclarationKind}
use Rattle.tg_parser.specs.glue.Given.{Refuses, refuses, wants, no_memory}
use Rattle.tg_parser.specs.glue.Opens.{Leads}
use Rattle.tg_parser.specs.glue.Heads.{one_of}

-- lists with one more at their end
pub exps_end : (es : List CodeExp) (e : CodeExp) → exps_of (es ++ e ∷ []) ≡ snoc (exps_of es) (plain e)
exps_end [] e = refl
exps_end (x ∷ es) e = ap (exp (plain x)) (exps_end es e)

pub inits_end : (is : List CodeInit) (i : CodeInit) → inits_of (is ++ i ∷ []) ≡ snoc_init (inits_of is) i.field (plain i.value)
inits_end [] i = refl
inits_end (x ∷ is) i = ap (init x.field (plain x.value)) (inits_end is i)

pub exps_one : {old new : List CodeExp} (e : CodeExp) → old ≡ [] → new ≡ old ++ e ∷ [] → exps_of new ≡ exp (plain e) no_exps
exps_one {old} {new} e h k = ap exps_of k ∙ ap (λ es. exps_of (es ++ e ∷ [])) h

pub inits_one : {old new : List CodeInit} (i : CodeInit) → old ≡ [] → new ≡ old ++ i ∷ [] → inits_of new ≡ init i.field (plain i.value) no_inits
inits_one {old} {new} i h k = ap inits_of k ∙ ap (λ is. inits_of (is ++ i ∷ [])) h

pub exps_none : {es : List CodeExp} {s : Span} → es ≡ [] → ◌≡◌ {A = Exps × Span} (exps_of es, s) (no_exps, s)
exps_none {s = s} h =
    let pair : List CodeExp → Exps × Span = λ es. (exps_of es, s) in
    ap pair h

pub inits_none : {is : List CodeInit} {s : Span} → is ≡ [] → ◌≡◌ {A = Inits × Span} (inits_of is, s) (no_inits, s)
inits_none {s = s} h =
    let pair : List CodeInit → Inits × Span = λ is. (inits_of is, s) in
    ap pair h

-- reading on after this left operand is reading on after the first one
pub record OperatorsOn (k : Level) (first : Exp) (tokens : List Spanned) (l : Exp) (rest : List Spanned) : Type 0 where
  pub reaches : (r : Answer Exp) → Does (After k l) (operators k l) rest r → Does (After k first) (operators k first) tokens r

pub operators_first : (k : Level) (l : Exp) (tokens : List Spanned) → OperatorsOn k l tokens l tokens
operators_first k l tokens = record { reaches = λ r d. d }

last_operators : (k : Level) (l more : Exp) (tokens : List Spanned) (r : Answer Exp) → Does (After k more) (operators k more) tokens r →
    Does (After k l) (last (After k more)) tokens r
last_operators k l more tokens (Got x rest) d = call_got (After k l) (After k more) d (give_got (After k l))
last_operators k l more tokens (Bad t rest) d = call_bad (After k l) (After k more) d
last_operators k l more tokens Out d = call_out (After k l) (After k more) d

pub operators_more : {k : Level} {first l new more : Exp} {tokens rest behind : List Spanned} → OperatorsOn k first tokens l rest →
    Leads (After k l) (operators k l) rest (last (After k more)) behind → new ≡ more → OperatorsOn k first tokens new behind
operators_more {k} {first} {l} {new} {more} {tokens} {rest} {behind} h m e = record {
  reaches = λ r w. h.reaches r (m.goes r (last_operators k l more behind r (subst (λ x. Does (After k x) (operators k x) behind r) e w)));
}

pub operators_stops : {k : Level} {first l : Exp} {tokens rest : List Spanned} {e : Stop} → OperatorsOn k first tokens l rest →
    Refuses e (After k l) (operators k l) rest → Refuses e (After k first) (operators k first) tokens
operators_stops h (refuses {after = after} one d) = refuses one (h.reaches (Bad one after) d)
operators_stops h (wants d) = wants (h.reaches Out d)
operators_stops h (no_memory _) = no_memory (After _ _)

-- reading on after these expressions is reading on after the first ones
pub record ItemsOn (m : Sign) (first : Exps) (tokens : List Spanned) (es : Exps) (rest : List Spanned) : Type 0 where
  pub reaches : (r : Answer Exps) → Does (Items m es) (items m es) rest r → Does (Items m first) (items m first) tokens r

pub items_first : (m : Sign) (first es : Exps) (tokens : List Spanned) → es ≡ first → ItemsOn m first tokens es tokens
items_first m first es tokens e = record { reaches = λ r d. subst (λ x. Does (Items m x) (items m x) tokens r) e d }

last_items : (m : Sign) (es more : Exps) (tokens : List Spanned) (r : Answer Exps) → Does (Items m more) (items m more) tokens r →
    Does (Items m es) (last (Items m more)) tokens r
last_items m es more tokens (Got x rest) d = call_got (Items m es) (Items m more) d (give_got (Items m es))
last_items m es more tokens (Bad t rest) d = call_bad (Items m es) (Items m more) d
last_items m es more tokens Out d = call_out (Items m es) (Items m more) d

pub items_more : {m : Sign} {first es new : Exps} {tokens rest after behind : List Spanned} {s : Span} {e : Exp} →
    ItemsOn m first tokens es rest → ((j : Job) (f : Span → Steps (Of j)) (z : Steps (Of j)) → Leads j (split (OfSign m) f z) rest (f s) after) →
    Does (At Whole) (job (At Whole)) after (Got e behind) → new ≡ snoc es e → ItemsOn m first tokens new behind
items_more {m} {first} {es} {new} {tokens} {rest} {after} {behind} {s} {e} h l d n = record {
  reaches = λ r w. h.reaches r
      ((l (Items m es) _ _).goes r
      (call_got (Items m es) (At Whole) d (last_items m es (snoc es e) behind r (subst (λ x. Does (Items m x) (items m x) behind r) n w))));
}

pub items_stops : {m : Sign} {first es : Exps} {tokens rest : List Spanned} {e : Stop} → ItemsOn m first tokens es rest →
    Refuses e (Items m es) (items m es) rest → Refuses e (Items m first) (items m first) tokens
items_stops h (refuses {after = after} one d) = refuses one (h.reaches (Bad one after) d)
items_stops h (wants d) = wants (h.reaches Out d)
items_stops h (no_memory _) = no_memory (Items _ _)

-- fields' values
pub record InitsOn (first : Inits) (tokens : List Spanned) (is : Inits) (rest : List Spanned) : Type 0 where
  pub reaches : (r : Answer Inits) → Does (MoreInits is) (more_inits is) rest r → Does (MoreInits first) (more_inits first) tokens r

pub inits_first : (first is : Inits) (tokens : List Spanned) → is ≡ first → InitsOn first tokens is tokens
inits_first first is tokens e = record { reaches = λ r d. subst (λ x. Does (MoreInits x) (more_inits x) tokens r) e d }

last_inits : (is more : Inits) (tokens : List Spanned) (r : Answer Inits) → Does (MoreInits more) (more_inits more) tokens r →
    Does (MoreInits is) (last (MoreInits more)) tokens r
last_inits is more tokens (Got x rest) d = call_got (MoreInits is) (MoreInits more) d (give_got (MoreInits is))
last_inits is more tokens (Bad t rest) d = call_bad (MoreInits is) (MoreInits more) d
last_inits is more tokens Out d = call_out (MoreInits is) (MoreInits more) d

pub inits_more : {first is new : Inits} {tokens rest after behind : List Spanned} {s : Span} {i : Ident × Exp} →
    InitsOn first tokens is rest → ((j : Job) (f : Span → Steps (Of j)) (z : Steps (Of j)) → Leads j (split (OfSign Comma) f z) rest (f s) after) →
    Does OneInit (job OneInit) after (Got i behind) → new ≡ snoc_init is i.0 i.1 → InitsOn first tokens new behind
inits_more {first} {is} {new} {tokens} {rest} {after} {behind} {s} {i} h l d n = record {
  reaches = λ r w. h.reaches r
      ((l (MoreInits is) _ _).goes r
      (call_got (MoreInits is) OneInit d (last_inits is (snoc_init is i.0 i.1) behind r (subst (λ x. Does (MoreInits x) (more_inits x) behind r) n w))));
}

pub inits_stops : {first is : Inits} {tokens rest : List Spanned} {e : Stop} → InitsOn first tokens is rest →
    Refuses e (MoreInits is) (more_inits is) rest → Refuses e (MoreInits first) (more_inits first) tokens
inits_stops h (refuses {after = after} one d) = refuses one (h.reaches (Bad one after) d)
inits_stops h (wants d) = wants (h.reaches Out d)
inits_stops h (no_memory _) = no_memory (MoreInits _)

-- declarations
pub record DecsOn (first : Decs) (tokens : List Spanned) (ds : Decs) (rest : List Spanned) : Type 0 where
  pub reaches : (r : Answer Decs) → Does (MoreDecs ds) (more_decs ds) rest r → Does (MoreDecs first) (more_decs first) tokens r

pub decs_first : (first ds : Decs) (tokens : List Spanned) → ds ≡ first → DecsOn first tokens ds tokens
decs_first first ds tokens e = record { reaches = λ r d. subst (λ x. Does (MoreDecs x) (more_decs x) tokens r) e d }

last_decs : (ds more : Decs) (tokens : List Spanned) (r : Answer Decs) → Does (MoreDecs more) (more_decs more) tokens r →
    Does (MoreDecs ds) (last (MoreDecs more)) tokens r
last_decs ds more tokens (Got x rest) d = call_got (MoreDecs ds) (MoreDecs more) d (give_got (MoreDecs ds))
last_decs ds more tokens (Bad t rest) d = call_bad (MoreDecs ds) (MoreDecs more) d
last_decs ds more tokens Out d = call_out (MoreDecs ds) (MoreDecs more) d

pub decs_more : {first ds new : Decs} {tokens rest after behind : List Spanned} (k : DeclarationKind) →
    DecsOn first tokens ds rest → Leads (MoreDecs ds) (more_decs ds) rest (one_of k (MoreDecs ds) (λ d. last (MoreDecs (snoc_dec ds d)))) after →
    Leads (MoreDecs ds) (one_of k (MoreDecs ds) (λ d. last (MoreDecs (snoc_dec ds d)))) after (last (MoreDecs new)) behind → DecsOn first tokens new behind
decs_more {first} {ds} {new} {tokens} {rest} {after} {behind} k h l m = record {
  reaches = λ r w. h.reaches r (l.goes r (m.goes r (last_decs ds new behind r w)));
}

pub decs_stops : {first ds : Decs} {tokens rest : List Spanned} {e : Stop} → DecsOn first tokens ds rest →
    Refuses e (MoreDecs ds) (more_decs ds) rest → Refuses e (MoreDecs first) (more_decs first) tokens
decs_stops h (refuses {after = after} one d) = refuses one (h.reaches (Bad one after) d)
decs_stops h (wants d) = wants (h.reaches Out d)
decs_stops h (no_memory _) = no_memory (MoreDecs _)
