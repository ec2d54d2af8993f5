-- The same tokens elsewhere are the same tree but for its places: one induction over the grammar.
use Rattle.std.proofs.Common.{◌≡◌, ◌++◌, List, [], ◌∷◌, Bool, false, map, Option, Some, None, refl, sym, ap, subst, ◌∙◌}
use Rattle.std.specs.Prelude.{option_map}
use Rattle.tg_base.specs.declared.ids.Span.{Span}
use Rattle.tg_syntax.specs.declared.tokens.Sign.{Sign}
use Rattle.tg_syntax.specs.declared.tokens.Token.{Token}
use Rattle.tg_syntax.specs.declared.tokens.Token.TheVariants as token
use Rattle.tg_syntax.specs.declared.tokens.Spanned.{Spanned}
use Rattle.tg_syntax.specs.declared.tokens.Ident.{Ident}
use Rattle.tg_syntax.specs.declared.trees.Param.{Param}
use Rattle.tg_syntax.specs.declared.trees.Op.{Op}
use Rattle.tg_syntax.specs.Tree.{Form, Alias, Fields, Array, TypeDec, Exp, Nil, Break, Int, Text, Read, Call, Neg, Binary, Make, Fill, Assign}
use Rattle.tg_syntax.specs.Tree.{If, When, While, For, Let, Seq, LValue, Simple, Field, Index, Exps, no_exps, exp, Inits, no_inits, init, Decs, no_decs}
use Rattle.tg_syntax.specs.Spans.{span_of, joined}
use Rattle.tg_syntax.specs.Groups.{snoc, snoc_init, Dec, one_type, one_variable, one_function, snoc_dec}
use Rattle.tg_syntax.specs.Grammar.{Level, Whole, Disjunction, Conjunction, Comparison, Sum, Term, Unary, Primary, Tail, Reads, or_op, and_op, rel_op}
use Rattle.tg_syntax.specs.Grammar.{sum_op, term_op, IsSign, IsWord, IsIdent, AreFields, one_field, more_fields, AreAnyFields, no_fields, some_fields}
use Rattle.tg_syntax.specs.Grammar.{IsForm, alias, fields, array, IsAnnotation, not_annotated, annotated}
use Rattle.tg_syntax.specs.Grammar.{whole_assign, whole_up, or_up, or_more, and_up, and_more, cmp_up, cmp_two, sum_up, sum_more, term_up, term_more}
use Rattle.tg_syntax.specs.Grammar.{unary_minus, unary_primary, unary_tail, primary_place, primary_nil, primary_int, primary_text, primary_break}
use Rattle.tg_syntax.specs.Grammar.{primary_sequence, primary_call, primary_record, primary_let, tail_then, tail_else, tail_while, tail_for}
use Rattle.tg_syntax.specs.Grammar.{tail_fill, IsPlace, place_simple, place_field, place_index, AreMany, many_one, many_more, AreAny, any_none}
use Rattle.tg_syntax.specs.Grammar.{any_many, AreInits, one_init, more_inits, AreAnyInits, any_no_inits, any_inits, IsDec, dec_type, dec_variable}
use Rattle.tg_syntax.specs.Grammar.{dec_function, AreDecs, decs_none, decs_more, IsProgram, program}
use Rattle.tg_formatter_laws.specs.Spans.{no_span, spanless_ident, spanless_param, spanless_form, spanless_type, without_spans, spanless_place, spanless_exps}
use Rattle.tg_formatter_laws.specs.Spans.{spanless_inits, spanless_decs}
use Rattle.tg_formatter_laws.specs.laws.Laws.{SameTree, IsProgramLike}
use Rattle.tg_formatter_laws.proofs.Alike.{HaveSameTokens, are_alike, none_like, First, first, Parts, parts, Cut, cut}
use Rattle.tg_formatter_laws.proofs.SpanlessLists.{same_tail, same_short, both, all_three, spanless_dec, params_grow, exps_grow, inits_grow, decs_grow}

-- Tokens.

-- an identifier, where it stands now
abbrev moved : Spanned → Ident → Ident
moved t x = record { name = x.name; span = t.span }

is_ident : (one t : Spanned) (x : Ident) → one.token ≡ t.token → IsIdent t x → IsIdent one (moved one x)
is_ident one t x e i = record { name = e ∙ i.name; span = refl }

-- an operator
same_op : (f : Token → Option Op) (one t : Spanned) (o : Op) → one.token ≡ t.token → f t.token ≡ Some o → f one.token ≡ Some o
same_op f one t o e h = ap f e ∙ h

-- Fields, forms and annotations.

record FieldsLike (xs : List Spanned) (ps : List Param) : Type 0 where
  params : List Param
  read : AreFields xs params
  same : map spanless_param params ≡ map spanless_param ps

fields_alike : {a : List Spanned} {ps : List Param} → AreFields a ps → (xs : List Spanned) → HaveSameTokens xs a → FieldsLike xs ps
fields_alike (one_field t c u {x} {k} i j l) xs h =
    let p = first xs t (c ∷ u ∷ []) h in
    let q = first p.rest c (u ∷ []) p.behind in
    let r = first q.rest u [] q.behind in
    let e : xs ≡ p.one ∷ q.one ∷ r.one ∷ [] =
    p.whole ∙ ap (λ l. p.one ∷ l) (q.whole ∙ ap (λ l. q.one ∷ l) (r.whole ∙ ap (λ l. r.one ∷ l) (none_like r.rest r.behind))) in
    record {
      params = record { name = moved p.one x; kind = moved r.one k } ∷ [];
      read = subst (λ l. AreFields l (record { name = moved p.one x; kind = moved r.one k } ∷ [])) (sym e)
          (one_field p.one q.one r.one (is_ident p.one t x p.is i) (q.is ∙ j) (is_ident r.one u k r.is l));
      same = refl;
    }
fields_alike (more_fields {a} {ps} m t c u {x} {k} f g i j l) xs h =
    let d = cut xs a m (t ∷ c ∷ u ∷ []) h in
    let p = first d.right t (c ∷ u ∷ []) d.behind in
    let q = first p.rest c (u ∷ []) p.behind in
    let r = first q.rest u [] q.behind in
    let e : d.right ≡ p.one ∷ q.one ∷ r.one ∷ [] =
    p.whole ∙ ap (λ l. p.one ∷ l) (q.whole ∙ ap (λ l. q.one ∷ l) (r.whole ∙ ap (λ l. r.one ∷ l) (none_like r.rest r.behind))) in
    let before = fields_alike f d.left d.before in
    let one : Param = record { name = moved p.one x; kind = moved r.one k } in
    let old : Param = record { name = x; kind = k } in
    record {
      params = before.params ++ one ∷ [];
      read = subst (λ l. AreFields l (before.params ++ one ∷ [])) (sym (d.whole ∙ ap (λ l. d.left ++ d.one ∷ l) e))
          (more_fields d.one p.one q.one r.one before.read (d.is ∙ g) (is_ident p.one t x p.is i) (q.is ∙ j) (is_ident r.one u k r.is l));
      same = params_grow ps before.params old one before.same refl;
    }

record AnyFieldsLike (xs : List Spanned) (ps : List Param) : Type 0 where
  params : List Param
  read : AreAnyFields xs params
  same : map spanless_param params ≡ map spanless_param ps

any_fields_alike : {a : List Spanned} {ps : List Param} → AreAnyFields a ps → (xs : List Spanned) → HaveSameTokens xs a → AnyFieldsLike xs ps
any_fields_alike no_fields xs h =
    record { params = []; read = subst (λ l. AreAnyFields l []) (sym (none_like xs h)) no_fields; same = refl }
any_fields_alike (some_fields f) xs h =
    let p = fields_alike f xs h in record { params = p.params; read = some_fields p.read; same = p.same }

record FormLike (xs : List Spanned) (f : Form) : Type 0 where
  form : Form
  read : IsForm xs form
  same : spanless_form form ≡ spanless_form f

form_alike : {a : List Spanned} {f : Form} → IsForm a f → (xs : List Spanned) → HaveSameTokens xs a → FormLike xs f
form_alike (alias t {x} i) xs h =
    let p = first xs t [] h in
    record {
      form = Alias (moved p.one x);
      read = subst (λ l. IsForm l (Alias (moved p.one x))) (sym (p.whole ∙ ap (λ l. p.one ∷ l) (none_like p.rest p.behind)))
          (alias p.one (is_ident p.one t x p.is i));
      same = refl;
    }
form_alike (fields {a} {ps} l r i f j) xs h =
    let p = first xs l (a ++ r ∷ []) h in
    let q = cut p.rest a r [] p.behind in
    let inner = any_fields_alike f q.left q.before in
    let e : xs ≡ p.one ∷ q.left ++ q.one ∷ [] = p.whole ∙ ap (λ l. p.one ∷ l) (q.whole ∙ ap (λ l. q.left ++ q.one ∷ l) (none_like q.right q.behind)) in
    record {
      form = Fields inner.params;
      read = subst (λ l. IsForm l (Fields inner.params)) (sym e) (fields p.one q.one (p.is ∙ i) inner.read (q.is ∙ j));
      same = ap Fields inner.same;
    }
form_alike (array t o u {x} i j k) xs h =
    let p = first xs t (o ∷ u ∷ []) h in
    let q = first p.rest o (u ∷ []) p.behind in
    let r = first q.rest u [] q.behind in
    let e : xs ≡ p.one ∷ q.one ∷ r.one ∷ [] =
    p.whole ∙ ap (λ l. p.one ∷ l) (q.whole ∙ ap (λ l. q.one ∷ l) (r.whole ∙ ap (λ l. r.one ∷ l) (none_like r.rest r.behind))) in
    record {
      form = Array (moved r.one x);
      read = subst (λ l. IsForm l (Array (moved r.one x))) (sym e) (array p.one q.one r.one (p.is ∙ i) (q.is ∙ j) (is_ident r.one u x r.is k));
      same = refl;
    }

record AnnotationLike (xs : List Spanned) (k : Option Ident) : Type 0 where
  kind : Option Ident
  read : IsAnnotation xs kind
  same : option_map spanless_ident kind ≡ option_map spanless_ident k

annotation_alike : {a : List Spanned} {k : Option Ident} → IsAnnotation a k → (xs : List Spanned) → HaveSameTokens xs a → AnnotationLike xs k
annotation_alike not_annotated xs h =
    record { kind = None; read = subst (λ l. IsAnnotation l None) (sym (none_like xs h)) not_annotated; same = refl }
annotation_alike (annotated c t {x} i j) xs h =
    let p = first xs c (t ∷ []) h in
    let q = first p.rest t [] p.behind in
    let e : xs ≡ p.one ∷ q.one ∷ [] = p.whole ∙ ap (λ l. p.one ∷ l) (q.whole ∙ ap (λ l. q.one ∷ l) (none_like q.rest q.behind)) in
    record {
      kind = Some (moved q.one x);
      read = subst (λ l. IsAnnotation l (Some (moved q.one x))) (sym e) (annotated p.one q.one (p.is ∙ i) (is_ident q.one t x q.is j));
      same = refl;
    }

-- Expressions.

record ExpLike (l : Level) (xs : List Spanned) (e : Exp) : Type 0 where
  tree : Exp
  read : Reads l xs tree
  same : without_spans tree ≡ without_spans e

record PlaceLike (xs : List Spanned) (v : LValue) : Type 0 where
  span : Span
  place : LValue
  read : IsPlace xs span place
  same : spanless_place place ≡ spanless_place v

record ManyLike (s : Sign) (xs : List Spanned) (es : Exps) : Type 0 where
  exps : Exps
  read : AreMany s xs exps
  same : spanless_exps exps ≡ spanless_exps es

record AnyLike (s : Sign) (xs : List Spanned) (es : Exps) : Type 0 where
  exps : Exps
  read : AreAny s xs exps
  same : spanless_exps exps ≡ spanless_exps es

record InitsLike (xs : List Spanned) (is : Inits) : Type 0 where
  inits : Inits
  read : AreInits xs inits
  same : spanless_inits inits ≡ spanless_inits is

record AnyInitsLike (xs : List Spanned) (is : Inits) : Type 0 where
  inits : Inits
  read : AreAnyInits xs inits
  same : spanless_inits inits ≡ spanless_inits is

record DecLike (xs : List Spanned) (d : Dec) : Type 0 where
  dec : Dec
  read : IsDec xs dec
  same : spanless_dec dec ≡ spanless_dec d

record DecsLike (xs : List Spanned) (ds : Decs) : Type 0 where
  decs : Decs
  read : AreDecs xs decs
  same : spanless_decs decs ≡ spanless_decs ds

-- at a list that is another
exp_at : {l : Level} {xs ys : List Spanned} {e : Exp} → xs ≡ ys → ExpLike l ys e → ExpLike l xs e
exp_at {l} {xs} {ys} {e} h x = subst (λ zs. ExpLike l zs e) (sym h) x

place_at : {xs ys : List Spanned} {v : LValue} → xs ≡ ys → PlaceLike ys v → PlaceLike xs v
place_at {xs} {ys} {v} h x = subst (λ zs. PlaceLike zs v) (sym h) x

-- one token alone
alone_is : (xs : List Spanned) (t : Spanned) (p : First xs t []) → xs ≡ p.one ∷ []
alone_is xs t p = p.whole ∙ ap (λ l. p.one ∷ l) (none_like p.rest p.behind)

mutual
  exp_alike : {k : Level} {a : List Spanned} {e : Exp} → Reads k a e → (xs : List Spanned) → HaveSameTokens xs a → ExpLike k xs e
  exp_alike (whole_assign {a} {b} t p i r) xs h =
      let c = cut xs a t b h in
      let v = place_alike p c.left c.before in
      let x = exp_alike r c.right c.behind in
      exp_at c.whole (record {
        tree = Assign (joined v.span (span_of x.tree)) v.place x.tree;
        read = whole_assign c.one v.read (c.is ∙ i) x.read;
        same = both (Assign no_span) v.same x.same;
      })
  exp_alike (whole_up r) xs h = let x = exp_alike r xs h in record { tree = x.tree; read = whole_up x.read; same = x.same }
  exp_alike (or_up r) xs h = let x = exp_alike r xs h in record { tree = x.tree; read = or_up x.read; same = x.same }
  exp_alike (or_more {a} {b} t {o} {l} {r} m closed op n) xs h =
      let c = cut xs a t b h in
      let x = exp_alike m c.left c.before in
      let y = exp_alike n c.right c.behind in
      exp_at c.whole (record {
        tree = Binary (joined (span_of x.tree) (span_of y.tree)) o c.one.span.from x.tree y.tree;
        read = or_more c.one x.read (same_tail x.tree l false x.same closed) (same_op or_op c.one t o c.is op) y.read;
        same = both (Binary no_span o 0) x.same y.same;
      })
  exp_alike (and_up r) xs h = let x = exp_alike r xs h in record { tree = x.tree; read = and_up x.read; same = x.same }
  exp_alike (and_more {a} {b} t {o} {l} {r} m closed op n) xs h =
      let c = cut xs a t b h in
      let x = exp_alike m c.left c.before in
      let y = exp_alike n c.right c.behind in
      exp_at c.whole (record {
        tree = Binary (joined (span_of x.tree) (span_of y.tree)) o c.one.span.from x.tree y.tree;
        read = and_more c.one x.read (same_tail x.tree l false x.same closed) (same_op and_op c.one t o c.is op) y.read;
        same = both (Binary no_span o 0) x.same y.same;
      })
  exp_alike (cmp_up r) xs h = let x = exp_alike r xs h in record { tree = x.tree; read = cmp_up x.read; same = x.same }
  exp_alike (cmp_two {a} {b} t {o} {l} {r} m closed op n) xs h =
      let c = cut xs a t b h in
      let x = exp_alike m c.left c.before in
      let y = exp_alike n c.right c.behind in
      exp_at c.whole (record {
        tree = Binary (joined (span_of x.tree) (span_of y.tree)) o c.one.span.from x.tree y.tree;
        read = cmp_two c.one x.read (same_tail x.tree l false x.same closed) (same_op rel_op c.one t o c.is op) y.read;
        same = both (Binary no_span o 0) x.same y.same;
      })
  exp_alike (sum_up r) xs h = let x = exp_alike r xs h in record { tree = x.tree; read = sum_up x.read; same = x.same }
  exp_alike (sum_more {a} {b} t {o} {l} {r} m closed op n) xs h =
      let c = cut xs a t b h in
      let x = exp_alike m c.left c.before in
      let y = exp_alike n c.right c.behind in
      exp_at c.whole (record {
        tree = Binary (joined (span_of x.tree) (span_of y.tree)) o c.one.span.from x.tree y.tree;
        read = sum_more c.one x.read (same_tail x.tree l false x.same closed) (same_op sum_op c.one t o c.is op) y.read;
        same = both (Binary no_span o 0) x.same y.same;
      })
  exp_alike (term_up r) xs h = let x = exp_alike r xs h in record { tree = x.tree; read = term_up x.read; same = x.same }
  exp_alike (term_more {a} {b} t {o} {l} {r} m closed op n) xs h =
      let c = cut xs a t b h in
      let x = exp_alike m c.left c.before in
      let y = exp_alike n c.right c.behind in
      exp_at c.whole (record {
        tree = Binary (joined (span_of x.tree) (span_of y.tree)) o c.one.span.from x.tree y.tree;
        read = term_more c.one x.read (same_tail x.tree l false x.same closed) (same_op term_op c.one t o c.is op) y.read;
        same = both (Binary no_span o 0) x.same y.same;
      })
  exp_alike (unary_minus {a} t i r) xs h =
      let p = first xs t a h in
      let x = exp_alike r p.rest p.behind in
      exp_at p.whole (record {
        tree = Neg (joined p.one.span (span_of x.tree)) x.tree;
        read = unary_minus p.one (p.is ∙ i) x.read;
        same = ap (Neg no_span) x.same;
      })
  exp_alike (unary_primary r) xs h = let x = exp_alike r xs h in record { tree = x.tree; read = unary_primary x.read; same = x.same }
  exp_alike (unary_tail r) xs h = let x = exp_alike r xs h in record { tree = x.tree; read = unary_tail x.read; same = x.same }
  exp_alike (primary_place p) xs h =
      let v = place_alike p xs h in record { tree = Read v.span v.place; read = primary_place v.read; same = ap (Read no_span) v.same }
  exp_alike (primary_nil t i) xs h =
      let p = first xs t [] h in
      exp_at (alone_is xs t p) (record { tree = Nil p.one.span; read = primary_nil p.one (p.is ∙ i); same = refl })
  exp_alike (primary_int t n i) xs h =
      let p = first xs t [] h in
      exp_at (alone_is xs t p) (record { tree = Int p.one.span n; read = primary_int p.one n (p.is ∙ i); same = refl })
  exp_alike (primary_text t bytes i) xs h =
      let p = first xs t [] h in
      exp_at (alone_is xs t p) (record { tree = Text p.one.span bytes; read = primary_text p.one bytes (p.is ∙ i); same = refl })
  exp_alike (primary_break t i) xs h =
      let p = first xs t [] h in
      exp_at (alone_is xs t p) (record { tree = Break p.one.span; read = primary_break p.one (p.is ∙ i); same = refl })
  exp_alike (primary_sequence {a} l r i es j) xs h =
      let p = first xs l (a ++ r ∷ []) h in
      let q = cut p.rest a r [] p.behind in
      let x = any_alike es q.left q.before in
      let e : xs ≡ p.one ∷ q.left ++ q.one ∷ [] = p.whole ∙ ap (λ l. p.one ∷ l) (q.whole ∙ ap (λ l. q.left ++ q.one ∷ l) (none_like q.right q.behind)) in
      exp_at e (record {
        tree = Seq (joined p.one.span q.one.span) x.exps;
        read = primary_sequence p.one q.one (p.is ∙ i) x.read (q.is ∙ j);
        same = ap (Seq no_span) x.same;
      })
  exp_alike (primary_call {a} t l r {f} i j es m) xs h =
      let p = first xs t (l ∷ a ++ r ∷ []) h in
      let o = first p.rest l (a ++ r ∷ []) p.behind in
      let q = cut o.rest a r [] o.behind in
      let x = any_alike es q.left q.before in
      let e : xs ≡ p.one ∷ o.one ∷ q.left ++ q.one ∷ [] =
      p.whole ∙ ap (λ l. p.one ∷ l) (o.whole ∙ ap (λ l. o.one ∷ l) (q.whole ∙ ap (λ l. q.left ++ q.one ∷ l) (none_like q.right q.behind))) in
      exp_at e (record {
        tree = Call (joined p.one.span q.one.span) (moved p.one f) x.exps;
        read = primary_call p.one o.one q.one (is_ident p.one t f p.is i) (o.is ∙ j) x.read (q.is ∙ m);
        same = ap (Call no_span (spanless_ident f)) x.same;
      })
  exp_alike (primary_record {a} t l r {x} i j is m) xs h =
      let p = first xs t (l ∷ a ++ r ∷ []) h in
      let o = first p.rest l (a ++ r ∷ []) p.behind in
      let q = cut o.rest a r [] o.behind in
      let v = any_inits_alike is q.left q.before in
      let e : xs ≡ p.one ∷ o.one ∷ q.left ++ q.one ∷ [] =
      p.whole ∙ ap (λ l. p.one ∷ l) (o.whole ∙ ap (λ l. o.one ∷ l) (q.whole ∙ ap (λ l. q.left ++ q.one ∷ l) (none_like q.right q.behind))) in
      exp_at e (record {
        tree = Make (joined p.one.span q.one.span) (moved p.one x) v.inits;
        read = primary_record p.one o.one q.one (is_ident p.one t x p.is i) (o.is ∙ j) v.read (q.is ∙ m);
        same = ap (Make no_span (spanless_ident x)) v.same;
      })
  exp_alike (primary_let {a} {b} {ds} {es} t i e q d j s m) xs h =
      let p = first xs t (a ++ i ∷ (b ++ e ∷ [])) h in
      let c = cut p.rest a i (b ++ e ∷ []) p.behind in
      let f = cut c.right b e [] c.behind in
      let x = decs_alike d c.left c.before in
      let y = any_alike s f.left f.before in
      let w : xs ≡ p.one ∷ (c.left ++ c.one ∷ (f.left ++ f.one ∷ [])) =
      p.whole ∙ ap (λ l. p.one ∷ l) (c.whole ∙ ap (λ l. c.left ++ c.one ∷ l) (f.whole ∙ ap (λ l. f.left ++ f.one ∷ l) (none_like f.right f.behind))) in
      exp_at w (record {
        tree = Let (joined p.one.span f.one.span) x.decs y.exps;
        read = primary_let p.one c.one f.one (p.is ∙ q) x.read (c.is ∙ j) y.read (f.is ∙ m);
        same = both (Let no_span) x.same y.same;
      })
  exp_alike (tail_then {a} {b} {c} {x} t u i r j s) xs h =
      let p = first xs t (a ++ u ∷ b) h in
      let q = cut p.rest a u b p.behind in
      let v = exp_alike r q.left q.before in
      let w = exp_alike s q.right q.behind in
      exp_at (p.whole ∙ ap (λ l. p.one ∷ l) q.whole) (record {
        tree = When (joined p.one.span (span_of w.tree)) v.tree w.tree;
        read = tail_then p.one q.one (p.is ∙ i) v.read (q.is ∙ j) w.read;
        same = both (When no_span) v.same w.same;
      })
  exp_alike (tail_else {a} {b} {d} {c} {x} {y} t u w i r j s closed m n) xs h =
      let p = first xs t (a ++ u ∷ (b ++ w ∷ d)) h in
      let q = cut p.rest a u (b ++ w ∷ d) p.behind in
      let o = cut q.right b w d q.behind in
      let v = exp_alike r q.left q.before in
      let z = exp_alike s o.left o.before in
      let k = exp_alike n o.right o.behind in
      exp_at (p.whole ∙ ap (λ l. p.one ∷ l) (q.whole ∙ ap (λ l. q.left ++ q.one ∷ l) o.whole)) (record {
        tree = If (joined p.one.span (span_of k.tree)) v.tree z.tree k.tree;
        read = tail_else p.one q.one o.one (p.is ∙ i) v.read (q.is ∙ j) z.read (same_short z.tree x false z.same closed) (o.is ∙ m) k.read;
        same = all_three (If no_span) v.same z.same k.same;
      })
  exp_alike (tail_while {a} {b} {c} {x} t u i r j s) xs h =
      let p = first xs t (a ++ u ∷ b) h in
      let q = cut p.rest a u b p.behind in
      let v = exp_alike r q.left q.before in
      let w = exp_alike s q.right q.behind in
      exp_at (p.whole ∙ ap (λ l. p.one ∷ l) q.whole) (record {
        tree = While (joined p.one.span (span_of w.tree)) v.tree w.tree;
        read = tail_while p.one q.one (p.is ∙ i) v.read (q.is ∙ j) w.read;
        same = both (While no_span) v.same w.same;
      })
  exp_alike (tail_for {a} {b} {d} {low} {high} {x} t i g u w {v} q j m r o s n y) xs h =
      let p = first xs t (i ∷ g ∷ (a ++ u ∷ (b ++ w ∷ d))) h in
      let f = first p.rest i (g ∷ (a ++ u ∷ (b ++ w ∷ d))) p.behind in
      let k = first f.rest g (a ++ u ∷ (b ++ w ∷ d)) f.behind in
      let c = cut k.rest a u (b ++ w ∷ d) k.behind in
      let e = cut c.right b w d c.behind in
      let lows = exp_alike r c.left c.before in
      let highs = exp_alike s e.left e.before in
      let body = exp_alike y e.right e.behind in
      exp_at (p.whole ∙ ap (λ l. p.one ∷ l) (f.whole ∙ ap (λ l. f.one ∷ l) (k.whole ∙ ap (λ l. k.one ∷ l)
      (c.whole ∙ ap (λ l. c.left ++ c.one ∷ l) e.whole)))) (record {
        tree = For (joined p.one.span (span_of body.tree)) (moved f.one v) lows.tree highs.tree body.tree;
        read = tail_for p.one f.one k.one c.one e.one (p.is ∙ q) (is_ident f.one i v f.is j) (k.is ∙ m) lows.read (c.is ∙ o) highs.read (e.is ∙ n) body.read;
        same = all_three (For no_span (spanless_ident v)) lows.same highs.same body.same;
      })
  exp_alike (tail_fill {a} {b} {n} {x} t l r o {k} i j s m q y) xs h =
      let p = first xs t (l ∷ (a ++ r ∷ o ∷ b)) h in
      let f = first p.rest l (a ++ r ∷ o ∷ b) p.behind in
      let c = cut f.rest a r (o ∷ b) f.behind in
      let g = first c.right o b c.behind in
      let size = exp_alike s c.left c.before in
      let value = exp_alike y g.rest g.behind in
      exp_at (p.whole ∙ ap (λ l. p.one ∷ l) (f.whole ∙ ap (λ l. f.one ∷ l) (c.whole ∙ ap (λ l. c.left ++ c.one ∷ l) g.whole))) (record {
        tree = Fill (joined p.one.span (span_of value.tree)) (moved p.one k) size.tree value.tree;
        read = tail_fill p.one f.one c.one g.one (is_ident p.one t k p.is i) (f.is ∙ j) size.read (c.is ∙ m) (g.is ∙ q) value.read;
        same = both (Fill no_span (spanless_ident k)) size.same value.same;
      })

  place_alike : {a : List Spanned} {s : Span} {v : LValue} → IsPlace a s v → (xs : List Spanned) → HaveSameTokens xs a → PlaceLike xs v
  place_alike (place_simple t {x} i) xs h =
      let p = first xs t [] h in
      place_at (alone_is xs t p) (record {
        span = p.one.span;
        place = Simple (moved p.one x);
        read = place_simple p.one (is_ident p.one t x p.is i);
        same = refl;
      })
  place_alike (place_field {a} {v = v} d t {x} p i j) xs h =
      let c = cut xs a d (t ∷ []) h in
      let f = first c.right t [] c.behind in
      let w = place_alike p c.left c.before in
      place_at (c.whole ∙ ap (λ l. c.left ++ c.one ∷ l) (alone_is c.right t f)) (record {
        span = joined w.span f.one.span;
        place = Field w.place (moved f.one x);
        read = place_field c.one f.one w.read (c.is ∙ i) (is_ident f.one t x f.is j);
        same = ap (λ z. Field z (spanless_ident x)) w.same;
      })
  place_alike (place_index {a} {b} {v = v} {e = n} l r p i e j) xs h =
      let c = cut xs a l (b ++ r ∷ []) h in
      let d = cut c.right b r [] c.behind in
      let w = place_alike p c.left c.before in
      let x = exp_alike e d.left d.before in
      place_at (c.whole ∙ ap (λ l. c.left ++ c.one ∷ l) (d.whole ∙ ap (λ l. d.left ++ d.one ∷ l) (none_like d.right d.behind))) (record {
        span = joined w.span d.one.span;
        place = Index w.place x.tree;
        read = place_index c.one d.one w.read (c.is ∙ i) x.read (d.is ∙ j);
        same = both Index w.same x.same;
      })

  many_alike : {s : Sign} {a : List Spanned} {es : Exps} → AreMany s a es → (xs : List Spanned) → HaveSameTokens xs a → ManyLike s xs es
  many_alike (many_one r) xs h =
      let x = exp_alike r xs h in record { exps = exp x.tree no_exps; read = many_one x.read; same = ap (λ z. exp z no_exps) x.same }
  many_alike {s} (many_more {a} {b} {es} {e} t m i r) xs h =
      let c = cut xs a t b h in
      let y = many_alike m c.left c.before in
      let x = exp_alike r c.right c.behind in
      record {
        exps = snoc y.exps x.tree;
        read = subst (λ l. AreMany s l (snoc y.exps x.tree)) (sym c.whole) (many_more c.one y.read (c.is ∙ i) x.read);
        same = exps_grow es y.exps e x.tree y.same x.same;
      }

  any_alike : {s : Sign} {a : List Spanned} {es : Exps} → AreAny s a es → (xs : List Spanned) → HaveSameTokens xs a → AnyLike s xs es
  any_alike {s} any_none xs h = record { exps = no_exps; read = subst (λ l. AreAny s l no_exps) (sym (none_like xs h)) any_none; same = refl }
  any_alike (any_many m) xs h = let y = many_alike m xs h in record { exps = y.exps; read = any_many y.read; same = y.same }

  inits_alike : {a : List Spanned} {is : Inits} → AreInits a is → (xs : List Spanned) → HaveSameTokens xs a → InitsLike xs is
  inits_alike (one_init {a} t q {x} i j r) xs h =
      let p = first xs t (q ∷ a) h in
      let o = first p.rest q a p.behind in
      let y = exp_alike r o.rest o.behind in
      record {
        inits = init (moved p.one x) y.tree no_inits;
        read = subst (λ l. AreInits l (init (moved p.one x) y.tree no_inits)) (sym (p.whole ∙ ap (λ l. p.one ∷ l) o.whole))
            (one_init p.one o.one (is_ident p.one t x p.is i) (o.is ∙ j) y.read);
        same = ap (λ z. init (spanless_ident x) z no_inits) y.same;
      }
  inits_alike (more_inits {a} {b} {is} {e} m t q {x} g i j l r) xs h =
      let c = cut xs a m (t ∷ q ∷ b) h in
      let p = first c.right t (q ∷ b) c.behind in
      let o = first p.rest q b p.behind in
      let v = inits_alike g c.left c.before in
      let y = exp_alike r o.rest o.behind in
      record {
        inits = snoc_init v.inits (moved p.one x) y.tree;
        read = subst (λ l. AreInits l (snoc_init v.inits (moved p.one x) y.tree))
            (sym (c.whole ∙ ap (λ l. c.left ++ c.one ∷ l) (p.whole ∙ ap (λ l. p.one ∷ l) o.whole)))
            (more_inits c.one p.one o.one v.read (c.is ∙ i) (is_ident p.one t x p.is j) (o.is ∙ l) y.read);
        same = inits_grow is v.inits x (moved p.one x) e y.tree v.same refl y.same;
      }

  any_inits_alike : {a : List Spanned} {is : Inits} → AreAnyInits a is → (xs : List Spanned) → HaveSameTokens xs a → AnyInitsLike xs is
  any_inits_alike any_no_inits xs h =
      record { inits = no_inits; read = subst (λ l. AreAnyInits l no_inits) (sym (none_like xs h)) any_no_inits; same = refl }
  any_inits_alike (any_inits m) xs h = let y = inits_alike m xs h in record { inits = y.inits; read = any_inits y.read; same = y.same }

  dec_alike : {a : List Spanned} {d : Dec} → IsDec a d → (xs : List Spanned) → HaveSameTokens xs a → DecLike xs d
  dec_alike (dec_type {a} t i q {x} g j l f) xs h =
      let p = first xs t (i ∷ q ∷ a) h in
      let o = first p.rest i (q ∷ a) p.behind in
      let c = first o.rest q a o.behind in
      let y = form_alike f c.rest c.behind in
      let d : Dec = one_type (record { name = moved o.one x; form = y.form }) in
      record {
        dec = d;
        read = subst (λ l. IsDec l d) (sym (p.whole ∙ ap (λ l. p.one ∷ l) (o.whole ∙ ap (λ l. o.one ∷ l) c.whole)))
            (dec_type p.one o.one c.one (p.is ∙ g) (is_ident o.one i x o.is j) (c.is ∙ l) y.read);
        same = ap (λ (z : Form). one_type (record { name = spanless_ident x; form = z })) y.same;
      }
  dec_alike (dec_variable {a} {b} {k} {e} t i g {x} w j m l r) xs h =
      let p = first xs t (i ∷ (a ++ g ∷ b)) h in
      let o = first p.rest i (a ++ g ∷ b) p.behind in
      let c = cut o.rest a g b o.behind in
      let n = annotation_alike m c.left c.before in
      let y = exp_alike r c.right c.behind in
      let d : Dec = one_variable (moved o.one x) n.kind y.tree in
      record {
        dec = d;
        read = subst (λ l. IsDec l d) (sym (p.whole ∙ ap (λ l. p.one ∷ l) (o.whole ∙ ap (λ l. o.one ∷ l) c.whole)))
            (dec_variable p.one o.one c.one (p.is ∙ w) (is_ident o.one i x o.is j) n.read (c.is ∙ l) y.read);
        same = both (one_variable (spanless_ident x)) n.same y.same;
      }
  dec_alike (dec_function {a} {b} {d} {ps} {k} {e} t i l r q {f} g j m s o n u x) xs h =
      let p = first xs t (i ∷ l ∷ (a ++ r ∷ (b ++ q ∷ d))) h in
      let w = first p.rest i (l ∷ (a ++ r ∷ (b ++ q ∷ d))) p.behind in
      let v = first w.rest l (a ++ r ∷ (b ++ q ∷ d)) w.behind in
      let c = cut v.rest a r (b ++ q ∷ d) v.behind in
      let z = cut c.right b q d c.behind in
      let params = any_fields_alike s c.left c.before in
      let kinds = annotation_alike n z.left z.before in
      let body = exp_alike x z.right z.behind in
      let dec : Dec = one_function (moved w.one f) params.params kinds.kind body.tree in
      record {
        dec = dec;
        read = subst (λ l. IsDec l dec) (sym (p.whole ∙ ap (λ l. p.one ∷ l) (w.whole ∙ ap (λ l. w.one ∷ l) (v.whole ∙ ap (λ l. v.one ∷ l)
            (c.whole ∙ ap (λ l. c.left ++ c.one ∷ l) z.whole)))))
            (dec_function p.one w.one v.one c.one z.one (p.is ∙ g) (is_ident w.one i f w.is j) (v.is ∙ m) params.read (c.is ∙ o) kinds.read (z.is ∙ u) body.read);
        same = all_three (one_function (spanless_ident f)) params.same kinds.same body.same;
      }

  decs_alike : {a : List Spanned} {ds : Decs} → AreDecs a ds → (xs : List Spanned) → HaveSameTokens xs a → DecsLike xs ds
  decs_alike decs_none xs h = record { decs = no_decs; read = subst (λ l. AreDecs l no_decs) (sym (none_like xs h)) decs_none; same = refl }
  decs_alike (decs_more {a} {b} {ds} {d} g one) xs h =
      let c = parts xs a b h in
      let x = decs_alike g c.left c.before in
      let y = dec_alike one c.right c.behind in
      record {
        decs = snoc_dec x.decs y.dec;
        read = subst (λ l. AreDecs l (snoc_dec x.decs y.dec)) (sym c.whole) (decs_more x.read y.read);
        same = decs_grow ds x.decs d y.dec x.same y.same;
      }

program_alike : {a : List Spanned} {e : Exp} → IsProgram a e → (xs : List Spanned) → HaveSameTokens xs a → IsProgramLike xs e
program_alike (program {a} t r i) xs h =
    let c = cut xs a t [] h in
    let x = exp_alike r c.left c.before in
    record {
      again = x.tree;
      parsed = subst (λ l. IsProgram l x.tree) (sym (c.whole ∙ ap (λ l. c.left ++ c.one ∷ l) (none_like c.right c.behind))) (program c.one x.read (c.is ∙ i));
      same = x.same;
    }

pub same_tree : SameTree
same_tree tokens others tree p e = program_alike p others (are_alike others tokens e)
