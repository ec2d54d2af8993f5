-- An expression's span runs from its first token to its last.
use Rattle.std.proofs.Common.{List, [], ◌∷◌, ◌++◌, refl, ap, ◌∙◌, append_assoc}
use Rattle.tg_base.specs.declared.ids.Span.{Span}
use Rattle.tg_syntax.specs.declared.tokens.Spanned.{Spanned}
use Rattle.tg_syntax.specs.Tree.{Exp, LValue}
use Rattle.tg_syntax.specs.Spans.{span_of, joined}
use Rattle.tg_syntax.specs.Grammar.{Level, Reads, whole_assign, whole_up, or_up, or_more, and_up, and_more, cmp_up, cmp_two, sum_up, sum_more}
use Rattle.tg_syntax.specs.Grammar.{term_up, term_more, unary_minus, unary_primary, unary_tail, primary_place, primary_nil, primary_int, primary_text}
use Rattle.tg_syntax.specs.Grammar.{primary_break, primary_sequence, primary_call, primary_record, primary_let, tail_then, tail_else, tail_while}
use Rattle.tg_syntax.specs.Grammar.{tail_for, tail_fill, IsPlace, place_simple, place_field, place_index}
use Rattle.tg_syntax_laws.specs.laws.Places.{IsSpanOf}

alone : (t : Spanned) → IsSpanOf t.span (t ∷ [])
alone t = record { first = t; behind = []; begins = refl; from_is = refl; before = []; last = t; ends = refl; to_is = refl }

-- tokens with others, and any between them
both : {a b : List Spanned} {s z : Span} (m : List Spanned) → IsSpanOf s a → IsSpanOf z b → IsSpanOf (joined s z) (a ++ (m ++ b))
both {a} {b} m h k =
    record {
      first = h.first;
      behind = h.behind ++ (m ++ b);
      begins = ap (λ l. l ++ (m ++ b)) h.begins;
      from_is = h.from_is;
      before = a ++ (m ++ k.before);
      last = k.last;
      ends = ap (λ l. a ++ (m ++ l)) k.ends ∙ simp append_assoc;
      to_is = k.to_is;
    }

between : {b : List Spanned} {z : Span} (t : Spanned) (m : List Spanned) → IsSpanOf z b → IsSpanOf (joined t.span z) (t ∷ (m ++ b))
between t m k = both m (alone t) k

closed : (t : Spanned) (m : List Spanned) (r : Spanned) → IsSpanOf (joined t.span r.span) (t ∷ m ++ r ∷ [])
closed t m r = between t m (alone r)

mutual
  pub span_of-Reads : {k : Level} {a : List Spanned} {e : Exp} → Reads k a e → IsSpanOf (span_of e) a
  span_of-Reads (whole_assign t p i r) = both (t ∷ []) (span_of-IsPlace p) (span_of-Reads r)
  span_of-Reads (whole_up r) = span_of-Reads r
  span_of-Reads (or_up r) = span_of-Reads r
  span_of-Reads (or_more t l n o r) = both (t ∷ []) (span_of-Reads l) (span_of-Reads r)
  span_of-Reads (and_up r) = span_of-Reads r
  span_of-Reads (and_more t l n o r) = both (t ∷ []) (span_of-Reads l) (span_of-Reads r)
  span_of-Reads (cmp_up r) = span_of-Reads r
  span_of-Reads (cmp_two t l n o r) = both (t ∷ []) (span_of-Reads l) (span_of-Reads r)
  span_of-Reads (sum_up r) = span_of-Reads r
  span_of-Reads (sum_more t l n o r) = both (t ∷ []) (span_of-Reads l) (span_of-Reads r)
  span_of-Reads (term_up r) = span_of-Reads r
  span_of-Reads (term_more t l n o r) = both (t ∷ []) (span_of-Reads l) (span_of-Reads r)
  span_of-Reads (unary_minus t i r) = between t [] (span_of-Reads r)
  span_of-Reads (unary_primary r) = span_of-Reads r
  span_of-Reads (unary_tail r) = span_of-Reads r
  span_of-Reads (primary_place p) = span_of-IsPlace p
  span_of-Reads (primary_nil t i) = alone t
  span_of-Reads (primary_int t n i) = alone t
  span_of-Reads (primary_text t bytes i) = alone t
  span_of-Reads (primary_break t i) = alone t
  span_of-Reads (primary_sequence {a} l r i es j) = closed l a r
  span_of-Reads (primary_call {a} t l r i j es k) = closed t (l ∷ a) r
  span_of-Reads (primary_record {a} t l r i j is k) = closed t (l ∷ a) r
  span_of-Reads (primary_let {a} {b} t i e h ds j es k) = rw (← append_assoc a (i ∷ b) (e ∷ [])) (closed t (a ++ i ∷ b) e)
  span_of-Reads (tail_then {a} t u i c j x) = rw (← append_assoc a (u ∷ []) _) (between t (a ++ u ∷ []) (span_of-Reads x))
  span_of-Reads (tail_else {a} {b} {d} t u w i c j x n k y) = rw (← append_assoc b (w ∷ []) d, ← append_assoc a (u ∷ (b ++ w ∷ [])) d)
      (between t (a ++ u ∷ (b ++ w ∷ [])) (span_of-Reads y))
  span_of-Reads (tail_while {a} t u i c j x) = rw (← append_assoc a (u ∷ []) _) (between t (a ++ u ∷ []) (span_of-Reads x))
  span_of-Reads (tail_for {a} {b} {d} t i g u w h j k l m n o x) = rw (← append_assoc b (w ∷ []) d, ← append_assoc a (u ∷ (b ++ w ∷ [])) d)
      (between t (i ∷ g ∷ (a ++ u ∷ (b ++ w ∷ []))) (span_of-Reads x))
  span_of-Reads (tail_fill {a} {b} t l r o i j n k m x) = rw (← append_assoc a (r ∷ o ∷ []) b) (between t (l ∷ (a ++ r ∷ o ∷ [])) (span_of-Reads x))

  pub span_of-IsPlace : {a : List Spanned} {s : Span} {v : LValue} → IsPlace a s v → IsSpanOf s a
  span_of-IsPlace (place_simple t i) = alone t
  span_of-IsPlace (place_field d t p i j) = both (d ∷ []) (span_of-IsPlace p) (alone t)
  span_of-IsPlace (place_index {a} {b} l r p i e j) = both (l ∷ b) (span_of-IsPlace p) (alone r)
