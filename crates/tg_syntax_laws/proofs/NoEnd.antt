-- No end stands in what the grammar reads, so a list that ends by its one end wants nothing more.
use Rattle.std.proofs.Common.{◌≡◌, List, [], ◌∷◌, ◌++◌, Option, Some, None, refl, sym, ap, subst, ◌∙◌, append_assoc, append-nil}
use Rattle.tg_syntax.specs.declared.tokens.Token.{Token}
use Rattle.tg_syntax.specs.declared.tokens.Token.TheVariants as token
use Rattle.tg_syntax.specs.declared.tokens.Spanned.{Spanned}
use Rattle.tg_syntax.specs.declared.tokens.Word.{Word}
use Rattle.tg_syntax.specs.declared.tokens.Sign.{Sign}
use Rattle.tg_syntax.specs.declared.tokens.Ident.{Ident}
use Rattle.tg_syntax.specs.declared.trees.Param.{Param}
use Rattle.tg_syntax.specs.declared.trees.Op.{Op}
use Rattle.tg_base.specs.declared.ids.Span.{Span}
use Rattle.tg_syntax.specs.Tree.{Form, Exp, LValue, Exps, Inits, Decs}
use Rattle.tg_syntax.specs.Groups.{Dec}
use Rattle.tg_syntax.specs.Grammar.{Level, or_op, and_op, rel_op, sum_op, term_op, IsIdent, AreFields, one_field, more_fields, AreAnyFields}
use Rattle.tg_syntax.specs.Grammar.{no_fields, some_fields, IsForm, alias, fields, array, IsAnnotation, not_annotated, annotated, Reads, whole_assign}
use Rattle.tg_syntax.specs.Grammar.{whole_up, or_up, or_more, and_up, and_more, cmp_up, cmp_two, sum_up, sum_more, term_up, term_more, unary_minus}
use Rattle.tg_syntax.specs.Grammar.{unary_primary, unary_tail, primary_place, primary_nil, primary_int, primary_text, primary_break, primary_sequence}
use Rattle.tg_syntax.specs.Grammar.{primary_call, primary_record, primary_let, tail_then, tail_else, tail_while, tail_for, tail_fill, IsPlace}
use Rattle.tg_syntax.specs.Grammar.{place_simple, place_field, place_index, AreMany, many_one, many_more, AreAny, any_none, any_many, AreInits}
use Rattle.tg_syntax.specs.Grammar.{one_init, more_inits, AreAnyInits, any_no_inits, any_inits, IsDec, dec_type, dec_variable, dec_function, AreDecs}
use Rattle.tg_syntax.specs.Grammar.{decs_none, decs_more, IsProgram, program}
use Rattle.tg_syntax.specs.SyntaxFaults.{HasNoEnd, EndsOnce}
use Rattle.tg_syntax_laws.specs.mirror.Steps.{Out, Whole_program}
use Rattle.tg_syntax_laws.specs.mirror.Reading.{whole_program, Does}
use Rattle.tg_syntax_laws.proofs.Runs.{does_one, got_out}
use Rattle.tg_syntax_laws.proofs.Complete.{complete_program}
use Rattle.tg_syntax_laws.proofs.Exact.{end_alone, out_is}

joins : (a b : List Spanned) → HasNoEnd a → HasNoEnd b → HasNoEnd (a ++ b)
joins [] b h k = k
joins (t ∷ a) b h k = (h.0, joins a b h.1 k)

other : {t w : Token} → t ≡ w → (w ≡ token.End → ⊥) → t ≡ token.End → ⊥
other q d e = d (sym q ∙ e)

ident_other : {t : Spanned} {x : Ident} → IsIdent t x → t.token ≡ token.End → ⊥
ident_other h = other h.name (λ e. cc)

sign_other : {t : Token} {s : Sign} → t ≡ token.Sign s → t ≡ token.End → ⊥
sign_other h = other h (λ e. cc)

word_other : {t : Token} {w : Word} → t ≡ token.Word w → t ≡ token.End → ⊥
word_other h = other h (λ e. cc)

none_some : {A C : Type 0} {x : A} → None ≡ Some x → C
none_some h = cc

op_other : (f : Token → Option Op) {t : Token} {o : Op} → f token.End ≡ None → f t ≡ Some o → t ≡ token.End → ⊥
op_other f n d e = none_some (sym n ∙ ap f (sym e) ∙ d)

between : (a : List Spanned) (t : Spanned) (b : List Spanned) → HasNoEnd a → (t.token ≡ token.End → ⊥) → HasNoEnd b → HasNoEnd (a ++ t ∷ b)
between a t b h q k = joins a (t ∷ b) h (q, k)

no_end_fields : {u : List Spanned} {ps : List Param} → AreFields u ps → HasNoEnd u
no_end_fields (one_field t c u h d g) = (ident_other h, (sign_other d, (ident_other g, tt)))
no_end_fields (more_fields {a = a} m t c u f e h d g) =
    between a m (t ∷ c ∷ u ∷ []) (no_end_fields f) (sign_other e) (ident_other h, (sign_other d, (ident_other g, tt)))

no_end_any_fields : {u : List Spanned} {ps : List Param} → AreAnyFields u ps → HasNoEnd u
no_end_any_fields no_fields = tt
no_end_any_fields (some_fields h) = no_end_fields h

no_end_form : {u : List Spanned} {f : Form} → IsForm u f → HasNoEnd u
no_end_form (alias t h) = (ident_other h, tt)
no_end_form (fields {a = a} l r d h e) = (sign_other d, between a r [] (no_end_any_fields h) (sign_other e) tt)
no_end_form (array t o u h d e) = (word_other h, (word_other d, (ident_other e, tt)))

no_end_annotation : {u : List Spanned} {k : Option Ident} → IsAnnotation u k → HasNoEnd u
no_end_annotation not_annotated = tt
no_end_annotation (annotated c t h d) = (sign_other h, (ident_other d, tt))

mutual
  pub no_end : {k : Level} {u : List Spanned} {e : Exp} → Reads k u e → HasNoEnd u
  no_end (whole_assign {a = a} {b = b} t h d g) = between a t b (no_end_place h) (sign_other d) (no_end g)
  no_end (whole_up h) = no_end h
  no_end (or_up h) = no_end h
  no_end (or_more {a = a} {b = b} t h n d g) = between a t b (no_end h) (op_other or_op refl d) (no_end g)
  no_end (and_up h) = no_end h
  no_end (and_more {a = a} {b = b} t h n d g) = between a t b (no_end h) (op_other and_op refl d) (no_end g)
  no_end (cmp_up h) = no_end h
  no_end (cmp_two {a = a} {b = b} t h n d g) = between a t b (no_end h) (op_other rel_op refl d) (no_end g)
  no_end (sum_up h) = no_end h
  no_end (sum_more {a = a} {b = b} t h n d g) = between a t b (no_end h) (op_other sum_op refl d) (no_end g)
  no_end (term_up h) = no_end h
  no_end (term_more {a = a} {b = b} t h n d g) = between a t b (no_end h) (op_other term_op refl d) (no_end g)
  no_end (unary_minus t d h) = (sign_other d, no_end h)
  no_end (unary_primary h) = no_end h
  no_end (unary_tail h) = no_end h
  no_end (primary_place h) = no_end_place h
  no_end (primary_nil t d) = (word_other d, tt)
  no_end (primary_int t n d) = (other d (λ e. cc), tt)
  no_end (primary_text t b d) = (other d (λ e. cc), tt)
  no_end (primary_break t d) = (word_other d, tt)
  no_end (primary_sequence {a = a} l r d h f) = (sign_other d, between a r [] (no_end_any h) (sign_other f) tt)
  no_end (primary_call {a = a} q l r i d h f) = (ident_other i, (sign_other d, between a r [] (no_end_any h) (sign_other f) tt))
  no_end (primary_record {a = a} q l r i d h f) = (ident_other i, (sign_other d, between a r [] (no_end_any_inits h) (sign_other f) tt))
  no_end (primary_let {a = a} {b = b} q i l d h f g k) =
      (word_other d, between a i (b ++ l ∷ []) (no_end_decs h) (word_other f) (between b l [] (no_end_any g) (word_other k) tt))
  no_end (tail_then {a = a} {b = b} q u d h f g) = (word_other d, between a u b (no_end h) (word_other f) (no_end g))
  no_end (tail_else {a = a} {b = b} {d = p} q u w d h f g n m k) =
      (word_other d, between a u (b ++ w ∷ p) (no_end h) (word_other f) (between b w p (no_end g) (word_other m) (no_end k)))
  no_end (tail_while {a = a} {b = b} q u d h f g) = (word_other d, between a u b (no_end h) (word_other f) (no_end g))
  no_end (tail_for {a = a} {b = b} {d = p} q i m u w d j f h g k n l) =
      let rest = between b w p (no_end k) (word_other n) (no_end l) in
      (word_other d, (ident_other j, (sign_other f, between a u (b ++ w ∷ p) (no_end h) (word_other g) rest)))
  no_end (tail_fill {a = a} {b = b} q l r o i d h f w g) =
      (ident_other i, (sign_other d, between a r (o ∷ b) (no_end h) (sign_other f) (word_other w, no_end g)))

  no_end_place : {u : List Spanned} {s : Span} {v : LValue} → IsPlace u s v → HasNoEnd u
  no_end_place (place_simple t h) = (ident_other h, tt)
  no_end_place (place_field {a = a} d t h f g) = between a d (t ∷ []) (no_end_place h) (sign_other f) (ident_other g, tt)
  no_end_place (place_index {a = a} {b = b} l r h f g k) =
      between a l (b ++ r ∷ []) (no_end_place h) (sign_other f) (between b r [] (no_end g) (sign_other k) tt)

  no_end_many : {s : Sign} {u : List Spanned} {es : Exps} → AreMany s u es → HasNoEnd u
  no_end_many (many_one h) = no_end h
  no_end_many (many_more {a = a} {b = b} t h q g) = between a t b (no_end_many h) (sign_other q) (no_end g)

  no_end_any : {s : Sign} {u : List Spanned} {es : Exps} → AreAny s u es → HasNoEnd u
  no_end_any any_none = tt
  no_end_any (any_many h) = no_end_many h

  no_end_inits : {u : List Spanned} {is : Inits} → AreInits u is → HasNoEnd u
  no_end_inits (one_init t q i d h) = (ident_other i, (sign_other d, no_end h))
  no_end_inits (more_inits {a = a} {b = b} m t q h f i d g) =
      between a m (t ∷ q ∷ b) (no_end_inits h) (sign_other f) (ident_other i, (sign_other d, no_end g))

  no_end_any_inits : {u : List Spanned} {is : Inits} → AreAnyInits u is → HasNoEnd u
  no_end_any_inits any_no_inits = tt
  no_end_any_inits (any_inits h) = no_end_inits h

  no_end_dec : {u : List Spanned} {d : Dec} → IsDec u d → HasNoEnd u
  no_end_dec (dec_type t i q d j k h) = (word_other d, (ident_other j, (sign_other k, no_end_form h)))
  no_end_dec (dec_variable {a = a} {b = b} t i g d j h q k) =
      (word_other d, (ident_other j, between a g b (no_end_annotation h) (sign_other q) (no_end k)))
  no_end_dec (dec_function {a = a} {b = b} {d = p} t i l r q d j f h k n m g) =
      let rest = between b q p (no_end_annotation n) (sign_other m) (no_end g) in
      (word_other d, (ident_other j, (sign_other f, between a r (b ++ q ∷ p) (no_end_any_fields h) (sign_other k) rest)))

  no_end_decs : {u : List Spanned} {ds : Decs} → AreDecs u ds → HasNoEnd u
  no_end_decs decs_none = tt
  no_end_decs (decs_more {a = a} {b = b} h k) = joins a b (no_end_decs h) (no_end_dec k)

program_ends : (ts z : List Spanned) (s : List Spanned) (e : Exp) → EndsOnce ts → IsProgram z e → z ≡ ts ++ s → IsProgram ts e
program_ends ts z s e o (program {a = a} t h q) d =
    let r : s ≡ [] = end_alone o.body a o.end t s o.is_end (no_end h) (sym (append_assoc o.body (o.end ∷ []) s) ∙ sym (ap (λ w. w ++ s) o.whole) ∙ sym d) in
    subst (λ w. IsProgram w e) (d ∙ ap (λ w. ts ++ w) r ∙ append-nil ts) (program t h q)

-- nothing more is wanted after the end
pub not_out : (ts : List Spanned) → EndsOnce ts → Does Whole_program whole_program ts Out → ⊥
not_out ts o h =
    let b = out_is ts h in
    got_out (does_one (complete_program ts b.tree (program_ends ts (ts ++ b.rest) b.rest b.tree o b.is refl)) Out h)
