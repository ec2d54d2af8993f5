-- The strings of a tree are those of its tokens, and no two stand side by side: one induction over the
-- grammar.
use Rattle.std.proofs.Common.{ℕ, ◌+◌, ◌≡◌, ◌≤◌, List, [], ◌∷◌, ◌++◌, length, Option, Some, None, refl, sym, ap, subst, ◌∙◌, append_assoc, append-nil, arith}
use Rattle.std.specs.List.{sum_by}
use Rattle.std.proofs.lemmas.List.Concat.{flat_map-append}
use Rattle.std.proofs.lemmas.List.Sums.{sum_by-cons, sum_by-append}
use Rattle.tg_base.specs.declared.ids.Span.{Span}
use Rattle.tg_syntax.specs.declared.tokens.Word.{Word}
use Rattle.tg_syntax.specs.declared.tokens.Sign.{Sign}
use Rattle.tg_syntax.specs.declared.tokens.Token.{Token}
use Rattle.tg_syntax.specs.declared.tokens.Token.TheVariants as token
use Rattle.tg_syntax.specs.declared.tokens.Spanned.{Spanned}
use Rattle.tg_syntax.specs.declared.tokens.Ident.{Ident}
use Rattle.tg_syntax.specs.declared.trees.Param.{Param}
use Rattle.tg_syntax.specs.declared.trees.Op.{Op}
use Rattle.tg_syntax.specs.Tree.{Form, Exp, LValue, Exps, no_exps, exp, Inits, no_inits, init, Decs, no_decs, types, variable, functions, FunDecs}
use Rattle.tg_syntax.specs.Tree.{no_functions, function}
use Rattle.tg_syntax.specs.Groups.{snoc, snoc_init, Dec, one_type, one_variable, one_function, one_declaration, snoc_function, behind_functions, snoc_dec}
use Rattle.tg_syntax.specs.Grammar.{Level, or_op, and_op, rel_op, sum_op, term_op, IsSign, IsWord, IsIdent, AreFields, one_field, more_fields}
use Rattle.tg_syntax.specs.Grammar.{AreAnyFields, no_fields, some_fields, IsForm, alias, fields, array, IsAnnotation, not_annotated, annotated, Reads}
use Rattle.tg_syntax.specs.Grammar.{whole_assign, whole_up, or_up, or_more, and_up, and_more, cmp_up, cmp_two, sum_up, sum_more, term_up, term_more}
use Rattle.tg_syntax.specs.Grammar.{unary_minus, unary_primary, unary_tail, primary_place, primary_nil, primary_int, primary_text, primary_break}
use Rattle.tg_syntax.specs.Grammar.{primary_sequence, primary_call, primary_record, primary_let, tail_then, tail_else, tail_while, tail_for}
use Rattle.tg_syntax.specs.Grammar.{tail_fill, IsPlace, place_simple, place_field, place_index, AreMany, many_one, many_more, AreAny, any_none}
use Rattle.tg_syntax.specs.Grammar.{any_many, AreInits, one_init, more_inits, AreAnyInits, any_no_inits, any_inits, IsDec, dec_type, dec_variable}
use Rattle.tg_syntax.specs.Grammar.{dec_function, AreDecs, decs_none, decs_more, IsProgram, program}
use Rattle.tg_translate_laws.specs.Strings.{strings, place_strings, exps_strings, inits_strings, decs_strings, bodies_strings}
use Rattle.tg_literal_bounds.specs.TokenStrings.{string_of, strings_of, spaced_length}
use Rattle.tg_literal_bounds.proofs.Spelling.{least_bytes, least_length}

-- a token that is neither a string nor the end: a sign, a word, an identifier, an operator
record IsPlainToken (t : Spanned) : Type 0 where
  none : string_of t.token ≡ []
  one : least_bytes t.token ≡ 1

sign : (t : Spanned) {s : Sign} → IsSign t s → IsPlainToken t
sign t i = record { none = ap string_of i; one = ap least_bytes i }

word : (t : Spanned) {w : Word} → IsWord t w → IsPlainToken t
word t i = record { none = ap string_of i; one = ap least_bytes i }

ident : (t : Spanned) {x : Ident} → IsIdent t x → IsPlainToken t
ident t i = record { none = ap string_of i.name; one = ap least_bytes i.name }

int : (t : Spanned) {n : ℕ} → t.token ≡ token.Int n → IsPlainToken t
int t i = record { none = ap string_of i; one = ap least_bytes i }

-- what has operators among its tokens, has none among strings and for the end
module _ (op : Token → Option Op) (no_text : (bytes : List ℕ) → op (token.Text bytes) ≡ None) (no_end : op token.End ≡ None) where
  is_plain : (one : Token) {o : Op} → op one ≡ Some o → (string_of one ≡ []) × (least_bytes one ≡ 1)
  is_plain (token.Text bytes) e = let n = no_text bytes in absurd (cc)
  is_plain (token.Word w) e = (refl, refl)
  is_plain (token.Sign s) e = (refl, refl)
  is_plain (token.Ident n) e = (refl, refl)
  is_plain (token.Int n) e = (refl, refl)
  is_plain token.End e = absurd (cc)

  operator : (t : Spanned) {o : Op} → op t.token ≡ Some o → IsPlainToken t
  operator t e = let p = is_plain t.token e in record { none = p.0; one = p.1 }

-- These tokens have these strings, which with three bytes more for each are at most so many bytes
-- more than the tokens take.
pub record HaveStrings (spare : ℕ) (tokens : List Spanned) (xs : List (List ℕ)) : Type 0 where
  pub strings_are : xs ≡ strings_of tokens
  pub fit : sum_by spaced_length xs ≤ spare + least_length tokens

none : HaveStrings 1 [] []
none = record { strings_are = refl; fit = omega arith }

loose : {tokens : List Spanned} {xs : List (List ℕ)} → HaveStrings 0 tokens xs → HaveStrings 1 tokens xs
loose h = record { strings_are = h.strings_are; fit = omega arith }

equal : {spare : ℕ} {tokens : List Spanned} {xs ys : List (List ℕ)} → xs ≡ ys → HaveStrings spare tokens ys → HaveStrings spare tokens xs
equal {spare} {tokens} e h = record {
  strings_are = e ∙ h.strings_are;
  fit = subst (λ zs. sum_by spaced_length zs ≤ spare + least_length tokens) (sym e) h.fit;
}

joined : {j k : ℕ} {a b : List Spanned} {xs ys : List (List ℕ)} → HaveStrings j a xs → HaveStrings k b ys → HaveStrings (j + k) (a ++ b) (xs ++ ys)
joined {a} {b} {xs} {ys} h k = record {
  strings_are =
      ap (λ zs. zs ++ ys) h.strings_are
      ∙ (ap (λ zs. strings_of a ++ zs) k.strings_are ∙ sym (flat_map-append (λ t. string_of t.token) a b));
  fit = omega (arith, sum_by-append spaced_length xs ys, sum_by-append (λ t. least_bytes t.token) a b);
}

-- after a plain token, which is the byte that there was to spare
paid : {t : Spanned} {a : List Spanned} {xs : List (List ℕ)} → IsPlainToken t → HaveStrings 1 a xs → HaveStrings 0 (t ∷ a) xs
paid {t} {a} q h = record {
  strings_are = h.strings_are ∙ sym (ap (λ ys. ys ++ strings_of a) q.none);
  fit = omega (arith, q.one, sum_by-cons (λ t. least_bytes t.token) t a);
}

-- after a plain token, before it, and on both sides of it
behind : {t : Spanned} {a : List Spanned} {xs : List (List ℕ)} → IsPlainToken t → HaveStrings 1 a xs → HaveStrings 1 (t ∷ a) xs
behind q h = loose (paid q h)

around : {a b : List Spanned} {t : Spanned} {xs ys : List (List ℕ)} →
    HaveStrings 1 a xs → IsPlainToken t → HaveStrings 1 b ys → HaveStrings 1 (a ++ t ∷ b) (xs ++ ys)
around h q k = joined h (paid q k)

before : {a : List Spanned} {t : Spanned} {xs : List (List ℕ)} → HaveStrings 1 a xs → IsPlainToken t → HaveStrings 1 (a ++ t ∷ []) xs
before {xs} h q = equal (sym (append-nil xs)) (around h q none)

alone_in : {a : List Spanned} {xs : List (List ℕ)} → HaveStrings 1 a xs → HaveStrings 1 a (xs ++ [])
alone_in {xs} h = equal (append-nil xs) h

-- fields, forms and annotations have none
of_fields : {a : List Spanned} {ps : List Param} → AreFields a ps → HaveStrings 1 a []
of_fields (one_field t c u i j l) = behind (ident t i) (behind (sign c j) (behind (ident u l) none))
of_fields (more_fields m t c u h i j l o) = around (of_fields h) (sign m i) (behind (ident t j) (behind (sign c l) (behind (ident u o) none)))

of_any_fields : {a : List Spanned} {ps : List Param} → AreAnyFields a ps → HaveStrings 1 a []
of_any_fields no_fields = none
of_any_fields (some_fields h) = of_fields h

of_form : {a : List Spanned} {f : Form} → IsForm a f → HaveStrings 1 a []
of_form (alias t i) = behind (ident t i) none
of_form (fields l r i h j) = behind (sign l i) (before (of_any_fields h) (sign r j))
of_form (array t o u i j l) = behind (word t i) (behind (word o j) (behind (ident u l) none))

of_annotation : {a : List Spanned} {kind : Option Ident} → IsAnnotation a kind → HaveStrings 1 a []
of_annotation not_annotated = none
of_annotation (annotated c t i j) = behind (sign c i) (behind (ident t j) none)

-- Lists with one more at their end.
push : (xs zs ws : List (List ℕ)) {ys : List (List ℕ)} → ys ≡ zs ++ ws → xs ++ ys ≡ (xs ++ zs) ++ ws
push xs zs ws h = ap (λ all. xs ++ all) h ∙ sym (append_assoc xs zs ws)

more_exps : (es : Exps) (e : Exp) → exps_strings (snoc es e) ≡ exps_strings es ++ strings e
more_exps no_exps e = append-nil (strings e)
more_exps (exp f es) e = push (strings f) (exps_strings es) (strings e) (more_exps es e)

more_values : (is : Inits) (x : Ident) (e : Exp) → inits_strings (snoc_init is x e) ≡ inits_strings is ++ strings e
more_values no_inits x e = append-nil (strings e)
more_values (init y f is) x e = push (strings f) (inits_strings is) (strings e) (more_values is x e)

more_bodies : (fs : FunDecs) (f : Ident) (ps : List Param) (k : Option Ident) (e : Exp) →
    bodies_strings (snoc_function fs f ps k e) ≡ bodies_strings fs ++ strings e
more_bodies no_functions f ps k e = append-nil (strings e)
more_bodies (function g qs r body fs) f ps k e = push (strings body) (bodies_strings fs) (strings e) (more_bodies fs f ps k e)

abbrev dec_strings : Dec → List (List ℕ)
dec_strings (one_type d) = []
dec_strings (one_variable x k e) = strings e
dec_strings (one_function f ps k e) = strings e

-- one declaration alone
alone_strings : (d : Dec) → decs_strings (one_declaration d) ≡ dec_strings d
alone_strings (one_type d) = refl
alone_strings (one_variable x k e) = append-nil (strings e)
alone_strings (one_function f ps k e) = append-nil (strings e ++ []) ∙ append-nil (strings e)

-- after a group of functions alone
behind_bodies : (fs : FunDecs) (d : Dec) → decs_strings (behind_functions fs d) ≡ (bodies_strings fs ++ []) ++ dec_strings d
behind_bodies fs (one_type d) = push (bodies_strings fs) [] [] refl
behind_bodies fs (one_variable x k e) = push (bodies_strings fs) [] (strings e) (append-nil (strings e))
behind_bodies fs (one_function f ps k e) = append-nil _ ∙ (more_bodies fs f ps k e ∙ ap (λ all. all ++ strings e) (sym (append-nil (bodies_strings fs))))

more_decs : (ds : Decs) (d : Dec) → decs_strings (snoc_dec ds d) ≡ decs_strings ds ++ dec_strings d
more_decs no_decs d = alone_strings d
more_decs (types ts no_decs) (one_type d) = refl
more_decs (types ts no_decs) (one_variable x k e) = alone_strings (one_variable x k e)
more_decs (types ts no_decs) (one_function f ps k e) = alone_strings (one_function f ps k e)
more_decs (types ts (types us rest)) d = more_decs (types us rest) d
more_decs (types ts (variable x k e rest)) d = more_decs (variable x k e rest) d
more_decs (types ts (functions fs rest)) d = more_decs (functions fs rest) d
more_decs (variable x k e rest) d = push (strings e) (decs_strings rest) (dec_strings d) (more_decs rest d)
more_decs (functions fs no_decs) d = behind_bodies fs d
more_decs (functions fs (types us rest)) d = push (bodies_strings fs) (decs_strings (types us rest)) (dec_strings d) (more_decs (types us rest) d)
more_decs (functions fs (variable x k e rest)) d =
    push (bodies_strings fs) (decs_strings (variable x k e rest)) (dec_strings d) (more_decs (variable x k e rest) d)
more_decs (functions fs (functions gs rest)) d =
    push (bodies_strings fs) (decs_strings (functions gs rest)) (dec_strings d) (more_decs (functions gs rest) d)

-- a string, and the end
one_string : (t : Spanned) (bytes : List ℕ) → t.token ≡ token.Text bytes → HaveStrings 1 (t ∷ []) (bytes ∷ [])
one_string t bytes i = record {
  strings_are = sym (ap (λ one. string_of one ++ []) i);
  fit = let size : least_bytes t.token ≡ 2 + length bytes = ap least_bytes i in omega (arith, size);
}

the_end : (t : Spanned) → t.token ≡ token.End → HaveStrings 0 (t ∷ []) []
the_end t i = record { strings_are = sym (ap (λ one. string_of one ++ []) i); fit = omega arith }

mutual
  of_exp : {l : Level} {a : List Spanned} {e : Exp} → Reads l a e → HaveStrings 1 a (strings e)
  of_exp (whole_assign t p i r) = around (of_place p) (sign t i) (of_exp r)
  of_exp (whole_up r) = of_exp r
  of_exp (or_up r) = of_exp r
  of_exp (or_more t m closed o r) = around (of_exp m) (operator or_op (λ bytes. refl) refl t o) (of_exp r)
  of_exp (and_up r) = of_exp r
  of_exp (and_more t m closed o r) = around (of_exp m) (operator and_op (λ bytes. refl) refl t o) (of_exp r)
  of_exp (cmp_up r) = of_exp r
  of_exp (cmp_two t m closed o r) = around (of_exp m) (operator rel_op (λ bytes. refl) refl t o) (of_exp r)
  of_exp (sum_up r) = of_exp r
  of_exp (sum_more t m closed o r) = around (of_exp m) (operator sum_op (λ bytes. refl) refl t o) (of_exp r)
  of_exp (term_up r) = of_exp r
  of_exp (term_more t m closed o r) = around (of_exp m) (operator term_op (λ bytes. refl) refl t o) (of_exp r)
  of_exp (unary_minus t i r) = behind (sign t i) (of_exp r)
  of_exp (unary_primary r) = of_exp r
  of_exp (unary_tail r) = of_exp r
  of_exp (primary_place p) = of_place p
  of_exp (primary_nil t i) = behind (word t i) none
  of_exp (primary_int t n i) = behind (int t i) none
  of_exp (primary_text t bytes i) = one_string t bytes i
  of_exp (primary_break t i) = behind (word t i) none
  of_exp (primary_sequence l r i es j) = behind (sign l i) (before (of_any es) (sign r j))
  of_exp (primary_call t l r i j es m) = behind (ident t i) (behind (sign l j) (before (of_any es) (sign r m)))
  of_exp (primary_record t l r i j is m) = behind (ident t i) (behind (sign l j) (before (of_any_inits is) (sign r m)))
  of_exp (primary_let t i e h ds j es m) = behind (word t h) (around (loose (of_decs ds)) (word i j) (before (of_any es) (word e m)))
  of_exp (tail_then t u i c j x) = behind (word t i) (around (of_exp c) (word u j) (of_exp x))
  of_exp (tail_else t u w i c j x closed m y) =
      behind (word t i) (around (of_exp c) (word u j) (around (of_exp x) (word w m) (of_exp y)))
  of_exp (tail_while t u i c j x) = behind (word t i) (around (of_exp c) (word u j) (of_exp x))
  of_exp (tail_for t i g u w h j m low o high q x) =
      behind (word t h) (behind (ident i j) (behind (sign g m)
      (around (of_exp low) (word u o) (around (of_exp high) (word w q) (of_exp x)))))
  of_exp (tail_fill t l r o i j size m q x) =
      behind (ident t i) (behind (sign l j) (around (of_exp size) (sign r m) (behind (word o q) (of_exp x))))

  of_place : {a : List Spanned} {s : Span} {v : LValue} → IsPlace a s v → HaveStrings 1 a (place_strings v)
  of_place (place_simple t i) = behind (ident t i) none
  of_place (place_field {v} d t p i j) = equal (sym (append-nil (place_strings v))) (around (of_place p) (sign d i) (behind (ident t j) none))
  of_place (place_index l r p i e j) = around (of_place p) (sign l i) (before (of_exp e) (sign r j))

  of_many : {s : Sign} {a : List Spanned} {es : Exps} → AreMany s a es → HaveStrings 1 a (exps_strings es)
  of_many (many_one r) = alone_in (of_exp r)
  of_many (many_more {es} {e} t h i r) = equal (more_exps es e) (around (of_many h) (sign t i) (of_exp r))

  of_any : {s : Sign} {a : List Spanned} {es : Exps} → AreAny s a es → HaveStrings 1 a (exps_strings es)
  of_any any_none = none
  of_any (any_many h) = of_many h

  of_inits : {a : List Spanned} {is : Inits} → AreInits a is → HaveStrings 1 a (inits_strings is)
  of_inits (one_init t q i j r) = behind (ident t i) (behind (sign q j) (alone_in (of_exp r)))
  of_inits (more_inits {is} {e} m t q {x} h i j l r) =
      equal (more_values is x e) (around (of_inits h) (sign m i) (behind (ident t j) (behind (sign q l) (of_exp r))))

  of_any_inits : {a : List Spanned} {is : Inits} → AreAnyInits a is → HaveStrings 1 a (inits_strings is)
  of_any_inits any_no_inits = none
  of_any_inits (any_inits h) = of_inits h

  of_dec : {a : List Spanned} {d : Dec} → IsDec a d → HaveStrings 0 a (dec_strings d)
  of_dec (dec_type t i q h j l f) = paid (word t h) (behind (ident i j) (behind (sign q l) (of_form f)))
  of_dec (dec_variable t i g h j l m r) = paid (word t h) (behind (ident i j) (around (of_annotation l) (sign g m) (of_exp r)))
  of_dec (dec_function t i l r q h j m ps o p s x) =
      paid (word t h) (behind (ident i j) (behind (sign l m)
      (around (of_any_fields ps) (sign r o) (around (of_annotation p) (sign q s) (of_exp x)))))

  of_decs : {a : List Spanned} {ds : Decs} → AreDecs a ds → HaveStrings 0 a (decs_strings ds)
  of_decs decs_none = record { strings_are = refl; fit = omega arith }
  of_decs (decs_more {ds} {d} h one) = equal (more_decs ds d) (joined (of_decs h) (of_dec one))

-- a program's end is no string and takes no byte
pub program_has : {tokens : List Spanned} {body : Exp} → IsProgram tokens body → HaveStrings 1 tokens (strings body)
program_has (program {a} {e} t r i) =
    equal (sym (append-nil (strings e))) (joined (of_exp r) (the_end t i))

pub strings_are_tokens : (tokens : List Spanned) (body : Exp) → IsProgram tokens body → strings body ≡ strings_of tokens
strings_are_tokens tokens body p = (program_has p).strings_are
