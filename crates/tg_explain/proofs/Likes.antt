-- Only the kinds of tokens matter to the grammar: a list with the same kinds as a program is one.
use Rattle.std.proofs.Common.{ℕ, ◌≡◌, List, [], ◌∷◌, ◌++◌, Bool, Option, Some, None, refl, sym, ap, subst, ◌∙◌}
use Rattle.tg_base.specs.declared.ids.Span.{Span}
use Rattle.tg_base.specs.declared.ids.Name.{Name}
use Rattle.tg_syntax.specs.declared.tokens.Token.{Token}
use Rattle.tg_syntax.specs.declared.tokens.Token.TheVariants as token
use Rattle.tg_syntax.specs.declared.tokens.Spanned.{Spanned}
use Rattle.tg_syntax.specs.declared.tokens.Word.{Word}
use Rattle.tg_syntax.specs.declared.tokens.Sign.{Sign}
use Rattle.tg_syntax.specs.declared.tokens.Ident.{Ident}
use Rattle.tg_syntax.specs.declared.trees.Param.{Param}
use Rattle.tg_syntax.specs.declared.trees.Op.{Op}
use Rattle.tg_syntax.specs.Tree.{Form, Exp, LValue, Exps, Inits, Decs}
use Rattle.tg_syntax.specs.Tails.{ends_tail, is_short}
use Rattle.tg_syntax.specs.Groups.{Dec}
use Rattle.tg_syntax.specs.Grammar.{Level, or_op, and_op, rel_op, sum_op, term_op, IsIdent, AreFields, one_field, more_fields, AreAnyFields}
use Rattle.tg_syntax.specs.Grammar.{no_fields, some_fields, IsForm, alias, fields, array, IsAnnotation, not_annotated, annotated, Reads, whole_assign}
use Rattle.tg_syntax.specs.Grammar.{whole_up, or_up, or_more, and_up, and_more, cmp_up, cmp_two, sum_up, sum_more, term_up, term_more, unary_minus}
use Rattle.tg_syntax.specs.Grammar.{unary_primary, unary_tail, primary_place, primary_nil, primary_int, primary_text, primary_break, primary_sequence}
use Rattle.tg_syntax.specs.Grammar.{primary_call, primary_record, primary_let, tail_then, tail_else, tail_while, tail_for, tail_fill, IsPlace}
use Rattle.tg_syntax.specs.Grammar.{place_simple, place_field, place_index, AreMany, many_one, many_more, AreAny, any_none, any_many, AreInits}
use Rattle.tg_syntax.specs.Grammar.{one_init, more_inits, AreAnyInits, any_no_inits, any_inits, IsDec, dec_type, dec_variable, dec_function, AreDecs}
use Rattle.tg_syntax.specs.Grammar.{decs_none, decs_more, IsProgram, program}
use Rattle.tg_syntax.specs.SyntaxFaults.{BeginsProgram}
use Rattle.tg_explain.specs.declared.kinds.TokenKind.TheVariants as kind
use Rattle.tg_explain.specs.Kinds.{kind_of}

-- tokens of the same kinds, one for one
data AreLike : List Spanned → List Spanned → Type 0 where
  none : AreLike [] []
  more : {t u : Spanned} {a b : List Spanned} → kind_of t.token ≡ kind_of u.token → AreLike a b → AreLike (t ∷ a) (u ∷ b)

themselves : (a : List Spanned) → AreLike a a
themselves [] = none
themselves (t ∷ a) = more refl (themselves a)

joined_likes : {a b c d : List Spanned} → AreLike a b → AreLike c d → AreLike (a ++ c) (b ++ d)
joined_likes none k = k
joined_likes (more q h) k = more q (joined_likes h k)

-- what is like a list in parts has such parts
record Cut (a b v : List Spanned) : Type 0 where
  front : List Spanned
  back : List Spanned
  whole : v ≡ front ++ back
  before : AreLike a front
  behind : AreLike b back

cut : (a b : List Spanned) {v : List Spanned} → AreLike (a ++ b) v → Cut a b v
cut [] b {v} h = record { front = []; back = v; whole = refl; before = none; behind = h }
cut (t ∷ a) b (more {u = u} q h) =
    let c = cut a b h in
    record { front = u ∷ c.front; back = c.back; whole = ap (λ w. u ∷ w) c.whole; before = more q c.before; behind = c.behind }

record First (t : Spanned) (a v : List Spanned) : Type 0 where
  one : Spanned
  rest : List Spanned
  whole : v ≡ one ∷ rest
  same : kind_of t.token ≡ kind_of one.token
  behind : AreLike a rest

first : {t : Spanned} {a v : List Spanned} → AreLike (t ∷ a) v → First t a v
first (more {u = u} {b = b} q h) = record { one = u; rest = b; whole = refl; same = q; behind = h }

record Last (t : Spanned) (v : List Spanned) : Type 0 where
  one : Spanned
  whole : v ≡ one ∷ []
  same : kind_of t.token ≡ kind_of one.token

last : {t : Spanned} {v : List Spanned} → AreLike (t ∷ []) v → Last t v
last (more {u = u} q none) = record { one = u; whole = refl; same = q }

-- tokens of a kind
of_sign : (u : Token) {s : Sign} → kind.Sign s ≡ kind_of u → u ≡ token.Sign s
of_sign (token.Sign x) q = cc
of_sign (token.Word x) q = cc
of_sign (token.Ident x) q = cc
of_sign (token.Int x) q = cc
of_sign (token.Text x) q = cc
of_sign token.End q = cc

of_word : (u : Token) {w : Word} → kind.Word w ≡ kind_of u → u ≡ token.Word w
of_word (token.Sign x) q = cc
of_word (token.Word x) q = cc
of_word (token.Ident x) q = cc
of_word (token.Int x) q = cc
of_word (token.Text x) q = cc
of_word token.End q = cc

of_end : (u : Token) → kind.End ≡ kind_of u → u ≡ token.End
of_end (token.Sign x) q = cc
of_end (token.Word x) q = cc
of_end (token.Ident x) q = cc
of_end (token.Int x) q = cc
of_end (token.Text x) q = cc
of_end token.End q = refl

of_ident : (u : Token) → kind.Ident ≡ kind_of u → (n : Name) × (u ≡ token.Ident n)
of_ident (token.Sign x) q = cc
of_ident (token.Word x) q = cc
of_ident (token.Ident x) q = (x, refl)
of_ident (token.Int x) q = cc
of_ident (token.Text x) q = cc
of_ident token.End q = cc

of_int : (u : Token) → kind.Int ≡ kind_of u → (n : ℕ) × (u ≡ token.Int n)
of_int (token.Sign x) q = cc
of_int (token.Word x) q = cc
of_int (token.Ident x) q = cc
of_int (token.Int x) q = (x, refl)
of_int (token.Text x) q = cc
of_int token.End q = cc

of_text : (u : Token) → kind.Text ≡ kind_of u → (n : List ℕ) × (u ≡ token.Text n)
of_text (token.Sign x) q = cc
of_text (token.Word x) q = cc
of_text (token.Ident x) q = cc
of_text (token.Int x) q = cc
of_text (token.Text x) q = (x, refl)
of_text token.End q = cc

sign : {t : Token} (u : Token) {s : Sign} → t ≡ token.Sign s → kind_of t ≡ kind_of u → u ≡ token.Sign s
sign u p q = of_sign u (sym (ap kind_of p) ∙ q)

word : {t : Token} (u : Token) {w : Word} → t ≡ token.Word w → kind_of t ≡ kind_of u → u ≡ token.Word w
word u p q = of_word u (sym (ap kind_of p) ∙ q)

int : {t : Token} (u : Token) {n : ℕ} → t ≡ token.Int n → kind_of t ≡ kind_of u → (m : ℕ) × (u ≡ token.Int m)
int u p q = of_int u (sym (ap kind_of p) ∙ q)

text : {t : Token} (u : Token) {n : List ℕ} → t ≡ token.Text n → kind_of t ≡ kind_of u → (m : List ℕ) × (u ≡ token.Text m)
text u p q = of_text u (sym (ap kind_of p) ∙ q)

ident : {t : Spanned} (u : Spanned) {x : Ident} → IsIdent t x → kind_of t.token ≡ kind_of u.token → (y : Ident) × IsIdent u y
ident u h q =
    let found = of_ident u.token (sym (ap kind_of h.name) ∙ q) in
    (record { name = found.0; span = u.span }, record { name = found.1; span = refl })

none_some : {A C : Type 0} {x : A} → None ≡ Some x → C
none_some h = cc

-- an operator is one by its sign
operator : (f : Token → Option Op) → ((w : Word) → f (token.Word w) ≡ None) → ((n : Name) → f (token.Ident n) ≡ None) →
    ((n : ℕ) → f (token.Int n) ≡ None) → ((b : List ℕ) → f (token.Text b) ≡ None) → f token.End ≡ None →
    (t u : Token) {o : Op} → f t ≡ Some o → kind_of t ≡ kind_of u → f u ≡ Some o
operator f w i n x e (token.Sign s) u h q = ap f (of_sign u q) ∙ h
operator f w i n x e (token.Word y) u h q = none_some (sym (w y) ∙ h)
operator f w i n x e (token.Ident y) u h q = none_some (sym (i y) ∙ h)
operator f w i n x e (token.Int y) u h q = none_some (sym (n y) ∙ h)
operator f w i n x e (token.Text y) u h q = none_some (sym (x y) ∙ h)
operator f w i n x e token.End u h q = none_some (sym e ∙ h)

or_sign : (t u : Token) {o : Op} → or_op t ≡ Some o → kind_of t ≡ kind_of u → or_op u ≡ Some o
or_sign t u h q = operator or_op (λ w. refl) (λ n. refl) (λ n. refl) (λ b. refl) refl t u h q

and_sign : (t u : Token) {o : Op} → and_op t ≡ Some o → kind_of t ≡ kind_of u → and_op u ≡ Some o
and_sign t u h q = operator and_op (λ w. refl) (λ n. refl) (λ n. refl) (λ b. refl) refl t u h q

rel_sign : (t u : Token) {o : Op} → rel_op t ≡ Some o → kind_of t ≡ kind_of u → rel_op u ≡ Some o
rel_sign t u h q = operator rel_op (λ w. refl) (λ n. refl) (λ n. refl) (λ b. refl) refl t u h q

sum_sign : (t u : Token) {o : Op} → sum_op t ≡ Some o → kind_of t ≡ kind_of u → sum_op u ≡ Some o
sum_sign t u h q = operator sum_op (λ w. refl) (λ n. refl) (λ n. refl) (λ b. refl) refl t u h q

term_sign : (t u : Token) {o : Op} → term_op t ≡ Some o → kind_of t ≡ kind_of u → term_op u ≡ Some o
term_sign t u h q = operator term_op (λ w. refl) (λ n. refl) (λ n. refl) (λ b. refl) refl t u h q

-- some expression of a level is read of a list, and ends as another one does
record ReadsLike (k : Level) (v : List Spanned) (tail short : Bool) : Type 0 where
  tree : Exp
  reads : Reads k v tree
  tail_is : ends_tail tree ≡ tail
  short_is : is_short tree ≡ short

made : {k : Level} {u v : List Spanned} {e : Exp} {tail short : Bool} → Reads k u e → ends_tail e ≡ tail → is_short e ≡ short → u ≡ v →
    ReadsLike k v tail short
made {k} {e = e} r t s q = record { tree = e; reads = subst (λ w. Reads k w e) q r; tail_is = t; short_is = s }

record PlaceLike (v : List Spanned) : Type 0 where
  span : Span
  value : LValue
  is : IsPlace v span value

placed : {u v : List Spanned} {s : Span} {l : LValue} → IsPlace u s l → u ≡ v → PlaceLike v
placed {s = s} {l = l} h q = record { span = s; value = l; is = subst (λ w. IsPlace w s l) q h }

-- some tree of a kind has this list
record Some_of {A : Type 0} (Is : List Spanned → A → Type 0) (v : List Spanned) : Type 0 where
  tree : A
  is : Is v tree

given : {A : Type 0} (Is : List Spanned → A → Type 0) {u v : List Spanned} {x : A} → Is u x → u ≡ v → Some_of Is v
given Is {x = x} h q = record { tree = x; is = subst (λ w. Is w x) q h }

like_fields : {u v : List Spanned} {ps : List Param} → AreFields u ps → AreLike u v → Some_of AreFields v
like_fields (one_field t c u i s j) h =
    let x = first h in
    let y = first x.behind in
    let z = last y.behind in
    given AreFields (one_field x.one y.one z.one (ident x.one i x.same).1 (sign y.one.token s y.same) (ident z.one j z.same).1) (cc)
like_fields (more_fields {a = a} m t c u f sm i s j) h =
    let d = cut a (m ∷ t ∷ c ∷ u ∷ []) h in
    let w = first d.behind in
    let x = first w.behind in
    let y = first x.behind in
    let z = last y.behind in
    given AreFields
    (more_fields w.one x.one y.one z.one (like_fields f d.before).is (sign w.one.token sm w.same) (ident x.one i x.same).1 (sign y.one.token s y.same)
    (ident z.one j z.same).1) (cc)

like_any_fields : {u v : List Spanned} {ps : List Param} → AreAnyFields u ps → AreLike u v → Some_of AreAnyFields v
like_any_fields no_fields none = given AreAnyFields no_fields refl
like_any_fields (some_fields f) h = given AreAnyFields (some_fields (like_fields f h).is) refl

like_form : {u v : List Spanned} {f : Form} → IsForm u f → AreLike u v → Some_of IsForm v
like_form (alias t i) h =
    let x = last h in
    given IsForm (alias x.one (ident x.one i x.same).1) (cc)
like_form (fields {a = a} l r sl f sr) h =
    let x = first h in
    let d = cut a (r ∷ []) x.behind in
    let y = last d.behind in
    given IsForm (fields x.one y.one (sign x.one.token sl x.same) (like_any_fields f d.before).is (sign y.one.token sr y.same)) (cc)
like_form (array t o u wa wo i) h =
    let x = first h in
    let y = first x.behind in
    let z = last y.behind in
    given IsForm (array x.one y.one z.one (word x.one.token wa x.same) (word y.one.token wo y.same) (ident z.one i z.same).1) (cc)

like_annotation : {u v : List Spanned} {k : Option Ident} → IsAnnotation u k → AreLike u v → Some_of IsAnnotation v
like_annotation not_annotated none = given IsAnnotation not_annotated refl
like_annotation (annotated c t s i) h =
    let x = first h in
    let y = last x.behind in
    given IsAnnotation (annotated x.one y.one (sign x.one.token s x.same) (ident y.one i y.same).1) (cc)

mutual
  like : {k : Level} {u v : List Spanned} {e : Exp} → Reads k u e → AreLike u v → ReadsLike k v (ends_tail e) (is_short e)
  like (whole_assign {a = a} {b = b} t p s r) h =
      let d = cut a (t ∷ b) h in
      let x = first d.behind in
      let m = like r x.behind in
      made (whole_assign x.one (like_place p d.before).is (sign x.one.token s x.same) m.reads) m.tail_is m.short_is (cc)
  like (whole_up r) h = let m = like r h in made (whole_up m.reads) m.tail_is m.short_is refl
  like (or_up r) h = let m = like r h in made (or_up m.reads) m.tail_is m.short_is refl
  like (or_more {a = a} {b = b} t l n o r) h =
      let d = cut a (t ∷ b) h in
      let x = first d.behind in
      let p = like l d.before in
      let m = like r x.behind in
      made (or_more x.one p.reads (p.tail_is ∙ n) (or_sign t.token x.one.token o x.same) m.reads) m.tail_is m.short_is (cc)
  like (and_up r) h = let m = like r h in made (and_up m.reads) m.tail_is m.short_is refl
  like (and_more {a = a} {b = b} t l n o r) h =
      let d = cut a (t ∷ b) h in
      let x = first d.behind in
      let p = like l d.before in
      let m = like r x.behind in
      made (and_more x.one p.reads (p.tail_is ∙ n) (and_sign t.token x.one.token o x.same) m.reads) m.tail_is m.short_is (cc)
  like (cmp_up r) h = let m = like r h in made (cmp_up m.reads) m.tail_is m.short_is refl
  like (cmp_two {a = a} {b = b} t l n o r) h =
      let d = cut a (t ∷ b) h in
      let x = first d.behind in
      let p = like l d.before in
      let m = like r x.behind in
      made (cmp_two x.one p.reads (p.tail_is ∙ n) (rel_sign t.token x.one.token o x.same) m.reads) m.tail_is m.short_is (cc)
  like (sum_up r) h = let m = like r h in made (sum_up m.reads) m.tail_is m.short_is refl
  like (sum_more {a = a} {b = b} t l n o r) h =
      let d = cut a (t ∷ b) h in
      let x = first d.behind in
      let p = like l d.before in
      let m = like r x.behind in
      made (sum_more x.one p.reads (p.tail_is ∙ n) (sum_sign t.token x.one.token o x.same) m.reads) m.tail_is m.short_is (cc)
  like (term_up r) h = let m = like r h in made (term_up m.reads) m.tail_is m.short_is refl
  like (term_more {a = a} {b = b} t l n o r) h =
      let d = cut a (t ∷ b) h in
      let x = first d.behind in
      let p = like l d.before in
      let m = like r x.behind in
      made (term_more x.one p.reads (p.tail_is ∙ n) (term_sign t.token x.one.token o x.same) m.reads) m.tail_is m.short_is (cc)
  like (unary_minus t s r) h =
      let x = first h in
      let m = like r x.behind in
      made (unary_minus x.one (sign x.one.token s x.same) m.reads) m.tail_is m.short_is (cc)
  like (unary_primary r) h = let m = like r h in made (unary_primary m.reads) m.tail_is m.short_is refl
  like (unary_tail r) h = let m = like r h in made (unary_tail m.reads) m.tail_is m.short_is refl
  like (primary_place p) h = made (primary_place (like_place p h).is) refl refl refl
  like (primary_nil t w) h =
      let x = last h in
      made (primary_nil x.one (word x.one.token w x.same)) refl refl (cc)
  like (primary_int t n i) h =
      let x = last h in
      let m = int x.one.token i x.same in
      made (primary_int x.one m.0 m.1) refl refl (cc)
  like (primary_text t n i) h =
      let x = last h in
      let m = text x.one.token i x.same in
      made (primary_text x.one m.0 m.1) refl refl (cc)
  like (primary_break t w) h =
      let x = last h in
      made (primary_break x.one (word x.one.token w x.same)) refl refl (cc)
  like (primary_sequence {a = a} l r s es q) h =
      let x = first h in
      let d = cut a (r ∷ []) x.behind in
      let y = last d.behind in
      made (primary_sequence x.one y.one (sign x.one.token s x.same) (like_any es d.before).is (sign y.one.token q y.same)) refl refl (cc)
  like (primary_call {a = a} t l r i s es q) h =
      let w = first h in
      let x = first w.behind in
      let d = cut a (r ∷ []) x.behind in
      let y = last d.behind in
      made
      (primary_call w.one x.one y.one (ident w.one i w.same).1 (sign x.one.token s x.same) (like_any es d.before).is (sign y.one.token q y.same))
      refl refl (cc)
  like (primary_record {a = a} t l r i s es q) h =
      let w = first h in
      let x = first w.behind in
      let d = cut a (r ∷ []) x.behind in
      let y = last d.behind in
      made
      (primary_record w.one x.one y.one (ident w.one i w.same).1 (sign x.one.token s x.same) (like_any_inits es d.before).is
      (sign y.one.token q y.same)) refl refl (cc)
  like (primary_let {a = a} {b = b} t i e wl ds wi es we) h =
      let x = first h in
      let c = cut a (i ∷ (b ++ e ∷ [])) x.behind in
      let y = first c.behind in
      let d = cut b (e ∷ []) y.behind in
      let z = last d.behind in
      made
      (primary_let x.one y.one z.one (word x.one.token wl x.same) (like_decs ds c.before).is (word y.one.token wi y.same)
      (like_any es d.before).is (word z.one.token we z.same)) refl refl (cc)
  like (tail_then {a = a} {b = b} t u wi r wt s) h =
      let x = first h in
      let d = cut a (u ∷ b) x.behind in
      let y = first d.behind in
      made
      (tail_then x.one y.one (word x.one.token wi x.same) (like r d.before).reads (word y.one.token wt y.same) (like s y.behind).reads)
      refl refl (cc)
  like (tail_else {a = a} {b = b} {d = g} t u w wi r wt s n we q) h =
      let x = first h in
      let c = cut a (u ∷ (b ++ w ∷ g)) x.behind in
      let y = first c.behind in
      let d = cut b (w ∷ g) y.behind in
      let z = first d.behind in
      let l = like s d.before in
      let m = like q z.behind in
      made
      (tail_else x.one y.one z.one (word x.one.token wi x.same) (like r c.before).reads (word y.one.token wt y.same) l.reads (l.short_is ∙ n)
      (word z.one.token we z.same) m.reads) refl m.short_is (cc)
  like (tail_while {a = a} {b = b} t u ww r wd s) h =
      let x = first h in
      let d = cut a (u ∷ b) x.behind in
      let y = first d.behind in
      let m = like s y.behind in
      made
      (tail_while x.one y.one (word x.one.token ww x.same) (like r d.before).reads (word y.one.token wd y.same) m.reads) refl m.short_is (cc)
  like (tail_for {a = a} {b = b} {d = g} t i q u w wf j s r wt p wd l) h =
      let x = first h in
      let x2 = first x.behind in
      let x3 = first x2.behind in
      let c = cut a (u ∷ (b ++ w ∷ g)) x3.behind in
      let y = first c.behind in
      let d = cut b (w ∷ g) y.behind in
      let z = first d.behind in
      let m = like l z.behind in
      made
      (tail_for x.one x2.one x3.one y.one z.one (word x.one.token wf x.same) (ident x2.one j x2.same).1 (sign x3.one.token s x3.same)
      (like r c.before).reads (word y.one.token wt y.same) (like p d.before).reads (word z.one.token wd z.same) m.reads) refl m.short_is (cc)
  like (tail_fill {a = a} {b = b} t l r o i s n q wo e) h =
      let w = first h in
      let x = first w.behind in
      let d = cut a (r ∷ o ∷ b) x.behind in
      let y = first d.behind in
      let z = first y.behind in
      let m = like e z.behind in
      made
      (tail_fill w.one x.one y.one z.one (ident w.one i w.same).1 (sign x.one.token s x.same) (like n d.before).reads (sign y.one.token q y.same)
      (word z.one.token wo z.same) m.reads) refl m.short_is (cc)

  like_place : {u v : List Spanned} {s : Span} {l : LValue} → IsPlace u s l → AreLike u v → PlaceLike v
  like_place (place_simple t i) h =
      let x = last h in
      placed (place_simple x.one (ident x.one i x.same).1) (cc)
  like_place (place_field {a = a} d t p s i) h =
      let c = cut a (d ∷ t ∷ []) h in
      let x = first c.behind in
      let y = last x.behind in
      placed (place_field x.one y.one (like_place p c.before).is (sign x.one.token s x.same) (ident y.one i y.same).1) (cc)
  like_place (place_index {a = a} {b = b} l r p s e q) h =
      let c = cut a (l ∷ (b ++ r ∷ [])) h in
      let x = first c.behind in
      let d = cut b (r ∷ []) x.behind in
      let y = last d.behind in
      placed
      (place_index x.one y.one (like_place p c.before).is (sign x.one.token s x.same) (like e d.before).reads (sign y.one.token q y.same)) (cc)

  like_many : {s : Sign} {u v : List Spanned} {es : Exps} → AreMany s u es → AreLike u v → Some_of (AreMany s) v
  like_many {s} (many_one r) h = given (AreMany s) (many_one (like r h).reads) refl
  like_many {s} (many_more {a = a} {b = b} t es q r) h =
      let d = cut a (t ∷ b) h in
      let x = first d.behind in
      given (AreMany s) (many_more x.one (like_many es d.before).is (sign x.one.token q x.same) (like r x.behind).reads) (cc)

  like_any : {s : Sign} {u v : List Spanned} {es : Exps} → AreAny s u es → AreLike u v → Some_of (AreAny s) v
  like_any {s} any_none none = given (AreAny s) any_none refl
  like_any {s} (any_many es) h = given (AreAny s) (any_many (like_many es h).is) refl

  like_inits : {u v : List Spanned} {is : Inits} → AreInits u is → AreLike u v → Some_of AreInits v
  like_inits (one_init t q i s r) h =
      let x = first h in
      let y = first x.behind in
      given AreInits (one_init x.one y.one (ident x.one i x.same).1 (sign y.one.token s y.same) (like r y.behind).reads) (cc)
  like_inits (more_inits {a = a} {b = b} m t q is p i s r) h =
      let d = cut a (m ∷ t ∷ q ∷ b) h in
      let w = first d.behind in
      let x = first w.behind in
      let y = first x.behind in
      given AreInits
      (more_inits w.one x.one y.one (like_inits is d.before).is (sign w.one.token p w.same) (ident x.one i x.same).1 (sign y.one.token s y.same)
      (like r y.behind).reads) (cc)

  like_any_inits : {u v : List Spanned} {is : Inits} → AreAnyInits u is → AreLike u v → Some_of AreAnyInits v
  like_any_inits any_no_inits none = given AreAnyInits any_no_inits refl
  like_any_inits (any_inits is) h = given AreAnyInits (any_inits (like_inits is h).is) refl

  like_dec : {u v : List Spanned} {d : Dec} → IsDec u d → AreLike u v → Some_of IsDec v
  like_dec (dec_type t i q wt j s f) h =
      let x = first h in
      let y = first x.behind in
      let z = first y.behind in
      given IsDec
      (dec_type x.one y.one z.one (word x.one.token wt x.same) (ident y.one j y.same).1 (sign z.one.token s z.same) (like_form f z.behind).is) (cc)
  like_dec (dec_variable {a = a} {b = b} t i g wv j n s r) h =
      let x = first h in
      let y = first x.behind in
      let d = cut a (g ∷ b) y.behind in
      let z = first d.behind in
      given IsDec
      (dec_variable x.one y.one z.one (word x.one.token wv x.same) (ident y.one j y.same).1 (like_annotation n d.before).is
      (sign z.one.token s z.same) (like r z.behind).reads) (cc)
  like_dec (dec_function {a = a} {b = b} {d = g} t i l r q wf j s f p n o e) h =
      let w = first h in
      let x = first w.behind in
      let x2 = first x.behind in
      let c = cut a (r ∷ (b ++ q ∷ g)) x2.behind in
      let y = first c.behind in
      let d = cut b (q ∷ g) y.behind in
      let z = first d.behind in
      given IsDec
      (dec_function w.one x.one x2.one y.one z.one (word w.one.token wf w.same) (ident x.one j x.same).1 (sign x2.one.token s x2.same)
      (like_any_fields f c.before).is (sign y.one.token p y.same) (like_annotation n d.before).is (sign z.one.token o z.same)
      (like e z.behind).reads) (cc)

  like_decs : {u v : List Spanned} {ds : Decs} → AreDecs u ds → AreLike u v → Some_of AreDecs v
  like_decs decs_none none = given AreDecs decs_none refl
  like_decs (decs_more {a = a} {b = b} ds d) h =
      let c = cut a b h in
      given AreDecs (decs_more (like_decs ds c.before).is (like_dec d c.behind).is) (cc)

like_program : {u v : List Spanned} {e : Exp} → IsProgram u e → AreLike u v → Some_of IsProgram v
like_program (program {a = a} t r q) h =
    let d = cut a (t ∷ []) h in
    let x = last d.behind in
    given IsProgram (program x.one (like r d.before).reads (of_end x.one.token (sym (ap kind_of q) ∙ x.same))) (cc)

-- whichever token of a kind stands last, some program begins so
pub begins_like : (before : List Spanned) (one other : Spanned) → kind_of one.token ≡ kind_of other.token → BeginsProgram (before ++ one ∷ []) →
    BeginsProgram (before ++ other ∷ [])
begins_like before one other q b =
    let m = like_program b.is (joined_likes (joined_likes (themselves before) (more q none)) (themselves b.rest)) in
    record { rest = b.rest; tree = m.tree; is = m.is }
