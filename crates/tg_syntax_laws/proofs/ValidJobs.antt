-- Each job stays in its language.
use Rattle.std.proofs.Common.{◌≡◌, false, List, [], ◌∷◌, ◌++◌, Option, Some, None, refl, sym, ap, subst, append_assoc, append-nil}
use Rattle.tg_base.specs.declared.ids.Span.{Span}
use Rattle.tg_syntax.specs.declared.tokens.Word.TheVariants.{WBreak, WEnd, WFor, WFunction, WIf, WIn, WLet, WNil, WThen, WWhile}
use Rattle.tg_syntax.specs.declared.tokens.Sign.TheVariants.{Comma, Colon, Semicolon, LeftParen, RightParen, LeftBrace, RightBrace, Equal}
use Rattle.tg_syntax.specs.declared.tokens.Sign.TheVariants as sign
use Rattle.tg_syntax.specs.declared.tokens.Token.{Token}
use Rattle.tg_syntax.specs.declared.tokens.Token.TheVariants as token
use Rattle.tg_syntax.specs.declared.tokens.Spanned.{Spanned}
use Rattle.tg_syntax.specs.declared.tokens.Ident.{Ident}
use Rattle.tg_syntax.specs.declared.trees.Param.{Param}
use Rattle.tg_syntax.specs.declared.trees.Op.{Op}
use Rattle.tg_syntax.specs.Tree.{Alias, Fields, Exp, Int, Read, Call, Neg, Make, Fill, Assign, If, When, While, For, Let, Seq, LValue, Simple, Field}
use Rattle.tg_syntax.specs.Tree.{Index, Exps, no_exps, Inits, no_inits, init, Decs}
use Rattle.tg_syntax.specs.Spans.{span_of, joined}
use Rattle.tg_syntax.specs.Tails.{ends_tail}
use Rattle.tg_syntax.specs.Groups.{snoc, snoc_init, Dec, one_type, one_variable, one_function, snoc_dec}
use Rattle.tg_syntax.specs.Grammar.{Level, Whole, Disjunction, Conjunction, Comparison, Sum, Term, Unary, Primary, Tail, IsIdent, IsSign, IsWord}
use Rattle.tg_syntax.specs.Grammar.{AreFields, one_field, more_fields, no_fields, some_fields, IsForm, alias, fields, array, IsAnnotation}
use Rattle.tg_syntax.specs.Grammar.{not_annotated, annotated, Reads, whole_assign, whole_up, or_up, or_more, and_up, and_more, cmp_up, cmp_two}
use Rattle.tg_syntax.specs.Grammar.{sum_up, sum_more, term_up, term_more, unary_minus, unary_primary, unary_tail, primary_place, primary_nil}
use Rattle.tg_syntax.specs.Grammar.{primary_int, primary_text, primary_break, primary_sequence, primary_call, primary_record, primary_let, tail_then}
use Rattle.tg_syntax.specs.Grammar.{tail_else, tail_while, tail_for, tail_fill, IsPlace, place_simple, place_field, place_index, AreMany, many_one}
use Rattle.tg_syntax.specs.Grammar.{many_more, any_none, any_many, AreInits, one_init, more_inits, any_no_inits, any_inits, IsDec, dec_type}
use Rattle.tg_syntax.specs.Grammar.{dec_variable, dec_function, AreDecs, decs_none, decs_more, program}
use Rattle.tg_syntax_laws.specs.declared.marks.Mark.TheVariants.{OfSign, OfWord}
use Rattle.tg_syntax_laws.specs.mirror.Steps.{token_of, op_of, Job, OneSpan, OneName, At, After, Suffix, Listed, Items, OneInit, ListedInits, MoreInits}
use Rattle.tg_syntax_laws.specs.mirror.Steps.{OneParam, ListedParams, MoreParams, OneForm, Annotation, TypeDec, VarDec, FunDec, MoreDecs, Whole_program}
use Rattle.tg_syntax_laws.specs.mirror.Reading.{below, binary, atom_of, unary, level, operators, comparing, assigning, reading, naming, elsing, job}
use Rattle.tg_syntax_laws.proofs.Complete.{read_at, IsChain}
use Rattle.tg_syntax_laws.proofs.Sound.{Lang, Viable, Lang_of, Valid, IsListed, listed_is, IsInit, init_is, AreListedInits, inits_are, IsParam, param_is}
use Rattle.tg_syntax_laws.proofs.Sound.{AreListedParams, params_are, sample, some_ident, nowhere, AllValid}

-- nothing more at the end
whole_end : {A : Type 0} (L : Lang A) (u : List Spanned) (y : A) → L u y → L (u ++ []) y
whole_end L u y h = subst (λ w. L w y) (sym (append-nil u)) h

-- the sample int is an expression of each level
the_int : Spanned
the_int = record { token = token.Int 0; span = nowhere }

pub one : Reads Unary (record { token = token.Int 0; span = nowhere } ∷ []) (Int nowhere 0)
one = unary_primary (primary_int (record { token = token.Int 0; span = nowhere }) 0 refl)

pub one_at : (k : Level) → Viable (λ v y. Reads (read_at k) v y)
one_at Whole = record {
  rest = record { token = token.Int 0; span = nowhere } ∷ [];
  tree = Int nowhere 0;
  is =
      whole_up (or_up (and_up (cmp_up (sum_up (term_up one)))));
}
one_at Disjunction = record {
  rest = record { token = token.Int 0; span = nowhere } ∷ [];
  tree = Int nowhere 0;
  is =
      or_up (and_up (cmp_up (sum_up (term_up one))));
}
one_at Conjunction = record { rest = record { token = token.Int 0; span = nowhere } ∷ []; tree = Int nowhere 0; is = and_up (cmp_up (sum_up (term_up one))) }
one_at Comparison = record { rest = record { token = token.Int 0; span = nowhere } ∷ []; tree = Int nowhere 0; is = cmp_up (sum_up (term_up one)) }
one_at Sum = record { rest = record { token = token.Int 0; span = nowhere } ∷ []; tree = Int nowhere 0; is = sum_up (term_up one) }
one_at Term = record { rest = record { token = token.Int 0; span = nowhere } ∷ []; tree = Int nowhere 0; is = term_up one }
one_at _ = record { rest = record { token = token.Int 0; span = nowhere } ∷ []; tree = Int nowhere 0; is = one }

is_sample : IsIdent (sample (token.Ident (record { 0 = 0 }))) some_ident
is_sample = record { name = refl; span = refl }

-- each language has a list
pub inhabited : (i : Job) → Viable (Lang_of i)
inhabited OneSpan = record { rest = []; tree = nowhere; is = tt }
inhabited OneName = record { rest = []; tree = some_ident; is = tt }
inhabited (At k) = one_at k
inhabited (After k l) = record { rest = []; tree = l; is = λ a c h. whole_end (Reads k) a l h }
inhabited (Suffix s v) = record { rest = []; tree = (s, v); is = λ a h. whole_end (λ w y. IsPlace w s v) a v h }
inhabited (Listed m c) = record { rest = sample (token_of c) ∷ []; tree = (no_exps, nowhere); is = listed_is (sample (token_of c)) any_none refl }
inhabited (Items m es) = record { rest = []; tree = es; is = λ a h. whole_end (AreMany m) a es h }
inhabited OneInit = let w = one_at Whole in record {
  rest = sample (token.Ident (record { 0 = 0 })) ∷ sample (token.Sign Equal) ∷
      w.rest;
  tree = (some_ident, w.tree);
  is = init_is (sample (token.Ident (record { 0 = 0 }))) (sample (token.Sign Equal)) is_sample refl w.is;
}
inhabited ListedInits = record {
  rest = sample (token.Sign RightBrace) ∷ [];
  tree = (no_inits, nowhere);
  is =
      inits_are (sample (token.Sign RightBrace)) any_no_inits refl;
}
inhabited (MoreInits is) = record { rest = []; tree = is; is = λ a h. whole_end AreInits a is h }
inhabited OneParam = record {
  rest = sample (token.Ident (record { 0 = 0 })) ∷ sample (token.Sign Colon) ∷
      sample (token.Ident (record { 0 = 0 })) ∷ [];
  tree = record { name = some_ident; kind = some_ident };
  is =
      param_is (sample (token.Ident (record { 0 = 0 }))) (sample (token.Sign Colon)) (sample (token.Ident (record { 0 = 0 }))) is_sample refl is_sample;
}
inhabited (ListedParams c) = record { rest = sample (token_of c) ∷ []; tree = []; is = params_are (sample (token_of c)) no_fields refl }
inhabited (MoreParams ps) = record { rest = []; tree = ps; is = λ a h. whole_end AreFields a ps h }
inhabited OneForm = record {
  rest = sample (token.Ident (record { 0 = 0 })) ∷ [];
  tree = Alias some_ident;
  is =
      alias (sample (token.Ident (record { 0 = 0 }))) is_sample;
}
inhabited Annotation = record { rest = []; tree = None; is = not_annotated }
inhabited TypeDec =
    record {
      rest = sample (token.Ident (record { 0 = 0 })) ∷ sample (token.Sign Equal) ∷ sample (token.Ident (record { 0 = 0 })) ∷ [];
      tree = one_type (record { name = some_ident; form = Alias some_ident });
      is = λ t h. dec_type t (sample (token.Ident (record { 0 = 0 }))) (sample (token.Sign Equal)) h is_sample refl
          (alias (sample (token.Ident (record { 0 = 0 }))) is_sample);
    }
inhabited VarDec = let w = one_at Whole in
    record {
      rest = sample (token.Ident (record { 0 = 0 })) ∷ sample (token.Sign sign.Assign) ∷ w.rest;
      tree = one_variable some_ident None w.tree;
      is = λ t h. dec_variable {a = []} t (sample (token.Ident (record { 0 = 0 }))) (sample (token.Sign sign.Assign)) h is_sample not_annotated refl w.is;
    }
inhabited FunDec = let w = one_at Whole in
    record {
      rest = sample (token.Ident (record { 0 = 0 })) ∷ sample (token.Sign LeftParen) ∷ sample (token.Sign RightParen) ∷ sample (token.Sign Equal) ∷ w.rest;
      tree = one_function some_ident [] None w.tree;
      is = λ t h. dec_function {a = []} {b = []} t (sample (token.Ident (record { 0 = 0 }))) (sample (token.Sign LeftParen))
          (sample (token.Sign RightParen)) (sample (token.Sign Equal)) h is_sample refl no_fields refl not_annotated refl w.is;
    }
inhabited (MoreDecs ds) = record { rest = []; tree = ds; is = λ a h. whole_end AreDecs a ds h }
inhabited Whole_program = let w = one_at Whole in record { rest = w.rest ++ sample token.End ∷ []; tree = w.tree; is = program (sample token.End) w.is refl }

-- operators
operated : (k : Level) → IsChain k → (a b : List Spanned) (l r : Exp) (t : Spanned) (o : Op) → Reads k a l →
    ends_tail l ≡ false → op_of k t.token ≡ Some o → Reads (read_at (below k)) b r → Reads k (a ++ t ∷ b) (binary o t.span.from l r)
operated Disjunction c a b l r t o h n d g = or_more t h n d g
operated Conjunction c a b l r t o h n d g = and_more t h n d g
operated Sum c a b l r t o h n d g = sum_more t h n d g
operated Term c a b l r t o h n d g = term_more t h n d g
operated _ c a b l r t o h n d g = absurd c

-- a list in two parts, and nothing more
parted : {A : Type 0} (L : Lang A) (a b : List Spanned) (y : A) → L (a ++ b) y → L (a ++ (b ++ [])) y
parted L a b y h = whole_end (λ w z. L (a ++ w) z) b y h

v_after : (k : Level) (l : Exp) → Valid (operators k l) (λ u e. (a : List Spanned) → IsChain k → Reads k a l → Reads k (a ++ u) e)
v_after k l = (
  λ b a c h. whole_end (Reads k) a l h,
  λ n. (
    λ t o d b r g v y f a c h. parted (λ w z. Reads k (a ++ t ∷ w) z) b v y
        (subst (λ w. Reads k w y) (append_assoc a (t ∷ b) v) (f (a ++ t ∷ b) c (operated k c a b l r t o h n d g))),
    λ a c h. whole_end (Reads k) a l h,
  ),
)

place_or : {u : List Spanned} {s : Span} {v : LValue} → Reads Disjunction u (Read s v) → IsPlace u s v
place_or (or_up (and_up (cmp_up (sum_up (term_up (unary_primary (primary_place h))))))) = h
place_or (or_up (and_up (cmp_up (sum_up (term_up (unary_tail h)))))) = elim h [ ]

v_assigning : (u : List Spanned) (e : Exp) → Reads Disjunction u e → Valid (assigning e) (λ v y. Reads Whole (u ++ v) y)
v_assigning u (Read s v) h = (
  λ t q b e g. whole_end (λ w z. Reads Whole (u ++ t ∷ w) z) b (Assign (joined s (span_of e)) v e) (whole_assign t (place_or h) q g),
  whole_end (Reads Whole) u (Read s v) (whole_up h),
)
v_assigning u e h = whole_end (Reads Whole) u e (whole_up h)

v_comparing : (u : List Spanned) (l : Exp) → Reads Sum u l → Valid (comparing l) (λ v y. Reads Comparison (u ++ v) y)
v_comparing u l h = (
  λ b. whole_end (Reads Comparison) u l (cmp_up h),
  λ n. (
    λ t o d b r g. whole_end (λ w z. Reads Comparison (u ++ t ∷ w) z) b (binary o t.span.from l r) (cmp_two t h n d g),
    whole_end (Reads Comparison) u l (cmp_up h),
  ),
)

-- lists up to a mark
call_of : (t l : Spanned) (x : Ident) (w : List Spanned) (y : Exps × Span) → IsIdent t x → IsSign l LeftParen →
    IsListed Comma (OfSign RightParen) w y → Reads Unary (t ∷ l ∷ w) (Call (joined x.span y.1) x y.0)
call_of t l x w y i q (listed_is {a = a} {es = es} r h k) = subst (λ s. Reads Unary (t ∷ l ∷ (a ++ r ∷ [])) (Call (joined s r.span) x es))
    i.span (unary_primary (primary_call t l r i q h k))

make_of : (t l : Spanned) (x : Ident) (w : List Spanned) (y : Inits × Span) → IsIdent t x → IsSign l LeftBrace →
    AreListedInits w y → Reads Unary (t ∷ l ∷ w) (Make (joined x.span y.1) x y.0)
make_of t l x w y i q (inits_are {a = a} {is = is} r h k) = subst (λ s. Reads Unary (t ∷ l ∷ (a ++ r ∷ [])) (Make (joined s r.span) x is))
    i.span (unary_primary (primary_record t l r i q h k))

sequence_of : (l : Spanned) (w : List Spanned) (y : Exps × Span) → IsSign l LeftParen → IsListed Semicolon (OfSign RightParen) w y →
    Reads Unary (l ∷ w) (Seq (joined l.span y.1) y.0)
sequence_of l w y q (listed_is r h k) = unary_primary (primary_sequence l r q h k)

let_of : (t i : Spanned) (a w : List Spanned) (ds : Decs) (y : Exps × Span) → IsWord t WLet → AreDecs a ds → IsWord i WIn →
    IsListed Semicolon (OfWord WEnd) w y → Reads Unary (t ∷ (a ++ i ∷ w)) (Let (joined t.span y.1) ds y.0)
let_of t i a w ds y q h k (listed_is r d e) = unary_primary (primary_let t i r q h k d e)

v_naming : (t : Spanned) (x : Ident) → IsIdent t x → Valid (naming x) (λ v y. Reads Unary (t ∷ v) y)
v_naming t x i = (
  λ l q w y h. whole_end (λ w z. Reads Unary (t ∷ l ∷ w) z) w (Call (joined x.span y.1) x y.0) (call_of t l x w y i q h),
  (
    λ l q w y h. whole_end (λ w z. Reads Unary (t ∷ l ∷ w) z) w (Make (joined x.span y.1) x y.0) (make_of t l x w y i q h),
    (
      λ l q a e g r k. (
        λ o d b n h. whole_end (λ w z. Reads Unary (t ∷ l ∷ (a ++ r ∷ o ∷ w)) z) b (Fill (joined x.span (span_of n)) x e n)
            (subst (λ s. Reads Unary (t ∷ l ∷ (a ++ r ∷ o ∷ b)) (Fill (joined s (span_of n)) x e n)) i.span (unary_tail (tail_fill t l r o i q g k d h))),
        λ v p f. whole_end (λ w z. Reads Unary (t ∷ l ∷ (a ++ r ∷ w)) z) v (reading p)
            (unary_primary (primary_place (subst (λ w. IsPlace (t ∷ l ∷ w) p.0 p.1) (append_assoc a (r ∷ []) v)
            (f (t ∷ l ∷ (a ++ r ∷ [])) (subst (λ s. IsPlace (t ∷ l ∷ (a ++ r ∷ [])) (joined s r.span) (Index (Simple x) e))
            i.span (place_index l r (place_simple t i) q g k)))))),
      ),
      λ v p f. whole_end (λ w z. Reads Unary (t ∷ w) z) v (reading p)
          (unary_primary (primary_place (f (t ∷ []) (subst (λ s. IsPlace (t ∷ []) s (Simple x)) i.span (place_simple t i))))),
    ),
  ),
)

v_elsing : (t u : Spanned) (a b : List Spanned) (c x : Exp) → IsWord t WIf → Reads Whole a c → IsWord u WThen →
    Reads Whole b x → Valid (elsing t.span c x) (λ v y. Reads Unary (t ∷ (a ++ u ∷ (b ++ v))) y)
v_elsing t u a b c x q h k g = (
  λ s. whole_end (λ w z. Reads Unary (t ∷ (a ++ u ∷ w)) z) b (When (joined t.span (span_of x)) c x) (unary_tail (tail_then t u q h k g)),
  λ n. (
    λ w e d y f. whole_end (λ v z. Reads Unary (t ∷ (a ++ u ∷ (b ++ w ∷ v))) z) d (If (joined t.span (span_of y)) c x y)
        (unary_tail (tail_else t u w q h k g n e f)),
    whole_end (λ w z. Reads Unary (t ∷ (a ++ u ∷ w)) z) b (When (joined t.span (span_of x)) c x) (unary_tail (tail_then t u q h k g)),
  ),
)

v_unary : (w : Token) → Valid (unary w) (Reads Unary)
v_unary (token.Sign sign.Minus) = λ t q a e g. whole_end (λ w z. Reads Unary (t ∷ w) z) a (Neg (joined t.span (span_of e)) e) (unary_minus t q g)
v_unary (token.Sign LeftParen) = λ t q w y h. whole_end (λ w z. Reads Unary (t ∷ w) z) w (Seq (joined t.span y.1) y.0) (sequence_of t w y q h)
v_unary (token.Sign _) = one_at Unary
v_unary (token.Word WIf) = λ t q a c h u k b x g. v_elsing t u a b c x q h k g
v_unary (token.Word WWhile) = λ t q a c h u k b x g. whole_end (λ w z. Reads Unary (t ∷ (a ++ u ∷ w)) z) b
    (While (joined t.span (span_of x)) c x) (unary_tail (tail_while t u q h k g))
v_unary (token.Word WFor) = λ t q i v j m n a low h u k b high g w e d x f.
    whole_end (λ y z. Reads Unary (t ∷ i ∷ m ∷ (a ++ u ∷ (b ++ w ∷ y))) z) d (For (joined t.span (span_of x)) v low high x)
    (unary_tail (tail_for t i m u w q j n h k g e f))
v_unary (token.Word WLet) = λ t q a ds h i k w y g.
    whole_end (λ v z. Reads Unary (t ∷ (a ++ i ∷ v)) z) w (Let (joined t.span y.1) ds y.0) (let_of t i a w ds y q (h [] decs_none) k g)
v_unary (token.Word _) = one_at Unary
v_unary (token.Ident n) = v_naming
v_unary _ = one_at Unary

some_same : {A : Type 0} {x y : A} → Some x ≡ Some y → x ≡ y
some_same h = cc

none_some : {A C : Type 0} {x : A} → None ≡ Some x → C
none_some h = cc

v_atom : (t : Spanned) (w : Token) (x : Exp) → t.token ≡ w → atom_of w t.span ≡ Some x → Reads Unary (t ∷ []) x
v_atom t (token.Int n) x q h = subst (λ e. Reads Unary (t ∷ []) e) (some_same h) (unary_primary (primary_int t n q))
v_atom t (token.Text b) x q h = subst (λ e. Reads Unary (t ∷ []) e) (some_same h) (unary_primary (primary_text t b q))
v_atom t (token.Word WNil) x q h = subst (λ e. Reads Unary (t ∷ []) e) (some_same h) (unary_primary (primary_nil t q))
v_atom t (token.Word WBreak) x q h = subst (λ e. Reads Unary (t ∷ []) e) (some_same h) (unary_primary (primary_break t q))
v_atom t (token.Word _) x q h = none_some h
v_atom t _ x q h = none_some h

v_lowest : Valid (level Unary) (Reads Unary)
v_lowest = (λ t x h. v_atom t t.token x refl h, v_unary)

v_level : (k : Level) → Valid (level k) (λ u e. Reads (read_at k) u e)
v_level Whole = v_assigning
v_level Comparison = v_comparing
v_level Disjunction = λ u l h v y f. whole_end (λ w z. Reads Disjunction (u ++ w) z) v y (f u tt (or_up h))
v_level Conjunction = λ u l h v y f. whole_end (λ w z. Reads Conjunction (u ++ w) z) v y (f u tt (and_up h))
v_level Sum = λ u l h v y f. whole_end (λ w z. Reads Sum (u ++ w) z) v y (f u tt (sum_up h))
v_level Term = λ u l h v y f. whole_end (λ w z. Reads Term (u ++ w) z) v y (f u tt (term_up h))
v_level Unary = v_lowest
v_level Primary = v_lowest
v_level Tail = v_lowest

-- the lists
again : {A B : Type 0} (M : Lang A) (P : Lang B) (a b v : List Spanned) (x : A) (y : B) → ((c : List Spanned) → M c x → P (c ++ v) y) →
    M (a ++ b) x → P (a ++ (b ++ (v ++ []))) y
again M P a b v x y f h = parted (λ w z. P (a ++ w) z) b v y (subst (λ w. P w y) (append_assoc a b v) (f (a ++ b) h))

params_of : (l r : Spanned) (w : List Spanned) (ps : List Param) → IsSign l LeftBrace → AreListedParams (OfSign RightBrace) w ps → IsForm (l ∷ w) (Fields ps)
params_of l r w ps q (params_are u h k) = fields l u q h k

fun_of : (t i l q : Spanned) (f : Ident) (w b d : List Spanned) (ps : List Param) (k : Option Ident) (e : Exp) →
    IsWord t WFunction → IsIdent i f → IsSign l LeftParen → AreListedParams (OfSign RightParen) w ps → IsAnnotation b k →
    IsSign q Equal → Reads Whole d e → IsDec (t ∷ i ∷ l ∷ (w ++ (b ++ q ∷ d))) (one_function f ps k e)
fun_of t i l q f w b d ps k e g h m (params_are {a = a} r n o) s u v = subst (λ w. IsDec (t ∷ i ∷ l ∷ w) (one_function f ps k e))
    (sym (append_assoc a (r ∷ []) (b ++ q ∷ d))) (dec_function t i l r q g h m n o s u v)

decs_again : (ds : Decs) (d : Dec) (t : Spanned) (u v a : List Spanned) (y : Decs) → IsDec (t ∷ u) d →
    ((c : List Spanned) → AreDecs c (snoc_dec ds d) → AreDecs (c ++ v) y) → AreDecs a ds → AreDecs (a ++ (t ∷ (u ++ (v ++ [])))) y
decs_again ds d t u v a y k f h = again AreDecs AreDecs a (t ∷ u) v (snoc_dec ds d) y f (decs_more h k)

param_again : (ps : List Param) (m : Spanned) (p : Param) (w a : List Spanned) → IsSign m Comma → IsParam w p →
    AreFields a ps → AreFields (a ++ m ∷ w) (ps ++ p ∷ [])
param_again ps m p w a q (param_is t c u h d g) f = more_fields m t c u f q h d g

init_again : (is : Inits) (m : Spanned) (i : Ident × Exp) (w a : List Spanned) → IsSign m Comma → IsInit w i → AreInits a is →
    AreInits (a ++ m ∷ w) (snoc_init is i.0 i.1)
init_again is m i w a q (init_is t c h d g) f = more_inits m t c f q h d g

first_init : (i : Ident × Exp) (w : List Spanned) → IsInit w i → AreInits w (init i.0 i.1 no_inits)
first_init i w (init_is t c h d g) = one_init t c h d g

first_param : (p : Param) (w : List Spanned) → IsParam w p → AreFields w (p ∷ [])
first_param p w (param_is t c u h d g) = one_field t c u h d g

pub valid : (i : Job) → Valid (job i) (Lang_of i)
valid OneSpan = record { rest = []; tree = nowhere; is = tt }
valid OneName = record { rest = []; tree = some_ident; is = tt }
valid (At k) = v_level k
valid (After k l) = v_after k l
valid (Suffix s v) = (
  λ d q t x i w p f a h. again (λ c y. IsPlace c (joined s x.span) (Field v x)) (λ c y. IsPlace c p.0 p.1) a (d ∷ t ∷ [])
      w (tt {0}) (tt {0}) (λ c. f c) (subst (λ z. IsPlace (a ++ d ∷ t ∷ []) (joined s z) (Field v x)) i.span (place_field d t h q i)),
  (
    λ l q b e g r k w p f a h. subst (λ z. IsPlace (a ++ z) p.0 p.1) (ap (λ z. l ∷ z) (append_assoc b (r ∷ []) (w ++ [])))
        (again (λ c y. IsPlace c (joined s r.span) (Index v e)) (λ c y. IsPlace c p.0 p.1) a (l ∷ (b ++ r ∷ [])) w (tt {0})
        (tt {0}) (λ c. f c) (place_index l r h q g k)),
    λ a h. whole_end (λ w y. IsPlace w s v) a v h,
  ),
)
valid (Listed m c) = (
  λ r q. listed_is r any_none q,
  λ u e h v es g r q. subst (λ w. IsListed m c w (es, r.span)) (append_assoc u v (r ∷ [])) (listed_is r (any_many (g u (many_one h))) q),
)
valid (Items m es) = (
  λ t q b e g v y f a h. again (AreMany m) (AreMany m) a (t ∷ b) v (snoc es e) y f (many_more t h q g),
  λ a h. whole_end (AreMany m) a es h,
)
valid OneInit = λ t x i q k a e h. whole_end (λ w z. IsInit (t ∷ q ∷ w) z) a (x, e) (init_is t q i k h)
valid ListedInits = (
  λ r q. inits_are r any_no_inits q,
  λ u i h v is g r q. subst (λ w. AreListedInits w (is, r.span)) (append_assoc u v (r ∷ [])) (inits_are r (any_inits (g u (first_init i u h))) q),
)
valid (MoreInits is) = (
  λ m q w i k v y f a h. again AreInits AreInits a (m ∷ w) v (snoc_init is i.0 i.1) y f (init_again is m i w a q k h),
  λ a h. whole_end AreInits a is h,
)
valid OneParam = λ t x i c q u k j. param_is t c u i q j
valid (ListedParams c) = (
  λ r q. params_are r no_fields q,
  λ u p h v ps g r q. subst (λ w. AreListedParams c w ps) (append_assoc u v (r ∷ [])) (params_are r (some_fields (g u (first_param p u h))) q),
)
valid (MoreParams ps) = (
  λ m q w p k v y f a h. again AreFields AreFields a (m ∷ w) v (ps ++ p ∷ []) y f (param_again ps m p w a q k h),
  λ a h. whole_end AreFields a ps h,
)
valid OneForm = (
  λ l q w ps h. whole_end (λ w z. IsForm (l ∷ w) z) w (Fields ps) (params_of l l w ps q h),
  (λ t q o k u x i. array t o u q k i, λ t x i. alias t i),
)
valid Annotation = (λ c q t x i. annotated c t q i, not_annotated)
valid TypeDec = λ i x j q k w f h t d. whole_end (λ w z. IsDec (t ∷ i ∷ q ∷ w) z) w (one_type (record { name = x; form = f })) (dec_type t i q d j k h)
valid VarDec = λ i x j b k h g q w e n t d. whole_end (λ w z. IsDec (t ∷ i ∷ (b ++ g ∷ w)) z) w (one_variable x k e) (dec_variable t i g d j h q n)
valid FunDec = λ i f j l q w ps h b k g o m d e n t c. whole_end (λ z y. IsDec (t ∷ i ∷ l ∷ (w ++ (b ++ o ∷ z))) y) d
    (one_function f ps k e) (fun_of t i l o f w b d ps k e c j q h g m n)
valid (MoreDecs ds) = (
  λ t q u d k v y f a h. decs_again ds d t u v a y (k t q) f h,
  (
    λ t q u d k v y f a h. decs_again ds d t u v a y (k t q) f h,
    (
      λ t q u d k v y f a h. decs_again ds d t u v a y (k t q) f h,
      λ a h. whole_end AreDecs a ds h,
    ),
  ),
)
valid Whole_program = λ u e h t q. program t h q

pub all_valid : AllValid
all_valid = record { jobs = valid; inhabited = record { at = inhabited } }
