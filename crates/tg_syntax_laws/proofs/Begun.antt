-- What a tree's parts begin at are the first bytes of some of its tokens, in their order.
use Rattle.std.proofs.Common.{◌≡◌, ◌≢◌, ℕ, List, [], ◌∷◌, ◌++◌, Option, Some, None, refl, sym, ap, subst, arith}
use Rattle.tg_base.specs.declared.ids.Span.{Span}
use Rattle.tg_syntax.specs.declared.tokens.Sign.{Sign}
use Rattle.tg_syntax.specs.declared.tokens.Token.{Token}
use Rattle.tg_syntax.specs.declared.tokens.Token.TheVariants as token
use Rattle.tg_syntax.specs.declared.tokens.Spanned.{Spanned}
use Rattle.tg_syntax.specs.declared.tokens.Ident.{Ident}
use Rattle.tg_syntax.specs.declared.trees.Param.{Param}
use Rattle.tg_syntax.specs.declared.trees.Op.{Op}
use Rattle.tg_syntax.specs.Tree.{Form, TypeDec, Exp, LValue, Exps, no_exps, exp, Inits, no_inits, init, Decs, no_decs, types, variable, functions}
use Rattle.tg_syntax.specs.Tree.{FunDecs, no_functions, function}
use Rattle.tg_syntax.specs.Groups.{snoc, snoc_init, Dec, one_type, one_variable, one_function, snoc_function, snoc_dec}
use Rattle.tg_syntax.specs.Grammar.{Level, or_op, and_op, rel_op, sum_op, term_op, IsIdent, AreFields, one_field, more_fields, AreAnyFields}
use Rattle.tg_syntax.specs.Grammar.{no_fields, some_fields, IsForm, alias, fields, array, IsAnnotation, not_annotated, annotated, Reads, whole_assign}
use Rattle.tg_syntax.specs.Grammar.{whole_up, or_up, or_more, and_up, and_more, cmp_up, cmp_two, sum_up, sum_more, term_up, term_more, unary_minus}
use Rattle.tg_syntax.specs.Grammar.{unary_primary, unary_tail, primary_place, primary_nil, primary_int, primary_text, primary_break, primary_sequence}
use Rattle.tg_syntax.specs.Grammar.{primary_call, primary_record, primary_let, tail_then, tail_else, tail_while, tail_for, tail_fill, IsPlace}
use Rattle.tg_syntax.specs.Grammar.{place_simple, place_field, place_index, AreMany, many_one, many_more, AreAny, any_none, any_many, AreInits}
use Rattle.tg_syntax.specs.Grammar.{one_init, more_inits, AreAnyInits, any_no_inits, any_inits, IsDec, dec_type, dec_variable, dec_function, AreDecs}
use Rattle.tg_syntax.specs.Grammar.{decs_none, decs_more, IsProgram, program}
use Rattle.tg_syntax.specs.Beginnings.{param_beginnings, form_beginnings, type_beginnings, kind_beginnings, beginnings, place_beginnings}
use Rattle.tg_syntax.specs.Beginnings.{exps_beginnings, inits_beginnings, decs_beginnings, function_beginnings, BeginsInOrder}
use Rattle.tg_syntax_laws.specs.laws.Places.{StandFrom}
use Rattle.tg_syntax_laws.proofs.Orders.{Falls, falls_below, falling}

-- the second list is the first bytes of some of the tokens, which are not the end, the last first, and then the first list
data Adds : List Spanned → (before after : List ℕ) → Type 0 where
  none : {b : List ℕ} → Adds [] b b
  other : {a : List Spanned} {b c : List ℕ} (t : Spanned) → Adds a b c → Adds (t ∷ a) b c
  one : {a : List Spanned} {b c : List ℕ} (t : Spanned) → t.token ≢ token.End → Adds a (t.span.from ∷ b) c → Adds (t ∷ a) b c

both : {a z : List Spanned} {b c d : List ℕ} → Adds a b c → Adds z c d → Adds (a ++ z) b d
both none k = k
both (other t h) k = other t (both h k)
both (one t n h) k = one t n (both h k)

moved : {a : List Spanned} {b c d : List ℕ} → c ≡ d → Adds a b c → Adds a b d
moved {a} {b} e h = subst (λ z. Adds a b z) e h

ident : {a : List Spanned} {b c : List ℕ} (t : Spanned) {x : Ident} → IsIdent t x → Adds a (x.span.from ∷ b) c → Adds (t ∷ a) b c
ident {a} {b} {c} t {x} i h =
    one t (λ e. let n : t.token ≡ token.Ident x.name = i.name in cc) (subst (λ s. Adds a (s.from ∷ b) c) (sym i.span) h)

or_not_end : {o : Op} (t : Token) → or_op t ≡ Some o → t ≢ token.End
or_not_end t h e = let n : or_op t ≡ None = ap or_op e in cc

and_not_end : {o : Op} (t : Token) → and_op t ≡ Some o → t ≢ token.End
and_not_end t h e = let n : and_op t ≡ None = ap and_op e in cc

rel_not_end : {o : Op} (t : Token) → rel_op t ≡ Some o → t ≢ token.End
rel_not_end t h e = let n : rel_op t ≡ None = ap rel_op e in cc

sum_not_end : {o : Op} (t : Token) → sum_op t ≡ Some o → t ≢ token.End
sum_not_end t h e = let n : sum_op t ≡ None = ap sum_op e in cc

term_not_end : {o : Op} (t : Token) → term_op t ≡ Some o → t ≢ token.End
term_not_end t h e = let n : term_op t ≡ None = ap term_op e in cc

-- with one more at the end
more_params : (ps : List Param) (p : Param) (b : List ℕ) → param_beginnings (ps ++ p ∷ []) b ≡ p.kind.span.from ∷ p.name.span.from ∷ param_beginnings ps b
more_params [] p b = refl
more_params (q ∷ ps) p b = more_params ps p (q.kind.span.from ∷ q.name.span.from ∷ b)

more_types : (ds : List TypeDec) (d : TypeDec) (b : List ℕ) → type_beginnings (ds ++ d ∷ []) b ≡ form_beginnings d.form
    (d.name.span.from ∷ type_beginnings ds b)
more_types [] d b = refl
more_types (f ∷ ds) d b = more_types ds d (form_beginnings f.form (f.name.span.from ∷ b))

more_exps : (es : Exps) (e : Exp) (b : List ℕ) → exps_beginnings (snoc es e) b ≡ beginnings e (exps_beginnings es b)
more_exps no_exps e b = refl
more_exps (exp f es) e b = more_exps es e (beginnings f b)

more_values : (is : Inits) (x : Ident) (e : Exp) (b : List ℕ) → inits_beginnings (snoc_init is x e) b ≡ beginnings e (x.span.from ∷ inits_beginnings is b)
more_values no_inits x e b = refl
more_values (init y f is) x e b = more_values is x e (beginnings f (y.span.from ∷ b))

more_functions : (fs : FunDecs) (f : Ident) (ps : List Param) (k : Option Ident) (e : Exp) (b : List ℕ) →
    function_beginnings (snoc_function fs f ps k e) b ≡ beginnings e (kind_beginnings k (param_beginnings ps (f.span.from ∷ function_beginnings fs b)))
more_functions no_functions f ps k e b = refl
more_functions (function g qs r body fs) f ps k e b = more_functions fs f ps k e (beginnings body (kind_beginnings r (param_beginnings qs (g.span.from ∷ b))))

abbrev dec_beginnings : Dec → List ℕ → List ℕ
dec_beginnings (one_type d) b = form_beginnings d.form (d.name.span.from ∷ b)
dec_beginnings (one_variable x k e) b = beginnings e (kind_beginnings k (x.span.from ∷ b))
dec_beginnings (one_function f ps k e) b = beginnings e (kind_beginnings k (param_beginnings ps (f.span.from ∷ b)))

more_decs : (ds : Decs) (d : Dec) (b : List ℕ) → decs_beginnings (snoc_dec ds d) b ≡ dec_beginnings d (decs_beginnings ds b)
more_decs no_decs (one_type d) b = refl
more_decs no_decs (one_variable x k e) b = refl
more_decs no_decs (one_function f ps k e) b = refl
more_decs (types ts no_decs) (one_type d) b = more_types ts d b
more_decs (types ts no_decs) (one_variable x k e) b = refl
more_decs (types ts no_decs) (one_function f ps k e) b = refl
more_decs (types ts (types us rest)) d b = more_decs (types us rest) d (type_beginnings ts b)
more_decs (types ts (variable x k e rest)) d b = more_decs (variable x k e rest) d (type_beginnings ts b)
more_decs (types ts (functions fs rest)) d b = more_decs (functions fs rest) d (type_beginnings ts b)
more_decs (variable x k e rest) d b = more_decs rest d (beginnings e (kind_beginnings k (x.span.from ∷ b)))
more_decs (functions fs no_decs) (one_type d) b = refl
more_decs (functions fs no_decs) (one_variable x k e) b = refl
more_decs (functions fs no_decs) (one_function f ps k e) b = more_functions fs f ps k e b
more_decs (functions fs (types us rest)) d b = more_decs (types us rest) d (function_beginnings fs b)
more_decs (functions fs (variable x k e rest)) d b = more_decs (variable x k e rest) d (function_beginnings fs b)
more_decs (functions fs (functions gs rest)) d b = more_decs (functions gs rest) d (function_beginnings fs b)

of_fields : {a : List Spanned} {ps : List Param} → AreFields a ps → (b : List ℕ) → Adds a b (param_beginnings ps b)
of_fields (one_field t c u i j k) b = ident t i (other c (ident u k none))
of_fields (more_fields {ps} m t c u {x} {k} h i j l n) b =
    moved (sym (more_params ps (record { name = x; kind = k }) b))
    (both (of_fields h b) (other m (ident t j (other c (ident u n none)))))

of_any_fields : {a : List Spanned} {ps : List Param} → AreAnyFields a ps → (b : List ℕ) → Adds a b (param_beginnings ps b)
of_any_fields no_fields b = none
of_any_fields (some_fields h) b = of_fields h b

of_form : {a : List Spanned} {f : Form} → IsForm a f → (b : List ℕ) → Adds a b (form_beginnings f b)
of_form (alias t i) b = ident t i none
of_form (fields l r i h j) b = other l (both (of_any_fields h b) (other r none))
of_form (array t o u i j k) b = other t (other o (ident u k none))

of_annotation : {a : List Spanned} {k : Option Ident} → IsAnnotation a k → (b : List ℕ) → Adds a b (kind_beginnings k b)
of_annotation not_annotated b = none
of_annotation (annotated c t i j) b = other c (ident t j none)

mutual
  of_exp : {l : Level} {a : List Spanned} {e : Exp} → Reads l a e → (b : List ℕ) → Adds a b (beginnings e b)
  of_exp (whole_assign t p i r) b = both (of_place p b) (other t (of_exp r _))
  of_exp (whole_up r) b = of_exp r b
  of_exp (or_up r) b = of_exp r b
  of_exp (or_more t l n o r) b = both (of_exp l b) (one t (or_not_end _ o) (of_exp r _))
  of_exp (and_up r) b = of_exp r b
  of_exp (and_more t l n o r) b = both (of_exp l b) (one t (and_not_end _ o) (of_exp r _))
  of_exp (cmp_up r) b = of_exp r b
  of_exp (cmp_two t l n o r) b = both (of_exp l b) (one t (rel_not_end _ o) (of_exp r _))
  of_exp (sum_up r) b = of_exp r b
  of_exp (sum_more t l n o r) b = both (of_exp l b) (one t (sum_not_end _ o) (of_exp r _))
  of_exp (term_up r) b = of_exp r b
  of_exp (term_more t l n o r) b = both (of_exp l b) (one t (term_not_end _ o) (of_exp r _))
  of_exp (unary_minus t i r) b = other t (of_exp r b)
  of_exp (unary_primary r) b = of_exp r b
  of_exp (unary_tail r) b = of_exp r b
  of_exp (primary_place p) b = of_place p b
  of_exp (primary_nil t i) b = other t none
  of_exp (primary_int t n i) b = other t none
  of_exp (primary_text t bytes i) b = other t none
  of_exp (primary_break t i) b = other t none
  of_exp (primary_sequence l r i es j) b = other l (both (of_any es b) (other r none))
  of_exp (primary_call t l r i j es k) b = ident t i (other l (both (of_any es _) (other r none)))
  of_exp (primary_record t l r i j is k) b = ident t i (other l (both (of_any_inits is _) (other r none)))
  of_exp (primary_let t i e h ds j es k) b = other t (both (of_decs ds b) (other i (both (of_any es _) (other e none))))
  of_exp (tail_then t u i c j x) b = other t (both (of_exp c b) (other u (of_exp x _)))
  of_exp (tail_else t u w i c j x n k y) b = other t (both (of_exp c b) (other u (both (of_exp x _) (other w (of_exp y _)))))
  of_exp (tail_while t u i c j x) b = other t (both (of_exp c b) (other u (of_exp x _)))
  of_exp (tail_for t i g u w h j k l m n o x) b = other t (ident i j (other g (both (of_exp l _) (other u (both (of_exp n _) (other w (of_exp x _)))))))
  of_exp (tail_fill t l r o i j n k m x) b = ident t i (other l (both (of_exp n _) (other r (other o (of_exp x _)))))

  of_place : {a : List Spanned} {s : Span} {v : LValue} → IsPlace a s v → (b : List ℕ) → Adds a b (place_beginnings v b)
  of_place (place_simple t i) b = ident t i none
  of_place (place_field d t p i j) b = both (of_place p b) (other d (ident t j none))
  of_place (place_index l r p i e j) b = both (of_place p b) (other l (both (of_exp e _) (other r none)))

  of_many : {s : Sign} {a : List Spanned} {es : Exps} → AreMany s a es → (b : List ℕ) → Adds a b (exps_beginnings es b)
  of_many (many_one r) b = of_exp r b
  of_many (many_more {es} {e} t h i r) b = moved (sym (more_exps es e b)) (both (of_many h b) (other t (of_exp r _)))

  of_any : {s : Sign} {a : List Spanned} {es : Exps} → AreAny s a es → (b : List ℕ) → Adds a b (exps_beginnings es b)
  of_any any_none b = none
  of_any (any_many h) b = of_many h b

  of_inits : {a : List Spanned} {is : Inits} → AreInits a is → (b : List ℕ) → Adds a b (inits_beginnings is b)
  of_inits (one_init t q i j r) b = ident t i (other q (of_exp r _))
  of_inits (more_inits {is} {e} m t q {x} h i j k r) b =
      moved (sym (more_values is x e b)) (both (of_inits h b) (other m (ident t j (other q (of_exp r _)))))

  of_any_inits : {a : List Spanned} {is : Inits} → AreAnyInits a is → (b : List ℕ) → Adds a b (inits_beginnings is b)
  of_any_inits any_no_inits b = none
  of_any_inits (any_inits h) b = of_inits h b

  of_dec : {a : List Spanned} {d : Dec} → IsDec a d → (b : List ℕ) → Adds a b (dec_beginnings d b)
  of_dec (dec_type t i q h j k f) b = other t (ident i j (other q (of_form f _)))
  of_dec (dec_variable t i g h j k l r) b = other t (ident i j (both (of_annotation k _) (other g (of_exp r _))))
  of_dec (dec_function t i l r q h j k ps m n o x) b =
      other t (ident i j (other l (both (of_any_fields ps _) (other r (both (of_annotation n _) (other q (of_exp x _)))))))

  of_decs : {a : List Spanned} {ds : Decs} → AreDecs a ds → (b : List ℕ) → Adds a b (decs_beginnings ds b)
  of_decs decs_none b = none
  of_decs (decs_more {ds} {d} h one_more) b = moved (sym (more_decs ds d b)) (both (of_decs h b) (of_dec one_more _))

of_program : {a : List Spanned} {e : Exp} → IsProgram a e → (b : List ℕ) → Adds a b (beginnings e b)
of_program (program t r i) b = both (of_exp r b) (other t none)

falls : {a : List Spanned} {b c : List ℕ} → Adds a b c → (at : ℕ) → StandFrom at a → Falls at b → (end : ℕ) × Falls end c
falls none at s f = (at, f)
falls (other {b} t h) at s f = falls h t.span.to s.3 (falls_below b at t.span.to (omega (arith, s.0, s.1)) f)
falls (one {b} t n h) at s f = falls h t.span.to s.3 (s.2 n, falls_below b at t.span.from s.0 f)

pub in_order : (tokens : List Spanned) (body : Exp) → StandFrom 0 tokens → IsProgram tokens body → BeginsInOrder body
in_order tokens body s p =
    let f = falls (of_program p []) 0 s tt in
    falling (beginnings body []) f.0 f.1
