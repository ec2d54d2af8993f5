-- What each token of a program gives holds throughout its tree: of the identifiers that tokens are, and of the bytes at which
-- tokens begin. One induction over the grammar, for any such facts.
use Rattle.std.proofs.Common.{ℕ, List, [], ◌∷◌, ◌++◌, Option}
use Rattle.tg_base.specs.declared.ids.Span.{Span}
use Rattle.tg_syntax.specs.declared.tokens.Sign.{Sign}
use Rattle.tg_syntax.specs.declared.tokens.Spanned.{Spanned}
use Rattle.tg_syntax.specs.declared.tokens.Ident.{Ident}
use Rattle.tg_syntax.specs.declared.trees.Param.{Param}
use Rattle.tg_syntax.specs.Spans.{span_of}
use Rattle.tg_syntax.specs.Tree.{Form, TypeDec, Exp, Nil, Break, Int, Text, Read, Call, Neg, Binary, Make, Fill, Assign, If, When, While, For, Let}
use Rattle.tg_syntax.specs.Tree.{Seq, LValue, Exps, no_exps, exp, Inits, no_inits, init, Decs, no_decs, types, variable, functions, FunDecs}
use Rattle.tg_syntax.specs.Tree.{no_functions, function}
use Rattle.tg_syntax.specs.Groups.{snoc, snoc_init, Dec, one_type, one_variable, one_function, snoc_function, snoc_dec}
use Rattle.tg_syntax.specs.Grammar.{Level, IsIdent, AreFields, one_field, more_fields, AreAnyFields, no_fields, some_fields, IsForm, alias, fields}
use Rattle.tg_syntax.specs.Grammar.{array, IsAnnotation, not_annotated, annotated, Reads, whole_assign, whole_up, or_up, or_more, and_up, and_more}
use Rattle.tg_syntax.specs.Grammar.{cmp_up, cmp_two, sum_up, sum_more, term_up, term_more, unary_minus, unary_primary, unary_tail, primary_place}
use Rattle.tg_syntax.specs.Grammar.{primary_nil, primary_int, primary_text, primary_break, primary_sequence, primary_call, primary_record}
use Rattle.tg_syntax.specs.Grammar.{primary_let, tail_then, tail_else, tail_while, tail_for, tail_fill, IsPlace, place_simple, place_field}
use Rattle.tg_syntax.specs.Grammar.{place_index, AreMany, many_one, many_more, AreAny, any_none, any_many, AreInits, one_init, more_inits}
use Rattle.tg_syntax.specs.Grammar.{AreAnyInits, any_no_inits, any_inits, IsDec, dec_type, dec_variable, dec_function, AreDecs, decs_none, decs_more}
use Rattle.tg_syntax.specs.Grammar.{IsProgram, program}
use Rattle.tg_syntax.specs.Throughout.{ThroughParams, ThroughForm, ThroughTypes, ThroughKind, Throughout, ThroughPlace, ThroughExps, ThroughInits}
use Rattle.tg_syntax.specs.Throughout.{ThroughDecs, ThroughFunctions}

module _ (OfIdent : Ident → Type 0) (OfByte : (at : ℕ) → Type 0) where
  -- what a token gives: a fact of the identifier that it is, if it is one, and one of the byte at which it begins
  abbrev pub Gives : Spanned → Type 0
  Gives t = ((x : Ident) → IsIdent t x → OfIdent x) × OfByte t.span.from

  abbrev pub AllGive : List Spanned → Type 0
  AllGive [] = Unit {0}
  AllGive (t ∷ tokens) = Gives t × AllGive tokens

  -- where an expression begins
  pub at_start : (e : Exp) → Throughout OfIdent OfByte e → OfByte (span_of e).from
  at_start (Nil s) h = h
  at_start (Break s) h = h
  at_start (Int s _) h = h
  at_start (Text s _) h = h
  at_start (Read s _) h = h.0
  at_start (Call s _ _) h = h.0
  at_start (Neg s _) h = h.0
  at_start (Binary s _ _ _ _) h = h.0
  at_start (Make s _ _) h = h.0
  at_start (Fill s _ _ _) h = h.0
  at_start (Assign s _ _) h = h.0
  at_start (If s _ _ _) h = h.0
  at_start (When s _ _) h = h.0
  at_start (While s _ _) h = h.0
  at_start (For s _ _ _ _) h = h.0
  at_start (Let s _ _) h = h.0
  at_start (Seq s _) h = h.0

  -- with one more at the end
  more_params : (ps : List Param) (p : Param) → ThroughParams OfIdent OfByte ps → OfIdent p.name → OfIdent p.kind → ThroughParams OfIdent OfByte (ps ++ p ∷ [])
  more_params [] p h i j = (i, j, tt)
  more_params (q ∷ ps) p h i j = (h.0, h.1, more_params ps p h.2 i j)

  more_types : (ds : List TypeDec) (d : TypeDec) → ThroughTypes OfIdent OfByte ds → OfIdent d.name →
      ThroughForm OfIdent OfByte d.form → ThroughTypes OfIdent OfByte (ds ++ d ∷ [])
  more_types [] d h i j = (i, j, tt)
  more_types (f ∷ ds) d h i j = (h.0, h.1, more_types ds d h.2 i j)

  more_exps : (es : Exps) (e : Exp) → ThroughExps OfIdent OfByte es → Throughout OfIdent OfByte e → ThroughExps OfIdent OfByte (snoc es e)
  more_exps no_exps e h i = (i, tt)
  more_exps (exp f es) e h i = (h.0, more_exps es e h.1 i)

  more_values : (is : Inits) (x : Ident) (e : Exp) → ThroughInits OfIdent OfByte is → OfIdent x → Throughout OfIdent OfByte e →
      ThroughInits OfIdent OfByte (snoc_init is x e)
  more_values no_inits x e h i j = (i, j, tt)
  more_values (init y f is) x e h i j = (h.0, h.1, more_values is x e h.2 i j)

  abbrev ThroughDec : Dec → Type 0
  ThroughDec (one_type d) = OfIdent d.name × ThroughForm OfIdent OfByte d.form
  ThroughDec (one_variable x k e) = OfIdent x × ThroughKind OfIdent OfByte k × Throughout OfIdent OfByte e
  ThroughDec (one_function f ps k e) = OfIdent f × ThroughParams OfIdent OfByte ps × ThroughKind OfIdent OfByte k × Throughout OfIdent OfByte e

  more_functions : (fs : FunDecs) (f : Ident) (ps : List Param) (k : Option Ident) (e : Exp) → ThroughFunctions OfIdent OfByte fs →
      ThroughDec (one_function f ps k e) → ThroughFunctions OfIdent OfByte (snoc_function fs f ps k e)
  more_functions no_functions f ps k e h i = (i.0, i.1, i.2, i.3, tt)
  more_functions (function g qs r body fs) f ps k e h i = (h.0, h.1, h.2, h.3, more_functions fs f ps k e h.4 i)

  more_decs : (ds : Decs) (d : Dec) → ThroughDecs OfIdent OfByte ds → ThroughDec d → ThroughDecs OfIdent OfByte (snoc_dec ds d)
  more_decs no_decs (one_type d) h i = ((i.0, i.1, tt), tt)
  more_decs no_decs (one_variable x k e) h i = (i.0, i.1, i.2, tt)
  more_decs no_decs (one_function f ps k e) h i = ((i.0, i.1, i.2, i.3, tt), tt)
  more_decs (types ts no_decs) (one_type d) h i = (more_types ts d h.0 i.0 i.1, tt)
  more_decs (types ts no_decs) (one_variable x k e) h i = (h.0, (i.0, i.1, i.2, tt))
  more_decs (types ts no_decs) (one_function f ps k e) h i = (h.0, ((i.0, i.1, i.2, i.3, tt), tt))
  more_decs (types ts (types us rest)) d h i = (h.0, more_decs (types us rest) d h.1 i)
  more_decs (types ts (variable x k e rest)) d h i = (h.0, more_decs (variable x k e rest) d h.1 i)
  more_decs (types ts (functions fs rest)) d h i = (h.0, more_decs (functions fs rest) d h.1 i)
  more_decs (variable x k e rest) d h i = (h.0, h.1, h.2, more_decs rest d h.3 i)
  more_decs (functions fs no_decs) (one_type d) h i = (h.0, ((i.0, i.1, tt), tt))
  more_decs (functions fs no_decs) (one_variable x k e) h i = (h.0, (i.0, i.1, i.2, tt))
  more_decs (functions fs no_decs) (one_function f ps k e) h i = (more_functions fs f ps k e h.0 i, tt)
  more_decs (functions fs (types us rest)) d h i = (h.0, more_decs (types us rest) d h.1 i)
  more_decs (functions fs (variable x k e rest)) d h i = (h.0, more_decs (variable x k e rest) d h.1 i)
  more_decs (functions fs (functions gs rest)) d h i = (h.0, more_decs (functions gs rest) d h.1 i)

  left : (a z : List Spanned) → AllGive (a ++ z) → AllGive a
  left [] z k = tt
  left (t ∷ a) z k = (k.0, left a z k.1)

  right : (a z : List Spanned) → AllGive (a ++ z) → AllGive z
  right [] z k = k
  right (t ∷ a) z k = right a z k.1

  ident : (t : Spanned) {x : Ident} → IsIdent t x → Gives t → OfIdent x
  ident t i k = k.0 _ i

  -- where an l-value begins
  place_start : {a : List Spanned} {s : Span} {v : LValue} → IsPlace a s v → AllGive a → OfByte s.from
  place_start (place_simple t i) k = k.0.1
  place_start (place_field {a} d t p i j) k = place_start p (left a (d ∷ t ∷ []) k)
  place_start (place_index {a} {b} l r p i e j) k = place_start p (left a (l ∷ (b ++ r ∷ [])) k)

  of_fields : {a : List Spanned} {ps : List Param} → AreFields a ps → AllGive a → ThroughParams OfIdent OfByte ps
  of_fields (one_field t c u i j l) k = (ident t i k.0, ident u l k.1.1.0, tt)
  of_fields (more_fields {a} {ps} m t c u {x} {k} h i j l o) known =
      let rest = right a (m ∷ t ∷ c ∷ u ∷ []) known in
      more_params ps (record { name = x; kind = k }) (of_fields h (left a (m ∷ t ∷ c ∷ u ∷ []) known)) (ident t j rest.1.0) (ident u o rest.1.1.1.0)

  of_any_fields : {a : List Spanned} {ps : List Param} → AreAnyFields a ps → AllGive a → ThroughParams OfIdent OfByte ps
  of_any_fields no_fields k = tt
  of_any_fields (some_fields h) k = of_fields h k

  of_form : {a : List Spanned} {f : Form} → IsForm a f → AllGive a → ThroughForm OfIdent OfByte f
  of_form (alias t i) k = ident t i k.0
  of_form (fields {a} l r i h j) k = of_any_fields h (left a (r ∷ []) k.1)
  of_form (array t o u i j l) k = ident u l k.1.1.0

  of_annotation : {a : List Spanned} {kind : Option Ident} → IsAnnotation a kind → AllGive a → ThroughKind OfIdent OfByte kind
  of_annotation not_annotated k = tt
  of_annotation (annotated c t i j) k = ident t j k.1.0

  -- two operands and the operator between them
  of_two : (a b : List Spanned) (t : Spanned) (l r : Exp) → AllGive (a ++ t ∷ b) → (AllGive a → Throughout OfIdent OfByte l) →
      (AllGive b → Throughout OfIdent OfByte r) →
      OfByte (span_of l).from × OfByte t.span.from × Throughout OfIdent OfByte l × Throughout OfIdent OfByte r
  of_two a b t l r k of_left of_right =
      let first = of_left (left a (t ∷ b) k) in
      let rest = right a (t ∷ b) k in
      (at_start l first, rest.0.1, first, of_right rest.1)

  mutual
    of_exp : {l : Level} {a : List Spanned} {e : Exp} → Reads l a e → AllGive a → Throughout OfIdent OfByte e
    of_exp (whole_assign {a} {b} t p i r) k = (place_start p (left a (t ∷ b) k), of_place p (left a (t ∷ b) k), of_exp r (right a (t ∷ b) k).1)
    of_exp (whole_up r) k = of_exp r k
    of_exp (or_up r) k = of_exp r k
    of_exp (or_more {a} {b} t {l = l} {r = e} m closed o r) k = of_two a b t l e k (of_exp m) (of_exp r)
    of_exp (and_up r) k = of_exp r k
    of_exp (and_more {a} {b} t {l = l} {r = e} m closed o r) k = of_two a b t l e k (of_exp m) (of_exp r)
    of_exp (cmp_up r) k = of_exp r k
    of_exp (cmp_two {a} {b} t {l = l} {r = e} m closed o r) k = of_two a b t l e k (of_exp m) (of_exp r)
    of_exp (sum_up r) k = of_exp r k
    of_exp (sum_more {a} {b} t {l = l} {r = e} m closed o r) k = of_two a b t l e k (of_exp m) (of_exp r)
    of_exp (term_up r) k = of_exp r k
    of_exp (term_more {a} {b} t {l = l} {r = e} m closed o r) k = of_two a b t l e k (of_exp m) (of_exp r)
    of_exp (unary_minus t i r) k = (k.0.1, of_exp r k.1)
    of_exp (unary_primary r) k = of_exp r k
    of_exp (unary_tail r) k = of_exp r k
    of_exp (primary_place p) k = (place_start p k, of_place p k)
    of_exp (primary_nil t i) k = k.0.1
    of_exp (primary_int t m i) k = k.0.1
    of_exp (primary_text t bytes i) k = k.0.1
    of_exp (primary_break t i) k = k.0.1
    of_exp (primary_sequence {a} l r i es j) k = (k.0.1, of_any es (left a (r ∷ []) k.1))
    of_exp (primary_call {a} t l r i j es m) k = (k.0.1, ident t i k.0, of_any es (left a (r ∷ []) k.1.1))
    of_exp (primary_record {a} t l r i j is m) k = (k.0.1, ident t i k.0, of_any_inits is (left a (r ∷ []) k.1.1))
    of_exp (primary_let {a} {b} t i e h ds j es m) k =
        (k.0.1, of_decs ds (left a (i ∷ (b ++ e ∷ [])) k.1), of_any es (left b (e ∷ []) (right a (i ∷ (b ++ e ∷ [])) k.1).1))
    of_exp (tail_then {a} {b} t u i c j x) k = (k.0.1, of_exp c (left a (u ∷ b) k.1), of_exp x (right a (u ∷ b) k.1).1)
    of_exp (tail_else {a} {b} {d} t u w i c j x closed m y) k =
        let rest = right a (u ∷ (b ++ w ∷ d)) k.1 in
        (k.0.1, of_exp c (left a (u ∷ (b ++ w ∷ d)) k.1), of_exp x (left b (w ∷ d) rest.1), of_exp y (right b (w ∷ d) rest.1).1)
    of_exp (tail_while {a} {b} t u i c j x) k = (k.0.1, of_exp c (left a (u ∷ b) k.1), of_exp x (right a (u ∷ b) k.1).1)
    of_exp (tail_for {a} {b} {d} t i g u w h j m l o high q x) k =
        let rest = right a (u ∷ (b ++ w ∷ d)) k.1.1.1 in
        (k.0.1, ident i j k.1.0, of_exp l (left a (u ∷ (b ++ w ∷ d)) k.1.1.1), of_exp high (left b (w ∷ d) rest.1), of_exp x (right b (w ∷ d) rest.1).1)
    of_exp (tail_fill {a} {b} t l r o i j size m q x) k =
        (k.0.1, ident t i k.0, of_exp size (left a (r ∷ o ∷ b) k.1.1), of_exp x (right a (r ∷ o ∷ b) k.1.1).1.1)

    of_place : {a : List Spanned} {s : Span} {v : LValue} → IsPlace a s v → AllGive a → ThroughPlace OfIdent OfByte v
    of_place (place_simple t i) k = ident t i k.0
    of_place (place_field {a} d t p i j) k = (of_place p (left a (d ∷ t ∷ []) k), ident t j (right a (d ∷ t ∷ []) k).1.0)
    of_place (place_index {a} {b} l r p i e j) k =
        (of_place p (left a (l ∷ (b ++ r ∷ [])) k), of_exp e (left b (r ∷ []) (right a (l ∷ (b ++ r ∷ [])) k).1))

    of_many : {s : Sign} {a : List Spanned} {es : Exps} → AreMany s a es → AllGive a → ThroughExps OfIdent OfByte es
    of_many (many_one r) k = (of_exp r k, tt)
    of_many (many_more {a} {b} {es} {e} t h i r) k = more_exps es e (of_many h (left a (t ∷ b) k)) (of_exp r (right a (t ∷ b) k).1)

    of_any : {s : Sign} {a : List Spanned} {es : Exps} → AreAny s a es → AllGive a → ThroughExps OfIdent OfByte es
    of_any any_none k = tt
    of_any (any_many h) k = of_many h k

    of_inits : {a : List Spanned} {is : Inits} → AreInits a is → AllGive a → ThroughInits OfIdent OfByte is
    of_inits (one_init t q i j r) k = (ident t i k.0, of_exp r k.1.1, tt)
    of_inits (more_inits {a} {b} {is} {e} m t q {x} h i j l r) k =
        let rest = right a (m ∷ t ∷ q ∷ b) k in
        more_values is x e (of_inits h (left a (m ∷ t ∷ q ∷ b) k)) (ident t j rest.1.0) (of_exp r rest.1.1.1)

    of_any_inits : {a : List Spanned} {is : Inits} → AreAnyInits a is → AllGive a → ThroughInits OfIdent OfByte is
    of_any_inits any_no_inits k = tt
    of_any_inits (any_inits h) k = of_inits h k

    of_dec : {a : List Spanned} {d : Dec} → IsDec a d → AllGive a → ThroughDec d
    of_dec (dec_type t i q h j l f) k = (ident i j k.1.0, of_form f k.1.1.1)
    of_dec (dec_variable {a} {b} t i g h j l m r) k =
        (ident i j k.1.0, of_annotation l (left a (g ∷ b) k.1.1), of_exp r (right a (g ∷ b) k.1.1).1)
    of_dec (dec_function {a} {b} {d} t i l r q h j m ps o p s x) k =
        let rest = right a (r ∷ (b ++ q ∷ d)) k.1.1.1 in
        (ident i j k.1.0, of_any_fields ps (left a (r ∷ (b ++ q ∷ d)) k.1.1.1), of_annotation p (left b (q ∷ d) rest.1), of_exp x (right b (q ∷ d) rest.1).1)

    of_decs : {a : List Spanned} {ds : Decs} → AreDecs a ds → AllGive a → ThroughDecs OfIdent OfByte ds
    of_decs decs_none k = tt
    of_decs (decs_more {a} {b} {ds} {d} h one_more) k = more_decs ds d (of_decs h (left a b k)) (of_dec one_more (right a b k))

  pub through_program : {a : List Spanned} {e : Exp} → IsProgram a e → AllGive a → Throughout OfIdent OfByte e
  through_program (program {a} t r i) k = of_exp r (left a (t ∷ []) k)
