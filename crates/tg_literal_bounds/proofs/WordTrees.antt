-- What tokens whose ints are words and whose strings are bytes are read as: one induction over the grammar.
use Rattle.std.proofs.Common.{List, ◌∷◌, ◌++◌, Option, subst}
use Rattle.tg_base.specs.declared.ids.Span.{Span}
use Rattle.tg_syntax.specs.declared.tokens.Sign.{Sign}
use Rattle.tg_syntax.specs.declared.tokens.Spanned.{Spanned}
use Rattle.tg_syntax.specs.declared.tokens.Ident.{Ident}
use Rattle.tg_syntax.specs.declared.trees.Param.{Param}
use Rattle.tg_syntax.specs.Tree.{Exp, LValue, Exps, no_exps, exp, Inits, no_inits, init, Decs, no_decs, types, variable, functions, FunDecs}
use Rattle.tg_syntax.specs.Tree.{no_functions, function}
use Rattle.tg_syntax.specs.Groups.{snoc, snoc_init, Dec, one_type, one_variable, one_function, one_declaration, snoc_function, behind_functions, snoc_dec}
use Rattle.tg_syntax.specs.Grammar.{Level, Reads}
use Rattle.tg_syntax.specs.Grammar.{whole_assign, whole_up, or_up, or_more, and_up, and_more, cmp_up, cmp_two, sum_up, sum_more, term_up, term_more}
use Rattle.tg_syntax.specs.Grammar.{unary_minus, unary_primary, unary_tail, primary_place, primary_nil, primary_int, primary_text, primary_break}
use Rattle.tg_syntax.specs.Grammar.{primary_sequence, primary_call, primary_record, primary_let, tail_then, tail_else, tail_while, tail_for}
use Rattle.tg_syntax.specs.Grammar.{tail_fill, IsPlace, place_simple, place_field, place_index, AreMany, many_one, many_more, AreAny, any_none}
use Rattle.tg_syntax.specs.Grammar.{any_many, AreInits, one_init, more_inits, AreAnyInits, any_no_inits, any_inits, IsDec, dec_type, dec_variable}
use Rattle.tg_syntax.specs.Grammar.{dec_function, AreDecs, decs_none, decs_more, IsProgram, program}
use Rattle.tg_syntax.specs.Lexing.{Lexes}
use Rattle.tg_syntax.specs.OfWords.{OfWords, PlaceOfWords, ExpsOfWords, InitsOfWords, DecsOfWords, BodiesOfWords}
use Rattle.tg_literal_bounds.specs.laws.Laws.{TreesAreOfWords}
use Rattle.tg_literal_bounds.proofs.WordTokens.{IsOfWords, AreOfWords, tokens_of_words, left_of_words, right_of_words}

-- Lists with one more at their end.

more_exps : (es : Exps) (e : Exp) → ExpsOfWords es → OfWords e → ExpsOfWords (snoc es e)
more_exps no_exps e h k = (k, tt)
more_exps (exp f es) e h k = (h.0, more_exps es e h.1 k)

more_values : (is : Inits) (x : Ident) (e : Exp) → InitsOfWords is → OfWords e → InitsOfWords (snoc_init is x e)
more_values no_inits x e h k = (k, tt)
more_values (init y f is) x e h k = (h.0, more_values is x e h.1 k)

more_bodies : (fs : FunDecs) (f : Ident) (ps : List Param) (r : Option Ident) (e : Exp) → BodiesOfWords fs → OfWords e →
    BodiesOfWords (snoc_function fs f ps r e)
more_bodies no_functions f ps r e h k = (k, tt)
more_bodies (function g qs s body fs) f ps r e h k = (h.0, more_bodies fs f ps r e h.1 k)

abbrev DecOfWords : Dec → Type 0
DecOfWords (one_type d) = Unit {0}
DecOfWords (one_variable x k e) = OfWords e
DecOfWords (one_function f ps k e) = OfWords e

alone_of_words : (d : Dec) → DecOfWords d → DecsOfWords (one_declaration d)
alone_of_words (one_type d) h = tt
alone_of_words (one_variable x k e) h = (h, tt)
alone_of_words (one_function f ps k e) h = ((h, tt), tt)

behind_bodies : (fs : FunDecs) (d : Dec) → BodiesOfWords fs → DecOfWords d → DecsOfWords (behind_functions fs d)
behind_bodies fs (one_type d) h k = (h, tt)
behind_bodies fs (one_variable x r e) h k = (h, (k, tt))
behind_bodies fs (one_function f ps r e) h k = (more_bodies fs f ps r e h k, tt)

more_decs : (ds : Decs) (d : Dec) → DecsOfWords ds → DecOfWords d → DecsOfWords (snoc_dec ds d)
more_decs no_decs d h k = alone_of_words d k
more_decs (types ts no_decs) (one_type d) h k = tt
more_decs (types ts no_decs) (one_variable x r e) h k = (k, tt)
more_decs (types ts no_decs) (one_function f ps r e) h k = ((k, tt), tt)
more_decs (types ts (types us rest)) d h k = more_decs (types us rest) d h k
more_decs (types ts (variable x r e rest)) d h k = more_decs (variable x r e rest) d h k
more_decs (types ts (functions fs rest)) d h k = more_decs (functions fs rest) d h k
more_decs (variable x r e rest) d h k = (h.0, more_decs rest d h.1 k)
more_decs (functions fs no_decs) d h k = behind_bodies fs d h.0 k
more_decs (functions fs (types us rest)) d h k = (h.0, more_decs (types us rest) d h.1 k)
more_decs (functions fs (variable x r e rest)) d h k = (h.0, more_decs (variable x r e rest) d h.1 k)
more_decs (functions fs (functions gs rest)) d h k = (h.0, more_decs (functions gs rest) d h.1 k)

-- what stands in front of a token, and after it
before : (a b : List Spanned) → AreOfWords (a ++ b) → AreOfWords a
before a b h = left_of_words a b h

behind : (a : List Spanned) (t : Spanned) (b : List Spanned) → AreOfWords (a ++ t ∷ b) → AreOfWords b
behind a t b h = (right_of_words a (t ∷ b) h).1

mutual
  of_exp : {l : Level} {a : List Spanned} {e : Exp} → Reads l a e → AreOfWords a → OfWords e
  of_exp (whole_assign {a} t p i r) h = (of_place p (before a _ h), of_exp r (behind a _ _ h))
  of_exp (whole_up r) h = of_exp r h
  of_exp (or_up r) h = of_exp r h
  of_exp (or_more {a} t m closed o r) h = (of_exp m (before a _ h), of_exp r (behind a _ _ h))
  of_exp (and_up r) h = of_exp r h
  of_exp (and_more {a} t m closed o r) h = (of_exp m (before a _ h), of_exp r (behind a _ _ h))
  of_exp (cmp_up r) h = of_exp r h
  of_exp (cmp_two {a} t m closed o r) h = (of_exp m (before a _ h), of_exp r (behind a _ _ h))
  of_exp (sum_up r) h = of_exp r h
  of_exp (sum_more {a} t m closed o r) h = (of_exp m (before a _ h), of_exp r (behind a _ _ h))
  of_exp (term_up r) h = of_exp r h
  of_exp (term_more {a} t m closed o r) h = (of_exp m (before a _ h), of_exp r (behind a _ _ h))
  of_exp (unary_minus t i r) h = of_exp r h.1
  of_exp (unary_primary r) h = of_exp r h
  of_exp (unary_tail r) h = of_exp r h
  of_exp (primary_place p) h = of_place p h
  of_exp (primary_nil t i) h = tt
  of_exp (primary_int t n i) h = subst IsOfWords i h.0
  of_exp (primary_text t bytes i) h = subst IsOfWords i h.0
  of_exp (primary_break t i) h = tt
  of_exp (primary_sequence {a} l r i es j) h = of_any es (before a _ h.1)
  of_exp (primary_call {a} t l r i j es m) h = of_any es (before a _ h.1.1)
  of_exp (primary_record {a} t l r i j is m) h = of_any_inits is (before a _ h.1.1)
  of_exp (primary_let {a} {b} t i e q ds j es m) h = (of_decs ds (before a _ h.1), of_any es (before b _ (behind a _ _ h.1)))
  of_exp (tail_then {a} t u i c j x) h = (of_exp c (before a _ h.1), of_exp x (behind a _ _ h.1))
  of_exp (tail_else {a} {b} t u w i c j x closed m y) h =
      let k = behind a _ _ h.1 in (of_exp c (before a _ h.1), of_exp x (before b _ k), of_exp y (behind b _ _ k))
  of_exp (tail_while {a} t u i c j x) h = (of_exp c (before a _ h.1), of_exp x (behind a _ _ h.1))
  of_exp (tail_for {a} {b} t i g u w q j m low o high p x) h =
      let k = behind a _ _ h.1.1.1 in (of_exp low (before a _ h.1.1.1), of_exp high (before b _ k), of_exp x (behind b _ _ k))
  of_exp (tail_fill {a} t l r o i j size m q x) h = (of_exp size (before a _ h.1.1), of_exp x (behind a _ _ h.1.1).1)

  of_place : {a : List Spanned} {s : Span} {v : LValue} → IsPlace a s v → AreOfWords a → PlaceOfWords v
  of_place (place_simple t i) h = tt
  of_place (place_field {a} d t p i j) h = of_place p (before a _ h)
  of_place (place_index {a} {b} l r p i e j) h = (of_place p (before a _ h), of_exp e (before b _ (behind a _ _ h)))

  of_many : {s : Sign} {a : List Spanned} {es : Exps} → AreMany s a es → AreOfWords a → ExpsOfWords es
  of_many (many_one r) h = (of_exp r h, tt)
  of_many (many_more {a} {es} {e} t m i r) h = more_exps es e (of_many m (before a _ h)) (of_exp r (behind a _ _ h))

  of_any : {s : Sign} {a : List Spanned} {es : Exps} → AreAny s a es → AreOfWords a → ExpsOfWords es
  of_any any_none h = tt
  of_any (any_many m) h = of_many m h

  of_inits : {a : List Spanned} {is : Inits} → AreInits a is → AreOfWords a → InitsOfWords is
  of_inits (one_init t q i j r) h = (of_exp r h.1.1, tt)
  of_inits (more_inits {a} {is} {e} m t q {x} g i j l r) h = more_values is x e (of_inits g (before a _ h)) (of_exp r (behind a _ _ h).1.1)

  of_any_inits : {a : List Spanned} {is : Inits} → AreAnyInits a is → AreOfWords a → InitsOfWords is
  of_any_inits any_no_inits h = tt
  of_any_inits (any_inits m) h = of_inits m h

  of_dec : {a : List Spanned} {d : Dec} → IsDec a d → AreOfWords a → DecOfWords d
  of_dec (dec_type t i q g j l f) h = tt
  of_dec (dec_variable {a} t i g k j l m r) h = of_exp r (behind a _ _ h.1.1)
  of_dec (dec_function {a} {b} t i l r q g j m ps o p s x) h = of_exp x (behind b _ _ (behind a _ _ h.1.1.1))

  of_decs : {a : List Spanned} {ds : Decs} → AreDecs a ds → AreOfWords a → DecsOfWords ds
  of_decs decs_none h = tt
  of_decs (decs_more {ds} {d} g one) h = more_decs ds d (of_decs g (left_of_words _ _ h)) (of_dec one (right_of_words _ _ h))

pub trees_are_of_words : TreesAreOfWords
trees_are_of_words names text body is = by is.lexed is.parsed
  where
    by : {tokens : List Spanned} {body : Exp} → Lexes names 0 text tokens → IsProgram tokens body → OfWords body
    by lexed (program t r i) = of_exp r (left_of_words _ _ (tokens_of_words lexed))
