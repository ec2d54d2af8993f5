-- What is in the grammar is read, where the next token doesn't belong to it.
use Rattle.std.proofs.Common.{◌≡◌, ℕ, ◌<◌, ◌≤◌, Bool, true, false, List, [], ◌∷◌, ◌++◌, Option, Some, None, refl, sym, ap, subst, ◌∙◌, arith, append_assoc}
use Rattle.tg_base.specs.declared.ids.Span.{Span}
use Rattle.tg_base.specs.declared.ids.Name.{Name}
use Rattle.tg_syntax.specs.declared.tokens.Word.{Word}
use Rattle.tg_syntax.specs.declared.tokens.Word.TheVariants.{WBreak, WDo, WElse, WEnd, WFor, WFunction, WIf, WIn, WLet, WNil, WOf, WThen, WTo, WType}
use Rattle.tg_syntax.specs.declared.tokens.Word.TheVariants.{WVar, WWhile}
use Rattle.tg_syntax.specs.declared.tokens.Sign.{Sign}
use Rattle.tg_syntax.specs.declared.tokens.Sign.TheVariants.{Comma, Colon, Semicolon, LeftParen, RightParen, LeftBracket, RightBracket, LeftBrace}
use Rattle.tg_syntax.specs.declared.tokens.Sign.TheVariants.{RightBrace, Dot, Equal}
use Rattle.tg_syntax.specs.declared.tokens.Sign.TheVariants as sign
use Rattle.tg_syntax.specs.declared.tokens.Token.{Token}
use Rattle.tg_syntax.specs.declared.tokens.Token.TheVariants as token
use Rattle.tg_syntax.specs.declared.tokens.Spanned.{Spanned}
use Rattle.tg_syntax.specs.declared.tokens.Ident.{Ident}
use Rattle.tg_syntax.specs.declared.trees.Param.{Param}
use Rattle.tg_syntax.specs.declared.trees.Op.{Op}
use Rattle.tg_syntax.specs.Tree.{Form, Fields, Exp, Nil, Break, Int, Text, Read, Call, Neg, Make, Fill, Assign, If, When, While, For, Let, Seq}
use Rattle.tg_syntax.specs.Tree.{LValue, Simple, Field, Index, Exps, no_exps, exp, Inits, no_inits, init, Decs, no_decs}
use Rattle.tg_syntax.specs.Spans.{span_of, joined}
use Rattle.tg_syntax.specs.Tails.{ends_tail, is_short}
use Rattle.tg_syntax.specs.Groups.{snoc, snoc_init, one_type, one_variable, one_function, snoc_dec}
use Rattle.tg_syntax.specs.Grammar.{Level, Whole, Disjunction, Conjunction, Comparison, Sum, Term, Unary, Primary, Tail, or_op, and_op, rel_op}
use Rattle.tg_syntax.specs.Grammar.{sum_op, term_op, IsIdent, IsSign, IsWord, AreFields, one_field, more_fields, AreAnyFields, no_fields, some_fields}
use Rattle.tg_syntax.specs.Grammar.{IsForm, alias, fields, array, IsAnnotation, not_annotated, annotated, Reads, whole_assign, whole_up, or_up}
use Rattle.tg_syntax.specs.Grammar.{or_more, and_up, and_more, cmp_up, cmp_two, sum_up, sum_more, term_up, term_more, unary_minus, unary_primary}
use Rattle.tg_syntax.specs.Grammar.{unary_tail, primary_place, primary_nil, primary_int, primary_text, primary_break, primary_sequence, primary_call}
use Rattle.tg_syntax.specs.Grammar.{primary_record, primary_let, tail_then, tail_else, tail_while, tail_for, tail_fill, IsPlace, place_simple}
use Rattle.tg_syntax.specs.Grammar.{place_field, place_index, AreMany, many_one, many_more, AreAny, any_none, any_many, AreInits, one_init}
use Rattle.tg_syntax.specs.Grammar.{more_inits, AreAnyInits, any_no_inits, any_inits, dec_type, dec_variable, dec_function, AreDecs, decs_none}
use Rattle.tg_syntax.specs.Grammar.{decs_more, IsProgram, program}
use Rattle.tg_syntax_laws.specs.declared.marks.Mark.{Mark}
use Rattle.tg_syntax_laws.specs.declared.marks.Mark.TheVariants.{OfSign, OfWord}
use Rattle.tg_syntax_laws.specs.mirror.Steps.{token_of, op_of, Answer, Got, Bad, Out, Job, At, After, Suffix, Listed, Items, OneInit, ListedInits, MoreInits}
use Rattle.tg_syntax_laws.specs.mirror.Steps.{OneParam, ListedParams, MoreParams, OneForm, Annotation, TypeDec, VarDec, FunDec, MoreDecs, Whole_program, Of}
use Rattle.tg_syntax_laws.specs.mirror.Steps.{Steps, split}
use Rattle.tg_syntax_laws.specs.mirror.Reading.{below, binary, atom_of, unary, level, operators, comparing, assigning, reading, naming, suffixes, listed, items}
use Rattle.tg_syntax_laws.specs.mirror.Reading.{listed_inits, listed_params, more_params, one_form, annotation, more_decs, whole_program, job, Does, give_got}
use Rattle.tg_syntax_laws.specs.mirror.Reading.{refuse_bad, want_got, name_got, name_bad, name_out, split_yes, split_no, oper_yes, oper_no, leaf_yes, leaf_no}
use Rattle.tg_syntax_laws.specs.mirror.Reading.{leaf_out, look_at, test_yes, test_no, call_got, call_bad, call_out}
use Rattle.tg_syntax_laws.specs.mirror.Reading.{one_init as one_init_steps}
use Rattle.tg_syntax_laws.specs.mirror.Reading.{more_inits as more_inits_steps}
use Rattle.tg_syntax_laws.proofs.Runs.{does_one, got_bad, got_out, got_value}

-- how tightly a token binds to what stands before it
abbrev pub strength_sign : Sign → ℕ
strength_sign sign.Assign = 1
strength_sign sign.Or = 2
strength_sign sign.And = 3
strength_sign Equal = 4
strength_sign sign.NotEqual = 4
strength_sign sign.Less = 4
strength_sign sign.LessEqual = 4
strength_sign sign.Greater = 4
strength_sign sign.GreaterEqual = 4
strength_sign sign.Plus = 5
strength_sign sign.Minus = 5
strength_sign sign.Times = 6
strength_sign sign.Divide = 6
strength_sign Dot = 8
strength_sign LeftBracket = 9
strength_sign LeftParen = 10
strength_sign LeftBrace = 10
strength_sign _ = 0

abbrev pub strength_word : Word → ℕ
strength_word WOf = 11
strength_word _ = 0

abbrev pub strength : Token → ℕ
strength (token.Sign s) = strength_sign s
strength (token.Word w) = strength_word w
strength _ = 0

abbrev pub height : Level → ℕ
height Whole = 1
height Disjunction = 2
height Conjunction = 3
height Comparison = 4
height Sum = 5
height Term = 6
height _ = 7

-- the level at which it is read
abbrev pub read_at : Level → Level
read_at Primary = Unary
read_at Tail = Unary
read_at k = k

-- this token doesn't belong to the expression before it
pub record Ends (k : Level) (e : Exp) (t : Token) : Type 0 where
  pub weak : strength t < height k
  pub tail : ends_tail e ≡ true → strength t < 1
  pub no_else : is_short e ≡ true → t ≡ token.Word WElse → ⊥

none_some : {A C : Type 0} {x : A} → None ≡ Some x → C
none_some h = cc

clash : {C : Type 0} {b : Bool} → b ≡ true → b ≡ false → C
clash x y = cc

by_test : {C : Type 0} (b : Bool) → (b ≡ true → C) → (b ≡ false → C) → C
by_test true f g = f refl
by_test false f g = g refl

strong : {C : Type 0} {t w : Token} {n : ℕ} → t ≡ w → n ≤ strength w → strength t < n → C
strong {n = n} d h k = let e : strength _ ≡ strength _ = ap strength d in absurd (omega arith)

no_or : (t : Token) → strength t < 2 → or_op t ≡ None
no_or (token.Sign sign.Or) h = absurd (omega arith)
no_or (token.Sign _) h = refl
no_or _ h = refl

no_and : (t : Token) → strength t < 3 → and_op t ≡ None
no_and (token.Sign sign.And) h = absurd (omega arith)
no_and (token.Sign _) h = refl
no_and _ h = refl

no_rel : (t : Token) → strength t < 4 → rel_op t ≡ None
no_rel (token.Sign Equal) h = absurd (omega arith)
no_rel (token.Sign sign.NotEqual) h = absurd (omega arith)
no_rel (token.Sign sign.Less) h = absurd (omega arith)
no_rel (token.Sign sign.LessEqual) h = absurd (omega arith)
no_rel (token.Sign sign.Greater) h = absurd (omega arith)
no_rel (token.Sign sign.GreaterEqual) h = absurd (omega arith)
no_rel (token.Sign _) h = refl
no_rel _ h = refl

no_sum : (t : Token) → strength t < 5 → sum_op t ≡ None
no_sum (token.Sign sign.Plus) h = absurd (omega arith)
no_sum (token.Sign sign.Minus) h = absurd (omega arith)
no_sum (token.Sign _) h = refl
no_sum _ h = refl

no_term : (t : Token) → strength t < 6 → term_op t ≡ None
no_term (token.Sign sign.Times) h = absurd (omega arith)
no_term (token.Sign sign.Divide) h = absurd (omega arith)
no_term (token.Sign _) h = refl
no_term _ h = refl

no_op : (k : Level) (t : Token) → strength t < height k → op_of k t ≡ None
no_op Disjunction t h = no_or t h
no_op Conjunction t h = no_and t h
no_op Comparison t h = no_rel t h
no_op Sum t h = no_sum t h
no_op Term t h = no_term t h
no_op _ t h = refl

is_or : (t : Token) (o : Op) → or_op t ≡ Some o → strength t ≡ 2
is_or (token.Sign sign.Or) o h = refl
is_or (token.Sign _) o h = none_some h
is_or _ o h = none_some h

is_and : (t : Token) (o : Op) → and_op t ≡ Some o → strength t ≡ 3
is_and (token.Sign sign.And) o h = refl
is_and (token.Sign _) o h = none_some h
is_and _ o h = none_some h

is_rel : (t : Token) (o : Op) → rel_op t ≡ Some o → strength t ≡ 4
is_rel (token.Sign Equal) o h = refl
is_rel (token.Sign sign.NotEqual) o h = refl
is_rel (token.Sign sign.Less) o h = refl
is_rel (token.Sign sign.LessEqual) o h = refl
is_rel (token.Sign sign.Greater) o h = refl
is_rel (token.Sign sign.GreaterEqual) o h = refl
is_rel (token.Sign _) o h = none_some h
is_rel _ o h = none_some h

is_sum : (t : Token) (o : Op) → sum_op t ≡ Some o → strength t ≡ 5
is_sum (token.Sign sign.Plus) o h = refl
is_sum (token.Sign sign.Minus) o h = refl
is_sum (token.Sign _) o h = none_some h
is_sum _ o h = none_some h

is_term : (t : Token) (o : Op) → term_op t ≡ Some o → strength t ≡ 6
is_term (token.Sign sign.Times) o h = refl
is_term (token.Sign sign.Divide) o h = refl
is_term (token.Sign _) o h = none_some h
is_term _ o h = none_some h

is_op : (k : Level) (t : Token) (o : Op) → op_of k t ≡ Some o → strength t ≡ height k
is_op Disjunction t o h = is_or t o h
is_op Conjunction t o h = is_and t o h
is_op Comparison t o h = is_rel t o h
is_op Sum t o h = is_sum t o h
is_op Term t o h = is_term t o h
is_op _ t o h = none_some h

-- an operator ends its left operand
ends_left : (k j : Level) (l : Exp) (t : Token) (o : Op) → height k < height j → 1 < height k → ends_tail l ≡ false → op_of k t ≡ Some o → Ends j l t
ends_left k j l t o d q n h =
    let s = is_op k t o h in
    record { weak = omega arith; tail = λ b. clash b n; no_else = λ _ e. absurd (let z : strength t ≡ 0 = ap strength e in omega arith) }

ends_lower : (k j : Level) (e : Exp) (t : Token) → height k ≤ height j → Ends k e t → Ends j e t
ends_lower k j e t d h = record { weak = let w = h.weak in omega arith; tail = h.tail; no_else = h.no_else }

ends_right : (k j : Level) (e x : Exp) (t : Token) → height k ≤ height j → ends_tail e ≡ ends_tail x → is_short e ≡ is_short x → Ends k e t → Ends j x t
ends_right k j e x t d a b h = record { weak = let w = h.weak in omega arith; tail = λ c. h.tail (a ∙ c); no_else = λ c. h.no_else (b ∙ c) }

ends_last : (k : Level) (e x : Exp) (t : Token) → ends_tail e ≡ true → is_short e ≡ is_short x → Ends k e t → Ends Whole x t
ends_last k e x t a b h = record { weak = h.tail a; tail = λ _. h.tail a; no_else = λ c. h.no_else (b ∙ c) }

pub ends_mark : (e : Exp) (t w : Token) → t ≡ w → strength w < 1 → (w ≡ token.Word WElse → ⊥) → Ends Whole e t
ends_mark e t w q h d = let s : strength t ≡ strength w = ap strength q in record {
  weak = omega arith;
  tail = λ _. omega arith;
  no_else = λ _ z. d (sym q ∙ z);
}

-- an l-value's token that may follow, where it isn't a part of it
abbrev limit : LValue → ℕ
limit (Simple x) = 8
limit _ = 9

small : (v : LValue) → 8 ≤ limit v
small (Simple x) = omega arith
small _ = omega arith

-- steps up to what an operator's level reads
abbrev Reaches : Level → List Spanned → Exp → List Spanned → Type 0
Reaches k s e z = Does (At k) (level k) s (Got e z)

abbrev Follows : Level → Exp → List Spanned → Exp → List Spanned → Type 0
Follows k l s e z = Does (After k l) (operators k l) s (Got e z)

stop : (k : Level) (l : Exp) (t : Spanned) (s : List Spanned) → op_of k t.token ≡ None → Follows k l (t ∷ s) l (t ∷ s)
stop k l t s d = by_test (ends_tail l) (λ b. test_yes (After k l) b (give_got (After k l)))
    (λ b. test_no (After k l) b (oper_no (After k l) d (give_got (After k l))))

more : (k : Level) (l r : Exp) (t : Spanned) (o : Op) (s x : List Spanned) (e : Exp) (z : List Spanned) → ends_tail l ≡ false →
    op_of k t.token ≡ Some o → Reaches (below k) s r x → Follows k (binary o t.span.from l r) x e z → Follows k l (t ∷ s) e z
more k l r t o s x e z n d h g =
    test_no (After k l) n
    (oper_yes (After k l) o d (call_got (After k l) (At (below k)) h (call_got (After k l) (After k (binary o t.span.from l r)) g (give_got (After k l)))))

abbrev pub IsChain : Level → Type 0
IsChain Disjunction = Unit {0}
IsChain Conjunction = Unit {0}
IsChain Sum = Unit {0}
IsChain Term = Unit {0}
IsChain _ = ⊥

up : (k : Level) → IsChain k → (s : List Spanned) (l : Exp) (x : List Spanned) (e : Exp) (z : List Spanned) →
    Reaches (below k) s l x → Follows k l x e z → Reaches k s e z
up Disjunction c s l x e z h g = call_got (At Disjunction) (At Conjunction) h (call_got (At Disjunction) (After Disjunction l) g (give_got (At Disjunction)))
up Conjunction c s l x e z h g = call_got (At Conjunction) (At Comparison) h (call_got (At Conjunction) (After Conjunction l) g (give_got (At Conjunction)))
up Sum c s l x e z h g = call_got (At Sum) (At Term) h (call_got (At Sum) (After Sum l) g (give_got (At Sum)))
up Term c s l x e z h g = call_got (At Term) (At Unary) h (call_got (At Term) (After Term l) g (give_got (At Term)))
up _ c s l x e z h g = absurd c

-- a list in two parts
moved : {j : Job} {s : Steps (Of j)} {r : Answer (Of j)} (a : List Spanned) (t : Spanned) (b z : List Spanned) →
    Does j s (a ++ t ∷ (b ++ z)) r → Does j s ((a ++ t ∷ b) ++ z) r
moved {j = j} {s = s} {r = r} a t b z h = subst (λ w. Does j s w r) (sym (append_assoc a (t ∷ b) z)) h

-- the heights of a chain's level and of its right operands'
heights : (k : Level) → IsChain k → (1 < height k) × (height k < height (below k))
heights Disjunction c = (omega arith, omega arith)
heights Conjunction c = (omega arith, omega arith)
heights Sum c = (omega arith, omega arith)
heights Term c = (omega arith, omega arith)
heights _ c = absurd c

-- a chain begins with this expression, whatever more of it follows
abbrev Leads : Level → List Spanned → Exp → Spanned → List Spanned → Type 0
Leads k s x t rest = Ends (below k) x t.token → (e : Exp) (z : List Spanned) → Follows k x (t ∷ rest) e z → Reaches k s e z

leads_one : (k : Level) → IsChain k → {s : List Spanned} {x : Exp} {t : Spanned} {rest : List Spanned} →
    (Ends (below k) x t.token → Reaches (below k) s x (t ∷ rest)) → Leads k s x t rest
leads_one k c {s = s} {x = x} {t = t} {rest = rest} h n e z d = up k c s x (t ∷ rest) e z (h n) d

leads_more : (k : Level) → IsChain k → (a b : List Spanned) {s : Spanned} {o : Op} {l r : Exp} {t : Spanned} {rest : List Spanned} →
    ends_tail l ≡ false → op_of k s.token ≡ Some o → Leads k (a ++ s ∷ (b ++ t ∷ rest)) l s (b ++ t ∷ rest) →
    (Ends (below k) r t.token → Reaches (below k) (b ++ t ∷ rest) r (t ∷ rest)) → Leads k ((a ++ s ∷ b) ++ t ∷ rest) (binary o s.span.from l r) t rest
leads_more k c a b {s = s} {o = o} {l = l} {r = r} {t = t} {rest = rest} n q h g m e z d =
    let w = heights k c in
    moved a s b (t ∷ rest) (h (ends_left k (below k) l s.token o w.1 w.0 n q) e z (more k l r s o (b ++ t ∷ rest) (t ∷ rest) e z n q
    (g (ends_right (below k) (below k) (binary o s.span.from l r) r t.token (omega arith) refl refl m)) d))

-- nothing more of it follows
leads_whole : (k : Level) → IsChain k → {s : List Spanned} {x : Exp} {t : Spanned} {rest : List Spanned} → Leads k s x t rest →
    Ends k x t.token → Reaches k s x (t ∷ rest)
leads_whole k c {x = x} {t = t} {rest = rest} h e =
    let w = (heights k c).1 in
    h (ends_lower k (below k) x t.token (omega arith) e) x (t ∷ rest) (stop k x t rest (no_op k t.token e.weak))

comparing_stop : (l : Exp) (t : Spanned) (s : List Spanned) → strength t.token < 4 → Does (At Comparison) (comparing l) (t ∷ s) (Got l (t ∷ s))
comparing_stop l t s h = by_test (ends_tail l) (λ b. test_yes (At Comparison) b (give_got (At Comparison)))
    (λ b. test_no (At Comparison) b (oper_no (At Comparison) (no_rel t.token h) (give_got (At Comparison))))

not_token : {t w : Token} → t ≡ w → (w ≡ token.Sign sign.Assign → ⊥) → t ≡ token.Sign sign.Assign → ⊥
not_token q d e = d (sym q ∙ e)

weaker : (t w : Token) → strength t < strength w → t ≡ w → ⊥
weaker t w h e = let d : strength t ≡ strength w = ap strength e in omega arith

assigning_stop : (e : Exp) (t : Spanned) (s : List Spanned) → strength t.token < 1 → Does (At Whole) (assigning e) (t ∷ s) (Got e (t ∷ s))
assigning_stop (Read p v) t s h = split_no (At Whole) (weaker t.token (token.Sign sign.Assign) h) (give_got (At Whole))
assigning_stop _ t s h = give_got (At Whole)

-- what begins with a token
by_first : (t : Spanned) (w : Token) (ts : List Spanned) (r : Answer Exp) → t.token ≡ w → ((s : Span) → atom_of w s ≡ None) →
    Does (At Unary) (unary w) (t ∷ ts) r → Does (At Unary) (level Unary) (t ∷ ts) r
by_first t w ts r q n h = leaf_no (At Unary) (ap (λ z. atom_of z t.span) q ∙ n t.span)
    (look_at (At Unary) (subst (λ z. Does (At Unary) (unary z) (t ∷ ts) r) (sym q) h))

by_atom : (t : Spanned) (w : Token) (e : Exp) (ts : List Spanned) → t.token ≡ w → atom_of w t.span ≡ Some e → Reaches Unary (t ∷ ts) e ts
by_atom t w e ts q n = leaf_yes (At Unary) (ap (λ z. atom_of z t.span) q ∙ n)

by_name : (t : Spanned) (x : Ident) (ts : List Spanned) (r : Answer Exp) → IsIdent t x → Does (At Unary) (naming x) ts r →
    Does (At Unary) (level Unary) (t ∷ ts) r
by_name t x ts r h d = by_first t (token.Ident x.name) ts r h.name (λ s. refl) (name_got (At Unary) h d)

-- an l-value up to an assignment
climb : (e : Exp) (t : Spanned) (s z : List Spanned) → strength t.token < 2 → Reaches Unary s e (t ∷ z) → Reaches Disjunction s e (t ∷ z)
climb e t s z d h =
    up Disjunction tt s e (t ∷ z) e (t ∷ z)
    (up Conjunction tt s e (t ∷ z) e (t ∷ z)
    (call_got (At Comparison) (At Sum)
    (up Sum tt s e (t ∷ z) e (t ∷ z) (up Term tt s e (t ∷ z) e (t ∷ z) h (stop Term e t z (no_term t.token (omega arith))))
    (stop Sum e t z (no_sum t.token (omega arith))))
    (comparing_stop e t z (omega arith)))
    (stop Conjunction e t z (no_and t.token (omega arith))))
    (stop Disjunction e t z (no_or t.token d))

-- what is refused at once is refused at each level
whole_bad : (s : List Spanned) (t : Spanned) (u : List Spanned) → Does (At Unary) (level Unary) s (Bad t u) → Does (At Whole) (level Whole) s (Bad t u)
whole_bad s t u h = call_bad (At Whole) (At Disjunction)
    (call_bad (At Disjunction) (At Conjunction)
    (call_bad (At Conjunction) (At Comparison) (call_bad (At Comparison) (At Sum) (call_bad (At Sum) (At Term) (call_bad (At Term) (At Unary) h)))))

whole_out : Does (At Whole) (level Whole) [] Out
whole_out = call_out (At Whole) (At Disjunction)
    (call_out (At Disjunction) (At Conjunction)
    (call_out (At Conjunction) (At Comparison)
    (call_out (At Comparison) (At Sum) (call_out (At Sum) (At Term) (call_out (At Term) (At Unary) (leaf_out (At Unary)))))))

-- no expression begins with this mark
pub record Closes (c : Mark) : Type 0 where
  pub weak : strength (token_of c) < 1
  pub no_else : token_of c ≡ token.Word WElse → ⊥
  pub none : (s : Span) → atom_of (token_of c) s ≡ None
  pub refused : (t : Spanned) (ts : List Spanned) → Does (At Unary) (unary (token_of c)) (t ∷ ts) (Bad t ts)

by_paren : Closes (OfSign RightParen)
by_paren = record { weak = omega arith; no_else = λ e. cc; none = λ s. refl; refused = λ t ts. refuse_bad (At Unary) }

by_end : Closes (OfWord WEnd)
by_end = record { weak = omega arith; no_else = λ e. cc; none = λ s. refl; refused = λ t ts. refuse_bad (At Unary) }

record Separates (m : Sign) : Type 0 where
  weak : strength_sign m < 1

-- expressions of which the first was read
record Started (m : Sign) (w : List Spanned) (y : Exps) (z : List Spanned) : Type 0 where
  one : Exp
  behind : List Spanned
  first : Reaches Whole w one behind
  rest : Does (Items m (exp one no_exps)) (items m (exp one no_exps)) behind (Got y z)

no_open : (c : Mark) → Closes c → (w : List Spanned) (e : Exp) (z : List Spanned) → Reaches Whole w e z →
    (f : Span → Steps (Exps × Span)) (s : Steps (Exps × Span)) (m : Sign) (r : Answer (Exps × Span)) → Does (Listed m c) s w r →
    Does (Listed m c) (split c f s) w r
no_open c k [] e z h f s m r d = got_out (does_one h Out whole_out)
no_open c k (t ∷ w) e z h f s m r d =
    split_no (Listed m c) (λ q. got_bad (does_one h (Bad t w) (whole_bad (t ∷ w) t w (by_first t (token_of c) w (Bad t w) q k.none (k.refused t w))))) d

closed : (m : Sign) (c : Mark) → Closes c → (w : List Spanned) (es : Exps) (t : Spanned) (rest : List Spanned) →
    t.token ≡ token_of c → Started m w es (t ∷ rest) → Does (Listed m c) (listed m c) w (Got (es, t.span) rest)
closed m c k w es t rest q h =
    no_open c k w h.one h.behind h.first _ _ m _
    (call_got (Listed m c) (At Whole) h.first (call_got (Listed m c) (Items m (exp h.one no_exps)) h.rest (want_got (Listed m c) q (give_got (Listed m c)))))

items_stop : (m : Sign) (es : Exps) (t : Spanned) (ts : List Spanned) → (t.token ≡ token.Sign m → ⊥) → Does (Items m es) (items m es) (t ∷ ts) (Got es (t ∷ ts))
items_stop m es t ts h = split_no (Items m es) h (give_got (Items m es))

record StartedInits (w : List Spanned) (y : Inits) (z : List Spanned) : Type 0 where
  one : Ident × Exp
  behind : List Spanned
  first : Does OneInit one_init_steps w (Got one behind)
  rest : Does (MoreInits (init one.0 one.1 no_inits)) (more_inits_steps (init one.0 one.1 no_inits)) behind (Got y z)

is_sign_not : {t : Token} {m n : Sign} → t ≡ token.Sign m → (m ≡ n → ⊥) → t ≡ token.Sign n → ⊥
is_sign_not {m = m} {n = n} h d e = d (sign_same m n (sym h ∙ e))
  where
    sign_same : (m n : Sign) → token.Sign m ≡ token.Sign n → m ≡ n
    sign_same m n q = cc

ident_no : {t : Spanned} {x : Ident} {w : Token} → IsIdent t x → (token.Ident x.name ≡ w → ⊥) → t.token ≡ w → ⊥
ident_no h d e = d (sym h.name ∙ e)

word_not : {t : Token} {w v : Word} → t ≡ token.Word w → (w ≡ v → ⊥) → t ≡ token.Word v → ⊥
word_not {w = w} {v = v} h d e = d (word_same w v (sym h ∙ e))
  where
    word_same : (w v : Word) → token.Word w ≡ token.Word v → w ≡ v
    word_same w v q = cc

inits_close : (w : List Spanned) (is : Inits) (t : Spanned) (rest : List Spanned) → IsSign t RightBrace →
    StartedInits w is (t ∷ rest) → Does ListedInits listed_inits w (Got (is, t.span) rest)
inits_close [] is t rest q h = got_out (does_one h.first Out (name_out OneInit))
inits_close (u ∷ w) is t rest q h =
    split_no ListedInits (λ e. got_bad (does_one h.first (Bad u w) (name_bad OneInit (λ x i. not_ident (sym i.name ∙ e)))))
    (call_got ListedInits OneInit h.first (call_got ListedInits (MoreInits (init h.one.0 h.one.1 no_inits)) h.rest
    (want_got ListedInits q (give_got ListedInits))))
  where
    not_ident : {n : Name} → token.Ident n ≡ token.Sign RightBrace → ⊥
    not_ident e = cc

decs_stop : (ds : Decs) (i : Spanned) (w : List Spanned) → IsWord i WIn → Does (MoreDecs ds) (more_decs ds) (i ∷ w) (Got ds (i ∷ w))
decs_stop ds i w h = split_no (MoreDecs ds) (word_not h (λ e. cc)) (split_no (MoreDecs ds) (word_not h (λ e. cc))
    (split_no (MoreDecs ds) (word_not h (λ e. cc)) (give_got (MoreDecs ds))))

-- parameters
param : (t c u : Spanned) {x k : Ident} (ts : List Spanned) → IsIdent t x → IsSign c Colon → IsIdent u k →
    Does OneParam (job OneParam) (t ∷ c ∷ u ∷ ts) (Got (record { name = x; kind = k }) ts)
param t c u ts h d g = name_got OneParam h (want_got OneParam d (name_got OneParam g (give_got OneParam)))

record StartedParams (w : List Spanned) (y : List Param) (z : List Spanned) : Type 0 where
  one : Param
  behind : List Spanned
  first : Does OneParam (job OneParam) w (Got one behind)
  rest : Does (MoreParams (one ∷ [])) (more_params (one ∷ [])) behind (Got y z)

params_start : {a : List Spanned} {ps : List Param} → AreFields a ps → (w : List Spanned) (y : List Param) (z : List Spanned) →
    Does (MoreParams ps) (more_params ps) w (Got y z) → StartedParams (a ++ w) y z
params_start (one_field t c u {x = x} {k = k} h d g) w y z r = record { one = record { name = x; kind = k }; behind = w; first = param t c u w h d g; rest = r }
params_start (more_fields {a = a} {ps = ps} m t c u {x = x} {k = k} f e h d g) w y z r =
    subst (λ q. StartedParams q y z) (sym (append_assoc a (m ∷ t ∷ c ∷ u ∷ []) w))
    (params_start f (m ∷ t ∷ c ∷ u ∷ w) y z
    (split_yes (MoreParams ps) e (call_got (MoreParams ps) OneParam (param t c u w h d g)
    (call_got (MoreParams ps) (MoreParams (ps ++ record { name = x; kind = k } ∷ [])) r (give_got (MoreParams ps))))))

-- no parameter begins with a mark
record IsClose (c : Mark) : Type 0 where
  other : (n : Name) → token.Ident n ≡ token_of c → ⊥
  stops : token_of c ≡ token.Sign Comma → ⊥

no_param : (c : Mark) → IsClose c → (w : List Spanned) (p : Param) (z : List Spanned) → Does OneParam (job OneParam) w (Got p z) →
    (f : Span → Steps (List Param)) (s : Steps (List Param)) (r : Answer (List Param)) → Does (ListedParams c) s w r → Does (ListedParams c) (split c f s) w r
no_param c k [] p z h f s r d = got_out (does_one h Out (name_out OneParam))
no_param c k (t ∷ w) p z h f s r d = split_no (ListedParams c)
    (λ q. got_bad (does_one h (Bad t w) (name_bad OneParam (λ x i. k.other x.name (sym i.name ∙ q))))) d

params : {a : List Spanned} {ps : List Param} → AreAnyFields a ps → (c : Mark) → IsClose c → (t : Spanned) (ts : List Spanned) →
    t.token ≡ token_of c → Does (ListedParams c) (listed_params c) (a ++ t ∷ ts) (Got ps ts)
params no_fields c k t ts q = split_yes (ListedParams c) q (give_got (ListedParams c))
params (some_fields {a = a} {ps = ps} h) c k t ts q =
    let s = params_start h (t ∷ ts) ps (t ∷ ts) (split_no (MoreParams ps) (λ e. k.stops (sym q ∙ e)) (give_got (MoreParams ps))) in
    no_param c k (a ++ t ∷ ts) s.one s.behind s.first _ _ _
    (call_got (ListedParams c) OneParam s.first (call_got (ListedParams c) (MoreParams (s.one ∷ [])) s.rest
    (want_got (ListedParams c) q (give_got (ListedParams c)))))

brace_closes : IsClose (OfSign RightBrace)
brace_closes = record { other = λ n e. cc; stops = λ e. cc }

paren_closes : IsClose (OfSign RightParen)
paren_closes = record { other = λ n e. cc; stops = λ e. cc }

form : {a : List Spanned} {f : Form} → IsForm a f → (ts : List Spanned) → Does OneForm one_form (a ++ ts) (Got f ts)
form (alias t h) ts = split_no OneForm (ident_no h (λ e. cc)) (split_no OneForm (ident_no h (λ e. cc)) (name_got OneForm h (give_got OneForm)))
form (fields {a = a} {ps = ps} l r d h e) ts =
    subst (λ w. Does OneForm one_form (l ∷ w) (Got (Fields ps) ts)) (sym (append_assoc a (r ∷ []) ts))
    (split_yes OneForm d (call_got OneForm (ListedParams (OfSign RightBrace)) (params h (OfSign RightBrace) brace_closes r ts e) (give_got OneForm)))
form (array t o u h d e) ts = split_no OneForm (λ q. (let z = sym h ∙ q in cc))
    (split_yes OneForm h (want_got OneForm d (name_got OneForm e (give_got OneForm))))

annotated_is : {a : List Spanned} {k : Option Ident} → IsAnnotation a k → (t : Spanned) (ts : List Spanned) →
    (t.token ≡ token.Sign Colon → ⊥) → Does Annotation annotation (a ++ t ∷ ts) (Got k (t ∷ ts))
annotated_is not_annotated t ts n = split_no Annotation n (give_got Annotation)
annotated_is (annotated c u h d) t ts n = split_yes Annotation h (name_got Annotation d (give_got Annotation))

-- the next token belongs to no expression
record Free (t : Token) : Type 0 where
  weak : strength t < 1
  no_else : t ≡ token.Word WElse → ⊥

free_is : (t w : Token) → t ≡ w → strength w < 1 → (w ≡ token.Word WElse → ⊥) → Free t
free_is t w q h d = let s : strength t ≡ strength w = ap strength q in record { weak = omega arith; no_else = λ z. d (sym q ∙ z) }

ends_free : (e : Exp) (t : Token) → Free t → Ends Whole e t
ends_free e t f = let w = f.weak in record { weak = w; tail = λ _. w; no_else = λ _. f.no_else }

naming_other : (x : Ident) (t : Spanned) (ts : List Spanned) (e : Span × LValue) (z : List Spanned) → strength t.token ≤ 8 →
    Does (Suffix x.span (Simple x)) (suffixes x.span (Simple x)) (t ∷ ts) (Got e z) → Does (At Unary) (naming x) (t ∷ ts) (Got (reading e) z)
naming_other x t ts e z h d =
    split_no (At Unary) (weaker t.token (token.Sign LeftParen) (omega arith))
    (split_no (At Unary) (weaker t.token (token.Sign LeftBrace) (omega arith)) (split_no (At Unary) (weaker t.token (token.Sign LeftBracket) (omega arith))
    (call_got (At Unary) (Suffix x.span (Simple x)) d (give_got (At Unary)))))

suffix_stop : (s : Span) (v : LValue) (t : Spanned) (ts : List Spanned) → strength t.token < 8 → Does (Suffix s v) (suffixes s v) (t ∷ ts) (Got (s, v) (t ∷ ts))
suffix_stop s v t ts h = split_no (Suffix s v) (weaker t.token (token.Sign Dot) h)
    (split_no (Suffix s v) (weaker t.token (token.Sign LeftBracket) (omega arith)) (give_got (Suffix s v)))

-- after a name and `[`
bracketed : (x : Ident) (l r : Spanned) (w : List Spanned) (e : Exp) (t : Spanned) (ts : List Spanned) (p : Span × LValue) (z : List Spanned) →
    IsSign l LeftBracket → IsSign r RightBracket → Reaches Whole w e (r ∷ t ∷ ts) → strength t.token ≤ 9 →
    Does (Suffix (joined x.span r.span) (Index (Simple x) e)) (suffixes (joined x.span r.span) (Index (Simple x) e)) (t ∷ ts) (Got p z) →
    Does (At Unary) (naming x) (l ∷ w) (Got (reading p) z)
bracketed x l r w e t ts p z dl dr h n d =
    split_no (At Unary) (is_sign_not dl (λ q. cc)) (split_no (At Unary) (is_sign_not dl (λ q. cc)) (split_yes (At Unary) dl
    (call_got (At Unary) (At Whole) h
    (want_got (At Unary) dr (split_no (At Unary) (weaker t.token (token.Word WOf) (omega arith))
    (call_got (At Unary) (Suffix (joined x.span r.span) (Index (Simple x) e)) d (give_got (At Unary))))))))

simple_is : {a : List Spanned} {s : Span} {v : LValue} {C : Type 0} (x : Ident) → IsPlace a s v → v ≡ Simple x →
    ((t : Spanned) → IsIdent t x → a ≡ t ∷ [] → s ≡ x.span → C) → C
simple_is x (place_simple t {x = y} h) e k = let d : y ≡ x = cc in k t (subst (λ w. IsIdent t w) d h) refl (h.span ∙ ap (λ w. w.span) d)
simple_is x (place_field d t h g i) e k = absurd (cc)
simple_is x (place_index l r h g i j) e k = absurd (cc)

place_or_name : {C : Type 0} (v : LValue) → ((x : Ident) → v ≡ Simple x → C) → (limit v ≡ 9 → C) → C
place_or_name (Simple x) f g = f x refl
place_or_name (Field w x) f g = g refl
place_or_name (Index w e) f g = g refl

one_init_is : {e : Exp} (t q : Spanned) {x : Ident} (w z : List Spanned) → IsIdent t x → IsSign q Equal → Reaches Whole w e z →
    Does OneInit one_init_steps (t ∷ q ∷ w) (Got (x, e) z)
one_init_is t q w z h d r = name_got OneInit h (want_got OneInit d (call_got OneInit (At Whole) r (give_got OneInit)))

mutual
  pub complete : {k : Level} {u : List Spanned} {e : Exp} → Reads k u e → (t : Spanned) (rest : List Spanned) →
      Ends k e t.token → Reaches (read_at k) (u ++ t ∷ rest) e (t ∷ rest)
  complete (whole_assign {a = a} {b = b} {s = s} {v = v} {e = x} q h d g) t rest e =
      moved a q b (t ∷ rest)
      (call_got (At Whole) (At Disjunction)
      (climb (Read s v) q (a ++ q ∷ (b ++ t ∷ rest)) (b ++ t ∷ rest) (let z : strength q.token ≡ 1 = ap strength d in omega arith)
      (place_reaches h q (b ++ t ∷ rest) (let z : strength q.token ≡ 1 = ap strength d in let y = small v in omega arith)
      (s, v) (q ∷ (b ++ t ∷ rest)) (suffix_stop s v q (b ++ t ∷ rest) (let z : strength q.token ≡ 1 = ap strength d in omega arith))))
      (split_yes (At Whole) d
      (call_got (At Whole) (At Whole) (complete g t rest (ends_right Whole Whole (Assign (joined s (span_of x)) v x) x t.token (omega arith) refl refl e))
      (give_got (At Whole)))))
  complete (whole_up {a = a} {e = x} h) t rest e = call_got (At Whole) (At Disjunction)
      (complete h t rest (ends_lower Whole Disjunction x t.token (omega arith) e)) (assigning_stop x t rest e.weak)
  complete (or_up h) t rest e = leads_whole Disjunction tt (leads_one Disjunction tt (complete h t rest)) e
  complete (or_more {a = a} {b = b} s h n d g) t rest e =
      leads_whole Disjunction tt (leads_more Disjunction tt a b n d (reaches h tt s (b ++ t ∷ rest)) (complete g t rest)) e
  complete (and_up h) t rest e = leads_whole Conjunction tt (leads_one Conjunction tt (complete h t rest)) e
  complete (and_more {a = a} {b = b} s h n d g) t rest e =
      leads_whole Conjunction tt (leads_more Conjunction tt a b n d (reaches h tt s (b ++ t ∷ rest)) (complete g t rest)) e
  complete (cmp_up {a = a} {e = x} h) t rest e = call_got (At Comparison) (At Sum)
      (complete h t rest (ends_lower Comparison Sum x t.token (omega arith) e)) (comparing_stop x t rest e.weak)
  complete (cmp_two {a = a} {b = b} s {o = o} {l = l} {r = r} h n d g) t rest e =
      moved a s b (t ∷ rest)
      (call_got (At Comparison) (At Sum) (complete h s (b ++ t ∷ rest) (ends_left Comparison Sum l s.token o (omega arith) (omega arith) n d))
      (test_no (At Comparison) n
      (oper_yes (At Comparison) o d
      (call_got (At Comparison) (At Sum) (complete g t rest (ends_right Comparison Sum (binary o s.span.from l r) r t.token (omega arith) refl refl e))
      (give_got (At Comparison))))))
  complete (sum_up h) t rest e = leads_whole Sum tt (leads_one Sum tt (complete h t rest)) e
  complete (sum_more {a = a} {b = b} s h n d g) t rest e =
      leads_whole Sum tt (leads_more Sum tt a b n d (reaches h tt s (b ++ t ∷ rest)) (complete g t rest)) e
  complete (term_up h) t rest e = leads_whole Term tt (leads_one Term tt (complete h t rest)) e
  complete (term_more {a = a} {b = b} s h n d g) t rest e =
      leads_whole Term tt (leads_more Term tt a b n d (reaches h tt s (b ++ t ∷ rest)) (complete g t rest)) e
  complete (unary_minus {a = a} {e = x} m d h) t rest e =
      by_first m (token.Sign sign.Minus) (a ++ t ∷ rest) _ d (λ s. refl)
      (want_got (At Unary) d
      (call_got (At Unary) (At Unary) (complete h t rest (ends_right Unary Unary (Neg (joined m.span (span_of x)) x) x t.token (omega arith) refl refl e))
      (give_got (At Unary))))
  complete (unary_primary {a = a} {e = x} h) t rest e = complete h t rest (ends_lower Unary Primary x t.token (omega arith) e)
  complete (unary_tail {a = a} {e = x} h) t rest e = complete h t rest (ends_lower Unary Tail x t.token (omega arith) e)
  complete (primary_place {a = a} {s = s} {v = v} h) t rest e =
      place_reaches h t rest (let w = e.weak in let y = small v in omega arith) (s, v) (t ∷ rest) (suffix_stop s v t rest (let w = e.weak in omega arith))
  complete (primary_nil q d) t rest e = by_atom q (token.Word WNil) (Nil q.span) (t ∷ rest) d refl
  complete (primary_int q n d) t rest e = by_atom q (token.Int n) (Int q.span n) (t ∷ rest) d refl
  complete (primary_text q b d) t rest e = by_atom q (token.Text b) (Text q.span b) (t ∷ rest) d refl
  complete (primary_break q d) t rest e = by_atom q (token.Word WBreak) (Break q.span) (t ∷ rest) d refl
  complete (primary_sequence {a = a} {es = es} l r d h f) t rest e =
      subst (λ w. Reaches Unary (l ∷ w) (Seq (joined l.span r.span) es) (t ∷ rest)) (sym (append_assoc a (r ∷ []) (t ∷ rest)))
      (by_first l (token.Sign LeftParen) (a ++ r ∷ t ∷ rest) _ d (λ s. refl)
      (want_got (At Unary) d (call_got (At Unary) (Listed Semicolon (OfSign RightParen))
      (any_reaches h (omega arith) (OfSign RightParen) by_paren (λ q. cc) r (t ∷ rest) f) (give_got (At Unary)))))
  complete (primary_call {a = a} {es = es} q l r {f = x} i d h f) t rest e =
      subst (λ w. Reaches Unary (q ∷ l ∷ w) (Call (joined q.span r.span) x es) (t ∷ rest)) (sym (append_assoc a (r ∷ []) (t ∷ rest)))
      (subst (λ s. Reaches Unary (q ∷ l ∷ (a ++ r ∷ t ∷ rest)) (Call (joined s r.span) x es) (t ∷ rest)) (sym i.span)
      (by_name q x (l ∷ (a ++ r ∷ t ∷ rest)) _ i
      (split_yes (At Unary) d (call_got (At Unary) (Listed Comma (OfSign RightParen))
      (any_reaches h (omega arith) (OfSign RightParen) by_paren (λ q. cc) r (t ∷ rest) f) (give_got (At Unary))))))
  complete (primary_record {a = a} {is = is} q l r {x = x} i d h f) t rest e =
      subst (λ w. Reaches Unary (q ∷ l ∷ w) (Make (joined q.span r.span) x is) (t ∷ rest)) (sym (append_assoc a (r ∷ []) (t ∷ rest)))
      (subst (λ s. Reaches Unary (q ∷ l ∷ (a ++ r ∷ t ∷ rest)) (Make (joined s r.span) x is) (t ∷ rest)) (sym i.span)
      (by_name q x (l ∷ (a ++ r ∷ t ∷ rest)) _ i
      (split_no (At Unary) (is_sign_not d (λ q. cc))
      (split_yes (At Unary) d (call_got (At Unary) ListedInits (any_inits_reach h r (t ∷ rest) f) (give_got (At Unary)))))))
  complete (primary_let {a = a} {b = b} {ds = ds} {es = es} q i l d h f g k) t rest e =
      subst (λ w. Reaches Unary (q ∷ w) (Let (joined q.span l.span) ds es) (t ∷ rest))
      (sym (append_assoc a (i ∷ (b ++ l ∷ [])) (t ∷ rest) ∙ ap (λ w. a ++ i ∷ w) (append_assoc b (l ∷ []) (t ∷ rest))))
      (by_first q (token.Word WLet) (a ++ i ∷ (b ++ l ∷ t ∷ rest)) _ d (λ s. refl)
      (want_got (At Unary) d (call_got (At Unary) (MoreDecs no_decs)
      (decs_reach h i (b ++ l ∷ t ∷ rest) (free_is i.token (token.Word WIn) f (omega arith) (λ z. cc)) ds
      (i ∷ (b ++ l ∷ t ∷ rest)) (decs_stop ds i (b ++ l ∷ t ∷ rest) f))
      (want_got (At Unary) f (call_got (At Unary) (Listed Semicolon (OfWord WEnd))
      (any_reaches g (omega arith) (OfWord WEnd) by_end (λ q. cc) l (t ∷ rest) k) (give_got (At Unary)))))))
  complete (tail_then {a = a} {b = b} {c = c} {x = x} q u d h f g) t rest e =
      subst (λ w. Reaches Unary (q ∷ w) (When (joined q.span (span_of x)) c x) (t ∷ rest)) (sym (append_assoc a (u ∷ b) (t ∷ rest)))
      (by_first q (token.Word WIf) (a ++ u ∷ (b ++ t ∷ rest)) _ d (λ s. refl)
      (want_got (At Unary) d (call_got (At Unary) (At Whole) (complete h u (b ++ t ∷ rest) (ends_mark c u.token (token.Word WThen) f (omega arith) (λ z. cc)))
      (want_got (At Unary) f
      (call_got (At Unary) (At Whole) (complete g t rest (record { weak = e.tail refl; tail = λ _. e.tail refl; no_else = λ _. e.no_else refl }))
      (by_test (is_short x) (λ z. test_yes (At Unary) z (give_got (At Unary)))
      (λ z. test_no (At Unary) z (split_no (At Unary) (e.no_else refl) (give_got (At Unary))))))))))
  complete (tail_else {a = a} {b = b} {d = p} {c = c} {x = x} {y = y} q u w d h f g n m k) t rest e =
      subst (λ w. Reaches Unary (q ∷ w) (If (joined q.span (span_of y)) c x y) (t ∷ rest))
      (sym (append_assoc a (u ∷ (b ++ w ∷ p)) (t ∷ rest) ∙ ap (λ z. a ++ u ∷ z) (append_assoc b (w ∷ p) (t ∷ rest))))
      (by_first q (token.Word WIf) (a ++ u ∷ (b ++ w ∷ (p ++ t ∷ rest))) _ d (λ s. refl)
      (want_got (At Unary) d
      (call_got (At Unary) (At Whole) (complete h u (b ++ w ∷ (p ++ t ∷ rest)) (ends_mark c u.token (token.Word WThen) f (omega arith) (λ z. cc)))
      (want_got (At Unary) f
      (call_got (At Unary) (At Whole)
      (complete g w (p ++ t ∷ rest) (let z : strength w.token ≡ 0 = ap strength m in record {
        weak = omega arith;
        tail = λ _. omega arith;
        no_else = λ q _. clash q n;
      }))
      (test_no (At Unary) n
      (split_yes (At Unary) m
      (call_got (At Unary) (At Whole) (complete k t rest (ends_last Tail (If (joined q.span (span_of y)) c x y) y t.token refl refl e))
      (give_got (At Unary))))))))))
  complete (tail_while {a = a} {b = b} {c = c} {x = x} q u d h f g) t rest e =
      subst (λ w. Reaches Unary (q ∷ w) (While (joined q.span (span_of x)) c x) (t ∷ rest)) (sym (append_assoc a (u ∷ b) (t ∷ rest)))
      (by_first q (token.Word WWhile) (a ++ u ∷ (b ++ t ∷ rest)) _ d (λ s. refl)
      (want_got (At Unary) d (call_got (At Unary) (At Whole) (complete h u (b ++ t ∷ rest) (ends_mark c u.token (token.Word WDo) f (omega arith) (λ z. cc)))
      (want_got (At Unary) f
      (call_got (At Unary) (At Whole) (complete g t rest (ends_last Tail (While (joined q.span (span_of x)) c x) x t.token refl refl e))
      (give_got (At Unary)))))))
  complete (tail_for {a = a} {b = b} {d = p} {low = low} {high = high} {x = x} q i m u w {v = v} d j f h g k n l) t rest e =
      subst (λ w. Reaches Unary (q ∷ i ∷ m ∷ w) (For (joined q.span (span_of x)) v low high x) (t ∷ rest))
      (sym (append_assoc a (u ∷ (b ++ w ∷ p)) (t ∷ rest) ∙ ap (λ z. a ++ u ∷ z) (append_assoc b (w ∷ p) (t ∷ rest))))
      (by_first q (token.Word WFor) (i ∷ m ∷ (a ++ u ∷ (b ++ w ∷ (p ++ t ∷ rest)))) _ d (λ s. refl)
      (want_got (At Unary) d
      (name_got (At Unary) j
      (want_got (At Unary) f
      (call_got (At Unary) (At Whole) (complete h u (b ++ w ∷ (p ++ t ∷ rest)) (ends_mark low u.token (token.Word WTo) g (omega arith) (λ z. cc)))
      (want_got (At Unary) g (call_got (At Unary) (At Whole) (complete k w (p ++ t ∷ rest) (ends_mark high w.token (token.Word WDo) n (omega arith) (λ z. cc)))
      (want_got (At Unary) n
      (call_got (At Unary) (At Whole) (complete l t rest (ends_last Tail (For (joined q.span (span_of x)) v low high x) x t.token refl refl e))
      (give_got (At Unary)))))))))))
  complete (tail_fill {a = a} {b = b} {n = n} {x = x} q l r o {k = k} i d h f w g) t rest e =
      subst (λ w. Reaches Unary (q ∷ l ∷ w) (Fill (joined q.span (span_of x)) k n x) (t ∷ rest)) (sym (append_assoc a (r ∷ o ∷ b) (t ∷ rest)))
      (subst (λ s. Reaches Unary (q ∷ l ∷ (a ++ r ∷ o ∷ (b ++ t ∷ rest))) (Fill (joined s (span_of x)) k n x) (t ∷ rest)) (sym i.span)
      (by_name q k (l ∷ (a ++ r ∷ o ∷ (b ++ t ∷ rest))) _ i
      (split_no (At Unary) (is_sign_not d (λ q. cc)) (split_no (At Unary) (is_sign_not d (λ q. cc)) (split_yes (At Unary) d
      (call_got (At Unary) (At Whole) (complete h r (o ∷ (b ++ t ∷ rest)) (ends_mark n r.token (token.Sign RightBracket) f (omega arith) (λ z. cc)))
      (want_got (At Unary) f
      (split_yes (At Unary) w
      (call_got (At Unary) (At Whole) (complete g t rest (ends_last Tail (Fill (joined q.span (span_of x)) k n x) x t.token refl refl e))
      (give_got (At Unary)))))))))))

  reaches : {k : Level} {u : List Spanned} {l : Exp} → Reads k u l → IsChain k → (t : Spanned) (rest : List Spanned) → Leads k (u ++ t ∷ rest) l t rest
  reaches (or_up h) c t rest = leads_one Disjunction tt (complete h t rest)
  reaches (or_more {a = a} {b = b} s h n q g) c t rest = leads_more Disjunction tt a b n q (reaches h tt s (b ++ t ∷ rest)) (complete g t rest)
  reaches (and_up h) c t rest = leads_one Conjunction tt (complete h t rest)
  reaches (and_more {a = a} {b = b} s h n q g) c t rest = leads_more Conjunction tt a b n q (reaches h tt s (b ++ t ∷ rest)) (complete g t rest)
  reaches (sum_up h) c t rest = leads_one Sum tt (complete h t rest)
  reaches (sum_more {a = a} {b = b} s h n q g) c t rest = leads_more Sum tt a b n q (reaches h tt s (b ++ t ∷ rest)) (complete g t rest)
  reaches (term_up h) c t rest = leads_one Term tt (complete h t rest)
  reaches (term_more {a = a} {b = b} s h n q g) c t rest = leads_more Term tt a b n q (reaches h tt s (b ++ t ∷ rest)) (complete g t rest)
  reaches _ c t rest = absurd c

  place_reaches : {u : List Spanned} {s : Span} {v : LValue} → IsPlace u s v → (t : Spanned) (rest : List Spanned) →
      strength t.token ≤ limit v → (e : Span × LValue) (z : List Spanned) → Does (Suffix s v) (suffixes s v) (t ∷ rest) (Got e z) →
      Reaches Unary (u ++ t ∷ rest) (reading e) z
  place_reaches (place_simple q {x = x} h) t rest n e z d = by_name q x (t ∷ rest) (Got (reading e) z) h
      (naming_other x t rest e z n (subst (λ s. Does (Suffix s (Simple x)) (suffixes s (Simple x)) (t ∷ rest) (Got e z)) h.span d))
  place_reaches (place_field {a = a} {s = s} {v = v} q i {x = x} h f g) t rest n e z d =
      moved a q (i ∷ []) (t ∷ rest)
      (place_reaches h q (i ∷ t ∷ rest) (let y : strength q.token ≡ 8 = ap strength f in let w = small v in omega arith) e z
      (split_yes (Suffix s v) f
      (name_got (Suffix s v) g (call_got (Suffix s v) (Suffix (joined s x.span) (Field v x))
      (subst (λ p. Does (Suffix (joined s p) (Field v x)) (suffixes (joined s p) (Field v x)) (t ∷ rest) (Got e z)) g.span d) (give_got (Suffix s v))))))
  place_reaches (place_index {a = a} {b = b} {s = s} {v = v} {e = x} l r h f g k) t rest n e z d =
      let ends = ends_mark x r.token (token.Sign RightBracket) k (omega arith) (λ y. cc) in
      let inner : Reaches Whole (b ++ r ∷ t ∷ rest) x (r ∷ t ∷ rest) = complete g r (t ∷ rest) ends in
      subst (λ w. Reaches Unary w (reading e) z)
      (sym (append_assoc a (l ∷ (b ++ r ∷ [])) (t ∷ rest) ∙ ap (λ w. a ++ l ∷ w) (append_assoc b (r ∷ []) (t ∷ rest))))
      (place_or_name v
      (λ y q. simple_is y h q (λ i j ea es. subst (λ w. Reaches Unary (w ++ l ∷ (b ++ r ∷ t ∷ rest)) (reading e) z) (sym ea)
      (by_name i y (l ∷ (b ++ r ∷ t ∷ rest)) _ j (bracketed y l r (b ++ r ∷ t ∷ rest) x t rest e z f k inner n
      (subst (λ p. Does (Suffix (joined p r.span) (Index (Simple y) x)) (suffixes (joined p r.span) (Index (Simple y) x)) (t ∷ rest) (Got e z)) es
      (subst (λ p. Does (Suffix (joined s r.span) (Index p x)) (suffixes (joined s r.span) (Index p x)) (t ∷ rest) (Got e z)) q d))))))
      (λ q. place_reaches h l (b ++ r ∷ t ∷ rest) (let y : strength l.token ≡ 9 = ap strength f in omega arith) e z
      (split_no (Suffix s v) (is_sign_not f (λ y. cc))
      (split_yes (Suffix s v) f
      (call_got (Suffix s v) (At Whole) inner
      (want_got (Suffix s v) k (call_got (Suffix s v) (Suffix (joined s r.span) (Index v x)) d (give_got (Suffix s v)))))))))

  many_start : {m : Sign} {a : List Spanned} {es : Exps} → AreMany m a es → strength_sign m < 1 → (t : Spanned) (rest : List Spanned) →
      Free t.token → (y : Exps) (z : List Spanned) → Does (Items m es) (items m es) (t ∷ rest) (Got y z) → Started m (a ++ t ∷ rest) y z
  many_start (many_one {e = x} h) n t rest f y z d = record { one = x; behind = t ∷ rest; first = complete h t rest (ends_free x t.token f); rest = d }
  many_start (many_more {s = m} {a = a} {b = b} {es = es} {e = x} q h g k) n t rest f y z d =
      subst (λ w. Started m w y z) (sym (append_assoc a (q ∷ b) (t ∷ rest)))
      (many_start h n q (b ++ t ∷ rest) (free_is q.token (token.Sign m) g n (λ w. cc)) y z
      (split_yes (Items m es) g (call_got (Items m es) (At Whole) (complete k t rest (ends_free x t.token f))
      (call_got (Items m es) (Items m (snoc es x)) d (give_got (Items m es))))))

  any_reaches : {m : Sign} {a : List Spanned} {es : Exps} → AreAny m a es → strength_sign m < 1 → (c : Mark) → Closes c →
      (token_of c ≡ token.Sign m → ⊥) → (t : Spanned) (rest : List Spanned) → t.token ≡ token_of c →
      Does (Listed m c) (listed m c) (a ++ t ∷ rest) (Got (es, t.span) rest)
  any_reaches (any_none {s = m}) n c k o t rest q = split_yes (Listed m c) q (give_got (Listed m c))
  any_reaches (any_many {s = m} {a = a} {es = es} h) n c k o t rest q =
      closed m c k (a ++ t ∷ rest) es t rest q (many_start h n t rest (free_is t.token (token_of c) q k.weak k.no_else)
      es (t ∷ rest) (items_stop m es t rest (λ e. o (sym q ∙ e))))

  inits_start : {a : List Spanned} {is : Inits} → AreInits a is → (t : Spanned) (rest : List Spanned) → Free t.token →
      (y : Inits) (z : List Spanned) → Does (MoreInits is) (more_inits_steps is) (t ∷ rest) (Got y z) → StartedInits (a ++ t ∷ rest) y z
  inits_start (one_init {a = a} {e = e} t q {x = x} h d g) u rest f y z r = record {
    one = (x, e);
    behind = u ∷ rest;
    first = one_init_is t q (a ++ u ∷ rest) (u ∷ rest) h d (complete g u rest (ends_free e u.token f));
    rest = r;
  }
  inits_start (more_inits {a = a} {b = b} {is = is} {e = e} m t q {x = x} h k i d g) u rest f y z r =
      subst (λ w. StartedInits w y z) (sym (append_assoc a (m ∷ t ∷ q ∷ b) (u ∷ rest)))
      (inits_start h m (t ∷ q ∷ (b ++ u ∷ rest)) (free_is m.token (token.Sign Comma) k (omega arith) (λ w. cc)) y z
      (split_yes (MoreInits is) k
      (call_got (MoreInits is) OneInit (one_init_is t q (b ++ u ∷ rest) (u ∷ rest) i d (complete g u rest (ends_free e u.token f)))
      (call_got (MoreInits is) (MoreInits (snoc_init is x e)) r (give_got (MoreInits is))))))

  any_inits_reach : {a : List Spanned} {is : Inits} → AreAnyInits a is → (t : Spanned) (rest : List Spanned) →
      IsSign t RightBrace → Does ListedInits listed_inits (a ++ t ∷ rest) (Got (is, t.span) rest)
  any_inits_reach any_no_inits t rest q = split_yes ListedInits q (give_got ListedInits)
  any_inits_reach (any_inits {a = a} {is = is} h) t rest q =
      inits_close (a ++ t ∷ rest) is t rest q (inits_start h t rest (free_is t.token (token.Sign RightBrace) q (omega arith) (λ w. cc))
      is (t ∷ rest) (split_no (MoreInits is) (is_sign_not q (λ w. cc)) (give_got (MoreInits is))))

  decs_reach : {a : List Spanned} {ds : Decs} → AreDecs a ds → (t : Spanned) (rest : List Spanned) → Free t.token →
      (y : Decs) (z : List Spanned) → Does (MoreDecs ds) (more_decs ds) (t ∷ rest) (Got y z) →
      Does (MoreDecs no_decs) (more_decs no_decs) (a ++ t ∷ rest) (Got y z)
  decs_reach decs_none t rest f y z r = r
  decs_reach (decs_more {a = a} {ds = ds} h (dec_type {a = b} {f = w} q i d {x = x} g k l n)) t rest f y z r =
      moved a q (i ∷ d ∷ b) (t ∷ rest) (decs_reach h q (i ∷ d ∷ (b ++ t ∷ rest)) (free_is q.token (token.Word WType) g (omega arith) (λ w. cc)) y z
      (split_yes (MoreDecs ds) g
      (call_got (MoreDecs ds) TypeDec (name_got TypeDec k (want_got TypeDec l (call_got TypeDec OneForm (form n (t ∷ rest)) (give_got TypeDec))))
      (call_got (MoreDecs ds) (MoreDecs (snoc_dec ds (one_type (record { name = x; form = w })))) r (give_got (MoreDecs ds))))))
  decs_reach (decs_more {a = a} {ds = ds} h (dec_variable {a = b} {b = p} {k = ty} {e = e} q i d {x = x} g k l n m)) t rest f y z r =
      subst (λ w. Does (MoreDecs no_decs) (more_decs no_decs) w (Got y z))
      (sym (append_assoc a (q ∷ i ∷ (b ++ d ∷ p)) (t ∷ rest) ∙ ap (λ w. a ++ q ∷ i ∷ w) (append_assoc b (d ∷ p) (t ∷ rest))))
      (decs_reach h q (i ∷ (b ++ d ∷ (p ++ t ∷ rest))) (free_is q.token (token.Word WVar) g (omega arith) (λ w. cc)) y z
      (split_no (MoreDecs ds) (word_not g (λ w. cc)) (split_yes (MoreDecs ds) g (call_got (MoreDecs ds) VarDec
      (name_got VarDec k (call_got VarDec Annotation (annotated_is l d (p ++ t ∷ rest) (is_sign_not n (λ w. cc)))
      (want_got VarDec n (call_got VarDec (At Whole) (complete m t rest (ends_free e t.token f)) (give_got VarDec)))))
      (call_got (MoreDecs ds) (MoreDecs (snoc_dec ds (one_variable x ty e))) r (give_got (MoreDecs ds)))))))
  decs_reach (decs_more {a = a} {ds = ds} h (dec_function {a = b} {b = p} {d = o} {ps = ps} {k = ty} {e = e} q i l r' d {f = x} g k n j s u v m))
      t rest f y z r =
      subst (λ w. Does (MoreDecs no_decs) (more_decs no_decs) w (Got y z))
      (sym (append_assoc a (q ∷ i ∷ l ∷ (b ++ r' ∷ (p ++ d ∷ o))) (t ∷ rest)
      ∙ ap (λ w. a ++ q ∷ i ∷ l ∷ w) (append_assoc b (r' ∷ (p ++ d ∷ o)) (t ∷ rest) ∙ ap (λ w. b ++ r' ∷ w) (append_assoc p (d ∷ o) (t ∷ rest)))))
      (decs_reach h q (i ∷ l ∷ (b ++ r' ∷ (p ++ d ∷ (o ++ t ∷ rest)))) (free_is q.token (token.Word WFunction) g (omega arith) (λ w. cc)) y z
      (split_no (MoreDecs ds) (word_not g (λ w. cc)) (split_no (MoreDecs ds) (word_not g (λ w. cc)) (split_yes (MoreDecs ds) g (call_got (MoreDecs ds) FunDec
      (name_got FunDec k (want_got FunDec n (call_got FunDec (ListedParams (OfSign RightParen))
      (params j (OfSign RightParen) paren_closes r' (p ++ d ∷ (o ++ t ∷ rest)) s)
      (call_got FunDec Annotation (annotated_is u d (o ++ t ∷ rest) (is_sign_not v (λ w. cc)))
      (want_got FunDec v (call_got FunDec (At Whole) (complete m t rest (ends_free e t.token f)) (give_got FunDec)))))))
      (call_got (MoreDecs ds) (MoreDecs (snoc_dec ds (one_function x ps ty e))) r (give_got (MoreDecs ds))))))))

-- a program is read
pub complete_program : (ts : List Spanned) (e : Exp) → IsProgram ts e → Does Whole_program whole_program ts (Got e [])
complete_program ts e (program t h q) = call_got Whole_program (At Whole) (complete h t [] (ends_mark e t.token token.End q (omega arith) (λ z. cc)))
    (want_got Whole_program q (give_got Whole_program))

-- each list has at most one tree
pub one_tree : (ts : List Spanned) (a b : Exp) → IsProgram ts a → IsProgram ts b → a ≡ b
one_tree ts a b h k = got_value (does_one (complete_program ts a h) (Got b []) (complete_program ts b k))
