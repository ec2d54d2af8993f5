-- Descent by precedence, as programs over the first token of what is left, and what they do to a
-- list of tokens.
use Rattle.std.specs.Prelude.{ℕ, ◌≡◌, Bool, true, false, List, [], ◌∷◌, ◌++◌, Option, Some, None}
use Rattle.tg_base.specs.declared.ids.Span.{Span}
use Rattle.tg_syntax.specs.declared.tokens.Word.TheVariants.{WArray, WBreak, WDo, WElse, WEnd, WFor}
use Rattle.tg_syntax.specs.declared.tokens.Word.TheVariants.{WFunction, WIf, WIn, WLet, WNil, WOf}
use Rattle.tg_syntax.specs.declared.tokens.Word.TheVariants.{WThen, WTo, WType, WVar, WWhile}
use Rattle.tg_syntax.specs.declared.tokens.Sign.{Sign}
use Rattle.tg_syntax.specs.declared.tokens.Sign.TheVariants.{Comma, Colon, Semicolon, LeftParen}
use Rattle.tg_syntax.specs.declared.tokens.Sign.TheVariants.{RightParen, LeftBracket, RightBracket}
use Rattle.tg_syntax.specs.declared.tokens.Sign.TheVariants.{LeftBrace, RightBrace, Dot, Equal}
use Rattle.tg_syntax.specs.declared.tokens.Sign.TheVariants as sign
use Rattle.tg_syntax.specs.declared.tokens.Token.{Token}
use Rattle.tg_syntax.specs.declared.tokens.Token.TheVariants as token
use Rattle.tg_syntax.specs.declared.tokens.Spanned.{Spanned}
use Rattle.tg_syntax.specs.declared.tokens.Ident.{Ident}
use Rattle.tg_syntax.specs.declared.trees.Param.{Param}
use Rattle.tg_syntax.specs.declared.trees.Op.{Op}
use Rattle.tg_syntax.specs.Tree.{Form, Alias, Fields, Array, Exp, Nil, Break, Int, Text, Read, Call}
use Rattle.tg_syntax.specs.Tree.{Neg, Binary, Make, Fill, Assign, If, When, While, For, Let, Seq}
use Rattle.tg_syntax.specs.Tree.{LValue, Simple, Field, Index, Exps, no_exps, exp, Inits, no_inits}
use Rattle.tg_syntax.specs.Tree.{init, Decs, no_decs}
use Rattle.tg_syntax.specs.Spans.{span_of, joined}
use Rattle.tg_syntax.specs.Tails.{ends_tail, is_short}
use Rattle.tg_syntax.specs.Groups.{snoc, snoc_init, Dec, one_type, one_variable, one_function}
use Rattle.tg_syntax.specs.Groups.{snoc_dec}
use Rattle.tg_syntax.specs.Grammar.{Level, Whole, Disjunction, Conjunction, Comparison, Sum, Term}
use Rattle.tg_syntax.specs.Grammar.{Unary, IsIdent}
use Rattle.tg_syntax_laws.specs.declared.marks.Mark.{Mark}
use Rattle.tg_syntax_laws.specs.declared.marks.Mark.TheVariants.{OfSign, OfWord, OfEnd}
use Rattle.tg_syntax_laws.specs.mirror.Steps.{token_of, op_of, Answer, Got, Bad, Out, Job, OneSpan}
use Rattle.tg_syntax_laws.specs.mirror.Steps.{OneName, At, After, Suffix, Listed, Items, OneInit}
use Rattle.tg_syntax_laws.specs.mirror.Steps.{ListedInits, MoreInits, OneParam, ListedParams}
use Rattle.tg_syntax_laws.specs.mirror.Steps.{MoreParams, OneForm, Annotation, TypeDec, VarDec}
use Rattle.tg_syntax_laws.specs.mirror.Steps.{FunDec, MoreDecs, Whole_program, Of, Steps, give}
use Rattle.tg_syntax_laws.specs.mirror.Steps.{refuse, want, name, split, oper, leaf, look, test}
use Rattle.tg_syntax_laws.specs.mirror.Steps.{call}

-- the level of right operands
abbrev pub below : Level → Level
below Disjunction = Conjunction
below Conjunction = Comparison
below Comparison = Sum
below Sum = Term
below _ = Unary

-- a job last
abbrev pub last : (i : Job) → Steps (Of i)
last i = call i (λ x. give x)

abbrev pub binary : Op → ℕ → Exp → Exp → Exp
binary o at l r = Binary (joined (span_of l) (span_of r)) o at l r

abbrev pub assigning : Exp → Steps Exp
assigning (Read s v) =
    split (OfSign sign.Assign)
    (λ _. call (At Whole) (λ e. give (Assign (joined s (span_of e)) v e))) (give (Read s v))
assigning e = give e

abbrev pub operators : Level → Exp → Steps Exp
operators k l =
    test (ends_tail l) (give l)
    (oper k (λ o at. call (At (below k)) (λ r. last (After k (binary o at l r)))) (give l))

abbrev pub comparing : Exp → Steps Exp
comparing l =
    test (ends_tail l) (give l)
    (oper Comparison (λ o at. call (At Sum) (λ r. give (binary o at l r))) (give l))

-- a token that is an expression
abbrev pub atom_of : Token → Span → Option Exp
atom_of (token.Int n) s = Some (Int s n)
atom_of (token.Text bytes) s = Some (Text s bytes)
atom_of (token.Word WNil) s = Some (Nil s)
atom_of (token.Word WBreak) s = Some (Break s)
atom_of _ s = None

abbrev pub atom : Spanned → Option Exp
atom t = atom_of t.token t.span

abbrev pub reading : Span × LValue → Exp
reading p = Read p.0 p.1

abbrev pub indexing : Ident → Steps Exp
indexing x =
    call (At Whole) (λ e. want (OfSign RightBracket) (λ r.
    split (OfWord WOf) (λ _. call (At Whole) (λ i. give (Fill (joined x.span (span_of i)) x e i)))
    (call (Suffix (joined x.span r) (Index (Simple x) e)) (λ p. give (reading p)))))

abbrev pub naming : Ident → Steps Exp
naming x =
    split (OfSign LeftParen)
    (λ _. call (Listed Comma (OfSign RightParen)) (λ y. give (Call (joined x.span y.1) x y.0)))
    (split (OfSign LeftBrace) (λ _. call ListedInits (λ y. give (Make (joined x.span y.1) x y.0)))
    (split (OfSign LeftBracket) (λ _. indexing x)
    (call (Suffix x.span (Simple x)) (λ p. give (reading p)))))

abbrev pub elsing : Span → Exp → Exp → Steps Exp
elsing s c x =
    test (is_short x) (give (When (joined s (span_of x)) c x))
    (split (OfWord WElse) (λ _. call (At Whole) (λ y. give (If (joined s (span_of y)) c x y)))
    (give (When (joined s (span_of x)) c x)))

abbrev pub choosing : Steps Exp
choosing = want (OfWord WIf)
    (λ s. call (At Whole) (λ c. want (OfWord WThen) (λ _. call (At Whole) (λ x. elsing s c x))))

abbrev pub looping : Steps Exp
looping =
    want (OfWord WWhile) (λ s. call (At Whole) (λ c. want (OfWord WDo) (λ _. call (At Whole) (λ x.
    give (While (joined s (span_of x)) c x)))))

abbrev pub counting : Steps Exp
counting =
    want (OfWord WFor) (λ s. name (λ v. want (OfSign sign.Assign) (λ _. call (At Whole) (λ low.
    want (OfWord WTo) (λ _. call (At Whole) (λ high.
    want (OfWord WDo) (λ _. call (At Whole)
    (λ x. give (For (joined s (span_of x)) v low high x)))))))))

abbrev pub declaring : Steps Exp
declaring =
    want (OfWord WLet) (λ s. call (MoreDecs no_decs) (λ ds. want (OfWord WIn) (λ _.
    call (Listed Semicolon (OfWord WEnd)) (λ y. give (Let (joined s y.1) ds y.0)))))

abbrev pub negating : Steps Exp
negating =
    want (OfSign sign.Minus) (λ s. call (At Unary) (λ e. give (Neg (joined s (span_of e)) e)))

abbrev pub grouping : Steps Exp
grouping =
    want (OfSign LeftParen)
    (λ s. call (Listed Semicolon (OfSign RightParen)) (λ y. give (Seq (joined s y.1) y.0)))

-- what binds more tightly than the operators, by its first token
abbrev pub unary : Token → Steps Exp
unary (token.Sign sign.Minus) = negating
unary (token.Sign LeftParen) = grouping
unary (token.Word WIf) = choosing
unary (token.Word WWhile) = looping
unary (token.Word WFor) = counting
unary (token.Word WLet) = declaring
unary (token.Ident n) = name naming
unary _ = refuse

abbrev pub level : Level → Steps Exp
level Whole = call (At Disjunction) assigning
level Comparison = call (At Sum) comparing
level Disjunction = call (At Conjunction) (λ l. last (After Disjunction l))
level Conjunction = call (At Comparison) (λ l. last (After Conjunction l))
level Sum = call (At Term) (λ l. last (After Sum l))
level Term = call (At Unary) (λ l. last (After Term l))
level _ = leaf atom (look unary)

abbrev pub suffixes : Span → LValue → Steps (Span × LValue)
suffixes s v =
    split (OfSign Dot) (λ _. name (λ x. last (Suffix (joined s x.span) (Field v x))))
    (split (OfSign LeftBracket)
    (λ _. call (At Whole)
    (λ e. want (OfSign RightBracket) (λ r. last (Suffix (joined s r) (Index v e)))))
    (give (s, v)))

abbrev pub listed : Sign → Mark → Steps (Exps × Span)
listed m c =
    split c (λ r. give (no_exps, r))
    (call (At Whole) (λ e. call (Items m (exp e no_exps)) (λ es. want c (λ r. give (es, r)))))

abbrev pub items : Sign → Exps → Steps Exps
items m es = split (OfSign m) (λ _. call (At Whole) (λ e. last (Items m (snoc es e)))) (give es)

abbrev pub one_init : Steps (Ident × Exp)
one_init = name (λ x. want (OfSign Equal) (λ _. call (At Whole) (λ e. give (x, e))))

abbrev pub listed_inits : Steps (Inits × Span)
listed_inits =
    split (OfSign RightBrace) (λ r. give (no_inits, r))
    (call OneInit (λ i. call (MoreInits (init i.0 i.1 no_inits))
    (λ is. want (OfSign RightBrace) (λ r. give (is, r)))))

abbrev pub more_inits : Inits → Steps Inits
more_inits is = split (OfSign Comma)
    (λ _. call OneInit (λ i. last (MoreInits (snoc_init is i.0 i.1)))) (give is)

abbrev pub one_param : Steps Param
one_param = name (λ x. want (OfSign Colon) (λ _. name (λ k. give (record { name = x; kind = k }))))

abbrev pub listed_params : Mark → Steps (List Param)
listed_params c =
    split c (λ _. give [])
    (call OneParam (λ p. call (MoreParams (p ∷ [])) (λ ps. want c (λ _. give ps))))

abbrev pub more_params : List Param → Steps (List Param)
more_params ps =
    split (OfSign Comma) (λ _. call OneParam (λ p. last (MoreParams (ps ++ p ∷ [])))) (give ps)

abbrev pub one_form : Steps Form
one_form =
    split (OfSign LeftBrace) (λ _. call (ListedParams (OfSign RightBrace)) (λ ps. give (Fields ps)))
    (split (OfWord WArray) (λ _. want (OfWord WOf) (λ _. name (λ x. give (Array x))))
    (name (λ x. give (Alias x))))

abbrev pub annotation : Steps (Option Ident)
annotation = split (OfSign Colon) (λ _. name (λ k. give (Some k))) (give None)

abbrev pub type_dec : Steps Dec
type_dec = name (λ x. want (OfSign Equal)
    (λ _. call OneForm (λ f. give (one_type (record { name = x; form = f })))))

abbrev pub var_dec : Steps Dec
var_dec =
    name (λ x. call Annotation
    (λ k. want (OfSign sign.Assign) (λ _. call (At Whole) (λ e. give (one_variable x k e)))))

abbrev pub fun_dec : Steps Dec
fun_dec =
    name (λ f. want (OfSign LeftParen)
    (λ _. call (ListedParams (OfSign RightParen)) (λ ps. call Annotation (λ k.
    want (OfSign Equal) (λ _. call (At Whole) (λ e. give (one_function f ps k e)))))))

abbrev pub more_decs : Decs → Steps Decs
more_decs ds =
    split (OfWord WType) (λ _. call TypeDec (λ d. last (MoreDecs (snoc_dec ds d))))
    (split (OfWord WVar) (λ _. call VarDec (λ d. last (MoreDecs (snoc_dec ds d))))
    (split (OfWord WFunction) (λ _. call FunDec (λ d. last (MoreDecs (snoc_dec ds d))))
    (give ds)))

abbrev pub whole_program : Steps Exp
whole_program = call (At Whole) (λ e. want OfEnd (λ _. give e))

-- the program of each job
abbrev pub job : (j : Job) → Steps (Of j)
job OneSpan = refuse
job OneName = refuse
job (At k) = level k
job (After k l) = operators k l
job (Suffix s v) = suffixes s v
job (Listed m c) = listed m c
job (Items m es) = items m es
job OneInit = one_init
job ListedInits = listed_inits
job (MoreInits is) = more_inits is
job OneParam = one_param
job (ListedParams c) = listed_params c
job (MoreParams ps) = more_params ps
job OneForm = one_form
job Annotation = annotation
job TypeDec = type_dec
job VarDec = var_dec
job FunDec = fun_dec
job (MoreDecs ds) = more_decs ds
job Whole_program = whole_program

-- what a program does to a list of tokens
pub data Does : (j : Job) → Steps (Of j) → List Spanned → Answer (Of j) → Type 0 where
  give_got : (j : Job) {x : Of j} {ts : List Spanned} → Does j (give x) ts (Got x ts)
  refuse_bad : (j : Job) {t : Spanned} {ts : List Spanned} → Does j refuse (t ∷ ts) (Bad t ts)
  refuse_out : (j : Job) → Does j refuse [] Out
  want_got :
      (j : Job) {m : Mark} {f : Span → Steps (Of j)} {t : Spanned} {ts : List Spanned}
      {r : Answer (Of j)} →
      t.token ≡ token_of m → Does j (f t.span) ts r →
      Does j (want m f) (t ∷ ts) r
  want_bad :
      (j : Job) {m : Mark} {f : Span → Steps (Of j)} {t : Spanned} {ts : List Spanned} →
      (t.token ≡ token_of m → ⊥) →
      Does j (want m f) (t ∷ ts) (Bad t ts)
  want_out : (j : Job) {m : Mark} {f : Span → Steps (Of j)} → Does j (want m f) [] Out
  name_got :
      (j : Job) {f : Ident → Steps (Of j)} {t : Spanned} {ts : List Spanned} {r : Answer (Of j)}
      {x : Ident} →
      IsIdent t x → Does j (f x) ts r →
      Does j (name f) (t ∷ ts) r
  name_bad :
      (j : Job) {f : Ident → Steps (Of j)} {t : Spanned} {ts : List Spanned} →
      ((x : Ident) → IsIdent t x → ⊥) →
      Does j (name f) (t ∷ ts) (Bad t ts)
  name_out : (j : Job) {f : Ident → Steps (Of j)} → Does j (name f) [] Out
  split_yes :
      (j : Job) {m : Mark} {f : Span → Steps (Of j)} {s : Steps (Of j)} {t : Spanned}
      {ts : List Spanned} {r : Answer (Of j)} →
      t.token ≡ token_of m → Does j (f t.span) ts r →
      Does j (split m f s) (t ∷ ts) r
  split_no :
      (j : Job) {m : Mark} {f : Span → Steps (Of j)} {s : Steps (Of j)} {t : Spanned}
      {ts : List Spanned} {r : Answer (Of j)} →
      (t.token ≡ token_of m → ⊥) → Does j s (t ∷ ts) r →
      Does j (split m f s) (t ∷ ts) r
  split_out :
      (j : Job) {m : Mark} {f : Span → Steps (Of j)} {s : Steps (Of j)} →
      Does j (split m f s) [] Out
  oper_yes :
      (j : Job) {k : Level} {f : Op → ℕ → Steps (Of j)} {s : Steps (Of j)} {t : Spanned}
      {ts : List Spanned} {r : Answer (Of j)} (o : Op) →
      op_of k t.token ≡ Some o → Does j (f o t.span.from) ts r →
      Does j (oper k f s) (t ∷ ts) r
  oper_no :
      (j : Job) {k : Level} {f : Op → ℕ → Steps (Of j)} {s : Steps (Of j)} {t : Spanned}
      {ts : List Spanned} {r : Answer (Of j)} →
      op_of k t.token ≡ None → Does j s (t ∷ ts) r →
      Does j (oper k f s) (t ∷ ts) r
  oper_out :
      (j : Job) {k : Level} {f : Op → ℕ → Steps (Of j)} {s : Steps (Of j)} →
      Does j (oper k f s) [] Out
  leaf_yes :
      (j : Job) {g : Spanned → Option (Of j)} {s : Steps (Of j)} {t : Spanned}
      {ts : List Spanned} {x : Of j} →
      g t ≡ Some x →
      Does j (leaf g s) (t ∷ ts) (Got x ts)
  leaf_no :
      (j : Job) {g : Spanned → Option (Of j)} {s : Steps (Of j)} {t : Spanned}
      {ts : List Spanned} {r : Answer (Of j)} →
      g t ≡ None → Does j s (t ∷ ts) r →
      Does j (leaf g s) (t ∷ ts) r
  leaf_out : (j : Job) {g : Spanned → Option (Of j)} {s : Steps (Of j)} → Does j (leaf g s) [] Out
  look_at :
      (j : Job) {f : Token → Steps (Of j)} {t : Spanned} {ts : List Spanned} {r : Answer (Of j)} →
      Does j (f t.token) (t ∷ ts) r →
      Does j (look f) (t ∷ ts) r
  look_out : (j : Job) {f : Token → Steps (Of j)} → Does j (look f) [] Out
  test_yes :
      (j : Job) {b : Bool} {s z : Steps (Of j)} {ts : List Spanned} {r : Answer (Of j)} →
      b ≡ true → Does j s ts r →
      Does j (test b s z) ts r
  test_no :
      (j : Job) {b : Bool} {s z : Steps (Of j)} {ts : List Spanned} {r : Answer (Of j)} →
      b ≡ false → Does j z ts r →
      Does j (test b s z) ts r
  call_got :
      (j i : Job) {f : Of i → Steps (Of j)} {ts rest : List Spanned} {x : Of i}
      {r : Answer (Of j)} →
      Does i (job i) ts (Got x rest) → Does j (f x) rest r →
      Does j (call i f) ts r
  call_bad :
      (j i : Job) {f : Of i → Steps (Of j)} {ts rest : List Spanned} {t : Spanned} →
      Does i (job i) ts (Bad t rest) →
      Does j (call i f) ts (Bad t rest)
  call_out :
      (j i : Job) {f : Of i → Steps (Of j)} {ts : List Spanned} → Does i (job i) ts Out →
      Does j (call i f) ts Out
