-- Programs over the first token of what is left of a list.
use Rattle.std.specs.Prelude.{ℕ, Bool, List, Option, None}
use Rattle.tg_base.specs.declared.ids.Span.{Span}
use Rattle.tg_syntax.specs.declared.tokens.Sign.{Sign}
use Rattle.tg_syntax.specs.declared.tokens.Token.{Token}
use Rattle.tg_syntax.specs.declared.tokens.Token.TheVariants as token
use Rattle.tg_syntax.specs.declared.tokens.Spanned.{Spanned}
use Rattle.tg_syntax.specs.declared.tokens.Ident.{Ident}
use Rattle.tg_syntax.specs.declared.trees.Param.{Param}
use Rattle.tg_syntax.specs.declared.trees.Op.{Op}
use Rattle.tg_syntax.specs.Tree.{Form, Exp, LValue, Exps, Inits, Decs}
use Rattle.tg_syntax.specs.Groups.{Dec}
use Rattle.tg_syntax.specs.Grammar.{Level, Disjunction, Conjunction, Comparison, Sum, Term, or_op}
use Rattle.tg_syntax.specs.Grammar.{and_op, rel_op, sum_op, term_op}
use Rattle.tg_syntax_laws.specs.declared.marks.Mark.{Mark}
use Rattle.tg_syntax_laws.specs.declared.marks.Mark.TheVariants as mark

-- the token that a mark is
abbrev pub token_of : Mark → Token
token_of (mark.OfSign s) = token.Sign s
token_of (mark.OfWord w) = token.Word w
token_of mark.OfEnd = token.End

-- the operators of a level
abbrev pub op_of : Level → Token → Option Op
op_of Disjunction t = or_op t
op_of Conjunction t = and_op t
op_of Comparison t = rel_op t
op_of Sum t = sum_op t
op_of Term t = term_op t
op_of _ t = None

-- what reading gives: a value and the rest, the token that can't stand where it stands, or a want
-- of more tokens
pub data Answer (A : Type 0) : Type 0 where
  Got : A → List Spanned → Answer A
  Bad : Spanned → List Spanned → Answer A
  Out : Answer A

-- what is to be read
pub data Job : Type 0 where
  -- a span and a name alone
  OneSpan : Job
  OneName : Job
  -- an expression of a level, and what follows a left operand
  At : Level → Job
  After : Level → Exp → Job
  -- what follows an l-value
  Suffix : Span → LValue → Job
  -- expressions up to a mark, and more of them
  Listed : Sign → Mark → Job
  Items : Sign → Exps → Job
  -- fields' values
  OneInit : Job
  ListedInits : Job
  MoreInits : Inits → Job
  -- parameters, forms of types, annotations
  OneParam : Job
  ListedParams : Mark → Job
  MoreParams : List Param → Job
  OneForm : Job
  Annotation : Job
  -- what follows `type`, `var` and `function`, and declarations after others
  TypeDec : Job
  VarDec : Job
  FunDec : Job
  MoreDecs : Decs → Job
  Whole_program : Job

-- what each gives
abbrev pub Of : Job → Type 0
Of OneSpan = Span
Of OneName = Ident
Of (At k) = Exp
Of (After k l) = Exp
Of (Suffix s v) = Span × LValue
Of (Listed m c) = Exps × Span
Of (Items m es) = Exps
Of OneInit = Ident × Exp
Of ListedInits = Inits × Span
Of (MoreInits is) = Inits
Of OneParam = Param
Of (ListedParams c) = List Param
Of (MoreParams ps) = List Param
Of OneForm = Form
Of Annotation = Option Ident
Of TypeDec = Dec
Of VarDec = Dec
Of FunDec = Dec
Of (MoreDecs ds) = Decs
Of Whole_program = Exp

-- a program over the first token
pub data Steps (A : Type 0) : Type 0 where
  give : A → Steps A
  refuse : Steps A
  -- a mark, an identifier
  want : Mark → (Span → Steps A) → Steps A
  name : (Ident → Steps A) → Steps A
  -- a mark, an operator, a token that is a value: or else
  split : Mark → (Span → Steps A) → Steps A → Steps A
  oper : Level → (Op → ℕ → Steps A) → Steps A → Steps A
  leaf : (Spanned → Option A) → Steps A → Steps A
  -- by the next token, which stays; by a test
  look : (Token → Steps A) → Steps A
  test : Bool → Steps A → Steps A → Steps A
  -- another job first
  call : (i : Job) → (Of i → Steps A) → Steps A
