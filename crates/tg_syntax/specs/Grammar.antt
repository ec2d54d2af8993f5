-- The grammar, a case for each way to write a part (Appel, appendix A). Left recursion makes
-- operators associate to the left.
use Rattle.std.specs.Prelude.{ℕ, ◌≡◌, false, List, [], ◌∷◌, ◌++◌, Option, Some, None}
use Rattle.tg_base.specs.declared.ids.Span.{Span}
use Rattle.tg_syntax.specs.declared.tokens.Word.{Word}
use Rattle.tg_syntax.specs.declared.tokens.Word.TheVariants.{WArray, WBreak, WDo, WElse, WEnd, WFor}
use Rattle.tg_syntax.specs.declared.tokens.Word.TheVariants.{WFunction, WIf, WIn, WLet, WNil, WOf}
use Rattle.tg_syntax.specs.declared.tokens.Word.TheVariants.{WThen, WTo, WType, WVar, WWhile}
use Rattle.tg_syntax.specs.declared.tokens.Sign.{Sign}
use Rattle.tg_syntax.specs.declared.tokens.Sign.TheVariants.{Comma, Colon, Semicolon, LeftParen}
use Rattle.tg_syntax.specs.declared.tokens.Sign.TheVariants.{RightParen, LeftBracket, RightBracket}
use Rattle.tg_syntax.specs.declared.tokens.Sign.TheVariants.{LeftBrace, RightBrace, Dot, Equal}
use Rattle.tg_syntax.specs.declared.tokens.Sign.TheVariants as sign
use Rattle.tg_syntax.specs.declared.tokens.Token.{Token}
use Rattle.tg_syntax.specs.declared.tokens.Token.TheVariants as token
use Rattle.tg_syntax.specs.declared.tokens.Spanned.{Spanned}
use Rattle.tg_syntax.specs.declared.tokens.Ident.{Ident}
use Rattle.tg_syntax.specs.declared.trees.Param.{Param}
use Rattle.tg_syntax.specs.declared.trees.Op.{Op}
use Rattle.tg_syntax.specs.declared.trees.Op.TheVariants as op
use Rattle.tg_syntax.specs.Tree.{Form, Alias, Fields, Array, Exp, Nil, Break, Int, Text, Read, Call}
use Rattle.tg_syntax.specs.Tree.{Neg, Binary, Make, Fill, Assign, If, When, While, For, Let, Seq}
use Rattle.tg_syntax.specs.Tree.{LValue, Simple, Field, Index, Exps, no_exps, exp, Inits, no_inits}
use Rattle.tg_syntax.specs.Tree.{init, Decs, no_decs}
use Rattle.tg_syntax.specs.Spans.{span_of, joined}
use Rattle.tg_syntax.specs.Tails.{ends_tail, is_short}
use Rattle.tg_syntax.specs.Groups.{snoc, snoc_init, Dec, one_type, one_variable, one_function}
use Rattle.tg_syntax.specs.Groups.{snoc_dec}

-- what the grammar's left sides name
pub data Level : Type 0 where
  Whole Disjunction Conjunction Comparison Sum Term Unary Primary Tail : Level

-- the operators of each level
abbrev pub or_op : Token → Option Op
or_op (token.Sign sign.Or) = Some op.Or
or_op _ = None

abbrev pub and_op : Token → Option Op
and_op (token.Sign sign.And) = Some op.And
and_op _ = None

abbrev pub rel_op : Token → Option Op
rel_op (token.Sign Equal) = Some op.Equal
rel_op (token.Sign sign.NotEqual) = Some op.NotEqual
rel_op (token.Sign sign.Less) = Some op.Less
rel_op (token.Sign sign.LessEqual) = Some op.LessEqual
rel_op (token.Sign sign.Greater) = Some op.Greater
rel_op (token.Sign sign.GreaterEqual) = Some op.GreaterEqual
rel_op _ = None

abbrev pub sum_op : Token → Option Op
sum_op (token.Sign sign.Plus) = Some op.Plus
sum_op (token.Sign sign.Minus) = Some op.Minus
sum_op _ = None

abbrev pub term_op : Token → Option Op
term_op (token.Sign sign.Times) = Some op.Times
term_op (token.Sign sign.Divide) = Some op.Divide
term_op _ = None

-- a token is a sign, a reserved word, an identifier
abbrev pub IsSign : Spanned → Sign → Type 0
IsSign t s = t.token ≡ token.Sign s

abbrev pub IsWord : Spanned → Word → Type 0
IsWord t w = t.token ≡ token.Word w

pub record IsIdent (t : Spanned) (x : Ident) : Type 0 where
  pub name : t.token ≡ token.Ident x.name
  pub span : t.span ≡ x.span

-- fields = id ":" id {"," id ":" id}
pub data AreFields : List Spanned → List Param → Type 0 where
  one_field :
      (t c u : Spanned) {x k : Ident} →
      IsIdent t x → IsSign c Colon → IsIdent u k →
      AreFields (t ∷ c ∷ u ∷ []) (record { name = x; kind = k } ∷ [])
  more_fields :
      {a : List Spanned} {ps : List Param} (m t c u : Spanned) {x k : Ident} →
      AreFields a ps → IsSign m Comma → IsIdent t x → IsSign c Colon → IsIdent u k →
      AreFields (a ++ m ∷ t ∷ c ∷ u ∷ []) (ps ++ record { name = x; kind = k } ∷ [])

-- [fields]
pub data AreAnyFields : List Spanned → List Param → Type 0 where
  no_fields : AreAnyFields [] []
  some_fields : {a : List Spanned} {ps : List Param} → AreFields a ps → AreAnyFields a ps

-- ty = id | "{" [fields] "}" | "array" "of" id
pub data IsForm : List Spanned → Form → Type 0 where
  alias : (t : Spanned) {x : Ident} → IsIdent t x → IsForm (t ∷ []) (Alias x)
  fields :
      {a : List Spanned} {ps : List Param} (l r : Spanned) →
      IsSign l LeftBrace → AreAnyFields a ps → IsSign r RightBrace →
      IsForm (l ∷ a ++ r ∷ []) (Fields ps)
  array :
      (t o u : Spanned) {x : Ident} →
      IsWord t WArray → IsWord o WOf → IsIdent u x →
      IsForm (t ∷ o ∷ u ∷ []) (Array x)

-- [":" id]
pub data IsAnnotation : List Spanned → Option Ident → Type 0 where
  not_annotated : IsAnnotation [] None
  annotated :
      (c t : Spanned) {x : Ident} →
      IsSign c Colon → IsIdent t x →
      IsAnnotation (c ∷ t ∷ []) (Some x)

mutual
  -- these tokens are this expression, of this level
  pub data Reads : Level → List Spanned → Exp → Type 0 where
    -- exp = lvalue ":=" exp | or
    whole_assign :
        {a b : List Spanned} {s : Span} {v : LValue} {e : Exp} (t : Spanned) →
        IsPlace a s v → IsSign t sign.Assign → Reads Whole b e →
        Reads Whole (a ++ t ∷ b) (Assign (joined s (span_of e)) v e)
    whole_up : {a : List Spanned} {e : Exp} → Reads Disjunction a e → Reads Whole a e
    -- or = and | or "|" and
    or_up : {a : List Spanned} {e : Exp} → Reads Conjunction a e → Reads Disjunction a e
    or_more :
        {a b : List Spanned} (t : Spanned) {o : Op} {l r : Exp} →
        Reads Disjunction a l → ends_tail l ≡ false → or_op t.token ≡ Some o →
        Reads Conjunction b r →
        Reads Disjunction (a ++ t ∷ b) (Binary (joined (span_of l) (span_of r)) o t.span.from l r)
    -- and = cmp | and "&" cmp
    and_up : {a : List Spanned} {e : Exp} → Reads Comparison a e → Reads Conjunction a e
    and_more :
        {a b : List Spanned} (t : Spanned) {o : Op} {l r : Exp} →
        Reads Conjunction a l → ends_tail l ≡ false → and_op t.token ≡ Some o →
        Reads Comparison b r →
        Reads Conjunction (a ++ t ∷ b) (Binary (joined (span_of l) (span_of r)) o t.span.from l r)
    -- cmp = sum | sum relop sum
    cmp_up : {a : List Spanned} {e : Exp} → Reads Sum a e → Reads Comparison a e
    cmp_two :
        {a b : List Spanned} (t : Spanned) {o : Op} {l r : Exp} →
        Reads Sum a l → ends_tail l ≡ false → rel_op t.token ≡ Some o → Reads Sum b r →
        Reads Comparison (a ++ t ∷ b) (Binary (joined (span_of l) (span_of r)) o t.span.from l r)
    -- sum = term | sum ("+" | "-") term
    sum_up : {a : List Spanned} {e : Exp} → Reads Term a e → Reads Sum a e
    sum_more :
        {a b : List Spanned} (t : Spanned) {o : Op} {l r : Exp} →
        Reads Sum a l → ends_tail l ≡ false → sum_op t.token ≡ Some o → Reads Term b r →
        Reads Sum (a ++ t ∷ b) (Binary (joined (span_of l) (span_of r)) o t.span.from l r)
    -- term = unary | term ("*" | "/") unary
    term_up : {a : List Spanned} {e : Exp} → Reads Unary a e → Reads Term a e
    term_more :
        {a b : List Spanned} (t : Spanned) {o : Op} {l r : Exp} →
        Reads Term a l → ends_tail l ≡ false → term_op t.token ≡ Some o → Reads Unary b r →
        Reads Term (a ++ t ∷ b) (Binary (joined (span_of l) (span_of r)) o t.span.from l r)
    -- unary = "-" unary | primary | tail
    unary_minus :
        {a : List Spanned} {e : Exp} (t : Spanned) →
        IsSign t sign.Minus → Reads Unary a e →
        Reads Unary (t ∷ a) (Neg (joined t.span (span_of e)) e)
    unary_primary : {a : List Spanned} {e : Exp} → Reads Primary a e → Reads Unary a e
    unary_tail : {a : List Spanned} {e : Exp} → Reads Tail a e → Reads Unary a e
    -- primary = lvalue | "nil" | int | string | "break"
    primary_place :
        {a : List Spanned} {s : Span} {v : LValue} →
        IsPlace a s v →
        Reads Primary a (Read s v)
    primary_nil : (t : Spanned) → IsWord t WNil → Reads Primary (t ∷ []) (Nil t.span)
    primary_int :
        (t : Spanned) (n : ℕ) →
        t.token ≡ token.Int n →
        Reads Primary (t ∷ []) (Int t.span n)
    primary_text :
        (t : Spanned) (bytes : List ℕ) →
        t.token ≡ token.Text bytes →
        Reads Primary (t ∷ []) (Text t.span bytes)
    primary_break : (t : Spanned) → IsWord t WBreak → Reads Primary (t ∷ []) (Break t.span)
    -- | "(" [exp {";" exp}] ")"
    primary_sequence :
        {a : List Spanned} {es : Exps} (l r : Spanned) →
        IsSign l LeftParen → AreAny Semicolon a es → IsSign r RightParen →
        Reads Primary (l ∷ a ++ r ∷ []) (Seq (joined l.span r.span) es)
    -- | id "(" [exp {"," exp}] ")"
    primary_call :
        {a : List Spanned} {es : Exps} (t l r : Spanned) {f : Ident} →
        IsIdent t f → IsSign l LeftParen → AreAny Comma a es → IsSign r RightParen →
        Reads Primary (t ∷ l ∷ a ++ r ∷ []) (Call (joined t.span r.span) f es)
    -- | id "{" [id "=" exp {"," id "=" exp}] "}"
    primary_record :
        {a : List Spanned} {is : Inits} (t l r : Spanned) {x : Ident} →
        IsIdent t x → IsSign l LeftBrace → AreAnyInits a is → IsSign r RightBrace →
        Reads Primary (t ∷ l ∷ a ++ r ∷ []) (Make (joined t.span r.span) x is)
    -- | "let" {dec} "in" [exp {";" exp}] "end"
    primary_let :
        {a b : List Spanned} {ds : Decs} {es : Exps} (t i e : Spanned) →
        IsWord t WLet → AreDecs a ds → IsWord i WIn → AreAny Semicolon b es → IsWord e WEnd →
        Reads Primary (t ∷ (a ++ i ∷ (b ++ e ∷ []))) (Let (joined t.span e.span) ds es)
    -- tail = "if" exp "then" exp ["else" exp]
    tail_then :
        {a b : List Spanned} {c x : Exp} (t u : Spanned) →
        IsWord t WIf → Reads Whole a c → IsWord u WThen → Reads Whole b x →
        Reads Tail (t ∷ (a ++ u ∷ b)) (When (joined t.span (span_of x)) c x)
    tail_else :
        {a b d : List Spanned} {c x y : Exp} (t u w : Spanned) →
        IsWord t WIf → Reads Whole a c → IsWord u WThen → Reads Whole b x → is_short x ≡ false →
        IsWord w WElse → Reads Whole d y →
        Reads Tail (t ∷ (a ++ u ∷ (b ++ w ∷ d))) (If (joined t.span (span_of y)) c x y)
    -- | "while" exp "do" exp
    tail_while :
        {a b : List Spanned} {c x : Exp} (t u : Spanned) →
        IsWord t WWhile → Reads Whole a c → IsWord u WDo → Reads Whole b x →
        Reads Tail (t ∷ (a ++ u ∷ b)) (While (joined t.span (span_of x)) c x)
    -- | "for" id ":=" exp "to" exp "do" exp
    tail_for :
        {a b d : List Spanned} {low high x : Exp} (t i g u w : Spanned) {v : Ident} →
        IsWord t WFor → IsIdent i v → IsSign g sign.Assign → Reads Whole a low → IsWord u WTo →
        Reads Whole b high → IsWord w WDo → Reads Whole d x →
        Reads Tail (t ∷ i ∷ g ∷ (a ++ u ∷ (b ++ w ∷ d)))
        (For (joined t.span (span_of x)) v low high x)
    -- | id "[" exp "]" "of" exp
    tail_fill :
        {a b : List Spanned} {n x : Exp} (t l r o : Spanned) {k : Ident} →
        IsIdent t k → IsSign l LeftBracket → Reads Whole a n → IsSign r RightBracket →
        IsWord o WOf → Reads Whole b x →
        Reads Tail (t ∷ l ∷ (a ++ r ∷ o ∷ b)) (Fill (joined t.span (span_of x)) k n x)

  -- lvalue = id | lvalue "." id | lvalue "[" exp "]", with its span
  pub data IsPlace : List Spanned → Span → LValue → Type 0 where
    place_simple : (t : Spanned) {x : Ident} → IsIdent t x → IsPlace (t ∷ []) t.span (Simple x)
    place_field :
        {a : List Spanned} {s : Span} {v : LValue} (d t : Spanned) {x : Ident} →
        IsPlace a s v → IsSign d Dot → IsIdent t x →
        IsPlace (a ++ d ∷ t ∷ []) (joined s t.span) (Field v x)
    place_index :
        {a b : List Spanned} {s : Span} {v : LValue} {e : Exp} (l r : Spanned) →
        IsPlace a s v → IsSign l LeftBracket → Reads Whole b e → IsSign r RightBracket →
        IsPlace (a ++ l ∷ (b ++ r ∷ [])) (joined s r.span) (Index v e)

  -- exp {separator exp}
  pub data AreMany : Sign → List Spanned → Exps → Type 0 where
    many_one :
        {s : Sign} {a : List Spanned} {e : Exp} →
        Reads Whole a e →
        AreMany s a (exp e no_exps)
    many_more :
        {s : Sign} {a b : List Spanned} {es : Exps} {e : Exp} (t : Spanned) →
        AreMany s a es → IsSign t s → Reads Whole b e →
        AreMany s (a ++ t ∷ b) (snoc es e)

  -- [exp {separator exp}]
  pub data AreAny : Sign → List Spanned → Exps → Type 0 where
    any_none : {s : Sign} → AreAny s [] no_exps
    any_many : {s : Sign} {a : List Spanned} {es : Exps} → AreMany s a es → AreAny s a es

  -- id "=" exp {"," id "=" exp}
  pub data AreInits : List Spanned → Inits → Type 0 where
    one_init :
        {a : List Spanned} {e : Exp} (t q : Spanned) {x : Ident} →
        IsIdent t x → IsSign q Equal → Reads Whole a e →
        AreInits (t ∷ q ∷ a) (init x e no_inits)
    more_inits :
        {a b : List Spanned} {is : Inits} {e : Exp} (m t q : Spanned) {x : Ident} →
        AreInits a is → IsSign m Comma → IsIdent t x → IsSign q Equal → Reads Whole b e →
        AreInits (a ++ m ∷ t ∷ q ∷ b) (snoc_init is x e)

  -- [id "=" exp {"," id "=" exp}]
  pub data AreAnyInits : List Spanned → Inits → Type 0 where
    any_no_inits : AreAnyInits [] no_inits
    any_inits : {a : List Spanned} {is : Inits} → AreInits a is → AreAnyInits a is

  -- dec = "type" id "=" ty | "var" id [":" id] ":=" exp | "function" id "(" [fields] ")" [":" id]
  -- "=" exp
  pub data IsDec : List Spanned → Dec → Type 0 where
    dec_type :
        {a : List Spanned} {f : Form} (t i q : Spanned) {x : Ident} →
        IsWord t WType → IsIdent i x → IsSign q Equal → IsForm a f →
        IsDec (t ∷ i ∷ q ∷ a) (one_type (record { name = x; form = f }))
    dec_variable :
        {a b : List Spanned} {k : Option Ident} {e : Exp} (t i g : Spanned) {x : Ident} →
        IsWord t WVar → IsIdent i x → IsAnnotation a k → IsSign g sign.Assign → Reads Whole b e →
        IsDec (t ∷ i ∷ (a ++ g ∷ b)) (one_variable x k e)
    dec_function :
        {a b d : List Spanned} {ps : List Param} {k : Option Ident} {e : Exp}
        (t i l r q : Spanned) {f : Ident} →
        IsWord t WFunction → IsIdent i f → IsSign l LeftParen → AreAnyFields a ps →
        IsSign r RightParen → IsAnnotation b k → IsSign q Equal → Reads Whole d e →
        IsDec (t ∷ i ∷ l ∷ (a ++ r ∷ (b ++ q ∷ d))) (one_function f ps k e)

  -- {dec}, where a group is as long as possible
  pub data AreDecs : List Spanned → Decs → Type 0 where
    decs_none : AreDecs [] no_decs
    decs_more :
        {a b : List Spanned} {ds : Decs} {d : Dec} →
        AreDecs a ds → IsDec b d →
        AreDecs (a ++ b) (snoc_dec ds d)

-- program = exp, and the end
pub data IsProgram : List Spanned → Exp → Type 0 where
  program :
      {a : List Spanned} {e : Exp} (t : Spanned) →
      Reads Whole a e → t.token ≡ token.End →
      IsProgram (a ++ t ∷ []) e
