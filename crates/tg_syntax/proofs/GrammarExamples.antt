-- Examples of the grammar, the nesting and the nodes, by the definitions.
use Rattle.std.proofs.Common.{ℕ, ◌+◌, ◌≡◌, List, [], ◌∷◌, Bool, true, false, Option, Some, replicate, refl, ap, ◌∙◌}
use Rattle.std.specs.Prelude.{fold, map}
use Rattle.tg_base.specs.declared.ids.Span.{Span}
use Rattle.tg_syntax.specs.declared.tokens.Word.TheVariants.{WArray, WBreak, WDo, WElse, WEnd, WFor, WFunction, WIf, WIn, WLet, WNil, WOf, WThen, WTo}
use Rattle.tg_syntax.specs.declared.tokens.Word.TheVariants.{WType, WVar, WWhile}
use Rattle.tg_syntax.specs.declared.tokens.Sign.TheVariants as sign
use Rattle.tg_syntax.specs.declared.tokens.Token.{Token}
use Rattle.tg_syntax.specs.declared.tokens.Token.TheVariants as token
use Rattle.tg_syntax.specs.declared.tokens.Spanned.{Spanned}
use Rattle.tg_syntax.specs.declared.tokens.Ident.{Ident}
use Rattle.tg_syntax.specs.declared.tokens.Word.{Word}
use Rattle.tg_syntax.specs.declared.trees.Op.{Op}
use Rattle.tg_syntax.specs.declared.trees.Op.TheVariants as op
use Rattle.tg_syntax.specs.Tree.{Form, TypeDec, Exp, LValue, no_exps, exp, no_decs, types}
use Rattle.tg_syntax.specs.Lexing.{spanned}
use Rattle.tg_syntax.specs.Tails.{ends_tail, is_short}
use Rattle.tg_syntax.specs.Nesting.{after_token, nesting_of}
use Rattle.tg_syntax.specs.Measures.{size, decs_size}
use Rattle.tg_syntax.specs.Grammar.{Whole, Comparison, Sum, Term, Tail, sum_op, term_op, Reads, whole_up, or_up, and_up, cmp_up, cmp_two, sum_up}
use Rattle.tg_syntax.specs.Grammar.{sum_more, term_up, term_more, unary_primary, unary_tail, primary_place, primary_int, tail_then, tail_else}
use Rattle.tg_syntax.specs.Grammar.{place_simple, IsProgram, program}

-- tokens of one byte, and words, from a byte on
abbrev tok : Token → ℕ → Spanned
tok one from = spanned one from (from + 1)

abbrev x : ℕ → ℕ → Spanned
x n from = tok (token.Ident (record { 0 = n })) from

abbrev num : ℕ → ℕ → Spanned
num n from = tok (token.Int n) from

abbrev minus : ℕ → Spanned
minus from = tok (token.Sign sign.Minus) from

abbrev plus : ℕ → Spanned
plus from = tok (token.Sign sign.Plus) from

abbrev the_end : ℕ → Spanned
the_end at = spanned token.End at at

abbrev span : ℕ → ℕ → Span
span from to = record { from = from; to = to }

abbrev read : ℕ → ℕ → Exp
read n from = Exp.Read (span from (from + 1)) (LValue.Simple (record { name = record { 0 = n }; span = span from (from + 1) }))

abbrev int : ℕ → ℕ → Exp
int n from = Exp.Int (span from (from + 1)) n

a_name : (n from : ℕ) → Reads Term (x n from ∷ []) (read n from)
a_name n from = term_up (unary_primary (primary_place (place_simple (x n from) (record { name = refl; span = refl }))))

a_number : (n from : ℕ) → Reads Term (num n from ∷ []) (int n from)
a_number n from = term_up (unary_primary (primary_int (num n from) n refl))

sum_whole : {a : List Spanned} {e : Exp} → Reads Sum a e → Reads Whole a e
sum_whole r = whole_up (or_up (and_up (cmp_up r)))

-- `a-b-c` associates to the left
pub left_associated : IsProgram (x 0 0 ∷ minus 1 ∷ x 1 2 ∷ minus 3 ∷ x 2 4 ∷ the_end 5 ∷ [])
    (Exp.Binary (span 0 5) op.Minus 3 (Exp.Binary (span 0 3) op.Minus 1 (read 0 0) (read 1 2)) (read 2 4))
left_associated =
    program {a = x 0 0 ∷ minus 1 ∷ x 1 2 ∷ minus 3 ∷ x 2 4 ∷ []} (the_end 5)
    (sum_whole
    (sum_more {a = x 0 0 ∷ minus 1 ∷ x 1 2 ∷ []} {b = x 2 4 ∷ []} (minus 3)
    (sum_more {a = x 0 0 ∷ []} {b = x 1 2 ∷ []} (minus 1) (sum_up (a_name 0 0)) refl refl (a_name 1 2)) refl refl (a_name 2 4))) refl

true_false : true ≡ false → ⊥
true_false e = cc

-- whether it is an operator of terms
abbrev is_factor : Option Op → Bool
is_factor (Some op.Times) = true
is_factor (Some op.Divide) = true
is_factor _ = false

not_factor : (t : Token) {o : Op} → is_factor (Some o) ≡ false → term_op t ≡ Some o → ⊥
not_factor (token.Sign sign.Times) other e = true_false (ap is_factor e ∙ other)
not_factor (token.Sign sign.Divide) other e = true_false (ap is_factor e ∙ other)
not_factor (token.Sign _) other e = cc
not_factor _ other e = cc

-- a term has no other operator
no_term : {a : List Spanned} {s : Span} {o : Op} {at : ℕ} {l r : Exp} → is_factor (Some o) ≡ false → Reads Term a (Exp.Binary s o at l r) → ⊥
no_term other (term_up (unary_primary h)) = elim h [ ]
no_term other (term_up (unary_tail h)) = elim h [ ]
no_term other (term_more t h ends e k) = not_factor t.token other e

-- and never to the right: a term is no difference
pub not_right : {a : List Spanned} {s z : Span} {at to : ℕ} {l m r : Exp} → Reads Sum a (Exp.Binary s op.Minus at l (Exp.Binary z op.Minus to m r)) → ⊥
not_right (sum_up h) = no_term refl h
not_right (sum_more t h ends e k) = no_term refl k

-- `1+if 1 then 2 else 3+4`: the else arm takes all that follows
abbrev word : Word → ℕ → ℕ → Spanned
word w from to = spanned (token.Word w) from to

abbrev sum_of : ℕ → ℕ → Exp → Exp → ℕ → Exp
sum_of from to l r at = Exp.Binary (span from to) op.Plus at l r

pub tail_takes_all :
    IsProgram (num 1 0 ∷ plus 1 ∷ word WIf 2 4 ∷ num 1 5 ∷ word WThen 7 11 ∷ num 2 12 ∷ word WElse 14 18 ∷ num 3 19 ∷ plus 20 ∷ num 4 21 ∷ the_end 22 ∷ [])
    (sum_of 0 22 (int 1 0) (Exp.If (span 2 22) (int 1 5) (int 2 12) (sum_of 19 22 (int 3 19) (int 4 21) 20)) 1)
tail_takes_all =
    program {a = num 1 0 ∷ plus 1 ∷ word WIf 2 4 ∷ num 1 5 ∷ word WThen 7 11 ∷ num 2 12 ∷ word WElse 14 18 ∷ num 3 19 ∷ plus 20 ∷ num 4 21 ∷ []} (the_end 22)
    (sum_whole
    (sum_more {a = num 1 0 ∷ []} {b = word WIf 2 4 ∷ num 1 5 ∷ word WThen 7 11 ∷ num 2 12 ∷ word WElse 14 18 ∷ num 3 19 ∷
    plus 20 ∷ num 4 21 ∷ []} (plus 1) (sum_up (a_number 1 0)) refl refl
    (term_up (unary_tail
    (tail_else {a = num 1 5 ∷ []} {b = num 2 12 ∷ []} {d = num 3 19 ∷ plus 20 ∷ num 4 21 ∷ []} (word WIf 2 4) (word WThen 7 11) (word WElse 14 18) refl
    (sum_whole (sum_up (a_number 1 5))) refl (sum_whole (sum_up (a_number 2 12))) refl refl
    (sum_whole (sum_more {a = num 3 19 ∷ []} {b = num 4 21 ∷ []} (plus 20) (sum_up (a_number 3 19)) refl refl (a_number 4 21)))))))) refl

-- and the sum never stands after the `if`
pub not_behind : {a : List Spanned} {s z w : Span} {at to : ℕ} {l c x y r : Exp} →
    Reads Sum a (Exp.Binary s op.Plus at (Exp.Binary z op.Plus to l (Exp.If w c x y)) r) → ⊥
not_behind (sum_up h) = no_term refl h
not_behind (sum_more t h ends e k) = true_false ends

-- `if 1 then if 0 then a else b`: the else belongs to the nearest then
pub nearest_then :
    IsProgram (word WIf 0 2 ∷ num 1 3 ∷ word WThen 5 9 ∷ word WIf 10 12 ∷ num 0 13 ∷ word WThen 15 19 ∷ x 0 20 ∷ word WElse 22 26 ∷ x 1 27 ∷ the_end 28 ∷ [])
    (Exp.When (span 0 28) (int 1 3) (Exp.If (span 10 28) (int 0 13) (read 0 20) (read 1 27)))
nearest_then =
    program {a = word WIf 0 2 ∷ num 1 3 ∷ word WThen 5 9 ∷ word WIf 10 12 ∷ num 0 13 ∷ word WThen 15 19 ∷ x 0 20 ∷ word WElse 22 26 ∷ x 1 27 ∷ []} (the_end 28)
    (whole_tail
    (tail_then {a = num 1 3 ∷ []} {b = word WIf 10 12 ∷ num 0 13 ∷ word WThen 15 19 ∷ x 0 20 ∷ word WElse 22 26 ∷ x 1 27 ∷ []}
    (word WIf 0 2) (word WThen 5 9) refl (sum_whole (sum_up (a_number 1 3))) refl
    (whole_tail
    (tail_else {a = num 0 13 ∷ []} {b = x 0 20 ∷ []} {d = x 1 27 ∷ []} (word WIf 10 12) (word WThen 15 19) (word WElse 22 26) refl
    (sum_whole (sum_up (a_number 0 13))) refl (sum_whole (sum_up (a_name 0 20))) refl refl (sum_whole (sum_up (a_name 1 27))))))) refl
  where
    whole_tail : {a : List Spanned} {e : Exp} → Reads Tail a e → Reads Whole a e
    whole_tail r = sum_whole (sum_up (term_up (unary_tail r)))

-- and never to the outer one
pub not_outer : {a : List Spanned} {s z : Span} {c d y w : Exp} → Reads Tail a (Exp.If s c (Exp.When z d y) w) → ⊥
not_outer (tail_else t u v i h j k short l m) = true_false short

-- tails stand at the right end of what they end, and are short where their last expression is
abbrev assigned : Exp → Exp
assigned e = Exp.Assign (span 0 9) (LValue.Simple (record { name = record { 0 = 0 }; span = span 0 1 })) e

abbrev without_else : Exp → Exp
without_else e = Exp.When (span 0 9) (int 1 3) e

abbrev with_else : Exp → Exp
with_else e = Exp.If (span 0 9) (int 1 3) (int 2 5) e

abbrev loop : Exp → Exp
loop e = Exp.While (span 0 9) (int 1 3) e

abbrev counted : Exp → Exp
counted e = Exp.For (span 0 9) (record { name = record { 0 = 0 }; span = span 0 1 }) (int 1 3) (int 2 5) e

abbrev filled : Exp → Exp
filled e = Exp.Fill (span 0 9) (record { name = record { 0 = 0 }; span = span 0 1 }) (int 1 3) e

abbrev tails : List Exp
tails = with_else (int 3 7) ∷ loop (int 3 7) ∷ counted (int 3 7) ∷ filled (int 3 7) ∷ without_else (int 3 7) ∷ []

abbrev ends : (Exp → Exp) → List Bool
ends around = map (λ e. ends_tail (around e)) (int 3 7 ∷ tails)

tails_end : (ends (λ e. e) ≡ false ∷ replicate 5 true) × (ends (λ e. Exp.Neg (span 0 9) e) ≡ false ∷ replicate 5 true) ×
    (ends assigned ≡ false ∷ replicate 5 true)
tails_end = (refl, refl, refl)

tails_enclosed : ends (λ e. Exp.Seq (span 0 9) (exp e no_exps)) ≡ replicate 6 false
tails_enclosed = refl

short : map is_short tails ≡ false ∷ false ∷ false ∷ false ∷ true ∷ []
short = refl

short_inside : (is_short (with_else (without_else (int 3 7))) ≡ true) × (is_short (loop (without_else (int 3 7))) ≡ true) ×
    (is_short (counted (without_else (int 3 7))) ≡ true) × (is_short (filled (without_else (int 3 7))) ≡ true) ×
    (is_short (assigned (without_else (int 3 7))) ≡ true)
short_inside = (refl, refl, refl, refl, refl)

-- `a = b = c` compares nothing: a comparison is no side of another
not_sum : (t : Token) → sum_op t ≡ Some op.Equal → ⊥
not_sum (token.Sign sign.Plus) e = cc
not_sum (token.Sign sign.Minus) e = cc
not_sum (token.Sign _) e = cc
not_sum _ e = cc

sum_equal : {a : List Spanned} {s : Span} {at : ℕ} {l r : Exp} → Reads Sum a (Exp.Binary s op.Equal at l r) → ⊥
sum_equal (sum_up h) = no_term refl h
sum_equal (sum_more t h ends e k) = not_sum t.token e

pub compares_once : {a : List Spanned} {s z : Span} {at to : ℕ} {o : Op} {l m r : Exp} →
    Reads Comparison a (Exp.Binary s o at (Exp.Binary z op.Equal to l m) r) → Reads Sum a (Exp.Binary s o at (Exp.Binary z op.Equal to l m) r)
compares_once (cmp_up h) = h
compares_once (cmp_two t h ends e k) = absurd (sum_equal h)

-- nestings
abbrev nesting : List Token → ℕ
nesting tokens = nesting_of (fold (λ counts one. after_token one counts) (0 ∷ []) tokens)

abbrev id : Token
id = token.Ident (record { 0 = 0 })

pub nesting_none : nesting [] ≡ 0
nesting_none = refl

-- two signs, before a token
abbrev behind_signs : Token → ℕ
behind_signs one = nesting (token.Sign sign.Minus ∷ token.Sign sign.Minus ∷ one ∷ [])

-- names, ints and texts leave the nesting
nesting_left : (behind_signs id ≡ 2) × (behind_signs (token.Int 7) ≡ 2) × (behind_signs (token.Text (7 ∷ [])) ≡ 2)
nesting_left = (refl, refl, refl)

-- operators, `:=` and `.` raise it, and so do the words that begin a tail
abbrev raising : List Token
raising =
    token.Sign sign.Dot ∷ token.Sign sign.Plus ∷ token.Sign sign.Minus ∷ token.Sign sign.Times ∷ token.Sign sign.Divide ∷
    token.Sign sign.Equal ∷ token.Sign sign.NotEqual ∷ token.Sign sign.Less ∷ token.Sign sign.LessEqual ∷
    token.Sign sign.Greater ∷ token.Sign sign.GreaterEqual ∷ token.Sign sign.And ∷ token.Sign sign.Or ∷ token.Sign sign.Assign ∷
    token.Word WIf ∷ token.Word WWhile ∷ token.Word WFor ∷ token.Word WOf ∷ []

nesting_raised : map behind_signs raising ≡ replicate 18 3
nesting_raised = refl

-- a list's separators and the words that begin a part of a `let` make it 0 again
nesting_reset : map behind_signs (token.Sign sign.Semicolon ∷ token.Sign sign.Comma ∷ token.Word WIn ∷ token.Word WType ∷
    token.Word WVar ∷ token.Word WFunction ∷ []) ≡ replicate 6 0
nesting_reset = refl

-- a colon and the other words leave it
nesting_kept : map behind_signs (token.Sign sign.Colon ∷ token.Word WThen ∷ token.Word WElse ∷ token.Word WDo ∷
    token.Word WTo ∷ token.Word WNil ∷ token.Word WBreak ∷ token.Word WArray ∷ []) ≡ replicate 8 2
nesting_kept = refl

-- what opens a bracket counts one, and a new count begins
nesting_opened : map behind_signs (token.Sign sign.LeftParen ∷ token.Sign sign.LeftBracket ∷ token.Sign sign.LeftBrace ∷ token.Word WLet ∷ []) ≡ replicate 4 3
nesting_opened = refl

-- what closes it takes its count away; `]` raises the one around it
abbrev closed : (opening closing : Token) → ℕ
closed opening closing = nesting (opening ∷ token.Sign sign.Minus ∷ token.Sign sign.Minus ∷ closing ∷ [])

nesting_closed :
    (closed (token.Sign sign.LeftParen) (token.Sign sign.RightParen) ≡ 0) × (closed (token.Sign sign.LeftBrace) (token.Sign sign.RightBrace) ≡ 0) ×
    (closed (token.Word WLet) (token.Word WEnd) ≡ 0) × (closed (token.Sign sign.LeftBracket) (token.Sign sign.RightBracket) ≡ 1)
nesting_closed = (refl, refl, refl, refl)

-- a reset inside leaves the counts around it
nesting_reset_inside : nesting (token.Sign sign.Minus ∷ token.Sign sign.LeftParen ∷ token.Sign sign.Minus ∷ token.Sign sign.Semicolon ∷ []) ≡ 2
nesting_reset_inside = refl

pub nesting_call : nesting (id ∷ token.Sign sign.LeftParen ∷ token.Sign sign.Minus ∷ token.Int 1 ∷ token.Sign sign.RightParen ∷ []) ≡ 0
nesting_call = refl

pub nesting_let : nesting (token.Word WLet ∷ token.Word WType ∷ id ∷ token.Sign sign.Equal ∷ id ∷ []) ≡ 2
nesting_let = refl

-- what was not opened isn't closed
pub nesting_unopened : nesting (token.Sign sign.RightParen ∷ token.Sign sign.RightParen ∷ token.Word WIf ∷ []) ≡ 1
nesting_unopened = refl

pub nesting_deep : nesting (replicate 257 (token.Sign sign.LeftParen)) ≡ 257
nesting_deep = refl

-- nodes
pub size-read : size (read 0 0) ≡ 2
size-read = refl

abbrev two_fields : TypeDec
two_fields =
    let x : Ident = record { name = record { 0 = 0 }; span = span 0 1 } in
    record { name = x; form = Form.Fields (record { name = x; kind = x } ∷ record { name = x; kind = x } ∷ []) }

pub size-types : decs_size (types (two_fields ∷ []) no_decs) ≡ 4
size-types = refl

pub size-for : size (Exp.For (span 0 9) (record { name = record { 0 = 0 }; span = span 4 5 }) (int 1 1) (int 2 2) (Exp.Seq (span 3 5) no_exps)) ≡ 4
size-for = refl
