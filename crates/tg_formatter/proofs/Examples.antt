-- Canonical texts, computed.
use Rattle.std.proofs.Common.{ℕ, ◌≡◌, List, [], ◌∷◌, refl}
use Rattle.std.specs.Prelude.{codes}
use Rattle.std.specs.Fmt.{digits}
use Rattle.tg_syntax.specs.declared.tokens.Sign.TheVariants.{Comma, Semicolon, LeftParen, RightParen, LeftBracket, RightBracket, Dot, Minus, Times}
use Rattle.tg_syntax.specs.declared.tokens.Sign.TheVariants.{Assign, NotEqual, LessEqual}
use Rattle.tg_syntax.specs.declared.tokens.Word.TheVariants.{WLet, WVar, WIn, WEnd, WNil, WIf, WThen, WElse, WOf}
use Rattle.tg_syntax.specs.declared.tokens.Token.{Token}
use Rattle.tg_syntax.specs.declared.tokens.Token.TheVariants.{Word, Sign, Ident, Int, Text, End}
use Rattle.tg_formatter.specs.Canonical.{canonical, quoted_text}

abbrev names : List (List ℕ)
names = codes "a" ∷ codes "b" ∷ codes "c" ∷ codes "f" ∷ codes "i" ∷ codes "print" ∷ codes "t" ∷ []

abbrev name : ℕ → Token
name n = Ident (record { 0 = n })

abbrev text : List Token → List ℕ
text tokens = canonical names tokens

-- `let var a:=007 in print( "\065" );a end`
a_let :
    text (Word WLet ∷ Word WVar ∷ name 0 ∷ Sign Assign ∷ Int 7 ∷ Word WIn ∷ name 5 ∷ Sign LeftParen ∷ Text (65 ∷ []) ∷ Sign RightParen
    ∷ Sign Semicolon ∷ name 0 ∷ Word WEnd ∷ End ∷ []) ≡ codes "let\n  var a := 7\nin\n  print(\"A\");\n  a\nend\n"
unfolding digits
a_let = refl

-- `/* x */ f(- -1,b[ 2 ].c)`
a_call :
    text (name 3 ∷ Sign LeftParen ∷ Sign Minus ∷ Sign Minus ∷ Int 1 ∷ Sign Comma ∷ name 1 ∷ Sign LeftBracket ∷ Int 2 ∷ Sign RightBracket
    ∷ Sign Dot ∷ name 2 ∷ Sign RightParen ∷ End ∷ []) ≡ codes "f(--1, b[2].c)\n"
unfolding digits
a_call = refl

-- `let in end`
empty_let : text (Word WLet ∷ Word WIn ∷ Word WEnd ∷ End ∷ []) ≡ codes "let\nin\nend\n"
empty_let = refl

-- `a[i]:=a[i]- -1`
two_minuses :
    text (name 0 ∷ Sign LeftBracket ∷ name 4 ∷ Sign RightBracket ∷ Sign Assign ∷ name 0 ∷ Sign LeftBracket ∷ name 4 ∷ Sign RightBracket ∷ Sign Minus
    ∷ Sign Minus ∷ Int 1 ∷ End ∷ []) ≡ codes "a[i] := a[i] - -1\n"
unfolding digits
two_minuses = refl

-- `nil<>(-2)*-f()`
behind_operators :
    text (Word WNil ∷ Sign NotEqual ∷ Sign LeftParen ∷ Sign Minus ∷ Int 2 ∷ Sign RightParen ∷ Sign Times ∷ Sign Minus ∷ name 3 ∷ Sign LeftParen
    ∷ Sign RightParen ∷ End ∷ []) ≡ codes "nil <> (-2) * -f()\n"
unfolding digits
behind_operators = refl

-- `if a<=-1 then (b;c) else t[2] of 3`
a_sequence :
    text (Word WIf ∷ name 0 ∷ Sign LessEqual ∷ Sign Minus ∷ Int 1 ∷ Word WThen ∷ Sign LeftParen ∷ name 1 ∷ Sign Semicolon ∷ name 2 ∷ Sign RightParen
    ∷ Word WElse ∷ name 6 ∷ Sign LeftBracket ∷ Int 2 ∷ Sign RightBracket ∷ Word WOf ∷ Int 3 ∷ End ∷ [])
    ≡ codes "if a <= -1 then (b;\n  c) else t[2] of 3\n"
unfolding digits
a_sequence = refl

-- `f(let in end)`
inner_let :
    text (name 3 ∷ Sign LeftParen ∷ Word WLet ∷ Word WIn ∷ Word WEnd ∷ Sign RightParen ∷ End ∷ []) ≡ codes "f(let\n  in\n  end)\n"
inner_let = refl

-- `let var a:=nil in end`
no_type : text (Word WLet ∷ Word WVar ∷ name 0 ∷ Sign Assign ∷ Word WNil ∷ Word WIn ∷ Word WEnd ∷ End ∷ []) ≡ codes "let\n  var a := nil\nin\nend\n"
no_type = refl

-- `print("\065\^J\   \x")`
some_escapes :
    text (name 5 ∷ Sign LeftParen ∷ Text (65 ∷ 10 ∷ 120 ∷ []) ∷ Sign RightParen ∷ End ∷ []) ≡ codes "print(\"A\\nx\")\n"
some_escapes = refl

each_escape : quoted_text (10 ∷ 9 ∷ 34 ∷ 92 ∷ 0 ∷ 31 ∷ 32 ∷ 126 ∷ 127 ∷ 195 ∷ 164 ∷ 255 ∷ []) ≡
    codes "\\n\\t\\\"\\\\\\000\\031 ~\\127\\195\\164\\255"
each_escape = refl
