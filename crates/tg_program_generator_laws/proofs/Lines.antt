-- The lines of generated programs, as lexemes.
use Rattle.std.proofs.Common.{ℕ, zero, suc, ◌+◌, ◌-◌, ◌≡◌, List, [], ◌∷◌, ◌++◌, false, refl, sym, ap, ◌∙◌, arith}
use Rattle.std.specs.Prelude.{codes}
use Rattle.std.specs.Fmt.{decimal, digits}
use Rattle.std.specs.Prelude.{◌==◌, cond}
use Rattle.std.proofs.lemmas.Bool.Decides.{nat_tests}
use Rattle.tg_syntax.specs.declared.tokens.Word.TheVariants.{WElse, WEnd, WFunction, WIf, WIn, WLet, WThen, WVar}
use Rattle.tg_syntax.specs.declared.tokens.Sign.TheVariants.{Colon, Semicolon, LeftParen, RightParen, Plus, Minus, Times, Divide, Equal, Greater, Assign}
use Rattle.tg_program_generator.specs.Generated.{generated, head_lines, first_line, later_line, function_line, function_lines, last_line}
use Rattle.tg_program_generator_laws.proofs.Lexemes.{Lexeme, gap, mark, word, name, int, quote, spelled, spelled-append}

-- Names are numbered as they first come: s 0, d 1, i 2, int 3, print 4, chr 5, ord 6, p 7, f1 8, a 9, f2 10, b 11, g 12, c 13, f3 14, and so on.
-- What the function of a number is called, counted from 0, and the number of its name.
abbrev pub function_text : ℕ → List ℕ
function_text k = 102 ∷ decimal (suc k)

abbrev pub place : ℕ → ℕ
place zero = 8
place (suc zero) = 10
place (suc (suc k)) = 14 + k

abbrev pub called : ℕ → Lexeme
called k = name (function_text k) (place k)

abbrev pub zero_text : Lexeme
zero_text = quote (codes "0") (codes "0")

abbrev pub newline_text : Lexeme
newline_text = quote (codes "\\n") (10 ∷ [])

abbrev pub head : List Lexeme
head =
    word WLet ∷ gap 32 ∷ word WVar ∷ gap 32 ∷ name (codes "s") 0 ∷ gap 32 ∷ mark Assign ∷ gap 32 ∷ int (codes "0") 0 ∷ gap 10 ∷ word WFunction ∷
    gap 32 ∷ name (codes "d") 1 ∷ mark LeftParen ∷ name (codes "i") 2 ∷ mark Colon ∷ gap 32 ∷ name (codes "int") 3 ∷ mark RightParen ∷ gap 32 ∷
    mark Equal ∷ gap 32 ∷ name (codes "print") 4 ∷ mark LeftParen ∷ name (codes "chr") 5 ∷ mark LeftParen ∷ name (codes "i") 2 ∷ gap 32 ∷ mark Plus ∷
    gap 32 ∷ name (codes "ord") 6 ∷ mark LeftParen ∷ zero_text ∷ mark RightParen ∷ mark RightParen ∷ mark RightParen ∷ gap 10 ∷ word WFunction ∷
    gap 32 ∷ name (codes "p") 7 ∷ mark LeftParen ∷ name (codes "i") 2 ∷ mark Colon ∷ gap 32 ∷ name (codes "int") 3 ∷ mark RightParen ∷ gap 32 ∷
    mark Equal ∷ gap 32 ∷ word WIf ∷ gap 32 ∷ name (codes "i") 2 ∷ gap 32 ∷ mark Greater ∷ gap 32 ∷ int (codes "9") 9 ∷ gap 32 ∷ word WThen ∷ gap 32 ∷
    mark LeftParen ∷ name (codes "p") 7 ∷ mark LeftParen ∷ name (codes "i") 2 ∷ gap 32 ∷ mark Divide ∷ gap 32 ∷ int (codes "10") 10 ∷
    mark RightParen ∷ mark Semicolon ∷ gap 32 ∷ name (codes "d") 1 ∷ mark LeftParen ∷ name (codes "i") 2 ∷ gap 32 ∷ mark Minus ∷ gap 32 ∷
    name (codes "i") 2 ∷ gap 32 ∷ mark Divide ∷ gap 32 ∷ int (codes "10") 10 ∷ gap 32 ∷ mark Times ∷ gap 32 ∷ int (codes "10") 10 ∷ mark RightParen ∷
    mark RightParen ∷ gap 32 ∷ word WElse ∷ gap 32 ∷ name (codes "d") 1 ∷ mark LeftParen ∷ name (codes "i") 2 ∷ mark RightParen ∷ gap 10 ∷ []

abbrev pub first : List Lexeme
first =
    word WFunction ∷ gap 32 ∷ called 0 ∷ mark LeftParen ∷ name (codes "a") 9 ∷ mark Colon ∷ gap 32 ∷ name (codes "int") 3 ∷ mark RightParen ∷
    mark Colon ∷ gap 32 ∷ name (codes "int") 3 ∷ gap 32 ∷ mark Equal ∷ gap 32 ∷ name (codes "a") 9 ∷ gap 10 ∷ []

abbrev pub later : ℕ → List Lexeme
later k =
    word WFunction ∷ gap 32 ∷ called (suc k) ∷ mark LeftParen ∷ name (codes "a") 9 ∷ mark Colon ∷ gap 32 ∷ name (codes "int") 3 ∷ mark RightParen ∷
    mark Colon ∷ gap 32 ∷ name (codes "int") 3 ∷ gap 32 ∷ mark Equal ∷ gap 32 ∷ word WLet ∷ gap 32 ∷ word WVar ∷ gap 32 ∷ name (codes "b") 11 ∷
    gap 32 ∷ mark Assign ∷ gap 32 ∷ name (codes "a") 9 ∷ gap 32 ∷ mark Plus ∷ gap 32 ∷ int (decimal (suc (suc k))) (suc (suc k)) ∷ gap 32 ∷
    word WFunction ∷ gap 32 ∷ name (codes "g") 12 ∷ mark LeftParen ∷ name (codes "c") 13 ∷ mark Colon ∷ gap 32 ∷ name (codes "int") 3 ∷
    mark RightParen ∷ mark Colon ∷ gap 32 ∷ name (codes "int") 3 ∷ gap 32 ∷ mark Equal ∷ gap 32 ∷ mark LeftParen ∷ name (codes "s") 0 ∷ gap 32 ∷
    mark Assign ∷ gap 32 ∷ name (codes "s") 0 ∷ gap 32 ∷ mark Plus ∷ gap 32 ∷ name (codes "c") 13 ∷ mark Semicolon ∷ gap 32 ∷ name (codes "b") 11 ∷
    gap 32 ∷ mark Plus ∷ gap 32 ∷ name (codes "c") 13 ∷ mark RightParen ∷ gap 32 ∷ word WIn ∷ gap 32 ∷ name (codes "g") 12 ∷ mark LeftParen ∷
    called k ∷ mark LeftParen ∷ name (codes "b") 11 ∷ mark RightParen ∷ mark RightParen ∷ gap 32 ∷ mark Minus ∷ gap 32 ∷ name (codes "a") 9 ∷ gap 32 ∷
    word WEnd ∷ gap 10 ∷ []

abbrev pub last : ℕ → List Lexeme
last k =
    word WIn ∷ gap 32 ∷ name (codes "p") 7 ∷ mark LeftParen ∷ called k ∷ mark LeftParen ∷ int (codes "0") 0 ∷ mark RightParen ∷ mark RightParen ∷
    mark Semicolon ∷ gap 32 ∷ name (codes "print") 4 ∷ mark LeftParen ∷ newline_text ∷ mark RightParen ∷ mark Semicolon ∷ gap 32 ∷
    name (codes "p") 7 ∷ mark LeftParen ∷ name (codes "s") 0 ∷ mark RightParen ∷ mark Semicolon ∷ gap 32 ∷ name (codes "print") 4 ∷ mark LeftParen ∷
    newline_text ∷ mark RightParen ∷ gap 32 ∷ word WEnd ∷ gap 10 ∷ []

abbrev pub line : ℕ → List Lexeme
line zero = first
line (suc k) = later k

-- the lines of so many functions
abbrev pub lines : ℕ → List Lexeme
lines zero = []
lines (suc n) = lines n ++ line n

-- the program of one function more than a number
abbrev pub program : ℕ → List Lexeme
program k = head ++ (lines (suc k) ++ last k)

-- it is spelled so
head_spelled : spelled head ≡ head_lines
head_spelled = refl

first_spelled : spelled first ≡ first_line
unfolding digits
first_spelled = refl

later_spelled : (k : ℕ) → spelled (later k) ≡ later_line (suc (suc k))
later_spelled k = let e : suc (suc k) - 1 ≡ suc k = omega arith in rw e

last_spelled : (k : ℕ) → spelled (last k) ≡ last_line (suc k)
last_spelled k = refl

not_one : (k : ℕ) → (suc (suc k) == 1) ≡ false
not_one k = grind (arith, nat_tests)

line_spelled : (n : ℕ) → spelled (line n) ≡ function_line (suc n)
line_spelled zero = first_spelled
line_spelled (suc k) = later_spelled k ∙ ap (λ b. cond b first_line (later_line (suc (suc k)))) (sym (not_one k))

lines_spelled : (n : ℕ) → spelled (lines n) ≡ function_lines n
lines_spelled zero = refl
lines_spelled (suc n) = spelled-append (lines n) (line n) ∙ (λ i. lines_spelled n i ++ line_spelled n i)

pub program_spelled : (k : ℕ) → spelled (program k) ≡ generated (suc k)
program_spelled k =
    spelled-append head (lines (suc k) ++ last k) ∙ ap (λ t. spelled head ++ t) (spelled-append (lines (suc k)) (last k))
    ∙ (λ i. head_spelled i ++ (lines_spelled (suc k) i ++ last_spelled k i))
