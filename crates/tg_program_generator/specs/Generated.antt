-- The generated program of n functions.
use Rattle.std.specs.Prelude.{ℕ, zero, suc, ◌-◌, ◌==◌, List, [], ◌++◌, codes, if◌then◌else◌}
use Rattle.std.specs.Fmt.{decimal}

-- it counts in s, and prints numbers by d and p
abbrev pub head_lines : List ℕ
head_lines =
    codes "let var s := 0\n"
    ++ (codes "function d(i: int) = print(chr(i + ord(\"0\")))\n"
    ++ codes "function p(i: int) = if i > 9 then (p(i / 10); d(i - i / 10 * 10)) else d(i)\n")

-- function f1, and function fI, which calls the one before it
abbrev pub first_line : List ℕ
first_line = codes "function f1(a: int): int = a\n"

abbrev pub later_line : ℕ → List ℕ
later_line i =
    codes "function f" ++ (decimal i ++ (codes "(a: int): int = let var b := a + " ++ (decimal i
    ++ (codes " function g(c: int): int = (s := s + c; b + c) in g(f" ++ (decimal (i - 1)
    ++ codes "(b)) - a end\n")))))

abbrev pub function_line : ℕ → List ℕ
function_line i = if i == 1 then first_line else later_line i

-- the functions up to fN
abbrev pub function_lines : ℕ → List ℕ
function_lines zero = []
function_lines (suc n) = function_lines n ++ function_line (suc n)

-- it calls the last function, and prints what that answers and what was counted
abbrev pub last_line : ℕ → List ℕ
last_line n =
    codes "in p(f" ++ (decimal n ++ codes "(0)); print(\"\\n\"); p(s); print(\"\\n\") end\n")

abbrev pub generated : ℕ → List ℕ
generated n = head_lines ++ (function_lines n ++ last_line n)
