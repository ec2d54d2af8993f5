-- Generated programs, computed.
use Rattle.std.proofs.Common.{◌≡◌, ◌++◌, length, codes, refl}
use Rattle.std.specs.Fmt.{digits}
use Rattle.tg_program_generator.specs.Generated.{generated}

program_of_one :
    generated 1 ≡ codes "let var s := 0\nfunction d(i: int) = print(chr(i + ord(\"0\")))\nfunction p(i: int) = if i > 9 then (p(i / 10); d(i - i / 10 * 10)) else d(i)\n"
    ++ codes "function f1(a: int): int = a\nin p(f1(0)); print(\"\\n\"); p(s); print(\"\\n\") end\n"
unfolding digits
program_of_one = refl

program_of_three :
    generated 3 ≡ codes "let var s := 0\nfunction d(i: int) = print(chr(i + ord(\"0\")))\nfunction p(i: int) = if i > 9 then (p(i / 10); d(i - i / 10 * 10)) else d(i)\n"
    ++ (codes "function f1(a: int): int = a\nfunction f2(a: int): int = let var b := a + 2 function g(c: int): int = (s := s + c; b + c) in g(f1(b)) - a end\n"
    ++ codes "function f3(a: int): int = let var b := a + 3 function g(c: int): int = (s := s + c; b + c) in g(f2(b)) - a end\nin p(f3(0)); print(\"\\n\"); p(s); print(\"\\n\") end\n")
unfolding digits
program_of_three = refl

-- their bytes, and those of a larger one
lengths : (length (generated 1) ≡ 215) × (length (generated 3) ≡ 439) × (length (generated 100) ≡ 11579)
unfolding digits
lengths = (refl, refl, refl)
