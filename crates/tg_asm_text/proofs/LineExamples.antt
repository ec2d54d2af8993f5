-- Lines, cut as the definition says.
use Rattle.std.specs.Prelude.{◌≡◌, List, [], ◌∷◌, ℕ, map, codes, Some, None}
use Rattle.std.proofs.Common.{refl}
use Rattle.tg_asm_text.specs.Lines.{lines, cut, Cut, Plain, Quoted}

abbrev cut_line : (labels : List (List ℕ)) (word : List ℕ) → List (List ℕ) → Cut
cut_line labels word os = record { labels = labels; word = word; operands = map Plain os }

two_lines : lines (codes "a\nb") ≡ codes "a" ∷ codes "b" ∷ []
two_lines = refl

last_line : lines (codes "a\n") ≡ codes "a" ∷ [] ∷ []
last_line = refl

load : cut (codes "x: y:lw $t0,4($sp) # ,,") ≡ Some (cut_line (codes "x" ∷ codes "y" ∷ []) (codes "lw") (codes "$t0" ∷ codes "4($sp)" ∷ []))
load = refl

text : cut (codes " m: .asciiz \"a\\\"#b\"") ≡ Some (record { labels = codes "m" ∷ []; word = codes ".asciiz"; operands = Quoted (codes "a\\\"#b") ∷ [] })
text = refl

nothing : cut (codes "\t # x") ≡ Some (cut_line [] [] [])
nothing = refl

open_string : cut (codes ".ascii \"a") ≡ None
open_string = refl

comma_in_front : cut (codes "li , $v0, 5") ≡ None
comma_in_front = refl

comma_at_the_end : cut (codes "li $v0,") ≡ None
comma_at_the_end = refl

comma_twice : cut (codes "li $v0,,5") ≡ None
comma_twice = refl

nothing_between : cut (codes ".ascii \"a\"\"b\"") ≡ None
nothing_between = refl

word_after_space : cut (codes "a : nop") ≡ Some (cut_line [] (codes "a") (codes ":" ∷ codes "nop" ∷ []))
word_after_space = refl
