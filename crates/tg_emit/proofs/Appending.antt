-- Lines and texts that are made one part after another.
use Rattle.std.proofs.Common.{ℕ, suc, ◌≡◌, ◌<◌, ◌≤◌, ◌+◌, List, [], ◌∷◌, ◌++◌, length, get_or, take, Bool, sym, ap, ◌∙◌, append_assoc, append-nil, arith}
use Rattle.std.proofs.Common.{add_assoc, zero-add, subst, drop}
use Rattle.std.proofs.lemmas.List.{take_more, length-take-le, take-append-drop}
use Rattle.tg_tree.specs.declared.fragments.Literal.{Literal}
use Rattle.tg_instr.specs.declared.instr.Instr.{Instr}
use Rattle.tg_instr.specs.declared.codes.Allocated.{Allocated}
use Rattle.tg_emit.specs.declared.assembly.Line.{Line}
use Rattle.tg_emit.specs.mirror.Lines.{instruction_lines, code_lines, function_lines, functions_lines, literal_lines, literals_lines, words_of, words}
use Rattle.tg_emit.specs.mirror.Text.{further_numbers}
use Rattle.std.specs.Fmt.{decimal}

-- a list that was made for a prefix of the parts, and then for one part more
pub one_more : {A B : Type 0} (f : List A → List B) (g : A → List B) → ((xs : List A) (x : A) → f (xs ++ x ∷ []) ≡ f xs ++ g x) →
    (xs : List A) (i : ℕ) (d : A) → i < length xs → (old list new : List B) → list ≡ old ++ f (take i xs) → new ≡ list ++ g (get_or xs i d) →
    new ≡ old ++ f (take (i + 1) xs)
one_more f g law xs i d h old list new made more =
    more ∙ (ap (λ l. l ++ g (get_or xs i d)) made ∙ (append_assoc old (f (take i xs)) (g (get_or xs i d)) ∙ ap (λ l. old ++ l)
    (sym (law (take i xs) (get_or xs i d)) ∙ ap f (sym (take_more xs i d h)))))

pub further_more : (xs : List ℕ) (x : ℕ) → further_numbers (xs ++ x ∷ []) ≡ further_numbers xs ++ (44 ∷ 32 ∷ decimal x)
further_more [] x = ap (λ l. 44 ∷ 32 ∷ l) (append-nil (decimal x))
further_more (y ∷ xs) x =
    ap (λ l. 44 ∷ 32 ∷ l) (ap (λ l. decimal y ++ l) (further_more xs x) ∙ sym (append_assoc (decimal y) (further_numbers xs) (44 ∷ 32 ∷ decimal x)))

pub functions_more : (turned : Bool) (xs : List Allocated) (x : Allocated) →
    functions_lines turned (xs ++ x ∷ []) ≡ functions_lines turned xs ++ function_lines turned x
functions_more turned [] x = append-nil (function_lines turned x)
functions_more turned (y ∷ xs) x =
    ap (λ l. function_lines turned y ++ l) (functions_more turned xs x) ∙ sym (append_assoc (function_lines turned y) (functions_lines turned xs)
    (function_lines turned x))

pub literals_more : (xs : List Literal) (x : Literal) → literals_lines (xs ++ x ∷ []) ≡ literals_lines xs ++ literal_lines x
literals_more [] x = append-nil (literal_lines x)
literals_more (y ∷ xs) x =
    ap (λ l. literal_lines y ++ l) (literals_more xs x) ∙ sym (append_assoc (literal_lines y) (literals_lines xs) (literal_lines x))

-- the place of an instruction after others
pub code_more : (turned : Bool) (label size place : ℕ) (xs : List Instr) (x : Instr) →
    code_lines turned label size place (xs ++ x ∷ []) ≡ code_lines turned label size place xs ++ instruction_lines turned label size (place + length xs) x
code_more turned label size place [] x =
    append-nil (instruction_lines turned label size place x) ∙ ap (λ p. instruction_lines turned label size p x) (let e : place ≡ place + 0 = omega arith in e)
code_more turned label size place (y ∷ xs) x =
    let e : place + 1 + length xs ≡ place + suc (length xs) = omega arith in
    ap (λ l. instruction_lines turned label size place y ++ l) (code_more turned label size (place + 1) xs x ∙ ap
    (λ p. code_lines turned label size (place + 1) xs ++ instruction_lines turned label size p x) e)
    ∙ sym (append_assoc (instruction_lines turned label size place y) (code_lines turned label size (place + 1) xs)
    (instruction_lines turned label size (place + suc (length xs)) x))

pub words_more : (xs : List Line) (x : Line) → words (xs ++ x ∷ []) ≡ words xs + words_of x
words_more [] x = let e : words_of x + 0 ≡ 0 + words_of x = omega arith in e
words_more (y ∷ xs) x = ap (λ n. words_of y + n) (words_more xs x) ∙ sym (add_assoc (words_of y) (words xs) (words_of x))

-- a prefix of lines is no more words
pub words_front : (xs ys : List Line) → words xs ≤ words (xs ++ ys)
words_front [] ys = omega arith
words_front (x ∷ xs) ys = let h = words_front xs ys in omega arith

pub code_one_more : (turned : Bool) (label size i : ℕ) (xs : List Instr) (d : Instr) → i < length xs → (old list new : List Line) →
    list ≡ old ++ code_lines turned label size 0 (take i xs) → new ≡ list ++ instruction_lines turned label size i (get_or xs i d) →
    new ≡ old ++ code_lines turned label size 0 (take (i + 1) xs)
code_one_more turned label size i xs d h old list new made more =
    let at : 0 + length (take i xs) ≡ i = zero-add (length (take i xs)) ∙ length-take-le i xs (omega arith) in
    more ∙ (ap (λ l. l ++ instruction_lines turned label size i (get_or xs i d)) made ∙
    (append_assoc old (code_lines turned label size 0 (take i xs)) (instruction_lines turned label size i (get_or xs i d)) ∙ ap (λ l. old ++ l)
    (ap (λ p. code_lines turned label size 0 (take i xs) ++ instruction_lines turned label size p (get_or xs i d)) (sym at) ∙
    (sym (code_more turned label size 0 (take i xs) (get_or xs i d)) ∙ ap (code_lines turned label size 0) (sym (take_more xs i d h))))))

pub words_at : (xs : List Line) (i : ℕ) (x : Line) → i < length xs → x ≡ get_or xs i x → words (take (i + 1) xs) ≡ words (take i xs) + words_of x
words_at xs i x h e = ap words (take_more xs i x h) ∙ (words_more (take i xs) (get_or xs i x) ∙ ap (λ y. words (take i xs) + words_of y) (sym e))

pub words_below : (xs : List Line) (i : ℕ) → words (take i xs) ≤ words xs
words_below xs i = subst (λ ys. words (take i xs) ≤ words ys) (take-append-drop i xs) (words_front (take i xs) (drop i xs))
