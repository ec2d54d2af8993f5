-- The labels that the lines of functions and literals give differ.
use Rattle.std.proofs.Common.{ℕ, ◌≡◌, ◌≢◌, ◌<◌, ◌≤◌, ◌+◌, ◌^◌, List, [], ◌∷◌, ◌++◌, length, Bool, true, false, not, refl, sym, ap, ◌∙◌, arith, subst}
use Rattle.std.specs.Prelude.{IsTrue, ◌==◌, ◌||◌}
use Rattle.std.specs.List.{AllByRecursion, list_any}
use Rattle.std.specs.Fmt.{decimal}
use Rattle.tg_asm_text.proofs.WordCuts.{begins}
use Rattle.tg_tree.specs.declared.fragments.Literal.{Literal}
use Rattle.tg_instr.specs.declared.instr.Instr.{Instr}
use Rattle.tg_instr.specs.declared.instr.Instr.TheVariants.{Mark, Branch}
use Rattle.tg_instr.specs.declared.codes.Allocated.{Allocated}
use Rattle.tg_instr.specs.Codes.{is_mark, marks_differ}
use Rattle.tg_instr.proofs.Tests.{left_holds, right_holds}
use Rattle.tg_emit.specs.mirror.Names.{function_name, literal_name}
use Rattle.tg_emit.specs.Ranges.{InstructionFits, LiteralFits}
use Rattle.tg_emit.specs.mirror.Lines.{function_lines, functions_lines}
use Rattle.tg_emit_laws.specs.Programs.{function_labels, literal_labels, is_among, labels_differ}
use Rattle.tg_emit_laws.proofs.NameTexts.{not_same, first_byte, is_separator, same_parts, mark_tails, behind_tails, literal_differ, literal_apart}
use Rattle.tg_emit_laws.proofs.Apart.{Differ, Apart, each_append, each_weaker, each_map, differ_append, apart_by, differ_behind}
use Rattle.tg_emit_laws.proofs.CodeLines.{given_in, given_append}
use Rattle.tg_emit_laws.proofs.InstructionLines.{tail_of}
use Rattle.tg_emit_laws.proofs.FunctionLines.{tails, IsEmitted, given_of_function}

neither : (a b : Bool) → IsTrue (not (a || b)) → (a ≡ false) × IsTrue (not b)
neither true b h = cc
neither false b h = (refl, h)

not_true : (a : Bool) → IsTrue (not a) → a ≡ false
not_true true h = cc
not_true false h = refl

-- one instruction's label
single_differs : (turned : Bool) (place : ℕ) (one : Instr) → Differ (tail_of turned place one)
single_differs turned place (Mark m) = (tt, tt)
single_differs true place (Branch test m) = (tt, tt)
single_differs false place (Branch test m) = tt
single_differs turned place one = tt

mark_unlike : (turned : Bool) (place m : ℕ) (one : Instr) → m < 2 ^ 32 → InstructionFits one → is_mark m one ≡ false →
    AllByRecursion (λ t. (46 ∷ decimal m) ≢ t) (tail_of turned place one)
mark_unlike turned place m (Mark k) h f n = let g = f.numbers in (λ e. not_same m k n (mark_tails m k (omega arith) (omega arith) e), tt)
mark_unlike true place m (Branch test k) h f n = (λ e. not_same 46 95 refl (ap first_byte e), tt)
mark_unlike false place m (Branch test k) h f n = tt
mark_unlike turned place m one h f n = tt

place_unlike : (turned : Bool) (p place : ℕ) (one : Instr) → p < place → place < 2 ^ 64 → AllByRecursion (λ t. (95 ∷ decimal p) ≢ t) (tail_of turned place one)
place_unlike turned p place (Mark k) h l = (λ e. not_same 95 46 refl (ap first_byte e), tt)
place_unlike true p place (Branch test k) h l = (λ e. let s = behind_tails p place (omega arith) l e in absurd (omega arith), tt)
place_unlike false p place (Branch test k) h l = tt
place_unlike turned p place one h l = tt

nothing_unlike : (turned : Bool) (place : ℕ) (one : Instr) → AllByRecursion (λ t. [] ≢ t) (tail_of turned place one)
nothing_unlike turned place (Mark k) = (λ e. not_same 0 46 refl (ap first_byte e), tt)
nothing_unlike true place (Branch test k) = (λ e. not_same 0 95 refl (ap first_byte e), tt)
nothing_unlike false place (Branch test k) = tt
nothing_unlike turned place one = tt

tail_begins : (turned : Bool) (place : ℕ) (one : Instr) → AllByRecursion (λ t. begins is_separator t ≡ true) (tail_of turned place one)
tail_begins turned place (Mark k) = (refl, tt)
tail_begins true place (Branch test k) = (refl, tt)
tail_begins false place (Branch test k) = tt
tail_begins turned place one = tt

-- a function's code
mark_apart : (turned : Bool) (place m : ℕ) (list : List Instr) → m < 2 ^ 32 → AllByRecursion InstructionFits list →
    IsTrue (not (list_any (is_mark m) list)) → AllByRecursion (λ t. (46 ∷ decimal m) ≢ t) (tails turned place list)
mark_apart turned place m [] h f n = tt
mark_apart turned place m (one ∷ rest) h f n =
    let k = neither (is_mark m one) (list_any (is_mark m) rest) n in
    each_append (λ t. (46 ∷ decimal m) ≢ t) (tail_of turned place one) (tails turned (place + 1) rest) (mark_unlike turned place m one h f.0 k.0)
    (mark_apart turned (place + 1) m rest h f.1 k.1)

place_apart : (turned : Bool) (p place : ℕ) (list : List Instr) → p < place → place + length list ≤ 2 ^ 64 →
    AllByRecursion (λ t. (95 ∷ decimal p) ≢ t) (tails turned place list)
place_apart turned p place [] h l = tt
place_apart turned p place (one ∷ rest) h l =
    each_append (λ t. (95 ∷ decimal p) ≢ t) (tail_of turned place one) (tails turned (place + 1) rest) (place_unlike turned p place one h (omega arith))
    (place_apart turned p (place + 1) rest (omega arith) (omega arith))

nothing_apart : (turned : Bool) (place : ℕ) (list : List Instr) → AllByRecursion (λ t. [] ≢ t) (tails turned place list)
nothing_apart turned place [] = tt
nothing_apart turned place (one ∷ rest) = each_append (λ t. [] ≢ t) (tail_of turned place one) (tails turned (place + 1) rest)
    (nothing_unlike turned place one) (nothing_apart turned (place + 1) rest)

tails_begin : (turned : Bool) (place : ℕ) (list : List Instr) → AllByRecursion (λ t. begins is_separator t ≡ true) (tails turned place list)
tails_begin turned place [] = tt
tails_begin turned place (one ∷ rest) = each_append (λ t. begins is_separator t ≡ true) (tail_of turned place one) (tails turned (place + 1) rest)
    (tail_begins turned place one) (tails_begin turned (place + 1) rest)

rest_marks : (one : Instr) (rest : List Instr) → IsTrue (marks_differ (one ∷ rest)) → IsTrue (marks_differ rest)
rest_marks (Mark m) rest h = right_holds (not (list_any (is_mark m) rest)) _ h
rest_marks one rest h = h

one_apart : (turned : Bool) (place : ℕ) (one : Instr) (rest : List Instr) → place + 1 + length rest ≤ 2 ^ 64 → InstructionFits one →
    AllByRecursion InstructionFits rest → IsTrue (marks_differ (one ∷ rest)) → Apart (tail_of turned place one) (tails turned (place + 1) rest)
one_apart turned place (Mark m) rest l f k d = (mark_apart turned (place + 1) m rest f.numbers k (left_holds _ _ d), tt)
one_apart true place (Branch test m) rest l f k d = (place_apart true place (place + 1) rest (omega arith) l, tt)
one_apart false place (Branch test m) rest l f k d = tt
one_apart turned place one rest l f k d = tt

tails_differ : (turned : Bool) (place : ℕ) (list : List Instr) → place + length list ≤ 2 ^ 64 → AllByRecursion InstructionFits list →
    IsTrue (marks_differ list) → Differ (tails turned place list)
tails_differ turned place [] l f d = tt
tails_differ turned place (one ∷ rest) l f d =
    differ_append (tail_of turned place one) (tails turned (place + 1) rest) (single_differs turned place one)
    (tails_differ turned (place + 1) rest (omega arith) f.1 (rest_marks one rest d)) (one_apart turned place one rest (omega arith) f.0 f.1 d)

function_differs : (turned : Bool) (f : Allocated) → IsEmitted f → Differ (given_in (function_lines turned f))
function_differs turned f k =
    let l = k.length in
    subst Differ (sym (given_of_function turned f k))
    (differ_behind (function_name f.frame.label.0) ([] ∷ tails turned 0 f.code.list)
    (nothing_apart turned 0 f.code.list, tails_differ turned 0 f.code.list (omega arith) k.fits f.code.marks_differ))

-- a name of the code of the function with a label, and one of no such code
pub record IsOf (label : ℕ) (name : List ℕ) : Type 0 where
  pub tail : List ℕ
  pub begin : begins is_separator tail ≡ true
  pub is : name ≡ function_name label ++ tail

abbrev IsNotOf : ℕ → List ℕ → Type 0
IsNotOf label name = (t : List ℕ) → begins is_separator t ≡ true → name ≢ (function_name label ++ t)

names_are_of : (turned : Bool) (f : Allocated) → IsEmitted f → AllByRecursion (IsOf f.frame.label.0) (given_in (function_lines turned f))
names_are_of turned f k =
    let name = function_name f.frame.label.0 in
    subst (AllByRecursion (IsOf f.frame.label.0)) (sym (given_of_function turned f k))
    (each_map (λ t. name ++ t) (IsOf f.frame.label.0) ([] ∷ tails turned 0 f.code.list)
    (each_weaker (λ t. begins is_separator t ≡ true) (λ t. IsOf f.frame.label.0 (name ++ t)) (λ t b. record { tail = t; begin = b; is = refl })
    ([] ∷ tails turned 0 f.code.list) (refl, tails_begin turned 0 f.code.list)))

of_another : (a b : ℕ) → a < 2 ^ 32 → b < 2 ^ 32 → a ≢ b → (name : List ℕ) → IsOf b name → IsNotOf a name
of_another a b h k n name o t begin e = n ((same_parts a b t o.tail (omega arith) (omega arith) begin o.begin (sym e ∙ o.is)).function)

functions_are_not_of : (turned : Bool) (a : ℕ) (fs : List Allocated) → a < 2 ^ 32 → IsTrue (not (is_among (function_labels fs) a)) →
    AllByRecursion IsEmitted fs → AllByRecursion (IsNotOf a) (given_in (functions_lines turned fs))
functions_are_not_of turned a [] h n k = tt
functions_are_not_of turned a (f ∷ fs) h n k =
    let b = f.frame.label.0 in
    let d = neither (a == b) (is_among (function_labels fs) a) n in
    subst (AllByRecursion (IsNotOf a)) (sym (given_append (function_lines turned f) (functions_lines turned fs)))
    (each_append (IsNotOf a) (given_in (function_lines turned f)) (given_in (functions_lines turned fs))
    (each_weaker (IsOf b) (IsNotOf a) (of_another a b h k.0.label (not_same a b d.0)) (given_in (function_lines turned f)) (names_are_of turned f k.0))
    (functions_are_not_of turned a fs h d.1 k.1))

pub functions_differ : (turned : Bool) (fs : List Allocated) → IsTrue (labels_differ (function_labels fs)) → AllByRecursion IsEmitted fs →
    Differ (given_in (functions_lines turned fs))
functions_differ turned [] d k = tt
functions_differ turned (f ∷ fs) d k =
    let a = f.frame.label.0 in
    subst Differ (sym (given_append (function_lines turned f) (functions_lines turned fs)))
    (differ_append (given_in (function_lines turned f)) (given_in (functions_lines turned fs))
    (function_differs turned f k.0)
    (functions_differ turned fs (right_holds (not (is_among (function_labels fs) a)) _ d) k.1)
    (apart_by (IsOf a) (IsNotOf a) (λ x y p q e. q p.tail p.begin (sym e ∙ p.is)) (given_in (function_lines turned f)) (given_in (functions_lines turned fs))
    (names_are_of turned f k.0)
    (functions_are_not_of turned a fs k.0.label (left_holds _ _ d) k.1)))

-- literals
abbrev pub literal_names : List Literal → List (List ℕ)
literal_names [] = []
literal_names (l ∷ ls) = literal_name l.label.0 ∷ literal_names ls

literal_unlike : (a : ℕ) (ls : List Literal) → a < 2 ^ 32 → IsTrue (not (is_among (literal_labels ls) a)) → AllByRecursion LiteralFits ls →
    AllByRecursion (λ y. literal_name a ≢ y) (literal_names ls)
literal_unlike a [] h n f = tt
literal_unlike a (l ∷ ls) h n f =
    let d = neither (a == l.label.0) (is_among (literal_labels ls) a) n in
    let b = f.0.label in
    (λ e. not_same a l.label.0 d.0 (literal_differ a l.label.0 (omega arith) (omega arith) e), literal_unlike a ls h d.1 f.1)

pub literals_differ : (ls : List Literal) → IsTrue (labels_differ (literal_labels ls)) → AllByRecursion LiteralFits ls → Differ (literal_names ls)
literals_differ [] d f = tt
literals_differ (l ∷ ls) d f =
    (literal_unlike l.label.0 ls f.0.label (left_holds _ _ d) f.1, literals_differ ls (right_holds (not (is_among (literal_labels ls) l.label.0)) _ d) f.1)

-- functions and literals have no name in common
pub record IsOfSome (name : List ℕ) : Type 0 where
  pub label : ℕ
  pub of : IsOf label name

pub record IsOfLiteral (name : List ℕ) : Type 0 where
  pub label : ℕ
  pub is : name ≡ literal_name label

functions_of_some : (turned : Bool) (fs : List Allocated) → AllByRecursion IsEmitted fs → AllByRecursion IsOfSome (given_in (functions_lines turned fs))
functions_of_some turned [] k = tt
functions_of_some turned (f ∷ fs) k =
    let a = f.frame.label.0 in
    subst (AllByRecursion IsOfSome) (sym (given_append (function_lines turned f) (functions_lines turned fs)))
    (each_append IsOfSome (given_in (function_lines turned f)) (given_in (functions_lines turned fs))
    (each_weaker (IsOf a) IsOfSome (λ name o. record { label = a; of = o }) (given_in (function_lines turned f)) (names_are_of turned f k.0))
    (functions_of_some turned fs k.1))

literals_of_some : (ls : List Literal) → AllByRecursion IsOfLiteral (literal_names ls)
literals_of_some [] = tt
literals_of_some (l ∷ ls) = (record { label = l.label.0; is = refl }, literals_of_some ls)

pub functions_and_literals : (turned : Bool) (fs : List Allocated) (ls : List Literal) → AllByRecursion IsEmitted fs →
    Apart (given_in (functions_lines turned fs)) (literal_names ls)
functions_and_literals turned fs ls k =
    apart_by IsOfSome IsOfLiteral (λ x y p q e. literal_apart p.label q.label p.of.tail (sym p.of.is ∙ (e ∙ q.is)))
    (given_in (functions_lines turned fs)) (literal_names ls) (functions_of_some turned fs k) (literals_of_some ls)
