-- Generated programs by the grammar.
use Rattle.std.proofs.Common.{ℕ, zero, suc, ◌-◌, ◌≡◌, List, [], ◌∷◌, ◌++◌, take, drop, get_or, refl, sym, subst, append_assoc, append-nil}
use Rattle.std.specs.Prelude.{codes, Some, None}
use Rattle.tg_base.specs.declared.ids.Span.{Span}
use Rattle.tg_syntax.specs.declared.tokens.Sign.TheVariants.{Semicolon}
use Rattle.tg_syntax.specs.declared.tokens.Token.TheVariants as token
use Rattle.tg_syntax.specs.declared.tokens.Spanned.{Spanned}
use Rattle.tg_syntax.specs.declared.trees.Op.TheVariants as op
use Rattle.tg_syntax.specs.Tree.{Exp, Int, Text, Read, Call, Binary, Assign, If, Seq, Simple, no_exps, exp, no_decs, variable, functions}
use Rattle.tg_syntax.specs.Tree.{no_functions, function}
use Rattle.tg_syntax.specs.Spans.{joined}
use Rattle.tg_syntax.specs.Groups.{one_variable, one_function}
use Rattle.tg_syntax.specs.Lexing.{spanned}
use Rattle.tg_syntax.specs.Grammar.{Whole, Sum, Term, Primary, Tail, IsIdent, one_field, some_fields, not_annotated, annotated, Reads, IsDec, AreDecs, AreAny}
use Rattle.tg_syntax.specs.Grammar.{IsProgram, whole_assign, whole_up, or_up, and_up, cmp_up, cmp_two, sum_up, sum_more, term_up, term_more, unary_primary}
use Rattle.tg_syntax.specs.Grammar.{unary_tail, primary_place, primary_int, primary_text, primary_sequence, primary_call, primary_let, tail_else}
use Rattle.tg_syntax.specs.Grammar.{place_simple, many_one, many_more, any_many, dec_variable, dec_function, decs_none, decs_more, program}
use Rattle.tg_program_generator_laws.proofs.Lexemes.{marked, numbered}
use Rattle.tg_program_generator_laws.proofs.Lines.{place, head, first, later, line, last}
use Rattle.tg_program_generator_laws.proofs.Trees.{id, head_functions, head_decs, line_dec, last_exps, Spans}
use Rattle.tg_program_generator_laws.proofs.Trees.{group, tree}

-- a token of a line, and those from one up to another
abbrev tk : (w : List Spanned) → (k : ℕ) → Spanned
tk w k = get_or w k (spanned token.End 0 0)

abbrev part : (w : List Spanned) → (from to : ℕ) → List Spanned
part w from to = take (to - from) (drop from w)

abbrev is_id : (s : ℕ → Span) (k n : ℕ) → IsIdent (record { token = numbered n; span = s k }) (id s k n)
is_id s k n = record { name = refl; span = refl }

-- up through several levels
term_primary : {a : List Spanned} {e : Exp} → Reads Primary a e → Reads Term a e
term_primary r = term_up (unary_primary r)

sum_primary : {a : List Spanned} {e : Exp} → Reads Primary a e → Reads Sum a e
sum_primary r = sum_up (term_primary r)

whole_sum : {a : List Spanned} {e : Exp} → Reads Sum a e → Reads Whole a e
whole_sum r = whole_up (or_up (and_up (cmp_up r)))

whole_term : {a : List Spanned} {e : Exp} → Reads Term a e → Reads Whole a e
whole_term r = whole_sum (sum_up r)

whole_primary : {a : List Spanned} {e : Exp} → Reads Primary a e → Reads Whole a e
whole_primary r = whole_term (term_primary r)

whole_tail : {a : List Spanned} {e : Exp} → Reads Tail a e → Reads Whole a e
whole_tail r = whole_term (term_up (unary_tail r))

head_reads : (s : ℕ → Span) → AreDecs (drop 1 (marked s 0 head)) (head_decs s (head_functions s))
head_reads s =
    let w = marked s 0 head in
    decs_more {a = (part w 1 25)} {b = (part w 25 62)} {ds = (variable (id s 2 0) None (Int (s 4) 0) (functions (function (id s 6 1) (record {
      name =
          (id s 8 2);
      kind = (id s 10 3);
    } ∷ []) None (Call (joined (s 13) (s 24)) (id s 13 4) (exp (Call (joined (s 15) (s 23)) (id s 15 5) (exp (Binary
    (joined (s 17) (s 22)) op.Plus (s 18).from (Read (s 17) (Simple (id s 17 2))) (Call (joined (s 19) (s 22)) (id s 19 6) (exp (Text (s 21) (codes
    "0")) no_exps))) no_exps)) no_exps)) no_functions) no_decs))} {d = (one_function (id s 26 7) (record { name = (id s 28 2); kind = (id s 30 3) } ∷
    []) None (If (joined (s 33) (s 61)) (Binary (joined (s 34) (s 36)) op.Greater (s 35).from (Read (s 34) (Simple (id s 34 2))) (Int (s 36) 9)) (Seq
    (joined (s 38) (s 56)) (exp (Call (joined (s 39) (s 44)) (id s 39 7) (exp (Binary (joined (s 41) (s 43)) op.Divide (s 42).from (Read (s 41)
    (Simple (id s 41 2))) (Int (s 43) 10)) no_exps)) (exp (Call (joined (s 46) (s 55)) (id s 46 1) (exp (Binary (joined (s 48) (s 54)) op.Minus (s
    49).from (Read (s 48) (Simple (id s 48 2))) (Binary (joined (s 50) (s 54)) op.Times (s 53).from (Binary (joined (s 50) (s 52)) op.Divide (s
    51).from (Read (s 50) (Simple (id s 50 2))) (Int (s 52) 10)) (Int (s 54) 10))) no_exps)) no_exps))) (Call (joined (s 58) (s 61)) (id s 58 1) (exp
    (Read (s 60) (Simple (id s 60 2))) no_exps))))} (decs_more {a = (part w 1 5)} {b = (part w 5 25)} {ds = (variable (id s 2 0) None (Int (s 4) 0)
    no_decs)} {d = (one_function (id s 6 1) (record { name = (id s 8 2); kind = (id s 10 3) } ∷ []) None (Call (joined (s 13) (s 24)) (id s 13 4)
    (exp (Call (joined (s 15) (s 23)) (id s 15 5) (exp (Binary (joined (s 17) (s 22)) op.Plus (s 18).from (Read (s 17) (Simple (id s 17 2))) (Call
    (joined (s 19) (s 22)) (id s 19 6) (exp (Text (s 21) (codes "0")) no_exps))) no_exps)) no_exps)))} (decs_more {a = []} {b = (part w 1 5)} {ds =
    no_decs} {d = (one_variable (id s 2 0) None (Int (s 4) 0))} decs_none (dec_variable {a = []} {b = (part w 4 5)} (tk w 1) (tk w 2) (tk w 3) refl
    (is_id s 2 0) not_annotated refl (whole_primary (primary_int (tk w 4) 0 refl)))) (dec_function {a = (part w 8 11)} {b = []} {d = (part w 13 25)}
    (tk w 5) (tk w 6) (tk w 7) (tk w 11) (tk w 12) refl (is_id s 6 1) refl (some_fields (one_field (tk w 8) (tk w 9) (tk w 10) (is_id s 8 2) refl
    (is_id s 10 3))) refl not_annotated refl (whole_primary (primary_call {a = (part w 15 24)} (tk w 13) (tk w 14) (tk w 24) (is_id s 13 4) refl
    (any_many (many_one (whole_primary (primary_call {a = (part w 17 23)} (tk w 15) (tk w 16) (tk w 23) (is_id s 15 5) refl (any_many (many_one
    (whole_sum (sum_more {a = (part w 17 18)} {b = (part w 19 23)} (tk w 18) (sum_primary (primary_place (place_simple (tk w 17) (is_id s 17 2))))
    refl refl (term_primary (primary_call {a = (part w 21 22)} (tk w 19) (tk w 20) (tk w 22) (is_id s 19 6) refl (any_many (many_one (whole_primary
    (primary_text (tk w 21) (codes "0") refl)))) refl)))))) refl)))) refl)))) (dec_function {a = (part w 28 31)} {b = []} {d = (part w 33 62)} (tk w
    25) (tk w 26) (tk w 27) (tk w 31) (tk w 32) refl (is_id s 26 7) refl (some_fields (one_field (tk w 28) (tk w 29) (tk w 30) (is_id s 28 2) refl
    (is_id s 30 3))) refl not_annotated refl (whole_tail (tail_else {a = (part w 34 37)} {b = (part w 38 57)} {d = (part w 58 62)} (tk w 33) (tk w
    37) (tk w 57) refl (whole_up (or_up (and_up (cmp_two {a = (part w 34 35)} {b = (part w 36 37)} (tk w 35) (sum_primary (primary_place
    (place_simple (tk w 34) (is_id s 34 2)))) refl refl (sum_primary (primary_int (tk w 36) 9 refl)))))) refl (whole_primary (primary_sequence {a =
    (part w 39 56)} (tk w 38) (tk w 56) refl (any_many (many_more {a = (part w 39 45)} {b = (part w 46 56)} {es = (exp (Call (joined (s 39) (s 44))
    (id s 39 7) (exp (Binary (joined (s 41) (s 43)) op.Divide (s 42).from (Read (s 41) (Simple (id s 41 2))) (Int (s 43) 10)) no_exps)) no_exps)} {e
    = (Call (joined (s 46) (s 55)) (id s 46 1) (exp (Binary (joined (s 48) (s 54)) op.Minus (s 49).from (Read (s 48) (Simple (id s 48 2))) (Binary
    (joined (s 50) (s 54)) op.Times (s 53).from (Binary (joined (s 50) (s 52)) op.Divide (s 51).from (Read (s 50) (Simple (id s 50 2))) (Int (s 52)
    10)) (Int (s 54) 10))) no_exps))} (tk w 45) (many_one (whole_primary (primary_call {a = (part w 41 44)} (tk w 39) (tk w 40) (tk w 44) (is_id s 39
    7) refl (any_many (many_one (whole_term (term_more {a = (part w 41 42)} {b = (part w 43 44)} (tk w 42) (term_primary (primary_place (place_simple
    (tk w 41) (is_id s 41 2)))) refl refl (unary_primary (primary_int (tk w 43) 10 refl)))))) refl))) refl (whole_primary (primary_call {a = (part w
    48 55)} (tk w 46) (tk w 47) (tk w 55) (is_id s 46 1) refl (any_many (many_one (whole_sum (sum_more {a = (part w 48 49)} {b = (part w 50 55)} (tk
    w 49) (sum_primary (primary_place (place_simple (tk w 48) (is_id s 48 2)))) refl refl (term_more {a = (part w 50 53)} {b = (part w 54 55)} (tk w
    53) (term_more {a = (part w 50 51)} {b = (part w 52 53)} (tk w 51) (term_primary (primary_place (place_simple (tk w 50) (is_id s 50 2)))) refl
    refl (unary_primary (primary_int (tk w 52) 10 refl))) refl refl (unary_primary (primary_int (tk w 54) 10 refl))))))) refl)))) refl)) refl refl
    (whole_primary (primary_call {a = (part w 60 61)} (tk w 58) (tk w 59) (tk w 61) (is_id s 58 1) refl (any_many (many_one (whole_primary
    (primary_place (place_simple (tk w 60) (is_id s 60 2)))))) refl)))))

first_reads : (s : ℕ → Span) → IsDec (marked s 0 first) (line_dec zero s)
first_reads s =
    let w = marked s 0 first in
    dec_function {a = (part w 3 6)} {b = (part w 7 9)} {d = (part w 10 11)} (tk w 0) (tk w 1) (tk w 2) (tk w 6) (tk w 9) refl (is_id s 1 8) refl
    (some_fields (one_field (tk w 3) (tk w 4) (tk w 5) (is_id s 3 9) refl (is_id s 5 3))) refl (annotated (tk w 7) (tk w 8) refl (is_id s 8 3)) refl
    (whole_primary (primary_place (place_simple (tk w 10) (is_id s 10 9))))

later_reads : (k : ℕ) (s : ℕ → Span) → IsDec (marked s 0 (later k)) (line_dec (suc k) s)
later_reads k s =
    let w = marked s 0 (later k) in
    dec_function {a = (part w 3 6)} {b = (part w 7 9)} {d = (part w 10 49)} (tk w 0) (tk w 1) (tk w 2) (tk w 6) (tk w 9) refl (is_id s 1 (place (suc
    k))) refl (some_fields (one_field (tk w 3) (tk w 4) (tk w 5) (is_id s 3 9) refl (is_id s 5 3))) refl (annotated (tk w 7) (tk w 8) refl (is_id s 8
    3)) refl (whole_primary (primary_let {a = (part w 11 38)} {b = (part w 39 48)} (tk w 10) (tk w 38) (tk w 48) refl (decs_more {a = (part w 11 17)}
    {b = (part w 17 38)} {ds = (variable (id s 12 11) None (Binary (joined (s 14) (s 16)) op.Plus (s 15).from (Read (s 14) (Simple (id s 14 9))) (Int
    (s 16) (suc (suc k)))) no_decs)} {d = (one_function (id s 18 12) (record { name = (id s 20 13); kind = (id s 22 3) } ∷ []) (Some (id s 25 3))
    (Seq (joined (s 27) (s 37)) (exp (Assign (joined (s 28) (s 32)) (Simple (id s 28 0)) (Binary (joined (s 30) (s 32)) op.Plus (s 31).from (Read (s
    30) (Simple (id s 30 0))) (Read (s 32) (Simple (id s 32 13))))) (exp (Binary (joined (s 34) (s 36)) op.Plus (s 35).from (Read (s 34) (Simple (id
    s 34 11))) (Read (s 36) (Simple (id s 36 13)))) no_exps))))} (decs_more {a = []} {b = (part w 11 17)} {ds = no_decs} {d = (one_variable (id s 12
    11) None (Binary (joined (s 14) (s 16)) op.Plus (s 15).from (Read (s 14) (Simple (id s 14 9))) (Int (s 16) (suc (suc k)))))} decs_none
    (dec_variable {a = []} {b = (part w 14 17)} (tk w 11) (tk w 12) (tk w 13) refl (is_id s 12 11) not_annotated refl (whole_sum (sum_more {a = (part
    w 14 15)} {b = (part w 16 17)} (tk w 15) (sum_primary (primary_place (place_simple (tk w 14) (is_id s 14 9)))) refl refl (term_primary
    (primary_int (tk w 16) (suc (suc k)) refl)))))) (dec_function {a = (part w 20 23)} {b = (part w 24 26)} {d = (part w 27 38)} (tk w 17) (tk w 18)
    (tk w 19) (tk w 23) (tk w 26) refl (is_id s 18 12) refl (some_fields (one_field (tk w 20) (tk w 21) (tk w 22) (is_id s 20 13) refl (is_id s 22
    3))) refl (annotated (tk w 24) (tk w 25) refl (is_id s 25 3)) refl (whole_primary (primary_sequence {a = (part w 28 37)} (tk w 27) (tk w 37) refl
    (any_many (many_more {a = (part w 28 33)} {b = (part w 34 37)} {es = (exp (Assign (joined (s 28) (s 32)) (Simple (id s 28 0)) (Binary (joined (s
    30) (s 32)) op.Plus (s 31).from (Read (s 30) (Simple (id s 30 0))) (Read (s 32) (Simple (id s 32 13))))) no_exps)} {e = (Binary (joined (s 34) (s
    36)) op.Plus (s 35).from (Read (s 34) (Simple (id s 34 11))) (Read (s 36) (Simple (id s 36 13))))} (tk w 33) (many_one (whole_assign {a = (part w
    28 29)} {b = (part w 30 33)} (tk w 29) (place_simple (tk w 28) (is_id s 28 0)) refl (whole_sum (sum_more {a = (part w 30 31)} {b = (part w 32
    33)} (tk w 31) (sum_primary (primary_place (place_simple (tk w 30) (is_id s 30 0)))) refl refl (term_primary (primary_place (place_simple (tk w
    32) (is_id s 32 13)))))))) refl (whole_sum (sum_more {a = (part w 34 35)} {b = (part w 36 37)} (tk w 35) (sum_primary (primary_place
    (place_simple (tk w 34) (is_id s 34 11)))) refl refl (term_primary (primary_place (place_simple (tk w 36) (is_id s 36 13)))))))) refl)))) refl
    (any_many (many_one (whole_sum (sum_more {a = (part w 39 46)} {b = (part w 47 48)} (tk w 46) (sum_primary (primary_call {a = (part w 41 45)} (tk
    w 39) (tk w 40) (tk w 45) (is_id s 39 12) refl (any_many (many_one (whole_primary (primary_call {a = (part w 43 44)} (tk w 41) (tk w 42) (tk w
    44) (is_id s 41 (place k)) refl (any_many (many_one (whole_primary (primary_place (place_simple (tk w 43) (is_id s 43 11)))))) refl)))) refl))
    refl refl (term_primary (primary_place (place_simple (tk w 47) (is_id s 47 9)))))))) refl))

line_reads : (n : ℕ) (s : ℕ → Span) → IsDec (marked s 0 (line n)) (line_dec n s)
line_reads zero s = first_reads s
line_reads (suc k) s = later_reads k s

exps_read : (k : ℕ) (s : ℕ → Span) → AreAny Semicolon (part (marked s 0 (last k)) 1 23) (last_exps k s)
exps_read k s =
    let w = marked s 0 (last k) in
    any_many (many_more {a = (part w 1 18)} {b = (part w 19 23)} {es = (exp (Call (joined (s 1) (s 7)) (id s 1 7) (exp (Call (joined (s 3) (s 6)) (id
    s 3 (place k)) (exp (Int (s 5) 0) no_exps)) no_exps)) (exp (Call (joined (s 9) (s 12)) (id s 9 4) (exp (Text (s 11) (10 ∷ [])) no_exps)) (exp
    (Call (joined (s 14) (s 17)) (id s 14 7) (exp (Read (s 16) (Simple (id s 16 0))) no_exps)) no_exps)))} {e = (Call (joined (s 19) (s 22)) (id s 19
    4) (exp (Text (s 21) (10 ∷ [])) no_exps))} (tk w 18) (many_more {a = (part w 1 13)} {b = (part w 14 18)} {es = (exp (Call (joined (s 1) (s 7))
    (id s 1 7) (exp (Call (joined (s 3) (s 6)) (id s 3 (place k)) (exp (Int (s 5) 0) no_exps)) no_exps)) (exp (Call (joined (s 9) (s 12)) (id s 9 4)
    (exp (Text (s 11) (10 ∷ [])) no_exps)) no_exps))} {e = (Call (joined (s 14) (s 17)) (id s 14 7) (exp (Read (s 16) (Simple (id s 16 0)))
    no_exps))} (tk w 13) (many_more {a = (part w 1 8)} {b = (part w 9 13)} {es = (exp (Call (joined (s 1) (s 7)) (id s 1 7) (exp (Call (joined (s 3)
    (s 6)) (id s 3 (place k)) (exp (Int (s 5) 0) no_exps)) no_exps)) no_exps)} {e = (Call (joined (s 9) (s 12)) (id s 9 4) (exp (Text (s 11) (10 ∷
    [])) no_exps))} (tk w 8) (many_one (whole_primary (primary_call {a = (part w 3 7)} (tk w 1) (tk w 2) (tk w 7) (is_id s 1 7) refl (any_many
    (many_one (whole_primary (primary_call {a = (part w 5 6)} (tk w 3) (tk w 4) (tk w 6) (is_id s 3 (place k)) refl (any_many (many_one
    (whole_primary (primary_int (tk w 5) 0 refl)))) refl)))) refl))) refl (whole_primary (primary_call {a = (part w 11 12)} (tk w 9) (tk w 10) (tk w
    12) (is_id s 9 4) refl (any_many (many_one (whole_primary (primary_text (tk w 11) (10 ∷ []) refl)))) refl))) refl (whole_primary (primary_call {a
    = (part w 16 17)} (tk w 14) (tk w 15) (tk w 17) (is_id s 14 7) refl (any_many (many_one (whole_primary (primary_place (place_simple (tk w 16)
    (is_id s 16 0)))))) refl))) refl (whole_primary (primary_call {a = (part w 21 22)} (tk w 19) (tk w 20) (tk w 22) (is_id s 19 4) refl (any_many
    (many_one (whole_primary (primary_text (tk w 21) (10 ∷ []) refl)))) refl)))

-- the tokens of so many lines
abbrev pub lines_tokens : Spans → ℕ → List Spanned
lines_tokens s zero = []
lines_tokens s (suc n) = lines_tokens s n ++ marked (s.lines n) 0 (line n)

decs_read : (s : Spans) (n : ℕ) → AreDecs (drop 1 (marked s.head 0 head) ++ lines_tokens s n) (head_decs s.head (group s n))
decs_read s zero =
    subst (λ ts. AreDecs ts (head_decs s.head (group s zero))) (sym (append-nil (drop 1 (marked s.head 0 head)))) (head_reads s.head)
decs_read s (suc n) =
    let start = drop 1 (marked s.head 0 head) in
    let more = marked (s.lines n) 0 (line n) in
    subst (λ ts. AreDecs ts (head_decs s.head (group s (suc n)))) (append_assoc start (lines_tokens s n) more)
    (decs_more {a = start ++ lines_tokens s n} {b = more} {ds = head_decs s.head (group s n)} {d = line_dec n (s.lines n)}
    (decs_read s n) (line_reads n (s.lines n)))

-- all tokens but the end
abbrev pub all_tokens : Spans → ℕ → List Spanned
all_tokens s k = (marked s.head 0 head ++ lines_tokens s (suc k)) ++ marked s.last 0 (last k)

pub parsed : (s : Spans) (k : ℕ) (t : Spanned) → t.token ≡ token.End → IsProgram (all_tokens s k ++ t ∷ []) (tree s k)
parsed s k t e =
    let first = marked s.head 0 head in
    let w = marked s.last 0 (last k) in
    program {a = all_tokens s k} t
    (whole_primary (primary_let {a = drop 1 first ++ lines_tokens s (suc k)} {b = part w 1 23} (tk first 0) (tk w 0) (tk w 23) refl
    (decs_read s (suc k)) refl (exps_read k s.last) refl)) e
