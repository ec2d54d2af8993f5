-- Generated programs of at most 1000 functions keep the limits of nodes and levels.
use Rattle.std.proofs.Common.{ℕ, zero, suc, ◌+◌, ◌*◌, ◌≡◌, ◌≤◌, List, [], ◌∷◌, ◌++◌, length, false, refl, sym, ap, subst, ◌∙◌, arith}
use Rattle.std.proofs.Common.{append_assoc, append-nil}
use Rattle.std.specs.Prelude.{Option, Some, None, sum_by, nat_lt, if◌then◌else◌}
use Rattle.std.proofs.lemmas.Bool.Decides.{nat_tests}
use Rattle.std.proofs.lemmas.List.Sums.{sum_by-append, sum_by-cons}
use Rattle.tg_base.specs.declared.ids.Span.{Span}
use Rattle.tg_syntax.specs.declared.tokens.Ident.{Ident}
use Rattle.tg_syntax.specs.declared.trees.Param.{Param}
use Rattle.tg_syntax.specs.Spans.{span_of}
use Rattle.tg_syntax.specs.Groups.{snoc_function}
use Rattle.tg_syntax.specs.Tree.{Exp, FunDecs, no_functions, function}
use Rattle.tg_syntax.specs.Measures.{size, functions_size}
use Rattle.tg_syntax.specs.Functions.{Levels, Measures, measures, own_params, own_functions, declared, declared_functions, program_functions, program_size}
use Rattle.tg_typecheck.specs.declared.faults.TypeRule.{TypeRule}
use Rattle.tg_typecheck.specs.declared.faults.TypeRule.TheVariants.{T20, T21, T22}
use Rattle.tg_typecheck.specs.Limits.{above, first_above, limit_fault}
use Rattle.tg_program_generator_laws.proofs.Lines.{place}
use Rattle.tg_program_generator_laws.proofs.Trees.{id, parameters, line_body, Spans, group, tree}

not_above : (rule : TypeRule) (at number limit : ℕ) (otherwise : Option (TypeRule × ℕ)) → number ≤ limit → above rule at number limit otherwise ≡ otherwise
not_above rule at number limit otherwise h = ap (λ b. if b then Some (rule, at) else otherwise) (not_less limit number h)
  where
    not_less : (a b : ℕ) → b ≤ a → nat_lt a b ≡ false
    not_less a b h = grind (arith, nat_tests)

-- functions of few levels and nodes
abbrev AreSmall : List Measures → Type 0
AreSmall [] = Unit {0}
AreSmall (f ∷ fs) = (f.level ≤ 32) × (f.size ≤ 4096) × AreSmall fs

small_append : (a b : List Measures) → AreSmall a → AreSmall b → AreSmall (a ++ b)
small_append [] b h k = k
small_append (f ∷ a) b h k = (h.0, h.1, small_append a b h.2 k)

none_above : (fs : List Measures) → AreSmall fs → first_above fs ≡ None
none_above [] h = refl
none_above (f ∷ fs) h =
    not_above T20 f.at f.level 32 (above T21 f.at f.size 4096 (first_above fs)) h.0
    ∙ not_above T21 f.at f.size 4096 (first_above fs) h.1 ∙ none_above fs h.2

abbrev total : List Measures → ℕ
total fs = sum_by (λ f. f.size) fs

-- a group with one function more
declared_more : (n : ℕ) (seen : Levels) (fs : FunDecs) (f : Ident) (ps : List Param) (r : Option Ident) (body : Exp) →
    declared_functions n seen (snoc_function fs f ps r body)
    ≡ declared_functions n seen fs ++ (measures f.span.from (suc n) seen ps body ∷ (declared (suc n) (own_params (suc n) ps seen) body ++ []))
declared_more n seen no_functions f ps r body = refl
declared_more n seen (function g qs t e rest) f ps r body =
    let more = measures f.span.from (suc n) seen ps body ∷ (declared (suc n) (own_params (suc n) ps seen) body ++ []) in
    let inner = declared (suc n) (own_params (suc n) qs seen) e in
    ap (λ ms. measures g.span.from (suc n) seen qs e ∷ (inner ++ ms)) (declared_more n seen rest f ps r body)
    ∙ ap (λ ms. measures g.span.from (suc n) seen qs e ∷ ms) (sym (append_assoc inner (declared_functions n seen rest) more))

size_more : (fs : FunDecs) (f : Ident) (ps : List Param) (r : Option Ident) (body : Exp) →
    functions_size (snoc_function fs f ps r body) ≡ functions_size fs + (1 + length ps)
size_more no_functions f ps r body = omega arith
size_more (function g qs t e rest) f ps r body = omega (arith, size_more rest f ps r body)

-- the functions of the lines
abbrev of_line : Levels → ℕ → (ℕ → Span) → List Measures
of_line seen n s =
    measures (s 1).from 1 seen (parameters s) (line_body n s) ∷ (declared 1 (own_params 1 (parameters s) seen) (line_body n s) ++ [])

line_small : (seen : Levels) (n : ℕ) (s : ℕ → Span) → AreSmall (of_line seen n s) × (total (of_line seen n s) ≤ 28)
line_small seen zero s = ((omega arith, omega arith, tt), omega arith)
line_small seen (suc k) s = ((omega arith, omega arith, (omega arith, omega arith, tt)), omega arith)

group_small : (seen : Levels) (s : Spans) (n : ℕ) →
    AreSmall (declared_functions 0 seen (group s n)) × (total (declared_functions 0 seen (group s n)) ≤ 28 * n + 100)
group_small seen s zero = ((omega arith, omega arith, (omega arith, omega arith, tt)), omega arith)
group_small seen s (suc n) =
    let line = s.lines n in
    let before = declared_functions 0 seen (group s n) in
    let h = group_small seen s n in
    let k = line_small seen n line in
    subst (λ ms. AreSmall ms × (total ms ≤ 28 * suc n + 100))
    (sym (declared_more 0 seen (group s n) (id line 1 (place n)) (parameters line) (Some (id line 8 3)) (line_body n line)))
    (small_append before (of_line seen n line) h.0 k.0, omega (arith, sum_by-append (λ (f : Measures). f.size) before (of_line seen n line), h.1, k.1))

group_size : (s : Spans) (n : ℕ) → functions_size (group s n) ≡ 2 * n + 4
group_size s zero = refl
group_size s (suc n) =
    let line = s.lines n in
    omega (arith, group_size s n, size_more (group s n) (id line 1 (place n)) (parameters line) (Some (id line 8 3)) (line_body n line))

tree_size : (s : Spans) (k : ℕ) → size (tree s k) ≤ 2 * suc k + 30
tree_size s k = omega (arith, group_size s (suc k))

pub within_limits : (s : Spans) (k : ℕ) → suc k ≤ 1000 → limit_fault (tree s k) ≡ None
within_limits s k few =
    let n = suc k in
    let t = tree s k in
    let main = measures (span_of t).from 0 [] [] t in
    let seen : Levels = own_functions 0 (group s n) (record { name = 0; level = 0 } ∷ []) in
    let fs = declared_functions 0 seen (group s n) in
    let g = group_small seen s n in
    let whole : program_functions t ≡ main ∷ fs = ap (λ ms. main ∷ ms) (append-nil (fs ++ []) ∙ append-nil fs) in
    let small : AreSmall (main ∷ fs) = (omega arith, omega (arith, tree_size s k), g.0) in
    let sum : total (main ∷ fs) ≤ 32768 = omega (arith, sum_by-cons (λ (f : Measures). f.size) main fs, tree_size s k, g.1) in
    not_above T22 (span_of t).from (program_size t) 32768 (first_above (program_functions t)) (subst (λ ms. total ms ≤ 32768) (sym whole) sum)
    ∙ ap first_above whole ∙ none_above (main ∷ fs) small
