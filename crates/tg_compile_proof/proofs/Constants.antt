-- Constants of a program's trees and of the runtime's are words.
use Rattle.std.proofs.Common.{◌≤◌, ◌+◌, zero, suc, ◌<◌, ◌^◌, List, [], ◌∷◌, ◌++◌, ◌⊎◌, inl, inr, subst, arith}
use Rattle.std.specs.List.{Contains}
use Rattle.std.specs.FinSet.{from_list}
use Rattle.tg_syntax.specs.Functions.{program_functions, program_size}
use Rattle.tg_syntax.specs.Measures.{size}
use Rattle.tg_syntax.specs.InnerMeasures.{inner}
use Rattle.tg_syntax.specs.Spans.{span_of}
use Rattle.tg_syntax.proofs.FunctionLaws.{program_size_is}
use Rattle.tg_typecheck.specs.declared.faults.TypeRule.TheVariants.{T22}
use Rattle.tg_typecheck.specs.Limits.{first_above}
use Rattle.tg_typecheck.specs.Programs.{CheckedProgram, IsAccepted}
use Rattle.tg_typecheck.specs.laws.Laws.{CheckedHasType}
use Rattle.tg_escape.specs.Escaping.{escapes_of}
use Rattle.tg_escape.specs.Links.{links_of}
use Rattle.tg_runtime.specs.laws.Laws.{RuntimeHasWords}
use Rattle.tg_runtime.specs.mirror.Routines.{runtime}
use Rattle.tg_translate.specs.mirror.Translate.{translated}
use Rattle.tg_translate_laws.specs.laws.Laws.{CheckedConstantsAreWords, FieldsAreFew}
use Rattle.tg_translate_laws.proofs.Bounding.{within_limit}
use Rattle.tg_compile.specs.Compiling.{findings_of}
use Rattle.tg_compile_proof.specs.laws.Laws.{FragmentsHaveWords}
use Rattle.tg_compile_proof.proofs.Fields.{fields_are_below}

-- what is in two lists, one after the other, is in one of them
pub either : {A : Type 0} (xs ys : List A) (x : A) → Contains (xs ++ ys) x → Contains xs x ⊎ Contains ys x
either [] ys x c = inr c
either (y ∷ xs) ys x (zero, l, e) = inl (0, omega arith, e)
either (y ∷ xs) ys x (suc k, l, e) = later (either xs ys x (k, omega (arith, l), e))
  where
    later : Contains xs x ⊎ Contains ys x → Contains (y ∷ xs) x ⊎ Contains ys x
    later (inl c) = let m = c.1 in inl (suc c.0, omega (arith, m), c.2)
    later (inr c) = inr c

-- an accepted program has 32,768 nodes at most, so no record has more fields
pub fields_are_few : CheckedHasType → (p : CheckedProgram) → IsAccepted p → FieldsAreFew (findings_of p.notes p.body)
fields_are_few typed p accepted at =
    let limit = within_limit T22 (span_of p.body).from (program_size p.body) 32768 (first_above (program_functions p.body)) (typed p accepted).limits in
    let nodes : size p.body + inner p.body ≤ 32768 = subst (λ n. n ≤ 32768) (program_size_is p.body) limit.0 in
    let few = fields_are_below 32768 p accepted nodes at in
    omega (arith, few)

pub fragments_have_words : CheckedHasType → CheckedConstantsAreWords → RuntimeHasWords → FragmentsHaveWords
fragments_have_words typed own runs p accepted words f n there named =
    by (either (translated (findings_of p.notes p.body) p.body).functions runtime.functions f there)
  where
    by : Contains (translated (findings_of p.notes p.body) p.body).functions f ⊎ Contains runtime.functions f →
        n < 2 ^ 32
    by (inl c) =
        own p (from_list (escapes_of p.body)) (from_list (links_of p.body)) accepted words (fields_are_few typed p accepted) f n c named
    by (inr c) = runs f n c named
