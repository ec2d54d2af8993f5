-- The limits of a program, one after another.
use Rattle.std.specs.Prelude.{Option, Some}
use Rattle.std.proofs.Common.{◌≡◌, ℕ, ◌<◌, ◌≤◌, [], refl, sym, ap, arith}
use Rattle.tg_base.specs.declared.ids.Span.{Span}
use Rattle.tg_syntax.specs.declared.trees.Exp.{Exp as CodeExp}
use Rattle.tg_syntax.specs.declared.trees.Kind.{Kind, Nil, If', None'}
use Rattle.tg_syntax.specs.glue.Plain.{plain, plain_kind}
use Rattle.tg_syntax.specs.Spans.{span_of}
use Rattle.tg_syntax.specs.Measures.{size, saturated}
use Rattle.tg_typecheck.specs.declared.faults.TypeRule.{TypeRule}
use Rattle.tg_typecheck.specs.declared.faults.TypeRule.TheVariants.{T21, T22}
use Rattle.tg_syntax.specs.Functions.{declared, program_size}
use Rattle.tg_typecheck.specs.Limits.{above, first_above, limit_fault}

-- where an expression stands
kind_span : (k : Kind) (s : Span) → span_of (plain_kind k s) ≡ s
kind_span Nil s = refl
kind_span (If' _ _ _ _ _ _ None') s = refl
kind_span _ s = refl

pub span_is : (e : CodeExp) → span_of (plain e) ≡ e.span
span_is e = kind_span e.kind e.span

pub over : (rule : TypeRule) (at n limit : ℕ) (o : Option (TypeRule × ℕ)) → limit < n → Some (rule, at) ≡ above rule at n limit o
over rule at n limit o h = grind arith

pub within : (rule : TypeRule) (at n limit : ℕ) (o : Option (TypeRule × ℕ)) → n ≤ limit → o ≡ above rule at n limit o
within rule at n limit o h = grind arith

-- a number that is capped above a limit
pub capped_over : (n limit k : ℕ) → k ≡ saturated n → limit < k → limit < n
capped_over n limit k e h = omega arith

pub capped_within : (n limit k : ℕ) → k ≡ saturated n → k ≤ limit → limit < 4294967295 → n ≤ limit
capped_within n limit k e h l = omega arith

pub fault_parts : (e : CodeExp) → above T22 e.span.from (program_size (plain e)) 32768
    (above T21 e.span.from (size (plain e)) 4096 (first_above (declared 0 [] (plain e)))) ≡ limit_fault (plain e)
fault_parts e =
    ap (λ s. above T22 s.from (program_size (plain e)) 32768 (above T21 s.from (size (plain e)) 4096 (first_above (declared 0 [] (plain e)))))
    (sym (span_is e))
