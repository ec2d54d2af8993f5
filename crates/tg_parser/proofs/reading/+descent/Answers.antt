use Rattle.std.proofs.Common.{arith, refl, sym, ◌∙◌, ap}
use Rattle.tg_syntax.specs.declared.tokens.Sign.TheVariants.{Comma, Semicolon, RightParen, Equal}
use Rattle.tg_syntax.specs.declared.tokens.Word.TheVariants.{WEnd}
use Rattle.tg_syntax.specs.glue.Plain.{plain, plain_lvalue}
use Rattle.tg_syntax.specs.Tree.{no_decs, no_exps, exp, init, no_inits}
use Rattle.tg_syntax.specs.glue.Lists.{exps_of, inits_of, decs_of}
use Rattle.tg_syntax.specs.Groups.{one_function}
use Rattle.tg_syntax.specs.Grammar.{Whole, Disjunction, Comparison, Sum, Unary}
use Rattle.tg_syntax_laws.specs.declared.marks.Mark.TheVariants.{OfSign, OfWord}
use Rattle.tg_syntax_laws.specs.mirror.Steps.{Got, At, After, Suffix, Listed, Items, OneInit, ListedInits, MoreInits, VarDec, FunDec, MoreDecs, want, call}
use Rattle.tg_syntax_laws.specs.mirror.Steps.{give}
use Rattle.tg_syntax_laws.specs.mirror.Reading.{give_got, call_got, below, last, binary}
use Rattle.tg_parser.specs.glue.Given.{no_memory}
use Rattle.tg_parser.specs.glue.Ranks.{level_of}
use Rattle.tg_parser.specs.glue.Heads.{plain_of}
use Rattle.tg_parser.proofs.Chains.{want_on, want_then, want_stops, name_on, name_then, name_stops, call_then, call_stops, ended}
use Rattle.tg_parser.proofs.Leading.{then, gives, raise, carry, want_leads, name_leads, call_leads, last_at, begins_ended, two_ended}
use Rattle.tg_parser.proofs.Descents.{got_is, same_leads, level_does, level_refuses, suffix_does, suffix_refuses, suffix_same, some_leads}
use Rattle.tg_parser.proofs.Descents.{none_leads, some_operates, none_operates, some_declares, none_declares, if_some, elses_yes, elses_no, leaf_is}
use Rattle.tg_parser.proofs.Descents.{leaf_none, look_leads, refuse_at}
use Rattle.tg_parser.proofs.Onwards.{operators_first, operators_more, operators_stops}
use Rattle.tg_parser.proofs.Onwards.{exps_end, inits_end, exps_one, inits_one, exps_none, inits_none, items_first, items_more, items_stops}
use Rattle.tg_parser.proofs.Onwards.{inits_first, inits_more, inits_stops, decs_first, decs_more, decs_stops}
use Rattle.tg_parser.proofs.Passings.{unary_refuses}
use Rattle.tg_parser.proofs.reading.+descent.Goals as goal

pub whole-returns-in_err-e-clause-given : goal.whole-returns-in_err-e-clause-given
whole-returns-in_err-e-clause-given t c = ended _ _ _ _ _ _ c.from_residual.ensures c.in_err-e.ensures.given

pub whole-returns-in_err-e-2-clause-given : goal.whole-returns-in_err-e-2-clause-given
whole-returns-in_err-e-2-clause-given t c = ended _ _ _ _ _ _ c.from_residual-in_err-e-2.ensures (no_memory (At Whole))

pub whole-returns-clause-given : goal.whole-returns-clause-given
whole-returns-clause-given t c = got_is (At Whole) (ap plain c.in_ok-e-2.ensures) c.in_ok-e.ensures.given

pub of_any_depth-returns-in_err-left-clause-given : goal.of_any_depth-returns-in_err-left-clause-given
of_any_depth-returns-in_err-left-clause-given t c = ended _ _ _ _ _ _ c.from_residual.ensures (call_stops (At Whole) (At Disjunction) c.in_err-left.ensures.given)

pub of_any_depth-returns-in-Other-clause-given : goal.of_any_depth-returns-in-Other-clause-given
of_any_depth-returns-in-Other-clause-given t c = gives (then (call_leads (At Whole) (At Disjunction) c.in_ok-left.ensures.given)
    (same_leads (At Whole) c.in-Other.ensures))

pub of_any_depth-returns-in-LValue-clause-given : goal.of_any_depth-returns-in-LValue-clause-given
of_any_depth-returns-in-LValue-clause-given t c = carry c.assignment.result _ _
    (then (call_leads (At Whole) (At Disjunction) c.in_ok-left.ensures.given) (same_leads (At Whole) c.in-LValue.ensures)) c.assignment.ensures.given

pub boxed_whole-returns-in_err-e-clause-given : goal.boxed_whole-returns-in_err-e-clause-given
boxed_whole-returns-in_err-e-clause-given t c = ended _ _ _ _ _ _ c.from_residual.ensures c.in_err-e.ensures.given

pub boxed_whole-returns-in_err-expression-clause-given : goal.boxed_whole-returns-in_err-expression-clause-given
boxed_whole-returns-in_err-expression-clause-given t c = ended _ _ _ _ _ _ c.from_residual-in_err-expression.ensures (no_memory (At Whole))

pub assignment-returns-in_default-clause-given : goal.assignment-returns-in_default-clause-given
assignment-returns-in_default-clause-given t c = got_is (At Whole) c.read.ensures
    (gives (none_leads _ _ c.in_ok-after.ensures.given c.in_default.is (At Whole) _ _))

pub assignment-returns-in_err-value-clause-given : goal.assignment-returns-in_err-value-clause-given
assignment-returns-in_err-value-clause-given t c = ended _ _ _ _ _ _ c.from_residual-in_err-value.ensures
    (raise (some_leads _ _ c.in_ok-after.ensures.given c.in-Some.is (At Whole) _ _) (call_stops (At Whole) (At Whole) c.in_err-value.ensures.given))

pub assignment-returns-in_err-e-clause-given : goal.assignment-returns-in_err-e-clause-given
assignment-returns-in_err-e-clause-given t c = ended _ _ _ _ _ _ c.from_residual-in_err-e.ensures (no_memory (At Whole))

pub assignment-returns-clause-given : goal.assignment-returns-clause-given
assignment-returns-clause-given t c = got_is (At Whole) c.in_ok-e.ensures
    (gives (then (some_leads _ _ c.in_ok-after.ensures.given c.in-Some.is (At Whole) _ _) (call_leads (At Whole) (At Whole) c.in_ok-value.ensures.given)))

pub at-returns-in_err-left-clause-given : goal.at-returns-in_err-left-clause-given
at-returns-in_err-left-clause-given t c = ended _ _ _ _ _ _ c.from_residual.ensures (unary_refuses c.args.rank c.in_err-left.ensures.given)

pub at-returns-clause-given : goal.at-returns-clause-given
at-returns-clause-given t c = c.onward.ensures.given _ c.in_ok-left.ensures.given

pub at-returns-then-is_over-clause-given : goal.at-returns-then-is_over-clause-given
at-returns-then-is_over-clause-given t c = (c.is_over.ensures c.if-is_over.true).goes _ c.in_ok-left.ensures.given

pub operand-returns-in_err-first-clause-given : goal.operand-returns-in_err-first-clause-given
operand-returns-in_err-first-clause-given t c = ended _ _ _ _ _ _ c.from_residual.ensures
    (unary_refuses c.args.rank (leaf_none (At Unary) c.in_err-first.ensures.first))

pub operand-returns-in_err-e-clause-given : goal.operand-returns-in_err-e-clause-given
operand-returns-in_err-e-clause-given t c = ended _ _ _ _ _ _ c.from_residual-in_err-e.ensures (no_memory (At _))

pub operand-returns-in_err-right-clause-given : goal.operand-returns-in_err-right-clause-given
operand-returns-in_err-right-clause-given t c = ended _ _ _ _ _ _ c.from_residual-in_err-right.ensures (no_memory (At _))

pub operand-returns-then-is_over-clause-given : goal.operand-returns-then-is_over-clause-given
operand-returns-then-is_over-clause-given t c = got_is (At (level_of c.args.rank)) (ap plain c.in_ok-right.ensures.ok)
    ((c.is_over.ensures c.if-is_over.true).goes _
    (leaf_is (At Unary) c.in_ok-first.ensures.first (c.in_ok-e.ensures ∙ ap plain_of c.in-Some.is)))

pub boxed-returns-in_err-e-clause-given : goal.boxed-returns-in_err-e-clause-given
boxed-returns-in_err-e-clause-given t c = ended _ _ _ _ _ _ c.from_residual.ensures c.in_err-e.ensures.given

pub boxed-returns-in_err-right-clause-given : goal.boxed-returns-in_err-right-clause-given
boxed-returns-in_err-right-clause-given t c = ended _ _ _ _ _ _ c.from_residual-in_err-right.ensures (no_memory (At _))

pub onward-returns-then-is_over-clause-given : goal.onward-returns-then-is_over-clause-given
onward-returns-then-is_over-clause-given t c = λ start d. (c.is_over.ensures c.if-is_over.true).goes start d

pub onward-returns-in-Unary-clause-given : goal.onward-returns-in-Unary-clause-given
onward-returns-in-Unary-clause-given t c = λ start d. level_does (ap level_of (sym c.in-Unary.is)) d

pub operands-returns-in_err-first-clause-given : goal.operands-returns-in_err-first-clause-given
operands-returns-in_err-first-clause-given t c = λ start d. ended _ _ _ _ _ _ c.from_residual.ensures
    (call_stops (At _) (At _) (level_refuses c.below.ensures (c.in_err-first.ensures.given start d)))

pub operands-returns-clause-given : goal.operands-returns-clause-given
operands-returns-clause-given t c = λ start d. carry c.operators.result _ _
    (call_leads (At _) (At _) (level_does c.below.ensures (c.in_ok-first.ensures.given start d)))
    (last_at c.operators.result _ _ _ _ _ _ c.operators.ensures.given)

pub operators-returns-in_default-clause-given : goal.operators-returns-in_default-clause-given
operators-returns-in_default-clause-given t c = c.operators.invariant.onward.reaches (Got _ _)
    (gives (none_operates _ _ _ _ c.in_ok-operator.ensures.given c.in_default.is (After (level_of c.args.rank) (plain c.operators.left)) _ _))

pub operators-returns-in_err-operator-clause-given : goal.operators-returns-in_err-operator-clause-given
operators-returns-in_err-operator-clause-given t c = ended _ _ _ _ _ _ c.from_residual.ensures
    (operators_stops c.operators.invariant.onward (c.in_err-operator.ensures.given (After (level_of c.args.rank) (plain c.operators.left)) _ _))

pub operators-returns-in_err-right-clause-given : goal.operators-returns-in_err-right-clause-given
operators-returns-in_err-right-clause-given t c = ended _ _ _ _ _ _ c.from_residual-in_err-right.ensures
    (operators_stops c.operators.invariant.onward
    (raise (some_operates _ _ _ _ c.in_ok-operator.ensures.given c.in-Some.is (After (level_of c.args.rank) (plain c.operators.left)) _ _)
    (call_stops (After (level_of c.args.rank) (plain c.operators.left)) (At (below (level_of c.args.rank)))
    (level_refuses c.below.ensures c.in_err-right.ensures.given))))

pub operators-returns-in_err-first-clause-given : goal.operators-returns-in_err-first-clause-given
operators-returns-in_err-first-clause-given t c =
    ended _ _ _ _ _ _ c.from_residual-in_err-first.ensures (no_memory (After (level_of c.args.rank) (plain c.args.left)))

pub operators-operators-init : goal.operators-operators-init
operators-operators-init t c = record { onward = operators_first _ _ _; shorter = omega arith }

pub operators-operators-preserved : goal.operators-operators-preserved
operators-operators-preserved t c =
    record {
      onward = operators_more c.operators.invariant.onward
          (then (some_operates _ _ _ _ c.in_ok-operator.ensures.given c.in-Some.is (After (level_of c.args.rank) (plain c.operators.left)) _ _)
          (call_leads (After (level_of c.args.rank) (plain c.operators.left)) (At (below (level_of c.args.rank)))
          (level_does c.below.ensures c.in_ok-right.ensures.given)))
          (c.build_operation-left.ensures ∙ ap (λ l. binary c.in-Some.operator.op c.in-Some.operator.at (plain l) (plain c.in_ok-right.right.value))
          c.in_ok-first.ensures.ok);
      shorter =
          omega (arith, if_some _ c.in_ok-operator.ensures.shorter c.in-Some.is, c.in_ok-right.ensures.shorter);
    }

pub comparison-returns-in_err-first-clause-given : goal.comparison-returns-in_err-first-clause-given
comparison-returns-in_err-first-clause-given t c = λ start d. ended _ _ _ _ _ _ c.from_residual.ensures
    (call_stops (At Comparison) (At Sum) (c.in_err-first.ensures.given start d))

pub comparison-returns-in_err-operator-clause-given : goal.comparison-returns-in_err-operator-clause-given
comparison-returns-in_err-operator-clause-given t c = λ start d. ended _ _ _ _ _ _ c.from_residual-in_err-operator.ensures
    (call_then (At Comparison) (At Sum) (c.in_ok-first.ensures.given start d) (c.in_err-operator.ensures.given (At Comparison) _ _))

pub comparison-returns-in_default-clause-given : goal.comparison-returns-in_default-clause-given
comparison-returns-in_default-clause-given t c =
    λ start d. gives (then (call_leads (At Comparison) (At Sum) (c.in_ok-first.ensures.given start d))
    (none_operates _ _ _ _ c.in_ok-operator.ensures.given c.in_default.is (At Comparison) _ _))

pub comparison-returns-in_err-right-clause-given : goal.comparison-returns-in_err-right-clause-given
comparison-returns-in_err-right-clause-given t c = λ start d. ended _ _ _ _ _ _ c.from_residual-in_err-right.ensures
    (raise (then (call_leads (At Comparison) (At Sum) (c.in_ok-first.ensures.given start d))
    (some_operates _ _ _ _ c.in_ok-operator.ensures.given c.in-Some.is (At Comparison) _ _)) (call_stops (At Comparison) (At Sum) c.in_err-right.ensures.given))

pub comparison-returns-clause-given : goal.comparison-returns-clause-given
comparison-returns-clause-given t c = λ start d. got_is (At Comparison)
    (c.build_operation-e.ensures ∙ ap (λ l. binary c.in-Some.operator.op c.in-Some.operator.at (plain l) (plain c.in_ok-right.right.value))
    c.in_ok-left.ensures.ok)
    (gives (then (call_leads (At Comparison) (At Sum) (c.in_ok-first.ensures.given start d))
    (then (some_operates _ _ _ _ c.in_ok-operator.ensures.given c.in-Some.is (At Comparison) _ _)
    (call_leads (At Comparison) (At Sum) c.in_ok-right.ensures.given))))

pub comparison-returns-in_err-left-clause-given : goal.comparison-returns-in_err-left-clause-given
comparison-returns-in_err-left-clause-given t c = λ start d. ended _ _ _ _ _ _ c.from_residual-in_err-left.ensures (no_memory (At Comparison))

pub unary-returns-in_err-first-clause-given : goal.unary-returns-in_err-first-clause-given
unary-returns-in_err-first-clause-given t c = ended _ _ _ _ _ _ c.from_residual.ensures (leaf_none (At Unary) c.in_err-first.ensures.first)

pub unary-returns-in_err-e-clause-given : goal.unary-returns-in_err-e-clause-given
unary-returns-in_err-e-clause-given t c = ended _ _ _ _ _ _ c.from_residual-in_err-e.ensures (no_memory (At Unary))

pub unary-returns-in-Some-clause-given : goal.unary-returns-in-Some-clause-given
unary-returns-in-Some-clause-given t c = leaf_is (At Unary) c.in_ok-first.ensures.first (c.in_ok-e.ensures ∙ ap plain_of c.in-Some.is)

pub unary-returns-in-Minus-clause-given : goal.unary-returns-in-Minus-clause-given
unary-returns-in-Minus-clause-given t c = carry c.negating.result _ _ (look_leads (At Unary) c.in_ok-first.ensures.first
    (c.in_ok-e.ensures ∙ ap plain_of c.in_default.is) c.in-Minus.ensures) c.negating.ensures.given

pub unary-returns-in-Parenthesis-clause-given : goal.unary-returns-in-Parenthesis-clause-given
unary-returns-in-Parenthesis-clause-given t c = carry c.grouping.result _ _
    (look_leads (At Unary) c.in_ok-first.ensures.first (c.in_ok-e.ensures ∙ ap plain_of c.in_default.is) c.in-Parenthesis.ensures) c.grouping.ensures.given

pub unary-returns-in-If-clause-given : goal.unary-returns-in-If-clause-given
unary-returns-in-If-clause-given t c = carry c.choosing.result _ _ (look_leads (At Unary) c.in_ok-first.ensures.first
    (c.in_ok-e.ensures ∙ ap plain_of c.in_default.is) c.in-If.ensures) c.choosing.ensures.given

pub unary-returns-in-While-clause-given : goal.unary-returns-in-While-clause-given
unary-returns-in-While-clause-given t c = carry c.looping.result _ _ (look_leads (At Unary) c.in_ok-first.ensures.first
    (c.in_ok-e.ensures ∙ ap plain_of c.in_default.is) c.in-While.ensures) c.looping.ensures.given

pub unary-returns-in-For-clause-given : goal.unary-returns-in-For-clause-given
unary-returns-in-For-clause-given t c = carry c.counting.result _ _ (look_leads (At Unary) c.in_ok-first.ensures.first
    (c.in_ok-e.ensures ∙ ap plain_of c.in_default.is) c.in-For.ensures) c.counting.ensures.given

pub unary-returns-in-Let-clause-given : goal.unary-returns-in-Let-clause-given
unary-returns-in-Let-clause-given t c = carry c.declaring.result _ _ (look_leads (At Unary) c.in_ok-first.ensures.first
    (c.in_ok-e.ensures ∙ ap plain_of c.in_default.is) c.in-Let.ensures) c.declaring.ensures.given

pub unary-returns-in-Name-clause-given : goal.unary-returns-in-Name-clause-given
unary-returns-in-Name-clause-given t c = carry c.naming.result _ _ (look_leads (At Unary) c.in_ok-first.ensures.first
    (c.in_ok-e.ensures ∙ ap plain_of c.in_default.is) c.in-Name.ensures) c.naming.ensures.given

pub unary-returns-in-Nothing-clause-given : goal.unary-returns-in-Nothing-clause-given
unary-returns-in-Nothing-clause-given t c =
    raise (look_leads (At Unary) c.in_ok-first.ensures.first (c.in_ok-e.ensures ∙ ap plain_of c.in_default.is) c.in-Nothing.ensures)
    (refuse_at (At Unary) c.in_ok-first.ensures.first)

pub negating-returns-in_err-first-clause-given : goal.negating-returns-in_err-first-clause-given
negating-returns-in_err-first-clause-given t c = ended _ _ _ _ _ _ c.from_residual.ensures (want_stops (At Unary) c.in_err-first.ensures.given)

pub negating-returns-in_err-a-clause-given : goal.negating-returns-in_err-a-clause-given
negating-returns-in_err-a-clause-given t c = ended _ _ _ _ _ _ c.from_residual-in_err-a.ensures
    (want_then (At Unary) c.in_ok-first.ensures.given (call_stops (At Unary) (At Unary) c.in_err-a.ensures.given))

pub negating-returns-in_err-e-clause-given : goal.negating-returns-in_err-e-clause-given
negating-returns-in_err-e-clause-given t c = ended _ _ _ _ _ _ c.from_residual-in_err-e.ensures (no_memory (At Unary))

pub negating-returns-clause-given : goal.negating-returns-clause-given
negating-returns-clause-given t c = got_is (At Unary) c.in_ok-e.ensures (want_on (At Unary) c.in_ok-first.ensures.given
    (call_got (At Unary) (At Unary) c.in_ok-a.ensures.given (give_got (At Unary))))

pub grouping-returns-in_err-first-clause-given : goal.grouping-returns-in_err-first-clause-given
grouping-returns-in_err-first-clause-given t c = ended _ _ _ _ _ _ c.from_residual.ensures (want_stops (At Unary) c.in_err-first.ensures.given)

pub grouping-returns-in_err-items-clause-given : goal.grouping-returns-in_err-items-clause-given
grouping-returns-in_err-items-clause-given t c = ended _ _ _ _ _ _ c.from_residual-in_err-items.ensures
    (want_then (At Unary) c.in_ok-first.ensures.given (call_stops (At Unary) (Listed Semicolon (OfSign RightParen)) c.in_err-items.ensures.given))

pub grouping-returns-clause-given : goal.grouping-returns-clause-given
grouping-returns-clause-given t c = got_is (At Unary) c.build_sequence.ensures (want_on (At Unary) c.in_ok-first.ensures.given
    (call_got (At Unary) (Listed Semicolon (OfSign RightParen)) c.in_ok-items.ensures.given (give_got (At Unary))))

pub choosing-returns-in_err-first-clause-given : goal.choosing-returns-in_err-first-clause-given
choosing-returns-in_err-first-clause-given t c = ended _ _ _ _ _ _ c.from_residual.ensures (c.in_err-first.ensures.given (At Unary) _)

pub choosing-returns-in_err-this-clause-given : goal.choosing-returns-in_err-this-clause-given
choosing-returns-in_err-this-clause-given t c = ended _ _ _ _ _ _ c.from_residual-in_err-this.ensures
    (raise (c.in_ok-first.ensures.given (At Unary) _) (c.in_err-this.ensures.given (At Unary) _))

pub choosing-returns-in_err-goes_on-clause-given : goal.choosing-returns-in_err-goes_on-clause-given
choosing-returns-in_err-goes_on-clause-given t c = ended _ _ _ _ _ _ c.from_residual-in_err-goes_on.ensures
    (raise (then (c.in_ok-first.ensures.given (At Unary) _) (c.in_ok-this.ensures.given (At Unary) _))
    ((rw c.deref.ensures at c.in_err-goes_on.ensures) (At Unary) _ _))

pub choosing-returns-then-not-goes_on-clause-given : goal.choosing-returns-then-not-goes_on-clause-given
choosing-returns-then-not-goes_on-clause-given t c = got_is (At Unary) c.build_choice.ensures
    (gives (then (c.in_ok-first.ensures.given (At Unary) _) (then (c.in_ok-this.ensures.given (At Unary) _)
    (elses_no c.in_ok-goes_on.goes_on _ (rw c.deref.ensures at c.in_ok-goes_on.ensures) c.if-not-goes_on.true (At Unary) _ _))))

pub choosing-returns-in_err-other-clause-given : goal.choosing-returns-in_err-other-clause-given
choosing-returns-in_err-other-clause-given t c = ended _ _ _ _ _ _ c.from_residual-in_err-other.ensures
    (raise (then (c.in_ok-first.ensures.given (At Unary) _) (then (c.in_ok-this.ensures.given (At Unary) _)
    (elses_yes c.in_ok-goes_on.goes_on _ (rw c.deref.ensures at c.in_ok-goes_on.ensures) c.if-not-goes_on.false (At Unary) _ _)))
    (c.in_err-other.ensures.given (At Unary) _))

pub choosing-returns-clause-given : goal.choosing-returns-clause-given
choosing-returns-clause-given t c = got_is (At Unary) c.build_choice_of_two.ensures
    (gives (then (c.in_ok-first.ensures.given (At Unary) _) (then (c.in_ok-this.ensures.given (At Unary) _)
    (then (elses_yes c.in_ok-goes_on.goes_on _ (rw c.deref.ensures at c.in_ok-goes_on.ensures) c.if-not-goes_on.false (At Unary) _ _)
    (c.in_ok-other.ensures.given (At Unary) _)))))

pub looping-returns-in_err-first-clause-given : goal.looping-returns-in_err-first-clause-given
looping-returns-in_err-first-clause-given t c = ended _ _ _ _ _ _ c.from_residual.ensures (c.in_err-first.ensures.given (At Unary) _)

pub looping-returns-in_err-body-clause-given : goal.looping-returns-in_err-body-clause-given
looping-returns-in_err-body-clause-given t c = ended _ _ _ _ _ _ c.from_residual-in_err-body.ensures
    (raise (c.in_ok-first.ensures.given (At Unary) _) (c.in_err-body.ensures.given (At Unary) _))

pub looping-returns-clause-given : goal.looping-returns-clause-given
looping-returns-clause-given t c = got_is (At Unary) c.build_while.ensures
    (gives (then (c.in_ok-first.ensures.given (At Unary) _) (c.in_ok-body.ensures.given (At Unary) _)))

pub counting-returns-in_err-first-clause-given : goal.counting-returns-in_err-first-clause-given
counting-returns-in_err-first-clause-given t c = ended _ _ _ _ _ _ c.from_residual.ensures (c.in_err-first.ensures.given (At Unary) _)

pub counting-returns-in_err-low-clause-given : goal.counting-returns-in_err-low-clause-given
counting-returns-in_err-low-clause-given t c = ended _ _ _ _ _ _ c.from_residual-in_err-low.ensures
    (raise (c.in_ok-first.ensures.given (At Unary) _) (c.in_err-low.ensures.given (At Unary) _))

pub counting-returns-in_err-high-clause-given : goal.counting-returns-in_err-high-clause-given
counting-returns-in_err-high-clause-given t c = ended _ _ _ _ _ _ c.from_residual-in_err-high.ensures
    (raise (then (c.in_ok-first.ensures.given (At Unary) _) (c.in_ok-low.ensures.given (At Unary) _)) (c.in_err-high.ensures.given (At Unary) _))

pub counting-returns-in_err-body-clause-given : goal.counting-returns-in_err-body-clause-given
counting-returns-in_err-body-clause-given t c = ended _ _ _ _ _ _ c.from_residual-in_err-body.ensures
    (raise (then (c.in_ok-first.ensures.given (At Unary) _) (then (c.in_ok-low.ensures.given (At Unary) _) (c.in_ok-high.ensures.given (At Unary) _)))
    (c.in_err-body.ensures.given (At Unary) _))

pub counting-returns-clause-given : goal.counting-returns-clause-given
counting-returns-clause-given t c = got_is (At Unary) c.build_for.ensures
    (gives (then (c.in_ok-first.ensures.given (At Unary) _) (then (c.in_ok-low.ensures.given (At Unary) _)
    (then (c.in_ok-high.ensures.given (At Unary) _) (c.in_ok-body.ensures.given (At Unary) _)))))

pub declaring-returns-in_err-first-clause-given : goal.declaring-returns-in_err-first-clause-given
declaring-returns-in_err-first-clause-given t c = ended _ _ _ _ _ _ c.from_residual.ensures (want_stops (At Unary) c.in_err-first.ensures.given)

pub declaring-returns-in_err-decs-clause-given : goal.declaring-returns-in_err-decs-clause-given
declaring-returns-in_err-decs-clause-given t c = ended _ _ _ _ _ _ c.from_residual-in_err-decs.ensures
    (want_then (At Unary) c.in_ok-first.ensures.given (call_stops (At Unary) (MoreDecs no_decs) c.in_err-decs.ensures.given))

pub declaring-returns-in_err-rest-clause-given : goal.declaring-returns-in_err-rest-clause-given
declaring-returns-in_err-rest-clause-given t c = ended _ _ _ _ _ _ c.from_residual-in_err-rest.ensures
    (want_then (At Unary) c.in_ok-first.ensures.given (call_then (At Unary) (MoreDecs no_decs) c.in_ok-decs.ensures.given
    (want_stops (At Unary) c.in_err-rest.ensures.given)))

pub declaring-returns-in_err-body-clause-given : goal.declaring-returns-in_err-body-clause-given
declaring-returns-in_err-body-clause-given t c = ended _ _ _ _ _ _ c.from_residual-in_err-body.ensures
    (want_then (At Unary) c.in_ok-first.ensures.given (call_then (At Unary) (MoreDecs no_decs) c.in_ok-decs.ensures.given
    (want_then (At Unary) c.in_ok-rest.ensures.given (call_stops (At Unary) (Listed Semicolon (OfWord WEnd)) c.in_err-body.ensures.given))))

pub declaring-returns-clause-given : goal.declaring-returns-clause-given
declaring-returns-clause-given t c = got_is (At Unary) c.build_let.ensures (want_on (At Unary) c.in_ok-first.ensures.given
    (call_got (At Unary) (MoreDecs no_decs) c.in_ok-decs.ensures.given (want_on (At Unary) c.in_ok-rest.ensures.given
    (call_got (At Unary) (Listed Semicolon (OfWord WEnd)) c.in_ok-body.ensures.given (give_got (At Unary))))))

pub naming-returns-in_err-name-clause-given : goal.naming-returns-in_err-name-clause-given
naming-returns-in_err-name-clause-given t c = ended _ _ _ _ _ _ c.from_residual.ensures (name_stops (At Unary) c.in_err-name.ensures.given)

pub naming-returns-in_err-after-clause-given : goal.naming-returns-in_err-after-clause-given
naming-returns-in_err-after-clause-given t c = ended _ _ _ _ _ _ c.from_residual-in_err-after.ensures
    (name_then (At Unary) c.in_ok-name.ensures.given (c.in_err-after.ensures.given (At Unary) _ _))

pub naming-returns-in_err-arguments-clause-given : goal.naming-returns-in_err-arguments-clause-given
naming-returns-in_err-arguments-clause-given t c = ended _ _ _ _ _ _ c.from_residual-in_err-arguments.ensures
    (raise (then (name_leads (At Unary) c.in_ok-name.ensures.given) (some_leads _ _ c.in_ok-after.ensures.given c.in-Some.is (At Unary) _ _))
    (call_stops (At Unary) (Listed Comma (OfSign RightParen)) c.in_err-arguments.ensures.given))

pub naming-returns-in-Some-clause-given : goal.naming-returns-in-Some-clause-given
naming-returns-in-Some-clause-given t c = got_is (At Unary) c.build_call.ensures
    (gives (then (name_leads (At Unary) c.in_ok-name.ensures.given)
    (then (some_leads _ _ c.in_ok-after.ensures.given c.in-Some.is (At Unary) _ _)
    (call_leads (At Unary) (Listed Comma (OfSign RightParen)) c.in_ok-arguments.ensures.given))))

pub naming-returns-in_err-after-2-clause-given : goal.naming-returns-in_err-after-2-clause-given
naming-returns-in_err-after-2-clause-given t c = ended _ _ _ _ _ _ c.from_residual-in_err-after-2.ensures
    (raise (then (name_leads (At Unary) c.in_ok-name.ensures.given) (none_leads _ _ c.in_ok-after.ensures.given c.in_default.is (At Unary) _ _))
    (c.in_err-after-2.ensures.given (At Unary) _ _))

pub naming-returns-in_err-inits-clause-given : goal.naming-returns-in_err-inits-clause-given
naming-returns-in_err-inits-clause-given t c = ended _ _ _ _ _ _ c.from_residual-in_err-inits.ensures
    (raise (then (name_leads (At Unary) c.in_ok-name.ensures.given)
    (then (none_leads _ _ c.in_ok-after.ensures.given c.in_default.is (At Unary) _ _)
    (some_leads _ _ c.in_ok-after-2.ensures.given c.in-Some-2.is (At Unary) _ _))) (call_stops (At Unary) ListedInits c.in_err-inits.ensures.given))

pub naming-returns-in-Some-2-clause-given : goal.naming-returns-in-Some-2-clause-given
naming-returns-in-Some-2-clause-given t c = got_is (At Unary) c.build_record.ensures
    (gives (then (name_leads (At Unary) c.in_ok-name.ensures.given)
    (then (none_leads _ _ c.in_ok-after.ensures.given c.in_default.is (At Unary) _ _)
    (then (some_leads _ _ c.in_ok-after-2.ensures.given c.in-Some-2.is (At Unary) _ _) (call_leads (At Unary) ListedInits c.in_ok-inits.ensures.given)))))

pub naming-returns-in_err-after-3-clause-given : goal.naming-returns-in_err-after-3-clause-given
naming-returns-in_err-after-3-clause-given t c = ended _ _ _ _ _ _ c.from_residual-in_err-after-3.ensures
    (raise (then (name_leads (At Unary) c.in_ok-name.ensures.given)
    (then (none_leads _ _ c.in_ok-after.ensures.given c.in_default.is (At Unary) _ _)
    (none_leads _ _ c.in_ok-after-2.ensures.given c.in_default-2.is (At Unary) _ _))) (c.in_err-after-3.ensures.given (At Unary) _ _))

pub naming-returns-in-Some-3-clause-given : goal.naming-returns-in-Some-3-clause-given
naming-returns-in-Some-3-clause-given t c = carry c.indexing.result _ _
    (then (name_leads (At Unary) c.in_ok-name.ensures.given)
    (then (none_leads _ _ c.in_ok-after.ensures.given c.in_default.is (At Unary) _ _)
    (then (none_leads _ _ c.in_ok-after-2.ensures.given c.in_default-2.is (At Unary) _ _)
    (some_leads _ _ c.in_ok-after-3.ensures.given c.in-Some-3.is (At Unary) _ _)))) c.indexing.ensures.given

pub naming-returns-in_err-span-clause-given : goal.naming-returns-in_err-span-clause-given
naming-returns-in_err-span-clause-given t c = ended _ _ _ _ _ _ c.from_residual-in_err-span.ensures
    (raise (then (name_leads (At Unary) c.in_ok-name.ensures.given)
    (then (none_leads _ _ c.in_ok-after.ensures.given c.in_default.is (At Unary) _ _)
    (then (none_leads _ _ c.in_ok-after-2.ensures.given c.in_default-2.is (At Unary) _ _)
    (none_leads _ _ c.in_ok-after-3.ensures.given c.in_default-3.is (At Unary) _ _)))) (call_stops (At Unary) (Suffix _ _) c.in_err-span.ensures.given))

pub naming-returns-clause-given : goal.naming-returns-clause-given
naming-returns-clause-given t c = got_is (At Unary) c.read.ensures
    (gives (then (name_leads (At Unary) c.in_ok-name.ensures.given)
    (then (none_leads _ _ c.in_ok-after.ensures.given c.in_default.is (At Unary) _ _)
    (then (none_leads _ _ c.in_ok-after-2.ensures.given c.in_default-2.is (At Unary) _ _)
    (then (none_leads _ _ c.in_ok-after-3.ensures.given c.in_default-3.is (At Unary) _ _) (call_leads (At Unary) (Suffix _ _) c.in_ok-span.ensures.given))))))

pub indexing-returns-in_err-inside-clause-given : goal.indexing-returns-in_err-inside-clause-given
indexing-returns-in_err-inside-clause-given t c = ended _ _ _ _ _ _ c.from_residual.ensures (call_stops (At Unary) (At Whole) c.in_err-inside.ensures.given)

pub indexing-returns-in_err-last-clause-given : goal.indexing-returns-in_err-last-clause-given
indexing-returns-in_err-last-clause-given t c = ended _ _ _ _ _ _ c.from_residual-in_err-last.ensures
    (call_then (At Unary) (At Whole) c.in_ok-inside.ensures.given (want_stops (At Unary) c.in_err-last.ensures.given))

pub indexing-returns-in_err-after-clause-given : goal.indexing-returns-in_err-after-clause-given
indexing-returns-in_err-after-clause-given t c = ended _ _ _ _ _ _ c.from_residual-in_err-after.ensures
    (raise (then (call_leads (At Unary) (At Whole) c.in_ok-inside.ensures.given) (want_leads (At Unary) c.in_ok-last.ensures.given))
    (c.in_err-after.ensures.given (At Unary) _ _))

pub indexing-returns-in_err-value-clause-given : goal.indexing-returns-in_err-value-clause-given
indexing-returns-in_err-value-clause-given t c = ended _ _ _ _ _ _ c.from_residual-in_err-value.ensures
    (raise (then (call_leads (At Unary) (At Whole) c.in_ok-inside.ensures.given)
    (then (want_leads (At Unary) c.in_ok-last.ensures.given) (some_leads _ _ c.in_ok-after.ensures.given c.in-Some.is (At Unary) _ _)))
    (call_stops (At Unary) (At Whole) c.in_err-value.ensures.given))

pub indexing-returns-in-Some-clause-given : goal.indexing-returns-in-Some-clause-given
indexing-returns-in-Some-clause-given t c = got_is (At Unary) c.build_array.ensures
    (gives (then (call_leads (At Unary) (At Whole) c.in_ok-inside.ensures.given)
    (then (want_leads (At Unary) c.in_ok-last.ensures.given)
    (then (some_leads _ _ c.in_ok-after.ensures.given c.in-Some.is (At Unary) _ _) (call_leads (At Unary) (At Whole) c.in_ok-value.ensures.given)))))

pub indexing-returns-in_err-span-clause-given : goal.indexing-returns-in_err-span-clause-given
indexing-returns-in_err-span-clause-given t c = ended _ _ _ _ _ _ c.from_residual-in_err-span.ensures
    (raise (then (call_leads (At Unary) (At Whole) c.in_ok-inside.ensures.given)
    (then (want_leads (At Unary) c.in_ok-last.ensures.given) (none_leads _ _ c.in_ok-after.ensures.given c.in_default.is (At Unary) _ _)))
    (call_stops (At Unary) (Suffix _ _) (suffix_refuses c.join.ensures c.in_ok-place.ensures c.in_err-span.ensures.given)))

pub indexing-returns-clause-given : goal.indexing-returns-clause-given
indexing-returns-clause-given t c = got_is (At Unary) c.read.ensures
    (gives (then (call_leads (At Unary) (At Whole) c.in_ok-inside.ensures.given)
    (then (want_leads (At Unary) c.in_ok-last.ensures.given)
    (then (none_leads _ _ c.in_ok-after.ensures.given c.in_default.is (At Unary) _ _)
    (call_leads (At Unary) (Suffix _ _) (suffix_does c.join.ensures c.in_ok-place.ensures c.in_ok-span.ensures.given))))))

pub indexing-returns-in_err-place-clause-given : goal.indexing-returns-in_err-place-clause-given
indexing-returns-in_err-place-clause-given t c = ended _ _ _ _ _ _ c.from_residual-in_err-place.ensures (no_memory (At Unary))

pub suffixes-returns-in_err-name-clause-given : goal.suffixes-returns-in_err-name-clause-given
suffixes-returns-in_err-name-clause-given t c = ended _ _ _ _ _ _ c.from_residual-in_err-name.ensures
    (raise (some_leads _ _ c.in_ok-after.ensures.given c.in-Some.is (Suffix c.args.span (plain_lvalue c.args.place)) _ _)
    (name_stops (Suffix c.args.span (plain_lvalue c.args.place)) c.in_err-name.ensures.given))

pub suffixes-returns-in_err-place-clause-given : goal.suffixes-returns-in_err-place-clause-given
suffixes-returns-in_err-place-clause-given t c = ended _ _ _ _ _ _ c.from_residual-in_err-place.ensures (no_memory (Suffix _ _))

pub suffixes-returns-in-Some-clause-given : goal.suffixes-returns-in-Some-clause-given
suffixes-returns-in-Some-clause-given t c = carry c.suffixes.result _ _
    (then (some_leads _ _ c.in_ok-after.ensures.given c.in-Some.is (Suffix c.args.span (plain_lvalue c.args.place)) _ _)
    (name_leads (Suffix c.args.span (plain_lvalue c.args.place)) c.in_ok-name.ensures.given))
    (suffix_same c.suffixes.result _ _ _ _ _ _ _ _ _ c.join.ensures c.in_ok-place.ensures c.suffixes.ensures.given)

pub suffixes-returns-in_err-after-2-clause-given : goal.suffixes-returns-in_err-after-2-clause-given
suffixes-returns-in_err-after-2-clause-given t c = ended _ _ _ _ _ _ c.from_residual-in_err-after-2.ensures
    (raise (none_leads _ _ c.in_ok-after.ensures.given c.in_default.is (Suffix c.args.span (plain_lvalue c.args.place)) _ _)
    (c.in_err-after-2.ensures.given (Suffix c.args.span (plain_lvalue c.args.place)) _ _))

pub suffixes-returns-in_err-inside-clause-given : goal.suffixes-returns-in_err-inside-clause-given
suffixes-returns-in_err-inside-clause-given t c = ended _ _ _ _ _ _ c.from_residual-in_err-inside.ensures
    (raise (then (none_leads _ _ c.in_ok-after.ensures.given c.in_default.is (Suffix c.args.span (plain_lvalue c.args.place)) _ _)
    (some_leads _ _ c.in_ok-after-2.ensures.given c.in-Some-2.is (Suffix c.args.span (plain_lvalue c.args.place)) _ _))
    (call_stops (Suffix c.args.span (plain_lvalue c.args.place)) (At Whole) c.in_err-inside.ensures.given))

pub suffixes-returns-in_err-last-clause-given : goal.suffixes-returns-in_err-last-clause-given
suffixes-returns-in_err-last-clause-given t c = ended _ _ _ _ _ _ c.from_residual-in_err-last.ensures
    (raise (then (none_leads _ _ c.in_ok-after.ensures.given c.in_default.is (Suffix c.args.span (plain_lvalue c.args.place)) _ _)
    (then (some_leads _ _ c.in_ok-after-2.ensures.given c.in-Some-2.is (Suffix c.args.span (plain_lvalue c.args.place)) _ _)
    (call_leads (Suffix c.args.span (plain_lvalue c.args.place)) (At Whole) c.in_ok-inside.ensures.given)))
    (want_stops (Suffix c.args.span (plain_lvalue c.args.place)) c.in_err-last.ensures.given))

pub suffixes-returns-in_err-place-2-clause-given : goal.suffixes-returns-in_err-place-2-clause-given
suffixes-returns-in_err-place-2-clause-given t c = ended _ _ _ _ _ _ c.from_residual-in_err-place-2.ensures (no_memory (Suffix _ _))

pub suffixes-returns-in-Some-2-clause-given : goal.suffixes-returns-in-Some-2-clause-given
suffixes-returns-in-Some-2-clause-given t c = carry c.suffixes-in-Some-2.result _ _
    (then (none_leads _ _ c.in_ok-after.ensures.given c.in_default.is (Suffix c.args.span (plain_lvalue c.args.place)) _ _)
    (then (some_leads _ _ c.in_ok-after-2.ensures.given c.in-Some-2.is (Suffix c.args.span (plain_lvalue c.args.place)) _ _)
    (then (call_leads (Suffix c.args.span (plain_lvalue c.args.place)) (At Whole) c.in_ok-inside.ensures.given)
    (want_leads (Suffix c.args.span (plain_lvalue c.args.place)) c.in_ok-last.ensures.given))))
    (suffix_same c.suffixes-in-Some-2.result _ _ _ _ _ _ _ _ _ c.join-in-Some-2.ensures c.in_ok-place-2.ensures c.suffixes-in-Some-2.ensures.given)

pub suffixes-returns-clause-given : goal.suffixes-returns-clause-given
suffixes-returns-clause-given t c =
    gives (then (none_leads _ _ c.in_ok-after.ensures.given c.in_default.is (Suffix c.args.span (plain_lvalue c.args.place)) _ _)
    (none_leads _ _ c.in_ok-after-2.ensures.given c.in_default-2.is (Suffix c.args.span (plain_lvalue c.args.place)) _ _))

pub clause-returns-in_err-span-clause-given : goal.clause-returns-in_err-span-clause-given
clause-returns-in_err-span-clause-given t c = two_ended _ _ _ c.from_residual.result c.from_residual.ensures (λ j f. want_stops j c.in_err-span.ensures.given)

pub clause-returns-in_err-e-clause-given : goal.clause-returns-in_err-e-clause-given
clause-returns-in_err-e-clause-given t c = two_ended _ _ _ c.from_residual-in_err-e.result c.from_residual-in_err-e.ensures
    (λ j f. want_then j c.in_ok-span.ensures.given (call_stops j (At Whole) c.in_err-e.ensures.given))

pub clause-returns-clause-given : goal.clause-returns-clause-given
clause-returns-clause-given t c = λ j f. then (want_leads j c.in_ok-span.ensures.given) (call_leads j (At Whole) c.in_ok-e.ensures.given)

pub boxed_clause-returns-in_err-span-clause-given : goal.boxed_clause-returns-in_err-span-clause-given
boxed_clause-returns-in_err-span-clause-given t c =
    two_ended _ _ _ c.from_residual.result c.from_residual.ensures (λ j f. want_stops j c.in_err-span.ensures.given)

pub boxed_clause-returns-in_err-e-clause-given : goal.boxed_clause-returns-in_err-e-clause-given
boxed_clause-returns-in_err-e-clause-given t c = two_ended _ _ _ c.from_residual-in_err-e.result c.from_residual-in_err-e.ensures
    (λ j f. want_then j c.in_ok-span.ensures.given (call_stops j (At Whole) c.in_err-e.ensures.given))

pub boxed_clause-returns-clause-given : goal.boxed_clause-returns-clause-given
boxed_clause-returns-clause-given t c = λ j f. then (want_leads j c.in_ok-span.ensures.given) (call_leads j (At Whole) c.in_ok-e.ensures.given)

pub listed-returns-in-Some-clause-given : goal.listed-returns-in-Some-clause-given
listed-returns-in-Some-clause-given t c = got_is (Listed c.args.separator c.args.close) (exps_none c.new.ensures.items)
    (gives (some_leads _ _ c.in_ok-last.ensures.given c.in-Some.is (Listed c.args.separator c.args.close) _ _))

pub listed-returns-in_err-first-clause-given : goal.listed-returns-in_err-first-clause-given
listed-returns-in_err-first-clause-given t c = ended _ _ _ _ _ _ c.from_residual-in_err-first.ensures
    (raise (none_leads _ _ c.in_ok-last.ensures.given c.in_default.is (Listed c.args.separator c.args.close) _ _)
    (call_stops (Listed c.args.separator c.args.close) (At Whole) c.in_err-first.ensures.given))

pub listed-returns-in_err-items-clause-given : goal.listed-returns-in_err-items-clause-given
listed-returns-in_err-items-clause-given t c = ended _ _ _ _ _ _ c.from_residual-in_err-items.ensures
    (raise (then (none_leads _ _ c.in_ok-last.ensures.given c.in_default.is (Listed c.args.separator c.args.close) _ _)
    (call_leads (Listed c.args.separator c.args.close) (At Whole) c.in_ok-first.ensures.given))
    (call_stops (Listed c.args.separator c.args.close) (Items c.args.separator (exp (plain c.in_ok-first.first) no_exps)) c.in_err-items.ensures.given))

pub listed-returns-in_err-last-2-clause-given : goal.listed-returns-in_err-last-2-clause-given
listed-returns-in_err-last-2-clause-given t c = ended _ _ _ _ _ _ c.from_residual-in_err-last-2.ensures
    (raise (then (none_leads _ _ c.in_ok-last.ensures.given c.in_default.is (Listed c.args.separator c.args.close) _ _)
    (then (call_leads (Listed c.args.separator c.args.close) (At Whole) c.in_ok-first.ensures.given)
    (call_leads (Listed c.args.separator c.args.close) (Items c.args.separator (exp (plain c.in_ok-first.first) no_exps)) c.in_ok-items.ensures.given)))
    (want_stops (Listed c.args.separator c.args.close) c.in_err-last-2.ensures.given))

pub listed_inits-returns-in-Some-clause-given : goal.listed_inits-returns-in-Some-clause-given
listed_inits-returns-in-Some-clause-given t c = got_is ListedInits (inits_none c.new.ensures.items)
    (gives (some_leads _ _ c.in_ok-last.ensures.given c.in-Some.is ListedInits _ _))

pub listed_inits-returns-in_err-first-clause-given : goal.listed_inits-returns-in_err-first-clause-given
listed_inits-returns-in_err-first-clause-given t c = ended _ _ _ _ _ _ c.from_residual-in_err-first.ensures
    (raise (none_leads _ _ c.in_ok-last.ensures.given c.in_default.is ListedInits _ _) (call_stops ListedInits OneInit c.in_err-first.ensures.given))

pub listed_inits-returns-in_err-inits-clause-given : goal.listed_inits-returns-in_err-inits-clause-given
listed_inits-returns-in_err-inits-clause-given t c = ended _ _ _ _ _ _ c.from_residual-in_err-inits.ensures
    (raise (then (none_leads _ _ c.in_ok-last.ensures.given c.in_default.is ListedInits _ _) (call_leads ListedInits OneInit c.in_ok-first.ensures.given))
    (call_stops ListedInits (MoreInits (init c.in_ok-first.first.field (plain c.in_ok-first.first.value) no_inits)) c.in_err-inits.ensures.given))

pub listed_inits-returns-in_err-last-2-clause-given : goal.listed_inits-returns-in_err-last-2-clause-given
listed_inits-returns-in_err-last-2-clause-given t c = ended _ _ _ _ _ _ c.from_residual-in_err-last-2.ensures
    (raise (then (none_leads _ _ c.in_ok-last.ensures.given c.in_default.is ListedInits _ _)
    (then (call_leads ListedInits OneInit c.in_ok-first.ensures.given)
    (call_leads ListedInits (MoreInits (init c.in_ok-first.first.field (plain c.in_ok-first.first.value) no_inits)) c.in_ok-inits.ensures.given)))
    (want_stops ListedInits c.in_err-last-2.ensures.given))

pub items-returns-in_err-after-clause-given : goal.items-returns-in_err-after-clause-given
items-returns-in_err-after-clause-given t c = ended _ _ _ _ _ _ c.from_residual-in_err-after.ensures
    (items_stops c.items.invariant.onward (c.in_err-after.ensures.given (Items c.args.separator (exps_of c.items.items.items)) _ _))

pub items-returns-in_default-clause-given : goal.items-returns-in_default-clause-given
items-returns-in_default-clause-given t c = c.items.invariant.onward.reaches (Got _ _)
    (gives (none_leads _ _ c.in_ok-after.ensures.given c.in_default.is (Items c.args.separator (exps_of c.items.items.items)) _ _))

pub items-returns-in_err-e-clause-given : goal.items-returns-in_err-e-clause-given
items-returns-in_err-e-clause-given t c = ended _ _ _ _ _ _ c.from_residual-in_err-e.ensures
    (items_stops c.items.invariant.onward
    (raise (some_leads _ _ c.in_ok-after.ensures.given c.in-Some.is (Items c.args.separator (exps_of c.items.items.items)) _ _)
    (call_stops (Items c.args.separator (exps_of c.items.items.items)) (At Whole) c.in_err-e.ensures.given)))

pub inits-returns-in_err-after-clause-given : goal.inits-returns-in_err-after-clause-given
inits-returns-in_err-after-clause-given t c = ended _ _ _ _ _ _ c.from_residual-in_err-after.ensures
    (inits_stops c.inits.invariant.onward (c.in_err-after.ensures.given (MoreInits (inits_of c.inits.inits.items)) _ _))

pub inits-returns-in_default-clause-given : goal.inits-returns-in_default-clause-given
inits-returns-in_default-clause-given t c = c.inits.invariant.onward.reaches (Got _ _)
    (gives (none_leads _ _ c.in_ok-after.ensures.given c.in_default.is (MoreInits (inits_of c.inits.inits.items)) _ _))

pub inits-returns-in_err-init-clause-given : goal.inits-returns-in_err-init-clause-given
inits-returns-in_err-init-clause-given t c = ended _ _ _ _ _ _ c.from_residual-in_err-init.ensures
    (inits_stops c.inits.invariant.onward
    (raise (some_leads _ _ c.in_ok-after.ensures.given c.in-Some.is (MoreInits (inits_of c.inits.inits.items)) _ _)
    (call_stops (MoreInits (inits_of c.inits.inits.items)) OneInit c.in_err-init.ensures.given)))

pub declarations-returns-in_err-kind-clause-given : goal.declarations-returns-in_err-kind-clause-given
declarations-returns-in_err-kind-clause-given t c = ended _ _ _ _ _ _ c.from_residual.ensures
    (decs_stops c.decs.invariant.onward (c.in_err-kind.ensures.given (decs_of c.decs.decs.items)))

pub declarations-returns-in_default-clause-given : goal.declarations-returns-in_default-clause-given
declarations-returns-in_default-clause-given t c = c.decs.invariant.onward.reaches (Got _ _)
    (gives (none_declares _ _ c.in_ok-kind.ensures.given c.in_default.is (decs_of c.decs.decs.items)))

pub declarations-returns-in_err-more-clause-given : goal.declarations-returns-in_err-more-clause-given
declarations-returns-in_err-more-clause-given t c = ended _ _ _ _ _ _ c.from_residual-in_err-more.ensures
    (decs_stops c.decs.invariant.onward (raise (some_declares _ _ c.in_ok-kind.ensures.given c.in-Some.is (decs_of c.decs.decs.items))
    (c.in_err-more.ensures.given (MoreDecs (decs_of c.decs.decs.items)) (λ ds. last (MoreDecs ds)))))

pub listed-returns-clause-given : goal.listed-returns-clause-given
listed-returns-clause-given t c =
    gives (then (none_leads _ _ c.in_ok-last.ensures.given c.in_default.is (Listed c.args.separator c.args.close) _ _)
    (then (call_leads (Listed c.args.separator c.args.close) (At Whole) c.in_ok-first.ensures.given)
    (then (call_leads (Listed c.args.separator c.args.close) (Items c.args.separator (exp (plain c.in_ok-first.first) no_exps)) c.in_ok-items.ensures.given)
    (want_leads (Listed c.args.separator c.args.close) c.in_ok-last-2.ensures.given))))

pub listed_inits-returns-clause-given : goal.listed_inits-returns-clause-given
listed_inits-returns-clause-given t c = gives (then (none_leads _ _ c.in_ok-last.ensures.given c.in_default.is ListedInits _ _)
    (then (call_leads ListedInits OneInit c.in_ok-first.ensures.given)
    (then (call_leads ListedInits (MoreInits (init c.in_ok-first.first.field (plain c.in_ok-first.first.value) no_inits)) c.in_ok-inits.ensures.given)
    (want_leads ListedInits c.in_ok-last-2.ensures.given))))

pub items-returns-in_err-items-clause-given : goal.items-returns-in_err-items-clause-given
items-returns-in_err-items-clause-given t c = ended _ _ _ _ _ _ c.from_residual.ensures (no_memory (Items _ _))

pub items-returns-in_err-push-clause-given : goal.items-returns-in_err-push-clause-given
items-returns-in_err-push-clause-given t c = ended _ _ _ _ _ _ c.from_residual-in_err-push.ensures (no_memory (Items _ _))

pub inits-returns-in_err-inits-clause-given : goal.inits-returns-in_err-inits-clause-given
inits-returns-in_err-inits-clause-given t c = ended _ _ _ _ _ _ c.from_residual.ensures (no_memory (MoreInits _))

pub inits-returns-in_err-push-clause-given : goal.inits-returns-in_err-push-clause-given
inits-returns-in_err-push-clause-given t c = ended _ _ _ _ _ _ c.from_residual-in_err-push.ensures (no_memory (MoreInits _))

pub one_init-returns-in_err-field-clause-given : goal.one_init-returns-in_err-field-clause-given
one_init-returns-in_err-field-clause-given t c = ended _ _ _ _ _ _ c.from_residual.ensures (name_stops OneInit c.in_err-field.ensures.given)

pub one_init-returns-in_err-value-clause-given : goal.one_init-returns-in_err-value-clause-given
one_init-returns-in_err-value-clause-given t c = ended _ _ _ _ _ _ c.from_residual-in_err-value.ensures
    (name_then OneInit c.in_ok-field.ensures.given (c.in_err-value.ensures.given OneInit _))

pub one_init-returns-clause-given : goal.one_init-returns-clause-given
one_init-returns-clause-given t c = name_on OneInit c.in_ok-field.ensures.given (gives (c.in_ok-value.ensures.given OneInit _))

pub one_more-returns-in-OneType-clause-given : goal.one_more-returns-in-OneType-clause-given
one_more-returns-in-OneType-clause-given t c = rw c.in-OneType.is c.with_type.ensures.given

pub one_more-returns-in-OneVariable-clause-given : goal.one_more-returns-in-OneVariable-clause-given
one_more-returns-in-OneVariable-clause-given t c = rw c.in-OneVariable.is c.with_variable.ensures.given

pub one_more-returns-in-OneFunction-clause-given : goal.one_more-returns-in-OneFunction-clause-given
one_more-returns-in-OneFunction-clause-given t c = rw c.in-OneFunction.is c.with_function.ensures.given

pub with_variable-returns-in_err-head-clause-given : goal.with_variable-returns-in_err-head-clause-given
with_variable-returns-in_err-head-clause-given t c = begins_ended _ _ c.from_residual.result c.from_residual.ensures
    (λ j f. call_stops j VarDec (c.in_err-head.ensures.given VarDec _))

pub with_variable-returns-in_err-value-clause-given : goal.with_variable-returns-in_err-value-clause-given
with_variable-returns-in_err-value-clause-given t c = begins_ended _ _ c.from_residual-in_err-value.result
    c.from_residual-in_err-value.ensures (λ j f. call_stops j VarDec (raise (c.in_ok-head.ensures.given VarDec _) (c.in_err-value.ensures.given VarDec _)))

pub with_variable-returns-in_err-push_variable-clause-given : goal.with_variable-returns-in_err-push_variable-clause-given
with_variable-returns-in_err-push_variable-clause-given t c = begins_ended _ _ c.from_residual-in_err-push_variable.result
    c.from_residual-in_err-push_variable.ensures (λ j f. no_memory j)

pub with_variable-returns-clause-given : goal.with_variable-returns-clause-given
with_variable-returns-clause-given t c =
    λ j f. then (call_leads j VarDec (gives (then (c.in_ok-head.ensures.given VarDec _) (c.in_ok-value.ensures.given VarDec _))))
    (same_leads j (ap f (sym c.in_ok-push_variable.ensures)))

pub with_function-returns-in_err-head-clause-given : goal.with_function-returns-in_err-head-clause-given
with_function-returns-in_err-head-clause-given t c = begins_ended _ _ c.from_residual.result c.from_residual.ensures
    (λ j f. call_stops j FunDec
    (c.in_err-head.ensures.given FunDec (λ h. want (OfSign Equal) (λ _. call (At Whole) (λ e. give (one_function h.name h.params h.result e))))))

pub with_function-returns-in_err-body-clause-given : goal.with_function-returns-in_err-body-clause-given
with_function-returns-in_err-body-clause-given t c = begins_ended _ _ c.from_residual-in_err-body.result
    c.from_residual-in_err-body.ensures
    (λ j f. call_stops j FunDec
    (raise (c.in_ok-head.ensures.given FunDec (λ h. want (OfSign Equal) (λ _. call (At Whole) (λ e. give (one_function h.name h.params h.result e)))))
    (c.in_err-body.ensures.given FunDec _)))

pub with_function-returns-in_err-push_function-clause-given : goal.with_function-returns-in_err-push_function-clause-given
with_function-returns-in_err-push_function-clause-given t c = begins_ended _ _ c.from_residual-in_err-push_function.result
    c.from_residual-in_err-push_function.ensures (λ j f. no_memory j)

pub with_function-returns-clause-given : goal.with_function-returns-clause-given
with_function-returns-clause-given t c =
    λ j f. then (call_leads j FunDec
    (gives (then (c.in_ok-head.ensures.given FunDec (λ h. want (OfSign Equal) (λ _. call (At Whole) (λ e. give (one_function h.name h.params h.result e)))))
    (c.in_ok-body.ensures.given FunDec _)))) (same_leads j (ap f (sym c.in_ok-push_function.ensures)))

pub items-items-init : goal.items-items-init
items-items-init t c = record { onward = items_first _ _ _ _ (exps_one _ refl c.in_ok-items.ensures); shorter = omega arith }

pub items-items-preserved : goal.items-items-preserved
items-items-preserved t c =
    record {
      onward = items_more c.items.invariant.onward (some_leads _ _ c.in_ok-after.ensures.given c.in-Some.is)
          c.in_ok-e.ensures.given (ap exps_of c.in_ok-push.ensures.items ∙ exps_end _ _);
      shorter =
          omega (arith, if_some _ c.in_ok-after.ensures.shorter c.in-Some.is, c.in_ok-e.ensures.shorter);
    }

pub inits-inits-init : goal.inits-inits-init
inits-inits-init t c = record { onward = inits_first _ _ _ (inits_one _ refl c.in_ok-inits.ensures); shorter = omega arith }

pub inits-inits-preserved : goal.inits-inits-preserved
inits-inits-preserved t c =
    record {
      onward = inits_more c.inits.invariant.onward (some_leads _ _ c.in_ok-after.ensures.given c.in-Some.is)
          c.in_ok-init.ensures.given (ap inits_of c.in_ok-push.ensures.items ∙ inits_end _ _);
      shorter =
          omega (arith, if_some _ c.in_ok-after.ensures.shorter c.in-Some.is, c.in_ok-init.ensures.shorter);
    }

pub declarations-decs-init : goal.declarations-decs-init
declarations-decs-init t c = record { onward = decs_first _ _ _ (ap decs_of c.new-decs.ensures.items); shorter = omega arith }

pub declarations-decs-preserved : goal.declarations-decs-preserved
declarations-decs-preserved t c =
    record {
      onward = decs_more c.in-Some.kind c.decs.invariant.onward (some_declares _ _ c.in_ok-kind.ensures.given
          c.in-Some.is (decs_of c.decs.decs.items)) (c.in_ok-more.ensures.given (MoreDecs (decs_of c.decs.decs.items)) (λ ds. last (MoreDecs ds)));
      shorter = omega (arith, if_some _ c.in_ok-kind.ensures.shorter c.in-Some.is, c.in_ok-more.ensures.shorter);
    }
