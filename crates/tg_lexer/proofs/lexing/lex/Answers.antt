use Rattle.std.proofs.Common.{◌≡◌, drop, Vec, Global, Ok, Err, refl, subst}
use Rattle.std.proofs.lemmas.List.{take_rest}
use Rattle.std.proofs.lemmas.Result.{err_from_is_err_and}
use Rattle.tg_syntax.specs.declared.tokens.Spanned.{Spanned}
use Rattle.tg_syntax.specs.LexicalFaults.{too_long}
use Rattle.tg_lexer.specs.Numbering.{names_after}
use Rattle.tg_lexer.specs.glue.Lexemes.{IsLexeme, IsRead}
use Rattle.tg_lexer.proofs.Scans.{scanned_none, scanned_gap, scanned_token, scanned_end, scanned_named, scanned_kept, scanned_after, read_bad}
use Rattle.tg_lexer.proofs.TokenEnds.{ends_once}
use Rattle.tg_lexer.proofs.lexing.lex.Goals as goal

pub loop-at-init : goal.loop-at-init
loop-at-init c = rw c.new-tokens.ensures.items (scanned_none _ _)

pub returns-then-text-gt-MOST-clause-bad : goal.returns-then-text-gt-MOST-clause-bad
returns-then-text-gt-MOST-clause-bad c = too_long c.if-text-gt-MOST.true

pub returns-in_err-front-clause-kept : goal.returns-in_err-front-clause-kept
returns-in_err-front-clause-kept c = scanned_kept _ _ _ _ _ _ c.loop-at.invariant c.in_err-front.ensures.named

pub returns-in_err-front-clause-bad : goal.returns-in_err-front-clause-bad
returns-in_err-front-clause-bad c =
    let r = subst (λ l. IsRead c.read.new.names c.loop-at.at l (Err c.in_err-front.field-0.0)) (take_rest c.args.text.now c.loop-at.at) c.in_err-front.ensures.read in
    let p = err_from_is_err_and c.from_residual.result c.from_residual.ensures.1 in
    rw (p.1, p.2) (read_bad (Vec Spanned Global) _ _ _ c.read.new.names _ _ c.in_err-front.field-0.0 c.loop-at.invariant c.if-text-gt-MOST.false r)

pub loop-at-preserved-in-Gap : goal.loop-at-preserved-in-Gap
loop-at-preserved-in-Gap c =
    let r = subst (λ f. IsLexeme c.read.new.names (drop c.loop-at.at c.args.text.now) f) c.in-Gap.is (rw take_rest at c.in_ok-front.ensures.read) in
    let e = subst (λ f. c.read.new.names ≡ names_after c.loop-at.names (drop c.loop-at.at c.args.text.now) (Ok f)) c.in-Gap.is (subst (λ l. c.read.new.names ≡ names_after c.loop-at.names l (Ok c.in_ok-front.front)) (take_rest c.args.text.now c.loop-at.at) c.in_ok-front.ensures.named) in
    scanned_gap _ _ _ _ _ _ _ c.loop-at.invariant r e

pub returns-in_err-push-in-One-clause-kept : goal.returns-in_err-push-in-One-clause-kept
returns-in_err-push-in-One-clause-kept c =
    let e = subst (λ f. c.read.new.names ≡ names_after c.loop-at.names (drop c.loop-at.at c.args.text.now) (Ok f)) c.in-One.is (subst (λ l. c.read.new.names ≡ names_after c.loop-at.names l (Ok c.in_ok-front.front)) (take_rest c.args.text.now c.loop-at.at) c.in_ok-front.ensures.named) in
    scanned_after _ _ _ _ _ _ c.in-One.token c.in-One.size c.loop-at.invariant e

pub loop-at-preserved : goal.loop-at-preserved
loop-at-preserved c =
    let r = subst (λ f. IsLexeme c.read.new.names (drop c.loop-at.at c.args.text.now) f) c.in-One.is (rw take_rest at c.in_ok-front.ensures.read) in
    let e = subst (λ f. c.read.new.names ≡ names_after c.loop-at.names (drop c.loop-at.at c.args.text.now) (Ok f)) c.in-One.is (subst (λ l. c.read.new.names ≡ names_after c.loop-at.names l (Ok c.in_ok-front.front)) (take_rest c.args.text.now c.loop-at.at) c.in_ok-front.ensures.named) in
    rw (c.in_ok-push-in-One.ensures.items, c.spanned.ensures) (scanned_token _ _ _ _ _ _ _ _ c.loop-at.invariant r e)

pub returns-in_err-push-clause-kept : goal.returns-in_err-push-clause-kept
returns-in_err-push-clause-kept c = scanned_kept _ _ _ _ _ _ c.loop-at.invariant refl

pub returns-clause-lexed : goal.returns-clause-lexed
returns-clause-lexed c = rw (c.in_ok-push.ensures.items, c.spanned-2.ensures) (scanned_end _ _ _ _ _ c.loop-at.invariant c.loop-at-test.false)

pub returns-clause-ends : goal.returns-clause-ends
returns-clause-ends c = rw (c.in_ok-push.ensures.items, c.spanned-2.ensures) (ends_once (scanned_end _ _ _ _ _ c.loop-at.invariant c.loop-at-test.false))

pub returns-clause-named : goal.returns-clause-named
returns-clause-named c = rw (c.in_ok-push.ensures.items, c.spanned-2.ensures) (scanned_named _ _ _ _ _ c.loop-at.invariant)

pub returns-clause-kept : goal.returns-clause-kept
returns-clause-kept c = scanned_kept _ _ _ _ _ _ c.loop-at.invariant refl
