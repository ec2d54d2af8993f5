use Rattle.std.proofs.Common.{arith, drop, subst, length-drop}
use Rattle.std.proofs.lemmas.List.{take_rest}
use Rattle.tg_lexer.specs.glue.Lexemes.{IsBehindQuote}
use Rattle.tg_lexer.proofs.Readings.{string_token, string_fault}
use Rattle.tg_lexer.proofs.lexemes.read_string.Goals as goal

pub returns-in-Whole-clause-read : goal.returns-in-Whole-clause-read
returns-in-Whole-clause-read c = λ n. string_token n _ _ _ c.requires.begins
    (subst (λ q. IsBehindQuote c.args.at (drop 1 c.args.text.now) q) c.in-Whole.is (rw take_rest at c.in_ok-quoted.ensures))

pub returns-in-Fault-clause-read : goal.returns-in-Fault-clause-read
returns-in-Fault-clause-read c = λ _. string_fault _ _ _ _ c.requires.begins
    (subst (λ q. IsBehindQuote c.args.at (drop 1 c.args.text.now) q) c.in-Fault.is (rw take_rest at c.in_ok-quoted.ensures)).0

pub overflow_cast-result : goal.overflow_cast-result
overflow_cast-result c =
    let f = subst (λ q. IsBehindQuote c.args.at (drop 1 c.args.text.now) q) c.in-Fault.is (rw take_rest at c.in_ok-quoted.ensures) in
    let k = f.1 in
    let w = c.requires.within in
    omega (arith, length-drop 1 c.args.text.now)
