use Rattle.tg_syntax.specs.Grammar.{Whole}
use Rattle.tg_syntax_laws.specs.mirror.Steps.{At, Whole_program}
use Rattle.tg_syntax_laws.specs.mirror.Reading.{give_got, call_got}
use Rattle.tg_parser.proofs.Chains.{want_on, want_stops, call_then, call_stops, ended}
use Rattle.tg_parser.proofs.reading.program.Goals as goal

pub returns-in_err-e-clause-given : goal.returns-in_err-e-clause-given
returns-in_err-e-clause-given c = ended _ _ _ _ _ _ c.from_residual.ensures (call_stops Whole_program (At Whole) c.in_err-e.ensures.given)

pub returns-in_err-rest-clause-given : goal.returns-in_err-rest-clause-given
returns-in_err-rest-clause-given c =
    ended _ _ _ _ _ _ c.from_residual-in_err-rest.ensures
    (call_then Whole_program (At Whole) c.in_ok-e.ensures.given (want_stops Whole_program c.in_err-rest.ensures.given))

pub returns-clause-given : goal.returns-clause-given
returns-clause-given c =
    call_got Whole_program (At Whole) c.in_ok-e.ensures.given (want_on Whole_program c.in_ok-rest.ensures.given (give_got Whole_program))
