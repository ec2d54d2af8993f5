use Rattle.tg_isa.proofs.Inverse.{none_outside}
use Rattle.tg_isa.proofs.decoding.decode.Goals as goal

pub returns-in-0-clause-none : goal.returns-in-0-clause-none
returns-in-0-clause-none c = none_outside c.args.word c.decode_register_form.result (rw c.in-0.is c.decode_register_form.ensures.row)

pub returns-in-1-clause-none : goal.returns-in-1-clause-none
returns-in-1-clause-none c = none_outside c.args.word c.decode_compared_form.result (rw c.in-1.is c.decode_compared_form.ensures.row)
