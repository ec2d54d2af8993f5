use Rattle.std.proofs.Common.{inl}
use Rattle.tg_driver.proofs.explaining.explain_text.Goals as goal

pub returns-in-Ok : goal.returns-in-Ok
returns-in-Ok c = inl c.in-Ok.ensures
