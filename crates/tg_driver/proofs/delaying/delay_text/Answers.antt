use Rattle.tg_driver.proofs.delaying.delay_text.Goals as goal

pub delay_program-requires : goal.delay_program-requires
delay_program-requires g c = (c.args.text.now, c.in_ok-source.ensures)

pub returns : goal.returns
returns g c = c.delay_program.ensures c.args.text.now c.in_ok-source.ensures
