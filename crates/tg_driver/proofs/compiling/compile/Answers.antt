use Rattle.tg_driver.proofs.compiling.compile.Goals as goal

pub compile_program-requires : goal.compile_program-requires
compile_program-requires g c = (c.args.text.now, c.in_ok-source.ensures)

pub returns-clause-compiled : goal.returns-clause-compiled
returns-clause-compiled g c = c.compile_program.ensures.compiled _ c.in_ok-source.ensures
