use Rattle.tg_compile.proofs.WellFormed.{flat_code}
use Rattle.tg_stages.proofs.laws.flat_code_is_well_marked.Goals as goal

pub returns : goal.returns
returns c =
    flat_code c.canonical_statements.ensures.closed c.names_stay.ensures.temps c.blocks_are_well_formed.ensures.whole
    c.code_is_well_formed.ensures.marks c.names_stay-2.ensures
