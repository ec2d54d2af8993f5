use Rattle.tg_canon_trace_proof.proofs.Composing.{trees_preserved}
use Rattle.tg_canon_trace_proof.proofs.laws.flatten_is_correct.Goals as goal

pub returns : goal.returns
returns c =
    trees_preserved c.canon_is_correct.ensures.programs c.canonical_statements.ensures.canonical c.canonical_statements.ensures.closed
    c.blocks_are_correct.ensures.programs c.blocks_are_well_formed.ensures.whole c.blocks_are_well_formed.ensures.entered
    c.traces_are_correct.ensures.programs
