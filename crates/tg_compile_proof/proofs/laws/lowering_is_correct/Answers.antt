use Rattle.tg_compile_proof.proofs.Lowering.{may_be_chosen, programs_follow, words_follow}
use Rattle.tg_compile_proof.proofs.laws.lowering_is_correct.Goals as goal

pub returns : goal.returns
returns c =
    let may = may_be_chosen c.canonical_statements.ensures.canonical c.canonical_statements.ensures.closed
    c.names_stay.ensures.names c.names_stay.ensures.temps c.names_stay.ensures.grow
    c.blocks_are_well_formed.ensures.flat c.blocks_are_well_formed.ensures.whole
    c.code_is_well_formed.ensures.flat c.code_is_well_formed.ensures.marks c.names_stay-2.ensures in
    let preserved = c.flatten_is_correct.ensures in
    record {
      may = may;
      programs = programs_follow may preserved c.munch_is_correct.ensures.programs;
      words = words_follow may preserved c.munch_is_correct.ensures.words;
    }
