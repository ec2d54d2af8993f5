-- What is built of a source with delay slots does what the source means: its program is accepted, and of words.
use Rattle.std.proofs.Common.{ap, ◌∙◌}
use Rattle.tg_asm_text.specs.Assembly.{assembled}
use Rattle.tg_literal_bounds.specs.laws.Laws.{TreesAreOfWords}
use Rattle.tg_compile_proof.proofs.Building.{names_within, begins_apart}
use Rattle.tg_bare_compile_proof.specs.laws.Laws.{BareCompileIsCorrect}
use Rattle.tg_bare_compile_proof.specs.laws.TextLaws.{BareBuildIsCorrect}

pub bare_build_is_correct : TreesAreOfWords → BareCompileIsCorrect → BareBuildIsCorrect
bare_build_is_correct words meant passes rule text assembly b =
    let c = b.compiles in
    let tree = c.source.tree in
    let is = meant passes rule (record { names = c.names; body = c.program; notes = c.notes }) b.allocations b.plain
    (record {
      within = names_within text c.names c.tokens c.program tree;
      apart = begins_apart text c.names c.tokens c.program tree;
      accepted = c.accepted;
    })
    b.few
    (words c.names text c.program
    (record { tokens = c.tokens; lexed = tree.has_tokens.lexed; parsed = tree.parsed }))
    c.compiles in
    record {
      names = c.names;
      tokens = c.tokens;
      program = c.program;
      source = c.source;
      image = is.0;
      assembles = ap assembled b.text_is ∙ is.1;
      does = is.2;
    }
