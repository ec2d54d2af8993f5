use Rattle.tg_literal_bounds.proofs.Literals as literals
use Rattle.tg_literal_bounds.proofs.laws.literals_fit_text.Goals as goal

pub returns : goal.returns
returns c =
    let are = c.literals_are_strings.ensures.strings in
    let short = c.literals_are_strings.ensures.short in
    record {
      few = literals.literals_are_few are short;
      fit = literals.literals_fit are short;
      statics = literals.statics_fit are short;
      segment = literals.statics_fit_segment are short;
    }
