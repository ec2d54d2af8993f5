use Rattle.std.proofs.Common.{◌++◌, sym, ap, ◌∙◌, arith}
use Rattle.tg_formatter.specs.Canonical.{Behind, text_behind, tokens_of}
use Rattle.tg_formatter.specs.glue.Reached.{behind_of}
use Rattle.tg_formatter.proofs.Steps.{are_named}
use Rattle.tg_formatter.proofs.formatting.format.Goals as goal

pub loop-spanned-init : goal.loop-spanned-init
loop-spanned-init c =
    let names = c.args.names.now in
    let tokens = tokens_of c.args.tokens.now in
    record {
      text = ap (λ b. text_behind names b tokens) (sym c.start-behind.ensures)
          ∙ ap (λ l. l ++ text_behind names (behind_of c.start-behind.result) tokens) (sym c.new-text.ensures.items);
      named = are_named names tokens c.requires;
      depth = omega (arith, ap (λ (b : Behind). b.depth) c.start-behind.ensures);
    }
