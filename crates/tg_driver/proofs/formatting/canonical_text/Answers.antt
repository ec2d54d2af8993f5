use Rattle.tg_driver.proofs.formatting.canonical_text.Goals as goal

pub parse_tokens-requires : goal.parse_tokens-requires
parse_tokens-requires c = (c.args.text.now, c.in_ok-source.ensures)
