use Rattle.tg_show_laws.proofs.BlockTexts.{blocks_are_told}
use Rattle.tg_show_laws.proofs.Codes.{canonical_are_told, traces_are_told}
use Rattle.tg_show_laws.proofs.laws.codes_are_told.Goals as goal

pub returns : goal.returns
returns c = record { canonical = canonical_are_told; blocks = blocks_are_told; traces = traces_are_told }
