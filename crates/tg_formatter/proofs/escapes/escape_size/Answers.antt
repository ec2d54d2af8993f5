use Rattle.std.proofs.Common.{ℕ, ◌≡◌, ◌<◌, length, map, get_or, refl, ap, ◌∙◌, arith}
use Rattle.std.proofs.lemmas.List.FromFn.{get_or-map-range_with_len}
use Rattle.std.specs.List.{range_with_len}
use Rattle.tg_formatter.specs.declared.escapes.TheConstants.{SIZES}
use Rattle.tg_formatter.specs.Canonical.{quoted_byte}
use Rattle.tg_formatter.proofs.escapes.escape_size.Goals as goal

abbrev size : ℕ → ℕ
size b = length (quoted_byte b)

table_is : SIZES ≡ map size (range_with_len 0 256)
table_is = refl

read : (b : ℕ) → b < 256 → get_or SIZES b 0 ≡ size b
read b h = ap (λ t. get_or t b 0) table_is ∙ get_or-map-range_with_len size 0 256 b b 0 h (omega arith)

pub returns : goal.returns
returns c = c.from-2.ensures ∙ (ap (λ n. get_or SIZES n 0) c.from.ensures ∙ read c.args.byte (omega arith))
