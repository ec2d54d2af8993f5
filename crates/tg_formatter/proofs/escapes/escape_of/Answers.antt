use Rattle.std.proofs.Common.{ℕ, ◌≡◌, ◌<◌, List, [], length, take, map, get_or, refl, sym, ap, ◌∙◌, arith}
use Rattle.std.proofs.lemmas.List.FromFn.{get_or-map-range_with_len}
use Rattle.std.specs.List.{range_with_len}
use Rattle.tg_formatter.specs.declared.escapes.TheConstants.{ESCAPES}
use Rattle.tg_formatter.specs.Canonical.{quoted_byte}
use Rattle.tg_formatter.proofs.escapes.escape_of.Goals as goal

abbrev front : ℕ → List ℕ
front b = take (length (quoted_byte b)) (get_or ESCAPES b [])

-- each row of the table begins with its byte's escape
table_is : map front (range_with_len 0 256) ≡ map quoted_byte (range_with_len 0 256)
table_is = refl

read : (b : ℕ) → b < 256 → front b ≡ quoted_byte b
read b h =
    sym (get_or-map-range_with_len front 0 256 b b [] h (omega arith))
    ∙ (ap (λ t. get_or t b []) table_is ∙ get_or-map-range_with_len quoted_byte 0 256 b b [] h (omega arith))

pub returns : goal.returns
returns c = rw c.from.ensures (read c.args.byte (omega arith))
