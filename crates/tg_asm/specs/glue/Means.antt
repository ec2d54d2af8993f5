-- Items of the code, as the definition has them.
use Rattle.std.specs.Prelude.{ℕ, ◌≡◌, ⊤, List, [], ◌∷◌, map, Bool, true, false, ◌&&◌, Option}
use Rattle.std.specs.Prelude.{Some, None, Result, Ok, Err, if◌then◌else◌}
use Rattle.tg_asm_text.specs.Items as items
use Rattle.tg_asm_text.specs.Lines as lines
use Rattle.tg_asm_text.specs.Operands.{escape, plain}
use Rattle.tg_asm_text.specs.declared.keywords.AsmRule.{AsmRule}
use Rattle.tg_asm_text.specs.declared.keywords.Keyword.{Keyword}
use Rattle.tg_asm.specs.glue.Cuts.{operand_of}
use Rattle.tg_asm.specs.glue.Numbers.{signed_of}
use Rattle.tg_asm.specs.declared.faults.Refused.{Refused}
use Rattle.tg_asm.specs.declared.faults.Refused.TheVariants as refused
use Rattle.tg_asm.specs.declared.items.Coded.{Coded}
use Rattle.tg_asm.specs.declared.items.Coded.TheVariants.{Fixed, Branch, Jump, Upper, Lower}
use Rattle.tg_asm.specs.declared.items.Words.{Words}
use Rattle.tg_asm.specs.declared.items.Words.TheVariants.{One, Two}
use Rattle.tg_asm.specs.declared.items.Datum.{Datum}
use Rattle.tg_asm.specs.declared.items.Datum.TheVariants.{Value, AddressOfLabel, Single}
use Rattle.tg_asm.specs.declared.items.Contents.{Contents}
use Rattle.tg_asm.specs.declared.items.Contents.TheVariants as contents
use Rattle.tg_asm.specs.declared.items.Align.{Align}
use Rattle.tg_asm.specs.declared.items.Align.TheVariants as one
use Rattle.tg_asm.specs.declared.items.Item.{Item}
use Rattle.tg_asm.specs.declared.items.Item.TheVariants.{Nothing, Section, Code, Data}

abbrev pub coded_of : Coded → items.Coded
coded_of (Fixed one) = items.Fixed one
coded_of (Branch one label) = items.Branch one label.now
coded_of (Jump one label) = items.Jump one label.now
coded_of (Upper r label) = items.Upper r label.now
coded_of (Lower r label) = items.Lower r label.now

abbrev pub words_of : Words → List items.Coded
words_of (One c) = coded_of c ∷ []
words_of (Two c d) = coded_of c ∷ coded_of d ∷ []

abbrev pub datum_of : Datum → items.Datum
datum_of (Value n) = items.Value (signed_of n)
datum_of (AddressOfLabel label) = items.AddressOfLabel label.now
datum_of (Single n) = items.Single (signed_of n)

abbrev pub datum_found : Option Datum → Option items.Datum
datum_found (Some d) = Some (datum_of d)
datum_found None = None

-- whether all operands of `.word` or `.byte` are of its kind
abbrev pub is_value : Option items.Datum → Bool
is_value (Some d) = true
is_value None = false

abbrev pub all_values : Keyword → List lines.Operand → Bool
all_values k [] = true
all_values k (o ∷ os) = is_value (items.datum k o) && all_values k os

-- what an operand puts into the statics, which is a byte of 0 where it is of another kind
abbrev pub or_zero : Option items.Datum → items.Datum
or_zero (Some d) = d
or_zero None = items.Single (record { negative = false; size = 0 })

abbrev pub datum_stored : Keyword → lines.Operand → items.Datum
datum_stored k o = or_zero (items.datum k o)

abbrev pub data_of : Contents → List items.Datum
data_of contents.Nothing = []
data_of (contents.Bytes bytes) = items.Bytes bytes.items ∷ []
data_of (contents.Zeros n) = items.Zeros n ∷ []
data_of (contents.Operands k os) = map (datum_stored k) (map operand_of os.items)

abbrev pub bytes_of : Align → ℕ
bytes_of one.One = 1
bytes_of one.Two = 2
bytes_of one.Four = 4
bytes_of one.Eight = 8

abbrev pub item_of : Item → items.Item
item_of Nothing = items.Nothing
item_of (Section segment) = items.Section segment
item_of (Code ws) = items.Words (words_of ws)
item_of (Data align c) = items.Data' (bytes_of align) (data_of c)

-- the byte that a byte of a string means
abbrev pub meant_by : (escaped : Bool) → ℕ → Option ℕ
meant_by escaped c = if escaped then escape c else plain c

-- A call gives what the definition does, or its fault; or it was out of memory.
abbrev pub GivesMeant : {S T : Type 0} → (S → T) → Result T AsmRule → Result S Refused → Type 0
GivesMeant view meant (Ok x) = meant ≡ Ok (view x)
GivesMeant view meant (Err (refused.Rule r)) = meant ≡ Err r
GivesMeant view meant (Err refused.Memory) = ⊤

-- A call that changes a value leaves what the definition gives, or tells its fault; or it was out
-- of memory.
abbrev pub Leaves : {S T : Type 0} → Result T AsmRule → Result S Refused → T → Type 0
Leaves meant (Ok done) new = meant ≡ Ok new
Leaves meant (Err (refused.Rule r)) new = meant ≡ Err r
Leaves meant (Err refused.Memory) new = ⊤
