-- What the operands of an item are: numbers, registers, labels and strings (SPIM manual, assembler
-- syntax).
use Rattle.std.specs.Prelude.{ℕ, ◌+◌, ◌-◌, ◌*◌, ◌%◌, ◌^◌, min, List, [], ◌∷◌, length, Bool, true}
use Rattle.std.specs.Prelude.{false, ◌==◌, ◌&&◌, ◌||◌, nat_le, nat_lt, if◌then◌else◌, Option, Some}
use Rattle.std.specs.Prelude.{None}
use Rattle.std.specs.Str.{bytes_eq}
use Rattle.tg_isa.specs.Names.{names}
use Rattle.tg_asm_text.specs.Lines.{is_in_range, begins_label, is_past_label, front, back, Operand}
use Rattle.tg_asm_text.specs.Lines.{Plain, Quoted}
use Rattle.tg_asm_text.specs.declared.keywords.Slot.{Slot}
use Rattle.tg_asm_text.specs.declared.keywords.Slot.TheVariants.{Rd, Rs, Rt, Number, Based, Label}

-- A number, with its sign. One above 2 ^ 33 is outside every range, and stands for 2 ^ 33.
pub record Signed : Type 0 where
  pub negative : Bool
  pub size : ℕ

abbrev pub nothing : Signed
nothing = record { negative = false; size = 0 }

abbrev pub capped : ℕ → ℕ
capped n = min n (2 ^ 33)

-- the value of a digit, where it is one of the base
abbrev pub digit_below : ℕ → ℕ → Option ℕ
digit_below base d = if nat_lt d base then Some d else None

abbrev pub digit : ℕ → ℕ → Option ℕ
digit base c =
    if is_in_range 48 57 c then digit_below base (c - 48) else
    if is_in_range 65 70 c then digit_below base (c - 55) else
    if is_in_range 97 102 c then digit_below base (c - 87) else
    None

-- what digits after others with a value come to
abbrev pub digits : (base value : ℕ) → List ℕ → Option ℕ
digits base value [] = Some value
digits base value (c ∷ text) =
    elim (digit base c) as (λ _. Option ℕ) [
      | Some d ↦ digits base (capped (base * value + d)) text
      | None ↦ None
    ]

abbrev pub some_digits : ℕ → List ℕ → Option ℕ
some_digits base [] = None
some_digits base (c ∷ text) = digits base 0 (c ∷ text)

-- decimal, or hexadecimal after `0x`
abbrev pub hexadecimal : List ℕ → List ℕ → Option ℕ
hexadecimal whole [] = some_digits 10 whole
hexadecimal whole (c ∷ text) = if c == 120 then some_digits 16 text else some_digits 10 whole

abbrev pub magnitude : List ℕ → Option ℕ
magnitude [] = None
magnitude (c ∷ text) = if c == 48 then hexadecimal (c ∷ text) text else some_digits 10 (c ∷ text)

abbrev pub with_sign : Bool → Option ℕ → Option Signed
with_sign negative (Some size) = Some (record { negative = negative; size = size })
with_sign negative None = None

abbrev pub number : List ℕ → Option Signed
number [] = None
number (c ∷ text) =
    if c == 45 then with_sign true (magnitude text) else with_sign false (magnitude (c ∷ text))

-- a number from minus `least` to `greatest`, and its bits in a field of so many
abbrev pub is_within : (least greatest : ℕ) → Signed → Bool
is_within least greatest n = if n.negative then nat_le n.size least else nat_le n.size greatest

abbrev pub field : ℕ → Signed → ℕ
field width n =
    if n.negative then (2 ^ width - n.size % 2 ^ width) % 2 ^ width else n.size % 2 ^ width

-- a register: `$` with its name, or with a number
abbrev pub in_file : Option Signed → Option ℕ
in_file (Some n) = if is_within 0 31 n then Some n.size else None
in_file None = None

abbrev pub numbered : List ℕ → Option ℕ
numbered [] = None
numbered (c ∷ text) = if c == 36 then in_file (number text) else None

abbrev pub named_from : ℕ → List (List ℕ) → List ℕ → Option ℕ
named_from r [] text = None
named_from r (name ∷ more) text =
    if bytes_eq name text then Some r else named_from (r + 1) more text

abbrev pub named_register : List ℕ → Option ℕ
named_register text = named_from 0 names text

abbrev pub or_numbered : Option ℕ → List ℕ → Option ℕ
or_numbered (Some r) text = Some r
or_numbered None text = numbered text

abbrev pub register_operand : List ℕ → Option ℕ
register_operand text = or_numbered (named_register text) text

-- a label
abbrev pub is_label : List ℕ → Bool
is_label [] = false
is_label (c ∷ text) = begins_label c && length (back is_past_label text) == 0

-- `number(register)`; without a number it is 0
pub record Address : Type 0 where
  pub number : Signed
  pub base : ℕ

abbrev pub or_nothing : List ℕ → Option Signed
or_nothing [] = Some nothing
or_nothing (c ∷ text) = number (c ∷ text)

abbrev pub address_operand : Option Signed → Option ℕ → Option Address
address_operand (Some n) (Some r) = Some (record { number = n; base = r })
address_operand (Some n) None = None
address_operand None r = None

abbrev pub closed : List ℕ → Bool
closed text = length (back (λ c. c == 41) text) == 1

abbrev pub closed_address : Option Signed → List ℕ → Option Address
closed_address n text =
    if closed text then address_operand n (register_operand (front (λ c. c == 41) text)) else None

abbrev pub in_parens : Option Signed → List ℕ → Option Address
in_parens n [] = None
in_parens n (c ∷ text) = closed_address n text

abbrev pub based : List ℕ → Option Address
based text = in_parens (or_nothing (front (λ c. c == 40) text)) (back (λ c. c == 40) text)

-- the bytes of a string, between its quotes
abbrev pub escape : ℕ → Option ℕ
escape c =
    if c == 110 then Some 10 else
    if c == 116 then Some 9 else
    if c == 34 then Some 34 else
    if c == 92 then Some 92 else
    if c == 48 then Some 0 else
    None

abbrev pub plain : ℕ → Option ℕ
plain c = if is_in_range 32 126 c || is_in_range 128 255 c then Some c else None

abbrev pub before_string : Option ℕ → Option (List ℕ) → Option (List ℕ)
before_string (Some b) (Some bytes) = Some (b ∷ bytes)
before_string (Some b) None = None
before_string None bytes = None

abbrev pub string : (escaped : Bool) → List ℕ → Option (List ℕ)
string escaped [] = if escaped then None else Some []
string true (c ∷ text) = before_string (escape c) (string false text)
string false (c ∷ text) =
    elim (c == 92) as (λ _. Option (List ℕ)) [
      | true ↦ string true text
      | false ↦ before_string (plain c) (string false text)
    ]

-- What the operands of an instruction fill. Until they do, rd is $ra and all else is 0.
pub record Fields : Type 0 where
  pub rd : ℕ
  pub rs : ℕ
  pub rt : ℕ
  pub number : Signed
  pub label : List ℕ

abbrev pub unfilled : Fields
unfilled = record { rd = 31; rs = 0; rt = 0; number = nothing; label = [] }

abbrev pub fill_rd : Fields → Option ℕ → Option Fields
fill_rd f (Some r) = Some (record f { rd = r })
fill_rd f None = None

abbrev pub fill_rs : Fields → Option ℕ → Option Fields
fill_rs f (Some r) = Some (record f { rs = r })
fill_rs f None = None

abbrev pub fill_rt : Fields → Option ℕ → Option Fields
fill_rt f (Some r) = Some (record f { rt = r })
fill_rt f None = None

abbrev pub fill_number : Fields → Option Signed → Option Fields
fill_number f (Some n) = Some (record f { number = n })
fill_number f None = None

abbrev pub fill_based : Fields → Option Address → Option Fields
fill_based f (Some a) = Some (record f { number = a.number; rs = a.base })
fill_based f None = None

abbrev pub fill_label : Fields → List ℕ → Option Fields
fill_label f text = if is_label text then Some (record f { label = text }) else None

-- one operand; none where it is of another kind
abbrev pub fill : Slot → Operand → Fields → Option Fields
fill Rd (Plain text) f = fill_rd f (register_operand text)
fill Rs (Plain text) f = fill_rs f (register_operand text)
fill Rt (Plain text) f = fill_rt f (register_operand text)
fill Number (Plain text) f = fill_number f (number text)
fill Based (Plain text) f = fill_based f (based text)
fill Label (Plain text) f = fill_label f text
fill slot (Quoted text) f = None

-- all operands in order; none where one is of another kind, or their number is another
abbrev pub fill_all : List Slot → List Operand → Fields → Option Fields
fill_all [] [] f = Some f
fill_all [] (o ∷ os) f = None
fill_all (s ∷ slots) [] f = None
fill_all (s ∷ slots) (o ∷ os) f =
    elim (fill s o f) as (λ _. Option Fields) [ Some g ↦ fill_all slots os g | None ↦ None ]
