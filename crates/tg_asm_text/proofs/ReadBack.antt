-- The line of an instruction is read as that instruction.
use Rattle.std.proofs.Common.{◌≡◌, ◌<◌, ◌≤◌, ◌+◌, ◌^◌, ℕ, true, false, List, [], ◌∷◌, ◌++◌, length, Bool, Option, Some}
use Rattle.std.proofs.Common.{Result, Ok, Err, IfOk, OnOk, IsTrue}
use Rattle.std.proofs.Common.{Vec, refl, sym, ap, subst, ◌∙◌, arith, lit≤}
use Rattle.std.specs.Fmt.{decimal}
use Rattle.std.specs.declared.alloc.Global.{Global}
use Rattle.tg_base.specs.declared.faults.Memory.{Memory}
use Rattle.tg_isa.specs.declared.mips.Mips.{Mips}
use Rattle.tg_isa.specs.declared.mips.Mips.TheVariants as row
use Rattle.tg_asm_text.specs.declared.keywords.Keyword.{Keyword}
use Rattle.tg_asm_text.specs.declared.keywords.Keyword.TheVariants.{Sll, Srl, Sra, Jr, Jalr, Syscall, Break, Mfhi, Mflo, Mult, Div, Add, Sub, Addu, Subu}
use Rattle.tg_asm_text.specs.declared.keywords.Keyword.TheVariants.{And, Or, Xor, Nor, Slt, Sltu, J, Jal, Beq, Bne, Blez, Bgtz, Bltz, Bgez, Addi, Addiu}
use Rattle.tg_asm_text.specs.declared.keywords.Keyword.TheVariants.{Slti, Sltiu, Andi, Ori, Xori, Lui, Lb, Lbu, Lw, Sb, Sw}
use Rattle.tg_asm_text.specs.declared.keywords.Slot.{Slot}
use Rattle.tg_asm_text.specs.declared.keywords.Slot.TheVariants.{Rd, Rs, Rt, Number, Based, Label}
use Rattle.tg_asm_text.specs.declared.keywords.Segment.TheVariants.{Code}
use Rattle.tg_asm_text.specs.declared.keywords.AsmRule.{AsmRule}
use Rattle.tg_isa.specs.Names.{register_name}
use Rattle.tg_isa.specs.Rows.{IsRow}
use Rattle.tg_asm_text.specs.Lines.{lines, begins_label, is_past_label, is_end, Operand, Plain}
use Rattle.tg_asm_text.specs.Operands.{Signed, nothing, number, is_within, register_operand, is_label, based, Fields, unfilled, fill, fill_all, fill_rd}
use Rattle.tg_asm_text.specs.Operands.{fill_rs, fill_rt, fill_number, fill_based}
use Rattle.tg_asm_text.specs.Items.{keyword, slots, least, greatest, Coded, Fixed, coded, Item, Words, filled, instruction, item, may_stand_in}
use Rattle.tg_asm_text.specs.Assembly.{reading, with_labels, read_known, read_cut}
use Rattle.tg_asm_text.specs.Writing.{signed_text, based_text, joined, line_of, takes_label, unlabelled_row, coded_row, ReadsBack}
use Rattle.tg_asm_text.proofs.WordCuts.{none_of, is_newline, AreWords, plains, none_append, lines_alone, cut_words, newlines_joined}
use Rattle.tg_asm_text.proofs.OperandTexts.{register_named, name_word, NumberText, decimal_text, signed_of, signed_number, signed_within, signed_field}
use Rattle.tg_asm_text.proofs.OperandTexts.{plain_within, plain_field, based_word, based_read, label_word}

-- what a word that names an instruction has
pub record Ready (k : Keyword) (c : ℕ) (word : List ℕ) : Type 0 where
  pub letter : begins_label c ≡ true
  pub label : none_of is_past_label word ≡ true
  pub ends : none_of is_end (c ∷ word) ≡ true
  pub newlines : none_of is_newline (c ∷ word) ≡ true
  pub found : keyword (c ∷ word) ≡ Some k
  pub stands : may_stand_in k Code ≡ true
  pub same : (os : List Operand) → item k os ≡ instruction k os

-- what the tests of a word find, and what they find of a word that names an instruction
record Tests : Type 0 where
  letter : Bool
  label : Bool
  ends : Bool
  newlines : Bool
  found : Option Keyword
  stands : Bool

abbrev tests : Keyword → ℕ → List ℕ → Tests
tests k c word = record {
  letter = begins_label c;
  label = none_of is_past_label word;
  ends = none_of is_end (c ∷ word);
  newlines = none_of is_newline (c ∷ word);
  found = keyword (c ∷ word);
  stands = may_stand_in k Code;
}

abbrev passed : Keyword → Tests
passed k = record { letter = true; label = true; ends = true; newlines = true; found = Some k; stands = true }

pub ready : {k : Keyword} {c : ℕ} {word : List ℕ} → tests k c word ≡ passed k →
    ((os : List Operand) → item k os ≡ instruction k os) → Ready k c word
ready e same = record {
  letter = ap (λ t. t.letter) e;
  label = ap (λ t. t.label) e;
  ends = ap (λ t. t.ends) e;
  newlines = ap (λ t. t.newlines) e;
  found = ap (λ t. t.found) e;
  stands = ap (λ t. t.stands) e;
  same = same;
}

known : (k : Keyword) (os : List Operand) (o : Option Keyword) → o ≡ Some k → may_stand_in k Code ≡ true →
    read_known Code [] os o ≡ with_labels [] (item k os)
known k os o e h = ap (read_known Code [] os) e ∙ stands
  where
    stands : read_known Code [] os (Some k) ≡ with_labels [] (item k os)
    stands = rw h refl

filled_in : (k : Keyword) (f : Fields) → is_within (least k) (greatest k) f.number ≡ true → filled k (Some f) ≡ Ok (Words (coded k f))
filled_in k f h = rw h refl

abbrev done : List Coded → Result Item AsmRule
done ws = Ok (Words ws)

-- a word of code with its operands is read as what it codes
pub words_read : (k : Keyword) (c : ℕ) (word : List ℕ) (os : List (List ℕ)) (f : Fields) → Ready k c word → AreWords os →
    fill_all (slots k (length (plains os))) (plains os) unfilled ≡ Some f → is_within (least k) (greatest k) f.number ≡ true →
    reading Code ((c ∷ word) ++ joined os) ≡ Ok (record { labels = []; item = Words (coded k f) })
words_read k c word os f r w fills within =
    ap (read_cut Code) (cut_words c word os r.letter r.label r.ends w)
    ∙ known k (plains os) (keyword (c ∷ word)) r.found r.stands
    ∙ ap (with_labels []) (r.same (plains os) ∙ ap (filled k) fills ∙ filled_in k f within)

pub words_line : (k : Keyword) (c : ℕ) (word : List ℕ) (os : List (List ℕ)) → Ready k c word → AreWords os →
    lines ((c ∷ word) ++ joined os) ≡ ((c ∷ word) ++ joined os) ∷ []
words_line k c word os r w = lines_alone ((c ∷ word) ++ joined os) (none_append is_newline (c ∷ word) (joined os) r.newlines (newlines_joined os w))

back_of : (one : Mips) (target : List ℕ) (k : Keyword) (c : ℕ) (word : List ℕ) (os : List (List ℕ)) (f : Fields) →
    Ready k c word → AreWords os → fill_all (slots k (length (plains os))) (plains os) unfilled ≡ Some f →
    is_within (least k) (greatest k) f.number ≡ true → coded k f ≡ coded_row one target ∷ [] → ReadsBack one target ((c ∷ word) ++ joined os)
back_of one target k c word os f r w fills within same = record {
  line = words_line k c word os r w;
  read = words_read k c word os f r w fills within ∙ ap (λ ws. with_labels [] (done ws)) same;
}

-- operands fill fields one after the other
pub step : (s : Slot) (more : List Slot) (o : Operand) (os : List Operand) (f g : Fields) → fill s o f ≡ Some g →
    fill_all (s ∷ more) (o ∷ os) f ≡ fill_all more os g
step s more o os f g e = rw (e, fill_all) refl

rd_in : (x : List ℕ) (r : ℕ) (f : Fields) → register_operand x ≡ Some r → fill Rd (Plain x) f ≡ Some (record f { rd = r })
rd_in x r f e = ap (fill_rd f) e

rs_in : (x : List ℕ) (r : ℕ) (f : Fields) → register_operand x ≡ Some r → fill Rs (Plain x) f ≡ Some (record f { rs = r })
rs_in x r f e = ap (fill_rs f) e

pub rt_in : (x : List ℕ) (r : ℕ) (f : Fields) → register_operand x ≡ Some r → fill Rt (Plain x) f ≡ Some (record f { rt = r })
rt_in x r f e = ap (fill_rt f) e

number_in : (x : List ℕ) (n : Signed) (f : Fields) → number x ≡ Some n → fill Number (Plain x) f ≡ Some (record f { number = n })
number_in x n f e = ap (fill_number f) e

pub label_in : (x : List ℕ) (f : Fields) → is_label x ≡ true → fill Label (Plain x) f ≡ Some (record f { label = x })
label_in x f e = rw e refl

based_in : (x : List ℕ) (n : Signed) (r : ℕ) (f : Fields) → based x ≡ Some (record { number = n; base = r }) →
    fill Based (Plain x) f ≡ Some (record f { number = n; rs = r })
based_in x n r f e = ap (fill_based f) e

abbrev pub fields : (rd rs rt : ℕ) → Signed → List ℕ → Fields
fields rd rs rt n label = record { rd = rd; rs = rs; rt = rt; number = n; label = label }

abbrev plain : ℕ → Signed
plain n = record { negative = false; size = n }

fills_three : (rd rs rt : ℕ) (x y z : List ℕ) → register_operand x ≡ Some rd → register_operand y ≡ Some rs → register_operand z ≡ Some rt →
    fill_all (Rd ∷ Rs ∷ Rt ∷ []) (Plain x ∷ Plain y ∷ Plain z ∷ []) unfilled ≡ Some (fields rd rs rt nothing [])
fills_three rd rs rt x y z a b c =
    step Rd (Rs ∷ Rt ∷ []) (Plain x) (Plain y ∷ Plain z ∷ []) (fields 31 0 0 nothing []) (fields rd 0 0 nothing [])
    (rd_in x rd (fields 31 0 0 nothing []) a)
    ∙ step Rs (Rt ∷ []) (Plain y) (Plain z ∷ []) (fields rd 0 0 nothing []) (fields rd rs 0 nothing []) (rs_in y rs (fields rd 0 0 nothing []) b)
    ∙ step Rt ([]) (Plain z) ([]) (fields rd rs 0 nothing []) (fields rd rs rt nothing []) (rt_in z rt (fields rd rs 0 nothing []) c)

fills_shift : (rd rt : ℕ) (n : Signed) (x y z : List ℕ) → register_operand x ≡ Some rd → register_operand y ≡ Some rt → number z ≡ Some n →
    fill_all (Rd ∷ Rt ∷ Number ∷ []) (Plain x ∷ Plain y ∷ Plain z ∷ []) unfilled ≡ Some (fields rd 0 rt n [])
fills_shift rd rt n x y z a b c =
    step Rd (Rt ∷ Number ∷ []) (Plain x) (Plain y ∷ Plain z ∷ []) (fields 31 0 0 nothing []) (fields rd 0 0 nothing [])
    (rd_in x rd (fields 31 0 0 nothing []) a)
    ∙ step Rt (Number ∷ []) (Plain y) (Plain z ∷ []) (fields rd 0 0 nothing []) (fields rd 0 rt nothing []) (rt_in y rt (fields rd 0 0 nothing []) b)
    ∙ step Number ([]) (Plain z) ([]) (fields rd 0 rt nothing []) (fields rd 0 rt n []) (number_in z n (fields rd 0 rt nothing []) c)

fills_numbered : (rt rs : ℕ) (n : Signed) (x y z : List ℕ) → register_operand x ≡ Some rt → register_operand y ≡ Some rs → number z ≡ Some n →
    fill_all (Rt ∷ Rs ∷ Number ∷ []) (Plain x ∷ Plain y ∷ Plain z ∷ []) unfilled ≡ Some (fields 31 rs rt n [])
fills_numbered rt rs n x y z a b c =
    step Rt (Rs ∷ Number ∷ []) (Plain x) (Plain y ∷ Plain z ∷ []) (fields 31 0 0 nothing []) (fields 31 0 rt nothing [])
    (rt_in x rt (fields 31 0 0 nothing []) a)
    ∙ step Rs (Number ∷ []) (Plain y) (Plain z ∷ []) (fields 31 0 rt nothing []) (fields 31 rs rt nothing []) (rs_in y rs (fields 31 0 rt nothing []) b)
    ∙ step Number ([]) (Plain z) ([]) (fields 31 rs rt nothing []) (fields 31 rs rt n []) (number_in z n (fields 31 rs rt nothing []) c)

fills_upper : (rt : ℕ) (n : Signed) (x z : List ℕ) → register_operand x ≡ Some rt → number z ≡ Some n →
    fill_all (Rt ∷ Number ∷ []) (Plain x ∷ Plain z ∷ []) unfilled ≡ Some (fields 31 0 rt n [])
fills_upper rt n x z a b =
    step Rt (Number ∷ []) (Plain x) (Plain z ∷ []) (fields 31 0 0 nothing []) (fields 31 0 rt nothing []) (rt_in x rt (fields 31 0 0 nothing []) a)
    ∙ step Number ([]) (Plain z) ([]) (fields 31 0 rt nothing []) (fields 31 0 rt n []) (number_in z n (fields 31 0 rt nothing []) b)

fills_based : (rt rs : ℕ) (n : Signed) (x z : List ℕ) → register_operand x ≡ Some rt → based z ≡ Some (record { number = n; base = rs }) →
    fill_all (Rt ∷ Based ∷ []) (Plain x ∷ Plain z ∷ []) unfilled ≡ Some (fields 31 rs rt n [])
fills_based rt rs n x z a b =
    step Rt (Based ∷ []) (Plain x) (Plain z ∷ []) (fields 31 0 0 nothing []) (fields 31 0 rt nothing []) (rt_in x rt (fields 31 0 0 nothing []) a)
    ∙ step Based ([]) (Plain z) ([]) (fields 31 0 rt nothing []) (fields 31 rs rt n []) (based_in z n rs (fields 31 0 rt nothing []) b)

fills_two : (rs rt : ℕ) (x y : List ℕ) → register_operand x ≡ Some rs → register_operand y ≡ Some rt →
    fill_all (Rs ∷ Rt ∷ []) (Plain x ∷ Plain y ∷ []) unfilled ≡ Some (fields 31 rs rt nothing [])
fills_two rs rt x y a b =
    step Rs (Rt ∷ []) (Plain x) (Plain y ∷ []) (fields 31 0 0 nothing []) (fields 31 rs 0 nothing []) (rs_in x rs (fields 31 0 0 nothing []) a)
    ∙ step Rt ([]) (Plain y) ([]) (fields 31 rs 0 nothing []) (fields 31 rs rt nothing []) (rt_in y rt (fields 31 rs 0 nothing []) b)

fills_linked : (rd rs : ℕ) (x y : List ℕ) → register_operand x ≡ Some rd → register_operand y ≡ Some rs →
    fill_all (Rd ∷ Rs ∷ []) (Plain x ∷ Plain y ∷ []) unfilled ≡ Some (fields rd rs 0 nothing [])
fills_linked rd rs x y a b =
    step Rd (Rs ∷ []) (Plain x) (Plain y ∷ []) (fields 31 0 0 nothing []) (fields rd 0 0 nothing []) (rd_in x rd (fields 31 0 0 nothing []) a)
    ∙ step Rs ([]) (Plain y) ([]) (fields rd 0 0 nothing []) (fields rd rs 0 nothing []) (rs_in y rs (fields rd 0 0 nothing []) b)

fills_rs : (rs : ℕ) (x : List ℕ) → register_operand x ≡ Some rs → fill_all (Rs ∷ []) (Plain x ∷ []) unfilled ≡ Some (fields 31 rs 0 nothing [])
fills_rs rs x a =
    step Rs ([]) (Plain x) ([]) (fields 31 0 0 nothing []) (fields 31 rs 0 nothing []) (rs_in x rs (fields 31 0 0 nothing []) a)

fills_rd : (rd : ℕ) (x : List ℕ) → register_operand x ≡ Some rd → fill_all (Rd ∷ []) (Plain x ∷ []) unfilled ≡ Some (fields rd 0 0 nothing [])
fills_rd rd x a =
    step Rd ([]) (Plain x) ([]) (fields 31 0 0 nothing []) (fields rd 0 0 nothing []) (rd_in x rd (fields 31 0 0 nothing []) a)

fills_code : (n : Signed) (z : List ℕ) → number z ≡ Some n → fill_all (Number ∷ []) (Plain z ∷ []) unfilled ≡ Some (fields 31 0 0 n [])
fills_code n z a =
    step Number ([]) (Plain z) ([]) (fields 31 0 0 nothing []) (fields 31 0 0 n []) (number_in z n (fields 31 0 0 nothing []) a)

fills_jump : (t : List ℕ) → is_label t ≡ true → fill_all (Label ∷ []) (Plain t ∷ []) unfilled ≡ Some (fields 31 0 0 nothing t)
fills_jump t a =
    step Label ([]) (Plain t) ([]) (fields 31 0 0 nothing []) (fields 31 0 0 nothing t) (label_in t (fields 31 0 0 nothing []) a)

fills_branch : (rs : ℕ) (x t : List ℕ) → register_operand x ≡ Some rs → is_label t ≡ true →
    fill_all (Rs ∷ Label ∷ []) (Plain x ∷ Plain t ∷ []) unfilled ≡ Some (fields 31 rs 0 nothing t)
fills_branch rs x t a b =
    step Rs (Label ∷ []) (Plain x) (Plain t ∷ []) (fields 31 0 0 nothing []) (fields 31 rs 0 nothing []) (rs_in x rs (fields 31 0 0 nothing []) a)
    ∙ step Label ([]) (Plain t) ([]) (fields 31 rs 0 nothing []) (fields 31 rs 0 nothing t) (label_in t (fields 31 rs 0 nothing []) b)

fills_branch_two : (rs rt : ℕ) (x y t : List ℕ) → register_operand x ≡ Some rs → register_operand y ≡ Some rt → is_label t ≡ true →
    fill_all (Rs ∷ Rt ∷ Label ∷ []) (Plain x ∷ Plain y ∷ Plain t ∷ []) unfilled ≡ Some (fields 31 rs rt nothing t)
fills_branch_two rs rt x y t a b c =
    step Rs (Rt ∷ Label ∷ []) (Plain x) (Plain y ∷ Plain t ∷ []) (fields 31 0 0 nothing []) (fields 31 rs 0 nothing [])
    (rs_in x rs (fields 31 0 0 nothing []) a)
    ∙ step Rt (Label ∷ []) (Plain y) (Plain t ∷ []) (fields 31 rs 0 nothing []) (fields 31 rs rt nothing []) (rt_in y rt (fields 31 rs 0 nothing []) b)
    ∙ step Label ([]) (Plain t) ([]) (fields 31 rs rt nothing []) (fields 31 rs rt nothing t) (label_in t (fields 31 rs rt nothing []) c)

small_text : (n limit : ℕ) → n < limit → limit ≤ 2 ^ 32 → NumberText (decimal n) (plain n)
small_text n limit h k = decimal_text n (omega (arith, h, k))

below_within : (n limit : ℕ) → n < limit + 1 → is_within 0 limit (plain n) ≡ true
below_within n limit h = plain_within n limit (omega (arith, h))

-- three registers
three : {one : Mips} {target : List ℕ} (k : Keyword) (c : ℕ) (word : List ℕ) (rd rs rt : ℕ) → Ready k c word → (rd < 32) × (rs < 32) × (rt < 32) →
    slots k 3 ≡ Rd ∷ Rs ∷ Rt ∷ [] → is_within (least k) (greatest k) nothing ≡ true →
    coded k (fields rd rs rt nothing []) ≡ coded_row one target ∷ [] →
    ReadsBack one target ((c ∷ word) ++ joined (register_name rd ∷ register_name rs ∷ register_name rt ∷ []))
three {one = one} {target = target} k c word rd rs rt r h s w e =
    back_of one target k c word (register_name rd ∷ register_name rs ∷ register_name rt ∷ []) (fields rd rs rt nothing []) r
    (name_word rd h.0, (name_word rs h.1, (name_word rt h.2, tt)))
    (ap (λ ss. fill_all ss (Plain (register_name rd) ∷ Plain (register_name rs) ∷ Plain (register_name rt) ∷ []) unfilled) s
    ∙ fills_three rd rs rt (register_name rd) (register_name rs) (register_name rt) (register_named rd h.0) (register_named rs h.1) (register_named rt h.2)) w e

-- two registers and a number of bits
shift : {one : Mips} {target : List ℕ} (k : Keyword) (c : ℕ) (word : List ℕ) (rd rt n : ℕ) → Ready k c word → (rd < 32) × (rt < 32) × (n < 32) →
    slots k 3 ≡ Rd ∷ Rt ∷ Number ∷ [] → is_within (least k) (greatest k) (plain n) ≡ true →
    coded k (fields rd 0 rt (plain n) []) ≡ coded_row one target ∷ [] →
    ReadsBack one target ((c ∷ word) ++ joined (register_name rd ∷ register_name rt ∷ decimal n ∷ []))
shift {one = one} {target = target} k c word rd rt n r h s w e =
    back_of one target k c word (register_name rd ∷ register_name rt ∷ decimal n ∷ []) (fields rd 0 rt (plain n) []) r
    (name_word rd h.0, (name_word rt h.1, ((small_text n 32 h.2 (lit≤ tt)).word, tt)))
    (ap (λ ss. fill_all ss (Plain (register_name rd) ∷ Plain (register_name rt) ∷ Plain (decimal n) ∷ []) unfilled) s
    ∙ fills_shift rd rt (plain n) (register_name rd) (register_name rt) (decimal n) (register_named rd h.0) (register_named rt h.1)
    (small_text n 32 h.2 (lit≤ tt)).read) w e

-- two registers that are read
two : {one : Mips} {target : List ℕ} (k : Keyword) (c : ℕ) (word : List ℕ) (rs rt : ℕ) → Ready k c word → (rs < 32) × (rt < 32) →
    slots k 2 ≡ Rs ∷ Rt ∷ [] → is_within (least k) (greatest k) nothing ≡ true →
    coded k (fields 31 rs rt nothing []) ≡ coded_row one target ∷ [] →
    ReadsBack one target ((c ∷ word) ++ joined (register_name rs ∷ register_name rt ∷ []))
two {one = one} {target = target} k c word rs rt r h s w e =
    back_of one target k c word (register_name rs ∷ register_name rt ∷ []) (fields 31 rs rt nothing []) r
    (name_word rs h.0, (name_word rt h.1, tt))
    (ap (λ ss. fill_all ss (Plain (register_name rs) ∷ Plain (register_name rt) ∷ []) unfilled) s
    ∙ fills_two rs rt (register_name rs) (register_name rt) (register_named rs h.0) (register_named rt h.1)) w e

-- the register that a half of a product goes to
from_half : {one : Mips} {target : List ℕ} (k : Keyword) (c : ℕ) (word : List ℕ) (rd : ℕ) → Ready k c word → rd < 32 →
    slots k 1 ≡ Rd ∷ [] → is_within (least k) (greatest k) nothing ≡ true →
    coded k (fields rd 0 0 nothing []) ≡ coded_row one target ∷ [] →
    ReadsBack one target ((c ∷ word) ++ joined (register_name rd ∷ []))
from_half {one = one} {target = target} k c word rd r h s w e =
    back_of one target k c word (register_name rd ∷ []) (fields rd 0 0 nothing []) r
    (name_word rd h, tt)
    (ap (λ ss. fill_all ss (Plain (register_name rd) ∷ []) unfilled) s
    ∙ fills_rd rd (register_name rd) (register_named rd h)) w e

-- two registers and a number with a sign
signed : {one : Mips} {target : List ℕ} (k : Keyword) (c : ℕ) (word : List ℕ) (rt rs n : ℕ) → Ready k c word →
    (rt < 32) × (rs < 32) × (n < 2 ^ 16) → slots k 3 ≡ Rt ∷ Rs ∷ Number ∷ [] → is_within (least k) (greatest k) (signed_of n) ≡ true →
    coded k (fields 31 rs rt (signed_of n) []) ≡ coded_row one target ∷ [] →
    ReadsBack one target ((c ∷ word) ++ joined (register_name rt ∷ register_name rs ∷ signed_text n ∷ []))
signed {one = one} {target = target} k c word rt rs n r h s w e =
    back_of one target k c word (register_name rt ∷ register_name rs ∷ signed_text n ∷ []) (fields 31 rs rt (signed_of n) []) r
    (name_word rt h.0, (name_word rs h.1, ((signed_number n h.2).word, tt)))
    (ap (λ ss. fill_all ss (Plain (register_name rt) ∷ Plain (register_name rs) ∷ Plain (signed_text n) ∷ []) unfilled) s
    ∙ fills_numbered rt rs (signed_of n) (register_name rt) (register_name rs) (signed_text n)
    (register_named rt h.0) (register_named rs h.1) (signed_number n h.2).read) w e

-- two registers and a number without a sign
unsigned : {one : Mips} {target : List ℕ} (k : Keyword) (c : ℕ) (word : List ℕ) (rt rs n : ℕ) → Ready k c word → (rt < 32) × (rs < 32) × (n < 65536) →
    slots k 3 ≡ Rt ∷ Rs ∷ Number ∷ [] → is_within (least k) (greatest k) (plain n) ≡ true →
    coded k (fields 31 rs rt (plain n) []) ≡ coded_row one target ∷ [] →
    ReadsBack one target ((c ∷ word) ++ joined (register_name rt ∷ register_name rs ∷ decimal n ∷ []))
unsigned {one = one} {target = target} k c word rt rs n r h s w e =
    back_of one target k c word (register_name rt ∷ register_name rs ∷ decimal n ∷ []) (fields 31 rs rt (plain n) []) r
    (name_word rt h.0, (name_word rs h.1, ((small_text n 65536 h.2 (lit≤ tt)).word, tt)))
    (ap (λ ss. fill_all ss (Plain (register_name rt) ∷ Plain (register_name rs) ∷ Plain (decimal n) ∷ []) unfilled) s
    ∙ fills_numbered rt rs (plain n) (register_name rt) (register_name rs) (decimal n)
    (register_named rt h.0) (register_named rs h.1) (small_text n 65536 h.2 (lit≤ tt)).read) w e

-- a register and a number beside a base
offset : {one : Mips} {target : List ℕ} (k : Keyword) (c : ℕ) (word : List ℕ) (rt n rs : ℕ) → Ready k c word → (rt < 32) × (n < 2 ^ 16) × (rs < 32) →
    slots k 2 ≡ Rt ∷ Based ∷ [] → is_within (least k) (greatest k) (signed_of n) ≡ true →
    coded k (fields 31 rs rt (signed_of n) []) ≡ coded_row one target ∷ [] →
    ReadsBack one target ((c ∷ word) ++ joined (register_name rt ∷ based_text n rs ∷ []))
offset {one = one} {target = target} k c word rt n rs r h s w e =
    back_of one target k c word (register_name rt ∷ based_text n rs ∷ []) (fields 31 rs rt (signed_of n) []) r
    (name_word rt h.0, (based_word n rs h.1 h.2, tt))
    (ap (λ ss. fill_all ss (Plain (register_name rt) ∷ Plain (based_text n rs) ∷ []) unfilled) s
    ∙ fills_based rt rs (signed_of n) (register_name rt) (based_text n rs) (register_named rt h.0) (based_read n rs h.1 h.2)) w e

-- a label
jump : {one : Mips} {target : List ℕ} (k : Keyword) (c : ℕ) (word : List ℕ) → Ready k c word → is_label target ≡ true →
    slots k 1 ≡ Label ∷ [] → is_within (least k) (greatest k) nothing ≡ true →
    coded k (fields 31 0 0 nothing target) ≡ coded_row one target ∷ [] →
    ReadsBack one target ((c ∷ word) ++ joined (target ∷ []))
jump {one = one} {target = target} k c word r h s w e =
    back_of one target k c word (target ∷ []) (fields 31 0 0 nothing target) r
    (label_word target h, tt)
    (ap (λ ss. fill_all ss (Plain target ∷ []) unfilled) s
    ∙ fills_jump target h) w e

-- a register and a label
branch : {one : Mips} {target : List ℕ} (k : Keyword) (c : ℕ) (word : List ℕ) (rs : ℕ) → Ready k c word → (rs < 32) × (is_label target ≡ true) →
    slots k 2 ≡ Rs ∷ Label ∷ [] → is_within (least k) (greatest k) nothing ≡ true →
    coded k (fields 31 rs 0 nothing target) ≡ coded_row one target ∷ [] →
    ReadsBack one target ((c ∷ word) ++ joined (register_name rs ∷ target ∷ []))
branch {one = one} {target = target} k c word rs r h s w e =
    back_of one target k c word (register_name rs ∷ target ∷ []) (fields 31 rs 0 nothing target) r
    (name_word rs h.0, (label_word target h.1, tt))
    (ap (λ ss. fill_all ss (Plain (register_name rs) ∷ Plain target ∷ []) unfilled) s
    ∙ fills_branch rs (register_name rs) target (register_named rs h.0) h.1) w e

-- two registers and a label
branch_two : {one : Mips} {target : List ℕ} (k : Keyword) (c : ℕ) (word : List ℕ) (rs rt : ℕ) → Ready k c word →
    (rs < 32) × (rt < 32) × (is_label target ≡ true) →
    slots k 3 ≡ Rs ∷ Rt ∷ Label ∷ [] → is_within (least k) (greatest k) nothing ≡ true →
    coded k (fields 31 rs rt nothing target) ≡ coded_row one target ∷ [] →
    ReadsBack one target ((c ∷ word) ++ joined (register_name rs ∷ register_name rt ∷ target ∷ []))
branch_two {one = one} {target = target} k c word rs rt r h s w e =
    back_of one target k c word (register_name rs ∷ register_name rt ∷ target ∷ []) (fields 31 rs rt nothing target) r
    (name_word rs h.0, (name_word rt h.1, (label_word target h.2, tt)))
    (ap (λ ss. fill_all ss (Plain (register_name rs) ∷ Plain (register_name rt) ∷ Plain target ∷ []) unfilled) s
    ∙ fills_branch_two rs rt (register_name rs) (register_name rt) target (register_named rs h.0) (register_named rt h.1) h.2) w e

pub reads : (one : Mips) (target : List ℕ) → IsRow (unlabelled_row one) → (takes_label one ≡ true → is_label target ≡ true) →
    ReadsBack one target (line_of one target)
reads (row.Sll rd rt n) target h l = shift Sll 115 (108 ∷ 108 ∷ []) rd rt n (ready refl (λ os. refl)) h refl
    (below_within n 31 h.2) (ap (λ m. Fixed (row.Sll rd rt m) ∷ []) (plain_field 5 n h.2))
reads (row.Srl rd rt n) target h l = shift Srl 115 (114 ∷ 108 ∷ []) rd rt n (ready refl (λ os. refl)) h refl
    (below_within n 31 h.2) (ap (λ m. Fixed (row.Srl rd rt m) ∷ []) (plain_field 5 n h.2))
reads (row.Sra rd rt n) target h l = shift Sra 115 (114 ∷ 97 ∷ []) rd rt n (ready refl (λ os. refl)) h refl
    (below_within n 31 h.2) (ap (λ m. Fixed (row.Sra rd rt m) ∷ []) (plain_field 5 n h.2))
reads (row.Jr rs) target h l = back_of (row.Jr rs) target Jr 106 (114 ∷ []) (register_name rs ∷ []) (fields 31 rs 0 nothing [])
    (ready refl (λ os. refl)) (name_word rs h, tt) (fills_rs rs (register_name rs) (register_named rs h)) refl refl
reads (row.Jalr rd rs) target h l = back_of (row.Jalr rd rs) target Jalr 106 (97 ∷ 108 ∷ 114 ∷ []) (register_name rd ∷ register_name rs ∷ [])
    (fields rd rs 0 nothing []) (ready refl (λ os. refl)) (name_word rd h.0, (name_word rs h.1, tt))
    (fills_linked rd rs (register_name rd) (register_name rs) (register_named rd h.0) (register_named rs h.1)) refl refl
reads row.Syscall target h l = back_of row.Syscall target Syscall 115 (121 ∷ 115 ∷ 99 ∷ 97 ∷ 108 ∷ 108 ∷ []) [] unfilled
    (ready refl (λ os. refl)) tt refl refl refl
reads (row.Break n) target h l = back_of (row.Break n) target Break 98 (114 ∷ 101 ∷ 97 ∷ 107 ∷ []) (decimal n ∷ [])
    (fields 31 0 0 (plain n) []) (ready refl (λ os. refl))
    ((small_text n 1048576 h (lit≤ tt)).word, tt) (fills_code (plain n) (decimal n) (small_text n 1048576 h (lit≤ tt)).read)
    (below_within n 1048575 h) (ap (λ m. Fixed (row.Break m) ∷ []) (plain_field 20 n h))
reads (row.Mfhi rd) target h l = from_half Mfhi 109 (102 ∷ 104 ∷ 105 ∷ []) rd (ready refl (λ os. refl)) h refl refl refl
reads (row.Mflo rd) target h l = from_half Mflo 109 (102 ∷ 108 ∷ 111 ∷ []) rd (ready refl (λ os. refl)) h refl refl refl
reads (row.Mult rs rt) target h l = two Mult 109 (117 ∷ 108 ∷ 116 ∷ []) rs rt (ready refl (λ os. refl)) h refl refl refl
reads (row.Div rs rt) target h l = two Div 100 (105 ∷ 118 ∷ []) rs rt (ready refl (λ os. refl)) h refl refl refl
reads (row.Add rd rs rt) target h l = three Add 97 (100 ∷ 100 ∷ []) rd rs rt (ready refl (λ os. refl)) h refl refl refl
reads (row.Sub rd rs rt) target h l = three Sub 115 (117 ∷ 98 ∷ []) rd rs rt (ready refl (λ os. refl)) h refl refl refl
reads (row.Addu rd rs rt) target h l = three Addu 97 (100 ∷ 100 ∷ 117 ∷ []) rd rs rt (ready refl (λ os. refl)) h refl refl refl
reads (row.Subu rd rs rt) target h l = three Subu 115 (117 ∷ 98 ∷ 117 ∷ []) rd rs rt (ready refl (λ os. refl)) h refl refl refl
reads (row.And rd rs rt) target h l = three And 97 (110 ∷ 100 ∷ []) rd rs rt (ready refl (λ os. refl)) h refl refl refl
reads (row.Or rd rs rt) target h l = three Or 111 (114 ∷ []) rd rs rt (ready refl (λ os. refl)) h refl refl refl
reads (row.Xor rd rs rt) target h l = three Xor 120 (111 ∷ 114 ∷ []) rd rs rt (ready refl (λ os. refl)) h refl refl refl
reads (row.Nor rd rs rt) target h l = three Nor 110 (111 ∷ 114 ∷ []) rd rs rt (ready refl (λ os. refl)) h refl refl refl
reads (row.Slt rd rs rt) target h l = three Slt 115 (108 ∷ 116 ∷ []) rd rs rt (ready refl (λ os. refl)) h refl refl refl
reads (row.Sltu rd rs rt) target h l = three Sltu 115 (108 ∷ 116 ∷ 117 ∷ []) rd rs rt (ready refl (λ os. refl)) h refl refl refl
reads (row.J n) target h l = jump J 106 [] (ready refl (λ os. refl)) (l refl) refl refl refl
reads (row.Jal n) target h l = jump Jal 106 (97 ∷ 108 ∷ []) (ready refl (λ os. refl)) (l refl) refl refl refl
reads (row.Beq rs rt n) target h l = branch_two Beq 98 (101 ∷ 113 ∷ []) rs rt (ready refl (λ os. refl))
    (h.0, h.1, l refl) refl refl refl
reads (row.Bne rs rt n) target h l = branch_two Bne 98 (110 ∷ 101 ∷ []) rs rt (ready refl (λ os. refl))
    (h.0, h.1, l refl) refl refl refl
reads (row.Blez rs n) target h l = branch Blez 98 (108 ∷ 101 ∷ 122 ∷ []) rs (ready refl (λ os. refl)) (h.0, l refl) refl refl refl
reads (row.Bgtz rs n) target h l = branch Bgtz 98 (103 ∷ 116 ∷ 122 ∷ []) rs (ready refl (λ os. refl)) (h.0, l refl) refl refl refl
reads (row.Bltz rs n) target h l = branch Bltz 98 (108 ∷ 116 ∷ 122 ∷ []) rs (ready refl (λ os. refl)) (h.0, l refl) refl refl refl
reads (row.Bgez rs n) target h l = branch Bgez 98 (103 ∷ 101 ∷ 122 ∷ []) rs (ready refl (λ os. refl)) (h.0, l refl) refl refl refl
reads (row.Addi rt rs n) target h l = signed Addi 97 (100 ∷ 100 ∷ 105 ∷ []) rt rs n (ready refl (λ os. refl)) h refl
    (signed_within n h.2) (ap (λ m. Fixed (row.Addi rt rs m) ∷ []) (signed_field n h.2))
reads (row.Addiu rt rs n) target h l = signed Addiu 97 (100 ∷ 100 ∷ 105 ∷ 117 ∷ []) rt rs n (ready refl (λ os. refl)) h refl
    (signed_within n h.2) (ap (λ m. Fixed (row.Addiu rt rs m) ∷ []) (signed_field n h.2))
reads (row.Slti rt rs n) target h l = signed Slti 115 (108 ∷ 116 ∷ 105 ∷ []) rt rs n (ready refl (λ os. refl)) h refl
    (signed_within n h.2) (ap (λ m. Fixed (row.Slti rt rs m) ∷ []) (signed_field n h.2))
reads (row.Sltiu rt rs n) target h l = signed Sltiu 115 (108 ∷ 116 ∷ 105 ∷ 117 ∷ []) rt rs n (ready refl (λ os. refl)) h refl
    (signed_within n h.2) (ap (λ m. Fixed (row.Sltiu rt rs m) ∷ []) (signed_field n h.2))
reads (row.Andi rt rs n) target h l = unsigned Andi 97 (110 ∷ 100 ∷ 105 ∷ []) rt rs n (ready refl (λ os. refl)) h refl
    (below_within n 65535 h.2) (ap (λ m. Fixed (row.Andi rt rs m) ∷ []) (plain_field 16 n h.2))
reads (row.Ori rt rs n) target h l = unsigned Ori 111 (114 ∷ 105 ∷ []) rt rs n (ready refl (λ os. refl)) h refl
    (below_within n 65535 h.2) (ap (λ m. Fixed (row.Ori rt rs m) ∷ []) (plain_field 16 n h.2))
reads (row.Xori rt rs n) target h l = unsigned Xori 120 (111 ∷ 114 ∷ 105 ∷ []) rt rs n (ready refl (λ os. refl)) h refl
    (below_within n 65535 h.2) (ap (λ m. Fixed (row.Xori rt rs m) ∷ []) (plain_field 16 n h.2))
reads (row.Lui rt n) target h l = back_of (row.Lui rt n) target Lui 108 (117 ∷ 105 ∷ []) (register_name rt ∷ decimal n ∷ [])
    (fields 31 0 rt (plain n) []) (ready refl (λ os. refl))
    (name_word rt h.0, ((small_text n 65536 h.1 (lit≤ tt)).word, tt)) (fills_upper rt (plain n) (register_name rt) (decimal n)
    (register_named rt h.0) (small_text n 65536 h.1 (lit≤ tt)).read) (below_within n 65535 h.1)
    (ap (λ m. Fixed (row.Lui rt m) ∷ []) (plain_field 16 n h.1))
reads (row.Lb rt n rs) target h l = offset Lb 108 (98 ∷ []) rt n rs (ready refl (λ os. refl)) h refl
    (signed_within n h.1) (ap (λ m. Fixed (row.Lb rt m rs) ∷ []) (signed_field n h.1))
reads (row.Lbu rt n rs) target h l = offset Lbu 108 (98 ∷ 117 ∷ []) rt n rs (ready refl (λ os. refl)) h refl
    (signed_within n h.1) (ap (λ m. Fixed (row.Lbu rt m rs) ∷ []) (signed_field n h.1))
reads (row.Lw rt n rs) target h l = offset Lw 108 (119 ∷ []) rt n rs (ready refl (λ os. refl)) h refl
    (signed_within n h.1) (ap (λ m. Fixed (row.Lw rt m rs) ∷ []) (signed_field n h.1))
reads (row.Sb rt n rs) target h l = offset Sb 115 (98 ∷ []) rt n rs (ready refl (λ os. refl)) h refl
    (signed_within n h.1) (ap (λ m. Fixed (row.Sb rt m rs) ∷ []) (signed_field n h.1))
reads (row.Sw rt n rs) target h l = offset Sw 115 (119 ∷ []) rt n rs (ready refl (λ os. refl)) h refl
    (signed_within n h.1) (ap (λ m. Fixed (row.Sw rt m rs) ∷ []) (signed_field n h.1))

pub line_reads : (one : Mips) (target : List ℕ) (r : Result (Vec ℕ Global) Memory) → IfOk r (λ l. l.items ≡ line_of one target) →
    OnOk r (IsRow (unlabelled_row one)) → (IsTrue (takes_label one) → IsTrue (is_label target)) → IfOk r (λ l. ReadsBack one target l.items)
line_reads one target (Ok l) e h k = subst (ReadsBack one target) (sym e) (reads one target h k)
line_reads one target (Err m) e h k = tt
