-- Each instruction's text is a word, and operands and numbers behind it in one form; both tell the instruction.
use Rattle.std.proofs.Common.{ℕ, ◌≡◌, List, [], ◌∷◌, ◌++◌, get_or, true, false, refl, sym, ap, ◌∙◌, append_assoc}
use Rattle.std.specs.Prelude.{◌==◌, ◌-◌, if◌then◌else◌, codes}
use Rattle.std.specs.Fmt.{decimal}
use Rattle.std.proofs.lemmas.List.{append_cancel_left}
use Rattle.tg_show.specs.Words.{rel_word}
use Rattle.tg_instr.specs.declared.operands.Opnd.{Opnd}
use Rattle.tg_instr.specs.declared.instr.Instr.{Instr}
use Rattle.tg_instr.specs.declared.instr.Instr.TheVariants.{Sll, Srl, Sra, Mfhi, Mflo, Mult, Div, Add, Sub, Addu, Subu}
use Rattle.tg_instr.specs.declared.instr.Instr.TheVariants.{And, Or, Xor, Nor, Slt, Sltu, Addi, Addiu, Slti, Sltiu}
use Rattle.tg_instr.specs.declared.instr.Instr.TheVariants.{Andi, Ori, Xori, Lui, Lb, Lbu, Lw, Sb}
use Rattle.tg_instr.specs.declared.instr.Instr.TheVariants.{Sw, Move, FrameLoad, FrameStore, FrameAddress, Address, Mark, Jump}
use Rattle.tg_instr.specs.declared.instr.Instr.TheVariants.{Branch, Call, Service, Fault, Return}
use Rattle.tg_show.specs.Layout.{blanks}
use Rattle.tg_show.specs.Trees.{two, three}
use Rattle.tg_show.specs.Flat.{mark_text}
use Rattle.tg_show.specs.Runs.{operand_text}
use Rattle.tg_show.specs.Instructions.{signed_text, instruction_margin, instruction_text}
use Rattle.tg_show_laws.specs.Fields.{FieldsFit}
use Rattle.tg_show_laws.proofs.Numbers.{ends}
use Rattle.tg_show_laws.proofs.Trees.{byte}
use Rattle.tg_show_laws.proofs.Written.{place, Written, Three, AndNumber, AndSigned, WithMemory, Two, One}
use Rattle.tg_show_laws.proofs.Written.{WithSlot, Upper, Literal, Here, Goes, Tests, Number, Nothing}
use Rattle.tg_show_laws.proofs.Written.{WrittenFits, form, written_then, told_written}

-- the words that instructions begin with
abbrev words : List (List ℕ)
words =
    codes "add " ∷ codes "sub " ∷ codes "addu " ∷ codes "subu " ∷ codes "and " ∷ codes "or " ∷ codes "xor " ∷ codes "nor " ∷ codes "slt " ∷
    codes "sltu " ∷ codes "sll " ∷ codes "srl " ∷ codes "sra " ∷ codes "andi " ∷ codes "ori " ∷ codes "xori " ∷ codes "addi " ∷ codes "addiu " ∷
    codes "slti " ∷ codes "sltiu " ∷ codes "lb " ∷ codes "lbu " ∷ codes "lw " ∷ codes "sb " ∷ codes "sw " ∷ codes "mult " ∷ codes "div " ∷
    codes "move " ∷ codes "mfhi " ∷ codes "mflo " ∷ codes "frame " ∷ codes "load " ∷ codes "store " ∷ codes "lui " ∷ codes "la " ∷ codes "." ∷
    codes "j " ∷ codes "branch " ∷ codes "jal f" ∷ codes "break " ∷ codes "syscall" ∷ codes "return" ∷ []

-- and the form of what stands behind each
abbrev forms : List ℕ
forms =
    0 ∷ 0 ∷ 0 ∷ 0 ∷ 0 ∷ 0 ∷ 0 ∷ 0 ∷ 0 ∷ 0 ∷ 1 ∷ 1 ∷ 1 ∷ 1 ∷ 1 ∷ 1 ∷ 2 ∷ 2 ∷ 2 ∷ 2 ∷ 3 ∷ 3 ∷ 3 ∷ 3 ∷ 3 ∷ 4 ∷ 4 ∷ 4 ∷ 5 ∷ 5 ∷ 5 ∷
    6 ∷ 6 ∷ 7 ∷ 8 ∷ 9 ∷ 10 ∷ 11 ∷ 12 ∷ 12 ∷ 13 ∷ 13 ∷ []

abbrev made : (word : ℕ) → Written → Instr
made k (Three x y z) =
    get_or (Add x y z ∷ Sub x y z ∷ Addu x y z ∷ Subu x y z ∷ And x y z ∷ Or x y z ∷ Xor x y z ∷ Nor x y z ∷ Slt x y z ∷ Sltu x y z ∷ []) k Return
made k (AndNumber x y n) = get_or (Sll x y n ∷ Srl x y n ∷ Sra x y n ∷ Andi x y n ∷ Ori x y n ∷ Xori x y n ∷ []) (k - 10) Return
made k (AndSigned x y n) = get_or (Addi x y n ∷ Addiu x y n ∷ Slti x y n ∷ Sltiu x y n ∷ []) (k - 16) Return
made k (WithMemory x n y) = get_or (Lb x n y ∷ Lbu x n y ∷ Lw x n y ∷ Sb x n y ∷ Sw x n y ∷ []) (k - 20) Return
made k (Two x y) = get_or (Mult x y ∷ Div x y ∷ Move x y ∷ []) (k - 25) Return
made k (One x) = get_or (Mfhi x ∷ Mflo x ∷ FrameAddress x ∷ []) (k - 28) Return
made k (WithSlot x n) = get_or (FrameLoad x n ∷ FrameStore x n ∷ []) (k - 31) Return
made k (Upper x n) = Lui x n
made k (Literal x label) = Address x (record { 0 = label })
made k (Here m) = Mark m
made k (Goes m) = Jump m
made k (Tests test m) = Branch test m
made k (Number n) = get_or (Call (record { 0 = n }) ∷ Fault n ∷ []) (k - 38) Return
made k Nothing = get_or (Service ∷ Return ∷ []) (k - 40) Return

abbrev strip : List ℕ → List ℕ
strip [] = []
strip (c ∷ rest) = if c == 32 then strip rest else c ∷ rest

two_then : (a b u : List ℕ) → two a b ++ u ≡ a ++ (44 ∷ 32 ∷ (b ++ u))
two_then a b u = append_assoc a (codes ", " ++ b) u

three_then : (a b c u : List ℕ) → three a b c ++ u ≡ a ++ (44 ∷ 32 ∷ (b ++ (44 ∷ 32 ∷ (c ++ u))))
three_then a b c u = append_assoc a (codes ", " ++ two b c) u ∙ ap (λ r. a ++ (44 ∷ 32 ∷ r)) (two_then b c u)

memory_then : (a n b u : List ℕ) → two a (n ++ (codes "(" ++ (b ++ codes ")"))) ++ u ≡ a ++ (44 ∷ 32 ∷ (n ++ (40 ∷ (b ++ (41 ∷ u)))))
memory_then a n b u =
    two_then a (n ++ (codes "(" ++ (b ++ codes ")"))) u
    ∙ ap (λ r. a ++ (44 ∷ 32 ∷ r)) (append_assoc n (codes "(" ++ (b ++ codes ")")) u ∙ ap (λ r. n ++ (40 ∷ r)) (append_assoc b (codes ")") u))

module _ (names : List (List ℕ)) where
  abbrev o : Opnd → List ℕ
  o x = operand_text names x

  record Viewed (one : Instr) : Type 0 where
    word : ℕ
    parts : Written
    formed : form parts ≡ get_or forms word 0
    said : (u : List ℕ) → instruction_text names one ++ u ≡ get_or words word [] ++ written_then names parts u
    read : (u : List ℕ) → place words (instruction_text names one ++ u) ≡ word
    stripped : (u : List ℕ) → strip (blanks (instruction_margin one) ++ (instruction_text names one ++ u)) ≡ instruction_text names one ++ u
    some : (u : List ℕ) → (byte 0 (blanks (instruction_margin one) ++ u) == 0) ≡ false
    is : made word parts ≡ one
    fits : WrittenFits parts

  viewed : (one : Instr) (word : ℕ) (parts : Written) → form parts ≡ get_or forms word 0 →
      ((u : List ℕ) → instruction_text names one ++ u ≡ get_or words word [] ++ written_then names parts u) →
      ((u : List ℕ) → place words (instruction_text names one ++ u) ≡ word) →
      ((u : List ℕ) → strip (blanks (instruction_margin one) ++ (instruction_text names one ++ u)) ≡ instruction_text names one ++ u) →
      ((u : List ℕ) → (byte 0 (blanks (instruction_margin one) ++ u) == 0) ≡ false) → made word parts ≡ one → WrittenFits parts → Viewed one
  viewed one word parts formed said read stripped some is fits = record {
    word = word;
    parts = parts;
    formed = formed;
    said = said;
    read = read;
    stripped = stripped;
    some = some;
    is = is;
    fits = fits;
  }

  view : (one : Instr) → FieldsFit one → Viewed one
  view (Sll x y n) f =
      viewed (Sll x y n) 10 (AndNumber x y n) refl
      (λ u. ap (λ r. codes "sll " ++ r) (three_then (o x) (o y) (decimal n) u)) (λ u. refl) (λ u. refl) (λ u. refl) refl f
  view (Srl x y n) f =
      viewed (Srl x y n) 11 (AndNumber x y n) refl
      (λ u. ap (λ r. codes "srl " ++ r) (three_then (o x) (o y) (decimal n) u)) (λ u. refl) (λ u. refl) (λ u. refl) refl f
  view (Sra x y n) f =
      viewed (Sra x y n) 12 (AndNumber x y n) refl
      (λ u. ap (λ r. codes "sra " ++ r) (three_then (o x) (o y) (decimal n) u)) (λ u. refl) (λ u. refl) (λ u. refl) refl f
  view (Mfhi x) f = viewed (Mfhi x) 28 (One x) refl (λ u. refl) (λ u. refl) (λ u. refl) (λ u. refl) refl f
  view (Mflo x) f = viewed (Mflo x) 29 (One x) refl (λ u. refl) (λ u. refl) (λ u. refl) (λ u. refl) refl f
  view (Mult x y) f =
      viewed (Mult x y) 25 (Two x y) refl
      (λ u. ap (λ r. codes "mult " ++ r) (two_then (o x) (o y) u)) (λ u. refl) (λ u. refl) (λ u. refl) refl f
  view (Div x y) f =
      viewed (Div x y) 26 (Two x y) refl
      (λ u. ap (λ r. codes "div " ++ r) (two_then (o x) (o y) u)) (λ u. refl) (λ u. refl) (λ u. refl) refl f
  view (Add x y z) f =
      viewed (Add x y z) 0 (Three x y z) refl
      (λ u. ap (λ r. codes "add " ++ r) (three_then (o x) (o y) (o z) u)) (λ u. refl) (λ u. refl) (λ u. refl) refl f
  view (Sub x y z) f =
      viewed (Sub x y z) 1 (Three x y z) refl
      (λ u. ap (λ r. codes "sub " ++ r) (three_then (o x) (o y) (o z) u)) (λ u. refl) (λ u. refl) (λ u. refl) refl f
  view (Addu x y z) f =
      viewed (Addu x y z) 2 (Three x y z) refl
      (λ u. ap (λ r. codes "addu " ++ r) (three_then (o x) (o y) (o z) u)) (λ u. refl) (λ u. refl) (λ u. refl) refl f
  view (Subu x y z) f =
      viewed (Subu x y z) 3 (Three x y z) refl
      (λ u. ap (λ r. codes "subu " ++ r) (three_then (o x) (o y) (o z) u)) (λ u. refl) (λ u. refl) (λ u. refl) refl f
  view (And x y z) f =
      viewed (And x y z) 4 (Three x y z) refl
      (λ u. ap (λ r. codes "and " ++ r) (three_then (o x) (o y) (o z) u)) (λ u. refl) (λ u. refl) (λ u. refl) refl f
  view (Or x y z) f =
      viewed (Or x y z) 5 (Three x y z) refl
      (λ u. ap (λ r. codes "or " ++ r) (three_then (o x) (o y) (o z) u)) (λ u. refl) (λ u. refl) (λ u. refl) refl f
  view (Xor x y z) f =
      viewed (Xor x y z) 6 (Three x y z) refl
      (λ u. ap (λ r. codes "xor " ++ r) (three_then (o x) (o y) (o z) u)) (λ u. refl) (λ u. refl) (λ u. refl) refl f
  view (Nor x y z) f =
      viewed (Nor x y z) 7 (Three x y z) refl
      (λ u. ap (λ r. codes "nor " ++ r) (three_then (o x) (o y) (o z) u)) (λ u. refl) (λ u. refl) (λ u. refl) refl f
  view (Slt x y z) f =
      viewed (Slt x y z) 8 (Three x y z) refl
      (λ u. ap (λ r. codes "slt " ++ r) (three_then (o x) (o y) (o z) u)) (λ u. refl) (λ u. refl) (λ u. refl) refl f
  view (Sltu x y z) f =
      viewed (Sltu x y z) 9 (Three x y z) refl
      (λ u. ap (λ r. codes "sltu " ++ r) (three_then (o x) (o y) (o z) u)) (λ u. refl) (λ u. refl) (λ u. refl) refl f
  view (Addi x y n) f =
      viewed (Addi x y n) 16 (AndSigned x y n) refl
      (λ u. ap (λ r. codes "addi " ++ r) (three_then (o x) (o y) (signed_text n) u)) (λ u. refl) (λ u. refl) (λ u. refl) refl f
  view (Addiu x y n) f =
      viewed (Addiu x y n) 17 (AndSigned x y n) refl
      (λ u. ap (λ r. codes "addiu " ++ r) (three_then (o x) (o y) (signed_text n) u)) (λ u. refl) (λ u. refl) (λ u. refl) refl f
  view (Slti x y n) f =
      viewed (Slti x y n) 18 (AndSigned x y n) refl
      (λ u. ap (λ r. codes "slti " ++ r) (three_then (o x) (o y) (signed_text n) u)) (λ u. refl) (λ u. refl) (λ u. refl) refl f
  view (Sltiu x y n) f =
      viewed (Sltiu x y n) 19 (AndSigned x y n) refl
      (λ u. ap (λ r. codes "sltiu " ++ r) (three_then (o x) (o y) (signed_text n) u)) (λ u. refl) (λ u. refl) (λ u. refl) refl f
  view (Andi x y n) f =
      viewed (Andi x y n) 13 (AndNumber x y n) refl
      (λ u. ap (λ r. codes "andi " ++ r) (three_then (o x) (o y) (decimal n) u)) (λ u. refl) (λ u. refl) (λ u. refl) refl f
  view (Ori x y n) f =
      viewed (Ori x y n) 14 (AndNumber x y n) refl
      (λ u. ap (λ r. codes "ori " ++ r) (three_then (o x) (o y) (decimal n) u)) (λ u. refl) (λ u. refl) (λ u. refl) refl f
  view (Xori x y n) f =
      viewed (Xori x y n) 15 (AndNumber x y n) refl
      (λ u. ap (λ r. codes "xori " ++ r) (three_then (o x) (o y) (decimal n) u)) (λ u. refl) (λ u. refl) (λ u. refl) refl f
  view (Lui x n) f =
      viewed (Lui x n) 33 (Upper x n) refl
      (λ u. ap (λ r. codes "lui " ++ r) (two_then (o x) (decimal n) u)) (λ u. refl) (λ u. refl) (λ u. refl) refl f
  view (Lb x n y) f =
      viewed (Lb x n y) 20 (WithMemory x n y) refl
      (λ u. ap (λ r. codes "lb " ++ r) (memory_then (o x) (signed_text n) (o y) u)) (λ u. refl) (λ u. refl) (λ u. refl) refl f
  view (Lbu x n y) f =
      viewed (Lbu x n y) 21 (WithMemory x n y) refl
      (λ u. ap (λ r. codes "lbu " ++ r) (memory_then (o x) (signed_text n) (o y) u)) (λ u. refl) (λ u. refl) (λ u. refl) refl f
  view (Lw x n y) f =
      viewed (Lw x n y) 22 (WithMemory x n y) refl
      (λ u. ap (λ r. codes "lw " ++ r) (memory_then (o x) (signed_text n) (o y) u)) (λ u. refl) (λ u. refl) (λ u. refl) refl f
  view (Sb x n y) f =
      viewed (Sb x n y) 23 (WithMemory x n y) refl
      (λ u. ap (λ r. codes "sb " ++ r) (memory_then (o x) (signed_text n) (o y) u)) (λ u. refl) (λ u. refl) (λ u. refl) refl f
  view (Sw x n y) f =
      viewed (Sw x n y) 24 (WithMemory x n y) refl
      (λ u. ap (λ r. codes "sw " ++ r) (memory_then (o x) (signed_text n) (o y) u)) (λ u. refl) (λ u. refl) (λ u. refl) refl f
  view (Move x y) f =
      viewed (Move x y) 27 (Two x y) refl
      (λ u. ap (λ r. codes "move " ++ r) (two_then (o x) (o y) u)) (λ u. refl) (λ u. refl) (λ u. refl) refl f
  view (FrameLoad x n) f =
      viewed (FrameLoad x n) 31 (WithSlot x n) refl
      (λ u. ap (λ r. codes "load " ++ r) (two_then (o x) (codes "slot " ++ decimal n) u)) (λ u. refl) (λ u. refl) (λ u. refl) refl f
  view (FrameStore x n) f =
      viewed (FrameStore x n) 32 (WithSlot x n) refl
      (λ u. ap (λ r. codes "store " ++ r) (two_then (o x) (codes "slot " ++ decimal n) u)) (λ u. refl) (λ u. refl) (λ u. refl) refl f
  view (FrameAddress x) f = viewed (FrameAddress x) 30 (One x) refl (λ u. refl) (λ u. refl) (λ u. refl) (λ u. refl) refl f
  view (Address x label) f =
      viewed (Address x label) 34 (Literal x label.0) refl
      (λ u. ap (λ r. codes "la " ++ r) (two_then (o x) (codes "s" ++ decimal label.0) u)) (λ u. refl) (λ u. refl) (λ u. refl) refl f
  view (Mark m) f =
      viewed (Mark m) 35 (Here m) refl
      (λ u. ap (λ r. codes "." ++ r) (append_assoc (decimal m) (codes ":") u)) (λ u. refl) (λ u. refl) (λ u. refl) refl f
  view (Jump m) f = viewed (Jump m) 36 (Goes m) refl (λ u. refl) (λ u. refl) (λ u. refl) (λ u. refl) refl f
  view (Branch test m) f =
      viewed (Branch test m) 37 (Tests test m) refl
      (λ u. ap (λ r. codes "branch " ++ r)
      (append_assoc (rel_word test.rel) (codes " " ++ three (o test.left) (o test.right) (mark_text m)) u
      ∙ ap (λ r. rel_word test.rel ++ (32 ∷ r)) (three_then (o test.left) (o test.right) (mark_text m) u)))
      (λ u. refl) (λ u. refl) (λ u. refl) refl f
  view (Call label) f = viewed (Call label) 38 (Number label.0) refl (λ u. refl) (λ u. refl) (λ u. refl) (λ u. refl) refl f
  view Service f = viewed Service 40 Nothing refl (λ u. refl) (λ u. refl) (λ u. refl) (λ u. refl) refl f
  view (Fault n) f = viewed (Fault n) 39 (Number n) refl (λ u. refl) (λ u. refl) (λ u. refl) (λ u. refl) refl f
  view Return f = viewed Return 41 Nothing refl (λ u. refl) (λ u. refl) (λ u. refl) (λ u. refl) refl f

  -- Where instructions have one text, with their margins, they are the same, and so is what stands behind them.
  pub told_one : (one other : Instr) (u v : List ℕ) → FieldsFit one → FieldsFit other → ends u ≡ true → ends v ≡ true →
      blanks (instruction_margin one) ++ (instruction_text names one ++ u) ≡ blanks (instruction_margin other) ++ (instruction_text names other ++ v) →
      (one ≡ other) × (u ≡ v)
  told_one one other u v f g e k h =
      let a = view one f in
      let b = view other g in
      let bare : instruction_text names one ++ u ≡ instruction_text names other ++ v = sym (a.stripped u) ∙ ap strip h ∙ b.stripped v in
      let word : a.word ≡ b.word = sym (a.read u) ∙ ap (place words) bare ∙ b.read v in
      let behind : written_then names a.parts u ≡ written_then names b.parts v =
      append_cancel_left (get_or words b.word []) (written_then names a.parts u) (written_then names b.parts v)
      (ap (λ j. get_or words j [] ++ written_then names a.parts u) (sym word) ∙ sym (a.said u) ∙ bare ∙ b.said v) in
      let formed : form a.parts ≡ form b.parts = a.formed ∙ ap (λ j. get_or forms j 0) word ∙ sym b.formed in
      let parts = told_written names a.parts b.parts u v formed a.fits b.fits e k behind in
      (sym a.is ∙ (λ i. made (word i) (parts.0 i)) ∙ b.is, parts.1)

  pub begins_some : (one : Instr) (u : List ℕ) → FieldsFit one → (byte 0 (blanks (instruction_margin one) ++ u) == 0) ≡ false
  begins_some one u f = (view one f).some u
