-- Lines whose branches are turned round have an image where the lines have one and each label has a word behind it: a branch may lead to the code's end,
-- and the jump that stands for it may not.
use Rattle.std.proofs.Common.{ℕ, ◌≡◌, ◌≢◌, ◌<◌, ◌≤◌, ◌+◌, ◌*◌, ◌^◌, List, [], ◌∷◌, ◌++◌, length, refl, sym, ap, ◌∙◌, subst, arith}
use Rattle.std.proofs.Common.{Bool, true, false, Option, Some, None, inl, inr}
use Rattle.std.specs.Prelude.{codes, if◌then◌else◌, IsSome, IsTrue, AllPairs}
use Rattle.std.specs.List.{AllByRecursion}
use Rattle.std.specs.Str.{bytes_eq}
use Rattle.std.specs.Fmt.{decimal}
use Rattle.std.proofs.lemmas.Fmt.{decimal_injective}
use Rattle.tg_machine_state.specs.State.{most_words, most_bytes}
use Rattle.tg_isa.specs.declared.mips.Mips.{Mips}
use Rattle.tg_isa.specs.declared.mips.Mips.TheVariants as row
use Rattle.tg_isa.specs.Rows.{IsRow}
use Rattle.tg_asm_text.specs.declared.keywords.Segment.TheVariants.{Code}
use Rattle.tg_asm_text.specs.Items.{Coded, Fixed, Branch, Jump, Upper, Lower}
use Rattle.tg_asm_text.specs.Operands.{is_label}
use Rattle.tg_asm_text.specs.Writing.{coded_row, takes_label}
use Rattle.tg_asm_text.specs.Placement.{Position, Positions, AtWord, AtByte, position_of, positions, labels_in, code_in, last_byte}
use Rattle.tg_asm_text.specs.Placement.{WordReaches, WordsReach, BranchReaches, JumpReaches}
use Rattle.tg_asm_text.specs.Texts as texts
use Rattle.tg_tree.specs.declared.fragments.Literal.{Literal}
use Rattle.tg_emit.specs.declared.assembly.Line.{Line}
use Rattle.tg_emit.specs.declared.assembly.Line.TheVariants.{Label, One, La, Statics}
use Rattle.tg_emit.specs.mirror.Names.{literal_name}
use Rattle.tg_emit.specs.mirror.Lines.{words}
use Rattle.tg_emit_laws.specs.Images.{AreCode}
use Rattle.tg_emit_laws.proofs.Apart.{names_of, Differ, each_append, each_weaker, found, pairs_differ, stands_left}
use Rattle.tg_emit_laws.proofs.NameTexts.{first_byte, literal_label, not_same}
use Rattle.tg_emit_laws.proofs.InstructionLines.{Finds}
use Rattle.tg_emit_laws.proofs.CodeLines.{coded_in, labels_from, given_in, coded_words, code_positions, code_bytes, code_items, code_labels}
use Rattle.tg_emit_laws.proofs.StaticsLines.{statics_items, statics_labels, position_names}
use Rattle.tg_emit_laws.proofs.LabelsDiffer.{literal_names}
use Rattle.tg_emit_proof.specs.LinesRun.{Place, left, at_zero, behind}
use Rattle.tg_emit_proof.specs.laws.Laws.{written, HasImage}
use Rattle.tg_delay.specs.Filling.{opposite, branches, branches_in, around_name, turned_round, filled}
use Rattle.tg_delay_proof.specs.laws.Laws.{GivesNone}
use Rattle.tg_delay_proof.proofs.Turning.{IsOld, some_turned, given_is_old, behind_turned}
use Rattle.tg_bare_proof.proofs.Images.{IsGood, filled_words, placed_label, unplaced, behind_not_zero, statics_at_bytes, some_by_names, branch_row, plain_row}
use Rattle.tg_bare_proof.proofs.Images.{from_pairs, old, more, statics, old_is, length_of, old_reach, main_good, turned_has_image}
use Rattle.tg_bare_proof.proofs.LongCode.{turned_are_turned}

-- Induction over lines by how their branches are turned round.
module _ (P : List Line → List Line → Type 0)
    (nil : P [] [])
    (label : (name : List ℕ) (rest : List Line) → P rest (turned_round rest) → P (Label name ∷ rest) (Label name ∷ turned_round rest))
    (la : (r : ℕ) (name : List ℕ) (rest : List Line) → P rest (turned_round rest) → P (La r name ∷ rest) (La r name ∷ turned_round rest))
    (bytes : (bs : List ℕ) (rest : List Line) → P rest (turned_round rest) → P (Statics bs ∷ rest) (Statics bs ∷ turned_round rest))
    (straight : (one : Mips) (target : List ℕ) (rest : List Line) → branches one ≡ false → P rest (turned_round rest) →
    P (One one target ∷ rest) (One one target ∷ turned_round rest))
    (branch : (one : Mips) (target : List ℕ) (rest : List Line) → branches one ≡ true → P rest (turned_round rest) →
    P (One one target ∷ rest)
    (One (opposite one) (around_name (branches_in rest)) ∷ One (row.J 0) target ∷ Label (around_name (branches_in rest)) ∷ turned_round rest)) where
  by_turning : (lines : List Line) → P lines (turned_round lines)
  by_turning [] = nil
  by_turning (Label name ∷ rest) = label name rest (by_turning rest)
  by_turning (La r name ∷ rest) = la r name rest (by_turning rest)
  by_turning (Statics bs ∷ rest) = bytes bs rest (by_turning rest)
  by_turning (One one target ∷ rest) = by (branches one) refl (by_turning rest)
    where
      by : (b : Bool) → branches one ≡ b → P rest (turned_round rest) →
          P (One one target ∷ rest) (if b then One (opposite one) (around_name (branches_in rest)) ∷ One (row.J 0) target
          ∷ Label (around_name (branches_in rest)) ∷ turned_round rest else One one target ∷ turned_round rest)
      by true e h = branch one target rest e h
      by false e h = straight one target rest e h

-- how many branches
one_branch : (one : Mips) (target : List ℕ) (rest : List Line) → branches one ≡ true → branches_in (One one target ∷ rest) ≡ 1 + branches_in rest
one_branch one target rest e = ap (λ b. if b then 1 + branches_in rest else branches_in rest) e

no_branch : (one : Mips) (target : List ℕ) (rest : List Line) → branches one ≡ false → branches_in (One one target ∷ rest) ≡ branches_in rest
no_branch one target rest e = ap (λ b. if b then 1 + branches_in rest else branches_in rest) e

branches_below : (lines : List Line) → branches_in lines ≤ words lines
branches_below [] = omega arith
branches_below (Label name ∷ rest) = let h = branches_below rest in omega arith
branches_below (La r name ∷ rest) = let h = branches_below rest in omega arith
branches_below (Statics bs ∷ rest) = let h = branches_below rest in omega arith
branches_below (One one target ∷ rest) = by (branches one) (branches_below rest)
  where
    by : (b : Bool) → branches_in rest ≤ words rest → (if b then 1 + branches_in rest else branches_in rest) ≤ 1 + words rest
    by true h = omega arith
    by false h = omega arith

-- what turned lines are made of
opposite_row : (one : Mips) → IsRow one → IsRow (opposite one)
opposite_row (row.Beq rs rt n) h = h
opposite_row (row.Bne rs rt n) h = h
opposite_row (row.Blez rs n) h = h
opposite_row (row.Bgtz rs n) h = h
opposite_row (row.Bltz rs n) h = h
opposite_row (row.Bgez rs n) h = h
opposite_row one h = h

opposite_branches : (one : Mips) → branches one ≡ true → branches (opposite one) ≡ true
opposite_branches (row.Beq rs rt n) h = refl
opposite_branches (row.Bne rs rt n) h = refl
opposite_branches (row.Blez rs n) h = refl
opposite_branches (row.Bgtz rs n) h = refl
opposite_branches (row.Bltz rs n) h = refl
opposite_branches (row.Bgez rs n) h = refl
opposite_branches one h = cc

branch_takes : (one : Mips) → branches one ≡ true → IsTrue (takes_label one)
branch_takes (row.Beq rs rt n) h = refl
branch_takes (row.Bne rs rt n) h = refl
branch_takes (row.Blez rs n) h = refl
branch_takes (row.Bgtz rs n) h = refl
branch_takes (row.Bltz rs n) h = refl
branch_takes (row.Bgez rs n) h = refl
branch_takes one h = cc

around_label : (k : ℕ) → k < 2 ^ 64 → IsTrue (is_label (around_name k))
around_label k h = literal_label k h

turned_code : (lines : List Line) → AreCode lines → branches_in lines < 2 ^ 64 → AreCode (turned_round lines)
turned_code =
    by_turning (λ ls ms. AreCode ls → branches_in ls < 2 ^ 64 → AreCode ms) (λ k n. tt) (λ name rest h k n. (k.0, h k.1 n))
    (λ r name rest h k n. (k.0, h k.1 n)) (λ bs rest h k n. (k.0, h k.1 n))
    (λ one target rest e h k n. (k.0, h k.1 (subst (λ m. m < 2 ^ 64) (no_branch one target rest e) n)))
    (λ one target rest e h k n.
    let c = one_branch one target rest e in
    let b : branches_in rest < 2 ^ 64 = omega (arith, c, n) in (
      (opposite_row one k.0.0, λ _. around_label (branches_in rest) b),
      ((omega arith, λ _. k.0.1 (branch_takes one e)), (around_label (branches_in rest) b, h k.1 b)),
    ))

turned_words : (lines : List Line) → (words (turned_round lines) ≤ 2 * words lines) × (words lines ≤ words (turned_round lines))
turned_words =
    by_turning (λ ls ms. (words ms ≤ 2 * words ls) × (words ls ≤ words ms)) (omega arith, omega arith)
    (λ name rest h. let a = h.0 in let b = h.1 in (omega (arith, a), omega (arith, b)))
    (λ r name rest h. let a = h.0 in let b = h.1 in (omega (arith, a), omega (arith, b)))
    (λ bs rest h. let a = h.0 in let b = h.1 in (omega (arith, a), omega (arith, b)))
    (λ one target rest e h. let a = h.0 in let b = h.1 in (omega (arith, a), omega (arith, b)))
    (λ one target rest e h. let a = h.0 in let b = h.1 in (omega (arith, a), omega (arith, b)))

-- the names of labels
turned_names : (Q : List ℕ → Type 0) (others : List (List ℕ)) (lines : List Line) → AllByRecursion Q (given_in lines ++ others) →
    ((k : ℕ) → k < branches_in lines → Q (around_name k)) → AllByRecursion Q (given_in (turned_round lines) ++ others)
turned_names Q others =
    by_turning (λ ls ms. AllByRecursion Q (given_in ls ++ others) → ((k : ℕ) → k < branches_in ls → Q (around_name k)) →
    AllByRecursion Q (given_in ms ++ others)) (λ k f. k) (λ name rest h k f. (k.0, h k.1 f)) (λ r name rest h. h) (λ bs rest h. h)
    (λ one target rest e h k f. h k (λ j l. f j (let c = no_branch one target rest e in omega (arith, c, l))))
    (λ one target rest e h k f.
    let c = one_branch one target rest e in
    (f (branches_in rest) (omega (arith, c)), h k (λ j l. f j (omega (arith, c, l)))))

old_names : (lines : List Line) → GivesNone lines → AllByRecursion IsOld (given_in lines)
old_names [] g = tt
old_names (Label name ∷ rest) g = (g.0, old_names rest g.1)
old_names (One one target ∷ rest) g = old_names rest g
old_names (La r name ∷ rest) g = old_names rest g
old_names (Statics bs ∷ rest) g = old_names rest g

around_differs : (j k : ℕ) → j < 2 ^ 64 → k < 2 ^ 64 → j ≢ k → around_name j ≢ around_name k
around_differs j k l m h e = h (decimal_injective j k l m (tail e))
  where
    tail : codes "b" ++ decimal j ≡ codes "b" ++ decimal k → decimal j ≡ decimal k
    tail e = cc

turned_differ : (others : List (List ℕ)) → AllByRecursion IsOld others → (lines : List Line) → GivesNone lines → branches_in lines < 2 ^ 64 →
    Differ (given_in lines ++ others) → Differ (given_in (turned_round lines) ++ others)
turned_differ others are =
    by_turning (λ ls ms. GivesNone ls → branches_in ls < 2 ^ 64 → Differ (given_in ls ++ others) → Differ (given_in ms ++ others))
    (λ g n d. d)
    (λ name rest h g n d. (turned_names (λ y. name ≢ y) others rest d.0 (λ k l. g.0 k), h g.1 n d.1))
    (λ r name rest h. h) (λ bs rest h. h)
    (λ one target rest e h g n d. h g (let c = no_branch one target rest e in omega (arith, c, n)) d)
    (λ one target rest e h g n d.
    let c = one_branch one target rest e in
    let b = branches_in rest in
    let apart : AllByRecursion (λ y. around_name b ≢ y) (given_in rest ++ others) =
    each_weaker IsOld (λ y. around_name b ≢ y) (λ y o q. o b (sym q)) (given_in rest ++ others)
    (each_append IsOld (given_in rest) others (old_names rest g) are) in (
      turned_names (λ y. around_name b ≢ y) others rest apart
          (λ j l. around_differs b j (omega (arith, c, n)) (omega (arith, c, n, l)) (λ q. omega (arith, q, l))),
      h g (omega (arith, c, n)) d,
    ))

literals_old : (ls : List Literal) → AllByRecursion IsOld (literal_names ls)
literals_old [] = tt
literals_old (l ∷ ls) = (λ k e. not_same 115 98 refl (ap first_byte e), literals_old ls)

-- labels with a word behind them
abbrev pub HaveWords : List Line → Type 0
HaveWords [] = Unit {0}
HaveWords (Label name ∷ rest) = (1 ≤ words rest) × HaveWords rest
HaveWords (line ∷ rest) = HaveWords rest

behind_has : (name : List ℕ) (lines rest : List Line) → HaveWords lines → behind name lines ≡ Some (left rest) → 1 ≤ words rest
behind_has name [] rest h e = cc
behind_has name (Label other ∷ ls) rest h e = by (bytes_eq name other) e (behind_has name ls rest h.1)
  where
    same : (q r : List Line) → Some (left q) ≡ Some (left r) → q ≡ r
    same q r e = cc

    by : (b : Bool) → (if b then Some (left ls) else behind name ls) ≡ Some (left rest) → (behind name ls ≡ Some (left rest) → 1 ≤ words rest) → 1 ≤ words rest
    by true e later = subst (λ (q : List Line). 1 ≤ words q) (same ls rest e) h.0
    by false e later = later e
behind_has name (One one target ∷ ls) rest h e = behind_has name ls rest h e
behind_has name (La r other ∷ ls) rest h e = behind_has name ls rest h e
behind_has name (Statics bs ∷ ls) rest h e = behind_has name ls rest h e

-- a row's label, wherever the row is: one of code has a word
abbrev Leads : Positions → ℕ → Coded → Type 0
Leads ps n (Fixed one) = Unit {0}
Leads ps n (Branch one target) = (at : ℕ) × (position_of ps target ≡ Some (AtWord at)) × (at < n)
Leads ps n (Jump one target) = (at : ℕ) × (position_of ps target ≡ Some (AtWord at)) × (at < n)
Leads ps n (Upper r target) = IsSome (position_of ps target)
Leads ps n (Lower r target) = IsSome (position_of ps target)

leads_good : (ps : Positions) (n : ℕ) (c : Coded) → Leads ps n c → IsGood ps n c
leads_good ps n (Fixed one) h = tt
leads_good ps n (Branch one target) h = let l = h.2 in (h.0, h.1, omega (arith, l))
leads_good ps n (Jump one target) h = h
leads_good ps n (Upper r target) h = h
leads_good ps n (Lower r target) h = h

branch_leads : (ps : Positions) (n : ℕ) (one : Mips) (target : List ℕ) → branches one ≡ true → Leads ps n (coded_row one target) →
    JumpReaches n (position_of ps target)
branch_leads ps n (row.Beq rs rt k) target b h = subst (JumpReaches n) (sym h.1) h.2
branch_leads ps n (row.Bne rs rt k) target b h = subst (JumpReaches n) (sym h.1) h.2
branch_leads ps n (row.Blez rs k) target b h = subst (JumpReaches n) (sym h.1) h.2
branch_leads ps n (row.Bgtz rs k) target b h = subst (JumpReaches n) (sym h.1) h.2
branch_leads ps n (row.Bltz rs k) target b h = subst (JumpReaches n) (sym h.1) h.2
branch_leads ps n (row.Bgez rs k) target b h = subst (JumpReaches n) (sym h.1) h.2
branch_leads ps n one target b h = cc

module _ (ps : Positions) (n : ℕ) where
  around_reaches : (w : ℕ) (around : List ℕ) (ms : List Line) → Finds ps ((around, AtWord (w + 1 + 1)) ∷ labels_from (w + 1 + 1) ms) →
      BranchReaches w (position_of ps around)
  around_reaches w around ms finds =
      let e = finds around (AtWord (w + 1 + 1)) (inl refl) in
      subst (BranchReaches w) (sym e) (omega arith, omega arith)

  turned_reach : (lines : List Line) (w : ℕ) → AllByRecursion (Leads ps n) (coded_in lines) → Finds ps (labels_from w (turned_round lines)) →
      WordsReach ps n w (coded_in (turned_round lines))
  turned_reach =
      by_turning (λ ls ms. (w : ℕ) → AllByRecursion (Leads ps n) (coded_in ls) → Finds ps (labels_from w ms) → WordsReach ps n w (coded_in ms))
      (λ w g f. tt)
      (λ name rest h w g f. h w g (λ x p k. f x p (inr k)))
      (λ r name rest h w g f.
      (g.0, (g.1.0, subst (λ k. WordsReach ps n k (coded_in (turned_round rest))) (two_on w) (h (w + 2) g.1.1 f))))
      (λ bs rest h w g f. h w g f)
      (λ one target rest e h w g f. (plain_row ps n w one target e (leads_good ps n (coded_row one target) g.0), h (w + 1) g.1 f))
      (λ one target rest e h w g f. (
        branch_row ps n w (opposite one) (around_name (branches_in rest)) (opposite_branches one e)
            (around_reaches w (around_name (branches_in rest)) (turned_round rest) f),
        (branch_leads ps n one target e g.0, h (w + 1 + 1) g.1 (λ x p k. f x p (inr k))),
      ))
    where
      two_on : (w : ℕ) → w + 2 ≡ w + 1 + 1
      two_on w = omega arith

module _ (lines : List Line) (ls : List Literal) (has : HasImage lines ls) (gives : GivesNone lines) (have : HaveWords lines)
    (short : words lines ≤ 32000) where
  few : words (filled lines) < most_words
  few = let f = (filled_words lines).0 in omega (arith, f, short)

  count : branches_in lines < 2 ^ 64
  count = let b = branches_below lines in omega (arith, b, short)

  code : AreCode (turned_round lines)
  code = turned_code lines has.code count

  abbrev before : Positions
  before = old lines ls has few

  abbrev after : Positions
  after = labels_from 0 (turned_round lines) ++ more lines ls has few (0 + words (turned_round lines))

  abbrev read : List texts.Line
  read = written (turned_round lines) ls

  after_is : positions (texts.readings_of read) ≡ after
  after_is = code_positions 0 0 (turned_round lines) (statics lines ls has few) code

  -- a word of the code before is one of the code behind, with a word there
  in_code : (name : List ℕ) (at : ℕ) → position_of before name ≡ Some (AtWord at) →
      (to : ℕ) × (position_of after name ≡ Some (AtWord to)) × (to < words (turned_round lines))
  in_code name at h = by (behind name lines) refl
    where
      by : (o : Option Place) → behind name lines ≡ o →
          (to : ℕ) × (position_of after name ≡ Some (AtWord to)) × (to < words (turned_round lines))
      by None e = absurd (statics_at_bytes (0 + words lines) ls name at
          (sym (unplaced 0 lines (more lines ls has few (0 + words lines)) name e) ∙ h))
      by (Some at_zero) e = absurd (behind_not_zero name lines e)
      by (Some (left rest)) e =
          let y = placed_label 0 (turned_round lines) (more lines ls has few (0 + words (turned_round lines))) name (turned_round rest)
          (behind_turned name lines (given_is_old name lines (left rest) gives e) ∙ ap some_turned e) in
          let q = y.2 in
          let w = (turned_words rest).1 in
          let l = behind_has name lines rest have e in
          (y.0, y.1, omega (arith, q, w, l))

  some_there : (name : List ℕ) → IsSome (position_of before name) → IsSome (position_of after name)
  some_there name h = by (behind name (turned_round lines)) refl
    where
      is_some : (p : Position) (o : Option Position) → o ≡ Some p → IsSome o
      is_some p o e = subst (λ (x : Option Position). IsSome x) (sym e) refl

      by_old : (o : Option Place) → behind name lines ≡ o → behind name (turned_round lines) ≡ None → IsSome (position_of after name)
      by_old None k e =
          subst (λ (x : Option Position). IsSome x)
          (sym (unplaced 0 (turned_round lines) (more lines ls has few (0 + words (turned_round lines))) name e))
          (some_by_names (more lines ls has few (0 + words lines)) (more lines ls has few (0 + words (turned_round lines))) name
          (position_names Code (0 + words lines) 0 (texts.readings_of (statics lines ls has few))
          ∙ sym (position_names Code (0 + words (turned_round lines)) 0 (texts.readings_of (statics lines ls has few))))
          (subst (λ (x : Option Position). IsSome x) (unplaced 0 lines (more lines ls has few (0 + words lines)) name k) h))
      by_old (Some p) k e =
          let f = behind_turned name lines (given_is_old name lines p gives k) in
          let none : None ≡ some_turned (Some p) = sym e ∙ (f ∙ ap some_turned k) in cc

      by : (o : Option Place) → behind name (turned_round lines) ≡ o → IsSome (position_of after name)
      by None e = by_old (behind name lines) refl e
      by (Some at_zero) e = absurd (behind_not_zero name (turned_round lines) e)
      by (Some (left rest)) e =
          let y = placed_label 0 (turned_round lines) (more lines ls has few (0 + words (turned_round lines))) name rest e in
          is_some (AtWord y.0) (position_of after name) y.1

  jump_leads : (target : List ℕ) → JumpReaches (words lines) (position_of before target) →
      (at : ℕ) × (position_of after target ≡ Some (AtWord at)) × (at < words (turned_round lines))
  jump_leads target r = by (position_of before target) refl r
    where
      by : (o : Option Position) → position_of before target ≡ o → JumpReaches (words lines) o →
          (at : ℕ) × (position_of after target ≡ Some (AtWord at)) × (at < words (turned_round lines))
      by None e k = absurd k
      by (Some (AtByte b)) e k = absurd k
      by (Some (AtWord at)) e k = in_code target at e

  branch_there : (w : ℕ) (target : List ℕ) → BranchReaches w (position_of before target) →
      (at : ℕ) × (position_of after target ≡ Some (AtWord at)) × (at < words (turned_round lines))
  branch_there w target r = by (position_of before target) refl r
    where
      by : (o : Option Position) → position_of before target ≡ o → BranchReaches w o →
          (at : ℕ) × (position_of after target ≡ Some (AtWord at)) × (at < words (turned_round lines))
      by None e k = absurd k
      by (Some (AtByte b)) e k = absurd k
      by (Some (AtWord at)) e k = in_code target at e

  leads : (w : ℕ) (c : Coded) → WordReaches before (words lines) w c → Leads after (words (turned_round lines)) c
  leads w (Fixed one) h = tt
  leads w (Branch one target) h = branch_there w target h
  leads w (Jump one target) h = jump_leads target h
  leads w (Upper r target) h = some_there target h
  leads w (Lower r target) h = some_there target h

  all_lead : (w : ℕ) (cs : List Coded) → WordsReach before (words lines) w cs → AllByRecursion (Leads after (words (turned_round lines))) cs
  all_lead w [] h = tt
  all_lead w (c ∷ cs) h = (leads w c h.0, all_lead (w + 1) cs h.1)

  labels_were : labels_in (texts.readings_of (written lines ls)) ≡ given_in lines ++ literal_names ls
  labels_were = code_labels lines (statics lines ls has few) has.code ∙ ap (λ n. given_in lines ++ n) (statics_labels ls)

  labels_are : labels_in (texts.readings_of read) ≡ given_in (turned_round lines) ++ literal_names ls
  labels_are = code_labels (turned_round lines) (statics lines ls has few) code ∙ ap (λ n. given_in (turned_round lines) ++ n) (statics_labels ls)

  labels_differ : Differ (labels_in (texts.readings_of read))
  labels_differ =
      subst Differ (sym labels_are)
      (turned_differ (literal_names ls) (literals_old ls) lines gives count (subst Differ labels_were (from_pairs _ has.sound.labels_differ)))

  names_differ : Differ (names_of after)
  names_differ =
      subst (λ qs. Differ (names_of qs)) after_is
      (subst Differ (sym (position_names Code 0 0 (texts.readings_of read))) labels_differ)

  new_reach : WordsReach after (words (turned_round lines)) 0 (coded_in (turned_round lines))
  new_reach =
      turned_reach after (words (turned_round lines)) lines 0 (all_lead 0 (coded_in lines) (old_reach lines ls has few))
      (λ name p h. found after name p names_differ
      (stands_left (labels_from 0 (turned_round lines)) (more lines ls has few (0 + words (turned_round lines))) name p h))

  code_is : code_in (texts.readings_of read) ≡ coded_in (turned_round lines)
  code_is = length_of lines ls has few (turned_round lines) code

  new_length : length (code_in (texts.readings_of read)) ≡ words (turned_round lines)
  new_length = ap (λ (cs : List Coded). length cs) code_is ∙ coded_words (turned_round lines)

  below : words (turned_round lines) < most_words
  below = let w = (turned_words lines).0 in omega (arith, w, short)

  turned_image : HasImage (turned_round lines) ls
  turned_image = record {
    code = code;
    literals = has.literals;
    sound = record {
      labels_differ = pairs_differ (labels_in (texts.readings_of read)) labels_differ;
      code_fits = (let n = new_length in let b = below in omega (arith, n, b));
      statics_fit = subst (λ n. n ≤ most_bytes)
          (code_bytes 0 lines (statics lines ls has few) has.code ∙ sym (code_bytes 0 (turned_round lines) (statics lines ls has few) code))
          has.sound.statics_fit;
      words_reach =
          subst (λ n. WordsReach (positions (texts.readings_of read)) n 0 (code_in (texts.readings_of read))) (sym new_length)
          (subst (λ cs. WordsReach (positions (texts.readings_of read)) (words (turned_round lines)) 0 cs) (sym code_is)
          (subst (λ ps. WordsReach ps (words (turned_round lines)) 0 (coded_in (turned_round lines))) (sym after_is) new_reach));
      items_stand = (
        tt,
        (
          tt,
          code_items (positions (texts.readings_of read)) (turned_round lines) (statics lines ls has few) code
              (statics_items (positions (texts.readings_of read)) ls),
        ),
      );
      main_stands =
          subst (λ n. JumpReaches n (position_of (positions (texts.readings_of read)) (codes "main"))) (sym new_length)
          (subst (λ ps. JumpReaches (words (turned_round lines)) (position_of ps (codes "main"))) (sym after_is)
          (let x = jump_leads (codes "main") (main_good lines ls has few) in subst (JumpReaches (words (turned_round lines))) (sym x.1) x.2));
    };
    short = below;
  }

  pub turned_filled_image : HasImage (filled (turned_round lines)) ls
  turned_filled_image =
      let w = (turned_words lines).0 in
      let f = (filled_words (turned_round lines)).0 in
      turned_has_image (turned_round lines) ls turned_image (turned_are_turned lines) (omega (arith, w, f, short))
