-- Lines whose slots are filled have an image where the lines have one and the code is so short that
-- each branch reaches.
use Rattle.std.proofs.Common.{ℕ, ◌≡◌, ◌≢◌, ◌<◌, ◌≤◌, ◌+◌, ◌*◌, List, [], ◌∷◌, ◌++◌, length, map, refl, sym, ap, ◌∙◌, subst, arith}
use Rattle.std.proofs.Common.{Bool, true, false, Option, Some, None, append-nil, suc, inl, inr}
use Rattle.std.specs.Prelude.{codes, if◌then◌else◌, IsSome, IsTrue, AllPairs}
use Rattle.std.specs.List.{AllByRecursion}
use Rattle.std.specs.Str.{bytes_eq}
use Rattle.tg_machine_state.specs.State.{most_words, most_bytes}
use Rattle.tg_isa.specs.declared.mips.Mips.{Mips}
use Rattle.tg_isa.specs.declared.mips.Mips.TheVariants as row
use Rattle.tg_asm_text.specs.declared.keywords.Segment.TheVariants.{Code, Statics as InStatics}
use Rattle.tg_asm_text.specs.Items.{Coded, Fixed, Branch, Jump, Upper, Lower}
use Rattle.tg_asm_text.specs.Writing.{coded_row}
use Rattle.tg_asm_text.specs.Placement.{Position, Positions, AtWord, AtByte, position_of, positions, positions_from, labels_in, code_in, last_byte}
use Rattle.tg_asm_text.specs.Placement.{WordReaches, WordsReach, BranchReaches, JumpReaches, IsSound}
use Rattle.tg_asm_text.specs.Texts as texts
use Rattle.tg_tree.specs.declared.fragments.Literal.{Literal}
use Rattle.tg_emit.specs.declared.assembly.Line.{Line}
use Rattle.tg_emit.specs.declared.assembly.Line.TheVariants.{Label, One, La, Statics}
use Rattle.tg_emit.specs.mirror.Names.{literal_name}
use Rattle.tg_emit.specs.mirror.Lines.{words}
use Rattle.tg_machine_state.specs.State.{padded}
use Rattle.tg_emit_laws.specs.Images.{IsCode, AreCode, written_line, bytes_line, literals_written, statics_written}
use Rattle.std.proofs.lemmas.List.Elements.{recursion_from_All}
use Rattle.tg_emit_laws.proofs.Apart.{names_of, Differ, found, stands_left}
use Rattle.tg_emit_laws.proofs.InstructionLines.{Finds}
use Rattle.tg_emit_laws.proofs.CodeLines.{coded_in, labels_from, given_in, coded_words, code_words, code_positions, code_bytes, code_items, code_labels}
use Rattle.tg_emit_laws.proofs.StaticsLines.{statics_items, statics_code, position_names}
use Rattle.tg_emit_proof.specs.LinesRun.{Place, left, at_zero, behind}
use Rattle.tg_emit_proof.specs.laws.Laws.{written, HasImage}
use Rattle.tg_delay.specs.Filling.{nop, branches, controls, filled}
use Rattle.tg_bare_proof.specs.laws.Laws.{FilledHasImage}
use Rattle.tg_delay_proof.proofs.Filled.{by_filling, with_slots, some_with_slots, behind_filled, moves, stays_controls}

-- what filled lines are made of
filled_code : (lines : List Line) → AreCode lines → AreCode (filled lines)
filled_code lines =
    by_filling (λ ls ms. AreCode ls → AreCode ms) (λ h. tt) (λ name rest h k. (k.0, h k.1)) (λ r n rest h k. (k.0, h k.1))
    (λ bytes rest h k. (k.0, h k.1)) (λ one target rest e h k. (k.0, h k.1))
    (λ one target rest e h k. (k.0, (nop_is_code, h k.1)))
    (λ one target other there rest e h k. (k.1.0, (k.0, h k.1.1))) lines
  where
    no_label : false ≡ true → ⊥
    no_label e = cc

    nop_is_code : IsCode nop
    nop_is_code = ((omega arith, omega arith, omega arith), λ e. absurd (no_label e))

given_filled : (lines : List Line) → given_in (filled lines) ≡ given_in lines
given_filled lines =
    by_filling (λ ls ms. given_in ms ≡ given_in ls) refl (λ name rest h. ap (λ l. name ∷ l) h) (λ r n rest h. h)
    (λ bytes rest h. h) (λ one target rest e h. h) (λ one target rest e h. h)
    (λ one target other there rest e h. h) lines

pub filled_words : (lines : List Line) → (words (filled lines) ≤ 2 * words lines) × (words lines ≤ words (filled lines))
filled_words lines =
    by_filling (λ ls ms. (words ms ≤ 2 * words ls) × (words ls ≤ words ms)) (omega arith, omega arith)
    (λ name rest h. let a = h.0 in let b = h.1 in (omega (arith, a), omega (arith, b)))
    (λ r n rest h. let a = h.0 in let b = h.1 in (omega (arith, a), omega (arith, b)))
    (λ bytes rest h. let a = h.0 in let b = h.1 in (omega (arith, a), omega (arith, b)))
    (λ one target rest e h. let a = h.0 in let b = h.1 in (omega (arith, a), omega (arith, b)))
    (λ one target rest e h. let a = h.0 in let b = h.1 in (omega (arith, a), omega (arith, b)))
    (λ one target other there rest e h. let a = h.0 in let b = h.1 in (omega (arith, a), omega (arith, b))) lines

filled_rows : (P : Coded → Type 0) → P (Fixed (row.Sll 0 0 0)) → (lines : List Line) → AllByRecursion P (coded_in lines) →
    AllByRecursion P (coded_in (filled lines))
filled_rows P none lines =
    by_filling (λ ls ms. AllByRecursion P (coded_in ls) → AllByRecursion P (coded_in ms)) (λ h. tt) (λ name rest h k. h k)
    (λ r n rest h k. (k.0, (k.1.0, h k.1.1))) (λ bytes rest h k. h k) (λ one target rest e h k. (k.0, h k.1))
    (λ one target rest e h k. (k.0, (none, h k.1)))
    (λ one target other there rest e h k. (k.1.0, (k.0, h k.1.1))) lines

-- where labels of the code stand
pub placed_label : (w : ℕ) (ls : List Line) (more : Positions) (name : List ℕ) (rest : List Line) → behind name ls ≡ Some (left rest) →
    (at : ℕ) × (position_of (labels_from w ls ++ more) name ≡ Some (AtWord at)) × (at + words rest ≡ w + words ls)
placed_label w [] more name rest h = cc
placed_label w (Label other ∷ ls) more name rest h = by (bytes_eq name other) h (placed_label w ls more name rest)
  where
    same : (q r : List Line) → Some (left q) ≡ Some (left r) → q ≡ r
    same q r e = cc

    by : (b : Bool) → (if b then Some (left ls) else behind name ls) ≡ Some (left rest) →
        (behind name ls ≡ Some (left rest) →
        (at : ℕ) × (position_of (labels_from w ls ++ more) name ≡ Some (AtWord at)) × (at + words rest ≡ w + words ls)) →
        (at : ℕ) × ((if b then Some (AtWord w) else position_of (labels_from w ls ++ more) name) ≡ Some (AtWord at))
        × (at + words rest ≡ w + (0 + words ls))
    by true e later = let q = ap words (same ls rest e) in (w, refl, omega (arith, q))
    by false e later = let x = later e in let q = x.2 in (x.0, x.1, omega (arith, q))
placed_label w (One one target ∷ ls) more name rest h =
    let x = placed_label (w + 1) ls more name rest h in let q = x.2 in (x.0, x.1, omega (arith, q))
placed_label w (La r other ∷ ls) more name rest h =
    let x = placed_label (w + 2) ls more name rest h in let q = x.2 in (x.0, x.1, omega (arith, q))
placed_label w (Statics bytes ∷ ls) more name rest h =
    let x = placed_label w ls more name rest h in let q = x.2 in (x.0, x.1, omega (arith, q))

pub unplaced : (w : ℕ) (ls : List Line) (more : Positions) (name : List ℕ) → behind name ls ≡ None →
    position_of (labels_from w ls ++ more) name ≡ position_of more name
unplaced w [] more name h = refl
unplaced w (Label other ∷ ls) more name h = by (bytes_eq name other) h (unplaced w ls more name)
  where
    by : (b : Bool) → (if b then Some (left ls) else behind name ls) ≡ None →
        (behind name ls ≡ None → position_of (labels_from w ls ++ more) name ≡ position_of more name) →
        (if b then Some (AtWord w) else position_of (labels_from w ls ++ more) name) ≡ position_of more name
    by true e later = cc
    by false e later = later e
unplaced w (One one target ∷ ls) more name h = unplaced (w + 1) ls more name h
unplaced w (La r other ∷ ls) more name h = unplaced (w + 2) ls more name h
unplaced w (Statics bytes ∷ ls) more name h = unplaced w ls more name h

pub behind_not_zero : (name : List ℕ) (ls : List Line) → behind name ls ≡ Some at_zero → ⊥
behind_not_zero name [] h = cc
behind_not_zero name (Label other ∷ ls) h = by (bytes_eq name other) h (behind_not_zero name ls)
  where
    by : (b : Bool) → (if b then Some (left ls) else behind name ls) ≡ Some at_zero → (behind name ls ≡ Some at_zero → ⊥) → ⊥
    by true e later = cc
    by false e later = later e
behind_not_zero name (One one target ∷ ls) h = behind_not_zero name ls h
behind_not_zero name (La r other ∷ ls) h = behind_not_zero name ls h
behind_not_zero name (Statics bytes ∷ ls) h = behind_not_zero name ls h

-- labels of the statics stand at bytes
abbrev NoWords : Positions → Type 0
NoWords ps = (name : List ℕ) (at : ℕ) → position_of ps name ≡ Some (AtWord at) → ⊥

byte_first : (name : List ℕ) (at : ℕ) (ps : Positions) → NoWords ps → NoWords ((name, AtByte at) ∷ ps)
byte_first other byte ps h name at e = by (bytes_eq name other) e
  where
    by : (b : Bool) → (if b then Some (AtByte byte) else position_of ps name) ≡ Some (AtWord at) → ⊥
    by true e = cc
    by false e = h name at e

literals_at_bytes : (w b : ℕ) (ls : List Literal) → NoWords (positions_from InStatics w b (texts.readings_of (literals_written ls)))
literals_at_bytes w b [] = λ name at e. cc
literals_at_bytes w b (l ∷ ls) = by (padded l.text) (λ v c. literals_at_bytes v c ls)
  where
    by : (bytes : List ℕ) →
        ((v c : ℕ) → NoWords (positions_from InStatics v c (texts.readings_of (literals_written ls)))) →
        NoWords (positions_from InStatics w b (texts.readings_of (texts.Label (literal_name l.label.0) ∷ bytes_line bytes ∷ literals_written ls)))
    by [] later = byte_first _ _ _ (later _ _)
    by (c ∷ bytes) later = byte_first _ _ _ (later _ _)

pub statics_at_bytes : (w : ℕ) (ls : List Literal) → NoWords (positions_from Code w 0 (texts.readings_of (statics_written ls)))
statics_at_bytes w [] = λ name at e. cc
statics_at_bytes w (l ∷ ls) = literals_at_bytes _ _ (l ∷ ls)

pub some_by_names : (ps qs : Positions) (name : List ℕ) → names_of ps ≡ names_of qs → IsSome (position_of ps name) →
    IsSome (position_of qs name)
some_by_names [] [] name e h = h
some_by_names [] (q ∷ qs) name e h = cc
some_by_names (p ∷ ps) [] name e h = cc
some_by_names (p ∷ ps) (q ∷ qs) name e h =
    by (bytes_eq name p.0) (bytes_eq name q.0) (ap (bytes_eq name) first) h (λ k. some_by_names ps qs name rest k)
  where
    first : p.0 ≡ q.0
    first = cc

    rest : names_of ps ≡ names_of qs
    rest = cc

    by : (b c : Bool) → b ≡ c → IsSome (if b then Some p.1 else position_of ps name) →
        (IsSome (position_of ps name) → IsSome (position_of qs name)) →
        IsSome (if c then Some q.1 else position_of qs name)
    by b true f k later = refl
    by true false f k later = cc
    by false false f k later = later k

-- A row's label, wherever the row is: in so many words of code.
abbrev pub IsGood : Positions → ℕ → Coded → Type 0
IsGood ps n (Fixed one) = Unit {0}
IsGood ps n (Branch one label) = (at : ℕ) × (position_of ps label ≡ Some (AtWord at)) × (at ≤ n)
IsGood ps n (Jump one label) = (at : ℕ) × (position_of ps label ≡ Some (AtWord at)) × (at < n)
IsGood ps n (Upper r label) = IsSome (position_of ps label)
IsGood ps n (Lower r label) = IsSome (position_of ps label)

good_reaches : (ps : Positions) (n at : ℕ) (c : Coded) → n ≤ 32000 → at < n → IsGood ps n c → WordReaches ps n at c
good_reaches ps n at (Fixed one) s l h = tt
good_reaches ps n at (Branch one label) s l h =
    let k = h.2 in subst (BranchReaches at) (sym h.1) (omega (arith, k, s), omega (arith, l, s))
good_reaches ps n at (Jump one label) s l h = subst (JumpReaches n) (sym h.1) h.2
good_reaches ps n at (Upper r label) s l h = h
good_reaches ps n at (Lower r label) s l h = h

all_reach : (ps : Positions) (n at : ℕ) (cs : List Coded) → n ≤ 32000 → at + length cs ≤ n → AllByRecursion (IsGood ps n) cs →
    WordsReach ps n at cs
all_reach ps n at [] s l h = tt
all_reach ps n at (c ∷ cs) s l h =
    (good_reaches ps n at c s (omega (arith, l)) h.0, all_reach ps n (at + 1) cs s (omega (arith, l)) h.1)

-- Or each branch is turned round over a jump: its label stands behind that.
abbrev pub IsBehindJump : (around : List ℕ) → List Line → Type 0
IsBehindJump around (One (row.J n) target ∷ Label name ∷ rest) = name ≡ around
IsBehindJump around _ = ⊥

abbrev pub AreTurned : List Line → Type 0
AreTurned [] = Unit {0}
AreTurned (One one around ∷ rest) = (branches one ≡ true → IsBehindJump around rest) × AreTurned rest
AreTurned (line ∷ rest) = AreTurned rest

module _ (ps : Positions) (n : ℕ) where
  pub branch_row : (w : ℕ) (one : Mips) (label : List ℕ) → branches one ≡ true → BranchReaches w (position_of ps label) →
      WordReaches ps n w (coded_row one label)
  branch_row w (row.Beq rs rt k) label b h = h
  branch_row w (row.Bne rs rt k) label b h = h
  branch_row w (row.Blez rs k) label b h = h
  branch_row w (row.Bgtz rs k) label b h = h
  branch_row w (row.Bltz rs k) label b h = h
  branch_row w (row.Bgez rs k) label b h = h
  branch_row w one label b h = cc

  pub plain_row : (w : ℕ) (one : Mips) (label : List ℕ) → branches one ≡ false → IsGood ps n (coded_row one label) →
      WordReaches ps n w (coded_row one label)
  plain_row w (row.Beq rs rt k) label b h = cc
  plain_row w (row.Bne rs rt k) label b h = cc
  plain_row w (row.Blez rs k) label b h = cc
  plain_row w (row.Bgtz rs k) label b h = cc
  plain_row w (row.Bltz rs k) label b h = cc
  plain_row w (row.Bgez rs k) label b h = cc
  plain_row w (row.J k) label b h = subst (JumpReaches n) (sym h.1) h.2
  plain_row w (row.Jal k) label b h = subst (JumpReaches n) (sym h.1) h.2
  plain_row w one label b h = tt

  around_reaches : (w : ℕ) (around : List ℕ) (rest : List Line) → IsBehindJump around rest →
      Finds ps (labels_from (w + 1 + 1) (filled rest)) → BranchReaches w (position_of ps around)
  around_reaches w around (One (row.J k) target ∷ Label name ∷ rest) h finds =
      let e = finds name (AtWord (w + 1 + 1 + 1 + 1)) (inl refl) in
      subst (λ x. BranchReaches w (position_of ps x)) h (subst (BranchReaches w) (sym e) (omega arith, omega arith))
  around_reaches w around rest h finds = absurd h

  -- a row with its slot behind it
  slot_row : (w : ℕ) (one : Mips) (target : List ℕ) (rest : List Line) → (branches one ≡ true → IsBehindJump target rest) →
      IsGood ps n (coded_row one target) → Finds ps (labels_from (w + 1 + 1) (filled rest)) →
      WordReaches ps n w (coded_row one target)
  slot_row w one target rest t g finds = by (branches one) refl
    where
      by : (b : Bool) → branches one ≡ b → WordReaches ps n w (coded_row one target)
      by true e = branch_row w one target e (around_reaches w target rest (t e) finds)
      by false e = plain_row w one target e g

  no_branch : (one : Mips) → controls one ≡ false → branches one ≡ false
  no_branch (row.Beq rs rt k) h = h
  no_branch (row.Bne rs rt k) h = h
  no_branch (row.Blez rs k) h = h
  no_branch (row.Bgtz rs k) h = h
  no_branch (row.Bltz rs k) h = h
  no_branch (row.Bgez rs k) h = h
  no_branch one h = refl

  abbrev Reach : List Line → List Line → Type 0
  Reach xs ms = (w : ℕ) → AreTurned xs → AllByRecursion (IsGood ps n) (coded_in xs) → Finds ps (labels_from w ms) →
      WordsReach ps n w (coded_in ms)

  turned_reach : (lines : List Line) → Reach lines (filled lines)
  turned_reach =
      by_filling Reach (λ w t g f. tt)
      (λ name rest h w t g f. h w t g (λ x p k. f x p (inr k)))
      (λ r name rest h w t g f. (
        g.0,
        (
          g.1.0,
          subst (λ k. WordsReach ps n k (coded_in (filled rest))) (two_on w) (h (w + 2) t g.1.1 f),
        ),
      ))
      (λ bytes rest h w t g f. h w t g f)
      (λ one target rest e h w t g f. (plain_row w one target (no_branch one e) g.0, h (w + 1) t.1 g.1 f))
      (λ one target rest e h w t g f. (slot_row w one target rest t.0 g.0 f, (tt, h (w + 1 + 1) t.1 g.1 f)))
      (λ one target other there rest e h w t g f.
      let m = moves one other e in (
        slot_row w other there rest t.1.0 g.1.0 f,
        (plain_row (w + 1) one target (no_branch one (stays_controls one m.stays_not)) g.0, h (w + 1 + 1) t.1.1 g.1.1 f),
      ))
    where
      two_on : (w : ℕ) → w + 2 ≡ w + 1 + 1
      two_on w = omega arith

pub from_pairs : (xs : List (List ℕ)) → AllPairs (λ a b. a ≢ b) xs → Differ xs
from_pairs [] h = tt
from_pairs (x ∷ xs) h = (
  recursion_from_All (λ y. x ≢ y) xs (λ j d l. h 0 (suc j) d (omega arith) (omega (arith, l))),
  from_pairs xs (λ i j d l k. h (suc i) (suc j) d (omega (arith, l)) (omega (arith, k))),
)

module _ (lines : List Line) (ls : List Literal) (has : HasImage lines ls) (few : words (filled lines) < most_words) where
  code : AreCode (filled lines)
  code = filled_code lines has.code

  abbrev pub statics : List texts.Line
  statics = statics_written ls

  abbrev pub more : ℕ → Positions
  more w = positions_from Code w 0 (texts.readings_of statics)

  abbrev pub old : Positions
  old = labels_from 0 lines ++ more (0 + words lines)

  abbrev new : Positions
  new = labels_from 0 (filled lines) ++ more (0 + words (filled lines))

  pub old_is : positions (texts.readings_of (written lines ls)) ≡ old
  old_is = code_positions 0 0 lines statics has.code

  new_is : positions (texts.readings_of (written (filled lines) ls)) ≡ new
  new_is = code_positions 0 0 (filled lines) statics code

  pub length_of : (xs : List Line) → AreCode xs → code_in (texts.readings_of (written xs ls)) ≡ coded_in xs
  length_of xs c = code_words xs statics c ∙ (ap (λ n. coded_in xs ++ n) (statics_code ls) ∙ append-nil (coded_in xs))

  -- a word of the old code is one of the new
  in_code : (name : List ℕ) (at : ℕ) → position_of old name ≡ Some (AtWord at) →
      (to : ℕ) × (position_of new name ≡ Some (AtWord to)) × (to ≤ words (filled lines))
      × (at < words lines → to < words (filled lines))
  in_code name at h = by (behind name lines) refl
    where
      same : (a b : ℕ) → Some (AtWord a) ≡ Some (AtWord b) → a ≡ b
      same a b e = cc

      by : (o : Option Place) → behind name lines ≡ o →
          (to : ℕ) × (position_of new name ≡ Some (AtWord to)) × (to ≤ words (filled lines))
          × (at < words lines → to < words (filled lines))
      by None e = absurd (statics_at_bytes (0 + words lines) ls name at
          (sym (unplaced 0 lines (more (0 + words lines)) name e) ∙ h))
      by (Some at_zero) e = absurd (behind_not_zero name lines e)
      by (Some (left rest)) e =
          let x = placed_label 0 lines (more (0 + words lines)) name rest e in
          let y = placed_label 0 (filled lines) (more (0 + words (filled lines))) name (filled rest)
          (behind_filled name lines ∙ ap some_with_slots e) in
          let a = same x.0 at (sym x.1 ∙ h) in
          let p = x.2 in
          let q = y.2 in
          let f = (filled_words rest).1 in
          (y.0, y.1, omega (arith, q), λ l. omega (arith, l, a, p, q, f))

  some_there : (name : List ℕ) → IsSome (position_of old name) → IsSome (position_of new name)
  some_there name h = by (behind name lines) refl
    where
      is_some : (p : Position) (o : Option Position) → o ≡ Some p → IsSome o
      is_some p o e = subst (λ (x : Option Position). IsSome x) (sym e) refl

      by : (o : Option Place) → behind name lines ≡ o → IsSome (position_of new name)
      by None e =
          subst (λ (x : Option Position). IsSome x)
          (sym (unplaced 0 (filled lines) (more (0 + words (filled lines))) name (behind_filled name lines ∙ ap some_with_slots e)))
          (some_by_names (more (0 + words lines)) (more (0 + words (filled lines))) name
          (position_names Code (0 + words lines) 0 (texts.readings_of statics)
          ∙ sym (position_names Code (0 + words (filled lines)) 0 (texts.readings_of statics)))
          (subst (λ (x : Option Position). IsSome x) (unplaced 0 lines (more (0 + words lines)) name e) h))
      by (Some at_zero) e = absurd (behind_not_zero name lines e)
      by (Some (left rest)) e =
          let y = placed_label 0 (filled lines) (more (0 + words (filled lines))) name (filled rest)
          (behind_filled name lines ∙ ap some_with_slots e) in
          is_some (AtWord y.0) (position_of new name) y.1

  jump_good : (label : List ℕ) → JumpReaches (words lines) (position_of old label) →
      (at : ℕ) × (position_of new label ≡ Some (AtWord at)) × (at < words (filled lines))
  jump_good label r = by (position_of old label) refl r
    where
      by : (o : Option Position) → position_of old label ≡ o → JumpReaches (words lines) o →
          (at : ℕ) × (position_of new label ≡ Some (AtWord at)) × (at < words (filled lines))
      by None e k = absurd k
      by (Some (AtByte b)) e k = absurd k
      by (Some (AtWord at)) e k = let x = in_code label at e in (x.0, x.1, x.3 k)

  branch_good : (w : ℕ) (label : List ℕ) → BranchReaches w (position_of old label) →
      (at : ℕ) × (position_of new label ≡ Some (AtWord at)) × (at ≤ words (filled lines))
  branch_good w label r = by (position_of old label) refl r
    where
      by : (o : Option Position) → position_of old label ≡ o → BranchReaches w o →
          (at : ℕ) × (position_of new label ≡ Some (AtWord at)) × (at ≤ words (filled lines))
      by None e k = absurd k
      by (Some (AtByte b)) e k = absurd k
      by (Some (AtWord at)) e k = let x = in_code label at e in (x.0, x.1, x.2)

  good : (w : ℕ) (c : Coded) → WordReaches old (words lines) w c → IsGood new (words (filled lines)) c
  good w (Fixed one) h = tt
  good w (Branch one label) h = branch_good w label h
  good w (Jump one label) h = jump_good label h
  good w (Upper r label) h = some_there label h
  good w (Lower r label) h = some_there label h

  all_good : (w : ℕ) (cs : List Coded) → WordsReach old (words lines) w cs → AllByRecursion (IsGood new (words (filled lines))) cs
  all_good w [] h = tt
  all_good w (c ∷ cs) h = (good w c h.0, all_good (w + 1) cs h.1)

  pub old_reach : WordsReach old (words lines) 0 (coded_in lines)
  old_reach =
      subst (λ n. WordsReach old n 0 (coded_in lines)) (ap (λ (cs : List Coded). length cs) (length_of lines has.code) ∙ coded_words lines)
      (subst (λ ps. WordsReach ps (length (code_in (texts.readings_of (written lines ls)))) 0 (coded_in lines)) old_is
      (subst (λ cs. WordsReach (positions (texts.readings_of (written lines ls)))
      (length (code_in (texts.readings_of (written lines ls)))) 0 cs) (length_of lines has.code) has.sound.words_reach))

  abbrev Reaches : Type 0
  Reaches = WordsReach new (words (filled lines)) 0 (coded_in (filled lines))

  near_reach : words (filled lines) ≤ 32000 → Reaches
  near_reach short =
      let n = coded_words (filled lines) in
      all_reach new (words (filled lines)) 0 (coded_in (filled lines)) short (omega (arith, n))
      (filled_rows (IsGood new (words (filled lines))) tt lines (all_good 0 (coded_in lines) old_reach))

  new_length : length (code_in (texts.readings_of (written (filled lines) ls))) ≡ words (filled lines)
  new_length = ap (λ (cs : List Coded). length cs) (length_of (filled lines) code) ∙ coded_words (filled lines)

  labels_same : labels_in (texts.readings_of (written (filled lines) ls)) ≡ labels_in (texts.readings_of (written lines ls))
  labels_same =
      code_labels (filled lines) statics code
      ∙ (ap (λ n. n ++ labels_in (texts.readings_of statics)) (given_filled lines) ∙ sym (code_labels lines statics has.code))

  bytes_same : last_byte 0 (texts.readings_of (written (filled lines) ls)) ≡ last_byte 0 (texts.readings_of (written lines ls))
  bytes_same = code_bytes 0 (filled lines) statics code ∙ sym (code_bytes 0 lines statics has.code)

  pub main_good : JumpReaches (words lines) (position_of old (codes "main"))
  main_good =
      subst (λ n. JumpReaches n (position_of old (codes "main")))
      (ap (λ (cs : List Coded). length cs) (length_of lines has.code) ∙ coded_words lines)
      (subst (λ ps. JumpReaches (length (code_in (texts.readings_of (written lines ls)))) (position_of ps (codes "main"))) old_is
      has.sound.main_stands)

  names_differ : Differ (names_of new)
  names_differ =
      subst (λ qs. Differ (names_of qs)) new_is
      (subst Differ (sym (position_names Code 0 0 (texts.readings_of (written (filled lines) ls))))
      (from_pairs _ (subst (λ xs. AllPairs (λ a b. a ≢ b) xs) (sym labels_same) has.sound.labels_differ)))

  far_reach : AreTurned lines → Reaches
  far_reach turned =
      turned_reach new (words (filled lines)) lines 0 turned (all_good 0 (coded_in lines) old_reach)
      (λ name p h. found new name p names_differ
      (stands_left (labels_from 0 (filled lines)) (more (0 + words (filled lines))) name p h))

  reached_has_image : Reaches → HasImage (filled lines) ls
  reached_has_image new_reach = record {
    code = code;
    literals = has.literals;
    sound = record {
      labels_differ = subst (λ xs. AllPairs (λ a b. a ≢ b) xs) (sym labels_same) has.sound.labels_differ;
      code_fits = (let n = new_length in omega (arith, n, few));
      statics_fit = subst (λ n. n ≤ most_bytes) (sym bytes_same) has.sound.statics_fit;
      words_reach =
          subst (λ n. WordsReach (positions (texts.readings_of (written (filled lines) ls))) n 0
          (code_in (texts.readings_of (written (filled lines) ls)))) (sym new_length)
          (subst (λ cs. WordsReach (positions (texts.readings_of (written (filled lines) ls))) (words (filled lines)) 0 cs)
          (sym (length_of (filled lines) code))
          (subst (λ ps. WordsReach ps (words (filled lines)) 0 (coded_in (filled lines))) (sym new_is) new_reach));
      items_stand = (
        tt,
        (
          tt,
          code_items (positions (texts.readings_of (written (filled lines) ls))) (filled lines) statics code
              (statics_items (positions (texts.readings_of (written (filled lines) ls))) ls),
        ),
      );
      main_stands =
          subst (λ n. JumpReaches n (position_of (positions (texts.readings_of (written (filled lines) ls))) (codes "main")))
          (sym new_length)
          (subst (λ ps. JumpReaches (words (filled lines)) (position_of ps (codes "main"))) (sym new_is)
          (let x = jump_good (codes "main") main_good in subst (JumpReaches (words (filled lines))) (sym x.1) x.2));
    };
    short = few;
  }

pub filled_has_image : FilledHasImage
filled_has_image lines ls has short =
    reached_has_image lines ls has (omega (arith, short)) (near_reach lines ls has (omega (arith, short)) short)

pub turned_has_image : (lines : List Line) (ls : List Literal) → HasImage lines ls → AreTurned lines →
    words (filled lines) < most_words → HasImage (filled lines) ls
turned_has_image lines ls has turned few = reached_has_image lines ls has few (far_reach lines ls has few turned)
