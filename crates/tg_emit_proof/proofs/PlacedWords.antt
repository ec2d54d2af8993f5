-- The words of lines stand at their places in the image, and labels and calls lead to them.
use Rattle.std.proofs.Common.{ℕ, suc, ◌≡◌, ◌≢◌, ◌<◌, ◌+◌, ◌==◌, List, [], ◌∷◌, ◌++◌, length, refl, ap, sym, ◌∙◌}
use Rattle.std.proofs.Common.{subst, arith, eqb-true, Bool, true, false, Option, Some, None, ◌^◌}
use Rattle.std.proofs.Common.{append_assoc, append-nil}
use Rattle.std.proofs.lemmas.Bool.Decides.{nat_tests}
use Rattle.std.proofs.lemmas.Grind.{common_steps}
use Rattle.std.proofs.Math.Seq.{get_or-append_seam}
use Rattle.std.specs.Prelude.{if◌then◌else◌, slice_index, codes}
use Rattle.std.specs.Str.{bytes_eq}
use Rattle.tg_machine_state.specs.State.{statics_base, initial_machine}
use Rattle.tg_simulation.specs.Ran.{Wrong}
use Rattle.tg_isa.specs.declared.mips.Mips.{Mips}
use Rattle.tg_isa.specs.declared.mips.Mips.TheVariants as row
use Rattle.tg_asm_text.specs.declared.keywords.Segment.TheVariants.{Code}
use Rattle.tg_asm_text.specs.Items.{Coded, Upper, Lower}
use Rattle.tg_asm_text.specs.Writing.{coded_row}
use Rattle.tg_asm_text.specs.Assembly.{Assembled}
use Rattle.tg_asm_text.specs.Placement.{Positions, AtWord, position_of, positions, positions_from, placed_word}
use Rattle.tg_asm_text.specs.Placement.{placed_words, WordsReach, found_address, image_of, code_in}
use Rattle.tg_asm_text.specs.Texts as texts
use Rattle.tg_isa.specs.ImageRuns.{machine_run}
use Rattle.tg_tree.specs.declared.fragments.Literal.{Literal}
use Rattle.tg_emit.specs.declared.assembly.Line.{Line}
use Rattle.tg_emit.specs.declared.assembly.Line.TheVariants.{Label, One, La, Statics}
use Rattle.tg_emit.specs.mirror.Lines.{words}
use Rattle.tg_emit_laws.specs.Images.{statics_written, AreCode}
use Rattle.tg_emit_laws.proofs.CodeLines.{coded_in, labels_from, coded_words, code_words, code_positions}
use Rattle.tg_emit_laws.proofs.StaticsLines.{statics_code}
use Rattle.tg_emit_proof.specs.LinesRun.{Place, left, Returns, calls, behind, behind_call, address_from, statics_of}
use Rattle.tg_emit_proof.specs.LinesRun.{lines_run, going_from}
use Rattle.tg_emit_proof.specs.laws.Laws.{word_behind, returns_in, written, HasImage}
use Rattle.tg_isa.specs.laws.Anywhere.{on}
use Rattle.tg_emit_proof.proofs.Fetching.{place_at}
use Rattle.tg_emit_proof.proofs.Machine.{IsWord, ComesBack, StandAt, IsAt, Stands, runs}

not_same : (n : ℕ) → (n == n) ≡ true
not_same n = grind (arith, nat_tests)

more_calls : (n k : ℕ) → k < n → (n == k) ≡ false
more_calls n k h = grind (arith, nat_tests, h)

module _ (code : List ℕ) (ps : Positions) (returns : Returns) where
  -- the words after calls are those of the lines, from a word on
  abbrev ComeBack : (at : ℕ) → List Line → Type 0
  ComeBack at ls = (k : ℕ) → k < calls ls → returns k ≡ place_at (word_behind at ls k)

  first_back : (at : ℕ) (one : Mips) (target : List ℕ) (rest : List Line) → ComeBack at (One one target ∷ rest) →
      ComesBack code ps returns at one rest
  first_back at (row.Jal n) target rest h =
      let e = h (calls rest) (omega arith) in
      e ∙ ap (λ b. place_at (if b then at + 1 else word_behind (at + 1) rest (calls rest))) (not_same (calls rest))
  first_back at one target rest h = tt

  rest_back : (at : ℕ) (one : Mips) (target : List ℕ) (rest : List Line) → ComeBack at (One one target ∷ rest) →
      ComeBack (at + 1) rest
  rest_back at (row.Jal n) target rest h k l =
      h k (omega (arith, l)) ∙ ap (λ b. place_at (if b then at + 1 else word_behind (at + 1) rest k))
      (more_calls (calls rest) k l)
  rest_back at one target rest h k l = h k l

  -- a word after others
  word_there : (front : List ℕ) (w : ℕ) (more : List ℕ) (at : ℕ) → code ≡ front ++ w ∷ more → length front ≡ at →
      slice_index code at ≡ w
  word_there front w more at e n = rw (e, ← n) (get_or-append_seam front w more 0)

  is_below : (front : List ℕ) (w : ℕ) (more : List ℕ) (at : ℕ) → code ≡ front ++ w ∷ more → length front ≡ at →
      at < length code
  is_below front w more at e n = rw e (grind (arith, common_steps, n))

  next_front : (front : List ℕ) (w : ℕ) (more : List ℕ) → code ≡ front ++ w ∷ more → code ≡ (front ++ w ∷ []) ++ more
  next_front front w more e = e ∙ sym (append_assoc front (w ∷ []) more)

  longer : (front : List ℕ) (w at : ℕ) → length front ≡ at → length (front ++ w ∷ []) ≡ at + 1
  longer front w at n = grind (arith, common_steps, n)

  word_of_lines : (front : List ℕ) (at : ℕ) (c : Coded) (cs : List Coded) →
      code ≡ front ++ placed_words ps at (c ∷ cs) → length front ≡ at →
      WordsReach ps (length code) at (c ∷ cs) → IsWord code ps returns at c
  word_of_lines front at c cs e n r = record {
    below = is_below front (placed_word ps at c) (placed_words ps (at + 1) cs) at e n;
    is = word_there front (placed_word ps at c) (placed_words ps (at + 1) cs) at e n;
    reaches = r.0;
  }

  pub stand : (front : List ℕ) (at : ℕ) (ls : List Line) → AreCode ls →
      code ≡ front ++ placed_words ps at (coded_in ls) → length front ≡ at →
      WordsReach ps (length code) at (coded_in ls) → ComeBack at ls → StandAt code ps returns at ls
  stand front at [] c e n r b = tt
  stand front at (Label name ∷ ls) c e n r b =
      let z : at + 0 ≡ at = omega arith in
      stand front at ls c.1 e n r (λ k l. subst (λ m. returns k ≡ place_at (word_behind m ls k)) z (b k l))
  stand front at (One one target ∷ ls) c e n r b =
      let w = placed_word ps at (coded_row one target) in
      let more = placed_words ps (at + 1) (coded_in ls) in (
        word_of_lines front at (coded_row one target) (coded_in ls) e n r,
        (
          c.0.0,
          (
            first_back at one target ls b,
            stand (front ++ w ∷ []) (at + 1) ls c.1 (next_front front w more e) (longer front w at n) r.1
                (rest_back at one target ls b),
          ),
        ),
      )
  stand front at (La r name ∷ ls) c e n reach b =
      let w = placed_word ps at (Upper r name) in
      let v = placed_word ps (at + 1) (Lower r name) in
      let more = placed_words ps (at + 1 + 1) (coded_in ls) in
      let e1 = next_front front w (v ∷ more) e in
      let n1 = longer front w at n in
      let both : at + 1 + 1 ≡ at + 2 = omega arith in (
        word_of_lines front at (Upper r name) (Lower r name ∷ coded_in ls) e n reach,
        (
          word_of_lines (front ++ w ∷ []) (at + 1) (Lower r name) (coded_in ls) e1 n1 reach.1,
          (
            c.0.0,
            subst (λ m. StandAt code ps returns m ls) both
                (stand ((front ++ w ∷ []) ++ v ∷ []) (at + 1 + 1) ls c.1 (next_front (front ++ w ∷ []) v more e1)
                (longer (front ++ w ∷ []) v (at + 1) n1) reach.1.1
                (λ k l. subst (λ m. returns k ≡ place_at (word_behind m ls k)) (sym both) (b k l))),
          ),
        ),
      )
  stand front at (Statics bytes ∷ ls) c e n r b = absurd c.0

  abbrev IsSomeAt : (place : ℕ) → Option Place → Type 0
  IsSomeAt place (Some q) = IsAt code ps returns q place
  IsSomeAt place None = Unit {0}

  -- labels lead to the words at which they stand
  pub labelled : (at : ℕ) (ls : List Line) (more : Positions) (name : List ℕ) (p : Place) →
      StandAt code ps returns at ls → behind name ls ≡ Some p →
      (word : ℕ) × (position_of (labels_from at ls ++ more) name ≡ Some (AtWord word))
      × IsAt code ps returns p (place_at word)
  labelled at [] more name p s h = cc
  labelled at (Label other ∷ ls) more name p s h = by (bytes_eq name other) h (labelled at ls more name p s)
    where
      by :
          (b : Bool) → (if b then Some (left ls) else behind name ls) ≡ Some p →
          (behind name ls ≡ Some p →
          (word : ℕ) × (position_of (labels_from at ls ++ more) name ≡ Some (AtWord word))
          × IsAt code ps returns p (place_at word)) →
          (word : ℕ) × ((if b then Some (AtWord at) else position_of (labels_from at ls ++ more) name)
          ≡ Some (AtWord word))
          × IsAt code ps returns p (place_at word)
      by true e later = (at, refl, subst (IsSomeAt (place_at at)) e (record { at = at; is = refl; stands = s }))
      by false e later = later e
  labelled at (One one target ∷ ls) more name p s h = labelled (at + 1) ls more name p s.1.1.1 h
  labelled at (La r other ∷ ls) more name p s h = labelled (at + 2) ls more name p s.1.1.1 h
  labelled at (Statics bytes ∷ ls) more name p s h = labelled at ls more name p s h

  -- and words after calls to what is there
  pub called : (at : ℕ) (ls : List Line) (v : ℕ) (p : Place) → StandAt code ps returns at ls →
      behind_call returns v ls ≡ Some p →
      IsAt code ps returns p v
  called at [] v p s h = cc
  called at (Label other ∷ ls) v p s h = called at ls v p s h
  called at (La r other ∷ ls) v p s h = called (at + 2) ls v p s.1.1.1 h
  called at (Statics bytes ∷ ls) v p s h = called at ls v p s h
  called at (One (row.Jal n) target ∷ ls) v p s h =
      by (returns (calls ls) == v) refl h (called (at + 1) ls v p s.1.1.1)
    where
      by :
          (b : Bool) → (returns (calls ls) == v) ≡ b → (if b then Some (left ls) else behind_call returns v ls)
          ≡ Some p →
          (behind_call returns v ls ≡ Some p → IsAt code ps returns p v) → IsAt code ps returns p v
      by true z e later =
          subst (IsSomeAt v) e
          (record { at = at + 1; is = sym (eqb-true (returns (calls ls)) v z) ∙ s.1.1.0; stands = s.1.1.1 })
      by false z e later = later e
  called at (One one target ∷ ls) v p s h = called (at + 1) ls v p s.1.1.1 h

-- What the statics of an image are, of literals.
pub record StaticsAre (lines : List Line) (ls : List Literal) : Type 0 where
  pub bytes : (image_of (texts.readings_of (written lines ls))).statics ≡ statics_of ls
  pub addresses : (name : List ℕ) (a : ℕ) → address_from statics_base name ls ≡ Some a →
      (found_address (position_of (positions (texts.readings_of (written lines ls))) name) ≡ a) × (a < 2 ^ 32)

module _ (lines : List Line) (ls : List Literal) (has : HasImage lines ls) where
  abbrev pub read : List texts.Line
  read = written lines ls

  abbrev pub image : Assembled
  image = image_of (texts.readings_of read)

  abbrev pub labels : Positions
  labels = positions (texts.readings_of read)

  code_is : code_in (texts.readings_of read) ≡ coded_in lines
  code_is = code_words lines (statics_written ls) has.code
      ∙ (ap (λ n. coded_in lines ++ n) (statics_code ls) ∙ append-nil (coded_in lines))

  image_code : image.code ≡ placed_words labels 0 (coded_in lines)
  image_code = ap (placed_words labels 0) code_is

  placed_length : (at : ℕ) (cs : List Coded) → length (placed_words labels at cs) ≡ length cs
  placed_length at [] = refl
  placed_length at (c ∷ cs) = ap suc (placed_length (at + 1) cs)

  length_is : length image.code ≡ words lines
  length_is = ap length image_code ∙ (placed_length 0 (coded_in lines) ∙ coded_words lines)

  abbrev more : Positions
  more = positions_from Code (0 + words lines) 0 (texts.readings_of (statics_written ls))

  labels_are : labels ≡ labels_from 0 lines ++ more
  labels_are = code_positions 0 0 lines (statics_written ls) has.code

  pub lines_stand : StandAt image.code labels (returns_in lines) 0 lines
  lines_stand =
      stand image.code labels (returns_in lines) [] 0 lines has.code image_code refl
      (subst (λ n. WordsReach labels n 0 (coded_in lines)) (sym (placed_length 0 (code_in (texts.readings_of read))))
      (subst (λ cs. WordsReach labels (length (code_in (texts.readings_of read))) 0 cs) code_is
      has.sound.words_reach))
      (λ k l. refl)

  pub all_stands : StaticsAre lines ls → Stands image.code labels (returns_in lines) lines ls
  all_stands statics =
      let short = has.short in
      let n = length_is in
      record {
        short = omega (arith, short, n);
        labels = λ name p h. subst (λ qs. (word : ℕ) × (position_of qs name ≡ Some (AtWord word))
            × IsAt image.code labels (returns_in lines) p (place_at word))
            (sym labels_are) (labelled image.code labels (returns_in lines) 0 lines more name p lines_stand h);
        calls = λ v p h. called image.code labels (returns_in lines) 0 lines v p lines_stand h;
        addresses = statics.addresses;
      }

  -- the machine's run of the image is the lines' run
  pub lines_run_there : StaticsAre lines ls → (input : List ℕ) (heap stack n : ℕ) →
      (lines_run (returns_in lines) lines ls input heap stack n).stop ≢ Wrong →
      machine_run (initial_machine image.code image.statics image.entry heap stack) input n
      ≡ lines_run (returns_in lines) lines ls input heap stack n
  lines_run_there statics input heap stack n right =
      ap (λ bytes. machine_run (initial_machine image.code bytes image.entry heap stack) input n) statics.bytes
      ∙ by (behind (codes "main") lines) refl right
    where
      by : (o : Option Place) → behind (codes "main") lines ≡ o →
          (going_from (returns_in lines) lines ls o (initial_machine [] (statics_of ls) 0 heap stack) input n).stop ≢ Wrong →
          machine_run (initial_machine image.code (statics_of ls) image.entry heap stack) input n
          ≡ going_from (returns_in lines) lines ls o (initial_machine [] (statics_of ls) 0 heap stack) input n
      by None e r = absurd (r refl)
      by (Some p) e r =
          let l = (all_stands statics).labels (codes "main") p e in
          ap (λ place. machine_run (on image.code place (initial_machine [] (statics_of ls) 0 heap stack)) input n)
          (ap found_address l.1)
          ∙ runs image.code labels (returns_in lines) lines ls (all_stands statics) n p (place_at l.0)
          (initial_machine [] (statics_of ls) 0 heap stack) input l.2 r
