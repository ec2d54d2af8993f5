-- Where functions and their marks stand in the lines, by labels alone.
use Rattle.std.proofs.Common.{ℕ, zero, suc, ◌≡◌, ◌≢◌, ◌<◌, ◌+◌, ◌==◌, List, [], ◌∷◌, ◌++◌, length, refl, ap, sym, ◌∙◌}
use Rattle.std.proofs.Common.{subst, arith, eqb-true, append_assoc, Bool, true, false, Some}
use Rattle.std.specs.Prelude.{if◌then◌else◌, slice_index_or}
use Rattle.std.specs.List.{AllByRecursion}
use Rattle.std.specs.Str.{bytes_eq}
use Rattle.std.proofs.lemmas.Slice.Eq.{bytes_eq-Decides}
use Rattle.tg_instr.specs.declared.instr.Instr.{Instr}
use Rattle.tg_instr.specs.declared.instr.Instr.TheVariants.{Mark}
use Rattle.tg_instr.specs.declared.codes.Allocated.{Allocated}
use Rattle.tg_instr.specs.Running as code
use Rattle.tg_isa.specs.declared.mips.Mips.TheVariants as row
use Rattle.tg_emit.specs.declared.assembly.Line.{Line}
use Rattle.tg_emit.specs.declared.assembly.Line.TheVariants.{Label, One, La, Statics}
use Rattle.tg_emit.specs.mirror.Names.{function_name, mark_name}
use Rattle.tg_emit.specs.mirror.Lines.{alone, lowered, size_of, instruction_lines, code_lines, function_lines}
use Rattle.tg_emit.specs.mirror.Lines.{functions_lines}
use Rattle.tg_emit_laws.proofs.Apart.{Differ}
use Rattle.tg_emit_laws.proofs.CodeLines.{given_in, given_append}
use Rattle.tg_emit_proof.specs.LinesRun.{behind, left}
use Rattle.tg_emit_proof.specs.Setting.{Setting, later}
use Rattle.tg_emit_proof.specs.laws.Emission.{function_over}
use Rattle.tg_emit_proof.specs.glue.Standing.{FunctionStands}
use Rattle.tg_emit_proof.proofs.Basics.{some_is}

-- A label leads to what comes after the first line that gives it.
pub behind_there : (xs ys : List Line) (name : List ℕ) → AllByRecursion (λ x. name ≢ x) (given_in xs) →
    behind name (xs ++ Label name ∷ ys) ≡ Some (left ys)
behind_there [] ys name h = let t : bytes_eq name name ≡ true = (bytes_eq-Decides name name).1 refl in rw t refl
behind_there (Label other ∷ xs) ys name h = by (bytes_eq name other) refl (behind_there xs ys name h.1)
  where
    by : (b : Bool) → bytes_eq name other ≡ b → behind name (xs ++ Label name ∷ ys) ≡ Some (left ys) →
        (if b then Some (left (xs ++ Label name ∷ ys)) else behind name (xs ++ Label name ∷ ys)) ≡ Some (left ys)
    by true e later = absurd (h.0 ((bytes_eq-Decides name other).0 e))
    by false e later = later
behind_there (One one target ∷ xs) ys name h = behind_there xs ys name h
behind_there (La r other ∷ xs) ys name h = behind_there xs ys name h
behind_there (Statics bytes ∷ xs) ys name h = behind_there xs ys name h

-- where labels differ, each leads to what comes after it
front_differs : (xs ys : List (List ℕ)) (name : List ℕ) → Differ (xs ++ name ∷ ys) → AllByRecursion (λ x. name ≢ x) xs
front_differs [] ys name h = tt
front_differs (x ∷ xs) ys name h = ((λ e. among xs h.0 (sym e)), front_differs xs ys name h.1)
  where
    among : (zs : List (List ℕ)) → AllByRecursion (λ y. x ≢ y) (zs ++ name ∷ ys) → x ≢ name
    among [] a = a.0
    among (z ∷ zs) a = among zs a.1

pub label_leads : (all xs ys : List Line) (name : List ℕ) → all ≡ xs ++ Label name ∷ ys → Differ (given_in all) →
    behind name all ≡ Some (left ys)
label_leads all xs ys name e h =
    ap (behind name) e
    ∙ behind_there xs ys name (front_differs (given_in xs) (given_in ys) name
    (subst Differ (given_append xs (Label name ∷ ys)) (subst (λ l. Differ (given_in l)) e h)))

-- a function among others
pub record IsIn (all : List Line) (mine : List Line) : Type 0 where
  pub before : List Line
  pub after : List Line
  pub whole : all ≡ before ++ (mine ++ after)

in_lines : (turned : Bool) (f : Allocated) (fs : List Allocated) (k : ℕ) → k < length fs → slice_index_or fs k f ≡ f →
    IsIn (functions_lines turned fs) (function_lines turned f)
in_lines turned f [] k h e = absurd (omega (arith, h))
in_lines turned f (g ∷ fs) zero h e =
    record {
      before = [];
      after = functions_lines turned fs;
      whole =
          ap (λ i. function_lines turned i ++ functions_lines turned fs) e;
    }
in_lines turned f (g ∷ fs) (suc k) h e =
    let t = in_lines turned f fs k (omega (arith, h)) e in
    record {
      before = function_lines turned g ++ t.before;
      after = t.after;
      whole = ap (λ l. function_lines turned g ++ l) t.whole
          ∙ sym (append_assoc (function_lines turned g) t.before (function_lines turned f ++ t.after));
    }

-- a mark in the code of a function
record IsMarked (turned : Bool) (label size m : ℕ) (all : List Line) (rest : List Instr) : Type 0 where
  place : ℕ
  front : List Line
  whole : all ≡ front ++ Label (mark_name label m) ∷ code_lines turned label size place rest

behind_one : (turned : Bool) (label size place m : ℕ) (one : Instr) (more rest : List Instr) →
    IsMarked turned label size m (code_lines turned label size (place + 1) more) rest →
    IsMarked turned label size m (code_lines turned label size place (one ∷ more)) rest
behind_one turned label size place m one more rest t = record {
  place = t.place;
  front = instruction_lines turned label size place one ++ t.front;
  whole = ap (λ l. instruction_lines turned label size place one ++ l) t.whole
      ∙ sym (append_assoc (instruction_lines turned label size place one) t.front
      (Label (mark_name label m) ∷ code_lines turned label size t.place rest));
}

marked : (turned : Bool) (label size place m : ℕ) (list rest : List Instr) → code.behind m list ≡ Some rest →
    IsMarked turned label size m (code_lines turned label size place list) rest
marked turned label size place m [] rest h = cc
marked turned label size place m (Mark k ∷ more) rest h =
    by (k == m) refl h (λ l. behind_one turned label size place m (Mark k) more rest
    (marked turned label size (place + 1) m more rest l))
  where
    by : (b : Bool) → (k == m) ≡ b → (if b then Some more else code.behind m more) ≡ Some rest →
        (code.behind m more ≡ Some rest →
        IsMarked turned label size m (code_lines turned label size place (Mark k ∷ more)) rest) →
        IsMarked turned label size m (code_lines turned label size place (Mark k ∷ more)) rest
    by true e l later = record {
      place = place + 1;
      front = [];
      whole = ap (λ j. Label (mark_name label j) ∷ code_lines turned label size (place + 1) more) (eqb-true k m e)
          ∙ ap (λ x. Label (mark_name label m) ∷ code_lines turned label size (place + 1) x) (some_is more rest l);
    }
    by false e l later = later l
marked turned label size place m (one ∷ more) rest h =
    behind_one turned label size place m one more rest (marked turned label size (place + 1) m more rest h)

module _ (g : Setting) (fs : List Allocated) (lines_are : g.lines ≡ functions_lines g.turned fs) (f : Allocated) where
  abbrev all : List Line
  all = functions_lines g.turned fs

  abbrev label : ℕ
  label = f.frame.label.0

  abbrev body : List Line
  body = code_lines g.turned label (size_of f.frame) 0 f.code.list

  abbrev opening : List Line
  opening = lowered (size_of f.frame) ++ alone (row.Lw 0 0 29) ∷ []

  joined : (before after : List Line) → before ++ (function_lines g.turned f ++ after)
      ≡ (before ++ Label (function_name label) ∷ opening) ++ (body ++ after)
  joined before after =
      ap (λ l. before ++ Label (function_name label) ∷ l) (append_assoc opening body after)
      ∙ sym (append_assoc before (Label (function_name label) ∷ opening) (body ++ after))

  pub function_stands : (k : ℕ) → k < length fs → slice_index_or fs k f ≡ f → g.size label ≡ size_of f.frame →
      Differ (given_in all) → FunctionStands g (function_over f)
  function_stands k h e s differ =
      let t = in_lines g.turned f fs k h e in
      let opened : opening ++ (body ++ t.after)
      ≡ lowered (size_of f.frame) ++ alone (row.Lw 0 0 29) ∷ (body ++ t.after) =
      append_assoc (lowered (size_of f.frame)) (alone (row.Lw 0 0 29) ∷ []) (body ++ t.after) in
      let first : all ≡ t.before ++ Label (function_name label) ∷ (opening ++ (body ++ t.after)) =
      t.whole ∙ ap (λ l. t.before ++ Label (function_name label) ∷ l) (append_assoc opening body t.after) in
      record {
        before = t.before ++ Label (function_name label) ∷ opening;
        after = t.after;
        whole = rw s (lines_are ∙ (t.whole ∙ joined t.before t.after));
        entered = rw s (ap (behind (function_name label)) lines_are
            ∙ (label_leads all t.before (opening ++ (body ++ t.after)) (function_name label) first differ
            ∙ ap (λ l. Some (left l)) opened));
        marks = λ m rest b.
            let q = marked g.turned label (size_of f.frame) 0 m f.code.list rest b in
            let before' = t.before ++ Label (function_name label) ∷ opening in
            let tail = code_lines g.turned label (size_of f.frame) q.place rest in
            let here : all ≡ (before' ++ q.front) ++ Label (mark_name label m) ∷ (tail ++ t.after) =
            t.whole ∙ (joined t.before t.after ∙ (ap (λ l. before' ++ (l ++ t.after)) q.whole
            ∙ (ap (λ l. before' ++ l) (append_assoc q.front (Label (mark_name label m) ∷ tail) t.after)
            ∙ sym (append_assoc before' q.front (Label (mark_name label m) ∷ (tail ++ t.after)))))) in (
              q.place,
              rw s (ap (behind (mark_name label m)) lines_are
                  ∙ label_leads all (before' ++ q.front) (tail ++ t.after) (mark_name label m) here differ),
            );
      }
