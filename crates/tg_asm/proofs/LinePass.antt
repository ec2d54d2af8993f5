-- Lines are laid out one by one.
use Rattle.std.proofs.Common.{◌≡◌, ◌<◌, ◌≤◌, ◌+◌, ℕ, List, [], ◌∷◌, ◌++◌, length, map, Bool, true, false, cond, Option, Some, None, Result, Ok, Err, refl, sym, ap, subst, ◌∙◌, append_assoc, append-nil, arith}
use Rattle.std.proofs.lemmas.List.{map-append}
use Rattle.std.specs.Prelude.{MatchOption}
use Rattle.std.specs.Borrow.{Bor}
use Rattle.tg_asm_text.specs.declared.keywords.AsmRule.{AsmRule}
use Rattle.tg_asm_text.specs.declared.keywords.AsmRule.TheVariants.{A4, A8}
use Rattle.tg_asm_text.specs.Lines.{lines}
use Rattle.tg_asm_text.specs.Items.{Item, Nothing, Section, Words, Data'}
use Rattle.tg_asm_text.specs.Assembly.{Layout, Reading, spot_among, Fault, blank, reading, add_label, add_item, add_reading, add_line, layout}
use Rattle.tg_asm.specs.glue.Entries.{AreFirst, Finds, Lined, Rises, unlined, first_again}
use Rattle.tg_asm.specs.glue.Layouts.{IsLaidOut, IsSmall, TellsAgain, lined_at, lined_of_reading, lined_of_line, put_labels, put_reading, put_line, told}
use Rattle.tg_asm.proofs.LayoutLoops.{or_later, labels_by, first_again-append, labels_told, again_here}

-- what is left to lay out after a line
abbrev behind : ℕ → Result Layout AsmRule → List (List ℕ) → Result Layout Fault
behind n (Ok m) more = layout (n + 1) m more
behind n (Err e) more = Err (record { rule = e; line = n })

onward : (n : ℕ) (l : Layout) (line : List ℕ) (more : List (List ℕ)) → layout n l (line ∷ more) ≡ behind n (add_line l line) more
onward n l line more = by (add_line l line) refl
  where
    by : (r : Result Layout AsmRule) → add_line l line ≡ r → layout n l (line ∷ more) ≡ behind n (add_line l line) more
    by (Ok m) e = rw (e, layout) refl
    by (Err r) e = rw (e, layout) refl

reading_told : (n : ℕ) (l : Layout) (more : List (List ℕ)) (r : Result Reading AsmRule) →
    behind n (add_reading l r) more ≡ told (first_again l.labels (lined_of_reading n l r)) (behind n (put_reading l r) more)
reading_told n l more (Err e) = refl
reading_told n l more (Ok r) = by (first_again l.labels (map (lined_at n l) r.labels)) refl
  where
    by : (o : Option ℕ) → first_again l.labels (map (lined_at n l) r.labels) ≡ o →
        behind n (add_reading l (Ok r)) more ≡ told (first_again l.labels (map (lined_at n l) r.labels)) (behind n (put_reading l (Ok r)) more)
    by None e = let t = labels_told n r.labels l ∙ ap (λ o. labels_by o (put_labels l r.labels)) e in rw e (rw t refl)
    by (Some m) e =
        let t = labels_told n r.labels l ∙ ap (λ o. labels_by o (put_labels l r.labels)) e in
        let here = again_here n m r.labels l l.labels e in
        rw e (rw t (ap (λ k. Err (record { rule = A4; line = k })) (sym here)))

-- lines that rise from a number rise from a lower one
pub lower : (k n : ℕ) (es : List Lined) → k ≤ n → Rises n es → Rises k es
lower k n [] h r = tt
lower k n (e ∷ es) h r = let b = r.0 in (omega (arith, h, b), r.1)

told_later : (o p : Option ℕ) (r : Result Layout Fault) → told o (told p r) ≡ told (or_later o p) r
told_later None p r = refl
told_later (Some n) p r = refl

pub record LaidOut (text rest : List ℕ) (es : List Lined) (l : Layout) (n : ℕ) : Type 0 where
  pub same : layout 1 blank (lines text) ≡ told (first_again [] es) (layout n l (lines rest))
  pub labels : l.labels ≡ unlined es
  pub rises : (more : List Lined) → Rises n more → Rises 0 (es ++ more)
  pub small : IsSmall l
  pub count : n + length rest ≤ length text + 1

-- a text's first line, and the others
abbrev pub others_of : Option (Bor (List ℕ)) → List (List ℕ)
others_of None = []
others_of (Some more) = lines more.now

pub lines_on : (text line : List ℕ) (o : Option (Bor (List ℕ))) → MatchOption o (lines text ≡ line ∷ []) (λ more. lines text ≡ line ∷ lines more.now) →
    lines text ≡ line ∷ others_of o
lines_on text line None h = h
lines_on text line (Some more) h = h

pub laid_first : (text : List ℕ) (es : List Lined) (l : Layout) → l ≡ blank → es ≡ [] → LaidOut text text es l 1
laid_first text es l e f =
    rw (e, f) (record { same = refl; labels = refl; rises = λ more r. lower 0 1 more (omega arith) r; small = (omega arith, omega arith); count = omega arith })

-- a line's labels come after those before it
line_rises : (n : ℕ) (l : Layout) (names : List (List ℕ)) (more : List Lined) → Rises (n + 1) more → Rises n (map (lined_at n l) names ++ more)
line_rises n l [] more r = lower n (n + 1) more (omega arith) r
line_rises n l (name ∷ names) more r = (omega arith, line_rises n l names more r)

reading_rises : (n : ℕ) (l : Layout) (r : Result Reading AsmRule) (more : List Lined) → Rises (n + 1) more → Rises n (lined_of_reading n l r ++ more)
reading_rises n l (Ok r) more h = line_rises n l r.labels more h
reading_rises n l (Err e) more h = lower n (n + 1) more (omega arith) h

-- the text so far with one more line
line_told : (text rest line : List ℕ) (more : List (List ℕ)) (es : List Lined) (l : Layout) (n : ℕ) → LaidOut text rest es l n → lines rest ≡ line ∷ more →
    layout 1 blank (lines text) ≡ told (first_again [] (es ++ lined_of_line n l line)) (behind n (put_line l line) more)
line_told text rest line more es l n i s =
    i.same ∙ ap (λ k. told (first_again [] es) (layout n l k)) s
    ∙ ap (told (first_again [] es)) (onward n l line more ∙ reading_told n l more (reading l.segment line)
    ∙ ap (λ k. told (first_again k (lined_of_line n l line)) (behind n (put_line l line) more)) i.labels)
    ∙ told_later (first_again [] es) (first_again (unlined es) (lined_of_line n l line)) (behind n (put_line l line) more)
    ∙ ap (λ o. told o (behind n (put_line l line) more)) (sym (first_again-append [] es (lined_of_line n l line)))

line_risen : (text rest line : List ℕ) (es : List Lined) (l : Layout) (n : ℕ) → LaidOut text rest es l n → (more : List Lined) → Rises (n + 1) more →
    Rises 0 ((es ++ lined_of_line n l line) ++ more)
line_risen text rest line es l n i more r =
    subst (Rises 0) (sym (append_assoc es (lined_of_line n l line) more)) (i.rises (lined_of_line n l line ++ more) (reading_rises n l (reading l.segment line) more r))

-- the labels of a layout are those of its lines
put_unlined : (n : ℕ) (names : List (List ℕ)) (l : Layout) (es : List Lined) → l.labels ≡ unlined es →
    (put_labels l names).labels ≡ unlined (es ++ map (lined_at n l) names)
put_unlined n [] l es e = e ∙ ap unlined (sym (append-nil es))
put_unlined n (name ∷ names) l es e =
    put_unlined n names (add_label l name) (es ++ lined_at n l name ∷ [])
    (ap (λ k. k ++ (lined_at n l name).0 ∷ []) e ∙ sym (map-append (λ x. x.0) es (lined_at n l name ∷ [])))
    ∙ ap unlined (append_assoc es (lined_at n l name ∷ []) (map (lined_at n l) names))

abbrev layout_in : Layout → Result Layout AsmRule → Layout
layout_in d (Ok l) = l
layout_in d (Err r) = d

checked_labels : (b : Bool) (l k m : Layout) → l.labels ≡ k.labels → cond b (Ok k) (Err A8) ≡ Ok m → m.labels ≡ l.labels
checked_labels true l k m s e = ap (λ r. (layout_in l r).labels) (sym e) ∙ sym s
checked_labels false l k m s e = cc

item_labels : (i : Item) (l m : Layout) → add_item i l ≡ Ok m → m.labels ≡ l.labels
item_labels Nothing l m e = ap (λ r. (layout_in l r).labels) (sym e)
item_labels (Section segment) l m e = ap (λ r. (layout_in l r).labels) (sym e)
item_labels (Words ws) l m e = checked_labels _ l _ m refl e
item_labels (Data' multiple ds) l m e = checked_labels _ l _ m refl e

reading_labels : (n : ℕ) (l m : Layout) (es : List Lined) (r : Result Reading AsmRule) → l.labels ≡ unlined es → put_reading l r ≡ Ok m → m.labels ≡ unlined (es ++ lined_of_reading n l r)
reading_labels n l m es (Ok r) s e = item_labels r.item (put_labels l r.labels) m e ∙ put_unlined n r.labels l es s
reading_labels n l m es (Err r) s e = cc

pub laid_more : (text rest more line : List ℕ) (es es' : List Lined) (l m : Layout) (n : ℕ) → LaidOut text rest es l n → lines rest ≡ line ∷ lines more →
    length more < length rest → put_line l line ≡ Ok m → es' ≡ es ++ lined_of_line n l line → IsSmall m → LaidOut text more es' m (n + 1)
laid_more text rest more line es es' l m n i s h e f k =
    let c = i.count in
    rw f (record {
      same = line_told text rest line (lines more) es l n i s ∙ ap (λ r. told (first_again [] (es ++ lined_of_line n l line)) (behind n r (lines more))) e;
      labels = reading_labels n l m es (reading l.segment line) i.labels e;
      rises = line_risen text rest line es l n i;
      small = k;
      count = omega (arith, c, h);
    })

pub laid_rises : (text rest line : List ℕ) (es es' : List Lined) (l : Layout) (n : ℕ) → LaidOut text rest es l n → es' ≡ es ++ lined_of_line n l line → Rises 0 es'
laid_rises text rest line es es' l n i f =
    rw f (subst (Rises 0) (append-nil (es ++ lined_of_line n l line)) (line_risen text rest line es l n i [] tt))

pub laid_last : (text rest line : List ℕ) (es es' : List Lined) (l m : Layout) (n : ℕ) → LaidOut text rest es l n → lines rest ≡ line ∷ [] →
    put_line l line ≡ Ok m → es' ≡ es ++ lined_of_line n l line → layout 1 blank (lines text) ≡ told (first_again [] es') (Ok m)
laid_last text rest line es es' l m n i s e f =
    line_told text rest line [] es l n i s ∙ ap (λ r. told (first_again [] (es ++ lined_of_line n l line)) (behind n r [])) e ∙ ap (λ k. told (first_again [] k) (Ok m)) (sym f)

pub laid_bad : (text rest line : List ℕ) (more : List (List ℕ)) (es es' : List Lined) (l : Layout) (n : ℕ) (r : AsmRule) → LaidOut text rest es l n →
    lines rest ≡ line ∷ more → put_line l line ≡ Err r → es' ≡ es ++ lined_of_line n l line →
    layout 1 blank (lines text) ≡ told (first_again [] es') (Err (record { rule = r; line = n }))
laid_bad text rest line more es es' l n r i s e f =
    line_told text rest line more es l n i s ∙ ap (λ q. told (first_again [] (es ++ lined_of_line n l line)) (behind n q more)) e
    ∙ ap (λ k. told (first_again [] k) (Err (record { rule = r; line = n }))) (sym f)

-- where memory runs out within a line, a label that stands again before that is the fault
again_first : (es fs : List Lined) (m : ℕ) → AreFirst es fs → first_again [] es ≡ Some m → first_again [] fs ≡ Some m
again_first es fs m f e = ap (first_again []) (sym f.same) ∙ first_again-append [] es f.rest ∙ ap (λ o. or_later o (first_again (unlined es) f.rest)) e

rises_first : (n : ℕ) (es rest : List Lined) → Rises n (es ++ rest) → Rises n es
rises_first n [] rest r = tt
rises_first n (e ∷ es) rest r = (r.0, rises_first e.1 es rest r.1)

pub laid_again : (text rest line : List ℕ) (more : List (List ℕ)) (es es' : List Lined) (l : Layout) (n : ℕ) → LaidOut text rest es l n → lines rest ≡ line ∷ more →
    AreFirst es' (es ++ lined_of_line n l line) → TellsAgain (layout 1 blank (lines text)) es'
laid_again text rest line more es es' l n i s f m e =
    line_told text rest line more es l n i s
    ∙ ap (λ o. told o (behind n (put_line l line) more)) (again_first es' (es ++ lined_of_line n l line) m f e)

pub laid_rises_first : (text rest line : List ℕ) (es es' : List Lined) (l : Layout) (n : ℕ) → LaidOut text rest es l n → AreFirst es' (es ++ lined_of_line n l line) →
    Rises 0 es'
laid_rises_first text rest line es es' l n i f =
    rises_first 0 es' f.rest (subst (Rises 0) (sym f.same) (laid_rises text rest line es (es ++ lined_of_line n l line) l n i refl))

-- the layout of all lines, where no label stands again
pub laid_out : (meant : Result Layout Fault) (es : List Lined) (l k : Layout) → meant ≡ told (first_again [] es) (Ok l) → Finds es k.labels → l.labels ≡ unlined es →
    l.words ≡ k.words → l.starts ≡ k.starts → l.size ≡ k.size → IsLaidOut meant k
laid_out meant es l k e f labels words starts size = record {
  laid = l;
  same = e ∙ ap (λ o. told o (Ok l)) f.once;
  alike = record { words = words; starts = starts; size = size; spots = λ name. ap (λ v. spot_among v name) labels ∙ sym (f.spots name) };
}
