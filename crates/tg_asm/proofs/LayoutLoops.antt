-- Items and labels are laid out one by one.
use Rattle.std.proofs.Common.{◌≡◌, ◌<◌, ◌≤◌, ◌+◌, ℕ, suc, min, List, [], ◌∷◌, ◌++◌, length, map, drop, get_or, Bool, true, false, cond, Option, Some, None, Result, Ok, Err, refl}
use Rattle.std.proofs.Common.{sym, ap, ◌∙◌, arith, drop-cons, add-one, append_assoc, append-nil}
use Rattle.std.specs.Prelude.{is_some, unwrap_or}
use Rattle.std.proofs.lemmas.List.{drop_all}
use Rattle.tg_asm_text.specs.declared.keywords.AsmRule.{AsmRule}
use Rattle.tg_asm_text.specs.declared.keywords.AsmRule.TheVariants.{A4}
use Rattle.tg_asm_text.specs.Items as items
use Rattle.tg_asm_text.specs.Assembly.{Layout, LabelTarget, spot_of, spot_among, add_label, add_new, add_labels}
use Rattle.tg_asm.specs.glue.Entries.{Lined, unlined, first_again}
use Rattle.tg_asm.specs.glue.Layouts.{IsSmall, lined_at, put_labels}
use Rattle.tg_asm_text.specs.declared.keywords.Keyword.{Keyword}
use Rattle.tg_asm_text.specs.Lines.{labelled, label_at, skip, is_solid}
use Rattle.tg_asm.specs.glue.Cuts.{labels_of, operand_of}
use Rattle.tg_asm.proofs.CutLoops.{label_taken, labelled_none, length-back}
use Rattle.tg_asm.specs.declared.cuts.Operand.{Operand}
use Rattle.tg_asm.specs.glue.Means.{datum_stored}

abbrev pub or_later : Option ℕ → Option ℕ → Option ℕ
or_later None o = o
or_later (Some n) o = Some n

abbrev pub labels_by : Option ℕ → Layout → Result Layout AsmRule
labels_by None l = Ok l
labels_by (Some n) l = Err A4

-- widths
abbrev stored : Keyword → List Operand → List items.Datum
stored k os = map (datum_stored k) (map operand_of os)

pub record Summed (k : Keyword) (os : List Operand) (total at : ℕ) : Type 0 where
  pub same : min (items.widths (stored k os)) 1099511627776 ≡ min (total + items.widths (stored k (drop at os))) 1099511627776
  pub small : total ≤ 1099511627776

pub summed_more : (k : Keyword) (os : List Operand) (total at w : ℕ) (z : Operand) (d : items.Datum) → Summed k os total at → at < length os →
    d ≡ datum_stored k (operand_of (get_or os at z)) → w ≡ items.width d → Summed k os (min (total + w) 1099511627776) (at + 1)
summed_more k os total at w z d s h t e =
    let wide : items.width (datum_stored k (operand_of (get_or os at z))) ≡ w = ap items.width (sym t) ∙ sym e in
    let cons : items.widths (stored k (drop at os)) ≡ w + items.widths (stored k (drop (suc at) os)) =
    ap (λ o. items.widths (stored k o)) (drop-cons os at z h) ∙ ap (λ v. v + items.widths (stored k (drop (suc at) os))) wide in
    record { same = rw add-one (s.same ∙ rw cons (omega arith)); small = omega arith }

pub summed_end : (k : Keyword) (os : List Operand) (total at : ℕ) → Summed k os total at → length os ≤ at → total ≡ min (items.widths (stored k os)) 1099511627776
summed_end k os total at s h =
    let none : items.widths (stored k (drop at os)) ≡ 0 = ap (λ o. items.widths (stored k o)) (drop_all at os h) in
    let b = s.small in
    sym (s.same ∙ rw none (omega (arith, b)))

-- labels
pub record Labelling (n : ℕ) (first : Layout) (before : List Lined) (line : List ℕ) (l : Layout) (lined : List Lined) (rest : List ℕ) : Type 0 where
  pub fuel : ℕ
  pub enough : length rest ≤ fuel
  pub same : put_labels first (labels_of line) ≡ put_labels l (labelled fuel rest).labels
  pub lines : before ++ map (lined_at n first) (labels_of line) ≡ lined ++ map (lined_at n l) (labelled fuel rest).labels

pub labelling_begin : (n : ℕ) (first : Layout) (before : List Lined) (line rest : List ℕ) → rest ≡ skip line → Labelling n first before line first before rest
labelling_begin n first before line rest r = record { fuel = length line; enough = rw r (length-back is_solid line); same = rw r refl; lines = rw r refl }

pub labelling_more : (n : ℕ) (first : Layout) (before : List Lined) (line : List ℕ) (l m : Layout) (lined lined' : List Lined) (text name rest after : List ℕ) →
    Labelling n first before line l lined text → label_at text ≡ Some (name, rest) → after ≡ skip rest → m ≡ add_label l name →
    lined' ≡ lined ++ lined_at n l name ∷ [] → Labelling n first before line m lined' after
labelling_more n first before line l m lined lined' text name rest after i s a e g =
    let t = label_taken i.fuel text name rest i.enough s in
    rw (a, e, g) (record {
      fuel = t.left;
      enough = t.enough;
      same = i.same ∙ ap (λ k. put_labels l k.labels) t.same;
      lines = i.lines ∙ ap (λ k. lined ++ map (lined_at n l) k.labels) t.same ∙ sym (append_assoc lined (lined_at n l name ∷ []) (map (lined_at n l) (labelled t.left (skip rest)).labels));
    })

pub labelling_end : (n : ℕ) (first : Layout) (before : List Lined) (line : List ℕ) (l : Layout) (lined : List Lined) (text : List ℕ) →
    Labelling n first before line l lined text → label_at text ≡ None →
    (l ≡ put_labels first (labels_of line)) × (lined ≡ before ++ map (lined_at n first) (labels_of line))
labelling_end n first before line l lined text i e =
    let none = labelled_none i.fuel text e in (
      sym (i.same ∙ ap (λ k. put_labels l k.labels) none),
      sym (i.lines ∙ ap (λ k. lined ++ map (lined_at n l) k.labels) none ∙ append-nil lined),
    )

-- labels take no room of the segments
pub put_small : (names : List (List ℕ)) (l : Layout) → IsSmall l → IsSmall (put_labels l names)
put_small [] l k = k
put_small (name ∷ names) l k = put_small names (add_label l name) k

-- and are added with no look at those before, where none of them stands again
pub first_again-append : (seen : List (List ℕ × LabelTarget)) (es fs : List Lined) → first_again seen (es ++ fs) ≡ or_later (first_again seen es) (first_again (seen ++ unlined es) fs)
first_again-append seen [] fs = ap (λ s. first_again s fs) (sym (append-nil seen))
first_again-append seen (e ∷ es) fs = by (is_some (spot_among seen e.0.0)) refl (first_again-append (seen ++ e.0 ∷ []) es fs)
  where
    by : (b : Bool) → is_some (spot_among seen e.0.0) ≡ b →
        first_again (seen ++ e.0 ∷ []) (es ++ fs) ≡ or_later (first_again (seen ++ e.0 ∷ []) es) (first_again ((seen ++ e.0 ∷ []) ++ unlined es) fs) →
        first_again seen (e ∷ es ++ fs) ≡ or_later (first_again seen (e ∷ es)) (first_again (seen ++ unlined (e ∷ es)) fs)
    by true h ih = rw h refl
    by false h ih = rw h (ih ∙ ap (λ s. or_later (first_again (seen ++ e.0 ∷ []) es) (first_again s fs)) (append_assoc seen (e.0 ∷ []) (unlined es)))

found_or : (s : Option LabelTarget) (b : Bool) → is_some s ≡ b → (n : ℕ) (l : Layout) (name : List ℕ) → add_new l name s ≡ cond b (Err A4) (Ok (add_label l name))
found_or (Some t) true h n l name = refl
found_or (Some t) false h n l name = cc
found_or None true h n l name = cc
found_or None false h n l name = refl

pub labels_told : (n : ℕ) (names : List (List ℕ)) (l : Layout) → add_labels l names ≡ labels_by (first_again l.labels (map (lined_at n l) names)) (put_labels l names)
labels_told n [] l = refl
labels_told n (name ∷ names) l = by (is_some (spot_of l name)) refl (labels_told n names (add_label l name))
  where
    by : (b : Bool) → is_some (spot_of l name) ≡ b →
        add_labels (add_label l name) names ≡ labels_by (first_again (add_label l name).labels (map (lined_at n (add_label l name)) names)) (put_labels (add_label l name) names) →
        add_labels l (name ∷ names) ≡ labels_by (first_again l.labels (map (lined_at n l) (name ∷ names))) (put_labels l (name ∷ names))
    by true h ih = let f = found_or (spot_of l name) true h n l name in rw h (rw (f, add_labels) refl)
    by false h ih = let f = found_or (spot_of l name) false h n l name in rw h (rw (f, add_labels) ih)

-- where one stands again, its line is the one at hand
pub again_here : (n m : ℕ) (names : List (List ℕ)) (l : Layout) (seen : List (List ℕ × LabelTarget)) → first_again seen (map (lined_at n l) names) ≡ Some m → m ≡ n
again_here n m [] l seen e = cc
again_here n m (name ∷ names) l seen e = by (is_some (spot_among seen name)) refl (again_here n m names l (seen ++ (lined_at n l name).0 ∷ []))
  where
    by : (b : Bool) → is_some (spot_among seen name) ≡ b → (first_again (seen ++ (lined_at n l name).0 ∷ []) (map (lined_at n l) names) ≡ Some m → m ≡ n) → m ≡ n
    by true h ih = let t = rw h at e in sym (ap (λ o. unwrap_or o 0) t)
    by false h ih = ih (rw h at e)
