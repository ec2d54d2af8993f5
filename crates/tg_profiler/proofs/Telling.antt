-- Texts that are told piece by piece, and reports by their lines.
use Rattle.std.specs.Prelude.{Result, Ok, Err, IsErr, IsOk, IsTrue, Option, Some, IfErr, OnErr, slice_get, All, slice_index_or}
use Rattle.std.proofs.Common.{ℕ, zero, suc, ◌≡◌, ◌≤◌, ◌<◌, ◌+◌, ◌^◌, List, [], ◌∷◌, ◌++◌, length, map, take, drop, false, append_assoc, append-nil, sym, ap, subst, refl, ◌∙◌, arith, length-append, rules}
use Rattle.std.proofs.Math.Seq.{take-suc}
use Rattle.std.proofs.lemmas.List.{take-append-drop, take_all, map-append}
use Rattle.std.proofs.lemmas.Option.{slice_get_within, get_or_from_slice_get}
use Rattle.std.specs.Io.KnownBytes.{Appends}
use Rattle.tg_base.specs.Causes.{HasCause}
use Rattle.tg_base.specs.Writes.{TakesAll}
use Rattle.tg_machine.specs.declared.fetches.Seen.{Seen}
use Rattle.tg_profiler.specs.Told.{report_text, reports_text}
use Rattle.tg_profiler.specs.Telling.{HasTold}
use Rattle.tg_profiler.specs.Watching.{Report}
use Rattle.tg_profiler.specs.Watchers.{HasLine}
use Rattle.tg_profiler.proofs.Pieces.{front_longer, all_later, all_failed, cause_later, cause_failed}

no_truth : IsTrue false → ⊥
no_truth h = cc

-- nothing was told
none_appended : (told : Option (List ℕ)) → Appends told told []
none_appended _ = search rules

module _ {S : Type 0} (taken : S → Option (List ℕ)) (faults : S → ℕ) where
  -- so far all was told
  abbrev pub ToldSoFar : (old new : S) → List ℕ → Type 0
  ToldSoFar old new text = HasTold {T = Unit {0}} {E = Unit {0}} taken faults old new (Ok tt) text

  pub told_none : (x : S) → ToldSoFar x x []
  told_none x = record {
    bytes = none_appended (taken x);
    cause = record { later = omega arith; failed = tt };
    some = tt;
    empty = λ _. refl;
  }

  pub told_so_far : {T E : Type 0} (x y : S) (t : T) (a : List ℕ) → HasTold {T = T} {E = E} taken faults x y (Ok t) a → ToldSoFar x y a
  told_so_far x y t a h = record { bytes = h.bytes; cause = record { later = h.cause.later; failed = tt }; some = tt; empty = h.empty }

  -- a piece that was written whole, or not
  pub told_piece : {T E : Type 0} (x y : S) (r : Result T E) (piece : List ℕ) → TakesAll (taken x) (taken y) r piece →
      HasCause (faults x) (faults y) r → (length piece ≡ 0 → (y ≡ x) × IsOk r) → HasTold taken faults x y r piece
  told_piece {T} {E} x y r piece bytes cause empty = record { bytes = bytes; cause = cause; some = some r empty; empty = λ none. (empty none).0 }
    where
      positive : (n : ℕ) → (n ≡ 0 → ⊥) → 0 < n
      positive zero some = absurd (some refl)
      positive (suc n) some = omega arith

      some : (r : Result T E) → (length piece ≡ 0 → (y ≡ x) × IsOk r) → IfErr r (λ _. 0 < length piece)
      some (Ok t) h = tt
      some (Err e) h = positive (length piece) (λ none. no_truth (h none).1)

  -- a text and the next
  pub told_more : {T E : Type 0} (x y z : S) (r : Result T E) (a b : List ℕ) → ToldSoFar x y a → HasTold taken faults y z r b →
      HasTold taken faults x z r (a ++ b)
  told_more {T} {E} x y z r a b h k = record {
    bytes = all_later _ _ _ a b r h.bytes k.bytes;
    cause = cause_later _ _ _ r h.cause.later k.cause;
    some = longer r k.some;
    empty = λ none.
        let size = length-append a b in
        k.empty (omega (arith, size, none)) ∙ h.empty (omega (arith, size, none));
  }
    where
      longer : (r : Result T E) → IfErr r (λ _. 0 < length b) → IfErr r (λ _. 0 < length (a ++ b))
      longer (Ok t) s = tt
      longer (Err e) s = let size = length-append a b in omega (arith, size, s)

  -- a text of which a write failed, and what would have come after it
  pub told_failed : {T U E F : Type 0} (x y : S) (q : Result T E) (r : Result U F) (a b : List ℕ) → IsErr q → IsErr r →
      HasTold taken faults x y q a → HasTold taken faults x y r (a ++ b)
  told_failed {U = U} {F = F} x y (Ok t) r a b bad worse h = absurd (no_truth bad)
  told_failed {U = U} {F = F} x y (Err e) r a b bad worse h = record {
    bytes = all_failed _ _ (a ++ b) r worse (front_longer _ _ a b h.bytes);
    cause = cause_failed _ _ (Err e) r bad h.cause;
    some = longer r;
    empty = λ none. let size = length-append a b in h.empty (omega (arith, size, none));
  }
    where
      longer : (r : Result U F) → IfErr r (λ _. 0 < length (a ++ b))
      longer (Ok u) = tt
      longer (Err f) = let size = length-append a b in let some = h.some in omega (arith, size, some)

  -- a text that was told is one that is the same, whatever the answer is
  pub told_whole : {T E : Type 0} (x y : S) (t : T) (a : List ℕ) → ToldSoFar x y a → HasTold {T = T} {E = E} taken faults x y (Ok t) a
  told_whole x y t a h = record { bytes = h.bytes; cause = record { later = h.cause.later; failed = tt }; some = tt; empty = h.empty }

-- a report by a line more
text_joined : (one other : List (List ℕ)) → report_text (one ++ other) ≡ report_text one ++ report_text other
text_joined [] other = refl
text_joined (line ∷ lines) other =
    ap (λ rest. (line ++ 10 ∷ []) ++ rest) (text_joined lines other) ∙ sym (append_assoc (line ++ 10 ∷ []) (report_text lines) (report_text other))

pub report_more : (lines : List (List ℕ)) (at : ℕ) (line : List ℕ) → slice_get lines at ≡ Some line →
    report_text (take (at + 1) lines) ≡ report_text (take at lines) ++ (line ++ 10 ∷ [])
report_more lines at line h =
    let next : at + 1 ≡ suc at = omega arith in
    let within = slice_get_within lines at line h in
    let there : slice_index_or lines at [] ≡ line = get_or_from_slice_get lines at line [] h in
    ap (λ n. report_text (take n lines)) next ∙ ap report_text (take-suc lines at [] within)
    ∙ text_joined (take at lines) (slice_index_or lines at [] ∷ [])
    ∙ ap (λ l. report_text (take at lines) ++ ((l ++ 10 ∷ []) ++ [])) there
    ∙ ap (λ l. report_text (take at lines) ++ l) (append-nil (line ++ 10 ∷ []))

-- and reports by one more
reports_joined : (one other : List Report) (seen : List Seen) (code : ℕ) →
    reports_text (one ++ other) seen code ≡ reports_text one seen code ++ reports_text other seen code
reports_joined [] other seen code = refl
reports_joined (report ∷ reports) other seen code =
    ap (λ rest. report_text (report seen code) ++ rest) (reports_joined reports other seen code)
    ∙ sym (append_assoc (report_text (report seen code)) (reports_text reports seen code) (reports_text other seen code))

pub reports_more : {W : Type 0} (report : W → Report) (all : List W) (at : ℕ) (d : W) (seen : List Seen) (code : ℕ) → at < length all →
    reports_text (map report (take (at + 1) all)) seen code ≡
    reports_text (map report (take at all)) seen code ++ report_text (report (slice_index_or all at d) seen code)
reports_more report all at d seen code lt =
    let next : at + 1 ≡ suc at = omega arith in
    let text : List Report → List ℕ = λ rs. reports_text rs seen code in
    ap (λ n. text (map report (take n all))) next ∙ ap (λ l. text (map report l)) (take-suc all at d lt)
    ∙ ap text (map-append report (take at all) (slice_index_or all at d ∷ []))
    ∙ reports_joined (map report (take at all)) (report (slice_index_or all at d) ∷ []) seen code
    ∙ ap (λ l. text (map report (take at all)) ++ l) (append-nil (report_text (report (slice_index_or all at d) seen code)))

-- the lines from a number on have a text of their own
text_from : (lines : List (List ℕ)) (at : ℕ) → report_text lines ≡ report_text (take at lines) ++ report_text (drop at lines)
text_from lines at = ap report_text (sym (take-append-drop at lines)) ∙ text_joined (take at lines) (drop at lines)

reports_from : {W : Type 0} (report : W → Report) (all : List W) (at : ℕ) (seen : List Seen) (code : ℕ) →
    reports_text (map report all) seen code ≡
    reports_text (map report (take at all)) seen code ++ reports_text (map report (drop at all)) seen code
reports_from report all at seen code =
    ap (λ l. reports_text (map report l) seen code) (sym (take-append-drop at all))
    ∙ ap (λ l. reports_text l seen code) (map-append report (take at all) (drop at all))
    ∙ reports_joined (map report (take at all)) (map report (drop at all)) seen code

module _ {S : Type 0} (taken : S → Option (List ℕ)) (faults : S → ℕ) where
  -- so many lines of a report were told, of which there are few where one was asked for
  pub record LinesTold (old new : S) (lines : List (List ℕ)) (at : ℕ) : Type 0 where
    pub told : ToldSoFar taken faults old new (report_text (take at lines))
    pub few : 0 < at → length lines < 2 ^ 32

  pub lines_none : (x : S) (lines : List (List ℕ)) → LinesTold x x lines 0
  lines_none x lines = record { told = told_none taken faults x; few = λ none. absurd (omega (arith, none)) }

  -- one more was told
  pub line_more : {T E : Type 0} (x y z : S) (r : Result T E) (lines : List (List ℕ)) (at size : ℕ) (into : List ℕ) →
      LinesTold x y lines at → HasLine lines at into (Some size) → HasTold taken faults y z r (take size into ++ 10 ∷ []) →
      HasTold taken faults x z r (report_text (take (at + 1) lines))
  line_more x y z r lines at size into l h k =
      let P : List ℕ → Type 0 = λ text. HasTold taken faults x z r text in
      subst P (sym (report_more lines at (take size into) h.0)) (told_more taken faults x y z r _ _ l.told k)

  pub lines_more : {T E : Type 0} (x y z : S) (r : Result T E) (t : T) (lines : List (List ℕ)) (at size : ℕ) (into : List ℕ) →
      LinesTold x y lines at → HasLine lines at into (Some size) → length lines < 2 ^ 32 → r ≡ Ok t →
      HasTold taken faults y z r (take size into ++ 10 ∷ []) → LinesTold x z lines (at + 1)
  lines_more {T} {E} x y z r t lines at size into l h few is k =
      let P : Result T E → Type 0 = λ q. HasTold taken faults x z q (report_text (take (at + 1) lines)) in
      let told = subst P is (line_more x y z r lines at size into l h k) in
      record { told = told_so_far taken faults x z t _ told; few = λ _. few }

  -- a line of which a write failed
  pub lines_failed : {T U E F : Type 0} (x y z : S) (q : Result T E) (r : Result U F) (lines : List (List ℕ)) (at size : ℕ) (into : List ℕ) →
      LinesTold x y lines at → HasLine lines at into (Some size) → IsErr q → IsErr r →
      HasTold taken faults y z q (take size into ++ 10 ∷ []) → HasTold taken faults x z r (report_text lines)
  lines_failed {U = U} {F = F} x y z q r lines at size into l h bad worse k =
      let P : List ℕ → Type 0 = λ text. HasTold taken faults x z r text in
      subst P (sym (text_from lines (at + 1))) (told_failed taken faults x z q r _ _ bad worse (line_more x y z q lines at size into l h k))

  -- all were told
  pub lines_all : {T E : Type 0} (x y : S) (t : T) (lines : List (List ℕ)) (at : ℕ) → LinesTold x y lines at → length lines ≤ at →
      HasTold {T = T} {E = E} taken faults x y (Ok t) (report_text lines)
  lines_all x y t lines at l le =
      told_whole taken faults x y t (report_text lines)
      (subst (λ text. ToldSoFar taken faults x y (report_text text)) (take_all at lines le) l.told)

  -- reports: one more, all, and one of which a write failed
  module _ {W : Type 0} (report : W → Report) (all : List W) (seen : List Seen) (code : ℕ) where
    abbrev pub first_reports : ℕ → List ℕ
    first_reports at = reports_text (map report (take at all)) seen code

    pub report_told : {T E : Type 0} (x y z : S) (r : Result T E) (at : ℕ) (w : W) → at < length all → w ≡ slice_index_or all at w →
        ToldSoFar taken faults x y (first_reports at) → HasTold taken faults y z r (report_text (report w seen code)) →
        HasTold taken faults x z r (first_reports (at + 1))
    report_told x y z r at w lt is h k =
        let P : List ℕ → Type 0 = λ text. HasTold taken faults x z r text in
        let Q : W → Type 0 = λ v. HasTold taken faults y z r (report_text (report v seen code)) in
        subst P (sym (reports_more report all at w seen code lt)) (told_more taken faults x y z r _ _ h (subst Q is k))

    pub report_failed : {T U E F : Type 0} (x y z : S) (q : Result T E) (r : Result U F) (at : ℕ) (w : W) → at < length all →
        w ≡ slice_index_or all at w → IsErr q → IsErr r → ToldSoFar taken faults x y (first_reports at) →
        HasTold taken faults y z q (report_text (report w seen code)) → HasTold taken faults x z r (reports_text (map report all) seen code)
    report_failed x y z q r at w lt is bad worse h k =
        let P : List ℕ → Type 0 = λ text. HasTold taken faults x z r text in
        subst P (sym (reports_from report all (at + 1) seen code))
        (told_failed taken faults x z q r _ _ bad worse (report_told x y z q at w lt is h k))

    pub reports_all : {T E : Type 0} (x y : S) (t : T) (at : ℕ) → length all ≤ at → ToldSoFar taken faults x y (first_reports at) →
        HasTold {T = T} {E = E} taken faults x y (Ok t) (reports_text (map report all) seen code)
    reports_all x y t at le h =
        told_whole taken faults x y t _ (subst (λ l. ToldSoFar taken faults x y (reports_text (map report l) seen code)) (take_all at all le) h)
