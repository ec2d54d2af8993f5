-- Code in which each instruction is replaced by some instructions, as where loads and stores are put
-- around it or where it falls away: its marks, where it leads, and its end.
use Rattle.std.proofs.Common.{ℕ, ◌≡◌, List, [], ◌∷◌, ◌++◌, Bool, true, false, refl, ap, ◌∙◌, append_assoc, append-nil}
use Rattle.std.specs.Prelude.{IsTrue, ◌&&◌, ◌||◌, not}
use Rattle.std.specs.List.{list_all, list_any}
use Rattle.std.proofs.lemmas.List.Folds.{list_any-append}
use Rattle.tg_instr.specs.declared.operands.Opnd.{Opnd}
use Rattle.tg_instr.specs.declared.instr.Instr.{Instr}
use Rattle.tg_instr.specs.declared.instr.Instr.TheVariants.{Mark, Jump, Branch, Move, FrameLoad, FrameStore}
use Rattle.tg_instr.specs.Codes.{is_mark, marks_differ, leads_to_marks, is_end, ends_well}
use Rattle.tg_instr.specs.Renaming.{renamed}
use Rattle.tg_instr.proofs.Tests.{left_holds, right_holds, both_hold, all_append}

-- the same marks
abbrev pub SameMarks : (xs ys : List Instr) → Type 0
SameMarks xs ys = (m : ℕ) → list_any (is_mark m) xs ≡ list_any (is_mark m) ys

-- what stands for an instruction
pub record Replaces (one : Instr) (xs : List Instr) : Type 0 where
  pub marks : (m : ℕ) → list_any (is_mark m) xs ≡ is_mark m one
  pub differ : (rest : List Instr) → marks_differ (xs ++ rest) ≡ marks_differ (one ∷ rest)
  pub leads :
      (all into : List Instr) →
      SameMarks into all →
      IsTrue (leads_to_marks all one) →
      IsTrue (list_all (leads_to_marks into) xs)
  pub end : IsTrue (is_end one) → xs ≡ one ∷ []

-- what stands for each instruction of a code, in their order
pub data AreReplaced : List Instr → List Instr → Type 0 where
  none : AreReplaced [] []
  also :
      (x : Instr) (xs rest rest' : List Instr) →
      Replaces x xs →
      AreReplaced rest rest' →
      AreReplaced (x ∷ rest) (xs ++ rest')

pub same_marks : {l k : List Instr} → AreReplaced l k → SameMarks k l
same_marks none m = refl
same_marks (also x xs rest rest' r rs) m =
    list_any-append (is_mark m) xs rest'
    ∙ (ap (λ b. b || list_any (is_mark m) rest') (r.marks m)
    ∙ ap (λ b. is_mark m x || b) (same_marks rs m))

differ_cons : (one : Instr) (xs ys : List Instr) → SameMarks xs ys → marks_differ xs ≡ marks_differ ys → marks_differ (one ∷ xs) ≡ marks_differ (one ∷ ys)
differ_cons (Mark m) xs ys same e = ap (λ b. not b && marks_differ xs) (same m) ∙ ap (λ b. not (list_any (is_mark m) ys) && b) e
differ_cons _ xs ys same e = e

pub same_differing : {l k : List Instr} → AreReplaced l k → marks_differ k ≡ marks_differ l
same_differing none = refl
same_differing (also x xs rest rest' r rs) = r.differ rest' ∙ differ_cons x rest' rest (same_marks rs) (same_differing rs)

lead_into : {l k : List Instr} (all into : List Instr) → SameMarks into all → AreReplaced l k → IsTrue (list_all (leads_to_marks all) l) →
    IsTrue (list_all (leads_to_marks into) k)
lead_into all into same none h = refl
lead_into all into same (also x xs rest rest' r rs) h =
    all_append (leads_to_marks into) xs rest' (r.leads all into same (left_holds _ _ h)) (lead_into all into same rs (right_holds (leads_to_marks all x) _ h))

pub marks_stand : {l k : List Instr} → AreReplaced l k → IsTrue (list_all (leads_to_marks l) l) → IsTrue (list_all (leads_to_marks k) k)
marks_stand {l} {k} rs h = lead_into l k (same_marks rs) rs h

ends_behind : (xs : List Instr) (y : Instr) (ys : List Instr) → IsTrue (ends_well (y ∷ ys)) → IsTrue (ends_well (xs ++ y ∷ ys))
ends_behind [] y ys h = h
ends_behind (x ∷ []) y ys h = h
ends_behind (x ∷ w ∷ xs) y ys h = ends_behind (w ∷ xs) y ys h

-- what ends well isn't empty
ends_append : (xs ys : List Instr) → IsTrue (ends_well ys) → IsTrue (ends_well (xs ++ ys))
ends_append xs [] h = cc
ends_append xs (y ∷ ys) h = ends_behind xs y ys h

pub still_ends : {l k : List Instr} → AreReplaced l k → IsTrue (ends_well l) → IsTrue (ends_well k)
still_ends none h = h
still_ends (also x xs [] _ r none) h = ap ends_well (append-nil xs ∙ r.end h) ∙ h
still_ends (also x xs (y ∷ rest) rest' r rs) h = ends_append xs rest' (still_ends rs h)

-- Loads and stores around an instruction with other operands.

abbrev pub is_access : Instr → Bool
is_access (FrameLoad _ _) = true
is_access (FrameStore _ _) = true
is_access _ = false

access_is_no_mark : (m : ℕ) (x : Instr) → IsTrue (is_access x) → is_mark m x ≡ false
access_is_no_mark m (Mark n) h = cc
access_is_no_mark m _ h = refl

differ_access : (x : Instr) (ys : List Instr) → IsTrue (is_access x) → marks_differ (x ∷ ys) ≡ marks_differ ys
differ_access (Mark n) ys h = cc
differ_access _ ys h = refl

access_leads : (all : List Instr) (x : Instr) → IsTrue (is_access x) → IsTrue (leads_to_marks all x)
access_leads all (Jump m) h = cc
access_leads all (Branch test m) h = cc
access_leads all _ h = refl

marks_of_accesses : (m : ℕ) (xs : List Instr) → IsTrue (list_all is_access xs) → list_any (is_mark m) xs ≡ false
marks_of_accesses m [] h = refl
marks_of_accesses m (x ∷ xs) h =
    ap (λ b. b || list_any (is_mark m) xs) (access_is_no_mark m x (left_holds _ _ h))
    ∙ marks_of_accesses m xs (right_holds (is_access x) _ h)

behind_accesses : (xs rest : List Instr) → IsTrue (list_all is_access xs) → SameMarks (xs ++ rest) rest
behind_accesses xs rest h m = list_any-append (is_mark m) xs rest ∙ ap (λ b. b || list_any (is_mark m) rest) (marks_of_accesses m xs h)

differ_behind_accesses : (xs rest : List Instr) → IsTrue (list_all is_access xs) → marks_differ (xs ++ rest) ≡ marks_differ rest
differ_behind_accesses [] rest h = refl
differ_behind_accesses (x ∷ xs) rest h =
    differ_access x (xs ++ rest) (left_holds _ _ h)
    ∙ differ_behind_accesses xs rest (right_holds (is_access x) _ h)

accesses_lead : (all xs : List Instr) → IsTrue (list_all is_access xs) → IsTrue (list_all (leads_to_marks all) xs)
accesses_lead all [] h = refl
accesses_lead all (x ∷ xs) h =
    both_hold (leads_to_marks all x) _ (access_leads all x (left_holds _ _ h)) (accesses_lead all xs (right_holds (is_access x) _ h))

or_false : (b : Bool) → (b || false) ≡ b
or_false true = refl
or_false false = refl

mark_renamed : (m : ℕ) (one : Instr) (x y z : Opnd) → is_mark m (renamed one x y z) ≡ is_mark m one
mark_renamed m (Mark k) x y z = refl
mark_renamed m _ x y z = refl

leads_renamed : (all into : List Instr) → SameMarks into all → (one : Instr) (x y z : Opnd) → IsTrue (leads_to_marks all one) →
    IsTrue (leads_to_marks into (renamed one x y z))
leads_renamed all into same (Jump m) x y z h = same m ∙ h
leads_renamed all into same (Branch test m) x y z h = same m ∙ h
leads_renamed all into same _ x y z h = refl

differ_renamed : (one : Instr) (x y z : Opnd) (ys : List Instr) → marks_differ (renamed one x y z ∷ ys) ≡ marks_differ (one ∷ ys)
differ_renamed (Mark m) x y z ys = refl
differ_renamed _ x y z ys = refl

-- the instruction with other operands, and accesses before and after it; a last instruction has
-- none
pub around : (one : Instr) (x y z : Opnd) (before after : List Instr) → IsTrue (list_all is_access before) → IsTrue (list_all is_access after) →
    (IsTrue (is_end one) → before ++ (renamed one x y z ∷ after) ≡ one ∷ []) → Replaces one (before ++ (renamed one x y z ∷ after))
around one x y z before after h k e =
    record {
      marks = λ m.
          list_any-append (is_mark m) before (renamed one x y z ∷ after)
          ∙ (ap (λ b. b || (is_mark m (renamed one x y z) || list_any (is_mark m) after)) (marks_of_accesses m before h)
          ∙ (ap (λ b. is_mark m (renamed one x y z) || b) (marks_of_accesses m after k)
          ∙ (or_false (is_mark m (renamed one x y z)) ∙ mark_renamed m one x y z)));
      differ = λ rest.
          ap marks_differ (append_assoc before (renamed one x y z ∷ after) rest)
          ∙ (differ_behind_accesses before (renamed one x y z ∷ (after ++ rest)) h
          ∙ (differ_renamed one x y z (after ++ rest)
          ∙ differ_cons one (after ++ rest) rest (behind_accesses after rest k) (differ_behind_accesses after rest k)));
      leads = λ all into same l.
          all_append (leads_to_marks into) before (renamed one x y z ∷ after) (accesses_lead into before h)
          (both_hold (leads_to_marks into (renamed one x y z)) _ (leads_renamed all into same one x y z l) (accesses_lead into after k));
      end = e;
    }

-- accesses alone stand for a move
pub by_accesses : (to from : Opnd) (xs : List Instr) → IsTrue (list_all is_access xs) → Replaces (Move to from) xs
by_accesses to from xs h =
    record {
      marks = λ m. marks_of_accesses m xs h;
      differ = λ rest. differ_behind_accesses xs rest h;
      leads = λ all into same l. accesses_lead into xs h;
      end = λ e. cc;
    }
