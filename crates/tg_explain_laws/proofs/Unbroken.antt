-- What a check that came out fine asks isn't broken.
use Rattle.std.proofs.Common.{◌≡◌, ℕ, Bool, true, false, refl, sym, ap, ◌∙◌, subst}
use Rattle.std.specs.Prelude.{not, ◌&&◌}
use Rattle.tg_syntax.specs.declared.tokens.Ident.{Ident}
use Rattle.tg_syntax.specs.declared.trees.Op.{Op}
use Rattle.tg_syntax.specs.declared.trees.Op.TheVariants.{Plus, Minus, Times, Divide, Equal, NotEqual, Less, LessEqual, Greater, GreaterEqual, And, Or}
use Rattle.tg_typecheck.specs.declared.notes.Means.{Means}
use Rattle.tg_typecheck.specs.Types.{Ty, int_type, string_type, nil_type, none_type, record_type, array_type, same, fits, alike, are_nil, has_order}
use Rattle.tg_typecheck.specs.Checks.{Noted, fine, ◌>>=◌, give, note}
use Rattle.tg_typecheck.specs.Typing.{expect, expect_none, ordered, equated, left_side, equal_sides, right_side, own_type}
use Rattle.tg_typecheck.proofs.Inversion.{steps, kept, given, noting}
use Rattle.tg_explain_typing.specs.declared.types.Ty.TheVariants as told
use Rattle.tg_explain_typing.specs.declared.facts.Demand.TheVariants.{Fits, Valueless, Ordered, Valued, Like, Joins, Own, BesideNil, Fielded, Made, Indexed}
use Rattle.tg_explain_typing.specs.declared.facts.Demand.TheVariants.{Has}
use Rattle.tg_explain_typing.specs.declared.finding.Breach.{Breach}
use Rattle.tg_explain_typing.specs.declared.finding.Breach.TheVariants.{Mismatch, NoRecord, NoArray, NoValue, BareNil}
use Rattle.tg_explain_typing.specs.Types as explained
use Rattle.tg_explain_typing.specs.Facts.{left_demand, right_demand, is_equality}
use Rattle.tg_explain_typing.specs.Finding.{breaks}
use Rattle.tg_explain_types.specs.laws.Types.{told_type, TestsAgree}

untrue : (c : Bool) → not c ≡ true → c ≡ false
untrue true h = cc
untrue false h = refl

-- ---- types

a_value : (t : Ty) → same t none_type ≡ false → explained.same (told_type t) told.Nothing ≡ false
a_value int_type h = refl
a_value string_type h = refl
a_value nil_type h = refl
a_value none_type h = cc
a_value (record_type a) h = refl
a_value (array_type a) h = refl

nothing : (t : Ty) → same t none_type ≡ true → explained.same (told_type t) told.Nothing ≡ true
nothing int_type h = cc
nothing string_type h = cc
nothing nil_type h = cc
nothing none_type h = refl
nothing (record_type a) h = cc
nothing (array_type a) h = cc

not_nil : (t : Ty) → same t nil_type ≡ false → explained.same (told_type t) told.Nil ≡ false
not_nil int_type h = refl
not_nil string_type h = refl
not_nil nil_type h = cc
not_nil none_type h = refl
not_nil (record_type a) h = refl
not_nil (array_type a) h = refl

not_both : (t u : Ty) → are_nil t u ≡ false → (explained.same (told_type t) told.Nil && explained.same (told_type u) told.Nil) ≡ false
not_both nil_type nil_type h = cc
not_both nil_type int_type h = refl
not_both nil_type string_type h = refl
not_both nil_type none_type h = refl
not_both nil_type (record_type a) h = refl
not_both nil_type (array_type a) h = refl
not_both int_type u h = refl
not_both string_type u h = refl
not_both none_type u h = refl
not_both (record_type a) u h = refl
not_both (array_type a) u h = refl

pub of_field : (b : Breach) (f : Ident) (t : Ty) → breaks b (Has f) (told_type t) ≡ false
of_field Mismatch f t = refl
of_field NoRecord f t = refl
of_field NoArray f t = refl
of_field NoValue f t = refl
of_field BareNil f t = refl

pub of_fielded : (b : Breach) (at : ℕ) → breaks b Fielded (told.Record at) ≡ false
of_fielded Mismatch at = refl
of_fielded NoRecord at = refl
of_fielded NoArray at = refl
of_fielded NoValue at = refl
of_fielded BareNil at = refl

pub of_made : (b : Breach) (at : ℕ) → breaks b Made (told.Record at) ≡ false
of_made Mismatch at = refl
of_made NoRecord at = refl
of_made NoArray at = refl
of_made NoValue at = refl
of_made BareNil at = refl

pub of_indexed : (b : Breach) (at : ℕ) → breaks b Indexed (told.Array at) ≡ false
of_indexed Mismatch at = refl
of_indexed NoRecord at = refl
of_indexed NoArray at = refl
of_indexed NoValue at = refl
of_indexed BareNil at = refl

of_nothing : (b : Breach) (t : Ty) → same t none_type ≡ true → breaks b Valueless (told_type t) ≡ false
of_nothing Mismatch t h = ap not (nothing t h)
of_nothing NoRecord t h = refl
of_nothing NoArray t h = refl
of_nothing NoValue t h = refl
of_nothing BareNil t h = refl

of_valued : (b : Breach) (t : Ty) → same t none_type ≡ false → breaks b Valued (told_type t) ≡ false
of_valued Mismatch t h = refl
of_valued NoRecord t h = refl
of_valued NoArray t h = refl
of_valued NoValue t h = a_value t h
of_valued BareNil t h = refl

of_own : (b : Breach) (x : Ident) (t : Ty) → same t none_type ≡ false → same t nil_type ≡ false → breaks b (Own x) (told_type t) ≡ false
of_own Mismatch x t h i = refl
of_own NoRecord x t h i = refl
of_own NoArray x t h i = refl
of_own NoValue x t h i = a_value t h
of_own BareNil x t h i = not_nil t i

of_beside : (b : Breach) (t u : Ty) → are_nil t u ≡ false → breaks b (BesideNil (told_type t)) (told_type u) ≡ false
of_beside Mismatch t u h = refl
of_beside NoRecord t u h = refl
of_beside NoArray t u h = refl
of_beside NoValue t u h = refl
of_beside BareNil t u h = not_both t u h

noted : (at : ℕ) (m : Means) (x : Unit {0}) (g h : Noted) → note at m g ≡ fine x h → g.shapes ≡ h.shapes
unfolding note
noted at m x g h e = let same : noting at m g ≡ h = cc in ap (λ (y : Noted). y.shapes) same

module _ (tests : (one other : Ty) → TestsAgree one other) (b : Breach) where
  of_fits : (b : Breach) (wanted got : Ty) → same got none_type ≡ false → fits got wanted ≡ true → breaks b (Fits (told_type wanted)) (told_type got) ≡ false
  of_fits Mismatch wanted got h i = ap not ((tests got wanted).fits ∙ i)
  of_fits NoRecord wanted got h i = refl
  of_fits NoArray wanted got h i = refl
  of_fits NoValue wanted got h i = a_value got h
  of_fits BareNil wanted got h i = refl

  of_ordered : (b : Breach) (t : Ty) → same t none_type ≡ false → has_order t ≡ true → breaks b Ordered (told_type t) ≡ false
  of_ordered Mismatch t h i = ap not ((tests t t).order ∙ i)
  of_ordered NoRecord t h i = refl
  of_ordered NoArray t h i = refl
  of_ordered NoValue t h i = a_value t h
  of_ordered BareNil t h i = refl

  of_like : (b : Breach) (t u : Ty) → same u none_type ≡ false → alike t u ≡ true → breaks b (Like (told_type t)) (told_type u) ≡ false
  of_like Mismatch t u h i = ap not ((tests t u).alike ∙ i)
  of_like NoRecord t u h i = refl
  of_like NoArray t u h i = refl
  of_like NoValue t u h i = a_value u h
  of_like BareNil t u h i = refl

  of_joins : (b : Breach) (t u : Ty) → alike t u ≡ true → breaks b (Joins (told_type t)) (told_type u) ≡ false
  of_joins Mismatch t u i = ap not ((tests t u).alike ∙ i)
  of_joins NoRecord t u i = refl
  of_joins NoArray t u i = refl
  of_joins NoValue t u i = refl
  of_joins BareNil t u i = refl

  -- ---- checks

  pub expected : (wanted got : Ty) (at : ℕ) (x : Unit {0}) (g h : Noted) → expect wanted got at g ≡ fine x h →
      (breaks b (Fits (told_type wanted)) (told_type got) ≡ false) × (g ≡ h)
  expected wanted got at x g h e =
      let p = steps e in
      let k = kept _ _ _ _ _ _ p.first in
      let l = kept _ _ _ _ _ _ p.onward in
      (of_fits b wanted got (untrue _ k.0) l.0, k.1 ∙ l.1)

  pub expected_none : (got : Ty) (at : ℕ) (x : Unit {0}) (g h : Noted) → expect_none got at g ≡ fine x h →
      (breaks b Valueless (told_type got) ≡ false) × (g ≡ h)
  expected_none got at x g h e = let k = kept _ _ _ _ _ _ e in (of_nothing b got k.0, k.1)

  pub joined : (t u : Ty) → alike t u ≡ true → breaks b (Joins (told_type t)) (told_type u) ≡ false
  joined t u h = of_joins b t u h

  pub owned : (x : Ident) (t own : Ty) (at : ℕ) (g h : Noted) → own_type t at g ≡ fine own h →
      (breaks b (Own x) (told_type t) ≡ false) × (t ≡ own) × (g ≡ h)
  owned x t own at g h e =
      let p = steps e in
      let q = steps p.onward in
      let k = kept _ _ _ _ _ _ p.first in
      let l = kept _ _ _ _ _ _ q.first in
      let d = given _ _ _ _ q.onward in
      (of_own b x t (untrue _ k.0) (untrue _ l.0), d.0, k.1 ∙ l.1 ∙ d.1)

  pub record LeftSide (op : Op) (t l : Ty) (g h : Noted) : Type 0 where
    pub unbroken : breaks b (left_demand op) (told_type t) ≡ false
    pub demand : right_demand op (told_type t) ≡ right_demand op (told_type l)
    pub beside : is_equality op ≡ true → t ≡ l
    pub shapes : g.shapes ≡ h.shapes

  in_order : (op : Op) → left_demand op ≡ Ordered → (t l : Ty) (at left_at : ℕ) (g h : Noted) → ordered t at left_at g ≡ fine l h → LeftSide op t l g h
  in_order op is t l at left_at g h e =
      let p = steps e in
      let q = steps p.onward in
      let r = steps q.onward in
      let k = kept _ _ _ _ _ _ p.first in
      let m = kept _ _ _ _ _ _ q.first in
      let d = given _ _ _ _ r.onward in
      record {
        unbroken = subst (λ y. breaks b y (told_type t) ≡ false) (sym is) (of_ordered b t (untrue _ k.0) m.0);
        demand = ap (λ y. right_demand op (told_type y)) d.0;
        beside = λ _. d.0;
        shapes = ap (λ (y : Noted). y.shapes) (k.1 ∙ m.1) ∙ noted _ _ _ _ _ r.first ∙ ap (λ (y : Noted). y.shapes) d.1;
      }

  in_equation : (op : Op) → left_demand op ≡ Valued → (t l : Ty) (at left_at : ℕ) (g h : Noted) → equated t at left_at g ≡ fine l h → LeftSide op t l g h
  in_equation op is t l at left_at g h e =
      let p = steps e in
      let q = steps p.onward in
      let k = kept _ _ _ _ _ _ p.first in
      let d = given _ _ _ _ q.onward in
      record {
        unbroken = subst (λ y. breaks b y (told_type t) ≡ false) (sym is) (of_valued b t (untrue _ k.0));
        demand = ap (λ y. right_demand op (told_type y)) d.0;
        beside = λ _. d.0;
        shapes = ap (λ (y : Noted). y.shapes) k.1 ∙ noted _ _ _ _ _ q.first ∙ ap (λ (y : Noted). y.shapes) d.1;
      }

  an_int : (op : Op) → left_demand op ≡ Fits told.Int → ((one other : Ty) → right_demand op (told_type one) ≡ right_demand op (told_type other)) →
      (is_equality op ≡ true → ⊥) → (t l : Ty) (left_at : ℕ) (g h : Noted) → (expect int_type t left_at >>= λ _. give int_type) g ≡ fine l h →
      LeftSide op t l g h
  an_int op is any none t l left_at g h e =
      let p = steps e in
      let k = expected _ _ _ _ _ _ p.first in
      let d = given _ _ _ _ p.onward in
      record {
        unbroken = subst (λ y. breaks b y (told_type t) ≡ false) (sym is) k.0;
        demand = any t l;
        beside = λ h. absurd (none h);
        shapes = ap (λ (y : Noted). y.shapes) (k.1 ∙ d.1);
      }

  pub left_side_fine : (op : Op) (t l : Ty) (at left_at : ℕ) (g h : Noted) → left_side op t at left_at g ≡ fine l h → LeftSide op t l g h
  left_side_fine Less t l at left_at g h e = in_order Less refl t l at left_at g h e
  left_side_fine LessEqual t l at left_at g h e = in_order LessEqual refl t l at left_at g h e
  left_side_fine Greater t l at left_at g h e = in_order Greater refl t l at left_at g h e
  left_side_fine GreaterEqual t l at left_at g h e = in_order GreaterEqual refl t l at left_at g h e
  left_side_fine Equal t l at left_at g h e = in_equation Equal refl t l at left_at g h e
  left_side_fine NotEqual t l at left_at g h e = in_equation NotEqual refl t l at left_at g h e
  left_side_fine Plus t l at left_at g h e = an_int Plus refl (λ _ _. refl) (λ k. cc) t l left_at g h e
  left_side_fine Minus t l at left_at g h e = an_int Minus refl (λ _ _. refl) (λ k. cc) t l left_at g h e
  left_side_fine Times t l at left_at g h e = an_int Times refl (λ _ _. refl) (λ k. cc) t l left_at g h e
  left_side_fine Divide t l at left_at g h e = an_int Divide refl (λ _ _. refl) (λ k. cc) t l left_at g h e
  left_side_fine And t l at left_at g h e = an_int And refl (λ _ _. refl) (λ k. cc) t l left_at g h e
  left_side_fine Or t l at left_at g h e = an_int Or refl (λ _ _. refl) (λ k. cc) t l left_at g h e

  pub record RightSide (op : Op) (l u : Ty) (g h : Noted) : Type 0 where
    pub unbroken : breaks b (right_demand op (told_type l)) (told_type u) ≡ false
    pub beside : is_equality op ≡ true → breaks b (BesideNil (told_type l)) (told_type u) ≡ false
    pub same_noted : g ≡ h

  ordered_right : (op : Op) → ((y : Ty) → right_demand op (told_type y) ≡ Fits (told_type y)) → (is_equality op ≡ true → ⊥) → (l u : Ty) (right_at : ℕ)
      (x : Unit {0}) (g h : Noted) → expect l u right_at g ≡ fine x h → RightSide op l u g h
  ordered_right op is none l u right_at x g h e =
      let k = expected _ _ _ _ _ _ e in
      record {
        unbroken = subst (λ y. breaks b y (told_type u) ≡ false) (sym (is l)) k.0;
        beside = λ i. absurd (none i);
        same_noted = k.1;
      }

  equated_right : (op : Op) → ((y : Ty) → right_demand op (told_type y) ≡ Like (told_type y)) → (l u : Ty) (right_at whole : ℕ) (x : Unit {0}) (g h : Noted) →
      equal_sides l u right_at whole g ≡ fine x h → RightSide op l u g h
  equated_right op is l u right_at whole x g h e =
      let p = steps e in
      let q = steps p.onward in
      let k = kept _ _ _ _ _ _ p.first in
      let m = kept _ _ _ _ _ _ q.first in
      let n = kept _ _ _ _ _ _ q.onward in
      record {
        unbroken = subst (λ y. breaks b y (told_type u) ≡ false) (sym (is l)) (of_like b l u (untrue _ k.0) n.0);
        beside = λ _. of_beside b l u (untrue _ m.0);
        same_noted = k.1 ∙ m.1 ∙ n.1;
      }

  int_right : (op : Op) → ((y : Ty) → right_demand op (told_type y) ≡ Fits told.Int) → (is_equality op ≡ true → ⊥) → (t l u : Ty) (left_at right_at : ℕ)
      (m k : Noted) (x : Unit {0}) (g h : Noted) → (expect int_type t left_at >>= λ _. give int_type) m ≡ fine l k → expect l u right_at g ≡ fine x h →
      RightSide op l u g h
  int_right op is none t l u left_at right_at m k x g h i e =
      let f = expected _ _ _ _ _ _ e in
      let int : l ≡ int_type = sym (given _ _ _ _ (steps i).onward).0 in
      record {
        unbroken = subst (λ y. breaks b y (told_type u) ≡ false) (sym (is l)) (subst (λ y. breaks b (Fits (told_type y)) (told_type u) ≡ false) int f.0);
        beside = λ j. absurd (none j);
        same_noted = f.1;
      }

  pub right_side_fine : (op : Op) (t l u : Ty) (at left_at right_at whole : ℕ) (m k : Noted) (x : Unit {0}) (g h : Noted) →
      left_side op t at left_at m ≡ fine l k → right_side op l u right_at whole g ≡ fine x h → RightSide op l u g h
  right_side_fine Less t l u at left_at right_at whole m k x g h i e = ordered_right Less (λ _. refl) (λ j. cc) l u right_at x g h e
  right_side_fine LessEqual t l u at left_at right_at whole m k x g h i e = ordered_right LessEqual (λ _. refl) (λ j. cc) l u right_at x g h e
  right_side_fine Greater t l u at left_at right_at whole m k x g h i e = ordered_right Greater (λ _. refl) (λ j. cc) l u right_at x g h e
  right_side_fine GreaterEqual t l u at left_at right_at whole m k x g h i e = ordered_right GreaterEqual (λ _. refl) (λ j. cc) l u right_at x g h e
  right_side_fine Equal t l u at left_at right_at whole m k x g h i e = equated_right Equal (λ _. refl) l u right_at whole x g h e
  right_side_fine NotEqual t l u at left_at right_at whole m k x g h i e = equated_right NotEqual (λ _. refl) l u right_at whole x g h e
  right_side_fine Plus t l u at left_at right_at whole m k x g h i e = int_right Plus (λ _. refl) (λ j. cc) t l u left_at right_at m k x g h i e
  right_side_fine Minus t l u at left_at right_at whole m k x g h i e = int_right Minus (λ _. refl) (λ j. cc) t l u left_at right_at m k x g h i e
  right_side_fine Times t l u at left_at right_at whole m k x g h i e = int_right Times (λ _. refl) (λ j. cc) t l u left_at right_at m k x g h i e
  right_side_fine Divide t l u at left_at right_at whole m k x g h i e = int_right Divide (λ _. refl) (λ j. cc) t l u left_at right_at m k x g h i e
  right_side_fine And t l u at left_at right_at whole m k x g h i e = int_right And (λ _. refl) (λ j. cc) t l u left_at right_at m k x g h i e
  right_side_fine Or t l u at left_at right_at whole m k x g h i e = int_right Or (λ _. refl) (λ j. cc) t l u left_at right_at m k x g h i e
