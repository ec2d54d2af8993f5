-- A part whose checks came out fine has its type, with the shapes of the whole program known.
use Rattle.std.proofs.Common.{◌≡◌, ℕ, List, [], ◌∷◌, ◌++◌, Some, None, Bool, true, false, refl, sym, ◌∙◌, subst, append_assoc, arith}
use Rattle.std.specs.Prelude.{◌==◌, if◌then◌else◌}
use Rattle.std.specs.List.{Contains}
use Rattle.std.proofs.lemmas.Bool.{eqb-true}
use Rattle.std.proofs.lemmas.List.Elements.{Contains-append_left, Contains-append_right}
use Rattle.tg_base.specs.declared.ids.Span.{Span}
use Rattle.tg_syntax.specs.declared.trees.Op.{Op}
use Rattle.tg_syntax.specs.Tree.{Form, TypeDec, Exp, Binary, LValue, Exps, Inits, Decs, FunDecs}
use Rattle.tg_symbols.specs.Tables.{looked_up}
use Rattle.tg_typecheck.specs.declared.notes.Means.{Means}
use Rattle.tg_typecheck.specs.declared.notes.Note.{Note}
use Rattle.tg_typecheck.specs.Types.{Ty, int_type, Shape}
use Rattle.tg_typecheck.specs.Checks.{Noted}
use Rattle.tg_typecheck.specs.Scopes.{Signature, Scope}
use Rattle.tg_typecheck.specs.Has as Has
use Rattle.tg_typecheck.specs.Has.{AreApart, ShapeHasValues, ShapesHaveValues, SaysOf, Says, records, arrays, nil_and, and_nil}
use Rattle.tg_typecheck.proofs.Inversion.{noting, shaping, compared, Sides, both_ints, both_strings, both_same, Notes, one_note, no_note}
use Rattle.tg_typecheck.proofs.CheckedParts.{AddsForm, alias, fields, array, AddsForms, end_forms, a_form, Checked, nil, int, text, break, read, call}
use Rattle.tg_typecheck.proofs.CheckedParts.{neg, binary, make, fill, assign, if_else, when, while, for, block, seq, CheckedPlace, simple, field, index}
use Rattle.tg_typecheck.proofs.CheckedParts.{CheckedAll, end_args, an_arg, CheckedInits, end_inits, an_init, CheckedLast, end_lasts, a_last, CheckedDecs}
use Rattle.tg_typecheck.proofs.CheckedParts.{end_decs, type_names, variables, group, CheckedBodies, end_bodies, a_body}

-- all of these are among those
abbrev pub AreIn : List Note → List Note → Type 0
AreIn few all = (n : Note) → Contains few n → Contains all n

module _ (shapes : List (ℕ × Shape)) (notes : List Note) (apart : AreApart shapes) where
  -- the shapes so far are the end of all, which have values if these have, and the notes so far are among all
  pub record Ends (g : Noted) : Type 0 where
    pub more : List (ℕ × Shape)
    pub are : shapes ≡ more ++ g.shapes
    pub formed : ShapesHaveValues g.shapes → ShapesHaveValues shapes
    pub among : AreIn g.notes notes

  before : (at : ℕ) (m : Means) (g : Noted) → Ends (noting at m g) → Ends g
  before at m g x =
      record {
        more = x.more;
        are = x.are;
        formed = x.formed;
        among = λ n c. x.among n (Contains-append_left g.notes (record { at = at; means = m } ∷ []) n c);
      }

  said : (at : ℕ) (m : Means) (g : Noted) → Ends (noting at m g) → Says notes at m
  said at m g x =
      let n : Note = record { at = at; means = m } in
      x.among n (Contains-append_right g.notes (n ∷ []) n (0, omega arith, refl))

  before_shape : (at : ℕ) (s : Shape) (g : Noted) → ShapeHasValues s → Ends (shaping at s g) → Ends g
  before_shape at s g v x =
      record {
        more = x.more ++ (at, s) ∷ [];
        are = x.are ∙ sym (append_assoc x.more ((at, s) ∷ []) g.shapes);
        formed = λ vs. x.formed (v, vs);
        among = x.among;
      }

  named_later : (more l : List (ℕ × Shape)) (at : ℕ) (s : Shape) → AreApart (more ++ l) → looked_up at l ≡ Some s → looked_up at (more ++ l) ≡ Some s
  named_later [] l at s a e = e
  named_later (one ∷ more) l at s a e = by (one.0 == at) refl (named_later more l at s a.1 e)
    where
      by : (c : Bool) → (one.0 == at) ≡ c → looked_up at (more ++ l) ≡ Some s → (if c then Some one.1 else looked_up at (more ++ l)) ≡ Some s
      by true is r =
          let same : one.0 ≡ at = eqb-true one.0 at is in
          let n : looked_up at (more ++ l) ≡ None = subst (λ y. looked_up y (more ++ l) ≡ None) same a.0 in
          let no : None ≡ Some s = sym n ∙ r in absurd (cc)
      by false is r = r

  all_named : {g : Noted} (at : ℕ) (s : Shape) → Ends g → looked_up at g.shapes ≡ Some s → looked_up at shapes ≡ Some s
  all_named {g = g} at s x e =
      subst (λ y. looked_up at y ≡ Some s) (sym x.are) (named_later x.more g.shapes at s (subst (λ y. AreApart y) x.are apart) e)

  form_back : {at : ℕ} {form : Form} {g h : Noted} → AddsForm at form g h → Ends h → Ends g
  form_back alias x = x
  form_back {at = at} {g = g} (fields s v) x = before_shape at s g v x
  form_back {at = at} {g = g} (array s v) x = before_shape at s g v x

  forms_back : {ds : List TypeDec} {g h : Noted} → AddsForms ds g h → Ends h → Ends g
  forms_back end_forms x = x
  forms_back (a_form one rest) x = form_back one (forms_back rest x)

  -- an operator: what it notes, and its whole from its sides
  operator : {op : Op} {at : ℕ} {t : Ty} {g h : Noted} → Notes op at t g h → Ends h → Ends g × SaysOf notes op at (compared t)
  operator {at = at} {t = t} {g = g} (one_note says) x = (before at (compared t) g x, says notes (said at (compared t) g x))
  operator (no_note says) x = (x, says notes)

  whole : {s : Span} {op : Op} {at : ℕ} {a b : Exp} {scope : Scope} {t u : Ty} → Sides op t u → SaysOf notes op at (compared t) →
      Has.Has shapes notes a scope t → Has.Has shapes notes b scope u → Has.Has shapes notes (Binary s op at a b) scope int_type
  whole both_ints w h k = Has.ints w h k
  whole (both_strings c) w h k = Has.strings c w h k
  whole (both_same i records) w h k = Has.same i records w h k
  whole (both_same i arrays) w h k = Has.same i arrays w h k
  whole (both_same i nil_and) w h k = Has.same i nil_and w h k
  whole (both_same i and_nil) w h k = Has.same i and_nil w h k

  mutual
    pub derived : {e : Exp} {scope : Scope} {t : Ty} {g h : Noted} → Checked e scope t g h → Ends h → Has.Has shapes notes e scope t × Ends g
    derived nil x = (Has.nil, x)
    derived int x = (Has.int, x)
    derived text x = (Has.text, x)
    derived (break l) x = (Has.break l, x)
    derived (read v) x = let k = derived_place v x in (Has.read k.0, k.1)
    derived (call {g = g} b is callee args) x =
        let k = derived_all args x in
        (Has.call b is callee (said _ _ g k.1) k.0, before _ _ g k.1)
    derived (neg a) x = let k = derived a x in (Has.neg k.0, k.1)
    derived (binary both a o b) x =
        let k = derived b x in
        let n = operator o k.1 in
        let l = derived a n.0 in
        (whole both n.1 l.0 k.0, l.1)
    derived (make fs n inits) x = let k = derived_inits inits x in (Has.make fs (all_named _ _ k.1 n) k.0, k.1)
    derived (fill t u n size value f) x =
        let k = derived value x in
        let l = derived size k.1 in
        (Has.fill t u (all_named _ _ l.1 n) l.0 k.0 f, l.1)
    derived (assign v e f) x =
        let k = derived e x in
        let l = derived_place v k.1 in
        (Has.assign l.0 k.0 f, l.1)
    derived (if_else c a b f w) x =
        let m = derived b x in
        let l = derived a m.1 in
        let k = derived c l.1 in
        (Has.if_else k.0 l.0 m.0 f w, k.1)
    derived (when c a) x =
        let l = derived a x in
        let k = derived c l.1 in
        (Has.when k.0 l.0, k.1)
    derived (while c a) x =
        let l = derived a x in
        let k = derived c l.1 in
        (Has.while k.0 l.0, k.1)
    derived (for low high a) x =
        let m = derived a x in
        let l = derived high m.1 in
        let k = derived low l.1 in
        (Has.for k.0 l.0 m.0, k.1)
    derived (block inner ds es) x =
        let l = derived_last es x in
        let k = derived_decs ds l.1 in
        (Has.block inner k.0 l.0, k.1)
    derived (seq es) x = let k = derived_last es x in (Has.seq k.0, k.1)

    derived_place : {v : LValue} {scope : Scope} {t : Ty} {g h : Noted} → CheckedPlace v scope t g h → Ends h → Has.HasPlace shapes notes v scope t × Ends g
    derived_place (simple {g = g} at loop is) x = (Has.simple at loop is (said _ _ g x), before _ _ g x)
    derived_place (field {h = h} at fs k v n m p) x =
        let y = before _ _ h x in
        let l = derived_place v y in
        (Has.field at fs k l.0 (all_named _ _ y n) m p (said _ _ h x), l.1)
    derived_place (index at v n e) x =
        let k = derived e x in
        let l = derived_place v k.1 in
        (Has.index at l.0 (all_named _ _ k.1 n) k.0, l.1)

    derived_all : {es : Exps} {ts : List Ty} {scope : Scope} {g h : Noted} → CheckedAll es ts scope g h → Ends h →
        Has.HasAll shapes notes es ts scope × Ends g
    derived_all end_args x = (Has.end_args, x)
    derived_all (an_arg u e f rest) x =
        let k = derived_all rest x in
        let l = derived e k.1 in
        (Has.an_arg u l.0 f k.0, l.1)

    derived_inits : {es : Inits} {fs : List (ℕ × Ty)} {scope : Scope} {g h : Noted} → CheckedInits es fs scope g h → Ends h →
        Has.HasInits shapes notes es fs scope × Ends g
    derived_inits end_inits x = (Has.end_inits, x)
    derived_inits (an_init u is e f rest) x =
        let k = derived_inits rest x in
        let l = derived e k.1 in
        (Has.an_init u is l.0 f k.0, l.1)

    derived_last : {u : Ty} {es : Exps} {scope : Scope} {t : Ty} {g h : Noted} → CheckedLast u es scope t g h → Ends h →
        Has.HasLast shapes notes u es scope t × Ends g
    derived_last end_lasts x = (Has.end_lasts, x)
    derived_last (a_last u e rest) x =
        let k = derived_last rest x in
        let l = derived e k.1 in
        (Has.a_last u l.0 k.0, l.1)

    derived_decs : {ds : Decs} {scope inner : Scope} {g h : Noted} → CheckedDecs ds scope inner g h → Ends h →
        Has.HasDecs shapes notes ds scope inner × Ends g
    derived_decs end_decs x = (Has.end_decs, x)
    derived_decs (type_names names v forms rest) x = let k = derived_decs rest x in (Has.type_names names k.0, forms_back forms k.1)
    derived_decs (variables t u v e f rest) x =
        let k = derived_decs rest x in
        let l = derived e k.1 in
        (Has.variables t u v l.0 f k.0, l.1)
    derived_decs (group ss distinct bodies rest) x =
        let k = derived_decs rest x in
        let l = derived_bodies bodies k.1 in
        (Has.group ss distinct l.0 k.0, l.1)

    derived_bodies : {fs : FunDecs} {ss : List Signature} {scope : Scope} {g h : Noted} → CheckedBodies fs ss scope g h → Ends h →
        Has.HasBodies shapes notes fs ss scope × Ends g
    derived_bodies end_bodies x = (Has.end_bodies, x)
    derived_bodies (a_body u n v b body f rest) x =
        let k = derived_bodies rest x in
        let l = derived body k.1 in
        (Has.a_body u n v b l.0 f k.0, l.1)
