-- What the names of a group of types lead to, among its facts and to typing.
use Rattle.std.proofs.Common.{◌≡◌, ℕ, zero, suc, ◌+◌, ◌<◌, ◌≤◌, List, [], ◌∷◌, ◌++◌, length, map, length-append, append_assoc, append-nil, Option, Some, None}
use Rattle.std.proofs.Common.{Bool, true, false, refl, sym, ap, ◌∙◌, arith, subst, inl, inr}
use Rattle.std.specs.Prelude.{◌==◌, ◌||◌, not, if◌then◌else◌}
use Rattle.std.proofs.lemmas.Bool.{eqb-true, eq-eqb}
use Rattle.tg_base.specs.declared.ids.Span.{Span}
use Rattle.tg_syntax.specs.declared.tokens.Ident.{Ident}
use Rattle.tg_syntax.specs.declared.trees.Param.{Param}
use Rattle.tg_syntax.specs.Tree.{Form, Alias, Fields, Array, TypeDec}
use Rattle.tg_symbols.specs.Tables.{looked_up}
use Rattle.tg_semantics.specs.Environments.{name_of}
use Rattle.tg_typecheck.specs.declared.faults.TypeRule.{TypeRule}
use Rattle.tg_typecheck.specs.Types as typing
use Rattle.tg_typecheck.specs.Checks.{Noted, fine}
use Rattle.tg_typecheck.specs.Scopes.{Scope}
use Rattle.tg_typecheck.specs.Groups.{stands_in, is_some, no_repeats, names_of, declared_as, Chain, outside, ends_at, endless, link, chain, chain_of}
use Rattle.tg_typecheck.specs.Groups.{has_end, or_none, type_declared, type_at_end, with_group}
use Rattle.tg_typecheck.proofs.Inversion.{steps, kept}
use Rattle.tg_typecheck.proofs.NamedValues.{DoEnd}
use Rattle.tg_explain_typing.specs.declared.types.Ty.{Ty}
use Rattle.tg_explain_typing.specs.declared.types.Ty.TheVariants as type
use Rattle.tg_explain_typing.specs.declared.facts.Meaning.{Meaning}
use Rattle.tg_explain_typing.specs.declared.facts.Meaning.TheVariants as meaning
use Rattle.tg_explain_typing.specs.declared.facts.Fact.{Fact}
use Rattle.tg_explain_typing.specs.declared.facts.Fact.TheVariants as fact
use Rattle.tg_explain_typing.specs.Lookups.{covers, variable_type, function_type, declared_param, meaning_of}
use Rattle.tg_explain_typing.specs.Facts.{type_facts, types_facts}
use Rattle.tg_explain_types.specs.laws.Types.{told_type}
use Rattle.tg_explain_laws.proofs.Agreeing.{SeenFrom, Spelled, Stands, meaning_at, Leads, NamesAgree}
use Rattle.tg_explain_laws.proofs.Behind.{seen_here, covered, meaning_behind}
use Rattle.tg_explain_laws.proofs.Onward.{leads_longer, leads_later, leads_stay, unmeant_from, Unmeant, UnmeantBefore, Uncalled}
use Rattle.tg_explain_laws.proofs.Chains.{ends_sooner}

-- ---- names that don't repeat

pub stands_itself : (x : Ident) (earlier : List Ident) → stands_in (name_of x) (x ∷ earlier) ≡ true
stands_itself x earlier = by (name_of x == name_of x) (eq-eqb (name_of x) (name_of x) refl)
  where
    by : (c : Bool) → c ≡ true → (c || stands_in (name_of x) earlier) ≡ true
    by true e = refl
    by false e = cc

apart_from : (rule : TypeRule) (earlier names : List Ident) (y : ℕ) (x : Unit {0}) (g h : Noted) → no_repeats rule earlier names g ≡ fine x h →
    stands_in y earlier ≡ true → stands_in y names ≡ false
apart_from rule earlier [] y x g h e s = refl
apart_from rule earlier (z ∷ names) y x g h e s =
    let p = steps e in
    let k = kept _ _ _ _ _ _ p.first in
    by (name_of z == y) refl k.0 (apart_from rule (z ∷ earlier) names y x p.between h p.onward (either (name_of z == y) s))
  where
    either : (c : Bool) → stands_in y earlier ≡ true → (c || stands_in y earlier) ≡ true
    either true s = refl
    either false s = s

    by : (c : Bool) → (name_of z == y) ≡ c → not (stands_in (name_of z) earlier) ≡ true → stands_in y names ≡ false → (c || stands_in y names) ≡ false
    by true is n r =
        let same : name_of z ≡ y = eqb-true (name_of z) y is in
        let t : not (stands_in y earlier) ≡ true = subst (λ w. not (stands_in w earlier) ≡ true) same n in
        let f : not true ≡ true = subst (λ w. not w ≡ true) s t in
        absurd (cc)
    by false is n r = r

not_declared : (y : ℕ) (ds : List TypeDec) → stands_in y (names_of ds) ≡ false → declared_as y ds ≡ None
not_declared y [] e = refl
not_declared y (d ∷ ds) e = by (name_of d.name == y) e (not_declared y ds)
  where
    by : (c : Bool) → (c || stands_in y (names_of ds)) ≡ false → (stands_in y (names_of ds) ≡ false → declared_as y ds ≡ None) →
        (if c then Some d else declared_as y ds) ≡ None
    by true e r = cc
    by false e r = r e

pub none_declared : (x : ℕ) (ds : List TypeDec) → declared_as x ds ≡ None → stands_in x (names_of ds) ≡ false
none_declared x [] e = refl
none_declared x (d ∷ ds) e = by (name_of d.name == x) (none_declared x ds) e
  where
    by : (c : Bool) → (declared_as x ds ≡ None → stands_in x (names_of ds) ≡ false) → (if c then Some d else declared_as x ds) ≡ None →
        (c || stands_in x (names_of ds)) ≡ false
    by true r e = cc
    by false r e = r e

abbrev pub Distinct : List TypeDec → Type 0
Distinct [] = Unit {0}
Distinct (d ∷ ds) = (declared_as (name_of d.name) ds ≡ None) × Distinct ds

pub distinct : (rule : TypeRule) (earlier : List Ident) (ds : List TypeDec) (x : Unit {0}) (g h : Noted) →
    no_repeats rule earlier (names_of ds) g ≡ fine x h → Distinct ds
distinct rule earlier [] x g h e = tt
distinct rule earlier (d ∷ ds) x g h e =
    let p = steps e in (
      not_declared (name_of d.name) ds
          (apart_from rule (d.name ∷ earlier) (names_of ds) (name_of d.name) x p.between h p.onward (stands_itself d.name earlier)),
      distinct rule (d.name ∷ earlier) ds x p.between h p.onward,
    )

pub declared_name : (x : ℕ) (ds : List TypeDec) (d : TypeDec) → declared_as x ds ≡ Some d → name_of d.name ≡ x
declared_name x [] d e = cc
declared_name x (one ∷ ds) d e = by (name_of one.name == x) refl e (declared_name x ds d)
  where
    by : (c : Bool) → (name_of one.name == x) ≡ c → (if c then Some one else declared_as x ds) ≡ Some d → (declared_as x ds ≡ Some d → name_of d.name ≡ x) →
        name_of d.name ≡ x
    by true i e r = sym (ap (λ o. name_in o) e) ∙ eqb-true (name_of one.name) x i
      where
        name_in : Option TypeDec → ℕ
        name_in (Some k) = name_of k.name
        name_in None = name_of one.name
    by false i e r = r e

-- ---- the facts of a group

abbrev pub meaning_declared : TypeDec → Meaning
meaning_declared d =
    elim d.form [
      | Alias x ↦ meaning.Alias x
      | Fields _ ↦ meaning.Known (type.Record d.name.span.from)
      | Array _ ↦ meaning.Known (type.Array d.name.span.from)
    ]

abbrev pub fields_told : (at : ℕ) → List Param → List Fact
fields_told at ps = map (λ p. fact.Field at p) ps

abbrev pub parts_told : (at : ℕ) → Form → List Fact
parts_told at (Alias x) = []
parts_told at (Fields ps) = fields_told at ps
parts_told at (Array x) = fact.Element at x ∷ []

abbrev pub form_told : TypeDec → (seen : Span) → List Fact
form_told d seen = fact.TypeName d.name (meaning_declared d) seen ∷ parts_told d.name.span.from d.form

abbrev pub types_told : List TypeDec → (seen : Span) → List Fact
types_told [] seen = []
types_told (d ∷ ds) seen = form_told d seen ++ types_told ds seen

form_is : (name : Ident) (form : Form) (seen : Span) (facts : List Fact) →
    type_facts (record { name = name; form = form }) seen facts ≡ facts ++ form_told (record { name = name; form = form }) seen
unfolding type_facts
form_is name (Alias x) seen facts = refl
form_is name (Fields ps) seen facts =
    append_assoc facts (fact.TypeName name (meaning.Known (type.Record name.span.from)) seen ∷ []) (map (λ p. fact.Field name.span.from p) ps)
form_is name (Array x) seen facts =
    append_assoc facts (fact.TypeName name (meaning.Known (type.Array name.span.from)) seen ∷ []) (fact.Element name.span.from x ∷ [])

pub types_are : (ds : List TypeDec) (seen : Span) (facts : List Fact) → types_facts ds seen facts ≡ facts ++ types_told ds seen
types_are [] seen facts = sym (append-nil facts)
types_are (d ∷ ds) seen facts =
    ap (λ l. types_facts ds seen l) (form_is d.name d.form seen facts)
    ∙ (types_are ds seen (facts ++ form_told d seen) ∙ append_assoc facts (form_told d seen) (types_told ds seen))

-- a fact of types alone, that is seen from a byte on
abbrev pub OnTypes : (from : ℕ) → List Fact → Type 0
OnTypes from [] = Unit {0}
OnTypes from (fact.TypeName _ _ seen ∷ facts) = (from ≤ seen.from) × OnTypes from facts
OnTypes from (fact.Field _ _ ∷ facts) = OnTypes from facts
OnTypes from (fact.Element _ _ ∷ facts) = OnTypes from facts
OnTypes from (_ ∷ facts) = ⊥

on_both : (from : ℕ) (a b : List Fact) → OnTypes from a → OnTypes from b → OnTypes from (a ++ b)
on_both from [] b h k = k
on_both from (fact.TypeName _ _ _ ∷ a) b h k = (h.0, on_both from a b h.1 k)
on_both from (fact.Field _ _ ∷ a) b h k = on_both from a b h k
on_both from (fact.Element _ _ ∷ a) b h k = on_both from a b h k
on_both from (_ ∷ a) b h k = absurd h

fields_on : (from at : ℕ) (ps : List Param) → OnTypes from (fields_told at ps)
fields_on from at [] = tt
fields_on from at (p ∷ ps) = fields_on from at ps

parts_on : (from at : ℕ) (form : Form) → OnTypes from (parts_told at form)
parts_on from at (Alias x) = tt
parts_on from at (Fields ps) = fields_on from at ps
parts_on from at (Array x) = tt

pub types_on : (from : ℕ) (ds : List TypeDec) (seen : Span) → from ≤ seen.from → OnTypes from (types_told ds seen)
types_on from [] seen i = tt
types_on from (d ∷ ds) seen i = on_both from (form_told d seen) (types_told ds seen) (i, parts_on from d.name.span.from d.form) (types_on from ds seen i)

pub on_seen : (from : ℕ) (facts : List Fact) → OnTypes from facts → SeenFrom from facts
on_seen from [] h = tt
on_seen from (fact.TypeName _ _ _ ∷ facts) h = (h.0, on_seen from facts h.1)
on_seen from (fact.Field _ _ ∷ facts) h = on_seen from facts h
on_seen from (fact.Element _ _ ∷ facts) h = on_seen from facts h
on_seen from (_ ∷ facts) h = absurd h

pub on_variable : (from : ℕ) (facts : List Fact) (x : Ident) (o : Ty) → OnTypes from facts → variable_type x facts o ≡ o
on_variable from [] x o h = refl
on_variable from (fact.TypeName _ _ _ ∷ facts) x o h = on_variable from facts x o h.1
on_variable from (fact.Field _ _ ∷ facts) x o h = on_variable from facts x o h
on_variable from (fact.Element _ _ ∷ facts) x o h = on_variable from facts x o h
on_variable from (_ ∷ facts) x o h = absurd h

on_function : (from : ℕ) (facts : List Fact) (x : Ident) (o : Ty) → OnTypes from facts → function_type x facts o ≡ o
on_function from [] x o h = refl
on_function from (fact.TypeName _ _ _ ∷ facts) x o h = on_function from facts x o h.1
on_function from (fact.Field _ _ ∷ facts) x o h = on_function from facts x o h
on_function from (fact.Element _ _ ∷ facts) x o h = on_function from facts x o h
on_function from (_ ∷ facts) x o h = absurd h

on_param : (from : ℕ) (facts : List Fact) (x : Ident) (index : ℕ) (o : Ty) → OnTypes from facts → declared_param x index facts o ≡ o
on_param from [] x index o h = refl
on_param from (fact.TypeName _ _ _ ∷ facts) x index o h = on_param from facts x index o h.1
on_param from (fact.Field _ _ ∷ facts) x index o h = on_param from facts x index o h
on_param from (fact.Element _ _ ∷ facts) x index o h = on_param from facts x index o h
on_param from (_ ∷ facts) x index o h = absurd h

pub on_calls : (from : ℕ) (facts : List Fact) (f : Ident) → OnTypes from facts → Uncalled facts f
on_calls from facts f h = record { result = λ o. on_function from facts f o h; param = λ k o. on_param from facts f k o h }

-- a group has a fact for each of its names at least
pub told_length : (ds : List TypeDec) (seen : Span) → length ds ≤ length (types_told ds seen)
told_length [] seen = omega arith
told_length (d ∷ ds) seen =
    omega (arith, told_length ds seen, length-append (parts_told d.name.span.from d.form) (types_told ds seen))

-- ---- what a name means, in the order of the facts and in the group

fields_unmeant : (at : ℕ) (ps : List Param) (x : Ident) (o : Meaning) → meaning_of x (fields_told at ps) o ≡ o
fields_unmeant at [] x o = refl
fields_unmeant at (p ∷ ps) x o = fields_unmeant at ps x o

parts_unmeant : (at : ℕ) (form : Form) (x : Ident) (o : Meaning) → meaning_of x (parts_told at form) o ≡ o
parts_unmeant at (Alias y) x o = refl
parts_unmeant at (Fields ps) x o = fields_unmeant at ps x o
parts_unmeant at (Array y) x o = refl

abbrev pub meaning_in : Option TypeDec → Meaning → Meaning
meaning_in None o = o
meaning_in (Some d) o = meaning_declared d

pub meaning_told : (ds : List TypeDec) (seen : Span) (x : Ident) → covers seen x.span.from ≡ true → Distinct ds → (o : Meaning) →
    meaning_of x (types_told ds seen) o ≡ meaning_in (declared_as (name_of x) ds) o
meaning_told [] seen x c a o = refl
meaning_told (d ∷ ds) seen x c a o =
    meaning_behind x (form_told d seen) (types_told ds seen) o
    ∙ (ap (λ m. meaning_of x (types_told ds seen) m)
    (parts_unmeant d.name.span.from d.form x _ ∙ seen_here (d.name.name.0 == x.name.0) (covers seen x.span.from) (meaning_declared d) o c)
    ∙ (meaning_told ds seen x c a.1 (if name_of d.name == name_of x then meaning_declared d else o)
    ∙ settled (name_of d.name == name_of x) refl))
  where
    settled : (c : Bool) → (name_of d.name == name_of x) ≡ c →
        meaning_in (declared_as (name_of x) ds) (if c then meaning_declared d else o) ≡ meaning_in (if c then Some d else declared_as (name_of x) ds) o
    settled true i =
        let same : name_of d.name ≡ name_of x = eqb-true (name_of d.name) (name_of x) i in
        let none : declared_as (name_of x) ds ≡ None = ap (λ n. declared_as n ds) (sym same) ∙ a.0 in
        ap (λ p. meaning_in p (meaning_declared d)) none
    settled false i = refl

abbrev pub type_in : (group : List TypeDec) → (outer : Scope) → Option TypeDec → Option typing.Ty → Option typing.Ty
type_in group outer None o = o
type_in group outer (Some d) o = Some (type_at_end (chain_of group d.name) outer)

pub types_in : (group ds : List TypeDec) (outer inner : Scope) (x : ℕ) → Distinct ds →
    looked_up x (with_group group ds outer inner).types ≡ type_in group outer (declared_as x ds) (looked_up x inner.types)
types_in group [] outer inner x a = refl
types_in group (d ∷ ds) outer inner x a =
    let t = type_at_end (chain_of group d.name) outer in
    types_in group ds outer (record inner { types = (name_of d.name, t) ∷ inner.types }) x a.1 ∙ settled t (name_of d.name == x) refl refl
  where
    settled : (t : typing.Ty) (c : Bool) → (name_of d.name == x) ≡ c → t ≡ type_at_end (chain_of group d.name) outer →
        type_in group outer (declared_as x ds) (if c then Some t else looked_up x inner.types)
        ≡ type_in group outer (if c then Some d else declared_as x ds) (looked_up x inner.types)
    settled t true i e =
        let same : name_of d.name ≡ x = eqb-true (name_of d.name) x i in
        let none : declared_as x ds ≡ None = ap (λ n. declared_as n ds) (sym same) ∙ a.0 in
        ap (λ p. type_in group outer p (Some t)) none ∙ ap (λ u. Some u) e
    settled t false i e = refl

pub group_bindings : (group ds : List TypeDec) (outer inner : Scope) → (with_group group ds outer inner).bindings ≡ inner.bindings
group_bindings group [] outer inner = refl
group_bindings group (d ∷ ds) outer inner =
    group_bindings group ds outer (record inner { types = (name_of d.name, type_at_end (chain_of group d.name) outer) ∷ inner.types })

pub the_end : (group ds : List TypeDec) (x : ℕ) (d : TypeDec) → DoEnd group ds → declared_as x ds ≡ Some d → has_end (chain_of group d.name) ≡ true
the_end group [] x d h e = cc
the_end group (one ∷ ds) x d h e = by (name_of one.name == x) e (the_end group ds x d h.1)
  where
    by : (c : Bool) → (if c then Some one else declared_as x ds) ≡ Some d → (declared_as x ds ≡ Some d → has_end (chain_of group d.name) ≡ true) →
        has_end (chain_of group d.name) ≡ true
    by true e r = let same : one ≡ d = the_one (Some one) e in subst (λ (k : TypeDec). has_end (chain_of group k.name) ≡ true) same h.0
      where
        the_one : (o : Option TypeDec) → o ≡ Some d → one ≡ d
        the_one o k = cc
    by false e r = r e

found : {A : Type 0} (o : Option A) → is_some o ≡ true → (a : A) × (o ≡ Some a)
found None e = cc
found (Some a) e = (a, refl)

-- ---- the names of a group, and those outside, where the group is seen

module _ (names : List (List ℕ)) (text : List ℕ) (from to next : ℕ) (facts : List Fact) (scope : Scope) (ds : List TypeDec) (seen : Span) where
  abbrev pub all_told : List Fact
  all_told = facts ++ types_told ds seen

  abbrev pub inner_scope : Scope
  inner_scope = with_group ds ds scope scope

  -- a name that is declared in the group, or outside
  pub record Inside (x : Ident) : Type 0 where
    pub is_spelled : Spelled names text x
    pub after : seen.from ≤ x.span.from
    pub before : x.span.from < seen.to
    pub is_known : declared_as (name_of x) ds ≡ None → is_some (looked_up (name_of x) scope.types) ≡ true

  -- one that stands in the group
  abbrev pub InGroup : Ident → Type 0
  InGroup x = Inside x × (x.span.from < next)

  abbrev pub ParamsInGroup : List Param → Type 0
  ParamsInGroup [] = Unit {0}
  ParamsInGroup (p ∷ ps) = InGroup p.kind × ParamsInGroup ps

  abbrev pub FormInGroup : Form → Type 0
  FormInGroup (Alias x) = InGroup x
  FormInGroup (Fields ps) = ParamsInGroup ps
  FormInGroup (Array x) = InGroup x

  abbrev pub FormsInGroup : List TypeDec → Type 0
  FormsInGroup [] = Unit {0}
  FormsInGroup (d ∷ rest) = FormInGroup d.form × FormsInGroup rest

  form_in_group : (rest : List TypeDec) (x : ℕ) (d : TypeDec) → FormsInGroup rest → declared_as x rest ≡ Some d → FormInGroup d.form
  form_in_group [] x d h e = cc
  form_in_group (one ∷ rest) x d h e = by (name_of one.name == x) e (form_in_group rest x d h.1)
    where
      by : (c : Bool) → (if c then Some one else declared_as x rest) ≡ Some d → (declared_as x rest ≡ Some d → FormInGroup d.form) → FormInGroup d.form
      by true e r = let same : one ≡ d = the_one (Some one) e in subst (λ (k : TypeDec). FormInGroup k.form) same h.0
        where
          the_one : (o : Option TypeDec) → o ≡ Some d → one ≡ d
          the_one o k = cc
      by false e r = r e

  module _ (agree : NamesAgree names text from to facts scope) (apart : Distinct ds) (forms : FormsInGroup ds) (low : from ≤ seen.from) (high : seen.to ≤ to)
      (on : from ≤ next) where
    told_meaning : (x : Ident) → Inside x → meaning_at text all_told x ≡ meaning_in (declared_as (name_of x) ds) (meaning_at text facts x)
    told_meaning x i = meaning_behind x facts (types_told ds seen) _ ∙ meaning_told ds seen x (covered seen x.span.from i.after i.before) apart _

    not_meant : UnmeantBefore from (types_told ds seen)
    not_meant = unmeant_from from (types_told ds seen) (on_seen from (types_told ds seen) (types_on from ds seen low))

    -- what a chain's end says of a name, over so many links
    abbrev Ends : (n : ℕ) → Chain → Ident → Type 0
    Ends n (outside z) w =
        (k : ℕ) → n + length facts ≤ suc k → (t : typing.Ty) × (looked_up z scope.types ≡ Some t) × Leads text all_told next k w (told_type t)
    Ends n (ends_at d) w = (k : ℕ) → n ≤ k → Leads text all_told next k w (told_type (type_declared d))
    Ends n endless w = Unit {0}

    from_outside : (n : ℕ) (w : Ident) → Inside w → declared_as (name_of w) ds ≡ None → Ends (suc n) (outside (name_of w)) w
    from_outside n w i e k h =
        let f = found (looked_up (name_of w) scope.types) (i.is_known e) in
        let stands : Stands names text from to w =
        record { is_spelled = i.is_spelled; after = omega (arith, low, i.after); before = omega (arith, high, i.before) } in
        let unmeant : Unmeant (types_told ds seen) w =
        λ o. meaning_told ds seen w (covered seen w.span.from i.after i.before) apart o ∙ ap (λ d. meaning_in d o) e in (
          f.0,
          f.1,
          leads_later text all_told from next k w (told_type f.0) on
              (leads_longer text all_told from (length facts) k w (told_type f.0) (omega (arith, h))
              (leads_stay text facts (types_told ds seen) from (length facts) w (told_type f.0) not_meant unmeant (agree.types w stands f.0 f.1))),
        )

    -- one link more
    link_on : (m : ℕ) (w y : Ident) (c : Chain) → meaning_at text all_told w ≡ meaning.Alias y → y.span.from < next → Ends (suc m) c y → Ends (suc (suc m)) c w
    link_on m w y (outside z) e l a = by
      where
        by : (k : ℕ) → suc (suc m) + length facts ≤ suc k →
            (t : typing.Ty) × (looked_up z scope.types ≡ Some t) × Leads text all_told next k w (told_type t)
        by zero h = absurd (omega (arith, h))
        by (suc k) h = let r = a k (omega (arith, h)) in (r.0, r.1, inr (y, e, l, r.2))
    link_on m w y (ends_at d) e l a = by
      where
        by : (k : ℕ) → suc (suc m) ≤ k → Leads text all_told next k w (told_type (type_declared d))
        by zero h = absurd (omega (arith, h))
        by (suc k) h = inr (y, e, l, a k (omega (arith, h)))
    link_on m w y endless e l a = tt

    from_alias : (n : ℕ) (w y : Ident) → meaning_at text all_told w ≡ meaning.Alias y → y.span.from < next → Ends n (chain n ds (name_of y)) y →
        Ends (suc n) (chain n ds (name_of y)) w
    from_alias zero w y e l a = tt
    from_alias (suc m) w y e l a = link_on m w y (chain (suc m) ds (name_of y)) e l a

    from_form : (n : ℕ) (w z : Ident) (form : Form) → meaning_at text all_told w ≡ meaning_declared (record { name = z; form = form }) → FormInGroup form →
        ((y : Ident) → Inside y → Ends n (chain n ds (name_of y)) y) →
        Ends (suc n) (link (λ y. chain n ds y) (name_of w) (Some (record { name = z; form = form }))) w
    from_form n w z (Alias y) e g r = from_alias n w y e g.1 (r y g.0)
    from_form n w z (Fields ps) e g r = by
      where
        by : (k : ℕ) → suc n ≤ k → Leads text all_told next k w (type.Record z.span.from)
        by zero h = absurd (omega (arith, h))
        by (suc k) h = inl e
    from_form n w z (Array y) e g r = by
      where
        by : (k : ℕ) → suc n ≤ k → Leads text all_told next k w (type.Array z.span.from)
        by zero h = absurd (omega (arith, h))
        by (suc k) h = inl e

    from_link : (n : ℕ) (w : Ident) → Inside w → (o : Option TypeDec) → declared_as (name_of w) ds ≡ o →
        ((y : Ident) → Inside y → Ends n (chain n ds (name_of y)) y) → Ends (suc n) (link (λ y. chain n ds y) (name_of w) o) w
    from_link n w i None e r = from_outside n w i e
    from_link n w i (Some d) e r =
        from_form n w d.name d.form (told_meaning w i ∙ ap (λ p. meaning_in p (meaning_at text facts w)) e) (form_in_group ds (name_of w) d forms e) r

    pub chains_lead : (n : ℕ) (w : Ident) → Inside w → Ends n (chain n ds (name_of w)) w
    chains_lead zero w i = tt
    chains_lead (suc n) w i = from_link n w i (declared_as (name_of w) ds) refl (λ y j. chains_lead n y j)

    -- ---- to what names lead

    -- what an inner name means to typing, and where it leads to
    abbrev pub IsTold : Option typing.Ty → Ident → Type 0
    IsTold o x = (t : typing.Ty) × (o ≡ Some t) × Leads text all_told next (length all_told) x (told_type t)

    many : length ds + length facts ≤ length all_told
    many = omega (arith, told_length ds seen, length-append facts (types_told ds seen))

    by_chain : (x : Ident) → Inside x → (c : Chain) → chain (suc (length ds)) ds (name_of x) ≡ c → has_end c ≡ true →
        IsTold (Some (type_at_end c scope)) x
    by_chain x i (outside z) e h =
        let all = subst (λ c. Ends (suc (length ds)) c x) e (chains_lead (suc (length ds)) x i) in
        let r = all (length all_told) (omega (arith, many)) in
        (r.0, ap (λ o. Some (or_none o)) r.1, r.2)
    by_chain x i (ends_at d) e h =
        let all = subst (λ c. Ends (length ds) c x) (ends_sooner ds (name_of x) d e) (chains_lead (length ds) x i) in
        (type_declared d, refl, all (length all_told) (omega (arith, many)))
    by_chain x i endless e h = cc

    by_declared : (x : Ident) → Inside x → DoEnd ds ds → (o : Option TypeDec) → declared_as (name_of x) ds ≡ o →
        IsTold (type_in ds scope o (looked_up (name_of x) scope.types)) x
    by_declared x i h None e =
        let r = from_outside (length ds) x i e (length all_told) (omega (arith, many)) in
        (r.0, r.1, r.2)
    by_declared x i h (Some d) e =
        let same : name_of d.name ≡ name_of x = declared_name (name_of x) ds d e in
        let is : chain (suc (length ds)) ds (name_of x) ≡ chain_of ds d.name = ap (λ n. chain (suc (length ds)) ds n) (sym same) in
        by_chain x i (chain_of ds d.name) is (the_end ds ds (name_of x) d h e)

    pub inner_told : (x : Ident) → Inside x → DoEnd ds ds → IsTold (looked_up (name_of x) inner_scope.types) x
    inner_told x i h =
        subst (λ o. IsTold o x) (sym (types_in ds ds scope scope (name_of x) apart)) (by_declared x i h (declared_as (name_of x) ds) refl)
