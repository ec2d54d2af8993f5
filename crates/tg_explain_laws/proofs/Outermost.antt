-- The outermost scope means the same to typing and where there are no facts yet.
use Rattle.std.proofs.Common.{◌≡◌, ℕ, zero, suc, ◌+◌, List, [], ◌∷◌, ◌++◌, Option, Some, None, Bool, true, false, refl, sym, ap, ◌∙◌, arith, subst}
use Rattle.std.specs.Prelude.{◌==◌, if◌then◌else◌, codes}
use Rattle.std.specs.List.{slice_get}
use Rattle.std.specs.Str.{bytes_eq}
use Rattle.std.proofs.lemmas.Bool.{eqb-true}
use Rattle.std.proofs.lemmas.Slice.Eq.{bytes_eq-Decides}
use Rattle.tg_syntax.specs.declared.tokens.Ident.{Ident}
use Rattle.tg_symbols.specs.Tables.{looked_up}
use Rattle.tg_semantics.specs.declared.standards.Standard.{Standard}
use Rattle.tg_semantics.specs.declared.standards.Standard.TheVariants.{Print, Flush, Getchar, Ord, Chr, Size, Substring, Concat, Not, Exit}
use Rattle.tg_semantics.specs.Environments.{name_of, standard_text, standards}
use Rattle.tg_typecheck.specs.Types as typing
use Rattle.tg_typecheck.specs.Scopes.{Signature, Binding, variable_at, function_at, standard_one, signature, standard_of, type_of_text, entry}
use Rattle.tg_typecheck.specs.Scopes.{standard_bindings, standard_types, outermost_scope}
use Rattle.tg_explain_typing.specs.declared.types.Ty.{Ty}
use Rattle.tg_explain_typing.specs.declared.types.Ty.TheVariants as type
use Rattle.tg_explain_typing.specs.declared.facts.Meaning.TheVariants as meaning
use Rattle.tg_explain_typing.specs.Standards.{outermost_type, standard_result, standard_param}
use Rattle.tg_explain_typing.specs.Lookups.{spelled}
use Rattle.tg_explain_types.specs.laws.Types.{told_type}
use Rattle.tg_explain_laws.proofs.Agreeing.{ParamsAgree, CallsAgree, NamesAgree, Agrees}

-- ---- entries of the outermost scope

module _ {A B : Type 0} (f : A → B) (meant : List ℕ → Option A) where
  abbrev pub all_entries : ℕ → List (List ℕ) → List (ℕ × B)
  all_entries n [] = []
  all_entries n (word ∷ names) = entry f n (meant word) ++ all_entries (suc n) names

  -- a name that means something is that of a word that does
  pub record Means (n x : ℕ) (names : List (List ℕ)) (b : B) : Type 0 where
    pub place : ℕ
    pub is_name : x ≡ n + place
    pub word : List ℕ
    pub there : slice_get names place ≡ Some word
    pub one : A
    pub is_meant : meant word ≡ Some one
    pub is : f one ≡ b

  one_on : (n x : ℕ) (word : List ℕ) (names : List (List ℕ)) (b : B) → Means (suc n) x names b → Means n x (word ∷ names) b
  one_on n x word names b m = record {
    place = suc m.place;
    is_name = omega (arith, m.is_name);
    word = m.word;
    there = m.there;
    one = m.one;
    is_meant = m.is_meant;
    is = m.is;
  }

  pub entry_means : (n x : ℕ) (names : List (List ℕ)) (b : B) → looked_up x (all_entries n names) ≡ Some b → Means n x names b
  entry_means n x [] b e = cc
  entry_means n x (word ∷ names) b e = by (meant word) refl e (λ h. one_on n x word names b (entry_means (suc n) x names b h))
    where
      here : (a : A) → meant word ≡ Some a → (c : Bool) → (n == x) ≡ c → (if c then Some (f a) else looked_up x (all_entries (suc n) names)) ≡ Some b →
          (looked_up x (all_entries (suc n) names) ≡ Some b → Means n x (word ∷ names) b) → Means n x (word ∷ names) b
      here a m true i h r =
          let same : n ≡ x = eqb-true n x i in record {
            place = zero;
            is_name = omega (arith, same);
            word = word;
            there = refl;
            one = a;
            is_meant = m;
            is = ap (λ o. unwrap o) h;
          }
        where
          unwrap : Option B → B
          unwrap (Some v) = v
          unwrap None = f a
      here a m false i h r = r h

      by : (o : Option A) → meant word ≡ o → looked_up x (entry f n o ++ all_entries (suc n) names) ≡ Some b →
          (looked_up x (all_entries (suc n) names) ≡ Some b → Means n x (word ∷ names) b) → Means n x (word ∷ names) b
      by None m h r = r h
      by (Some a) m h r = here a m (n == x) refl h r

bindings_are : (n : ℕ) (names : List (List ℕ)) →
    standard_bindings n names ≡ all_entries standard_one (λ word. standard_of word standards) n names
bindings_are n [] = refl
bindings_are n (word ∷ names) = ap (λ l. entry standard_one n (standard_of word standards) ++ l) (bindings_are (suc n) names)

types_are : (n : ℕ) (names : List (List ℕ)) → standard_types n names ≡ all_entries (λ (t : typing.Ty). t) type_of_text n names
types_are n [] = refl
types_are n (word ∷ names) = ap (λ l. entry (λ (t : typing.Ty). t) n (type_of_text word) ++ l) (types_are (suc n) names)

-- ---- words

spelled_as : (word : List ℕ) (all : List Standard) (g : Standard) → standard_of word all ≡ Some g → word ≡ standard_text g
spelled_as word [] g e = cc
spelled_as word (f ∷ all) g e = by (bytes_eq word (standard_text f)) refl e (λ h. spelled_as word all g h)
  where
    by : (c : Bool) → bytes_eq word (standard_text f) ≡ c → (if c then Some f else standard_of word all) ≡ Some g →
        (standard_of word all ≡ Some g → word ≡ standard_text g) → word ≡ standard_text g
    by true i h r = (bytes_eq-Decides word (standard_text f)).0 i ∙ ap (λ o. text_of o) h
      where
        text_of : Option Standard → List ℕ
        text_of (Some k) = standard_text k
        text_of None = standard_text f
    by false i h r = r h

type_is : (word : List ℕ) (t : typing.Ty) → type_of_text word ≡ Some t → outermost_type word ≡ told_type t
type_is word t e = by (bytes_eq word (codes "int")) (bytes_eq word (codes "string")) e
  where
    by : (a b : Bool) → (if a then Some typing.int_type else if b then Some typing.string_type else None) ≡ Some t →
        (if a then type.Int else if b then type.Text else type.Nothing) ≡ told_type t
    by true b e = ap (λ o. told o) e
      where
        told : Option typing.Ty → Ty
        told (Some u) = told_type u
        told None = type.Int
    by false true e = ap (λ o. told o) e
      where
        told : Option typing.Ty → Ty
        told (Some u) = told_type u
        told None = type.Text
    by false false e = cc

-- ---- standard functions

result_is : (g : Standard) → standard_result (standard_text g) ≡ told_type (signature g).result
result_is Print = refl
result_is Flush = refl
result_is Getchar = refl
result_is Ord = refl
result_is Chr = refl
result_is Size = refl
result_is Substring = refl
result_is Concat = refl
result_is Not = refl
result_is Exit = refl

abbrev ParamsAre : (word : List ℕ) → (index : ℕ) → List typing.Ty → Type 0
ParamsAre word index [] = Unit {0}
ParamsAre word index (t ∷ ts) = (standard_param word index ≡ told_type t) × ParamsAre word (suc index) ts

params_are : (g : Standard) → ParamsAre (standard_text g) 0 (signature g).params
params_are Print = (refl, tt)
params_are Flush = tt
params_are Getchar = tt
params_are Ord = (refl, tt)
params_are Chr = (refl, tt)
params_are Size = (refl, tt)
params_are Substring = (refl, (refl, (refl, tt)))
params_are Concat = (refl, (refl, tt))
params_are Not = (refl, tt)
params_are Exit = (refl, tt)

params_agree : (text : List ℕ) (f : Ident) (index : ℕ) (ts : List typing.Ty) → ParamsAre (spelled text f.span) index ts → ParamsAgree text [] f index ts
params_agree text f index [] h = tt
params_agree text f index (t ∷ ts) h = (h.0, params_agree text f (suc index) ts h.1)

call_agrees : (text : List ℕ) (f : Ident) (g : Standard) → spelled text f.span ≡ standard_text g → CallsAgree text [] f (signature g)
call_agrees text f g e = record {
  result = ap (λ w. standard_result w) e ∙ result_is g;
  params = params_agree text f 0 (signature g).params (subst (λ w. ParamsAre w 0 (signature g).params) (sym e) (params_are g));
}

-- ---- the start

one_option : {A : Type 0} (a b : A) → Some a ≡ Some b → a ≡ b
one_option {A = A} a b e = ap (λ o. unwrap o) e
  where
    unwrap : Option A → A
    unwrap (Some v) = v
    unwrap None = a

no_variable : {g : Standard} {at : ℕ} {t : typing.Ty} {loop : Bool} → standard_one g ≡ variable_at at t loop → ⊥
no_variable e = cc

no_function : {g : Standard} {at : ℕ} {s : Signature} → standard_one g ≡ function_at at s → ⊥
no_function e = cc

abbrev standard_in : (default : Standard) → Binding → Standard
standard_in default (variable_at at t loop) = default
standard_in default (function_at at s) = default
standard_in default (standard_one g) = g

module _ (names : List (List ℕ)) (text : List ℕ) where
  abbrev BindingMeans : (x : ℕ) → Binding → Type 0
  BindingMeans x b = Means standard_one (λ word. standard_of word standards) 0 x names b

  abbrev binding_means : (x : ℕ) (b : Binding) → looked_up x (standard_bindings 0 names) ≡ Some b → BindingMeans x b
  binding_means x b e = entry_means standard_one (λ word. standard_of word standards) 0 x names b (ap (λ l. looked_up x l) (sym (bindings_are 0 names)) ∙ e)

  -- the word at a name's place is the one that is spelled
  the_word : (x place : ℕ) (word spelling : List ℕ) → x ≡ 0 + place → slice_get names place ≡ Some word → slice_get names x ≡ Some spelling → spelling ≡ word
  the_word x place word spelling e i j =
      let same : x ≡ place = omega (arith, e) in
      one_option spelling word (sym j ∙ (ap (λ k. slice_get names k) same ∙ i))

  pub names_outermost : (to : ℕ) → NamesAgree names text 0 to [] (outermost_scope names)
  names_outermost to = record {
    variables = λ x h at t loop e. absurd (no_variable (binding_means (name_of x) (variable_at at t loop) e).is);
    functions = λ f h at s e. absurd (no_function (binding_means (name_of f) (function_at at s) e).is);
    standards = λ f h g e.
        let m = binding_means (name_of f) (standard_one g) e in
        let same : m.one ≡ g = ap (λ b. standard_in g b) m.is in
        let word : spelled text f.span ≡ m.word = the_word (name_of f) m.place m.word (spelled text f.span) m.is_name m.there h.is_spelled in
        call_agrees text f g (word ∙ (spelled_as m.word standards m.one m.is_meant ∙ ap (λ k. standard_text k) same));
    types = λ x h t e.
        let m = entry_means (λ (u : typing.Ty). u) type_of_text 0 (name_of x) names t (ap (λ l. looked_up (name_of x) l) (sym (types_are 0 names)) ∙ e) in
        let word : spelled text x.span ≡ m.word = the_word (name_of x) m.place m.word (spelled text x.span) m.is_name m.there h.is_spelled in
        let told : outermost_type (spelled text x.span) ≡ told_type t =
        ap (λ w. outermost_type w) word ∙ (type_is m.word m.one m.is_meant ∙ ap (λ u. told_type u) m.is) in
        (ap (λ u. meaning.Known u) told, told);
  }

  pub outermost_agrees : (to : ℕ) → Agrees names text 0 to [] (outermost_scope names) (record { shapes = []; notes = [] })
  outermost_agrees to = record {
    named = names_outermost to;
    shaped = record { records = λ at fields e. cc; arrays = λ at t e. cc; owners = tt };
  }
