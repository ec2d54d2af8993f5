-- What an action of the translation takes of its frame and adds to the program, and how far goes what it gives.
use Rattle.std.proofs.Common.{◌≡◌, ◌≤◌, ◌+◌, ◌*◌, ℕ, suc, List, [], ◌∷◌, ◌++◌, length, map, refl, sym, ap, ◌∙◌, subst, append_assoc, append-nil, arith}
use Rattle.std.specs.Prelude.{◌-◌}
use Rattle.std.specs.List.{AllZip}
use Rattle.std.proofs.lemmas.List.{map-append}
use Rattle.tg_syntax.specs.Functions.{Measures}
use Rattle.tg_tree.specs.Tree.{Ts, Function}
use Rattle.tg_tree.specs.Memory.{string_text}
use Rattle.tg_translate.specs.mirror.States.{TranslationState, Translated, drawn, Translates, after, give, fresh}
use Rattle.tg_translate.specs.mirror.Functions.{with_body, finish}
use Rattle.tg_translate_laws.specs.Accesses.{AccessesWithin}
use Rattle.tg_translate_laws.specs.laws.Laws.{FunctionIsWithin}
use Rattle.tg_translate_laws.proofs.Actions.{answer, left}
use Rattle.tg_translate_laws.proofs.Fine.{Each, each_append}
use Rattle.tg_translate_laws.proofs.Sized.{Gives, SmallBody}

-- of a text: the slots and temporaries of its frame, its strings, and of the functions that it declares how many
-- variables escape, and their measures
pub record Cost : Type 0 where
  pub slots : ℕ
  pub temps : ℕ
  pub texts : List (List ℕ)
  pub counts : List ℕ
  pub functions : List Measures

abbrev pub and : Cost → Cost → Cost
and m k = record {
  slots = m.slots + k.slots;
  temps = m.temps + k.temps;
  texts = m.texts ++ k.texts;
  counts = m.counts ++ k.counts;
  functions = m.functions ++ k.functions;
}

abbrev pub costs : (slots temps : ℕ) → List (List ℕ) → List ℕ → List Measures → Cost
costs slots temps texts counts functions = record { slots = slots; temps = temps; texts = texts; counts = counts; functions = functions }

-- of what draws temporaries alone, and of declarations of functions
abbrev pub draws : ℕ → Cost
draws n = costs 0 n [] [] []

abbrev pub adds : List (List ℕ) → List ℕ → List Measures → Cost
adds texts counts functions = costs 0 0 texts counts functions

abbrev pub texts : TranslationState → List (List ℕ)
texts s = map (λ l. l.text) s.literals

abbrev pub HasSlots : ℕ → Function Ts → Type 0
HasSlots n f = f.slots ≤ n + 1

-- frames of trees have no words for arguments
abbrev pub PassesNothing : Function Ts → Type 0
PassesNothing f = f.out ≡ 0

-- functions are added, function by function within what their texts allow
pub record Adds (counts : List ℕ) (ms : List Measures) (s t : TranslationState) : Type 0 where
  pub added : List (Function Ts)
  pub behind : t.functions ≡ s.functions ++ added
  pub slots : AllZip HasSlots counts added
  pub within : AllZip FunctionIsWithin ms added
  pub passing : Each PassesNothing added

pub record Takes {A : Type 0} (m : Cost) (V : A → Type 0) (s : TranslationState) (d : Translated A) : Type 0 where
  pub value : V (answer d)
  pub slots : (left d).frame.slots ≤ s.frame.slots + m.slots
  pub temps : (left d).frame.temps ≤ s.frame.temps + m.temps
  pub params : (left d).frame.params ≡ s.frame.params
  pub out : (left d).frame.out ≡ s.frame.out
  pub texts : texts (left d) ≡ texts s ++ map string_text m.texts
  pub functions : Adds m.counts m.functions s (left d)

-- Lists that fit stay so, one after another.

zip_append : {A B : Type 0} (R : A → B → Type 0) (xs xs' : List A) (ys ys' : List B) → AllZip R xs ys → AllZip R xs' ys' → AllZip R (xs ++ xs') (ys ++ ys')
zip_append R [] xs' [] ys' h k = k
zip_append R [] xs' (y ∷ ys) ys' h k = absurd h
zip_append R (x ∷ xs) xs' [] ys' h k = absurd h
zip_append R (x ∷ xs) xs' (y ∷ ys) ys' h k = (h.0, zip_append R xs xs' ys ys' h.1 k)

texts_on : (xs ys zs : List (List ℕ)) (a b : List (List ℕ)) → ys ≡ xs ++ map string_text a → zs ≡ ys ++ map string_text b →
    zs ≡ xs ++ map string_text (a ++ b)
texts_on xs ys zs a b e h =
    h ∙ (ap (λ l. l ++ map string_text b) e ∙ (append_assoc xs (map string_text a) (map string_text b) ∙ ap (λ l. xs ++ l) (sym (map-append string_text a b))))

adds_on : (s t u : TranslationState) (xs ys : List ℕ) (ms ns : List Measures) → Adds xs ms s t → Adds ys ns t u → Adds (xs ++ ys) (ms ++ ns) s u
adds_on s t u xs ys ms ns h k = record {
  added = h.added ++ k.added;
  behind = k.behind ∙ (ap (λ fs. fs ++ k.added) h.behind ∙ append_assoc s.functions h.added k.added);
  slots = zip_append HasSlots xs ys h.added k.added h.slots k.slots;
  within = zip_append FunctionIsWithin ms ns h.added k.added h.within k.within;
  passing = each_append PassesNothing h.added k.added h.passing k.passing;
}

pub adds_none : (s t : TranslationState) → t.functions ≡ s.functions → Adds [] [] s t
adds_none s t e = record { added = []; behind = e ∙ sym (append-nil s.functions); slots = tt; within = tt; passing = tt }

-- Actions follow one another.

pub both : {A B : Type 0} {m k : Cost} {V : A → Type 0} {W : B → Type 0} {s : TranslationState} {d : Translated A} {next : A → Translates B} → Takes m V s d →
    ((a : A) (t : TranslationState) → V a → Takes k W t (next a t)) → Takes (and m k) W s (after d next)
both {m = m} {k = k} {s = s} {d = drawn a t} {next = next} h f =
    let g = f a t h.value in
    let u : TranslationState = left (next a t) in
    record {
      value = g.value;
      slots = let x = h.slots in let y = g.slots in omega (arith, x, y);
      temps = let x = h.temps in let y = g.temps in omega (arith, x, y);
      params = g.params ∙ h.params;
      out = g.out ∙ h.out;
      texts = texts_on (texts s) (texts t) (texts u) m.texts k.texts h.texts g.texts;
      functions = adds_on s t u m.counts k.counts m.functions k.functions h.functions g.functions;
    }

-- What costs as much, or less.
pub at_most : {A : Type 0} {V : A → Type 0} {s : TranslationState} {d : Translated A} (m k : Cost) → m.slots ≤ k.slots → m.temps ≤ k.temps →
    m.texts ≡ k.texts → m.counts ≡ k.counts → m.functions ≡ k.functions → Takes m V s d → Takes k V s d
at_most {s = s} {d = d} m k l i e c f h =
    let u : TranslationState = left d in
    record {
      value = h.value;
      slots = let x = h.slots in omega (arith, x, l);
      temps = let x = h.temps in omega (arith, x, i);
      params = h.params;
      out = h.out;
      texts = h.texts ∙ ap (λ xs. texts s ++ map string_text xs) e;
      functions = subst (λ xs. Adds xs k.functions s u) c (subst (λ ms. Adds m.counts ms s u) f h.functions);
    }

pub more : {A : Type 0} {m : Cost} {k : ℕ} {V : A → Type 0} {s : TranslationState} {d : Translated A} → m.temps ≤ k →
    Takes m V s d → Takes (record m { temps = k }) V s d
more {m = m} {k = k} l h = at_most m (record m { temps = k }) (omega arith) l refl refl refl h

pub then_draws : {A B : Type 0} {m : Cost} {k : ℕ} {V : A → Type 0} {W : B → Type 0} {s : TranslationState} {d : Translated A} {next : A → Translates B} → Takes m V s d →
    ((a : A) (t : TranslationState) → V a → Takes (draws k) W t (next a t)) → Takes (record m { temps = m.temps + k }) W s (after d next)
then_draws {m = m} {k = k} h f =
    at_most (and m (draws k)) (record m { temps = m.temps + k })
    (omega arith) (omega arith) (append-nil m.texts) (append-nil m.counts) (append-nil m.functions) (both h f)

pub then_quiet : {A B : Type 0} {m : Cost} {V : A → Type 0} {W : B → Type 0} {s : TranslationState} {d : Translated A} {next : A → Translates B} → Takes m V s d →
    ((a : A) (t : TranslationState) → V a → Takes (draws 0) W t (next a t)) → Takes m W s (after d next)
then_quiet {m = m} h f = at_most (record m { temps = m.temps + 0 }) m (omega arith) (omega arith) refl refl refl (then_draws h f)

pub draws_then : {A B : Type 0} {m : Cost} {k : ℕ} {V : A → Type 0} {W : B → Type 0} {s : TranslationState} {d : Translated A} {next : A → Translates B} →
    Takes (draws k) V s d →
    ((a : A) (t : TranslationState) → V a → Takes m W t (next a t)) → Takes (record m { temps = k + m.temps }) W s (after d next)
draws_then {m = m} {k = k} h f = at_most (and (draws k) m) (record m { temps = k + m.temps }) (omega arith) (omega arith) refl refl refl (both h f)

pub quiet_then : {A B : Type 0} {m : Cost} {V : A → Type 0} {W : B → Type 0} {s : TranslationState} {d : Translated A} {next : A → Translates B} → Takes (draws 0) V s d →
    ((a : A) (t : TranslationState) → V a → Takes m W t (next a t)) → Takes m W s (after d next)
quiet_then {m = m} h f = at_most (record m { temps = 0 + m.temps }) m (omega arith) (omega arith) refl refl refl (draws_then h f)

pub adds_then : {A B : Type 0} {m : Cost} {texts : List (List ℕ)} {counts : List ℕ} {functions : List Measures} {V : A →
    Type 0} {W : B → Type 0} {s : TranslationState}
    {d : Translated A} {next : A → Translates B} → Takes (adds texts counts functions) V s d →
    ((a : A) (t : TranslationState) → V a → Takes m W t (next a t)) →
    Takes (record m { texts = texts ++ m.texts; counts = counts ++ m.counts; functions = functions ++ m.functions }) W s (after d next)
adds_then {m = m} {texts = texts} {counts = counts} {functions = functions} h f =
    at_most (and (adds texts counts functions) m) (record m { texts = texts ++ m.texts; counts = counts ++ m.counts; functions = functions ++ m.functions })
    (omega arith) (omega arith) refl refl refl (both h f)

-- Single actions.

-- what leaves all but the frame as it is, and draws so much of that
pub keeps : {A : Type 0} {V : A → Type 0} (a : A) (slots temps : ℕ) (s t : TranslationState) → V a →
    t.frame.slots ≤ s.frame.slots + slots → t.frame.temps ≤ s.frame.temps + temps → t.frame.params ≡ s.frame.params → t.frame.out ≡ s.frame.out →
    t.literals ≡ s.literals → t.functions ≡ s.functions → Takes (record (draws temps) { slots = slots }) V s (drawn a t)
keeps a slots temps s t v l k p o e f = record {
  value = v;
  slots = l;
  temps = k;
  params = p;
  out = o;
  texts = ap (map (λ l. l.text)) e ∙ sym (append-nil (texts s));
  functions = adds_none s t f;
}

pub gives : {A : Type 0} {V : A → Type 0} (s : TranslationState) (a : A) → V a → Takes (draws 0) V s (give a s)
gives s a v = keeps a 0 0 s s v (omega arith) (omega arith) refl refl refl refl

pub draws_one : (s : TranslationState) → Takes (draws 1) (λ t. Unit {0}) s (fresh s)
draws_one s = keeps s.frame.temps 0 1 s (left (fresh s)) tt (omega arith) (omega arith) refl refl refl refl

-- A function stands before those that its text adds.

-- with the variables of its own that escape, and its measures
abbrev pub enclosed : (count : ℕ) → Measures → Cost → Cost
enclosed count i m = adds m.texts (count ∷ m.counts) (i ∷ m.functions)

added_first : (s t u : TranslationState) (x : Ts) (counts : List ℕ) (ms : List Measures) (count : ℕ) (i : Measures) →
    t.functions ≡ [] → u.frame.slots ≤ count + 1 → u.frame.out ≡ 0 →
    FunctionIsWithin i (with_body u.frame x) → Adds counts ms t u → Adds (count ∷ counts) (i ∷ ms) s (left (finish s (drawn x u)))
added_first s t u x counts ms count i e l o w h =
    let f : Function Ts = with_body u.frame x in
    record {
      added = f ∷ h.added;
      behind = ap (λ fs. s.functions ++ f ∷ fs) (h.behind ∙ ap (λ fs. fs ++ h.added) e);
      slots = (l, h.slots);
      within = (w, h.within);
      passing = (o, h.passing);
    }

-- what a function has is within what its text allows, where its body is
pub within_frame : {m : Cost} (t : TranslationState) {x : Ts} {u : TranslationState} (i : Measures) →
    length t.frame.params ≤ i.nodes - i.size + 1 → t.frame.out ≡ 0 → t.frame.slots + m.slots ≤ i.nodes + 1 →
    t.frame.temps + m.temps ≤ 6 * i.nodes + 1 → (i.level ≤ 32 → SmallBody i.size x) →
    Takes m (AccessesWithin (suc i.level)) t (drawn x u) → FunctionIsWithin i (with_body u.frame x)
within_frame t i p o a b small h =
    let c = h.slots in
    let e = h.temps in
    let f = ap (λ xs. length xs) h.params in
    let g = h.out in
    record {
      slots = omega (arith, a, c);
      temps = omega (arith, b, e);
      accesses = h.value;
      short = λ l. let k = small l in omega (arith, k.0, p, f);
      small = λ l. let k = small l in omega (arith, k.1, p, f, o, g, a, b, c, e);
      shallow = λ l. let k = small l in omega (arith, k.2);
    }

pub finished : {m : Cost} (s t : TranslationState) {d : Translated Ts} (own : ℕ) (i : Measures) → t.functions ≡ [] → t.literals ≡ s.literals →
    length t.frame.params ≤ i.nodes - i.size + 1 → t.frame.out ≡ 0 → t.frame.slots ≤ own + 1 →
    own + m.slots ≤ i.nodes → t.frame.temps + m.temps ≤ 6 * i.nodes + 1 → (i.level ≤ 32 → Gives (SmallBody i.size) d) →
    Takes m (AccessesWithin (suc i.level)) t d → Takes (enclosed (own + m.slots) i m) (λ x. Unit {0}) s (finish s d)
finished {m = m} s t {d = drawn x u} own i e q p o l k j small h =
    let a = h.slots in
    let slots : u.frame.slots ≤ own + m.slots + 1 = omega (arith, a, l) in
    record {
      value = tt;
      slots = omega arith;
      temps = omega arith;
      params = refl;
      out = refl;
      texts = h.texts ∙ ap (λ ls. map (λ l. l.text) ls ++ map string_text m.texts) q;
      functions =
          added_first s t u x m.counts m.functions (own + m.slots) i e slots (h.out ∙ o)
          (within_frame t i p o (omega (arith, l, k)) j (λ n. (small n).value) h) h.functions;
    }
