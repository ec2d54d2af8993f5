-- Values, objects and names of a program whose ints are words: ints below 2^32, and strings of fewer bytes than that.
use Rattle.std.proofs.Common.{◌≡◌, ℕ, zero, suc, ◌^◌, ◌<◌, ◌==◌, List, [], ◌∷◌, ◌++◌, length, Option, Some, None, Bool, true, false}
use Rattle.std.proofs.Common.{nat_lt, refl, subst, arith}
use Rattle.std.specs.Prelude.{if◌then◌else◌, slice_get, slice_set, take, drop, replicate, ◌&&◌}
use Rattle.std.specs.Str.{bytes_eq}
use Rattle.std.specs.List.{All}
use Rattle.std.proofs.lemmas.Bool.{ltb-true}
use Rattle.tg_syntax.specs.OfWords.{OfWords, PlaceOfWords, ExpsOfWords, InitsOfWords, DecsOfWords, BodiesOfWords}
use Rattle.tg_syntax.specs.Tree.{Exp, LValue, Exps, Inits, Decs, FunDecs, no_functions, function}
use Rattle.tg_semantics.specs.Values.{Value, int, string, Object, fields, elements, Entry, variable, group, standard, Env}
use Rattle.tg_semantics.specs.Environments.{SourceFunction, Bound, to_function, function_named, find, name_of}
use Rattle.tg_semantics.specs.Environments.{standards, standards_of, standard_text, outermost_from, or_beyond, to_variable, to_standard}
use Rattle.tg_semantics.specs.Operators.{truth, is_below, get_field, set_field, field_in, element_in, with_field, with_element}
use Rattle.tg_semantics.specs.Evaluation.{Job, run_function, repeat_while, repeat_for}
use Rattle.tg_semantics.specs.declared.standards.Standard.{Standard}
use Rattle.tg_translate_laws.proofs.Fine.{Each}
use Rattle.tg_translate_laws.specs.Strings.{strings, place_strings, exps_strings, inits_strings, decs_strings, bodies_strings}

-- Lists.

pub each_front : {A : Type 0} (P : A → Type 0) (xs ys : List A) → Each P (xs ++ ys) → Each P xs
each_front P [] ys h = tt
each_front P (x ∷ xs) ys h = (h.0, each_front P xs ys h.1)

pub each_back : {A : Type 0} (P : A → Type 0) (xs ys : List A) → Each P (xs ++ ys) → Each P ys
each_back P [] ys h = h
each_back P (x ∷ xs) ys h = each_back P xs ys h.1

pub each_take : {A : Type 0} (P : A → Type 0) (n : ℕ) (xs : List A) → Each P xs → Each P (take n xs)
each_take P zero xs h = tt
each_take P (suc n) [] h = tt
each_take P (suc n) (x ∷ xs) h = (h.0, each_take P n xs h.1)

pub each_drop : {A : Type 0} (P : A → Type 0) (n : ℕ) (xs : List A) → Each P xs → Each P (drop n xs)
each_drop P zero xs h = h
each_drop P (suc n) [] h = tt
each_drop P (suc n) (x ∷ xs) h = each_drop P n xs h.1

pub each_replicate : {A : Type 0} (P : A → Type 0) (n : ℕ) (a : A) → P a → Each P (replicate n a)
each_replicate P zero a h = tt
each_replicate P (suc n) a h = (h, each_replicate P n a h)

pub each_set : {A : Type 0} (P : A → Type 0) (xs : List A) (i : ℕ) (a : A) → Each P xs → P a → Each P (slice_set xs i a)
each_set P [] i a h p = tt
each_set P (x ∷ xs) zero a h p = (p, h.1)
each_set P (x ∷ xs) (suc i) a h p = (h.0, each_set P xs i a h.1 p)

pub each_get : {A : Type 0} (P : A → Type 0) (xs : List A) (i : ℕ) (a : A) → Each P xs → slice_get xs i ≡ Some a → P a
each_get P [] i a h e = cc
each_get P (x ∷ xs) zero a h e = let same : x ≡ a = cc in subst P same h.0
each_get P (x ∷ xs) (suc i) a h e = each_get P xs i a h.1 e

pub each_of_all : {A : Type 0} (P : A → Type 0) (xs : List A) → All P xs → Each P xs
each_of_all P [] h = tt
each_of_all P (x ∷ xs) h = (h 0 x (omega arith), each_of_all P xs (λ k d lt. h (suc k) d (omega (arith, lt))))

-- Values and objects.

abbrev pub IsByte : ℕ → Type 0
IsByte b = b < 256

abbrev pub HasShortLength : List ℕ → Type 0
HasShortLength bytes = length bytes < 2 ^ 32

abbrev pub IsShortString : List ℕ → Type 0
IsShortString bytes = Each IsByte bytes × HasShortLength bytes

abbrev pub IsSmallValue : Value → Type 0
IsSmallValue (int n) = n < 2 ^ 32
IsSmallValue (string bytes) = IsShortString bytes
IsSmallValue _ = Unit {0}

abbrev pub IsSmallPart : ℕ × Value → Type 0
IsSmallPart part = IsSmallValue part.1

abbrev pub IsSmallObject : Object → Type 0
IsSmallObject (fields parts) = Each IsSmallPart parts
IsSmallObject (elements values) = Each IsSmallValue values

pub truth_small : (b : Bool) → IsSmallValue (truth b)
truth_small true = omega arith
truth_small false = omega arith

right_true : (a b : Bool) → (a && b) ≡ true → b ≡ true
right_true true b e = e
right_true false b e = cc

pub below_is : (i n : ℕ) → is_below i n ≡ true → i < n
below_is i n e = ltb-true i n (right_true _ (nat_lt i n) e)

part_small : (f : ℕ) (parts : List (ℕ × Value)) (v : Value) → Each IsSmallPart parts → get_field f parts ≡ Some v → IsSmallValue v
part_small f [] v h e = cc
part_small f (part ∷ rest) v h e = by (part.0 == f) (λ q. part_small f rest v h.1 q) e
  where
    by : (b : Bool) → (get_field f rest ≡ Some v → IsSmallValue v) → (if b then Some part.1 else get_field f rest) ≡ Some v → IsSmallValue v
    by true k q = let same : part.1 ≡ v = cc in subst IsSmallValue same h.0
    by false k q = k q

part_put : (f : ℕ) (v : Value) (parts : List (ℕ × Value)) → Each IsSmallPart parts → IsSmallValue v → Each IsSmallPart (set_field f v parts)
part_put f v [] h p = tt
part_put f v (part ∷ rest) h p = by (part.0 == f) (part_put f v rest h.1 p)
  where
    by : (b : Bool) → Each IsSmallPart (set_field f v rest) → Each IsSmallPart (if b then (f, v) ∷ rest else part ∷ set_field f v rest)
    by true k = (p, h.1)
    by false k = (h.0, k)

pub field_small : (f : ℕ) (o : Object) (v : Value) → IsSmallObject o → field_in f o ≡ Some v → IsSmallValue v
field_small f (fields parts) v h e = part_small f parts v h e
field_small f (elements values) v h e = cc

pub element_small : (i : ℕ) (o : Object) (v : Value) → IsSmallObject o → element_in i o ≡ Some v → IsSmallValue v
element_small i (fields parts) v h e = cc
element_small i (elements values) v h e = each_get IsSmallValue values i v h e

pub field_put : (f : ℕ) (v : Value) (o : Object) → IsSmallObject o → IsSmallValue v → IsSmallObject (with_field f v o)
field_put f v (fields parts) h p = part_put f v parts h p
field_put f v (elements values) h p = h

pub element_put : (i : ℕ) (v : Value) (o : Object) → IsSmallObject o → IsSmallValue v → IsSmallObject (with_element i v o)
element_put i v (fields parts) h p = h
element_put i v (elements values) h p = each_set IsSmallValue values i v h p

-- Texts: ints are words, strings are bytes and short.

abbrev pub IsFitExp : Exp → Type 0
IsFitExp e = OfWords e × Each HasShortLength (strings e)

abbrev pub IsFitPlace : LValue → Type 0
IsFitPlace v = PlaceOfWords v × Each HasShortLength (place_strings v)

abbrev pub AreFitExps : Exps → Type 0
AreFitExps es = ExpsOfWords es × Each HasShortLength (exps_strings es)

abbrev pub AreFitInits : Inits → Type 0
AreFitInits is = InitsOfWords is × Each HasShortLength (inits_strings is)

abbrev pub AreFitDecs : Decs → Type 0
AreFitDecs ds = DecsOfWords ds × Each HasShortLength (decs_strings ds)

abbrev pub AreFitBodies : FunDecs → Type 0
AreFitBodies fs = BodiesOfWords fs × Each HasShortLength (bodies_strings fs)

-- Names.

abbrev pub AreFitEntries : List Entry → Type 0
AreFitEntries [] = Unit {0}
AreFitEntries (group l fs ∷ es) = AreFitBodies fs × AreFitEntries es
AreFitEntries (e ∷ es) = AreFitEntries es

abbrev pub IsFitBound : Bound → Type 0
IsFitBound (to_function l f seen) = IsFitExp f.body × AreFitEntries seen
IsFitBound _ = Unit {0}

abbrev pub IsFitEnv : Env → Type 0
IsFitEnv env = AreFitEntries env.entries

function_fit : (x : ℕ) (fs : FunDecs) (f : SourceFunction) → AreFitBodies fs → function_named x fs ≡ Some f → IsFitExp f.body
function_fit x no_functions f h e = cc
function_fit x (function g params r body rest) f h e =
    by (name_of g == x) (λ q. function_fit x rest f (h.0.1, each_back HasShortLength (strings body) (bodies_strings rest) h.1) q) e
  where
    by : (b : Bool) → (function_named x rest ≡ Some f → IsFitExp f.body) →
        (if b then Some (record { params = params; body = body }) else function_named x rest) ≡ Some f → IsFitExp f.body
    by true k q =
        let same : record { params = params; body = body } ≡ f = cc in
        subst (λ (o : SourceFunction). IsFitExp o.body) same (h.0.0, each_front HasShortLength (strings body) (bodies_strings rest) h.1)
    by false k q = k q

some_is : {A : Type 0} (a b : A) → Some a ≡ Some b → a ≡ b
some_is a b e = cc

one_fit : (x : ℕ) (b : Bool) (c d : Bound) (rest : List Entry) → IsFitBound c → (find x rest ≡ Some d → IsFitBound d) →
    (if b then Some c else find x rest) ≡ Some d → IsFitBound d
one_fit x true c d rest h k e = subst IsFitBound (some_is c d e) h
one_fit x false c d rest h k e = k e

pub found_fit : (x : ℕ) (es : List Entry) (d : Bound) → AreFitEntries es → find x es ≡ Some d → IsFitBound d
found_fit x [] d h e = cc
found_fit x (variable y level place ∷ rest) d h e = one_fit x (y == x) (to_variable level place) d rest tt (λ q. found_fit x rest d h q) e
found_fit x (group level fs ∷ rest) d h e =
    by (function_named x fs) (λ f q. function_fit x fs f h.0 q) (λ q. found_fit x rest d h.1 q) e
  where
    by : (o : Option SourceFunction) → ((f : SourceFunction) → o ≡ Some f → IsFitExp f.body) → (find x rest ≡ Some d → IsFitBound d) →
        or_beyond o level (group level fs ∷ rest) (find x rest) ≡ Some d → IsFitBound d
    by (Some f) k g q = subst IsFitBound (some_is (to_function level f (group level fs ∷ rest)) d q) (k f refl, h)
    by None k g q = g q
found_fit x (standard y f ∷ rest) d h e = one_fit x (y == x) (to_standard f) d rest tt (λ q. found_fit x rest d h q) e

one_standard : (n : ℕ) (text : List ℕ) (fs : List Standard) (es : List Entry) → AreFitEntries es → AreFitEntries (standards_of text n fs ++ es)
one_standard n text [] es h = h
one_standard n text (f ∷ fs) es h = by (bytes_eq text (standard_text f)) (one_standard n text fs es h)
  where
    by : (b : Bool) → AreFitEntries (standards_of text n fs ++ es) → AreFitEntries ((if b then standard n f ∷ [] else standards_of text n fs) ++ es)
    by true k = h
    by false k = k

pub outermost_fit : (n : ℕ) (names : List (List ℕ)) → AreFitEntries (outermost_from n names)
outermost_fit n [] = tt
outermost_fit n (text ∷ names) = one_standard n text standards (outermost_from (suc n) names) (outermost_fit (suc n) names)

-- what stands after a unit of fuel
abbrev pub IsFitJob : Job → Type 0
IsFitJob (run_function level f seen args) = IsFitExp f.body × AreFitEntries seen × Each IsSmallValue args
IsFitJob (repeat_while test body env) = IsFitExp test × IsFitExp body × IsFitEnv env
IsFitJob (repeat_for place high body env) = IsFitExp body × IsFitEnv env
