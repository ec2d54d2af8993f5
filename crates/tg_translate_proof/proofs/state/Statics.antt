-- The statics of an accepted program, whose strings are bytes, are bytes; and each literal is the
-- first with its label.
use Rattle.std.proofs.Common.{◌≡◌, ◌<◌, ◌≤◌, ◌+◌, ◌-◌, ◌%◌, ℕ, zero, suc, Some, List, [], ◌∷◌, ◌++◌, length, map, refl, ap, ◌∙◌, arith, subst, inl, inr}
use Rattle.std.specs.Prelude.{if◌then◌else◌, replicate}
use Rattle.std.specs.List.{Contains}
use Rattle.std.specs.Int.{to_le_bytes, w32}
use Rattle.std.proofs.lemmas.Bool.{cases_eq, eq-eqb, ne_eqb}
use Rattle.std.proofs.lemmas.List.{length-append, get_or-append-add}
use Rattle.std.proofs.lemmas.List.Elements.{All-append, All-replicate}
use Rattle.tg_machine_state.specs.State.{padded}
use Rattle.tg_syntax.specs.OfWords.{OfWords, PlaceOfWords, ExpsOfWords, InitsOfWords, DecsOfWords, BodiesOfWords}
use Rattle.tg_syntax.specs.Tree.{Exp, Nil, Break, Int, Text, Read, Call, Neg, Binary, Make, Fill, Assign, If, When, While, For, Let, Seq, LValue, Simple}
use Rattle.tg_syntax.specs.Tree.{Field, Index, Exps, no_exps, exp, Inits, no_inits, init, Decs, no_decs, types, variable, functions, FunDecs}
use Rattle.tg_syntax.specs.Tree.{no_functions, function}
use Rattle.tg_simulation.specs.Bytes.{AreBytes}
use Rattle.tg_tree.specs.Tree.{Literal}
use Rattle.tg_tree.specs.Memory.{statics_of, string_text}
use Rattle.tg_translate_laws.specs.Strings.{strings, place_strings, exps_strings, inits_strings, decs_strings, bodies_strings}
use Rattle.tg_translate_laws.proofs.Counts.{same, times, same_self}
use Rattle.tg_runtime_proof.proofs.Literals.{text_of}

-- each of these is a list of bytes
abbrev pub AllBytes : List (List ℕ) → Type 0
AllBytes [] = Unit {0}
AllBytes (x ∷ xs) = AreBytes x × AllBytes xs

both_bytes : (xs ys : List (List ℕ)) → AllBytes xs → AllBytes ys → AllBytes (xs ++ ys)
both_bytes [] ys h k = k
both_bytes (x ∷ xs) ys h k = (h.0, both_bytes xs ys h.1 k)

mutual
  pub strings_are_bytes : (e : Exp) → OfWords e → AllBytes (strings e)
  strings_are_bytes (Nil _) h = tt
  strings_are_bytes (Break _) h = tt
  strings_are_bytes (Int _ _) h = tt
  strings_are_bytes (Text _ bytes) h = (h, tt)
  strings_are_bytes (Read _ v) h = place_bytes v h
  strings_are_bytes (Call _ _ es) h = exps_bytes es h
  strings_are_bytes (Neg _ a) h = strings_are_bytes a h
  strings_are_bytes (Binary _ _ _ a b) h = both_bytes (strings a) (strings b) (strings_are_bytes a h.0) (strings_are_bytes b h.1)
  strings_are_bytes (Make _ _ is) h = inits_bytes is h
  strings_are_bytes (Fill _ _ a b) h = both_bytes (strings a) (strings b) (strings_are_bytes a h.0) (strings_are_bytes b h.1)
  strings_are_bytes (Assign _ v a) h = both_bytes (place_strings v) (strings a) (place_bytes v h.0) (strings_are_bytes a h.1)
  strings_are_bytes (If _ c a b) h =
      both_bytes (strings c) (strings a ++ strings b) (strings_are_bytes c h.0)
      (both_bytes (strings a) (strings b) (strings_are_bytes a h.1) (strings_are_bytes b h.2))
  strings_are_bytes (When _ c a) h = both_bytes (strings c) (strings a) (strings_are_bytes c h.0) (strings_are_bytes a h.1)
  strings_are_bytes (While _ c a) h = both_bytes (strings c) (strings a) (strings_are_bytes c h.0) (strings_are_bytes a h.1)
  strings_are_bytes (For _ _ l m a) h =
      both_bytes (strings l) (strings m ++ strings a) (strings_are_bytes l h.0)
      (both_bytes (strings m) (strings a) (strings_are_bytes m h.1) (strings_are_bytes a h.2))
  strings_are_bytes (Let _ ds es) h = both_bytes (decs_strings ds) (exps_strings es) (decs_bytes ds h.0) (exps_bytes es h.1)
  strings_are_bytes (Seq _ es) h = exps_bytes es h

  place_bytes : (v : LValue) → PlaceOfWords v → AllBytes (place_strings v)
  place_bytes (Simple _) h = tt
  place_bytes (Field v _) h = place_bytes v h
  place_bytes (Index v e) h = both_bytes (place_strings v) (strings e) (place_bytes v h.0) (strings_are_bytes e h.1)

  exps_bytes : (es : Exps) → ExpsOfWords es → AllBytes (exps_strings es)
  exps_bytes no_exps h = tt
  exps_bytes (exp e rest) h = both_bytes (strings e) (exps_strings rest) (strings_are_bytes e h.0) (exps_bytes rest h.1)

  inits_bytes : (is : Inits) → InitsOfWords is → AllBytes (inits_strings is)
  inits_bytes no_inits h = tt
  inits_bytes (init _ e rest) h = both_bytes (strings e) (inits_strings rest) (strings_are_bytes e h.0) (inits_bytes rest h.1)

  decs_bytes : (ds : Decs) → DecsOfWords ds → AllBytes (decs_strings ds)
  decs_bytes no_decs h = tt
  decs_bytes (types _ rest) h = decs_bytes rest h
  decs_bytes (variable _ _ e rest) h = both_bytes (strings e) (decs_strings rest) (strings_are_bytes e h.0) (decs_bytes rest h.1)
  decs_bytes (functions fs rest) h = both_bytes (bodies_strings fs) (decs_strings rest) (bodies_bytes fs h.0) (decs_bytes rest h.1)

  bodies_bytes : (fs : FunDecs) → BodiesOfWords fs → AllBytes (bodies_strings fs)
  bodies_bytes no_functions h = tt
  bodies_bytes (function _ _ _ e rest) h = both_bytes (strings e) (bodies_strings rest) (strings_are_bytes e h.0) (bodies_bytes rest h.1)

-- Strings as they stand in the statics.

abbrev IsByte : ℕ → Type 0
IsByte b = b < 256

word_is_bytes : (n : ℕ) → AreBytes (to_le_bytes w32 n)
word_is_bytes n zero d lt = omega arith
word_is_bytes n (suc zero) d lt = omega arith
word_is_bytes n (suc (suc zero)) d lt = omega arith
word_is_bytes n (suc (suc (suc zero))) d lt = omega arith
word_is_bytes n (suc (suc (suc (suc k)))) d lt = absurd (omega (arith, lt))

text_is_bytes : (bytes : List ℕ) → AreBytes bytes → AreBytes (string_text bytes)
text_is_bytes bytes h = All-append IsByte (to_le_bytes w32 (length bytes)) bytes (word_is_bytes (length bytes)) h

pub texts_are_bytes : (ss : List (List ℕ)) → AllBytes ss → AllBytes (map string_text ss)
texts_are_bytes [] h = tt
texts_are_bytes (s ∷ ss) h = (text_is_bytes s h.0, texts_are_bytes ss h.1)

-- a string's own bytes, after its length
text_bytes : (bytes : List ℕ) → AreBytes (string_text bytes) → AreBytes bytes
text_bytes bytes h k d lt =
    let long = length-append (to_le_bytes w32 (length bytes)) bytes in
    let four : length (to_le_bytes w32 (length bytes)) ≡ 4 = refl in
    subst (λ b. b < 256) (get_or-append-add (to_le_bytes w32 (length bytes)) bytes k d) (h (4 + k) d (omega (arith, lt, long, four)))

pub literal_bytes : (ls : List Literal) (l : Literal) → AllBytes (map (λ o. o.text) ls) → Contains ls l → AreBytes l.text
literal_bytes [] l h c = absurd (omega (arith, c.1))
literal_bytes (o ∷ ls) l h (zero, lt, e) = subst (λ q. AreBytes q.text) e h.0
literal_bytes (o ∷ ls) l h (suc k, lt, e) = literal_bytes ls l h.1 (k, omega arith, e)

pub string_bytes : (ls : List Literal) (label : ℕ) (bytes : List ℕ) → AllBytes (map (λ o. o.text) ls) →
    Contains ls (record { label = label; text = string_text bytes }) → AreBytes bytes
string_bytes ls label bytes h c = text_bytes bytes (literal_bytes ls (record { label = label; text = string_text bytes }) h c)

pub statics_are_bytes : (ls : List Literal) → AllBytes (map (λ o. o.text) ls) → AreBytes (statics_of ls)
statics_are_bytes [] h = λ k d lt. absurd (omega (arith, lt))
statics_are_bytes (l ∷ ls) h =
    All-append IsByte (padded l.text) (statics_of ls)
    (All-append IsByte l.text (replicate ((4 - length l.text % 4) % 4) 0) h.0 (All-replicate IsByte ((4 - length l.text % 4) % 4) 0 (omega arith)))
    (statics_are_bytes ls h.1)

-- Literals by their labels.

abbrev literals_labelled : ℕ → List Literal → ℕ
literals_labelled n ls = times (λ l. l.label) n ls

literal_counted : (ls : List Literal) (l : Literal) → Contains ls l → 0 < literals_labelled l.label ls
literal_counted [] l c = absurd (omega (arith, c.1))
literal_counted (o ∷ ls) l (zero, lt, e) = let one : same o.label l.label ≡ 1 = subst (λ q. same o.label q.label ≡ 1) e (same_self o.label) in omega
    (arith, one)
literal_counted (o ∷ ls) l (suc k, lt, e) = let h = literal_counted ls l (k, omega arith, e) in omega (arith, h)

pub literal_once : (ls : List Literal) (l : Literal) → Contains ls l → literals_labelled l.label ls ≤ 1 → text_of l.label ls ≡ Some l.text
literal_once [] l c few = absurd (omega (arith, c.1))
literal_once (o ∷ ls) l (zero, lt, e) few =
    ap (λ t. if t then Some o.text else text_of l.label ls) (eq-eqb o.label l.label (ap (λ q. q.label) e)) ∙ ap (λ q. Some q.text) e
literal_once (o ∷ ls) l (suc k, lt, e) few = elim (cases_eq o.label l.label) [
  | inl q ↦ (let one : same o.label l.label ≡ 1 = subst (λ b. same o.label b ≡ 1) q (same_self o.label) in
      let there = literal_counted ls l (k, omega arith, e) in absurd (omega (arith, few, one, there)))
  | inr ne ↦ ap (λ t. if t then Some o.text else text_of l.label ls) (ne_eqb o.label l.label ne) ∙ literal_once ls l (k, omega arith, e) (omega (arith, few))
]
