-- A text without its blanks and ends of lines: laying a text on lines changes nothing in it.
use Rattle.std.proofs.Common.{ℕ, zero, suc, ◌+◌, ◌-◌, ◌≡◌, List, [], ◌∷◌, ◌++◌, Bool, true, false, refl, sym, ap, subst, ◌∙◌}
use Rattle.std.specs.Prelude.{◌==◌, ◌&&◌, ◌||◌, if◌then◌else◌}
use Rattle.std.proofs.lemmas.Bool.{eqb-true}
use Rattle.std.proofs.lemmas.List.{append-nil}
use Rattle.tg_show.specs.declared.modes.Mode.{Mode}
use Rattle.tg_show.specs.declared.modes.Mode.TheVariants.{Kept, Broken, Between}
use Rattle.tg_show.specs.Layout.{deeper, ends_at, kept, measured, mode_of, blanks, capped, new_line}
use Rattle.tg_show.specs.Layout.{after_broken, laid_from, laid}

abbrev pub is_blank : ℕ → Bool
is_blank c = c == 32 || c == 10

abbrev pub solid : List ℕ → List ℕ
solid [] = []
solid (c ∷ rest) = if is_blank c then solid rest else c ∷ solid rest

pub solid_append : (a b : List ℕ) → solid (a ++ b) ≡ solid a ++ solid b
solid_append [] b = refl
solid_append (c ∷ rest) b = by (is_blank c) (solid_append rest b)
  where
    by : (q : Bool) → solid (rest ++ b) ≡ solid rest ++ solid b →
        (if q then solid (rest ++ b) else c ∷ solid (rest ++ b)) ≡ (if q then solid rest else c ∷ solid rest) ++ solid b
    by true ih = ih
    by false ih = ap (λ x. c ∷ x) ih

solid_blanks : (n : ℕ) → solid (blanks n) ≡ []
solid_blanks zero = refl
solid_blanks (suc n) = solid_blanks n

solid_line : (n : ℕ) → solid (new_line n) ≡ []
solid_line n = solid_blanks (capped n)

-- each comma has a blank behind it
abbrev blank_first : List ℕ → Bool
blank_first [] = false
blank_first (c ∷ rest) = c == 32

abbrev pub spaced : List ℕ → Bool
spaced [] = true
spaced (c ∷ rest) = (if c == 44 then blank_first rest else true) && spaced rest

pub and_true : (a b : Bool) → (a && b) ≡ true → (a ≡ true) × (b ≡ true)
and_true true b h = (refl, h)
and_true false b h = let two : false ≡ true = h in cc

pub both_true : (a b : Bool) → a ≡ true → b ≡ true → (a && b) ≡ true
both_true true b h k = k
both_true false b h k = let two : false ≡ true = h in cc

blank_first_append : (a b : List ℕ) → blank_first a ≡ true → blank_first (a ++ b) ≡ true
blank_first_append [] b h = let two : false ≡ true = h in cc
blank_first_append (c ∷ a) b h = h

pub spaced_append : (a b : List ℕ) → spaced a ≡ true → spaced b ≡ true → spaced (a ++ b) ≡ true
spaced_append [] b h k = k
spaced_append (c ∷ a) b h k =
    let two = and_true (if c == 44 then blank_first a else true) (spaced a) h in
    both_true _ _ (by (c == 44) two.0) (spaced_append a b two.1 k)
  where
    by : (q : Bool) → (if q then blank_first a else true) ≡ true → (if q then blank_first (a ++ b) else true) ≡ true
    by true h = blank_first_append a b h
    by false h = refl

-- what a mode wants of the text that it lays
abbrev Ready : Mode → List ℕ → Type 0
Ready Between text = blank_first text ≡ true
Ready _ text = Unit {0}

kept_ready : (n : ℕ) (text : List ℕ) → Ready (kept n) text
kept_ready n text = by (n == 0)
  where
    by : (q : Bool) → Ready (if q then Broken else Kept n) text
    by true = tt
    by false = tt

measured_ready : (n inner : ℕ) (text all : List ℕ) → Ready (measured n inner text) all
measured_ready n inner [] all = kept_ready n all
measured_ready n inner (c ∷ rest) all = by (ends_at inner c) (n == 72) (measured_ready (n + 1) (deeper inner c) rest all)
  where
    by : (p q : Bool) → Ready (measured (n + 1) (deeper inner c) rest) all →
        Ready (if p then kept n else if q then Broken else measured (n + 1) (deeper inner c) rest) all
    by true q ih = kept_ready n all
    by false true ih = tt
    by false false ih = ih

broken_ready : (c : ℕ) (rest : List ℕ) → spaced (c ∷ rest) ≡ true → Ready (after_broken c rest) rest
broken_ready c rest h = by (c == 40) (c == 44) (and_true (if c == 44 then blank_first rest else true) (spaced rest) h).0
  where
    by : (p q : Bool) → (if q then blank_first rest else true) ≡ true → Ready (if p then mode_of rest else if q then Between else Broken) rest
    by true q k = measured_ready 0 0 rest rest
    by false true k = k
    by false false k = tt

-- Behind the parenthesis that a long part opens, a line ends.
solid_opened : (q : Bool) (depth : ℕ) (rest : List ℕ) → solid ((if q then new_line depth else []) ++ rest) ≡ solid rest
solid_opened true depth rest = solid_append (new_line depth) rest ∙ ap (λ x. x ++ solid rest) (solid_line depth)
solid_opened false depth rest = refl

solid_from : (depth : ℕ) (mode : Mode) (text : List ℕ) → spaced text ≡ true → Ready mode text → solid (laid_from depth mode text) ≡ solid text
solid_from depth mode [] h r = refl
solid_from depth (Kept n) (c ∷ rest) h r =
    ap (λ x. if is_blank c then x else c ∷ x)
    (solid_from depth (kept (n - 1)) rest (and_true (if c == 44 then blank_first rest else true) (spaced rest) h).1 (kept_ready (n - 1) rest))
solid_from depth Broken (c ∷ rest) h r =
    ap (λ x. if is_blank c then x else c ∷ x)
    (solid_opened (c == 40) (depth + 1) (laid_from (deeper depth c) (after_broken c rest) rest) ∙
    solid_from (deeper depth c) (after_broken c rest) rest (and_true (if c == 44 then blank_first rest else true) (spaced rest) h).1 (broken_ready c rest h))
solid_from depth Between (c ∷ rest) h r =
    let ih = solid_from depth (mode_of rest) rest (and_true (if c == 44 then blank_first rest else true) (spaced rest) h).1 (measured_ready 0 0 rest rest) in
    let next = laid_from depth (mode_of rest) rest in
    let line = solid_append (new_line depth) next ∙ ap (λ x. x ++ solid next) (solid_line depth) in
    subst (λ k. solid (new_line depth ++ next) ≡ solid (k ∷ rest)) (sym (eqb-true c 32 r)) (line ∙ ih)

-- A text in which each comma has a blank behind it is laid as the same bytes but for blanks and ends of lines.
pub solid_laid : (margin : ℕ) (text rest : List ℕ) → spaced text ≡ true → solid (laid margin text ++ rest) ≡ solid text ++ solid rest
solid_laid margin text rest h =
    let from = laid_from margin (mode_of text) text in
    solid_append (laid margin text) rest
    ∙ ap (λ x. x ++ solid rest)
    (solid_append (blanks (capped margin)) (from ++ 10 ∷ []) ∙ ap (λ x. x ++ solid (from ++ 10 ∷ [])) (solid_blanks (capped margin))
    ∙ solid_append from (10 ∷ []) ∙ append-nil (solid from) ∙ solid_from margin (mode_of text) text h (measured_ready 0 0 text text))
