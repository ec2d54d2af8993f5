-- Lookups among facts with more behind them: what isn't seen at a name's place changes nothing there.
use Rattle.std.proofs.Common.{◌≡◌, ℕ, ◌<◌, ◌≤◌, List, [], ◌∷◌, ◌++◌, Option, Some, Bool, true, false, refl, ap, ◌∙◌, arith}
use Rattle.std.specs.Prelude.{◌==◌, ◌&&◌, if◌then◌else◌}
use Rattle.std.proofs.lemmas.Bool.{le-leb, lt-leb, lt-ltb, le-ltb, eqb-true, and_from}
use Rattle.tg_base.specs.declared.ids.Span.{Span}
use Rattle.tg_syntax.specs.declared.tokens.Ident.{Ident}
use Rattle.tg_explain_typing.specs.declared.types.Ty.{Ty}
use Rattle.tg_explain_typing.specs.declared.facts.Meaning.{Meaning}
use Rattle.tg_explain_typing.specs.declared.facts.Fact.{Fact}
use Rattle.tg_explain_typing.specs.declared.facts.Fact.TheVariants as fact
use Rattle.tg_explain_typing.specs.Lookups.{covers, sees, variable_type, function_type, declared_param, meaning_of, field_kind, element_kind}
use Rattle.tg_explain_laws.specs.laws.Seen.{SeenWithin}
use Rattle.tg_explain_laws.proofs.Agreeing.{SeenFrom, Misses, OwnersBefore}

-- ---- tests

pub unseen : {A : Type 0} (c d : Bool) (t o : A) → d ≡ false → (if c && d then t else o) ≡ o
unseen true true t o e = cc
unseen true false t o e = refl
unseen false d t o e = refl

unseen_param : {A : Type 0} (b c d : Bool) (t o : A) → d ≡ false → (if b && (c && d) then t else o) ≡ o
unseen_param true c d t o e = unseen c d t o e
unseen_param false c d t o e = refl

pub seen_here : {A : Type 0} (c d : Bool) (t o : A) → d ≡ true → (if c && d then t else o) ≡ (if c then t else o)
seen_here true true t o e = refl
seen_here true false t o e = cc
seen_here false d t o e = refl

false_and : (a b : Bool) → a ≡ false → (a && b) ≡ false
false_and true b e = cc
false_and false b e = refl

and_false : (a b : Bool) → b ≡ false → (a && b) ≡ false
and_false true b e = e
and_false false b e = refl

pub covered : (s : Span) (at : ℕ) → s.from ≤ at → at < s.to → covers s at ≡ true
covered s at i j = and_from _ _ (le-leb s.from at i) (lt-ltb at s.to j)

not_yet : (s : Span) (at : ℕ) → at < s.from → covers s at ≡ false
not_yet s at i = false_and _ _ (lt-leb s.from at i)

-- ---- where facts are seen

pub misses_before : (from : ℕ) (more : List Fact) (at : ℕ) → SeenFrom from more → at < from → Misses at more
misses_before from [] at s i = tt
misses_before from (fact.Variable _ _ seen ∷ more) at s i = (not_yet seen at (omega (arith, s.0, i)), misses_before from more at s.1 i)
misses_before from (fact.Function _ _ seen ∷ more) at s i = (not_yet seen at (omega (arith, s.0, i)), misses_before from more at s.1 i)
misses_before from (fact.Param _ _ _ seen ∷ more) at s i = (not_yet seen at (omega (arith, s.0, i)), misses_before from more at s.1 i)
misses_before from (fact.TypeName _ _ seen ∷ more) at s i = (not_yet seen at (omega (arith, s.0, i)), misses_before from more at s.1 i)
misses_before from (_ ∷ more) at s i = misses_before from more at s i

-- ---- variables

pub variable_missed : (x : Ident) (more : List Fact) (o : Ty) → Misses x.span.from more → variable_type x more o ≡ o
variable_missed x [] o m = refl
variable_missed x (fact.Variable y t seen ∷ more) o m =
    ap (λ p. variable_type x more p) (unseen (y.name.0 == x.name.0) (covers seen x.span.from) t o m.0) ∙ variable_missed x more o m.1
variable_missed x (fact.Function _ _ _ ∷ more) o m = variable_missed x more o m.1
variable_missed x (fact.Param _ _ _ _ ∷ more) o m = variable_missed x more o m.1
variable_missed x (fact.TypeName _ _ _ ∷ more) o m = variable_missed x more o m.1
variable_missed x (_ ∷ more) o m = variable_missed x more o m

pub variable_behind : (x : Ident) (facts more : List Fact) (o : Ty) → variable_type x (facts ++ more) o ≡ variable_type x more (variable_type x facts o)
variable_behind x [] more o = refl
variable_behind x (fact.Variable y t seen ∷ facts) more o = variable_behind x facts more (if sees y seen x then t else o)
variable_behind x (_ ∷ facts) more o = variable_behind x facts more o

-- ---- functions

pub function_missed : (f : Ident) (more : List Fact) (o : Ty) → Misses f.span.from more → function_type f more o ≡ o
function_missed f [] o m = refl
function_missed f (fact.Function g t seen ∷ more) o m =
    ap (λ p. function_type f more p) (unseen (g.name.0 == f.name.0) (covers seen f.span.from) t o m.0) ∙ function_missed f more o m.1
function_missed f (fact.Variable _ _ _ ∷ more) o m = function_missed f more o m.1
function_missed f (fact.Param _ _ _ _ ∷ more) o m = function_missed f more o m.1
function_missed f (fact.TypeName _ _ _ ∷ more) o m = function_missed f more o m.1
function_missed f (_ ∷ more) o m = function_missed f more o m

pub function_behind : (f : Ident) (facts more : List Fact) (o : Ty) → function_type f (facts ++ more) o ≡ function_type f more (function_type f facts o)
function_behind f [] more o = refl
function_behind f (fact.Function g t seen ∷ facts) more o = function_behind f facts more (if sees g seen f then t else o)
function_behind f (_ ∷ facts) more o = function_behind f facts more o

pub param_missed : (f : Ident) (index : ℕ) (more : List Fact) (o : Ty) → Misses f.span.from more → declared_param f index more o ≡ o
param_missed f index [] o m = refl
param_missed f index (fact.Param g i t seen ∷ more) o m =
    ap (λ p. declared_param f index more p) (unseen_param (i == index) (g.name.0 == f.name.0) (covers seen f.span.from) t o m.0)
    ∙ param_missed f index more o m.1
param_missed f index (fact.Variable _ _ _ ∷ more) o m = param_missed f index more o m.1
param_missed f index (fact.Function _ _ _ ∷ more) o m = param_missed f index more o m.1
param_missed f index (fact.TypeName _ _ _ ∷ more) o m = param_missed f index more o m.1
param_missed f index (_ ∷ more) o m = param_missed f index more o m

pub param_behind : (f : Ident) (index : ℕ) (facts more : List Fact) (o : Ty) →
    declared_param f index (facts ++ more) o ≡ declared_param f index more (declared_param f index facts o)
param_behind f index [] more o = refl
param_behind f index (fact.Param g i t seen ∷ facts) more o = param_behind f index facts more (if i == index && sees g seen f then t else o)
param_behind f index (_ ∷ facts) more o = param_behind f index facts more o

-- ---- types

pub meaning_missed : (x : Ident) (more : List Fact) (o : Meaning) → Misses x.span.from more → meaning_of x more o ≡ o
meaning_missed x [] o m = refl
meaning_missed x (fact.TypeName y t seen ∷ more) o m =
    ap (λ p. meaning_of x more p) (unseen (y.name.0 == x.name.0) (covers seen x.span.from) t o m.0) ∙ meaning_missed x more o m.1
meaning_missed x (fact.Variable _ _ _ ∷ more) o m = meaning_missed x more o m.1
meaning_missed x (fact.Function _ _ _ ∷ more) o m = meaning_missed x more o m.1
meaning_missed x (fact.Param _ _ _ _ ∷ more) o m = meaning_missed x more o m.1
meaning_missed x (_ ∷ more) o m = meaning_missed x more o m

pub meaning_behind : (x : Ident) (facts more : List Fact) (o : Meaning) → meaning_of x (facts ++ more) o ≡ meaning_of x more (meaning_of x facts o)
meaning_behind x [] more o = refl
meaning_behind x (fact.TypeName y m seen ∷ facts) more o = meaning_behind x facts more (if sees y seen x then m else o)
meaning_behind x (_ ∷ facts) more o = meaning_behind x facts more o

-- ---- fields and elements

first_stays : (c : Bool) (t k : Ident) (o p : Option Ident) → (o ≡ Some k → p ≡ Some k) → (if c then Some t else o) ≡ Some k →
    (if c then Some t else p) ≡ Some k
first_stays true t k o p r e = e
first_stays false t k o p r e = r e

pub field_found : (owner : ℕ) (f : Ident) (facts more : List Fact) (k : Ident) → field_kind owner f facts ≡ Some k → field_kind owner f (facts ++ more) ≡ Some k
field_found owner f [] more k e = cc
field_found owner f (fact.Field at p ∷ facts) more k e =
    first_stays (at == owner && p.name.name.0 == f.name.0) p.kind k _ _ (field_found owner f facts more k) e
field_found owner f (_ ∷ facts) more k e = field_found owner f facts more k e

pub element_found : (owner : ℕ) (facts more : List Fact) (k : Ident) → element_kind owner facts ≡ Some k → element_kind owner (facts ++ more) ≡ Some k
element_found owner [] more k e = cc
element_found owner (fact.Element at t ∷ facts) more k e = first_stays (at == owner) t k _ _ (element_found owner facts more k) e
element_found owner (_ ∷ facts) more k e = element_found owner facts more k e

-- two bytes of which one is the lower
differ : (a b : ℕ) → a < b → (a == b) ≡ false
differ a b i = by (a == b) refl
  where
    by : (c : Bool) → (a == b) ≡ c → c ≡ false
    by true e = let same : a ≡ b = eqb-true a b e in absurd (omega (arith, same, i))
    by false e = refl

pub above : (a b : ℕ) → a < b → (b == a) ≡ false
above a b i = by (b == a) refl
  where
    by : (c : Bool) → (b == a) ≡ c → c ≡ false
    by true e = let same : b ≡ a = eqb-true b a e in absurd (omega (arith, same, i))
    by false e = refl

not_this : (c : Bool) (t : Ident) (o p : Option Ident) → c ≡ false → o ≡ p → (if c then Some t else o) ≡ p
not_this true t o p c e = cc
not_this false t o p c e = e

pub field_past : (owner : ℕ) (f : Ident) (facts more : List Fact) → OwnersBefore owner facts →
    field_kind owner f (facts ++ more) ≡ field_kind owner f more
field_past owner f [] more b = refl
field_past owner f (fact.Field at p ∷ facts) more b =
    not_this (at == owner && p.name.name.0 == f.name.0) p.kind _ _ (false_and _ _ (differ at owner b.0)) (field_past owner f facts more b.1)
field_past owner f (fact.Element at k ∷ facts) more b = field_past owner f facts more b.1
field_past owner f (_ ∷ facts) more b = field_past owner f facts more b

pub element_past : (owner : ℕ) (facts more : List Fact) → OwnersBefore owner facts → element_kind owner (facts ++ more) ≡ element_kind owner more
element_past owner [] more b = refl
element_past owner (fact.Element at k ∷ facts) more b =
    not_this (at == owner) k _ _ (differ at owner b.0) (element_past owner facts more b.1)
element_past owner (fact.Field at p ∷ facts) more b = element_past owner facts more b.1
element_past owner (_ ∷ facts) more b = element_past owner facts more b

-- ---- more of the same

pub owners_later : (a b : ℕ) (facts : List Fact) → a ≤ b → OwnersBefore a facts → OwnersBefore b facts
owners_later a b [] i h = tt
owners_later a b (fact.Field _ _ ∷ facts) i h = (omega (arith, i, h.0), owners_later a b facts i h.1)
owners_later a b (fact.Element _ _ ∷ facts) i h = (omega (arith, i, h.0), owners_later a b facts i h.1)
owners_later a b (_ ∷ facts) i h = owners_later a b facts i h

pub owners_both : (a : ℕ) (facts more : List Fact) → OwnersBefore a facts → OwnersBefore a more → OwnersBefore a (facts ++ more)
owners_both a [] more h k = k
owners_both a (fact.Field _ _ ∷ facts) more h k = (h.0, owners_both a facts more h.1 k)
owners_both a (fact.Element _ _ ∷ facts) more h k = (h.0, owners_both a facts more h.1 k)
owners_both a (_ ∷ facts) more h k = owners_both a facts more h k

-- what is seen within a span is seen from where it begins on, and not outside
pub seen_from : (s : Span) (more : List Fact) (p : ℕ) → SeenWithin s more → p ≤ s.from → SeenFrom p more
seen_from s [] p w i = tt
seen_from s (fact.Variable _ _ seen ∷ more) p w i = (omega (arith, w.0.0, i), seen_from s more p w.1 i)
seen_from s (fact.Function _ _ seen ∷ more) p w i = (omega (arith, w.0.0, i), seen_from s more p w.1 i)
seen_from s (fact.Param _ _ _ seen ∷ more) p w i = (omega (arith, w.0.0, i), seen_from s more p w.1 i)
seen_from s (fact.TypeName _ _ seen ∷ more) p w i = (omega (arith, w.0.0, i), seen_from s more p w.1 i)
seen_from s (_ ∷ more) p w i = seen_from s more p w i

pub misses_earlier : (s : Span) (more : List Fact) (at : ℕ) → SeenWithin s more → at < s.from → Misses at more
misses_earlier s more at w i = misses_before s.from more at (seen_from s more s.from w (omega arith)) i

no_more : (s : Span) (at : ℕ) → s.to ≤ at → covers s at ≡ false
no_more s at i = and_false _ _ (le-ltb at s.to i)

pub misses_later : (s : Span) (more : List Fact) (at : ℕ) → SeenWithin s more → s.to ≤ at → Misses at more
misses_later s [] at w i = tt
misses_later s (fact.Variable _ _ seen ∷ more) at w i = (no_more seen at (omega (arith, w.0.1, i)), misses_later s more at w.1 i)
misses_later s (fact.Function _ _ seen ∷ more) at w i = (no_more seen at (omega (arith, w.0.1, i)), misses_later s more at w.1 i)
misses_later s (fact.Param _ _ _ seen ∷ more) at w i = (no_more seen at (omega (arith, w.0.1, i)), misses_later s more at w.1 i)
misses_later s (fact.TypeName _ _ seen ∷ more) at w i = (no_more seen at (omega (arith, w.0.1, i)), misses_later s more at w.1 i)
misses_later s (_ ∷ more) at w i = misses_later s more at w i
