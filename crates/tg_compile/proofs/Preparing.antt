-- What passes over trees make of a program: it is no larger, well formed, linked and of words, as the program was.
use Rattle.std.proofs.Common.{◌≡◌, ◌≢◌, zero, suc, Bool, true, false, List, [], ◌∷◌, ◌++◌, refl, sym, ap, subst, ◌∙◌, arith}
use Rattle.std.specs.Prelude.{map, if◌then◌else◌}
use Rattle.std.specs.List.{AllPairs, AllZip, Contains}
use Rattle.tg_frame.specs.declared.frames.Frame.{Frame}
use Rattle.tg_tree.specs.Tree.{Ts, Function, Literal, Code}
use Rattle.tg_tree.specs.glue.Plain.{plain_function}
use Rattle.tg_tree.specs.Named.{Named, function, literal, fault, constant, HasWords, IsLinked}
use Rattle.tg_fold.specs.mirror.Folding.{folded}
use Rattle.tg_fold.specs.laws.Laws.{folded_function, FunctionsShrink, ClosedStays, TempsStay, NamesStay, WordsStay}
use Rattle.tg_fold.specs.laws.Meaning.{folded_code}
use Rattle.tg_translate_laws.specs.laws.Laws.{names}
use Rattle.tg_code_bounds.specs.Reduced.{ReducesTo}
use Rattle.tg_compile.specs.declared.passes.Passes.{Passes}
use Rattle.tg_compile.specs.Prepared.{prepared_function}
use Rattle.tg_compile.specs.glue.Passes.{IsWellFormed, PreparedIsWellFormed}
use Rattle.tg_compile.specs.laws.Prepared.{PreparedIsReduced, LiteralsStay, PreparedIsLinked, PreparedHasWords}

-- Sizes.

reduces_itself : (f : Function Ts) → ReducesTo f f
reduces_itself f = record {
  label = refl;
  params = refl;
  slots = refl;
  out = refl;
  short = omega arith;
  small = omega arith;
  may = λ m. m;
}

all_themselves : (fs : List (Function Ts)) → AllZip ReducesTo fs fs
all_themselves [] = tt
all_themselves (f ∷ fs) = (reduces_itself f, all_themselves fs)

folded_reduces : FunctionsShrink → ClosedStays → TempsStay → (f : Function Ts) → ReducesTo f (folded_function f)
folded_reduces shrink closed temps f =
    let s = shrink f in
    record {
      label = refl;
      params = refl;
      slots = refl;
      out = refl;
      short = s.length;
      small = s.room;
      may = λ m. record { closed = closed f.body m.closed; temps = temps f m.temps };
    }

all_fold : FunctionsShrink → ClosedStays → TempsStay → (fs : List (Function Ts)) → AllZip ReducesTo fs (map folded_function fs)
all_fold shrink closed temps [] = tt
all_fold shrink closed temps (f ∷ fs) = (folded_reduces shrink closed temps f, all_fold shrink closed temps fs)

pub prepared_is_reduced : FunctionsShrink → ClosedStays → TempsStay → PreparedIsReduced
prepared_is_reduced shrink closed temps passes code = by passes.fold
  where
    by : (b : Bool) → AllZip ReducesTo code.functions (if b then folded_code code else code).functions
    by true = all_fold shrink closed temps code.functions
    by false = all_themselves code.functions

-- Literals.

pub literals_stay : LiteralsStay
literals_stay passes code = by passes.fold
  where
    by : (b : Bool) → (if b then folded_code code else code).literals ≡ code.literals
    by true = refl
    by false = refl

-- Bodies.

pub prepared_is_well_formed : ClosedStays → TempsStay → PreparedIsWellFormed
prepared_is_well_formed closed temps passes f h = by passes.fold
  where
    by : (b : Bool) → IsWellFormed (if b then folded_function f else f)
    by true = record { closed = closed f.body h.closed; drawn = temps f h.drawn; few = h.few }
    by false = h

-- One function of the code.

pub left_as_it_is : (passes : Passes) (f : Function Ts) → passes.fold ≡ false → f ≡ prepared_function passes f
left_as_it_is passes f off = ap (λ b. if b then folded_function f else f) (sym off)

pub folded_where_asked : (passes : Passes) (f g : Function Ts) → passes.fold ≡ true → g ≡ folded_function f → g ≡ prepared_function passes f
folded_where_asked passes f g on is = is ∙ ap (λ b. if b then folded_function f else f) (sym on)

pub with_body : (frame : Frame) (before after : Ts) → after ≡ folded before → plain_function frame after ≡ folded_function (plain_function frame before)
with_body frame before after is = ap (λ body. plain_function frame body) is

-- Names. A folded function was one of the program.
record WasThere (fs : List (Function Ts)) (g : Function Ts) : Type 0 where
  before : Function Ts
  there : Contains fs before
  is : folded_function before ≡ g

was_there : (fs : List (Function Ts)) (g : Function Ts) → Contains (map folded_function fs) g → WasThere fs g
was_there [] g c = let l = c.1 in absurd (omega (arith, l))
was_there (f ∷ fs) g (zero, l, e) = record { before = f; there = (zero, omega arith, refl); is = e }
was_there (f ∷ fs) g (suc k, l, e) =
    let t = was_there fs g (k, omega (arith, l), e) in
    let m = t.there.1 in
    record { before = t.before; there = (suc t.there.0, omega (arith, m), t.there.2); is = t.is }

labels_stay : (fs : List (Function Ts)) →
    map (λ (f : Function Ts). f.label) (map folded_function fs) ≡ map (λ (f : Function Ts). f.label) fs
labels_stay [] = refl
labels_stay (f ∷ fs) = ap (λ labels. f.label ∷ labels) (labels_stay fs)

module _ (stay : NamesStay) (code : Code Ts) (linked : IsLinked names code) where
  named_before : (g : Function Ts) (t : WasThere code.functions g) (name : Named) → Contains (names g.body) name →
      Contains (names (folded_function t.before).body) name
  named_before g t name c = subst (λ (h : Function Ts). Contains (names h.body) name) (sym t.is) c

  folded_linked : IsLinked names (folded_code code)
  folded_linked =
      let same = sym (labels_stay code.functions) in
      record {
        apart =
            subst (λ labels. AllPairs (λ a b. a ≢ b) (labels ++ map (λ (l : Literal). l.label) code.literals)) same linked.apart;
        body = subst (λ labels. Contains labels 32) same linked.body;
        calls = λ g label there named.
            let t = was_there code.functions g there in
            subst (λ labels. Contains labels label) same
            (linked.calls t.before label t.there
            (stay t.before.body (function label) tt (named_before g t (function label) named)));
        addresses = λ g label there named.
            let t = was_there code.functions g there in
            linked.addresses t.before label t.there
            (stay t.before.body (literal label) tt (named_before g t (literal label) named));
        faults = λ g n there named.
            let t = was_there code.functions g there in
            linked.faults t.before n t.there (stay t.before.body (fault n) tt (named_before g t (fault n) named));
      }

pub prepared_is_linked : NamesStay → PreparedIsLinked
prepared_is_linked stay passes code linked = by passes.fold
  where
    by : (b : Bool) → IsLinked names (if b then folded_code code else code)
    by true = folded_linked stay code linked
    by false = linked

pub prepared_has_words : WordsStay → PreparedHasWords
prepared_has_words stay passes code words = by passes.fold
  where
    folded_words : HasWords names (folded_code code)
    folded_words g n there named =
        let t = was_there code.functions g there in
        stay t.before.body (λ m at. words t.before m t.there at) n
        (subst (λ (h : Function Ts). Contains (names h.body) (constant n)) (sym t.is) named)

    by : (b : Bool) → HasWords names (if b then folded_code code else code)
    by true = folded_words
    by false = words
