-- The code of an exit is a word: evaluation by results keeps all values small.
use Rattle.std.proofs.Common.{◌≡◌, ℕ, zero, suc, ◌+◌, ◌^◌, ◌<◌, ◌≤◌, List, [], ◌∷◌, length, Option, Some, None}
use Rattle.std.proofs.Common.{Bool, true, false, nat_lt, refl, subst, arith}
use Rattle.std.specs.Prelude.{if◌then◌else◌, take, slice_get}
use Rattle.std.specs.List.{sum_by}
use Rattle.std.proofs.lemmas.List.Sums.{sum_by-cons}
use Rattle.tg_syntax.specs.Tree.{Exp}
use Rattle.tg_simulation.specs.Bytes.{AreBytes}
use Rattle.tg_simulation.specs.Outcomes.{ended}
use Rattle.tg_semantics.specs.Values.{Value, by_exit, by_heap, SourceWorld, add_heap}
use Rattle.tg_semantics.specs.Environments.{outermost_entries}
use Rattle.tg_semantics.specs.Evaluation.{Job, meaning, program}
use Rattle.tg_semantics.specs.Direct.{RunState, Result, gives, breaks, is_over, Direct, after, after_body, returned, fuelled}
use Rattle.tg_semantics.specs.Direct.{found, changed, direct, begin, outcome, evaluate}
use Rattle.tg_translate_laws.specs.Strings.{strings}
use Rattle.tg_translate_laws.proofs.Fine.{Each, each_append}
use Rattle.tg_literal_bounds.specs.laws.Laws.{IsTextOf, TreesAreOfWords, StringsAreShort}
use Rattle.tg_compile_proof.specs.laws.TextLaws.{ExitsAreWords}
use Rattle.tg_compile_proof.proofs.SmallValues.{each_of_all, each_take, each_drop, each_set, each_get, IsByte, HasShortLength}
use Rattle.tg_compile_proof.proofs.SmallValues.{IsSmallValue, IsSmallObject, IsFitExp, outermost_fit, IsFitJob}
use Rattle.tg_compile_proof.proofs.SmallRuns.{Known, ExitIsWord, ActionsKeep, run_kept, program_kept}

-- all that a run has is small
record IsSmallWorld (w : SourceWorld) : Type 0 where
  variables : Each IsSmallValue w.variables
  objects : Each IsSmallObject w.objects
  input : Each IsByte w.input

-- what an action comes to
abbrev IsSmallResult : {A : Type 0} → Known A → Result A → Type 0
IsSmallResult P (gives a s) = P a × IsSmallWorld s.world
IsSmallResult P (breaks s) = IsSmallWorld s.world
IsSmallResult P (is_over e s) = ExitIsWord e

abbrev Keeps : (A : Type 0) → Known A → Direct A → Type 0
Keeps A P m = (s : RunState) → IsSmallWorld s.world → IsSmallResult P (m s)

after_small : {A B : Type 0} (P : Known A) (Q : Known B) (r : Result A) (f : A → Direct B) → IsSmallResult P r → ((a : A) → P a → Keeps B Q (f a)) →
    IsSmallResult Q (after r f)
after_small P Q (gives a s) f h k = k a h.0 s h.1
after_small P Q (breaks s) f h k = h
after_small P Q (is_over e s) f h k = h

loop_small : (r : Result Value) (k : Direct Value) → IsSmallResult IsSmallValue r → Keeps Value IsSmallValue k → IsSmallResult IsSmallValue (after_body r k)
loop_small (gives v s) k h g = g s h.1
loop_small (breaks s) k h g = (tt, h)
loop_small (is_over e s) k h g = h

returned_small : (r : Result Value) → IsSmallResult IsSmallValue r → IsSmallResult IsSmallValue (returned r)
returned_small (gives v s) h = h
returned_small (breaks s) h = tt
returned_small (is_over e s) h = h

found_small : {A : Type 0} (P : Known A) (o : Option A) (s : RunState) → ((a : A) → o ≡ Some a → P a) → IsSmallWorld s.world → IsSmallResult P (found o s)
found_small P (Some a) s h i = (h a refl, i)
found_small P None s h i = tt

not_less : (a b : ℕ) → nat_lt a b ≡ false → b ≤ a
not_less a b e = grind arith

take_small : (heap bytes : ℕ) (s : RunState) (full : Bool) → nat_lt heap (s.world.heap + bytes) ≡ full → IsSmallWorld s.world →
    IsSmallResult (λ (a : Unit {0}). bytes ≤ heap) (if full then is_over (ended by_heap) s else changed tt (add_heap bytes) s)
take_small heap bytes s true e i = tt
take_small heap bytes s false e i =
    let le = not_less heap (s.world.heap + bytes) e in
    (omega (arith, le), record { variables = i.variables; objects = i.objects; input = i.input })

one_short : (xs : List ℕ) → length (take 1 xs) < 2 ^ 32
one_short [] = omega arith
one_short (x ∷ xs) = omega arith

-- a world with another heap, weight or depth
like : (w v : SourceWorld) → w.variables ≡ v.variables → w.objects ≡ v.objects → w.input ≡ v.input → IsSmallWorld w → IsSmallWorld v
like w v a b c i =
    record { variables = subst (Each IsSmallValue) a i.variables; objects = subst (Each IsSmallObject) b i.objects; input = subst (Each IsByte) c i.input }

module _ (heap stack : ℕ) (small : heap < 2 ^ 32) where
  direct_keeps : ActionsKeep heap small Direct (direct heap stack) Keeps
  direct_keeps = record {
    gives = λ A P a p s i. (p, i);
    binds = λ A B P Q m f g h s i. after_small P Q (m s) f (g s i) h;
    breaks = λ A P s i. i;
    overs = λ A P e h s i. h;
    loops = λ m k g h s i. loop_small (m s) k (g s i) h;
    bodies = λ m g s i. returned_small (m s) (g s i);
    knowns = λ A P o h s i. found_small P o s h i;
    variables = λ place s i.
        found_small IsSmallValue (slice_get s.world.variables place) s (λ v e. each_get IsSmallValue s.world.variables place v i.variables e) i;
    objects = λ r s i.
        found_small IsSmallObject (slice_get s.world.objects r) s (λ o e. each_get IsSmallObject s.world.objects r o i.objects e) i;
    news = λ v p s i. (
      tt,
      record { variables = each_append IsSmallValue s.world.variables (v ∷ []) i.variables (p, tt); objects = i.objects; input = i.input },
    );
    sets = λ place v p s i. (
      tt,
      record { variables = each_set IsSmallValue s.world.variables place v i.variables p; objects = i.objects; input = i.input },
    );
    makes = λ o p s i. (
      tt,
      record { variables = i.variables; objects = each_append IsSmallObject s.world.objects (o ∷ []) i.objects (p, tt); input = i.input },
    );
    puts = λ r o p s i. (
      tt,
      record { variables = i.variables; objects = each_set IsSmallObject s.world.objects r o i.objects p; input = i.input },
    );
    takes = λ bytes s i. take_small heap bytes s (nat_lt heap (s.world.heap + bytes)) refl i;
    reads = λ s i. (
      (each_take IsByte 1 s.world.input i.input, one_short s.world.input),
      record { variables = i.variables; objects = i.objects; input = each_drop IsByte 1 s.world.input i.input },
    );
    writes = λ bytes s i. (tt, i);
    spends = λ k s i. (tt, i);
    weighs = λ k s i. (tt, like s.world _ refl refl refl i);
    unweighs = λ k s i. (tt, like s.world _ refl refl refl i);
    descends = λ s i. (tt, like s.world _ refl refl refl i);
    ascends = λ s i. (tt, like s.world _ refl refl refl i);
  }

  fuelled_small : (n : ℕ) (s : RunState) (m : Direct Value) → Keeps Value IsSmallValue m → IsSmallWorld s.world → IsSmallResult IsSmallValue (fuelled n s m)
  fuelled_small zero s m h i = tt
  fuelled_small (suc n) s m h i = h (record s { fuel = n }) i

  meaning_keeps : (n : ℕ) (job : Job) → IsFitJob job → Keeps Value IsSmallValue (meaning Direct (direct heap stack) n job)
  meaning_keeps zero job j = λ s i. tt
  meaning_keeps (suc n) job j =
      run_kept heap small Direct (direct heap stack) Keeps direct_keeps (λ k. meaning Direct (direct heap stack) n k)
      (λ k f s i. fuelled_small s.fuel s (meaning Direct (direct heap stack) n k) (meaning_keeps n k f) i) job j

  code_small : (r : Result Value) (code : ℕ) → IsSmallResult IsSmallValue r → (outcome r).end ≡ ended (by_exit code) → code < 2 ^ 32
  code_small (gives v s) code h e = cc
  code_small (breaks s) code h e = cc
  code_small (is_over f s) code h e = subst ExitIsWord e h

  exit_is_word : (names : List (List ℕ)) (body : Exp) (input : List ℕ) (fuel code : ℕ) → IsFitExp body → AreBytes input →
      (evaluate names body input heap stack fuel).end ≡ ended (by_exit code) → code < 2 ^ 32
  exit_is_word names body input fuel code f bytes e =
      code_small (program Direct (direct heap stack) body (outermost_entries names) fuel (begin input fuel)) code
      (program_kept heap small Direct (direct heap stack) Keeps direct_keeps (λ k. meaning Direct (direct heap stack) fuel k)
      (λ k j s i. fuelled_small s.fuel s (meaning Direct (direct heap stack) fuel k) (meaning_keeps fuel k j) i)
      body (outermost_entries names) f (outermost_fit 0 names) (begin input fuel)
      (record { variables = tt; objects = tt; input = each_of_all IsByte input bytes })) e

-- strings that together are short
each_short : (xs : List (List ℕ)) (n : ℕ) → sum_by length xs ≤ n → n < 2 ^ 32 → Each HasShortLength xs
each_short [] n le lt = tt
each_short (x ∷ xs) n le lt = let s = sum_by-cons length x xs in (omega (arith, le, lt, s), each_short xs n (omega (arith, le, s)) lt)

pub exits_are_words : TreesAreOfWords → StringsAreShort → ExitsAreWords
exits_are_words words short text names tokens program source input heap stack turns code bytes sizes e =
    let tree = source.tree in
    let is : IsTextOf names text program = record { tokens = tokens; lexed = tree.has_tokens.lexed; parsed = tree.parsed } in
    let most = sizes.heap_most in
    let few = tree.has_tokens.short in
    exit_is_word heap stack (omega (arith, most)) names program input turns code
    (words names text program is, each_short (strings program) (length text) (short names text program is) (omega (arith, few))) bytes e
