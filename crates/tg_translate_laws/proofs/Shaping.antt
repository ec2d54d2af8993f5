-- The laws of the shapes of trees.
use Rattle.std.proofs.Common.{◌≡◌, ◌≢◌, ◌<◌, ℕ, zero, suc, Bool, true, false, Option, Some, None, List, [], ◌∷◌, ◌++◌, length, map, refl, sym, ap}
use Rattle.std.proofs.Common.{◌∙◌, subst, arith, inl, inr, ◌+◌, length-append}
use Rattle.std.specs.Prelude.{nat_lt, nat_eq}
use Rattle.std.specs.Int.{to_le_bytes, w32}
use Rattle.std.specs.List.{Contains, list_all, list_any, flat_map, sum_by}
use Rattle.std.specs.FinSet.{FinSet, contains, from_list, contains-from_list_nat}
use Rattle.std.specs.Ordering.{nat_cmp}
use Rattle.std.proofs.lemmas.List.Elements.{All-contains, Contains-append_left, Contains-append_right}
use Rattle.std.proofs.lemmas.Bool.{or_left, or_right}
use Rattle.std.proofs.lemmas.Bool.Decides.{nat_tests}
use Rattle.std.proofs.lemmas.List.Sums.{AllPass-from_list_all, sum_by-cons}
use Rattle.tg_syntax.specs.Beginnings.{beginnings}
use Rattle.tg_tree.specs.Tree.{Ts, Function}
use Rattle.tg_tree.specs.Named.{Named, function, literal, fault, temporary, constant}
use Rattle.tg_escape.specs.Uses.{Use, uses_of}
use Rattle.tg_escape.specs.Escaping.{escapes_by, escapes_of}
use Rattle.tg_semantics.specs.declared.standards.Standard.{Standard}
use Rattle.tg_semantics.specs.Environments.{standards}
use Rattle.tg_symbols.specs.Tables.{looked_up}
use Rattle.tg_typecheck.specs.Types.{Ty}
use Rattle.tg_typecheck.specs.laws.Laws.{CheckedHasType, NotesAreFound}
use Rattle.tg_typecheck.specs.Scopes.{Binding, variable_at, standard_one, standard_of, standard_bindings, entry, outermost_scope}
use Rattle.tg_runtime.specs.laws.Laws.{AreRoutines, is_own, LabelsInOrder, AllAreRoutines}
use Rattle.tg_runtime.specs.mirror.Routines.{runtime}
use Rattle.tg_tree.specs.Memory.{string_text}
use Rattle.tg_translate.specs.mirror.Scopes.{found}
use Rattle.tg_translate.specs.mirror.Translate.{translated}
use Rattle.tg_translate_laws.specs.laws.Laws.{names, ProgramsAreLinked, LabelsAreAbove, BodiesAreClosed, CheckedBodiesAreClosed, TemporariesAreDrawn}
use Rattle.tg_translate_laws.specs.laws.Laws.{CheckedReaches, CheckedTemporariesAreDrawn, LiteralsAreStrings, LiteralsAreShort, findings_in}
use Rattle.tg_translate_laws.proofs.Shaped.{has_shape, linked, above, closed_one, temps_one}
use Rattle.tg_translate_laws.specs.Strings.{strings}
use Rattle.tg_translate_laws.proofs.Measured.{literals_are}
use Rattle.tg_translate_laws.proofs.Fine.{Each}
use Rattle.tg_translate_laws.proofs.Keeping.{about}
use Rattle.tg_translate_laws.proofs.Scoping.{named_cases}
use Rattle.tg_translate_laws.proofs.Typed.{breaks_stand}
use Rattle.tg_translate_laws.proofs.Reaching.{reaches, distinct_of}

fault_below : (k : ℕ) → nat_lt k 1048576 ≡ true → k < 1048576
fault_below k e = grind (arith, nat_tests, e)

-- what a function of the runtime names
abbrev NamesOwn : Named → Type 0
NamesOwn x = ((l : ℕ) → x ≢ function l) × ((l : ℕ) → x ≢ literal l) × ((k : ℕ) → x ≡ fault k → k < 1048576)

own_is : (n : ℕ) (x : Named) → is_own n x ≡ true → NamesOwn x
own_is n (function l) e = cc
own_is n (literal l) e = cc
own_is n (fault j) e = (λ l i. cc, λ l i. cc, λ k i. let h : j ≡ k = cc in subst (λ m. m < 1048576) h (fault_below j e))
own_is n (temporary j) e = (λ l i. cc, λ l i. cc, λ k i. cc)
own_is n (constant j) e = (λ l i. cc, λ l i. cc, λ k i. cc)

routines_own : (fs : List (Function Ts)) → AreRoutines fs → (f : Function Ts) → Contains fs f → (x : Named) → Contains
    (names f.body) x → NamesOwn x
routines_own [] h f c x k = absurd (omega (arith, c.1))
routines_own (g ∷ gs) h f (zero, l, e) x k =
    let own : list_all (is_own f.temps) (names f.body) ≡ true = subst (λ j. list_all (is_own j.temps) (names j.body) ≡ true) e h.0.own in
    own_is f.temps x (All-contains (λ y. is_own f.temps y ≡ true) (names f.body) x (AllPass-from_list_all (is_own f.temps) (names f.body) own) k)
routines_own (g ∷ gs) h f (suc n, l, e) x k = routines_own gs h.1 f (n, omega arith, e) x k

pub programs_are_linked : LabelsInOrder → AllAreRoutines → ProgramsAreLinked
programs_are_linked labels routines findings e =
    linked (about ⊥ ⊥ findings) e (translated findings e) (has_shape (about ⊥ ⊥ findings) e (λ b. absurd b) (λ t. absurd t))
    runtime.functions labels
    (routines_own runtime.functions routines)

pub labels_are_above : LabelsAreAbove
labels_are_above findings e = above (about ⊥ ⊥ findings) e (translated findings e)
    (has_shape (about ⊥ ⊥ findings) e (λ b. absurd b) (λ t. absurd t))

pub bodies_are_closed : BodiesAreClosed
bodies_are_closed findings e f h =
    closed_one (about (Unit {0}) ⊥ findings) e (translated findings e)
    (has_shape (about (Unit {0}) ⊥ findings) e (λ b. h) (λ t. absurd t)) tt f

pub checked_bodies_are_closed : CheckedHasType → CheckedBodiesAreClosed
checked_bodies_are_closed typed p escapes links f a =
    let d = typed p a in
    bodies_are_closed (found p.notes escapes links) p.body f
    (breaks_stand d.shapes p.notes p.body (outermost_scope p.names) d.type false refl d.has)

pub temporaries_are_drawn : TemporariesAreDrawn
temporaries_are_drawn findings e f h =
    temps_one (about ⊥ (Unit {0}) findings) e (translated findings e)
    (has_shape (about ⊥ (Unit {0}) findings) e (λ b. absurd b) (λ t. h)) tt f

-- In the outermost scope no name is a variable's.

no_standard : (x at : ℕ) (t : Ty) (loop : Bool) (n : ℕ) (o : Option Standard) (rest : List (ℕ × Binding)) →
    (looked_up x rest ≡ Some (variable_at at t loop) → ⊥) → looked_up x (entry standard_one n o ++ rest) ≡ Some
    (variable_at at t loop) → ⊥
no_standard x at t loop n None rest h e = h e
no_standard x at t loop n (Some f) rest h e =
    elim (named_cases x n (standard_one f) (variable_at at t loop) rest e) [
      | inl q ↦ (let differ : standard_one f ≡ variable_at at t loop = q.1 in cc)
      | inr q ↦ h q.1
    ]

no_variable : (x at : ℕ) (t : Ty) (loop : Bool) (n : ℕ) (names : List (List ℕ)) → looked_up x (standard_bindings n names) ≡
    Some (variable_at at t loop) → ⊥
no_variable x at t loop n [] e = cc
no_variable x at t loop n (text ∷ names) e =
    no_standard x at t loop n (standard_of text standards) (standard_bindings (suc n) names)
    (no_variable x at t loop (suc n) names) e

-- What the uses show is in the set that they make.

same_number : (x y : ℕ) → x ≡ y → nat_eq x y ≡ true
same_number x y e = grind (arith, nat_tests)

any_is : (xs : List ℕ) (x : ℕ) → Contains xs x → list_any (λ y. nat_eq y x) xs ≡ true
any_is [] x c = absurd (omega (arith, c.1))
any_is (y ∷ ys) x (zero, l, e) = or_left (nat_eq y x) (list_any (λ z. nat_eq z x) ys) (same_number y x e)
any_is (y ∷ ys) x (suc k, l, e) = or_right (nat_eq y x) (list_any (λ z. nat_eq z x) ys) (any_is ys x (k, omega arith, e))

each_shown : (us : List Use) (P : ℕ → Type 0) → ((at : ℕ) → Contains (flat_map escapes_by us) at → P at) →
    Each (λ u. (at : ℕ) → Contains (escapes_by u) at → P at) us
each_shown [] P h = tt
each_shown (u ∷ us) P h = (
  λ at c. h at (Contains-append_left (escapes_by u) (flat_map escapes_by us) at c),
  each_shown us P (λ at c. h at (Contains-append_right (escapes_by u) (flat_map escapes_by us) at c)),
)

pub checked_reaches : CheckedHasType → NotesAreFound → CheckedReaches
checked_reaches typed noted p links a =
    let body = p.body in
    let d = typed p a in
    let set : FinSet nat_cmp = from_list (escapes_of body) in
    (reaches d.shapes p.notes (findings_in p links) (λ at m s. (noted p a at m).0 s) body (outermost_scope p.names) d.type
    (record { seen = []; within = []; own = []; around = []; before = [] }) [] d.has
    (record {
      agrees = λ x at t loop e. absurd (no_variable x at t loop 0 p.names e);
      own_in = λ y c. c;
      around_in = λ y c. c;
    })
    (distinct_of (beginnings body []) (λ i j k l m. a.apart i j k l m))
    (each_shown (uses_of body) (λ at. contains set at ≡ true)
    (λ at c. contains-from_list_nat (escapes_of body) at ∙ any_is (escapes_of body) at c))).0

pub checked_temporaries_are_drawn : CheckedHasType → NotesAreFound → CheckedTemporariesAreDrawn
checked_temporaries_are_drawn typed noted p links f a =
    temporaries_are_drawn (findings_in p links) p.body f (checked_reaches typed noted p links a)

pub literals_are_strings : LiteralsAreStrings
literals_are_strings findings e = literals_are findings e

-- Bytes of literals.

pub sum_by-map : {X Y : Type 0} (f : Y → ℕ) (g : X → Y) (xs : List X) → sum_by f (map g xs) ≡ sum_by (λ x. f (g x)) xs
sum_by-map f g [] = refl
sum_by-map f g (x ∷ xs) = sum_by-cons f (g x) (map g xs) ∙ (ap (λ n. f (g x) + n) (sum_by-map f g xs) ∙ sym (sum_by-cons (λ y. f (g y)) x xs))

-- a word more than a string
pub length_text : (bytes : List ℕ) → length (string_text bytes) ≡ 4 + length bytes
length_text bytes =
    let h : length (to_le_bytes w32 (length bytes)) ≡ 4 = refl in
    let k = length-append (to_le_bytes w32 (length bytes)) bytes in
    omega (arith, h, k)

sum_of_texts : (xs : List (List ℕ)) → sum_by (λ bytes. length (string_text bytes)) xs ≡ sum_by
    (λ bytes. 4 + length bytes) xs
sum_of_texts [] = refl
sum_of_texts (x ∷ xs) =
    sum_by-cons (λ bytes. length (string_text bytes)) x xs
    ∙ (ap (λ n. n + sum_by (λ bytes. length (string_text bytes)) xs) (length_text x)
    ∙ (ap (λ n. 4 + length x + n) (sum_of_texts xs) ∙ sym (sum_by-cons (λ bytes. 4 + length bytes) x xs)))

pub literals_are_short : LiteralsAreShort
literals_are_short findings e =
    sym (sum_by-map length (λ l. l.text) (translated findings e).literals)
    ∙ (ap (sum_by length) (literals_are findings e) ∙ (sum_by-map length string_text (strings e) ∙ sum_of_texts (strings e)))
