-- Laws of the marks among the instructions of a function.
use Rattle.std.proofs.Common.{ℕ, zero, suc, ◌≡◌, ◌≢◌, ◌<◌, ◌≤◌, ◌+◌, ◌⊎◌, inl, inr, List, [], ◌∷◌, Bool, true, false, refl, sym, ap, subst, arith, max}
use Rattle.std.proofs.lemmas.Bool.Decides.{nat_tests}
use Rattle.std.specs.Prelude.{IsTrue, ◌||◌, not, nat_le, nat_eq}
use Rattle.std.specs.List.{Contains, AllPairs, list_all, list_any}
use Rattle.std.proofs.lemmas.List.Elements.{Contains-append_right, Contains-append_cases}
use Rattle.tg_frame.specs.declared.accesses.Access.{Access}
use Rattle.tg_frame.specs.declared.accesses.Access.TheVariants.{InTemp, InFrame}
use Rattle.tg_tree.specs.Tree as tree
use Rattle.tg_tree.specs.Tree.{Linear, Function}
use Rattle.tg_tree.specs.Shapes.{IsWellMarked, marks}
use Rattle.tg_instr.proofs.Tests.{both_hold}
use Rattle.tg_instr.specs.declared.instr.Instr.{Instr}
use Rattle.tg_instr.specs.declared.instr.Instr.TheVariants.{Mark, Jump, Branch}
use Rattle.tg_instr.specs.Codes.{is_mark, marks_differ, leads_to_marks}
use Rattle.tg_munch.specs.mirror.Bodies.{body, mark_above, munched}
use Rattle.tg_munch.proofs.Scopes.{Scope, is_place, reaches, may_name, counted, occurs, spanned}
use Rattle.tg_munch.proofs.NamingCode.{Lays, stands, HomePasses, lays_body, at_least}
use Rattle.tg_munch.proofs.Passing.{pass_code, all_homes_pass}
use Rattle.tg_munch.proofs.NamingLaws.{all_imply, start, reached, any_slot, any_name}

-- A mark that stands in flat code is one of its marks, and is below the first that is drawn.
one_only : {X : Type 0} (e x : X) → Contains (e ∷ []) x → e ≡ x
one_only e x (zero, h, i) = i
one_only e x (suc k, h, i) = let none : ⊥ = omega arith in absurd none

same : (m n : ℕ) → nat_eq m n ≡ true → m ≡ n
same m n e = grind (arith, nat_tests)

other : (m n : ℕ) → nat_eq m n ≡ false → n ≢ m
other m n e = grind (arith, nat_tests)

equal : (n : ℕ) → nat_eq n n ≡ true
equal n = grind (arith, nat_tests)

stands_at : (m n s : ℕ) → n ≡ m → 1 ≤ counted (nat_eq m n) + s
stands_at m n s e = grind (arith, nat_tests)

there_or_behind : (m n s : ℕ) (ms : List ℕ) → Contains (n ∷ []) m ⊎ Contains ms m → (Contains ms m → 1 ≤ s) →
    1 ≤ counted (nat_eq m n) + s
there_or_behind m n s ms (inl p) f = stands_at m n s (one_only n m p)
there_or_behind m n s ms (inr q) f = let h : 1 ≤ s = f q in omega arith

pub stands_once_there : (m : ℕ) (code : List Linear) → Contains (marks code) m → 1 ≤ stands m code
stands_once_there m [] c = let none : ⊥ = omega (arith, c.1) in absurd none
stands_once_there m (tree.Mark n ∷ rest) c =
    there_or_behind m n (stands m rest) (marks rest) (Contains-append_cases (n ∷ []) (marks rest) m c)
    (stands_once_there m rest)
stands_once_there m (_ ∷ rest) c = let h = stands_once_there m rest c in omega (arith, h)

there_by : (m n : ℕ) (rest : List Linear) → (b : Bool) → nat_eq m n ≡ b → 1 ≤ counted b + stands m rest →
    (1 ≤ stands m rest → Contains (marks rest) m) →
    Contains (n ∷ marks rest) m
there_by m n rest true e h f = (0, omega arith, sym (same m n e))
there_by m n rest false e h f = Contains-append_right (n ∷ []) (marks rest) m (f (omega arith))

pub there_where_it_stands : (m : ℕ) (code : List Linear) → 1 ≤ stands m code → Contains (marks code) m
there_where_it_stands m [] h = let none : ⊥ = omega arith in absurd none
there_where_it_stands m (tree.Mark n ∷ rest) h = there_by m n rest (nat_eq m n) refl h (there_where_it_stands m rest)
there_where_it_stands m (_ ∷ rest) h = there_where_it_stands m rest (omega arith)

tail_apart : (n : ℕ) (ms : List ℕ) → AllPairs (λ a b. a ≢ b) (n ∷ ms) → AllPairs (λ a b. a ≢ b) ms
tail_apart n ms p i j d h k = p (suc i) (suc j) d (omega arith) (omega arith)

head_apart : (n : ℕ) (ms : List ℕ) → AllPairs (λ a b. a ≢ b) (n ∷ ms) → Contains ms n → ⊥
head_apart n ms p (k, less, e) = p 0 (suc k) n (omega arith) (omega arith) (sym e)

once_by : (m n : ℕ) (rest : List Linear) → (b : Bool) → nat_eq m n ≡ b → (Contains (marks rest) n → ⊥) →
    stands m rest ≤ 1 → counted b + stands m rest ≤ 1
once_by m n rest true e apart h =
    let here : m ≡ n = same m n e in
    let none : 1 ≤ stands m rest → ⊥ =
    λ k. apart (subst (λ x. Contains (marks rest) x) here (there_where_it_stands m rest k)) in
    omega (arith, none)
once_by m n rest false e apart h = omega arith

pub stands_once : (m : ℕ) (code : List Linear) → AllPairs (λ a b. a ≢ b) (marks code) → stands m code ≤ 1
stands_once m [] p = omega arith
stands_once m (tree.Mark n ∷ rest) p =
    once_by m n rest (nat_eq m n) refl (head_apart n (marks rest) p) (stands_once m rest (tail_apart n (marks rest) p))
stands_once m (_ ∷ rest) p = let h = stands_once m rest p in omega (arith, h)

above_by : (m n s above : ℕ) → (b : Bool) → nat_eq m n ≡ b → 1 ≤ counted b + s → (1 ≤ s → m < above) →
    m < max (n + 1) above
above_by m n s above true e h f = let here : m ≡ n = same m n e in omega arith
above_by m n s above false e h f = let g : m < above = f (omega arith) in omega arith

pub below_first : (m : ℕ) (code : List Linear) → 1 ≤ stands m code → m < mark_above code
below_first m [] h = let none : ⊥ = omega arith in absurd none
below_first m (tree.Mark n ∷ rest) h = above_by m n (stands m rest) (mark_above rest) (nat_eq m n) refl h
    (below_first m rest)
below_first m (_ ∷ rest) h = let g = below_first m rest (omega arith) in omega (arith, g)

-- marks of a list that differ, and one that stands there
none_by : (b c : Bool) (s : ℕ) → counted b + s ≡ 0 → (s ≡ 0 → c ≡ false) → (b || c) ≡ false
none_by true c s h f = let none : ⊥ = omega arith in absurd none
none_by false c s h f = f (omega arith)

none_occurs : (m : ℕ) (list : List Instr) → occurs m list ≡ 0 → list_any (is_mark m) list ≡ false
none_occurs m [] h = refl
none_occurs m (one ∷ rest) h = none_by (is_mark m one) (list_any (is_mark m) rest) (occurs m rest) h
    (none_occurs m rest)

some_by : (b c : Bool) (s : ℕ) → 1 ≤ counted b + s → (1 ≤ s → IsTrue c) → IsTrue (b || c)
some_by true c s h f = refl
some_by false c s h f = f (omega arith)

pub some_occurs : (m : ℕ) (list : List Instr) → 1 ≤ occurs m list → IsTrue (list_any (is_mark m) list)
some_occurs m [] h = let none : ⊥ = omega arith in absurd none
some_occurs m (one ∷ rest) h = some_by (is_mark m one) (list_any (is_mark m) rest) (occurs m rest) h
    (some_occurs m rest)

behind_less : (b : Bool) (s : ℕ) → counted b + s ≤ 1 → s ≤ 1
behind_less b s h = omega arith

not_behind : (n s : ℕ) → counted (nat_eq n n) + s ≤ 1 → s ≡ 0
not_behind n s h = grind (arith, nat_tests, equal n)

pub differ_where_once : (list : List Instr) → ((m : ℕ) → occurs m list ≤ 1) → IsTrue (marks_differ list)
differ_where_once [] h = refl
differ_where_once (Mark n ∷ rest) h =
    both_hold _ _ (ap not (none_occurs n rest (not_behind n (occurs n rest) (h n))))
    (differ_where_once rest (λ m. behind_less (nat_eq m n) (occurs m rest) (h m)))
differ_where_once (one ∷ rest) h = differ_where_once rest (λ m. behind_less (is_mark m one) (occurs m rest) (h m))

-- the marks of a function's code: those of its flat code, and those that are drawn
abbrev stands_in : List Linear → ℕ → Bool
stands_in code m = nat_le 1 (stands m code)

abbrev marking : Function (List Linear) → (mark : ℕ) → Scope
marking f m = record {
  slots = f.slots;
  is_slot = any_slot;
  is_name = any_name;
  is_target = stands_in f.body;
  first_mark = mark_above f.body;
  mark = m;
  has_slots = λ k h. refl;
}

any_home : (f : Function (List Linear)) (m : ℕ) → (home : Access) → HomePasses (marking f m) home
any_home f m (InTemp t) = refl
any_home f m (InFrame k) = refl

laid : (f : Function (List Linear)) → IsWellMarked f.body → (m : ℕ) →
    Lays (marking f m) (stands m f.body) (body f) (start f)
laid f h m =
    let w = marking f m in
    lays_body w f.params f.body (all_homes_pass w f.params (any_home f m))
    (pass_code w f.body (λ x c. refl) (λ n c. at_least 1 (stands n f.body) (stands_once_there n f.body (h.there n c))))
    (start f)

at_most_once : (s first end m : ℕ) → s ≤ 1 → (1 ≤ s → m < first) → s + spanned first end m ≤ 1
at_most_once s first end m h f = grind (arith, nat_tests)

pub marks_are_apart : (f : Function (List Linear)) → IsWellMarked f.body → IsTrue (marks_differ (munched f).code)
marks_are_apart f h =
    differ_where_once (munched f).code (λ m.
    let e = (laid f h m).marks_stand in
    let g = at_most_once (stands m f.body) (mark_above f.body) (munched f).drawn.mark m (stands_once m f.body h.apart)
    (below_first m f.body) in
    omega (arith, e, g))

placed_by : (s : ℕ) (b c : Bool) → nat_le 1 s ≡ b → IsTrue (b || c) → 1 ≤ s + counted c
placed_by s true c e h = let g : 1 ≤ s = grind (arith, nat_tests) in omega arith
placed_by s false true e h = omega arith
placed_by s false false e h = cc

leads : (f : Function (List Linear)) → IsWellMarked f.body → (one : Instr) →
    IsTrue (reaches (marking f 0) (munched f).drawn one) →
    IsTrue (leads_to_marks (munched f).code one)
leads f h one r = by one r
  where
    place : (m : ℕ) → IsTrue (is_place (marking f 0) (munched f).drawn m) →
        IsTrue (list_any (is_mark m) (munched f).code)
    place m p =
        let e = (laid f h m).marks_stand in
        let g = placed_by (stands m f.body) (stands_in f.body m) _ refl p in
        some_occurs m (munched f).code (omega (arith, e, g))

    by : (one : Instr) → IsTrue (reaches (marking f 0) (munched f).drawn one) →
        IsTrue (leads_to_marks (munched f).code one)
    by (Jump m) r = place m r
    by (Branch test m) r = place m r
    by _ r = refl

pub marks_are_there : (f : Function (List Linear)) → IsWellMarked f.body →
    IsTrue (list_all (leads_to_marks (munched f).code) (munched f).code)
marks_are_there f h =
    let w = marking f 0 in
    let d = (munched f).drawn in
    all_imply (may_name w d) (leads_to_marks (munched f).code) (λ one k. leads f h one (reached w d one k))
    (munched f).code ((laid f h 0).code (omega arith))
