-- Generated programs are well typed.
use Rattle.std.proofs.Common.{ℕ, zero, suc, ◌≡◌, ◌≤◌, ◌<◌, ◌⊎◌, inl, inr, List, [], ◌∷◌, ◌++◌, Bool, true, false, refl, sym, ap, subst, ◌∙◌, arith}
use Rattle.std.proofs.Common.{append_assoc}
use Rattle.std.specs.Prelude.{Some, ◌==◌, if◌then◌else◌}
use Rattle.std.proofs.lemmas.Bool.Decides.{nat_tests}
use Rattle.tg_syntax.specs.declared.tokens.Ident.{Ident}
use Rattle.tg_semantics.specs.declared.standards.Standard.TheVariants.{Print, Ord, Chr}
use Rattle.tg_typecheck.specs.declared.faults.TypeRule.TheVariants.{T17}
use Rattle.tg_typecheck.specs.Types.{Ty, int_type, none_type}
use Rattle.tg_symbols.specs.Tables.{looked_up}
use Rattle.tg_semantics.specs.Environments.{name_of}
use Rattle.tg_typecheck.specs.Scopes.{Signature, Binding, function_at, Scope, outermost_scope, standard_one, standard_bindings, standard_types}
use Rattle.tg_typecheck.specs.Scopes.{binding, in_no_loop}
use Rattle.tg_typecheck.specs.Groups.{function_names, param_types, with_functions, with_params}
use Rattle.tg_typecheck.specs.Typing.{typed, typed_last}
use Rattle.tg_program_generator_laws.proofs.Lines.{place}
use Rattle.tg_program_generator_laws.proofs.Names.{names_of, head_names, fresh, at_most}
use Rattle.tg_program_generator_laws.proofs.Trees.{id, parameters, line_body, last_exps, Spans, group, tree}
use Rattle.tg_program_generator_laws.proofs.Bodies.{Gives, ok, noted, and_then, kind, printing, counting, Sees, scope, given, d_typed, p_typed, last_typed}
use Rattle.tg_program_generator_laws.proofs.Bodies.{later_typed}
use Rattle.tg_program_generator_laws.proofs.Groups.{Rise, rise_more, no_repeats_give, names_more, Headed, headed_more, headers_give, Bodied, bodied_more}
use Rattle.tg_program_generator_laws.proofs.Groups.{bodies_give}
use Rattle.tg_program_generator_laws.proofs.Groups.{scope_more}

-- the signatures of the group
abbrev signatures : ℕ → List Signature
signatures zero = printing ∷ printing ∷ []
signatures (suc n) = signatures n ++ counting ∷ []

-- the numbers of its names rise
abbrev highest : ℕ → ℕ
highest zero = 7
highest (suc n) = place n

rises : (n : ℕ) → highest n < place n
rises zero = omega arith
rises (suc zero) = omega arith
rises (suc (suc zero)) = omega arith
rises (suc (suc (suc k))) = omega arith

group_rises : (s : Spans) (n : ℕ) → Rise 0 (function_names (group s n)) (highest n)
group_rises s zero = (omega arith, (omega arith, omega arith))
group_rises s (suc n) =
    let f = id (s.lines n) 1 (place n) in
    subst (λ xs. Rise 0 xs (place n))
    (sym (names_more (group s n) f (parameters (s.lines n)) (Some (id (s.lines n) 8 3)) (line_body n (s.lines n))))
    (rise_more 0 (function_names (group s n)) (highest n) f (group_rises s n) (rises n))

-- the numbers of its functions differ from one another, and from the names of the head
place_rises : (k m : ℕ) → k < m → place k < place m
place_rises k zero h = absurd (omega arith)
place_rises k (suc m) h = by (λ l. place_rises k m l) (at_most (suc k) m h)
  where
    by : (k < m → place k < place m) → (suc k ≤ m) ⊎ (suc k ≡ suc m) → place k < place (suc m)
    by before (inl l) = omega (arith, before l, rises (suc m))
    by before (inr e) = let same : k ≡ m = omega arith in subst (λ x. place x < place (suc m)) (sym same) (rises (suc m))

higher_apart : (m n : ℕ) → m < n → (n == m) ≡ false
higher_apart m n h = grind (arith, nat_tests)

same_number : (n : ℕ) → (n == n) ≡ true
same_number n = grind (arith, nat_tests)

head_apart : (k x : ℕ) → x < 8 → (place k == x) ≡ false
head_apart zero x h = grind (arith, nat_tests)
head_apart (suc zero) x h = grind (arith, nat_tests)
head_apart (suc (suc k)) x h = grind (arith, nat_tests)

-- what the outermost scope has
pub record IsStandard (bindings : List (ℕ × Binding)) (types : List (ℕ × Ty)) : Type 0 where
  pub print : looked_up 4 bindings ≡ Some (standard_one Print)
  pub chr : looked_up 5 bindings ≡ Some (standard_one Chr)
  pub ord : looked_up 6 bindings ≡ Some (standard_one Ord)
  pub int : looked_up 3 types ≡ Some int_type

module _ (bindings : List (ℕ × Binding)) (types : List (ℕ × Ty)) (std : IsStandard bindings types) (s : Spans) where
  abbrev outer : Scope
  outer = scope (given 0 (s.head 2).from bindings) types

  one_param : (x k : Ident) → name_of k ≡ 3 → Gives (param_types outer [] (record { name = x; kind = k } ∷ [])) (int_type ∷ [])
  one_param x k e = and_then _ ok (and_then _ (kind k (ap (λ n. looked_up n types) e ∙ std.int)) (and_then _ ok ok))

  group_headed : (n : ℕ) → Headed (group s n) (signatures n) outer
  group_headed zero = (one_param (id s.head 8 2) (id s.head 10 3) refl, ok, (one_param (id s.head 28 2) (id s.head 30 3) refl, ok, tt))
  group_headed (suc n) =
      let line = s.lines n in
      headed_more (group s n) (signatures n) outer (id line 1 (place n)) (parameters line) (Some (id line 8 3)) (line_body n line) counting
      (group_headed n) (one_param (id line 3 9) (id line 5 3) refl) (kind (id line 8 3) std.int)

  -- the scope after the group of so many functions
  abbrev inside : ℕ → Scope
  inside n = with_functions (group s n) (signatures n) outer

  inside_more : (n : ℕ) → inside (suc n) ≡ binding (id (s.lines n) 1 (place n)) (function_at (s.lines n 1).from counting) (inside n)
  inside_more n =
      let line = s.lines n in
      scope_more (group s n) (signatures n) outer outer (id line 1 (place n)) (parameters line) (Some (id line 8 3)) (line_body n line) counting
      (group_headed n)

  types_kept : (n : ℕ) → (inside n).types ≡ types
  types_kept zero = refl
  types_kept (suc n) = ap (λ sc. sc.types) (inside_more n) ∙ types_kept n

  loop_kept : (n : ℕ) → (inside n).in_loop ≡ false
  loop_kept zero = refl
  loop_kept (suc n) = ap (λ sc. sc.in_loop) (inside_more n) ∙ loop_kept n

  -- what is found there
  newest : (n x : ℕ) (b : Bool) → (place n == x) ≡ b →
      looked_up x (inside (suc n)).bindings ≡ (if b then Some (function_at (s.lines n 1).from counting) else looked_up x (inside n).bindings)
  newest n x b e =
      ap (λ sc. looked_up x sc.bindings) (inside_more n)
      ∙ ap (λ c. if c then Some (function_at (s.lines n 1).from counting) else looked_up x (inside n).bindings) e

  of_head : (n x : ℕ) → x < 8 → looked_up x (inside n).bindings ≡ looked_up x (inside zero).bindings
  of_head zero x h = refl
  of_head (suc n) x h = newest n x false (head_apart n x h) ∙ of_head n x h

  of_line : (n k : ℕ) → k < n → looked_up (place k) (inside n).bindings ≡ Some (function_at (s.lines k 1).from counting)
  of_line zero k h = absurd (omega arith)
  of_line (suc n) k h = by (λ l. of_line n k l) (at_most (suc k) n h)
    where
      by : (k < n → looked_up (place k) (inside n).bindings ≡ Some (function_at (s.lines k 1).from counting)) → (suc k ≤ n) ⊎ (suc k ≡ suc n) →
          looked_up (place k) (inside (suc n)).bindings ≡ Some (function_at (s.lines k 1).from counting)
      by before (inl l) = newest n (place k) false (higher_apart (place k) (place n) (place_rises k n l)) ∙ before l
      by before (inr e) =
          let same : n ≡ k = omega arith in
          subst (λ m. looked_up (place m) (inside (suc n)).bindings ≡ Some (function_at (s.lines m 1).from counting)) same
          (newest n (place n) true (same_number (place n)))

  sees : (n : ℕ) → Sees (inside n).bindings (inside n).types
  sees n = record {
    s_at = (s.head 2).from;
    s = of_head n 0 (omega arith);
    d_at = (s.head 6).from;
    d = of_head n 1 (omega arith);
    p_at = (s.head 26).from;
    p = of_head n 7 (omega arith);
    print = of_head n 4 (omega arith) ∙ std.print;
    chr = of_head n 5 (omega arith) ∙ std.chr;
    ord = of_head n 6 (omega arith) ∙ std.ord;
    int = ap (looked_up 3) (types_kept n) ∙ std.int;
  }

  line_typed : (n m : ℕ) → m < n →
      Gives (typed (line_body m (s.lines m)) (with_params (parameters (s.lines m)) (int_type ∷ []) (in_no_loop (inside n)))) int_type
  line_typed n zero h = and_then _ (noted _ _) ok
  line_typed n (suc k) h =
      later_typed (inside n).bindings (inside n).types (sees n) k (s.lines (suc k)) (s.lines (suc k) 3).from (of_line n k (omega arith))

  bodied : (n m : ℕ) → m ≤ n → Bodied (group s m) (signatures m) (in_no_loop (inside n))
  bodied n zero h =
      let b = (inside n).bindings in
      let t = (inside n).types in
      (d_typed b t (sees n) s.head (s.head 8).from, ok, (p_typed b t (sees n) s.head (s.head 28).from, ok, tt))
  bodied n (suc m) h =
      let line = s.lines m in
      bodied_more (group s m) (signatures m) (in_no_loop (inside n)) (id line 1 (place m)) (parameters line) (Some (id line 8 3)) (line_body m line)
      counting (bodied n m (omega arith)) (line_typed n m (omega arith)) (and_then _ ok ok)

  last_line : (k : ℕ) → Gives (typed_last none_type (last_exps k s.last) (inside (suc k))) none_type
  last_line k =
      let n = suc k in
      let b = (inside n).bindings in
      let t = (inside n).types in
      subst (λ l. Gives (typed_last none_type (last_exps k s.last) (record { bindings = b; types = t; in_loop = l })) none_type) (sym (loop_kept n))
      (last_typed b t (sees n) k s.last (of_line n k (omega arith)))

  pub program_typed : (k : ℕ) → Gives (typed (tree s k) (scope bindings types)) none_type
  program_typed k =
      let n = suc k in
      let names = no_repeats_give T17 [] (function_names (group s n)) 0 (highest n) tt (group_rises s n) in
      let heads = headers_give (group s n) (signatures n) outer (group_headed n) in
      let all_bodies = bodies_give (group s n) (signatures n) (in_no_loop (inside n)) (bodied n n (omega arith)) in
      and_then _ (and_then _ ok (and_then _ (and_then _ ok (and_then _ ok ok)) (and_then _ names (and_then _ heads (and_then _ all_bodies ok))))) (last_line k)

-- the names that come after those of the head
abbrev behind : ℕ → List (List ℕ)
behind zero = []
behind (suc n) = behind n ++ fresh n

names_are : (n : ℕ) → names_of n ≡ head_names ++ behind n
names_are zero = refl
names_are (suc n) = ap (λ l. l ++ fresh n) (names_are n) ∙ append_assoc head_names (behind n) (fresh n)

pub well_typed : (s : Spans) (n k : ℕ) → Gives (typed (tree s k) (outermost_scope (names_of n))) none_type
well_typed s n k =
    let m = behind n in
    let std : IsStandard (standard_bindings 0 (head_names ++ m)) (standard_types 0 (head_names ++ m)) =
    record { print = refl; chr = refl; ord = refl; int = refl } in
    subst (λ names. Gives (typed (tree s k) (outermost_scope names)) none_type) (sym (names_are n))
    (program_typed (standard_bindings 0 (head_names ++ m)) (standard_types 0 (head_names ++ m)) std s k)
