-- Groups of type declarations, one after another.
use Rattle.std.specs.Prelude.{Option, Some, None, nat_eq, ◌==◌, ◌||◌, not, cond, if◌then◌else◌}
use Rattle.std.specs.Prelude.{Result, Ok, Err, OnOk}
use Rattle.std.specs.Option.{option_map, is_some}
use Rattle.std.specs.List.{All}
use Rattle.std.specs.List.{list_any}
use Rattle.std.specs.HashSet as set
use Rattle.std.specs.HashSet.{HashSet}
use Rattle.std.specs.HashMap as hash
use Rattle.std.specs.HashMap.{HashMap}
use Rattle.std.proofs.Common.{◌≡◌, ℕ, zero, suc, ◌+◌, ◌-◌, ◌<◌, ◌≤◌, List, [], ◌∷◌, ◌++◌, length, map, take, drop, get_or, Bool, true, false, refl}
use Rattle.std.proofs.Common.{sym, ap, ◌∙◌, subst, arith, append_assoc, eq-eqb}
use Rattle.std.proofs.lemmas.Bool.{eqb-true}
use Rattle.std.proofs.lemmas.List.{length-map, get_or-map, get_or_default}
use Rattle.tg_base.specs.declared.faulty.Faulty.{Faulty}
use Rattle.tg_base.specs.declared.faulty.Faulty.TheVariants.{Bad}
use Rattle.tg_syntax.specs.declared.tokens.Ident.{Ident}
use Rattle.tg_syntax.specs.declared.trees.Param.{Param}
use Rattle.tg_syntax.specs.declared.trees.TypeDec.{TypeDec as CodeTypeDec}
use Rattle.tg_syntax.specs.Tree.{TypeDec}
use Rattle.tg_syntax.specs.glue.Plain.{plain_type, plain_form}
use Rattle.tg_syntax.specs.NamesWithin.{TypesWithin, FormWithin, ParamsWithin, NameIsWithin}
use Rattle.tg_typecheck.specs.declared.faults.TypeRule.{TypeRule}
use Rattle.tg_typecheck.specs.declared.faults.TypeRule.TheVariants.{T16, T18, T19}
use Rattle.tg_typecheck.specs.Checks.{Check, Noted, fine, keep, give, refuse, add_shape, ◌>>=◌}
use Rattle.tg_semantics.specs.Environments.{name_of}
use Rattle.tg_typecheck.specs.Scopes.{Scope, at_of, standard_bindings, standard_types}
use Rattle.tg_typecheck.specs.Types.{Ty, Shape}
use Rattle.tg_typecheck.specs.Groups as groups
use Rattle.tg_typecheck.specs.Groups.{stands_in, no_repeats, names_of, known_name, known_form, known_forms, known_fields, endless, ends_at, chain_of, has_end}
use Rattle.tg_typecheck.specs.Groups.{chains_end, type_at_end, with_group, add_form, add_forms}
use Rattle.tg_typecheck.specs.glue.Declaring.{HasPlaces, HasNames, place_in, AreDifferent, chain_from, ChainWithin, named_types}
use Rattle.tg_typecheck.specs.declared.states.CheckingState.{CheckingState}
use Rattle.tg_typecheck.specs.declared.chains.Chain.{Chain as CodeChain}
use Rattle.tg_typecheck.specs.declared.chains.Chain.TheVariants.{Outside, EndsAt, Onward}
use Rattle.tg_typecheck.proofs.ChainSteps.{there}
use Rattle.tg_typecheck.specs.glue.States.{Fails, bad, AnswersCheck, Keeps, Opens, scope_of, noted_of}
use Rattle.tg_typecheck.proofs.Steps.{step, fails_first, fails_then, last_fails, kept_true, kept_false, keeps_both, same_scope, given_is, opens_keep}
use Rattle.tg_typecheck.proofs.Steps.{opens_both}
use Rattle.tg_typecheck.proofs.TreeSteps.{from_here, none_left}

-- ---- prefixes of lists

pub front_more : {A : Type 0} (xs : List A) (k : ℕ) (x : A) → k < length xs → x ≡ get_or xs k x → take (k + 1) xs ≡ take k xs ++ x ∷ []
front_more xs k x l j =
    let i : k + 1 ≡ suc k = omega arith in
    ap (λ m. take m xs) i ∙ more xs k x l j
  where
    more : {A : Type 0} (xs : List A) (k : ℕ) (x : A) → k < length xs → x ≡ get_or xs k x → take (suc k) xs ≡ take k xs ++ x ∷ []
    more [] k x l j = absurd (omega (arith, l))
    more (y ∷ xs) zero x l j = ap (λ z. z ∷ []) (sym j)
    more (y ∷ xs) (suc k) x l j = ap (λ t. y ∷ t) (more xs k x (omega (arith, l)) j)

pub front_length : {A : Type 0} (xs : List A) (k : ℕ) → k ≤ length xs → length (take k xs) ≡ k
front_length [] zero l = refl
front_length [] (suc k) l = absurd (omega (arith, l))
front_length (x ∷ xs) zero l = refl
front_length (x ∷ xs) (suc k) l = ap suc (front_length xs k (omega (arith, l)))

pub front_all : {A : Type 0} (xs : List A) (k : ℕ) → k ≡ length xs → take k xs ≡ xs
front_all [] zero e = refl
front_all [] (suc k) e = refl
front_all (x ∷ xs) zero e = absurd (omega (arith, e))
front_all (x ∷ xs) (suc k) e = ap (λ t. x ∷ t) (front_all xs k (omega (arith, e)))

-- the plain declaration at a place
pub plain_at : (group : List CodeTypeDec) (k : ℕ) (d : CodeTypeDec) → k < length group → d ≡ get_or group k d →
    plain_type d ≡ get_or (map plain_type group) k (plain_type d)
plain_at group k d l e = ap plain_type e ∙ sym (get_or-map plain_type group k d (plain_type d) l)

pub plain_below : (group : List CodeTypeDec) (k : ℕ) → k < length group → k < length (map plain_type group)
plain_below group k l = omega (arith, l, length-map group plain_type)

pub plain_end : (group : List CodeTypeDec) (k : ℕ) → k ≡ length group → k ≡ length (map plain_type group)
plain_end group k l = omega (arith, l, length-map group plain_type)

pub plain_here : (group : List CodeTypeDec) (k : ℕ) (d : CodeTypeDec) → k < length group → d ≡ get_or group k d →
    drop k (map plain_type group) ≡ plain_type d ∷ drop (k + 1) (map plain_type group)
plain_here group k d l e = from_here (map plain_type group) k (plain_type d) (plain_below group k l) (plain_at group k d l e)

-- ---- places of names

abbrev pub place_or : Option ℕ → Option ℕ → Option ℕ
place_or (Some k) p = Some k
place_or None p = p

last_place : (b : Bool) → (if b then Some 0 else option_map suc None) ≡ (if b then Some 0 else None)
last_place true = refl
last_place false = refl

push_step : (b : Bool) (o : Option ℕ) (o' : Option ℕ) (c : Bool) (n : ℕ) → o' ≡ place_or o (if c then Some n else None) →
    (if b then Some 0 else option_map suc o') ≡ place_or (if b then Some 0 else option_map suc o) (if c then Some (suc n) else None)
push_step true o o' c n h = refl
push_step false (Some k) o' c n h = ap (λ p. option_map suc p) h
push_step false None o' true n h = ap (λ p. option_map suc p) h
push_step false None o' false n h = ap (λ p. option_map suc p) h

place_push : (q : ℕ) (ds : List TypeDec) (d : TypeDec) →
    place_in q (ds ++ d ∷ []) ≡ place_or (place_in q ds) (if name_of d.name == q then Some (length ds) else None)
place_push q [] d = last_place (name_of d.name == q)
place_push q (e ∷ ds) d = push_step (name_of e.name == q) (place_in q ds) (place_in q (ds ++ d ∷ [])) (name_of d.name == q) (length ds) (place_push q ds d)

stands_step : (b : Bool) (o : Option ℕ) (s : Bool) → s ≡ is_some o → (b || s) ≡ is_some (if b then Some 0 else option_map suc o)
stands_step true o s h = refl
stands_step false (Some k) s h = h
stands_step false None s h = h

pub stands : (q : ℕ) (ds : List TypeDec) → stands_in q (names_of ds) ≡ is_some (place_in q ds)
stands q [] = refl
stands q (d ∷ ds) = stands_step (name_of d.name == q) (place_in q ds) (stands_in q (names_of ds)) (stands q ds)

updated : (b : Bool) (o : Option ℕ) (k n : ℕ) → (b ≡ true → o ≡ None) → n ≡ k → cond b (Some k) o ≡ place_or o (if b then Some n else None)
updated true o k n f e = ap (λ m. Some m) (sym e) ∙ ap (λ p. place_or p (Some n)) (sym (f refl))
updated false (Some j) k n f e = refl
updated false None k n f e = refl

seen_step : (b : Bool) (o : Option ℕ) (s : Bool) (n : ℕ) → s ≡ is_some o → (b || s) ≡ is_some (place_or o (if b then Some n else None))
seen_step true (Some k) s n h = refl
seen_step true None s n h = refl
seen_step false (Some k) s n h = h
seen_step false None s n h = h

pub record PlacesOn {S : Type 0} (places : HashMap ℕ ℕ S) (ds : List TypeDec) (k : ℕ) : Type 0 where
  pub earlier : List Ident
  pub has : HasPlaces places (take k ds)
  pub seen : (y : ℕ) → stands_in y earlier ≡ is_some (place_in y (take k ds))
  pub onward : (n : Noted) → no_repeats T16 [] (names_of ds) n ≡ no_repeats T16 earlier (names_of (drop k ds)) n

pub places_one : {S : Type 0} {places : HashMap ℕ ℕ S} {next : HashMap ℕ ℕ S} {ds : List TypeDec} {k : ℕ} (d : TypeDec) → PlacesOn places ds k →
    k < length ds → d ≡ get_or ds k d → hash.get nat_eq places (name_of d.name) ≡ None →
    ((q : ℕ) → hash.get nat_eq next q ≡ cond (nat_eq (name_of d.name) q) (Some k) (hash.get nat_eq places q)) → PlacesOn next ds (k + 1)
places_one {places = places} {ds = ds} {k = k} d a l i g u =
    let x = name_of d.name in
    let more : take (k + 1) ds ≡ take k ds ++ d ∷ [] = front_more ds k d l i in
    let many : length (take k ds) ≡ k = front_length ds k (omega (arith, l)) in
    let free : place_in x (take k ds) ≡ None = sym (a.has x) ∙ g in
    record {
      earlier = d.name ∷ a.earlier;
      has =
          λ q. u q ∙ (ap (λ o. cond (nat_eq x q) (Some k) o) (a.has q)
          ∙ (updated (x == q) (place_in q (take k ds)) k (length (take k ds)) (λ t. subst (λ y. place_in y (take k ds) ≡ None) (eqb-true x q t) free) many
          ∙ (sym (place_push q (take k ds) d) ∙ ap (λ l. place_in q l) (sym more))));
      seen =
          λ y. seen_step (x == y) (place_in y (take k ds)) (stands_in y a.earlier) (length (take k ds)) (a.seen y)
          ∙ (ap (λ o. is_some o) (sym (place_push y (take k ds) d)) ∙ ap (λ l. is_some (place_in y l)) (sym more));
      onward =
          λ n. a.onward n ∙ (ap (λ l. no_repeats T16 a.earlier (names_of l) n) (from_here ds k d l i) ∙ step _ _
          (kept_true T16 (at_of d.name) (ap not (a.seen x ∙ ap (λ o. is_some o) free))) refl);
    }

pub places_repeat : {S : Type 0} {places : HashMap ℕ ℕ S} {ds : List TypeDec} {k : ℕ} (d : TypeDec) → PlacesOn places ds k → k < length ds →
    d ≡ get_or ds k d → is_some (hash.get nat_eq places (name_of d.name)) ≡ true → (n : Noted) →
    Fails (Bad T16 (at_of d.name)) (no_repeats T16 [] (names_of ds) n)
places_repeat {ds = ds} {k = k} d a l i g n =
    last_fails (a.onward n ∙ ap (λ l. no_repeats T16 a.earlier (names_of l) n) (from_here ds k d l i))
    (fails_first _ _ (bad (kept_false n (ap not (a.seen (name_of d.name) ∙ (ap (λ o. is_some o) (sym (a.has (name_of d.name))) ∙ g))))))

pub places_all : {S : Type 0} {places : HashMap ℕ ℕ S} {ds : List TypeDec} {k : ℕ} → PlacesOn places ds k → k ≡ length ds → (n : Noted) →
    no_repeats T16 [] (names_of ds) n ≡ fine tt n
unfolding give
places_all {ds = ds} {k = k} a e n = a.onward n ∙ ap (λ l. no_repeats T16 a.earlier (names_of l) n) (none_left ds k e)

-- names that don't repeat are declared once
kept_on : (at : ℕ) (b : Bool) (next : Check (Unit {0})) (n : Noted) → (keep T16 at (not b) >>= λ _. next) n ≡ fine tt n → (b ≡ false) × (next n ≡ fine tt n)
unfolding ◌>>=◌ give refuse
kept_on at true next n h = absurd (cc)
kept_on at false next n h = (refl, h)

both_false : (b s : Bool) → (b ≡ true → ⊥) → s ≡ false → (b || s) ≡ false
both_false true s f h = absurd (f refl)
both_false false s f h = h

or_second : (b s : Bool) → s ≡ true → (b || s) ≡ true
or_second true s h = refl
or_second false s h = h

apart : (earlier names : List Ident) (y : ℕ) (n : Noted) → no_repeats T16 earlier names n ≡ fine tt n → stands_in y earlier ≡ true → stands_in y names ≡ false
apart earlier [] y n h s = refl
apart earlier (z ∷ names) y n h s =
    let k = kept_on (at_of z) (stands_in (name_of z) earlier) (no_repeats T16 (z ∷ earlier) names) n h in
    both_false (name_of z == y) (stands_in y names) (λ e. unlike (stands_in y earlier) s
    (subst (λ w. stands_in w earlier ≡ false) (eqb-true (name_of z) y e) k.0))
    (apart (z ∷ earlier) names y n k.1 (or_second (name_of z == y) (stands_in y earlier) s))
  where
    unlike : (b : Bool) → b ≡ true → b ≡ false → ⊥
    unlike b h e = cc

later_place : (b : Bool) (o : Option ℕ) (j : ℕ) → (b ≡ true → ⊥) → o ≡ Some j → (if b then Some 0 else option_map suc o) ≡ Some (suc j)
later_place true o j f h = absurd (f refl)
later_place false o j f h = ap (λ p. option_map suc p) h

first_place : (b : Bool) (o : Option ℕ) → b ≡ true → (if b then Some 0 else o) ≡ Some 0
first_place b o e = ap (λ c. if c then Some 0 else o) e

pub differ : (ds : List TypeDec) (earlier : List Ident) (n : Noted) → no_repeats T16 earlier (names_of ds) n ≡ fine tt n → AreDifferent ds
differ [] earlier n r k d h = absurd (cc)
differ (e ∷ ds) earlier n r zero d h =
    let i : e ≡ d = cc in
    first_place (name_of e.name == name_of d.name) (option_map suc (place_in (name_of d.name) ds))
    (eq-eqb (name_of e.name) (name_of d.name) (ap (λ (t : TypeDec). name_of t.name) i))
differ (e ∷ ds) earlier n r (suc j) d h =
    let k = kept_on (at_of e.name) (stands_in (name_of e.name) earlier) (no_repeats T16 (e.name ∷ earlier) (names_of ds)) n r in
    let p : place_in (name_of d.name) ds ≡ Some j = differ ds (e.name ∷ earlier) n k.1 j d h in
    later_place (name_of e.name == name_of d.name) (place_in (name_of d.name) ds) j
    (λ t. clash (stands_in (name_of d.name) (names_of ds)) (stands (name_of d.name) ds ∙ ap (λ o. is_some o) p)
    (apart (e.name ∷ earlier) (names_of ds) (name_of d.name) n k.1 (or_first (name_of e.name == name_of d.name) (stands_in (name_of d.name) earlier) t)))
    p
  where
    clash : (b : Bool) → b ≡ true → b ≡ false → ⊥
    clash b h e = cc

    or_first : (b s : Bool) → b ≡ true → (b || s) ≡ true
    or_first b s h = ap (λ c. c || s) h

pub none_of : {A : Type 0} (o : Option A) → is_some o ≡ false → o ≡ None
none_of None h = refl
none_of (Some a) h = absurd (cc)

-- ---- names that are known

own_is_some : {A : Type 0} (o : Option A) → groups.is_some o ≡ is_some o
own_is_some None = refl
own_is_some (Some a) = refl

pub known_inside : {S : Type 0} (places : HashMap ℕ ℕ S) (group : List TypeDec) (x : ℕ) (other b : Bool) → HasPlaces places group →
    b ≡ is_some (hash.get nat_eq places x) → b ≡ true → true ≡ stands_in x (names_of group) || other
known_inside places group x other b h e t =
    sym (ap (λ c. c || other) (stands x group ∙ (ap (λ o. is_some o) (sym (h x)) ∙ (sym e ∙ t))))

pub known_outside : {S : Type 0} {A : Type 0} (places : HashMap ℕ ℕ S) (group : List TypeDec) (x : ℕ) (o p : Option A) (b c : Bool) → HasPlaces places group →
    b ≡ is_some (hash.get nat_eq places x) → b ≡ false → c ≡ is_some o → o ≡ p → c ≡ stands_in x (names_of group) || groups.is_some p
known_outside places group x o p b c h e t i j =
    i ∙ (ap (λ q. is_some q) j ∙ (sym (own_is_some p) ∙ sym
    (ap (λ d. d || groups.is_some p) (stands x group ∙ (ap (λ q. is_some q) (sym (h x)) ∙ (sym e ∙ t))))))

-- fields, one after another
pub none_seen : {S : Type 0} (seen : HashSet ℕ S) → set.IsEmpty seen → HasNames seen []
none_seen seen e y = ap (λ ks. list_any (nat_eq y) ks) e

abbrev no_name : Ident
no_name = record { name = record { 0 = 0 }; span = record { from = 0; to = 0 } }

abbrev pub field_at : List Param → ℕ → Param
field_at ps k = get_or ps k (record { name = no_name; kind = no_name })

pub field_is : (ps : List Param) (k : ℕ) → k < length ps → field_at ps k ≡ get_or ps k (field_at ps k)
field_is ps k l = get_or_default ps k _ _ l

pub field_within : (n : ℕ) (ps : List Param) (k : ℕ) → ParamsWithin n ps → k < length ps → NameIsWithin n (field_at ps k).kind
field_within n [] k h l = absurd (omega (arith, l))
field_within n (p ∷ ps) zero h l = h.1
field_within n (p ∷ ps) (suc k) h l = field_within n ps k h.2 (omega (arith, l))

pub record FieldsOn {S T : Type 0} (names : List (List ℕ)) (s : CheckingState) (places : HashMap ℕ ℕ S) (seen : HashSet ℕ T)
    (ps : List Param) (k : ℕ) : Type 0 where
  pub earlier : List Ident
  pub has : HasNames seen earlier
  pub onward : (whole : List TypeDec) (scope : Scope) (in_loop : Bool) → HasPlaces places whole → scope ≡ scope_of names s in_loop → (n : Noted) →
      known_fields whole scope [] ps n ≡ known_fields whole scope earlier (drop k ps) n

pub fields_none : {S : Type 0} {T : Type 0} {names : List (List ℕ)} {s : CheckingState} {places : HashMap ℕ ℕ S} {seen : HashSet ℕ T} {ps : List Param} →
    HasNames seen [] → FieldsOn names s places seen ps 0
fields_none h = record { earlier = []; has = h; onward = λ whole scope in_loop p e n. refl }

fields_here : (whole : List TypeDec) (scope : Scope) (earlier : List Ident) (ps : List Param) (k : ℕ) (n : Noted) → k < length ps →
    known_fields whole scope earlier (drop k ps) n ≡ known_fields whole scope earlier (field_at ps k ∷ drop (k + 1) ps) n
fields_here whole scope earlier ps k n l = ap (λ x. known_fields whole scope earlier x n) (from_here ps k (field_at ps k) l (field_is ps k l))

pub fields_one : {S : Type 0} {T : Type 0} {names : List (List ℕ)} {s : CheckingState} {places : HashMap ℕ ℕ S} {seen : HashSet ℕ T} {next : HashSet ℕ T}
    {ps : List Param} {k : ℕ} (a : FieldsOn names s places seen ps k) → k < length ps →
    ((n : Noted) → keep T18 (field_at ps k).name.span.from (not (stands_in (field_at ps k).name.name.0 a.earlier)) n ≡ fine tt n) →
    ((whole : List TypeDec) (scope : Scope) (in_loop : Bool) → HasPlaces places whole → scope ≡ scope_of names s in_loop → (n : Noted) →
    known_name whole scope (field_at ps k).kind n ≡ fine tt n) → HasNames next ((field_at ps k).name ∷ a.earlier) → FieldsOn names s places next ps (k + 1)
fields_one {ps = ps} {k = k} a l g f h = record {
  earlier = (field_at ps k).name ∷ a.earlier;
  has = h;
  onward =
      λ whole scope in_loop p e n. a.onward whole scope in_loop p e n
      ∙ (fields_here whole scope a.earlier ps k n l ∙ step _ _ (g n) (step _ _ (f whole scope in_loop p e n) refl));
}

pub fields_repeat : {S : Type 0} {T : Type 0} {names : List (List ℕ)} {s : CheckingState} {places : HashMap ℕ ℕ S}
    {seen : HashSet ℕ T} {ps : List Param} {k : ℕ}
    {e : Faulty TypeRule ℕ} (a : FieldsOn names s places seen ps k) → k < length ps →
    ((n : Noted) → Fails e (keep T18 (field_at ps k).name.span.from (not (stands_in (field_at ps k).name.name.0 a.earlier)) n)) →
    (whole : List TypeDec) (scope : Scope) (in_loop : Bool) → HasPlaces places whole → scope ≡ scope_of names s in_loop → (n : Noted) →
    Fails e (known_fields whole scope [] ps n)
fields_repeat {ps = ps} {k = k} a l g whole scope in_loop p e n =
    last_fails (a.onward whole scope in_loop p e n ∙ fields_here whole scope a.earlier ps k n l) (fails_first _ _ (g n))

pub fields_unknown : {S : Type 0} {T : Type 0} {names : List (List ℕ)} {s : CheckingState} {places : HashMap ℕ ℕ S}
    {seen : HashSet ℕ T} {ps : List Param} {k : ℕ}
    {e : Faulty TypeRule ℕ} (a : FieldsOn names s places seen ps k) → k < length ps →
    ((n : Noted) → keep T18 (field_at ps k).name.span.from (not (stands_in (field_at ps k).name.name.0 a.earlier)) n ≡ fine tt n) →
    ((whole : List TypeDec) (scope : Scope) (in_loop : Bool) → HasPlaces places whole → scope ≡ scope_of names s in_loop → (n : Noted) →
    Fails e (known_name whole scope (field_at ps k).kind n)) → (whole : List TypeDec) (scope : Scope) (in_loop : Bool) → HasPlaces places whole →
    scope ≡ scope_of names s in_loop → (n : Noted) → Fails e (known_fields whole scope [] ps n)
fields_unknown {ps = ps} {k = k} a l g f whole scope in_loop p e n =
    last_fails (a.onward whole scope in_loop p e n ∙ fields_here whole scope a.earlier ps k n l)
    (fails_then _ _ (g n) (fails_first _ _ (f whole scope in_loop p e n)))

pub fields_all : {S : Type 0} {T : Type 0} {names : List (List ℕ)} {s : CheckingState} {places : HashMap ℕ ℕ S} {seen : HashSet ℕ T} {ps : List Param} {k : ℕ}
    (a : FieldsOn names s places seen ps k) → k ≡ length ps → (whole : List TypeDec) (scope : Scope) (in_loop : Bool) → HasPlaces places whole →
    scope ≡ scope_of names s in_loop → (n : Noted) → known_fields whole scope [] ps n ≡ fine tt n
unfolding give
fields_all {ps = ps} {k = k} a l whole scope in_loop p e n =
    a.onward whole scope in_loop p e n ∙ ap (λ x. known_fields whole scope a.earlier x n) (none_left ps k l)

-- forms, one after another
pub record FormsOn {S : Type 0} (names : List (List ℕ)) (s : CheckingState) (places : HashMap ℕ ℕ S) (ds : List TypeDec) (k : ℕ) : Type 0 where
  pub onward : (whole : List TypeDec) (scope : Scope) (in_loop : Bool) → HasPlaces places whole → scope ≡ scope_of names s in_loop → (n : Noted) →
      known_forms whole ds scope n ≡ known_forms whole (drop k ds) scope n

pub forms_one : {S : Type 0} {names : List (List ℕ)} {s : CheckingState} {places : HashMap ℕ ℕ S} (group : List CodeTypeDec) {k : ℕ} (d : CodeTypeDec) →
    FormsOn names s places (map plain_type group) k → k < length group → d ≡ get_or group k d →
    ((whole : List TypeDec) (scope : Scope) (in_loop : Bool) → HasPlaces places whole → scope ≡ scope_of names s in_loop → (n : Noted) →
    known_form whole scope (plain_form d.form) n ≡ fine tt n) → FormsOn names s places (map plain_type group) (k + 1)
forms_one group {k = k} d a l i f =
    record {
      onward = λ whole scope in_loop p e n. a.onward whole scope in_loop p e n
          ∙ (ap (λ x. known_forms whole x scope n) (plain_here group k d l i) ∙ step _ _ (f whole scope in_loop p e n) refl);
    }

pub forms_fail : {S : Type 0} {names : List (List ℕ)} {s : CheckingState} {places : HashMap ℕ ℕ S} (group : List CodeTypeDec) {k : ℕ}
    (d : CodeTypeDec) {e : Faulty TypeRule ℕ} → FormsOn names s places (map plain_type group) k → k < length group → d ≡ get_or group k d →
    ((whole : List TypeDec) (scope : Scope) (in_loop : Bool) → HasPlaces places whole → scope ≡ scope_of names s in_loop → (n : Noted) →
    Fails e (known_form whole scope (plain_form d.form) n)) → (whole : List TypeDec) (scope : Scope) (in_loop : Bool) → HasPlaces places whole →
    scope ≡ scope_of names s in_loop → (n : Noted) → Fails e (known_forms whole (map plain_type group) scope n)
forms_fail group {k = k} d a l i f whole scope in_loop p e n =
    last_fails (a.onward whole scope in_loop p e n ∙ ap (λ x. known_forms whole x scope n) (plain_here group k d l i))
    (fails_first _ _ (f whole scope in_loop p e n))

pub forms_all : {S : Type 0} {names : List (List ℕ)} {s : CheckingState} {places : HashMap ℕ ℕ S} (group : List CodeTypeDec) {k : ℕ} →
    FormsOn names s places (map plain_type group) k → k ≡ length group → (whole : List TypeDec) (scope : Scope) (in_loop : Bool) → HasPlaces places whole →
    scope ≡ scope_of names s in_loop → (n : Noted) → known_forms whole (map plain_type group) scope n ≡ fine tt n
unfolding give
forms_all group {k = k} a l whole scope in_loop p e n =
    a.onward whole scope in_loop p e n ∙ ap (λ x. known_forms whole x scope n) (none_left (map plain_type group) k (plain_end group k l))

pub form_within : (n : ℕ) (group : List CodeTypeDec) (k : ℕ) (d : CodeTypeDec) → TypesWithin n (map plain_type group) → k < length group →
    d ≡ get_or group k d → FormWithin n (plain_form d.form)
form_within n [] k d w l e = absurd (omega (arith, l))
form_within n (x ∷ group) zero d w l e = subst (λ (t : CodeTypeDec). FormWithin n (plain_form t.form)) (sym e) w.1
form_within n (x ∷ group) (suc k) d w l e = form_within n group k d w.2 (omega (arith, l)) e

-- ---- ends of chains, one after another

pub record EndsOn (whole ds : List TypeDec) (k : ℕ) : Type 0 where
  pub onward : (n : Noted) → chains_end whole ds n ≡ chains_end whole (drop k ds) n

-- the chain of a declaration is the one that its end stands for
pub end_is : (whole : List TypeDec) (group : List CodeTypeDec) (ends : List CodeChain) (k : ℕ) (d : CodeTypeDec) (c : CodeChain) →
    map (λ c. chain_from whole c) ends ≡ map (λ d. chain_of whole d.name) (map plain_type group) → length ends ≡ length group → k < length group →
    d ≡ get_or group k d → c ≡ get_or ends k c → chain_from whole c ≡ chain_of whole d.name
end_is whole group ends k d c h many l i j =
    let m : k < length ends = omega (arith, l, many) in
    ap (λ x. chain_from whole x) j ∙ (sym (get_or-map (λ x. chain_from whole x) ends k c endless m)
    ∙ (ap (λ xs. get_or xs k endless) h ∙ (get_or-map (λ (d : TypeDec). chain_of whole d.name) (map plain_type group) k (plain_type d) endless
    (plain_below group k l) ∙ ap (λ (t : TypeDec). chain_of whole t.name) (sym (plain_at group k d l i)))))

pub ends_one : (group : List CodeTypeDec) {whole : List TypeDec} {k : ℕ} (d : CodeTypeDec) → EndsOn whole (map plain_type group) k → k < length group →
    d ≡ get_or group k d → ((n : Noted) → keep T19 d.name.span.from (has_end (chain_of whole d.name)) n ≡ fine tt n) →
    EndsOn whole (map plain_type group) (k + 1)
ends_one group {whole = whole} {k = k} d a l i f =
    record { onward = λ n. a.onward n ∙ (ap (λ x. chains_end whole x n) (plain_here group k d l i) ∙ step _ _ (f n) refl) }

pub ends_fail : (group : List CodeTypeDec) {whole : List TypeDec} {k : ℕ} (d : CodeTypeDec) {e : Faulty TypeRule ℕ} → EndsOn whole (map plain_type group) k →
    k < length group → d ≡ get_or group k d → ((n : Noted) → Fails e (keep T19 d.name.span.from (has_end (chain_of whole d.name)) n)) → (n : Noted) →
    Fails e (chains_end whole (map plain_type group) n)
ends_fail group {whole = whole} {k = k} d a l i f n =
    last_fails (a.onward n ∙ ap (λ x. chains_end whole x n) (plain_here group k d l i)) (fails_first _ _ (f n))

pub ends_all : (group : List CodeTypeDec) {whole : List TypeDec} {k : ℕ} → EndsOn whole (map plain_type group) k → k ≡ length group → (n : Noted) →
    chains_end whole (map plain_type group) n ≡ fine tt n
unfolding give
ends_all group {whole = whole} {k = k} a l n = a.onward n ∙ ap (λ x. chains_end whole x n) (none_left (map plain_type group) k (plain_end group k l))

pub has_end_ends : (n : ℕ) (ds : List TypeDec) (c : CodeChain) → ChainWithin n ds c → ((k : ℕ) → c ≡ Onward k → ⊥) → true ≡ has_end (chain_from ds c)
has_end_ends n ds (Outside x) w f = refl
has_end_ends n ds (EndsAt k) w f =
    let t = there ds k w in
    sym (ap (λ (p : Option TypeDec). has_end (elim p [ Some d ↦ ends_at d | None ↦ endless ])) t.1)
has_end_ends n ds (Onward k) w f = absurd (f k refl)

pub end_has : (whole : List TypeDec) (group : List CodeTypeDec) (ends : List CodeChain) (k j : ℕ) (d : CodeTypeDec) (e : CodeChain) (b : Bool) →
    map (λ c. chain_from whole c) ends ≡ map (λ d. chain_of whole d.name) (map plain_type group) → length ends ≡ length group →
    (count : ℕ) × All (ChainWithin count whole) ends → k < length group → d ≡ get_or group k d → j ≡ k →
    ((count : ℕ) (g : List TypeDec) → ChainWithin count g (get_or ends j e) → b ≡ has_end (chain_from g (get_or ends j e))) →
    b ≡ has_end (chain_of whole d.name)
end_has whole group ends k j d e b h many within l i s f =
    let m : j < length ends = omega (arith, l, many, s) in
    let c = get_or ends j e in
    let here : c ≡ get_or ends k c = ap (λ i. get_or ends i e) s ∙ get_or_default ends k e c (omega (arith, m, s)) in
    f within.0 whole (within.1 j e m) ∙ ap (λ x. has_end x) (end_is whole group ends k d c h many l i here)

-- ---- types at the ends, one after another

map_push : {A B : Type 0} (f : A → B) (xs : List A) (x : A) → map f (xs ++ x ∷ []) ≡ map f xs ++ f x ∷ []
map_push f [] x = refl
map_push f (y ∷ xs) x = ap (λ t. f y ∷ t) (map_push f xs x)

pub mapped_one : {A B : Type 0} (f : A → B) (xs : List A) (k : ℕ) (e : A) (ts us : List B) (y : B) → k < length xs → ts ≡ map f (take k xs) →
    us ≡ ts ++ y ∷ [] → y ≡ f (get_or xs k e) → us ≡ map f (take (k + 1) xs)
mapped_one f xs k e ts us y l h u i =
    u ∙ (ap (λ t. t ++ y ∷ []) h ∙ (ap (λ z. map f (take k xs) ++ z ∷ []) i
    ∙ (sym (map_push f (take k xs) (get_or xs k e)) ∙ ap (λ t. map f t) (sym (front_more xs k (get_or xs k e) l (get_or_default xs k e _ l))))))

-- ---- fields of a record, from the last on

pub fields_back : {B : Type 0} (f : Param → B) (ps : List Param) (at : ℕ) (table : List B) → 0 < at → at ≤ length ps → table ≡ map f (drop at ps) →
    f (field_at ps (at - 1)) ∷ table ≡ map f (drop (at - 1) ps)
fields_back f ps at table p l h =
    let m : at - 1 < length ps = omega (arith, p, l) in
    let i : at ≡ at - 1 + 1 = omega (arith, p) in
    ap (λ t. f (field_at ps (at - 1)) ∷ t) (h ∙ ap (λ k. map f (drop k ps)) i) ∙ ap (λ t. map f t)
    (sym (from_here ps (at - 1) (field_at ps (at - 1)) m (field_is ps (at - 1) m)))

-- ---- shapes of the forms, one after another

pub record AddedOn (names : List (List ℕ)) (first now : CheckingState) (ds : List TypeDec) (k : ℕ) : Type 0 where
  pub keeps : Keeps first now
  pub onward : (in_loop : Bool) (scope : Scope) → scope ≡ scope_of names first in_loop →
      add_forms scope ds (noted_of first) ≡ add_forms scope (drop k ds) (noted_of now)

pub added_one : {names : List (List ℕ)} {first : CheckingState} {now : CheckingState} {next : CheckingState}
    (group : List CodeTypeDec) {k : ℕ} (d : CodeTypeDec) →
    AddedOn names first now (map plain_type group) k → k < length group → d ≡ get_or group k d → Keeps now next →
    ((in_loop : Bool) (scope : Scope) → scope ≡ scope_of names now in_loop →
    add_form scope d.name.span.from (plain_form d.form) (noted_of now) ≡ fine tt (noted_of next)) → AddedOn names first next (map plain_type group) (k + 1)
added_one {names = names} {now = now} group {k = k} d a l i kept f = record {
  keeps = keeps_both a.keeps kept;
  onward = λ in_loop scope h.
      a.onward in_loop scope h ∙ (ap (λ x. add_forms scope x (noted_of now)) (plain_here group k d l i) ∙ step _ _
      (f in_loop scope (same_scope names a.keeps h)) refl);
}

pub added_fail : {names : List (List ℕ)} {first : CheckingState} {now : CheckingState} (group : List CodeTypeDec) {k : ℕ} (d : CodeTypeDec)
    {e : Faulty TypeRule ℕ} →
    AddedOn names first now (map plain_type group) k → k < length group → d ≡ get_or group k d →
    ((in_loop : Bool) (scope : Scope) → scope ≡ scope_of names now in_loop → Fails e (add_form scope d.name.span.from (plain_form d.form) (noted_of now))) →
    (in_loop : Bool) (scope : Scope) → scope ≡ scope_of names first in_loop → Fails e (add_forms scope (map plain_type group) (noted_of first))
added_fail {names = names} {now = now} group {k = k} d a l i f in_loop scope h =
    last_fails (a.onward in_loop scope h ∙ ap (λ x. add_forms scope x (noted_of now)) (plain_here group k d l i))
    (fails_first _ _ (f in_loop scope (same_scope names a.keeps h)))

pub added_all : {names : List (List ℕ)} {first : CheckingState} {now : CheckingState} (group : List CodeTypeDec) {k : ℕ} →
    AddedOn names first now (map plain_type group) k →
    k ≡ length group → (in_loop : Bool) (scope : Scope) → scope ≡ scope_of names first in_loop →
    add_forms scope (map plain_type group) (noted_of first) ≡ fine tt (noted_of now)
unfolding give
added_all {now = now} group {k = k} a l in_loop scope h =
    a.onward in_loop scope h ∙ ap (λ x. add_forms scope x (noted_of now)) (none_left (map plain_type group) k (plain_end group k l))

-- ---- the whole group

map_both : {A B C : Type 0} (f : A → B) (g : B → C) (xs : List A) → map (λ x. g (f x)) xs ≡ map g (map f xs)
map_both f g [] = refl
map_both f g (x ∷ xs) = ap (λ t. g (f x) ∷ t) (map_both f g xs)

pub types_are : (whole : List TypeDec) (ends : List CodeChain) (ts : List Ty) (scope : Scope) →
    map (λ c. chain_from whole c) ends ≡ map (λ d. chain_of whole d.name) whole → ts ≡ map (λ e. type_at_end (chain_from whole e) scope) ends →
    ts ≡ map (λ d. type_at_end (chain_of whole d.name) scope) whole
types_are whole ends ts scope h e =
    e ∙ (map_both (λ c. chain_from whole c) (λ x. type_at_end x scope) ends
    ∙ (ap (λ xs. map (λ x. type_at_end x scope) xs) h ∙ sym (map_both (λ (d : TypeDec). chain_of whole d.name) (λ x. type_at_end x scope) whole)))

with_named : (whole : List TypeDec) (group : List CodeTypeDec) (ts : List Ty) (outer inner : Scope) (before rest : List (ℕ × Ty)) →
    ts ≡ map (λ d. type_at_end (chain_of whole d.name) outer) (map plain_type group) → inner.types ≡ before ++ rest →
    with_group whole (map plain_type group) outer inner ≡ record inner { types = named_types group ts before ++ rest }
with_named whole [] ts outer inner before rest e h = ap (λ (x : List (ℕ × Ty)). record inner { types = x }) h
with_named whole (d ∷ group) [] outer inner before rest e h = absurd (cc)
with_named whole (d ∷ group) (t ∷ ts) outer inner before rest e h =
    let i : t ≡ type_at_end (chain_of whole d.name) outer = cc in
    let j : ts ≡ map (λ d. type_at_end (chain_of whole d.name) outer) (map plain_type group) = tails e in
    with_named whole group ts outer _ ((name_of d.name, t) ∷ before) rest j
    (ap (λ x. (name_of d.name, x) ∷ inner.types) (sym i) ∙ ap (λ (x : List (ℕ × Ty)). (name_of d.name, t) ∷ x) h)
  where
    tails : {A : Type 0} {x y : A} {xs ys : List A} → x ∷ xs ≡ y ∷ ys → xs ≡ ys
    tails e = cc

pub group_scope : (names : List (List ℕ)) (in_loop : Bool) (old new : CheckingState) (group : List CodeTypeDec) (ts : List Ty) (scope : Scope) →
    scope ≡ scope_of names old in_loop → ts ≡ map (λ d. type_at_end (chain_of (map plain_type group) d.name) scope) (map plain_type group) →
    new.types ≡ named_types group ts old.types → new.bindings ≡ old.bindings →
    with_group (map plain_type group) (map plain_type group) scope scope ≡ scope_of names new in_loop
group_scope names in_loop old new group ts scope h e t b =
    with_named (map plain_type group) group ts scope scope old.types (standard_types 0 names) e (ap (λ s. s.types) h)
    ∙ (ap (λ (s : Scope). record s { types = named_types group ts old.types ++ standard_types 0 names }) h
    ∙ (ap (λ x. record { bindings = old.bindings ++ standard_bindings 0 names; types = x ++ standard_types 0 names; in_loop = in_loop }) (sym t) ∙ ap
    (λ x. record { bindings = x ++ standard_bindings 0 names; types = new.types ++ standard_types 0 names; in_loop = in_loop }) (sym b)))

-- more types are open
pub named_front : (group : List CodeTypeDec) (ts : List Ty) (before : List (ℕ × Ty)) → (more : List (ℕ × Ty)) × (named_types group ts before ≡ more ++ before)
named_front [] ts before = ([], refl)
named_front (d ∷ group) [] before = ([], refl)
named_front (d ∷ group) (t ∷ ts) before =
    let r = named_front group ts ((name_of d.name, t) ∷ before) in
    (r.0 ++ (name_of d.name, t) ∷ [], r.1 ∙ sym (append_assoc r.0 ((name_of d.name, t) ∷ []) before))

pub opens_types : (old new : CheckingState) (group : List CodeTypeDec) (ts : List Ty) → new.types ≡ named_types group ts old.types →
    new.bindings ≡ old.bindings →
    Opens old new
opens_types old new group ts t b =
    let r = named_front group ts old.types in
    record { more_bindings = []; bindings = b; more_types = r.0; types = t ∙ r.1 }

pub shape_is : (at : ℕ) (shape : Shape) (old : Noted) {shapes : List (ℕ × Shape)} → shapes ≡ (at, shape) ∷ old.shapes →
    add_shape at shape old ≡ fine tt (record old { shapes = shapes })
unfolding add_shape
shape_is at shape old e = ap (λ (x : List (ℕ × Shape)). fine tt (record old { shapes = x })) (sym e)

-- after the last check, the scope is given
pub scope_after : (r : Result (Unit {0}) (Faulty TypeRule ℕ)) (names : List (List ℕ)) (in_loop : Bool) (mid new : CheckingState) (inner : Scope)
    (m : Check (Unit {0}))
    (n : Noted) → inner ≡ scope_of names mid in_loop → OnOk r (Keeps mid new) → AnswersCheck r (λ _. tt) (noted_of new) (m n) →
    AnswersCheck r (λ _. scope_of names new in_loop) (noted_of new) ((m >>= λ _. give inner) n)
scope_after (Ok x) names in_loop mid new inner m n h k g = step _ _ g (given_is (sym (same_scope names k h)))
scope_after (Err e) names in_loop mid new inner m n h k g = fails_first _ _ g

pub opens_after : (r : Result (Unit {0}) (Faulty TypeRule ℕ)) (old mid new : CheckingState) → Opens old mid → OnOk r (Keeps mid new) → OnOk r (Opens old new)
opens_after (Ok x) old mid new o k = opens_both o (opens_keep k)
opens_after (Err e) old mid new o k = tt
