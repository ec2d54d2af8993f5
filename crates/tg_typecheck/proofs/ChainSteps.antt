-- Chains of aliases, followed so many links.
use Rattle.std.specs.Prelude.{Option, Some, None, slice_get, ◌==◌, if◌then◌else◌}
use Rattle.std.specs.Option.{option_map, unwrap_or}
use Rattle.std.specs.List.{All}
use Rattle.std.proofs.Common.{◌≡◌, ℕ, zero, suc, ◌+◌, ◌*◌, ◌<◌, ◌≤◌, List, [], ◌∷◌, ◌++◌, length, map, drop, get_or, Bool, true, false, refl, sym, ap}
use Rattle.std.proofs.Common.{◌∙◌, subst, arith, append_assoc}
use Rattle.std.proofs.Math.Nat.{mul-add, add-mul, mul-zero}
use Rattle.std.proofs.lemmas.List.{length-map, get_or-map, get_or_default, ext_get_or}
use Rattle.std.proofs.lemmas.Option.{unwrap_or-slice_get, get_or_from_slice_get, slice_get-map, slice_get_read}
use Rattle.std.proofs.lemmas.List.Elements.{All-nil, All-cons}
use Rattle.tg_syntax.specs.declared.tokens.Ident.{Ident}
use Rattle.tg_syntax.specs.declared.trees.TypeDec.{TypeDec as CodeTypeDec}
use Rattle.tg_syntax.specs.declared.trees.Form.{Form as CodeForm}
use Rattle.tg_syntax.specs.declared.trees.Form.TheVariants.{Alias as AliasOf, Fields as FieldsOf, Array as ArrayOf}
use Rattle.tg_syntax.specs.Tree.{Form, TypeDec, Alias, Fields, Array}
use Rattle.tg_syntax.specs.glue.Plain.{plain_type, plain_form}
use Rattle.tg_syntax.specs.NamesWithin.{TypesWithin, FormWithin, NameIsWithin}
use Rattle.tg_typecheck.specs.declared.chains.Chain.{Chain as CodeChain}
use Rattle.tg_typecheck.specs.declared.chains.Chain.TheVariants.{Outside, EndsAt, Onward}
use Rattle.tg_semantics.specs.Environments.{name_of}
use Rattle.tg_typecheck.specs.Groups.{Chain, ends_at, endless, declared_as, link, chain, chain_of}
use Rattle.tg_typecheck.proofs.TreeSteps.{from_here, none_left}
use Rattle.tg_typecheck.specs.glue.Declaring.{place_in, chain_from, ChainWithin, AreDifferent, start_at, start_in, link_at, links_in, LeadsWithin, followed}

-- ---- the place of a name, and what is declared there

place_below_step : (b : Bool) (o : Option ℕ) (n k : ℕ) → ((j : ℕ) → o ≡ Some j → j < n) → (if b then Some 0 else option_map suc o) ≡ Some k → k < suc n
place_below_step true o n k f h = grind arith
place_below_step false None n k f h = cc
place_below_step false (Some j) n k f h =
    let e : suc j ≡ k = cc in
    omega (arith, e, f j refl)

pub place_below : (x : ℕ) (ds : List TypeDec) (k : ℕ) → place_in x ds ≡ Some k → k < length ds
place_below x [] k h = cc
place_below x (d ∷ ds) k h = place_below_step (name_of d.name == x) (place_in x ds) (length ds) k (λ j e. place_below x ds j e) h

no_place_step : (b : Bool) (d : TypeDec) (o : Option ℕ) (p : Option TypeDec) → (o ≡ None → p ≡ None) → (if b then Some 0 else option_map suc o) ≡ None →
    (if b then Some d else p) ≡ None
no_place_step true d o p f h = cc
no_place_step false d None p f h = f refl
no_place_step false d (Some j) p f h = cc

pub no_place : (x : ℕ) (ds : List TypeDec) → place_in x ds ≡ None → declared_as x ds ≡ None
no_place x [] h = refl
no_place x (d ∷ ds) h = no_place_step (name_of d.name == x) d (place_in x ds) (declared_as x ds) (no_place x ds) h

pub record StandsAt (ds : List TypeDec) (k : ℕ) (p : Option TypeDec) : Type 0 where
  pub declared : TypeDec
  pub there : slice_get ds k ≡ Some declared
  pub is : p ≡ Some declared

further : (ds : List TypeDec) (d : TypeDec) (j k : ℕ) (p : Option TypeDec) → suc j ≡ k → StandsAt ds j p → StandsAt (d ∷ ds) k p
further ds d j k p e s = record { declared = s.declared; there = ap (λ i. slice_get (d ∷ ds) i) (sym e) ∙ s.there; is = s.is }

at_place_step : (b : Bool) (d : TypeDec) (ds : List TypeDec) (o : Option ℕ) (p : Option TypeDec) (k : ℕ) → ((j : ℕ) → o ≡ Some j → StandsAt ds j p) →
    (if b then Some 0 else option_map suc o) ≡ Some k → StandsAt (d ∷ ds) k (if b then Some d else p)
at_place_step true d ds o p k f h =
    let e : 0 ≡ k = cc in
    record { declared = d; there = ap (λ i. slice_get (d ∷ ds) i) (sym e); is = refl }
at_place_step false d ds None p k f h = absurd (cc)
at_place_step false d ds (Some j) p k f h =
    let e : suc j ≡ k = cc in
    further ds d j k p e (f j refl)

pub at_place : (x : ℕ) (ds : List TypeDec) (k : ℕ) → place_in x ds ≡ Some k → StandsAt ds k (declared_as x ds)
at_place x [] k h = absurd (cc)
at_place x (d ∷ ds) k h = at_place_step (name_of d.name == x) d ds (place_in x ds) (declared_as x ds) k (at_place x ds) h

-- ---- so many links, one after another

abbrev pub run : (links : ℕ) → List CodeChain → CodeChain → CodeChain
run zero L c = c
run (suc n) L c = run n L (followed c L)

run_outside : (n : ℕ) (L : List CodeChain) (x : Ident) → run n L (Outside x) ≡ Outside x
run_outside zero L x = refl
run_outside (suc n) L x = run_outside n L x

run_ends : (n : ℕ) (L : List CodeChain) (k : ℕ) → run n L (EndsAt k) ≡ EndsAt k
run_ends zero L k = refl
run_ends (suc n) L k = run_ends n L k

run_both : (a b : ℕ) (L : List CodeChain) (c : CodeChain) → run (a + b) L c ≡ run a L (run b L c)
run_both a zero L c =
    let i : a + 0 ≡ a = omega arith in
    ap (λ n. run n L c) i
run_both a (suc b) L c =
    let i : a + suc b ≡ suc (a + b) = omega arith in
    ap (λ n. run n L c) i ∙ run_both a b L (followed c L)

-- what each link keeps
keeps_one : (P : CodeChain → Type 0) (L : List CodeChain) → ((k : ℕ) → P (Onward k) → P (followed (Onward k) L)) → (c : CodeChain) → P c → P (followed c L)
keeps_one P L f (Outside x) p = p
keeps_one P L f (EndsAt k) p = p
keeps_one P L f (Onward k) p = f k p

run_keeps : (P : CodeChain → Type 0) (L : List CodeChain) → ((k : ℕ) → P (Onward k) → P (followed (Onward k) L)) → (n : ℕ) (c : CodeChain) → P c →
    P (run n L c)
run_keeps P L f zero c p = p
run_keeps P L f (suc n) c p = run_keeps P L f n (followed c L) (keeps_one P L f c p)

-- one link from each place
one_link : (P : CodeChain → Type 0) (L : List CodeChain) → All P L → (k : ℕ) → k < length L → P (followed (Onward k) L)
one_link P L a k h = subst P (sym (unwrap_or-slice_get L k (Onward k))) (a k (Onward k) h)

-- where the chains stand after so many links
pub record IsAfter (n : ℕ) (L xs : List CodeChain) : Type 0 where
  pub as_many : length xs ≡ length L
  pub each : (k : ℕ) (d : CodeChain) → k < length L → get_or xs k d ≡ run n L (Onward k)

pub all_after : (P : CodeChain → Type 0) (n : ℕ) (L xs : List CodeChain) → IsAfter n L xs → All P L → ((k : ℕ) → P (Onward k) → k < length L) →
    ((k : ℕ) → k < length L → P (Onward k)) → All P xs
all_after P n L xs s a below onward k d h =
    let l : k < length L = omega (arith, h, s.as_many) in
    subst P (sym (s.each k d l)) (run_keeps P L (λ j p. one_link P L a j (below j p)) n (Onward k) (onward k l))

pub lead_after : (n : ℕ) (L xs : List CodeChain) → IsAfter n L xs → All (LeadsWithin (length L)) L → All (LeadsWithin (length L)) xs
lead_after n L xs s a = all_after (LeadsWithin (length L)) n L xs s a (λ k p. p) (λ k l. l)

-- a list of places is followed as far as it goes
followed_after : (n : ℕ) (L xs : List CodeChain) → IsAfter n L xs → (c : CodeChain) → LeadsWithin (length L) c → followed c xs ≡ run n L c
followed_after n L xs s (Outside x) h = sym (run_outside n L x)
followed_after n L xs s (EndsAt k) h = sym (run_ends n L k)
followed_after n L xs s (Onward k) h = unwrap_or-slice_get xs k (Onward k) ∙ s.each k (Onward k) h

pub composed_after : (a b : ℕ) (L xs ys zs : List CodeChain) → IsAfter a L xs → IsAfter b L ys → All (LeadsWithin (length L)) L →
    zs ≡ map (λ c. followed c ys) xs → IsAfter (b + a) L zs
composed_after a b L xs ys zs s t w e = record {
  as_many = ap length e ∙ (length-map xs (λ c. followed c ys) ∙ s.as_many);
  each = λ k d h.
      let l : k < length xs = omega (arith, h, s.as_many) in
      ap (λ z. get_or z k d) e ∙ (get_or-map (λ c. followed c ys) xs k d d l
      ∙ (followed_after b L ys t (get_or xs k d) (lead_after a L xs s w k d l) ∙ (ap (λ c. run b L c) (s.each k d h) ∙ sym (run_both b a L (Onward k)))));
}

pub after_none : (L xs : List CodeChain) → length xs ≡ length L → ((k : ℕ) (d : CodeChain) → k < length L → get_or xs k d ≡ Onward k) → IsAfter 0 L xs
after_none L xs e f = record { as_many = e; each = f }

pub after_one : (L : List CodeChain) → IsAfter 1 L L
after_one L = record { as_many = refl; each = λ k d h. get_or_default L k d (Onward k) h ∙ sym (unwrap_or-slice_get L k (Onward k)) }

-- ---- square and multiply

pub record Squares (L ends links : List CodeChain) (count : ℕ) : Type 0 where
  pub ends_after : ℕ
  pub links_after : ℕ
  pub total : ends_after + links_after * count ≡ length L
  pub ends_stand : IsAfter ends_after L ends
  pub links_stand : IsAfter links_after L links

pub squares_begin : (L ends : List CodeChain) (count : ℕ) → count ≡ length L → IsAfter 0 L ends → Squares L ends L count
squares_begin L ends count e s = record { ends_after = 0; links_after = 1; total = omega (arith, e); ends_stand = s; links_stand = after_one L }

odd_total : (a b n q total : ℕ) → n ≡ q + q + 1 → a + b * n ≡ total → (b + a) + (b + b) * q ≡ total
odd_total a b n q total e h =
    let f : b * n ≡ b * q + b * q + b * 1 = ap (λ m. b * m) e ∙ (mul-add b (q + q) 1 ∙ ap (λ m. m + b * 1) (mul-add b q q)) in
    let g : (b + b) * q ≡ b * q + b * q = add-mul b b q in
    omega (arith, h, f, g)

even_total : (a b n q total : ℕ) → n ≡ q + q → a + b * n ≡ total → a + (b + b) * q ≡ total
even_total a b n q total e h =
    let f : b * n ≡ b * q + b * q = ap (λ m. b * m) e ∙ mul-add b q q in
    let g : (b + b) * q ≡ b * q + b * q = add-mul b b q in
    omega (arith, h, f, g)

pub squares_odd : (L ends links ends' links' : List CodeChain) (count half : ℕ) → Squares L ends links count → count ≡ half + half + 1 →
    All (LeadsWithin (length L)) L → ends' ≡ map (λ c. followed c links) ends → links' ≡ map (λ c. followed c links) links → Squares L ends' links' half
squares_odd L ends links ends' links' count half s e w d f = record {
  ends_after = s.links_after + s.ends_after;
  links_after = s.links_after + s.links_after;
  total = odd_total s.ends_after s.links_after count half (length L) e s.total;
  ends_stand = composed_after s.ends_after s.links_after L ends links ends' s.ends_stand s.links_stand w d;
  links_stand = composed_after s.links_after s.links_after L links links links' s.links_stand s.links_stand w f;
}

pub squares_even : (L ends links links' : List CodeChain) (count half : ℕ) → Squares L ends links count → count ≡ half + half →
    All (LeadsWithin (length L)) L → links' ≡ map (λ c. followed c links) links → Squares L ends links' half
squares_even L ends links links' count half s e w f = record {
  ends_after = s.ends_after;
  links_after = s.links_after + s.links_after;
  total = even_total s.ends_after s.links_after count half (length L) e s.total;
  ends_stand = s.ends_stand;
  links_stand = composed_after s.links_after s.links_after L links links links' s.links_stand s.links_stand w f;
}

pub squares_end : (L ends links : List CodeChain) (count : ℕ) → Squares L ends links count → count ≡ 0 → IsAfter (length L) L ends
squares_end L ends links count s e =
    let z : s.links_after * count ≡ 0 = ap (λ m. s.links_after * m) e ∙ mul-zero s.links_after in
    let t : s.ends_after ≡ length L = omega (arith, s.total, z) in
    subst (λ n. IsAfter n L ends) t s.ends_stand

-- ---- one link from each declaration

abbrev pub stand : ℕ → Form → CodeChain
stand k f = elim f [ Alias _ ↦ Onward k | Fields _ ↦ EndsAt k | Array _ ↦ EndsAt k ]

stand_some : (k : ℕ) (p : Option TypeDec) (d : TypeDec) → p ≡ Some d →
    (elim p [ Some d ↦ elim d.form [ Alias _ ↦ Onward k | Fields _ ↦ EndsAt k | Array _ ↦ EndsAt k ] | None ↦ Onward k ]) ≡ stand k d.form
stand_some k p d e =
    ap (λ (o : Option TypeDec). elim o [ Some d ↦ elim d.form [ Alias _ ↦ Onward k | Fields _ ↦ EndsAt k | Array _ ↦ EndsAt k ] | None ↦ Onward k ]) e

pub started : (ds : List TypeDec) (x : Ident) (k : ℕ) (d : TypeDec) → place_in (name_of x) ds ≡ Some k → slice_get ds k ≡ Some d →
    start_in ds x ≡ stand k d.form
started ds x k d h e = ap (λ o. start_at x o ds) h ∙ stand_some k (slice_get ds k) d e

pub started_outside : (ds : List TypeDec) (x : Ident) → place_in (name_of x) ds ≡ None → start_in ds x ≡ Outside x
started_outside ds x h = ap (λ o. start_at x o ds) h

stand_within : (n : ℕ) (ds : List TypeDec) (k : ℕ) (f : Form) → k < length ds → ChainWithin n ds (stand k f)
stand_within n ds k (Alias _) l = l
stand_within n ds k (Fields _) l = l
stand_within n ds k (Array _) l = l

stand_leads : (n k : ℕ) (f : Form) → k < n → LeadsWithin n (stand k f)
stand_leads n k (Alias _) l = l
stand_leads n k (Fields _) l = tt
stand_leads n k (Array _) l = tt

start_within_at : (n : ℕ) (ds : List TypeDec) (x : Ident) → NameIsWithin n x → (o : Option ℕ) → place_in (name_of x) ds ≡ o → ChainWithin n ds (start_in ds x)
start_within_at n ds x w None e = subst (λ c. ChainWithin n ds c) (sym (started_outside ds x e)) w
start_within_at n ds x w (Some k) e =
    let s = at_place (name_of x) ds k e in
    subst (λ c. ChainWithin n ds c) (sym (started ds x k s.declared e s.there)) (stand_within n ds k s.declared.form (place_below (name_of x) ds k e))

pub start_within : (n : ℕ) (ds : List TypeDec) (x : Ident) → NameIsWithin n x → ChainWithin n ds (start_in ds x)
start_within n ds x w = start_within_at n ds x w (place_in (name_of x) ds) refl

start_leads_at : (ds : List TypeDec) (x : Ident) (o : Option ℕ) → place_in (name_of x) ds ≡ o → LeadsWithin (length ds) (start_in ds x)
start_leads_at ds x None e = subst (λ c. LeadsWithin (length ds) c) (sym (started_outside ds x e)) tt
start_leads_at ds x (Some k) e =
    let s = at_place (name_of x) ds k e in
    subst (λ c. LeadsWithin (length ds) c) (sym (started ds x k s.declared e s.there))
    (stand_leads (length ds) k s.declared.form (place_below (name_of x) ds k e))

start_leads : (ds : List TypeDec) (x : Ident) → LeadsWithin (length ds) (start_in ds x)
start_leads ds x = start_leads_at ds x (place_in (name_of x) ds) refl

link_within : (n : ℕ) (whole : List TypeDec) (k : ℕ) (f : Form) → k < length whole → FormWithin n f → ChainWithin n whole (link_at whole k f)
link_within n whole k (Alias x) l w = start_within n whole x w
link_within n whole k (Fields _) l w = l
link_within n whole k (Array _) l w = l

link_leads : (whole : List TypeDec) (k : ℕ) (f : Form) → LeadsWithin (length whole) (link_at whole k f)
link_leads whole k (Alias x) = start_leads whole x
link_leads whole k (Fields _) = tt
link_leads whole k (Array _) = tt

pub links_within : (n : ℕ) (whole : List TypeDec) (from : ℕ) (ds : List TypeDec) → from + length ds ≤ length whole → TypesWithin n ds →
    All (ChainWithin n whole) (links_in whole from ds)
links_within n whole from [] l w = All-nil (ChainWithin n whole)
links_within n whole from (d ∷ ds) l w =
    All-cons (ChainWithin n whole) (link_at whole from d.form) (links_in whole (suc from) ds) (link_within n whole from d.form (omega (arith, l)) w.1)
    (links_within n whole (suc from) ds (omega (arith, l)) w.2)

pub links_lead : (whole : List TypeDec) (from : ℕ) (ds : List TypeDec) → All (LeadsWithin (length whole)) (links_in whole from ds)
links_lead whole from [] = All-nil (LeadsWithin (length whole))
links_lead whole from (d ∷ ds) =
    All-cons (LeadsWithin (length whole)) (link_at whole from d.form) (links_in whole (suc from) ds) (link_leads whole from d.form)
    (links_lead whole (suc from) ds)

pub links_many : (whole : List TypeDec) (from : ℕ) (ds : List TypeDec) → length (links_in whole from ds) ≡ length ds
links_many whole from [] = refl
links_many whole from (d ∷ ds) = ap suc (links_many whole (suc from) ds)

links_at : (whole : List TypeDec) (from : ℕ) (ds : List TypeDec) (k : ℕ) (d : TypeDec) → slice_get ds k ≡ Some d →
    slice_get (links_in whole from ds) k ≡ Some (link_at whole (from + k) d.form)
links_at whole from [] k d h = absurd (cc)
links_at whole from (e ∷ ds) zero d h =
    let i : e ≡ d = cc in
    let j : from ≡ from + 0 = omega arith in
    ap (λ t. Some (link_at whole from t.form)) i ∙ ap (λ k. Some (link_at whole k d.form)) j
links_at whole from (e ∷ ds) (suc k) d h =
    let i : suc from + k ≡ from + suc k = omega arith in
    links_at whole (suc from) ds k d h ∙ ap (λ j. Some (link_at whole j d.form)) i

pub there : (ds : List TypeDec) (k : ℕ) → k < length ds → (d : TypeDec) × (slice_get ds k ≡ Some d)
there [] k l = absurd (omega (arith, l))
there (d ∷ ds) zero l = (d, refl)
there (d ∷ ds) (suc k) l = there ds k (omega (arith, l))

-- ---- the chain of a name

module _ (ds : List TypeDec) where
  abbrev links : List CodeChain
  links = links_in ds 0 ds

  abbrev from_there : (n : ℕ) → CodeChain → Chain
  from_there n c = chain_from ds (run n links c)

  followed_at : (k : ℕ) (d : TypeDec) → slice_get ds k ≡ Some d → followed (Onward k) links ≡ link_at ds k d.form
  followed_at k d h =
      let i : 0 + k ≡ k = omega arith in
      ap (λ o. unwrap_or o (Onward k)) (links_at ds 0 ds k d h) ∙ ap (λ j. link_at ds j d.form) i

  form_ends : (n k : ℕ) (d : TypeDec) → slice_get ds k ≡ Some d → from_there n (EndsAt k) ≡ ends_at d
  form_ends n k d h = ap (λ c. chain_from ds c) (run_ends n links k) ∙ ap (λ (p : Option TypeDec). elim p [ Some d ↦ ends_at d | None ↦ endless ]) h

  abbrev leads_on : (n : ℕ) → TypeDec → Form → Chain
  leads_on n d f = elim f [ Alias y ↦ chain n ds (name_of y) | Fields _ ↦ ends_at d | Array _ ↦ ends_at d ]

  -- what is known of aliases, after so many links
  abbrev Aliases : (n : ℕ) → Type 0
  Aliases n = (k : ℕ) (d : TypeDec) (z : Ident) → slice_get ds k ≡ Some d → d.form ≡ Alias z → from_there n (Onward k) ≡ chain n ds (name_of z)

  stand_chain : (n : ℕ) → Aliases n → (k : ℕ) (d : TypeDec) (f : Form) → d.form ≡ f → slice_get ds k ≡ Some d → from_there n (stand k f) ≡ leads_on n d f
  stand_chain n a k d (Alias z) e h = a k d z h e
  stand_chain n a k d (Fields _) e h = form_ends n k d h
  stand_chain n a k d (Array _) e h = form_ends n k d h

  start_chain_at : (n : ℕ) → Aliases n → (y : Ident) (o : Option ℕ) → place_in (name_of y) ds ≡ o →
      from_there n (start_in ds y) ≡ chain (suc n) ds (name_of y)
  start_chain_at n a y None e =
      ap (λ c. from_there n c) (started_outside ds y e) ∙ (ap (λ c. chain_from ds c) (run_outside n links y) ∙ sym
      (ap (λ p. link (λ x. chain n ds x) (name_of y) p) (no_place (name_of y) ds e)))
  start_chain_at n a y (Some k) e =
      let s = at_place (name_of y) ds k e in
      ap (λ c. from_there n c) (started ds y k s.declared e s.there)
      ∙ (stand_chain n a k s.declared s.declared.form refl s.there ∙ sym (ap (λ p. link (λ x. chain n ds x) (name_of y) p) s.is))

  start_chain : (n : ℕ) → Aliases n → (y : Ident) → from_there n (start_in ds y) ≡ chain (suc n) ds (name_of y)
  start_chain n a y = start_chain_at n a y (place_in (name_of y) ds) refl

  aliases : (n : ℕ) → Aliases n
  aliases zero k d z h e = refl
  aliases (suc m) k d z h e =
      ap (λ c. from_there m c) (followed_at k d h ∙ ap (λ f. link_at ds k f) e) ∙ start_chain m (aliases m) z

  by_form : (m k : ℕ) (d : TypeDec) (f : Form) → d.form ≡ f → slice_get ds k ≡ Some d → from_there (suc m) (Onward k) ≡ leads_on (suc m) d f
  by_form m k d (Alias z) e h = aliases (suc m) k d z h e
  by_form m k d (Fields _) e h = ap (λ c. from_there m c) (followed_at k d h ∙ ap (λ f. link_at ds k f) e) ∙ form_ends m k d h
  by_form m k d (Array _) e h = ap (λ c. from_there m c) (followed_at k d h ∙ ap (λ f. link_at ds k f) e) ∙ form_ends m k d h

  one_chain : (n k : ℕ) (d : TypeDec) → k < n → slice_get ds k ≡ Some d → declared_as (name_of d.name) ds ≡ Some d →
      from_there n (Onward k) ≡ chain (suc n) ds (name_of d.name)
  one_chain zero k d l h e = absurd (omega (arith, l))
  one_chain (suc m) k d l h e = by_form m k d d.form refl h ∙ sym (ap (λ p. link (λ x. chain (suc m) ds x) (name_of d.name) p) e)

  declared_there : (k : ℕ) (d : TypeDec) → slice_get ds k ≡ Some d → place_in (name_of d.name) ds ≡ Some k → declared_as (name_of d.name) ds ≡ Some d
  declared_there k d h p =
      let s = at_place (name_of d.name) ds k p in
      s.is ∙ (sym s.there ∙ h)

  at_each : (ends : List CodeChain) → AreDifferent ds → IsAfter (length links) links ends → (k : ℕ) → k < length ds →
      get_or (map (λ c. chain_from ds c) ends) k endless ≡ get_or (map (λ d. chain_of ds d.name) ds) k endless
  at_each ends different s k l =
      let o = there ds k l in
      let many : length links ≡ length ds = links_many ds 0 ds in
      let m : k < length links = omega (arith, l, many) in
      get_or-map (λ c. chain_from ds c) ends k (Onward k) endless (omega (arith, m, s.as_many))
      ∙ (ap (λ c. chain_from ds c) (s.each k (Onward k) m)
      ∙ (one_chain (length links) k o.0 m o.1 (declared_there k o.0 o.1 (different k o.0 o.1))
      ∙ (ap (λ n. chain (suc n) ds (name_of o.0.name)) many
      ∙ (ap (λ (d : TypeDec). chain_of ds d.name) (sym (get_or_from_slice_get ds k o.0 o.0 o.1)) ∙ sym
      (get_or-map (λ (d : TypeDec). chain_of ds d.name) ds k o.0 endless l)))))

  pub chains_are : (ends : List CodeChain) → AreDifferent ds → IsAfter (length links) links ends →
      map (λ c. chain_from ds c) ends ≡ map (λ d. chain_of ds d.name) ds
  chains_are ends different s =
      let many : length links ≡ length ds = links_many ds 0 ds in
      let as_many : length ends ≡ length ds = s.as_many ∙ many in
      ext_get_or endless _ _ (length-map ends (λ c. chain_from ds c) ∙ (as_many ∙ sym (length-map ds (λ (d : TypeDec). chain_of ds d.name))))
      (λ k h. at_each ends different s k (omega (arith, h, length-map ends (λ c. chain_from ds c), as_many)))

  pub ends_within : (n : ℕ) (ends : List CodeChain) → IsAfter (length links) links ends → All (ChainWithin n ds) links → All (ChainWithin n ds) ends
  ends_within n ends s a =
      let many : length links ≡ length ds = links_many ds 0 ds in
      all_after (ChainWithin n ds) (length links) links ends s a (λ k p. omega (arith, p, many)) (λ k l. omega (arith, l, many))

pub leads_all : (ds : List TypeDec) (L : List CodeChain) → L ≡ links_in ds 0 ds → All (LeadsWithin (length L)) L
leads_all ds L e =
    subst (λ l. All (LeadsWithin (length l)) l) (sym e) (subst (λ n. All (LeadsWithin n) (links_in ds 0 ds)) (sym (links_many ds 0 ds)) (links_lead ds 0 ds))

may_follow : (n : ℕ) (L xs first second : List CodeChain) → IsAfter n L xs → All (LeadsWithin (length L)) L → first ≡ xs → length second ≡ length L →
    All (LeadsWithin (length second)) first
may_follow n L xs first second s w e f =
    subst (λ l. All (LeadsWithin (length second)) l) (sym e) (subst (λ k. All (LeadsWithin k) xs) (sym f) (lead_after n L xs s w))

pub may_multiply : (L ends links first second : List CodeChain) (count : ℕ) → Squares L ends links count → All (LeadsWithin (length L)) L → first ≡ ends →
    second ≡ links → All (LeadsWithin (length second)) first
may_multiply L ends ls first second count s w e f = may_follow s.ends_after L ends first second s.ends_stand w e (ap length f ∙ s.links_stand.as_many)

pub may_square : (L ends links first second : List CodeChain) (count : ℕ) → Squares L ends links count → All (LeadsWithin (length L)) L → first ≡ links →
    second ≡ links → All (LeadsWithin (length second)) first
may_square L ends links first second count s w e f = may_follow s.links_after L links first second s.links_stand w e (ap length f ∙ s.links_stand.as_many)

-- where a list is composed with another
pub composed_is : (first second a b zs : List CodeChain) → first ≡ a → second ≡ b → zs ≡ map (λ c. followed c second) first → zs ≡ map (λ c. followed c b) a
composed_is first second a b zs e f h = h ∙ (ap (λ x. map (λ c. followed c second) x) e ∙ ap (λ y. map (λ c. followed c y) a) f)

pub squares_final : (ds : List TypeDec) (L ends links : List CodeChain) (count : ℕ) → L ≡ links_in ds 0 ds → Squares L ends links count → count ≤ 0 →
    IsAfter (length (links_in ds 0 ds)) (links_in ds 0 ds) ends
squares_final ds L ends links count e s l = subst (λ x. IsAfter (length x) x ends) e (squares_end L ends links count s (omega (arith, l)))

-- ---- from the code's declarations

pub there_plain : (group : List CodeTypeDec) (k : ℕ) (d : CodeTypeDec) → k < length group → d ≡ get_or group k d →
    slice_get (map plain_type group) k ≡ Some (plain_type d)
there_plain group k d l e = slice_get-map plain_type group k ∙ ap (λ o. option_map plain_type o) (slice_get_read group (length group) k d refl l e)

pub started_here : (group : List CodeTypeDec) (x : Ident) (k : ℕ) (d : CodeTypeDec) → place_in (name_of x) (map plain_type group) ≡ Some k →
    d ≡ get_or group k d → start_in (map plain_type group) x ≡ stand k (plain_form d.form)
started_here group x k d h e =
    let l : k < length group = omega (arith, place_below (name_of x) (map plain_type group) k h, length-map group plain_type) in
    started (map plain_type group) x k (plain_type d) h (there_plain group k d l e)

pub stand_ends : (k : ℕ) (f : CodeForm) → ((x : Ident) → f ≡ AliasOf x → ⊥) → stand k (plain_form f) ≡ EndsAt k
stand_ends k (AliasOf x) n = absurd (n x refl)
stand_ends k (FieldsOf ps) n = refl
stand_ends k (ArrayOf x) n = refl

pub link_ends : (whole : List TypeDec) (k : ℕ) (f : CodeForm) → ((x : Ident) → f ≡ AliasOf x → ⊥) → link_at whole k (plain_form f) ≡ EndsAt k
link_ends whole k (AliasOf x) n = absurd (n x refl)
link_ends whole k (FieldsOf ps) n = refl
link_ends whole k (ArrayOf x) n = refl

-- one more link
pub links_more : (whole : List TypeDec) (group : List CodeTypeDec) (links rest : List CodeChain) (k : ℕ) (d : CodeTypeDec) (c : CodeChain) →
    k < length group → d ≡ get_or group k d → c ≡ link_at whole k (plain_form d.form) → links ++ links_in whole k (drop k (map plain_type group)) ≡ rest →
    (links ++ c ∷ []) ++ links_in whole (k + 1) (drop (k + 1) (map plain_type group)) ≡ rest
links_more whole group links rest k d c l e i h =
    let n : plain_type d ≡ get_or (map plain_type group) k (plain_type d) = ap plain_type e ∙ sym (get_or-map plain_type group k d (plain_type d) l) in
    let m : k < length (map plain_type group) = omega (arith, l, length-map group plain_type) in
    let j : k + 1 ≡ suc k = omega arith in
    append_assoc links (c ∷ []) (links_in whole (k + 1) (drop (k + 1) (map plain_type group)))
    ∙ (ap (λ x. links ++ (x ∷ links_in whole (k + 1) (drop (k + 1) (map plain_type group)))) i
    ∙ (ap (λ y. links ++ (link_at whole k (plain_form d.form) ∷ links_in whole y (drop (k + 1) (map plain_type group)))) j
    ∙ (ap (λ t. links ++ links_in whole k t) (sym (from_here (map plain_type group) k (plain_type d) m n)) ∙ h)))

nil_after : {A : Type 0} (xs : List A) → xs ++ [] ≡ xs
nil_after [] = refl
nil_after (x ∷ xs) = ap (λ ys. x ∷ ys) (nil_after xs)

pub links_all : (whole : List TypeDec) (group : List CodeTypeDec) (links rest : List CodeChain) (k : ℕ) → k ≡ length group →
    links ++ links_in whole k (drop k (map plain_type group)) ≡ rest → links ≡ rest
links_all whole group links rest k e h =
    let m : k ≡ length (map plain_type group) = omega (arith, e, length-map group plain_type) in
    sym (nil_after links) ∙ (ap (λ t. links ++ links_in whole k t) (sym (none_left (map plain_type group) k m)) ∙ h)
