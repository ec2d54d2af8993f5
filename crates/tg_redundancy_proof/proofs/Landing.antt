-- Places of the walk, and where the ways to a mark come to: what was claimed for it holds there.
use Rattle.std.proofs.Common.{ℕ, ◌≡◌, ◌==◌, Bool, true, false, List, [], ◌∷◌, ◌++◌, Option, Some, None, refl, sym, ap, ◌∙◌, subst}
use Rattle.std.proofs.Common.{◌⊎◌, inl, inr, eq-eqb}
use Rattle.std.proofs.lemmas.Bool.{false≢true, eqb-true, or_left, or_right}
use Rattle.std.specs.Prelude.{if◌then◌else◌, take}
use Rattle.tg_tree.specs.Actions.{World, Activation}
use Rattle.tg_instr.specs.declared.instr.Instr.{Instr}
use Rattle.tg_instr.specs.declared.instr.Instr.TheVariants.{Mark}
use Rattle.tg_instr.specs.Shapes.{InstructionShape, Here, shape}
use Rattle.tg_instr.specs.Contents.{Contents}
use Rattle.tg_instr.specs.Running.{behind}
use Rattle.tg_regalloc_proof.specs.Blocks.{code_of, Charge, Covers}
use Rattle.tg_redundancy.specs.mirror.Facts.{Facts}
use Rattle.tg_redundancy.specs.mirror.Known.{Claims, claimed, both, most_claimed, claim, let_go, is_way, has_way, arrival, State, known_step, known_blocks}
use Rattle.tg_redundancy_proof.proofs.Holding.{Hold, Arrives}
use Rattle.tg_redundancy.proofs.Blocks.{IsBlock, itself, gone, a_move, a_jump, each_step}

-- Marks.

abbrev is_here : InstructionShape → Bool
is_here (Here m) = true
is_here _ = false

no_here : (q : InstructionShape) → is_here q ≡ false → (m : ℕ) → q ≡ Here m → ⊥
no_here q e m h = false≢true (sym e ∙ ap is_here h)

here_is : (i j : ℕ) → Here i ≡ Here j → i ≡ j
here_is i j e = cc

-- an instruction that is no mark
abbrev pub IsNoMark : Instr → Type 0
IsNoMark x = ((m : ℕ) (l : List Instr) → behind m (x ∷ l) ≡ behind m l) × ((m : ℕ) → shape x ≡ Here m → ⊥)

pub tell_mark : (x : Instr) → ((k : ℕ) × (x ≡ Mark k)) ⊎ IsNoMark x
tell_mark (Mark k) = inl (k, refl)
tell_mark x = inr ((λ m l. refl), no_here (shape x) refl)

some_is : (x y : List Instr) → Some x ≡ Some y → x ≡ y
some_is x y e = cc

-- From one place of the walk to another.
pub data From (most : ℕ) (p : List Instr) (t : State) : List Instr → State → Type 0 where
  here : From most p t p t
  further :
      (one : Instr) (rest : List Instr) (s : State) → From most p t rest (known_step most rest one s).state →
      From most p t (one ∷ rest) s

pub one_more : (most : ℕ) (one : Instr) (rest : List Instr) (t : State) (l : List Instr) (s : State) →
    From most (one ∷ rest) t l s → From most rest (known_step most rest one t).state l s
one_more most one rest t _ _ here = further one rest t here
one_more most one rest t _ _ (further x xs s i) = further x xs s (one_more most one rest t xs (known_step most xs x s).state i)

pub covers_from : (most : ℕ) (c c' : Charge) (p : List Instr) (t : State) (l : List Instr) (s : State) → From most p t l s →
    Covers c l c' (known_blocks most l s) → Covers c p c' (known_blocks most p t)
covers_from most c c' p t _ _ here h = h
covers_from most c c' p t _ _ (further x xs s i) h = covers_from most c c' p t xs (known_step most xs x s).state i h.1

way_before : (most m : ℕ) (one : Instr) (rest : List Instr) (t : State) (l : List Instr) (s : State) → is_way m (shape one) ≡ true →
    From most (one ∷ rest) t l s → has_way m l ≡ true
way_before most m one rest t _ _ w here = or_left (is_way m (shape one)) _ w
way_before most m one rest t _ _ w (further x xs s i) =
    or_right (is_way m (shape x)) _ (way_before most m one rest t xs (known_step most xs x s).state w i)

module _ (a : Activation) (k : ℕ) (most : ℕ) where
  -- what was claimed is claimed still, or nothing
  still_claimed : (m j : ℕ) (g : Facts) (claims : Claims) (w : World) (c : Contents) → Arrives a k (claimed m claims) w c →
      Arrives a k (claimed m (claim j g claims)) w c
  still_claimed m j g claims w c h = by (j == m) refl
    where
      nothing : (o : Option Facts) → Arrives a k o w c → Hold a k w c (both (take most_claimed g) o)
      nothing None h = absurd h
      nothing (Some f) h = tt

      by : (b : Bool) → (j == m) ≡ b → Arrives a k (if b then Some (both (take most_claimed g) (claimed j claims)) else claimed m claims) w c
      by true e =
          subst (λ i. Arrives a k (claimed i claims) w c → Hold a k w c (both (take most_claimed g) (claimed j claims))) (eqb-true j m e)
          (nothing (claimed j claims)) h
      by false e = h

  still_there : (m j : ℕ) (claims : Claims) (w : World) (c : Contents) → ((j == m) ≡ true → ⊥) → Arrives a k (claimed m claims) w c →
      Arrives a k (claimed m (let_go j claims)) w c
  still_there m j claims w c other h = by (j == m) refl
    where
      by : (b : Bool) → (j == m) ≡ b → Arrives a k (if b then None else claimed m claims) w c
      by true e = absurd (other e)
      by false e = h

  claims_stay : (rest : List Instr) (one : Instr) (s : State) (m : ℕ) (w : World) (c : Contents) → (shape one ≡ Here m → ⊥) →
      Arrives a k (claimed m s.claims) w c → Arrives a k (claimed m (known_step most rest one s).state.claims) w c
  claims_stay rest one s m w c other h =
      each_step most rest one s (λ b claims. Arrives a k (claimed m claims) w c) (λ b i. h) (λ b i j g. still_claimed m j g s.claims w c h)
      (λ b i j e. still_there m j s.claims w c (λ q. other (e ∙ ap Here (eqb-true j m q))) h)

  arrival_holds : (b : Bool) (o met : Option Facts) (w : World) (c : Contents) → Arrives a k met w c → Hold a k w c (arrival b o met)
  arrival_holds true o met w c h = tt
  arrival_holds false None None w c h = absurd h
  arrival_holds false None (Some g) w c h = h
  arrival_holds false (Some f) None w c h = absurd h
  arrival_holds false (Some f) (Some g) w c h = tt

  -- what a way to a mark comes to, with these claims
  abbrev pub Lands : (m : ℕ) → Claims → (r l : List Instr) → State → Type 0
  Lands m claims r l s =
      (t : State) × From most r t l s ×
      (behind m (code_of (known_blocks most l s)) ≡ Some (code_of (known_blocks most r t))) ×
      ((w : World) (c : Contents) → Arrives a k (claimed m claims) w c → Arrives a k t.comes w c)

  lands_further : (m : ℕ) (claims : Claims) (r : List Instr) (one : Instr) (rest : List Instr) (s : State) →
      ((l : List Instr) → behind m (one ∷ l) ≡ behind m l) →
      Lands m claims r rest (known_step most rest one s).state → Lands m claims r (one ∷ rest) s
  lands_further m claims r one rest s no_mark (t, i, e, h) = (
    t,
    further one rest s i,
    each_step most rest one s
        (λ b cl. behind m (b ++ code_of (known_blocks most rest (known_step most rest one s).state))
        ≡ behind m (code_of (known_blocks most rest (known_step most rest one s).state)))
        (λ b j. past b j) (λ b j n g. past b j) (λ b j n g. past b j)
        ∙ e,
    h,
  )
    where
      past : (b : List Instr) → IsBlock one b →
          behind m (b ++ code_of (known_blocks most rest (known_step most rest one s).state))
          ≡ behind m (code_of (known_blocks most rest (known_step most rest one s).state))
      past _ itself = no_mark _
      past _ (gone rel x y n i) = refl
      past _ (a_move u v q i) = refl
      past _ (a_jump rel x y n i) = refl

  -- a mark, at which it lands if it is the one
  at_mark : (m j : ℕ) (claims : Claims) (rest : List Instr) (s : State) (r : List Instr) →
      ((w : World) (c : Contents) → m ≡ j → Arrives a k (claimed m claims) w c →
      Hold a k w c (arrival (has_way j rest) s.comes (claimed j s.claims))) →
      ((j == m) ≡ false → behind m rest ≡ Some r → Lands m claims r rest (known_step most rest (Mark j) s).state) →
      behind m (Mark j ∷ rest) ≡ Some r → Lands m claims r (Mark j ∷ rest) s
  at_mark m j claims rest s r lands later e = by (j == m) refl e
    where
      by : (b : Bool) → (j == m) ≡ b → (if b then Some rest else behind m rest) ≡ Some r → Lands m claims r (Mark j ∷ rest) s
      by true i h =
          subst (λ q. Lands m claims q (Mark j ∷ rest) s) (some_is rest r h) (
            (known_step most rest (Mark j) s).state,
            further (Mark j) rest s here,
            ap (λ b. if b then Some (code_of (known_blocks most rest (known_step most rest (Mark j) s).state)) else behind m (code_of (known_blocks most rest (known_step most rest (Mark j) s).state))) i,
            λ w c g. lands w c (sym (eqb-true j m i)) g,
          )
      by false i h =
          let z = later i h in (
            z.0,
            further (Mark j) rest s z.1,
            ap (λ b. if b then Some (code_of (known_blocks most rest (known_step most rest (Mark j) s).state)) else behind m (code_of (known_blocks most rest (known_step most rest (Mark j) s).state))) i ∙ z.2,
            z.3,
          )

  -- from in front
  forward : (m : ℕ) (claims : Claims) (l : List Instr) (s : State) (r : List Instr) →
      ((w : World) (c : Contents) → Arrives a k (claimed m claims) w c → Arrives a k (claimed m s.claims) w c) →
      behind m l ≡ Some r → Lands m claims r l s
  forward m claims [] s r h e = absurd (none e)
    where
      none : None ≡ Some r → ⊥
      none e = cc
  forward m claims (one ∷ rest) s r h e =
      by (tell_mark one)
      (λ other. forward m claims rest (known_step most rest one s).state r (λ w c g. claims_stay rest one s m w c other (h w c g)))
    where
      by : ((j : ℕ) × (one ≡ Mark j)) ⊎ IsNoMark one →
          ((shape one ≡ Here m → ⊥) → behind m rest ≡ Some r → Lands m claims r rest (known_step most rest one s).state) →
          Lands m claims r (one ∷ rest) s
      by (inl (j, is)) later =
          subst (λ x. behind m (x ∷ rest) ≡ Some r →
          ((shape x ≡ Here m → ⊥) → behind m rest ≡ Some r → Lands m claims r rest (known_step most rest x s).state) →
          Lands m claims r (x ∷ rest) s) (sym is)
          (λ e1 later1. at_mark m j claims rest s r
          (λ w c q g. arrival_holds (has_way j rest) s.comes (claimed j s.claims) w c
          (subst (λ i. Arrives a k (claimed i s.claims) w c) q (h w c g)))
          (λ n. later1 (λ q. false≢true (sym n ∙ eq-eqb j m (here_is j m q)))) e1) e later
      by (inr no_mark) later =
          lands_further m claims r one rest s (no_mark.0 m) (later (no_mark.1 m) (sym (no_mark.0 m rest) ∙ e))

  -- from a way in the walk, to a mark wherever it stands
  pub lands : (m : ℕ) (one : Instr) (rest : List Instr) (t : State) → is_way m (shape one) ≡ true →
      (l : List Instr) (s : State) → From most (one ∷ rest) t l s → (r : List Instr) → behind m l ≡ Some r →
      Lands m (known_step most rest one t).state.claims r l s
  lands m one rest t w _ _ here r e = by (tell_mark one)
    where
      by : ((j : ℕ) × (one ≡ Mark j)) ⊎ IsNoMark one → Lands m (known_step most rest one t).state.claims r (one ∷ rest) t
      by (inl (j, is)) = absurd (false≢true (sym (ap (λ x. is_way m (shape x)) is) ∙ w))
      by (inr no_mark) =
          lands_further m (known_step most rest one t).state.claims r one rest t (no_mark.0 m)
          (forward m (known_step most rest one t).state.claims rest (known_step most rest one t).state r (λ w c g. g) (sym (no_mark.0 m rest) ∙ e))
  lands m one rest t w _ _ (further x xs s i) r e =
      by (tell_mark x) (lands m one rest t w xs (known_step most xs x s).state i r)
    where
      by : ((j : ℕ) × (x ≡ Mark j)) ⊎ IsNoMark x →
          (behind m xs ≡ Some r → Lands m (known_step most rest one t).state.claims r xs (known_step most xs x s).state) →
          Lands m (known_step most rest one t).state.claims r (x ∷ xs) s
      by (inl (j, is)) later =
          subst (λ y. behind m (y ∷ xs) ≡ Some r →
          (behind m xs ≡ Some r → Lands m (known_step most rest one t).state.claims r xs (known_step most xs y s).state) →
          Lands m (known_step most rest one t).state.claims r (y ∷ xs) s) (sym is)
          (λ e1 later1. at_mark m j (known_step most rest one t).state.claims xs s r
          (λ w1 c q g. subst (λ b. Hold a k w1 c (arrival b s.comes (claimed j s.claims)))
          (sym (subst (λ z. has_way z xs ≡ true) q (way_before most m one rest t xs (known_step most xs x s).state w i))) tt) (λ n. later1) e1) e later
      by (inr no_mark) later =
          lands_further m (known_step most rest one t).state.claims r x xs s (no_mark.0 m) (later (sym (no_mark.0 m xs) ∙ e))
