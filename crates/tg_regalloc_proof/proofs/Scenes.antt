-- What is live agrees by places: an operand stands in another or in an added slot of the frame.
use Rattle.std.proofs.Common.{ℕ, ◌≡◌, ◌+◌, ◌*◌, ◌-◌, ◌≤◌, ◌==◌, ◌||◌, Bool, true, false, [], ◌∷◌}
use Rattle.std.proofs.Common.{refl, sym, ap, ◌∙◌, subst, arith}
use Rattle.std.proofs.Common.{◌⊎◌, inl, inr, true≢false}
use Rattle.std.specs.Prelude.{if◌then◌else◌}
use Rattle.std.specs.List.{list_any}
use Rattle.std.proofs.lemmas.Bool.{eqb-true}
use Rattle.tg_tree.specs.Actions.{Activation}
use Rattle.tg_tree.specs.Memory.{Cell, slot, set_cell}
use Rattle.tg_instr.specs.declared.operands.Opnd.{Opnd}
use Rattle.tg_instr.specs.declared.operands.Opnd.TheVariants.{Temp, Reg}
use Rattle.tg_instr.specs.Operands.{is_same}
use Rattle.tg_instr.specs.Shapes.{Operand, Hi, Lo, InstructionShape, Calls}
use Rattle.tg_instr.specs.Uses.{clobbered, uses, defs}
use Rattle.tg_instr.specs.Contents.{Content, Nothing, Word, Found, Contents, set, held, is_in, after_call, cell_of}
use Rattle.tg_instr.specs.Contents.{content_of}
use Rattle.tg_instr.proofs.Same.{same_itself, same_is}
use Rattle.tg_live.specs.Interference.{moves}
use Rattle.tg_regalloc_proof.specs.Named.{passes}
use Rattle.tg_regalloc_proof.specs.Places.{IsTemp, IsPlain, Place, In, At, Places, are_one, IsPlainPlace, IsClear}
use Rattle.tg_regalloc_proof.proofs.Contents.{leads, set_other, set_plain, held_beside_halves, false_if}

pub one_is : (p q : Place) → are_one p q ≡ true → p ≡ q
one_is (In x) (In y) e = ap (λ o. In o) (same_is x y e)
one_is (At j) (At k) e = ap (λ i. At i) (eqb-true j k e)
one_is (In x) (At k) e = absurd (true≢false (sym e))
one_is (At j) (In y) e = absurd (true≢false (sym e))

pub in_is : (x y : Opnd) → In x ≡ In y → x ≡ y
in_is x y e = cc

pub back_from_cell : (c : Content) → content_of (cell_of c) ≡ c
back_from_cell Nothing = refl
back_from_cell (Word v) = refl
back_from_cell (Found r) = refl

same_slot : (base j k : ℕ) → 4 * (j + 1) ≤ base → 4 * (k + 1) ≤ base → slot base j ≡ slot base k → j ≡ k
same_slot base j k f g e = let h : base - 4 * (j + 1) ≡ base - 4 * (k + 1) = e in omega arith

equal_itself : (k : ℕ) → (k == k) ≡ true
equal_itself k = same_itself (Reg k)

-- two slots of a frame are two words
pub slots_apart : (base j k : ℕ) → 4 * (j + 1) ≤ base → 4 * (k + 1) ≤ base → (j == k) ≡ false → (slot base j ==
    slot base k) ≡ false
slots_apart base j k f g e = by (slot base j == slot base k) refl
  where
    by : (b : Bool) → (slot base j == slot base k) ≡ b → b ≡ false
    by true h =
        let same : j ≡ k = same_slot base j k f g (eqb-true (slot base j) (slot base k) h) in
        absurd (true≢false (sym (equal_itself j) ∙ (ap (λ i. j == i) same ∙ e)))
    by false h = refl

-- the activation, and the places of operands
module _ (a : Activation) (P : Places) where
  abbrev in_register : (r : ℕ) → Content → Content
  in_register r d = if r == 0 then Word 0 else if r == 29 then Word (a.base - a.size) else d

  abbrev pub content : (ℕ → Cell) → Contents → Place → Content
  content cells t (In y) = held a t (Operand y)
  content cells t (At k) = content_of (cells (slot a.base k))

  -- in its place it has the same, or it is a temporary that isn't set
  abbrev pub Agrees : (ℕ → Cell) → Contents → Contents → Opnd → Type 0
  Agrees cells s t x = (content cells t (P.place x) ≡ held a s (Operand x)) ⊎ (IsTemp x × (s (Operand x) ≡ Nothing))

  pub record Scene (L : Opnd → Type 0) (cells : ℕ → Cell) (s t : Contents) : Type 0 where
    pub live : (x : Opnd) → L x → Agrees cells s t x
    pub hi : t Hi ≡ s Hi
    pub lo : t Lo ≡ s Lo

  -- What is live before and after an instruction and after the marks; what is live stands apart from what is
  -- defined.
  pub record Flows (q : InstructionShape) (B A : Opnd → Type 0) (J : ℕ → Opnd → Type 0) : Type 0 where
    pub used : (x : Opnd) → list_any (is_same x) (uses q) ≡ true → B x
    pub on : passes q ≡ true → (x : Opnd) → A x → list_any (is_same x) (defs q) ≡ false → B x
    pub across : (m : ℕ) → leads q m → (x : Opnd) → J m x → B x
    pub proper : (d x : Opnd) → list_any (is_same d) (defs q) ≡ true → A x → is_same x d ≡ false → moves q d x
        ≡ false →
        are_one (P.place x) (P.place d) ≡ false

  pub told : (cells : ℕ → Cell) (s t : Contents) (x : Opnd) → Agrees cells s t x →
      (content cells t (P.place x) ≡ held a s (Operand x)) ⊎ (held a s (Operand x) ≡ Nothing)
  told cells s t x (inl e) = inl e
  told cells s t (Temp i) (inr u) = inr u.1
  told cells s t (Reg r) (inr u) = absurd u.0

  pub narrowed : (B A : Opnd → Type 0) (cells : ℕ → Cell) (s t : Contents) → Scene B cells s t → ((x : Opnd) →
      A x → B x) → Scene A cells s t
  narrowed B A cells s t S on = record { live = λ x l. S.live x (on x l); hi = S.hi; lo = S.lo }

  pub reg_is : (L : Opnd → Type 0) (cells : ℕ → Cell) (r : ℕ) (s t : Contents) → Scene L cells s t → L (Reg r) →
      held a t (Operand (Reg r)) ≡ held a s (Operand (Reg r))
  reg_is L cells r s t S l = by (S.live (Reg r) l)
    where
      by : Agrees cells s t (Reg r) → held a t (Operand (Reg r)) ≡ held a s (Operand (Reg r))
      by (inl e) = sym (ap (λ z. content cells t z) (P.fixed r)) ∙ e
      by (inr u) = absurd u.0

  -- an operand that is the place of nothing live changes
  pub scratched : (L : Opnd → Type 0) (cells : ℕ → Cell) (s t : Contents) (z : Opnd) (c : Content) → ((x : Opnd) →
      L x → IsClear z (P.place x)) →
      Scene L cells s t → Scene L cells s (set (Operand z) c t)
  scratched L cells s t z c clear S = record { live = λ x l. by x (clear x l) (S.live x l); hi = S.hi; lo = S.lo }
    where
      at : (p : Place) → IsClear z p → content cells (set (Operand z) c t) p ≡ content cells t p
      at (In y) h = set_other a z y c t h
      at (At k) h = refl

      by : (x : Opnd) → IsClear z (P.place x) → Agrees cells s t x → Agrees cells s (set (Operand z) c t) x
      by x h (inl e) = inl (at (P.place x) h ∙ e)
      by x h (inr u) = inr u

  register_apart : (r q : ℕ) → is_same (Reg r) (Reg q) ≡ false → P.place (Reg r) ≡ P.place (Reg q) → ⊥
  register_apart r q e h =
      true≢false (sym (same_itself (Reg r)) ∙ (ap (λ z. is_same (Reg r) z) (in_is (Reg r) (Reg q) (sym (P.fixed r) ∙
      (h ∙ P.fixed q))) ∙ e))

  plain_of : (x d : Opnd) → is_same x d ≡ false → P.place x ≡ P.place d → IsPlain d
  plain_of x (Temp t) e h = tt
  plain_of (Temp t) (Reg r) e h = subst IsPlainPlace (h ∙ P.fixed r) (P.plain (Temp t) tt)
  plain_of (Reg r) (Reg q) e h = absurd (register_apart r q e h)

  -- After a definition, whatever the second did for it: its place has what is defined, and the places apart from it
  -- are as they were.
  pub defined :
      (A B : Opnd → Type 0) (d : Opnd) (c : Content) (cells cells1 : ℕ → Cell) (s t t1 : Contents) →
      Scene B cells s t → t1 Hi ≡ t Hi → t1 Lo ≡ t Lo →
      ((x : Opnd) → A x → is_same x d ≡ false → B x) →
      ((x : Opnd) → A x → is_same x d ≡ false → are_one (P.place x) (P.place d) ≡ true → held a s (Operand x) ≡ c) →
      content cells1 t1 (P.place d) ≡ held a (set (Operand d) c s) (Operand d) →
      ((x : Opnd) → A x → is_same x d ≡ false → are_one (P.place x) (P.place d) ≡ false → content cells1 t1 (P.place x)
      ≡ content cells t (P.place x)) →
      Scene A cells1 (set (Operand d) c s) t1
  defined A B d c cells cells1 s t t1 S eh el on clash here off =
      record { live = λ x l. at x l (is_same x d) refl; hi = eh ∙ S.hi; lo = el ∙ S.lo }
    where
      other : (x : Opnd) → A x → is_same x d ≡ false → (b : Bool) → are_one (P.place x) (P.place d) ≡ b →
          Agrees cells s t x →
          Agrees cells1 (set (Operand d) c s) t1 x
      other x l e b eb (inr u) = inr (u.0, ap (λ q. if q then c else s (Operand x)) e ∙ u.1)
      other x l e false eb (inl h) = inl (off x l e eb ∙ (h ∙ sym (set_other a d x c s e)))
      other x l e true eb (inl h) =
          let same : P.place x ≡ P.place d = one_is (P.place x) (P.place d) eb in
          inl (ap (λ z. content cells1 t1 z) same
          ∙ (here ∙ (set_plain a d c s (plain_of x d e same)
          ∙ (sym (clash x l e eb) ∙ sym (set_other a d x c s e)))))

      at : (x : Opnd) → A x → (b : Bool) → is_same x d ≡ b → Agrees cells1 (set (Operand d) c s) t1 x
      at x l true e =
          inl (subst (λ y. content cells1 t1 (P.place y) ≡ held a (set (Operand d) c s) (Operand y)) (sym
          (same_is x d e)) here)
      at x l false e = other x l e (are_one (P.place x) (P.place d)) refl (S.live x (on x l e))

  -- its place is an operand, which gets what is defined
  here_in : (d y : Opnd) (c : Content) (s t : Contents) → P.place d ≡ In y → held a (set (Operand y) c t)
      (Operand y) ≡ held a (set (Operand d) c s) (Operand d)
  here_in (Temp i) y c s t e =
      set_plain a y c t (subst IsPlainPlace e (P.plain (Temp i) tt))
      ∙ sym (set_plain a (Temp i) c s tt)
  here_in (Reg r) y c s t e =
      subst (λ z. held a (set (Operand z) c t) (Operand z) ≡ held a (set (Operand (Reg r)) c s) (Operand (Reg r)))
      (in_is (Reg r) y (sym (P.fixed r) ∙ e))
      (ap (in_register r) (ap (λ b. if b then c else t (Operand (Reg r))) (same_itself (Reg r))
      ∙ sym (ap (λ b. if b then c else s (Operand (Reg r))) (same_itself (Reg r)))))

  pub defined_in :
      (A B : Opnd → Type 0) (d y : Opnd) (c : Content) (cells : ℕ → Cell) (s t : Contents) → P.place d ≡ In y →
      Scene B cells s t →
      ((x : Opnd) → A x → is_same x d ≡ false → B x) →
      ((x : Opnd) → A x → is_same x d ≡ false → are_one (P.place x) (P.place d) ≡ true → held a s (Operand x) ≡ c) →
      Scene A cells (set (Operand d) c s) (set (Operand y) c t)
  defined_in A B d y c cells s t e S on clash =
      defined A B d c cells cells s t (set (Operand y) c t) S refl refl on clash
      (ap (λ z. content cells (set (Operand y) c t) z) e ∙ here_in d y c s t e)
      (λ x l n o. off (P.place x) (ap (λ z. are_one (P.place x) z) (sym e) ∙ o))
    where
      off : (p : Place) → are_one p (In y) ≡ false → content cells (set (Operand y) c t) p ≡ content cells t p
      off (In o) h = set_other a y o c t h
      off (At k) h = refl

  -- its place is a slot, to which what is defined is stored
  pub defined_at :
      (A B : Opnd → Type 0) (d : Opnd) (k : ℕ) (c : Content) (cells : ℕ → Cell) (s t : Contents) → P.place d ≡ At k →
      Scene B cells s t →
      4 * (k + 1) ≤ a.base → ((x : Opnd) (j : ℕ) → A x → P.place x ≡ At j → 4 * (j + 1) ≤ a.base) →
      ((x : Opnd) → A x → is_same x d ≡ false → B x) →
      ((x : Opnd) → A x → is_same x d ≡ false → are_one (P.place x) (P.place d) ≡ true → held a s (Operand x) ≡ c) →
      Scene A (set_cell (slot a.base k) (cell_of c) cells) (set (Operand d) c s) t
  defined_at A B d k c cells s t e S fit fits on clash =
      defined A B d c cells (set_cell (slot a.base k) (cell_of c) cells) s t t S refl refl on clash
      (ap (λ z. content (set_cell (slot a.base k) (cell_of c) cells) t z) e ∙ here d e)
      (λ x l n o. off (P.place x) (λ j q. fits x j l q) (ap (λ z. are_one (P.place x) z) (sym e) ∙ o))
    where
      here : (d : Opnd) → P.place d ≡ At k → content_of (set_cell (slot a.base k) (cell_of c) cells
          (slot a.base k)) ≡ held a (set (Operand d) c s) (Operand d)
      here (Temp i) e =
          ap (λ b. content_of (if b then cell_of c else cells (slot a.base k))) (equal_itself (slot a.base k))
          ∙ (back_from_cell c ∙ sym (set_plain a (Temp i) c s tt))
      here (Reg r) e = absurd (never r (sym (P.fixed r) ∙ e))
        where
          never : (r : ℕ) → In (Reg r) ≡ At k → ⊥
          never r h = cc

      off : (p : Place) → ((j : ℕ) → p ≡ At j → 4 * (j + 1) ≤ a.base) → are_one p (At k) ≡ false →
          content (set_cell (slot a.base k) (cell_of c) cells) t p ≡ content cells t p
      off (In o) f h = refl
      off (At j) f h =
          ap (λ b. content_of (if b then cell_of c else cells (slot a.base j))) (slots_apart a.base j k
          (f j refl) fit h)

  -- a move within one place, which falls away
  pub defined_already :
      (A B : Opnd → Type 0) (d : Opnd) (c : Content) (cells : ℕ → Cell) (s t : Contents) → content cells t
      (P.place d) ≡ c → Scene B cells s t →
      ((x : Opnd) → A x → is_same x d ≡ false → B x) →
      ((x : Opnd) → A x → is_same x d ≡ false → are_one (P.place x) (P.place d) ≡ true → held a s (Operand x) ≡ c) →
      Scene A cells (set (Operand d) c s) t
  defined_already A B d c cells s t has S on clash =
      defined A B d c cells cells s t t S refl refl on clash (here d has) (λ x l n o. refl)
    where
      register : (r : ℕ) (z : Bool) (y : Bool) → (r == 0) ≡ z → (r == 29) ≡ y → held a t (Operand (Reg r)) ≡ c →
          held a t (Operand (Reg r)) ≡ held a (set (Operand (Reg r)) c s) (Operand (Reg r))
      register r true y e f h =
          ap (λ b. if b then Word 0 else if r == 29 then Word (a.base - a.size) else t (Operand (Reg r))) e
          ∙ sym (ap (λ b. if b then Word 0 else if r == 29 then Word (a.base - a.size) else set (Operand
          (Reg r)) c s (Operand (Reg r))) e)
      register r false true e f h =
          (ap (λ b. if b then Word 0 else if r == 29 then Word (a.base - a.size) else t (Operand (Reg r))) e
          ∙ ap (λ b. if b then Word (a.base - a.size) else t (Operand (Reg r))) f)
          ∙ sym (ap (λ b. if b then Word 0 else if r == 29 then Word (a.base - a.size) else set (Operand
          (Reg r)) c s (Operand (Reg r))) e
          ∙ ap (λ b. if b then Word (a.base - a.size) else set (Operand (Reg r)) c s (Operand (Reg r))) f)
      register r false false e f h = h ∙ sym (set_plain a (Reg r) c s (e, f))

      here : (d : Opnd) → content cells t (P.place d) ≡ c → content cells t (P.place d) ≡ held a (set (Operand d) c s)
          (Operand d)
      here (Temp i) h = h ∙ sym (set_plain a (Temp i) c s tt)
      here (Reg r) h =
          ap (λ z. content cells t z) (P.fixed r) ∙ register r (r == 0) (r == 29) refl refl (sym (ap (λ z.
          content cells t z) (P.fixed r)) ∙ h)

  pub divided : (B A : Opnd → Type 0) (cells : ℕ → Cell) (h l : Content) (s t : Contents) → Scene B cells s t →
      ((x : Opnd) → A x → B x) →
      Scene A cells (set Lo l (set Hi h s)) (set Lo l (set Hi h t))
  divided B A cells h l s t S on = record { live = λ x i. by x (S.live x (on x i)); hi = refl; lo = refl }
    where
      at : (p : Place) → content cells (set Lo l (set Hi h t)) p ≡ content cells t p
      at (In y) = held_beside_halves a h l t y
      at (At k) = refl

      by : (x : Opnd) → Agrees cells s t x → Agrees cells (set Lo l (set Hi h s)) (set Lo l (set Hi h t)) x
      by x (inl e) = inl (at (P.place x) ∙ (e ∙ sym (held_beside_halves a h l s x)))
      by x (inr u) = inr u

  -- after a call
  pub came_back : (B A : Opnd → Type 0) (J : ℕ → Opnd → Type 0) (cells : ℕ → Cell) (label : ℕ) (c : Content)
      (s t : Contents) →
      Flows (Calls label) B A J → Scene B cells s t → Scene A cells (after_call c s) (after_call c t)
  came_back B A J cells label c s t F S = record { live = live; hi = refl; lo = refl }
    where
      stays : (r : ℕ) (u : Contents) → is_in r clobbered ≡ false → after_call c u (Operand (Reg r)) ≡ u (Operand
          (Reg r))
      stays r u e = by (r == 2) refl
        where
          by : (b : Bool) → (r == 2) ≡ b → after_call c u (Operand (Reg r)) ≡ u (Operand (Reg r))
          by true h =
              absurd (false_if (is_in r clobbered)
              (ap (λ z. z || is_in r (3 ∷ 4 ∷ 5 ∷ 6 ∷ 7 ∷ 8 ∷ 9 ∷ 10 ∷ 11 ∷ 12 ∷ 13 ∷ 14 ∷ 15 ∷ 24 ∷ 25 ∷ 31
              ∷ [])) h) e)
          by false h =
              ap (λ z. if z then c else if is_in r clobbered then Nothing else u (Operand (Reg r))) h
              ∙ ap (λ z. if z then Nothing else u (Operand (Reg r))) e

      register : (r : ℕ) → A (Reg r) → (b : Bool) → is_in r clobbered ≡ b →
          held a (after_call c t) (Operand (Reg r)) ≡ held a (after_call c s) (Operand (Reg r))
      register r l true e =
          ap (in_register r)
          (ap (λ z. if r == 2 then c else if z then Nothing else t (Operand (Reg r))) e
          ∙ sym (ap (λ z. if r == 2 then c else if z then Nothing else s (Operand (Reg r))) e))
      register r l false e =
          ap (in_register r) (stays r t e) ∙ (reg_is B cells r s t S (F.on refl (Reg r) l e) ∙ sym (ap
          (in_register r) (stays r s e)))

      at : (i : Opnd) (z : Place) → IsTemp i → A i → P.place i ≡ z → content cells (after_call c t) z
          ≡ content cells t z
      at i (At k) ti l e = refl
      at i (In (Temp j)) ti l e = refl
      at i (In (Reg r)) ti l e = by (is_in r clobbered) refl
        where
          differs : (i : Opnd) → IsTemp i → is_same i (Reg r) ≡ false
          differs (Temp j) h = refl
          differs (Reg q) h = absurd h

          by : (b : Bool) → is_in r clobbered ≡ b → held a (after_call c t) (Operand (Reg r)) ≡ held a t (Operand
              (Reg r))
          by true h =
              absurd (false_if (are_one (P.place i) (P.place (Reg r)))
              (ap (λ y. are_one y (P.place (Reg r))) e ∙ (ap (λ y. are_one (In (Reg r)) y) (P.fixed r) ∙ same_itself
              (Reg r)))
              (F.proper (Reg r) i h l (differs i ti) refl))
          by false h = ap (in_register r) (stays r t h)

      temp : (i : Opnd) → IsTemp i → A i → Agrees cells s t i → Agrees cells (after_call c s) (after_call c t) i
      temp (Temp j) ti l (inl e) = inl (at (Temp j) (P.place (Temp j)) tt l refl ∙ e)
      temp (Temp j) ti l (inr u) = inr u
      temp (Reg r) ti l g = absurd ti

      live : (x : Opnd) → A x → Agrees cells (after_call c s) (after_call c t) x
      live (Temp j) l = temp (Temp j) tt l (S.live (Temp j) (F.on refl (Temp j) l refl))
      live (Reg r) l = inl (ap (λ z. content cells (after_call c t) z) (P.fixed r) ∙ register r l
          (is_in r clobbered) refl)
