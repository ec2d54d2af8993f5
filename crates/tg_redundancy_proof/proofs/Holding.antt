-- When facts hold, and that they do so still behind what forgets them.
use Rattle.std.proofs.Common.{ℕ, zero, suc, ◌-◌, arith, eq-eqb, ◌≡◌, ◌==◌, ◌&&◌, ◌||◌, not, Bool, true, false, List, [], ◌∷◌, Option, Some, None}
use Rattle.std.proofs.Common.{refl, sym, ap, ◌∙◌, subst}
use Rattle.std.proofs.lemmas.Bool.{and_parts, or_parts, false≢true}
use Rattle.std.specs.Prelude.{if◌then◌else◌, take}
use Rattle.std.specs.List.{filter}
use Rattle.tg_tree.specs.declared.operators.Rel.{Rel}
use Rattle.tg_tree.specs.declared.operators.Rel.TheVariants.{Equal, NotEqual, Less, LessEqual, Greater, GreaterEqual, Below, NotBelow}
use Rattle.tg_tree.specs.Actions.{World, Activation}
use Rattle.tg_tree.specs.Operators.{holds}
use Rattle.tg_instr.specs.declared.operands.Opnd.{Opnd}
use Rattle.tg_instr.specs.declared.operands.Opnd.TheVariants.{Temp, Reg}
use Rattle.tg_instr.specs.Operands.{is_same}
use Rattle.tg_instr.specs.Shapes.{Operand}
use Rattle.tg_instr.specs.Contents.{Content, Nothing, Word, Found, Contents, set, held}
use Rattle.tg_instr.proofs.Same.{same_is, same_itself}
use Rattle.tg_redundancy.specs.declared.readings.Reading.{Reading}
use Rattle.tg_redundancy.specs.declared.readings.Reading.TheVariants.{Moved}
use Rattle.tg_redundancy.specs.mirror.Readings.{temp, read_by, reread, same_reading}
use Rattle.tg_redundancy.specs.declared.facts.Fact.{Fact}
use Rattle.tg_redundancy.specs.declared.facts.Fact.TheVariants.{Has, Untrue}
use Rattle.tg_redundancy.specs.mirror.Facts.{Facts, stands, found, same_rel, is_untrue, names_one, is_of}
use Rattle.tg_redundancy.specs.mirror.Facts.{is_of_memory, forget, forget_memory, noted}
use Rattle.tg_redundancy.specs.mirror.Known.{copied, gotten, Claims, claimed, both, most_claimed, claim}
use Rattle.tg_redundancy_proof.proofs.Getting.{Put, content_got, gets, Alike, gets_alike, reread_itself, gets_anywhere, same_reading_is}

-- Contents with another at one operand.

set_other : (d y : Opnd) (c : Content) (s : Contents) → is_same y d ≡ false → set (Operand d) c s (Operand y) ≡ s (Operand y)
set_other d y c s e = ap (λ b. if b then c else s (Operand y)) e

pub set_there : (d : Opnd) (c : Content) (s : Contents) → set (Operand d) c s (Operand d) ≡ c
set_there d c s = ap (λ b. if b then c else s (Operand d)) (same_itself d)

held_by : (a : Activation) (y : Opnd) (s s' : Contents) → s' (Operand y) ≡ s (Operand y) → held a s' (Operand y) ≡ held a s (Operand y)
held_by a (Temp t) s s' e = e
held_by a (Reg r) s s' e = ap (λ c. if r == 0 then Word 0 else if r == 29 then Word (a.base - a.size) else c) e

held_other : (a : Activation) (d y : Opnd) (c : Content) (s : Contents) → is_same y d ≡ false →
    held a (set (Operand d) c s) (Operand y) ≡ held a s (Operand y)
held_other a d y c s e = held_by a y s (set (Operand d) c s) (set_other d y c s e)

content_is : (c d : Content) → content_got c ≡ Put d → c ≡ d
content_is Nothing d e = cc
content_is (Word v) d e = cc
content_is (Found r) d e = cc

pub content_puts : (c : Content) (n : c ≡ Nothing → ⊥) → content_got c ≡ Put c
content_puts Nothing n = absurd (n refl)
content_puts (Word v) n = refl
content_puts (Found r) n = refl

module _ (a : Activation) (k : ℕ) where
  -- a fact holds
  abbrev pub Holds : World → Contents → Fact → Type 0
  Holds w s (Has t r) = gets r a k w s ≡ Put (s (Operand (temp t)))
  Holds w s (Untrue rel x y) =
      (u : ℕ) × (v : ℕ) × (held a s (Operand x) ≡ Word u) × (held a s (Operand y) ≡ Word v) × (holds rel u v ≡ false)

  -- all do
  abbrev pub Hold : World → Contents → Facts → Type 0
  Hold w s [] = Unit {0}
  Hold w s (fact ∷ f) = Holds w s fact × Hold w s f

  -- Operands that stand for others.
  pub stands_held : (w : World) (s : Contents) (f : Facts) (x : Opnd) → Hold w s f →
      held a s (Operand (stands f x)) ≡ held a s (Operand x)
  stands_held w s [] x h = refl
  stands_held w s (Has t (Moved y) ∷ f) x h = by (is_same (temp t) x) refl (stands_held w s f x h.1)
    where
      by : (b : Bool) → is_same (temp t) x ≡ b → held a s (Operand (stands f x)) ≡ held a s (Operand x) →
          held a s (Operand (if b then y else stands f x)) ≡ held a s (Operand x)
      by true e later = content_is _ _ h.0 ∙ ap (λ z. held a s (Operand z)) (same_is (temp t) x e)
      by false e later = later
  stands_held w s (_ ∷ f) x h = stands_held w s f x h.1

  all_stand : (w : World) (s : Contents) (f : Facts) → Hold w s f → (xs : List Opnd) → Alike a k w (stands f) s s xs
  all_stand w s f h [] = tt
  all_stand w s f h (x ∷ xs) = (stands_held w s f x h, all_stand w s f h xs)

  pub reread_gets : (w : World) (s : Contents) (f : Facts) (r : Reading) → Hold w s f →
      gets (reread (stands f) r) a k w s ≡ gets r a k w s
  reread_gets w s f r h = gets_alike a k w (stands f) r s s (all_stand w s f h (read_by r))

  -- What is found holds.
  pub found_holds : (w : World) (s : Contents) (t : ℕ) (r : Reading) (f : Facts) (u : ℕ) → found t r f ≡ Some u → Hold w s f →
      gets r a k w s ≡ Put (s (Operand (temp u)))
  found_holds w s t r [] u e h = cc
  found_holds w s t r (Untrue rel x y ∷ f) u e h = found_holds w s t r f u e h.1
  found_holds w s t r (Has v q ∷ f) u e h =
      by (same_reading q r && not (v == t)) refl e (λ i. found_holds w s t r f u i h.1)
    where
      by : (b : Bool) → (same_reading q r && not (v == t)) ≡ b → (if b then Some v else found t r f) ≡ Some u →
          (found t r f ≡ Some u → gets r a k w s ≡ Put (s (Operand (temp u)))) → gets r a k w s ≡ Put (s (Operand (temp u)))
      by true p i later =
          let same : v ≡ u = some_is v u i in
          subst (λ n. gets r a k w s ≡ Put (s (Operand (temp n)))) same
          (subst (λ z. gets z a k w s ≡ Put (s (Operand (temp v)))) (same_reading_is q r (and_parts _ _ p).0) h.0)
        where
          some_is : (x y : ℕ) → Some x ≡ Some y → x ≡ y
          some_is x y i = cc
      by false p i later = later i

  rel_is : (p q : Rel) → same_rel p q ≡ true → p ≡ q
  rel_is Equal Equal e = refl
  rel_is NotEqual NotEqual e = refl
  rel_is Less Less e = refl
  rel_is LessEqual LessEqual e = refl
  rel_is Greater Greater e = refl
  rel_is GreaterEqual GreaterEqual e = refl
  rel_is Below Below e = refl
  rel_is NotBelow NotBelow e = refl
  rel_is _ _ e = absurd (false≢true e)

  pub untrue_holds : (w : World) (s : Contents) (rel : Rel) (x y : Opnd) (f : Facts) → is_untrue rel x y f ≡ true →
      Hold w s f → Holds w s (Untrue rel x y)
  untrue_holds w s rel x y [] e h = absurd (false≢true e)
  untrue_holds w s rel x y (Has t r ∷ f) e h = untrue_holds w s rel x y f e h.1
  untrue_holds w s rel x y (Untrue q u v ∷ f) e h =
      by (same_rel rel q && (is_same x u && is_same y v)) refl e (λ i. untrue_holds w s rel x y f i h.1)
    where
      by : (b : Bool) → (same_rel rel q && (is_same x u && is_same y v)) ≡ b → (b || is_untrue rel x y f) ≡ true →
          (is_untrue rel x y f ≡ true → Holds w s (Untrue rel x y)) → Holds w s (Untrue rel x y)
      by true p i later =
          let o = and_parts (same_rel rel q) _ p in
          let n = and_parts (is_same x u) _ o.1 in
          subst (λ z. Holds w s (Untrue z x y)) (sym (rel_is rel q o.0))
          (subst (λ z. Holds w s (Untrue q z y)) (sym (same_is x u n.0))
          (subst (λ z. Holds w s (Untrue q u z)) (sym (same_is y v n.1)) h.0))
      by false p i later = later i

  -- What is kept of facts.
  pub filtered : (test : Fact → Bool) (w v : World) (s s' : Contents) (f : Facts) →
      ((fact : Fact) → test fact ≡ true → Holds w s fact → Holds v s' fact) → Hold w s f → Hold v s' (filter test f)
  filtered test w v s s' [] still h = tt
  filtered test w v s s' (fact ∷ f) still h = by (test fact) refl (filtered test w v s s' f still h.1)
    where
      by : (b : Bool) → test fact ≡ b → Hold v s' (filter test f) → Hold v s' (if b then fact ∷ filter test f else filter test f)
      by true e later = (still fact e h.0, later)
      by false e later = later

  taken : (n : ℕ) (w : World) (s : Contents) (f : Facts) → Hold w s f → Hold w s (take n f)
  taken zero w s f h = tt
  taken (suc n) w s [] h = tt
  taken (suc n) w s (fact ∷ f) h = (h.0, taken n w s f h.1)

  pub noted_hold : (most : ℕ) (w : World) (s : Contents) (fact : Fact) (f : Facts) → Holds w s fact → Hold w s f →
      Hold w s (noted most fact f)
  noted_hold most w s fact f h hs = taken most w s (fact ∷ f) (h, hs)

  -- another operand's content changes
  unnamed : (d : Opnd) (c : Content) (w : World) (s : Contents) (xs : List Opnd) → names_one d xs ≡ false →
      Alike a k w (λ x. x) s (set (Operand d) c s) xs
  unnamed d c w s [] e = tt
  unnamed d c w s (x ∷ xs) e = let p = or_parts (is_same x d) _ e in (held_other a d x c s p.0, unnamed d c w s xs p.1)

  pub gets_still : (d : Opnd) (c : Content) (w : World) (s : Contents) (r : Reading) → names_one d (read_by r) ≡ false →
      gets r a k w (set (Operand d) c s) ≡ gets r a k w s
  gets_still d c w s r e =
      ap (λ q. gets q a k w (set (Operand d) c s)) (sym (reread_itself r))
      ∙ gets_alike a k w (λ x. x) r s (set (Operand d) c s) (unnamed d c w s (read_by r) e)

  not_of : (b : Bool) → not b ≡ true → b ≡ false
  not_of true e = sym e
  not_of false e = refl

  holds_still : (d : Opnd) (c : Content) (w : World) (s : Contents) (fact : Fact) → is_of d fact ≡ false → Holds w s fact →
      Holds w (set (Operand d) c s) fact
  holds_still d c w s (Has t r) e h =
      let p = or_parts (is_same (temp t) d) _ e in
      gets_still d c w s r p.1 ∙ (h ∙ ap Put (sym (set_other d (temp t) c s p.0)))
  holds_still d c w s (Untrue rel x y) e h =
      let p = or_parts (is_same x d) _ e in
      let q = or_parts (is_same y d) _ p.1 in
      (h.0, h.1, held_other a d x c s p.0 ∙ h.2, held_other a d y c s q.0 ∙ h.3, h.4)

  pub forget_hold : (d : Opnd) (c : Content) (w : World) (s : Contents) (f : Facts) → Hold w s f →
      Hold w (set (Operand d) c s) (forget d f)
  forget_hold d c w s f h =
      filtered (λ fact. not (is_of d fact)) w w s (set (Operand d) c s) f
      (λ fact e hs. holds_still d c w s fact (not_of (is_of d fact) e) hs) h

  -- memory or input changes
  holds_elsewhere : (w v : World) (s : Contents) (fact : Fact) → is_of_memory fact ≡ false → Holds w s fact → Holds v s fact
  holds_elsewhere w v s (Has t r) e h = gets_anywhere r a k w v s e ∙ h
  holds_elsewhere w v s (Untrue rel x y) e h = h

  pub forget_memory_hold : (w v : World) (s : Contents) (f : Facts) → Hold w s f → Hold v s (forget_memory f)
  forget_memory_hold w v s f h =
      filtered (λ fact. not (is_of_memory fact)) w v s s f
      (λ fact e hs. holds_elsewhere w v s fact (not_of (is_of_memory fact) e) hs) h

  -- a temporary gets what is read, or what another has
  pub gotten_hold : (most t : ℕ) (r : Reading) (c : Content) (w : World) (s : Contents) (f : Facts) → gets r a k w s ≡ Put c →
      Hold w s f → Hold w (set (Operand (temp t)) c s) (gotten most t r f)
  gotten_hold most t r c w s f e h = by (names_one (temp t) (read_by r)) refl
    where
      after : Hold w (set (Operand (temp t)) c s) (forget (temp t) f)
      after = forget_hold (temp t) c w s f h

      by : (b : Bool) → names_one (temp t) (read_by r) ≡ b →
          Hold w (set (Operand (temp t)) c s) (if b then forget (temp t) f else noted most (Has t r) (forget (temp t) f))
      by true i = after
      by false i =
          noted_hold most w (set (Operand (temp t)) c s) (Has t r) (forget (temp t) f)
          (gets_still (temp t) c w s r i ∙ (e ∙ ap Put (sym (set_there (temp t) c s)))) after

  pub copied_hold : (most t : ℕ) (y : Opnd) (c : Content) (w : World) (s : Contents) (f : Facts) →
      content_got (held a s (Operand y)) ≡ Put c → Hold w s f → Hold w (set (Operand (temp t)) c s) (copied most t y f)
  copied_hold most t y c w s f e h = by (is_same (temp t) y) refl
    where
      after : Hold w (set (Operand (temp t)) c s) (forget (temp t) f)
      after = forget_hold (temp t) c w s f h

      turned : (x z : Opnd) → is_same x z ≡ false → is_same z x ≡ false
      turned (Temp i) (Temp j) e = flipped i.0 j.0 e
        where
          flipped : (i j : ℕ) → (i == j) ≡ false → (j == i) ≡ false
          flipped i j e = grind (arith)
      turned (Reg i) (Reg j) e = flipped i j e
        where
          flipped : (i j : ℕ) → (i == j) ≡ false → (j == i) ≡ false
          flipped i j e = grind (arith)
      turned (Temp i) (Reg j) e = refl
      turned (Reg i) (Temp j) e = refl

      by : (b : Bool) → is_same (temp t) y ≡ b →
          Hold w (set (Operand (temp t)) c s) (if b then forget (temp t) f else noted most (Has t (Moved y)) (forget (temp t) f))
      by true i = after
      by false i =
          noted_hold most w (set (Operand (temp t)) c s) (Has t (Moved y)) (forget (temp t) f)
          (ap content_got (held_other a (temp t) y c s (turned (temp t) y i)) ∙ (e ∙ ap Put (sym (set_there (temp t) c s)))) after

  -- contents that operands have alike
  same_alike : (w : World) (s s' : Contents) (xs : List Opnd) → ((y : Opnd) → s' (Operand y) ≡ s (Operand y)) → Alike a k w (λ x. x) s s' xs
  same_alike w s s' [] e = tt
  same_alike w s s' (x ∷ xs) e = (held_by a x s s' (e x), same_alike w s s' xs e)

  pub same_hold : (w : World) (s s' : Contents) (f : Facts) → ((y : Opnd) → s' (Operand y) ≡ s (Operand y)) → Hold w s f → Hold w s' f
  same_hold w s s' [] e h = tt
  same_hold w s s' (Has t r ∷ f) e h = (
    (ap (λ q. gets q a k w s') (sym (reread_itself r)) ∙ gets_alike a k w (λ x. x) r s s' (same_alike w s s' (read_by r) e))
        ∙ (h.0 ∙ ap Put (sym (e (temp t)))),
    same_hold w s s' f e h.1,
  )
  same_hold w s s' (Untrue rel x y ∷ f) e h = (
    (h.0.0, h.0.1, held_by a x s s' (e x) ∙ h.0.2, held_by a y s s' (e y) ∙ h.0.3, h.0.4),
    same_hold w s s' f e h.1,
  )

  -- facts are known at a place that is come to, and hold
  abbrev pub Arrives : Option Facts → World → Contents → Type 0
  Arrives None w s = ⊥
  Arrives (Some f) w s = Hold w s f

  pub claim_holds : (m : ℕ) (f : Facts) (claims : Claims) (w : World) (s : Contents) → Hold w s f →
      Arrives (claimed m (claim m f claims)) w s
  claim_holds m f claims w s h =
      subst (λ b. Arrives (if b then Some (both (take most_claimed f) (claimed m claims)) else claimed m claims) w s) (sym (eq-eqb m m refl))
      (by (claimed m claims))
    where
      by : (o : Option Facts) → Hold w s (both (take most_claimed f) o)
      by None = taken most_claimed w s f h
      by (Some g) = tt
