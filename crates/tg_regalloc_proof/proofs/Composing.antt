-- What is kept is kept on, and by all functions of a program in turn.
use Rattle.std.proofs.Common.{ℕ, ◌≡◌, ◌+◌, ◌*◌, ◌≤◌, ◌<◌, ◌==◌, Bool, true, false, List, [], ◌∷◌, ◌++◌, length, Some, refl, sym, ap}
use Rattle.std.proofs.Common.{◌∙◌, arith, subst, append_assoc, length-append}
use Rattle.std.specs.Prelude.{if◌then◌else◌}
use Rattle.std.proofs.lemmas.Bool.{eqb-true}
use Rattle.tg_simulation.specs.Runs.{Run}
use Rattle.tg_simulation.specs.Ran.{Ran}
use Rattle.tg_tree.specs.Tree.{Function}
use Rattle.tg_tree.specs.Running.{function_of}
use Rattle.tg_instr.specs.declared.instr.Instr.{Instr}
use Rattle.tg_instr.specs.declared.operands.Opnd.TheVariants.{Reg}
use Rattle.tg_instr.proofs.Same.{same_itself}
use Rattle.tg_regalloc_proof.specs.Blocks.{Blocks, code_of, drop_as_many, take_as_many, regrouped, Charge, spent, Covers}
use Rattle.tg_regalloc_proof.specs.Keeping.{Charged, charged_by, functions_of, Holds, AreHeld, Surroundings, run_of, DoesNoMore, Keeps}
use Rattle.tg_regalloc_proof.specs.Keeping.{KeepsCompose, AreKept, ProgramsAreKept}
use Rattle.tg_regalloc_proof.specs.Keeping.AreKept.{none, also}
use Rattle.tg_regalloc_proof.proofs.Simulating.{does_itself, does_on}

-- Blocks of blocks.

taken_and_left : (block : List Instr) (inner : Blocks) → take_as_many block inner ++ code_of (drop_as_many block inner) ≡ code_of inner
taken_and_left [] inner = refl
taken_and_left (x ∷ block) [] = refl
taken_and_left (x ∷ block) (b ∷ inner) =
    append_assoc b (take_as_many block inner) (code_of (drop_as_many block inner)) ∙ ap (λ l. b ++ l) (taken_and_left block inner)

none_is : (bs : Blocks) → length bs ≡ 0 → bs ≡ []
none_is [] e = refl
none_is (b ∷ bs) e = absurd (omega arith)

-- as many blocks are left as there are instructions left
left_as_many : (block rest : List Instr) (inner : Blocks) → length inner ≡ length (block ++ rest) →
    length (drop_as_many block inner) ≡ length rest
left_as_many [] rest inner e = e
left_as_many (x ∷ block) rest [] e = absurd (omega arith)
left_as_many (x ∷ block) rest (b ∷ inner) e = left_as_many block rest inner (let n = e in omega arith)

pub code_regrouped : (outer inner : Blocks) → length inner ≡ length (code_of outer) → code_of (regrouped outer inner) ≡ code_of inner
code_regrouped [] inner e = ap code_of (sym (none_is inner e))
code_regrouped (block ∷ outer) inner e =
    ap (λ l. take_as_many block inner ++ l) (code_regrouped outer (drop_as_many block inner) (left_as_many block (code_of outer) inner e))
    ∙ taken_and_left block inner

as_many_regrouped : (outer inner : Blocks) → length (regrouped outer inner) ≡ length outer
as_many_regrouped [] inner = refl
as_many_regrouped (block ∷ outer) inner = let r = as_many_regrouped outer (drop_as_many block inner) in omega arith

-- Charges: each instruction of the code between is charged what its block is.
module _ (charge : Charge) where
  abbrev gathered : Blocks → Charge
  gathered [] left one = 0
  gathered (block ∷ blocks) left one =
      if length blocks == left then spent charge (length (code_of blocks)) block else gathered blocks left one

  -- a charge is the gathered one at the places of these blocks
  abbrev IsGathered : Charge → Blocks → Type 0
  IsGathered G blocks = (left : ℕ) (one : Instr) → left < length blocks → G left one ≡ gathered blocks left one

  at_first : (block : List Instr) (blocks : Blocks) (one : Instr) → gathered (block ∷ blocks) (length blocks) one
      ≡ spent charge (length (code_of blocks)) block
  at_first block blocks one =
      ap (λ b. if b then spent charge (length (code_of blocks)) block else gathered blocks (length blocks) one)
      (same_itself (Reg (length blocks)))

  past_first : (block : List Instr) (blocks : Blocks) (left : ℕ) (one : Instr) → left < length blocks →
      gathered (block ∷ blocks) left one ≡ gathered blocks left one
  past_first block blocks left one lt = by (length blocks == left) refl
    where
      by : (b : Bool) → (length blocks == left) ≡ b →
          (if b then spent charge (length (code_of blocks)) block else gathered blocks left one) ≡ gathered blocks left one
      by true e = let same : length blocks ≡ left = eqb-true (length blocks) left e in absurd (omega arith)
      by false e = refl

  gathered_on : (G : Charge) (block : List Instr) (blocks : Blocks) → IsGathered G (block ∷ blocks) → IsGathered G blocks
  gathered_on G block blocks h left one lt = h left one (omega arith) ∙ past_first block blocks left one lt

  gathered_left : (G : Charge) (block : List Instr) (inner : Blocks) → IsGathered G inner → IsGathered G (drop_as_many block inner)
  gathered_left G [] inner h = h
  gathered_left G (x ∷ block) [] h = λ left one lt. absurd (omega arith)
  gathered_left G (x ∷ block) (b ∷ inner) h = gathered_left G block inner (gathered_on G b inner h)

  covers_gathered : (G : Charge) (l : List Instr) (blocks : Blocks) → length blocks ≡ length l → IsGathered G blocks →
      Covers G l charge blocks
  covers_gathered G [] [] e h = tt
  covers_gathered G [] (b ∷ bs) e h = absurd (omega arith)
  covers_gathered G (x ∷ l) [] e h = absurd (omega arith)
  covers_gathered G (x ∷ l) (b ∷ bs) e h =
      let same : length bs ≡ length l = omega arith in
      let k : G (length l) x ≡ spent charge (length (code_of bs)) b =
      subst (λ n. G n x ≡ spent charge (length (code_of bs)) b) same (h (length bs) x (omega arith) ∙ at_first b bs x) in
      (omega arith, covers_gathered G l bs same (gathered_on G b bs h))

  spent_append : (left : ℕ) (xs ys : List Instr) → spent charge left (xs ++ ys) ≡ spent charge (length ys + left) xs + spent charge left ys
  spent_append left [] ys = omega arith
  spent_append left (x ∷ xs) ys =
      let r = spent_append left xs ys in
      let e : length (xs ++ ys) + left ≡ length xs + (length ys + left) = omega (arith, length-append xs ys) in
      let k : charge (length (xs ++ ys) + left) x ≡ charge (length xs + (length ys + left)) x = ap (λ n. charge n x) e in
      omega arith

  spent_gathered : (G : Charge) (block rest : List Instr) (inner : Blocks) → length inner ≡ length (block ++ rest) → IsGathered G inner →
      spent G (length rest) block ≡ spent charge (length (code_of (drop_as_many block inner))) (take_as_many block inner)
  spent_gathered G [] rest inner e h = refl
  spent_gathered G (x ∷ block) rest [] e h = absurd (omega arith)
  spent_gathered G (x ∷ block) rest (b ∷ inner) e h =
      let r = spent_gathered G block rest inner (let n = e in omega arith) (gathered_on G b inner h) in
      let n : length inner ≡ length block + length rest = omega (arith, e, length-append block rest) in
      let here : G (length block + length rest) x ≡ spent charge (length (code_of inner)) b =
      subst (λ k. G k x ≡ spent charge (length (code_of inner)) b) n (h (length inner) x (omega arith) ∙ at_first b inner x) in
      let split = spent_append (length (code_of (drop_as_many block inner))) b (take_as_many block inner) in
      let lengths : length (take_as_many block inner) + length (code_of (drop_as_many block inner)) ≡ length (code_of inner) =
      sym (length-append (take_as_many block inner) (code_of (drop_as_many block inner))) ∙ ap (λ l. length l) (taken_and_left block inner) in
      let moved : spent charge (length (take_as_many block inner) + length (code_of (drop_as_many block inner))) b
      ≡ spent charge (length (code_of inner)) b = ap (λ k. spent charge k b) lengths in
      omega arith

  covers_outer : (first G : Charge) (l : List Instr) (outer inner : Blocks) → length inner ≡ length (code_of outer) → IsGathered G inner →
      Covers first l charge (regrouped outer inner) → Covers first l G outer
  covers_outer first G [] [] inner e h c = tt
  covers_outer first G [] (b ∷ outer) inner e h c = c
  covers_outer first G (x ∷ l) [] inner e h c = c
  covers_outer first G (x ∷ l) (b ∷ outer) inner e h c =
      let left = left_as_many b (code_of outer) inner e in
      let same = spent_gathered G b (code_of outer) inner e h in
      let lengths : length (code_of (regrouped outer (drop_as_many b inner))) ≡ length (code_of (drop_as_many b inner)) =
      ap (λ r. length r) (code_regrouped outer (drop_as_many b inner) left) in
      let moved : spent charge (length (code_of (regrouped outer (drop_as_many b inner)))) (take_as_many b inner)
      ≡ spent charge (length (code_of (drop_as_many b inner))) (take_as_many b inner) =
      ap (λ k. spent charge k (take_as_many b inner)) lengths in
      let few = c.0 in
      (omega arith, covers_outer first G l outer (drop_as_many b inner) left (gathered_left G b inner h) c.1)

-- Sizes.

smaller_held : (size : ℕ → ℕ) (s t o o' l l' : ℕ) → s ≤ t → o' ≡ o → l' ≡ l → 4 * (t + o') ≤ size l' → 4 * (s + o) ≤ size l
smaller_held size s t o o' l l' le eo el h =
    let k : 4 * (t + o) ≤ size l = subst (λ q. 4 * (t + q) ≤ size l) eo (subst (λ q. 4 * (t + o') ≤ size q) el h) in
    omega arith

held_before : (size : ℕ → ℕ) (blocks : Blocks) (f g : Function (List Instr)) → Keeps blocks f g → Holds size g → Holds size f
held_before size blocks f g k h = smaller_held size f.slots g.slots f.out g.out f.label g.label k.slots k.out k.label h

-- what one label leads to is held
abbrev pub IsHeldAt : (size : ℕ → ℕ) (l : ℕ) → List (Function (List Instr)) → Type 0
IsHeldAt size l fs = (f : Function (List Instr)) → function_of l fs ≡ Some f → Holds size f

some_function : (f g : Function (List Instr)) → Some f ≡ Some g → f ≡ g
some_function f g e = cc

-- after a function that both have
held_behind : (size : ℕ → ℕ) (l : ℕ) (p : Function (List Instr)) (xs ys : List (Function (List Instr))) →
    (IsHeldAt size l xs → IsHeldAt size l ys) → IsHeldAt size l (p ∷ xs) → IsHeldAt size l (p ∷ ys)
held_behind size l p xs ys later = by (p.label == l)
  where
    by : (b : Bool) → ((f : Function (List Instr)) → (if b then Some p else function_of l xs) ≡ Some f → Holds size f) →
        (f : Function (List Instr)) → (if b then Some p else function_of l ys) ≡ Some f → Holds size f
    by true h f e = h f e
    by false h f e = later h f e

-- at a function in the place of which another stands
held_in_place : (size : ℕ → ℕ) (l : ℕ) (blocks : Blocks) (f g : Function (List Instr)) → Keeps blocks f g →
    (xs ys : List (Function (List Instr))) → (IsHeldAt size l ys → IsHeldAt size l xs) → IsHeldAt size l (g ∷ ys) → IsHeldAt size l (f ∷ xs)
held_in_place size l blocks f g k xs ys later =
    subst (λ n. ((h : Function (List Instr)) → (if n == l then Some g else function_of l ys) ≡ Some h → Holds size h) →
    IsHeldAt size l (f ∷ xs)) (sym k.label) (by (f.label == l))
  where
    by : (b : Bool) → ((h : Function (List Instr)) → (if b then Some g else function_of l ys) ≡ Some h → Holds size h) →
        (h : Function (List Instr)) → (if b then Some f else function_of l xs) ≡ Some h → Holds size h
    by true held h e = subst (Holds size) (some_function f h e) (held_before size blocks f g k (held g refl))
    by false held h e = later held h e

one_held : (size : ℕ → ℕ) (l : ℕ) (before after : List Charged) (blocks : Blocks) (f g : Charged) → Keeps blocks f.function g.function →
    IsHeldAt size l (functions_of (before ++ g ∷ after)) → IsHeldAt size l (functions_of (before ++ f ∷ after))
one_held size l [] after blocks f g k = held_in_place size l blocks f.function g.function k _ _ (λ h. h)
one_held size l (p ∷ before) after blocks f g k = held_behind size l p.function _ _ (one_held size l before after blocks f g k)

-- where the functions that stand in the places of others are held, the others are
pub all_held : (size : ℕ → ℕ) (l : ℕ) (before fs gs : List Charged) → AreKept fs gs →
    IsHeldAt size l (functions_of (before ++ gs)) → IsHeldAt size l (functions_of (before ++ fs))
all_held size l (p ∷ before) fs gs ks = held_behind size l p.function _ _ (all_held size l before fs gs ks)
all_held size l [] _ _ none = λ h. h
all_held size l [] _ _ (also f g fs gs blocks k c ks) =
    held_in_place size l blocks f.function g.function k _ _ (all_held size l [] fs gs ks)

pub does_no_more_on : (c d e : Run Ran) → DoesNoMore c d → DoesNoMore d e → DoesNoMore c e
does_no_more_on c d e h i n ok =
    let a = h n ok in
    does_on 0 0 (c n) (d n) (e n) a (i n (λ z. ok (sym a.stop ∙ z)))

pub keeps_compose : KeepsCompose
keeps_compose f g h outer inner a b =
    record {
      each = as_many_regrouped outer inner ∙ a.each;
      whole = code_regrouped outer inner fits ∙ b.whole;
      label = b.label ∙ a.label;
      out = b.out ∙ a.out;
      slots = let x = a.slots in let y = b.slots in omega arith;
      same = λ before after charge charge' e held covered.
          does_no_more_on _ _ _
          (a.same before after charge (gathered charge' inner) e
          (λ l. one_held e.size l before after inner (charged_by (gathered charge' inner) g) (charged_by charge' h) b (held l))
          (covers_outer charge' charge (gathered charge' inner) f.body outer inner fits (λ left one lt. refl) covered))
          (b.same before after (gathered charge' inner) charge' e held
          (covers_gathered charge' (gathered charge' inner) g.body inner b.each (λ left one lt. refl)));
      memory = λ before after charge charge' e held covered see watches turns.
          does_no_more_on _ _ _
          (a.memory before after charge (gathered charge' inner) e
          (λ l. one_held e.size l before after inner (charged_by (gathered charge' inner) g) (charged_by charge' h) b (held l))
          (covers_outer charge' charge (gathered charge' inner) f.body outer inner fits (λ left one lt. refl) covered) see watches turns)
          (b.memory before after (gathered charge' inner) charge' e held
          (covers_gathered charge' (gathered charge' inner) g.body inner b.each (λ left one lt. refl)) see watches turns);
    }
  where
    fits : length inner ≡ length (code_of outer)
    fits = b.each ∙ ap (λ l. length l) (sym a.whole)

module _ (e : Surroundings) where
  in_turn : (before fs gs : List Charged) → AreKept fs gs → AreHeld e.size (functions_of (before ++ gs)) →
      DoesNoMore (run_of (before ++ fs) e) (run_of (before ++ gs) e)
  in_turn before _ _ none held = λ n ok. does_itself 0 _
  in_turn before _ _ (also f g fs gs blocks k c ks) held =
      let assoc = append_assoc before (g ∷ []) in
      does_no_more_on (run_of (before ++ f ∷ fs) e) (run_of (before ++ g ∷ fs) e) (run_of (before ++ g ∷ gs) e)
      (k.same before fs f.charge g.charge e
      (λ l. subst (λ xs. IsHeldAt e.size l (functions_of xs)) (assoc fs)
      (all_held e.size l (before ++ g ∷ []) fs gs ks
      (subst (λ xs. IsHeldAt e.size l (functions_of xs)) (sym (assoc gs)) (held l)))) c)
      (subst (λ xs. DoesNoMore (run_of xs e) (run_of (before ++ g ∷ gs) e)) (assoc fs)
      (subst (λ xs. DoesNoMore (run_of ((before ++ g ∷ []) ++ fs) e) (run_of xs e)) (assoc gs)
      (in_turn (before ++ g ∷ []) fs gs ks (subst (λ xs. AreHeld e.size (functions_of xs)) (sym (assoc gs)) held))))

pub programs_are_kept : ProgramsAreKept
programs_are_kept fs gs e ks held = in_turn e [] fs gs ks held
