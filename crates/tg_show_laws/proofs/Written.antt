-- What stands behind an instruction's word: operands and numbers in one of a few forms, which tells them.
use Rattle.std.proofs.Common.{ℕ, zero, suc, ◌-◌, ◌<◌, ◌≡◌, List, [], ◌∷◌, ◌++◌}
use Rattle.std.proofs.Common.{drop, Bool, true, false, refl, sym, ap, subst, ◌∙◌, arith, append_assoc}
use Rattle.std.specs.Prelude.{◌==◌, ◌&&◌, nat_lt, if◌then◌else◌, codes, slice_index_or}
use Rattle.std.specs.Fmt.{decimal}
use Rattle.std.proofs.Math.Bool.{Bool-set}
use Rattle.std.proofs.lemmas.List.{append_cancel_left}
use Rattle.std.proofs.lemmas.Bool.{eqb-true}
use Rattle.tg_isa.specs.Names.{names as register_names, register_name}
use Rattle.tg_tree.specs.declared.operators.Rel.{Rel}
use Rattle.tg_instr.specs.declared.operands.Opnd.{Opnd}
use Rattle.tg_instr.specs.declared.operands.Opnd.TheVariants.{Temp, Reg}
use Rattle.tg_instr.specs.declared.instr.Test.{Test}
use Rattle.tg_instr.specs.Operands.{is_one_row}
use Rattle.tg_show.specs.Words.{name_text, rel_word}
use Rattle.tg_show.specs.Runs.{operand_text}
use Rattle.tg_show.specs.Instructions.{signed_text}
use Rattle.tg_show_laws.specs.Fitting.{IsWord}
use Rattle.tg_show_laws.specs.Fields.{IsField, OperandFits}
use Rattle.tg_show_laws.proofs.Solid.{and_true}
use Rattle.tg_show_laws.proofs.Numbers.{ends, number_told, no_sign, temp_told, name_ends}
use Rattle.tg_show_laws.proofs.OperatorWords.{rel_told_blank}
use Rattle.tg_show_laws.proofs.Trees.{byte, differ}

abbrev pub starts : (word text : List ℕ) → Bool
starts [] t = true
starts (c ∷ w) [] = false
starts (c ∷ w) (d ∷ t) = c == d && starts w t

-- the place of the first of some words with which a text begins
abbrev pub place : List (List ℕ) → List ℕ → ℕ
place [] t = 0
place (w ∷ rest) t = if starts w t then 0 else suc (place rest t)

-- what holds of all small numbers
abbrev all_below : ℕ → (ℕ → Bool) → Bool
all_below zero test = true
all_below (suc n) test = test n && all_below n test

below_holds : (n : ℕ) (test : ℕ → Bool) (k : ℕ) → all_below n test ≡ true → k < n → test k ≡ true
below_holds zero test k h l = absurd (omega (arith, l))
below_holds (suc n) test k h l = by (k == n) refl (λ m. below_holds n test k (and_true (test n) (all_below n test) h).1 m)
  where
    less : (k == n) ≡ false → k < n
    less e = let ne : k ≡ n → ⊥ = (λ q. differ k n e q) in omega (arith, l, ne)

    by : (b : Bool) → (k == n) ≡ b → (k < n → test k ≡ true) → test k ≡ true
    by true e ih = subst (λ j. test j ≡ true) (sym (eqb-true k n e)) (and_true (test n) (all_below n test) h).0
    by false e ih = ih (less e)

register_read : (r : ℕ) (u : List ℕ) → r < 32 → place register_names (register_name r ++ u) ≡ r
register_read r u h = eqb-true _ _ (below_holds 32 (λ k. place register_names (register_name k ++ u) == k) r refl h)

register_dollar : (r : ℕ) (u : List ℕ) → r < 32 → byte 0 (register_name r ++ u) ≡ 36
register_dollar r u h = eqb-true _ _ (below_holds 32 (λ k. byte 0 (register_name k ++ u) == 36) r refl h)

register_told : (r q : ℕ) (u v : List ℕ) → r < 32 → q < 32 → register_name r ++ u ≡ register_name q ++ v → (r ≡ q) × (u ≡ v)
register_told r q u v f g h =
    let same : r ≡ q = sym (register_read r u f) ∙ ap (place register_names) h ∙ register_read q v g in
    (same, append_cancel_left (register_name q) u v (ap (λ k. register_name k ++ u) (sym same) ∙ h))

-- a field with a sign
signed_told : (m n : ℕ) (u v : List ℕ) → IsField m → IsField n → ends u ≡ true → ends v ≡ true →
    signed_text m ++ u ≡ signed_text n ++ v → (m ≡ n) × (u ≡ v)
signed_told m n u v f g e k h = by (nat_lt m 32768) (nat_lt n 32768) h
  where
    by : (p q : Bool) →
        (if p then decimal m else codes "-" ++ decimal (65536 - m)) ++ u ≡ (if q then decimal n else codes "-" ++ decimal (65536 - n)) ++ v → (m ≡ n) × (u ≡ v)
    by true true h = number_told m n u v (omega (arith, f)) (omega (arith, g)) e k h
    by true false h = absurd (no_sign m u (decimal (65536 - n) ++ v) (omega (arith, f)) e h)
    by false true h = absurd (no_sign n v (decimal (65536 - m) ++ u) (omega (arith, g)) k (sym h))
    by false false h =
        let t = number_told (65536 - m) (65536 - n) u v (omega (arith, f)) (omega (arith, g)) e k (ap (drop 1) h) in
        (omega (arith, f, g, t.0), t.1)

test_of : (rel : Rel) (left right : Opnd) (p q : is_one_row rel left right ≡ true) →
    ◌≡◌ {A = Test} (record { rel = rel; left = left; right = right; is_one_row = p }) (record { rel = rel; left = left; right = right; is_one_row = q })
test_of rel left right p q =
    ap {A = is_one_row rel left right ≡ true} {B = Test} (λ row. record { rel = rel; left = left; right = right; is_one_row = row }) (Bool-set _ _ p q)

-- A test is its comparison and its operands.
same_test : (s t : Test) → s.rel ≡ t.rel → s.left ≡ t.left → s.right ≡ t.right → s ≡ t
same_test s t a b c =
    subst (λ rel. (q : is_one_row rel t.left t.right ≡ true) → ◌≡◌ {A = Test} s (record { rel = rel; left = t.left; right = t.right; is_one_row = q })) a
    (subst (λ left. (q : is_one_row s.rel left t.right ≡ true) → ◌≡◌ {A = Test} s (record { rel = s.rel; left = left; right = t.right; is_one_row = q })) b
    (subst (λ right. (q : is_one_row s.rel s.left right ≡ true) → ◌≡◌ {A = Test} s (record { rel = s.rel; left = s.left; right = right; is_one_row = q })) c
    (test_of s.rel s.left s.right s.is_one_row)))
    t.is_one_row

pub data Written : Type 0 where
  Three : (x y z : Opnd) → Written
  AndNumber : (x y : Opnd) → (n : ℕ) → Written
  AndSigned : (x y : Opnd) → (n : ℕ) → Written
  WithMemory : (x : Opnd) → (n : ℕ) → (y : Opnd) → Written
  Two : (x y : Opnd) → Written
  One : (x : Opnd) → Written
  WithSlot : (x : Opnd) → (n : ℕ) → Written
  Upper : (x : Opnd) → (n : ℕ) → Written
  Literal : (x : Opnd) → (label : ℕ) → Written
  Here : (m : ℕ) → Written
  Goes : (m : ℕ) → Written
  Tests : (test : Test) → (m : ℕ) → Written
  Number : (n : ℕ) → Written
  Nothing : Written

abbrev pub WrittenFits : Written → Type 0
WrittenFits (Three x y z) = OperandFits x × OperandFits y × OperandFits z
WrittenFits (AndNumber x y n) = OperandFits x × OperandFits y × IsWord n
WrittenFits (AndSigned x y n) = OperandFits x × OperandFits y × IsField n
WrittenFits (WithMemory x n y) = OperandFits x × IsField n × OperandFits y
WrittenFits (Two x y) = OperandFits x × OperandFits y
WrittenFits (One x) = OperandFits x
WrittenFits (WithSlot x n) = OperandFits x × IsWord n
WrittenFits (Upper x n) = OperandFits x × IsWord n
WrittenFits (Literal x label) = OperandFits x × IsWord label
WrittenFits (Here m) = IsWord m
WrittenFits (Goes m) = IsWord m
WrittenFits (Tests test m) = OperandFits test.left × OperandFits test.right × IsWord m
WrittenFits (Number n) = IsWord n
WrittenFits Nothing = Unit {0}

abbrev pub form : Written → ℕ
form (Three x y z) = 0
form (AndNumber x y n) = 1
form (AndSigned x y n) = 2
form (WithMemory x n y) = 3
form (Two x y) = 4
form (One x) = 5
form (WithSlot x n) = 6
form (Upper x n) = 7
form (Literal x label) = 8
form (Here m) = 9
form (Goes m) = 10
form (Tests test m) = 11
form (Number n) = 12
form Nothing = 13

module _ (names : List (List ℕ)) where
  abbrev o : Opnd → List ℕ
  o x = operand_text names x

  abbrev comma : List ℕ → List ℕ
  comma u = 44 ∷ 32 ∷ u

  abbrev pub written_then : Written → List ℕ → List ℕ
  written_then (Three x y z) u = o x ++ comma (o y ++ comma (o z ++ u))
  written_then (AndNumber x y n) u = o x ++ comma (o y ++ comma (decimal n ++ u))
  written_then (AndSigned x y n) u = o x ++ comma (o y ++ comma (signed_text n ++ u))
  written_then (WithMemory x n y) u = o x ++ comma (signed_text n ++ (40 ∷ (o y ++ (41 ∷ u))))
  written_then (Two x y) u = o x ++ comma (o y ++ u)
  written_then (One x) u = o x ++ u
  written_then (WithSlot x n) u = o x ++ comma (codes "slot " ++ (decimal n ++ u))
  written_then (Upper x n) u = o x ++ comma (decimal n ++ u)
  written_then (Literal x label) u = o x ++ comma (codes "s" ++ (decimal label ++ u))
  written_then (Here m) u = decimal m ++ (58 ∷ u)
  written_then (Goes m) u = 46 ∷ (decimal m ++ u)
  written_then (Tests test m) u = rel_word test.rel ++ (32 ∷ (o test.left ++ comma (o test.right ++ comma (46 ∷ (decimal m ++ u)))))
  written_then (Number n) u = decimal n ++ u
  written_then Nothing u = u

  told_operand : (x y : Opnd) (u v : List ℕ) → OperandFits x → OperandFits y → ends u ≡ true → ends v ≡ true → o x ++ u ≡ o y ++ v → (x ≡ y) × (u ≡ v)
  told_operand (Temp s) (Temp t) u v f g e k h =
      let name = λ (j : ℕ). name_text (slice_index_or names j []) in
      let n = temp_told name (λ j w. name_ends (slice_index_or names j []) w) s.0 t.0 u v f g e k
      (sym (append_assoc (decimal s.0) (name s.0) u) ∙ ap (drop 1) h ∙ append_assoc (decimal t.0) (name t.0) v) in
      (ap (λ j. Temp (record { 0 = j })) n.0, n.1)
  told_operand (Temp s) (Reg r) u v f g e k h = absurd (differ 116 36 refl (ap (byte 0) h ∙ register_dollar r v g))
  told_operand (Reg r) (Temp t) u v f g e k h = absurd (differ 36 116 refl (sym (register_dollar r u f) ∙ ap (byte 0) h))
  told_operand (Reg r) (Reg q) u v f g e k h = let n = register_told r q u v f g h in (ap Reg n.0, n.1)

  pub told_written : (a b : Written) (u v : List ℕ) → form a ≡ form b → WrittenFits a → WrittenFits b → ends u ≡ true → ends v ≡ true →
      written_then a u ≡ written_then b v → (a ≡ b) × (u ≡ v)
  told_written (Three x y z) (Three x' y' z') u v t f g e k h =
      let a = told_operand x x' (comma (o y ++ comma (o z ++ u))) (comma (o y' ++ comma (o z' ++ v))) f.0 g.0 refl refl h in
      let b = told_operand y y' (comma (o z ++ u)) (comma (o z' ++ v)) f.1 g.1 refl refl (ap (drop 2) a.1) in
      let c = told_operand z z' u v f.2 g.2 e k (ap (drop 2) b.1) in
      (λ i. Three (a.0 i) (b.0 i) (c.0 i), c.1)
  told_written (AndNumber x y n) (AndNumber x' y' n') u v t f g e k h =
      let a = told_operand x x' (comma (o y ++ comma (decimal n ++ u))) (comma (o y' ++ comma (decimal n' ++ v))) f.0 g.0 refl refl h in
      let b = told_operand y y' (comma (decimal n ++ u)) (comma (decimal n' ++ v)) f.1 g.1 refl refl (ap (drop 2) a.1) in
      let c = number_told n n' u v f.2 g.2 e k (ap (drop 2) b.1) in
      (λ i. AndNumber (a.0 i) (b.0 i) (c.0 i), c.1)
  told_written (AndSigned x y n) (AndSigned x' y' n') u v t f g e k h =
      let a = told_operand x x' (comma (o y ++ comma (signed_text n ++ u))) (comma (o y' ++ comma (signed_text n' ++ v))) f.0 g.0 refl refl h in
      let b = told_operand y y' (comma (signed_text n ++ u)) (comma (signed_text n' ++ v)) f.1 g.1 refl refl (ap (drop 2) a.1) in
      let c = signed_told n n' u v f.2 g.2 e k (ap (drop 2) b.1) in
      (λ i. AndSigned (a.0 i) (b.0 i) (c.0 i), c.1)
  told_written (WithMemory x n y) (WithMemory x' n' y') u v t f g e k h =
      let a = told_operand x x' (comma (signed_text n ++ (40 ∷ (o y ++ (41 ∷ u))))) (comma (signed_text n' ++ (40 ∷ (o y' ++ (41 ∷ v))))) f.0 g.0 refl refl h in
      let b = signed_told n n' (40 ∷ (o y ++ (41 ∷ u))) (40 ∷ (o y' ++ (41 ∷ v))) f.1 g.1 refl refl (ap (drop 2) a.1) in
      let c = told_operand y y' (41 ∷ u) (41 ∷ v) f.2 g.2 refl refl (ap (drop 1) b.1) in
      (λ i. WithMemory (a.0 i) (b.0 i) (c.0 i), ap (drop 1) c.1)
  told_written (Two x y) (Two x' y') u v t f g e k h =
      let a = told_operand x x' (comma (o y ++ u)) (comma (o y' ++ v)) f.0 g.0 refl refl h in
      let b = told_operand y y' u v f.1 g.1 e k (ap (drop 2) a.1) in
      (λ i. Two (a.0 i) (b.0 i), b.1)
  told_written (One x) (One x') u v t f g e k h =
      let a = told_operand x x' u v f g e k h in
      (ap One a.0, a.1)
  told_written (WithSlot x n) (WithSlot x' n') u v t f g e k h =
      let a = told_operand x x' (comma (codes "slot " ++ (decimal n ++ u))) (comma (codes "slot " ++ (decimal n' ++ v))) f.0 g.0 refl refl h in
      let b = number_told n n' u v f.1 g.1 e k (ap (drop 7) a.1) in
      (λ i. WithSlot (a.0 i) (b.0 i), b.1)
  told_written (Upper x n) (Upper x' n') u v t f g e k h =
      let a = told_operand x x' (comma (decimal n ++ u)) (comma (decimal n' ++ v)) f.0 g.0 refl refl h in
      let b = number_told n n' u v f.1 g.1 e k (ap (drop 2) a.1) in
      (λ i. Upper (a.0 i) (b.0 i), b.1)
  told_written (Literal x n) (Literal x' n') u v t f g e k h =
      let a = told_operand x x' (comma (codes "s" ++ (decimal n ++ u))) (comma (codes "s" ++ (decimal n' ++ v))) f.0 g.0 refl refl h in
      let b = number_told n n' u v f.1 g.1 e k (ap (drop 3) a.1) in
      (λ i. Literal (a.0 i) (b.0 i), b.1)
  told_written (Here m) (Here n) u v t f g e k h =
      let a = number_told m n (58 ∷ u) (58 ∷ v) f g refl refl h in
      (ap Here a.0, ap (drop 1) a.1)
  told_written (Goes m) (Goes n) u v t f g e k h =
      let a = number_told m n u v f g e k (ap (drop 1) h) in
      (ap Goes a.0, a.1)
  told_written (Tests s m) (Tests s' n) u v t f g e k h =
      let mark = comma (46 ∷ (decimal m ++ u)) in
      let other = comma (46 ∷ (decimal n ++ v)) in
      let r = rel_told_blank s.rel s'.rel (o s.left ++ comma (o s.right ++ mark)) (o s'.left ++ comma (o s'.right ++ other)) h in
      let a = told_operand s.left s'.left (comma (o s.right ++ mark)) (comma (o s'.right ++ other)) f.0 g.0 refl refl r.1 in
      let b = told_operand s.right s'.right mark other f.1 g.1 refl refl (ap (drop 2) a.1) in
      let c = number_told m n u v f.2 g.2 e k (ap (drop 3) b.1) in
      let test = same_test s s' r.0 a.0 b.0 in
      (λ i. Tests (test i) (c.0 i), c.1)
  told_written (Number m) (Number n) u v t f g e k h =
      let a = number_told m n u v f g e k h in
      (ap Number a.0, a.1)
  told_written Nothing Nothing u v t f g e k h = (refl, h)
  told_written a b u v t f g e k h = absurd (differ (form a) (form b) refl t)
