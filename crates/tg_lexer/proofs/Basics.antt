-- Prefixes of lists, and runs of bytes of a class.
use Rattle.std.proofs.Common.{ℕ, zero, suc, ◌+◌, ◌≡◌, ◌≤◌, ◌<◌, ◌⊎◌, inl, inr, List, [], ◌∷◌, ◌++◌, length, Bool, true, false, take, drop, get_or}
use Rattle.std.proofs.Common.{refl, sym, ap, subst, ◌∙◌, arith}
use Rattle.std.specs.Prelude.{◌==◌}
use Rattle.std.proofs.lemmas.Bool.{eq-eqb}
use Rattle.std.proofs.lemmas.List.{take_more, drop_more, drop_all, take_all, take_at, drop_at, drop-drop}
use Rattle.tg_syntax.specs.Spellings.{AllAre}
use Rattle.tg_lexer.specs.glue.Lexemes.{IsStretch}

pub clash : {b : Bool} → b ≡ false → b ≡ true → ⊥
clash x y = cc

pub head_is : {a b : ℕ} {xs ys : List ℕ} → a ∷ xs ≡ b ∷ ys → a ≡ b
head_is e = cc

pub tail_is : {a b : ℕ} {xs ys : List ℕ} → a ∷ xs ≡ b ∷ ys → xs ≡ ys
tail_is e = cc

pub not_cons : {b : ℕ} {xs : List ℕ} → [] ≡ b ∷ xs → ⊥
not_cons e = cc

pub differ : (a b : ℕ) → (a == b) ≡ false → a ≡ b → ⊥
differ a b h e = clash h (eq-eqb a b e)

-- a class of bytes holds one of them alone
pub apart : (class : ℕ → Bool) (a b : ℕ) → class a ≡ false → class b ≡ true → a ≡ b → ⊥
apart class a b x y e = clash x (ap class e ∙ y)

pub AllAre-append : (class : ℕ → Bool) (xs ys : List ℕ) → AllAre class xs → AllAre class ys → AllAre class (xs ++ ys)
AllAre-append class [] ys a b = b
AllAre-append class (x ∷ xs) ys a b = (a.0, AllAre-append class xs ys a.1 b)

pub AllAre_left : (class : ℕ → Bool) (xs ys : List ℕ) → AllAre class (xs ++ ys) → AllAre class xs
AllAre_left class [] ys a = tt
AllAre_left class (x ∷ xs) ys a = (a.0, AllAre_left class xs ys a.1)

pub AllAre_right : (class : ℕ → Bool) (xs ys : List ℕ) → AllAre class (xs ++ ys) → AllAre class ys
AllAre_right class [] ys a = a
AllAre_right class (x ∷ xs) ys a = AllAre_right class xs ys a.1

-- Two prefixes of one list: one of them goes on.
pub record GoesOn (short long rest after : List ℕ) : Type 0 where
  pub more : List ℕ
  pub long_is : long ≡ short ++ more
  pub rest_is : rest ≡ more ++ after

pub two_fronts : (a b c d : List ℕ) → a ++ b ≡ c ++ d → GoesOn a c b d ⊎ GoesOn c a d b
two_fronts [] b c d e = inl (record { more = c; long_is = refl; rest_is = e })
two_fronts (x ∷ a) b [] d e = inr (record { more = x ∷ a; long_is = refl; rest_is = sym e })
two_fronts (x ∷ a) b (y ∷ c) d e = longer (two_fronts a b c d cc)
  where
    longer : GoesOn a c b d ⊎ GoesOn c a d b → GoesOn (x ∷ a) (y ∷ c) b d ⊎ GoesOn (y ∷ c) (x ∷ a) d b
    longer (inl h) = inl (record { more = h.more; long_is = let f = h.long_is in cc; rest_is = h.rest_is })
    longer (inr h) = inr (record { more = h.more; long_is = let f = h.long_is in cc; rest_is = h.rest_is })

-- a piece of a list that stands at a place
pub drop_piece : (at : ℕ) (text piece rest : List ℕ) → drop at text ≡ piece ++ rest → drop (at + length piece) text ≡ rest
drop_piece at text piece rest e = sym (drop-drop (length piece) at text) ∙ ap (drop (length piece)) e ∙ drop_at piece rest (length piece) refl

take_nil : (n : ℕ) → take {A = ℕ} n [] ≡ []
take_nil zero = refl
take_nil (suc n) = refl

pub take_piece : (at : ℕ) (text piece rest : List ℕ) → drop at text ≡ piece ++ rest → take (at + length piece) text ≡ take at text ++ piece
take_piece zero text piece rest e = rw (e, omega_zero (length piece)) (take_at piece rest (length piece) refl)
  where
    omega_zero : (n : ℕ) → 0 + n ≡ n
    omega_zero n = omega arith
take_piece (suc at) [] [] rest e = take_nil (suc at + 0)
take_piece (suc at) [] (x ∷ piece) rest e = cc
take_piece (suc at) (b ∷ text) piece rest e =
    let n : suc at + length piece ≡ suc (at + length piece) = omega arith in
    rw n (ap (λ l. b ∷ l) (take_piece at text piece rest e))

pub within_piece : (at : ℕ) (text piece rest : List ℕ) → at ≤ length text → drop at text ≡ piece ++ rest → at + length piece ≤ length text
within_piece zero text piece rest le e = rw e (by piece rest)
  where
    by : (piece rest : List ℕ) → 0 + length piece ≤ length (piece ++ rest)
    by [] rest = omega arith
    by (x ∷ piece) rest = omega (arith, by piece rest)
within_piece (suc at) [] piece rest le e = absurd (omega arith)
within_piece (suc at) (b ∷ text) piece rest le e = let k : at ≤ length text = omega arith in omega (arith, within_piece at text piece rest k e)

-- runs
pub run_more : (class : ℕ → Bool) (text : List ℕ) (size : ℕ) → size < length text → AllAre class (take size text) →
    class (get_or text size 0) ≡ true → AllAre class (take (size + 1) text)
run_more class text size lt a h = rw (take_more text size 0 lt) (AllAre-append class (take size text) (get_or text size 0 ∷ []) a (h, tt))

pub run_stops : (class : ℕ → Bool) (text : List ℕ) (size : ℕ) → size < length text → AllAre class (take size text) →
    class (get_or text size 0) ≡ false → IsStretch class text size
run_stops class text size lt a h =
    record {
      within = omega arith;
      all = a;
      stops = λ b after e. let same : get_or text size 0 ≡ b = cc (drop_more text size 0 lt) in rw same at h;
    }

pub run_ends : (class : ℕ → Bool) (text : List ℕ) (size : ℕ) → length text ≤ size → AllAre class (take size text) → IsStretch class text (length text)
run_ends class text size le a =
    record {
      within = omega arith;
      all = let w : take size text ≡ take (length text) text = take_all size text le ∙ sym (take_all (length text) text (omega arith)) in
          subst (AllAre class) w a;
      stops = λ b after e. cc (drop_all (length text) text (omega arith));
    }
