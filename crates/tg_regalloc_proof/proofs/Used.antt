-- What is live is used: so it is below the number of temporaries, and no register that the code doesn't use.
use Rattle.std.proofs.Common.{ℕ, zero, suc, ◌≡◌, ◌==◌, Bool, true, false, not, List, [], ◌∷◌, ◌++◌, map, refl, sym, ap, ◌∙◌}
use Rattle.std.proofs.Common.{Option, Some, None, true≢false}
use Rattle.std.specs.Prelude.{slice_index_or}
use Rattle.std.specs.List.{list_all, AllByRecursion}
use Rattle.std.proofs.lemmas.Bool.{eqb-true, and_parts, and_from, ltb-true}
use Rattle.tg_instr.specs.declared.operands.Opnd.{Opnd}
use Rattle.tg_instr.specs.declared.operands.Opnd.TheVariants.{Temp, Reg}
use Rattle.tg_instr.specs.declared.instr.Instr.{Instr}
use Rattle.tg_instr.specs.declared.instr.Instr.TheVariants.{Branch, Call, Service, Return}
use Rattle.tg_instr.specs.Operands.{is_same, registers}
use Rattle.tg_instr.specs.Uses.{arguments, given_back, uses_of}
use Rattle.tg_instr.specs.Codes.{is_below, has_temps_below, has_register, names_registers}
use Rattle.tg_instr.specs.Renaming.{named}
use Rattle.tg_live.specs.Live.{uses_at, IsLiveOut}
use Rattle.tg_live.proofs.Reach.{used_along}
use Rattle.tg_live.proofs.Numbers.{among_all}
use Rattle.tg_regalloc_proof.specs.laws.Replaced.{living}
use Rattle.tg_regalloc.specs.Conditions.{is_fixed}
use Rattle.tg_regalloc.specs.glue.Below.{is_option_below}
use Rattle.tg_regalloc.proofs.Naming.{to_below, first_below, second_below}
use Rattle.tg_regalloc.proofs.Renamed.{here}
use Rattle.tg_regalloc_proof.proofs.Named.{IsLow}
use Rattle.tg_regalloc_proof.proofs.InFrame.{NamesLow}

-- a test that all operands pass which an instruction of the code uses
abbrev all_pass : (Opnd → Bool) → List Instr → Bool
all_pass p all = list_all (λ one. list_all p (uses_of one)) all

used_pass : (p : Opnd → Bool) (all : List Instr) (at : ℕ) → all_pass p all ≡ true →
    list_all p (slice_index_or (map uses_of all) at []) ≡ true
used_pass p [] zero h = refl
used_pass p [] (suc at) h = refl
used_pass p (one ∷ rest) zero h = (and_parts _ _ h).0
used_pass p (one ∷ rest) (suc at) h = used_pass p rest at (and_parts (list_all p (uses_of one)) _ h).1

pub live_passes : (p : Opnd → Bool) (all : List Instr) → all_pass p all ≡ true → (rest : List Instr) (x : Opnd) → living all rest x →
    p x ≡ true
live_passes p all h rest x l =
    let u = used_along all x l.0 _ l.1 in
    among_all p x (uses_at all u.0) (used_pass p all u.0 h) u.1

module _ (p q : Instr → Bool) (f : (one : Instr) → p one ≡ true → q one ≡ true) where
  all_weaker : (list : List Instr) → list_all p list ≡ true → list_all q list ≡ true
  all_weaker [] h = refl
  all_weaker (one ∷ rest) h =
      let k = and_parts (p one) (list_all p rest) h in
      and_from _ _ (f one k.0) (all_weaker rest k.1)

pub low_of : (n : ℕ) (x : Opnd) → is_below n x ≡ true → IsLow n x
low_of n (Temp t) h = ltb-true t.0 n h
low_of n (Reg r) h = tt

-- what is live is below the number of temporaries
pub live_is_low : (n : ℕ) (all : List Instr) → list_all (has_temps_below n) all ≡ true → (rest : List Instr) (x : Opnd) →
    living all rest x → IsLow n x
live_is_low n all h rest x l =
    low_of n x (live_passes (is_below n) all
    (all_weaker (has_temps_below n) (λ one. list_all (is_below n) (uses_of one)) (λ one k. (and_parts _ _ k).0) all h) rest x l)

-- and what is live out of an instruction
pub live_out_below : (n : ℕ) (all : List Instr) → list_all (has_temps_below n) all ≡ true → (at : ℕ) (x : Opnd) → IsLiveOut all at x →
    is_below n x ≡ true
live_out_below n all h at x l =
    let u = used_along all x l.path l.next l.leads in
    among_all (is_below n) x (uses_at all u.0)
    (used_pass (is_below n) all u.0
    (all_weaker (has_temps_below n) (λ one. list_all (is_below n) (uses_of one)) (λ one k. (and_parts _ _ k).0) all h)) u.1

-- What an instruction uses it names, but for calls, services and returns.
uses_pass : (p : Opnd → Bool) (one : Instr) → list_all p (registers arguments) ≡ true → list_all p (registers (2 ∷ 4 ∷ [])) ≡ true →
    list_all p (registers (2 ∷ given_back)) ≡ true → list_all p (here (named one).first ++ here (named one).second) ≡ true →
    list_all p (uses_of one) ≡ true
uses_pass p (Call label) c a r h = c
uses_pass p Service c a r h = a
uses_pass p Return c a r h = r
uses_pass p (Branch test m) c a r h = h
uses_pass p _ c a r h = h

-- a register that code doesn't name before allocation
module _ (q : ℕ) (other : is_fixed q ≡ false) where
  abbrev is_other : Opnd → Bool
  is_other x = not (is_same x (Reg q))

  differs : (r : ℕ) → is_fixed r ≡ true → not (r == q) ≡ true
  differs r h = by (r == q) refl
    where
      by : (b : Bool) → (r == q) ≡ b → not b ≡ true
      by true e = let same : r ≡ q = eqb-true r q e in absurd (true≢false (sym h ∙ (ap is_fixed same ∙ other)))
      by false e = refl

  here_other : (op : Option Opnd) (xs : List Opnd) → has_register is_fixed op ≡ true → list_all is_other xs ≡ true →
      list_all is_other (here op ++ xs) ≡ true
  here_other None xs h k = k
  here_other (Some (Temp t)) xs h k = k
  here_other (Some (Reg r)) xs h k = and_from _ _ (differs r h) k

  here_alone : (op : Option Opnd) → has_register is_fixed op ≡ true → list_all is_other (here op) ≡ true
  here_alone None h = refl
  here_alone (Some (Temp t)) h = refl
  here_alone (Some (Reg r)) h = and_from _ _ (differs r h) refl

  not_true : (b : Bool) → not b ≡ true → b ≡ false
  not_true true e = absurd (true≢false (sym e))
  not_true false e = refl

  pub never_live : list_all is_other (registers arguments) ≡ true → list_all is_other (registers (2 ∷ 4 ∷ [])) ≡ true →
      list_all is_other (registers (2 ∷ given_back)) ≡ true → (all : List Instr) → list_all (names_registers is_fixed) all ≡ true →
      (rest : List Instr) (x : Opnd) → living all rest x → is_same x (Reg q) ≡ false
  never_live c a r all h rest x l =
      not_true (is_same x (Reg q)) (live_passes is_other all
      (all_weaker (names_registers is_fixed) (λ one. list_all is_other (uses_of one)) one_passes all h) rest x l)
    where
      one_passes : (one : Instr) → names_registers is_fixed one ≡ true → list_all is_other (uses_of one) ≡ true
      one_passes one k =
          let n = (and_parts (has_register is_fixed (named one).to) _ k).1 in
          let m = and_parts (has_register is_fixed (named one).first) _ n in
          uses_pass is_other one c a r (here_other (named one).first (here (named one).second) m.0 (here_alone (named one).second m.1))

-- What the code names is below the number of temporaries.
pub names_low : (base n : ℕ) (all : List Instr) → list_all (has_temps_below n) all ≡ true → AllByRecursion (NamesLow base n) all
names_low base n [] h = tt
names_low base n (one ∷ rest) h =
    let k = and_parts (has_temps_below n one) _ h in (
      record {
        to = λ o e. low_of n o (option_low (named one).to o (to_below n one k.0) e);
        first = λ o e. low_of n o (option_low (named one).first o (first_below n one k.0) e);
        second = λ o e. low_of n o (option_low (named one).second o (second_below n one k.0) e);
      },
      names_low base n rest k.1,
    )
  where
    option_low : (op : Option Opnd) (o : Opnd) → is_option_below n op ≡ true → op ≡ Some o → is_below n o ≡ true
    option_low op o h e = ap (is_option_below n) (sym e) ∙ h
