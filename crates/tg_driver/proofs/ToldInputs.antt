-- The bytes on which a call of a loaded machine ran: those that its source tells, or those that it read where the source tells none.
use Rattle.std.proofs.Common.{ℕ, ◌≡◌, List, [], ◌++◌, Bool, true, false, Option, Some, None, refl, sym, ap, subst, ◌∙◌, append-nil}
use Rattle.std.specs.Io.KnownBytes.{Consumes, IsAtEnd}
use Rattle.tg_simulation.specs.Bytes.{AreBytes}
use Rattle.tg_machine.specs.Ran.{MayFollow, MeetsEnd}
use Rattle.tg_machine.specs.Fetches.{rest_after}
use Rattle.tg_machine.proofs.Fetching.{may_rest}
use Rattle.tg_machine.proofs.Reached.{none_follows}
use Rattle.tg_driver.specs.laws.Settled.{Tells}

at_end : {I : Type 0} (told : I → Option (List ℕ)) (ended : Bool) (read : List ℕ) (input input' : I) → MeetsEnd told false ended read input input' →
    ended ≡ true → IsAtEnd (told input')
at_end told true read input input' h is = h
at_end told false read input input' h is = cc is

-- a source that told its bytes lost what was read, and tells the rest
pub record Lost (told' : Option (List ℕ)) (ended : Bool) (read bytes : List ℕ) : Type 0 where
  pub whole : read ++ rest_after ended told' ≡ bytes
  pub left : told' ≡ Some (rest_after ended told')

lost_by : (a b : Option (List ℕ)) (ended : Bool) (read bytes : List ℕ) → Consumes a b read → (ended ≡ true → IsAtEnd b) → a ≡ Some bytes →
    Lost b ended read bytes
lost_by None b ended read bytes c end is = cc is
lost_by (Some x) None ended read bytes c end is = absurd c
lost_by (Some x) (Some y) true read bytes c end is =
    let same : x ≡ bytes = cc is in
    record { whole = ap (λ l. read ++ l) (sym (end refl)) ∙ sym c ∙ same; left = ap Some (end refl) }
lost_by (Some x) (Some y) false read bytes c end is =
    let same : x ≡ bytes = cc is in
    record { whole = sym c ∙ same; left = refl }

pub lost : {I : Type 0} (told : I → Option (List ℕ)) (ended : Bool) (read bytes : List ℕ) (input input' : I) →
    Consumes (told input) (told input') read → MeetsEnd told false ended read input input' → told input ≡ Some bytes → Lost (told input') ended read bytes
lost told ended read bytes input input' c h is = lost_by (told input) (told input') ended read bytes c (at_end told ended read input input' h) is

-- how a run stopped, on the bytes of its input
pub record OnInput (told : Option (List ℕ)) (read : List ℕ) (StopsOn : (bytes left : List ℕ) → Type 0) : Type 0 where
  pub bytes : List ℕ
  pub left : List ℕ
  pub tells : Tells told bytes
  pub whole : bytes ≡ read ++ left
  pub stops : StopsOn bytes left

pub on_input : {I : Type 0} (told : I → Option (List ℕ)) (ended : Bool) (read : List ℕ) (StopsOn : (bytes left : List ℕ) → Type 0) (input input' : I) →
    ((rest : List ℕ) → MayFollow ended rest → StopsOn (read ++ rest) rest) →
    AreBytes read → Consumes (told input) (told input') read → MeetsEnd told false ended read input input' → OnInput (told input) read StopsOn
on_input told ended read StopsOn input input' stops are c h = by (told input) refl
  where
    by : (o : Option (List ℕ)) → told input ≡ o → OnInput o read StopsOn
    by None is = record {
      bytes = read ++ [];
      left = [];
      tells = subst AreBytes (sym (append-nil read)) are;
      whole = refl;
      stops = stops [] (none_follows ended);
    }
    by (Some bytes) is = record {
      bytes = read ++ rest_after ended (told input');
      left = rest_after ended (told input');
      tells = (lost told ended read bytes input input' c h is).whole;
      whole = refl;
      stops = stops (rest_after ended (told input')) (may_rest ended (told input'));
    }
