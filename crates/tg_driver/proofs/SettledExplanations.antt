-- What a text settles of the explanation of its fault.
use Rattle.std.proofs.Common.{ℕ, ◌≡◌, List, Bool, true, false, Option, Some, take, refl, sym, ap, subst, ◌∙◌}
use Rattle.std.specs.Prelude.{not, ◌&&◌}
use Rattle.tg_base.specs.Files.{Files, IsFilePrefix}
use Rattle.tg_command.specs.declared.flags.Flags.{Flags}
use Rattle.tg_command.specs.declared.modes.Mode.{Mode}
use Rattle.tg_command.specs.declared.modes.Mode.TheVariants.{Check, Build, Run, Exec, Alloc, Show, Gen, Format, Bare}
use Rattle.tg_command.specs.Flagged.{flags_fit}
use Rattle.tg_command.specs.Commands.{Asked}
use Rattle.tg_driver.specs.declared.answers.Answer.{Answer}
use Rattle.tg_driver.specs.declared.answers.Answer.TheVariants.{Faulty}
use Rattle.tg_driver.specs.Calls.{Call}
use Rattle.tg_driver.specs.Explained.{IsExplanation, ExplainsFile, IsExplained}
use Rattle.tg_driver.specs.laws.Laws.{ReadsFile, IsGood, SettlesExplanation}
use Rattle.tg_driver.specs.laws.OfTexts.{most_of}

-- the prefix of a file that the shelf holds
pub front_is : (files : Files) (name : List ℕ) (most : ℕ) (text file : List ℕ) (at : List ℕ → Option (List ℕ)) → files ≡ Some at →
    at name ≡ Some file → IsFilePrefix files name most text → text ≡ take most file
front_is files name most text file at tells holds front =
    let P : Files → Type 0 = λ f. IsFilePrefix f name most text in
    held at (subst P tells front) holds
  where
    held : (at : List ℕ → Option (List ℕ)) → IsFilePrefix (Some at) name most text → at name ≡ Some file → text ≡ take most file
    held at front holds = rw holds at front

-- a mode that takes no explanations has none asked for
last_of : (a b : Bool) → a && b ≡ true → b ≡ true
last_of true b h = h
last_of false b h = absurd (cc)

first_of : (a b : Bool) → a && b ≡ true → a ≡ true
first_of true b h = refl
first_of false b h = absurd (cc)

no_explanation : (f : Flags) (a b : Bool) → a && not f.explain && b ≡ true → f.explain ≡ true → ⊥
no_explanation f a b fit on =
    let off : not f.explain ≡ true = last_of a (not f.explain) (first_of (a && not f.explain) b fit) in
    let on_too : not f.explain ≡ false = ap not on in
    let same : false ≡ true = sym on_too ∙ off in
    absurd (cc)

-- what a text settles of the explanation of a good call's answer
pub settled_explanation : {H I O E : Type 0} (c : Call H I O E) (a : Asked) (file : List ℕ) (answer : Answer) (explanation : List ℕ) → IsGood c a file →
    IsExplained c.words c.shelf answer explanation → SettlesExplanation a (take (most_of a.mode) file) answer explanation
settled_explanation c a file (Faulty f) explanation good h =
    let here = h a good.ask in
    record { asked = λ on. in_mode a.mode refl on (here.asked on); unasked = here.unasked }
  where
    of_text : (text : List ℕ) → ReadsFile a.mode → IsFilePrefix (c.shelf.files c.shelf.before) a.file 262145 text → IsExplanation text f explanation →
        IsExplanation (take 262145 file) f explanation
    of_text text reads front explains =
        let there = good.there reads in
        let P : List ℕ → Type 0 = λ t. IsExplanation t f explanation in
        subst P (front_is _ a.file 262145 text file there.at there.tells there.holds front) explains

    read_in : (m : Mode) → a.mode ≡ m → ReadsFile m → ExplainsFile c.shelf a.file f explanation → IsExplanation (take 262145 file) f explanation
    read_in m is reads e = of_text e.text (subst ReadsFile (sym is) reads) e.is_front e.explains

    fits : (m : Mode) → a.mode ≡ m → flags_fit m a.flags ≡ true
    fits m is = subst (λ (x : Mode). flags_fit x a.flags ≡ true) is good.ask.flags.fit

    in_mode : (m : Mode) → a.mode ≡ m → a.flags.explain ≡ true → ExplainsFile c.shelf a.file f explanation →
        IsExplanation (take (most_of m) file) f explanation
    in_mode Check is on e = read_in Check is tt e
    in_mode Build is on e = read_in Build is tt e
    in_mode Run is on e = read_in Run is tt e
    in_mode Alloc is on e = read_in Alloc is tt e
    in_mode Show is on e = read_in Show is tt e
    in_mode Format is on e = read_in Format is tt e
    in_mode Bare is on e = read_in Bare is tt e
    in_mode Exec is on e = absurd (no_explanation a.flags _ _ (fits Exec is) on)
    in_mode Gen is on e = absurd (no_explanation a.flags _ _ (fits Gen is) on)
settled_explanation c a file _ explanation good h = h
