-- What the passes give is what the definition gives.
use Rattle.std.proofs.Common.{◌≡◌, ◌≤◌, ◌∙◌, ℕ, List, length, Ok, Err, Some, None, refl, sym}
use Rattle.tg_base.specs.declared.faulty.Faulty.{Faulty}
use Rattle.tg_base.specs.declared.faulty.Faulty.TheVariants as fault
use Rattle.tg_asm_text.specs.declared.keywords.AsmRule.{AsmRule}
use Rattle.tg_asm_text.specs.declared.keywords.AsmRule.TheVariants.{A9}
use Rattle.tg_asm_text.specs.Lines.{lines}
use Rattle.tg_asm_text.specs.Assembly.{Layout, Made, blank, unmade, layout, make, entry_point, last_line_number, assembled}
use Rattle.tg_asm.specs.glue.Layouts.{GivesLayout, IsLaidOut, IsSmall}
use Rattle.tg_asm.specs.Images.{GivesMade, GivesImage}
use Rattle.tg_asm.proofs.Alike.{make_alike, entry_alike}
use Rattle.tg_asm.proofs.Sizes.{made_even}

pub first_over : (text : List ℕ) (e : Faulty AsmRule ℕ) → GivesLayout (layout 1 blank (lines text)) (Err e) → GivesImage (assembled text) (Err e)
first_over text (fault.Bad rule line) h = rw h refl
first_over text fault.Memory h = tt

pub second_over : (text : List ℕ) (l : Layout) (e : Faulty AsmRule ℕ) → IsLaidOut (layout 1 blank (lines text)) l →
    GivesMade (make 1 l unmade (lines text)) (Err e) → GivesImage (assembled text) (Err e)
second_over text l (fault.Bad rule line) i h =
    let g = i.same in
    let k = make_alike i.laid l i.alike 1 unmade (lines text) ∙ h in
    rw g (rw k refl)
second_over text l fault.Memory i h = tt

pub no_main : (text : List ℕ) (l : Layout) (m : Made) (n : ℕ) → IsLaidOut (layout 1 blank (lines text)) l →
    make 1 l unmade (lines text) ≡ Ok m → None ≡ entry_point l → n ≡ last_line_number text → assembled text ≡ Err (record { rule = A9; line = n })
no_main text l m n i h e k =
    let g = i.same in
    let made = make_alike i.laid l i.alike 1 unmade (lines text) ∙ h in
    let none = entry_alike i.laid l i.alike ∙ sym e in
    rw g (rw made (rw none (rw (← k) refl)))

pub whole : (text : List ℕ) (l : Layout) (m : Made) (p : ℕ) → IsLaidOut (layout 1 blank (lines text)) l →
    make 1 l unmade (lines text) ≡ Ok m → Some p ≡ entry_point l → assembled text ≡ Ok (record { code = m.code; statics = m.statics; entry = p })
whole text l m p i h e =
    let g = i.same in
    let made = make_alike i.laid l i.alike 1 unmade (lines text) ∙ h in
    let place = entry_alike i.laid l i.alike ∙ sym e in
    rw g (rw made (rw place refl))

pub few_words : (text : List ℕ) (l : Layout) (m : Made) → IsLaidOut (layout 1 blank (lines text)) l → make 1 l unmade (lines text) ≡ Ok m →
    IsSmall l → length m.code ≤ 66060288
few_words text l m i h s =
    let made = make_alike i.laid l i.alike 1 unmade (lines text) ∙ h in
    let words = (made_even text i.laid m i.same made).words ∙ i.alike.words in
    rw words s.0

pub few_bytes : (text : List ℕ) (l : Layout) (m : Made) → IsLaidOut (layout 1 blank (lines text)) l → make 1 l unmade (lines text) ≡ Ok m →
    IsSmall l → length m.statics ≤ 16711680
few_bytes text l m i h s =
    let made = make_alike i.laid l i.alike 1 unmade (lines text) ∙ h in
    let size = (made_even text i.laid m i.same made).size ∙ i.alike.size in
    rw size s.1
