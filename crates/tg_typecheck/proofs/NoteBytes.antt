-- The bytes of the notes that typing gathers.
use Rattle.std.proofs.Common.{◌≡◌, ℕ, List, [], ◌∷◌, ◌++◌, sym, ap, ◌∙◌, subst}
use Rattle.std.specs.Prelude.{map, reverse}
use Rattle.std.proofs.lemmas.List.{map-append, reverse-append}
use Rattle.tg_typecheck.specs.declared.notes.Note.{Note}
use Rattle.tg_typecheck.specs.Checks.{Noted}
use Rattle.tg_typecheck.proofs.AmongBeginnings.{Some_of, skip, keep, AreMarks}

-- the bytes of the notes so far, the last first
abbrev pub marks : Noted → List ℕ
marks g = reverse (map (λ (n : Note). n.at) g.notes)

marked : (notes : List Note) (n : Note) → reverse (map (λ (m : Note). m.at) (notes ++ n ∷ [])) ≡ n.at ∷ reverse (map (λ (m : Note). m.at) notes)
marked notes n =
    ap (λ l. reverse l) (map-append (λ (m : Note). m.at) notes (n ∷ [])) ∙ reverse-append (map (λ (m : Note). m.at) notes) (n.at ∷ [])

pub note_marks : AreMarks marks
note_marks =
    record {
      noted = λ at m g {ys} s. subst (λ k. Some_of k (at ∷ ys)) (sym (marked g.notes (record { at = at; means = m }))) (keep at s);
      shaped = λ at shape g s. skip at s;
    }
