-- A text whose lines are read without a fault is the image of its readings.
use Rattle.std.specs.Prelude.{codes, nat_lt}
use Rattle.std.proofs.Common.{◌≡◌, ◌<◌, ◌≤◌, ℕ, true, List, [], length, Option, Some, None, Ok, sym, ap, subst, ◌∙◌, arith, lt-ltb}
use Rattle.tg_machine_state.specs.State.{most_words}
use Rattle.tg_asm_text.specs.declared.keywords.Segment.TheVariants.{Code}
use Rattle.tg_asm_text.specs.Lines.{lines}
use Rattle.tg_asm_text.specs.Assembly.{Reading, LabelTarget, InCode, InStatics, Layout, blank, spot_of, target_address, entry_at, entry_point, unmade, make}
use Rattle.tg_asm_text.specs.Assembly.{layout, enter, finish, fill_in, assembled}
use Rattle.tg_asm_text.specs.Placement.{AtWord, address_at, Reads, code_in, last_byte, Positions, positions, position_of, found_address, placed_words}
use Rattle.tg_asm_text.specs.Placement.{placed_bytes, image_of, JumpReaches, WordsReach, IsSound}
use Rattle.tg_asm_text.specs.laws.Laws.{ReadingsHaveImage}
use Rattle.tg_asm_text.proofs.FirstPass.{segment_end, laid, starts_from, spots_from, lays}
use Rattle.tg_asm_text.proofs.LabelTables.{found_so, found_resolved, resolves, Knows, is_within}
use Rattle.tg_asm_text.proofs.SecondPass.{makes}

known : (rs : List Reading) → IsSound rs → Knows (laid blank rs) (positions rs)
known rs s = record {
  spots = λ name. ap (λ ps. position_of ps name) (sym (resolves rs Code 0 [] 0)) ∙ found_resolved (starts_from 0 rs)
      (last_byte 0 rs) (spots_from Code 0 0 rs) name;
  within = λ name p e. is_within rs name p s.code_fits s.statics_fit e;
}

entered : (l : Layout) (ps : Positions) → Knows l ps → JumpReaches l.words (position_of ps (codes "main")) →
    entry_point l ≡ Some (found_address (position_of ps (codes "main")))
entered l ps k h = by (spot_of l (codes "main")) (k.spots (codes "main"))
  where
    by : (o : Option LabelTarget) → position_of ps (codes "main") ≡ found_so l.starts l.size o → entry_at l o ≡
        Some (found_address (position_of ps (codes "main")))
    by (Some (InCode i)) e =
        let r : i < l.words = subst (JumpReaches l.words) e h in
        let t : nat_lt i l.words ≡ true = lt-ltb i l.words r in
        let w : i ≤ most_words = k.within (codes "main") (AtWord i) e in
        let a : target_address l (InCode i) ≡ address_at (AtWord i) = omega (arith, w) in
        rw t (ap Some a ∙ ap (λ o. Some (found_address o)) (sym e))
    by (Some (InStatics i)) e = absurd (subst (JumpReaches l.words) e h)
    by None e = absurd (subst (JumpReaches l.words) e h)

-- the image of a text is the image of its readings
pub assembled_so : (text : List ℕ) (rs : List Reading) → Reads Code (lines text) rs → IsSound rs → assembled text ≡ Ok (image_of rs)
assembled_so text rs h s =
    let l = laid blank rs in
    let ps = positions rs in
    let z : l.words ≡ length (code_in rs) = omega arith in
    let k = known rs s in
    let first : layout 1 blank (lines text) ≡ Ok l = lays 1 (lines text) blank rs h s.labels_differ (let f = s.code_fits in omega (arith, f)) s.statics_fit in
    let second : make 1 l unmade (lines text) ≡ Ok (record { segment = segment_end Code rs; code = placed_words ps 0 (code_in rs); statics = placed_bytes ps 0 rs }) =
    makes 1 l ps (lines text) unmade rs k h (subst (λ n. WordsReach ps n 0 (code_in rs)) (sym z) s.words_reach) s.items_stand in
    ap (fill_in text) first
    ∙ ap (finish text l) second
    ∙ ap (enter text (record { segment = segment_end Code rs; code = placed_words ps 0 (code_in rs); statics = placed_bytes ps 0 rs }))
    (entered l ps k (subst (λ n. JumpReaches n (position_of ps (codes "main"))) (sym z) s.main_stands))

pub readings_have_image : ReadingsHaveImage
readings_have_image text rs h = assembled_so text rs h.reads h.sound
