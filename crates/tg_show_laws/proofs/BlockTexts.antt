-- The text of blocks tells them.
use Rattle.std.proofs.Common.{ℕ, suc, ◌≡◌, List, [], ◌∷◌, ◌++◌, drop, true, false, refl, sym, ap, ◌∙◌, append_assoc}
use Rattle.std.specs.Prelude.{◌==◌, codes}
use Rattle.std.specs.Fmt.{decimal}
use Rattle.tg_tree.specs.declared.operators.Rel.{Rel}
use Rattle.tg_tree.specs.Tree.{Tx, Stms, no_stms, stm}
use Rattle.tg_trace_schedule.specs.Block.{BlockEnd, Jump, Branch, Fault, Return, Block}
use Rattle.tg_trace_schedule.specs.Shapes.{AreFlatStatements, AreFlatBlocks}
use Rattle.tg_show.specs.Words.{rel_word}
use Rattle.tg_show.specs.Layout.{laid}
use Rattle.tg_show.specs.Trees.{two, tx_text}
use Rattle.tg_show.specs.Flat.{statement_lines, mark_text, branch_front}
use Rattle.tg_show.specs.Blocks.{end_text, blocks_lines}
use Rattle.tg_show_laws.specs.Fitting.{HaveNoCommas, NumbersFitStms}
use Rattle.tg_show_laws.specs.Blocks.{NumbersFitEnd, NumbersFitBlocks}
use Rattle.tg_show_laws.specs.laws.Laws.{BlocksAreTold}
use Rattle.tg_show_laws.proofs.Solid.{solid, solid_append, solid_laid, spaced, spaced_append}
use Rattle.tg_show_laws.proofs.Numbers.{ends}
use Rattle.tg_show_laws.proofs.OperatorWords.{rel_told}
use Rattle.tg_show_laws.proofs.Dense.{tx_then, solid_tx, solid_rel}
use Rattle.tg_show_laws.proofs.DenseNumbers.{dense_number}
use Rattle.tg_show_laws.proofs.Spacing.{spaced_decimal, spaced_tx, spaced_two, spaced_parens}
use Rattle.tg_show_laws.proofs.Trees.{byte, differ, begins, told_tx, told_ts}
use Rattle.tg_show_laws.proofs.Codes.{mark_then, statements_then, statements_dense, spaced_front, letter, flat_letter}

-- what may stand behind a block's statements, and behind its end
record Follows (u : List ℕ) : Type 0 where
  ended : ends u ≡ true
  other : (letter (byte 0 u) == 0) ≡ false

between_solid : (number part u : List ℕ) → solid ((number ++ (codes ", " ++ part)) ++ codes ")") ++ u ≡ solid number ++ (44 ∷ (solid part ++ (41 ∷ u)))
between_solid number part u = simp (solid_append, append_assoc)

targets_solid : (front p q u : List ℕ) →
    solid (two front (two (46 ∷ p) (46 ∷ q) ++ codes ")")) ++ u ≡ solid front ++ (44 ∷ 46 ∷ (solid p ++ (44 ∷ 46 ∷ (solid q ++ (41 ∷ u)))))
targets_solid front p q u =
    ap (λ x. x ++ u) (solid_append front (codes ", " ++ (two (46 ∷ p) (46 ∷ q) ++ codes ")")))
    ∙ append_assoc (solid front) (44 ∷ 46 ∷ solid ((p ++ (codes ", " ++ (46 ∷ q))) ++ codes ")")) u
    ∙ ap (λ x. solid front ++ (44 ∷ 46 ∷ x)) (between_solid p (46 ∷ q) u)

module _ (names : List (List ℕ)) (plain : HaveNoCommas names) where
  abbrev end_then : BlockEnd → List ℕ → List ℕ
  end_then (Jump p) u = codes "JUMP" ++ mark_then p u
  end_then (Branch rel x y p q) u =
      codes "CJUMP(" ++ (rel_word rel ++ (44 ∷ tx_then names x (44 ∷ tx_then names y (44 ∷ mark_then p (44 ∷ mark_then q (41 ∷ u))))))
  end_then (Fault n) u = codes "FAULT" ++ (solid (decimal n) ++ u)
  end_then (Return x) u = codes "RETURN(" ++ tx_then names x (41 ∷ u)

  end_spaced : (e : BlockEnd) → NumbersFitEnd e → spaced (end_text names e) ≡ true
  end_spaced (Jump p) f = spaced_decimal p f
  end_spaced (Branch rel x y p q) f =
      spaced_two (branch_front names rel x y) (two (mark_text p) (mark_text q) ++ codes ")") (spaced_front names plain rel x y f.0 f.1)
      (spaced_append (two (mark_text p) (mark_text q)) (codes ")") (spaced_two (mark_text p) (mark_text q) (spaced_decimal p f.2) (spaced_decimal q f.3)) refl)
  end_spaced (Fault n) f = spaced_decimal n f
  end_spaced (Return x) f = spaced_parens (tx_text names x) (spaced_tx names plain x f)

  front_solid : (rel : Rel) (x y : Tx) (u : List ℕ) →
      solid (branch_front names rel x y) ++ u ≡ codes "CJUMP(" ++ (rel_word rel ++ (44 ∷ tx_then names x (44 ∷ tx_then names y u)))
  front_solid rel x y u = simp (solid_append, append_assoc) (simp (solid_rel, solid_tx names x, solid_tx names y))

  end_solid : (e : BlockEnd) (u : List ℕ) → solid (end_text names e) ++ u ≡ end_then e u
  end_solid (Jump p) u = refl
  end_solid (Branch rel x y p q) u =
      targets_solid (branch_front names rel x y) (decimal p) (decimal q) u ∙ front_solid rel x y (44 ∷ mark_then p (44 ∷ mark_then q (41 ∷ u)))
  end_solid (Fault n) u = refl
  end_solid (Return x) u = simp (solid_append, append_assoc) (simp (solid_tx names x))

  told_end : (d e : BlockEnd) (u v : List ℕ) → NumbersFitEnd d → NumbersFitEnd e → ends u ≡ true → ends v ≡ true →
      end_then d u ≡ end_then e v → (d ≡ e) × (u ≡ v)
  told_end (Jump p) (Jump q) u v f g e k h = let a = dense_number p q u v f g e k (ap (drop 5) h) in (ap Jump a.0, a.1)
  told_end (Branch r x y p q) (Branch r' x' y' p' q') u v f g e k h =
      let rest = mark_then p (44 ∷ mark_then q (41 ∷ u)) in
      let others = mark_then p' (44 ∷ mark_then q' (41 ∷ v)) in
      let o = rel_told r r' (tx_then names x (44 ∷ tx_then names y (44 ∷ rest))) (tx_then names x' (44 ∷ tx_then names y' (44 ∷ others))) (ap (drop 6) h) in
      let a = told_tx names x x' (44 ∷ tx_then names y (44 ∷ rest)) (44 ∷ tx_then names y' (44 ∷ others)) f.0 g.0 refl refl o.1 in
      let b = told_tx names y y' (44 ∷ rest) (44 ∷ others) f.1 g.1 refl refl (ap (drop 1) a.1) in
      let c = dense_number p p' (44 ∷ mark_then q (41 ∷ u)) (44 ∷ mark_then q' (41 ∷ v)) f.2 g.2 refl refl (ap (drop 2) b.1) in
      let d = dense_number q q' (41 ∷ u) (41 ∷ v) f.3 g.3 refl refl (ap (drop 2) c.1) in
      (λ i. Branch (o.0 i) (a.0 i) (b.0 i) (c.0 i) (d.0 i), ap (drop 1) d.1)
  told_end (Fault m) (Fault n) u v f g e k h = let a = dense_number m n u v f g e k (ap (drop 5) h) in (ap Fault a.0, a.1)
  told_end (Return x) (Return y) u v f g e k h =
      let a = told_tx names x y (41 ∷ u) (41 ∷ v) f g refl refl (ap (drop 7) h) in (ap Return a.0, ap (drop 1) a.1)
  told_end d c u v f g e k h = absurd (differ (byte 0 (end_then d u)) (byte 0 (end_then c v)) refl (ap (byte 0) h))

  end_follows : (e : BlockEnd) (u : List ℕ) → Follows (end_then e u)
  end_follows (Jump p) u = record { ended = refl; other = refl }
  end_follows (Branch rel x y p q) u = record { ended = refl; other = refl }
  end_follows (Fault n) u = record { ended = refl; other = refl }
  end_follows (Return x) u = record { ended = refl; other = refl }

  statements_end : (ss : Stms) (u : List ℕ) → ends u ≡ true → ends (statements_then names plain ss u) ≡ true
  statements_end no_stms u e = e
  statements_end (stm s ss) u e = (begins names s (statements_then names plain ss u)).ended

  told_body : (ss ts : Stms) (u v : List ℕ) → NumbersFitStms ss → NumbersFitStms ts → AreFlatStatements ss → AreFlatStatements ts → Follows u → Follows v →
      statements_then names plain ss u ≡ statements_then names plain ts v → (ss ≡ ts) × (u ≡ v)
  told_body no_stms no_stms u v f g s t e k h = (refl, h)
  told_body no_stms (stm b ts) u v f g s t e k h =
      absurd (differ (letter (byte 0 u)) 0 e.other (ap (λ w. letter (byte 0 w)) h ∙ flat_letter names plain b (statements_then names plain ts v) t.0))
  told_body (stm a ss) no_stms u v f g s t e k h =
      absurd (differ (letter (byte 0 v)) 0 k.other (ap (λ w. letter (byte 0 w)) (sym h) ∙ flat_letter names plain a (statements_then names plain ss u) s.0))
  told_body (stm a ss) (stm b ts) u v f g s t e k h =
      let o = told_ts names a b (statements_then names plain ss u) (statements_then names plain ts v) f.0 g.0
      (statements_end ss u e.ended) (statements_end ts v k.ended) h in
      let r = told_body ss ts u v f.1 g.1 s.1 t.1 e k o.1 in
      (λ i. stm (o.0 i) (r.0 i), r.1)

  abbrev blocks_then : ℕ → List Block → List ℕ
  blocks_then place [] = []
  blocks_then place (b ∷ rest) =
      codes "LABEL" ++ mark_then place (statements_then names plain b.body (end_then b.end (blocks_then (suc place) rest)))

  blocks_dense : (place : ℕ) (list : List Block) → NumbersFitBlocks place list → solid (blocks_lines names place list) ≡ blocks_then place list
  blocks_dense place [] f = refl
  blocks_dense place (b ∷ rest) f =
      let label = laid 1 (codes "LABEL " ++ mark_text place) in
      let body = statement_lines names 2 b.body in
      let last = laid 2 (end_text names b.end) in
      let others = blocks_lines names (suc place) rest in
      ap solid (append_assoc label (body ++ last) others ∙ ap (λ r. label ++ r) (append_assoc body last others))
      ∙ solid_laid 1 (codes "LABEL " ++ mark_text place) (body ++ (last ++ others)) (spaced_decimal place f.0)
      ∙ ap (λ r. codes "LABEL" ++ mark_then place r)
      (statements_dense names plain 2 b.body (last ++ others) f.1
      ∙ ap (statements_then names plain b.body)
      (solid_laid 2 (end_text names b.end) others (end_spaced b.end f.2)
      ∙ end_solid b.end (solid others) ∙ ap (end_then b.end) (blocks_dense (suc place) rest f.3)))

  blocks_end : (place : ℕ) (list : List Block) → ends (blocks_then place list) ≡ true
  blocks_end place [] = refl
  blocks_end place (b ∷ rest) = refl

  told_blocks : (place : ℕ) (list others : List Block) → NumbersFitBlocks place list → NumbersFitBlocks place others →
      AreFlatBlocks list → AreFlatBlocks others →
      blocks_then place list ≡ blocks_then place others → list ≡ others
  told_blocks place [] [] f g s t h = refl
  told_blocks place [] (b ∷ rest) f g s t h = absurd (differ 0 76 refl (ap (byte 0) h))
  told_blocks place (b ∷ rest) [] f g s t h = absurd (differ 76 0 refl (ap (byte 0) h))
  told_blocks place (b ∷ rest) (c ∷ others) f g s t h =
      let u = end_then b.end (blocks_then (suc place) rest) in
      let v = end_then c.end (blocks_then (suc place) others) in
      let e = end_follows b.end (blocks_then (suc place) rest) in
      let k = end_follows c.end (blocks_then (suc place) others) in
      let n = dense_number place place (statements_then names plain b.body u) (statements_then names plain c.body v) f.0 g.0
      (statements_end b.body u e.ended) (statements_end c.body v k.ended) (ap (drop 6) h) in
      let body = told_body b.body c.body u v f.1 g.1 s.0.0 t.0.0 e k n.1 in
      let last = told_end b.end c.end (blocks_then (suc place) rest) (blocks_then (suc place) others) f.2 g.2
      (blocks_end (suc place) rest) (blocks_end (suc place) others) body.1 in
      let more = told_blocks (suc place) rest others f.3 g.3 s.1 t.1 last.1 in
      let one : b ≡ c = (λ i. record { body = body.0 i; end = last.0 i }) in
      (λ i. one i ∷ more i)

pub blocks_are_told : BlocksAreTold
blocks_are_told names list others plain f g s t h =
    told_blocks names plain 0 list others f g s t
    (sym (blocks_dense names plain 0 list f) ∙ ap (λ x. solid (drop 7 x)) h ∙ blocks_dense names plain 0 others g)
