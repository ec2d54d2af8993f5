-- The texts of trees, canonical statements and flat code tell them.
use Rattle.std.proofs.Common.{ℕ, ◌≡◌, List, [], ◌∷◌, ◌++◌, drop, true, false, refl, sym, ap, ◌∙◌, append_assoc}
use Rattle.std.specs.Prelude.{◌==◌, ◌||◌, if◌then◌else◌, codes}
use Rattle.std.specs.Fmt.{decimal}
use Rattle.tg_tree.specs.declared.operators.Rel.{Rel}
use Rattle.tg_tree.specs.Tree.{Tx, Ts, Move, Store, StoreByte, Do, If, Loop, Break, Fault, Seq, Return, Stms, no_stms, stm}
use Rattle.tg_tree.specs.Tree.{Linear, Mark, Do', Jump, Branch, Fault', Return'}
use Rattle.tg_tree.specs.Shapes.{IsFlatStatement, IsFlatCode}
use Rattle.tg_show.specs.Words.{rel_word}
use Rattle.tg_show.specs.Layout.{laid}
use Rattle.tg_show.specs.Trees.{two, tx_text, ts_text}
use Rattle.tg_show.specs.Flat.{statement_lines, mark_text, branch_front, element_text, element_margin, element_lines}
use Rattle.tg_show_laws.specs.Fitting.{IsWord, HaveNoCommas, NumbersFit, NumbersFitStms, NumbersFitTx, NumbersFitFlat}
use Rattle.tg_show_laws.specs.laws.Laws.{TreesAreTold, FoldedAreTold, CanonicalAreTold, TracesAreTold}
use Rattle.tg_show_laws.proofs.Solid.{solid, solid_append, solid_laid, spaced, spaced_append}
use Rattle.tg_show_laws.proofs.Numbers.{ends}
use Rattle.tg_show_laws.proofs.OperatorWords.{rel_told}
use Rattle.tg_show_laws.proofs.Dense.{tx_then, ts_then, solid_tx, solid_ts, solid_rel}
use Rattle.tg_show_laws.proofs.DenseNumbers.{dense_number}
use Rattle.tg_show_laws.proofs.Spacing.{spaced_decimal, spaced_tx, spaced_ts, spaced_rel, spaced_two, spaced_parens}
use Rattle.tg_show_laws.proofs.Trees.{byte, differ, begins, told_tx, told_ts}

abbrev pub mark_then : ℕ → List ℕ → List ℕ
mark_then m u = 46 ∷ (solid (decimal m) ++ u)

-- a flat statement begins as no other element does: with an `M` or an `E`
abbrev pub letter : ℕ → ℕ
letter c = if c == 77 || c == 69 then 0 else c

module _ (names : List (List ℕ)) (plain : HaveNoCommas names) where
  line_dense : (margin : ℕ) (s : Ts) (rest : List ℕ) → NumbersFit s → solid (laid margin (ts_text names s) ++ rest) ≡ ts_then names s (solid rest)
  line_dense margin s rest f = solid_laid margin (ts_text names s) rest (spaced_ts names plain s f) ∙ solid_ts names s (solid rest)

  pub one_tree : (s t : Ts) → NumbersFit s → NumbersFit t → laid 1 (ts_text names s) ≡ laid 1 (ts_text names t) → s ≡ t
  one_tree s t f g h =
      (told_ts names s t [] [] f g refl refl (sym (line_dense 1 s [] f) ∙ ap (λ x. solid (x ++ [])) h ∙ line_dense 1 t [] g)).0

  -- statements, a line or more each
  abbrev pub statements_then : Stms → List ℕ → List ℕ
  statements_then no_stms u = u
  statements_then (stm s ss) u = ts_then names s (statements_then ss u)

  pub statements_dense : (margin : ℕ) (ss : Stms) (rest : List ℕ) → NumbersFitStms ss →
      solid (statement_lines names margin ss ++ rest) ≡ statements_then ss (solid rest)
  statements_dense margin no_stms rest f = refl
  statements_dense margin (stm s ss) rest f =
      ap solid (append_assoc (laid margin (ts_text names s)) (statement_lines names margin ss) rest)
      ∙ line_dense margin s (statement_lines names margin ss ++ rest) f.0
      ∙ ap (ts_then names s) (statements_dense margin ss rest f.1)

  statements_end : (ss : Stms) → ends (statements_then ss []) ≡ true
  statements_end no_stms = refl
  statements_end (stm s ss) = (begins names s (statements_then ss [])).ended

  told_statements : (ss ts : Stms) → NumbersFitStms ss → NumbersFitStms ts → statements_then ss [] ≡ statements_then ts [] → ss ≡ ts
  told_statements no_stms no_stms f g h = refl
  told_statements no_stms (stm t ts) f g h =
      absurd (differ (byte 0 (ts_then names t (statements_then ts []))) 0 (begins names t (statements_then ts [])).some (sym (ap (byte 0) h)))
  told_statements (stm s ss) no_stms f g h =
      absurd (differ (byte 0 (ts_then names s (statements_then ss []))) 0 (begins names s (statements_then ss [])).some (ap (byte 0) h))
  told_statements (stm s ss) (stm t ts) f g h =
      let a = told_ts names s t (statements_then ss []) (statements_then ts []) f.0 g.0 (statements_end ss) (statements_end ts) h in
      let b = told_statements ss ts f.1 g.1 a.1 in
      (λ i. stm (a.0 i) (b i))

  pub one_code : (margin : ℕ) (ss ts : Stms) → NumbersFitStms ss → NumbersFitStms ts →
      statement_lines names margin ss ≡ statement_lines names margin ts → ss ≡ ts
  one_code margin ss ts f g h =
      told_statements ss ts f g
      (sym (statements_dense margin ss [] f) ∙ ap (λ x. solid (x ++ [])) h ∙ statements_dense margin ts [] g)

  -- flat code
  abbrev element_then : Linear → List ℕ → List ℕ
  element_then (Mark m) u = codes "LABEL" ++ mark_then m u
  element_then (Do' s) u = ts_then names s u
  element_then (Jump m) u = codes "JUMP" ++ mark_then m u
  element_then (Branch rel x y m) u = codes "CJUMP(" ++ (rel_word rel ++ (44 ∷ tx_then names x (44 ∷ tx_then names y (44 ∷ mark_then m (41 ∷ u)))))
  element_then (Fault' n) u = codes "FAULT" ++ (solid (decimal n) ++ u)
  element_then (Return' x) u = codes "RETURN(" ++ tx_then names x (41 ∷ u)

  -- numbers and shape of an element
  abbrev ElementFits : Linear → Type 0
  ElementFits (Mark m) = IsWord m
  ElementFits (Do' s) = NumbersFit s × IsFlatStatement s
  ElementFits (Jump m) = IsWord m
  ElementFits (Branch _ x y m) = NumbersFitTx x × NumbersFitTx y × IsWord m
  ElementFits (Fault' n) = IsWord n
  ElementFits (Return' x) = NumbersFitTx x

  pub spaced_front : (rel : Rel) (x y : Tx) → NumbersFitTx x → NumbersFitTx y → spaced (branch_front names rel x y) ≡ true
  spaced_front rel x y f g =
      spaced_two (rel_word rel) (two (tx_text names x) (tx_text names y)) (spaced_rel rel)
      (spaced_two (tx_text names x) (tx_text names y) (spaced_tx names plain x f) (spaced_tx names plain y g))

  element_spaced : (e : Linear) → ElementFits e → spaced (element_text names e) ≡ true
  element_spaced (Mark m) f = spaced_decimal m f
  element_spaced (Do' s) f = spaced_ts names plain s f.0
  element_spaced (Jump m) f = spaced_decimal m f
  element_spaced (Branch rel x y m) f =
      spaced_two (branch_front names rel x y) (mark_text m ++ codes ")") (spaced_front rel x y f.0 f.1)
      (spaced_append (decimal m) (codes ")") (spaced_decimal m f.2) refl)
  element_spaced (Fault' n) f = spaced_decimal n f
  element_spaced (Return' x) f = spaced_parens (tx_text names x) (spaced_tx names plain x f)

  element_solid : (e : Linear) (u : List ℕ) → solid (element_text names e) ++ u ≡ element_then e u
  element_solid (Mark m) u = refl
  element_solid (Do' s) u = solid_ts names s u
  element_solid (Jump m) u = refl
  element_solid (Branch rel x y m) u = simp (solid_append, append_assoc) (simp (solid_rel, solid_tx names x, solid_tx names y))
  element_solid (Fault' n) u = refl
  element_solid (Return' x) u = simp (solid_append, append_assoc) (simp (solid_tx names x))

  element_dense : (e : Linear) (rest : List ℕ) → ElementFits e → solid (laid (element_margin e) (element_text names e) ++ rest) ≡ element_then e (solid rest)
  element_dense e rest f = solid_laid (element_margin e) (element_text names e) rest (element_spaced e f) ∙ element_solid e (solid rest)

  pub flat_letter : (s : Ts) (u : List ℕ) → IsFlatStatement s → letter (byte 0 (ts_then names s u)) ≡ 0
  flat_letter (Move t x) u f = refl
  flat_letter (Store x y) u f = refl
  flat_letter (StoreByte x y) u f = refl
  flat_letter (Do x) u f = refl
  flat_letter (If c s t) u f = absurd f
  flat_letter (Loop s) u f = absurd f
  flat_letter (Break n) u f = absurd f
  flat_letter (Fault n) u f = absurd f
  flat_letter (Seq ss) u f = absurd f
  flat_letter (Return x) u f = absurd f

  told_element : (d e : Linear) (u v : List ℕ) → ElementFits d → ElementFits e → ends u ≡ true → ends v ≡ true →
      element_then d u ≡ element_then e v → (d ≡ e) × (u ≡ v)
  told_element (Mark m) (Mark n) u v f g e k h = let a = dense_number m n u v f g e k (ap (drop 6) h) in (ap Mark a.0, a.1)
  told_element (Do' s) (Do' t) u v f g e k h = let a = told_ts names s t u v f.0 g.0 e k h in (ap Do' a.0, a.1)
  told_element (Jump m) (Jump n) u v f g e k h = let a = dense_number m n u v f g e k (ap (drop 5) h) in (ap Jump a.0, a.1)
  told_element (Branch r x y m) (Branch r' x' y' n) u v f g e k h =
      let o = rel_told r r' (tx_then names x (44 ∷ tx_then names y (44 ∷ mark_then m (41 ∷ u))))
      (tx_then names x' (44 ∷ tx_then names y' (44 ∷ mark_then n (41 ∷ v))))
      (ap (drop 6) h) in
      let a = told_tx names x x' (44 ∷ tx_then names y (44 ∷ mark_then m (41 ∷ u))) (44 ∷ tx_then names y' (44 ∷ mark_then n (41 ∷ v)))
      f.0 g.0 refl refl o.1 in
      let b = told_tx names y y' (44 ∷ mark_then m (41 ∷ u)) (44 ∷ mark_then n (41 ∷ v)) f.1 g.1 refl refl (ap (drop 1) a.1) in
      let c = dense_number m n (41 ∷ u) (41 ∷ v) f.2 g.2 refl refl (ap (drop 2) b.1) in
      (λ i. Branch (o.0 i) (a.0 i) (b.0 i) (c.0 i), ap (drop 1) c.1)
  told_element (Fault' m) (Fault' n) u v f g e k h = let a = dense_number m n u v f g e k (ap (drop 5) h) in (ap Fault' a.0, a.1)
  told_element (Return' x) (Return' y) u v f g e k h =
      let a = told_tx names x y (41 ∷ u) (41 ∷ v) f g refl refl (ap (drop 7) h) in (ap Return' a.0, ap (drop 1) a.1)
  told_element (Do' s) d u v f g e k h =
      absurd (differ 0 (letter (byte 0 (element_then d v))) refl (sym (flat_letter s u f.1) ∙ ap (λ t. letter (byte 0 t)) h))
  told_element d (Do' t) u v f g e k h =
      absurd (differ (letter (byte 0 (element_then d u))) 0 refl (ap (λ t. letter (byte 0 t)) h ∙ flat_letter t v g.1))
  told_element d c u v f g e k h = absurd (differ (byte 0 (element_then d u)) (byte 0 (element_then c v)) refl (ap (byte 0) h))

  abbrev elements_then : List Linear → List ℕ
  elements_then [] = []
  elements_then (e ∷ rest) = element_then e (elements_then rest)

  abbrev ElementsFit : List Linear → Type 0
  ElementsFit [] = Unit {0}
  ElementsFit (e ∷ rest) = ElementFits e × ElementsFit rest

  elements_dense : (code : List Linear) → ElementsFit code → solid (element_lines names code) ≡ elements_then code
  elements_dense [] f = refl
  elements_dense (e ∷ rest) f = element_dense e (element_lines names rest) f.0 ∙ ap (element_then e) (elements_dense rest f.1)

  element_some : (e : Linear) (u : List ℕ) → (byte 0 (element_then e u) == 0) ≡ false
  element_some (Mark m) u = refl
  element_some (Do' s) u = (begins names s u).some
  element_some (Jump m) u = refl
  element_some (Branch rel x y m) u = refl
  element_some (Fault' n) u = refl
  element_some (Return' x) u = refl

  elements_end : (code : List Linear) → ends (elements_then code) ≡ true
  elements_end [] = refl
  elements_end (Mark m ∷ rest) = refl
  elements_end (Do' s ∷ rest) = (begins names s (elements_then rest)).ended
  elements_end (Jump m ∷ rest) = refl
  elements_end (Branch rel x y m ∷ rest) = refl
  elements_end (Fault' n ∷ rest) = refl
  elements_end (Return' x ∷ rest) = refl

  told_elements : (code other : List Linear) → ElementsFit code → ElementsFit other → elements_then code ≡ elements_then other → code ≡ other
  told_elements [] [] f g h = refl
  told_elements [] (e ∷ rest) f g h =
      absurd (differ (byte 0 (element_then e (elements_then rest))) 0 (element_some e (elements_then rest)) (sym (ap (byte 0) h)))
  told_elements (e ∷ rest) [] f g h =
      absurd (differ (byte 0 (element_then e (elements_then rest))) 0 (element_some e (elements_then rest)) (ap (byte 0) h))
  told_elements (e ∷ rest) (d ∷ others) f g h =
      let a = told_element e d (elements_then rest) (elements_then others) f.0 g.0 (elements_end rest) (elements_end others) h in
      let b = told_elements rest others f.1 g.1 a.1 in
      (λ i. a.0 i ∷ b i)

  elements_fit : (code : List Linear) → NumbersFitFlat code → IsFlatCode code → ElementsFit code
  elements_fit [] f s = tt
  elements_fit (Mark m ∷ rest) f s = (f.0, elements_fit rest f.1 s)
  elements_fit (Do' t ∷ rest) f s = ((f.0, s.0), elements_fit rest f.1 s.1)
  elements_fit (Jump m ∷ rest) f s = (f.0, elements_fit rest f.1 s)
  elements_fit (Branch rel x y m ∷ rest) f s = ((f.0, f.1, f.2), elements_fit rest f.3 s.2)
  elements_fit (Fault' n ∷ rest) f s = (f.0, elements_fit rest f.1 s)
  elements_fit (Return' x ∷ rest) f s = (f.0, elements_fit rest f.1 s.1)

  pub one_flat_code : (code other : List Linear) → NumbersFitFlat code → NumbersFitFlat other → IsFlatCode code → IsFlatCode other →
      element_lines names code ≡ element_lines names other → code ≡ other
  one_flat_code code other f g s t h =
      let c = elements_fit code f s in
      let o = elements_fit other g t in
      told_elements code other c o (sym (elements_dense code c) ∙ ap solid h ∙ elements_dense other o)

pub trees_are_told : TreesAreTold
trees_are_told names body other plain f g h = one_tree names plain body other f g (ap (drop 5) h)

pub folded_are_told : FoldedAreTold
folded_are_told names body other plain f g h = one_tree names plain body other f g (ap (drop 7) h)

pub canonical_are_told : CanonicalAreTold
canonical_are_told names code other plain f g h = one_code names plain 1 code other f g (ap (drop 10) h)

pub traces_are_told : TracesAreTold
traces_are_told names code other plain f g s t h = one_flat_code names plain code other f g s t (ap (drop 7) h)
