-- No two trees have one text without blanks, whatever stands behind them.
use Rattle.std.proofs.Common.{ℕ, ◌+◌, ◌*◌, ◌≡◌, List, ◌∷◌, drop, get_or, Bool, true, false, refl, sym, ap, ◌∙◌}
use Rattle.std.specs.Prelude.{◌==◌, if◌then◌else◌}
use Rattle.std.proofs.lemmas.Bool.{eq-eqb}
use Rattle.tg_tree.specs.Tree.{Tx, Const, Address, Temp, FrameAddress, Binary, Load, LoadByte, Call, Service, After, Txs, no_txs, tx, Cond, Compare}
use Rattle.tg_tree.specs.Tree.{Not, Both, Either, Ts, Move, Store, StoreByte, Do, If, Loop, Break, Fault, Seq, Return, Stms, no_stms, stm}
use Rattle.tg_show_laws.specs.Fitting.{NumbersFit, NumbersFitStms, NumbersFitTx, NumbersFitTxs, NumbersFitCond}
use Rattle.tg_show_laws.proofs.Numbers.{ends}
use Rattle.tg_show_laws.proofs.OperatorWords.{bin_told, rel_told}
use Rattle.tg_show_laws.proofs.Dense.{tx_then, txs_then, cond_then, ts_then, stms_then}
use Rattle.tg_show_laws.proofs.DenseNumbers.{dense_number, dense_int, dense_temp}

pub differ : (a b : ℕ) → (a == b) ≡ false → a ≡ b → ⊥
differ a b h e = let two : true ≡ false = sym (eq-eqb a b e) ∙ h in cc

abbrev pub byte : ℕ → List ℕ → ℕ
byte k text = get_or text k 0

-- what the first bytes of a tree's text say of it: of an `M` that of a byte further on, too
abbrev expression_kind : List ℕ → ℕ
expression_kind t = byte 0 t * 65536 + byte 1 t * 256 + (if byte 0 t == 77 then byte 3 t else 0)

abbrev pub statement_kind : List ℕ → ℕ
statement_kind t = byte 0 t * 65536 + byte 1 t * 256 + (if byte 0 t == 77 then byte 8 t else 0)

-- A statement begins with a letter.
pub record Begins (text : List ℕ) : Type 0 where
  pub unclosed : (byte 0 text == 41) ≡ false
  pub some : (byte 0 text == 0) ≡ false
  pub ended : ends text ≡ true

module _ (names : List (List ℕ)) where
  ends_txs : (xs : Txs) (u : List ℕ) → ends (txs_then names xs (41 ∷ u)) ≡ true
  ends_txs no_txs u = refl
  ends_txs (tx x xs) u = refl

  ends_stms : (ss : Stms) (u : List ℕ) → ends (stms_then names false ss (41 ∷ u)) ≡ true
  ends_stms no_stms u = refl
  ends_stms (stm s ss) u = refl

  pub begins : (s : Ts) (u : List ℕ) → Begins (ts_then names s u)
  begins (Move t x) u = record { unclosed = refl; some = refl; ended = refl }
  begins (Store x y) u = record { unclosed = refl; some = refl; ended = refl }
  begins (StoreByte x y) u = record { unclosed = refl; some = refl; ended = refl }
  begins (Do x) u = record { unclosed = refl; some = refl; ended = refl }
  begins (If c s t) u = record { unclosed = refl; some = refl; ended = refl }
  begins (Loop s) u = record { unclosed = refl; some = refl; ended = refl }
  begins (Break n) u = record { unclosed = refl; some = refl; ended = refl }
  begins (Fault n) u = record { unclosed = refl; some = refl; ended = refl }
  begins (Seq ss) u = record { unclosed = refl; some = refl; ended = refl }
  begins (Return x) u = record { unclosed = refl; some = refl; ended = refl }

  mutual
    pub told_tx : (x y : Tx) (u v : List ℕ) → NumbersFitTx x → NumbersFitTx y → ends u ≡ true → ends v ≡ true →
        tx_then names x u ≡ tx_then names y v → (x ≡ y) × (u ≡ v)
    told_tx (Const m) (Const n) u v f g e k h = let a = dense_int m n u v f g e k (ap (drop 5) h) in (ap Const a.0, a.1)
    told_tx (Address m) (Address n) u v f g e k h = let a = dense_number m n u v f g e k (ap (drop 5) h) in (ap Address a.0, a.1)
    told_tx (Temp m) (Temp n) u v f g e k h = let a = dense_temp names m n u v f g e k (ap (drop 5) h) in (ap Temp a.0, a.1)
    told_tx FrameAddress FrameAddress u v f g e k h = (refl, ap (drop 2) h)
    told_tx (Binary op x y) (Binary op' x' y') u v f g e k h =
        let o = bin_told op op' (tx_then names x (44 ∷ tx_then names y (41 ∷ u))) (tx_then names x' (44 ∷ tx_then names y' (41 ∷ v))) (ap (drop 6) h) in
        let a = told_tx x x' (44 ∷ tx_then names y (41 ∷ u)) (44 ∷ tx_then names y' (41 ∷ v)) f.0 g.0 refl refl o.1 in
        let b = told_tx y y' (41 ∷ u) (41 ∷ v) f.1 g.1 refl refl (ap (drop 1) a.1) in
        (λ i. Binary (o.0 i) (a.0 i) (b.0 i), ap (drop 1) b.1)
    told_tx (Load x) (Load x') u v f g e k h =
        let a = told_tx x x' (41 ∷ u) (41 ∷ v) f g refl refl (ap (drop 4) h) in (ap Load a.0, ap (drop 1) a.1)
    told_tx (LoadByte x) (LoadByte x') u v f g e k h =
        let a = told_tx x x' (41 ∷ u) (41 ∷ v) f g refl refl (ap (drop 5) h) in (ap LoadByte a.0, ap (drop 1) a.1)
    told_tx (Call m xs) (Call n ys) u v f g e k h =
        let o = dense_number m n (txs_then names xs (41 ∷ u)) (txs_then names ys (41 ∷ v)) f.0 g.0 (ends_txs xs u) (ends_txs ys v) (ap (drop 10) h) in
        let a = told_txs xs ys u v f.1 g.1 o.1 in
        (λ i. Call (o.0 i) (a.0 i), a.1)
    told_tx (Service m x) (Service n x') u v f g e k h =
        let o = dense_number m n (44 ∷ tx_then names x (41 ∷ u)) (44 ∷ tx_then names x' (41 ∷ v)) f.0 g.0 refl refl (ap (drop 8) h) in
        let a = told_tx x x' (41 ∷ u) (41 ∷ v) f.1 g.1 refl refl (ap (drop 1) o.1) in
        (λ i. Service (o.0 i) (a.0 i), ap (drop 1) a.1)
    told_tx (After s x) (After s' x') u v f g e k h =
        let o = told_ts s s' (44 ∷ tx_then names x (41 ∷ u)) (44 ∷ tx_then names x' (41 ∷ v)) f.0 g.0 refl refl (ap (drop 5) h) in
        let a = told_tx x x' (41 ∷ u) (41 ∷ v) f.1 g.1 refl refl (ap (drop 1) o.1) in
        (λ i. After (o.0 i) (a.0 i), ap (drop 1) a.1)
    told_tx x y u v f g e k h =
        absurd (differ (expression_kind (tx_then names x u)) (expression_kind (tx_then names y v)) refl (ap expression_kind h))

    told_txs : (xs ys : Txs) (u v : List ℕ) → NumbersFitTxs xs → NumbersFitTxs ys →
        txs_then names xs (41 ∷ u) ≡ txs_then names ys (41 ∷ v) → (xs ≡ ys) × (u ≡ v)
    told_txs no_txs no_txs u v f g h = (refl, ap (drop 1) h)
    told_txs no_txs (tx y ys) u v f g h = absurd (differ 41 44 refl (ap (byte 0) h))
    told_txs (tx x xs) no_txs u v f g h = absurd (differ 44 41 refl (ap (byte 0) h))
    told_txs (tx x xs) (tx y ys) u v f g h =
        let o = told_tx x y (txs_then names xs (41 ∷ u)) (txs_then names ys (41 ∷ v)) f.0 g.0 (ends_txs xs u) (ends_txs ys v) (ap (drop 1) h) in
        let a = told_txs xs ys u v f.1 g.1 o.1 in
        (λ i. tx (o.0 i) (a.0 i), a.1)

    told_cond : (c d : Cond) (u v : List ℕ) → NumbersFitCond c → NumbersFitCond d → ends u ≡ true → ends v ≡ true →
        cond_then names c u ≡ cond_then names d v → (c ≡ d) × (u ≡ v)
    told_cond (Compare r x y) (Compare r' x' y') u v f g e k h =
        let o = rel_told r r' (tx_then names x (44 ∷ tx_then names y (41 ∷ u))) (tx_then names x' (44 ∷ tx_then names y' (41 ∷ v))) (ap (drop 4) h) in
        let a = told_tx x x' (44 ∷ tx_then names y (41 ∷ u)) (44 ∷ tx_then names y' (41 ∷ v)) f.0 g.0 refl refl o.1 in
        let b = told_tx y y' (41 ∷ u) (41 ∷ v) f.1 g.1 refl refl (ap (drop 1) a.1) in
        (λ i. Compare (o.0 i) (a.0 i) (b.0 i), ap (drop 1) b.1)
    told_cond (Not c) (Not d) u v f g e k h =
        let a = told_cond c d (41 ∷ u) (41 ∷ v) f g refl refl (ap (drop 4) h) in (ap Not a.0, ap (drop 1) a.1)
    told_cond (Both c d) (Both c' d') u v f g e k h =
        let a = told_cond c c' (44 ∷ cond_then names d (41 ∷ u)) (44 ∷ cond_then names d' (41 ∷ v)) f.0 g.0 refl refl (ap (drop 4) h) in
        let b = told_cond d d' (41 ∷ u) (41 ∷ v) f.1 g.1 refl refl (ap (drop 1) a.1) in
        (λ i. Both (a.0 i) (b.0 i), ap (drop 1) b.1)
    told_cond (Either c d) (Either c' d') u v f g e k h =
        let a = told_cond c c' (44 ∷ cond_then names d (41 ∷ u)) (44 ∷ cond_then names d' (41 ∷ v)) f.0 g.0 refl refl (ap (drop 3) h) in
        let b = told_cond d d' (41 ∷ u) (41 ∷ v) f.1 g.1 refl refl (ap (drop 1) a.1) in
        (λ i. Either (a.0 i) (b.0 i), ap (drop 1) b.1)
    told_cond c d u v f g e k h = absurd (differ (byte 0 (cond_then names c u)) (byte 0 (cond_then names d v)) refl (ap (byte 0) h))

    pub told_ts : (s t : Ts) (u v : List ℕ) → NumbersFit s → NumbersFit t → ends u ≡ true → ends v ≡ true →
        ts_then names s u ≡ ts_then names t v → (s ≡ t) × (u ≡ v)
    told_ts (Move m x) (Move n x') u v f g e k h =
        let o = dense_temp names m n (44 ∷ tx_then names x (41 ∷ u)) (44 ∷ tx_then names x' (41 ∷ v)) f.0 g.0 refl refl (ap (drop 10) h) in
        let a = told_tx x x' (41 ∷ u) (41 ∷ v) f.1 g.1 refl refl (ap (drop 1) o.1) in
        (λ i. Move (o.0 i) (a.0 i), ap (drop 1) a.1)
    told_ts (Store x y) (Store x' y') u v f g e k h =
        let a = told_tx x x' (41 ∷ 44 ∷ tx_then names y (41 ∷ u)) (41 ∷ 44 ∷ tx_then names y' (41 ∷ v)) f.0 g.0 refl refl (ap (drop 9) h) in
        let b = told_tx y y' (41 ∷ u) (41 ∷ v) f.1 g.1 refl refl (ap (drop 2) a.1) in
        (λ i. Store (a.0 i) (b.0 i), ap (drop 1) b.1)
    told_ts (StoreByte x y) (StoreByte x' y') u v f g e k h =
        let a = told_tx x x' (41 ∷ 44 ∷ tx_then names y (41 ∷ u)) (41 ∷ 44 ∷ tx_then names y' (41 ∷ v)) f.0 g.0 refl refl (ap (drop 10) h) in
        let b = told_tx y y' (41 ∷ u) (41 ∷ v) f.1 g.1 refl refl (ap (drop 2) a.1) in
        (λ i. StoreByte (a.0 i) (b.0 i), ap (drop 1) b.1)
    told_ts (Do x) (Do x') u v f g e k h =
        let a = told_tx x x' (41 ∷ u) (41 ∷ v) f g refl refl (ap (drop 4) h) in (ap Do a.0, ap (drop 1) a.1)
    told_ts (If c s t) (If c' s' t') u v f g e k h =
        let o = told_cond c c' (44 ∷ ts_then names s (44 ∷ ts_then names t (41 ∷ u))) (44 ∷ ts_then names s' (44 ∷ ts_then names t' (41 ∷ v)))
        f.0 g.0 refl refl (ap (drop 3) h) in
        let a = told_ts s s' (44 ∷ ts_then names t (41 ∷ u)) (44 ∷ ts_then names t' (41 ∷ v)) f.1 g.1 refl refl (ap (drop 1) o.1) in
        let b = told_ts t t' (41 ∷ u) (41 ∷ v) f.2 g.2 refl refl (ap (drop 1) a.1) in
        (λ i. If (o.0 i) (a.0 i) (b.0 i), ap (drop 1) b.1)
    told_ts (Loop s) (Loop t) u v f g e k h =
        let a = told_ts s t (41 ∷ u) (41 ∷ v) f g refl refl (ap (drop 5) h) in (ap Loop a.0, ap (drop 1) a.1)
    told_ts (Break m) (Break n) u v f g e k h = let a = dense_number m n u v f g e k (ap (drop 5) h) in (ap Break a.0, a.1)
    told_ts (Fault m) (Fault n) u v f g e k h = let a = dense_number m n u v f g e k (ap (drop 5) h) in (ap Fault a.0, a.1)
    told_ts (Seq ss) (Seq ts) u v f g e k h = let a = told_stms true ss ts u v f g (ap (drop 4) h) in (ap Seq a.0, a.1)
    told_ts (Return x) (Return x') u v f g e k h =
        let a = told_tx x x' (41 ∷ u) (41 ∷ v) f g refl refl (ap (drop 7) h) in (ap Return a.0, ap (drop 1) a.1)
    told_ts s t u v f g e k h =
        absurd (differ (statement_kind (ts_then names s u)) (statement_kind (ts_then names t v)) refl (ap statement_kind h))

    told_stms : (is_first : Bool) (ss ts : Stms) (u v : List ℕ) → NumbersFitStms ss → NumbersFitStms ts →
        stms_then names is_first ss (41 ∷ u) ≡ stms_then names is_first ts (41 ∷ v) → (ss ≡ ts) × (u ≡ v)
    told_stms is_first no_stms no_stms u v f g h = (refl, ap (drop 1) h)
    told_stms true no_stms (stm t ts) u v f g h =
        absurd
        (differ (byte 0 (ts_then names t (stms_then names false ts (41 ∷ v)))) 41
        (begins t (stms_then names false ts (41 ∷ v))).unclosed (sym (ap (byte 0) h)))
    told_stms true (stm s ss) no_stms u v f g h =
        absurd
        (differ (byte 0 (ts_then names s (stms_then names false ss (41 ∷ u)))) 41
        (begins s (stms_then names false ss (41 ∷ u))).unclosed (ap (byte 0) h))
    told_stms false no_stms (stm t ts) u v f g h = absurd (differ 41 44 refl (ap (byte 0) h))
    told_stms false (stm s ss) no_stms u v f g h = absurd (differ 44 41 refl (ap (byte 0) h))
    told_stms true (stm s ss) (stm t ts) u v f g h =
        let o = told_ts s t (stms_then names false ss (41 ∷ u)) (stms_then names false ts (41 ∷ v)) f.0 g.0 (ends_stms ss u) (ends_stms ts v) h in
        let a = told_stms false ss ts u v f.1 g.1 o.1 in
        (λ i. stm (o.0 i) (a.0 i), a.1)
    told_stms false (stm s ss) (stm t ts) u v f g h =
        let o = told_ts s t (stms_then names false ss (41 ∷ u)) (stms_then names false ts (41 ∷ v)) f.0 g.0 (ends_stms ss u) (ends_stms ts v) (ap (drop 1) h) in
        let a = told_stms false ss ts u v f.1 g.1 o.1 in
        (λ i. stm (o.0 i) (a.0 i), a.1)
