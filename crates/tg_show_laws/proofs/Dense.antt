-- Texts of trees without their blanks, in front of what stands behind them.
use Rattle.std.proofs.Common.{ℕ, ◌≡◌, List, [], ◌∷◌, ◌++◌, Bool, true, false, refl, ap, ◌∙◌, append_assoc}
use Rattle.std.specs.Prelude.{codes, slice_index_or}
use Rattle.std.specs.Fmt.{decimal}
use Rattle.tg_tree.specs.declared.operators.Bin.{Bin}
use Rattle.tg_tree.specs.declared.operators.Bin.TheVariants.{Add, Sub, Mul, Div, And, Or, Xor}
use Rattle.tg_tree.specs.declared.operators.Bin.TheVariants.{ShiftLeft, ShiftRight, ShiftSigned, AddTrap, SubTrap, MulHigh}
use Rattle.tg_tree.specs.declared.operators.Rel.{Rel}
use Rattle.tg_tree.specs.declared.operators.Rel.TheVariants.{Equal, NotEqual, Less, LessEqual, Greater, GreaterEqual, Below, NotBelow}
use Rattle.tg_tree.specs.Tree.{Tx, Const, Address, Temp, FrameAddress, Binary, Load, LoadByte, Call, Service, After, Txs, no_txs, tx, Cond, Compare}
use Rattle.tg_tree.specs.Tree.{Not, Both, Either, Ts, Move, Store, StoreByte, Do, If, Loop, Break, Fault, Seq, Return, Stms, no_stms, stm}
use Rattle.tg_show.specs.Words.{int_text, name_text, bin_word, rel_word}
use Rattle.tg_show.specs.Trees.{tx_text, txs_text, cond_text, ts_text, stms_text}
use Rattle.tg_show_laws.proofs.Solid.{solid, solid_append}

solid_bin : (op : Bin) → solid (bin_word op) ≡ bin_word op
solid_bin Add = refl
solid_bin Sub = refl
solid_bin Mul = refl
solid_bin Div = refl
solid_bin And = refl
solid_bin Or = refl
solid_bin Xor = refl
solid_bin ShiftLeft = refl
solid_bin ShiftRight = refl
solid_bin ShiftSigned = refl
solid_bin AddTrap = refl
solid_bin SubTrap = refl
solid_bin MulHigh = refl

pub solid_rel : (rel : Rel) → solid (rel_word rel) ≡ rel_word rel
solid_rel Equal = refl
solid_rel NotEqual = refl
solid_rel Less = refl
solid_rel LessEqual = refl
solid_rel Greater = refl
solid_rel GreaterEqual = refl
solid_rel Below = refl
solid_rel NotBelow = refl

solid_move : (number name part u : List ℕ) →
    solid (((number ++ name) ++ (codes ", " ++ part)) ++ codes ")") ++ u ≡ solid number ++ (solid name ++ (44 ∷ (solid part ++ (41 ∷ u))))
solid_move number name part u = simp (solid_append, append_assoc)

module _ (names : List (List ℕ)) where
  abbrev pub name_behind : ℕ → List ℕ
  name_behind t = solid (name_text (slice_index_or names t []))

  abbrev mutual
    pub tx_then : Tx → List ℕ → List ℕ
    tx_then (Const n) u = codes "CONST" ++ (solid (int_text n) ++ u)
    tx_then (Address label) u = codes "NAMEs" ++ (solid (decimal label) ++ u)
    tx_then (Temp t) u = codes "TEMPt" ++ (solid (decimal t) ++ (name_behind t ++ u))
    tx_then FrameAddress u = codes "FP" ++ u
    tx_then (Binary op x y) u = codes "BINOP(" ++ (bin_word op ++ (44 ∷ tx_then x (44 ∷ tx_then y (41 ∷ u))))
    tx_then (Load x) u = codes "MEM(" ++ tx_then x (41 ∷ u)
    tx_then (LoadByte x) u = codes "MEMB(" ++ tx_then x (41 ∷ u)
    tx_then (Call label xs) u = codes "CALL(NAMEf" ++ (solid (decimal label) ++ txs_then xs (41 ∷ u))
    tx_then (Service n x) u = codes "SERVICE(" ++ (solid (decimal n) ++ (44 ∷ tx_then x (41 ∷ u)))
    tx_then (After s x) u = codes "ESEQ(" ++ ts_then s (44 ∷ tx_then x (41 ∷ u))

    pub txs_then : Txs → List ℕ → List ℕ
    txs_then no_txs u = u
    txs_then (tx x xs) u = 44 ∷ tx_then x (txs_then xs u)

    pub cond_then : Cond → List ℕ → List ℕ
    cond_then (Compare rel x y) u = codes "REL(" ++ (rel_word rel ++ (44 ∷ tx_then x (44 ∷ tx_then y (41 ∷ u))))
    cond_then (Not c) u = codes "NOT(" ++ cond_then c (41 ∷ u)
    cond_then (Both c d) u = codes "AND(" ++ cond_then c (44 ∷ cond_then d (41 ∷ u))
    cond_then (Either c d) u = codes "OR(" ++ cond_then c (44 ∷ cond_then d (41 ∷ u))

    pub ts_then : Ts → List ℕ → List ℕ
    ts_then (Move t x) u = codes "MOVE(TEMPt" ++ (solid (decimal t) ++ (name_behind t ++ (44 ∷ tx_then x (41 ∷ u))))
    ts_then (Store x y) u = codes "MOVE(MEM(" ++ tx_then x (41 ∷ 44 ∷ tx_then y (41 ∷ u))
    ts_then (StoreByte x y) u = codes "MOVE(MEMB(" ++ tx_then x (41 ∷ 44 ∷ tx_then y (41 ∷ u))
    ts_then (Do x) u = codes "EXP(" ++ tx_then x (41 ∷ u)
    ts_then (If c s t) u = codes "IF(" ++ cond_then c (44 ∷ ts_then s (44 ∷ ts_then t (41 ∷ u)))
    ts_then (Loop s) u = codes "LOOP(" ++ ts_then s (41 ∷ u)
    ts_then (Break n) u = codes "BREAK" ++ (solid (decimal n) ++ u)
    ts_then (Fault n) u = codes "FAULT" ++ (solid (decimal n) ++ u)
    ts_then (Seq ss) u = codes "SEQ(" ++ stms_then true ss (41 ∷ u)
    ts_then (Return x) u = codes "RETURN(" ++ tx_then x (41 ∷ u)

    pub stms_then : (is_first : Bool) → Stms → List ℕ → List ℕ
    stms_then is_first no_stms u = u
    stms_then true (stm s ss) u = ts_then s (stms_then false ss u)
    stms_then false (stm s ss) u = 44 ∷ ts_then s (stms_then false ss u)

  solid_temp : (t : ℕ) (u : List ℕ) → solid (decimal t ++ name_text (slice_index_or names t [])) ++ u ≡ solid (decimal t) ++ (name_behind t ++ u)
  solid_temp t u =
      ap (λ x. x ++ u) (solid_append (decimal t) (name_text (slice_index_or names t []))) ∙ append_assoc (solid (decimal t)) (name_behind t) u

  mutual
    pub solid_tx : (x : Tx) (u : List ℕ) → solid (tx_text names x) ++ u ≡ tx_then x u
    solid_tx (Const n) u = refl
    solid_tx (Address label) u = refl
    solid_tx (Temp t) u = ap (λ x. codes "TEMPt" ++ x) (solid_temp t u)
    solid_tx FrameAddress u = refl
    solid_tx (Binary op x y) u = simp (solid_append, append_assoc) (simp (solid_bin, solid_tx x, solid_tx y))
    solid_tx (Load x) u = simp (solid_append, append_assoc) (simp (solid_tx x))
    solid_tx (LoadByte x) u = simp (solid_append, append_assoc) (simp (solid_tx x))
    solid_tx (Call label xs) u = simp (solid_append, append_assoc) (simp (solid_txs xs))
    solid_tx (Service n x) u = simp (solid_append, append_assoc) (simp (solid_tx x))
    solid_tx (After s x) u = simp (solid_append, append_assoc) (simp (solid_ts s, solid_tx x))

    solid_txs : (xs : Txs) (u : List ℕ) → solid (txs_text names xs) ++ u ≡ txs_then xs u
    solid_txs no_txs u = refl
    solid_txs (tx x xs) u = simp (solid_append, append_assoc) (simp (solid_tx x, solid_txs xs))

    solid_cond : (c : Cond) (u : List ℕ) → solid (cond_text names c) ++ u ≡ cond_then c u
    solid_cond (Compare rel x y) u = simp (solid_append, append_assoc) (simp (solid_rel, solid_tx x, solid_tx y))
    solid_cond (Not c) u = simp (solid_append, append_assoc) (simp (solid_cond c))
    solid_cond (Both c d) u = simp (solid_append, append_assoc) (simp (solid_cond c, solid_cond d))
    solid_cond (Either c d) u = simp (solid_append, append_assoc) (simp (solid_cond c, solid_cond d))

    pub solid_ts : (s : Ts) (u : List ℕ) → solid (ts_text names s) ++ u ≡ ts_then s u
    solid_ts (Move t x) u =
        ap (λ r. codes "MOVE(TEMPt" ++ r)
        (solid_move (decimal t) (name_text (slice_index_or names t [])) (tx_text names x) u
        ∙ ap (λ r. solid (decimal t) ++ (name_behind t ++ (44 ∷ r))) (solid_tx x (41 ∷ u)))
    solid_ts (Store x y) u = simp (solid_append, append_assoc) (simp (solid_tx x, solid_tx y))
    solid_ts (StoreByte x y) u = simp (solid_append, append_assoc) (simp (solid_tx x, solid_tx y))
    solid_ts (Do x) u = simp (solid_append, append_assoc) (simp (solid_tx x))
    solid_ts (If c s t) u = simp (solid_append, append_assoc) (simp (solid_cond c, solid_ts s, solid_ts t))
    solid_ts (Loop s) u = simp (solid_append, append_assoc) (simp (solid_ts s))
    solid_ts (Break n) u = refl
    solid_ts (Fault n) u = refl
    solid_ts (Seq ss) u = simp (solid_append, append_assoc) (simp (solid_stms true ss))
    solid_ts (Return x) u = simp (solid_append, append_assoc) (simp (solid_tx x))

    solid_stms : (is_first : Bool) (ss : Stms) (u : List ℕ) → solid (stms_text names is_first ss) ++ u ≡ stms_then is_first ss u
    solid_stms is_first no_stms u = refl
    solid_stms true (stm s ss) u = simp (solid_append, append_assoc) (simp (solid_ts s, solid_stms false ss))
    solid_stms false (stm s ss) u = simp (solid_append, append_assoc) (simp (solid_ts s, solid_stms false ss))
