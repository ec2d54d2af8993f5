-- Trees whose names all have a property, tree by tree and as lists of names.
use Rattle.std.proofs.Common.{zero, suc, List, [], ◌∷◌, refl, subst, arith}
use Rattle.std.specs.List.{Contains}
use Rattle.tg_tree.specs.Tree.{Tx, Const, Address, Temp, FrameAddress, Binary, Load, LoadByte, Call, Service, After, Txs, no_txs, tx, Cond, Compare}
use Rattle.tg_tree.specs.Tree.{Not, Both, Either, Ts, Move, Store, StoreByte, Do, If, Loop, Break, Fault, Seq, Return, Stms, no_stms, stm}
use Rattle.tg_tree.specs.Named.{Named, function, literal, fault, temporary, constant, named_tx, named_txs, named_cond, named_ts, named_stms}

module _ (Passes : Named → Type 0) where
  abbrev mutual
    pub TxPasses : Tx → Type 0
    TxPasses (Const n) = Passes (constant n)
    TxPasses (Address label) = Passes (literal label)
    TxPasses (Temp i) = Passes (temporary i)
    TxPasses FrameAddress = Unit {0}
    TxPasses (Binary _ x y) = TxPasses x × TxPasses y
    TxPasses (Load x) = TxPasses x
    TxPasses (LoadByte x) = TxPasses x
    TxPasses (Call label xs) = Passes (function label) × TxsPass xs
    TxPasses (Service n x) = Passes (constant n) × TxPasses x
    TxPasses (After s x) = TsPasses s × TxPasses x

    pub TxsPass : Txs → Type 0
    TxsPass no_txs = Unit {0}
    TxsPass (tx x xs) = TxPasses x × TxsPass xs

    pub CondPasses : Cond → Type 0
    CondPasses (Compare _ x y) = TxPasses x × TxPasses y
    CondPasses (Not c) = CondPasses c
    CondPasses (Both c d) = CondPasses c × CondPasses d
    CondPasses (Either c d) = CondPasses c × CondPasses d

    pub TsPasses : Ts → Type 0
    TsPasses (Move i x) = Passes (temporary i) × TxPasses x
    TsPasses (Store x y) = TxPasses x × TxPasses y
    TsPasses (StoreByte x y) = TxPasses x × TxPasses y
    TsPasses (Do x) = TxPasses x
    TsPasses (If c s t) = CondPasses c × TsPasses s × TsPasses t
    TsPasses (Loop s) = TsPasses s
    TsPasses (Break _) = Unit {0}
    TsPasses (Fault n) = Passes (fault n)
    TsPasses (Seq ss) = StmsPass ss
    TsPasses (Return x) = TxPasses x

    pub StmsPass : Stms → Type 0
    StmsPass no_stms = Unit {0}
    StmsPass (stm s ss) = TsPasses s × StmsPass ss

  abbrev AllPass : List Named → Type 0
  AllPass [] = Unit {0}
  AllPass (x ∷ xs) = Passes x × AllPass xs

  mutual
    tx_passes : (x : Tx) (after : List Named) → AllPass (named_tx x after) → TxPasses x × AllPass after
    tx_passes (Const n) after h = h
    tx_passes (Address label) after h = h
    tx_passes (Temp i) after h = h
    tx_passes FrameAddress after h = (tt, h)
    tx_passes (Binary op x y) after h =
        let a = tx_passes x (named_tx y after) h in let b = tx_passes y after a.1 in ((a.0, b.0), b.1)
    tx_passes (Load x) after h = tx_passes x after h
    tx_passes (LoadByte x) after h = tx_passes x after h
    tx_passes (Call label xs) after h = let a = txs_pass xs after h.1 in ((h.0, a.0), a.1)
    tx_passes (Service n x) after h = let a = tx_passes x after h.1 in ((h.0, a.0), a.1)
    tx_passes (After s x) after h =
        let a = ts_passes s (named_tx x after) h in let b = tx_passes x after a.1 in ((a.0, b.0), b.1)

    txs_pass : (xs : Txs) (after : List Named) → AllPass (named_txs xs after) → TxsPass xs × AllPass after
    txs_pass no_txs after h = (tt, h)
    txs_pass (tx x xs) after h =
        let a = tx_passes x (named_txs xs after) h in let b = txs_pass xs after a.1 in ((a.0, b.0), b.1)

    cond_passes : (c : Cond) (after : List Named) → AllPass (named_cond c after) → CondPasses c × AllPass after
    cond_passes (Compare rel x y) after h =
        let a = tx_passes x (named_tx y after) h in let b = tx_passes y after a.1 in ((a.0, b.0), b.1)
    cond_passes (Not c) after h = cond_passes c after h
    cond_passes (Both c d) after h =
        let a = cond_passes c (named_cond d after) h in let b = cond_passes d after a.1 in ((a.0, b.0), b.1)
    cond_passes (Either c d) after h =
        let a = cond_passes c (named_cond d after) h in let b = cond_passes d after a.1 in ((a.0, b.0), b.1)

    ts_passes : (s : Ts) (after : List Named) → AllPass (named_ts s after) → TsPasses s × AllPass after
    ts_passes (Move i x) after h = let a = tx_passes x after h.1 in ((h.0, a.0), a.1)
    ts_passes (Store x y) after h =
        let a = tx_passes x (named_tx y after) h in let b = tx_passes y after a.1 in ((a.0, b.0), b.1)
    ts_passes (StoreByte x y) after h =
        let a = tx_passes x (named_tx y after) h in let b = tx_passes y after a.1 in ((a.0, b.0), b.1)
    ts_passes (Do x) after h = tx_passes x after h
    ts_passes (If c s t) after h =
        let a = cond_passes c (named_ts s (named_ts t after)) h in
        let b = ts_passes s (named_ts t after) a.1 in
        let d = ts_passes t after b.1 in
        ((a.0, b.0, d.0), d.1)
    ts_passes (Loop s) after h = ts_passes s after h
    ts_passes (Break k) after h = (tt, h)
    ts_passes (Fault n) after h = h
    ts_passes (Seq ss) after h = stms_pass ss after h
    ts_passes (Return x) after h = tx_passes x after h

    stms_pass : (ss : Stms) (after : List Named) → AllPass (named_stms ss after) → StmsPass ss × AllPass after
    stms_pass no_stms after h = (tt, h)
    stms_pass (stm s ss) after h =
        let a = ts_passes s (named_stms ss after) h in let b = stms_pass ss after a.1 in ((a.0, b.0), b.1)

  mutual
    tx_names : (x : Tx) (after : List Named) → TxPasses x → AllPass after → AllPass (named_tx x after)
    tx_names (Const n) after h k = (h, k)
    tx_names (Address label) after h k = (h, k)
    tx_names (Temp i) after h k = (h, k)
    tx_names FrameAddress after h k = k
    tx_names (Binary op x y) after h k = tx_names x (named_tx y after) h.0 (tx_names y after h.1 k)
    tx_names (Load x) after h k = tx_names x after h k
    tx_names (LoadByte x) after h k = tx_names x after h k
    tx_names (Call label xs) after h k = (h.0, txs_names xs after h.1 k)
    tx_names (Service n x) after h k = (h.0, tx_names x after h.1 k)
    tx_names (After s x) after h k = ts_names s (named_tx x after) h.0 (tx_names x after h.1 k)

    txs_names : (xs : Txs) (after : List Named) → TxsPass xs → AllPass after → AllPass (named_txs xs after)
    txs_names no_txs after h k = k
    txs_names (tx x xs) after h k = tx_names x (named_txs xs after) h.0 (txs_names xs after h.1 k)

    cond_names : (c : Cond) (after : List Named) → CondPasses c → AllPass after → AllPass (named_cond c after)
    cond_names (Compare rel x y) after h k = tx_names x (named_tx y after) h.0 (tx_names y after h.1 k)
    cond_names (Not c) after h k = cond_names c after h k
    cond_names (Both c d) after h k = cond_names c (named_cond d after) h.0 (cond_names d after h.1 k)
    cond_names (Either c d) after h k = cond_names c (named_cond d after) h.0 (cond_names d after h.1 k)

    ts_names : (s : Ts) (after : List Named) → TsPasses s → AllPass after → AllPass (named_ts s after)
    ts_names (Move i x) after h k = (h.0, tx_names x after h.1 k)
    ts_names (Store x y) after h k = tx_names x (named_tx y after) h.0 (tx_names y after h.1 k)
    ts_names (StoreByte x y) after h k = tx_names x (named_tx y after) h.0 (tx_names y after h.1 k)
    ts_names (Do x) after h k = tx_names x after h k
    ts_names (If c s t) after h k = cond_names c (named_ts s (named_ts t after)) h.0 (ts_names s (named_ts t after) h.1 (ts_names t after h.2 k))
    ts_names (Loop s) after h k = ts_names s after h k
    ts_names (Break n) after h k = k
    ts_names (Fault n) after h k = (h, k)
    ts_names (Seq ss) after h k = stms_names ss after h k
    ts_names (Return x) after h k = tx_names x after h k

    stms_names : (ss : Stms) (after : List Named) → StmsPass ss → AllPass after → AllPass (named_stms ss after)
    stms_names no_stms after h k = k
    stms_names (stm s ss) after h k = ts_names s (named_stms ss after) h.0 (stms_names ss after h.1 k)

  in_rest : (x : Named) (xs : List Named) (y : Named) → Contains xs y → Contains (x ∷ xs) y
  in_rest x xs y (k, l, e) = (suc k, omega arith, e)

  all_pass : (xs : List Named) → ((x : Named) → Contains xs x → Passes x) → AllPass xs
  all_pass [] h = tt
  all_pass (x ∷ xs) h = (h x (0, omega arith, refl), all_pass xs (λ y c. h y (in_rest x xs y c)))

  all_allowed : (xs : List Named) → AllPass xs → ((x : Named) → Contains xs x → Passes x)
  all_allowed [] h y (k, l, e) = absurd (omega arith)
  all_allowed (x ∷ xs) h y (zero, l, e) = subst (λ v. Passes v) e h.0
  all_allowed (x ∷ xs) h y (suc k, l, e) = all_allowed xs h.1 y (k, omega arith, e)

  -- a body, and statements
  pub body_passes : (s : Ts) → ((x : Named) → Contains (named_ts s []) x → Passes x) → TsPasses s
  body_passes s h = (ts_passes s [] (all_pass (named_ts s []) h)).0

  pub body_names : (s : Ts) → TsPasses s → (x : Named) → Contains (named_ts s []) x → Passes x
  body_names s h = all_allowed (named_ts s []) (ts_names s [] h tt)

  pub statements_names : (ss : Stms) → StmsPass ss → (x : Named) → Contains (named_stms ss []) x → Passes x
  statements_names ss h = all_allowed (named_stms ss []) (stms_names ss [] h tt)
