-- The text of trees on one line, in the book's notation (Appel, chapter 7): each is a word, and its
-- parts between parentheses. The functions are given the names of temporaries, by their numbers.
use Rattle.std.specs.Prelude.{ℕ, Bool, true, false, List, [], ◌++◌, codes}
use Rattle.std.specs.Fmt.{decimal}
use Rattle.tg_tree.specs.Tree.{Tx, Const, Address, Temp, FrameAddress, Binary, Load, LoadByte}
use Rattle.tg_tree.specs.Tree.{Call, Service, After, Txs, no_txs, tx}
use Rattle.tg_tree.specs.Tree.{Cond, Compare, Not, Both, Either}
use Rattle.tg_tree.specs.Tree.{Ts, Move, Store, StoreByte, Do, If, Loop, Break, Fault, Seq, Return}
use Rattle.tg_tree.specs.Tree.{Stms, no_stms, stm}
use Rattle.tg_show.specs.Words.{int_text, temp_text, bin_word, rel_word}

abbrev pub form : (word parts : List ℕ) → List ℕ
form word parts = word ++ (codes "(" ++ (parts ++ codes ")"))

abbrev pub two : (first second : List ℕ) → List ℕ
two a b = a ++ (codes ", " ++ b)

abbrev pub three : (first second third : List ℕ) → List ℕ
three a b c = two a (two b c)

-- what stands in front of a part
abbrev pub before : (is_first : Bool) → List ℕ
before true = []
before false = codes ", "

abbrev mutual
  pub tx_text : (names : List (List ℕ)) → Tx → List ℕ
  tx_text names (Const n) = codes "CONST " ++ int_text n
  tx_text names (Address label) = codes "NAME s" ++ decimal label
  tx_text names (Temp t) = codes "TEMP " ++ temp_text names t
  tx_text names FrameAddress = codes "FP"
  tx_text names (Binary op x y) =
      form (codes "BINOP") (three (bin_word op) (tx_text names x) (tx_text names y))
  tx_text names (Load x) = form (codes "MEM") (tx_text names x)
  tx_text names (LoadByte x) = form (codes "MEMB") (tx_text names x)
  tx_text names (Call label xs) =
      form (codes "CALL") (codes "NAME f" ++ (decimal label ++ txs_text names xs))
  tx_text names (Service n x) = form (codes "SERVICE") (two (decimal n) (tx_text names x))
  tx_text names (After s x) = form (codes "ESEQ") (two (ts_text names s) (tx_text names x))

  -- further parts
  pub txs_text : (names : List (List ℕ)) → Txs → List ℕ
  txs_text names no_txs = []
  txs_text names (tx x xs) = codes ", " ++ (tx_text names x ++ txs_text names xs)

  pub cond_text : (names : List (List ℕ)) → Cond → List ℕ
  cond_text names (Compare rel x y) =
      form (codes "REL") (three (rel_word rel) (tx_text names x) (tx_text names y))
  cond_text names (Not c) = form (codes "NOT") (cond_text names c)
  cond_text names (Both c d) = form (codes "AND") (two (cond_text names c) (cond_text names d))
  cond_text names (Either c d) = form (codes "OR") (two (cond_text names c) (cond_text names d))

  pub ts_text : (names : List (List ℕ)) → Ts → List ℕ
  ts_text names (Move t x) =
      form (codes "MOVE") (two (codes "TEMP " ++ temp_text names t) (tx_text names x))
  ts_text names (Store x y) =
      form (codes "MOVE") (two (form (codes "MEM") (tx_text names x)) (tx_text names y))
  ts_text names (StoreByte x y) =
      form (codes "MOVE") (two (form (codes "MEMB") (tx_text names x)) (tx_text names y))
  ts_text names (Do x) = form (codes "EXP") (tx_text names x)
  ts_text names (If c s t) =
      form (codes "IF") (three (cond_text names c) (ts_text names s) (ts_text names t))
  ts_text names (Loop s) = form (codes "LOOP") (ts_text names s)
  ts_text names (Break n) = codes "BREAK " ++ decimal n
  ts_text names (Fault n) = codes "FAULT " ++ decimal n
  ts_text names (Seq ss) = form (codes "SEQ") (stms_text names true ss)
  ts_text names (Return x) = form (codes "RETURN") (tx_text names x)

  pub stms_text : (names : List (List ℕ)) → (is_first : Bool) → Stms → List ℕ
  stms_text names is_first no_stms = []
  stms_text names is_first (stm s ss) =
      before is_first ++ (ts_text names s ++ stms_text names false ss)
