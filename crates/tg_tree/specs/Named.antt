-- What texts name: the functions that they call, the literals whose addresses they take, the
-- numbers of their faults, their temporaries, and their constants.
use Rattle.std.specs.Prelude.{◌≢◌, ◌<◌, ◌^◌, ℕ, List, [], ◌∷◌, ◌++◌, map, Bool, IsTrue}
use Rattle.std.specs.List.{Contains, AllPairs}
use Rattle.tg_tree.specs.Tree.{Tx, Const, Address, Temp, FrameAddress, Binary, Load, LoadByte, Call}
use Rattle.tg_tree.specs.Tree.{Service, After, Txs, no_txs, tx, Cond, Compare, Not, Both, Either}
use Rattle.tg_tree.specs.Tree.{Ts, Move, Store, StoreByte, Do, If, Loop, Break, Fault, Seq, Return}
use Rattle.tg_tree.specs.Tree.{Stms, no_stms, stm, Linear, Mark, Do', Jump, Branch, Fault', Return'}
use Rattle.tg_tree.specs.Tree.{Function, Code}

pub data Named : Type 0 where
  function literal fault temporary constant : ℕ → Named

-- each of some names passes a test
abbrev pub NamesAreAllowed : (allowed : Named → Bool) → List Named → Type 0
NamesAreAllowed allowed names = (x : Named) → Contains names x → IsTrue (allowed x)

-- what a part names, before what comes after it
abbrev mutual
  pub named_tx : Tx → List Named → List Named
  named_tx (Const n) after = constant n ∷ after
  named_tx (Address label) after = literal label ∷ after
  named_tx (Temp i) after = temporary i ∷ after
  named_tx FrameAddress after = after
  named_tx (Binary _ x y) after = named_tx x (named_tx y after)
  named_tx (Load x) after = named_tx x after
  named_tx (LoadByte x) after = named_tx x after
  named_tx (Call label xs) after = function label ∷ named_txs xs after
  named_tx (Service k x) after = constant k ∷ named_tx x after
  named_tx (After s x) after = named_ts s (named_tx x after)

  pub named_txs : Txs → List Named → List Named
  named_txs no_txs after = after
  named_txs (tx x xs) after = named_tx x (named_txs xs after)

  pub named_cond : Cond → List Named → List Named
  named_cond (Compare _ x y) after = named_tx x (named_tx y after)
  named_cond (Not c) after = named_cond c after
  named_cond (Both c d) after = named_cond c (named_cond d after)
  named_cond (Either c d) after = named_cond c (named_cond d after)

  pub named_ts : Ts → List Named → List Named
  named_ts (Move i x) after = temporary i ∷ named_tx x after
  named_ts (Store x y) after = named_tx x (named_tx y after)
  named_ts (StoreByte x y) after = named_tx x (named_tx y after)
  named_ts (Do x) after = named_tx x after
  named_ts (If c s t) after = named_cond c (named_ts s (named_ts t after))
  named_ts (Loop s) after = named_ts s after
  named_ts (Break _) after = after
  named_ts (Fault n) after = fault n ∷ after
  named_ts (Seq ss) after = named_stms ss after
  named_ts (Return x) after = named_tx x after

  pub named_stms : Stms → List Named → List Named
  named_stms no_stms after = after
  named_stms (stm s ss) after = named_ts s (named_stms ss after)

abbrev pub named_flat : List Linear → List Named → List Named
named_flat [] after = after
named_flat (Mark _ ∷ rest) after = named_flat rest after
named_flat (Do' s ∷ rest) after = named_ts s (named_flat rest after)
named_flat (Jump _ ∷ rest) after = named_flat rest after
named_flat (Branch _ x y _ ∷ rest) after = named_tx x (named_tx y (named_flat rest after))
named_flat (Fault' n ∷ rest) after = fault n ∷ named_flat rest after
named_flat (Return' x ∷ rest) after = named_tx x (named_flat rest after)

-- For bodies of some form, by what they name.
module _ {Body : Type 0} (named : Body → List Named) where
  -- each temporary is one of those that the frame has drawn
  abbrev pub HasItsTemps : Function Body → Type 0
  HasItsTemps f = (i : ℕ) → Contains (named f.body) (temporary i) → i < f.temps

  -- one text names no more than another but for temporaries
  pub record NamesNoMore (before after : Body) : Type 0 where
    pub functions :
        (label : ℕ) →
        Contains (named after) (function label) → Contains (named before) (function label)
    pub literals :
        (label : ℕ) →
        Contains (named after) (literal label) → Contains (named before) (literal label)
    pub faults : (n : ℕ) → Contains (named after) (fault n) → Contains (named before) (fault n)
    pub constants :
        (n : ℕ) → Contains (named after) (constant n) → Contains (named before) (constant n)

  -- the labels of functions and literals
  abbrev pub function_labels : Code Body → List ℕ
  function_labels code = map (λ f. f.label) code.functions

  abbrev pub literal_labels : Code Body → List ℕ
  literal_labels code = map (λ l. l.label) code.literals

  -- all labels differ, the program's body is there, and so is each function and literal that a
  -- function names
  pub record IsLinked (code : Code Body) : Type 0 where
    pub apart : AllPairs (λ a b. a ≢ b) (function_labels code ++ literal_labels code)
    pub body : Contains (function_labels code) 32
    pub calls :
        (f : Function Body) (label : ℕ) →
        Contains code.functions f → Contains (named f.body) (function label) →
        Contains (function_labels code) label
    pub addresses :
        (f : Function Body) (label : ℕ) →
        Contains code.functions f → Contains (named f.body) (literal label) →
        Contains (literal_labels code) label
    pub faults :
        (f : Function Body) (n : ℕ) →
        Contains code.functions f → Contains (named f.body) (fault n) → n < 1048576

  -- each constant is a word
  abbrev pub HasWords : Code Body → Type 0
  HasWords code =
      (f : Function Body) (n : ℕ) →
      Contains code.functions f → Contains (named f.body) (constant n) → n < 2 ^ 32
