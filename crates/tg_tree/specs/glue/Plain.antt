-- The plain tree of the code's tree.
use Rattle.std.specs.Prelude.{map}
use Rattle.tg_frame.specs.declared.frames.Frame.{Frame}
use Rattle.tg_tree.specs.declared.trees.Tx.{Tx, Const, Address, Temp, FrameAddress, Binary', Load'}
use Rattle.tg_tree.specs.declared.trees.Tx.{LoadByte', Call', Service', After', Row_of-Tx}
use Rattle.tg_tree.specs.declared.trees.Tx.{end_of-Tx, more_of-Tx}
use Rattle.tg_tree.specs.declared.trees.Ts.{Ts, Move, Store, StoreByte, Do, If', Loop', Break}
use Rattle.tg_tree.specs.declared.trees.Ts.{Fault, Seq', Return, Row_of-Ts, end_of-Ts, more_of-Ts}
use Rattle.tg_tree.specs.declared.trees.Cond.{Cond, Compare', Not', Both', Either'}
use Rattle.tg_tree.specs.declared.linear.Linear.{Linear}
use Rattle.tg_tree.specs.declared.linear.Linear.TheVariants as linear
use Rattle.tg_tree.specs.declared.fragments.Fragment.{Fragment}
use Rattle.tg_tree.specs.declared.fragments.Literal.{Literal}
use Rattle.tg_tree.specs.declared.fragments.Fragments.{Fragments}
use Rattle.tg_tree.specs.Tree as tree

abbrev mutual
  pub plain_tx : Tx → tree.Tx
  plain_tx (Const n) = tree.Const n
  plain_tx (Address label) = tree.Address label.0
  plain_tx (Temp t) = tree.Temp t.0
  plain_tx FrameAddress = tree.FrameAddress
  plain_tx (Binary' op _ a _ b) = tree.Binary op (plain_tx a) (plain_tx b)
  plain_tx (Load' _ a) = tree.Load (plain_tx a)
  plain_tx (LoadByte' _ a) = tree.LoadByte (plain_tx a)
  plain_tx (Call' label _ row) = tree.Call label.0 (plain_txs row)
  plain_tx (Service' n _ a) = tree.Service n (plain_tx a)
  plain_tx (After' _ s _ a) = tree.After (plain_ts s) (plain_tx a)

  pub plain_txs : {n : _} → Row_of-Tx n → tree.Txs
  plain_txs end_of-Tx = tree.no_txs
  plain_txs (more_of-Tx a rest) = tree.tx (plain_tx a) (plain_txs rest)

  pub plain_cond : Cond → tree.Cond
  plain_cond (Compare' rel _ a _ b) = tree.Compare rel (plain_tx a) (plain_tx b)
  plain_cond (Not' _ c) = tree.Not (plain_cond c)
  plain_cond (Both' _ c _ d) = tree.Both (plain_cond c) (plain_cond d)
  plain_cond (Either' _ c _ d) = tree.Either (plain_cond c) (plain_cond d)

  pub plain_ts : Ts → tree.Ts
  plain_ts (Move t a) = tree.Move t.0 (plain_tx a)
  plain_ts (Store a b) = tree.Store (plain_tx a) (plain_tx b)
  plain_ts (StoreByte a b) = tree.StoreByte (plain_tx a) (plain_tx b)
  plain_ts (Do a) = tree.Do (plain_tx a)
  plain_ts (If' c _ s _ t) = tree.If (plain_cond c) (plain_ts s) (plain_ts t)
  plain_ts (Loop' _ s) = tree.Loop (plain_ts s)
  plain_ts (Break n) = tree.Break n
  plain_ts (Fault n) = tree.Fault n
  plain_ts (Seq' _ row) = tree.Seq (plain_stms row)
  plain_ts (Return a) = tree.Return (plain_tx a)

  pub plain_stms : {n : _} → Row_of-Ts n → tree.Stms
  plain_stms end_of-Ts = tree.no_stms
  plain_stms (more_of-Ts s rest) = tree.stm (plain_ts s) (plain_stms rest)

abbrev pub plain_linear : Linear → tree.Linear
plain_linear (linear.Mark n) = tree.Mark n
plain_linear (linear.Do s) = tree.Do' (plain_ts s)
plain_linear (linear.Jump n) = tree.Jump n
plain_linear (linear.Branch rel a b n) = tree.Branch rel (plain_tx a) (plain_tx b) n
plain_linear (linear.Fault n) = tree.Fault' n
plain_linear (linear.Return a) = tree.Return' (plain_tx a)

-- a function of this frame, with a body of some form
abbrev pub plain_function : {Body : Type 0} → Frame → Body → tree.Function Body
plain_function frame body = record {
  label = frame.label.0;
  params = frame.params;
  slots = frame.slots;
  temps = frame.temps;
  out = frame.out;
  body = body;
}

abbrev pub plain_fragment : Fragment → tree.Function tree.Ts
plain_fragment f = plain_function f.frame (plain_ts f.body)

abbrev pub plain_literal : Literal → tree.Literal
plain_literal l = record { label = l.label.0; text = l.text }

abbrev pub plain_fragments : Fragments → tree.Code tree.Ts
plain_fragments f = record {
  functions = map plain_fragment f.functions.items;
  literals = map plain_literal f.literals.items;
}
