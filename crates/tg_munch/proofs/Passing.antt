-- Names, marks and homes of a function that pass tests, one by one.
use Rattle.std.proofs.Common.{ℕ, ◌<◌, ◌≤◌, List, [], ◌∷◌, Bool, refl, arith}
use Rattle.std.specs.Prelude.{IsTrue}
use Rattle.std.specs.List.{Contains}
use Rattle.std.proofs.lemmas.List.Elements.{Contains-append_right}
use Rattle.tg_frame.specs.declared.accesses.Access.{Access}
use Rattle.tg_frame.specs.declared.accesses.Access.TheVariants.{InTemp, InFrame}
use Rattle.tg_frame.specs.Homes.{slot_bound, temp_bound}
use Rattle.tg_tree.specs.Tree as tree
use Rattle.tg_tree.specs.Tree.{Tx, Txs, no_txs, tx, Cond, Ts, Stms, no_stms, stm, Linear}
use Rattle.tg_tree.specs.Named.{NamesAreAllowed, Named, temporary, named_tx, named_txs, named_cond, named_ts, named_stms, named_flat}
use Rattle.tg_tree.specs.Shapes.{targets}
use Rattle.tg_munch.proofs.Scopes.{Scope}
use Rattle.tg_munch.proofs.Naming.{Passes, AllPass, StatementPasses}
use Rattle.tg_munch.proofs.NamingCode.{CodePasses, HomePasses, HomesPass}

-- each of a list passes a test
abbrev pub Each : {X : Type 0} → (X → Bool) → List X → Type 0
Each {X} p xs = (x : X) → Contains xs x → IsTrue (p x)

front : {X : Type 0} (p : X → Bool) (x : X) (xs : List X) → Each p (x ∷ xs) → IsTrue (p x)
front p x xs h = h x (0, omega arith, refl)

behind : {X : Type 0} (p : X → Bool) (x : X) (xs : List X) → Each p (x ∷ xs) → Each p xs
behind p x xs h y c = h y (Contains-append_right (x ∷ []) xs y c)

module _ (w : Scope) where
  abbrev Pass : List Named → Type 0
  Pass names = NamesAreAllowed w.is_name names

  mutual
    pass_tx : (x : Tx) (after : List Named) → Pass (named_tx x after) → Passes w x × Pass after
    pass_tx (tree.Const n) after h = (tt, behind w.is_name _ after h)
    pass_tx (tree.Address label) after h = (front w.is_name _ after h, behind w.is_name _ after h)
    pass_tx (tree.Temp i) after h = (front w.is_name _ after h, behind w.is_name _ after h)
    pass_tx tree.FrameAddress after h = (tt, h)
    pass_tx (tree.Binary op x y) after h =
        let a = pass_tx x (named_tx y after) h in let b = pass_tx y after a.1 in ((a.0, b.0), b.1)
    pass_tx (tree.Load x) after h = pass_tx x after h
    pass_tx (tree.LoadByte x) after h = pass_tx x after h
    pass_tx (tree.Call label xs) after h =
        let a = pass_txs xs after (behind w.is_name _ (named_txs xs after) h) in
        ((front w.is_name _ (named_txs xs after) h, a.0), a.1)
    pass_tx (tree.Service n x) after h = pass_tx x after (behind w.is_name _ (named_tx x after) h)
    pass_tx (tree.After s x) after h = pass_tx x after (rest_ts s (named_tx x after) h)

    pass_txs : (xs : Txs) (after : List Named) → Pass (named_txs xs after) → AllPass w xs × Pass after
    pass_txs no_txs after h = (tt, h)
    pass_txs (tx x xs) after h =
        let a = pass_tx x (named_txs xs after) h in let b = pass_txs xs after a.1 in ((a.0, b.0), b.1)

    rest_cond : (c : Cond) (after : List Named) → Pass (named_cond c after) → Pass after
    rest_cond (tree.Compare rel x y) after h = (pass_tx y after (pass_tx x (named_tx y after) h).1).1
    rest_cond (tree.Not c) after h = rest_cond c after h
    rest_cond (tree.Both c d) after h = rest_cond d after (rest_cond c (named_cond d after) h)
    rest_cond (tree.Either c d) after h = rest_cond d after (rest_cond c (named_cond d after) h)

    rest_ts : (s : Ts) (after : List Named) → Pass (named_ts s after) → Pass after
    rest_ts (tree.Move i x) after h = (pass_tx x after (behind w.is_name _ (named_tx x after) h)).1
    rest_ts (tree.Store x y) after h = (pass_tx y after (pass_tx x (named_tx y after) h).1).1
    rest_ts (tree.StoreByte x y) after h = (pass_tx y after (pass_tx x (named_tx y after) h).1).1
    rest_ts (tree.Do x) after h = (pass_tx x after h).1
    rest_ts (tree.If c s t) after h =
        rest_ts t after (rest_ts s (named_ts t after) (rest_cond c (named_ts s (named_ts t after)) h))
    rest_ts (tree.Loop s) after h = rest_ts s after h
    rest_ts (tree.Break k) after h = h
    rest_ts (tree.Fault n) after h = behind w.is_name _ after h
    rest_ts (tree.Seq ss) after h = rest_stms ss after h
    rest_ts (tree.Return x) after h = (pass_tx x after h).1

    rest_stms : (ss : Stms) (after : List Named) → Pass (named_stms ss after) → Pass after
    rest_stms no_stms after h = h
    rest_stms (stm s ss) after h = rest_stms ss after (rest_ts s (named_stms ss after) h)

  pass_statement : (s : Ts) (after : List Named) → Pass (named_ts s after) → StatementPasses w s
  pass_statement (tree.Move i x) after h =
      (front w.is_name _ (named_tx x after) h, (pass_tx x after (behind w.is_name _ (named_tx x after) h)).0)
  pass_statement (tree.Store x y) after h = let a = pass_tx x (named_tx y after) h in (a.0, (pass_tx y after a.1).0)
  pass_statement (tree.StoreByte x y) after h = let a = pass_tx x (named_tx y after) h in (a.0, (pass_tx y after a.1).0)
  pass_statement (tree.Do x) after h = (pass_tx x after h).0
  pass_statement _ after h = tt

  pub pass_code : (code : List Linear) → Pass (named_flat code []) → Each w.is_target (targets code) → CodePasses w code
  pass_code [] h t = tt
  pass_code (tree.Mark m ∷ rest) h t = (tt, pass_code rest h t)
  pass_code (tree.Do' s ∷ rest) h t =
      (pass_statement s (named_flat rest []) h, pass_code rest (rest_ts s (named_flat rest []) h) t)
  pass_code (tree.Jump m ∷ rest) h t =
      (front w.is_target m (targets rest) t, pass_code rest h (behind w.is_target m (targets rest) t))
  pass_code (tree.Branch rel x y m ∷ rest) h t =
      let a = pass_tx x (named_tx y (named_flat rest [])) h in
      let b = pass_tx y (named_flat rest []) a.1 in
      ((a.0, b.0, front w.is_target m (targets rest) t), pass_code rest b.1 (behind w.is_target m (targets rest) t))
  pass_code (tree.Fault' n ∷ rest) h t =
      (front w.is_name _ (named_flat rest []) h, pass_code rest (behind w.is_name _ (named_flat rest []) h) t)
  pass_code (tree.Return' x ∷ rest) h t = let a = pass_tx x (named_flat rest []) h in (a.0, pass_code rest a.1 t)

  pub slots_pass : (homes : List Access) (slots : ℕ) → ((k : ℕ) → k < slots → IsTrue (w.is_slot k)) →
      ((t : ℕ) → IsTrue (w.is_name (temporary t))) →
      slot_bound homes ≤ slots → HomesPass w homes
  slots_pass [] slots f g le = tt
  slots_pass (InTemp t ∷ homes) slots f g le = (g t.0, slots_pass homes slots f g le)
  slots_pass (InFrame k ∷ homes) slots f g le = (f k (omega arith), slots_pass homes slots f g (omega arith))

  pub temps_pass : (homes : List Access) (temps : ℕ) → ((t : ℕ) → t < temps → IsTrue (w.is_name (temporary t))) →
      ((k : ℕ) → IsTrue (w.is_slot k)) →
      temp_bound homes ≤ temps → HomesPass w homes
  temps_pass [] temps f g le = tt
  temps_pass (InTemp t ∷ homes) temps f g le = (f t.0 (omega arith), temps_pass homes temps f g (omega arith))
  temps_pass (InFrame k ∷ homes) temps f g le = (g k, temps_pass homes temps f g le)

  pub all_homes_pass : (homes : List Access) → ((home : Access) → HomePasses w home) → HomesPass w homes
  all_homes_pass [] f = tt
  all_homes_pass (home ∷ homes) f = (f home, all_homes_pass homes f)
