-- A function in canonical form is no longer, and what is drawn for it is within its tree's needs: where the induction over trees is at rest.
use Rattle.std.proofs.Common.{ℕ, ◌+◌, ◌≤◌, [], arith}
use Rattle.tg_simulation.specs.Ran.{Wrong}
use Rattle.tg_simulation.proofs.Simulations.{simulates_stopping}
use Rattle.tg_tree.specs.Tree.{Ts, Move, Store, StoreByte, Do, If, Loop, Break, Fault, Seq, Return, Function}
use Rattle.tg_tree.specs.Units.{Canonical}
use Rattle.tg_tree.specs.Sizes.{statements_length, statements_needs, in_canonical, tree_length, tree_needs, canonical_length, canonical_needs}
use Rattle.tg_tree.specs.Named.{named_ts}
use Rattle.tg_tree.specs.Actions.{wrong}
use Rattle.tg_tree.proofs.NamesPassing.{body_passes}
use Rattle.tg_canon.specs.laws.Meaning.{canonical, HasOwnTemps, added_length, added_needs}
use Rattle.tg_canon.specs.mirror.Canon.{statements_of, linear}
use Rattle.tg_canon.proofs.Naming.{IsBelow, below_more}
use Rattle.tg_canon.proofs.Sizing.{size, takes}
use Rattle.tg_canon.proofs.Fixed.{Scene}
use Rattle.tg_canon.proofs.Tests.{JoinsPay}
use Rattle.tg_canon.proofs.Carried.{PartIs, linear_at}

abbrev idle : ℕ → Scene
idle own = record {
  fuel = 0;
  room = 0;
  literals = [];
  enter = λ label vs top back w. wrong w;
  enter' = λ label vs top back w. wrong w;
  later = λ p. wrong p.world;
  later' = λ p. wrong p.world;
  own = own;
  calls = λ label vs top back back' w r h. simulates_stopping 1 (r + 0) 0 w.input Wrong;
}

statements_count : (s : Ts) → (statements_length Canonical (statements_of s) ≤ size s) × (statements_needs in_canonical (statements_of s) ≤ takes s)
statements_count (Seq ss) = (omega arith, omega arith)
statements_count (Move i x) = (omega arith, omega arith)
statements_count (Store x y) = (omega arith, omega arith)
statements_count (StoreByte x y) = (omega arith, omega arith)
statements_count (Do x) = (omega arith, omega arith)
statements_count (If c s t) = (omega arith, omega arith)
statements_count (Loop s) = (omega arith, omega arith)
statements_count (Break k) = (omega arith, omega arith)
statements_count (Fault k) = (omega arith, omega arith)
statements_count (Return x) = (omega arith, omega arith)

module _ (pay : JoinsPay) (f : Function Ts) (own : HasOwnTemps f) where
  part : PartIs (idle f.temps) (λ k. k) f.body f.temps (linear (λ k. k) f.body f.temps).it (linear (λ k. k) f.body f.temps).next
  part =
      linear_at (idle f.temps) pay (λ out s k passes le J r a o o' b b' next next' kept outs backs nexts w t t' near. simulates_stopping 1 r 0 w.input Wrong)
      f.body (λ k. k) f.temps (body_passes (IsBelow f.temps) f.body (below_more f.temps f.temps (named_ts f.body []) (omega arith) own)) (omega arith)

  pub length_stays : canonical_length (canonical f) ≤ tree_length f + added_length
  length_stays = let p = part in let n = p.length in let c = (statements_count (linear (λ k. k) f.body f.temps).it.statement).0 in omega arith

  pub needs_stay : canonical_needs (canonical f) ≤ tree_needs f + added_needs
  needs_stay = let p = part in let n = p.room in let c = (statements_count (linear (λ k. k) f.body f.temps).it.statement).1 in omega arith
