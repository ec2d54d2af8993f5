-- Static links that are right, and one that isn't, each computed by the definition itself.
use Rattle.std.proofs.Common.{◌≡◌, ℕ, ◌-◌, List, [], ◌∷◌, ◌++◌, ap, refl}
use Rattle.std.specs.Prelude.{pos}
use Rattle.tg_machine_state.specs.declared.ends.RunEnd.TheVariants.{Exit}
use Rattle.tg_machine_state.specs.State.{stack_top}
use Rattle.tg_frame.specs.declared.accesses.Access.{Access}
use Rattle.tg_frame.specs.declared.accesses.Access.TheVariants.{InFrame}
use Rattle.tg_simulation.specs.Ran.{Ran, Stop, Ended, Wrong}
use Rattle.tg_tree.specs.declared.operators.Bin.TheVariants.{Sub}
use Rattle.tg_tree.specs.Tree.{Tx, Const, FrameAddress, Binary, Load, Call, Service, Ts, Store, Do, Return, Function, Code}
use Rattle.tg_tree.specs.Units.{Trees}
use Rattle.tg_tree.specs.Forms.{txs, sequence}
use Rattle.tg_tree.specs.Running.{tree_run}
use Rattle.tg_tree.specs.Links.{linked_run, LinksAreRight}

abbrev fun : (label : ℕ) → List Access → Ts → Function Ts
fun label params body = record { label = label; params = params; slots = 1; temps = 0; out = 0; body = body }

abbrev home : Tx
home = Binary Sub FrameAddress (Const 4)

-- The program's body declares 33, in which 34 is declared, which writes the low byte of the link that it was given. The call of 34
-- hands this link on.
abbrev program : (link : Tx) → Code Ts
program link = record {
  functions =
      fun 32 [] (sequence (Store home (Const 7) ∷ Do (Call 33 (txs (FrameAddress ∷ []))) ∷ Return (Const 0) ∷ [])) ∷
      fun 33 (InFrame 0 ∷ []) (sequence (Do (Call 34 (txs (link ∷ []))) ∷ Return (Const 0) ∷ [])) ∷
      fun 34 (InFrame 0 ∷ []) (sequence (Do (Service 11 (Load home)) ∷ Return (Const 0) ∷ [])) ∷ [];
  literals = [];
}

abbrev seen : Ran → Stop
seen p = p.stop

abbrev plainly : (link : Tx) → Stop
plainly link = seen (tree_run Trees (program link) (λ label. 8) (stack_top - 256) 8 32 [] 2)

abbrev linked : (level : ℕ → ℕ) → (link : Tx) → Stop
linked level link = seen (linked_run Trees (program link) (λ label. 8) (stack_top - 256) 8 level 32 [] 2)

right_link : linked (λ label. label - 32) FrameAddress ≡ Ended (Exit (pos 0))
right_link = refl

-- where 34 is declared beside 33, it is given the link of its caller
right_link_of_a_sibling : linked (λ label. 1) (Load home) ≡ Ended (Exit (pos 0))
right_link_of_a_sibling = refl

wrong_link_of_a_sibling : linked (λ label. 1) FrameAddress ≡ Wrong
wrong_link_of_a_sibling = refl

-- the caller's own link, where its frame address is due
wrong_link : linked (λ label. label - 32) (Load home) ≡ Wrong
wrong_link = refl

-- What another body of the same code would do doesn't matter: that of 35 follows no link, so its links are right.
abbrev beside : Code Ts
beside = record (program (Load home)) { functions = (program (Load home)).functions ++ fun 35 [] (Return (Const 0)) ∷ [] }

right_beside_wrong : LinksAreRight Trees beside (λ label. 8) (stack_top - 256) 8 (λ label. label - 32) 35 []
right_beside_wrong n = refl

not_all_are_right : LinksAreRight Trees beside (λ label. 8) (stack_top - 256) 8 (λ label. label - 32) 32 [] → ⊥
not_all_are_right h = by (ap seen (h 2))
  where
    by : Wrong ≡ Ended (Exit (pos 0)) → ⊥
    by e = cc

wrong_link_runs : plainly (Load home) ≡ Ended (Exit (pos 0))
wrong_link_runs = refl
