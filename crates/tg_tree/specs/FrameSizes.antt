-- Which sizes frames may have in a run, in bytes.
use Rattle.std.specs.Prelude.{◌≡◌, ◌≤◌, ◌<◌, ℕ, ◌+◌, ◌*◌, ◌%◌, List, [], ◌∷◌, map}
use Rattle.std.specs.List.{Contains, sum}
use Rattle.tg_tree.specs.Tree.{Function}
use Rattle.tg_tree.specs.Named as name
use Rattle.tg_tree.specs.Named.{Named}

-- whole words, two at least, and as many as the frame has slots and words for arguments
pub record IsSizeOf {Body : Type 0} (f : Function Body) (n : ℕ) : Type 0 where
  pub words : n % 4 ≡ 0
  pub least : 8 ≤ n
  pub holds : 4 * (f.slots + f.out) ≤ n

-- labels below 32 are the runtime's
abbrev pub IsRuntime : {Body : Type 0} → Function Body → Type 0
IsRuntime f = f.label < 32

module _ {Body : Type 0} (named : Body → List Named) (functions : List (Function Body)) where
  -- functions of the runtime, each of which calls the next
  pub data IsNested : List (Function Body) → Type 0 where
    innermost : (f : Function Body) → Contains functions f → IsRuntime f → IsNested (f ∷ [])
    calling :
        (f g : Function Body) (inner : List (Function Body)) →
        Contains functions f →
        IsRuntime f →
        Contains (named f.body) (name.function g.label) →
        IsNested (g ∷ inner) →
        IsNested (f ∷ g ∷ inner)

  -- with a bound for each function of the source; those of the runtime that are open at once have
  -- 4,096 bytes
  pub record AreAllowed (bound size : ℕ → ℕ) : Type 0 where
    pub each : (f : Function Body) → Contains functions f → IsSizeOf f (size f.label)
    pub source :
        (f : Function Body) → Contains functions f → 32 ≤ f.label → size f.label ≤ bound f.label
    pub runtime :
        (fs : List (Function Body)) → IsNested fs → sum (map (λ f. size f.label) fs) ≤ 4096
