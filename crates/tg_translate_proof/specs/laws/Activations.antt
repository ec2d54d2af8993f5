-- A variable that a nested function changes is the one in its activation: the static links lead to
-- the current activation of the function that declares it, and the word there changes alone.
use Rattle.std.specs.Prelude.{ℕ, suc, ◌-◌, ◌≡◌, ◌≢◌, ◌≤◌, ◌<◌, List, Option, Some, Bool, slice_get}
use Rattle.std.specs.Prelude.{if◌then◌else◌}
use Rattle.tg_syntax.specs.declared.tokens.Ident.{Ident}
use Rattle.tg_syntax.specs.Tree.{Simple}
use Rattle.tg_semantics.specs.Values.{Value, SourceWorld, put_variable}
use Rattle.tg_semantics.specs.Environments.{find, to_variable}
use Rattle.tg_semantics.specs.Evaluation.{in_variable, write_location}
use Rattle.tg_semantics.specs.Passing.{Rest, Passing, passing}
use Rattle.tg_semantics.specs.MachineRuns.{rest_run}
use Rattle.tg_typecheck.specs.Types.{Ty}
use Rattle.tg_semantics.specs.Environments.{name_of}
use Rattle.tg_typecheck.specs.Has.{HasPlace}
use Rattle.tg_tree.specs.Tree.{Tx, Stms}
use Rattle.tg_tree.specs.Operators.{word}
use Rattle.tg_tree.specs.FlatValue.{flat_value}
use Rattle.tg_tree.specs.Memory.{Memory, load, store, slot}
use Rattle.tg_tree.specs.Actions.{World, Temps}
use Rattle.tg_translate.specs.mirror.States.{TranslationState, drawn}
use Rattle.tg_translate.specs.mirror.Constructs.{in_temp, at_address}
use Rattle.tg_translate.specs.mirror.Translate.{locate}
use Rattle.tg_translate_proof.specs.glue.Covered.{CoversName}
use Rattle.tg_translate_proof.specs.glue.Worlds.{Holdings, Stands}
use Rattle.tg_translate_proof.specs.glue.Situations.{Program, Part, Setting, Holds, IsReady}
use Rattle.tg_translate_proof.specs.glue.Situations.{frames_at}

-- an activation's own static link, in its first slot or in its first temporary
abbrev pub link_in : (in_slot : Bool) → Memory → Temps → (base : ℕ) → Option ℕ
link_in in_slot m t base = if in_slot then load m (slot base 0) else t 0

-- the frame so many static links outwards (Appel, chapter 6): the first link is the activation's
-- own, each other stands in the first slot of the frame that was reached
pub data IsFrameOut (m : Memory) (own : Option ℕ) (base : ℕ) : (hops frame : ℕ) → Type 0 where
  at_home : IsFrameOut m own base 0 base
  by_own : (frame : ℕ) → own ≡ Some frame → IsFrameOut m own base 1 frame
  by_slot :
      (hops frame outer : ℕ) → 0 < hops → IsFrameOut m own base hops frame →
      load m (slot frame 0) ≡ Some outer → IsFrameOut m own base (suc hops) outer

module _ (P : Program) where
  -- What an assignment of a value does, for which this word stands, where the translation has this
  -- address for the variable.
  pub record ChangesItsVariable (p : Part) (h : Holdings) (types : List Ty) (s : SourceWorld)
      (w : World) (t : Temps) (x : Ident) (a : Tx) (v : Value) (stands : ℕ) : Type 0 where
    -- evaluation finds the variable's place, and the level of the function that declares it
    pub place : ℕ
    pub level : ℕ
    pub found : find (name_of x) p.env.entries ≡ Some (to_variable level place)
    pub around : level ≤ p.scene.level
    -- as many static links as there are levels between lead to a frame
    pub frame : ℕ
    pub linked :
        IsFrameOut w.memory (link_in p.within.link_in_slot w.memory t p.around.activation.base)
        p.around.activation.base (p.scene.level - level) frame
    -- it is that of the function's current activation, in the run that looks at links
    pub current : slice_get (frames_at P p) (p.scene.level - level) ≡ Some frame
    -- the address is that of a slot of this frame
    pub k : ℕ
    pub address :
        flat_value P.code.literals p.around.activation.base w.memory t a ≡ word (slot frame k)
    -- a store there changes that word, and no other word of memory
    pub after : Memory
    pub stored : store w.memory (slot frame k) stands ≡ Some after
    pub changed : load after (slot frame k) ≡ Some stands
    pub others : (b : ℕ) → b ≢ slot frame k → load after b ≡ load w.memory b
    -- evaluation gives the variable the value, and then both sides have the same again
    pub does :
        (go : Unit {0} → Rest) (out : Rest) (i : ℕ) →
        rest_run
        (write_location Passing (passing P.heap P.stack) (in_variable place) v go out) s i ≡
        rest_run (go tt) (put_variable place v s) i
    pub same : Holds P p h types (put_variable place v s) (record w { memory = after }) t

-- It does so wherever evaluation and the trees stand, in a part of a program whose translation has
-- the variable in a frame: its own activation's, or that of a function further out.
abbrev pub AssignmentsFindTheirActivation : Type 0
AssignmentsFindTheirActivation =
    (P : Program) → Setting P →
    (p : Part) (x : Ident) (type : Ty) (before : Stms) (a : Tx) (σ τ : TranslationState) →
    HasPlace P.shapes P.notes (Simple x) p.scope type →
    CoversName P.findings P.table P.weight p.scene.level p.scene.keeps x →
    locate P.findings (Simple x) p.within σ ≡ drawn (at_address before a) τ →
    (h : Holdings) (types : List Ty) (s : SourceWorld) (w : World) (t : Temps) →
    IsReady P p types σ τ → Holds P p h types s w t →
    (v : Value) (stands : ℕ) → Stands h v type stands →
    ChangesItsVariable P p h types s w t x a v stands

-- And a variable that the translation has in a temporary is one of the function at work.
abbrev pub TemporariesAreOwn : Type 0
TemporariesAreOwn =
    (P : Program) → Setting P →
    (p : Part) (x : Ident) (type : Ty) (i : ℕ) (σ τ : TranslationState) →
    HasPlace P.shapes P.notes (Simple x) p.scope type →
    CoversName P.findings P.table P.weight p.scene.level p.scene.keeps x →
    locate P.findings (Simple x) p.within σ ≡ drawn (in_temp i) τ →
    (types : List Ty) → IsReady P p types σ τ →
    (place : ℕ) × (find (name_of x) p.env.entries ≡ Some (to_variable p.scene.level place))
