-- Where a part of a program's text stands, and what evaluation and the trees have there.
use Rattle.std.specs.Prelude.{ℕ, zero, suc, ◌+◌, ◌-◌, ◌==◌, ◌≡◌, ◌≢◌, ◌≤◌, ◌<◌, ◌⊎◌, List, [], ◌∷◌, ◌++◌}
use Rattle.std.specs.Prelude.{Option, Some, None, Bool, true, false, slice_get, is_some, length}
use Rattle.std.specs.Prelude.{if◌then◌else◌}
use Rattle.std.specs.List.{Contains}
use Rattle.tg_machine_state.specs.State.{stack_top, most_room, most_bytes}
use Rattle.tg_frame.specs.declared.accesses.Access.{Access}
use Rattle.tg_frame.specs.declared.accesses.Access.TheVariants.{InTemp, InFrame}
use Rattle.tg_syntax.specs.declared.tokens.Ident.{Ident}
use Rattle.tg_syntax.specs.declared.trees.Param.{Param}
use Rattle.tg_syntax.specs.OfWords.{OfWords}
use Rattle.tg_syntax.specs.Tree.{Exp, FunDecs, no_functions, function}
use Rattle.tg_syntax.specs.Functions.{own_params}
use Rattle.tg_symbols.specs.Tables.{looked_up}
use Rattle.tg_simulation.specs.Runs.{Run}
use Rattle.tg_simulation.specs.Ran.{Ran}
use Rattle.tg_semantics.specs.Values.{Value, int, Entry, variable as variable_entry, group, Env}
use Rattle.tg_semantics.specs.Values.{standard}
use Rattle.tg_semantics.specs.Values.{SourceWorld}
use Rattle.tg_semantics.specs.Environments.{outermost_entries}
use Rattle.tg_semantics.specs.Levels.{levels_of, function_weight}
use Rattle.tg_semantics.specs.Evaluation.{function_count}
use Rattle.tg_typecheck.specs.declared.notes.Note.{Note}
use Rattle.tg_typecheck.specs.declared.notes.Means.{Means}
use Rattle.tg_typecheck.specs.Types.{Ty, Shape, int_type}
use Rattle.tg_typecheck.specs.Scopes.{Scope, Binding, variable_at, standard_bindings, Signature}
use Rattle.tg_typecheck.specs.Scopes.{at_of}
use Rattle.tg_typecheck.specs.Scopes.{in_no_loop}
use Rattle.tg_typecheck.specs.Groups.{with_functions, with_params}
use Rattle.tg_typecheck.specs.Has.{Has, HasValues, HaveValues, GivesBack, Fits, Says, Apart}
use Rattle.tg_typecheck.specs.Has.{ShapesHaveValues}
use Rattle.tg_tree.specs.Tree.{Tx, Txs, Cond, Ts, Stms, Temp, Literal, Function, Code}
use Rattle.tg_tree.specs.Units.{Trees}
use Rattle.tg_tree.specs.FrameSizes.{IsSizeOf}
use Rattle.tg_tree.specs.Memory.{slot, statics_of, literal_address, string_text}
use Rattle.tg_tree.specs.Actions.{World, Temps, set_temp, Around, Go, Next}
use Rattle.tg_tree.specs.Meaning as meaning
use Rattle.tg_tree.specs.Meaning.{Enter, Point}
use Rattle.tg_tree.specs.Running.{with_fuel, function_of}
use Rattle.tg_tree.specs.Links.{LinkedPoint, linked_going, enter_linked}
use Rattle.tg_runtime.specs.declared.routines.Routine.{Routine}
use Rattle.tg_runtime.specs.mirror.Labels.{label_of}
use Rattle.tg_translate.specs.declared.homes.Home.{Home}
use Rattle.tg_translate.specs.declared.homes.Callee.{Callee}
use Rattle.tg_translate.specs.declared.homes.Within.{Within}
use Rattle.tg_translate.specs.mirror.States.{TranslationState, drawn}
use Rattle.tg_translate.specs.mirror.Scopes.{Findings}
use Rattle.tg_translate.specs.mirror.Purity.{assigns_nothing}
use Rattle.tg_translate.specs.mirror.Functions.{asked, frame_for, opened, with_body, body_in}
use Rattle.tg_translate.specs.mirror.Translate.{expression}
use Rattle.tg_runtime_proof.specs.Settings.{HasRuntime}
use Rattle.tg_translate_proof.specs.glue.Covered.{Keeping, with_level, Covers}
use Rattle.tg_translate_proof.specs.glue.Tables.{Table, IsMoment, HasFound}
use Rattle.tg_translate_proof.specs.glue.Worlds.{Holdings, IsText, Key, cell, temporary, kept}
use Rattle.tg_translate_proof.specs.glue.Worlds.{Places, free, nowhere, AllTemps, IsOf, Invariant}
use Rattle.tg_translate_proof.specs.glue.Worlds.{Scene, IsScene}

-- What is the same for all parts of a program.
pub record Program : Type 0 where
  pub shapes : List (ℕ × Shape)  -- of its record and array types, by their bytes
  pub notes : List Note  -- what the checks noted
  pub findings : Findings  -- what the translation is handed
  pub table : Table  -- what the finished translation has found
  pub weight : (at : ℕ) → ℕ  -- of an activation of each function, by the byte of its name
  pub code : Code Ts  -- its trees, with the runtime's
  pub size : (label : ℕ) → ℕ  -- of frames, in bytes
  pub level : (label : ℕ) → ℕ  -- of declared functions
  pub heap : ℕ  -- the bytes that the heap may have
  pub stack : ℕ  -- the bytes that the stack may have

-- the frames that begin at these addresses, by levels, the innermost first
abbrev pub frames_of : (chain : (level : ℕ) → ℕ) → (level : ℕ) → List ℕ
frames_of chain zero = chain zero ∷ []
frames_of chain (suc l) = chain (suc l) ∷ frames_of chain l

abbrev pub with_temps : (depth : ℕ) → Temps → AllTemps → AllTemps
with_temps d t ts e = if e == d then t else ts e

abbrev pub key_of : Scene → (level : ℕ) → Access → Key
key_of c l (InTemp t) = temporary c.depth t.0
key_of c l (InFrame k) = cell (slot (c.chain l) k)

-- a home outside the activation at work is a slot
abbrev pub IsNear : Scene → (level : ℕ) → Access → Type 0
IsNear c l (InTemp t) = l ≡ c.level
IsNear c l (InFrame k) = l ≤ c.level

-- variables are added to those that are there
abbrev pub Extends : (types more : List Ty) → Type 0
Extends types more = (i : ℕ) (a : Ty) → slice_get types i ≡ Some a → slice_get more i ≡ Some a

-- a part of a program's text: where it stands, and what evaluation and the trees have there
pub record Part : Type 0 where
  pub scope : Scope
  pub env : Env
  pub within : Within
  pub scene : Scene
  pub places : Places
  pub others : AllTemps  -- the temporaries of the callers
  pub around : Around

module _ (P : Program) where
  abbrev pub floor : ℕ
  floor = stack_top - P.stack

  -- The run that is simulated: a call whose static link is no right one goes wrong there.
  abbrev pub going : LinkedPoint → Run Ran
  going = linked_going Trees P.code P.size floor P.heap P.level

  -- what calls do, and how a loop goes on from its head, in an activation with these frames around
  abbrev pub calling : (frames : List ℕ) → Enter
  calling frames = enter_linked Trees P.code P.size floor P.heap P.level going frames

  abbrev pub going_on : (frames : List ℕ) → Point → Run Ran
  going_on frames q = going (record { point = q; frames = frames })

  abbrev pub heads : (frames : List ℕ) → Point → Run Ran
  heads frames q = with_fuel q.world (going_on frames q)

  -- the frames of a part's activation
  abbrev pub frames_at : Part → List ℕ
  frames_at p = frames_of p.scene.chain p.scene.level

  -- what the pieces of trees do in a part

  abbrev pub value_runs : Part → Tx → Around → Go ℕ → World → Temps → Run Ran
  value_runs p =
      meaning.value Trees P.heap P.code.literals (calling (frames_at p)) (heads (frames_at p))

  abbrev pub values_run : Part → Txs → Around → Go (List ℕ) → World → Temps → Run Ran
  values_run p =
      meaning.values Trees P.heap P.code.literals (calling (frames_at p)) (heads (frames_at p))

  abbrev pub test_runs : Part → Cond → Around → Go Bool → World → Temps → Run Ran
  test_runs p =
      meaning.test Trees P.heap P.code.literals (calling (frames_at p)) (heads (frames_at p))

  abbrev pub statement_runs : Part → Ts → Around → Next → World → Temps → Run Ran
  statement_runs p =
      meaning.run Trees P.heap P.code.literals (calling (frames_at p)) (heads (frames_at p))

  abbrev pub statements_run : Part → Stms → Around → Next → World → Temps → Run Ran
  statements_run p =
      meaning.run_all Trees P.heap P.code.literals (calling (frames_at p)) (heads (frames_at p))

  -- A declared function is done: the code has its text, translated where its scope was found. Its
  -- text has the type of its result, ints and bytes for words, and what was found fits it.
  pub record IsDone (scope : Scope) (level : ℕ) (keeps : Keeping) (seen : List Entry) (f : Ident)
      (ps : List Param) (has_result : Bool) (e : Exp) (sig : Signature) : Type 0 where
    pub ty : Ty
    pub many : length ps ≡ length sig.params
    pub typed : Has P.shapes P.notes e (with_params ps sig.params (in_no_loop scope)) ty
    pub fits : Fits ty sig.result
    pub result : GivesBack has_result sig.result
    pub params_have_values : HaveValues sig.params
    pub words : OfWords e
    pub covers :
        Covers P.findings P.table P.weight (suc level)
        (with_level (suc level) (P.findings.keeps_link (at_of f)) keeps)
        (own_params (suc level) ps (levels_of seen)) e
    pub callee : Callee
    pub tabled : looked_up (at_of f) P.table.callees ≡ Some callee
    pub level_is : callee.level ≡ level
    pub within : Within
    pub inner : within.level ≡ level
    pub before : TranslationState
    pub last : TranslationState
    pub text : Ts
    pub saw : HasFound P.table before scope.bindings
    pub is_text :
        body_in
        (frame_for callee.label.0 (asked P.findings.escapes (P.findings.keeps_link (at_of f)) ps))
        ps (P.findings.keeps_link (at_of f)) has_result
        (λ w v. expression P.findings e w v) within
        (opened before
        (frame_for callee.label.0
        (asked P.findings.escapes (P.findings.keeps_link (at_of f)) ps))) ≡
        drawn text last
    pub moment : IsMoment P.table P.code last
    pub there : function_of callee.label.0 P.code.functions ≡ Some (with_body last.frame text)

  -- a group's functions, each with its signature
  abbrev pub AreDone :
      Scope → (level : ℕ) → Keeping → List Entry → FunDecs → List Signature → Type 0
  AreDone scope l keeps seen no_functions [] = Unit {0}
  AreDone scope l keeps seen (function f ps r e rest) (s ∷ ss) =
      IsDone scope l keeps seen f ps (is_some r) e s × AreDone scope l keeps seen rest ss
  AreDone scope l keeps seen _ _ = ⊥

  -- functions of a group weigh what their text weighs, and no two have one name
  abbrev pub AllWeigh : (level : ℕ) → List Entry → FunDecs → Type 0
  AllWeigh l seen no_functions = Unit {0}
  AllWeigh l seen (function f ps r e rest) =
      (P.weight (at_of f) ≡ function_weight l (record { params = ps; body = e }) seen) ×
      AllWeigh l seen rest

  abbrev pub GroupsFit : List Entry → Type 0
  GroupsFit [] = Unit {0}
  GroupsFit (variable_entry x l place ∷ es) = GroupsFit es
  GroupsFit (group l fs ∷ es) = Apart fs × AllWeigh l (group l fs ∷ es) fs × GroupsFit es
  GroupsFit (standard x f ∷ es) = GroupsFit es

  -- what names stand for: in evaluation, in typing, and by the table in memory
  pub data Along (places : Places) (types : List Ty) (c : Scene)
      : (level : ℕ) → List Entry → List (ℕ × Binding) → Type 0 where
    nothing_declared :
        (level : ℕ) (names : List (List ℕ)) →
        Along places types c level (outermost_entries names) (standard_bindings 0 names)
    a_variable :
        (level l x at place : ℕ) (t : Ty) (loop : Bool) (home : Home) (es : List Entry)
        (bs : List (ℕ × Binding)) →
        l ≤ level →
        HasValues t →
        looked_up at P.table.homes ≡ Some home → home.level ≡ l →
        -- of an outer function's variable in a temporary nothing is said: it isn't used from here
        (IsNear c l home.access → IsOf place (places (key_of c l home.access))) →
        slice_get types place ≡ Some t →
        Along places types c level es bs →
        Along places types c level (variable_entry x l place ∷ es) ((x, variable_at at t loop) ∷ bs)
    a_group :
        (level l : ℕ) (keeps : Keeping) (fs : FunDecs) (ss : List Signature) (es : List Entry)
        (scope : Scope) →
        l ≤ level →
        ((k : ℕ) → k ≤ l → keeps k ≡ c.keeps k) →
        length ss ≡ function_count fs →
        AreDone (with_functions fs ss scope) l keeps (group l fs ∷ es) fs ss →
        Along places types c l es scope.bindings →
        Along places types c level (group l fs ∷ es) (with_functions fs ss scope).bindings

  -- what both sides have where a part begins, and wherever it goes on
  pub record Holds (p : Part) (h : Holdings) (types : List Ty) (s : SourceWorld) (w : World)
      (t : Temps) : Type 0 where
    pub invariant :
        Invariant P.shapes P.heap floor p.places h types s w (with_temps p.scene.depth t p.others)
    pub weight : s.weight ≡ p.scene.weight
    pub depth : s.depth ≡ p.scene.depth
    -- the statics are the literals, each of which is known at its address
    pub statics : w.memory.statics ≡ statics_of P.code.literals
    pub literals :
        (a label : ℕ) (bytes : List ℕ) →
        Contains P.code.literals (record { label = label; text = string_text bytes }) →
        literal_address P.code.literals label ≡ Some a →
        IsText h a bytes

  -- What is known where a part is translated from this state to that one. Temporaries that are
  -- drawn later may be in use already, as those of operands that are held.
  pub record IsReady (p : Part) (types : List Ty) (σ τ : TranslationState) : Type 0 where
    pub scene : IsScene floor P.stack p.places p.scene
    pub along : Along p.places types p.scene p.scene.level p.env.entries p.scope.bindings
    pub fits : GroupsFit p.env.entries
    pub found : HasFound P.table σ p.scope.bindings
    pub moment : IsMoment P.table P.code τ
    pub level : p.within.level ≡ p.scene.level
    pub same_level : p.env.level ≡ p.scene.level
    pub links : p.within.link_in_slot ≡ p.scene.keeps p.scene.level
    pub slots_free :
        (k : ℕ) → σ.frame.slots ≤ k → k < τ.frame.slots →
        p.places (cell (slot p.scene.activation.base k)) ≡ free
    pub temps_free :
        (i : ℕ) → σ.frame.temps ≤ i → i < τ.frame.temps →
        p.places (temporary p.scene.depth i) ≡ nowhere
    pub slots_there : τ.frame.slots ≤ p.scene.slots
    pub activation : p.around.activation ≡ p.scene.activation

  -- nothing of the activation at work is kept while it is evaluated, or it assigns nothing
  abbrev pub MayAssign : Part → Exp → Type 0
  MayAssign p e =
      (assigns_nothing e ≡ true) ⊎
      ((i place u : ℕ) → p.places (temporary p.scene.depth i) ≢ kept place u)

  -- what was found fits a text that stands here
  abbrev pub IsCovered : Part → Exp → Type 0
  IsCovered p e =
      Covers P.findings P.table P.weight p.scene.level p.scene.keeps (levels_of p.env.entries) e

  -- what is known of the program
  pub record Setting : Type 0 where
    -- what is noted is found
    pub found : (at : ℕ) (m : Means) → Says P.notes at m → P.findings.meaning at ≡ Some m
    -- there are values of each field and element
    pub shapes_have_values : ShapesHaveValues P.shapes
    -- no variable and no function is declared twice, so what a state has found stays
    pub homes_once :
        (at : ℕ) (home : Home) (more rest : List (ℕ × Home)) → P.table.homes ≡ more ++ rest →
        looked_up at rest ≡ Some home → looked_up at P.table.homes ≡ Some home
    pub callees_once :
        (at : ℕ) (callee : Callee) (more rest : List (ℕ × Callee)) →
        P.table.callees ≡ more ++ rest →
        looked_up at rest ≡ Some callee → looked_up at P.table.callees ≡ Some callee
    -- a variable that escapes is in its frame
    pub escaped :
        (at : ℕ) (home : Home) → looked_up at P.table.homes ≡ Some home →
        P.findings.escapes at ≡ true → (k : ℕ) × (home.access ≡ InFrame k)
    -- a declared function has a label above the runtime's, and the level of its text
    pub labels :
        (at : ℕ) (callee : Callee) → looked_up at P.table.callees ≡ Some callee →
        32 ≤ callee.label.0
    pub levels :
        (at : ℕ) (callee : Callee) → looked_up at P.table.callees ≡ Some callee →
        P.level callee.label.0 ≡ suc callee.level
    -- frames have allowed sizes: those of declared functions by what they weigh
    pub sizes :
        (f : Function Ts) → function_of f.label P.code.functions ≡ Some f →
        IsSizeOf f (P.size f.label)
    pub light :
        (at : ℕ) (callee : Callee) → looked_up at P.table.callees ≡ Some callee →
        P.size callee.label.0 ≤ P.weight at
    pub light_runtime : (one : Routine) → P.size (label_of one) ≤ 4096
    -- the runtime is there
    pub runtime : HasRuntime P.code.functions
    -- heap, stack and statics are within their regions, and apart
    pub heap_small : P.heap ≤ most_room
    pub stack_small : P.stack ≤ most_room
    pub statics_small : length (statics_of P.code.literals) ≤ most_bytes
