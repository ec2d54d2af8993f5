-- A program follows its source, from its first activation on, where each expression does.
use Rattle.std.proofs.Common.{◌≡◌, suc, ◌++◌, ◌≢◌, ◌<◌, ◌≤◌, ℕ, ◌+◌, ◌-◌, ◌*◌, List, [], ◌∷◌, Option, Some, Bool, true, false}
use Rattle.std.proofs.Common.{refl, sym, ap, ◌∙◌, arith, subst, inl, inr}
use Rattle.std.specs.Prelude.{if◌then◌else◌, All, nat_lt, pos}
use Rattle.std.specs.List.{Contains}
use Rattle.std.proofs.lemmas.Bool.{ltb-true, lt-ltb, cases_lt}
use Rattle.tg_machine_state.specs.declared.ends.RunEnd.TheVariants.{Exit, StackFull}
use Rattle.tg_machine_state.specs.State.{stack_top}
use Rattle.tg_syntax.specs.OfWords.{OfWords}
use Rattle.tg_syntax.specs.Tree.{Exp}
use Rattle.tg_simulation.specs.Runs.{Run}
use Rattle.tg_simulation.specs.Ran.{Ran, Ended, works}
use Rattle.tg_simulation.specs.Outcomes.{ended, stuck}
use Rattle.tg_simulation.specs.Changes.{passes_limit}
use Rattle.tg_simulation.specs.Agreement.{Source, Follows}
use Rattle.tg_simulation.proofs.Following.{follows_along, follows_passing, follows_full, follows_working, follows_with_credit}
use Rattle.tg_semantics.specs.Values.{Value, SourceWorld, normal, Env}
use Rattle.tg_semantics.specs.Environments.{outermost_entries}
use Rattle.tg_semantics.specs.Levels.{program_weight}
use Rattle.tg_semantics.specs.Passing.{Rest, ends}
use Rattle.tg_semantics.specs.MachineRuns.{program_run, rest_run, as_source}
use Rattle.tg_semantics.proofs.Unfolding.{program_unfolds}
use Rattle.tg_typecheck.specs.Types.{Ty}
use Rattle.tg_typecheck.specs.Scopes as scopes
use Rattle.tg_typecheck.specs.Has.{Has}
use Rattle.tg_tree.specs.Tree.{Ts, Const, Return, Function}
use Rattle.tg_tree.specs.Units.{Trees}
use Rattle.tg_tree.specs.Memory.{statics_of, string_text, slot, begin}
use Rattle.tg_tree.specs.Actions.{World, Temps, Around, Next, over, wrong}
use Rattle.tg_tree.specs.FrameSizes.{IsSizeOf}
use Rattle.tg_tree.specs.Running as running
use Rattle.tg_tree.specs.Running.{function_of, entered, placed, without_slots, no_temps, body_point, Runner}
use Rattle.tg_tree.specs.Links.{linked_run, run_linked_body}
use Rattle.tg_tree.proofs.Linked.{linked_own}
use Rattle.tg_runtime_proof.proofs.Literals.{text_of}
use Rattle.tg_translate.specs.declared.wants.Want.TheVariants as want
use Rattle.tg_translate.specs.mirror.States.{TranslationState, drawn}
use Rattle.tg_translate.specs.mirror.Wants.{Made, dropped}
use Rattle.tg_translate.specs.mirror.Functions as functions
use Rattle.tg_translate.specs.mirror.Functions.{beginning, frame_for, with_body, gives_nothing}
use Rattle.tg_translate.specs.mirror.Translate.{expression}
use Rattle.tg_correctness.specs.laws.Laws.{tree_work, tree_besides}
use Rattle.tg_translate_proof.specs.glue.Tables.{IsMoment}
use Rattle.tg_translate_proof.specs.glue.Covered.{Covers}
use Rattle.tg_translate_proof.specs.glue.Worlds.{cell, temporary, kept, free}
use Rattle.tg_translate_proof.specs.glue.Situations as situations
use Rattle.tg_translate_proof.specs.glue.Situations.{Program, Part, Setting, Holds, IsReady, floor, statement_runs, nothing_declared, with_temps}
use Rattle.tg_translate_proof.specs.glue.Shown.{ExpressionFollows, Situation, FollowsHere, evaluates}
use Rattle.tg_translate_proof.proofs.invariant.Cases.{dropped_follows}
use Rattle.tg_translate_proof.proofs.state.StatesGrow.{expression_grows, frame_by, FrameStays}
use Rattle.std.specs.Str.{bytes_eq}
use Rattle.tg_semantics.specs.declared.standards.Standard.{Standard}
use Rattle.tg_semantics.specs.Values.{standard, Entry}
use Rattle.tg_semantics.specs.Environments.{standards, standards_of, standard_text, outermost_from}
use Rattle.tg_translate_proof.specs.glue.Situations.{GroupsFit}
use Rattle.tg_translate_proof.proofs.program.FirstActivation.{first_source, first_world, first_scene, first_places, first_invariant, first_literal}
use Rattle.tg_translate_proof.proofs.program.FirstActivation.{first_is_scene, h0, statics_are, content_of, in_slots, no_levels, outermost_found}
use Rattle.tg_translate_proof.proofs.invariant.Parts.{stop_follows}

-- the first state of a translation
abbrev pub first_state : TranslationState
first_state = beginning 33 (frame_for 32 [])

-- A program's body as it was translated, and the statics: what the first activation begins with.
pub record IsBegun (P : Program) (names : List (List ℕ)) (body : Exp) : Type 0 where
  pub ty : Ty
  pub typed : Has P.shapes P.notes body (scopes.outermost_scope names) ty
  pub words : OfWords body
  pub covers : Covers P.findings P.table P.weight 0 (λ k. false) [] body
  pub made : Made
  pub last : TranslationState
  pub is_made : expression P.findings body want.Dropped functions.outermost first_state ≡ drawn made last
  pub moment : IsMoment P.table P.code last
  pub there : function_of 32 P.code.functions ≡ Some (with_body last.frame (gives_nothing made))
  pub light : P.size 32 ≤ program_weight body
  -- statics are bytes, and each literal is the first with its label
  pub static_bytes : All (λ b. b < 256) (statics_of P.code.literals)
  pub each_bytes :
      (label : ℕ) (bytes : List ℕ) → Contains P.code.literals (record { label = label; text = string_text bytes }) → All (λ b. b < 256) bytes
  pub once :
      (label : ℕ) (text : List ℕ) → Contains P.code.literals (record { label = label; text = text }) → text_of label P.code.literals ≡ Some text

standards_fit : (P : Program) (text : List ℕ) (k : ℕ) (fs : List Standard) (rest : List Entry) → GroupsFit P rest → GroupsFit P (standards_of text k fs ++ rest)
standards_fit P text k [] rest h = h
standards_fit P text k (f ∷ fs) rest h = by (bytes_eq text (standard_text f)) (standards_fit P text k fs rest h)
  where
    by : (b : Bool) → GroupsFit P (standards_of text k fs ++ rest) → GroupsFit P ((if b then standard k f ∷ [] else standards_of text k fs) ++ rest)
    by true g = h
    by false g = g

names_fit : (P : Program) (k : ℕ) (names : List (List ℕ)) → GroupsFit P (outermost_from k names)
names_fit P k [] = tt
names_fit P k (text ∷ names) = standards_fit P text k standards (outermost_from (suc k) names) (names_fit P (suc k) names)

outermost_fits : (P : Program) (names : List (List ℕ)) → GroupsFit P (outermost_entries names)
outermost_fits P names = names_fit P 0 names

module _ (P : Program) (set : Setting P) (names : List (List ℕ)) (body : Exp) (begun : IsBegun P names body) (input : List ℕ)
    (bytes : All (λ b. b < 256) input) where
  abbrev f : Function Ts
  f = with_body begun.last.frame (gives_nothing begun.made)

  abbrev size : ℕ
  size = P.size f.label

  stays : FrameStays first_state begun.last
  stays = frame_by (expression_grows P.findings body want.Dropped functions.outermost first_state) begun.is_made

  label_is : f.label ≡ 32
  label_is = stays.label

  there : function_of f.label P.code.functions ≡ Some f
  there = ap (λ l. function_of l P.code.functions) label_is ∙ begun.there

  size_of : IsSizeOf f size
  size_of = set.sizes f there

  light : size ≤ program_weight body
  light = subst (λ l. P.size l ≤ program_weight body) (sym label_is) begun.light

  fits : 4 * f.slots ≤ size
  fits = let h = size_of.holds in omega (arith, h)

  abbrev weight : ℕ
  weight = program_weight body

  abbrev env : Env
  env = record { level = 0; entries = outermost_entries names }

  abbrev go : Value → Rest
  go v = ends (ended normal)

  -- what comes of the source after the weight of the body
  abbrev source : Run Source
  source = rest_run (evaluates P body env go (ends stuck)) (first_source weight input)

  abbrev around : Around
  around =
      running.outermost (record { base = stack_top; size = size })
      (λ v w1. over (Ended (Exit (pos 0))) (without_slots f stack_top w1))

  abbrev world : World
  world = first_world P.code.literals f.slots input

  abbrev part : Part
  part = record {
    scope = scopes.outermost_scope names;
    env = env;
    within = functions.outermost;
    scene = first_scene f.slots size weight;
    places = first_places f.slots;
    others = λ d. no_temps;
    around = around;
  }

  -- where the first frame is within the stack
  module _ (within : size ≤ P.stack) where
    first_holds : Holds P part (h0 P.code.literals f.slots) [] (first_source weight input) world no_temps
    first_holds = record {
      invariant =
          first_invariant P set f.slots size weight input fits within begun.static_bytes bytes (with_temps 0 no_temps (λ d. no_temps));
      weight = omega arith;
      depth = refl;
      statics = statics_are P.code.literals f.slots;
      literals = λ a label text there at.
          first_literal P set f.slots size weight input fits within begun.static_bytes bytes a label text (begun.each_bytes label text there) at
          (begun.once label (string_text text) there);
    }

    slot_is_free : (k : ℕ) → k < f.slots → first_places f.slots (cell (slot stack_top k)) ≡ free
    slot_is_free k lt = ap (λ t. content_of t) (in_slots f.slots k lt)

    first_ready : IsReady P part [] first_state begun.last
    first_ready = record {
      scene =
          first_is_scene P set f.slots size weight input fits within begun.static_bytes bytes size_of.words size_of.least light;
      along = nothing_declared 0 names;
      fits = outermost_fits P names;
      found = outermost_found P.table first_state 0 names;
      moment = begun.moment;
      level = refl;
      same_level = refl;
      links = refl;
      slots_free = λ k le lt. slot_is_free k lt;
      temps_free = λ i le lt. refl;
      slots_there = omega arith;
      activation = refl;
    }

    first_covers : situations.IsCovered P part body
    first_covers = subst (λ seen. Covers P.findings P.table P.weight 0 (λ k. false) seen body) (sym (no_levels 0 names)) begun.covers

    never_kept : (i place u : ℕ) → part.places (temporary 0 i) ≢ kept place u
    never_kept i place u e = cc

    -- the body's statement, and the return after it
    body_follows : (n : ℕ) → ExpressionFollows P n → FollowsHere P tree_besides n source (statement_runs P part f.body around (λ w t. wrong w) world no_temps)
    body_follows n follows =
        let x : Situation P n body = record {
          ty = begun.ty;
          wanted = want.Dropped;
          p = part;
          σ = first_state;
          τ = begun.last;
          m = begun.made;
          h = h0 P.code.literals f.slots;
          types = [];
          r = 0;
          go = go;
          out = ends stuck;
          s = first_source weight input;
          w = world;
          t = no_temps;
          typed = begun.typed;
          words = begun.words;
          covers = first_covers;
          wantable = tt;
          may_assign = inr never_kept;
          ready = first_ready;
          is_made = begun.is_made;
          outward = λ g ms s2 w2 t2 l g2 e2 h2. absurd (no_loop l);
          holds = first_holds;
        } in
        follows_with_credit P.stack tree_work 4 tree_besides n source (statement_runs P part f.body around (λ w t. wrong w) world no_temps) (omega arith)
        (follows_working P.stack tree_work 4 n 0 source (statement_runs P part (dropped begun.made) around ending world no_temps)
        (dropped_follows P n 0 part x.h [] begun.ty go source world no_temps begun.made ending ((follows set body x).1)
        (λ g ms v u s w t gg ee hh st. end_follows s w t hh.invariant.input)))
      where
        no_loop : false ≡ true → ⊥
        no_loop e = cc

        ending : Next
        ending w t = statement_runs P part (Return (Const 0)) around (λ w1 t1. wrong w1) w t

        end_follows : (s : SourceWorld) (w : World) (t : Temps) → w.input ≡ s.input → FollowsHere P 56 n (rest_run (ends (ended normal)) s) (ending w t)
        end_follows s w t input_is =
            follows_with_credit P.stack tree_work 18 56 n (rest_run (ends (ended normal)) s) (ending w t) (omega arith)
            (follows_working P.stack tree_work 2 n 16 (rest_run (ends (ended normal)) s) (λ j. works 2 (over (Ended (Exit (pos 0))) w j))
            (follows_working P.stack tree_work 0 n 2 (rest_run (ends (ended normal)) s) (over (Ended (Exit (pos 0))) w)
            (stop_follows P 0 n normal s w input_is)))

  -- the linked run from its begin
  abbrev runner : Runner Ts
  runner = run_linked_body Trees P.code P.size (floor P) P.heap P.level (situations.going P) []

  abbrev entering : Option (Function Ts) → Run Ran
  entering o =
      entered P.size (floor P) runner o [] stack_top (λ v w. over (Ended (Exit (pos 0))) w) (record { memory = begin P.code.literals; input = input })

  too_large : (floor P + size ≤ stack_top → ⊥) → nat_lt P.stack (0 + weight) ≡ true
  too_large ne = let l = light in let b = set.stack_small in lt-ltb P.stack (0 + weight) (elim (cases_lt P.stack weight) [
    | inl lt ↦ omega (arith, lt)
    | inr le ↦ absurd (ne (omega (arith, le, l, b)))
  ])

  -- what the frame's size tells
  by_size : (n : ℕ) → ExpressionFollows P n → (full : Bool) → nat_lt stack_top (floor P + size) ≡ full →
      FollowsHere P tree_besides n (λ i. passes_limit (nat_lt P.stack (0 + weight)) (source i))
      (if full then over (Ended StackFull) (record { memory = begin P.code.literals; input = input })
      else placed stack_top f.params [] world no_temps
      (runner f.body around))
  by_size n follows true is =
      subst (λ t. FollowsHere P tree_besides n (λ i. passes_limit t (source i))
      (over (Ended StackFull) (record { memory = begin P.code.literals; input = input })))
      (sym (too_large (λ le. let lt = ltb-true stack_top (floor P + size) is in omega (arith, lt, le))))
      (follows_full P.stack tree_work tree_besides n input source)
  by_size n follows false is =
      follows_passing P.stack tree_work tree_besides n (nat_lt P.stack (0 + weight)) source
      (placed stack_top f.params [] world no_temps (runner f.body around))
      (subst (λ ps. FollowsHere P tree_besides n source (placed stack_top ps [] world no_temps (runner f.body around))) (sym stays.params)
      (follows_along P.stack tree_work tree_besides n source source (statement_runs P part f.body around (λ w t. wrong w) world no_temps)
      (runner f.body around world no_temps)
      (λ i. refl)
      (λ i. linked_own Trees P.code P.size (floor P) P.heap P.level
      (record { point = body_point f.body around world no_temps; frames = stack_top ∷ [] }) i)
      (body_follows within n follows)))
    where
      within : size ≤ P.stack
      within = let b = set.stack_small in elim (cases_lt stack_top (floor P + size)) [
        | inl lt ↦ (let no : false ≡ true = sym is ∙ lt-ltb stack_top (floor P + size) lt in absurd (cc))
        | inr le ↦ omega (arith, le, b)
      ]

  -- the program's run is followed
  pub program_follows : (n : ℕ) → ExpressionFollows P n →
      Follows P.stack tree_work tree_besides n (program_run names body input P.heap P.stack)
      (linked_run Trees P.code P.size (floor P) P.heap P.level 32 input)
  program_follows n follows =
      follows_along P.stack tree_work tree_besides n (λ i. passes_limit (nat_lt P.stack (0 + weight)) (source i))
      (program_run names body input P.heap P.stack)
      (entering (Some f)) (linked_run Trees P.code P.size (floor P) P.heap P.level 32 input)
      (λ i. ap as_source (program_unfolds names body input P.heap P.stack i))
      (λ i. ap (λ o. entering o i) begun.there)
      (by_size n follows (nat_lt stack_top (floor P + size)) refl)
