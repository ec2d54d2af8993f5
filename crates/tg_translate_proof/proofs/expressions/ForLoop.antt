-- `for`: the parts of it, and its loop from the head on, where its variable's home has a word one less.
use Rattle.std.proofs.Common.{◌≡◌, ◌≢◌, ℕ, zero, suc, ◌+◌, ◌*◌, ◌%◌, ◌^◌, ◌<◌, ◌≤◌, ◌==◌, List, [], ◌∷◌, Option, Some, None, Bool, true, false, refl, sym, ap, ◌∙◌, arith, subst, inl, inr}
use Rattle.std.specs.Prelude.{slice_get, length, not, if◌then◌else◌, ◌⊎◌}
use Rattle.tg_machine_state.specs.State.{stack_top, heap_base}
use Rattle.tg_base.specs.Words.{add}
use Rattle.tg_base.specs.declared.ids.Span.{Span}
use Rattle.tg_syntax.specs.declared.tokens.Ident.{Ident}
use Rattle.tg_syntax.specs.Tree.{Exp, For}
use Rattle.tg_simulation.specs.Runs.{Run}
use Rattle.tg_simulation.specs.Ran.{Ran, works}
use Rattle.tg_simulation.specs.Agreement.{Source}
use Rattle.tg_simulation.proofs.Following.{follows_along, follows_less}
use Rattle.tg_semantics.specs.Values.{Value, int, nothing, SourceWorld, Env, put_variable}
use Rattle.tg_semantics.specs.Evaluation as evaluation
use Rattle.tg_semantics.specs.Evaluation.{with_variable}
use Rattle.tg_semantics.specs.Passing.{Rest, Passing, passing, with_turn, with_found}
use Rattle.tg_semantics.specs.MachineRuns.{rest_run}
use Rattle.tg_semantics.specs.laws.Laws.{behind}
use Rattle.tg_typecheck.specs.Types.{Ty, int_type, none_type}
use Rattle.tg_semantics.specs.Environments.{name_of}
use Rattle.tg_typecheck.specs.Scopes.{variable_at, binding, in_a_loop, at_of}
use Rattle.tg_typecheck.specs.Has.{Has}
use Rattle.tg_frame.specs.declared.accesses.Access.{Access}
use Rattle.tg_tree.specs.declared.operators.Rel.TheVariants as rel
use Rattle.tg_tree.specs.declared.operators.Bin.TheVariants as bin
use Rattle.tg_tree.specs.Tree as tree
use Rattle.tg_tree.specs.Tree.{Tx, Const, Temp, Ts}
use Rattle.tg_tree.specs.Forms.{nothing as nothing_done}
use Rattle.tg_tree.specs.Actions.{World, Temps, Go, Next, Around, leaving, with_word}
use Rattle.tg_translate.specs.declared.operands.Operand.TheVariants.{Kept}
use Rattle.tg_translate.specs.declared.wants.Want.TheVariants as want
use Rattle.tg_translate.specs.mirror.States.{TranslationState, drawn}
use Rattle.tg_translate.specs.mirror.Wants.{Made, dropped}
use Rattle.tg_translate.specs.mirror.Constructs.{read, own_place, assign_value, turn_of, in_body, operand}
use Rattle.tg_translate.specs.mirror.Translate.{expression}
use Rattle.tg_correctness.specs.laws.Laws.{tree_work}
use Rattle.tg_translate_proof.specs.glue.Tables.{Later}
use Rattle.tg_translate_proof.specs.glue.Worlds.{Holdings, unknown, Stands, an_int, GrowsTo, Key, cell, temporary, Content, nowhere, variable, kept, fixed}
use Rattle.tg_translate_proof.specs.glue.Worlds.{Places, IsOf, HoldsAt, HoldsVariable, word_of}
use Rattle.tg_translate_proof.specs.glue.Situations.{Program, Part, Setting, Holds, IsReady, Extends, with_temps, floor, value_runs, statement_runs}
use Rattle.tg_translate_proof.specs.glue.Situations.{statements_run, heads, frames_at}
use Rattle.tg_translate_proof.specs.glue.Shown.{Shown, Situation, FollowsHere, Onward, Outward, left_over, evaluates}
use Rattle.tg_translate_proof.proofs.state.TranslationStates.{later_none}
use Rattle.tg_translate_proof.proofs.invariant.Cases.{worked, grows_none, grows_on}
use Rattle.tg_translate_proof.proofs.invariant.Parts.{StatesGrow, more, extends_none, extends_on}
use Rattle.tg_translate_proof.proofs.state.Keys.{put_place, put_here, by_key, held_word, own_temps, some_same, get_set}
use Rattle.tg_translate_proof.proofs.state.HomeWrites.{Written}
use Rattle.tg_translate_proof.proofs.program.VariableDeclaration.{inside, heap_under}
use Rattle.tg_translate_proof.proofs.state.ValueWords.{stands_int}
use Rattle.tg_translate_proof.proofs.invariant.Asked.{Standing, Asked, asked_dropped}
use Rattle.tg_translate_proof.proofs.expressions.While.{at_head}
use Rattle.tg_translate_proof.proofs.invariant.HeldLeft.{placed}
use Rattle.tg_translate_proof.proofs.expressions.ForVariable.{HomeAt, temp_home, slot_home, HasWord, CanStore, read_home, write_home, home_begins, home_stays}

-- What is the same in all turns of a loop: where it stands, its parts, and what comes after it.
pub record Counted (P : Program) (n : ℕ) : Type 0 where
  pub p : Part
  pub x : Ident
  pub body : Exp
  pub go : Value → Rest
  pub out : Rest
  pub next : Next
  pub r : ℕ
  pub h : Holdings
  pub types : List Ty
  pub place : ℕ  -- of its variable
  pub high : ℕ  -- its upper bound
  pub bound : ℕ  -- the temporary that has that
  pub access : Access
  pub key : Key  -- the home of its variable
  pub σ : TranslationState  -- where its body is translated
  pub τ : TranslationState
  pub m : Made
  pub places : Places  -- with its bound, and without its variable
  pub home : HomeAt p access key
  pub lone : (k : Key) → IsOf place (places k) → ⊥
  pub bound_is : places (temporary p.scene.depth bound) ≡ fixed high
  pub apart_bound : temporary p.scene.depth bound ≢ key
  pub above : (a : ℕ) → key ≡ cell a → (floor P ≤ a) × (a < stack_top) × (a % 4 ≡ 0)

module _ (P : Program) (set : Setting P) (grow : StatesGrow P) (n : ℕ) (c : Counted P n) where
  abbrev pub env_of : Env
  env_of = with_variable (name_of c.x) c.place c.p.env

  abbrev pub job : evaluation.Job
  job = evaluation.repeat_for c.place c.high c.body env_of

  -- the loop in the source, from its head on
  abbrev pub looping : Rest
  looping = evaluation.run Passing (passing P.heap P.stack) (behind P.heap P.stack) job c.go c.out

  -- what comes after a turn's body, by whether the bound is reached
  abbrev stops_here : Passing Value
  stops_here g o = g nothing

  abbrev goes_on_by : ℕ → Passing Value
  goes_on_by k g o w = with_turn (behind P.heap P.stack job g o) (put_variable c.place (int (add k 1)) w)

  abbrev decided : Bool → ℕ → Rest
  decided b k = (if b then stops_here else goes_on_by k) c.go c.out

  abbrev behind_body : Value → Rest
  behind_body v s = with_found (slice_get s.variables c.place) (λ z. evaluation.int_of Passing (passing P.heap P.stack) z (λ k. decided
      (k == c.high) k) c.out) s

  abbrev head_part : ℕ → Part
  head_part u = placed c.p (put_place c.key (fixed u) c.places)

  abbrev turn_ : Ts
  turn_ = turn_of c.access (Kept (record { 0 = c.bound })) (dropped c.m)

  abbrev inside_loop : Around
  inside_loop = record c.p.around { out = leaving c.next c.p.around.out }

  abbrev body_part : Part
  body_part = record c.p {
    scope = in_a_loop (binding c.x (variable_at (at_of c.x) int_type true) c.p.scope);
    env = env_of;
    within = in_body c.p.within;
    around = inside_loop;
    places = put_place c.key (variable c.place) c.places;
  }

  abbrev LoopAt : ℕ → Type 0
  LoopAt m =
      (g : Holdings) (ms : List Ty) (s : SourceWorld) (w : World) (t : Temps) (u z : ℕ) → GrowsTo c.h g → Extends c.types ms →
      Holds P (head_part u) g ms s w t →
      slice_get s.variables c.place ≡ Some (int z) → slice_get ms c.place ≡ Some int_type → add u 1 ≡ z →
      FollowsHere P (c.r + 70) m (rest_run looping s) (statement_runs P c.p (tree.Loop turn_) c.p.around c.next w t)

  -- What is known of its body, and of what comes after the loop.
  pub record Turns : Type 0 where
    pub shown : (m : ℕ) → m ≤ n → Shown P m c.body
    pub typed : Has P.shapes P.notes c.body body_part.scope none_type
    pub asked : (m : ℕ) (le : m ≤ n) (k : Standing P set grow m) → k.p ≡ body_part → Asked P set grow m k c.body none_type
    pub made : expression P.findings c.body want.Dropped (in_body c.p.within) c.σ ≡ drawn c.m c.τ
    pub ready : (ms : List Ty) → Extends c.types ms → slice_get ms c.place ≡ Some int_type → IsReady P body_part ms c.σ c.τ
    pub back : (g : Holdings) (ms : List Ty) (s : SourceWorld) (w : World) (t : Temps) → Holds P body_part g ms s w t → Holds P c.p g ms s w t
    pub onward : (g : Holdings) (ms : List Ty) (s : SourceWorld) (w : World) (t : Temps) → GrowsTo c.h g → Extends c.types ms → Holds P c.p g ms s w t →
        FollowsHere P (c.r + left_over) n (rest_run (c.go nothing) s) (c.next w t)
    pub can : (g : Holdings) (ms : List Ty) (s : SourceWorld) (w : World) (t : Temps) (u : ℕ) → Holds P (head_part u) g ms s w t → CanStore P w c.key

  home_in : HomeAt c.p c.access c.key → HomeAt body_part c.access c.key
  home_in h = by c.access c.key h
    where
      by : (access : Access) (key : Key) → HomeAt c.p access key → HomeAt body_part access key
      by _ _ (temp_home i) = temp_home i
      by _ _ (slot_home k low small same) = slot_home k low small same

  -- the heap is no home
  apart : (p : Part) (g : Holdings) (ms : List Ty) (s : SourceWorld) (w : World) (t : Temps) → Holds P p g ms s w t → (b : ℕ) → g.at b ≢ unknown →
      cell b ≢ c.key
  apart p g ms s w t hh b known f =
      let up = c.above b (sym f) in
      let low = hh.invariant.known b known in
      let under = heap_under P set p g ms s w t hh in
      omega (arith, up.0, low.1, under)

  module _ (turns : Turns) where
    abbrev head_ : Next
    head_ w t = heads P (frames_at P c.p) (record { statement = tree.Loop turn_; around = c.p.around; next = c.next; world = w; temps = t })

    abbrev arms_ : Bool → Next
    arms_ b w t = (if b then statement_runs P c.p nothing_done else statement_runs P c.p (tree.Break 0)) inside_loop head_ w t

    -- after a turn's body: the bound is reached, or the loop goes on
    behind_turn : (m : ℕ) → m ≤ n → ((j : ℕ) → j < m → LoopAt j) → (g : Holdings) (ms : List Ty) (v : Value) (s : SourceWorld) (w : World)
        (t : Temps) → GrowsTo c.h g → Extends c.types ms → slice_get ms c.place ≡ Some int_type →
        Holds P body_part g ms s w t →
        FollowsHere P (c.r + 94) m (rest_run (behind_body v) s)
        (statement_runs P c.p (tree.If (tree.Compare rel.NotEqual (read (own_place c.access)) (Temp c.bound)) nothing_done
        (tree.Break 0)) inside_loop head_ w t)
    behind_turn m le ih g ms v s w t gg ee type_is hh =
        let ts = with_temps c.p.scene.depth t c.p.others in
        let pl : Places = put_place c.key (variable c.place) c.places in
        let y = held_word g ms s w.memory ts c.key c.place (pl c.key) (subst (λ o. IsOf c.place o) (sym (put_here c.key
        (variable c.place) c.places)) refl) (hh.invariant.holds c.key) in
        let k : ℕ = y.0 in
        let is_int : y.2.1 ≡ int_type = some_same y.2.1 int_type (sym y.2.3 ∙ type_is) in
        let st = stands_int g y.2.0 k (subst (λ o. Stands g y.2.0 o k) is_int y.2.4) in
        let has : slice_get s.variables c.place ≡ Some (int k) = y.2.2 ∙ ap Some st.0 in
        let key2 : Key = temporary c.p.scene.depth c.bound in
        let at2 : pl key2 ≡ fixed c.high = by_key key2 c.key (λ o. o ≡ fixed c.high) (variable c.place) c.places (λ f. absurd
        (c.apart_bound f)) c.bound_is in
        let word2 : ts c.p.scene.depth c.bound ≡ Some c.high = subst (λ o. HoldsAt g ms s w.memory ts key2 o) at2 (hh.invariant.holds key2) in
        let there2 : t c.bound ≡ Some c.high = sym (ap (λ (f : Temps). f c.bound) (own_temps c.p.scene.depth t c.p.others)) ∙ word2 in
        let source : Run Source = rest_run (decided (k == c.high) k) s in
        let go2 : Go ℕ = λ k1 w1 t1. with_word (t1 c.bound) w1 (λ h1. arms_ (not (k1 == h1)) w1 t1) in
        let target : Run Ran = statement_runs P c.p (tree.If (tree.Compare rel.NotEqual (read (own_place c.access)) (Temp c.bound)) nothing_done
        (tree.Break 0)) inside_loop head_ w t in
        follows_along P.stack tree_work (c.r + 94) m source (rest_run (behind_body v) s) target target
        (λ i. ap (λ o. rest_run (with_found o (λ z. evaluation.int_of Passing (passing P.heap P.stack) z (λ k2. decided
        (k2 == c.high) k2) c.out)) s i) has) (λ i. refl)
        (worked P (c.r + 90) (c.r + 94) 4 m source _ (omega arith)
        (worked P (c.r + 80 + 6) (c.r + 90) 4 m source _ (omega arith)
        (read_home P body_part c.access c.key k (c.r + 80) m source (λ k1 w1 t1 i. works 0 (go2 k1 w1 t1 i)) w t (home_in c.home) y.1
        (worked P (c.r + 80) (c.r + 80) 0 m source (go2 k w t) (omega arith)
        (subst (λ o. FollowsHere P (c.r + 80) m source (with_word o w (λ h1. arms_ (not (k == h1)) w t))) (sym there2) (by k y.1 has
        (k == c.high) refl))))))
      where
        by : (k : ℕ) → word_of w.memory (with_temps c.p.scene.depth t c.p.others) c.key ≡ Some k → slice_get s.variables c.place ≡ Some (int k) →
            (b : Bool) → (k == c.high) ≡ b →
            FollowsHere P (c.r + 80) m (rest_run (decided b k) s) (arms_ (not b) w t)
        by k word has true e =
            worked P (c.r + left_over) (c.r + 80) 3 m (rest_run (c.go nothing) s) (c.next w t) (omega arith)
            (follows_less P.stack tree_work (c.r + left_over) m n (rest_run (c.go nothing) s) (c.next w t) le (turns.onward g ms s w t gg ee
            (turns.back g ms s w t hh)))
        by k word has false e =
            let s2 : SourceWorld = put_variable c.place (int (add k 1)) s in
            let hp : Holds P (head_part k) g ms s2 w t = record {
              invariant = home_stays P.shapes P.heap (floor P) c.places g ms s w w (with_temps c.p.scene.depth t c.p.others)
                  (with_temps c.p.scene.depth t c.p.others) c.key k c.place (int (add k 1)) hh.invariant word
                  (apart body_part g ms s w t hh) c.above;
              weight = hh.weight;
              depth = hh.depth;
              statics = hh.statics;
              literals = hh.literals;
            } in
            worked P (c.r + 80) (c.r + 80) 0 m (rest_run (with_turn (behind P.heap P.stack job c.go c.out)) s2) (head_ w t) (omega arith)
            (more P (c.r + 70) (c.r + 80) m (rest_run (with_turn (behind P.heap P.stack job c.go c.out)) s2) (head_ w t) (omega arith)
            (at_head P set grow c.p (c.r + 70) m job c.go c.out turn_ c.next s2 w t hp.invariant.input
            (λ j lt. ih j lt g ms s2 w t k (add k 1) gg ee hp (get_set s.variables c.place (int (add k 1)) (int k) has) type_is refl)))

    -- a turn
    step : (m : ℕ) → m ≤ n → ((j : ℕ) → j < m → LoopAt j) → LoopAt m
    step m le ih g ms s w t u z gg ee hh has type_is is_next =
        let ts = with_temps c.p.scene.depth t c.p.others in
        let source : Run Source = rest_run looping s in
        let word : word_of w.memory ts c.key ≡ Some u =
        subst (λ o. HoldsAt g ms s w.memory ts c.key o) (put_here c.key (fixed u) c.places) (hh.invariant.holds c.key) in
        let after_write : Next = λ w1 t1. statement_runs P c.p (dropped c.m) inside_loop
        (λ w2 t2. statement_runs P c.p (tree.If (tree.Compare rel.NotEqual (read (own_place c.access)) (Temp c.bound)) nothing_done
        (tree.Break 0)) inside_loop head_ w2 t2) w1 t1 in
        let sum : HasWord P body_part (tree.Binary bin.Add (read (own_place c.access)) (Const 1)) z m source w t =
        λ go r f.
        worked P (r + 2 + 6) (r + 12) 1 m source _ (omega arith)
        (read_home P body_part c.access c.key u (r + 2) m source (λ u1 w1 t1 i. works 2 (go (add u1 1) w1 t1 i)) w t (home_in c.home) word
        (worked P r (r + 2) 2 m source (go (add u 1) w t) (omega arith) (subst (λ o. FollowsHere P r m source (go o w t)) (sym is_next) f))) in
        let small : z < 2 ^ 32 = subst (λ o. o < 2 ^ 32) is_next (omega arith) in
        worked P (c.r + 66) (c.r + 70) 4 m source _ (omega arith)
        (worked P (c.r + 66) (c.r + 66) 0 m source _ (omega arith)
        (more P (c.r + 42 + 24) (c.r + 66) m source _ (omega arith)
        (write_home P body_part c.access c.key (tree.Binary bin.Add (read (own_place c.access)) (Const 1)) z (c.r + 42) m source after_write w t
        (home_in c.home) sum (turns.can g ms s w t u hh) hh.invariant.memory.whole
        (λ w2 t2 input x.
        let hb : Holds P body_part g ms s w2 t2 = record {
          invariant = home_begins P.shapes P.heap (floor P) c.places g ms s w w2 ts
              (with_temps c.p.scene.depth t2 c.p.others) c.key u z c.place hh.invariant x input small has type_is c.lone (apart
              (head_part u) g ms s w t hh) c.above;
          weight = hh.weight;
          depth = hh.depth;
          statics = x.statics ∙ hh.statics;
          literals = hh.literals;
        } in
        let kb : Standing P set grow m = record {
          p = body_part;
          σ = c.σ;
          τ = c.τ;
          h = g;
          types = ms;
          r = c.r + 38;
          out = c.go nothing;
          s = s;
          w = w2;
          t = t2;
          ready = turns.ready ms ee type_is;
          outward = λ g3 ms3 s3 w3 t3 l gg3 ee3 hh3.
              more P (c.r + left_over) (c.r + 38 + left_over) m (rest_run (c.go nothing) s3) (c.next w3 t3) (omega arith)
              (follows_less P.stack tree_work (c.r + left_over) m n (rest_run (c.go nothing) s3) (c.next w3 t3) le
              (turns.onward g3 ms3 s3 w3 t3 (grows_on c.h g g3 gg gg3) (extends_on c.types ms ms3 ee ee3) (turns.back g3 ms3 s3 w3 t3 hh3)));
          holds = hb;
        } in
        more P (c.r + 38 + 4) (c.r + 42) m source (after_write w2 t2) (omega arith)
        (asked_dropped P set grow m kb c.body none_type (turns.asked m le kb refl) behind_body c.m c.τ turns.made (later_none c.τ)
        (λ w3 t3. statement_runs P c.p (tree.If (tree.Compare rel.NotEqual (read (own_place c.access)) (Temp c.bound)) nothing_done
        (tree.Break 0)) inside_loop head_ w3 t3)
        (λ g3 ms3 v _ s3 w3 t3 gg3 ee3 hh3 _.
        more P (c.r + 94) (c.r + 38 + 56) m (rest_run (behind_body v) s3) _ (omega arith)
        (behind_turn m le ih g3 ms3 v s3 w3 t3 (grows_on c.h g g3 gg gg3) (extends_on c.types ms ms3 ee ee3) (ee3 c.place int_type type_is) hh3)))))))

    below : (k m : ℕ) → m < k → k ≤ suc n → LoopAt m
    below zero m lt le = absurd (omega (arith, lt))
    below (suc k) m lt le = step m (omega (arith, lt, le)) (λ j lj. below k j (omega (arith, lt, lj)) (omega (arith, le)))

    -- the loop, from its head on
    pub loop_follows : LoopAt n
    loop_follows = below (suc n) n (omega arith) (omega arith)
