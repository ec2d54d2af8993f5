-- `while`, with breaks, from the facts of its parts at each amount of fuel.
use Rattle.std.proofs.Common.{◌≡◌, ◌≢◌, ℕ, zero, suc, ◌+◌, ◌<◌, ◌≤◌, List, Option, Some, Bool, true, false, refl, sym, ap, ◌∙◌, arith, subst, inl, inr}
use Rattle.std.specs.Prelude.{◌⊎◌, if◌then◌else◌}
use Rattle.tg_base.specs.declared.ids.Span.{Span}
use Rattle.tg_syntax.specs.Tree.{Exp, While}
use Rattle.tg_simulation.specs.Runs.{Run, turn}
use Rattle.tg_simulation.specs.Ran.{Ran}
use Rattle.tg_simulation.specs.Outcomes.{out_of_fuel}
use Rattle.tg_simulation.specs.Agreement.{Source}
use Rattle.tg_simulation.proofs.Following.{follows_along, follows_turn, follows_less}
use Rattle.tg_semantics.specs.Values.{Value, int, nothing, SourceWorld}
use Rattle.tg_semantics.specs.Evaluation as evaluation
use Rattle.tg_semantics.specs.Passing.{Rest, Passing, passing, with_turn, over_in}
use Rattle.tg_semantics.specs.MachineRuns.{rest_run, as_source}
use Rattle.tg_semantics.specs.laws.Laws.{behind}
use Rattle.tg_semantics.proofs.AsSource.{turns_as_source}
use Rattle.tg_semantics.proofs.Unfolding.{fuel_unfolds}
use Rattle.tg_typecheck.specs.Types.{Ty, int_type, none_type}
use Rattle.tg_typecheck.specs.Scopes.{in_a_loop}
use Rattle.tg_typecheck.specs.Has as has
use Rattle.tg_typecheck.specs.Has.{Has}
use Rattle.tg_tree.specs.Tree as tree
use Rattle.tg_tree.specs.Tree.{Ts, Cond}
use Rattle.tg_tree.specs.Units.{Trees}
use Rattle.tg_tree.specs.Actions.{World, Temps, Go, Next, Around, Out, leaving}
use Rattle.tg_tree.specs.Meaning.{Point}
use Rattle.tg_tree.specs.Running.{with_fuel}
use Rattle.tg_tree.proofs.Linked.{linked_own}
use Rattle.tg_translate.specs.declared.wants.Want.TheVariants as want
use Rattle.tg_translate.specs.mirror.States.{TranslationState, drawn}
use Rattle.tg_translate.specs.mirror.Wants.{Made, done, test_of, dropped, condition_from, statement_from}
use Rattle.tg_translate.specs.mirror.Constructs.{repeat_while, in_body, in_test}
use Rattle.tg_translate.specs.mirror.Translate.{expression}
use Rattle.tg_correctness.specs.laws.Laws.{tree_work}
use Rattle.tg_translate_proof.specs.glue.Tables.{Later}
use Rattle.tg_translate_proof.specs.glue.Worlds.{Holdings, GrowsTo, temporary, kept}
use Rattle.tg_translate_proof.specs.glue.Situations.{Program, Part, Setting, Holds, IsReady, MayAssign, Extends, floor, statement_runs, test_runs, going_on}
use Rattle.tg_translate_proof.specs.glue.Situations.{frames_at, heads}
use Rattle.tg_translate_proof.specs.glue.Shown.{Shown, IsShown, Situation, IsWantable, FollowsHere, Onward, MadeFollows, IsWanted, left_over, is_set, evaluates}
use Rattle.tg_translate_proof.proofs.state.TranslationStates.{made_in, state_in, after_inv, later_none, later_on}
use Rattle.tg_translate_proof.proofs.invariant.Cases.{by_made, source_of, worked, grows_none, grows_on}
use Rattle.tg_translate_proof.proofs.invariant.Parts.{StatesGrow, more, paid, extends_none, extends_on, ready_part}
use Rattle.tg_translate_proof.proofs.state.ValueWords.{test_int, set_suc}
use Rattle.tg_translate_proof.proofs.expressions.AssignPlain.{dropped_only}
use Rattle.tg_translate_proof.proofs.invariant.Asked.{Standing, Asked, asked_condition, asked_dropped}

pub leaving_on : (next : Next) (out : Out) (k : ℕ) → leaving next out (k + 1) ≡ out k
leaving_on next out k = subst (λ o. leaving next out o ≡ out k) (let e : suc k ≡ k + 1 = omega arith in e) refl

module _ (P : Program) (set : Setting P) (grow : StatesGrow P) where
  -- a part of a loop, by what is around it there
  pub holds_around : (p : Part) (q : Part) (g : Holdings) (ms : List Ty) (s : SourceWorld) (w : World) (t : Temps) → Holds P p g ms s w t →
      Holds P (record p { scope = q.scope; within = q.within; around = q.around }) g ms s w t
  holds_around p q g ms s w t hh = record { invariant = hh.invariant; weight = hh.weight; depth = hh.depth; statics = hh.statics; literals = hh.literals }

  -- The head of a loop: the unit of fuel, and then the loop again.
  pub at_head : (p : Part) (r m : ℕ) (job : evaluation.Job) (go : Value → Rest) (out : Rest) (turn_ : Ts) (next : Next) (s : SourceWorld) (w : World) (t : Temps) → w.input ≡ s.input →
      ((j : ℕ) → j < m → FollowsHere P r j (rest_run (evaluation.run Passing (passing P.heap P.stack) (behind P.heap P.stack) job go out) s) (statement_runs P p (tree.Loop turn_) p.around next w t)) →
      FollowsHere P r m (rest_run (with_turn (behind P.heap P.stack job go out)) s) (heads P (frames_at P p) (record { statement = tree.Loop turn_; around = p.around; next = next; world = w; temps = t }))
  at_head p r m job go out turn_ next s w t input again =
      let point : Point = record { statement = tree.Loop turn_; around = p.around; next = next; world = w; temps = t } in
      let from : Run Source = rest_run (behind P.heap P.stack job go out) s in
      let inside : Run Ran = going_on P (frames_at P p) point in
      follows_along P.stack tree_work r m (turn (as_source (over_in s out_of_fuel)) from) (rest_run (with_turn (behind P.heap P.stack job go out)) s) (heads P (frames_at P p) point) (heads P (frames_at P p) point)
      (λ i. turns_as_source (behind P.heap P.stack job go out) s i) (λ i. refl)
      (follows_turn P.stack tree_work r m (as_source (over_in s out_of_fuel)) w.input from inside refl refl (sym input) refl
      (λ j lt.
      follows_along P.stack tree_work r j (rest_run (evaluation.run Passing (passing P.heap P.stack) (behind P.heap P.stack) job go out) s) from (statement_runs P p (tree.Loop turn_) p.around next w t) inside
      (λ i. ap as_source (fuel_unfolds P.heap P.stack job go out s i))
      (λ i. linked_own Trees P.code P.size (floor P) P.heap P.level (record { point = point; frames = frames_at P p }) i) (again j lt)))

  module _ (n : ℕ) (sp : Span) (c a : Exp) (show_c : (m : ℕ) → m ≤ n → Shown P m c) (show_a : (m : ℕ) → m ≤ n → Shown P m a) (x : Situation P n (While sp c a)) where
    abbrev E : Exp
    E = While sp c a

    record WhileTyped : Type 0 where
      test_typed : Has P.shapes P.notes c x.p.scope int_type
      body_typed : Has P.shapes P.notes a (in_a_loop x.p.scope) none_type
      none : x.ty ≡ none_type

    typed_ : WhileTyped
    typed_ = by x.ty x.typed refl
      where
        by : (t : Ty) → Has P.shapes P.notes (While sp c a) x.p.scope t → x.ty ≡ t → WhileTyped
        by _ (has.while hc ha) e = record { test_typed = hc; body_typed = ha; none = e }

    record WhileParts : Type 0 where
      mc : Made
      s1 : TranslationState
      made_c : expression P.findings c want.Test (in_test x.p.within) x.σ ≡ drawn mc s1
      ma : Made
      s2 : TranslationState
      made_a : expression P.findings a want.Dropped (in_body x.p.within) s1 ≡ drawn ma s2
      whole : drawn (done (repeat_while (test_of mc) (dropped ma))) s2 ≡ drawn x.m x.τ

    while_parts : WhileParts
    while_parts =
        let i1 = after_inv (condition_from (λ s. expression P.findings c want.Test (in_test x.p.within) s) x.σ) _ x.m x.τ x.is_made in
        let i2 = after_inv (expression P.findings c want.Test (in_test x.p.within) x.σ) _ i1.0 i1.1 i1.2 in
        let i3 = after_inv (statement_from (λ s. expression P.findings a want.Dropped (in_body x.p.within) s) i1.1) _ x.m x.τ i1.3 in
        let i4 = after_inv (expression P.findings a want.Dropped (in_body x.p.within) i1.1) _ i3.0 i3.1 i3.2 in
        record {
          mc = i2.0;
          s1 = i1.1;
          made_c = i2.2 ∙ ap (λ o. drawn i2.0 o) (ap state_in i2.3);
          ma = i4.0;
          s2 = i3.1;
          made_a = i4.2 ∙ ap (λ o. drawn i4.0 o) (ap state_in i4.3);
          whole = ap (λ o. drawn (done (repeat_while o (dropped i4.0))) i3.1) (ap made_in i2.3) ∙ (ap (λ o. drawn (done (repeat_while i1.0 o)) i3.1) (ap made_in i4.3) ∙ i3.3);
        }

    abbrev q : WhileParts
    q = while_parts

    lc : Later x.σ q.s1
    lc = grow c want.Test (in_test x.p.within) q.mc x.σ q.s1 q.made_c

    la : Later q.s1 q.s2
    la = grow a want.Dropped (in_body x.p.within) q.ma q.s1 q.s2 q.made_a

    last : Later q.s2 x.τ
    last = subst (λ o. Later q.s2 o) (ap state_in q.whole) (later_none q.s2)

    may_all : (j place u : ℕ) → x.p.places (temporary x.p.scene.depth j) ≢ kept place u
    may_all = by x.may_assign
      where
        by : MayAssign P x.p (While sp c a) → (j place u : ℕ) → x.p.places (temporary x.p.scene.depth j) ≢ kept place u
        by (inl f) = cc
        by (inr f) = f

    abbrev job : evaluation.Job
    job = evaluation.repeat_while c a x.p.env

    -- the source's loop from its head on, and what comes after its test
    abbrev head_source : Rest
    head_source = evaluation.run Passing (passing P.heap P.stack) (behind P.heap P.stack) job x.go x.out

    abbrev turned : Rest
    turned = with_turn (behind P.heap P.stack job x.go x.out)

    abbrev behind_test : Value → Rest
    behind_test v =
        evaluation.choose Passing (passing P.heap P.stack) v (λ g o. evaluates P a x.p.env (λ w. with_turn (behind P.heap P.stack job g o)) (g nothing)) (λ g o. g nothing) x.go x.out

    module _ (next : Next) (onward : Onward P {A = ℕ} n (x.r + left_over) x.p x.h x.types (λ g v u. Unit {0}) x.go (λ u w1 t1. next w1 t1)) where
      abbrev turn_ : Ts
      turn_ = tree.If (test_of q.mc) (dropped q.ma) (tree.Break 0)

      abbrev inside : Around
      inside = record x.p.around { out = leaving next x.p.around.out }

      abbrev head : Next
      head w1 t1 = heads P (frames_at P x.p) (record { statement = tree.Loop turn_; around = x.p.around; next = next; world = w1; temps = t1 })

      abbrev test_part : Part
      test_part = record x.p { within = in_test x.p.within; around = inside }

      abbrev body_part : Part
      body_part = record x.p { scope = in_a_loop x.p.scope; within = in_body x.p.within; around = inside }

      abbrev LoopAt : ℕ → Type 0
      LoopAt m =
          (g : Holdings) (ms : List Ty) (s : SourceWorld) (w : World) (t : Temps) → GrowsTo x.h g → Extends x.types ms → Holds P x.p g ms s w t →
          FollowsHere P (x.r + 24) m (rest_run head_source s) (statement_runs P x.p (tree.Loop turn_) x.p.around next w t)

      -- after the loop
      goes_on : (m : ℕ) → m ≤ n → (g : Holdings) (ms : List Ty) (s : SourceWorld) (w : World) (t : Temps) → GrowsTo x.h g → Extends x.types ms → Holds P x.p g ms s w t →
          FollowsHere P (x.r + left_over) m (rest_run (x.go nothing) s) (next w t)
      goes_on m le g ms s w t gg ee hh = follows_less P.stack tree_work (x.r + left_over) m n (rest_run (x.go nothing) s) (next w t) le (onward g ms nothing 0 s w t gg ee hh tt)

      holds_test : (g : Holdings) (ms : List Ty) (s : SourceWorld) (w : World) (t : Temps) → Holds P x.p g ms s w t → Holds P test_part g ms s w t
      holds_test g ms s w t hh = record { invariant = hh.invariant; weight = hh.weight; depth = hh.depth; statics = hh.statics; literals = hh.literals }

      test_holds : (g : Holdings) (ms : List Ty) (s : SourceWorld) (w : World) (t : Temps) → Holds P test_part g ms s w t → Holds P x.p g ms s w t
      test_holds g ms s w t hh = record { invariant = hh.invariant; weight = hh.weight; depth = hh.depth; statics = hh.statics; literals = hh.literals }

      holds_body : (g : Holdings) (ms : List Ty) (s : SourceWorld) (w : World) (t : Temps) → Holds P x.p g ms s w t → Holds P body_part g ms s w t
      holds_body g ms s w t hh = record { invariant = hh.invariant; weight = hh.weight; depth = hh.depth; statics = hh.statics; literals = hh.literals }

      body_holds : (g : Holdings) (ms : List Ty) (s : SourceWorld) (w : World) (t : Temps) → Holds P body_part g ms s w t → Holds P x.p g ms s w t
      body_holds g ms s w t hh = record { invariant = hh.invariant; weight = hh.weight; depth = hh.depth; statics = hh.statics; literals = hh.literals }

      ready_test : (ms : List Ty) → Extends x.types ms → IsReady P test_part ms x.σ q.s1
      ready_test ms ee =
          let o = ready_part P set x.p x.types ms x.σ x.τ x.σ q.s1 ee (later_none x.σ) lc (later_on q.s1 q.s2 x.τ la last) x.ready in
          record { scene = o.scene; along = o.along; found = o.found; moment = o.moment; level = o.level; same_level = o.same_level; links = o.links; slots_free = o.slots_free; temps_free = o.temps_free; slots_there = o.slots_there; activation = o.activation; fits = o.fits }

      ready_body : (ms : List Ty) → Extends x.types ms → IsReady P body_part ms q.s1 q.s2
      ready_body ms ee =
          let o = ready_part P set x.p x.types ms x.σ x.τ q.s1 q.s2 ee lc la last x.ready in
          record { scene = o.scene; along = o.along; found = o.found; moment = o.moment; level = o.level; same_level = o.same_level; links = o.links; slots_free = o.slots_free; temps_free = o.temps_free; slots_there = o.slots_there; activation = o.activation; fits = o.fits }

      -- a turn's body, at so much fuel
      abbrev body_at : (m : ℕ) → m ≤ n → (g : Holdings) (ms : List Ty) (s : SourceWorld) (w : World) (t : Temps) → GrowsTo x.h g → Extends x.types ms → Holds P x.p g ms s w t → Standing P set grow m
      body_at m le g ms s w t gg ee hh = record {
        p = body_part;
        σ = q.s1;
        τ = q.s2;
        h = g;
        types = ms;
        r = x.r + 64;
        out = x.go nothing;
        s = s;
        w = w;
        t = t;
        ready = ready_body ms ee;
        outward = λ g2 ms2 s2 w2 t2 l gg2 ee2 hh2.
            more P (x.r + left_over) (x.r + 64 + left_over) m (rest_run (x.go nothing) s2) (next w2 t2) (omega arith)
            (goes_on m le g2 ms2 s2 w2 t2 (grows_on x.h g g2 gg gg2) (extends_on x.types ms ms2 ee ee2) (body_holds g2 ms2 s2 w2 t2 hh2));
        holds = holds_body g ms s w t hh;
      }

      abbrev test_at : (m : ℕ) → m ≤ n → (g : Holdings) (ms : List Ty) (s : SourceWorld) (w : World) (t : Temps) → GrowsTo x.h g → Extends x.types ms → Holds P x.p g ms s w t → Standing P set grow m
      test_at m le g ms s w t gg ee hh = record {
        p = test_part;
        σ = x.σ;
        τ = q.s1;
        h = g;
        types = ms;
        r = x.r + 12;
        out = x.out;
        s = s;
        w = w;
        t = t;
        ready = ready_test ms ee;
        outward = λ g2 ms2 s2 w2 t2 l gg2 ee2 hh2.
            subst (λ (o : World → Temps → Run Ran). FollowsHere P (x.r + 12 + left_over) m (rest_run x.out s2) (o w2 t2)) (sym (leaving_on next x.p.around.out x.p.within.leave))
            (more P (x.r + left_over) (x.r + 12 + left_over) m (rest_run x.out s2) (x.p.around.out x.p.within.leave w2 t2) (omega arith)
            (follows_less P.stack tree_work (x.r + left_over) m n (rest_run x.out s2) (x.p.around.out x.p.within.leave w2 t2) le
            (x.outward g2 ms2 s2 w2 t2 l (grows_on x.h g g2 gg gg2) (extends_on x.types ms ms2 ee ee2) (test_holds g2 ms2 s2 w2 t2 hh2))));
        holds = holds_test g ms s w t hh;
      }

      abbrev arms_ : Bool → Next
      arms_ b w1 t1 = (if b then statement_runs P x.p (dropped q.ma) else statement_runs P x.p (tree.Break 0)) inside head w1 t1

      behind_int : (m : ℕ) → m ≤ n → ((j : ℕ) → j < m → LoopAt j) → (k : ℕ) (b : Bool) → b ≡ is_set k → (g : Holdings) (ms : List Ty) (s : SourceWorld) (w : World) (t : Temps) → GrowsTo x.h g →
          Extends x.types ms → Holds P x.p g ms s w t → FollowsHere P (x.r + 68) m (rest_run (behind_test (int k)) s) (arms_ b w t)
      behind_int m le ih zero b e g ms s w t gg ee hh =
          subst (λ o. FollowsHere P (x.r + 68) m (rest_run (behind_test (int zero)) s) (arms_ o w t)) (sym e)
          (worked P (x.r + left_over) (x.r + 68) 3 m (rest_run (x.go nothing) s) (next w t) (omega arith) (goes_on m le g ms s w t gg ee hh))
      behind_int m le ih (suc k) b e g ms s w t gg ee hh =
          let start : Run Source = rest_run (evaluates P a x.p.env (λ w. turned) (x.go nothing)) s in
          subst (λ o. FollowsHere P (x.r + 68) m (rest_run (behind_test (int (suc k))) s) (arms_ o w t)) (sym (e ∙ set_suc k))
          (more P (x.r + 64 + 4) (x.r + 68) m start (statement_runs P x.p (dropped q.ma) inside head w t) (omega arith)
          (asked_dropped P set grow m (body_at m le g ms s w t gg ee hh) a none_type
          (record { shown = show_a m le; typed = typed_.body_typed; words = x.words.1; covers = x.covers.1; may_assign = inr may_all })
          (λ w. turned) q.ma q.s2 q.made_a (later_none q.s2) head
          (λ g2 ms2 v2 u2 s2 w2 t2 gg2 ee2 hh2 st2.
          let h3 : Holds P x.p g2 ms2 s2 w2 t2 = body_holds g2 ms2 s2 w2 t2 hh2 in
          more P (x.r + 24) (x.r + 64 + 56) m (rest_run turned s2) (head w2 t2) (omega arith)
          (at_head x.p (x.r + 24) m job x.go x.out turn_ next s2 w2 t2 h3.invariant.input
          (λ j lt. ih j lt g2 ms2 s2 w2 t2 (grows_on x.h g g2 gg gg2) (extends_on x.types ms ms2 ee ee2) h3)))))

      step : (m : ℕ) → m ≤ n → ((j : ℕ) → j < m → LoopAt j) → LoopAt m
      step m le ih g ms s w t gg ee hh =
          let start : Run Source = rest_run (evaluates P c x.p.env behind_test x.out) s in
          worked P (x.r + 20) (x.r + 24) 4 m start _ (omega arith)
          (worked P (x.r + 12 + 4) (x.r + 20) 4 m start (test_runs P x.p (test_of q.mc) inside arms_ w t) (omega arith)
          (asked_condition P set grow m (test_at m le g ms s w t gg ee hh) c int_type
          (record { shown = show_c m le; typed = typed_.test_typed; words = x.words.0; covers = x.covers.0; may_assign = inr may_all })
          behind_test q.mc q.s1 refl q.made_c (later_none q.s1) arms_
          (λ g2 ms2 v2 b s2 w2 t2 gg2 ee2 hh2 st2.
          let k = test_int g2 v2 st2.0 st2.1 in
          subst (λ o. FollowsHere P (x.r + 12 + 56) m (rest_run (behind_test o) s2) (arms_ b w2 t2)) (sym k.1)
          (more P (x.r + 68) (x.r + 12 + 56) m (rest_run (behind_test (int k.0)) s2) (arms_ b w2 t2) (omega arith)
          (behind_int m le ih k.0 b (st2.2 ∙ k.2) g2 ms2 s2 w2 t2 (grows_on x.h g g2 gg gg2) (extends_on x.types ms ms2 ee ee2) (test_holds g2 ms2 s2 w2 t2 hh2))))))

      below : (k m : ℕ) → m < k → k ≤ suc n → LoopAt m
      below zero m lt le = absurd (omega (arith, lt))
      below (suc k) m lt le = step m (omega (arith, lt, le)) (λ j lj. below k j (omega (arith, lt, lj)) (omega (arith, le)))

      loop_follows : LoopAt n
      loop_follows = below (suc n) n (omega arith) (omega arith)

    pub while_shown : IsShown P n E x
    while_shown =
        let made : Made = done (repeat_while (test_of q.mc) (dropped q.ma)) in
        let ew : x.wanted ≡ want.Dropped = dropped_only x.wanted (subst (λ o. IsWantable x.wanted o) typed_.none x.wantable) in
        by_made P n E x made q.s2 q.whole tt
        (subst (λ o. MadeFollows P n x.r x.p x.h x.types o x.ty x.go (source_of P n E x) x.w x.t made) (sym ew)
        (λ next onward.
        paid P x.r n (rest_run head_source x.s) (statement_runs P x.p (repeat_while (test_of q.mc) (dropped q.ma)) x.p.around next x.w x.t)
        (more P (x.r + 24) (x.r + 256) n (rest_run head_source x.s) (statement_runs P x.p (repeat_while (test_of q.mc) (dropped q.ma)) x.p.around next x.w x.t) (omega arith)
        (loop_follows next onward x.h x.types x.s x.w x.t (grows_none x.h) (extends_none x.types) x.holds))))
