-- Evaluation by results keeps what is known of the world, so a program that has a type is never stuck.
use Rattle.std.proofs.Common.{◌≡◌, ◌≢◌, ℕ, zero, suc, ◌+◌, List, [], ◌∷◌, ◌++◌, Option, Some, Bool, true, false, nat_lt, refl, sym, subst}
use Rattle.std.specs.Prelude.{slice_get, if◌then◌else◌}
use Rattle.std.specs.Str.{bytes_eq}
use Rattle.tg_syntax.specs.Tree.{Exp}
use Rattle.tg_simulation.specs.Outcomes.{End, ended, stuck}
use Rattle.tg_semantics.specs.declared.standards.Standard.{Standard}
use Rattle.tg_semantics.specs.Values.{Value, Entry, standard, by_heap, add_heap, Ending}
use Rattle.tg_semantics.specs.Environments.{standard_text, standards, standards_of, outermost_from}
use Rattle.tg_semantics.specs.Evaluation.{Job, meaning, program}
use Rattle.tg_semantics.specs.Direct.{RunState, Result, gives, breaks, is_over, Direct, after, after_body, returned, fuelled, found, changed, direct}
use Rattle.tg_semantics.specs.Direct.{begin, outcome}
use Rattle.tg_typecheck.specs.Types.{Ty, none_type, Shape}
use Rattle.tg_typecheck.specs.Scopes.{Binding, standard_one, Scope, standard_of, entry, standard_bindings}
use Rattle.tg_typecheck.specs.declared.notes.Note.{Note}
use Rattle.tg_typecheck.specs.Has as Has
use Rattle.tg_typecheck.proofs.Worlds as Worlds
use Rattle.tg_typecheck.proofs.Sound as Sound
use Rattle.tg_typecheck.proofs.Sound.{Known, a_value, whatever}

module _ (shapes : List (ℕ × Shape)) (notes : List Note) where
  pub data Fine {A : Type 0} (s : Worlds.Stores) (b : Bool) (P : Known A) : Result A → Type 0 where
    gives_fine : {a : A} {st : RunState} (w : Worlds.Stores) → Worlds.GrowsTo s w → Worlds.IsWorld shapes w st.world → P w a → Fine s b P (gives a st)
    breaks_fine : {st : RunState} (w : Worlds.Stores) → b ≡ true → Worlds.GrowsTo s w → Worlds.IsWorld shapes w st.world → Fine s b P (breaks st)
    over_fine : {e : End Ending} {st : RunState} → e ≢ stuck → Fine s b P (is_over e st)

  abbrev pub Keeps : Worlds.Stores → Bool → (A : Type 0) → Known A → Direct A → Type 0
  Keeps s b A P m = (st : RunState) → Worlds.IsWorld shapes s st.world → Fine s b P (m st)

  from_grown : {A : Type 0} (s w : Worlds.Stores) (b : Bool) (P : Known A) (r : Result A) → Worlds.GrowsTo s w → Fine w b P r → Fine s b P r
  from_grown s w b P _ g (gives_fine {a = a} {st = st} v h i p) = gives_fine v (Worlds.grows_on s w v g h) i p
  from_grown s w b P _ g (breaks_fine {st = st} v e h i) = breaks_fine v e (Worlds.grows_on s w v g h) i
  from_grown s w b P _ g (over_fine n) = over_fine n

  after_fine : {A B : Type 0} (s : Worlds.Stores) (b : Bool) (P : Known A) (Q : Known B) (r : Result A) (f : A → Direct B) → Fine s b P r →
      ((w : Worlds.Stores) → Worlds.GrowsTo s w → (a : A) → P w a → Keeps w b B Q (f a)) → Fine s b Q (after r f)
  after_fine s b P Q _ f (gives_fine {a = a} {st = st} w g i p) h = from_grown s w b Q (f a st) g (h w g a p st i)
  after_fine s b P Q _ f (breaks_fine w e g i) h = breaks_fine w e g i
  after_fine s b P Q _ f (over_fine n) h = over_fine n

  loop_fine : (s : Worlds.Stores) (b : Bool) (P : Known Value) (r : Result Value) (k : Direct Value) → Fine s true P r →
      ((w : Worlds.Stores) → Worlds.GrowsTo s w → Keeps w b Value (a_value none_type) k) → Fine s b (a_value none_type) (after_body r k)
  loop_fine s b P _ k (gives_fine {a = a} {st = st} w g i p) h = from_grown s w b (a_value none_type) (k st) g (h w g st i)
  loop_fine s b P _ k (breaks_fine w e g i) h = gives_fine w g i Worlds.is_nothing
  loop_fine s b P _ k (over_fine n) h = over_fine n

  returned_fine : (s : Worlds.Stores) (b : Bool) (P : Known Value) (r : Result Value) → Fine s false P r → Fine s b P (returned r)
  returned_fine s b P _ (gives_fine w g i p) = gives_fine w g i p
  returned_fine s b P _ (breaks_fine w e g i) = absurd (cc)
  returned_fine s b P _ (over_fine n) = over_fine n

  weaker_fine : {A : Type 0} (s : Worlds.Stores) (b : Bool) (P Q : Known A) (r : Result A) → Fine s b P r → ((w : Worlds.Stores) (a : A) → P w a → Q w a) →
      Fine s b Q r
  weaker_fine s b P Q _ (gives_fine {a = a} w g i p) h = gives_fine w g i (h w a p)
  weaker_fine s b P Q _ (breaks_fine w e g i) h = breaks_fine w e g i
  weaker_fine s b P Q _ (over_fine n) h = over_fine n

  known_fine : {A : Type 0} (s : Worlds.Stores) (b : Bool) (P : Known A) (o : Option A) (a : A) (st : RunState) → o ≡ Some a → P s a →
      Worlds.IsWorld shapes s st.world → Fine s b P (found o st)
  known_fine s b P o a st e p i =
      subst (λ x. Fine s b P (found x st)) (sym e) (gives_fine s (Worlds.grows_same s) i p)

  kept : (s : Worlds.Stores) (b : Bool) (A : Type 0) (P : Known A) (a : A) (st st' : RunState) → P s a → Worlds.IsWorld shapes s st.world →
      st.world.variables ≡ st'.world.variables → st.world.objects ≡ st'.world.objects → Fine s b P (gives a st')
  kept s b A P a st st' p i e f =
      gives_fine s (Worlds.grows_same s) (Worlds.same_stores shapes s st.world st'.world i e f) p

  take_fine : (s : Worlds.Stores) (b full : Bool) (bytes : ℕ) (st : RunState) → Worlds.IsWorld shapes s st.world →
      Fine s b (whatever (Unit {0})) (if full then is_over (ended by_heap) st else changed tt (add_heap bytes) st)
  take_fine s b true bytes st i = over_fine (λ e. cc)
  take_fine s b false bytes st i = kept s b (Unit {0}) (whatever (Unit {0})) tt st _ tt i refl refl

  module _ (heap stack : ℕ) where
    pub direct_keeps : Sound.Keeping shapes notes Direct (direct heap stack) Keeps
    direct_keeps = record {
      gives = λ s b A P a p st i. gives_fine s (Worlds.grows_same s) i p;
      binds = λ s b A B P Q m f g h st i. after_fine s b P Q (m st) f (g st i) h;
      weakens = λ s b A P Q m g h st i. weaker_fine s b P Q (m st) (g st i) h;
      breaks = λ s b A P e st i. breaks_fine s e (Worlds.grows_same s) i;
      overs = λ s b A P e n st i. over_fine n;
      loops = λ s b P m k g h st i. loop_fine s b P (m st) k (g st i) h;
      bodies = λ s b P m g st i. returned_fine s b P (m st) (g st i);
      knowns = λ s b A P o a e p st i. known_fine s b P o a st e p i;
      variables =
          λ s b place t e st i. let q = Worlds.variable_there shapes s st.world place t i e in known_fine s b (a_value t)
          (slice_get st.world.variables place) q.0 st q.1 q.2 i;
      objects =
          λ s b r k e st i. let q = Worlds.object_there shapes s st.world r k i e in known_fine s b (λ w o. Worlds.IsObject shapes w.objs o k)
          (slice_get st.world.objects r) q.0 st q.1 q.2 i;
      news =
          λ s b v t p st i. gives_fine (Worlds.with_variable t s) (Worlds.grows_by_variable s t) (Worlds.variable_added shapes s st.world v t i p)
          (Worlds.new_variable_there shapes s st.world t i);
      sets = λ s b place v t e p st i. gives_fine s (Worlds.grows_same s) (Worlds.variable_put shapes s st.world place v t i e p) tt;
      makes =
          λ s b o k p st i. gives_fine (Worlds.with_object k s) (Worlds.grows_by_object s k) (Worlds.object_added shapes s st.world o k i p)
          (Worlds.new_object_there shapes s st.world k i);
      puts = λ s b r o k e p st i. gives_fine s (Worlds.grows_same s) (Worlds.object_put shapes s st.world r o k i e p) tt;
      takes = λ s b bytes st i. take_fine s b (nat_lt heap (st.world.heap + bytes)) bytes st i;
      reads = λ s b st i. kept s b (List ℕ) (whatever (List ℕ)) _ st _ tt i refl refl;
      writes = λ s b bytes st i. kept s b (Unit {0}) (whatever (Unit {0})) tt st _ tt i refl refl;
      spends = λ s b k st i. kept s b (Unit {0}) (whatever (Unit {0})) tt st _ tt i refl refl;
      weighs = λ s b k st i. kept s b (Unit {0}) (whatever (Unit {0})) tt st _ tt i refl refl;
      unweighs = λ s b k st i. kept s b (Unit {0}) (whatever (Unit {0})) tt st _ tt i refl refl;
      descends = λ s b st i. kept s b (Unit {0}) (whatever (Unit {0})) tt st _ tt i refl refl;
      ascends = λ s b st i. kept s b (Unit {0}) (whatever (Unit {0})) tt st _ tt i refl refl;
    }

    fuelled_fine : (s : Worlds.Stores) (b : Bool) (P : Known Value) (n : ℕ) (st : RunState) (m : Direct Value) → Keeps s b Value P m →
        Worlds.IsWorld shapes s st.world → Fine s b P (fuelled n st m)
    fuelled_fine s b P zero st m h i = over_fine (λ e. cc)
    fuelled_fine s b P (suc n) st m h i = h (record st { fuel = n }) i

    meaning_keeps : (n : ℕ) (s : Worlds.Stores) (b : Bool) (job : Job) (t : Ty) → Sound.IsJob shapes notes s job t b →
        Keeps s b Value (a_value t) (meaning Direct (direct heap stack) n job)
    meaning_keeps zero s b job t j = λ st i. over_fine (λ e. cc)
    meaning_keeps (suc n) s b job t j =
        Sound.run_kept shapes notes Direct (direct heap stack) Keeps direct_keeps (λ k. meaning Direct (direct heap stack) n k)
        (λ s b k t j st i. fuelled_fine s b (a_value t) st.fuel st (meaning Direct (direct heap stack) n k) (meaning_keeps n s b k t j) i) s b job t j

    not_stuck : (P : Known Value) (s : Worlds.Stores) (r : Result Value) → Fine s false P r → (outcome r).end ≢ stuck
    not_stuck P s _ (gives_fine w g i p) e = cc
    not_stuck P s _ (breaks_fine w n g i) e = cc
    not_stuck P s _ (over_fine n) e = n e

    -- a program that has a type where it sees what its entries stand for
    pub typed_not_stuck : (body : Exp) (entries : List Entry) (scope : Scope) (t : Ty) (input : List ℕ) (fuel : ℕ) → scope.in_loop ≡ false →
        Has.Has shapes notes body scope t → Worlds.Sees shapes notes [] entries scope.bindings →
        (outcome (program Direct (direct heap stack) body entries fuel (begin input fuel))).end ≢ stuck
    typed_not_stuck body entries scope t input fuel e h v =
        let none : Worlds.Stores = record { vars = []; objs = [] } in
        not_stuck (a_value t) none (program Direct (direct heap stack) body entries fuel (begin input fuel))
        (Sound.program_kept shapes notes Direct (direct heap stack) Keeps direct_keeps (λ k. meaning Direct (direct heap stack) fuel k)
        (λ s b k t j st i. fuelled_fine s b (a_value t) st.fuel st (meaning Direct (direct heap stack) fuel k) (meaning_keeps fuel s b k t j) i)
        body entries scope t none e h v (begin input fuel) (Worlds.nothing_stored shapes input))

  -- the outermost scope
  one_standard : (n : ℕ) (text : List ℕ) (fs : List Standard) (es : List Entry) (bs : List (ℕ × Binding)) → Worlds.Sees shapes notes [] es bs →
      Worlds.Sees shapes notes [] (standards_of text n fs ++ es) (entry standard_one n (standard_of text fs) ++ bs)
  one_standard n text [] es bs v = v
  one_standard n text (f ∷ fs) es bs v = by (bytes_eq text (standard_text f)) (one_standard n text fs es bs v)
    where
      by : (c : Bool) → Worlds.Sees shapes notes [] (standards_of text n fs ++ es) (entry standard_one n (standard_of text fs) ++ bs) →
          Worlds.Sees shapes notes [] ((if c then standard n f ∷ [] else standards_of text n fs) ++ es)
          (entry standard_one n (if c then Some f else standard_of text fs) ++ bs)
      by true h = Worlds.sees_standard v
      by false h = h

  pub sees_outermost : (n : ℕ) (names : List (List ℕ)) → Worlds.Sees shapes notes [] (outermost_from n names) (standard_bindings n names)
  sees_outermost n [] = Worlds.sees_nothing
  sees_outermost n (text ∷ names) =
      one_standard n text standards (outermost_from (suc n) names) (standard_bindings (suc n) names) (sees_outermost (suc n) names)
