-- A group of functions that is declared is done: the table has their labels, and the code their
-- texts, which were translated where the group is found.
use Rattle.std.proofs.Common.{◌≡◌, ◌≢◌, ℕ, suc, ◌+◌, ◌≤◌, ◌==◌, List, [], ◌∷◌, ◌++◌, Option, Some, None, Bool, true, false, refl, sym, ap, ◌∙◌, arith, subst, eq-eqb}
use Rattle.std.specs.Prelude.{length, is_some, if◌then◌else◌}
use Rattle.std.specs.List.{Contains}
use Rattle.tg_syntax.specs.declared.tokens.Ident.{Ident}
use Rattle.tg_syntax.specs.declared.trees.Param.{Param}
use Rattle.tg_syntax.specs.OfWords.{BodiesOfWords}
use Rattle.tg_syntax.specs.Functions.{own_functions}
use Rattle.tg_syntax.specs.Tree.{Exp, FunDecs, no_functions, function}
use Rattle.tg_symbols.specs.Tables.{looked_up}
use Rattle.tg_semantics.specs.Values.{Entry, group}
use Rattle.tg_semantics.specs.Levels.{levels_of}
use Rattle.tg_semantics.specs.Evaluation.{function_count}
use Rattle.tg_typecheck.specs.Types.{none_type}
use Rattle.std.proofs.lemmas.List.Elements.{Contains-append_right}
use Rattle.tg_semantics.specs.Environments.{name_of}
use Rattle.tg_typecheck.specs.Scopes.{Scope, Signature, function_at, binding, in_no_loop}
use Rattle.tg_typecheck.specs.Groups.{with_functions}
use Rattle.tg_typecheck.specs.Has as has
use Rattle.tg_typecheck.specs.Has.{HasBodies, Apart, GivesBack}
use Rattle.tg_tree.specs.Tree.{Ts, Function}
use Rattle.tg_tree.specs.Running.{function_of}
use Rattle.tg_translate.specs.declared.homes.Callee.{Callee}
use Rattle.tg_translate.specs.declared.homes.Within.{Within}
use Rattle.tg_translate.specs.mirror.States.{TranslationState, Frame, Translated, drawn, after}
use Rattle.tg_translate.specs.mirror.Functions.{at_of, asked, frame_for, opened, with_body, finish, finished, body, body_in, declare_functions}
use Rattle.tg_translate.specs.mirror.Translate.{expression, bodies}
use Rattle.tg_translate_proof.specs.glue.Covered.{Keeping, CoversFunctions}
use Rattle.tg_translate_proof.specs.glue.Tables.{Later, IsMoment, HasFound}
use Rattle.tg_translate_proof.specs.glue.Situations.{Program, Part, Setting, IsDone, AreDone}
use Rattle.tg_translate_proof.proofs.state.TranslationStates.{made_in, state_in, after_inv, behind_none, behind_on, front_none, later_none, later_on}
use Rattle.tg_translate_proof.proofs.state.TranslationStates.{moment_before, found_later}
use Rattle.tg_translate_proof.proofs.invariant.Parts.{StatesGrow}
use Rattle.tg_translate_proof.proofs.state.StatesGrow.{bodies_grow, grows_by, frame_by, text_grows}
use Rattle.tg_translate_proof.proofs.state.NamesInSight.{group_weighs}
use Rattle.tg_translate_proof.proofs.invariant.Asked.{Standing}
use Rattle.tg_translate_proof.proofs.program.Declarations.{GroupDone, GroupsAreDone, Groups}

-- results are as the text says
abbrev pub GiveBack : FunDecs → List Signature → Type 0
GiveBack (function f ps r e rest) (s ∷ ss) = GivesBack (is_some r) s.result × GiveBack rest ss
GiveBack _ _ = Unit {0}

-- the state after the declaration of one function
abbrev one_declared : (level : ℕ) → Ident → TranslationState → TranslationState
one_declared level f s = record s { label = s.label + 1; callees = (at_of f, record { level = level; label = record { 0 = s.label } }) ∷ s.callees }

one_later : (level : ℕ) (f : Ident) (s : TranslationState) → Later s (one_declared level f s)
one_later level f s = record {
  temps = omega arith;
  slots = omega arith;
  homes = behind_none;
  callees = record { more = (at_of f, record { level = level; label = record { 0 = s.label } }) ∷ []; whole_is = refl };
  literals = front_none;
  functions = front_none;
}

pub declared_later : (level : ℕ) (fs : FunDecs) (s : TranslationState) (a : Unit {0}) (u : TranslationState) →
    declare_functions level fs s ≡ drawn a u → Later s u
declared_later level no_functions s a u e = subst (λ o. Later s o) (ap state_in e) (later_none s)
declared_later level (function f ps r x rest) s a u e = later_on s (one_declared level f s) u (one_later level f s) (declared_later level rest
    (one_declared level f s) a u e)

many_bodies : (P : Program) (fs : FunDecs) (ss : List Signature) (scope : Scope) → HasBodies P.shapes P.notes fs ss scope → length ss ≡ function_count fs
many_bodies P _ _ scope has.end_bodies = refl
many_bodies P (function f ps r e rest) (s ∷ ss) scope (has.a_body u many values result typed fits more) = ap suc (many_bodies P rest ss scope more)

in_there : {A : Type 0} (xs : List A) (y : A) (ys : List A) → Contains (xs ++ y ∷ ys) y
in_there xs y ys = Contains-append_right xs (y ∷ ys) y (0, omega arith, refl)

in_later : {A : Type 0} (xs : List A) (y : A) (ys : List A) (g : A) → Contains ys g → Contains (xs ++ y ∷ ys) g
in_later xs y ys g h = Contains-append_right xs (y ∷ ys) g (Contains-append_right (y ∷ []) ys g h)

module _ (P : Program) (set : Setting P) where
  -- functions, by the label of the first, have these callees in the table
  abbrev Tabled : (level label : ℕ) → FunDecs → Type 0
  Tabled level label no_functions = Unit {0}
  Tabled level label (function f ps r e rest) = (looked_up (at_of f) P.table.callees ≡ Some
      (record { level = level; label = record { 0 = label } })) × Tabled level (label + 1) rest

  -- and a state has found them
  abbrev FoundAll : TranslationState → FunDecs → Type 0
  FoundAll s no_functions = Unit {0}
  FoundAll s (function f ps r e rest) = (looked_up (at_of f) s.callees ≡ looked_up (at_of f) P.table.callees) × FoundAll s rest

  tabled_one : (level : ℕ) (f : Ident) (s v : TranslationState) → Later (one_declared level f s) v → IsMoment P.table P.code v →
      looked_up (at_of f) P.table.callees ≡ Some (record { level = level; label = record { 0 = s.label } })
  tabled_one level f s v l m =
      let callee : Callee = record { level = level; label = record { 0 = s.label } } in
      let s1 : TranslationState = one_declared level f s in
      let b = behind_on m.callees l.callees in
      let here : looked_up (at_of f) s1.callees ≡ Some callee = ap (λ o. if o then Some callee else looked_up (at_of f) s.callees) (eq-eqb (at_of f)
      (at_of f) refl) in
      set.callees_once (at_of f) callee b.more s1.callees b.whole_is here

  tabled_all : (level : ℕ) (fs : FunDecs) (s : TranslationState) (a : Unit {0}) (u v : TranslationState) → declare_functions level fs s ≡ drawn a u →
      Later u v → IsMoment P.table P.code v → Tabled level s.label fs
  tabled_all level no_functions s a u v e l m = tt
  tabled_all level (function f ps r x rest) s a u v e l m =
      let s1 : TranslationState = one_declared level f s in
      (tabled_one level f s v (later_on s1 u v (declared_later level rest s1 a u e) l) m, tabled_all level rest s1 a u v e l m)

  found_all : (level : ℕ) (fs : FunDecs) (s : TranslationState) (a : Unit {0}) (u v : TranslationState) → declare_functions level fs s ≡ drawn a u →
      Later u v → IsMoment P.table P.code v → FoundAll v fs
  found_all level no_functions s a u v e l m = tt
  found_all level (function f ps r x rest) s a u v e l m =
      let s1 : TranslationState = one_declared level f s in
      let callee : Callee = record { level = level; label = record { 0 = s.label } } in
      let l1 : Later s1 v = later_on s1 u v (declared_later level rest s1 a u e) l in
      let here : looked_up (at_of f) s1.callees ≡ Some callee = ap (λ o. if o then Some callee else looked_up (at_of f) s.callees) (eq-eqb (at_of f)
      (at_of f) refl) in
      let sig : Signature = record { params = []; result = none_type } in (
        (found_later P set s1 v ((name_of f, function_at (at_of f) sig) ∷ []) l1 m (
          here ∙ sym
              (tabled_one level f s v l1 m),
          tt,
        )).0,
        found_all level rest s1 a u v e l m,
      )

  found_with : (s : TranslationState) (fs : FunDecs) (ss : List Signature) (scope : Scope) → FoundAll s fs → HasFound P.table s scope.bindings →
      HasFound P.table s (with_functions fs ss scope).bindings
  found_with s no_functions ss scope f h = h
  found_with s (function f ps r e rest) [] scope x h = h
  found_with s (function f ps r e rest) (sig ∷ ss) scope x h = found_with s rest ss (binding f (function_at (at_of f) sig) scope) x.1 (x.0, h)

  -- what a function's text is made, and where it stands then
  record TextDone (label : ℕ) (f : Ident) (ps : List Param) (has_result : Bool) (e : Exp) (within : Within) (s : TranslationState) : Type 0 where
    last : TranslationState
    text : Ts
    is_text :
        body_in (frame_for label (asked P.findings.escapes (P.findings.keeps_link (at_of f)) ps)) ps (P.findings.keeps_link (at_of f)) has_result
        (λ w v. expression P.findings e w v) within
        (opened s (frame_for label (asked P.findings.escapes (P.findings.keeps_link (at_of f)) ps))) ≡ drawn text last
    moment : IsMoment P.table P.code last
    there : function_of label P.code.functions ≡ Some (with_body last.frame text)

  text_done : (label : ℕ) (f : Ident) (ps : List Param) (has_result : Bool) (e : Exp) (within : Within) (s : TranslationState) (c : Unit {0})
      (s2 : TranslationState) →
      body label P.findings.escapes P.findings.keeps_link (at_of f) has_result ps (λ w v. expression P.findings e w v) within s ≡ drawn c s2 →
      IsMoment P.table P.code s2 → TextDone label f ps has_result e within s
  text_done label f ps has_result e within s c s2 made m = by (body_in frame ps kept has_result (λ w v. expression P.findings e w v) within
      (opened s frame)) refl made
    where
      kept : Bool
      kept = P.findings.keeps_link (at_of f)

      frame : Frame
      frame = frame_for label (asked P.findings.escapes (P.findings.keeps_link (at_of f)) ps)

      by : (d : Translated Ts) → body_in frame ps kept has_result (λ w v. expression P.findings e w v) within (opened s frame) ≡ d →
          finish s d ≡ drawn c s2 → TextDone label f ps has_result e within s
      by (drawn text last) is e2 =
          let here : IsMoment P.table P.code (finished s.functions s.frame last text) = subst (λ o. IsMoment P.table P.code o) (sym (ap state_in e2)) m in
          let label_is : last.frame.label ≡ label = (frame_by (text_grows P.findings frame ps kept has_result e within (opened s frame)) is).label in
          record {
            last = last;
            text = text;
            is_text = is;
            moment = record {
              homes = here.homes;
              callees = here.callees;
              literals = here.literals;
              functions = λ g h. here.functions g
                  (in_later s.functions (with_body last.frame text) last.functions g h);
            };
            there = subst (λ o. function_of o P.code.functions ≡ Some (with_body last.frame text)) label_is (here.functions
                (with_body last.frame text) (in_there s.functions (with_body last.frame text) last.functions));
          }

  -- each function of a group, from a state in which all of them are found
  done_all : (scope : Scope) (level : ℕ) (keeps : Keeping) (seen : List Entry) (within : Within) → within.level ≡ level →
      (fs : FunDecs) (ss : List Signature) (label : ℕ) (s : TranslationState) (b : Unit {0}) (v : TranslationState) →
      HasBodies P.shapes P.notes fs ss (in_no_loop scope) → GiveBack fs ss → BodiesOfWords fs →
      CoversFunctions P.findings P.table P.weight level keeps (levels_of seen) fs → Tabled level label fs →
      bodies P.findings fs label within s ≡ drawn b v → HasFound P.table s scope.bindings → IsMoment P.table P.code v →
      AreDone P scope level keeps seen fs ss
  done_all scope level keeps seen within is _ _ label s b v has.end_bodies results words covers tabled made found m = tt
  done_all scope level keeps seen within is (function f ps r e rest) (sig ∷ ss) label s b v
      (has.a_body ty many values result typed fits more) results words covers tabled made found m =
      let i = after_inv (body label P.findings.escapes P.findings.keeps_link (at_of f) (is_some r) ps
      (λ w o. expression P.findings e w o) within s) _ b v made in
      let l2 : Later i.1 v = grows_by (bodies_grow P.findings rest (label + 1) within i.1) i.3 in
      let m2 : IsMoment P.table P.code i.1 = moment_before P.table P.code i.1 v m l2 in
      let l1 : Later s i.1 = one_body_later f ps r e label within s i.0 i.1 i.2 in
      let t = text_done label f ps (is_some r) e within s i.0 i.1 i.2 m2 in (
        record {
          ty = ty;
          many = many;
          typed = typed;
          fits = fits;
          result = results.0;
          params_have_values = values;
          words = words.0;
          covers = covers.1;
          callee = record { level = level; label = record { 0 = label } };
          tabled = tabled.0;
          level_is = refl;
          within = within;
          inner = is;
          before = s;
          last = t.last;
          text = t.text;
          saw = found;
          is_text = t.is_text;
          moment = t.moment;
          there = t.there;
        },
        done_all scope level keeps seen within is rest ss (label + 1) i.1 b v more results.1 words.1 covers.2 tabled.1 i.3
            (found_later P set s i.1 scope.bindings l1 m2 found) m,
      )
    where
      one_body_later : (f : Ident) (ps : List Param) (r : Option Ident) (e : Exp) (label : ℕ) (within : Within) (s : TranslationState) (c : Unit {0})
          (t : TranslationState) →
          body label P.findings.escapes P.findings.keeps_link (at_of f) (is_some r) ps (λ w o. expression P.findings e w o) within s ≡ drawn c t → Later s t
      one_body_later f ps r e label within s c t h = grows_by (bodies_grow P.findings (function f ps r e no_functions) label within s) (ap
          (λ o. after o (λ z. bodies P.findings no_functions (label + 1) within)) h)

module _ (P : Program) (set : Setting P) (grow : StatesGrow P) where
  -- What is asked of groups: results are as texts say, which the types of bodies don't tell.
  pub groups_done : ((fs : FunDecs) (ss : List Signature) (scope : Scope) → HasBodies P.shapes P.notes fs ss scope → GiveBack fs ss) →
      GroupsAreDone P set grow
  groups_done results n k fs ss u v a b apart typed words covers first second last =
      let mv : IsMoment P.table P.code v = moment_before P.table P.code v k.τ k.ready.moment last in
      let l2 : Later u v = grows_by (bodies_grow P.findings fs k.σ.label k.p.within u) second in
      let l1 : Later k.σ u = declared_later k.p.within.level fs k.σ a u first in
      let mu : IsMoment P.table P.code u = moment_before P.table P.code u v mv l2 in
      let levels : k.p.within.level ≡ k.p.env.level = k.ready.level ∙ sym k.ready.same_level in
      let scope : Scope = with_functions fs ss k.p.scope in
      let seen : List Entry = group k.p.env.level fs ∷ k.p.env.entries in
      let covers_ : CoversFunctions P.findings P.table P.weight k.p.env.level k.p.scene.keeps (levels_of seen) fs =
      subst (λ o. CoversFunctions P.findings P.table P.weight o k.p.scene.keeps (own_functions o fs (levels_of k.p.env.entries)) fs)
      (sym k.ready.same_level) covers in
      let tabled : Tabled P set k.p.env.level k.σ.label fs = subst (λ o. Tabled P set o k.σ.label fs) levels
      (tabled_all P set k.p.within.level fs k.σ a u u first (later_none u) mu) in
      record {
        later = later_on k.σ u v l1 l2;
        many = many_bodies P fs ss (in_no_loop scope) typed;
        done = done_all P set scope k.p.env.level k.p.scene.keeps seen k.p.within levels fs ss k.σ.label u b v typed (results fs ss
            (in_no_loop scope) typed) words covers_ tabled second
            (found_with P set u fs ss k.p.scope (found_all P set k.p.within.level fs k.σ a u u first (later_none u) mu)
            (found_later P set k.σ u k.p.scope.bindings l1 mu k.ready.found)) mv;
        found = found_with P set v fs ss k.p.scope (found_all P set k.p.within.level fs k.σ a u v first l2 mv)
            (found_later P set k.σ v k.p.scope.bindings (later_on k.σ u v l1 l2) mv k.ready.found);
        fits = (apart, group_weighs P k.p.env.level k.p.scene.keeps seen fs covers_, k.ready.fits);
      }

  pub groups : ((fs : FunDecs) (ss : List Signature) (scope : Scope) → HasBodies P.shapes P.notes fs ss scope → GiveBack fs ss) → Groups P set grow
  groups results = record {
    done = groups_done results;
    grows = λ fs within s u v a b first second. later_on s u v (declared_later within.level fs s a u first) (grows_by
        (bodies_grow P.findings fs s.label within u) second);
  }
