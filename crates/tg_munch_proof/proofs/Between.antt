-- An activation of a function, what is known between two elements of its body, and how the run goes on from an
-- expression.
use Rattle.std.proofs.Common.{◌≡◌, ◌≤◌, ◌<◌, ℕ, ◌+◌, ◌*◌, List, ◌++◌, append_assoc, length}
use Rattle.std.proofs.Common.{true, false, refl, sym, ap, ◌∙◌, subst, arith}
use Rattle.std.specs.Prelude.{IsTrue, Option, Some, None}
use Rattle.std.specs.List.{AllByRecursion}
use Rattle.tg_machine_state.specs.State.{heap_base, stack_top}
use Rattle.tg_simulation.specs.Runs.{Run}
use Rattle.tg_simulation.specs.Ran.{Ran, works}
use Rattle.tg_simulation.specs.laws.Simulating.{Simulates}
use Rattle.tg_simulation.proofs.Simulations.{simulates_along, simulates_paying, simulates_working, simulates_with_credit}
use Rattle.tg_tree.specs.Tree as tree
use Rattle.tg_tree.specs.Tree.{Tx, Ts, Literal, Linear, Function}
use Rattle.tg_tree.specs.Shapes.{IsFlat, IsFlatCode}
use Rattle.tg_tree.specs.Units.{Canonical}
use Rattle.tg_tree.specs.FrameSizes.{IsSizeOf}
use Rattle.tg_tree.specs.Memory.{Memory}
use Rattle.tg_tree.specs.Operators.{Given, word}
use Rattle.tg_tree.specs.FlatValue.{flat_value, flat_spent}
use Rattle.tg_tree.specs.Actions.{World, Temps, Activation, Around, Go, Back as TreeBack, with_given, wrong}
use Rattle.tg_tree.specs.Meaning.{Enter, Point, value}
use Rattle.tg_tree.specs.Flat.{run_flat, enter_flat}
use Rattle.tg_tree.specs.Running.{outermost}
use Rattle.tg_tree.specs.Holding.{WorldHoldsAtLeast, in_stack}
use Rattle.tg_tree.proofs.FlatValues.{flat_runs}
use Rattle.tg_instr.specs.declared.operands.Opnd.{Opnd}
use Rattle.tg_instr.specs.declared.instr.Instr.{Instr}
use Rattle.tg_instr.specs.Codes.{marks_differ}
use Rattle.tg_instr.specs.Contents.{Contents}
use Rattle.tg_instr.specs.Meaning.{Back}
use Rattle.tg_munch.specs.mirror.Choosing.{Choice, NumbersDrawn, ◌>>=◌, ◌>>◌, give}
use Rattle.tg_munch.specs.mirror.Munching.{kept_registers, expression, elements}
use Rattle.tg_munch.specs.mirror.Bodies.{munched, outs}
use Rattle.tg_munch.specs.laws.Lengths.{kept_count}
use Rattle.tg_munch.specs.mirror.Products.{leaves_product}
use Rattle.tg_munch_proof.specs.Words.{IsWord, HasWords}
use Rattle.tg_munch_proof.specs.glue.Places.{Place, Behaves, IsPart, goes, Walks}
use Rattle.tg_munch_proof.specs.laws.Values.{Result, IsAskable, extra, Scene}
use Rattle.tg_munch_proof.proofs.Behaving.{known, later_part}
use Rattle.tg_munch_proof.proofs.Does.{does_simulate}
use Rattle.tg_munch_proof.proofs.Loading.{expression_does}
use Rattle.tg_munch_proof.proofs.Words.{ReadsWords}
use Rattle.tg_munch_proof.specs.glue.Outlines.{Outline}
use Rattle.tg_munch_proof.specs.glue.Relating.{Program, code_behind, most_statics, AreAlike, going, TempsAlike, AreKept}
use Rattle.tg_munch_proof.specs.glue.Relating.{HiIsThere, outline_in, BacksMatch, EntersMatch, IsActivation}
use Rattle.tg_munch_proof.specs.laws.Chosen.{MayBeChosen, HasRoom, chosen}
use Rattle.tg_munch_proof.proofs.Asking.{same_input}
use Rattle.tg_munch_proof.proofs.Moves.{SameTemps, knows, temps_same, kept_same}
use Rattle.tg_munch_proof.proofs.Reading.{load_is_word, byte_is_word, literal_is_word}
use Rattle.tg_munch_proof.proofs.Seeing.{HasFrame, sees_it, walks_it}

-- statements and elements whose constants are words
abbrev StatementHasWords : Ts → Type 0
StatementHasWords (tree.Move _ x) = HasWords x
StatementHasWords (tree.Store x y) = HasWords x × HasWords y
StatementHasWords (tree.StoreByte x y) = HasWords x × HasWords y
StatementHasWords (tree.Do x) = HasWords x
StatementHasWords _ = Unit {0}

abbrev pub ElementHasWords : Linear → Type 0
ElementHasWords (tree.Do' s) = StatementHasWords s
ElementHasWords (tree.Branch _ x y _) = HasWords x × HasWords y
ElementHasWords (tree.Return' x) = HasWords x
ElementHasWords _ = Unit {0}

-- a move goes to a temporary that is drawn
abbrev pub MovesBelow : (temps : ℕ) → Linear → Type 0
MovesBelow temps (tree.Do' (tree.Move i x)) = i < temps
MovesBelow temps _ = Unit {0}

-- an activation of a function on both sides
pub record Activated : Type 0 where
  pub program : Program
  pub function : Function (List Linear)
  pub activation : Activation
  -- how the stack is seen outside of it
  pub outline : Outline
  -- what comes after its return
  pub back : TreeBack
  pub back_behind : Back
  -- what is drawn before its elements
  pub start : NumbersDrawn
  pub may : MayBeChosen function
  pub room : HasRoom program.code program.size program.floor program.room
  pub sized : IsSizeOf (chosen function) (program.size function.label)
  pub differ : IsTrue (marks_differ (munched function).code)
  pub active : IsActivation program function activation outline
  -- where its elements begin
  pub begins :
      (front : List Instr) ×
      ((munched function).code ≡ front ++ (elements function.slots function.temps None function.body start).code)
  pub drawn : function.temps + kept_count ≤ start.temp
  pub words : AllByRecursion ElementHasWords function.body
  pub moves : AllByRecursion (MovesBelow function.temps) function.body

-- one choice after another
pub in_two : {A B : Type 0} (first : Choice A) (next : A → Choice B) (d : NumbersDrawn) (tail : List Instr) →
    ((first >>= next) d).code ++ tail ≡
    (first d).code ++ ((next (first d).value (first d).drawn).code ++ tail)
unfolding ◌>>=◌
in_two first next d tail = append_assoc (first d).code (next (first d).value (first d).drawn).code tail

-- credit
pub pays : (r n k credit : ℕ) (c d : Run Ran) → credit ≤ r + k → Simulates 1 credit n c d →
    Simulates 1 r n (λ i. works k (c i)) d
pays r n k credit c d le h =
    simulates_paying 1 r n k c d (simulates_with_credit 1 credit (r + 1 * k) n c d (omega (arith, le)) h)

pub works_behind : (r n k credit : ℕ) (c d : Run Ran) → credit + k ≤ r → Simulates 1 credit n c d →
    Simulates 1 r n c (λ j. works k (d j))
works_behind r n k credit c d le h =
    simulates_with_credit 1 (credit + k) r n c (λ j. works k (d j)) le (simulates_working 1 credit n k c d h)

pub same_regions : (w x : World) → WorldHoldsAtLeast w x →
    (x.memory.statics ≡ w.memory.statics) × (x.memory.heap ≡ w.memory.heap)
same_regions w x (in_stack statics heap input cells cells' more) = (refl, refl)

module _ (a : Activated) where
  abbrev pub place : Place
  place = record {
    code = code_behind a.program;
    size = a.program.size;
    floor = a.program.floor;
    room = a.program.room;
    function = chosen a.function;
    activation = a.activation;
    back = a.back_behind;
  }

  abbrev pub literals : List Literal
  literals = a.program.code.literals

  abbrev pub around_it : Around
  around_it = outermost a.activation a.back

  abbrev pub enter : Enter
  enter = enter_flat a.program.code a.program.size a.program.floor a.program.room (going a.program)

  -- no loop stands in flat code
  abbrev pub no_loop : Point → Run Ran
  no_loop q = wrong q.world

  abbrev pub flat_goes : List Linear → World → Temps → Run Ran
  flat_goes rest w t =
      run_flat a.program.code a.program.size a.program.floor a.program.room (going a.program) a.function.body rest
      around_it tt w t

  abbrev pub flat_worth : Tx → Go ℕ → World → Temps → Run Ran
  flat_worth e go w t = value Canonical a.program.room literals enter no_loop e around_it go w t

  abbrev pub worth : World → Temps → Tx → Given
  worth w t e = flat_value literals a.activation.base w.memory t e

  abbrev pub spends : World → Temps → Tx → ℕ
  spends w t e = flat_spent Canonical literals a.activation.base w.memory t e

  abbrev pub within : Outline
  within = outline_in a.function a.activation a.outline

  abbrev pub AlikeIn : World → World → Type 0
  AlikeIn w x = AreAlike a.program within w x

  -- between two elements
  pub record InBody (before : Option Linear) (w x : World) (t : Temps) (s : Contents) : Type 0 where
    pub alike : AlikeIn w x
    pub temps : TempsAlike a.function.temps t s
    pub kept : AreKept a.function.temps kept_registers s
    pub hi : HiIsThere before literals a.activation.base w.memory t s

  -- what the body is from an element on
  pub record Remains (rest : List Linear) : Type 0 where
    pub flat : IsFlatCode rest
    pub words : AllByRecursion ElementHasWords rest
    pub moves : AllByRecursion (MovesBelow a.function.temps) rest
    pub outs : outs rest ≤ outs a.function.body

  -- an element with what is left to choose
  pub record Left (before : Option Linear) (rest : List Linear) (d : NumbersDrawn) : Type 0 where
    pub remains : Remains rest
    pub part : IsPart place (elements a.function.slots a.function.temps before rest d).code
    pub drawn : a.function.temps + kept_count ≤ d.temp

  -- as long as code is part of the function's, the instructions do what is left
  abbrev pub Matches : (r n : ℕ) → Run Ran → World → List Instr → Contents → Type 0
  Matches r n c x code s = IsPart place code → Simulates 1 r n c (goes place x code s)

  abbrev pub GoesOn : (r n : ℕ) → Option Linear → List Linear → NumbersDrawn → Type 0
  GoesOn r n before rest d =
      (w x : World) (t : Temps) (s : Contents) → InBody before w x t s →
      Matches r n (flat_goes rest w t) x (elements a.function.slots a.function.temps before rest d).code s

  -- what is known of calls, of the return, and of marks with less fuel
  pub record Fuelled (r n : ℕ) : Type 0 where
    pub calls : (m : ℕ) → m ≤ n → EntersMatch a.program m
    pub backs : BacksMatch a.program r n within a.back a.back_behind
    pub jumps :
        (k : ℕ) → k < n → (before : Option Linear) (rest : List Linear) (d : NumbersDrawn) → Left before rest d →
        GoesOn r k before rest d

  -- instructions one after another
  pub in_turn : {A B : Type 0} (first : Choice A) (next : A → Choice B) (d : NumbersDrawn) (tail : List Instr) (r n : ℕ)
      (c : Run Ran) (x : World) (s : Contents) →
      Matches r n c x ((first d).code ++ ((next (first d).value (first d).drawn).code ++ tail)) s →
      Matches r n c x (((first >>= next) d).code ++ tail) s
  in_turn first next d tail r n c x s h =
      subst (λ code. Matches r n c x code s) (sym (in_two first next d tail)) h

  abbrev pub done : Choice (Unit {0})
  done = give tt

  pub let_go : {A : Type 0} (first : Choice A) (d : NumbersDrawn) (tail : List Instr) (r n : ℕ) (c : Run Ran) (x : World)
      (s : Contents) →
      Matches r n c x ((first d).code ++ tail) s → Matches r n c x (((first >> done) d).code ++ tail) s
  let_go first d tail r n c x s h = in_turn first (λ y. done) d tail r n c x s h

  -- what is known of the code, and of what is read
  pub walks : Walks place
  walks = walks_it place a.differ

  pub heap_fits : heap_base + a.program.room ≤ stack_top
  heap_fits = let heap = a.room.heap in let stack = a.room.stack in omega (arith, heap, stack)

  pub base_is_word : IsWord a.activation.base
  base_is_word = let below = a.active.below in omega (arith, below)

  pub frame : (w x : World) → AlikeIn w x → HasFrame place x.memory a.function.slots
  frame w x h =
      let same = same_regions w x h.holds in
      let statics : length x.memory.statics ≤ most_statics a.program =
      subst (λ bytes. length bytes ≤ most_statics a.program) (sym same.0) h.statics in
      let heap : length x.memory.heap ≤ a.program.room =
      subst (λ bytes. length bytes ≤ a.program.room) (sym same.1) h.heap in
      let first = a.room.statics in
      let second = a.room.heap in
      let long = a.sized.holds in
      let is = a.active.frame in
      let fits = a.active.fits in
      record {
        slots_are = refl;
        word = base_is_word;
        statics = omega (arith, statics, first, second, long, is, fits);
        heap = omega (arith, heap, second, long, is, fits);
      }

  pub reads : (w x : World) (t : Temps) (s : Contents) → AlikeIn w x → TempsAlike a.function.temps t s →
      ReadsWords literals a.activation.base w.memory t
  reads w x t s h temps = record {
    addresses = λ label v e.
        literal_is_word literals label v (let first = a.room.statics in omega (arith, first)) e;
    frame = base_is_word;
    loads = λ b v e. load_is_word w.memory b v h.words e;
    loads_byte = λ b v e. byte_is_word w.memory b v h.words e;
    temps = λ i v e. (temps i v e).1;
  }

  abbrev pub scene_in : (w x : World) (t : Temps) (s : Contents) → AlikeIn w x → TempsAlike a.function.temps t s → Scene
  scene_in w x t s h temps = record {
    place = place;
    world = x;
    memory = w.memory;
    temps = t;
    slots = a.function.slots;
    walks = walks;
    sees = sees_it place w x t a.function.slots h.holds (frame w x h) (reads w x t s h temps);
  }

  -- an expression, by whatever its instructions do, and what is done with its word
  pub worth_matches : {A : Type 0} (c : Choice A) (d : NumbersDrawn) (e : Tx) (tail : List Instr) (go : Go ℕ)
      (r n k credit : ℕ) (w x : World) (t : Temps) (s : Contents)
      (Q : A → NumbersDrawn → ℕ → Contents → Type 0) →
      IsFlat e → w.input ≡ x.input → credit + k ≤ r + spends w t e →
      Behaves place x c d s k (worth w t e) Q →
      ((v : ℕ) (s1 : Contents) → worth w t e ≡ word v → Q (c d).value (c d).drawn v s1 →
      Matches credit n (go v w t) x tail s1) →
      Matches r n (flat_worth e go w t) x ((c d).code ++ tail) s
  worth_matches c d e tail go r n k credit w x t s Q flat same le does next part =
      let code = goes place x ((c d).code ++ tail) s in
      let after = with_given (worth w t e) w (λ v. go v w t) in
      simulates_along 1 r n (λ i. works (spends w t e) (after i)) (flat_worth e go w t) code code
      (λ i. flat_runs Canonical a.program.room literals enter no_loop e around_it go w t i flat) (λ i. refl)
      (pays r n (spends w t e) (credit + k) after code le
      (does_simulate w x _ credit n k code (worth w t e) (λ v. go v w t) same
      (known place x c d s k (worth w t e) Q does tail part)
      (λ v z q. subst (λ y. Simulates 1 credit n (go v w t) y) (sym q.is)
      (next v q.contents q.holds.0 q.holds.1 (later_part place (c d).code tail part)))))

  -- one whose word is known
  pub known_worth : (e : Tx) (u : ℕ) (go : Go ℕ) (r n credit : ℕ) (w : World) (t : Temps) (d : Run Ran) →
      IsFlat e → worth w t e ≡ word u → credit ≤ r + spends w t e → Simulates 1 credit n (go u w t) d →
      Simulates 1 r n (flat_worth e go w t) d
  known_worth e u go r n credit w t d flat is le h =
      simulates_along 1 r n (λ i. works (spends w t e) (go u w t i)) (flat_worth e go w t) d d
      (λ i. flat_runs Canonical a.program.room literals enter no_loop e around_it go w t i flat ∙
      ap (λ g. works (spends w t e) (with_given g w (λ v. go v w t) i)) is) (λ i. refl)
      (pays r n (spends w t e) credit (go u w t) d le h)

  pub expression_matches : (e : Tx) (dest : Option Opnd) (d : NumbersDrawn) (tail : List Instr) (go : Go ℕ) (r n credit : ℕ)
      (w x : World) (t : Temps) (s : Contents) →
      AlikeIn w x → TempsAlike a.function.temps t s → a.function.temps ≤ d.temp →
      IsFlat e → HasWords e → IsAskable dest → credit + extra dest ≤ r →
      ((v : ℕ) (s1 : Contents) → IsWord v → worth w t e ≡ word v →
      Result a.activation d dest s (expression a.function.slots e dest d).value
      (expression a.function.slots e dest d).drawn v s1 →
      Matches credit n (go v w t) x tail s1) →
      Matches r n (flat_worth e go w t) x ((expression a.function.slots e dest d).code ++ tail) s
  expression_matches e dest d tail go r n credit w x t s alike temps le flat small askable fits next =
      let scene = scene_in w x t s alike temps in
      worth_matches (expression a.function.slots e dest) d e tail go r n (spends w t e + extra dest) credit w x t s
      (Result a.activation d dest s) flat (same_input w x alike.holds) (omega (arith, fits))
      (expression_does scene e flat small dest d s askable
      (knows a.function.temps t d s le temps))
      (λ v s1 is q. next v s1 (scene.sees.words e v flat small is) is q)

  -- what is known after an element that leaves no product in hi
  pub no_product : (before : Option Linear) (m : Memory) (t : Temps) (s : Contents) →
      ((u v : Tx) → leaves_product before u v ≡ false) → HiIsThere before literals a.activation.base m t s
  no_product before m t s none u v e = absurd (no (sym (none u v) ∙ e))
    where
      no : false ≡ true → ⊥
      no q = cc

  pub forgets : (before : Option Linear) (e : Linear) (w x : World) (t : Temps) (s : Contents) →
      ((u v : Tx) → leaves_product (Some e) u v ≡ false) → InBody before w x t s → InBody (Some e) w x t s
  forgets before e w x t s none h = record {
    alike = h.alike;
    temps = h.temps;
    kept = h.kept;
    hi = no_product (Some e) w.memory t s none;
  }

module _ (a : Activated) where
  -- worlds and contents that changed, but for temporaries that the body may read
  pub passes : (before : Option Linear) (e : Linear) (d : NumbersDrawn) (w x w1 x1 : World) (t : Temps) (s s1 : Contents) →
      ((u v : Tx) → leaves_product (Some e) u v ≡ false) → a.function.temps + kept_count ≤ d.temp →
      InBody a before w x t s → AlikeIn a w1 x1 → SameTemps d.temp s s1 → InBody a (Some e) w1 x1 t s1
  passes before e d w x w1 x1 t s s1 none le h alike same = record {
    alike = alike;
    temps = temps_same a.function.temps d.temp t s s1 (omega (arith, le)) same h.temps;
    kept = kept_same a.function.temps d.temp kept_registers s s1 le same h.kept;
    hi = no_product a (Some e) w1.memory t s1 none;
  }
