-- Marks, jumps and branches.
use Rattle.std.proofs.Common.{ℕ, zero, suc, ◌≡◌, ◌<◌, ◌≤◌, ◌==◌, List, [], ◌∷◌, ◌++◌, refl, ap, sym, ◌∙◌}
use Rattle.std.proofs.Common.{subst, arith, append_assoc, eqb-true, Bool, true, false, Option, Some, None}
use Rattle.std.specs.Prelude.{if◌then◌else◌, not}
use Rattle.std.specs.Str.{bytes_eq}
use Rattle.tg_base.specs.Words.{less}
use Rattle.tg_machine_state.specs.State.{MachineState, register}
use Rattle.tg_simulation.specs.Runs.{Run}
use Rattle.tg_simulation.specs.Ran.{Ran, works}
use Rattle.tg_simulation.specs.laws.Simulating.{Comes}
use Rattle.tg_simulation.proofs.Simulations.{simulates_less, simulates_wrong, comes_itself}
use Rattle.tg_isa.specs.declared.mips.Mips.{Mips}
use Rattle.tg_isa.specs.declared.mips.Mips.TheVariants as row
use Rattle.tg_tree.specs.declared.operators.Rel.{Rel}
use Rattle.tg_tree.specs.declared.operators.Rel.TheVariants.{Equal, NotEqual, Less, LessEqual, Greater, GreaterEqual}
use Rattle.tg_tree.specs.declared.operators.Rel.TheVariants.{Below, NotBelow}
use Rattle.tg_tree.specs.Actions.{charged}
use Rattle.tg_tree.specs.Operators.{holds, opposite}
use Rattle.tg_instr.specs.declared.operands.Opnd.{Opnd}
use Rattle.tg_instr.specs.declared.operands.Opnd.TheVariants.{Temp, Reg}
use Rattle.tg_instr.specs.declared.instr.Instr.{Instr}
use Rattle.tg_instr.specs.declared.instr.Instr.TheVariants as instr
use Rattle.tg_instr.specs.declared.instr.Test.{Test}
use Rattle.tg_instr.specs.Shapes.{Operand, shape}
use Rattle.tg_instr.specs.Contents.{held}
use Rattle.tg_instr.specs.Meaning.{jump, skip, with_content_word}
use Rattle.tg_instr.specs.Operands.{is_one_row, is_zero}
use Rattle.tg_instr.specs.Running as code
use Rattle.tg_instr.specs.Running.{CodePoint}
use Rattle.tg_emit.specs.declared.assembly.Line.{Line}
use Rattle.tg_emit.specs.declared.assembly.Line.TheVariants.{Label, One, La, Statics}
use Rattle.tg_emit.specs.mirror.Names.{mark_name, behind_name}
use Rattle.tg_emit.specs.mirror.Lines.{code_lines, branch_lines}
use Rattle.tg_emit.specs.mirror.Rows.{register_of, branch_on, branch_of, opposite_branch_of}
use Rattle.tg_emit_proof.specs.LinesRun.{behind as lines_behind, leads_if, leads_unless, row_does, way, left, Leads}
use Rattle.tg_emit_proof.specs.LinesRun.{Untaken}
use Rattle.tg_emit_proof.specs.Setting.{Setting, from, jump_in, around}
use Rattle.tg_emit_proof.specs.glue.Standing.{BackGoesOn, Stands}
use Rattle.tg_emit_proof.specs.glue.Situation.{point, At, onward, acts, LinesFollow, InstructionGoesOn}
use Rattle.tg_emit_proof.proofs.Registers.{IsNamed}
use Rattle.tg_emit_proof.proofs.Basics.{some_is}
use Rattle.tg_emit_proof.proofs.Rows.{Turns, done, comes_by, turns_once, turns_more, turns_by, turn_goes_on}
use Rattle.tg_emit_proof.proofs.Onward.{behind, here_is, comes_behind}
use Rattle.tg_emit_proof.proofs.Straight.{names, reads_register}
use Rattle.tg_emit_proof.proofs.Each.{two_named}

-- what is after a mark or a label is a part
pub code_part : (m : ℕ) (list rest : List Instr) → code.behind m list ≡ Some rest → (front : List Instr)
    × (list ≡ front ++ rest)
code_part m [] rest h = cc
code_part m (instr.Mark j ∷ more) rest h = by (j == m) h (λ e. code_part m more rest e)
  where
    by : (b : Bool) → (if b then Some more else code.behind m more) ≡ Some rest →
        (code.behind m more ≡ Some rest → (front : List Instr) × (more ≡ front ++ rest)) → (front : List Instr)
        × (instr.Mark j ∷ more ≡ front ++ rest)
    by true h again = (instr.Mark j ∷ [], ap (λ l. instr.Mark j ∷ l) (some_is more rest h))
    by false h again = let t = again h in (instr.Mark j ∷ t.0, ap (λ l. instr.Mark j ∷ l) t.1)
code_part m (one ∷ more) rest h = let t = code_part m more rest h in (one ∷ t.0, ap (λ l. one ∷ l) t.1)

pub lines_part : (name : List ℕ) (lines inside : List Line) → lines_behind name lines ≡ Some (left inside) →
    (front : List Line) × (lines ≡ front ++ inside)
lines_part name [] inside h = cc
lines_part name (Label other ∷ more) inside h = by (bytes_eq name other) h (λ e. lines_part name more inside e)
  where
    same : (xs ys : List Line) → Some (left xs) ≡ Some (left ys) → xs ≡ ys
    same xs ys e = cc

    by : (b : Bool) → (if b then Some (left more) else lines_behind name more) ≡ Some (left inside) →
        (lines_behind name more ≡ Some (left inside) → (front : List Line) × (more ≡ front ++ inside)) →
        (front : List Line) × (Label other ∷ more ≡ front ++ inside)
    by true h again = (Label other ∷ [], ap (λ l. Label other ∷ l) (same more inside h))
    by false h again = let t = again h in (Label other ∷ t.0, ap (λ l. Label other ∷ l) t.1)
lines_part name (One one target ∷ more) inside h = let t = lines_part name more inside h in
    (One one target ∷ t.0, ap (λ l. One one target ∷ l) t.1)
lines_part name (La r other ∷ more) inside h = let t = lines_part name more inside h in
    (La r other ∷ t.0, ap (λ l. La r other ∷ l) t.1)
lines_part name (Statics bytes ∷ more) inside h = let t = lines_part name more inside h in
    (Statics bytes ∷ t.0, ap (λ l. Statics bytes ∷ l) t.1)

same_runs : (c d : Run Ran) → ((n : ℕ) → c n ≡ d n) → c ≡ d
same_runs c d h = λ i n. h n i

module _ (g : Setting) (one : Instr) (k : At g one) where
  -- less fuel comes back too
  pub less_back : (m : ℕ) → m < k.fuel → BackGoesOn g k.credit m k.finds k.found k.activation.base k.back
  less_back m lt c w t a b d e h =
      simulates_less 1 k.credit m k.fuel _ _ (omega (arith, lt)) (k.after c w t a b d e h)

  -- where a mark leads
  pub record IsTarget (m : ℕ) (rest : List Instr) : Type 0 where
    pub inside : List Line
    pub leads : lines_behind (mark_name k.function.label m) g.lines ≡ Some (left inside)
    pub stands :
        Stands g k.finds k.found (point k.function rest k.activation k.back k.world k.contents) inside k.state

  target : (m : ℕ) (rest : List Instr) → code.behind m k.function.body ≡ Some rest → IsTarget m rest
  target m rest e =
      let t = k.stands.placed.marks m rest e in
      let inside = code_lines g.turned k.function.label (g.size k.function.label) t.0 rest ++ k.stands.placed.after in
      let c = code_part m k.function.body rest e in
      let l = lines_part (mark_name k.function.label m) g.lines inside t.1 in
      let s = k.stands in
      record {
        inside = inside;
        leads = t.1;
        stands = record {
          function = s.function;
          placed = s.placed;
          front = c.0;
          code = c.1;
          place = t.0;
          here = refl;
          before = l.0;
          whole = l.1;
          sizes = s.sizes;
          sized = s.sized;
          frame = s.frame;
          registers = s.registers;
          memory = s.memory;
          owns = s.owns;
          input = s.input;
        };
      }

  abbrev pub jumps : ℕ → Run Ran
  jumps m =
      jump_in g k.function
      (code.behind m k.function.body) k.activation k.back k.world k.contents

  -- it leads to a mark by some rows, of which one takes fuel
  pub arrives : (m units : ℕ) →
      ((inside : List Line) → lines_behind (mark_name k.function.label m) g.lines ≡ Some (left inside) →
      Turns units (from g k.here k.state k.world.input) (from g inside k.state k.world.input)) →
      LinesFollow g one k (charged units (jumps m))
  arrives m units to = by (code.behind m k.function.body) refl
    where
      by : (o : Option (List Instr)) → code.behind m k.function.body ≡ o →
          LinesFollow g one k (charged units (jump_in g k.function o k.activation k.back k.world k.contents))
      by None e = simulates_wrong 1 k.credit k.fuel _ _ (λ i. refl)
      by (Some rest) e =
          let t = target m rest e in
          turn_goes_on k.credit k.fuel units k.world _ _ (from g t.inside k.state k.world.input) refl
          (to t.inside t.leads)
          (λ i lt. k.less i lt k.finds k.found _ t.inside k.state t.stands (less_back i lt))

  -- a first row that leads somewhere or isn't taken
  leads_there : (first : Mips) (name : List ℕ) (more inside : List Line) → k.here ≡ One first name ∷ more →
      way g.returns g.lines first name more k.state ≡ Leads (lines_behind name g.lines) k.state →
      lines_behind name g.lines ≡ Some (left inside) →
      (i : ℕ) → from g k.here k.state k.world.input (suc i) ≡ works 1 (from g inside k.state k.world.input i)
  leads_there first name more inside here leads there i =
      ap (λ l. from g l k.state k.world.input (suc i)) here
      ∙ (ap (λ y. works 1 (done g k.world.input i (row_does y first more k.state))) leads
      ∙ ap (λ o. works 1 (done g k.world.input i (row_does (Leads o k.state) first more k.state))) there)

  passes_by : (first : Mips) (name : List ℕ) (more : List Line) → k.here ≡ One first name ∷ more →
      way g.returns g.lines first name more k.state ≡ Untaken → (i : ℕ) → from g k.here k.state k.world.input (suc i)
      ≡ works 1 (from g more k.state k.world.input i)
  passes_by first name more here leads i =
      ap (λ l. from g l k.state k.world.input (suc i)) here
      ∙ ap (λ y. works 1 (done g k.world.input i (row_does y first more k.state))) leads

  -- nothing is done and some rows come after it
  pub goes_behind : (units rows : ℕ) → rows ≤ units →
      Comes rows (from g k.here k.state k.world.input) (from g (behind g one k) k.state k.world.input) →
      LinesFollow g one k (charged units (onward g one k k.world k.contents))
  goes_behind units rows enough comes =
      comes_behind g one k rows units k.world k.contents k.state enough k.stands.sizes k.stands.registers
      k.stands.memory k.stands.input
      (subst (λ l. Comes rows (from g l k.state k.world.input) (from g (behind g one k) k.state k.world.input))
      (here_is g one k) comes)

  -- an operand that is read
  pub reads_operand : (x : Opnd) → IsNamed x → (units : ℕ) (go : ℕ → Run Ran) →
      LinesFollow g one k (charged units (go (register k.state (register_of x)))) →
      LinesFollow g one k (charged units (with_content_word (held k.activation k.contents (Operand x)) k.world go))
  reads_operand (Temp t) n units go h = cc
  reads_operand (Reg r) n units go h = reads_register g one k r units go n h

-- a mark is no row
pub mark_goes : (g : Setting) (m : ℕ) → InstructionGoesOn g (instr.Mark m)
mark_goes g m k =
    goes_behind g (instr.Mark m) k 0 0 (omega arith)
    (subst (λ c. Comes 0 c (from g rest k.state k.world.input)) (sym same)
    (comes_itself (from g rest k.state k.world.input)))
  where
    rest : List Line
    rest = behind g (instr.Mark m) k

    label_is : (n : ℕ) → from g (Label (mark_name k.function.label m) ∷ rest) k.state k.world.input n
        ≡ from g rest k.state k.world.input n
    label_is zero = refl
    label_is (suc n) = refl

    same : from g k.here k.state k.world.input ≡ from g rest k.state k.world.input
    same = same_runs _ _ (λ n. ap (λ l. from g l k.state k.world.input n) (here_is g (instr.Mark m) k) ∙ label_is n)

pub jump_goes : (g : Setting) (m : ℕ) → InstructionGoesOn g (instr.Jump m)
jump_goes g m k =
    arrives g (instr.Jump m) k m 1
    (λ inside e. turns_once _ _
    (leads_there g (instr.Jump m) k (row.J 0) (mark_name k.function.label m) (behind g (instr.Jump m) k) inside
    (here_is g (instr.Jump m) k) refl e))

-- A branch is taken where its comparison holds.
zero_there : (x : Opnd) (s : MachineState) → is_zero x ≡ true → register s 0 ≡ 0 → register s (register_of x) ≡ 0
zero_there (Temp t) s h z = cc
zero_there (Reg r) s h z = subst (λ q. register s q ≡ 0) (sym (eqb-true r 0 h)) z

module _ (g : Setting) (name : List ℕ) (more : List Line) (s : MachineState) (none : register s 0
    ≡ 0) (left right : Opnd) where
  abbrev u : ℕ
  u = register s (register_of left)

  abbrev v : ℕ
  v = register s (register_of right)

  turned_round : (b : Bool) → leads_unless b (lines_behind name g.lines) s
      ≡ leads_if (not b) (lines_behind name g.lines) s
  turned_round true = refl
  turned_round false = refl

  abbrev Decided : Rel → Type 0
  Decided rel =
      way g.returns g.lines (branch_on rel (register_of left) (register_of right)) name more s
      ≡ leads_if (holds rel u v) (lines_behind name g.lines) s

  decided : (rel : Rel) → is_one_row rel left right ≡ true → Decided rel
  decided Equal h = refl
  decided NotEqual h = turned_round (u == v)
  decided Less h = ap (λ n. leads_if (less u n) (lines_behind name g.lines) s) (sym (zero_there right s h none))
  decided LessEqual h =
      turned_round (less 0 u) ∙ ap (λ n. leads_if (not (less n u)) (lines_behind name g.lines) s)
      (sym (zero_there right s h none))
  decided Greater h = ap (λ n. leads_if (less n u) (lines_behind name g.lines) s) (sym (zero_there right s h none))
  decided GreaterEqual h =
      turned_round (less u 0) ∙ ap (λ n. leads_if (not (less u n)) (lines_behind name g.lines) s)
      (sym (zero_there right s h none))
  decided Below h = cc
  decided NotBelow h = cc

  not_not : (b : Bool) → b ≡ not (not b)
  not_not true = refl
  not_not false = refl

  other_holds : (rel : Rel) (a b : ℕ) → holds (opposite rel) a b ≡ not (holds rel a b)
  other_holds Equal a b = refl
  other_holds NotEqual a b = not_not (a == b)
  other_holds Less a b = refl
  other_holds LessEqual a b = not_not (less b a)
  other_holds Greater a b = refl
  other_holds GreaterEqual a b = not_not (less a b)
  other_holds Below a b = refl
  other_holds NotBelow a b = not_not _

  other_row : (rel : Rel) → is_one_row rel left right ≡ true → is_one_row (opposite rel) left right ≡ true
  other_row Equal h = refl
  other_row NotEqual h = refl
  other_row Less h = h
  other_row LessEqual h = h
  other_row Greater h = h
  other_row GreaterEqual h = h
  other_row Below h = cc
  other_row NotBelow h = cc

  -- and its opposite where it doesn't
  other_decided : (rel : Rel) → is_one_row rel left right ≡ true →
      way g.returns g.lines (branch_on (opposite rel) (register_of left) (register_of right)) name more s
      ≡ leads_if (not (holds rel u v)) (lines_behind name g.lines) s
  other_decided rel h = decided (opposite rel) (other_row rel h)
      ∙ ap (λ b. leads_if b (lines_behind name g.lines) s) (other_holds rel u v)

module _ (g : Setting) (test : Test) (m : ℕ) (k : At g (instr.Branch test m)) where
  abbrev it : Instr
  it = instr.Branch test m

  abbrev there : List ℕ
  there = mark_name k.function.label m

  abbrev past : List ℕ
  past = behind_name k.function.label k.stands.place

  abbrev rest : List Line
  rest = behind g it k

  abbrev x : ℕ
  x = register k.state (register_of test.left)

  abbrev y : ℕ
  y = register k.state (register_of test.right)

  none : register k.state 0 ≡ 0
  none = k.stands.registers.each 0 refl

  lines_are : (t : Bool) → g.turned ≡ t →
      k.here ≡ branch_lines t (branch_of test) (opposite_branch_of test) there past ++ rest
  lines_are t e = here_is g it k
      ∙ ap (λ u. branch_lines u (branch_of test) (opposite_branch_of test) there past ++ rest) e

  taken : (more : List Line) → holds test.rel x y ≡ true → way g.returns g.lines (branch_of test) there more k.state
      ≡ Leads (lines_behind there g.lines) k.state
  taken more e =
      decided g there more k.state none test.left test.right test.rel test.is_one_row
      ∙ ap (λ b. leads_if b (lines_behind there g.lines) k.state) e

  untaken : (more : List Line) → holds test.rel x y ≡ false →
      way g.returns g.lines (branch_of test) there more k.state ≡ Untaken
  untaken more e =
      decided g there more k.state none test.left test.right test.rel test.is_one_row
      ∙ ap (λ b. leads_if b (lines_behind there g.lines) k.state) e

  other_taken : (more : List Line) → holds test.rel x y ≡ false →
      way g.returns g.lines (opposite_branch_of test) past more k.state ≡ Leads (lines_behind past g.lines) k.state
  other_taken more e =
      other_decided g past more k.state none test.left test.right test.rel test.is_one_row
      ∙ ap (λ b. leads_if (not b) (lines_behind past g.lines) k.state) e

  other_untaken : (more : List Line) → holds test.rel x y ≡ true →
      way g.returns g.lines (opposite_branch_of test) past more k.state ≡ Untaken
  other_untaken more e =
      other_decided g past more k.state none test.left test.right test.rel test.is_one_row
      ∙ ap (λ b. leads_if (not b) (lines_behind past g.lines) k.state) e

  -- the label after a branch that is turned round
  around_leads : g.turned ≡ true → lines_behind past g.lines ≡ Some (left rest)
  around_leads e =
      k.known.labels (k.stands.before ++ One (opposite_branch_of test) past ∷ One (row.J 0) there ∷ []) rest past
      (k.stands.whole ∙ (ap (λ l. k.stands.before ++ l) (lines_are true e)
      ∙ sym (append_assoc k.stands.before (One (opposite_branch_of test) past ∷ One (row.J 0) there ∷ [])
      (Label past ∷ rest))))

  holds_so : (t : Bool) → g.turned ≡ t → holds test.rel x y ≡ true → LinesFollow g it k (charged 2 (jumps g it k m))
  holds_so false e h =
      arrives g it k m 2
      (λ inside l. turns_more 1 2 _ _ (omega arith) (turns_once _ _
      (leads_there g it k (branch_of test) there rest inside (lines_are false e) (taken rest h) l)))
  holds_so true e h =
      let jump : List Line = One (row.J 0) there ∷ Label past ∷ rest in
      arrives g it k m 2
      (λ inside l. turns_by 1 _ (from g jump k.state k.world.input) _
      (passes_by g it k (opposite_branch_of test) past jump (lines_are true e) (other_untaken jump h))
      (comes_by _ _
      (λ i. ap (λ o. works 1 (done g k.world.input i
      (row_does (Leads o k.state) (row.J 0) (Label past ∷ rest) k.state))) l)))

  fails_so : (t : Bool) → g.turned ≡ t → holds test.rel x y ≡ false →
      LinesFollow g it k (charged 2 (onward g it k k.world k.contents))
  fails_so false e h =
      goes_behind g it k 2 1 (omega arith)
      (λ i. (
        suc i,
        omega arith,
        1,
        omega arith,
        passes_by g it k (branch_of test) there rest (lines_are false e)
            (untaken rest h) i,
      ))
  fails_so true e h =
      goes_behind g it k 2 1 (omega arith)
      (λ i. (
        suc i,
        omega arith,
        1,
        omega arith,
        leads_there g it k (opposite_branch_of test) past (One (row.J 0) there ∷ Label past ∷ rest) rest
            (lines_are true e)
            (other_taken (One (row.J 0) there ∷ Label past ∷ rest) h) (around_leads e) i,
      ))

  pub branch_goes : LinesFollow g it k (charged 2 (acts g it k (shape it)))
  branch_goes =
      let n = two_named test.left test.right (names g it k) in
      reads_operand g it k test.left n.0 2 _ (reads_operand g it k test.right n.1 2 _ (by (holds test.rel x y) refl))
    where
      by : (b : Bool) → holds test.rel x y ≡ b →
          LinesFollow g it k
          (charged 2 ((if b then jump m else skip)
          (around g
          k.function k.activation k.back)
          (λ w c. onward g it k w c) k.world k.contents))
      by true h = holds_so g.turned refl h
      by false h = fails_so g.turned refl h
