-- What is told of a function, piece by piece.
use Rattle.std.proofs.Common.{◌≡◌, ℕ, Bool, List, [], ◌++◌, Option, refl, sym, ap, subst, ◌∙◌, append_assoc}
use Rattle.tg_frame.specs.declared.frames.Frame.{Frame}
use Rattle.tg_tree.specs.Tree.{Ts, Stms, Linear, Function}
use Rattle.tg_tree.specs.glue.Plain.{plain_function}
use Rattle.tg_canon.specs.mirror.Drawing.{Drawn, DrawsFrom}
use Rattle.tg_canon.specs.mirror.Canon.{linearized}
use Rattle.tg_trace_schedule.specs.Block.{Block}
use Rattle.tg_trace_schedule.specs.mirror.Cutting.{blocks_of}
use Rattle.tg_trace_schedule.specs.mirror.Laying.{traced}
use Rattle.tg_canon_trace_proof.specs.Flattened.{flattened}
use Rattle.tg_irc_definition.specs.declared.rounds.Round.{Round}
use Rattle.tg_regalloc.specs.declared.allocations.Allocation.{Allocation}
use Rattle.tg_compile.specs.declared.passes.Passes.{Passes}
use Rattle.tg_compile.specs.Prepared.{prepared_function}
use Rattle.tg_show.specs.declared.variables.FunctionVariables.{FunctionVariables}
use Rattle.tg_show.specs.Stages.{canonical_stage, blocks_stage, traces_stage}
use Rattle.tg_stages.specs.declared.headings.Heading.{Heading}
use Rattle.tg_stages.specs.Shown.{heading_text, variables_text, temp_names, trees_text, flat_text, allocated_text, first_code, TellsCode, TellsFunction}
use Rattle.tg_stages.specs.glue.Putting.{Puts}

abbrev of_statements : (before : List ℕ) → Stms → List ℕ
of_statements t ss = t ++ (canonical_stage [] ss ++ (blocks_stage [] (blocks_of ss) ++ traces_stage [] (traced (blocks_of ss))))

pub flat_told : (frame : Frame) (body : Ts) (statements : Stms) (next : ℕ) (blocks : List Block) (flat : List Linear) (t u v w : List ℕ) →
    DrawsFrom (linearized body) frame.temps statements next → blocks ≡ blocks_of statements → flat ≡ traced blocks →
    u ≡ t ++ canonical_stage [] statements → v ≡ u ++ blocks_stage [] blocks → w ≡ v ++ traces_stage [] flat →
    w ≡ t ++ flat_text (plain_function frame body)
flat_told frame body statements next blocks flat t u v w draws cut laid p q r =
    let first = canonical_stage [] statements in
    let all : w ≡ ((t ++ first) ++ blocks_stage [] blocks) ++ traces_stage [] flat =
    r ∙ ap (λ x. x ++ traces_stage [] flat) (q ∙ ap (λ x. x ++ blocks_stage [] blocks) p) in
    let joined : w ≡ t ++ (first ++ (blocks_stage [] blocks ++ traces_stage [] flat)) =
    all ∙ append_assoc (t ++ first) (blocks_stage [] blocks) (traces_stage [] flat)
    ∙ append_assoc t first (blocks_stage [] blocks ++ traces_stage [] flat) in
    let lines : flat ≡ traced (blocks_of statements) = laid ∙ ap traced cut in
    joined ∙ ap (λ b. t ++ (first ++ (blocks_stage [] b ++ traces_stage [] flat))) cut
    ∙ ap (λ x. t ++ (first ++ (blocks_stage [] (blocks_of statements) ++ traces_stage [] x))) lines
    ∙ ap (λ (d : Drawn Stms). of_statements t d.it) (sym draws.is)

pub function_told : (passes : Passes) (long : Bool) (h : Heading) (own : Option FunctionVariables) (names : List (List ℕ)) (f g : Function Ts)
    (one : Function (List Linear)) (a : Allocation) (rounds : List Round) (t h_end u v w x y : List ℕ) → names ≡ temp_names own → g ≡ prepared_function passes f →
    one ≡ flattened g → rounds ≡ a.rounds → h_end ≡ t ++ heading_text f.label h → u ≡ h_end ++ variables_text own → v ≡ u ++ trees_text passes f → w ≡ v ++ flat_text g →
    Puts w x (TellsCode names (first_code one) rounds) → y ≡ x ++ allocated_text names long a →
    Puts t y (TellsFunction passes long h own f a)
function_told passes long h own names f g one a rounds t h_end u v w x y named prepared flat counted p o q r s last =
    let head = heading_text f.label h in
    let mine = variables_text own in
    let trees = trees_text passes f in
    let code = s.told in
    let end = allocated_text (temp_names own) long a in
    let N : List (List ℕ) → Type 0 = λ ns. y ≡ x ++ allocated_text ns long a in
    let M : List (List ℕ) → Type 0 = λ ns. TellsCode ns (first_code one) rounds code in
    let P : Function (List Linear) → Type 0 = λ m. TellsCode (temp_names own) (first_code m) rounds code in
    let R : List Round → Type 0 = λ rs. TellsCode (temp_names own) (first_code (flattened (prepared_function passes f))) rs code in
    let all : y ≡ (((((t ++ head) ++ mine) ++ trees) ++ flat_text g) ++ code) ++ end =
    subst N named last
    ∙ ap (λ z. z ++ end) (s.is_behind
    ∙ ap (λ z. z ++ code) (r ∙ ap (λ z. z ++ flat_text g) (q ∙ ap (λ z. z ++ trees) (o ∙ ap (λ z. z ++ mine) p)))) in
    let joined : y ≡ t ++ (head ++ (mine ++ (trees ++ (flat_text g ++ (code ++ end))))) = all ∙ simp append_assoc in
    record {
      told = head ++ (mine ++ (trees ++ (flat_text (prepared_function passes f) ++ (code ++ end))));
      is_behind = joined ∙ ap (λ m. t ++ (head ++ (mine ++ (trees ++ (flat_text m ++ (code ++ end)))))) prepared;
      holds = record {
        code = code;
        tells_code = subst R counted (subst P (flat ∙ ap flattened prepared) (subst M named s.holds));
        text_is = refl;
      };
    }
