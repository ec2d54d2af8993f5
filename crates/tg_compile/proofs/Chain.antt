-- Functions and literals one after another, and what each is compiled to.
use Rattle.std.proofs.Common.{◌≡◌, ◌<◌, ℕ, Bool, true, false, List, [], ◌∷◌, ◌++◌, refl, sym, ap, subst, ◌∙◌}
use Rattle.std.specs.Prelude.{map, if◌then◌else◌}
use Rattle.std.specs.List.{zip}
use Rattle.std.specs.FinSet.{FinSet, from_list}
use Rattle.std.specs.Ordering.{nat_cmp}
use Rattle.std.proofs.lemmas.List.{map-append}
use Rattle.tg_syntax.specs.Tree.{Exp}
use Rattle.tg_typecheck.specs.declared.notes.Note.{Note}
use Rattle.tg_escape.specs.Escaping.{escapes_of}
use Rattle.tg_escape.specs.Links.{links_of}
use Rattle.tg_fold.specs.laws.Laws.{folded_function}
use Rattle.tg_fold.specs.laws.Meaning.{folded_code}
use Rattle.tg_translate.specs.mirror.Scopes.{found}
use Rattle.tg_translate.specs.mirror.Translate.{translated}
use Rattle.tg_tree.specs.declared.fragments.Fragment.{Fragment}
use Rattle.tg_tree.specs.declared.fragments.Literal.{Literal}
use Rattle.tg_tree.specs.Tree.{Ts, Function, Code, Linear, Stms}
use Rattle.tg_tree.specs.glue.Plain.{plain_fragment, plain_literal, plain_function}
use Rattle.tg_runtime.specs.mirror.Routines.{runtime}
use Rattle.tg_translate_laws.specs.Programs.{with_runtime}
use Rattle.tg_frame.specs.declared.frames.Frame.{Frame}
use Rattle.tg_base.specs.declared.ids.Label.{Label}
use Rattle.tg_asm_text.specs.Assembly.{assembled}
use Rattle.tg_asm_text.specs.Placement.{image_of}
use Rattle.tg_asm_text.specs.Texts.{readings_of}
use Rattle.tg_instr.specs.declared.codes.Allocated.{Allocated}
use Rattle.tg_instr.specs.declared.codes.Code.{Code as Instructions}
use Rattle.tg_munch.specs.mirror.Bodies.{munched, outs}
use Rattle.tg_redundancy.specs.mirror.Known.{known_code}
use Rattle.tg_irc_definition.specs.Policies.{Rule}
use Rattle.tg_regalloc.specs.declared.allocations.Allocation.{Allocation}
use Rattle.tg_regalloc.specs.Allocations.{codes_of}
use Rattle.tg_canon.specs.mirror.Drawing.{Drawn, DrawsFrom}
use Rattle.tg_canon.specs.mirror.Canon.{linearized}
use Rattle.tg_trace_schedule.specs.Block.{Block}
use Rattle.tg_trace_schedule.specs.mirror.Cutting.{blocks_of}
use Rattle.tg_trace_schedule.specs.mirror.Laying.{traced}
use Rattle.tg_emit.specs.mirror.Lines.{assembly_of}
use Rattle.tg_emit.specs.mirror.Text.{text_of}
use Rattle.tg_emit_laws.specs.Programs.{IsWholeProgram, AreTyped}
use Rattle.tg_emit_laws.specs.Images.{program_written}
use Rattle.tg_emit_laws.proofs.Soundness.{program_has_image}
use Rattle.tg_compile.specs.declared.programs.Placement.{Placement}
use Rattle.tg_canon_trace_proof.specs.Flattened.{flattened}
use Rattle.tg_code_bounds.specs.Allocating.{Chooses, IsAllocationOf}
use Rattle.tg_delay.specs.Filling.{delayed}
use Rattle.tg_compile.specs.Slots.{CompilesDelayed}
use Rattle.tg_compile.specs.Compiling.{fragments_of, CompileFunctions, HasImage, Compiles}
use Rattle.tg_compile.specs.glue.Passes.{allocation_of, prepared_fragment, CompileApart}
use Rattle.tg_compile.specs.declared.passes.Passes.{Passes}
use Rattle.tg_compile.specs.Prepared.{prepared}
use Rattle.tg_compile.proofs.Preparing.{literals_stay}

-- a program's functions and literals, before the runtime is after them
abbrev pub tree_of : List Fragment → List Literal → Code Ts
tree_of functions literals = record { functions = map plain_fragment functions; literals = map plain_literal literals }

joined : (fs gs all : List Fragment) (ls ms every : List Literal) → all ≡ fs ++ gs → every ≡ ls ++ ms → tree_of gs ms ≡ runtime →
    tree_of all every ≡ with_runtime (tree_of fs ls)
joined fs gs all ls ms every p q r =
    let functions : map plain_fragment all ≡ map plain_fragment fs ++ runtime.functions =
    ap (λ x. map plain_fragment x) p ∙ map-append plain_fragment fs gs ∙ ap (λ (c : Code Ts). map plain_fragment fs ++ c.functions) r in
    let literals : map plain_literal every ≡ map plain_literal ls ++ runtime.literals =
    ap (λ x. map plain_literal x) q ∙ map-append plain_literal ls ms ∙ ap (λ (c : Code Ts). map plain_literal ls ++ c.literals) r in
    λ i. record { functions = functions i; literals = literals i }

-- a program's functions and literals are what it is translated to, and the runtime's stand after them
pub translated_whole : (notes : List Note) (body : Exp) (escaping : FinSet nat_cmp) (fs gs all : List Fragment) (ls ms every : List Literal) →
    escaping ≡ from_list (escapes_of body) →
    tree_of fs ls ≡ translated (found notes escaping (from_list (links_of body))) body → all ≡ fs ++ gs → every ≡ ls ++ ms → tree_of gs ms ≡ runtime →
    tree_of all every ≡ fragments_of notes body
translated_whole notes body escaping fs gs all ls ms every e h p q r =
    joined fs gs all ls ms every p q r ∙ ap with_runtime (h ∙ ap (λ (s : FinSet nat_cmp). translated (found notes s (from_list (links_of body))) body) e)

-- what an allocation tells besides its code
abbrev placement_of : Allocation → Placement
placement_of a = record { registers = a.registers; rounds = a.rounds; all_in_frame = a.all_in_frame; slots = a.slots }

-- one more function
compile_more : (rule : Rule) (fs : List (Function Ts)) (codes : List Allocated) (ps : List Placement) (f : Function Ts)
    (code : Allocated) (p : Placement) → CompileApart rule fs codes ps → IsAllocationOf rule f (allocation_of (code, p)) →
    CompileApart rule (fs ++ f ∷ []) (codes ++ code ∷ []) (ps ++ p ∷ [])
compile_more rule [] [] [] f code p h k = (k, tt)
compile_more rule [] [] (q ∷ ps) f code p h k = absurd h
compile_more rule [] (c ∷ codes) ps f code p h k = absurd h
compile_more rule (g ∷ fs) [] ps f code p h k = absurd h
compile_more rule (g ∷ fs) (c ∷ codes) [] f code p h k = absurd h
compile_more rule (g ∷ fs) (c ∷ codes) (q ∷ ps) f code p h k = (h.0, compile_more rule fs codes ps f code p h.1 k)

-- and its code and placement after the others
pub compile_one_more : (rule : Rule) (pass : Fragment → Function Ts) (fs : List Fragment) (one : Fragment) (codes all : List Allocated)
    (ps every : List Placement) (a : Allocation) →
    CompileApart rule (map pass fs) codes ps → IsAllocationOf rule (pass one) a →
    all ≡ codes ++ a.done ∷ [] → every ≡ ps ++ placement_of a ∷ [] → CompileApart rule (map pass (fs ++ one ∷ [])) all every
compile_one_more rule pass fs one codes all ps every a h k e d =
    let before = map pass fs in
    let P : List (Function Ts) → Type 0 = λ gs. CompileApart rule gs all every in
    let Q : List Allocated → Type 0 = λ cs. CompileApart rule (before ++ pass one ∷ []) cs every in
    let R : List Placement → Type 0 = λ qs. CompileApart rule (before ++ pass one ∷ []) (codes ++ a.done ∷ []) qs in
    subst P (sym (map-append pass fs (one ∷ [])))
    (subst Q (sym e) (subst R (sym d) (compile_more rule before codes ps (pass one) a.done (placement_of a) h k)))

-- the functions of a program, prepared one by one
all_folded : (fs : List Fragment) → map (λ one. folded_function (plain_fragment one)) fs ≡ map folded_function (map plain_fragment fs)
all_folded [] = refl
all_folded (f ∷ fs) = ap (λ (gs : List (Function Ts)). folded_function (plain_fragment f) ∷ gs) (all_folded fs)

pub prepared_fragments : (passes : Passes) (functions : List Fragment) (literals : List Literal) →
    map (prepared_fragment passes) functions ≡ (prepared passes (tree_of functions literals)).functions
prepared_fragments passes functions literals = by passes.fold
  where
    by : (b : Bool) → map (λ one. if b then folded_function (plain_fragment one) else plain_fragment one) functions
        ≡ (if b then folded_code (tree_of functions literals) else tree_of functions literals).functions
    by true = all_folded functions
    by false = refl

-- codes and placements that are brought together
pub together : (rule : Rule) (fs : List (Function Ts)) (codes : List Allocated) (ps : List Placement) → CompileApart rule fs codes ps →
    CompileFunctions rule fs (map allocation_of (zip codes ps)) × (codes_of (map allocation_of (zip codes ps)) ≡ codes)
together rule [] [] [] h = (tt, refl)
together rule [] [] (p ∷ ps) h = absurd h
together rule [] (c ∷ codes) ps h = absurd h
together rule (f ∷ fs) [] ps h = absurd h
together rule (f ∷ fs) (c ∷ codes) [] h = absurd h
together rule (f ∷ fs) (c ∷ codes) (p ∷ ps) h =
    let rest = together rule fs codes ps h.1 in
    ((h.0, rest.0), ap (λ (cs : List Allocated). c ∷ cs) rest.1)

-- a program whose functions are compiled, and whose text is written
pub compiles_whole : (passes : Passes) (rule : Rule) (notes : List Note) (body : Exp) (functions : List Fragment) (literals : List Literal)
    (codes : List Allocated) (ps : List Placement) (all : List Allocation) (text : List ℕ) →
    tree_of functions literals ≡ fragments_of notes body → CompileApart rule (map (prepared_fragment passes) functions) codes ps →
    all ≡ map allocation_of (zip codes ps) →
    text ≡ text_of (assembly_of codes literals) → IsWholeProgram codes literals → AreTyped codes literals → Compiles passes rule notes body all text
compiles_whole passes rule notes body functions literals codes ps all text tree apart joins written whole typed =
    let both = together rule (map (prepared_fragment passes) functions) codes ps apart in
    let made : map (prepared_fragment passes) functions ≡ (prepared passes (fragments_of notes body)).functions =
    prepared_fragments passes functions literals ∙ ap (λ (c : Code Ts). (prepared passes c).functions) tree in
    let P : List Allocation → Type 0 = λ xs. CompileFunctions rule (map (prepared_fragment passes) functions) xs in
    let Q : List (Function Ts) → Type 0 = λ fs. CompileFunctions rule fs all in
    let same : codes ≡ codes_of all = sym (ap codes_of joins ∙ both.1) in
    record {
      literals = literals;
      functions_are = subst Q made (subst P (sym joins) both.0);
      literals_are = ap (λ (c : Code Ts). c.literals) tree ∙ sym (literals_stay passes (fragments_of notes body));
      text_is = written ∙ ap (λ (cs : List Allocated). text_of (assembly_of cs literals)) same;
      program = subst (λ (cs : List Allocated). IsWholeProgram cs literals) same whole;
      typed = subst (λ (cs : List Allocated). AreTyped cs literals) same typed;
    }

-- and whose text is written with its delay slots
pub delayed_whole : (passes : Passes) (rule : Rule) (notes : List Note) (body : Exp) (functions : List Fragment) (literals : List Literal)
    (codes : List Allocated) (ps : List Placement) (all : List Allocation) (text : List ℕ) →
    tree_of functions literals ≡ fragments_of notes body → CompileApart rule (map (prepared_fragment passes) functions) codes ps →
    all ≡ map allocation_of (zip codes ps) →
    text ≡ text_of (delayed (assembly_of codes literals)) → IsWholeProgram codes literals → AreTyped codes literals →
    CompilesDelayed passes rule notes body all text
delayed_whole passes rule notes body functions literals codes ps all text tree apart joins written whole typed =
    let both = together rule (map (prepared_fragment passes) functions) codes ps apart in
    let made : map (prepared_fragment passes) functions ≡ (prepared passes (fragments_of notes body)).functions =
    prepared_fragments passes functions literals ∙ ap (λ (c : Code Ts). (prepared passes c).functions) tree in
    let P : List Allocation → Type 0 = λ xs. CompileFunctions rule (map (prepared_fragment passes) functions) xs in
    let Q : List (Function Ts) → Type 0 = λ fs. CompileFunctions rule fs all in
    let same : codes ≡ codes_of all = sym (ap codes_of joins ∙ both.1) in
    record {
      plain = text_of (assembly_of (codes_of all) literals);
      compiles = record {
        literals = literals;
        functions_are = subst Q made (subst P (sym joins) both.0);
        literals_are = ap (λ (c : Code Ts). c.literals) tree ∙ sym (literals_stay passes (fragments_of notes body));
        text_is = refl;
        program = subst (λ (cs : List Allocated). IsWholeProgram cs literals) same whole;
        typed = subst (λ (cs : List Allocated). AreTyped cs literals) same typed;
      };
      text_is = written ∙ ap (λ (cs : List Allocated). text_of (delayed (assembly_of cs literals))) same;
    }

-- a function with such canonical statements, cut into blocks that are laid in traces
abbrev with_statements : Function Ts → Drawn Stms → Function (List Linear)
with_statements f hoisted = record {
  label = f.label;
  params = f.params;
  slots = f.slots;
  temps = hoisted.next;
  out = f.out;
  body = traced (blocks_of hoisted.it);
}

-- canonical statements, blocks and traces give flat code
pub flattens : (frame new : Frame) (body : Ts) (statements : Stms) (blocks : List Block) (flat : List Linear) →
    DrawsFrom (linearized body) frame.temps statements new.temps →
    new.label ≡ frame.label → new.params ≡ frame.params → new.slots ≡ frame.slots → new.out ≡ frame.out → blocks ≡ blocks_of statements → flat ≡ traced blocks →
    plain_function new flat ≡ flattened (plain_function frame body)
flattens frame new body statements blocks flat hoisted label params slots out cut laid =
    let one : Function (List Linear) = plain_function new flat in
    let lines : flat ≡ traced (blocks_of statements) = laid ∙ ap traced cut in
    let named : one ≡ with_statements (plain_function frame body) (record { it = statements; next = new.temps }) =
    λ i. record { label = (label i).0; params = params i; slots = slots i; temps = new.temps; out = out i; body = lines i } in
    named ∙ ap (λ (d : Drawn Stms). with_statements (plain_function frame body) d) (sym hoisted.is)

flat_label : (f : Function Ts) → (flattened f).label ≡ f.label
flat_label f = refl

flat_params : (f : Function Ts) → (flattened f).params ≡ f.params
flat_params f = refl

flat_slots : (f : Function Ts) → (flattened f).slots ≡ f.slots
flat_slots f = refl

-- and the instructions that are chosen for it, with known words and tests
pub chooses : (f : Function Ts) (between new : Frame) (flat : List Linear) (code known : Instructions) → plain_function between flat ≡ flattened f →
    new.label ≡ between.label → new.params ≡ between.params → new.slots ≡ between.slots → new.temps ≡ between.temps → new.out ≡ outs flat →
    code.list ≡ (munched (plain_function between flat)).code → code.temps ≡ (munched (plain_function between flat)).drawn.temp → code.temps < 16777216 →
    known.list ≡ known_code code.list → known.temps ≡ code.temps → Chooses f new known
chooses f between new flat code known is label params slots drawn out list temps few known_list known_temps =
    record {
      label = ap (λ (l : Label). l.0) label ∙ ap (λ (g : Function (List Linear)). g.label) is ∙ flat_label f;
      params = params ∙ ap (λ (g : Function (List Linear)). g.params) is ∙ flat_params f;
      slots = slots ∙ ap (λ (g : Function (List Linear)). g.slots) is ∙ flat_slots f;
      drawn = drawn ∙ ap (λ (g : Function (List Linear)). g.temps) is;
      out = out ∙ ap (λ (g : Function (List Linear)). outs g.body) is;
      list = known_list ∙ ap known_code (list ∙ ap (λ (g : Function (List Linear)). (munched g).code) is);
      temps = known_temps ∙ (temps ∙ ap (λ (g : Function (List Linear)). (munched g).drawn.temp) is);
      few = subst (λ n. n < 16777216) (sym known_temps) few;
    }

-- what a program is compiled to is assembled to the image of its lines
pub compiled_has_image : (passes : Passes) (rule : Rule) (notes : List Note) (program : Exp) (allocations : List Allocation) (text : List ℕ) →
    Compiles passes rule notes program allocations text → HasImage text
compiled_has_image passes rule notes program allocations text c =
    let codes = codes_of allocations in
    record {
      image = image_of (readings_of (program_written codes c.literals));
      assembles = ap assembled c.text_is ∙ program_has_image codes c.literals c.program c.typed;
    }
