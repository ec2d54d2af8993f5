-- One more function is told after others.
use Rattle.std.proofs.Common.{◌≡◌, ◌<◌, ◌≤◌, ℕ, suc, ◌+◌, Bool, List, [], ◌∷◌, ◌++◌, length, get_or, take, sym, ap, subst, ◌∙◌, append_assoc, arith}
use Rattle.std.specs.Prelude.{map}
use Rattle.std.specs.List.{slice_get}
use Rattle.std.proofs.lemmas.List.{append-nil, length-map, map-append, take_all, take_more}
use Rattle.tg_tree.specs.Tree.{Ts, Function, Code}
use Rattle.tg_tree.specs.declared.fragments.Fragment.{Fragment}
use Rattle.tg_tree.specs.declared.fragments.Literal.{Literal}
use Rattle.tg_tree.specs.glue.Plain.{plain_fragment}
use Rattle.tg_regalloc.specs.declared.allocations.Allocation.{Allocation}
use Rattle.tg_compile.specs.declared.passes.Passes.{Passes}
use Rattle.tg_compile.proofs.Chain.{tree_of}
use Rattle.tg_show.specs.declared.variables.FunctionVariables.{FunctionVariables}
use Rattle.tg_stages.specs.declared.headings.Heading.{Heading}
use Rattle.tg_stages.specs.Shown.{TellsFunction}
use Rattle.tg_stages.specs.Programs.{heading_at, TellFrom, nothing, one}
use Rattle.tg_stages.specs.glue.Putting.{Puts}

module _ (passes : Passes) (long : Bool) (all : List Heading) (own : List FunctionVariables) where
  pub tell_more : (at : ℕ) (fs : List (Function Ts)) (others : List Allocation) (before : List ℕ) (f : Function Ts) (a : Allocation) (text : List ℕ) →
      TellFrom passes long all own at fs others before → TellsFunction passes long (heading_at all (at + length fs)) (slice_get own (at + length fs)) f a text →
      TellFrom passes long all own at (fs ++ f ∷ []) (others ++ a ∷ []) (before ++ text)
  tell_more at _ _ _ f a text nothing k =
      let P : ℕ → Type 0 = λ n. TellsFunction passes long (heading_at all n) (slice_get own n) f a text in
      let here : at + 0 ≡ at = omega arith in
      subst (λ t. TellFrom passes long all own at (f ∷ []) (a ∷ []) t) (append-nil text) (one (subst P here k) nothing)
  tell_more at _ _ _ f a text (one {f = g} {fs = fs} {a = b} {others = others} {text = first} {rest = rest} h more) k =
      let P : ℕ → Type 0 = λ n. TellsFunction passes long (heading_at all n) (slice_get own n) f a text in
      let there : at + length (g ∷ fs) ≡ suc at + length fs = omega arith in
      subst (λ t. TellFrom passes long all own at (g ∷ (fs ++ f ∷ [])) (b ∷ (others ++ a ∷ [])) t) (sym (append_assoc first rest text))
      (one h (tell_more (suc at) fs others rest f a text more (subst P there k)))

-- A function with its heading and its allocation is told after those before it.
pub tell_next : (passes : Passes) (long : Bool) (all : List Heading) (own : List FunctionVariables) (fs : List Fragment) (f : Fragment) (others : List Allocation)
    (a : Allocation) (h : Heading) (at : ℕ) (before after : List ℕ) →
    at ≡ length fs → at < length others → a ≡ get_or others at a → h ≡ heading_at all at →
    TellFrom passes long all own 0 (map plain_fragment fs) (take at others) before →
    Puts before after (TellsFunction passes long h (slice_get own at) (plain_fragment f) a) →
    TellFrom passes long all own 0 (map plain_fragment (fs ++ f ∷ [])) (take (at + 1) others) after
tell_next passes long all own fs f others a h at before after counted inside there headed tell puts =
    let before_it = map plain_fragment fs in
    let P : Heading → Type 0 = λ k. TellsFunction passes long k (slice_get own at) (plain_fragment f) a puts.told in
    let O : ℕ → Type 0 = λ n. TellsFunction passes long (heading_at all n) (slice_get own n) (plain_fragment f) a puts.told in
    let count : at ≡ 0 + length before_it = omega (arith, counted, length-map fs plain_fragment) in
    let told = subst O count (subst P headed puts.holds) in
    let more = tell_more passes long all own 0 before_it (take at others) before (plain_fragment f) a puts.told tell told in
    let Q : List (Function Ts) → Type 0 = λ gs. TellFrom passes long all own 0 gs (take (at + 1) others) after in
    let R : List Allocation → Type 0 = λ bs. TellFrom passes long all own 0 (before_it ++ plain_fragment f ∷ []) bs after in
    let S : List ℕ → Type 0 = λ t. TellFrom passes long all own 0 (before_it ++ plain_fragment f ∷ []) (take at others ++ a ∷ []) t in
    let taken : take (at + 1) others ≡ take at others ++ a ∷ [] =
    take_more others at a inside ∙ ap (λ b. take at others ++ b ∷ []) (sym there) in
    subst Q (sym (map-append plain_fragment fs (f ∷ []))) (subst R (sym taken) (subst S (sym puts.is_behind) more))

-- All functions of a program are told, each with its allocation.
pub all_told : (passes : Passes) (long turned : Bool) (all heads : List Heading) (own those : List FunctionVariables) (yielded fs : List Fragment) (ls : List Literal)
    (whole : Code Ts) (others : List Allocation) (at : ℕ) (text : List ℕ) →
    at ≡ length yielded → yielded ≡ fs → tree_of fs ls ≡ whole → length others ≡ length whole.functions → all ≡ heads → own ≡ those →
    long ≡ turned → TellFrom passes long all own 0 (map plain_fragment yielded) (take at others) text → TellFrom passes turned heads those 0 whole.functions others text
all_told passes long turned all heads own those yielded fs ls whole others at text counted same is each headed listed turns tell =
    let functions : map plain_fragment yielded ≡ whole.functions =
    ap (λ gs. map plain_fragment gs) same ∙ ap (λ (c : Code Ts). c.functions) is in
    let lengths : length (map plain_fragment yielded) ≡ length whole.functions = ap (λ (gs : List (Function Ts)). length gs) functions in
    let few : length others ≤ at = omega (arith, counted, each, lengths, length-map yielded plain_fragment) in
    let P : List (Function Ts) → Type 0 = λ gs. TellFrom passes turned heads those 0 gs others text in
    let Q : List Allocation → Type 0 = λ bs. TellFrom passes turned heads those 0 (map plain_fragment yielded) bs text in
    let R : List Heading → Type 0 = λ hs. TellFrom passes turned hs those 0 (map plain_fragment yielded) (take at others) text in
    let O : List FunctionVariables → Type 0 = λ vs. TellFrom passes turned all vs 0 (map plain_fragment yielded) (take at others) text in
    let S : Bool → Type 0 = λ b. TellFrom passes b all own 0 (map plain_fragment yielded) (take at others) text in
    subst P functions (subst Q (take_all at others few) (subst R headed (subst O listed (subst S turns tell))))
