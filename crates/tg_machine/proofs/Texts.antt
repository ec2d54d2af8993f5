-- The text at an address, byte by byte.
use Rattle.std.proofs.Common.{◌≡◌, ◌≢◌, ◌<◌, ◌≤◌, ◌⊎◌, inl, inr, ◌+◌, ◌-◌, ℕ, suc, Bool, true, false, List, [], ◌∷◌, ◌++◌, length, slice_index}
use Rattle.std.proofs.Common.{Result, Ok, Err, refl, sym, ap, ◌∙◌, subst, arith, eq-eqb, ne_eqb, take, drop, take-append-drop, append_assoc, Option}
use Rattle.std.proofs.Common.{IfOk, IsOk}
use Rattle.std.specs.Prelude.{◌==◌}
use Rattle.std.proofs.lemmas.Grind.{common_steps}
use Rattle.std.proofs.lemmas.List.{ext_get_or}
use Rattle.std.proofs.Math.Seq.{take-add}
use Rattle.std.proofs.KnownBytes.{Appends-trans}
use Rattle.std.specs.Io.KnownBytes.{Appends}
use Rattle.tg_base.specs.Writes.{TakesPrefix}
use Rattle.tg_machine_state.specs.declared.ends.RunEnd.{RunEnd}
use Rattle.tg_machine_state.specs.declared.ends.RunEnd.TheVariants.{BadAddress}
use Rattle.tg_machine_state.specs.State.{MachineState, load_byte, stack_top}
use Rattle.tg_machine_state.specs.Services.{text_from, text_at, before}
use Rattle.tg_machine.specs.glue.Moves.{IsText, HasText}

-- bytes before a text
pub prefixed : List ℕ → Result (List ℕ) RunEnd → Result (List ℕ) RunEnd
prefixed [] r = r
prefixed (b ∷ bytes) r = before b (prefixed bytes r)

prefixed-push : (bytes : List ℕ) (b : ℕ) (r : Result (List ℕ) RunEnd) → prefixed (bytes ++ b ∷ []) r ≡ prefixed bytes (before b r)
unfolding prefixed
prefixed-push [] b r = refl
prefixed-push (x ∷ bytes) b r = ap (before x) (prefixed-push bytes b r)

prefixed-end : (bytes : List ℕ) → prefixed bytes (Ok []) ≡ Ok bytes
unfolding prefixed
prefixed-end [] = refl
prefixed-end (x ∷ bytes) = ap (before x) (prefixed-end bytes)

prefixed-failed : (bytes : List ℕ) (e : RunEnd) → prefixed bytes (Err e) ≡ Err e
unfolding prefixed
prefixed-failed [] e = refl
prefixed-failed (x ∷ bytes) e = ap (before x) (prefixed-failed bytes e)

-- a text goes on by what its first byte is
after_test : ℕ → MachineState → ℕ → ℕ → Bool → Result (List ℕ) RunEnd
after_test n s a b true = Ok []
after_test n s a b false = before b (text_from n s (a + 1))

after_load : ℕ → MachineState → ℕ → Result ℕ RunEnd → Result (List ℕ) RunEnd
after_load n s a (Ok b) = after_test n s a b (b == 0)
after_load n s a (Err e) = Err e

text_from-suc : (n : ℕ) (s : MachineState) (a : ℕ) → text_from (suc n) s a ≡ after_load n s a (load_byte s a)
unfolding after_load after_test
text_from-suc n s a = refl

from_load : (most n : ℕ) (s : MachineState) (a : ℕ) (r : Result ℕ RunEnd) → most ≡ suc n → load_byte s a ≡ r → text_from most s a ≡ after_load n s a r
from_load most n s a r e h = ap (λ m. text_from m s a) e ∙ text_from-suc n s a ∙ ap (after_load n s a) h

from_byte : (most n : ℕ) (s : MachineState) (a b : ℕ) → most ≡ suc n → load_byte s a ≡ Ok b → b ≢ 0 → text_from most s a ≡ before b (text_from n s (a + 1))
unfolding after_load after_test
from_byte most n s a b e h ne = from_load most n s a (Ok b) e h ∙ ap (after_test n s a b) (ne_eqb b 0 ne)

from_end : (most n : ℕ) (s : MachineState) (a b : ℕ) → most ≡ suc n → load_byte s a ≡ Ok b → b ≡ 0 → text_from most s a ≡ Ok []
unfolding after_load after_test
from_end most n s a b e h z = from_load most n s a (Ok b) e h ∙ ap (after_test n s a b) (eq-eqb b 0 z)

from_fault : (most n : ℕ) (s : MachineState) (a : ℕ) (f : RunEnd) → most ≡ suc n → load_byte s a ≡ Err f → text_from most s a ≡ Err f
unfolding after_load
from_fault most n s a f e h = from_load most n s a (Err f) e h

-- the first bytes of a text are loaded
pub record Found (most : ℕ) (s : MachineState) (a k : ℕ) : Type 0 where
  pub text : List ℕ
  pub size : length text ≡ k
  pub low : 0 < k → a + k ≤ stack_top
  pub rest : text_from most s a ≡ prefixed text (text_from (most - k) s (a + k))
  pub loads : (j : ℕ) → j < k → load_byte s (a + j) ≡ Ok (slice_index text j)

pub found_none : (most : ℕ) (s : MachineState) (a : ℕ) → Found most s a 0
unfolding prefixed
found_none most s a =
    let m : most ≡ most - 0 = omega arith in
    let e : a ≡ a + 0 = omega arith in
    record {
      text = [];
      size = refl;
      low = λ h. absurd (omega (arith, h));
      rest = ap (λ n. text_from n s a) m ∙ ap (text_from (most - 0) s) e;
      loads = λ j h. absurd (omega (arith, h));
    }

pub found_more : (most : ℕ) (s : MachineState) (a k b : ℕ) → k < most → Found most s a k → load_byte s (a + k) ≡ Ok b →
    a + k < stack_top → b ≢ 0 → Found most s a (k + 1)
found_more most s a k b lt f h low ne =
    let m : most - k ≡ suc (most - (k + 1)) = omega arith in
    let e : a + k + 1 ≡ a + (k + 1) = omega arith in
    let size : length (f.text ++ b ∷ []) ≡ k + 1 = grind (arith, common_steps, f.size) in
    record {
      text = f.text ++ b ∷ [];
      size = size;
      low = λ _. omega (arith, low);
      rest = f.rest
          ∙ ap (prefixed f.text) (from_byte (most - k) (most - (k + 1)) s (a + k) b m h ne)
          ∙ ap (λ x. prefixed f.text (before b (text_from (most - (k + 1)) s x))) e
          ∙ sym (prefixed-push f.text b (text_from (most - (k + 1)) s (a + (k + 1))));
      loads = loads_more s a k b f.text f.size f.loads h;
    }
  where
    le_or_eq : (j k : ℕ) → j < k + 1 → (j < k) ⊎ (j ≡ k)
    le_or_eq j k lt = grind arith

    at_or_below : (s : MachineState) (a k b : ℕ) (text : List ℕ) → length text ≡ k →
        ((j : ℕ) → j < k → load_byte s (a + j) ≡ Ok (slice_index text j)) → load_byte s (a + k) ≡ Ok b
        → (j : ℕ) → j < k + 1 → (j < k) ⊎ (j ≡ k) → load_byte s (a + j) ≡ Ok (slice_index (text ++ b ∷ []) j)
    at_or_below s a k b text size loads h j lt (inl below) =
        let e : slice_index text j ≡ slice_index (text ++ b ∷ []) j = grind (arith, common_steps, size) in
        loads j below ∙ ap Ok e
    at_or_below s a k b text size loads h j lt (inr is) =
        let e : b ≡ slice_index (text ++ b ∷ []) j = grind (arith, common_steps, size, is) in
        ap (λ x. load_byte s (a + x)) is ∙ h ∙ ap Ok e

    loads_more : (s : MachineState) (a k b : ℕ) (text : List ℕ) → length text ≡ k →
        ((j : ℕ) → j < k → load_byte s (a + j) ≡ Ok (slice_index text j)) → load_byte s (a + k) ≡ Ok b
        → (j : ℕ) → j < k + 1 → load_byte s (a + j) ≡ Ok (slice_index (text ++ b ∷ []) j)
    loads_more s a k b text size loads h j lt = at_or_below s a k b text size loads h j lt (le_or_eq j k lt)

pub found_all : (most : ℕ) (s : MachineState) (a k b : ℕ) → most ≡ length s.statics + length s.heap + length s.stack + 1 →
    k < most → Found most s a k → load_byte s (a + k) ≡ Ok b → a + k < stack_top → b ≡ 0 → HasText s a k
found_all most s a k b is lt f h low z =
    let m : most - k ≡ suc (most - (k + 1)) = omega arith in
    let all : text_from most s a ≡ Ok f.text = f.rest ∙ ap (prefixed f.text) (from_end (most - k) (most - (k + 1)) s (a + k) b m h z) ∙ prefixed-end f.text in
    (f.text, record { found = ap (λ n. text_from n s a) (sym is) ∙ all; size = f.size; low = low; loads = f.loads })

pub found_fault : (most : ℕ) (s : MachineState) (a k : ℕ) (e : RunEnd) → most ≡ length s.statics + length s.heap + length s.stack + 1 →
    k < most → Found most s a k → load_byte s (a + k) ≡ Err e → text_at s a ≡ Err e
found_fault most s a k e is lt f h =
    let m : most - k ≡ suc (most - (k + 1)) = omega arith in
    ap (λ n. text_from n s a) (sym is) ∙ f.rest ∙ ap (prefixed f.text) (from_fault (most - k) (most - (k + 1)) s (a + k) e m h) ∙ prefixed-failed f.text e

pub found_over : (most : ℕ) (s : MachineState) (a k : ℕ) → most ≡ length s.statics + length s.heap + length s.stack + 1 →
    k ≡ most → Found most s a k → text_at s a ≡ Err (BadAddress (a + most))
found_over most s a k is over f =
    let m : most - k ≡ 0 = omega arith in
    ap (λ n. text_from n s a) (sym is) ∙ f.rest ∙ ap (λ n. prefixed f.text (text_from n s (a + k))) m
    ∙ prefixed-failed f.text (BadAddress (a + k)) ∙ ap (λ n. Err (BadAddress (a + n))) over

is_ok_of : {T E : Type 0} (r : Result T E) (x : T) → r ≡ Ok x → IsOk r
is_ok_of (Ok y) x h = refl
is_ok_of (Err e) x h = cc

-- each byte of a text is loaded
pub text_loads : (s : MachineState) (a n done k : ℕ) (text : List ℕ) → IsText s a n text → done + k < n → IsOk (load_byte s (a + done + k))
text_loads s a n done k text is lt =
    let place : a + done + k ≡ a + (done + k) = omega arith in
    is_ok_of (load_byte s (a + done + k)) (slice_index text (done + k)) (ap (load_byte s) place ∙ is.loads (done + k) lt)

-- a chunk of a text is its bytes in memory
chunk_is : (s : MachineState) (a n done more : ℕ) (text piece : List ℕ) → IsText s a n text → done + more ≤ n → length piece ≡ more
    → ((k : ℕ) → k < more → load_byte s (a + done + k) ≡ Ok (slice_index piece k)) → piece ≡ take more (drop done text)
chunk_is s a n done more text piece is fits size loads =
    let same : length piece ≡ length (take more (drop done text)) = grind (arith, common_steps, is.size, size) in
    ext_get_or 0 piece (take more (drop done text)) same (λ k lt.
    let below : k < more = omega (arith, lt, size) in
    let place : a + done + k ≡ a + (done + k) = omega arith in
    let within : done + k < n = omega arith in
    let there : slice_index text (done + k) ≡ slice_index (take more (drop done text)) k = grind (arith, common_steps, is.size) in
    same_ok _ _ (sym (loads k below) ∙ ap (load_byte s) place ∙ is.loads (done + k) within) ∙ there)
  where
    same_ok : (x y : ℕ) → (let r : Result ℕ RunEnd = Ok x in r) ≡ Ok y → x ≡ y
    same_ok x y h = cc

pub chunk_more : (x y z : Option (List ℕ)) (s : MachineState) (a n done more : ℕ) (text piece : List ℕ) → IsText s a n text →
    done + more ≤ n → length piece ≡ more
    → ((k : ℕ) → k < more → load_byte s (a + done + k) ≡ Ok (slice_index piece k))
    → Appends x y (take done text) → Appends y z piece → Appends x z (take (done + more) text)
chunk_more x y z s a n done more text piece is fits size loads was now =
    subst (Appends x z) (ap (λ l. take done text ++ l) (chunk_is s a n done more text piece is fits size loads)
    ∙ sym (take-add done more text)) (Appends-trans x y z (take done text) piece was now)

pub chunk_failed : (x y z : Option (List ℕ)) (s : MachineState) (a n done more : ℕ) (text piece : List ℕ) → IsText s a n text →
    done + more ≤ n → length piece ≡ more
    → ((k : ℕ) → k < more → load_byte s (a + done + k) ≡ Ok (slice_index piece k))
    → Appends x y (take done text) → TakesPrefix y z piece → TakesPrefix x z text
chunk_failed x y z s a n done more text piece is fits size loads was now =
    let front = now.0 in
    let rest = now.1 in
    let e : text ≡ (take done text ++ front) ++ (rest ++ drop more (drop done text)) =
    sym (take-append-drop done text)
    ∙ ap (λ l. take done text ++ l) (sym (take-append-drop more (drop done text)))
    ∙ ap (λ l. take done text ++ (l ++ drop more (drop done text))) (sym (chunk_is s a n done more text piece is fits size loads) ∙ now.2)
    ∙ regroup (take done text) front rest (drop more (drop done text)) in
    (take done text ++ front, rest ++ drop more (drop done text), e, Appends-trans x y z (take done text) front was now.3)
  where
    regroup : (p q r s : List ℕ) → p ++ ((q ++ r) ++ s) ≡ (p ++ q) ++ (r ++ s)
    regroup p q r s = simp append_assoc

pub if_ok : {T E : Type 0} (P : T → Type 0) (r : Result T E) (x : T) → r ≡ Ok x → P x → IfOk r P
if_ok P (Ok y) x h p = let e : x ≡ y = cc in subst P e p
if_ok P (Err e) x h p = tt
