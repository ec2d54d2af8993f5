-- A run that does what another does, with no more work, unless the other goes wrong; and what keeps this.
use Rattle.std.proofs.Common.{ℕ, zero, suc, ◌≡◌, ◌≢◌, ◌≤◌, ◌+◌, Bool, true, false, List, ◌++◌, refl, sym, ap, ◌∙◌, subst, arith}
use Rattle.std.proofs.Common.{◌⊎◌, inl, inr, Option, Some, None}
use Rattle.std.specs.Prelude.{if◌then◌else◌}
use Rattle.tg_simulation.specs.Runs.{Run}
use Rattle.tg_simulation.specs.Ran.{Ran, Wrong, WantsFuel, stops, writes, works}
use Rattle.tg_simulation.specs.Preserving.{DoesTheSame}
use Rattle.tg_tree.specs.Actions.{World, written, charged, with_word, with_given, with_memory}
use Rattle.tg_tree.specs.Operators.{Given, word, stops_by}
use Rattle.tg_tree.specs.Memory.{Memory}
use Rattle.tg_tree.specs.Running.{with_fuel}
use Rattle.tg_instr.specs.Contents.{Content, Nothing, Word, Found}
use Rattle.tg_instr.specs.Meaning.{with_content_word, with_content}

-- unless the first goes wrong, the second does the same with as much fuel
abbrev pub Simulates : Run Ran → Run Ran → Type 0
Simulates c d = (n : ℕ) → (c n).stop ≢ Wrong → DoesTheSame 1 0 (c n) (d n)

-- the second does the same, and at most so many units of work more
abbrev pub IsDearer : (credit : ℕ) → Run Ran → Run Ran → Type 0
IsDearer k c d = (n : ℕ) → DoesTheSame 1 k (c n) (d n)

pub does_itself : (k : ℕ) (p : Ran) → DoesTheSame 1 k p p
does_itself k p = record { output = refl; input = refl; stop = refl; work = omega arith }

pub same_run : (p q : Ran) → q ≡ p → DoesTheSame 1 0 p q
same_run p q e = subst (λ z. DoesTheSame 1 0 p z) (sym e) (does_itself 0 p)

pub between : (k : ℕ) (p p0 q q0 : Ran) → p0 ≡ p → q0 ≡ q → DoesTheSame 1 k p q → DoesTheSame 1 k p0 q0
between k p p0 q q0 e f h = subst (λ z. DoesTheSame 1 k z q0) (sym e) (subst (λ z. DoesTheSame 1 k p z) (sym f) h)

pub does_on : (j k : ℕ) (p q r : Ran) → DoesTheSame 1 j p q → DoesTheSame 1 k q r → DoesTheSame 1 (j + k) p r
does_on j k p q r h i =
    let a = h.work in
    let b = i.work in
    record { output = i.output ∙ h.output; input = i.input ∙ h.input; stop = i.stop ∙ h.stop; work = omega arith }

pub writes_too : (k : ℕ) (bytes : List ℕ) (p q : Ran) → DoesTheSame 1 k p q → DoesTheSame 1 k (writes bytes p) (writes bytes q)
writes_too k bytes p q h = record { output = ap (λ o. bytes ++ o) h.output; input = h.input; stop = h.stop; work = h.work }

-- the first is charged enough for what the second is charged
pub works_too : (i j k l : ℕ) (p q : Ran) → j + k ≤ i + l → DoesTheSame 1 k p q → DoesTheSame 1 l (works i p) (works j q)
works_too i j k l p q le h =
    let a = h.work in
    record { output = h.output; input = h.input; stop = h.stop; work = omega arith }

pub simulates_between : (c c0 d d0 : Run Ran) → ((n : ℕ) → c0 n ≡ c n) → ((n : ℕ) → d0 n ≡ d n) → Simulates c d → Simulates c0 d0
simulates_between c c0 d d0 e f h =
    λ n k. between 0 (c n) (c0 n) (d n) (d0 n) (e n) (f n) (h n (λ z. k (ap (λ q. q.stop) (e n) ∙ z)))

pub by_word : (c c' : Content) (w w' : World) (go go' : ℕ → Run Ran) → (c' ≡ c) ⊎ (c ≡ Nothing) →
    ((v : ℕ) → c ≡ Word v → Simulates (go v) (go' v)) → Simulates (with_content_word c w go) (with_content_word c' w' go')
by_word c c' w w' go go' (inl e) h = subst (λ q. Simulates (with_content_word c w go) (with_content_word q w' go')) (sym e) (alike c h)
  where
    alike : (q : Content) → ((v : ℕ) → q ≡ Word v → Simulates (go v) (go' v)) →
        Simulates (with_content_word q w go) (with_content_word q w' go')
    alike Nothing h = λ n k. absurd (k refl)
    alike (Word v) h = h v refl
    alike (Found r) h = λ n k. absurd (k refl)
by_word c c' w w' go go' (inr e) h = λ n k. absurd (k (ap (λ q. (with_content_word q w go n).stop) e))

pub by_content : (c c' : Content) (w w' : World) (go go' : Content → Run Ran) → (c' ≡ c) ⊎ (c ≡ Nothing) →
    (c ≢ Nothing → Simulates (go c) (go' c)) → Simulates (with_content c w go) (with_content c' w' go')
by_content c c' w w' go go' (inl e) h = subst (λ q. Simulates (with_content c w go) (with_content q w' go')) (sym e) (alike c h)
  where
    alike : (q : Content) → (q ≢ Nothing → Simulates (go q) (go' q)) → Simulates (with_content q w go) (with_content q w' go')
    alike Nothing h = λ n k. absurd (k refl)
    alike (Word v) h = h (λ z. cc)
    alike (Found r) h = h (λ z. cc)
by_content c c' w w' go go' (inr e) h = λ n k. absurd (k (ap (λ q. (with_content q w go n).stop) e))

pub by_given : (g : Given) (w w' : World) (go go' : ℕ → Run Ran) → w'.input ≡ w.input → ((v : ℕ) → Simulates (go v) (go' v)) →
    Simulates (with_given g w go) (with_given g w' go')
by_given (word v) w w' go go' e h = h v
by_given (stops_by stop) w w' go go' e h = λ n k. same_run _ _ (ap (λ i. stops i stop) e)

pub by_option : (o o' : Option ℕ) (w w' : World) (go go' : ℕ → Run Ran) → ((v : ℕ) → o ≡ Some v → o' ≡ Some v) →
    ((v : ℕ) → Simulates (go v) (go' v)) → Simulates (with_word o w go) (with_word o' w' go')
by_option None o' w w' go go' f h = λ n k. absurd (k refl)
by_option (Some v) o' w w' go go' f h = subst (λ q. Simulates (go v) (with_word q w' go')) (sym (f v refl)) (h v)

pub by_memory : (o o' : Option Memory) (w w' : World) (go go' : World → Run Ran) →
    ((m : Memory) → o ≡ Some m →
    (m' : Memory) × (o' ≡ Some m') × Simulates (go (record w { memory = m })) (go' (record w' { memory = m' }))) →
    Simulates (with_memory o w go) (with_memory o' w' go')
by_memory None o' w w' go go' f = λ n k. absurd (k refl)
by_memory (Some m) o' w w' go go' f =
    let z = f m refl in
    subst (λ q. Simulates (go (record w { memory = m })) (with_memory q w' go')) (sym z.1) z.2

-- where the first has a test, the second has the same
pub by_test : (b : Bool) (c c' d d' : Run Ran) → Simulates c c' → Simulates d d' →
    Simulates (if b then c else d) (if b then c' else d')
by_test true c c' d d' h k = h
by_test false c c' d d' h k = k

pub by_writing : (bytes : List ℕ) (c d : Run Ran) → Simulates c d → Simulates (written bytes c) (written bytes d)
by_writing bytes c d h = λ n k. writes_too 0 bytes (c n) (d n) (h n k)

pub by_fuel : (w v : World) (c d : Run Ran) → v.input ≡ w.input → Simulates c d → Simulates (with_fuel w c) (with_fuel v d)
by_fuel w v c d e h zero k = same_run _ _ (ap (λ l. stops l WantsFuel) e)
by_fuel w v c d e h (suc n) k = h n k

-- an instruction that is charged nothing
pub uncharged : (c d : Run Ran) → Simulates c d → Simulates c (charged 0 d)
uncharged c d h = λ n k. let i = h n k in let a = i.work in record { output = i.output; input = i.input; stop = i.stop; work = omega arith }

-- the second is dearer, for which the first is charged
pub paid : (k u : ℕ) (c d d0 : Run Ran) → k ≤ u → Simulates c d → IsDearer k d d0 → Simulates (charged u c) d0
paid k u c d d0 le h dear =
    λ n ok. let i = does_on 0 k (c n) (d n) (d0 n) (h n (λ z. ok z)) (dear n) in let a = i.work in
    record { output = i.output; input = i.input; stop = i.stop; work = omega arith }
