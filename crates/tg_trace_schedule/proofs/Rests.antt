-- Lists that are taken from their end, or from a place on.
use Rattle.std.proofs.Common.{◌≡◌, ◌≤◌, ◌<◌, ℕ, zero, suc, true, ◌+◌, ◌-◌, List, [], ◌∷◌, ◌++◌, Bool, length, take, drop, get_or, map, refl, ap, sym}
use Rattle.std.proofs.Common.{◌∙◌, arith, add-one, drop-cons, append_assoc}
use Rattle.std.specs.Prelude.{reverse, Option, Some, None, slice_get, slice_set, slice_index}
use Rattle.std.proofs.lemmas.List.{reverse-append, length-reverse, map-append, take-map}
use Rattle.tg_tree.specs.declared.trees.Ts.{Ts as CodeTs}
use Rattle.tg_tree.specs.declared.linear.Linear.{Linear as CodeLinear}
use Rattle.tg_tree.specs.Tree.{no_stms, Linear, Do'}
use Rattle.tg_tree.specs.glue.Plain.{plain_ts, plain_linear}
use Rattle.tg_tree.specs.glue.Lists.{stms_of, code_of}
use Rattle.tg_trace_schedule.specs.declared.flows.Block.{Block as CodeBlock}
use Rattle.tg_trace_schedule.specs.Block.{BlockEnd, Block}
use Rattle.tg_trace_schedule.specs.glue.Plains.{plain_block, plain_blocks}
use Rattle.tg_trace_schedule.specs.mirror.Cutting.{CutBlocks, leads, entered_by, placed}
use Rattle.tg_trace_schedule.specs.mirror.Laying.{Order, no_block, block_at, follow, put, onward, block_code, code_in, body_code}

pub reverse_last : {A : Type 0} (xs : List A) (x : A) → reverse (xs ++ x ∷ []) ≡ x ∷ reverse xs
reverse_last xs x = reverse-append xs (x ∷ [])

pub take_all : {A : Type 0} (n : ℕ) (xs : List A) → length xs ≤ n → take n xs ≡ xs
take_all zero [] h = refl
take_all (suc n) [] h = refl
take_all zero (x ∷ xs) h = absurd (omega arith)
take_all (suc n) (x ∷ xs) h =
    let k : length xs ≤ n = omega arith in
    ap (λ ys. x ∷ ys) (take_all n xs k)

-- only a block of no statements leads on
leads_some : (xs : List CodeTs) (e : BlockEnd) → 0 < length xs → leads (stms_of xs) e ≡ None
leads_some [] e h = absurd (omega arith)
leads_some (x ∷ xs) e h = refl

pub leads_full : (body : List CodeTs) (e : BlockEnd) → 0 < length body → None ≡ leads (stms_of (reverse body)) e
leads_full body e h =
    let k : 0 < length (reverse body) = omega (arith, length-reverse body) in
    sym (leads_some (reverse body) e k)

pub none_there : {A : Type 0} (xs : List A) → length xs ≤ 0 → xs ≡ []
none_there [] h = refl
none_there (x ∷ xs) h = absurd (omega arith)

pub leads_empty : (body : List CodeTs) (e : BlockEnd) (m : Option ℕ) → length body ≤ 0 → m ≡ leads no_stms e → m ≡ leads (stms_of (reverse body)) e
leads_empty body e m h k = k ∙ ap (λ xs. leads (stms_of (reverse xs)) e) (sym (none_there body h))

-- the first blocks from where the open one leads
pub enter_front :
    (laid laid' : List CodeBlock) (c : CutBlocks) (mark place : ℕ) (m : Option ℕ) →
    Some mark ≡ m → plain_blocks laid ≡ c.laid → place ≡ slice_index c.places mark → laid' ≡ take (place + 1) laid → plain_blocks laid' ≡ entered_by m c
enter_front laid laid' c mark place m e l p t =
    ap plain_blocks t ∙ (sym (take-map plain_block (place + 1) laid)
    ∙ (ap (take (place + 1)) l ∙ (ap (λ n. take (n + 1) c.laid) p ∙ ap (λ k. entered_by k c) e)))

-- a block that is taken out
set_at : (bs : List CodeBlock) (p : ℕ) (b : CodeBlock) → plain_blocks (slice_set bs p b) ≡ slice_set (plain_blocks bs) p (plain_block b)
set_at [] p b = refl
set_at (x ∷ xs) zero b = refl
set_at (x ∷ xs) (suc p) b = ap (λ ys. plain_block x ∷ ys) (set_at xs p b)

pub set_block : (bs : List CodeBlock) (p : ℕ) (b b' : CodeBlock) → b ≡ b' → plain_block b' ≡ no_block →
    plain_blocks (slice_set bs p b) ≡ slice_set (plain_blocks bs) p no_block
set_block bs p b b' e n = set_at bs p b ∙ ap (slice_set (plain_blocks bs) p) (ap plain_block e ∙ n)

-- blocks with one more at the end
pub blocks_more : (bs : List CodeBlock) (b : CodeBlock) → plain_blocks (bs ++ b ∷ []) ≡ plain_blocks bs ++ plain_block b ∷ []
blocks_more bs b = map-append plain_block bs (b ∷ [])

pub code_more : (code : List CodeLinear) (one : CodeLinear) → code_of (code ++ one ∷ []) ≡ code_of code ++ plain_linear one ∷ []
code_more code one = map-append plain_linear code (one ∷ [])

-- what is told, and what is left to tell, with the last that is left
pub placed_step :
    (places : List ℕ) (last : ℕ) (told told' : List CodeBlock) (rest all : List CodeBlock) (b b' : CodeBlock) →
    all ≡ rest ++ b ∷ [] → told' ≡ told ++ b' ∷ [] → plain_block b' ≡ placed places last (plain_block b) →
    plain_blocks told' ++ map (placed places last) (reverse (plain_blocks rest)) ≡ plain_blocks told ++ map (placed places last) (reverse (plain_blocks all))
placed_step places last told told' rest all b b' e t p =
    let f = placed places last in
    let told_is : plain_blocks told' ≡ plain_blocks told ++ f (plain_block b) ∷ [] = ap plain_blocks t ∙ (blocks_more told b' ∙ ap (λ x. plain_blocks told ++ x ∷ []) p) in
    let all_is : reverse (plain_blocks all) ≡ plain_block b ∷ reverse (plain_blocks rest) = ap (λ xs. reverse (plain_blocks xs)) e ∙ (ap reverse (blocks_more rest b) ∙ reverse_last (plain_blocks rest) (plain_block b)) in
    ap (λ xs. xs ++ map f (reverse (plain_blocks rest))) told_is
    ∙ (append_assoc (plain_blocks told) (f (plain_block b) ∷ []) (map f (reverse (plain_blocks rest)))
    ∙ ap (λ xs. plain_blocks told ++ map f xs) (sym all_is))

pub body_step :
    (told told' : List Linear) (rest all : List CodeTs) (s : CodeTs) →
    all ≡ rest ++ s ∷ [] → told' ≡ told ++ Do' (plain_ts s) ∷ [] →
    told' ++ body_code (stms_of (reverse rest)) ≡ told ++ body_code (stms_of (reverse all))
body_step told told' rest all s e t =
    ap (λ xs. xs ++ body_code (stms_of (reverse rest))) t
    ∙ (append_assoc told (Do' (plain_ts s) ∷ []) (body_code (stms_of (reverse rest)))
    ∙ ap (λ xs. told ++ body_code (stms_of xs)) (sym (reverse_last rest s) ∙ ap reverse (sym e)))

-- a trace that has ended
pub follow_none : (k : ℕ) (blocks : List Block) (o : Order) → follow k blocks None o ≡ o
follow_none zero blocks o = refl
follow_none (suc k) blocks o = refl

pub follow_one :
    (n i : ℕ) (blocks : List Block) (p : ℕ) (o : Order) → i < n →
    follow (n - i) blocks (Some p) o ≡ follow (n - (i + 1)) blocks (onward blocks (slice_set o.laid p true) (block_at blocks p).end) (put p o)
follow_one n i blocks p o h =
    let e : n - i ≡ suc (n - (i + 1)) = omega arith in
    ap (λ k. follow k blocks (Some p) o) e

pub follow_step :
    (n i : ℕ) (blocks : List Block) (next next' : Option ℕ) (p : ℕ) (o o' final : Order) (laid : List Bool) →
    i < n → next ≡ Some p → o' ≡ put p o → laid ≡ o'.laid → next' ≡ onward blocks laid (block_at blocks p).end →
    follow (n - i) blocks next o ≡ final → follow (n - (i + 1)) blocks next' o' ≡ final
follow_step n i blocks next next' p o o' final laid h e put_is laid_is next_is so_far =
    let k = n - (i + 1) in
    let onto : next' ≡ onward blocks (slice_set o.laid p true) (block_at blocks p).end =
    next_is ∙ ap (λ l. onward blocks l (block_at blocks p).end) (laid_is ∙ ap (λ x. x.laid) put_is) in
    ap (λ m. follow k blocks m o') onto ∙ (ap (follow k blocks (onward blocks (slice_set o.laid p true) (block_at blocks p).end)) put_is
    ∙ (sym (follow_one n i blocks p o h) ∙ (ap (λ m. follow (n - i) blocks m o) (sym e) ∙ so_far)))

pub follow_stops :
    (k : ℕ) (blocks : List Block) (next : Option ℕ) (o final : Order) → next ≡ None → follow k blocks next o ≡ final → o ≡ final
follow_stops k blocks next o final e so_far = sym (follow_none k blocks o) ∙ (ap (λ m. follow k blocks m o) (sym e) ∙ so_far)

pub drop_get : {A : Type 0} (xs : List A) (i : ℕ) → slice_get (drop i xs) 0 ≡ slice_get xs i
drop_get [] zero = refl
drop_get [] (suc i) = refl
drop_get (x ∷ xs) zero = refl
drop_get (x ∷ xs) (suc i) = drop_get xs i

-- one more block of an order
pub emit_step :
    (told told' : List Linear) (order : List ℕ) (at : ℕ) (blocks blocks' : List Block) → at < length order →
    told' ≡ told ++ block_code (get_or order at 0) (slice_get order (at + 1)) (block_at blocks (get_or order at 0)) →
    blocks' ≡ slice_set blocks (get_or order at 0) no_block →
    told' ++ code_in (drop (at + 1) order) blocks' ≡ told ++ code_in (drop at order) blocks
emit_step told told' order at blocks blocks' h t b =
    let p = get_or order at 0 in
    let next : slice_get (drop (at + 1) order) 0 ≡ slice_get order (at + 1) = drop_get order (at + 1) in
    let one : drop at order ≡ p ∷ drop (at + 1) order = rw add-one (drop-cons order at 0 h) in
    let piece = block_code p (slice_get order (at + 1)) (block_at blocks p) in
    let rest = code_in (drop (at + 1) order) (slice_set blocks p no_block) in
    let first : piece ++ rest ≡ code_in (drop at order) blocks =
    ap (λ m. block_code p m (block_at blocks p) ++ rest) (sym next) ∙ ap (λ xs. code_in xs blocks) (sym one) in
    ap (λ xs. xs ++ code_in (drop (at + 1) order) blocks') t ∙ (ap (λ bs. (told ++ piece) ++ code_in (drop (at + 1) order) bs) b
    ∙ (append_assoc told piece rest ∙ ap (λ xs. told ++ xs) first))
