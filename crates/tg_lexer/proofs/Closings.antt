-- Comments: what closes them, and that nothing else does.
use Rattle.std.proofs.Common.{ℕ, zero, suc, ◌+◌, ◌≡◌, ◌≢◌, ◌-◌, ◌≤◌, ◌<◌, get_or, List, [], ◌∷◌, ◌++◌, length, take, drop, refl, sym, ap, subst, ◌∙◌}
use Rattle.std.proofs.Common.{arith, append_assoc}
use Rattle.std.proofs.lemmas.List.{drop_all, drop_more, append_cancel_right}
use Rattle.tg_syntax.specs.Lexing.{BeginsWithPair, OpensComment, ClosesComment, Closes, done, closes, opens, byte}
use Rattle.tg_lexer.specs.glue.Lexemes.{NeverCloses}
use Rattle.tg_lexer.proofs.Basics.{head_is, tail_is, not_cons, differ, drop_piece, take_piece, within_piece}

-- what closes something isn't empty
begins_first : {depth : ℕ} {more : List ℕ} → Closes (suc depth) more → (a b : ℕ) (rest after : List ℕ) → more ++ rest ≡ b ∷
    after → BeginsWithPair a b (a ∷ more)
begins_first (closes c) a b rest after e = (refl, head_is e)
begins_first (opens c) a b rest after e = (refl, head_is e)
begins_first (byte x unopening unclosing c) a b rest after e = (refl, head_is e)

-- the rest of what closes so many comments
pub record Left (depth : ℕ) (tail rest : List ℕ) : Type 0 where
  pub more : List ℕ
  pub tail_whole : tail ≡ more ++ rest
  pub closes : Closes depth more

pub left_opens : (depth : ℕ) (tail rest : List ℕ) → Left (suc depth) (47 ∷ 42 ∷ tail) rest → Left (suc (suc depth)) tail rest
left_opens depth tail rest h = by h.closes h.tail_whole
  where
    by : {more : List ℕ} → Closes (suc depth) more → 47 ∷ 42 ∷ tail ≡ more ++ rest → Left (suc (suc depth)) tail rest
    by (closes {more = more} c) e = absurd (differ 47 42 refl (head_is e))
    by (opens {more = more} c) e = record { more = more; tail_whole = tail_is (tail_is e); closes = c }
    by (byte b {more = more} unopening unclosing c) e =
        let same : 47 ≡ b = head_is e in
        let f : more ++ rest ≡ 42 ∷ tail = sym (tail_is e) in
        absurd (unopening (subst (λ x. OpensComment (x ∷ more)) same (begins_first c 47 42 rest tail f)))

pub left_closes : (depth : ℕ) (tail rest : List ℕ) → Left (suc depth) (42 ∷ 47 ∷ tail) rest → Left depth tail rest
left_closes depth tail rest h = by h.closes h.tail_whole
  where
    by : {more : List ℕ} → Closes (suc depth) more → 42 ∷ 47 ∷ tail ≡ more ++ rest → Left depth tail rest
    by (closes {more = more} c) e = record { more = more; tail_whole = tail_is (tail_is e); closes = c }
    by (opens {more = more} c) e = absurd (differ 42 47 refl (head_is e))
    by (byte b {more = more} unopening unclosing c) e =
        let same : 42 ≡ b = head_is e in
        let f : more ++ rest ≡ 47 ∷ tail = sym (tail_is e) in
        absurd (unclosing (subst (λ x. ClosesComment (x ∷ more)) same (begins_first c 42 47 rest tail f)))

pub begins_is : (a c b : ℕ) (tail rest : List ℕ) → b ≡ a → tail ≡ c ∷ rest → BeginsWithPair a c (b ∷ tail)
begins_is a c b [] rest e f = absurd (not_cons f)
begins_is a c b (x ∷ tail) rest e f = (e, head_is f)

pub left_byte : (depth b : ℕ) (tail rest : List ℕ) → (OpensComment (b ∷ tail) → ⊥) → (ClosesComment (b ∷ tail) → ⊥) →
    Left (suc depth) (b ∷ tail) rest → Left (suc depth) tail rest
left_byte depth b tail rest unopening unclosing h = by h.closes h.tail_whole
  where
    by : {more : List ℕ} → Closes (suc depth) more → b ∷ tail ≡ more ++ rest → Left (suc depth) tail rest
    by (closes {more = more} c) e =
        let same : b ≡ 42 = head_is e in
        let f : tail ≡ 47 ∷ more ++ rest = tail_is e in
        absurd (unclosing (begins_is 42 47 b tail (more ++ rest) same f))
    by (opens {more = more} c) e =
        let same : b ≡ 47 = head_is e in
        let f : tail ≡ 42 ∷ more ++ rest = tail_is e in
        absurd (unopening (begins_is 47 42 b tail (more ++ rest) same f))
    by (byte x {more = more} _ _ c) e = record { more = more; tail_whole = tail_is e; closes = c }

-- so far a text leaves so many comments open
pub record Open (text : List ℕ) (depth at : ℕ) : Type 0 where
  pub within : at ≤ length text
  pub some : 0 < depth
  pub few : depth ≤ at + 1
  pub ahead : (more rest : List ℕ) → drop at text ≡ more ++ rest → Closes depth more → Closes 1 (take at text ++ more)
  pub only : (inside rest : List ℕ) → text ≡ inside ++ rest → Closes 1 inside → Left depth (drop at text) rest

pub open_first : (text : List ℕ) → Open text 1 0
open_first text =
    record {
      within = omega arith;
      some = omega arith;
      few = omega arith;
      ahead = λ more rest e c. c;
      only = λ inside rest e c. record { more = inside; tail_whole = e; closes = c };
    }

-- the first two bytes of a text
pub two_bytes : (a b : ℕ) (text : List ℕ) → BeginsWithPair a b text → text ≡ a ∷ b ∷ drop 2 text
two_bytes a b [] h = absurd h
two_bytes a b (x ∷ []) h = absurd h
two_bytes a b (x ∷ y ∷ text) h = let e = h.0 in let f = h.1 in cc

-- after a piece of the text other comments are left open
open_past : (text : List ℕ) (depth left at : ℕ) (piece tail : List ℕ) → Open text depth at → drop at text ≡ piece ++ tail →
    0 < left → left ≤ at + length piece + 1 →
    ((more rest : List ℕ) → drop at text ≡ (piece ++ more) ++ rest → Closes left more → Closes depth (piece ++ more)) →
    ((rest : List ℕ) → Left depth (piece ++ tail) rest → Left left tail rest) →
    Open text left (at + length piece)
open_past text depth left at piece tail h e some few ahead only =
    record {
      within = within_piece at text piece tail h.within e;
      some = some;
      few = few;
      ahead = λ more rest w c.
          let f : drop at text ≡ (piece ++ more) ++ rest =
          e ∙ ap (λ l. piece ++ l) (sym (drop_piece at text piece tail e) ∙ w) ∙ sym (append_assoc piece more rest) in
          rw (take_piece at text piece tail e, append_assoc (take at text) piece more) (h.ahead (piece ++ more) rest f (ahead more rest f c));
      only = λ inside rest w c. rw (drop_piece at text piece tail e) (only rest (rw e at (h.only inside rest w c)));
    }

pub open_opens : (text : List ℕ) (depth at : ℕ) → Open text depth at → OpensComment (drop at text) → Open text (depth + 1) (at + 2)
open_opens text zero at h o = absurd (omega (arith, h.some))
open_opens text (suc depth) at h o =
    let n : suc depth + 1 ≡ suc (suc depth) = omega arith in
    let few : suc (suc depth) ≤ at + 2 + 1 = let k = h.few in omega arith in
    rw n (open_past text (suc depth) (suc (suc depth)) at (47 ∷ 42 ∷ []) (drop 2 (drop at text)) h (two_bytes 47 42 (drop at text) o) (omega arith) few
    (λ more rest f c. opens c) (λ rest l. left_opens depth _ rest l))

pub open_closes : (text : List ℕ) (depth at : ℕ) → Open text depth at → ClosesComment (drop at text) → depth - 1 ≢ 0 → Open text (depth - 1) (at + 2)
open_closes text zero at h o ne = absurd (omega (arith, h.some))
open_closes text (suc depth) at h o ne =
    let n : suc depth - 1 ≡ depth = omega arith in
    let some : 0 < depth = omega arith in
    let few : depth ≤ at + 2 + 1 = let k = h.few in omega arith in
    rw n (open_past text (suc depth) depth at (42 ∷ 47 ∷ []) (drop 2 (drop at text)) h (two_bytes 42 47 (drop at text) o) some few
    (λ more rest f c. closes c) (λ rest l. left_closes depth _ rest l))

begins_longer : (a b x : ℕ) (more rest : List ℕ) → BeginsWithPair a b (x ∷ more) → BeginsWithPair a b (x ∷ more ++ rest)
begins_longer a b x [] rest h = absurd h
begins_longer a b x (y ∷ more) rest h = h

pub open_byte : (text : List ℕ) (depth at : ℕ) → Open text depth at → at < length text → (OpensComment (drop at text) → ⊥) →
    (ClosesComment (drop at text) → ⊥) → Open text depth (at + 1)
open_byte text zero at h lt unopening unclosing = absurd (omega (arith, h.some))
open_byte text (suc depth) at h lt unopening unclosing =
    let b = get_or text at 0 in
    let e : drop at text ≡ (b ∷ []) ++ drop (at + 1) text = drop_more text at 0 lt in
    let few : suc depth ≤ at + 1 + 1 = let k = h.few in omega arith in
    open_past text (suc depth) (suc depth) at (b ∷ []) (drop (at + 1) text) h e (omega arith) few
    (λ more rest f c. byte b (λ o. unopening (rw f (begins_longer 47 42 b more rest o))) (λ o. unclosing (rw f (begins_longer 42 47 b more rest o))) c)
    (λ rest l. left_byte depth b (drop (at + 1) text) rest (rw e at unopening) (rw e at unclosing) l)

-- the last comment is closed
pub open_closed : (text : List ℕ) (depth at : ℕ) → Open text depth at → ClosesComment (drop at text) → depth - 1 ≡ 0 →
    (at + 2 ≤ length text) × Closes 1 (take (at + 2) text)
open_closed text depth at h o z =
    let e = two_bytes 42 47 (drop at text) o in
    let piece : List ℕ = 42 ∷ 47 ∷ [] in
    let one : 1 ≡ depth = let k = h.some in omega arith in
    let whole : Closes 1 (take at text ++ piece) = h.ahead piece (drop 2 (drop at text)) e (subst (λ d. Closes d piece) one (closes done)) in
    (within_piece at text piece (drop 2 (drop at text)) h.within e, rw (take_piece at text piece (drop 2 (drop at text)) e) whole)

-- the end comes first
pub open_ended : (text : List ℕ) (depth at : ℕ) → Open text depth at → length text ≤ at → NeverCloses text
open_ended text zero at h le inside rest w c = absurd (omega (arith, h.some))
open_ended text (suc depth) at h le inside rest w c =
    let l = h.only inside rest w c in
    by l.closes (sym (drop_all at text le) ∙ l.tail_whole)
  where
    by : {more : List ℕ} → Closes (suc depth) more → [] ≡ more ++ rest → ⊥
    by (closes c) e = not_cons e
    by (opens c) e = not_cons e
    by (byte b unopening unclosing c) e = not_cons e

begins_shorter : {depth : ℕ} {more : List ℕ} → Closes (suc depth) more → (a b x : ℕ) (rest : List ℕ) →
    BeginsWithPair a b (x ∷ more ++ rest) → BeginsWithPair a b (x ∷ more)
begins_shorter (closes c) a b x rest h = h
begins_shorter (opens c) a b x rest h = h
begins_shorter (byte y unopening unclosing c) a b x rest h = h

whole : (piece more other ys rest after : List ℕ) → more ≡ other → more ++ rest ≡ other ++ after → (piece ++ more) ++ rest ≡ ys ++ after → piece ++ more ≡ ys
whole piece more other ys rest after same e w =
    append_cancel_right (piece ++ more) ys after (append_assoc piece more after ∙ ap (λ l. piece ++ (l ++ after)) same
    ∙ ap (λ l. piece ++ l) (sym e) ∙ sym (append_assoc piece more rest) ∙ w)

-- two prefixes that close as many comments are one
pub closes_once : {depth : ℕ} {xs : List ℕ} → Closes depth xs → {ys : List ℕ} → Closes depth ys → (rest after : List ℕ) → xs ++ rest ≡ ys ++ after → xs ≡ ys
closes_once {depth = zero} c c' rest after e = by c c'
  where
    by : {xs ys : List ℕ} → Closes 0 xs → Closes 0 ys → xs ≡ ys
    by done done = refl
closes_once {depth = suc depth} (closes {more = more} c) {ys = ys} c' rest after e =
    let l = left_closes depth (more ++ rest) after (record { more = ys; tail_whole = e; closes = c' }) in
    whole (42 ∷ 47 ∷ []) more l.more ys rest after (closes_once c l.closes rest after l.tail_whole) l.tail_whole e
closes_once {depth = suc depth} (opens {more = more} c) {ys = ys} c' rest after e =
    let l = left_opens depth (more ++ rest) after (record { more = ys; tail_whole = e; closes = c' }) in
    whole (47 ∷ 42 ∷ []) more l.more ys rest after (closes_once c l.closes rest after l.tail_whole) l.tail_whole e
closes_once {depth = suc depth} (byte b {more = more} unopening unclosing c) {ys = ys} c' rest after e =
    let l = left_byte depth b (more ++ rest) after (λ o. unopening (begins_shorter c 47 42 b rest o)) (λ o. unclosing (begins_shorter c 42 47 b rest o)) (record { more = ys; tail_whole = e; closes = c' }) in
    whole (b ∷ []) more l.more ys rest after (closes_once c l.closes rest after l.tail_whole) l.tail_whole e
