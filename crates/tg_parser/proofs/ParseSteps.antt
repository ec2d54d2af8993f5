-- What the descent says of the tokens up to the first one that is too deep.
use Rattle.std.proofs.Common.{ℕ, ◌+◌, ◌-◌, ◌≡◌, ◌≤◌, List, [], ◌∷◌, ◌++◌, length, take, get_or, refl, sym, ap, subst, ◌∙◌, append_assoc, length-append, arith}
use Rattle.std.proofs.Math.Seq.{get_or-append_seam, take-append_seam}
use Rattle.tg_syntax.specs.declared.tokens.Token.TheVariants.{End}
use Rattle.tg_syntax.specs.declared.tokens.Spanned.{Spanned}
use Rattle.tg_syntax.specs.Tree.{Exp}
use Rattle.tg_syntax.specs.Nesting.{nesting_of, after_token, NestsWithin}
use Rattle.tg_syntax.specs.Grammar.{IsProgram, program}
use Rattle.tg_syntax.specs.SyntaxFaults.{IsShallow, HasUnexpected, HasTooDeep, HasNoEnd, EndsOnce}
use Rattle.tg_syntax_laws.specs.mirror.Steps.{Got, Bad, Out, Whole_program}
use Rattle.tg_syntax_laws.specs.mirror.Reading.{whole_program, Does}
use Rattle.tg_syntax_laws.specs.laws.Laws.{ReadsPrograms, RefusesFirst, WantsMore, EndsAlways}
use Rattle.tg_syntax_laws.proofs.Sound.{Fine, fine_got, fine}
use Rattle.tg_syntax_laws.proofs.ValidJobs.{all_valid, valid}
use Rattle.tg_parser.specs.declared.faults.Stop.{Stop}
use Rattle.tg_parser.specs.declared.faults.Stop.TheVariants.{Wrong, More}
use Rattle.tg_parser.specs.glue.Given.{Refuses, refuses, wants}
use Rattle.tg_parser.specs.glue.Deep.{IsFirstDeep, IsReadable, all, cut}
use Rattle.tg_parser.proofs.NestingSteps.{counts_after, within_more}

pub head_is : {t r : Spanned} {a b : List Spanned} → t ∷ a ≡ r ∷ b → t ≡ r
head_is h = cc

pub rest_is : {t r : Spanned} {a b : List Spanned} → t ∷ a ≡ r ∷ b → a ≡ b
rest_is h = cc

pub no_rest : {C : Type 0} (a : List Spanned) (t : Spanned) (s : List Spanned) → a ++ t ∷ s ≡ [] → C
no_rest [] t s h = cc
no_rest (x ∷ a) t s h = cc

-- the prefix of a shallow list
pub shallow_front : (counts : List ℕ) (a b : List Spanned) → NestsWithin 256 counts (a ++ b) → NestsWithin 256 counts a
shallow_front counts [] b h = tt
shallow_front counts (t ∷ a) b h = (h.0, shallow_front (after_token t.token counts) a b h.1)

shallow_before : (counts : List ℕ) (a us b : List Spanned) (t one : Spanned) → a ++ t ∷ us ≡ b ++ one ∷ [] → NestsWithin 256 counts b → NestsWithin 256 counts a
shallow_before counts [] us b t one e h = tt
shallow_before counts (x ∷ a) us [] t one e h = no_rest a t us (rest_is e)
shallow_before counts (x ∷ a) us (y ∷ b) t one e h =
    subst (λ w. NestsWithin 256 counts (w ∷ a)) (sym (head_is e)) (h.0, shallow_before (after_token y.token counts) a us b t one (rest_is e) h.1)

-- an end opens nothing
last_small : (counts : List ℕ) (ts : List Spanned) → nesting_of counts ≤ 256 → NestsWithin 256 counts ts → nesting_of (counts_after counts ts) ≤ 256
unfolding counts_after
last_small counts [] le h = le
last_small counts (t ∷ ts) le h = last_small (after_token t.token counts) ts h.0 h.1

end_shallow : (front : List Spanned) (one : Spanned) → IsShallow front → one.token ≡ End → IsShallow (front ++ one ∷ [])
end_shallow front one h e =
    within_more (0 ∷ []) front one h (subst (λ w. nesting_of (after_token w (counts_after (0 ∷ []) front)) ≤ 256) (sym e)
    (last_small (0 ∷ []) front (omega arith) h))

-- so none stands up to the first token that is too deep
no_end_before : (front body after : List Spanned) (one end : Spanned) → front ++ one ∷ after ≡ body ++ end ∷ [] →
    end.token ≡ End → (one.token ≡ End → ⊥) → HasNoEnd body → HasNoEnd (front ++ one ∷ [])
no_end_before [] [] after one end e q n h = absurd (n (ap (λ w. w.token) (head_is e) ∙ q))
no_end_before [] (y ∷ body) after one end e q n h = (n, tt)
no_end_before (x ∷ front) [] after one end e q n h = no_rest front one after (rest_is e)
no_end_before (x ∷ front) (y ∷ body) after one end e q n h =
    ((λ k. h.0 (ap (λ w. w.token) (sym (head_is e)) ∙ k)), no_end_before front body after one end (rest_is e) q n h.1)

no_end_deep : (tokens : List Spanned) (place : ℕ) → EndsOnce tokens → (found : IsFirstDeep tokens place) → HasNoEnd (found.front ++ found.one ∷ [])
no_end_deep tokens place o found =
    no_end_before found.front o.body found.after found.one o.end (sym found.whole ∙ o.whole) o.is_end
    (λ e. found.deep (end_shallow found.front found.one found.shallow e)) o.once

-- and no program can be read there
has_end : (a rest : List Spanned) (t : Spanned) → t.token ≡ End → HasNoEnd ((a ++ t ∷ []) ++ rest) → ⊥
has_end [] rest t e h = h.0 e
has_end (x ∷ a) rest t e h = has_end a rest t e h.1

program_has_end : (u rest : List Spanned) (e : Exp) → IsProgram u e → HasNoEnd (u ++ rest) → ⊥
program_has_end u rest e (program {a = a} t r q) h = has_end a rest t q h

fine_has_end : (ts rest : List Spanned) (e : Exp) → Fine Whole_program IsProgram whole_program ts (Got e rest) → HasNoEnd ts → ⊥
fine_has_end ts rest e (fine_got u d l c) h = program_has_end u rest e l (subst (λ w. HasNoEnd w) d h)

not_got : (ts rest : List Spanned) (e : Exp) → HasNoEnd ts → Does Whole_program whole_program ts (Got e rest) → ⊥
not_got ts rest e n d = fine_has_end ts rest e (fine all_valid d IsProgram (valid Whole_program)) n

-- a tree is read of a shallow program alone
pub got_program : (tokens part rest : List Spanned) (e : Exp) → ReadsPrograms → EndsOnce tokens → IsReadable tokens part →
    Does Whole_program whole_program part (Got e rest) → IsProgram tokens e
got_program tokens part rest e law o (all h) d = law tokens e rest o d
got_program tokens part rest e law o (cut {place} found) d = absurd (not_got _ rest e (no_end_deep tokens place o found) d)

pub got_shallow : (tokens part rest : List Spanned) (e : Exp) → EndsOnce tokens → IsReadable tokens part →
    Does Whole_program whole_program part (Got e rest) → IsShallow tokens
got_shallow tokens part rest e o (all h) d = h
got_shallow tokens part rest e o (cut {place} found) d = absurd (not_got _ rest e (no_end_deep tokens place o found) d)

-- what is refused is unexpected
unexpected : (tokens part after : List Spanned) (one : Spanned) → RefusesFirst → IsReadable tokens part →
    Does Whole_program whole_program part (Bad one after) → HasUnexpected tokens one.span.from
unexpected tokens part after one law (all h) d =
    let u = law tokens one after d in
    record {
      front = u.front;
      one = one;
      is_at = record { after = after; whole = u.whole; place = refl };
      could = u.could;
      cannot = u.cannot;
      shallow = shallow_front (0 ∷ []) u.front (one ∷ after) (subst (λ w. IsShallow w) u.whole h);
    }
unexpected tokens part after one law (cut found) d =
    let u = law _ one after d in
    record {
      front = u.front;
      one = one;
      is_at = record {
        after = after ++ found.after;
        whole = found.whole ∙ sym (append_assoc found.front (found.one ∷ []) found.after) ∙ ap (λ w. w ++ found.after) u.whole
            ∙ append_assoc u.front (one ∷ after) found.after;
        place = refl;
      };
      could = u.could;
      cannot = u.cannot;
      shallow = shallow_before (0 ∷ []) u.front after found.front one found.one (sym u.whole) found.shallow;
    }

pub refused : (tokens part : List Spanned) (e : Stop) (at : ℕ) → RefusesFirst → IsReadable tokens part → e ≡ Wrong at →
    Refuses e Whole_program whole_program part → HasUnexpected tokens at
refused tokens part e at law r w d = stands (subst (λ x. Refuses x Whole_program whole_program part) w d)
  where
    stands : Refuses (Wrong at) Whole_program whole_program part → HasUnexpected tokens at
    stands (refuses {after = after} one h) = unexpected tokens part after one law r h

-- and where more is wanted, the last token is too deep
length_more : (front : List Spanned) (one : Spanned) → length (front ++ one ∷ []) ≡ length front + 1
length_more front one = length-append front (one ∷ [])

last_place : (front : List Spanned) (one : Spanned) → length (front ++ one ∷ []) - 1 ≡ length front
last_place front one = omega (arith, length_more front one)

last_is : (front : List Spanned) (one d : Spanned) → get_or (front ++ one ∷ []) (length (front ++ one ∷ []) - 1) d ≡ one
last_is front one d = ap (λ n. get_or (front ++ one ∷ []) n d) (last_place front one) ∙ get_or-append_seam front one [] d

too_deep_out : (tokens part : List Spanned) (d : Spanned) → WantsMore → EndsAlways → EndsOnce tokens → IsReadable tokens part →
    Does Whole_program whole_program part Out → HasTooDeep tokens (get_or part (length part - 1) d).span.from
too_deep_out tokens part d more ends o (all h) w = absurd (ends tokens o w)
too_deep_out tokens part d more ends o (cut found) w = record {
  front = found.front;
  one = found.one;
  is_at = record { after = found.after; whole = found.whole; place = ap (λ x. x.span.from) (last_is found.front found.one d) };
  could = more (found.front ++ found.one ∷ []) w;
  shallow = found.shallow;
  deep = found.deep;
}

wanted : (part : List Spanned) (e : Stop) → e ≡ More → Refuses e Whole_program whole_program part → Does Whole_program whole_program part Out
wanted part e w d = out (subst (λ x. Refuses x Whole_program whole_program part) w d)
  where
    out : Refuses More Whole_program whole_program part → Does Whole_program whole_program part Out
    out (wants h) = h

pub too_deep : (tokens part : List Spanned) (e : Stop) (d : Spanned) → WantsMore → EndsAlways → EndsOnce tokens →
    IsReadable tokens part → e ≡ More → Refuses e Whole_program whole_program part → HasTooDeep tokens (get_or part (length part - 1) d).span.from
too_deep tokens part e d more ends o r w h = too_deep_out tokens part d more ends o r (wanted part e w h)

-- the tokens up to a place
up_to : (front after : List Spanned) (one : Spanned) → take (length front + 1) (front ++ one ∷ after) ≡ front ++ one ∷ []
up_to front after one =
    ap (λ n. take n (front ++ one ∷ after)) (sym (length_more front one)) ∙ ap (λ w. take (length (front ++ one ∷ [])) w)
    (sym (append_assoc front (one ∷ []) after))
    ∙ take-append_seam (front ++ one ∷ []) after

pub cut_at : (tokens : List Spanned) (place : ℕ) → IsFirstDeep tokens place → IsReadable tokens (take (place + 1) tokens)
cut_at tokens place found =
    subst (λ w. IsReadable tokens w)
    (sym (up_to found.front found.after found.one) ∙ ap (λ n. take (n + 1) (found.front ++ found.one ∷ found.after)) found.at_place
    ∙ ap (λ w. take (place + 1) w) (sym found.whole))
    (cut found)
