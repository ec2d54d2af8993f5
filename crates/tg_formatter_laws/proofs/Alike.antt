-- Lists of the same tokens, which stand elsewhere, and the parts of such lists.
use Rattle.std.proofs.Common.{◌≡◌, List, [], ◌∷◌, ◌++◌, refl, ap}
use Rattle.tg_syntax.specs.declared.tokens.Token.{Token}
use Rattle.tg_syntax.specs.declared.tokens.Spanned.{Spanned}
use Rattle.tg_formatter.specs.Canonical.{tokens_of}

-- the same tokens
abbrev pub HaveSameTokens : List Spanned → List Spanned → Type 0
HaveSameTokens [] [] = Unit {0}
HaveSameTokens (x ∷ xs) (t ∷ ts) = (x.token ≡ t.token) × HaveSameTokens xs ts
HaveSameTokens _ _ = ⊥

heads : {x t : Token} {xs ts : List Token} → x ∷ xs ≡ t ∷ ts → x ≡ t
heads e = cc

tails : {x t : Token} {xs ts : List Token} → x ∷ xs ≡ t ∷ ts → xs ≡ ts
tails e = cc

differ : {A : Type 0} {x : Token} {xs : List Token} → x ∷ xs ≡ [] → A
differ e = absurd (by e)
  where
    by : {x : Token} {xs : List Token} → x ∷ xs ≡ [] → ⊥
    by e = cc

differ_too : {A : Type 0} {x : Token} {xs : List Token} → [] ≡ x ∷ xs → A
differ_too e = absurd (by e)
  where
    by : {x : Token} {xs : List Token} → [] ≡ x ∷ xs → ⊥
    by e = cc

pub are_alike : (xs ts : List Spanned) → tokens_of xs ≡ tokens_of ts → HaveSameTokens xs ts
are_alike [] [] e = tt
are_alike [] (t ∷ ts) e = differ_too e
are_alike (x ∷ xs) [] e = differ e
are_alike (x ∷ xs) (t ∷ ts) e = (heads e, are_alike xs ts (tails e))

-- a list like nothing, one token, or a token and others
pub none_like : (xs : List Spanned) → HaveSameTokens xs [] → xs ≡ []
none_like [] h = refl
none_like (x ∷ xs) h = absurd h

pub record First (xs : List Spanned) (t : Spanned) (b : List Spanned) : Type 0 where
  pub one : Spanned
  pub rest : List Spanned
  pub whole : xs ≡ one ∷ rest
  pub is : one.token ≡ t.token
  pub behind : HaveSameTokens rest b

pub first : (xs : List Spanned) (t : Spanned) (b : List Spanned) → HaveSameTokens xs (t ∷ b) → First xs t b
first [] t b h = absurd h
first (x ∷ xs) t b h = record { one = x; rest = xs; whole = refl; is = h.0; behind = h.1 }

-- a list like two, one after the other
pub record Parts (xs a b : List Spanned) : Type 0 where
  pub left : List Spanned
  pub right : List Spanned
  pub whole : xs ≡ left ++ right
  pub before : HaveSameTokens left a
  pub behind : HaveSameTokens right b

pub parts : (xs a b : List Spanned) → HaveSameTokens xs (a ++ b) → Parts xs a b
parts xs [] b h = record { left = []; right = xs; whole = refl; before = tt; behind = h }
parts [] (t ∷ a) b h = absurd h
parts (x ∷ xs) (t ∷ a) b h =
    let p = parts xs a b h.1 in
    record { left = x ∷ p.left; right = p.right; whole = ap (λ l. x ∷ l) p.whole; before = (h.0, p.before); behind = p.behind }

-- a list like one, a token and another
pub record Cut (xs a : List Spanned) (t : Spanned) (b : List Spanned) : Type 0 where
  pub left : List Spanned
  pub one : Spanned
  pub right : List Spanned
  pub whole : xs ≡ left ++ one ∷ right
  pub before : HaveSameTokens left a
  pub is : one.token ≡ t.token
  pub behind : HaveSameTokens right b

pub cut : (xs a : List Spanned) (t : Spanned) (b : List Spanned) → HaveSameTokens xs (a ++ t ∷ b) → Cut xs a t b
cut [] [] t b h = absurd h
cut (x ∷ xs) [] t b h = record { left = []; one = x; right = xs; whole = refl; before = tt; is = h.0; behind = h.1 }
cut [] (s ∷ a) t b h = absurd h
cut (x ∷ xs) (s ∷ a) t b h =
    let p = cut xs a t b h.1 in
    record { left = x ∷ p.left; one = p.one; right = p.right; whole = ap (λ l. x ∷ l) p.whole; before = (h.0, p.before); is = p.is; behind = p.behind }
