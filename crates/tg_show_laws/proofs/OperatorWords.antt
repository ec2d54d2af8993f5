-- The words of operators and comparisons end where a comma or a blank follows, and differ.
use Rattle.std.proofs.Common.{ℕ, ◌≡◌, List, [], ◌∷◌, ◌++◌, drop, Bool, true, false, refl, sym, ap, ◌∙◌}
use Rattle.std.specs.Prelude.{◌==◌, ◌&&◌, ◌||◌, if◌then◌else◌, codes}
use Rattle.std.proofs.lemmas.List.{append_cancel_left}
use Rattle.tg_tree.specs.declared.operators.Bin.{Bin}
use Rattle.tg_tree.specs.declared.operators.Bin.TheVariants.{Add, Sub, Mul, Div, And, Or, Xor}
use Rattle.tg_tree.specs.declared.operators.Bin.TheVariants.{ShiftLeft, ShiftRight, ShiftSigned, AddTrap, SubTrap, MulHigh}
use Rattle.tg_tree.specs.declared.operators.Rel.{Rel}
use Rattle.tg_tree.specs.declared.operators.Rel.TheVariants.{Equal, NotEqual, Less, LessEqual, Greater, GreaterEqual, Below, NotBelow}
use Rattle.tg_show.specs.Words.{bin_word, rel_word}

-- a text up to a comma or a blank
abbrev pub front_word : List ℕ → List ℕ
front_word [] = []
front_word (c ∷ rest) = if c == 44 || c == 32 then [] else c ∷ front_word rest

abbrev pub is_text : List ℕ → List ℕ → Bool
is_text [] [] = true
is_text (a ∷ x) (b ∷ y) = a == b && is_text x y
is_text _ _ = false

abbrev bin_of : List ℕ → Bin
bin_of w =
    if is_text w (codes "PLUS") then Add else if is_text w (codes "MINUS") then Sub else if is_text w (codes "MUL") then Mul else
    if is_text w (codes "DIV") then Div else if is_text w (codes "AND") then And else if is_text w (codes "OR") then Or else
    if is_text w (codes "XOR") then Xor else if is_text w (codes "LSHIFT") then ShiftLeft else if is_text w (codes "RSHIFT") then ShiftRight else
    if is_text w (codes "ARSHIFT") then ShiftSigned else if is_text w (codes "PLUSTRAP") then AddTrap else
    if is_text w (codes "MINUSTRAP") then SubTrap else MulHigh

bin_read : (a : Bin) (u : List ℕ) → bin_of (front_word (bin_word a ++ (44 ∷ u))) ≡ a
bin_read Add u = refl
bin_read Sub u = refl
bin_read Mul u = refl
bin_read Div u = refl
bin_read And u = refl
bin_read Or u = refl
bin_read Xor u = refl
bin_read ShiftLeft u = refl
bin_read ShiftRight u = refl
bin_read ShiftSigned u = refl
bin_read AddTrap u = refl
bin_read SubTrap u = refl
bin_read MulHigh u = refl

pub bin_told : (a b : Bin) (u v : List ℕ) → bin_word a ++ (44 ∷ u) ≡ bin_word b ++ (44 ∷ v) → (a ≡ b) × (u ≡ v)
bin_told a b u v h =
    let same : a ≡ b = sym (bin_read a u) ∙ ap (λ t. bin_of (front_word t)) h ∙ bin_read b v in
    (same, ap (drop 1) (append_cancel_left (bin_word b) (44 ∷ u) (44 ∷ v) (ap (λ k. bin_word k ++ (44 ∷ u)) (sym same) ∙ h)))

abbrev rel_of : List ℕ → Rel
rel_of w =
    if is_text w (codes "EQ") then Equal else if is_text w (codes "NE") then NotEqual else if is_text w (codes "LT") then Less else
    if is_text w (codes "LE") then LessEqual else if is_text w (codes "GT") then Greater else if is_text w (codes "GE") then GreaterEqual else
    if is_text w (codes "ULT") then Below else NotBelow

rel_read : (a : Rel) (u : List ℕ) → rel_of (front_word (rel_word a ++ (44 ∷ u))) ≡ a
rel_read Equal u = refl
rel_read NotEqual u = refl
rel_read Less u = refl
rel_read LessEqual u = refl
rel_read Greater u = refl
rel_read GreaterEqual u = refl
rel_read Below u = refl
rel_read NotBelow u = refl

pub rel_told : (a b : Rel) (u v : List ℕ) → rel_word a ++ (44 ∷ u) ≡ rel_word b ++ (44 ∷ v) → (a ≡ b) × (u ≡ v)
rel_told a b u v h =
    let same : a ≡ b = sym (rel_read a u) ∙ ap (λ t. rel_of (front_word t)) h ∙ rel_read b v in
    (same, ap (drop 1) (append_cancel_left (rel_word b) (44 ∷ u) (44 ∷ v) (ap (λ k. rel_word k ++ (44 ∷ u)) (sym same) ∙ h)))

rel_read_blank : (a : Rel) (u : List ℕ) → rel_of (front_word (rel_word a ++ (32 ∷ u))) ≡ a
rel_read_blank Equal u = refl
rel_read_blank NotEqual u = refl
rel_read_blank Less u = refl
rel_read_blank LessEqual u = refl
rel_read_blank Greater u = refl
rel_read_blank GreaterEqual u = refl
rel_read_blank Below u = refl
rel_read_blank NotBelow u = refl

pub rel_told_blank : (a b : Rel) (u v : List ℕ) → rel_word a ++ (32 ∷ u) ≡ rel_word b ++ (32 ∷ v) → (a ≡ b) × (u ≡ v)
rel_told_blank a b u v h =
    let same : a ≡ b = sym (rel_read_blank a u) ∙ ap (λ t. rel_of (front_word t)) h ∙ rel_read_blank b v in
    (same, ap (drop 1) (append_cancel_left (rel_word b) (32 ∷ u) (32 ∷ v) (ap (λ k. rel_word k ++ (32 ∷ u)) (sym same) ∙ h)))
