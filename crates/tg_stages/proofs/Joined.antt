-- What is put at the end in two pieces or three.
use Rattle.std.proofs.Common.{◌≡◌, List, ◌++◌, ap, ◌∙◌, append_assoc}

pub two_told : {A : Type 0} (t u v a b : List A) → u ≡ t ++ a → v ≡ u ++ b → v ≡ t ++ (a ++ b)
two_told t u v a b p q = q ∙ ap (λ x. x ++ b) p ∙ append_assoc t a b

pub three_told : {A : Type 0} (t u v w a b c : List A) → u ≡ t ++ a → v ≡ u ++ b → w ≡ v ++ c → w ≡ t ++ (a ++ (b ++ c))
three_told t u v w a b c p q r = two_told t u w a (b ++ c) p (two_told u v w b c q r)
