-- In the text of a tree each comma has a blank behind it, where the names have no comma.
use Rattle.std.proofs.Common.{ℕ, zero, suc, ◌≡◌, ◌≢◌, List, [], ◌∷◌, ◌++◌}
use Rattle.std.proofs.Common.{length, Bool, true, false, refl, arith, ℤ, pos, negsuc, w32}
use Rattle.std.specs.Prelude.{◌==◌, if◌then◌else◌, codes, slice_index_or}
use Rattle.std.specs.Fmt.{decimal, signed_decimal}
use Rattle.std.specs.List.{All}
use Rattle.std.specs.Int.RustNames.{FitsSigned}
use Rattle.std.specs.Str.Parse.{AllDigits}
use Rattle.std.proofs.lemmas.Str.Parse.{digit_from_value}
use Rattle.std.proofs.lemmas.Fmt.{decimal_is_IsNumeral}
use Rattle.std.proofs.lemmas.Bool.{ne_eqb}
use Rattle.std.proofs.Math.Facts.{sfits_to_z}
use Rattle.tg_base.specs.Words.{signed}
use Rattle.tg_tree.specs.declared.operators.Bin.{Bin}
use Rattle.tg_tree.specs.declared.operators.Bin.TheVariants.{Add, Sub, Mul, Div, And, Or, Xor}
use Rattle.tg_tree.specs.declared.operators.Bin.TheVariants.{ShiftLeft, ShiftRight, ShiftSigned, AddTrap, SubTrap, MulHigh}
use Rattle.tg_tree.specs.declared.operators.Rel.{Rel}
use Rattle.tg_tree.specs.declared.operators.Rel.TheVariants.{Equal, NotEqual, Less, LessEqual, Greater, GreaterEqual, Below, NotBelow}
use Rattle.tg_tree.specs.Tree.{Tx, Const, Address, Temp, FrameAddress, Binary, Load, LoadByte, Call, Service, After, Txs, no_txs, tx, Cond, Compare}
use Rattle.tg_tree.specs.Tree.{Not, Both, Either, Ts, Move, Store, StoreByte, Do, If, Loop, Break, Fault, Seq, Return, Stms, no_stms, stm}
use Rattle.tg_show.specs.Words.{int_text, name_text, temp_text, bin_word, rel_word}
use Rattle.tg_show.specs.Trees.{form, two, three, tx_text, txs_text, cond_text, ts_text, stms_text}
use Rattle.tg_show_laws.specs.Fitting.{IsWord, HaveNoCommas, NumbersFit, NumbersFitStms, NumbersFitTx, NumbersFitTxs, NumbersFitCond}
use Rattle.tg_show_laws.proofs.Solid.{spaced, spaced_append}

no_comma_then : (c : ℕ) (rest : List ℕ) → c ≢ 44 → spaced rest ≡ true → spaced (c ∷ rest) ≡ true
no_comma_then c rest h k = rw (ne_eqb c 44 h) k

spaced_digits : (ds : List ℕ) → AllDigits 10 ds → spaced ds ≡ true
spaced_digits [] d = refl
spaced_digits (c ∷ ds) d = let r = digit_from_value c d.0 in no_comma_then c ds (λ e. omega (arith, r, e)) (spaced_digits ds d.1)

pub spaced_decimal : (n : ℕ) → IsWord n → spaced (decimal n) ≡ true
spaced_decimal n h = spaced_digits (decimal n) (decimal_is_IsNumeral n (omega (arith, h))).0.1

spaced_signed : (z : ℤ) → FitsSigned w32 z → spaced (signed_decimal z) ≡ true
spaced_signed (pos n) f = spaced_decimal n (omega (arith, f.sfits))
spaced_signed (negsuc n) f = spaced_decimal (suc n) (omega (arith, f.sfits))

spaced_int : (n : ℕ) → IsWord n → spaced (int_text n) ≡ true
spaced_int n h = spaced_signed (signed n) (sfits_to_z (record { fits = h }))

spaced_bin : (op : Bin) → spaced (bin_word op) ≡ true
spaced_bin Add = refl
spaced_bin Sub = refl
spaced_bin Mul = refl
spaced_bin Div = refl
spaced_bin And = refl
spaced_bin Or = refl
spaced_bin Xor = refl
spaced_bin ShiftLeft = refl
spaced_bin ShiftRight = refl
spaced_bin ShiftSigned = refl
spaced_bin AddTrap = refl
spaced_bin SubTrap = refl
spaced_bin MulHigh = refl

pub spaced_rel : (rel : Rel) → spaced (rel_word rel) ≡ true
spaced_rel Equal = refl
spaced_rel NotEqual = refl
spaced_rel Less = refl
spaced_rel LessEqual = refl
spaced_rel Greater = refl
spaced_rel GreaterEqual = refl
spaced_rel Below = refl
spaced_rel NotBelow = refl

pub spaced_two : (a b : List ℕ) → spaced a ≡ true → spaced b ≡ true → spaced (two a b) ≡ true
spaced_two a b h k = spaced_append a (codes ", " ++ b) h k

pub spaced_parens : (parts : List ℕ) → spaced parts ≡ true → spaced (codes "(" ++ (parts ++ codes ")")) ≡ true
spaced_parens parts h = spaced_append parts (codes ")") h refl

spaced_of_two : (a b : List ℕ) → spaced a ≡ true → spaced b ≡ true → spaced (codes "(" ++ (two a b ++ codes ")")) ≡ true
spaced_of_two a b h k = spaced_parens (two a b) (spaced_two a b h k)

spaced_of_three : (a b c : List ℕ) → spaced a ≡ true → spaced b ≡ true → spaced c ≡ true → spaced (codes "(" ++ (three a b c ++ codes ")")) ≡ true
spaced_of_three a b c h k l = spaced_parens (three a b c) (spaced_two a (two b c) h (spaced_two b c k l))

pub spaced_form : (word parts : List ℕ) → spaced word ≡ true → spaced parts ≡ true → spaced (form word parts) ≡ true
spaced_form word parts h k = spaced_append word (codes "(" ++ (parts ++ codes ")")) h (spaced_parens parts k)

spaced_text : (text : List ℕ) → All (λ c. c ≢ 44) text → spaced text ≡ true
spaced_text [] h = refl
spaced_text (c ∷ text) h = no_comma_then c text (h 0 0 (omega arith)) (spaced_text text (λ k d l. h (suc k) d (omega (arith, l))))

named_spaced : (names : List (List ℕ)) → HaveNoCommas names → (t : ℕ) → spaced (slice_index_or names t []) ≡ true
named_spaced [] h t = refl
named_spaced (name ∷ names) h zero = spaced_text name (h 0 [] (omega arith))
named_spaced (name ∷ names) h (suc t) = named_spaced names (λ k d l. h (suc k) d (omega (arith, l))) t

module _ (names : List (List ℕ)) (plain : HaveNoCommas names) where
  spaced_named : (t : ℕ) → spaced (name_text (slice_index_or names t [])) ≡ true
  spaced_named t = by (length (slice_index_or names t []) == 0) (named_spaced names plain t)
    where
      by : (q : Bool) → spaced (slice_index_or names t []) ≡ true → spaced (if q then [] else 58 ∷ slice_index_or names t []) ≡ true
      by true h = refl
      by false h = h

  spaced_temp : (t : ℕ) → IsWord t → spaced (temp_text names t) ≡ true
  spaced_temp t h = spaced_append (decimal t) (name_text (slice_index_or names t [])) (spaced_decimal t h) (spaced_named t)

  mutual
    pub spaced_tx : (x : Tx) → NumbersFitTx x → spaced (tx_text names x) ≡ true
    spaced_tx (Const n) f = spaced_int n f
    spaced_tx (Address label) f = spaced_decimal label f
    spaced_tx (Temp t) f = spaced_temp t f
    spaced_tx FrameAddress f = refl
    spaced_tx (Binary op x y) f =
        spaced_of_three (bin_word op) (tx_text names x) (tx_text names y) (spaced_bin op) (spaced_tx x f.0) (spaced_tx y f.1)
    spaced_tx (Load x) f = spaced_parens (tx_text names x) (spaced_tx x f)
    spaced_tx (LoadByte x) f = spaced_parens (tx_text names x) (spaced_tx x f)
    spaced_tx (Call label xs) f =
        spaced_parens (codes "NAME f" ++ (decimal label ++ txs_text names xs))
        (spaced_append (decimal label) (txs_text names xs) (spaced_decimal label f.0) (spaced_txs xs f.1))
    spaced_tx (Service n x) f = spaced_of_two (decimal n) (tx_text names x) (spaced_decimal n f.0) (spaced_tx x f.1)
    spaced_tx (After s x) f = spaced_of_two (ts_text names s) (tx_text names x) (spaced_ts s f.0) (spaced_tx x f.1)

    spaced_txs : (xs : Txs) → NumbersFitTxs xs → spaced (txs_text names xs) ≡ true
    spaced_txs no_txs f = refl
    spaced_txs (tx x xs) f = spaced_append (tx_text names x) (txs_text names xs) (spaced_tx x f.0) (spaced_txs xs f.1)

    spaced_cond : (c : Cond) → NumbersFitCond c → spaced (cond_text names c) ≡ true
    spaced_cond (Compare rel x y) f =
        spaced_of_three (rel_word rel) (tx_text names x) (tx_text names y) (spaced_rel rel) (spaced_tx x f.0) (spaced_tx y f.1)
    spaced_cond (Not c) f = spaced_parens (cond_text names c) (spaced_cond c f)
    spaced_cond (Both c d) f = spaced_of_two (cond_text names c) (cond_text names d) (spaced_cond c f.0) (spaced_cond d f.1)
    spaced_cond (Either c d) f = spaced_of_two (cond_text names c) (cond_text names d) (spaced_cond c f.0) (spaced_cond d f.1)

    pub spaced_ts : (s : Ts) → NumbersFit s → spaced (ts_text names s) ≡ true
    spaced_ts (Move t x) f =
        spaced_of_two (codes "TEMP " ++ temp_text names t) (tx_text names x) (spaced_temp t f.0) (spaced_tx x f.1)
    spaced_ts (Store x y) f =
        spaced_of_two (form (codes "MEM") (tx_text names x)) (tx_text names y) (spaced_parens (tx_text names x) (spaced_tx x f.0)) (spaced_tx y f.1)
    spaced_ts (StoreByte x y) f =
        spaced_of_two (form (codes "MEMB") (tx_text names x)) (tx_text names y) (spaced_parens (tx_text names x) (spaced_tx x f.0)) (spaced_tx y f.1)
    spaced_ts (Do x) f = spaced_parens (tx_text names x) (spaced_tx x f)
    spaced_ts (If c s t) f =
        spaced_of_three (cond_text names c) (ts_text names s) (ts_text names t) (spaced_cond c f.0) (spaced_ts s f.1) (spaced_ts t f.2)
    spaced_ts (Loop s) f = spaced_parens (ts_text names s) (spaced_ts s f)
    spaced_ts (Break n) f = spaced_decimal n f
    spaced_ts (Fault n) f = spaced_decimal n f
    spaced_ts (Seq ss) f = spaced_parens (stms_text names true ss) (spaced_stms true ss f)
    spaced_ts (Return x) f = spaced_parens (tx_text names x) (spaced_tx x f)

    spaced_stms : (is_first : Bool) (ss : Stms) → NumbersFitStms ss → spaced (stms_text names is_first ss) ≡ true
    spaced_stms is_first no_stms f = refl
    spaced_stms true (stm s ss) f = spaced_append (ts_text names s) (stms_text names false ss) (spaced_ts s f.0) (spaced_stms false ss f.1)
    spaced_stms false (stm s ss) f = spaced_append (ts_text names s) (stms_text names false ss) (spaced_ts s f.0) (spaced_stms false ss f.1)
