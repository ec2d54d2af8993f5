-- Counts of rows, and their lines.
use Rattle.std.proofs.Common.{◌≡◌, ◌≢◌, ◌<◌, ◌≤◌, ◌+◌, ◌-◌, ◌^◌, ◌⊎◌, inl, inr, ℕ, zero, suc, List, [], ◌∷◌, ◌++◌, length, map, drop, Bool, true, false, cond, Some}
use Rattle.std.proofs.Common.{arith, refl, sym, ap, ◌∙◌, length-append, append_assoc, append-nil}
use Rattle.std.specs.Prelude.{codes, count_by, replicate, slice_get, slice_index, slice_index_or, slice_set, if◌then◌else◌, ◌==◌}
use Rattle.std.specs.Bool.{Decides}
use Rattle.std.specs.List.{range_with_len}
use Rattle.std.specs.Str.{bytes_eq}
use Rattle.std.proofs.Math.ListN.{get_or-map}
use Rattle.std.proofs.Math.Seq.{drop-cons}
use Rattle.std.proofs.lemmas.Bool.{cases_eq, eq-eqb}
use Rattle.std.proofs.lemmas.Bool.Decides.{eqb_tells}
use Rattle.std.proofs.lemmas.List.{get_or-set_same, get_or-set_other, get_or-replicate}
use Rattle.std.proofs.lemmas.List.FromFn.{get_or-range_with_len}
use Rattle.std.proofs.lemmas.List.Sums.{sum_by-append, count_by-le-length}
use Rattle.std.proofs.lemmas.Slice.Eq.{bytes_eq-Decides}
use Rattle.tg_isa.specs.Table.{decode_of}
use Rattle.tg_machine.specs.declared.fetches.Seen.{Seen}
use Rattle.tg_profiler.specs.Reports.{counted_names, row_text, is_counted, count_of, count_line, count_lines, profile_report}
use Rattle.tg_profiler.specs.glue.Counting.{lines_of, HasCount}
use Rattle.tg_profiler.specs.glue.Standing.{Counts}

pub names_size : length counted_names ≡ 43
unfolding counted_names
names_size = refl

-- no two names are alike: each is first found where it stands
found : List ℕ → List (List ℕ) → ℕ
found name [] = 0
found name (other ∷ names) = if bytes_eq name other then 0 else 1 + found name names

each_found : map (λ n. found n counted_names) counted_names ≡ range_with_len 0 43
unfolding counted_names found
each_found = refl

found_at : (k : ℕ) → k < 43 → found (slice_index_or counted_names k []) counted_names ≡ k
found_at k lt =
    let d : ℕ = found [] counted_names in
    sym (get_or-map (λ n. found n counted_names) counted_names k []) ∙ ap (λ l. slice_index_or l k d) each_found
    ∙ get_or-range_with_len 0 43 k d lt ∙ omega arith

names_differ : (k r : ℕ) → k < 43 → r < 43 → slice_index_or counted_names k [] ≡ slice_index_or counted_names r [] → k ≡ r
names_differ k r lk lr e = sym (found_at k lk) ∙ ap (λ n. found n counted_names) e ∙ found_at r lr

-- a count with an element more
count_yes : {A : Type 0} (p : A → Bool) (s : List A) (x : A) → p x ≡ true → count_by p (s ++ x ∷ []) ≡ count_by p s + 1
count_yes p s x h =
    sum_by-append (λ y. cond (p y) 1 0) s (x ∷ []) ∙ ap (λ b. count_by p s + (0 + cond b 1 0)) h

count_no : {A : Type 0} (p : A → Bool) (s : List A) (x : A) → p x ≡ false → count_by p (s ++ x ∷ []) ≡ count_by p s
count_no p s x h =
    sum_by-append (λ y. cond (p y) 1 0) s (x ∷ []) ∙ ap (λ b. count_by p s + (0 + cond b 1 0)) h ∙ omega arith

same_text : (xs ys : List ℕ) → xs ≡ ys → bytes_eq xs ys ≡ true
same_text xs ys e = (bytes_eq-Decides xs ys).1 e

other_text : (xs ys : List ℕ) → xs ≢ ys → bytes_eq xs ys ≡ false
other_text xs ys apart = by (bytes_eq xs ys) (bytes_eq-Decides xs ys)
  where
    by : (b : Bool) → Decides b (xs ≡ ys) → b ≡ false
    by true h = absurd (apart (h.0 refl))
    by false h = refl

counted_is : (name : List ℕ) (x : Seen) → is_counted name x ≡ bytes_eq (row_text (decode_of x.word)) name
unfolding is_counted
counted_is name x = refl

-- the counts, with a fetch more
pub counts_more : (steps : ℕ) (counts : List ℕ) (s : List Seen) (code : ℕ) (x : Seen) (r : ℕ) → Counts steps counts s code → length counts ≡ 43 → r < 43 →
    slice_index_or counted_names r [] ≡ row_text (decode_of x.word) →
    Counts (steps + 1) (slice_set counts r (slice_index counts r + 1)) (s ++ x ∷ []) code
counts_more steps counts s code x r c size lt name = record {
  all = all;
  each = λ k below. by k below (cases_eq k r);
}
  where
    all : steps + 1 ≡ length (s ++ x ∷ [])
    all = omega (arith, c.all, length-append s (x ∷ []))

    by : (k : ℕ) → k < 43 → (k ≡ r) ⊎ (k ≡ r → ⊥) →
        slice_index (slice_set counts r (slice_index counts r + 1)) k ≡ count_of (slice_index_or counted_names k []) (s ++ x ∷ [])
    by k below (inl p) =
        let within : r < length counts = omega (arith, size, lt) in
        let is : row_text (decode_of x.word) ≡ slice_index_or counted_names k [] = sym name ∙ ap (λ m. slice_index_or counted_names m []) (sym p) in
        ap (λ m. slice_index (slice_set counts r (slice_index counts r + 1)) m) p ∙ get_or-set_same counts r (slice_index counts r + 1) 0 within
        ∙ ap (λ m. slice_index counts m + 1) (sym p) ∙ ap (λ n. n + 1) (c.each k below)
        ∙ sym (count_yes (is_counted (slice_index_or counted_names k [])) s x (counted_is (slice_index_or counted_names k []) x ∙ same_text _ _ is))
    by k below (inr apart) =
        let other : row_text (decode_of x.word) ≢ slice_index_or counted_names k [] =
        λ q. apart (sym (names_differ r k lt below (name ∙ q))) in
        get_or-set_other counts r k (slice_index counts r + 1) 0 apart ∙ c.each k below
        ∙ sym (count_no (is_counted (slice_index_or counted_names k [])) s x (counted_is (slice_index_or counted_names k []) x ∙ other_text _ _ other))

-- no count is above the number of all
pub count_le : (steps : ℕ) (counts : List ℕ) (s : List Seen) (code r : ℕ) → Counts steps counts s code → r < 43 → slice_index counts r ≤ length s
count_le steps counts s code r c lt =
    let le = count_by-le-length (is_counted (slice_index_or counted_names r [])) s in
    omega (arith, c.each r lt, le)

-- nothing was seen yet
none_counted : (k : ℕ) → count_of (slice_index_or counted_names k []) [] ≡ 0
none_counted k = refl

pub counts_none : (counts : List ℕ) (code : ℕ) → ((k : ℕ) → k < 43 → slice_index counts k ≡ 0) → Counts 0 counts [] code
counts_none counts code h = record { all = refl; each = λ k lt. h k lt ∙ sym (none_counted k) }

-- the lines of counts are those of the fetches
pub same_lines : (names : List (List ℕ)) (counts : List ℕ) (s : List Seen) → length counts ≡ length names →
    ((k : ℕ) → k < length names → slice_index counts k ≡ count_of (slice_index_or names k []) s) → lines_of names counts ≡ count_lines names s
same_lines [] counts s size h = refl
same_lines (name ∷ names) [] s size h = absurd (omega (arith, size))
same_lines (name ∷ names) (count ∷ counts) s size h =
    let less : length counts ≡ length names = omega (arith, size) in
    let some : 0 < length (name ∷ names) = omega arith in
    let first : count ≡ count_of name s = h 0 some in
    let later : lines_of names counts ≡ count_lines names s = same_lines names counts s less (λ k lt.
    let below : suc k < length (name ∷ names) = omega (arith, lt) in
    h (suc k) below) in
    ap (λ l. if count == 0 then l else count_line name count ∷ l) later
    ∙ ap (λ n. if n == 0 then count_lines names s else count_line name n ∷ count_lines names s) first

-- a list has at most a line for each name
pub few_lines : (names : List (List ℕ)) (s : List Seen) → length (count_lines names s) ≤ length names
few_lines [] s = omega arith
few_lines (name ∷ names) s = by (count_of name s == 0) (few_lines names s)
  where
    by : (b : Bool) → length (count_lines names s) ≤ length names →
        length (if b then count_lines names s else count_line name (count_of name s) ∷ count_lines names s) ≤ length (name ∷ names)
    by true h = omega (arith, h)
    by false h = omega (arith, h)

-- What the search has come to: so many names have been passed, and so many lines are before the one that is looked for.
pub record Passed (counts : List ℕ) (before left number : ℕ) : Type 0 where
  pub front : List (List ℕ)
  pub lines : lines_of counted_names counts ≡ front ++ lines_of (drop number counted_names) (drop number counts)
  pub before_is : length front + left ≡ before

pub none_passed : (counts : List ℕ) (before : ℕ) → Passed counts before before 0
none_passed counts before = record { front = []; lines = refl; before_is = omega arith }

-- the next name
lines_at : (counts : List ℕ) (number : ℕ) → length counts ≡ 43 → number < 43 →
    lines_of (drop number counted_names) (drop number counts)
    ≡ (if slice_index counts number == 0 then lines_of (drop (number + 1) counted_names) (drop (number + 1) counts) else
    count_line (slice_index_or counted_names number []) (slice_index counts number)
    ∷ lines_of (drop (number + 1) counted_names) (drop (number + 1) counts))
lines_at counts number size lt =
    let within : number < length counts = omega (arith, size, lt) in
    let named : number < length counted_names = omega (arith, names_size, lt) in
    let more : suc number ≡ number + 1 = omega arith in
    ap (λ l. lines_of l (drop number counts)) (drop-cons counted_names number [] named)
    ∙ ap (λ l. lines_of (slice_index_or counted_names number [] ∷ drop (suc number) counted_names) l) (drop-cons counts number 0 within)
    ∙ ap (λ m. if slice_index counts number == 0 then lines_of (drop m counted_names) (drop m counts) else
    count_line (slice_index_or counted_names number []) (slice_index counts number) ∷ lines_of (drop m counted_names) (drop m counts)) more

pub passed_none : (counts : List ℕ) (before left number : ℕ) → length counts ≡ 43 → number < 43 → Passed counts before left number →
    slice_index counts number ≡ 0 → Passed counts before left (number + 1)
passed_none counts before left number size lt p zero_is = record {
  front = p.front;
  lines = p.lines ∙ ap (λ l. p.front ++ l) (lines_at counts number size lt ∙ ap (λ b. if b then lines_of (drop (number + 1) counted_names) (drop (number + 1) counts) else
      count_line (slice_index_or counted_names number []) (slice_index counts number)
      ∷ lines_of (drop (number + 1) counted_names) (drop (number + 1) counts)) (eq-eqb (slice_index counts number) 0 zero_is));
  before_is = p.before_is;
}

-- where its count isn't 0 its line is next
line_next : (counts : List ℕ) (number : ℕ) → length counts ≡ 43 → number < 43 → slice_index counts number ≢ 0 →
    lines_of (drop number counted_names) (drop number counts)
    ≡ count_line (slice_index_or counted_names number []) (slice_index counts number)
    ∷ lines_of (drop (number + 1) counted_names) (drop (number + 1) counts)
line_next counts number size lt some = by (eqb_tells (slice_index counts number) 0)
  where
    line : List ℕ
    line = count_line (slice_index_or counted_names number []) (slice_index counts number)

    by : (((slice_index counts number == 0) ≡ true) × (slice_index counts number ≡ 0)) ⊎ (((slice_index counts number == 0) ≡ false) × (slice_index counts number ≢ 0)) →
        lines_of (drop number counted_names) (drop number counts) ≡ line ∷ lines_of (drop (number + 1) counted_names) (drop (number + 1) counts)
    by (inl p) = absurd (some p.1)
    by (inr p) =
        lines_at counts number size lt ∙ ap (λ b. if b then lines_of (drop (number + 1) counted_names) (drop (number + 1) counts) else
        line ∷ lines_of (drop (number + 1) counted_names) (drop (number + 1) counts)) p.0

pub passed_one : (counts : List ℕ) (before left number : ℕ) → length counts ≡ 43 → number < 43 → Passed counts before left number →
    slice_index counts number ≢ 0 → left ≢ 0 → Passed counts before (left - 1) (number + 1)
passed_one counts before left number size lt p some more =
    let line = count_line (slice_index_or counted_names number []) (slice_index counts number) in
    let rest = lines_of (drop (number + 1) counted_names) (drop (number + 1) counts) in
    let total : length (p.front ++ line ∷ []) ≡ length p.front + 1 = length-append p.front (line ∷ []) in
    let before_is : length (p.front ++ line ∷ []) + (left - 1) ≡ before = omega (arith, total, p.before_is, more) in
    record {
      front = p.front ++ line ∷ [];
      lines = p.lines ∙ ap (λ l. p.front ++ l) (line_next counts number size lt some) ∙ sym (append_assoc p.front (line ∷ []) rest);
      before_is = before_is;
    }

get-append : {A : Type 0} (xs : List A) (y : A) (ys : List A) (n : ℕ) → n ≡ length xs → slice_get (xs ++ y ∷ ys) n ≡ Some y
get-append [] y ys zero e = refl
get-append [] y ys (suc n) e = absurd (omega (arith, e))
get-append (x ∷ xs) y ys zero e = absurd (omega (arith, e))
get-append (x ∷ xs) y ys (suc n) e =
    let less : n ≡ length xs = omega (arith, e) in
    get-append xs y ys n less

-- the line that is looked for
pub found_line : (counts : List ℕ) (before left number : ℕ) → length counts ≡ 43 → number < 43 → Passed counts before left number →
    slice_index counts number ≢ 0 → left ≡ 0 → HasCount counted_names counts before number
found_line counts before left number size lt p some none =
    let line = count_line (slice_index_or counted_names number []) (slice_index counts number) in
    let rest = lines_of (drop (number + 1) counted_names) (drop (number + 1) counts) in
    let at : before ≡ length p.front = omega (arith, p.before_is, none) in
    record {
      below = lt;
      line = ap (λ l. slice_get l before) (p.lines ∙ ap (λ l. p.front ++ l) (line_next counts number size lt some))
          ∙ get-append p.front line rest before at;
    }

-- there is no such line
pub all_passed : (counts : List ℕ) (before left number : ℕ) → 43 ≤ number → Passed counts before left number → length (lines_of counted_names counts) ≤ before
all_passed counts before left number over p =
    let over' : length counted_names ≤ number = omega (arith, names_size, over) in
    let none : drop number counted_names ≡ [] = past number counted_names over' in
    let all : lines_of counted_names counts ≡ p.front =
    p.lines ∙ ap (λ l. p.front ++ lines_of l (drop number counts)) none ∙ append-nil p.front in
    let size : length (lines_of counted_names counts) ≡ length p.front = ap length all in
    omega (arith, size, p.before_is)
  where
    past : (n : ℕ) (names : List (List ℕ)) → length names ≤ n → drop n names ≡ []
    past zero [] le = refl
    past zero (x ∷ names) le = absurd (omega (arith, le))
    past (suc n) [] le = refl
    past (suc n) (x ∷ names) le =
        let less : length names ≤ n = omega (arith, le) in
        past n names less

-- the report, line by line
pub report_line : (steps : ℕ) (counts : List ℕ) (s : List Seen) (code : ℕ) → Counts steps counts s code → length counts ≡ 43 →
    count_lines counted_names s ≡ lines_of counted_names counts
report_line steps counts s code c size =
    let sizes : length counts ≡ length counted_names = size ∙ sym names_size in
    sym (same_lines counted_names counts s sizes (λ k lt.
    let below : k < 43 = omega (arith, lt, names_size) in
    c.each k below))

pub few_lines_of_report : (s : List Seen) (code : ℕ) → length (profile_report s code) < 2 ^ 32
few_lines_of_report s code =
    let few = few_lines counted_names s in
    omega (arith, few, names_size)

-- lines after the first
pub get-behind : {A : Type 0} (x : A) (xs : List A) (at : ℕ) → at ≢ 0 → slice_get (x ∷ xs) at ≡ slice_get xs (at - 1)
get-behind x xs zero h = absurd (h refl)
get-behind x xs (suc at) h = ap (slice_get xs) (omega arith)

-- an array of zeros
pub no_counts : (k : ℕ) → k < 43 → slice_index (replicate 43 0) k ≡ 0
no_counts k lt = get_or-replicate 43 k 0 0 lt

-- the lines that are told
pub first_line : (steps : ℕ) (counts : List ℕ) (s : List Seen) (code at : ℕ) → Counts steps counts s code → at ≡ 0 →
    slice_get (profile_report s code) at ≡ Some (count_line (codes "steps") steps)
first_line steps counts s code at c e =
    ap (slice_get (profile_report s code)) e ∙ ap (λ n. Some (count_line (codes "steps") n)) (sym c.all)

pub later_line : (steps : ℕ) (counts : List ℕ) (s : List Seen) (code at k : ℕ) → Counts steps counts s code → length counts ≡ 43 → at ≢ 0 →
    HasCount counted_names counts (at - 1) k →
    slice_get (profile_report s code) at ≡ Some (count_line (slice_index_or counted_names k []) (slice_index counts k))
later_line steps counts s code at k c size some h =
    get-behind (count_line (codes "steps") (length s)) (count_lines counted_names s) at some
    ∙ ap (λ l. slice_get l (at - 1)) (report_line steps counts s code c size) ∙ h.line

pub no_line : (steps : ℕ) (counts : List ℕ) (s : List Seen) (code at : ℕ) → Counts steps counts s code → length counts ≡ 43 → at ≢ 0 →
    length (lines_of counted_names counts) ≤ at - 1 → length (profile_report s code) ≤ at
no_line steps counts s code at c size some le =
    let same = ap length (report_line steps counts s code c size) in
    let total : length (profile_report s code) ≡ length (count_lines counted_names s) + 1 = omega arith in
    omega (arith, same, total, some, le)
