-- The functions of the runtime, by computing, and what follows of their constants.
use Rattle.std.proofs.Common.{◌≡◌, ◌<◌, ◌^◌, ℕ, zero, suc, List, [], ◌∷◌, true, refl, subst, lit≤, rules, arith}
use Rattle.std.specs.List.{Contains, list_all}
use Rattle.std.proofs.lemmas.Bool.{ltb-true}
use Rattle.std.proofs.lemmas.List.Elements.{All-contains}
use Rattle.std.proofs.lemmas.List.Sums.{AllPass-from_list_all}
use Rattle.tg_tree.specs.Tree.{Ts, Function}
use Rattle.tg_tree.specs.Named.{Named, constant, named_ts}
use Rattle.tg_runtime.specs.mirror.Routines.{runtime}
use Rattle.tg_runtime.specs.laws.Laws.{is_own, AreRoutines, AllAreRoutines, RuntimeHasWords}

pub all_are_routines : AllAreRoutines
all_are_routines = (
  record { closed = record { breaks = search rules; last = search rules }; own = refl; short = lit≤ tt; small = lit≤ tt },
  (
    record { closed = record { breaks = search rules; last = search rules }; own = refl; short = lit≤ tt; small = lit≤ tt },
    (
      record { closed = record { breaks = search rules; last = search rules }; own = refl; short = lit≤ tt; small = lit≤ tt },
      (
        record { closed = record { breaks = search rules; last = search rules }; own = refl; short = lit≤ tt; small = lit≤ tt },
        (
          record { closed = record { breaks = search rules; last = search rules }; own = refl; short = lit≤ tt; small = lit≤ tt },
          (
            record { closed = record { breaks = search rules; last = search rules }; own = refl; short = lit≤ tt; small = lit≤ tt },
            (
              record { closed = record { breaks = search rules; last = search rules }; own = refl; short = lit≤ tt; small = lit≤ tt },
              (
                record { closed = record { breaks = search rules; last = search rules }; own = refl; short = lit≤ tt; small = lit≤ tt },
                (
                  record { closed = record { breaks = search rules; last = search rules }; own = refl; short = lit≤ tt; small = lit≤ tt },
                  (
                    record { closed = record { breaks = search rules; last = search rules }; own = refl; short = lit≤ tt; small = lit≤ tt },
                    (
                      record { closed = record { breaks = search rules; last = search rules }; own = refl; short = lit≤ tt; small = lit≤ tt },
                      (
                        record { closed = record { breaks = search rules; last = search rules }; own = refl; short = lit≤ tt; small = lit≤ tt },
                        (
                          record { closed = record { breaks = search rules; last = search rules }; own = refl; short = lit≤ tt; small = lit≤ tt },
                          tt,
                        ),
                      ),
                    ),
                  ),
                ),
              ),
            ),
          ),
        ),
      ),
    ),
  ),
)

abbrev names : Ts → List Named
names body = named_ts body []

words_of : (fs : List (Function Ts)) → AreRoutines fs → (f : Function Ts) (n : ℕ) → Contains fs f → Contains (names f.body) (constant n) → n < 2 ^ 32
words_of [] h f n c k = absurd (omega (arith, c.1))
words_of (g ∷ gs) h f n (zero, l, e) k =
    let own : list_all (is_own f.temps) (names f.body) ≡ true = subst (λ j. list_all (is_own j.temps) (names j.body) ≡ true) e h.0.own in
    let each = AllPass-from_list_all (is_own f.temps) (names f.body) own in
    ltb-true n (2 ^ 32) (All-contains (λ x. is_own f.temps x ≡ true) (names f.body) (constant n) each k)
words_of (g ∷ gs) h f n (suc i, l, e) k = words_of gs h.1 f n (i, omega arith, e) k

pub runtime_words : RuntimeHasWords
runtime_words f n c k = words_of runtime.functions all_are_routines f n c k
