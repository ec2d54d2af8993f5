use Rattle.std.proofs.Common.{rules, ◌≡◌, ◌∙◌, ap, List, [], ◌∷◌, map, string_bytes, Ordering}
use Rattle.std.specs.BTreeMap.{insert_entry}
use Rattle.tg_page.proofs.asking.shelf_of.Goals as goal

-- what is inserted where nothing is
only_entry : {K X : Type 0} (cmp : K → K → Ordering) (before after : List (K × X)) (k : K) (x : X) → after ≡ insert_entry cmp before k x → before ≡ [] →
    after ≡ (k, x) ∷ []
only_entry cmp before after k x inserted none = inserted ∙ ap (λ l. insert_entry cmp l k x) none

pub returns : goal.returns
returns c =
    let entries = only_entry _ _ _ _ _ c.in_ok-insert.ensures.entries c.new-files.ensures.empty in
    let same : c.in_ok-to_vec.field-0.items ≡ c.args.text.now = c.in_ok-to_vec.ensures.items_if_clones_equal (λ y h. search rules) in
    c.new.ensures
    ∙ (λ i. record { held = map (λ e. (string_bytes e.0, e.1.items)) (entries i); calls = 0; faults = 0 })
    ∙ (λ i. record { held = (c.in_ok-from_str.ensures.ok i, same i) ∷ []; calls = 0; faults = 0 })
