-- The files of a map, by their names.
use Rattle.std.proofs.Common.{◌≡◌, ℕ, Bool, true, false, cond, List, [], ◌∷◌, Option, Some, String, Vec, map, string_bytes, refl}
use Rattle.std.specs.Prelude.{Result, Ok, Err, IfOk, take}
use Rattle.std.specs.BTreeMap.{BTreeMap, get_by_text, is_at}
use Rattle.std.specs.Cmp.Lexicographic.{slice_cmp}
use Rattle.std.specs.Map.{lookup}
use Rattle.std.specs.Option.{option_map}
use Rattle.std.specs.Ordering.{nat_cmp}
use Rattle.std.specs.Str.{bytes_eq}
use Rattle.std.specs.declared.alloc.Global.{Global}
use Rattle.std.proofs.lemmas.Map.Text.{is_eq-slice_cmp}
use Rattle.tg_base.specs.Files.{IsFilePrefix}
use Rattle.tg_base.specs.InMemory.{file_of, named_files}

by_test : (b : Bool) (x : Vec ℕ Global) (p : Option (List ℕ)) (q : Option (Vec ℕ Global)) → p ≡ option_map (λ v. v.items) q →
    cond b (Some x.items) p ≡ option_map (λ v. v.items) (cond b (Some x) q)
by_test true x p q h = refl
by_test false x p q h = h

lookup-named : (es : List (String Global × Vec ℕ Global)) (name : List ℕ) →
    lookup (bytes_eq name) (map (λ e. (string_bytes e.0, e.1.items)) es) ≡ option_map (λ v. v.items)
    (lookup (is_at (λ k. slice_cmp nat_cmp name (string_bytes k))) es)
lookup-named [] name = refl
lookup-named (e ∷ es) name = rw (is_eq-slice_cmp name (string_bytes e.0)) (by_test (bytes_eq name (string_bytes e.0)) e.1 _ _ (lookup-named es name))

pub file_of_named : (files : BTreeMap (String Global) (Vec ℕ Global)) (name : List ℕ) → file_of (named_files files) name ≡
    option_map (λ v. v.items) (get_by_text files name)
file_of_named files name = lookup-named files.entries name

-- what a read of a file that is there answers
pub front_of_file : {E : Type 0} (r : Result (Vec ℕ Global) E) (held : List (List ℕ × List ℕ)) (name : List ℕ) (most : ℕ) (file : List ℕ) →
    file_of held name ≡ Some file → IfOk r (λ v. v.items ≡ take most file) → IfOk r (λ v. IsFilePrefix (Some (file_of held)) name most v.items)
front_of_file (Err e) held name most file h k = k
front_of_file (Ok v) held name most file h k = rw h k
