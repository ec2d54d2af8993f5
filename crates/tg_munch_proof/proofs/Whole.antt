-- The theorem: each program's instructions do what its flat code did.
use Rattle.std.proofs.Common.{◌≡◌, ◌<◌, ℕ, suc, List, [], ◌∷◌, refl, arith}
use Rattle.std.proofs.lemmas.List.Elements.{All-append, All-replicate}
use Rattle.std.specs.List.{Contains}
use Rattle.tg_machine_state.specs.State.{padded}
use Rattle.tg_simulation.specs.Bytes.{AreBytes}
use Rattle.tg_tree.specs.Tree.{Linear, Function, Literal}
use Rattle.tg_tree.specs.Named.{Named, function, literal, fault, temporary, constant, named_flat}
use Rattle.tg_tree.specs.Memory.{Closed, Has, statics_of, begin}
use Rattle.tg_munch.specs.laws.Laws.{MarksDiffer}
use Rattle.tg_munch_proof.specs.Words.{AreWords}
use Rattle.tg_munch_proof.specs.laws.Chosen.{MayBeChosen, MunchIsCorrect}
use Rattle.tg_munch_proof.specs.glue.Relating.{Program, BodyMatches}
use Rattle.tg_munch_proof.proofs.Bodies.{body_matches}
use Rattle.tg_munch_proof.proofs.Naming.{IsAllowed, all_of, code_words}
use Rattle.tg_munch_proof.proofs.Program.{programs_match}

-- the names of a function for which instructions are chosen
allowed : (f : Function (List Linear)) → MayBeChosen f → (x : Named) → Contains (named_flat f.body []) x → IsAllowed f.temps x
allowed f may (temporary i) c = may.temps i c
allowed f may (constant n) c = may.words n c
allowed f may (function l) c = tt
allowed f may (literal l) c = tt
allowed f may (fault n) c = tt

-- statics are bytes, and nothing stands in the stack
padded_bytes : (bytes : List ℕ) → AreBytes bytes → AreBytes (padded bytes)
padded_bytes bytes h = All-append (λ b. b < 256) bytes _ h (All-replicate (λ b. b < 256) _ 0 (omega arith))

statics_bytes : (ls : List Literal) → ((l : Literal) → Contains ls l → AreBytes l.text) → AreBytes (statics_of ls)
statics_bytes [] h = λ k d lt. absurd (omega (arith, lt))
statics_bytes (l ∷ ls) h =
    All-append (λ b. b < 256) (padded l.text) (statics_of ls) (padded_bytes l.text (h l (0, omega arith, refl)))
    (statics_bytes ls (λ m c. h m (suc c.0, let lt = c.1 in omega (arith, lt), c.2)))

closed_is_none : (v : ℕ) → Closed ≡ Has v → ⊥
closed_is_none v e = cc

begins_in_words : (ls : List Literal) → ((l : Literal) → Contains ls l → AreBytes l.text) → AreWords (begin ls)
begins_in_words ls h = record {
  statics = statics_bytes ls h;
  heap = λ k d lt. absurd (omega (arith, lt));
  stack = λ a v e. absurd (closed_is_none v e);
}

pub chosen_keep : MarksDiffer → MunchIsCorrect
chosen_keep differ code size floor room body input may literals bytes fits =
    let program : Program = record { code = code; size = size; floor = floor; room = room } in
    programs_match program body input (begins_in_words code.literals literals) bytes fits.stack
    (all_of (BodyMatches program) code.functions
    (λ f c.
    let one = may f c in
    let parts = code_words f.temps f.body one.flat (all_of (IsAllowed f.temps) (named_flat f.body []) (allowed f one)) in
    body_matches program f one fits (fits.sizes f c) (differ f one.marked) parts.0 parts.1))
