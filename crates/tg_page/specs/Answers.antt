-- What a call of the page's compiler is answered.
use Rattle.std.specs.Prelude.{ℕ, ◌≡◌, ◌==◌, List, [], ◌∷◌, length, codes, IsUtf8}
use Rattle.std.specs.List.{slice_split}
use Rattle.tg_base.specs.InMemory.{PlainFiles, empty_room}
use Rattle.tg_asked.specs.Asked.{IsAsked, Objects}
use Rattle.tg_page.specs.declared.asking.Answer.{Answer}
use Rattle.tg_page.specs.Buffers.{IsPut}

-- the words of a line, a newline between two; a line that isn't UTF-8 has none
pub data AreWords (line : List ℕ) (words : List (List ℕ)) : Type 0 where
  is_text : IsUtf8 line → words ≡ slice_split (λ b. b == 10) line → AreWords line words
  is_no_text : ¬ IsUtf8 line → words ≡ [] → AreWords line words

-- the one file, and nothing asked of it so far
abbrev pub page_files : List ℕ → PlainFiles
page_files text = record { held = (codes "page.tig", text) ∷ []; calls = 0; faults = 0 }

-- before the call: that file, the input, and two sinks with the room of the buffers
abbrev pub begun : (text input out err : List ℕ) → Objects
begun text input out err = record {
  files = page_files text;
  input = record { left = input; calls = 0 };
  out = empty_room (length out) [];
  err = empty_room (length err) [];
}

-- The program's answer to the words gives the status, and what the sinks took stands at the front
-- of the buffers.
pub record IsAnswered (line text input out out' err err' : List ℕ) (answer : Answer) : Type 0 where
  pub words : List (List ℕ)
  pub after : Objects
  pub are_words : AreWords line words
  pub asked : IsAsked words (begun text input out err) after answer.status
  pub out_put : IsPut after.out.taken out out' answer.out
  pub err_put : IsPut after.err.taken err err' answer.err

-- that; or memory ran out before the call
pub data IsAnswer (line text input out out' err err' : List ℕ) (answer : Answer) : Type 0 where
  answered : IsAnswered line text input out out' err err' answer →
      IsAnswer line text input out out' err err' answer
  no_memory : answer ≡ record { status = 70; out = 0; err = 0 } → out' ≡ out → err' ≡ err →
      IsAnswer line text input out out' err err' answer
