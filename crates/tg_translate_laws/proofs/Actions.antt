-- What an action of the translation leaves: an answer and a state.
use Rattle.tg_translate.specs.mirror.States.{TranslationState, Translated, drawn}

abbrev pub answer : {A : Type 0} → Translated A → A
answer (drawn a s) = a

abbrev pub left : {A : Type 0} → Translated A → TranslationState
left (drawn a s) = s
