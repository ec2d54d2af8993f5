pub mod ProgramsWithin
pub mod FaultPlaces
pub mod Typings
pub mod DelayedTypings
pub mod LineLemmas
pub mod TokensOnce
pub mod FaultsOnce
mod ExplanationsOnce
pub mod SourcesOnce
pub mod LargeSources
pub mod CanonicalTexts
pub mod ModesOnce
pub mod ToldInputs
pub mod FlagLemmas
mod ExactRuns
pub mod MeantEnds
pub mod BareRuns
pub mod SettledExplanations
pub mod Complete
pub mod GivenTexts
pub mod MeantCommands
pub mod AnswerLemmas
pub mod BareAnswers
pub mod Watched
mod Safety
