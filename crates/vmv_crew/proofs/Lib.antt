pub mod AnswersLemmas
