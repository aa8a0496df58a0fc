pub mod ThreeWords
pub mod AnswerLine
