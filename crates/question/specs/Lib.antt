-- What a question about two rows answers, for every input.
pub mod Ask
