-- What the door for C says beside the promises of `simplify`.
pub mod Door
