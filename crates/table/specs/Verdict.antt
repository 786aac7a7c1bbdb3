-- What an input is refused with: a number, and the row that it speaks of; number 0 where it is accepted.
use Rattle.std.specs.Prelude.{ℕ}

pub record Verdict : Type 0 where
  pub number : ℕ
  pub row : ℕ
