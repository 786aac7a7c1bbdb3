-- One way to build upwards: row after row, each made from what the rows below it have become.
use Rattle.std.specs.Prelude.{ℕ, zero, suc, cond, eqb}

module _ {A : Type 0} where
  -- f, with v in the place of row n
  unfoldable pub put : (ℕ → A) → ℕ → A → ℕ → A
  put f n v x = cond (eqb x n) v (f x)

  -- f, with its first n rows made anew in ascending order: row x becomes `step f x`, f as it stands then
  unfoldable pub grow : ((ℕ → A) → ℕ → A) → (ℕ → A) → ℕ → ℕ → A
  grow step f zero = f
  grow step f (suc n) = put (grow step f n) n (step (grow step f n) n)

  -- f, with every row made anew: row x as it stands once it was made
  unfoldable pub grown : ((ℕ → A) → ℕ → A) → (ℕ → A) → ℕ → A
  grown step f x = grow step f (suc x) x
