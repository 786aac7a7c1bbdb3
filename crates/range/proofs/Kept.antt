-- The store: what is kept for a row is found there again, and the other rows stay. Assumes nothing.
use Rattle.std.proofs.Common.{◌≡◌, ℕ, zero, suc, ◌<◌, List, length, replicate, refl, length-set, get_or-set_other, get_or-set_same}
use Rattle.range.specs.declared.Range.{Range}
use Rattle.range.specs.Range.{point}
use Rattle.range.specs.Store.{kept, keep}

-- a new store has point 0 for each row
pub kept_new : (n x : ℕ) → kept (replicate n (point 0)) x ≡ point 0
unfolding kept
kept_new zero x = refl
kept_new (suc n) zero = refl
kept_new (suc n) (suc x) = kept_new n x

module _ (s : List Range) (x : ℕ) (a : Range) where
  pub keep_length : length (keep s x a) ≡ length s
  unfolding keep
  keep_length = length-set s x a

  pub keep_same : x < length s → kept (keep s x a) x ≡ a
  unfolding keep kept
  keep_same room = get_or-set_same s x a (point 0) room

  pub keep_other : (y : ℕ) → (y ≡ x → ⊥) → kept (keep s x a) y ≡ kept s y
  unfolding keep kept
  keep_other y apart = get_or-set_other s x y a (point 0) apart
