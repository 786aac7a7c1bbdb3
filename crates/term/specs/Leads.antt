-- Leading back: document 01, "the rows that lead back to r through one or more references". A later VAR of a name leads back to the first (document 02, A2): it
-- refers to it in the table as it is `seen`, which is what the demands say `LeadsBack` of.
use Rattle.std.specs.Prelude.{ℕ, ◌≡◌, ◌⊎◌}
use Rattle.term.specs.Term.{Term, const, var, shift, sum, diff, neg, read, fresh, write}

-- a reference of the term is to row y
abbrev pub Refers : Term → ℕ → Type 0
Refers (const k) y = ⊥
Refers (var name k h) y = ⊥
Refers (shift a k) y = y ≡ a
Refers (sum a b k) y = (y ≡ a) ⊎ (y ≡ b)
Refers (diff a b k) y = (y ≡ a) ⊎ (y ≡ b)
Refers (neg a k) y = y ≡ a
Refers (read a b) y = (y ≡ a) ⊎ (y ≡ b)
Refers fresh y = ⊥
Refers (write a b c) y = (y ≡ a) ⊎ (y ≡ b) ⊎ (y ≡ c)

-- row x of the table t leads back to row r: it refers to r, or to a row that leads back to r
pub data LeadsBack (t : ℕ → Term) (r : ℕ) : ℕ → Type 0 where
  directly : {x : ℕ} → Refers (t x) r → LeadsBack t r x
  through : {x y : ℕ} → Refers (t x) y → LeadsBack t r y → LeadsBack t r x
