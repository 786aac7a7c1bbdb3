-- Text in bytes: numbers in decimal, and what it is to write a text into a slice.
use Rattle.std.specs.Prelude.{ℕ, zero, suc, ◌+◌, ◌*◌, ◌-◌, ◌/◌, ◌%◌, ◌≤◌, ◌≡◌, cond, List, [], ◌∷◌, ◌++◌, ltb, length}
use Prim.Native.Char.{code}
use Prim.Native.String.{String, [] as []ₛ, ◌∷◌ as ◌∷ₛ◌}
use Rattle.std.proofs.lemmas.List.Edits.{sets}
use Rattle.text.specs.declared.Text.{Text}

-- the bytes of a quoted text
abbrev pub ascii : String → List ℕ
ascii []ₛ = []
ascii (c ∷ₛ s) = code c ∷ ascii s

-- the digits of v, the most significant first and no zero in front; 48 is `0`. Enough for a v of d + 1 digits
unfoldable pub digits : ℕ → ℕ → List ℕ
digits zero v = (48 + v % 10) ∷ []
digits (suc d) v = cond (ltb v 10) ((48 + v) ∷ []) (digits d (v / 10) ++ ((48 + v % 10) ∷ []))

-- v in decimal, for every v of 64 bits: those have at most 20 digits
unfoldable pub decimal : ℕ → List ℕ
decimal v = digits 19 v

-- the number that digits read as, after those read before them
unfoldable pub read : ℕ → List ℕ → ℕ
read before [] = before
read before (c ∷ cs) = read (before * 10 + (c - 48)) cs

-- numbers in decimal, each with a space in front
unfoldable pub spaced : List ℕ → List ℕ
spaced [] = []
spaced (v ∷ vs) = (32 ∷ decimal v) ++ spaced vs

-- The text, written into l from `at` on, makes it m; r is the place behind the text, at most `most` bytes on.
-- What does not fit into l is left out and still counted, so a text written to a slice of no room is measured.
pub record Put (l : List ℕ) (at : ℕ) (text : List ℕ) (most : ℕ) (m : List ℕ) (r : ℕ) : Type 0 where
  pub written : m ≡ sets l at text
  pub next : r ≡ at + length text
  pub few : r ≤ at + most

-- the same of what is written into the slice that a text holds, which stays the one that was lent
pub record Wrote (a : Text) (text : List ℕ) (most : ℕ) (b : Text) : Type 0 where
  pub same : b.out.ghost_name ≡ a.out.ghost_name
  pub put : Put a.out.now a.at text most b.out.now b.at
