-- Numbers in bytes, little endian: document 01, "Bytes of a table".
use Rattle.std.specs.Prelude.{ℕ, suc, ◌+◌, ◌*◌, ◌/◌, ◌%◌, ◌<◌, ◌≡◌, List, [], ◌∷◌, get_or}

-- the byte at i, 0 past the end
abbrev pub byte : List ℕ → ℕ → ℕ
byte t i = get_or t i 0

-- every byte of a list of bytes
abbrev pub AllBytes : List ℕ → Type 0
AllBytes t = (i : ℕ) → byte t i < 256

-- the number in the n bytes from i on. (Elements of lent bytes are below 256; taken modulo 256, n of them are below 256 ^ n in any list.)
unfoldable pub number : ℕ → List ℕ → ℕ → ℕ
number ℕ.zero t i = 0
number (suc n) t i = byte t i % 256 + 256 * number n t (i + 1)

-- the n bytes of a number
unfoldable pub bytes : ℕ → ℕ → List ℕ
bytes ℕ.zero v = []
bytes (suc n) v = v % 256 ∷ bytes n (v / 256)

-- what a read tells of its result: the value, and its bound
pub record Read (value bound r : ℕ) : Type 0 where
  pub is : r ≡ value
  pub below : r < bound
