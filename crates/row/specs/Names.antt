-- The numbers of a row, as document 01 has them. They are stated here and not taken from the code, so that code with another number is refused:
-- the constants of `Row` are these by `places_named` and `marks_named` of proofs/Named.antt, and the byte of a kind is its own by what `Kind::byte` promises.
use Rattle.std.specs.Prelude.{ℕ, ◌+◌, ◌*◌}

-- bytes of a header, and of a row
abbrev pub HEADER : ℕ
HEADER = 6

abbrev pub LENGTH : ℕ
LENGTH = 30

-- the two bytes of the mark
abbrev pub MARK_0 : ℕ
MARK_0 = 0x52

abbrev pub MARK_1 : ℕ
MARK_1 = 0x4F

-- the kinds
abbrev pub CONST : ℕ
CONST = 1

abbrev pub VAR : ℕ
VAR = 2

abbrev pub SHIFT : ℕ
SHIFT = 3

abbrev pub SUM : ℕ
SUM = 4

abbrev pub DIFF : ℕ
DIFF = 5

abbrev pub NEG : ℕ
NEG = 6

abbrev pub READ : ℕ
READ = 7

abbrev pub FRESH : ℕ
FRESH = 8

abbrev pub WRITE : ℕ
WRITE = 9

-- where the fields of a row stand, counted from its first byte
abbrev pub KIND : ℕ
KIND = 2

abbrev pub ZERO : ℕ
ZERO = 3

abbrev pub A : ℕ
A = 4

abbrev pub B : ℕ
B = 6

abbrev pub C : ℕ
C = 8

abbrev pub K : ℕ
K = 10

abbrev pub H : ℕ
H = 18

abbrev pub SOURCE : ℕ
SOURCE = 26

-- where row r of a table begins
unfoldable pub place : ℕ → ℕ
place r = HEADER + LENGTH * r
