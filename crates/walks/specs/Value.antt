-- Base and offset by numbers, as the code has them: a `Value`.
use Rattle.std.specs.Prelude.{ℕ, Bool, cond, ◌&&◌, ◌||◌, eqb}
use Rattle.word.specs.Word.{plus}
use Rattle.row.specs.declared.Row.{Row}
use Rattle.row.specs.Names.{SHIFT, SUM, DIFF}
use Rattle.row.specs.Bytes.{row}
use Rattle.term.specs.Term.{Term}
use Rattle.term.specs.Base.{Base, base_of, offset_of, shape_of, left_of, right_of}
use Rattle.walks.specs.declared.value.Value.{Value}

abbrev pub value : ℕ → ℕ → ℕ → ℕ → Value
value kind a b k = record { kind = kind; a = a; b = b; k = k }

-- base d with offset k: the kind that it is written as, and the rows that it names
unfoldable pub value_from : Base → ℕ → Value
value_from d k = value (shape_of d) (left_of d) (right_of d) k

-- the value of result row r, which is the given term
unfoldable pub value_of : ℕ → Term → Value
value_of r t = value_from (base_of r t) (offset_of t)

-- the value of row x of the result rows f
unfoldable pub value_at : (ℕ → Term) → ℕ → Value
value_at f x = value_of x (f x)

-- the second row that the base of a SHIFT, SUM, DIFF or NEG row names, 0 where it names one
unfoldable pub second_of : Row → ℕ
second_of x = cond (eqb x.kind SUM || eqb x.kind DIFF) x.b 0

-- the bases agree
unfoldable pub agree : Value → Value → Bool
agree u v = eqb u.kind v.kind && eqb u.a v.a && eqb u.b v.b

-- what row r of value v opens to, as the value of base "one x"
unfoldable pub opened_from : ℕ → Value → Value
opened_from r v = cond (eqb v.kind SHIFT) v (value SHIFT r 0 0)

-- the plain name of row r of value v
unfoldable pub plain_from : ℕ → Value → ℕ
plain_from r v = cond (eqb v.kind SHIFT && eqb v.k 0) v.a r

-- the row that value v is written as, with k added to its offset
unfoldable pub shifted_row : ℕ → Value → ℕ → Row
shifted_row M v k = row v.kind v.a v.b 0 (plus M v.k k) 0
