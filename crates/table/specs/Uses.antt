-- Which fields a kind uses, and as what: document 01's table of kinds.
use Rattle.std.specs.Prelude.{ℕ, Bool, true, false, cond, ◌||◌, List, [], ◌∷◌, get_or, eqb}
use Rattle.table.specs.declared.Sort.{Sort}
use Rattle.table.specs.declared.Sort.TheVariants.{Word, Array}
use Rattle.table.specs.declared.Use.{Use}
use Rattle.table.specs.declared.Use.TheVariants.{Unused, Name, Refers, Other}
use Rattle.table.specs.declared.Uses.{Uses}
use Rattle.row.specs.Names.{FRESH, WRITE}

-- whether rows of a kind are words or arrays
unfoldable pub sort_of : ℕ → Sort
sort_of kind = cond (eqb kind FRESH || eqb kind WRITE) Array Word

-- whether two sorts are one
unfoldable pub is_sort : Sort → Sort → Bool
is_sort Word Word = true
is_sort Word Array = false
is_sort Array Word = false
is_sort Array Array = true

-- a reference field is used for something
unfoldable pub is_used : Use → Bool
is_used Unused = false
is_used Name = true
is_used (Refers sort) = true
is_used (Other n) = true

-- used to refer to a row
unfoldable pub is_reference : Use → Bool
is_reference Unused = false
is_reference Name = false
is_reference (Refers sort) = true
is_reference (Other n) = true

-- used to refer to a row of this sort
unfoldable pub refers_to : Sort → Use → Bool
refers_to sort Unused = false
refers_to sort Name = false
refers_to sort (Refers other) = is_sort sort other
refers_to sort (Other n) = false

abbrev pub uses : Use → Use → Use → Bool → Bool → Uses
uses a b c k h = record { a = a; b = b; c = c; k = k; h = h }

-- by kind, from 0 on; 0 is no kind
abbrev pub table : List Uses
table =
    uses Unused Unused Unused false false ∷
    uses Unused Unused Unused true false ∷  -- CONST  k
    uses Name Unused Unused true true ∷  -- VAR    its name in a, k, h
    uses (Refers Word) Unused Unused true false ∷  -- SHIFT  a, k
    uses (Refers Word) (Refers Word) Unused true false ∷  -- SUM    a, b, k
    uses (Refers Word) (Refers Word) Unused true false ∷  -- DIFF   a, b, k
    uses (Refers Word) Unused Unused true false ∷  -- NEG    a, k
    uses (Refers Array) (Refers Word) Unused false false ∷  -- READ   a, b
    uses Unused Unused Unused false false ∷  -- FRESH  none
    uses (Refers Array) (Refers Word) (Refers Word) false false ∷  -- WRITE  a, b, c
    []

-- the fields that a kind uses; none for what is no kind
unfoldable pub uses_of : ℕ → Uses
uses_of kind = get_or table kind (uses Unused Unused Unused false false)
