-- A READ row of an accepted table and its walk over the table's fresh result, with any limit: the walk made the row, and it is document 01's walk, cut off after
-- `limit` stores.
use Prim.Native.Nat.{ℕ, ◌≤◌}
use native.Mathlib.Omega.{arith}
use mathlib.Core.Path.{◌≡◌, refl, ap, ◌∙◌, subst}
use mathlib.Core.Bool.{true, false, false≢true}
use mathlib.Core.List.{List}
use lib.ListN.{length}
use Rattle.range.specs.declared.Range.{Range}
use Rattle.table.specs.Accepted.{Accepted}
use Rattle.term.specs.declared.Met.{Met}
use Rattle.term.specs.Term.{Term, const, var, shift, sum, diff, neg, read, fresh, write, stated_by, is_read, is_array}
use Rattle.term.specs.Relation.{range_of}
use Rattle.term.specs.Walk.{Walk, walk, compared}
use Rattle.term.specs.Reason.{met}
use Rattle.term.specs.Rule.{rule, read_by, read_rule}
use Rattle.term.specs.Result.{rule_at, simplified}
use Rattle.term.specs.WellFormed.{Names, Below, WellFormed}
use Rattle.term.specs.Bytes.{look}
use Rattle.term.proofs.Renewed.{result_eq}
use Rattle.term.proofs.Seen.{by_name_bare}
use Rattle.term.proofs.Follows.{Follows, walk_follows, met_length}
use Rattle.term.proofs.WellFormed.{formed_below, result_sort, result_formed}
use Rattle.simplify.specs.Answer.{modulus}
use Rattle.simplify.specs.Run.{fresh_rows}
use Rattle.demands.proofs.Demand2.{formed, positive}
use Rattle.demands.proofs.Downward.{few_compared}

-- a READ, as a row is told to be one
pub read_is : (t : Term) → is_read t ≡ true → (m : ℕ) × (i : ℕ) × (t ≡ read m i)
unfolding is_read
read_is (const k) e = absurd (false≢true e)
read_is (var name k h) e = absurd (false≢true e)
read_is (shift a k) e = absurd (false≢true e)
read_is (sum a b k) e = absurd (false≢true e)
read_is (diff a b k) e = absurd (false≢true e)
read_is (neg a k) e = absurd (false≢true e)
read_is (read a b) e = (a, b, refl)
read_is fresh e = absurd (false≢true e)
read_is (write a b c) e = absurd (false≢true e)

-- the ranges of the fresh result, and in it the walk of a read of array m at index i
abbrev pub ranges : ℕ → List ℕ → ℕ → Range
ranges limit t = range_of (modulus t) (fresh_rows limit t)

abbrev pub walked : ℕ → List ℕ → ℕ → ℕ → Walk
walked limit t m i = walk (fresh_rows limit t) (ranges limit t) i limit m

-- the stores that it compared, nearest first
abbrev pub stores : ℕ → List ℕ → ℕ → ℕ → List Met
stores limit t m i = met (fresh_rows limit t) (ranges limit t) i (walked limit t m i)

module _ (limit : ℕ) (t : List ℕ) (ok : Accepted t) where
  pub fresh_formed : WellFormed (modulus t) (fresh_rows limit t)
  unfolding fresh_rows
  fresh_formed = result_formed (modulus t) limit (positive t) (look t) (formed t ok)

  -- row x is READ m i
  module _ (x m i : ℕ) (is : look t x ≡ read m i) where
    pub array_named : Below (look t) x true m
    array_named = (subst (Names (Below (look t) x)) is ((formed t ok).names x)).0

    pub index_named : Below (look t) x false i
    index_named = (subst (Names (Below (look t) x)) is ((formed t ok).names x)).1

    pub array_walked : is_array (fresh_rows limit t m) ≡ true
    unfolding fresh_rows
    array_walked = result_sort (modulus t) limit (positive t) (look t) (formed t ok) m ∙ array_named.sort

    -- the walk made the result row
    pub walk_made_row : fresh_rows limit t x ≡ read_by (modulus t) (fresh_rows limit t) i (walked limit t m i)
    unfolding fresh_rows simplified rule_at rule read_rule stated_by
    walk_made_row =
        result_eq (modulus t) limit (look t) (formed_below (modulus t) (look t) (formed t ok)) x ∙ by_name_bare (look t) x (ap stated_by is) _ ∙
        ap (rule (modulus t) limit (fresh_rows limit t) (range_of (modulus t) (fresh_rows limit t))) is

    -- it is document 01's walk, store by store, and nothing else is (`follows_only`)
    pub follows : Follows (fresh_rows limit t) (ranges limit t) i limit m (stores limit t m i) (walked limit t m i)
    follows = walk_follows (fresh_rows limit t) (ranges limit t) i limit m

    pub as_many_as_compared : length (stores limit t m i) ≡ compared (walked limit t m i)
    as_many_as_compared = met_length (fresh_rows limit t) (ranges limit t) i (walked limit t m i)

    -- no more stores than rows stand before x
    pub compared_at_most : compared (walked limit t m i) ≤ x
    compared_at_most = omega (arith, few_compared (modulus t) (fresh_rows limit t) (ranges limit t) i fresh_formed follows, array_named.below)
