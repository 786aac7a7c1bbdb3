-- The result of a table, and a kept result after an edit: one definition, of which a fresh run is the case that every row is touched.
use Rattle.std.specs.Prelude.{ℕ, Bool, true, false, cond, not, ◌&&◌, ◌||◌, eqb}
use Rattle.basis.specs.Build.{grown}
use Rattle.basis.specs.Count.{count_where}
use Rattle.range.specs.declared.Range.{Range}
use Rattle.term.specs.Term.{Term, is_read, any_named}
use Rattle.term.specs.Seen.{by_name, seen}
use Rattle.term.specs.Relation.{range_of}
use Rattle.term.specs.Rule.{rule}

-- the result row of row x of the table t, over the result rows f and their ranges g: SHIFT of the first by 0, to the letter, where it is a later VAR of a name
unfoldable pub rule_at : ℕ → ℕ → (ℕ → Term) → (ℕ → Term) → (ℕ → Range) → ℕ → Term
rule_at M limit t f g x = by_name t x (rule M limit f g (t x))

-- the same over the result rows f then standing, with their ranges
unfoldable pub simplified : ℕ → ℕ → (ℕ → Term) → (ℕ → Term) → ℕ → Term
simplified M limit t f x = rule_at M limit t f (range_of M f) x

-- the rows of `kept`, with each touched row worked out anew in ascending order from the table t
unfoldable pub renewed : ℕ → ℕ → (ℕ → Bool) → (ℕ → Term) → (ℕ → Term) → ℕ → Term
renewed M limit touched t kept = grown (λ f x. cond (touched x) (simplified M limit t f x) (f x)) kept

-- the result of the table t
unfoldable pub result : ℕ → ℕ → (ℕ → Term) → ℕ → Term
result M limit t = renewed M limit (λ x. true) t t

-- row x is r, or leads back to r through one or more references of the rows t
unfoldable pub touched_by : (ℕ → Term) → ℕ → ℕ → Bool
touched_by t r = grown (λ marked x. eqb x r || any_named marked (t x)) (λ x. false)

-- the rows that an edit of row r touches: r, and those that lead back to r, names followed, in the table as it stood before or as it stands after
unfoldable pub touched_in : (ℕ → Term) → (ℕ → Term) → ℕ → ℕ → Bool
touched_in before after r x = touched_by (seen before) r x || touched_by (seen after) r x

-- of the first n rows, those that are READ in the table and not READ in the result
unfoldable pub removed_rows : (ℕ → Term) → (ℕ → Term) → ℕ → ℕ
removed_rows t f n = count_where (λ x. is_read (t x) && not (is_read (f x))) n
