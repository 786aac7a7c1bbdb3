-- One step of a walk, and where a walk ends, as the code tells them.
use Rattle.std.specs.Prelude.{ℕ}
use Rattle.range.specs.declared.Range.{Range}
use Rattle.term.specs.Term.{Term, const, var, shift, sum, diff, neg, read, fresh, write}
use Rattle.term.specs.declared.Relation.{Relation}
use Rattle.term.specs.declared.Relation.TheVariants.{Same, Apart, Unknown}
use Rattle.term.specs.Relation.{related}
use Rattle.term.specs.Walk.{Walk, found, passed, undecided, ended, compared}
use Rattle.walks.specs.declared.walking.Step.{Step}
use Rattle.walks.specs.declared.walking.Step.TheVariants.{Hit, Next, Stay, End}
use Rattle.walks.specs.declared.walking.Landing.{Landing}
use Rattle.walks.specs.declared.walking.Landing.TheVariants.{Found, Stopped}
use Rattle.walks.specs.declared.walking.Walked.{Walked}

-- at a store on array a with the element c, by what is known of its index
unfoldable pub step_by : ℕ → ℕ → Relation → Step
step_by a c Same = Hit c
step_by a c Apart = Next a
step_by a c Unknown = Stay

-- for the index row i, at the array row that is the given term
unfoldable pub step_at : (ℕ → Term) → (ℕ → Range) → ℕ → Term → Step
step_at f g i (const k) = End
step_at f g i (var name k h) = End
step_at f g i (shift a k) = End
step_at f g i (sum a b k) = End
step_at f g i (diff a b k) = End
step_at f g i (neg a k) = End
step_at f g i (read a b) = End
step_at f g i fresh = End
step_at f g i (write a b c) = step_by a c (related f g b i)

-- where a walk ends
unfoldable pub landing : Walk → Landing
landing (found m c) = Found c
landing (passed m onward) = landing onward
landing (undecided m) = Stopped m
landing (ended m) = Stopped m

abbrev pub walked : Landing → ℕ → Walked
walked end number = record { landing = end; compared = number }

-- with the number of stores that it compared
unfoldable pub walked_by : Walk → Walked
walked_by w = walked (landing w) (compared w)
