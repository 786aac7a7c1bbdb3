-- The constants of the code are the numbers of specs/Names.antt.
use mathlib.Core.Path.{◌≡◌, refl}
use mathlib.Core.List.{[], ◌∷◌}
use Rattle.row.specs.declared.TheConstants.Row as Code
use Rattle.row.specs.Names

-- the lengths and the places, and the marks (a kind's byte is what `Kind::byte` promises)
pub places_named :
    Code.HEADER ∷ Code.LENGTH ∷ Code.KIND ∷ Code.ZERO ∷ Code.A ∷ Code.B ∷ Code.C ∷ Code.K ∷ Code.H ∷ Code.SOURCE ∷ [] ≡
    Names.HEADER ∷ Names.LENGTH ∷ Names.KIND ∷ Names.ZERO ∷ Names.A ∷ Names.B ∷ Names.C ∷ Names.K ∷ Names.H ∷ Names.SOURCE ∷ []
places_named = refl

pub marks_named : Code.MARK_0 ∷ Code.MARK_1 ∷ [] ≡ Names.MARK_0 ∷ Names.MARK_1 ∷ []
marks_named = refl
