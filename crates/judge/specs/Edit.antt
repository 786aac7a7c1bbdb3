-- What an edit is refused for beside 9 to 15, 18 and 16: 1 to 8 and 19 (document 01, "What is answered" and "Edit"; document 02, A8).
use Rattle.std.specs.Prelude.{ℕ, not, List, ◌∷◌, ◌++◌, length, leb, eqb}
use Rattle.basis.specs.Reason.{Reason, ◌when◌}
use Rattle.row.specs.Names.{LENGTH}
use Rattle.table.specs.Refusals.{rows}
use Rattle.judge.specs.Run.{room_reasons, limit_reasons}

-- 1 to 8 and 19
unfoldable pub edit_reasons : List ℕ → List ℕ → ℕ → List ℕ → ℕ → List Reason
edit_reasons t kept r replacement limit =
    room_reasons t kept ++ 7 when leb (rows t) r ∷ 8 when not (eqb (length replacement) LENGTH) ∷ limit_reasons limit
