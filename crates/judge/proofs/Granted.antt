-- What a run that is accepted has, an edit that is refused for none of 1 to 8 and 19, and a question that is accepted: the reasons, one by one, do not hold.
use Prim.Native.Nat.{ℕ, ◌≤◌, ◌<◌}
use mathlib.Core.Path.{◌≡◌, refl, ap, ◌∙◌}
use mathlib.Core.Bool.{true, false, not, ◌||◌}
use mathlib.Core.List.{List, [], ◌∷◌}
use lib.ListN.{length}
use lib.Dec.{ltb, leb, eqb}
use borrow.Author.Tests.{ltb-false, le-ltb, leb-false, eqb-true, not-false}
use Rattle.basis.specs.Reason.{◌when◌, first}
use Rattle.basis.proofs.Pick.{or_left, or_right}
use Rattle.basis.proofs.Reasons.{numbered, first_none, first_skips, append_skips, append_first, append_second}
use Rattle.row.specs.Names.{LENGTH}
use Rattle.table.specs.Verdict.{Verdict}
use Rattle.table.specs.Refusals.{rows, refuse, accepted, given, check_rows, check_table, head_reasons}
use Rattle.table.proofs.Faulty.{given_passes}
use Rattle.term.specs.Term.{is_array}
use Rattle.term.specs.Bytes.{look}
use Rattle.judge.specs.Verdict.{is_accepted}
use Rattle.judge.specs.Run.{LIMIT, room_reasons, limit_reasons, run_reasons, run_verdict}
use Rattle.judge.specs.Kept.{kept_part, kept_wrong, kept_verdict}
use Rattle.judge.specs.Edit.{edit_reasons}
use Rattle.judge.specs.Ask.{pair_reasons, array_reasons, array_verdict}
use Rattle.judge.specs.Judge.{PairThere}
use Rattle.judge.proofs.Verdicts.{is_accepted_lem, accepted_is, given_number, given_after, rows_pass, rows_after, table_passes, head_numbered}

-- 1 to 6 do not hold
pub record Roomy (t buffer : List ℕ) : Type 0 where
  pub head : first (head_reasons t) ≡ 0
  pub room : length t ≤ length buffer

pub roomy : (t buffer : List ℕ) → first (room_reasons t buffer) ≡ 0 → Roomy t buffer
unfolding room_reasons
roomy t buffer e =
    record {
      head = append_first (head_reasons t) _ e;
      room = ltb-false (length buffer) (length t) (first_none (6 when ltb (length buffer) (length t) ∷ []) refl (append_second (head_reasons t) _ (head_numbered t) e)).0;
    }

pub room_numbered : (t buffer : List ℕ) → numbered (room_reasons t buffer) ≡ true
unfolding room_reasons head_reasons
room_numbered t buffer = refl

-- 1 to 6 and 19 of a run do not hold
pub record RunReady (t buffer : List ℕ) (limit : ℕ) : Type 0 where
  pub roomy : Roomy t buffer
  pub few : limit ≤ LIMIT

pub run_ready : (t buffer : List ℕ) (limit : ℕ) → first (run_reasons t buffer limit) ≡ 0 → RunReady t buffer limit
unfolding run_reasons limit_reasons
run_ready t buffer limit zero_first =
    record {
      roomy = roomy t buffer (append_first (room_reasons t buffer) _ zero_first);
      few = ltb-false LIMIT limit (first_none (19 when ltb LIMIT limit ∷ []) refl (append_second (room_reasons t buffer) _ (room_numbered t buffer) zero_first)).0;
    }

pub record RunGranted (t buffer : List ℕ) (limit : ℕ) : Type 0 where
  pub verdict : run_verdict t buffer limit ≡ accepted
  pub roomy : Roomy t buffer
  pub few : limit ≤ LIMIT
  pub table : check_table t ≡ accepted

pub run_granted : (t buffer : List ℕ) (limit : ℕ) → is_accepted (run_verdict t buffer limit) ≡ true → RunGranted t buffer limit
unfolding run_verdict
run_granted t buffer limit e =
    let z : (given (first (run_reasons t buffer limit)) 0 (check_rows t accepted)).number ≡ 0 = is_accepted_lem _ e in
    let ready : RunReady t buffer limit = run_ready t buffer limit (given_number _ 0 (check_rows t accepted) z) in
    record {
      verdict = given_passes _ 0 (check_rows t accepted) (given_number _ 0 (check_rows t accepted) z) ∙ rows_pass t accepted accepted (given_after _ 0 (check_rows t accepted) z);
      roomy = ready.roomy;
      few = ready.few;
      table = table_passes t accepted ready.roomy.head (given_after _ 0 (check_rows t accepted) z);
    }

-- 1 to 8 and 19 of an edit do not hold
pub record EditReady (t kept : List ℕ) (r : ℕ) (x : List ℕ) (limit : ℕ) : Type 0 where
  pub roomy : Roomy t kept
  pub row : r < rows t
  pub long : length x ≡ LENGTH
  pub few : limit ≤ LIMIT

pub edit_ready : (t kept : List ℕ) (r : ℕ) (x : List ℕ) (limit : ℕ) → first (edit_reasons t kept r x limit) ≡ 0 → EditReady t kept r x limit
unfolding edit_reasons limit_reasons
edit_ready t kept r x limit zero_first =
    let three =
    first_none (7 when leb (rows t) r ∷ 8 when not (eqb (length x) LENGTH) ∷ 19 when ltb LIMIT limit ∷ []) refl
    (append_second (room_reasons t kept) _ (room_numbered t kept) zero_first) in
    record {
      roomy = roomy t kept (append_first (room_reasons t kept) _ zero_first);
      row = leb-false (rows t) r three.0;
      long = eqb-true (length x) LENGTH (not-false (eqb (length x) LENGTH) three.1.0);
      few = ltb-false LIMIT limit three.1.1.0;
    }

-- 1 to 7 of a question do not hold
pub pair_ready : (t kept : List ℕ) (x y : ℕ) → first (pair_reasons t kept x y) ≡ 0 → PairThere t kept x y
unfolding pair_reasons
pair_ready t kept x y zero_first =
    let is : Roomy t kept = roomy t kept (append_first (room_reasons t kept) _ zero_first) in
    let seven = (first_none (7 when (leb (rows t) x || leb (rows t) y) ∷ []) refl (append_second (room_reasons t kept) _ (room_numbered t kept) zero_first)).0 in
    record {
      there = record { head = is.head; room = is.room };
      first_row = leb-false (rows t) x (or_left (leb (rows t) x) (leb (rows t) y) seven);
      second_row = leb-false (rows t) y (or_right (leb (rows t) x) (leb (rows t) y) seven);
    }

-- nor do 16 and 14, where the rows pass too
pub record WordsGranted (t kept : List ℕ) (x y : ℕ) : Type 0 where
  pub right : kept_wrong t (kept_part t kept) ≡ false
  pub first_word : is_array (look t x) ≡ false
  pub second_word : is_array (look t y) ≡ false

module _ (t kept : List ℕ) (x y : ℕ) where
  abbrev last : Verdict
  last = array_verdict t x y

  abbrev words_verdict : Verdict
  words_verdict = check_rows t (kept_verdict t (kept_part t kept) last)

  module _ (z : words_verdict.number ≡ 0) where
    after_rows : (kept_verdict t (kept_part t kept) last).number ≡ 0
    after_rows = rows_after t (kept_verdict t (kept_part t kept) last) z

    sixteen : first (16 when kept_wrong t (kept_part t kept) ∷ []) ≡ 0
    unfolding kept_verdict
    sixteen = given_number _ 0 last after_rows

    after_kept : last.number ≡ 0
    unfolding kept_verdict
    after_kept = given_after _ 0 last after_rows

    x_word : first (array_reasons t x) ≡ 0
    unfolding array_verdict
    x_word = given_number _ x (given (first (array_reasons t y)) y accepted) after_kept

    y_word : first (array_reasons t y) ≡ 0
    unfolding array_verdict
    y_word = given_number _ y accepted (given_after _ x (given (first (array_reasons t y)) y accepted) after_kept)

    pub words_granted : WordsGranted t kept x y
    unfolding array_reasons
    words_granted =
        record {
          right = (first_none (16 when kept_wrong t (kept_part t kept) ∷ []) refl sixteen).0;
          first_word = (first_none (14 when is_array (look t x) ∷ []) refl x_word).0;
          second_word = (first_none (14 when is_array (look t y) ∷ []) refl y_word).0;
        }

    pub words_accepted : words_verdict ≡ accepted
    unfolding kept_verdict array_verdict
    words_accepted =
        rows_pass t _ _ z ∙ given_passes _ 0 _ sixteen ∙ given_passes _ x _ x_word ∙ given_passes _ y accepted y_word

-- and the other way round: an accepted table with room is granted a run
pub grant_run : (t buffer : List ℕ) (limit : ℕ) → check_table t ≡ accepted → length t ≤ length buffer → limit ≤ LIMIT → is_accepted (run_verdict t buffer limit) ≡ true
unfolding run_verdict run_reasons room_reasons limit_reasons check_table accepted refuse first
grant_run t buffer limit passes room few =
    let z : (check_table t).number ≡ 0 = ap (λ (v : Verdict). v.number) passes in
    let head : first (head_reasons t) ≡ 0 = given_number _ 0 (check_rows t accepted) z in
    let roomy : first (room_reasons t buffer) ≡ 0 =
    append_skips (head_reasons t) _ (head_numbered t) head ∙ first_skips 6 (ltb (length buffer) (length t)) [] (le-ltb (length buffer) (length t) room) in
    let ready : first (run_reasons t buffer limit) ≡ 0 =
    append_skips (room_reasons t buffer) _ (room_numbered t buffer) roomy ∙ first_skips 19 (ltb LIMIT limit) [] (le-ltb LIMIT limit few) in
    accepted_is _
    (ap (λ (v : Verdict). v.number) (given_passes (first (run_reasons t buffer limit)) 0 (check_rows t accepted) ready) ∙ given_after _ 0 (check_rows t accepted) z)
