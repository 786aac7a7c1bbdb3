-- A fresh run: what its parts ask, and that what they leave is what the public promise says.
use Prim.Native.Nat.{ℕ, ◌^◌, ◌≤◌, ◌<◌, ◌-◌}
use Rattle.range.specs.declared.Range.{Range}
use native.Mathlib.Omega.{arith}
use mathlib.Core.Path.{◌≡◌, refl, ap, sym, ◌∙◌}
use mathlib.Core.Bool.{true, true≢false}
use mathlib.Core.List.{List}
use lib.ListN.{length, take, replicate}
use lib.Seq.{sets, length-sets}
use borrow.Author.Tests.{ne_eqb}
use Rattle.row.specs.Names.{HEADER, place}
use Rattle.row.specs.Bytes.{source_at}
use Rattle.in_bytes.specs.Numbers.{Read}
use Rattle.row.proofs.Places.{header_below}
use Rattle.table.specs.Verdict.{Verdict}
use Rattle.table.specs.Refusals.{width, rows, MOST, refuse, accepted}
use Rattle.table.specs.Accepted.{Accepted}
use Rattle.table.proofs.Accepts.{accepted_gives}
use Rattle.term.specs.Result.{result}
use Rattle.term.specs.Bytes.{look}
use Rattle.term.proofs.Names.{NamesBelow}
use Rattle.term.proofs.Placed.{length_put_rows}
use Rattle.term.proofs.WellFormed.{formed_below}
use Rattle.term.proofs.Accepted.{accepted_formed}
use Rattle.marks.specs.Marks.{marked}
use Rattle.marks.proofs.Marking.{all_marked}
use Rattle.judge.specs.Verdict.{is_accepted}
use Rattle.judge.specs.Run.{LIMIT, run_verdict}
use Rattle.judge.proofs.Verdicts.{accepted_is}
use Rattle.judge.proofs.Granted.{RunGranted, run_granted}
use Rattle.simplify.specs.declared.Answer.{Answer}
use Rattle.simplify.specs.Answer.{modulus, answer, if_accepted, answered}
use Rattle.copying.specs.Copy.{Rooms}
use Rattle.renew.specs.declared.Counts.{Counts}
use Rattle.renew.specs.Renew.{CanRenew, Renewed}
use Rattle.simplify.specs.Run.{fresh_rows, fresh_bytes, fresh_removed, fresh_compared, run_answer, run_result, Ran}
use Rattle.simplify.specs.Fresh.{CanFresh, Freshly}
use Rattle.renew.proofs.Outcome.{outcome_is, ranges_are, bytes_are, removed_is, compared_is}

-- every row is marked
pub record AllMarked (marks : List ℕ) : Type 0 where
  pub all : (x : ℕ) → x < 1024 → marked marks x ≡ true

pub all_ones : AllMarked (replicate 16 (2 ^ 64 - 1))
all_ones = record { all = all_marked }

module _ (t buffer : List ℕ) (store : List Range) (limit : ℕ) (can : CanFresh t buffer store limit) where
  ok : Accepted t
  ok = accepted_gives t can.table

  pub header_fits : HEADER ≤ length t
  header_fits = rw ok.head.size (header_below (rows t))

  pub width_fits : width t ≤ 64
  width_fits = ok.head.width_high

  pub copies : Rooms t 0 HEADER buffer 0
  copies = let h : HEADER ≤ length t = header_fits in record { source = omega arith; target = omega (arith, can.room) }

  abbrev begins : List ℕ
  begins = sets buffer 0 (take HEADER t)

  low : NamesBelow (look t)
  low = formed_below (2 ^ width t) (look t) (accepted_formed t ok)

  asked : {marks : List ℕ} → ((x : ℕ) → x < MOST → marked marks x ≡ true) → CanRenew t begins store marks (width t) limit (rows t)
  asked all =
      let few : rows t ≤ MOST = ok.head.few in
      record {
        width = ok.head.width_high;
        few = few;
        limited = can.limited;
        table_room = rw ok.head.size (native.Mathlib.Nat.le_refl (place (rows t)));
        room = rw length-sets (rw (← ok.head.size) can.room);
        formed = accepted_formed t ok;
        kept_fits = λ x l e. absurd (true≢false (sym (all x (omega arith)) ∙ e));
        kept_names = λ x l e. absurd (true≢false (sym (all x (omega arith)) ∙ e));
        kept_sorts = λ x l e. absurd (true≢false (sym (all x (omega arith)) ∙ e));
        kept_sort = λ x l e. absurd (true≢false (sym (all x (omega arith)) ∙ e));
      }

  module _ {w n : ℕ} {R : List ℕ} (marks : List ℕ) (all : (x : ℕ) → x < MOST → marked marks x ≡ true) (width_is : Read (width t) 256 w) (rows_is : Read (rows t) 65536 n) (copied : R ≡ begins) where
    pub fresh_asks : CanRenew t R store marks w limit n
    fresh_asks = rw (width_is.is, rows_is.is, copied) (asked all)

    few : (x : ℕ) → x < rows t → x < MOST
    few x l = let h : rows t ≤ MOST = ok.head.few in omega arith

    marks_are : (x : ℕ) → x < rows t → marked marks x ≡ true
    marks_are x l = all x (few x l)

    done : {R' : List ℕ} {S' : List Range} {counts : Counts} → Renewed t begins marks (width t) limit (rows t) R' S' counts → Freshly t buffer limit R' S' counts
    unfolding fresh_bytes fresh_rows fresh_removed fresh_compared modulus result
    done d =
        record {
          result = d.result ∙ bytes_are t begins store marks (width t) limit (rows t) (asked all) (λ x. true) (look t) (λ x e. low x) marks_are (λ x l e. absurd (true≢false e));
          rows_are = λ x l. d.rows x l ∙ outcome_is t begins store marks (width t) limit (rows t) (asked all) (λ y. true) (look t) (λ y e. low y) marks_are (λ y h e. absurd (true≢false e)) x l;
          ranges_are = λ x l word. d.ranges x l word ∙ ranges_are t begins store marks (width t) limit (rows t) (asked all) (λ y. true) (look t) (λ y e. low y) marks_are (λ y h e. absurd (true≢false e)) x l;
          removed = d.removed ∙ removed_is t begins store marks (width t) limit (rows t) (asked all) (λ x. true) (look t) (λ x e. low x) marks_are (λ x l e. absurd (true≢false e));
          compared = d.compared ∙ compared_is t begins store marks (width t) limit (rows t) (asked all) (λ x. true) (look t) (λ x e. low x) marks_are (λ x l e. absurd (true≢false e));
        }

    pub fresh_done : {R' : List ℕ} {S' : List Range} {counts : Counts} → Renewed t R marks w limit n R' S' counts → Freshly t buffer limit R' S' counts
    fresh_done renewed' = done (rw (width_is.is, rows_is.is, copied) at renewed')

-- ---- run

-- a fresh result is as long as the slice that it is written into
pub fresh_length : (limit : ℕ) (t buffer : List ℕ) → length (fresh_bytes limit t buffer) ≡ length buffer
unfolding fresh_bytes
fresh_length limit t buffer =
    length_put_rows (λ x. true) (fresh_rows limit t) (source_at t) (rows t) (sets buffer 0 (take HEADER t)) ∙ length-sets buffer 0 (take HEADER t)

pub answer_is :
    (refusal row removed touched compared : ℕ) →
    ◌≡◌ {A = Answer} (record { refusal = refusal; row = row; removed = removed; touched = touched; compared = compared }) (answer refusal row removed touched compared)
unfolding answer
answer_is refusal row removed touched compared = refl

pub accepted_answer : (removed touched compared : ℕ) → answered accepted removed touched compared ≡ answer 0 0 removed touched compared
unfolding answered if_accepted accepted refuse is_accepted
accepted_answer removed touched compared = refl

-- all numbers are 0 on refusal
pub refused_answer : (v : Verdict) (removed touched compared : ℕ) → (v.number ≡ 0 → ⊥) → answered v removed touched compared ≡ answer v.number v.row 0 0 0
unfolding answered if_accepted is_accepted
refused_answer v removed touched compared h = rw (ne_eqb v.number 0 h)

module _ (t buffer : List ℕ) (limit : ℕ) {v : Verdict} (judged : v ≡ run_verdict t buffer limit) where
  pub run_refused_lem : {a : Answer} → (v.number ≡ 0 → ⊥) → a ≡ answer v.number v.row 0 0 0 → Ran t buffer limit a buffer
  unfolding run_answer run_result is_accepted
  run_refused_lem h e =
      let refused : (run_verdict t buffer limit).number ≡ 0 → ⊥ = λ z. h (ap (λ (u : Verdict). u.number) judged ∙ z) in
      record {
        answer_is = e ∙ ap (λ (u : Verdict). answer u.number u.row 0 0 0) judged ∙ sym (refused_answer (run_verdict t buffer limit) _ _ _ refused);
        result_is = sym (rw (ne_eqb (run_verdict t buffer limit).number 0 refused));
      }

  granted : v.number ≡ 0 → is_accepted (run_verdict t buffer limit) ≡ true
  granted e = accepted_is _ (ap (λ (u : Verdict). u.number) (sym judged) ∙ e)

  pub run_few : v.number ≡ 0 → limit ≤ LIMIT
  run_few e = (run_granted t buffer limit (granted e)).few

  -- with this limit, or another
  pub run_asks : (store : List Range) → v.number ≡ 0 → {most : ℕ} → most ≤ LIMIT → CanFresh t buffer store most
  run_asks store e few =
      let ready : RunGranted t buffer limit = run_granted t buffer limit (granted e) in
      record { table = ready.table; room = ready.roomy.room; limited = few }

  pub run_header : v.number ≡ 0 → HEADER ≤ length t
  run_header e =
      let ready : RunGranted t buffer limit = run_granted t buffer limit (granted e) in
      rw (accepted_gives t ready.table).head.size (header_below (rows t))

  pub run_done : {left : List ℕ} {store : List Range} {counts : Counts} {n : ℕ} → v.number ≡ 0 → Freshly t buffer limit left store counts → Read (rows t) 65536 n →
      Ran t buffer limit (record { refusal = 0; row = 0; removed = counts.removed; touched = n; compared = counts.compared }) left
  unfolding run_answer run_result
  run_done {counts = counts} {n = n} e fresh few =
      let yes : run_verdict t buffer limit ≡ accepted = (run_granted t buffer limit (granted e)).verdict in
      record {
        answer_is =
            rw (yes, accepted_answer (fresh_removed limit t) (rows t) (fresh_compared limit t), ← fresh.removed, ← few.is, ← fresh.compared)
            (answer_is 0 0 counts.removed n counts.compared);
        result_is = fresh.result ∙ sym (rw (granted e));
      }
