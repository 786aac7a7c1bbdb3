-- The sources of rows: document 02, A9. A result row carries the source of its own row of the table; and inputs that are the same but for sources are answered
-- the same and leave bytes that are the same but for sources.
use Prim.Native.Nat.{ℕ, zero, suc, ◌≤◌, ◌<◌}
use native.Mathlib.Nat.{le_refl}
use native.Mathlib.Omega.{arith}
use native.Mathlib.Decide.{ℕ_discrete}
use mathlib.Core.Path.{◌≡◌, refl, ap, sym, ◌∙◌}
use mathlib.Core.Bool.{Bool, true, false, cond}
use mathlib.Core.Logic.{dite, ◌⊎◌}
use mathlib.Core.List.{List}
use lib.ListN.{length, take}
use lib.Seq.{sets, length-sets, get_or-take}
use Rattle.basis.specs.Reason.{first}
use Rattle.basis.specs.Count.{any_below}
use Rattle.basis.proofs.Pick.{pick_true, test_case}
use Rattle.in_bytes.specs.Numbers.{byte}
use Rattle.row.specs.Names.{HEADER, place}
use Rattle.row.specs.Bytes.{source_at}
use Rattle.row.proofs.Places.{header_below, room_in}
use Rattle.row.proofs.Whole.{source_small}
use Rattle.table.specs.Verdict.{Verdict}
use Rattle.table.specs.Refusals.{rows, refuse, accepted, check_rows}
use Rattle.table.specs.Accepted.{Accepted}
use Rattle.table.proofs.Heads.{good_head}
use Rattle.table.proofs.Accepts.{accepted_gives}
use Rattle.table.proofs.Faulty.{given_passes, given_refuses}
use Rattle.term.specs.Leads.{LeadsBack}
use Rattle.term.specs.Seen.{seen}
use Rattle.term.specs.Result.{touched_in}
use Rattle.term.specs.Bytes.{look, edited}
use Rattle.term.proofs.Acceptable.{same_rows}
use Rattle.term.proofs.Placed.{put_rows_source}
use Rattle.judge.specs.Verdict.{is_accepted}
use Rattle.judge.specs.Run.{room_reasons, run_reasons, run_verdict}
use Rattle.judge.specs.Kept.{kept_part, other_header, other_sorts, kept_wrong, kept_verdict}
use Rattle.judge.specs.Edit.{edit_reasons}
use Rattle.judge.specs.Ask.{pair_reasons, array_reasons, array_verdict}
use Rattle.judge.proofs.Granted.{EditReady, edit_ready, RunGranted, run_granted}
use Rattle.simplify.specs.Answer.{answer}
use Rattle.simplify.specs.Run.{fresh_rows, fresh_bytes, fresh_removed, fresh_compared, run_answer, run_result}
use Rattle.simplify.specs.Edit.{edit_verdict, is_touched, edited_rows, edited_bytes, edited_removed, touched_rows, edited_compared, edit_answer, edit_table, edit_kept}
use Rattle.simplify.proofs.Granted.{edit_granted}
use Rattle.question.specs.Ask.{ask_verdict, kept_rows, ask_reason, ask_answer}
use Rattle.demands.specs.Sources.{AlikeButSources, RowAlike}
use Rattle.demands.proofs.Fresh.{run_leaves}
use Rattle.demands.proofs.Alike.{rows_alike, look_alike, head_alike, scan_alike, check_alike, modulus_alike, fresh_alike, part_alike, sets_alike, put_rows_alike, header_alike}
use Rattle.demands.proofs.Demand1.{edit_counts_nothing}
use Rattle.demands.proofs.Demand3.{edited_long, edited_head, edited_passes, edited_room, edited_touched, table_left, kept_left}

-- ---- a result row carries the source of its own row of the table

pub run_carries : (t buffer : List ℕ) (limit : ℕ) → is_accepted (run_verdict t buffer limit) ≡ true → (x : ℕ) → x < rows t →
    source_at (run_result t buffer limit) x ≡ source_at t x
unfolding fresh_bytes
run_carries t buffer limit granted x l =
    let is : RunGranted t buffer limit = run_granted t buffer limit granted in
    let ok : Accepted t = accepted_gives t is.table in
    ap (λ (b : List ℕ). source_at b x) (run_leaves t buffer limit granted) ∙
    put_rows_source (λ y. true) (fresh_rows limit t) (source_at t) (rows t) (sets buffer 0 (take HEADER t)) (rw (length-sets, ← ok.head.size) is.roomy.room)
    (source_small t) x l

-- so does each row that an edit works out anew; the others keep all their bytes (Demand3's `others_stay`)
module _ (t kept : List ℕ) (r : ℕ) (new : List ℕ) (limit : ℕ) (granted : is_accepted (edit_verdict t kept r new limit) ≡ true) where
  abbrev e : List ℕ
  e = edited t r new

  pub edit_carries : (x : ℕ) → x < rows t → (x ≡ r) ⊎ LeadsBack (seen (look t)) r x ⊎ LeadsBack (seen (look (edit_table t kept r new limit))) r x →
      source_at (edit_kept t kept r new limit) x ≡ source_at (edit_table t kept r new limit) x
  unfolding edited_bytes
  edit_carries x l led =
      let left : edit_table t kept r new limit ≡ e = table_left t kept r new limit granted in
      let led' : (x ≡ r) ⊎ LeadsBack (seen (look t)) r x ⊎ LeadsBack (seen (look e)) r x = rw left at led in
      ap (λ (b : List ℕ). source_at b x) (kept_left t kept r new limit granted) ∙
      put_rows_source (is_touched t e r) (edited_rows limit t e r kept) (source_at e) (rows e) kept (edited_room t kept r new limit granted) (source_small e) x
      (rw (same_rows e t (edited_head t kept r new limit granted)) l) ∙
      pick_true (is_touched t e r x) _ _ (edited_touched t kept r new limit granted x led') ∙
      ap (λ (b : List ℕ). source_at b x) (sym left)

-- ---- inputs that are the same but for sources

-- what is left, by one verdict
left_alike : (v w : Verdict) {x y b c : List ℕ} → v ≡ w → (is_accepted v ≡ true → AlikeButSources x y) → AlikeButSources b c →
    AlikeButSources (cond (is_accepted v) x b) (cond (is_accepted w) y c)
left_alike v w same worked stayed =
    rw (← same)
    (test_case (is_accepted v) (λ (h : is_accepted v ≡ true). rw h (worked h)) (λ (h : is_accepted v ≡ false). rw h stayed))

module _ (s t b c : List ℕ) (tables : AlikeButSources s t) (buffers : AlikeButSources b c) where
  room_alike : room_reasons s b ≡ room_reasons t c
  unfolding room_reasons
  room_alike = rw (head_alike s t tables, tables.long, buffers.long)

  verdict_alike : (limit : ℕ) → run_verdict s b limit ≡ run_verdict t c limit
  unfolding run_verdict run_reasons
  verdict_alike limit = rw (room_alike, scan_alike s t tables accepted)

  fresh_left : (limit : ℕ) → Accepted s → length s ≤ length b → AlikeButSources (fresh_bytes limit s b) (fresh_bytes limit t c)
  unfolding fresh_bytes
  fresh_left limit passed fits =
      let long : HEADER ≤ length s = rw passed.head.size (header_below (rows s)) in
      rw (← fresh_alike s t tables limit, ← rows_alike s t tables, ← tables.header)
      (put_rows_alike (λ x. true) (fresh_rows limit s) (source_at s) (source_at t) (rows s) (sets b 0 (take HEADER s)) (sets c 0 (take HEADER s))
      (rw (length-sets, ← passed.head.size) fits) (header_alike b c s long (omega arith) buffers))

  pub run_answers_alike : (limit : ℕ) → run_answer s b limit ≡ run_answer t c limit
  unfolding run_answer fresh_removed fresh_compared
  run_answers_alike limit =
      rw (verdict_alike limit, look_alike s t tables, fresh_alike s t tables limit, rows_alike s t tables, modulus_alike s t tables)

  pub run_leaves_alike : (limit : ℕ) → AlikeButSources (run_result s b limit) (run_result t c limit)
  unfolding run_result
  run_leaves_alike limit =
      left_alike _ _ (verdict_alike limit)
      (λ h. let is : RunGranted s b limit = run_granted s b limit h in fresh_left limit (accepted_gives s is.table) is.roomy.room) buffers

  -- the part of a kept result
  kept_alike : AlikeButSources (kept_part s b) (kept_part t c)
  unfolding kept_part
  kept_alike = rw (← rows_alike s t tables) (part_alike b c buffers (place (rows s)) (header_below (rows s)))

any_same : (test test' : ℕ → Bool) (n : ℕ) → ((x : ℕ) → x < n → test x ≡ test' x) → any_below test n ≡ any_below test' n
unfolding any_below
any_same test test' zero same = refl
any_same test test' (suc n) same = rw (any_same test test' n (λ (x : ℕ) (l : x < n). same x (omega arith)), same n (le_refl (suc n)))

headers_alike : (s t b c : List ℕ) → AlikeButSources s t → AlikeButSources b c → other_header s b ≡ other_header t c
unfolding other_header
headers_alike s t b c tables parts =
    any_same _ _ HEADER (λ (i : ℕ) (l : i < HEADER). rw (first_bytes s t tables i l, first_bytes b c parts i l))
  where
    first_bytes : (l m : List ℕ) → AlikeButSources l m → (i : ℕ) → i < HEADER → byte l i ≡ byte m i
    first_bytes l m same i h = sym (get_or-take HEADER l i 0 h) ∙ ap (λ (k : List ℕ). byte k i) same.header ∙ get_or-take HEADER m i 0 h

-- 16
kept_judged : (s t b c : List ℕ) → AlikeButSources s t → AlikeButSources b c → (after : Verdict) → kept_verdict s b after ≡ kept_verdict t c after
unfolding kept_verdict kept_wrong other_sorts
kept_judged s t b c tables parts after =
    rw (
      check_alike b c parts,
      headers_alike s t b c tables parts,
      look_alike b c parts,
      look_alike s t tables,
      rows_alike s t tables,
    )

-- a question
module _ (s t b c : List ℕ) (tables : AlikeButSources s t) (results : AlikeButSources b c) (x y : ℕ) where
  asked_alike : ask_verdict s b x y ≡ ask_verdict t c x y
  unfolding ask_verdict pair_reasons array_verdict array_reasons
  asked_alike =
      rw (
        room_alike s t b c tables results,
        rows_alike s t tables,
        look_alike s t tables,
        scan_alike s t tables,
        kept_judged s t (kept_part s b) (kept_part t c) tables (kept_alike s t b c tables results),
      )

  pub ask_answers_alike : ask_answer s b x y ≡ ask_answer t c x y
  unfolding ask_answer ask_reason kept_rows
  ask_answers_alike =
      rw (asked_alike, modulus_alike s t tables, look_alike (kept_part s b) (kept_part t c) (kept_alike s t b c tables results))

-- an edit
module _ (t u kept held : List ℕ) (r : ℕ) (new brought : List ℕ) (limit : ℕ)
    (tables : AlikeButSources t u) (results : AlikeButSources kept held) (replacements : RowAlike new brought) where
  numbers_alike : edit_reasons t kept r new limit ≡ edit_reasons u held r brought limit
  unfolding edit_reasons
  numbers_alike = rw (room_alike t u kept held tables results, rows_alike t u tables, replacements.long)

  -- where none of 1 to 8 and 19 holds, the two edited tables
  edited_alike : EditReady t kept r new limit → AlikeButSources (edited t r new) (edited u r brought)
  unfolding edited
  edited_alike ready = sets_alike t u r new brought ready.long (room_in t ready.row (good_head t ready.roomy.head).size) tables replacements

  edit_judged : edit_verdict t kept r new limit ≡ edit_verdict u held r brought limit
  unfolding edit_verdict
  edit_judged =
      let numbers : first (edit_reasons t kept r new limit) ≡ first (edit_reasons u held r brought limit) = ap first numbers_alike in
      dite (ℕ_discrete (first (edit_reasons t kept r new limit)) 0)
      (λ (z : first (edit_reasons t kept r new limit) ≡ 0).
      let ready : EditReady t kept r new limit = edit_ready t kept r new limit z in
      given_passes _ 0 _ z ∙
      scan_alike (edited t r new) (edited u r brought) (edited_alike ready) (kept_verdict (edited t r new) (kept_part t kept) accepted) ∙
      ap (check_rows (edited u r brought))
      (kept_judged (edited t r new) (edited u r brought) (kept_part t kept) (kept_part u held) (edited_alike ready)
      (kept_alike t u kept held tables results) accepted) ∙
      sym (given_passes _ 0 _ (sym numbers ∙ z)))
      (λ (n : first (edit_reasons t kept r new limit) ≡ 0 → ⊥).
      given_refuses _ 0 _ n ∙ ap (λ (k : ℕ). refuse k 0) numbers ∙ sym (given_refuses _ 0 _ (λ z. n (numbers ∙ z))))

  edited_rows_alike : EditReady t kept r new limit → edited_rows limit t (edited t r new) r kept ≡ edited_rows limit u (edited u r brought) r held
  unfolding edited_rows is_touched
  edited_rows_alike ready =
      let edits = edited_alike ready in
      let parts = kept_alike (edited t r new) (edited u r brought) kept held edits results in
      rw (
        modulus_alike (edited t r new) (edited u r brought) edits,
        look_alike t u tables,
        look_alike (edited t r new) (edited u r brought) edits,
        look_alike (kept_part (edited t r new) kept) (kept_part (edited u r brought) held) parts,
      )

  counts : EditReady t kept r new limit → edit_answer t kept r new limit ≡ edit_answer u held r brought limit
  unfolding edit_answer edited_removed touched_rows edited_compared is_touched
  counts ready =
      let edits = edited_alike ready in
      rw (
        edit_judged,
        edited_rows_alike ready,
        look_alike t u tables,
        look_alike (edited t r new) (edited u r brought) edits,
        rows_alike (edited t r new) (edited u r brought) edits,
        modulus_alike (edited t r new) (edited u r brought) edits,
      )

  pub edit_answers_alike : edit_answer t kept r new limit ≡ edit_answer u held r brought limit
  edit_answers_alike =
      test_case (is_accepted (edit_verdict t kept r new limit))
      (λ (h : is_accepted (edit_verdict t kept r new limit) ≡ true). counts (edit_granted t kept r new limit h).ready)
      (λ (h : is_accepted (edit_verdict t kept r new limit) ≡ false).
      edit_counts_nothing t kept r new limit h ∙ ap (λ (v : Verdict). answer v.number v.row 0 0 0) edit_judged ∙
      sym (edit_counts_nothing u held r brought limit (ap is_accepted (sym edit_judged) ∙ h)))

  pub edit_table_alike : AlikeButSources (edit_table t kept r new limit) (edit_table u held r brought limit)
  unfolding edit_table
  edit_table_alike = left_alike _ _ edit_judged (λ h. edited_alike (edit_granted t kept r new limit h).ready) tables

  rows_put : is_accepted (edit_verdict t kept r new limit) ≡ true →
      AlikeButSources (edited_bytes limit t (edited t r new) r kept) (edited_bytes limit u (edited u r brought) r held)
  unfolding edited_bytes is_touched
  rows_put h =
      let ready : EditReady t kept r new limit = (edit_granted t kept r new limit h).ready in
      let edits = edited_alike ready in
      let passed : Accepted (edited t r new) = accepted_gives (edited t r new) (edited_passes t kept r new limit h) in
      rw (
        ← edited_rows_alike ready,
        ← look_alike t u tables,
        ← look_alike (edited t r new) (edited u r brought) edits,
        ← rows_alike (edited t r new) (edited u r brought) edits,
      )
      (put_rows_alike (touched_in (look t) (look (edited t r new)) r) (edited_rows limit t (edited t r new) r kept) (source_at (edited t r new))
      (source_at (edited u r brought)) (rows (edited t r new)) kept held (rw (← passed.head.size, edited_long t kept r new limit h) ready.roomy.room) results)

  pub edit_kept_alike : AlikeButSources (edit_kept t kept r new limit) (edit_kept u held r brought limit)
  unfolding edit_kept
  edit_kept_alike = left_alike _ _ edit_judged rows_put results
