-- An edit: rows moved as bytes, what its parts ask, and that what they leave is what the public promise says.
use Prim.Native.Nat.{ℕ, ◌+◌, ◌≤◌}
use native.Mathlib.Nat.{zero-add}
use native.Mathlib.Omega.{arith}
use mathlib.Core.Path.{◌≡◌, ap, ap₂, sym, ◌∙◌}
use mathlib.Core.Bool.{true, false}
use mathlib.Core.List.{List, ◌++◌, append-nil}
use lib.ListN.{length, take, drop, length-drop, replicate, length-replicate}
use lib.Seq.{sets, sets-eq, take_all, drop-length, length-sets, length-take-le}
use lib.Dec.{eqb}
use borrow.Author.Tests.{ne_eqb}
use Rattle.basis.specs.Reason.{first}
use Rattle.basis.proofs.Pick.{pick_true}
use Rattle.row.specs.Names.{HEADER, LENGTH, place}
use Rattle.basis.proofs.Sets.{sets_undone}
use Rattle.row.proofs.Places.{header_below, room_in}
use Rattle.row.proofs.Rows.{take_stays}
use Rattle.table.specs.Verdict.{Verdict}
use Rattle.table.specs.Refusals.{rows, refuse, accepted, head_reasons, check_rows, check_table}
use Rattle.table.proofs.Heads.{good_head}
use Rattle.table.proofs.Faulty.{given_passes, given_refuses}
use Rattle.term.specs.Bytes.{edited}
use Rattle.term.proofs.Acceptable.{same_rows}
use Rattle.judge.specs.Verdict.{is_accepted}
use Rattle.judge.specs.Run.{LIMIT}
use Rattle.judge.specs.Kept.{kept_part, kept_wrong, kept_verdict}
use Rattle.judge.specs.Edit.{edit_reasons}
use Rattle.judge.specs.Judge.{KeptThere}
use Rattle.judge.proofs.Verdicts.{accepted_is, table_passes, head_same}
use Rattle.judge.proofs.Granted.{EditReady, edit_ready}
use Rattle.simplify.specs.declared.Answer.{Answer}
use Rattle.simplify.specs.Answer.{answer}
use Rattle.simplify.specs.Edit.{edit_verdict, edited_bytes, edit_answer, edit_table, edit_kept, Edited}
use Rattle.simplify.specs.Patch.{CanTake, CanPut, CanPatch, patch_answer, Patched}
use Rattle.simplify.proofs.Granted.{EditGranted, edit_granted}
use Rattle.simplify.proofs.FreshRun.{accepted_answer, refused_answer}

row_long : (t : List ℕ) (r : ℕ) → place r + LENGTH ≤ length t → length (take LENGTH (drop (place r) t)) ≡ LENGTH
row_long t r here = length-take-le LENGTH (drop (place r) t) (rw (length-drop (place r) t) (omega arith))

-- a run of stores over the whole of a list is what is stored
sets_whole : (l vs : List ℕ) → length vs ≡ length l → sets l 0 vs ≡ vs
sets_whole l vs e =
    sets-eq vs l 0 (rw zero-add (omega (arith, e))) ∙
    ap (λ (rest : List ℕ). vs ++ rest) (ap (λ (n : ℕ). drop n l) (zero-add (length vs) ∙ e) ∙ drop-length l) ∙ append-nil vs

pub row_taken : (t : List ℕ) (r at : ℕ) (old : List ℕ) {left : List ℕ} → CanTake t r old → at ≡ place r → left ≡ sets old 0 (take LENGTH (drop at t)) → left ≡ take LENGTH (drop (place r) t)
row_taken t r at old can is e =
    e ∙ ap (λ (k : ℕ). sets old 0 (take LENGTH (drop k t))) is ∙ sets_whole old (take LENGTH (drop (place r) t)) (row_long t r can.here ∙ sym can.long)

pub row_put : (t : List ℕ) (r at : ℕ) (bytes : List ℕ) {left : List ℕ} → CanPut t r bytes → at ≡ place r → left ≡ sets t at (take LENGTH (drop 0 bytes)) → left ≡ edited t r bytes
unfolding edited
row_put t r at bytes can is e = e ∙ ap₂ (λ (k : ℕ) (vs : List ℕ). sets t k vs) is (take_all LENGTH bytes (omega (arith, can.long)))

-- ---- the edit

module _ (t kept : List ℕ) (r : ℕ) (new : List ℕ) (limit : ℕ) where
  -- a refusal: both buffers are as they were
  refused_by : {v : Verdict} {a : Answer} → edit_verdict t kept r new limit ≡ v → (v.number ≡ 0 → ⊥) → a ≡ answer v.number v.row 0 0 0 → Edited t kept r new limit a t kept
  unfolding edit_answer edit_table edit_kept is_accepted
  refused_by e h is =
      let refused : (edit_verdict t kept r new limit).number ≡ 0 → ⊥ = λ z. h (ap (λ (u : Verdict). u.number) (sym e) ∙ z) in
      let nothing : eqb (edit_verdict t kept r new limit).number 0 ≡ false = ne_eqb _ 0 refused in
      record {
        answer_is = is ∙ ap (λ (u : Verdict). answer u.number u.row 0 0 0) (sym e) ∙ sym (refused_answer (edit_verdict t kept r new limit) _ _ _ refused);
        table_is = sym (rw nothing);
        kept_is = sym (rw nothing);
      }

  module _ {number : ℕ} (numbered : number ≡ first (edit_reasons t kept r new limit)) where
    pub edit_refused_lem : {a : Answer} → (number ≡ 0 → ⊥) → a ≡ answer number 0 0 0 0 → Edited t kept r new limit a t kept
    unfolding edit_verdict refuse
    edit_refused_lem h is =
        refused_by (given_refuses _ 0 (check_rows (edited t r new) (kept_verdict (edited t r new) (kept_part t kept) accepted)) (λ z. h (numbered ∙ z))) (λ z. h (numbered ∙ z))
        (is ∙ ap (λ (n : ℕ). answer n 0 0 0 0) numbered)

    module _ (z : number ≡ 0) where
      ready : EditReady t kept r new limit
      ready = edit_ready t kept r new limit (sym numbered ∙ z)

      pub edit_few : limit ≤ LIMIT
      edit_few = ready.few

      size : length t ≡ place (rows t)
      size = (good_head t ready.roomy.head).size

      here : place r + LENGTH ≤ length t
      here = room_in t ready.row size

      pub take_asks : CanTake t r (replicate LENGTH 0)
      take_asks = record { here = here; long = length-replicate {A = ℕ} LENGTH 0 }

      pub put_asks : CanPut t r new
      put_asks = record { here = here; long = ready.long }

      module _ {t' : List ℕ} (put : t' ≡ edited t r new) where
        long : length t' ≡ length t
        unfolding edited
        long = ap length put ∙ length-sets t (place r) new

        same_head : take HEADER t' ≡ take HEADER t
        unfolding edited
        same_head = ap (take HEADER) put ∙ take_stays t r new ready.long HEADER (header_below r)

        rows_same : rows t' ≡ rows t
        rows_same = same_rows t' t same_head

        head : first (head_reasons t') ≡ 0
        head = head_same t' t long same_head ∙ ready.roomy.head

        pub judge_asks : KeptThere t' kept
        judge_asks = record { head = head; room = rw long ready.roomy.room }

        parts : kept_part t kept ≡ kept_part t' kept
        unfolding kept_part
        parts = ap (λ (n : ℕ). take (place n) kept) (sym rows_same)

        module _ {old : List ℕ} (taken : old ≡ take LENGTH (drop (place r) t)) where
          pub back_asks : CanPut t' r old
          back_asks = record { here = rw long here; long = ap length taken ∙ row_long t r here }

          back : edited t' r old ≡ t
          unfolding edited
          back =
              ap₂ (λ (l vs : List ℕ). sets l (place r) vs) put (taken ∙ ap (λ (n : ℕ). take n (drop (place r) t)) (sym ready.long)) ∙
              sets_undone t (place r) new (rw ready.long here)

          module _ {v : Verdict} (judged : v ≡ check_rows t' (kept_verdict t' (kept_part t' kept) accepted)) where
            verdict_is : edit_verdict t kept r new limit ≡ v
            unfolding edit_verdict
            verdict_is =
                given_passes _ 0 _ (sym numbered ∙ z) ∙
                ap₂ (λ (l m : List ℕ). check_rows l (kept_verdict l m accepted)) (sym put) parts ∙ sym judged

            pub edited_refused : {t'' : List ℕ} {a : Answer} → (v.number ≡ 0 → ⊥) → t'' ≡ edited t' r old → a ≡ answer v.number v.row 0 0 0 → Edited t kept r new limit a t'' kept
            edited_refused h restored is = rw (restored ∙ back) (refused_by verdict_is h is)

            module _ (fine : v.number ≡ 0) where
              yes : is_accepted (edit_verdict t kept r new limit) ≡ true
              yes = accepted_is _ (ap (λ (u : Verdict). u.number) verdict_is ∙ fine)

              granted : EditGranted t kept r new limit
              granted = edit_granted t kept r new limit yes

              passes : check_table t' ≡ accepted
              passes = table_passes t' (kept_verdict t' (kept_part t' kept) accepted) head (ap (λ (u : Verdict). u.number) (sym judged) ∙ fine)

              -- with this limit, or another
              pub edit_patches : {most : ℕ} → most ≤ LIMIT → CanPatch t' old kept r most
              edit_patches few =
                  record {
                    table = passes;
                    row = rw rows_same ready.row;
                    long = ap length taken ∙ row_long t r here;
                    room = rw long ready.roomy.room;
                    right = ap₂ (λ (l m : List ℕ). kept_wrong l m) put (sym parts) ∙ granted.kept_right;
                    limited = few;
                  }

              pub edit_done : {a : Answer} {left : List ℕ} → Patched t' old kept r limit a left → Edited t kept r new limit a t' left
              unfolding edit_answer edit_table edit_kept patch_answer
              edit_done done =
                  record {
                    answer_is =
                        done.answer_is ∙ ap₂ (λ (b l : List ℕ). patch_answer limit b l r kept) back put ∙
                        sym (rw granted.verdict (accepted_answer _ _ _));
                    table_is = put ∙ sym (pick_true (is_accepted (edit_verdict t kept r new limit)) (edited t r new) t yes);
                    kept_is =
                        done.kept_is ∙ ap₂ (λ (b l : List ℕ). edited_bytes limit b l r kept) back put ∙
                        sym (pick_true (is_accepted (edit_verdict t kept r new limit)) (edited_bytes limit t (edited t r new) r kept) kept yes);
                  }
