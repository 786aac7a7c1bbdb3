-- The ways out of a question: what is told is the promise.
use Prim.Native.Nat.{ℕ, ◌+◌, ◌^◌, ◌≤◌, ◌<◌}
use native.Mathlib.Omega.{arith}
use native.Mathlib.Nat.{le_refl}
use lib.Pow.{pow_pos}
use mathlib.Core.Path.{◌≡◌, refl, ap, subst, sym, ◌∙◌}
use mathlib.Core.Bool.{Bool, true, false}
use mathlib.Core.List.{List}
use lib.ListN.{length, take, replicate}
use lib.Seq.{length-take-le}
use lib.Dec.{eqb}
use borrow.Author.Tests.{ne_eqb}
use Rattle.basis.specs.Reason.{first}
use Rattle.basis.proofs.Pick.{pick_true}
use Rattle.range.specs.declared.Range.{Range}
use Rattle.range.specs.Range.{point, Proper}
use Rattle.range.specs.Store.{kept}
use Rattle.range.proofs.Kept.{kept_new}
use Rattle.range.proofs.Spans.{span_proper}
use Rattle.row.specs.Names.{HEADER, LENGTH, place}
use Rattle.row.proofs.Places.{header_below, room_in}
use Rattle.in_bytes.specs.Numbers.{Read}
use Rattle.std.specs.Prelude.{Result, Ok, Err, IsErrAnd}
use Rattle.table.specs.declared.Refusal.{Refusal}
use Rattle.table.specs.Verdict.{Verdict}
use Rattle.table.specs.Refusals.{width, rows, MOST, accepted, refuse, check_rows}
use Rattle.table.proofs.Faulty.{given_passes, given_refuses}
use Rattle.table.proofs.Heads.{good_head}
use Rattle.term.specs.declared.Reason.{Reason}
use Rattle.term.specs.declared.Reason.TheVariants.{Undecided}
use Rattle.term.specs.Term.{is_array}
use Rattle.term.specs.Base.{base, same_base}
use Rattle.term.specs.Relation.{range_of}
use Rattle.term.specs.Reason.{reason}
use Rattle.term.specs.Bytes.{look}
use Rattle.term.proofs.Reasons.{reason_agree}
use Rattle.walks.specs.declared.value.Value.{Value}
use Rattle.walks.specs.Value.{value_at, agree}
use Rattle.walks.specs.Ready.{Reached}
use Rattle.walks.proofs.Relations.{agree_bases}
use Rattle.judge.specs.Verdict.{is_accepted}
use Rattle.judge.specs.Kept.{kept_part, kept_verdict}
use Rattle.judge.specs.Ask.{pair_reasons, array_verdict}
use Rattle.judge.specs.Judge.{PairThere}
use Rattle.judge.proofs.Granted.{WordsGranted, pair_ready, words_granted, words_accepted}
use Rattle.judge.proofs.Right.{right_sorts, right_formed}
use Rattle.simplify.specs.declared.Answer.{Answer}
use Rattle.simplify.specs.Answer.{modulus, answer}
use Rattle.needed.specs.Needed.{Word, TwoWords, Blank, TwoKept}
use Rattle.question.specs.declared.Comparison.{Comparison}
use Rattle.question.specs.Ask.{ask_verdict, kept_rows, ask_reason, compared, comparison_of, ask_answer}

pub compared_is : (number row : ℕ) (why : Reason) {a : Answer} → a ≡ answer number row 0 0 0 → ◌≡◌ {A = Comparison} (record { answer = a; why = why }) (compared number row why)
unfolding compared
compared_is number row why e = λ i. record { answer = e i; why = why }

-- what a `?` hands on
pub comparison_on : (r : Result Reason Refusal) (refusal : Refusal) {c : Comparison} → IsErrAnd r (λ e. e ≡ refusal) → comparison_of (Err refusal) ≡ c → comparison_of r ≡ c
comparison_on (Ok _) refusal h e = absurd h
comparison_on (Err x) refusal h e = ap (λ (f : Refusal). comparison_of (Err f)) h ∙ e

-- ---- why, of two word rows

-- a new store: each range is the word 0
pub blank : (w : ℕ) → Blank w (replicate 1024 (point 0))
unfolding point
blank w =
    record {
      proper = λ x. subst (Proper (2 ^ w)) (sym (kept_new 1024 x)) (span_proper (2 ^ w) 0 0 (le_refl 0) (pow_pos w));
    }

module _ (R : List ℕ) (w x y : ℕ) (two : TwoWords R w x y) where
  pub why_first : place x + LENGTH ≤ length R
  why_first = two.first_row.there.room

  pub why_second : place y + LENGTH ≤ length R
  why_second = two.second_row.there.room

  pub why_reached : Reached R x
  why_reached = two.first_row.there

  pub why_reached_second : Reached R y
  why_reached_second = two.second_row.there

  abbrev told : Reason
  told = reason (look R) (range_of (2 ^ w) (look R)) x y

  -- on a shared base the ranges play no part
  pub why_shared : (S : List Range) {u v : Value} {b : Bool} {r : Reason} → u ≡ value_at (look R) x → v ≡ value_at (look R) y → b ≡ agree u v → b ≡ true →
      r ≡ reason (look R) (kept S) x y → r ≡ told
  unfolding reason
  why_shared S eu ev e t is =
      let shared : same_base (base (look R) x) (base (look R) y) ≡ true =
      sym (agree_bases (look R) x y) ∙ sym (rw (eu, ev) at e) ∙ t in
      is ∙ pick_true _ _ _ shared ∙ sym (pick_true _ _ _ shared)

  pub why_kept : {S : List Range} → {r : Reason} → TwoKept R w x y S → r ≡ reason (look R) (kept S) x y → r ≡ told
  why_kept {S} done is =
      is ∙ reason_agree (look R) (look R) (kept S) (range_of (2 ^ w) (look R)) x y refl refl done.first_range done.second_range

-- ---- the question

module _ (t kept : List ℕ) (x y : ℕ) where
  -- a refusal
  refused_by : {v : Verdict} {c : Comparison} → ask_verdict t kept x y ≡ v → (v.number ≡ 0 → ⊥) → c ≡ compared v.number v.row Undecided → c ≡ ask_answer t kept x y
  unfolding ask_answer ask_reason is_accepted
  refused_by {v} e h is =
      let none : eqb (ask_verdict t kept x y).number 0 ≡ false = ne_eqb _ 0 (λ z. h (ap (λ (u : Verdict). u.number) (sym e) ∙ z)) in
      is ∙ ap (λ (u : Verdict). compared u.number u.row Undecided) (sym e) ∙ sym (rw none)

  module _ {number : ℕ} (paired : number ≡ first (pair_reasons t kept x y)) where
    pub ask_pair : {c : Comparison} → (number ≡ 0 → ⊥) → c ≡ compared number 0 Undecided → c ≡ ask_answer t kept x y
    unfolding ask_verdict refuse
    ask_pair h is = refused_by (given_refuses _ 0 _ (λ z. h (paired ∙ z))) (λ z. h (paired ∙ z)) (is ∙ ap (λ (n : ℕ). compared n 0 Undecided) paired)

    module _ (z : number ≡ 0) where
      pub ask_there : PairThere t kept x y
      ask_there = pair_ready t kept x y (sym paired ∙ z)

      module _ {v : Verdict} (judged : v ≡ check_rows t (kept_verdict t (kept_part t kept) (array_verdict t x y))) where
        verdict_is : ask_verdict t kept x y ≡ v
        unfolding ask_verdict
        verdict_is = given_passes _ 0 _ (sym paired ∙ z) ∙ sym judged

        pub ask_words : {c : Comparison} → (v.number ≡ 0 → ⊥) → c ≡ compared v.number v.row Undecided → c ≡ ask_answer t kept x y
        ask_words h is = refused_by verdict_is h is

        module _ (fine : v.number ≡ 0) where
          passed : (check_rows t (kept_verdict t (kept_part t kept) (array_verdict t x y))).number ≡ 0
          passed = ap (λ (u : Verdict). u.number) (sym judged) ∙ fine

          granted : WordsGranted t kept x y
          granted = words_granted t kept x y passed

          size : length t ≡ place (rows t)
          size = (good_head t ask_there.there.head).size

          room : length t ≤ length kept
          room = ask_there.there.room

          pub ask_long : length t ≡ length (take (length t) kept)
          ask_long = sym (length-take-le (length t) kept room)

          pub ask_header : HEADER ≤ length t
          ask_header = rw size (header_below (rows t))

          pub ask_width : width t ≤ 64
          ask_width = (good_head t ask_there.there.head).width_high

          part_is : take (length t) kept ≡ kept_part t kept
          unfolding kept_part
          part_is = ap (λ (n : ℕ). take n kept) size

          word : {u : ℕ} → u < rows t → is_array (look t u) ≡ false → Word (kept_part t kept) u
          unfolding kept_part
          word {u} l sort =
              let few : rows t ≤ MOST = (good_head t ask_there.there.head).few in
              let up : place u + LENGTH ≤ length t = room_in t l size in
              record {
                there = record { few = omega arith; room = rw (length-take-le (place (rows t)) kept (rw (← size) room), ← size) up };
                sort = right_sorts t (kept_part t kept) granted.right u l ∙ sort;
              }

          pub ask_two : {w : ℕ} → Read (width t) 256 w → TwoWords (take (length t) kept) w x y
          ask_two {w} is =
              rw (part_is, is.is)
              (record {
                formed = right_formed t (kept_part t kept) granted.right;
                first_row = word ask_there.first_row granted.first_word;
                second_row = word ask_there.second_row granted.second_word;
              })

          accepts : ask_verdict t kept x y ≡ accepted
          accepts = verdict_is ∙ judged ∙ words_accepted t kept x y passed

          pub ask_done : {w : ℕ} → Read (width t) 256 w → {r : Reason} →
              r ≡ reason (look (take (length t) kept)) (range_of (2 ^ w) (look (take (length t) kept))) x y →
              {c : Comparison} → c ≡ compared 0 0 r → c ≡ ask_answer t kept x y
          unfolding ask_answer ask_reason kept_rows modulus is_accepted accepted refuse
          ask_done {w} wide {r} said is =
              let told_is : r ≡ reason (look (kept_part t kept)) (range_of (2 ^ width t) (look (kept_part t kept))) x y = rw (part_is, wide.is) at said in
              is ∙ ap (compared 0 0) told_is ∙ sym (rw accepts)
