-- Outcomes in bytes: the result of an accepted table is an accepted table, and is looked up as the rows that were put there, at every row.
use Prim.Native.Nat.{ℕ, ◌^◌, ◌≤◌, ◌<◌}
use native.Mathlib.Decide.{dec_lt}
use native.Mathlib.Omega.{arith}
use mathlib.Core.Path.{◌≡◌, sym, ap, ◌∙◌}
use mathlib.Core.Bool.{Bool, true, false, true≢false}
use mathlib.Core.Logic.{dite}
use mathlib.Core.List.{List}
use lib.ListN.{length, take}
use lib.Seq.{length-take-le}
use lib.Pow.{pow_pos}
use Rattle.basis.proofs.Pick.{pick_case}
use Rattle.row.specs.Names.{HEADER, place}
use Rattle.row.proofs.Places.{place_grows}
use Rattle.table.specs.Refusals.{width, rows}
use Rattle.table.specs.Accepted.{Accepted}
use lib.Dec.{lit<}
use Rattle.term.specs.Term.{Term, const, stated_by}
use Rattle.term.specs.Relation.{range_of}
use Rattle.term.specs.Seen.{seen}
use Rattle.term.specs.Rule.{rule}
use Rattle.term.specs.Result.{rule_at, simplified, renewed, result}
use Rattle.term.specs.WellFormed.{WellFormed}
use Rattle.term.specs.Bytes.{look, put_rows}
use Rattle.term.proofs.Names.{NamesBelow}
use Rattle.term.proofs.Renewed.{renewed_eq, renewed_all}
use Rattle.term.proofs.WellFormed.{formed_below, result_formed, result_states}
use Rattle.term.proofs.Seen.{seen_alone, seen_small, by_name_bare}
use Rattle.term.proofs.Placed.{length_put_rows}
use Rattle.term.proofs.Looked.{look_past, name_small, cut_look, look_put_rows}
use Rattle.term.proofs.Accepted.{accepted_formed}
use Rattle.term.proofs.Acceptable.{OneEach, accepted_head, rows_small, put_accepted}

table_end : (t : List ℕ) → Accepted t → (x : ℕ) → (x < rows t → ⊥) → length t ≤ place x
table_end t ok x l = let size : length t ≡ place (rows t) = ok.head.size in rw size (place_grows (omega arith))

-- rows past the end are CONST 0, before and after
past : (M limit : ℕ) (touched : ℕ → Bool) (t kept : ℕ → Term) → NamesBelow t → NamesBelow kept →
    (x : ℕ) → t x ≡ const 0 → kept x ≡ const 0 → renewed M limit touched t kept x ≡ const 0
unfolding simplified rule_at rule stated_by
past M limit touched t kept low low-kept x e e' =
    renewed_eq M limit touched t kept low (λ y d. low-kept y) x ∙
    pick_case (λ (u : Term). u ≡ const 0) (touched x)
    (λ (d : touched x ≡ true). by_name_bare t x (ap stated_by e) _ ∙ ap (rule M limit (renewed M limit touched t kept) (range_of M (renewed M limit touched t kept))) e)
    (λ (d : touched x ≡ false). e')

-- where the cut of a table's rows ends
cut_end : (s : List ℕ) (n x : ℕ) → place n ≤ length s → (x < n → ⊥) → length (take (place n) s) ≤ place x
cut_end s n x r l = rw (length-take-le (place n) s r) (place_grows (omega arith))

states : (limit : ℕ) (t : List ℕ) → Accepted t → (x : ℕ) → stated_by (result (2 ^ width t) limit (look t) x) ≡ stated_by (seen (look t) x)
states limit t ok = result_states (2 ^ width t) limit (pow_pos (width t)) (look t) (accepted_formed t ok)

-- the names of a result fit their fields
pub run_names_small : (limit : ℕ) (t : List ℕ) → Accepted t → (x : ℕ) → stated_by (result (2 ^ width t) limit (look t) x) < 65536
run_names_small limit t ok x = rw (states limit t ok x) (seen_small (look t) 65536 (lit< tt) (name_small t) x)

-- a table t, and a buffer that has its header: a fresh run
module _
    (limit : ℕ)
    (t buffer : List ℕ)
    (ok : Accepted t)
    (room : place (rows t) ≤ length buffer)
    (same : take HEADER buffer ≡ take HEADER t)
  where
    abbrev fresh_out : ℕ → Term
    fresh_out = result (2 ^ width t) limit (look t)

    pub run_formed : WellFormed (2 ^ width t) (result (2 ^ width t) limit (look t))
    run_formed = result_formed (2 ^ width t) limit (pow_pos (width t)) (look t) (accepted_formed t ok)

    run_alone : OneEach fresh_out
    run_alone x y l same named = seen_alone (look t) x y l (sym (states limit t ok y) ∙ same ∙ states limit t ok x) (λ e. named (states limit t ok x ∙ e))

    pub run_accepted : (source : ℕ → ℕ) → Accepted (take (place (rows t)) (put_rows (λ x. true) (result (2 ^ width t) limit (look t)) source (rows t) buffer))
    run_accepted source =
        put_accepted t buffer (λ x. true) fresh_out source (accepted_head t ok) same room run_formed run_alone (run_names_small limit t ok)
        (λ x l e. absurd (true≢false e)) (λ x l e. absurd (true≢false e))

    pub run_look : (source : ℕ → ℕ) (x : ℕ) →
        look (take (place (rows t)) (put_rows (λ y. true) (result (2 ^ width t) limit (look t)) source (rows t) buffer)) x ≡ result (2 ^ width t) limit (look t) x
    run_look source x =
        dite (dec_lt x (rows t))
        (λ (l : x < rows t).
        cut_look put (rows t) x l ∙
        look_put_rows (λ y. true) fresh_out source (rows t) buffer room
        (λ y k e. rows_small t buffer (λ z. true) fresh_out source (accepted_head t ok) same room run_formed run_alone (run_names_small limit t ok) y k) x l)
        (λ (l : x < rows t → ⊥).
        look_past (take (place (rows t)) put) x (cut_end put (rows t) x (rw (length_put_rows (λ y. true) fresh_out source (rows t) buffer) room) l) ∙
        sym (past (2 ^ width t) limit (λ y. true) (look t) (look t) low low x (look_past t x (table_end t ok x l)) (look_past t x (table_end t ok x l))) ∙
        renewed_all (2 ^ width t) limit (look t) low (look t) x)
      where
        put : List ℕ
        put = put_rows (λ y. true) fresh_out source (rows t) buffer

        low : NamesBelow (look t)
        low = formed_below (2 ^ width t) (look t) (accepted_formed t ok)
