-- The ways out of one turn of the loop.
use Prim.Native.Nat.{ℕ, ◌+◌, ◌*◌, ◌^◌, ◌≤◌, ◌<◌}
use Rattle.range.specs.declared.Range.{Range}
use native.Mathlib.Nat.{mul-le-mul}
use native.Mathlib.Omega.{arith}
use mathlib.Core.Path.{◌≡◌, ap, sym, ◌∙◌}
use mathlib.Core.Bool.{Bool, true, false, cond, not, ◌&&◌}
use mathlib.Core.List.{List}
use lib.Dec.{eqb}
use lib.ListN.{length}
use mir.Syntax.{w64}
use mir.Val.{Fits}
use Rattle.basis.specs.Count.{count_where}
use Rattle.basis.proofs.Counts.{count_most}
use native.Mathlib.Numerals.{add-one}
use Rattle.row.specs.Names.{READ}
use Rattle.row.proofs.Places.{room_below}
use Rattle.names.specs.Slots.{Slots, CanFind, Found}
use Rattle.row.specs.Bytes.{row_at}
use Rattle.term.specs.Term.{is_read}
use Rattle.term.specs.Result.{removed_rows}
use Rattle.term.specs.Bytes.{look}
use Rattle.term.proofs.Rows.{read_term}
use Rattle.term.proofs.Compared.{compared_rows_most}
use Rattle.rules.specs.Written.{CanWrite, Written}
use Rattle.marks.specs.Marks.{marked}
use Rattle.renew.specs.declared.Counts.{Counts}
use Rattle.renew.specs.Renew.{outcome, CanTurn, Turned, CanRenew, Renewed}
use Rattle.renew.proofs.Renewing.{Renewing, begun, can_write, turned, finished, same_size}

-- a READ is told by its kind
pub read_told : (t : List ℕ) (x : ℕ) {kind : ℕ} → kind ≡ (row_at t x).kind → eqb kind READ ≡ is_read (look t x)
unfolding look
read_told t x e = ap (λ (k : ℕ). eqb k READ) e ∙ sym (read_term (row_at t x))

module _ (t result : List ℕ) (x : ℕ) {b : Bool} (first : b ≡ is_read (look t x)) where
  pub removed_told : {c : Bool} → b ≡ true → c ≡ is_read (look result x) → not c ≡ (is_read (look t x) && not (is_read (look result x)))
  removed_told e second = sym (rw (sym first ∙ e, sym second))

  pub removed_none : b ≡ false → false ≡ (is_read (look t x) && not (is_read (look result x)))
  removed_none e = sym (rw (sym first ∙ e))

at_most : (b : Bool) → cond b 1 0 ≤ 1
at_most true = omega arith
at_most false = omega arith

-- ---- a turn

module _ (T R : List ℕ) (S : List Range) (marks : List ℕ) (w r first : ℕ) (can : CanTurn T R S marks w r first) where
  pub turn_asks : {b : Bool} → b ≡ marked marks r → CanWrite T R S w r first b
  turn_asks e = rw e can.can

  pub turn_done : {b : Bool} → b ≡ marked marks r → {R' : List ℕ} {S' : List Range} {limit number : ℕ} → Written T R R' S S' w limit r b number →
      {c : Bool} {one : ℕ} → c ≡ (is_read (look T r) && not (is_read (look R' r))) → one ≡ cond c 1 0 →
      Turned T R R' S S' marks w limit r (record { removed = one; compared = number })
  turn_done mark done e f = record { written = rw mark at done; removed = f ∙ ap (λ (d : Bool). cond d 1 0) e }

-- ---- the loop

-- the rounds so far, and the slots of the names met
pub record Rounds (T R₀ marks : List ℕ) (w limit n r : ℕ) (R : List ℕ) (S : List Range) (slots : List ℕ) (removed compared : ℕ) : Type 0 where
  pub at : Renewing T R₀ marks w limit n r R S removed compared
  pub valid : Slots T slots r

pub rounds_begun : (T R : List ℕ) (S : List Range) (marks : List ℕ) (w limit n : ℕ) → CanRenew T R S marks w limit n → {slots : List ℕ} → ((t : List ℕ) → Slots t slots 0) →
    Rounds T R marks w limit n 0 R S slots 0 0
rounds_begun T R S marks w limit n can valid = record { at = begun T R S marks w limit n can; valid = valid T }

module _ (T R₀ : List ℕ) (S₀ : List Range) (marks : List ℕ) (w limit n : ℕ) (can : CanRenew T R₀ S₀ marks w limit n)
    {r : ℕ} {R : List ℕ} {S : List Range} {slots : List ℕ} {removed compared : ℕ} (rounds : Rounds T R₀ marks w limit n r R S slots removed compared) (l : r < n) where
  pub loop_finds : CanFind T slots r
  loop_finds =
      let few : n ≤ 1024 = can.few in
      record { here = omega (arith, room_below l, can.table_room); few = omega arith; valid = rounds.valid }

  module _ {first : ℕ} {slots' : List ℕ} (found : Found T r first slots') where
    pub loop_asks : CanTurn T R S marks w r first
    loop_asks = record { can = can_write T R₀ S₀ marks w limit n can rounds.at l found.is }

    module _ {R' : List ℕ} {S' : List Range} {counts : Counts} (done : Turned T R R' S S' marks w limit r counts) where
      pub removed_fits : Fits w64 (removed + counts.removed)
      unfolding removed_rows
      removed_fits =
          let few : n ≤ 1024 = can.few in
          let most : counts.removed ≤ 1 = rw done.removed (at_most (is_read (look T r) && not (is_read (look R' r)))) in
          let counted : removed ≤ r =
          rw rounds.at.counted (count_most (λ x. is_read (look T x) && not (is_read (outcome T R₀ (marked marks) w limit n x))) r) in
          record { fits = omega arith }

      pub loop_next : Rounds T R₀ marks w limit n (r + 1) R' S' slots' (removed + counts.removed) (compared + counts.compared)
      loop_next =
          record {
            at =
                turned T R₀ S₀ marks w limit n can rounds.at l R' S' done.written (removed + counts.removed)
                (ap (λ (k : ℕ). removed + k) done.removed);
            valid = rw (add-one r) found.valid;
          }

      -- no more than `limit` stores in each of the rows so far
      pub compared_fits : Fits w64 (compared + counts.compared)
      compared_fits =
          let few : n ≤ 1024 = can.few in
          let tests : ℕ → Bool = λ x. marked marks x && is_read (look T x) in
          let most : compared + counts.compared ≤ limit * count_where tests (r + 1) =
          rw loop_next.at.summed (compared_rows_most (2 ^ w) limit (marked marks) (look T) (outcome T R₀ (marked marks) w limit n) (r + 1)) in
          let rows : count_where tests (r + 1) ≤ r + 1 = count_most tests (r + 1) in
          let all : limit * count_where tests (r + 1) ≤ 1024 * 1024 = mul-le-mul {m₂ = 1024} can.limited (omega arith) in
          record { fits = omega arith }

module _ {T R₀ marks : List ℕ} {w limit n r : ℕ} {R : List ℕ} {S : List Range} {slots : List ℕ} {removed compared : ℕ} (rounds : Rounds T R₀ marks w limit n r R S slots removed compared) where
  pub loop_same_size : length R ≡ length R₀
  loop_same_size = same_size rounds.at

  pub loop_done : n ≤ r → Renewed T R₀ marks w limit n R S (record { removed = removed; compared = compared })
  loop_done = finished rounds.at
