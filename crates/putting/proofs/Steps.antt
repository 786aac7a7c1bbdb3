-- The parts of a row, put one behind the other.
use Prim.Native.Nat.{ℕ, ◌+◌, ◌-◌}
use native.Mathlib.Nat.{add_assoc}
use mathlib.Core.Path.{◌≡◌, refl}
use mathlib.Core.List.{List, ◌++◌}
use lib.Seq.{sets}
use Rattle.basis.proofs.Sets.{sets_then}
use Rattle.in_bytes.specs.Numbers.{bytes}
use Rattle.row.specs.declared.Row.{Row}
use Rattle.row.specs.Names.{A, B, C, K, H, SOURCE, place}
use Rattle.row.specs.Bytes.{head_of, bytes_of, put_row}

pub references_put : (l : List ℕ) (at a b c : ℕ) {m n o : List ℕ}
    → m ≡ sets l (at + A) (bytes 2 a) → n ≡ sets m (at + B) (bytes 2 b) → o ≡ sets n (at + C) (bytes 2 c)
    → o ≡ sets l (at + A) (bytes 2 a ++ bytes 2 b ++ bytes 2 c)
unfolding bytes
references_put l at a b c {m} {n} p q s =
    sets_then l (at + A) (C - A) (bytes 2 a ++ bytes 2 b) (bytes 2 c) {m = n}
    (sets_then l (at + A) (B - A) (bytes 2 a) (bytes 2 b) {m = m} p (rw (add_assoc at A (B - A)) q) refl) (rw (add_assoc at A (C - A)) s) refl

pub values_put : (l : List ℕ) (at k h source : ℕ) {m n o : List ℕ}
    → m ≡ sets l (at + K) (bytes 8 k) → n ≡ sets m (at + H) (bytes 8 h) → o ≡ sets n (at + SOURCE) (bytes 4 source)
    → o ≡ sets l (at + K) (bytes 8 k ++ bytes 8 h ++ bytes 4 source)
unfolding bytes
values_put l at k h source {m} {n} p q s =
    sets_then l (at + K) (SOURCE - K) (bytes 8 k ++ bytes 8 h) (bytes 4 source) {m = n}
    (sets_then l (at + K) (H - K) (bytes 8 k) (bytes 8 h) {m = m} p (rw (add_assoc at K (H - K)) q) refl) (rw (add_assoc at K (SOURCE - K)) s) refl

pub row_put : (l : List ℕ) (r at : ℕ) (x : Row) (source : ℕ) {m n o : List ℕ} → at ≡ place r → m ≡ sets l at (head_of x.kind)
    → n ≡ sets m (at + A) (bytes 2 x.a ++ bytes 2 x.b ++ bytes 2 x.c)
    → o ≡ sets n (at + K) (bytes 8 x.k ++ bytes 8 x.h ++ bytes 4 source) → o ≡ put_row l r x source
unfolding put_row bytes_of head_of bytes
row_put l r at x source e head refs values =
    let top = head_of x.kind in
    let mid = bytes 2 x.a ++ bytes 2 x.b ++ bytes 2 x.c in
    rw (← e)
    (sets_then l at K (top ++ mid) (bytes 8 x.k ++ bytes 8 x.h ++ bytes 4 source) (sets_then l at A top mid head refs refl) values refl)
