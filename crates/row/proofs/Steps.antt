-- The ways out of the code of rows, each over the facts that its place holds.
use Prim.Native.Nat.{ℕ, ◌+◌, ◌^◌}
use mathlib.Core.Path.{◌≡◌}
use mathlib.Core.List.{List}
use Rattle.in_bytes.specs.Numbers.{byte, number, Read}
use Rattle.row.specs.declared.Row.{Row}
use Rattle.row.specs.Names.{KIND, A, B, C, K, H, SOURCE, place}
use Rattle.row.specs.Bytes.{row, row_from, row_at, source_at, Decoded}

pub row_decoded : (t : List ℕ) (r at : ℕ) {kind a b c k h : ℕ} {x : Row} → at ≡ place r
    → Read (byte t (at + KIND)) 256 kind
    → Read (number 2 t (at + A)) (256 ^ 2) a → Read (number 2 t (at + B)) (256 ^ 2) b → Read (number 2 t (at + C)) (256 ^ 2) c
    → Read (number 8 t (at + K)) (256 ^ 8) k → Read (number 8 t (at + H)) (256 ^ 8) h
    → x ≡ row kind a b c k h → Decoded t r x
unfolding row_at row_from
row_decoded t r at {kind} {a} {b} {c} {k} {h} e kind_is a_is b_is c_is k_is h_is x-is =
    rw x-is (record {
      is = rw (← e) (λ i. row (kind_is.is i) (a_is.is i) (b_is.is i) (c_is.is i) (k_is.is i) (h_is.is i));
      small = record {
        kind = kind_is.below;
        a = a_is.below;
        b = b_is.below;
        c = c_is.below;
        k = k_is.below;
        h = h_is.below;
      };
    })

pub source_read : (t : List ℕ) (r at : ℕ) {s : ℕ} → at ≡ place r → Read (number 4 t (at + SOURCE)) (256 ^ 4) s → Read (source_at t r) (2 ^ 32) s
unfolding source_at
source_read t r at e read = rw (← e) read
