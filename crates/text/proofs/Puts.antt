-- Texts written one behind the other.
use Prim.Native.Nat.{ℕ, ◌+◌, ◌*◌, ◌/◌, ◌%◌, ◌^◌, ◌≤◌, ◌<◌}
use native.Mathlib.Nat.{le_refl}
use native.Mathlib.Numerals.{add-one}
use native.Mathlib.Omega.{arith}
use mathlib.Core.Path.{◌≡◌, refl, ◌∙◌}
use mathlib.Core.List.{List, [], ◌∷◌, ◌++◌, append_assoc, append-nil}
use lib.ListN.{length, get_or, take, length-append}
use lib.Seq.{take-suc}
use Rattle.basis.proofs.Sets.{sets_append}
use Rattle.text.specs.declared.Text.{Text}
use Rattle.text.specs.Text.{decimal, spaced, Put, Wrote}
use Rattle.text.proofs.Decimal.{decimal_one, decimal_more, decimal_few}

-- any cap that holds the text will do, however it was written
pub put_capped : {l text m : List ℕ} {at r i k : ℕ} → Put l at text i m r → i ≤ k → Put l at text k m r
put_capped done cap = record { written = done.written; next = done.next; few = omega arith }

pub wrote_capped : {a b : Text} {text : List ℕ} {i k : ℕ} → Wrote a text i b → i ≤ k → Wrote a text k b
wrote_capped done cap = record { same = done.same; put = put_capped done.put cap }

pub wrote_within : {a b : Text} {text : List ℕ} {i k : ℕ} → Wrote a text i b → length text ≤ k → Wrote a text k b
wrote_within done cap = record {
  same = done.same;
  put = record { written = done.put.written; next = done.put.next; few = omega (arith, done.put.next) };
}

-- no text
pub wrote_none : (a : Text) → Wrote a [] 0 a
wrote_none a = record { same = refl; put = record { written = refl; next = omega arith; few = omega arith } }

-- two texts are one; any cap that holds both will do
pub wrote_then : {a b c : Text} {xs ys : List ℕ} {i j k : ℕ} → Wrote a xs i b → Wrote b ys j c → i + j ≤ k → Wrote a (xs ++ ys) k c
wrote_then {a} {xs = xs} {ys} first second cap = record {
  same = second.same ∙ first.same;
  put = record {
    written = rw (second.put.written, first.put.written, first.put.next) (sets_append a.out.now a.at xs ys);
    next = rw length-append (omega (arith, first.put.next, second.put.next));
    few = omega (arith, first.put.few, second.put.few);
  };
}

-- the first i bytes of a word, and one more
pub word_more : {a b c : Text} (word : List ℕ) (i : ℕ) → Wrote a (take i word) i b → Wrote b (get_or word i 0 ∷ []) 1 c → i < length word
    → Wrote a (take (i + 1) word) (i + 1) c
word_more word i done byte h = rw (add-one i, take-suc word i 0 h, ← add-one i) (wrote_then done byte (le_refl (i + 1)))

-- a number of one digit, and the last digit of one of more
pub decimal_short : {a b : Text} (v : ℕ) → v < 10 → Wrote a ((48 + v) ∷ []) 1 b → Wrote a (decimal v) 20 b
decimal_short v h byte = rw (decimal_one v h) (wrote_capped byte (omega arith))

pub decimal_longer : {a b c : Text} (v : ℕ) → v < 2 ^ 64 → 10 ≤ v → Wrote a (decimal (v / 10)) 20 b → Wrote b ((48 + v % 10) ∷ []) 1 c → Wrote a (decimal v) 20 c
decimal_longer v h more front byte = wrote_within {i = 21} (rw (decimal_more v h more) (wrote_then front byte (le_refl 21))) (decimal_few v)

-- the first i of some numbers, each with a space in front, and one more
spaced_append : (vs ws : List ℕ) → spaced (vs ++ ws) ≡ spaced vs ++ spaced ws
unfolding spaced
spaced_append [] ws = refl
spaced_append (v ∷ vs) ws = rw (append_assoc (32 ∷ decimal v) (spaced vs) (spaced ws), spaced_append vs ws)

pub spaced_more : {a b c d : Text} (vs : List ℕ) (i : ℕ) → Wrote a (spaced (take i vs)) (21 * i) b → Wrote b (32 ∷ []) 1 c → Wrote c (decimal (get_or vs i 0)) 20 d
    → i < length vs → Wrote a (spaced (take (i + 1) vs)) (21 * (i + 1)) d
unfolding spaced
spaced_more vs i done space number h =
    rw (add-one i, take-suc vs i 0 h, spaced_append, append-nil (32 ∷ decimal (get_or vs i 0)), ← add-one i)
    (wrote_then done (wrote_then space number (le_refl 21)) (omega arith))
