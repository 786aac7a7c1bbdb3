-- Marks: what marking one row changes, and that the ones of the words are the marked rows.
use Prim.Native.Nat.{ℕ, zero, suc, ◌+◌, ◌-◌, ◌*◌, ◌/◌, ◌%◌, ◌^◌, ◌≤◌, ◌<◌}
use native.Mathlib.Nat.{add-zero, one-mul, zero-mul, mod-eq_of_lt}
use native.Mathlib.Numerals.{add-one}
use native.Mathlib.Omega.{arith}
use mathlib.Core.Path.{◌≡◌, refl, ap, ap₂, sym, subst, ◌∙◌}
use mathlib.Core.Bool.{Bool, true, false, cond, ◌||◌}
use mathlib.Core.List.{List}
use Rattle.std.proofs.Common.{sum, map, take, take_all}
use Rattle.std.proofs.lemmas.Grind.{common_steps}
use lib.ListN.{length, get_or, set, length-set, replicate, get_or-replicate}
use lib.Seq.{get_or-set_same, get_or-set_other}
use lib.Bits.{or_lt, bit_and, bit_or, and_mask}
use lib.Count.{ones}
use lib.Dec.{eqb}
use mir.Val.{bool_byte}
use borrow.Author.Tests.{eqb-true, eqb-false}
use lib.Pow.{pow-lt}
use Rattle.basis.specs.Count.{count_where}
use Rattle.basis.proofs.Pick.{test_case, or_none}
use Rattle.basis.proofs.Counts.{count_add, count_same, count_constant}
use Rattle.table.specs.Refusals.{MOST}
use Rattle.marks.specs.Marks.{is_one, marked, none_beside, with_mark, ones_of, Words, Remarked}
use Rattle.marks.proofs.InWord.{one_or, none_of_zero, power_here, power_there, all_ones, ones_counted}

-- the bits that are added
abbrev added : ℕ → Bool → ℕ
added x passed = cond passed (2 ^ (x % 64)) 0

added_here : (x : ℕ) (passed : Bool) → is_one (added x passed) (x % 64) ≡ passed
added_here x true = power_here (x % 64)
added_here x false = none_of_zero (x % 64)

added_there : (x k : ℕ) (passed : Bool) → (x % 64 ≡ k → ⊥) → is_one (added x passed) k ≡ false
added_there x k true other = power_there (x % 64) k other
added_there x k false other = none_of_zero k

module _ (marks : List ℕ) (words : Words marks) (x : ℕ) (passed : Bool) (l : x < 1024) where
  abbrev after : List ℕ
  after = with_mark marks x passed

  word_there : x / 64 < length marks
  word_there = omega (arith, words.long)

  same_word_lem : (y : ℕ) → y / 64 ≡ x / 64 → marked after y ≡ (marked marks y || is_one (added x passed) (y % 64))
  unfolding marked with_mark
  same_word_lem y e =
      ap (λ (i : ℕ). is_one (get_or (with_mark marks x passed) i 0) (y % 64)) e ∙
      ap (λ (w : ℕ). is_one w (y % 64)) (get_or-set_same marks (x / 64) _ 0 word_there) ∙
      one_or (get_or marks (x / 64) 0) (added x passed) (y % 64) ∙
      ap (λ (i : ℕ). is_one (get_or marks i 0) (y % 64) || is_one (added x passed) (y % 64)) (sym e)

  pub mark_here : marked after x ≡ (marked marks x || passed)
  mark_here = same_word_lem x refl ∙ ap (λ (b : Bool). marked marks x || b) (added_here x passed)

  pub mark_there : (y : ℕ) → (y ≡ x → ⊥) → marked after y ≡ marked marks y
  unfolding marked with_mark
  mark_there y other =
      test_case (eqb (y / 64) (x / 64))
      (λ (t : eqb (y / 64) (x / 64) ≡ true).
      let e : y / 64 ≡ x / 64 = eqb-true (y / 64) (x / 64) t in
      let apart : x % 64 ≡ y % 64 → ⊥ = λ same. other (omega arith) in
      same_word_lem y e ∙ ap (λ (b : Bool). marked marks y || b) (added_there x (y % 64) passed apart) ∙ or_none (marked marks y))
      (λ (t : eqb (y / 64) (x / 64) ≡ false).
      ap (λ (w : ℕ). is_one w (y % 64)) (get_or-set_other marks (x / 64) (y / 64) _ 0 (eqb-false (y / 64) (x / 64) t)))

-- where a word has no ones, no row that has its mark there is marked
pub none_beside_lem : (marks : List ℕ) (x y : ℕ) → none_beside marks x ≡ true → y / 64 ≡ x / 64 → marked marks y ≡ false
unfolding none_beside marked
none_beside_lem marks x y none same = rw (same, eqb-true (get_or marks (x / 64) 0) 0 none) (none_of_zero (y % 64))

-- ---- how many

bits : (marks : List ℕ) (n b : ℕ) → b < 64 → is_one (get_or marks n 0) b ≡ marked marks (64 * n + b)
unfolding marked
bits marks n b h =
    let word : n ≡ (64 * n + b) / 64 = omega arith in
    let place : b ≡ (64 * n + b) % 64 = omega arith in
    ap₂ (λ (i k : ℕ). is_one (get_or marks i 0) k) word place

-- the ones of the first n words are the marked ones of the first 64n rows
pub ones_marked : (marks : List ℕ) → Words marks → (n : ℕ) → ones_of marks n ≡ count_where (marked marks) (64 * n)
unfolding ones_of count_where
ones_marked marks words zero = refl
ones_marked marks words (suc n) =
    let next : 64 * n + 64 ≡ 64 * suc n = omega arith in
    ap₂ (λ (a b : ℕ). a + b) (ones_marked marks words n)
    (ap ones (sym (mod-eq_of_lt (words.fit n))) ∙ ones_counted (get_or marks n 0) 64 ∙
    count_same (is_one (get_or marks n 0)) (λ b. marked marks (64 * n + b)) 64 (bits marks n)) ∙
    sym (count_add (marked marks) (64 * n) 64) ∙
    ap (count_where (marked marks)) next

-- where the rows from n on are not marked, the marked rows are those of the first n
pub rows_below : (marks : List ℕ) (n : ℕ) → n ≤ MOST → ((x : ℕ) → n ≤ x → x < MOST → marked marks x ≡ false) → count_where (marked marks) MOST ≡ count_where (marked marks) n
rows_below marks n few none =
    let whole : MOST ≡ n + (1024 - n) = omega arith in
    ap (count_where (marked marks)) whole ∙
    count_add (marked marks) n (1024 - n) ∙
    ap (λ (k : ℕ). count_where (marked marks) n + k) (count_constant false (λ x. marked marks (n + x)) (1024 - n) (λ x l. none (n + x) (omega arith) (omega arith))) ∙
    add-zero (count_where (marked marks) n)

-- and they are as many as the ones
pub ones_below : (marks : List ℕ) → Words marks → (n : ℕ) → n ≤ 1024 → ((x : ℕ) → n ≤ x → x < 1024 → marked marks x ≡ false) → ones_of marks 16 ≡ count_where (marked marks) n
ones_below marks words n few none = ones_marked marks words 16 ∙ rows_below marks n few none

-- ---- no row marked, and every row

pub none_marked : (x : ℕ) → x < 1024 → marked (replicate 16 0) x ≡ false
unfolding marked
none_marked x l = ap (λ (w : ℕ). is_one w (x % 64)) (get_or-replicate 16 (x / 64) 0 0 (omega arith)) ∙ none_of_zero (x % 64)

pub all_marked : (x : ℕ) → x < 1024 → marked (replicate 16 (2 ^ 64 - 1)) x ≡ true
unfolding marked
all_marked x l =
    let whole : 64 ≡ suc (63 - x % 64) + x % 64 = omega arith in
    ap (λ (w : ℕ). is_one w (x % 64)) (get_or-replicate 16 (x / 64) (2 ^ 64 - 1) 0 (omega arith) ∙ ap (λ (n : ℕ). 2 ^ n - 1) whole) ∙
    all_ones (63 - x % 64) (x % 64)

-- ---- the ways out

pub test_told : (marks : List ℕ) (x : ℕ) → eqb (bit_and (get_or marks (x / 64) 0 / 2 ^ bit_and x 63) 1) 1 ≡ marked marks x
unfolding marked is_one
test_told marks x =
    ap (λ (k : ℕ). eqb (bit_and (get_or marks (x / 64) 0 / 2 ^ k) 1) 1) (and_mask x 6) ∙
    ap (λ (n : ℕ). eqb n 1) (and_mask (get_or marks (x / 64) 0 / 2 ^ (x % 64)) 1)

pub beside_told : (marks : List ℕ) (x : ℕ) → eqb (get_or marks (x / 64) 0) 0 ≡ none_beside marks x
unfolding none_beside
beside_told marks x = refl

shifted : (x : ℕ) (passed : Bool) → bool_byte passed * 2 ^ bit_and x 63 % 2 ^ 64 ≡ added x passed
shifted x true =
    ap (λ (k : ℕ). 1 * 2 ^ k % 2 ^ 64) (and_mask x 6) ∙ ap (λ (n : ℕ). n % 2 ^ 64) (one-mul (2 ^ (x % 64))) ∙
    mod-eq_of_lt (pow-lt (let l : x % 64 < 64 = omega arith in l))
shifted x false = ap (λ (n : ℕ). n % 2 ^ 64) (zero-mul (2 ^ bit_and x 63))

pub or_fits : (a b : ℕ) → a < 2 ^ 64 → b < 2 ^ 64 → bit_or a b < 2 ^ 64
or_fits a b h k = or_lt 64 a b h k

-- a word that is written fits
pub words_set : (marks : List ℕ) → Words marks → (i word : ℕ) → i < 16 → word < 2 ^ 64 → Words (set marks i word)
words_set marks words i word l fits =
    record {
      long = length-set marks i word ∙ words.long;
      fit = λ j.
          test_case (eqb i j)
          (λ (t : eqb i j ≡ true).
          subst (λ (n : ℕ). get_or (set marks i word) n 0 < 2 ^ 64) (eqb-true i j t)
          (subst (λ (n : ℕ). n < 2 ^ 64) (sym (get_or-set_same marks i word 0 (omega (arith, words.long)))) fits))
          (λ (t : eqb i j ≡ false). rw (get_or-set_other marks i j word 0 (λ same. eqb-false i j t (sym same))) (words.fit j));
    }

module _ (marks : List ℕ) (x : ℕ) (passed : Bool) (words : Words marks) (l : x < MOST) where
  set_is : set marks (x / 64) (bit_or (get_or marks (x / 64) 0) (bool_byte passed * 2 ^ bit_and x 63 % 2 ^ 64)) ≡ with_mark marks x passed
  unfolding with_mark
  set_is = ap (λ (b : ℕ). set marks (x / 64) (bit_or (get_or marks (x / 64) 0) b)) (shifted x passed)

  pub mark_told : Remarked marks x passed (set marks (x / 64) (bit_or (get_or marks (x / 64) 0) (bool_byte passed * 2 ^ bit_and x 63 % 2 ^ 64)))
  mark_told =
      record {
        is = set_is;
        here = ap (λ (m : List ℕ). marked m x) set_is ∙ mark_here marks words x passed l;
        there = λ y other. ap (λ (m : List ℕ). marked m y) set_is ∙ mark_there marks words x passed l y other;
      }

-- ---- the sum of ones

take_next : (marks : List ℕ) (n : ℕ) → n < length marks → sum (map ones (take (n + 1) marks)) ≡ sum (map ones (take n marks)) + ones (get_or marks n 0)
take_next marks n l = Prim.grind (arith, common_steps)

-- the ones of the first n words, as a sum
ones_sum : (marks : List ℕ) (n : ℕ) → n ≤ length marks → sum (map ones (take n marks)) ≡ ones_of marks n
unfolding ones_of
ones_sum marks zero l = refl
ones_sum marks (suc n) l = rw (← add-one) (take_next marks n (omega arith)) ∙ ap (λ (k : ℕ). k + ones (get_or marks n 0)) (ones_sum marks n (omega arith))

module _ (marks : List ℕ) (words : Words marks) {count : ℕ} (is : count ≡ sum (map ones marks)) where
  pub ones_told : count ≡ ones_of marks 16
  ones_told =
      is ∙ ap (λ (m : List ℕ). sum (map ones m)) (sym (take_all 16 marks (omega (arith, words.long)))) ∙ ones_sum marks 16 (omega (arith, words.long))

  pub rows_told : count ≡ count_where (marked marks) MOST
  rows_told = ones_told ∙ ones_marked marks words 16
