-- The rules of word rows keep what a row means: a clause a rule, each one identity of words.
use Prim.Native.Nat.{ℕ, min, max, ◌≤◌, ◌<◌}
use mathlib.Core.Path.{◌≡◌, refl, sym, ap, ◌∙◌, subst, subst₂}
use mathlib.Core.Bool.{true}
use mathlib.Core.Logic.{dite}
use native.Mathlib.Nat.{min-eq_left, min-eq_right, max-eq_left, max-eq_right}
use native.Mathlib.Decide.{dec_le}
use native.Mathlib.Omega.{arith}
use Rattle.basis.proofs.Pick.{pick_case}
use Rattle.word.specs.Word.{plus, minus}
use Rattle.word.proofs.Words.{differences, same_difference, plus_below, minus_below, plus_comm, plus_assoc, plus_zero}
use Rattle.term.specs.Term.{Term}
use Rattle.term.specs.Base.{Base, Nothing, One, Sum, Difference, Negative, written, is_nothing, same_base, base, offset, open_to, open_by}
use Rattle.term.specs.Rule.{shift_rule, sum_rule, neg_by, neg_rule, diff_rule}
use Rattle.term.proofs.Bases.{same_base_lem, is_nothing_lem, open_case}
use Rattle.meaning.specs.Meaning.{Choice, Meaning, word_of}
use Rattle.meaning.proofs.Model.{Holds, Model}
use Rattle.meaning.proofs.Value.{negative_plus, total, base_val, written_holds}

-- a pair that stands lower number first
sorted_case : (P : ℕ → ℕ → Type 0) (x y : ℕ) → P x y → P y x → P (min x y) (max x y)
sorted_case P x y here there =
    dite (dec_le x y)
    (λ (l : x ≤ y). subst₂ P (sym (min-eq_left l)) (sym (max-eq_right l)) here)
    (λ (l : x ≤ y → ⊥). let m : y ≤ x = omega arith in subst₂ P (sym (min-eq_right m)) (sym (max-eq_left m)) there)

module _ (M : ℕ) (pos : 0 < M) where
  sum_left : (v p k : ℕ) → plus M v (plus M p k) ≡ plus M (plus M (plus M 0 p) v) k
  sum_left v p k = simp differences (same_difference M pos _ _ _ _ (omega arith))

  sum_right : (v q k : ℕ) → plus M v (plus M q k) ≡ plus M (plus M v (plus M 0 q)) k
  sum_right v q k = simp differences (same_difference M pos _ _ _ _ (omega arith))

  sum_open : (v w p q k : ℕ) → plus M (plus M v w) (plus M (plus M p q) k) ≡ plus M (plus M (plus M v p) (plus M w q)) k
  sum_open v w p q k = simp differences (same_difference M pos _ _ _ _ (omega arith))

  neg_nothing : (p k : ℕ) → plus M 0 (minus M k p) ≡ minus M k (plus M 0 p)
  neg_nothing p k = simp differences (same_difference M pos _ _ _ _ (omega arith))

  neg_one : (v p k : ℕ) → plus M (minus M 0 v) (minus M k p) ≡ minus M k (plus M v p)
  neg_one v p k = simp differences (same_difference M pos _ _ _ _ (omega arith))

  neg_negative : (v p k : ℕ) → plus M v (minus M k p) ≡ minus M k (plus M (minus M 0 v) p)
  neg_negative v p k = simp differences (same_difference M pos _ _ _ _ (omega arith))

  neg_difference : (v w p k : ℕ) → plus M (minus M w v) (minus M k p) ≡ minus M k (plus M (minus M v w) p)
  neg_difference v w p k = simp differences (same_difference M pos _ _ _ _ (omega arith))

  diff_same : (v p q k : ℕ) → plus M 0 (plus M (minus M p q) k) ≡ plus M (minus M (plus M v p) (plus M v q)) k
  diff_same v p q k = simp differences (same_difference M pos _ _ _ _ (omega arith))

  diff_right : (v q k : ℕ) → plus M v (minus M k q) ≡ plus M (minus M v (plus M 0 q)) k
  diff_right v q k = simp differences (same_difference M pos _ _ _ _ (omega arith))

  diff_left : (w p k : ℕ) → minus M (plus M k p) w ≡ plus M (minus M (plus M 0 p) w) k
  diff_left w p k = simp differences (same_difference M pos _ _ _ _ (omega arith))

  diff_open : (v w p q k : ℕ) → plus M (minus M v w) (plus M (minus M p q) k) ≡ plus M (minus M (plus M v p) (plus M w q)) k
  diff_open v w p q k = simp differences (same_difference M pos _ _ _ _ (omega arith))

module _ (M : ℕ) (choice : Choice) (f : ℕ → Term) (of : ℕ → Meaning) (model : Model M choice f of) where
  pos : 0 < M
  pos = model.pos

  -- term t, as row x, has the value v
  abbrev Worth : ℕ → Term → ℕ → Type 0
  Worth x t v = Holds M choice of x t (word_of v)

  pub worth : (x : ℕ) (t : Term) {u v : ℕ} → u ≡ v → Worth x t u → Worth x t v
  worth x t e h = subst (Worth x t) e h

  val : (a : ℕ) → (of a).value ≡ plus M (total M of (base f a)) (offset f a)
  val a = base_val M choice f of model a

  pub shift_holds : (x a k : ℕ) → Worth x (shift_rule M f a k) (plus M (of a).value k)
  unfolding shift_rule
  shift_holds x a k =
      worth x _ (rw (val a) (sym (plus_assoc M pos _ _ _)))
      (written_holds M choice of pos x (base f a) (plus M (offset f a) k) (plus_below M pos _ _))

  -- the value of a row whose base is known
  val_of : (a : ℕ) (d : Base) → base f a ≡ d → (of a).value ≡ plus M (total M of d) (offset f a)
  val_of a d e = val a ∙ ap (λ (d' : Base). plus M (total M of d') (offset f a)) e

  const_val : (a : ℕ) → is_nothing (base f a) ≡ true → (of a).value ≡ plus M 0 (offset f a)
  unfolding total
  const_val a e = val_of a Nothing (is_nothing_lem (base f a) e)

  -- what a row opens to has its value
  open_val : (a : ℕ) → (of a).value ≡ plus M (of (open_to f a)).value (open_by f a)
  unfolding total
  open_val a =
      open_case (λ y k. (of a).value ≡ plus M (of y).value k) f a
      (λ y e. val_of a (One y) e)
      (sym (plus_zero M pos (of a).value (model.words a)))

  sorted_total : (y z : ℕ) → plus M (of (min y z)).value (of (max y z)).value ≡ plus M (of y).value (of z).value
  sorted_total y z =
      sorted_case (λ l r. plus M (of l).value (of r).value ≡ plus M (of y).value (of z).value) y z refl
      (plus_comm M pos (of z).value (of y).value)

  pub sum_holds : (x a b k : ℕ) → Worth x (sum_rule M f a b k) (plus M (plus M (of a).value (of b).value) k)
  unfolding sum_rule total
  sum_holds x a b k =
      pick_case (λ s. Worth x s v) (is_nothing (base f a))
      (λ e. worth x _ (rw (const_val a e) (sum_left M pos (of b).value (offset f a) k)) (shift_holds x b _))
      (λ _.
      pick_case (λ s. Worth x s v) (is_nothing (base f b))
      (λ e. worth x _ (rw (const_val b e) (sum_right M pos (of a).value (offset f b) k)) (shift_holds x a _))
      (λ _.
      worth x _
      (rw (sorted_total (open_to f a) (open_to f b), open_val a, open_val b)
      (sum_open M pos (of (open_to f a)).value (of (open_to f b)).value (open_by f a) (open_by f b) k))
      (written_holds M choice of pos x _ _ (plus_below M pos _ _))))
    where
      v : ℕ
      v = plus M (plus M (of a).value (of b).value) k

  pub neg_holds : (x a k : ℕ) → k < M → Worth x (neg_rule M f a k) (minus M k (of a).value)
  unfolding neg_rule neg_by written total
  neg_holds x a k below = by (base f a) refl
    where
      by : (d : Base) → base f a ≡ d → Worth x (neg_by M f a k (offset f a) d) (minus M k (of a).value)
      by Nothing e =
          worth x _ (rw (val_of a Nothing e) (neg_nothing M pos (offset f a) k))
          (written_holds M choice of pos x Nothing _ (minus_below M pos _ _))
      by (One y) e =
          worth x _ (rw (val_of a (One y) e) (neg_one M pos (of y).value (offset f a) k))
          (written_holds M choice of pos x (Negative y) _ (minus_below M pos _ _))
      by (Negative y) e =
          worth x _ (rw (val_of a (Negative y) e) (neg_negative M pos (of y).value (offset f a) k)) (shift_holds x y _)
      by (Difference y z) e =
          worth x _ (rw (val_of a (Difference y z) e) (neg_difference M pos (of y).value (of z).value (offset f a) k))
          (written_holds M choice of pos x (Difference z y) _ (minus_below M pos _ _))
      by (Sum y z) e =
          worth x _ (sym (negative_plus M pos k (of a).value)) (written_holds M choice of pos x (Negative a) k below)

  pub diff_holds : (x a b k : ℕ) → Worth x (diff_rule M f a b k) (plus M (minus M (of a).value (of b).value) k)
  unfolding diff_rule written total
  diff_holds x a b k =
      pick_case (λ s. Worth x s v) (same_base (base f a) (base f b))
      (λ e.
      worth x _
      (rw (val_of a (base f b) (same_base_lem (base f a) (base f b) e), val b)
      (diff_same M pos (total M of (base f b)) (offset f a) (offset f b) k))
      (written_holds M choice of pos x Nothing _ (plus_below M pos _ _)))
      (λ _.
      pick_case (λ s. Worth x s v) (is_nothing (base f b))
      (λ e. worth x _ (rw (const_val b e) (diff_right M pos (of a).value (offset f b) k)) (shift_holds x a _))
      (λ _.
      pick_case (λ s. Worth x s v) (is_nothing (base f a))
      (λ e. worth x _ (rw (const_val a e) (diff_left M pos (of b).value (offset f a) k)) (neg_holds x b _ (plus_below M pos _ _)))
      (λ _.
      worth x _
      (rw (open_val a, open_val b)
      (diff_open M pos (of (open_to f a)).value (of (open_to f b)).value (open_by f a) (open_by f b) k))
      (written_holds M choice of pos x (Difference (open_to f a) (open_to f b)) _ (plus_below M pos _ _)))))
    where
      v : ℕ
      v = plus M (minus M (of a).value (of b).value) k
