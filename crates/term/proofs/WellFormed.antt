-- The result of a well formed table is well formed, and a word stays a word, an array an array.
use Prim.Native.Nat.{ℕ, ◌<◌}
use native.Mathlib.Nat.{lt_trans}
use mathlib.Core.Path.{◌≡◌, refl, sym, ap, ◌∙◌, subst}
use mathlib.Core.Bool.{Bool, true, false, cond}
use Rattle.basis.proofs.Builds.{from_below}
use Rattle.basis.proofs.Pick.{pick_case}
use Rattle.word.specs.Word.{plus, minus}
use Rattle.word.proofs.Words.{plus_below, minus_below}
use Rattle.range.specs.declared.Range.{Range}
use Rattle.term.specs.Term.{Term, const, var, shift, sum, diff, neg, read, fresh, write, stated_by, is_array}
use Rattle.term.specs.Seen.{first_row, is_later, by_name, seen}
use Rattle.term.specs.Base.{Base, Nothing, One, Sum, Difference, Negative, written, is_nothing, same_base, base, offset}
use Rattle.term.specs.Relation.{range_of}
use Rattle.term.specs.Walk.{Walk, found, passed, undecided, ended, walk}
use Rattle.term.specs.Rule.{shift_rule, sum_rule, neg_by, neg_rule, diff_rule, read_by, read_rule, write_rule, rule}
use Rattle.term.specs.Result.{rule_at, simplified, renewed, result}
use Rattle.term.specs.WellFormed.{Fits, Names, Below, WellFormed}
use Rattle.term.proofs.Names.{NamesBelow, names_widen}
use Rattle.term.proofs.Inside.{simplified_in}
use Rattle.term.proofs.Seen.{seen_sort, seen_formed}
use Rattle.term.proofs.Renewed.{renewed_eq, result_eq}

pub formed_below : (M : ℕ) (f : ℕ → Term) → WellFormed M f → NamesBelow f
formed_below M f formed x = names_widen (f x) (λ s y (b : Below f x s y). b.below) (formed.names x)

-- a word row whose numbers are words, and that states no name
abbrev Word : ℕ → Term → Type 0
Word M t = Fits M t × (is_array t ≡ false) × (stated_by t ≡ 0)

-- what stands for u: its numbers are words, it is of u's sort, and states u's name
abbrev pub StandsFor : ℕ → Term → Term → Type 0
StandsFor M u t = Fits M t × (is_array t ≡ is_array u) × (stated_by t ≡ stated_by u)

module _ (M : ℕ) (pos : 0 < M) where
  written_word : (d : Base) (k : ℕ) → k < M → Word M (written d k)
  unfolding written is_array stated_by
  written_word Nothing k l = (l, refl, refl)
  written_word (One x) k l = (l, refl, refl)
  written_word (Sum x y) k l = (l, refl, refl)
  written_word (Difference x y) k l = (l, refl, refl)
  written_word (Negative x) k l = (l, refl, refl)

  shift_word : (f : ℕ → Term) (a k : ℕ) → Word M (shift_rule M f a k)
  unfolding shift_rule
  shift_word f a k = written_word (base f a) (plus M (offset f a) k) (plus_below M pos _ _)

  sum_word : (f : ℕ → Term) (a b k : ℕ) → Word M (sum_rule M f a b k)
  unfolding sum_rule
  sum_word f a b k =
      pick_case (Word M) (is_nothing (base f a))
      (λ (e : is_nothing (base f a) ≡ true). shift_word f b _)
      (λ (e : is_nothing (base f a) ≡ false).
      pick_case (Word M) (is_nothing (base f b))
      (λ (e' : is_nothing (base f b) ≡ true). shift_word f a _)
      (λ (e' : is_nothing (base f b) ≡ false). written_word _ _ (plus_below M pos _ _)))

  neg_by_word : (f : ℕ → Term) (a k p : ℕ) (d : Base) → k < M → Word M (neg_by M f a k p d)
  unfolding neg_by is_array stated_by
  neg_by_word f a k p Nothing l = (minus_below M pos k p, refl, refl)
  neg_by_word f a k p (One x) l = written_word (Negative x) (minus M k p) (minus_below M pos k p)
  neg_by_word f a k p (Negative x) l = shift_word f x (minus M k p)
  neg_by_word f a k p (Difference x y) l = written_word (Difference y x) (minus M k p) (minus_below M pos k p)
  neg_by_word f a k p (Sum x y) l = written_word (Negative a) k l

  neg_word : (f : ℕ → Term) (a k : ℕ) → k < M → Word M (neg_rule M f a k)
  unfolding neg_rule
  neg_word f a k l = neg_by_word f a k (offset f a) (base f a) l

  diff_word : (f : ℕ → Term) (a b k : ℕ) → Word M (diff_rule M f a b k)
  unfolding diff_rule is_array stated_by
  diff_word f a b k =
      pick_case (Word M) (same_base (base f a) (base f b))
      (λ (e : same_base (base f a) (base f b) ≡ true). (plus_below M pos _ _, refl, refl))
      (λ (e : same_base (base f a) (base f b) ≡ false).
      pick_case (Word M) (is_nothing (base f b))
      (λ (e' : is_nothing (base f b) ≡ true). shift_word f a _)
      (λ (e' : is_nothing (base f b) ≡ false).
      pick_case (Word M) (is_nothing (base f a))
      (λ (e'' : is_nothing (base f a) ≡ true). neg_word f b _ (plus_below M pos _ _))
      (λ (e'' : is_nothing (base f a) ≡ false). written_word _ _ (plus_below M pos _ _))))

  read-by-word : (f : ℕ → Term) (i : ℕ) (w : Walk) → Word M (read_by M f i w)
  unfolding read_by is_array stated_by
  read-by-word f i (found m c) = shift_word f c 0
  read-by-word f i (passed m onward) = read-by-word f i onward
  read-by-word f i (undecided m) = (tt, refl, refl)
  read-by-word f i (ended m) = (tt, refl, refl)

  -- the rule's row stands for its original
  pub rule_stands : (limit : ℕ) (f : ℕ → Term) (g : ℕ → Range) (t : Term) → Fits M t → StandsFor M t (rule M limit f g t)
  unfolding rule read_rule write_rule is_array stated_by
  rule_stands limit f g (const k) n = (n, refl, refl)
  rule_stands limit f g (var name k h) n = (n, refl, refl)
  rule_stands limit f g (shift a k) n = shift_word f a k
  rule_stands limit f g (sum a b k) n = sum_word f a b k
  rule_stands limit f g (diff a b k) n = diff_word f a b k
  rule_stands limit f g (neg a k) n = neg_word f a k n
  rule_stands limit f g (read a b) n = read-by-word f b (walk f g b limit a)
  rule_stands limit f g fresh n = (tt, refl, refl)
  rule_stands limit f g (write a b c) n = (tt, refl, refl)

  -- a result row stands for the row as it is read
  pub rule_at_stands : (limit : ℕ) (t f : ℕ → Term) (g : ℕ → Range) (x : ℕ) → Fits M (seen t x) → StandsFor M (seen t x) (rule_at M limit t f g x)
  unfolding rule_at seen by_name
  rule_at_stands limit t f g x = stands (is_later t x)
    where
      stands : (later : Bool) → Fits M (cond later (shift (first_row t x) 0) (t x)) →
          StandsFor M (cond later (shift (first_row t x) 0) (t x)) (cond later (shift (first_row t x) 0) (rule M limit f g (t x)))
      stands true fits = (fits, refl, refl)
      stands false fits = rule_stands limit f g (t x) fits

  pub simplified_stands : (limit : ℕ) (t f : ℕ → Term) (x : ℕ) → Fits M (seen t x) → StandsFor M (seen t x) (simplified M limit t f x)
  unfolding simplified
  simplified_stands limit t f = rule_at_stands limit t f (range_of M f)

-- over a kept result that is well formed, with the sorts of t
module _
    (M limit : ℕ)
    (pos : 0 < M)
    (touched : ℕ → Bool)
    (t kept : ℕ → Term)
    (formed : WellFormed M t)
    (formed-kept : WellFormed M kept)
    (sorts : (x : ℕ) → is_array (kept x) ≡ is_array (t x))
  where
    abbrev out : ℕ → Term
    out = renewed M limit touched t kept

    row_eq : (x : ℕ) → out x ≡ cond (touched x) (simplified M limit t out x) (kept x)
    row_eq = renewed_eq M limit touched t kept (formed_below M t formed) (λ x e. formed_below M kept formed-kept x)

    renewed_fits : (x : ℕ) → Fits M (out x) × (is_array (out x) ≡ is_array (t x))
    renewed_fits x =
        subst (λ (u : Term). Fits M u × (is_array u ≡ is_array (t x))) (sym (row_eq x))
        (pick_case (λ (u : Term). Fits M u × (is_array u ≡ is_array (t x))) (touched x)
        (λ (e : touched x ≡ true). let w = simplified_stands M pos limit t out x ((seen_formed t M pos formed).fits x) in (w.0, w.1 ∙ seen_sort t x))
        (λ (e : touched x ≡ false). (formed-kept.fits x, sorts x)))

    pub renewed_sort : (x : ℕ) → is_array (renewed M limit touched t kept x) ≡ is_array (t x)
    renewed_sort x = (renewed_fits x).1

    renewed_names : (x : ℕ) → Names (Below out x) (out x)
    renewed_names =
        from_below (λ x. Names (Below out x) (out x))
        (λ x earlier.
        subst (Names (Below out x)) (sym (row_eq x))
        (pick_case (Names (Below out x)) (touched x)
        (λ (e : touched x ≡ true).
        simplified_in (Below out x) out
        (λ s y (b : Below out x s y).
        names_widen {W = Below out x} (out y) (λ s' z (d : Below out y s' z). record { below = lt_trans d.below b.below; sort = d.sort }) (earlier y b.below))
        M limit t x
        (names_widen {W = Below out x} (seen t x) (λ s y (b : Below (seen t) x s y). record { below = b.below; sort = renewed_sort y ∙ sym (seen_sort t y) ∙ b.sort })
        ((seen_formed t M pos formed).names x)))
        (λ (e : touched x ≡ false).
        names_widen {W = Below out x} (kept x) (λ s y (b : Below kept x s y). record { below = b.below; sort = renewed_sort y ∙ sym (sorts y) ∙ b.sort }) (formed-kept.names x))))

    pub renewed_formed : WellFormed M (renewed M limit touched t kept)
    renewed_formed = record { fits = λ x. (renewed_fits x).0; names = renewed_names }

module _ (M limit : ℕ) (pos : 0 < M) (t : ℕ → Term) (formed : WellFormed M t) where
  pub result_sort : (x : ℕ) → is_array (result M limit t x) ≡ is_array (t x)
  unfolding result
  result_sort = renewed_sort M limit pos (λ x. true) t t formed formed (λ x. refl)

  pub result_formed : WellFormed M (result M limit t)
  unfolding result
  result_formed = renewed_formed M limit pos (λ x. true) t t formed formed (λ x. refl)

  -- a result row states the name of the row as it is read
  pub result_states : (x : ℕ) → stated_by (result M limit t x) ≡ stated_by (seen t x)
  result_states x =
      ap stated_by (result_eq M limit t (formed_below M t formed) x) ∙
      (simplified_stands M pos limit t (result M limit t) x ((seen_formed t M pos formed).fits x)).2
