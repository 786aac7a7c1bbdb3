-- The union of pieces: it has the numbers of its pieces and no others, and its pieces are in order. Assumes nothing.
use mathlib.Core.Path.{◌≡◌, refl, sym, ap₂}
use mathlib.Core.Logic.{◌⊎◌, inl, inr, ⊎_elim, dite}
use mathlib.Core.Bool.{true, false}
use mathlib.Core.List.{List, [], ◌∷◌, ◌++◌}
use Prim.Native.Nat.{ℕ, ◌+◌, ◌≤◌, max}
use native.Mathlib.Nat.{min-le_left, min-le_right, le-max_left, le-max_right}
use native.Mathlib.Decide.{dec_le}
use native.Mathlib.Omega.{arith}
use borrow.Author.Tests.{ltb-true, ltb-false}
use Rattle.basis.proofs.Pick.{pick_case, min_case, max_case}
use Rattle.pieces.specs.Pieces.{Piece, piece, Inside, In, below, joined, add, union}

ruleset tests = (arith, ltb-true, ltb-false)

-- pieces that touch are one, and a piece is joined with all that it meets
touching : union (piece 4 5 ∷ piece 0 3 ∷ []) ≡ piece 0 5 ∷ []
unfolding union add below joined
touching = refl

meeting : union (piece 2 7 ∷ piece 0 3 ∷ piece 6 9 ∷ []) ≡ piece 0 9 ∷ []
unfolding union add below joined
meeting = refl

-- the three ways of a piece with the lowest of a union
add_case : (P : List Piece → Type 0) (p q : Piece) (qs : List Piece)
    → (below p q ≡ true → P (p ∷ q ∷ qs))
    → (below q p ≡ true → P (q ∷ add p qs))
    → (below p q ≡ false → below q p ≡ false → P (add (joined p q) qs))
    → P (add p (q ∷ qs))
unfolding add
add_case P p q qs before behind meets = pick_case P (below p q) before (λ s. pick_case P (below q p) behind (meets s))

-- ---- order

-- the piece has a number, and none below `from`
pub record Begins (from : ℕ) (p : Piece) : Type 0 where
  pub least : from ≤ p.lo
  pub order : p.lo ≤ p.hi

-- pieces in order, with no number below `from`: each has a number, and none touches the next
abbrev pub Ordered : ℕ → List Piece → Type 0
Ordered from [] = Unit {0}
Ordered from (p ∷ ps) = Begins from p × Ordered (p.hi + 2) ps

-- pieces in any order, each with a number
abbrev pub Filled : List Piece → Type 0
Filled [] = Unit {0}
Filled (p ∷ ps) = Begins 0 p × Filled ps

pub ordered_lower : (from to : ℕ) (ps : List Piece) → from ≤ to → Ordered to ps → Ordered from ps
ordered_lower from to [] l o = o
ordered_lower from to (p ∷ ps) l (b, o) = (omega arith, o)

joined_begins : (from : ℕ) (p q : Piece) → Begins from p → Begins from q → Begins from (joined p q)
unfolding joined
joined_begins from p q b c =
    record {
      least = min_case (λ (k : ℕ). from ≤ k) p.lo q.lo b.least c.least;
      order =
          min_case (λ (k : ℕ). k ≤ max p.hi q.hi) p.lo q.lo
          (omega (arith, le-max_left p.hi q.hi, b.order))
          (omega (arith, le-max_right p.hi q.hi, c.order));
    }

pub add_ordered : (from : ℕ) (p : Piece) (qs : List Piece) → Begins from p → Ordered from qs → Ordered from (add p qs)
unfolding add below
add_ordered from p [] b o = (b, o)
add_ordered from p (q ∷ qs) b (c, o) =
    add_case (Ordered from) p q qs
    (λ (t : below p q ≡ true). (b, (omega tests, o)))
    (λ (t : below q p ≡ true). (c, add_ordered (q.hi + 2) p qs (omega tests) o))
    (λ _ _. add_ordered from (joined p q) qs (joined_begins from p q b c) (ordered_lower from (q.hi + 2) qs (omega arith) o))

pub union_ordered : (ps : List Piece) → Filled ps → Ordered 0 (union ps)
unfolding union
union_ordered [] f = f
union_ordered (p ∷ ps) (b, f) = add_ordered 0 p (union ps) b (union_ordered ps f)

-- ---- numbers

-- in one piece, or in two
pub in_one : (x : ℕ) (p : Piece) → In x (p ∷ []) → Inside x p
in_one x p (inl h) = h
in_one x p (inr h) = absurd h

pub in_two : {C : Type 0} (x : ℕ) (p q : Piece) → (Inside x p → C) → (Inside x q → C) → In x (p ∷ q ∷ []) → C
in_two x p q first second (inl h) = first h
in_two x p q first second (inr (inl h)) = second h
in_two x p q first second (inr (inr h)) = absurd h

pub in_left : (x : ℕ) (ps qs : List Piece) → In x ps → In x (ps ++ qs)
in_left x [] qs h = absurd h
in_left x (p ∷ ps) qs (inl h) = inl h
in_left x (p ∷ ps) qs (inr h) = inr (in_left x ps qs h)

pub in_right : (x : ℕ) (ps qs : List Piece) → In x qs → In x (ps ++ qs)
in_right x [] qs h = h
in_right x (p ∷ ps) qs h = inr (in_right x ps qs h)

pub in_either : (x : ℕ) (ps qs : List Piece) → In x (ps ++ qs) → In x ps ⊎ In x qs
in_either x [] qs h = inr h
in_either x (p ∷ ps) qs (inl h) = inl (inl h)
in_either x (p ∷ ps) qs (inr h) = ⊎_elim (λ (u : In x ps). inl (inr u)) (λ (u : In x qs). inr u) (in_either x ps qs h)

joined_left : (x : ℕ) (p q : Piece) → Inside x p → Inside x (joined p q)
unfolding joined
joined_left x p q h = omega (arith, min-le_left p.lo q.lo, le-max_left p.hi q.hi)

joined_right : (x : ℕ) (p q : Piece) → Inside x q → Inside x (joined p q)
unfolding joined
joined_right x p q h = omega (arith, min-le_right p.lo q.lo, le-max_right p.hi q.hi)

-- nothing lies between pieces that touch or overlap
joined_either : (x : ℕ) (p q : Piece) → below p q ≡ false → below q p ≡ false → Inside x (joined p q) → Inside x p ⊎ Inside x q
unfolding joined below
joined_either x p q s t h =
    dite (dec_le p.lo x)
    (λ (l : p.lo ≤ x).
    dite (dec_le x p.hi)
    (λ (m : x ≤ p.hi). inl (omega arith))
    (λ (m : x ≤ p.hi → ⊥).
    let high : x ≤ q.hi = max_case (λ (k : ℕ). x ≤ k → x ≤ q.hi) p.hi q.hi (λ (a : x ≤ p.hi). absurd (m a)) (λ (a : x ≤ q.hi). a) h.high in
    inr (omega tests)))
    (λ (l : p.lo ≤ x → ⊥).
    let low : q.lo ≤ x = min_case (λ (k : ℕ). k ≤ x → q.lo ≤ x) p.lo q.lo (λ (a : p.lo ≤ x). absurd (l a)) (λ (a : q.lo ≤ x). a) h.low in
    inr (omega tests))

pub in_add : (x : ℕ) (p : Piece) (qs : List Piece) → Inside x p ⊎ In x qs → In x (add p qs)
unfolding add
in_add x p [] h = h
in_add x p (q ∷ qs) (inl u) = add_case (In x) p q qs (λ _. inl u) (λ _. inr (in_add x p qs (inl u))) (λ _ _. in_add x (joined p q) qs (inl (joined_left x p q u)))
in_add x p (q ∷ qs) (inr (inl u)) = add_case (In x) p q qs (λ _. inr (inl u)) (λ _. inl u) (λ _ _. in_add x (joined p q) qs (inl (joined_right x p q u)))
in_add x p (q ∷ qs) (inr (inr u)) = add_case (In x) p q qs (λ _. inr (inr u)) (λ _. inr (in_add x p qs (inr u))) (λ _ _. in_add x (joined p q) qs (inr u))

pub add_in : (x : ℕ) (p : Piece) (qs : List Piece) → In x (add p qs) → Inside x p ⊎ In x qs
unfolding add
add_in x p [] = λ h. h
add_in x p (q ∷ qs) =
    add_case (λ (rs : List Piece). In x rs → Inside x p ⊎ In x (q ∷ qs)) p q qs
    (λ _ h. h)
    (λ _ h.
    ⊎_elim (λ (u : Inside x q). inr (inl u))
    (λ (u : In x (add p qs)). ⊎_elim (λ (v : Inside x p). inl v) (λ (v : In x qs). inr (inr v)) (add_in x p qs u)) h)
    (λ s t h.
    ⊎_elim
    (λ (u : Inside x (joined p q)). ⊎_elim (λ (v : Inside x p). inl v) (λ (v : Inside x q). inr (inl v)) (joined_either x p q s t u))
    (λ (u : In x qs). inr (inr u)) (add_in x (joined p q) qs h))

pub in_union : (x : ℕ) (ps : List Piece) → In x ps → In x (union ps)
unfolding union
in_union x [] h = h
in_union x (p ∷ ps) (inl h) = in_add x p (union ps) (inl h)
in_union x (p ∷ ps) (inr h) = in_add x p (union ps) (inr (in_union x ps h))

pub union_in : (x : ℕ) (ps : List Piece) → In x (union ps) → In x ps
unfolding union
union_in x [] h = h
union_in x (p ∷ ps) h = ⊎_elim (λ (u : Inside x p). inl u) (λ (u : In x (union ps)). inr (union_in x ps u)) (add_in x p (union ps) h)

-- ---- pieces in order are told by their numbers

pub ordered_least : (from x : ℕ) (ps : List Piece) → Ordered from ps → In x ps → from ≤ x
ordered_least from x [] o h = absurd h
ordered_least from x (p ∷ ps) (b, o) (inl h) = omega arith
ordered_least from x (p ∷ ps) (b, o) (inr h) = omega (arith, ordered_least (p.hi + 2) x ps o h)

-- the first piece of pieces in order reaches no further than that of others with the same numbers
reach : (from to : ℕ) (p q : Piece) (ps qs : List Piece) → Ordered from (p ∷ ps) → Ordered to (q ∷ qs) → p.lo ≡ q.lo
    → ((x : ℕ) → In x (p ∷ ps) → In x (q ∷ qs)) → p.hi ≤ q.hi
reach from to p q ps qs (b, o) (c, d) e into =
    dite (dec_le p.hi q.hi) (λ l. l)
    (λ (n : p.hi ≤ q.hi → ⊥).
    ⊎_elim
    (λ (h : Inside (q.hi + 1) q). absurd (omega arith))
    (λ (h : In (q.hi + 1) qs). absurd (omega (arith, ordered_least (q.hi + 2) (q.hi + 1) qs d h)))
    (into (q.hi + 1) (inl (omega arith))))

-- what is in the pieces above the first is no number of the first
later : (from to : ℕ) (p q : Piece) (ps qs : List Piece) → Ordered from (p ∷ ps) → p.hi ≡ q.hi
    → ((x : ℕ) → In x (p ∷ ps) → In x (q ∷ qs)) → (x : ℕ) → In x ps → In x qs
later from to p q ps qs (b, o) e into x h =
    ⊎_elim
    (λ (u : Inside x q). absurd (omega (arith, ordered_least (p.hi + 2) x ps o h)))
    (λ (u : In x qs). u)
    (into x (inr h))

pub ordered_only : (from to : ℕ) (ps qs : List Piece) → Ordered from ps → Ordered to qs
    → ((x : ℕ) → In x ps → In x qs) → ((x : ℕ) → In x qs → In x ps) → ps ≡ qs
ordered_only from to [] [] o d into back = refl
ordered_only from to [] (q ∷ qs) o (c, d) into back = absurd (back q.lo (inl (omega arith)))
ordered_only from to (p ∷ ps) [] (b, o) d into back = absurd (into p.lo (inl (omega arith)))
ordered_only from to (p ∷ ps) (q ∷ qs) (b, o) (c, d) into back =
    let low : p.lo ≡ q.lo =
    omega (
      arith,
      ordered_least q.lo p.lo (q ∷ qs) (omega arith, d) (into p.lo (inl (omega arith))),
      ordered_least p.lo q.lo (p ∷ ps) (omega arith, o) (back q.lo (inl (omega arith))),
    ) in
    let high : p.hi ≡ q.hi =
    omega (
      arith,
      reach from to p q ps qs (b, o) (c, d) low into,
      reach to from q p qs ps (c, d) (b, o) (sym low) back,
    ) in
    ap₂ (λ (r : Piece) (rs : List Piece). r ∷ rs)
    (ap₂ piece low high)
    (ordered_only (p.hi + 2) (q.hi + 2) ps qs o d
    (later from to p q ps qs (b, o) high into)
    (later to from q p qs ps (c, d) (sym high) back))
