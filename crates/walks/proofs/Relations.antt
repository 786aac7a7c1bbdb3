-- What is known of two rows, at each way out of the code. Assumes nothing.
use Prim.Native.Nat.{ℕ}
use mathlib.Core.Path.{◌≡◌, refl, sym, ap, ◌∙◌}
use mathlib.Core.Bool.{Bool, true, false, ◌&&◌}
use mathlib.Core.List.{List}
use lib.Dec.{eqb}
use native.Mathlib.Omega.{arith}
use borrow.Author.Tests.{eq-eqb, ne_eqb}
use Rattle.range.specs.declared.Range.{Range}
use Rattle.range.specs.Range.{disjoint}
use Rattle.row.specs.declared.Row.{Row}
use Rattle.row.specs.Names.{SHIFT}
use Rattle.row.specs.Bytes.{Decoded}
use Rattle.term.specs.Term.{Term, term_of}
use Rattle.term.specs.Base.{Base, Nothing, One, Sum, Difference, Negative, same_base, base_of, offset_of, shape_of, left_of, right_of, base, offset}
use Rattle.term.specs.Bytes.{look}
use Rattle.term.specs.declared.Relation.{Relation}
use Rattle.term.specs.Relation.{related}
use Rattle.term.specs.declared.Reason.{Reason}
use Rattle.term.specs.declared.Reason.TheVariants.{SamePlace, Offsets, Separate, Undecided}
use Rattle.term.specs.Reason.{reason, known_by}
use Rattle.term.proofs.Reasons.{related_reason}
use Rattle.walks.specs.declared.value.Value.{Value}
use Rattle.walks.specs.declared.relation.Index.{Index}
use Rattle.walks.specs.Value.{value, value_from, value_of, value_at, agree}
use Rattle.walks.specs.Ready.{Shared, Sought}
use Rattle.walks.proofs.Terms.{term_shift}

module _ (f : ℕ → Term) (x y : ℕ) where
  pub agree_bases : agree (value_at f x) (value_at f y) ≡ same_base (base f x) (base f y)
  unfolding agree value_at value_of value_from same_base base
  agree_bases = refl

module _ (f : ℕ → Term) (x : ℕ) where
  pub value_offset : (value_at f x).k ≡ offset f x
  unfolding value_at value_of value_from offset
  value_offset = refl

-- ---- the bases of two values

and_always : (b : Bool) → (b && true) ≡ b
and_always true = refl
and_always false = refl

second_of_lem : (d : Base) → shape_of d ≡ SHIFT → right_of d ≡ 0
unfolding shape_of right_of
second_of_lem Nothing e = refl
second_of_lem (One x) e = refl
second_of_lem (Sum x y) e = absurd (omega arith)
second_of_lem (Difference x y) e = absurd (omega arith)
second_of_lem (Negative x) e = refl

one_row : (f : ℕ → Term) (i : ℕ) → (value_at f i).kind ≡ SHIFT → (value_at f i).b ≡ 0
unfolding value_at value_of value_from
one_row f i e = second_of_lem (base_of i (f i)) e

moved_row : (x : Row) (r : ℕ) → x.kind ≡ SHIFT → value_of r (term_of x) ≡ value SHIFT x.a 0 x.k
unfolding value_of value_from base_of offset_of shape_of left_of right_of
moved_row x r e = rw (term_shift x e)

pub bases_asked : (R : List ℕ) (g : ℕ → Range) (b : ℕ) (x : Row) (v : Value) (j : Index)
    → Decoded R b x → v ≡ value_at (look R) b → Sought (look R) g j → Shared x v j.value
unfolding value_at look
bases_asked R g b x v j d e s =
    record {
      shift = λ k. e ∙ ap (λ (y : Row). value_of b (term_of y)) (sym d.is) ∙ moved_row x b k;
      second = rw s.value (one_row (look R) j.row);
    }

module _ (x : Row) (v u : Value) (given : Shared x v u) (row : x.kind ≡ SHIFT) where
  -- whether v, a row moved, and u agree: their rows tell
  module _ (a : ℕ) where
    told : u.kind ≡ SHIFT → u.b ≡ 0 → agree (value SHIFT a 0 x.k) u ≡ eqb a u.a
    unfolding agree
    told e z = rw (e, z) (and_always (eqb a u.a))

  pub moved_alike : u.kind ≡ SHIFT → eqb x.a u.a ≡ agree v u
  moved_alike e = sym (ap (λ (w : Value). agree w u) (given.shift row) ∙ told x.a e (given.second e))

  pub moved_apart : (u.kind ≡ SHIFT → ⊥) → false ≡ agree v u
  unfolding agree
  moved_apart h = sym (ap (λ (w : Value). agree w u) (given.shift row) ∙ rw (ne_eqb SHIFT u.kind (λ e. h (sym e))))

-- ---- the reason

module _ (f : ℕ → Term) (g : ℕ → Range) (b : ℕ) (v : Value) (j : Index) (t : Bool) where
  module _ (row : v ≡ value_at f b) (index : Sought f g j) (test : t ≡ agree v j.value) where
    bases : t ≡ same_base (base f b) (base f j.row)
    bases = test ∙ rw (row, index.value) (agree_bases f b j.row)

    offsets_row : v.k ≡ offset f b
    offsets_row = rw row (value_offset f b)

    offsets_index : j.value.k ≡ offset f j.row
    offsets_index = rw index.value (value_offset f j.row)

    pub reason_same : t ≡ true → v.k ≡ j.value.k → SamePlace ≡ reason f g b j.row
    unfolding reason
    reason_same e q =
        let p : same_base (base f b) (base f j.row) ≡ true = sym bases ∙ e in
        rw (p, eq-eqb (offset f b) (offset f j.row) (sym offsets_row ∙ q ∙ offsets_index))

    pub reason_offsets : t ≡ true → (v.k ≡ j.value.k → ⊥) → Offsets v.k j.value.k ≡ reason f g b j.row
    unfolding reason
    reason_offsets e q =
        let p : same_base (base f b) (base f j.row) ≡ true = sym bases ∙ e in
        rw (offsets_row, offsets_index, p, ne_eqb (offset f b) (offset f j.row) (λ z. q (offsets_row ∙ z ∙ sym offsets_index)))

    module _ (a c : Range) (d : Bool) (row-range : a ≡ g b) (index-range : c ≡ j.range) (apart : d ≡ disjoint a c) where
      read_range : c ≡ g j.row
      read_range = index-range ∙ index.range

      ranges : d ≡ disjoint (g b) (g j.row)
      ranges = rw (← row-range, ← read_range) apart

      pub reason_ranges : t ≡ false → d ≡ true → Separate (record { store = a; read = c }) ≡ reason f g b j.row
      unfolding reason
      reason_ranges e q =
          let p : same_base (base f b) (base f j.row) ≡ false = sym bases ∙ e in
          let s : disjoint (g b) (g j.row) ≡ true = sym ranges ∙ q in
          rw (row-range, read_range, p, s)

      pub reason_undecided : t ≡ false → d ≡ false → Undecided ≡ reason f g b j.row
      unfolding reason
      reason_undecided e q =
          let p : same_base (base f b) (base f j.row) ≡ false = sym bases ∙ e in
          let s : disjoint (g b) (g j.row) ≡ false = sym ranges ∙ q in
          rw (p, s)

pub related_known : (f : ℕ → Term) (g : ℕ → Range) (b i : ℕ) (why : Reason) (k : Relation) → why ≡ reason f g b i → k ≡ known_by why → k ≡ related f g b i
related_known f g b i why k told known = known ∙ ap known_by told ∙ sym (related_reason f g b i)
