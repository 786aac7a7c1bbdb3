-- Which bytes are an accepted table: a good header, and behind it the rows of a well formed lookup.
-- So the result of an accepted table is an accepted table.
use Prim.Native.Nat.{ℕ, zero, suc, ◌+◌, ◌*◌, ◌%◌, ◌^◌, ◌≤◌, ◌<◌}
use native.Mathlib.Nat.{le_refl, lt_trans, lt_of_le_of_lt}
use native.Mathlib.Decide.{ℕ_discrete}
use native.Mathlib.Omega.{arith}
use mathlib.Core.Path.{◌≡◌, refl, sym, ap, ap₂, ◌∙◌, subst}
use mathlib.Core.Bool.{Bool, true, false, cond, true≢false, false≢true}
use mathlib.Core.List.{List}
use lib.Dec.{lit<, lit≤}
use lib.ListN.{length, take}
use lib.Seq.{get_or-take, take-take, length-take-le}
use lib.Pow.{pow_mono}
use borrow.Author.Tests.{eqb-false, eq-eqb}
use mathlib.Core.Logic.{dite}
use Rattle.basis.proofs.Pick.{pick_case}
use Rattle.row.specs.declared.Row.{Row}
use Rattle.row.specs.Names.{HEADER, CONST, VAR, SHIFT, SUM, DIFF, NEG, READ, FRESH, WRITE, place}
use Rattle.in_bytes.specs.Numbers.{byte, number}
use Rattle.row.specs.Bytes.{row_at, mark_wrong, Small}
use Rattle.row.proofs.Places.{header_below}
use Rattle.table.specs.declared.Uses.{Uses}
use Rattle.names.specs.First.{name_of, name_at, first_of}
use Rattle.names.proofs.First.{alone_first}
use Rattle.table.specs.declared.Sort.TheVariants.{Word, Array}
use Rattle.table.specs.declared.Use.{Use}
use Rattle.table.specs.declared.Use.TheVariants.{Unused, Name, Refers}
use Rattle.table.specs.Uses.{sort_of, is_used, is_reference, uses_of}
use Rattle.table.specs.Refusals.{width, rows, MOST, head_wrong, use_at, reference, other_bounds}
use Rattle.table.specs.Accepted.{GoodRow, Accepted}
use Rattle.term.specs.Term.{Term, const, var, shift, sum, diff, neg, read, fresh, write, row_of, stated_by, is_array}
use Rattle.term.specs.WellFormed.{Fits, Names, Below, WellFormed}
use Rattle.term.specs.Bytes.{put_rows}
use Rattle.term.proofs.Names.{names_widen}
use Rattle.term.proofs.WellFormed.{formed_below}
use Rattle.term.proofs.Rows.{name_row}
use Rattle.term.proofs.Placed.{length_put_rows, put_rows_row, put_rows_head}
use Rattle.term.proofs.Looked.{cut_row, cut_mark, put_rows_mark, small_term}

sort_row : (t : Term) → sort_of (row_of t).kind ≡ cond (is_array t) Array Word
unfolding sort_of row_of is_array
sort_row (const k) = refl
sort_row (var name k h) = refl
sort_row (shift a k) = refl
sort_row (sum a b k) = refl
sort_row (diff a b k) = refl
sort_row (neg a k) = refl
sort_row (read a b) = refl
sort_row fresh = refl
sort_row (write a b c) = refl

-- what holds of each of the three reference fields
field_case : (P : ℕ → Type 0) → P 0 → P 1 → P 2 → (f : ℕ) → f < 3 → P f
field_case P p q s zero l = p
field_case P p q s (suc zero) l = q
field_case P p q s (suc (suc zero)) l = s
field_case P p q s (suc (suc (suc f))) l = absurd (omega arith)

-- row y stands below row r, and is an array or a word as it is used
abbrev Placed : List ℕ → ℕ → Bool → ℕ → Type 0
Placed s r array y = (y < r) × (sort_of (row_at s y).kind ≡ cond array Array Word)

-- the value in a reference field, by what the kind uses it as
record Field (s : List ℕ) (r : ℕ) (used : Use) (value : ℕ) : Type 0 where
  unused : is_used used ≡ false → value ≡ 0
  below : is_reference used ≡ true → value < r
  sort : is_reference used ≡ true → Refers (sort_of (row_at s value).kind) ≡ used

no_field : {s : List ℕ} {r value : ℕ} → value ≡ 0 → Field s r Unused value
unfolding is_reference
no_field e = record { unused = λ q. e; below = λ q. absurd (false≢true q); sort = λ q. absurd (false≢true q) }

name_field : {s : List ℕ} {r value : ℕ} → Field s r Name value
unfolding is_used is_reference
name_field = record { unused = λ q. absurd (true≢false q); below = λ q. absurd (false≢true q); sort = λ q. absurd (false≢true q) }

word_field : {s : List ℕ} {r value : ℕ} → Placed s r false value → Field s r (Refers Word) value
unfolding is_used is_reference
word_field p = record { unused = λ q. absurd (true≢false q); below = λ q. p.0; sort = λ q. ap Refers p.1 }

array_field : {s : List ℕ} {r value : ℕ} → Placed s r true value → Field s r (Refers Array) value
unfolding is_used is_reference
array_field p = record { unused = λ q. absurd (true≢false q); below = λ q. p.0; sort = λ q. ap Refers p.1 }

-- the value in k or h, by whether the kind uses it
record Number (M : ℕ) (used : Bool) (value : ℕ) : Type 0 where
  unused : used ≡ false → value ≡ 0
  word : used ≡ true → value < M

no_number : {M : ℕ} → Number M false 0
no_number = record { unused = λ q. refl; word = λ q. absurd (false≢true q) }

a_number : {M value : ℕ} → value < M → Number M true value
a_number l = record { unused = λ q. absurd (true≢false q); word = λ q. l }

good_fields : (s : List ℕ) (r : ℕ) (x : Row) (u : Uses) → mark_wrong s (place r) ≡ false → (1 ≤ x.kind) × (x.kind ≤ 9) →
    Field s r u.a x.a → Field s r u.b x.b → Field s r u.c x.c →
    Number (2 ^ width s) u.k x.k → Number (2 ^ width s) u.h x.h →
    (x.kind ≡ VAR → x.k ≤ x.h) → other_bounds x (row_at s (first_of (name_at s) r)) ≡ false → GoodRow s r x u
unfolding use_at reference
good_fields s r x u marked kind a b c k h bounds agrees = record {
  marked = marked;
  kind_low = kind.0;
  kind_high = kind.1;
  unused_zero = field_case _ a.unused b.unused c.unused;
  unused_k = k.unused;
  unused_h = h.unused;
  k_word = k.word;
  h_word = h.word;
  below = field_case _ a.below b.below c.below;
  sort = field_case _ a.sort b.sort c.sort;
  bounds = bounds;
  agrees = agrees;
}

good_by : (s : List ℕ) (r : ℕ) (t : Term) → mark_wrong s (place r) ≡ false → Fits (2 ^ width s) t → Names (Placed s r) t →
    other_bounds (row_of t) (row_at s (first_of (name_at s) r)) ≡ false → GoodRow s r (row_of t) (uses_of (row_of t).kind)
unfolding row_of uses_of
good_by s r (const k) marked fits n agrees =
    good_fields s r _ _ marked (lit≤ tt, lit≤ tt)
    (no_field refl) (no_field refl) (no_field refl) (a_number fits) no_number (λ e. absurd (eqb-false CONST VAR refl e)) agrees
good_by s r (var name k h) marked fits n agrees =
    good_fields s r _ _ marked (lit≤ tt, lit≤ tt)
    name_field (no_field refl) (no_field refl) (a_number (lt_of_le_of_lt fits.0 fits.1)) (a_number fits.1) (λ e. fits.0) agrees
good_by s r (shift a k) marked fits n agrees =
    good_fields s r _ _ marked (lit≤ tt, lit≤ tt)
    (word_field n) (no_field refl) (no_field refl) (a_number fits) no_number (λ e. absurd (eqb-false SHIFT VAR refl e)) agrees
good_by s r (sum a b k) marked fits n agrees =
    good_fields s r _ _ marked (lit≤ tt, lit≤ tt)
    (word_field n.0) (word_field n.1) (no_field refl) (a_number fits) no_number (λ e. absurd (eqb-false SUM VAR refl e)) agrees
good_by s r (diff a b k) marked fits n agrees =
    good_fields s r _ _ marked (lit≤ tt, lit≤ tt)
    (word_field n.0) (word_field n.1) (no_field refl) (a_number fits) no_number (λ e. absurd (eqb-false DIFF VAR refl e)) agrees
good_by s r (neg a k) marked fits n agrees =
    good_fields s r _ _ marked (lit≤ tt, lit≤ tt)
    (word_field n) (no_field refl) (no_field refl) (a_number fits) no_number (λ e. absurd (eqb-false NEG VAR refl e)) agrees
good_by s r (read a b) marked fits n agrees =
    good_fields s r _ _ marked (lit≤ tt, lit≤ tt)
    (array_field n.0) (word_field n.1) (no_field refl) no_number no_number (λ e. absurd (eqb-false READ VAR refl e)) agrees
good_by s r fresh marked fits n agrees =
    good_fields s r _ _ marked (lit≤ tt, lit≤ tt)
    (no_field refl) (no_field refl) (no_field refl) no_number no_number (λ e. absurd (eqb-false FRESH VAR refl e)) agrees
good_by s r (write a b c) marked fits n agrees =
    good_fields s r _ _ marked (lit≤ tt, lit≤ tt)
    (array_field n.0) (word_field n.1) (word_field n.2) no_number no_number (λ e. absurd (eqb-false WRITE VAR refl e)) agrees

-- what acceptance asks of the six bytes of the header alone
pub record RightHead (t : List ℕ) : Type 0 where
  pub marked : head_wrong t ≡ false
  pub width_low : 1 ≤ width t
  pub width_high : width t ≤ 64
  pub few : rows t ≤ MOST

pub accepted_head : (t : List ℕ) → Accepted t → RightHead t
accepted_head t ok = record { marked = ok.head.mark; width_low = ok.head.width_low; width_high = ok.head.width_high; few = ok.head.few }

module _ (s t : List ℕ) (same : take HEADER s ≡ take HEADER t) where
  same_byte : (i : ℕ) → i < HEADER → byte s i ≡ byte t i
  same_byte i l = sym (get_or-take HEADER s i 0 l) ∙ ap (λ (h : List ℕ). byte h i) same ∙ get_or-take HEADER t i 0 l

  pub same_width : width s ≡ width t
  unfolding width
  same_width = same_byte 2 (lit< tt)

  pub same_rows : rows s ≡ rows t
  unfolding rows number
  same_rows = ap₂ (λ (a b : ℕ). a % 256 + 256 * (b % 256 + 256 * 0)) (same_byte 4 (lit< tt)) (same_byte 5 (lit< tt))

  pub same_head : head_wrong s ≡ head_wrong t
  unfolding head_wrong
  same_head = rw (same_byte 0 (lit< tt), same_byte 1 (lit< tt), same_byte 3 (lit< tt))

  pub good_head : RightHead t → RightHead s
  good_head ok = record {
    marked = same_head ∙ ok.marked;
    width_low = rw same_width ok.width_low;
    width_high = rw same_width ok.width_high;
    few = rw same_rows ok.few;
  }

-- no two rows state one name
abbrev pub OneEach : (ℕ → Term) → Type 0
OneEach f = (x y : ℕ) → y < x → stated_by (f y) ≡ stated_by (f x) → (stated_by (f x) ≡ 0 → ⊥) → ⊥

own_bounds : (x : Row) → other_bounds x x ≡ false
unfolding other_bounds
own_bounds x = rw (eq-eqb x.k x.k refl, eq-eqb x.h x.h refl)

-- bytes that have the rows of such an f: each row is its own first
own_first_row : (s : List ℕ) (f : ℕ → Term) → OneEach f → (r : ℕ) → ((x : ℕ) → x ≤ r → row_at s x ≡ row_of (f x)) → first_of (name_at s) r ≡ r
unfolding name_at
own_first_row s f alone r is =
    let name : (x : ℕ) → x ≤ r → name_of (row_at s x) ≡ stated_by (f x) = λ x l. ap name_of (is x l) ∙ name_row (f x) in
    alone_first (λ x. name_of (row_at s x)) r
    (λ y l e.
    dite (ℕ_discrete (stated_by (f r)) 0)
    (λ (none : stated_by (f r) ≡ 0). name r (le_refl r) ∙ none)
    (λ (named : stated_by (f r) ≡ 0 → ⊥). absurd (alone r y l (sym (name y (omega arith)) ∙ e ∙ name r (le_refl r)) named)))

-- bytes of the right length, with a good header and the rows of f
pub formed_accepted : (s : List ℕ) (f : ℕ → Term) → RightHead s → length s ≡ place (rows s) →
    WellFormed (2 ^ width s) f → OneEach f →
    ((x : ℕ) → x < rows s → row_at s x ≡ row_of (f x)) → ((x : ℕ) → x < rows s → mark_wrong s (place x) ≡ false) → Accepted s
formed_accepted s f head size formed alone is marks = record {
  head = record { mark = head.marked; width_low = head.width_low; width_high = head.width_high; few = head.few; size = size };
  row = λ r l.
      subst (λ (x : Row). GoodRow s r x (uses_of x.kind)) (sym (is r l))
      (good_by s r (f r) (marks r l) (formed.fits r)
      (names_widen {W = Placed s r} (f r)
      (λ a y (b : Below f r a y). (
        b.below,
        ap (λ (x : Row). sort_of x.kind) (is y (lt_trans b.below l)) ∙ sort_row (f y) ∙ ap (λ (c : Bool). cond c Array Word) b.sort,
      ))
      (formed.names r))
      (ap (λ (y : ℕ). other_bounds (row_of (f r)) (row_at s y)) (own_first_row s f alone r (λ x k. is x (lt_of_le_of_lt k l))) ∙
      ap (other_bounds (row_of (f r))) (is r l) ∙ own_bounds (row_of (f r))));
}

-- a buffer with the header of t, into which the touched rows of f are put and where the others stand already: cut to its n rows
module _
    (t buffer : List ℕ)
    (touched : ℕ → Bool)
    (f : ℕ → Term)
    (source : ℕ → ℕ)
    (head : RightHead t)
    (same : take HEADER buffer ≡ take HEADER t)
    (room : place (rows t) ≤ length buffer)
    (formed : WellFormed (2 ^ width t) f)
    (alone : OneEach f)
    (small : (x : ℕ) → stated_by (f x) < 65536)
  where
    abbrev put : List ℕ
    put = put_rows touched f source (rows t) buffer

    abbrev cut : List ℕ
    cut = take (place (rows t)) put

    room_put : place (rows t) ≤ length put
    room_put = rw (length_put_rows touched f source (rows t) buffer) room

    cut_header : take HEADER cut ≡ take HEADER t
    cut_header = take-take HEADER (place (rows t)) put (header_below (rows t)) ∙ put_rows_head touched f source (rows t) buffer ∙ same

    -- every row of f fits its fields
    pub rows_small : (x : ℕ) → x < rows t → Small (row_of (f x))
    rows_small x l =
        small_term (2 ^ width t) x (pow_mono head.width_high) (let few : rows t ≤ MOST = head.few in omega arith) (f x) (formed.fits x) (small x)
        (formed_below (2 ^ width t) f formed x)

    pub put_accepted :
        ((x : ℕ) → x < rows t → touched x ≡ false → row_at buffer x ≡ row_of (f x)) →
        ((x : ℕ) → x < rows t → touched x ≡ false → mark_wrong buffer (place x) ≡ false) →
        Accepted (take (place (rows t)) (put_rows touched f source (rows t) buffer))
    put_accepted stands marks =
        let n : rows cut ≡ rows t = same_rows cut t cut_header in
        formed_accepted cut f (good_head cut t cut_header head)
        (rw n (length-take-le (place (rows t)) put room_put))
        (rw (same_width cut t cut_header) formed) alone
        (λ x l.
        let l' : x < rows t = rw n at l in
        cut_row put (rows t) x l' ∙ put_rows_row touched f source (rows t) buffer room (λ y k e. rows_small y k) x l' ∙
        pick_case (λ (y : Row). y ≡ row_of (f x)) (touched x) (λ (e : touched x ≡ true). refl) (λ (e : touched x ≡ false). stands x l' e))
        (λ x l.
        let l' : x < rows t = rw n at l in
        cut_mark put (rows t) x l' ∙ put_rows_mark touched f source (rows t) buffer room x l' ∙
        pick_case (λ (b : Bool). b ≡ false) (touched x) (λ (e : touched x ≡ true). refl) (λ (e : touched x ≡ false). marks x l' e))
