-- The lines of a walk, step by step: what is written and what is left to write are the lines of the whole walk.
use Prim.Native.Nat.{ℕ, suc, ◌+◌, ◌-◌, ◌*◌, ◌^◌, ◌≤◌, ◌<◌}
use native.Mathlib.Omega.{arith}
use mathlib.Core.Path.{◌≡◌, refl, sym, ap, ◌∙◌}
use mathlib.Core.List.{List, [], ◌++◌, append_assoc, append-nil}
use lib.ListN.{length}
use Rattle.range.specs.declared.Range.{Range}
use Rattle.range.specs.Store.{kept}
use Rattle.row.specs.declared.Row.{Row}
use Rattle.row.specs.Names.{WRITE, LENGTH, place}
use Rattle.in_bytes.specs.Numbers.{Read}
use Rattle.row.specs.Bytes.{source_at, Decoded}
use Rattle.walks.specs.declared.relation.Index.{Index}
use Rattle.walks.specs.Ready.{NamesBelow, Walking, Comparing}
use Rattle.walks.proofs.Reach.{row_room}
use Rattle.walks.proofs.Stores.{NoStore, no_store, store_at, store_compared}
use Rattle.term.specs.declared.Met.{Met}
use Rattle.term.specs.declared.Reason.{Reason}
use Rattle.term.specs.declared.Relation.{Relation}
use Rattle.term.specs.declared.Relation.TheVariants.{Same, Apart, Unknown}
use Rattle.term.specs.Term.{Term, const, var, shift, sum, diff, neg, read, fresh, write}
use Rattle.term.specs.Bytes.{look}
use Rattle.term.specs.Walk.{Walk, step, walk_at, walk}
use Rattle.term.specs.Reason.{reason, known_by, index_of, meets, met}
use Rattle.term.proofs.Reasons.{related_reason}
use Rattle.text.specs.declared.Text.{Text}
use Rattle.text.specs.Text.{Wrote}
use Rattle.text.proofs.Puts.{wrote_none, wrote_then}
use Rattle.listing.specs.List.{store_line, store_lines, found_line, stands_line, end_line, walk_lines}
use Rattle.listing.specs.Ready.{Numbered}
use Rattle.tracing.specs.Ready.{Telling}

-- ---- over lookups

module _ (M : ℕ) (f : ℕ → Term) (g : ℕ → Range) (source : ℕ → ℕ) (i : ℕ) where
  abbrev pub lines : ℕ → ℕ → List ℕ
  lines left m = walk_lines M f g source i (walk f g i left m)

  -- the line of a store as a walk meets it
  abbrev pub line_of : Met → List ℕ
  line_of s = store_line M (source s.store) i s

  pub none_left : (m : ℕ) → lines 0 m ≡ stands_line m
  unfolding walk_lines walk met store_lines end_line
  none_left m = refl

  -- at a row that is no store
  at_none : (m : ℕ) (on : ℕ → Walk) (t : Term) → NoStore t → walk_lines M f g source i (walk_at f g i m on t) ≡ stands_line m
  unfolding walk_lines walk_at met store_lines end_line
  at_none m on (const k) h = refl
  at_none m on (var name k u) h = refl
  at_none m on (shift a k) h = refl
  at_none m on (sum a b k) h = refl
  at_none m on (diff a b k) h = refl
  at_none m on (neg a k) h = refl
  at_none m on (read a b) h = refl
  at_none m on fresh h = refl
  at_none m on (write a b c) h = absurd h

  pub no_store_lines : (left m : ℕ) → NoStore (f m) → lines (suc left) m ≡ stands_line m
  unfolding walk
  no_store_lines left m h = at_none m (walk f g i left) (f m) h

  -- at a store
  module _ (left m a b c : ℕ) (is : f m ≡ write a b c) (why : Reason) (told : why ≡ reason f g b i) where
    abbrev here : Met
    here = record { store = m; index = b; why = why }

    meets_here : meets f g i m ≡ here
    unfolding meets index_of
    meets_here = rw (is, told)

    walks : lines (suc left) m ≡ walk_lines M f g source i (step m a c (walk f g i left) (known_by why))
    unfolding walk walk_at
    walks = rw (is, told, ← related_reason f g b i)

    known_as : (k : Relation) → known_by why ≡ k → lines (suc left) m ≡ walk_lines M f g source i (step m a c (walk f g i left) k)
    known_as k e = walks ∙ ap (λ (u : Relation). walk_lines M f g source i (step m a c (walk f g i left) u)) e

    pub lines_found : known_by why ≡ Same → lines (suc left) m ≡ line_of here ++ found_line c
    unfolding step walk_lines met store_lines end_line
    lines_found e =
        known_as Same e ∙
        ap (λ (l : List ℕ). l ++ found_line c) (append-nil (line_of (meets f g i m))) ∙ ap (λ (s : Met). line_of s ++ found_line c) meets_here

    pub lines_stopped : known_by why ≡ Unknown → lines (suc left) m ≡ line_of here ++ stands_line m
    unfolding step walk_lines met store_lines end_line
    lines_stopped e =
        known_as Unknown e ∙
        ap (λ (l : List ℕ). l ++ stands_line m) (append-nil (line_of (meets f g i m))) ∙ ap (λ (s : Met). line_of s ++ stands_line m) meets_here

    pub lines_passed : known_by why ≡ Apart → lines (suc left) m ≡ line_of here ++ lines left a
    unfolding step walk_lines met store_lines end_line
    lines_passed e =
        known_as Apart e ∙
        append_assoc (line_of (meets f g i m)) (store_lines M source i (met f g i (walk f g i left a))) (end_line (walk f g i left a)) ∙
        ap (λ (s : Met). line_of s ++ lines left a) meets_here

-- ---- the loop

-- at array row n, with `compared` stores behind, whose lines are `done`
pub record Told (M : ℕ) (T R : List ℕ) (S : List Range) (from : Text) (limit i m : ℕ) (r : ℕ) (now : Text) (n compared : ℕ) : Type 0 where
  pub done : List ℕ
  pub wrote : Wrote from done (256 * compared) now
  pub rest : done ++ lines M (look R) (kept S) (source_at T) i (limit - compared) n ≡ lines M (look R) (kept S) (source_at T) i limit m
  pub below : n < r
  pub few : compared ≤ limit

module _ (M : ℕ) (T R : List ℕ) (S : List Range) (from : Text) (limit r : ℕ) (j : Index) (m : ℕ) (given : Telling T R S from.at limit r j m) where
  abbrev text : List ℕ
  text = lines M (look R) (kept S) (source_at T) j.row limit m

  pub tell_begins : Told M T R S from limit j.row m r from m 0
  tell_begins = record {
    done = [];
    wrote = wrote_none from;
    rest = ap (λ (k : ℕ). lines M (look R) (kept S) (source_at T) j.row k m) (omega arith);
    below = given.walking.below;
    few = omega arith;
  }

  module _ {now : Text} {n compared : ℕ} (inv : Told M T R S from limit j.row m r now n compared) where
    pub tell_walks : Walking R S r j n
    tell_walks = record { rows = given.walking.rows; index = given.walking.index; below = inv.below }

    pub tell_decodes : place n + LENGTH ≤ length R
    tell_decodes = row_room R r n given.walking.rows inv.below

    pub tell_sources : place n + LENGTH ≤ length T
    unfolding place
    tell_sources = omega (arith, given.room, inv.below)

    pub tell_near : now.at < 2 ^ 31
    tell_near = omega (arith, inv.wrote.put.few, inv.few, given.early, given.few)

    pub tell_early : now.at < 2 ^ 32
    tell_early = omega (arith, tell_near)

    -- the last line
    finish : {now' : Text} (last : List ℕ) → lines M (look R) (kept S) (source_at T) j.row (limit - compared) n ≡ last
        → Wrote now last 40 now' → Wrote from text (256 * limit + 40) now'
    finish last e p =
        let whole : inv.done ++ last ≡ text = ap (λ (ys : List ℕ). inv.done ++ ys) (sym e) ∙ inv.rest in
        rw (← whole) (wrote_then inv.wrote p (omega (arith, inv.few)))

    pub tell_spent : {now' : Text} → limit ≤ compared → Wrote now (stands_line n) 40 now' → Wrote from text (256 * limit + 40) now'
    tell_spent h p =
        let none : limit - compared ≡ 0 = omega (arith, inv.few) in
        finish (stands_line n) (rw none (none_left M (look R) (kept S) (source_at T) j.row n)) p

    module _ (more : compared < limit) {x : Row} (row : Decoded R n x) where
      left : limit - compared ≡ suc (limit - (compared + 1))
      left = omega arith

      pub tell_ends : {now' : Text} → (x.kind ≡ WRITE → ⊥) → Wrote now (stands_line n) 40 now' → Wrote from text (256 * limit + 40) now'
      tell_ends h p = finish (stands_line n) (rw left (no_store_lines M (look R) (kept S) (source_at T) j.row (limit - (compared + 1)) n (no_store R n x row h))) p

      module _ (kind : x.kind ≡ WRITE) where
        pub tell_compares : Comparing R S x.b j
        tell_compares = store_compared R n x row S r j tell_walks kind

        named : NamesBelow n (write x.a x.b x.c)
        named = rw (store_at R n x row kind) at (given.walking.rows.names n inv.below)

        -- whatever instruction is given
        pub tell_numbered : {why : Reason} {value source : ℕ} → Read value (2 ^ 32) source → Numbered source j.row (record { store = n; index = x.b; why = why })
        tell_numbered recorded = record {
          instruction = recorded.below;
          store = omega (arith, inv.below, given.walking.rows.few);
          index = omega (arith, named.1, inv.below, given.walking.rows.few);
          sought = omega (arith, given.sought, given.walking.rows.few);
        }

        module _ {why : Reason} (told : why ≡ reason (look R) (kept S) x.b j.row) {source : ℕ} (recorded : Read (source_at T n) (2 ^ 32) source)
            {now₂ : Text} (written : Wrote now (store_line M source j.row (record { store = n; index = x.b; why = why })) 256 now₂) where
          abbrev said : List ℕ
          said = store_line M (source_at T n) j.row (record { store = n; index = x.b; why = why })

          line : Wrote now said 256 now₂
          line = rw (← recorded.is) written

          -- the store's line, and the last one
          finish_2 : {now' : Text} (last : List ℕ)
              → lines M (look R) (kept S) (source_at T) j.row (suc (limit - (compared + 1))) n ≡ said ++ last
              → Wrote now₂ last 40 now' → Wrote from text (256 * limit + 40) now'
          finish_2 last e p =
              let whole : inv.done ++ said ++ last ≡ text =
              append_assoc inv.done _ last ∙ ap (λ (ys : List ℕ). inv.done ++ ys) (sym e ∙ rw left) ∙ inv.rest in
              rw (← whole) (wrote_then {i = 256 * (compared + 1)} (wrote_then inv.wrote line (omega arith)) p (omega (arith, inv.few)))

          module _ {k : Relation} (known : k ≡ known_by why) where
            pub tell_finds : {now' : Text} → k ≡ Same → Wrote now₂ (found_line x.c) 40 now' → Wrote from text (256 * limit + 40) now'
            tell_finds z p =
                finish_2 (found_line x.c)
                (lines_found M (look R) (kept S) (source_at T) j.row (limit - (compared + 1)) n x.a x.b x.c (store_at R n x row kind) why told (sym known ∙ z)) p

            pub tell_stops : {now' : Text} → k ≡ Unknown → Wrote now₂ (stands_line n) 40 now' → Wrote from text (256 * limit + 40) now'
            tell_stops z p =
                finish_2 (stands_line n)
                (lines_stopped M (look R) (kept S) (source_at T) j.row (limit - (compared + 1)) n x.a x.b x.c (store_at R n x row kind) why told (sym known ∙ z)) p

            pub tell_passes : k ≡ Apart → Told M T R S from limit j.row m r now₂ x.a (compared + 1)
            tell_passes z = record {
              done = inv.done ++ said;
              wrote = wrote_then inv.wrote line (omega arith);
              rest =
                  append_assoc inv.done _ _ ∙
                  ap (λ (ys : List ℕ). inv.done ++ ys)
                  (sym
                  (lines_passed M (look R) (kept S) (source_at T) j.row (limit - (compared + 1)) n x.a x.b x.c (store_at R n x row kind) why told (sym known ∙ z)) ∙
                  rw left) ∙
                  inv.rest;
              below = omega (arith, named.0, inv.below);
              few = omega arith;
            }
