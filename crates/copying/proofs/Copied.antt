-- A part of a slice that the library has copied bytes into is a run of stores of them.
use Prim.Native.Nat.{ℕ, ◌+◌, ◌-◌, ◌≤◌}
use native.Mathlib.Omega.{arith}
use mathlib.Core.Path.{◌≡◌, sym}
use mathlib.Core.List.{List}
use lib.ListN.{length, take, drop, length-drop}
use lib.Seq.{sets, sets-eq, length-take-le, drop-drop}
use borrow.Rule.Slice.PartMut.{put_mid}
use Rattle.std.proofs.Common.{append_assoc}
use Rattle.copying.specs.Copy.{Rooms}

pub part_copied : {from : List ℕ} {start count : ℕ} {to : List ℕ} {place : ℕ} → Rooms from start count to place
    → {part : List ℕ} → part ≡ take (start + count - start) (drop start from)
    → put_mid place (place + count - place) to part ≡ sets to place (take count (drop start from))
part_copied {from} {start} {count} {to} {place} rooms is =
    let source : start + count ≤ length from = rooms.source in
    let target : place + count ≤ length to = rooms.target in
    let copied = take count (drop start from) in
    let read : start + count - start ≡ count = omega arith in
    let written : place + count - place ≡ count = omega arith in
    let long : length copied ≡ count = length-take-le count (drop start from) (rw (length-drop start from) (omega arith)) in
    rw (written, is, read, drop-drop count place to, ← append_assoc) (sym (rw long at (sets-eq copied to place (omega arith))))
