-- A walk made again where each entry holds what an earlier walk of the page left.
use Prim.Native.Nat.{ℕ, ◌/◌, ◌%◌, ◌≤◌, ◌<◌}
use native.Mathlib.Omega.{arith}
use mathlib.Core.Path.{◌≡◌, refl, sym, ap, subst, ◌∙◌}
use mathlib.Core.Bool.{Bool, true, false, ◌||◌, cond}
use mathlib.Core.List.{List}
use borrow.Author.Tests.{eqb-true}
use lib.ListN.{length}
use Rattle.word.specs.Bits.{bit}
use Rattle.word.specs.Bytes.{load}
use Rattle.address.specs.declared.VirtAddr.{VirtAddr}
use Rattle.address.specs.Address.{tag}
use Rattle.entry.specs.Says.{says}
use Rattle.entry.specs.Rights.{allow}
use Rattle.walk.specs.declared.Cause.TheVariants.{Rights}
use Rattle.walk.specs.declared.Mapping.{Mapping}
use Rattle.walk.specs.declared.Unmapped.TheVariants.{Refused}
use Rattle.walk.specs.Path.{Path, End, Entry, ends, next, outside, missing, reserved, page, path, entries, end_of, reads, rights, report, marks}
use Rattle.walk.specs.Walk.{ended, walked}
use Rattle.machine.proofs.Values.{Grown, grown_trans}
use Rattle.machine.proofs.Paths.{All, all_map, Kept, reread, reread_end, refreshed, path_again, end_again, rights_again}
use Rattle.machine.proofs.Reading.{Read, IsPage, read_path}
use Rattle.machine.proofs.Marking.{Aligned, Accessed, DirtyEnd, PlacedEnd, marks_grown, marks_accessed, marks_dirty, marks_none, marks_again, accessed_stays, set_stays}
use Rattle.std.specs.Prelude.{Ok, Err}

-- a walk that ends in a success: its last entry, its page's base, and that its rights allow
pub record Success (need : ℕ) (p : Path) (found : Mapping) : Type 0 where
  pub last : Entry
  pub base : ℕ
  pub at_end : end_of p ≡ page last base
  pub allowed : allow need (rights p) ≡ true
  pub is_found : found ≡ record { base = record { 0 = base }; last = last.value; rights = rights p; size = last.level; reads = reads p }

-- an answer that tells of a success
pub success : (need : ℕ) (p : Path) (found : Mapping) → walked need p ≡ Ok found → Success need p found
unfolding ended
success need p found h = go (end_of p) refl h
  where
    judged : (e : Entry) (b : ℕ) (ok : Bool) → end_of p ≡ page e b → allow need (rights p) ≡ ok
        → cond ok (Ok (record { base = record { 0 = b }; last = e.value; rights = rights p; size = e.level; reads = reads p }))
        (Err (Refused (Rights (report need (entries p))) (reads p)))
        ≡ Ok found
        → Success need p found
    judged e b true end ok h = record { last = e; base = b; at_end = end; allowed = ok; is_found = cc }
    judged e b false end ok h = record { last = e; base = b; at_end = end; allowed = cc; is_found = cc }

    go : (x : End) → end_of p ≡ x → ended need p x ≡ Ok found → Success need p found
    go (outside l at) end h = let z : ◌≡◌ {A = ℕ} 0 1 = cc in absurd (omega arith)
    go (missing e) end h = let z : ◌≡◌ {A = ℕ} 0 1 = cc in absurd (omega arith)
    go (reserved e) end h = let z : ◌≡◌ {A = ℕ} 0 1 = cc in absurd (omega arith)
    go (page e b) end h = judged e b (allow need (rights p)) end refl h

-- and the other way round
pub succeeds : (need : ℕ) (p : Path) (e : Entry) (b : ℕ) → end_of p ≡ page e b → allow need (rights p) ≡ true
    → walked need p ≡ Ok (record { base = record { 0 = b }; last = e.value; rights = rights p; size = e.level; reads = reads p })
unfolding ended
succeeds need p e b end ok = rw (end, ok)

-- the last entry has what all have
abbrev EndHas : (Entry → Type 0) → End → Type 0
EndHas P (outside l at) = Unit
EndHas P (missing e) = Unit
EndHas P (reserved e) = Unit
EndHas P (page e base) = P e

end_has : (P : Entry → Type 0) (p : Path) → All P (entries p) → EndHas P (end_of p)
unfolding entries end_of
end_has P (ends (outside l at)) all = tt
end_has P (ends (missing e)) all = tt
end_has P (ends (reserved e)) all = tt
end_has P (ends (page e base)) all = all.0
end_has P (next e p) all = end_has P p all.1

pub last_has : (P : Entry → Type 0) (p : Path) (e : Entry) (b : ℕ) → end_of p ≡ page e b → All P (entries p) → P e
last_has P p e b end all = subst (EndHas P) end (end_has P p all)

-- a path that ends at a page has an entry
pub reads_some : (p : Path) → IsPage (end_of p) → 1 ≤ reads p
unfolding entries end_of
reads_some (ends (outside l at)) ok = absurd ok
reads_some (ends (missing e)) ok = absurd ok
reads_some (ends (reserved e)) ok = absurd ok
reads_some (ends (page e base)) ok = omega arith
reads_some (next e p) ok = omega arith

module _ (width : ℕ) (nxe : Bool) (wide : 7 ≤ width) (root : ℕ) (root_aligned : root % 8 ≡ 0) (m₀ m : List ℕ) (as_long : length m₀ ≡ length m)
    (first later : VirtAddr) (same_page : tag first ≡ tag later) (write₀ : Bool) (e : Entry) (b : ℕ) where
  -- the path then
  abbrev before : Path
  before = path (says width nxe) m₀ first 4 root

  -- the path now
  abbrev now : Path
  now = path (says width nxe) m later 4 root

  -- what the walk left only grew since
  abbrev pub Grew : Type 0
  Grew = All (λ (f : Entry). Grown (load 8 (marks write₀ before m₀) f.address) (load 8 m f.address)) (entries before)

  module _ (at_end : end_of before ≡ page e b) (grew : Grew) where
    was_page : IsPage (end_of before)
    was_page = rw at_end tt

    was_read : All (Read nxe m₀) (entries before)
    was_read = (read_path width nxe m₀ first 4 root root_aligned was_page).0

    was_aligned : All Aligned (entries before)
    was_aligned = all_map (λ f r g. r.aligned) (entries before) was_read was_read

    was_inside : All (λ f. f.address < length m₀) (entries before)
    was_inside = all_map (λ f r g. r.lies_inside) (entries before) was_read was_read

    pub last_read : Read nxe m₀ e
    last_read = last_has (Read nxe m₀) before e b at_end was_read

    kept : All (Kept m) (entries before)
    kept = all_map grows (entries before) was_read grew
      where
        grows : (f : Entry) → Read nxe m₀ f → Grown (load 8 (marks write₀ before m₀) f.address) (load 8 m f.address) → Kept m f
        grows f r g = rw r.value_is (grown_trans (marks_grown write₀ before m₀ f.address r.aligned was_aligned) g)

    again : now ≡ reread m before
    again = path_again width nxe wide m₀ m as_long first later same_page 4 root kept

    pub end_now : end_of now ≡ page (refreshed m e) b
    end_now = ap end_of again ∙ end_again m before ∙ ap (reread_end m) at_end

    -- the last entry grew at most
    pub last_grew : Grown e.value (load 8 m e.address)
    last_grew = last_has (Kept m) before e b at_end kept

    pub rights_now : rights now ≡ rights before
    rights_now = ap (λ (p : Path). rights p) again ∙ rights_again m before kept

    accessed_now : All (Accessed m) (entries before)
    accessed_now =
        all_map (λ f g a. accessed_stays (marks write₀ before m₀) m f g a) (entries before) grew
        (marks_accessed write₀ before m₀ was_page was_aligned was_inside)

    placed : PlacedEnd m₀ (end_of before)
    placed = rw at_end (last_read.aligned, last_read.lies_inside)

    -- where the page was dirty or the walk was for a write, its entry is dirty now
    dirty_now : (was written : Bool) → bit e.value 6 ≡ was → write₀ ≡ written → (was || written) ≡ true → load 8 m e.address / 64 % 2 ≡ 1
    dirty_now true written is-was is-written h =
        let g = (last_has (Kept m) before e b at_end kept).dirty in
        let six = eqb-true (e.value / 64 % 2) 1 is-was in
        set_stays (e.value / 64) (load 8 m e.address / 64) g six
    dirty_now false written is-was is-written h =
        let g = (last_has (λ (f : Entry). Grown (load 8 (marks write₀ before m₀) f.address) (load 8 m f.address)) before e b at_end grew).dirty in
        let six : load 8 (marks write₀ before m₀) e.address / 64 % 2 ≡ 1 =
        subst (λ (w : Bool). load 8 (marks w before m₀) e.address / 64 % 2 ≡ 1) (sym (is-written ∙ h))
        (subst (DirtyEnd (marks true before m₀)) at_end (marks_dirty before m₀ was_aligned placed)) in
        set_stays (load 8 (marks write₀ before m₀) e.address / 64) (load 8 m e.address / 64) g six

    -- the marks of the walk now change nothing
    pub memory_now : (write : Bool) → (write ≡ true → (bit e.value 6 || write₀) ≡ true) → marks write now m ≡ m
    memory_now write dirty =
        ap (λ (p : Path). marks write p m) again ∙ marks_again write m m before
        ∙ marks_none write before m accessed_now
        (λ h. subst (DirtyEnd m) (sym at_end) (dirty_now (bit e.value 6) write₀ refl refl (dirty h)))
