-- The marks of a walk only grow entries, set the bits due, and change nothing where those are set.
use Prim.Native.Nat.{ℕ, ◌/◌, ◌%◌, ◌≤◌, ◌<◌}
use native.Mathlib.Omega.{arith}
use mathlib.Core.Path.{◌≡◌, refl, ap, ◌∙◌}
use mathlib.Core.Bool.{Bool, true, false, false≢true}
use mathlib.Core.List.{List}
use lib.ListN.{length}
use Rattle.word.specs.Bytes.{load}
use Rattle.entry.specs.Mark.{mark}
use Rattle.walk.specs.Path.{Path, End, Entry, ends, next, outside, missing, reserved, page, entries, end_of, marks}
use Rattle.machine.proofs.Values.{Grown, grown_refl, grown_trans}
use Rattle.machine.proofs.Memory.{marked_grown, marked_accessed, marked_dirty, mark_length, mark_none}
use Rattle.machine.proofs.Paths.{All, all_map, reread}
use Rattle.machine.proofs.Reading.{IsPage}

-- the addresses of a path's entries are multiples of 8
abbrev pub Aligned : Entry → Type 0
Aligned e = e.address % 8 ≡ 0

-- marks keep the length
pub marks_length : (write : Bool) (p : Path) (m : List ℕ) → length (marks write p m) ≡ length m
unfolding marks
marks_length write (ends (outside l at)) m = refl
marks_length write (ends (missing e)) m = refl
marks_length write (ends (reserved e)) m = refl
marks_length write (ends (page e base)) m = mark_length write m e.address
marks_length write (next e p) m = mark_length false (marks write p m) e.address ∙ marks_length write p m

-- marks only grow entries
pub marks_grown : (write : Bool) (p : Path) (m : List ℕ) (a : ℕ) → a % 8 ≡ 0 → All Aligned (entries p) → Grown (load 8 m a) (load 8 (marks write p m) a)
unfolding marks entries
marks_grown write (ends (outside l at)) m a h all = grown_refl _
marks_grown write (ends (missing e)) m a h all = grown_refl _
marks_grown write (ends (reserved e)) m a h all = grown_refl _
marks_grown write (ends (page e base)) m a h all = marked_grown write m e.address a all.0 h
marks_grown write (next e p) m a h all =
    grown_trans (marks_grown write p m a h all.1) (marked_grown false (marks write p m) e.address a all.0 h)

-- a bit that was set stays set
pub set_stays : (b b' : ℕ) → b % 2 ≤ b' % 2 → b % 2 ≡ 1 → b' % 2 ≡ 1
set_stays b b' h e = omega arith

-- an entry is accessed in memory
abbrev pub Accessed : List ℕ → Entry → Type 0
Accessed m e = load 8 m e.address / 32 % 2 ≡ 1

-- an entry that is at a multiple of 8 inside memory
abbrev Placed : List ℕ → Entry → Type 0
Placed m e = Aligned e × (e.address < length m)

pub accessed_stays : (m m' : List ℕ) (e : Entry) → Grown (load 8 m e.address) (load 8 m' e.address) → Accessed m e → Accessed m' e
accessed_stays m m' e g h = set_stays (load 8 m e.address / 32) (load 8 m' e.address / 32) g.accessed h

-- the marks of a success leave every entry accessed
pub marks_accessed : (write : Bool) (p : Path) (m : List ℕ) → IsPage (end_of p) → All Aligned (entries p) → All (λ e. e.address < length m) (entries p)
    → All (Accessed (marks write p m)) (entries p)
unfolding marks entries end_of
marks_accessed write (ends (outside l at)) m ok all low = tt
marks_accessed write (ends (missing e)) m ok all low = absurd ok
marks_accessed write (ends (reserved e)) m ok all low = absurd ok
marks_accessed write (ends (page e base)) m ok all low = (marked_accessed write m e.address low.0, tt)
marks_accessed write (next e p) m ok all low = (
  marked_accessed false (marks write p m) e.address (let h = low.0 in omega (arith, marks_length write p m)),
  all_map keep (entries p) all.1 (marks_accessed write p m ok all.1 low.1),
)
  where
    keep : (f : Entry) → Aligned f → Accessed (marks write p m) f → Accessed (mark false (marks write p m) e.address) f
    keep f f-aligned h =
        accessed_stays (marks write p m) (mark false (marks write p m) e.address) f
        (marked_grown false (marks write p m) e.address f.address all.0 f-aligned) h

-- the last entry is dirty in memory
abbrev pub DirtyEnd : List ℕ → End → Type 0
DirtyEnd m (outside l at) = Unit
DirtyEnd m (missing e) = Unit
DirtyEnd m (reserved e) = Unit
DirtyEnd m (page e base) = load 8 m e.address / 64 % 2 ≡ 1

-- an end at a multiple of 8 inside memory
abbrev pub PlacedEnd : List ℕ → End → Type 0
PlacedEnd m (outside l at) = Unit
PlacedEnd m (missing e) = Unit
PlacedEnd m (reserved e) = Unit
PlacedEnd m (page e base) = Placed m e

pub dirty_stays : (m m' : List ℕ) (x : End) → ((e : Entry) → Aligned e → Grown (load 8 m e.address) (load 8 m' e.address))
    → PlacedEnd m x → DirtyEnd m x → DirtyEnd m' x
dirty_stays m m' (outside l at) g placed h = tt
dirty_stays m m' (missing e) g placed h = tt
dirty_stays m m' (reserved e) g placed h = tt
dirty_stays m m' (page e base) g placed h =
    set_stays (load 8 m e.address / 64) (load 8 m' e.address / 64) (g e placed.0).dirty h

-- a write leaves the last entry dirty
pub marks_dirty : (p : Path) (m : List ℕ) → All Aligned (entries p) → PlacedEnd m (end_of p) → DirtyEnd (marks true p m) (end_of p)
unfolding marks entries end_of
marks_dirty (ends (outside l at)) m all placed = tt
marks_dirty (ends (missing e)) m all placed = tt
marks_dirty (ends (reserved e)) m all placed = tt
marks_dirty (ends (page e base)) m all placed = marked_dirty m e.address placed.1
marks_dirty (next e p) m all placed =
    dirty_stays (marks true p m) (mark false (marks true p m) e.address) (end_of p)
    (λ f f-aligned. marked_grown false (marks true p m) e.address f.address all.0 f-aligned)
    (same_placed (end_of p) placed)
    (marks_dirty p m all.1 placed)
  where
    same_placed : (x : End) → PlacedEnd m x → PlacedEnd (marks true p m) x
    same_placed (outside l at) h = tt
    same_placed (missing e) h = tt
    same_placed (reserved e) h = tt
    same_placed (page e base) h = (h.0, let low = h.1 in omega (arith, marks_length true p m))

-- where the bits are set, marks change nothing
pub marks_none : (write : Bool) (p : Path) (m : List ℕ) → All (Accessed m) (entries p) → (write ≡ true → DirtyEnd m (end_of p))
    → marks write p m ≡ m
unfolding marks entries end_of
marks_none write (ends (outside l at)) m all dirty = refl
marks_none write (ends (missing e)) m all dirty = refl
marks_none write (ends (reserved e)) m all dirty = refl
marks_none write (ends (page e base)) m all dirty = mark_none write m e.address all.0 dirty
marks_none write (next e p) m all dirty =
    ap (λ (x : List ℕ). mark false x e.address) (marks_none write p m all.1 dirty)
    ∙ mark_none false m e.address all.0 (λ h. absurd (false≢true h))

-- marks look at addresses alone
pub marks_again : (write : Bool) (m m' : List ℕ) (p : Path) → marks write (reread m p) m' ≡ marks write p m'
unfolding marks
marks_again write m m' (ends (outside l at)) = refl
marks_again write m m' (ends (missing e)) = refl
marks_again write m m' (ends (reserved e)) = refl
marks_again write m m' (ends (page e base)) = refl
marks_again write m m' (next e p) = ap (λ (x : List ℕ). mark false x e.address) (marks_again write m m' p)
