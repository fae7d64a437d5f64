-- The walk from the root: every right is held, and nothing was read above.
use Prim.Native.Nat.{ℕ, ◌-◌}
use native.Mathlib.Nat.{zero-add}
use mathlib.Core.Path.{◌≡◌, ap, ap₂, ◌∙◌, fun_ext}
use mathlib.Core.Bool.{Bool, true, not, cond}
use mathlib.Core.List.{List}
use lib.Bits.{bit_and}
use Rattle.word.specs.Bits.{bit}
use Rattle.settings.specs.declared.Settings.{Settings}
use Rattle.settings.specs.Settings.{nxe, root}
use Rattle.address.specs.declared.PhysAddr.{PhysAddr}
use Rattle.address.specs.declared.VirtAddr.{VirtAddr}
use Rattle.entry.specs.declared.Says.{Says}
use Rattle.entry.specs.Masks.{under, forbidden}
use Rattle.entry.specs.Says.{says}
use Rattle.entry.specs.Rights.{allow}
use Rattle.entry.proofs.Masks.{under_says}
use Rattle.entry.proofs.Meeting.{meet}
use Rattle.walk.specs.declared.Way.{Way}
use Rattle.walk.specs.declared.Cause.TheVariants.{Missing, Reserved, Rights}
use Rattle.walk.specs.Answers.{Walked}
use Rattle.walk.specs.declared.Unmapped.TheVariants.{Refused, Outside}
use Rattle.walk.specs.Access.{needed, writes}
use Rattle.walk.specs.Descent.{ended_below, walked_below, IsDescent}
use Rattle.walk.specs.Path.{Path, End, outside, missing, reserved, page, path, entries, end_of, reads, rights, report, every}
use Rattle.walk.specs.Walk.{ended, walked, after, walk_answer, IsWalk}
use Rattle.std.specs.Prelude.{Ok, Err}

all_held : (p : Path) → bit_and 7 (rights p) ≡ rights p
all_held p =
    meet true true true (every (λ (v : ℕ). bit v 1) (entries p)) (every (λ (v : ℕ). bit v 2) (entries p))
    (every (λ (v : ℕ). not (bit v 63)) (entries p))

end_top : (need : ℕ) (p : Path) (x : End) → ended_below need 7 0 p x ≡ ended need p x
unfolding ended_below ended
end_top need p (outside l at) = ap (λ (c : ℕ). Err (Outside (record { 0 = at }) l c)) (zero-add (reads p))
end_top need p (missing e) = ap (λ (c : ℕ). Err (Refused (Missing e.level) c)) (zero-add (reads p))
end_top need p (reserved e) = ap (λ (c : ℕ). Err (Refused (Reserved e.level) c)) (zero-add (reads p))
end_top need p (page e base) =
    ap₂ last (all_held p) (zero-add (reads p))
  where
    last : ℕ → ℕ → Walked
    last met count =
        cond (allow need met)
        (Ok (record { base = record { 0 = base }; last = e.value; rights = met; size = e.level; reads = count }))
        (Err (Refused (Rights (report need (entries p))) count))

-- the walk from the root is the rules' walk
pub top : (need : ℕ) (p : Path) → walked_below need 7 (4 - 4) p ≡ walked need p
top need p = end_top need p (end_of p)

-- an entry says the same under the mask and given the width and NXE
tells_same : (width : ℕ) (x : Bool) → under (forbidden width x) ≡ says width x
tells_same width x = fun_ext (λ (l : ℕ). fun_ext (λ (e : ℕ). under_says width x l e))

module _ (s : Settings) (va : VirtAddr) (a : Way) (m : List ℕ) (mask : ℕ) (the-mask : mask ≡ forbidden s.width (nxe s))
    (need : ℕ) (the-need : need ≡ needed s a) (b : Bool) (the-write : b ≡ writes a) (r : PhysAddr) (the-root : r ≡ root s)
    (w : Walked) (m' : List ℕ) where
  same_path : path (under mask) m va 4 r.0 ≡ path (says s.width (nxe s)) m va 4 (root s).0
  same_path =
      ap₂ (λ (tell : ℕ → ℕ → Says) (base : ℕ). path tell m va 4 base) (ap under the-mask ∙ tells_same s.width (nxe s))
      (ap (λ (z : PhysAddr). z.0) the-root)

  pub whole_walk : IsDescent (record { address = va; forbidden = mask; needed = need; write = b }) 7 4 r m w m' → IsWalk s va a m w m'
  whole_walk descent =
      let answers : w ≡ walk_answer s va a m = descent.0 ∙ ap₂ (λ (n : ℕ) (p : Path). walked_below n 7 0 p) the-need same_path ∙ top (needed s a) (path (says s.width (nxe s)) m va 4 (root s).0) in
      (answers, descent.1 ∙ (λ i. after (the-write i) (same_path i) m (answers i)))
