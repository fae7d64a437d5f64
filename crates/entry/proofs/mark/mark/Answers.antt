-- `mark::mark` meets its contract.
use Prim.Native.Nat.{ℕ}
use mathlib.Core.Path.{◌≡◌, ap}
use lib.ListN.{get_or, set}
use Rattle.word.specs.Bits.{with_bit}
use Rattle.entry.specs.Mark.{mark_byte}
use Rattle.entry.proofs.Marks.{set_bit}
use Rattle.entry.proofs.mark.mark.Goals as goal
use Rattle.entry.proofs.mark.mark.Goals.{then-dirty, else-dirty}

pub returns-after-dirty : goal.returns-after-dirty
returns-after-dirty c =
    let a = c.args in
    let byte : ℕ = get_or a.memory.now a.entry.0 0 in
    let marked : c.if-dirty.memory ≡ mark_byte a.dirty byte =
    elim c.if-dirty.branch [
      | then-dirty w ↦ rw (w.memory-is, w.if-dirty.true, set_bit 5 byte, set_bit 6 (with_bit 5 byte))
      | else-dirty w ↦ rw (w.memory-is, w.if-dirty.false, set_bit 5 byte)
    ] in
    ap (λ (b : ℕ). set a.memory.now a.entry.0 b) marked
