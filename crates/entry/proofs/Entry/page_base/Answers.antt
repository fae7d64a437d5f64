-- `Entry::page_base` meets its contract.
use Prim.Native.Nat.{ℕ}
use native.Mathlib.Omega.{arith}
use mathlib.Core.Path.{ap}
use Rattle.word.proofs.Laws.{ones}
use Rattle.address.specs.Address.{page_bits}
use Rattle.entry.proofs.Masks.{masked}
use Rattle.entry.proofs.Entry.page_base.Goals as goal

pub returns : goal.returns
returns c =
    let n = page_bits c.args.self.level in
    ap (λ (x : ℕ). record { 0 = x }) (rw (ones n (omega arith)) (masked c.args.self.value n 52))
