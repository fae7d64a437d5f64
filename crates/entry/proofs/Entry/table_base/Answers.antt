-- `Entry::table_base` meets its contract.
use Prim.Native.Nat.{ℕ}
use mathlib.Core.Path.{ap}
use Rattle.entry.proofs.Masks.{masked}
use Rattle.entry.proofs.Entry.table_base.Goals as goal

pub returns : goal.returns
returns c = ap (λ (x : ℕ). record { 0 = x }) (masked c.args.self.value 12 52)
