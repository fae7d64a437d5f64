-- `Settings::root_served` meets its contract.
use Prim.Native.Nat.{◌^◌, ◌<◌}
use native.Mathlib.Nat.{lt_of_lt_of_le}
use native.Mathlib.Omega.{arith}
use mathlib.Core.Path.{sym}
use borrow.Author.Tests.{lt-ltb}
use lib.Pow.{pow_mono}
use Rattle.settings.proofs.Laws.{shifted_out}
use Rattle.settings.proofs.Settings.root_served.Goals as goal

pub returns-then-width-ge64 : goal.returns-then-width-ge64
returns-then-width-ge64 c =
    let s = c.args.self in
    let small : s.cr3 < 2 ^ 64 = omega arith in
    sym (lt-ltb s.cr3 (2 ^ s.width) (lt_of_lt_of_le small (pow_mono {i = 64} {j = s.width} c.if-width-ge64.true)))

pub returns : goal.returns
returns c = let s = c.args.self in shifted_out s.cr3 s.width
