-- `bytes::store64` meets its contract.
use Prim.Native.Nat.{ℕ, ◌+◌, ◌-◌, ◌≤◌}
use native.Mathlib.Omega.{arith}
use mathlib.Core.Path.{◌≡◌, ap, ◌∙◌}
use mathlib.Core.List.{List}
use borrow.Rule.Slice.PartMut.{put_mid}
use borrow.Author.Tests.{le-leb}
use lib.ListN.{length}
use Rattle.word.proofs.Laws.{store_between, low_eight}
use Rattle.word.proofs.bytes.store64.Goals as goal

pub returns-clause-bytes : goal.returns-clause-bytes
returns-clause-bytes c =
    let a = c.args in
    let fits : a.at + 8 ≤ length a.bytes.now = omega (arith, c.if-bytes-at.false) in
    let width : a.at + 8 - a.at ≡ 8 = omega arith in
    simp (le-leb (a.at + 8) (length a.bytes.now) fits) (rw (store_between 8 a.bytes.now a.at a.number fits)
    (ap (λ (k : ℕ). put_mid a.at k a.bytes.now c.copy_from_slice.new.self) width
    ∙ ap (λ (z : List ℕ). put_mid a.at 8 a.bytes.now z) (c.copy_from_slice.ensures.after ∙ c.to_le_bytes.ensures ∙ low_eight a.number)))
