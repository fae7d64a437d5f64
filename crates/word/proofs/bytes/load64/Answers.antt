-- `bytes::load64` meets its contract.
use Prim.Native.Nat.{ℕ, ◌+◌, ◌≤◌}
use native.Mathlib.Omega.{arith}
use native.Mathlib.Nat.{add-zero}
use mathlib.Core.Path.{ap, sym, ◌∙◌, ◌≡◌}
use borrow.Author.Tests.{le-leb}
use mathlib.Core.List.{List}
use lib.ListN.{length, take}
use Rattle.std.proofs.Common.{Some, drop}
use Rattle.std.proofs.Math.Seq.{take-length}
use Rattle.std.proofs.lemmas.List.{length-drop}
use Rattle.word.specs.Bytes.{load}
use Rattle.word.proofs.Laws.{load_drop, load_take, load_eight}
use Rattle.word.proofs.bytes.load64.Goals as goal

pub returns : goal.returns
returns c =
    let a = c.args in
    let part : c.in_ok-number.number.now ≡ take 8 (drop a.at a.bytes.now) = c.in_ok-number.ensures.cases.same ∙ ap (λ (z : List ℕ). take 8 z) (c.in_ok-get.ensures.lookup.0.2 ∙ rw (← length-drop a.at a.bytes.now) (take-length (drop a.at a.bytes.now))) in
    let fits : a.at + 8 ≤ length a.bytes.now = omega (arith, c.in_ok-number.ensures.cases.enough, c.in_ok-get.ensures.lookup.0.3) in
    simp (le-leb (a.at + 8) (length a.bytes.now) fits)
    (ap Some (c.from_le_bytes.ensures ∙ sym (load_eight c.in_ok-number.number.now)
    ∙ ap (λ (z : List ℕ). load 8 z 0) part ∙ load_take 8 8 (drop a.at a.bytes.now) 0 (omega arith) ∙ load_drop 8 a.at a.bytes.now 0 ∙ ap (λ (n : ℕ). load 8 a.bytes.now n) (add-zero a.at)))
