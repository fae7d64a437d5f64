-- The frame of a page: every address of the page has the same, and it is below 2^40.
use Prim.Native.Nat.{ℕ, zero, suc, ◌+◌, ◌-◌, ◌*◌, ◌/◌, ◌%◌, ◌^◌, ◌≤◌, ◌<◌}
use native.Mathlib.Omega.{arith}
use mathlib.Core.Path.{◌≡◌, refl, sym, ap, ◌∙◌}
use mathlib.Core.Bool.{Bool, true, false, ◌||◌}
use borrow.Author.Tests.{eqb-true}
use lib.Arith.{mod-mul}
use lib.Dec.{eqb, lit<}
use lib.Pow.{pow-add, pow_pos}
use Rattle.word.specs.Bits.{field}
use Rattle.address.specs.declared.VirtAddr.{VirtAddr}
use Rattle.address.specs.Address.{page_bits, tag, offset, plus, frame_of, in_frame, canonical}

-- an offset is the tag's part and the offset in the piece of 4 KiB
offset_split : (va : VirtAddr) (l : ℕ) → offset va (suc l) ≡ tag va % 2 ^ (9 * l) * 4096 + va.0 % 4096
offset_split va l =
    let bits : page_bits (suc l) ≡ 9 * l + 12 = omega arith in
    ap (λ (k : ℕ). va.0 % 2 ^ k) bits ∙ ap (λ (x : ℕ). va.0 % x) (pow-add 2 (9 * l) 12)
    ∙ mod-mul va.0 {m = 2 ^ (9 * l)} {c = 4096} (pow_pos (9 * l)) (lit< tt)

piece : (x r y : ℕ) → ((x * 4096 + r % 4096) % 2 ^ 64 / 4096 * 4096 + y % 2 ^ 12 % 4096) % 2 ^ 64 ≡ (x * 4096 + y % 4096) % 2 ^ 64
piece x r y = omega arith

sums : (k t r : ℕ) → k * 4096 + (t * 4096 + r) ≡ (k + t) * 4096 + r
sums k t r = omega arith

-- every address of a page is found from the frame of any other
pub same_frame : (first later : VirtAddr) (k size : ℕ) → 1 ≤ size → tag first ≡ tag later
    → in_frame (frame_of (plus (record { 0 = k * 4096 }) (offset first size))) (offset later 1) ≡ plus (record { 0 = k * 4096 }) (offset later size)
same_frame first later k zero low same = absurd (omega arith)
same_frame first later k (suc l) low same =
    ap (λ (x : ℕ). record { 0 = x })
    (rw (
      offset_split first l,
      offset_split later l,
      same,
      sums k (tag later % 2 ^ (9 * l)) (first.0 % 4096),
      sums k (tag later % 2 ^ (9 * l)) (later.0 % 4096),
    )
    (piece (k + tag later % 2 ^ (9 * l)) first.0 later.0))

-- a page lies below 2^52
below : (v x size : ℕ) → 1 ≤ size → size ≤ 3 → field v (page_bits size) (52 - page_bits size) * 2 ^ page_bits size + x % 2 ^ page_bits size < 2 ^ 52
below v x zero low high = absurd (omega arith)
below v x (suc zero) low high = omega arith
below v x (suc (suc zero)) low high = omega arith
below v x (suc (suc (suc zero))) low high = omega arith
below v x (suc (suc (suc (suc size)))) low high = absurd (omega arith)

frame_of_lem : (y : ℕ) → y < 2 ^ 52 → y % 2 ^ 64 / 4096 < 2 ^ 40
frame_of_lem y h = omega arith

pub frame_small : (v size : ℕ) (va : VirtAddr) (base : ℕ) → 1 ≤ size → size ≤ 3
    → base ≡ field v (page_bits size) (52 - page_bits size) * 2 ^ page_bits size
    → (frame_of (plus (record { 0 = base }) (offset va size))).0 < 2 ^ 40
frame_small v size va base low high is =
    rw is (frame_of_lem (field v (page_bits size) (52 - page_bits size) * 2 ^ page_bits size + va.0 % 2 ^ page_bits size) (below v va.0 size low high))

-- the base of a page is a frame's
pub base_frame : (v size base : ℕ) → 1 ≤ size → size ≤ 3 → base ≡ field v (page_bits size) (52 - page_bits size) * 2 ^ page_bits size
    → base ≡ base / 4096 * 4096
base_frame v zero base low high is = absurd (omega arith)
base_frame v (suc zero) base low high is = omega arith
base_frame v (suc (suc zero)) base low high is = omega arith
base_frame v (suc (suc (suc zero))) base low high is = omega arith
base_frame v (suc (suc (suc (suc size)))) base low high is = absurd (omega arith)

-- canonical form looks at the tag alone
high_tag : (va : VirtAddr) → va.0 / 2 ^ 47 ≡ tag va / 2 ^ 35
high_tag va = omega arith

pub canonical_same : (first later : VirtAddr) → tag first ≡ tag later → canonical first ≡ canonical later
canonical_same first later same =
    ap (λ (x : ℕ). eqb x 0 || eqb x (2 ^ 17 - 1)) (high_tag first ∙ ap (λ (t : ℕ). t / 2 ^ 35) same ∙ sym (high_tag later))

either : (x : ℕ) (a b : Bool) → a ≡ eqb x 0 → b ≡ eqb x (2 ^ 17 - 1) → (a || b) ≡ true → x < 2 ^ 17
either x true b ea eb h = let e = eqb-true x 0 (sym ea) in omega arith
either x false b ea eb h = let e = eqb-true x (2 ^ 17 - 1) (sym eb ∙ h) in omega arith

-- a canonical address has a tag below 2^52
pub tag_small : (va : VirtAddr) → canonical va ≡ true → tag va < 2 ^ 52
tag_small va h =
    let small = either (va.0 / 2 ^ 47) (eqb (va.0 / 2 ^ 47) 0) (eqb (va.0 / 2 ^ 47) (2 ^ 17 - 1)) refl refl h in
    omega arith
