-- What an entry says: the order of the tests of an entry, in plain bools, and what holds of an entry that names a table.
use Prim.Native.Nat.{ℕ, ◌+◌, ◌/◌, ◌^◌, ◌≤◌, ◌<◌}
use native.Mathlib.Nat.{mod-lt}
use native.Mathlib.Omega.{arith}
use mathlib.Core.Path.{◌≡◌, refl, subst}
use mathlib.Core.Bool.{Bool, true, false, ◌&&◌, ◌||◌}
use borrow.Author.Tests.{leb-false}
use lib.Dec.{leb, lit<}
use Rattle.word.specs.Bits.{bit, field}
use Rattle.address.specs.declared.PhysAddr.{PhysAddr}
use Rattle.entry.specs.declared.Says.{Says}
use Rattle.entry.specs.declared.Says.TheVariants.{Reserved, Table}
use Rattle.entry.specs.Masks.{under}
use Rattle.entry.specs.Says.{says_by, table_base, is_page}

-- what an entry says by its tests: present, met by the mask, at level 1, PS, above the largest page's level, a bit inside the page
abbrev pub answer : ℕ → ℕ → Bool → Bool → Bool → Bool → Bool → Bool → Says
answer level entry present met low ps above inside =
    says_by present (met || ((ps && above) || ((low || ps) && inside))) (low || ps) level entry

-- a bit inside a large page is reserved, where no earlier test tells
pub inside_page_lem : (level entry : ℕ) (present met low ps above inside : Bool)
    → present ≡ true → met ≡ false → low ≡ false → ps ≡ true → above ≡ false → inside ≡ true
    → Reserved ≡ answer level entry present met low ps above inside
inside_page_lem level entry present met low ps above inside a b c d e f = rw (a, b, c, d, e, f)

-- an entry that names a table is no page
says_table : (present met page : Bool) (level entry : ℕ) (t : PhysAddr)
    → says_by present met page level entry ≡ Table t → (page ≡ false) × (table_base entry ≡ t)
says_table true true page level entry t h = (cc, cc)
says_table true false true level entry t h = (cc, cc)
says_table true false false level entry t h = (refl, cc)
says_table false met page level entry t h = (cc, cc)

-- the same of what it says under a mask
under_table : (mask level entry : ℕ) (t : PhysAddr) → under mask level entry ≡ Table t → (is_page level entry ≡ false) × (table_base entry ≡ t)
under_table mask level entry t h = says_table (bit entry 0) _ (is_page level entry) level entry t h

-- where none of two holds the first does not
or_left : (a b : Bool) → (a || b) ≡ false → a ≡ false
or_left true b h = h
or_left false b h = refl

-- only an entry above level 1 names a table
pub table_level : (mask level entry : ℕ) (t : PhysAddr) → under mask level entry ≡ Table t → 1 < level
table_level mask level entry t h = leb-false level 1 (or_left (leb level 1) (bit entry 7) (under_table mask level entry t h).0)

-- a table that an entry names lies below 2^52
pub table_fits : (mask level entry : ℕ) (t : PhysAddr) → under mask level entry ≡ Table t → t.0 + 4096 ≤ 2 ^ 52
table_fits mask level entry t h =
    let small : field entry 12 40 < 2 ^ 40 = mod-lt (entry / 2 ^ 12) (lit< tt) in
    let plain : (table_base entry).0 + 4096 ≤ 2 ^ 52 = omega arith in
    subst (λ (z : PhysAddr). z.0 + 4096 ≤ 2 ^ 52) (under_table mask level entry t h).1 plain
