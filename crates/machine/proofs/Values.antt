-- An entry's value and the same with Accessed or Dirty set since: what an entry says and gives does not look at those two bits.
use Prim.Native.Nat.{ℕ, zero, suc, ◌+◌, ◌-◌, ◌*◌, ◌/◌, ◌%◌, ◌^◌, ◌≤◌}
use native.Mathlib.Nat.{le_refl, le_trans, div-div-eq-div-mul}
use native.Mathlib.Omega.{arith}
use mathlib.Core.Path.{◌≡◌, refl, sym, ap, ◌∙◌}
use mathlib.Core.Bool.{Bool, true, false, not, ◌&&◌, ◌||◌, cond}
use lib.Pow.{pow-add}
use lib.Dec.{eqb, leb, ltb, lit≤}
use Rattle.word.specs.Bits.{bit, field, with_bit}
use Rattle.entry.specs.declared.Says.{Says}
use Rattle.entry.specs.declared.Says.TheVariants.{Missing, Reserved, Table, Page}
use Rattle.entry.specs.Memory.{memory_type}
use Rattle.entry.specs.Says.{says, largest}
use Rattle.entry.specs.Mark.{mark_byte}
use Rattle.address.specs.Address.{page_bits}
use Rattle.machine.specs.Holds.{Since, accessed_since, dirty_since}

-- a value that another became: A and D set or as they were, every other bit as it was
pub record Grown (v v' : ℕ) : Type 0 where
  pub low : v % 32 ≡ v' % 32
  pub high : v / 128 ≡ v' / 128
  pub accessed : v / 32 % 2 ≤ v' / 32 % 2
  pub dirty : v / 64 % 2 ≤ v' / 64 % 2

pub grown_refl : (v : ℕ) → Grown v v
grown_refl v = record { low = refl; high = refl; accessed = le_refl _; dirty = le_refl _ }

pub grown_trans : {u v w : ℕ} → Grown u v → Grown v w → Grown u w
grown_trans g h =
    record { low = g.low ∙ h.low; high = g.high ∙ h.high; accessed = le_trans g.accessed h.accessed; dirty = le_trans g.dirty h.dirty }

pub grown_5 : (v : ℕ) → Grown v (with_bit 5 v)
grown_5 v = record { low = omega arith; high = omega arith; accessed = omega arith; dirty = omega arith }

pub grown_6 : (v : ℕ) → Grown v (with_bit 6 v)
grown_6 v = record { low = omega arith; high = omega arith; accessed = omega arith; dirty = omega arith }

pub has_5 : (v : ℕ) → with_bit 5 v / 32 % 2 ≡ 1
has_5 v = omega arith

pub has_6 : (v : ℕ) → with_bit 6 v / 64 % 2 ≡ 1
has_6 v = omega arith

-- a bit that is set stays as it is
pub set_5 : (v : ℕ) → v / 32 % 2 ≡ 1 → with_bit 5 v ≡ v
set_5 v h = omega arith

pub set_6 : (v : ℕ) → v / 64 % 2 ≡ 1 → with_bit 6 v ≡ v
set_6 v h = omega arith

-- "save Accessed or Dirty bits set since"
since_grown : (accessed dirty : Bool) (v : ℕ) → Grown v (dirty_since dirty (accessed_since accessed v))
since_grown true true v = grown_trans (grown_5 v) (grown_6 (with_bit 5 v))
since_grown true false v = grown_5 v
since_grown false true v = grown_6 v
since_grown false false v = grown_refl v

pub since_is_grown : {v v' : ℕ} → Since v v' → Grown v v'
since_is_grown {v} {v'} (accessed, dirty, e) = rw e (since_grown accessed dirty v)

-- a mark of a byte
pub mark_grown : (dirty : Bool) (v : ℕ) → Grown v (mark_byte dirty v)
mark_grown true v = grown_trans (grown_5 v) (grown_6 (with_bit 5 v))
mark_grown false v = grown_5 v

pub mark_accessed : (dirty : Bool) (v : ℕ) → mark_byte dirty v / 32 % 2 ≡ 1
mark_accessed true v = let a = has_5 v in let g = (grown_6 (with_bit 5 v)).accessed in omega arith
mark_accessed false v = has_5 v

pub mark_dirty : (v : ℕ) → mark_byte true v / 64 % 2 ≡ 1
mark_dirty v = has_6 (with_bit 5 v)

-- a number's parts above bit 7 are those of its high part
high_part : (v k : ℕ) → 7 ≤ k → v / 2 ^ k ≡ v / 128 / 2 ^ (k - 7)
high_part v k h =
    let whole : 7 + (k - 7) ≡ k = omega arith in
    ap (λ (j : ℕ). v / 2 ^ j) (sym whole) ∙ ap (λ (x : ℕ). v / x) (pow-add 2 7 (k - 7)) ∙ sym (div-div-eq-div-mul v 128 (2 ^ (k - 7)))

pub high_same : (v v' k : ℕ) → Grown v v' → 7 ≤ k → v / 2 ^ k ≡ v' / 2 ^ k
high_same v v' k g h = high_part v k h ∙ ap (λ (x : ℕ). x / 2 ^ (k - 7)) g.high ∙ sym (high_part v' k h)

pub bit_high : (v v' k : ℕ) → Grown v v' → 7 ≤ k → bit v k ≡ bit v' k
bit_high v v' k g h = ap (λ (x : ℕ). eqb (x % 2) 1) (high_same v v' k g h)

pub field_high : (v v' k width : ℕ) → Grown v v' → 7 ≤ k → field v k width ≡ field v' k width
field_high v v' k width g h = ap (λ (x : ℕ). x % 2 ^ width) (high_same v v' k g h)

-- a bit below 5
pub bit_low : (v v' k : ℕ) → Grown v v' → k ≤ 4 → bit v k ≡ bit v' k
bit_low v v' k g h = ap (λ (x : ℕ). eqb x 1) (same k h)
  where
    same : (j : ℕ) → j ≤ 4 → v / 2 ^ j % 2 ≡ v' / 2 ^ j % 2
    same zero h = omega (arith, g.low)
    same (suc zero) h = omega (arith, g.low)
    same (suc (suc zero)) h = omega (arith, g.low)
    same (suc (suc (suc zero))) h = omega (arith, g.low)
    same (suc (suc (suc (suc zero)))) h = omega (arith, g.low)
    same (suc (suc (suc (suc (suc j))))) h = absurd (omega arith)

-- the memory type index does not look at A and D
pub type_same : (level v v' : ℕ) → Grown v v' → memory_type level v ≡ memory_type level v'
type_same level v v' g = go (leb level 1)
  where
    go : (low : Bool) → cond ((low || bit v 7) && bit v (cond low 7 12)) 4 0 + (cond (bit v 4) 2 0 + cond (bit v 3) 1 0)
        ≡ cond ((low || bit v' 7) && bit v' (cond low 7 12)) 4 0 + (cond (bit v' 4) 2 0 + cond (bit v' 3) 1 0)
    go true = λ i. cond (bit_high v v' 7 g (lit≤ tt) i) 4 0 + (cond (bit_low v v' 4 g (lit≤ tt) i) 2 0 + cond (bit_low v v' 3 g (lit≤ tt) i) 1 0)
    go false =
        λ i. cond (bit_high v v' 7 g (lit≤ tt) i && bit_high v v' 12 g (lit≤ tt) i) 4 0 + (cond (bit_low v v' 4 g (lit≤ tt) i) 2 0 + cond (bit_low v v' 3 g (lit≤ tt) i) 1 0)

-- what an entry says at its level, from the parts that it looks at
abbrev saying : Bool → ℕ → Bool → Bool → Bool → ℕ → ℕ → ℕ → ℕ → Says
saying nxe level present ps disabled above inside table base =
    cond present
    (cond ((not (eqb above 0) || (not nxe && disabled)) || ((ps && ltb largest level) || ((leb level 1 || ps) && not (eqb inside 0))))
    Reserved
    (cond (leb level 1 || ps) (Page (record { 0 = base * 2 ^ page_bits level })) (Table (record { 0 = table * 2 ^ 12 }))))
    Missing

-- what an entry says does not look at A and D
pub says_same : (width : ℕ) (nxe : Bool) (level v v' : ℕ) → 7 ≤ width → 7 ≤ page_bits level → Grown v v'
    → says width nxe level v ≡ says width nxe level v'
says_same width nxe level v v' wide deep g =
    λ i. saying nxe level (bit_low v v' 0 g (lit≤ tt) i) (bit_high v v' 7 g (lit≤ tt) i) (bit_high v v' 63 g (lit≤ tt) i)
    (field_high v v' width (52 - width) g wide i) (field_high v v' 13 (page_bits level - 13) g (lit≤ tt) i)
    (field_high v v' 12 40 g (lit≤ tt) i) (field_high v v' (page_bits level) (52 - page_bits level) g deep i)
