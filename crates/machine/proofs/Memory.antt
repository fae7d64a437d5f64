-- Entries in memory after a mark: two entries coincide or are apart, for each lies at a multiple of 8.
use Prim.Native.Nat.{ℕ, zero, suc, ◌+◌, ◌*◌, ◌/◌, ◌%◌, ◌≤◌, ◌<◌}
use native.Mathlib.Decide.{dec_lt, ℕ_discrete}
use native.Mathlib.Omega.{arith}
use mathlib.Core.Path.{◌≡◌, refl, sym, ap, ◌∙◌}
use mathlib.Core.Bool.{Bool, true, false}
use mathlib.Core.List.{List}
use lib.ListN.{length, get_or, set, length-set}
use lib.Seq.{get_or-set_same, get_or-set_other, set-get_or, set_out}
use Rattle.word.specs.Bits.{with_bit}
use Rattle.word.specs.Bytes.{load}
use Rattle.entry.specs.Mark.{mark, mark_byte}
use Rattle.machine.proofs.Values.{Grown, grown_refl, mark_grown, mark_accessed, mark_dirty, set_5, set_6}

-- a byte that a load does not read
load_other : (width : ℕ) (m : List ℕ) (i x a : ℕ) → ((j : ℕ) → a ≤ j → j < a + width → j ≡ i → ⊥) → load width (set m i x) a ≡ load width m a
unfolding load
load_other zero m i x a apart = refl
load_other (suc width) m i x a apart =
    rw (get_or-set_other m i a x 0 (apart a (omega arith) (omega arith)), load_other width m i x (suc a) (λ j low high. apart j (omega arith) (omega arith)))

-- an entry is its lowest byte and the rest
lowest : (m : List ℕ) (a : ℕ) → load 8 m a ≡ get_or m a 0 + 256 * load 7 m (suc a)
unfolding load
lowest m a = refl

-- the parts of an entry that lie in its lowest byte
low_of : (b r : ℕ) → (b + 256 * r) % 32 ≡ b % 32
low_of b r = omega arith

accessed_of : (b r : ℕ) → (b + 256 * r) / 32 % 2 ≡ b / 32 % 2
accessed_of b r = omega arith

dirty_of : (b r : ℕ) → (b + 256 * r) / 64 % 2 ≡ b / 64 % 2
dirty_of b r = omega arith

high_of : (b r : ℕ) → (b + 256 * r) / 128 ≡ b / 128 + 2 * r
high_of b r = omega arith

byte_grown : (b b' r : ℕ) → Grown b b' → Grown (b + 256 * r) (b' + 256 * r)
byte_grown b b' r g =
    record {
      low = low_of b r ∙ g.low ∙ sym (low_of b' r);
      high = high_of b r ∙ ap (λ (x : ℕ). x + 2 * r) g.high ∙ sym (high_of b' r);
      accessed = rw (accessed_of b r, accessed_of b' r) g.accessed;
      dirty = rw (dirty_of b r, dirty_of b' r) g.dirty;
    }

-- a mark's own entry
own_entry : (d : Bool) (m : List ℕ) (e : ℕ) → e < length m → load 8 (mark d m e) e ≡ mark_byte d (get_or m e 0) + 256 * load 7 m (suc e)
own_entry d m e inside =
    lowest (mark d m e) e
    ∙ ap (λ (b : ℕ). b + 256 * load 7 (mark d m e) (suc e)) (get_or-set_same m e (mark_byte d (get_or m e 0)) 0 inside)
    ∙ ap (λ (r : ℕ). mark_byte d (get_or m e 0) + 256 * r) (load_other 7 m e (mark_byte d (get_or m e 0)) (suc e) (λ j low high same. omega arith))

-- a mark only grows entries
pub marked_grown : (d : Bool) (m : List ℕ) (e a : ℕ) → e % 8 ≡ 0 → a % 8 ≡ 0 → Grown (load 8 m a) (load 8 (mark d m e) a)
marked_grown d m e a e-aligned a-aligned = go (ℕ_discrete a e) (dec_lt e (length m))
  where
    go : Dec (a ≡ e) → Dec (e < length m) → Grown (load 8 m a) (load 8 (mark d m e) a)
    go (yes same) (yes inside) =
        rw (same, own_entry d m e inside, lowest m e) (byte_grown (get_or m e 0) (mark_byte d (get_or m e 0)) (load 7 m (suc e)) (mark_grown d (get_or m e 0)))
    go (yes same) (no past) = rw (set_out m e (mark_byte d (get_or m e 0)) (omega arith)) (grown_refl (load 8 m a))
    go (no other) past =
        rw (load_other 8 m e (mark_byte d (get_or m e 0)) a (λ j low high same. other (omega arith))) (grown_refl (load 8 m a))

-- a mark's own entry has its bits
pub marked_accessed : (d : Bool) (m : List ℕ) (e : ℕ) → e < length m → load 8 (mark d m e) e / 32 % 2 ≡ 1
marked_accessed d m e inside = rw (own_entry d m e inside) (accessed_of (mark_byte d (get_or m e 0)) (load 7 m (suc e)) ∙ mark_accessed d (get_or m e 0))

pub marked_dirty : (m : List ℕ) (e : ℕ) → e < length m → load 8 (mark true m e) e / 64 % 2 ≡ 1
marked_dirty m e inside = rw (own_entry true m e inside) (dirty_of (mark_byte true (get_or m e 0)) (load 7 m (suc e)) ∙ mark_dirty (get_or m e 0))

-- a mark keeps the length
pub mark_length : (d : Bool) (m : List ℕ) (e : ℕ) → length (mark d m e) ≡ length m
mark_length d m e = length-set m e (mark_byte d (get_or m e 0))

-- a mark whose bits are set changes nothing
pub mark_none : (d : Bool) (m : List ℕ) (e : ℕ) → load 8 m e / 32 % 2 ≡ 1 → (d ≡ true → load 8 m e / 64 % 2 ≡ 1) → mark d m e ≡ m
mark_none d m e accessed dirty = ap (set m e) (same d dirty) ∙ set-get_or m e 0
  where
    five : get_or m e 0 / 32 % 2 ≡ 1
    five = sym (accessed_of (get_or m e 0) (load 7 m (suc e))) ∙ ap (λ (v : ℕ). v / 32 % 2) (sym (lowest m e)) ∙ accessed

    same : (x : Bool) → (x ≡ true → load 8 m e / 64 % 2 ≡ 1) → mark_byte x (get_or m e 0) ≡ get_or m e 0
    same true due =
        ap (with_bit 6) (set_5 (get_or m e 0) five)
        ∙ set_6 (get_or m e 0)
        (sym (dirty_of (get_or m e 0) (load 7 m (suc e))) ∙ ap (λ (v : ℕ). v / 64 % 2) (sym (lowest m e)) ∙ due refl)
    same false due = set_5 (get_or m e 0) five
