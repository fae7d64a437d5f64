-- Laws of little-endian loads and stores, over the width in bytes.
use Prim.Native.Nat.{ℕ, zero, suc, ◌+◌, ◌*◌, ◌/◌, ◌%◌, ◌^◌, ◌<◌, ◌≤◌}
use native.Mathlib.Nat.{zero-add, add-zero, add-suc, suc-add, one-mul, mul_assoc, mul_comm, div-one, div-eq_of_lt, div-div-eq-div-mul, lt_of_lt_of_le, pow-suc}
use native.Mathlib.Omega.{arith}
use mathlib.Core.Path.{◌≡◌, refl, ap, sym, ◌∙◌}
use mathlib.Core.List.{List, [], ◌∷◌, ◌++◌}
use borrow.Rule.Slice.PartMut.{put_mid}
use lib.Dec.{lit<}
use lib.Pow.{pow_mono, shl_exact}
use lib.ListN.{length, length-set, set, take}
use Rattle.std.proofs.Common.{drop, slice_index}
use Rattle.std.specs.Int.{from_le_bytes, to_le_bytes, w64}
use Rattle.std.proofs.lemmas.List.{take-append-drop, set-append_left, get_or-take, get_or-drop, append_assoc, length-take-le}
use Rattle.std.proofs.Math.Seq.{take-suc-set, take-set-lt, drop-cons}
use Rattle.word.specs.Bytes.{load, store}

-- a number's lowest w bytes, the lowest first
abbrev pub low : ℕ → ℕ → List ℕ
low zero n = []
low (suc w) n = n % 256 ∷ low w (n / 256)

-- the library's eight bytes of a number
pub low_eight : (n : ℕ) → to_le_bytes w64 n ≡ low 8 n
low_eight n = simp div-div-eq-div-mul refl

-- a store puts a number's bytes between what stands before them and what stands after
pub store_between : (w : ℕ) (l : List ℕ) (i v : ℕ) → i + w ≤ length l → store w l i v ≡ put_mid i w l (low w v)
unfolding store
store_between zero l i v fits = sym (take-append-drop i l)
store_between (suc w) l i v fits =
    let b = v % 256 in
    let within : i < length l = omega (arith, fits) in
    let after = low w (v / 256) ++ drop w (drop (suc i) l) in
    ap (λ (z : List ℕ). set z i b) (store_between w l (suc i) (v / 256) (omega (arith, fits)))
    ∙ set-append_left (take (suc i) l) after i b (rw (length-take-le (suc i) l within) (omega arith))
    ∙ ap (λ (z : List ℕ). z ++ after) (sym (take-set-lt (suc i) l i b (omega arith)) ∙ take-suc-set l i b within)
    ∙ append_assoc (take i l) (b ∷ []) after
    ∙ ap (λ (z : List ℕ). take i l ++ (b ∷ low w (v / 256) ++ drop (suc w) z)) (sym (drop-cons l i 0 within))

-- a load of j + k bytes is a load of the low j and of the high k
pub load_split : (j k : ℕ) (l : List ℕ) (i : ℕ) → load (j + k) l i ≡ load j l i + 256 ^ j * load k l (i + j)
unfolding load
load_split zero k l i = rw (zero-add k, add-zero, one-mul, zero-add) refl
load_split (suc j) k l i =
    rw (suc-add j k, load_split j k l (suc i), suc-add i j, add-suc i j, pow-suc 256 j, mul_comm (256 ^ j) 256, mul_assoc 256 (256 ^ j))
    (omega arith)

-- a store of j + k bytes is a store of the high k, then of the low j
pub store_split : (j k : ℕ) (l : List ℕ) (i v : ℕ) → store (j + k) l i v ≡ store j (store k l (i + j) (v / 256 ^ j)) i v
unfolding store
store_split zero k l i v = rw (zero-add k, add-zero, div-one) refl
store_split (suc j) k l i v =
    rw (suc-add j k, store_split j k l (suc i) (v / 256), suc-add i j, add-suc i j, pow-suc 256 j, mul_comm (256 ^ j) 256, div-div-eq-div-mul v 256 (256 ^ j))
    refl

-- a store of twice the width is two stores
pub store_twice : (w : ℕ) (l m n : List ℕ) (i v : ℕ)
    → m ≡ store w l (i + w) (v / 256 ^ w) → n ≡ store w m i v → n ≡ store (w + w) l i v
store_twice w l m n i v upper lower = lower ∙ ap (λ (x : List ℕ). store w x i v) upper ∙ sym (store_split w w l i v)

-- a store keeps the length
pub store_length : (w : ℕ) (l : List ℕ) (i v : ℕ) → length (store w l i v) ≡ length l
unfolding store
store_length zero l i v = refl
store_length (suc w) l i v = length-set (store w l (suc i) (v / 256)) i (v % 256) ∙ store_length w l (suc i) (v / 256)

-- a load from a list without its first i bytes is one further on
pub load_drop : (w i : ℕ) (l : List ℕ) (j : ℕ) → load w (drop i l) j ≡ load w l (i + j)
unfolding load
load_drop zero i l j = refl
load_drop (suc w) i l j = rw (get_or-drop i l j 0, load_drop w i l (suc j), add-suc i j) refl

-- a load inside the first n bytes of a list is one of the list
pub load_take : (w n : ℕ) (l : List ℕ) (j : ℕ) → j + w ≤ n → load w (take n l) j ≡ load w l j
unfolding load
load_take zero n l j inside = refl
load_take (suc w) n l j inside = rw (get_or-take n l j 0 (omega (arith, inside)), load_take w n l (suc j) (omega (arith, inside))) refl

-- eight bytes from the first on are the library's number of them
pub load_eight : (ys : List ℕ) → load 8 ys 0 ≡ from_le_bytes w64 ys
unfolding load
load_eight ys =
    let sum : (a b c d e f g h : ℕ)
    → a + 256 * (b + 256 * (c + 256 * (d + 256 * (e + 256 * (f + 256 * (g + 256 * (h + 0)))))))
    ≡ a + b * 256 + c * 256 ^ 2 + d * 256 ^ 3 + e * 256 ^ 4 + f * 256 ^ 5 + g * 256 ^ 6 + h * 256 ^ 7 =
    λ a b c d e f g h. omega arith in
    let byte : ℕ → ℕ = λ k. slice_index ys k in
    sum (byte 0) (byte 1) (byte 2) (byte 3) (byte 4) (byte 5) (byte 6) (byte 7)

-- a 64-bit number has nothing from bit 64 on
pub nothing_above : (n k : ℕ) → n < 2 ^ 64 → 64 ≤ k → n / 2 ^ k ≡ 0
nothing_above n k small high = div-eq_of_lt (lt_of_lt_of_le small (pow_mono {i = 64} {j = k} high))

-- the code's mask of width ones
pub ones : (k : ℕ) → k < 64 → 1 * 2 ^ k % 2 ^ 64 ≡ 2 ^ k
ones k small = shl_exact {a = 1} 1 k 64 (lit< tt) (omega arith) ∙ one-mul (2 ^ k)
