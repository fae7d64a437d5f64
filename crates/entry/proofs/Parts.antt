-- A load from the part of memory that starts at a base is a load from memory.
use Prim.Native.Nat.{ℕ, ◌+◌, ◌-◌, ◌≤◌}
use native.Mathlib.Nat.{le_refl}
use native.Mathlib.Omega.{arith}
use mathlib.Core.Path.{◌≡◌, sym, ◌∙◌}
use mathlib.Core.List.{List}
use lib.Dec.{leb}
use lib.ListN.{length, take, drop, length-drop}
use lib.Seq.{take_all}
use native.Mathlib.Decide.{dec_le}
use borrow.Author.Tests.{le-leb, lt-leb}
use Rattle.word.specs.Bytes.{loaded}
use Rattle.word.proofs.Laws.{load_drop}

-- the part from b on
pub part : (b : ℕ) (l : List ℕ) → take (length l - b) (drop b l) ≡ drop b l
part b l = take_all (length l - b) (drop b l) (rw (length-drop b l) (le_refl _))

-- "address plus 8 at most the length" is the same test seen from the base
inside_part : (b n i : ℕ) → b ≤ n → leb (i + 8) (n - b) ≡ leb (b + i + 8) n
inside_part b n i h = go (dec_le (i + 8) (n - b))
  where
    go : Dec (i + 8 ≤ n - b) → leb (i + 8) (n - b) ≡ leb (b + i + 8) n
    go (yes p) = le-leb (i + 8) (n - b) p ∙ sym (le-leb (b + i + 8) n (omega arith))
    go (no p) = lt-leb (i + 8) (n - b) (omega arith) ∙ sym (lt-leb (b + i + 8) n (omega arith))

pub loaded_part : (b : ℕ) (l : List ℕ) (i : ℕ) → b ≤ length l → loaded (take (length l - b) (drop b l)) i ≡ loaded l (b + i)
loaded_part b l i h =
    rw (part b l, length-drop b l, load_drop 8 b l i, inside_part b (length l) i h)
