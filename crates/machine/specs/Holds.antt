-- What an entry holds after a walk left something in it: the same, save Accessed or Dirty bits set since.
use Rattle.std.specs.Prelude.{ℕ, ◌≡◌, Bool, cond, List, [], ◌∷◌}
use Rattle.word.specs.Bits.{with_bit}
use Rattle.word.specs.Bytes.{load}
use Rattle.machine.specs.History.{Left}

-- "A 5": a value with Accessed set since, or as it was
abbrev pub accessed_since : Bool → ℕ → ℕ
accessed_since since value = cond since (with_bit 5 value) value

-- "D 6": a value with Dirty set since, or as it was
abbrev pub dirty_since : Bool → ℕ → ℕ
dirty_since since value = cond since (with_bit 6 value) value

-- "what that walk left, save Accessed or Dirty bits set since"
abbrev pub Since : ℕ → ℕ → Type 0
Since left now = (accessed : Bool) × (dirty : Bool) × (now ≡ dirty_since dirty (accessed_since accessed left))

-- "each entry read then holds" it
abbrev pub Holds : List ℕ → List Left → Type 0
Holds memory [] = Unit
Holds memory (l ∷ ls) = Since l.value (load 8 memory l.address) × Holds memory ls
