-- Little-endian numbers in a list of bytes, over their width in bytes.
use Rattle.std.specs.Prelude.{ℕ, zero, suc, ◌+◌, ◌*◌, ◌/◌, ◌%◌, Bool, cond, List, Option, Some, None, leb, length, get_or, set}

-- the number in the width bytes at an offset, the lowest byte first; "Guest memory is a lent run of bytes; physical address 0 is its first byte."
unfoldable pub load : ℕ → List ℕ → ℕ → ℕ
load zero bytes at = 0
load (suc width) bytes at = get_or bytes at 0 + 256 * load width bytes (suc at)

-- the bytes with a number's width bytes stored at an offset, the lowest byte first
unfoldable pub store : ℕ → List ℕ → ℕ → ℕ → List ℕ
store zero bytes at number = bytes
store (suc width) bytes at number = set (store width bytes (suc at) (number / 256)) at (number % 256)

-- "inside when its address plus 8 is at most the memory's length"
abbrev pub inside : List ℕ → ℕ → Bool
inside bytes at = leb (at + 8) (length bytes)

-- what a 64-bit load at an offset gives: the number, where its bytes are all inside
abbrev pub loaded : List ℕ → ℕ → Option ℕ
loaded bytes at = cond (inside bytes at) (Some (load 8 bytes at)) None

-- the bytes after a 64-bit store at an offset
abbrev pub stored : List ℕ → ℕ → ℕ → List ℕ
stored bytes at number = cond (inside bytes at) (store 8 bytes at number) bytes
