-- A device of the proofs: the walk from the middle of a path, for the recursion, with rights held from above and entries read above.
use Rattle.std.specs.Prelude.{ℕ, ◌+◌, ◌-◌, ◌*◌, ◌≡◌, cond, List, Result, Ok, Err}
use Rattle.std.specs.Int.Bits.{bit_and}
use Rattle.address.specs.declared.PhysAddr.{PhysAddr}
use Rattle.address.specs.declared.VirtAddr.{VirtAddr}
use Rattle.address.specs.Address.{index}
use Rattle.word.specs.Bytes.{load, inside}
use Rattle.entry.specs.Mark.{mark}
use Rattle.entry.specs.declared.Says.{Says}
use Rattle.entry.specs.Masks.{under}
use Rattle.entry.specs.Rights.{allow, own}
use Rattle.walk.specs.Answers.{Walked}
use Rattle.walk.specs.declared.Unmapped.TheVariants.{Refused, Outside}
use Rattle.walk.specs.declared.Unmapped.{Unmapped}
use Rattle.walk.specs.declared.descend.Sought.{Sought}
use Rattle.walk.specs.declared.Cause.TheVariants.{Missing, Reserved, Rights}
use Rattle.walk.specs.Path.{Path, End, outside, missing, reserved, page, path, entries, end_of, reads, rights, report}
use Rattle.walk.specs.Walk.{after}

-- how a walk ends whose entries above gave some rights
unfoldable pub ended_below : ℕ → ℕ → ℕ → Path → End → Walked
ended_below need held above p (outside l at) = Err (Outside (record { 0 = at }) l (above + reads p))
ended_below need held above p (missing e) = Err (Refused (Missing e.level) (above + reads p))
ended_below need held above p (reserved e) = Err (Refused (Reserved e.level) (above + reads p))
ended_below need held above p (page e base) =
    cond (allow need (bit_and held (rights p)))
    (Ok (record { base = record { 0 = base }; last = e.value; rights = bit_and held (rights p); size = e.level; reads = above + reads p }))
    (Err (Refused (Rights (report need (entries p))) (above + reads p)))

-- the answer of a walk along the rest of a path
abbrev pub walked_below : ℕ → ℕ → ℕ → Path → Walked
walked_below need held above p = ended_below need held above p (end_of p)

-- the answer at a page: its own rights and those held from above
abbrev pub at_page : ℕ → ℕ → ℕ → ℕ → PhysAddr → Walked
at_page need held l entry base =
    cond (allow need (bit_and held (own entry)))
    (Ok (record { base = base; last = entry; rights = bit_and held (own entry); size = l; reads = 4 + 1 - l }))
    (Err (Refused (Rights (cond (allow need (own entry)) 0 l)) (4 + 1 - l)))

-- an answer and memory after it are those of the end at a page
abbrev pub IsEnd : Sought → ℕ → ℕ → ℕ → PhysAddr → PhysAddr → List ℕ → Walked → List ℕ → Type 0
IsEnd s held l entry at base memory answer left =
    (answer ≡ at_page s.needed held l entry base)
    × (left ≡ cond (allow s.needed (bit_and held (own entry))) (mark s.write memory at.0) memory)

-- the path of what is sought, from the table at a base, by what each entry tells at its level
abbrev pub path_below : (ℕ → ℕ → Says) → Sought → List ℕ → ℕ → PhysAddr → Path
path_below tell s memory l base = path tell memory s.address l base.0

-- an answer and memory after it are those of the walk from the table at a base
abbrev pub Descends : (ℕ → ℕ → Says) → Sought → ℕ → ℕ → PhysAddr → List ℕ → Walked → List ℕ → Type 0
Descends tell s held l base memory answer left =
    (answer ≡ walked_below s.needed held (4 - l) (path_below tell s memory l base)) × (left ≡ after s.write (path_below tell s memory l base) memory answer)

-- the same where an entry tells what it says under the mask of what is sought
abbrev pub IsDescent : Sought → ℕ → ℕ → PhysAddr → List ℕ → Walked → List ℕ → Type 0
IsDescent s held l base memory answer left = Descends (under s.forbidden) s held l base memory answer left

-- the entry of a level in the table at a base, with its address, or the end outside memory
abbrev pub entry_at : List ℕ → VirtAddr → ℕ → PhysAddr → Result (PhysAddr × ℕ) Unmapped
entry_at memory address l base =
    cond (inside memory (base.0 + 8 * index address l))
    (Ok (record { 0 = base.0 + 8 * index address l }, load 8 memory (base.0 + 8 * index address l)))
    (Err (Outside (record { 0 = base.0 + 8 * index address l }) l (4 - l)))

-- why a walk found no page, with the level of an entry above in a rights fault, where that entry by itself lacks a needed right
abbrev pub higher : ℕ → ℕ → ℕ → Unmapped → Unmapped
higher need own l (Refused (Missing at) n) = Refused (Missing at) n
higher need own l (Refused (Reserved at) n) = Refused (Reserved at) n
higher need own l (Refused (Rights at) n) = Refused (Rights (cond (allow need own) at l)) n
higher need own l (Outside at k n) = Outside at k n
