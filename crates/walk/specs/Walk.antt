-- Intel's walk: how it ends, its answer, and memory afterwards.
use Rattle.std.specs.Prelude.{ℕ, ◌≡◌, Bool, cond, List, Ok, Err}
use Rattle.settings.specs.declared.Settings.{Settings}
use Rattle.settings.specs.Settings.{nxe, root}
use Rattle.address.specs.declared.VirtAddr.{VirtAddr}
use Rattle.address.specs.Address.{levels}
use Rattle.entry.specs.Rights.{allow}
use Rattle.entry.specs.Says.{says}
use Rattle.walk.specs.declared.Way.{Way}
use Rattle.walk.specs.Answers.{Walked}
use Rattle.walk.specs.declared.Unmapped.TheVariants.{Refused, Outside}
use Rattle.walk.specs.declared.Cause.TheVariants.{Missing, Reserved, Rights}
use Rattle.walk.specs.Access.{needed, writes}
use Rattle.walk.specs.Path.{Path, End, outside, missing, reserved, page, path, entries, end_of, reads, rights, report, marks}

-- how a walk ends that needs some rights: "Rights are judged only after the last entry. [..] Source document 001 judges level by level; that is wrong."
unfoldable pub ended : ℕ → Path → End → Walked
ended need p (outside l at) = Err (Outside (record { 0 = at }) l (reads p))
ended need p (missing e) = Err (Refused (Missing e.level) (reads p))
ended need p (reserved e) = Err (Refused (Reserved e.level) (reads p))
ended need p (page e base) =
    cond (allow need (rights p))
    (Ok (record { base = record { 0 = base }; last = e.value; rights = rights p; size = e.level; reads = reads p }))
    (Err (Refused (Rights (report need (entries p))) (reads p)))

-- the answer of a walk along a path
abbrev pub walked : ℕ → Path → Walked
walked need p = ended need p (end_of p)

-- memory after a walk along a path, marked on success only: "Guest memory is unchanged by every refusal.", "Nothing else is written."
unfoldable pub after : Bool → Path → List ℕ → Walked → List ℕ
after write p memory (Ok m) = marks write p memory
after write p memory (Err (Refused cause n)) = memory
after write p memory (Err (Outside at l n)) = memory

-- the path of a walk under settings: from the root, level 4 first
abbrev pub walk_path : Settings → VirtAddr → List ℕ → Path
walk_path s address memory = path (says s.width (nxe s)) memory address levels (root s).0

-- the answer of a walk under settings
abbrev pub walk_answer : Settings → VirtAddr → Way → List ℕ → Walked
walk_answer s address a memory = walked (needed s a) (walk_path s address memory)

-- memory after a walk under settings
abbrev pub walk_memory : Settings → VirtAddr → Way → List ℕ → List ℕ
walk_memory s address a memory = after (writes a) (walk_path s address memory) memory (walk_answer s address a memory)

-- an answer and memory after it are those of a walk under settings
abbrev pub IsWalk : Settings → VirtAddr → Way → List ℕ → Walked → List ℕ → Type 0
IsWalk s address a memory answer left = (answer ≡ walk_answer s address a memory) × (left ≡ walk_memory s address a memory)
