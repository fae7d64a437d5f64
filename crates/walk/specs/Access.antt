-- How memory is asked, and the rights that this needs.
use Rattle.std.specs.Prelude.{ℕ, Bool, true, false, ◌&&◌, ◌||◌, cond, eqb, leb}
use Rattle.settings.specs.declared.Settings.{Settings}
use Rattle.settings.specs.Settings.{wp, nxe}
use Rattle.entry.specs.Rights.{number}
use Rattle.walk.specs.declared.Access.{Access}
use Rattle.walk.specs.declared.Access.TheVariants.{Read, Write, Fetch}
use Rattle.walk.specs.declared.Way.{Way}

-- the numbers that are known; any other is "access, mode or card kind unknown"
abbrev pub known : ℕ → ℕ → Bool
known access mode = leb access 2 && leb mode 1

-- "Access is 0 read, 1 write, 2 fetch"
abbrev pub access_of : ℕ → Access
access_of number = cond (eqb number 1) Write (cond (eqb number 2) Fetch Read)

-- "mode is 0 supervisor, 1 user": the way in which memory is asked
abbrev pub way_of : ℕ → ℕ → Way
way_of access mode = record { access = access_of access; user = eqb mode 1 }

-- the access is a write
abbrev pub is_write : Access → Bool
is_write Read = false
is_write Write = true
is_write Fetch = false

-- the access is a fetch
abbrev pub is_fetch : Access → Bool
is_fetch Read = false
is_fetch Write = false
is_fetch Fetch = true

-- memory is written
abbrev pub writes : Way → Bool
writes a = is_write a.access

-- memory is fetched from
abbrev pub fetches : Way → Bool
fetches a = is_fetch a.access

-- "A write needs R/W in all, unless the mode is supervisor and WP = 0."
abbrev pub needs_write : Settings → Way → Bool
needs_write s a = writes a && (a.user || wp s)

-- "User access needs U/S in all entries."
abbrev pub needs_user : Way → Bool
needs_user a = a.user

-- "A fetch needs XD clear in all when NXE = 1."
abbrev pub needs_fetch : Settings → Way → Bool
needs_fetch s a = fetches a && nxe s

-- the rights needed, as a number
abbrev pub needed : Settings → Way → ℕ
needed s a = number (needs_write s a) (needs_user a) (needs_fetch s a)
