-- The place that a successful walk leaves: it is filled, serves the same access again, and has the walk's key.
use Prim.Native.Nat.{ℕ, ◌+◌, ◌%◌, ◌≤◌, ◌<◌}
use native.Mathlib.Omega.{arith}
use mathlib.Core.Path.{◌≡◌, refl, sym, ap, subst, ◌∙◌}
use mathlib.Core.Bool.{Bool, true, false, not, ◌&&◌, ◌||◌, cond}
use mathlib.Core.List.{List}
use borrow.Author.Tests.{eq-eqb}
use lib.Dec.{eqb, lit<, lit≤}
use Rattle.word.specs.Bits.{bit, includes}
use Rattle.settings.specs.declared.Settings.{Settings}
use Rattle.settings.specs.Settings.{nxe, pge, pcide, root, space_number}
use Rattle.address.specs.declared.VirtAddr.{VirtAddr}
use Rattle.address.specs.Address.{tag, canonical}
use Rattle.entry.specs.Memory.{pat, memory_type}
use Rattle.entry.specs.Rights.{number}
use Rattle.walk.specs.declared.Way.{Way}
use Rattle.walk.specs.declared.Mapping.{Mapping}
use Rattle.walk.specs.Access.{needs_write, needed, writes, fetches}
use Rattle.walk.specs.Path.{Path, entries, end_of, rights, marks, every}
use Rattle.walk.specs.Walk.{after, walk_path, walk_answer, walk_memory}
use Rattle.cache.specs.Places.{has_g, key_of, set_index, filled_in, serves}
use Rattle.cache.proofs.Laws.{has_filled, has_serves}
use Rattle.machine.specs.Remember.{with_dirty, wanted, place_of}
use Rattle.machine.specs.History.{key_at, walk_of}
use Rattle.machine.proofs.Flags.{given, flags_marked, flags_global, flags_each}
use Rattle.machine.proofs.Frames.{frame_small, tag_small}
use Rattle.machine.proofs.Paths.{All}
use Rattle.machine.proofs.Reading.{Read, Ending, AtPage, IsPage, read_path}
use Rattle.machine.proofs.Rules.{number_write, number_user, number_fetch, allow_given, none_disabled, dirty_given}
use Rattle.machine.proofs.Rewalk.{Success, success, reads_some}
use Rattle.std.specs.Prelude.{Ok}

-- settings that differ in the root alone
pub record Alike (s s' : Settings) : Type 0 where
  pub cr0_same : s.cr0 ≡ s'.cr0
  pub cr4_same : s.cr4 ≡ s'.cr4
  pub efer_same : s.efer ≡ s'.efer
  pub width_same : s.width ≡ s'.width

-- the root is at a multiple of 8
pub root_aligned : (s : Settings) → (root s).0 % 8 ≡ 0
root_aligned s = omega arith

-- the same is wanted of a place at every address of its page
pub wanted_same : (s s' : Settings) (first later : VirtAddr) (a : Way) → Alike s s' → tag first ≡ tag later → space_number s ≡ space_number s'
    → wanted s first a ≡ wanted s' later a
wanted_same s s' first later a alike same one_number =
    λ i. record { tag = same i; flags = with_dirty (number (writes a && (a.user || bit (alike.cr0_same i) 16)) a.user (fetches a)) (writes a); number = one_number i }

-- a memory type index is below 8
type_small : (level v : ℕ) → memory_type level v < 8
type_small level v = go (pat level v) (bit v 4) (bit v 3)
  where
    go : (a b c : Bool) → cond a 4 0 + (cond b 2 0 + cond c 1 0) < 8
    go true true true = lit< tt
    go true true false = lit< tt
    go true false true = lit< tt
    go true false false = lit< tt
    go false true true = lit< tt
    go false true false = lit< tt
    go false false true = lit< tt
    go false false false = lit< tt

-- a space number is at most 4,095
number_small : (s : Settings) → space_number s ≤ 4095
number_small s = go (pcide s)
  where
    go : (b : Bool) → cond b (s.cr3 % 4096) 0 ≤ 4095
    go true = omega arith
    go false = lit≤ tt

-- a place is of its own number
own_number : (g : Bool) (n : ℕ) → (g || eqb n n) ≡ true
own_number true n = refl
own_number false n = eq-eqb n n refl

-- A success and its place.
module _ (s : Settings) (va : VirtAddr) (a : Way) (m : List ℕ) (found : Mapping) (h : walk_answer s va a m ≡ Ok found) where
  -- the path, its end and its rights
  abbrev its_path : Path
  its_path = walk_path s va m

  pub its : Success (needed s a) its_path found
  its = success (needed s a) its_path found h

  its_end : IsPage (end_of its_path)
  its_end = rw its.at_end tt

  its_reads : All (Read (nxe s) m) (entries its_path)
  its_reads = (read_path s.width (nxe s) m va 4 (root s).0 (root_aligned s) its_end).0

  pub its_ending : Ending its.last its.base
  its_ending = (subst (AtPage (nxe s) m) its.at_end (read_path s.width (nxe s) m va 4 (root s).0 (root_aligned s) its_end).1).1

  -- a success read something
  pub found_reads : 1 ≤ found.reads
  found_reads = rw its.is_found (reads_some its_path its_end)

  -- the memory that a success leaves
  pub found_memory : walk_memory s va a m ≡ marks (writes a) its_path m
  unfolding after
  found_memory = ap (after (writes a) its_path m) h

  -- a success's place is filled
  pub found_filled : canonical va ≡ true → filled_in (set_index (tag va)) (place_of s va a found) ≡ true
  found_filled form =
      has_filled (set_index (tag va)) (place_of s va a found)
      (rw its.is_found (record {
        is_marked_lem = flags_marked (bit (rights its_path) 0) (bit (rights its_path) 1) (bit (rights its_path) 2) (bit its.last.value 6 || writes a) (bit its.last.value 8 && pge s);
        tag_below = tag_small va form;
        own_set = refl;
        frame_below = frame_small its.last.value its.last.level va its.base its_ending.level_from its_ending.level_to its_ending.base_is;
        size_from = its_ending.level_from;
        size_to = its_ending.level_to;
        type_below = type_small its.last.level its.last.value;
        number_to = number_small s;
      }))

  -- the rights of all its entries, one by one
  abbrev all_write_lem : Bool
  all_write_lem = every (λ (v : ℕ). bit v 1) (entries its_path)

  abbrev all_user_lem : Bool
  all_user_lem = every (λ (v : ℕ). bit v 2) (entries its_path)

  abbrev all_fetch_lem : Bool
  all_fetch_lem = every (λ (v : ℕ). not (bit v 63)) (entries its_path)

  -- a success's place serves the same access at any address of the page
  pub found_serves : (s' : Settings) (later : VirtAddr) → Alike s s' → tag va ≡ tag later → space_number s ≡ space_number s'
      → serves (wanted s' later a) (place_of s va a found) ≡ true
  found_serves s' later alike same one_number =
      rw (← (wanted_same s s' va later a alike same one_number))
      (has_serves (wanted s va a) (place_of s va a found)
      (record { same_tag = refl; has_flags = its_flags; is_mine = own_number (has_g (place_of s va a found)) (space_number s) }))
    where
      each : (given (needs_write s a) all_write_lem ≡ true) × (given a.user all_user_lem ≡ true) × (given (fetches a) all_fetch_lem ≡ true)
      each =
          allow_given (needs_write s a) a.user (fetches a) (nxe s) all_write_lem all_user_lem all_fetch_lem
          (none_disabled (nxe s) m (entries its_path) its_reads) its.allowed

      its_flags : includes (wanted s va a).flags (place_of s va a found).flags ≡ true
      its_flags =
          flags_each (needs_write s a) a.user (fetches a) (writes a) (bit found.rights 0) (bit found.rights 1) (bit found.rights 2)
          (bit found.last 6 || writes a) (bit found.last 8 && pge s)
          ∙ rw (
            ap (λ (f : Mapping). bit f.rights 0) its.is_found ∙ number_write all_write_lem all_user_lem all_fetch_lem,
            ap (λ (f : Mapping). bit f.rights 1) its.is_found ∙ number_user all_write_lem all_user_lem all_fetch_lem,
            ap (λ (f : Mapping). bit f.rights 2) its.is_found ∙ number_fetch all_write_lem all_user_lem all_fetch_lem,
            each.0,
            each.1,
            each.2,
            dirty_given (bit found.last 6) (writes a),
          )

  -- its key is that of the walk
  pub found_key : (left : List ℕ) → key_of (place_of s va a found) ≡ (walk_of s va m left).key
  found_key left =
      (λ i. record { tag = tag va; size = (its.is_found i).size; number = space_number s; global = its_global i }) ∙ ap (key_at s va) (sym its.at_end)
    where
      its_global : has_g (place_of s va a found) ≡ (bit its.last.value 8 && pge s)
      its_global =
          flags_global (bit found.rights 0) (bit found.rights 1) (bit found.rights 2) (bit found.last 6 || writes a) (bit found.last 8 && pge s)
          ∙ ap (λ (f : Mapping). bit f.last 8 && pge s) its.is_found
