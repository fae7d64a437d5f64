-- A hit where each entry holds what the walk left: the fresh walk gives the same, and marks nothing.
use Prim.Native.Nat.{ℕ, ◌/◌, ◌≤◌}
use mathlib.Core.Path.{◌≡◌, sym, ap, ap₂, subst, ◌∙◌}
use mathlib.Core.Bool.{Bool, true, not, ◌&&◌, ◌||◌}
use mathlib.Core.List.{List, [], ◌∷◌}
use lib.ListN.{length}
use Rattle.word.specs.Bits.{bit}
use Rattle.word.specs.Bytes.{load}
use Rattle.settings.specs.declared.Settings.{Settings}
use Rattle.settings.specs.Settings.{nxe, pge, root}
use Rattle.address.specs.declared.PhysAddr.{PhysAddr}
use Rattle.address.specs.declared.VirtAddr.{VirtAddr}
use Rattle.address.specs.Address.{tag, offset, plus, frame_of, in_frame}
use Rattle.entry.specs.Memory.{memory_type}
use Rattle.entry.specs.Rights.{number, allow}
use Rattle.entry.specs.Says.{says}
use Rattle.walk.specs.declared.Way.{Way}
use Rattle.walk.specs.declared.Mapping.{Mapping}
use Rattle.walk.specs.Answers.{Walked}
use Rattle.walk.specs.Access.{needs_write, needed, writes, fetches}
use Rattle.walk.specs.Path.{Path, Entry, path, entries, reads, rights, marks, every}
use Rattle.walk.specs.Walk.{walked, after, walk_path, walk_answer, walk_memory}
use Rattle.walk.specs.Translate.{answered}
use Rattle.cache.specs.declared.Place.{Place}
use Rattle.cache.specs.Places.{key_of, serves}
use Rattle.cache.proofs.Laws.{serves_has}
use Rattle.cache.proofs.Lists.{and_true}
use Rattle.machine.specs.Remember.{wanted, place_of, hit}
use Rattle.machine.specs.History.{Walk, left_in, walk_of}
use Rattle.machine.specs.Holds.{Holds}
use Rattle.machine.specs.Demand3.{without_reads}
use Rattle.machine.proofs.Flags.{given, all_given, flags_each}
use Rattle.machine.proofs.Values.{Grown, since_is_grown, type_same}
use Rattle.machine.proofs.Frames.{same_frame, base_frame}
use Rattle.machine.proofs.Paths.{All, refreshed}
use Rattle.machine.proofs.Reading.{Ending}
use Rattle.machine.proofs.Rules.{number_write, number_user, number_fetch, given_allow, given_there}
use Rattle.machine.proofs.Rewalk.{Success, succeeds, end_now, last_grew, rights_now, memory_now}
use Rattle.machine.proofs.Places.{Alike, root_aligned, its, its_ending, found_memory, found_key}
use Rattle.std.specs.Prelude.{Ok}

-- what the entries read hold only grew
holds_grew : (m after : List ℕ) (es : List Entry) → Holds m (left_in after es)
    → All (λ (f : Entry). Grown (load 8 after f.address) (load 8 m f.address)) es
holds_grew m after [] holds = tt
holds_grew m after (e ∷ es) holds = (since_is_grown holds.0, holds_grew m after es holds.1)

-- a place that a walk left, and that walk; settings since differ in the root alone, and memory is as long
pub record Backs (s : Settings) (size : ℕ) (w : Walk) (p : Place) : Type 0 where
  pub under : Settings
  pub at : VirtAddr
  pub how : Way
  pub memory : List ℕ
  pub found : Mapping
  pub alike : Alike under s
  pub wide : 7 ≤ under.width
  pub as_long : length memory ≡ size
  pub walk_found : walk_answer under at how memory ≡ Ok found
  pub is_place : p ≡ place_of under at how found
  pub is_walk : w ≡ walk_of under at memory (walk_memory under at how memory)

-- the place's key is the walk's
pub backs_key : (s : Settings) (size : ℕ) (w : Walk) (p : Place) → Backs s size w p → key_of p ≡ w.key
backs_key s size w p k =
    ap key_of k.is_place
    ∙ found_key k.under k.at k.how k.memory k.found k.walk_found (walk_memory k.under k.at k.how k.memory)
    ∙ ap (λ (v : Walk). v.key) (sym k.is_walk)

-- A hit where each entry holds what the walk left: the fresh walk gives the same, and marks nothing.
module _ (s under : Settings) (alike : Alike under s) (wide : 7 ≤ under.width) (same-root : root s ≡ root under)
    (m₀ m : List ℕ) (as_long : length m₀ ≡ length m) (at address : VirtAddr) (same_page : tag at ≡ tag address) (how a : Way)
    (found : Mapping) (h : walk_answer under at how m₀ ≡ Ok found)
    (holds : Holds m (left_in (walk_memory under at how m₀) (entries (walk_path under at m₀)))) where
  abbrev then : Success (needed under how) (walk_path under at m₀) found
  then = its under at how m₀ found h

  grew : All (λ (f : Entry). Grown (load 8 (marks (writes how) (walk_path under at m₀) m₀) f.address) (load 8 m f.address))
      (entries (walk_path under at m₀))
  grew =
      subst (λ (x : List ℕ). All (λ (f : Entry). Grown (load 8 x f.address) (load 8 m f.address)) (entries (walk_path under at m₀)))
      (found_memory under at how m₀ found h)
      (holds_grew m (walk_memory under at how m₀) (entries (walk_path under at m₀)) holds)

  -- the path now
  fresh_path : walk_path s address m ≡ walk_path under address m
  fresh_path =
      λ i. path (says (sym alike.width_same i) (bit (sym alike.efer_same i) 11)) m address 4 (same-root i).0

  -- what the walk now finds
  abbrev finds : Mapping
  finds =
      record {
        base = record { 0 = then.base };
        last = load 8 m then.last.address;
        rights = rights (walk_path under address m);
        size = then.last.level;
        reads = reads (walk_path under address m);
      }

  now_rights : rights (walk_path under address m) ≡ rights (walk_path under at m₀)
  now_rights =
      rights_now under.width (nxe under) wide (root under).0 (root_aligned under) m₀ m as_long at address same_page (writes how)
      then.last then.base then.at_end grew

  now_finds : allow (needed s a) (rights (walk_path under at m₀)) ≡ true → walk_answer s address a m ≡ Ok finds
  now_finds allowed =
      ap (walked (needed s a)) fresh_path
      ∙ succeeds (needed s a) (walk_path under address m) (refreshed m then.last) then.base
      (end_now under.width (nxe under) wide (root under).0 (root_aligned under) m₀ m as_long at address same_page (writes how)
      then.last then.base then.at_end grew)
      (ap (allow (needed s a)) now_rights ∙ allowed)

  now_memory : (allow (needed s a) (rights (walk_path under at m₀)) ≡ true) → (writes a ≡ true → (bit then.last.value 6 || writes how) ≡ true)
      → walk_memory s address a m ≡ m
  now_memory allowed dirty =
      found_memory s address a m finds (now_finds allowed)
      ∙ ap (λ (p : Path). marks (writes a) p m) fresh_path
      ∙ memory_now under.width (nxe under) wide (root under).0 (root_aligned under) m₀ m as_long at address same_page (writes how)
      then.last then.base then.at_end grew (writes a) dirty

  -- the answer of a hit is the fresh walk's
  now_told : allow (needed s a) (rights (walk_path under at m₀)) ≡ true
      → without_reads (hit address (place_of under at how found)) ≡ without_reads (answered s address a (walk_answer s address a m))
  now_told allowed =
      ap (λ (f : Mapping). without_reads (hit address (place_of under at how f))) then.is_found
      ∙ ap₂ (λ (x : PhysAddr) (n : ℕ). record { answer = 0; value = x.0; detail = then.last.level; reads = 0; memory_type = n }) one_frame one_type
      ∙ ap (λ (w : Walked). without_reads (answered s address a w)) (sym (now_finds allowed))
    where
      ending : Ending then.last then.base
      ending = its_ending under at how m₀ found h

      one_type : memory_type then.last.level then.last.value ≡ memory_type then.last.level (load 8 m then.last.address)
      one_type =
          type_same then.last.level then.last.value (load 8 m then.last.address)
          (last_grew under.width (nxe under) wide (root under).0 (root_aligned under) m₀ m as_long at address same_page (writes how)
          then.last then.base then.at_end grew)

      one_frame : in_frame (frame_of (plus (record { 0 = then.base }) (offset at then.last.level))) (offset address 1)
          ≡ plus (record { 0 = then.base }) (offset address then.last.level)
      one_frame =
          rw (base_frame then.last.value then.last.level then.base ending.level_from ending.level_to ending.base_is)
          (same_frame at address (then.base / 4096) then.last.level ending.level_from same_page)

  -- a place that serves has the rights and, for a write, the D that the access needs
  module _ (serving : serves (wanted s address a) (place_of under at how found) ≡ true) where
    -- the rights of all the entries then, one by one
    abbrev then_write : Bool
    then_write = every (λ (v : ℕ). bit v 1) (entries (walk_path under at m₀))

    abbrev then_user : Bool
    then_user = every (λ (v : ℕ). bit v 2) (entries (walk_path under at m₀))

    abbrev then_fetch : Bool
    then_fetch = every (λ (v : ℕ). not (bit v 63)) (entries (walk_path under at m₀))

    rights_then : found.rights ≡ number then_write then_user then_fetch
    rights_then = ap (λ (f : Mapping). f.rights) then.is_found

    -- each flag wanted is there
    all_given_lem : all_given (needs_write s a) a.user (fetches a) (writes a) (bit found.rights 0) (bit found.rights 1) (bit found.rights 2) (bit found.last 6 || writes how) ≡ true
    all_given_lem =
        sym (flags_each (needs_write s a) a.user (fetches a) (writes a) (bit found.rights 0) (bit found.rights 1) (bit found.rights 2)
        (bit found.last 6 || writes how) (bit found.last 8 && pge under))
        ∙ (serves_has (wanted s address a) (place_of under at how found) serving).has_flags

    has_two : (given (needs_write s a) (bit found.rights 0) && given a.user (bit found.rights 1) ≡ true)
        × (given (fetches a) (bit found.rights 2) && given (writes a) (bit found.last 6 || writes how) ≡ true)
    has_two = and_true _ _ all_given_lem

    has_first : (given (needs_write s a) (bit found.rights 0) ≡ true) × (given a.user (bit found.rights 1) ≡ true)
    has_first = and_true _ _ has_two.0

    has_second : (given (fetches a) (bit found.rights 2) ≡ true) × (given (writes a) (bit found.last 6 || writes how) ≡ true)
    has_second = and_true _ _ has_two.1

    enough : allow (needed s a) (rights (walk_path under at m₀)) ≡ true
    enough =
        given_allow (needs_write s a) a.user (fetches a) (nxe s) then_write then_user then_fetch
        (subst (λ (x : Bool). given (needs_write s a) x ≡ true) (ap (λ (n : ℕ). bit n 0) rights_then ∙ number_write then_write then_user then_fetch) has_first.0)
        (subst (λ (x : Bool). given a.user x ≡ true) (ap (λ (n : ℕ). bit n 1) rights_then ∙ number_user then_write then_user then_fetch) has_first.1)
        (subst (λ (x : Bool). given (fetches a) x ≡ true) (ap (λ (n : ℕ). bit n 2) rights_then ∙ number_fetch then_write then_user then_fetch) has_second.0)

    pub hit_told : without_reads (hit address (place_of under at how found)) ≡ without_reads (answered s address a (walk_answer s address a m))
    hit_told = now_told enough

    pub hit_memory : walk_memory s address a m ≡ m
    hit_memory =
        now_memory enough
        (λ h. subst (λ (v : ℕ). (bit v 6 || writes how) ≡ true) (ap (λ (f : Mapping). f.last) then.is_found)
        (given_there (writes a) (bit found.last 6 || writes how) has_second.1 h))

-- where the root is the walk's and each entry holds what it left, a hit on its place is what a fresh walk gives
pub hit_fresh : (s : Settings) (size : ℕ) (w : Walk) (p : Place) → Backs s size w p → (address : VirtAddr) (a : Way) (m : List ℕ)
    → length m ≡ size → root s ≡ w.root → Holds m w.entries → serves (wanted s address a) p ≡ true
    → (without_reads (hit address p) ≡ without_reads (answered s address a (walk_answer s address a m))) × (m ≡ walk_memory s address a m)
hit_fresh s size w p k address a m long same-root holds serving = (
  ap (λ (q : Place). without_reads (hit address q)) k.is_place
      ∙ hit_told s k.under k.alike k.wide root_then k.memory m as_long_now k.at address same_page k.how a k.found k.walk_found holds_then serving_then,
  sym (hit_memory s k.under k.alike k.wide root_then k.memory m as_long_now k.at address same_page k.how a k.found k.walk_found holds_then serving_then),
)
  where
    serving_then : serves (wanted s address a) (place_of k.under k.at k.how k.found) ≡ true
    serving_then = ap (serves (wanted s address a)) (sym k.is_place) ∙ serving

    same_page : tag k.at ≡ tag address
    same_page = (serves_has (wanted s address a) (place_of k.under k.at k.how k.found) serving_then).same_tag

    root_then : root s ≡ root k.under
    root_then = same-root ∙ ap (λ (v : Walk). v.root) k.is_walk

    as_long_now : length k.memory ≡ length m
    as_long_now = k.as_long ∙ sym long

    holds_then : Holds m (left_in (walk_memory k.under k.at k.how k.memory) (entries (walk_path k.under k.at k.memory)))
    holds_then = subst (λ (v : Walk). Holds m v.entries) k.is_walk holds
