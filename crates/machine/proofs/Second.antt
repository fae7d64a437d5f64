-- The second half of demand 3: the place that a walk with success leaves is found again.
use Prim.Native.Nat.{ℕ, ◌+◌, ◌*◌, ◌/◌, ◌%◌, ◌^◌, ◌≤◌}
use native.Mathlib.Omega.{arith}
use mathlib.Core.Path.{◌≡◌, refl, sym, ap, subst, ◌∙◌}
use mathlib.Core.Bool.{true}
use mathlib.Core.List.{List, []}
use lib.ListN.{length, take}
use Rattle.settings.specs.declared.Settings.{Settings}
use Rattle.address.specs.declared.VirtAddr.{VirtAddr}
use Rattle.address.specs.Address.{tag, offset}
use Rattle.entry.specs.Memory.{memory_type}
use Rattle.walk.specs.declared.Way.{Way}
use Rattle.walk.specs.declared.Asked.TheVariants as Asked
use Rattle.walk.specs.declared.Mapping.{Mapping}
use Rattle.walk.specs.Walk.{walk_answer, walk_memory}
use Rattle.walk.specs.Translate.{asked, answered, numbers}
use Rattle.std.specs.Prelude.{Some, Ok}
use Rattle.cache.specs.declared.Place.{Place}
use Rattle.cache.specs.Places.{key_of, set_index, filled_in, spares}
use Rattle.cache.specs.Sets.{keep}
use Rattle.cache.specs.Whole.{held, fill_cache}
use Rattle.cache.proofs.Laws.{find_cache, Sixteen, fill_sixteen, held_fill}
use Rattle.machine.specs.declared.Call.{Call}
use Rattle.machine.specs.declared.Machine.{Machine}
use Rattle.machine.specs.Probe.{probed}
use Rattle.machine.specs.Remember.{wanted, place_of, hit}
use Rattle.machine.specs.Calls.{Result, step, with_cache}
use Rattle.machine.specs.Calls as Calls
use Rattle.machine.specs.Series.{Event, Stand, gives, run, start}
use Rattle.machine.specs.History.{Walk, none, walk_of, succeeded}
use Rattle.machine.specs.Demand3.{others, present_number, Numbered, Between, again, SecondHalf}
use Rattle.machine.proofs.Places.{found_filled, found_serves, found_key}
use Rattle.machine.proofs.Asked.{Due, due, due_again}
use Rattle.machine.proofs.Translations.{Goes, quiet, hits, fills, filled_result, goes}
use Rattle.machine.proofs.Translations as Ways
use Rattle.machine.proofs.Sound.{contradiction}
use Rattle.machine.proofs.First.{after_series, start_sound}
use Rattle.machine.proofs.Staying.{Remembers, remembered, found_again}

-- a translation that finds a place
hit_result : (m : Machine) (memory : List ℕ) (address : VirtAddr) (access mode : ℕ) (a : Way) (p : Place)
    → asked m.settings address access mode ≡ Ok (Asked.On a) → find_cache (wanted m.settings address a) m.cache ≡ Some p
    → (step m memory (Call.Translate address access mode)).answer ≡ hit address p
unfolding step Calls.translated probed
hit_result m memory address access mode a p on found = rw (on, found)

-- the numbers of a hit on the place of an answer
piece : (x y : ℕ) → (x % 2 ^ 64 / 4096 * 4096 + y % 2 ^ 12 % 4096) % 2 ^ 64 ≡ x % 2 ^ 64 / 4096 * 4096 + y % 4096
piece x y = omega arith

again_numbers : (s : Settings) (first later : VirtAddr) (a : Way) (f : Mapping)
    → numbers (hit later (place_of s first a f)) ≡ again (numbers (answered s first a (Ok f))) later
again_numbers s first later a f =
    ap (λ (x : ℕ). record { answer = 0; value = x; detail = f.size; reads = 0; memory_type = memory_type f.size f.last }) (piece (f.base.0 + offset first f.size) later.0)

module _ (now : Stand) (sixteen : Sixteen now.machine.cache) (first later : VirtAddr) (access mode : ℕ) (pages : List Numbered)
    (between : List Event) (same : tag later ≡ tag first) (at_most : length pages ≤ others) where
  abbrev s : Settings
  s = now.machine.settings

  -- what a first result promises
  abbrev Promise : Result → Type 0
  Promise r =
      succeeded r.answer ≡ true
      → Between (tag first) (walk_of s first now.memory r.memory) pages (record { machine = r.machine; memory = r.memory }) between
      → present_number (run (record { machine = r.machine; memory = r.memory }) between) ≡ present_number now
      → numbers (gives (run (record { machine = r.machine; memory = r.memory }) between) (Call.Translate later access mode)).answer
      ≡ again (numbers r.answer) later

  after_fill : (a : Way) (f : Mapping) → asked s first access mode ≡ Ok (Asked.On a) → walk_answer s first a now.memory ≡ Ok f
      → Promise (filled_result now.machine now.memory first access mode a f)
  after_fill a f on found success spared one_number =
      ap numbers (hit_result end.machine end.memory later access mode a (place_of s first a f) on_later find_later)
      ∙ again_numbers s first later a f
    where
      filled_now : Machine
      filled_now = with_cache now.machine (fill_cache (place_of s first a f) now.machine.cache)

      end : Stand
      end = run (record { machine = filled_now; memory = walk_memory s first a now.memory }) between

      its_walk : Walk
      its_walk = walk_of s first now.memory (walk_memory s first a now.memory)

      its_key : key_of (place_of s first a f) ≡ its_walk.key
      its_key = found_key s first a now.memory f found (walk_memory s first a now.memory)

      is_due : Due s first access mode a
      is_due = due s first access mode a on

      is_filled : filled_in (set_index (tag first)) (place_of s first a f) ≡ true
      is_filled = found_filled s first a now.memory f found is_due.is_canonical

      at_first : Remembers (tag first) pages at_most (place_of s first a f) refl its_walk its_key s filled_now
      at_first =
          record {
            stays_in = record {
              sixteen = fill_sixteen (place_of s first a f) now.machine.cache sixteen;
              front = [];
              rest = take 3 (keep (spares (place_of s first a f)) (held (set_index (tag first)) now.machine.cache));
              is_held = held_fill (place_of s first a f) now.machine.cache sixteen is_filled;
              few = tt;
              apart = tt;
            };
            alike = record { cr0_same = refl; cr4_same = refl; efer_same = refl; width_same = refl };
            serving = is_due.is_served;
          }

      at_end : Remembers (tag first) pages at_most (place_of s first a f) refl its_walk its_key s end.machine
      at_end =
          remembered (tag first) pages at_most (place_of s first a f) refl its_walk its_key s
          (record { machine = filled_now; memory = walk_memory s first a now.memory }) between at_first
          spared

      on_later : asked end.machine.settings later access mode ≡ Ok (Asked.On a)
      on_later = due_again s end.machine.settings first later access mode a at_end.alike at_end.serving (sym same) is_due

      find_later : find_cache (wanted end.machine.settings later a) end.machine.cache ≡ Some (place_of s first a f)
      find_later =
          found_again (tag first) pages at_most (place_of s first a f) refl its_walk its_key s end.machine (wanted end.machine.settings later a) same
          (found_serves s first a now.memory f found end.machine.settings later at_end.alike (sym same) (sym one_number)) at_end

  promised : Goes now.machine now.memory first access mode → Promise (gives now (Call.Translate first access mode))
  promised (quiet r no-success no-fault is fresh-is left_is) =
      subst Promise (sym is) (λ success. contradiction success no-success)
  promised (hits a p found is fresh-is left_is) = subst Promise (sym is) (λ success. contradiction success refl)
  promised (fills a f on found is fresh-is left_is) = subst Promise (sym is) (after_fill a f on found)
  promised (Ways.drops r no-success fault is fresh-is left_is) = subst Promise (sym is) (λ success. contradiction success no-success)

-- the second half
pub second_half : SecondHalf
second_half s memory series first later access mode pages between success same at_most spared one_number =
    promised (run (start s memory) series)
    (after_series (tag first) 0 (length memory) (start s memory) none (start_sound (tag first) 0 s memory) series).sixteen
    first later access mode pages between same at_most
    (goes (run (start s memory) series).machine (run (start s memory) series).memory first access mode)
    success spared one_number
