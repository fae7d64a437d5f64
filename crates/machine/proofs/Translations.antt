-- The four ways that a translation goes: no walk is due, a hit, a walk that fills, a walk that drops.
use Prim.Native.Nat.{ℕ}
use mathlib.Core.Path.{◌≡◌, refl, ap}
use mathlib.Core.Bool.{true, false, false≢true}
use mathlib.Core.List.{List}
use Rattle.settings.specs.declared.Settings.{Settings}
use Rattle.settings.specs.declared.Unserved.{Unserved}
use Rattle.settings.specs.declared.Unserved.TheVariants.{Width, Root, Paging, Extension, Spaces}
use Rattle.settings.specs.Settings.{space_number}
use Rattle.address.specs.declared.VirtAddr.{VirtAddr}
use Rattle.address.specs.Address.{tag}
use Rattle.walk.specs.declared.Way.{Way}
use Rattle.walk.specs.declared.Refusal.{Refusal}
use Rattle.walk.specs.Answers.{Answer, Walked}
use Rattle.walk.specs.declared.Asked.{Asked}
use Rattle.walk.specs.declared.Unmapped.TheVariants.{Refused, Outside}
use Rattle.walk.specs.declared.Mapping.{Mapping}
use Rattle.walk.specs.Walk.{after, walk_answer, walk_memory}
use Rattle.walk.specs.Translate.{unpaged, asked, answered, translated, translated_memory}
use Rattle.cache.specs.declared.Drop.TheVariants.{Page}
use Rattle.cache.specs.declared.Place.{Place}
use Rattle.cache.specs.Whole.{fill_cache, drop_cache}
use Rattle.cache.proofs.Laws.{find_cache}
use Rattle.machine.specs.declared.Call.{Call}
use Rattle.machine.specs.declared.Machine.{Machine}
use Rattle.machine.specs.Probe.{probed}
use Rattle.machine.specs.Remember.{wanted, place_of, hit}
use Rattle.machine.specs.Calls.{Result, step, with_cache}
use Rattle.machine.specs.Calls as Calls
use Rattle.machine.specs.Demand1.{faulted}
use Rattle.machine.specs.History.{succeeded, accepted}
use Rattle.machine.proofs.Asked.{refused_early}
use Rattle.std.specs.Prelude as Prelude
use Rattle.std.specs.Prelude.{Option, None, Some, Ok, Err}

-- a refusal of settings is no success, no fault, and no load that is accepted
pub not_succeeded : (why : Unserved) → succeeded (Err (Refusal.NotServed why)) ≡ false
not_succeeded Width = refl
not_succeeded Root = refl
not_succeeded Paging = refl
not_succeeded Extension = refl
not_succeeded Spaces = refl

pub not_faulted : (why : Unserved) → faulted (Err (Refusal.NotServed why)) ≡ false
not_faulted Width = refl
not_faulted Root = refl
not_faulted Paging = refl
not_faulted Extension = refl
not_faulted Spaces = refl

pub not_accepted : (why : Unserved) → accepted (Err (Refusal.NotServed why)) ≡ false
not_accepted Width = refl
not_accepted Root = refl
not_accepted Paging = refl
not_accepted Extension = refl
not_accepted Spaces = refl

module _ (m : Machine) (memory : List ℕ) (address : VirtAddr) (access mode : ℕ) where
  abbrev s : Settings
  s = m.settings

  -- the call's result, and the fresh walk's answer and memory
  abbrev result : Result
  result = step m memory (Call.Translate address access mode)

  abbrev freshly : Answer
  freshly = translated s address access mode memory

  abbrev left : List ℕ
  left = translated_memory s address access mode memory

  -- the result of a walk that fills, and of one that drops
  abbrev pub filled_result : Way → Mapping → Result
  filled_result a f =
      record {
        answer = answered s address a (Ok f);
        machine = with_cache m (fill_cache (place_of s address a f) m.cache);
        memory = walk_memory s address a memory;
      }

  abbrev pub dropped_result : Answer → Result
  dropped_result r = record { answer = r; machine = with_cache m (drop_cache (Page (tag address) (space_number s)) m.cache); memory = memory }

  -- a result that changes nothing
  abbrev pub same_result : Answer → Result
  same_result r = record { answer = r; machine = m; memory = memory }

  -- how a translation goes
  pub data Goes : Type 0 where
    quiet : (r : Answer) → succeeded r ≡ false → faulted r ≡ false → result ≡ same_result r → freshly ≡ r → left ≡ memory → Goes
    hits : (a : Way) (p : Place) → find_cache (wanted s address a) m.cache ≡ Some p → result ≡ same_result (hit address p)
        → freshly ≡ answered s address a (walk_answer s address a memory) → left ≡ walk_memory s address a memory → Goes
    fills : (a : Way) (f : Mapping) → asked s address access mode ≡ Ok (Asked.On a) → walk_answer s address a memory ≡ Ok f
        → result ≡ filled_result a f → freshly ≡ answered s address a (Ok f) → left ≡ walk_memory s address a memory → Goes
    drops : (r : Answer) → succeeded r ≡ false → faulted r ≡ true
        → result ≡ dropped_result r → freshly ≡ r → left ≡ memory → Goes

  by_walk : (a : Way) (w : Walked) → asked s address access mode ≡ Ok (Asked.On a) → find_cache (wanted s address a) m.cache ≡ None
      → walk_answer s address a memory ≡ w → Goes
  unfolding step Calls.translated probed translated translated_memory after
  by_walk a (Ok f) on miss is =
      fills a f on is (rw (on, miss, is)) (rw (on, is)) (rw on)
  by_walk a (Err (Refused cause n)) on miss is =
      drops (answered s address a (Err (Refused cause n))) refl refl (rw (on, miss, is)) (rw (on, is)) (rw (on, is))
  by_walk a (Err (Outside at l n)) on miss is =
      drops (answered s address a (Err (Outside at l n))) refl refl (rw (on, miss, is)) (rw (on, is)) (rw (on, is))

  by_found : (a : Way) (x : Option Place) → asked s address access mode ≡ Ok (Asked.On a) → find_cache (wanted s address a) m.cache ≡ x → Goes
  unfolding step Calls.translated probed translated translated_memory
  by_found a (Some p) on is = hits a p is (rw (on, is)) (rw on) (rw on)
  by_found a None on is = by_walk a (walk_answer s address a memory) on is refl

  by_asked : (x : Prelude.Result Asked Refusal) → asked s address access mode ≡ x → Goes
  unfolding step Calls.translated probed translated translated_memory
  by_asked (Err Refusal.Unknown) is = quiet (Err Refusal.Unknown) refl refl (rw is) (rw is) (rw is)
  by_asked (Err (Refusal.NotServed why)) is = quiet (Err (Refusal.NotServed why)) (not_succeeded why) (not_faulted why) (rw is) (rw is) (rw is)
  by_asked (Err Refusal.Form) is = quiet (Err Refusal.Form) refl refl (rw is) (rw is) (rw is)
  by_asked (Err (Refusal.Outside at l n)) is = absurd (false≢true (refused_early s address access mode (Refusal.Outside at l n) is))
  by_asked (Err (Refusal.Fault c l n)) is = absurd (false≢true (refused_early s address access mode (Refusal.Fault c l n) is))
  by_asked (Err Refusal.SpaceNumber) is = absurd (false≢true (refused_early s address access mode Refusal.SpaceNumber is))
  by_asked (Ok (Asked.Off at)) is = quiet (Ok (unpaged at)) refl refl (rw is) (rw is) (rw is)
  by_asked (Ok (Asked.On a)) is = by_found a (find_cache (wanted s address a) m.cache) is refl

  pub goes : Goes
  goes = by_asked (asked s address access mode) refl

  -- a translation leaves the settings
  pub settings_kept : result.machine.settings ≡ s
  settings_kept = go goes
    where
      go : Goes → result.machine.settings ≡ s
      go (quiet r no-success no-fault is fresh-is left_is) = ap (λ (x : Result). x.machine.settings) is
      go (hits a p found is fresh-is left_is) = ap (λ (x : Result). x.machine.settings) is
      go (fills a f on found is fresh-is left_is) = ap (λ (x : Result). x.machine.settings) is
      go (drops r no-success fault is fresh-is left_is) = ap (λ (x : Result). x.machine.settings) is
