-- Demand 3: its first half, and what any call that walks gives.
use Prim.Native.Nat.{ℕ}
use mathlib.Core.Path.{◌≡◌, sym, ap, ◌∙◌}
use mathlib.Core.Bool.{true, false≢true}
use mathlib.Core.List.{Memᴰ}
use lib.ListN.{length}
use Rattle.settings.specs.declared.Settings.{Settings}
use Rattle.address.specs.declared.VirtAddr.{VirtAddr}
use Rattle.address.specs.Address.{tag}
use Rattle.walk.specs.declared.Way.{Way}
use Rattle.walk.specs.Walk.{walk_answer, walk_memory}
use Rattle.walk.specs.Translate.{answered, translated, translated_memory}
use Rattle.std.specs.Prelude.{Some}
use Rattle.cache.specs.declared.Place.{Place}
use Rattle.cache.specs.Places.{key_of, mine, set_index, serves}
use Rattle.cache.specs.Whole.{held}
use Rattle.cache.proofs.Laws.{find_cache, find_cache_lem, serves_has}
use Rattle.cache.proofs.Lists.{first_serves}
use Rattle.machine.specs.declared.Call.{Call}
use Rattle.machine.specs.Remember.{wanted, hit}
use Rattle.machine.specs.Calls.{Result}
use Rattle.machine.specs.Series.{Stand, gives, run, start}
use Rattle.machine.specs.History.{Latest, none, walk, latest}
use Rattle.machine.specs.Demand3.{present_number, Premise, AsFresh, without_reads, walks, FirstHalf, AnyWalk}
use Rattle.machine.proofs.Lists.{has_member}
use Rattle.machine.proofs.Hits.{hit_fresh}
use Rattle.machine.proofs.Translations.{Goes, quiet, hits, fills, goes}
use Rattle.machine.proofs.Translations as Ways
use Rattle.machine.proofs.Sound.{Backed, Own, Sound}
use Rattle.machine.proofs.First.{after_series, start_sound}

module _ (now : Stand) (size : ℕ) (w : Latest) (address : VirtAddr) (access mode : ℕ) (sound : Sound (tag address) (present_number now) size now w) (premise : Premise now w) where
  abbrev s : Settings
  s = now.machine.settings

  -- a hit under the premise
  fresh_hit : (a : Way) (p : Place) → find_cache (wanted s address a) now.machine.cache ≡ Some p
      → (without_reads (hit address p) ≡ without_reads (answered s address a (walk_answer s address a now.memory))) × (now.memory ≡ walk_memory s address a now.memory)
  fresh_hit a p found = go w premise (has_member (Own (tag address) (present_number now) s size w) member.0 sound.backed same own_number)
    where
      member : Memᴰ p (held (set_index (tag address)) now.machine.cache) × (serves (wanted s address a) p ≡ true)
      member =
          first_serves (wanted s address a) (held (set_index (tag address)) now.machine.cache) p
          (sym (find_cache_lem (wanted s address a) now.machine.cache) ∙ found)

      same : p.tag ≡ tag address
      same = (serves_has (wanted s address a) p member.1).same_tag

      own_number : mine (present_number now) (key_of p) ≡ true
      own_number = (serves_has (wanted s address a) p member.1).is_mine

      go : (v : Latest) → Premise now v → Backed s size v p
          → (without_reads (hit address p) ≡ without_reads (answered s address a (walk_answer s address a now.memory))) × (now.memory ≡ walk_memory s address a now.memory)
      go none h back = absurd back
      go (walk v) h back = hit_fresh s size v p back address a now.memory sound.as_long h.0 h.1 member.1

  -- a translation under the premise
  as_fresh : Goes now.machine now.memory address access mode → AsFresh now address access mode
  as_fresh (quiet r no-success no-fault is fresh-is left_is) =
      (ap (λ (x : Result). without_reads x.answer) is ∙ ap without_reads (sym fresh-is), ap (λ (x : Result). x.memory) is ∙ sym left_is)
  as_fresh (hits a p found is fresh-is left_is) = (
    ap (λ (x : Result). without_reads x.answer) is ∙ (fresh_hit a p found).0 ∙ ap without_reads (sym fresh-is),
    ap (λ (x : Result). x.memory) is ∙ (fresh_hit a p found).1 ∙ sym left_is,
  )
  as_fresh (fills a f on found is fresh-is left_is) =
      (ap (λ (x : Result). without_reads x.answer) is ∙ ap without_reads (sym fresh-is), ap (λ (x : Result). x.memory) is ∙ sym left_is)
  as_fresh (Ways.drops r no-success fault is fresh-is left_is) =
      (ap (λ (x : Result). without_reads x.answer) is ∙ ap without_reads (sym fresh-is), ap (λ (x : Result). x.memory) is ∙ sym left_is)

-- the first half
pub first_half : FirstHalf
first_half s memory series address access mode premise =
    let n = present_number (run (start s memory) series) in
    as_fresh (run (start s memory) series) (length memory) (latest (tag address) n (start s memory) series none) address access mode
    (after_series (tag address) n (length memory) (start s memory) none (start_sound (tag address) n s memory) series)
    premise
    (goes (run (start s memory) series).machine (run (start s memory) series).memory address access mode)

-- any call that walks gives what a fresh walk gives
pub any_walk : AnyWalk
any_walk now address access mode walking = go (goes now.machine now.memory address access mode)
  where
    go : Goes now.machine now.memory address access mode
        → ((gives now (Call.Translate address access mode)).answer
        ≡ translated now.machine.settings address access mode now.memory)
        × ((gives now (Call.Translate address access mode)).memory
        ≡ translated_memory now.machine.settings address access mode now.memory)
    go (quiet r no-success no-fault is fresh-is left_is) =
        (ap (λ (x : Result). x.answer) is ∙ sym fresh-is, ap (λ (x : Result). x.memory) is ∙ sym left_is)
    go (hits a p found is fresh-is left_is) = absurd (false≢true (sym (ap (λ (x : Result). walks x.answer) is) ∙ walking))
    go (fills a f on found is fresh-is left_is) =
        (ap (λ (x : Result). x.answer) is ∙ sym fresh-is, ap (λ (x : Result). x.memory) is ∙ sym left_is)
    go (Ways.drops r no-success fault is fresh-is left_is) =
        (ap (λ (x : Result). x.answer) is ∙ sym fresh-is, ap (λ (x : Result). x.memory) is ∙ sym left_is)
