-- What a translation finds before it walks: the tests 1, 2 and 3, then a lookup in the set of its page, which is all of the cache that it reads.
use Rattle.std.specs.Prelude.{ℕ, Option, None, Some, Result, Ok, Err}
use Rattle.settings.specs.declared.Settings.{Settings}
use Rattle.address.specs.declared.VirtAddr.{VirtAddr}
use Rattle.address.specs.Address.{tag}
use Rattle.walk.specs.declared.Way.{Way}
use Rattle.walk.specs.declared.Asked.{Asked}
use Rattle.walk.specs.declared.Refusal.{Refusal}
use Rattle.walk.specs.Translate.{asked, unpaged}
use Rattle.cache.specs.declared.Place.{Place}
use Rattle.cache.specs.declared.Set.{Set}
use Rattle.cache.specs.Places.{set_index}
use Rattle.cache.specs.Sets.{find_in}
use Rattle.machine.specs.declared.Probed.{Probed}
use Rattle.machine.specs.declared.Probed.TheVariants.{Answered, Walk}
use Rattle.machine.specs.Remember.{wanted, hit}

-- a hit is answered from its place. "Otherwise walk."
abbrev pub probed_found : VirtAddr → Way → Option Place → Probed
probed_found address a (Some p) = Answered (hit address p)
probed_found address a None = Walk a

-- by what the tests find; "With paging off a translation neither reads nor changes the cache."
abbrev pub probed_asked : Settings → Set → VirtAddr → Result Asked Refusal → Probed
probed_asked s set address (Err why) = Answered (Err why)
probed_asked s set address (Ok (Asked.Off at)) = Answered (Ok (unpaged at))
probed_asked s set address (Ok (Asked.On a)) = probed_found address a (find_in (set_index (tag address)) (wanted s address a) set)

-- what a translation finds in a set
unfoldable pub probed : Settings → Set → VirtAddr → ℕ → ℕ → Probed
probed s set address access mode = probed_asked s set address (asked s address access mode)
