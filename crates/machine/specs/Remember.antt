-- What a translation wants of a place, what a hit is answered, and what is remembered after a walk.
use Rattle.std.specs.Prelude.{ℕ, ◌+◌, Bool, cond, ◌&&◌, ◌||◌, Ok, Err}
use Rattle.word.specs.Bits.{bit}
use Rattle.settings.specs.declared.Settings.{Settings}
use Rattle.settings.specs.Settings.{pge, space_number}
use Rattle.address.specs.declared.VirtAddr.{VirtAddr}
use Rattle.address.specs.Address.{tag, offset, plus, frame_of, in_frame}
use Rattle.entry.specs.Memory.{memory_type}
use Rattle.entry.specs.Rights.{number}
use Rattle.walk.specs.declared.Way.{Way}
use Rattle.walk.specs.declared.Mapping.{Mapping}
use Rattle.walk.specs.declared.Unmapped.TheVariants.{Refused, Outside}
use Rattle.walk.specs.Answers.{Walked, Answer}
use Rattle.walk.specs.Access.{needs_write, needs_user, writes, fetches}
use Rattle.cache.specs.declared.Cache.{Cache}
use Rattle.cache.specs.declared.Drop.{Drop}
use Rattle.cache.specs.declared.Drop.TheVariants.{Page}
use Rattle.cache.specs.declared.Place.{Place}
use Rattle.cache.specs.declared.Wanted.{Wanted}
use Rattle.cache.specs.Whole.{fill_cache, drop_cache}

-- flags as a number: rights, and 8 for D
abbrev pub with_dirty : ℕ → Bool → ℕ
with_dirty rights dirty = rights + cond dirty 8 0

-- "whose rights allow the access (a fetch needs the place's fetch right at either NXE), and for a write whose D is set"; "the same number or a G place"
abbrev pub wanted : Settings → VirtAddr → Way → Wanted
wanted s address a =
    record {
      tag = tag address;
      flags = with_dirty (number (needs_write s a) (needs_user a) (fetches a)) (writes a);
      number = space_number s;
    }

-- the flags of a marked place: "combined R/W, U/S and fetch rights, D as left by the walk, and G"
abbrev pub flags_of : Bool → Bool → Bool → Bool → Bool → ℕ
flags_of write user fetch dirty global = with_dirty (number write user fetch) dirty + cond global 16 0 + 32

-- "Every page is held as a 4 KiB piece: tag, frame, size, combined R/W, U/S and fetch rights, D as left by the walk, and G (kept only if PGE = 1)."; "The cache keeps" the memory type index; it "carries" the present space number
abbrev pub place_of : Settings → VirtAddr → Way → Mapping → Place
place_of s address a m =
    record {
      tag = tag address;
      frame = frame_of (plus m.base (offset address m.size));
      size = m.size;
      memory_type = memory_type m.size m.last;
      number = space_number s;
      flags = flags_of (bit m.rights 0) (bit m.rights 1) (bit m.rights 2) (bit m.last 6 || writes a) (bit m.last 8 && pge s);
    }

-- what a hit is answered: the place's frame and the offset in the page of 4 KiB, its size and memory type, no entry read
abbrev pub hit : VirtAddr → Place → Answer
hit address p =
    Ok (record { address = in_frame p.frame (offset address 1); size = p.size; memory_type = p.memory_type; reads = 0 })

-- "'Drop page' and the drop after a fault take the present number's and G places"
abbrev pub page_drop : Settings → VirtAddr → Drop
page_drop s address = Page (tag address) (space_number s)

-- "A success removes [..] places [..] and puts the new one first"; a fault or a table outside memory "drops the page asked for"
abbrev pub remembered : Settings → Cache → VirtAddr → Way → Walked → Cache
remembered s c address a (Ok found) = fill_cache (place_of s address a found) c
remembered s c address a (Err (Refused cause n)) = drop_cache (page_drop s address) c
remembered s c address a (Err (Outside at l n)) = drop_cache (page_drop s address) c
