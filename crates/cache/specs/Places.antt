-- One place: when it counts as filled, and what each drop, fill and lookup asks of it.
use Rattle.std.specs.Prelude.{ℕ, ◌*◌, ◌/◌, ◌%◌, ◌^◌, Bool, true, false, not, ◌&&◌, ◌||◌, cond, eqb, leb, ltb}
use Rattle.word.specs.Bits.{bit, includes}
use Rattle.cache.specs.declared.Drop.{Drop}
use Rattle.cache.specs.declared.Drop.TheVariants.{Page, Piece, Number, Local, All, Nothing}
use Rattle.cache.specs.declared.Place.{Place}
use Rattle.cache.specs.declared.Wanted.{Wanted}

-- a place's flags are bits: its combined R/W 0, U/S 1 and fetch 2 rights, D 3, G 4, and whether it is marked 5
abbrev pub is_marked : Place → Bool
is_marked p = bit p.flags 5

abbrev pub has_g : Place → Bool
has_g p = bit p.flags 4

-- "all zeros"
abbrev pub zero_place : Place
zero_place =
    record { tag = 0; frame = record { 0 = 0 }; size = 0; flags = 0; memory_type = 0; number = 0 }

-- "its set is tag mod 16"
abbrev pub set_index : ℕ → ℕ
set_index tag = tag % 16

-- "A place counts as filled only if marked, its tag is below 2^52 and belongs to that set, its frame is below 2^40 and its size is 1 to 3";
-- the memory type index is "below 8 in a filled place"; "a filled place carries [a number] up to 4,095"
unfoldable pub filled_in : ℕ → Place → Bool
filled_in i p =
    is_marked p
    && ((ltb p.tag (2 ^ 52) && eqb (set_index p.tag) i)
    && (ltb p.frame.0 (2 ^ 40) && ((leb 1 p.size && leb p.size 3) && (ltb p.memory_type 8 && leb p.number 4095))))

-- what drops ask of a place, and of the walk that left it: its tag, its size, its space number, and whether it is G
pub record Key : Type 0 where
  pub tag : ℕ
  pub size : ℕ
  pub number : ℕ
  pub global : Bool

-- the key of a place
abbrev pub key_of : Place → Key
key_of p = record { tag = p.tag; size = p.size; number = p.number; global = has_g p }

-- "the same number or a G place"
abbrev pub mine : ℕ → Key → Bool
mine n k = k.global || eqb k.number n

-- "in one number without G"
abbrev pub mine_alone : ℕ → Key → Bool
mine_alone n k = not k.global && eqb k.number n

-- the bytes of a page by its size: 2 MiB, 1 GiB, else 4 KiB
abbrev pub page_bytes : ℕ → ℕ
page_bytes size = cond (eqb size 2) (2 ^ 21) (cond (eqb size 3) (2 ^ 30) (2 ^ 12))

-- a place covers an address of page t: its "own page, at its own size, contains the address"
abbrev pub covers : Key → ℕ → Bool
covers k t = eqb (k.tag * 4096 / page_bytes k.size) (t * 4096 / page_bytes k.size)

-- what each drop takes
unfoldable pub takes : Drop → Key → Bool
-- "each place whose own page [..] contains the address"; "'Drop page' and the drop after a fault take the present number's and G places"
takes (Page t n) k = covers k t && mine n k
-- "one address (by #102's rule) in one number without G"
takes (Piece t n) k = covers k t && mine_alone n k
-- "the non-G places of the number loaded"; "one number without G"
takes (Number n) k = mine_alone n k
-- "A root load drops all but G places."; "all without G"
takes Local k = not k.global
-- "drops everything"; "all with G"
takes All k = true
-- "or nothing if bit 63 of the value is set"
takes Nothing k = false

-- what it leaves
abbrev pub left : Drop → Place → Bool
left d p = not (takes d (key_of p))

-- a place of another tag
unfoldable pub other_tag : ℕ → Place → Bool
other_tag t p = not (eqb p.tag t)

-- what a fill of a new place leaves: it "removes the places of its tag with the same number or G, and all of that tag if the new place is G"
unfoldable pub spares : Place → Place → Bool
spares new p = other_tag new.tag p || (not (has_g new) && not (mine new.number (key_of p)))

-- "with the tag whose rights allow the access [..], and for a write whose D is set": it has every flag that is wanted; "a hit wants the same number or a G place"
unfoldable pub serves : Wanted → Place → Bool
serves w p = (eqb p.tag w.tag && includes w.flags p.flags) && mine w.number (key_of p)
