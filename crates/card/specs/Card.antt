-- "Exercise cards": 32 bytes to a call of the machine, and one card's step.
use Rattle.std.specs.Prelude.{ℕ, ◌≡◌, Result, Ok, Err, cond, List, eqb, length, get_or}
use Rattle.word.specs.Bits.{field}
use Rattle.word.specs.Bytes.{load}
use Rattle.walk.specs.declared.Numbers.{Numbers}
use Rattle.walk.specs.Translate.{numbers, refusal}
use Rattle.machine.specs.declared.Call.{Call}
use Rattle.machine.specs.declared.Machine.{Machine}
use Rattle.machine.specs.Calls.{step}
use Rattle.card.specs.declared.decode.Unread.{Unread}

-- "Byte 0 is the kind, 1 access, 2 mode"
abbrev pub kind : List ℕ → ℕ
kind card = get_or card 0 0

abbrev pub access : List ℕ → ℕ
access card = get_or card 1 0

abbrev pub mode : List ℕ → ℕ
mode card = get_or card 2 0

-- "8 to 15 address, 16 to 23 value, little-endian"
abbrev pub address : List ℕ → ℕ
address card = load 8 card 8

abbrev pub value : List ℕ → ℕ
value card = load 8 card 16

-- "settings: bytes 8 to 11 CR0, 12 to 15 CR4, 16 to 23 EFER, 24 M": the halves of the number in bytes 8 to 15
abbrev pub cr0 : List ℕ → ℕ
cr0 card = field (address card) 0 32

abbrev pub cr4 : List ℕ → ℕ
cr4 card = field (address card) 32 32

abbrev pub width : List ℕ → ℕ
width card = get_or card 24 0

-- "Kinds: 0 translate, 1 store the value's 8 bytes, 2 load root (value), 3 drop page, 4 drop all, 5 settings"; any other is no call. "Other bytes are ignored."
unfoldable pub call_of : ℕ → List ℕ → Result Call Unread
call_of k card =
    cond (eqb k 0) (Ok (Call.Translate (record { 0 = address card }) (access card) (mode card)))
    (cond (eqb k 1) (Ok (Call.Store (address card) (value card)))
    (cond (eqb k 2) (Ok (Call.LoadRoot (value card)))
    (cond (eqb k 3) (Ok (Call.DropPage (record { 0 = address card })))
    (cond (eqb k 4) (Ok Call.DropAll)
    (cond (eqb k 5) (Ok (Call.LoadSettings (cr0 card) (cr4 card) (value card) (width card))) (Err Unread.Kind))))))

-- what a card says: "A card is 32 bytes, no header."
unfoldable pub decoded : List ℕ → Result Call Unread
decoded card = cond (eqb (length card) 32) (call_of (kind card) card) (Err Unread.Short)

-- the number with which a card that is no call is refused: 1 "card kind unknown", 6 "last card short"
abbrev pub number : Unread → ℕ
number Unread.Kind = 1
number Unread.Short = 6

-- what a card gives: the five numbers, the machine and memory afterwards; a record shared with a call's result would read answer.answer
pub record Turned : Type 0 where
  pub numbers : Numbers
  pub machine : Machine
  pub memory : List ℕ

-- a call's result in the paper's numbers; a card that is no call changes nothing
abbrev pub turned : Machine → List ℕ → Result Call Unread → Turned
turned m memory (Ok call) =
    record { numbers = numbers (step m memory call).answer; machine = (step m memory call).machine; memory = (step m memory call).memory }
turned m memory (Err unread) = record { numbers = refusal (number unread); machine = m; memory = memory }

-- one card's step; "A short last card gives a line with 6 and ends"
unfoldable pub stepped : Machine → List ℕ → List ℕ → Turned
stepped m memory card = turned m memory (decoded card)

-- numbers, machine and memory are what a card gives on a machine and memory
abbrev pub Gives : Machine → List ℕ → List ℕ → Numbers → Machine → List ℕ → Type 0
Gives m memory card n m' memory' =
    (n ≡ (stepped m memory card).numbers) × (m' ≡ (stepped m memory card).machine) × (memory' ≡ (stepped m memory card).memory)
