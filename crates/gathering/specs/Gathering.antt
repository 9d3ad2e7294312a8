-- Gathering: the bytes of a piece up to the one that is answered (scope paper, section Reception).
use Rattle.std.specs.Prelude.{ℕ, ◌+◌, ◌≡◌, Bool, true, false, ◌&&◌, ◌||◌, cond, List, [], ◌∷◌, set, eqb, Option, Some, None}
use Rattle.reception.specs.declared.Reception.{Reception}
use Rattle.reception.specs.declared.Reception.TheVariants.{Idle, InData, After13h, FirstCheck, SecondCheck}
use Rattle.reception.specs.declared.Line.{Line}
use Rattle.reception.specs.declared.Told.{Told}
use Rattle.reception.specs.declared.Told.TheVariants.{Nothing, Payload, Complete}
use Rattle.reception.specs.Reception.{taken}
use Rattle.gathering.specs.declared.Gathered.{Gathered}

-- a byte is answered: CAN between packets, NAK too where there is something to send again, and a second check byte
abbrev pub asks_in : Reception → Bool → ℕ → Bool
asks_in Idle resend b = eqb b 0x18 || (eqb b 0x15 && resend)
asks_in InData resend b = false
asks_in After13h resend b = false
asks_in FirstCheck resend b = false
asks_in (SecondCheck a) resend b = true

-- a payload byte goes to its place in the reception store
abbrev pub placed_in : List ℕ → Told → List ℕ
placed_in store Nothing = store
placed_in store (Payload at b) = set store at b
placed_in store (Complete a b) = store

-- where the line and the store are before the byte that is answered, how many bytes are taken with it, and that byte
pub record Got : Type 0 where
  pub line : Line
  pub store : List ℕ
  pub taken : ℕ
  pub asked : Bool
  pub last : ℕ

abbrev pub got_as : Line → List ℕ → ℕ → Bool → ℕ → Got
got_as line store taken asked last = record { line = line; store = store; taken = taken; asked = asked; last = last }

-- WHAT IS GATHERED of a piece, n bytes of it being taken already: a byte that is not answered is reception's
unfoldable pub gathered : Bool → Line → List ℕ → ℕ → List ℕ → Got
gathered resend line store n [] = got_as line store n false 0
gathered resend line store n (b ∷ bs) =
    cond (asks_in line.state resend b) (got_as line store (n + 1) true b)
    (gathered resend (taken line b).line (placed_in store (taken line b).told) (n + 1) bs)

-- the byte that is answered, if one is
abbrev pub asked_of : Got → Option ℕ
asked_of g = cond g.asked (Some g.last) None

-- THE PROMISE: the answer, and every byte of the store
pub record Gathers (g : Got) (r : Gathered) (store' : List ℕ) : Type 0 where
  pub is : r ≡ record { line = g.line; taken = g.taken; asked = asked_of g }
  pub store_is : store' ≡ g.store
