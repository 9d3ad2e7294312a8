-- What a payload commands, by its name and layout (scope paper, section Commands).
use Rattle.std.specs.Prelude.{ℕ, Bool, ◌&&◌, cond, List, [], ◌∷◌, ◌++◌, length, get_or, drop, leb, eqb}
use Rattle.answer.specs.Digits.{is_digit, two_digits_at, three_at}
use Rattle.records.specs.Record.{good_block}
use Rattle.command.specs.declared.Command.{Command}
use Rattle.command.specs.declared.Command.TheVariants.{Opn, Gts, GtsWrong, Tli, TliWrong, Tlr, TlrWrong, Tle, Unknown}
use Rattle.command.specs.Texts.{ascii, starts, all_text}

-- two digits of a network, 00 to 99, after a name and a length
abbrev pub network_at : List ℕ → Bool
network_at p = is_digit (get_or p 6 0) && is_digit (get_or p 7 0)

abbrev pub network_of : List ℕ → ℕ
network_of p = two_digits_at p 6

-- GTS, 002 and a network
unfoldable pub gts_good : List ℕ → Bool
gts_good p = eqb (length p) 8 && (starts (ascii "GTS002") p && network_at p)

-- TLI, 012, a network and a version of ten bytes 20h to 7Eh
unfoldable pub tli_good : List ℕ → Bool
tli_good p = eqb (length p) 18 && (starts (ascii "TLI012") p && (network_at p && all_text (drop 8 p)))

-- TLR, three digits that say how many bytes follow them, and a good block: a count and its records
unfoldable pub tlr_good : List ℕ → Bool
tlr_good p =
    leb 6 (length p)
    && (is_digit (get_or p 3 0) && (is_digit (get_or p 4 0) && (is_digit (get_or p 5 0)
    && (eqb (three_at (drop 3 p)) (length (drop 6 p)) && good_block (drop 6 p)))))

-- THE CASES, by the command table's values: the name that is answered and the status that name and layout alone give (000, 011 for a wrong layout, ERR010
-- for what is no command), and then the network, where one is named. The promise cites it
unfoldable pub row_of : Command → List ℕ
row_of Opn = ascii "OPN000"
row_of (Gts n) = ascii "GTS000" ++ (n ∷ [])
row_of GtsWrong = ascii "GTS011"
row_of (Tli n) = ascii "TLI000" ++ (n ∷ [])
row_of TliWrong = ascii "TLI011"
row_of Tlr = ascii "TLR000"
row_of TlrWrong = ascii "TLR011"
row_of Tle = ascii "TLE000"
row_of Unknown = ascii "ERR010"

-- ---- by name: a wrong layout is told apart, but OPN and TLE with more bytes are unknown

abbrev pub opn_of : List ℕ → Command
opn_of p = cond (eqb (length p) 3) Opn Unknown

abbrev pub gts_of : List ℕ → Command
gts_of p = cond (gts_good p) (Gts (network_of p)) GtsWrong

abbrev pub tli_of : List ℕ → Command
tli_of p = cond (tli_good p) (Tli (network_of p)) TliWrong

abbrev pub tlr_of : List ℕ → Command
tlr_of p = cond (tlr_good p) Tlr TlrWrong

abbrev pub tle_of : List ℕ → Command
tle_of p = cond (eqb (length p) 3) Tle Unknown

-- THE COMMAND of a payload: by its first three bytes; anything else, and fewer than three, is unknown
unfoldable pub command_of : List ℕ → Command
command_of p =
    cond (starts (ascii "OPN") p) (opn_of p)
    (cond (starts (ascii "GTS") p) (gts_of p)
    (cond (starts (ascii "TLI") p) (tli_of p)
    (cond (starts (ascii "TLR") p) (tlr_of p)
    (cond (starts (ascii "TLE") p) (tle_of p)
    Unknown))))
