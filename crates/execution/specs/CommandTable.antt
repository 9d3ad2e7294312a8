-- The command table: what a payload holds beside its command, and the responses (scope paper, section Commands). Nothing here knows of a device.
use Rattle.std.specs.Prelude.{ℕ, Bool, ◌&&◌, cond, List, ◌++◌, length, take, drop, eqb}
use Rattle.tables.specs.Closing.{version_of}
use Rattle.command.specs.declared.Command.{Command}
use Rattle.command.specs.declared.Command.TheVariants.{Opn, Gts, GtsWrong, Tli, TliWrong, Tlr, TlrWrong, Tle, Unknown}
use Rattle.command.specs.Texts.{ascii, starts}

-- ---- what a payload holds beside its command

-- TLI's version: ten bytes after the name, the length and the network
abbrev pub version_in : List ℕ → List ℕ
version_in p = take 10 (drop 8 p)

-- TLR's block: all after the name and the length
abbrev pub block_in : List ℕ → List ℕ
block_in p = drop 6 p

-- ---- the responses

-- two texts are equal
unfoldable pub same : List ℕ → List ℕ → Bool
same a b = eqb (length a) (length b) && starts a b

-- THE COMMAND TABLE'S RESPONSES: by the versions held, whether a load is open, and whether its new set is within the limits. For TLR outside a
-- load, 010 comes before 011
unfoldable pub response_to : Command → List ℕ → List ℕ → Bool → Bool → List ℕ
response_to Opn p versions inLoad accepted = ascii "OPN000"
response_to (Gts n) p versions inLoad accepted = ascii "GTS000010" ++ version_of n versions
response_to GtsWrong p versions inLoad accepted = ascii "GTS011"
response_to (Tli n) p versions inLoad accepted = cond (same (version_in p) (version_of n versions)) (ascii "TLI000") (ascii "TLI020")
response_to TliWrong p versions inLoad accepted = ascii "TLI011"
response_to Tlr p versions inLoad accepted = cond inLoad (ascii "TLR000") (ascii "TLR010")
response_to TlrWrong p versions inLoad accepted = cond inLoad (ascii "TLR011") (ascii "TLR010")
response_to Tle p versions inLoad accepted = cond inLoad (cond accepted (ascii "TLE000") (ascii "TLE021")) (ascii "TLE010")
response_to Unknown p versions inLoad accepted = ascii "ERR010"
