-- Which payloads the command table or ERR010 gives as a response (scope paper, section Numbered refusals of calls, refusal 3).
use Rattle.std.specs.Prelude.{ℕ, Bool, false, ◌&&◌, ◌||◌, List, [], ◌∷◌, length, drop, eqb}
use Rattle.command.specs.Texts.{ascii, starts, all_text}
use Rattle.execution.specs.CommandTable.{same}

unfoldable pub one_of : List ℕ → List (List ℕ) → Bool
one_of p [] = false
one_of p (q ∷ qs) = same q p || one_of p qs

-- the responses of six bytes: all but GTS000
abbrev pub six_bytes : List (List ℕ)
six_bytes =
    ascii "OPN000" ∷ ascii "GTS011" ∷ ascii "TLI000" ∷ ascii "TLI020" ∷ ascii "TLI011" ∷ ascii "TLR000" ∷ ascii "TLR010" ∷ ascii "TLR011"
    ∷ ascii "TLE000" ∷ ascii "TLE010" ∷ ascii "TLE021" ∷ ascii "ERR010" ∷ []

-- GTS000 with a version of ten bytes 20h to 7Eh
unfoldable pub gives_version : List ℕ → Bool
gives_version p = eqb (length p) 19 && (starts (ascii "GTS000010") p && all_text (drop 9 p))

-- A RESPONSE that a device can have given
unfoldable pub is_response : List ℕ → Bool
is_response p = one_of p six_bytes || gives_version p
