-- Small cases of which command a payload is.
use Rattle.std.specs.Prelude.{◌≡◌, [], ◌∷◌, ◌++◌}
use Rattle.command.specs.declared.Command.TheVariants.{Opn, Gts, GtsWrong, Tli, TliWrong, Tlr, TlrWrong, Tle, Unknown}
use Rattle.command.specs.Texts.{ascii}
use Rattle.command.specs.Command.{command_of}

pub record CommandSamples : Type 0 where
  pub open_line : command_of (ascii "OPN") ≡ Opn
  -- with more bytes it is unknown, and so is a name that is cut short
  pub open_more : command_of (ascii "OPN000") ≡ Unknown
  pub cut_short : command_of (ascii "TL") ≡ Unknown
  pub version_asked : command_of (ascii "GTS00207") ≡ Gts 7
  pub version_wrong : command_of (ascii "GTS0027") ≡ GtsWrong
  pub load_opened : command_of (ascii "TLI01200VERSION-01") ≡ Tli 0
  -- a version of nine bytes, and one with a byte below 20h
  pub version_short : command_of (ascii "TLI01200VERSION-1") ≡ TliWrong
  pub version_control : command_of (ascii "TLI01200VERSION-0" ++ (0x1f ∷ [])) ≡ TliWrong
  -- one record of eight bytes, and the same with a length that says less
  pub records_sent : command_of (ascii "TLR01001008101AA") ≡ Tlr
  pub length_less : command_of (ascii "TLR00901008101AA") ≡ TlrWrong
  pub load_closed : command_of (ascii "TLE") ≡ Tle
