-- The public calls are promised for every payload; small cases of the definition, by computation.
use mathlib.Core.Path.{◌≡◌, refl, sym, ap, ◌∙◌}
use mathlib.Core.Bool.{Bool, cond}
use mathlib.Core.List.{List}
use Prim.Native.Nat.{ℕ}
use lib.ListN.{get_or}
use lib.Dec.{eqb}
use Rattle.answer.specs.Pieces.{pieces_from, rest_from}
use Rattle.records.specs.Record.{starts_record, record_in, good_block}
use Rattle.command.specs.declared.Command.{Command}
use Rattle.command.specs.declared.Command.TheVariants.{Opn, Gts, GtsWrong, Tli, TliWrong, Tlr, TlrWrong, Tle, Unknown}
use Rattle.command.specs.Texts.{starts, all_text}
use Rattle.command.specs.Command.{gts_good, tli_good, tlr_good, row_of, command_of}
use Rattle.command.specs.Claims.{CommandSamples}

-- ---- a row stands for one case

-- by the first and third letter of the name and the second digit of the status
abbrev case_of : List ℕ → Command
case_of row =
    let wrong = eqb (get_or row 4 0) 0x31 in
    cond (eqb (get_or row 0 0) 0x45) Unknown
    (cond (eqb (get_or row 2 0) 0x4e) Opn
    (cond (eqb (get_or row 2 0) 0x53) (cond wrong GtsWrong (Gts (get_or row 6 0)))
    (cond (eqb (get_or row 2 0) 0x49) (cond wrong TliWrong (Tli (get_or row 6 0)))
    (cond (eqb (get_or row 2 0) 0x52) (cond wrong TlrWrong Tlr)
    Tle))))

case_back : (c : Command) → case_of (row_of c) ≡ c
unfolding row_of
case_back Opn = refl
case_back (Gts n) = refl
case_back GtsWrong = refl
case_back (Tli n) = refl
case_back TliWrong = refl
case_back Tlr = refl
case_back TlrWrong = refl
case_back Tle = refl
case_back Unknown = refl

pub row_one : (r s : Command) → row_of r ≡ row_of s → r ≡ s
row_one r s e = sym (case_back r) ∙ ap case_of e ∙ case_back s

-- ONE RESULT: two results that the promise of `command_of` allows are one
pub command_of_one : (payload : List ℕ) (r s : Command) → row_of r ≡ row_of (command_of payload) → row_of s ≡ row_of (command_of payload) → r ≡ s
command_of_one payload r s e f = row_one r s (e ∙ sym f)

-- and so are two of `starts_with` and of `all_text`
pub starts_with_one : (p s : List ℕ) (r t : Bool) → r ≡ starts s p → t ≡ starts s p → r ≡ t
starts_with_one p s r t e f = e ∙ sym f

pub all_text_one : (s : List ℕ) (r t : Bool) → r ≡ all_text s → t ≡ all_text s → r ≡ t
all_text_one s r t e f = e ∙ sym f

pub command_samples : CommandSamples
unfolding command_of starts all_text gts_good tli_good tlr_good good_block record_in starts_record pieces_from rest_from
command_samples = record {
  open_line = refl;
  open_more = refl;
  cut_short = refl;
  version_asked = refl;
  version_wrong = refl;
  load_opened = refl;
  version_short = refl;
  version_control = refl;
  records_sent = refl;
  length_less = refl;
  load_closed = refl;
}
