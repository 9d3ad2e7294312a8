-- The scope paper's marked samples on parameter lists (section Sample line traffic).
use Rattle.std.specs.Prelude.{◌≡◌, List, [], ◌∷◌, ℕ, Ok}
use Rattle.parameters.specs.Parameters.{parameters}
use Rattle.parameters.specs.Finding.{find}

-- the list that the block of CEX holds, and that of the response to MNU
abbrev pub cex_list : List ℕ
cex_list = 0x00 ∷ 0x06 ∷ 0x00 ∷ 0x06 ∷ 0x30 ∷ 0x31 ∷ 0x30 ∷ 0x30 ∷ 0x30 ∷ 0x30 ∷ []

abbrev pub mnu_list : List ℕ
mnu_list = 0x80 ∷ 0x4d ∷ 0x00 ∷ 0x02 ∷ 0x30 ∷ 0x32 ∷ []

pub record ParameterSamples : Type 0 where
  -- in the list of CEX one parameter, 0006h, with 6 data bytes
  pub cex : (parameters cex_list ≡ cex_list ∷ []) × (find cex_list 0x0006 1 ≡ Ok (0x30 ∷ 0x31 ∷ 0x30 ∷ 0x30 ∷ 0x30 ∷ 0x30 ∷ []))
  -- in that of the response to MNU 804Dh, with the data 30 32
  pub mnu : find mnu_list 0x804d 1 ≡ Ok (0x30 ∷ 0x32 ∷ [])
