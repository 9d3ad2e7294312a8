-- What a refused call on a lent image leaves: a term of the theorems on the exported calls.
use Rattle.std.specs.Prelude.{◌≡◌, List, ℕ}
use Rattle.image.specs.declared.Image.{Image}
use Rattle.image.specs.declared.Taken.{Taken}

-- it takes nothing, writes nothing, and every byte that it was lent is as it was
pub record Untouched (i : Image) (out live loading : List ℕ) (j : Image) (r : Taken) (out' live' loading' : List ℕ) : Type 0 where
  pub image_stays : j ≡ i
  pub none_taken : r.taken ≡ 0
  pub none_written : r.written ≡ 0
  pub out_stays : out' ≡ out
  pub live_stays : live' ≡ live
  pub loading_stays : loading' ≡ loading
