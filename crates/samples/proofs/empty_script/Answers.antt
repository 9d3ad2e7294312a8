-- The length is not counted, since the list is too long for that.
use Rattle.std.proofs.Common.{ℕ, length, ◌≡◌, sym}
use Rattle.std.proofs.Math.ListN.{replicate}
use Rattle.std.proofs.lemmas.List.{length-replicate}
use Rattle.samples.proofs.empty_script.Goals as goal

zeros : (n : ℕ) → n ≡ length (replicate {A = ℕ} n 0)
zeros n = sym (length-replicate n 0)

pub returns : goal.returns
returns c = zeros 1048576
