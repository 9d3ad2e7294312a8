-- The laws of texts and versions that are laid in zeros, and of a version's place among the versions.
use mathlib.Core.Path.{◌≡◌, sym, ap, ◌∙◌}
use mathlib.Core.List.{List}
use Prim.Native.Nat.{ℕ, zero, suc, ◌-◌, ◌*◌, ◌<◌}
use native.Mathlib.Omega.{arith}
use native.Mathlib.Nat.{sub-zero, zero-sub, suc-sub-suc}
use lib.ListN.{length, drop, length-drop, length-replicate}
use lib.Seq.{length-take-le}
use Rattle.records.specs.Store.{zeros}
use Rattle.tables.specs.Closing.{version_of}

zeros_long : (n : ℕ) → length (zeros n) ≡ n
zeros_long n = length-replicate n 0

zeros_past : (k n : ℕ) → drop k (zeros n) ≡ zeros (n - k)
zeros_past zero n = ap zeros (sym (sub-zero n))
zeros_past (suc k) zero = ap zeros (sym (zero-sub (suc k)))
zeros_past (suc k) (suc n) = zeros_past k n ∙ ap zeros (sym (suc-sub-suc n k))

-- ---- a text in zeros

-- ---- a response

-- ---- versions

-- ten bytes of a thousand, for a network below 100
pub version_long : (n : ℕ) (versions : List ℕ) → length versions ≡ 1000 → n < 100 → length (version_of n versions) ≡ 10
version_long n versions h low = length-take-le 10 (drop (n * 10) versions) (omega (arith, length-drop (n * 10) versions))
