-- Bytes moved down in a store.
use mathlib.Core.Path.{◌≡◌, sym, ap, ◌∙◌}
use mathlib.Core.List.{List, ◌++◌, append_assoc}
use Prim.Native.Nat.{ℕ, ◌+◌, ◌-◌, ◌≤◌, ◌<◌}
use native.Mathlib.Omega.{arith}
use native.Mathlib.Numerals.{add-one}
use lib.ListN.{length, get_or, set, take, drop, length-drop, take-append-drop}
use lib.Seq.{get_or-drop, drop-drop, paste-suc, drop-paste}
use Rattle.tables.specs.Steps.{moved}

pub move_more : (s : List ℕ) (to from j : ℕ) → to ≤ from → from + j < length s
    → set (moved s to from j) (to + j) (get_or (moved s to from j) (from + j) 0) ≡ moved s to from (j + 1)
move_more s to from j h k =
    let room : j < length (drop from s) = simp length-drop (omega arith) in
    let i : from + j ≡ to + j + (from - to) = omega arith in
    let g : get_or (moved s to from j) (from + j) 0 ≡ get_or (drop from s) j 0 =
    ap (λ (n : ℕ). get_or (moved s to from j) n 0) i ∙ sym (get_or-drop (to + j) (moved s to from j) (from - to) 0)
    ∙ ap (λ (l : List ℕ). get_or l (from - to) 0) (drop-paste s to (drop from s) j (omega arith) (omega arith))
    ∙ get_or-drop (to + j) s (from - to) 0 ∙ ap (λ (n : ℕ). get_or s n 0) (sym i) ∙ sym (get_or-drop from s j 0) in
    ap (λ (v : ℕ). set (moved s to from j) (to + j) v) g
    ∙ paste-suc s to (drop from s) j 0 (omega arith) room
    ∙ ap (λ (n : ℕ). moved s to from n) (sym (add-one j))

-- bytes that stay where they are
pub move_same : (s : List ℕ) (to len : ℕ) → s ≡ moved s to to len
move_same s to len =
    sym (append_assoc (take to s) (take len (drop to s)) (drop (to + len) s)
    ∙ ap (λ (l : List ℕ). take to s ++ (take len (drop to s) ++ l)) (sym (drop-drop len to s))
    ∙ ap (λ (l : List ℕ). take to s ++ l) (take-append-drop len (drop to s)) ∙ take-append-drop to s)

-- the same of bytes that are known to be moved so far
pub move_turn : (s m : List ℕ) (to from j : ℕ) → m ≡ moved s to from j → to ≤ from → from + j < length s → set m (to + j) (get_or m (from + j) 0) ≡ moved s to from (j + 1)
move_turn s m to from j e h k = ap (λ (l : List ℕ). set l (to + j) (get_or l (from + j) 0)) e ∙ move_more s to from j h k
