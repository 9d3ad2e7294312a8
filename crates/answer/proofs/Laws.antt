-- How a call's promise is met, by what its definition says.
use mathlib.Core.Path.{◌≡◌, refl, sym, subst}
use mathlib.Core.List.{List}
use Prim.Native.Nat.{ℕ, ◌≤◌, ◌<◌}
use lib.ListN.{length}
use borrow.Author.Tests.{lt-ltb, le-ltb}
use Rattle.std.specs.Prelude.{Result, Ok, Err}
use Rattle.answer.specs.declared.refusal.Refusal.{Refusal}
use Rattle.answer.specs.declared.refusal.Refusal.TheVariants.{NoRoom}
use Rattle.answer.specs.Answers.{Output, Gives, over}

-- a refusal, and a buffer that is as it was
pub gives_refused : (output : Output) (e : Refusal) (out : List ℕ) (r : Result ℕ Refusal) → output ≡ Err e → r ≡ Err e → Gives output out r out
gives_refused output e out r i a = subst (λ (x : Output). Gives x out r out) (sym i) (record { answer = a; bytes = refl })

-- the same promise of an equal result
pub gives_as : {output other : Output} (out out' : List ℕ) (r : Result ℕ Refusal) → other ≡ output → Gives output out r out' → Gives other out r out'
gives_as {output} {other} out out' r e g = subst (λ (x : Output). Gives x out r out') (sym e) g

-- too little room
pub gives_none : (s out : List ℕ) (r : Result ℕ Refusal) → length out < length s → r ≡ Err NoRoom → Gives (Ok s) out r out
gives_none s out r h e = record { answer = simp (lt-ltb (length out) (length s) h) e; bytes = simp (lt-ltb (length out) (length s) h) }

-- a success
pub gives_good : (s out out' : List ℕ) (r : Result ℕ Refusal) → length s ≤ length out → r ≡ Ok (length s) → out' ≡ over s out → Gives (Ok s) out r out'
gives_good s out out' r h e f = record { answer = simp (le-ltb (length out) (length s) h) e; bytes = simp (le-ltb (length out) (length s) h) f }
