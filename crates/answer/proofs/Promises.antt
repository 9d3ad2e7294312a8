-- What the shared promise fixes, for every call that makes it.
use mathlib.Core.Path.{◌≡◌, refl, sym, ap, ◌∙◌}
use mathlib.Core.Bool.{Bool, true, false, cond}
use mathlib.Core.List.{List}
use Prim.Native.Nat.{ℕ}
use native.Mathlib.Omega.{arith}
use lib.ListN.{length, take, drop}
use lib.Seq.{take_at}
use lib.Dec.{ltb, eqb}
use Rattle.std.specs.Prelude.{Option, Result, Ok, Err}
use Rattle.answer.specs.declared.refusal.Refusal.{Refusal}
use Rattle.answer.specs.declared.refusal.Refusal.TheVariants.{NoRoom, WrongSize, Unsound, Empty, TooLong, NoPacket, WrongCheck, NoMessage, NoParameter, LongParameter, LongMessage, NotFound, NoTag, NoLength, CutValue, LongValue}
use Rattle.answer.specs.Refusals.{number_of, number_in, IsNumberOf}
use Rattle.answer.specs.Pieces.{found, rest, whole}
use Rattle.answer.specs.Answers.{Output, Gives, answer_of, bytes_of, over}
use Rattle.answer.specs.Digits.{is_digit, is_text, digit_of, two_in, three_in}
use Rattle.answer.specs.Laid.{PutIf}

-- ONE RESULT: two results of a call that its promise allows for one entry are one, answer and buffer
pub gives_one : (output : Output) (out : List ℕ) (r s : Result ℕ Refusal) (o o' : List ℕ) → Gives output out r o → Gives output out s o' → (r ≡ s) × (o ≡ o')
gives_one output out r s o o' g h = (g.answer ∙ sym h.answer, g.bytes ∙ sym h.bytes)

-- ---- the two cases of an output

pub same_good : {p q : List ℕ} → (let a : Output = Ok p in a) ≡ Ok q → p ≡ q
same_good e = cc

pub not_good : {e : Refusal} {p : List ℕ} → (let a : Output = Err e in a) ≡ Ok p → ⊥
not_good i = cc

-- ---- what a caller knows who sees a success

-- a success: what is given, its length, and that it stands at the start of the buffer
pub record Success (output : Output) (n : ℕ) (out' : List ℕ) : Type 0 where
  pub given : List ℕ
  pub is : output ≡ Ok given
  pub long : n ≡ length given
  pub bytes : take n out' ≡ given

pub success : (output : Output) (out : List ℕ) (n : ℕ) (out' : List ℕ) → Gives output out (Ok n) out' → Success output n out'
success (Err e) out n out' g = let no : ◌≡◌ {A = Result ℕ Refusal} (Ok n) (Err e) = g.answer in absurd cc
success (Ok s) out n out' g = cases (ltb (length out) (length s)) g.answer g.bytes
  where
    cases : (t : Bool) → (let a : Result ℕ Refusal = Ok n in a) ≡ answer_of (cond t (Err NoRoom) (Ok s)) → out' ≡ over (bytes_of (cond t (Err NoRoom) (Ok s))) out → Success (Ok s) n out'
    cases true a b = absurd cc
    cases false a b =
        let long : n ≡ length s = cc in
        record { given = s; is = refl; long = long; bytes = ap (take n) b ∙ take_at s (drop (length s) out) n (sym long) }

-- ---- the numbers of the refusals: 0 is none, and no two refusals have one number

pub some_number : (e : Refusal) → number_of e ≡ 0 → ⊥
some_number NoRoom h = omega arith
some_number WrongSize h = omega arith
some_number Unsound h = omega arith
some_number Empty h = omega arith
some_number TooLong h = omega arith
some_number NoPacket h = omega arith
some_number WrongCheck h = omega arith
some_number NoMessage h = omega arith
some_number NoParameter h = omega arith
some_number LongParameter h = omega arith
some_number LongMessage h = omega arith
some_number NotFound h = omega arith
some_number NoTag h = omega arith
some_number NoLength h = omega arith
some_number CutValue h = omega arith
some_number LongValue h = omega arith

numbered : ℕ → Refusal
numbered n =
    cond (eqb n 1) NoRoom (
    cond (eqb n 2) WrongSize (
    cond (eqb n 3) Unsound (
    cond (eqb n 10) Empty (
    cond (eqb n 11) TooLong (
    cond (eqb n 12) NoPacket (
    cond (eqb n 13) WrongCheck (
    cond (eqb n 20) NoMessage (
    cond (eqb n 21) NoParameter (
    cond (eqb n 22) LongParameter (
    cond (eqb n 23) LongMessage (
    cond (eqb n 24) NotFound (
    cond (eqb n 30) NoTag (
    cond (eqb n 31) NoLength (
    cond (eqb n 32) CutValue (
    LongValue)))))))))))))))

back : (e : Refusal) → numbered (number_of e) ≡ e
unfolding numbered
back NoRoom = refl
back WrongSize = refl
back Unsound = refl
back Empty = refl
back TooLong = refl
back NoPacket = refl
back WrongCheck = refl
back NoMessage = refl
back NoParameter = refl
back LongParameter = refl
back LongMessage = refl
back NotFound = refl
back NoTag = refl
back NoLength = refl
back CutValue = refl
back LongValue = refl

pub same_number : (e f : Refusal) → number_of e ≡ number_of f → e ≡ f
same_number e f h = sym (back e) ∙ ap numbered h ∙ back f

-- an answer that tells nothing but its refusal is told by its number
pub same_answer : (r s : Result (Unit {0}) Refusal) → number_in r ≡ number_in s → r ≡ s
same_answer (Ok u) (Ok v) i = refl
same_answer (Ok u) (Err b) i = absurd (some_number b (sym i))
same_answer (Err a) (Ok v) i = absurd (some_number a i)
same_answer (Err a) (Err b) i = ap (λ (k : Refusal). let z : Result (Unit {0}) Refusal = Err k in z) (same_number a b i)

-- two results that the promise of `put` allows are one, place and buffer
pub put_one : (out : List ℕ) (at : ℕ) (s : List ℕ) (r q : ℕ) (o o' : List ℕ) → PutIf out at s r o → PutIf out at s q o' → (r ≡ q) × (o ≡ o')
put_one out at s r q o o' g h = (g.next ∙ sym h.next, g.bytes ∙ sym h.bytes)

-- and so are two that the promises of the digit calls allow
pub is_digit_one : (b : ℕ) (r s : Bool) → r ≡ is_digit b → s ≡ is_digit b → r ≡ s
is_digit_one b r s e f = e ∙ sym f

pub is_text_one : (b : ℕ) (r s : Bool) → r ≡ is_text b → s ≡ is_text b → r ≡ s
is_text_one b r s e f = e ∙ sym f

pub digit_of_one : (b r s : ℕ) → r ≡ digit_of b → s ≡ digit_of b → r ≡ s
digit_of_one b r s e f = e ∙ sym f

pub two_digits_one : (s : List ℕ) (r q : Option ℕ) → r ≡ two_in s → q ≡ two_in s → r ≡ q
two_digits_one s r q e f = e ∙ sym f

pub three_digits_one : (s : List ℕ) (r q : Option ℕ) → r ≡ three_in s → q ≡ three_in s → r ≡ q
three_digits_one s r q e f = e ∙ sym f

-- two numbers that the conversion of a refusal allows are one
pub number_one : (e : Refusal) (r s : ℕ) → IsNumberOf e r → IsNumberOf e s → r ≡ s
number_one e r s i j = i ∙ sym j

-- and two answers of a walk over pieces: a size, what is left, and whether nothing is
pub size_in_one : (size : List ℕ → ℕ) (s : List ℕ) (r q : Option ℕ) → r ≡ found (size s) → q ≡ found (size s) → r ≡ q
size_in_one size s r q e f = e ∙ sym f

pub rest_of_one : (size : List ℕ → ℕ) (s r q : List ℕ) → r ≡ rest size s → q ≡ rest size s → r ≡ q
rest_of_one size s r q e f = e ∙ sym f

pub is_whole_one : (size : List ℕ → ℕ) (s : List ℕ) (r q : Bool) → r ≡ whole size s → q ≡ whole size s → r ≡ q
is_whole_one size s r q e f = e ∙ sym f
