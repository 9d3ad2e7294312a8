-- The two walks over a tag list: one turn of each, and what they say of the call.
use mathlib.Core.Path.{◌≡◌, refl, sym, ap, ◌∙◌, subst}
use mathlib.Core.Bool.{Bool, true, false, cond}
use mathlib.Core.List.{List, [], ◌∷◌, ◌++◌}
use Prim.Native.Nat.{ℕ, ◌+◌, ◌≤◌}
use native.Mathlib.Omega.{arith}
use lib.ListN.{length, take, drop, length-append, length-drop}
use lib.Seq.{take_at, drop_at, drop-drop, take-add, take_all, length-take-le}
use lib.Dec.{ltb}
use borrow.Author.Tests.{ltb-true, ltb-false}
use Rattle.std.specs.Prelude.{Option, Some, None, Result, Ok, Err}
use Rattle.answer.specs.declared.refusal.Refusal.{Refusal}
use Rattle.answer.specs.declared.refusal.Refusal.TheVariants.{NoRoom}
use Rattle.answer.specs.Answers.{Gives, over}
use Rattle.answer.specs.Laid.{pasted, Puts, PutIf}
use Rattle.answer.specs.Pieces.{pieces}
use Rattle.answer.specs.Claims.{AllPieces}
use Rattle.answer.proofs.Laws.{gives_as, gives_none, gives_good}
use Rattle.answer.proofs.Laid.{over_more, over_long, pasted_start, put_fits}
use Rattle.answer.proofs.Pieces.{all_pieces}
use Rattle.objects.specs.Tag.{tag_size, is_tag}
use Rattle.objects.specs.Object.{unless}
use Rattle.objects.specs.Claims.{AllBytes}
use Rattle.picking.specs.Lists.{objects_refusal, tags_refusal}
use Rattle.picking.specs.Pick.{pick}
use Rattle.picking.specs.Claims.{first_piece, picked_pieces, pieces_picked}
use Rattle.picking.proofs.Lists.{tag_sizes}
use Rattle.picking.proofs.ListRoundTrip.{tags_all}
use Rattle.picking.proofs.Withheld.{picked_as_they_stand}

-- ---- one turn: a tag t is taken from the tags xs, and ys are left

module _ (xs ys t : List ℕ) (e : pieces tag_size xs ≡ t ∷ pieces tag_size ys) where
  pub turn_tag : is_tag t ≡ true
  turn_tag = (tags_all (t ∷ pieces tag_size ys) (subst (AllPieces tag_size) e (all_pieces tag_size tag_sizes xs))).0

  pub turn_bytes : (ps : List (List ℕ)) → picked_pieces (pieces tag_size xs) ps ≡ first_piece t ps ++ picked_pieces (pieces tag_size ys) ps
  unfolding picked_pieces
  turn_bytes ps = ap (λ (l : List (List ℕ)). picked_pieces l ps) e

  pub turn_length : (ps : List (List ℕ)) → length (picked_pieces (pieces tag_size xs) ps) ≡ length (first_piece t ps) + length (picked_pieces (pieces tag_size ys) ps)
  turn_length ps = ap length (turn_bytes ps) ∙ length-append (first_piece t ps) (picked_pieces (pieces tag_size ys) ps)

-- no tag is left
pub turn_none : (xs : List ℕ) (ps : List (List ℕ)) → pieces tag_size xs ≡ [] → picked_pieces (pieces tag_size xs) ps ≡ []
unfolding picked_pieces
turn_none xs ps e = ap (λ (l : List (List ℕ)). picked_pieces l ps) e

-- ---- the walk that writes: of `all` the first `at` bytes stand over `before`

pub record Written (all before : List ℕ) (left : List ℕ) (at : ℕ) (out : List ℕ) : Type 0 where
  pub within : at ≤ length all
  pub rests : drop at all ≡ left
  pub bytes : out ≡ over (take at all) before

module _ (all before left : List ℕ) (at : ℕ) (out : List ℕ) (fits : length all ≤ length before) (w : Written all before left at out) where
  pub write_more : (s more : List ℕ) (r : ℕ) (out' : List ℕ) → left ≡ s ++ more → PutIf out at s r out' → Written all before more r out'
  write_more s more r out' e p =
      let h = w.within in
      let d : drop at all ≡ s ++ more = w.rests ∙ e in
      let n : length all ≡ at + (length s + length more) = let l = ap length d in let m = length-append s more in omega (arith, simp length-drop at l) in
      let t = length-take-le at all h in
      let o : length out ≡ length before = ap length w.bytes ∙ over_long (take at all) before (omega arith) in
      let q = put_fits out at s r out' (omega arith) p in
      let i = q.next in
      let k : take (at + length s) all ≡ take at all ++ s = take-add at (length s) all ∙ ap (λ (l : List ℕ). take at all ++ l) (ap (take (length s)) d ∙ take_at s more (length s) refl) in
      let b : out' ≡ over (take at all ++ s) before =
      q.bytes ∙ ap (λ (l : List ℕ). pasted l at s) w.bytes ∙ ap (λ (m : ℕ). pasted (over (take at all) before) m s) (sym t) ∙ over_more (take at all) s before in
      record {
        within = omega arith;
        rests = ap (λ (m : ℕ). drop m all) i ∙ sym (drop-drop (length s) at all) ∙ ap (drop (length s)) d ∙ drop_at s more (length s) refl;
        bytes = b ∙ ap (λ (l : List ℕ). over l before) (sym k ∙ ap (λ (m : ℕ). take m all) (sym i));
      }

  pub write_all : left ≡ [] → Puts before 0 all at out
  write_all e =
      let h = w.within in
      let l = ap length (w.rests ∙ e) in
      let n : at ≡ length all = omega (arith, simp length-drop at l) in
      record { bytes = w.bytes ∙ ap (λ (l : List ℕ). over l before) (take_all at all (omega arith)) ∙ sym (pasted_start all before); next = omega arith }

-- ---- what the steps say of the call

pub no_fault : (o : Option Refusal) → (let a : Result (Unit {0}) Refusal = Ok tt in a) ≡ unless o (Ok tt) → o ≡ None
no_fault None e = refl
no_fault (Some w) e = absurd cc

module _ (tags objects out : List ℕ) (bytes : AllBytes objects) (t : tags_refusal tags ≡ None) (o : objects_refusal objects ≡ None) where
  abbrev measured : Result (Unit {0}) Refusal
  measured = cond (ltb (length out) (length (pieces_picked tags objects))) (Err NoRoom) (Ok tt)

  picks : pick tags objects ≡ Ok (pieces_picked tags objects)
  unfolding pick
  picks = simp (t, o) (ap Ok (picked_as_they_stand tags objects bytes o))

  pub picks_none : (w : Refusal) (r : Result ℕ Refusal) → (let a : Result (Unit {0}) Refusal = Err w in a) ≡ measured → r ≡ Err w → Gives (pick tags objects) out r out
  picks_none w r m e = cases (ltb (length out) (length (pieces_picked tags objects))) refl m
    where
      cases : (b : Bool) → ltb (length out) (length (pieces_picked tags objects)) ≡ b → (let a : Result (Unit {0}) Refusal = Err w in a) ≡ cond b (Err NoRoom) (Ok tt)
          → Gives (pick tags objects) out r out
      cases false l n = absurd cc
      cases true l n =
          let i : w ≡ NoRoom = cc in
          gives_as out out r picks (gives_none (pieces_picked tags objects) out r (ltb-true (length out) (length (pieces_picked tags objects)) l) (e ∙ ap Err i))

  picks_fit : (let a : Result (Unit {0}) Refusal = Ok tt in a) ≡ measured → length (pieces_picked tags objects) ≤ length out
  picks_fit m = cases (ltb (length out) (length (pieces_picked tags objects))) refl m
    where
      cases : (b : Bool) → ltb (length out) (length (pieces_picked tags objects)) ≡ b → (let a : Result (Unit {0}) Refusal = Ok tt in a) ≡ cond b (Err NoRoom) (Ok tt)
          → length (pieces_picked tags objects) ≤ length out
      cases true l n = absurd cc
      cases false l n = ltb-false (length out) (length (pieces_picked tags objects)) l

  pub picks_all : (n : ℕ) (out' : List ℕ) → (let a : Result (Unit {0}) Refusal = Ok tt in a) ≡ measured → Puts out 0 (pieces_picked tags objects) n out' → Gives (pick tags objects) out (Ok n) out'
  picks_all n out' m p =
      let h = picks_fit m in
      let i = p.next in
      let e : n ≡ length (pieces_picked tags objects) = omega arith in
      gives_as out out' (Ok n) picks (gives_good (pieces_picked tags objects) out out' (Ok n) h (ap Ok e) (p.bytes ∙ pasted_start (pieces_picked tags objects) out))
