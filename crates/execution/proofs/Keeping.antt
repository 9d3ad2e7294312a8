-- Every command leaves a core that can be, and its response is one of the command table's.
use mathlib.Core.Path.{◌≡◌, refl, ap, ◌∙◌}
use mathlib.Core.Bool.{Bool, true, false, ◌||◌, cond, true≢false}
use mathlib.Core.List.{List, [], ◌∷◌, ◌++◌, flatten}
use Prim.Native.Nat.{ℕ, zero, suc, ◌+◌, ◌-◌, ◌*◌, ◌<◌}
use native.Mathlib.Omega.{arith}
use lib.ListN.{length, take, drop, length-append, length-drop}
use lib.Seq.{length-take-le}
use lib.Dec.{leb, eqb}
use borrow.Author.Tests.{eq-eqb}
use Rattle.answer.specs.Digits.{is_text}
use Rattle.answer.specs.Laid.{pasted}
use Rattle.answer.proofs.Parts.{and_left, and_right}
use Rattle.records.specs.Record.{good_block}
use Rattle.tables.specs.Closing.{new_set, no_version, new_version, new_versions, version_of}
use Rattle.tables.proofs.Versions.{many}
use Rattle.tables.proofs.Networks.{versions_long}
use Rattle.command.specs.declared.Command.{Command}
use Rattle.command.specs.declared.Command.TheVariants.{Opn, Gts, GtsWrong, Tli, TliWrong, Tlr, TlrWrong, Tle, Unknown}
use Rattle.command.specs.Texts.{ascii, starts, all_text}
use Rattle.command.specs.Command.{command_of}
use Rattle.execution.specs.Core.{Opening, Core, with_load}
use Rattle.execution.specs.Core.Opening.{none, some}
use Rattle.execution.specs.CommandTable.{version_in, block_in, same, response_to}
use Rattle.execution.specs.Execute.{opened_for, fed, accepts, ended, execute_as, execute, is_open, response_of}
use Rattle.execution.specs.Responses.{one_of, six_bytes, gives_version, is_response}
use Rattle.execution.specs.Claims.{LegalOpening, LegalCore}
use Rattle.execution.proofs.Asked.{gts_network, tli_network, tli_long, tli_text, tlr_block}
use Rattle.execution.proofs.Executing.{text_zeros}
use Rattle.execution.proofs.Sets.{none_fine, keep_fine, new_fine}

-- ---- texts

text_join : (a b : List ℕ) → all_text a ≡ true → all_text b ≡ true → all_text (a ++ b) ≡ true
unfolding all_text
text_join [] b e f = f
text_join (x ∷ a) b e f = rw (and_left (is_text x) (all_text a) e) (text_join a b (and_right (is_text x) (all_text a) e) f)

text_take : (n : ℕ) (a : List ℕ) → all_text a ≡ true → all_text (take n a) ≡ true
unfolding all_text
text_take zero a e = refl
text_take (suc n) [] e = refl
text_take (suc n) (x ∷ a) e = rw (and_left (is_text x) (all_text a) e) (text_take n a (and_right (is_text x) (all_text a) e))

text_drop : (n : ℕ) (a : List ℕ) → all_text a ≡ true → all_text (drop n a) ≡ true
unfolding all_text
text_drop zero a e = e
text_drop (suc n) [] e = refl
text_drop (suc n) (x ∷ a) e = text_drop n a (and_right (is_text x) (all_text a) e)

text_many : (n : ℕ) (v : List ℕ) → all_text v ≡ true → all_text (many n v) ≡ true
unfolding flatten all_text
text_many zero v e = refl
text_many (suc n) v e = text_join v (many n v) e (text_many n v e)

text_pasted : (l : List ℕ) (at : ℕ) (v : List ℕ) → all_text l ≡ true → all_text v ≡ true → all_text (pasted l at v) ≡ true
text_pasted l at v e f = text_join (take at l ++ v) (drop (at + length v) l) (text_join (take at l) v (text_take at l e) f) (text_drop (at + length v) l e)

-- ---- the versions after a load

record Version (v : List ℕ) : Type 0 where
  ten : length v ≡ 10
  text : all_text v ≡ true

version_none : Version no_version
version_none = record { ten = refl; text = text_zeros 10 }

version_new : (any : Bool) (v : List ℕ) → Version v → Version (new_version any v)
version_new true v g = g
version_new false v g = version_none

versions_text : (n : ℕ) (v versions : List ℕ) → all_text v ≡ true → all_text versions ≡ true → all_text (new_versions n v versions) ≡ true
unfolding new_versions
versions_text n v versions e f = cases (eqb n 0) (leb n 99)
  where
    cases : (a b : Bool) → all_text (cond a (many 100 v) (cond b (pasted (pasted versions (n * 10) v) 0 no_version) versions)) ≡ true
    cases true b = text_many 100 v e
    cases false true = text_pasted (pasted versions (n * 10) v) 0 no_version (text_pasted versions (n * 10) v f e) version_none.text
    cases false false = f

-- ---- THE COMMANDS

with_legal : (c : Core) (o : Opening) → LegalOpening o → LegalCore c → LegalCore (with_load c o)
with_legal c o h g = record { live_fine = g.live_fine; versions_long = g.versions_long; versions_text = g.versions_text; load_legal = h }

-- a dropped load leaves a core that can be
pub drop_legal : (c : Core) → LegalCore c → LegalCore (with_load c none)
drop_legal c g = with_legal c none tt g

-- TLI
opened_legal : (p : List ℕ) (n : ℕ) → command_of p ≡ Tli n → LegalOpening (opened_for n (version_in p))
opened_legal p n e =
    let l = tli_long p n e in
    let d : length (drop 8 p) ≡ 10 = length-drop 8 p ∙ (let m : length p - 8 ≡ 10 = omega arith in m) in
    record {
      network_low = tli_network p n e;
      version_long = length-take-le 10 (drop 8 p) (omega arith);
      version_text = text_take 10 (drop 8 p) (tli_text p n e);
      kept_fine = none_fine n;
      answered = λ z. (refl, refl);
    }

-- TLR
fed_legal : (o : Opening) (block : List ℕ) → good_block block ≡ true → LegalOpening o → LegalOpening (fed o block)
unfolding fed
fed_legal none block e h = tt
fed_legal (some l) block e h = record {
  network_low = h.network_low;
  version_long = h.version_long;
  version_text = h.version_text;
  kept_fine = keep_fine l.network l.kept h.kept_fine block e;
  answered = λ z. absurd (true≢false z);
}

-- TLE
ended_legal : (c : Core) (o : Opening) → LegalOpening o → LegalCore c → LegalCore (ended c o)
unfolding ended
ended_legal c none h g = g
ended_legal c (some l) h g = cases (accepts c (some l)) refl
  where
    cases : (t : Bool) → accepts c (some l) ≡ t → LegalCore (cond t
        (record {
          records = new_set l.network c.records l.kept.records;
          versions = new_versions l.network (new_version l.any l.version) c.versions;
          load = none;
        })
        (with_load c none))
    cases true e =
        let v = version_new l.any l.version (record { ten = h.version_long; text = h.version_text }) in
        record {
          live_fine = new_fine c g.live_fine l h.kept_fine e;
          versions_long = versions_long l.network (new_version l.any l.version) c.versions v.ten g.versions_long;
          versions_text = versions_text l.network (new_version l.any l.version) c.versions v.text g.versions_text;
          load_legal = tt;
        }
    cases false e = drop_legal c g

execute_as_lem : (c : Core) (p : List ℕ) (d : Command) → command_of p ≡ d → LegalCore c → LegalCore (execute_as d c p)
execute_as_lem c p Opn e g = g
execute_as_lem c p (Gts n) e g = g
execute_as_lem c p GtsWrong e g = g
execute_as_lem c p (Tli n) e g = with_legal c (opened_for n (version_in p)) (opened_legal p n e) g
execute_as_lem c p TliWrong e g = g
execute_as_lem c p Tlr e g = with_legal c (fed c.load (block_in p)) (fed_legal c.load (block_in p) (tlr_block p e) g.load_legal) g
execute_as_lem c p TlrWrong e g = g
execute_as_lem c p Tle e g = ended_legal c c.load g.load_legal g
execute_as_lem c p Unknown e g = g

-- a command leaves a core that can be
pub execute_legal : (c : Core) (p : List ℕ) → LegalCore c → LegalCore (execute c p)
unfolding execute
execute_legal c p g = execute_as_lem c p (command_of p) refl g

-- ---- THE RESPONSES

or_true : (a b : Bool) → b ≡ true → (a || b) ≡ true
or_true true b e = refl
or_true false b e = e

version_response : (v : List ℕ) → length v ≡ 10 → all_text v ≡ true → is_response (ascii "GTS000010" ++ v) ≡ true
unfolding is_response gives_version starts
version_response v h e =
    let n : length (ascii "GTS000010" ++ v) ≡ 19 = length-append (ascii "GTS000010") v ∙ ap (λ (k : ℕ). 9 + k) h in
    or_true (one_of (ascii "GTS000010" ++ v) six_bytes) _ (rw (eq-eqb (length (ascii "GTS000010" ++ v)) 19 n, e) refl)

gts_good_lem : (n : ℕ) (versions : List ℕ) → n < 100 → length versions ≡ 1000 → all_text versions ≡ true → is_response (ascii "GTS000010" ++ version_of n versions) ≡ true
gts_good_lem n versions h l e =
    let d = length-drop (n * 10) versions in
    version_response (version_of n versions) (length-take-le 10 (drop (n * 10) versions) (omega arith)) (text_take 10 (drop (n * 10) versions) (text_drop (n * 10) versions e))

one_of_two : (t : Bool) (a b : List ℕ) → is_response a ≡ true → is_response b ≡ true → is_response (cond t a b) ≡ true
one_of_two true a b e f = e
one_of_two false a b e f = f

response_as : (p versions : List ℕ) (inLoad accepted : Bool) → length versions ≡ 1000 → all_text versions ≡ true → (d : Command) → command_of p ≡ d
    → is_response (response_to d p versions inLoad accepted) ≡ true
unfolding response_to is_response one_of same starts
response_as p v a b l t Opn e = refl
response_as p v a b l t (Gts n) e = gts_good_lem n v (gts_network p n e) l t
response_as p v a b l t GtsWrong e = refl
response_as p v a b l t (Tli n) e = one_of_two (same (version_in p) (version_of n v)) (ascii "TLI000") (ascii "TLI020") refl refl
response_as p v a b l t TliWrong e = refl
response_as p v a b l t Tlr e = one_of_two a (ascii "TLR000") (ascii "TLR010") refl refl
response_as p v a b l t TlrWrong e = one_of_two a (ascii "TLR011") (ascii "TLR010") refl refl
response_as p v a b l t Tle e =
    one_of_two a (cond b (ascii "TLE000") (ascii "TLE021")) (ascii "TLE010") (one_of_two b (ascii "TLE000") (ascii "TLE021") refl refl) refl
response_as p v a b l t Unknown e = refl

-- a response is one that the command table or ERR010 gives
pub response_good : (c : Core) (p : List ℕ) → LegalCore c → is_response (response_of c p) ≡ true
unfolding response_of
response_good c p g = response_as p c.versions (is_open c.load) (accepts c c.load) g.versions_long g.versions_text (command_of p) refl
