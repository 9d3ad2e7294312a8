-- The core against loads and tables: what commands leave in it is what the loads that TLE closed give.
use mathlib.Core.Path.{◌≡◌, refl, sym, ap, ◌∙◌, subst}
use mathlib.Core.Bool.{Bool, true, false, not, ◌&&◌, ◌||◌, cond, and-false, false≢true}
use mathlib.Core.List.{List, [], ◌∷◌, ◌++◌, flatten, append_assoc, append-nil}
use Prim.Native.Nat.{ℕ, ◌+◌, ◌≤◌}
use native.Mathlib.Omega.{arith}
use lib.ListN.{length, length-append}
use lib.Dec.{leb}
use borrow.Author.Tests.{leb-false, lt-leb}
use Rattle.answer.proofs.Parts.{flatten_append}
use Rattle.records.specs.Record.{records_of}
use Rattle.records.specs.Store.{fits}
use Rattle.tables.specs.Loading.{taken, Kept, keep_one, keep_all}
use Rattle.tables.specs.Closing.{not_named, new_set, new_version, new_versions}
use Rattle.command.specs.declared.Command.{Command}
use Rattle.command.specs.declared.Command.TheVariants.{Opn, Gts, GtsWrong, Tli, TliWrong, Tlr, TlrWrong, Tle, Unknown}
use Rattle.command.specs.Command.{command_of}
use Rattle.execution.specs.CommandTable.{block_in, response_to}
use Rattle.execution.specs.Core.{Loading, Opening, Core, with_load, fresh_core}
use Rattle.execution.specs.Core.Opening.{none, some}
use Rattle.execution.specs.Execute.{fed, accepts, ended, execute_as, execute, is_open as isOpening, response_of}
use Rattle.history.specs.Ran.{Ran}
use Rattle.history.specs.Ran.Ran.{payload, restarted}
use Rattle.history.specs.Loads.{Load, Open, with_block, open_by, closing, closed_by, open_after, closed_at, loads_from, loads_of, open_from, open_of}
use Rattle.history.specs.Loads.Open.{no_load, load}
use Rattle.history.specs.Tables.{Tables, fresh_tables, within, loaded, tables_from, tables_of, would_close}
use Rattle.history.specs.Replies.{is_open, response_after}
use Rattle.history.specs.Claims.{perform, perform_all}

-- ---- the limits

-- what does not fit, does not fit with more
fits_less : (size : ℕ) (xs ys : List (List ℕ)) → length (flatten xs) ≤ length (flatten ys) → length xs ≤ length ys → fits size xs ≡ false → fits size ys ≡ false
unfolding fits
fits_less size xs ys h k = cases (leb (length (flatten xs)) size) refl
  where
    cases : (t : Bool) → leb (length (flatten xs)) size ≡ t → (t && leb (length xs) 512) ≡ false → (leb (length (flatten ys)) size && leb (length ys) 512) ≡ false
    cases true e f =
        let g = leb-false (length xs) 512 f in
        rw (lt-leb (length ys) 512 (omega arith)) (and-false (leb (length (flatten ys)) size))
    cases false e f =
        let g = leb-false (length (flatten xs)) size e in
        rw (lt-leb (length (flatten ys)) size (omega arith)) refl

append_bytes : (xs ys : List (List ℕ)) → length (flatten (xs ++ ys)) ≡ length (flatten xs) + length (flatten ys)
append_bytes xs ys = ap length (flatten_append xs ys) ∙ length-append (flatten xs) (flatten ys)

-- if records do not fit, no set that ends in them does
fits_before : (size : ℕ) (xs ys : List (List ℕ)) → fits size ys ≡ false → fits size (xs ++ ys) ≡ false
fits_before size xs ys = fits_less size ys (xs ++ ys) (rw (append_bytes xs ys) (omega arith)) (rw (length-append xs ys) (omega arith))

-- if records do not fit, no set that starts with them does
fits_after : (size : ℕ) (xs ys : List (List ℕ)) → fits size xs ≡ false → fits size (xs ++ ys) ≡ false
fits_after size xs ys = fits_less size xs (xs ++ ys) (rw (append_bytes xs ys) (omega arith)) (rw (length-append xs ys) (omega arith))

-- ---- what a load keeps

-- of all that a load took, either all is kept, or it is over and all does not fit
abbrev KeptAs : Bool → List (List ℕ) → List (List ℕ) → Type 0
KeptAs false kept all = kept ≡ all
KeptAs true kept all = fits 32768 all ≡ false

abbrev Keeps : Kept → List (List ℕ) → Type 0
Keeps k all = KeptAs k.over k.records all

keep_one_lem : (k : Kept) (all : List (List ℕ)) (r : List ℕ) → Keeps k all → Keeps (keep_one 32768 k r) (all ++ (r ∷ []))
unfolding keep_one
keep_one_lem k all r s = cases k.over (fits 32768 (k.records ++ (r ∷ []))) refl s
  where
    cases : (t u : Bool) → fits 32768 (k.records ++ (r ∷ [])) ≡ u → KeptAs t k.records all
        → Keeps (cond (t || not u) (record { records = k.records; over = true }) (record { records = k.records ++ (r ∷ []); over = false })) (all ++ (r ∷ []))
    cases true u f g = fits_after 32768 all (r ∷ []) g
    cases false true f g = ap (λ (x : List (List ℕ)). x ++ (r ∷ [])) g
    cases false false f g = rw g at f

keep_all_lem : (k : Kept) (all rs : List (List ℕ)) → Keeps k all → Keeps (keep_all 32768 k rs) (all ++ rs)
unfolding keep_all
keep_all_lem k all [] s = rw (append-nil all) s
keep_all_lem k all (r ∷ rs) s = rw append_assoc at (keep_all_lem (keep_one 32768 k r) (all ++ (r ∷ [])) rs (keep_one_lem k all r s))

-- ---- an open load, as the core keeps it and as what ran gives it

record Same (l : Loading) (k : Load) : Type 0 where
  network : l.network ≡ k.network
  version : l.version ≡ k.version
  any : l.any ≡ k.any
  records : Keeps l.kept k.records

abbrev Agree : Opening → Open → Type 0
Agree none no_load = Unit {0}
Agree none (load k) = ⊥
Agree (some l) no_load = ⊥
Agree (some l) (load k) = Same l k

open_agree : (q : Opening) (o : Open) → Agree q o → isOpening q ≡ is_open o
open_agree none no_load a = refl
open_agree none (load k) a = absurd a
open_agree (some l) no_load a = absurd a
open_agree (some l) (load k) a = refl

fed_agree : (q : Opening) (o : Open) (block : List ℕ) → Agree q o → Agree (fed q block) (with_block o block)
unfolding fed
fed_agree none no_load block a = tt
fed_agree none (load k) block a = absurd a
fed_agree (some l) no_load block a = absurd a
fed_agree (some l) (load k) block a = record {
  network = a.network;
  version = a.version;
  any = refl;
  records = ap_keeps a.network (keep_all_lem l.kept k.records (taken l.network (records_of block)) a.records);
}
  where
    ap_keeps : {n m : ℕ} → n ≡ m → Keeps (keep_all 32768 l.kept (taken l.network (records_of block))) (k.records ++ taken n (records_of block))
        → Keeps (keep_all 32768 l.kept (taken l.network (records_of block))) (k.records ++ taken m (records_of block))
    ap_keeps e = subst (λ (x : ℕ). Keeps (keep_all 32768 l.kept (taken l.network (records_of block))) (k.records ++ taken x (records_of block))) e

-- ---- a command

abbrev tables : Core → Tables
tables c = record { records = c.records; versions = c.versions }

-- TLE021 by what was kept is TLE021 by all that was taken
same_verdict : (c : Core) (l : Loading) (k : Load) → Same l k → accepts c (some l) ≡ within (tables c) k
unfolding accepts within new_set
same_verdict c l k s = cases l.kept.over s.records
  where
    cases : (t : Bool) → KeptAs t l.kept.records k.records
        → (not t && fits 32768 (not_named l.network c.records ++ l.kept.records)) ≡ fits 32768 (not_named k.network c.records ++ k.records)
    cases true g = sym (fits_before 32768 (not_named k.network c.records) k.records g)
    cases false g = rw (s.network, g) refl

accepts_agree : (c : Core) (q : Opening) (o : Open) → Agree q o → accepts c q ≡ would_close (tables c) o
unfolding accepts
accepts_agree c none no_load a = refl
accepts_agree c none (load k) a = absurd a
accepts_agree c (some l) no_load a = absurd a
accepts_agree c (some l) (load k) a = same_verdict c l k a

-- a load that is not over has kept all
kept_all : (c : Core) (l : Loading) (k : Load) → Same l k → accepts c (some l) ≡ true → l.kept.records ≡ k.records
unfolding accepts
kept_all c l k s = cases l.kept.over s.records
  where
    cases : (t : Bool) → KeptAs t l.kept.records k.records → (not t && fits 32768 (new_set l.network c.records l.kept.records)) ≡ true → l.kept.records ≡ k.records
    cases true g h = absurd (false≢true h)
    cases false g h = g

-- TLE leaves the tables of the load that it closes
ended_tables : (c : Core) (q : Opening) (o : Open) → Agree q o → tables (ended c q) ≡ tables_from (tables c) (closing o)
unfolding ended tables_from loaded
ended_tables c none no_load a = refl
ended_tables c none (load k) a = absurd a
ended_tables c (some l) no_load a = absurd a
ended_tables c (some l) (load k) a = cases (accepts c (some l)) refl
  where
    cases : (t : Bool) → accepts c (some l) ≡ t → tables (ended c (some l)) ≡ loaded (tables c) k
    cases true e = rw (e, sym (same_verdict c l k a) ∙ e, kept_all c l k a e, a.network, a.version, a.any) refl
    cases false e = rw (e, sym (same_verdict c l k a) ∙ e) refl

-- and no load
ended_load : (c : Core) (q : Opening) → c.load ≡ q → (ended c q).load ≡ none
unfolding ended
ended_load c none e = e
ended_load c (some l) e = cases (accepts c (some l))
  where
    cases : (t : Bool)
        → (cond {A = Core} t
        (record {
          records = new_set l.network c.records l.kept.records;
          versions = new_versions l.network (new_version l.any l.version) c.versions;
          load = none;
        })
        (with_load c none)).load
        ≡ none
    cases true = refl
    cases false = refl

one_tables : (c : Core) (o : Open) (d : Command) (p : List ℕ) → Agree c.load o → tables (execute_as d c p) ≡ tables_from (tables c) (closed_by d o)
unfolding tables_from
one_tables c o Opn p a = refl
one_tables c o (Gts n) p a = refl
one_tables c o GtsWrong p a = refl
one_tables c o (Tli n) p a = refl
one_tables c o TliWrong p a = refl
one_tables c o Tlr p a = refl
one_tables c o TlrWrong p a = refl
one_tables c o Tle p a = ended_tables c c.load o a
one_tables c o Unknown p a = refl

one_load : (c : Core) (o : Open) (d : Command) (p : List ℕ) → Agree c.load o → Agree (execute_as d c p).load (open_by d o p)
one_load c o Opn p a = a
one_load c o (Gts n) p a = a
one_load c o GtsWrong p a = a
one_load c o (Tli n) p a = record { network = refl; version = refl; any = refl; records = refl }
one_load c o TliWrong p a = a
one_load c o Tlr p a = fed_agree c.load o (block_in p) a
one_load c o TlrWrong p a = a
one_load c o Tle p a = rw (ended_load c c.load refl) tt
one_load c o Unknown p a = a

-- ---- all that ran

tables_append : (t : Tables) (ks ls : List Load) → tables_from t (ks ++ ls) ≡ tables_from (tables_from t ks) ls
unfolding tables_from
tables_append t [] ls = refl
tables_append t (k ∷ ks) ls = tables_append (loaded t k) ks ls

load_from : (c : Core) (o : Open) (rs : List Ran) → Agree c.load o → Agree (perform_all c rs).load (open_from o rs)
unfolding perform_all perform execute open_from open_after
load_from c o [] a = a
load_from c o (payload p ∷ rs) a = load_from (execute c p) (open_by (command_of p) o p) rs (one_load c o (command_of p) p a)
load_from c o (restarted ∷ rs) a = load_from (with_load c none) no_load rs tt

tables_from_lem : (c : Core) (o : Open) (rs : List Ran) → Agree c.load o → tables (perform_all c rs) ≡ tables_from (tables c) (loads_from o rs)
unfolding perform_all perform execute loads_from open_after closed_at tables_from
tables_from_lem c o [] a = refl
tables_from_lem c o (payload p ∷ rs) a =
    tables_from_lem (execute c p) (open_by (command_of p) o p) rs (one_load c o (command_of p) p a)
    ∙ ap (λ (t : Tables). tables_from t (loads_from (open_by (command_of p) o p) rs)) (one_tables c o (command_of p) p a)
    ∙ sym (tables_append (tables c) (closed_by (command_of p) o) (loads_from (open_by (command_of p) o p) rs))
tables_from_lem c o (restarted ∷ rs) a = tables_from_lem (with_load c none) no_load rs tt

module _ (rs : List Ran) where
  fresh_load : Agree (perform_all fresh_core rs).load (open_of rs)
  unfolding fresh_core
  fresh_load = load_from fresh_core no_load rs tt

  fresh_tables_lem : tables (perform_all fresh_core rs) ≡ tables_of (loads_of rs)
  unfolding fresh_core fresh_tables
  fresh_tables_lem = tables_from_lem fresh_core no_load rs tt

-- THE TABLES HOLD: after all that ran, the live records and the versions are those of the loads that TLE closed
pub tables_hold : (rs : List Ran) → ((perform_all fresh_core rs).records ≡ (tables_of (loads_of rs)).records) × ((perform_all fresh_core rs).versions ≡ (tables_of (loads_of rs)).versions)
tables_hold rs = (ap (λ (t : Tables). t.records) (fresh_tables_lem rs), ap (λ (t : Tables). t.versions) (fresh_tables_lem rs))

-- THE RESPONSE HOLDS: after all that ran, a payload is answered by the command table, for those tables and the load that is open
pub response_hold : (rs : List Ran) (p : List ℕ) → response_of (perform_all fresh_core rs) p ≡ response_after rs p
unfolding response_of response_after
response_hold rs p =
    let c = perform_all fresh_core rs in
    let v = (tables_hold rs).1 in
    let o = open_agree c.load (open_of rs) (fresh_load rs) in
    let w : accepts c c.load ≡ would_close (tables_of (loads_of rs)) (open_of rs) =
    accepts_agree c c.load (open_of rs) (fresh_load rs) ∙ ap (λ (t : Tables). would_close t (open_of rs)) (fresh_tables_lem rs) in
    λ i. response_to (command_of p) p (v i) (o i) (w i)
