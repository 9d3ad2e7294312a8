-- What the definitions of loads and tables come to: nothing but a TLE changes what is live, and a load that passes a limit adds nothing.
use mathlib.Core.Path.{◌≡◌, refl, sym, ap, ◌∙◌}
use mathlib.Core.Bool.{false}
use mathlib.Core.List.{List, [], ◌∷◌, ◌++◌, append-nil, append_assoc}
use Prim.Native.Nat.{ℕ}
use Rattle.command.specs.declared.Command.{Command}
use Rattle.command.specs.declared.Command.TheVariants.{Opn, Gts, GtsWrong, Tli, TliWrong, Tlr, TlrWrong, Tle, Unknown}
use Rattle.command.specs.Command.{command_of}
use Rattle.history.specs.Ran.{Ran}
use Rattle.history.specs.Ran.Ran.{payload, restarted}
use Rattle.history.specs.Loads.{Load, Open, closed_by, closed_at, open_after, loads_from, loads_of, open_from, open_of}
use Rattle.history.specs.Loads.Open.{no_load}
use Rattle.history.specs.Tables.{Tables, within, loaded, tables_of}

-- the loads of two stretches of what ran
pub loads_append : (o : Open) (a b : List Ran) → loads_from o (a ++ b) ≡ loads_from o a ++ loads_from (open_from o a) b
unfolding loads_from open_from
loads_append o [] b = refl
loads_append o (r ∷ a) b =
    ap (λ (l : List Load). closed_at o r ++ l) (loads_append (open_after o r) a b)
    ∙ sym (append_assoc (closed_at o r) (loads_from (open_after o r) a) (loads_from (open_from (open_after o r) a) b))

one_more_lem : (rs : List Ran) (r : Ran) → closed_at (open_of rs) r ≡ [] → loads_of (rs ++ (r ∷ [])) ≡ loads_of rs
unfolding loads_from
one_more_lem rs r e = loads_append no_load rs (r ∷ []) ∙ ap (λ (l : List Load). loads_of rs ++ (l ++ [])) e ∙ append-nil (loads_of rs)

closes_none : (c : Command) (o : Open) → (c ≡ Tle → ⊥) → closed_by c o ≡ []
closes_none Opn o h = refl
closes_none (Gts n) o h = refl
closes_none GtsWrong o h = refl
closes_none (Tli n) o h = refl
closes_none TliWrong o h = refl
closes_none Tlr o h = refl
closes_none TlrWrong o h = refl
closes_none Tle o h = absurd (h refl)
closes_none Unknown o h = refl

-- ONLY TLE: a payload that is no TLE leaves tables and versions as they were
pub only_tle : (rs : List Ran) (p : List ℕ) → (command_of p ≡ Tle → ⊥) → tables_of (loads_of (rs ++ (payload p ∷ []))) ≡ tables_of (loads_of rs)
unfolding closed_at
only_tle rs p h = ap tables_of (one_more_lem rs (payload p) (closes_none (command_of p) (open_of rs) h))

-- a restart leaves them too, whatever load was open
pub restart_leaves : (rs : List Ran) → tables_of (loads_of (rs ++ (restarted ∷ []))) ≡ tables_of (loads_of rs)
unfolding closed_at
restart_leaves rs = ap tables_of (one_more_lem rs restarted refl)

-- and a load whose new set would pass a limit
pub over_leaves : (t : Tables) (l : Load) → within t l ≡ false → loaded t l ≡ t
unfolding loaded
over_leaves t l e = rw e refl
