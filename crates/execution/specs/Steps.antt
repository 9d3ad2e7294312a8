-- What the private functions come to. No public promise cites it, and no reader has to believe it.
use Rattle.std.specs.Prelude.{◌≡◌, cond, List, ℕ}
use Rattle.execution.specs.declared.Tables.{Tables}
use Rattle.command.specs.Texts.{ascii}
use Rattle.execution.specs.Stored.{Stored}
use Rattle.execution.specs.Promise.{Executed, accepted_in, ended_in, response_with}

-- the struct after a command, and its response
abbrev pub executed_of : Tables → List ℕ → Executed
executed_of tables response = record { tables = tables; response = response_with response }

-- a command that touches the loading store alone
pub record Leaves (tables : Tables) (response loading : List ℕ) (r : Executed) (loading' : List ℕ) : Type 0 where
  pub is : r ≡ executed_of tables response
  pub store : loading' ≡ loading

-- TLE, with a load open or not
abbrev pub after_tle : Stored → Stored
after_tle s = cond s.tables.load.opened (ended_in s) s

abbrev pub tle_response : Stored → List ℕ
tle_response s = cond s.tables.load.opened (cond (accepted_in s) (ascii "TLE000") (ascii "TLE021")) (ascii "TLE010")

pub record Ends (s : Stored) (r : Executed) (live' loading' : List ℕ) : Type 0 where
  pub is : r ≡ executed_of (after_tle s).tables (tle_response s)
  pub live_is : live' ≡ (after_tle s).live
  pub store : loading' ≡ (after_tle s).loading
