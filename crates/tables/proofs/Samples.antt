-- Small cases by computation of the definitions: what a load takes, what it keeps, and what it leaves when it closes.
use mathlib.Core.Path.{refl}
use mathlib.Core.List.{flatten}
use Rattle.records.specs.Record.{takes}
use Rattle.records.specs.Store.{fits}
use Rattle.tables.specs.Loading.{taken, keep_one, keep_all}
use Rattle.tables.specs.Closing.{not_named, new_set}
use Rattle.tables.specs.Claims.{LoadSamples}

pub load_samples : LoadSamples
unfolding takes taken fits keep_one keep_all new_set not_named flatten
load_samples = record { own_taken = refl; third_over = refl; new_set_lem = refl }
