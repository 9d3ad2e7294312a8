-- Small cases by computation of the definitions: what is a record, what a block, and what a sound store.
use mathlib.Core.Path.{refl}
use Rattle.answer.specs.Pieces.{pieces_from, rest_from, every}
use Rattle.records.specs.Record.{starts_record, record_in, found_in, good_block, takes}
use Rattle.records.specs.Store.{all_zero, sound_store}
use Rattle.records.specs.Claims.{RecordSamples, StoreSamples}

pub record_samples : RecordSamples
unfolding record_in starts_record found_in good_block pieces_from rest_from
record_samples = record { whole_record = refl; too_short = refl; bad_index = refl; cut_off = refl; found_whole = refl; found_none = refl; two_good = refl; three_told = refl; byte_left = refl }

pub store_samples : StoreSamples
unfolding sound_store record_in starts_record pieces_from rest_from every takes all_zero
store_samples = record { sound_live = refl; not_own = refl; rest_dirty = refl }
